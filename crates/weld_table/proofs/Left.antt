-- Records that are left: how one is taken.
use Rattle.std.proofs.Common.{◌≡◌, ◌<◌, ◌≤◌, ◌∙◌, sym, ap, subst, refl, inl, inr, ℕ, Bool, true, false, List, [], ◌∷◌, ◌++◌, length, Option, Some, None, Bor, arith, cond, ◌==◌, ◌&&◌, suc, zero}
use Rattle.csv.specs.declared.reader.Reader.{Reader}
use Rattle.csv.specs.declared.parser.State.{State}
use Rattle.csv.specs.declared.parser.State.TheVariants as states
use Rattle.csv.specs.declared.parser.Config.{Config}
use Rattle.csv.specs.declared.parser.Action.{Action}
use Rattle.csv.specs.declared.parser.Action.TheVariants as acts
use Rattle.csv.specs.declared.parser.Terminator.TheVariants as term
use Rattle.csv.specs.Machine.{Read, next_record, step, start_record, start_field, in_field, ends_with, is_end, fields_after, field_after, ends_at_end}
use Rattle.csv.specs.Reading.{default_config, records_from, records_next, Reached, ReadRecord, took_first}
use Rattle.csv.proofs.ReadFacts.{rows-more, rows-end}
use Rattle.weld_table.specs.Table.{Row}
use Rattle.weld_table.specs.Rows.{bytes_of, count_of, IsBetween, Leaves, Takes}

some_is : {A : Type 0} (x y : A) → Some x ≡ Some y → x ≡ y
some_is x y h = cc h

-- ---- a record that is read takes a byte at least

end_longer : (b : Bool) (q p : Read) → q.2 ≡ [] → cond b (Some q) None ≡ Some p → length p.2 ≤ 0
end_longer true q p e h = let same : q ≡ p = cc h in rw (← same, e) (omega arith)
end_longer false q p e h = cc h

step_longer : (b : Bool) (q p : Read) (o : Option Read) (rest : List ℕ) → q.2 ≡ rest → (o ≡ Some p → length p.2 ≤ length rest)
    → cond b (Some q) o ≡ Some p → length p.2 ≤ length rest
step_longer true q p o rest e f h = let same : q ≡ p = cc h in rw (← same, e) (omega arith)
step_longer false q p o rest e f h = f h

no_longer : (cfg : Config) (s : State) (fields : List (List ℕ)) (field xs : List ℕ) (p : Read) → next_record cfg s fields field xs ≡ Some p
    → length p.2 ≤ length xs
unfolding next_record
no_longer cfg s fields field [] p h = end_longer (ends_at_end s) (fields ++ (field ∷ []), states.StartRecord, []) p refl h
no_longer cfg s fields field (c ∷ rest) p h =
    let less : length p.2 ≤ length rest =
    step_longer (is_end (step cfg s c).1) (fields_after (step cfg s c).1 fields field, (step cfg s c).0, rest) p
    (next_record cfg (step cfg s c).0 (fields_after (step cfg s c).1 fields field) (field_after (step cfg s c).1 c field) rest) rest refl
    (λ g. no_longer cfg (step cfg s c).0 (fields_after (step cfg s c).1 fields field) (field_after (step cfg s c).1 c field) rest p g) h in
    omega arith

taken : (cfg : Config) (s : State) (fields : List (List ℕ)) (field : List ℕ) (c : ℕ) (rest : List ℕ) (p : Read)
    → next_record cfg s fields field (c ∷ rest) ≡ Some p → length p.2 ≤ length rest
unfolding next_record
taken cfg s fields field c rest p h =
    step_longer (is_end (step cfg s c).1) (fields_after (step cfg s c).1 fields field, (step cfg s c).0, rest) p
    (next_record cfg (step cfg s c).0 (fields_after (step cfg s c).1 fields field) (field_after (step cfg s c).1 c field) rest) rest refl
    (λ g. no_longer cfg (step cfg s c).0 (fields_after (step cfg s c).1 fields field) (field_after (step cfg s c).1 c field) rest p g) h

-- between two records none is left at the end of the bytes
none_at_end : (s : State) → IsBetween s → (fields : List (List ℕ)) (field : List ℕ) → next_record default_config s fields field [] ≡ None
unfolding next_record
none_at_end s (inl h) fields field = rw h refl
none_at_end s (inr h) fields field = rw h refl

none_is : {A : Type 0} (o : Option A) (x : A) → o ≡ None → o ≡ Some x → ⊥
none_is o x e h = cc (e, h)

pub falls : (s : State) → IsBetween s → (xs : List ℕ) (p : Read) → next_record default_config s [] [] xs ≡ Some p → length p.2 < length xs
falls s b [] p h = absurd (none_is _ p (none_at_end s b [] []) h)
falls s b (c ∷ rest) p h = let less = taken default_config s [] [] c rest p h in omega arith

-- ---- behind a record the reader stands between two

either : (b : Bool) (x y : State × Action) → (is_end x.1 ≡ true → IsBetween x.0) → (is_end y.1 ≡ true → IsBetween y.0)
    → is_end (cond b x y).1 ≡ true → IsBetween (cond b x y).0
either true x y f g h = f h
either false x y f g h = g h

terminated : (b : Bool) → IsBetween (cond b states.AfterCr states.StartRecord)
terminated true = inr refl
terminated false = inl refl

never : (s : State) → false ≡ true → IsBetween s
never s h = cc h

field_ends : (c : ℕ) → is_end (in_field default_config c).1 ≡ true → IsBetween (in_field default_config c).0
field_ends c h =
    either (c == 44) (states.StartField, acts.EndField) _ (never states.StartField)
    (either (ends_with term.CRLF c) (cond (c == 13) states.AfterCr states.StartRecord, acts.EndRecord) (states.InField, acts.Copy)
    (λ e. terminated (c == 13)) (never states.InField)) h

start_ends : (c : ℕ) → is_end (start_field default_config c).1 ≡ true → IsBetween (start_field default_config c).0
start_ends c h = either (true && (c == 34)) (states.InQuoted, acts.Skip) (in_field default_config c) (never states.InQuoted) (field_ends c) h

record_ends : (c : ℕ) → is_end (start_record default_config c).1 ≡ true → IsBetween (start_record default_config c).0
record_ends c h = either (ends_with term.CRLF c) (states.StartRecord, acts.Skip) (start_field default_config c) (never states.StartRecord) (start_ends c) h

step_ends : (s : State) (c : ℕ) → is_end (step default_config s c).1 ≡ true → IsBetween (step default_config s c).0
step_ends states.StartRecord c h = record_ends c h
step_ends states.StartField c h = start_ends c h
step_ends states.InField c h = field_ends c h
step_ends states.InQuoted c h = either (true && (c == 34)) (states.AfterQuote, acts.Skip) (states.InQuoted, acts.Copy) (never states.AfterQuote) (never states.InQuoted) h
step_ends states.InEscape c h = never states.InQuoted h
step_ends states.AfterQuote c h = either (true && (true && (c == 34))) (states.InQuoted, acts.Copy) (in_field default_config c) (never states.InQuoted) (field_ends c) h
step_ends states.InComment c h = either (c == 10) (states.StartRecord, acts.Skip) (states.InComment, acts.Skip) (never states.StartRecord) (never states.InComment) h
step_ends states.AfterCr c h = either (c == 10) (states.StartRecord, acts.Skip) (start_record default_config c) (never states.StartRecord) (record_ends c) h

end_between : (b : Bool) (q p : Read) → q.1 ≡ states.StartRecord → cond b (Some q) None ≡ Some p → IsBetween p.1
end_between true q p e h = let same : q ≡ p = cc h in inl (rw (← same) e)
end_between false q p e h = cc h

step_between : (b : Bool) (q p : Read) (o : Option Read) → (b ≡ true → IsBetween q.1) → (o ≡ Some p → IsBetween p.1)
    → cond b (Some q) o ≡ Some p → IsBetween p.1
step_between true q p o e f h = let same : q ≡ p = cc h in subst (λ (r : Read). IsBetween r.1) same (e refl)
step_between false q p o e f h = f h

pub between : (s : State) (fields : List (List ℕ)) (field xs : List ℕ) (p : Read) → next_record default_config s fields field xs ≡ Some p → IsBetween p.1
unfolding next_record
between s fields field [] p h = end_between (ends_at_end s) (fields ++ (field ∷ []), states.StartRecord, []) p refl h
between s fields field (c ∷ rest) p h =
    step_between (is_end (step default_config s c).1) (fields_after (step default_config s c).1 fields field, (step default_config s c).0, rest) p
    (next_record default_config (step default_config s c).0 (fields_after (step default_config s c).1 fields field) (field_after (step default_config s c).1 c field) rest)
    (step_ends s c)
    (λ g. between (step default_config s c).0 (fields_after (step default_config s c).1 fields field) (field_after (step default_config s c).1 c field) rest p g) h

-- ---- one record more

abbrev remaining : Bor (List ℕ) → Option (List ℕ)
remaining s = Some s.now

next_of : (turns : ℕ) (s : State) (xs : List ℕ) (p : Read) (rows : List Row) → length xs < turns → rows ≡ records_from default_config turns s xs
    → next_record default_config s [] [] xs ≡ Some p
    → (n : ℕ) × (turns ≡ suc n) × (rows ≡ p.0 ∷ records_from default_config n p.1 p.2)
unfolding records_from
next_of zero s xs p rows less e h = absurd (omega (arith, less))
next_of (suc n) s xs p rows less e h = (n, refl, e ∙ ap (records_next (records_from default_config n)) h)

none_of : (turns : ℕ) (s : State) (xs : List ℕ) (rows : List Row) → length xs < turns → rows ≡ records_from default_config turns s xs
    → next_record default_config s [] [] xs ≡ None → rows ≡ []
unfolding records_from
none_of zero s xs rows less e h = absurd (omega (arith, less))
none_of (suc n) s xs rows less e h = e ∙ ap (records_next (records_from default_config n)) h

same_rows : (n : ℕ) (s t : State) (xs ys : List ℕ) → s ≡ t → xs ≡ ys → records_from default_config n s xs ≡ records_from default_config n t ys
same_rows n s t xs ys e f = rw (e, f) refl

-- a reader that took a record
abbrev IsTaken : Reader (Bor (List ℕ)) → Reader (Bor (List ℕ)) → Row → List Row → Type 0
IsTaken a b f rows = (more : List Row) × (rows ≡ f ∷ more) × Leaves b more × (count_of (bytes_of b) < count_of (bytes_of a))

takes_one : (a b : Reader (Bor (List ℕ))) (f : Row) (rows : List Row) → Leaves a rows → ReadRecord remaining a b true f → took_first b ≡ true
    → IsTaken a b f rows
unfolding Reached
takes_one a b f rows l r took =
    let m = rows-more remaining a b f default_config a.state l.bytes l.bytes [] l.config l.source (refl, refl) r in
    let p = m.2.0 in
    let n = next_of l.turns a.state l.bytes p rows l.enough l.rows_are m.2.1 in
    let fell : length p.2 < length l.bytes = falls a.state l.between l.bytes p m.2.1 in
    let state : p.1 ≡ b.state = m.2.3.0 in
    let rest : p.2 ≡ m.0 = m.2.3.1 in
    let left : length m.0 < length l.bytes = rw (← rest) fell in
    let enough : length m.0 < n.0 = omega (arith, left, l.enough, n.1) in (
      records_from default_config n.0 p.1 p.2,
      n.2 ∙ ap (λ (x : Row). x ∷ records_from default_config n.0 p.1 p.2) (sym m.2.2),
      record {
        trim = r.3 ∙ l.trim;
        ready = inl took;
        config = r.2 ∙ l.config;
        between = subst IsBetween state (between a.state [] [] l.bytes p m.2.1);
        bytes = m.0;
        source = m.1;
        turns = n.0;
        enough = enough;
        rows_are = same_rows n.0 p.1 b.state p.2 m.0 state rest;
      },
      rw (m.1, l.source) left,
    )

takes_none : (a b : Reader (Bor (List ℕ))) (f : Row) (rows : List Row) → Leaves a rows → ReadRecord remaining a b false f → rows ≡ []
takes_none a b f rows l r =
    none_of l.turns a.state l.bytes rows l.enough l.rows_are (rows-end remaining a b f default_config l.bytes l.config l.source r)

-- what a read of a record takes
pub takes : (found : Bool) (a b : Reader (Bor (List ℕ))) (f : Row) (rows : List Row) → Leaves a rows → ReadRecord remaining a b found f
    → took_first b ≡ true → Takes found f rows (Leaves b)
takes true a b f rows l r took = let m = takes_one a b f rows l r took in (m.0, m.1, m.2)
takes false a b f rows l r took = takes_none a b f rows l r

pub fewer : (found : Bool) (a b : Reader (Bor (List ℕ))) (f : Row) (rows : List Row) → Leaves a rows → ReadRecord remaining a b found f
    → took_first b ≡ true → found ≡ true → count_of (bytes_of b) < count_of (bytes_of a)
fewer true a b f rows l r took e = (takes_one a b f rows l r took).3
fewer false a b f rows l r took e = cc e
