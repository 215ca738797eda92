-- In a linear program each builder is used once on each control path.
use Rattle.std.proofs.Common.{◌≡◌, ℕ, zero, suc, ◌==◌, Bool, true, false, ◌&&◌, ◌||◌, if◌then◌else◌, [], ◌∷◌, ◌+◌, Option, Some, None, option_map, refl, ap, sym, subst, ◌∙◌, inl, inr, eqb-true, eq-eqb, ne_eqb, arith}
use Rattle.weld_tree.specs.ExprTree.{ExprTree, leaf, one, two, three, many, let_in, loop, iterate, ExprTrees, no_exprs, more_exprs, LegTree, whole, strided, LegTrees, no_legs, more_legs, int, truth, chars, name, fresh, neg, not as not_of, cast, len, field, finish, started, Two, binary, and, or, look_up, key_exists, merge, Three, if_else, select, slice}
use Rattle.weld_meaning.specs.Environment.{Named}
use Rattle.weld_meaning.specs.Origin.{Path, Origin, value, made, own, outer, named, struct, Origins, no_origins, more_origins, origin_at, origin_of_name, origin, own_below, own_fields, own_paths, from_within, all_from_within, outside, in_body, in_turn}
use Rattle.weld_meaning.specs.Linear.{IsSeen, AreSeen, Keeps, AllKeep, LegKeeps, LegsKeep}
use Rattle.weld_meaning.specs.Available.{field_within, at_path, is_builder, is_builder_path, is_below, chain_of_leaf, chain_of_one, chain_of, chain_takes, takes, some_take, leg_takes, legs_take, Taken, TakesAll, TwoSplits, ThreeSplits, Splits, AllSplit, LegSplits, LegsSplit}
use Rattle.weld_linear.specs.Uses.{Uses, Both, Either, NoUse, Turns, AnyTurns, Behind, times, ChainUses, TwoUse, ThreeUse, ExprUses, ExprsUse, LegUses, LegsUse, UsedOnce, AnswersOwn, EachOnce, AllOnce, LegOnce, LegsOnce}

clash : {A : Type 0} {b : Bool} → b ≡ true → b ≡ false → A
clash p q = let no : ⊥ = cc in absurd no

and_true : (a b : Bool) → (a && b) ≡ true → (a ≡ true) × (b ≡ true)
and_true true b e = (refl, e)
and_true false b e = clash e refl

unless_true : (a : Bool) → (a ≡ true → ⊥) → a ≡ false
unless_true true h = absurd (h refl)
unless_true false h = refl

either : {A : Type 0} (a b : Bool) → (a || b) ≡ true → (a ≡ true → A) → (b ≡ true → A) → A
either true b e f g = f refl
either false b e f g = g e

not_either : (a b : Bool) → (a ≡ true → ⊥) → (b ≡ true → ⊥) → (a || b) ≡ true → ⊥
not_either a b f g e = either a b e f g

-- ---- a lambda's own builders

-- the field of a lambda's own builders is the own builder of the field
field_own_at : (n k : ℕ) (p : Path) (os : Origins) → origin_at n (own_fields k p os) ≡ own_below ((k + n) ∷ p) (origin_at n os)
field_own_at n k p no_origins = refl
field_own_at zero k p (more_origins o os) =
    let e : k ≡ (k + zero) = omega arith in
    ap (λ m. own_below (m ∷ p) o) e
field_own_at (suc n) k p (more_origins o os) =
    let e : (suc k + n) ≡ (k + suc n) = omega arith in
    field_own_at n (suc k) p os ∙ ap (λ m. own_below (m ∷ p) (origin_at n os)) e

field_own : (n : ℕ) (p : Path) (o : Origin) → field_within n (own_below p o) ≡ own_below (n ∷ p) (field_within n o)
field_own n p value = refl
field_own n p made = refl
field_own n p (own q) = refl
field_own n p outer = refl
field_own n p (named s q) = refl
field_own n p (struct os) =
    let e : (zero + n) ≡ n = omega arith in
    field_own_at n zero p os ∙ ap (λ m. own_below (m ∷ p) (origin_at n os)) e

own_at : (q : Path) (o : Origin) → at_path q (own_paths o) ≡ own_below q (at_path q o)
own_at [] o = refl
own_at (n ∷ q) o = ap (field_within n) (own_at q o) ∙ field_own n q (at_path q o)

own_of_builder : (q : Path) (o : Origin) → is_builder o ≡ true → own_below q o ≡ own q
own_of_builder q value e = clash e refl
own_of_builder q made e = refl
own_of_builder q (own p) e = refl
own_of_builder q outer e = refl
own_of_builder q (named s p) e = refl
own_of_builder q (struct os) e = clash e refl

-- ---- no builder of outside is taken within a lambda

-- no builder stands in it
abbrev mutual
  HasNone : Origin → Type 0
  HasNone value = Unit {0}
  HasNone made = ⊥
  HasNone (own p) = ⊥
  HasNone outer = ⊥
  HasNone (named s p) = ⊥
  HasNone (struct os) = HaveNone os

  HaveNone : Origins → Type 0
  HaveNone no_origins = Unit {0}
  HaveNone (more_origins o os) = HasNone o × HaveNone os

mutual
  none_seen : (o : Origin) → IsSeen (from_within o) → HasNone (from_within o)
  none_seen value h = tt
  none_seen made h = h
  none_seen (own p) h = h
  none_seen outer h = h
  none_seen (named s p) h = h
  none_seen (struct os) h = all_none_seen os h

  all_none_seen : (os : Origins) → AreSeen (all_from_within os) → HaveNone (all_from_within os)
  all_none_seen no_origins h = tt
  all_none_seen (more_origins o os) h = (none_seen o h.0, all_none_seen os h.1)

none_in_fields : (n : ℕ) (os : Origins) → HaveNone os → HasNone (origin_at n os)
none_in_fields n no_origins h = tt
none_in_fields zero (more_origins o os) h = h.0
none_in_fields (suc n) (more_origins o os) h = none_in_fields n os h.1

none_in_field : (n : ℕ) (o : Origin) → HasNone o → HasNone (field_within n o)
none_in_field n value h = tt
none_in_field n made h = tt
none_in_field n (own p) h = tt
none_in_field n outer h = tt
none_in_field n (named s p) h = tt
none_in_field n (struct os) h = none_in_fields n os h

none_at : (q : Path) (o : Origin) → HasNone o → HasNone (at_path q o)
none_at [] o h = h
none_at (n ∷ q) o h = none_in_field n (at_path q o) (none_at q o h)

none_is_no_builder : (o : Origin) → HasNone o → is_builder o ≡ true → ⊥
none_is_no_builder value h e = clash e refl
none_is_no_builder made h e = h
none_is_no_builder (own p) h e = h
none_is_no_builder outer h e = h
none_is_no_builder (named s p) h e = h
none_is_no_builder (struct os) h e = clash e refl

-- what an expression takes is a builder and is seen
record Known (g : Named Origin) (s : ℕ) (q : Path) : Type 0 where
  builder : is_builder_path (origin_of_name s g) q ≡ true
  seen : IsSeen (origin_of_name s g)

-- outside of a lambda there is no such builder
unknown_outside : (g : Named Origin) (s : ℕ) (q : Path) → Known (outside g) s q → ⊥
unknown_outside [] s q k = none_is_no_builder (at_path q value) (none_at q value tt) k.builder
unknown_outside (e ∷ g) s q k = by (s == e.0) refl (unknown_outside g s q)
  where
    by : (c : Bool) → (s == e.0) ≡ c → (Known (outside g) s q → ⊥) → ⊥
    by true p rest =
        let here : origin_of_name s (outside (e ∷ g)) ≡ from_within e.1 = rw p refl in
        let none : HasNone (from_within e.1) = none_seen e.1 (subst IsSeen here k.seen) in
        none_is_no_builder (at_path q (from_within e.1)) (none_at q (from_within e.1) none) (subst (λ o. is_builder_path o q ≡ true) here k.builder)
    by false p rest =
        let there : origin_of_name s (outside (e ∷ g)) ≡ origin_of_name s (outside g) = rw p refl in
        rest (record { builder = subst (λ o. is_builder_path o q ≡ true) there k.builder; seen = subst IsSeen there k.seen })

known_behind : (s b : ℕ) (o : Origin) (g : Named Origin) (q : Path) → (s ≡ b → ⊥) → Known ((b, o) ∷ g) s q → Known g s q
known_behind s b o g q ne k =
    let same : origin_of_name s ((b, o) ∷ g) ≡ origin_of_name s g = rw (ne_eqb s b ne) refl in
    record { builder = subst (λ r. is_builder_path r q ≡ true) same k.builder; seen = subst IsSeen same k.seen }

some_first : (d : ℕ × Path) (p : Path) (c : ℕ × Path) → ◌≡◌ {A = Option (ℕ × Path)} (Some (d.0, p)) (Some c) → d.0 ≡ c.0
some_first d p c e = ap (first_name d.0) e
  where
    first_name : ℕ → Option (ℕ × Path) → ℕ
    first_name s (Some x) = x.0
    first_name s None = s

chain_seen : (e : ExprTree) (c : ℕ × Path) (g : Named Origin) → chain_of e ≡ Some c → Keeps e g → IsSeen (origin_of_name c.0 g)
chain_seen (leaf a (int k x)) c g e h = let no : ⊥ = cc in absurd no
chain_seen (leaf a (truth b)) c g e h = let no : ⊥ = cc in absurd no
chain_seen (leaf a (chars bs)) c g e h = let no : ⊥ = cc in absurd no
chain_seen (leaf a (name s)) c g e h = subst (λ t. IsSeen (origin_of_name t g)) (some_first (s, []) [] c e) h
chain_seen (leaf a (fresh b)) c g e h = let no : ⊥ = cc in absurd no
chain_seen (one a neg f) c g e h = let no : ⊥ = cc in absurd no
chain_seen (one a not_of f) c g e h = let no : ⊥ = cc in absurd no
chain_seen (one a (cast k) f) c g e h = let no : ⊥ = cc in absurd no
chain_seen (one a len f) c g e h = let no : ⊥ = cc in absurd no
chain_seen (one a (field n) f) c g e h = by (chain_of f) refl (λ d p. chain_seen f d g p h.0) e
  where
    by : (m : Option (ℕ × Path)) → chain_of f ≡ m → ((d : ℕ × Path) → chain_of f ≡ Some d → IsSeen (origin_of_name d.0 g)) → option_map (λ (d : ℕ × Path). (d.0, n ∷ d.1)) m ≡ Some c → IsSeen (origin_of_name c.0 g)
    by (Some d) p k r = subst (λ t. IsSeen (origin_of_name t g)) (some_first d (n ∷ d.1) c r) (k d p)
    by None p k r = let no : ⊥ = cc in absurd no
chain_seen (one a finish f) c g e h = let no : ⊥ = cc in absurd no
chain_seen (one a (started b) f) c g e h = let no : ⊥ = cc in absurd no
chain_seen (two a o e f) c g p h = let no : ⊥ = cc in absurd no
chain_seen (three a o d e f) c g p h = let no : ⊥ = cc in absurd no
chain_seen (many a o es) c g p h = let no : ⊥ = cc in absurd no
chain_seen (let_in a b e f) c g p h = let no : ⊥ = cc in absurd no
chain_seen (loop a ls e b n x f) c g p h = let no : ⊥ = cc in absurd no
chain_seen (iterate a e b f) c g p h = let no : ⊥ = cc in absurd no

chain_known : (c : ℕ × Path) (g : Named Origin) (s : ℕ) (q : Path) (part : Bool) → IsSeen (origin_of_name c.0 g) → chain_takes (Some c) g s q part ≡ true → Known g s q
chain_known c g s q part seen t =
    let u = and_true (c.0 == s) _ t in
    let v = and_true (is_below c.1 q) _ u.1 in
    let same : c.0 ≡ s = eqb-true c.0 s u.0 in
    record { builder = v.1; seen = subst (λ x. IsSeen (origin_of_name x g)) same seen }

without_true : (b s : ℕ) (x : Bool) → (if b == s then false else x) ≡ true → (s ≡ b → ⊥) × (x ≡ true)
without_true b s x e = by (b == s) refl e
  where
    by : (c : Bool) → (b == s) ≡ c → (if c then false else x) ≡ true → (s ≡ b → ⊥) × (x ≡ true)
    by true p r = clash r refl
    by false p r = (λ q. clash (eq-eqb b s (sym q)) p, r)

mutual
  takes_known : (e : ExprTree) (g : Named Origin) (s : ℕ) (q : Path) → Keeps e g → takes e g s q ≡ true → Known g s q
  takes_known (leaf a (int k x)) g s q h t = clash t refl
  takes_known (leaf a (truth b)) g s q h t = clash t refl
  takes_known (leaf a (chars bs)) g s q h t = clash t refl
  takes_known (leaf a (name x)) g s q h t = chain_known (x, []) g s q false h t
  takes_known (leaf a (fresh b)) g s q h t = clash t refl
  takes_known (one a neg e) g s q h t = takes_known e g s q h.0 t
  takes_known (one a not_of e) g s q h t = takes_known e g s q h.0 t
  takes_known (one a (cast k) e) g s q h t = takes_known e g s q h.0 t
  takes_known (one a len e) g s q h t = takes_known e g s q h.0 t
  takes_known (one a (field n) e) g s q h t = by (chain_of e) refl (takes_known e g s q h.0) t
    where
      by : (m : Option (ℕ × Path)) → chain_of e ≡ m → (takes e g s q ≡ true → Known g s q) → chain_takes (option_map (λ (d : ℕ × Path). (d.0, n ∷ d.1)) m) g s q (takes e g s q) ≡ true → Known g s q
      by (Some c) p k t = chain_known (c.0, n ∷ c.1) g s q (takes e g s q) (chain_seen e c g p h.0) t
      by None p k t = k t
  takes_known (one a finish e) g s q h t = takes_known e g s q h.0 t
  takes_known (one a (started b) e) g s q h t = takes_known e g s q h.0 t
  takes_known (two a o e f) g s q h t =
      either (takes e g s q) (takes f g s q) t (takes_known e g s q h.0) (takes_known f g s q h.1)
  takes_known (three a o c e f) g s q h t =
      either (takes c g s q) (takes e g s q || takes f g s q) t (takes_known c g s q h.0)
      (λ u. either (takes e g s q) (takes f g s q) u (takes_known e g s q h.1) (takes_known f g s q h.2))
  takes_known (many a o es) g s q h t = some_known es g s q h t
  takes_known (let_in a b e f) g s q h t =
      either (takes e g s q) _ t (takes_known e g s q h.0)
      (λ u. let w = without_true b.sym.0 s _ u in known_behind s b.sym.0 (origin e g) g q w.0 (takes_known f _ s q h.1 w.1))
  takes_known (loop a ls e b n x f) g s q h t =
      either (legs_take ls g s q) (takes e g s q) t (legs_known ls g s q h.0) (takes_known e g s q h.1)
  takes_known (iterate a e b f) g s q h t = takes_known e g s q h.0 t

  some_known : (es : ExprTrees) (g : Named Origin) (s : ℕ) (q : Path) → AllKeep es g → some_take es g s q ≡ true → Known g s q
  some_known no_exprs g s q h t = clash t refl
  some_known (more_exprs e es) g s q h t =
      either (takes e g s q) (some_take es g s q) t (takes_known e g s q h.0) (some_known es g s q h.1)

  leg_known : (l : LegTree) (g : Named Origin) (s : ℕ) (q : Path) → LegKeeps l g → leg_takes l g s q ≡ true → Known g s q
  leg_known (whole e) g s q h t = takes_known e g s q h t
  leg_known (strided e f k i) g s q h t =
      either (takes e g s q) _ t (takes_known e g s q h.0)
      (λ u. either (takes f g s q) _ u (takes_known f g s q h.1) (λ v. either (takes k g s q) (takes i g s q) v (takes_known k g s q h.2) (takes_known i g s q h.3)))

  legs_known : (ls : LegTrees) (g : Named Origin) (s : ℕ) (q : Path) → LegsKeep ls g → legs_take ls g s q ≡ true → Known g s q
  legs_known no_legs g s q h t = clash t refl
  legs_known (more_legs l ls) g s q h t =
      either (leg_takes l g s q) (legs_take ls g s q) t (leg_known l g s q h.0) (legs_known ls g s q h.1)

-- ---- numbers of uses

-- each number of uses is that of the truth value
abbrev Says : Uses → Bool → Type 0
Says part a = (n : ℕ) → part n → n ≡ times a

plus : (a b : Bool) → (a ≡ true → b ≡ true → ⊥) → times a + times b ≡ times (a || b)
plus true true d = absurd (d refl refl)
plus true false d = refl
plus false true d = refl
plus false false d = refl

both_say : (first second : Uses) (a b : Bool) → (a ≡ true → b ≡ true → ⊥) → Says first a → Says second b → Says (Both first second) (a || b)
both_say first second a b d f g n u = u.4 ∙ (λ i. f u.0 u.2 i + g u.1 u.3 i) ∙ plus a b d

turns_say : (body : Uses) → Says body false → (k n : ℕ) → Turns body k n → n ≡ 0
turns_say body f zero n u = u
turns_say body f (suc k) n u = u.4 ∙ (λ i. f u.0 u.2 i + turns_say body f k u.1 u.3 i)

any_turns_say : (body : Uses) → Says body false → Says (AnyTurns body) false
any_turns_say body f n u = turns_say body f u.0 n u.1

or_nothing : (a : Bool) → (a || false) ≡ a
or_nothing true = refl
or_nothing false = refl

-- what uses nothing more in turns
with_turns : (first body : Uses) (a : Bool) → Says first a → Says body false → Says (Both first (AnyTurns body)) a
with_turns first body a f g n u = both_say first (AnyTurns body) a false (λ p r. clash r refl) f (any_turns_say body g) n u ∙ ap times (or_nothing a)

behind_says : (c : Bool) (part : Uses) (a : Bool) → Says part a → Says (Behind c part) (if c then false else a)
behind_says true part a f n u = u
behind_says false part a f n u = f n u

behind_none : (c : Bool) (part : Uses) → (c ≡ false → Says part false) → Says (Behind c part) false
behind_none true part f n u = u
behind_none false part f n u = f refl n u

two_says : (o : Two) (first second : Uses) (a : Bool) (right : Taken) (s : ℕ) (q : Path) → TwoSplits o right → (a ≡ true → right s q ≡ true → ⊥)
    → Says first a → Says second (right s q) → Says (TwoUse o first second) (a || right s q)
two_says (binary op) first second a right s q h d f g n u = both_say first second a (right s q) d f g n u
two_says and first second a right s q h d f g n (inl u) = f n u ∙ ap times (sym (or_nothing a)) ∙ ap (λ b. times (a || b)) (sym (h.none s q))
two_says and first second a right s q h d f g n (inr u) = both_say first second a (right s q) d f g n u
two_says or first second a right s q h d f g n (inl u) = f n u ∙ ap times (sym (or_nothing a)) ∙ ap (λ b. times (a || b)) (sym (h.none s q))
two_says or first second a right s q h d f g n (inr u) = both_say first second a (right s q) d f g n u
two_says look_up first second a right s q h d f g n u = both_say first second a (right s q) d f g n u
two_says key_exists first second a right s q h d f g n u = both_say first second a (right s q) d f g n u
two_says merge first second a right s q h d f g n u = both_say first second a (right s q) d f g n u

or_same : (a : Bool) → (a || a) ≡ a
or_same true = refl
or_same false = refl

alike_say : (second third : Uses) (b c : Bool) → b ≡ c → Says second b → Says third c → Says (Either second third) (b || c)
alike_say second third b c e g h n (inl u) = g n u ∙ ap times (sym (or_same b)) ∙ ap (λ x. times (b || x)) e
alike_say second third b c e g h n (inr u) = h n u ∙ ap times (sym (or_same c)) ∙ ap (λ x. times (x || c)) (sym e)

three_says : (o : Three) (first second third : Uses) (a : Bool) (middle last : Taken) (s : ℕ) (q : Path) → ThreeSplits o middle last
    → (a ≡ true → middle s q ≡ true → ⊥) → (a ≡ true → last s q ≡ true → ⊥)
    → Says first a → Says second (middle s q) → Says third (last s q) → Says (ThreeUse o first second third) (a || (middle s q || last s q))
three_says if_else first second third a middle last s q h d e f g k n u =
    both_say first (Either second third) a (middle s q || last s q) (λ p. not_either (middle s q) (last s q) (d p) (e p)) f
    (alike_say second third (middle s q) (last s q) (h.alike s q) g k) n u
three_says select first second third a middle last s q h d e f g k n u =
    both_say first (Both second third) a (middle s q || last s q) (λ p. not_either (middle s q) (last s q) (d p) (e p)) f
    (both_say second third (middle s q) (last s q) (h.apart s q) g k) n u
three_says slice first second third a middle last s q h d e f g k n u =
    both_say first (Both second third) a (middle s q || last s q) (λ p. not_either (middle s q) (last s q) (d p) (e p)) f
    (both_say second third (middle s q) (last s q) (h.apart s q) g k) n u

chain_says : (c : Option (ℕ × Path)) (g : Named Origin) (s : ℕ) (q : Path) (part : Uses) (a : Bool) → Says part a → Says (ChainUses c g s q part) (chain_takes c g s q a)
chain_says (Some c) g s q part a f n u = u
chain_says None g s q part a f n u = f n u

ne_of : (b s : ℕ) → (b == s) ≡ false → s ≡ b → ⊥
ne_of b s p q = clash (eq-eqb b s (sym q)) p

mutual
  uses_taken : (e : ExprTree) (g : Named Origin) (s : ℕ) (q : Path) → Keeps e g → Splits e g → Says (ExprUses e g s q) (takes e g s q)
  uses_taken (leaf a l) g s q h k = chain_says (chain_of_leaf l) g s q NoUse false (λ n u. u)
  uses_taken (one a o e) g s q h k = chain_says (chain_of_one o (chain_of e)) g s q (ExprUses e g s q) (takes e g s q) (uses_taken e g s q h.0 k.0)
  uses_taken (two a o e f) g s q h k =
      two_says o (ExprUses e g s q) (ExprUses f g s q) (takes e g s q) (takes f g) s q k.3 (k.2.apart s q) (uses_taken e g s q h.0 k.0) (uses_taken f g s q h.1 k.1)
  uses_taken (three a o c e f) g s q h k =
      three_says o (ExprUses c g s q) (ExprUses e g s q) (ExprUses f g s q) (takes c g s q) (takes e g) (takes f g) s q k.5 (k.3.apart s q) (k.4.apart s q)
      (uses_taken c g s q h.0 k.0) (uses_taken e g s q h.1 k.1) (uses_taken f g s q h.2 k.2)
  uses_taken (many a o es) g s q h k = some_taken es g s q h k
  uses_taken (let_in a b e f) g s q h k =
      both_say (ExprUses e g s q) (Behind (b.sym.0 == s) (ExprUses f ((b.sym.0, origin e g) ∷ g) s q)) (takes e g s q) _ (k.2.apart s q)
      (uses_taken e g s q h.0 k.0)
      (behind_says (b.sym.0 == s) (ExprUses f ((b.sym.0, origin e g) ∷ g) s q) _ (uses_taken f ((b.sym.0, origin e g) ∷ g) s q h.1 k.1))
  uses_taken (loop a ls e b n x f) g s q h k =
      let inner = in_body b n x (origin e g) g in
      let none : Says (Behind (x.sym.0 == s) (Behind (n.sym.0 == s) (Behind (b.sym.0 == s) (ExprUses f inner s q)))) false =
      behind_none (x.sym.0 == s) _ (λ no_x. behind_none (n.sym.0 == s) _ (λ no_n. behind_none (b.sym.0 == s) _ (λ no_b m u.
      uses_taken f inner s q h.2 k.3 m u ∙ ap times (unless_true (takes f inner s q) (λ t. unknown_outside g s q
      (known_behind s b.sym.0 (own_paths (origin e g)) (outside g) q (ne_of b.sym.0 s no_b)
      (known_behind s n.sym.0 value _ q (ne_of n.sym.0 s no_n) (known_behind s x.sym.0 value _ q (ne_of x.sym.0 s no_x) (takes_known f inner s q h.2 t))))))))) in
      both_say (LegsUse ls g s q) _ (legs_take ls g s q) (takes e g s q) (k.2.apart s q) (legs_taken ls g s q h.0 k.0)
      (with_turns (ExprUses e g s q) _ (takes e g s q) (uses_taken e g s q h.1 k.1) none)
  uses_taken (iterate a e b f) g s q h k =
      with_turns (ExprUses e g s q) _ (takes e g s q) (uses_taken e g s q h.0 k.0)
      (behind_none (b.sym.0 == s) _ (λ no_b m u. uses_taken f (in_turn b g) s q h.1 k.1 m u ∙ ap times (unless_true (takes f (in_turn b g) s q) (λ t. unknown_outside g s q
      (known_behind s b.sym.0 value (outside g) q (ne_of b.sym.0 s no_b) (takes_known f (in_turn b g) s q h.1 t))))))

  some_taken : (es : ExprTrees) (g : Named Origin) (s : ℕ) (q : Path) → AllKeep es g → AllSplit es g → Says (ExprsUse es g s q) (some_take es g s q)
  some_taken no_exprs g s q h k = λ n u. u
  some_taken (more_exprs e es) g s q h k =
      both_say (ExprUses e g s q) (ExprsUse es g s q) (takes e g s q) (some_take es g s q) (k.2.apart s q) (uses_taken e g s q h.0 k.0) (some_taken es g s q h.1 k.1)

  leg_taken : (l : LegTree) (g : Named Origin) (s : ℕ) (q : Path) → LegKeeps l g → LegSplits l g → Says (LegUses l g s q) (leg_takes l g s q)
  leg_taken (whole e) g s q h k = uses_taken e g s q h k
  leg_taken (strided e f x i) g s q h k =
      both_say (ExprUses e g s q) _ (takes e g s q) _ (λ p. not_either (takes f g s q) _ (k.4.apart s q p) (not_either (takes x g s q) (takes i g s q) (k.5.apart s q p) (k.6.apart s q p)))
      (uses_taken e g s q h.0 k.0)
      (both_say (ExprUses f g s q) _ (takes f g s q) _ (λ p. not_either (takes x g s q) (takes i g s q) (k.7.apart s q p) (k.8.apart s q p))
      (uses_taken f g s q h.1 k.1)
      (both_say (ExprUses x g s q) (ExprUses i g s q) (takes x g s q) (takes i g s q) (k.9.apart s q) (uses_taken x g s q h.2 k.2) (uses_taken i g s q h.3 k.3)))

  legs_taken : (ls : LegTrees) (g : Named Origin) (s : ℕ) (q : Path) → LegsKeep ls g → LegsSplit ls g → Says (LegsUse ls g s q) (legs_take ls g s q)
  legs_taken no_legs g s q h k = λ n u. u
  legs_taken (more_legs l ls) g s q h k =
      both_say (LegUses l g s q) (LegsUse ls g s q) (leg_takes l g s q) (legs_take ls g s q) (k.2.apart s q) (leg_taken l g s q h.0 k.0) (legs_taken ls g s q h.1 k.1)

pub taken_uses : (e : ExprTree) (g : Named Origin) (s : ℕ) (q : Path) (n : ℕ) → Keeps e g → Splits e g → ExprUses e g s q n → n ≡ times (takes e g s q)
taken_uses e g s q n h k u = uses_taken e g s q h k n u

used_once : (f : ExprTree) (g : Named Origin) (s : ℕ) (o : Origin) → Keeps f g → Splits f g → TakesAll s o (takes f g) → UsedOnce f g s o
used_once f g s o h k t = record { once = λ q n b u. uses_taken f g s q h k n u ∙ ap times (t.all q b) }

answers_own : (f : ExprTree) (g : Named Origin) (o : Origin) → origin f g ≡ own_paths o → AnswersOwn f g o
answers_own f g o e = record { answers = λ q b. ap (at_path q) e ∙ own_at q o ∙ own_of_builder q (at_path q o) b }

mutual
  pub each_once : (e : ExprTree) (g : Named Origin) → Keeps e g → Splits e g → EachOnce e g
  each_once (leaf a l) g h k = tt
  each_once (one a o e) g h k = each_once e g h.0 k.0
  each_once (two a o e f) g h k = (each_once e g h.0 k.0, each_once f g h.1 k.1)
  each_once (three a o c e f) g h k = (each_once c g h.0 k.0, each_once e g h.1 k.1, each_once f g h.2 k.2)
  each_once (many a o es) g h k = all_once es g h k
  each_once (let_in a b e f) g h k =
      (each_once e g h.0 k.0, used_once f _ b.sym.0 (origin e g) h.1 k.1 k.3, each_once f _ h.1 k.1)
  each_once (loop a ls e b n x f) g h k =
      (legs_once ls g h.0 k.0, each_once e g h.1 k.1, used_once f _ b.sym.0 (own_paths (origin e g)) h.2 k.3 k.4, answers_own f _ (origin e g) h.3, each_once f _ h.2 k.3)
  each_once (iterate a e b f) g h k = (each_once e g h.0 k.0, each_once f _ h.1 k.1)

  all_once : (es : ExprTrees) (g : Named Origin) → AllKeep es g → AllSplit es g → AllOnce es g
  all_once no_exprs g h k = tt
  all_once (more_exprs e es) g h k = (each_once e g h.0 k.0, all_once es g h.1 k.1)

  leg_once : (l : LegTree) (g : Named Origin) → LegKeeps l g → LegSplits l g → LegOnce l g
  leg_once (whole e) g h k = each_once e g h k
  leg_once (strided e f x i) g h k = (each_once e g h.0 k.0, each_once f g h.1 k.1, each_once x g h.2 k.2, each_once i g h.3 k.3)

  legs_once : (ls : LegTrees) (g : Named Origin) → LegsKeep ls g → LegsSplit ls g → LegsOnce ls g
  legs_once no_legs g h k = tt
  legs_once (more_legs l ls) g h k = (leg_once l g h.0 k.0, legs_once ls g h.1 k.1)
