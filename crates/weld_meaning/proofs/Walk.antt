-- The walk refuses nowhere exactly where the rules of linear use are kept.
use Rattle.std.proofs.Common.{◌≡◌, ◌≢◌, ℕ, zero, suc, ◌==◌, Bool, true, false, not, ◌||◌, if◌then◌else◌, [], ◌∷◌, ◌++◌, Option, Some, None, option_map, refl, ap, sym, subst, ◌∙◌, inl, inr, ◌⊎◌, eqb-true, eq-eqb, ne_eqb, append-nil}
use Rattle.std.proofs.lemmas.Bool.{cases_eq}
use Rattle.weld_tree.specs.declared.binder.Binder.{Binder}
use Rattle.weld_tree.specs.declared.code.Code.{Code}
use Rattle.weld_tree.specs.declared.place.Place.{Place}
use Rattle.weld_tree.specs.ExprTree.{ExprTree, leaf, one, two, three, many, let_in, loop, iterate, ExprTrees, no_exprs, more_exprs, LegTree, whole, strided, LegTrees, no_legs, more_legs, Leaf, int, truth, chars, name, fresh, One, neg, not as not_of, cast, len, field, finish, started, Two, binary, and, or, look_up, key_exists, merge, Three, if_else, select, slice}
use Rattle.weld_tree.specs.Program.{ProgramTree}
use Rattle.weld_meaning.specs.Environment.{Named}
use Rattle.weld_meaning.specs.Origin.{Path, Origin, value, made, own, outer, named, struct, Origins, no_origins, more_origins, origin_at, field_origin, origin_of_name, origin, own_paths, outside, in_body, in_turn}
use Rattle.weld_meaning.specs.Linear.{IsSeen, ArmsAgree, Keeps, AllKeep, LegKeeps, LegsKeep}
use Rattle.weld_meaning.specs.Available.{field_within, at_path, is_builder, is_builder_path, is_below, chain_of_one, chain_of, chain_takes, takes, some_take, leg_takes, legs_take, Taken, Apart, Alike, TakesNone, TakesAll, without, ChainSplits, TwoSplits, Splits, AllSplit, LegSplits, LegsSplit}
use Rattle.weld_meaning.specs.LinearWalk.{some_of, is_seen, Left, has, after_taking, paths_below, builders_of, before, where_so, chain_refused, chain_or, name_place, one_refused, two_refused, differ, arms_refused, left_over, refusal, some_refusal, leg_refusal, legs_refusal, linear_refusal}
use Rattle.weld_meaning.proofs.Before.{HasNone, HaveNone, none_within, none_from_within, origin_outside}
use Rattle.weld_meaning.proofs.WalkTests.{clash, and_true, both_true, or_true, or_left, or_right, not_false, not_true, unless_true, before_none, none_before, none_of, of_none, listed_sound, listed_complete, below_root, none_left, left_none, has_after, after_has, has_builder, has_other, other_has, seen_of, of_seen, not_made_of, of_not_made, not_own_of, of_not_own, same_origin_true, true_same_origin}

-- what is taken is there
record Within (taken : Taken) (left : Left) : Type 0 where
  within : (s : ℕ) (q : Path) → taken s q ≡ true → has left s q ≡ true

abbrev both : Taken → Taken → Taken
both a b s q = a s q || b s q

so_false : (b : Bool) (c : Code) (p : Place) → where_so b c p ≡ None → b ≡ false
so_false true c p e = let no : ⊥ = cc in absurd no
so_false false c p e = refl

false_so : (b : Bool) (c : Code) (p : Place) → b ≡ false → where_so b c p ≡ None
false_so true c p e = clash refl e
false_so false c p e = refl

either : {A : Type 0} (a b : Bool) → (a || b) ≡ true → (a ≡ true → A) → (b ≡ true → A) → A
either true b e f g = f refl
either false b e f g = g e

-- ---- one part after another

apart_of : (a b : Taken) (left : Left) → Within b (after_taking a left) → Apart a b
apart_of a b left w = record { apart = λ s q p r. clash p (after_has a left s q (w.within s q r)).1 }

within_earlier : (a b : Taken) (left : Left) → Within b (after_taking a left) → Within b left
within_earlier a b left w = record { within = λ s q r. (after_has a left s q (w.within s q r)).0 }

within_both : (a b : Taken) (left : Left) → Within a left → Within b left → Within (both a b) left
within_both a b left v w = record { within = λ s q r. by s q (or_true (a s q) (b s q) r) }
  where
    by : (s : ℕ) (q : Path) → (a s q ≡ true) ⊎ (b s q ≡ true) → has left s q ≡ true
    by s q (inl x) = v.within s q x
    by s q (inr x) = w.within s q x

within_first : (a b : Taken) (left : Left) → Within (both a b) left → Within a left
within_first a b left w = record { within = λ s q r. w.within s q (or_left (a s q) (b s q) r) }

within_second : (a b : Taken) (left : Left) → Within (both a b) left → Within b left
within_second a b left w = record { within = λ s q r. w.within s q (or_right (a s q) (b s q) r) }

within_later : (a b : Taken) (left : Left) → Apart a b → Within b left → Within b (after_taking a left)
within_later a b left d w = record { within = λ s q r. has_after a left s q (w.within s q r) (unless_true (a s q) (λ p. d.apart s q p r)) }

-- ---- names followed by field accesses

some_first : (d : ℕ × Path) (p : Path) (c : ℕ × Path) → ◌≡◌ {A = Option (ℕ × Path)} (Some (d.0, p)) (Some c) → d.0 ≡ c.0
some_first d p c e = ap (first_name d.0) e
  where
    first_name : ℕ → Option (ℕ × Path) → ℕ
    first_name s (Some x) = x.0
    first_name s None = s

abbrev ChainFacts : ExprTree → Named Origin → Type 0
ChainFacts e g = Keeps e g × Splits e g

chain_kept : (e : ExprTree) (c : ℕ × Path) (g : Named Origin) → chain_of e ≡ Some c → IsSeen (origin_of_name c.0 g) → ChainFacts e g
chain_kept (leaf a (int k x)) c g e h = let no : ⊥ = cc in absurd no
chain_kept (leaf a (truth b)) c g e h = let no : ⊥ = cc in absurd no
chain_kept (leaf a (chars bs)) c g e h = let no : ⊥ = cc in absurd no
chain_kept (leaf a (name s)) c g e h = (subst (λ t. IsSeen (origin_of_name t g)) (sym (some_first (s, []) [] c e)) h, tt)
chain_kept (leaf a (fresh b)) c g e h = let no : ⊥ = cc in absurd no
chain_kept (one a neg f) c g e h = let no : ⊥ = cc in absurd no
chain_kept (one a not_of f) c g e h = let no : ⊥ = cc in absurd no
chain_kept (one a (cast k) f) c g e h = let no : ⊥ = cc in absurd no
chain_kept (one a len f) c g e h = let no : ⊥ = cc in absurd no
chain_kept (one a (field n) f) c g e h = by (chain_of f) refl (λ d p q. chain_kept f d g p q) e
  where
    by : (m : Option (ℕ × Path)) → (p : chain_of f ≡ m) → ((d : ℕ × Path) → chain_of f ≡ Some d → IsSeen (origin_of_name d.0 g) → ChainFacts f g) → option_map (λ (d : ℕ × Path). (d.0, n ∷ d.1)) m ≡ Some c → (Keeps f g × Unit {0}) × (Splits f g × ChainSplits (chain_of f) (field_origin n (origin f g)))
    by (Some d) p k r =
        let same : d.0 ≡ c.0 = some_first d (n ∷ d.1) c r in
        let facts = k d p (subst (λ s. IsSeen (origin_of_name s g)) (sym same) h) in
        ((facts.0, tt), (facts.1, subst (λ m. ChainSplits m (field_origin n (origin f g))) (sym p) tt))
    by None p k r = let no : ⊥ = cc in absurd no
chain_kept (one a finish f) c g e h = let no : ⊥ = cc in absurd no
chain_kept (one a (started b) f) c g e h = let no : ⊥ = cc in absurd no
chain_kept (two a o e f) c g p h = let no : ⊥ = cc in absurd no
chain_kept (three a o d e f) c g p h = let no : ⊥ = cc in absurd no
chain_kept (many a o es) c g p h = let no : ⊥ = cc in absurd no
chain_kept (let_in a b e f) c g p h = let no : ⊥ = cc in absurd no
chain_kept (loop a ls e b n x f) c g p h = let no : ⊥ = cc in absurd no
chain_kept (iterate a e b f) c g p h = let no : ⊥ = cc in absurd no

-- its name is seen where it keeps the rules
chain_seen : (e : ExprTree) (c : ℕ × Path) (g : Named Origin) → chain_of e ≡ Some c → Keeps e g → IsSeen (origin_of_name c.0 g)
chain_seen (leaf a (int k x)) c g e h = let no : ⊥ = cc in absurd no
chain_seen (leaf a (truth b)) c g e h = let no : ⊥ = cc in absurd no
chain_seen (leaf a (chars bs)) c g e h = let no : ⊥ = cc in absurd no
chain_seen (leaf a (name s)) c g e h = subst (λ t. IsSeen (origin_of_name t g)) (some_first (s, []) [] c e) h
chain_seen (leaf a (fresh b)) c g e h = let no : ⊥ = cc in absurd no
chain_seen (one a neg f) c g e h = let no : ⊥ = cc in absurd no
chain_seen (one a not_of f) c g e h = let no : ⊥ = cc in absurd no
chain_seen (one a (cast k) f) c g e h = let no : ⊥ = cc in absurd no
chain_seen (one a len f) c g e h = let no : ⊥ = cc in absurd no
chain_seen (one a (field n) f) c g e h = by (chain_of f) refl (λ d p. chain_seen f d g p h.0) e
  where
    by : (m : Option (ℕ × Path)) → chain_of f ≡ m → ((d : ℕ × Path) → chain_of f ≡ Some d → IsSeen (origin_of_name d.0 g)) → option_map (λ (d : ℕ × Path). (d.0, n ∷ d.1)) m ≡ Some c → IsSeen (origin_of_name c.0 g)
    by (Some d) p k r = subst (λ t. IsSeen (origin_of_name t g)) (some_first d (n ∷ d.1) c r) (k d p)
    by None p k r = let no : ⊥ = cc in absurd no
chain_seen (one a finish f) c g e h = let no : ⊥ = cc in absurd no
chain_seen (one a (started b) f) c g e h = let no : ⊥ = cc in absurd no
chain_seen (two a o e f) c g p h = let no : ⊥ = cc in absurd no
chain_seen (three a o d e f) c g p h = let no : ⊥ = cc in absurd no
chain_seen (many a o es) c g p h = let no : ⊥ = cc in absurd no
chain_seen (let_in a b e f) c g p h = let no : ⊥ = cc in absurd no
chain_seen (loop a ls e b n x f) c g p h = let no : ⊥ = cc in absurd no
chain_seen (iterate a e b f) c g p h = let no : ⊥ = cc in absurd no

-- what a chain takes is there
chain_within : (c : ℕ × Path) (p : Place) (g : Named Origin) (left : Left) (part : Taken) → chain_refused c p g left ≡ None → Within (λ s q. chain_takes (Some c) g s q (part s q)) left × IsSeen (origin_of_name c.0 g)
chain_within c p g left part e =
    let r = before_none _ _ e in
    let whole = origin_of_name c.0 g in (
      record {
        within = λ s q t.
            let u = and_true (c.0 == s) _ t in
            let v = and_true (is_below c.1 q) _ u.1 in
            let same : c.0 ≡ s = eqb-true c.0 s u.0 in
            let there : has left c.0 q ≡ true = not_false (has left c.0 q) (none_of (λ x. not (has left c.0 x)) (paths_below c.1 (at_path c.1 whole)) (so_false _ _ p r.1) q (listed_complete whole c.1 q v.0 (subst (λ t. is_builder_path (origin_of_name t g) q ≡ true) (sym same) v.1))) in
            subst (λ t. has left t q ≡ true) same there;
      },
      seen_of whole (not_false (is_seen whole) (so_false _ _ p r.0)),
    )

within_chain : (c : ℕ × Path) (p : Place) (g : Named Origin) (left : Left) (part : Taken) → Within (λ s q. chain_takes (Some c) g s q (part s q)) left → IsSeen (origin_of_name c.0 g) → chain_refused c p g left ≡ None
within_chain c p g left part w seen =
    let whole = origin_of_name c.0 g in
    none_before _ _ (false_so _ _ p (not_true (is_seen whole) (of_seen whole seen)))
    (false_so _ _ p (of_none (λ x. not (has left c.0 x)) (paths_below c.1 (at_path c.1 whole)) (λ q i.
    let r = listed_sound whole c.1 q i in
    not_true (has left c.0 q) (w.within c.0 q (both_true (c.0 == c.0) _ (eq-eqb c.0 c.0 refl) (both_true (is_below c.1 q) _ r.0 r.1))))))

-- ---- names that a binder hides

without_true : (b s : ℕ) (x : Bool) → (if b == s then false else x) ≡ true → (s ≡ b → ⊥) × (x ≡ true)
without_true b s x e = by (b == s) refl e
  where
    by : (c : Bool) → (b == s) ≡ c → (if c then false else x) ≡ true → (s ≡ b → ⊥) × (x ≡ true)
    by true p r = clash r refl
    by false p r = (λ q. clash (eq-eqb b s (sym q)) p, r)

true_without : (b s : ℕ) (x : Bool) → (s ≡ b → ⊥) → x ≡ true → (if b == s then false else x) ≡ true
true_without b s x ne e = rw (ne_eqb b s (λ p. ne (sym p))) e

hidden_name : (s b : ℕ) (o : Origin) (g : Named Origin) → s ≡ b → origin_of_name s ((b, o) ∷ g) ≡ o
hidden_name s b o g e = rw (eq-eqb s b e) refl

other_name : (s b : ℕ) (o : Origin) (g : Named Origin) → s ≢ b → origin_of_name s ((b, o) ∷ g) ≡ origin_of_name s g
other_name s b o g e = rw (ne_eqb s b e) refl

-- ---- what is taken is a builder, and seen

record Known (g : Named Origin) (s : ℕ) (q : Path) : Type 0 where
  builder : is_builder_path (origin_of_name s g) q ≡ true
  seen : IsSeen (origin_of_name s g)

known_behind : (s b : ℕ) (o : Origin) (g : Named Origin) (q : Path) → (s ≡ b → ⊥) → Known ((b, o) ∷ g) s q → Known g s q
known_behind s b o g q ne k =
    let same = other_name s b o g ne in
    record { builder = subst (λ r. is_builder_path r q ≡ true) same k.builder; seen = subst IsSeen same k.seen }

chain_known : (c : ℕ × Path) (g : Named Origin) (s : ℕ) (q : Path) (part : Bool) → IsSeen (origin_of_name c.0 g) → chain_takes (Some c) g s q part ≡ true → Known g s q
chain_known c g s q part seen t =
    let u = and_true (c.0 == s) _ t in
    let v = and_true (is_below c.1 q) _ u.1 in
    let same : c.0 ≡ s = eqb-true c.0 s u.0 in
    record { builder = v.1; seen = subst (λ x. IsSeen (origin_of_name x g)) same seen }

mutual
  takes_known : (e : ExprTree) (g : Named Origin) (s : ℕ) (q : Path) → Keeps e g → takes e g s q ≡ true → Known g s q
  takes_known (leaf a (int k x)) g s q h t = clash t refl
  takes_known (leaf a (truth b)) g s q h t = clash t refl
  takes_known (leaf a (chars bs)) g s q h t = clash t refl
  takes_known (leaf a (name x)) g s q h t = chain_known (x, []) g s q false h t
  takes_known (leaf a (fresh b)) g s q h t = clash t refl
  takes_known (one a neg e) g s q h t = takes_known e g s q h.0 t
  takes_known (one a not_of e) g s q h t = takes_known e g s q h.0 t
  takes_known (one a (cast k) e) g s q h t = takes_known e g s q h.0 t
  takes_known (one a len e) g s q h t = takes_known e g s q h.0 t
  takes_known (one a (field n) e) g s q h t = by (chain_of e) refl (takes_known e g s q h.0) t
    where
      by : (m : Option (ℕ × Path)) → chain_of e ≡ m → (takes e g s q ≡ true → Known g s q) → chain_takes (option_map (λ (d : ℕ × Path). (d.0, n ∷ d.1)) m) g s q (takes e g s q) ≡ true → Known g s q
      by (Some c) p k t = chain_known (c.0, n ∷ c.1) g s q (takes e g s q) (chain_seen e c g p h.0) t
      by None p k t = k t
  takes_known (one a finish e) g s q h t = takes_known e g s q h.0 t
  takes_known (one a (started b) e) g s q h t = takes_known e g s q h.0 t
  takes_known (two a o e f) g s q h t =
      either (takes e g s q) (takes f g s q) t (takes_known e g s q h.0) (takes_known f g s q h.1)
  takes_known (three a o c e f) g s q h t =
      either (takes c g s q) (takes e g s q || takes f g s q) t (takes_known c g s q h.0)
      (λ u. either (takes e g s q) (takes f g s q) u (takes_known e g s q h.1) (takes_known f g s q h.2))
  takes_known (many a o es) g s q h t = some_known es g s q h t
  takes_known (let_in a b e f) g s q h t =
      either (takes e g s q) _ t (takes_known e g s q h.0)
      (λ u. let w = without_true b.sym.0 s _ u in known_behind s b.sym.0 (origin e g) g q w.0 (takes_known f _ s q h.1 w.1))
  takes_known (loop a ls e b n x f) g s q h t =
      either (legs_take ls g s q) (takes e g s q) t (legs_known ls g s q h.0) (takes_known e g s q h.1)
  takes_known (iterate a e b f) g s q h t = takes_known e g s q h.0 t

  some_known : (es : ExprTrees) (g : Named Origin) (s : ℕ) (q : Path) → AllKeep es g → some_take es g s q ≡ true → Known g s q
  some_known no_exprs g s q h t = clash t refl
  some_known (more_exprs e es) g s q h t =
      either (takes e g s q) (some_take es g s q) t (takes_known e g s q h.0) (some_known es g s q h.1)

  leg_known : (l : LegTree) (g : Named Origin) (s : ℕ) (q : Path) → LegKeeps l g → leg_takes l g s q ≡ true → Known g s q
  leg_known (whole e) g s q h t = takes_known e g s q h t
  leg_known (strided e f k i) g s q h t =
      either (takes e g s q) _ t (takes_known e g s q h.0) (λ u. either (takes f g s q) _ u (takes_known f g s q h.1)
      (λ w. either (takes k g s q) (takes i g s q) w (takes_known k g s q h.2) (takes_known i g s q h.3)))

  legs_known : (ls : LegTrees) (g : Named Origin) (s : ℕ) (q : Path) → LegsKeep ls g → legs_take ls g s q ≡ true → Known g s q
  legs_known no_legs g s q h t = clash t refl
  legs_known (more_legs l ls) g s q h t =
      either (leg_takes l g s q) (legs_take ls g s q) t (leg_known l g s q h.0) (legs_known ls g s q h.1)

-- ---- what a lambda's body may take

none_at : (n : ℕ) (os : Origins) → HaveNone os → HasNone (origin_at n os)
none_at zero no_origins h = tt
none_at (suc n) no_origins h = tt
none_at zero (more_origins o os) h = h.0
none_at (suc n) (more_origins o os) h = none_at n os h.1

none_field : (n : ℕ) (o : Origin) → HasNone o → HasNone (field_within n o)
none_field n value h = tt
none_field n made h = absurd h
none_field n (own p) h = absurd h
none_field n outer h = absurd h
none_field n (named s p) h = absurd h
none_field n (struct os) h = none_at n os h

none_path : (q : Path) (o : Origin) → HasNone o → HasNone (at_path q o)
none_path [] o h = h
none_path (n ∷ q) o h = none_field n (at_path q o) (none_path q o h)

none_builder : (o : Origin) → HasNone o → is_builder o ≡ false
none_builder value h = refl
none_builder made h = absurd h
none_builder (own p) h = absurd h
none_builder outer h = absurd h
none_builder (named s p) h = absurd h
none_builder (struct os) h = refl

-- nothing of outside
not_outside : {A : Type 0} (g : Named Origin) (s : ℕ) (q : Path) → Known (outside g) s q → A
not_outside g s q k =
    let same = origin_outside s g in
    let none = none_from_within (origin_of_name s g) (none_within (origin_of_name s g) (subst IsSeen same k.seen)) in
    clash k.builder (ap (λ o. is_builder_path o q) same ∙ none_builder _ (none_path q _ none))

not_value : {A : Type 0} (s b : ℕ) (g : Named Origin) (q : Path) → s ≡ b → Known ((b, value) ∷ g) s q → A
not_value s b g q e k =
    clash k.builder (ap (λ o. is_builder_path o q) (hidden_name s b value g e) ∙ none_builder _ (none_path q value tt))

-- a body takes its own builder alone
body_within : (b n x : Binder) (o : Origin) (g : Named Origin) (f : ExprTree) → Keeps f (in_body b n x o g) → Within (takes f (in_body b n x o g)) (builders_of b.sym.0 (own_paths o) ++ [])
body_within b n x o g f h = record { within = λ s q t. row s q (takes_known f (in_body b n x o g) s q h t) }
  where
    builder : (s : ℕ) (q : Path) → Known ((b.sym.0, own_paths o) ∷ outside g) s q → (s ≡ b.sym.0) ⊎ (s ≢ b.sym.0) → has (builders_of b.sym.0 (own_paths o) ++ []) s q ≡ true
    builder s q k (inl e) =
        subst (λ t. has (builders_of b.sym.0 (own_paths o) ++ []) t q ≡ true) (sym e)
        (has_builder b.sym.0 (own_paths o) [] q (subst (λ r. is_builder_path r q ≡ true) (hidden_name s b.sym.0 (own_paths o) (outside g) e) k.builder))
    builder s q k (inr ne) = not_outside g s q (known_behind s b.sym.0 (own_paths o) (outside g) q ne k)

    count : (s : ℕ) (q : Path) → Known ((n.sym.0, value) ∷ (b.sym.0, own_paths o) ∷ outside g) s q → (s ≡ n.sym.0) ⊎ (s ≢ n.sym.0) → has (builders_of b.sym.0 (own_paths o) ++ []) s q ≡ true
    count s q k (inl e) = not_value s n.sym.0 _ q e k
    count s q k (inr ne) = builder s q (known_behind s n.sym.0 value _ q ne k) (cases_eq s b.sym.0)

    first : (s : ℕ) (q : Path) → Known (in_body b n x o g) s q → (s ≡ x.sym.0) ⊎ (s ≢ x.sym.0) → has (builders_of b.sym.0 (own_paths o) ++ []) s q ≡ true
    first s q k (inl e) = not_value s x.sym.0 _ q e k
    first s q k (inr ne) = count s q (known_behind s x.sym.0 value _ q ne k) (cases_eq s n.sym.0)

    row : (s : ℕ) (q : Path) → Known (in_body b n x o g) s q → has (builders_of b.sym.0 (own_paths o) ++ []) s q ≡ true
    row s q k = first s q k (cases_eq s x.sym.0)

turn_within : (b : Binder) (g : Named Origin) (f : ExprTree) → Keeps f (in_turn b g) → Within (takes f (in_turn b g)) []
turn_within b g f h = record { within = λ s q t. by s q (takes_known f (in_turn b g) s q h t) (cases_eq s b.sym.0) }
  where
    by : (s : ℕ) (q : Path) → Known (in_turn b g) s q → (s ≡ b.sym.0) ⊎ (s ≢ b.sym.0) → has [] s q ≡ true
    by s q k (inl e) = not_value s b.sym.0 _ q e k
    by s q k (inr ne) = not_outside g s q (known_behind s b.sym.0 value _ q ne k)

-- ---- what is not refused

all_taken : (s : ℕ) (o : Origin) (p : Place) (taken : Taken) → left_over s o p taken ≡ None → TakesAll s o taken
all_taken s o p taken e = record {
  all = λ q h.
      not_false (taken s q) (none_of (λ r. not (taken s r)) (paths_below [] o) (so_false _ _ p e) q (listed_complete o [] q (below_root q) h));
}

taken_all : (s : ℕ) (o : Origin) (p : Place) (taken : Taken) → TakesAll s o taken → left_over s o p taken ≡ None
taken_all s o p taken h = false_so _ _ p (of_none (λ r. not (taken s r)) (paths_below [] o) (λ q i. not_true (taken s q) (h.all q (listed_sound o [] q i).1)))

takes_none : (taken : Taken) (left : Left) → Within taken left → some_of (λ (e : ℕ × Path). taken e.0 e.1) left ≡ false → TakesNone taken
takes_none taken left w e = record { none = λ s q. unless_true (taken s q) (λ t. clash t (none_left taken left e s q (w.within s q t))) }

two_splits : (o : Two) (p : Place) (taken : Taken) (left : Left) → Within taken left → two_refused o p taken left ≡ None → TwoSplits o taken
two_splits (binary op) p taken left w e = tt
two_splits and p taken left w e = takes_none taken left w (so_false _ _ p e)
two_splits or p taken left w e = takes_none taken left w (so_false _ _ p e)
two_splits look_up p taken left w e = tt
two_splits key_exists p taken left w e = tt
two_splits merge p taken left w e = tt

splits_two : (o : Two) (p : Place) (taken : Taken) (left : Left) → TwoSplits o taken → two_refused o p taken left ≡ None
splits_two (binary op) p taken left h = refl
splits_two and p taken left h = false_so _ _ p (left_none taken left (λ s q g. h.none s q))
splits_two or p taken left h = false_so _ _ p (left_none taken left (λ s q g. h.none s q))
splits_two look_up p taken left h = refl
splits_two key_exists p taken left h = refl
splits_two merge p taken left h = refl

agree_where : (a b : Bool) → differ a b ≡ false → a ≡ b
agree_where true b e = sym (not_false b e)
agree_where false b e = sym e

differ_same : (a b : Bool) → a ≡ b → differ a b ≡ false
differ_same true b e = not_true b (sym e)
differ_same false b e = sym e

alike_of : (a b : Taken) (left : Left) → Within a left → Within b left → some_of (λ (x : ℕ × Path). differ (a x.0 x.1) (b x.0 x.1)) left ≡ false → Alike a b
alike_of a b left v w e = record { alike = λ s q. by s q (a s q) (b s q) refl refl }
  where
    there : (s : ℕ) (q : Path) → has left s q ≡ true → a s q ≡ b s q
    there s q h = agree_where (a s q) (b s q) (none_left (λ t r. differ (a t r) (b t r)) left e s q h)

    by : (s : ℕ) (q : Path) (x y : Bool) → a s q ≡ x → b s q ≡ y → a s q ≡ b s q
    by s q true y f g = there s q (v.within s q f)
    by s q false true f g = there s q (w.within s q g)
    by s q false false f g = f ∙ sym g

arms_of : (e f : ExprTree) (p : Place) (g : Named Origin) (left : Left) → Within (takes e g) left → Within (takes f g) left → arms_refused e f p g left ≡ None → ArmsAgree e f g × Alike (takes e g) (takes f g)
arms_of e f p g left v w h =
    let r = before_none _ _ h in
    let b = and_true _ _ (not_false _ (so_false _ _ p r.1)) in
    (record { same = same_origin_true _ _ b.0; not_made = not_made_of _ b.1 }, alike_of (takes e g) (takes f g) left v w (so_false _ _ p r.0))

of_arms : (e f : ExprTree) (p : Place) (g : Named Origin) (left : Left) → ArmsAgree e f g → Alike (takes e g) (takes f g) → arms_refused e f p g left ≡ None
of_arms e f p g left h l =
    none_before _ _ (false_so _ _ p (left_none (λ s q. differ (takes e g s q) (takes f g s q)) left (λ s q i. differ_same _ _ (l.alike s q))))
    (false_so _ _ p (not_true _ (both_true _ _ (true_same_origin _ _ h.same) (of_not_made _ h.not_made))))

-- of a `let`, the value before the body
let_apart : (b : ℕ) (o : Origin) (a inner : Taken) (left : Left) → Within inner (builders_of b o ++ after_taking a left) → Within (without b inner) (after_taking a left)
let_apart b o a inner left w = record { within = λ s q t. let r = without_true b s (inner s q) t in other_has b s o (after_taking a left) q r.0 (w.within s q r.1) }

let_within : (b : ℕ) (o : Origin) (g : Named Origin) (f : ExprTree) (left : Left) → Keeps f ((b, o) ∷ g) → Within (without b (takes f ((b, o) ∷ g))) left → Within (takes f ((b, o) ∷ g)) (builders_of b o ++ left)
let_within b o g f left h w = record { within = λ s q t. by s q t (takes_known f ((b, o) ∷ g) s q h t) (cases_eq s b) }
  where
    by : (s : ℕ) (q : Path) → takes f ((b, o) ∷ g) s q ≡ true → Known ((b, o) ∷ g) s q → (s ≡ b) ⊎ (s ≢ b) → has (builders_of b o ++ left) s q ≡ true
    by s q t k (inl e) =
        subst (λ x. has (builders_of b o ++ left) x q ≡ true) (sym e) (has_builder b o left q (subst (λ r. is_builder_path r q ≡ true) (hidden_name s b o g e) k.builder))
    by s q t k (inr ne) = has_other b s o left q (w.within s q (true_without b s _ ne t))

alone : (left : Left) (taken : Taken) → Within taken (left ++ []) → Within taken left
alone left taken w = subst (Within taken) (append-nil left) w

-- ---- the walk refuses nothing that keeps the rules, and what it lets through keeps them

-- what the walk lets through
record Passes (e : ExprTree) (g : Named Origin) (left : Left) : Type 0 where
  keeps : Keeps e g
  splits : Splits e g
  within : Within (takes e g) left

one_passes : (a : Rattle.weld_tree.specs.ExprTree.At) (o : One) (e : ExprTree) (g : Named Origin) (left : Left) → (refusal e g left ≡ None → Passes e g left) → refusal (one a o e) g left ≡ None → Passes (one a o e) g left
one_passes a neg e g left k h = let r = before_none _ _ h in let p = k r.0 in record { keeps = (p.keeps, tt); splits = (p.splits, tt); within = record { within = p.within.within } }
one_passes a not_of e g left k h = let r = before_none _ _ h in let p = k r.0 in record { keeps = (p.keeps, tt); splits = (p.splits, tt); within = record { within = p.within.within } }
one_passes a (cast c) e g left k h = let r = before_none _ _ h in let p = k r.0 in record { keeps = (p.keeps, tt); splits = (p.splits, tt); within = record { within = p.within.within } }
one_passes a len e g left k h = let r = before_none _ _ h in let p = k r.0 in record { keeps = (p.keeps, tt); splits = (p.splits, tt); within = record { within = p.within.within } }
one_passes a (field n) e g left k h = by (chain_of e) refl h
  where
    by : (m : Option (ℕ × Path)) → chain_of e ≡ m → chain_or (chain_of_one (field n) m) (name_place e) g left (before (refusal e g left) (one_refused (field n) a.place (origin e g))) ≡ None → Passes (one a (field n) e) g left
    by (Some c) p r =
        let w = chain_within (c.0, n ∷ c.1) (name_place e) g left (takes e g) r in
        let f = chain_kept e c g p w.1 in
        record {
          keeps = (f.0, tt);
          splits = (f.1, subst (λ m. ChainSplits m (field_origin n (origin e g))) (sym p) tt);
          within = record { within = λ s q t. w.0.within s q (subst (λ m. chain_takes (chain_of_one (field n) m) g s q (takes e g s q) ≡ true) p t) };
        }
    by None p r =
        let u = before_none _ _ r in
        let f = k u.0 in
        record {
          keeps = (f.keeps, tt);
          splits = (f.splits, subst (λ m. ChainSplits m (field_origin n (origin e g))) (sym p) (not_false _ (so_false _ _ a.place u.1)));
          within = record { within = λ s q t. f.within.within s q (subst (λ m. chain_takes (chain_of_one (field n) m) g s q (takes e g s q) ≡ true) p t) };
        }
one_passes a finish e g left k h =
    let r = before_none _ _ h in let p = k r.0 in
    record { keeps = (p.keeps, not_own_of (origin e g) (so_false _ _ a.place r.1)); splits = (p.splits, tt); within = record { within = p.within.within } }
one_passes a (started b) e g left k h = let r = before_none _ _ h in let p = k r.0 in record { keeps = (p.keeps, tt); splits = (p.splits, tt); within = record { within = p.within.within } }

-- three parts that take one after another
three_passes : (c e f : ExprTree) (g : Named Origin) (left : Left) → Passes c g left → Passes e g (after_taking (takes c g) left) → Passes f g (after_taking (takes e g) (after_taking (takes c g) left)) → Apart (takes c g) (takes e g) × Apart (takes c g) (takes f g) × Apart (takes e g) (takes f g) × Within (both (takes c g) (both (takes e g) (takes f g))) left
three_passes c e f g left p q r =
    let l = after_taking (takes c g) left in
    let w = within_earlier (takes e g) (takes f g) l r.within in (
      apart_of (takes c g) (takes e g) left q.within,
      apart_of (takes c g) (takes f g) left w,
      apart_of (takes e g) (takes f g) l r.within,
      within_both (takes c g) (both (takes e g) (takes f g)) left p.within (within_both (takes e g) (takes f g) left (within_earlier (takes c g) (takes e g) left q.within) (within_earlier (takes c g) (takes f g) left w)),
    )

mutual
  passes : (e : ExprTree) (g : Named Origin) (left : Left) → refusal e g left ≡ None → Passes e g left
  passes (leaf a (int k x)) g left h = record { keeps = tt; splits = tt; within = record { within = λ s q t. clash t refl } }
  passes (leaf a (truth b)) g left h = record { keeps = tt; splits = tt; within = record { within = λ s q t. clash t refl } }
  passes (leaf a (chars bs)) g left h = record { keeps = tt; splits = tt; within = record { within = λ s q t. clash t refl } }
  passes (leaf a (name x)) g left h =
      let w = chain_within (x, []) a.place g left (λ s q. false) h in record { keeps = w.1; splits = tt; within = record { within = w.0.within } }
  passes (leaf a (fresh b)) g left h = record { keeps = tt; splits = tt; within = record { within = λ s q t. clash t refl } }
  passes (one a o e) g left h = one_passes a o e g left (passes e g left) h
  passes (two a o e f) g left h =
      let r = before_none _ _ h in let u = before_none _ _ r.1 in
      let p = passes e g left r.0 in let q = passes f g (after_taking (takes e g) left) u.0 in
      record {
        keeps = (p.keeps, q.keeps);
        splits = (p.splits, q.splits, apart_of (takes e g) (takes f g) left q.within, two_splits o a.place (takes f g) (after_taking (takes e g) left) q.within u.1);
        within = record { within = (within_both (takes e g) (takes f g) left p.within (within_earlier (takes e g) (takes f g) left q.within)).within };
      }
  passes (three a if_else c e f) g left h =
      let l = after_taking (takes c g) left in
      let r = before_none _ _ h in let u = before_none _ _ r.1 in let v = before_none _ _ u.1 in
      let p = passes c g left r.0 in let q = passes e g l u.0 in let t = passes f g l v.0 in
      let arms = arms_of e f a.place g l q.within t.within v.1 in
      record {
        keeps = (p.keeps, q.keeps, t.keeps, arms.0);
        splits = (p.splits, q.splits, t.splits, apart_of (takes c g) (takes e g) left q.within, apart_of (takes c g) (takes f g) left t.within, arms.1);
        within = record { within = (within_both (takes c g) (both (takes e g) (takes f g)) left p.within (within_both (takes e g) (takes f g) left (within_earlier (takes c g) (takes e g) left q.within) (within_earlier (takes c g) (takes f g) left t.within))).within };
      }
  passes (three a select c e f) g left h =
      let r = before_none _ _ h in let u = before_none _ _ r.1 in
      let p = passes c g left r.0 in let q = passes e g _ u.0 in let t = passes f g _ u.1 in
      let w = three_passes c e f g left p q t in
      record { keeps = (p.keeps, q.keeps, t.keeps, tt); splits = (p.splits, q.splits, t.splits, w.0, w.1, w.2); within = record { within = w.3.within } }
  passes (three a slice c e f) g left h =
      let r = before_none _ _ h in let u = before_none _ _ r.1 in
      let p = passes c g left r.0 in let q = passes e g _ u.0 in let t = passes f g _ u.1 in
      let w = three_passes c e f g left p q t in
      record { keeps = (p.keeps, q.keeps, t.keeps, tt); splits = (p.splits, q.splits, t.splits, w.0, w.1, w.2); within = record { within = w.3.within } }
  passes (many a o es) g left h = let p = all_pass es g left h in record { keeps = p.0; splits = p.1; within = record { within = p.2.within } }
  passes (let_in a b e f) g left h =
      let o = origin e g in
      let r = before_none _ _ h in let u = before_none _ _ r.1 in
      let p = passes e g left r.0 in let q = passes f ((b.sym.0, o) ∷ g) _ u.0 in
      let inner = takes f ((b.sym.0, o) ∷ g) in
      let w = let_apart b.sym.0 o (takes e g) inner left q.within in
      record {
        keeps = (p.keeps, q.keeps);
        splits = (p.splits, q.splits, apart_of (takes e g) (without b.sym.0 inner) left w, all_taken b.sym.0 o b.place inner u.1);
        within = record { within = (within_both (takes e g) (without b.sym.0 inner) left p.within (within_earlier (takes e g) (without b.sym.0 inner) left w)).within };
      }
  passes (loop a ls e b n x f) g left h =
      let o = origin e g in
      let r = before_none _ _ h in let u = before_none _ _ r.1 in let v = before_none _ _ u.1 in let z = before_none _ _ v.1 in
      let m = legs_pass ls g left r.0 in let p = passes e g _ u.0 in let q = passes f (in_body b n x o g) _ v.0 in
      record {
        keeps = (m.0, p.keeps, q.keeps, same_origin_true _ _ (not_false _ (so_false _ _ a.place z.1)));
        splits = (m.1, p.splits, apart_of (legs_take ls g) (takes e g) left p.within, q.splits, all_taken b.sym.0 (own_paths o) b.place (takes f (in_body b n x o g)) z.0);
        within = record { within = (within_both (legs_take ls g) (takes e g) left m.2 (within_earlier (legs_take ls g) (takes e g) left p.within)).within };
      }
  passes (iterate a e b f) g left h =
      let r = before_none _ _ h in let p = passes e g left r.0 in let q = passes f (in_turn b g) [] r.1 in
      record { keeps = (p.keeps, q.keeps); splits = (p.splits, q.splits); within = record { within = p.within.within } }

  all_pass : (es : ExprTrees) (g : Named Origin) (left : Left) → some_refusal es g left ≡ None → AllKeep es g × AllSplit es g × Within (some_take es g) left
  all_pass no_exprs g left h = (tt, tt, record { within = λ s q t. clash t refl })
  all_pass (more_exprs e es) g left h =
      let r = before_none _ _ h in let p = passes e g left r.0 in let q = all_pass es g _ r.1 in
      ((p.keeps, q.0), (p.splits, q.1, apart_of (takes e g) (some_take es g) left q.2), record { within = (within_both (takes e g) (some_take es g) left p.within (within_earlier (takes e g) (some_take es g) left q.2)).within })

  leg_passes : (l : LegTree) (g : Named Origin) (left : Left) → leg_refusal l g left ≡ None → LegKeeps l g × LegSplits l g × Within (leg_takes l g) left
  leg_passes (whole e) g left h = let p = passes e g left h in (p.keeps, p.splits, record { within = p.within.within })
  leg_passes (strided e f k i) g left h =
      let r = before_none _ _ h in let u = before_none _ _ r.1 in let v = before_none _ _ u.1 in
      let A = takes e g in let B = takes f g in let C = takes k g in let D = takes i g in
      let la = after_taking (takes e g) left in let lb = after_taking (takes f g) la in let lc = after_taking (takes k g) lb in
      let p = passes e g left r.0 in let q = passes f g la u.0 in let t = passes k g lb v.0 in let z = passes i g lc v.1 in
      let cb = within_earlier (takes f g) (takes k g) la t.within in
      let dc = within_earlier (takes k g) (takes i g) lb z.within in
      let db = within_earlier (takes f g) (takes i g) la dc in (
        (p.keeps, q.keeps, t.keeps, z.keeps),
        (
          p.splits,
          q.splits,
          t.splits,
          z.splits,
          apart_of (takes e g) (takes f g) left q.within,
          apart_of (takes e g) (takes k g) left cb,
          apart_of (takes e g) (takes i g) left db,
          apart_of (takes f g) (takes k g) la t.within,
          apart_of (takes f g) (takes i g) la dc,
          apart_of (takes k g) (takes i g) lb z.within,
        ),
        record {
          within = (within_both (takes e g) (both (takes f g) (both (takes k g) (takes i g))) left p.within
              (within_both (takes f g) (both (takes k g) (takes i g)) left (within_earlier (takes e g) (takes f g) left q.within)
              (within_both (takes k g) (takes i g) left (within_earlier (takes e g) (takes k g) left cb) (within_earlier (takes e g) (takes i g) left db)))).within;
        },
      )

  legs_pass : (ls : LegTrees) (g : Named Origin) (left : Left) → legs_refusal ls g left ≡ None → LegsKeep ls g × LegsSplit ls g × Within (legs_take ls g) left
  legs_pass no_legs g left h = (tt, tt, record { within = λ s q t. clash t refl })
  legs_pass (more_legs l ls) g left h =
      let r = before_none _ _ h in let p = leg_passes l g left r.0 in let q = legs_pass ls g _ r.1 in
      ((p.0, q.0), (p.1, q.1, apart_of (leg_takes l g) (legs_take ls g) left q.2), record { within = (within_both (leg_takes l g) (legs_take ls g) left p.2 (within_earlier (leg_takes l g) (legs_take ls g) left q.2)).within })

one_refuses_none : (a : Rattle.weld_tree.specs.ExprTree.At) (o : One) (e : ExprTree) (g : Named Origin) (left : Left) → (Within (takes e g) left → refusal e g left ≡ None) → Keeps (one a o e) g → Splits (one a o e) g → Within (takes (one a o e) g) left → refusal (one a o e) g left ≡ None
one_refuses_none a neg e g left k h s w = none_before _ _ (k (record { within = w.within })) refl
one_refuses_none a not_of e g left k h s w = none_before _ _ (k (record { within = w.within })) refl
one_refuses_none a (cast c) e g left k h s w = none_before _ _ (k (record { within = w.within })) refl
one_refuses_none a len e g left k h s w = none_before _ _ (k (record { within = w.within })) refl
one_refuses_none a (field n) e g left k h s w = by (chain_of e) refl
  where
    by : (m : Option (ℕ × Path)) → chain_of e ≡ m → chain_or (chain_of_one (field n) m) (name_place e) g left (before (refusal e g left) (one_refused (field n) a.place (origin e g))) ≡ None
    by (Some c) p =
        within_chain (c.0, n ∷ c.1) (name_place e) g left (takes e g)
        (record { within = λ x q t. w.within x q (subst (λ m. chain_takes (chain_of_one (field n) m) g x q (takes e g x q) ≡ true) (sym p) t) })
        (chain_seen e c g p h.0)
    by None p =
        none_before _ _ (k (record { within = λ x q t. w.within x q (subst (λ m. chain_takes (chain_of_one (field n) m) g x q (takes e g x q) ≡ true) (sym p) t) }))
        (false_so _ _ a.place (not_true _ (subst (λ m. ChainSplits m (field_origin n (origin e g))) p s.1)))
one_refuses_none a finish e g left k h s w = none_before _ _ (k (record { within = w.within })) (false_so _ _ a.place (of_not_own (origin e g) h.1))
one_refuses_none a (started b) e g left k h s w = none_before _ _ (k (record { within = w.within })) refl

mutual
  refuses_none : (e : ExprTree) (g : Named Origin) (left : Left) → Keeps e g → Splits e g → Within (takes e g) left → refusal e g left ≡ None
  refuses_none (leaf a (int k x)) g left h s w = refl
  refuses_none (leaf a (truth b)) g left h s w = refl
  refuses_none (leaf a (chars bs)) g left h s w = refl
  refuses_none (leaf a (name x)) g left h s w = within_chain (x, []) a.place g left (λ t q. false) (record { within = w.within }) h
  refuses_none (leaf a (fresh b)) g left h s w = refl
  refuses_none (one a o e) g left h s w = one_refuses_none a o e g left (λ v. refuses_none e g left h.0 s.0 v) h s w
  refuses_none (two a o e f) g left h s w =
      let v : Within (both (takes e g) (takes f g)) left = record { within = w.within } in
      none_before _ _ (refuses_none e g left h.0 s.0 (within_first (takes e g) (takes f g) left v))
      (none_before _ _ (refuses_none f g _ h.1 s.1 (within_later (takes e g) (takes f g) left s.2 (within_second (takes e g) (takes f g) left v))) (splits_two o a.place (takes f g) _ s.3))
  refuses_none (three a if_else c e f) g left h s w =
      let v : Within (both (takes c g) (both (takes e g) (takes f g))) left = record { within = w.within } in
      let u = within_second (takes c g) (both (takes e g) (takes f g)) left v in
      none_before _ _ (refuses_none c g left h.0 s.0 (within_first (takes c g) (both (takes e g) (takes f g)) left v))
      (none_before _ _ (refuses_none e g _ h.1 s.1 (within_later (takes c g) (takes e g) left s.3 (within_first (takes e g) (takes f g) left u)))
      (none_before _ _ (refuses_none f g _ h.2 s.2 (within_later (takes c g) (takes f g) left s.4 (within_second (takes e g) (takes f g) left u)))
      (of_arms e f a.place g _ h.3 s.5)))
  refuses_none (three a select c e f) g left h s w =
      let v : Within (both (takes c g) (both (takes e g) (takes f g))) left = record { within = w.within } in
      let u = within_second (takes c g) (both (takes e g) (takes f g)) left v in
      none_before _ _ (refuses_none c g left h.0 s.0 (within_first (takes c g) (both (takes e g) (takes f g)) left v))
      (none_before _ _ (refuses_none e g _ h.1 s.1 (within_later (takes c g) (takes e g) left s.3 (within_first (takes e g) (takes f g) left u)))
      (refuses_none f g _ h.2 s.2 (within_later (takes e g) (takes f g) _ s.5 (within_later (takes c g) (takes f g) left s.4 (within_second (takes e g) (takes f g) left u)))))
  refuses_none (three a slice c e f) g left h s w =
      let v : Within (both (takes c g) (both (takes e g) (takes f g))) left = record { within = w.within } in
      let u = within_second (takes c g) (both (takes e g) (takes f g)) left v in
      none_before _ _ (refuses_none c g left h.0 s.0 (within_first (takes c g) (both (takes e g) (takes f g)) left v))
      (none_before _ _ (refuses_none e g _ h.1 s.1 (within_later (takes c g) (takes e g) left s.3 (within_first (takes e g) (takes f g) left u)))
      (refuses_none f g _ h.2 s.2 (within_later (takes e g) (takes f g) _ s.5 (within_later (takes c g) (takes f g) left s.4 (within_second (takes e g) (takes f g) left u)))))
  refuses_none (many a o es) g left h s w = all_refuse_none es g left h s (record { within = w.within })
  refuses_none (let_in a b e f) g left h s w =
      let o = origin e g in
      let inner = takes f ((b.sym.0, o) ∷ g) in
      let v : Within (both (takes e g) (without b.sym.0 inner)) left = record { within = w.within } in
      none_before _ _ (refuses_none e g left h.0 s.0 (within_first (takes e g) (without b.sym.0 inner) left v))
      (none_before _ _ (refuses_none f ((b.sym.0, o) ∷ g) _ h.1 s.1
      (let_within b.sym.0 o g f (after_taking (takes e g) left) h.1 (within_later (takes e g) (without b.sym.0 inner) left s.2 (within_second (takes e g) (without b.sym.0 inner) left v))))
      (taken_all b.sym.0 o b.place inner s.3))
  refuses_none (loop a ls e b n x f) g left h s w =
      let o = origin e g in
      let v : Within (both (legs_take ls g) (takes e g)) left = record { within = w.within } in
      none_before _ _ (legs_refuse_none ls g left h.0 s.0 (within_first (legs_take ls g) (takes e g) left v))
      (none_before _ _ (refuses_none e g _ h.1 s.1 (within_later (legs_take ls g) (takes e g) left s.2 (within_second (legs_take ls g) (takes e g) left v)))
      (none_before _ _ (refuses_none f (in_body b n x o g) (builders_of b.sym.0 (own_paths o)) h.2 s.3 (alone _ (takes f (in_body b n x o g)) (body_within b n x o g f h.2)))
      (none_before _ _ (taken_all b.sym.0 (own_paths o) b.place (takes f (in_body b n x o g)) s.4)
      (false_so _ _ a.place (not_true _ (true_same_origin _ _ h.3))))))
  refuses_none (iterate a e b f) g left h s w =
      none_before _ _ (refuses_none e g left h.0 s.0 (record { within = w.within })) (refuses_none f (in_turn b g) [] h.1 s.1 (turn_within b g f h.1))

  all_refuse_none : (es : ExprTrees) (g : Named Origin) (left : Left) → AllKeep es g → AllSplit es g → Within (some_take es g) left → some_refusal es g left ≡ None
  all_refuse_none no_exprs g left h s w = refl
  all_refuse_none (more_exprs e es) g left h s w =
      let v : Within (both (takes e g) (some_take es g)) left = record { within = w.within } in
      none_before _ _ (refuses_none e g left h.0 s.0 (within_first (takes e g) (some_take es g) left v))
      (all_refuse_none es g _ h.1 s.1 (within_later (takes e g) (some_take es g) left s.2 (within_second (takes e g) (some_take es g) left v)))

  leg_refuses_none : (l : LegTree) (g : Named Origin) (left : Left) → LegKeeps l g → LegSplits l g → Within (leg_takes l g) left → leg_refusal l g left ≡ None
  leg_refuses_none (whole e) g left h s w = refuses_none e g left h s (record { within = w.within })
  leg_refuses_none (strided e f k i) g left h s w =
      let va : Within (both (takes e g) (both (takes f g) (both (takes k g) (takes i g)))) left = record { within = w.within } in
      let vb = within_second (takes e g) (both (takes f g) (both (takes k g) (takes i g))) left va in
      let vc = within_second (takes f g) (both (takes k g) (takes i g)) left vb in
      none_before _ _ (refuses_none e g left h.0 s.0 (within_first (takes e g) (both (takes f g) (both (takes k g) (takes i g))) left va))
      (none_before _ _ (refuses_none f g _ h.1 s.1 (within_later (takes e g) (takes f g) left s.4 (within_first (takes f g) (both (takes k g) (takes i g)) left vb)))
      (none_before _ _ (refuses_none k g _ h.2 s.2 (within_later (takes f g) (takes k g) _ s.7 (within_later (takes e g) (takes k g) left s.5 (within_first (takes k g) (takes i g) left vc))))
      (refuses_none i g _ h.3 s.3 (within_later (takes k g) (takes i g) _ s.9 (within_later (takes f g) (takes i g) _ s.8 (within_later (takes e g) (takes i g) left s.6 (within_second (takes k g) (takes i g) left vc)))))))

  legs_refuse_none : (ls : LegTrees) (g : Named Origin) (left : Left) → LegsKeep ls g → LegsSplit ls g → Within (legs_take ls g) left → legs_refusal ls g left ≡ None
  legs_refuse_none no_legs g left h s w = refl
  legs_refuse_none (more_legs l ls) g left h s w =
      let v : Within (both (leg_takes l g) (legs_take ls g)) left = record { within = w.within } in
      none_before _ _ (leg_refuses_none l g left h.0 s.0 (within_first (leg_takes l g) (legs_take ls g) left v))
      (legs_refuse_none ls g _ h.1 s.1 (within_later (leg_takes l g) (legs_take ls g) left s.2 (within_second (leg_takes l g) (legs_take ls g) left v)))

-- ---- programs

pub linear_of_walk : (p : ProgramTree) → linear_refusal p ≡ None → Keeps p.body [] × Splits p.body []
linear_of_walk p h = let r = passes p.body [] [] h in (r.keeps, r.splits)

pub walk_of_linear : (p : ProgramTree) → Keeps p.body [] → Splits p.body [] → linear_refusal p ≡ None
walk_of_linear p h s = refuses_none p.body [] [] h s (record { within = λ x q t. nothing x q (takes_known p.body [] x q h t) })
  where
    nothing : (x : ℕ) (q : Path) → Known [] x q → has [] x q ≡ true
    nothing x q k = clash k.builder (none_builder _ (none_path q value tt))
