-- Elements kept where their marks are true.
use Rattle.std.proofs.Common.{◌≡◌, ℕ, zero, suc, ◌+◌, ◌<◌, ◌≤◌, Bool, true, false, cond, List, [], ◌∷◌, ◌++◌, map, filter, drop, length, slice_index_or, slice_get, Option, Some, None, append_assoc, append-nil, ap, sym, refl, subst, ◌∙◌, arith}
use Rattle.weld_data.specs.declared.kind.Kind.{Kind}
use Rattle.weld_data.specs.Value.{Value, number, list, struct, dict, values, list_of_values}
use Rattle.weld_tree.specs.TypeTree.{scalar}
use Rattle.weld_tree.specs.HasValue.{HasValue, AllAre}
use Rattle.weld_builders.specs.Outcome.{Outcome, done, fault, stuck, map_out}
use Rattle.weld_pieces.specs.Kept.{IsKeptAs}
use Rattle.weld_calls.specs.Lists.{vector, paired, marked}
use Rattle.weld_calls.proofs.Outcomes.{map_out-map_out, map_out-same}
use Rattle.weld_eager.specs.Reading.{AreKept}
use Rattle.weld_eager.proofs.Combining.{paired_apart}
use Rattle.weld_eager.proofs.Columns.{listed}

-- ---- what a list takes

kept_as : (k : Kind) (v : Value) → HasValue (scalar k) v → IsKeptAs (Some k) v
kept_as k (number m x) h = h
kept_as k (list vs) h = h
kept_as k (struct vs) h = h
kept_as k (dict es) h = h

number_at : (k : Kind) (vs : List Value) (i : ℕ) (v : Value) → AllAre (HasValue (scalar k)) (values vs) → slice_get vs i ≡ Some v → HasValue (scalar k) v
number_at k [] i v h e = let no : ⊥ = cc in absurd no
number_at k (u ∷ vs) zero v h e = let same : u ≡ v = cc in subst (HasValue (scalar k)) same h.0
number_at k (u ∷ vs) (suc i) v h e = number_at k vs i v h.1 e

kept_there : (kind : Option Kind) (vs : List Value) (i : ℕ) (v : Value) → AreKept kind vs → slice_get vs i ≡ Some v → IsKeptAs kind v
kept_there (Some k) vs i v h e = kept_as k v (number_at k vs i v h e)
kept_there None vs i v h e = tt

pub may_push : (kind made : Option Kind) (vs : List Value) (i : ℕ) (v : Value) → made ≡ kind → AreKept kind vs → slice_get vs i ≡ Some v → IsKeptAs made v
may_push kind made vs i v same h e = subst (λ o. IsKeptAs o v) (sym same) (kept_there kind vs i v h e)

-- ---- what is left

abbrev pub kept_from : List Value → List Bool → Outcome (List Value)
kept_from vs ms = map_out marked (paired vs ms)

pub marks_apart : (vs : List Value) (ms : List Bool) → (length vs ≡ length ms → ⊥) → kept_from vs ms ≡ fault
marks_apart vs ms ne = ap (map_out marked) (paired_apart vs ms ne)

one_mark : (v : Value) (m : Bool) (vs : List Value) (ms : List Bool) → kept_from (v ∷ vs) (m ∷ ms) ≡ map_out (λ r. cond m (v ∷ r) r) (kept_from vs ms)
one_mark v m vs ms =
    map_out-map_out (λ ps. (v, m) ∷ ps) marked (paired vs ms) ∙ map_out-same (paired vs ms) _ _ (by m)
    ∙ sym (map_out-map_out marked (λ r. cond m (v ∷ r) r) (paired vs ms))
  where
    by : (b : Bool) (ps : List (Value × Bool)) → map (λ (p : Value × Bool). p.0) (cond b ((v, b) ∷ filter (λ (p : Value × Bool). p.1) ps) (filter (λ (p : Value × Bool). p.1) ps)) ≡ cond b (v ∷ marked ps) (marked ps)
    by true ps = refl
    by false ps = refl

pub values_left : (vs : List Value) (i : ℕ) (v : Value) → slice_get vs i ≡ Some v → drop i vs ≡ v ∷ drop (i + 1) vs
values_left [] i v e = let no : ⊥ = cc in absurd no
values_left (u ∷ vs) zero v e = let same : u ≡ v = cc in ap (λ w. w ∷ vs) same
values_left (u ∷ vs) (suc i) v e =
    let more : suc (i + 1) ≡ suc i + 1 = omega arith in values_left vs i v e ∙ ap (λ n. v ∷ drop n (u ∷ vs)) more

some_value : (vs : List Value) (i : ℕ) → i < length vs → (v : Value) × (slice_get vs i ≡ Some v)
some_value [] i h = absurd (none i h)
  where
    none : (i : ℕ) → i < 0 → ⊥
    none i h = omega (arith, h)
some_value (v ∷ vs) zero h = (v, refl)
some_value (v ∷ vs) (suc i) h = some_value vs i (omega (arith, h))

pub marks_left : (ms : List Bool) (i : ℕ) (m : Bool) → i < length ms → slice_index_or ms i false ≡ m → drop i ms ≡ m ∷ drop (i + 1) ms
marks_left [] i m h e = absurd (none i h)
  where
    none : (i : ℕ) → i < 0 → ⊥
    none i h = omega (arith, h)
marks_left (b ∷ ms) zero m h e = ap (λ c. c ∷ ms) e
marks_left (b ∷ ms) (suc i) m h e =
    let more : suc (i + 1) ≡ suc i + 1 = omega arith in
    marks_left ms i m (omega (arith, h)) e ∙ ap (λ n. m ∷ drop n (b ∷ ms)) more

-- so far these are kept, and what is left is kept behind them
abbrev pub KeptSoFar : List Value → List Bool → ℕ → List Value → Type 0
KeptSoFar vs ms i ks = kept_from vs ms ≡ map_out (λ rest. ks ++ rest) (kept_from (drop i vs) (drop i ms))

pub kept_more : (vs : List Value) (ms : List Bool) (i : ℕ) (ks new : List Value) (v : Value) → i < length ms → slice_index_or ms i false ≡ true → slice_get vs i ≡ Some v → new ≡ ks ++ v ∷ [] → KeptSoFar vs ms i ks → KeptSoFar vs ms (i + 1) new
kept_more vs ms i ks new v h m e is so =
    so ∙ (λ j. map_out (λ rest. ks ++ rest) (kept_from (values_left vs i v e j) (marks_left ms i true h m j)))
    ∙ ap (map_out (λ rest. ks ++ rest)) (one_mark v true (drop (i + 1) vs) (drop (i + 1) ms))
    ∙ map_out-map_out (λ r. v ∷ r) (λ rest. ks ++ rest) (kept_from (drop (i + 1) vs) (drop (i + 1) ms))
    ∙ map_out-same (kept_from (drop (i + 1) vs) (drop (i + 1) ms)) _ _ (λ rest. sym (append_assoc ks (v ∷ []) rest) ∙ ap (λ l. l ++ rest) (sym is))

pub kept_less : (vs : List Value) (ms : List Bool) (i : ℕ) (ks : List Value) → i < length ms → length vs ≡ length ms → slice_index_or ms i false ≡ false → KeptSoFar vs ms i ks → KeptSoFar vs ms (i + 1) ks
kept_less vs ms i ks h l m so =
    let there = some_value vs i (omega (arith, h, l)) in
    so ∙ (λ j. map_out (λ rest. ks ++ rest) (kept_from (values_left vs i there.0 there.1 j) (marks_left ms i false h m j)))
    ∙ ap (map_out (λ rest. ks ++ rest)) (one_mark there.0 false (drop (i + 1) vs) (drop (i + 1) ms) ∙ as_it_is (kept_from (drop (i + 1) vs) (drop (i + 1) ms)))
  where
    as_it_is : (o : Outcome (List Value)) → map_out (λ r. r) o ≡ o
    as_it_is (done r) = refl
    as_it_is fault = refl
    as_it_is stuck = refl

pub kept_all : (vs : List Value) (ms : List Bool) (i : ℕ) (ks : List Value) → length ms ≤ i → length vs ≡ length ms → KeptSoFar vs ms i ks → kept_from vs ms ≡ done ks
kept_all vs ms i ks h l so =
    so ∙ (λ j. map_out (λ rest. ks ++ rest) (kept_from (past vs i (omega (arith, h, l)) j) (past ms i h j))) ∙ ap done (append-nil ks)
  where
    past : {A : Type 0} (xs : List A) (i : ℕ) → length xs ≤ i → drop i xs ≡ []
    past [] zero h = refl
    past [] (suc i) h = refl
    past (x ∷ xs) zero h = absurd (omega (arith, h))
    past (x ∷ xs) (suc i) h = past xs i (omega (arith, h))

-- ---- the answer

vector_out : (o : Outcome (List (Value × Bool))) → map_out (λ ps. vector (marked ps)) o ≡ map_out vector (map_out marked o)
vector_out o = sym (map_out-map_out marked vector o)

pub kept_answer : (us vs : List Value) (ms ns : List Bool) (ks : List Value) → us ≡ vs → ms ≡ ns → kept_from us ms ≡ done ks → map_out (λ ps. vector (marked ps)) (paired (list_of_values (values vs)) ns) ≡ done (vector ks)
kept_answer us vs ms ns ks u m h =
    vector_out (paired (list_of_values (values vs)) ns)
    ∙ (λ i. map_out vector (kept_from ((listed vs ∙ sym u) i) (sym m i))) ∙ ap (map_out vector) h

pub kept_fault : (us vs : List Value) (ms ns : List Bool) → us ≡ vs → ms ≡ ns → kept_from us ms ≡ fault → map_out (λ ps. vector (marked ps)) (paired (list_of_values (values vs)) ns) ≡ fault
kept_fault us vs ms ns u m h =
    vector_out (paired (list_of_values (values vs)) ns)
    ∙ (λ i. map_out vector (kept_from ((listed vs ∙ sym u) i) (sym m i))) ∙ ap (map_out vector) h
