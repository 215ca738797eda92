-- Numbers that are merged one after another.
use Rattle.std.proofs.Common.{◌≡◌, ℕ, zero, suc, ◌+◌, ◌<◌, ◌≤◌, ℤ, pos, List, [], ◌∷◌, length, take, drop, map, get_or, Result, Ok, Err, refl, sym, ap, subst, ◌∙◌, arith}
use Rattle.weld_data.specs.declared.stop.Stop.{Stop}
use Rattle.weld_data.specs.declared.stop.Stop.TheVariants.{Fault, Memory}
use Rattle.weld_data.specs.declared.kind.Kind.{Kind}
use Rattle.weld_data.specs.Kind.{IsNarrow, InRange}
use Rattle.weld_data.specs.Value.{number}
use Rattle.weld_builders.specs.Outcome.{done, and_then, map_out}
use Rattle.weld_builders.specs.Part.{Part, list_part, total_part, totals_part, cells_part, keyed_part, groups_part, merge_part}
use Rattle.weld_builders.specs.Range.{AllInRange}
use Rattle.weld_meaning.specs.Thing.{Thing, plain, building, several}
use Rattle.weld_built.specs.Merges.{merge_all, TakesNumbers}
use Rattle.weld_built.specs.State.{MergeAnswer}
use Rattle.weld_acts.specs.Act.{Acts}
use Rattle.weld_eval.specs.Word.{of_word}
use Rattle.weld_eval.proofs.Shorts.{narrow_word}
use Rattle.weld_deeds.specs.Does.{number_done, NumberFits}
use Rattle.weld_blocks.specs.Numbers.{count_of, number_at}
use Rattle.weld_deeds.specs.Puts.{IsPut}
use Rattle.weld_deeds.specs.Through.{done_through, FitsThrough}
use Rattle.weld_blocks.specs.declared.numbers.Numbers.{Numbers}

-- a number that is put is merged
pub put_done : (p : Part) (k : Kind) (x : ℤ) → IsPut (building p) (number k x) → (q : Part) × (merge_part p (number k x) ≡ done q)
put_done (list_part vs) k x h = (_, refl)
put_done (total_part op m y) k x h = (_, refl)
put_done (totals_part op xs) k x h = absurd h
put_done (cells_part op m xs) k x h = absurd h
put_done (keyed_part op m n) k x h = absurd h
put_done (groups_part m) k x h = absurd h

pub numbers_there : (c : Numbers) (j n : ℕ) (s : Thing) → FitsThrough (number_done c) (NumberFits c) j n s → 0 < n → j + n ≤ count_of c
numbers_there c j zero s h less = absurd (omega (arith, less))
numbers_there c j (suc zero) s h less = omega (arith, h.0.0)
numbers_there c j (suc (suc n)) (plain v) h less = absurd h.0.1
numbers_there c j (suc (suc n)) (building p) h less =
    let q = put_done p c.kind (of_word c.kind (get_or c.items.items j (pos 0))) h.0.1 in
    let rest = numbers_there c (suc j) (suc n) (building q.0) (h.1 (building q.0) (ap (map_out building) q.1)) (omega arith) in
    omega (arith, rest)
numbers_there c j (suc (suc n)) (several ts) h less = absurd h.0.1

-- as many are taken as are asked for
pub taken_length : (c : Numbers) (n : ℕ) (s : Thing) (xs : List ℤ) → FitsThrough (number_done c) (NumberFits c) 0 n s → 0 < n → xs ≡ c.items.items → n ≡ length (take n xs)
taken_length c n s xs h less e =
    let there : n ≤ length c.items.items = omega (arith, numbers_there c 0 n s h less) in
    long n xs (subst (λ (ys : List ℤ). n ≤ length ys) (sym e) there)
  where
    long : (m : ℕ) (ys : List ℤ) → m ≤ length ys → m ≡ length (take m ys)
    long zero ys l = refl
    long (suc m) [] l = absurd (omega (arith, l))
    long (suc m) (y ∷ ys) l = ap suc (long m ys (omega (arith, l)))

pub numbers_taken : (c : Numbers) (n : ℕ) (p : Part) → FitsThrough (number_done c) (NumberFits c) 0 n (building p) → 0 < n → TakesNumbers p c.kind
numbers_taken c zero p h less = absurd (omega (arith, less))
numbers_taken c (suc n) p h less = by p h.0.1
  where
    by : (q : Part) → IsPut (building q) (number_at c 0) → TakesNumbers q c.kind
    by (list_part vs) k = tt
    by (total_part op m y) k = k.0
    by (totals_part op xs) k = absurd k
    by (cells_part op m xs) k = absurd k
    by (keyed_part op m o) k = absurd k
    by (groups_part m) k = absurd k

-- nothing but a builder takes numbers
pub put_none : (c : Numbers) (n : ℕ) (s : Thing) → FitsThrough (number_done c) (NumberFits c) 0 n s → 0 < n → (p : Part) × (s ≡ building p)
put_none c zero s h less = absurd (omega (arith, less))
put_none c (suc n) (plain v) h less = absurd h.0.1
put_none c (suc n) (building p) h less = (p, refl)
put_none c (suc n) (several ts) h less = absurd h.0.1

-- the numbers from a place on
pub rest_from : (xs : List ℤ) (j : ℕ) → j < length xs → drop j xs ≡ get_or xs j (pos 0) ∷ drop (suc j) xs
rest_from [] j l = absurd (omega arith)
rest_from (x ∷ xs) zero l = refl
rest_from (x ∷ xs) (suc j) l = rest_from xs j (omega arith)

-- merged row by row they are merged as a list
as_list : (c : Numbers) (j n : ℕ) (p : Part) → IsNarrow c.kind → FitsThrough (number_done c) (NumberFits c) j n (building p)
    → done_through (number_done c) j n (building p) ≡ map_out building (merge_all p (map (number c.kind) (take n (drop j c.items.items))))
as_list c j zero p narrow h = refl
as_list c j (suc n) p narrow h =
    let x = get_or c.items.items j (pos 0) in
    let word = narrow_word c.kind x narrow in
    let q = put_done p c.kind (of_word c.kind x) h.0.1 in
    let next = as_list c (suc j) n q.0 narrow (h.1 (building q.0) (ap (map_out building) q.1)) in
    ap (λ o. and_then (map_out building o) (λ t. done_through (number_done c) (suc j) n t)) q.1
    ∙ next
    ∙ sym (ap (λ o. map_out building (and_then o (λ r. merge_all r (map (number c.kind) (take n (drop (suc j) c.items.items)))))) q.1)
    ∙ ap (λ z. map_out building (and_then (merge_part p (number c.kind z)) (λ r. merge_all r (map (number c.kind) (take n (drop (suc j) c.items.items)))))) word
    ∙ ap (λ xs. map_out building (merge_all p (map (number c.kind) (take (suc n) xs)))) (sym (rest_from c.items.items j h.0.0))

all_put : {T : Type 0} (r : Result T Stop) (c : Numbers) (n : ℕ) (p q : Part) → IsNarrow c.kind → FitsThrough (number_done c) (NumberFits c) 0 n (building p)
    → MergeAnswer r (merge_all p (map (number c.kind) (take n c.items.items))) q → Acts r (done_through (number_done c) 0 n (building p)) (building q)
all_put (Ok x) c n p q k h e = as_list c 0 n p k h ∙ ap (map_out building) e
all_put (Err Fault) c n p q k h e = as_list c 0 n p k h ∙ ap (map_out building) e
all_put (Err Memory) c n p q k h e = tt

pub put_all : {T : Type 0} (r : Result T Stop) (c : Numbers) (n : ℕ) (s : Thing) (p q : Part) (xs : List ℤ) → IsNarrow c.kind → s ≡ building p → xs ≡ c.items.items → FitsThrough (number_done c) (NumberFits c) 0 n s
    → MergeAnswer r (merge_all p (map (number c.kind) (take n xs))) q → Acts r (done_through (number_done c) 0 n s) (building q)
put_all r c n s p q xs k is e h m =
    subst (λ (t : Thing). Acts r (done_through (number_done c) 0 n t) (building q)) (sym is)
    (all_put r c n p q k (subst (FitsThrough (number_done c) (NumberFits c) 0 n) is h) (subst (λ (ys : List ℤ). MergeAnswer r (merge_all p (map (number c.kind) (take n ys))) q) e m))

-- numbers that lie in the range at each place do so altogether
pub all_in_range : (k : Kind) (xs : List ℤ) (n : ℕ) → IsNarrow k → ((i : ℕ) → InRange k (of_word k (get_or xs i (pos 0)))) → AllInRange k (take n xs)
all_in_range k xs zero w h = tt
all_in_range k [] (suc n) w h = tt
all_in_range k (x ∷ xs) (suc n) w h = (subst (InRange k) (narrow_word k x w) (h 0), all_in_range k xs n w (λ i. h (suc i)))
