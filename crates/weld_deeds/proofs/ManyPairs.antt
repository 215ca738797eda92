-- Pairs of numbers that are merged one after another.
use Rattle.std.proofs.Common.{◌≡◌, ℕ, zero, suc, ◌<◌, ◌≤◌, ℤ, pos, List, [], ◌∷◌, length, take, drop, zip, get_or, Result, Ok, Err, refl, sym, ap, ap₂, subst, ◌∙◌, arith}
use Rattle.weld_data.specs.declared.stop.Stop.{Stop}
use Rattle.weld_data.specs.declared.stop.Stop.TheVariants.{Fault, Memory}
use Rattle.weld_data.specs.declared.kind.Kind.{Kind}
use Rattle.weld_data.specs.declared.op.MergeOp.{MergeOp}
use Rattle.weld_data.specs.Kind.{IsNarrow}
use Rattle.weld_data.specs.Value.{number}
use Rattle.weld_builders.specs.Outcome.{Outcome, done, fault, stuck, and_then, map_out}
use Rattle.weld_builders.specs.Part.{Part, Totals, list_part, total_part, totals_part, cells_part, keyed_part, groups_part, kinds_of, merge_part}
use Rattle.weld_meaning.specs.Thing.{Thing, plain, building, several}
use Rattle.weld_built.specs.Logged.{IsItemOf}
use Rattle.weld_built.specs.Merges.{merge_all, TakesPairs}
use Rattle.weld_built.specs.Pair.{pair, number_pairs}
use Rattle.weld_built.specs.State.{MergeAnswer}
use Rattle.weld_acts.specs.Act.{Acts}
use Rattle.weld_eval.proofs.Shorts.{narrow_word}
use Rattle.weld_deeds.specs.Does.{pair_done, PairFits}
use Rattle.weld_blocks.specs.Numbers.{number_at}
use Rattle.weld_deeds.specs.Puts.{IsPut}
use Rattle.weld_deeds.specs.Through.{done_through, FitsThrough}
use Rattle.weld_blocks.specs.declared.numbers.Numbers.{Numbers}
use Rattle.weld_deeds.proofs.ManyPuts.{rest_from}

-- nothing but a builder takes pairs
pub pairs_on : (c d : Numbers) (n : ℕ) (s : Thing) → FitsThrough (pair_done c d) (PairFits c d) 0 n s → 0 < n → (p : Part) × (s ≡ building p)
pairs_on c d zero s h less = absurd (omega (arith, less))
pairs_on c d (suc n) (plain v) h less = absurd h.0.2
pairs_on c d (suc n) (building p) h less = (p, refl)
pairs_on c d (suc n) (several ts) h less = absurd h.0.2

pub part_is : (a b : Part) → building a ≡ building b → a ≡ b
part_is a b q = cc

two_kinds : (op : MergeOp) (xs : Totals) (k m : Kind) (x y : ℤ) → IsItemOf (totals_part op xs) (pair (number k x) (number m y)) → kinds_of xs ≡ k ∷ m ∷ []
two_kinds op [] k m x y h = absurd h
two_kinds op (a ∷ []) k m x y h = absurd h.1
two_kinds op (a ∷ b ∷ []) k m x y h = λ j. sym h.0.0 j ∷ sym h.1.0.0 j ∷ []
two_kinds op (a ∷ b ∷ e ∷ xs) k m x y h = absurd h.1.1

-- what takes one pair is a builder that takes others
pub item_taken : (c d : Numbers) (j : ℕ) (s : Thing) → IsPut s (pair (number_at c j) (number_at d j)) → (p : Part) × (s ≡ building p) × TakesPairs p c.kind d.kind
item_taken c d j (plain v) h = absurd h
item_taken c d j (building p) h = (p, refl, by p h)
  where
    by : (q : Part) → IsPut (building q) (pair (number_at c j) (number_at d j)) → TakesPairs q c.kind d.kind
    by (list_part vs) k = tt
    by (total_part op m y) k = absurd k
    by (totals_part op xs) k = two_kinds op xs c.kind d.kind _ _ k
    by (cells_part op m xs) k = (k.0.0, k.1.0)
    by (keyed_part op m o) k = k.1.0
    by (groups_part m) k = tt
item_taken c d j (several ts) h = absurd h

pub pairs_taken : (c d : Numbers) (n : ℕ) (s : Thing) (p : Part) → s ≡ building p → FitsThrough (pair_done c d) (PairFits c d) 0 n s → 0 < n → TakesPairs p c.kind d.kind
pairs_taken c d zero s p e h less = absurd (omega (arith, less))
pairs_taken c d (suc n) s p e h less = let taken = item_taken c d 0 s h.0.2 in subst (λ (q : Part). TakesPairs q c.kind d.kind) (part_is _ p (sym taken.1 ∙ e)) taken.2

-- merged row by row they are merged as a list, which ends where there is a fault
as_list : (c d : Numbers) (j n : ℕ) (p : Part) → IsNarrow c.kind → IsNarrow d.kind → FitsThrough (pair_done c d) (PairFits c d) j n (building p)
    → done_through (pair_done c d) j n (building p) ≡ map_out building (merge_all p (number_pairs c.kind d.kind (zip (take n (drop j c.items.items)) (take n (drop j d.items.items)))))
as_list c d j zero p k m h = refl
as_list c d j (suc n) p k m h =
    let x = get_or c.items.items j (pos 0) in
    let y = get_or d.items.items j (pos 0) in
    ap₂ (λ u v. and_then (map_out building (merge_part p (pair (number c.kind u) (number d.kind v)))) (λ t. done_through (pair_done c d) (suc j) n t)) (narrow_word c.kind x k) (narrow_word d.kind y m)
    ∙ by (λ q f. as_list c d (suc j) n q k m f) (merge_part p (pair (number c.kind x) (number d.kind y))) (λ q e. h.1 (building q) (ap₂ (λ u v. map_out building (merge_part p (pair (number c.kind u) (number d.kind v)))) (narrow_word c.kind x k) (narrow_word d.kind y m) ∙ ap (map_out building) e))
    ∙ ap₂ (λ us vs. map_out building (merge_all p (number_pairs c.kind d.kind (zip (take (suc n) us) (take (suc n) vs))))) (sym (rest_from c.items.items j h.0.0)) (sym (rest_from d.items.items j h.0.1))
  where
    by : ((q : Part) → FitsThrough (pair_done c d) (PairFits c d) (suc j) n (building q) → done_through (pair_done c d) (suc j) n (building q) ≡ map_out building (merge_all q (number_pairs c.kind d.kind (zip (take n (drop (suc j) c.items.items)) (take n (drop (suc j) d.items.items))))))
        → (o : Outcome Part) → ((q : Part) → o ≡ done q → FitsThrough (pair_done c d) (PairFits c d) (suc j) n (building q))
        → and_then (map_out building o) (λ t. done_through (pair_done c d) (suc j) n t) ≡ map_out building (and_then o (λ q. merge_all q (number_pairs c.kind d.kind (zip (take n (drop (suc j) c.items.items)) (take n (drop (suc j) d.items.items))))))
    by rest (done q) f = rest q (f q refl)
    by rest fault f = refl
    by rest stuck f = refl

-- as many pairs as both have
short_zip : (r n : ℕ) (ks ns : List ℤ) → r ≤ n → r ≤ length ks → r ≤ length ns → (r < n → r < length ks → r < length ns → ⊥) → zip (take r ks) (take r ns) ≡ zip (take n ks) (take n ns)
short_zip zero zero ks ns a b c h = refl
short_zip zero (suc n) [] ns a b c h = refl
short_zip zero (suc n) (k ∷ ks) [] a b c h = refl
short_zip zero (suc n) (k ∷ ks) (x ∷ ns) a b c h = absurd (h (omega arith) (omega arith) (omega arith))
short_zip (suc r) zero ks ns a b c h = absurd (omega (arith, a))
short_zip (suc r) (suc n) [] ns a b c h = absurd (omega (arith, b))
short_zip (suc r) (suc n) (k ∷ ks) [] a b c h = absurd (omega (arith, c))
short_zip (suc r) (suc n) (k ∷ ks) (x ∷ ns) a b c h =
    ap (λ zs. (k, x) ∷ zs) (short_zip r n ks ns (omega (arith, a)) (omega (arith, b)) (omega (arith, c)) (λ p q s. h (omega (arith, p)) (omega (arith, q)) (omega (arith, s))))

all_put : {T : Type 0} (r : Result T Stop) (c d : Numbers) (n : ℕ) (p q : Part) → IsNarrow c.kind → IsNarrow d.kind → FitsThrough (pair_done c d) (PairFits c d) 0 n (building p)
    → MergeAnswer r (merge_all p (number_pairs c.kind d.kind (zip (take n c.items.items) (take n d.items.items)))) q → Acts r (done_through (pair_done c d) 0 n (building p)) (building q)
all_put (Ok x) c d n p q k m h e = as_list c d 0 n p k m h ∙ ap (map_out building) e
all_put (Err Fault) c d n p q k m h e = as_list c d 0 n p k m h ∙ ap (map_out building) e
all_put (Err Memory) c d n p q k m h e = tt

pub pairs_put : {T : Type 0} (r : Result T Stop) (c d : Numbers) (n rows : ℕ) (s : Thing) (p q : Part) (xs ys : List ℤ) → IsNarrow c.kind → IsNarrow d.kind → s ≡ building p → xs ≡ c.items.items → ys ≡ d.items.items
    → rows ≤ n → rows ≤ length c.items.items → rows ≤ length d.items.items → (rows < n → rows < length c.items.items → rows < length d.items.items → ⊥) → FitsThrough (pair_done c d) (PairFits c d) 0 n s
    → MergeAnswer r (merge_all p (number_pairs c.kind d.kind (zip (take rows xs) (take rows ys)))) q → Acts r (done_through (pair_done c d) 0 n s) (building q)
pairs_put r c d n rows s p q xs ys k m is e f a b u h fit answer =
    let same : zip (take rows xs) (take rows ys) ≡ zip (take n c.items.items) (take n d.items.items) = ap₂ (λ us vs. zip (take rows us) (take rows vs)) e f ∙ short_zip rows n c.items.items d.items.items a b u h in
    subst (λ (t : Thing). Acts r (done_through (pair_done c d) 0 n t) (building q)) (sym is)
    (all_put r c d n p q k m (subst (FitsThrough (pair_done c d) (PairFits c d) 0 n) is fit) (subst (λ es. MergeAnswer r (merge_all p (number_pairs c.kind d.kind es)) q) same answer))
