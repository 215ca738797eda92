-- Pairs of numbers merged one after another.
use Rattle.std.proofs.Common.{◌≡◌, ℕ, zero, suc, ◌+◌, ◌<◌, ◌≤◌, ℤ, pos, Option, Some, List, [], ◌∷◌, length, drop, zip, slice_index_or, Result, refl, sym, ap, ap₂, subst, ◌∙◌, arith, add-one}
use Rattle.weld_data.specs.declared.kind.Kind.{Kind}
use Rattle.weld_data.specs.declared.kind.Kind.TheVariants as kinds
use Rattle.weld_data.specs.declared.op.MergeOp.{MergeOp}
use Rattle.weld_data.specs.declared.stop.Stop.{Stop}
use Rattle.weld_data.specs.Kind.{InRange}
use Rattle.weld_data.specs.Value.{number, and_value, no_values}
use Rattle.weld_builders.specs.Outcome.{Outcome, done, fault, stuck, and_then, map_out}
use Rattle.weld_builders.specs.Part.{Part, list_part, total_part, totals_part, cells_part, keyed_part, groups_part, combined, merge_cell, merge_key, merge_part}
use Rattle.weld_builders.specs.Range.{AllInRange}
use Rattle.weld_builders.specs.ValueOrder.{ValueMap}
use Rattle.weld_pieces.specs.Kept.{AreNumbersOf}
use Rattle.weld_pieces.specs.Keyed.{Keyed, part_of_keyed, by_value, merged_from, KeysAreKept}
use Rattle.weld_pieces.proofs.CellLemmas.{rest_at}
use Rattle.weld_pieces.proofs.KeptKeys.{kept_after_merge}
use Rattle.weld_built.specs.CellsState.{part_of_cells_state, kind_of_cells}
use Rattle.weld_built.specs.Logged.{IsItemOf}
use Rattle.weld_built.specs.Merges.{merge_all, TakesPairs}
use Rattle.weld_built.specs.Pair.{pair, number_pairs}
use Rattle.weld_built.specs.State.{MergeAnswer, part_of_state, AreKeys}
use Rattle.weld_built.specs.declared.built.State.{State}
use Rattle.weld_built.specs.declared.built.State.TheVariants as states
use Rattle.weld_built.specs.declared.cells.Cells.{Cells}
use Rattle.weld_built.specs.declared.cells.Cells.TheVariants as cells
use Rattle.weld_built.proofs.KeyLemmas.{number_is_kept}

-- ---- what pairs are to a builder

pub takes_item : (p : Part) (key kind : Kind) (x y : ℤ) → TakesPairs p key kind → InRange key x → InRange kind y → IsItemOf p (pair (number key x) (number kind y))
takes_item (list_part vs) key kind x y h f g = tt
takes_item (total_part op k z) key kind x y h f g = absurd h
takes_item (totals_part op xs) key kind x y h f g =
    subst (λ ks. AreNumbersOf ks (and_value (number key x) (and_value (number kind y) no_values))) (sym h) ((refl, f), ((refl, g), tt))
takes_item (cells_part op k xs) key kind x y h f g = ((h.0, subst (λ m. InRange m x) h.0 f), (h.1, subst (λ m. InRange m y) h.1 g))
takes_item (keyed_part op k m) key kind x y h f g = (tt, (h, subst (λ m. InRange m y) h g))
takes_item (groups_part m) key kind x y h f g = (tt, tt)

done_is : {A : Type 0} (x y : A) → done x ≡ done y → x ≡ y
done_is x y e = cc

-- a builder that has merged one takes others
pub takes_still : (p q : Part) (key kind : Kind) (x y : ℤ) → TakesPairs p key kind → merge_part p (pair (number key x) (number kind y)) ≡ done q → TakesPairs q key kind
takes_still (list_part vs) q key kind x y h e = subst (λ r. TakesPairs r key kind) (done_is _ q e) tt
takes_still (total_part op k z) q key kind x y h e = absurd h
takes_still (totals_part op []) q key kind x y h e = absurd (let bad : [] ≡ key ∷ kind ∷ [] = h in cc)
takes_still (totals_part op (a ∷ [])) q key kind x y h e = absurd (let bad : a.0 ∷ [] ≡ key ∷ kind ∷ [] = h in cc)
takes_still (totals_part op (a ∷ b ∷ [])) q key kind x y h e = subst (λ r. TakesPairs r key kind) (done_is _ q e) h
takes_still (totals_part op (a ∷ b ∷ c ∷ xs)) q key kind x y h e = absurd (let bad : a.0 ∷ b.0 ∷ c.0 ∷ _ ≡ key ∷ kind ∷ [] = h in cc)
takes_still (cells_part op k xs) q key kind x y h e = by (merge_cell op k xs x y) e
  where
    by : (o : Outcome (List ℤ)) → map_out (cells_part op k) o ≡ done q → TakesPairs q key kind
    by (done ys) f = subst (λ r. TakesPairs r key kind) (done_is _ q f) h
    by fault f = absurd (let bad : fault ≡ done q = f in cc)
    by stuck f = absurd (let bad : stuck ≡ done q = f in cc)
takes_still (keyed_part op k m) q key kind x y h e = subst (λ r. TakesPairs r key kind) (done_is _ q e) h
takes_still (groups_part m) q key kind x y h e = subst (λ r. TakesPairs r key kind) (done_is _ q e) tt

-- ---- one after another

pub pairs_next : (start p q : Part) (key kind : Kind) (ks ns : List ℤ) (i : ℕ) (a b : ℤ) → i < length ks → i < length ns
    → merge_all start (number_pairs key kind (zip ks ns)) ≡ merge_all p (number_pairs key kind (zip (drop i ks) (drop i ns))) → a ≡ slice_index_or ks i (pos 0) → b ≡ slice_index_or ns i (pos 0)
    → merge_part p (pair (number key a) (number kind b)) ≡ done q → merge_all start (number_pairs key kind (zip ks ns)) ≡ merge_all q (number_pairs key kind (zip (drop (i + 1) ks) (drop (i + 1) ns)))
pairs_next start p q key kind ks ns i a b l m so_far f g e =
    so_far
    ∙ ap₂ (λ us vs. merge_all p (number_pairs key kind (zip us vs))) (rest_at ks i l) (rest_at ns i m)
    ∙ ap₂ (λ x y. and_then (merge_part p (pair (number key x) (number kind y))) (λ r. merge_all r (number_pairs key kind (zip (drop (suc i) ks) (drop (suc i) ns))))) (sym f) (sym g)
    ∙ ap (λ (o : Outcome Part). and_then o (λ r. merge_all r (number_pairs key kind (zip (drop (suc i) ks) (drop (suc i) ns))))) e
    ∙ ap (λ j. merge_all q (number_pairs key kind (zip (drop j ks) (drop j ns)))) (sym (add-one i))

none_left : (xs : List ℤ) (i : ℕ) → length xs ≤ i → drop i xs ≡ []
none_left [] zero m = refl
none_left [] (suc i) m = refl
none_left (x ∷ xs) zero m = absurd (omega arith)
none_left (x ∷ xs) (suc i) m = none_left xs i (omega arith)

pub pairs_end : (start p : Part) (key kind : Kind) (ks ns : List ℤ) (i : ℕ) → length ks ≤ i → merge_all start (number_pairs key kind (zip ks ns)) ≡ merge_all p (number_pairs key kind (zip (drop i ks) (drop i ns)))
    → merge_all start (number_pairs key kind (zip ks ns)) ≡ done p
pairs_end start p key kind ks ns i l so_far = so_far ∙ ap (λ us. merge_all p (number_pairs key kind (zip us (drop i ns)))) (none_left ks i l)

-- ---- numbers at keys

keys_all : (op : MergeOp) (k : Kind) (m : ValueMap ℤ) (key : Kind) (es : List (ℤ × ℤ)) → merge_all (keyed_part op k m) (number_pairs key k es) ≡ done (keyed_part op k (merged_from (combined op k) m (by_value (number key) es)))
keys_all op k m key [] = refl
keys_all op k m key (e ∷ es) = keys_all op k (merge_key (combined op k) m (number key e.0) e.1) key es

pub keyed_pairs : (s : State) (alloc : _) (t u : Keyed) (key kind : Kind) (es : List (ℤ × ℤ)) → s ≡ states.Keyed alloc t → TakesPairs (part_of_state s) key kind → u.op ≡ t.op → u.kind ≡ t.kind
    → u.numbers ≡ merged_from (combined t.op t.kind) t.numbers (by_value (number key) es) → merge_all (part_of_state s) (number_pairs key kind es) ≡ done (part_of_keyed u)
keyed_pairs s alloc t u key kind es e takes op same is =
    let k : kind ≡ t.kind = subst (λ (r : State). TakesPairs (part_of_state r) key kind) e takes in
    ap (λ (r : State). merge_all (part_of_state r) (number_pairs key kind es)) e
    ∙ ap (λ (m : Kind). merge_all (part_of_keyed t) (number_pairs key m es)) k
    ∙ keys_all t.op t.kind t.numbers key es
    ∙ (λ i. done (keyed_part (sym op i) (sym same i) (sym is i)))

pub key_next : (f : Option ℤ → ℤ → ℤ) (start m n : ValueMap ℤ) (key : Kind) (ks ns : List ℤ) (i : ℕ) (a b : ℤ) → i < length ks → i < length ns
    → merged_from f start (by_value (number key) (zip ks ns)) ≡ merged_from f m (by_value (number key) (zip (drop i ks) (drop i ns))) → a ≡ slice_index_or ks i (pos 0) → b ≡ slice_index_or ns i (pos 0)
    → n ≡ merge_key f m (number key a) b → merged_from f start (by_value (number key) (zip ks ns)) ≡ merged_from f n (by_value (number key) (zip (drop (i + 1) ks) (drop (i + 1) ns)))
key_next f start m n key ks ns i a b l j so_far p q e =
    so_far
    ∙ ap₂ (λ us vs. merged_from f m (by_value (number key) (zip us vs))) (rest_at ks i l) (rest_at ns i j)
    ∙ ap₂ (λ x y. merged_from f (merge_key f m (number key x) y) (by_value (number key) (zip (drop (suc i) ks) (drop (suc i) ns)))) (sym p) (sym q)
    ∙ ap (λ r. merged_from f r (by_value (number key) (zip (drop (suc i) ks) (drop (suc i) ns)))) (sym e)
    ∙ ap (λ h. merged_from f n (by_value (number key) (zip (drop h ks) (drop h ns)))) (sym (add-one i))

pub keys_end : (f : Option ℤ → ℤ → ℤ) (start m : ValueMap ℤ) (key : Kind) (ks ns : List ℤ) (i : ℕ) → length ks ≤ i
    → merged_from f start (by_value (number key) (zip ks ns)) ≡ merged_from f m (by_value (number key) (zip (drop i ks) (drop i ns))) → m ≡ merged_from f start (by_value (number key) (zip ks ns))
keys_end f start m key ks ns i l so_far = sym (so_far ∙ ap (λ us. merged_from f m (by_value (number key) (zip us (drop i ns)))) (none_left ks i l))

-- keys that can be kept, and others of their kind
many_kept : (f : Option ℤ → ℤ → ℤ) (key : Option Kind) (kind : Kind) (m : ValueMap ℤ) (ks ns : List ℤ) → key ≡ Some kind → AllInRange kind ks → KeysAreKept key m → KeysAreKept key (merged_from f m (by_value (number kind) (zip ks ns)))
many_kept f key kind m [] ns e r h = h
many_kept f key kind m (k ∷ ks) [] e r h = h
many_kept f key kind m (k ∷ ks) (n ∷ ns) e r h =
    many_kept f key kind (merge_key f m (number kind k) n) ks ns e r.1 (kept_after_merge key f m (number kind k) n h (number_is_kept key kind k e r.0))

pub pairs_are_keys : (f : Option ℤ → ℤ → ℤ) (key new_key : Option Kind) (kind : Kind) (m new : ValueMap ℤ) (ks ns : List ℤ) → AreKeys key m → key ≡ Some kind → AllInRange kind ks
    → new ≡ merged_from f m (by_value (number kind) (zip ks ns)) → new_key ≡ key → AreKeys new_key new
pairs_are_keys f key new_key kind m new ks ns h e r is same =
    subst (λ o. AreKeys o new) (sym same) (subst (AreKeys key) (sym is) (record { kept = many_kept f key kind m ks ns e r h.kept }))

-- ---- cells

cells_take : (c : Cells) (key kind : Kind) → TakesPairs (part_of_cells_state c) key kind → (key ≡ kinds.I64) × (kind ≡ kind_of_cells c)
cells_take (cells.Bare alloc s) key kind h = h
cells_take (cells.Kept c) key kind h = h

pub cells_kind : (s : State) (c : Cells) (key kind : Kind) → s ≡ states.Cells c → TakesPairs (part_of_state s) key kind → (key ≡ kinds.I64) × (kind ≡ kind_of_cells c)
cells_kind s c key kind e h = cells_take c key kind (subst (λ (r : State). TakesPairs (part_of_state r) key kind) e h)

pub cells_pairs : {T : Type 0} (r : Result T Stop) (s : State) (c : Cells) (q : Part) (key kind : Kind) (es : List (ℤ × ℤ)) → s ≡ states.Cells c → TakesPairs (part_of_state s) key kind
    → MergeAnswer r (merge_all (part_of_cells_state c) (number_pairs kinds.I64 (kind_of_cells c) es)) q → MergeAnswer r (merge_all (part_of_state s) (number_pairs key kind es)) q
cells_pairs r s c q key kind es e takes h =
    let k = cells_kind s c key kind e takes in
    subst (λ (o : Outcome Part). MergeAnswer r o q)
    (ap (λ (m : Kind). merge_all (part_of_cells_state c) (number_pairs m (kind_of_cells c) es)) (sym k.0)
    ∙ ap (λ (m : Kind). merge_all (part_of_cells_state c) (number_pairs key m es)) (sym k.1)
    ∙ ap (λ (t : State). merge_all (part_of_state t) (number_pairs key kind es)) (sym e)) h
