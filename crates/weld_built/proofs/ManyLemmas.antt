-- Several numbers merged into a list or a total, and several structs of numbers into totals.
use Rattle.std.proofs.Common.{◌≡◌, ℕ, zero, suc, ℤ, List, [], ◌∷◌, ◌++◌, length, take, drop, map, refl, sym, ap, subst, ◌∙◌}
use Rattle.std.proofs.lemmas.List.{append-nil, append_assoc}
use Rattle.weld_data.specs.declared.kind.Kind.{Kind}
use Rattle.weld_data.specs.declared.op.MergeOp.{MergeOp}
use Rattle.weld_data.specs.Operation.{combination}
use Rattle.weld_data.specs.Structs.{fields_in, structs_in, AreFields, AreStructs}
use Rattle.weld_data.specs.Value.{Value, number}
use Rattle.weld_builders.specs.Outcome.{done, and_then, map_out}
use Rattle.weld_builders.specs.Part.{Part, Totals, list_part, total_part, totals_part, kinds_of, as_numbers, join_totals, merge_totals}
use Rattle.weld_pieces.specs.Total.{Total, part_of_total, combined_all}
use Rattle.weld_pieces.specs.Totals.{FieldTotals, part_of_totals, kinded, rows_joined}
use Rattle.weld_built.specs.Merges.{merge_all, TakesNumbers}
use Rattle.weld_built.specs.State.{part_of_state}
use Rattle.weld_built.specs.declared.built.State.{State}
use Rattle.weld_built.specs.declared.built.State.TheVariants as states

pub merged_list : (vs ws : List Value) → merge_all (list_part vs) ws ≡ done (list_part (vs ++ ws))
merged_list vs [] = ap (λ us. done (list_part us)) (sym (append-nil vs))
merged_list vs (w ∷ ws) = merged_list (vs ++ w ∷ []) ws ∙ ap (λ us. done (list_part us)) (append_assoc vs (w ∷ []) ws)

pub merged_total : (op : MergeOp) (k : Kind) (x : ℤ) (ys : List ℤ) → merge_all (total_part op k x) (map (number k) ys) ≡ done (total_part op k (combined_all op k x ys))
merged_total op k x [] = refl
merged_total op k x (y ∷ ys) = merged_total op k (combination op k x y) ys

pub total_numbers : (s : State) (t u : Total) (kind : Kind) (items : List ℤ) → s ≡ states.Total t → TakesNumbers (part_of_state s) kind → u.op ≡ t.op → u.kind ≡ t.kind → u.value ≡ combined_all t.op t.kind t.value items
    → merge_all (part_of_state s) (map (number kind) items) ≡ done (part_of_total u)
total_numbers s t u kind items e takes op same value =
    let is : kind ≡ t.kind = subst (λ (r : State). TakesNumbers (part_of_state r) kind) e takes in
    ap (λ (r : State). merge_all (part_of_state r) (map (number kind) items)) e
    ∙ ap (λ (m : Kind). merge_all (part_of_total t) (map (number m) items)) is
    ∙ merged_total t.op t.kind t.value items
    ∙ ap (λ (o : MergeOp). done (total_part o t.kind (combined_all t.op t.kind t.value items))) (sym op)
    ∙ ap (λ (m : Kind). done (total_part u.op m (combined_all t.op t.kind t.value items))) (sym same)
    ∙ ap (λ (x : ℤ). done (total_part u.op u.kind x)) (sym value)

-- ---- totals of fields

numbers_in_fields : (ks : List Kind) (ms : List ℤ) → AreFields ks ms → as_numbers (fields_in ks ms) ≡ done (take (length ks) ms)
numbers_in_fields [] ms h = refl
numbers_in_fields (k ∷ ks) [] h = absurd h
numbers_in_fields (k ∷ ks) (m ∷ ms) h = ap (map_out (λ xs. m ∷ xs)) (numbers_in_fields ks ms h.2)

row_merged : (op : MergeOp) (xs : Totals) (ms : List ℤ) → AreFields (kinds_of xs) ms → merge_totals op xs (take (length (kinds_of xs)) ms) ≡ done (join_totals op xs (kinded (kinds_of xs) ms))
row_merged op [] ms h = refl
row_merged op (x ∷ xs) [] h = absurd h
row_merged op (x ∷ xs) (m ∷ ms) h = ap (map_out (λ rest. (x.0, combination op x.0 x.1 m) ∷ rest)) (row_merged op xs ms h.2)

row_kinds_stay : (op : MergeOp) (xs : Totals) (ms : List ℤ) → AreFields (kinds_of xs) ms → kinds_of (join_totals op xs (kinded (kinds_of xs) ms)) ≡ kinds_of xs
row_kinds_stay op [] ms h = refl
row_kinds_stay op (x ∷ xs) [] h = absurd h
row_kinds_stay op (x ∷ xs) (m ∷ ms) h = ap (λ is. x.0 ∷ is) (row_kinds_stay op xs ms h.2)

rows_merged : (op : MergeOp) (n : ℕ) (xs : Totals) (ms : List ℤ) → AreStructs n (kinds_of xs) ms → merge_all (totals_part op xs) (structs_in n (kinds_of xs) ms) ≡ done (totals_part op (rows_joined op xs ms n))
rows_merged op zero xs ms h = refl
rows_merged op (suc n) xs ms h =
    let ks = kinds_of xs in
    let ys = join_totals op xs (kinded ks ms) in
    let more = drop (length ks) ms in
    let same : kinds_of ys ≡ ks = row_kinds_stay op xs ms h.0 in
    ap (λ o. and_then (and_then o (λ zs. map_out (totals_part op) (merge_totals op xs zs))) (λ q. merge_all q (structs_in n ks more))) (numbers_in_fields ks ms h.0)
    ∙ ap (λ o. and_then (map_out (totals_part op) o) (λ q. merge_all q (structs_in n ks more))) (row_merged op xs ms h.0)
    ∙ ap (λ (is : List Kind). merge_all (totals_part op ys) (structs_in n is more)) (sym same)
    ∙ rows_merged op n ys more (subst (λ (is : List Kind). AreStructs n is more) (sym same) h.1)

pub merged_rows : (op : MergeOp) (n : ℕ) (xs : Totals) (ks : List Kind) (ms : List ℤ) → kinds_of xs ≡ ks → AreStructs n ks ms → merge_all (totals_part op xs) (structs_in n ks ms) ≡ done (totals_part op (rows_joined op xs ms n))
merged_rows op n xs ks ms e h =
    ap (λ (is : List Kind). merge_all (totals_part op xs) (structs_in n is ms)) (sym e) ∙ rows_merged op n xs ms (subst (λ (is : List Kind). AreStructs n is ms) (sym e) h)

pub totals_rows : (p : Part) (t u : FieldTotals) (n : ℕ) (ks : List Kind) (ms : List ℤ) (vs : List Value) → p ≡ part_of_totals t → kinds_of t.totals ≡ ks → AreStructs n ks ms → structs_in n ks ms ≡ vs → u.op ≡ t.op → u.totals ≡ rows_joined t.op t.totals ms n
    → merge_all p vs ≡ done (part_of_totals u)
totals_rows p t u n ks ms vs e same h are op is =
    ap (λ (q : Part). merge_all q vs) e
    ∙ ap (λ (ws : List Value). merge_all (part_of_totals t) ws) (sym are)
    ∙ merged_rows t.op n t.totals ks ms same h
    ∙ ap (λ (o : MergeOp). done (totals_part o (rows_joined t.op t.totals ms n))) (sym op)
    ∙ ap (λ (xs : Totals). done (totals_part u.op xs)) (sym is)
