-- Laws of the join of parts.
use Rattle.std.proofs.Common.{◌≡◌, ℕ, zero, suc, ℤ, pos, negsuc, Option, Some, None, List, [], ◌∷◌, length, slice_get, append_assoc, append-nil, ap, sym, refl, ◌∙◌}
use Rattle.std.specs.List.{slice_set}
use Rattle.weld_data.specs.declared.kind.Kind.{Kind}
use Rattle.weld_data.specs.declared.op.MergeOp.{MergeOp}
use Rattle.weld_data.specs.Operation.{combination, start_of}
use Rattle.weld_data.proofs.Operations.{combination_assoc, combination-start_right, combination-start_left}
use Rattle.weld_data.specs.Value.{Value}
use Rattle.weld_builders.specs.ValueOrder.{ValueMap}
use Rattle.weld_builders.specs.Outcome.{Outcome, done, fault, stuck, and_then, map_out, or_fault}
use Rattle.weld_builders.specs.Part.{Part, Totals, list_part, total_part, totals_part, totals_shape, kinds_of, neutral_totals, as_fields, merge_totals, join_totals, totals_of, cells_part, keyed_part, groups_part, cells_shape, shape_of, bare, repeated, as_number, as_pair, merge_cell, merge_key, merge_part, after_part, join_cells, combined, appended, join_maps, items_of, total_of, cells_of, numbers_of, groups_of}
use Rattle.weld_builders.specs.Range.{AllInRange, TotalsInRange, IsInRange}
use Rattle.weld_builders.proofs.Maps.{combined-IsMerging, appended-IsMerging, join_maps-empty, empty-join_maps, join_maps-assoc, merge_key-join_maps}

-- ---- cells

pub length-join_cells : (op : MergeOp) (k : Kind) (xs ys : List ℤ) → length (join_cells op k xs ys) ≡ length ys
length-join_cells op k xs [] = refl
length-join_cells op k [] (y ∷ ys) = refl
length-join_cells op k (x ∷ xs) (y ∷ ys) = ap suc (length-join_cells op k xs ys)

join_cells-assoc : (op : MergeOp) (k : Kind) (xs ys zs : List ℤ) → length ys ≡ length zs → join_cells op k (join_cells op k xs ys) zs ≡ join_cells op k xs (join_cells op k ys zs)
join_cells-assoc op k xs [] [] e = refl
join_cells-assoc op k xs [] (z ∷ zs) e = cc
join_cells-assoc op k xs (y ∷ ys) [] e = refl
join_cells-assoc op k [] (y ∷ ys) (z ∷ zs) e = refl
join_cells-assoc op k (x ∷ xs) (y ∷ ys) (z ∷ zs) e =
    let n : length ys ≡ length zs = cc in
    λ i. combination_assoc op k x y z i ∷ join_cells-assoc op k xs ys zs n i

cells_before : (op : MergeOp) (k : Kind) (xs : List ℤ) → AllInRange k xs → join_cells op k (repeated (start_of op k) (length xs)) xs ≡ xs
cells_before op k [] h = refl
cells_before op k (x ∷ xs) h = λ i. combination-start_left op k x h.0 i ∷ cells_before op k xs h.1 i

cells_behind : (op : MergeOp) (k : Kind) (xs : List ℤ) → AllInRange k xs → join_cells op k xs (repeated (start_of op k) (length xs)) ≡ xs
cells_behind op k [] h = refl
cells_behind op k (x ∷ xs) h = λ i. combination-start_right op k x h.0 i ∷ cells_behind op k xs h.1 i

-- ---- totals of fields

kinds_of-join_totals : (op : MergeOp) (xs ys : Totals) → kinds_of (join_totals op xs ys) ≡ kinds_of ys
kinds_of-join_totals op xs [] = refl
kinds_of-join_totals op [] (y ∷ ys) = refl
kinds_of-join_totals op (x ∷ xs) (y ∷ ys) = λ i. y.0 ∷ kinds_of-join_totals op xs ys i

join_totals-assoc : (op : MergeOp) (xs ys zs : Totals) → kinds_of ys ≡ kinds_of zs → join_totals op (join_totals op xs ys) zs ≡ join_totals op xs (join_totals op ys zs)
join_totals-assoc op xs [] [] e = refl
join_totals-assoc op xs [] (z ∷ zs) e = cc
join_totals-assoc op xs (y ∷ ys) [] e = refl
join_totals-assoc op [] (y ∷ ys) (z ∷ zs) e = refl
join_totals-assoc op (x ∷ xs) (y ∷ ys) (z ∷ zs) e =
    let k : y.0 ≡ z.0 = cc in
    let n : kinds_of ys ≡ kinds_of zs = cc in
    let same : combination op z.0 (combination op y.0 x.1 y.1) z.1 ≡ combination op z.0 x.1 (combination op z.0 y.1 z.1) = ap (λ m. combination op z.0 (combination op m x.1 y.1) z.1) k ∙ combination_assoc op z.0 x.1 y.1 z.1 in
    λ i. (z.0, same i) ∷ join_totals-assoc op xs ys zs n i

totals_before : (op : MergeOp) (xs : Totals) → TotalsInRange xs → join_totals op (neutral_totals op (kinds_of xs)) xs ≡ xs
totals_before op [] h = refl
totals_before op (x ∷ xs) h = λ i. (x.0, combination-start_left op x.0 x.1 h.0 i) ∷ totals_before op xs h.1 i

totals_behind : (op : MergeOp) (xs : Totals) → TotalsInRange xs → join_totals op xs (neutral_totals op (kinds_of xs)) ≡ xs
totals_behind op [] h = refl
totals_behind op (x ∷ xs) h = λ i. (x.0, combination-start_right op x.0 x.1 h.0 i) ∷ totals_behind op xs h.1 i

-- ---- the laws

pub shape_of-after_part : (s d : Part) → shape_of (after_part s d) ≡ shape_of d
shape_of-after_part s (list_part vs) = refl
shape_of-after_part s (total_part op k x) = refl
shape_of-after_part s (totals_part op xs) = ap (totals_shape op) (kinds_of-join_totals op (totals_of s) xs)
shape_of-after_part s (cells_part op k xs) = ap (cells_shape op k) (length-join_cells op k (cells_of s) xs)
shape_of-after_part s (keyed_part op k m) = refl
shape_of-after_part s (groups_part m) = refl

pub bare_before : (d : Part) → IsInRange d → after_part (bare d) d ≡ d
bare_before (list_part vs) h = refl
bare_before (total_part op k x) h = ap (total_part op k) (combination-start_left op k x h)
bare_before (totals_part op xs) h = ap (totals_part op) (totals_before op xs h)
bare_before (cells_part op k xs) h = ap (cells_part op k) (cells_before op k xs h)
bare_before (keyed_part op k m) h = ap (keyed_part op k) (empty-join_maps (combined-IsMerging op k) m)
bare_before (groups_part m) h = ap groups_part (empty-join_maps appended-IsMerging m)

pub bare_behind : (s : Part) → IsInRange s → after_part s (bare s) ≡ s
bare_behind (list_part vs) h = ap list_part (append-nil vs)
bare_behind (total_part op k x) h = ap (total_part op k) (combination-start_right op k x h)
bare_behind (totals_part op xs) h = ap (totals_part op) (totals_behind op xs h)
bare_behind (cells_part op k xs) h = ap (cells_part op k) (cells_behind op k xs h)
bare_behind (keyed_part op k m) h = ap (keyed_part op k) (join_maps-empty (combined-IsMerging op k) m)
bare_behind (groups_part m) h = ap groups_part (join_maps-empty appended-IsMerging m)

combined-assoc : (op : MergeOp) (k : Kind) (o : Option ℤ) (x y : ℤ) → combination op k (combined op k o x) y ≡ combined op k o (combination op k x y)
combined-assoc op k None x y = refl
combined-assoc op k (Some z) x y = combination_assoc op k z x y

same_totals : (r : Option ℤ) (op oq : MergeOp) (k m : Kind) (x y : ℤ) → op ≡ oq → k ≡ m → total_part oq m (combination oq m (combined op k r x) y) ≡ total_part oq m (combined oq m r (combination oq m x y))
same_totals r op oq k m x y o n =
    ap (λ (p : MergeOp × Kind). total_part oq m (combination oq m (combined p.0 p.1 r x) y)) (λ i. (o i, n i))
    ∙ ap (total_part oq m) (combined-assoc oq m r x y)

same_several : (r : Totals) (op oq : MergeOp) (xs ys : Totals) → op ≡ oq → kinds_of xs ≡ kinds_of ys → totals_part oq (join_totals oq (join_totals op r xs) ys) ≡ totals_part oq (join_totals oq r (join_totals oq xs ys))
same_several r op oq xs ys o n =
    ap (λ p. totals_part oq (join_totals oq (join_totals p r xs) ys)) o ∙ ap (totals_part oq) (join_totals-assoc oq r xs ys n)

same_cells : (r : List ℤ) (op oq : MergeOp) (k m : Kind) (xs ys : List ℤ) → op ≡ oq → k ≡ m → length xs ≡ length ys → cells_part oq m (join_cells oq m (join_cells op k r xs) ys) ≡ cells_part oq m (join_cells oq m r (join_cells oq m xs ys))
same_cells r op oq k m xs ys o n l =
    ap (λ (p : MergeOp × Kind). cells_part oq m (join_cells oq m (join_cells p.0 p.1 r xs) ys)) (λ i. (o i, n i))
    ∙ ap (cells_part oq m) (join_cells-assoc oq m r xs ys l)

same_keyed : (r : ValueMap ℤ) (op oq : MergeOp) (k m : Kind) (a b : ValueMap ℤ) → op ≡ oq → k ≡ m → keyed_part oq m (join_maps (combined oq m) (join_maps (combined op k) r a) b) ≡ keyed_part oq m (join_maps (combined oq m) r (join_maps (combined oq m) a b))
same_keyed r op oq k m a b o n =
    ap (λ (p : MergeOp × Kind). keyed_part oq m (join_maps (combined oq m) (join_maps (combined p.0 p.1) r a) b)) (λ i. (o i, n i))
    ∙ ap (keyed_part oq m) (join_maps-assoc (combined-IsMerging oq m) r a b)

pub after_part-assoc : (r s d : Part) → shape_of s ≡ shape_of d → after_part (after_part r s) d ≡ after_part r (after_part s d)
after_part-assoc r (list_part us) (list_part vs) e = ap list_part (append_assoc (items_of r) us vs)
after_part-assoc r (total_part op k x) (total_part oq m y) e =
    let o : op ≡ oq = cc in let n : k ≡ m = cc in
    same_totals (total_of r) op oq k m x y o n
after_part-assoc r (totals_part op xs) (totals_part oq ys) e =
    let o : op ≡ oq = cc in let n : kinds_of xs ≡ kinds_of ys = cc in
    same_several (totals_of r) op oq xs ys o n
after_part-assoc r (cells_part op k xs) (cells_part oq m ys) e =
    let o : op ≡ oq = cc in let n : k ≡ m = cc in let l : length xs ≡ length ys = cc in
    same_cells (cells_of r) op oq k m xs ys o n l
after_part-assoc r (keyed_part op k a) (keyed_part oq m b) e =
    let o : op ≡ oq = cc in let n : k ≡ m = cc in
    same_keyed (numbers_of r) op oq k m a b o n
after_part-assoc r (groups_part a) (groups_part b) e = ap groups_part (join_maps-assoc appended-IsMerging (groups_of r) a b)
after_part-assoc r _ _ e = cc

-- ---- merging into a join

put_first : (op : MergeOp) (k : Kind) (x y : ℤ) (xs ys : List ℤ) (o : Outcome (List ℤ)) (p : Outcome (List ℤ)) → o ≡ map_out (join_cells op k xs) p → map_out (λ zs. combination op k x y ∷ zs) o ≡ map_out (join_cells op k (x ∷ xs)) (map_out (λ zs. y ∷ zs) p)
put_first op k x y xs ys o (done zs) e = ap (map_out (λ zs. combination op k x y ∷ zs)) e
put_first op k x y xs ys o fault e = ap (map_out (λ zs. combination op k x y ∷ zs)) e
put_first op k x y xs ys o stuck e = ap (map_out (λ zs. combination op k x y ∷ zs)) e

-- the cell at an index of a longer list
cell_later : (op : MergeOp) (k : Kind) (x : ℤ) (xs : List ℤ) (i : ℕ) (z : ℤ) → merge_cell op k (x ∷ xs) (pos (suc i)) z ≡ map_out (λ zs. x ∷ zs) (merge_cell op k xs (pos i) z)
cell_later op k x xs i z = by (slice_get xs i)
  where
    by : (o : Option ℤ) → map_out (λ w. x ∷ slice_set xs i (combination op k w z)) (or_fault o) ≡ map_out (λ zs. x ∷ zs) (map_out (λ w. slice_set xs i (combination op k w z)) (or_fault o))
    by None = refl
    by (Some w) = refl

merge_cell-join_cells : (op : MergeOp) (k : Kind) (xs ys : List ℤ) (i : ℕ) (z : ℤ) → merge_cell op k (join_cells op k xs ys) (pos i) z ≡ map_out (join_cells op k xs) (merge_cell op k ys (pos i) z)
merge_cell-join_cells op k xs [] i z = refl
merge_cell-join_cells op k [] (y ∷ ys) zero z = refl
merge_cell-join_cells op k (x ∷ xs) (y ∷ ys) zero z = ap (λ w. done (w ∷ join_cells op k xs ys)) (combination_assoc op k x y z)
merge_cell-join_cells op k [] (y ∷ ys) (suc i) z = nothing_before (merge_cell op k (y ∷ ys) (pos (suc i)) z)
  where
    nothing_before : (o : Outcome (List ℤ)) → o ≡ map_out (join_cells op k []) o
    nothing_before (done zs) = ap done (sym (none_before zs))
      where
        none_before : (zs : List ℤ) → join_cells op k [] zs ≡ zs
        none_before [] = refl
        none_before (w ∷ ws) = refl
    nothing_before fault = refl
    nothing_before stuck = refl
merge_cell-join_cells op k (x ∷ xs) (y ∷ ys) (suc i) z =
    cell_later op k (combination op k x y) (join_cells op k xs ys) i z
    ∙ put_first op k x y xs ys _ _ (merge_cell-join_cells op k xs ys i z)
    ∙ ap (map_out (join_cells op k (x ∷ xs))) (sym (cell_later op k y ys i z))

merge_cell-after : (op : MergeOp) (k : Kind) (xs ys : List ℤ) (i z : ℤ) → merge_cell op k (join_cells op k xs ys) i z ≡ map_out (join_cells op k xs) (merge_cell op k ys i z)
merge_cell-after op k xs ys (pos i) z = merge_cell-join_cells op k xs ys i z
merge_cell-after op k xs ys (negsuc i) z = refl

merge_totals-after : (op : MergeOp) (xs ds : Totals) (ys : List ℤ) → merge_totals op (join_totals op xs ds) ys ≡ map_out (join_totals op xs) (merge_totals op ds ys)
merge_totals-after op xs [] [] = refl
merge_totals-after op xs [] (y ∷ ys) = refl
merge_totals-after op [] (d ∷ ds) [] = refl
merge_totals-after op (x ∷ xs) (d ∷ ds) [] = refl
merge_totals-after op [] (d ∷ ds) (y ∷ ys) = alone (merge_totals op ds ys)
  where
    alone : (o : Outcome Totals) → map_out (λ rest. (d.0, combination op d.0 d.1 y) ∷ rest) o ≡ map_out (join_totals op []) (map_out (λ rest. (d.0, combination op d.0 d.1 y) ∷ rest) o)
    alone (done zs) = refl
    alone fault = refl
    alone stuck = refl
merge_totals-after op (x ∷ xs) (d ∷ ds) (y ∷ ys) =
    ap (map_out (λ rest. (d.0, combination op d.0 (combination op d.0 x.1 d.1) y) ∷ rest)) (merge_totals-after op xs ds ys) ∙ both (merge_totals op ds ys)
  where
    both : (o : Outcome Totals) → map_out (λ rest. (d.0, combination op d.0 (combination op d.0 x.1 d.1) y) ∷ rest) (map_out (join_totals op xs) o) ≡ map_out (join_totals op (x ∷ xs)) (map_out (λ rest. (d.0, combination op d.0 d.1 y) ∷ rest) o)
    both (done zs) = ap (λ z. done ((d.0, z) ∷ join_totals op xs zs)) (combination_assoc op d.0 x.1 d.1 y)
    both fault = refl
    both stuck = refl

pub merge_part-after_part : (s d : Part) (v : Value) → merge_part (after_part s d) v ≡ map_out (after_part s) (merge_part d v)
merge_part-after_part s (list_part us) v = ap (λ vs. done (list_part vs)) (append_assoc (items_of s) us (v ∷ []))
merge_part-after_part s (total_part op k x) v = by (as_number v)
  where
    by : (o : Outcome ℤ) → map_out (λ y. total_part op k (combination op k (combined op k (total_of s) x) y)) o ≡ map_out (after_part s) (map_out (λ y. total_part op k (combination op k x y)) o)
    by (done y) = ap (λ z. done (total_part op k z)) (combined-assoc op k (total_of s) x y)
    by fault = refl
    by stuck = refl
merge_part-after_part s (totals_part op xs) v = fields (as_fields v)
  where
    total : (o : Outcome Totals) → map_out (totals_part op) (map_out (join_totals op (totals_of s)) o) ≡ map_out (after_part s) (map_out (totals_part op) o)
    total (done zs) = refl
    total fault = refl
    total stuck = refl

    fields : (o : Outcome (List ℤ)) → and_then o (λ ys. map_out (totals_part op) (merge_totals op (join_totals op (totals_of s) xs) ys)) ≡ map_out (after_part s) (and_then o (λ ys. map_out (totals_part op) (merge_totals op xs ys)))
    fields (done ys) = ap (map_out (totals_part op)) (merge_totals-after op (totals_of s) xs ys) ∙ total (merge_totals op xs ys)
    fields fault = refl
    fields stuck = refl
merge_part-after_part s (cells_part op k xs) v = pairs (as_pair v)
  where
    cell : (o : Outcome (List ℤ)) → map_out (cells_part op k) (map_out (join_cells op k (cells_of s)) o) ≡ map_out (after_part s) (map_out (cells_part op k) o)
    cell (done zs) = refl
    cell fault = refl
    cell stuck = refl

    number : (i : ℤ) (o : Outcome ℤ) → and_then o (λ y. map_out (cells_part op k) (merge_cell op k (join_cells op k (cells_of s) xs) i y)) ≡ map_out (after_part s) (and_then o (λ y. map_out (cells_part op k) (merge_cell op k xs i y)))
    number i (done y) = ap (map_out (cells_part op k)) (merge_cell-after op k (cells_of s) xs i y) ∙ cell (merge_cell op k xs i y)
    number i fault = refl
    number i stuck = refl

    index : (o p : Outcome ℤ) → and_then o (λ i. and_then p (λ y. map_out (cells_part op k) (merge_cell op k (join_cells op k (cells_of s) xs) i y))) ≡ map_out (after_part s) (and_then o (λ i. and_then p (λ y. map_out (cells_part op k) (merge_cell op k xs i y))))
    index (done i) p = number i p
    index fault p = refl
    index stuck p = refl

    pairs : (o : Outcome (Value × Value)) → and_then o (λ e. and_then (as_number e.0) (λ i. and_then (as_number e.1) (λ y. map_out (cells_part op k) (merge_cell op k (join_cells op k (cells_of s) xs) i y)))) ≡ map_out (after_part s) (and_then o (λ e. and_then (as_number e.0) (λ i. and_then (as_number e.1) (λ y. map_out (cells_part op k) (merge_cell op k xs i y)))))
    pairs (done e) = index (as_number e.0) (as_number e.1)
    pairs fault = refl
    pairs stuck = refl
merge_part-after_part s (keyed_part op k m) v = pairs (as_pair v)
  where
    number : (key : Value) (o : Outcome ℤ) → map_out (λ y. keyed_part op k (merge_key (combined op k) (join_maps (combined op k) (numbers_of s) m) key y)) o ≡ map_out (after_part s) (map_out (λ y. keyed_part op k (merge_key (combined op k) m key y)) o)
    number key (done y) = ap (λ n. done (keyed_part op k n)) (merge_key-join_maps (combined-IsMerging op k) (numbers_of s) m key y)
    number key fault = refl
    number key stuck = refl

    pairs : (o : Outcome (Value × Value)) → and_then o (λ e. map_out (λ y. keyed_part op k (merge_key (combined op k) (join_maps (combined op k) (numbers_of s) m) e.0 y)) (as_number e.1)) ≡ map_out (after_part s) (and_then o (λ e. map_out (λ y. keyed_part op k (merge_key (combined op k) m e.0 y)) (as_number e.1)))
    pairs (done e) = number e.0 (as_number e.1)
    pairs fault = refl
    pairs stuck = refl
merge_part-after_part s (groups_part m) v = pairs (as_pair v)
  where
    pairs : (o : Outcome (Value × Value)) → map_out (λ (e : Value × Value). groups_part (merge_key appended (join_maps appended (groups_of s) m) e.0 (e.1 ∷ []))) o ≡ map_out (after_part s) (map_out (λ (e : Value × Value). groups_part (merge_key appended m e.0 (e.1 ∷ []))) o)
    pairs (done e) = ap (λ n. done (groups_part n)) (merge_key-join_maps appended-IsMerging (groups_of s) m e.0 (e.1 ∷ []))
    pairs fault = refl
    pairs stuck = refl
