-- The answers of many rows.
use Rattle.std.proofs.Common.{◌≡◌, ◌⊎◌, inl, inr, ℕ, ◌+◌, ◌-◌, ◌<◌, ◌≤◌, ℤ, pos, List, ◌++◌, length, take, drop, map, sym, ap, ◌∙◌, arith}
use Rattle.std.specs.List.{fold}
use Rattle.std.proofs.lemmas.Simd.{get_or-zip2, length-zip2}
use Rattle.std.proofs.lemmas.List.{ext_get_or, length-map, get_or-take, get_or-drop, length-take, length-take-le, length-drop, take-map}
use Rattle.std.proofs.lemmas.Bool.{cases_lt}
use Rattle.std.proofs.Math.Seq.{take-add, take-length}
use Rattle.std.proofs.lemmas.List.Sums.{fold-append}
use Rattle.weld_data.specs.declared.kind.Kind.{Kind}
use Rattle.weld_data.specs.declared.op.MergeOp.{MergeOp}
use Rattle.weld_data.specs.Operation.{combination}
use Rattle.weld_lanes.specs.declared.steps.LaneStep.{LaneStep}
use Rattle.weld_lanes.specs.Answers.{at, row_answer, lane_meaning}
use Rattle.weld_lanes.specs.Blocks.{ArePart}
use Rattle.weld_lanes.proofs.Running.{front, back}

pub meaning_long : (k : Kind) (ss : List LaneStep) (us cs ds : List ℤ) → length cs ≡ length ds → length (lane_meaning k ss us cs ds) ≡ length cs
meaning_long k ss us cs ds e = length-zip2 (λ a b. row_answer k ss us a b) cs ds e

pub meaning_at : (k : Kind) (ss : List LaneStep) (us cs ds : List ℤ) (j : ℕ) → length cs ≡ length ds → j < length cs → at (lane_meaning k ss us cs ds) j ≡ row_answer k ss us (at cs j) (at ds j)
meaning_at k ss us cs ds j e less = get_or-zip2 (λ a b. row_answer k ss us a b) cs ds j (pos 0) (pos 0) (pos 0) less (omega (arith, e))

-- numbers that are the answers of all rows are the meaning
pub whole_meaning : (k : Kind) (ss : List LaneStep) (us cs ds zs : List ℤ) → length cs ≡ length ds → length zs ≡ length cs → ((j : ℕ) → j < length cs → at zs j ≡ row_answer k ss us (at cs j) (at ds j)) → zs ≡ lane_meaning k ss us cs ds
whole_meaning k ss us cs ds zs e long each =
    let wide : length zs ≡ length (lane_meaning k ss us cs ds) = long ∙ sym (meaning_long k ss us cs ds e) in
    ext_get_or (pos 0) zs (lane_meaning k ss us cs ds) wide (λ j less. let small : j < length cs = omega (arith, long) in each j small ∙ sym (meaning_at k ss us cs ds j e small))

pub block_meaning : {T : Type 0} (f : T → ℤ) (k : Kind) (ss : List LaneStep) (us : List ℤ) (first second zs : List T) → length second ≡ length first → length zs ≡ length first
    → ArePart (λ j. row_answer k ss us (at (map f first) j) (at (map f second) j)) (map f zs) (length first) → map f zs ≡ lane_meaning k ss us (map f first) (map f second)
block_meaning f k ss us first second zs same long h =
    let e : length (map f first) ≡ length first = length-map first f in
    let d : length (map f second) ≡ length second = length-map second f in
    whole_meaning k ss us (map f first) (map f second) (map f zs) (e ∙ sym (d ∙ same)) (length-map zs f ∙ long ∙ sym e) (λ j less. h.each j (omega (arith, e)))

-- the meaning of a part of the rows is that part of the meaning
pub part_meaning : {T : Type 0} (f : T → ℤ) (k : Kind) (ss : List LaneStep) (us : List ℤ) (first second cs ds : List T) (from count : ℕ) → length second ≡ length first → from + count ≤ length first → length cs ≡ count → length ds ≡ count
    → ArePart (λ j. at (map f first) (from + j)) (map f cs) count → ArePart (λ j. at (map f second) (from + j)) (map f ds) count
    → take count (drop from (lane_meaning k ss us (map f first) (map f second))) ≡ lane_meaning k ss us (map f cs) (map f ds)
part_meaning f k ss us first second cs ds from count same within c_long d_long c d =
    let e : length (map f first) ≡ length first = length-map first f in
    let g : length (map f second) ≡ length second = length-map second f in
    let h : length (map f cs) ≡ count = length-map cs f ∙ c_long in
    let i : length (map f ds) ≡ count = length-map ds f ∙ d_long in
    let both : length (map f first) ≡ length (map f second) = e ∙ sym (g ∙ same) in
    let m : List ℤ = lane_meaning k ss us (map f first) (map f second) in
    let long : length m ≡ length (map f first) = meaning_long k ss us (map f first) (map f second) both in
    let size : length (take count (drop from m)) ≡ length (map f cs) = simp (length-take, length-drop) (omega (arith, long, e, h)) in
    whole_meaning k ss us (map f cs) (map f ds) (take count (drop from m)) (h ∙ sym i) size
    (λ j less.
    let small : j < count = omega (arith, h) in
    let there : from + j < length (map f first) = omega (arith, e, h) in
    get_or-take count (drop from m) j (pos 0) small
    ∙ get_or-drop from m j (pos 0)
    ∙ meaning_at k ss us (map f first) (map f second) (from + j) both there
    ∙ ap (λ (a : ℤ). row_answer k ss us a (at (map f second) (from + j))) (sym (c.each j small))
    ∙ ap (λ (b : ℤ). row_answer k ss us (at (map f cs) j) b) (sym (d.each j small)))

-- ---- block after block

-- the answers of the rows so far, and of those of a block
pub more_rows : {T : Type 0} (f : T → ℤ) (k : Kind) (ss : List LaneStep) (us : List ℤ) (first second cs ds out new more : List T) (from count : ℕ) → from ≤ length out → length new ≡ count → length cs ≡ count
    → ArePart (λ j. at (map f first) (from + j)) (map f cs) count → ArePart (λ j. at (map f second) (from + j)) (map f ds) count → ArePart (λ j. row_answer k ss us (at (map f cs) j) (at (map f ds) j)) (map f new) (length cs)
    → ((j : ℕ) → j < from → at (map f out) j ≡ row_answer k ss us (at (map f first) j) (at (map f second) j)) → (j : ℕ) → j < from + count
    → at (map f (take from out ++ (new ++ more))) j ≡ row_answer k ss us (at (map f first) j) (at (map f second) j)
more_rows {T} f k ss us first second cs ds out new more from count within long c_long c d z before j less = by (cases_lt j from)
  where
    taken : length (take from out) ≡ from
    taken = length-take-le from out within

    by : (j < from) ⊎ (from ≤ j) → at (map f (take from out ++ (new ++ more))) j ≡ row_answer k ss us (at (map f first) j) (at (map f second) j)
    by (inl low) =
        front f (take from out) (new ++ more) j (omega (arith, taken))
        ∙ ap (λ (ys : List ℤ). at ys j) (sym (take-map f from out))
        ∙ get_or-take from (map f out) j (pos 0) low
        ∙ before j low
    by (inr high) =
        let i : ℕ = j - from in
        let same : j ≡ from + i = omega arith in
        let small : i < count = omega arith in
        ap (at (map f (take from out ++ (new ++ more)))) same
        ∙ back f (take from out) (new ++ more) from i taken
        ∙ front f new more i (omega (arith, long, small))
        ∙ z.each i (omega (arith, c_long, small))
        ∙ ap (λ (a : ℤ). row_answer k ss us a (at (map f ds) i)) (c.each i small)
        ∙ ap (λ (b : ℤ). row_answer k ss us (at (map f first) (from + i)) b) (d.each i small)
        ∙ ap (λ (n : ℕ). row_answer k ss us (at (map f first) n) (at (map f second) n)) (sym same)

pub all_rows : {T : Type 0} (f : T → ℤ) (k : Kind) (ss : List LaneStep) (us : List ℤ) (first second out : List T) (from : ℕ) → length second ≡ length first → length out ≡ length first → length first ≤ from
    → ((j : ℕ) → j < from → at (map f out) j ≡ row_answer k ss us (at (map f first) j) (at (map f second) j)) → map f out ≡ lane_meaning k ss us (map f first) (map f second)
all_rows f k ss us first second out from same long done each =
    block_meaning f k ss us first second out same long (record { each = λ j less. each j (omega (arith, less, done)) })

-- the same of what is combined
pub more_folded : {T : Type 0} (f : T → ℤ) (k : Kind) (op : MergeOp) (ss : List LaneStep) (us : List ℤ) (first second cs ds : List T) (from count : ℕ) (start before now : ℤ) → length second ≡ length first → from + count ≤ length first → length cs ≡ count
    → length ds ≡ count → ArePart (λ j. at (map f first) (from + j)) (map f cs) count → ArePart (λ j. at (map f second) (from + j)) (map f ds) count
    → before ≡ fold (λ x y. combination op k x y) start (take from (lane_meaning k ss us (map f first) (map f second)))
    → now ≡ fold (λ x y. combination op k x y) before (lane_meaning k ss us (map f cs) (map f ds))
    → now ≡ fold (λ x y. combination op k x y) start (take (from + count) (lane_meaning k ss us (map f first) (map f second)))
more_folded f k op ss us first second cs ds from count start before now same within c_long d_long c d was is =
    let m : List ℤ = lane_meaning k ss us (map f first) (map f second) in
    let n : List ℤ = lane_meaning k ss us (map f cs) (map f ds) in
    let part : take count (drop from m) ≡ n = part_meaning f k ss us first second cs ds from count same within c_long d_long c d in
    is
    ∙ ap (λ (x : ℤ). fold (λ x y. combination op k x y) x n) was
    ∙ sym (fold-append (λ x y. combination op k x y) start (take from m) n)
    ∙ ap (λ (ys : List ℤ). fold (λ x y. combination op k x y) start (take from m ++ ys)) (sym part)
    ∙ ap (fold (λ x y. combination op k x y) start) (sym (take-add from count m))

pub all_folded : {T : Type 0} (f : T → ℤ) (k : Kind) (op : MergeOp) (ss : List LaneStep) (us : List ℤ) (first second : List T) (from : ℕ) (start total : ℤ) → length second ≡ length first → from ≤ length first → length first ≤ from
    → total ≡ fold (λ x y. combination op k x y) start (take from (lane_meaning k ss us (map f first) (map f second)))
    → total ≡ fold (λ x y. combination op k x y) start (lane_meaning k ss us (map f first) (map f second))
all_folded f k op ss us first second from start total same low high is =
    let m : List ℤ = lane_meaning k ss us (map f first) (map f second) in
    let e : length (map f first) ≡ length first = length-map first f in
    let d : length (map f second) ≡ length second = length-map second f in
    let long : length m ≡ length (map f first) = meaning_long k ss us (map f first) (map f second) (e ∙ sym (d ∙ same)) in
    let whole : from ≡ length m = omega (arith, long, e) in
    is ∙ ap (fold (λ x y. combination op k x y) start) (ap (λ (n : ℕ). take n m) whole ∙ take-length m)
