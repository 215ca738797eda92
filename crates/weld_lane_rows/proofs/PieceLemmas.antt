-- Piece after piece.
use Rattle.std.proofs.Common.{◌≡◌, ℕ, zero, suc, ◌+◌, ◌-◌, ◌≤◌, ℤ, List, [], ◌∷◌, length, take, drop, map, refl, sym, ap, subst, ◌∙◌, arith}
use Rattle.std.proofs.lemmas.List.{length-map}
use Rattle.weld_data.specs.declared.kind.Kind.{Kind}
use Rattle.weld_data.specs.Value.{Value}
use Rattle.weld_tree.specs.ExprTree.{ExprTree}
use Rattle.weld_builders.specs.Outcome.{Outcome, done, and_then}
use Rattle.weld_meaning.specs.Evaluation.{Env}
use Rattle.weld_meaning.specs.Thing.{Thing}
use Rattle.weld_acts.specs.Ranges.{HoldsRange, range_over}
use Rattle.weld_acts.proofs.RangeSteps.{RunsIn}
use Rattle.weld_acts.proofs.RangeLaw.{range_splits, range_has}
use Rattle.weld_lanes.specs.Answers.{at, row_answer, lane_meaning}
use Rattle.weld_lanes.specs.declared.steps.LaneProgram.{LaneProgram}
use Rattle.weld_lanes.proofs.Meaning.{meaning_at}
use Rattle.weld_lanes.proofs.Parts.{part_number}
use Rattle.weld_lane_rows.specs.Rows.{answer_at, AreFrom, MergesRows}

-- a piece of the rows that are left
pub part_holds : (n : ExprTree) (env : Env) (lists : List (List Value)) (from to : ℕ) (start : Thing) (i j : ℕ) (s : Thing) → RunsIn n env lists from to start i s → i ≤ j → j ≤ to → HoldsRange n env lists i j s
part_holds n env lists from to start i j s h low high = record {
  fit = h.holds.fit;
  has = h.holds.has;
  rows = h.holds.rows;
  are = h.holds.are;
  rows_have = h.holds.rows_have;
  ordered = low;
  within = omega (arith, h.holds.within);
}

pub part_merges : (n : ExprTree) (env : Env) (lists : List (List Value)) (k : Kind) (f : ℕ → ℤ) (j to : ℕ) → j ≤ to → MergesRows n env lists k f to → MergesRows n env lists k f j
part_merges n env lists k f j to high h = record {
  merges = λ i s less. h.merges i s (omega arith);
  fits = λ i s fit less. h.fits i s fit (omega arith);
}

-- behind a piece
pub goes_on : (n : ExprTree) (env : Env) (lists : List (List Value)) (from to : ℕ) (start : Thing) (i j : ℕ) (s t : Thing) → RunsIn n env lists from to start i s → i ≤ j → j ≤ to → range_over n env lists i j s ≡ done t → RunsIn n env lists from to start j t
goes_on n env lists from to start i j s t h low high q = record {
  holds = record {
    fit = h.holds.fit;
    has = range_has n env lists h.holds.fit h.holds.rows i j s t (record { are = h.holds.are; rows_have = h.holds.rows_have }) h.holds.has q;
    rows = h.holds.rows;
    are = h.holds.are;
    rows_have = h.holds.rows_have;
    ordered = high;
    within = h.holds.within;
  };
  same = h.same ∙ range_splits n env lists h.holds.rows i j to s h.holds.are low high h.holds.within ∙ ap (λ (o : Outcome Thing). and_then o (λ u. range_over n env lists j to u)) q;
}

-- ---- what the steps answer on a piece

take_long : {T : Type 0} (n : ℕ) (xs : List T) → n ≤ length xs → length (take n xs) ≡ n
take_long zero xs less = refl
take_long (suc n) [] less = absurd (omega arith)
take_long (suc n) (x ∷ xs) less = ap suc (take_long n xs (omega arith))

drop_long : {T : Type 0} (n : ℕ) (xs : List T) → length (drop n xs) ≡ length xs - n
drop_long zero xs = omega arith
drop_long (suc n) [] = omega arith
drop_long (suc n) (x ∷ xs) = let rest = drop_long n xs in omega (arith, rest)

part_long : {T : Type 0} (f : T → ℤ) (from to : ℕ) (xs : List T) → to ≤ length xs → length (map f (take (to - from) (drop from xs))) ≡ to - from
part_long f from to xs less = length-map (take (to - from) (drop from xs)) f ∙ take_long (to - from) (drop from xs) (omega (arith, less, drop_long from xs))

pub piece_are : {T : Type 0} (f : T → ℤ) (k : Kind) (p : LaneProgram) (us first second : List T) (from to : ℕ) (xs : List ℤ) → to ≤ length first → to ≤ length second
    → xs ≡ lane_meaning k p.steps.items (map f us) (map f (take (to - from) (drop from first))) (map f (take (to - from) (drop from second))) → AreFrom (answer_at f k p us first second) from (to - from) xs
piece_are f k p us first second from to xs long also is =
    let cs : List ℤ = map f (take (to - from) (drop from first)) in
    let ds : List ℤ = map f (take (to - from) (drop from second)) in
    let c : length cs ≡ to - from = part_long f from to first long in
    let d : length ds ≡ to - from = part_long f from to second also in
    record {
      each = λ j less.
          ap (λ (ys : List ℤ). at ys j) is
          ∙ meaning_at k p.steps.items (map f us) cs ds j (c ∙ sym d) (omega (arith, c, less))
          ∙ ap (λ (a : ℤ). row_answer k p.steps.items (map f us) a (at ds j)) (part_number f first from (to - from) j less)
          ∙ ap (λ (b : ℤ). row_answer k p.steps.items (map f us) (at (map f first) (from + j)) b) (part_number f second from (to - from) j less);
    }

pub same_are : (f : ℕ → ℤ) (from count : ℕ) (xs ys : List ℤ) → ys ≡ xs → AreFrom f from count xs → AreFrom f from count ys
same_are f from count xs ys e h = subst (AreFrom f from count) (sym e) h
