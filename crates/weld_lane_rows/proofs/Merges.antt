-- Numbers that rows merge one after another are merged as a list.
use Rattle.std.proofs.Common.{◌≡◌, ℕ, zero, suc, ◌+◌, ◌-◌, ◌<◌, ◌≤◌, ℤ, List, [], ◌∷◌, length, map, Bool, true, false, Result, Ok, Err, refl, sym, ap, subst, ◌∙◌, arith}
use Rattle.weld_data.specs.declared.kind.Kind.{Kind}
use Rattle.weld_data.specs.declared.stop.Stop.{Stop}
use Rattle.weld_data.specs.declared.stop.Stop.TheVariants.{Fault}
use Rattle.weld_data.specs.Kind.{InRange}
use Rattle.weld_data.specs.Value.{Value, number}
use Rattle.weld_tree.specs.TypeTree.{TypeTree, BuildTree, scalar, build, list, total, keyed, cells, groups}
use Rattle.weld_tree.specs.Types.{takes}
use Rattle.weld_tree.specs.ExprTree.{ExprTree}
use Rattle.weld_builders.specs.Outcome.{Outcome, done, fault, and_then, map_out}
use Rattle.weld_builders.specs.Part.{Part, list_part, total_part, totals_part, cells_part, keyed_part, groups_part, merge_part}
use Rattle.weld_builders.specs.Range.{AllInRange}
use Rattle.weld_built.specs.Merges.{merge_all, TakesNumbers, MayAppend}
use Rattle.weld_built.specs.State.{MergeAnswer}
use Rattle.weld_meaning.specs.Evaluation.{Env, rows_of}
use Rattle.weld_meaning.specs.Thing.{Thing, plain, building, several}
use Rattle.weld_meaning.specs.ThingType.{HasThing, HasPart, AreTotals}
use Rattle.weld_eval.specs.declared.thing.Owned.{Owned}
use Rattle.weld_eval.specs.declared.thing.Owned.TheVariants as owned
use Rattle.weld_eval.specs.RowLists.{row_in}
use Rattle.weld_eval.specs.ThingView.{thing_of}
use Rattle.weld_eval.proofs.RowLists.{row_of_rows}
use Rattle.weld_acts.specs.Ranges.{HoldsRange, range_over}
use Rattle.weld_acts.proofs.RangeSteps.{range_row, one_of_range, none_left}
use Rattle.weld_lanes.specs.Answers.{at}
use Rattle.weld_lane_form.specs.Bodies.{TakesNumber}
use Rattle.weld_lane_rows.specs.Rows.{AreFrom, MergesRows, IsTaker, merge_them}

-- ---- builders that take numbers

merged_one : (p : Part) (k : Kind) (x : ℤ) → TakesNumbers p k → (q : Part) × (merge_part p (number k x) ≡ done q) × TakesNumbers q k
merged_one (list_part vs) k x h = (_, refl, tt)
merged_one (total_part op m y) k x h = (_, refl, h)
merged_one (totals_part op xs) k x h = absurd h
merged_one (cells_part op m xs) k x h = absurd h
merged_one (keyed_part op m n) k x h = absurd h
merged_one (groups_part m) k x h = absurd h

-- numbers that are taken are all merged
all_merged : (p : Part) (k : Kind) (xs : List ℤ) → TakesNumbers p k → (q : Part) × (merge_all p (map (number k) xs) ≡ done q)
all_merged p k [] h = (p, refl)
all_merged p k (x ∷ xs) h =
    let one = merged_one p k x h in
    let rest = all_merged one.0 k xs one.2 in
    (rest.0, ap (λ (o : Outcome Part). and_then o (λ q. merge_all q (map (number k) xs))) one.1 ∙ rest.1)

-- a builder whose items are of the kind's type takes numbers of the kind
part_takes : (p : Part) (b : BuildTree) (k : Kind) → HasPart p b → takes b ≡ scalar k → TakesNumbers p k
part_takes (list_part vs) b k h e = tt
part_takes (total_part op m x) (total t o) k h e = let same : scalar k ≡ scalar m = sym e ∙ h.1 in cc
part_takes (total_part op m x) (list t) k h e = absurd h
part_takes (total_part op m x) (keyed s t o) k h e = absurd h
part_takes (total_part op m x) (cells t o) k h e = absurd h
part_takes (total_part op m x) (groups s t) k h e = absurd h
part_takes (totals_part op xs) (total t o) k h e = absurd (subst (AreTotals xs) e h.1)
part_takes (totals_part op xs) (list t) k h e = absurd h
part_takes (totals_part op xs) (keyed s t o) k h e = absurd h
part_takes (totals_part op xs) (cells t o) k h e = absurd h
part_takes (totals_part op xs) (groups s t) k h e = absurd h
part_takes (cells_part op m xs) (cells t o) k h e = let no : ⊥ = cc in absurd no
part_takes (cells_part op m xs) (list t) k h e = absurd h
part_takes (cells_part op m xs) (total t o) k h e = absurd h
part_takes (cells_part op m xs) (keyed s t o) k h e = absurd h
part_takes (cells_part op m xs) (groups s t) k h e = absurd h
part_takes (keyed_part op m n) (keyed s t o) k h e = let no : ⊥ = cc in absurd no
part_takes (keyed_part op m n) (list t) k h e = absurd h
part_takes (keyed_part op m n) (total t o) k h e = absurd h
part_takes (keyed_part op m n) (cells t o) k h e = absurd h
part_takes (keyed_part op m n) (groups s t) k h e = absurd h
part_takes (groups_part m) (groups s t) k h e = let no : ⊥ = cc in absurd no
part_takes (groups_part m) (list t) k h e = absurd h
part_takes (groups_part m) (total t o) k h e = absurd h
part_takes (groups_part m) (keyed s t o) k h e = absurd h
part_takes (groups_part m) (cells t o) k h e = absurd h

thing_takes : (s : Thing) (t : TypeTree) (k : Kind) (x : ℤ) → HasThing s t → TakesNumber k x t → IsTaker s k
thing_takes s t k x has item = by s (subst (HasThing s) item.is_builder has)
  where
    by : (u : Thing) → HasThing u (build item.builder) → IsTaker u k
    by (plain v) h = absurd h
    by (building p) h = record { part = p; is_part = refl; takes_numbers = part_takes p item.builder k h.1 item.takes_kind }
    by (several ts) h = absurd h

-- ---- what a row's number is

-- the builder's type, and the number of a row as an item
record IsRowItem (s : Thing) (k : Kind) (x : ℤ) : Type 0 where
  pub of : TypeTree
  pub has : HasThing s of
  pub item : TakesNumber k x of

row_item : (n : ExprTree) (env : Env) (lists : List (List Value)) (k : Kind) (g : ℕ → ℤ) (from to i : ℕ) (s : Thing) → HoldsRange n env lists from to s → MergesRows n env lists k g to → from ≤ i → i < to → IsRowItem s k (g i)
row_item n env lists k g from to i s h m low less =
    let later : HoldsRange n env lists i to s = record { fit = h.fit; has = h.has; rows = h.rows; are = h.are; rows_have = h.rows_have; ordered = omega arith; within = h.within } in
    let there : i < length h.rows = omega (arith, h.within) in
    let row = range_row n env lists i to s i s (row_in lists i) (record { holds = later; same = refl }) (row_of_rows lists h.rows i h.are there) in
    record { of = row.fit.answer; has = row.has; item = m.fits i s row.fit less row.has row.row }

-- a builder that rows are merged into takes them
pub is_taker : (n : ExprTree) (env : Env) (lists : List (List Value)) (k : Kind) (g : ℕ → ℤ) (from to : ℕ) (s : Thing) → HoldsRange n env lists from to s → MergesRows n env lists k g to → from < to → IsTaker s k
is_taker n env lists k g from to s h m less = let r = row_item n env lists k g from to from s h m (omega arith) less in thing_takes s r.of k (g from) r.has r.item

all_in_range : (k : Kind) (xs : List ℤ) → ((j : ℕ) → j < length xs → InRange k (at xs j)) → AllInRange k xs
all_in_range k [] h = tt
all_in_range k (x ∷ xs) h = (h 0 (omega arith), all_in_range k xs (λ j less. h (suc j) (omega arith)))

pub numbers_in_range : (n : ExprTree) (env : Env) (lists : List (List Value)) (k : Kind) (g : ℕ → ℤ) (from to : ℕ) (s : Thing) (xs : List ℤ) → HoldsRange n env lists from to s → MergesRows n env lists k g to → length xs ≡ to - from → AreFrom g from (to - from) xs → AllInRange k xs
numbers_in_range n env lists k g from to s xs h m long are =
    all_in_range k xs
    (λ j less.
    let small : j < to - from = omega (arith, long) in
    subst (InRange k) (sym (are.each j small)) (row_item n env lists k g from to (from + j) s h m (omega arith) (omega (arith, small))).item.in_range)

-- ---- one after another

-- rows that are left
left_merged : (count : ℕ) (n : ExprTree) (env : Env) (lists : List (List Value)) (rows : List Value) (k : Kind) (g : ℕ → ℤ) (from to : ℕ) (p : Part) (xs : List ℤ) → rows_of lists ≡ done rows → to ≤ length rows → MergesRows n env lists k g to → from + count ≡ to
    → TakesNumbers p k → length xs ≡ count → AreFrom g from count xs → range_over n env lists from to (building p) ≡ map_out building (merge_all p (map (number k) xs))
left_merged zero n env lists rows k g from to p [] are within m end h long each =
    let same : to ≡ from = omega arith in
    ap (λ (j : ℕ). range_over n env lists from j (building p)) same ∙ none_left n env lists rows from (building p) are
left_merged zero n env lists rows k g from to p (x ∷ xs) are within m end h long each = absurd (omega (arith, long))
left_merged (suc c) n env lists rows k g from to p [] are within m end h long each = absurd (omega (arith, long))
left_merged (suc c) n env lists rows k g from to p (x ∷ xs) are within m end h long each =
    let less : from < to = omega arith in
    let first : from + 0 ≡ from = omega arith in
    let is : x ≡ g from = each.each 0 (omega arith) ∙ ap g first in
    let one = merged_one p k x h in
    let next : AreFrom g (from + 1) c xs = record { each = λ j small. let more : from + suc j ≡ (from + 1) + j = omega arith in each.each (suc j) (omega arith) ∙ ap g more } in
    let rest = left_merged c n env lists rows k g (from + 1) to one.0 xs are within m (omega arith) one.2 (omega (arith, long)) next in
    one_of_range n env lists rows from to (row_in lists from) (building p) are less (row_of_rows lists rows from are (omega (arith, within)))
    ∙ ap (λ (o : Outcome Thing). and_then o (λ t. range_over n env lists (from + 1) to t)) (m.merges from (building p) less)
    ∙ ap (λ (y : ℤ). and_then (map_out building (merge_part p (number k y))) (λ t. range_over n env lists (from + 1) to t)) (sym is)
    ∙ ap (λ (o : Outcome Part). and_then (map_out building o) (λ t. range_over n env lists (from + 1) to t)) one.1
    ∙ rest
    ∙ sym (ap (λ (o : Outcome Part). map_out building (and_then o (λ q. merge_all q (map (number k) xs)))) one.1)

-- what the rows come to is what the builder comes to that their numbers are merged into
pub rows_merged : (n : ExprTree) (env : Env) (lists : List (List Value)) (k : Kind) (g : ℕ → ℤ) (from to : ℕ) (s t : Thing) (xs : List ℤ) → HoldsRange n env lists from to s → MergesRows n env lists k g to → from < to
    → length xs ≡ to - from → AreFrom g from (to - from) xs → merge_them s (map (number k) xs) ≡ done t → range_over n env lists from to s ≡ done t
rows_merged n env lists k g from to s t xs h m less long are q =
    let taker = is_taker n env lists k g from to s h m less in
    ap (range_over n env lists from to) taker.is_part
    ∙ left_merged (to - from) n env lists h.rows k g from to taker.part xs h.are h.within m (omega arith) taker.takes_numbers long are
    ∙ sym (ap (λ (u : Thing). merge_them u (map (number k) xs)) taker.is_part)
    ∙ q

-- ---- as the code has it

-- the part that a builder is
abbrev part_of : Thing → Part
part_of (plain v) = list_part []
part_of (building p) = p
part_of (several ts) = list_part []

pub part_taken : (s : Thing) (k : Kind) (p : Part) → IsTaker s k → s ≡ building p → TakesNumbers p k
part_taken s k p t is = subst (λ (q : Part). TakesNumbers q k) (ap part_of (sym t.is_part ∙ is)) t.takes_numbers

pub not_another : (b : Owned) (k : Kind) → IsTaker (thing_of b) k → ((x : Part) → b ≡ owned.Built x → ⊥) → ⊥
not_another (owned.Value v) k t other = let e = t.is_part in let no : ⊥ = cc in no
not_another (owned.Built p) k t other = other p refl
not_another (owned.Several fs) k t other = let e = t.is_part in let no : ⊥ = cc in no

pub never_faults : {T : Type 0} (r : Result T Stop) (stop : Stop) (p q : Part) (k : Kind) (xs : List ℤ) → TakesNumbers p k → MergeAnswer r (merge_all p (map (number k) xs)) q → r ≡ Err stop → stop ≡ Fault → ⊥
never_faults {T} r stop p q k xs t a is faults =
    let h : MergeAnswer {T = T} (Err Fault) (merge_all p (map (number k) xs)) q = subst (λ (x : Result T Stop). MergeAnswer x (merge_all p (map (number k) xs)) q) (is ∙ ap Err faults) a in
    let all = all_merged p k xs t in
    let e : done all.0 ≡ fault = sym all.1 ∙ h in
    let no : ⊥ = cc in
    no

pub merged_so : {T : Type 0} (r : Result T Stop) (x : T) (s : Thing) (p q : Part) (k : Kind) (xs : List ℤ) → r ≡ Ok x → s ≡ building p → MergeAnswer r (merge_all p (map (number k) xs)) q → merge_them s (map (number k) xs) ≡ done (building q)
merged_so r x s p q k xs is built a =
    let all : MergeAnswer (Ok x) (merge_all p (map (number k) xs)) q = subst (λ (y : Result _ Stop). MergeAnswer y (merge_all p (map (number k) xs)) q) is a in
    ap (λ (u : Thing). merge_them u (map (number k) xs)) built ∙ ap (map_out building) all

-- ---- numbers in the width of their kind

-- they are merged as their words are
pub merged_as_words : {T : Type 0} (f : T → ℤ) (k : Kind) (p q : Part) (xs : List T) → merge_all p (map (λ x. number k (f x)) xs) ≡ done q → merge_all p (map (number k) (map f xs)) ≡ done q
merged_as_words {T} f k p q xs h = ap (merge_all p) (same xs) ∙ h
  where
    same : (ys : List T) → map (number k) (map f ys) ≡ map (λ y. number k (f y)) ys
    same [] = refl
    same (y ∷ ys) = ap (λ zs. number k (f y) ∷ zs) (same ys)

pub all_appended : {X : Type 0} (E : Type 0) (told : Bool) (old new : X) (All : X → Type 0) → told ≡ true → MayAppend {E = E} (Ok told) old All new → All new
all_appended E true old new All e h = h
all_appended E false old new All e h = absurd (let no : false ≡ true = e in cc)
