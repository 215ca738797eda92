-- The rows of a range, one after another.
use Rattle.std.proofs.Common.{◌≡◌, ℕ, zero, suc, ◌+◌, ◌-◌, ◌<◌, ◌≤◌, List, [], ◌∷◌, length, take, drop, slice_get, Some, Result, Ok, Err, refl, sym, ap, ◌∙◌, subst, arith}
use Rattle.weld_data.specs.declared.stop.Stop.{Stop}
use Rattle.weld_data.specs.declared.stop.Stop.TheVariants.{Fault, Memory}
use Rattle.weld_data.specs.Value.{Value, values}
use Rattle.weld_tree.specs.declared.binder.Binder.{Binder}
use Rattle.weld_tree.specs.ExprTree.{ExprTree, loop}
use Rattle.weld_tree.specs.HasValue.{HasValue, AllAre}
use Rattle.weld_builders.specs.Outcome.{Outcome, done, fault, stuck, and_then}
use Rattle.weld_meaning.specs.Thing.{Thing, plain, bare_thing}
use Rattle.weld_meaning.specs.ThingType.{HasThing}
use Rattle.weld_meaning.specs.Evaluation.{Env, rows_of, whole_number}
use Rattle.weld_eval.specs.Fit.{IsFit}
use Rattle.weld_eval.specs.RowLists.{rows_in, row_in, or_none}
use Rattle.weld_eval.proofs.LoopSteps.{row_gives}
use Rattle.weld_eval.proofs.RowLists.{row_of_rows}
use Rattle.weld_eval_plain.specs.Rows.{row_step, rows_from, RowIs, RowsAre, HoldsRow, RowAnswer}
use Rattle.weld_eval.specs.declared.row.RowAt.{RowAt}
use Rattle.weld_eval.specs.RowView.{row_value}
use Rattle.weld_eval.specs.LegsView.{lists_of}
use Rattle.weld_acts.specs.Act.{Acts, AreDirect, act}
use Rattle.weld_acts.specs.Ranges.{Evaluation, HoldsRange, RangeAnswer, range_over}
use Rattle.weld_eval_plain.specs.Nodes.{IsLoop}
use Rattle.weld_acts.specs.ActFits.{ActFits}
use Rattle.weld_acts.proofs.RangeLaw.{range_splits, range_has}
use Rattle.weld_deeds.specs.Block.{IsBlock}
use Rattle.weld_deeds.specs.Deeds.{do_of, DeedFits}
use Rattle.weld_deeds.specs.Through.{FitsThrough, done_through}
use Rattle.weld_deeds.specs.declared.deed.Deed.{Deed}
use Rattle.weld_acts.proofs.RowActs.{OwnHas, row_acts, row_fits, bare_of_loop}
use Rattle.weld_rows.specs.RangeOn.{RangeOn}
use Rattle.weld_rows.specs.RowActs.{row_act, RowActFits}

row_has : (n : ExprTree) (env : Env) (h : IsFit n env) (rows : List Value) (i : ℕ) (v : Value) → RowsAre n env h rows → slice_get rows i ≡ Some v → RowIs n env h v
row_has (loop a ls e b n x f) env h rows i v all q = among rows i all q
  where
    among : (rows : List Value) (i : ℕ) → AllAre (HasValue h.typed.1) (values rows) → slice_get rows i ≡ Some v → HasValue h.typed.1 v
    among [] i all q = let no : ⊥ = cc in absurd no
    among (w ∷ ws) zero all q = let same : w ≡ v = cc in subst (HasValue h.typed.1) same all.0
    among (w ∷ ws) (suc i) all q = among ws i all.1 q
row_has _ env h rows i v all q = absurd all

next_has : (n : ExprTree) (env : Env) (h : IsFit n env) (i : ℕ) (v : Value) (s t : Thing) → HasThing s h.answer → RowIs n env h v → row_step n env (i, v) s ≡ done t → HasThing t h.answer
next_has (loop a ls e b n x f) env h i v s t hs hv q = row_gives a ls e b n x f env h i v s t hs hv q
next_has _ env h i v s t hs hv q = absurd hv

drop_row : (rows : List Value) (i : ℕ) (v : Value) → slice_get rows i ≡ Some v → drop i rows ≡ v ∷ drop (i + 1) rows
drop_row [] i v q = let no : ⊥ = cc in absurd no
drop_row (w ∷ ws) zero v q = let same : w ≡ v = cc in ap (λ u. u ∷ ws) same
drop_row (w ∷ ws) (suc i) v q = let more : suc (i + 1) ≡ suc i + 1 = omega arith in drop_row ws i v q ∙ ap (λ n. v ∷ drop n (w ∷ ws)) more

one_row : (n : ExprTree) (env : Env) (rows : List Value) (i to : ℕ) (v : Value) (s : Thing) → i < to → slice_get rows i ≡ Some v
    → rows_from n env i (take (to - i) (drop i rows)) s ≡ and_then (row_step n env (i, v) s) (λ t. rows_from n env (i + 1) (take (to - (i + 1)) (drop (i + 1) rows)) t)
one_row n env rows i to v s less q =
    let more : suc i ≡ i + 1 = omega arith in
    let left : to - i ≡ suc (to - (i + 1)) = omega arith in
    ap (λ l. rows_from n env i (take (to - i) l) s) (drop_row rows i v q)
    ∙ ap (λ k. rows_from n env i (take k (v ∷ drop (i + 1) rows)) s) left
    ∙ ap (λ k. and_then (row_step n env (i, v) s) (λ t. rows_from n env k (take (to - (i + 1)) (drop (i + 1) rows)) t)) more

bare_is : (m : ExprTree) (env : Env) (h : IsFit m env) (rows : List Value) (s : Thing) → RowsAre m env h rows → HasThing s h.answer → HasThing (bare_thing s) h.answer
bare_is (loop a ls e b n x f) env h rows s k has = bare_of_loop a ls e b n x f env (loop a ls e b n x f) h s refl has
bare_is _ env h rows s k has = absurd k

pub range_start : (m : ExprTree) (env : Env) (lists : List (List Value)) (from to : ℕ) (s own : Thing) → HoldsRange m env lists from to s → own ≡ bare_thing s → RangeOn m env lists from to s own from s
range_start m env lists from to s own h bare = record {
  fit = h.fit;
  has = h.has;
  owns = subst (λ y. HasThing y h.fit.answer) (sym bare) (bare_is m env h.fit h.rows s h.rows_have h.has);
  rows = h.rows;
  are = h.are;
  rows_have = h.rows_have;
  reached = h.ordered;
  within = h.within;
  same = ap (λ o. and_then o (λ rows. rows_from m env from (take (to - from) (drop from rows)) s)) h.are;
}

pub range_there : (n : ExprTree) (env : Env) (lists : List (List Value)) (from to : ℕ) (start own : Thing) (i : ℕ) (s : Thing) → RangeOn n env lists from to start own i s → i < to → i < length (rows_in lists)
range_there n env lists from to start own i s h less = let same : rows_in lists ≡ h.rows = ap or_none h.are in subst (λ (l : List Value). i < length l) (sym same) (omega (arith, h.within))

row_at : (n : ExprTree) (env : Env) (lists : List (List Value)) (from to : ℕ) (start own : Thing) (i : ℕ) (s : Thing) → (h : RangeOn n env lists from to start own i s) → i < to → slice_get h.rows i ≡ Some (row_in lists i)
row_at n env lists from to start own i s h less = row_of_rows lists h.rows i h.are (omega (arith, h.within))

pub range_row : (n : ExprTree) (env : Env) (lists : List (List Value)) (from to : ℕ) (start own : Thing) (i : ℕ) (s : Thing) → RangeOn n env lists from to start own i s → i < to → OwnHas n env s own (row_in lists i)
range_row n env lists from to start own i s h less = record {
  holds = record { fit = h.fit; has = h.has; row = row_has n env h.fit h.rows i (row_in lists i) h.rows_have (row_at n env lists from to start own i s h less) };
  own_has = h.owns;
}

pub range_next : (n : ExprTree) (env : Env) (lists : List (List Value)) (from to : ℕ) (start own : Thing) (i : ℕ) (s t : Thing) → RangeOn n env lists from to start own i s → i < to
    → row_step n env (i, row_in lists i) s ≡ done t → RangeOn n env lists from to start own (i + 1) t
range_next n env lists from to start own i s t h less r =
    let q = row_at n env lists from to start own i s h less in record {
      fit = h.fit;
      has = next_has n env h.fit i (row_in lists i) s t h.has (row_has n env h.fit h.rows i (row_in lists i) h.rows_have q) r;
      owns = h.owns;
      rows = h.rows;
      are = h.are;
      rows_have = h.rows_have;
      reached = omega arith;
      within = h.within;
      same = h.same ∙ one_row n env h.rows i to (row_in lists i) s less q ∙ ap (λ o. and_then o (λ u. rows_from n env (i + 1) (take (to - (i + 1)) (drop (i + 1) h.rows)) u)) r;
    }

pub range_fault : (n : ExprTree) (env : Env) (lists : List (List Value)) (from to : ℕ) (start own : Thing) (i : ℕ) (s : Thing) → RangeOn n env lists from to start own i s → i < to
    → row_step n env (i, row_in lists i) s ≡ fault → range_over n env lists from to start ≡ fault
range_fault n env lists from to start own i s h less r =
    let q = row_at n env lists from to start own i s h less in
    h.same ∙ one_row n env h.rows i to (row_in lists i) s less q ∙ ap (λ o. and_then o (λ u. rows_from n env (i + 1) (take (to - (i + 1)) (drop (i + 1) h.rows)) u)) r

pub range_end : (n : ExprTree) (env : Env) (lists : List (List Value)) (from to : ℕ) (start own : Thing) (i : ℕ) (s : Thing) → RangeOn n env lists from to start own i s → to ≤ i → range_over n env lists from to start ≡ done s
range_end n env lists from to start own i s h more =
    let none : to - i ≡ 0 = omega arith in h.same ∙ ap (λ k. rows_from n env i (take k (drop i h.rows)) s) none

-- ---- in place

-- what is done in place on a row is what the row makes
on_loop : (m : ExprTree) (env : Env) (lists : List (List Value)) (from to : ℕ) (start own : Thing) (i : ℕ) (s : Thing) → AreDirect m → RangeOn m env lists from to start own i s → i < to
    → RowActFits m env own (i, row_in lists i) s × (row_step m env (i, row_in lists i) s ≡ row_act m env own (i, row_in lists i) s)
on_loop (loop a ls e b n x f) env lists from to start own i s d h less =
    let k = range_row (loop a ls e b n x f) env lists from to start own i s h less in (
      row_fits a ls e b n x f env (loop a ls e b n x f) i s own (row_in lists i) refl d k,
      row_acts a ls e b n x f env (loop a ls e b n x f) i s own (row_in lists i) refl d k.holds,
    )
on_loop _ env lists from to start own i s d h less = absurd h.rows_have

pub range_row_acts : (m : ExprTree) (env : Env) (lists : List (List Value)) (from to : ℕ) (start own : Thing) (i : ℕ) (s : Thing) → AreDirect m → RangeOn m env lists from to start own i s → i < to → RowActFits m env own (i, row_in lists i) s
range_row_acts m env lists from to start own i s d h less = (on_loop m env lists from to start own i s d h less).0

pub range_act_next : (m : ExprTree) (env : Env) (lists : List (List Value)) (from to : ℕ) (start own : Thing) (i : ℕ) (s t : Thing) → AreDirect m → RangeOn m env lists from to start own i s → i < to
    → row_act m env own (i, row_in lists i) s ≡ done t → RangeOn m env lists from to start own (i + 1) t
range_act_next m env lists from to start own i s t d h less q = range_next m env lists from to start own i s t h less ((on_loop m env lists from to start own i s d h less).1 ∙ q)

pub range_act_stops : (T U : Type 0) (stop : Stop) (m : ExprTree) (env : Env) (lists : List (List Value)) (from to : ℕ) (start own : Thing) (i : ℕ) (s t u : Thing) → AreDirect m → RangeOn m env lists from to start own i s → i < to
    → Acts {T = T} (Err stop) (row_act m env own (i, row_in lists i) s) t → Acts {T = U} (Err stop) (range_over m env lists from to start) u
range_act_stops T U Fault m env lists from to start own i s t u d h less q = range_fault m env lists from to start own i s h less ((on_loop m env lists from to start own i s d h less).1 ∙ q)
range_act_stops T U Memory m env lists from to start own i s t u d h less q = tt

-- the names of a row
pub row_names : (x n b : ℕ) (own : Thing) (v w c d : Value) (env outer middle inner : Env) → inner ≡ (x, plain v) ∷ middle → middle ≡ (n, plain c) ∷ outer → outer ≡ (b, own) ∷ env → v ≡ w → c ≡ d → inner ≡ (x, plain w) ∷ (n, plain d) ∷ (b, own) ∷ env
row_names x n b own v w c d env outer middle inner i m o p q =
    i ∙ ap (λ (u : Value). (x, plain u) ∷ middle) p ∙ ap (λ (g : Env). (x, plain w) ∷ g) (m ∙ ap (λ (u : Value). (n, plain u) ∷ outer) q ∙ ap (λ (g : Env). (n, plain d) ∷ g) o)

-- the same, where the builder's name stands for one that has nothing merged
pub row_names_bare : (x n b : ℕ) (own bare : Thing) (v w c d : Value) (env outer middle inner : Env) → inner ≡ (x, plain v) ∷ middle → middle ≡ (n, plain c) ∷ outer → outer ≡ (b, own) ∷ env → v ≡ w → c ≡ d → own ≡ bare
    → inner ≡ (x, plain w) ∷ (n, plain d) ∷ (b, bare) ∷ env
row_names_bare x n b own bare v w c d env outer middle inner i m o p q s = row_names x n b own v w c d env outer middle inner i m o p q ∙ ap (λ (y : Thing). (x, plain w) ∷ (n, plain d) ∷ (b, y) ∷ env) s

-- ---- ranges, whichever way

pub holds_loop : (n : ExprTree) (env : Env) (lists : List (List Value)) (from to : ℕ) (s : Thing) → HoldsRange n env lists from to s → IsLoop n
holds_loop n env lists from to s h = by n h.fit h.rows_have
  where
    by : (m : ExprTree) (f : IsFit m env) → RowsAre m env f h.rows → IsLoop m
    by (loop a ls e b c x f) fit k = tt
    by _ fit k = absurd k

pub range_answers : {T : Type 0} (r : Result T Stop) (ev : Evaluation) (from to : ℕ) (s t : Thing) → Acts r (range_over ev.node ev.names ev.lists from to s) t → RangeAnswer r ev from to s t
range_answers (Ok x) ev from to s t h = h
range_answers (Err Fault) ev from to s t h = h
range_answers (Err Memory) ev from to s t h = tt

pub append_start : (n : ExprTree) (env : Env) (lists : List (List Value)) (from to : ℕ) (s : Thing) → HoldsRange n env lists from to s → RangeOn n env lists from to s s from s
append_start n env lists from to s h = record {
  fit = h.fit;
  has = h.has;
  owns = h.has;
  rows = h.rows;
  are = h.are;
  rows_have = h.rows_have;
  reached = h.ordered;
  within = h.within;
  same = ap (λ o. and_then o (λ rows. rows_from n env from (take (to - from) (drop from rows)) s)) h.are;
}

-- ---- rows that are appended

pub row_same : (r : RowAt) (lists : List (List Value)) (i : ℕ) (v : Value) → v ≡ row_value r → r.number ≡ i → lists_of r.legs.now ≡ lists → v ≡ row_in lists i
row_same r lists i v e p q = e ∙ ap (λ l. row_in l r.number) q ∙ ap (row_in lists) p

pub range_holds : (n : ExprTree) (env : Env) (lists : List (List Value)) (from to : ℕ) (start own : Thing) (i : ℕ) (s : Thing) → RangeOn n env lists from to start own i s → i < to → HoldsRow n env s (row_in lists i)
range_holds n env lists from to start own i s h less = (range_row n env lists from to start own i s h less).holds

pub range_append_stops : (T U : Type 0) (stop : Stop) (n : ExprTree) (env : Env) (lists : List (List Value)) (from to : ℕ) (start own : Thing) (i : ℕ) (s t u : Thing) → RangeOn n env lists from to start own i s → i < to
    → RowAnswer {T = T} (Err stop) n env (i, row_in lists i) s t → Acts {T = U} (Err stop) (range_over n env lists from to start) u
range_append_stops T U Fault n env lists from to start own i s t u h less r = range_fault n env lists from to start own i s h less r
range_append_stops T U Memory n env lists from to start own i s t u h less r = tt

-- ---- a part of a range

range_rows : (n : ExprTree) (env : Env) (lists : List (List Value)) (rows : List Value) (from to : ℕ) (s : Thing) → rows_of lists ≡ done rows → range_over n env lists from to s ≡ rows_from n env from (take (to - from) (drop from rows)) s
range_rows n env lists rows from to s are = ap (λ o. and_then o (λ rs. rows_from n env from (take (to - from) (drop from rs)) s)) are

pub is_ordered : (n : ExprTree) (env : Env) (lists : List (List Value)) (from to : ℕ) (start own : Thing) (i : ℕ) (s : Thing) → RangeOn n env lists from to start own i s → i ≤ to
is_ordered n env lists from to start own i s h = h.reached

pub range_part : (n : ExprTree) (env : Env) (lists : List (List Value)) (from to : ℕ) (start own : Thing) (i j : ℕ) (s : Thing) → RangeOn n env lists from to start own i s → i ≤ j → j ≤ to → RangeOn n env lists i j s own i s
range_part n env lists from to start own i j s h low high = record {
  fit = h.fit;
  has = h.has;
  owns = h.owns;
  rows = h.rows;
  are = h.are;
  rows_have = h.rows_have;
  reached = low;
  within = omega (arith, h.within);
  same = range_rows n env lists h.rows i j s h.are;
}

part_splits : (n : ExprTree) (env : Env) (lists : List (List Value)) (from to : ℕ) (start own : Thing) (i j : ℕ) (s : Thing) → RangeOn n env lists from to start own i s → i ≤ j → j ≤ to
    → range_over n env lists from to start ≡ and_then (range_over n env lists i j s) (λ t. range_over n env lists j to t)
part_splits n env lists from to start own i j s h low high =
    h.same ∙ sym (range_rows n env lists h.rows i to s h.are) ∙ range_splits n env lists h.rows i j to s h.are low high h.within

pub range_part_next : (n : ExprTree) (env : Env) (lists : List (List Value)) (from to : ℕ) (start own : Thing) (i j : ℕ) (s t : Thing) → RangeOn n env lists from to start own i s → i ≤ j → j ≤ to
    → range_over n env lists i j s ≡ done t → RangeOn n env lists from to start own j t
range_part_next n env lists from to start own i j s t h low high q = record {
  fit = h.fit;
  has = range_has n env lists h.fit h.rows i j s t (record { are = h.are; rows_have = h.rows_have }) h.has q;
  owns = h.owns;
  rows = h.rows;
  are = h.are;
  rows_have = h.rows_have;
  reached = high;
  within = h.within;
  same = part_splits n env lists from to start own i j s h low high ∙ ap (λ o. and_then o (λ u. range_over n env lists j to u)) q ∙ range_rows n env lists h.rows j to t h.are;
}

pub range_part_stops : (T U : Type 0) (stop : Stop) (n : ExprTree) (env : Env) (lists : List (List Value)) (from to : ℕ) (start own : Thing) (i j : ℕ) (s t u : Thing) → RangeOn n env lists from to start own i s → i ≤ j → j ≤ to
    → Acts {T = T} (Err stop) (range_over n env lists i j s) t → Acts {T = U} (Err stop) (range_over n env lists from to start) u
range_part_stops T U Fault n env lists from to start own i j s t u h low high q = part_splits n env lists from to start own i j s h low high ∙ ap (λ o. and_then o (λ v. range_over n env lists j to v)) q
range_part_stops T U Memory n env lists from to start own i j s t u h low high q = tt

-- ---- a block

abbrev row_names_of : Binder → Binder → Binder → Env → Thing → List (List Value) → ℕ → Env
row_names_of b n x env own lists i = (x.sym.0, plain (row_in lists i)) ∷ (n.sym.0, plain (whole_number i)) ∷ (b.sym.0, own) ∷ env

in_block : (m : ExprTree) (env : Env) (own : Thing) (lists : List (List Value)) (from i count : ℕ) (d : Deed) (s : Thing) → IsBlock m env own lists from d count → from ≤ i → i - from < count → RowActFits m env own (i, row_in lists i) s
    → DeedFits d (i - from) s × (row_act m env own (i, row_in lists i) s ≡ do_of d (i - from) s)
in_block (loop a ls e b n x f) env own lists from i count d s h low less fits =
    let same : from + (i - from) ≡ i = omega arith in
    let here : ActFits f (row_names_of b n x env own lists (from + (i - from))) s = subst (λ k. ActFits f (row_names_of b n x env own lists k) s) (sym same) fits in (
      h.fits (i - from) less s here,
      ap (λ k. act f (row_names_of b n x env own lists k) s) (sym same) ∙ h.does (i - from) less s here,
    )
in_block _ env own lists from i count d s h low less fits = absurd h

block_fits : (m : ExprTree) (env : Env) (lists : List (List Value)) (from to : ℕ) (start own : Thing) (i : ℕ) (s : Thing) (d : Deed) → AreDirect m → IsBlock m env own lists from d (to - from) → from ≤ i → i < to → RangeOn m env lists from to start own i s → DeedFits d (i - from) s
block_fits m env lists from to start own i s d direct h low less on = (in_block m env own lists from i (to - from) d s h low (omega arith) (range_row_acts m env lists from to start own i s direct on less)).0

block_is : (m : ExprTree) (env : Env) (lists : List (List Value)) (from to : ℕ) (start own : Thing) (i : ℕ) (s : Thing) (d : Deed) → AreDirect m → IsBlock m env own lists from d (to - from) → from ≤ i → i < to → RangeOn m env lists from to start own i s
    → row_act m env own (i, row_in lists i) s ≡ do_of d (i - from) s
block_is m env lists from to start own i s d direct h low less on = (in_block m env own lists from i (to - from) d s h low (omega arith) (range_row_acts m env lists from to start own i s direct on less)).1

block_step : (m : ExprTree) (env : Env) (lists : List (List Value)) (from to : ℕ) (start own : Thing) (i : ℕ) (s : Thing) (d : Deed) → AreDirect m → IsBlock m env own lists from d (to - from) → from ≤ i → i < to → RangeOn m env lists from to start own i s
    → row_step m env (i, row_in lists i) s ≡ do_of d (i - from) s
block_step m env lists from to start own i s d direct h low less on = (on_loop m env lists from to start own i s direct on less).1 ∙ block_is m env lists from to start own i s d direct h low less on

-- the rows that are left, one after another
abbrev LeftDone : ExprTree → Env → List (List Value) → ℕ → ℕ → Thing → Deed → ℕ → ℕ → Thing → Type 0
LeftDone m env lists from to start d j n s =
    FitsThrough (do_of d) (DeedFits d) j n s × (range_over m env lists from to start ≡ done_through (do_of d) j n s)

left_done : (n : ℕ) (m : ExprTree) (env : Env) (lists : List (List Value)) (from to : ℕ) (start own : Thing) (i : ℕ) (s : Thing) (d : Deed) → AreDirect m → IsBlock m env own lists from d (to - from) → from ≤ i → i + n ≡ to → RangeOn m env lists from to start own i s
    → LeftDone m env lists from to start d (i - from) n s
left_done zero m env lists from to start own i s d direct h low is on = (tt, range_end m env lists from to start own i s on (omega arith))
left_done (suc n) m env lists from to start own i s d direct h low is on =
    let less : i < to = omega arith in
    let place : (i + 1) - from ≡ suc (i - from) = omega arith in
    let next : (t : Thing) → do_of d (i - from) s ≡ done t → LeftDone m env lists from to start d (suc (i - from)) n t =
    λ t q. subst (λ j. LeftDone m env lists from to start d j n t) place
    (left_done n m env lists from to start own (i + 1) t d direct h (omega arith) (omega arith)
    (range_next m env lists from to start own i s t on less (block_step m env lists from to start own i s d direct h low less on ∙ q))) in (
      (block_fits m env lists from to start own i s d direct h low less on, λ t q. (next t q).0),
      by (do_of d (i - from) s) refl next (block_step m env lists from to start own i s d direct h low less on) less,
    )
  where
    by : (o : Outcome Thing) → do_of d (i - from) s ≡ o → ((t : Thing) → do_of d (i - from) s ≡ done t → LeftDone m env lists from to start d (suc (i - from)) n t)
        → row_step m env (i, row_in lists i) s ≡ do_of d (i - from) s → i < to → range_over m env lists from to start ≡ and_then o (λ t. done_through (do_of d) (suc (i - from)) n t)
    by (done t) q next step less = (next t q).1
    by fault q next step less = range_fault m env lists from to start own i s on less (step ∙ q)
    by stuck q next step less =
        on.same ∙ one_row m env on.rows i to (row_in lists i) s less (row_at m env lists from to start own i s on less)
        ∙ ap (λ o. and_then o (λ u. rows_from m env (i + 1) (take (to - (i + 1)) (drop (i + 1) on.rows)) u)) (step ∙ q)

all_done : (m : ExprTree) (env : Env) (lists : List (List Value)) (from to : ℕ) (own s : Thing) (d : Deed) → AreDirect m → IsBlock m env own lists from d (to - from) → RangeOn m env lists from to s own from s → LeftDone m env lists from to s d 0 (to - from) s
all_done m env lists from to own s d direct h on =
    let none : from - from ≡ 0 = omega arith in
    subst (λ j. LeftDone m env lists from to s d j (to - from) s) none (left_done (to - from) m env lists from to s own from s d direct h (omega arith) (omega (arith, on.reached)) on)

pub block_ready : (m : ExprTree) (env : Env) (lists : List (List Value)) (from to : ℕ) (own s : Thing) (d : Deed) → AreDirect m → IsBlock m env own lists from d (to - from) → RangeOn m env lists from to s own from s → FitsThrough (do_of d) (DeedFits d) 0 (to - from) s
block_ready m env lists from to own s d direct h on = (all_done m env lists from to own s d direct h on).0

pub block_is_done : {T : Type 0} (r : Result T Stop) (m : ExprTree) (env : Env) (lists : List (List Value)) (from to : ℕ) (own s t : Thing) (d : Deed) → AreDirect m → IsBlock m env own lists from d (to - from) → RangeOn m env lists from to s own from s
    → Acts r (done_through (do_of d) 0 (to - from) s) t → Acts r (range_over m env lists from to s) t
block_is_done r m env lists from to own s t d direct h on q = subst (λ (o : Outcome Thing). Acts r o t) (sym (all_done m env lists from to own s d direct h on).1) q
