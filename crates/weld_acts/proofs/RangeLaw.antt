-- A range of rows joins what they make of the builder that has nothing merged; ranges that follow one another are one.
use Rattle.std.proofs.Common.{◌≡◌, ℕ, zero, suc, ◌+◌, ◌-◌, ◌<◌, ◌≤◌, List, [], ◌∷◌, length, take, drop, slice_get, Some, inl, refl, sym, ap, ◌∙◌, subst, arith}
use Rattle.weld_data.specs.Value.{Value, values}
use Rattle.weld_tree.specs.declared.binder.Binder.{Binder}
use Rattle.weld_tree.specs.TypeTree.{TypeTree, TypeTrees, scalar, vec, struct as tuple, dict, build, no_types, more_types}
use Rattle.weld_tree.specs.Types.{IsBuilder, AreBuilders, IsWellFormed, AreWellFormed}
use Rattle.weld_tree.specs.ExprTree.{ExprTree, At, LegTrees, loop}
use Rattle.weld_tree.specs.HasValue.{HasValue, AllAre}
use Rattle.weld_builders.specs.Outcome.{Outcome, done, fault, stuck, and_then, map_out}
use Rattle.weld_builders.specs.Part.{start_part}
use Rattle.weld_builders.proofs.Joins.{bare_behind, merge_part-after_part}
use Rattle.weld_builders.proofs.Shapes.{shape_of-bare}
use Rattle.weld_meaning.specs.Thing.{Thing, plain, building, several, Things, no_things, more_things, bare_thing, bare_things, after_thing}
use Rattle.weld_meaning.specs.ThingType.{HasThing, HaveBuilders}
use Rattle.weld_meaning.specs.Typing.{body_types}
use Rattle.weld_meaning.specs.Meaning.{GivesOrFaults}
use Rattle.weld_meaning.specs.Evaluation.{Env, Row, whole_number, with_row, rows_of, number_from, run, eval, eval_legs}
use Rattle.weld_meaning.specs.Loops.{Site, RowsHave, LawOfLoop}
use Rattle.weld_meaning.proofs.Good.{Good}
use Rattle.weld_meaning.proofs.WellFormed.{type_formed}
use Rattle.weld_meaning.proofs.NeverStuck.{no_builder_value, never_stuck, run_good}
use Rattle.weld_meaning.proofs.Shapes.{Holds, Ends, Shaped, AllShaped, run_shaped}
use Rattle.weld_meaning.proofs.LoopLaw.{PartLaws, law_at}
use Rattle.weld_eval.specs.Fit.{IsFit}
use Rattle.weld_eval.specs.Takes.{Join, row_of}
use Rattle.weld_eval.proofs.Children.{key_laws}
use Rattle.weld_eval.proofs.LoopSteps.{named_body, row_shaped, joins}
use Rattle.weld_eval_plain.specs.Rows.{row_step, rows_from, loop_over, RowsAre, HoldsRows}
use Rattle.weld_acts.specs.Ranges.{Evaluation, range_over, HoldsRange, IsAction, IsSoFar, HoldsEvaluation}
use Rattle.weld_acts.proofs.InPlace.{rows_have}
use Rattle.weld_acts.proofs.Keeps.{bare_typed}
use Rattle.weld_acts.proofs.RangeSteps.{range_is, one_of_range, none_left}
use Rattle.weld_acts.proofs.Children.{all_rows}

-- ---- shapes

mutual
  self_shaped : (s : Thing) → Shaped s s
  self_shaped (plain v) = tt
  self_shaped (building p) = refl
  self_shaped (several ss) = all_self_shaped ss

  all_self_shaped : (ss : Things) → AllShaped ss ss
  all_self_shaped no_things = tt
  all_self_shaped (more_things s ss) = (self_shaped s, all_self_shaped ss)

mutual
  bare_is_shaped : (s : Thing) → Shaped s (bare_thing s)
  bare_is_shaped (plain v) = tt
  bare_is_shaped (building p) = shape_of-bare p
  bare_is_shaped (several ss) = all_bare_are_shaped ss

  all_bare_are_shaped : (ss : Things) → AllShaped ss (bare_things ss)
  all_bare_are_shaped no_things = tt
  all_bare_are_shaped (more_things s ss) = (bare_is_shaped s, all_bare_are_shaped ss)

mutual
  -- builders of one type and shape come from one builder that has nothing merged
  same_bare : (s d : Thing) (u : TypeTree) → IsWellFormed u → IsBuilder u → HasThing s u → HasThing d u → Shaped s d → bare_thing s ≡ bare_thing d
  same_bare (plain v) d u w b hs hd e = absurd (no_builder_value u v w b hs)
  same_bare (building p) (plain v) u w b hs hd e = absurd (no_builder_value u v w b hd)
  same_bare (building p) (building q) u w b hs hd e = ap (λ k. building (start_part k)) (sym e)
  same_bare (building p) (several ds) (build c) w b hs hd e = absurd hd
  same_bare (building p) (several ds) (scalar k) w b hs hd e = absurd b
  same_bare (building p) (several ds) (vec t) w b hs hd e = absurd b
  same_bare (building p) (several ds) (tuple us) w b hs hd e = absurd hs
  same_bare (building p) (several ds) (dict k v) w b hs hd e = absurd b
  same_bare (several ss) (plain v) u w b hs hd e = absurd (no_builder_value u v w b hd)
  same_bare (several ss) (building d) (build c) w b hs hd e = absurd hs
  same_bare (several ss) (building d) (scalar k) w b hs hd e = absurd b
  same_bare (several ss) (building d) (vec t) w b hs hd e = absurd b
  same_bare (several ss) (building d) (tuple us) w b hs hd e = absurd hd
  same_bare (several ss) (building d) (dict k v) w b hs hd e = absurd b
  same_bare (several ss) (several ds) (tuple us) w b hs hd e = ap several (all_same_bare ss ds us w.1 b hs.1 hd.1 e)
  same_bare (several ss) (several ds) (scalar k) w b hs hd e = absurd b
  same_bare (several ss) (several ds) (vec t) w b hs hd e = absurd b
  same_bare (several ss) (several ds) (dict k v) w b hs hd e = absurd b
  same_bare (several ss) (several ds) (build c) w b hs hd e = absurd hd

  all_same_bare : (ss ds : Things) (us : TypeTrees) → AreWellFormed us → AreBuilders us → HaveBuilders ss us → HaveBuilders ds us → AllShaped ss ds → bare_things ss ≡ bare_things ds
  all_same_bare no_things no_things us w b hs hd e = refl
  all_same_bare no_things (more_things d ds) no_types w b hs hd e = absurd hd
  all_same_bare no_things (more_things d ds) (more_types u us) w b hs hd e = absurd hs
  all_same_bare (more_things s ss) ds no_types w b hs hd e = absurd hs
  all_same_bare (more_things s ss) no_things (more_types u us) w b hs hd e = absurd hd
  all_same_bare (more_things (plain v) ss) (more_things d ds) (more_types u us) w b hs hd e = absurd hs
  all_same_bare (more_things (building q) ss) (more_things (plain v) ds) (more_types u us) w b hs hd e = absurd hd
  all_same_bare (more_things (building q) ss) (more_things (building d) ds) (more_types u us) w b hs hd e =
      let x = same_bare (building q) (building d) u w.0 b.0 hs.0 hd.0 e.0 in let y = all_same_bare ss ds us w.1 b.1 hs.1 hd.1 e.1 in λ i. more_things (x i) (y i)
  all_same_bare (more_things (building q) ss) (more_things (several es) ds) (more_types u us) w b hs hd e =
      let x = same_bare (building q) (several es) u w.0 b.0 hs.0 hd.0 e.0 in let y = all_same_bare ss ds us w.1 b.1 hs.1 hd.1 e.1 in λ i. more_things (x i) (y i)
  all_same_bare (more_things (several qs) ss) (more_things (plain v) ds) (more_types u us) w b hs hd e = absurd hd
  all_same_bare (more_things (several qs) ss) (more_things (building d) ds) (more_types u us) w b hs hd e =
      let x = same_bare (several qs) (building d) u w.0 b.0 hs.0 hd.0 e.0 in let y = all_same_bare ss ds us w.1 b.1 hs.1 hd.1 e.1 in λ i. more_things (x i) (y i)
  all_same_bare (more_things (several qs) ss) (more_things (several es) ds) (more_types u us) w b hs hd e =
      let x = same_bare (several qs) (several es) u w.0 b.0 hs.0 hd.0 e.0 in let y = all_same_bare ss ds us w.1 b.1 hs.1 hd.1 e.1 in λ i. more_things (x i) (y i)

-- ---- one loop

ends_of : {A : Type 0} (P : A → Type 0) (o : Outcome A) → ((x : A) → o ≡ done x → P x) → Ends P o
ends_of P o h = record { holds = by o h }
  where
    by : (p : Outcome _) → ((x : _) → p ≡ done x → P x) → Holds P p
    by (done x) k = k x refl
    by fault k = tt
    by stuck k = tt

part_laws : PartLaws
part_laws = record { merges = merge_part-after_part; keys = key_laws; bare_shape = shape_of-bare; neutral = bare_behind }

module _ (a : At) (ls : LegTrees) (e : ExprTree) (b n x : Binder) (f : ExprTree) (env : Env) (h : IsFit (loop a ls e b n x f) env) where
  abbrev site : Site
  site = record { builder_binder = b; number_binder = n; row_binder = x; body = f; builder = h.answer; row = h.typed.1; names = h.names }

  law : LawOfLoop site
  law =
      law_at part_laws (loop a ls e b n x f) h.origins h.names 0 site
      (inl (refl, (record { builder_binder = refl; number_binder = refl; row_binder = refl; body = refl; names = refl; legs = (h.typed.0, h.typed.2, h.typed.3); starts = h.typed.4; is_builder = h.typed.5; gives = h.typed.9 })))
      h.keeps h.named.formed h.named.forms

  run_joins : (rows : List Row) (s : Thing) → HasThing s h.answer → run rows s (λ r t. row_of b n x f env r t) ≡ map_out (after_thing s) (run rows (bare_thing s) (λ r t. row_of b n x f env r t))
  run_joins rows s hs = law.whole env s rows hs

  run_has : (rows : List Row) (s : Thing) → RowsHave h.typed.1 rows → HasThing s h.answer → Good (λ t. HasThing t h.answer) (run rows s (λ r t. row_of b n x f env r t))
  run_has rows s hr hs =
      run_good h.typed.1 (λ t. HasThing t h.answer) (λ r t. row_of b n x f env r t)
      (λ r t hv ht.
      let k = named_body a ls e b n x f env h r.0 r.1 t ht hv in
      never_stuck key_laws f (body_types b n x h.answer h.typed.1 h.names) h.answer (with_row b n x t (plain (whole_number r.0)) (plain r.1) env) h.typed.9 k.formed k.fits)
      rows s hr hs

  run_keeps : (rows : List Row) (s t : Thing) → HasThing s h.answer → Shaped s t → Ends (Shaped s) (run rows t (λ r u. row_of b n x f env r u))
  run_keeps rows s t hs k =
      run_shaped (Shaped s) (λ r u. row_of b n x f env r u) (λ r u p. ends_of (Shaped s) (row_of b n x f env r u) (λ d q. row_shaped a ls e b n x f env h r.0 r.1 s u d hs p q)) rows t k

  answer_formed : IsWellFormed h.answer
  answer_formed = type_formed e h.names h.answer h.typed.4 h.named.formed

-- ---- ranges

drops : (P : Value → Type 0) (n : ℕ) (xs : List Value) → AllAre P (values xs) → AllAre P (values (drop n xs))
drops P zero xs h = h
drops P (suc n) [] h = tt
drops P (suc n) (x ∷ xs) h = drops P n xs h.1

takes : (P : Value → Type 0) (n : ℕ) (xs : List Value) → AllAre P (values xs) → AllAre P (values (take n xs))
takes P zero xs h = tt
takes P (suc n) [] h = tt
takes P (suc n) (x ∷ xs) h = (h.0, takes P n xs h.1)

-- what is known of a loop over rows
pub record OverRows (n : ExprTree) (env : Env) (lists : List (List Value)) (fit : IsFit n env) (rows : List Value) : Type 0 where
  pub are : rows_of lists ≡ done rows
  pub rows_have : RowsAre n env fit rows

pub range_joins : (n : ExprTree) (env : Env) (lists : List (List Value)) (h : IsFit n env) (rows : List Value) (from to : ℕ) (s : Thing) → OverRows n env lists h rows → HasThing s h.answer
    → range_over n env lists from to s ≡ map_out (after_thing s) (range_over n env lists from to (bare_thing s))
range_joins (loop a ls e b m x f) env lists h rows from to s k hs =
    range_is (loop a ls e b m x f) env lists rows from to s k.are
    ∙ run_joins a ls e b m x f env h (number_from from (take (to - from) (drop from rows))) s hs
    ∙ ap (map_out (after_thing s)) (sym (range_is (loop a ls e b m x f) env lists rows from to (bare_thing s) k.are))
range_joins _ env lists h rows from to s k hs = absurd k.rows_have

pub range_good : (n : ExprTree) (env : Env) (lists : List (List Value)) (h : IsFit n env) (rows : List Value) (from to : ℕ) (s : Thing) → OverRows n env lists h rows → HasThing s h.answer
    → Good (λ t. HasThing t h.answer) (range_over n env lists from to s)
range_good (loop a ls e b m x f) env lists h rows from to s k hs =
    subst (Good (λ t. HasThing t h.answer)) (sym (range_is (loop a ls e b m x f) env lists rows from to s k.are))
    (run_has a ls e b m x f env h (number_from from (take (to - from) (drop from rows))) s
    (rows_have h.typed.1 from (take (to - from) (drop from rows)) (takes (HasValue h.typed.1) (to - from) (drop from rows) (drops (HasValue h.typed.1) from rows k.rows_have))) hs)
range_good _ env lists h rows from to s k hs = absurd k.rows_have

pub range_has : (n : ExprTree) (env : Env) (lists : List (List Value)) (h : IsFit n env) (rows : List Value) (from to : ℕ) (s t : Thing) → OverRows n env lists h rows → HasThing s h.answer → range_over n env lists from to s ≡ done t → HasThing t h.answer
range_has n env lists h rows from to s t k hs q = subst (GivesOrFaults (λ u. HasThing u h.answer)) q (range_good n env lists h rows from to s k hs).fits

pub range_shaped : (n : ExprTree) (env : Env) (lists : List (List Value)) (h : IsFit n env) (rows : List Value) (from to : ℕ) (s t d : Thing) → OverRows n env lists h rows → HasThing s h.answer → Shaped s t → range_over n env lists from to t ≡ done d → Shaped s d
range_shaped (loop a ls e b m x f) env lists h rows from to s t d k hs p q =
    subst (Holds (Shaped s)) (sym (range_is (loop a ls e b m x f) env lists rows from to t k.are) ∙ q) (run_keeps a ls e b m x f env h (number_from from (take (to - from) (drop from rows))) s t hs p).holds
range_shaped _ env lists h rows from to s t d k hs p q = absurd k.rows_have

alike : (n : ExprTree) (env : Env) (lists : List (List Value)) (h : IsFit n env) (rows : List Value) (s d : Thing) → OverRows n env lists h rows → HasThing s h.answer → HasThing d h.answer → Shaped s d → bare_thing s ≡ bare_thing d
alike (loop a ls e b m x f) env lists h rows s d k hs hd p = same_bare s d h.answer (answer_formed a ls e b m x f env h) h.typed.5 hs hd p
alike _ env lists h rows s d k hs hd p = absurd k.rows_have

bare_has : (n : ExprTree) (env : Env) (lists : List (List Value)) (h : IsFit n env) (rows : List Value) (s : Thing) → OverRows n env lists h rows → HasThing s h.answer → HasThing (bare_thing s) h.answer
bare_has (loop a ls e b m x f) env lists h rows s k hs = bare_typed s h.answer (answer_formed a ls e b m x f env h) h.typed.5 hs
bare_has _ env lists h rows s k hs = absurd k.rows_have

join_of : (n : ExprTree) (env : Env) (lists : List (List Value)) (h : IsFit n env) (rows : List Value) (s d : Thing) → OverRows n env lists h rows → HasThing s h.answer → HasThing d h.answer → Shaped s d → Join s d
join_of (loop a ls e b m x f) env lists h rows s d k hs hd p = joins s d h.answer (answer_formed a ls e b m x f env h) h.typed.5 hs hd p
join_of _ env lists h rows s d k hs hd p = absurd k.rows_have

-- ---- one range after another

row_at : (rows : List Value) (i : ℕ) → i < length rows → (v : Value) × (slice_get rows i ≡ Some v)
row_at [] i h = absurd (omega arith)
row_at (v ∷ vs) zero h = (v, refl)
row_at (v ∷ vs) (suc i) h = row_at vs i (omega arith)

then_then : {A B C : Type 0} (o : Outcome A) (f : A → Outcome B) (g : B → Outcome C) → and_then (and_then o f) g ≡ and_then o (λ x. and_then (f x) g)
then_then (done x) f g = refl
then_then fault f g = refl
then_then stuck f g = refl

splits_by : (n : ExprTree) (env : Env) (lists : List (List Value)) (rows : List Value) (k from to : ℕ) (s : Thing) → rows_of lists ≡ done rows → from + k ≤ to → to ≤ length rows
    → range_over n env lists from to s ≡ and_then (range_over n env lists from (from + k) s) (λ t. range_over n env lists (from + k) to t)
splits_by n env lists rows zero from to s are h w =
    let none : from ≡ from + 0 = omega arith in
    ap (λ o. and_then o (λ t. range_over n env lists from to t)) (sym (none_left n env lists rows from s are))
    ∙ ap (λ m. and_then (range_over n env lists from m s) (λ t. range_over n env lists m to t)) none
splits_by n env lists rows (suc k) from to s are h w =
    let v = row_at rows from (omega arith) in
    let more : (from + 1) + k ≡ from + suc k = omega arith in
    let less : from < to = omega arith in
    let near : from < from + suc k = omega arith in
    let within : (from + 1) + k ≤ to = omega arith in
    one_of_range n env lists rows from to v.0 s are less v.1
    ∙ (λ i. and_then (row_step n env (from, v.0) s) (λ u. splits_by n env lists rows k (from + 1) to u are within w i))
    ∙ sym (then_then (row_step n env (from, v.0) s) (λ u. range_over n env lists (from + 1) ((from + 1) + k) u) (λ t. range_over n env lists ((from + 1) + k) to t))
    ∙ ap (λ m. and_then (and_then (row_step n env (from, v.0) s) (λ u. range_over n env lists (from + 1) m u)) (λ t. range_over n env lists m to t)) more
    ∙ ap (λ o. and_then o (λ t. range_over n env lists (from + suc k) to t)) (sym (one_of_range n env lists rows from (from + suc k) v.0 s are near v.1))

-- a range is one up to a number between and then the rest
pub range_splits : (n : ExprTree) (env : Env) (lists : List (List Value)) (rows : List Value) (from mid to : ℕ) (s : Thing) → rows_of lists ≡ done rows → from ≤ mid → mid ≤ to → to ≤ length rows
    → range_over n env lists from to s ≡ and_then (range_over n env lists from mid s) (λ t. range_over n env lists mid to t)
range_splits n env lists rows from mid to s are low high w =
    let same : from + (mid - from) ≡ mid = omega arith in
    let less : from + (mid - from) ≤ to = omega arith in
    splits_by n env lists rows (mid - from) from to s are less w ∙ ap (λ m. and_then (range_over n env lists from m s) (λ t. range_over n env lists m to t)) same

-- ---- tiles

over : (ev : Evaluation) (count : ℕ) (h : HoldsEvaluation ev count) → OverRows ev.node ev.names ev.lists h.fit h.rows
over ev count h = record { are = h.are; rows_have = h.rows_have }

pub so_far_starts : (ev : Evaluation) (count : ℕ) → HoldsEvaluation ev count → IsSoFar ev 0 ev.start
so_far_starts ev count h = none_left ev.node ev.names ev.lists h.rows 0 ev.start h.are

pub so_far_has : (ev : Evaluation) (count k : ℕ) (j : Thing) (h : HoldsEvaluation ev count) → IsSoFar ev k j → HasThing j h.fit.answer
so_far_has ev count k j h q = range_has ev.node ev.names ev.lists h.fit h.rows 0 k ev.start j (over ev count h) h.has q

so_far_shaped : (ev : Evaluation) (count k : ℕ) (j : Thing) (h : HoldsEvaluation ev count) → IsSoFar ev k j → Shaped ev.start j
so_far_shaped ev count k j h q = range_shaped ev.node ev.names ev.lists h.fit h.rows 0 k ev.start ev.start j (over ev count h) h.has (self_shaped ev.start) q

-- the action of a tile, from the builder so far
so_far_acts : (ev : Evaluation) (count k to : ℕ) (j : Thing) (h : HoldsEvaluation ev count) → IsSoFar ev k j
    → range_over ev.node ev.names ev.lists k to j ≡ map_out (after_thing j) (range_over ev.node ev.names ev.lists k to (bare_thing ev.start))
so_far_acts ev count k to j h q =
    let has = so_far_has ev count k j h q in
    range_joins ev.node ev.names ev.lists h.fit h.rows k to j (over ev count h) has
    ∙ ap (λ s. map_out (after_thing j) (range_over ev.node ev.names ev.lists k to s)) (sym (alike ev.node ev.names ev.lists h.fit h.rows ev.start j (over ev count h) h.has has (so_far_shaped ev count k j h q)))

-- what lets a tile's action be run
pub tile_holds : (ev : Evaluation) (count from to : ℕ) → HoldsEvaluation ev count → from ≤ to → to ≤ count → HoldsRange ev.node ev.names ev.lists from to (bare_thing ev.start)
tile_holds ev count from to h low high = record {
  fit = h.fit;
  has = bare_has ev.node ev.names ev.lists h.fit h.rows ev.start (over ev count h) h.has;
  rows = h.rows;
  are = h.are;
  rows_have = h.rows_have;
  ordered = low;
  within = let e : count ≤ length h.rows = h.within in omega arith;
}

-- the rows of a loop from its start make an evaluation
pub evaluation_holds : (ev : Evaluation) (count : ℕ) → HoldsRows ev.node ev.names ev.lists ev.start count → HoldsEvaluation ev count
evaluation_holds ev count h = record {
  fit = h.fit;
  has = h.has;
  rows = h.rows;
  are = h.are;
  rows_have = h.rows_have;
  ordered = omega arith;
  within = let e : length h.rows ≡ count = h.count_is in omega arith;
}

-- the builder so far and the action of the next tile join
pub tile_joins : (ev : Evaluation) (count k to : ℕ) (j d : Thing) → HoldsEvaluation ev count → IsSoFar ev k j → IsAction ev k to d → Join j d
tile_joins ev count k to j d h q r =
    let has = so_far_has ev count k j h q in
    let bare = bare_has ev.node ev.names ev.lists h.fit h.rows ev.start (over ev count h) h.has in
    let same : bare_thing ev.start ≡ bare_thing j = alike ev.node ev.names ev.lists h.fit h.rows ev.start j (over ev count h) h.has has (so_far_shaped ev count k j h q) in
    join_of ev.node ev.names ev.lists h.fit h.rows j d (over ev count h) has (range_has ev.node ev.names ev.lists h.fit h.rows k to (bare_thing ev.start) d (over ev count h) bare r)
    (range_shaped ev.node ev.names ev.lists h.fit h.rows k to j (bare_thing ev.start) d (over ev count h) has (subst (Shaped j) (sym same) (bare_is_shaped j)) r)

-- the join has come as far as the tile
pub tile_enters : (ev : Evaluation) (count k to : ℕ) (j d : Thing) → HoldsEvaluation ev count → k ≤ to → to ≤ count → IsSoFar ev k j → IsAction ev k to d → IsSoFar ev to (after_thing j d)
tile_enters ev count k to j d h low high q r =
    let e : count ≤ length h.rows = h.within in
    range_splits ev.node ev.names ev.lists h.rows 0 k to ev.start h.are (omega arith) low (omega arith)
    ∙ ap (λ o. and_then o (λ t. range_over ev.node ev.names ev.lists k to t)) q
    ∙ so_far_acts ev count k to j h q
    ∙ ap (map_out (after_thing j)) r

-- a tile's fault is a fault of the rows up to its end, whatever the rows before it made
pub tile_faults : (ev : Evaluation) (count k to : ℕ) → HoldsEvaluation ev count → k ≤ to → to ≤ count → range_over ev.node ev.names ev.lists k to (bare_thing ev.start) ≡ fault → range_over ev.node ev.names ev.lists 0 to ev.start ≡ fault
tile_faults ev count k to h low high r =
    let e : count ≤ length h.rows = h.within in
    range_splits ev.node ev.names ev.lists h.rows 0 k to ev.start h.are (omega arith) low (omega arith)
    ∙ by (range_over ev.node ev.names ev.lists 0 k ev.start) refl (range_good ev.node ev.names ev.lists h.fit h.rows 0 k ev.start (over ev count h) h.has).fits
  where
    by : (o : Outcome Thing) → range_over ev.node ev.names ev.lists 0 k ev.start ≡ o → GivesOrFaults (λ t. HasThing t h.fit.answer) o → and_then o (λ t. range_over ev.node ev.names ev.lists k to t) ≡ fault
    by (done j) q g = so_far_acts ev count k to j h q ∙ ap (map_out (after_thing j)) r
    by fault q g = refl
    by stuck q g = absurd g

-- the loop is its rows from the first to the last
pub loop_is_range : (ev : Evaluation) (count : ℕ) (rows : List Value) → rows_of ev.lists ≡ done rows → length rows ≡ count → loop_over ev.node ev.names ev.lists ev.start ≡ range_over ev.node ev.names ev.lists 0 count ev.start
loop_is_range ev count rows are long =
    ap (λ o. and_then o (λ l. rows_from ev.node ev.names 0 l ev.start)) are
    ∙ ap (λ l. rows_from ev.node ev.names 0 l ev.start) (sym (all_rows rows))
    ∙ ap (λ c. rows_from ev.node ev.names 0 (take (c - 0) (drop 0 rows)) ev.start) long
    ∙ sym (range_is ev.node ev.names ev.lists rows 0 count ev.start are)

-- where all rows are done the loop is done with the builder so far
pub all_tiles_done : (ev : Evaluation) (count : ℕ) (j : Thing) (rows : List Value) → rows_of ev.lists ≡ done rows → length rows ≡ count → IsSoFar ev count j → loop_over ev.node ev.names ev.lists ev.start ≡ done j
all_tiles_done ev count j rows are long q = loop_is_range ev count rows are long ∙ q

-- and a tile's fault is a fault of the loop
pub loop_faults : (ev : Evaluation) (count k to : ℕ) (rows : List Value) → HoldsEvaluation ev count → rows_of ev.lists ≡ done rows → length rows ≡ count → k ≤ to → to ≤ count → range_over ev.node ev.names ev.lists k to (bare_thing ev.start) ≡ fault
    → loop_over ev.node ev.names ev.lists ev.start ≡ fault
loop_faults ev count k to rows h are long low high r =
    let e : count ≤ length h.rows = h.within in
    loop_is_range ev count rows are long
    ∙ range_splits ev.node ev.names ev.lists h.rows 0 to count ev.start h.are (omega arith) high (omega arith)
    ∙ ap (λ o. and_then o (λ t. range_over ev.node ev.names ev.lists to count t)) (tile_faults ev count k to h low high r)

-- what the node comes to is the loop over the lists of its legs from its start
pub evaluation_is : (a : At) (ls : LegTrees) (e : ExprTree) (b n x : Binder) (f : ExprTree) (ev : Evaluation) → ev.node ≡ loop a ls e b n x f → eval_legs ls ev.names ≡ done ev.lists → eval e ev.names ≡ done ev.start
    → eval ev.node ev.names ≡ loop_over ev.node ev.names ev.lists ev.start
evaluation_is a ls e b n x f ev is q r =
    ap (λ m. eval m ev.names) is
    ∙ ap (λ o. and_then o (λ legs. and_then (rows_of legs) (λ rows. and_then (eval e ev.names) (λ s. run (number_from 0 rows) s (λ r t. row_of b n x f ev.names r t))))) q
    ∙ ap (λ o. and_then (rows_of ev.lists) (λ rows. and_then o (λ s. run (number_from 0 rows) s (λ r t. row_of b n x f ev.names r t)))) r
    ∙ ap (λ m. loop_over m ev.names ev.lists ev.start) (sym is)
