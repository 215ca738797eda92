-- The builders of the one loop in the place of both lets: they are used once, and taken as before.
use Rattle.std.proofs.Common.{◌≡◌, ◌≢◌, ◌⊎◌, inl, inr, ℕ, ◌==◌, Bool, true, false, ◌&&◌, ◌||◌, if◌then◌else◌, [], ◌∷◌, Some, refl, ap, sym, subst, ◌∙◌, eq-eqb, ne_eqb, eqb-true}
use Rattle.weld_data.specs.declared.kind.Kind.TheVariants as kinds
use Rattle.weld_tree.specs.declared.binder.Binder.{Binder}
use Rattle.weld_tree.specs.declared.known.Known.TheVariants.{Is}
use Rattle.weld_tree.specs.declared.place.Place.{Place}
use Rattle.weld_tree.specs.TypeTree.{TypeTree, TypeTrees, scalar, vec, struct, no_types, more_types}
use Rattle.weld_tree.specs.ExprTree.{At, ExprTree, leaf, one, many, let_in, loop, no_exprs, more_exprs, whole, no_legs, more_legs, name, field, make_struct}
use Rattle.weld_meaning.specs.Environment.{Named, look_for}
use Rattle.weld_meaning.specs.Names.{IsFree, AgreeOn}
use Rattle.weld_meaning.specs.Typing.{Types, NoteFits, place_type, IsField, HasType, body_types}
use Rattle.weld_meaning.specs.Origin.{Path, Origin, value, struct, more_origins, no_origins, field_origin, is_value, struct_origin, known_origin, origin_of_name, origin, own_paths, from_within, outside}
use Rattle.weld_meaning.specs.Linear.{IsSeen, Keeps}
use Rattle.weld_meaning.specs.Available.{Taken, Apart, TakesAll, without, is_builder_path, chain_takes, is_below, takes, Splits}
use Rattle.weld_meaning.proofs.FreeNames.{type_free, origin_free, keeps_free, taken_free, splits_free}
use Rattle.weld_check_types.specs.Notes.{HasNote, AreNoted}
use Rattle.weld_rewriting.specs.Placed.{IsPlaced}
use Rattle.weld_rewriting.specs.Tidy.{IsTidy}
use Rattle.weld_meaning.proofs.OneType.{one_type}
use Rattle.weld_rewriting.proofs.Forms.{chain_value}
use Rattle.weld_rewriting.proofs.Parts.{value_of_let, body_of_let}
use Rattle.weld_substitution.proofs.PutTypes.{noted_free}
use Rattle.weld_joining.specs.Beside.{finish_at, Half, half_loop, half_value, two_lets, MayJoin, node_of, bare, both_builders, builder_field, joined, with_results}
use Rattle.weld_joining.proofs.Relabelled.{below, relabelled}
use Rattle.weld_joining.proofs.Seen.{keeps_seen}
use Rattle.weld_joining.proofs.Finishing.{FinishKeeps, finish_origin, finish_from, finish_typed, finish_noted, finish_keeps, finish_splits, finish_takes}
use Rattle.weld_joining.proofs.Looking.{skip, there, forward, over, instead}
use Rattle.weld_joining.proofs.Bodies.{OneBody, AsField, as_field, outside_stays}
use Rattle.weld_joining.proofs.Taking.{shown}
use Rattle.weld_joining.proofs.Fields.{pair_origin, pair_own, pair_seen, no_own_value, renamed, TakesField, field_body, BothBodies, both_bodies, chain_there, two_paths, struct_two, first_of_two, second_of_two, not_false, or_false, or_right, name_takes, fields_apart, chain_fact, without_fact}
use Rattle.weld_joining.proofs.BesideHalves.{HalfPlaced, half_placed, rows_looked, first_leg_noted}
use Rattle.weld_joining.proofs.Numbers.{b1_x1, b1_i1, i1_x1, b1_apart, i1_apart, x1_apart, n1_apart, n2_there, b2_there, i2_there, x2_there, b2_i2, b2_x2, i2_x2, i2_n2, s_n1, x2_unnamed, x1_unnamed, i1_unnamed, i2_unnamed}
use Rattle.weld_joining.proofs.Placing.{Known, known, bodies, start_same, rest_same, second_from, second_value_from, after_typed, after_noted}

module _ (a m : At) (s : ℕ) (row : TypeTree) (h k : Half) (rest : ExprTree) (may : MayJoin row h k) (tidy : IsTidy (two_lets a m s h k rest)) (types : Types) (g : Named Origin) (t : TypeTree) (w : Known a m s row h k rest may tidy types g t) where
  abbrev n1 : ℕ
  n1 = h.bound.sym.0

  abbrev n2 : ℕ
  n2 = k.bound.sym.0

  abbrev i1 : ℕ
  i1 = h.number.sym.0

  abbrev x1 : ℕ
  x1 = h.row.sym.0

  abbrev i2 : ℕ
  i2 = k.number.sym.0

  abbrev x2 : ℕ
  x2 = k.row.sym.0

  abbrev all : TypeTree
  all = both_builders h k

  abbrev inner : Origin → Named Origin → Named Origin
  inner b y = (x1, value) ∷ (i1, value) ∷ (x2, b) ∷ y

  abbrev before : ExprTree
  before = Rattle.weld_joining.proofs.Placing.before a m s row h k rest may tidy

  abbrev after : ExprTree
  after = Rattle.weld_joining.proofs.Placing.after a m s row h k rest may tidy

  abbrev first_let : ExprTree
  first_let = Rattle.weld_joining.proofs.Placing.first_let a m s row h k rest may tidy

  abbrev second_let : ExprTree
  second_let = Rattle.weld_joining.proofs.Placing.second_let a m s row h k rest may tidy

  abbrev second : ExprTree
  second = Rattle.weld_joining.proofs.Placing.second a m s row h k rest may tidy

  abbrev starts : ExprTree
  starts = Rattle.weld_joining.proofs.Placing.starts a m s row h k rest may tidy types g t w

  abbrev both_lets : ExprTree
  both_lets = Rattle.weld_joining.proofs.Placing.both_lets a m s row h k rest may tidy types g t w

  abbrev one_loop : ExprTree
  one_loop = Rattle.weld_joining.proofs.Placing.one_loop a m s row h k rest may tidy types g t w

  abbrev first_part : ExprTree
  first_part = Rattle.weld_joining.proofs.Placing.first_part a m s row h k rest may tidy types g t w

  abbrev second_part : ExprTree
  second_part = Rattle.weld_joining.proofs.Placing.second_part a m s row h k rest may tidy types g t w

  abbrev first_result : ExprTree
  first_result = Rattle.weld_joining.proofs.Placing.first_result a m s row h k rest may tidy types g t w

  abbrev second_result : ExprTree
  second_result = Rattle.weld_joining.proofs.Placing.second_result a m s row h k rest may tidy types g t w

  abbrev last_let : ExprTree
  last_let = Rattle.weld_joining.proofs.Placing.last_let a m s row h k rest may tidy types g t w

  abbrev results : ExprTree
  results = Rattle.weld_joining.proofs.Placing.results a m s row h k rest may tidy types g t w

  abbrev first_begins : Origin
  first_begins = Rattle.weld_joining.proofs.Placing.from_first a m s row h k rest may tidy g

  abbrev second_begins : Origin
  second_begins = Rattle.weld_joining.proofs.Placing.from_second a m s row h k rest may tidy g

  abbrev first_answers : Origin
  first_answers = Rattle.weld_joining.proofs.Placing.first_value a m s row h k rest may tidy g

  abbrev second_answers : Origin
  second_answers = Rattle.weld_joining.proofs.Placing.second_value a m s row h k rest may tidy g

  abbrev own_pair : Origin
  own_pair = Rattle.weld_joining.proofs.Placing.own_pair a m s row h k rest may tidy g

  abbrev origins_inside : Named Origin
  origins_inside = Rattle.weld_joining.proofs.Placing.origins_inside a m s row h k rest may tidy g

  -- ---- builders

  abbrev pair_from : Origin
  pair_from = struct_origin (more_origins first_begins (more_origins second_begins no_origins))

  -- it is a struct of both
  pair_is : pair_from ≡ struct (more_origins first_begins (more_origins second_begins no_origins))
  pair_is = struct_two first_begins second_begins w.first.kept

  own_is : own_paths pair_from ≡ own_pair
  own_is = ap own_paths pair_is ∙ pair_own first_begins second_begins

  abbrev then_origins : Named Origin
  then_origins = (i2, pair_from) ∷ g

  abbrev later_origins : Named Origin
  later_origins = (n1, first_answers) ∷ then_origins

  abbrev rest_before : Named Origin
  rest_before = (n2, second_answers) ∷ (n1, first_answers) ∷ g

  abbrev rest_origins : Named Origin
  rest_origins = (n2, second_answers) ∷ later_origins

  second_body_there : OneBody k.builder k.number k.row k.body second_begins ((n1, w.first_origin) ∷ g)
  second_body_there = subst (λ o. OneBody k.builder k.number k.row k.body o ((n1, w.first_origin) ∷ g)) (second_from a m s row h k rest may tidy w.first_origin g) w.second.one_body

  both_in : BothBodies x2 (below 0 (own_paths first_begins)) (below 1 (own_paths second_begins)) (node_of a.place all) first_let second_let origins_inside
  both_in = bodies a m s row h k rest may tidy w.first_origin g w.first.kept w.first.one_body second_body_there

  -- what the name of both comes from, and its fields
  n1_i2 : n1 ≢ i2
  n1_i2 = n1_apart a m s h k rest tidy i2 (i2_there a m s h k rest tidy)

  from_pair : origin_of_name i2 then_origins ≡ pair_from
  from_pair = ap known_origin (there i2 pair_from g)

  from_pair_later : origin_of_name i2 later_origins ≡ pair_from
  from_pair_later = ap known_origin (skip i2 n1 first_answers then_origins (λ e. n1_i2 (sym e)) ∙ there i2 pair_from g)

  first_part_from : origin first_part then_origins ≡ first_begins
  first_part_from = ap (field_origin 0) from_pair ∙ first_of_two first_begins second_begins

  second_part_from : origin second_part later_origins ≡ second_begins
  second_part_from = ap (field_origin 1) from_pair_later ∙ second_of_two first_begins second_begins

  first_result_from : origin first_result then_origins ≡ first_answers
  first_result_from = finish_from h.result_at first_part then_origins ∙ ap (finish_origin h.result_at) first_part_from

  second_result_from : origin second_result later_origins ≡ second_answers
  second_result_from = finish_from k.result_at second_part later_origins ∙ ap (finish_origin k.result_at) second_part_from

  second_start_keeps : Keeps k.start g
  second_start_keeps = keeps_free k.start ((n1, w.first_origin) ∷ g) g (start_same a m s row h k rest may tidy w.first_origin g) w.second.start.keeps

  second_start_splits : Splits k.start g
  second_start_splits = splits_free k.start ((n1, w.first_origin) ∷ g) g (start_same a m s row h k rest may tidy w.first_origin g) w.second.start.splits

  seen_pair : IsSeen pair_from
  seen_pair = keeps_seen starts g (w.first.start.keeps, (second_start_keeps, tt))

  rest_keeps : Keeps rest rest_origins
  rest_keeps = keeps_free rest rest_before rest_origins (rest_same a m s row h k rest may tidy first_answers second_answers pair_from g) w.rest_in.keeps

  second_closes : FinishKeeps k.result_at (origin second_part later_origins)
  second_closes = subst (FinishKeeps k.result_at) (second_from a m s row h k rest may tidy w.first_origin g ∙ sym second_part_from) w.second.closes

  last_keeps : Keeps last_let later_origins
  last_keeps = (
    finish_keeps k.result_at second_part later_origins (subst IsSeen (sym from_pair_later) seen_pair, tt) second_closes,
    subst (λ o. Keeps rest ((n2, o) ∷ later_origins)) (sym second_result_from) rest_keeps,
  )

  loop_keeps : Keeps one_loop g
  loop_keeps = (
    (w.first.seen, tt),
    (w.first.start.keeps, (second_start_keeps, tt)),
    subst (λ o. Keeps both_lets (inner o (outside g))) (sym own_is) both_in.keeps,
    subst (λ o. origin both_lets (inner o (outside g)) ≡ own_paths pair_from) (sym own_is) (both_in.gives ∙ sym own_is),
  )

  pub after_keeps : Keeps after g
  after_keeps = (
    loop_keeps,
    (
      finish_keeps h.result_at first_part then_origins (subst IsSeen (sym from_pair) seen_pair, tt) (subst (FinishKeeps h.result_at) (sym first_part_from) w.first.closes),
      subst (λ o. Keeps last_let ((n1, o) ∷ then_origins)) (sym first_result_from) last_keeps,
    ),
  )

  -- ---- what is taken

  abbrev first_taken : Taken
  first_taken = takes h.start g

  abbrev second_taken : Taken
  second_taken = takes k.start g

  abbrev rest_taken : Taken
  rest_taken = takes rest rest_before

  abbrev second_let_before : ExprTree
  second_let_before = let_in m k.bound (half_value s k) rest

  loop_takes : (y : ℕ) (q : Path) → takes one_loop g y q ≡ (first_taken y q || second_taken y q)
  loop_takes y q =
      ap (λ x. (x || false) || (first_taken y q || (second_taken y q || false))) (name_takes s [] g y q false w.name_value) ∙ ap (λ x. first_taken y q || x) (or_false (second_taken y q) false refl)

  first_takes : (y : ℕ) (q : Path) → takes (half_value s h) g y q ≡ first_taken y q
  first_takes y q = finish_takes h.result_at (half_loop s h) g y q ∙ ap (λ x. (x || false) || first_taken y q) (name_takes s [] g y q false w.name_value)

  second_takes : (v : Origin) (y : ℕ) (q : Path) → takes (half_value s k) ((n1, v) ∷ g) y q ≡ second_taken y q
  second_takes v y q =
      finish_takes k.result_at (half_loop s k) ((n1, v) ∷ g) y q
      ∙ ap (λ x. (x || false) || takes k.start ((n1, v) ∷ g) y q) (name_takes s [] ((n1, v) ∷ g) y q false (ap known_origin (skip s n1 v g (s_n1 a m s h k rest tidy)) ∙ w.name_value))
      ∙ ap (λ (x : Taken). x y q) (taken_free k.start ((n1, v) ∷ g) g (start_same a m s row h k rest may tidy v g))

  -- the second start takes nothing of the first result
  second_not : (q : Path) → second_taken n1 q ≡ false
  second_not q = by (second_taken n1 q) refl
    where
      by : (b : Bool) → second_taken n1 q ≡ b → second_taken n1 q ≡ false
      by true e = absurd (may.start_unnamed (shown k.start g n1 q second_start_keeps e).named)
      by false e = e

  let_takes : (y : ℕ) (q : Path) → takes second_let_before ((n1, first_answers) ∷ g) y q ≡ (second_taken y q || (if n2 == y then false else rest_taken y q))
  let_takes y q =
      ap (λ x. x || (if n2 == y then false else takes rest ((n2, origin (half_value s k) ((n1, first_answers) ∷ g)) ∷ (n1, first_answers) ∷ g) y q)) (second_takes first_answers y q)
      ∙ ap (λ o. second_taken y q || (if n2 == y then false else takes rest ((n2, o) ∷ (n1, first_answers) ∷ g) y q)) (second_value_from a m s row h k rest may tidy first_answers g)

  same_taken : takes rest rest_origins ≡ rest_taken
  same_taken = sym (taken_free rest rest_before rest_origins (rest_same a m s row h k rest may tidy first_answers second_answers pair_from g))

  same_rest : (y : ℕ) (q : Path) → takes rest rest_origins y q ≡ rest_taken y q
  same_rest y q = ap (λ (v : Taken). v y q) same_taken

  rest_takes : (q : Path) → takes rest rest_origins i2 q ≡ false
  rest_takes q = by (takes rest rest_origins i2 q) refl
    where
      by : (b : Bool) → takes rest rest_origins i2 q ≡ b → takes rest rest_origins i2 q ≡ false
      by true e = let f = shown rest rest_origins i2 q rest_keeps e in absurd (i2_unnamed a m s h k rest tidy f.named)
      by false e = e

  none_then : (y : ℕ) (q : Path) → takes rest rest_origins y q ≡ false → (if n2 == y then false else takes rest rest_origins y q) ≡ false
  none_then y q e = by (n2 == y)
    where
      by : (b : Bool) → (if b then false else takes rest rest_origins y q) ≡ false
      by true = refl
      by false = e

  abbrev first_chain : Taken
  first_chain y q = chain_takes (Some (i2, 0 ∷ [])) then_origins y q false

  abbrev second_chain : Taken
  second_chain y q = chain_takes (Some (i2, 1 ∷ [])) later_origins y q false

  first_result_takes : (y : ℕ) (q : Path) → takes first_result then_origins y q ≡ first_chain y q
  first_result_takes y q = finish_takes h.result_at first_part then_origins y q

  second_result_takes : (y : ℕ) (q : Path) → takes second_result later_origins y q ≡ second_chain y q
  second_result_takes y q = finish_takes k.result_at second_part later_origins y q

  last_takes : (y : ℕ) (q : Path) → takes last_let later_origins y q ≡ (second_chain y q || (if n2 == y then false else takes rest rest_origins y q))
  last_takes y q =
      ap (λ x. x || (if n2 == y then false else takes rest ((n2, origin second_result later_origins) ∷ later_origins) y q)) (second_result_takes y q)
      ∙ ap (λ o. second_chain y q || (if n2 == y then false else takes rest ((n2, o) ∷ later_origins) y q)) second_result_from

  results_take : (y : ℕ) (q : Path) → takes results then_origins y q ≡ (first_chain y q || (if n1 == y then false else (second_chain y q || (if n2 == y then false else takes rest rest_origins y q))))
  results_take y q =
      ap (λ x. x || (if n1 == y then false else takes last_let ((n1, origin first_result then_origins) ∷ then_origins) y q)) (first_result_takes y q)
      ∙ ap (λ o. first_chain y q || (if n1 == y then false else takes last_let ((n1, o) ∷ then_origins) y q)) first_result_from
      ∙ ap (λ x. first_chain y q || (if n1 == y then false else x)) (last_takes y q)

  abbrev after_both : ℕ → Bool → Bool
  after_both y x = if n1 == y then false else (if n2 == y then false else x)

  -- of another name than that of both
  results_take_else : (y : ℕ) (q : Path) → (i2 == y) ≡ false → takes results then_origins y q ≡ after_both y (rest_taken y q)
  results_take_else y q e =
      results_take y q
      ∙ ap (λ d. (d && (is_below (0 ∷ []) q && is_builder_path (origin_of_name y then_origins) q)) || (if n1 == y then false else (second_chain y q || (if n2 == y then false else takes rest rest_origins y q)))) e
      ∙ ap (λ d. if n1 == y then false else ((d && (is_below (1 ∷ []) q && is_builder_path (origin_of_name y later_origins) q)) || (if n2 == y then false else takes rest rest_origins y q))) e
      ∙ ap (after_both y) (same_rest y q)

  -- ---- nothing is taken twice

  last_apart : Apart (takes second_result later_origins) (without n2 (takes rest rest_origins))
  last_apart = record {
    apart = λ y q p r.
        let x = chain_fact i2 1 later_origins y q false (sym (second_result_takes y q) ∙ p) in
        let z = without_fact n2 y (takes rest rest_origins) q r in
        not_false (takes rest rest_origins i2 q) (subst (λ u. takes rest rest_origins u q ≡ true) (sym x.0) z) (rest_takes q);
  }

  rest_splits : Splits rest rest_origins
  rest_splits = splits_free rest rest_before rest_origins (rest_same a m s row h k rest may tidy first_answers second_answers pair_from g) w.rest_in.splits

  last_splits : Splits last_let later_origins
  last_splits = (
    finish_splits k.result_at second_part later_origins (tt, tt),
    subst (λ o. Splits rest ((n2, o) ∷ later_origins)) (sym second_result_from) rest_splits,
    subst (λ o. Apart (takes second_result later_origins) (without n2 (takes rest ((n2, o) ∷ later_origins)))) (sym second_result_from) last_apart,
    subst (λ o. TakesAll n2 o (takes rest ((n2, o) ∷ later_origins))) (sym second_result_from) (subst (TakesAll n2 second_answers) (sym same_taken) w.second_all),
  )

  results_apart : Apart (takes first_result then_origins) (without n1 (takes last_let later_origins))
  results_apart = record {
    apart = λ y q p r.
        let x = chain_fact i2 0 then_origins y q false (sym (first_result_takes y q) ∙ p) in
        let z = without_fact n1 y (takes last_let later_origins) q r in
        let v : takes last_let later_origins i2 q ≡ true = subst (λ u. takes last_let later_origins u q ≡ true) (sym x.0) z in
        let f : second_chain i2 q ≡ true = sym (or_false (second_chain i2 q) _ (none_then i2 q (rest_takes q))) ∙ sym (last_takes i2 q) ∙ v in
        fields_apart q x.1 (chain_fact i2 1 later_origins i2 q false f).1;
  }

  first_all : TakesAll n1 first_answers (takes last_let later_origins)
  first_all = record {
    all = λ q p.
        let old : (second_taken n1 q || (if n2 == n1 then false else rest_taken n1 q)) ≡ true = sym (let_takes n1 q) ∙ w.first_all.all q p in
        let then_rest : (if n2 == n1 then false else rest_taken n1 q) ≡ true = sym (ap (λ x. x || (if n2 == n1 then false else rest_taken n1 q)) (second_not q)) ∙ old in
        last_takes n1 q ∙ or_right (second_chain n1 q) _ (ap (λ x. if n2 == n1 then false else x) (same_rest n1 q) ∙ then_rest);
  }

  pub results_split : Splits results then_origins
  results_split = (
    finish_splits h.result_at first_part then_origins (tt, tt),
    subst (λ o. Splits last_let ((n1, o) ∷ then_origins)) (sym first_result_from) last_splits,
    subst (λ o. Apart (takes first_result then_origins) (without n1 (takes last_let ((n1, o) ∷ then_origins)))) (sym first_result_from) results_apart,
    subst (λ o. TakesAll n1 o (takes last_let ((n1, o) ∷ then_origins))) (sym first_result_from) first_all,
  )

  -- what the first takes, the second `let` doesn't
  first_then : (y : ℕ) (q : Path) → first_taken y q ≡ true → (if n1 == y then false else (second_taken y q || (if n2 == y then false else rest_taken y q))) ≡ true → ⊥
  first_then y q p r = w.first_apart.apart y q (first_takes y q ∙ p) (ap (λ x. if n1 == y then false else x) (let_takes y q) ∙ r)

  starts_apart : (y : ℕ) (q : Path) → first_taken y q ≡ true → second_taken y q ≡ true → ⊥
  starts_apart y q p r = first_then y q p (by (n1 == y) refl)
    where
      by : (b : Bool) → (n1 == y) ≡ b → (if b then false else (second_taken y q || (if n2 == y then false else rest_taken y q))) ≡ true
      by true e = absurd (not_false (second_taken n1 q) (subst (λ u. second_taken u q ≡ true) (sym (eqb-true n1 y e)) r) (second_not q))
      by false e = ap (λ x. x || (if n2 == y then false else rest_taken y q)) r

  loop_then : (y : ℕ) (q : Path) → takes one_loop g y q ≡ true → after_both y (rest_taken y q) ≡ true → ⊥
  loop_then y q p r = by (first_taken y q) (second_taken y q) refl refl (sym (loop_takes y q) ∙ p)
    where
      in_let : (b c : Bool) → (if b then false else c) ≡ true → (if b then false else (second_taken y q || c)) ≡ true
      in_let true c e = e
      in_let false c e = or_right (second_taken y q) c e

      in_rest : (b c : Bool) → (if b then false else c) ≡ true → c ≡ true
      in_rest true c e = let wrong : ⊥ = cc in absurd wrong
      in_rest false c e = e

      by : (b c : Bool) → first_taken y q ≡ b → second_taken y q ≡ c → (b || c) ≡ true → ⊥
      by true c d e t = first_then y q d (in_let (n1 == y) (if n2 == y then false else rest_taken y q) r)
      by false true d e t = w.second_apart.apart y q (second_takes first_answers y q ∙ e) (in_rest (n1 == y) (if n2 == y then false else rest_taken y q) r)
      by false false d e t = not_false false t refl

  whole_apart : Apart (takes one_loop g) (without i2 (takes results then_origins))
  whole_apart = record { apart = λ y q p r. by y q (i2 == y) refl p r }
    where
      by : (y : ℕ) (q : Path) (b : Bool) → (i2 == y) ≡ b → takes one_loop g y q ≡ true → (if b then false else takes results then_origins y q) ≡ true → ⊥
      by y q true e p r = not_false false r refl
      by y q false e p r = loop_then y q p (sym (results_take_else y q e) ∙ r)

  -- both fields are taken
  in_first : (q : Path) → is_below (0 ∷ []) q ≡ true → is_builder_path pair_from q ≡ true → takes results then_origins i2 q ≡ true
  in_first q b p =
      results_take i2 q
      ∙ ap (λ x. x || (if n1 == i2 then false else (second_chain i2 q || (if n2 == i2 then false else takes rest rest_origins i2 q)))) (chain_there i2 0 pair_from then_origins q from_pair b p)

  in_second : (q : Path) → is_below (1 ∷ []) q ≡ true → is_builder_path pair_from q ≡ true → takes results then_origins i2 q ≡ true
  in_second q b p =
      results_take i2 q
      ∙ or_right (first_chain i2 q) _
      (ap (λ d. if d then false else (second_chain i2 q || (if n2 == i2 then false else takes rest rest_origins i2 q))) (ne_eqb n1 i2 n1_i2)
      ∙ ap (λ x. x || (if n2 == i2 then false else takes rest rest_origins i2 q)) (chain_there i2 1 pair_from later_origins q from_pair_later b p))

  pair_all : TakesAll i2 pair_from (takes results then_origins)
  pair_all = record {
    all = λ q p. two_paths first_begins second_begins (λ q. is_builder_path pair_from q ≡ true → takes results then_origins i2 q ≡ true) (λ q b e. in_first q b e) (λ q b e. in_second q b e) q
        (sym (ap (λ o. is_builder_path o q) pair_is) ∙ p) p;
  }

  pub after_splits : Splits after g
  after_splits = (
    (
      (tt, tt, record { apart = λ y q p r. not_false false r refl }),
      (w.first.start.splits, (second_start_splits, tt, record { apart = λ y q p r. not_false false r refl }), record { apart = λ y q p r. starts_apart y q p (sym (or_false (second_taken y q) false refl) ∙ r) }),
      record { apart = λ y q p r. not_false _ p (ap (λ x. x || false) (name_takes s [] g y q false w.name_value)) },
      subst (λ o. Splits both_lets (inner o (outside g))) (sym own_is) both_in.splits,
      subst (λ o. TakesAll x2 o (takes both_lets (inner o (outside g)))) (sym own_is) both_in.all,
    ),
    results_split,
    whole_apart,
    pair_all,
  )

  -- ---- it takes what both took

  before_takes : (y : ℕ) (q : Path) → takes before g y q ≡ (first_taken y q || (if n1 == y then false else (second_taken y q || (if n2 == y then false else rest_taken y q))))
  before_takes y q =
      ap (λ x. x || (if n1 == y then false else takes second_let_before ((n1, origin (half_value s h) g) ∷ g) y q)) (first_takes y q)
      ∙ ap (λ o. first_taken y q || (if n1 == y then false else takes second_let_before ((n1, o) ∷ g) y q)) (finish_from h.result_at (half_loop s h) g)
      ∙ ap (λ x. first_taken y q || (if n1 == y then false else x)) (let_takes y q)

  after_takes : (y : ℕ) (q : Path) → takes after g y q ≡ ((first_taken y q || second_taken y q) || after_both y (rest_taken y q))
  after_takes y q =
      ap (λ x. x || (if i2 == y then false else takes results then_origins y q)) (loop_takes y q) ∙ ap (λ x. (first_taken y q || second_taken y q) || x) (by (i2 == y) refl)
    where
      nothing_after : (b c : Bool) → (if b then false else (if c then false else false)) ≡ false
      nothing_after true c = refl
      nothing_after false true = refl
      nothing_after false false = refl

      by : (d : Bool) → (i2 == y) ≡ d → (if d then false else takes results then_origins y q) ≡ after_both y (rest_taken y q)
      by true e =
          let same : i2 ≡ y = eqb-true i2 y e in
          let none : rest_taken y q ≡ false = sym (same_rest y q) ∙ subst (λ u. takes rest rest_origins u q ≡ false) same (rest_takes q) in
          sym (ap (after_both y) none ∙ nothing_after (n1 == y) (n2 == y))
      by false e = results_take_else y q e

  both_take : (y : ℕ) (q : Path) → ((first_taken y q || second_taken y q) || after_both y (rest_taken y q)) ≡ (first_taken y q || (if n1 == y then false else (second_taken y q || (if n2 == y then false else rest_taken y q))))
  both_take y q = by (n1 == y) refl
    where
      shifted : (b c d : Bool) → ((b || c) || d) ≡ (b || (c || d))
      shifted true c d = refl
      shifted false c d = refl

      by : (b : Bool) → (n1 == y) ≡ b
          → ((first_taken y q || second_taken y q) || (if b then false else (if n2 == y then false else rest_taken y q))) ≡ (first_taken y q || (if b then false else (second_taken y q || (if n2 == y then false else rest_taken y q))))
      by true e =
          let none : second_taken y q ≡ false = subst (λ u. second_taken u q ≡ false) (eqb-true n1 y e) (second_not q) in
          or_false (first_taken y q || second_taken y q) false refl ∙ ap (λ x. first_taken y q || x) none
      by false e = shifted (first_taken y q) (second_taken y q) (if n2 == y then false else rest_taken y q)

  pub taken : takes after g ≡ takes before g
  taken = λ i y q. (after_takes y q ∙ both_take y q ∙ sym (before_takes y q)) i

pub placed : (a m : At) (s : ℕ) (row : TypeTree) (h k : Half) (rest : ExprTree) (may : MayJoin row h k) (tidy : IsTidy (two_lets a m s h k rest)) (types : Types) (g : Named Origin) (t : TypeTree)
    → IsPlaced (two_lets a m s h k rest) types g t → IsPlaced (Rattle.weld_joining.proofs.Placing.after a m s row h k rest may tidy) types g t
placed a m s row h k rest may tidy types g t p =
    let w = known a m s row h k rest may tidy types g t p in
    record {
      formed = p.formed;
      forms = p.forms;
      typed = after_typed a m s row h k rest may tidy types g t w;
      keeps = after_keeps a m s row h k rest may tidy types g t w;
      splits = after_splits a m s row h k rest may tidy types g t w;
      noted = after_noted a m s row h k rest may tidy types g t w p.noted.2 p.typed;
    }
