-- What a body that is handed to the other loop comes to on a row: what the body comes to, handed on.
use Rattle.std.proofs.Common.{◌≡◌, ◌≢◌, ℕ, true, false, not, ◌&&◌, List, [], ◌∷◌, ◌++◌, refl, ap, sym, subst, ◌∙◌, inl, inr, ◌⊎◌}
use Rattle.std.proofs.lemmas.Bool.{not-true}
use Rattle.weld_data.specs.Value.{Value, Values, and_value, values, struct as struct_value}
use Rattle.weld_tree.specs.declared.binder.Binder.{Binder}
use Rattle.weld_tree.specs.TypeTree.{TypeTree, TypeTrees, vec, struct as tuple, build, list, no_types, more_types}
use Rattle.weld_tree.specs.Types.{IsBuilderFree, AreBuilderFree, AreBuilders, HasTypes, IsWellFormed, AreWellFormed}
use Rattle.weld_tree.specs.ExprTree.{At, ExprTree, leaf, one, two, three, many, let_in, loop, iterate, ExprTrees, no_exprs, more_exprs, LegTree, whole, strided, LegTrees, no_legs, more_legs, Many, make_vec, make_struct}
use Rattle.weld_tree.specs.HasValue.{HasValue, AllAre}
use Rattle.weld_builders.specs.Outcome.{Outcome, done, fault, stuck, and_then, map_out}
use Rattle.weld_builders.specs.Part.{Part, list_part, total_part, totals_part, cells_part, keyed_part, groups_part}
use Rattle.weld_meaning.specs.Environment.{Named}
use Rattle.weld_meaning.specs.Thing.{Thing, plain, building, several, Things, no_things, more_things, as_value, as_values, struct_from, struct_of}
use Rattle.weld_meaning.specs.ThingType.{HasThing, HaveBuilders}
use Rattle.weld_meaning.specs.Typing.{Types, AreFormed, place_type, AreAll, ManyHas, HasType, HaveTypes, LegHas, LegsHave}
use Rattle.weld_meaning.specs.Evaluation.{Env, Row, elements_of, strided_of, whole_number, value_out, many_thing, rows_of, number_from, run, with_row, turns, turn_limit, eval, eval_all, eval_leg, eval_legs}
use Rattle.weld_meaning.specs.Origin.{Origin, value, made, own, outer, named, struct, Origins, no_origins, more_origins, struct_origin, many_origin, origin, origins}
use Rattle.weld_meaning.specs.Linear.{Keeps, AllKeep, LegKeeps, LegsKeep}
use Rattle.weld_meaning.specs.Available.{Splits, AllSplit, LegSplits, LegsSplit}
use Rattle.weld_meaning.specs.Forms.{HaveForms, NamesHaveForms}
use Rattle.weld_meaning.specs.Meaning.{GivesOrFaults}
use Rattle.weld_meaning.specs.Names.{answer_of, IsFree, AreFree, LegIsFree, LegsAreFree, Binds, AllBind, LegBinds, LegsBind}
use Rattle.weld_meaning.proofs.NeverStuck.{Of, never_stuck, no_builder_value}
use Rattle.weld_meaning.proofs.OriginTypes.{origin_forms}
use Rattle.weld_meaning.proofs.Outcomes.{map_out-and_then}
use Rattle.weld_meaning.proofs.PartsGood.{KeyLaws}
use Rattle.weld_meaning.proofs.WellFormed.{type_formed, types_formed}
use Rattle.weld_substitution.proofs.Following.{and_true}
use Rattle.weld_vertical.proofs.Handing.{then_then, then_map, answers, answers_swap}
use Rattle.weld_handing.specs.Handing.{holds, some_hold, handed, all_handed, leg_handed, legs_handed, starts_none, all_start_none, leg_starts_none, legs_start_none}
use Rattle.weld_handing.proofs.Common.{IsAside}
use Rattle.weld_handing.proofs.Held.{HasHeld, HaveHeld, NamesHaveHeld, type_held}
use Rattle.weld_handing.proofs.HandingOn.{then_done_by, map_done_by, done_same, hand, hand_all, all_hand_none}
use Rattle.weld_handing.proofs.Answers.{answers_both, answers_when, answers_map, frees_hold, struct_holds, builders_origin, unheld_on}
use Rattle.weld_handing.proofs.Meeting.{Meets, body_same, turn_same}
use Rattle.weld_handing.proofs.PartsMean.{unheld_same, type_free_holds, leaf_means, one_means, two_means, three_means, let_means}

-- ---- parts of any number

-- what is all of one builder-free type is builder-free
all_free : (us : TypeTrees) (u : TypeTree) → AreAll us u → IsBuilderFree u → AreBuilderFree us
all_free no_types u h free = tt
all_free (more_types v us) u h free = (subst IsBuilderFree (sym h.0) free, all_free us u h.1 free)

-- the origins of parts have the forms of their types
have_forms : (es : ExprTrees) (q : Named Origin) (h : Types) (us : TypeTrees) → HaveTypes es h us → AreFormed h → NamesHaveForms q h → HaveForms (origins es q) us
have_forms no_exprs q h no_types typed w n = tt
have_forms no_exprs q h (more_types u us) typed w n = absurd typed
have_forms (more_exprs e es) q h no_types typed w n = absurd typed
have_forms (more_exprs e es) q h (more_types u us) typed w n = (origin_forms e q h u typed.0 w n, have_forms es q h us typed.1 w n)

-- where they hold the list's builder it has the list's type
have_held : (item : TypeTree) (es : ExprTrees) (q : Named Origin) (h : Types) (us : TypeTrees) → HaveTypes es h us → AreFormed h → NamesHaveForms q h → NamesHaveHeld item q h → HaveHeld item (origins es q) us
have_held item no_exprs q h no_types typed w n k = tt
have_held item no_exprs q h (more_types u us) typed w n k = absurd typed
have_held item (more_exprs e es) q h no_types typed w n k = absurd typed
have_held item (more_exprs e es) q h (more_types u us) typed w n k = (type_held item e q h u typed.0 w n k, have_held item es q h us typed.1 w n k)

-- a struct of builders is none of values
struct_several : (ts : Things) (us : TypeTrees) → IsWellFormed (tuple us) → AreBuilders us → HasThing (struct_of ts) (tuple us) → (struct_of ts ≡ several ts) × HaveBuilders ts us
struct_several ts us w b h = by (as_values ts) h
  where
    by : (o : Outcome Values) → HasThing (struct_from ts o) (tuple us) → (struct_from ts o ≡ several ts) × HaveBuilders ts us
    by (done vs) k = absurd (no_builder_value (tuple us) (struct_value vs) w b k)
    by fault k = (refl, k.1)
    by stuck k = (refl, k.1)

-- a struct made of things that are builders
then_several : (o : Outcome Things) → ((ts : Things) → o ≡ done ts → struct_of ts ≡ several ts) → and_then o (λ ts. done (struct_of ts)) ≡ map_out several o
then_several (done ts) h = ap done (h ts refl)
then_several fault h = refl
then_several stuck h = refl

-- what the other loop makes of a list of items is no value
module _ (item : TypeTree) (consumed : List Value → Outcome Thing) (builds : (vs : List Value) (s : Thing) → AllAre (HasValue item) (values vs) → consumed vs ≡ done s → as_value s ≡ stuck) where
  -- what stays is no value
  same_builds : (y z : Thing) → as_value y ≡ stuck → done y ≡ done z → as_value z ≡ stuck
  same_builds y z e k = subst (λ w. as_value w ≡ stuck) (done_same y z k) e

  -- a builder handed on
  part_builds : (d : Part) (u : TypeTree) (z : Thing) → u ≡ build (list item) → HasThing (building d) u → hand consumed (own []) (building d) ≡ done z → as_value z ≡ stuck
  part_builds (list_part vs) u z e has k = let h : HasThing (building (list_part vs)) (build (list item)) = subst (HasThing (building (list_part vs))) e has in builds vs z h.1 k
  part_builds (total_part op m y) u z e has k = same_builds (building (total_part op m y)) z refl k
  part_builds (totals_part op ys) u z e has k = same_builds (building (totals_part op ys)) z refl k
  part_builds (cells_part op m ys) u z e has k = same_builds (building (cells_part op m ys)) z refl k
  part_builds (keyed_part op m ys) u z e has k = same_builds (building (keyed_part op m ys)) z refl k
  part_builds (groups_part ys) u z e has k = same_builds (building (groups_part ys)) z refl k

  -- what is no value is none handed on
  hand_builds : (o : Origin) (u : TypeTree) (y z : Thing) → HasHeld item o u → HasThing y u → as_value y ≡ stuck → hand consumed o y ≡ done z → as_value z ≡ stuck
  hand_builds value u y z hold has e k = same_builds y z e k
  hand_builds made u y z hold has e k = same_builds y z e k
  hand_builds outer u y z hold has e k = same_builds y z e k
  hand_builds (named s p) u y z hold has e k = same_builds y z e k
  hand_builds (own p) u (plain v) z hold has e k = same_builds (plain v) z e k
  hand_builds (own p) u (building d) z hold has e k = part_builds d u z hold has k
  hand_builds (own p) u (several ts) z hold has e k = same_builds (several ts) z e k
  hand_builds (struct os) u (plain v) z hold has e k = same_builds (plain v) z e k
  hand_builds (struct os) u (building d) z hold has e k = same_builds (building d) z e k
  hand_builds (struct os) u (several ts) z hold has e k =
      let x = map_done_by (hand_all consumed os ts) several z k in subst (λ w. as_value w ≡ stuck) x.2 refl

  -- a struct by its first field
  first_builds : (o : Origin) (os : Origins) (u : TypeTree) (y : Thing) (ts zs : Things) → HasHeld item o u → HasThing y u → as_value y ≡ stuck → hand_all consumed (more_origins o os) (more_things y ts) ≡ done zs → struct_of zs ≡ several zs
  first_builds o os u y ts zs hold has e k =
      let x = then_done_by (hand consumed o y) (λ z. map_out (more_things z) (hand_all consumed os ts)) zs k in
      let w = map_done_by (hand_all consumed os ts) (more_things x.0) zs x.2 in
      subst (λ z. struct_of z ≡ several z) w.2
      (ap (λ m. struct_from (more_things x.0 w.0) (and_then m (λ v. map_out (and_value v) (as_values w.0)))) (hand_builds o u y x.0 hold has e x.1))

  -- a struct of builders handed on is none of values
  struct_builds : (os : Origins) (us : TypeTrees) (ts zs : Things) → HasTypes us → HaveForms os us → HaveHeld item os us → HaveBuilders ts us → hand_all consumed os ts ≡ done zs → struct_of zs ≡ several zs
  struct_builds os no_types ts zs some form hold has k = absurd some
  struct_builds no_origins (more_types u us) ts zs some form hold has k = absurd form
  struct_builds (more_origins o os) (more_types u us) no_things zs some form hold has k = absurd has
  struct_builds (more_origins o os) (more_types u us) (more_things (plain v) ts) zs some form hold has k = absurd has
  struct_builds (more_origins o os) (more_types u us) (more_things (building d) ts) zs some form hold has k = first_builds o os u (building d) ts zs hold.0 has.0 refl k
  struct_builds (more_origins o os) (more_types u us) (more_things (several ss) ts) zs some form hold has k = first_builds o os u (several ss) ts zs hold.0 has.0 refl k

-- ---- the induction

-- the key laws; the other loop's builder type, this one's row number, the other's binders and body, the type of what is merged,
-- what stands around the other loop, this row's number, and what the other loop makes of a list: it goes on by its body, and
-- never answers a value
module _ (laws : KeyLaws) (t : TypeTree) (i : ℕ) (c n x : Binder) (f : ExprTree) (item : TypeTree) (around : Env) (count : ℕ) (other : c.sym.0 ≢ i) (consumed : List Value → Outcome Thing) (goes_on : (vs : List Value) (v : Value) → consumed (vs ++ v ∷ []) ≡ and_then (consumed vs) (λ s. eval f ((x.sym.0, plain v) ∷ (n.sym.0, plain (whole_number count)) ∷ (c.sym.0, s) ∷ around))) (builds : (vs : List Value) (s : Thing) → AllAre (HasValue item) (values vs) → consumed vs ≡ done s → as_value s ≡ stuck) where
  -- where the body stands, and where it stands handed on
  abbrev Meet : Types → Named Origin → Env → Env → Type 0
  Meet h q env later = Meets i c n x f item around count consumed h q env later

  -- a binder of the body gets in nobody's way
  abbrev Clear : ℕ → Type 0
  Clear z = IsAside c.sym.0 n.sym.0 x.sym.0 i f z

  -- the other loop's builder and row number aren't free in it
  abbrev NotIn : (ℕ → Type 0) → Type 0
  NotIn free = (free c.sym.0 → ⊥) × (free n.sym.0 → ⊥)

  -- the body handed on comes to what the body comes to, handed on
  abbrev pub Means : ExprTree → Type 0
  Means e =
      (h : Types) (q : Named Origin) (u : TypeTree) (env later : Env)
      → Binds Clear e → NotIn (IsFree e) → HasType e h u → Keeps e q → Splits e q → starts_none q e ≡ true → Meet h q env later
      → answer_of (eval (handed t i c n x f q e) later) ≡ answer_of (and_then (eval e env) (hand consumed (origin e q)))

  -- the parts handed on come to what the parts come to, handed on
  abbrev AllMean : ExprTrees → Type 0
  AllMean es =
      (h : Types) (q : Named Origin) (us : TypeTrees) (env later : Env)
      → AllBind Clear es → NotIn (AreFree es) → HaveTypes es h us → AllKeep es q → AllSplit es q → all_start_none q es ≡ true → Meet h q env later
      → answer_of (eval_all (all_handed t i c n x f q es) later) ≡ answer_of (and_then (eval_all es env) (hand_all consumed (origins es q)))

  -- parts that hold nothing go on as they are
  all_unheld : (os : Origins) (o : Outcome Things) → some_hold os ≡ false → and_then o (hand_all consumed os) ≡ o
  all_unheld os (done ts) h = all_hand_none consumed os ts h
  all_unheld os fault h = refl
  all_unheld os stuck h = refl

  -- one part more: whether it is handed on before the others come or after, the answer is one
  more_mean : (e : ExprTree) (es : ExprTrees) → Means e → AllMean es → AllMean (more_exprs e es)
  more_mean e es first rest h q no_types env later clear apart typed keep split starts r = absurd typed
  more_mean e es first rest h q (more_types u us) env later clear apart typed keep split starts r =
      answers_both (eval (handed t i c n x f q e) later) (and_then (eval e env) one_on) (λ y. map_out (more_things y) (eval_all (all_handed t i c n x f q es) later)) (λ y. map_out (more_things y) (and_then fields all_on))
      (first h q u env later clear.0 ((λ k. apart.0 (inl k)), (λ k. apart.1 (inl k))) typed.0 keep.0 split.0 st.0 r)
      (λ y. answers_map (eval_all (all_handed t i c n x f q es) later) (and_then fields all_on) (more_things y)
      (rest h q us env later clear.1 ((λ k. apart.0 (inr k)), (λ k. apart.1 (inr k))) typed.1 keep.1 split.1 st.1 r))
      ∙ ap answer_of (then_then (eval e env) one_on (λ y. map_out (more_things y) (and_then fields all_on)))
      ∙ answers (eval e env) (λ y. and_then (one_on y) (λ z. map_out (more_things z) (and_then fields all_on))) (λ y. and_then (map_out (more_things y) fields) more_on) inner
      ∙ ap answer_of (sym (then_then (eval e env) (λ y. map_out (more_things y) fields) more_on))
    where
      st : (starts_none q e ≡ true) × (all_start_none q es ≡ true)
      st = and_true (starts_none q e) (all_start_none q es) starts

      fields : Outcome Things
      fields = eval_all es env

      one_on : Thing → Outcome Thing
      one_on = hand consumed (origin e q)

      all_on : Things → Outcome Things
      all_on = hand_all consumed (origins es q)

      more_on : Things → Outcome Things
      more_on = hand_all consumed (more_origins (origin e q) (origins es q))

      inner : (y : Thing) → answer_of (and_then (one_on y) (λ z. map_out (more_things z) (and_then fields all_on))) ≡ answer_of (and_then (map_out (more_things y) fields) more_on)
      inner y =
          (λ j. answer_of (and_then (one_on y) (λ z. sym (map_out-and_then (more_things z) fields (λ ts. map_out (more_things z) (all_on ts)) all_on (λ ts. refl)) j)))
          ∙ answers_swap (one_on y) fields (λ z ts. map_out (more_things z) (all_on ts))
          ∙ ap answer_of (sym (then_map fields (more_things y) more_on))

  -- forms of any number of parts: values, or a struct of builders
  many_means : (a : At) (o : Many) (es : ExprTrees) → AllMean es → Means (many a o es)
  many_means a o es all h q u env later clear apart typed keeps splits starts r = by o typed.2 (never_stuck laws (many a o es) h u env typed r.formed r.fits).fits
    where
      os : Origins
      os = origins es q

      formed : AreWellFormed typed.0
      formed = types_formed es h typed.0 typed.1 r.formed

      form : HaveForms os typed.0
      form = have_forms es q h typed.0 typed.1 r.formed r.forms

      mean : answer_of (eval_all (all_handed t i c n x f q es) later) ≡ answer_of (and_then (eval_all es env) (hand_all consumed os))
      mean = all h q typed.0 env later clear apart typed.1 keeps splits starts r

      values_mean : (k : Many) → AreBuilderFree typed.0 → holds (many_origin k os) ≡ false → answer_of (and_then (eval_all (all_handed t i c n x f q es) later) (many_thing k)) ≡ answer_of (and_then (and_then (eval_all es env) (many_thing k)) (hand consumed (many_origin k os)))
      values_mean k free none =
          answers_both (eval_all (all_handed t i c n x f q es) later) (eval_all es env) (many_thing k) (many_thing k) (mean ∙ ap answer_of (all_unheld os (eval_all es env) (frees_hold os typed.0 formed free form))) (λ ts. refl)
          ∙ ap answer_of (sym (unheld_on consumed (many_origin k os) (and_then (eval_all es env) (many_thing k)) none))

      -- of builders
      struct_on : AreBuilders typed.0 → IsWellFormed (tuple typed.0) → (ts : Things) → HasThing (struct_of ts) (tuple typed.0) → answer_of (and_then (hand_all consumed os ts) (λ zs. done (struct_of zs))) ≡ answer_of (hand consumed (struct_origin os) (struct_of ts))
      struct_on b w ts has =
          let s = struct_several ts typed.0 w b has in
          ap answer_of (then_several (hand_all consumed os ts) (λ zs k. struct_builds item consumed builds os typed.0 ts zs w.0 form (have_held item es q h typed.0 typed.1 r.formed r.forms r.held) s.1 k))
          ∙ (λ j. answer_of (hand consumed (sym (builders_origin os typed.0 w.0 formed b form) j) (sym s.0 j)))

      by : (k : Many) → ManyHas k typed.0 u → GivesOrFaults (Of u) (and_then (eval_all es env) (many_thing k)) → answer_of (and_then (eval_all (all_handed t i c n x f q es) later) (many_thing k)) ≡ answer_of (and_then (and_then (eval_all es env) (many_thing k)) (hand consumed (many_origin k os)))
      by make_vec has good = values_mean make_vec (all_free typed.0 has.0 has.2 has.3) refl
      by make_struct has good = choose has.1
        where
          choose : AreBuilderFree typed.0 ⊎ AreBuilders typed.0 → answer_of (and_then (eval_all (all_handed t i c n x f q es) later) (λ ts. done (struct_of ts))) ≡ answer_of (and_then (and_then (eval_all es env) (λ ts. done (struct_of ts))) (hand consumed (struct_origin os)))
          choose (inl free) = values_mean make_struct free (struct_holds os (frees_hold os typed.0 formed free form))
          choose (inr b) =
              answers_both (eval_all (all_handed t i c n x f q es) later) (and_then (eval_all es env) (hand_all consumed os)) (λ ts. done (struct_of ts)) (λ ts. done (struct_of ts)) mean (λ ts. refl)
              ∙ ap answer_of (then_then (eval_all es env) (hand_all consumed os) (λ ts. done (struct_of ts)))
              ∙ answers_when (eval_all es env) (λ ts. and_then (hand_all consumed os ts) (λ zs. done (struct_of zs))) (λ ts. hand consumed (struct_origin os) (struct_of ts))
              (λ ts k. let g : HasThing (struct_of ts) u = subst (λ o. GivesOrFaults (Of u) (and_then o (λ ts. done (struct_of ts)))) k good in
              struct_on b (has.0, formed, inr b) ts (subst (HasThing (struct_of ts)) has.2 g))
              ∙ ap answer_of (sym (then_then (eval_all es env) (λ ts. done (struct_of ts)) (hand consumed (struct_origin os))))

  -- what is of a builder-free type comes to the same
  value_means : (e : ExprTree) → Means e → (h : Types) (q : Named Origin) (u : TypeTree) (env later : Env)
      → IsBuilderFree u → Binds Clear e → NotIn (IsFree e) → HasType e h u → Keeps e q → Splits e q → starts_none q e ≡ true → Meet h q env later
      → answer_of (eval (handed t i c n x f q e) later) ≡ answer_of (eval e env)
  value_means e means h q u env later free clear apart typed keeps splits starts r =
      unheld_same laws t i c n x f item around count other consumed goes_on e q env later (type_free_holds laws t i c n x f item around count other consumed goes_on e h q u typed r.formed r.forms free)
      (means h q u env later clear apart typed keeps splits starts r)

  -- a leg comes to the same
  abbrev LegMeans : LegTree → Type 0
  LegMeans l =
      (h : Types) (q : Named Origin) (u : TypeTree) (env later : Env)
      → LegBinds Clear l → NotIn (LegIsFree l) → LegHas l h u → LegKeeps l q → LegSplits l q → leg_starts_none q l ≡ true → Meet h q env later
      → answer_of (eval_leg (leg_handed t i c n x f q l) later) ≡ answer_of (eval_leg l env)

  -- so do legs
  abbrev LegsMean : LegTrees → Type 0
  LegsMean ls =
      (h : Types) (q : Named Origin) (us : TypeTrees) (env later : Env)
      → LegsBind Clear ls → NotIn (LegsAreFree ls) → LegsHave ls h us → LegsKeep ls q → LegsSplit ls q → legs_start_none q ls ≡ true → Meet h q env later
      → answer_of (eval_legs (legs_handed t i c n x f q ls) later) ≡ answer_of (eval_legs ls env)

  -- a whole vector
  whole_means : (e : ExprTree) → Means e → LegMeans (whole e)
  whole_means e means h q u env later clear apart typed keeps splits starts r =
      let formed : IsWellFormed (vec u) = type_formed e h (vec u) typed r.formed in
      answers_both (value_out (eval (handed t i c n x f q e) later)) (value_out (eval e env)) elements_of elements_of
      (answers_both (eval (handed t i c n x f q e) later) (eval e env) as_value as_value (value_means e means h q (vec u) env later formed.1 clear apart typed keeps splits starts r) (λ y. refl)) (λ y. refl)

  -- one by strides
  strided_means : (e g k j : ExprTree) → Means e → Means g → Means k → Means j → LegMeans (strided e g k j)
  strided_means e g k j me mg mk mj h q u env later clear apart typed keeps splits starts r =
      answers_both (value_out (eval (handed t i c n x f q e) later)) (value_out (eval e env))
      (λ v. and_then (value_out (eval (handed t i c n x f q g) later)) (λ from. and_then (value_out (eval (handed t i c n x f q k) later)) (λ to. and_then (value_out (eval (handed t i c n x f q j) later)) (λ d. strided_of v from to d))))
      (λ v. and_then (value_out (eval g env)) (λ from. and_then (value_out (eval k env)) (λ to. and_then (value_out (eval j env)) (λ d. strided_of v from to d))))
      (out (eval (handed t i c n x f q e) later) (eval e env) (value_means e me h q (vec u) env later formed.1 clear.0 ((λ y. apart.0 (inl y)), (λ y. apart.1 (inl y))) typed.0 keeps.0 splits.0 sa.0 r))
      (λ v. answers_both (value_out (eval (handed t i c n x f q g) later)) (value_out (eval g env))
      (λ from. and_then (value_out (eval (handed t i c n x f q k) later)) (λ to. and_then (value_out (eval (handed t i c n x f q j) later)) (λ d. strided_of v from to d)))
      (λ from. and_then (value_out (eval k env)) (λ to. and_then (value_out (eval j env)) (λ d. strided_of v from to d)))
      (out (eval (handed t i c n x f q g) later) (eval g env) (value_means g mg h q place_type env later tt clear.1 ((λ y. apart.0 (inr (inl y))), (λ y. apart.1 (inr (inl y)))) typed.1 keeps.1 splits.1 sb.0 r))
      (λ from. answers_both (value_out (eval (handed t i c n x f q k) later)) (value_out (eval k env))
      (λ to. and_then (value_out (eval (handed t i c n x f q j) later)) (λ d. strided_of v from to d)) (λ to. and_then (value_out (eval j env)) (λ d. strided_of v from to d))
      (out (eval (handed t i c n x f q k) later) (eval k env) (value_means k mk h q place_type env later tt clear.2 ((λ y. apart.0 (inr (inr (inl y)))), (λ y. apart.1 (inr (inr (inl y))))) typed.2 keeps.2 splits.2 sc.0 r))
      (λ to. answers_both (value_out (eval (handed t i c n x f q j) later)) (value_out (eval j env)) (λ d. strided_of v from to d) (λ d. strided_of v from to d)
      (out (eval (handed t i c n x f q j) later) (eval j env) (value_means j mj h q place_type env later tt clear.3 ((λ y. apart.0 (inr (inr (inr y)))), (λ y. apart.1 (inr (inr (inr y))))) typed.3 keeps.3 splits.3 sc.1 r))
      (λ d. refl))))
    where
      formed : IsWellFormed (vec u)
      formed = type_formed e h (vec u) typed.0 r.formed

      sa : (starts_none q e ≡ true) × ((starts_none q g && (starts_none q k && starts_none q j)) ≡ true)
      sa = and_true (starts_none q e) (starts_none q g && (starts_none q k && starts_none q j)) starts

      sb : (starts_none q g ≡ true) × ((starts_none q k && starts_none q j) ≡ true)
      sb = and_true (starts_none q g) (starts_none q k && starts_none q j) sa.1

      sc : (starts_none q k ≡ true) × (starts_none q j ≡ true)
      sc = and_true (starts_none q k) (starts_none q j) sb.1

      out : (o p : Outcome Thing) → answer_of o ≡ answer_of p → answer_of (value_out o) ≡ answer_of (value_out p)
      out o p e = answers_both o p as_value as_value e (λ y. refl)

  -- one leg more
  legs_more_mean : (l : LegTree) (ls : LegTrees) → LegMeans l → LegsMean ls → LegsMean (more_legs l ls)
  legs_more_mean l ls first rest h q no_types env later clear apart typed keep split starts r = absurd typed
  legs_more_mean l ls first rest h q (more_types u us) env later clear apart typed keep split starts r =
      let st = and_true (leg_starts_none q l) (legs_start_none q ls) starts in
      answers_both (eval_leg (leg_handed t i c n x f q l) later) (eval_leg l env) (λ vs. map_out (λ more. vs ∷ more) (eval_legs (legs_handed t i c n x f q ls) later)) (λ vs. map_out (λ more. vs ∷ more) (eval_legs ls env))
      (first h q u env later clear.0 ((λ y. apart.0 (inl y)), (λ y. apart.1 (inl y))) typed.0 keep.0 split.0 st.0 r)
      (λ vs. answers_map (eval_legs (legs_handed t i c n x f q ls) later) (eval_legs ls env) (λ more. vs ∷ more)
      (rest h q us env later clear.1 ((λ y. apart.0 (inr y)), (λ y. apart.1 (inr y))) typed.1 keep.1 split.1 st.1 r))

  -- a loop within: it starts with nothing that is held, and its body sees nothing of it
  loop_means : (a : At) (ls : LegTrees) (e : ExprTree) (b m y : Binder) (g : ExprTree) → LegsMean ls → Means e → Means (loop a ls e b m y g)
  loop_means a ls e b m y g legs_mean means h q u env later clear apart typed keeps splits starts r =
      answers_both (eval_legs (legs_handed t i c n x f q ls) later) (eval_legs ls env)
      (λ legs. and_then (rows_of legs) (λ rows. and_then (eval (handed t i c n x f q e) later) (λ s. run (number_from 0 rows) s (there later))))
      (λ legs. and_then (rows_of legs) (λ rows. and_then (eval e env) (λ s. run (number_from 0 rows) s (there env))))
      (legs_mean h q typed.0 env later clear.3 ((λ k. apart.0 (inl k)), (λ k. apart.1 (inl k))) typed.2 keeps.0 splits.0 su.0 r)
      (λ legs. answers (rows_of legs) (λ rows. and_then (eval (handed t i c n x f q e) later) (λ s. run (number_from 0 rows) s (there later))) (λ rows. and_then (eval e env) (λ s. run (number_from 0 rows) s (there env)))
      (λ rows. answers_both (eval (handed t i c n x f q e) later) (eval e env) (λ s. run (number_from 0 rows) s (there later)) (λ s. run (number_from 0 rows) s (there env)) start
      (λ s. λ j. answer_of (run (number_from 0 rows) s (λ row v. same row v j)))))
      ∙ ap answer_of (sym (unheld_on consumed (origin e q) (eval (loop a ls e b m y g) env) free))
    where
      st : (not (holds (origin e q)) ≡ true) × ((legs_start_none q ls && starts_none q e) ≡ true)
      st = and_true (not (holds (origin e q))) (legs_start_none q ls && starts_none q e) starts

      su : (legs_start_none q ls ≡ true) × (starts_none q e ≡ true)
      su = and_true (legs_start_none q ls) (starts_none q e) st.1

      free : holds (origin e q) ≡ false
      free = not-true (holds (origin e q)) st.0

      there : Env → Row → Thing → Outcome Thing
      there d row v = eval g (with_row b m y v (plain (whole_number row.0)) (plain row.1) d)

      start : answer_of (eval (handed t i c n x f q e) later) ≡ answer_of (eval e env)
      start =
          unheld_same laws t i c n x f item around count other consumed goes_on e q env later free
          (means h q u env later clear.4 ((λ k. apart.0 (inr (inl k))), (λ k. apart.1 (inr (inl k)))) typed.4 keeps.1 splits.1 su.1 r)

      same : (row : Row) (v : Thing) → there later row v ≡ there env row v
      same row v =
          sym (body_same i c n x f item around count consumed h q env later b m y g (origin e q) r keeps.2 (λ k j w z. apart.0 (inr (inr (k, j, w, z)))) (λ k j w z. apart.1 (inr (inr (k, j, w, z)))) v
          (plain (whole_number row.0)) (plain row.1))

  -- an `iterate` goes by values
  iterate_means : (a : At) (e : ExprTree) (b : Binder) (g : ExprTree) → Means e → Means (iterate a e b g)
  iterate_means a e b g means h q u env later clear apart typed keeps splits starts r =
      answers_both (value_out (eval (handed t i c n x f q e) later)) (value_out (eval e env)) (λ v. map_out plain (turns turn_limit v (there later))) (λ v. map_out plain (turns turn_limit v (there env)))
      (answers_both (eval (handed t i c n x f q e) later) (eval e env) as_value as_value
      (value_means e means h q u env later typed.1 clear.1 ((λ k. apart.0 (inl k)), (λ k. apart.1 (inl k))) typed.0 keeps.0 splits.0 starts r) (λ y. refl))
      (λ v. λ j. answer_of (map_out plain (turns turn_limit v (λ w. same w j))))
      ∙ ap answer_of (sym (unheld_on consumed value (eval (iterate a e b g) env) refl))
    where
      there : Env → Value → Outcome Value
      there d w = value_out (eval g ((b.sym.0, plain w) ∷ d))

      same : (w : Value) → there later w ≡ there env w
      same w =
          ap value_out (sym (turn_same i c n x f item around count consumed h q env later b g r keeps.1 (λ k j. apart.0 (inr (k, j))) (λ k j. apart.1 (inr (k, j))) (plain w)))

  mutual
    -- by the forms
    pub means : (e : ExprTree) → Means e
    means (leaf a l) h q u env later clear apart typed keeps splits starts r =
        leaf_means laws t i c n x f item around count other consumed goes_on a l h q u env later clear apart typed keeps splits starts r
    means (one a o e) h q u env later clear apart typed keeps splits starts r =
        one_means laws t i c n x f item around count other consumed goes_on a o e (means e) h q u env later clear apart typed keeps splits starts r
    means (two a o e g) h q u env later clear apart typed keeps splits starts r =
        two_means laws t i c n x f item around count other consumed goes_on a o e g (means e) (means g) h q u env later clear apart typed keeps splits starts r
    means (three a o d e g) h q u env later clear apart typed keeps splits starts r =
        three_means laws t i c n x f item around count other consumed goes_on a o d e g (means d) (means e) (means g) h q u env later clear apart typed keeps splits starts r
    means (many a o es) h q u env later clear apart typed keeps splits starts r = many_means a o es (all_mean es) h q u env later clear apart typed keeps splits starts r
    means (let_in a z e g) h q u env later clear apart typed keeps splits starts r =
        let_means laws t i c n x f item around count other consumed goes_on a z e g (means e) (means g) h q u env later clear apart typed keeps splits starts r
    means (loop a ls e b m y g) h q u env later clear apart typed keeps splits starts r = loop_means a ls e b m y g (legs_mean ls) (means e) h q u env later clear apart typed keeps splits starts r
    means (iterate a e b g) h q u env later clear apart typed keeps splits starts r = iterate_means a e b g (means e) h q u env later clear apart typed keeps splits starts r

    -- part by part
    all_mean : (es : ExprTrees) → AllMean es
    all_mean no_exprs h q us env later clear apart typed keep split starts r = refl
    all_mean (more_exprs e es) h q us env later clear apart typed keep split starts r = more_mean e es (means e) (all_mean es) h q us env later clear apart typed keep split starts r

    -- leg by leg
    leg_means : (l : LegTree) → LegMeans l
    leg_means (whole e) h q u env later clear apart typed keeps splits starts r = whole_means e (means e) h q u env later clear apart typed keeps splits starts r
    leg_means (strided e g k j) h q u env later clear apart typed keeps splits starts r = strided_means e g k j (means e) (means g) (means k) (means j) h q u env later clear apart typed keeps splits starts r

    -- all legs
    legs_mean : (ls : LegTrees) → LegsMean ls
    legs_mean no_legs h q us env later clear apart typed keep split starts r = refl
    legs_mean (more_legs l ls) h q us env later clear apart typed keep split starts r = legs_more_mean l ls (leg_means l) (legs_mean ls) h q us env later clear apart typed keep split starts r
