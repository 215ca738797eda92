-- A row of the loop that makes the list, and of the one loop that takes the place of both: what its body merges into an empty list
-- goes to the other loop's body, with this row's number.
use Rattle.std.proofs.Common.{◌≡◌, ◌≢◌, ℕ, ◌==◌, Bool, true, false, ◌||◌, if◌then◌else◌, List, [], ◌∷◌, ◌++◌, Option, Some, None, refl, ap, sym, subst, ◌∙◌, ne_eqb, eq-eqb}
use Rattle.weld_data.specs.Value.{Value, values}
use Rattle.weld_tree.specs.declared.binder.Binder.{Binder}
use Rattle.weld_tree.specs.TypeTree.{TypeTree, TypeTrees, scalar, vec, struct as tuple, dict, build, list, no_types, more_types}
use Rattle.weld_tree.specs.Types.{IsBuilderFree, IsBuilder, IsWellFormed}
use Rattle.weld_tree.specs.ExprTree.{ExprTree}
use Rattle.weld_tree.specs.HasValue.{HasValue, AllAre}
use Rattle.weld_builders.specs.Outcome.{Outcome, done, stuck, and_then}
use Rattle.weld_builders.specs.Part.{list_part, total_part, totals_part, cells_part, keyed_part, groups_part}
use Rattle.weld_meaning.specs.Environment.{Named, look_for}
use Rattle.weld_meaning.specs.Thing.{Thing, plain, building, several, as_value}
use Rattle.weld_meaning.specs.ThingType.{HasThing, EnvFits}
use Rattle.weld_meaning.specs.Typing.{Types, AreFormed, place_type, HasType, body_types}
use Rattle.weld_meaning.specs.Evaluation.{Env, Row, whole_number, run, with_row, eval}
use Rattle.weld_meaning.specs.Loops.{RowsHave}
use Rattle.weld_meaning.specs.Origin.{Origin, value, made, own, outer, named, struct, Origins, no_origins, more_origins, known_origin, origin_of_name, origin, from_within, all_from_within, outside, in_body}
use Rattle.weld_meaning.specs.Linear.{Keeps}
use Rattle.weld_meaning.specs.Available.{Splits}
use Rattle.weld_meaning.specs.Forms.{NamesHaveForms}
use Rattle.weld_meaning.specs.Names.{answer_of, IsFree, Binds}
use Rattle.weld_meaning.proofs.Before.{origin_outside}
use Rattle.weld_meaning.proofs.Good.{Good}
use Rattle.weld_meaning.proofs.NeverStuck.{Of, never_stuck, no_builder_value, fits_body, run_good}
use Rattle.weld_meaning.proofs.OriginTypes.{forms_in_body}
use Rattle.weld_meaning.proofs.PartsGood.{KeyLaws}
use Rattle.weld_meaning.proofs.WellFormed.{formed_body}
use Rattle.weld_substitution.proofs.Bindings.{agree_over, agree_after}
use Rattle.weld_vertical.proofs.Handing.{list_of, then_then, then_itself, answers_at}
use Rattle.weld_handing.specs.Handing.{holds, some_hold, handed, starts_none}
use Rattle.weld_handing.proofs.Common.{IsAside}
use Rattle.weld_handing.proofs.Held.{HasHeld, HaveHeld, held_bind}
use Rattle.weld_handing.proofs.HandingOn.{hand, hands_none}
use Rattle.weld_handing.proofs.Meeting.{IsHanded, Behind, Meets}
use Rattle.weld_handing.proofs.Means.{means}

-- ---- the other loop over what one row gives

-- values as rows of one number
abbrev pub at_number : ℕ → List Value → List Row
at_number m [] = []
at_number m (v ∷ vs) = (m, v) ∷ at_number m vs

-- with one more value the other loop goes on by its body
pub run_more : (m : ℕ) (body : Row → Thing → Outcome Thing) (vs : List Value) (v : Value) (s : Thing) → run (at_number m (vs ++ v ∷ [])) s body ≡ and_then (run (at_number m vs) s body) (body (m, v))
run_more m body [] v s = then_itself (body (m, v) s)
run_more m body (u ∷ vs) v s =
    (λ j. and_then (body (m, u) s) (λ t. run_more m body vs v t j))
    ∙ sym (then_then (body (m, u) s) (λ t. run (at_number m vs) t body) (body (m, v)))

-- they are of the items' type
rows_have : (item : TypeTree) (m : ℕ) (vs : List Value) → AllAre (HasValue item) (values vs) → RowsHave item (at_number m vs)
rows_have item m [] h = tt
rows_have item m (v ∷ vs) h = (h.0, rows_have item m vs h.1)

-- what is of a builder type is no value
no_value : (t : TypeTree) (s : Thing) → IsWellFormed t → IsBuilder t → HasThing s t → as_value s ≡ stuck
no_value t (plain v) w b h = absurd (no_builder_value t v w b h)
no_value t (building d) w b h = refl
no_value t (several ts) w b h = refl

-- from its builder it comes to no value
pub run_builds : (item t : TypeTree) (m : ℕ) (body : Row → Thing → Outcome Thing) (s : Thing) → IsWellFormed t → IsBuilder t → HasThing s t → ((row : Row) (z : Thing) → HasValue item row.1 → HasThing z t → Good (Of t) (body row z))
    → (vs : List Value) (z : Thing) → AllAre (HasValue item) (values vs) → run (at_number m vs) s body ≡ done z → as_value z ≡ stuck
run_builds item t m body s w b has good vs z all k =
    let g : Good (Of t) (done z) = subst (Good (Of t)) k (run_good item (Of t) body good (at_number m vs) s (rows_have item m vs all) has) in no_value t z w b g.fits

-- ---- where a row stands

mutual
  -- what is seen from within a lambda holds nothing of its own
  within_holds : (o : Origin) → holds (from_within o) ≡ false
  within_holds value = refl
  within_holds made = refl
  within_holds (own p) = refl
  within_holds outer = refl
  within_holds (named s p) = refl
  within_holds (struct os) = all_within_hold os

  -- field by field
  all_within_hold : (os : Origins) → some_hold (all_from_within os) ≡ false
  all_within_hold no_origins = refl
  all_within_hold (more_origins o os) = λ i. within_holds o i || all_within_hold os i

mutual
  -- so nothing is asked of its type
  unheld_has : (item : TypeTree) (o : Origin) (u : TypeTree) → HasHeld item (from_within o) u
  unheld_has item value u = tt
  unheld_has item made u = tt
  unheld_has item (own p) u = tt
  unheld_has item outer u = tt
  unheld_has item (named s p) u = tt
  unheld_has item (struct os) (scalar k) = tt
  unheld_has item (struct os) (vec u) = tt
  unheld_has item (struct os) (tuple us) = unheld_have item os us
  unheld_has item (struct os) (dict k v) = tt
  unheld_has item (struct os) (build b) = tt

  -- field by field
  unheld_have : (item : TypeTree) (os : Origins) (us : TypeTrees) → HaveHeld item (all_from_within os) us
  unheld_have item no_origins us = tt
  unheld_have item (more_origins o os) no_types = tt
  unheld_have item (more_origins o os) (more_types u us) = (unheld_has item o u, unheld_have item os us)

-- the producer's row number, builder and row, and the other loop's
module _ (d k r c n x : Binder) (f : ExprTree) (item row_type : TypeTree) (env : Env) (count : ℕ) (row : Value) (consumed : List Value → Outcome Thing) where
  -- this row's number
  abbrev number : Thing
  number = plain (whole_number count)

  -- names of a row stand for what they stood for, handed on
  pub row_meets : (h : Types) (q : Named Origin) (vs : List Value) (s : Thing) → AreFormed h → NamesHaveForms q h → EnvFits h env → IsWellFormed item → IsBuilderFree item → IsWellFormed row_type → IsBuilderFree row_type
      → HasValue row_type row → AllAre (HasValue item) (values vs) → consumed vs ≡ done s → k.sym.0 ≢ r.sym.0
      → (IsFree f d.sym.0 → ⊥) → (IsFree f k.sym.0 → ⊥) → (IsFree f r.sym.0 → ⊥)
      → Meets k.sym.0 c n x f item env count consumed (body_types d k r (build (list item)) row_type h) (in_body d k r made q) (with_row d k r (list_of vs) number (plain row) env) (with_row d k r s number (plain row) env)
  row_meets h q vs s formed forms fits item_formed item_free row_formed row_free has all on apart nd nk nr = record {
    formed = formed_body d k r (build (list item)) row_type h (item_formed, item_free) row_formed formed;
    forms = forms_in_body q h d k r made (build (list item)) row_type tt row_free forms;
    held =
        held_bind item _ _ r.sym.0 value row_type tt (held_bind item _ _ k.sym.0 value place_type tt (held_bind item (outside q) h d.sym.0 (own []) (build (list item)) refl
        (record { held = λ a u e. subst (λ o. HasHeld item o u) (sym (origin_outside a q)) (unheld_has item (origin_of_name a q) u) })));
    fits = fits_body h env d k r (build (list item)) row_type (list_of vs) row count ((item_formed, item_free), all) has fits;
    handed = λ a nc nn. by (a == r.sym.0) (a == k.sym.0) (a == d.sym.0) (look_for a (outside q)) (look_for a env) (outer_name a (look_for a env));
    behind =
        agree_after (Behind k.sym.0 c n x f item env count consumed) env ((d.sym.0, s) ∷ env) _ (agree_over _ d.sym.0 s env (λ j. nd j.0))
        (agree_after (Behind k.sym.0 c n x f item env count consumed) ((d.sym.0, s) ∷ env) ((k.sym.0, number) ∷ (d.sym.0, s) ∷ env) _ (agree_over _ k.sym.0 number _ (λ j. nk j.0))
        (agree_over _ r.sym.0 (plain row) _ (λ j. nr j.0)));
    row = rw (ne_eqb k.sym.0 r.sym.0 apart, eq-eqb k.sym.0 k.sym.0 refl) refl;
  }
    where
      outer_name : (a : ℕ) (m : Option Thing) → IsHanded k.sym.0 c n x f item env count consumed (origin_of_name a (outside q)) m m
      outer_name a (Some v) = (v, refl, hands_none consumed (origin_of_name a (outside q)) v (ap holds (origin_outside a q) ∙ within_holds (origin_of_name a q)))
      outer_name a None = refl

      by : (b1 b2 b3 : Bool) (p : Option Origin) (m : Option Thing) → IsHanded k.sym.0 c n x f item env count consumed (known_origin p) m m
          → IsHanded k.sym.0 c n x f item env count consumed (known_origin (if b1 then Some value else if b2 then Some value else if b3 then Some (own []) else p)) (if b1 then Some (plain row) else if b2 then Some number else if b3 then Some (list_of vs) else m) (if b1 then Some (plain row) else if b2 then Some number else if b3 then Some s else m)
      by true b2 b3 p m h = (plain row, refl, refl)
      by false true b3 p m h = (number, refl, refl)
      by false false true p m h = (s, refl, on)
      by false false false p m h = h

-- ---- what a row comes to

-- the items of a list
abbrev pub list_in : Thing → Outcome (List Value)
list_in (plain v) = stuck
list_in (building (list_part vs)) = done vs
list_in (building (total_part op k y)) = stuck
list_in (building (totals_part op ys)) = stuck
list_in (building (cells_part op k ys)) = stuck
list_in (building (keyed_part op k m)) = stuck
list_in (building (groups_part m)) = stuck
list_in (several ts) = stuck

-- a builder of the list's type handed on is the other loop on its items
list_on : (item : TypeTree) (consumed : List Value → Outcome Thing) (o : Origin) → o ≡ own [] → (y : Thing) → HasThing y (build (list item)) → answer_of (hand consumed o y) ≡ answer_of (and_then (list_in y) consumed)
list_on item consumed o e (plain v) has = absurd has
list_on item consumed o e (building (list_part vs)) has = ap (λ z. answer_of (hand consumed z (list_of vs))) e
list_on item consumed o e (building (total_part op k y)) has = absurd has.1
list_on item consumed o e (building (totals_part op ys)) has = absurd has.1
list_on item consumed o e (building (cells_part op k ys)) has = absurd has.1
list_on item consumed o e (building (keyed_part op k m)) has = absurd has.1
list_on item consumed o e (building (groups_part m)) has = absurd has.1
list_on item consumed o e (several ts) has = absurd has

-- a body that answers the list's builder, handed to the other loop, comes to what that makes of the items that the body answers
module _ (laws : KeyLaws) (t : TypeTree) (i : ℕ) (c n x : Binder) (f : ExprTree) (item : TypeTree) (around : Env) (count : ℕ) (other : c.sym.0 ≢ i) (consumed : List Value → Outcome Thing) (goes_on : (vs : List Value) (v : Value) → consumed (vs ++ v ∷ []) ≡ and_then (consumed vs) (λ s. eval f ((x.sym.0, plain v) ∷ (n.sym.0, plain (whole_number count)) ∷ (c.sym.0, s) ∷ around))) (builds : (vs : List Value) (s : Thing) → AllAre (HasValue item) (values vs) → consumed vs ≡ done s → as_value s ≡ stuck) where
  -- what it comes to on a row
  pub row_means : (e : ExprTree) (h : Types) (q : Named Origin) (env later : Env)
      → Binds (λ z. IsAside c.sym.0 n.sym.0 x.sym.0 i f z) e → (IsFree e c.sym.0 → ⊥) × (IsFree e n.sym.0 → ⊥) → HasType e h (build (list item)) → Keeps e q → Splits e q → starts_none q e ≡ true
      → Meets i c n x f item around count consumed h q env later → origin e q ≡ own []
      → answer_of (eval (handed t i c n x f q e) later) ≡ answer_of (and_then (and_then (eval e env) list_in) consumed)
  row_means e h q env later clear apart typed keeps splits starts r comes =
      means laws t i c n x f item around count other consumed goes_on builds e h q (build (list item)) env later clear apart typed keeps splits starts r
      ∙ answers_at (Of (build (list item))) (eval e env) (hand consumed (origin e q)) (λ y. and_then (list_in y) consumed) (never_stuck laws e h (build (list item)) env typed r.formed r.fits).fits (list_on item consumed (origin e q) comes)
      ∙ ap answer_of (sym (then_then (eval e env) list_in consumed))
