-- Answers of forms: they go by the answers of their parts, and a field of what is handed on is the field handed on.
use Rattle.std.proofs.Common.{◌≡◌, ℕ, zero, suc, Bool, true, false, ◌||◌, if◌then◌else◌, List, Some, refl, ap, sym, subst, ◌∙◌}
use Rattle.weld_data.specs.Value.{Value}
use Rattle.weld_tree.specs.TypeTree.{TypeTree, BuildTree, TypeTrees, struct as tuple, build, no_types, more_types}
use Rattle.weld_tree.specs.Types.{IsBuilderFree, AreBuilderFree, AreBuilders, HasTypes, IsWellFormed, AreWellFormed}
use Rattle.weld_tree.specs.ExprTree.{Two, binary, and, or, look_up, key_exists, merge, Three, if_else, select, slice}
use Rattle.weld_builders.specs.Outcome.{Outcome, done, fault, stuck, and_then, map_out}
use Rattle.weld_builders.specs.Part.{merge_part}
use Rattle.weld_meaning.specs.Thing.{Thing, plain, building, several, Things, no_things, more_things, as_value, thing_at, value_field, field_of}
use Rattle.weld_meaning.specs.Evaluation.{truth_of, truth_value, value_out, on_values, on_three, chosen, two_thing, three_thing}
use Rattle.weld_meaning.specs.Origin.{Origin, value, made, own, outer, named, struct, Origins, no_origins, more_origins, origin_at, field_origin, are_values, struct_origin}
use Rattle.weld_meaning.specs.Linear.{IsNotOwn}
use Rattle.weld_meaning.specs.Forms.{HasForm, HaveForms}
use Rattle.weld_meaning.specs.Names.{answer_of}
use Rattle.weld_meaning.proofs.OriginTypes.{not_both}
use Rattle.weld_rewriting.proofs.Forms.{free_origin}
use Rattle.weld_vertical.proofs.Handing.{then_itself}
use Rattle.weld_handing.specs.Handing.{is_held, holds, some_hold}
use Rattle.weld_handing.proofs.HandingOn.{then_done_by, map_done_by, done_same, hand, hand_own, hand_all, hands_plain, hands_none}

-- ---- outcomes of one answer

-- what is there is one thing
some_same : {A : Type 0} (x y : A) → Some x ≡ Some y → x ≡ y
some_same x y e = cc

-- what goes on alike from outcomes of one answer
pub answers_both : {A B : Type 0} (o p : Outcome A) (f k : A → Outcome B) → answer_of o ≡ answer_of p → ((y : A) → answer_of (f y) ≡ answer_of (k y)) → answer_of (and_then o f) ≡ answer_of (and_then p k)
answers_both (done y) (done z) f k e h = let same : y ≡ z = some_same y z e in ap (λ w. answer_of (f w)) same ∙ h z
answers_both (done y) fault f k e h = let nothing : ⊥ = cc in absurd nothing
answers_both (done y) stuck f k e h = let nothing : ⊥ = cc in absurd nothing
answers_both fault (done z) f k e h = let nothing : ⊥ = cc in absurd nothing
answers_both fault fault f k e h = refl
answers_both fault stuck f k e h = refl
answers_both stuck (done z) f k e h = let nothing : ⊥ = cc in absurd nothing
answers_both stuck fault f k e h = refl
answers_both stuck stuck f k e h = refl

-- what goes on alike on what was done
pub answers_when : {A B : Type 0} (o : Outcome A) (f k : A → Outcome B) → ((y : A) → o ≡ done y → answer_of (f y) ≡ answer_of (k y)) → answer_of (and_then o f) ≡ answer_of (and_then o k)
answers_when (done y) f k h = h y refl
answers_when fault f k h = refl
answers_when stuck f k h = refl

-- what is changed alike
pub answers_map : {A B : Type 0} (o p : Outcome A) (f : A → B) → answer_of o ≡ answer_of p → answer_of (map_out f o) ≡ answer_of (map_out f p)
answers_map (done y) (done z) f e = ap (λ w. Some (f w)) (some_same y z e)
answers_map (done y) fault f e = let nothing : ⊥ = cc in absurd nothing
answers_map (done y) stuck f e = let nothing : ⊥ = cc in absurd nothing
answers_map fault (done z) f e = let nothing : ⊥ = cc in absurd nothing
answers_map fault fault f e = refl
answers_map fault stuck f e = refl
answers_map stuck (done z) f e = let nothing : ⊥ = cc in absurd nothing
answers_map stuck fault f e = refl
answers_map stuck stuck f e = refl

-- ---- forms of two and of three

-- forms that take two values
values_same : (f : Value → Value → Outcome Value) (t : Thing) (p r : Outcome Thing) → answer_of p ≡ answer_of r → answer_of (on_values f t p) ≡ answer_of (on_values f t r)
values_same f t p r e =
    answers_map (and_then (as_value t) (λ v. and_then (value_out p) (f v))) (and_then (as_value t) (λ v. and_then (value_out r) (f v))) plain
    (answers_both (as_value t) (as_value t) (λ v. and_then (value_out p) (f v)) (λ v. and_then (value_out r) (f v)) refl
    (λ v. answers_both (value_out p) (value_out r) (f v) (f v) (answers_both p r as_value as_value e (λ y. refl)) (λ y. refl)))

-- what is chosen of outcomes of one answer
pub chosen_same : {A : Type 0} (t : Thing) (o p q r : Outcome A) → answer_of o ≡ answer_of q → answer_of p ≡ answer_of r → answer_of (chosen t o p) ≡ answer_of (chosen t q r)
chosen_same t o p q r e f =
    answers_both (as_value t) (as_value t) (λ v. and_then (truth_of v) (λ c. if c then o else p)) (λ v. and_then (truth_of v) (λ c. if c then q else r)) refl
    (λ v. answers_both (truth_of v) (truth_of v) (λ c. if c then o else p) (λ c. if c then q else r) refl by)
  where
    by : (c : Bool) → answer_of (if c then o else p) ≡ answer_of (if c then q else r)
    by true = e
    by false = f

-- what goes on behind both goes on behind what is chosen
pub chosen_on : {A B : Type 0} (k : A → Outcome B) (t : Thing) (o p : Outcome A) → chosen t (and_then o k) (and_then p k) ≡ and_then (chosen t o p) k
chosen_on k (plain v) o p = by (truth_of v)
  where
    by : (c : Outcome Bool) → and_then c (λ b. if b then and_then o k else and_then p k) ≡ and_then (and_then c (λ b. if b then o else p)) k
    by (done true) = refl
    by (done false) = refl
    by fault = refl
    by stuck = refl
chosen_on k (building d) o p = refl
chosen_on k (several ts) o p = refl

-- forms of two parts by the second
pub two_same : (o : Two) (t : Thing) (p r : Outcome Thing) → answer_of p ≡ answer_of r → answer_of (two_thing o t p) ≡ answer_of (two_thing o t r)
two_same (binary op) t p r e = values_same _ t p r e
two_same and t p r e =
    answers_map (chosen t (value_out p) (done (truth_value false))) (chosen t (value_out r) (done (truth_value false))) plain
    (chosen_same t (value_out p) (done (truth_value false)) (value_out r) (done (truth_value false)) (answers_both p r as_value as_value e (λ y. refl)) refl)
two_same or t p r e =
    answers_map (chosen t (done (truth_value true)) (value_out p)) (chosen t (done (truth_value true)) (value_out r)) plain
    (chosen_same t (done (truth_value true)) (value_out p) (done (truth_value true)) (value_out r) refl (answers_both p r as_value as_value e (λ y. refl)))
two_same look_up t p r e = values_same _ t p r e
two_same key_exists t p r e = values_same _ t p r e
two_same merge (plain v) p r e = refl
two_same merge (building d) p r e =
    answers_both (value_out p) (value_out r) (λ v. map_out building (merge_part d v)) (λ v. map_out building (merge_part d v)) (answers_both p r as_value as_value e (λ y. refl)) (λ y. refl)
two_same merge (several ts) p r e = refl

-- forms that take three values
three_values_same : (f : Value → Value → Value → Outcome Value) (t : Thing) (o p q r : Outcome Thing) → answer_of o ≡ answer_of q → answer_of p ≡ answer_of r → answer_of (on_three f t o p) ≡ answer_of (on_three f t q r)
three_values_same f t o p q r d e =
    answers_map (and_then (as_value t) (λ v. and_then (value_out o) (λ w. and_then (value_out p) (f v w)))) (and_then (as_value t) (λ v. and_then (value_out q) (λ w. and_then (value_out r) (f v w)))) plain
    (answers_both (as_value t) (as_value t) (λ v. and_then (value_out o) (λ w. and_then (value_out p) (f v w))) (λ v. and_then (value_out q) (λ w. and_then (value_out r) (f v w))) refl
    (λ v. answers_both (value_out o) (value_out q) (λ w. and_then (value_out p) (f v w)) (λ w. and_then (value_out r) (f v w)) (answers_both o q as_value as_value d (λ y. refl))
    (λ w. answers_both (value_out p) (value_out r) (f v w) (f v w) (answers_both p r as_value as_value e (λ y. refl)) (λ y. refl))))

-- forms of three parts by the second and third
pub three_same : (k : Three) (t : Thing) (o p q r : Outcome Thing) → answer_of o ≡ answer_of q → answer_of p ≡ answer_of r → answer_of (three_thing k t o p) ≡ answer_of (three_thing k t q r)
three_same if_else t o p q r d e = chosen_same t o p q r d e
three_same select t o p q r d e = three_values_same _ t o p q r d e
three_same slice t o p q r d e = three_values_same _ t o p q r d e

-- ---- what holds nothing

-- one builder that isn't the list's
pub other_holds : (o : Origin) (u : TypeTree) (b : BuildTree) → u ≡ build b → HasForm o u → is_held o ≡ false → holds o ≡ false
other_holds value u b e f h = refl
other_holds made u b e f h = refl
other_holds (own p) u b e f h = let nothing : ⊥ = cc in absurd nothing
other_holds outer u b e f h = refl
other_holds (named s p) u b e f h = refl
other_holds (struct os) u b e f h = absurd (subst (HasForm (struct os)) e f)

-- what isn't the loop's own isn't held
not_own_held : (o : Origin) → IsNotOwn o → is_held o ≡ false
not_own_held value h = refl
not_own_held made h = refl
not_own_held (own p) h = absurd h
not_own_held outer h = refl
not_own_held (named s p) h = refl
not_own_held (struct os) h = refl

-- what may be finished
pub finished_holds : (o : Origin) (u : TypeTree) (b : BuildTree) → u ≡ build b → HasForm o u → IsNotOwn o → holds o ≡ false
finished_holds o u b e f h = other_holds o u b e f (not_own_held o h)

-- values
pub free_holds : (o : Origin) (u : TypeTree) → IsWellFormed u → IsBuilderFree u → HasForm o u → holds o ≡ false
free_holds o u w f h = ap holds (free_origin o u w f h)

-- values in order
pub frees_hold : (os : Origins) (us : TypeTrees) → AreWellFormed us → AreBuilderFree us → HaveForms os us → some_hold os ≡ false
frees_hold no_origins us w f h = refl
frees_hold (more_origins o os) no_types w f h = absurd h
frees_hold (more_origins o os) (more_types u us) w f h = λ i. free_holds o u w.0 f.0 h.0 i || frees_hold os us w.1 f.1 h.1 i

-- a struct of what holds nothing
pub struct_holds : (os : Origins) → some_hold os ≡ false → holds (struct_origin os) ≡ false
struct_holds os h = by (are_values os)
  where
    by : (b : Bool) → holds (if b then value else struct os) ≡ false
    by true = refl
    by false = h

-- of builders there is no struct of values
pub builders_origin : (os : Origins) (us : TypeTrees) → HasTypes us → AreWellFormed us → AreBuilders us → HaveForms os us → struct_origin os ≡ struct os
builders_origin os no_types some w b h = absurd some
builders_origin no_origins (more_types u us) some w b h = absurd h
builders_origin (more_origins value os) (more_types u us) some w b h = absurd (not_both u w.0 b.0 h.0)
builders_origin (more_origins made os) (more_types u us) some w b h = refl
builders_origin (more_origins (own p) os) (more_types u us) some w b h = refl
builders_origin (more_origins outer os) (more_types u us) some w b h = refl
builders_origin (more_origins (named s p) os) (more_types u us) some w b h = refl
builders_origin (more_origins (struct ps) os) (more_types u us) some w b h = refl

-- ---- handed on

module _ (consumed : List Value → Outcome Thing) where
  -- what holds nothing goes on as it is
  pub unheld_on : (o : Origin) (r : Outcome Thing) → holds o ≡ false → and_then r (hand consumed o) ≡ r
  unheld_on o (done y) h = hands_none consumed o y h
  unheld_on o fault h = refl
  unheld_on o stuck h = refl

  -- the builder itself is handed on as a list
  pub held_hand : (o : Origin) (y : Thing) → is_held o ≡ true → hand consumed o y ≡ hand_own consumed y
  held_hand value y h = let nothing : ⊥ = cc in absurd nothing
  held_hand made y h = let nothing : ⊥ = cc in absurd nothing
  held_hand (own p) y h = refl
  held_hand outer y h = let nothing : ⊥ = cc in absurd nothing
  held_hand (named s p) y h = let nothing : ⊥ = cc in absurd nothing
  held_hand (struct os) y h = let nothing : ⊥ = cc in absurd nothing

  -- the thing of a number, handed on
  number_on : (n : ℕ) (os : Origins) (ts us : Things) → hand_all consumed os ts ≡ done us → and_then (thing_at n ts) (hand consumed (origin_at n os)) ≡ thing_at n us
  number_on n no_origins ts us h = then_itself (thing_at n ts) ∙ ap (thing_at n) (done_same ts us h)
  number_on n (more_origins o os) no_things us h = ap (thing_at n) (done_same no_things us h)
  number_on zero (more_origins o os) (more_things t ts) us h =
      let x = then_done_by (hand consumed o t) (λ y. map_out (more_things y) (hand_all consumed os ts)) us h in
      let y = map_done_by (hand_all consumed os ts) (more_things x.0) us x.2 in x.1 ∙ ap (thing_at zero) y.2
  number_on (suc n) (more_origins o os) (more_things t ts) us h =
      let x = then_done_by (hand consumed o t) (λ y. map_out (more_things y) (hand_all consumed os ts)) us h in
      let y = map_done_by (hand_all consumed os ts) (more_things x.0) us x.2 in
      number_on n os ts y.0 y.1 ∙ ap (thing_at (suc n)) y.2

  -- it is still there
  number_there : (n : ℕ) (os : Origins) (ts us : Things) → hand_all consumed os ts ≡ done us → (z : Thing) → thing_at n ts ≡ done z → (y : Thing) × (thing_at n us ≡ done y)
  number_there n no_origins ts us h z e = (z, ap (thing_at n) (sym (done_same ts us h)) ∙ e)
  number_there n (more_origins o os) no_things us h z e = let nothing : ⊥ = cc in absurd nothing
  number_there zero (more_origins o os) (more_things t ts) us h z e =
      let x = then_done_by (hand consumed o t) (λ y. map_out (more_things y) (hand_all consumed os ts)) us h in
      let y = map_done_by (hand_all consumed os ts) (more_things x.0) us x.2 in (x.0, ap (thing_at zero) (sym y.2))
  number_there (suc n) (more_origins o os) (more_things t ts) us h z e =
      let x = then_done_by (hand consumed o t) (λ y. map_out (more_things y) (hand_all consumed os ts)) us h in
      let y = map_done_by (hand_all consumed os ts) (more_things x.0) us x.2 in
      let r = number_there n os ts y.0 y.1 z e in (r.0, ap (thing_at (suc n)) (sym y.2) ∙ r.1)

  -- values go on as they are
  plain_on : (o : Origin) (r : Outcome Value) → and_then (map_out plain r) (hand consumed o) ≡ map_out plain r
  plain_on o (done v) = hands_plain consumed o v
  plain_on o fault = refl
  plain_on o stuck = refl

  -- a field of what is handed on is the field, handed on
  pub field_on : (n : ℕ) (o : Origin) (us : TypeTrees) (y z : Thing) → HasForm o (tuple us) → hand consumed o y ≡ done z → and_then (field_of n y) (hand consumed (field_origin n o)) ≡ field_of n z
  field_on n value us y z form h = then_itself (field_of n y) ∙ ap (field_of n) (done_same y z h)
  field_on n made us y z form h = absurd form
  field_on n (own p) us y z form h = absurd form
  field_on n outer us y z form h = absurd form
  field_on n (named s p) us y z form h = absurd form
  field_on n (struct os) us (plain v) z form h = plain_on (origin_at n os) (value_field n v) ∙ ap (field_of n) (done_same (plain v) z h)
  field_on n (struct os) us (building d) z form h = ap (field_of n) (done_same (building d) z h)
  field_on n (struct os) us (several ts) z form h =
      let x = map_done_by (hand_all consumed os ts) several z h in number_on n os ts x.0 x.1 ∙ ap (field_of n) x.2

  -- and each field of what is handed on is
  pub field_there : (n : ℕ) (o : Origin) (us : TypeTrees) (y z r : Thing) → HasForm o (tuple us) → hand consumed o y ≡ done z → field_of n y ≡ done r → (w : Thing) × (hand consumed (field_origin n o) r ≡ done w)
  field_there n o us y z r form h e =
      let w = by o y form h e in
      (w.0, ap (λ m. and_then m (hand consumed (field_origin n o))) (sym e) ∙ field_on n o us y z form h ∙ w.1)
    where
      by : (o : Origin) (y : Thing) → HasForm o (tuple us) → hand consumed o y ≡ done z → field_of n y ≡ done r → (w : Thing) × (field_of n z ≡ done w)
      by value y form h e = (r, ap (field_of n) (sym (done_same y z h)) ∙ e)
      by made y form h e = absurd form
      by (own p) y form h e = absurd form
      by outer y form h e = absurd form
      by (named s p) y form h e = absurd form
      by (struct os) (plain v) form h e = (r, ap (field_of n) (sym (done_same (plain v) z h)) ∙ e)
      by (struct os) (building d) form h e = let nothing : ⊥ = cc in absurd nothing
      by (struct os) (several ts) form h e =
          let x = map_done_by (hand_all consumed os ts) several z h in
          let w = number_there n os ts x.0 x.1 r e in (w.0, ap (field_of n) (sym x.2) ∙ w.1)
