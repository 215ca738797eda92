-- A merge of what a condition chooses: that it is in its place where its parts are, and what it comes to.
use Rattle.std.proofs.Common.{◌≡◌, ℕ, Bool, true, false, ◌||◌, if◌then◌else◌, refl, sym, subst, ◌∙◌, ◌⊎◌, inl, inr}
use Rattle.weld_data.specs.declared.op.MergeOp.{MergeOp}
use Rattle.weld_data.specs.Value.{Value}
use Rattle.weld_tree.specs.declared.place.Place.{Place}
use Rattle.weld_tree.specs.TypeTree.{TypeTree, build, total}
use Rattle.weld_tree.specs.Types.{IsBuilderFree}
use Rattle.weld_tree.specs.ExprTree.{At, ExprTree, two, three, merge, select}
use Rattle.weld_builders.specs.Outcome.{Outcome, done, fault, stuck, and_then, map_out}
use Rattle.weld_builders.specs.Part.{Part, merge_part}
use Rattle.weld_meaning.specs.Environment.{Named}
use Rattle.weld_meaning.specs.Thing.{Thing, plain, building, several}
use Rattle.weld_meaning.specs.Evaluation.{Env, value_out, truth_of, selected, on_three, chosen, merged, eval}
use Rattle.weld_meaning.specs.Typing.{Types, truth_type, HasType}
use Rattle.weld_meaning.specs.Origin.{Path, Origin}
use Rattle.weld_meaning.specs.Available.{Taken, Apart, takes}
use Rattle.weld_check_types.specs.Notes.{HasNote}
use Rattle.weld_rewriting.specs.Placed.{IsPlaced}
use Rattle.weld_substitution.proofs.Chains.{or_true}
use Rattle.weld_predicate.specs.Neutral.{node_of}

-- ---- in its place

-- the parts: a builder, a condition and two values, of which no two take one builder
pub record PartsPlaced (t : TypeTree) (op : MergeOp) (b c x y : ExprTree) (types : Types) (g : Named Origin) : Type 0 where
  pub builder : IsPlaced b types g (build (total t op))
  pub condition : IsPlaced c types g truth_type
  pub first : IsPlaced x types g t
  pub second : IsPlaced y types g t
  pub builder_condition : Apart (takes b g) (takes c g)
  pub builder_first : Apart (takes b g) (takes x g)
  pub builder_second : Apart (takes b g) (takes y g)
  pub condition_first : Apart (takes c g) (takes x g)
  pub condition_second : Apart (takes c g) (takes y g)
  pub first_second : Apart (takes x g) (takes y g)

pub apart_either : (A B C : Taken) → Apart A B → Apart A C → Apart A (λ t q. B t q || C t q)
apart_either A B C h k = record { apart = λ t q x y. by t q x (or_true (B t q) (C t q) y) }
  where
    by : (t : ℕ) (q : Path) → A t q ≡ true → (B t q ≡ true) ⊎ (C t q ≡ true) → ⊥
    by t q x (inl y) = h.apart t q x y
    by t q x (inr y) = k.apart t q x y

pub merge_placed : (a : At) (place : Place) (t : TypeTree) (op : MergeOp) (b c x y : ExprTree) (types : Types) (g : Named Origin) (whole : ExprTree) → PartsPlaced t op b c x y types g → IsBuilderFree t → HasNote a whole types → HasType whole types (build (total t op)) → ((u : TypeTree) → HasType whole types u → u ≡ build (total t op)) → IsPlaced (two a merge b (three (node_of place t) select c x y)) types g (build (total t op))
merge_placed a place t op b c x y types g whole p free note typed unique =
    let chosen : HasType (three (node_of place t) select c x y) types t =
    (truth_type, t, t, p.condition.typed, p.first.typed, p.second.typed, (refl, refl, refl, free)) in
    let all : HasType (two a merge b (three (node_of place t) select c x y)) types (build (total t op)) =
    (build (total t op), t, p.builder.typed, chosen, (total t op, refl, refl, refl)) in
    record {
      formed = p.builder.formed;
      forms = p.builder.forms;
      typed = all;
      keeps = (p.builder.keeps, (p.condition.keeps, p.first.keeps, p.second.keeps, tt));
      splits = (
        p.builder.splits,
        (p.condition.splits, p.first.splits, p.second.splits, p.condition_first, p.condition_second, p.first_second),
        apart_either (takes b g) (takes c g) (λ t q. takes x g t q || takes y g t q) p.builder_condition (apart_either (takes b g) (takes x g) (takes y g) p.builder_first p.builder_second),
        tt,
      );
      noted = (
        p.builder.noted,
        (p.condition.noted, p.first.noted, p.second.noted, (t, refl, chosen)),
        (
          note.0,
          note.1,
          subst (HasType (two a merge b (three (node_of place t) select c x y)) types) (sym (unique note.0 note.2)) all,
        ),
      );
    }

-- ---- what it comes to

-- the builder with a value merged
abbrev pub with_value : Part → Value → Outcome Thing
with_value p v = map_out building (merge_part p v)

merged_choice : (p : Part) (v w : Value) (tc : Thing) → merged (building p) (on_three selected tc (done (plain v)) (done (plain w))) ≡ chosen tc (with_value p v) (with_value p w)
merged_choice p v w (building q) = refl
merged_choice p v w (several ts) = refl
merged_choice p v w (plain u) = by (truth_of u)
  where
    by : (o : Outcome Bool) → and_then (value_out (map_out plain (map_out (λ (b : Bool). if b then v else w) o))) (with_value p) ≡ and_then o (λ b. if b then with_value p v else with_value p w)
    by (done true) = refl
    by (done false) = refl
    by fault = refl
    by stuck = refl

choice : (p : Part) (v w : Value) (o : Outcome Thing) → merged (building p) (and_then o (λ tc. on_three selected tc (done (plain v)) (done (plain w)))) ≡ and_then o (λ tc. chosen tc (with_value p v) (with_value p w))
choice p v w (done tc) = merged_choice p v w tc
choice p v w fault = refl
choice p v w stuck = refl

pub merge_gives : (a n : At) (p : Part) (v w : Value) (b c x y : ExprTree) (env : Env) → eval b env ≡ done (building p) → eval x env ≡ done (plain v) → eval y env ≡ done (plain w) → eval (two a merge b (three n select c x y)) env ≡ and_then (eval c env) (λ tc. chosen tc (with_value p v) (with_value p w))
merge_gives a n p v w b c x y env eb ex ey =
    (λ m. and_then (eb m) (λ t. merged t (and_then (eval c env) (λ tc. on_three selected tc (ex m) (ey m))))) ∙ choice p v w (eval c env)
