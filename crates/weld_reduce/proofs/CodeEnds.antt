-- What is left when the code has run through a derivation.
use Rattle.std.proofs.Common.{◌≡◌, ◌↔◌, ℕ, Bool, false, IsTrue, List, [], Some, None, ap, sym, subst, ◌∙◌}
use Rattle.std.proofs.lemmas.Bool.{false≢true}
use Rattle.weld_tree.specs.Types.{IsWithinLimits}
use Rattle.weld_grammar.specs.declared.terminals.token.Token.{Token}
use Rattle.weld_tree.specs.declared.place.Place.{Place}
use Rattle.weld_tree.specs.TypeTree.{TypeTree}
use Rattle.weld_tree.specs.ExprTree.{ExprTree}
use Rattle.weld_tree.specs.Program.{ProgramTree}
use Rattle.weld_tree.specs.declared.binder.Binder.{Binder}
use Rattle.weld_tokens.specs.Order.{first_number_out_of_range}
use Rattle.weld_grammar.specs.declared.rule.Rule.TheVariants.{Program, AnyType}
use Rattle.weld_grammar.specs.declared.item.Item.TheVariants.{Part as OfRule}
use Rattle.weld_grammar.specs.Grammar.{item}
use Rattle.weld_grammar.specs.Derivation.{Tree, yield, IsOf}
use Rattle.weld_spell.specs.Names.{first_misnamed}
use Rattle.weld_spell.specs.Seen.{seen}
use Rattle.weld_spell.specs.ProgramOf.{program_of, first_of}
use Rattle.weld_spell.specs.TypeOf.{type_of}
use Rattle.weld_spell.specs.Types.{SpellsType, IsNoType, broken, too_large}
use Rattle.weld_spell.specs.Ranges.{number_out_of_range}
use Rattle.weld_grammar.specs.Classes.{classes}
use Rattle.weld_accept.specs.declared.stop.Stop.{Stop}
use Rattle.weld_accept.specs.declared.stop.Stop.TheVariants.{Break}
use Rattle.weld_accept.specs.Stops.{StopsAt}
use Rattle.weld_accept.specs.declared.step.Step.{Step}
use Rattle.weld_accept.specs.Derived.{steps}
use Rattle.weld_reduce.specs.Values.{Value, top_expr, top_type}
use Rattle.weld_reduce.specs.States.{State, start}
use Rattle.weld_reduce.specs.Runs.{run, Comes, ComesToType}
use Rattle.weld_reduce.specs.Programs.{AreOfTheirClasses, IsDerivedBy, IsRead}
use Rattle.weld_reduce.specs.Ends.{IsEndOf, IsEndOfType}

abbrev pub ProgramsSpell : Type 0
ProgramsSpell = (tree : Tree Token) → IsOf (item (OfRule Program)) (seen tree) → number_out_of_range tree ≡ None → AreOfTheirClasses (yield tree) → Comes (run (steps (item (OfRule Program)) tree) (yield tree) start) (program_of tree) (first_misnamed tree)

abbrev pub TypesSpell : Type 0
TypesSpell = (tree : Tree Token) → IsOf (item (OfRule AnyType)) (seen tree) → ComesToType (run (steps (item (OfRule AnyType)) tree) (yield tree) start) (first_of (yield tree)) (type_of tree)

abbrev pub NumbersByTree : Type 0
NumbersByTree = (tree : Tree Token) → IsOf (item (OfRule Program)) (seen tree) → first_number_out_of_range (yield tree) ≡ number_out_of_range tree

-- the run of a derivation
comes : ProgramsSpell → NumbersByTree → (ts : List Token) (ss : List Step) (d : IsDerivedBy Program ts ss) → first_number_out_of_range ts ≡ None → AreOfTheirClasses ts → Comes (run ss ts start) (program_of d.tree) (first_misnamed d.tree)
comes law numbers ts ss d ranged read =
    let here = law d.tree d.tree_of (sym (numbers d.tree d.tree_of) ∙ ap first_number_out_of_range d.tokens ∙ ranged) (subst AreOfTheirClasses (sym d.tokens) read) in
    let Over : List Token → Type 0 = λ xs. Comes (run (steps (item (OfRule Program)) d.tree) xs start) (program_of d.tree) (first_misnamed d.tree) in
    let By : List Step → Type 0 = λ zs. Comes (run zs ts start) (program_of d.tree) (first_misnamed d.tree) in
    subst By d.is (subst Over d.tokens here)

comes_to_type : TypesSpell → (ts : List Token) (ss : List Step) (d : IsDerivedBy AnyType ts ss) → ComesToType (run ss ts start) (first_of (yield d.tree)) (type_of d.tree)
comes_to_type law ts ss d =
    let here = law d.tree d.tree_of in
    let Over : List Token → Type 0 = λ xs. ComesToType (run (steps (item (OfRule AnyType)) d.tree) xs start) (first_of (yield d.tree)) (type_of d.tree) in
    let By : List Step → Type 0 = λ zs. ComesToType (run zs ts start) (first_of (yield d.tree)) (type_of d.tree) in
    subst By d.is (subst Over d.tokens here)

some_one : {A : Type 0} (x y : A) → Some x ≡ Some y → x ≡ y
some_one x y e = cc

none_some : {A : Type 0} (x : A) → None ≡ Some x → ⊥
none_some x e = absurd (cc)

-- where the code runs through from the start, it ends at the program
pub ended : ProgramsSpell → NumbersByTree → (ts : List Token) (ss : List Step) → IsDerivedBy Program ts ss → first_number_out_of_range ts ≡ None → AreOfTheirClasses ts → (old new : State) → old ≡ start → run ss ts old ≡ Some new → IsEndOf ts new
ended law numbers ts ss d ranged read old new first ran =
    let c = comes law numbers ts ss d ranged read in
    let same : c.state ≡ new = some_one c.state new (sym c.is ∙ ap (run ss ts) (sym first) ∙ ran) in
    record {
      tree = d.tree;
      tree_of = d.tree_of;
      tokens = d.tokens;
      values = ap (λ (s : State). s.values) (sym same) ∙ c.values;
      params = ap (λ (s : State). s.params) (sym same) ∙ c.params;
      misnamed = ap (λ (s : State). s.misnamed) (sym same) ∙ c.refused;
    }

pub fits : ProgramsSpell → NumbersByTree → (ts : List Token) (ss : List Step) → IsDerivedBy Program ts ss → first_number_out_of_range ts ≡ None → AreOfTheirClasses ts → (old : State) → old ≡ start → run ss ts old ≡ None → ⊥
fits law numbers ts ss d ranged read old first ran =
    let c = comes law numbers ts ss d ranged read in
    none_some c.state (sym ran ∙ ap (run ss ts) first ∙ c.is)

pub ended_type : TypesSpell → (ts : List Token) (ss : List Step) → IsDerivedBy AnyType ts ss → (old new : State) → old ≡ start → run ss ts old ≡ Some new → IsEndOfType ts new
ended_type law ts ss d old new first ran =
    let c = comes_to_type law ts ss d in
    let same : c.state ≡ new = some_one c.state new (sym c.is ∙ ap (run ss ts) (sym first) ∙ ran) in
    record {
      tree = d.tree;
      tree_of = d.tree_of;
      tokens = d.tokens;
      place = first_of (yield d.tree);
      values = ap (λ (s : State). s.values) (sym same) ∙ c.values;
    }

pub fits_type : TypesSpell → (ts : List Token) (ss : List Step) → IsDerivedBy AnyType ts ss → (old : State) → old ≡ start → run ss ts old ≡ None → ⊥
fits_type law ts ss d old first ran =
    let c = comes_to_type law ts ss d in
    none_some c.state (sym ran ∙ ap (run ss ts) first ∙ c.is)

-- what lies on top
pub read_of : (ts : List Token) (st : State) → IsEndOf ts st → (body : ExprTree) (rest : List Value) → top_expr st.values ≡ Some (body, rest) → IsRead ts st.params body st.misnamed
read_of ts st h body rest e =
    let tops : (program_of h.tree).body ≡ body = ap (λ (b : ExprTree × List Value). b.0) (some_one ((program_of h.tree).body, []) (body, rest) (sym (ap top_expr h.values) ∙ e)) in
    record {
      tree = h.tree;
      tree_of = h.tree_of;
      tokens = h.tokens;
      program = made (program_of h.tree) st.params body (sym h.params) tops;
      misnamed = sym h.misnamed;
    }
  where
    made : (p : ProgramTree) (params : List Binder) (body : ExprTree) → p.params ≡ params → p.body ≡ body → p ≡ record { params = params; body = body }
    made p params body e f = ap (λ (z : List Binder). record { params = z; body = p.body }) e ∙ ap (λ (z : ExprTree). record { params = params; body = z }) f

pub not_topped : (ts : List Token) (st : State) → IsEndOf ts st → top_expr st.values ≡ None → ⊥
not_topped ts st h e = none_some ((program_of h.tree).body, []) (sym e ∙ ap top_expr h.values)

pub type_of_end : (ts : List Token) (st : State) → IsEndOfType ts st → (place : Place) (t : TypeTree) (rest : List Value) → top_type st.values ≡ Some ((place, t), rest) → SpellsType ts t
type_of_end ts st h place t rest e =
    let tops : type_of h.tree ≡ t = ap (λ (b : (Place × TypeTree) × List Value). b.0.1) (some_one ((h.place, type_of h.tree), []) ((place, t), rest) (sym (ap top_type h.values) ∙ e)) in
    record { tree = h.tree; tree_of = h.tree_of; tokens = h.tokens; value = tops }

pub no_type_topped : (ts : List Token) (st : State) → IsEndOfType ts st → top_type st.values ≡ None → ⊥
no_type_topped ts st h e = none_some ((h.place, type_of h.tree), []) (sym e ∙ ap top_type h.values)

-- tokens that spell no type within the limits
pub no_type : (stop : Stop) (n : ℕ) (ts : List Token) → stop ≡ Break n → StopsAt AnyType (classes ts) stop → IsNoType ts
no_type stop n ts e h = broken n (subst (StopsAt AnyType (classes ts)) e h)

pub over_limits : (ts : List Token) (t u : TypeTree) (b : Bool) → SpellsType ts t → u ≡ t → (IsTrue b ↔ IsWithinLimits u) → b ≡ false → IsNoType ts
over_limits ts t u b s e l f = too_large t s (λ h. false≢true (sym f ∙ l.1 (subst IsWithinLimits (sym e) h)))
