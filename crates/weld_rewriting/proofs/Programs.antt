-- A program whose body is rewritten keeps what counts.
use Rattle.std.proofs.Common.{◌≡◌, ℕ, ◌==◌, Bool, true, false, if◌then◌else◌, List, [], ◌∷◌, Option, Some, None, ap, sym, subst, ◌∙◌}
use Rattle.weld_data.specs.Value.{Value}
use Rattle.weld_tree.specs.declared.binder.Binder.{Binder}
use Rattle.weld_tree.specs.TypeTree.{TypeTree}
use Rattle.weld_tree.specs.Types.{IsBuilderFree, IsWellFormed}
use Rattle.weld_tree.specs.Program.{ProgramTree}
use Rattle.weld_meaning.specs.Environment.{look_for}
use Rattle.weld_meaning.specs.Thing.{plain}
use Rattle.weld_meaning.specs.Typing.{AreFormed, HasType, ParamFits, ParamsFit, noted_type, param_types, ProgramHas}
use Rattle.weld_meaning.specs.ThingType.{EnvFits}
use Rattle.weld_meaning.specs.Evaluation.{value_out, eval}
use Rattle.weld_meaning.specs.Accepted.{IsAccepted}
use Rattle.weld_meaning.specs.Meaning.{ArgumentsFit, with_arguments}
use Rattle.weld_meaning.proofs.WellFormed.{formed_bind}
use Rattle.weld_meaning.proofs.NeverStuck.{fits_bind}
use Rattle.weld_check_types.specs.Notes.{ProgramIsNoted, AreNoted}
use Rattle.weld_rewriting.specs.Placed.{IsPlaced}
use Rattle.weld_rewriting.specs.Rewriting.{RewritesProgram, SameMeaning}

-- ---- parameters

param_formed : (m : Option TypeTree) → ParamFits m → IsWellFormed (noted_type m)
param_formed None h = absurd h
param_formed (Some t) h = h.0

param_free : (m : Option TypeTree) → ParamFits m → IsBuilderFree (noted_type m)
param_free None h = absurd h
param_free (Some t) h = h.1

params_formed : (bs : List Binder) → ParamsFit bs → AreFormed (param_types bs)
params_formed [] h = record { formed = λ s t e. let no : ⊥ = cc in absurd no }
params_formed (b ∷ bs) h = formed_bind (param_types bs) b.sym.0 (noted_type b.note) (param_formed b.note h.0) (params_formed bs h.1)

-- parameters are values
params_free : (bs : List Binder) → ParamsFit bs → (s : ℕ) (t : TypeTree) → look_for s (param_types bs) ≡ Some t → IsBuilderFree t
params_free [] h s t e = let no : ⊥ = cc in absurd no
params_free (b ∷ bs) h s t e = by (s == b.sym.0) (params_free bs h.1 s t) e
  where
    by : (c : Bool) → (look_for s (param_types bs) ≡ Some t → IsBuilderFree t) → (if c then Some (noted_type b.note) else look_for s (param_types bs)) ≡ Some t → IsBuilderFree t
    by true k e = let same : noted_type b.note ≡ t = cc in subst IsBuilderFree same (param_free b.note h.0)
    by false k e = k e

arguments_fit : (bs : List Binder) (vs : List Value) → ArgumentsFit bs vs → EnvFits (param_types bs) (with_arguments bs vs)
arguments_fit [] [] h = record { finds = λ s t e. let no : ⊥ = cc in absurd no }
arguments_fit [] (v ∷ vs) h = absurd h
arguments_fit (b ∷ bs) [] h = absurd h
arguments_fit (b ∷ bs) (v ∷ vs) h =
    fits_bind (param_types bs) (with_arguments bs vs) b.sym.0 (noted_type b.note) (plain v) h.0 (arguments_fit bs vs h.1)

-- ---- programs

-- the body of an accepted program is in its place
body_placed : (p : ProgramTree) (t : TypeTree) → ProgramHas p t → IsAccepted p → ProgramIsNoted p → IsPlaced p.body (param_types p.params) [] t
body_placed p t h a n = record {
  formed = params_formed p.params h.params;
  forms = record { forms = λ s u e. params_free p.params h.params s u e };
  typed = h.body;
  keeps = a.keeps;
  splits = a.splits;
  noted = n;
}

new_body : (q p : ProgramTree) (t : TypeTree) → RewritesProgram q p → ProgramHas p t → IsAccepted p → ProgramIsNoted p → IsPlaced q.body (param_types p.params) [] t
new_body q p t r h a n = r.body.replaces.placed (param_types p.params) [] t (body_placed p t h a n)

pub still_typed : (q p : ProgramTree) (t : TypeTree) → RewritesProgram q p → IsAccepted p → ProgramIsNoted p → ProgramHas p t → ProgramHas q t
still_typed q p t r a n h =
    let b = new_body q p t r h a n in
    record {
      params = subst ParamsFit (sym r.params) h.params;
      body = subst (λ bs. HasType q.body (param_types bs) t) (sym r.params) b.typed;
      builder_free = h.builder_free;
    }

pub still_accepted : (q p : ProgramTree) → RewritesProgram q p → IsAccepted p → ProgramIsNoted p → IsAccepted q
still_accepted q p r a n =
    let b = new_body q p a.typed.0 r a.typed.1 a n in
    record { typed = (a.typed.0, still_typed q p a.typed.0 r a n a.typed.1); keeps = b.keeps; splits = b.splits }

pub still_noted : (q p : ProgramTree) → RewritesProgram q p → IsAccepted p → ProgramIsNoted p → ProgramIsNoted q
still_noted q p r a n =
    let b = new_body q p a.typed.0 r a.typed.1 a n in subst (λ bs. AreNoted q.body (param_types bs)) (sym r.params) b.noted

pub still_means : (q p : ProgramTree) → RewritesProgram q p → IsAccepted p → ProgramIsNoted p → SameMeaning q p
still_means q p r a n vs fit =
    ap (λ bs. value_out (eval q.body (with_arguments bs vs))) r.params
    ∙ ap value_out (r.body.replaces.means (param_types p.params) [] a.typed.0 (with_arguments p.params vs) (body_placed p a.typed.0 a.typed.1 a n) (arguments_fit p.params vs fit))
