-- What is known of an accepted program is known of its body.
use Rattle.std.proofs.Common.{◌≡◌, ℕ, ◌==◌, Bool, true, false, if◌then◌else◌, List, [], ◌∷◌, Option, Some, None, sym, ap, ◌∙◌, subst}
use Rattle.weld_data.specs.Value.{Value}
use Rattle.weld_tree.specs.declared.binder.Binder.{Binder}
use Rattle.weld_tree.specs.TypeTree.{TypeTree}
use Rattle.weld_tree.specs.Types.{IsBuilderFree, IsWellFormed}
use Rattle.weld_tree.specs.Program.{ProgramTree}
use Rattle.weld_builders.specs.Outcome.{done, fault}
use Rattle.weld_meaning.specs.Environment.{look_for}
use Rattle.weld_meaning.specs.Thing.{Thing, plain}
use Rattle.weld_meaning.specs.Typing.{AreFormed, ParamFits, ParamsFit, noted_type, param_types}
use Rattle.weld_meaning.specs.ThingType.{EnvFits}
use Rattle.weld_meaning.specs.Accepted.{IsAccepted}
use Rattle.weld_meaning.specs.Evaluation.{eval, value_out}
use Rattle.weld_meaning.specs.Meaning.{ArgumentsFit, with_arguments, meaning}
use Rattle.weld_meaning.proofs.Good.{free_value_type, value_of_thing}
use Rattle.weld_meaning.proofs.WellFormed.{formed_bind}
use Rattle.weld_meaning.proofs.NeverStuck.{fits_bind}
use Rattle.weld_eval.specs.Fit.{AreNamed, IsFit}
use Rattle.weld_eval.specs.Takes.{IsPlain}
use Rattle.weld_eval.proofs.Children.{gives}

param_formed : (m : Option TypeTree) → ParamFits m → IsWellFormed (noted_type m)
param_formed None h = absurd h
param_formed (Some t) h = h.0

param_free : (m : Option TypeTree) → ParamFits m → IsBuilderFree (noted_type m)
param_free None h = absurd h
param_free (Some t) h = h.1

params_formed : (bs : List Binder) → ParamsFit bs → AreFormed (param_types bs)
params_formed [] h = record { formed = λ s t e. let no : ⊥ = cc in absurd no }
params_formed (b ∷ bs) h = formed_bind (param_types bs) b.sym.0 (noted_type b.note) (param_formed b.note h.0) (params_formed bs h.1)

-- the names of parameters are values
params_free : (bs : List Binder) → ParamsFit bs → (s : ℕ) (t : TypeTree) → look_for s (param_types bs) ≡ Some t → IsBuilderFree t
params_free [] h s t e = let no : ⊥ = cc in absurd no
params_free (b ∷ bs) h s t e = by (s == b.sym.0) (params_free bs h.1 s t) e
  where
    by : (c : Bool) → (look_for s (param_types bs) ≡ Some t → IsBuilderFree t) → (if c then Some (noted_type b.note) else look_for s (param_types bs)) ≡ Some t → IsBuilderFree t
    by true k e = let same : noted_type b.note ≡ t = cc in subst IsBuilderFree same (param_free b.note h.0)
    by false k e = k e

arguments_fit : (bs : List Binder) (vs : List Value) → ArgumentsFit bs vs → EnvFits (param_types bs) (with_arguments bs vs)
arguments_fit [] [] h = record { finds = λ s t e. let no : ⊥ = cc in absurd no }
arguments_fit [] (v ∷ vs) h = absurd h
arguments_fit (b ∷ bs) [] h = absurd h
arguments_fit (b ∷ bs) (v ∷ vs) h =
    fits_bind (param_types bs) (with_arguments bs vs) b.sym.0 (noted_type b.note) (plain v) h.0 (arguments_fit bs vs h.1)

named_params : (p : ProgramTree) (vs : List Value) → IsAccepted p → ArgumentsFit p.params vs → AreNamed (param_types p.params) [] (with_arguments p.params vs)
named_params p vs h fit = record {
  formed = params_formed p.params h.typed.1.params;
  fits = arguments_fit p.params vs fit;
  forms = record { forms = λ s t e. params_free p.params h.typed.1.params s t e };
}

pub program_fits : (p : ProgramTree) (vs : List Value) → IsAccepted p → ArgumentsFit p.params vs → IsFit p.body (with_arguments p.params vs)
program_fits p vs h fit = record {
  names = param_types p.params;
  origins = [];
  named = named_params p vs h fit;
  answer = h.typed.0;
  typed = h.typed.1.body;
  keeps = h.keeps;
}

pub program_gives : (p : ProgramTree) (vs : List Value) (x : Thing) → IsAccepted p → ArgumentsFit p.params vs → eval p.body (with_arguments p.params vs) ≡ done x → IsPlain x
program_gives p vs x h fit q =
    let t = value_of_thing h.typed.0 x (free_value_type h.typed.0 h.typed.1.builder_free) (gives p.body (param_types p.params) [] (with_arguments p.params vs) h.typed.0 x (named_params p vs h fit) h.typed.1.body q) in
    subst IsPlain (sym t.1) tt

pub program_means : (p : ProgramTree) (vs : List Value) (x : Thing) (v : Value) → eval p.body (with_arguments p.params vs) ≡ done x → x ≡ plain v → meaning p vs ≡ done v
program_means p vs x v q same = ap value_out (q ∙ ap done same)

pub program_faults : (p : ProgramTree) (vs : List Value) → eval p.body (with_arguments p.params vs) ≡ fault → meaning p vs ≡ fault
program_faults p vs q = ap value_out q
