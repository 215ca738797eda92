-- What holds of programs: their meaning isn't stuck, and the law of loops holds at each of their loops.
use Rattle.std.proofs.Common.{◌≡◌, ℕ, ◌==◌, ◌<◌, Bool, true, false, if◌then◌else◌, List, [], ◌∷◌, Option, Some, None, subst}
use Rattle.weld_data.specs.Value.{Value}
use Rattle.weld_tree.specs.declared.binder.Binder.{Binder}
use Rattle.weld_tree.specs.TypeTree.{TypeTree}
use Rattle.weld_tree.specs.Types.{IsBuilderFree, IsWellFormed}
use Rattle.weld_tree.specs.Program.{ProgramTree, loops}
use Rattle.weld_tree.specs.HasValue.{HasValue}
use Rattle.weld_meaning.specs.Environment.{look_for}
use Rattle.weld_meaning.specs.Thing.{plain}
use Rattle.weld_meaning.specs.Typing.{AreFormed, ParamFits, ParamsFit, noted_type, param_types, ProgramHas}
use Rattle.weld_meaning.specs.ThingType.{EnvFits}
use Rattle.weld_meaning.specs.Accepted.{IsAccepted}
use Rattle.weld_meaning.specs.Loops.{Site, LawOfLoop, IsLoopOf}
use Rattle.weld_meaning.specs.Meaning.{GivesOrFaults, ArgumentsFit, with_arguments, meaning}
use Rattle.weld_meaning.proofs.Good.{free_value_type, value_out_good}
use Rattle.weld_meaning.proofs.WellFormed.{formed_bind, type_formed}
use Rattle.weld_meaning.proofs.PartsGood.{KeyLaws}
use Rattle.weld_meaning.proofs.NeverStuck.{never_stuck, fits_bind}
use Rattle.weld_meaning.proofs.LoopLaw.{PartLaws, law_at}
use Rattle.weld_meaning.proofs.LoopsThere.{loop_there}

param_formed : (m : Option TypeTree) → ParamFits m → IsWellFormed (noted_type m)
param_formed None h = absurd h
param_formed (Some t) h = h.0

param_free : (m : Option TypeTree) → ParamFits m → IsBuilderFree (noted_type m)
param_free None h = absurd h
param_free (Some t) h = h.1

params_formed : (bs : List Binder) → ParamsFit bs → AreFormed (param_types bs)
params_formed [] h = record { formed = λ s t e. let no : ⊥ = cc in absurd no }
params_formed (b ∷ bs) h = formed_bind (param_types bs) b.sym.0 (noted_type b.note) (param_formed b.note h.0) (params_formed bs h.1)

-- the names of parameters are values
params_free : (bs : List Binder) → ParamsFit bs → (s : ℕ) (t : TypeTree) → look_for s (param_types bs) ≡ Some t → IsBuilderFree t
params_free [] h s t e = let no : ⊥ = cc in absurd no
params_free (b ∷ bs) h s t e = by (s == b.sym.0) (params_free bs h.1 s t) e
  where
    by : (c : Bool) → (look_for s (param_types bs) ≡ Some t → IsBuilderFree t) → (if c then Some (noted_type b.note) else look_for s (param_types bs)) ≡ Some t → IsBuilderFree t
    by true k e = let same : noted_type b.note ≡ t = cc in subst IsBuilderFree same (param_free b.note h.0)
    by false k e = k e

arguments_fit : (bs : List Binder) (vs : List Value) → ArgumentsFit bs vs → EnvFits (param_types bs) (with_arguments bs vs)
arguments_fit [] [] h = record { finds = λ s t e. let no : ⊥ = cc in absurd no }
arguments_fit [] (v ∷ vs) h = absurd h
arguments_fit (b ∷ bs) [] h = absurd h
arguments_fit (b ∷ bs) (v ∷ vs) h =
    fits_bind (param_types bs) (with_arguments bs vs) b.sym.0 (noted_type b.note) (plain v) h.0 (arguments_fit bs vs h.1)

pub program_never_stuck : KeyLaws → (p : ProgramTree) (t : TypeTree) (vs : List Value) → ProgramHas p t → ArgumentsFit p.params vs → GivesOrFaults (HasValue t) (meaning p vs)
program_never_stuck laws p t vs h fit =
    (value_out_good t (free_value_type t h.builder_free) (never_stuck laws p.body (param_types p.params) t (with_arguments p.params vs) h.body (params_formed p.params h.params) (arguments_fit p.params vs fit))).fits

pub program_type_formed : (p : ProgramTree) (t : TypeTree) → ProgramHas p t → IsWellFormed t
program_type_formed p t h = type_formed p.body (param_types p.params) t h.body (params_formed p.params h.params)

pub law_of_accepted : PartLaws → (p : ProgramTree) (k : ℕ) (l : Site) → IsAccepted p → IsLoopOf p k l → LawOfLoop l
law_of_accepted laws p k l h at =
    law_at laws p.body [] (param_types p.params) k l at h.keeps (params_formed p.params h.typed.1.params)
    (record { forms = λ s t e. params_free p.params h.typed.1.params s t e })

pub loops_of_accepted : (p : ProgramTree) (k : ℕ) → IsAccepted p → k < loops p.body → (l : Site) × IsLoopOf p k l
loops_of_accepted p k h b = loop_there p.body (param_types p.params) h.typed.0 k h.typed.1.body b
