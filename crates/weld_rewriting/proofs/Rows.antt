-- What a typed loop runs over, and its legs and lists of parts, aren't stuck.
use Rattle.std.proofs.Common.{ℕ, suc, List, [], ◌∷◌}
use Rattle.weld_data.specs.Value.{Value, values}
use Rattle.weld_tree.specs.TypeTree.{TypeTree, TypeTrees, vec, no_types, more_types}
use Rattle.weld_tree.specs.ExprTree.{LegTree, whole, strided, LegTrees, no_legs, more_legs}
use Rattle.weld_tree.specs.HasValue.{HasValue, AllAre}
use Rattle.weld_meaning.specs.Typing.{Types, AreFormed, place_type, LegHas, LegsHave}
use Rattle.weld_meaning.specs.ThingType.{EnvFits}
use Rattle.weld_meaning.specs.Evaluation.{Env, elements_of, number_from, eval_leg, eval_legs}
use Rattle.weld_meaning.specs.Loops.{RowsHave}
use Rattle.weld_meaning.proofs.Good.{Good, good, then_good, map_good, value_out_good}
use Rattle.weld_meaning.proofs.ValuesGood.{elements_good, strided_good, LegsFit}
use Rattle.weld_meaning.proofs.PartsGood.{KeyLaws}
use Rattle.weld_meaning.proofs.NeverStuck.{never_stuck}

pub leg_good : KeyLaws → (l : LegTree) (g : Types) (u : TypeTree) (env : Env) → LegHas l g u → AreFormed g → EnvFits g env → Good (λ vs. AllAre (HasValue u) (values vs)) (eval_leg l env)
leg_good laws (whole e) g u env h w fit =
    then_good elements_of (value_out_good (vec u) tt (never_stuck laws e g (vec u) env h w fit)) (λ v p. elements_good u v p)
leg_good laws (strided e f k i) g u env h w fit =
    let q = never_stuck laws f g place_type env h.1 w fit in
    let r = never_stuck laws k g place_type env h.2 w fit in
    let s = never_stuck laws i g place_type env h.3 w fit in
    then_good _ (value_out_good (vec u) tt (never_stuck laws e g (vec u) env h.0 w fit)) (λ v p.
    then_good _ (value_out_good place_type tt q) (λ from a. then_good _ (value_out_good place_type tt r) (λ to b. then_good _ (value_out_good place_type tt s) (λ d c.
    strided_good u v from to d p a b c))))

pub legs_good : KeyLaws → (ls : LegTrees) (g : Types) (us : TypeTrees) (env : Env) → LegsHave ls g us → AreFormed g → EnvFits g env → Good (LegsFit us) (eval_legs ls env)
legs_good laws no_legs g no_types env h w fit = good tt
legs_good laws no_legs g (more_types u us) env h w fit = absurd h
legs_good laws (more_legs l ls) g no_types env h w fit = absurd h
legs_good laws (more_legs l ls) g (more_types u us) env h w fit =
    then_good _ (leg_good laws l g u env h.0 w fit) (λ vs p. map_good (λ rest. vs ∷ rest) (legs_good laws ls g us env h.1 w fit) (λ rest q. (p, q)))

pub rows_have : (r : TypeTree) (n : ℕ) (vs : List Value) → AllAre (HasValue r) (values vs) → RowsHave r (number_from n vs)
rows_have r n [] h = tt
rows_have r n (v ∷ vs) h = (h.0, rows_have r (suc n) vs h.1)
