-- A call whose arguments are resolved.
use Rattle.std.proofs.Common.{◌≡◌, ℕ, false, List, Some, Result, sym, ap, subst, ◌∙◌}
use Rattle.weld_tree.specs.declared.code.Code.TheVariants.{S2}
use Rattle.weld_read_script.specs.declared.statements.statement.Argument.{Argument}
use Rattle.weld_read_script.specs.declared.requests.names.Resolved.{Resolved}
use Rattle.weld_read_script.specs.Names.{all_resolved}
use Rattle.weld_read_script.specs.declared.steps.known.Known.{Known}
use Rattle.weld_read_script.specs.declared.steps.known.LineFault.{LineFault}
use Rattle.weld_read_script.specs.Steps.{Steps, refused_if, is_bound, after_names, after_call}

pub resolved_step : (k next : Known) (name library call : List ℕ) (arguments : List Argument) (rs : List Resolved) (r : Result (Unit {0}) LineFault)
    → is_bound name k ≡ false → all_resolved k.bound arguments ≡ Some rs → Steps (after_names k name library call (Some rs)) r next
    → Steps (after_call k name library call arguments) r next
resolved_step k next name library call arguments rs r unbound resolved h =
    let same = ap (λ b. refused_if b S2 (after_names k name library call (all_resolved k.bound arguments))) unbound
    ∙ ap (after_names k name library call) resolved in
    subst (λ s. Steps s r next) (sym same) h
