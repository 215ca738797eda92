use Rattle.std.proofs.Common.{sym, ◌∙◌, subst, MatchOption, false, IsTrue}
use Rattle.weld_tree.specs.Types.{IsWithinLimits}
use Rattle.weld_spell.specs.Types.{SpellsType, IsNoType}
use Rattle.weld_calls.specs.CallTypes.{IsValueType}
use Rattle.weld_read_script.proofs.Types.{unspelled_read, unwanted_read}
use Rattle.weld_read_script.proofs.statements.parts.read_value_type.Goals as goal

pub returns-in-None : goal.returns-in-None
returns-in-None c =
    unspelled_read IsValueType c.args.tokens.now (sym c.has_too_many_tokens.ensures ∙ c.if-has_too_many_tokens.false)
    (subst (λ found. MatchOption found (IsNoType c.args.tokens.now) (λ t. SpellsType c.args.tokens.now t × IsWithinLimits t)) c.in-None.is c.in_ok-read_ty.ensures)

pub returns-else-is_of_values : goal.returns-else-is_of_values
returns-else-is_of_values c =
    let ts = c.args.tokens.now in
    let spelled = subst (λ found. MatchOption found (IsNoType ts) (λ t. SpellsType ts t × IsWithinLimits t)) c.in-Some.is c.in_ok-read_ty.ensures in
    unwanted_read IsValueType ts c.in-Some.ty (sym c.has_too_many_tokens.ensures ∙ c.if-has_too_many_tokens.false) spelled.0 (λ h. let e : IsTrue false = c.if-is_of_values.ensures.1 h in cc)
