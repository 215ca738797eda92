use Rattle.std.proofs.Common.{sym, ◌∙◌, subst, MatchOption, false, IsTrue}
use Rattle.weld_tree.specs.Types.{IsWithinLimits}
use Rattle.weld_spell.specs.Types.{SpellsType, IsNoType}
use Rattle.weld_table.specs.Table.{IsCell}
use Rattle.weld_read_script.proofs.Types.{unspelled_read, unwanted_read}
use Rattle.weld_read_script.proofs.statements.parts.read_cell_type.Goals as goal

pub returns-in-None : goal.returns-in-None
returns-in-None c =
    unspelled_read IsCell c.args.tokens.now (sym c.has_too_many_tokens.ensures ∙ c.if-has_too_many_tokens.false)
    (subst (λ found. MatchOption found (IsNoType c.args.tokens.now) (λ t. SpellsType c.args.tokens.now t × IsWithinLimits t)) c.in-None.is c.in_ok-read_ty.ensures)

pub returns-else-is_cell : goal.returns-else-is_cell
returns-else-is_cell c =
    let ts = c.args.tokens.now in
    let spelled = subst (λ found. MatchOption found (IsNoType ts) (λ t. SpellsType ts t × IsWithinLimits t)) c.in-Some.is c.in_ok-read_ty.ensures in
    unwanted_read IsCell ts c.in-Some.ty (sym c.has_too_many_tokens.ensures ∙ c.if-has_too_many_tokens.false) spelled.0 (λ h. let e : IsTrue false = c.if-is_cell.ensures.1 h in cc)
