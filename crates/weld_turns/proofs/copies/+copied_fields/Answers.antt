use Rattle.std.proofs.Common.{◌+◌, ◌-◌, sym, subst, arith}
use Rattle.weld_turns.specs.Fillings.{CopiesFields}
use Rattle.weld_turns.specs.declared.code.Filling.{Filling}
use Rattle.weld_turns.proofs.Fields.{more_copied}
use Rattle.weld_turns.proofs.copies.+copied_fields.Goals as goal

pub returns-in-Ok-in_box : goal.returns-in-Ok-in_box
returns-in-Ok-in_box t c =
    more_copied c.in-Ok.x.value c.in-Ok-in_box.y.value c.args.count (c.args.count - 1) c.args.from c.args.first c.in-Ok.ensures (omega (arith, c.if-count-eq0.false)) c.requires (omega (arith, c.ranges.first))
    (subst (λ (z : Filling). CopiesFields z (c.args.count - 1) (c.args.from + 1) (c.args.first + 1)) (sym c.in-Ok-in_box.ensures) c.in-Ok-copied_fields.ensures)
