use Rattle.std.proofs.Common.{◌+◌, ◌-◌, drop, refl, sym, subst, arith}
use Rattle.weld_data.specs.Value.{values}
use Rattle.weld_turns.specs.Fillings.{PutsFields}
use Rattle.weld_turns.specs.declared.code.Code as code
use Rattle.weld_turns.specs.declared.code.Filling.{Filling}
use Rattle.weld_turns.specs.declared.code.Filling as filling
use Rattle.weld_turns.proofs.Fields.{last_put, more_put}
use Rattle.weld_turns.proofs.copies.+put_values.Goals as goal

pub returns-then-left-eq1 : goal.returns-then-left-eq1
returns-then-left-eq1 t c =
    last_put (filling.Put c.args.first (code.Literal c.in-Some.n)) c.args.fields.now _ c.in-Some.n c.args.i c.args.left c.args.first refl c.if-left-eq1.true c.requires.count c.at.ensures c.in-Some.ensures (omega (arith, c.ranges.first))

pub returns-in-Ok-in_box : goal.returns-in-Ok-in_box
returns-in-Ok-in_box t c =
    more_put c.in-Ok.x.value c.in-Ok-in_box.y.value c.args.fields.now _ c.in-Some.n c.args.i c.args.left (c.args.left - 1) c.args.first c.in-Ok.ensures (omega (arith, c.if-left-eq0.false)) c.at.ensures c.in-Some.ensures (omega (arith, c.ranges.first))
    (subst (λ (z : Filling). PutsFields z (c.args.left - 1) (values (drop (c.args.i + 1) c.args.fields.now)) (c.args.first + 1)) (sym c.in-Ok-in_box.ensures) c.in-Ok-put_values.ensures)
