use Rattle.std.proofs.Common.{◌-◌, length, refl}
use Rattle.weld_blocks.specs.Scope.{scope_env}
use Rattle.weld_blocks.proofs.NoteLemmas.{fields_give, pushed_noted}
use Rattle.weld_blocks.proofs.noting.note_fields.Goals as goal

pub returns-clause-noted : goal.returns-clause-noted
returns-clause-noted c = λ t. pushed_noted c.args.body.now _ c.args.names.now.items c.push.new.self.items c.in-Ok.ensures.items

pub returns-clause-give : goal.returns-clause-give
returns-clause-give c = λ t.
    fields_give c.args.names.now.items c.push.new.self.items c.args.columns.now.items c.take_fields.new.columns.items _ c.args.name _ c.fields_taken-taken.result (scope_env c.args.scope.now) c.args.count
    c.if-taken-eq0.false refl (λ i. length (c.as_slice.ensures.value i) - length (c.as_slice-before.ensures.value i)) c.requires c.in-Ok.ensures.items (c.if-not-take_fields.ensures refl) (c.if-not-is_value.ensures refl)
