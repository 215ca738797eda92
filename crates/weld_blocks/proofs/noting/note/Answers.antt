use Rattle.std.proofs.Common.{refl}
use Rattle.weld_blocks.specs.Scope.{scope_env}
use Rattle.weld_blocks.proofs.NoteLemmas.{number_gives, pushed_noted}
use Rattle.weld_blocks.proofs.noting.note.Goals as goal

pub returns-in-Some-clause-noted : goal.returns-in-Some-clause-noted
returns-in-Some-clause-noted c = λ t. pushed_noted c.args.body.now _ c.args.names.now.items c.note_number.new.names.items (c.note_number.ensures t).names

pub returns-in-Some-clause-give : goal.returns-in-Some-clause-give
returns-in-Some-clause-give c = λ t.
    let k = c.note_number.ensures t in
    number_gives c.args.names.now.items c.note_number.new.names.items c.args.columns.now.items c.note_number.new.columns.items _ c.args.name c.in-Some.numbers (scope_env c.args.scope.now) c.args.count refl c.requires k.names k.columns k.kind c.in-Some.ensures
