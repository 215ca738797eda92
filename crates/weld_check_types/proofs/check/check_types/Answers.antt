use Rattle.weld_check_types.proofs.Found.{made_so, same_so, typed_so}
use Rattle.weld_check_types.proofs.check.check_types.Goals as goal

pub invariant_of-program : goal.invariant_of-program
invariant_of-program c =
    made_so c.p.inside.params c.as_slice.result.now c.p.inside.body.value c.deref_mut.result.now c.note_program.new.body c.p.invariant
    c.as_slice.ensures c.deref_mut.ensures.value c.in-Ok.ensures.noted

pub invariant_of-result : goal.invariant_of-result
invariant_of-result c =
    typed_so c.p.inside.params c.as_slice.result.now c.p.inside.body.value c.deref_mut.result.now c.note_program.new.body c.in-Ok.ty
    c.the_walk_is_typing.ensures.expression c.the_walk_is_typing.ensures.program c.types_are_unique.ensures c.p.invariant
    c.as_slice.ensures c.deref_mut.ensures.value c.in-Ok.ensures.noted c.in-Ok.ensures.found

pub returns-in-Ok-clause-same : goal.returns-in-Ok-clause-same
returns-in-Ok-clause-same c =
    same_so c.args.p c.p.inside.params c.as_slice.result.now c.p.inside.body.value c.deref_mut.result.now c.note_program.new.body c.p.view_is
    c.as_slice.ensures c.deref_mut.ensures.value c.in-Ok.ensures.noted

pub returns-in-Ok-clause-noted : goal.returns-in-Ok-clause-noted
returns-in-Ok-clause-noted c =
    (typed_so c.p.inside.params c.as_slice.result.now c.p.inside.body.value c.deref_mut.result.now c.note_program.new.body c.in-Ok.ty
    c.the_walk_is_typing.ensures.expression c.the_walk_is_typing.ensures.program c.types_are_unique.ensures c.p.invariant
    c.as_slice.ensures c.deref_mut.ensures.value c.in-Ok.ensures.noted c.in-Ok.ensures.found).noted
