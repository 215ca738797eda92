use Rattle.std.proofs.Common.{◌≡◌, ◌+◌, ◌<◌, map, refl, arith}
use Rattle.weld_tree.specs.Program.{ProgramTree}
use Rattle.weld_objects.specs.Numbering.{number_in}
use Rattle.weld_lazy.specs.View.{view_object, view_ids}
use Rattle.weld_lazy.specs.Lowering.{marks_of, binders_from}
use Rattle.weld_lazy.proofs.Whole.{Laws, steps_of, room_of, counts_of, may_be, program_is, inputs_are, is_program, is_accepted, is_lowered}
use Rattle.weld_lazy.proofs.graph.Graph.lower_known.Goals as goal

pub overflow_cast-len : goal.overflow_cast-len
overflow_cast-len c =
    let r : c.len.result + binders_from (marks_of c.in_ok-marks.marks) 0 (map view_object c.self.inside.objects.items) < 4294967295 =
    room_of c.self.inside.objects.items c.deref-2.result.now c.self.inside.objects.items c.args.self.now (marks_of c.in_ok-marks.marks) (number_in c.in_ok-numbers.field-0.numbers) c.in_ok-numbers.field-0.params c.in_ok-numbers.field-0.inputs c.len.result
    c.deref-2.ensures.value refl c.self.view_is c.len.ensures c.in_ok-numbers.ensures c.requires.few in
    omega (arith, r)

pub chain_calls-requires-clause-counts : goal.chain_calls-requires-clause-counts
chain_calls-requires-clause-counts c = counts_of c.self.inside.objects.items c.deref-3.result.now c.deref-3.ensures.value c.self.invariant.0

pub chain_calls-requires-clause-room : goal.chain_calls-requires-clause-room
chain_calls-requires-clause-room c =
    room_of c.self.inside.objects.items c.deref-2.result.now c.deref-3.result.now c.args.self.now (marks_of c.in_ok-marks.marks) (number_in c.in_ok-numbers.field-0.numbers) c.in_ok-numbers.field-0.params c.in_ok-numbers.field-0.inputs c.len.result
    c.deref-2.ensures.value c.deref-3.ensures.value c.self.view_is c.len.ensures c.in_ok-numbers.ensures c.requires.few

pub invariant_of-program : goal.invariant_of-program
invariant_of-program c =
    let laws : Laws = record {
      program = c.objects_make_one_program.ensures.program;
      accepted = c.objects_make_one_program.ensures.accepted;
      typed = c.objects_make_one_program.ensures.typed;
      arguments = c.objects_make_one_program.ensures.arguments;
      loops = c.objects_make_one_program.ensures.loops;
      whole = c.one_program_means_the_objects.ensures.whole;
      fault = c.one_program_means_the_objects.ensures.fault;
      value = c.one_program_means_the_objects.ensures.value;
    } in
    let may = may_be c.self.inside.objects.items c.args.self.now c.args.shown.now c.self.view_is c.self.invariant.0 c.requires.known c.requires.some c.requires.few in
    let steps = steps_of c.self.inside.objects.items c.deref.result.now c.deref-2.result.now c.deref-3.result.now c.args.self.now c.in_ok-shown.shown (view_ids c.args.shown.now) c.in_ok-marks.marks c.in_ok-numbers.field-0.numbers c.in_ok-chain.chain.numbers
    c.in_ok-numbers.field-0.params c.in_ok-numbers.field-0.inputs c.in_ok-chain.chain.lets c.in_ok-fields.fields.value c.in_ok-body.body.value c.len.result
    c.deref.ensures.value c.deref-2.ensures.value c.deref-3.ensures.value c.self.view_is c.in_ok-shown.ensures c.len.ensures c.in_ok-marks.ensures c.in_ok-numbers.ensures c.in_ok-chain.ensures c.in_ok-fields.ensures c.in_ok-body.ensures in
    let p : ProgramTree = record { params = c.in_ok-numbers.field-0.params; body = c.in_ok-body.body.value } in
    let form = program_is c.args.self.now (view_ids c.args.shown.now) c.in_ok-marks.marks c.in_ok-numbers.field-0.numbers c.in_ok-chain.chain.numbers c.in_ok-numbers.field-0.params c.in_ok-numbers.field-0.inputs c.in_ok-chain.chain.lets c.in_ok-fields.fields.value c.in_ok-body.body.value steps in
    is_program laws c.args.self.now (view_ids c.args.shown.now) p may form

pub invariant_of-result : goal.invariant_of-result
invariant_of-result c =
    let laws : Laws = record {
      program = c.objects_make_one_program.ensures.program;
      accepted = c.objects_make_one_program.ensures.accepted;
      typed = c.objects_make_one_program.ensures.typed;
      arguments = c.objects_make_one_program.ensures.arguments;
      loops = c.objects_make_one_program.ensures.loops;
      whole = c.one_program_means_the_objects.ensures.whole;
      fault = c.one_program_means_the_objects.ensures.fault;
      value = c.one_program_means_the_objects.ensures.value;
    } in
    let may = may_be c.self.inside.objects.items c.args.self.now c.args.shown.now c.self.view_is c.self.invariant.0 c.requires.known c.requires.some c.requires.few in
    let steps = steps_of c.self.inside.objects.items c.deref.result.now c.deref-2.result.now c.deref-3.result.now c.args.self.now c.in_ok-shown.shown (view_ids c.args.shown.now) c.in_ok-marks.marks c.in_ok-numbers.field-0.numbers c.in_ok-chain.chain.numbers
    c.in_ok-numbers.field-0.params c.in_ok-numbers.field-0.inputs c.in_ok-chain.chain.lets c.in_ok-fields.fields.value c.in_ok-body.body.value c.len.result
    c.deref.ensures.value c.deref-2.ensures.value c.deref-3.ensures.value c.self.view_is c.in_ok-shown.ensures c.len.ensures c.in_ok-marks.ensures c.in_ok-numbers.ensures c.in_ok-chain.ensures c.in_ok-fields.ensures c.in_ok-body.ensures in
    let p : ProgramTree = record { params = c.in_ok-numbers.field-0.params; body = c.in_ok-body.body.value } in
    let form = program_is c.args.self.now (view_ids c.args.shown.now) c.in_ok-marks.marks c.in_ok-numbers.field-0.numbers c.in_ok-chain.chain.numbers c.in_ok-numbers.field-0.params c.in_ok-numbers.field-0.inputs c.in_ok-chain.chain.lets c.in_ok-fields.fields.value c.in_ok-body.body.value steps in
    is_accepted laws c.args.self.now (view_ids c.args.shown.now) p may form

pub returns : goal.returns
returns c =
    let laws : Laws = record {
      program = c.objects_make_one_program.ensures.program;
      accepted = c.objects_make_one_program.ensures.accepted;
      typed = c.objects_make_one_program.ensures.typed;
      arguments = c.objects_make_one_program.ensures.arguments;
      loops = c.objects_make_one_program.ensures.loops;
      whole = c.one_program_means_the_objects.ensures.whole;
      fault = c.one_program_means_the_objects.ensures.fault;
      value = c.one_program_means_the_objects.ensures.value;
    } in
    let may = may_be c.self.inside.objects.items c.args.self.now c.args.shown.now c.self.view_is c.self.invariant.0 c.requires.known c.requires.some c.requires.few in
    let steps = steps_of c.self.inside.objects.items c.deref.result.now c.deref-2.result.now c.deref-3.result.now c.args.self.now c.in_ok-shown.shown (view_ids c.args.shown.now) c.in_ok-marks.marks c.in_ok-numbers.field-0.numbers c.in_ok-chain.chain.numbers
    c.in_ok-numbers.field-0.params c.in_ok-numbers.field-0.inputs c.in_ok-chain.chain.lets c.in_ok-fields.fields.value c.in_ok-body.body.value c.len.result
    c.deref.ensures.value c.deref-2.ensures.value c.deref-3.ensures.value c.self.view_is c.in_ok-shown.ensures c.len.ensures c.in_ok-marks.ensures c.in_ok-numbers.ensures c.in_ok-chain.ensures c.in_ok-fields.ensures c.in_ok-body.ensures in
    let p : ProgramTree = record { params = c.in_ok-numbers.field-0.params; body = c.in_ok-body.body.value } in
    let form = program_is c.args.self.now (view_ids c.args.shown.now) c.in_ok-marks.marks c.in_ok-numbers.field-0.numbers c.in_ok-chain.chain.numbers c.in_ok-numbers.field-0.params c.in_ok-numbers.field-0.inputs c.in_ok-chain.chain.lets c.in_ok-fields.fields.value c.in_ok-body.body.value steps in
    let ids = inputs_are c.args.self.now (view_ids c.args.shown.now) c.in_ok-marks.marks c.in_ok-numbers.field-0.numbers c.in_ok-chain.chain.numbers c.in_ok-numbers.field-0.params c.in_ok-numbers.field-0.inputs c.in_ok-chain.chain.lets c.in_ok-fields.fields.value c.in_ok-body.body.value steps in
    is_lowered laws c.args.self.now (view_ids c.args.shown.now) p c.in_ok-numbers.field-0.inputs may form ids
