use Rattle.std.proofs.Common.{arith, ap, length}
use Rattle.weld_read_script.proofs.Few.{placed_few, ids_few}
use Rattle.weld_read_script.proofs.steps.known.Known.add_request.Goals as goal

pub wished-requires : goal.wished-requires
wished-requires c =
    omega (arith, ap length c.as_slice-2.ensures, placed_few c.args.self.now c.place.new.self c.as_slice.result.now c.in_ok-ids.ensures.known, ap length c.as_slice.ensures, c.requires.few)

pub add_call-requires-clause-few : goal.add_call-requires-clause-few
add_call-requires-clause-few c =
    omega (arith, placed_few c.args.self.now c.place.new.self c.as_slice.result.now c.in_ok-ids.ensures.known, ap length c.as_slice.ensures, c.requires.few)

pub add_call-requires-clause-short : goal.add_call-requires-clause-short
add_call-requires-clause-short c =
    omega (arith, ids_few (length c.args.self.now.made) c.as_slice.result.now c.in_ok-ids.ids c.in_ok-ids.ensures.numbers, ap length c.as_slice.ensures, c.requires.few)
