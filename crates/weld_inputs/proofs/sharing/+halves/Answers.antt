use Rattle.std.proofs.Common.{◌+◌, length, refl, rules}
use Rattle.weld_inputs.specs.Claims.{IsReading}
use Rattle.weld_inputs.proofs.Claims.{both_read, first_stops, later_stops}
use Rattle.weld_inputs.proofs.sharing.+halves.Goals as goal

pub read_halves-returns-clause-values : goal.read_halves-returns-clause-values
read_halves-returns-clause-values g t c =
    let second = c.args.first + length c.args.front.now in
    let front : IsReading c.args.front.now c.args.first c.join_mut-values.result.0 = search rules in
    let back : IsReading c.args.back.now second c.join_mut-values.result.1 = search rules in
    let read = c.both.ensures c.args.front.now c.args.back.now c.args.first second refl front back in
    read.0

pub read_halves-returns-clause-unfit : goal.read_halves-returns-clause-unfit
read_halves-returns-clause-unfit g t c =
    let second = c.args.first + length c.args.front.now in
    let front : IsReading c.args.front.now c.args.first c.join_mut-values.result.0 = search rules in
    let back : IsReading c.args.back.now second c.join_mut-values.result.1 = search rules in
    let read = c.both.ensures c.args.front.now c.args.back.now c.args.first second refl front back in
    read.1

pub read_in_turn-returns-in-Err-clause-unfit : goal.read_in_turn-returns-in-Err-clause-unfit
read_in_turn-returns-in-Err-clause-unfit g t c = first_stops c.args.front.now c.args.back.now c.args.first c.in-Err.stop c.in-Err.ensures.unfit

pub read_in_turn-returns-in-Ok-read_shared-clause-values :
    goal.read_in_turn-returns-in-Ok-read_shared-clause-values
read_in_turn-returns-in-Ok-read_shared-clause-values g t c =
    let read = both_read c.args.front.now c.args.back.now c.in-Ok.values c.in-Ok-read_shared.more c.args.first c.append.result
    c.in-Ok.ensures.values c.in-Ok-read_shared.ensures.values c.append.ensures.values c.append.ensures.memory in
    read.0

pub read_in_turn-returns-in-Err-read_shared-clause-unfit :
    goal.read_in_turn-returns-in-Err-read_shared-clause-unfit
read_in_turn-returns-in-Err-read_shared-clause-unfit g t c =
    later_stops c.args.front.now c.args.back.now c.in-Ok.values c.args.first (c.args.first + length c.args.front.now) c.in-Err-read_shared.stop refl
    c.in-Ok.ensures.values c.in-Err-read_shared.ensures.unfit
