use Rattle.std.proofs.Common.{◌<◌, ℤ, List, take, ap, sym, subst, arith}
use Rattle.weld_builders.specs.Range.{AllInRange}
use Rattle.weld_eval.specs.ThingView.{thing_of}
use Rattle.weld_deeds.proofs.ManyPuts.{taken_length, all_in_range, put_all}
use Rattle.weld_deeds.proofs.puts.put_numbers.Goals as goal

pub slice_bounds-merge_numbers-end : goal.slice_bounds-merge_numbers-end
slice_bounds-merge_numbers-end c =
    let some : 0 < c.args.count = omega (arith, c.if-count-eq0.false) in
    taken_length c.args.numbers.now c.args.count (thing_of c.args.builder.now) c.deref.result.now c.requires.fits some c.deref.ensures.value

pub merge_numbers-requires-clause-numbers : goal.merge_numbers-requires-clause-numbers
merge_numbers-requires-clause-numbers c =
    subst (λ (xs : List ℤ). AllInRange c.args.numbers.now.kind (take c.args.count xs)) (sym c.deref.ensures.value)
    (all_in_range c.args.numbers.now.kind c.args.numbers.now.items.items c.args.count c.requires.narrow c.args.numbers.now.in_range)

pub returns : goal.returns
returns c =
    put_all c.merge_numbers.result c.args.numbers.now c.args.count (thing_of c.args.builder.now) c.in-Built.built c.merge_numbers.new.self c.deref.result.now c.requires.narrow (ap thing_of c.in-Built.is) c.deref.ensures.value c.requires.fits c.merge_numbers.ensures
