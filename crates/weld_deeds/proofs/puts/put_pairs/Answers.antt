use Rattle.std.proofs.Common.{◌<◌, ◌≤◌, ℤ, List, length, take, ap, sym, subst, arith}
use Rattle.weld_builders.specs.Range.{AllInRange}
use Rattle.weld_eval.specs.ThingView.{thing_of}
use Rattle.weld_deeds.proofs.ManyPuts.{all_in_range}
use Rattle.weld_deeds.proofs.ManyPairs.{pairs_taken, pairs_put}
use Rattle.weld_deeds.proofs.puts.put_pairs.Goals as goal

pub merge_pairs-requires-clause-keys : goal.merge_pairs-requires-clause-keys
merge_pairs-requires-clause-keys c =
    subst (λ (xs : List ℤ). AllInRange c.args.keys.now.kind (take c.rows_of-rows.result xs)) (sym c.deref.ensures.value)
    (all_in_range c.args.keys.now.kind c.args.keys.now.items.items c.rows_of-rows.result c.requires.narrow_key c.args.keys.now.in_range)

pub merge_pairs-requires-clause-numbers : goal.merge_pairs-requires-clause-numbers
merge_pairs-requires-clause-numbers c =
    subst (λ (xs : List ℤ). AllInRange c.args.numbers.now.kind (take c.rows_of-rows.result xs)) (sym c.deref-in-Built.ensures.value)
    (all_in_range c.args.numbers.now.kind c.args.numbers.now.items.items c.rows_of-rows.result c.requires.narrow c.args.numbers.now.in_range)

pub merge_pairs-requires-clause-items : goal.merge_pairs-requires-clause-items
merge_pairs-requires-clause-items c =
    let some : 0 < c.args.count = omega (arith, c.if-count-eq0.false) in
    pairs_taken c.args.keys.now c.args.numbers.now c.args.count (thing_of c.args.builder.now) c.in-Built.built (ap thing_of c.in-Built.is) c.requires.fits some

pub returns : goal.returns
returns c =
    let rows = c.rows_of-rows.result in
    let keys : rows ≤ length c.args.keys.now.items.items = omega (arith, c.rows_of-rows.ensures.keys, c.len.ensures) in
    let numbers : rows ≤ length c.args.numbers.now.items.items = omega (arith, c.rows_of-rows.ensures.numbers, c.len-2.ensures) in
    pairs_put c.merge_pairs.result c.args.keys.now c.args.numbers.now c.args.count rows (thing_of c.args.builder.now) c.in-Built.built c.merge_pairs.new.self c.deref.result.now c.deref-in-Built.result.now
    c.requires.narrow_key c.requires.narrow (ap thing_of c.in-Built.is) c.deref.ensures.value c.deref-in-Built.ensures.value c.rows_of-rows.ensures.asked keys numbers
    (λ p q s. c.rows_of-rows.ensures.all p (omega (arith, q, c.len.ensures)) (omega (arith, s, c.len-2.ensures))) c.requires.fits c.merge_pairs.ensures
