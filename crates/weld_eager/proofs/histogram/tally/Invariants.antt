use Rattle.weld_data.specs.declared.kind.Kind.TheVariants as kinds
use Rattle.weld_builders.specs.Range.{AllInRange}
use Rattle.weld_eager.proofs.Tallying.{TalliedSoFar}
use Rattle.weld_eager.proofs.histogram.tally.Given as goal

abbrev pub invariant-loop-x : goal.invariant-loop-x
invariant-loop-x l = TalliedSoFar l.fn.starts.items l.places l.x-index l.cells.items × AllInRange kinds.I64 l.cells.items
