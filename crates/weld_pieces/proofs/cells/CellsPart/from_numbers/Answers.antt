use Rattle.std.proofs.Common.{sym, subst}
use Rattle.weld_builders.specs.Range.{AllInRange}
use Rattle.weld_pieces.proofs.CellLemmas.{words_are}
use Rattle.weld_pieces.proofs.cells.CellsPart.from_numbers.Goals as goal

pub invariant_of-result : goal.invariant_of-result
invariant_of-result c = record {
  integer = c.requires.integer;
  in_range = subst (AllInRange c.args.kind) (sym (words_are c.args.kind c.args.cells.items c.requires.narrow)) c.requires.in_range;
}

pub returns-clause-cells : goal.returns-clause-cells
returns-clause-cells c = words_are c.args.kind c.args.cells.items c.requires.narrow
