use Rattle.weld_data.specs.declared.kind.Kind.TheVariants as kinds
use Rattle.weld_pieces_tests.proofs.keyed.finished.Goals as goal

pub into_pairs-requires-clause-one_type : goal.into_pairs-requires-clause-one_type
into_pairs-requires-clause-one_type c = c.number_keys_have_one_type.ensures kinds.I64 c.args.part.numbers c.requires.kept
