use Rattle.std.proofs.Common.{map, refl, ap, arith}
use Rattle.weld_data.specs.declared.kind.Kind.TheVariants as kinds
use Rattle.weld_data.specs.Value.{number}
use Rattle.weld_data.specs.declared.value.Column.TheVariants as columns
use Rattle.weld_deeds.proofs.ListLemmas.{i64_list_are}
use Rattle.weld_deeds.proofs.lists.i64_list.Goals as goal

pub returns : goal.returns
returns c =
    i64_list_are _ (columns.I64 c.from_vec.result) c.args.columns.now c.columns.i c.args.place c.columns.words.items (omega arith) c.columns.invariant.words (ap (map (number kinds.I64)) c.from_vec.ensures) refl c.requires.alike
