use Rattle.std.proofs.Common.{◌∷◌, [], length, ap, refl, ◌∙◌}
use Rattle.weld_data.specs.Structs.{structs_in}
use Rattle.weld_pieces.specs.Items.{items_of_list}
use Rattle.weld_built.proofs.RowLemmas.{pairs_kept, pairs_are, appended_as}
use Rattle.weld_built.proofs.rows.push_pairs.Goals as goal

pub push_rows-requires : goal.push_rows-requires
push_rows-requires c =
    pairs_kept c.args.key_kind c.args.kind _ c.args.keys.now c.args.numbers.now c.deref.result.now c.requires.narrow_key c.requires.narrow c.requires.keys c.requires.numbers c.requires.count refl (c.deref.ensures.value ∙ c.in_ok-words.ensures)

pub returns : goal.returns
returns c =
    let same = ap (structs_in (length c.args.keys.now) (c.args.key_kind ∷ c.args.kind ∷ [])) (c.deref.ensures.value ∙ c.in_ok-words.ensures) ∙ pairs_are c.args.key_kind c.args.kind c.args.keys.now c.args.numbers.now c.requires.count in
    appended_as c.push_rows.result (items_of_list c.push_rows.new.list) (items_of_list c.args.list.now) _ _ same c.push_rows.ensures
