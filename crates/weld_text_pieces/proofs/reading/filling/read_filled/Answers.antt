use Rattle.std.proofs.Common.{◌≡◌, ◌∙◌, map, subst, sym}
use Rattle.weld_tree.specs.TypeTree.{scalar}
use Rattle.weld_text_pieces.specs.Joined.{AreValues, ArePieces}
use Rattle.weld_text_pieces.proofs.Whole.{joined, mapped_some, all_places}
use Rattle.weld_text_pieces.proofs.reading.filling.read_filled.Goals as goal

pub returns-then-fill_pieces : goal.returns-then-fill_pieces
returns-then-fill_pieces g c =
    let t = scalar g.T.Cell.kind in
    let filled = c.fill_pieces.new.places in
    let same : c.from_vec.result ≡ filled = c.from_vec.ensures ∙ all_places c.in_ok-places.places.len filled _ (c.fill_pieces.auto.places ∙ c.as_mut_slice.ensures.len) in
    let are = subst (λ ps. ArePieces t (map (λ p. p.now) ps) (map g.T.Cell.value filled)) c.as_slice-3.ensures.value (c.fill_pieces.ensures c.if-fill_pieces.true) in
    subst (λ xs. AreValues t c.args.text.now (map g.T.Cell.value xs)) (sym same)
    (subst (λ x. AreValues t x (map g.T.Cell.value filled)) (sym c.in_ok-pieces.ensures.pieces)
    (joined t (c.scalars_join_at_commas.ensures.joined g.T.Cell.kind) _ (map g.T.Cell.value filled) (mapped_some (λ p. p.now) _ c.in_ok-pieces.ensures.some) are))
