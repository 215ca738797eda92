use Rattle.std.proofs.Common.{◌≡◌, ◌∙◌, map, subst, sym, ap}
use Rattle.weld_data.specs.View.{view_val}
use Rattle.weld_text_pieces.specs.Joined.{AreValues, ArePieces}
use Rattle.weld_text_pieces.proofs.Whole.{joined, mapped_some, all_places}
use Rattle.weld_text_pieces.proofs.reading.nested.read_nested.Goals as goal

pub returns-then-fill_pieces : goal.returns-then-fill_pieces
returns-then-fill_pieces g c =
    let t = c.args.ty.now in
    let filled = c.fill_pieces.new.places in
    let same : c.from_vec.result ≡ map view_val filled = c.from_vec.ensures ∙ ap (map view_val) (all_places c.in_ok-places.places.len filled _ (c.fill_pieces.auto.places ∙ c.as_mut_slice.ensures.len)) in
    let are = subst (λ ps. ArePieces t (map (λ p. p.now) ps) (map view_val filled)) c.as_slice-3.ensures.value (c.fill_pieces.ensures c.if-fill_pieces.true) in
    subst (AreValues t c.args.text.now) (sym same)
    (subst (λ x. AreValues t x (map view_val filled)) (sym c.in_ok-pieces.ensures.pieces)
    (joined t (λ p q vs ws. c.plain_values_join_at_commas.ensures t p q vs ws c.requires.plain) _ (map view_val filled) (mapped_some (λ p. p.now) _ c.in_ok-pieces.ensures.some) are))
