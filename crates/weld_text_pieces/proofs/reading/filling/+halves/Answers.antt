use Rattle.weld_text_pieces.proofs.Whole.{halves_joined}
use Rattle.weld_text_pieces.proofs.reading.filling.+halves.Goals as goal

pub fill_pieces-returns : goal.fill_pieces-returns
fill_pieces-returns g t c = λ e.
    halves_joined (λ p. p.now) g.F.FillsPlaces.value (g.F.FillsPlaces.form c.args.fills.now) _ c.args.pieces.now c.split_at.result.0.now c.split_at.result.1.now
    c.fill_halves.new.low c.fill_halves.new.high c.split_at.ensures.front c.split_at.ensures.back (c.fill_halves.ensures.first e) (c.fill_halves.ensures.last e)
