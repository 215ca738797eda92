use Rattle.weld_text_pieces.proofs.Commas.{pushed_more, pushed_last}
use Rattle.weld_text_pieces.proofs.reading.cutting.cut_pieces.Goals as goal

pub loop-piece-preserved : goal.loop-piece-preserved
loop-piece-preserved c = pushed_more (λ p. p.now) c.loop-piece.pieces.items c.push.new.self.items c.in-Some.piece c.args.text.now c.loop-piece.rest.now c.in-Some.more.now c.in_ok-push.ensures.items c.loop-piece.invariant c.in-Some.ensures.parts

pub returns-clause-pieces : goal.returns-clause-pieces
returns-clause-pieces c = pushed_last (λ p. p.now) c.loop-piece.pieces.items c.push-2.new.self.items c.loop-piece.rest c.args.text.now c.in_ok-push-2.ensures.items c.loop-piece.invariant
