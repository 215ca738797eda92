use Rattle.std.proofs.Common.{refl, sym}
use Rattle.weld_turns.specs.StepView.{words_of}
use Rattle.weld_turns.proofs.OnRows.{one_kept, one_more}
use Rattle.weld_turns.proofs.on_rows.put_row.Goals as goal

pub loop-k-preserved : goal.loop-k-preserved
loop-k-preserved c = record {
  there = one_more (words_of c.loop-k.words) (words_of c.put_one.new.words) c.args.at c.loop-k.k _ c.args.row.now (sym c.in-Ok.ensures) refl c.loop-k.invariant.there;
  kept = one_kept (words_of c.loop-k.words) (words_of c.put_one.new.words) (words_of c.args.words.now) c.args.at c.loop-k.k _ (sym c.in-Ok.ensures) c.loop-k.invariant.kept;
}
