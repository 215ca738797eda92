use Rattle.std.proofs.Common.{ℤ, List, ◌<◌, length, sym, subst, ◌∙◌, arith}
use Rattle.weld_blocks.proofs.StructLemmas.{longer_at}
use Rattle.weld_blocks.proofs.TurnLemmas.{words_written}
use Rattle.weld_blocks.proofs.turning.put_row.Goals as goal

pub word_at-requires : goal.word_at-requires
word_at-requires c =
    subst (λ (xs : List ℤ). c.args.place < length xs) (sym c.deref.ensures.value)
    (longer_at c.args.columns.now c.loop-k.k c.args.place c.index-columns-k.result c.requires.there (omega (arith, c.loop-k-test.true)) c.index-columns-k.is)

pub returns : goal.returns
returns c = words_written c.args.columns.now c.loop-k.row c.loop-k.k c.args.place (c.loop-k.auto.row ∙ c.requires.long) (omega (arith, c.loop-k-test.false)) c.loop-k.invariant
