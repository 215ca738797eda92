use Rattle.std.proofs.Common.{arith}
use Rattle.weld_pieces.proofs.TotalLemmas.{no_word_yet, word_there, integer_now, word_in_range, word_step, all_words, words_integers}
use Rattle.weld_pieces.proofs.totals.add_words.Goals as goal

pub loop-i-init : goal.loop-i-init
loop-i-init c = no_word_yet c.args.op c.args.totals.now c.args.words.now

pub bounds-words-i : goal.bounds-words-i
bounds-words-i c = word_there c.args.totals.now c.args.words.now c.loop-i.i c.requires.words (omega arith)

pub with_word-requires-clause-integer : goal.with_word-requires-clause-integer
with_word-requires-clause-integer c = integer_now c.args.op c.args.totals.now c.loop-i.totals c.args.words.now c.loop-i.i c.index-totals-i.result c.requires.integers c.requires.words (omega arith) c.loop-i.invariant c.index-totals-i.is

pub with_word-requires-clause-in_range : goal.with_word-requires-clause-in_range
with_word-requires-clause-in_range c = word_in_range c.args.op c.args.totals.now c.loop-i.totals c.args.words.now c.loop-i.i c.index-totals-i.result c.requires.words (omega arith) c.loop-i.invariant c.index-totals-i.is

pub loop-i-preserved : goal.loop-i-preserved
loop-i-preserved c =
    word_step c.args.op c.args.totals.now c.loop-i.totals c.args.words.now c.loop-i.i c.index-totals-i.result c.with_word.result
    (omega arith) c.requires.words c.loop-i.invariant c.index-totals-i.is c.with_word.ensures.kind c.with_word.ensures.value

pub returns-clause-totals : goal.returns-clause-totals
returns-clause-totals c = all_words c.args.op c.args.totals.now c.loop-i.totals c.args.words.now c.loop-i.i c.requires.words (omega arith) c.loop-i.invariant

pub returns-clause-integers : goal.returns-clause-integers
returns-clause-integers c = words_integers c.args.op c.args.totals.now c.loop-i.totals c.args.words.now c.loop-i.i c.requires.integers c.requires.words c.loop-i.invariant
