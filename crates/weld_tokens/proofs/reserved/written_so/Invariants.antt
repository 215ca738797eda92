use Rattle.std.proofs.Common.{◌≡◌, drop}
use Rattle.weld_tokens.specs.Words.{written_so}
use Rattle.weld_tokens.proofs.reserved.written_so.Given as goal

abbrev pub invariant-loop-one : goal.invariant-loop-one
invariant-loop-one l = written_so l.word l.reserved ≡ written_so l.word (drop l.one-index l.reserved)
