use Rattle.weld_tokens.proofs.Reading.{Advanced}
use Rattle.weld_tokens.proofs.place.place_after.Given as goal

abbrev pub invariant-loop-byte : goal.invariant-loop-byte
invariant-loop-byte l = Advanced l.fn.place l.here l.bytes l.byte-index
