use Rattle.std.proofs.KnownBytes.{Consumes-trans}
use Rattle.weld_job.proofs.read.read_bytes.Goals as goal

pub returns-in-Err-extend_from_slice-clause-taken :
    goal.returns-in-Err-extend_from_slice-clause-taken
returns-in-Err-extend_from_slice-clause-taken g c =
    (_, Consumes-trans _ _ _ _ _ c.loop-piece.invariant.0 c.in-Ok-read.ensures.bytes)
