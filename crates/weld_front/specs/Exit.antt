-- The exit numbers of the program.
use Rattle.std.specs.Prelude.{ℕ}
use Rattle.weld_front.specs.declared.status.Status.{Status}
use Rattle.weld_front.specs.declared.status.Status.TheVariants.{Done, Fault, Words, Refused, Unfit, Read, Write, Memory}

abbrev pub exit_of : Status → ℕ
exit_of Done = 0
exit_of Fault = 1
exit_of Words = 2
exit_of Refused = 3
exit_of Unfit = 4
exit_of Read = 5
exit_of Write = 6
exit_of Memory = 7
