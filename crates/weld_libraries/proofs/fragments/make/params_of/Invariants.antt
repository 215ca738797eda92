use Rattle.std.proofs.Common.{◌≡◌, ◌++◌, drop}
use Rattle.weld_calls.specs.CallPrograms.{params_from}
use Rattle.weld_libraries.proofs.fragments.make.params_of.Given as goal

abbrev pub invariant-loop-ty : goal.invariant-loop-ty
invariant-loop-ty l = record {
  count : l.number ≡ l.ty-index;
  so_far : l.params ++ params_from l.ty-index (drop l.ty-index l.types) ≡ params_from 0 l.types;
}
