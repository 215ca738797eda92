use Rattle.std.proofs.Common.{◌≡◌, suc, drop, None}
use Rattle.weld_calls.specs.CallTypes.{row, misfit_from}
use Rattle.weld_calls.proofs.misfit.misfit_of_row.Given as goal

abbrev pub invariant-loop-ty : goal.invariant-loop-ty
invariant-loop-ty l = record {
  count : l.place ≡ l.ty-index;
  left : misfit_from l.known (suc l.place) (drop l.place (row l.call)) (drop l.ty-index l.types) ≡ misfit_from None 1 (row l.call) l.types;
}
