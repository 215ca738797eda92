-- The types of a call's arguments.
use Rattle.std.proofs.Common.{◌≡◌, ◌≤◌, ◌<◌, ℕ, zero, suc, List, [], ◌∷◌, length, get_or, refl, arith}
use Rattle.weld_tree.specs.TypeTree.{TypeTree, struct, no_types}
use Rattle.weld_calls.specs.declared.call.Call.{Call}
use Rattle.weld_calls.specs.CallTypes.{row, argument, FitsCall}

pub few_arguments : (call : Call) (types : List TypeTree) → ((c : Call) → length (row c) ≤ 3) → FitsCall call types → length types < 4294967295
few_arguments call types short h = omega (arith, h.count, short call)

-- an argument as std finds it
pub argument_is : (n : ℕ) (ts : List TypeTree) → argument n ts ≡ get_or ts n (struct no_types)
argument_is n [] = refl
argument_is zero (t ∷ ts) = refl
argument_is (suc n) (t ∷ ts) = argument_is n ts
