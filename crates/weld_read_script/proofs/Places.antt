-- Arguments and fields by their numbers.
use Rattle.std.proofs.Common.{◌≡◌, ℕ, zero, suc, List, [], ◌∷◌, get_or, refl}
use Rattle.weld_tree.specs.TypeTree.{TypeTree, struct, no_types, pack}
use Rattle.weld_calls.specs.CallTypes.{argument, nth_type, or_itself, column_of}

-- an argument as std finds it
pub argument_is : (n : ℕ) (ts : List TypeTree) → argument n ts ≡ get_or ts n (struct no_types)
argument_is n [] = refl
argument_is zero (t ∷ ts) = refl
argument_is (suc n) (t ∷ ts) = argument_is n ts

-- a field as std finds it
nth_is : (n : ℕ) (ts : List TypeTree) (d : TypeTree) → or_itself (nth_type n (pack ts)) d ≡ get_or ts n d
nth_is n [] d = refl
nth_is zero (t ∷ ts) d = refl
nth_is (suc n) (t ∷ ts) d = nth_is n ts d

pub column_is : (n : ℕ) (ts : List TypeTree) → column_of n (struct (pack ts)) ≡ get_or ts n (struct (pack ts))
column_is n ts = nth_is n ts (struct (pack ts))
