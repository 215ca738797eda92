-- How deep the parts of a value are.
use Rattle.std.proofs.Common.{◌≡◌, ℕ, ◌<◌, ◌≤◌, zero, suc, List, [], ◌∷◌, slice_get, Some, ap, arith}
use Rattle.weld_data.specs.declared.value.Val.{Val}
use Rattle.weld_data.specs.declared.value.Pairs.TheDeep.{deep-Val}
use Rattle.weld_data.specs.Value.{Value}
use Rattle.weld_data.specs.Depth.{depth, depth_of_list, depth_of_pairs}
use Rattle.weld_data.specs.Deeper.{deep-Val-le}
use Rattle.weld_data.specs.View.{view_val}

-- an element is less deep than its list
pub depth-at : (vs : List Value) (i : ℕ) (v : Value) → slice_get vs i ≡ Some v → depth v < depth_of_list vs
depth-at [] i v p = cc
depth-at (w ∷ vs) zero v p = let e : w ≡ v = cc in let d = ap depth e in omega arith
depth-at (w ∷ vs) (suc i) v p = let h = depth-at vs i v p in omega arith

-- and a key or its value less deep than their dictionary
pub depth-key_at : (es : List (Value × Value)) (i : ℕ) (e : Value × Value) → slice_get es i ≡ Some e → depth e.0 < depth_of_pairs es
depth-key_at [] i e p = cc
depth-key_at (d ∷ es) zero e p = let h : d ≡ e = cc in let g = ap (λ (x : Value × Value). depth x.0) h in omega arith
depth-key_at (d ∷ es) (suc i) e p = let h = depth-key_at es i e p in omega arith

pub depth-value_at : (es : List (Value × Value)) (i : ℕ) (e : Value × Value) → slice_get es i ≡ Some e → depth e.1 < depth_of_pairs es
depth-value_at [] i e p = cc
depth-value_at (d ∷ es) zero e p = let h : d ≡ e = cc in let g = ap (λ (x : Value × Value). depth x.1) h in omega arith
depth-value_at (d ∷ es) (suc i) e p = let h = depth-value_at es i e p in omega arith

-- a value of the code that stands for an element of the list is no deeper than the list
pub deep-Val-in : (vs : List Value) (i : ℕ) (v : Val) → slice_get vs i ≡ Some (view_val v) → deep-Val v ≤ depth_of_list vs
deep-Val-in vs i v p = let d = depth-at vs i (view_val v) p in let h = deep-Val-le v in omega arith
