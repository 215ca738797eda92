-- Elements taken one after another.
use Rattle.std.proofs.Common.{◌≡◌, ℕ, zero, suc, Some, List, [], ◌∷◌, ◌++◌, ◌+◌, add-one, map, take, length, slice_get, ap, sym, refl, ◌∙◌}
use Rattle.std.proofs.lemmas.List.{map-append}
use Rattle.weld_data.specs.Value.{Value}
use Rattle.weld_data.specs.View.{view_val}
use Rattle.weld_data.specs.declared.value.Val.{Val}

one_more : (cs : List Value) (i : ℕ) (v : Value) → slice_get cs i ≡ Some v → take i cs ++ v ∷ [] ≡ take (suc i) cs
one_more [] i v e = let no : ⊥ = cc in absurd no
one_more (c ∷ cs) zero v e = let same : v ≡ c = cc in ap (λ x. x ∷ []) same
one_more (c ∷ cs) (suc i) v e = ap (λ l. c ∷ l) (one_more cs i v e)

pub taken_more : (cs : List Value) (i : ℕ) (vs new : List Val) (v : Val) → new ≡ vs ++ v ∷ [] → map view_val vs ≡ take i cs → slice_get cs i ≡ Some (view_val v) → map view_val new ≡ take (i + 1) cs
taken_more cs i vs new v is so at =
    ap (map view_val) is ∙ map-append view_val vs (v ∷ []) ∙ ap (λ l. l ++ view_val v ∷ []) so ∙ one_more cs i (view_val v) at ∙ ap (λ n. take n cs) (sym (add-one i))

pub taken_all : (cs : List Value) → take (length cs) cs ≡ cs
taken_all [] = refl
taken_all (c ∷ cs) = ap (λ l. c ∷ l) (taken_all cs)
