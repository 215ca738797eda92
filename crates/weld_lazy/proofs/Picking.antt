-- What is picked in the end.
use Rattle.std.proofs.Common.{◌≡◌, ◌≤◌, ℕ, suc, Bool, true, false, if◌then◌else◌, List, [], ◌∷◌, ◌++◌, map, refl, ap, sym, ◌∙◌, append-nil, arith, eq-eqb, ne_eqb}
use Rattle.weld_tree.specs.TypeTree.{TypeTree}
use Rattle.weld_data.specs.Value.{Value}
use Rattle.weld_objects.specs.Objects as objects
use Rattle.weld_objects.specs.Objects.{given, call}
use Rattle.weld_objects.specs.Lowered.{kept_values, inputs_of}
use Rattle.weld_lazy.specs.View.{view_object}
use Rattle.weld_lazy.specs.Inputs.{picked}
use Rattle.weld_lazy.specs.declared.object.Object.{Object}

same_map : {A : Type 0} (xs : List A) → map (λ (y : A). y) xs ≡ xs
same_map [] = refl
same_map (x ∷ xs) = ap (λ r. x ∷ r) (same_map xs)

pub picked_all : (items yielded : List Object) (now : List objects.Object) (ids left : List ℕ) (values : List Value) (id : ℕ) → map (λ (y : Object). y) yielded ≡ items → map view_object items ≡ now
    → ((os : List objects.Object) → picked 0 (map view_object yielded ++ os) ids ≡ values ++ picked id os left) → values ≡ picked 0 now ids
picked_all items yielded now ids left values id e p h =
    sym (append-nil values) ∙ sym (h []) ∙ (λ i. picked 0 (append-nil (map view_object yielded) i) ids) ∙ (λ i. picked 0 (map view_object ((sym (same_map yielded) ∙ e) i)) ids) ∙ (λ i. picked 0 (p i) ids)

-- ---- the inputs of a lowered program

-- each of them is that id at least
abbrev AreFrom : ℕ → List ℕ → Type 0
AreFrom id [] = Unit {0}
AreFrom id (k ∷ ks) = (id ≤ k) × AreFrom id ks

from_less : (id : ℕ) (ks : List ℕ) → AreFrom (suc id) ks → AreFrom id ks
from_less id [] h = tt
from_less id (k ∷ ks) h = (omega (arith, h.0), from_less id ks h.1)

kept_from : (keep : ℕ → Bool) (id : ℕ) (os : List objects.Object) → AreFrom id (kept_values keep id os)
kept_from keep id [] = tt
kept_from keep id (given t v ∷ os) = by (keep id) (from_less id (kept_values keep (suc id) os) (kept_from keep (suc id) os))
  where
    by : (c : Bool) → AreFrom id (kept_values keep (suc id) os) → AreFrom id (if c then id ∷ kept_values keep (suc id) os else kept_values keep (suc id) os)
    by true k = (omega arith, k)
    by false k = k
kept_from keep id (call t ids p ∷ os) = from_less id (kept_values keep (suc id) os) (kept_from keep (suc id) os)

past : (id : ℕ) (t : TypeTree) (v : Value) (os : List objects.Object) (ks : List ℕ) → AreFrom (suc id) ks → picked id (given t v ∷ os) ks ≡ picked (suc id) os ks
past id t v os [] h = refl
past id t v os (k ∷ ks) h = rw (ne_eqb k id (λ e. omega (arith, h.0, e))) refl

pub picked_inputs : (keep : ℕ → Bool) (id : ℕ) (os : List objects.Object) → picked id os (kept_values keep id os) ≡ inputs_of keep id os
picked_inputs keep id [] = refl
picked_inputs keep id (given t v ∷ os) = by (keep id) (picked_inputs keep (suc id) os)
  where
    here : picked id (given t v ∷ os) (id ∷ kept_values keep (suc id) os) ≡ v ∷ picked (suc id) os (kept_values keep (suc id) os)
    here = rw (eq-eqb id id refl) refl

    by : (c : Bool) → picked (suc id) os (kept_values keep (suc id) os) ≡ inputs_of keep (suc id) os → picked id (given t v ∷ os) (if c then id ∷ kept_values keep (suc id) os else kept_values keep (suc id) os) ≡ (if c then v ∷ inputs_of keep (suc id) os else inputs_of keep (suc id) os)
    by true k = here ∙ ap (λ r. v ∷ r) k
    by false k = past id t v os (kept_values keep (suc id) os) (kept_from keep (suc id) os) ∙ k
picked_inputs keep id (call t ids p ∷ os) = picked_inputs keep (suc id) os
