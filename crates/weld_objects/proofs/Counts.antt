-- The binders of a lowered program are 0, 1, 2, .. in the order of the text, and its loops are those of the calls that are kept.
use Rattle.std.proofs.Common.{◌≡◌, ℕ, suc, ◌+◌, ◌≤◌, Bool, true, false, if◌then◌else◌, List, [], ◌∷◌, ◌++◌, map, length, Option, Some, None, IsSome, All, refl, ap, ◌∙◌, arith}
use Rattle.std.proofs.lemmas.List.Elements.{All-nil, All-cons}
use Rattle.weld_tree.specs.declared.binder.Binder.{Binder}
use Rattle.weld_tree.specs.TypeTree.{TypeTree}
use Rattle.weld_tree.specs.ExprTree.{ExprTree, leaf, name, pack_exprs, let_in}
use Rattle.weld_tree.specs.Program.{loops, loops_in, bound, bound_in, syms_of}
use Rattle.weld_tree.specs.Blank.{blank_at}
use Rattle.weld_objects.proofs.Trees.{loops_stay}
use Rattle.weld_objects.specs.Objects.{Object, given, call, with_one, AreObjectsFrom}
use Rattle.weld_objects.specs.Lowered.{new_binder, kept_values, params_of, placed, placed_body, lets, kept_loops, names_of}
use Rattle.weld_objects.proofs.Lists.{upward, upward-append}
use Rattle.weld_objects.proofs.Placing.{body_bound}

-- how many binders the lets have
abbrev pub lets_binders : (ℕ → Bool) → ℕ → List Object → ℕ
lets_binders keep id [] = 0
lets_binders keep id (given t v ∷ os) = lets_binders keep (suc id) os
lets_binders keep id (call t ids p ∷ os) = if keep id then suc (length (bound p.body) + lets_binders keep (suc id) os) else lets_binders keep (suc id) os

none_shown : (numbers : ℕ → ℕ) (shown : List ℕ) → bound_in (pack_exprs (map (λ k. leaf blank_at (name (numbers k))) shown)) ≡ []
none_shown numbers [] = refl
none_shown numbers (k ∷ ks) = none_shown numbers ks

no_loop_shown : (numbers : ℕ → ℕ) (shown : List ℕ) → loops_in (pack_exprs (map (λ k. leaf blank_at (name (numbers k))) shown)) ≡ 0
no_loop_shown numbers [] = refl
no_loop_shown numbers (k ∷ ks) = λ i. 0 + no_loop_shown numbers ks i

pub lets_bound : (keep : ℕ → Bool) (shown : List ℕ) (os : List Object) (id next : ℕ) (numbers : ℕ → ℕ) (types : ℕ → Option TypeTree) → AreObjectsFrom id types os → bound (lets keep id next numbers shown os) ≡ upward next (lets_binders keep id os)
lets_bound keep shown [] id next numbers types are = none_shown numbers shown
lets_bound keep shown (given t v ∷ os) id next numbers types are = lets_bound keep shown os (suc id) next numbers (with_one id (Some t) types) are.1
lets_bound keep shown (call t ids p ∷ os) id next numbers types are =
    by (keep id) (lets_bound keep shown os (suc id) (suc next + length (bound p.body)) (with_one id next numbers) (with_one id (Some t) types) are.1)
    (lets_bound keep shown os (suc id) next numbers (with_one id (Some t) types) are.1)
  where
    inner : ExprTree
    inner = lets keep (suc id) (suc next + length (bound p.body)) (with_one id next numbers) shown os

    by : (c : Bool) → bound inner ≡ upward (suc next + length (bound p.body)) (lets_binders keep (suc id) os) → bound (lets keep (suc id) next numbers shown os) ≡ upward next (lets_binders keep (suc id) os)
        → bound (if c then let_in blank_at (new_binder next None) (placed_body (suc next) (map numbers ids) p) inner else lets keep (suc id) next numbers shown os)
        ≡ upward next (if c then suc (length (bound p.body) + lets_binders keep (suc id) os) else lets_binders keep (suc id) os)
    by true k j =
        (λ i. next ∷ (body_bound (suc next) (map numbers ids) p are.0.program i ++ k i))
        ∙ ap (λ rest. next ∷ rest) (upward-append (suc next) (length (bound p.body)) (lets_binders keep (suc id) os))
    by false k j = j

pub params_bound : (keep : ℕ → Bool) (id n : ℕ) (os : List Object) → syms_of (params_of keep id n os) ≡ upward n (length (kept_values keep id os))
params_bound keep id n [] = refl
params_bound keep id n (given t v ∷ os) = by (keep id) (params_bound keep (suc id) (suc n) os) (params_bound keep (suc id) n os)
  where
    by : (c : Bool) → syms_of (params_of keep (suc id) (suc n) os) ≡ upward (suc n) (length (kept_values keep (suc id) os)) → syms_of (params_of keep (suc id) n os) ≡ upward n (length (kept_values keep (suc id) os))
        → syms_of (if c then new_binder n (Some t) ∷ params_of keep (suc id) (suc n) os else params_of keep (suc id) n os) ≡ upward n (length (if c then id ∷ kept_values keep (suc id) os else kept_values keep (suc id) os))
    by true k j = ap (λ rest. n ∷ rest) k
    by false k j = j
params_bound keep id n (call t ids p ∷ os) = params_bound keep (suc id) n os

pub params_noted : (keep : ℕ → Bool) (id n : ℕ) (os : List Object) → All (λ (b : Binder). IsSome b.note) (params_of keep id n os)
params_noted keep id n [] = All-nil (λ (b : Binder). IsSome b.note)
params_noted keep id n (given t v ∷ os) = by (keep id) (params_noted keep (suc id) (suc n) os) (params_noted keep (suc id) n os)
  where
    by : (c : Bool) → All (λ (b : Binder). IsSome b.note) (params_of keep (suc id) (suc n) os) → All (λ (b : Binder). IsSome b.note) (params_of keep (suc id) n os) → All (λ (b : Binder). IsSome b.note) (if c then new_binder n (Some t) ∷ params_of keep (suc id) (suc n) os else params_of keep (suc id) n os)
    by true k j = All-cons (λ (b : Binder). IsSome b.note) (new_binder n (Some t)) (params_of keep (suc id) (suc n) os) refl k
    by false k j = j
params_noted keep id n (call t ids p ∷ os) = params_noted keep (suc id) n os

-- no more binders than the names of all objects
pub count_of_binders : (keep : ℕ → Bool) (id : ℕ) (os : List Object) → length (kept_values keep id os) + lets_binders keep id os ≤ names_of os
count_of_binders keep id [] = omega arith
count_of_binders keep id (given t v ∷ os) = by (keep id) (count_of_binders keep (suc id) os)
  where
    by : (c : Bool) → length (kept_values keep (suc id) os) + lets_binders keep (suc id) os ≤ names_of os → length (if c then id ∷ kept_values keep (suc id) os else kept_values keep (suc id) os) + lets_binders keep (suc id) os ≤ 1 + names_of os
    by true k = omega (arith, k)
    by false k = omega (arith, k)
count_of_binders keep id (call t ids p ∷ os) = by (keep id) (count_of_binders keep (suc id) os)
  where
    by : (c : Bool) → length (kept_values keep (suc id) os) + lets_binders keep (suc id) os ≤ names_of os → length (kept_values keep (suc id) os) + (if c then suc (length (bound p.body) + lets_binders keep (suc id) os) else lets_binders keep (suc id) os) ≤ 1 + (length p.params + length (bound p.body)) + names_of os
    by true k = omega (arith, k)
    by false k = omega (arith, k)

pub lets_loops : (keep : ℕ → Bool) (shown : List ℕ) (os : List Object) (id next : ℕ) (numbers : ℕ → ℕ) → loops (lets keep id next numbers shown os) ≡ kept_loops keep id os
lets_loops keep shown [] id next numbers = no_loop_shown numbers shown
lets_loops keep shown (given t v ∷ os) id next numbers = lets_loops keep shown os (suc id) next numbers
lets_loops keep shown (call t ids p ∷ os) id next numbers =
    by (keep id) (lets_loops keep shown os (suc id) (suc next + length (bound p.body)) (with_one id next numbers)) (lets_loops keep shown os (suc id) next numbers)
  where
    inner : ExprTree
    inner = lets keep (suc id) (suc next + length (bound p.body)) (with_one id next numbers) shown os

    by : (c : Bool) → loops inner ≡ kept_loops keep (suc id) os → loops (lets keep (suc id) next numbers shown os) ≡ kept_loops keep (suc id) os
        → loops (if c then let_in blank_at (new_binder next None) (placed_body (suc next) (map numbers ids) p) inner else lets keep (suc id) next numbers shown os)
        ≡ (if c then loops p.body + kept_loops keep (suc id) os else kept_loops keep (suc id) os)
    by true k j = λ i. loops_stay (placed (suc next) p.params (map numbers ids) (bound p.body)) p.body i + k i
    by false k j = j
