-- Values numbered, one after another.
use Rattle.std.proofs.Common.{◌≡◌, ℕ, zero, suc, ◌+◌, ◌<◌, ◌≤◌, Bool, true, false, if◌then◌else◌, List, [], ◌∷◌, ◌++◌, length, map, drop, get_or, Option, Some, None, Result, Ok, Err, OnOk, refl, ap, sym, ◌∙◌, arith, append_assoc, append-nil, length-append}
use Rattle.std.proofs.lemmas.List.{length-map, get_or-map}
use Rattle.weld_tree.specs.declared.binder.Binder.{Binder}
use Rattle.weld_tree.specs.TypeTree.{TypeTree}
use Rattle.weld_data.specs.Value.{Value}
use Rattle.weld_objects.specs.Objects as objects
use Rattle.weld_objects.specs.Objects.{given, call, with_one}
use Rattle.weld_objects.specs.Lowered.{new_binder, kept_values, params_of, value_numbers}
use Rattle.weld_objects.specs.Numbering.{number_in}
use Rattle.weld_lazy.specs.View.{view_object}
use Rattle.weld_lazy.specs.Lowering.{numbered}
use Rattle.weld_lazy.specs.declared.object.Object.{Object}

-- a value that is kept
pub value_passed : (keep : ℕ → Bool) (id : ℕ) (t : TypeTree) (v : Value) (os : List objects.Object) (old new : ℕ → ℕ) (params later : List Binder) (inputs more : List ℕ) → keep id ≡ true
    → ((k : ℕ) → new k ≡ with_one id (length inputs) old k) → later ≡ params ++ new_binder (length inputs) (Some t) ∷ [] → more ≡ inputs ++ id ∷ []
    → numbered keep id (given t v ∷ os) old params inputs ≡ numbered keep (suc id) os new later more
value_passed keep id t v os old new params later inputs more on numbers p q =
    let n = length inputs in
    let one : suc n ≡ length more = (let l : length more ≡ length inputs + 1 = ap length q ∙ length-append inputs (id ∷ []) in omega (arith, l)) in
    let same : with_one id n old ≡ new = (λ i k. sym (numbers k) i) in
    (λ i. (
      (if on i then value_numbers keep (suc id) (suc n) os (with_one id n old) else value_numbers keep (suc id) n os old),
      (
        params ++ (if on i then new_binder n (Some t) ∷ params_of keep (suc id) (suc n) os else params_of keep (suc id) n os),
        inputs ++ (if on i then id ∷ kept_values keep (suc id) os else kept_values keep (suc id) os),
      ),
    ))
    ∙ (λ i. (
      value_numbers keep (suc id) (one i) os (same i),
      (sym (append_assoc params (new_binder n (Some t) ∷ []) (params_of keep (suc id) (suc n) os)) i, sym (append_assoc inputs (id ∷ []) (kept_values keep (suc id) os)) i),
    ))
    ∙ (λ i. (value_numbers keep (suc id) (length more) os new, (sym p i ++ params_of keep (suc id) (one i) os, sym q i ++ kept_values keep (suc id) os)))

pub value_skipped : (keep : ℕ → Bool) (id : ℕ) (t : TypeTree) (v : Value) (os : List objects.Object) (numbers : ℕ → ℕ) (params : List Binder) (inputs : List ℕ) → keep id ≡ false
    → numbered keep id (given t v ∷ os) numbers params inputs ≡ numbered keep (suc id) os numbers params inputs
value_skipped keep id t v os numbers params inputs off =
    let n = length inputs in
    λ i. (
      (if off i then value_numbers keep (suc id) (suc n) os (with_one id n numbers) else value_numbers keep (suc id) n os numbers),
      (
        params ++ (if off i then new_binder n (Some t) ∷ params_of keep (suc id) (suc n) os else params_of keep (suc id) n os),
        inputs ++ (if off i then id ∷ kept_values keep (suc id) os else kept_values keep (suc id) os),
      ),
    )

-- ---- in a list

drop_at : {A : Type 0} (xs : List A) (i : ℕ) (d : A) → i < length xs → drop i xs ≡ get_or xs i d ∷ drop (suc i) xs
drop_at [] i d h = absurd (omega (arith, h))
drop_at (x ∷ xs) zero d h = refl
drop_at (x ∷ xs) (suc i) d h = drop_at xs i d (omega (arith, h))

drop_end : {A : Type 0} (xs : List A) (i : ℕ) → length xs ≤ i → drop i xs ≡ []
drop_end [] zero h = refl
drop_end [] (suc i) h = refl
drop_end (x ∷ xs) zero h = absurd (omega (arith, h))
drop_end (x ∷ xs) (suc i) h = drop_end xs i (omega (arith, h))

-- the objects from one on, in plain data
pub rest_at : (items : List Object) (i : ℕ) (d : Object) → i < length items → drop i (map view_object items) ≡ view_object (get_or items i d) ∷ drop (suc i) (map view_object items)
rest_at items i d h =
    drop_at (map view_object items) i (view_object d) (omega (arith, h, length-map items view_object)) ∙ ap (λ o. o ∷ drop (suc i) (map view_object items)) (get_or-map view_object items i d (view_object d) h)

pub rest_end : (items : List Object) (i : ℕ) → length items ≤ i → drop i (map view_object items) ≡ []
rest_end items i h = drop_end (map view_object items) i (omega (arith, h, length-map items view_object))

pub values_next : (keep : ℕ → Bool) (items : List Object) (i j : ℕ) (d : Object) (whole : (ℕ → ℕ) × (List Binder × List ℕ)) (old new : ℕ → ℕ) (params later : List Binder) (inputs more : List ℕ) → i < length items → i + 1 ≡ j
    → whole ≡ numbered keep i (drop i (map view_object items)) old params inputs
    → ((os : List objects.Object) → numbered keep i (view_object (get_or items i d) ∷ os) old params inputs ≡ numbered keep (suc i) os new later more)
    → whole ≡ numbered keep j (drop j (map view_object items)) new later more
values_next keep items i j d whole old new params later inputs more h e was step =
    let z : suc i ≡ j = omega (arith, e) in
    was ∙ (λ k. numbered keep i (rest_at items i d h k) old params inputs) ∙ step (drop (suc i) (map view_object items)) ∙ (λ k. numbered keep (z k) (drop (z k) (map view_object items)) new later more)

pub values_end : (keep : ℕ → Bool) (items : List Object) (i : ℕ) (whole : (ℕ → ℕ) × (List Binder × List ℕ)) (numbers : ℕ → ℕ) (params : List Binder) (inputs : List ℕ) → length items ≤ i
    → whole ≡ numbered keep i (drop i (map view_object items)) numbers params inputs → whole ≡ (numbers, (params, inputs))
values_end keep items i whole numbers params inputs h was =
    was ∙ (λ k. numbered keep i (rest_end items i h k) numbers params inputs) ∙ (λ k. (numbers, (append-nil params k, append-nil inputs k)))

-- where nothing is numbered yet
pub values_start : (keep : ℕ → Bool) (os : List objects.Object) (numbers : List (ℕ × ℕ)) (params : List Binder) (inputs : List ℕ) → numbers ≡ [] → params ≡ [] → inputs ≡ []
    → numbered keep 0 os (λ id. id) [] [] ≡ numbered keep 0 os (number_in numbers) params inputs
values_start keep os numbers params inputs p q r = sym (λ k. numbered keep 0 os (number_in (p k)) (q k) (r k))

pub on_ok : {A E : Type 0} (P Q : Type 0) (r : Result A E) → (P → Q) → OnOk r P → OnOk r Q
on_ok P Q (Ok x) f h = f h
on_ok P Q (Err e) f h = h

pub one_longer : (xs ys : List ℕ) (x : ℕ) → ys ≡ xs ++ x ∷ [] → length ys ≤ length xs + 1
one_longer xs ys x e = let l : length ys ≡ length xs + 1 = ap length e ∙ length-append xs (x ∷ []) in omega (arith, l)

pub on_ok_three : {A E : Type 0} (P Q R S : Type 0) (r : Result A E) → (P → Q → R → S) → OnOk r P → OnOk r Q → OnOk r R → OnOk r S
on_ok_three P Q R S (Ok x) f p q h = f p q h
on_ok_three P Q R S (Err e) f p q h = h
