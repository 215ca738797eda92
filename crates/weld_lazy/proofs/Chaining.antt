-- Calls as lets, one after another.
use Rattle.std.proofs.Common.{◌≡◌, ℕ, zero, suc, ◌+◌, ◌<◌, ◌≤◌, Bool, true, false, if◌then◌else◌, List, [], ◌∷◌, ◌++◌, length, map, drop, get_or, Option, Some, None, refl, ap, sym, subst, ◌∙◌, arith}
use Rattle.std.proofs.lemmas.List.{length-map, get_or-map}
use Rattle.weld_tree.specs.TypeTree.{TypeTree}
use Rattle.weld_tree.specs.ExprTree.{ExprTree, let_in}
use Rattle.weld_tree.specs.Blank.{blank_at}
use Rattle.weld_tree.specs.Program.{ProgramTree, bound}
use Rattle.weld_objects.specs.Objects as objects
use Rattle.weld_objects.specs.Objects.{given, call, with_one}
use Rattle.weld_objects.specs.Lowered.{new_binder, placed_body, lets, shown_struct}
use Rattle.weld_lazy.specs.View.{view_object, view_let}
use Rattle.weld_lazy.specs.declared.calls.LetPart.{LetPart}
use Rattle.weld_lazy.specs.Lowering.{chained, binders_at, binders_from, HasCount, HaveCounts}
use Rattle.weld_lazy.specs.declared.object.Object.{Object}
use Rattle.weld_lazy.proofs.Numbering.{rest_at, rest_end}

chained-append : (ls : List (ℕ × ExprTree)) (n : ℕ) (e body : ExprTree) → chained (ls ++ (n, e) ∷ []) body ≡ chained ls (let_in blank_at (new_binder n None) e body)
chained-append [] n e body = refl
chained-append (l ∷ ls) n e body = ap (let_in blank_at (new_binder l.0 None) l.1) (chained-append ls n e body)

-- a call that is kept
pub call_passed : (keep : ℕ → Bool) (id next : ℕ) (t : TypeTree) (ids : List ℕ) (p : ProgramTree) (shown : List ℕ) (os : List objects.Object) (old new : ℕ → ℕ) (ls more : List (ℕ × ExprTree)) (n : ℕ) → keep id ≡ true
    → more ≡ ls ++ (next, placed_body (suc next) (map old ids) p) ∷ [] → n ≡ suc next + length (bound p.body) → ((k : ℕ) → new k ≡ with_one id next old k)
    → chained more (lets keep (suc id) n new shown os) ≡ chained ls (lets keep id next old shown (call t ids p ∷ os))
call_passed keep id next t ids p shown os old new ls more n on e f g =
    let same : new ≡ with_one id next old = (λ i k. g k i) in
    (λ i. chained (e i) (lets keep (suc id) (f i) (same i) shown os))
    ∙ chained-append ls next (placed_body (suc next) (map old ids) p) (lets keep (suc id) (suc next + length (bound p.body)) (with_one id next old) shown os)
    ∙ (λ i. chained ls (if sym on i then let_in blank_at (new_binder next None) (placed_body (suc next) (map old ids) p) (lets keep (suc id) (suc next + length (bound p.body)) (with_one id next old) shown os) else lets keep (suc id) next old shown os))

pub call_skipped : (keep : ℕ → Bool) (id next : ℕ) (t : TypeTree) (ids : List ℕ) (p : ProgramTree) (shown : List ℕ) (os : List objects.Object) (old : ℕ → ℕ) (ls : List (ℕ × ExprTree)) → keep id ≡ false
    → chained ls (lets keep (suc id) next old shown os) ≡ chained ls (lets keep id next old shown (call t ids p ∷ os))
call_skipped keep id next t ids p shown os old ls off =
    λ i. chained ls (if sym off i then let_in blank_at (new_binder next None) (placed_body (suc next) (map old ids) p) (lets keep (suc id) (suc next + length (bound p.body)) (with_one id next old) shown os) else lets keep (suc id) next old shown os)

pub binders_kept : (keep : ℕ → Bool) (id : ℕ) (t : TypeTree) (ids : List ℕ) (p : ProgramTree) → keep id ≡ true → binders_at keep id (call t ids p) ≡ suc (length (bound p.body))
binders_kept keep id t ids p on = λ i. if on i then suc (length (bound p.body)) else 0

pub binders_skipped : (keep : ℕ → Bool) (id : ℕ) (t : TypeTree) (ids : List ℕ) (p : ProgramTree) → keep id ≡ false → binders_at keep id (call t ids p) ≡ 0
binders_skipped keep id t ids p off = λ i. if off i then suc (length (bound p.body)) else 0

-- ---- in a list

pub count_at : (items : List Object) (i : ℕ) (o d : Object) → i < length items → o ≡ get_or items i d → HaveCounts (map view_object items) → HasCount (view_object o)
count_at [] i o d h e c = absurd (omega (arith, h))
count_at (x ∷ xs) zero o d h e c = subst_count e c.0
  where
    subst_count : o ≡ x → HasCount (view_object x) → HasCount (view_object o)
    subst_count p q = subst (λ y. HasCount (view_object y)) (sym p) q
count_at (x ∷ xs) (suc i) o d h e c = count_at xs i o d (omega (arith, h)) e c.1

-- what is left to number
pub binders_next : (keep : ℕ → Bool) (items : List Object) (i j next more : ℕ) (o d : Object) → i < length items → o ≡ get_or items i d → i + 1 ≡ j → more ≡ next + binders_at keep i (view_object o)
    → more + binders_from keep j (drop j (map view_object items)) ≡ next + binders_from keep i (drop i (map view_object items))
binders_next keep items i j next more o d h e z m =
    let y : j ≡ suc i = omega (arith, z) in
    let w : binders_from keep j (drop j (map view_object items)) ≡ binders_from keep (suc i) (drop (suc i) (map view_object items)) = (λ k. binders_from keep (y k) (drop (y k) (map view_object items))) in
    let r : binders_from keep i (drop i (map view_object items)) ≡ binders_at keep i (view_object o) + binders_from keep (suc i) (drop (suc i) (map view_object items)) =
    (λ k. binders_from keep i (rest_at items i d h k)) ∙ (λ k. binders_at keep i (view_object (sym e k)) + binders_from keep (suc i) (drop (suc i) (map view_object items))) in
    omega (arith, w, r, m)

pub room_at : (keep : ℕ → Bool) (items : List Object) (i next first : ℕ) (o d : Object) → i < length items → o ≡ get_or items i d → next + binders_from keep i (drop i (map view_object items)) ≡ first + binders_from keep 0 (map view_object items) → first + binders_from keep 0 (map view_object items) < 4294967295
    → next + binders_at keep i (view_object o) < 4294967295
room_at keep items i next first o d h e s room =
    let r : binders_from keep i (drop i (map view_object items)) ≡ binders_at keep i (view_object o) + binders_from keep (suc i) (drop (suc i) (map view_object items)) =
    (λ k. binders_from keep i (rest_at items i d h k)) ∙ (λ k. binders_at keep i (view_object (sym e k)) + binders_from keep (suc i) (drop (suc i) (map view_object items))) in
    omega (arith, r, s, room)

pub lets_next : (keep : ℕ → Bool) (items : List Object) (i j n m : ℕ) (o d : Object) (old new : ℕ → ℕ) (ls more : List (ℕ × ExprTree)) (whole : List ℕ → ExprTree) → i < length items → o ≡ get_or items i d → i + 1 ≡ j
    → ((shown : List ℕ) → chained ls (lets keep i n old shown (drop i (map view_object items))) ≡ whole shown)
    → ((shown : List ℕ) (os : List objects.Object) → chained more (lets keep (suc i) m new shown os) ≡ chained ls (lets keep i n old shown (view_object o ∷ os)))
    → (shown : List ℕ) → chained more (lets keep j m new shown (drop j (map view_object items))) ≡ whole shown
lets_next keep items i j n m o d old new ls more whole h e z was step shown =
    let y : j ≡ suc i = omega (arith, z) in
    (λ k. chained more (lets keep (y k) m new shown (drop (y k) (map view_object items)))) ∙ step shown (drop (suc i) (map view_object items))
    ∙ (λ k. chained ls (lets keep i n old shown (view_object (e k) ∷ drop (suc i) (map view_object items)))) ∙ (λ k. chained ls (lets keep i n old shown (sym (rest_at items i d h) k))) ∙ was shown

pub lets_end : (keep : ℕ → Bool) (items : List Object) (i n : ℕ) (numbers : ℕ → ℕ) (ls : List (ℕ × ExprTree)) (whole : List ℕ → ExprTree) → length items ≤ i
    → ((shown : List ℕ) → chained ls (lets keep i n numbers shown (drop i (map view_object items))) ≡ whole shown) → (shown : List ℕ) → chained ls (shown_struct numbers shown) ≡ whole shown
lets_end keep items i n numbers ls whole h was shown = (λ k. chained ls (lets keep i n numbers shown (sym (rest_end items i h) k))) ∙ was shown

-- ---- the innermost first

pub one_wrapped : (rest all : List LetPart) (part : LetPart) (inner e whole : ExprTree) → all ≡ rest ++ part ∷ [] → e ≡ let_in blank_at (new_binder part.number None) part.body.value inner → chained (map view_let all) inner ≡ whole → chained (map view_let rest) e ≡ whole
one_wrapped rest all part inner e whole p q h =
    (λ i. chained (map view_let rest) (q i)) ∙ sym (chained-append (map view_let rest) part.number part.body.value inner) ∙ (λ i. chained (sym (map-append rest part) i) inner) ∙ (λ i. chained (map view_let (sym p i)) inner) ∙ h
  where
    map-append : (xs : List LetPart) (x : LetPart) → map view_let (xs ++ x ∷ []) ≡ map view_let xs ++ view_let x ∷ []
    map-append [] x = refl
    map-append (y ∷ ys) x = ap (λ r. view_let y ∷ r) (map-append ys x)
