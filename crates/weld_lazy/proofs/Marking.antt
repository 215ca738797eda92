-- Marks, one after another.
use Rattle.std.proofs.Common.{◌≡◌, ◌≢◌, ℕ, zero, suc, ◌+◌, ◌-◌, ◌<◌, ◌≤◌, ◌==◌, ◌||◌, Bool, true, false, cond, if◌then◌else◌, List, [], ◌∷◌, length, map, drop, get_or, Option, Some, None, is_some, refl, ap, sym, ◌∙◌, inl, inr, ◌⊎◌, arith, eq-eqb, ne_eqb}
use Rattle.std.proofs.lemmas.Bool.{cases_eq}
use Rattle.std.proofs.lemmas.List.{length-map, get_or-map}
use Rattle.std.specs.Ordering.{nat_cmp, is_eq}
use Rattle.std.specs.Cmp.{unsigned_tied}
use Rattle.std.specs.Map.{lookup}
use Rattle.std.specs.BTreeMap.{is_at}
use Rattle.weld_meaning.specs.Environment.{Named, look_for}
use Rattle.weld_objects.specs.Objects as objects
use Rattle.weld_objects.specs.Objects.{given, call}
use Rattle.weld_objects.specs.Reached.{is_one_of, with_used, reached_from}
use Rattle.weld_lazy.specs.View.{view_object}
use Rattle.weld_lazy.specs.Lowering.{marks_of}
use Rattle.weld_lazy.specs.declared.object.Object.{Object}

pub looked_up : (k : ℕ) (es : List (ℕ × Bool)) → lookup (is_at (nat_cmp k)) es ≡ look_for k es
looked_up k [] = refl
looked_up k (e ∷ es) = (λ i. cond (unsigned_tied k e.0 i) (Some e.1) (looked_up k es i)) ∙ by (k == e.0)
  where
    by : (c : Bool) → cond c (Some e.1) (look_for k es) ≡ (if c then Some e.1 else look_for k es)
    by true = refl
    by false = refl

turned : (a b : ℕ) → (a == b) ≡ (b == a)
turned a b = by (cases_eq a b)
  where
    by : (a ≡ b) ⊎ (a ≢ b) → (a == b) ≡ (b == a)
    by (inl e) = eq-eqb a b e ∙ sym (eq-eqb b a (sym e))
    by (inr ne) = ne_eqb a b ne ∙ sym (ne_eqb b a (λ e. ne (sym e)))

-- after an insertion
pub marked_more : (old new : List (ℕ × Bool)) (id : ℕ) → ((q : ℕ) → lookup (is_at (nat_cmp q)) new ≡ cond (is_at (nat_cmp id) q) (Some true) (lookup (is_at (nat_cmp q)) old))
    → (k : ℕ) → marks_of new k ≡ ((k == id) || marks_of old k)
marked_more old new id h k =
    ap is_some (sym (looked_up k new) ∙ h k ∙ (λ i. cond ((unsigned_tied id k ∙ turned id k) i) (Some true) (looked_up k old i))) ∙ by (k == id)
  where
    by : (c : Bool) → is_some (cond c (Some true) (look_for k old)) ≡ (c || is_some (look_for k old))
    by true = refl
    by false = refl

-- ---- one more of a list

drop_at : {A : Type 0} (xs : List A) (i : ℕ) (d : A) → i < length xs → drop i xs ≡ get_or xs i d ∷ drop (suc i) xs
drop_at [] i d h = absurd (omega (arith, h))
drop_at (x ∷ xs) zero d h = refl
drop_at (x ∷ xs) (suc i) d h = drop_at xs i d (omega (arith, h))

drop_end : {A : Type 0} (xs : List A) (i : ℕ) → length xs ≤ i → drop i xs ≡ []
drop_end [] zero h = refl
drop_end [] (suc i) h = refl
drop_end (x ∷ xs) zero h = absurd (omega (arith, h))
drop_end (x ∷ xs) (suc i) h = drop_end xs i (omega (arith, h))

pub none_yet : (ids : List ℕ) (k : ℕ) (old : Bool) → old ≡ (is_one_of (drop (length ids) ids) k || old)
none_yet ids k old = λ i. is_one_of (sym (drop_end ids (length ids) (omega arith)) i) k || old

or_assoc : (a b c : Bool) → (a || (b || c)) ≡ ((a || b) || c)
or_assoc true b c = refl
or_assoc false b c = refl

pub one_marked : (ids : List ℕ) (place before : ℕ) (first later new : ℕ → Bool) (id d : ℕ) → place < length ids → before ≡ suc place → id ≡ get_or ids place d
    → ((k : ℕ) → later k ≡ (is_one_of (drop before ids) k || first k)) → ((k : ℕ) → new k ≡ ((k == id) || later k)) → (k : ℕ) → new k ≡ (is_one_of (drop place ids) k || first k)
one_marked ids place before first later new id d h b e old step k =
    step k ∙ (λ i. (k == e i) || old k i) ∙ (λ i. (k == get_or ids place d) || (is_one_of (drop (b i) ids) k || first k))
    ∙ or_assoc (k == get_or ids place d) (is_one_of (drop (suc place) ids) k) (first k) ∙ (λ i. is_one_of (sym (drop_at ids place d h) i) k || first k)

-- ---- one object after another, from the last

pub reach_start : (os : List Object) (shown : List ℕ) (marks : Named Bool) → ((k : ℕ) → marks_of marks k ≡ (is_one_of shown k || false)) → (k : ℕ) → marks_of marks k ≡ reached_from (length os) (drop (length os) (map view_object os)) (is_one_of shown) k
reach_start os shown marks h k =
    h k ∙ or_none (is_one_of shown k) ∙ (λ i. reached_from (length os) (sym (drop_end (map view_object os) (length os) (omega (arith, length-map os view_object))) i) (is_one_of shown) k)
  where
    or_none : (b : Bool) → (b || false) ≡ b
    or_none true = refl
    or_none false = refl

used_alike : (id : ℕ) (o : objects.Object) (first second : ℕ → Bool) (k : ℕ) → ((j : ℕ) → first j ≡ second j) → with_used id o first k ≡ with_used id o second k
used_alike id (given t v) first second k h = h k
used_alike id (call t ids p) first second k h = λ i. if h id i then is_one_of ids k || h k i else h k i

pub reach_one : (os : List Object) (id before : ℕ) (d : Object) (marks old new : ℕ → Bool) → id < length os → before ≡ suc id → ((k : ℕ) → old k ≡ reached_from before (drop before (map view_object os)) marks k)
    → ((k : ℕ) → new k ≡ with_used id (view_object (get_or os id d)) old k) → (k : ℕ) → new k ≡ reached_from id (drop id (map view_object os)) marks k
reach_one os id before d marks old new h b was step k =
    step k ∙ used_alike id (view_object (get_or os id d)) old (reached_from before (drop before (map view_object os)) marks) k was
    ∙ (λ i. with_used id (view_object (get_or os id d)) (reached_from (b i) (drop (b i) (map view_object os)) marks) k)
    ∙ (λ i. with_used id (sym (get_or-map view_object os id d (view_object d) h) i) (reached_from (suc id) (drop (suc id) (map view_object os)) marks) k)
    ∙ (λ i. reached_from id (sym (drop_at (map view_object os) id (view_object d) (omega (arith, h, length-map os view_object))) i) marks k)
