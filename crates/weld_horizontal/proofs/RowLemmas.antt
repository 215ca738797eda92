-- Rows rebuilt, as lists.
use Rattle.std.proofs.Common.{◌≡◌, ℕ, zero, suc, ◌+◌, true, false, ◌&&◌, Option, Some, None, is_some, ◌<◌, ◌≤◌, List, [], ◌∷◌, ◌++◌, length, take, drop, get_or, map, refl, sym, ap, ◌∙◌, arith}
use Rattle.std.specs.List.{insert, remove}
use Rattle.std.proofs.lemmas.List.{take_more, take_all, length-take-le, at_drop_more, drop_all, length-map}
use Rattle.weld_tree.specs.declared.place.Place.{Place}
use Rattle.weld_tree.specs.TypeTree.{TypeTree, TypeTrees, struct, more_types, pack}
use Rattle.weld_tree.specs.ExprTree.{ExprTree, LegTree, leaf, one, name, field, pack_exprs, pack_legs, more_exprs, more_legs}
use Rattle.weld_tree.specs.ExprView.{view_leg}
use Rattle.weld_tree.specs.declared.expr.Leg.{Leg}
use Rattle.weld_substitution.specs.Redex.{is_plain}
use Rattle.weld_horizontal.specs.Picked.{all_plain, has_nth, nth_or}
use Rattle.weld_horizontal.specs.declared.places.LegPlaces.{LegPlaces}
use Rattle.weld_horizontal.specs.Doubles.{as_places}
use Rattle.weld_horizontal.specs.Twice.{node_of, item_at, items_from, items, leg_item, without_leg, type_at, with_type, with_expr}

-- ---- the items of a row

abbrev pub field_list : Place → ℕ → TypeTrees → ℕ → List TypeTree → List ExprTree
field_list place x all n [] = []
field_list place x all n (u ∷ us) = item_at place x all n u ∷ field_list place x all (suc n) us

pub packed_fields : (place : Place) (x : ℕ) (all : TypeTrees) (n : ℕ) (us : List TypeTree) → pack_exprs (field_list place x all n us) ≡ items_from place x all n (pack us)
packed_fields place x all n [] = refl
packed_fields place x all n (u ∷ us) = ap (more_exprs (item_at place x all n u)) (packed_fields place x all (suc n) us)

pub length_fields : (place : Place) (x : ℕ) (all : TypeTrees) (n : ℕ) (us : List TypeTree) → length (field_list place x all n us) ≡ length us
length_fields place x all n [] = refl
length_fields place x all n (u ∷ us) = ap suc (length_fields place x all (suc n) us)

fields_push : (place : Place) (x : ℕ) (all : TypeTrees) (n : ℕ) (us : List TypeTree) (u : TypeTree) (m : ℕ) → m ≡ n + length us → field_list place x all n (us ++ u ∷ []) ≡ field_list place x all n us ++ item_at place x all m u ∷ []
fields_push place x all n [] u m p = let e : n ≡ m = omega arith in ap (λ k. item_at place x all k u ∷ []) e
fields_push place x all n (v ∷ us) u m p = ap (λ es. item_at place x all n v ∷ es) (fields_push place x all (suc n) us u m (omega arith))

pub fields_more : (place : Place) (x : ℕ) (all : TypeTrees) (us : List TypeTree) (i : ℕ) (u : TypeTree) → i < length us → u ≡ get_or us i u
    → field_list place x all 0 (take (i + 1) us) ≡ field_list place x all 0 (take i us) ++ item_at place x all i u ∷ []
fields_more place x all us i u h p =
    let e : length (take i us) ≡ i = length-take-le i us (omega arith) in
    ap (field_list place x all 0) (take_more us i u h) ∙ fields_push place x all 0 (take i us) (get_or us i u) i (omega arith)
    ∙ ap (λ v. field_list place x all 0 (take i us) ++ item_at place x all i v ∷ []) (sym p)

-- ---- one more at a place

pub insert_expr : (es : List ExprTree) (i : ℕ) (e : ExprTree) → i ≤ length es → pack_exprs (insert es i e) ≡ with_expr i e (pack_exprs es)
insert_expr [] zero e h = refl
insert_expr (f ∷ es) zero e h = refl
insert_expr [] (suc i) e h = absurd (omega arith)
insert_expr (f ∷ es) (suc i) e h = ap (more_exprs f) (insert_expr es i e (omega arith))

pub insert_type : (ts : List TypeTree) (i : ℕ) (t : TypeTree) → i ≤ length ts → pack (insert ts i t) ≡ with_type i t (pack ts)
insert_type [] zero t h = refl
insert_type (u ∷ ts) zero t h = refl
insert_type [] (suc i) t h = absurd (omega arith)
insert_type (u ∷ ts) (suc i) t h = ap (more_types u) (insert_type ts i t (omega arith))

pub type_there : (ts : List TypeTree) (i : ℕ) (t : TypeTree) → i < length ts → t ≡ get_or ts i t → t ≡ type_at i (pack ts)
type_there [] i t h p = absurd (omega arith)
type_there (u ∷ ts) zero t h p = p
type_there (u ∷ ts) (suc i) t h p = type_there ts i t (omega arith) p

-- ---- the legs

pub packed_items : (ls : List Leg) → pack (map (λ l. leg_item (view_leg l)) ls) ≡ items (pack_legs (map view_leg ls))
packed_items [] = refl
packed_items (l ∷ ls) = ap (more_types (leg_item (view_leg l))) (packed_items ls)

pub remove_leg_is : (ls : List Leg) (n : ℕ) → n < length ls → pack_legs (map view_leg (remove ls n)) ≡ without_leg n (pack_legs (map view_leg ls))
remove_leg_is [] n h = absurd (omega arith)
remove_leg_is (l ∷ ls) zero h = refl
remove_leg_is (l ∷ ls) (suc n) h = ap (more_legs (view_leg l)) (remove_leg_is ls n (omega arith))

pub removed : (ls now : List Leg) (n : ℕ) (old : List LegTree) → map view_leg ls ≡ old → n < length old → now ≡ remove ls n → pack_legs (map view_leg now) ≡ without_leg n (pack_legs old)
removed ls now n old e h p =
    let same : length ls ≡ length old = sym (length-map ls view_leg) ∙ ap length e in
    ap (λ (ks : List Leg). pack_legs (map view_leg ks)) p ∙ remove_leg_is ls n (omega arith) ∙ ap (λ (ks : List LegTree). without_leg n (pack_legs ks)) e

-- ---- the items of a row, all of them

pub item_few : (place : Place) (x : ℕ) (us : List TypeTree) (n : ℕ) (u : TypeTree) → length us < 2 → item_at place x (pack us) n u ≡ leaf (node_of place u) (name x)
item_few place x [] n u h = refl
item_few place x (t ∷ []) n u h = refl
item_few place x (t ∷ s ∷ us) n u h = absurd (omega arith)

pub item_many : (place : Place) (x : ℕ) (us : List TypeTree) (n : ℕ) (u : TypeTree) → 2 ≤ length us → item_at place x (pack us) n u ≡ one (node_of place u) (field n) (leaf (node_of place (struct (pack us))) (name x))
item_many place x [] n u h = absurd (omega arith)
item_many place x (t ∷ []) n u h = absurd (omega arith)
item_many place x (t ∷ s ∷ us) n u h = refl

pub fields_all : (place : Place) (x : ℕ) (all : TypeTrees) (us : List TypeTree) (i : ℕ) → length us ≤ i → pack_exprs (field_list place x all 0 (take i us)) ≡ items_from place x all 0 (pack us)
fields_all place x all us i h = ap (λ ts. pack_exprs (field_list place x all 0 ts)) (take_all i us h) ∙ packed_fields place x all 0 us

pub fields_length : (place : Place) (x : ℕ) (all : TypeTrees) (us : List TypeTree) (i : ℕ) → length us ≤ i → length (field_list place x all 0 (take i us)) ≡ length us
fields_length place x all us i h = ap (λ ts. length (field_list place x all 0 ts)) (take_all i us h) ∙ length_fields place x all 0 us

pub items_all : (ls : List Leg) (i : ℕ) → length ls ≤ i → pack (map (λ l. leg_item (view_leg l)) (take i ls)) ≡ items (pack_legs (map view_leg ls))
items_all ls i h = ap (λ (ks : List Leg). pack (map (λ l. leg_item (view_leg l)) ks)) (take_all i ls h) ∙ packed_items ls

-- ---- plain expressions of a list

pub plain_there : (es : List ExprTree) (i : ℕ) (e : ExprTree) → i < length es → e ≡ get_or es i e → is_plain e ≡ true → all_plain (pack_exprs (drop i es)) ≡ all_plain (pack_exprs (drop (i + 1) es))
plain_there es i e h p q =
    at_drop_more (λ rest. all_plain (pack_exprs rest)) es i e h ∙ ap (λ (u : ExprTree). is_plain u && all_plain (pack_exprs (drop (i + 1) es))) (sym p)
    ∙ ap (λ b. b && all_plain (pack_exprs (drop (i + 1) es))) q

pub plain_missing : (es : List ExprTree) (i : ℕ) (e : ExprTree) → i < length es → e ≡ get_or es i e → is_plain e ≡ false → all_plain (pack_exprs (drop i es)) ≡ false
plain_missing es i e h p q =
    at_drop_more (λ rest. all_plain (pack_exprs rest)) es i e h ∙ ap (λ (u : ExprTree). is_plain u && all_plain (pack_exprs (drop (i + 1) es))) (sym p)
    ∙ ap (λ b. b && all_plain (pack_exprs (drop (i + 1) es))) q

pub plain_all : (es : List ExprTree) (i : ℕ) → length es ≤ i → all_plain (pack_exprs (drop i es)) ≡ true
plain_all es i h = ap (λ rest. all_plain (pack_exprs rest)) (drop_all i es h)

-- ---- one of a list

pub nth_there : (es : List ExprTree) (n : ℕ) → n < length es → has_nth n (pack_exprs es) ≡ true
nth_there [] n h = absurd (omega arith)
nth_there (e ∷ es) zero h = refl
nth_there (e ∷ es) (suc n) h = nth_there es n (omega arith)

pub nth_missing : (es : List ExprTree) (n : ℕ) → length es ≤ n → has_nth n (pack_exprs es) ≡ false
nth_missing [] n h = refl
nth_missing (e ∷ es) zero h = absurd (omega arith)
nth_missing (e ∷ es) (suc n) h = nth_missing es n (omega arith)

pub nth_below : (es : List ExprTree) (n : ℕ) → has_nth n (pack_exprs es) ≡ true → n < length es
nth_below [] n h = let wrong : ⊥ = cc in absurd wrong
nth_below (e ∷ es) zero h = omega arith
nth_below (e ∷ es) (suc n) h = let k = nth_below es n h in omega arith

pub nth_read : (es : List ExprTree) (n : ℕ) (x d : ExprTree) → n < length es → x ≡ get_or es n x → x ≡ nth_or d n (pack_exprs es)
nth_read [] n x d h p = absurd (omega arith)
nth_read (e ∷ es) zero x d h p = p
nth_read (e ∷ es) (suc n) x d h p = nth_read es n x d (omega arith) p

-- ---- places as the code has them

pub some_places : (o : Option LegPlaces) → is_some (as_places o) ≡ is_some o
some_places None = refl
some_places (Some p) = refl
