-- The first leg that another loop makes, in a list that is cut there, and the one loop, as the code makes it.
use Rattle.std.proofs.Common.{◌≡◌, ◌≢◌, ℕ, suc, ◌+◌, ◌<◌, ◌==◌, if◌then◌else◌, Bool, true, false, ◌&&◌, Some, None, option_map, List, [], ◌∷◌, ◌++◌, length, take, drop, get_or, map, IsTrue, ◌↔◌, refl, sym, ap, subst, ◌∙◌, arith, eqb-true}
use Rattle.std.proofs.lemmas.List.{length-take-le}
use Rattle.std.specs.Prelude.{not}
use Rattle.weld_tree.specs.declared.binder.Binder.{Binder}
use Rattle.weld_tree.specs.declared.expr.Leg.{Leg}
use Rattle.weld_tree.specs.declared.known.Known.{Known}
use Rattle.weld_tree.specs.declared.place.Place.{Place}
use Rattle.weld_tree.specs.TypeTree.{TypeTrees, struct}
use Rattle.weld_tree.specs.Types.{IsWithinLimits}
use Rattle.weld_tree.specs.ExprTree.{At, ExprTree, leaf, one, two, three, many, let_in, loop, iterate, LegTree, LegTrees, no_legs, more_legs, pack_legs}
use Rattle.weld_tree.specs.ExprView.{view_leg}
use Rattle.weld_meaning.specs.Names.{put}
use Rattle.weld_substitution.proofs.Following.{and_true}
use Rattle.weld_vertical.specs.Sinking.{starts_list}
use Rattle.weld_horizontal.specs.Twice.{items, count}
use Rattle.weld_handing.specs.Handing.{own_names, starts_none}
use Rattle.weld_handing.specs.Merging.{list_merges, always_merges}
use Rattle.weld_handing.proofs.Types.{not_so}
use Rattle.weld_vertical_zip.specs.Zipping.{types_behind, behind_leg, Sides, all_items, own_row, sides, producer_of, is_within_limits, fits_around}
use Rattle.weld_vertical_zip.specs.Zips.{own_items, is_loop, AreFew}
use Rattle.weld_vertical_zip.proofs.Finding.{none_behind, no_and, suc_of, not_first, parted, parts, limits_are}
use Rattle.weld_vertical_zip.proofs.Splicing.{cut_last, last_place, few_sides}
use Rattle.weld_vertical_zip_held.specs.Rule.{rebinds, merges_always, merges_each, makes_each, is_each_leg, first_each, zip_within, over_own, zip_joined, joined_around, zip_over, place_each, IsEachBy, IsCutEach}
use Rattle.weld_vertical_zip_held.proofs.PutHeld.{own_merges}

no_place : (ls : LegTrees) → place_each ls ≡ None → first_each ls ≡ None
no_place no_legs h = refl
no_place (more_legs l ls) h = by (is_each_leg l) h (no_place ls)
  where
    by : (c : Bool) → (if c then Some 0 else option_map suc (place_each ls)) ≡ None → (place_each ls ≡ None → first_each ls ≡ None) → (if c then Some (record { before = no_legs; leg = l; after = ls }) else option_map (behind_leg l) (first_each ls)) ≡ None
    by true h f = let nothing : ⊥ = cc in absurd nothing
    by false h f = none_behind l (place_each ls) (first_each ls) f h

pub none_each : (ls : LegTrees) (c : Bool) → None ≡ place_each ls → false ≡ (c && fits_around (first_each ls))
none_each ls c h = no_and c ∙ ap (λ o. c && fits_around o) (sym (no_place ls (sym h)))

-- ---- where the list is cut

pub record Cut (before : List Leg) (l : Leg) (after : List Leg) (ls : LegTrees) : Type 0 where
  pub each : is_each_leg (view_leg l) ≡ true
  pub first : first_each ls ≡ Some (record { before = pack_legs (map view_leg before); leg = view_leg l; after = pack_legs (map view_leg after) })
  pub are : ls ≡ pack_legs (map view_leg (before ++ l ∷ after))

cut : (before : List Leg) (l : Leg) (after : List Leg) → place_each (pack_legs (map view_leg (before ++ l ∷ after))) ≡ Some (length before) → Cut before l after (pack_legs (map view_leg (before ++ l ∷ after)))
cut [] l after h = by (is_each_leg (view_leg l)) refl h
  where
    rest : LegTrees
    rest = pack_legs (map view_leg after)

    by : (c : Bool) → is_each_leg (view_leg l) ≡ c → (if c then Some 0 else option_map suc (place_each rest)) ≡ Some 0 → Cut [] l after (more_legs (view_leg l) (pack_legs (map view_leg after)))
    by true e h = record {
      each = e;
      first = ap (λ b. if b then Some (record { before = no_legs; leg = view_leg l; after = pack_legs (map view_leg after) }) else option_map (behind_leg (view_leg l)) (first_each (pack_legs (map view_leg after)))) e;
      are = refl;
    }
    by false e h = absurd (not_first (place_each rest) h)
cut (k ∷ before) l after h = by (is_each_leg (view_leg k)) refl h (cut before l after)
  where
    by : (c : Bool) → is_each_leg (view_leg k) ≡ c → (if c then Some 0 else option_map suc (place_each (pack_legs (map view_leg (before ++ l ∷ after))))) ≡ Some (suc (length before))
        → (place_each (pack_legs (map view_leg (before ++ l ∷ after))) ≡ Some (length before) → Cut before l after (pack_legs (map view_leg (before ++ l ∷ after))))
        → Cut (k ∷ before) l after (more_legs (view_leg k) (pack_legs (map view_leg (before ++ l ∷ after))))
    by true e h f = let same : 0 ≡ suc (length before) = cc in absurd (omega (arith, same))
    by false e h f =
        let r = f (suc_of (place_each (pack_legs (map view_leg (before ++ l ∷ after)))) (length before) h) in
        record {
          each = r.each;
          first = ap (λ b. if b then Some (record { before = no_legs; leg = view_leg k; after = pack_legs (map view_leg (before ++ l ∷ after)) }) else option_map (behind_leg (view_leg k)) (first_each (pack_legs (map view_leg (before ++ l ∷ after))))) e
              ∙ ap (option_map (behind_leg (view_leg k))) r.first;
          are = refl;
        }

-- at the place of a leg that is made, the list of a slice
cut_at : (legs : List Leg) (n : ℕ) (l : Leg) → n < length legs → l ≡ get_or legs n l → Some n ≡ place_each (pack_legs (map view_leg legs)) → Cut (take n legs) l (drop (n + 1) legs) (pack_legs (map view_leg legs))
cut_at legs n l h e p =
    let same = parted legs n l h e in
    let place : place_each (pack_legs (map view_leg (take n legs ++ l ∷ drop (n + 1) legs))) ≡ Some (length (take n legs)) =
    ap (λ (ks : List Leg). place_each (pack_legs (map view_leg ks))) (sym same) ∙ sym p ∙ ap Some (sym (length-take-le n legs (omega (arith, h)))) in
    let r = cut (take n legs) l (drop (n + 1) legs) place in
    subst (λ (ks : List Leg). Cut (take n legs) l (drop (n + 1) legs) (pack_legs (map view_leg ks))) (sym same) r

pub each_there : (legs : List Leg) (n : ℕ) (l : Leg) → n < length legs → l ≡ get_or legs n l → Some n ≡ place_each (pack_legs (map view_leg legs)) → is_each_leg (view_leg l) ≡ true
each_there legs n l h e p = (cut_at legs n l h e p).each

pub fits_is : (legs : List Leg) (n : ℕ) (l : Leg) (before within after all : TypeTrees) (b : Bool) → n < length legs → l ≡ get_or legs n l → Some n ≡ place_each (pack_legs (map view_leg legs)) → before ≡ items (pack_legs (map view_leg (take n legs))) → within ≡ own_items (view_leg l) → after ≡ items (pack_legs (map view_leg (drop (n + 1) legs))) → all ≡ types_behind before (types_behind within after) → (IsTrue b ↔ IsWithinLimits (struct all)) → b ≡ fits_around (first_each (pack_legs (map view_leg legs)))
fits_is legs n l before within after all b h e p bs ks zs together limits =
    let r = cut_at legs n l h e p in
    let k = parts (pack_legs (map view_leg (take n legs))) (producer_of (view_leg l)) (pack_legs (map view_leg (drop (n + 1) legs))) in
    limits_are b (struct all) limits
    ∙ ap (λ us. is_within_limits (struct us)) (together ∙ (λ i. types_behind ((bs ∙ sym k.before) i) (types_behind ((ks ∙ sym k.within) i) ((zs ∙ sym k.after) i))))
    ∙ sym (ap fits_around r.first)

-- ---- what was cut

pub cut_there : (all before after : List Leg) (l : Leg) (n : ℕ) → n < length all → before ++ l ∷ [] ≡ take (n + 1) all → after ≡ drop (n + 1) all → Some n ≡ place_each (pack_legs (map view_leg all)) → Cut before l after (pack_legs (map view_leg all))
cut_there all before after l n h p q place =
    let same = cut_last all before after l n p q in
    let here : place_each (pack_legs (map view_leg (before ++ l ∷ after))) ≡ Some (length before) =
    ap (λ (ks : List Leg). place_each (pack_legs (map view_leg ks))) (sym same) ∙ sym place ∙ ap Some (sym (last_place all before l n h p)) in
    subst (λ (ks : List Leg). Cut before l after (pack_legs (map view_leg ks))) (sym same) (cut before l after here)

-- the legs that were cut out of a list
pub is_cut : (items before after : List Leg) (legs : List LegTree) (l : Leg) (n : ℕ) (q : ExprTree) → map view_leg items ≡ legs → n < length items → before ++ l ∷ [] ≡ take (n + 1) items → after ≡ drop (n + 1) items → Some n ≡ place_each (pack_legs (map view_leg items)) → IsEachBy (view_leg l) q → IsCutEach (pack_legs legs) (pack_legs (map view_leg before)) (pack_legs (map view_leg after)) q
is_cut items before after legs l n q same h p k place made =
    let c = cut_there items before after l n h p k place in
    (view_leg l, sym (ap (λ (ls : List LegTree). first_each (pack_legs ls)) same) ∙ c.first, made)

pub some_place : (ls : LegTrees) → fits_around (first_each ls) ≡ true → place_each ls ≢ None
some_place ls fits none = let wrong : false ≡ true = sym (ap fits_around (no_place ls none)) ∙ fits in cc

pub few_cut : (ls bs zs : LegTrees) (q : ExprTree) → fits_around (first_each ls) ≡ true → IsCutEach ls bs zs q → AreFew (sides bs q zs)
few_cut ls bs zs q fits c =
    let same = c.1 ∙ ap (λ m. Some (record { before = bs; leg = m; after = zs })) c.2.1 in few_sides (sides bs q zs) (sym (ap fits_around same) ∙ fits)

pub each_cut : (ls bs zs : LegTrees) (q : ExprTree) → IsCutEach ls bs zs q → makes_each q ≡ true
each_cut ls bs zs q c = c.2.2

-- ---- the one loop

-- the body merges once, with its row rebuilt
pub one_merge : (p : At) (ks : LegTrees) (s : ExprTree) (d i r : Binder) (g : ExprTree) (place : Place) (w : Sides) → makes_each (loop p ks s d i r g) ≡ true → list_merges (own_names d i r) (put r.sym.0 (own_row place r.sym.0 w) g) ≡ 1
one_merge p ks s d i r g place w h =
    let q = own_names d i r in
    let y = and_true (starts_list s) (merges_each r.sym.0 q g) h in
    let u = and_true (not (rebinds r.sym.0 g)) (merges_always q g) y.1 in
    let z = and_true (list_merges q g == 1) (starts_none q g && always_merges q g) u.1 in
    own_merges d i r place (all_items w) (count w.before) w.within g (not_so (rebinds r.sym.0 g) u.0) ∙ eqb-true (list_merges q g) 1 z.0

pub loop_cut : (ty : Known) (place : Place) (c n x : Binder) (f : ExprTree) (w : Sides) (q : ExprTree) → makes_each q ≡ true → is_loop (zip_within ty place c n x f w q) ≡ true
loop_cut ty place c n x f w (leaf p l) h = let nothing : ⊥ = cc in absurd nothing
loop_cut ty place c n x f w (one p o q) h = let nothing : ⊥ = cc in absurd nothing
loop_cut ty place c n x f w (two p o q g) h = let nothing : ⊥ = cc in absurd nothing
loop_cut ty place c n x f w (three p o k q g) h = let nothing : ⊥ = cc in absurd nothing
loop_cut ty place c n x f w (many p o es) h = let nothing : ⊥ = cc in absurd nothing
loop_cut ty place c n x f w (let_in p z v g) h = let nothing : ⊥ = cc in absurd nothing
loop_cut ty place c n x f w (loop p ks s d i r g) h = refl
loop_cut ty place c n x f w (iterate p q d g) h = let nothing : ⊥ = cc in absurd nothing

zip_cut : (a : At) (ls : LegTrees) (e : ExprTree) (b n x : Binder) (f : ExprTree) (bs zs : LegTrees) (q : ExprTree) → IsCutEach ls bs zs q → zip_over (loop a ls e b n x f) ≡ zip_joined a e b n x f bs zs q
zip_cut a ls e b n x f bs zs q c = ap (λ o. joined_around a ls e b n x f o) (c.1 ∙ ap (λ m. Some (record { before = bs; leg = m; after = zs })) c.2.1)

pub join_is : (a : At) (ty : Known) (place : Place) (ls bs zs : LegTrees) (q r p e : ExprTree) (b n x : Binder) (f : ExprTree) → IsCutEach ls bs zs q → r ≡ q → p ≡ zip_within ty place b n x f (sides bs r zs) r → a.place ≡ place → a.ty ≡ ty
    → over_own a e bs zs p ≡ zip_over (loop a ls e b n x f)
join_is a ty place ls bs zs q r p e b n x f c same made here noted =
    ap (over_own a e bs zs) (made ∙ (λ j. zip_within (sym noted j) (sym here j) b n x f (sides bs (same j) zs) (same j)))
    ∙ sym (zip_cut a ls e b n x f bs zs q c)
