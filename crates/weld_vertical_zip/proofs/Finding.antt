-- The first leg that another loop makes, in a list that is cut there.
use Rattle.std.proofs.Common.{◌≡◌, ℕ, suc, ◌+◌, ◌-◌, ◌<◌, ◌≤◌, ◌^◌, if◌then◌else◌, Bool, true, false, ◌&&◌, Option, Some, None, option_map, List, [], ◌∷◌, ◌++◌, length, take, drop, get_or, map, IsTrue, ◌↔◌, nat_le, refl, sym, ap, subst, ◌∙◌, arith}
use Rattle.std.proofs.lemmas.Bool.{leb-true, le-leb}
use Rattle.std.proofs.lemmas.List.{take-append-drop, take_more, take_all, length-take-le, length-drop, append_assoc}
use Rattle.weld_tree.specs.TypeTree.{TypeTree, TypeTrees, struct, type_nodes, type_depth}
use Rattle.weld_tree.specs.Types.{IsWithinLimits}
use Rattle.weld_tree.specs.ExprTree.{ExprTree, leaf, one, two, three, many, let_in, loop, iterate, LegTree, LegTrees, no_legs, more_legs, pack_legs}
use Rattle.weld_tree.specs.ExprView.{view_leg}
use Rattle.weld_tree.specs.declared.expr.Leg.{Leg}
use Rattle.weld_substitution.proofs.Following.{and_true, both_true}
use Rattle.weld_horizontal.specs.Twice.{items}
use Rattle.weld_vertical_zip.specs.Zipping.{types_behind, is_made_leg, Around, behind_leg, first_made, Sides, sides, producer_of, sides_of, is_within_limits, are_several, fits_around}
use Rattle.weld_vertical_zip.specs.Zips.{place_produced, own_items}

-- ---- the test

pub too_few : (legs : List Leg) (c : Bool) → length legs < 2 → false ≡ (are_several (pack_legs (map view_leg legs)) && c)
too_few [] c h = refl
too_few (l ∷ []) c h = refl
too_few (l ∷ m ∷ legs) c h = absurd (omega (arith, h))

pub several : (legs : List Leg) → 2 ≤ length legs → are_several (pack_legs (map view_leg legs)) ≡ true
several [] h = absurd (omega (arith, h))
several (l ∷ []) h = absurd (omega (arith, h))
several (l ∷ m ∷ legs) h = refl

pub are_several_and : (legs : List Leg) (b c : Bool) → 2 ≤ length legs → b ≡ c → b ≡ (are_several (pack_legs (map view_leg legs)) && c)
are_several_and legs b c h e = e ∙ ap (λ d. d && c) (sym (several legs h))

pub none_behind : (l : LegTree) (o : Option ℕ) (s : Option Around) → (o ≡ None → s ≡ None) → option_map suc o ≡ None → option_map (behind_leg l) s ≡ None
none_behind l None s f h = ap (option_map (behind_leg l)) (f refl)
none_behind l (Some n) s f h = let nothing : ⊥ = cc in absurd nothing

pub no_place : (ls : LegTrees) → place_produced ls ≡ None → first_made ls ≡ None
no_place no_legs h = refl
no_place (more_legs l ls) h = by (is_made_leg l) h (no_place ls)
  where
    by : (c : Bool) → (if c then Some 0 else option_map suc (place_produced ls)) ≡ None → (place_produced ls ≡ None → first_made ls ≡ None) → (if c then Some (record { before = no_legs; leg = l; after = ls }) else option_map (behind_leg l) (first_made ls)) ≡ None
    by true h f = let nothing : ⊥ = cc in absurd nothing
    by false h f = none_behind l (place_produced ls) (first_made ls) f h

pub no_and : (c : Bool) → false ≡ (c && false)
no_and true = refl
no_and false = refl

pub none_made : (ls : LegTrees) (c : Bool) → None ≡ place_produced ls → false ≡ (c && fits_around (first_made ls))
none_made ls c h = no_and c ∙ ap (λ o. c && fits_around o) (sym (no_place ls (sym h)))

-- ---- where the list is cut

pub record Cut (before : List Leg) (l : Leg) (after : List Leg) (ls : LegTrees) : Type 0 where
  pub made : is_made_leg (view_leg l) ≡ true
  pub first : first_made ls ≡ Some (record { before = pack_legs (map view_leg before); leg = view_leg l; after = pack_legs (map view_leg after) })
  pub are : ls ≡ pack_legs (map view_leg (before ++ l ∷ after))

pub suc_of : (o : Option ℕ) (n : ℕ) → option_map suc o ≡ Some (suc n) → o ≡ Some n
suc_of (Some m) n h = let same : suc m ≡ suc n = cc in let e : m ≡ n = omega (arith, same) in ap Some e
suc_of None n h = let nothing : ⊥ = cc in absurd nothing

pub not_first : (o : Option ℕ) → option_map suc o ≡ Some 0 → ⊥
not_first (Some m) h = let same : suc m ≡ 0 = cc in absurd (omega (arith, same))
not_first None h = let nothing : ⊥ = cc in absurd nothing

pub cut : (before : List Leg) (l : Leg) (after : List Leg) → place_produced (pack_legs (map view_leg (before ++ l ∷ after))) ≡ Some (length before) → Cut before l after (pack_legs (map view_leg (before ++ l ∷ after)))
cut [] l after h = by (is_made_leg (view_leg l)) refl h
  where
    rest : LegTrees
    rest = pack_legs (map view_leg after)

    by : (c : Bool) → is_made_leg (view_leg l) ≡ c → (if c then Some 0 else option_map suc (place_produced rest)) ≡ Some 0 → Cut [] l after (more_legs (view_leg l) (pack_legs (map view_leg after)))
    by true e h = record {
      made = e;
      first = ap (λ b. if b then Some (record { before = no_legs; leg = view_leg l; after = pack_legs (map view_leg after) }) else option_map (behind_leg (view_leg l)) (first_made (pack_legs (map view_leg after)))) e;
      are = refl;
    }
    by false e h = absurd (not_first (place_produced rest) h)
cut (k ∷ before) l after h = by (is_made_leg (view_leg k)) refl h (cut before l after)
  where
    by : (c : Bool) → is_made_leg (view_leg k) ≡ c → (if c then Some 0 else option_map suc (place_produced (pack_legs (map view_leg (before ++ l ∷ after))))) ≡ Some (suc (length before))
        → (place_produced (pack_legs (map view_leg (before ++ l ∷ after))) ≡ Some (length before) → Cut before l after (pack_legs (map view_leg (before ++ l ∷ after))))
        → Cut (k ∷ before) l after (more_legs (view_leg k) (pack_legs (map view_leg (before ++ l ∷ after))))
    by true e h f = let same : 0 ≡ suc (length before) = cc in absurd (omega (arith, same))
    by false e h f =
        let r = f (suc_of (place_produced (pack_legs (map view_leg (before ++ l ∷ after)))) (length before) h) in
        record {
          made = r.made;
          first = ap (λ b. if b then Some (record { before = no_legs; leg = view_leg k; after = pack_legs (map view_leg (before ++ l ∷ after)) }) else option_map (behind_leg (view_leg k)) (first_made (pack_legs (map view_leg (before ++ l ∷ after))))) e
              ∙ ap (option_map (behind_leg (view_leg k))) r.first;
          are = refl;
        }

pub parted : (legs : List Leg) (n : ℕ) (l : Leg) → n < length legs → l ≡ get_or legs n l → legs ≡ take n legs ++ l ∷ drop (n + 1) legs
parted legs n l h e =
    sym (take-append-drop (n + 1) legs) ∙ ap (λ (ks : List Leg). ks ++ drop (n + 1) legs) (take_more legs n l h)
    ∙ append_assoc (take n legs) (get_or legs n l ∷ []) (drop (n + 1) legs) ∙ ap (λ (m : Leg). take n legs ++ m ∷ drop (n + 1) legs) (sym e)

-- at the place of a leg that is made, the list of a slice
pub cut_at : (legs : List Leg) (n : ℕ) (l : Leg) → n < length legs → l ≡ get_or legs n l → Some n ≡ place_produced (pack_legs (map view_leg legs)) → Cut (take n legs) l (drop (n + 1) legs) (pack_legs (map view_leg legs))
cut_at legs n l h e p =
    let same = parted legs n l h e in
    let place : place_produced (pack_legs (map view_leg (take n legs ++ l ∷ drop (n + 1) legs))) ≡ Some (length (take n legs)) =
    ap (λ (ks : List Leg). place_produced (pack_legs (map view_leg ks))) (sym same) ∙ sym p ∙ ap Some (sym (length-take-le n legs (omega (arith, h)))) in
    let r = cut (take n legs) l (drop (n + 1) legs) place in
    subst (λ (ks : List Leg). Cut (take n legs) l (drop (n + 1) legs) (pack_legs (map view_leg ks))) (sym same) r

pub produced_there : (legs : List Leg) (n : ℕ) (l : Leg) → n < length legs → l ≡ get_or legs n l → Some n ≡ place_produced (pack_legs (map view_leg legs)) → is_made_leg (view_leg l) ≡ true
produced_there legs n l h e p = (cut_at legs n l h e p).made

pub place_below : (ls : List Leg) (n : ℕ) → Some n ≡ place_produced (pack_legs (map view_leg ls)) → n < length ls
place_below [] n h = let nothing : ⊥ = cc in absurd nothing
place_below (l ∷ ls) n h = by (is_made_leg (view_leg l)) (place_produced (pack_legs (map view_leg ls))) (λ m e. place_below ls m e) h
  where
    by : (c : Bool) (o : Option ℕ) → ((m : ℕ) → Some m ≡ o → m < length ls) → Some n ≡ (if c then Some 0 else option_map suc o) → n < suc (length ls)
    by true o f h = let same : n ≡ 0 = cc in omega (arith, same)
    by false (Some m) f h = let same : n ≡ suc m = cc in omega (arith, same, f m refl)
    by false None f h = let nothing : ⊥ = cc in absurd nothing

-- ---- the types round it

pub record Parts (b : LegTrees) (q : ExprTree) (a : LegTrees) : Type 0 where
  pub before : (sides b q a).before ≡ items b
  pub within : (sides b q a).within ≡ (sides no_legs q no_legs).within
  pub after : (sides b q a).after ≡ items a

pub parts : (b : LegTrees) (q : ExprTree) (a : LegTrees) → Parts b q a
parts b (leaf p l) a = record { before = refl; within = refl; after = refl }
parts b (one p o e) a = record { before = refl; within = refl; after = refl }
parts b (two p o e f) a = record { before = refl; within = refl; after = refl }
parts b (three p o e f g) a = record { before = refl; within = refl; after = refl }
parts b (many p o es) a = record { before = refl; within = refl; after = refl }
parts b (let_in p z e f) a = record { before = refl; within = refl; after = refl }
parts b (loop p ks s d i r g) a = record { before = refl; within = refl; after = refl }
parts b (iterate p e z f) a = record { before = refl; within = refl; after = refl }

pub limits_are : (b : Bool) (t : TypeTree) → (IsTrue b ↔ IsWithinLimits t) → b ≡ is_within_limits t
limits_are b t h = by b (is_within_limits t) refl h
  where
    of_limits : IsWithinLimits t → is_within_limits t ≡ true
    of_limits k = both_true (nat_le (type_depth t) 16) (nat_le (type_nodes t) 256) (le-leb (type_depth t) 16 k.depth) (le-leb (type_nodes t) 256 k.nodes)

    limits_of : is_within_limits t ≡ true → IsWithinLimits t
    limits_of e =
        let k = and_true (nat_le (type_depth t) 16) (nat_le (type_nodes t) 256) e in
        record { depth = leb-true (type_depth t) 16 k.0; nodes = leb-true (type_nodes t) 256 k.1 }

    by : (b c : Bool) → is_within_limits t ≡ c → (IsTrue b ↔ IsWithinLimits t) → b ≡ is_within_limits t
    by true c e h = sym (of_limits (h.0 refl))
    by false true e h = h.1 (limits_of e) ∙ sym e
    by false false e h = sym e

-- the rest of a list, of which as much is taken as there is
pub rest_all : (legs : List Leg) (n : ℕ) → take (length legs - n) (drop n legs) ≡ drop n legs
rest_all legs n = take_all (length legs - n) (drop n legs) (let h = length-drop n legs in omega (arith, h))

pub fits_is : (legs : List Leg) (n : ℕ) (l : Leg) (before within after all : TypeTrees) (b : Bool) → n < length legs → l ≡ get_or legs n l → Some n ≡ place_produced (pack_legs (map view_leg legs)) → before ≡ items (pack_legs (map view_leg (take n legs))) → within ≡ own_items (view_leg l) → after ≡ items (pack_legs (map view_leg (drop (n + 1) legs))) → all ≡ types_behind before (types_behind within after) → (IsTrue b ↔ IsWithinLimits (struct all)) → b ≡ fits_around (first_made (pack_legs (map view_leg legs)))
fits_is legs n l before within after all b h e p bs ks zs together limits =
    let r = cut_at legs n l h e p in
    let k = parts (pack_legs (map view_leg (take n legs))) (producer_of (view_leg l)) (pack_legs (map view_leg (drop (n + 1) legs))) in
    limits_are b (struct all) limits
    ∙ ap (λ us. is_within_limits (struct us)) (together ∙ (λ i. types_behind ((bs ∙ sym k.before) i) (types_behind ((ks ∙ sym k.within) i) ((zs ∙ sym k.after) i))))
    ∙ sym (ap fits_around r.first)
