-- The place of the first leg that another loop makes, in what is left of a list from a place on.
use Rattle.std.proofs.Common.{◌≡◌, ℕ, suc, ◌+◌, ◌<◌, ◌≤◌, if◌then◌else◌, true, false, Option, Some, None, option_map, List, [], ◌∷◌, length, drop, get_or, map, refl, sym, ap, ◌∙◌, arith}
use Rattle.std.proofs.lemmas.List.{at_drop_more, drop_all}
use Rattle.weld_tree.specs.ExprTree.{LegTree, pack_legs}
use Rattle.weld_tree.specs.ExprView.{view_leg}
use Rattle.weld_tree.specs.declared.expr.Leg.{Leg}
use Rattle.weld_vertical_zip.specs.Zipping.{is_made_leg}
use Rattle.weld_vertical_zip.specs.Zips.{place_produced}

abbrev pub shifted : ℕ → Option ℕ → Option ℕ
shifted i o = option_map (λ k. i + k) o

pub unshifted : (o : Option ℕ) → o ≡ shifted 0 o
unshifted None = refl
unshifted (Some k) = let e : k ≡ 0 + k = omega arith in ap Some e

pub one_more : (i : ℕ) (o : Option ℕ) → shifted i (option_map suc o) ≡ shifted (i + 1) o
one_more i None = refl
one_more i (Some k) = let e : i + suc k ≡ (i + 1) + k = omega arith in ap Some e

place_step : (ls : List Leg) (i : ℕ) (l : Leg) → i < length ls → l ≡ get_or ls i l
    → place_produced (pack_legs (map view_leg (drop i ls))) ≡ (if is_made_leg (view_leg l) then Some 0 else option_map suc (place_produced (pack_legs (map view_leg (drop (i + 1) ls)))))
place_step ls i l h p =
    at_drop_more (λ rest. place_produced (pack_legs (map view_leg rest))) ls i l h
    ∙ ap (λ (u : Leg). if is_made_leg (view_leg u) then Some 0 else option_map suc (place_produced (pack_legs (map view_leg (drop (i + 1) ls))))) (sym p)

pub place_found : (ls : List Leg) (i : ℕ) (l : Leg) → i < length ls → l ≡ get_or ls i l → is_made_leg (view_leg l) ≡ true
    → shifted i (place_produced (pack_legs (map view_leg (drop i ls)))) ≡ Some i
place_found ls i l h p q =
    let e : i + 0 ≡ i = omega arith in
    ap (shifted i) (place_step ls i l h p ∙ ap (λ b. if b then Some 0 else option_map suc (place_produced (pack_legs (map view_leg (drop (i + 1) ls))))) q) ∙ ap Some e

pub place_missed : (ls : List Leg) (i : ℕ) (l : Leg) → i < length ls → l ≡ get_or ls i l → is_made_leg (view_leg l) ≡ false
    → shifted i (place_produced (pack_legs (map view_leg (drop i ls)))) ≡ shifted (i + 1) (place_produced (pack_legs (map view_leg (drop (i + 1) ls))))
place_missed ls i l h p q =
    ap (shifted i) (place_step ls i l h p ∙ ap (λ b. if b then Some 0 else option_map suc (place_produced (pack_legs (map view_leg (drop (i + 1) ls))))) q)
    ∙ one_more i (place_produced (pack_legs (map view_leg (drop (i + 1) ls))))

pub place_none : (ls : List Leg) (i : ℕ) → length ls ≤ i → shifted i (place_produced (pack_legs (map view_leg (drop i ls)))) ≡ None
place_none ls i h = ap (λ (rest : List Leg). shifted i (place_produced (pack_legs (map view_leg rest)))) (drop_all i ls h)
