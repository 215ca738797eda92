-- What is left of lists from a place on, in code.
use Rattle.std.proofs.Common.{◌≡◌, ℕ, suc, ◌+◌, ◌<◌, ◌≤◌, true, false, ◌||◌, if◌then◌else◌, Some, None, option_map, List, length, drop, get_or, map, sym, ap, ◌∙◌, arith}
use Rattle.std.proofs.lemmas.List.{at_drop_more, drop_all}
use Rattle.weld_tree.specs.ExprTree.{ExprTree, pack_exprs, pack_legs}
use Rattle.weld_tree.specs.ExprView.{view_leg}
use Rattle.weld_tree.specs.declared.expr.Leg.{Leg}
use Rattle.weld_vertical_zip.proofs.PlaceLemmas.{shifted, one_more}
use Rattle.weld_vertical_zip_held.specs.Rule.{rebinds, some_rebind, leg_rebinds, legs_rebind, is_each_leg, place_each}

-- ---- names bound again

pub rebinds_left : (s : ℕ) (es : List ExprTree) (i : ℕ) (e : ExprTree) → i < length es → e ≡ get_or es i e
    → some_rebind s (pack_exprs (drop i es)) ≡ rebinds s e || some_rebind s (pack_exprs (drop (i + 1) es))
rebinds_left s es i e h p = at_drop_more (λ rest. some_rebind s (pack_exprs rest)) es i e h ∙ ap (λ u. rebinds s u || some_rebind s (pack_exprs (drop (i + 1) es))) (sym p)

pub no_rebinds_left : (s : ℕ) (es : List ExprTree) (i : ℕ) → length es ≤ i → some_rebind s (pack_exprs (drop i es)) ≡ false
no_rebinds_left s es i h = ap (λ rest. some_rebind s (pack_exprs rest)) (drop_all i es h)

pub leg_rebinds_left : (s : ℕ) (ls : List Leg) (i : ℕ) (l : Leg) → i < length ls → l ≡ get_or ls i l
    → legs_rebind s (pack_legs (map view_leg (drop i ls))) ≡ leg_rebinds s (view_leg l) || legs_rebind s (pack_legs (map view_leg (drop (i + 1) ls)))
leg_rebinds_left s ls i l h p =
    at_drop_more (λ rest. legs_rebind s (pack_legs (map view_leg rest))) ls i l h
    ∙ ap (λ u. leg_rebinds s (view_leg u) || legs_rebind s (pack_legs (map view_leg (drop (i + 1) ls)))) (sym p)

pub no_leg_rebinds_left : (s : ℕ) (ls : List Leg) (i : ℕ) → length ls ≤ i → legs_rebind s (pack_legs (map view_leg (drop i ls))) ≡ false
no_leg_rebinds_left s ls i h = ap (λ rest. legs_rebind s (pack_legs (map view_leg rest))) (drop_all i ls h)

-- ---- the place of the first leg

place_step : (ls : List Leg) (i : ℕ) (l : Leg) → i < length ls → l ≡ get_or ls i l
    → place_each (pack_legs (map view_leg (drop i ls))) ≡ (if is_each_leg (view_leg l) then Some 0 else option_map suc (place_each (pack_legs (map view_leg (drop (i + 1) ls)))))
place_step ls i l h p =
    at_drop_more (λ rest. place_each (pack_legs (map view_leg rest))) ls i l h
    ∙ ap (λ (u : Leg). if is_each_leg (view_leg u) then Some 0 else option_map suc (place_each (pack_legs (map view_leg (drop (i + 1) ls))))) (sym p)

pub place_found : (ls : List Leg) (i : ℕ) (l : Leg) → i < length ls → l ≡ get_or ls i l → is_each_leg (view_leg l) ≡ true
    → shifted i (place_each (pack_legs (map view_leg (drop i ls)))) ≡ Some i
place_found ls i l h p q =
    let e : i + 0 ≡ i = omega arith in
    ap (shifted i) (place_step ls i l h p ∙ ap (λ b. if b then Some 0 else option_map suc (place_each (pack_legs (map view_leg (drop (i + 1) ls))))) q) ∙ ap Some e

pub place_missed : (ls : List Leg) (i : ℕ) (l : Leg) → i < length ls → l ≡ get_or ls i l → is_each_leg (view_leg l) ≡ false
    → shifted i (place_each (pack_legs (map view_leg (drop i ls)))) ≡ shifted (i + 1) (place_each (pack_legs (map view_leg (drop (i + 1) ls))))
place_missed ls i l h p q =
    ap (shifted i) (place_step ls i l h p ∙ ap (λ b. if b then Some 0 else option_map suc (place_each (pack_legs (map view_leg (drop (i + 1) ls))))) q)
    ∙ one_more i (place_each (pack_legs (map view_leg (drop (i + 1) ls))))

pub place_none : (ls : List Leg) (i : ℕ) → length ls ≤ i → shifted i (place_each (pack_legs (map view_leg (drop i ls)))) ≡ None
place_none ls i h = ap (λ (rest : List Leg). shifted i (place_each (pack_legs (map view_leg rest)))) (drop_all i ls h)
