-- What is left of a list of expressions or legs from a place on.
use Rattle.std.proofs.Common.{◌≡◌, ℕ, ◌+◌, ◌<◌, ◌≤◌, List, length, drop, get_or, map, sym, ap, ◌∙◌, Option}
use Rattle.std.proofs.lemmas.List.{at_drop_more, drop_all}
use Rattle.weld_tree.specs.declared.place.Place.{Place}
use Rattle.weld_tree.specs.declared.expr.Leg.{Leg}
use Rattle.weld_tree.specs.ExprTree.{ExprTree, pack_exprs, pack_legs}
use Rattle.weld_tree.specs.ExprView.{view_leg}
use Rattle.weld_tokens.specs.Lets.{lets, lets_in, lets_in_leg, lets_in_legs}
use Rattle.weld_tokens.specs.Depth.{earlier, first_deep, first_deep_in, first_deep_in_leg, first_deep_in_legs}

pub lets_left : (es : List ExprTree) (i : ℕ) (e : ExprTree) → i < length es → e ≡ get_or es i e → lets_in (pack_exprs (drop i es)) ≡ lets e + lets_in (pack_exprs (drop (i + 1) es))
lets_left es i e h p = at_drop_more (λ rest. lets_in (pack_exprs rest)) es i e h ∙ ap (λ u. lets u + lets_in (pack_exprs (drop (i + 1) es))) (sym p)

pub no_lets_left : (es : List ExprTree) (i : ℕ) → length es ≤ i → lets_in (pack_exprs (drop i es)) ≡ 0
no_lets_left es i h = ap (λ rest. lets_in (pack_exprs rest)) (drop_all i es h)

pub leg_lets_left : (ls : List Leg) (i : ℕ) (l : Leg) → i < length ls → l ≡ get_or ls i l
    → lets_in_legs (pack_legs (map view_leg (drop i ls))) ≡ lets_in_leg (view_leg l) + lets_in_legs (pack_legs (map view_leg (drop (i + 1) ls)))
leg_lets_left ls i l h p =
    at_drop_more (λ rest. lets_in_legs (pack_legs (map view_leg rest))) ls i l h ∙ ap (λ u. lets_in_leg (view_leg u) + lets_in_legs (pack_legs (map view_leg (drop (i + 1) ls)))) (sym p)

pub no_leg_lets_left : (ls : List Leg) (i : ℕ) → length ls ≤ i → lets_in_legs (pack_legs (map view_leg (drop i ls))) ≡ 0
no_leg_lets_left ls i h = ap (λ rest. lets_in_legs (pack_legs (map view_leg rest))) (drop_all i ls h)

pub deep_left : (levels : ℕ) (found : Option Place) (es : List ExprTree) (i : ℕ) (e : ExprTree) → i < length es → e ≡ get_or es i e
    → first_deep_in levels found (pack_exprs (drop i es)) ≡ first_deep_in levels (earlier found (first_deep levels e)) (pack_exprs (drop (i + 1) es))
deep_left levels found es i e h p =
    at_drop_more (λ rest. first_deep_in levels found (pack_exprs rest)) es i e h ∙ ap (λ u. first_deep_in levels (earlier found (first_deep levels u)) (pack_exprs (drop (i + 1) es))) (sym p)

pub no_deep_left : (levels : ℕ) (found : Option Place) (es : List ExprTree) (i : ℕ) → length es ≤ i → first_deep_in levels found (pack_exprs (drop i es)) ≡ found
no_deep_left levels found es i h = ap (λ rest. first_deep_in levels found (pack_exprs rest)) (drop_all i es h)

pub leg_deep_left : (levels : ℕ) (found : Option Place) (ls : List Leg) (i : ℕ) (l : Leg) → i < length ls → l ≡ get_or ls i l
    → first_deep_in_legs levels found (pack_legs (map view_leg (drop i ls))) ≡ first_deep_in_legs levels (earlier found (first_deep_in_leg levels (view_leg l))) (pack_legs (map view_leg (drop (i + 1) ls)))
leg_deep_left levels found ls i l h p =
    at_drop_more (λ rest. first_deep_in_legs levels found (pack_legs (map view_leg rest))) ls i l h ∙ ap (λ u. first_deep_in_legs levels (earlier found (first_deep_in_leg levels (view_leg u))) (pack_legs (map view_leg (drop (i + 1) ls)))) (sym p)

pub no_leg_deep_left : (levels : ℕ) (found : Option Place) (ls : List Leg) (i : ℕ) → length ls ≤ i → first_deep_in_legs levels found (pack_legs (map view_leg (drop i ls))) ≡ found
no_leg_deep_left levels found ls i h = ap (λ rest. first_deep_in_legs levels found (pack_legs (map view_leg rest))) (drop_all i ls h)
