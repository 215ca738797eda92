-- What is left of a list of expressions or legs from a place on.
use Rattle.std.proofs.Common.{◌≡◌, ℕ, ◌+◌, ◌<◌, ◌≤◌, List, length, drop, get_or, map, sym, ap, ◌∙◌}
use Rattle.std.proofs.lemmas.List.{at_drop_more, drop_all}
use Rattle.weld_tree.specs.ExprTree.{ExprTree, pack_exprs, pack_legs}
use Rattle.weld_tree.specs.ExprView.{view_leg}
use Rattle.weld_tree.specs.declared.expr.Leg.{Leg}
use Rattle.weld_substitution.specs.Uses.{uses, uses_in, uses_in_leg, uses_in_legs}

pub uses_left : (es : List ExprTree) (i : ℕ) (e : ExprTree) (s : ℕ) → i < length es → e ≡ get_or es i e → uses_in (pack_exprs (drop i es)) s ≡ uses e s + uses_in (pack_exprs (drop (i + 1) es)) s
uses_left es i e s h p = at_drop_more (λ rest. uses_in (pack_exprs rest) s) es i e h ∙ ap (λ u. uses u s + uses_in (pack_exprs (drop (i + 1) es)) s) (sym p)

pub no_uses_left : (es : List ExprTree) (i : ℕ) (s : ℕ) → length es ≤ i → uses_in (pack_exprs (drop i es)) s ≡ 0
no_uses_left es i s h = ap (λ rest. uses_in (pack_exprs rest) s) (drop_all i es h)

pub leg_uses_left : (ls : List Leg) (i : ℕ) (l : Leg) (s : ℕ) → i < length ls → l ≡ get_or ls i l
    → uses_in_legs (pack_legs (map view_leg (drop i ls))) s ≡ uses_in_leg (view_leg l) s + uses_in_legs (pack_legs (map view_leg (drop (i + 1) ls))) s
leg_uses_left ls i l s h p =
    at_drop_more (λ rest. uses_in_legs (pack_legs (map view_leg rest)) s) ls i l h
    ∙ ap (λ u. uses_in_leg (view_leg u) s + uses_in_legs (pack_legs (map view_leg (drop (i + 1) ls))) s) (sym p)

pub no_leg_uses_left : (ls : List Leg) (i : ℕ) (s : ℕ) → length ls ≤ i → uses_in_legs (pack_legs (map view_leg (drop i ls))) s ≡ 0
no_leg_uses_left ls i s h = ap (λ rest. uses_in_legs (pack_legs (map view_leg rest)) s) (drop_all i ls h)
