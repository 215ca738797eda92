-- What is left of a list of expressions or legs from a place on.
use Rattle.std.proofs.Common.{◌≡◌, ℕ, ◌+◌, ◌<◌, ◌≤◌, true, false, ◌&&◌, ◌||◌, List, refl, [], ◌∷◌, length, drop, get_or, map, sym, ap, ◌∙◌}
use Rattle.std.proofs.lemmas.List.{at_drop_more, drop_all, length-map}
use Rattle.weld_tree.specs.ExprTree.{ExprTree, LegTree, more_legs, pack_exprs, pack_legs}
use Rattle.weld_tree.specs.Lending.{refill, refill_is}
use Rattle.weld_tree.specs.ExprView.{view_leg}
use Rattle.weld_tree.specs.declared.expr.Leg.{Leg}
use Rattle.weld_vertical_struct.specs.Parting.{is_apart, are_apart, leg_is_apart, legs_are_apart}
use Rattle.weld_vertical_struct.specs.Held.{leg_has_pair, legs_have_pair, opened_leg, opened_legs}

pub apart_there : (es : List ExprTree) (i : ℕ) (e : ExprTree) (s x : ℕ) → i < length es → e ≡ get_or es i e → are_apart s x (pack_exprs (drop i es)) ≡ (is_apart s x e && are_apart s x (pack_exprs (drop (i + 1) es)))
apart_there es i e s x h p =
    at_drop_more (λ rest. are_apart s x (pack_exprs rest)) es i e h ∙ ap (λ (u : ExprTree). is_apart s x u && are_apart s x (pack_exprs (drop (i + 1) es))) (sym p)

pub apart_all : (es : List ExprTree) (i : ℕ) (s x : ℕ) → length es ≤ i → are_apart s x (pack_exprs (drop i es)) ≡ true
apart_all es i s x h = ap (λ rest. are_apart s x (pack_exprs rest)) (drop_all i es h)

pub leg_apart_there : (ls : List Leg) (i : ℕ) (l : Leg) (s x : ℕ) → i < length ls → l ≡ get_or ls i l
    → legs_are_apart s x (pack_legs (map view_leg (drop i ls))) ≡ (leg_is_apart s x (view_leg l) && legs_are_apart s x (pack_legs (map view_leg (drop (i + 1) ls))))
leg_apart_there ls i l s x h p =
    at_drop_more (λ rest. legs_are_apart s x (pack_legs (map view_leg rest))) ls i l h
    ∙ ap (λ u. leg_is_apart s x (view_leg u) && legs_are_apart s x (pack_legs (map view_leg (drop (i + 1) ls)))) (sym p)

pub legs_apart_all : (ls : List Leg) (i : ℕ) (s x : ℕ) → length ls ≤ i → legs_are_apart s x (pack_legs (map view_leg (drop i ls))) ≡ true
legs_apart_all ls i s x h = ap (λ rest. legs_are_apart s x (pack_legs (map view_leg rest))) (drop_all i ls h)

-- ---- pairs behind legs

pub pair_there : (ls : List Leg) (i : ℕ) (l : Leg) → i < length ls → l ≡ get_or ls i l
    → legs_have_pair (pack_legs (map view_leg (drop i ls))) ≡ (leg_has_pair (view_leg l) || legs_have_pair (pack_legs (map view_leg (drop (i + 1) ls))))
pair_there ls i l h p =
    at_drop_more (λ rest. legs_have_pair (pack_legs (map view_leg rest))) ls i l h
    ∙ ap (λ u. leg_has_pair (view_leg u) || legs_have_pair (pack_legs (map view_leg (drop (i + 1) ls)))) (sym p)

pub no_pair_left : (ls : List Leg) (i : ℕ) → length ls ≤ i → legs_have_pair (pack_legs (map view_leg (drop i ls))) ≡ false
no_pair_left ls i h = ap (λ rest. legs_have_pair (pack_legs (map view_leg rest))) (drop_all i ls h)

-- ---- legs with their pairs taken apart

packed : (z : ℕ) (ls : List LegTree) → pack_legs (map (opened_leg z) ls) ≡ opened_legs z (pack_legs ls)
packed z [] = refl
packed z (l ∷ ls) = ap (more_legs (opened_leg z l)) (packed z ls)

-- what the slice was made is what the list is
pub list_opened : (z : ℕ) (old was new : List LegTree) → was ≡ old → new ≡ map (opened_leg z) was → pack_legs (refill old new) ≡ opened_legs z (pack_legs old)
list_opened z old was new p q =
    ap pack_legs (ap (refill old) (q ∙ ap (map (opened_leg z)) p) ∙ refill_is old (map (opened_leg z) old) (length-map old (opened_leg z))) ∙ packed z old
