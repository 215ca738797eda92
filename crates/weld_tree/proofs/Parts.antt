-- What is left of a list of expressions or legs from a place on.
use Rattle.std.proofs.Common.{◌≡◌, ℕ, ◌+◌, ◌<◌, ◌≤◌, List, [], ◌∷◌, ◌++◌, length, take, drop, get_or, map, zero, suc, sym, ap, ◌∙◌, arith}
use Rattle.std.proofs.lemmas.List.{at_drop_more, drop_all, map_more, map-append, drop-map, length-map}
use Rattle.std.specs.List.{take-map, All}
use Rattle.weld_tree.specs.ExprTree.{ExprTree, pack_exprs, pack_legs}
use Rattle.weld_tree.specs.ExprView.{view_leg}
use Rattle.weld_tree.specs.ExprFalls.{expr_nodes, exprs_nodes, leg_nodes, legs_nodes}
use Rattle.weld_tree.specs.Program.{loops, loops_in, loops_in_leg, loops_in_legs}
use Rattle.weld_tree.specs.Lending.{refill}
use Rattle.weld_tree.specs.declared.expr.Leg.{Leg}

pub loops_left : (es : List ExprTree) (i : ℕ) (e : ExprTree) → i < length es → e ≡ get_or es i e → loops_in (pack_exprs (drop i es)) ≡ loops e + loops_in (pack_exprs (drop (i + 1) es))
loops_left es i e h p = at_drop_more (λ rest. loops_in (pack_exprs rest)) es i e h ∙ ap (λ u. loops u + loops_in (pack_exprs (drop (i + 1) es))) (sym p)

pub no_loops_left : (es : List ExprTree) (i : ℕ) → length es ≤ i → loops_in (pack_exprs (drop i es)) ≡ 0
no_loops_left es i h = ap (λ rest. loops_in (pack_exprs rest)) (drop_all i es h)

pub leg_loops_left : (ls : List Leg) (i : ℕ) (l : Leg) → i < length ls → l ≡ get_or ls i l → loops_in_legs (pack_legs (map view_leg (drop i ls))) ≡ loops_in_leg (view_leg l) + loops_in_legs (pack_legs (map view_leg (drop (i + 1) ls)))
leg_loops_left ls i l h p = at_drop_more (λ rest. loops_in_legs (pack_legs (map view_leg rest))) ls i l h ∙ ap (λ u. loops_in_leg (view_leg u) + loops_in_legs (pack_legs (map view_leg (drop (i + 1) ls)))) (sym p)

pub no_leg_loops_left : (ls : List Leg) (i : ℕ) → length ls ≤ i → loops_in_legs (pack_legs (map view_leg (drop i ls))) ≡ 0
no_leg_loops_left ls i h = ap (λ rest. loops_in_legs (pack_legs (map view_leg rest))) (drop_all i ls h)

-- the legs up to a place, as data
pub legs_more : (ls : List Leg) (i : ℕ) (l : Leg) → i < length ls → l ≡ get_or ls i l → map view_leg (take (i + 1) ls) ≡ map view_leg (take i ls) ++ view_leg l ∷ []
legs_more ls i l h p = map_more view_leg ls i l h ∙ ap (λ u. map view_leg (take i ls) ++ view_leg u ∷ []) (sym p)

pub legs_push : (ls : List Leg) (l : Leg) → map view_leg (ls ++ l ∷ []) ≡ map view_leg ls ++ view_leg l ∷ []
legs_push ls l = map-append view_leg ls (l ∷ [])

-- a leg of a list has no more nodes than the list
leg_under : (ls : List Leg) (i : ℕ) (d : Leg) → i < length ls → leg_nodes (view_leg (get_or ls i d)) ≤ legs_nodes (pack_legs (map view_leg ls))
leg_under [] i d h = absurd (omega arith)
leg_under (l ∷ ls) zero d h = omega arith
leg_under (l ∷ ls) (suc i) d h = let r : leg_nodes (view_leg (get_or ls i d)) ≤ legs_nodes (pack_legs (map view_leg ls)) = leg_under ls i d (omega arith) in omega arith

pub leg_nodes_le : (ls : List Leg) (i : ℕ) (l : Leg) → i < length ls → l ≡ get_or ls i l → leg_nodes (view_leg l) ≤ legs_nodes (pack_legs (map view_leg ls))
leg_nodes_le ls i l h p = rw p (leg_under ls i l h)

-- legs that are lent, as data
pub refill-map : (n : ℕ) (old new : List Leg) → n ≡ length old → map view_leg (take n (new ++ drop (length new) old)) ≡ refill (map view_leg old) (map view_leg new)
refill-map n old new e =
    sym (take-map view_leg n (new ++ drop (length new) old))
    ∙ ap (take n) (map-append view_leg new (drop (length new) old) ∙ ap (λ r. map view_leg new ++ r) (sym (drop-map view_leg (length new) old)))
    ∙ (λ i. take ((e ∙ sym (length-map old view_leg)) i) (map view_leg new ++ drop (sym (length-map new view_leg) i) (map view_leg old)))

-- an expression of a list has no more nodes than the list
expr_under : (es : List ExprTree) (i : ℕ) (d : ExprTree) → i < length es → expr_nodes (get_or es i d) ≤ exprs_nodes (pack_exprs es)
expr_under [] i d h = absurd (omega arith)
expr_under (e ∷ es) zero d h = omega arith
expr_under (e ∷ es) (suc i) d h = let r : expr_nodes (get_or es i d) ≤ exprs_nodes (pack_exprs es) = expr_under es i d (omega arith) in omega arith

pub exprs_parts : (es : List ExprTree) → All (λ e. expr_nodes e ≤ exprs_nodes (pack_exprs es)) es
exprs_parts es k d h = expr_under es k d h

pub legs_parts : (ls : List Leg) → All (λ l. leg_nodes (view_leg l) ≤ legs_nodes (pack_legs (map view_leg ls))) ls
legs_parts ls k d h = leg_under ls k d h
