-- What the first parts of a list bind, and one more.
use Rattle.std.proofs.Common.{◌≡◌, ℕ, zero, suc, ◌+◌, ◌<◌, List, [], ◌∷◌, ◌++◌, length, get_or, take, map, arith, sym, ap, ◌∙◌, append_assoc, append-nil}
use Rattle.weld_tree.specs.ExprTree.{ExprTree, pack_exprs, pack_legs}
use Rattle.weld_tree.specs.ExprView.{view_leg}
use Rattle.weld_tree.specs.declared.expr.Leg.{Leg}
use Rattle.weld_tree.specs.Program.{bound, bound_in, bound_in_leg, bound_in_legs}

bound_next : (es : List ExprTree) (i : ℕ) (d : ExprTree) → i < length es → bound_in (pack_exprs (take (suc i) es)) ≡ bound_in (pack_exprs (take i es)) ++ bound (get_or es i d)
bound_next [] i d h = absurd (omega (arith, h))
bound_next (e ∷ es) zero d h = append-nil (bound e)
bound_next (e ∷ es) (suc i) d h =
    ap (λ s. bound e ++ s) (bound_next es i d (omega (arith, h))) ∙ sym (append_assoc (bound e) (bound_in (pack_exprs (take i es))) (bound (get_or es i d)))

pub one_more_part : (es : List ExprTree) (i : ℕ) (part d : ExprTree) (start before after : List ℕ) → i < length es → part ≡ get_or es i d → before ≡ start ++ bound_in (pack_exprs (take i es)) → after ≡ before ++ bound part
    → after ≡ start ++ bound_in (pack_exprs (take (i + 1) es))
one_more_part es i part d start before after h p b a =
    let e : suc i ≡ i + 1 = omega arith in
    a ∙ (λ k. b k ++ bound (p k)) ∙ append_assoc start (bound_in (pack_exprs (take i es))) (bound (get_or es i d))
    ∙ ap (λ s. start ++ s) (sym (bound_next es i d h)) ∙ ap (λ j. start ++ bound_in (pack_exprs (take j es))) e

legs_next : (ls : List Leg) (i : ℕ) (d : Leg) → i < length ls → bound_in_legs (pack_legs (map view_leg (take (suc i) ls))) ≡ bound_in_legs (pack_legs (map view_leg (take i ls))) ++ bound_in_leg (view_leg (get_or ls i d))
legs_next [] i d h = absurd (omega (arith, h))
legs_next (l ∷ ls) zero d h = append-nil (bound_in_leg (view_leg l))
legs_next (l ∷ ls) (suc i) d h =
    ap (λ s. bound_in_leg (view_leg l) ++ s) (legs_next ls i d (omega (arith, h))) ∙ sym (append_assoc (bound_in_leg (view_leg l)) (bound_in_legs (pack_legs (map view_leg (take i ls)))) (bound_in_leg (view_leg (get_or ls i d))))

pub one_more_leg_bound : (ls : List Leg) (i : ℕ) (leg d : Leg) (start before after : List ℕ) → i < length ls → leg ≡ get_or ls i d → before ≡ start ++ bound_in_legs (pack_legs (map view_leg (take i ls))) → after ≡ before ++ bound_in_leg (view_leg leg)
    → after ≡ start ++ bound_in_legs (pack_legs (map view_leg (take (i + 1) ls)))
one_more_leg_bound ls i leg d start before after h p b a =
    let e : suc i ≡ i + 1 = omega arith in
    a ∙ (λ k. b k ++ bound_in_leg (view_leg (p k))) ∙ append_assoc start (bound_in_legs (pack_legs (map view_leg (take i ls)))) (bound_in_leg (view_leg (get_or ls i d)))
    ∙ ap (λ s. start ++ s) (sym (legs_next ls i d h)) ∙ ap (λ j. start ++ bound_in_legs (pack_legs (map view_leg (take j ls)))) e
