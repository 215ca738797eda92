-- What is left of a list of expressions or legs from a place on.
use Rattle.std.proofs.Common.{◌≡◌, ℕ, ◌+◌, ◌<◌, ◌≤◌, if◌then◌else◌, Bool, List, [], ◌∷◌, ◌++◌, length, drop, get_or, map, sym, ap, ◌∙◌, append_assoc, arith}
use Rattle.std.proofs.lemmas.List.{at_drop_more, drop_all}
use Rattle.weld_tree.specs.ExprTree.{ExprTree, pack_exprs, pack_legs}
use Rattle.weld_tree.specs.ExprView.{view_leg}
use Rattle.weld_tree.specs.declared.expr.Leg.{Leg}
use Rattle.weld_sizes.specs.Marks.{set_among, marks_by, marks_among, marks_in_leg, marks_in_legs}

pub marks_left : (form : ExprTree → Bool) (es : List ExprTree) (i : ℕ) (e : ExprTree) → i < length es → e ≡ get_or es i e → marks_among form (pack_exprs (drop i es)) ≡ marks_by form e ++ marks_among form (pack_exprs (drop (i + 1) es))
marks_left form es i e h p = at_drop_more (λ rest. marks_among form (pack_exprs rest)) es i e h ∙ ap (λ u. marks_by form u ++ marks_among form (pack_exprs (drop (i + 1) es))) (sym p)

pub no_marks_left : (form : ExprTree → Bool) (es : List ExprTree) (i : ℕ) → length es ≤ i → marks_among form (pack_exprs (drop i es)) ≡ []
no_marks_left form es i h = ap (λ rest. marks_among form (pack_exprs rest)) (drop_all i es h)

pub leg_marks_left : (form : ExprTree → Bool) (ls : List Leg) (i : ℕ) (l : Leg) → i < length ls → l ≡ get_or ls i l
    → marks_in_legs form (pack_legs (map view_leg (drop i ls))) ≡ marks_in_leg form (view_leg l) ++ marks_in_legs form (pack_legs (map view_leg (drop (i + 1) ls)))
leg_marks_left form ls i l h p =
    at_drop_more (λ rest. marks_in_legs form (pack_legs (map view_leg rest))) ls i l h
    ∙ ap (λ u. marks_in_leg form (view_leg u) ++ marks_in_legs form (pack_legs (map view_leg (drop (i + 1) ls)))) (sym p)

pub no_leg_marks_left : (form : ExprTree → Bool) (ls : List Leg) (i : ℕ) → length ls ≤ i → marks_in_legs form (pack_legs (map view_leg (drop i ls))) ≡ []
no_leg_marks_left form ls i h = ap (λ rest. marks_in_legs form (pack_legs (map view_leg rest))) (drop_all i ls h)

-- one part more
pub more_marks : (was here rest now all : List Bool) → all ≡ was ++ (here ++ rest) → now ≡ was ++ here → all ≡ now ++ rest
more_marks was here rest now all p q = p ∙ sym (append_assoc was here rest) ∙ ap (λ bs. bs ++ rest) (sym q)

-- ---- counts

pub set_both : (bs cs : List Bool) → set_among (bs ++ cs) ≡ set_among bs + set_among cs
set_both [] cs = omega arith
set_both (b ∷ bs) cs = ap (λ n. (if b then 1 else 0) + n) (set_both bs cs) ∙ regroup (if b then 1 else 0) (set_among bs) (set_among cs)
  where
    regroup : (k m n : ℕ) → k + (m + n) ≡ (k + m) + n
    regroup k m n = omega arith

pub set_left : (form : ExprTree → Bool) (es : List ExprTree) (i : ℕ) (e : ExprTree) → i < length es → e ≡ get_or es i e → set_among (marks_among form (pack_exprs (drop i es))) ≡ set_among (marks_by form e) + set_among (marks_among form (pack_exprs (drop (i + 1) es)))
set_left form es i e h p = ap set_among (marks_left form es i e h p) ∙ set_both (marks_by form e) (marks_among form (pack_exprs (drop (i + 1) es)))

pub none_left : (form : ExprTree → Bool) (es : List ExprTree) (i : ℕ) → length es ≤ i → set_among (marks_among form (pack_exprs (drop i es))) ≡ 0
none_left form es i h = ap set_among (no_marks_left form es i h)

pub leg_set_left : (form : ExprTree → Bool) (ls : List Leg) (i : ℕ) (l : Leg) → i < length ls → l ≡ get_or ls i l
    → set_among (marks_in_legs form (pack_legs (map view_leg (drop i ls)))) ≡ set_among (marks_in_leg form (view_leg l)) + set_among (marks_in_legs form (pack_legs (map view_leg (drop (i + 1) ls))))
leg_set_left form ls i l h p =
    ap set_among (leg_marks_left form ls i l h p) ∙ set_both (marks_in_leg form (view_leg l)) (marks_in_legs form (pack_legs (map view_leg (drop (i + 1) ls))))

pub no_leg_set_left : (form : ExprTree → Bool) (ls : List Leg) (i : ℕ) → length ls ≤ i → set_among (marks_in_legs form (pack_legs (map view_leg (drop i ls)))) ≡ 0
no_leg_set_left form ls i h = ap set_among (no_leg_marks_left form ls i h)
