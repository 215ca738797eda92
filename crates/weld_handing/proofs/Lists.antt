-- What is left of lists from a place on, in code.
use Rattle.std.proofs.Common.{◌≡◌, ℕ, ◌+◌, ◌<◌, ◌≤◌, true, false, ◌&&◌, ◌||◌, List, [], ◌∷◌, ◌++◌, length, drop, get_or, map, refl, sym, ap, ◌∙◌}
use Rattle.std.proofs.lemmas.List.{at_drop_more, drop_all}
use Rattle.weld_tree.specs.ExprTree.{ExprTree, pack_exprs, pack_legs}
use Rattle.weld_tree.specs.ExprView.{view_leg}
use Rattle.weld_tree.specs.declared.expr.Leg.{Leg}
use Rattle.weld_meaning.specs.Environment.{Named}
use Rattle.weld_meaning.specs.Origin.{Origin, Origins, no_origins, more_origins, origin, origins}
use Rattle.weld_linear.specs.Sources.{pack_origins}
use Rattle.weld_handing.specs.Handing.{holds, some_hold, starts_none, all_start_none, leg_starts_none, legs_start_none}
use Rattle.weld_handing.specs.Merging.{list_merges, all_list_merges, leg_list_merges, legs_list_merges}

-- ---- origins

pub hold_left : (os : List Origin) (i : ℕ) (o : Origin) → i < length os → o ≡ get_or os i o → some_hold (pack_origins (drop i os)) ≡ holds o || some_hold (pack_origins (drop (i + 1) os))
hold_left os i o h p = at_drop_more (λ rest. some_hold (pack_origins rest)) os i o h ∙ ap (λ u. holds u || some_hold (pack_origins (drop (i + 1) os))) (sym p)

pub no_hold_left : (os : List Origin) (i : ℕ) → length os ≤ i → some_hold (pack_origins (drop i os)) ≡ false
no_hold_left os i h = ap (λ rest. some_hold (pack_origins rest)) (drop_all i os h)

-- origins of a list, and then others
abbrev pub behind : List Origin → Origins → Origins
behind [] os = os
behind (x ∷ xs) os = more_origins x (behind xs os)

pub behind_more : (xs : List Origin) (y : Origin) (os : Origins) → behind (xs ++ y ∷ []) os ≡ behind xs (more_origins y os)
behind_more [] y os = refl
behind_more (x ∷ xs) y os = ap (more_origins x) (behind_more xs y os)

pub behind_none : (xs : List Origin) → behind xs no_origins ≡ pack_origins xs
behind_none [] = refl
behind_none (x ∷ xs) = ap (more_origins x) (behind_none xs)

pub origins_left : (g : Named Origin) (xs : List Origin) (es : List ExprTree) (i : ℕ) (e : ExprTree) → i < length es → e ≡ get_or es i e
    → behind xs (origins (pack_exprs (drop i es)) g) ≡ behind (xs ++ origin e g ∷ []) (origins (pack_exprs (drop (i + 1) es)) g)
origins_left g xs es i e h p =
    ap (behind xs)
    (at_drop_more (λ rest. origins (pack_exprs rest) g) es i e h
    ∙ ap (λ u. more_origins (origin u g) (origins (pack_exprs (drop (i + 1) es)) g)) (sym p))
    ∙ sym (behind_more xs (origin e g) (origins (pack_exprs (drop (i + 1) es)) g))

pub no_origins_left : (g : Named Origin) (xs : List Origin) (es : List ExprTree) (i : ℕ) → length es ≤ i → behind xs (origins (pack_exprs (drop i es)) g) ≡ pack_origins xs
no_origins_left g xs es i h = ap (λ rest. behind xs (origins (pack_exprs rest) g)) (drop_all i es h) ∙ behind_none xs

-- ---- merges

pub merges_left : (q : Named Origin) (es : List ExprTree) (i : ℕ) (e : ExprTree) → i < length es → e ≡ get_or es i e
    → all_list_merges q (pack_exprs (drop i es)) ≡ list_merges q e + all_list_merges q (pack_exprs (drop (i + 1) es))
merges_left q es i e h p = at_drop_more (λ rest. all_list_merges q (pack_exprs rest)) es i e h ∙ ap (λ u. list_merges q u + all_list_merges q (pack_exprs (drop (i + 1) es))) (sym p)

pub no_merges_left : (q : Named Origin) (es : List ExprTree) (i : ℕ) → length es ≤ i → all_list_merges q (pack_exprs (drop i es)) ≡ 0
no_merges_left q es i h = ap (λ rest. all_list_merges q (pack_exprs rest)) (drop_all i es h)

pub leg_merges_left : (q : Named Origin) (ls : List Leg) (i : ℕ) (l : Leg) → i < length ls → l ≡ get_or ls i l
    → legs_list_merges q (pack_legs (map view_leg (drop i ls))) ≡ leg_list_merges q (view_leg l) + legs_list_merges q (pack_legs (map view_leg (drop (i + 1) ls)))
leg_merges_left q ls i l h p =
    at_drop_more (λ rest. legs_list_merges q (pack_legs (map view_leg rest))) ls i l h
    ∙ ap (λ u. leg_list_merges q (view_leg u) + legs_list_merges q (pack_legs (map view_leg (drop (i + 1) ls)))) (sym p)

pub no_leg_merges_left : (q : Named Origin) (ls : List Leg) (i : ℕ) → length ls ≤ i → legs_list_merges q (pack_legs (map view_leg (drop i ls))) ≡ 0
no_leg_merges_left q ls i h = ap (λ rest. legs_list_merges q (pack_legs (map view_leg rest))) (drop_all i ls h)

-- ---- starts

pub starts_left : (q : Named Origin) (es : List ExprTree) (i : ℕ) (e : ExprTree) → i < length es → e ≡ get_or es i e
    → all_start_none q (pack_exprs (drop i es)) ≡ starts_none q e && all_start_none q (pack_exprs (drop (i + 1) es))
starts_left q es i e h p = at_drop_more (λ rest. all_start_none q (pack_exprs rest)) es i e h ∙ ap (λ u. starts_none q u && all_start_none q (pack_exprs (drop (i + 1) es))) (sym p)

pub no_starts_left : (q : Named Origin) (es : List ExprTree) (i : ℕ) → length es ≤ i → all_start_none q (pack_exprs (drop i es)) ≡ true
no_starts_left q es i h = ap (λ rest. all_start_none q (pack_exprs rest)) (drop_all i es h)

pub leg_starts_left : (q : Named Origin) (ls : List Leg) (i : ℕ) (l : Leg) → i < length ls → l ≡ get_or ls i l
    → legs_start_none q (pack_legs (map view_leg (drop i ls))) ≡ leg_starts_none q (view_leg l) && legs_start_none q (pack_legs (map view_leg (drop (i + 1) ls)))
leg_starts_left q ls i l h p =
    at_drop_more (λ rest. legs_start_none q (pack_legs (map view_leg rest))) ls i l h
    ∙ ap (λ u. leg_starts_none q (view_leg u) && legs_start_none q (pack_legs (map view_leg (drop (i + 1) ls)))) (sym p)

pub no_leg_starts_left : (q : Named Origin) (ls : List Leg) (i : ℕ) → length ls ≤ i → legs_start_none q (pack_legs (map view_leg (drop i ls))) ≡ true
no_leg_starts_left q ls i h = ap (λ rest. legs_start_none q (pack_legs (map view_leg rest))) (drop_all i ls h)
