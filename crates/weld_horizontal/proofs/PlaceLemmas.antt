-- Places of legs in what is left of a list from a place on.
use Rattle.std.proofs.Common.{◌≡◌, ℕ, suc, ◌+◌, ◌<◌, ◌≤◌, if◌then◌else◌, true, false, Option, Some, None, option_map, List, [], ◌∷◌, length, drop, get_or, map, refl, sym, ap, ◌∙◌, arith}
use Rattle.std.proofs.lemmas.List.{at_drop_more, drop_all}
use Rattle.weld_tree.specs.ExprTree.{LegTree, pack_legs}
use Rattle.weld_tree.specs.ExprView.{view_leg}
use Rattle.weld_tree.specs.declared.expr.Leg.{Leg}
use Rattle.std.specs.Prelude.{nat_lt}
use Rattle.weld_horizontal.specs.Doubles.{are_few}
use Rattle.weld_horizontal.specs.Twice.{Places, leg_name, is_that, place_in, place_of, behind_one, or_behind, twice, items, count}

-- ---- one place

abbrev pub shifted : ℕ → Option ℕ → Option ℕ
shifted i o = option_map (λ k. i + k) o

pub unshifted : (o : Option ℕ) → o ≡ shifted 0 o
unshifted None = refl
unshifted (Some k) = let e : k ≡ 0 + k = omega arith in ap Some e

one_more : (i : ℕ) (o : Option ℕ) → shifted i (option_map suc o) ≡ shifted (i + 1) o
one_more i None = refl
one_more i (Some k) = let e : i + suc k ≡ (i + 1) + k = omega arith in ap Some e

place_step : (s : ℕ) (ls : List Leg) (i : ℕ) (l : Leg) → i < length ls → l ≡ get_or ls i l
    → place_in s (pack_legs (map view_leg (drop i ls))) ≡ (if is_that s (leg_name (view_leg l)) then Some 0 else option_map suc (place_in s (pack_legs (map view_leg (drop (i + 1) ls)))))
place_step s ls i l h p =
    at_drop_more (λ rest. place_in s (pack_legs (map view_leg rest))) ls i l h
    ∙ ap (λ (u : Leg). if is_that s (leg_name (view_leg u)) then Some 0 else option_map suc (place_in s (pack_legs (map view_leg (drop (i + 1) ls))))) (sym p)

pub place_found : (s : ℕ) (ls : List Leg) (i : ℕ) (l : Leg) → i < length ls → l ≡ get_or ls i l → is_that s (leg_name (view_leg l)) ≡ true
    → shifted i (place_in s (pack_legs (map view_leg (drop i ls)))) ≡ Some i
place_found s ls i l h p q =
    let e : i + 0 ≡ i = omega arith in
    ap (shifted i) (place_step s ls i l h p ∙ ap (λ b. if b then Some 0 else option_map suc (place_in s (pack_legs (map view_leg (drop (i + 1) ls))))) q) ∙ ap Some e

pub place_missed : (s : ℕ) (ls : List Leg) (i : ℕ) (l : Leg) → i < length ls → l ≡ get_or ls i l → is_that s (leg_name (view_leg l)) ≡ false
    → shifted i (place_in s (pack_legs (map view_leg (drop i ls)))) ≡ shifted (i + 1) (place_in s (pack_legs (map view_leg (drop (i + 1) ls))))
place_missed s ls i l h p q =
    ap (shifted i) (place_step s ls i l h p ∙ ap (λ b. if b then Some 0 else option_map suc (place_in s (pack_legs (map view_leg (drop (i + 1) ls))))) q)
    ∙ one_more i (place_in s (pack_legs (map view_leg (drop (i + 1) ls))))

pub place_none : (s : ℕ) (ls : List Leg) (i : ℕ) → length ls ≤ i → shifted i (place_in s (pack_legs (map view_leg (drop i ls)))) ≡ None
place_none s ls i h = ap (λ (rest : List Leg). shifted i (place_in s (pack_legs (map view_leg rest)))) (drop_all i ls h)

-- ---- two places

abbrev pub moved_places : ℕ → Places → Places
moved_places i p = record { first = i + p.first; second = i + p.second }

abbrev pub behind : ℕ → Option Places → Option Places
behind i o = option_map (moved_places i) o

same_places : (p q : Places) → p.first ≡ q.first → p.second ≡ q.second → p ≡ q
same_places p q e f = λ i. record { first = e i; second = f i }

pub unmoved : (o : Option Places) → o ≡ behind 0 o
unmoved None = refl
unmoved (Some p) = let e : p.first ≡ 0 + p.first = omega arith in let f : p.second ≡ 0 + p.second = omega arith in ap Some (same_places p (moved_places 0 p) e f)

two_more : (i : ℕ) (o : Option Places) → behind i (option_map behind_one o) ≡ behind (i + 1) o
two_more i None = refl
two_more i (Some p) =
    let e : i + suc p.first ≡ (i + 1) + p.first = omega arith in
    let f : i + suc p.second ≡ (i + 1) + p.second = omega arith in
    ap Some (same_places (moved_places i (behind_one p)) (moved_places (i + 1) p) e f)

twice_step : (ls : List Leg) (i : ℕ) (l : Leg) → i < length ls → l ≡ get_or ls i l
    → twice (pack_legs (map view_leg (drop i ls))) ≡ or_behind (place_of (leg_name (view_leg l)) (pack_legs (map view_leg (drop (i + 1) ls)))) (twice (pack_legs (map view_leg (drop (i + 1) ls))))
twice_step ls i l h p =
    at_drop_more (λ rest. twice (pack_legs (map view_leg rest))) ls i l h
    ∙ ap (λ (u : Leg). or_behind (place_of (leg_name (view_leg u)) (pack_legs (map view_leg (drop (i + 1) ls)))) (twice (pack_legs (map view_leg (drop (i + 1) ls))))) (sym p)

pub twice_found : (ls : List Leg) (i : ℕ) (l : Leg) (k : ℕ) → i < length ls → l ≡ get_or ls i l → place_of (leg_name (view_leg l)) (pack_legs (map view_leg (drop (i + 1) ls))) ≡ Some k
    → behind i (twice (pack_legs (map view_leg (drop i ls)))) ≡ Some (record { first = i; second = i + 1 + k })
twice_found ls i l k h p q =
    let e : i + 0 ≡ i = omega arith in
    let f : i + suc k ≡ i + 1 + k = omega arith in
    ap (behind i) (twice_step ls i l h p ∙ ap (λ o. or_behind o (twice (pack_legs (map view_leg (drop (i + 1) ls))))) q)
    ∙ ap Some (same_places (record { first = i + 0; second = i + suc k }) (record { first = i; second = i + 1 + k }) e f)

pub twice_missed : (ls : List Leg) (i : ℕ) (l : Leg) → i < length ls → l ≡ get_or ls i l → place_of (leg_name (view_leg l)) (pack_legs (map view_leg (drop (i + 1) ls))) ≡ None
    → behind i (twice (pack_legs (map view_leg (drop i ls)))) ≡ behind (i + 1) (twice (pack_legs (map view_leg (drop (i + 1) ls))))
twice_missed ls i l h p q =
    ap (behind i) (twice_step ls i l h p ∙ ap (λ o. or_behind o (twice (pack_legs (map view_leg (drop (i + 1) ls))))) q)
    ∙ two_more i (twice (pack_legs (map view_leg (drop (i + 1) ls))))

pub twice_none : (ls : List Leg) (i : ℕ) → length ls ≤ i → behind i (twice (pack_legs (map view_leg (drop i ls)))) ≡ None
twice_none ls i h = ap (λ (rest : List Leg). behind i (twice (pack_legs (map view_leg rest)))) (drop_all i ls h)

-- ---- counts

pub count_legs : (ls : List LegTree) → count (items (pack_legs ls)) ≡ length ls
count_legs [] = refl
count_legs (l ∷ ls) = ap suc (count_legs ls)

pub are_few_is : (ls : List LegTree) → are_few (pack_legs ls) ≡ nat_lt (length ls) 1000000000
are_few_is ls = ap (λ n. nat_lt n 1000000000) (count_legs ls)
