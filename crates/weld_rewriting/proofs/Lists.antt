-- Lists whose elements are swept one by one, from the first.
use Rattle.std.proofs.Common.{◌≡◌, ℕ, zero, suc, ◌+◌, ◌<◌, ◌≤◌, Bool, true, false, ◌||◌, List, [], ◌∷◌, length, get_or, set, map, drop, arith, sym, ap, ◌∙◌, refl, subst, Result, Ok, Err, IfOk}
use Rattle.std.proofs.lemmas.List.{get_or-map, length-map, map-set, at_drop_more, drop_all}
use Rattle.weld_tree.specs.ExprTree.{ExprTree, LegTree, pack_exprs, pack_legs, more_exprs, more_legs}
use Rattle.weld_tree.specs.ExprFalls.{expr_nodes, exprs_nodes, leg_nodes, legs_nodes}
use Rattle.weld_tree.specs.ExprView.{view_leg}
use Rattle.weld_tree.specs.Lending.{refill, refill_is}
use Rattle.weld_tree.specs.declared.expr.Leg.{Leg}
use Rattle.weld_rewriting.specs.Sweep.{RootRule, swept, all_swept, leg_swept, legs_swept, moves, some_move, leg_moves, legs_move}

-- ---- lists of which the first so many are changed

abbrev pub up_to : {A : Type 0} → (A → A) → ℕ → List A → List A
up_to f zero xs = xs
up_to f (suc i) [] = []
up_to f (suc i) (x ∷ xs) = f x ∷ up_to f i xs

as_long : {A : Type 0} (f : A → A) (i : ℕ) (xs : List A) → length (up_to f i xs) ≡ length xs
as_long f zero xs = refl
as_long f (suc i) [] = refl
as_long f (suc i) (x ∷ xs) = ap suc (as_long f i xs)

-- the next one is as it was
same_at : {A : Type 0} (f : A → A) (i : ℕ) (xs : List A) (d : A) → get_or (up_to f i xs) i d ≡ get_or xs i d
same_at f zero xs d = refl
same_at f (suc i) [] d = refl
same_at f (suc i) (x ∷ xs) d = same_at f i xs d

one_more : {A : Type 0} (f : A → A) (i : ℕ) (xs : List A) (d : A) → i < length xs → set (up_to f i xs) i (f (get_or xs i d)) ≡ up_to f (suc i) xs
one_more f zero [] d h = absurd (omega (arith, h))
one_more f zero (x ∷ xs) d h = refl
one_more f (suc i) [] d h = absurd (omega (arith, h))
one_more f (suc i) (x ∷ xs) d h = ap (λ ys. f x ∷ ys) (one_more f i xs d (omega (arith, h)))

all_of_them : {A : Type 0} (f : A → A) (i : ℕ) (xs : List A) → length xs ≤ i → up_to f i xs ≡ map f xs
all_of_them f zero [] h = refl
all_of_them f zero (x ∷ xs) h = absurd (omega (arith, h))
all_of_them f (suc i) [] h = refl
all_of_them f (suc i) (x ∷ xs) h = ap (λ ys. f x ∷ ys) (all_of_them f i xs (omega (arith, h)))

pub next_one : {A : Type 0} (f : A → A) (i : ℕ) (was xs : List A) (d : A) → was ≡ up_to f i xs → get_or was i d ≡ get_or xs i d
next_one f i was xs d p = ap (λ ys. get_or ys i d) p ∙ same_at f i xs d

pub changed : {A : Type 0} (f : A → A) (i : ℕ) (was xs : List A) (now d : A) → was ≡ up_to f i xs → i < length xs → now ≡ f (get_or was i d) → set was i now ≡ up_to f (i + 1) xs
changed f i was xs now d p h q =
    let e : suc i ≡ i + 1 = omega arith in
    ap (λ y. set was i y) (q ∙ ap f (next_one f i was xs d p)) ∙ ap (λ ys. set ys i (f (get_or xs i d))) p ∙ one_more f i xs d h ∙ ap (λ j. up_to f j xs) e

pub all_changed : {A : Type 0} (f : A → A) (i : ℕ) (was xs : List A) → was ≡ up_to f i xs → length xs ≤ i → was ≡ map f xs
all_changed f i was xs p h = p ∙ all_of_them f i xs h

-- ---- sizes

part_of_list : (es : List ExprTree) (i : ℕ) (d : ExprTree) → i < length es → expr_nodes (get_or es i d) ≤ exprs_nodes (pack_exprs es)
part_of_list [] i d h = absurd (omega (arith, h))
part_of_list (e ∷ es) zero d h = omega arith
part_of_list (e ∷ es) (suc i) d h = omega (arith, part_of_list es i d (omega (arith, h)))

leg_of_list : (ls : List LegTree) (i : ℕ) (d : LegTree) → i < length ls → leg_nodes (get_or ls i d) ≤ legs_nodes (pack_legs ls)
leg_of_list [] i d h = absurd (omega (arith, h))
leg_of_list (l ∷ ls) zero d h = omega arith
leg_of_list (l ∷ ls) (suc i) d h = omega (arith, leg_of_list ls i d (omega (arith, h)))

pub part_falls : (f : ExprTree → ExprTree) (i : ℕ) (was es : List ExprTree) (d : ExprTree) → was ≡ up_to f i es → i < length es → expr_nodes (get_or was i d) ≤ exprs_nodes (pack_exprs es)
part_falls f i was es d p h = subst (λ e. expr_nodes e ≤ exprs_nodes (pack_exprs es)) (sym (next_one f i was es d p)) (part_of_list es i d h)

-- ---- legs in code

as_many : (f : LegTree → LegTree) (i : ℕ) (was ls : List Leg) → map view_leg was ≡ up_to f i (map view_leg ls) → length ls ≡ length was
as_many f i was ls p = sym (length-map ls view_leg) ∙ sym (as_long f i (map view_leg ls)) ∙ sym (ap length p) ∙ length-map was view_leg

pub next_leg : (f : LegTree → LegTree) (i : ℕ) (was ls : List Leg) (d : Leg) → map view_leg was ≡ up_to f i (map view_leg ls) → i < length ls → view_leg (get_or was i d) ≡ get_or (map view_leg ls) i (view_leg d)
next_leg f i was ls d p h = sym (get_or-map view_leg was i d (view_leg d) (subst (λ n. i < n) (as_many f i was ls p) h)) ∙ next_one f i (map view_leg was) (map view_leg ls) (view_leg d) p

pub leg_there : (i : ℕ) (ls : List Leg) → i < length ls → i < length (map view_leg ls)
leg_there i ls h = subst (λ n. i < n) (sym (length-map ls view_leg)) h

pub leg_falls : (f : LegTree → LegTree) (i : ℕ) (was ls : List Leg) (d : Leg) → map view_leg was ≡ up_to f i (map view_leg ls) → i < length ls → leg_nodes (view_leg (get_or was i d)) ≤ legs_nodes (pack_legs (map view_leg ls))
leg_falls f i was ls d p h = subst (λ l. leg_nodes l ≤ legs_nodes (pack_legs (map view_leg ls))) (sym (next_leg f i was ls d p h)) (leg_of_list (map view_leg ls) i (view_leg d) (leg_there i ls h))

pub leg_changed : (f : LegTree → LegTree) (i : ℕ) (was ls : List Leg) (now d : Leg) → map view_leg was ≡ up_to f i (map view_leg ls) → i < length ls → view_leg now ≡ f (view_leg (get_or was i d))
    → map view_leg (set was i now) ≡ up_to f (i + 1) (map view_leg ls)
leg_changed f i was ls now d p h q =
    map-set view_leg was i now
    ∙ changed f i (map view_leg was) (map view_leg ls) (view_leg now) (view_leg d) p (leg_there i ls h)
    (q ∙ ap f (sym (get_or-map view_leg was i d (view_leg d) (subst (λ n. i < n) (as_many f i was ls p) h))))

pub no_leg_left : (i : ℕ) (ls : List Leg) → length ls ≤ i → length (map view_leg ls) ≤ i
no_leg_left i ls h = subst (λ n. n ≤ i) (sym (length-map ls view_leg)) h

-- ---- what was found

pub or_more : (a b c : Bool) → ((a || b) || c) ≡ (a || (b || c))
or_more true b c = refl
or_more false b c = refl

or_none : (a : Bool) → (a || false) ≡ a
or_none true = refl
or_none false = refl

-- one more is looked at
pub found_more : (r : RootRule) (es : List ExprTree) (i : ℕ) (d : ExprTree) (so_far here : Bool) → i < length es → here ≡ moves r (get_or es i d)
    → (so_far || some_move r (pack_exprs (drop i es))) ≡ ((so_far || here) || some_move r (pack_exprs (drop (i + 1) es)))
found_more r es i d so_far here h p =
    ap (λ b. so_far || b) (at_drop_more (λ rest. some_move r (pack_exprs rest)) es i d h)
    ∙ ap (λ b. so_far || (b || some_move r (pack_exprs (drop (i + 1) es)))) (sym p)
    ∙ sym (or_more so_far here (some_move r (pack_exprs (drop (i + 1) es))))

pub found_all : (r : RootRule) (es : List ExprTree) (i : ℕ) (so_far : Bool) → length es ≤ i → (so_far || some_move r (pack_exprs (drop i es))) ≡ so_far
found_all r es i so_far h = ap (λ rest. so_far || some_move r (pack_exprs rest)) (drop_all i es h) ∙ or_none so_far

pub leg_found : (r : RootRule) (ls : List LegTree) (i : ℕ) (d : LegTree) (so_far here : Bool) → i < length ls → here ≡ leg_moves r (get_or ls i d)
    → (so_far || legs_move r (pack_legs (drop i ls))) ≡ ((so_far || here) || legs_move r (pack_legs (drop (i + 1) ls)))
leg_found r ls i d so_far here h p =
    ap (λ b. so_far || b) (at_drop_more (λ rest. legs_move r (pack_legs rest)) ls i d h)
    ∙ ap (λ b. so_far || (b || legs_move r (pack_legs (drop (i + 1) ls)))) (sym p)
    ∙ sym (or_more so_far here (legs_move r (pack_legs (drop (i + 1) ls))))

pub legs_found : (r : RootRule) (ls : List LegTree) (i : ℕ) (so_far : Bool) → length ls ≤ i → (so_far || legs_move r (pack_legs (drop i ls))) ≡ so_far
legs_found r ls i so_far h = ap (λ rest. so_far || legs_move r (pack_legs rest)) (drop_all i ls h) ∙ or_none so_far

-- ---- lists as data

packed : (r : RootRule) (es : List ExprTree) → pack_exprs (map (swept r) es) ≡ all_swept r (pack_exprs es)
packed r [] = refl
packed r (e ∷ es) = ap (more_exprs (swept r e)) (packed r es)

packed_legs : (r : RootRule) (ls : List LegTree) → pack_legs (map (leg_swept r) ls) ≡ legs_swept r (pack_legs ls)
packed_legs r [] = refl
packed_legs r (l ∷ ls) = ap (more_legs (leg_swept r l)) (packed_legs r ls)

-- what the slice was made is what the list is
pub list_swept : (r : RootRule) (old was new : List ExprTree) → was ≡ old → new ≡ map (swept r) was → pack_exprs (refill old new) ≡ all_swept r (pack_exprs old)
list_swept r old was new p q =
    ap pack_exprs (ap (refill old) (q ∙ ap (map (swept r)) p) ∙ refill_is old (map (swept r) old) (length-map old (swept r))) ∙ packed r old

pub legs_list_swept : (r : RootRule) (old was new : List LegTree) → was ≡ old → new ≡ map (leg_swept r) was → pack_legs (refill old new) ≡ legs_swept r (pack_legs old)
legs_list_swept r old was new p q =
    ap pack_legs (ap (refill old) (q ∙ ap (map (leg_swept r)) p) ∙ refill_is old (map (leg_swept r) old) (length-map old (leg_swept r))) ∙ packed_legs r old

pub and_so : {A E : Type 0} (r : Result A E) {P Q : Type 0} → (P → Q) → IfOk r (λ _. P) → IfOk r (λ _. Q)
and_so (Ok x) f h = f h
and_so (Err e) f h = h
