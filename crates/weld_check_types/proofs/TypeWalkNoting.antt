-- Lists whose elements are changed one by one.
use Rattle.std.proofs.Common.{◌≡◌, ℕ, zero, suc, ◌+◌, ◌<◌, ◌≤◌, List, [], ◌∷◌, length, get_or, set, map, arith, sym, ap, ◌∙◌, refl, subst, Result, Ok, Err, IfOk}
use Rattle.std.proofs.lemmas.List.{get_or-map, length-map, map-set}
use Rattle.weld_meaning.specs.Typing.{Types}
use Rattle.weld_tree.specs.ExprTree.{ExprTree, LegTree, pack_exprs, pack_legs, more_exprs, more_legs}
use Rattle.weld_tree.specs.ExprFalls.{expr_nodes, exprs_nodes, leg_nodes, legs_nodes}
use Rattle.weld_tree.specs.ExprView.{view_leg}
use Rattle.weld_tree.specs.Lending.{refill, refill_is}
use Rattle.weld_tree.specs.declared.expr.Leg.{Leg}
use Rattle.weld_check_types.specs.Noted.{all_with_types, leg_with_types, legs_with_types, typed}

-- the first elements changed, as many as the number says
abbrev pub up_to : {A : Type 0} → (A → A) → ℕ → List A → List A
up_to f zero xs = xs
up_to f (suc i) [] = []
up_to f (suc i) (x ∷ xs) = f x ∷ up_to f i xs

pub up_to_length : {A : Type 0} (f : A → A) (i : ℕ) (xs : List A) → length (up_to f i xs) ≡ length xs
up_to_length f zero xs = refl
up_to_length f (suc i) [] = refl
up_to_length f (suc i) (x ∷ xs) = ap suc (up_to_length f i xs)

-- the next one is as it was
pub up_to_at : {A : Type 0} (f : A → A) (i : ℕ) (xs : List A) (d : A) → get_or (up_to f i xs) i d ≡ get_or xs i d
up_to_at f zero xs d = refl
up_to_at f (suc i) [] d = refl
up_to_at f (suc i) (x ∷ xs) d = up_to_at f i xs d

up_to_suc : {A : Type 0} (f : A → A) (i : ℕ) (xs : List A) (d : A) → i < length xs → set (up_to f i xs) i (f (get_or xs i d)) ≡ up_to f (suc i) xs
up_to_suc f zero [] d h = absurd (omega (arith, h))
up_to_suc f zero (x ∷ xs) d h = refl
up_to_suc f (suc i) [] d h = absurd (omega (arith, h))
up_to_suc f (suc i) (x ∷ xs) d h = ap (λ ys. f x ∷ ys) (up_to_suc f i xs d (omega (arith, h)))

pub up_to_set : {A : Type 0} (f : A → A) (i : ℕ) (xs : List A) (d : A) → i < length xs → set (up_to f i xs) i (f (get_or xs i d)) ≡ up_to f (i + 1) xs
up_to_set f i xs d h = let e : suc i ≡ i + 1 = omega arith in up_to_suc f i xs d h ∙ ap (λ j. up_to f j xs) e

pub up_to_all : {A : Type 0} (f : A → A) (i : ℕ) (xs : List A) → length xs ≤ i → up_to f i xs ≡ map f xs
up_to_all f zero [] h = refl
up_to_all f zero (x ∷ xs) h = absurd (omega (arith, h))
up_to_all f (suc i) [] h = refl
up_to_all f (suc i) (x ∷ xs) h = ap (λ ys. f x ∷ ys) (up_to_all f i xs (omega (arith, h)))

-- one more is changed
pub changed : {A : Type 0} (f : A → A) (i : ℕ) (was xs : List A) (now d : A) → was ≡ up_to f i xs → i < length xs → now ≡ f (get_or was i d) → set was i now ≡ up_to f (i + 1) xs
changed f i was xs now d p h q =
    ap (λ y. set was i y) q
    ∙ ap (λ ys. set ys i (f (get_or ys i d))) p
    ∙ ap (λ y. set (up_to f i xs) i (f y)) (up_to_at f i xs d)
    ∙ up_to_set f i xs d h

-- the next one, as it was
pub next : {A : Type 0} (f : A → A) (i : ℕ) (was xs : List A) (d : A) → was ≡ up_to f i xs → get_or was i d ≡ get_or xs i d
next f i was xs d p = ap (λ ys. get_or ys i d) p ∙ up_to_at f i xs d

pub all_changed : {A : Type 0} (f : A → A) (i : ℕ) (was xs : List A) → was ≡ up_to f i xs → length xs ≤ i → was ≡ map f xs
all_changed f i was xs p h = p ∙ up_to_all f i xs h

-- ---- nodes

exprs_fall : (es : List ExprTree) (i : ℕ) (d : ExprTree) → i < length es → expr_nodes (get_or es i d) ≤ exprs_nodes (pack_exprs es)
exprs_fall [] i d h = absurd (omega (arith, h))
exprs_fall (e ∷ es) zero d h = omega arith
exprs_fall (e ∷ es) (suc i) d h = omega (arith, exprs_fall es i d (omega (arith, h)))

legs_fall : (ls : List LegTree) (i : ℕ) (d : LegTree) → i < length ls → leg_nodes (get_or ls i d) ≤ legs_nodes (pack_legs ls)
legs_fall [] i d h = absurd (omega (arith, h))
legs_fall (e ∷ es) zero d h = omega arith
legs_fall (e ∷ es) (suc i) d h = omega (arith, legs_fall es i d (omega (arith, h)))

pub part_falls : (f : ExprTree → ExprTree) (i : ℕ) (was es : List ExprTree) (d : ExprTree) → was ≡ up_to f i es → i < length es → expr_nodes (get_or was i d) ≤ exprs_nodes (pack_exprs es)
part_falls f i was es d p h = subst (λ e. expr_nodes e ≤ exprs_nodes (pack_exprs es)) (sym (next f i was es d p)) (exprs_fall es i d h)

-- legs in code, of which the first are changed
as_many : (f : LegTree → LegTree) (i : ℕ) (was ls : List Leg) → map view_leg was ≡ up_to f i (map view_leg ls) → length ls ≡ length was
as_many f i was ls p = sym (length-map ls view_leg) ∙ sym (up_to_length f i (map view_leg ls)) ∙ sym (ap length p) ∙ length-map was view_leg

-- the next leg, as it was
pub next_leg : (f : LegTree → LegTree) (i : ℕ) (was ls : List Leg) (d : Leg) → map view_leg was ≡ up_to f i (map view_leg ls) → i < length ls → view_leg (get_or was i d) ≡ get_or (map view_leg ls) i (view_leg d)
next_leg f i was ls d p h = sym (get_or-map view_leg was i d (view_leg d) (subst (λ n. i < n) (as_many f i was ls p) h)) ∙ next f i (map view_leg was) (map view_leg ls) (view_leg d) p

pub leg_in_it : (i : ℕ) (ls : List Leg) → i < length ls → i < length (map view_leg ls)
leg_in_it i ls h = subst (λ n. i < n) (sym (length-map ls view_leg)) h

pub leg_falls : (f : LegTree → LegTree) (i : ℕ) (was ls : List Leg) (d : Leg) → map view_leg was ≡ up_to f i (map view_leg ls) → i < length ls → leg_nodes (view_leg (get_or was i d)) ≤ legs_nodes (pack_legs (map view_leg ls))
leg_falls f i was ls d p h = subst (λ l. leg_nodes l ≤ legs_nodes (pack_legs (map view_leg ls))) (sym (next_leg f i was ls d p h)) (legs_fall (map view_leg ls) i (view_leg d) (leg_in_it i ls h))

pub leg_changed : (f : LegTree → LegTree) (i : ℕ) (was ls : List Leg) (now d : Leg) → map view_leg was ≡ up_to f i (map view_leg ls) → i < length ls → view_leg now ≡ f (view_leg (get_or was i d))
    → map view_leg (set was i now) ≡ up_to f (i + 1) (map view_leg ls)
leg_changed f i was ls now d p h q =
    map-set view_leg was i now
    ∙ changed f i (map view_leg was) (map view_leg ls) (view_leg now) (view_leg d) p (leg_in_it i ls h)
    (q ∙ ap f (sym (get_or-map view_leg was i d (view_leg d) (subst (λ n. i < n) (as_many f i was ls p) h))))

pub no_more_legs : (i : ℕ) (ls : List Leg) → length ls ≤ i → length (map view_leg ls) ≤ i
no_more_legs i ls h = subst (λ n. n ≤ i) (sym (length-map ls view_leg)) h

-- ---- lists as data

packed : (es : List ExprTree) (g : Types) → pack_exprs (map (λ e. typed e g) es) ≡ all_with_types (pack_exprs es) g
packed [] g = refl
packed (e ∷ es) g = ap (more_exprs (typed e g)) (packed es g)

packed_legs : (ls : List LegTree) (g : Types) → pack_legs (map (λ l. leg_with_types l g) ls) ≡ legs_with_types (pack_legs ls) g
packed_legs [] g = refl
packed_legs (l ∷ ls) g = ap (more_legs (leg_with_types l g)) (packed_legs ls g)

-- what the slice was made is what the list is
pub refilled : (old was new : List ExprTree) (g : Types) → was ≡ old → new ≡ map (λ e. typed e g) was → pack_exprs (refill old new) ≡ all_with_types (pack_exprs old) g
refilled old was new g p q =
    ap pack_exprs (ap (refill old) (q ∙ ap (map (λ e. typed e g)) p) ∙ refill_is old (map (λ e. typed e g) old) (length-map old (λ e. typed e g)))
    ∙ packed old g

pub refilled_legs : (old was new : List LegTree) (g : Types) → was ≡ old → new ≡ map (λ l. leg_with_types l g) was → pack_legs (refill old new) ≡ legs_with_types (pack_legs old) g
refilled_legs old was new g p q =
    ap pack_legs (ap (refill old) (q ∙ ap (map (λ l. leg_with_types l g)) p) ∙ refill_is old (map (λ l. leg_with_types l g) old) (length-map old (λ l. leg_with_types l g)))
    ∙ packed_legs old g

-- what holds whatever is answered
pub at_any_rate : {A E : Type 0} (r : Result A E) {P : Type 0} → P → IfOk r (λ _. P)
at_any_rate (Ok x) h = h
at_any_rate (Err e) h = tt

pub and_so : {A E : Type 0} (r : Result A E) {P Q : Type 0} → (P → Q) → IfOk r (λ _. P) → IfOk r (λ _. Q)
and_so (Ok x) f h = f h
and_so (Err e) f h = h
