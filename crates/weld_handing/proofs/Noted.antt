-- Types of fields that are noted anew one by one, from the first.
use Rattle.std.proofs.Common.{◌≡◌, ℕ, zero, suc, ◌+◌, ◌<◌, ◌≤◌, List, [], ◌∷◌, length, get_or, set, refl, ap, ◌∙◌, arith}
use Rattle.weld_tree.specs.TypeTree.{TypeTree, pack, more_types}
use Rattle.weld_meaning.specs.Origin.{Origin, value}
use Rattle.weld_linear.specs.Sources.{pack_origins, origin_nodes, origins_nodes}
use Rattle.weld_handing.specs.Handing.{handed_type, handed_types}

-- the first origin, and those behind it; where there is none, that of a value
abbrev pub first_of : List Origin → Origin
first_of [] = value
first_of (o ∷ os) = o

abbrev pub rest_of : List Origin → List Origin
rest_of [] = []
rest_of (o ∷ os) = os

-- the first so many types noted anew
abbrev pub typed : TypeTree → ℕ → List Origin → List TypeTree → List TypeTree
typed t zero os us = us
typed t (suc i) os [] = []
typed t (suc i) os (u ∷ us) = handed_type t (first_of os) u ∷ typed t i (rest_of os) us

-- the next one is as it was
next_type : (t : TypeTree) (i : ℕ) (os : List Origin) (us : List TypeTree) (d : TypeTree) → get_or (typed t i os us) i d ≡ get_or us i d
next_type t zero os us d = refl
next_type t (suc i) os [] d = refl
next_type t (suc i) os (u ∷ us) d = next_type t i (rest_of os) us d

one_more : (t : TypeTree) (i : ℕ) (os : List Origin) (us : List TypeTree) (o : Origin) (d : TypeTree) → i < length us → i < length os → set (typed t i os us) i (handed_type t (get_or os i o) (get_or us i d)) ≡ typed t (suc i) os us
one_more t i os [] o d h k = absurd (omega (arith, h))
one_more t i [] (u ∷ us) o d h k = absurd (omega (arith, k))
one_more t zero (p ∷ os) (u ∷ us) o d h k = refl
one_more t (suc i) (p ∷ os) (u ∷ us) o d h k = ap (λ ys. handed_type t p u ∷ ys) (one_more t i os us o d (omega (arith, h)) (omega (arith, k)))

kept_on : (t : TypeTree) (i : ℕ) (os : List Origin) (us : List TypeTree) → length os ≤ i → typed t i os us ≡ typed t (suc i) os us
kept_on t zero os [] k = refl
kept_on t zero [] (u ∷ us) k = refl
kept_on t zero (p ∷ os) (u ∷ us) k = absurd (omega (arith, k))
kept_on t (suc i) os [] k = refl
kept_on t (suc i) [] (u ∷ us) k = ap (λ ys. u ∷ ys) (kept_on t i [] us (omega arith))
kept_on t (suc i) (p ∷ os) (u ∷ us) k = ap (λ ys. handed_type t p u ∷ ys) (kept_on t i os us (omega (arith, k)))

pub type_changed : (t : TypeTree) (i : ℕ) (os : List Origin) (was us : List TypeTree) (o : Origin) (now d : TypeTree) → was ≡ typed t i os us → i < length us → i < length os → o ≡ get_or os i o → now ≡ handed_type t o (get_or was i d)
    → set was i now ≡ typed t (i + 1) os us
type_changed t i os was us o now d p h k e q =
    let z : suc i ≡ i + 1 = omega arith in
    (λ j. set (p j) i ((q ∙ ap (λ ys. handed_type t o (get_or ys i d)) p ∙ ap (handed_type t o) (next_type t i os us d) ∙ ap (λ r. handed_type t r (get_or us i d)) e) j))
    ∙ one_more t i os us o d h k ∙ ap (λ j. typed t j os us) z

set_own : (xs : List TypeTree) (i : ℕ) (d : TypeTree) → set xs i (get_or xs i d) ≡ xs
set_own [] zero d = refl
set_own [] (suc i) d = refl
set_own (x ∷ xs) zero d = refl
set_own (x ∷ xs) (suc i) d = ap (λ ys. x ∷ ys) (set_own xs i d)

pub type_kept : (t : TypeTree) (i : ℕ) (os : List Origin) (was us : List TypeTree) (d : TypeTree) → was ≡ typed t i os us → length os ≤ i → set was i (get_or was i d) ≡ typed t (i + 1) os us
type_kept t i os was us d p k = let z : suc i ≡ i + 1 = omega arith in set_own was i d ∙ p ∙ kept_on t i os us k ∙ ap (λ j. typed t j os us) z

all_of_them : (t : TypeTree) (i : ℕ) (os : List Origin) (us : List TypeTree) → length us ≤ i → pack (typed t i os us) ≡ handed_types t (pack_origins os) (pack us)
all_of_them t zero [] [] h = refl
all_of_them t zero (o ∷ os) [] h = refl
all_of_them t (suc i) [] [] h = refl
all_of_them t (suc i) (o ∷ os) [] h = refl
all_of_them t zero os (u ∷ us) h = absurd (omega (arith, h))
all_of_them t (suc i) [] (u ∷ us) h = ap (more_types u) (all_of_them t i [] us (omega (arith, h)))
all_of_them t (suc i) (o ∷ os) (u ∷ us) h = ap (more_types (handed_type t o u)) (all_of_them t i os us (omega (arith, h)))

pub all_typed : (t : TypeTree) (i : ℕ) (os : List Origin) (was us : List TypeTree) → was ≡ typed t i os us → length us ≤ i → pack was ≡ handed_types t (pack_origins os) (pack us)
all_typed t i os was us p h = ap pack p ∙ all_of_them t i os us h

origin_under : (os : List Origin) (k : ℕ) (d : Origin) → k < length os → origin_nodes (get_or os k d) ≤ origins_nodes (pack_origins os)
origin_under [] k d h = absurd (omega (arith, h))
origin_under (o ∷ os) zero d h = omega arith
origin_under (o ∷ os) (suc k) d h = omega (arith, origin_under os k d (omega (arith, h)))

-- an origin of a list has no more nodes than the list
pub origin_less : (os : List Origin) (i : ℕ) (o : Origin) → i < length os → o ≡ get_or os i o → origin_nodes o ≤ origins_nodes (pack_origins os)
origin_less os i o h e = ap_less (get_or os i o) o e (origin_under os i o h)
  where
    ap_less : (p r : Origin) → r ≡ p → origin_nodes p ≤ origins_nodes (pack_origins os) → origin_nodes r ≤ origins_nodes (pack_origins os)
    ap_less p r f k = let n : origin_nodes r ≡ origin_nodes p = ap origin_nodes f in omega (arith, n, k)
