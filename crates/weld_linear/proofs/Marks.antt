-- Labels by path are those of the meaning.
use Rattle.std.proofs.Common.{◌≡◌, ℕ, zero, suc, [], ◌∷◌, refl, ap}
use Rattle.weld_tree.specs.declared.sym.Sym.{Sym}
use Rattle.weld_meaning.specs.Origin.{Path, Origin, value, made, own, outer, named, struct, Origins, no_origins, more_origins, own_below, own_fields, own_paths, from_within, all_from_within, named_below, named_fields}
use Rattle.weld_linear.specs.Labels.{marked, all_marked}
use Rattle.weld_linear.specs.declared.source.marks.Label.TheVariants.{Own, Outer, Named}

mutual
  pub marked_own_below : (p : Path) (o : Origin) → marked Own p o ≡ own_below p o
  marked_own_below p value = refl
  marked_own_below p made = refl
  marked_own_below p (own q) = refl
  marked_own_below p outer = refl
  marked_own_below p (named s q) = refl
  marked_own_below p (struct os) = ap struct (all_marked_own zero p os)

  all_marked_own : (n : ℕ) (p : Path) (os : Origins) → all_marked Own n p os ≡ own_fields n p os
  all_marked_own n p no_origins = refl
  all_marked_own n p (more_origins o os) = λ i. more_origins (marked_own_below (n ∷ p) o i) (all_marked_own (suc n) p os i)

mutual
  pub marked_outer : (p : Path) (o : Origin) → marked Outer p o ≡ from_within o
  marked_outer p value = refl
  marked_outer p made = refl
  marked_outer p (own q) = refl
  marked_outer p outer = refl
  marked_outer p (named s q) = refl
  marked_outer p (struct os) = ap struct (all_marked_outer zero p os)

  all_marked_outer : (n : ℕ) (p : Path) (os : Origins) → all_marked Outer n p os ≡ all_from_within os
  all_marked_outer n p no_origins = refl
  all_marked_outer n p (more_origins o os) = λ i. more_origins (marked_outer (n ∷ p) o i) (all_marked_outer (suc n) p os i)

mutual
  pub marked_named : (s : Sym) (p : Path) (o : Origin) → marked (Named s) p o ≡ named_below s.0 p o
  marked_named s p value = refl
  marked_named s p made = refl
  marked_named s p (own q) = refl
  marked_named s p outer = refl
  marked_named s p (named t q) = refl
  marked_named s p (struct os) = ap struct (all_marked_named s zero p os)

  all_marked_named : (s : Sym) (n : ℕ) (p : Path) (os : Origins) → all_marked (Named s) n p os ≡ named_fields s.0 n p os
  all_marked_named s n p no_origins = refl
  all_marked_named s n p (more_origins o os) = λ i. more_origins (marked_named s (n ∷ p) o i) (all_marked_named s (suc n) p os i)

pub marked_own : (o : Origin) → marked Own [] o ≡ own_paths o
marked_own o = marked_own_below [] o
