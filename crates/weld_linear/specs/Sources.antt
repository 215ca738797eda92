-- Origins in order, their sizes, and a code from which origins can be read back.
use Rattle.std.specs.Prelude.{◌≡◌, ℕ, zero, suc, ◌+◌, ◌*◌, ◌≤◌, List, [], ◌∷◌, refl}
use Rattle.std.proofs.Common.{ap, arith}
use Rattle.std.specs.Coded.{Coded, code_by}
use base.Stored.{Gv, gnil, gnum, gcons, num}
use denote.Struct.Codes.{itself}
use denote.Param.Weighed.{most}
use Rattle.weld_meaning.specs.Origin.{Path, Origin, value, made, own, outer, named, struct, Origins, no_origins, more_origins}

-- the origins of a list, as data
abbrev pub pack_origins : List Origin → Origins
pack_origins [] = no_origins
pack_origins (o ∷ os) = more_origins o (pack_origins os)

abbrev pub head : Gv → Gv
head gnil = gnil
head (gnum n) = gnil
head (gcons a b) = a

abbrev pub tail : Gv → Gv
tail gnil = gnil
tail (gnum n) = gnil
tail (gcons a b) = b

abbrev pub code_path : Path → Gv
code_path [] = gnil
code_path (n ∷ p) = gcons (gnum n) (code_path p)

abbrev pub path_of : Gv → Path
path_of gnil = []
path_of (gnum n) = []
path_of (gcons a b) = num a ∷ path_of b

pub path_of-code_path : (p : Path) → path_of (code_path p) ≡ p
path_of-code_path [] = refl
path_of-code_path (n ∷ p) = ap (λ q. n ∷ q) (path_of-code_path p)

abbrev mutual
  pub code_origin : Origin → Gv
  code_origin value = gcons (gnum 0) gnil
  code_origin made = gcons (gnum 1) gnil
  code_origin (own p) = gcons (gnum 2) (code_path p)
  code_origin outer = gcons (gnum 3) gnil
  code_origin (named s p) = gcons (gnum 4) (gcons (gnum s) (code_path p))
  code_origin (struct os) = gcons (gnum 5) (code_origins os)

  pub code_origins : Origins → Gv
  code_origins no_origins = gnil
  code_origins (more_origins o os) = gcons (code_origin o) (code_origins os)

abbrev origin_by : ℕ → Gv → Origins → Origin
origin_by zero g os = value
origin_by (suc zero) g os = made
origin_by (suc (suc zero)) g os = own (path_of g)
origin_by (suc (suc (suc zero))) g os = outer
origin_by (suc (suc (suc (suc zero)))) g os = named (num (head g)) (path_of (tail g))
origin_by (suc (suc (suc (suc (suc n))))) g os = struct os

-- what a code is a code of, read as either of the two
abbrev pub back : Gv → Origin × Origins
back gnil = (value, no_origins)
back (gnum n) = (value, no_origins)
back (gcons a b) = (origin_by (num a) b (back b).1, more_origins (back a).0 (back b).1)

mutual
  pub back-code_origin : (o : Origin) → (back (code_origin o)).0 ≡ o
  back-code_origin value = refl
  back-code_origin made = refl
  back-code_origin (own p) = ap own (path_of-code_path p)
  back-code_origin outer = refl
  back-code_origin (named s p) = ap (named s) (path_of-code_path p)
  back-code_origin (struct os) = ap struct (back-code_origins os)

  pub back-code_origins : (os : Origins) → (back (code_origins os)).1 ≡ os
  back-code_origins no_origins = refl
  back-code_origins (more_origins o os) = λ i. more_origins (back-code_origin o i) (back-code_origins os i)

abbrev pub coded_origin : Coded Origin
coded_origin = code_by Gv itself code_origin (λ g. (back g).0) back-code_origin

-- how many nodes an origin has
abbrev mutual
  pub origin_nodes : Origin → ℕ
  origin_nodes value = 1
  origin_nodes made = 1
  origin_nodes (own p) = 1
  origin_nodes outer = 1
  origin_nodes (named s p) = 1
  origin_nodes (struct os) = 1 + origins_nodes os

  pub origins_nodes : Origins → ℕ
  origins_nodes no_origins = 0
  origins_nodes (more_origins o os) = origin_nodes o + origins_nodes os

-- twice the nodes, so that a struct and the list of its fields differ
abbrev pub origin_size : Origin → ℕ
origin_size o = 2 * origin_nodes o

abbrev pub origins_size : List Origin → ℕ
origins_size os = 2 * origins_nodes (pack_origins os) + 1

pub most-origins_size : (os : List Origin) → most (λ o. origin_size o + 1) os ≤ origins_size os
most-origins_size [] = omega arith
most-origins_size (o ∷ os) = omega (arith, most-origins_size os)
