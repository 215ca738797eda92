-- Where builders come from, and which are left, under other numbers.
use Rattle.std.specs.Prelude.{◌≡◌, ◌⊎◌, ℕ, [], ◌∷◌, map}
use Rattle.weld_meaning.specs.Environment.{Named}
use Rattle.weld_meaning.specs.Origin.{Path, Origin, value, made, own, outer, named, struct, Origins, no_origins, more_origins, origin_of_name}
use Rattle.weld_meaning.specs.LinearWalk.{Left}
use Rattle.weld_objects.specs.Renamed.{Renaming, IsAlone}

abbrev mutual
  -- the origin with each name in it under its new number
  pub renamed_origin : Renaming → Origin → Origin
  renamed_origin r value = value
  renamed_origin r made = made
  renamed_origin r (own p) = own p
  renamed_origin r outer = outer
  renamed_origin r (named s p) = named (r s) p
  renamed_origin r (struct os) = struct (origins_renamed r os)

  pub origins_renamed : Renaming → Origins → Origins
  origins_renamed r no_origins = no_origins
  origins_renamed r (more_origins o os) = more_origins (renamed_origin r o) (origins_renamed r os)

-- the builders that are available, their names under new numbers
abbrev pub left_renamed : Renaming → Left → Left
left_renamed r left = map (λ (e : ℕ × Path). (r e.0, e.1)) left

abbrev mutual
  -- each name in the origin is alone
  pub HoldsAlone : Renaming → Origin → Type 0
  HoldsAlone r value = Unit {0}
  HoldsAlone r made = Unit {0}
  HoldsAlone r (own p) = Unit {0}
  HoldsAlone r outer = Unit {0}
  HoldsAlone r (named s p) = IsAlone r s
  HoldsAlone r (struct os) = AllHoldAlone r os

  pub AllHoldAlone : Renaming → Origins → Type 0
  AllHoldAlone r no_origins = Unit {0}
  AllHoldAlone r (more_origins o os) = HoldsAlone r o × AllHoldAlone r os

-- the name of each available builder is alone
abbrev pub AreAlone : Renaming → Left → Type 0
AreAlone r [] = Unit {0}
AreAlone r (e ∷ es) = IsAlone r e.0 × AreAlone r es

-- a number has the same origin in the second, under its new number, as in the first; one that isn't alone is a value, and
-- so takes no builder
pub record OriginsHaveMoved (r : Renaming) (g h : Named Origin) : Type 0 where
  pub same : (s : ℕ) → origin_of_name (r s) h ≡ renamed_origin r (origin_of_name s g)
  pub alone : (s : ℕ) → (origin_of_name s g ≡ value) ⊎ IsAlone r s
  pub holds : (s : ℕ) → HoldsAlone r (origin_of_name s g)
