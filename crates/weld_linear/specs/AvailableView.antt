-- The builders that are available, as plain data.
use Rattle.std.specs.Prelude.{ℕ, ◌==◌, Bool, true, false, ◌&&◌, List, [], ◌∷◌, map}
use Rattle.weld_meaning.specs.Origin.{Path, Origin}
use Rattle.weld_meaning.specs.Available.{same_path, is_below, is_builder_path}
use Rattle.weld_meaning.specs.LinearWalk.{Left}
use Rattle.weld_linear.specs.declared.available.Builder.{Builder}

abbrev pub view_builder : Builder → ℕ × Path
view_builder b = (b.name.0, b.path)

-- the same builders in the same order
abbrev pub same_left : Left → Left → Bool
same_left [] [] = true
same_left [] (f ∷ fs) = false
same_left (e ∷ es) [] = false
same_left (e ∷ es) (f ∷ fs) = ((e.0 == f.0) && same_path e.1 f.1) && same_left es fs

-- it is a builder of the name, of this origin, at or below the path
abbrev pub stands_below : ℕ → Path → Origin → ℕ × Path → Bool
stands_below s p o e = (s == e.0) && (is_below p e.1 && is_builder_path o e.1)

-- the builders of the name at these paths
abbrev pub of_name : ℕ → List Path → Left
of_name s ps = map (λ (q : Path). (s, q)) ps
