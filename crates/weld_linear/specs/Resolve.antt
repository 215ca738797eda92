-- Origins by names read as what stands there.
use Rattle.std.specs.Prelude.{[], ◌∷◌}
use Rattle.weld_meaning.specs.Environment.{Named}
use Rattle.weld_meaning.specs.Origin.{Path, Origin, value, made, own, outer, named, struct, Origins, no_origins, more_origins, field_origin, origin_of_name}

-- what field accesses lead to
abbrev pub follow : Path → Origin → Origin
follow [] o = o
follow (n ∷ p) o = field_origin n (follow p o)

-- each path of a name as what stands there
abbrev mutual
  pub resolve : Named Origin → Origin → Origin
  resolve h value = value
  resolve h made = made
  resolve h (own p) = own p
  resolve h outer = outer
  resolve h (named s p) = follow p (origin_of_name s h)
  resolve h (struct os) = struct (all_resolve h os)

  pub all_resolve : Named Origin → Origins → Origins
  all_resolve h no_origins = no_origins
  all_resolve h (more_origins o os) = more_origins (resolve h o) (all_resolve h os)
