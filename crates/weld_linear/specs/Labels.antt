-- An origin whose builders are labelled anew, each by its path.
use Rattle.std.specs.Prelude.{ℕ, zero, suc, ◌∷◌}
use Rattle.weld_meaning.specs.Origin.{Path, Origin, value, made, own, outer, named, struct, Origins, no_origins, more_origins}
use Rattle.weld_linear.specs.declared.source.marks.Label.{Label}
use Rattle.weld_linear.specs.declared.source.marks.Label.TheVariants.{Own, Outer, Named}

-- a path of the lambda's own builder, a builder of outside, or a path of a name
abbrev pub label_at : Label → Path → Origin
label_at Own p = own p
label_at Outer p = outer
label_at (Named s) p = named s.0 p

-- a builder of outside stays so under a name
abbrev pub outer_at : Label → Path → Origin
outer_at Own p = own p
outer_at Outer p = outer
outer_at (Named s) p = outer

abbrev mutual
  -- the paths below one, each with its label
  pub marked : Label → Path → Origin → Origin
  marked l p value = value
  marked l p made = label_at l p
  marked l p (own q) = label_at l p
  marked l p outer = outer_at l p
  marked l p (named s q) = label_at l p
  marked l p (struct os) = struct (all_marked l zero p os)

  pub all_marked : Label → ℕ → Path → Origins → Origins
  all_marked l n p no_origins = no_origins
  all_marked l n p (more_origins o os) = more_origins (marked l (n ∷ p) o) (all_marked l (suc n) p os)
