-- Where a handed body's answers come from: from where the body's do, with the other loop's builder in place of the list's.
use Rattle.std.proofs.Common.{◌≡◌, ℕ, zero, suc, Bool, true, false, ◌&&◌, ◌||◌, if◌then◌else◌, [], refl, ap, sym, subst, ◌∙◌}
use Rattle.weld_meaning.specs.Origin.{Path, Origin, value, made, own, outer, named, struct, Origins, no_origins, more_origins, origin_at, field_origin, is_value, are_values, struct_origin, own_below, own_paths, named_below}
use Rattle.weld_handing.specs.Handing.{is_held, holds, some_hold}

-- ---- one origin, with the other loop's builder in place of the list's

-- the paths below an own one or one of a name, where a builder of this origin stands there
abbrev pub grown : Origin → Origin → Origin
grown start value = value
grown start made = made
grown start (own p) = own_below p start
grown start outer = outer
grown start (named s p) = named_below s p (own_paths start)
grown start (struct os) = struct os

abbrev mutual
  -- the second, where the first holds the list's builder as the paths of the other's
  pub handed_origin : Origin → Origin → Origin → Origin
  handed_origin start value u = u
  handed_origin start made u = u
  handed_origin start (own p) u = grown start u
  handed_origin start outer u = u
  handed_origin start (named s p) u = u
  handed_origin start (struct os) value = value
  handed_origin start (struct os) made = made
  handed_origin start (struct os) (own p) = own p
  handed_origin start (struct os) outer = outer
  handed_origin start (struct os) (named s p) = named s p
  handed_origin start (struct os) (struct us) = struct (handed_origins start os us)

  pub handed_origins : Origin → Origins → Origins → Origins
  handed_origins start no_origins us = us
  handed_origins start (more_origins o os) no_origins = no_origins
  handed_origins start (more_origins o os) (more_origins u us) = more_origins (handed_origin start o u) (handed_origins start os us)

-- an own path or one of a name
abbrev pub IsPath : Origin → Type 0
IsPath value = ⊥
IsPath made = ⊥
IsPath (own p) = Unit {0}
IsPath outer = ⊥
IsPath (named s p) = Unit {0}
IsPath (struct os) = ⊥

-- a builder that isn't held
abbrev IsBuilt : Origin → Type 0
IsBuilt value = ⊥
IsBuilt made = Unit {0}
IsBuilt (own p) = Unit {0}
IsBuilt outer = Unit {0}
IsBuilt (named s p) = Unit {0}
IsBuilt (struct os) = ⊥

abbrev IsValue : Origin → Type 0
IsValue value = Unit {0}
IsValue made = ⊥
IsValue (own p) = ⊥
IsValue outer = ⊥
IsValue (named s p) = ⊥
IsValue (struct os) = ⊥

abbrev mutual
  -- both are values, builders or structs of such, and what the first holds is the builder itself and a path in the second
  pub Alike : Origin → Origin → Type 0
  Alike value u = IsValue u
  Alike made u = IsBuilt u
  Alike (own p) u = (p ≡ []) × IsPath u
  Alike outer u = IsBuilt u
  Alike (named s p) u = IsBuilt u
  Alike (struct os) value = ⊥
  Alike (struct os) made = ⊥
  Alike (struct os) (own p) = ⊥
  Alike (struct os) outer = ⊥
  Alike (struct os) (named s p) = ⊥
  Alike (struct os) (struct us) = AllAlike os us

  pub AllAlike : Origins → Origins → Type 0
  AllAlike no_origins no_origins = Unit {0}
  AllAlike no_origins (more_origins u us) = ⊥
  AllAlike (more_origins o os) no_origins = ⊥
  AllAlike (more_origins o os) (more_origins u us) = Alike o u × AllAlike os us

-- ---- values, fields and structs

same_value : (o u : Origin) → Alike o u → is_value u ≡ is_value o
same_value value value h = refl
same_value value made h = absurd h
same_value value (own p) h = absurd h
same_value value outer h = absurd h
same_value value (named s p) h = absurd h
same_value value (struct us) h = absurd h
same_value made value h = absurd h
same_value made made h = refl
same_value made (own p) h = refl
same_value made outer h = refl
same_value made (named s p) h = refl
same_value made (struct us) h = absurd h
same_value (own q) value h = absurd h.1
same_value (own q) made h = absurd h.1
same_value (own q) (own p) h = refl
same_value (own q) outer h = absurd h.1
same_value (own q) (named s p) h = refl
same_value (own q) (struct us) h = absurd h.1
same_value outer value h = absurd h
same_value outer made h = refl
same_value outer (own p) h = refl
same_value outer outer h = refl
same_value outer (named s p) h = refl
same_value outer (struct us) h = absurd h
same_value (named t q) value h = absurd h
same_value (named t q) made h = refl
same_value (named t q) (own p) h = refl
same_value (named t q) outer h = refl
same_value (named t q) (named s p) h = refl
same_value (named t q) (struct us) h = absurd h
same_value (struct os) value h = absurd h
same_value (struct os) made h = absurd h
same_value (struct os) (own p) h = absurd h
same_value (struct os) outer h = absurd h
same_value (struct os) (named s p) h = absurd h
same_value (struct os) (struct us) h = refl

same_values : (os us : Origins) → AllAlike os us → are_values us ≡ are_values os
same_values no_origins no_origins h = refl
same_values no_origins (more_origins u us) h = absurd h
same_values (more_origins o os) no_origins h = absurd h
same_values (more_origins o os) (more_origins u us) h = λ i. same_value o u h.0 i && same_values os us h.1 i

-- a value's is a value
pub value_alike : (o u : Origin) → is_value o ≡ true → Alike o u → u ≡ value
value_alike o u e h = by u (same_value o u h ∙ e)
  where
    by : (u : Origin) → is_value u ≡ true → u ≡ value
    by value e = refl
    by made e = let nothing : ⊥ = cc in absurd nothing
    by (own p) e = let nothing : ⊥ = cc in absurd nothing
    by outer e = let nothing : ⊥ = cc in absurd nothing
    by (named s p) e = let nothing : ⊥ = cc in absurd nothing
    by (struct us) e = let nothing : ⊥ = cc in absurd nothing

built_field : (n : ℕ) (u : Origin) → IsBuilt u → IsBuilt (field_origin n u)
built_field n value h = absurd h
built_field n made h = tt
built_field n (own p) h = tt
built_field n outer h = tt
built_field n (named s p) h = tt
built_field n (struct os) h = absurd h

value_field : (n : ℕ) (u : Origin) → IsValue u → IsValue (field_origin n u)
value_field n value h = tt
value_field n made h = absurd h
value_field n (own p) h = absurd h
value_field n outer h = absurd h
value_field n (named s p) h = absurd h
value_field n (struct os) h = absurd h

at_alike : (n : ℕ) (os us : Origins) → AllAlike os us → Alike (origin_at n os) (origin_at n us)
at_alike zero no_origins no_origins h = tt
at_alike (suc n) no_origins no_origins h = tt
at_alike n no_origins (more_origins u us) h = absurd h
at_alike n (more_origins o os) no_origins h = absurd h
at_alike zero (more_origins o os) (more_origins u us) h = h.0
at_alike (suc n) (more_origins o os) (more_origins u us) h = at_alike n os us h.1

-- a field of what isn't held
pub field_alike : (n : ℕ) (o u : Origin) → is_held o ≡ false → Alike o u → Alike (field_origin n o) (field_origin n u)
field_alike n value u e h = value_field n u h
field_alike n made u e h = built_field n u h
field_alike n (own p) u e h = let nothing : ⊥ = cc in absurd nothing
field_alike n outer u e h = built_field n u h
field_alike n (named s p) u e h = built_field n u h
field_alike n (struct os) value e h = absurd h
field_alike n (struct os) made e h = absurd h
field_alike n (struct os) (own p) e h = absurd h
field_alike n (struct os) outer e h = absurd h
field_alike n (struct os) (named s p) e h = absurd h
field_alike n (struct os) (struct us) e h = at_alike n os us h

pub struct_alike : (os us : Origins) → AllAlike os us → Alike (struct_origin os) (struct_origin us)
struct_alike os us h = subst (λ b. Alike (struct_origin os) (if b then value else struct us)) (sym (same_values os us h)) (by (are_values os))
  where
    by : (b : Bool) → Alike (if b then value else struct os) (if b then value else struct us)
    by true = tt
    by false = h

module _ (start : Origin) (builds : is_value start ≡ false) where
  below_builds : (p : Path) (o : Origin) → is_value o ≡ false → is_value (own_below p o) ≡ false
  below_builds p value e = let nothing : ⊥ = cc in absurd nothing
  below_builds p made e = refl
  below_builds p (own q) e = refl
  below_builds p outer e = refl
  below_builds p (named s q) e = refl
  below_builds p (struct os) e = refl

  named_builds : (s : ℕ) (p : Path) (o : Origin) → is_value o ≡ false → is_value (named_below s p o) ≡ false
  named_builds s p value e = let nothing : ⊥ = cc in absurd nothing
  named_builds s p made e = refl
  named_builds s p (own q) e = refl
  named_builds s p outer e = refl
  named_builds s p (named t q) e = refl
  named_builds s p (struct os) e = refl

  grown_value : (u : Origin) → is_value (grown start u) ≡ is_value u
  grown_value value = refl
  grown_value made = refl
  grown_value (own p) = below_builds p start builds
  grown_value outer = refl
  grown_value (named s p) = named_builds s p (own_paths start) (below_builds [] start builds)
  grown_value (struct os) = refl

  handed_value : (o u : Origin) → is_value (handed_origin start o u) ≡ is_value u
  handed_value value u = refl
  handed_value made u = refl
  handed_value (own p) u = grown_value u
  handed_value outer u = refl
  handed_value (named s p) u = refl
  handed_value (struct os) value = refl
  handed_value (struct os) made = refl
  handed_value (struct os) (own p) = refl
  handed_value (struct os) outer = refl
  handed_value (struct os) (named s p) = refl
  handed_value (struct os) (struct us) = refl

  handed_values : (os us : Origins) → are_values (handed_origins start os us) ≡ are_values us
  handed_values no_origins us = refl
  handed_values (more_origins o os) no_origins = refl
  handed_values (more_origins o os) (more_origins u us) = λ i. handed_value o u i && handed_values os us i

  at_handed : (n : ℕ) (os us : Origins) → AllAlike os us → origin_at n (handed_origins start os us) ≡ handed_origin start (origin_at n os) (origin_at n us)
  at_handed zero no_origins no_origins h = refl
  at_handed (suc n) no_origins no_origins h = refl
  at_handed n no_origins (more_origins u us) h = absurd h
  at_handed n (more_origins o os) no_origins h = absurd h
  at_handed zero (more_origins o os) (more_origins u us) h = refl
  at_handed (suc n) (more_origins o os) (more_origins u us) h = at_handed n os us h.1

  pub field_handed : (n : ℕ) (o u : Origin) → is_held o ≡ false → Alike o u → field_origin n (handed_origin start o u) ≡ handed_origin start (field_origin n o) (field_origin n u)
  field_handed n value u e h = refl
  field_handed n made u e h = refl
  field_handed n (own p) u e h = let nothing : ⊥ = cc in absurd nothing
  field_handed n outer u e h = refl
  field_handed n (named s p) u e h = refl
  field_handed n (struct os) value e h = absurd h
  field_handed n (struct os) made e h = absurd h
  field_handed n (struct os) (own p) e h = absurd h
  field_handed n (struct os) outer e h = absurd h
  field_handed n (struct os) (named s p) e h = absurd h
  field_handed n (struct os) (struct us) e h = at_handed n os us h

  pub struct_handed : (os us : Origins) → AllAlike os us → struct_origin (handed_origins start os us) ≡ handed_origin start (struct_origin os) (struct_origin us)
  struct_handed os us h =
      (λ i. if handed_values os us i then value else struct (handed_origins start os us))
      ∙ (λ i. if same_values os us h i then value else struct (handed_origins start os us))
      ∙ by (are_values os)
      ∙ (λ i. handed_origin start (struct_origin os) (if sym (same_values os us h) i then value else struct us))
    where
      by : (b : Bool) → (if b then value else struct (handed_origins start os us)) ≡ handed_origin start (if b then value else struct os) (if b then value else struct us)
      by true = refl
      by false = refl

-- ---- what holds none stays

pub or_false : (a b : Bool) → (a || b) ≡ false → (a ≡ false) × (b ≡ false)
or_false true b e = let nothing : ⊥ = cc in absurd nothing
or_false false b e = (refl, e)

mutual
  pub handed_none : (start o u : Origin) → holds o ≡ false → handed_origin start o u ≡ u
  handed_none start value u e = refl
  handed_none start made u e = refl
  handed_none start (own p) u e = let nothing : ⊥ = cc in absurd nothing
  handed_none start outer u e = refl
  handed_none start (named s p) u e = refl
  handed_none start (struct os) value e = refl
  handed_none start (struct os) made e = refl
  handed_none start (struct os) (own p) e = refl
  handed_none start (struct os) outer e = refl
  handed_none start (struct os) (named s p) e = refl
  handed_none start (struct os) (struct us) e = ap struct (all_handed_none start os us e)

  all_handed_none : (start : Origin) (os us : Origins) → some_hold os ≡ false → handed_origins start os us ≡ us
  all_handed_none start no_origins us e = refl
  all_handed_none start (more_origins o os) no_origins e = refl
  all_handed_none start (more_origins o os) (more_origins u us) e = let w = or_false (holds o) (some_hold os) e in λ i. more_origins (handed_none start o u w.0 i) (all_handed_none start os us w.1 i)
