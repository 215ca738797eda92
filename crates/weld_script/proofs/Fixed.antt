-- The fixed script is one.
use Rattle.std.proofs.Common.{◌≡◌, ℕ, zero, suc, pos, List, [], ◌∷◌, refl, subst, sym, arith}
use Rattle.std.proofs.lemmas.Int.{ints}
use Rattle.std.specs.List.{All}
use Rattle.weld_data.specs.declared.kind.Kind.TheVariants.{I64}
use Rattle.weld_data.specs.Kind.{InRange}
use Rattle.weld_table.specs.Table.{IsCell}
use Rattle.weld_script.specs.declared.made.Made.{Made}
use Rattle.weld_script.specs.Script.{AreMade, IsScript}
use Rattle.weld_script.specs.Soak.{soak_made, soak_shown, number_type}

ten_fits : InRange I64 (pos 10)
ten_fits = record { low = omega (arith, ints); high = omega (arith, ints) }

cells : All IsCell (number_type ∷ number_type ∷ number_type ∷ [])
cells zero d h = tt
cells (suc zero) d h = tt
cells (suc (suc zero)) d h = tt
cells (suc (suc (suc i))) d h = absurd (omega (arith, h))

objects : AreMade [] soak_made
objects = (
  record { count = refl; some = omega arith; cells = cells },
  (
    record { operator = tt; before = (omega arith, tt); fits = record { count = refl; each = refl } },
    (
      record { operator = tt; before = (omega arith, tt); fits = record { count = refl; each = refl } },
      (
        record { operator = tt; before = (omega arith, tt); fits = record { count = refl; each = refl } },
        (
          ten_fits,
          (
            record { operator = tt; before = (omega arith, (omega arith, tt)); fits = record { count = refl; each = refl } },
            (
              record { operator = tt; before = (omega arith, (omega arith, tt)); fits = record { count = refl; each = refl } },
              (
                record { operator = tt; before = (omega arith, (omega arith, tt)); fits = record { count = refl; each = refl } },
                (
                  record { operator = tt; before = (omega arith, (omega arith, tt)); fits = record { count = refl; each = refl } },
                  (
                    record { operator = tt; before = (omega arith, (omega arith, tt)); fits = record { count = refl; each = refl } },
                    (
                      record { operator = tt; before = (omega arith, (omega arith, tt)); fits = record { count = refl; each = refl } },
                      (
                        record { operator = tt; before = (omega arith, tt); fits = record { count = refl; each = refl } },
                        tt,
                      ),
                    ),
                  ),
                ),
              ),
            ),
          ),
        ),
      ),
    ),
  ),
)

pub is_soak : IsScript soak_made soak_shown
is_soak = record {
  objects = objects;
  declarations = omega arith;
  calls = omega arith;
  few = omega arith;
  some = omega arith;
  most = omega arith;
  there = (omega arith, (omega arith, (omega arith, tt)));
}

pub is_script : (made : List Made) (shown : List ℕ) → made ≡ soak_made → shown ≡ soak_shown → IsScript made shown
is_script made shown e f = subst (λ ms. IsScript ms shown) (sym e) (subst (IsScript soak_made) (sym f) is_soak)
