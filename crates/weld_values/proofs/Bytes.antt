-- A byte of a number of kind i8 is taken for that number again.
use Rattle.std.proofs.Common.{◌≡◌, ◌∙◌, ap, ℕ, ◌<◌, ℤ, pos, rules, FitsSigned, mod-eq_of_lt}
use Rattle.std.specs.Int.{w8, cast_unsigned, cast_signed, int_wrap}
use Rattle.std.proofs.lemmas.Int.{to_z-of_z}
use Rattle.std.proofs.Math.Facts.{Fits-of_z}
use Rattle.weld_data.specs.declared.kind.Kind.TheVariants as kinds
use Rattle.weld_data.specs.Kind.{InRange}
use Rattle.weld_data.specs.Wrapped.{wrapped}
use Rattle.weld_data.specs.Value.{Value}
use Rattle.weld_tree.specs.TypeTree.{TypeTree}
use Rattle.weld_tree.specs.HasValue.{HasValue}
use Rattle.weld_values.specs.Reading.{ReadsAs}
use Rattle.weld_values.specs.Judging.{IsReadable}
use Rattle.weld_values.specs.Showing.{show}
use Rattle.weld_values.proofs.RoundTrip.{BytesAreNumbers, written_reads_by}

i8_fits : (x : ℤ) → InRange kinds.I8 x → FitsSigned w8 x
i8_fits x r = search rules

byte_small : (x : ℤ) → FitsSigned w8 x → cast_unsigned w8 x < 256
byte_small x f = (Fits-of_z {w = w8} {z = x} f).fits

byte_wraps : (m : ℕ) → m < 256 → wrapped kinds.I8 (pos m) ≡ cast_signed w8 m
unfolding int_wrap
byte_wraps m h = ap (cast_signed w8) (mod-eq_of_lt h)

pub bytes_are_numbers : BytesAreNumbers
bytes_are_numbers x r =
    let f = i8_fits x r in
    let small = byte_small x f in
    (small, byte_wraps (cast_unsigned w8 x) small ∙ to_z-of_z w8 x f)

pub written_reads : (t : TypeTree) (v : Value) → IsReadable t → HasValue t v → ReadsAs (show t v) t v
written_reads = written_reads_by bytes_are_numbers
