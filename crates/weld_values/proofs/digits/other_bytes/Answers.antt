use Rattle.std.proofs.Common.{◌+◌, ◌-◌, ◌%◌, not, refl, arith}
use Rattle.std.proofs.lemmas.Simd.{zip2_splat}
use Rattle.weld_values.specs.Tokens.{is_digit}
use Rattle.weld_values.proofs.Eights.{at_most, from_splat, masked}
use Rattle.weld_values.proofs.digits.other_bytes.Goals as goal

pub returns : goal.returns
returns c =
    let v = c.args.bytes in
    let long = c.fits-bytes.0 in
    masked _ (λ byte. not (is_digit byte)) v _ (omega (arith, long)) c.fits-bytes.1 (from_splat at_most _ 10 8 v long (zip2_splat (λ a b. (a + (256 - b)) % 256) v 8 48 long)) refl
