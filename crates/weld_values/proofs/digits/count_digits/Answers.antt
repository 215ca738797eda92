use Rattle.std.proofs.Common.{◌∙◌, ap, not, take, arith}
use Rattle.std.proofs.lemmas.List.{length-take-le}
use Rattle.std.proofs.lemmas.Simd.{trailing_mask_l}
use lib.Count.{count_trailing_zeros}
use Rattle.weld_values.specs.Tokens.{is_digit}
use Rattle.weld_values.proofs.Eights.{run_is}
use Rattle.weld_values.proofs.digits.count_digits.Goals as goal

pub returns-else-others-eq0 : goal.returns-else-others-eq0
returns-else-others-eq0 c =
    let bytes = take 8 c.args.text.now in
    let others = c.other_bytes-others in
    ap (count_trailing_zeros 64) others.ensures
    ∙ trailing_mask_l (λ byte. not (is_digit byte)) 64 bytes (omega (arith, length-take-le 8 c.args.text.now c.requires)) (omega (arith, others.ensures, c.if-others-eq0.false))
    ∙ run_is bytes
