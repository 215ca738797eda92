use Rattle.std.proofs.Common.{w8, w16, w32, w64}
use Rattle.weld_eval.proofs.Words.{by_bits}
use Rattle.weld_eval.proofs.word_arithmetic.wrap.Goals as goal

pub returns-in-I8-clause-value : goal.returns-in-I8-clause-value
returns-in-I8-clause-value c =
    rw c.in-I8.is
    (by_bits w64 w8 _ _ _ _ c.ranges.x (record { sfits = c.rem_euclid.type_inv }) (record { sfits = c.cast_signed.type_inv }) (record { sfits = c.from.type_inv }) c.rem_euclid.ensures.value c.cast_signed.ensures c.from.ensures)

pub returns-in-I32-clause-value : goal.returns-in-I32-clause-value
returns-in-I32-clause-value c =
    rw c.in-I32.is
    (by_bits w64 w32 _ _ _ _ c.ranges.x (record { sfits = c.rem_euclid-in-I32.type_inv }) (record { sfits = c.cast_signed-in-I32.type_inv }) (record { sfits = c.from-in-I32.type_inv }) c.rem_euclid-in-I32.ensures.value c.cast_signed-in-I32.ensures c.from-in-I32.ensures)

pub returns-in-I16-clause-value : goal.returns-in-I16-clause-value
returns-in-I16-clause-value c =
    rw c.in-I16.is
    (by_bits w64 w16 _ _ _ _ c.ranges.x (record { sfits = c.rem_euclid-in-I16.type_inv }) (record { sfits = c.cast_signed-in-I16.type_inv }) (record { sfits = c.from-in-I16.type_inv }) c.rem_euclid-in-I16.ensures.value c.cast_signed-in-I16.ensures c.from-in-I16.ensures)
