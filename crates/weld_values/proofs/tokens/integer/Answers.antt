use Rattle.std.proofs.Common.{neg_ℤ, pos}
use Rattle.weld_values.proofs.Integers.{negative_found, negative_none, positive_found, positive_none, none_then}
use Rattle.std.proofs.lemmas.Option.{IfSome_then}
use Rattle.weld_values.proofs.tokens.integer.Goals as goal

pub returns-in-Some-clause-found : goal.returns-in-Some-clause-found
returns-in-Some-clause-found c = IfSome_then c.negative.result c.negative.ensures.found (λ found h. (neg_ℤ (pos h.0), negative_found c.args.text.now c.in-Some.digits.now found.1.now h.0 c.in-Some.ensures.value h.1, h.2))

pub returns-in-Some-clause-none : goal.returns-in-Some-clause-none
returns-in-Some-clause-none c = none_then c.negative.result c.negative.ensures.none (negative_none c.args.text.now c.in-Some.digits.now c.in-Some.ensures.value)

pub returns-in-None-clause-found : goal.returns-in-None-clause-found
returns-in-None-clause-found c = IfSome_then c.positive.result c.positive.ensures.found (λ found h. (pos h.0, positive_found c.args.text.now found.1.now h.0 c.in-None.ensures.value h.1, h.2))

pub returns-in-None-clause-none : goal.returns-in-None-clause-none
returns-in-None-clause-none c = none_then c.positive.result c.positive.ensures.none (positive_none c.args.text.now c.in-None.ensures.value)
