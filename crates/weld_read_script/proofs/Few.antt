-- How many objects there are.
use Rattle.std.proofs.Common.{◌≡◌, ℕ, suc, ◌+◌, ◌≤◌, List, [], ◌∷◌, ◌++◌, length, refl, ap, ◌∙◌, arith}
use Rattle.std.proofs.lemmas.List.{length-append}
use Rattle.weld_read_script.specs.declared.requests.names.Object.{Object}
use Rattle.weld_read_script.specs.declared.requests.names.Object.TheVariants.{Before, Literal}
use Rattle.weld_read_script.specs.declared.steps.known.Known.{Known}
use Rattle.weld_read_script.specs.Steps.{with_literals, literals, numbers}

literals_few : (os : List Object) → length (literals os) ≤ length os
literals_few [] = omega arith
literals_few (Before id ∷ os) = omega (arith, literals_few os)
literals_few (Literal k x ∷ os) = omega (arith, literals_few os)

pub placed_few : (k next : Known) (os : List Object) → next ≡ with_literals k os → length next.made ≤ length k.made + length os
placed_few k next os e =
    let same : length next.made ≡ length (k.made ++ literals os) = ap (λ (q : Known). length q.made) e in
    omega (arith, same, length-append k.made (literals os), literals_few os)

numbers_few : (n : ℕ) (os : List Object) → length (numbers n os) ≡ length os
numbers_few n [] = refl
numbers_few n (Before id ∷ os) = ap suc (numbers_few n os)
numbers_few n (Literal k x ∷ os) = ap suc (numbers_few (suc n) os)

pub ids_few : (n : ℕ) (os : List Object) (ids : List ℕ) → ids ≡ numbers n os → length ids ≡ length os
ids_few n os ids e = ap length e ∙ numbers_few n os
