use Rattle.std.proofs.Common.{sym, subst, pos, ℤ, List, ℕ, rules, FitsSigned, to_z, of_z}
use Rattle.std.specs.Int.{w128}
use Rattle.std.proofs.lemmas.Int.{to_z-of_z}
use Rattle.weld_data.specs.declared.kind.Kind.TheVariants as kinds
use Rattle.weld_data.specs.Value.{number}
use Rattle.weld_values.specs.Grammar.{Found, scalar_at}
use Rattle.weld_values.specs.Judging.{IsClamped, IsRead}
use Rattle.weld_values.proofs.Scalars.{integer_read, integer_unread}
use Rattle.weld_values.proofs.cell.U64Cell.read.Goals as goal

pub returns-in-Some-clause-found : goal.returns-in-Some-clause-found
returns-in-Some-clause-found c =
    let (z, at, near) = c.in-Some.ensures.found in
    let fits : FitsSigned w128 c.in-Some.x = search rules in
    let near_too : IsClamped (to_z w128 (of_z w128 c.in-Some.x)) z = subst (λ (x : ℤ). IsClamped x z) (sym (to_z-of_z w128 c.in-Some.x fits)) near in
    let read = integer_read kinds.U64 tt c.args.text.now c.after_blanks.result.now c.in-Some.rest.now z c.narrowed_u64.result.1 (number kinds.U64 (pos c.narrowed_u64.result.0)) c.after_blanks.ensures.value at (c.narrowed_u64.ensures.judged z near_too) in
    subst (λ (r : List ℕ). IsRead (Found (scalar_at kinds.U64)) c.args.text.now c.narrowed_u64.result.1 (number kinds.U64 (pos c.narrowed_u64.result.0)) r) (sym c.narrowed_u64.ensures.rest) read

pub returns-in-None-clause-none : goal.returns-in-None-clause-none
returns-in-None-clause-none c = integer_unread kinds.U64 tt c.args.text.now c.after_blanks.result.now c.after_blanks.ensures.value c.in-None.ensures.none
