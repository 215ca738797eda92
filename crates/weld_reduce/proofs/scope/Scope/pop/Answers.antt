use Rattle.std.proofs.Common.{◌≡◌, ◌∷◌, reverse, ◌∙◌, ap, sym, subst, if◌then◌else◌, bytes_eq, IsSome}
use Rattle.weld_reduce.specs.Hiding.{number_at, IsScope}
use Rattle.weld_reduce.proofs.CodeScope.{pushed_first, scope_popped, newest_is_there}
use Rattle.weld_reduce.proofs.scope.Scope.pop.Goals as goal

pub uncover-requires : goal.uncover-requires
uncover-requires c =
    let names = reverse c.pop.new.self.items in
    let e : reverse c.self.inside.items.items ≡ c.in-Some.field-0 ∷ names = ap reverse c.in-Some.ensures.items ∙ pushed_first c.pop.new.self.items c.in-Some.field-0 in
    let numbers = c.self.inside.newest in
    subst (λ bytes. IsSome (number_at numbers bytes)) (sym c.as_slice.ensures) (newest_is_there numbers names c.in-Some.field-0 (subst (IsScope numbers) e c.self.invariant))

pub invariant_of-self-in-Some : goal.invariant_of-self-in-Some
invariant_of-self-in-Some c =
    let names = reverse c.pop.new.self.items in
    let e : reverse c.self.inside.items.items ≡ c.in-Some.field-0 ∷ names = ap reverse c.in-Some.ensures.items ∙ pushed_first c.pop.new.self.items c.in-Some.field-0 in
    let numbers = c.self.inside.newest in
    scope_popped numbers c.uncover.new.newest names c.in-Some.field-0 (subst (IsScope numbers) e c.self.invariant)
    (λ name. c.uncover.ensures name ∙ ap (λ bytes. if bytes_eq bytes name then c.in-Some.field-0.hidden else number_at numbers name) c.as_slice.ensures)
