use Rattle.std.proofs.Common.{Some, if◌then◌else◌, reverse, ◌∙◌, ap, bytes_eq}
use Rattle.std.proofs.lemmas.Map.Text.{hash_map_updates_str}
use Rattle.weld_reduce.specs.Hiding.{number_at}
use Rattle.weld_reduce.proofs.CodeScope.{pushed_first, scope_pushed}
use Rattle.weld_reduce.proofs.scope.Scope.push.Goals as goal

pub invariant_of-self-in-Ok : goal.invariant_of-self-in-Ok
invariant_of-self-in-Ok c =
    let old = c.self.inside.newest in
    let number = c.args.seen.number in
    rw (c.in_ok-push.ensures.items, pushed_first) (scope_pushed old c.insert.new.self (reverse c.self.inside.items.items) (record { seen = c.args.seen; hidden = c.copied-hidden.result })
    c.self.invariant
    (c.copied-hidden.ensures ∙ c.get.ensures.value ∙ ap (number_at old) c.as_slice-bytes.ensures)
    (λ name. hash_map_updates_str c.as_slice-bytes.result.now old c.insert.new.self (Some number) c.in-Ok.ensures.updates name
    ∙ ap (λ bytes. if bytes_eq bytes name then Some number else number_at old name) c.as_slice-bytes.ensures))
