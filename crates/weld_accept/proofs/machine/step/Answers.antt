use Rattle.std.proofs.Common.{◌≡◌, ◌∷◌, ap, sym, ◌∙◌}
use Rattle.weld_accept.specs.declared.entry.Entry.TheVariants.{Due}
use Rattle.weld_accept.proofs.Made.{skipped, skipped_step}
use Rattle.weld_accept.proofs.machine.step.Goals as goal

pub loop-entry-preserved : goal.loop-entry-preserved
loop-entry-preserved c =
    let e : c.loop-entry.stack ≡ Due c.in-Due.item ∷ c.pop.new.self = c.in-Some.ensures ∙ ap (λ z. z ∷ c.pop.new.self) c.in-Due.is in
    record {
      pending = skipped_step c.loop-entry.stack c.pop.new.self c.in-Due.item c.args.class e (sym c.if-begins.ensures) (sym c.if-not-nullable.ensures) ∙ c.loop-entry.invariant.pending;
      made = skipped c.args.stack.now c.loop-entry.stack c.pop.new.self c.in-Due.item c.args.steps.now c.loop-entry.steps e (sym c.if-not-nullable.ensures) c.loop-entry.invariant.made;
    }
