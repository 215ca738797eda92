use Rattle.std.proofs.Common.{◌==◌, ◌∙◌, if◌then◌else◌, Some, List, ℕ, ap}
use Rattle.weld_meaning.specs.Environment.{look_for}
use Rattle.weld_objects.proofs.Looked.{put_in}
use Rattle.weld_objects.proofs.renaming.numbering.Numbering.put.Goals as goal

pub returns-clause-ok : goal.returns-clause-ok
returns-clause-ok c =
    λ s. put_in c.self.inside.numbers.entries c.insert.new.self.entries c.args.from.0 c.args.to.0 c.in_ok-insert.ensures.updates.0 s
    ∙ ap (λ (old : List (ℕ × ℕ)). if s == c.args.from.0 then Some c.args.to.0 else look_for s old) c.self.view_is
