use Rattle.std.proofs.Common.{◌≡◌, ◌==◌, ◌||◌, ◌∙◌, List, ℕ, Bool, ap, sym}
use Rattle.weld_lazy.specs.Lowering.{marks_of}
use Rattle.weld_lazy.proofs.Marking.{marked_more}
use Rattle.weld_lazy.proofs.marks.Marks.mark.Goals as goal

pub returns : goal.returns
returns c =
    λ k. marked_more c.self.inside.marked.entries c.insert.new.self.entries c.args.id.0 c.in_ok-insert.ensures.updates.0 k
    ∙ ap (λ (old : List (ℕ × Bool)). (k == c.args.id.0) || marks_of old k) c.self.view_is
