use Rattle.std.proofs.Common.{ap, ◌∙◌, ◌++◌, ◌∷◌, [], List, ℕ}
use Rattle.weld_print.specs.PrintText.{program_text}
use Rattle.weld_front.proofs.showing.shown_text.Goals as goal

pub returns : goal.returns
returns c = λ text s t same.
    let read = c.in_ok-optimised.ensures.spelled text s t same in
    record {
      shown = c.in_ok-optimised.optimised;
      optimised = c.in_ok-optimised.ensures.optimised;
      told = c.in_ok-push.ensures.ok ∙ ap (λ (x : List ℕ). x ++ 10 ∷ []) (c.in_ok-text.ensures ∙ ap program_text (c.program.ensures.same ∙ c.accepted.ensures.same));
      read = read.0;
      spelled = read.1;
      same = read.2;
    }
