use Rattle.std.proofs.Common.{◌∙◌, ap}
use Rattle.weld_rewriting.specs.Sweep.{swept_times}
use Rattle.weld_passes.specs.Normal.{all_rules}
use Rattle.weld_passes.proofs.normal_form.optimise_body.Goals as goal

pub returns : goal.returns
returns c =
    let rounds = c.in_ok-sweep_until_still.ensures in
    record {
      optimised = (rounds.swept.0, rounds.swept.1 ∙ ap (swept_times rounds.swept.0 all_rules) c.in_ok-fuse_chain.ensures);
      still = rounds.still;
    }
