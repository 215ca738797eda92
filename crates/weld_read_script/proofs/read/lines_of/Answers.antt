use Rattle.std.proofs.Common.{rules, map, eqb, lit<, ◌≡◌, Bor, List, ℕ}
use Rattle.std.proofs.lemmas.Iterator.Consumers.{map_from_collect}
use Rattle.std.proofs.lemmas.Iterator.Splits.{YieldsList-from_slice_split}
use Rattle.weld_read_script.specs.Reading.{lines}
use Rattle.weld_read_script.proofs.Lines.{few_lines, short_lines, ok_more}
use Rattle.weld_read_script.proofs.read.lines_of.Goals as goal

pub returns : goal.returns
returns c =
    let made = map_from_collect _ c.collect.ensures.ran
    (YieldsList-from_slice_split _ (λ b. eqb b 10) c.args.text.now c.split.ensures.rest c.split.ensures.done c.split.ensures.closure (λ x b q k. search rules)) in
    record {
      lines = made;
      few = ok_more _ _ c.collect.result (λ v e. few_lines c.args.text.now v.items c.requires e) made;
      short = ok_more _ _ c.collect.result (λ v e. short_lines c.args.text.now v.items c.requires e) made;
    }
