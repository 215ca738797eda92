use Rattle.weld_read_script.proofs.Keeping.{keeps, Laws}
use Rattle.weld_read_script.proofs.steps.laws.statements_keep.Goals as goal

pub returns : goal.returns
returns c =
    let laws : Laws = record {
      made = c.scripts_grow.ensures.made;
      types = c.scripts_grow.ensures.types;
      declared = c.scripts_grow.ensures.declared;
      short = c.rows_are_short.ensures;
      resolved = c.requests_are_sound.ensures.resolved;
      shown = c.requests_are_sound.ensures.shown;
      requests = c.requests_are_sound.ensures.requests;
    } in
    keeps laws
