use Rattle.std.proofs.Common.{ap, ◌∙◌}
use Rattle.weld_data.specs.View.{view_val, view_column}
use Rattle.weld_data.specs.declared.value.Val.{Val}
use Rattle.weld_meaning.specs.Thing.{plain}
use Rattle.weld_eval.specs.ThingView.{held_of}
use Rattle.weld_exec.proofs.Ranges.{column_is}
use Rattle.weld_exec.proofs.range.column_of.Goals as goal

pub returns : goal.returns
returns c = column_is (held_of c.args.x.now) (view_column c.in-List.column) (c.value_of.ensures ∙ ap (λ (v : Val). plain (view_val v)) c.in-List.is)
