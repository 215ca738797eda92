-- What the names in the code stand for.
use Rattle.std.specs.Prelude.{◌∷◌, ◌++◌}
use Rattle.weld_data.specs.View.{view_val}
use Rattle.weld_meaning.specs.Thing.{plain}
use Rattle.weld_meaning.specs.Evaluation.{Env}
use Rattle.weld_meaning.specs.Meaning.{with_arguments}
use Rattle.weld_eval.specs.ThingView.{thing_of}
use Rattle.weld_eval.specs.ShortView.{view_short}
use Rattle.weld_eval.specs.RowView.{row_value}
use Rattle.weld_eval.specs.NamesView.{env_of_names}
use Rattle.weld_eval.specs.declared.frame.Frame.{Frame, fold-Frame}
use Rattle.weld_eval.specs.declared.frame.Frame.TheOpen.{Frame-F}

abbrev pub frame_step : Frame-F Env → Env
frame_step (Frame-F.Arguments params values) = with_arguments params.now values.now
frame_step (Frame-F.Value s v rest) = (s.0, plain (view_val v.now)) ∷ rest.now
frame_step (Frame-F.Builder s x rest) = (s.0, thing_of x.now) ∷ rest.now
frame_step (Frame-F.Number s n rest) = (s.0, plain (view_short n)) ∷ rest.now
frame_step (Frame-F.Row s row rest) = (s.0, plain (row_value row.now)) ∷ rest.now
frame_step (Frame-F.Names names rest) = env_of_names names.now ++ rest.now

-- the things of the names, the newest first
abbrev pub env_of : Frame → Env
env_of = fold-Frame Env frame_step
