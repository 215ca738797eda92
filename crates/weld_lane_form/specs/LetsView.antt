-- What the code holds, as plain data.
use Rattle.std.specs.Prelude.{ℕ, List, [], ◌∷◌}
use Rattle.weld_lane_form.specs.declared.lets.Lets.{Lets, fold-Lets}
use Rattle.weld_lane_form.specs.declared.lets.Lets.TheOpen.{Lets-F}

abbrev pub lets_step : Lets-F (List (ℕ × ℕ)) → List (ℕ × ℕ)
lets_step Lets-F.End = []
lets_step (Lets-F.And s i rest) = (s.0, i) ∷ rest.now

abbrev pub view_lets : Lets → List (ℕ × ℕ)
view_lets = fold-Lets (List (ℕ × ℕ)) lets_step
