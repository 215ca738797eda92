-- What running rows by lanes answers.
use Rattle.std.specs.Prelude.{◌≡◌, ℕ, Bool, true, false, Result, Ok, Err}
use Rattle.weld_builders.specs.Outcome.{done}
use Rattle.weld_meaning.specs.Thing.{Thing}
use Rattle.weld_acts.specs.Ranges.{Evaluation, range_over}

-- true: the builder is what the rows make of it; false: it is as it was; want of memory says nothing
abbrev pub LanesAnswer : {E : Type 0} → Result Bool E → Evaluation → ℕ → ℕ → Thing → Thing → Type 0
LanesAnswer (Ok true) ev from to old new = range_over ev.node ev.names ev.lists from to old ≡ done new
LanesAnswer (Ok false) ev from to old new = new ≡ old
LanesAnswer (Err e) ev from to old new = Unit {0}
