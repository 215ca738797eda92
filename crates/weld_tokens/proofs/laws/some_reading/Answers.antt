use Rattle.weld_tokens.proofs.SomeReading.{some-reading}
use Rattle.weld_tokens.proofs.laws.some_reading.Goals as goal

pub returns : goal.returns
returns c = some-reading
