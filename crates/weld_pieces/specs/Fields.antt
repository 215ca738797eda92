-- Values that are a struct of two fields.
use Rattle.weld_data.specs.Value.{Value}
use Rattle.weld_pieces.specs.Kept.{IsPair}

abbrev pub Anything : Value → Type 0
Anything v = Unit {0}

abbrev pub IsOfTwoFields : Value → Type 0
IsOfTwoFields v = IsPair Anything Anything v
