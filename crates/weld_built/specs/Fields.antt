-- Fields that are numbers.
use Rattle.std.specs.Prelude.{List}
use Rattle.weld_data.specs.declared.kind.Kind.{Kind}
use Rattle.weld_data.specs.Value.{Value, values}
use Rattle.weld_pieces.specs.Kept.{AreNumbersOf}

-- each is a number of some kind
abbrev pub AreSomeNumbers : List Value → Type 0
AreSomeNumbers vs = (ks : List Kind) × AreNumbersOf ks (values vs)
