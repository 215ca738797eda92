-- What structs of numbers answer that take further items.
use Rattle.std.specs.Prelude.{◌≡◌, Option, Some, None, List, ◌++◌, map, Result, Ok, Err}
use Rattle.std.specs.Global.{Vec}
use Rattle.weld_data.specs.Value.{Value}
use Rattle.weld_data.specs.View.{view_val}
use Rattle.weld_data.specs.declared.value.Val.{Val}

-- nothing, that they have taken them; values, that those are the old items and the further ones; where memory is wanting, all is as it was
abbrev pub MayGrow : {E : Type 0} → Result (Option (Vec Val)) E → List Value → List Value → List Value → Type 0
MayGrow (Ok None) old more new = new ≡ old ++ more
MayGrow (Ok (Some values)) old more new = map view_val values.items ≡ old ++ more
MayGrow (Err e) old more new = new ≡ old
