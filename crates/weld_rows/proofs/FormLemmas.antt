-- The elements of a vector.
use Rattle.std.proofs.Common.{◌≡◌, List, sym, ap, ◌∙◌}
use Rattle.weld_data.specs.Value.{Value, list, values, list_of_values-values}
use Rattle.weld_meaning.specs.Thing.{Thing, plain}
use Rattle.weld_eval_forms.specs.Legs.{elements_of_thing}

pub elements_are : (x : Thing) (vs : List Value) → x ≡ plain (list (values vs)) → vs ≡ elements_of_thing x
elements_are x vs e = sym (ap elements_of_thing e ∙ list_of_values-values vs)
