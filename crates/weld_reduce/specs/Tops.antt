-- What lies on top, by a test.
use Rattle.std.specs.Prelude.{Bool, true, false, List, ◌∷◌}
use Rattle.weld_reduce.specs.Values.{Value, token, expr, legs, ty}

abbrev pub is_token : List Value → Bool
is_token (token t ∷ vs) = true
is_token _ = false

abbrev pub is_expr : List Value → Bool
is_expr (expr e ∷ vs) = true
is_expr _ = false

abbrev pub are_legs : List Value → Bool
are_legs (legs ls ∷ vs) = true
are_legs _ = false

abbrev pub is_type : List Value → Bool
is_type (ty p t ∷ vs) = true
is_type _ = false
