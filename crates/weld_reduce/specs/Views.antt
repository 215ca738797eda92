-- The program's values seen as plain data.
use Rattle.weld_tree.specs.ExprView.{view_leg}
use Rattle.weld_spell.specs.ProgramOf.{Bound}
use Rattle.weld_reduce.specs.Values as values
use Rattle.weld_reduce.specs.States as states
use Rattle.weld_reduce.specs.declared.scope.Named.{Named}
use Rattle.weld_reduce.specs.declared.scope.Seen.{Seen}
use Rattle.weld_reduce.specs.declared.value.Value.{Value}
use Rattle.weld_reduce.specs.declared.value.Value.TheVariants as declared

abbrev pub view_value : Value → values.Value
view_value (declared.Token t) = values.token t.now
view_value (declared.Expr e) = values.expr e.value
view_value (declared.Exprs es) = values.exprs es
view_value (declared.Leg l) = values.leg (view_leg l)
view_value (declared.Legs ls) = values.legs ls
view_value (declared.Type p t) = values.ty p t.value
view_value (declared.Types ts) = values.types ts
view_value (declared.Op o) = values.op o

-- a binder that is open, by its word's token
abbrev pub view_named : Named → states.Named
view_named n = record { binder = n.binder; word = n.word.now.word }

-- a name in scope, by its token
abbrev pub view_seen : Seen → Bound
view_seen s = record { bytes = s.word.now.word; number = s.number }
