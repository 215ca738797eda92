-- The program's states seen as plain data.
use Rattle.weld_reduce.specs.States as states
use Rattle.weld_reduce.specs.States.{Named, bound}
use Rattle.weld_reduce.specs.declared.state.State.{State}

abbrev pub view_state : State → states.State
view_state s = record { values = s.values; binders = s.binders; scope = s.scope; next = s.next; misnamed = s.misnamed; params = s.params }
