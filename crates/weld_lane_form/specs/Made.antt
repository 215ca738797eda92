-- What a body is lowered to, and what the code holds while it is lowered.
use Rattle.std.specs.Prelude.{◌≡◌, ℕ, ◌<◌, IsTrue, Bool, List, [], map, length, Option, Some, None, Result, Ok, Err}
use Rattle.weld_tree.specs.declared.sym.Sym.{Sym}
use Rattle.weld_tree.specs.ExprTree.{ExprTree}
use Rattle.weld_lanes.specs.declared.steps.LaneProgram.{LaneProgram}
use Rattle.weld_lanes.specs.Formed.{are_formed}
use Rattle.weld_lane_form.specs.Bodies.{Lowered, MeansBody}
use Rattle.weld_lane_form.specs.Lowering.{LaneNames, Begun, Placed, placed, nothing_begun, lower_body}
use Rattle.weld_lane_form.specs.declared.making.LaneBody.{LaneBody}
use Rattle.weld_lane_form.specs.declared.making.LoopNames.{LoopNames}
use Rattle.weld_lane_form.specs.declared.making.Making.{Making}

abbrev pub lowered_by : LaneProgram → List Sym → Bool → ℕ → Lowered
lowered_by p ns pair row = record { kind = p.kind; steps = p.steps.items; names = ns; is_pair = pair; row = row }

abbrev pub made_lowered : LaneBody → Bool → ℕ → Lowered
made_lowered made pair row = lowered_by made.program made.uniforms.items pair row

-- what was made, if anything, means the body
abbrev pub MayMeanBody : Bool → ℕ → ℕ → ExprTree → Option LaneBody → Type 0
MayMeanBody pair row own e (Some made) = MeansBody (made_lowered made pair row) own e
MayMeanBody pair row own e None = Unit {0}

abbrev pub MayMean : {E : Type 0} → Bool → ℕ → ℕ → ExprTree → Result (Option LaneBody) E → Type 0
MayMean pair row own e (Ok made) = MayMeanBody pair row own e made
MayMean pair row own e (Err x) = Unit {0}

-- the names of a loop, as its body is lowered by them
abbrev pub lane_names : LoopNames → LaneNames
lane_names n = record { kind = n.kind; is_pair = n.is_pair; row = n.row.0; number = n.number.0; own = n.own.0 }

-- what is made so far
abbrev pub begun : Making → Begun
begun m = record { steps = m.steps.items; names = map (λ (s : Sym). s.0) m.uniforms.items }

-- a step has this place once that is begun, or there is none
abbrev pub IsPlaced : Placed → Option ℕ → Begun → Type 0
IsPlaced p (Some i) d = p ≡ placed d i
IsPlaced p None d = p ≡ None

-- the body isn't lowered to steps
abbrev pub HasNoSteps : LaneNames → ExprTree → Type 0
HasNoSteps c e = (d : Begun) (i : ℕ) → lower_body c [] e nothing_begun ≡ placed d i → IsTrue (are_formed c.kind 0 d.steps) → 0 < length d.steps → ⊥

-- none are made only where there are none
abbrev pub NoneMade : LaneNames → ExprTree → Option LaneBody → Type 0
NoneMade c e (Some made) = Unit {0}
NoneMade c e None = HasNoSteps c e

abbrev pub IsWhole : {E : Type 0} → LaneNames → ExprTree → Result (Option LaneBody) E → Type 0
IsWhole c e (Ok made) = NoneMade c e made
IsWhole c e (Err x) = Unit {0}
