-- What the code has gathered where the walk goes over lists, and the walk over a loop from its builder on.
use Rattle.std.specs.Prelude.{◌≡◌, List, [], ◌∷◌, ◌++◌, Result, Ok, Err}
use Rattle.weld_meaning.specs.Typing.{Types, body_types, place_type}
use Rattle.weld_tree.specs.declared.binder.Binder.{Binder}
use Rattle.weld_tree.specs.declared.code.Code.TheVariants.{Y26}
use Rattle.weld_tree.specs.declared.place.Place.{Place}
use Rattle.weld_tree.specs.declared.refusal.Refusal.{Refusal}
use Rattle.weld_tree.specs.TypeTree.{TypeTree, TypeTrees, pack}
use Rattle.weld_tree.specs.ExprTree.{ExprTree, ExprTrees, LegTree, LegTrees, more_legs}
use Rattle.weld_types.specs.Gathered.{before}
use Rattle.weld_types.specs.Says.{RefusalSays}
use Rattle.weld_types.specs.Tests.{same_type}
use Rattle.weld_types.specs.Walk.{Found, found, at_node, demand_at, elements, go_on, noted, row_by, Strips, strips_of, type_of, types_of}
use Rattle.weld_check_types.specs.declared.type_walk.legs.Strips.{Strips as CodeStrips}

-- the type that the walk finds is put behind those before, or its refusal is answered
abbrev pub Pushes : {A : Type 0} → Result A Refusal → Found TypeTree → List TypeTree → List TypeTree → Type 0
Pushes (Ok x) w was now = (t : TypeTree) × (w ≡ found t) × (now ≡ was ++ t ∷ [])
Pushes (Err r) w was now = RefusalSays r w

-- the types gathered so far, with what the walk finds of the expressions still to come
abbrev pub gathered_types : List TypeTree → ExprTrees → Types → Found TypeTrees
gathered_types ts es g = go_on (types_of es g) (λ us. found (before ts us))

-- the types of legs so far, before those still to come
abbrev pub strips_before : CodeStrips → Strips → Strips
strips_before was s = record { vectors = before was.vectors s.vectors; bounds = before was.bounds s.bounds }

-- what is gathered of legs, with what the walk finds of those still to come
abbrev pub gathered_strips : CodeStrips → LegTrees → Types → Found Strips
gathered_strips was ls g = go_on (strips_of ls g) (λ s. found (strips_before was s))

-- the types of one more leg are gathered, whatever legs follow, or the leg's refusal is answered
abbrev pub GathersLeg : {A : Type 0} → Result A Refusal → LegTree → Types → CodeStrips → CodeStrips → Type 0
GathersLeg (Ok x) l g was now = (ls : LegTrees) → gathered_strips was (more_legs l ls) g ≡ gathered_strips now ls g
GathersLeg (Err r) l g was now = (ls : LegTrees) → RefusalSays r (strips_of (more_legs l ls) g)

-- the types of legs as plain data
abbrev pub view_strips : CodeStrips → Strips
view_strips s = record { vectors = pack s.vectors; bounds = pack s.bounds }

-- what is answered are the types of legs that the walk finds, or its refusal
abbrev pub SaysStrips : Result CodeStrips Refusal → Found Strips → Type 0
SaysStrips (Ok s) w = w ≡ found (view_strips s)
SaysStrips (Err r) w = RefusalSays r w

-- the walk over a loop from its builder on, by the types of its legs
abbrev pub type_behind_legs : Place → Strips → ExprTree → Binder → Binder → Binder → ExprTree → Types → Found TypeTree
type_behind_legs p s e b n x f g =
    go_on (type_of e g) (λ t. go_on (at_node p (row_by (elements s.vectors) s.bounds t)) (λ r.
    noted b.note b t (noted n.note n place_type (noted x.note x r
    (go_on (type_of f (body_types b n x t r g)) (λ u. demand_at (same_type u t) Y26 p (found t)))))))

-- what is answered are the types that the walk finds, or its refusal
abbrev pub SaysTypes : Result (List TypeTree) Refusal → Found TypeTrees → Type 0
SaysTypes (Ok ts) w = w ≡ found (pack ts)
SaysTypes (Err r) w = RefusalSays r w
