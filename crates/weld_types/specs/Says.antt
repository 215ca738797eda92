-- What an answer of the code says of the walk.
use Rattle.std.specs.Prelude.{◌≡◌, Result, Ok, Err}
use Rattle.weld_tree.specs.declared.refusal.Refusal.{Refusal}
use Rattle.weld_tree.specs.declared.refusal.Refusal.TheVariants.{At, Size, Memory}
use Rattle.weld_types.specs.Walk.{Found, found, refused}

-- a refusal at a place is the walk's; want of memory says nothing
abbrev pub RefusalSays : {A : Type 0} → Refusal → Found A → Type 0
RefusalSays (At c p) w = w ≡ refused c p
RefusalSays (Size c) w = ⊥
RefusalSays Memory w = Unit {0}

-- what is answered is what the walk finds, or its refusal
abbrev pub Says : {A : Type 0} → Result A Refusal → Found A → Type 0
Says (Ok x) w = w ≡ found x
Says (Err r) w = RefusalSays r w

-- the answer of a rule that finds no type: the walk goes on with what comes later, or it is refused
abbrev pub Allows : {A B : Type 0} → Result A Refusal → Found B → Found B → Type 0
Allows (Ok x) w later = w ≡ later
Allows (Err r) w later = RefusalSays r w
