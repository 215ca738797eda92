-- Turns on rows that see other names than the state's.
use Rattle.std.specs.Prelude.{◌≡◌, ◌≢◌, ℕ, zero, suc, ◌+◌, ◌-◌, ◌/◌, ◌<◌, ◌≤◌, ◌==◌, ◌||◌, Bool, true, false, List, [], ◌∷◌, length, ℤ, Option, Some, Result, Ok, Err}
use Rattle.weld_data.specs.declared.kind.Kind.TheVariants as kinds
use Rattle.weld_data.specs.Value.{Value, Values, number, struct, no_values, and_value}
use Rattle.weld_built.specs.Pair.{pair}
use Rattle.weld_builders.specs.Outcome.{Outcome, done, fault, and_then}
use Rattle.weld_meaning.specs.Environment.{look_for}
use Rattle.weld_meaning.specs.Evaluation.{Env, turns, turn_limit}
use Rattle.weld_meaning.specs.Names.{IsFree, AgreeOn}
use Rattle.weld_meaning.specs.Thing.{Thing, plain}
use Rattle.weld_tree.specs.ExprTree.{ExprTree}
use Rattle.weld_tree.specs.declared.sym.Sym.{Sym}
use Rattle.weld_turns.specs.CodeView.{shape_value}
use Rattle.weld_turns.specs.Lowering.{settle}
use Rattle.weld_turns.specs.States.{next_of}
use Rattle.weld_turns.specs.StepView.{Words, shown, step_value, words_of}
use Rattle.weld_turns.specs.declared.code.Halt.{Halt}
use Rattle.weld_turns.specs.declared.code.Halt.TheVariants.{Fault, Other}
use Rattle.weld_turns.specs.Scopes.{Sites, is_odd, room_of}
use Rattle.weld_turns.specs.declared.code.Named.{Named}
use Rattle.weld_turns.specs.declared.code.Seen.{Seen}
use Rattle.weld_turns.specs.declared.code.Seen.TheVariants as seen
use Rattle.weld_turns.specs.declared.code.Site.{Site}
use Rattle.weld_turns.specs.declared.code.Site.TheVariants as sites
use Rattle.weld_turns.specs.declared.code.Shape.{Shape}
use Rattle.weld_turns.specs.declared.code.Shape.TheVariants.{One, Fields}
use Rattle.weld_turns.specs.declared.step.Step.{Step}

-- ---- the names

-- whether it is one of the names
abbrev pub has_name : ℕ → List Named → Bool
has_name n [] = false
has_name n (s ∷ ss) = (n == s.name.0) || has_name n ss

-- how many words it has
abbrev pub words_for : Seen → ℕ
words_for seen.Number = 1
words_for (seen.Fields n bits) = n

-- so many of the first values, where their bits are set, are the numbers of kind i64 that stand from that place on
abbrev pub HasNumbers : ℕ → ℕ → ℕ → List ℤ → Values → Type 0
HasNumbers zero bits at xs vs = Unit {0}
HasNumbers (suc n) bits at xs no_values = ⊥
HasNumbers (suc n) bits at xs (and_value v vs) = (is_odd bits ≡ true → v ≡ number kinds.I64 (words_of xs at)) × HasNumbers n (bits / 2) (suc at) xs vs

-- what it stands for is the number of that place, or a struct that has those from that place on
abbrev pub IsSeen : Seen → ℕ → List ℤ → Option Thing → Type 0
IsSeen seen.Number at xs o = o ≡ Some (plain (number kinds.I64 (words_of xs at)))
IsSeen (seen.Fields n bits) at xs o = (vs : Values) × (o ≡ Some (plain (struct vs))) × HasNumbers n bits at xs vs

-- each name stands for what it is seen as, by the numbers from that place on; and there are no others
abbrev pub Stand : List Named → ℕ → List ℤ → Env → Type 0
Stand [] at xs env = at ≡ length xs
Stand (s ∷ ss) at xs env = IsSeen s.seen at xs (look_for s.name.0 env) × Stand ss (at + words_for s.seen) xs env

-- the name is free in the body, and neither the state's nor one of those
abbrev pub IsOther : ExprTree → ℕ → List Named → ℕ → Type 0
IsOther e s names n = IsFree e n × (n ≢ s) × (has_name n names ≡ false)

-- where the name's words stand, from that slot on
abbrev pub site_from : Sym → Seen → ℕ → Site
site_from s seen.Number at = sites.Whole (record { shape = One; first = at })
site_from s (seen.Fields n bits) at = sites.Spread (record { name = s; first = at; fields = n; taken = bits })

-- the state's words come first
abbrev pub state_site : Shape → Site
state_site shape = sites.Whole (record { shape = shape; first = 0 })

-- those with where they stand, one behind the other from that slot on, upon others
abbrev pub placed : List Named → ℕ → Sites → Sites
placed [] at ns = ns
placed (s ∷ ss) at ns = placed ss (at + words_for s.seen) ((s.name.0, site_from s.name s.seen at) ∷ ns)

-- ---- the turns

-- two words are a state of the shape; of a single number the second doesn't matter
abbrev pub IsOfTwo : Shape → Type 0
IsOfTwo One = Unit {0}
IsOfTwo (Fields n) = n ≡ 2

-- the state that two words are
abbrev pub state_of : Shape → ℤ → ℤ → Value
state_of One x y = number kinds.I64 x
state_of (Fields n) x y = pair (number kinds.I64 x) (number kinds.I64 y)

-- the words of the names stand in the places from that one on
abbrev pub HasWords : ℕ → List ℤ → Words → Type 0
HasWords at xs w = (k : ℕ) → k < length xs → w (at + k) ≡ words_of xs k

-- what makes of each state what the instructions make of it while the names have these words behind those of the state
abbrev pub IsFollowedWith : Step → Shape → List ℤ → (Value → Outcome Value) → Type 0
IsFollowedWith t shape xs g = (w : Words) → HasWords (room_of shape) xs w → and_then (g (shape_value shape 0 (shown w))) settle ≡ step_value t shape w

-- so many words of names at most are looked at
abbrev pub most_words : ℕ
most_words = 32

-- on each row on which the names stand for what they are seen as by these numbers, and each other name of the body for what it stands for outside, the
-- instructions make of a state what the body makes of it
abbrev pub MeansBody : Step → Shape → ℕ → ExprTree → List Named → Env → Type 0
MeansBody t shape s e names env = (row : Env) (xs : List ℤ) → length xs ≤ most_words → Stand names 0 xs row → AgreeOn (IsOther e s names) row env → IsFollowedWith t shape xs (λ v. next_of s e row v)

-- the turns of what the instructions make end with that state
abbrev pub EndsWith : Step → Shape → List ℤ → Value → Value → Type 0
EndsWith t shape xs from last = (g : Value → Outcome Value) → IsFollowedWith t shape xs g → turns turn_limit from g ≡ done last

-- the turns that are left behind so many of what the instructions make: Ok says with which state they end, a fault, that it is one; else nothing is said
abbrev pub RunsAll : Result (Unit {0}) Halt → Step → Shape → List ℤ → ℕ → Value → Value → Type 0
RunsAll (Ok u) t shape xs from first last = (g : Value → Outcome Value) → IsFollowedWith t shape xs g → turns (turn_limit - from) first g ≡ done last
RunsAll (Err Fault) t shape xs from first last = (g : Value → Outcome Value) → IsFollowedWith t shape xs g → turns (turn_limit - from) first g ≡ fault
RunsAll (Err Other) t shape xs from first last = Unit {0}
