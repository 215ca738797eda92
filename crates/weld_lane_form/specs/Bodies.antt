-- Steps that mean the body of a loop: what its expressions come to, in every environment.
use Rattle.std.specs.Prelude.{◌≡◌, ℕ, ◌-◌, Bool, true, false, if◌then◌else◌, ℤ, List, [], ◌∷◌, length, slice_get, Some, None}
use Rattle.weld_data.specs.declared.kind.Kind.{Kind}
use Rattle.weld_data.specs.declared.kind.Kind.TheVariants as kinds
use Rattle.weld_data.specs.Kind.{InRange}
use Rattle.weld_data.specs.Value.{Value, number, struct, no_values, and_value}
use Rattle.weld_tree.specs.ExprTree.{ExprTree, leaf, two, let_in, Leaf, name, Two, merge}
use Rattle.weld_tree.specs.TypeTree.{TypeTree, BuildTree, scalar, build}
use Rattle.weld_tree.specs.Types.{takes}
use Rattle.weld_tree.specs.declared.sym.Sym.{Sym}
use Rattle.weld_builders.specs.Outcome.{Outcome, done}
use Rattle.weld_lanes.specs.declared.steps.LaneStep.{LaneStep}
use Rattle.weld_lanes.specs.declared.steps.LaneStep.TheVariants as steps
use Rattle.weld_lanes.specs.Answers.{at, is_true, answer, answers, row_answer}
use Rattle.weld_lanes.specs.Blocks.{step_at}
use Rattle.weld_meaning.specs.Environment.{look_for}
use Rattle.weld_meaning.specs.Evaluation.{Env, eval, merged, truth_value}
use Rattle.weld_meaning.specs.Thing.{Thing, plain}
use Rattle.weld_meaning.specs.ThingType.{EnvFits}
use Rattle.weld_meaning.specs.Typing.{Types, AreFormed, HasType}

-- the step answers a truth value
abbrev pub is_mask : LaneStep → Bool
is_mask steps.A = false
is_mask steps.B = false
is_mask (steps.Lit x) = false
is_mask (steps.Uniform u) = false
is_mask (steps.Arith op i j) = false
is_mask (steps.Compare op i j) = true
is_mask (steps.Truth t) = true
is_mask (steps.Not i) = true
is_mask (steps.And i j) = true
is_mask (steps.Or i j) = true
is_mask (steps.Select c i j) = false

-- the value that a step's answer stands for: a truth value, or a number of the kind
abbrev pub value_of : Kind → LaneStep → ℤ → Value
value_of k s x = number (if is_mask s then kinds.Bool else k) x

-- a row of one number, or the struct of two
abbrev pub row_value : Kind → Bool → ℤ → ℤ → Value
row_value k false a b = number k a
row_value k true a b = struct (and_value (number k a) (and_value (number k b) no_values))

-- what is lowered: the kind, the steps, the names of the numbers that are the same for all rows by their places, whether a row is a struct of two, and its name
pub record Lowered : Type 0 where
  pub kind : Kind
  pub steps : List LaneStep
  pub names : List Sym
  pub is_pair : Bool
  pub row : ℕ

-- the row's name stands for the row of these numbers, and each name of a uniform number for its number
pub record Stands (l : Lowered) (us : List ℤ) (a b : ℤ) (env : Env) : Type 0 where
  pub row : look_for l.row env ≡ Some (plain (row_value l.kind l.is_pair a b))
  pub uniform : (u : ℕ) (s : Sym) → slice_get l.names u ≡ Some s → look_for s.0 env ≡ Some (plain (number l.kind (at us u)))

-- the answers of all steps on the row
abbrev pub all_answers : Lowered → List ℤ → ℤ → ℤ → List ℤ
all_answers l us a b = answers l.kind l.steps us a b

-- the value of the step of a place
abbrev pub place_value : Lowered → List ℤ → ℤ → ℤ → ℕ → Value
place_value l us a b i = value_of l.kind (step_at l.steps i) (at (all_answers l us a b) i)

-- what a step makes of the answers
abbrev pub made_value : Lowered → List ℤ → ℤ → ℤ → LaneStep → Value
made_value l us a b s = value_of l.kind s (answer l.kind us a b (all_answers l us a b) s)

-- the names of lets, the newest first, each with the place of its step, and the names outside
abbrev pub with_lets : Lowered → List ℤ → ℤ → ℤ → List (ℕ × ℕ) → Env → Env
with_lets l us a b [] env = env
with_lets l us a b (n ∷ ns) env = (n.0, plain (place_value l us a b n.1)) ∷ with_lets l us a b ns env

-- what is looked at comes to the step's value wherever its names stand so
abbrev pub ComesTo : Lowered → List (ℕ × ℕ) → (Env → Outcome Thing) → LaneStep → Type 0
ComesTo l ns comes s = (us : List ℤ) (a b : ℤ) (env : Env) → Stands l us a b env → comes (with_lets l us a b ns env) ≡ done (plain (made_value l us a b s))

-- the expression comes to the value of the step of the place
abbrev pub IsAt : Lowered → List (ℕ × ℕ) → ExprTree → ℕ → Type 0
IsAt l ns e i = (us : List ℤ) (a b : ℤ) (env : Env) → Stands l us a b env → eval e (with_lets l us a b ns env) ≡ done (plain (place_value l us a b i))

-- the same of an expression that comes to a number of the kind, or to a truth value
abbrev pub IsNumberAt : Lowered → List (ℕ × ℕ) → ExprTree → ℕ → Type 0
IsNumberAt l ns e i = (us : List ℤ) (a b : ℤ) (env : Env) → Stands l us a b env → eval e (with_lets l us a b ns env) ≡ done (plain (number l.kind (at (all_answers l us a b) i)))

abbrev pub IsTruthAt : Lowered → List (ℕ × ℕ) → ExprTree → ℕ → Type 0
IsTruthAt l ns e i = (us : List ℤ) (a b : ℤ) (env : Env) → Stands l us a b env → eval e (with_lets l us a b ns env) ≡ done (plain (truth_value (is_true (at (all_answers l us a b) i))))

-- outside of the lets the name stands for what the step makes
abbrev pub IsOutside : Lowered → ℕ → LaneStep → Type 0
IsOutside l s step = (us : List ℤ) (a b : ℤ) (env : Env) → Stands l us a b env → look_for s env ≡ Some (plain (made_value l us a b step))

-- the expression is a use of the name
abbrev pub IsNameOf : ExprTree → ℕ → Type 0
IsNameOf (leaf at l) s = l ≡ name s
IsNameOf _ s = ⊥

-- the expression is a use of a let, whose step has the place
abbrev pub IsLetLeaf : List (ℕ × ℕ) → Leaf → ℕ → Type 0
IsLetLeaf ns (name s) i = look_for s ns ≡ Some i
IsLetLeaf ns _ i = ⊥

abbrev pub IsLet : List (ℕ × ℕ) → ExprTree → ℕ → Type 0
IsLet ns (leaf at l) i = IsLetLeaf ns l i
IsLet ns _ i = ⊥

-- the form merges the last step's number into the builder of the name
abbrev pub IsMerge : Lowered → ℕ → List (ℕ × ℕ) → Two → ExprTree → ExprTree → Type 0
IsMerge l own ns o e f = (o ≡ merge) × IsNameOf e own × (look_for own ns ≡ None) × IsNumberAt l ns f (length l.steps - 1)

-- the expression is lets, each of a step's value, that end in such a merge
abbrev pub EndsInMerge : Lowered → ℕ → List (ℕ × ℕ) → ExprTree → Type 0
EndsInMerge l own ns (two p o e f) = IsMerge l own ns o e f
EndsInMerge l own ns (let_in p x e f) = (i : ℕ) × IsAt l ns e i × EndsInMerge l own ((x.sym.0, i) ∷ ns) f
EndsInMerge l own ns _ = ⊥

-- the same of a `let`
abbrev pub LetEndsInMerge : Lowered → ℕ → List (ℕ × ℕ) → ℕ → ExprTree → ExprTree → Type 0
LetEndsInMerge l own ns n e f = (i : ℕ) × IsAt l ns e i × EndsInMerge l own ((n, i) ∷ ns) f

-- the type is that of a builder, and the number of the kind is one of its items
pub record TakesNumber (k : Kind) (x : ℤ) (t : TypeTree) : Type 0 where
  pub builder : BuildTree
  pub is_builder : t ≡ build builder
  pub takes_kind : takes builder ≡ scalar k
  pub in_range : InRange k x

-- the steps mean the body: in every environment in which its names stand for a row and for uniform numbers, it merges their answer into the builder of the name, whatever stands there; and in each that fits types by which the body has one, this is an item of its builder
pub record MeansBody (l : Lowered) (own : ℕ) (e : ExprTree) : Type 0 where
  pub merges : (us : List ℤ) (a b : ℤ) (env : Env) (s : Thing) → Stands l us a b env → look_for own env ≡ Some s → eval e env ≡ merged s (done (plain (number l.kind (row_answer l.kind l.steps us a b))))
  pub fits : (us : List ℤ) (a b : ℤ) (env : Env) (g : Types) (t : TypeTree) → Stands l us a b env → AreFormed g → EnvFits g env → HasType e g t → TakesNumber l.kind (row_answer l.kind l.steps us a b) t
