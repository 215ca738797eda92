-- The steps that a loop's body is lowered to, form by form.
use Rattle.std.specs.Prelude.{ℕ, ◌+◌, ◌==◌, Bool, true, false, not, ◌&&◌, ◌||◌, if◌then◌else◌, List, [], ◌∷◌, ◌++◌, length, Option, Some, None, option_map}
use Rattle.weld_data.specs.declared.kind.Kind.{Kind}
use Rattle.weld_data.specs.declared.kind.Kind.TheVariants as kinds
use Rattle.weld_data.specs.declared.op.BinOp.{BinOp}
use Rattle.weld_data.specs.Lookup.{same_kind}
use Rattle.weld_data.specs.Wrapped.{wrapped}
use Rattle.weld_tree.specs.ExprTree.{ExprTree, leaf, one, two, three, many, let_in, loop, iterate, Leaf, int, truth, chars, name, fresh, One, neg, cast, len, field, finish, started, Two, binary, and, or, look_up, key_exists, merge, Three, if_else, select, slice}
use Rattle.weld_tree.specs.ExprTree as trees
use Rattle.weld_lanes.specs.declared.steps.LaneStep.{LaneStep}
use Rattle.weld_lanes.specs.declared.steps.LaneStep.TheVariants as steps
use Rattle.weld_lanes.specs.Blocks.{step_at}
use Rattle.weld_lanes.specs.Formed.{is_arithmetic, is_comparison}
use Rattle.weld_meaning.specs.Environment.{look_for}
use Rattle.weld_sizes.specs.Sized.{is_that_name}
use Rattle.weld_lane_form.specs.Bodies.{is_mask}

-- of a loop: the kind of its numbers, whether a row is a struct of two of them, and the names of the row, the row's number and
-- the builder
pub record LaneNames : Type 0 where
  pub kind : Kind
  pub is_pair : Bool
  pub row : ℕ
  pub number : ℕ
  pub own : ℕ

-- steps, and the names of the numbers that are the same for all rows, by their places
pub record Begun : Type 0 where
  pub steps : List LaneStep
  pub names : List ℕ

abbrev pub nothing_begun : Begun
nothing_begun = record { steps = []; names = [] }

-- what is begun and the place of the step that is meant, if there is one
abbrev pub Placed : Type 0
Placed = Option (Begun × ℕ)

abbrev pub placed : Begun → ℕ → Placed
placed b i = Some (b, i)

-- what comes behind such a step
abbrev pub behind : Placed → (Begun → ℕ → Placed) → Placed
behind None f = None
behind (Some r) f = f r.0 r.1

-- one step more
abbrev pub added : Begun → LaneStep → Placed
added b s = placed (record { steps = b.steps ++ s ∷ []; names = b.names }) (length b.steps)

abbrev pub where_true : Bool → Placed → Placed
where_true t p = if t then p else None

-- the step of the place answers a truth value
abbrev pub is_mask_at : Begun → ℕ → Bool
is_mask_at b i = is_mask (step_at b.steps i)

-- ---- names

-- the place of a name among others, from 0
abbrev pub place_among : List ℕ → ℕ → Option ℕ
place_among [] s = None
place_among (t ∷ ts) s = if s == t then Some 0 else option_map (λ n. n + 1) (place_among ts s)

-- a number that is the same for all rows: each of their names is kept once
abbrev pub lower_uniform : Begun → ℕ → Option ℕ → Placed
lower_uniform b s (Some u) = added b (steps.Uniform u)
lower_uniform b s None = added (record { steps = b.steps; names = b.names ++ s ∷ [] }) (steps.Uniform (length b.names))

-- a name that no `let` of the body has: the row, or a number of outside
abbrev pub lower_outside : LaneNames → Begun → ℕ → Placed
lower_outside c b s =
    if s == c.row then where_true (not c.is_pair) (added b steps.A)
    else where_true (not ((s == c.number) || (s == c.own))) (lower_uniform b s (place_among b.names s))

-- a name, of a `let` whose step has the place, or of none
abbrev pub lower_name : LaneNames → Begun → ℕ → Option ℕ → Placed
lower_name c b s (Some i) = placed b i
lower_name c b s None = lower_outside c b s

-- ---- forms

abbrev pub lower_leaf : LaneNames → List (ℕ × ℕ) → Begun → Leaf → Placed
lower_leaf c ns b (int k x) = where_true (same_kind k c.kind) (added b (steps.Lit x))
lower_leaf c ns b (truth t) = added b (steps.Truth t)
lower_leaf c ns b (chars bs) = None
lower_leaf c ns b (name s) = lower_name c b s (look_for s ns)
lower_leaf c ns b (fresh d) = None

abbrev pub is_integer : Kind → Bool
is_integer kinds.Bool = false
is_integer kinds.I8 = true
is_integer kinds.I16 = true
is_integer kinds.I32 = true
is_integer kinds.I64 = true
is_integer kinds.U8 = true
is_integer kinds.U16 = true
is_integer kinds.U32 = true
is_integer kinds.U64 = true

-- a literal that is cast to the kind
abbrev pub lower_cast_leaf : LaneNames → Kind → Begun → Leaf → Placed
lower_cast_leaf c k b (int m x) = where_true (is_integer k && same_kind k c.kind) (added b (steps.Lit (wrapped k x)))
lower_cast_leaf c k b (truth t) = None
lower_cast_leaf c k b (chars bs) = None
lower_cast_leaf c k b (name s) = None
lower_cast_leaf c k b (fresh d) = None

abbrev pub lower_cast : LaneNames → Kind → Begun → ExprTree → Placed
lower_cast c k b (leaf a l) = lower_cast_leaf c k b l
lower_cast c k b (one a o e) = None
lower_cast c k b (two a o e f) = None
lower_cast c k b (three a o e f g) = None
lower_cast c k b (many a o es) = None
lower_cast c k b (let_in a x e f) = None
lower_cast c k b (loop a ls e x n r f) = None
lower_cast c k b (iterate a e x f) = None

-- no `let` of the body has the name
abbrev pub is_unlet : Option ℕ → Bool
is_unlet (Some i) = false
is_unlet None = true

-- a field of the row
abbrev pub lower_field : LaneNames → List (ℕ × ℕ) → ℕ → Begun → ExprTree → Placed
lower_field c ns n b e =
    where_true (c.is_pair && (is_that_name e c.row && is_unlet (look_for c.row ns)))
    (if n == 0 then added b steps.A else where_true (n == 1) (added b steps.B))

abbrev pub lower_not : Begun → ℕ → Placed
lower_not b i = where_true (is_mask_at b i) (added b (steps.Not i))

-- of one part, which is lowered to the last
abbrev pub lower_one : LaneNames → List (ℕ × ℕ) → One → Begun → ExprTree → Placed → Placed
lower_one c ns neg b e r = None
lower_one c ns trees.not b e r = behind r lower_not
lower_one c ns (cast k) b e r = lower_cast c k b e
lower_one c ns len b e r = None
lower_one c ns (field n) b e r = lower_field c ns n b e
lower_one c ns finish b e r = None
lower_one c ns (started d) b e r = None

abbrev pub lower_binary : BinOp → ℕ → ℕ → Begun → Placed
lower_binary op i j b = if is_arithmetic op then added b (steps.Arith op i j) else where_true (is_comparison op) (added b (steps.Compare op i j))

abbrev pub are_numbers : Begun → ℕ → ℕ → Bool
are_numbers b i j = not (is_mask_at b i) && not (is_mask_at b j)

abbrev pub are_truths : Begun → ℕ → ℕ → Bool
are_truths b i j = is_mask_at b i && is_mask_at b j

-- of two parts, whose steps have these places
abbrev pub lower_two : Two → ℕ → ℕ → Begun → Placed
lower_two (binary op) i j b = where_true (are_numbers b i j) (lower_binary op i j b)
lower_two and i j b = where_true (are_truths b i j) (added b (steps.And i j))
lower_two or i j b = where_true (are_truths b i j) (added b (steps.Or i j))
lower_two look_up i j b = None
lower_two key_exists i j b = None
lower_two merge i j b = None

-- one of two truth values, of which the steps come behind so many: t && x || !t && y
abbrev pub choosing : ℕ → ℕ → ℕ → ℕ → List LaneStep
choosing n t i j = steps.And t i ∷ steps.Not t ∷ steps.And (n + 1) j ∷ steps.Or n (n + 2) ∷ []

abbrev pub choose_truth : ℕ → ℕ → ℕ → Begun → Placed
choose_truth t i j b = placed (record { steps = b.steps ++ choosing (length b.steps) t i j; names = b.names }) (length b.steps + 3)

abbrev pub lower_select : ℕ → ℕ → ℕ → Begun → Placed
lower_select t i j b =
    where_true (is_mask_at b t)
    (if are_numbers b i j then added b (steps.Select t i j) else where_true (are_truths b i j) (choose_truth t i j b))

abbrev pub lower_three : Three → ℕ → ℕ → ℕ → Begun → Placed
lower_three if_else t i j b = None
lower_three select t i j b = lower_select t i j b
lower_three slice t i j b = None

-- an expression, where these lets of the body have the places of their steps, the newest first
abbrev pub lower_expr : LaneNames → List (ℕ × ℕ) → ExprTree → Begun → Placed
lower_expr c ns (leaf a l) b = lower_leaf c ns b l
lower_expr c ns (one a o e) b = lower_one c ns o b e (lower_expr c ns e b)
lower_expr c ns (two a o e f) b = behind (lower_expr c ns e b) (λ d i. behind (lower_expr c ns f d) (λ g j. lower_two o i j g))
lower_expr c ns (three a o e f h) b =
    behind (lower_expr c ns e b) (λ d t. behind (lower_expr c ns f d) (λ g i. behind (lower_expr c ns h g) (λ k j. lower_three o t i j k)))
lower_expr c ns (many a o es) b = None
lower_expr c ns (let_in a x e f) b = None
lower_expr c ns (loop a ls e x n r f) b = None
lower_expr c ns (iterate a e x f) b = None

-- ---- bodies

-- the number of a place as that of the last step
abbrev pub lower_last : Begun → ℕ → Placed
lower_last b i =
    where_true (not (is_mask_at b i))
    (if i + 1 == length b.steps then placed b i
    else placed (record { steps = b.steps ++ (steps.Truth true ∷ steps.Select (length b.steps) i i ∷ []); names = b.names }) (length b.steps + 1))

abbrev pub is_merge : Two → Bool
is_merge (binary op) = false
is_merge and = false
is_merge or = false
is_merge look_up = false
is_merge key_exists = false
is_merge merge = true

-- lets that end in a merge of a number into the loop's builder
abbrev pub lower_body : LaneNames → List (ℕ × ℕ) → ExprTree → Begun → Placed
lower_body c ns (leaf a l) b = None
lower_body c ns (one a o e) b = None
lower_body c ns (two a o e f) b =
    where_true (is_merge o && (is_that_name e c.own && is_unlet (look_for c.own ns))) (behind (lower_expr c ns f b) lower_last)
lower_body c ns (three a o e f h) b = None
lower_body c ns (many a o es) b = None
lower_body c ns (let_in a x e f) b = behind (lower_expr c ns e b) (λ d i. lower_body c ((x.sym.0, i) ∷ ns) f d)
lower_body c ns (loop a ls e x n r f) b = None
lower_body c ns (iterate a e x f) b = None
