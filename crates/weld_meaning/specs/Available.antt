-- Which builders an expression takes, and that each is taken once on each control path.
use Rattle.std.specs.Prelude.{◌≡◌, ℕ, ◌==◌, if◌then◌else◌, Bool, true, false, ◌&&◌, ◌||◌, [], ◌∷◌, Option, Some, None, option_map}
use Rattle.weld_tree.specs.ExprTree.{ExprTree, leaf, one, two, three, many, let_in, loop, iterate, ExprTrees, no_exprs, more_exprs, LegTree, whole, strided, LegTrees, no_legs, more_legs, Leaf, int, truth, chars, name, fresh, One, neg, not, cast, len, field, finish, started, Two, binary, and, or, look_up, key_exists, merge, Three, if_else, select, slice}
use Rattle.weld_meaning.specs.Environment.{Named}
use Rattle.weld_meaning.specs.Origin.{Path, Origin, value, made, own, outer, named, struct, origin_at, field_origin, is_value, origin_of_name, origin, own_paths, in_body, in_turn}

-- ---- paths

-- what stands at a path of a struct
abbrev pub field_within : ℕ → Origin → Origin
field_within n value = value
field_within n made = value
field_within n (own p) = value
field_within n outer = value
field_within n (named s p) = value
field_within n (struct os) = origin_at n os

abbrev pub at_path : Path → Origin → Origin
at_path [] o = o
at_path (n ∷ p) o = field_within n (at_path p o)

abbrev pub is_builder : Origin → Bool
is_builder value = false
is_builder made = true
is_builder (own p) = true
is_builder outer = true
is_builder (named s p) = true
is_builder (struct os) = false

-- whether the path leads to one of the five builders
abbrev pub is_builder_path : Origin → Path → Bool
is_builder_path o p = is_builder (at_path p o)

abbrev pub same_path : Path → Path → Bool
same_path [] [] = true
same_path [] (m ∷ q) = false
same_path (n ∷ p) [] = false
same_path (n ∷ p) (m ∷ q) = (n == m) && same_path p q

-- whether the second path is the first or goes on from there
abbrev pub is_below : Path → Path → Bool
is_below p [] = same_path p []
is_below p (m ∷ q) = same_path p (m ∷ q) || is_below p q

-- ---- what is taken

-- a name followed by field accesses, as the name and the path
abbrev pub chain_of_leaf : Leaf → Option (ℕ × Path)
chain_of_leaf (int k x) = None
chain_of_leaf (truth b) = None
chain_of_leaf (chars bs) = None
chain_of_leaf (name s) = Some (s, [])
chain_of_leaf (fresh b) = None

abbrev pub chain_of_one : One → Option (ℕ × Path) → Option (ℕ × Path)
chain_of_one neg c = None
chain_of_one not c = None
chain_of_one (cast k) c = None
chain_of_one len c = None
chain_of_one (field n) c = option_map (λ (e : ℕ × Path). (e.0, n ∷ e.1)) c
chain_of_one finish c = None
chain_of_one (started b) c = None

abbrev pub chain_of : ExprTree → Option (ℕ × Path)
chain_of (leaf a l) = chain_of_leaf l
chain_of (one a o e) = chain_of_one o (chain_of e)
chain_of (two a o e f) = None
chain_of (three a o c e f) = None
chain_of (many a o es) = None
chain_of (let_in a b e f) = None
chain_of (loop a ls e b n x f) = None
chain_of (iterate a e b f) = None

-- a name followed by field accesses takes all builders below its path; what stands there else takes what its part does
abbrev pub chain_takes : Option (ℕ × Path) → Named Origin → ℕ → Path → Bool → Bool
chain_takes (Some c) g s q part = (c.0 == s) && (is_below c.1 q && is_builder_path (origin_of_name s g) q)
chain_takes None g s q part = part

abbrev mutual
  -- whether the expression takes the builder at the path of the name, by the origins of names
  pub takes : ExprTree → Named Origin → ℕ → Path → Bool
  takes (leaf a l) g s q = chain_takes (chain_of_leaf l) g s q false
  takes (one a o e) g s q = chain_takes (chain_of_one o (chain_of e)) g s q (takes e g s q)
  takes (two a o e f) g s q = takes e g s q || takes f g s q
  takes (three a o c e f) g s q = takes c g s q || (takes e g s q || takes f g s q)
  takes (many a o es) g s q = some_take es g s q
  takes (let_in a b e f) g s q = takes e g s q || (if b.sym.0 == s then false else takes f ((b.sym.0, origin e g) ∷ g) s q)
  -- what a lambda takes is its own
  takes (loop a ls e b n x f) g s q = legs_take ls g s q || takes e g s q
  takes (iterate a e b f) g s q = takes e g s q

  pub some_take : ExprTrees → Named Origin → ℕ → Path → Bool
  some_take no_exprs g s q = false
  some_take (more_exprs e es) g s q = takes e g s q || some_take es g s q

  pub leg_takes : LegTree → Named Origin → ℕ → Path → Bool
  leg_takes (whole e) g s q = takes e g s q
  leg_takes (strided e f h i) g s q = takes e g s q || (takes f g s q || (takes h g s q || takes i g s q))

  pub legs_take : LegTrees → Named Origin → ℕ → Path → Bool
  legs_take no_legs g s q = false
  legs_take (more_legs l ls) g s q = leg_takes l g s q || legs_take ls g s q

-- ---- each is taken once

-- which builders are taken, by names and paths
abbrev pub Taken : Type 0
Taken = ℕ → Path → Bool

-- no builder is taken twice
pub record Apart (first second : Taken) : Type 0 where
  pub apart : (s : ℕ) (q : Path) → first s q ≡ true → second s q ≡ true → ⊥

-- both take the same
pub record Alike (first second : Taken) : Type 0 where
  pub alike : (s : ℕ) (q : Path) → first s q ≡ second s q

-- none is taken
pub record TakesNone (taken : Taken) : Type 0 where
  pub none : (s : ℕ) (q : Path) → taken s q ≡ false

-- each builder of the binder is taken
pub record TakesAll (s : ℕ) (o : Origin) (taken : Taken) : Type 0 where
  pub all : (q : Path) → is_builder_path o q ≡ true → taken s q ≡ true

-- all but those of a name that is bound there
abbrev pub without : ℕ → Taken → Taken
without s taken x q = if s == x then false else taken x q

-- a field access of builder type stands on a name and field accesses alone
abbrev pub ChainSplits : Option (ℕ × Path) → Origin → Type 0
ChainSplits (Some c) o = Unit {0}
ChainSplits None o = is_value o ≡ true

abbrev pub OneSplits : One → ExprTree → Origin → Type 0
OneSplits neg e o = Unit {0}
OneSplits not e o = Unit {0}
OneSplits (cast k) e o = Unit {0}
OneSplits len e o = Unit {0}
OneSplits (field n) e o = ChainSplits (chain_of e) (field_origin n o)
OneSplits finish e o = Unit {0}
OneSplits (started b) e o = Unit {0}

-- the right side of `&&` and `||` takes none
abbrev pub TwoSplits : Two → Taken → Type 0
TwoSplits (binary op) right = Unit {0}
TwoSplits and right = TakesNone right
TwoSplits or right = TakesNone right
TwoSplits look_up right = Unit {0}
TwoSplits key_exists right = Unit {0}
TwoSplits merge right = Unit {0}

-- the arms of an `if` take the same, other parts nothing twice
abbrev pub ThreeSplits : Three → Taken → Taken → Type 0
ThreeSplits if_else first second = Alike first second
ThreeSplits select first second = Apart first second
ThreeSplits slice first second = Apart first second

abbrev mutual
  -- the parts of each node take apart from each other, and each builder of a binder is taken in its body
  pub Splits : ExprTree → Named Origin → Type 0
  Splits (leaf a l) g = Unit {0}
  Splits (one a o e) g = Splits e g × OneSplits o e (origin e g)
  Splits (two a o e f) g = Splits e g × Splits f g × Apart (takes e g) (takes f g) × TwoSplits o (takes f g)
  Splits (three a o c e f) g =
      Splits c g × Splits e g × Splits f g × Apart (takes c g) (takes e g) × Apart (takes c g) (takes f g) × ThreeSplits o (takes e g) (takes f g)
  Splits (many a o es) g = AllSplit es g
  Splits (let_in a b e f) g =
      Splits e g × Splits f ((b.sym.0, origin e g) ∷ g) × Apart (takes e g) (without b.sym.0 (takes f ((b.sym.0, origin e g) ∷ g)))
      × TakesAll b.sym.0 (origin e g) (takes f ((b.sym.0, origin e g) ∷ g))
  Splits (loop a ls e b n x f) g =
      LegsSplit ls g × Splits e g × Apart (legs_take ls g) (takes e g) × Splits f (in_body b n x (origin e g) g)
      × TakesAll b.sym.0 (own_paths (origin e g)) (takes f (in_body b n x (origin e g) g))
  Splits (iterate a e b f) g = Splits e g × Splits f (in_turn b g)

  pub AllSplit : ExprTrees → Named Origin → Type 0
  AllSplit no_exprs g = Unit {0}
  AllSplit (more_exprs e es) g = Splits e g × AllSplit es g × Apart (takes e g) (some_take es g)

  pub LegSplits : LegTree → Named Origin → Type 0
  LegSplits (whole e) g = Splits e g
  LegSplits (strided e f h i) g =
      Splits e g × Splits f g × Splits h g × Splits i g × Apart (takes e g) (takes f g) × Apart (takes e g) (takes h g) × Apart (takes e g) (takes i g)
      × Apart (takes f g) (takes h g) × Apart (takes f g) (takes i g) × Apart (takes h g) (takes i g)

  pub LegsSplit : LegTrees → Named Origin → Type 0
  LegsSplit no_legs g = Unit {0}
  LegsSplit (more_legs l ls) g = LegSplits l g × LegsSplit ls g × Apart (leg_takes l g) (legs_take ls g)
