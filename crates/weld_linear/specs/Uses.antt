-- How often a builder is used on a control path.
use Rattle.std.specs.Prelude.{◌≡◌, ◌⊎◌, ℕ, zero, suc, ◌+◌, ◌==◌, Bool, true, false, ◌∷◌, Option, Some, None}
use Rattle.weld_tree.specs.ExprTree.{ExprTree, leaf, one, two, three, many, let_in, loop, iterate, ExprTrees, no_exprs, more_exprs, LegTree, whole, strided, LegTrees, no_legs, more_legs, Two, binary, and, or, look_up, key_exists, merge, Three, if_else, select, slice}
use Rattle.weld_meaning.specs.Environment.{Named}
use Rattle.weld_meaning.specs.Origin.{Path, Origin, own, origin, own_paths, in_body, in_turn}
use Rattle.weld_meaning.specs.Available.{at_path, is_builder_path, chain_of_leaf, chain_of_one, chain_of, chain_takes}

-- which numbers of uses there are, over all control paths
abbrev pub Uses : Type 1
Uses = ℕ → Type 0

-- those of one part and then another
abbrev pub Both : Uses → Uses → Uses
Both first second n = (i : ℕ) × (j : ℕ) × first i × second j × (n ≡ i + j)

-- those of one of two parts
abbrev pub Either : Uses → Uses → Uses
Either first second n = first n ⊎ second n

abbrev pub NoUse : Uses
NoUse n = n ≡ 0

-- those of as many turns
abbrev pub Turns : Uses → ℕ → Uses
Turns body zero = NoUse
Turns body (suc k) = Both body (Turns body k)

-- those of any number of turns
abbrev pub AnyTurns : Uses → Uses
AnyTurns body n = (k : ℕ) × Turns body k n

-- none where the name is bound anew
abbrev pub Behind : Bool → Uses → Uses
Behind true part = NoUse
Behind false part = part

abbrev pub times : Bool → ℕ
times true = 1
times false = 0

-- a name followed by field accesses uses each builder below its path once
abbrev pub ChainUses : Option (ℕ × Path) → Named Origin → ℕ → Path → Uses → Uses
ChainUses (Some c) g s q part n = n ≡ times (chain_takes (Some c) g s q false)
ChainUses None g s q part n = part n

-- the right side of `&&` and `||` is evaluated or not
abbrev pub TwoUse : Two → Uses → Uses → Uses
TwoUse (binary op) left right = Both left right
TwoUse and left right = Either left (Both left right)
TwoUse or left right = Either left (Both left right)
TwoUse look_up left right = Both left right
TwoUse key_exists left right = Both left right
TwoUse merge left right = Both left right

-- of an `if` one arm is evaluated
abbrev pub ThreeUse : Three → Uses → Uses → Uses → Uses
ThreeUse if_else first second third = Both first (Either second third)
ThreeUse select first second third = Both first (Both second third)
ThreeUse slice first second third = Both first (Both second third)

abbrev mutual
  -- how often the expression may use the builder at the path of the name, by the origins of names: a control path chooses the arm of
  -- each `if`, whether the right side of each `&&` and `||` is evaluated, and how many turns each loop takes
  pub ExprUses : ExprTree → Named Origin → ℕ → Path → Uses
  ExprUses (leaf a l) g s q = ChainUses (chain_of_leaf l) g s q NoUse
  ExprUses (one a o e) g s q = ChainUses (chain_of_one o (chain_of e)) g s q (ExprUses e g s q)
  ExprUses (two a o e f) g s q = TwoUse o (ExprUses e g s q) (ExprUses f g s q)
  ExprUses (three a o c e f) g s q = ThreeUse o (ExprUses c g s q) (ExprUses e g s q) (ExprUses f g s q)
  ExprUses (many a o es) g s q = ExprsUse es g s q
  ExprUses (let_in a b e f) g s q = Both (ExprUses e g s q) (Behind (b.sym.0 == s) (ExprUses f ((b.sym.0, origin e g) ∷ g) s q))
  ExprUses (loop a ls e b n x f) g s q =
      Both (LegsUse ls g s q) (Both (ExprUses e g s q)
      (AnyTurns (Behind (x.sym.0 == s) (Behind (n.sym.0 == s) (Behind (b.sym.0 == s) (ExprUses f (in_body b n x (origin e g) g) s q))))))
  ExprUses (iterate a e b f) g s q = Both (ExprUses e g s q) (AnyTurns (Behind (b.sym.0 == s) (ExprUses f (in_turn b g) s q)))

  pub ExprsUse : ExprTrees → Named Origin → ℕ → Path → Uses
  ExprsUse no_exprs g s q = NoUse
  ExprsUse (more_exprs e es) g s q = Both (ExprUses e g s q) (ExprsUse es g s q)

  pub LegUses : LegTree → Named Origin → ℕ → Path → Uses
  LegUses (whole e) g s q = ExprUses e g s q
  LegUses (strided e f h i) g s q = Both (ExprUses e g s q) (Both (ExprUses f g s q) (Both (ExprUses h g s q) (ExprUses i g s q)))

  pub LegsUse : LegTrees → Named Origin → ℕ → Path → Uses
  LegsUse no_legs g s q = NoUse
  LegsUse (more_legs l ls) g s q = Both (LegUses l g s q) (LegsUse ls g s q)

-- on each control path each builder of the binder is used exactly once
pub record UsedOnce (f : ExprTree) (g : Named Origin) (s : ℕ) (o : Origin) : Type 0 where
  pub once : (q : Path) (n : ℕ) → is_builder_path o q ≡ true → ExprUses f g s q n → n ≡ 1

-- the body answers, path by path, its own builder, which has the form of the one that the loop starts with
pub record AnswersOwn (f : ExprTree) (g : Named Origin) (o : Origin) : Type 0 where
  pub answers : (q : Path) → is_builder_path o q ≡ true → at_path q (origin f g) ≡ own q

abbrev mutual
  -- each builder of each binder in the expression is used exactly once on each control path of its body, and the body of each loop
  -- answers, path by path, its own builder
  pub EachOnce : ExprTree → Named Origin → Type 0
  EachOnce (leaf a l) g = Unit {0}
  EachOnce (one a o e) g = EachOnce e g
  EachOnce (two a o e f) g = EachOnce e g × EachOnce f g
  EachOnce (three a o c e f) g = EachOnce c g × EachOnce e g × EachOnce f g
  EachOnce (many a o es) g = AllOnce es g
  EachOnce (let_in a b e f) g =
      EachOnce e g × UsedOnce f ((b.sym.0, origin e g) ∷ g) b.sym.0 (origin e g) × EachOnce f ((b.sym.0, origin e g) ∷ g)
  EachOnce (loop a ls e b n x f) g =
      LegsOnce ls g × EachOnce e g × UsedOnce f (in_body b n x (origin e g) g) b.sym.0 (own_paths (origin e g))
      × AnswersOwn f (in_body b n x (origin e g) g) (origin e g) × EachOnce f (in_body b n x (origin e g) g)
  EachOnce (iterate a e b f) g = EachOnce e g × EachOnce f (in_turn b g)

  pub AllOnce : ExprTrees → Named Origin → Type 0
  AllOnce no_exprs g = Unit {0}
  AllOnce (more_exprs e es) g = EachOnce e g × AllOnce es g

  pub LegOnce : LegTree → Named Origin → Type 0
  LegOnce (whole e) g = EachOnce e g
  LegOnce (strided e f h i) g = EachOnce e g × EachOnce f g × EachOnce h g × EachOnce i g

  pub LegsOnce : LegTrees → Named Origin → Type 0
  LegsOnce no_legs g = Unit {0}
  LegsOnce (more_legs l ls) g = LegOnce l g × LegsOnce ls g
