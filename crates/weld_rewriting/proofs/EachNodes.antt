-- What holds of each node holds of each if it follows.
use Rattle.weld_tree.specs.ExprTree.{ExprTree, leaf, one, two, three, many, let_in, loop, iterate, ExprTrees, no_exprs, more_exprs, LegTree, whole, strided, LegTrees, no_legs, more_legs}
use Rattle.weld_rewriting.specs.Nodes.{EachNode, EachOfAll, EachOfLeg, EachOfLegs}

mutual
  pub each_node : (P Q : ExprTree → Type 0) → ((e : ExprTree) → P e → Q e) → (e : ExprTree) → EachNode P e → EachNode Q e
  each_node P Q f (leaf a l) h = f (leaf a l) h
  each_node P Q f (one a o e) h = (each_node P Q f e h.0, f (one a o e) h.1)
  each_node P Q f (two a o e g) h = (each_node P Q f e h.0, each_node P Q f g h.1, f (two a o e g) h.2)
  each_node P Q f (three a o c e g) h = (each_node P Q f c h.0, each_node P Q f e h.1, each_node P Q f g h.2, f (three a o c e g) h.3)
  each_node P Q f (many a o es) h = (each_of_all P Q f es h.0, f (many a o es) h.1)
  each_node P Q f (let_in a b e g) h = (each_node P Q f e h.0, each_node P Q f g h.1, f (let_in a b e g) h.2)
  each_node P Q f (loop a ls e b n x g) h = (each_of_legs P Q f ls h.0, each_node P Q f e h.1, each_node P Q f g h.2, f (loop a ls e b n x g) h.3)
  each_node P Q f (iterate a e b g) h = (each_node P Q f e h.0, each_node P Q f g h.1, f (iterate a e b g) h.2)

  each_of_all : (P Q : ExprTree → Type 0) → ((e : ExprTree) → P e → Q e) → (es : ExprTrees) → EachOfAll P es → EachOfAll Q es
  each_of_all P Q f no_exprs h = tt
  each_of_all P Q f (more_exprs e es) h = (each_node P Q f e h.0, each_of_all P Q f es h.1)

  each_of_leg : (P Q : ExprTree → Type 0) → ((e : ExprTree) → P e → Q e) → (l : LegTree) → EachOfLeg P l → EachOfLeg Q l
  each_of_leg P Q f (whole e) h = each_node P Q f e h
  each_of_leg P Q f (strided e g k m) h = (each_node P Q f e h.0, each_node P Q f g h.1, each_node P Q f k h.2, each_node P Q f m h.3)

  each_of_legs : (P Q : ExprTree → Type 0) → ((e : ExprTree) → P e → Q e) → (ls : LegTrees) → EachOfLegs P ls → EachOfLegs Q ls
  each_of_legs P Q f no_legs h = tt
  each_of_legs P Q f (more_legs l ls) h = (each_of_leg P Q f l h.0, each_of_legs P Q f ls h.1)
