-- An expression with the type of each node noted at it, as the walk finds it.
use Rattle.std.specs.Prelude.{◌∷◌}
use Rattle.weld_meaning.specs.Typing.{Types, body_types, param_types}
use Rattle.weld_tree.specs.declared.known.Known.{Known}
use Rattle.weld_tree.specs.declared.known.Known.TheVariants.{Blank, Is}
use Rattle.weld_tree.specs.declared.place.Place.{Place}
use Rattle.weld_tree.specs.TypeTree.{TypeTree}
use Rattle.weld_tree.specs.ExprTree.{At, ExprTree, leaf, one, two, three, many, let_in, loop, iterate, ExprTrees, no_exprs, more_exprs, LegTree, whole, strided, LegTrees, no_legs, more_legs}
use Rattle.weld_tree.specs.Program.{ProgramTree}
use Rattle.weld_types.specs.Walk.{Found, found, refused, at_node, elements, go_on, row_by, Strips, strips_of, type_of}

-- the place of a node with what is noted at it
abbrev pub at : Place → Known → At
at p k = record { place = p; ty = k }

-- what is known by what the walk finds
abbrev pub known_by : Found TypeTree → Known
known_by (found t) = Is t
known_by (refused c p) = Blank

-- what stands under a binder of the type found; where none is found, as it was
abbrev pub under : {A B : Type 0} → Found A → (A → B) → B → B
under (found x) f other = f x
under (refused c p) f other = other

-- the types of the builder and of the rows of a loop
abbrev pub rows_found : Place → Found Strips → Found TypeTree → Found (TypeTree × TypeTree)
rows_found p s t = go_on s (λ s. go_on t (λ t. go_on (at_node p (row_by (elements s.vectors) s.bounds t)) (λ r. found (t, r))))

abbrev mutual
  -- the expression with this noted at its node, and at each of its parts the type that the walk finds of it
  pub with_types : ExprTree → Known → Types → ExprTree
  with_types (leaf a l) k g = leaf (at a.place k) l
  with_types (one a o e) k g = one (at a.place k) o (with_types e (known_by (type_of e g)) g)
  with_types (two a o e f) k g = two (at a.place k) o (with_types e (known_by (type_of e g)) g) (with_types f (known_by (type_of f g)) g)
  with_types (three a o e f h) k g =
      three (at a.place k) o (with_types e (known_by (type_of e g)) g) (with_types f (known_by (type_of f g)) g) (with_types h (known_by (type_of h g)) g)
  with_types (many a o es) k g = many (at a.place k) o (all_with_types es g)
  with_types (let_in a b e f) k g =
      let_in (at a.place k) b (with_types e (known_by (type_of e g)) g)
      (under (type_of e g) (λ u. with_types f (known_by (type_of f ((b.sym.0, u) ∷ g))) ((b.sym.0, u) ∷ g)) f)
  with_types (loop a ls e b n x f) k g =
      loop (at a.place k) (legs_with_types ls g) (with_types e (known_by (type_of e g)) g) b n x
      (under (rows_found a.place (strips_of ls g) (type_of e g)) (λ tr. with_types f (known_by (type_of f (body_types b n x tr.0 tr.1 g))) (body_types b n x tr.0 tr.1 g)) f)
  with_types (iterate a e b f) k g =
      iterate (at a.place k) (with_types e (known_by (type_of e g)) g) b
      (under (type_of e g) (λ s. with_types f (known_by (type_of f ((b.sym.0, s) ∷ g))) ((b.sym.0, s) ∷ g)) f)

  pub all_with_types : ExprTrees → Types → ExprTrees
  all_with_types no_exprs g = no_exprs
  all_with_types (more_exprs e es) g = more_exprs (with_types e (known_by (type_of e g)) g) (all_with_types es g)

  pub leg_with_types : LegTree → Types → LegTree
  leg_with_types (whole e) g = whole (with_types e (known_by (type_of e g)) g)
  leg_with_types (strided e f h i) g =
      strided (with_types e (known_by (type_of e g)) g) (with_types f (known_by (type_of f g)) g) (with_types h (known_by (type_of h g)) g) (with_types i (known_by (type_of i g)) g)

  pub legs_with_types : LegTrees → Types → LegTrees
  legs_with_types no_legs g = no_legs
  legs_with_types (more_legs l ls) g = more_legs (leg_with_types l g) (legs_with_types ls g)

-- the expression with the type of each node noted at it
abbrev pub typed : ExprTree → Types → ExprTree
typed e g = with_types e (known_by (type_of e g)) g

-- the program with the type of each node of its body noted at it
abbrev pub typed_program : ProgramTree → ProgramTree
typed_program p = record { params = p.params; body = typed p.body (param_types p.params) }
