-- The rules on builders look past the types that are noted at nodes.
use Rattle.std.proofs.Common.{◌≡◌, ℕ, ◌==◌, if◌then◌else◌, Bool, false, ◌||◌, ◌&&◌, not, ◌∷◌, ◌++◌, [], Option, refl, sym, ◌∙◌, ap}
use Rattle.weld_tree.specs.declared.code.Code.TheVariants.{L1, L2, L4, L6}
use Rattle.weld_tree.specs.declared.place.Place.{Place}
use Rattle.weld_tree.specs.ExprTree.{ExprTree, leaf, one, two, three, many, let_in, loop, iterate, ExprTrees, no_exprs, more_exprs, LegTree, whole, strided, LegTrees, no_legs, more_legs, if_else, select, slice}
use Rattle.weld_tree.specs.Program.{ProgramTree}
use Rattle.weld_meaning.specs.Environment.{Named}
use Rattle.weld_meaning.specs.Origin.{Path, Origin, more_origins, origin, origins, one_origin, two_origin, three_origin, many_origin, own_paths, in_body, in_turn, by_name}
use Rattle.weld_meaning.specs.Available.{Taken, chain_of, chain_of_one, chain_of_leaf, chain_takes, takes, some_take, leg_takes, legs_take}
use Rattle.weld_meaning.specs.LinearWalk.{Left, Refused, before, where_so, name_place, chain_or, one_refused, two_refused, arms_refused, left_over, builders_of, after_taking, same_origin, is_not_made, differ, some_of, refusal, some_refusal, leg_refusal, legs_refusal, linear_refusal}
use Rattle.weld_check_types.specs.Unnoted.{unnoted, all_unnoted, leg_unnoted, legs_unnoted, IsSameButNotes}

-- ---- origins

mutual
  origin_of : (e : ExprTree) (g : Named Origin) → origin (unnoted e) g ≡ origin e g
  origin_of (leaf a l) g = refl
  origin_of (one a o e) g = λ i. one_origin o (origin_of e g i)
  origin_of (two a o e f) g = λ i. two_origin o (origin_of e g i)
  origin_of (three a o c e f) g = λ i. three_origin o (origin_of e g i)
  origin_of (many a o es) g = λ i. many_origin o (origins_of es g i)
  origin_of (let_in a b e f) g = λ i. origin_of f ((b.sym.0, origin_of e g i) ∷ g) i
  origin_of (loop a ls e b n x f) g = origin_of e g
  origin_of (iterate a e b f) g = refl

  origins_of : (es : ExprTrees) (g : Named Origin) → origins (all_unnoted es) g ≡ origins es g
  origins_of no_exprs g = refl
  origins_of (more_exprs e es) g = λ i. more_origins (origin_of e g i) (origins_of es g i)

-- ---- what is taken

chain_is : (e : ExprTree) → chain_of (unnoted e) ≡ chain_of e
chain_is (leaf a l) = refl
chain_is (one a o e) = λ i. chain_of_one o (chain_is e i)
chain_is (two a o e f) = refl
chain_is (three a o c e f) = refl
chain_is (many a o es) = refl
chain_is (let_in a b e f) = refl
chain_is (loop a ls e b n x f) = refl
chain_is (iterate a e b f) = refl

mutual
  takes_is : (e : ExprTree) (g : Named Origin) → takes (unnoted e) g ≡ takes e g
  takes_is (leaf a l) g = refl
  takes_is (one a o e) g = λ i s q. chain_takes (chain_of_one o (chain_is e i)) g s q (takes_is e g i s q)
  takes_is (two a o e f) g = λ i s q. takes_is e g i s q || takes_is f g i s q
  takes_is (three a o c e f) g = λ i s q. takes_is c g i s q || (takes_is e g i s q || takes_is f g i s q)
  takes_is (many a o es) g = some_take_is es g
  takes_is (let_in a b e f) g = λ i s q. takes_is e g i s q || (if b.sym.0 == s then false else takes_is f ((b.sym.0, origin_of e g i) ∷ g) i s q)
  takes_is (loop a ls e b n x f) g = λ i s q. legs_take_is ls g i s q || takes_is e g i s q
  takes_is (iterate a e b f) g = takes_is e g

  some_take_is : (es : ExprTrees) (g : Named Origin) → some_take (all_unnoted es) g ≡ some_take es g
  some_take_is no_exprs g = refl
  some_take_is (more_exprs e es) g = λ i s q. takes_is e g i s q || some_take_is es g i s q

  leg_takes_is : (l : LegTree) (g : Named Origin) → leg_takes (leg_unnoted l) g ≡ leg_takes l g
  leg_takes_is (whole e) g = takes_is e g
  leg_takes_is (strided e f h k) g = λ i s q. takes_is e g i s q || (takes_is f g i s q || (takes_is h g i s q || takes_is k g i s q))

  legs_take_is : (ls : LegTrees) (g : Named Origin) → legs_take (legs_unnoted ls) g ≡ legs_take ls g
  legs_take_is no_legs g = refl
  legs_take_is (more_legs l ls) g = λ i s q. leg_takes_is l g i s q || legs_take_is ls g i s q

-- ---- refusals

name_place_is : (e : ExprTree) → name_place (unnoted e) ≡ name_place e
name_place_is (leaf a l) = refl
name_place_is (one a o e) = name_place_is e
name_place_is (two a o e f) = refl
name_place_is (three a o c e f) = refl
name_place_is (many a o es) = refl
name_place_is (let_in a b e f) = refl
name_place_is (loop a ls e b n x f) = refl
name_place_is (iterate a e b f) = refl

arms_are : (e f : ExprTree) (p : Place) (g : Named Origin) (left : Left) → arms_refused (unnoted e) (unnoted f) p g left ≡ arms_refused e f p g left
arms_are e f p g left = λ i.
    before (where_so (some_of (λ (q : ℕ × Path). differ (takes_is e g i q.0 q.1) (takes_is f g i q.0 q.1)) left) L2 p)
    (where_so (not (same_origin (origin_of e (by_name g) i) (origin_of f (by_name g) i) && is_not_made (origin_of e (by_name g) i))) L4 p)

mutual
  refusal_is : (e : ExprTree) (g : Named Origin) (left : Left) → refusal (unnoted e) g left ≡ refusal e g left
  refusal_is (leaf a l) g left = refl
  refusal_is (one a o e) g left = λ i.
      chain_or (chain_of_one o (chain_is e i)) (name_place_is e i) g left (before (refusal_is e g left i) (one_refused o a.place (origin_of e g i)))
  refusal_is (two a o e f) g left = λ i.
      before (refusal_is e g left i) (before (refusal_is f g (after_taking (takes_is e g i) left) i) (two_refused o a.place (takes_is f g i) (after_taking (takes_is e g i) left)))
  refusal_is (three a if_else c e f) g left = λ i.
      before (refusal_is c g left i) (before (refusal_is e g (after_taking (takes_is c g i) left) i) (before (refusal_is f g (after_taking (takes_is c g i) left) i)
      (arms_are e f a.place g (after_taking (takes_is c g i) left) i)))
  refusal_is (three a select c e f) g left = λ i.
      before (refusal_is c g left i) (before (refusal_is e g (after_taking (takes_is c g i) left) i) (refusal_is f g (after_taking (takes_is e g i) (after_taking (takes_is c g i) left)) i))
  refusal_is (three a slice c e f) g left = λ i.
      before (refusal_is c g left i) (before (refusal_is e g (after_taking (takes_is c g i) left) i) (refusal_is f g (after_taking (takes_is e g i) (after_taking (takes_is c g i) left)) i))
  refusal_is (many a o es) g left = some_refusal_is es g left
  refusal_is (let_in a b e f) g left = λ i.
      before (refusal_is e g left i)
      (before (refusal_is f ((b.sym.0, origin_of e g i) ∷ g) (builders_of b.sym.0 (origin_of e g i) ++ after_taking (takes_is e g i) left) i)
      (left_over b.sym.0 (origin_of e g i) b.place (takes_is f ((b.sym.0, origin_of e g i) ∷ g) i)))
  refusal_is (loop a ls e b n x f) g left = λ i.
      before (legs_refusal_is ls g left i) (before (refusal_is e g (after_taking (legs_take_is ls g i) left) i)
      (before (refusal_is f (in_body b n x (origin_of e g i) g) (builders_of b.sym.0 (own_paths (origin_of e g i))) i)
      (before (left_over b.sym.0 (own_paths (origin_of e g i)) b.place (takes_is f (in_body b n x (origin_of e g i) g) i))
      (where_so (not (same_origin (origin_of f (in_body b n x (origin_of e g i) g) i) (own_paths (origin_of e g i)))) L6 a.place))))
  refusal_is (iterate a e b f) g left = λ i. before (refusal_is e g left i) (refusal_is f (in_turn b g) [] i)

  some_refusal_is : (es : ExprTrees) (g : Named Origin) (left : Left) → some_refusal (all_unnoted es) g left ≡ some_refusal es g left
  some_refusal_is no_exprs g left = refl
  some_refusal_is (more_exprs e es) g left = λ i. before (refusal_is e g left i) (some_refusal_is es g (after_taking (takes_is e g i) left) i)

  leg_refusal_is : (l : LegTree) (g : Named Origin) (left : Left) → leg_refusal (leg_unnoted l) g left ≡ leg_refusal l g left
  leg_refusal_is (whole e) g left = refusal_is e g left
  leg_refusal_is (strided e f h k) g left = λ i.
      before (refusal_is e g left i) (before (refusal_is f g (after_taking (takes_is e g i) left) i)
      (before (refusal_is h g (after_taking (takes_is f g i) (after_taking (takes_is e g i) left)) i)
      (refusal_is k g (after_taking (takes_is h g i) (after_taking (takes_is f g i) (after_taking (takes_is e g i) left))) i)))

  legs_refusal_is : (ls : LegTrees) (g : Named Origin) (left : Left) → legs_refusal (legs_unnoted ls) g left ≡ legs_refusal ls g left
  legs_refusal_is no_legs g left = refl
  legs_refusal_is (more_legs l ls) g left = λ i. before (leg_refusal_is l g left i) (legs_refusal_is ls g (after_taking (leg_takes_is l g i) left) i)

pub one_refusal : (p q : ProgramTree) → IsSameButNotes p q → linear_refusal p ≡ linear_refusal q
one_refusal p q h = sym (refusal_is p.body [] []) ∙ ap (λ (r : ProgramTree). linear_refusal r) h ∙ refusal_is q.body [] []
