-- A code for expressions, from which they can be read back.
use Rattle.std.specs.Prelude.{◌≡◌, ℕ, zero, suc, false, refl}
use Rattle.std.specs.Coded.{Coded, code_by}
use base.Stored.{Gv, gnil, gnum, gcons, num}
use denote.Struct.Codes.{itself}
use Rattle.weld_tree.specs.TypeCode.{tail}
use Rattle.weld_tree.specs.ExprTree.{ExprTree, leaf, one, two, three, many, let_in, loop, iterate, ExprTrees, no_exprs, more_exprs, LegTree, whole, strided, LegTrees, no_legs, more_legs, truth}
use Rattle.weld_tree.specs.LabelCode.{first, code_at, at_of, at_of-code_at, code_leaf, leaf_at, leaf_at-code_leaf, code_one, one_at, one_at-code_one, code_two, two_at, two_at-code_two, three_number, three_at, three_at-three_number, many_number, many_at, many_at-many_number, code_binder, binder_at, binder_at-code_binder}

-- a node by its number, what stands at it, and the list of its parts
abbrev mutual
  pub code_expr : ExprTree → Gv
  code_expr (leaf a l) = gcons (gnum 0) (gcons (gcons (code_at a) (code_leaf l)) gnil)
  code_expr (one a o e) = gcons (gnum 1) (gcons (gcons (code_at a) (code_one o)) (gcons (code_expr e) gnil))
  code_expr (two a t e f) = gcons (gnum 2) (gcons (gcons (code_at a) (code_two t)) (gcons (code_expr e) (gcons (code_expr f) gnil)))
  code_expr (three a t e f g) = gcons (gnum 3) (gcons (gcons (code_at a) (gnum (three_number t))) (gcons (code_expr e) (gcons (code_expr f) (gcons (code_expr g) gnil))))
  code_expr (many a m es) = gcons (gnum 4) (gcons (gcons (code_at a) (gnum (many_number m))) (code_exprs es))
  code_expr (let_in a b e f) = gcons (gnum 5) (gcons (gcons (code_at a) (code_binder b)) (gcons (code_expr e) (gcons (code_expr f) gnil)))
  code_expr (loop a ls e b i x f) = gcons (gnum 6) (gcons (gcons (code_at a) (gcons (code_binder b) (gcons (code_binder i) (code_binder x)))) (gcons (code_expr e) (gcons (code_expr f) (code_legs ls))))
  code_expr (iterate a e b f) = gcons (gnum 7) (gcons (gcons (code_at a) (code_binder b)) (gcons (code_expr e) (gcons (code_expr f) gnil)))

  pub code_exprs : ExprTrees → Gv
  code_exprs no_exprs = gnil
  code_exprs (more_exprs e es) = gcons (code_expr e) (code_exprs es)

  pub code_leg : LegTree → Gv
  code_leg (whole e) = gcons (gnum 0) (gcons gnil (gcons (code_expr e) gnil))
  code_leg (strided e f g h) = gcons (gnum 1) (gcons gnil (gcons (code_expr e) (gcons (code_expr f) (gcons (code_expr g) (gcons (code_expr h) gnil)))))

  pub code_legs : LegTrees → Gv
  code_legs no_legs = gnil
  code_legs (more_legs l ls) = gcons (code_leg l) (code_legs ls)

-- what a code may be a code of
pub record Read : Type 0 where
  pub expr : ExprTree
  pub exprs : ExprTrees
  pub leg : LegTree
  pub legs : LegTrees

abbrev blank : ExprTree
blank = leaf (at_of gnil) (truth false)

abbrev item : ExprTrees → ExprTree
item no_exprs = blank
item (more_exprs e es) = e

abbrev rest : ExprTrees → ExprTrees
rest no_exprs = no_exprs
rest (more_exprs e es) = es

abbrev rest_legs : LegTrees → LegTrees
rest_legs no_legs = no_legs
rest_legs (more_legs l ls) = ls

-- by the node's number, what stands at it, its parts, and its parts as legs
abbrev expr_by : ℕ → Gv → ExprTrees → LegTrees → ExprTree
expr_by zero g es ls = leaf (at_of (first g)) (leaf_at (tail g))
expr_by (suc zero) g es ls = one (at_of (first g)) (one_at (tail g)) (item es)
expr_by (suc (suc zero)) g es ls = two (at_of (first g)) (two_at (tail g)) (item es) (item (rest es))
expr_by (suc (suc (suc zero))) g es ls = three (at_of (first g)) (three_at (num (tail g))) (item es) (item (rest es)) (item (rest (rest es)))
expr_by (suc (suc (suc (suc zero)))) g es ls = many (at_of (first g)) (many_at (num (tail g))) es
expr_by (suc (suc (suc (suc (suc zero))))) g es ls = let_in (at_of (first g)) (binder_at (tail g)) (item es) (item (rest es))
expr_by (suc (suc (suc (suc (suc (suc zero)))))) g es ls = loop (at_of (first g)) (rest_legs (rest_legs ls)) (item es) (binder_at (first (tail g))) (binder_at (first (tail (tail g)))) (binder_at (tail (tail (tail g)))) (item (rest es))
expr_by (suc (suc (suc (suc (suc (suc (suc n))))))) g es ls = iterate (at_of (first g)) (item es) (binder_at (tail g)) (item (rest es))

abbrev leg_by : ℕ → ExprTrees → LegTree
leg_by zero es = whole (item es)
leg_by (suc n) es = strided (item es) (item (rest es)) (item (rest (rest es))) (item (rest (rest (rest es))))

abbrev pub back_expr : Gv → Read
back_expr gnil = record { expr = blank; exprs = no_exprs; leg = whole blank; legs = no_legs }
back_expr (gnum n) = record { expr = blank; exprs = no_exprs; leg = whole blank; legs = no_legs }
back_expr (gcons a b) = record {
  expr = expr_by (num a) (first b) (rest (back_expr b).exprs) (rest_legs (back_expr b).legs);
  exprs = more_exprs (back_expr a).expr (back_expr b).exprs;
  leg = leg_by (num a) (rest (back_expr b).exprs);
  legs = more_legs (back_expr a).leg (back_expr b).legs;
}

mutual
  pub back-code_expr : (e : ExprTree) → (back_expr (code_expr e)).expr ≡ e
  back-code_expr (leaf a l) = λ i. leaf (at_of-code_at a i) (leaf_at-code_leaf l i)
  back-code_expr (one a o e) = λ i. one (at_of-code_at a i) (one_at-code_one o i) (back-code_expr e i)
  back-code_expr (two a t e f) = λ i. two (at_of-code_at a i) (two_at-code_two t i) (back-code_expr e i) (back-code_expr f i)
  back-code_expr (three a t e f g) = λ i. three (at_of-code_at a i) (three_at-three_number t i) (back-code_expr e i) (back-code_expr f i) (back-code_expr g i)
  back-code_expr (many a m es) = λ i. many (at_of-code_at a i) (many_at-many_number m i) (back-code_exprs es i)
  back-code_expr (let_in a b e f) = λ i. let_in (at_of-code_at a i) (binder_at-code_binder b i) (back-code_expr e i) (back-code_expr f i)
  back-code_expr (loop a ls e b n x f) = λ i. loop (at_of-code_at a i) (back-code_legs ls i) (back-code_expr e i) (binder_at-code_binder b i) (binder_at-code_binder n i) (binder_at-code_binder x i) (back-code_expr f i)
  back-code_expr (iterate a e b f) = λ i. iterate (at_of-code_at a i) (back-code_expr e i) (binder_at-code_binder b i) (back-code_expr f i)

  pub back-code_exprs : (es : ExprTrees) → (back_expr (code_exprs es)).exprs ≡ es
  back-code_exprs no_exprs = refl
  back-code_exprs (more_exprs e es) = λ i. more_exprs (back-code_expr e i) (back-code_exprs es i)

  pub back-code_leg : (l : LegTree) → (back_expr (code_leg l)).leg ≡ l
  back-code_leg (whole e) = λ i. whole (back-code_expr e i)
  back-code_leg (strided e f g h) = λ i. strided (back-code_expr e i) (back-code_expr f i) (back-code_expr g i) (back-code_expr h i)

  pub back-code_legs : (ls : LegTrees) → (back_expr (code_legs ls)).legs ≡ ls
  back-code_legs no_legs = refl
  back-code_legs (more_legs l ls) = λ i. more_legs (back-code_leg l i) (back-code_legs ls i)

abbrev pub coded_expr : Coded ExprTree
coded_expr = code_by Gv itself code_expr (λ g. (back_expr g).expr) back-code_expr

abbrev pub coded_leg : Coded LegTree
coded_leg = code_by Gv itself code_leg (λ g. (back_expr g).leg) back-code_leg
