-- The earlier of places, in whichever order and groups it is sought.
use Rattle.std.proofs.Common.{◌≡◌, refl, ℕ, Option, Some, None, ap, ◌∙◌, arith}
use Rattle.weld_tree.specs.declared.place.Place.{Place}
use Rattle.weld_tree.specs.ExprTree.{ExprTrees, no_exprs, more_exprs, LegTrees, no_legs, more_legs}
use Rattle.weld_tokens.specs.Depth.{earlier, first_deep, first_deep_in, first_deep_in_leg, first_deep_in_legs}

earlier_none : (p : Option Place) → earlier p None ≡ p
earlier_none None = refl
earlier_none (Some p) = refl

turned : (p q : Option Place) → earlier p q ≡ earlier q p
turned None None = refl
turned None (Some q) = refl
turned (Some p) None = refl
turned (Some p) (Some q) = grind arith

-- what was found, a node's own place and what is left of it
pub rest_step : (p o z : Option Place) → earlier (earlier p o) z ≡ earlier p (earlier o z)
rest_step None o z = refl
rest_step (Some p) None z = refl
rest_step (Some p) (Some o) None = earlier_none (earlier (Some p) (Some o))
rest_step (Some p) (Some o) (Some z) = grind arith

-- the same where the second part comes first
pub two_step : (p o x y : Option Place) → earlier (earlier (earlier p o) y) x ≡ earlier p (earlier o (earlier x y))
two_step p o x y = rest_step (earlier p o) y x ∙ rest_step p o (earlier y x) ∙ ap (λ z. earlier p (earlier o z)) (turned y x)

pub let_step : (p o v b : Option Place) → earlier (earlier (earlier p o) v) b ≡ earlier p (earlier o (earlier v b))
let_step p o v b = rest_step (earlier p o) v b ∙ rest_step p o (earlier v b)

pub many_step : (levels : ℕ) (p o : Option Place) (es : ExprTrees) → first_deep_in levels (earlier p o) es ≡ earlier p (first_deep_in levels o es)
many_step levels p o no_exprs = refl
many_step levels p o (more_exprs e es) = ap (λ f. first_deep_in levels f es) (rest_step p o (first_deep levels e)) ∙ many_step levels p (earlier o (first_deep levels e)) es

legs_step : (levels : ℕ) (p o : Option Place) (ls : LegTrees) → first_deep_in_legs levels (earlier p o) ls ≡ earlier p (first_deep_in_legs levels o ls)
legs_step levels p o no_legs = refl
legs_step levels p o (more_legs l ls) = ap (λ f. first_deep_in_legs levels f ls) (rest_step p o (first_deep_in_leg levels l)) ∙ legs_step levels p (earlier o (first_deep_in_leg levels l)) ls

pub loop_step : (levels : ℕ) (p o z : Option Place) (ls : LegTrees) → earlier (first_deep_in_legs levels (earlier p o) ls) z ≡ earlier p (earlier (first_deep_in_legs levels o ls) z)
loop_step levels p o z ls = ap (λ f. earlier f z) (legs_step levels p o ls) ∙ rest_step p (first_deep_in_legs levels o ls) z
