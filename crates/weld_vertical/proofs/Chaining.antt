-- A chain of loops that are fused, in code.
use Rattle.std.proofs.Common.{◌≡◌, List, [], ◌∷◌, map, refl, ap, ◌∙◌}
use Rattle.std.proofs.lemmas.List.{length-map}
use Rattle.weld_tree.specs.ExprTree.{ExprTree, leaf, one, two, three, many, let_in, loop, iterate, LegTree, more_legs, pack_legs}
use Rattle.weld_tree.specs.Lending.{refill, refill_is}
use Rattle.weld_rewriting.specs.Sweep.{settled}
use Rattle.weld_vertical.specs.Fusing.{loops_rule}
use Rattle.weld_vertical.specs.Chains.{chain_fused, below_fused, leg_fused, legs_fused}

-- the top is tried once what is below it is fused
pub top_fused : (e : ExprTree) → settled loops_rule (below_fused e) ≡ chain_fused e
top_fused (leaf a l) = refl
top_fused (one a o e) = refl
top_fused (two a o e f) = refl
top_fused (three a o e f g) = refl
top_fused (many a o es) = refl
top_fused (let_in a b e f) = refl
top_fused (loop a ls e b n x f) = refl
top_fused (iterate a e b f) = refl

packed : (ls : List LegTree) → pack_legs (map leg_fused ls) ≡ legs_fused (pack_legs ls)
packed [] = refl
packed (l ∷ ls) = ap (more_legs (leg_fused l)) (packed ls)

-- what the slice was made is what the list is
pub list_fused : (old was new : List LegTree) → was ≡ old → new ≡ map leg_fused was → pack_legs (refill old new) ≡ legs_fused (pack_legs old)
list_fused old was new p q =
    ap pack_legs (ap (refill old) (q ∙ ap (map leg_fused) p) ∙ refill_is old (map leg_fused old) (length-map old leg_fused)) ∙ packed old
