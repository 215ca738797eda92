-- A loop or its result, taken apart as the rule and the code do.
use Rattle.std.proofs.Common.{◌≡◌, ℕ, false, Option, Some, None, is_some, refl, ◌∙◌}
use Rattle.weld_tree.specs.declared.binder.Binder.{Binder}
use Rattle.weld_tree.specs.ExprTree.{At, ExprTree, leaf, one, two, three, many, let_in, loop, iterate, LegTrees, whole, no_legs, more_legs, name, neg, not, cast, len, field, finish, started}
use Rattle.weld_substitution.specs.Redex.{noted}
use Rattle.weld_joining.specs.Beside.{finish_at, Half, two_lets, side_by_side}
use Rattle.weld_joining.specs.Joining.{loop_over, over, item_of, known_type, result_of, loop_in, joined_loops, joined_neighbours}

-- what is noted at the result of a loop, or that it is none
pub result_is : (r : Option At) (q : At) (ls : LegTrees) (d : ExprTree) (c i x : Binder) (f : ExprTree) → result_of (finish_at r (loop q ls d c i x f)) ≡ r
result_is None q ls d c i x f = refl
result_is (Some a) q ls d c i x f = refl

pub loop_is : (r : Option At) (q : At) (ls : LegTrees) (d : ExprTree) (c i x : Binder) (f : ExprTree) → loop_in (finish_at r (loop q ls d c i x f)) ≡ loop q ls d c i x f
loop_is None q ls d c i x f = refl
loop_is (Some a) q ls d c i x f = refl

-- what is no result is a loop itself
pub bare_loop : (e : ExprTree) → is_some (result_of e) ≡ false → over e ≡ loop_over e
bare_loop (leaf a l) h = refl
bare_loop (one a neg e) h = refl
bare_loop (one a not e) h = refl
bare_loop (one a (cast k) e) h = refl
bare_loop (one a len e) h = refl
bare_loop (one a (field n) e) h = refl
bare_loop (one a finish e) h = let nothing : ⊥ = cc in absurd nothing
bare_loop (one a (started b) e) h = refl
bare_loop (two a o e f) h = refl
bare_loop (three a o c e f) h = refl
bare_loop (many a o es) h = refl
bare_loop (let_in a b e f) h = refl
bare_loop (loop a ls e b n x f) h = refl
bare_loop (iterate a e b f) h = refl

-- two such lets, of halves with these parts
pub joined_is : (a m : At) (x y : Binder) (p u : Option At) (q w : At) (ls ks : LegTrees) (d e : ExprTree) (c i r g n z : Binder) (f body rest : ExprTree)
    → joined_neighbours (let_in a x (finish_at p (loop q ls d c i r f)) (let_in m y (finish_at u (loop w ks e g n z body)) rest)) ≡ joined_loops a m x p (loop q ls d c i r f) y u (loop w ks e g n z body) rest
joined_is a m x y p u q w ls ks d e c i r g n z f body rest =
    λ k. joined_loops a m x (result_is p q ls d c i r f k) (loop_is p q ls d c i r f k) y (result_is u w ks e g n z body k) (loop_is u w ks e g n z body k) rest

-- the answer to two halves whose notes are right
pub answer_is : (a m : At) (s : ℕ) (h k : Half) (rest : ExprTree) → known_type (noted h.start) ≡ h.starts → known_type (noted k.start) ≡ k.starts
    → joined_neighbours (two_lets a m s h k rest) ≡ side_by_side a m s (item_of h.leg_at.ty) h k rest
answer_is a m s h k rest p q =
    joined_is a m h.bound k.bound h.result_at k.result_at h.loop_at k.loop_at (more_legs (whole (leaf h.leg_at (name s))) no_legs) (more_legs (whole (leaf k.leg_at (name s))) no_legs)
    h.start k.start h.builder h.number h.row k.builder k.number k.row h.body k.body rest
    ∙ (λ i. side_by_side a m s (item_of h.leg_at.ty)
    (record { bound = h.bound; result_at = h.result_at; loop_at = h.loop_at; leg_at = h.leg_at; start = h.start; starts = p i; builder = h.builder; number = h.number; row = h.row; body = h.body })
    (record { bound = k.bound; result_at = k.result_at; loop_at = k.loop_at; leg_at = k.leg_at; start = k.start; starts = q i; builder = k.builder; number = k.number; row = k.row; body = k.body }) rest)
