-- What the code makes of two lets is what the rule says.
use Rattle.std.proofs.Common.{◌≡◌, ℕ, ◌==◌, true, Option, Some, None, is_some, refl, sym, ap, subst, ◌∙◌}
use Rattle.weld_data.specs.declared.kind.Kind.TheVariants as kinds
use Rattle.weld_tree.specs.declared.binder.Binder.{Binder}
use Rattle.weld_tree.specs.TypeTree.{TypeTree, scalar}
use Rattle.weld_tree.specs.Types.{pair_of}
use Rattle.weld_tree.specs.ExprTree.{At, ExprTree, leaf, let_in, loop, whole, LegTrees, no_legs, more_legs, pack_legs, name}
use Rattle.weld_meaning.specs.Names.{put}
use Rattle.weld_substitution.specs.Redex.{noted}
use Rattle.weld_substitution.specs.Uses.{uses}
use Rattle.weld_substitution.proofs.Following.{and_true}
use Rattle.weld_joining.specs.Beside.{finish_at, node_of, bare, builder_field}
use Rattle.weld_joining.specs.Joining.{only_name, is_known, over, same_name, are_beside, known_type, joined_loops, joined_neighbours}
use Rattle.weld_joining.specs.Parts.{loop_of, result_at, IsHalf, IsBoth, legs_item, pair_at, field_let, result_let, from_halves}
use Rattle.weld_joining.specs.declared.both.Both.{Both}
use Rattle.weld_joining.specs.declared.halves.Half.{Half}
use Rattle.weld_joining.proofs.Recognised.{legs_by, where_true, both_over}
use Rattle.weld_joining.proofs.TakenApart.{joined_is}

-- the one loop, and its fields or their results, by the parts of both loops
abbrev whole_of : At → At → Binder → Option At → LegTrees → ExprTree → Binder → Binder → Binder → ExprTree → Binder → Option At → ExprTree → Binder → Binder → Binder → ExprTree → ExprTree → TypeTree → TypeTree → TypeTree → ExprTree
whole_of a m x p ls d c i r f y u e g n z body rest one_type two_type all =
    let_in a (bare n)
    (loop (node_of a.place all) ls (pair_at a.place all d e) (bare z) i r
    (pair_at a.place all (field_let a.place all 0 one_type z.sym.0 c f)
    (field_let a.place all 1 two_type z.sym.0 g
    (put n.sym.0 (leaf (node_of a.place (scalar kinds.I64)) (name i.sym.0)) (put z.sym.0 (leaf (node_of a.place (legs_item ls)) (name r.sym.0)) body)))))
    (result_let a x p (builder_field a.place all 0 one_type n.sym.0) (result_let m y u (builder_field a.place all 1 two_type n.sym.0) rest))

-- the name over which a half runs is its only leg
leg_of : (p : Option At) (q : At) (ls : LegTrees) (d : ExprTree) (c i r : Binder) (f : ExprTree) (s : ℕ) → over (finish_at p (loop q ls d c i r f)) ≡ Some s → only_name ls ≡ Some s
leg_of None q ls d c i r f s h = (where_true (is_known (noted d)) (only_name ls) s h).1
leg_of (Some a) q ls d c i r f s h = (where_true (is_known (noted d)) (only_name ls) s h).1

whole_is : (a m : At) (x y : Binder) (p u : Option At) (q w : At) (ls ks : LegTrees) (d e : ExprTree) (c i r g n z : Binder) (f body rest : ExprTree)
    → are_beside x (finish_at p (loop q ls d c i r f)) (finish_at u (loop w ks e g n z body)) ≡ true
    → joined_neighbours (let_in a x (finish_at p (loop q ls d c i r f)) (let_in m y (finish_at u (loop w ks e g n z body)) rest))
    ≡ whole_of a m x p ls d c i r f y u e g n z body rest (known_type (noted d)) (known_type (noted e)) (pair_of (known_type (noted d)) (known_type (noted e)))
whole_is a m x y p u q w ls ks d e c i r g n z f body rest test =
    let one_value : ExprTree = finish_at p (loop q ls d c i r f) in
    let two_value : ExprTree = finish_at u (loop w ks e g n z body) in
    let b = and_true (same_name (over one_value) (over two_value)) (uses two_value x.sym.0 == 0) test in
    let both = both_over one_value two_value b.0 in
    let one_type = known_type (noted d) in
    let two_type = known_type (noted e) in
    joined_is a m x y p u q w ls ks d e c i r g n z f body rest
    ∙ legs_by both.name (λ ls. joined_loops a m x p (loop q ls d c i r f) y u (loop w ks e g n z body) rest ≡ whole_of a m x p ls d c i r f y u e g n z body rest one_type two_type (pair_of one_type two_type))
    (λ l row known. legs_by both.name (λ ks. joined_loops a m x p (loop q (more_legs (whole (leaf l (name both.name))) no_legs) d c i r f) y u (loop w ks e g n z body) rest
    ≡ whole_of a m x p (more_legs (whole (leaf l (name both.name))) no_legs) d c i r f y u e g n z body rest one_type two_type (pair_of one_type two_type))
    (λ v other again. refl) ks (leg_of u w ks e g n z body both.name both.second)) ls (leg_of p q ls d c i r f both.name both.first)

-- the same of what the code has in its hands
pub pair_is : (both : Both) (a m : At) (x y : Binder) (v w rest : ExprTree) (h k : Half) → are_beside x v w ≡ true → IsHalf v h → IsHalf w k → IsBoth h.run k.run both
    → from_halves both a m x h y k rest ≡ joined_neighbours (let_in a x v (let_in m y w rest))
pair_is both a m x y v w rest h k test hv hw types =
    subst (λ v. are_beside x v w ≡ true → from_halves both a m x h y k rest ≡ joined_neighbours (let_in a x v (let_in m y w rest))) (sym hv.1)
    (subst (λ w. are_beside x first_value w ≡ true → from_halves both a m x h y k rest ≡ joined_neighbours (let_in a x first_value (let_in m y w rest))) (sym hw.1)
    (λ test. with_types ∙ sym (whole_is a m x y (result_at h.result) (result_at k.result) hv.0 hw.0 (pack_legs h.run.legs) (pack_legs k.run.legs) h.run.start.value k.run.start.value
    h.run.builder h.run.number h.run.row k.run.builder k.run.number k.run.row h.run.body.value k.run.body.value rest test))) test
  where
    first_value : ExprTree
    first_value = finish_at (result_at h.result) (loop_of hv.0 h.run)

    all_is : both.all ≡ pair_of (known_type (noted h.run.start.value)) (known_type (noted k.run.start.value))
    all_is = types.all ∙ (λ i. pair_of (types.first i) (types.second i))

    with_types : from_halves both a m x h y k rest
        ≡ whole_of a m x (result_at h.result) (pack_legs h.run.legs) h.run.start.value h.run.builder h.run.number h.run.row h.run.body.value y (result_at k.result) k.run.start.value k.run.builder k.run.number k.run.row k.run.body.value rest
        (known_type (noted h.run.start.value)) (known_type (noted k.run.start.value)) (pair_of (known_type (noted h.run.start.value)) (known_type (noted k.run.start.value)))
    with_types = λ i.
        whole_of a m x (result_at h.result) (pack_legs h.run.legs) h.run.start.value h.run.builder h.run.number h.run.row h.run.body.value y (result_at k.result) k.run.start.value k.run.builder k.run.number k.run.row k.run.body.value rest
        (types.first i) (types.second i) (all_is i)

-- both run over a name
pub first_over : (x : Binder) (v w : ExprTree) → are_beside x v w ≡ true → is_some (over v) ≡ true
first_over x v w h = ap is_some (both_over v w (and_true (same_name (over v) (over w)) (uses w x.sym.0 == 0) h).0).first

pub second_over : (x : Binder) (v w : ExprTree) → are_beside x v w ≡ true → is_some (over w) ≡ true
second_over x v w h = ap is_some (both_over v w (and_true (same_name (over v) (over w)) (uses w x.sym.0 == 0) h).0).second
