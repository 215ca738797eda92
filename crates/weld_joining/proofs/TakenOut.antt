-- The second `let`, taken out by the code.
use Rattle.std.proofs.Common.{◌≡◌, true, false, ◌&&◌, if◌then◌else◌, sym, ap, subst, ◌∙◌}
use Rattle.weld_tree.specs.declared.binder.Binder.{Binder}
use Rattle.weld_tree.specs.ExprTree.{At, ExprTree, let_in}
use Rattle.weld_substitution.proofs.Following.{and_true}
use Rattle.weld_joining.specs.Between.{is_named_result, left_over, taken_out, is_unused_next, may_come_up}
use Rattle.weld_joining.specs.Joining.{are_beside, is_followed, joined_neighbours, joined_pair}
use Rattle.weld_joining.specs.Parts.{at_of, IsNext, IsBehind}
use Rattle.weld_joining.specs.declared.between.Next.{Next}
use Rattle.weld_joining.specs.declared.halves.Node.{Node}
use Rattle.weld_joining.proofs.Recognised.{second_of}

-- ---- one step

pub first_is : (a : At) (x : Binder) (v f : ExprTree) (n : Next) → is_named_result v ≡ false → at_of n.at ≡ a → n.binder ≡ x → n.bound.value ≡ v → n.rest.value ≡ f → IsNext (let_in a x v f) n
first_is a x v f n e p q r s = record {
  out = λ d. ap (λ b. if b then taken_out f d else let_in a x v d) e ∙ sym (λ i. let_in (p i) (q i) (r i) d);
  left = ap (λ b. if b then let_in a x v (left_over f) else f) e ∙ sym s;
}

pub later_is : (a : Node) (x : Binder) (v f : ExprTree) (n m : Next) → is_named_result v ≡ true → IsNext f n → IsBehind a x v n m → IsNext (let_in (at_of a) x v f) m
later_is a x v f n m e k h = record {
  out = λ d.
      ap (λ b. if b then taken_out f d else let_in (at_of a) x v d) e ∙ k.out d
      ∙ sym (λ i. let_in (at_of (h.at i)) (h.binder i) (h.bound i) d);
  left = ap (λ b. if b then let_in (at_of a) x v (left_over f) else f) e ∙ ap (let_in (at_of a) x v) k.left ∙ sym h.rest;
}

pub comes_later : (a : At) (x : Binder) (v f : ExprTree) → is_named_result v ≡ true → may_come_up (let_in a x v f) ≡ true → may_come_up f ≡ true
comes_later a x v f e h = (and_true (is_unused_next x.sym.0 f) (may_come_up f) (sym (ap (λ b. if b then is_unused_next x.sym.0 f && may_come_up f else true) e) ∙ h)).1

-- ---- both lets

bound_one : (a b : At) (x y : Binder) (v w d e : ExprTree) → let_in a x v d ≡ let_in b y w e → v ≡ w
bound_one a b x y v w d e h = cc

-- it is the second one
pub next_beside : (x : Binder) (v f : ExprTree) (n : Next) → is_followed x v f ≡ true → IsNext f n → are_beside x v n.bound.value ≡ true
next_beside x v f n h k =
    let s = second_of x v f h in
    subst (λ w. are_beside x v w ≡ true) (bound_one s.at (at_of n.at) s.binder n.binder s.bound n.bound.value v v (sym (s.out v) ∙ k.out v)) s.beside

-- and both as neighbours are joined
pub next_joined : (a : At) (x : Binder) (v f : ExprTree) (n : Next) → IsNext f n → joined_neighbours (let_in a x v (let_in (at_of n.at) n.binder n.bound.value n.rest.value)) ≡ joined_pair (let_in a x v f)
next_joined a x v f n k =
    ap (λ d. joined_neighbours (let_in a x v d)) (sym (k.out n.rest.value) ∙ sym (ap (taken_out f) k.left))
