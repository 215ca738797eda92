-- Chains of loops don't go by the types that are noted at nodes.
use Rattle.std.proofs.Common.{◌≡◌, ℕ, zero, suc, ◌+◌, ◌==◌, true, ◌&&◌, ◌||◌, refl, ap, sym, subst, ◌∙◌}
use Rattle.weld_tree.specs.ExprTree.{ExprTree, leaf, one, two, three, many, let_in, loop, iterate, ExprTrees, no_exprs, more_exprs, LegTree, whole, strided, LegTrees, no_legs, more_legs}
use Rattle.weld_tree.specs.Program.{ProgramTree}
use Rattle.weld_substitution.specs.Uses.{uses, uses_in, uses_in_leg, uses_in_legs, is_use}
use Rattle.weld_check_types.specs.Unnoted.{unnoted, all_unnoted, leg_unnoted, legs_unnoted, IsSameButNotes}
use Rattle.weld_vertical.specs.Sinking.{is_merge, is_if, is_finish, starts_list, ends_in_merge, is_spine, merges, is_producer, is_filter, is_made, is_produced, is_produced_leg, is_only_leg, is_consumer}
use Rattle.weld_vertical.specs.Chains.{is_unnumbered, loop_before, IsChain, IsChainProgram}

mutual
  uses_past : (e : ExprTree) (s : ℕ) → uses (unnoted e) s ≡ uses e s
  uses_past (leaf a l) s = refl
  uses_past (one a o e) s = uses_past e s
  uses_past (two a o e f) s = λ i. uses_past e s i + uses_past f s i
  uses_past (three a o c e f) s = λ i. uses_past c s i + uses_past e s i + uses_past f s i
  uses_past (many a o es) s = uses_in_past es s
  uses_past (let_in a b e f) s = λ i. uses_past e s i + uses_past f s i
  uses_past (loop a ls e b n x f) s = λ i. uses_in_legs_past ls s i + uses_past e s i + uses_past f s i
  uses_past (iterate a e b f) s = λ i. uses_past e s i + uses_past f s i

  uses_in_past : (es : ExprTrees) (s : ℕ) → uses_in (all_unnoted es) s ≡ uses_in es s
  uses_in_past no_exprs s = refl
  uses_in_past (more_exprs e es) s = λ i. uses_past e s i + uses_in_past es s i

  uses_in_leg_past : (l : LegTree) (s : ℕ) → uses_in_leg (leg_unnoted l) s ≡ uses_in_leg l s
  uses_in_leg_past (whole e) s = uses_past e s
  uses_in_leg_past (strided e f g h) s = λ i. uses_past e s i + uses_past f s i + uses_past g s i + uses_past h s i

  uses_in_legs_past : (ls : LegTrees) (s : ℕ) → uses_in_legs (legs_unnoted ls) s ≡ uses_in_legs ls s
  uses_in_legs_past no_legs s = refl
  uses_in_legs_past (more_legs l ls) s = λ i. uses_in_leg_past l s i + uses_in_legs_past ls s i

use_past : (s : ℕ) (e : ExprTree) → is_use (unnoted e) s ≡ is_use e s
use_past s (leaf a l) = refl
use_past s (one a o e) = refl
use_past s (two a o e g) = refl
use_past s (three a o c e g) = refl
use_past s (many a o es) = refl
use_past s (let_in a b e g) = refl
use_past s (loop a ls e b n x g) = refl
use_past s (iterate a e b g) = refl

starts_past : (e : ExprTree) → starts_list (unnoted e) ≡ starts_list e
starts_past (leaf a l) = refl
starts_past (one a o e) = refl
starts_past (two a o e g) = refl
starts_past (three a o c e g) = refl
starts_past (many a o es) = refl
starts_past (let_in a b e g) = refl
starts_past (loop a ls e b n x g) = refl
starts_past (iterate a e b g) = refl

ends_past : (s : ℕ) (e : ExprTree) → ends_in_merge s (unnoted e) ≡ ends_in_merge s e
ends_past s (leaf a l) = refl
ends_past s (one a o e) = refl
ends_past s (two a o e g) = λ i. is_merge o && use_past s e i
ends_past s (three a o c e g) = refl
ends_past s (many a o es) = refl
ends_past s (let_in a b e g) = ends_past s g
ends_past s (loop a ls e b n x g) = refl
ends_past s (iterate a e b g) = refl

spine_past : (s : ℕ) (e : ExprTree) → is_spine s (unnoted e) ≡ is_spine s e
spine_past s (leaf a l) = refl
spine_past s (one a o e) = refl
spine_past s (two a o e g) = λ i. is_merge o && (use_past s e i && (uses_past g s i == 0))
spine_past s (three a o c e g) = λ i. is_if o && ((uses_past c s i == 0) && (spine_past s e i && spine_past s g i))
spine_past s (many a o es) = refl
spine_past s (let_in a b e g) = λ i. (uses_past e s i == 0) && spine_past s g i
spine_past s (loop a ls e b n x g) = refl
spine_past s (iterate a e b g) = refl

merges_past : (e : ExprTree) → merges (unnoted e) ≡ merges e
merges_past (leaf a l) = refl
merges_past (one a o e) = refl
merges_past (two a o e g) = refl
merges_past (three a o c e g) = λ i. merges_past e i + merges_past g i
merges_past (many a o es) = refl
merges_past (let_in a b e g) = merges_past g
merges_past (loop a ls e b n x g) = refl
merges_past (iterate a e b g) = refl

producer_past : (e : ExprTree) → is_producer (unnoted e) ≡ is_producer e
producer_past (leaf a l) = refl
producer_past (one a o e) = refl
producer_past (two a o e g) = refl
producer_past (three a o c e g) = refl
producer_past (many a o es) = refl
producer_past (let_in a b e g) = refl
producer_past (loop a ls e b n x g) = λ i. starts_past e i && (ends_past b.sym.0 g i && (uses_past g b.sym.0 i == 1))
producer_past (iterate a e b g) = refl

filter_past : (e : ExprTree) → is_filter (unnoted e) ≡ is_filter e
filter_past (leaf a l) = refl
filter_past (one a o e) = refl
filter_past (two a o e g) = refl
filter_past (three a o c e g) = refl
filter_past (many a o es) = refl
filter_past (let_in a b e g) = refl
filter_past (loop a ls e b n x g) = λ i. starts_past e i && (spine_past b.sym.0 g i && (merges_past g i == 1))
filter_past (iterate a e b g) = refl

made_past : (n : ℕ) (f e : ExprTree) → is_made n (unnoted f) (unnoted e) ≡ is_made n f e
made_past n f e = λ i. producer_past e i || (filter_past e i && (uses_past f n i == 0))

produced_past : (n : ℕ) (f e : ExprTree) → is_produced n (unnoted f) (unnoted e) ≡ is_produced n f e
produced_past n f (leaf a l) = refl
produced_past n f (one a o e) = λ i. is_finish o && made_past n f e i
produced_past n f (two a o e g) = refl
produced_past n f (three a o c e g) = refl
produced_past n f (many a o es) = refl
produced_past n f (let_in a b e g) = refl
produced_past n f (loop a ls e b m x g) = refl
produced_past n f (iterate a e b g) = refl

leg_past : (n : ℕ) (f : ExprTree) (l : LegTree) → is_produced_leg n (unnoted f) (leg_unnoted l) ≡ is_produced_leg n f l
leg_past n f (whole e) = produced_past n f e
leg_past n f (strided e g h k) = refl

only_past : (n : ℕ) (f : ExprTree) (ls : LegTrees) → is_only_leg n (unnoted f) (legs_unnoted ls) ≡ is_only_leg n f ls
only_past n f no_legs = refl
only_past n f (more_legs l no_legs) = leg_past n f l
only_past n f (more_legs l (more_legs m ls)) = refl

consumer_past : (e : ExprTree) → is_consumer (unnoted e) ≡ is_consumer e
consumer_past (leaf a l) = refl
consumer_past (one a o e) = refl
consumer_past (two a o e g) = refl
consumer_past (three a o c e g) = refl
consumer_past (many a o es) = refl
consumer_past (let_in a b e g) = refl
consumer_past (loop a ls e b n x g) = only_past n.sym.0 g ls
consumer_past (iterate a e b g) = refl

unnumbered_past : (e : ExprTree) → is_unnumbered (unnoted e) ≡ is_unnumbered e
unnumbered_past (leaf a l) = refl
unnumbered_past (one a o e) = refl
unnumbered_past (two a o e g) = refl
unnumbered_past (three a o c e g) = refl
unnumbered_past (many a o es) = refl
unnumbered_past (let_in a b e g) = refl
unnumbered_past (loop a ls e b n x g) = λ i. uses_past g n.sym.0 i == 0
unnumbered_past (iterate a e b g) = refl

before_past : (e : ExprTree) → loop_before (unnoted e) ≡ unnoted (loop_before e)
before_past (leaf a l) = refl
before_past (one a o e) = refl
before_past (two a o e g) = refl
before_past (three a o c e g) = refl
before_past (many a o es) = refl
before_past (let_in a b e g) = refl
before_past (iterate a e b g) = refl
before_past (loop a no_legs e b n x f) = refl
before_past (loop a (more_legs (whole (leaf p l)) no_legs) e b n x f) = refl
before_past (loop a (more_legs (whole (one p o q)) no_legs) e b n x f) = refl
before_past (loop a (more_legs (whole (two p o q g)) no_legs) e b n x f) = refl
before_past (loop a (more_legs (whole (three p o c q g)) no_legs) e b n x f) = refl
before_past (loop a (more_legs (whole (many p o es)) no_legs) e b n x f) = refl
before_past (loop a (more_legs (whole (let_in p z v g)) no_legs) e b n x f) = refl
before_past (loop a (more_legs (whole (loop p ks q d i r g)) no_legs) e b n x f) = refl
before_past (loop a (more_legs (whole (iterate p q d g)) no_legs) e b n x f) = refl
before_past (loop a (more_legs (whole (leaf p l)) (more_legs m ls)) e b n x f) = refl
before_past (loop a (more_legs (whole (one p o q)) (more_legs m ls)) e b n x f) = refl
before_past (loop a (more_legs (whole (two p o q g)) (more_legs m ls)) e b n x f) = refl
before_past (loop a (more_legs (whole (three p o c q g)) (more_legs m ls)) e b n x f) = refl
before_past (loop a (more_legs (whole (many p o es)) (more_legs m ls)) e b n x f) = refl
before_past (loop a (more_legs (whole (let_in p z v g)) (more_legs m ls)) e b n x f) = refl
before_past (loop a (more_legs (whole (loop p ks q d i r g)) (more_legs m ls)) e b n x f) = refl
before_past (loop a (more_legs (whole (iterate p q d g)) (more_legs m ls)) e b n x f) = refl
before_past (loop a (more_legs (strided q g h k) ls) e b n x f) = refl

chain_past : (k : ℕ) (e : ExprTree) → IsChain k (unnoted e) ≡ IsChain k e
chain_past zero e = λ i. unnumbered_past e i ≡ true
chain_past (suc k) e =
    let rest : IsChain k (loop_before (unnoted e)) ≡ IsChain k (loop_before e) = ap (IsChain k) (before_past e) ∙ chain_past k (loop_before e) in
    λ i. (unnumbered_past e i ≡ true) × (consumer_past e i ≡ true) × rest i

program_past : (k : ℕ) (e : ExprTree) → IsChainProgram k (unnoted e) ≡ IsChainProgram k e
program_past k (leaf a l) = refl
program_past k (one a o e) = λ i. (is_finish o ≡ true) × chain_past k e i
program_past k (two a o e g) = refl
program_past k (three a o c e g) = refl
program_past k (many a o es) = refl
program_past k (let_in a b e g) = refl
program_past k (loop a ls e b n x g) = refl
program_past k (iterate a e b g) = refl

pub same_chains : (p q : ProgramTree) → IsSameButNotes p q → (k : ℕ) → IsChainProgram k q.body → IsChainProgram k p.body
same_chains p q same k h = subst (λ (X : Type 0). X) (sym (program_past k q.body) ∙ ap (IsChainProgram k) (ap (λ (r : ProgramTree). r.body) (sym same)) ∙ program_past k p.body) h
