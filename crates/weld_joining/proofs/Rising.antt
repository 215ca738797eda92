-- A `let` may stand before all that stand before it, where these bind results of names with field accesses that it doesn't use.
use Rattle.std.proofs.Common.{◌≡◌, ◌≢◌, ◌⊎◌, inl, inr, ℕ, ◌+◌, ◌==◌, Bool, true, false, ◌&&◌, if◌then◌else◌, refl, sym, ap, subst, ◌∙◌, arith, eqb-true}
use Rattle.weld_tree.specs.declared.binder.Binder.{Binder}
use Rattle.weld_tree.specs.ExprTree.{At, ExprTree, leaf, one, two, three, many, let_in, loop, iterate, truth, neg, not, cast, len, field, finish, started}
use Rattle.weld_meaning.specs.Names.{IsFree, put}
use Rattle.weld_meaning.proofs.PartsGood.{KeyLaws}
use Rattle.weld_rewriting.specs.Tidy.{IsTidy}
use Rattle.weld_rewriting.specs.Rewriting.{Rewrites}
use Rattle.weld_rewriting.proofs.Rewriting.{rewrites_itself, rewrites_in_turn, rewrites_through}
use Rattle.weld_rewriting.proofs.Tidying.{parts_tidy, within_tidy}
use Rattle.weld_rewriting.specs.Weight.{weight}
use Rattle.weld_substitution.specs.Uses.{uses}
use Rattle.weld_substitution.specs.Redex.{is_chain}
use Rattle.weld_substitution.proofs.Following.{and_true}
use Rattle.weld_substitution.proofs.PutMade.{put_named}
use Rattle.weld_joining.specs.Between.{is_named_result, left_over, taken_out, brought_up, is_unused_next, may_come_up}
use Rattle.weld_joining.proofs.Exchanging.{exchanged}

-- ---- the results

pub named_result_by : (P : ExprTree → Type 0) → ((p : At) (c : ExprTree) → is_chain c ≡ true → P (one p finish c)) → (e : ExprTree) → is_named_result e ≡ true → P e
named_result_by P f (leaf a l) h = let wrong : ⊥ = cc in absurd wrong
named_result_by P f (one a neg e) h = let wrong : ⊥ = cc in absurd wrong
named_result_by P f (one a not e) h = let wrong : ⊥ = cc in absurd wrong
named_result_by P f (one a (cast k) e) h = let wrong : ⊥ = cc in absurd wrong
named_result_by P f (one a len e) h = let wrong : ⊥ = cc in absurd wrong
named_result_by P f (one a (field n) e) h = let wrong : ⊥ = cc in absurd wrong
named_result_by P f (one a finish e) h = f a e h
named_result_by P f (one a (started b) e) h = let wrong : ⊥ = cc in absurd wrong
named_result_by P f (two a o e g) h = let wrong : ⊥ = cc in absurd wrong
named_result_by P f (three a o c e g) h = let wrong : ⊥ = cc in absurd wrong
named_result_by P f (many a o es) h = let wrong : ⊥ = cc in absurd wrong
named_result_by P f (let_in a b e g) h = let wrong : ⊥ = cc in absurd wrong
named_result_by P f (loop a ls e b n x g) h = let wrong : ⊥ = cc in absurd wrong
named_result_by P f (iterate a e b g) h = let wrong : ⊥ = cc in absurd wrong

-- ---- the weight

alone : (d e : ExprTree) → weight d + weight e ≡ weight e + weight d
alone d e = omega arith

out_weight : (e d : ExprTree) → weight (taken_out e d) + weight (left_over e) ≡ weight e + weight d
out_weight (leaf a l) d = alone d (leaf a l)
out_weight (one a o e) d = alone d (one a o e)
out_weight (two a o e f) d = alone d (two a o e f)
out_weight (three a o c e f) d = alone d (three a o c e f)
out_weight (many a o es) d = alone d (many a o es)
out_weight (let_in a x v f) d = by (is_named_result v) (out_weight f d)
  where
    by : (b : Bool) → weight (taken_out f d) + weight (left_over f) ≡ weight f + weight d
        → weight (if b then taken_out f d else let_in a x v d) + weight (if b then let_in a x v (left_over f) else f) ≡ weight (let_in a x v f) + weight d
    by true h = omega (arith, h)
    by false h = omega arith
out_weight (loop a ls e b n x f) d = alone d (loop a ls e b n x f)
out_weight (iterate a e b f) d = alone d (iterate a e b f)

pub weighs_the_same : (e : ExprTree) → weight (brought_up e) ≡ weight e
weighs_the_same e = omega (arith, out_weight e (left_over e))

-- ---- the one that comes up

module _ (unused : (e v : ExprTree) (s : ℕ) → uses e s ≡ 0 → put s v e ≡ e) where
  -- what isn't used isn't free
  pub not_free : (a : At) (e : ExprTree) (s : ℕ) → uses e s ≡ 0 → IsFree e s → ⊥
  not_free a e s h f = by (put_named e s (leaf a (truth false)) s (subst (λ x. IsFree x s) (sym (unused e (leaf a (truth false)) s h)) f))
    where
      by : IsFree (leaf a (truth false)) s ⊎ (IsFree e s × (s ≢ s)) → ⊥
      by (inl g) = g
      by (inr g) = g.1 refl

  record Next (e : ExprTree) : Type 0 where
    at : At
    binder : Binder
    bound : ExprTree
    out : (d : ExprTree) → taken_out e d ≡ let_in at binder bound d
    unnamed : (s : ℕ) → is_unused_next s e ≡ true → IsFree bound s → ⊥

  next_of : (e : ExprTree) → may_come_up e ≡ true → Next e
  next_of (leaf a l) h = let wrong : ⊥ = cc in absurd wrong
  next_of (one a o e) h = let wrong : ⊥ = cc in absurd wrong
  next_of (two a o e f) h = let wrong : ⊥ = cc in absurd wrong
  next_of (three a o c e f) h = let wrong : ⊥ = cc in absurd wrong
  next_of (many a o es) h = let wrong : ⊥ = cc in absurd wrong
  next_of (let_in a x v f) h = by (is_named_result v) refl (next_of f) h
    where
      by : (b : Bool) → is_named_result v ≡ b → (may_come_up f ≡ true → Next f) → (if b then is_unused_next x.sym.0 f && may_come_up f else true) ≡ true → Next (let_in a x v f)
      by true e k h =
          let n = k (and_true (is_unused_next x.sym.0 f) (may_come_up f) h).1 in
          record {
            at = n.at;
            binder = n.binder;
            bound = n.bound;
            out = λ d. ap (λ b. if b then taken_out f d else let_in a x v d) e ∙ n.out d;
            unnamed = λ s u. n.unnamed s (sym (ap (λ b. if b then is_unused_next s f else (uses v s == 0)) e) ∙ u);
          }
      by false e k h = record {
        at = a;
        binder = x;
        bound = v;
        out = λ d. ap (λ b. if b then taken_out f d else let_in a x v d) e;
        unnamed = λ s u. not_free a v s (eqb-true (uses v s) 0 (sym (ap (λ b. if b then is_unused_next s f else (uses v s == 0)) e) ∙ u));
      }
  next_of (loop a ls e b n x f) h = let wrong : ⊥ = cc in absurd wrong
  next_of (iterate a e b f) h = let wrong : ⊥ = cc in absurd wrong

  -- ---- all the way

  module _ (laws : KeyLaws) where
    -- past one result, where it stands before those behind already
    past : (a : At) (x : Binder) (v f : ExprTree) → is_named_result v ≡ true → is_unused_next x.sym.0 f ≡ true → may_come_up f ≡ true → IsTidy (let_in a x v f) → Rewrites (brought_up f) f
        → Rewrites (taken_out f (let_in a x v (left_over f))) (let_in a x v f)
    past a x v f named free comes tidy inside =
        let n = next_of f comes in
        let before : ExprTree = let_in a x v (let_in n.at n.binder n.bound (left_over f)) in
        let after : ExprTree = let_in n.at n.binder n.bound (let_in a x v (left_over f)) in
        let first : Rewrites before (let_in a x v f) = (rewrites_through laws).at_let a x v (let_in n.at n.binder n.bound (left_over f)) v f (rewrites_itself v) (subst (λ d. Rewrites d f) (n.out (left_over f)) inside) in
        let swapped : Rewrites after before =
        named_result_by (λ u. IsTidy (let_in a x u (let_in n.at n.binder n.bound (left_over f))) → Rewrites (let_in n.at n.binder n.bound (let_in a x u (left_over f))) (let_in a x u (let_in n.at n.binder n.bound (left_over f))))
        (λ p c chain t. exchanged a p n.at x n.binder c n.bound (left_over f) chain (n.unnamed x.sym.0 free) t laws) v named (within_tidy before (let_in a x v f) first.within tidy) in
        subst (λ d. Rewrites d (let_in a x v f)) (sym (n.out (let_in a x v (left_over f)))) (rewrites_in_turn after before (let_in a x v f) swapped first)

    pub comes_up : (e : ExprTree) → IsTidy e → may_come_up e ≡ true → Rewrites (brought_up e) e
    comes_up (leaf a l) tidy h = rewrites_itself (leaf a l)
    comes_up (one a o e) tidy h = rewrites_itself (one a o e)
    comes_up (two a o e f) tidy h = rewrites_itself (two a o e f)
    comes_up (three a o c e f) tidy h = rewrites_itself (three a o c e f)
    comes_up (many a o es) tidy h = rewrites_itself (many a o es)
    comes_up (let_in a x v f) tidy h = by (is_named_result v) refl (comes_up f (parts_tidy (let_in a x v f) tidy).1) h
      where
        by : (b : Bool) → is_named_result v ≡ b → (may_come_up f ≡ true → Rewrites (brought_up f) f) → (if b then is_unused_next x.sym.0 f && may_come_up f else true) ≡ true
            → Rewrites (brought_up (let_in a x v f)) (let_in a x v f)
        by true e k h =
            let w = and_true (is_unused_next x.sym.0 f) (may_come_up f) h in
            subst (λ d. Rewrites d (let_in a x v f)) (sym (ap (λ b. if b then taken_out f (if b then let_in a x v (left_over f) else f) else let_in a x v (if b then let_in a x v (left_over f) else f)) e))
            (past a x v f e w.0 w.1 tidy (k w.1))
        by false e k h =
            subst (λ d. Rewrites d (let_in a x v f)) (sym (ap (λ b. if b then taken_out f (if b then let_in a x v (left_over f) else f) else let_in a x v (if b then let_in a x v (left_over f) else f)) e))
            (rewrites_itself (let_in a x v f))
    comes_up (loop a ls e b n x f) tidy h = rewrites_itself (loop a ls e b n x f)
    comes_up (iterate a e b f) tidy h = rewrites_itself (iterate a e b f)
