-- What becomes of a program's body.
use Rattle.std.proofs.Common.{◌≡◌, ℕ, ◌+◌, ◌≤◌, List, refl, ap, sym, subst, ◌∙◌, arith}
use Rattle.weld_tree.specs.declared.binder.Binder.{Binder}
use Rattle.weld_tree.specs.ExprTree.{ExprTree}
use Rattle.weld_tree.specs.Program.{ProgramTree, IsProgram, loops}
use Rattle.weld_rewriting.specs.Sweep.{swept_times}
use Rattle.weld_rewriting.specs.Within.{StaysWithin}
use Rattle.weld_rewriting.specs.Tidy.{IsTidy}
use Rattle.weld_rewriting.specs.Rewriting.{Rewrites, RewritesProgram}
use Rattle.weld_vertical.specs.Chains.{IsChainProgram, chain_fused}
use Rattle.weld_passes.specs.Normal.{all_rules, optimised_body}

-- ---- of a tidy expression

-- the laws of chains and rounds that this rests on
pub record StepLaws : Type 0 where
  pub in_turn : (c d e : ExprTree) → Rewrites c d → Rewrites d e → Rewrites c e
  pub within : (d e : ExprTree) → StaysWithin d e → IsTidy e → IsTidy d
  pub first : (e : ExprTree) → IsTidy e → Rewrites (chain_fused e) e
  pub fewer : (k : ℕ) (e : ExprTree) → IsTidy e → IsChainProgram k e → loops (chain_fused e) + k ≤ loops e
  pub rounds : (n : ℕ) (e : ExprTree) → IsTidy e → Rewrites (swept_times n all_rules e) e

after_chain : StepLaws → (n : ℕ) (e : ExprTree) → IsTidy e → Rewrites (optimised_body n e) (chain_fused e)
after_chain laws n e tidy = laws.rounds n (chain_fused e) (laws.within (chain_fused e) e (laws.first e tidy).within tidy)

pub body_rewrites : StepLaws → (n : ℕ) (e : ExprTree) → IsTidy e → Rewrites (optimised_body n e) e
body_rewrites laws n e tidy = laws.in_turn (optimised_body n e) (chain_fused e) e (after_chain laws n e tidy) (laws.first e tidy)

pub body_fewer : StepLaws → (n k : ℕ) (e : ExprTree) → IsTidy e → IsChainProgram k e → loops (optimised_body n e) + k ≤ loops e
body_fewer laws n k e tidy chain = omega (arith, (after_chain laws n e tidy).within.no_more_loops, laws.fewer k e tidy chain)

-- ---- of a program

-- the laws of bodies that this rests on
pub record BodyLaws : Type 0 where
  pub tidy : (p : ProgramTree) → IsProgram p.params p.body → IsTidy p.body
  pub rewrites : (n : ℕ) (e : ExprTree) → IsTidy e → Rewrites (optimised_body n e) e
  pub chain : (n k : ℕ) (e : ExprTree) → IsTidy e → IsChainProgram k e → loops (optimised_body n e) + k ≤ loops e

-- the first program is the second with its body rewritten, and its chain of loops is gone
pub record Rewritten (q p : ProgramTree) : Type 0 where
  pub rewrites : RewritesProgram q p
  pub chain : (k : ℕ) → IsChainProgram k p.body → loops q.body + k ≤ loops p.body

pub rewritten_body : BodyLaws → (ps : List Binder) (body was now : ExprTree) (n : ℕ) → IsProgram ps body → was ≡ body → now ≡ optimised_body n was
    → Rewritten (record { params = ps; body = now }) (record { params = ps; body = body })
rewritten_body laws ps body was now n made p q =
    let old : ProgramTree = record { params = ps; body = body } in
    let tidy : IsTidy body = laws.tidy old made in
    subst (λ (d : ExprTree). Rewritten (record { params = ps; body = d }) old) (sym (q ∙ ap (optimised_body n) p)) (record {
      rewrites = record { params = refl; body = laws.rewrites n body tidy };
      chain = λ k h. laws.chain n k body tidy h;
    })

-- the same of the program that these are the parts of
pub program_rewritten : BodyLaws → (p : ProgramTree) (ps : List Binder) (body was now : ExprTree) (n : ℕ) → IsProgram ps body → was ≡ body → now ≡ optimised_body n was
    → ◌≡◌ {A = ProgramTree} (record { params = ps; body = body }) p → Rewritten (record { params = ps; body = now }) p
program_rewritten laws p ps body was now n made q k same = subst (λ (old : ProgramTree). Rewritten (record { params = ps; body = now }) old) same (rewritten_body laws ps body was now n made q k)
