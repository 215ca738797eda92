-- What the rounds make of a program.
use Rattle.std.proofs.Common.{◌≡◌, ℕ, List, refl, sym, ◌∙◌, ap, subst}
use Rattle.weld_tree.specs.declared.binder.Binder.{Binder}
use Rattle.weld_tree.specs.ExprTree.{ExprTree}
use Rattle.weld_tree.specs.Program.{ProgramTree, IsProgram}
use Rattle.weld_rewriting.specs.Sweep.{RootRule, swept_times}
use Rattle.weld_rewriting.specs.Tidy.{IsTidy}
use Rattle.weld_rewriting.specs.Rewriting.{Rewrites, RewritesProgram}
use Rattle.weld_rewriting.specs.Rules.{IsSound}

-- the laws of rounds that this rests on
pub record RoundLaws : Type 0 where
  pub tidy : (p : ProgramTree) → IsProgram p.params p.body → IsTidy p.body
  pub rounds : (r : RootRule) (n : ℕ) (e : ExprTree) → IsSound r → IsTidy e → Rewrites (swept_times n r e) e

rewritten : RoundLaws → (r : RootRule) → IsSound r → (ps : List Binder) (body was now : ExprTree) (n : ℕ) → IsProgram ps body → was ≡ body → now ≡ swept_times n r was → Rewrites now body
rewritten laws r sound ps body was now n made p q =
    subst (λ (e : ExprTree). Rewrites e body) (sym (q ∙ ap (swept_times n r) p))
    (laws.rounds r n body sound (laws.tidy (record { params = ps; body = body }) made))

-- the program of the same parameters and the new body is the old one rewritten
pub program_rewritten : RoundLaws → (r : RootRule) → IsSound r → (p : ProgramTree) (ps : List Binder) (body was now : ExprTree) (n : ℕ) → IsProgram ps body → was ≡ body → now ≡ swept_times n r was
    → ◌≡◌ {A = ProgramTree} (record { params = ps; body = body }) p → RewritesProgram (record { params = ps; body = now }) p
program_rewritten laws r sound p ps body was now n made q k same =
    subst (λ (old : ProgramTree). RewritesProgram (record { params = ps; body = now }) old) same (record { params = refl; body = rewritten laws r sound ps body was now n made q k })
