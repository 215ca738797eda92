-- Rewriting: one expression in another's place, and what becomes of a program.
use Rattle.std.specs.Prelude.{◌≡◌, List}
use Rattle.weld_data.specs.Value.{Value}
use Rattle.weld_tree.specs.ExprTree.{ExprTree}
use Rattle.weld_tree.specs.Program.{ProgramTree}
use Rattle.weld_meaning.specs.Meaning.{ArgumentsFit, meaning}
use Rattle.weld_rewriting.specs.Replacing.{MayReplace}
use Rattle.weld_rewriting.specs.Within.{StaysWithin}

-- the first, in the place of the second, changes nothing that counts and adds nothing
pub record Rewrites (d e : ExprTree) : Type 0 where
  pub replaces : MayReplace d e
  pub within : StaysWithin d e

-- the first program is the second with its body rewritten
pub record RewritesProgram (q p : ProgramTree) : Type 0 where
  pub params : q.params ≡ p.params
  pub body : Rewrites q.body p.body

-- both come to the same on all arguments that fit the parameters, a fault included
abbrev pub SameMeaning : ProgramTree → ProgramTree → Type 0
SameMeaning q p = (arguments : List Value) → ArgumentsFit p.params arguments → meaning q arguments ≡ meaning p arguments
