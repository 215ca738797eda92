-- The names in scope as plain data.
use Rattle.std.specs.Prelude.{◌≡◌, ℕ, ◌<◌, ◌≤◌, ◌⊎◌, [], ◌∷◌, length, Option, Some, None}
use Rattle.std.specs.Borrow.{Bor}
use Rattle.weld_meaning.specs.Environment.{look_for}
use Rattle.weld_meaning.specs.Typing.{Types}
use Rattle.weld_tree.specs.TypeTree.{TypeTree}
use Rattle.weld_tree.specs.declared.sym.Sym.{Sym}

-- the newest name, its type, the names before it, those of a scope further back
abbrev pub Newest : Type 0
Newest = Option (Sym × Bor TypeTree × Bor Types × Bor Types)

-- the types of the names, the newest first
abbrev pub names_of : Newest → Types
names_of None = []
names_of (Some n) = (n.0.0, n.1.now) ∷ n.2.now

-- the scope further back is shorter, and answers for each number that isn't within the bounds
pub record IsFurther (names far : Types) (low high : ℕ) : Type 0 where
  pub back : length far < length names
  pub same : (n : ℕ) → (n < low) ⊎ (high < n) → look_for n names ≡ look_for n far

abbrev pub Jumps : Newest → ℕ → ℕ → Type 0
Jumps None low high = Unit {0}
Jumps (Some n) low high = IsFurther ((n.0.0, n.1.now) ∷ n.2.now) n.3.now low high
