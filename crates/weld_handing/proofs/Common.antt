-- What all proofs on handed bodies speak of: binders that get in nobody's way, and names that the other loop's body has from
-- around it.
use Rattle.std.proofs.Common.{◌≢◌, ℕ}
use Rattle.weld_tree.specs.ExprTree.{ExprTree}
use Rattle.weld_meaning.specs.Names.{IsFree}

-- a binder of the body that is neither the other loop's builder, row number or row nor this one's row number, and isn't free in the
-- other's body
abbrev pub IsAside : ℕ → ℕ → ℕ → ℕ → ExprTree → ℕ → Type 0
IsAside c n x i f z = (z ≢ c) × (z ≢ n) × (z ≢ x) × (z ≢ i) × (IsFree f z → ⊥)

-- the names that the other loop's body has from around its builder, row number and row
abbrev pub IsBehind : ExprTree → ℕ → ℕ → ℕ → ℕ → Type 0
IsBehind f c n x s = IsFree f s × (s ≢ x) × (s ≢ n) × (s ≢ c)
