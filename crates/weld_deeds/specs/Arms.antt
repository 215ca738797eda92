-- What the arms of an `if` do on the rows that reach them.
use Rattle.std.specs.Prelude.{◌≡◌, ℕ, ◌<◌, Bool, Option, Some, None}
use Rattle.weld_tree.specs.ExprTree.{ExprTree}
use Rattle.weld_builders.specs.Outcome.{done}
use Rattle.weld_meaning.specs.Thing.{Thing, plain}
use Rattle.weld_meaning.specs.Evaluation.{Env, eval, truth_of}
use Rattle.weld_built.specs.Pair.{pair}
use Rattle.weld_acts.specs.Act.{act}
use Rattle.weld_acts.specs.ActFits.{ActFits}
use Rattle.weld_blocks.specs.Numbers.{count_of, number_at}
use Rattle.weld_deeds.specs.Deeds.{do_of, DeedFits}
use Rattle.weld_blocks.specs.Picked.{AreNumbersWhere}
use Rattle.weld_deeds.specs.declared.deed.Deed.{Deed}
use Rattle.weld_deeds.specs.declared.deed.Deed as deed
use Rattle.weld_blocks.specs.declared.numbers.Numbers.{Numbers}

-- on those of so many rows on which the truth value is this one it is what the expression does in place, and it can be done wherever that fits
pub record IsDeedWhere (e : ExprTree) (envs : ℕ → Env) (t : Numbers) (b : Bool) (d : Deed) (count : ℕ) : Type 0 where
  pub does : (j : ℕ) → j < count → truth_of (number_at t j) ≡ done b → (s : Thing) → ActFits e (envs j) s → act e (envs j) s ≡ do_of d j s
  pub fits : (j : ℕ) → j < count → truth_of (number_at t j) ≡ done b → (s : Thing) → ActFits e (envs j) s → DeedFits d j s

-- it merges what the expression comes to on those rows: a number, or a struct of two
abbrev pub IsItemWhere : ExprTree → (ℕ → Env) → Numbers → Bool → Deed → ℕ → Type 0
IsItemWhere e envs t b deed.Nothing count = ⊥
IsItemWhere e envs t b (deed.Number c) count = AreNumbersWhere e envs t b c count
IsItemWhere e envs t b (deed.Pair c d) count =
    (count_of c ≡ count) × (count_of d ≡ count)
    × ((j : ℕ) → j < count → truth_of (number_at t j) ≡ done b → eval e (envs j) ≡ done (plain (pair (number_at c j) (number_at d j))))
IsItemWhere e envs t b (deed.Struct cs) count = ⊥
IsItemWhere e envs t b (deed.List cs) count = ⊥
IsItemWhere e envs t b (deed.Same u) count = ⊥
IsItemWhere e envs t b (deed.Choice' c a d x f) count = ⊥
IsItemWhere e envs t b (deed.Fields ds) count = ⊥

abbrev pub MayBeItemWhere : ExprTree → (ℕ → Env) → Numbers → Bool → Option Deed → ℕ → Type 0
MayBeItemWhere e envs t b (Some d) count = IsItemWhere e envs t b d count
MayBeItemWhere e envs t b None count = Unit {0}

abbrev pub MayBeDeedWhere : ExprTree → (ℕ → Env) → Numbers → Bool → Option Deed → ℕ → Type 0
MayBeDeedWhere e envs t b (Some d) count = IsDeedWhere e envs t b d count
MayBeDeedWhere e envs t b None count = Unit {0}
