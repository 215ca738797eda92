-- Whether a rule derives tokens, and where they break it first. A text is a program where its tokens
-- are derived by the rule `Program`.
use Rattle.std.specs.Prelude.{◌≡◌, ℕ, ◌+◌, ◌<◌, IsFalse, Some, None, List, length, take}
use Rattle.weld_grammar.specs.declared.terminals.class.Class.{Class}
use Rattle.weld_grammar.specs.declared.rule.Rule.{Rule}
use Rattle.weld_grammar.specs.declared.item.Item.{Item}
use Rattle.weld_grammar.specs.declared.item.Item.TheVariants.{Part as OfRule}
use Rattle.weld_grammar.specs.Grammar.{item}
use Rattle.weld_grammar.specs.Pending.{pending, can_end}
use Rattle.weld_grammar.specs.Derivation.{Tree, yield, IsOf}

-- the rule derives the tokens
abbrev pub Derives : Rule → List Class → Type 0
Derives r xs = (t : Tree Class) × IsOf (item (OfRule r)) t × (yield t ≡ xs)

-- the first token with which nothing is pending any more; or the end, where something pending can't be empty
pub data BreaksAt (r : Rule) (xs : List Class) (n : ℕ) : Type 0 where
  at_token : (s : List Item) → n < length xs → pending r (take n xs) ≡ Some s → pending r (take (n + 1) xs) ≡ None → BreaksAt r xs n
  at_end : (s : List Item) → n ≡ length xs → pending r xs ≡ Some s → IsFalse (can_end s) → BreaksAt r xs n
