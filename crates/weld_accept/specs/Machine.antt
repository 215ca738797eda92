-- What the machine's stack stands for: the items that are pending, and the steps and the tokens that it comes to.
use Rattle.std.specs.Prelude.{◌≡◌, List, [], ◌∷◌, ◌++◌}
use Rattle.weld_grammar.specs.declared.terminals.class.Class.{Class}
use Rattle.weld_grammar.specs.declared.item.Item.{Item}
use Rattle.weld_grammar.specs.Grammar.{Part, item}
use Rattle.weld_grammar.specs.Derivation.{Tree, yield, IsOf}
use Rattle.weld_accept.specs.declared.step.Step.{Step}
use Rattle.weld_accept.specs.declared.step.Step.TheVariants.{Reduce}
use Rattle.weld_accept.specs.declared.entry.Entry.{Entry}
use Rattle.weld_accept.specs.declared.entry.Entry.TheVariants.{Due, End}
use Rattle.weld_accept.specs.Derived.{steps}

-- these items as entries
abbrev pub due : List Item → List Entry
due [] = []
due (i ∷ s) = Due i ∷ due s

-- the items that are pending
abbrev pub items_of : List Entry → List Item
items_of [] = []
items_of (Due i ∷ s) = i ∷ items_of s
items_of (End r ∷ s) = items_of s

-- the entries come to these steps over these tokens: an item to the steps of a tree of it, an end to its rule's
abbrev pub Makes : List Entry → List Step → List Class → Type 0
Makes [] ss xs = (ss ≡ []) × (xs ≡ [])
Makes (Due i ∷ s) ss xs = (t : Tree Class) × (rest : List Step) × (ys : List Class) × IsOf (item i) t × (ss ≡ steps (item i) t ++ rest) × (xs ≡ yield t ++ ys) × Makes s rest ys
Makes (End r ∷ s) ss xs = (rest : List Step) × (ss ≡ Reduce r ∷ rest) × Makes s rest xs

-- a tree of the part that begins with the token, and behind it what the entries come to: these steps, over this
-- token and these others
pub record Opened (p : Part) (x : Class) (s : List Entry) (ss : List Step) (xs : List Class) : Type 0 where
  pub tree : Tree Class
  pub tree_of : IsOf p tree
  pub others : List Class
  pub begun : yield tree ≡ x ∷ others
  pub rest : List Step
  pub behind : List Class
  pub is : ss ≡ steps p tree ++ rest
  pub tokens : xs ≡ others ++ behind
  pub made : Makes s rest behind

-- from these entries and steps the machine comes to those others over the tokens: whatever the new entries come
-- to, the old ones come to it behind the steps that were taken
pub record Moves (s : List Entry) (old : List Step) (xs : List Class) (t : List Entry) (new : List Step) : Type 0 where
  pub taken : List Step
  pub is : new ≡ old ++ taken
  pub made : (ss : List Step) (ys : List Class) → Makes t ss ys → Makes s (taken ++ ss) (xs ++ ys)

-- the same where the item in front of the old entries is opened at the token
pub record Opens (i : Item) (x : Class) (s : List Entry) (old : List Step) (t : List Entry) (new : List Step) : Type 0 where
  pub taken : List Step
  pub is : new ≡ old ++ taken
  pub opened : (ss : List Step) (ys : List Class) → Makes t ss ys → Opened (item i) x s (taken ++ ss) ys
