-- What tokens derive, as trees.
use Rattle.std.specs.Prelude.{IsTrue, IsFalse, List, [], ◌∷◌, ◌++◌}
use Rattle.weld_grammar.specs.declared.terminals.class.Class.{Class}
use Rattle.weld_grammar.specs.declared.item.Item.{Item}
use Rattle.weld_grammar.specs.declared.item.Item.TheVariants.{One, Part as OfRule, Optional, Repeated}
use Rattle.weld_grammar.specs.Grammar.{Part, item, all_of, one_of, body, is_of}
use Rattle.weld_grammar.specs.Begins.{begins}

-- a tree over tokens: a token; an opened rule; nothing; two trees in a row; the first alternative, or a later one
pub data Tree (A : Type 0) : Type 0 where
  leaf : A → Tree A
  node : Tree A → Tree A
  empty : Tree A
  pair : Tree A → Tree A → Tree A
  here : Tree A → Tree A
  there : Tree A → Tree A

-- the tokens of a tree
abbrev pub yield : {A : Type 0} → Tree A → List A
yield (leaf x) = x ∷ []
yield (node t) = yield t
yield empty = []
yield (pair t u) = yield t ++ yield u
yield (here t) = yield t
yield (there t) = yield t

-- the first of these tokens can't begin the item
abbrev pub Unbegun : Item → List Class → Type 0
Unbegun i [] = ⊥
Unbegun i (x ∷ xs) = IsFalse (begins i x)

-- the tree derives the part. A later alternative is allowed only where none before it can begin so: this
-- decides the number behind a minus, and holds everywhere else
abbrev pub IsOf : Part → Tree Class → Type 0
IsOf (item (One a)) (leaf x) = IsTrue (is_of a x)
IsOf (item (OfRule r)) (node t) = IsOf (body r) t
IsOf (item (Optional r)) empty = Unit {0}
IsOf (item (Optional r)) (here t) = IsOf (item (OfRule r)) t
IsOf (item (Repeated r)) empty = Unit {0}
IsOf (item (Repeated r)) (pair t u) = IsOf (item (OfRule r)) t × IsOf (item (Repeated r)) u
IsOf (all_of []) empty = Unit {0}
IsOf (all_of (i ∷ rest)) (pair t u) = IsOf (item i) t × IsOf (all_of rest) u
IsOf (one_of (i ∷ rest)) (here t) = IsOf (item i) t
IsOf (one_of (i ∷ rest)) (there t) = IsOf (one_of rest) t × Unbegun i (yield t)
IsOf _ _ = ⊥
