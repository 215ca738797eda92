-- What is still to be derived after some tokens. It knows nothing of trees.
use Rattle.std.specs.Prelude.{ℕ, suc, zero, Bool, true, ◌&&◌, if◌then◌else◌, Option, Some, None, option_and_then, List, [], ◌∷◌, ◌++◌}
use Rattle.weld_grammar.specs.declared.terminals.class.Class.{Class}
use Rattle.weld_grammar.specs.declared.terminal.Terminal.TheVariants.{Word}
use Rattle.weld_grammar.specs.declared.rule.Rule.{Rule}
use Rattle.weld_grammar.specs.declared.item.Item.{Item}
use Rattle.weld_grammar.specs.declared.item.Item.TheVariants.{One, Part as OfRule, Optional, Repeated}
use Rattle.weld_grammar.specs.Grammar.{Part, item, all_of, one_of, body}
use Rattle.weld_grammar.specs.Begins.{begins, nullable}

-- the first of these items that a token of the class may begin
abbrev pub first_begun : List Item → Class → Item
first_begun [] x = One Word
first_begun (i ∷ rest) x = if begins i x then i else first_begun rest x

-- what is pending behind a token that begins the part, where these items follow the part; no part opens deeper
-- than the number
abbrev pub behind : ℕ → Part → Class → List Item → List Item
behind zero p x s = s
behind (suc n) (item (One a)) x s = s
behind (suc n) (item (OfRule r)) x s = behind n (body r) x s
behind (suc n) (item (Optional r)) x s = behind n (item (OfRule r)) x s
behind (suc n) (item (Repeated r)) x s = behind n (item (OfRule r)) x (Repeated r ∷ s)
behind (suc n) (all_of []) x s = s
behind (suc n) (all_of (i ∷ rest)) x s = behind n (item i) x (rest ++ s)
behind (suc n) (one_of choices) x s = behind n (item (first_begun choices x)) x s

-- no part of the table opens deeper
unfoldable pub depth : ℕ
depth = 60

-- what is pending after one token more: the first item that the token may begin is opened and the token used up,
-- where the items before it can be empty
abbrev pub step : List Item → Class → Option (List Item)
step [] x = None
step (i ∷ s) x = if begins i x then Some (behind depth (item i) x s) else if nullable i then step s x else None

-- what is pending after these tokens, where these items were before
abbrev pub pending_from : List Item → List Class → Option (List Item)
pending_from s [] = Some s
pending_from s (x ∷ xs) = option_and_then (λ t. pending_from t xs) (step s x)

-- what is pending after these first tokens of what the rule derives
abbrev pub pending : Rule → List Class → Option (List Item)
pending r xs = pending_from (OfRule r ∷ []) xs

-- each item can be empty
abbrev pub can_end : List Item → Bool
can_end [] = true
can_end (i ∷ s) = nullable i && can_end s
