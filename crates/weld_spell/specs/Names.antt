-- Names that are refused: one that no binder in scope bears, and a reserved word in the place of one.
-- It goes by the table of the grammar, in the order of the text; four rules bind names.
use Rattle.std.specs.Prelude.{◌≡◌, ◌⊎◌, ℕ, Bool, false, ◌||◌, if◌then◌else◌, Option, Some, None, List, [], ◌∷◌, bytes_eq}
use Rattle.weld_tree.specs.declared.place.Place.{Place}
use Rattle.weld_tree.specs.declared.code.Code.{Code}
use Rattle.weld_tree.specs.declared.code.Code.TheVariants.{N1, N2}
use Rattle.weld_grammar.specs.declared.terminals.class.Class.{Class}
use Rattle.weld_grammar.specs.declared.terminals.class.Class.TheVariants as classes
use Rattle.weld_grammar.specs.declared.terminals.token.Token.{Token}
use Rattle.weld_grammar.specs.declared.terminal.Terminal.{Terminal}
use Rattle.weld_grammar.specs.declared.terminal.Terminal.TheVariants.{Word, Name}
use Rattle.weld_grammar.specs.declared.rule.Rule.{Rule}
use Rattle.weld_grammar.specs.declared.rule.Rule.TheVariants.{Program, WithParams, Param, NextParam, Let, Expr, Or, For, Iterate, Rows, Bind}
use Rattle.weld_grammar.specs.declared.item.Item.TheVariants.{One, Part as OfRule, Optional, Repeated}
use Rattle.weld_grammar.specs.Grammar.{Part, item, all_of, one_of, body}
use Rattle.weld_grammar.specs.Derivation.{Tree, leaf, node, pair, here, there}

-- a refusal of a name: its code and its place
abbrev pub Refused : Type 0
Refused = Code × Place

-- the first of two
abbrev pub or_else : Option Refused → Option Refused → Option Refused
or_else None other = other
or_else (Some refused) other = Some refused

-- some binder in scope bears the name
abbrev pub bears : List (List ℕ) → List ℕ → Bool
bears [] bytes = false
bears (name ∷ scope) bytes = bytes_eq name bytes || bears scope bytes

-- N1: no binder in scope bears the name
abbrev pub unbound : List (List ℕ) → Token → Option Refused
unbound scope t = if bears scope t.word then None else Some (N1, t.place)

-- N2: the word in the place of a name is reserved
abbrev pub reserved : Class → Place → Option Refused
reserved (classes.Reserved r) place = Some (N2, place)
reserved _ place = None

-- what a terminal's token is refused for
abbrev pub misnamed_token : Terminal → Token → List (List ℕ) → Option Refused
misnamed_token Name t scope = unbound scope t
misnamed_token Word t scope = reserved t.class t.place
misnamed_token _ t scope = None

-- the name that a binder of a lambda, or a parameter, bears
abbrev pub name_of : Tree Token → List ℕ
name_of (leaf t) = t.word
name_of (node (pair w rest)) = name_of w
name_of _ = []

-- the names of further parameters, the newest first, before those of a scope
abbrev pub with_params : Tree Token → List (List ℕ) → List (List ℕ)
with_params (pair (node (pair c (pair p end))) more) scope = with_params more (name_of p ∷ scope)
with_params _ scope = scope

-- how a rule binds names: a `let` in its body, a `for` and an `iterate` in the body of their lambda, parameters in the program's expression
pub data Binding : Type 0 where
  none : Binding
  by_let : Binding
  by_for : Binding
  by_iterate : Binding
  by_params : Binding

abbrev pub binding_of : Rule → Binding
binding_of Let = by_let
binding_of For = by_for
binding_of Iterate = by_iterate
binding_of WithParams = by_params
binding_of _ = none

-- the first name refused in a tree of the part, in this scope, where it is what a rule opens to that binds so
abbrev pub misnamed : Binding → Part → Tree Token → List (List ℕ) → Option Refused
-- not in the value of the `let`
misnamed by_let (all_of items) (pair l (pair w (pair note (pair q (pair v (pair m (pair b end))))))) scope =
    or_else (misnamed none (item (One Word)) w scope) (or_else (misnamed none (item (OfRule Or)) v scope) (misnamed none (item (OfRule Expr)) b (name_of w ∷ scope)))
-- of one name the last binder is seen
misnamed by_for (all_of items) (pair w (pair a (pair l (pair c (pair t (pair d (pair i (pair x (pair j (pair y (pair k (pair z (pair m (pair b end)))))))))))))) scope =
    or_else (misnamed none (item (OfRule Rows)) l scope)
    (or_else (misnamed none (item (OfRule Expr)) t scope)
    (or_else (misnamed none (item (OfRule Bind)) x scope)
    (or_else (misnamed none (item (OfRule Bind)) y scope)
    (or_else (misnamed none (item (OfRule Bind)) z scope)
    (misnamed none (item (OfRule Expr)) b (name_of z ∷ name_of y ∷ name_of x ∷ scope))))))
misnamed by_iterate (all_of items) (pair w (pair a (pair t (pair c (pair i (pair x (pair m (pair b end)))))))) scope =
    or_else (misnamed none (item (OfRule Expr)) t scope)
    (or_else (misnamed none (item (OfRule Bind)) x scope)
    (misnamed none (item (OfRule Expr)) b (name_of x ∷ scope)))
misnamed by_params (all_of items) (pair a (pair p (pair more (pair z (pair b end))))) scope =
    or_else (misnamed none (item (OfRule Param)) p scope)
    (or_else (misnamed none (item (Repeated NextParam)) more scope)
    (misnamed none (item (OfRule Expr)) b (with_params more (name_of p ∷ scope))))
-- everything else from front to back
misnamed none (all_of (i ∷ rest)) (pair t u) scope = or_else (misnamed none (item i) t scope) (misnamed none (all_of rest) u scope)
misnamed by (item (One a)) (leaf t) scope = misnamed_token a t scope
misnamed by (item (OfRule r)) (node t) scope = misnamed (binding_of r) (body r) t scope
misnamed by (item (Optional r)) (here t) scope = misnamed none (item (OfRule r)) t scope
misnamed by (item (Repeated r)) (pair t u) scope = or_else (misnamed none (item (OfRule r)) t scope) (misnamed none (item (Repeated r)) u scope)
misnamed by (one_of (i ∷ rest)) (here t) scope = misnamed none (item i) t scope
misnamed by (one_of (i ∷ rest)) (there t) scope = misnamed by (one_of rest) t scope
misnamed by p t scope = None

-- N1 and N2 of a program's tree
abbrev pub first_misnamed : Tree Token → Option Refused
first_misnamed t = misnamed none (item (OfRule Program)) t []

-- the token is refused so: as a name that isn't bound, or as a reserved word
abbrev pub IsFor : Refused → Token → Type 0
IsFor refused t = (refused ≡ (N1, t.place)) ⊎ (reserved t.class t.place ≡ Some refused)

-- one of the tokens is refused so
abbrev pub StandsIn : Refused → List Token → Type 0
StandsIn refused [] = ⊥
StandsIn refused (t ∷ ts) = IsFor refused t ⊎ StandsIn refused ts
