-- The parts of a line of a script, by its tokens.
use Rattle.std.specs.Prelude.{◌≡◌, ℕ, Bool, ◌||◌, if◌then◌else◌, List, [], ◌∷◌, Option, Some, None, option_map, MatchOption, MatchBool}
use Rattle.std.specs.List.{slice_split}
use Rattle.weld_grammar.specs.declared.terminals.class.Class.{Class}
use Rattle.weld_grammar.specs.declared.terminals.token.Token.{Token}
use Rattle.weld_grammar.specs.declared.terminals.symbol.Symbol.TheVariants.{RightParen, Comma}
use Rattle.weld_grammar.specs.declared.terminals.reserved.Reserved.TheVariants.{Min, Max, Slice}
use Rattle.weld_grammar.specs.declared.terminal.Terminal.TheVariants.{Sign, Fixed, Name}
use Rattle.weld_grammar.specs.Grammar.{is_of}
use Rattle.weld_tree.specs.TypeTree.{TypeTree}
use Rattle.weld_tree.specs.Types.{IsWithinLimits}
use Rattle.weld_tokens.specs.TokenLimits.{has_too_many_tokens}
use Rattle.weld_spell.specs.Types.{SpellsType, IsNoType}

-- ---- lists

-- what stands between commas
abbrev pub parts : List Token → List (List Token)
parts ts = slice_split (λ t. is_of (Sign Comma) t.class) ts

-- what stands before the `)` that ends the tokens
abbrev pub before_close : List Token → Option (List Token)
before_close [] = None
before_close (t ∷ []) = if is_of (Sign RightParen) t.class then Some [] else None
before_close (t ∷ u ∷ ts) = option_map (λ more. t ∷ more) (before_close (u ∷ ts))

-- one more before the others, where both are there
abbrev pub both : {A : Type 0} → Option A → Option (List A) → Option (List A)
both (Some x) (Some xs) = Some (x ∷ xs)
both _ _ = None

-- each as the function reads it, where it reads all
abbrev pub all_read : {A B : Type 0} → (A → Option B) → List A → Option (List B)
all_read read [] = Some []
all_read read (x ∷ xs) = both (read x) (all_read read xs)

-- ---- words

-- the word of a call may be `min`, `max` or `slice`, and else none that is reserved
abbrev pub is_call_word : Class → Bool
is_call_word class = is_of Name class || is_of (Fixed Min) class || is_of (Fixed Max) class || is_of (Fixed Slice) class

-- the one name of a part
abbrev pub name_of : List Token → Option (List ℕ)
name_of (t ∷ []) = if is_of Name t.class then Some t.word else None
name_of _ = None

-- ---- types

-- the tokens spell no type within the limits, or one that isn't wanted
pub data NoType (Wanted : TypeTree → Type 0) (ts : List Token) : Type 0 where
  unspelled : IsNoType ts → NoType Wanted ts
  unwanted : (t : TypeTree) → SpellsType ts t → ¬ (Wanted t) → NoType Wanted ts

-- the wanted type that the tokens spell within the limits, if they do; no type within the limits has so many tokens or so
-- many open brackets as a program may not have
abbrev pub TypeRead : (TypeTree → Type 0) → List Token → Option TypeTree → Type 0
TypeRead Wanted ts found =
    MatchBool (has_too_many_tokens ts) (found ≡ None) (MatchOption found (NoType Wanted ts) (λ t. SpellsType ts t × IsWithinLimits t × Wanted t))
