-- Types read and tested.
use Rattle.std.proofs.Common.{◌≡◌, Bool, true, false, List, Option, Some, None, MatchOption, MatchBool}
use Rattle.weld_grammar.specs.declared.terminals.token.Token.{Token}
use Rattle.weld_tree.specs.TypeTree.{TypeTree}
use Rattle.weld_tree.specs.Types.{IsWithinLimits}
use Rattle.weld_tokens.specs.TokenLimits.{has_too_many_tokens}
use Rattle.weld_spell.specs.Types.{SpellsType, IsNoType}
use Rattle.weld_read_script.specs.Parts.{NoType, unspelled, unwanted, TypeRead}

abbrev within : List Token → Bool → (TypeTree → Type 0) → Option TypeTree → Type 0
within ts many Wanted found = MatchBool many (found ≡ None) (MatchOption found (NoType Wanted ts) (λ t. SpellsType ts t × IsWithinLimits t × Wanted t))

few : (ts : List Token) (many : Bool) (Wanted : TypeTree → Type 0) (found : Option TypeTree) → many ≡ false
    → MatchOption found (NoType Wanted ts) (λ t. SpellsType ts t × IsWithinLimits t × Wanted t) → within ts many Wanted found
few ts false Wanted found e h = h
few ts true Wanted found e h = cc

pub unspelled_read : (Wanted : TypeTree → Type 0) (ts : List Token) → has_too_many_tokens ts ≡ false → IsNoType ts → TypeRead Wanted ts None
unspelled_read Wanted ts e h = few ts (has_too_many_tokens ts) Wanted None e (unspelled h)

pub wanted_read : (Wanted : TypeTree → Type 0) (ts : List Token) (t : TypeTree) → has_too_many_tokens ts ≡ false → SpellsType ts t → IsWithinLimits t → Wanted t
    → TypeRead Wanted ts (Some t)
wanted_read Wanted ts t e spells limits h = few ts (has_too_many_tokens ts) Wanted (Some t) e (spells, limits, h)

pub unwanted_read : (Wanted : TypeTree → Type 0) (ts : List Token) (t : TypeTree) → has_too_many_tokens ts ≡ false → SpellsType ts t → ¬ (Wanted t)
    → TypeRead Wanted ts None
unwanted_read Wanted ts t e spells h = few ts (has_too_many_tokens ts) Wanted None e (unwanted t spells h)
