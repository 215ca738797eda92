-- Tokens that end with `)`.
use Rattle.std.proofs.Common.{◌≡◌, Bool, List, [], ◌∷◌, ◌++◌, true, false, Some, None, option_map, refl, ap, ◌∙◌, if◌then◌else◌}
use Rattle.weld_grammar.specs.declared.terminals.token.Token.{Token}
use Rattle.weld_grammar.specs.declared.terminals.symbol.Symbol.TheVariants.{RightParen}
use Rattle.weld_grammar.specs.declared.terminal.Terminal.TheVariants.{Sign}
use Rattle.weld_grammar.specs.Grammar.{is_of}
use Rattle.weld_read_script.specs.Parts.{before_close}

lengthened : (t : Token) (b : Bool) (xs : List Token) → option_map (λ more. t ∷ more) (if b then Some xs else None) ≡ (if b then Some (t ∷ xs) else None)
lengthened t b xs = elim b as (λ v. option_map (λ more. t ∷ more) (if v then Some xs else None) ≡ (if v then Some (t ∷ xs) else None)) [ true ↦ refl | false ↦ refl ]

pub closing : (xs : List Token) (t : Token) → before_close (xs ++ t ∷ []) ≡ (if is_of (Sign RightParen) t.class then Some xs else None)
closing [] t = refl
closing (x ∷ []) t = lengthened x (is_of (Sign RightParen) t.class) []
closing (x ∷ y ∷ xs) t =
    ap (option_map (λ more. x ∷ more)) (closing (y ∷ xs) t) ∙ lengthened x (is_of (Sign RightParen) t.class) (y ∷ xs)
