-- The parameter that is one too many, by the tokens and by the program.
use Rattle.std.proofs.Common.{◌≡◌, refl, ℕ, zero, suc, ◌+◌, Bool, true, false, cond, Some, None, List, [], ◌∷◌, ◌++◌, ap, sym, ◌∙◌, append_assoc}
use Rattle.std.proofs.Math.Dec.{eqb-suc-zero}
use Rattle.weld_tree.specs.declared.binder.Binder.{Binder}
use Rattle.weld_grammar.specs.declared.terminals.symbol.Symbol.TheVariants as s
use Rattle.weld_grammar.specs.declared.terminals.class.Class.TheVariants as classes
use Rattle.weld_grammar.specs.declared.terminals.token.Token.{Token}
use Rattle.weld_grammar.specs.declared.rule.Rule.TheVariants as r
use Rattle.weld_grammar.specs.declared.item.Item.TheVariants.{Part as OfRule, Repeated}
use Rattle.weld_grammar.specs.Grammar.{item}
use Rattle.weld_grammar.specs.Derivation.{Tree, leaf, node, empty, pair, here, there, yield, IsOf}
use Rattle.weld_spell.specs.Seen.{seen}
use Rattle.weld_spell.specs.ProgramOf.{param_of, next_params_of, program_of}
use Rattle.weld_tokens.specs.Lists.{is_bar, behind_commas, first_place, first_parameter_too_many}
use Rattle.weld_spell.specs.Measures.{binder_behind, parameter_too_many}
use Rattle.weld_spell.proofs.Terminals.{of_sign}
use Rattle.weld_spell.proofs.Passing.{passed, at_comma, at_end, at_none}

-- the place of a parameter is that of its first token
param_place : (t : Tree Token) (n : ℕ) (ts : List Token) → IsOf (item (OfRule r.Param)) (seen t) → first_place (yield t ++ ts) ≡ Some (param_of t n).place
param_place (node (pair (leaf x) (pair c (pair t rest)))) n ts h = refl
param_place _ n ts h = absurd (assumption)

-- behind a comma: the next parameter, or the one that is meant
behind : (t : Tree Token) (n : ℕ) (number : ℕ) (bs : List Binder) (rest : List Token) → IsOf (item (OfRule r.Param)) (seen t) → ((m : ℕ) → first_place (behind_commas true (suc m) 0 rest) ≡ binder_behind m bs)
    → first_place (behind_commas true n 0 (yield t ++ rest)) ≡ binder_behind n (param_of t number ∷ bs)
behind t zero number bs rest h f = ap first_place (at_none true (yield t ++ rest)) ∙ param_place t number rest h
behind t (suc n) number bs rest h f = ap first_place (passed r.Param t true (suc n) rest refl h (eqb-suc-zero n)) ∙ f n

-- further parameters, up to the bar behind them
chain : (more : Tree Token) (number n : ℕ) (b : Token) (ts : List Token) → IsOf (item (Repeated r.NextParam)) (seen more) → b.class ≡ classes.Symbol s.Bar
    → first_place (behind_commas true (suc n) 0 (yield more ++ b ∷ ts)) ≡ binder_behind n (next_params_of more number)
chain empty number n b ts h e = ap first_place (at_end true (suc n) b ts (eqb-suc-zero n) (ap is_bar e))
chain (pair (node (pair (leaf c) (pair t empty))) more) number n b ts h e =
    ap (λ z. first_place (behind_commas true (suc n) 0 (c ∷ z))) (append_assoc (yield t ++ []) (yield more) (b ∷ ts) ∙ append_assoc (yield t) [] (yield more ++ b ∷ ts))
    ∙ ap first_place (at_comma true n c (yield t ++ (yield more ++ b ∷ ts)) (of_sign s.Comma c.class h.0.0))
    ∙ behind t n number (next_params_of more (number + 1)) (yield more ++ b ∷ ts) h.0.1.0 (λ m. chain more (number + 1) m b ts h.1 e)
chain _ number n b ts h e = absurd (assumption)

-- an expression begins with no bar: a list of parameters would end with it, and goes on behind an expression
no_bar : (e : Tree Token) → IsOf (item (OfRule r.Expr)) (seen e) → first_parameter_too_many (yield e) ≡ None
no_bar e h = cases (yield e) (λ ts. passed r.Expr e true 1 ts refl h refl)
  where
    different : (x : Token) → [] ≡ x ∷ [] → ⊥
    different x e = cc

    at : (x : Token) (us : List Token) (b : Bool) → is_bar x.class ≡ b → ((ts : List Token) → behind_commas true 1 0 ((x ∷ us) ++ ts) ≡ behind_commas true 1 0 ts) → first_parameter_too_many (x ∷ us) ≡ None
    at x us true e f =
        let comma : Token = record { class = classes.Symbol s.Comma; word = x.word; place = x.place } in
        let two : List Token = comma ∷ x ∷ [] in
        absurd (different x (sym (at_end true 1 x (us ++ two) refl e) ∙ f two ∙ at_comma true 0 comma (x ∷ []) refl ∙ at_none true (x ∷ [])))
    at x us false e f = ap (λ b. cond b (first_place (behind_commas true 16 0 us)) None) e

    cases : (us : List Token) → ((ts : List Token) → behind_commas true 1 0 (us ++ ts) ≡ behind_commas true 1 0 ts) → first_parameter_too_many us ≡ None
    cases [] f = refl
    cases (x ∷ us) f = at x us (is_bar x.class) refl f

pub parameters-by-the-tree : (t : Tree Token) → IsOf (item (OfRule r.Program)) (seen t) → first_parameter_too_many (yield t) ≡ parameter_too_many (program_of t).params
parameters-by-the-tree (node (here (node (pair (leaf b) (pair e end))))) h = ap (λ c. cond c (first_place (behind_commas true 16 0 (yield e ++ yield end))) None) (ap is_bar (of_sign s.BarBar b.class h.0))
parameters-by-the-tree (node (there (here (node (pair (leaf a) (pair p (pair more (pair (leaf b) (pair e end))))))))) h =
    let is = h.0 in
    ap (λ c. cond c (first_place (behind_commas true 16 0 (yield p ++ (yield more ++ (b ∷ (yield e ++ yield end)))))) None) (ap is_bar (of_sign s.Bar a.class is.0))
    ∙ behind p 16 0 (next_params_of more 1) (yield more ++ (b ∷ (yield e ++ yield end))) is.1.0 (λ m. chain more 1 m b ((yield e ++ yield end)) is.1.1.0 (of_sign s.Bar b.class is.1.1.1.0))
parameters-by-the-tree (node (there (there (here e)))) h = let is = h.0.0 in no_bar e is
parameters-by-the-tree _ h = absurd (assumption)
