-- The steps of a derivation make no more binders than it has tokens, and those of a type's make none.
use Rattle.std.proofs.Common.{◌≡◌, refl, ℕ, ◌+◌, ◌≤◌, true, List, [], ◌∷◌, ◌++◌, length, ap, sym, ◌∙◌, arith, length-append}
use Rattle.weld_grammar.specs.declared.terminals.symbol.Symbol.TheVariants.{Equals}
use Rattle.weld_grammar.specs.declared.terminals.token.Token.{Token}
use Rattle.weld_grammar.specs.declared.terminal.Terminal.{Terminal}
use Rattle.weld_grammar.specs.declared.terminal.Terminal.TheVariants.{Sign, Word}
use Rattle.weld_grammar.specs.declared.rule.Rule.{Rule}
use Rattle.weld_grammar.specs.declared.rule.Rule.TheVariants as r
use Rattle.weld_grammar.specs.declared.item.Item.TheVariants.{One, Part as OfRule, Optional, Repeated}
use Rattle.weld_grammar.specs.Grammar.{Part, item, all_of, one_of, body}
use Rattle.weld_grammar.specs.Derivation.{Tree, leaf, node, empty, pair, here, there, yield, IsOf}
use Rattle.weld_spell.specs.Seen.{seen}
use Rattle.weld_accept.specs.declared.step.Step.{Step}
use Rattle.weld_accept.specs.declared.step.Step.TheVariants.{Reduce}
use Rattle.weld_accept.specs.Derived.{steps}
use Rattle.weld_reduce.specs.Made.{made_by_terminal, made_by_rule, binders_made}
use Rattle.weld_reduce.specs.Programs.{IsDerivedBy}
use Rattle.weld_reduce.proofs.Nameless.{is_nameless, nameless_item, nameless_items, nameless_part, table, both_left, both_right}

pub made-append : (ss us : List Step) → binders_made (ss ++ us) ≡ binders_made ss + binders_made us
made-append [] us = omega arith
made-append (s ∷ ss) us = let e = made-append ss us in omega arith

-- ---- no more than tokens

-- a part that begins with a word has a token that makes no binder by itself
abbrev pub spare : Part → ℕ
spare (all_of (One Word ∷ rest)) = 1
spare _ = 0

-- each rule that makes a binder begins with its word
begins_with_its_word : (q : Rule) → made_by_rule q ≡ spare (body q)
begins_with_its_word r.Bind = refl
begins_with_its_word r.Param = refl
begins_with_its_word _ = refl

one_token : (a : Terminal) → made_by_terminal a + 0 + 0 ≤ 1
one_token (Sign Equals) = omega arith
one_token (Sign s) = omega arith
one_token _ = omega arith

pub few : (p : Part) (t : Tree Token) → IsOf p (seen t) → binders_made (steps p t) + spare p ≤ length (yield t)
few (item (One a)) (leaf x) h = one_token a
few (item (OfRule q)) (node t) h =
    let k = few (body q) t h in
    let e = begins_with_its_word q in
    let f = made-append (steps (body q) t) (Reduce q ∷ []) in
    omega arith
few (item (Optional q)) empty h = omega arith
few (item (Optional q)) (here t) h = few (item (OfRule q)) t h
few (item (Repeated q)) empty h = omega arith
few (item (Repeated q)) (pair t u) h =
    let k = few (item (OfRule q)) t h.0 in
    let l = few (item (Repeated q)) u h.1 in
    let f = made-append (steps (item (OfRule q)) t) (steps (item (Repeated q)) u) in
    let g = length-append (yield t) (yield u) in
    omega arith
few (all_of []) empty h = omega arith
few (all_of (One Word ∷ rest)) (pair (leaf x) u) h =
    let k = few (all_of rest) u h.1 in
    omega arith
few (all_of (i ∷ rest)) (pair t u) h =
    let k = few (item i) t h.0 in
    let l = few (all_of rest) u h.1 in
    let f = made-append (steps (item i) t) (steps (all_of rest) u) in
    let g = length-append (yield t) (yield u) in
    omega arith
few (one_of (i ∷ rest)) (here t) h = few (item i) t h
few (one_of (i ∷ rest)) (there t) h = few (one_of rest) t h.0
few _ _ h = absurd h

pub few_derived : (q : Rule) (ts : List Token) (ss : List Step) → IsDerivedBy q ts ss → binders_made ss ≤ length ts
few_derived q ts ss d =
    let k = few (item (OfRule q)) d.tree d.tree_of in
    let e : binders_made (steps (item (OfRule q)) d.tree) ≡ binders_made ss = ap binders_made d.is in
    let f : length (yield d.tree) ≡ length ts = ap length d.tokens in
    omega arith

-- ---- none in types

-- (Bind and Param aren't among them)
made_by_none : (q : Rule) → is_nameless q ≡ true → made_by_rule q ≡ 0
made_by_none r.Bind e = absurd (cc)
made_by_none r.Param e = absurd (cc)
made_by_none _ e = refl

pub none_made : (p : Part) (t : Tree Token) → nameless_part p ≡ true → binders_made (steps p t) ≡ 0
none_made (item (One (Sign Equals))) (leaf x) e = absurd (cc)
none_made (item (One (Sign s))) (leaf x) e = refl
none_made (item (One a)) (leaf x) e = refl
none_made (item (OfRule q)) (node t) e =
    let k = none_made (body q) t (table q e) in
    let f = made-append (steps (body q) t) (Reduce q ∷ []) in
    let g = made_by_none q e in
    omega arith
none_made (item (Optional q)) (here t) e = none_made (item (OfRule q)) t e
none_made (item (Repeated q)) (pair t u) e =
    let k = none_made (item (OfRule q)) t e in
    let l = none_made (item (Repeated q)) u e in
    let f = made-append (steps (item (OfRule q)) t) (steps (item (Repeated q)) u) in
    omega arith
none_made (all_of (i ∷ rest)) (pair t u) e =
    let k = none_made (item i) t (both_left (nameless_item i) (nameless_items rest) e) in
    let l = none_made (all_of rest) u (both_right (nameless_item i) (nameless_items rest) e) in
    let f = made-append (steps (item i) t) (steps (all_of rest) u) in
    omega arith
none_made (one_of (i ∷ rest)) (here t) e = none_made (item i) t (both_left (nameless_item i) (nameless_items rest) e)
none_made (one_of (i ∷ rest)) (there t) e = none_made (one_of rest) t (both_right (nameless_item i) (nameless_items rest) e)
none_made p t e = refl

pub none_derived : (ts : List Token) (ss : List Step) → IsDerivedBy r.AnyType ts ss → binders_made ss ≡ 0
none_derived ts ss d = ap binders_made (sym d.is) ∙ none_made (item (OfRule r.AnyType)) d.tree refl
