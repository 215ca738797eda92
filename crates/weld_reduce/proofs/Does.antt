-- What the machine does along a tree: the state behind it, and the first name refused on the way.
use Rattle.std.proofs.Common.{◌≡◌, refl, Option, Some, None, option_and_then, List, [], ◌∷◌, ◌++◌, ap, sym, ◌∙◌, append_assoc}
use Rattle.weld_grammar.specs.declared.terminals.token.Token.{Token}
use Rattle.weld_grammar.specs.declared.terminal.Terminal.{Terminal}
use Rattle.weld_grammar.specs.declared.rule.Rule.{Rule}
use Rattle.weld_grammar.specs.declared.item.Item.{Item}
use Rattle.weld_grammar.specs.declared.item.Item.TheVariants.{One, Part as OfRule, Optional, Repeated}
use Rattle.weld_grammar.specs.Grammar.{Part, item, all_of, one_of, body}
use Rattle.weld_grammar.specs.Derivation.{Tree, leaf, node, empty, pair, here, there, yield}
use Rattle.weld_accept.specs.declared.step.Step.{Step}
use Rattle.weld_accept.specs.declared.step.Step.TheVariants.{Reduce}
use Rattle.weld_accept.specs.Derived.{steps}
use Rattle.weld_spell.specs.Names.{Refused, or_else}
use Rattle.weld_reduce.specs.States.{State, shift, reduce}
use Rattle.weld_reduce.specs.Runs.{run}

-- the state with this name refused before
abbrev pub since : Option Refused → State → State
since z st = record { values = st.values; binders = st.binders; scope = st.scope; next = st.next; misnamed = z; params = st.params }

-- a tree of the part leads from the state to the next, but for names refused before; on its way this name is refused first
pub record Does (p : Part) (t : Tree Token) (st : State) (m : Option Refused) (next : State) : Type 0 where
  pub runs : (z : Option Refused) (ss : List Step) (ts : List Token) → run (steps p t ++ ss) (yield t ++ ts) (since z st) ≡ run ss ts (since (or_else z m) next)

pub or_else-none : (z : Option Refused) → or_else z None ≡ z
or_else-none None = refl
or_else-none (Some r) = refl

or_else-assoc : (z m n : Option Refused) → or_else (or_else z m) n ≡ or_else z (or_else m n)
or_else-assoc None m n = refl
or_else-assoc (Some r) m n = refl

-- ---- tokens

pub shifted : {a : Terminal} {x : Token} {st next : State} {m : Option Refused} → ((z : Option Refused) → shift a x (since z st) ≡ Some (since (or_else z m) next)) → Does (item (One a)) (leaf x) st m next
shifted {a} {x} {st} {next} {m} h = record { runs = λ z ss ts. ap (option_and_then (λ n. run ss ts n)) (h z) }

-- a token that refuses no name
pub plain : {a : Terminal} {x : Token} {st next : State} → ((z : Option Refused) → shift a x (since z st) ≡ Some (since z next)) → Does (item (One a)) (leaf x) st None next
plain {a} {x} {st} {next} h = record { runs = λ z ss ts. ap (option_and_then (λ n. run ss ts n)) (h z) ∙ ap (λ y. run ss ts (since y next)) (sym (or_else-none z)) }

-- ---- a rule, whose body leads to what it reduces

pub opened : {r : Rule} {t : Tree Token} {st mid next : State} {m : Option Refused} → Does (body r) t st m mid → ((z : Option Refused) → reduce r (since z mid) ≡ Some (since z next)) → Does (item (OfRule r)) (node t) st m next
opened {r} {t} {st} {mid} {next} {m} d h = record {
  runs = λ z ss ts. ap (λ k. run k (yield t ++ ts) (since z st)) (append_assoc (steps (body r) t) (Reduce r ∷ []) ss) ∙ d.runs z (Reduce r ∷ ss) ts ∙ ap (option_and_then (λ n. run ss ts n)) (h (or_else z m));
}

-- a rule that leaves all as it is
pub kept : {r : Rule} {t : Tree Token} {st next : State} {m : Option Refused} → Does (body r) t st m next → ((z : Option Refused) → reduce r (since z next) ≡ Some (since z next)) → Does (item (OfRule r)) (node t) st m next
kept {r} {t} {st} {next} {m} d h = opened {r = r} {t = t} {st = st} {mid = next} {next = next} {m = m} d h

-- ---- rows

pub row : {i : Item} {rest : List Item} {t u : Tree Token} {st mid next : State} {m n : Option Refused} → Does (item i) t st m mid → Does (all_of rest) u mid n next → Does (all_of (i ∷ rest)) (pair t u) st (or_else m n) next
row {i} {rest} {t} {u} {st} {mid} {next} {m} {n} d e = record {
  runs = λ z ss ts. ap (λ k. run k ((yield t ++ yield u) ++ ts) (since z st)) (append_assoc (steps (item i) t) (steps (all_of rest) u) ss)
      ∙ ap (λ k. run (steps (item i) t ++ (steps (all_of rest) u ++ ss)) k (since z st)) (append_assoc (yield t) (yield u) ts)
      ∙ d.runs z (steps (all_of rest) u ++ ss) (yield u ++ ts) ∙ e.runs (or_else z m) ss ts ∙ ap (λ y. run ss ts (since y next)) (or_else-assoc z m n);
}

pub over : (st : State) → Does (all_of []) empty st None st
over st = record { runs = λ z ss ts. ap (λ y. run ss ts (since y st)) (sym (or_else-none z)) }

-- ---- what may be absent or repeated

pub absent : (r : Rule) (st : State) → Does (item (Optional r)) empty st None st
absent r st = record { runs = λ z ss ts. ap (λ y. run ss ts (since y st)) (sym (or_else-none z)) }

pub present : {r : Rule} {t : Tree Token} {st next : State} {m : Option Refused} → Does (item (OfRule r)) t st m next → Does (item (Optional r)) (here t) st m next
present d = record { runs = λ z ss ts. d.runs z ss ts }

pub no_more : (r : Rule) (st : State) → Does (item (Repeated r)) empty st None st
no_more r st = record { runs = λ z ss ts. ap (λ y. run ss ts (since y st)) (sym (or_else-none z)) }

pub one_more : {r : Rule} {t u : Tree Token} {st mid next : State} {m n : Option Refused} → Does (item (OfRule r)) t st m mid → Does (item (Repeated r)) u mid n next → Does (item (Repeated r)) (pair t u) st (or_else m n) next
one_more {r} {t} {u} {st} {mid} {next} {m} {n} d e = record {
  runs = λ z ss ts. ap (λ k. run k ((yield t ++ yield u) ++ ts) (since z st)) (append_assoc (steps (item (OfRule r)) t) (steps (item (Repeated r)) u) ss)
      ∙ ap (λ k. run (steps (item (OfRule r)) t ++ (steps (item (Repeated r)) u ++ ss)) k (since z st)) (append_assoc (yield t) (yield u) ts)
      ∙ d.runs z (steps (item (Repeated r)) u ++ ss) (yield u ++ ts) ∙ e.runs (or_else z m) ss ts ∙ ap (λ y. run ss ts (since y next)) (or_else-assoc z m n);
}

-- ---- alternatives

pub first : {i : Item} {rest : List Item} {t : Tree Token} {st next : State} {m : Option Refused} → Does (item i) t st m next → Does (one_of (i ∷ rest)) (here t) st m next
first d = record { runs = λ z ss ts. d.runs z ss ts }

pub later : {i : Item} {rest : List Item} {t : Tree Token} {st next : State} {m : Option Refused} → Does (one_of rest) t st m next → Does (one_of (i ∷ rest)) (there t) st m next
later d = record { runs = λ z ss ts. d.runs z ss ts }

-- ---- the same in other words

pub leads : {p : Part} {t : Tree Token} {st next other : State} {m : Option Refused} → Does p t st m next → next ≡ other → Does p t st m other
leads {p} {t} {st} {next} {other} {m} d e = record { runs = λ z ss ts. d.runs z ss ts ∙ ap (λ s. run ss ts (since (or_else z m) s)) e }

pub refuses : {p : Part} {t : Tree Token} {st next : State} {m n : Option Refused} → Does p t st m next → m ≡ n → Does p t st n next
refuses {p} {t} {st} {next} {m} {n} d e = record { runs = λ z ss ts. d.runs z ss ts ∙ ap (λ k. run ss ts (since (or_else z k) next)) e }
