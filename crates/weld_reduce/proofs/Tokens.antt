-- What the machine does at a token: it's pushed, or passed over.
use Rattle.std.proofs.Common.{◌≡◌, refl, ℕ, true, false, Option, Some, None, List, [], ◌∷◌, ◌++◌, ap}
use Rattle.weld_grammar.specs.declared.terminals.class.Class.{Class}
use Rattle.weld_grammar.specs.declared.terminals.class.Class.TheVariants as classes
use Rattle.weld_grammar.specs.declared.terminals.symbol.Symbol.{Symbol}
use Rattle.weld_grammar.specs.declared.terminals.reserved.Reserved.{Reserved}
use Rattle.weld_grammar.specs.declared.terminals.token.Token.{Token}
use Rattle.weld_grammar.specs.declared.terminal.Terminal.TheVariants.{Sign, Fixed}
use Rattle.weld_grammar.specs.declared.item.Item.{Item}
use Rattle.weld_grammar.specs.declared.item.Item.TheVariants.{One}
use Rattle.weld_grammar.specs.Grammar.{Part, item, all_of, one_of}
use Rattle.weld_grammar.specs.Derivation.{Tree, leaf, empty, pair, here, there, yield}
use Rattle.weld_spell.specs.ProgramOf.{first_of}
use Rattle.weld_spell.specs.Names.{Refused, misnamed, none}
use Rattle.weld_reduce.specs.Values.{token}
use Rattle.weld_reduce.specs.States.{State, shift, push, names_of}
use Rattle.weld_reduce.proofs.Does.{Does, since, plain, over, first, later, refuses}
use Rattle.weld_reduce.proofs.Nameless.{nameless_item, silent}
use Rattle.weld_reduce.proofs.Good.{Good}
use Rattle.weld_reduce.proofs.Classes.{sign_class, fixed_class}

-- the machine pushes the tree's one token, of which something is read
pub record Told {A : Type 0} (p : Part) (t : Tree Token) (read : Class → A) (value : A) : Type 0 where
  pub is : Token
  pub only : is ∷ [] ≡ yield t
  pub says : read is.class ≡ value
  pub does : (st : State) → Does p t st (misnamed none p t (names_of st.scope)) (push (token is) st)

pub sign_told : {A : Type 0} (a : Symbol) (t : Tree Token) (read : Class → A) → ((x : Token) (st : State) → shift (Sign a) x st ≡ Some (push (token x) st)) → Good false (item (One (Sign a))) t → Told (item (One (Sign a))) t read (read (classes.Symbol a))
sign_told a (leaf x) read h g = record { is = x; only = refl; says = ap read (sign_class a x.class g.is); does = λ st. plain (λ z. h x (since z st)) }
sign_told a _ read h g = absurd g

pub fixed_told : {A : Type 0} (a : Reserved) (t : Tree Token) (read : Class → A) → ((x : Token) (st : State) → shift (Fixed a) x st ≡ Some (push (token x) st)) → Good false (item (One (Fixed a))) t → Told (item (One (Fixed a))) t read (read (classes.Reserved a))
fixed_told a (leaf x) read h g = record { is = x; only = refl; says = ap read (fixed_class a x.class g.is); does = λ st. plain (λ z. h x (since z st)) }
fixed_told a _ read h g = absurd g

pub first_told : {A : Type 0} {i : Item} {rest : List Item} {t : Tree Token} {read : Class → A} {value : A} → Told (item i) t read value → Told (one_of (i ∷ rest)) (here t) read value
first_told d = record { is = d.is; only = d.only; says = d.says; does = λ st. first (d.does st) }

pub later_told : {A : Type 0} {i : Item} {rest : List Item} {t : Tree Token} {read : Class → A} {value : A} → Told (one_of rest) t read value → Told (one_of (i ∷ rest)) (there t) read value
later_told d = record { is = d.is; only = d.only; says = d.says; does = λ st. later (d.does st) }

-- a place at the front of a row, and alone
pub front : {A : Type 0} {p : Part} {t : Tree Token} {read : Class → A} {value : A} (d : Told p t read value) (u : Tree Token) → d.is.place ≡ first_of (yield (pair t u))
front d u = ap (λ k. first_of (k ++ yield u)) d.only

pub alone : {A : Type 0} {p : Part} {t : Tree Token} {read : Class → A} {value : A} (d : Told p t read value) → d.is.place ≡ first_of (yield t)
alone d = ap first_of d.only

-- nothing is read
abbrev pub itself : Class → Class
itself c = c

-- a sign that leaves nothing
pub quiet : (a : Symbol) (t : Tree Token) (st : State) → ((x : Token) (s : State) → shift (Sign a) x s ≡ Some s) → Good false (item (One (Sign a))) t → Does (item (One (Sign a))) t st (misnamed none (item (One (Sign a))) t (names_of st.scope)) st
quiet a (leaf x) st h g = plain (λ z. h x (since z st))
quiet a _ st h g = absurd g

-- a sign, or a word, at which the machine does something of its own
pub at_sign : {st next : State} (a : Symbol) (t : Tree Token) → ((x : Token) (z : Option Refused) → shift (Sign a) x (since z st) ≡ Some (since z next)) → Good false (item (One (Sign a))) t → Does (item (One (Sign a))) t st None next
at_sign a (leaf x) h g = plain (λ z. h x z)
at_sign a _ h g = absurd g

pub at_word : {st next : State} (a : Reserved) (t : Tree Token) → ((x : Token) (z : Option Refused) → shift (Fixed a) x (since z st) ≡ Some (since z next)) → Good false (item (One (Fixed a))) t → Does (item (One (Fixed a))) t st None next
at_word a (leaf x) h g = plain (λ z. h x z)
at_word a _ h g = absurd g

-- what refuses no name
pub hushed : {i : Item} {t : Tree Token} {st next : State} (scope : List (List ℕ)) → nameless_item i ≡ true → Does (item i) t st (misnamed none (item i) t scope) next → Does (item i) t st None next
hushed {i} {t} {st} {next} scope e d = refuses d (silent (item i) t scope e)

pub closed : (t : Tree Token) (st : State) → Good false (all_of []) t → Does (all_of []) t st None st
closed empty st g = over st
closed _ st g = absurd g

-- the end of a row
pub ended : (t : Tree Token) (st : State) → Good false (all_of []) t → Does (all_of []) t st (misnamed none (all_of []) t (names_of st.scope)) st
ended empty st g = over st
ended _ st g = absurd g
