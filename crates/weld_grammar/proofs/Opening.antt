-- What the test of the table says of each rule, and that parts open as the table says.
use Rattle.std.proofs.Common.{ℕ, zero, suc, ◌+◌, zero-add, suc-add, Bool, true, false, ◌&&◌, ◌||◌, ◌≡◌, refl, List, [], ◌∷◌, ◌++◌, sym}
use Rattle.std.proofs.lemmas.Bool.{and_parts, false≢true}
use Rattle.weld_grammar.specs.declared.terminals.class.Class.{Class}
use Rattle.weld_grammar.specs.declared.terminals.class.Class.TheVariants as classes
use Rattle.weld_grammar.specs.declared.terminal.Terminal.{Terminal}
use Rattle.weld_grammar.specs.declared.rule.Rule.{Rule}
use Rattle.weld_grammar.specs.declared.item.Item.{Item}
use Rattle.weld_grammar.specs.declared.item.Item.TheVariants.{One, Part as OfRule, Optional, Repeated}
use Rattle.weld_grammar.specs.Grammar.{Part, item, all_of, one_of, body}
use Rattle.weld_grammar.specs.Begins.{starts}
use Rattle.weld_grammar.specs.Pending.{first_begun, behind, depth}
use Rattle.weld_grammar.specs.Apart.{takes_order, choices_apart}
use Rattle.weld_grammar.proofs.Table.{solid, same, part_begins, part_fits, follow, enough, table}

same-eq : (a b : Bool) → same a b ≡ true → a ≡ b
same-eq true true h = refl
same-eq true false h = sym h
same-eq false true h = h
same-eq false false h = refl

-- the five parts of the test
sound_parts : (r : Rule) (x : Class) → (solid (body r) ≡ true) × (same (starts r x) (part_begins (body r) x) ≡ true) × (part_fits x (body r) (follow r x) ≡ true) × (enough 50 (item (OfRule r)) x ≡ true) × ((takes_order r || choices_apart (body r) x) ≡ true)
sound_parts r x =
    let last = enough 50 (item (OfRule r)) x && (takes_order r || choices_apart (body r) x) in
    let whole = and_parts (solid (body r) && same (starts r x) (part_begins (body r) x)) (part_fits x (body r) (follow r x) && last) (table r x) in
    let left = and_parts (solid (body r)) (same (starts r x) (part_begins (body r) x)) whole.0 in
    let right = and_parts (part_fits x (body r) (follow r x)) last whole.1 in
    let end = and_parts (enough 50 (item (OfRule r)) x) (takes_order r || choices_apart (body r) x) right.1 in
    (left.0, left.1, right.0, end.0, end.1)

pub solid_rule : (r : Rule) → solid (body r) ≡ true
solid_rule r = (sound_parts r classes.Name).0

pub begins_rule : (r : Rule) (x : Class) → starts r x ≡ part_begins (body r) x
begins_rule r x = same-eq (starts r x) (part_begins (body r) x) (sound_parts r x).1

pub fits_rule : (r : Rule) (x : Class) → part_fits x (body r) (follow r x) ≡ true
fits_rule r x = (sound_parts r x).2

pub apart_rule : (r : Rule) (x : Class) → (takes_order r || choices_apart (body r) x) ≡ true
apart_rule r x = (sound_parts r x).4

-- a greater number is enough too
more : (n : ℕ) (p : Part) (x : Class) → enough n p x ≡ true → enough (suc n) p x ≡ true
more zero p x h = absurd (false≢true h)
more (suc n) (item (One a)) x h = refl
more (suc n) (item (OfRule r)) x h = more n (body r) x h
more (suc n) (item (Optional r)) x h = more n (item (OfRule r)) x h
more (suc n) (item (Repeated r)) x h = more n (item (OfRule r)) x h
more (suc n) (all_of []) x h = refl
more (suc n) (all_of (i ∷ rest)) x h = more n (item i) x h
more (suc n) (one_of choices) x h = more n (item (first_begun choices x)) x h

enough_item : (i : Item) (x : Class) → enough 51 (item i) x ≡ true
enough_item (One a) x = refl
enough_item (OfRule r) x = more 50 (item (OfRule r)) x (sound_parts r x).3
enough_item (Optional r) x = (sound_parts r x).3
enough_item (Repeated r) x = (sound_parts r x).3

enough_above : (n : ℕ) → ((i : Item) (x : Class) → enough n (item i) x ≡ true) → (p : Part) (x : Class) → enough (suc n) p x ≡ true
enough_above n h (item i) x = more n (item i) x (h i x)
enough_above n h (all_of []) x = refl
enough_above n h (all_of (i ∷ rest)) x = h i x
enough_above n h (one_of choices) x = h (first_begun choices x) x

enough_on : (k n : ℕ) (p : Part) (x : Class) → enough n p x ≡ true → enough (k + n) p x ≡ true
enough_on zero n p x h = rw zero-add h
enough_on (suc k) n p x h = rw suc-add (more (k + n) p x (enough_on k n p x h))

enough_59 : (p : Part) (x : Class) → enough 59 p x ≡ true
enough_59 p x = enough_on 7 52 p x (enough_above 51 enough_item p x)

-- where two numbers are enough, they give one list
behind-same : (n m : ℕ) (p : Part) (x : Class) (s : List Item) → enough n p x ≡ true → enough m p x ≡ true → behind n p x s ≡ behind m p x s
behind-same zero m p x s h k = absurd (false≢true h)
behind-same (suc n) zero p x s h k = absurd (false≢true k)
behind-same (suc n) (suc m) (item (One a)) x s h k = refl
behind-same (suc n) (suc m) (item (OfRule r)) x s h k = behind-same n m (body r) x s h k
behind-same (suc n) (suc m) (item (Optional r)) x s h k = behind-same n m (item (OfRule r)) x s h k
behind-same (suc n) (suc m) (item (Repeated r)) x s h k = behind-same n m (item (OfRule r)) x (Repeated r ∷ s) h k
behind-same (suc n) (suc m) (all_of []) x s h k = refl
behind-same (suc n) (suc m) (all_of (i ∷ rest)) x s h k = behind-same n m (item i) x (rest ++ s) h k
behind-same (suc n) (suc m) (one_of choices) x s h k = behind-same n m (item (first_begun choices x)) x s h k

-- a number that one less is enough for
Open : ℕ → Type 0
Open n = (p : Part) (x : Class) (s : List Item) → behind n p x s ≡ behind (suc n) p x s

open_59 : Open 59
unfolding Open
open_59 p x s = behind-same 59 (suc 59) p x s (enough_59 p x) (more 59 p x (enough_59 p x))

rule_at : (n : ℕ) → Open n → (r : Rule) (x : Class) (s : List Item) → behind (suc n) (item (OfRule r)) x s ≡ behind (suc n) (body r) x s
unfolding Open
rule_at n h r x s = h (body r) x s

optional_at : (n : ℕ) → Open n → (r : Rule) (x : Class) (s : List Item) → behind (suc n) (item (Optional r)) x s ≡ behind (suc n) (item (OfRule r)) x s
unfolding Open
optional_at n h r x s = h (item (OfRule r)) x s

repeated_at : (n : ℕ) → Open n → (r : Rule) (x : Class) (s : List Item) → behind (suc n) (item (Repeated r)) x s ≡ behind (suc n) (item (OfRule r)) x (Repeated r ∷ s)
unfolding Open
repeated_at n h r x s = h (item (OfRule r)) x (Repeated r ∷ s)

all_at : (n : ℕ) → Open n → (i : Item) (rest : List Item) (x : Class) (s : List Item) → behind (suc n) (all_of (i ∷ rest)) x s ≡ behind (suc n) (item i) x (rest ++ s)
unfolding Open
all_at n h i rest x s = h (item i) x (rest ++ s)

one_of_at : (n : ℕ) → Open n → (choices : List Item) (x : Class) (s : List Item) → behind (suc n) (one_of choices) x s ≡ behind (suc n) (item (first_begun choices x)) x s
unfolding Open
one_of_at n h choices x s = h (item (first_begun choices x)) x s

-- parts open as the table says
pub enough_depth : (p : Part) (x : Class) → enough depth p x ≡ true
unfolding depth
enough_depth p x = more 59 p x (enough_59 p x)

pub behind_one : (a : Terminal) (x : Class) (s : List Item) → behind depth (item (One a)) x s ≡ s
unfolding depth
behind_one a x s = refl

pub behind_rule : (r : Rule) (x : Class) (s : List Item) → behind depth (item (OfRule r)) x s ≡ behind depth (body r) x s
unfolding depth
behind_rule r x s = rule_at 59 open_59 r x s

pub behind_optional : (r : Rule) (x : Class) (s : List Item) → behind depth (item (Optional r)) x s ≡ behind depth (item (OfRule r)) x s
unfolding depth
behind_optional r x s = optional_at 59 open_59 r x s

pub behind_repeated : (r : Rule) (x : Class) (s : List Item) → behind depth (item (Repeated r)) x s ≡ behind depth (item (OfRule r)) x (Repeated r ∷ s)
unfolding depth
behind_repeated r x s = repeated_at 59 open_59 r x s

pub behind_all : (i : Item) (rest : List Item) (x : Class) (s : List Item) → behind depth (all_of (i ∷ rest)) x s ≡ behind depth (item i) x (rest ++ s)
unfolding depth
behind_all i rest x s = all_at 59 open_59 i rest x s

pub behind_one_of : (choices : List Item) (x : Class) (s : List Item) → behind depth (one_of choices) x s ≡ behind depth (item (first_begun choices x)) x s
unfolding depth
behind_one_of choices x s = one_of_at 59 open_59 choices x s
