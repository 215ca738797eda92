-- What is pending stays fit: what may come behind an item that can be empty can't begin it.
use Rattle.std.proofs.Common.{ℕ, zero, suc, Bool, true, false, not, ◌&&◌, ◌||◌, ◌≡◌, refl, List, [], ◌∷◌, ◌++◌, ap, sym, ◌∙◌}
use Rattle.std.proofs.lemmas.Bool.{and_parts, and_from, cond-true, cond-false, not-true, false≢true}
use Rattle.weld_grammar.specs.declared.terminals.class.Class.{Class}
use Rattle.weld_grammar.specs.declared.rule.Rule.{Rule}
use Rattle.weld_grammar.specs.declared.item.Item.{Item}
use Rattle.weld_grammar.specs.declared.item.Item.TheVariants.{One, Part as OfRule, Optional, Repeated}
use Rattle.weld_grammar.specs.Grammar.{Part, item, all_of, one_of, body}
use Rattle.weld_grammar.specs.Begins.{begins, nullable, starts}
use Rattle.weld_grammar.specs.Pending.{first_begun, behind}
use Rattle.weld_grammar.proofs.Table.{implies, firsts, fits, fit, each_fits, part_fits, follow}
use Rattle.weld_grammar.proofs.Opening.{fits_rule}

pub firsts-append : (y : Class) (r s : List Item) (f : Bool) → firsts y (r ++ s) f ≡ firsts y r (firsts y s f)
firsts-append y [] s f = refl
firsts-append y (i ∷ r) s f = ap (λ b. begins i y || (nullable i && b)) (firsts-append y r s f)

pub fit-append : (y : Class) (r s : List Item) (f : Bool) → fit y r (firsts y s f) ≡ true → fit y s f ≡ true → fit y (r ++ s) f ≡ true
fit-append y [] s f h k = k
fit-append y (i ∷ r) s f h k =
    let both = and_parts (fits y i (firsts y r (firsts y s f))) (fit y r (firsts y s f)) h in
    and_from (fits y i (firsts y (r ++ s) f)) (fit y (r ++ s) f) (ap (fits y i) (firsts-append y r s f) ∙ both.0) (fit-append y r s f both.1 k)

repeated-mono : (a g c : Bool) → implies (a || g) c ≡ true → implies (a || false) c ≡ true
repeated-mono true g c h = h
repeated-mono false g c h = refl

pub fits-mono : (y : Class) (i : Item) (f g : Bool) → implies f g ≡ true → fits y i g ≡ true → fits y i f ≡ true
fits-mono y i true g h k = ap (fits y i) (sym h) ∙ k
fits-mono y (One a) false g h k = refl
fits-mono y (OfRule r) false g h k = refl
fits-mono y (Optional r) false g h k = refl
fits-mono y (Repeated r) false g h k = repeated-mono (starts r y) g (follow r y) (and_parts (implies g (not (starts r y))) (implies (starts r y || g) (follow r y)) k).1

implies-or : (a b f g : Bool) → implies f g ≡ true → implies (a || (b && f)) (a || (b && g)) ≡ true
implies-or true b f g h = refl
implies-or false true f g h = h
implies-or false false f g h = refl

firsts-mono : (y : Class) (s : List Item) (f g : Bool) → implies f g ≡ true → implies (firsts y s f) (firsts y s g) ≡ true
firsts-mono y [] f g h = h
firsts-mono y (i ∷ s) f g h = implies-or (begins i y) (nullable i) (firsts y s f) (firsts y s g) (firsts-mono y s f g h)

fit-mono : (y : Class) (s : List Item) (f g : Bool) → implies f g ≡ true → fit y s g ≡ true → fit y s f ≡ true
fit-mono y [] f g h k = refl
fit-mono y (i ∷ s) f g h k =
    let both = and_parts (fits y i (firsts y s g)) (fit y s g) k in
    and_from (fits y i (firsts y s f)) (fit y s f) (fits-mono y i (firsts y s f) (firsts y s g) (firsts-mono y s f g h) both.0) (fit-mono y s f g h both.1)

each-mono : (y : Class) (s : List Item) (f g : Bool) → implies f g ≡ true → each_fits y s g ≡ true → each_fits y s f ≡ true
each-mono y [] f g h k = refl
each-mono y (i ∷ s) f g h k =
    let both = and_parts (fits y i g) (each_fits y s g) k in
    and_from (fits y i f) (each_fits y s f) (fits-mono y i f g h both.0) (each-mono y s f g h both.1)

part-mono : (y : Class) (p : Part) (f g : Bool) → implies f g ≡ true → part_fits y p g ≡ true → part_fits y p f ≡ true
part-mono y (item i) f g h k = fits-mono y i f g h k
part-mono y (all_of s) f g h k = fit-mono y s f g h k
part-mono y (one_of s) f g h k = each-mono y s f g h k

-- where a rule fits, so does what it opens to
pub body_fits : (y : Class) (r : Rule) (f : Bool) → fits y (OfRule r) f ≡ true → part_fits y (body r) f ≡ true
body_fits y r f h = part-mono y (body r) f (follow r y) h (fits_rule r y)

chosen_fits : (y x : Class) (choices : List Item) (f : Bool) → each_fits y choices f ≡ true → fits y (first_begun choices x) f ≡ true
chosen_fits y x [] f h = refl
chosen_fits y x (i ∷ r) f h =
    let both = and_parts (fits y i f) (each_fits y r f) h in cases (begins i x) refl both.0 (chosen_fits y x r f both.1)
  where
    cases : (b : Bool) → begins i x ≡ b → fits y i f ≡ true → fits y (first_begun r x) f ≡ true → fits y (first_begun (i ∷ r) x) f ≡ true
    cases true e h k = ap (λ j. fits y j f) (cond-true (begins i x) i (first_begun r x) e) ∙ h
    cases false e h k = ap (λ j. fits y j f) (cond-false (begins i x) i (first_begun r x) e) ∙ k

pub kept : (n : ℕ) (p : Part) (x y : Class) (s : List Item) → part_fits y p (firsts y s false) ≡ true → fit y s false ≡ true → fit y (behind n p x s) false ≡ true
kept zero p x y s h k = k
kept (suc n) (item (One a)) x y s h k = k
kept (suc n) (item (OfRule r)) x y s h k = kept n (body r) x y s (body_fits y r (firsts y s false) h) k
kept (suc n) (item (Optional r)) x y s h k = kept n (item (OfRule r)) x y s (and_parts (implies (firsts y s false) (not (starts r y))) (implies (firsts y s false) (follow r y)) h).1 k
kept (suc n) (item (Repeated r)) x y s h k =
    kept n (item (OfRule r)) x y (Repeated r ∷ s) (and_parts (implies (firsts y s false) (not (starts r y))) (implies (starts r y || firsts y s false) (follow r y)) h).1 (and_from (fits y (Repeated r) (firsts y s false)) (fit y s false) h k)
kept (suc n) (all_of []) x y s h k = k
kept (suc n) (all_of (i ∷ r)) x y s h k =
    let both = and_parts (fits y i (firsts y r (firsts y s false))) (fit y r (firsts y s false)) h in
    kept n (item i) x y (r ++ s) (ap (fits y i) (firsts-append y r s false) ∙ both.0) (fit-append y r s false both.1 k)
kept (suc n) (one_of choices) x y s h k = kept n (item (first_begun choices x)) x y s (chosen_fits y x choices (firsts y s false) h) k

-- what may come behind an item that can be empty doesn't begin it
pub fit_apart : (x : Class) (i : Item) → nullable i ≡ true → fits x i true ≡ true → begins i x ≡ false
fit_apart x (One a) e h = absurd (false≢true e)
fit_apart x (OfRule r) e h = absurd (false≢true e)
fit_apart x (Optional r) e h = not-true (starts r x) (and_parts (not (starts r x)) (follow r x) h).0
fit_apart x (Repeated r) e h = not-true (starts r x) (and_parts (not (starts r x)) (implies (starts r x || true) (follow r x)) h).0
