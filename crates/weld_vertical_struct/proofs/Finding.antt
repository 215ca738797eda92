-- What is bound of a pair, and what the rule answers then.
use Rattle.std.specs.Prelude.{is_some}
use Rattle.std.proofs.Common.{◌≡◌, ℕ, ◌==◌, if◌then◌else◌, Bool, true, false, Option, Some, None, refl, ap, ◌∙◌}
use Rattle.weld_tree.specs.ExprTree.{ExprTree, leaf, one, two, three, many, let_in, loop, iterate}
use Rattle.weld_rewriting.specs.Sweep.{or_same, settled}
use Rattle.weld_substitution.specs.Uses.{uses}
use Rattle.weld_inline.specs.Inlining.{lets_rule}
use Rattle.weld_vertical_struct.specs.Held.{builder_of, row_of, opened_loop, opened_producer, opened_in_body, opened_in_legs}
use Rattle.weld_vertical_struct.specs.Parting.{part_bound, bound_at, answer_at, pairs_rule, part_bound_at, either_bound_at}

-- ---- which part is bound

pub first_bound : (d z : ℕ) (e f x : ExprTree) → (uses e d == 0) ≡ false → either_bound_at d z e f x ≡ part_bound_at z 0 e f x
first_bound d z e f (leaf a l) h = refl
first_bound d z e f (one a o g) h = refl
first_bound d z e f (two a o g k) h = refl
first_bound d z e f (three a o c g k) h = refl
first_bound d z e f (many a o es) h = refl
first_bound d z e f (let_in a b v g) h = ap (λ (c : Bool). if c then (if uses f d == 0 then None else part_bound z a b 1 f e g) else part_bound z a b 0 e f g) h
first_bound d z e f (loop a ls k b n y g) h = refl
first_bound d z e f (iterate a k b g) h = refl

pub second_bound : (d z : ℕ) (e f x : ExprTree) → (uses e d == 0) ≡ true → (uses f d == 0) ≡ false → either_bound_at d z e f x ≡ part_bound_at z 1 f e x
second_bound d z e f (leaf a l) h k = refl
second_bound d z e f (one a o g) h k = refl
second_bound d z e f (two a o g i) h k = refl
second_bound d z e f (three a o c g i) h k = refl
second_bound d z e f (many a o es) h k = refl
second_bound d z e f (let_in a b v g) h k =
    ap (λ (c : Bool). if c then (if uses f d == 0 then None else part_bound z a b 1 f e g) else part_bound z a b 0 e f g) h
    ∙ ap (λ (c : Bool). if c then None else part_bound z a b 1 f e g) k
second_bound d z e f (loop a ls i b n y g) h k = refl
second_bound d z e f (iterate a i b g) h k = refl

pub neither_bound : (d z : ℕ) (e f x : ExprTree) → (uses e d == 0) ≡ true → (uses f d == 0) ≡ true → either_bound_at d z e f x ≡ None
neither_bound d z e f (leaf a l) h k = refl
neither_bound d z e f (one a o g) h k = refl
neither_bound d z e f (two a o g i) h k = refl
neither_bound d z e f (three a o c g i) h k = refl
neither_bound d z e f (many a o es) h k = refl
neither_bound d z e f (let_in a b v g) h k =
    ap (λ (c : Bool). if c then (if uses f d == 0 then None else part_bound z a b 1 f e g) else part_bound z a b 0 e f g) h
    ∙ ap (λ (c : Bool). if c then None else part_bound z a b 1 f e g) k
neither_bound d z e f (loop a ls i b n y g) h k = refl
neither_bound d z e f (iterate a i b g) h k = refl

-- ---- what the rule answers

pub nothing_bound : (d z : ℕ) (e : ExprTree) → bound_at d z e ≡ None → settled (pairs_rule d z) e ≡ e
nothing_bound d z e h = ap (λ o. or_same (answer_at lets_rule o) e) h

pub bound_left : (d z : ℕ) (e y : ExprTree) → bound_at d z e ≡ Some y → is_some (lets_rule y) ≡ false → settled (pairs_rule d z) e ≡ e
bound_left d z e y h k = ap (λ o. or_same (answer_at lets_rule o) e) h ∙ by (lets_rule y) k
  where
    by : (o : Option ExprTree) → is_some o ≡ false → or_same o e ≡ e
    by (Some d) k = let nothing : ⊥ = cc in absurd nothing
    by None k = refl

pub bound_put : (d z : ℕ) (e y : ExprTree) → bound_at d z e ≡ Some y → is_some (lets_rule y) ≡ true → settled (pairs_rule d z) e ≡ settled lets_rule y
bound_put d z e y h k = ap (λ o. or_same (answer_at lets_rule o) e) h ∙ by (lets_rule y) k
  where
    by : (o : Option ExprTree) → is_some o ≡ true → or_same o e ≡ or_same o y
    by (Some d) k = refl
    by None k = let nothing : ⊥ = cc in absurd nothing

-- ---- whose pairs they are

pub no_builder : (z : ℕ) (e : ExprTree) → builder_of e ≡ None → opened_loop z e ≡ e
no_builder z (leaf a l) h = refl
no_builder z (one a o e) h = refl
no_builder z (two a o e f) h = refl
no_builder z (three a o c e f) h = refl
no_builder z (many a o es) h = refl
no_builder z (let_in a b e f) h = refl
no_builder z (loop a ls e b n x f) h = let nothing : ⊥ = cc in absurd nothing
no_builder z (iterate a e b f) h = refl

pub own_builder : (d z : ℕ) (e : ExprTree) → builder_of e ≡ Some d → opened_loop z e ≡ opened_in_body d z e
own_builder d z (leaf a l) h = let nothing : ⊥ = cc in absurd nothing
own_builder d z (one a o e) h = let nothing : ⊥ = cc in absurd nothing
own_builder d z (two a o e f) h = let nothing : ⊥ = cc in absurd nothing
own_builder d z (three a o c e f) h = let nothing : ⊥ = cc in absurd nothing
own_builder d z (many a o es) h = let nothing : ⊥ = cc in absurd nothing
own_builder d z (let_in a b e f) h = let nothing : ⊥ = cc in absurd nothing
own_builder d z (loop a ls e b n x f) h = let same : b.sym.0 ≡ d = cc in ap (λ y. opened_in_body y z (loop a ls e b n x f)) same
own_builder d z (iterate a e b f) h = let nothing : ⊥ = cc in absurd nothing

pub no_row : (e : ExprTree) → row_of e ≡ None → opened_producer e ≡ e
no_row (leaf a l) h = refl
no_row (one a o e) h = refl
no_row (two a o e f) h = refl
no_row (three a o c e f) h = refl
no_row (many a o es) h = refl
no_row (let_in a b e f) h = refl
no_row (loop a ls e b n x f) h = let nothing : ⊥ = cc in absurd nothing
no_row (iterate a e b f) h = refl

pub own_row : (z : ℕ) (e : ExprTree) → row_of e ≡ Some z → opened_producer e ≡ opened_in_legs z e
own_row z (leaf a l) h = let nothing : ⊥ = cc in absurd nothing
own_row z (one a o e) h = let nothing : ⊥ = cc in absurd nothing
own_row z (two a o e f) h = let nothing : ⊥ = cc in absurd nothing
own_row z (three a o c e f) h = let nothing : ⊥ = cc in absurd nothing
own_row z (many a o es) h = let nothing : ⊥ = cc in absurd nothing
own_row z (let_in a b e f) h = let nothing : ⊥ = cc in absurd nothing
own_row z (loop a ls e b n x f) h = let same : x.sym.0 ≡ z = cc in ap (λ y. opened_in_legs y (loop a ls e b n x f)) same
own_row z (iterate a e b f) h = let nothing : ⊥ = cc in absurd nothing
