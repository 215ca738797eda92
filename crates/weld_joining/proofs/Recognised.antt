-- Which lets the test recognises: what holds of the pattern holds of them.
use Rattle.std.proofs.Common.{◌≡◌, ℕ, ◌==◌, if◌then◌else◌, Bool, true, false, ◌&&◌, Option, Some, None, is_some, refl, sym, ap, subst, ◌∙◌, eqb-true}
use Rattle.weld_tree.specs.declared.binder.Binder.{Binder}
use Rattle.weld_tree.specs.declared.known.Known.{Known}
use Rattle.weld_tree.specs.declared.known.Known.TheVariants.{Is, Blank}
use Rattle.weld_tree.specs.TypeTree.{TypeTree, scalar, vec, struct, dict, build}
use Rattle.weld_tree.specs.ExprTree.{At, ExprTree, leaf, one, two, three, many, let_in, loop, iterate, whole, strided, LegTrees, no_legs, more_legs, Leaf, int, truth, chars, name, fresh, neg, not, cast, len, field, finish, started}
use Rattle.weld_substitution.specs.Redex.{noted}
use Rattle.weld_substitution.specs.Uses.{uses}
use Rattle.weld_substitution.proofs.Following.{and_true}
use Rattle.weld_joining.specs.Beside.{finish_at, Half, half_value, two_lets}
use Rattle.weld_joining.specs.Between.{is_named_result, left_over, taken_out, may_come_up}
use Rattle.weld_joining.specs.Joining.{name_in, name_of, only_name, is_known, loop_over, over, same_name, are_beside, is_followed, is_pair, known_type, as_neighbours}

none_found : (t : ℕ) {C : Type 0} → ◌≡◌ {A = Option ℕ} None (Some t) → C
none_found t h = let wrong : ⊥ = cc in absurd wrong

same_found : (s t : ℕ) → Some s ≡ Some t → t ≡ s
same_found s t h = cc

name_by : (k : Known) (t : ℕ) (P : Leaf → Type 0) → ((row : TypeTree) → k ≡ Is (vec row) → P (name t)) → (l : Leaf) → name_in k l ≡ Some t → P l
name_by Blank t P f l h = none_found t h
name_by (Is (scalar c)) t P f l h = none_found t h
name_by (Is (vec row)) t P f (int c x) h = none_found t h
name_by (Is (vec row)) t P f (truth b) h = none_found t h
name_by (Is (vec row)) t P f (chars bs) h = none_found t h
name_by (Is (vec row)) t P f (name s) h = subst (λ n. P (name n)) (same_found s t h) (f row refl)
name_by (Is (vec row)) t P f (fresh b) h = none_found t h
name_by (Is (struct ts)) t P f l h = none_found t h
name_by (Is (dict c v)) t P f l h = none_found t h
name_by (Is (build b)) t P f l h = none_found t h

leaf_by : (t : ℕ) (P : ExprTree → Type 0) → ((l : At) (row : TypeTree) → l.ty ≡ Is (vec row) → P (leaf l (name t))) → (e : ExprTree) → name_of e ≡ Some t → P e
leaf_by t P f (leaf l n) h = name_by l.ty t (λ n. P (leaf l n)) (f l) n h
leaf_by t P f (one a o e) h = none_found t h
leaf_by t P f (two a o e g) h = none_found t h
leaf_by t P f (three a o c e g) h = none_found t h
leaf_by t P f (many a o es) h = none_found t h
leaf_by t P f (let_in a b e g) h = none_found t h
leaf_by t P f (loop a ls e b n x g) h = none_found t h
leaf_by t P f (iterate a e b g) h = none_found t h

pub legs_by : (t : ℕ) (P : LegTrees → Type 0) → ((l : At) (row : TypeTree) → l.ty ≡ Is (vec row) → P (more_legs (whole (leaf l (name t))) no_legs)) → (ls : LegTrees) → only_name ls ≡ Some t → P ls
legs_by t P f no_legs h = none_found t h
legs_by t P f (more_legs (whole e) no_legs) h = leaf_by t (λ e. P (more_legs (whole e) no_legs)) f e h
legs_by t P f (more_legs (strided e g k m) no_legs) h = none_found t h
legs_by t P f (more_legs l (more_legs m ls)) h = none_found t h

-- where the type is noted it is the one that is read
pub known_by : (k : Known) → is_known k ≡ true → k ≡ Is (known_type k)
known_by (Is t) h = refl
known_by Blank h = let nothing : ⊥ = cc in absurd nothing

pub where_true : (b : Bool) (o : Option ℕ) (t : ℕ) → (if b then o else None) ≡ Some t → (b ≡ true) × (o ≡ Some t)
where_true true o t h = (refl, h)
where_true false o t h = none_found t h

-- a loop over the name, the type of that from which it starts being noted
abbrev pub AtLoop : ℕ → (ExprTree → Type 0) → Type 0
AtLoop t P =
    (q l : At) (row : TypeTree) (d : ExprTree) (c i r : Binder) (f : ExprTree) → l.ty ≡ Is (vec row) → noted d ≡ Is (known_type (noted d))
    → P (loop q (more_legs (whole (leaf l (name t))) no_legs) d c i r f)

loop_by : (t : ℕ) (P : ExprTree → Type 0) → AtLoop t P → (e : ExprTree) → loop_over e ≡ Some t → P e
loop_by t P f (leaf a l) h = none_found t h
loop_by t P f (one a o e) h = none_found t h
loop_by t P f (two a o e g) h = none_found t h
loop_by t P f (three a o c e g) h = none_found t h
loop_by t P f (many a o es) h = none_found t h
loop_by t P f (let_in a b e g) h = none_found t h
loop_by t P f (loop q ls e c i r g) h =
    let x = where_true (is_known (noted e)) (only_name ls) t h in
    legs_by t (λ ls. P (loop q ls e c i r g)) (λ l row known. f q l row e c i r g known (known_by (noted e) x.0)) ls x.1
loop_by t P f (iterate a e b g) h = none_found t h

-- such a loop, or its result
abbrev pub AtHalf : ℕ → (ExprTree → Type 0) → Type 0
AtHalf t P = (p : Option At) → AtLoop t (λ e. P (finish_at p e))

pub half_by : (t : ℕ) (P : ExprTree → Type 0) → AtHalf t P → (e : ExprTree) → over e ≡ Some t → P e
half_by t P f (leaf a l) h = none_found t h
half_by t P f (one p neg e) h = none_found t h
half_by t P f (one p not e) h = none_found t h
half_by t P f (one p (cast k) e) h = none_found t h
half_by t P f (one p len e) h = none_found t h
half_by t P f (one p (field n) e) h = none_found t h
half_by t P f (one p finish e) h = loop_by t (λ e. P (one p finish e)) (f (Some p)) e h
half_by t P f (one p (started b) e) h = none_found t h
half_by t P f (two a o e g) h = none_found t h
half_by t P f (three a o c e g) h = none_found t h
half_by t P f (many a o es) h = none_found t h
half_by t P f (let_in a b e g) h = none_found t h
half_by t P f (loop a ls e b n x g) h = loop_by t P (f None) (loop a ls e b n x g) h
half_by t P f (iterate a e b g) h = none_found t h

pub record BothOver (v w : ExprTree) : Type 0 where
  pub name : ℕ
  pub first : over v ≡ Some name
  pub second : over w ≡ Some name

same_both : (o p : Option ℕ) → same_name o p ≡ true → (t : ℕ) × (o ≡ Some t) × (p ≡ Some t)
same_both (Some s) (Some t) h = (s, refl, subst (λ n. Some t ≡ Some n) (sym (eqb-true s t h)) refl)
same_both (Some s) None h = let nothing : ⊥ = cc in absurd nothing
same_both None p h = let nothing : ⊥ = cc in absurd nothing

pub both_over : (v w : ExprTree) → same_name (over v) (over w) ≡ true → BothOver v w
both_over v w h = let s = same_both (over v) (over w) h in record { name = s.0; first = s.1; second = s.2 }

-- two neighbouring lets of such values
abbrev pub AtPair : (ExprTree → Type 0) → Type 0
AtPair P =
    (a m : At) (s : ℕ) (row : TypeTree) (h k : Half) (rest : ExprTree) → h.leg_at.ty ≡ Is (vec row) → noted h.start ≡ Is h.starts → noted k.start ≡ Is k.starts → uses (half_value s k) h.bound.sym.0 ≡ 0
    → P (two_lets a m s h k rest)

beside_by : (P : ExprTree → Type 0) → AtPair P → (a m : At) (x y : Binder) (v w rest : ExprTree) → are_beside x v w ≡ true → P (let_in a x v (let_in m y w rest))
beside_by P f a m x y v w rest h =
    let b = and_true (same_name (over v) (over w)) (uses w x.sym.0 == 0) h in
    let both = both_over v w b.0 in
    let s = both.name in
    half_by s (λ w. uses w x.sym.0 ≡ 0 → P (let_in a x v (let_in m y w rest)))
    (λ u n j other e g z k body known begun none. half_by s
    (λ v. P (let_in a x v (let_in m y (finish_at u (loop n (more_legs (whole (leaf j (name s))) no_legs) e g z k body)) rest)))
    (λ p q l row c i r t inside kept start. f a m s row
    (record { bound = x; result_at = p; loop_at = q; leg_at = l; start = c; starts = known_type (noted c); builder = i; number = r; row = t; body = inside })
    (record { bound = y; result_at = u; loop_at = n; leg_at = j; start = e; starts = known_type (noted e); builder = g; number = z; row = k; body = body }) rest kept start begun none)
    v both.first) w both.second (eqb-true (uses w x.sym.0) 0 b.1)

-- ---- lets between

-- the second `let`, whatever its body
pub record Second (x : Binder) (v f : ExprTree) : Type 0 where
  pub at : At
  pub binder : Binder
  pub bound : ExprTree
  pub out : (d : ExprTree) → taken_out f d ≡ let_in at binder bound d
  pub beside : are_beside x v bound ≡ true

pub second_of : (x : Binder) (v f : ExprTree) → is_followed x v f ≡ true → Second x v f
second_of x v (leaf p l) h = let nothing : ⊥ = cc in absurd nothing
second_of x v (one p o e) h = let nothing : ⊥ = cc in absurd nothing
second_of x v (two p o e f) h = let nothing : ⊥ = cc in absurd nothing
second_of x v (three p o c e f) h = let nothing : ⊥ = cc in absurd nothing
second_of x v (many p o es) h = let nothing : ⊥ = cc in absurd nothing
second_of x v (let_in m y w f) h = by (is_named_result w) refl (second_of x v f) h
  where
    by : (b : Bool) → is_named_result w ≡ b → (is_followed x v f ≡ true → Second x v f) → (if b then is_followed x v f else are_beside x v w) ≡ true → Second x v (let_in m y w f)
    by true e k h =
        let s = k h in
        record { at = s.at; binder = s.binder; bound = s.bound; out = λ d. ap (λ b. if b then taken_out f d else let_in m y w d) e ∙ s.out d; beside = s.beside }
    by false e k h = record { at = m; binder = y; bound = w; out = λ d. ap (λ b. if b then taken_out f d else let_in m y w d) e; beside = h }
second_of x v (loop p ls e b n z f) h = let nothing : ⊥ = cc in absurd nothing
second_of x v (iterate p e b f) h = let nothing : ⊥ = cc in absurd nothing

-- the second one follows, and may come up
pub follows : (x : Binder) (v f : ExprTree) → (is_some (over v) && (is_followed x v f && may_come_up f)) ≡ true → (is_followed x v f ≡ true) × (may_come_up f ≡ true)
follows x v f h = and_true (is_followed x v f) (may_come_up f) (and_true (is_some (over v)) (is_followed x v f && may_come_up f) h).1

-- what holds of the pattern holds of both lets as neighbours
pub pair_by : (P : ExprTree → Type 0) → AtPair P → (e : ExprTree) → is_pair e ≡ true → P (as_neighbours e)
pair_by P g (leaf p l) h = let nothing : ⊥ = cc in absurd nothing
pair_by P g (one p o e) h = let nothing : ⊥ = cc in absurd nothing
pair_by P g (two p o e f) h = let nothing : ⊥ = cc in absurd nothing
pair_by P g (three p o c e f) h = let nothing : ⊥ = cc in absurd nothing
pair_by P g (many p o es) h = let nothing : ⊥ = cc in absurd nothing
pair_by P g (let_in a x v f) h =
    let s = second_of x v f (follows x v f h).0 in
    subst (λ d. P (let_in a x v d)) (sym (s.out (left_over f))) (beside_by P g a s.at x s.binder v s.bound (left_over f) s.beside)
pair_by P g (loop p ls e b n z f) h = let nothing : ⊥ = cc in absurd nothing
pair_by P g (iterate p e b f) h = let nothing : ⊥ = cc in absurd nothing
