-- Code that means an expression.
use Rattle.std.proofs.Common.{◌≡◌, ℕ, zero, suc, ◌+◌, ◌/◌, ◌<◌, ◌==◌, Bool, true, false, if◌then◌else◌, ℤ, [], ◌∷◌, Some, None, refl, ap, sym, ◌∙◌, arith}
use Rattle.weld_data.specs.declared.kind.Kind.{Kind}
use Rattle.weld_data.specs.declared.op.BinOp.{BinOp}
use Rattle.weld_data.specs.Value.{Value, Values, number}
use Rattle.weld_builders.specs.Outcome.{Outcome, done, fault, stuck, and_then, map_out}
use Rattle.weld_tree.specs.ExprTree.{ExprTree, leaf, one, two, three, many, let_in, loop, iterate, Leaf, int, truth as truth_leaf, name, neg, not as not_of, cast, field, binary, and as and_form, or as or_form, if_else, select}
use Rattle.weld_meaning.specs.Environment.{look_for}
use Rattle.weld_meaning.specs.Evaluation.{Env, eval, found, leaf_thing, one_thing, two_thing, three_thing, on_value, on_values, on_three, value_out, operated, negated, contrary, cast_to, truth_of, truth_value, selected, chosen}
use Rattle.weld_meaning.specs.Thing.{Thing, plain, value_at}
use Rattle.weld_turns.specs.CodeView.{Slots, field_values, shape_value, value, either_of}
use Rattle.weld_eval.specs.ShortView.{view_short}
use Rattle.weld_eval.specs.declared.short.Short.{Short}
use Rattle.weld_turns.specs.Outside.{IsFieldIn}
use Rattle.weld_turns.specs.Scopes.{with_scope, first_of, put_fields, rest_of, site_value, takes, whole_of, IsFieldSlot, IsNameOf, IsSpreadSlot, IsStructSlot, IsTruth, Means, Sites}
use Rattle.weld_turns.specs.declared.code.Code.{Code}
use Rattle.weld_turns.specs.declared.code.Code as code
use Rattle.weld_turns.specs.declared.code.Shape.{Shape}
use Rattle.weld_turns.specs.declared.code.Shape.TheVariants.{One as OneSlot}
use Rattle.weld_turns.specs.declared.code.Place.{Place}
use Rattle.weld_turns.specs.declared.code.Site.{Site}
use Rattle.weld_turns.specs.declared.code.Site.TheVariants as sites
use Rattle.weld_turns.specs.declared.code.Spread.{Spread}

-- ---- what is done with values, on things that are values

pub out_in : (o : Outcome Value) → value_out (map_out plain o) ≡ o
out_in (done v) = refl
out_in fault = refl
out_in stuck = refl

pub on_one : (g : Value → Outcome Value) (o : Outcome Value) → and_then (map_out plain o) (on_value g) ≡ map_out plain (and_then o g)
on_one g (done v) = refl
on_one g fault = refl
on_one g stuck = refl

pub on_two : (g : Value → Value → Outcome Value) (o p : Outcome Value) → and_then (map_out plain o) (λ t. on_values g t (map_out plain p)) ≡ map_out plain (and_then o (λ v. and_then p (g v)))
on_two g (done v) p = ap (λ (q : Outcome Value). map_out plain (and_then q (g v))) (out_in p)
on_two g fault p = refl
on_two g stuck p = refl

pub on_all : (g : Value → Value → Value → Outcome Value) (o p q : Outcome Value) → and_then (map_out plain o) (λ t. on_three g t (map_out plain p) (map_out plain q)) ≡ map_out plain (and_then o (λ u. and_then p (λ v. and_then q (g u v))))
on_all g (done u) p q =
    ap (λ (r : Outcome Value). map_out plain (and_then r (λ v. and_then (value_out (map_out plain q)) (g u v)))) (out_in p)
    ∙ ap (λ (r : Outcome Value). map_out plain (and_then p (λ v. and_then r (g u v)))) (out_in q)
on_all g fault p q = refl
on_all g stuck p q = refl

-- ---- choices

choose_by : (t : Outcome Bool) (p q : Outcome Value) → and_then t (λ (b : Bool). if b then map_out plain p else map_out plain q) ≡ map_out plain (and_then t (λ (b : Bool). if b then p else q))
choose_by (done true) p q = refl
choose_by (done false) p q = refl
choose_by fault p q = refl
choose_by stuck p q = refl

pub if_chooses : (o p q : Outcome Value) → and_then (map_out plain o) (λ t. chosen t (map_out plain p) (map_out plain q)) ≡ map_out plain (and_then o (λ u. either_of u p q))
if_chooses (done u) p q = choose_by (truth_of u) p q
if_chooses fault p q = refl
if_chooses stuck p q = refl

pub both_chooses : (o p : Outcome Value) → and_then (map_out plain o) (λ t. two_thing and_form t (map_out plain p)) ≡ map_out plain (and_then o (λ u. either_of u p (done (truth_value false))))
both_chooses (done u) p = ap (λ (q : Outcome Value). map_out plain (and_then (truth_of u) (λ (b : Bool). if b then q else done (truth_value false)))) (out_in p)
both_chooses fault p = refl
both_chooses stuck p = refl

pub either_chooses : (o p : Outcome Value) → and_then (map_out plain o) (λ t. two_thing or_form t (map_out plain p)) ≡ map_out plain (and_then o (λ u. either_of u (done (truth_value true)) p))
either_chooses (done u) p = ap (λ (q : Outcome Value). map_out plain (and_then (truth_of u) (λ (b : Bool). if b then done (truth_value true) else q))) (out_in p)
either_chooses fault p = refl
either_chooses stuck p = refl

-- ---- names

hit : (ns : Sites) (f : Slots) (env : Env) (s : ℕ) (p q : Site) (t : Bool) → (look_for s ns ≡ Some p → look_for s (with_scope ns f env) ≡ Some (plain (site_value p f)))
    → (if t then Some q else look_for s ns) ≡ Some p → (if t then Some (plain (site_value q f)) else look_for s (with_scope ns f env)) ≡ Some (plain (site_value p f))
hit ns f env s p q true rest h = let e : q ≡ p = cc in ap (λ (r : Site). Some (plain (site_value r f))) e
hit ns f env s p q false rest h = rest h

in_scope : (ns : Sites) (f : Slots) (env : Env) (s : ℕ) (p : Site) → look_for s ns ≡ Some p → look_for s (with_scope ns f env) ≡ Some (plain (site_value p f))
in_scope [] f env s p h = let none : ⊥ = cc in absurd none
in_scope (n ∷ ns) f env s p h = hit ns f env s p n.1 (s == n.0) (in_scope ns f env s p) h

miss : (ns : Sites) (f : Slots) (env : Env) (s : ℕ) (q : Site) (t : Bool) → (look_for s ns ≡ None → look_for s (with_scope ns f env) ≡ look_for s env)
    → (if t then Some q else look_for s ns) ≡ None → (if t then Some (plain (site_value q f)) else look_for s (with_scope ns f env)) ≡ look_for s env
miss ns f env s q true rest h = let none : ⊥ = cc in absurd none
miss ns f env s q false rest h = rest h

past_scope : (ns : Sites) (f : Slots) (env : Env) (s : ℕ) → look_for s ns ≡ None → look_for s (with_scope ns f env) ≡ look_for s env
past_scope [] f env s h = refl
past_scope (n ∷ ns) f env s h = miss ns f env s n.1 (s == n.0) (past_scope ns f env s) h

pub slot_means : (ns : Sites) (env : Env) (s : ℕ) (p : Place) → look_for s ns ≡ Some (sites.Whole p) → p.shape ≡ OneSlot → Means (code.Slot p.first) ns env (leaf_thing (name s))
slot_means ns env s p h e f = ap found (in_scope ns f env s (sites.Whole p) h) ∙ ap (λ (k : Shape). done (plain (shape_value k p.first f))) e

pub outer_means : (ns : Sites) (env : Env) (s : ℕ) (n : Short) → look_for s ns ≡ None → look_for s env ≡ Some (plain (view_short n)) → Means (code.Literal n) ns env (leaf_thing (name s))
outer_means ns env s n h e f = ap found (past_scope ns f env s h ∙ e)

pub literal_means : (ns : Sites) (env : Env) (k : Kind) (x : ℤ) (n : Short) → view_short n ≡ number k x → Means (code.Literal n) ns env (leaf_thing (int k x))
literal_means ns env k x n h f = ap (λ (v : Value). done (plain v)) (sym h)

pub truth_means : (ns : Sites) (env : Env) (b : Bool) (n : Short) → view_short n ≡ truth_value b → Means (code.Literal n) ns env (leaf_thing (truth_leaf b))
truth_means ns env b n h f = ap (λ (v : Value). done (plain v)) (sym h)

-- ---- fields

pub named_comes : (e : ExprTree) (s : ℕ) (ns : Sites) (f : Slots) (env : Env) (p : Site) → IsNameOf e s → look_for s ns ≡ Some p → eval e (with_scope ns f env) ≡ done (plain (site_value p f))
named_comes (leaf a l) s ns f env p is h = ap (λ (m : Leaf). leaf_thing m (with_scope ns f env)) is ∙ ap found (in_scope ns f env s p h)
named_comes (one a o e) s ns f env p is h = absurd is
named_comes (two a o e g) s ns f env p is h = absurd is
named_comes (three a o c e g) s ns f env p is h = absurd is
named_comes (many a o es) s ns f env p is h = absurd is
named_comes (let_in a x e g) s ns f env p is h = absurd is
named_comes (loop a ls e x n r g) s ns f env p is h = absurd is
named_comes (iterate a e x g) s ns f env p is h = absurd is

pub outside_comes : (e : ExprTree) (s : ℕ) (ns : Sites) (f : Slots) (env : Env) (t : Thing) → IsNameOf e s → look_for s ns ≡ None → look_for s env ≡ Some t → eval e (with_scope ns f env) ≡ done t
outside_comes (leaf a l) s ns f env t is h q = ap (λ (m : Leaf). leaf_thing m (with_scope ns f env)) is ∙ ap found (past_scope ns f env s h ∙ q)
outside_comes (one a o e) s ns f env t is h q = absurd is
outside_comes (two a o e g) s ns f env t is h q = absurd is
outside_comes (three a o c e g) s ns f env t is h q = absurd is
outside_comes (many a o es) s ns f env t is h q = absurd is
outside_comes (let_in a x e g) s ns f env t is h q = absurd is
outside_comes (loop a ls e x n r g) s ns f env t is h q = absurd is
outside_comes (iterate a e x g) s ns f env t is h q = absurd is

pub field_means : (ns : Sites) (env : Env) (e : ExprTree) (s n : ℕ) (p : Place) (c : Code) → IsNameOf e s → look_for s ns ≡ Some (sites.Whole p) → IsFieldSlot c n p → Means c ns env (λ inner. and_then (eval e inner) (one_thing (field n)))
field_means ns env e s n p c is h k f = ap (λ (o : Outcome Thing). and_then o (one_thing (field n))) (named_comes e s ns f env (sites.Whole p) is h) ∙ ap (map_out plain) (k f)

pub spread_means : (ns : Sites) (env : Env) (e : ExprTree) (s n : ℕ) (p : Spread) (c : Code) → IsNameOf e s → look_for s ns ≡ Some (sites.Spread p) → IsSpreadSlot c n p → Means c ns env (λ inner. and_then (eval e inner) (one_thing (field n)))
spread_means ns env e s n p c is h k f = ap (λ (o : Outcome Thing). and_then o (one_thing (field n))) (named_comes e s ns f env (sites.Spread p) is h) ∙ ap (map_out plain) (k f)

-- a field whose bit is set is the one of its slot
field_put : (n k bits first : ℕ) (f : Slots) (vs : Values) → k < n → takes bits k ≡ true → value_at k (put_fields n bits first f vs) ≡ done (f (first + k))
field_put zero k bits first f vs less is = absurd (omega (arith, less))
field_put (suc n) zero bits first f vs less is = ap (λ (b : Bool). done (if b then f first else first_of vs)) is ∙ ap (λ (i : ℕ). done (f i)) (omega arith)
field_put (suc n) (suc k) bits first f vs less is = field_put n k (bits / 2) (suc first) f (rest_of vs) (omega (arith, less)) is ∙ ap (λ (i : ℕ). done (f i)) (omega arith)

-- the field of a struct whose fields stand in slots is the one of its slot
field_there : (n k first : ℕ) (f : Slots) → k < n → value_at k (field_values n first f) ≡ done (f (first + k))
field_there zero k first f less = absurd (omega (arith, less))
field_there (suc n) zero first f less = ap (λ (i : ℕ). done (f i)) (omega arith)
field_there (suc n) (suc k) first f less = field_there n k (suc first) f (omega (arith, less)) ∙ ap (λ (i : ℕ). done (f i)) (omega arith)

pub field_slot : (c : Code) (n count first at : ℕ) → c ≡ code.Slot at → at ≡ first + n → n < count → IsStructSlot c n count first
field_slot c n count first at is there less f = field_there count n first f less ∙ ap (λ (i : ℕ). done (f i)) (sym there) ∙ ap (λ (d : Code). value d f) (sym is)

pub spread_slot : (c : Code) (p : Spread) (n at : ℕ) → c ≡ code.Slot at → at ≡ p.first + n → n < p.fields → takes p.taken n ≡ true → IsSpreadSlot c n p
spread_slot c p n at is there less bit f =
    field_put p.fields n p.taken p.first f (whole_of f p.name.0) less bit
    ∙ ap (λ (i : ℕ). done (f i)) (sym there) ∙ ap (λ (d : Code). value d f) (sym is)

pub outer_field_means : (ns : Sites) (env : Env) (e : ExprTree) (s n : ℕ) (m : Short) → IsNameOf e s → look_for s ns ≡ None → IsFieldIn s env n (view_short m) → Means (code.Literal m) ns env (λ inner. and_then (eval e inner) (one_thing (field n)))
outer_field_means ns env e s n m is h k f = ap (λ (o : Outcome Thing). and_then o (one_thing (field n))) (outside_comes e s ns f env k.0 is h k.1) ∙ k.2

-- ---- forms of one part

pub opposite_means : (ns : Sites) (env : Env) (e : ExprTree) (c d : Code) → ((f : Slots) → value d f ≡ and_then (value c f) (λ v. negated v)) → Means c ns env (eval e) → Means d ns env (λ inner. and_then (eval e inner) (one_thing neg))
opposite_means ns env e c d is h f = ap (λ (o : Outcome Thing). and_then o (one_thing neg)) (h f) ∙ on_one negated (value c f) ∙ ap (map_out plain) (sym (is f))

pub contrary_means : (ns : Sites) (env : Env) (e : ExprTree) (c d : Code) → ((f : Slots) → value d f ≡ and_then (value c f) (λ v. contrary v)) → Means c ns env (eval e) → Means d ns env (λ inner. and_then (eval e inner) (one_thing not_of))
contrary_means ns env e c d is h f = ap (λ (o : Outcome Thing). and_then o (one_thing not_of)) (h f) ∙ on_one contrary (value c f) ∙ ap (map_out plain) (sym (is f))

pub cast_means : (ns : Sites) (env : Env) (e : ExprTree) (k : Kind) (c d : Code) → ((f : Slots) → value d f ≡ and_then (value c f) (λ v. cast_to k v)) → Means c ns env (eval e) → Means d ns env (λ inner. and_then (eval e inner) (one_thing (cast k)))
cast_means ns env e k c d is h f = ap (λ (o : Outcome Thing). and_then o (one_thing (cast k))) (h f) ∙ on_one (cast_to k) (value c f) ∙ ap (map_out plain) (sym (is f))

-- ---- forms of two parts

pub work_means : (ns : Sites) (env : Env) (e g : ExprTree) (op : BinOp) (c d r : Code) → ((f : Slots) → value r f ≡ and_then (value c f) (λ v. and_then (value d f) (λ w. operated op v w))) → Means c ns env (eval e) → Means d ns env (eval g)
    → Means r ns env (λ inner. and_then (eval e inner) (λ t. two_thing (binary op) t (eval g inner)))
work_means ns env e g op c d r is h k f =
    ap (λ (o : Outcome Thing). and_then o (λ t. two_thing (binary op) t (eval g (with_scope ns f env)))) (h f)
    ∙ ap (λ (o : Outcome Thing). and_then (map_out plain (value c f)) (λ t. two_thing (binary op) t o)) (k f)
    ∙ on_two (operated op) (value c f) (value d f) ∙ ap (map_out plain) (sym (is f))

pub both_means : (ns : Sites) (env : Env) (e g : ExprTree) (c d last r : Code) → ((f : Slots) → value r f ≡ and_then (value c f) (λ u. either_of u (value d f) (value last f))) → Means c ns env (eval e) → Means d ns env (eval g) → IsTruth last false
    → Means r ns env (λ inner. and_then (eval e inner) (λ t. two_thing and_form t (eval g inner)))
both_means ns env e g c d last r is h k j f =
    ap (λ (o : Outcome Thing). and_then o (λ t. two_thing and_form t (eval g (with_scope ns f env)))) (h f)
    ∙ ap (λ (o : Outcome Thing). and_then (map_out plain (value c f)) (λ t. two_thing and_form t o)) (k f)
    ∙ both_chooses (value c f) (value d f)
    ∙ ap (λ (q : Outcome Value). map_out plain (and_then (value c f) (λ u. either_of u (value d f) q))) (sym (j f)) ∙ ap (map_out plain) (sym (is f))

pub either_means : (ns : Sites) (env : Env) (e g : ExprTree) (c d last r : Code) → ((f : Slots) → value r f ≡ and_then (value c f) (λ u. either_of u (value last f) (value d f))) → Means c ns env (eval e) → Means d ns env (eval g) → IsTruth last true
    → Means r ns env (λ inner. and_then (eval e inner) (λ t. two_thing or_form t (eval g inner)))
either_means ns env e g c d last r is h k j f =
    ap (λ (o : Outcome Thing). and_then o (λ t. two_thing or_form t (eval g (with_scope ns f env)))) (h f)
    ∙ ap (λ (o : Outcome Thing). and_then (map_out plain (value c f)) (λ t. two_thing or_form t o)) (k f)
    ∙ either_chooses (value c f) (value d f)
    ∙ ap (λ (q : Outcome Value). map_out plain (and_then (value c f) (λ u. either_of u q (value d f)))) (sym (j f)) ∙ ap (map_out plain) (sym (is f))

-- ---- forms of three parts

pub choice_means : (ns : Sites) (env : Env) (e g h : ExprTree) (b c d r : Code) → ((f : Slots) → value r f ≡ and_then (value b f) (λ u. either_of u (value c f) (value d f))) → Means b ns env (eval e) → Means c ns env (eval g) → Means d ns env (eval h)
    → Means r ns env (λ inner. and_then (eval e inner) (λ t. three_thing if_else t (eval g inner) (eval h inner)))
choice_means ns env e g h b c d r is i j k f =
    ap (λ (o : Outcome Thing). and_then o (λ t. chosen t (eval g (with_scope ns f env)) (eval h (with_scope ns f env)))) (i f)
    ∙ ap (λ (o : Outcome Thing). and_then (map_out plain (value b f)) (λ t. chosen t o (eval h (with_scope ns f env)))) (j f)
    ∙ ap (λ (o : Outcome Thing). and_then (map_out plain (value b f)) (λ t. chosen t (map_out plain (value c f)) o)) (k f)
    ∙ if_chooses (value b f) (value c f) (value d f) ∙ ap (map_out plain) (sym (is f))

pub select_means : (ns : Sites) (env : Env) (e g h : ExprTree) (b c d r : Code) → ((f : Slots) → value r f ≡ and_then (value b f) (λ u. and_then (value c f) (λ v. and_then (value d f) (λ w. selected u v w)))) → Means b ns env (eval e) → Means c ns env (eval g) → Means d ns env (eval h)
    → Means r ns env (λ inner. and_then (eval e inner) (λ t. three_thing select t (eval g inner) (eval h inner)))
select_means ns env e g h b c d r is i j k f =
    ap (λ (o : Outcome Thing). and_then o (λ t. three_thing select t (eval g (with_scope ns f env)) (eval h (with_scope ns f env)))) (i f)
    ∙ ap (λ (o : Outcome Thing). and_then (map_out plain (value b f)) (λ t. three_thing select t o (eval h (with_scope ns f env)))) (j f)
    ∙ ap (λ (o : Outcome Thing). and_then (map_out plain (value b f)) (λ t. three_thing select t (map_out plain (value c f)) o)) (k f)
    ∙ on_all selected (value b f) (value c f) (value d f) ∙ ap (map_out plain) (sym (is f))
