-- What is known of a node in the code is known of its parts.
use Rattle.std.proofs.Common.{◌≡◌, ◌∷◌, Bool, true, false, if◌then◌else◌, Option, Some, None, refl, sym, ap, ◌∙◌, subst, rules}
use Rattle.std.specs.Prelude.{IsSome}
use Rattle.weld_data.specs.Value.{Value}
use Rattle.weld_tree.specs.declared.binder.Binder.{Binder}
use Rattle.weld_tree.specs.TypeTree.{TypeTree, BuildTree, scalar, vec, struct as tuple, dict, build, list, total, keyed, cells, groups}
use Rattle.weld_tree.specs.Types.{IsIntegerType, IsWellFormedBuild}
use Rattle.weld_tree.specs.Program.{MayBeFresh}
use Rattle.weld_tree.specs.ExprTree.{ExprTree, ExprTrees, At, leaf, one, two, three, many, let_in, Leaf, int, truth, chars, name, fresh, One, Two, binary, and, or, look_up, key_exists, merge, Three, if_else, Many}
use Rattle.weld_tree.specs.declared.expr.TwoForm.{TwoForm}
use Rattle.weld_tree.specs.declared.expr.TwoForm.TheVariants as forms
use Rattle.weld_tree.specs.ExprView.{view_two}
use Rattle.weld_builders.specs.Outcome.{Outcome, done, fault, stuck, and_then, map_out}
use Rattle.weld_meaning.specs.Environment.{look_for}
use Rattle.weld_meaning.specs.Thing.{Thing, plain, building, several}
use Rattle.weld_meaning.specs.ThingType.{HasThing}
use Rattle.weld_meaning.specs.Typing.{truth_type}
use Rattle.weld_meaning.specs.Meaning.{GivesOrFaults}
use Rattle.weld_meaning.specs.Evaluation.{Env, eval, truth_of, truth_value, value_out, two_thing}
use Rattle.weld_meaning.proofs.NeverStuck.{never_stuck}
use Rattle.weld_eval.specs.Fits.{IsTruth}
use Rattle.weld_eval.specs.Fit.{IsFit, AreFit}
use Rattle.weld_eval.specs.Takes.{LeafTakes, OneTakes, TwoTakes, ThreeTakes, IsInteger, IsFresh, IsPlain}
use Rattle.weld_eval.proofs.Children.{key_laws, gives, fit_one, one_takes, fit_first_of_two, fit_second_of_two, two_takes, fit_first_of_three, fit_second_of_three, fit_third_of_three, three_takes, fit_many, fit_value, fit_let_body}
use Rattle.weld_eval_plain.specs.Nodes.{IsEitherForm, decided}

-- ---- leaves

integer_kind : (t : TypeTree) → IsIntegerType t → IsInteger t
integer_kind (scalar k) h = h
integer_kind (vec t) h = h
integer_kind (tuple ts) h = h
integer_kind (dict k v) h = h
integer_kind (build b) h = h

some_there : (o : Option Thing) (x : Thing) → o ≡ Some x → IsSome o
some_there (Some y) x e = search rules
some_there None x e = let none : ⊥ = cc in absurd none

fresh_starts : (b : BuildTree) → MayBeFresh b → IsWellFormedBuild b → IsFresh b
fresh_starts (list t) m w = tt
fresh_starts (total t op) m w = w
fresh_starts (keyed k v op) m w = integer_kind v w.1
fresh_starts (cells t op) m w = m
fresh_starts (groups k v) m w = tt

pub leaf_takes : (a : At) (l : Leaf) (env : Env) → IsFit (leaf a l) env → LeafTakes l env
leaf_takes a (int k x) env h = h.typed.1
leaf_takes a (truth b) env h = tt
leaf_takes a (chars bs) env h = tt
leaf_takes a (name s) env h = some_there (look_for s env) (h.named.fits.finds s h.answer h.typed).0 (h.named.fits.finds s h.answer h.typed).1
leaf_takes a (fresh b) env h = fresh_starts b h.typed.0 h.typed.1

-- ---- one part

pub part_fits : (a : At) (o : One) (e : ExprTree) (env : Env) (n : ExprTree) → n ≡ one a o e → IsFit n env → IsFit e env
part_fits a o e env n is h = fit_one a o e env (subst (λ m. IsFit m env) is h)

pub part_takes : (a : At) (o : One) (e : ExprTree) (env : Env) (n : ExprTree) (x : Thing) → n ≡ one a o e → IsFit n env → eval e env ≡ done x → OneTakes o x
part_takes a o e env n x is h q = one_takes a o e env x (subst (λ m. IsFit m env) is h) q

-- ---- two parts

pub first_fits : (a : At) (o : Two) (e f : ExprTree) (env : Env) (n : ExprTree) → n ≡ two a o e f → IsFit n env → IsFit e env
first_fits a o e f env n is h = fit_first_of_two a o e f env (subst (λ m. IsFit m env) is h)

pub second_fits : (a : At) (o : Two) (e f : ExprTree) (env : Env) (n : ExprTree) → n ≡ two a o e f → IsFit n env → IsFit f env
second_fits a o e f env n is h = fit_second_of_two a o e f env (subst (λ m. IsFit m env) is h)

pub both_take : (a : At) (o : Two) (e f : ExprTree) (env : Env) (n : ExprTree) (x y : Thing) → n ≡ two a o e f → IsFit n env → eval e env ≡ done x → eval f env ≡ done y → TwoTakes o x y
both_take a o e f env n x y is h p q = two_takes a o e f env x y (subst (λ m. IsFit m env) is h) p q

-- ---- `&&` and `||`

truth_value_of : (x : Thing) → HasThing x truth_type → (v : Value) × (x ≡ plain v) × IsTruth v
truth_value_of (plain v) h = (v, refl, h)
truth_value_of (building p) h = absurd h
truth_value_of (several ts) h = absurd h

of_truth_type : (x : Thing) → HasThing x truth_type → IsPlain x
of_truth_type x h = let t = truth_value_of x h in subst IsPlain (sym t.1) tt

truth_first : (a : At) (o : Two) (e f : ExprTree) (env : Env) → IsEitherForm o → (h : IsFit (two a o e f) env) → (h.typed.0 ≡ truth_type) × (h.typed.1 ≡ truth_type)
truth_first a (binary op) e f env k h = absurd k
truth_first a and e f env k h = (h.typed.4.0, h.typed.4.1)
truth_first a or e f env k h = (h.typed.4.0, h.typed.4.1)
truth_first a look_up e f env k h = absurd k
truth_first a key_exists e f env k h = absurd k
truth_first a merge e f env k h = absurd k

first_is_truth : (a : At) (o : Two) (e f : ExprTree) (env : Env) (x : Thing) → IsEitherForm o → IsFit (two a o e f) env → eval e env ≡ done x → HasThing x truth_type
first_is_truth a o e f env x k h is = subst (HasThing x) (truth_first a o e f env k h).0 (gives e h.names h.origins env h.typed.0 x h.named h.typed.2 is)

pub first_of_either_is_plain : (a : At) (o : Two) (e f : ExprTree) (env : Env) (n : ExprTree) (x : Thing) → n ≡ two a o e f → IsEitherForm o → IsFit n env → eval e env ≡ done x → IsPlain x
first_of_either_is_plain a o e f env n x is k h q = of_truth_type x (first_is_truth a o e f env x k (subst (λ m. IsFit m env) is h) q)

pub first_of_either_is_truth : (a : At) (o : Two) (e f : ExprTree) (env : Env) (n : ExprTree) (x : Thing) (v : Value) → n ≡ two a o e f → IsEitherForm o → IsFit n env → eval e env ≡ done x → x ≡ plain v → IsTruth v
first_of_either_is_truth a o e f env n x v is k h q same = subst (λ y. HasThing y truth_type) same (first_is_truth a o e f env x k (subst (λ m. IsFit m env) is h) q)

-- the outcome of a truth value's type is what it is as a value
as_truth : (o : Outcome Thing) → GivesOrFaults (λ x. HasThing x truth_type) o → map_out plain (value_out o) ≡ o
as_truth (done x) h = let t = truth_value_of x h in ap (λ y. map_out plain (value_out (done y))) t.1 ∙ ap done (sym t.1)
as_truth fault h = refl
as_truth stuck h = absurd h

second_is_truth : (a : At) (o : Two) (e f : ExprTree) (env : Env) → IsEitherForm o → IsFit (two a o e f) env → map_out plain (value_out (eval f env)) ≡ eval f env
second_is_truth a o e f env k h =
    as_truth (eval f env) (subst (λ t. GivesOrFaults (λ x. HasThing x t) (eval f env)) (truth_first a o e f env k h).1 (never_stuck key_laws f h.names h.typed.1 env h.typed.3 h.named.formed h.named.fits).fits)

-- the first part decides, or the second does
chosen_second : (o : TwoForm) (v : Value) (c : Bool) (w : Outcome Thing) → IsEitherForm (view_two o) → truth_of v ≡ done c → decided o c ≡ false → two_thing (view_two o) (plain v) w ≡ map_out plain (value_out w)
chosen_second (forms.Binary op) v c w k t d = absurd k
chosen_second forms.And v true w k t d = ap (λ u. map_out plain (and_then u (λ (b : Bool). if b then value_out w else done (truth_value false)))) t
chosen_second forms.And v false w k t d = let no : ⊥ = cc in absurd no
chosen_second forms.Or v true w k t d = let no : ⊥ = cc in absurd no
chosen_second forms.Or v false w k t d = ap (λ u. map_out plain (and_then u (λ (b : Bool). if b then done (truth_value true) else value_out w))) t
chosen_second forms.LookUp v c w k t d = absurd k
chosen_second forms.KeyExists v c w k t d = absurd k
chosen_second forms.Merge v c w k t d = absurd k

chosen_first : (o : TwoForm) (v : Value) (c : Bool) (w : Outcome Thing) → IsEitherForm (view_two o) → truth_of v ≡ done c → decided o c ≡ true → two_thing (view_two o) (plain v) w ≡ done (plain (truth_value c))
chosen_first (forms.Binary op) v c w k t d = absurd k
chosen_first forms.And v true w k t d = let no : ⊥ = cc in absurd no
chosen_first forms.And v false w k t d = ap (λ u. map_out plain (and_then u (λ (b : Bool). if b then value_out w else done (truth_value false)))) t
chosen_first forms.Or v true w k t d = ap (λ u. map_out plain (and_then u (λ (b : Bool). if b then done (truth_value true) else value_out w))) t
chosen_first forms.Or v false w k t d = let no : ⊥ = cc in absurd no
chosen_first forms.LookUp v c w k t d = absurd k
chosen_first forms.KeyExists v c w k t d = absurd k
chosen_first forms.Merge v c w k t d = absurd k

two_is : (a : At) (o : Two) (e f : ExprTree) (env : Env) (n : ExprTree) (x : Thing) → n ≡ two a o e f → eval e env ≡ done x → eval n env ≡ two_thing o x (eval f env)
two_is a o e f env n x is q = ap (λ m. eval m env) is ∙ ap (λ u. and_then u (λ t. two_thing o t (eval f env))) q

pub second_decides : (a : At) (o : TwoForm) (e f : ExprTree) (env : Env) (n : ExprTree) (x : Thing) (v : Value) (c : Bool) → n ≡ two a (view_two o) e f → IsEitherForm (view_two o) → IsFit n env → eval e env ≡ done x → x ≡ plain v
    → truth_of v ≡ done c → decided o c ≡ false → eval n env ≡ eval f env
second_decides a o e f env n x v c is k h q same t d =
    two_is a (view_two o) e f env n (plain v) is (q ∙ ap done same) ∙ chosen_second o v c (eval f env) k t d ∙ second_is_truth a (view_two o) e f env k (subst (λ m. IsFit m env) is h)

pub first_decides : (a : At) (o : TwoForm) (e f : ExprTree) (env : Env) (n : ExprTree) (x : Thing) (v : Value) (c : Bool) → n ≡ two a (view_two o) e f → IsEitherForm (view_two o) → eval e env ≡ done x → x ≡ plain v
    → truth_of v ≡ done c → decided o c ≡ true → eval n env ≡ done (plain (truth_value c))
first_decides a o e f env n x v c is k q same t d =
    two_is a (view_two o) e f env n (plain v) is (q ∙ ap done same) ∙ chosen_first o v c (eval f env) k t d

-- ---- three parts

pub condition_fits : (a : At) (o : Three) (c e f : ExprTree) (env : Env) (n : ExprTree) → n ≡ three a o c e f → IsFit n env → IsFit c env
condition_fits a o c e f env n is h = fit_first_of_three a o c e f env (subst (λ m. IsFit m env) is h)

pub then_fits : (a : At) (o : Three) (c e f : ExprTree) (env : Env) (n : ExprTree) → n ≡ three a o c e f → IsFit n env → IsFit e env
then_fits a o c e f env n is h = fit_second_of_three a o c e f env (subst (λ m. IsFit m env) is h)

pub otherwise_fits : (a : At) (o : Three) (c e f : ExprTree) (env : Env) (n : ExprTree) → n ≡ three a o c e f → IsFit n env → IsFit f env
otherwise_fits a o c e f env n is h = fit_third_of_three a o c e f env (subst (λ m. IsFit m env) is h)

pub all_take : (a : At) (o : Three) (c e f : ExprTree) (env : Env) (n : ExprTree) (x y z : Thing) → n ≡ three a o c e f → IsFit n env → eval c env ≡ done x → eval e env ≡ done y → eval f env ≡ done z → ThreeTakes o x y z
all_take a o c e f env n x y z is h p q r = three_takes a o c e f env x y z (subst (λ m. IsFit m env) is h) p q r

condition : (a : At) (c e f : ExprTree) (env : Env) (n : ExprTree) (x : Thing) → n ≡ three a if_else c e f → IsFit n env → eval c env ≡ done x → HasThing x truth_type
condition a c e f env n x is k q =
    let h = subst (λ m. IsFit m env) is k in subst (HasThing x) h.typed.6.0 (gives c h.names h.origins env h.typed.0 x h.named h.typed.3 q)

pub condition_is_plain : (a : At) (c e f : ExprTree) (env : Env) (n : ExprTree) (x : Thing) → n ≡ three a if_else c e f → IsFit n env → eval c env ≡ done x → IsPlain x
condition_is_plain a c e f env n x is h q = of_truth_type x (condition a c e f env n x is h q)

pub condition_is_truth : (a : At) (c e f : ExprTree) (env : Env) (n : ExprTree) (x : Thing) (v : Value) → n ≡ three a if_else c e f → IsFit n env → eval c env ≡ done x → x ≡ plain v → IsTruth v
condition_is_truth a c e f env n x v is h q same = subst (λ y. HasThing y truth_type) same (condition a c e f env n x is h q)

-- ---- a `let`

pub let_value_fits : (a : At) (b : Binder) (e f : ExprTree) (env : Env) (n : ExprTree) → n ≡ let_in a b e f → IsFit n env → IsFit e env
let_value_fits a b e f env n is h = fit_value a b e f env (subst (λ m. IsFit m env) is h)

pub let_body_fits : (a : At) (b : Binder) (e f : ExprTree) (env : Env) (n : ExprTree) (x : Thing) → n ≡ let_in a b e f → IsFit n env → eval e env ≡ done x → IsFit f ((b.sym.0, x) ∷ env)
let_body_fits a b e f env n x is h q = fit_let_body a b e f env x (subst (λ m. IsFit m env) is h) q

-- ---- a vector or a struct

pub parts_fit : (a : At) (o : Many) (es : ExprTrees) (env : Env) (n : ExprTree) → n ≡ many a o es → IsFit n env → AreFit es env
parts_fit a o es env n is h = fit_many a o es env (subst (λ m. IsFit m env) is h)
