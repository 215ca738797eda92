-- The numbers that expressions come to, form by form.
use Rattle.std.proofs.Common.{◌≡◌, ℕ, ◌+◌, ◌<◌, ◌++◌, ◌∷◌, [], Bool, true, false, List, length, map, take, get_or, Option, Some, None, if◌then◌else◌, refl, sym, ap, ◌∙◌, subst, arith}
use Rattle.std.proofs.lemmas.List.{take_more, take_all}
use Rattle.weld_data.specs.declared.op.BinOp.{BinOp}
use Rattle.weld_data.specs.Value.{Value, and_value, values}
use Rattle.weld_tree.specs.declared.binder.Binder.{Binder}
use Rattle.weld_tree.specs.ExprTree.{ExprTree, At, leaf, one, two, three, many, let_in, Leaf, name, One, field, binary, and, or, Three, if_else, select, slice, Many, make_vec, make_struct, pack_exprs}
use Rattle.weld_builders.specs.Outcome.{Outcome, done, and_then, map_out}
use Rattle.weld_meaning.specs.Environment.{look_for}
use Rattle.weld_meaning.specs.Thing.{Thing, plain, Things, no_things, more_things, as_values, struct_from, field_of}
use Rattle.weld_meaning.specs.Evaluation.{Env, eval, eval_all, found, leaf_thing, many_thing, one_thing, two_thing, three_thing, operated, truth_value, chosen, value_out}
use Rattle.weld_blocks.specs.Numbers.{number_at, AreGiven, MayGive, AreNumbersOf, MayBeNumbers, IsChosen, IsName, Chooses}
use Rattle.weld_blocks.specs.Scope.{struct_at, IsBound, AreFieldsOf}
use Rattle.weld_blocks.specs.Structs.{AreCounted, AreStructs, IsStructTree}
use Rattle.weld_blocks.specs.declared.numbers.Numbers.{Numbers}
use Rattle.weld_blocks.proofs.LeafLemmas.{may_map}

-- ---- leaves

pub leaf_numbers : (r : Option Numbers) (a : At) (l : Leaf) (envs : ℕ → Env) (n : ExprTree) (count : ℕ) → n ≡ leaf a l → MayGive (λ j v. leaf_thing l (envs j) ≡ done (plain v)) r count → MayBeNumbers n envs r count
leaf_numbers r a l envs n count is h = may_map (λ j v. leaf_thing l (envs j) ≡ done (plain v)) (λ j v. eval n (envs j) ≡ done (plain v)) r count (λ j v q. ap (λ m. eval m (envs j)) is ∙ q) h

pub constant_gives : (r : Option Numbers) (l : Leaf) (envs : ℕ → Env) (w : Value) (count : ℕ) → ((env : Env) → leaf_thing l env ≡ done (plain w)) → MayGive (λ j v. v ≡ w) r count → MayGive (λ j v. leaf_thing l (envs j) ≡ done (plain v)) r count
constant_gives r l envs w count k h = may_map (λ j v. v ≡ w) (λ j v. leaf_thing l (envs j) ≡ done (plain v)) r count (λ j v q. k (envs j) ∙ ap (λ u. done (plain u)) (sym q)) h

pub name_gives : (r : Option Numbers) (s : ℕ) (envs : ℕ → Env) (count : ℕ) → MayGive (λ j v. look_for s (envs j) ≡ Some (plain v)) r count → MayGive (λ j v. leaf_thing (name s) (envs j) ≡ done (plain v)) r count
name_gives r s envs count h = may_map (λ j v. look_for s (envs j) ≡ Some (plain v)) (λ j v. leaf_thing (name s) (envs j) ≡ done (plain v)) r count (λ j v q. ap found q) h

-- ---- fields

pub eval_name : (e : ExprTree) (s : ℕ) (env : Env) → IsName e s → eval e env ≡ found (look_for s env)
eval_name (leaf a l) s env h = ap (λ k. leaf_thing k env) h
eval_name _ s env h = absurd h

pub field_numbers : (r : Option Numbers) (a : At) (k s : ℕ) (e : ExprTree) (envs : ℕ → Env) (n : ExprTree) (count : ℕ) → n ≡ one a (field k) e → IsName e s
    → MayGive (λ j v. and_then (found (look_for s (envs j))) (field_of k) ≡ done (plain v)) r count → MayBeNumbers n envs r count
field_numbers r a k s e envs n count is named h = may_map (λ j v. and_then (found (look_for s (envs j))) (field_of k) ≡ done (plain v)) (λ j v. eval n (envs j) ≡ done (plain v)) r count
    (λ j v q. ap (λ m. eval m (envs j)) is ∙ ap (λ o. and_then o (field_of k)) (eval_name e s (envs j) named) ∙ q) h

-- ---- one part

pub altered_numbers : (r : Option Numbers) (a : At) (o : One) (e : ExprTree) (envs : ℕ → Env) (n : ExprTree) (c : Numbers) (count : ℕ) → n ≡ one a o e → AreNumbersOf e envs c count
    → MayGive (λ j v. one_thing o (plain (number_at c j)) ≡ done (plain v)) r count → MayBeNumbers n envs r count
altered_numbers None a o e envs n c count is h k = tt
altered_numbers (Some d) a o e envs n c count is h k = record {
  long = k.long;
  each = λ j less. ap (λ m. eval m (envs j)) is ∙ ap (λ u. and_then u (one_thing o)) (h.each j less) ∙ k.each j less;
}

-- ---- two parts

pub operated_numbers : (r : Option Numbers) (a : At) (op : BinOp) (e f : ExprTree) (envs : ℕ → Env) (n : ExprTree) (c d : Numbers) (count : ℕ) → n ≡ two a (binary op) e f → AreNumbersOf e envs c count → AreNumbersOf f envs d count
    → MayGive (λ j v. operated op (number_at c j) (number_at d j) ≡ done v) r count → MayBeNumbers n envs r count
operated_numbers None a op e f envs n c d count is p q h = tt
operated_numbers (Some x) a op e f envs n c d count is p q h = record {
  long = h.long;
  each = λ j less.
      ap (λ m. eval m (envs j)) is ∙ ap (λ o. and_then o (λ t. two_thing (binary op) t (eval f (envs j)))) (p.each j less)
      ∙ ap (two_thing (binary op) (plain (number_at c j))) (q.each j less) ∙ ap (map_out plain) (h.each j less);
}

-- what is chosen of two outcomes
choose : (t v w x : Value) (o p : Outcome Value) → IsChosen t v w x → o ≡ done v → p ≡ done w → chosen (plain t) o p ≡ done x
choose t v w x o p h q r = ap (λ u. and_then u (λ (c : Bool). if c then o else p)) h.1 ∙ by h.0 h.2
  where
    by : (b : Bool) → x ≡ (if b then v else w) → (if b then o else p) ≡ done x
    by true e = q ∙ ap done (sym e)
    by false e = r ∙ ap done (sym e)

pub and_numbers : (r : Option Numbers) (a : At) (e f : ExprTree) (envs : ℕ → Env) (n : ExprTree) (c d : Numbers) (count : ℕ) → n ≡ two a and e f → AreNumbersOf e envs c count → AreNumbersOf f envs d count
    → MayGive (λ j v. IsChosen (number_at c j) (number_at d j) (truth_value false) v) r count → MayBeNumbers n envs r count
and_numbers None a e f envs n c d count is p q h = tt
and_numbers (Some x) a e f envs n c d count is p q h = record {
  long = h.long;
  each = λ j less.
      ap (λ m. eval m (envs j)) is ∙ ap (λ o. and_then o (λ t. two_thing and t (eval f (envs j)))) (p.each j less)
      ∙ ap (map_out plain) (choose (number_at c j) (number_at d j) (truth_value false) (number_at x j) (value_out (eval f (envs j))) (done (truth_value false)) (h.each j less) (ap value_out (q.each j less)) refl);
}

pub or_numbers : (r : Option Numbers) (a : At) (e f : ExprTree) (envs : ℕ → Env) (n : ExprTree) (c d : Numbers) (count : ℕ) → n ≡ two a or e f → AreNumbersOf e envs c count → AreNumbersOf f envs d count
    → MayGive (λ j v. IsChosen (number_at c j) (truth_value true) (number_at d j) v) r count → MayBeNumbers n envs r count
or_numbers None a e f envs n c d count is p q h = tt
or_numbers (Some x) a e f envs n c d count is p q h = record {
  long = h.long;
  each = λ j less.
      ap (λ m. eval m (envs j)) is ∙ ap (λ o. and_then o (λ t. two_thing or t (eval f (envs j)))) (p.each j less)
      ∙ ap (map_out plain) (choose (number_at c j) (truth_value true) (number_at d j) (number_at x j) (done (truth_value true)) (value_out (eval f (envs j))) (h.each j less) refl (ap value_out (q.each j less)));
}

-- ---- a choice

choose_thing : (t v w x : Value) (o p : Outcome Thing) → IsChosen t v w x → o ≡ done (plain v) → p ≡ done (plain w) → chosen (plain t) o p ≡ done (plain x)
choose_thing t v w x o p h q r = ap (λ u. and_then u (λ (c : Bool). if c then o else p)) h.1 ∙ by h.0 h.2
  where
    by : (b : Bool) → x ≡ (if b then v else w) → (if b then o else p) ≡ done (plain x)
    by true e = q ∙ ap (λ u. done (plain u)) (sym e)
    by false e = r ∙ ap (λ u. done (plain u)) (sym e)

of_if : (a : At) (c e f : ExprTree) (env : Env) (t v w x : Value) → eval c env ≡ done (plain t) → eval e env ≡ done (plain v) → eval f env ≡ done (plain w) → IsChosen t v w x → eval (three a if_else c e f) env ≡ done (plain x)
of_if a c e f env t v w x o p q h = ap (λ u. and_then u (λ y. three_thing if_else y (eval e env) (eval f env))) o ∙ choose_thing t v w x (eval e env) (eval f env) h p q

-- `select` evaluates both arms
pub of_select : (a : At) (c e f : ExprTree) (env : Env) (t v w x : Value) → eval c env ≡ done (plain t) → eval e env ≡ done (plain v) → eval f env ≡ done (plain w) → IsChosen t v w x → eval (three a select c e f) env ≡ done (plain x)
of_select a c e f env t v w x o p q h =
    ap (λ u. and_then u (λ y. three_thing select y (eval e env) (eval f env))) o
    ∙ ap (λ u. three_thing select (plain t) u (eval f env)) p
    ∙ ap (λ u. three_thing select (plain t) (done (plain v)) u) q
    ∙ ap (λ (u : Outcome Bool). map_out plain (map_out (λ (b : Bool). if b then v else w) u)) h.1
    ∙ ap (λ (y : Value). done (plain y)) (sym h.2)

pub chosen_of : (a : At) (o : Three) (c e f : ExprTree) (env : Env) (t v w x : Value) → Chooses (three a o c e f) → eval c env ≡ done (plain t) → eval e env ≡ done (plain v) → eval f env ≡ done (plain w) → IsChosen t v w x → eval (three a o c e f) env ≡ done (plain x)
chosen_of a if_else c e f env t v w x k o p q h = of_if a c e f env t v w x o p q h
chosen_of a select c e f env t v w x k o p q h = of_select a c e f env t v w x o p q h
chosen_of a slice c e f env t v w x k o p q h = absurd k

pub choice_numbers : (r : Option Numbers) (a : At) (k : Three) (c e f : ExprTree) (envs : ℕ → Env) (n : ExprTree) (t d g : Numbers) (count : ℕ) → n ≡ three a k c e f → Chooses n → AreNumbersOf c envs t count → AreNumbersOf e envs d count → AreNumbersOf f envs g count
    → MayGive (λ j v. IsChosen (number_at t j) (number_at d j) (number_at g j) v) r count → MayBeNumbers n envs r count
choice_numbers None a k c e f envs n t d g count is form o p q h = tt
choice_numbers (Some x) a k c e f envs n t d g count is form o p q h = record {
  long = h.long;
  each = λ j less.
      ap (λ m. eval m (envs j)) is
      ∙ chosen_of a k c e f (envs j) (number_at t j) (number_at d j) (number_at g j) (number_at x j) (subst (λ m. Chooses m) is form) (o.each j less) (p.each j less) (q.each j less) (h.each j less);
}

-- one truth value stands at each place
pub both_given : (r : Option Numbers) (c d f : Numbers) (w : Value) (count : ℕ) → AreGiven (λ j v. v ≡ w) f count → MayGive (λ j v. IsChosen (number_at c j) (number_at d j) (number_at f j) v) r count → MayGive (λ j v. IsChosen (number_at c j) (number_at d j) w v) r count
both_given None c d f w count k h = tt
both_given (Some x) c d f w count k h = record {
  long = h.long;
  each = λ j less. subst (λ u. IsChosen (number_at c j) (number_at d j) u (number_at x j)) (k.each j less) (h.each j less);
}

pub either_given : (r : Option Numbers) (c d f : Numbers) (w : Value) (count : ℕ) → AreGiven (λ j v. v ≡ w) f count → MayGive (λ j v. IsChosen (number_at c j) (number_at f j) (number_at d j) v) r count → MayGive (λ j v. IsChosen (number_at c j) w (number_at d j) v) r count
either_given None c d f w count k h = tt
either_given (Some x) c d f w count k h = record {
  long = h.long;
  each = λ j less. subst (λ u. IsChosen (number_at c j) u (number_at d j) (number_at x j)) (k.each j less) (h.each j less);
}

-- ---- a `let`

pub let_numbers : (r : Option Numbers) (a : At) (b : Binder) (e f : ExprTree) (envs inner : ℕ → Env) (n : ExprTree) (at : ℕ → Value) (count : ℕ) → n ≡ let_in a b e f → IsBound e envs at count
    → ((j : ℕ) → inner j ≡ (b.sym.0, plain (at j)) ∷ envs j) → MayBeNumbers f inner r count → MayBeNumbers n envs r count
let_numbers None a b e f envs inner n at count is h k m = tt
let_numbers (Some x) a b e f envs inner n at count is h k m = record {
  long = m.long;
  each = λ j less.
      ap (λ u. eval u (envs j)) is ∙ ap (λ o. and_then o (λ t. eval f ((b.sym.0, t) ∷ envs j))) (h j less)
      ∙ ap (eval f) (sym (k j)) ∙ m.each j less;
}

-- ---- what a `let` binds

-- values among things
abbrev plains : List Value → Things
plains [] = no_things
plains (v ∷ vs) = more_things (plain v) (plains vs)

as_plains : (vs : List Value) → as_values (plains vs) ≡ done (values vs)
as_plains [] = refl
as_plains (v ∷ vs) = ap (map_out (and_value v)) (as_plains vs)

parts_give : (es : List ExprTree) (envs : ℕ → Env) (cs : List Numbers) (count j : ℕ) → AreFieldsOf es envs cs count → j < count → eval_all (pack_exprs es) (envs j) ≡ done (plains (map (λ c. number_at c j) cs))
parts_give [] envs [] count j h less = refl
parts_give [] envs (c ∷ cs) count j h less = absurd h
parts_give (e ∷ es) envs [] count j h less = absurd h
parts_give (e ∷ es) envs (c ∷ cs) count j h less =
    ap (λ o. and_then o (λ t. map_out (more_things t) (eval_all (pack_exprs es) (envs j)))) (h.0.each j less)
    ∙ ap (map_out (more_things (plain (number_at c j)))) (parts_give es envs cs count j h.1 less)

struct_gives : (a : At) (es : List ExprTree) (envs : ℕ → Env) (cs : List Numbers) (count j : ℕ) → AreFieldsOf es envs cs count → j < count → eval (many a make_struct (pack_exprs es)) (envs j) ≡ done (plain (struct_at cs j))
struct_gives a es envs cs count j h less =
    let vs = map (λ c. number_at c j) cs in
    ap (λ o. and_then o (many_thing make_struct)) (parts_give es envs cs count j h less)
    ∙ ap (λ o. done (struct_from (plains vs) o)) (as_plains vs)

struct_bound : (a : At) (o : Many) (es : List ExprTree) (envs : ℕ → Env) (n : ExprTree) (cs : List Numbers) (count : ℕ) → n ≡ many a o (pack_exprs es) → IsStructTree n → AreFieldsOf es envs cs count → IsBound n envs (struct_at cs) count
struct_bound a o es envs n cs count is form h j less = by o is (subst (λ m. IsStructTree m) is form)
  where
    by : (u : Many) → n ≡ many a u (pack_exprs es) → IsStructTree (many a u (pack_exprs es)) → eval n (envs j) ≡ done (plain (struct_at cs j))
    by make_struct same k = ap (λ m. eval m (envs j)) same ∙ struct_gives a es envs cs count j h less
    by make_vec same k = absurd k

columns_long : (es : List ExprTree) (envs : ℕ → Env) (cs : List Numbers) (count : ℕ) → AreFieldsOf es envs cs count → AreCounted cs count
columns_long [] envs [] count h = tt
columns_long [] envs (c ∷ cs) count h = absurd h
columns_long (e ∷ es) envs [] count h = absurd h
columns_long (e ∷ es) envs (c ∷ cs) count h = (h.0.long, columns_long es envs cs count h.1)

pub struct_columns : (a : At) (o : Many) (es : List ExprTree) (envs : ℕ → Env) (n : ExprTree) (cs : List Numbers) (count : ℕ) → n ≡ many a o (pack_exprs es) → IsStructTree n → AreFieldsOf es envs cs count
    → AreStructs (λ j v. eval n (envs j) ≡ done (plain v)) cs count
struct_columns a o es envs n cs count is form h = record {
  long = columns_long es envs cs count h;
  each = struct_bound a o es envs n cs count is form h;
}

-- one part more
field_more : (es : List ExprTree) (e : ExprTree) (envs : ℕ → Env) (cs : List Numbers) (c : Numbers) (count : ℕ) → AreFieldsOf es envs cs count → AreNumbersOf e envs c count → AreFieldsOf (es ++ e ∷ []) envs (cs ++ c ∷ []) count
field_more [] e envs [] c count h k = (k, tt)
field_more [] e envs (d ∷ cs) c count h k = absurd h
field_more (f ∷ es) e envs [] c count h k = absurd h
field_more (f ∷ es) e envs (d ∷ cs) c count h k = (h.0, field_more es e envs cs c count h.1 k)

pub next_field : (es : List ExprTree) (i : ℕ) (e : ExprTree) (envs : ℕ → Env) (cs more : List Numbers) (c : Numbers) (count : ℕ) → i < length es → e ≡ get_or es i e → more ≡ cs ++ c ∷ [] → AreFieldsOf (take i es) envs cs count → AreNumbersOf e envs c count
    → AreFieldsOf (take (i + 1) es) envs more count
next_field es i e envs cs more c count less at is h k =
    let taken : take (i + 1) es ≡ take i es ++ e ∷ [] = take_more es i e less ∙ ap (λ f. take i es ++ f ∷ []) (sym at) in
    subst (λ (ds : List Numbers). AreFieldsOf (take (i + 1) es) envs ds count) (sym is) (subst (λ l. AreFieldsOf l envs (cs ++ c ∷ []) count) (sym taken) (field_more (take i es) e envs cs c count h k))

pub all_fields : (es : List ExprTree) (i : ℕ) (envs : ℕ → Env) (cs : List Numbers) (count : ℕ) → i ≡ length es → AreFieldsOf (take i es) envs cs count → AreFieldsOf es envs cs count
all_fields es i envs cs count is h = subst (λ l. AreFieldsOf l envs cs count) (take_all i es (omega arith)) h
