-- Vectors and structs of things.
use Rattle.std.proofs.Common.{◌≡◌, ℕ, zero, suc, ◌<◌, ◌≤◌, ◌+◌, true, false, ◌&&◌, List, [], ◌∷◌, ◌++◌, drop, length, get_or, refl, ap, sym, subst, ◌∙◌, arith}
use Rattle.std.proofs.lemmas.List.{drop_more}
use Rattle.weld_data.specs.Value.{Value, and_value, list, struct, values}
use Rattle.weld_tree.specs.TypeTree.{TypeTree, TypeTrees, no_types, more_types}
use Rattle.weld_tree.specs.Types.{IsBuilderFree}
use Rattle.weld_tree.specs.ExprTree.{make_vec, make_struct}
use Rattle.weld_builders.specs.Outcome.{done, stuck, map_out}
use Rattle.weld_meaning.specs.Thing.{Thing, plain, building, several, Things, more_things, as_values, struct_from}
use Rattle.weld_meaning.specs.Typing.{AreAll}
use Rattle.weld_meaning.specs.ThingType.{HasThing}
use Rattle.weld_meaning.specs.Evaluation.{many_thing}
use Rattle.weld_meaning.proofs.Good.{free_value_type, value_of_thing}
use Rattle.weld_eval.specs.declared.thing.Owned.{Owned}
use Rattle.weld_eval.specs.ThingView.{thing_of}
use Rattle.weld_eval.specs.Takes.{IsPlain}
use Rattle.weld_eval_forms.specs.FormTakes.{before_things, pack_things, all_of, AreOfTypes, is_value, all_are_values, value_in, values_among, ManyTakes}

-- ---- things that are values

all_done : (xs : List Thing) → all_are_values xs ≡ true → as_values (pack_things xs) ≡ done (values (values_among xs))
all_done [] e = refl
all_done (plain v ∷ xs) e = ap (map_out (and_value v)) (all_done xs e)
all_done (building p ∷ xs) e = let no : ⊥ = cc in absurd no
all_done (several ts ∷ xs) e = let no : ⊥ = cc in absurd no

not_done : (xs : List Thing) → all_are_values xs ≡ false → as_values (pack_things xs) ≡ stuck
not_done [] e = let no : ⊥ = cc in absurd no
not_done (plain v ∷ xs) e = ap (map_out (and_value v)) (not_done xs e)
not_done (building p ∷ xs) e = refl
not_done (several ts ∷ xs) e = refl

pub vector_of : (xs : List Thing) (vs : List Value) → all_are_values xs ≡ true → vs ≡ values_among xs → many_thing make_vec (pack_things xs) ≡ done (plain (list (values vs)))
vector_of xs vs e f = ap (map_out (λ ws. plain (list ws))) (all_done xs e) ∙ ap (λ l. done (plain (list (values l)))) (sym f)

pub struct_of_values : (xs : List Thing) (vs : List Value) → all_are_values xs ≡ true → vs ≡ values_among xs → many_thing make_struct (pack_things xs) ≡ done (plain (struct (values vs)))
struct_of_values xs vs e f = ap (λ o. done (struct_from (pack_things xs) o)) (all_done xs e) ∙ ap (λ l. done (plain (struct (values l)))) (sym f)

pub struct_of_builders : (xs : List Thing) (ts : Things) → all_are_values xs ≡ false → ts ≡ pack_things xs → many_thing make_struct (pack_things xs) ≡ done (several ts)
struct_of_builders xs ts e f = ap (λ o. done (struct_from (pack_things xs) o)) (not_done xs e) ∙ ap (λ l. done (several l)) (sym f)

-- the parts of a vector are values
are_values : (u : TypeTree) (xs : List Thing) (us : TypeTrees) → IsBuilderFree u → AreOfTypes (pack_things xs) us → AreAll us u → all_are_values xs ≡ true
are_values u [] us f h a = refl
are_values u (x ∷ xs) no_types f h a = absurd h
are_values u (x ∷ xs) (more_types v us) f h a =
    let p = value_of_thing u x (free_value_type u f) (subst (HasThing x) a.0 h.0) in
    ap (λ y. is_value y && all_are_values xs) p.1 ∙ are_values u xs us f h.1 a.1

pub vector_values : (xs : List Thing) → ManyTakes make_vec (pack_things xs) → all_are_values xs ≡ true
vector_values xs h = are_values h.rule.0 xs h.types h.rule.3 h.have h.rule.2

-- ---- one thing after another

pub first_plain : (x : Thing) (xs : List Thing) → all_are_values (x ∷ xs) ≡ true → IsPlain x
first_plain (plain v) xs e = tt
first_plain (building p) xs e = let no : ⊥ = cc in absurd no
first_plain (several ts) xs e = let no : ⊥ = cc in absurd no

pub rest_values : (x : Thing) (xs : List Thing) → all_are_values (x ∷ xs) ≡ true → all_are_values xs ≡ true
rest_values (plain v) xs e = e
rest_values (building p) xs e = let no : ⊥ = cc in absurd no
rest_values (several ts) xs e = let no : ⊥ = cc in absurd no

assoc : (xs : List Value) (v : Value) (ys : List Value) → (xs ++ v ∷ []) ++ ys ≡ xs ++ v ∷ ys
assoc [] v ys = refl
assoc (x ∷ xs) v ys = ap (λ l. x ∷ l) (assoc xs v ys)

pub one_value_more : (x : Thing) (xs : List Thing) (v : Value) (old all : List Value) → x ≡ plain v → old ++ values_among (x ∷ xs) ≡ all → (old ++ v ∷ []) ++ values_among xs ≡ all
one_value_more x xs v old all e same = assoc old v (values_among xs) ∙ ap (λ y. old ++ (value_in y ++ values_among xs)) (sym e) ∙ same

pub value_first : (xs : List Owned) (i : ℕ) (x : Owned) → i < length xs → x ≡ get_or xs i x → is_value (thing_of x) ≡ true → all_are_values (all_of (drop i xs)) ≡ all_are_values (all_of (drop (i + 1) xs))
value_first xs i x lt e v = ap (λ l. all_are_values (all_of l)) (drop_more xs i x lt) ∙ ap (λ y. is_value (thing_of y) && all_are_values (all_of (drop (i + 1) xs))) (sym e) ∙ ap (λ b. b && all_are_values (all_of (drop (i + 1) xs))) v

pub builder_first : (xs : List Owned) (i : ℕ) (x : Owned) → i < length xs → x ≡ get_or xs i x → is_value (thing_of x) ≡ false → all_are_values (all_of (drop i xs)) ≡ false
builder_first xs i x lt e v = ap (λ l. all_are_values (all_of l)) (drop_more xs i x lt) ∙ ap (λ y. is_value (thing_of y) && all_are_values (all_of (drop (i + 1) xs))) (sym e) ∙ ap (λ b. b && all_are_values (all_of (drop (i + 1) xs))) v

pub no_first : (xs : List Owned) (i : ℕ) → length xs ≤ i → all_are_values (all_of (drop i xs)) ≡ true
no_first [] zero le = refl
no_first [] (suc i) le = refl
no_first (x ∷ xs) zero le = absurd (omega arith)
no_first (x ∷ xs) (suc i) le = no_first xs i (omega arith)

-- ---- the last thing first

pub last_before : (xs : List Owned) (x : Owned) (ts : Things) → before_things (all_of (xs ++ x ∷ [])) ts ≡ before_things (all_of xs) (more_things (thing_of x) ts)
last_before [] x ts = refl
last_before (y ∷ xs) x ts = ap (more_things (thing_of y)) (last_before xs x ts)

pub nothing_before : (xs : List Owned) (ts whole : Things) → length xs ≤ 0 → before_things (all_of xs) ts ≡ whole → ts ≡ whole
nothing_before [] ts whole e same = same
nothing_before (x ∷ xs) ts whole e same = absurd (omega arith)
