-- Arguments and their types by their numbers.
use Rattle.std.proofs.Common.{◌≡◌, ℕ, zero, suc, ◌<◌, List, [], ◌∷◌, length, slice_get, get_or, Option, Some, None, ap, sym, refl, subst, ◌∙◌, arith}
use Rattle.weld_data.specs.declared.kind.Kind.{Kind}
use Rattle.weld_data.specs.declared.kind.Kind.TheVariants as kinds
use Rattle.weld_data.specs.Value.{Value, number, list, struct, dict, Values, no_values, and_value, list_of_values}
use Rattle.weld_tree.specs.TypeTree.{TypeTree, TypeTrees, scalar, vec, struct as tuple, dict as dictionary, build, no_types, more_types}
use Rattle.weld_tree.specs.Types.{IsKey}
use Rattle.weld_tree.specs.HasValue.{HasValue, HaveValues}
use Rattle.weld_calls.specs.CallTypes.{argument, item, kind_in, nth_type}
use Rattle.weld_eval.specs.Fits.{IsList, HasField}
use Rattle.weld_calls.specs.CallMeaning.{kind_of, value_at}
use Rattle.weld_eager.specs.Fitting.{AreOf}
use Rattle.weld_eager.specs.Reading.{IsKeptVector, IsKeyVector}

pub value_there : (vs : List Value) (n : ℕ) (v : Value) → slice_get vs n ≡ Some v → v ≡ value_at n vs
value_there [] n v e = let no : ⊥ = cc in absurd no
value_there (w ∷ vs) zero v e = cc
value_there (w ∷ vs) (suc n) v e = value_there vs n v e

pub type_there : (ts : List TypeTree) (n : ℕ) (t : TypeTree) → n < length ts → t ≡ get_or ts n t → t ≡ argument n ts
type_there [] n t h e = absurd (omega (arith, h))
type_there (u ∷ ts) zero t h e = e
type_there (u ∷ ts) (suc n) t h e = type_there ts n t (omega (arith, h)) e

pub kind_there : (t : TypeTree) (k : Kind) → Some k ≡ kind_in t → k ≡ kind_of t
kind_there (scalar m) k e = cc
kind_there (vec t) k e = let no : ⊥ = cc in absurd no
kind_there (tuple ts) k e = let no : ⊥ = cc in absurd no
kind_there (dictionary t u) k e = let no : ⊥ = cc in absurd no
kind_there (build b) k e = let no : ⊥ = cc in absurd no

pub kind_missing : (t : TypeTree) → None ≡ kind_in t → kinds.I64 ≡ kind_of t
kind_missing (scalar m) e = let no : ⊥ = cc in absurd no
kind_missing (vec t) e = refl
kind_missing (tuple ts) e = refl
kind_missing (dictionary t u) e = refl
kind_missing (build b) e = refl

-- ---- the values of a row

pub as_many : (ts : List TypeTree) (vs : List Value) → AreOf ts vs → length ts ≡ length vs
as_many [] [] h = refl
as_many [] (v ∷ vs) h = absurd h
as_many (t ∷ ts) [] h = absurd h
as_many (t ∷ ts) (v ∷ vs) h = ap suc (as_many ts vs h.1)

pub value_of_type : (ts : List TypeTree) (vs : List Value) (n : ℕ) → AreOf ts vs → n < length ts → HasValue (argument n ts) (value_at n vs)
value_of_type [] vs n h p = absurd (omega (arith, p))
value_of_type (t ∷ ts) [] n h p = absurd h
value_of_type (t ∷ ts) (v ∷ vs) zero h p = h.0
value_of_type (t ∷ ts) (v ∷ vs) (suc n) h p = value_of_type ts vs n h.1 (omega (arith, p))

pub enough : (ts us : List TypeTree) (vs : List Value) → ts ≡ us → AreOf ts vs → length us ≡ length vs
enough ts us vs e h = ap length (sym e) ∙ as_many ts vs h

pub has_type : (ts us : List TypeTree) (vs : List Value) (n : ℕ) (t : TypeTree) (v : Value) → ts ≡ us → AreOf ts vs → n < length us → argument n us ≡ t → v ≡ value_at n vs → HasValue t v
has_type ts us vs n t v e h p a is =
    subst (HasValue t) (sym is) (subst (λ u. HasValue u (value_at n vs)) a (value_of_type us vs n (subst (λ xs. AreOf xs vs) e h) p))

pub is_list : (t : TypeTree) (v : Value) → HasValue (vec t) v → IsList v
is_list t (number k x) h = absurd h
is_list t (list vs) h = tt
is_list t (struct vs) h = absurd h
is_list t (dict es) h = absurd h

kept : (t : TypeTree) (v : Value) → HasValue (vec t) v → IsKeptVector (kind_in t) v
kept (scalar k) v h = h
kept (vec t) v h = is_list (vec t) v h
kept (tuple ts) v h = is_list (tuple ts) v h
kept (dictionary t u) v h = is_list (dictionary t u) v h
kept (build b) v h = is_list (build b) v h

same_kind : (ts us : List TypeTree) (n : ℕ) (t : TypeTree) (kind : Option Kind) → ts ≡ us → argument n us ≡ vec t → kind ≡ kind_in (item (argument n ts)) → kind_in t ≡ kind
same_kind ts us n t kind e a k = sym (k ∙ ap (λ xs. kind_in (item (argument n xs))) e ∙ ap (λ u. kind_in (item u)) a)

pub kept_as : (ts us : List TypeTree) (vs : List Value) (n : ℕ) (t : TypeTree) (kind : Option Kind) (v : Value) → ts ≡ us → AreOf ts vs → n < length us → argument n us ≡ vec t → kind ≡ kind_in (item (argument n ts)) → v ≡ value_at n vs → IsKeptVector kind v
kept_as ts us vs n t kind v e h p a k is =
    subst (λ o. IsKeptVector o v) (same_kind ts us n t kind e a k) (kept t v (has_type ts us vs n (vec t) v e h p a is))

pub keys_as : (ts us : List TypeTree) (vs : List Value) (n : ℕ) (t : TypeTree) (v : Value) → ts ≡ us → AreOf ts vs → n < length us → argument n us ≡ vec t → v ≡ value_at n vs → IsKey t → IsKeyVector v
keys_as ts us vs n t v e h p a is q = (t, q, has_type ts us vs n (vec t) v e h p a is)

field_there : (n : ℕ) (us : TypeTrees) (t : TypeTree) (vs : Values) → nth_type n us ≡ Some t → HaveValues us vs → n < length (list_of_values vs)
field_there n no_types t vs e h = let no : ⊥ = cc in absurd no
field_there n (more_types u us) t no_values e h = absurd h
field_there zero (more_types u us) t (and_value v vs) e h = omega arith
field_there (suc n) (more_types u us) t (and_value v vs) e h = omega (arith, field_there n us t vs e h.1)

pub has_field : (n : ℕ) (us : TypeTrees) (t : TypeTree) (v : Value) → nth_type n us ≡ Some t → HasValue (tuple us) v → HasField n v
has_field n us t (number k x) e h = absurd h
has_field n us t (list vs) e h = absurd h
has_field n us t (struct vs) e h = field_there n us t vs e h
has_field n us t (dict es) e h = absurd h
