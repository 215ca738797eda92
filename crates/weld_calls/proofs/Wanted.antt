-- What each pattern says of a type.
use Rattle.std.proofs.Common.{◌≡◌, ℕ, Bool, true, false, ◌&&◌, List, [], ◌∷◌, length, Option, Some, None, option_map, refl, sym, ap, subst, ◌∙◌, arith, if◌then◌else◌}
use Rattle.weld_data.specs.declared.kind.Kind.{Kind}
use Rattle.weld_data.specs.declared.kind.Kind.TheVariants as kinds
use Rattle.weld_data.specs.Kind.{IsInteger}
use Rattle.weld_data.specs.Lookup.{same_kind}
use Rattle.weld_tree.specs.TypeTree.{TypeTree, TypeTrees, scalar, vec, struct, no_types, more_types}
use Rattle.weld_tree.specs.Types.{IsKey, IsKeyField, AreKeyFields}
use Rattle.weld_calls.specs.declared.pattern.Pattern.{Pattern}
use Rattle.weld_calls.specs.declared.pattern.Pattern.TheVariants.{Number, Numbers}
use Rattle.weld_calls.specs.CallTypes.{is_integer, is_number, is_vec, are_vecs, is_key_field, are_key_fields, is_key, is_table, is_wanted, k_after, first_of, row, no_column, as_written, misfit, misfit_from}
use Rattle.weld_calls.specs.declared.call.Call.{Call}
use Rattle.weld_calls.specs.CallRows.{AreColumns}

-- ---- truths and options

pub no : {A : Type 0} → false ≡ true → A
no h = absurd (let n : false ≡ true = h in cc)

pub both : (a b : Bool) → (a && b) ≡ true → (a ≡ true) × (b ≡ true)
both true b h = (refl, h)
both false b h = no h

pub some_none : {A B : Type 0} (x : A) → Some x ≡ None → B
some_none x h = absurd (let n : Some x ≡ None = h in cc)

pub first_none : {A : Type 0} (x y : Option A) → first_of x y ≡ None → (x ≡ None) × (y ≡ None)
first_none None y h = (refl, h)
first_none (Some x) y h = some_none x h

mapped_none : {A B : Type 0} (f : A → B) (o : Option A) → option_map f o ≡ None → o ≡ None
mapped_none f None h = refl
mapped_none f (Some x) h = some_none (f x) h

-- what fits, fits by its row, and a column is there
pub row_none : (call : Call) (ts : List TypeTree) → misfit call ts ≡ None → misfit_from None 1 (row call) ts ≡ None
row_none call ts h = mapped_none (as_written call) (misfit_from None 1 (row call) ts) (first_none (option_map (as_written call) (misfit_from None 1 (row call) ts)) (no_column call ts) h).0

pub column_none : (call : Call) (ts : List TypeTree) → misfit call ts ≡ None → no_column call ts ≡ None
column_none call ts h = (first_none (option_map (as_written call) (misfit_from None 1 (row call) ts)) (no_column call ts) h).1

pub chosen : (b : Bool) (r : Option (ℕ × TypeTree)) (x : ℕ × TypeTree) → (if b then r else Some x) ≡ None → (b ≡ true) × (r ≡ None)
chosen true r x h = (refl, h)
chosen false r x h = some_none x h

-- ---- kinds

pub integer_kind : (k : Kind) → is_integer k ≡ true → IsInteger k
integer_kind kinds.Bool h = no h
integer_kind kinds.I8 h = tt
integer_kind kinds.I16 h = tt
integer_kind kinds.I32 h = tt
integer_kind kinds.I64 h = tt
integer_kind kinds.U8 h = tt
integer_kind kinds.U16 h = tt
integer_kind kinds.U32 h = tt
integer_kind kinds.U64 h = tt

pub same_kinds : (k m : Kind) → same_kind k m ≡ true → k ≡ m
same_kinds kinds.Bool kinds.Bool h = refl
same_kinds kinds.I8 kinds.I8 h = refl
same_kinds kinds.I16 kinds.I16 h = refl
same_kinds kinds.I32 kinds.I32 h = refl
same_kinds kinds.I64 kinds.I64 h = refl
same_kinds kinds.U8 kinds.U8 h = refl
same_kinds kinds.U16 kinds.U16 h = refl
same_kinds kinds.U32 kinds.U32 h = refl
same_kinds kinds.U64 kinds.U64 h = refl
same_kinds _ _ h = no h

-- ---- types

pub number_is : (f : Kind → Bool) (t : TypeTree) → is_number f t ≡ true → (k : Kind) × (f k ≡ true) × (t ≡ scalar k)
number_is f (scalar k) h = (k, h, refl)
number_is f _ h = no h

pub vec_is : (f : TypeTree → Bool) (t : TypeTree) → is_vec f t ≡ true → (u : TypeTree) × (f u ≡ true) × (t ≡ vec u)
vec_is f (vec u) h = (u, h, refl)
vec_is f _ h = no h

-- a vector of numbers, whichever kinds these may be of
pub numbers_are : (f : Kind → Bool) (t : TypeTree) → is_vec (is_number f) t ≡ true → (k : Kind) × (f k ≡ true) × (t ≡ vec (scalar k))
numbers_are f t h =
    let v = vec_is (is_number f) t h in
    let n = number_is f v.0 v.1 in
    (n.0, n.1, v.2 ∙ ap vec n.2)

-- of one kind
pub this_number : (k : Kind) (t : TypeTree) → is_number (same_kind k) t ≡ true → t ≡ scalar k
this_number k t h = let n = number_is (same_kind k) t h in n.2 ∙ ap scalar (sym (same_kinds k n.0 n.1))

pub these_numbers : (k : Kind) (t : TypeTree) → is_vec (is_number (same_kind k)) t ≡ true → t ≡ vec (scalar k)
these_numbers k t h = let v = vec_is (is_number (same_kind k)) t h in v.2 ∙ ap vec (this_number k v.0 v.1)

-- ---- keys and columns

pub key_field : (t : TypeTree) → is_key_field t ≡ true → IsKeyField t
key_field (scalar k) h = tt
key_field (vec (scalar k)) h = tt
key_field (vec _) h = no h
key_field _ h = no h

pub key_fields : (ts : TypeTrees) → are_key_fields ts ≡ true → AreKeyFields ts
key_fields no_types h = tt
key_fields (more_types t ts) h = let p = both (is_key_field t) (are_key_fields ts) h in (key_field t p.0, key_fields ts p.1)

pub key_is : (t : TypeTree) → is_key t ≡ true → IsKey t
key_is (scalar k) h = tt
key_is (vec (scalar k)) h = tt
key_is (vec _) h = no h
key_is (struct no_types) h = no h
key_is (struct (more_types t ts)) h = (tt, key_fields (more_types t ts) h)
key_is _ h = no h

pub vectors_are : (ts : TypeTrees) → are_vecs ts ≡ true → AreColumns ts
vectors_are no_types h = tt
vectors_are (more_types t ts) h =
    let p = both (is_vec (λ u. true) t) (are_vecs ts) h in
    let v = vec_is (λ u. true) t p.0 in
    ((v.0, v.2), vectors_are ts p.1)

pub table_is : (t : TypeTree) → is_table t ≡ true → (us : TypeTrees) × AreColumns us × (t ≡ struct us)
table_is (struct us) h = (us, vectors_are us h, refl)
table_is _ h = no h

-- ---- as many types as patterns, each as wanted

pub one_fits : (p : Pattern) (ts : List TypeTree) → length ts ≡ 1 → misfit_from None 1 (p ∷ []) ts ≡ None
    → (t : TypeTree) × (is_wanted None p t ≡ true) × (ts ≡ t ∷ [])
one_fits p [] c h = absurd (omega (arith, c))
one_fits p (t ∷ []) c h = (t, (chosen (is_wanted None p t) None (1, t) h).0, refl)
one_fits p (t ∷ u ∷ us) c h = absurd (omega (arith, c))

pub two_fit : (p q : Pattern) (ts : List TypeTree) → length ts ≡ 2 → misfit_from None 1 (p ∷ q ∷ []) ts ≡ None
    → (t : TypeTree) × (u : TypeTree) × (is_wanted None p t ≡ true) × (is_wanted (k_after None p t) q u ≡ true) × (ts ≡ t ∷ u ∷ [])
two_fit p q [] c h = absurd (omega (arith, c))
two_fit p q (t ∷ []) c h = absurd (omega (arith, c))
two_fit p q (t ∷ u ∷ []) c h =
    let a = chosen (is_wanted None p t) (misfit_from (k_after None p t) 2 (q ∷ []) (u ∷ [])) (1, t) h in
    let b = chosen (is_wanted (k_after None p t) q u) None (2, u) a.1 in
    (t, u, a.0, b.0, refl)
two_fit p q (t ∷ u ∷ v ∷ vs) c h = absurd (omega (arith, c))

pub three_fit : (p q r : Pattern) (ts : List TypeTree) → length ts ≡ 3 → misfit_from None 1 (p ∷ q ∷ r ∷ []) ts ≡ None
    → (t : TypeTree) × (u : TypeTree) × (v : TypeTree) × (is_wanted None p t ≡ true) × (is_wanted (k_after None p t) q u ≡ true)
    × (is_wanted (k_after (k_after None p t) q u) r v ≡ true) × (ts ≡ t ∷ u ∷ v ∷ [])
three_fit p q r [] c h = absurd (omega (arith, c))
three_fit p q r (t ∷ []) c h = absurd (omega (arith, c))
three_fit p q r (t ∷ u ∷ []) c h = absurd (omega (arith, c))
three_fit p q r (t ∷ u ∷ v ∷ []) c h =
    let a = chosen (is_wanted None p t) (misfit_from (k_after None p t) 2 (q ∷ r ∷ []) (u ∷ v ∷ [])) (1, t) h in
    let b = chosen (is_wanted (k_after None p t) q u) (misfit_from (k_after (k_after None p t) q u) 3 (r ∷ []) (v ∷ [])) (2, u) a.1 in
    let d = chosen (is_wanted (k_after (k_after None p t) q u) r v) None (3, v) b.1 in
    (t, u, v, a.0, b.0, d.0, refl)
three_fit p q r (t ∷ u ∷ v ∷ w ∷ ws) c h = absurd (omega (arith, c))

-- ---- numbers of one kind K

pub one_vector : (t : TypeTree) → is_wanted None Numbers t ≡ true → (k : Kind) × IsInteger k × (t ≡ vec (scalar k))
one_vector t h = let n = numbers_are is_integer t h in (n.0, integer_kind n.0 n.1, n.2)

-- K is known after a vector
pub next_number : (t u : TypeTree) (k : Kind) → t ≡ vec (scalar k) → is_wanted (k_after None Numbers t) Number u ≡ true → u ≡ scalar k
next_number t u k e h = this_number k u (subst (λ x. is_wanted (k_after None Numbers x) Number u ≡ true) e h)

pub next_vector : (t u : TypeTree) (k : Kind) → t ≡ vec (scalar k) → is_wanted (k_after None Numbers t) Numbers u ≡ true → u ≡ vec (scalar k)
next_vector t u k e h = these_numbers k u (subst (λ x. is_wanted (k_after None Numbers x) Numbers u ≡ true) e h)
