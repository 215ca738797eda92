-- The tests of the code answer as those of the definitions.
use Rattle.std.proofs.Common.{◌≡◌, ◌↔◌, Bool, true, false, IsTrue, refl, sym, ap, subst, ◌∙◌, ℕ, zero, suc, ◌+◌, ◌<◌, ◌≤◌, List, [], ◌∷◌, length, Option, Some, None, MatchOption, slice_index_or, Bor, arith, ◌&&◌, ◌||◌, drop, get_or}
use Rattle.std.proofs.lemmas.List.{at_drop_more, drop_all}
use Rattle.std.specs.Slice.{IsItemAt}
use Rattle.weld_tree.specs.declared.code.Code.TheVariants.{Y20, Y22}
use Rattle.weld_types.specs.Walk.{fits, breaks, field_type, demand, struct_type}
use Rattle.weld_tree.specs.TypeTree.{TypeTree, BuildTree, pack, scalar, vec, struct, dict, build}
use Rattle.weld_tree.specs.Types.{IsBuilderFree, IsBuilder, IsScalarType, IsIntegerType, IsWellFormed, IsWellFormedBuild, IsWithinLimits}
use Rattle.weld_types.specs.Tests.{same_type, are_all, are_builder_free, are_builders, is_scalar, is_integer, is_builder_free, is_builder, is_well_formed, is_well_formed_build, is_within_limits}
use Rattle.weld_types.proofs.TestLemmas.{clash, same_type_true, true_same_type, scalar_of, of_scalar, integer_of, of_integer, free_of, of_free, builder_of, of_builder, formed_of, of_formed, build_formed_of, of_build_formed, limits_of, of_limits}

alike : {P : Type 0} (b c : Bool) → (IsTrue b ↔ P) → (c ≡ true → P) → (P → c ≡ true) → b ≡ c
alike true c h f g = sym (g (h.0 refl))
alike false true h f g = h.1 (f refl)
alike false false h f g = refl

pub same_bool : (b : Bool) (t u : TypeTree) → (IsTrue b ↔ (t ≡ u)) → b ≡ same_type t u
same_bool b t u h = alike b (same_type t u) h (same_type_true t u) (true_same_type t u)

pub scalar_bool : (b : Bool) (t : TypeTree) → (IsTrue b ↔ IsScalarType t) → b ≡ is_scalar t
scalar_bool b t h = alike b (is_scalar t) h (scalar_of t) (of_scalar t)

pub integer_bool : (b : Bool) (t : TypeTree) → (IsTrue b ↔ IsIntegerType t) → b ≡ is_integer t
integer_bool b t h = alike b (is_integer t) h (integer_of t) (of_integer t)

pub free_bool : (b : Bool) (t : TypeTree) → (IsTrue b ↔ IsBuilderFree t) → b ≡ is_builder_free t
free_bool b t h = alike b (is_builder_free t) h (free_of t) (of_free t)

pub builder_bool : (b : Bool) (t : TypeTree) → (IsTrue b ↔ IsBuilder t) → b ≡ is_builder t
builder_bool b t h = alike b (is_builder t) h (builder_of t) (of_builder t)

pub formed_bool : (b : Bool) (t : TypeTree) → (IsTrue b ↔ IsWellFormed t) → b ≡ is_well_formed t
formed_bool b t h = alike b (is_well_formed t) h (formed_of t) (of_formed t)

pub build_formed_bool : (b : Bool) (t : BuildTree) → (IsTrue b ↔ IsWellFormedBuild t) → b ≡ is_well_formed_build t
build_formed_bool b t h = alike b (is_well_formed_build t) h (build_formed_of t) (of_build_formed t)

pub limits_bool : (b : Bool) (t : TypeTree) → (IsTrue b ↔ IsWithinLimits t) → b ≡ is_within_limits t
limits_bool b t h = alike b (is_within_limits t) h (limits_of t) (of_limits t)

none_at : (ts : List TypeTree) (n : ℕ) → length ts ≤ n → field_type n (pack ts) ≡ breaks Y20
none_at [] zero h = refl
none_at [] (suc n) h = refl
none_at (t ∷ ts) zero h = let no : ⊥ = omega (arith, h) in absurd no
none_at (t ∷ ts) (suc n) h = none_at ts n (omega (arith, h))

some_at : (ts : List TypeTree) (n : ℕ) (t : TypeTree) → n < length ts → t ≡ slice_index_or ts n t → field_type n (pack ts) ≡ fits t
some_at [] zero t h e = let no : ⊥ = omega (arith, h) in absurd no
some_at [] (suc n) t h e = let no : ⊥ = omega (arith, h) in absurd no
some_at (u ∷ ts) zero t h e = ap fits (sym e)
some_at (u ∷ ts) (suc n) t h e = some_at ts n t (omega (arith, h)) e

pub nth_by : (ts xs : List TypeTree) (n : ℕ) (r : Option (Bor TypeTree)) → xs ≡ ts → IsItemAt xs n r → MatchOption r (field_type n (pack ts) ≡ breaks Y20) (λ t. field_type n (pack ts) ≡ fits t.now)
nth_by ts xs n None same h = none_at ts n (subst (λ (ys : List TypeTree). length ys ≤ n) same h.3)
nth_by ts xs n (Some x) same h =
    some_at ts n x.now (subst (λ (ys : List TypeTree). n < length ys) same h.3.0) (subst (λ (ys : List TypeTree). x.now ≡ slice_index_or ys n x.now) same h.1)

pub all_left : (ts : List TypeTree) (i : ℕ) (u t : TypeTree) → i < length ts → u ≡ get_or ts i u → are_all (pack (drop i ts)) t ≡ (same_type u t && are_all (pack (drop (i + 1) ts)) t)
all_left ts i u t h p = at_drop_more (λ rest. are_all (pack rest) t) ts i u h ∙ ap (λ v. same_type v t && are_all (pack (drop (i + 1) ts)) t) (sym p)

pub no_all_left : (ts : List TypeTree) (i : ℕ) (t : TypeTree) → length ts ≤ i → are_all (pack (drop i ts)) t ≡ true
no_all_left ts i t h = ap (λ rest. are_all (pack rest) t) (drop_all i ts h)

pub some_struct : (ts : List TypeTree) → 0 < length ts → struct_type (pack ts) ≡ demand (are_builder_free (pack ts) || are_builders (pack ts)) Y22 (fits (struct (pack ts)))
some_struct [] h = let no : ⊥ = omega (arith, h) in absurd no
some_struct (t ∷ ts) h = refl
