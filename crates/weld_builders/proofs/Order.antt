-- `value_cmp` is a total order, and tells values apart.
use Rattle.std.proofs.Common.{◌≡◌, ℤ, List, [], ◌∷◌, ap, ap₂, refl}
use Rattle.std.specs.Cmp.{IsTotalOrder, on_total, int_cmp_total}
use Rattle.std.specs.Cmp.Lexicographic.{lists_total}
use Rattle.std.specs.FinMap.{IsAntisymmetric, slice_cmp-IsAntisymmetric, int_cmp-IsAntisymmetric}
use Rattle.weld_data.specs.declared.kind.Kind.{Kind}
use Rattle.weld_data.specs.declared.kind.Kind.TheVariants.{Bool, I8, I16, I32, I64, U8, U16, U32, U64}
use Rattle.weld_data.specs.Value.{Value, number, list, struct, dict, Values, no_values, and_value, Entries, no_entries, and_entry}
use Rattle.weld_builders.specs.ValueOrder.{kind_word, words, words_of_values, words_of_entries, value_cmp}

pub value_cmp_total : IsTotalOrder value_cmp
unfolding value_cmp
value_cmp_total = on_total (λ v. words v []) (lists_total int_cmp_total)

kind_word_inj : (k m : Kind) → kind_word k ≡ kind_word m → k ≡ m
kind_word_inj Bool Bool e = refl
kind_word_inj I8 I8 e = refl
kind_word_inj I16 I16 e = refl
kind_word_inj I32 I32 e = refl
kind_word_inj I64 I64 e = refl
kind_word_inj U8 U8 e = refl
kind_word_inj U16 U16 e = refl
kind_word_inj U32 U32 e = refl
kind_word_inj U64 U64 e = refl
kind_word_inj _ _ e = cc

head_is : (a b : ℤ) (r s : List ℤ) → a ∷ r ≡ b ∷ s → a ≡ b
head_is a b r s e = cc

tail_is : (a b : ℤ) (r s : List ℤ) → a ∷ r ≡ b ∷ s → r ≡ s
tail_is a b r s e = cc

mutual
  words_inj : (x y : Value) (r s : List ℤ) → words x r ≡ words y s → (x ≡ y) × (r ≡ s)
  words_inj (number k x) (number m y) r s e =
      let t = tail_is _ _ _ _ e in let u = tail_is _ _ _ _ t in
      (ap₂ number (kind_word_inj k m (head_is _ _ _ _ t)) (head_is _ _ _ _ u), tail_is _ _ _ _ u)
  words_inj (list xs) (list ys) r s e = let h = values_inj xs ys r s (tail_is _ _ _ _ e) in (ap list h.0, h.1)
  words_inj (struct xs) (struct ys) r s e = let h = values_inj xs ys r s (tail_is _ _ _ _ e) in (ap struct h.0, h.1)
  words_inj (dict xs) (dict ys) r s e = let h = entries_inj xs ys r s (tail_is _ _ _ _ e) in (ap dict h.0, h.1)
  words_inj _ _ r s e = cc

  values_inj : (xs ys : Values) (r s : List ℤ) → words_of_values xs r ≡ words_of_values ys s → (xs ≡ ys) × (r ≡ s)
  values_inj no_values no_values r s e = (refl, tail_is _ _ _ _ e)
  values_inj no_values (and_value y ys) r s e = cc
  values_inj (and_value x xs) no_values r s e = cc
  values_inj (and_value x xs) (and_value y ys) r s e =
      let h = words_inj x y _ _ (tail_is _ _ _ _ e) in
      let g = values_inj xs ys r s h.1 in
      (ap₂ and_value h.0 g.0, g.1)

  entries_inj : (xs ys : Entries) (r s : List ℤ) → words_of_entries xs r ≡ words_of_entries ys s → (xs ≡ ys) × (r ≡ s)
  entries_inj no_entries no_entries r s e = (refl, tail_is _ _ _ _ e)
  entries_inj no_entries (and_entry l w ys) r s e = cc
  entries_inj (and_entry k v xs) no_entries r s e = cc
  entries_inj (and_entry k v xs) (and_entry l w ys) r s e =
      let h = words_inj k l _ _ (tail_is _ _ _ _ e) in
      let g = words_inj v w _ _ h.1 in
      let f = entries_inj xs ys r s g.1 in
      (λ i. and_entry (h.0 i) (g.0 i) (f.0 i), f.1)

pub value_cmp-IsAntisymmetric : IsAntisymmetric value_cmp
unfolding value_cmp
value_cmp-IsAntisymmetric x y e =
    (words_inj x y [] [] (slice_cmp-IsAntisymmetric int_cmp-IsAntisymmetric (words x []) (words y []) e)).0
