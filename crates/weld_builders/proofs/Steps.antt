-- `value_cmp` goes part by part, and on keys of one type it is the order of keys.
use Rattle.std.proofs.Common.{◌≡◌, inl, inr, ℤ, ◌<ℤ◌, List, [], ◌∷◌, Ordering, Less, Equal, Greater, int_cmp, ap, ap₂, sym, subst, refl, ◌∙◌}
use Rattle.std.specs.Ordering.{MatchOrdering, ordering_then}
use Rattle.std.specs.Cmp.{int_cmp_total, int_ranks, tied_itself}
use Rattle.std.specs.Cmp.Lexicographic.{slice_cmp}
use Rattle.weld_data.specs.declared.kind.Kind.{Kind}
use Rattle.weld_data.specs.Value.{Value, number, list, struct, dict, Values, no_values, and_value, values, Entries, no_entries, and_entry}
use Rattle.weld_data.specs.Order.{KeyLess, LexLess, KeyStands, AreNumbers, SameKeyType, SameFieldType, SameFieldTypes}
use Rattle.weld_builders.specs.ValueOrder.{kind_word, words, words_of_values, words_of_entries, value_cmp}

abbrev lists : List ℤ → List ℤ → Ordering
lists = slice_cmp int_cmp

then_assoc : (a b c : Ordering) → ordering_then a (ordering_then b c) ≡ ordering_then (ordering_then a b) c
then_assoc Less b c = refl
then_assoc Equal b c = refl
then_assoc Greater b c = refl

then_end : (a : Ordering) → ordering_then a Equal ≡ a
then_end Less = refl
then_end Equal = refl
then_end Greater = refl

-- three steps and a rest
three : (a b c : Ordering) → ordering_then a (ordering_then b c) ≡ ordering_then (ordering_then a (ordering_then b Equal)) c
three a b c = then_assoc a b c ∙ ap (λ o. ordering_then (ordering_then a o) c) (sym (then_end b))

-- a part, then another, before what follows
two_parts : (a b c r s t : Ordering) → r ≡ ordering_then a s → s ≡ ordering_then b c → t ≡ ordering_then a b → r ≡ ordering_then t c
two_parts a b c r s t e f g = e ∙ ap (ordering_then a) f ∙ then_assoc a b c ∙ ap (λ o. ordering_then o c) (sym g)

mutual
  -- what stands behind two values counts where they tie
  words_cmp : (x y : Value) (r s : List ℤ) → lists (words x r) (words y s) ≡ ordering_then (lists (words x []) (words y [])) (lists r s)
  words_cmp (number k x) (number m y) r s = three (int_cmp (kind_word k) (kind_word m)) (int_cmp x y) (lists r s)
  words_cmp (list xs) (list ys) r s = values_cmp xs ys r s
  words_cmp (struct xs) (struct ys) r s = values_cmp xs ys r s
  words_cmp (dict xs) (dict ys) r s = entries_cmp xs ys r s
  words_cmp _ _ r s = refl

  values_cmp : (xs ys : Values) (r s : List ℤ) → lists (words_of_values xs r) (words_of_values ys s) ≡ ordering_then (lists (words_of_values xs []) (words_of_values ys [])) (lists r s)
  values_cmp no_values no_values r s = refl
  values_cmp no_values (and_value y ys) r s = refl
  values_cmp (and_value x xs) no_values r s = refl
  values_cmp (and_value x xs) (and_value y ys) r s =
      two_parts _ _ _ _ _ _ (words_cmp x y (words_of_values xs r) (words_of_values ys s)) (values_cmp xs ys r s) (words_cmp x y (words_of_values xs []) (words_of_values ys []))

  entries_cmp : (xs ys : Entries) (r s : List ℤ) → lists (words_of_entries xs r) (words_of_entries ys s) ≡ ordering_then (lists (words_of_entries xs []) (words_of_entries ys [])) (lists r s)
  entries_cmp no_entries no_entries r s = refl
  entries_cmp no_entries (and_entry l w ys) r s = refl
  entries_cmp (and_entry k v xs) no_entries r s = refl
  entries_cmp (and_entry k v xs) (and_entry l w ys) r s =
      two_parts _ _ _ _ _ _
      (words_cmp k l (words v (words_of_entries xs r)) (words w (words_of_entries ys s)))
      (two_parts _ _ _ _ _ _ (words_cmp v w (words_of_entries xs r) (words_of_entries ys s)) (entries_cmp xs ys r s) (words_cmp v w (words_of_entries xs []) (words_of_entries ys [])))
      (words_cmp k l (words v (words_of_entries xs [])) (words w (words_of_entries ys [])))

-- numbers: their kinds, then themselves
pub value_cmp-numbers : (k m : Kind) (x y : ℤ) → value_cmp (number k x) (number m y) ≡ ordering_then (int_cmp (kind_word k) (kind_word m)) (int_cmp x y)
unfolding value_cmp
value_cmp-numbers k m x y = ap (ordering_then (int_cmp (kind_word k) (kind_word m))) (then_end (int_cmp x y))

-- the elements of a list and the fields of a struct: the first that don't tie decide, and else the lengths do
pub lex_cmp : (xs ys : List Value) → lists (words_of_values (values xs) []) (words_of_values (values ys) []) ≡ slice_cmp value_cmp xs ys
unfolding value_cmp
lex_cmp [] [] = refl
lex_cmp [] (y ∷ ys) = refl
lex_cmp (x ∷ xs) [] = refl
lex_cmp (x ∷ xs) (y ∷ ys) = words_cmp x y _ _ ∙ ap (ordering_then (lists (words x []) (words y []))) (lex_cmp xs ys)

pub value_cmp-lists : (xs ys : List Value) → value_cmp (list (values xs)) (list (values ys)) ≡ slice_cmp value_cmp xs ys
unfolding value_cmp
value_cmp-lists xs ys = lex_cmp xs ys

pub value_cmp-structs : (xs ys : List Value) → value_cmp (struct (values xs)) (struct (values ys)) ≡ slice_cmp value_cmp xs ys
unfolding value_cmp
value_cmp-structs xs ys = lex_cmp xs ys

-- ---- keys of one type

-- the numbers of two values are, place by place, of one kind as far as both go
abbrev mutual
  pub HaveSameKinds : Value → Value → Type 0
  HaveSameKinds (number k x) (number m y) = k ≡ m
  HaveSameKinds (list xs) (list ys) = AllSameKinds xs ys
  HaveSameKinds (struct xs) (struct ys) = AllSameKinds xs ys
  HaveSameKinds _ _ = ⊥

  pub AllSameKinds : Values → Values → Type 0
  AllSameKinds no_values ys = Unit {0}
  AllSameKinds (and_value x xs) no_values = Unit {0}
  AllSameKinds (and_value x xs) (and_value y ys) = HaveSameKinds x y × AllSameKinds xs ys

-- how lists of values stand, by their numbers
abbrev LexStands : Ordering → Values → Values → Type 0
LexStands r xs ys = MatchOrdering r (LexLess xs ys) (xs ≡ ys) (LexLess ys xs)

step : (r s : Ordering) (x y : Value) (xs ys : Values) → KeyStands r x y → LexStands s xs ys → LexStands (ordering_then r s) (and_value x xs) (and_value y ys)
step Less s x y xs ys h g = inl h
step Greater s x y xs ys h g = inl h
step Equal Less x y xs ys h g = inr (h, g)
step Equal Equal x y xs ys h g = ap₂ and_value h g
step Equal Greater x y xs ys h g = inr (sym h, g)

under : (f : Values → Value) (r : Ordering) (xs ys : Values) → ((us vs : Values) → LexLess us vs → KeyLess (f us) (f vs)) → LexStands r xs ys → KeyStands r (f xs) (f ys)
under f Less xs ys up h = up xs ys h
under f Equal xs ys up h = ap f h
under f Greater xs ys up h = up ys xs h

number_stands : (k : Kind) (r : Ordering) (x y : ℤ) → MatchOrdering r (x <ℤ y) (x ≡ y) (y <ℤ x) → KeyStands r (number k x) (number k y)
number_stands k Less x y h = h
number_stands k Equal x y h = ap (number k) h
number_stands k Greater x y h = h

mutual
  stands : (x y : Value) → HaveSameKinds x y → KeyStands (lists (words x []) (words y [])) x y
  stands (number k x) (number m y) e =
      let tie : int_cmp (kind_word k) (kind_word m) ≡ Equal = ap (λ n. int_cmp (kind_word k) (kind_word n)) (sym e) ∙ tied_itself int_cmp_total (kind_word k) in
      let is : lists (words (number k x) []) (words (number m y) []) ≡ int_cmp x y = ap (λ o. ordering_then o (ordering_then (int_cmp x y) Equal)) tie ∙ then_end (int_cmp x y) in
      subst (λ o. KeyStands o (number k x) (number m y)) (sym is)
      (subst (λ n. KeyStands (int_cmp x y) (number k x) (number n y)) e (number_stands k (int_cmp x y) x y (int_ranks x y)))
  stands (list xs) (list ys) h = under list _ xs ys (λ us vs l. l) (all_stand xs ys h)
  stands (struct xs) (struct ys) h = under struct _ xs ys (λ us vs l. l) (all_stand xs ys h)
  stands (number k x) (list ys) h = absurd h
  stands (number k x) (struct ys) h = absurd h
  stands (number k x) (dict ys) h = absurd h
  stands (list xs) (number m y) h = absurd h
  stands (list xs) (struct ys) h = absurd h
  stands (list xs) (dict ys) h = absurd h
  stands (struct xs) (number m y) h = absurd h
  stands (struct xs) (list ys) h = absurd h
  stands (struct xs) (dict ys) h = absurd h
  stands (dict xs) _ h = absurd h

  all_stand : (xs ys : Values) → AllSameKinds xs ys → LexStands (lists (words_of_values xs []) (words_of_values ys [])) xs ys
  all_stand no_values no_values h = refl
  all_stand no_values (and_value y ys) h = tt
  all_stand (and_value x xs) no_values h = tt
  all_stand (and_value x xs) (and_value y ys) h =
      subst (λ o. LexStands o (and_value x xs) (and_value y ys)) (sym (words_cmp x y (words_of_values xs []) (words_of_values ys [])))
      (step _ _ x y xs ys (stands x y h.0) (all_stand xs ys h.1))

-- keys of one type have numbers of the same kinds. This alone looks into what it is to be keys of one type

numbers_alike : (kind : Kind) (xs ys : Values) → AreNumbers kind xs → AreNumbers kind ys → AllSameKinds xs ys
numbers_alike kind no_values ys p q = tt
numbers_alike kind (and_value x xs) no_values p q = tt
numbers_alike kind (and_value (number k x) xs) (and_value (number m y) ys) p q = (p.0 ∙ sym q.0, numbers_alike kind xs ys p.1 q.1)
numbers_alike kind (and_value (number k x) xs) (and_value _ ys) p q = absurd q
numbers_alike kind (and_value _ xs) (and_value y ys) p q = absurd p

field_alike : (x y : Value) → SameFieldType x y → HaveSameKinds x y
field_alike (number k x) (number m y) s = s
field_alike (number k x) _ s = absurd s
field_alike (list xs) (list ys) s = numbers_alike s.0 xs ys s.1 s.2
field_alike (list xs) _ s = absurd s
field_alike (struct xs) y s = absurd s
field_alike (dict es) y s = absurd s

fields_alike : (xs ys : Values) → SameFieldTypes xs ys → AllSameKinds xs ys
fields_alike no_values ys s = tt
fields_alike (and_value x xs) no_values s = tt
fields_alike (and_value x xs) (and_value y ys) s = (field_alike x y s.0, fields_alike xs ys s.1)

keys_alike : (x y : Value) → SameKeyType x y → HaveSameKinds x y
keys_alike (number k x) y s = field_alike (number k x) y s
keys_alike (list xs) y s = field_alike (list xs) y s
keys_alike (struct no_values) y s = absurd s
keys_alike (struct (and_value x xs)) (struct (and_value y ys)) s = (field_alike x y s.0, fields_alike xs ys s.1)
keys_alike (struct (and_value x xs)) (struct no_values) s = absurd s
keys_alike (struct (and_value x xs)) (number k y) s = absurd s
keys_alike (struct (and_value x xs)) (list ys) s = absurd s
keys_alike (struct (and_value x xs)) (dict es) s = absurd s
keys_alike (dict es) y s = absurd s

pub keys_stand : (x y : Value) → SameKeyType x y → KeyStands (value_cmp x y) x y
unfolding value_cmp
keys_stand x y s = stands x y (keys_alike x y s)
