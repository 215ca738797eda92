-- Lists compared place by place, and values of different forms.
use Rattle.std.proofs.Common.{◌≡◌, ℕ, zero, suc, ◌+◌, ◌<◌, ◌≤◌, min, List, [], ◌∷◌, length, drop, slice_get, Some, Ordering, Less, Equal, Greater, ◌<ℤ◌, int_cmp, nat_cmp, ℤ, ap, ap₂, map, pos, Bool, true, false, sym, subst, refl, ◌∙◌, arith, add-one, to_z, of_z, w8}
use Rattle.std.proofs.lemmas.Int.{ints, to_z-of_z}
use Rattle.weld_data.specs.declared.kind.Kind.TheVariants as kinds
use Rattle.std.specs.Ordering.{ordering_then, MatchOrdering, bool_cmp}
use Rattle.std.specs.Cmp.{ranks, int_cmp_is}
use Rattle.std.specs.Cmp.Lexicographic.{slice_cmp}
use Rattle.weld_data.specs.declared.kind.Kind.{Kind}
use Rattle.weld_data.specs.Operation.{truth}
use Rattle.weld_data.specs.Value.{Value, number, list, struct, dict, values}
use Rattle.weld_builders.specs.ValueOrder.{value_cmp, kind_word}
use Rattle.weld_builders.proofs.Steps.{value_cmp-numbers, value_cmp-lists, value_cmp-structs}
use Rattle.weld_data.specs.declared.num.Num.{Num}
use Rattle.weld_data.specs.declared.value.Val.{Val}
use Rattle.weld_data.specs.declared.value.Val.TheVariants as val
use Rattle.weld_data.specs.declared.value.Column.{Column}
use Rattle.weld_data.specs.View.{view_val, view_column}
use Rattle.std.specs.Option.{IfSome}
use Rattle.weld_data.specs.Order.{HaveOneKind, AreNumbers, IsNumber, IsKey, IsKeyField, AreKeyFields}

module _ {X : Type 0} (R : X → X → Ordering) where
  tie_at : (xs ys : List X) (i : ℕ) (x y : X) → slice_get xs i ≡ Some x → slice_get ys i ≡ Some y → R x y ≡ Equal → slice_cmp R (drop i xs) (drop i ys) ≡ slice_cmp R (drop (suc i) xs) (drop (suc i) ys)
  tie_at [] ys i x y p q e = cc
  tie_at (a ∷ xs) [] i x y p q e = cc
  tie_at (a ∷ xs) (b ∷ ys) zero x y p q e =
      let ax : a ≡ x = cc in let by : b ≡ y = cc in
      let f : R a b ≡ Equal = (λ i. R (ax i) (by i)) ∙ e in
      ap (λ o. ordering_then o (slice_cmp R xs ys)) f
  tie_at (a ∷ xs) (b ∷ ys) (suc i) x y p q e = tie_at xs ys i x y p q e

  pub tie_step : (o : Ordering) (xs ys : List X) (i : ℕ) (x y : X) → slice_get xs i ≡ Some x → slice_get ys i ≡ Some y → o ≡ R x y → o ≡ Equal → slice_cmp R xs ys ≡ slice_cmp R (drop i xs) (drop i ys) → slice_cmp R xs ys ≡ slice_cmp R (drop (i + 1) xs) (drop (i + 1) ys)
  tie_step o xs ys i x y p q is e so = rw add-one (so ∙ tie_at xs ys i x y p q (sym is ∙ e))

  unequal : (o s : Ordering) → (o ≡ Equal → ⊥) → ordering_then o s ≡ o
  unequal Less s n = refl
  unequal Equal s n = absurd (n refl)
  unequal Greater s n = refl

  differ_at : (xs ys : List X) (i : ℕ) (x y : X) → slice_get xs i ≡ Some x → slice_get ys i ≡ Some y → (R x y ≡ Equal → ⊥) → slice_cmp R (drop i xs) (drop i ys) ≡ R x y
  differ_at [] ys i x y p q n = cc
  differ_at (a ∷ xs) [] i x y p q n = cc
  differ_at (a ∷ xs) (b ∷ ys) zero x y p q n =
      let ax : a ≡ x = cc in let by : b ≡ y = cc in
      let f : R a b ≡ R x y = λ i. R (ax i) (by i) in
      ap (λ o. ordering_then o (slice_cmp R xs ys)) f ∙ unequal (R x y) (slice_cmp R xs ys) n
  differ_at (a ∷ xs) (b ∷ ys) (suc i) x y p q n = differ_at xs ys i x y p q n

  pub differ : (o : Ordering) (xs ys : List X) (i : ℕ) (x y : X) → slice_get xs i ≡ Some x → slice_get ys i ≡ Some y → o ≡ R x y → (o ≡ Equal → ⊥) → slice_cmp R xs ys ≡ slice_cmp R (drop i xs) (drop i ys) → o ≡ slice_cmp R xs ys
  differ o xs ys i x y p q is n so = is ∙ sym (so ∙ differ_at xs ys i x y p q (λ e. n (is ∙ e)))

  nat_less : (m n : ℕ) → m < n → nat_cmp m n ≡ Less
  nat_less m n l = by (nat_cmp m n) (ranks m n)
    where
      by : (o : Ordering) → MatchOrdering o (m < n) (m ≡ n) (n < m) → o ≡ Less
      by Less h = refl
      by Equal h = absurd (omega arith)
      by Greater h = absurd (omega arith)

  nat_same : (m n : ℕ) → m ≡ n → nat_cmp m n ≡ Equal
  nat_same m n e = by (nat_cmp m n) (ranks m n)
    where
      by : (o : Ordering) → MatchOrdering o (m < n) (m ≡ n) (n < m) → o ≡ Equal
      by Less h = absurd (omega arith)
      by Equal h = refl
      by Greater h = absurd (omega arith)

  nat_more : (m n : ℕ) → n < m → nat_cmp m n ≡ Greater
  nat_more m n l = by (nat_cmp m n) (ranks m n)
    where
      by : (o : Ordering) → MatchOrdering o (m < n) (m ≡ n) (n < m) → o ≡ Greater
      by Less h = absurd (omega arith)
      by Equal h = absurd (omega arith)
      by Greater h = refl

  drop_none : (xs : List X) (i : ℕ) → length xs ≤ i → drop i xs ≡ []
  drop_none [] zero l = refl
  drop_none [] (suc i) l = refl
  drop_none (x ∷ xs) zero l = absurd (omega arith)
  drop_none (x ∷ xs) (suc i) l = drop_none xs i (omega arith)

  ends : (xs ys : List X) (i : ℕ) → i ≡ min (length xs) (length ys) → slice_cmp R (drop i xs) (drop i ys) ≡ nat_cmp (length xs) (length ys)
  ends [] [] zero e = sym (nat_same 0 0 refl)
  ends [] [] (suc i) e = absurd (omega arith)
  ends [] (y ∷ ys) zero e = sym (nat_less 0 (length (y ∷ ys)) (omega arith))
  ends [] (y ∷ ys) (suc i) e = absurd (omega arith)
  ends (x ∷ xs) [] zero e = sym (nat_more (length (x ∷ xs)) 0 (omega arith))
  ends (x ∷ xs) [] (suc i) e = absurd (omega arith)
  ends (x ∷ xs) (y ∷ ys) zero e = absurd (omega arith)
  ends (x ∷ xs) (y ∷ ys) (suc i) e = let f : i ≡ min (length xs) (length ys) = omega arith in ends xs ys i f ∙ later (length xs) (length ys)
    where
      later : (m n : ℕ) → nat_cmp m n ≡ nat_cmp (suc m) (suc n)
      later m n = by (nat_cmp m n) (ranks m n)
        where
          by : (o : Ordering) → MatchOrdering o (m < n) (m ≡ n) (n < m) → o ≡ nat_cmp (suc m) (suc n)
          by Less h = sym (nat_less (suc m) (suc n) (omega arith))
          by Equal h = sym (nat_same (suc m) (suc n) (omega arith))
          by Greater h = sym (nat_more (suc m) (suc n) (omega arith))

  pub lengths_decide : (xs ys : List X) (i m n : ℕ) → m ≡ length xs → n ≡ length ys → i ≡ min (length xs) (length ys) → slice_cmp R xs ys ≡ slice_cmp R (drop i xs) (drop i ys) → nat_cmp m n ≡ slice_cmp R xs ys
  lengths_decide xs ys i m n f g e so = (λ j. nat_cmp (f j) (g j)) ∙ sym (so ∙ ends xs ys i e)

pub numbers_cmp : (k m : Kind) (x y : ℤ) → ordering_then (int_cmp (kind_word k) (kind_word m)) (int_cmp x y) ≡ value_cmp (number k x) (number m y)
numbers_cmp k m x y = sym (value_cmp-numbers k m x y)

pub lists_cmp : (xs ys : List Value) → slice_cmp value_cmp xs ys ≡ value_cmp (list (values xs)) (list (values ys))
lists_cmp xs ys = sym (value_cmp-lists xs ys)

pub structs_cmp : (xs ys : List Value) → slice_cmp value_cmp xs ys ≡ value_cmp (struct (values xs)) (struct (values ys))
structs_cmp xs ys = sym (value_cmp-structs xs ys)

pub key_field_at : (vs : List Value) (i : ℕ) (v : Value) → AreKeyFields (values vs) → slice_get vs i ≡ Some v → IsKeyField v
key_field_at [] i v h p = cc
key_field_at (w ∷ vs) zero v h p = let e : w ≡ v = cc in subst IsKeyField e h.0
key_field_at (w ∷ vs) (suc i) v h p = key_field_at vs i v h.1 p

-- ---- values of different forms

at_val : (a b : Val) (o : Ordering) (v : Val) → a ≡ v → o ≡ value_cmp (view_val v) (view_val b) → o ≡ value_cmp (view_val a) (view_val b)
at_val a b o v e h = h ∙ ap (λ (w : Val). value_cmp (view_val w) (view_val b)) (sym e)

pub number_first : (a b : Val) (n : Num) → a ≡ val.Num n → ((m : Num) → b ≡ val.Num m → ⊥) → Less ≡ value_cmp (view_val a) (view_val b)
unfolding value_cmp
number_first a b n e not = at_val a b Less (val.Num n) e (by b not)
  where
    by : (b : Val) → ((m : Num) → b ≡ val.Num m → ⊥) → Less ≡ value_cmp (view_val (val.Num n)) (view_val b)
    by (val.Num m) not = absurd (not m refl)
    by (val.List c) not = refl
    by (val.Struct c) not = refl
    by (val.Dict c) not = refl

pub list_after_number : (a b : Val) (x : Column) (m : Num) → a ≡ val.List x → b ≡ val.Num m → Greater ≡ value_cmp (view_val a) (view_val b)
unfolding value_cmp
list_after_number a b x m e f = at_val a b Greater (val.List x) e (ap (λ (w : Val). value_cmp (view_val (val.List x)) (view_val w)) (sym f))

pub list_before : (a b : Val) (x : Column) → a ≡ val.List x → ((m : Num) → b ≡ val.Num m → ⊥) → ((y : Column) → b ≡ val.List y → ⊥) → Less ≡ value_cmp (view_val a) (view_val b)
unfolding value_cmp
list_before a b x e not nor = at_val a b Less (val.List x) e (by b not nor)
  where
    by : (b : Val) → ((m : Num) → b ≡ val.Num m → ⊥) → ((y : Column) → b ≡ val.List y → ⊥) → Less ≡ value_cmp (view_val (val.List x)) (view_val b)
    by (val.Num m) not nor = absurd (not m refl)
    by (val.List c) not nor = absurd (nor c refl)
    by (val.Struct c) not nor = refl
    by (val.Dict c) not nor = refl

pub list_field_last : (a b : Val) (x : Column) → a ≡ val.List x → IsKeyField (view_val b) → ((y : Column) → b ≡ val.List y → ⊥) → Greater ≡ value_cmp (view_val a) (view_val b)
unfolding value_cmp
list_field_last a b x e key nor = at_val a b Greater (val.List x) e (by b key nor)
  where
    by : (b : Val) → IsKeyField (view_val b) → ((y : Column) → b ≡ val.List y → ⊥) → Greater ≡ value_cmp (view_val (val.List x)) (view_val b)
    by (val.Num m) key nor = refl
    by (val.List c) key nor = absurd (nor c refl)
    by (val.Struct c) key nor = absurd key
    by (val.Dict c) key nor = absurd key

pub struct_last : (a b : Val) (x : List Value) → a ≡ val.Struct x → IsKey (view_val b) → ((y : List Value) → b ≡ val.Struct y → ⊥) → Greater ≡ value_cmp (view_val a) (view_val b)
unfolding value_cmp
struct_last a b x e key nor = at_val a b Greater (val.Struct x) e (by b key nor)
  where
    by : (b : Val) → IsKey (view_val b) → ((y : List Value) → b ≡ val.Struct y → ⊥) → Greater ≡ value_cmp (view_val (val.Struct x)) (view_val b)
    by (val.Num m) key nor = refl
    by (val.List c) key nor = refl
    by (val.Struct c) key nor = absurd (nor c refl)
    by (val.Dict c) key nor = absurd key

pub two_lists : (a b : Val) (x y : Column) → a ≡ val.List x → b ≡ val.List y → slice_cmp value_cmp (view_column x) (view_column y) ≡ value_cmp (view_val a) (view_val b)
two_lists a b x y e f = lists_cmp (view_column x) (view_column y) ∙ (λ i. value_cmp (view_val (sym e i)) (view_val (sym f i)))

pub two_structs : (a b : Val) (x y : List Value) → a ≡ val.Struct x → b ≡ val.Struct y → slice_cmp value_cmp x y ≡ value_cmp (view_val a) (view_val b)
two_structs a b x y e f = structs_cmp x y ∙ (λ i. value_cmp (view_val (sym e i)) (view_val (sym f i)))

-- a number as the code has it in 8 bits
abbrev pub bits8 : ℤ → ℤ
bits8 x = to_z w8 (of_z w8 x)

word_fits : (k : Kind) → bits8 (kind_word k) ≡ kind_word k
word_fits kinds.Bool = to_z-of_z w8 (kind_word kinds.Bool) (omega (arith, ints))
word_fits kinds.I8 = to_z-of_z w8 (kind_word kinds.I8) (omega (arith, ints))
word_fits kinds.I16 = to_z-of_z w8 (kind_word kinds.I16) (omega (arith, ints))
word_fits kinds.I32 = to_z-of_z w8 (kind_word kinds.I32) (omega (arith, ints))
word_fits kinds.I64 = to_z-of_z w8 (kind_word kinds.I64) (omega (arith, ints))
word_fits kinds.U8 = to_z-of_z w8 (kind_word kinds.U8) (omega (arith, ints))
word_fits kinds.U16 = to_z-of_z w8 (kind_word kinds.U16) (omega (arith, ints))
word_fits kinds.U32 = to_z-of_z w8 (kind_word kinds.U32) (omega (arith, ints))
word_fits kinds.U64 = to_z-of_z w8 (kind_word kinds.U64) (omega (arith, ints))

pub word_is : (k : Kind) (x : ℤ) → x ≡ kind_word k → bits8 x ≡ kind_word k
word_is k x e = ap bits8 e ∙ word_fits k

-- the fields of a struct that is a key
pub key_fields : (a : Val) (vs : List Value) → a ≡ val.Struct vs → IsKey (view_val a) → AreKeyFields (values vs)
key_fields a vs e h = of vs (subst (λ (w : Val). IsKey (view_val w)) e h)
  where
    of : (vs : List Value) → IsKey (struct (values vs)) → AreKeyFields (values vs)
    of [] h = absurd h
    of (v ∷ vs) h = h

-- what stands in a list of numbers of one kind is a number
pub one_kind_at : (vs : List Value) (i : ℕ) → HaveOneKind (values vs) → IfSome (slice_get vs i) IsNumber
one_kind_at vs i h = of h.0 vs i h.1
  where
    of : (kind : Kind) (vs : List Value) (i : ℕ) → AreNumbers kind (values vs) → IfSome (slice_get vs i) IsNumber
    of kind [] i h = tt
    of kind (number k x ∷ vs) zero h = tt
    of kind (number k x ∷ vs) (suc i) h = of kind vs i h.1
    of kind (list xs ∷ vs) i h = absurd h
    of kind (struct xs ∷ vs) i h = absurd h
    of kind (dict es ∷ vs) i h = absurd h

-- ---- lists that are kept as arrays of one kind

-- the order of the items is that of the numbers that they are
abbrev pub IsOrderOf : (T : Type 0) → (T → T → Ordering) → (T → Value) → Type 0
IsOrderOf T R f = (x y : T) → R x y ≡ value_cmp (f x) (f y)

pub items_cmp : {T : Type 0} (R : T → T → Ordering) (f : T → Value) → IsOrderOf T R f → (xs ys : List T) → slice_cmp R xs ys ≡ slice_cmp value_cmp (map f xs) (map f ys)
items_cmp R f h [] [] = refl
items_cmp R f h [] (y ∷ ys) = refl
items_cmp R f h (x ∷ xs) [] = refl
items_cmp R f h (x ∷ xs) (y ∷ ys) = ap₂ ordering_then (h x y) (items_cmp R f h xs ys)

pub arrays_cmp : {T : Type 0} (R : T → T → Ordering) (f : T → Value) → IsOrderOf T R f → (xs ys ps qs : List T) (vs ws : List Value) (o : Ordering) → o ≡ slice_cmp R ps qs → ps ≡ xs → qs ≡ ys → vs ≡ map f xs → ws ≡ map f ys → o ≡ slice_cmp value_cmp vs ws
arrays_cmp R f h xs ys ps qs vs ws o e p q v w =
    e ∙ ap₂ (slice_cmp R) p q ∙ items_cmp R f h xs ys ∙ sym (ap₂ (slice_cmp value_cmp) v w)

pub ints_order : (k : Kind) → IsOrderOf ℤ int_cmp (number k)
ints_order kinds.Bool x y = numbers_cmp kinds.Bool kinds.Bool x y
ints_order kinds.I8 x y = numbers_cmp kinds.I8 kinds.I8 x y
ints_order kinds.I16 x y = numbers_cmp kinds.I16 kinds.I16 x y
ints_order kinds.I32 x y = numbers_cmp kinds.I32 kinds.I32 x y
ints_order kinds.I64 x y = numbers_cmp kinds.I64 kinds.I64 x y
ints_order kinds.U8 x y = numbers_cmp kinds.U8 kinds.U8 x y
ints_order kinds.U16 x y = numbers_cmp kinds.U16 kinds.U16 x y
ints_order kinds.U32 x y = numbers_cmp kinds.U32 kinds.U32 x y
ints_order kinds.U64 x y = numbers_cmp kinds.U64 kinds.U64 x y

pub nats_order : (k : Kind) → IsOrderOf ℕ nat_cmp (λ (n : ℕ). number k (pos n))
nats_order k m n = int_cmp_is (pos m) (pos n) (nat_cmp m n) (by (nat_cmp m n) (ranks m n)) ∙ ints_order k (pos m) (pos n)
  where
    by : (o : Ordering) → MatchOrdering o (m < n) (m ≡ n) (n < m) → MatchOrdering o (pos m <ℤ pos n) (pos m ≡ pos n) (pos n <ℤ pos m)
    by Less h = omega (arith, ints)
    by Equal h = ap pos h
    by Greater h = omega (arith, ints)

pub bools_order : IsOrderOf Bool bool_cmp (λ (b : Bool). number kinds.Bool (truth b))
bools_order false false = ints_order kinds.Bool (truth false) (truth false)
bools_order false true = ints_order kinds.Bool (truth false) (truth true)
bools_order true false = ints_order kinds.Bool (truth true) (truth false)
bools_order true true = ints_order kinds.Bool (truth true) (truth true)
