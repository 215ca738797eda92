-- Texts of different starts stand to each other as the starts do.
use Rattle.std.proofs.Common.{◌≡◌, ℕ, zero, suc, ◌+◌, ◌*◌, ◌^◌, ◌<◌, ◌≤◌, ℤ, ◌<ℤ◌, List, [], ◌∷◌, drop, map, Ordering, Less, Equal, Greater, int_cmp, nat_cmp, ap, sym, subst, refl, ◌∙◌, arith, add-one}
use Rattle.std.proofs.lemmas.Int.{ints}
use Rattle.std.proofs.lemmas.List.{drop-drop}
use Rattle.std.proofs.Math.Nat.{pow-suc, pow-le-pow_right}
use Rattle.std.specs.Ordering.{MatchOrdering, ordering_then, ordering_reverse}
use Rattle.std.specs.Cmp.{ranks, int_ranks}
use Rattle.std.specs.Cmp.Lexicographic.{slice_cmp}
use Rattle.weld_data.specs.declared.kind.Kind.TheVariants as kinds
use Rattle.weld_data.specs.Value.{number}
use Rattle.weld_data.specs.declared.value.Val.{Val}
use Rattle.weld_data.specs.declared.value.Val.TheVariants as val
use Rattle.weld_data.specs.declared.value.Column.TheVariants as column
use Rattle.weld_data.specs.View.{view_val}
use Rattle.weld_builders.specs.ValueOrder.{value_cmp}
use Rattle.weld_builders.proofs.Order.{value_cmp_total}
use Rattle.weld_sorted.specs.Start.{IsDigit, IsStart, IsText, HasStart}
use Rattle.weld_sorted.proofs.Comparing.{items_cmp, ints_order, lists_cmp}

pub digit_low : (xs : List ℤ) (d : ℕ) → IsDigit xs d → d < 256
digit_low [] d h = omega (arith, h)
digit_low (x ∷ xs) d h = h.1

-- what stands before decides
before_decides : (n a b : ℕ) (xs ys : List ℤ) (s t : ℕ) → IsStart n a xs s → IsStart n b ys t → a < b → s < t
unfolding IsStart
before_decides zero a b xs ys s t h g l = omega (arith, h, g)
before_decides (suc n) a b xs ys s t h g l =
    let low = digit_low xs h.0 h.1 in
    before_decides n (a * 256 + h.0) (b * 256 + g.0) (drop 1 xs) (drop 1 ys) s t h.2 g.2 (omega (arith, low))

int_less : (x y : ℤ) → x <ℤ y → int_cmp x y ≡ Less
int_less x y l = by (int_cmp x y) (int_ranks x y)
  where
    by : (o : Ordering) → MatchOrdering o (x <ℤ y) (x ≡ y) (y <ℤ x) → o ≡ Less
    by Less h = refl
    by Equal h = absurd (omega (arith, ints))
    by Greater h = absurd (omega (arith, ints))

int_same : (x y : ℤ) → x ≡ y → int_cmp x y ≡ Equal
int_same x y e = by (int_cmp x y) (int_ranks x y)
  where
    by : (o : Ordering) → MatchOrdering o (x <ℤ y) (x ≡ y) (y <ℤ x) → o ≡ Equal
    by Less h = absurd (omega (arith, ints))
    by Equal h = refl
    by Greater h = absurd (omega (arith, ints))

none_below : (xs : List ℤ) → slice_cmp int_cmp xs [] ≡ Less → ⊥
none_below [] e = cc
none_below (x ∷ xs) e = cc

-- the list of the lesser start is less
start_less : (n a : ℕ) (xs ys : List ℤ) (s t : ℕ) → IsStart n a xs s → IsStart n a ys t → s < t → slice_cmp int_cmp xs ys ≡ Less
unfolding IsStart
start_less zero a xs ys s t h g l = absurd (omega (arith, h, g))
start_less (suc n) a xs ys s t h g l = by (λ b vs ws p q. start_less n b vs ws s t p q l) (nat_cmp h.0 g.0) (ranks h.0 g.0) xs ys h.1 g.1 h.2 g.2
  where
    by : ((b : ℕ) (vs ws : List ℤ) → IsStart n b vs s → IsStart n b ws t → slice_cmp int_cmp vs ws ≡ Less) → (o : Ordering) → MatchOrdering o (h.0 < g.0) (h.0 ≡ g.0) (g.0 < h.0) → (xs ys : List ℤ) → IsDigit xs h.0 → IsDigit ys g.0 → IsStart n (a * 256 + h.0) (drop 1 xs) s → IsStart n (a * 256 + g.0) (drop 1 ys) t → slice_cmp int_cmp xs ys ≡ Less
    by again Greater more xs ys d e hs gs =
        let other : t < s = before_decides n (a * 256 + g.0) (a * 256 + h.0) (drop 1 ys) (drop 1 xs) t s gs hs (omega (arith, more)) in
        absurd (omega (arith, other, l))
    by again Less less [] [] d e hs gs = absurd (omega (arith, less, d, e))
    by again Less less [] (y ∷ ys) d e hs gs = refl
    by again Less less (x ∷ xs) [] d e hs gs = absurd (omega (arith, less, e))
    by again Less less (x ∷ xs) (y ∷ ys) d e hs gs =
        let p = d.0 in let q = e.0 in
        ap (λ o. ordering_then o (slice_cmp int_cmp xs ys)) (int_less x y (omega (arith, ints, less, p, q)))
    by again Equal same [] [] d e hs gs = again (a * 256 + h.0) [] [] hs (subst (λ b. IsStart n (a * 256 + b) [] t) (sym same) gs)
    by again Equal same [] (y ∷ ys) d e hs gs = refl
    by again Equal same (x ∷ xs) [] d e hs gs =
        absurd (none_below xs (again (a * 256 + h.0) xs [] hs (subst (λ b. IsStart n (a * 256 + b) [] t) (sym same) gs)))
    by again Equal same (x ∷ xs) (y ∷ ys) d e hs gs =
        let p = d.0 in let q = e.0 in
        ap (λ o. ordering_then o (slice_cmp int_cmp xs ys)) (int_same x y (omega (arith, ints, same, p, q)))
        ∙ again (a * 256 + h.0) xs ys hs (subst (λ b. IsStart n (a * 256 + b) ys t) (sym same) gs)

texts_less : (xs ys : List ℤ) (s t : ℕ) → IsStart 16 0 xs s → IsStart 16 0 ys t → s < t → value_cmp (view_val (val.List (column.I8 xs))) (view_val (val.List (column.I8 ys))) ≡ Less
texts_less xs ys s t h g l =
    sym (lists_cmp (map (number kinds.I8) xs) (map (number kinds.I8) ys)) ∙ sym (items_cmp int_cmp (number kinds.I8) (ints_order kinds.I8) xs ys) ∙ start_less 16 0 xs ys s t h g l

texts_stand : (xs ys : List ℤ) (s t : ℕ) → IsStart 16 0 xs s → IsStart 16 0 ys t → (s ≡ t → ⊥) → nat_cmp s t ≡ value_cmp (view_val (val.List (column.I8 xs))) (view_val (val.List (column.I8 ys)))
texts_stand xs ys s t h g differ = by (nat_cmp s t) (ranks s t)
  where
    by : (o : Ordering) → MatchOrdering o (s < t) (s ≡ t) (t < s) → o ≡ value_cmp (view_val (val.List (column.I8 xs))) (view_val (val.List (column.I8 ys)))
    by Less l = sym (texts_less xs ys s t h g l)
    by Equal e = absurd (differ e)
    by Greater l = sym (value_cmp_total.antisymm _ _ ∙ ap ordering_reverse (texts_less ys xs t s g h l))

pub starts_stand : (a b : Val) (s t : ℕ) → IsText a → IsText b → HasStart a s → HasStart b t → (s ≡ t → ⊥) → nat_cmp s t ≡ value_cmp (view_val a) (view_val b)
starts_stand (val.List (column.I8 xs)) (val.List (column.I8 ys)) s t p q h g differ = texts_stand xs ys s t h g differ
starts_stand (val.List (column.I8 xs)) (val.Num m) s t p q h g differ = absurd q
starts_stand (val.List (column.I8 xs)) (val.Struct ys) s t p q h g differ = absurd q
starts_stand (val.List (column.I8 xs)) (val.Dict ys) s t p q h g differ = absurd q
starts_stand (val.List (column.I8 xs)) (val.List (column.Bool ys)) s t p q h g differ = absurd q
starts_stand (val.List (column.I8 xs)) (val.List (column.I16 ys)) s t p q h g differ = absurd q
starts_stand (val.List (column.I8 xs)) (val.List (column.I32 ys)) s t p q h g differ = absurd q
starts_stand (val.List (column.I8 xs)) (val.List (column.I64 ys)) s t p q h g differ = absurd q
starts_stand (val.List (column.I8 xs)) (val.List (column.U8 ys)) s t p q h g differ = absurd q
starts_stand (val.List (column.I8 xs)) (val.List (column.U16 ys)) s t p q h g differ = absurd q
starts_stand (val.List (column.I8 xs)) (val.List (column.U32 ys)) s t p q h g differ = absurd q
starts_stand (val.List (column.I8 xs)) (val.List (column.U64 ys)) s t p q h g differ = absurd q
starts_stand (val.List (column.I8 xs)) (val.List (column.Structs ys)) s t p q h g differ = absurd q
starts_stand (val.List (column.I8 xs)) (val.List (column.Nest ys)) s t p q h g differ = absurd q
starts_stand (val.Num m) b s t p q h g differ = absurd p
starts_stand (val.Struct xs) b s t p q h g differ = absurd p
starts_stand (val.Dict xs) b s t p q h g differ = absurd p
starts_stand (val.List (column.Bool xs)) b s t p q h g differ = absurd p
starts_stand (val.List (column.I16 xs)) b s t p q h g differ = absurd p
starts_stand (val.List (column.I32 xs)) b s t p q h g differ = absurd p
starts_stand (val.List (column.I64 xs)) b s t p q h g differ = absurd p
starts_stand (val.List (column.U8 xs)) b s t p q h g differ = absurd p
starts_stand (val.List (column.U16 xs)) b s t p q h g differ = absurd p
starts_stand (val.List (column.U32 xs)) b s t p q h g differ = absurd p
starts_stand (val.List (column.U64 xs)) b s t p q h g differ = absurd p
starts_stand (val.List (column.Structs xs)) b s t p q h g differ = absurd p
starts_stand (val.List (column.Nest xs)) b s t p q h g differ = absurd p

-- ---- the number is made digit by digit

-- behind the digits of the first items further ones lead to the start
abbrev pub LeadsOn : ℕ → ℕ → List ℤ → Type 0
LeadsOn place before items = (k : ℕ) × (k + place ≡ 16) × ((start : ℕ) → IsStart k before (drop place items) start → IsStart 16 0 items start)

-- and the digits so far fit as many places
abbrev pub IsBelow : ℕ → ℕ → Type 0
IsBelow place before = before < 256 ^ place

pub leads_on : (place before digit : ℕ) (items : List ℤ) → place < 16 → IsDigit (drop place items) digit → LeadsOn place before items → LeadsOn (place + 1) (before * 256 + digit) items
unfolding IsStart
leads_on place before digit items l d h = by h.0 h.1 h.2
  where
    by : (k : ℕ) → k + place ≡ 16 → ((start : ℕ) → IsStart k before (drop place items) start → IsStart 16 0 items start) → LeadsOn (place + 1) (before * 256 + digit) items
    by zero e on = absurd (omega (arith, e, l))
    by (suc k) e on =
        (k, omega (arith, e), λ start more. on start (digit, d, subst (λ vs. IsStart k (before * 256 + digit) vs start) (sym (drop-drop 1 place items)) more))

pub stays_below : (place before digit : ℕ) (items : List ℤ) → IsDigit (drop place items) digit → IsBelow place before → IsBelow (place + 1) (before * 256 + digit)
stays_below place before digit items d h =
    let low = digit_low (drop place items) digit d in
    let more : 256 ^ (place + 1) ≡ 256 ^ place * 256 = rw add-one (pow-suc 256 place) in
    omega (arith, low, h, more)

pub fits : (place before : ℕ) → place < 16 → IsBelow place before → before < 256 ^ 15
fits place before l h =
    let most : 256 ^ place ≤ 256 ^ 15 = pow-le-pow_right {n = 256} (omega arith) {i = place} {j = 15} (omega (arith, l)) in
    omega (arith, h, most)

pub all_digits : (place before : ℕ) (items : List ℤ) → place ≡ 16 → LeadsOn place before items → IsStart 16 0 items before
unfolding IsStart
all_digits place before items e h = by h.0 h.1 h.2
  where
    by : (k : ℕ) → k + place ≡ 16 → ((start : ℕ) → IsStart k before (drop place items) start → IsStart 16 0 items start) → IsStart 16 0 items before
    by zero f on = on before refl
    by (suc k) f on = absurd (omega (arith, e, f))
