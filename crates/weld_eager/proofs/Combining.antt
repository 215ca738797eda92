-- Numbers combined and put side by side, one after another.
use Rattle.std.proofs.Common.{◌≡◌, ℕ, zero, suc, ◌+◌, ◌<◌, ◌≤◌, add-one, length-drop, append_assoc, append-nil, subst, ℤ, pos, ◌*ℤ◌, List, [], ◌∷◌, ◌++◌, map, take, drop, length, slice_index_or, Some, None, ap, sym, refl, ◌∙◌, arith}
use Rattle.std.proofs.lemmas.List.{take_more, take_all, map-append}
use Rattle.weld_data.specs.declared.kind.Kind.{Kind}
use Rattle.weld_data.specs.declared.op.MergeOp.{MergeOp}
use Rattle.weld_data.specs.declared.op.MergeOp.TheVariants as merges
use Rattle.weld_data.specs.Operation.{combination}
use Rattle.weld_data.specs.declared.op.BinOp.{BinOp}
use Rattle.weld_data.specs.declared.op.BinOp.TheVariants as ops
use Rattle.weld_data.specs.Kind.{IsInteger, InRange}
use Rattle.weld_data.specs.Wrapped.{wrapped}
use Rattle.weld_data.specs.Operation.{TakesKind, operation, answer_kind}
use Rattle.weld_builders.specs.Outcome.{Outcome, done, fault, and_then, map_out, or_fault}
use Rattle.weld_builders.specs.Range.{AllInRange}
use Rattle.weld_calls.specs.CallTypes.{IsArithmetic}
use Rattle.weld_eager.proofs.Words.{bits, bits_are, bits_in_range, all_in_range_at}
use Rattle.weld_calls.specs.Lists.{paired, each, elementwise}
use Rattle.weld_calls.specs.Folds.{combined_all}
use Rattle.weld_calls.proofs.Outcomes.{and_then-map_out, map_out-and_then, map_out-map_out, and_then-same, map_out-same}

one_more : (op : MergeOp) (k : Kind) (a : ℤ) (xs : List ℤ) (i : ℕ) → i < length xs → combined_all op k a (take (suc i) xs) ≡ combination op k (combined_all op k a (take i xs)) (slice_index_or xs i (pos 0))
one_more op k a [] i h = absurd (none i h)
  where
    none : (i : ℕ) → i < 0 → ⊥
    none i h = omega (arith, h)
one_more op k a (x ∷ xs) zero h = refl
one_more op k a (x ∷ xs) (suc i) h = one_more op k (combination op k a x) xs i (omega (arith, h))

pub combined_more : (op : MergeOp) (k : Kind) (a b r : ℤ) (xs : List ℤ) (i : ℕ) → AllInRange k xs → i < length xs → b ≡ combined_all op k a (take i xs) → r ≡ combination op k b (bits (slice_index_or xs i (pos 0))) → r ≡ combined_all op k a (take (i + 1) xs)
combined_more op k a b r xs i fits h e is =
    is ∙ ap (combination op k b) (bits_are k _ (all_in_range_at k xs i (pos 0) fits h)) ∙ ap (λ c. combination op k c (slice_index_or xs i (pos 0))) e ∙ sym (one_more op k a xs i h)
    ∙ ap (λ n. combined_all op k a (take n xs)) (sym (add-one i))

-- ---- operators

pub takes_integer : (op : BinOp) (k : Kind) → IsInteger k → TakesKind op k
takes_integer ops.Add k h = h
takes_integer ops.Sub k h = h
takes_integer ops.Mul k h = h
takes_integer ops.Div k h = h
takes_integer ops.Rem k h = h
takes_integer ops.Eq k h = tt
takes_integer ops.Ne k h = tt
takes_integer ops.Lt k h = h
takes_integer ops.Le k h = h
takes_integer ops.Gt k h = h
takes_integer ops.Ge k h = h

pub arithmetic_in_range : (op : BinOp) (k : Kind) (z : ℤ) → IsArithmetic op → InRange (answer_kind op k) z → InRange k z
arithmetic_in_range ops.Add k z a h = h
arithmetic_in_range ops.Sub k z a h = h
arithmetic_in_range ops.Mul k z a h = h
arithmetic_in_range ops.Div k z a h = h
arithmetic_in_range ops.Rem k z a h = h
arithmetic_in_range ops.Eq k z a h = absurd a
arithmetic_in_range ops.Ne k z a h = absurd a
arithmetic_in_range ops.Lt k z a h = absurd a
arithmetic_in_range ops.Le k z a h = absurd a
arithmetic_in_range ops.Gt k z a h = absurd a
arithmetic_in_range ops.Ge k z a h = absurd a

-- ---- two lists place by place

pub paired_apart : {A B : Type 0} (xs : List A) (ys : List B) → (length xs ≡ length ys → ⊥) → paired xs ys ≡ fault
paired_apart [] [] ne = absurd (ne refl)
paired_apart [] (y ∷ ys) ne = refl
paired_apart (x ∷ xs) [] ne = refl
paired_apart (x ∷ xs) (y ∷ ys) ne = ap (map_out (λ ps. (x, y) ∷ ps)) (paired_apart xs ys (λ e. ne (ap suc e)))

pub elementwise_apart : (op : BinOp) (k : Kind) (xs ys : List ℤ) → (length xs ≡ length ys → ⊥) → elementwise op k xs ys ≡ fault
elementwise_apart op k xs ys ne = ap (λ o. and_then o (each (λ (p : ℤ × ℤ). or_fault (operation op k p.0 p.1)))) (paired_apart xs ys ne)

-- lists of one length are put side by side
paired_fault : {A B C : Type 0} (xs : List A) (ys : List B) → length xs ≡ length ys → and_then {A = List (A × B)} {B = C} (paired xs ys) (λ ps. fault) ≡ fault
paired_fault [] [] e = refl
paired_fault [] (y ∷ ys) e = absurd (omega (arith, e))
paired_fault (x ∷ xs) [] e = absurd (omega (arith, e))
paired_fault (x ∷ xs) (y ∷ ys) e =
    and_then-map_out (paired xs ys) (λ ps. (x, y) ∷ ps) (λ ps. fault) ∙ paired_fault xs ys (omega (arith, e))

abbrev answers_on : BinOp → Kind → List (ℤ × ℤ) → Outcome (List ℤ)
answers_on op k ps = each (λ (p : ℤ × ℤ). or_fault (operation op k p.0 p.1)) ps

one_answer : (op : BinOp) (k : Kind) (x y z : ℤ) (xs ys : List ℤ) → operation op k x y ≡ Some z → elementwise op k (x ∷ xs) (y ∷ ys) ≡ map_out (λ r. z ∷ r) (elementwise op k xs ys)
one_answer op k x y z xs ys e =
    and_then-map_out (paired xs ys) (λ ps. (x, y) ∷ ps) (answers_on op k)
    ∙ and_then-same (paired xs ys) _ _ (λ ps. ap (λ o. and_then (or_fault o) (λ w. map_out (λ ws. w ∷ ws) (answers_on op k ps))) e)
    ∙ sym (map_out-and_then (paired xs ys) (answers_on op k) (λ r. z ∷ r))

no_answer : (op : BinOp) (k : Kind) (x y : ℤ) (xs ys : List ℤ) → length xs ≡ length ys → operation op k x y ≡ None → elementwise op k (x ∷ xs) (y ∷ ys) ≡ fault
no_answer op k x y xs ys l e =
    and_then-map_out (paired xs ys) (λ ps. (x, y) ∷ ps) (answers_on op k)
    ∙ and_then-same (paired xs ys) _ _ (λ ps. ap (λ o. and_then (or_fault o) (λ w. map_out (λ ws. w ∷ ws) (answers_on op k ps))) e)
    ∙ paired_fault xs ys l

-- what is left from a place on has what stands there in front
pub left_from : (xs : List ℤ) (i : ℕ) → i < length xs → drop i xs ≡ slice_index_or xs i (pos 0) ∷ drop (i + 1) xs
left_from [] i h = absurd (none i h)
  where
    none : (i : ℕ) → i < 0 → ⊥
    none i h = omega (arith, h)
left_from (x ∷ xs) zero h = refl
left_from (x ∷ xs) (suc i) h =
    let more : suc (i + 1) ≡ suc i + 1 = omega arith in
    left_from xs i (omega (arith, h)) ∙ ap (λ n. slice_index_or xs i (pos 0) ∷ drop n (x ∷ xs)) more

length_left : (xs ys : List ℤ) (i : ℕ) → length xs ≡ length ys → length (drop i xs) ≡ length (drop i ys)
length_left xs ys i e = omega (arith, e, length-drop i xs, length-drop i ys)

pub elementwise_more : (op : BinOp) (k : Kind) (xs ys zs new : List ℤ) (i : ℕ) (z : ℤ) → AllInRange k xs → AllInRange k ys → i < length xs → length xs ≡ length ys
    → Some z ≡ operation op k (bits (slice_index_or xs i (pos 0))) (bits (slice_index_or ys i (pos 0))) → new ≡ zs ++ z ∷ []
    → elementwise op k xs ys ≡ map_out (λ rest. zs ++ rest) (elementwise op k (drop i xs) (drop i ys))
    → elementwise op k xs ys ≡ map_out (λ rest. new ++ rest) (elementwise op k (drop (i + 1) xs) (drop (i + 1) ys))
elementwise_more op k xs ys zs new i z f g h l e is so =
    let there : i < length ys = omega (arith, h, l) in
    let x = slice_index_or xs i (pos 0) in
    let y = slice_index_or ys i (pos 0) in
    let at : operation op k x y ≡ Some z = (λ j. operation op k (sym (bits_are k x (all_in_range_at k xs i (pos 0) f h)) j) (sym (bits_are k y (all_in_range_at k ys i (pos 0) g there)) j)) ∙ sym e in
    so
    ∙ (λ j. map_out (λ rest. zs ++ rest) (elementwise op k (left_from xs i h j) (left_from ys i there j)))
    ∙ ap (map_out (λ rest. zs ++ rest)) (one_answer op k x y z (drop (i + 1) xs) (drop (i + 1) ys) at)
    ∙ map_out-map_out (λ r. z ∷ r) (λ rest. zs ++ rest) (elementwise op k (drop (i + 1) xs) (drop (i + 1) ys))
    ∙ map_out-same (elementwise op k (drop (i + 1) xs) (drop (i + 1) ys)) _ _ (λ rest. sym (append_assoc zs (z ∷ []) rest) ∙ ap (λ l. l ++ rest) (sym is))

pub elementwise_stops : (op : BinOp) (k : Kind) (xs ys zs : List ℤ) (i : ℕ) → AllInRange k xs → AllInRange k ys → i < length xs → length xs ≡ length ys
    → None ≡ operation op k (bits (slice_index_or xs i (pos 0))) (bits (slice_index_or ys i (pos 0)))
    → elementwise op k xs ys ≡ map_out (λ rest. zs ++ rest) (elementwise op k (drop i xs) (drop i ys))
    → elementwise op k xs ys ≡ fault
elementwise_stops op k xs ys zs i f g h l e so =
    let there : i < length ys = omega (arith, h, l) in
    let x = slice_index_or xs i (pos 0) in
    let y = slice_index_or ys i (pos 0) in
    let at : operation op k x y ≡ None = (λ j. operation op k (sym (bits_are k x (all_in_range_at k xs i (pos 0) f h)) j) (sym (bits_are k y (all_in_range_at k ys i (pos 0) g there)) j)) ∙ sym e in
    so
    ∙ (λ j. map_out (λ rest. zs ++ rest) (elementwise op k (left_from xs i h j) (left_from ys i there j)))
    ∙ ap (map_out (λ rest. zs ++ rest)) (no_answer op k x y (drop (i + 1) xs) (drop (i + 1) ys) (length_left xs ys (i + 1) l) at)

pub elementwise_ends : (op : BinOp) (k : Kind) (xs ys zs : List ℤ) (i : ℕ) → length xs ≤ i → length xs ≡ length ys
    → elementwise op k xs ys ≡ map_out (λ rest. zs ++ rest) (elementwise op k (drop i xs) (drop i ys)) → elementwise op k xs ys ≡ done zs
elementwise_ends op k xs ys zs i h l so =
    so ∙ (λ j. map_out (λ rest. zs ++ rest) (elementwise op k (drop_past xs i h j) (drop_past ys i (omega (arith, h, l)) j))) ∙ ap done (append-nil zs)
  where
    drop_past : (xs : List ℤ) (i : ℕ) → length xs ≤ i → drop i xs ≡ []
    drop_past [] zero h = refl
    drop_past [] (suc i) h = refl
    drop_past (x ∷ xs) zero h = absurd (omega (arith, h))
    drop_past (x ∷ xs) (suc i) h = drop_past xs i (omega (arith, h))

pub all_in_range_more : (k : Kind) (xs new : List ℤ) (z : ℤ) → AllInRange k xs → InRange k z → new ≡ xs ++ z ∷ [] → AllInRange k new
all_in_range_more k xs new z h r is = subst (AllInRange k) (sym is) (by xs h)
  where
    by : (ys : List ℤ) → AllInRange k ys → AllInRange k (ys ++ z ∷ [])
    by [] g = (r, tt)
    by (y ∷ ys) g = (g.0, by ys g.1)

pub total_more : (op : MergeOp) (k : Kind) (a b r : ℤ) (xs : List ℤ) (i : ℕ) → AllInRange k xs → i < length xs → b ≡ combined_all op k a (take i xs) → InRange k r
    → r ≡ combination op k b (bits (slice_index_or xs i (pos 0))) → (bits r ≡ combined_all op k a (take (i + 1) xs)) × InRange k (bits r)
total_more op k a b r xs i fits h e g is =
    let same : bits r ≡ r = bits_are k r g in
    (same ∙ combined_more op k a b r xs i fits h e is, bits_in_range k r g)

pub scaled_more : (k : Kind) (s : ℤ) (xs zs new : List ℤ) (i : ℕ) (z : ℤ) → AllInRange k xs → i < length xs → InRange k z → z ≡ combination merges.Mul k (bits (slice_index_or xs i (pos 0))) s
    → new ≡ zs ++ bits z ∷ [] → zs ≡ map (λ x. wrapped k (x *ℤ s)) (take i xs) → new ≡ map (λ x. wrapped k (x *ℤ s)) (take (i + 1) xs)
scaled_more k s xs zs new i z fits h g e is so =
    let x = slice_index_or xs i (pos 0) in
    let at : bits z ≡ wrapped k (x *ℤ s) = bits_are k z g ∙ e ∙ ap (λ y. wrapped k (y *ℤ s)) (bits_are k x (all_in_range_at k xs i (pos 0) fits h)) in
    is ∙ (λ j. so j ++ at j ∷ []) ∙ sym (map-append (λ x. wrapped k (x *ℤ s)) (take i xs) (x ∷ [])) ∙ ap (map (λ x. wrapped k (x *ℤ s))) (sym (take_more xs i (pos 0) h))

pub scaled_all : (k : Kind) (s : ℤ) (xs zs : List ℤ) (i : ℕ) → InRange k s → length xs ≤ i → zs ≡ map (λ x. wrapped k (x *ℤ bits s)) (take i xs) → zs ≡ map (λ x. wrapped k (x *ℤ s)) xs
scaled_all k s xs zs i g h so = so ∙ (λ j. map (λ x. wrapped k (x *ℤ bits_are k s g j)) (take_all i xs h j))

pub pushed : (k : Kind) (zs new : List ℤ) (z : ℤ) → InRange k z → new ≡ zs ++ bits z ∷ [] → new ≡ zs ++ z ∷ []
pushed k zs new z h is = is ∙ ap (λ x. zs ++ x ∷ []) (bits_are k z h)
