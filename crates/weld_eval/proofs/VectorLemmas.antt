-- Parts of vectors.
use Rattle.std.proofs.Common.{◌≡◌, ℕ, zero, suc, ◌+◌, ◌-◌, ◌*◌, ◌/◌, ◌%◌, ◌==◌, ◌≤◌, ◌<◌, ◌≢◌, leb, ℤ, pos, negsuc, Bool, true, false, ◌&&◌, if◌then◌else◌, List, [], ◌∷◌, ◌++◌, map, take, drop, length, slice_get, Option, Some, None, Result, Ok, Err, option_to_list, refl, ap, sym, subst, ◌∙◌, arith}
use Rattle.std.proofs.lemmas.Bool.{le-leb, lt-leb, eq-eqb, eqb-true}
use Rattle.std.proofs.lemmas.Nat.{div-add-mod', mod-mul-add, div-mul-add}
use Rattle.weld_data.specs.Value.{Value, list, values, list_of_values-values}
use Rattle.weld_builders.specs.Outcome.{Outcome, done, fault, and_then, map_out, or_fault}
use Rattle.weld_builders.specs.Part.{as_number}
use Rattle.weld_data.specs.declared.kind.Kind.{Kind}
use Rattle.weld_data.specs.Value.{number, struct, dict}
use Rattle.weld_meaning.specs.Thing.{value_field}
use Rattle.weld_meaning.specs.Evaluation.{whole_number, length_of, element_at, looked_up, part_of, sliced, strided_part, strided_of, picked}
use Rattle.weld_pieces.specs.Answer.{IsOutside}
use Rattle.weld_eval.specs.Bounds.{NumberCount, CountAnswer, BoundsAnswer, PartFaults, StepsAnswer, StrideAnswer, StrideFaults}
use Rattle.weld_eval.specs.Fits.{IsPlaceNumber}
use Rattle.weld_data.specs.declared.stop.Stop.TheVariants.{Fault, Memory}
use Rattle.weld_data.specs.declared.stop.Stop.{Stop}

-- ---- elements

pub looked_up_is : (cs : List Value) (w : Value) (x : ℤ) → as_number w ≡ done x → looked_up (list (values cs)) w ≡ element_at cs x
looked_up_is cs w x e = λ i. and_then (e i) (element_at (list_of_values-values cs i))

pub element_there : (cs : List Value) (w v : Value) (i : ℕ) → as_number w ≡ done (pos i) → slice_get cs i ≡ Some v → looked_up (list (values cs)) w ≡ done v
element_there cs w v i e g = looked_up_is cs w (pos i) e ∙ ap or_fault g

beyond : (cs : List Value) (i : ℕ) → length cs ≤ i → slice_get cs i ≡ None
beyond [] i h = refl
beyond (c ∷ cs) zero h = absurd (grind arith)
beyond (c ∷ cs) (suc i) h = beyond cs i (grind arith)

pub element_outside : (cs : List Value) (w : Value) (x : ℤ) → as_number w ≡ done x → IsOutside x (length cs) → looked_up (list (values cs)) w ≡ fault
element_outside cs w (pos i) e h = looked_up_is cs w (pos i) e ∙ ap or_fault (beyond cs i h)
element_outside cs w (negsuc i) e h = looked_up_is cs w (negsuc i) e

-- ---- slices

sliced_is : (cs : List Value) (s n : Value) (x y : ℤ) → as_number s ≡ done x → as_number n ≡ done y → sliced (list (values cs)) s n ≡ map_out (λ ws. list (values ws)) (part_of cs x y)
sliced_is cs s n x y e f =
    λ i. and_then (done (list_of_values-values cs i)) (λ vs. and_then (e i) (λ a. and_then (f i) (λ b. map_out (λ ws. list (values ws)) (part_of vs a b))))

pub slice_there : (cs ws : List Value) (s n : Value) (i k : ℕ) → as_number s ≡ done (pos i) → as_number n ≡ done (pos k) → i + k ≤ length cs → ws ≡ take k (drop i cs) → sliced (list (values cs)) s n ≡ done (list (values ws))
slice_there cs ws s n i k e f h is =
    sliced_is cs s n (pos i) (pos k) e f
    ∙ ap (λ (b : Bool). map_out (λ us. list (values us)) (if b then done (take k (drop i cs)) else fault)) (le-leb (i + k) (length cs) h)
    ∙ ap (λ us. done (list (values us))) (sym is)

pub slice_faults : (cs : List Value) (s n : Value) (x y : ℤ) → as_number s ≡ done x → as_number n ≡ done y → PartFaults (length cs) x y → sliced (list (values cs)) s n ≡ fault
slice_faults cs s n x y e f h = sliced_is cs s n x y e f ∙ ap (map_out (λ us. list (values us))) (h cs refl)

pub part_beyond : (count i k : ℕ) → count < i + k → PartFaults count (pos i) (pos k)
part_beyond count i k h vs e =
    ap (λ (b : Bool). if b then done (take k (drop i vs)) else fault) (lt-leb (i + k) (length vs) (subst (λ c. c < i + k) (sym e) h))

pub part_negative : (count i : ℕ) (y : ℤ) → PartFaults count (negsuc i) y
part_negative count i y vs e = refl

pub part_negative_count : (count k : ℕ) (x : ℤ) → PartFaults count x (negsuc k)
part_negative_count count k (pos i) vs e = refl
part_negative_count count k (negsuc i) vs e = refl

-- ---- strides

strided_is : (cs : List Value) (s e d : Value) (x y z : ℤ) → as_number s ≡ done x → as_number e ≡ done y → as_number d ≡ done z → strided_of (list (values cs)) s e d ≡ strided_part cs x y z
strided_is cs s e d x y z p q r =
    λ i. and_then (done (list_of_values-values cs i)) (λ vs. and_then (p i) (λ a. and_then (q i) (λ b. and_then (r i) (λ c. strided_part vs a b c))))

pub stride_faults : (cs : List Value) (s e d : Value) (x y z : ℤ) → as_number s ≡ done x → as_number e ≡ done y → as_number d ≡ done z → StrideFaults (length cs) x y z → strided_of (list (values cs)) s e d ≡ fault
stride_faults cs s e d x y z p q r h = strided_is cs s e d x y z p q r ∙ h cs refl

all_true : (a b c : Bool) → a ≡ true → b ≡ true → c ≡ true → (a && b && c) ≡ true
all_true a b c p q r = λ i. p i && q i && r i

second_false : (a c : Bool) → (a && false && c) ≡ false
second_false true c = refl
second_false false c = refl

third_false : (a b : Bool) → (a && b && false) ≡ false
third_false true true = refl
third_false true false = refl
third_false false b = refl

back : (p m : ℕ) → p + m - p ≡ m + 0
back p m = omega arith

stride_runs : (cs : List Value) (p q r : ℕ) → 1 ≤ q → p + r * q ≤ length cs → strided_part cs (pos p) (pos (p + r * q)) (pos q) ≡ done (picked cs p q r)
stride_runs cs p zero r l h = absurd (omega arith)
stride_runs cs p (suc d) r l h =
    let m = r * suc d in
    let gap = back p m in
    let rest : (p + m - p) % suc d ≡ 0 = ap (λ g. g % suc d) gap ∙ mod-mul-add r (suc d) 0 (omega arith) in
    let count : (p + m - p) / suc d ≡ r = ap (λ g. g / suc d) gap ∙ div-mul-add r (suc d) 0 (omega arith) in
    let test : (leb p (p + m) && leb (p + m) (length cs) && ((p + m - p) % suc d == 0)) ≡ true = all_true _ _ _ (le-leb p (p + m) (omega arith)) (le-leb (p + m) (length cs) h) (eq-eqb _ 0 rest) in
    ap (λ (b : Bool). if b then done (picked cs p (suc d) ((p + m - p) / suc d)) else fault) test
    ∙ ap (λ k. done (picked cs p (suc d) k)) count

pub stride_there : (cs ws : List Value) (s e d : Value) (p q r : ℕ) → as_number s ≡ done (pos p) → as_number e ≡ done (pos (p + r * q)) → as_number d ≡ done (pos q) → 1 ≤ q → p + r * q ≤ length cs → ws ≡ picked cs p q r → strided_of (list (values cs)) s e d ≡ done ws
stride_there cs ws s e d p q r a b c l h is = strided_is cs s e d (pos p) (pos (p + r * q)) (pos q) a b c ∙ stride_runs cs p q r l h ∙ ap done (sym is)

abbrev Strides : List Value → ℕ → ℕ → ℕ → Bool → Outcome (List Value)
Strides vs s e d b = if b then done (picked vs s (suc d) ((e - s) / suc d)) else fault

pub stride_backwards : (count s e d : ℕ) → e < s → StrideFaults count (pos s) (pos e) (pos d)
stride_backwards count s e zero h vs c = refl
stride_backwards count s e (suc d) h vs c =
    ap (λ (b : Bool). Strides vs s e d (b && leb e (length vs) && ((e - s) % suc d == 0))) (lt-leb s e h)

pub stride_beyond : (count s e d : ℕ) → count < e → StrideFaults count (pos s) (pos e) (pos d)
stride_beyond count s e zero h vs c = refl
stride_beyond count s e (suc d) h vs c =
    ap (λ (b : Bool). Strides vs s e d (leb s e && b && ((e - s) % suc d == 0))) (lt-leb e (length vs) (subst (λ n. n < e) (sym c) h))
    ∙ ap (Strides vs s e d) (second_false (leb s e) ((e - s) % suc d == 0))

pub stride_zero : (count s e : ℕ) → StrideFaults count (pos s) (pos e) (pos 0)
stride_zero count s e vs c = refl

not_zero : (n : ℕ) → n ≢ 0 → (n == 0) ≡ false
not_zero n h = by (n == 0) refl
  where
    by : (b : Bool) → (n == 0) ≡ b → (n == 0) ≡ false
    by true e = absurd (h (eqb-true n 0 e))
    by false e = e

pub stride_uneven : (count s e d : ℕ) → (e - s) % d ≢ 0 → StrideFaults count (pos s) (pos e) (pos d)
stride_uneven count s e zero h vs c = refl
stride_uneven count s e (suc d) h vs c =
    ap (λ (b : Bool). Strides vs s e d (leb s e && leb e (length vs) && b)) (not_zero ((e - s) % suc d) h)
    ∙ ap (Strides vs s e d) (third_false (leb s e) (leb e (length vs)))

steps_from : (s e a m : ℕ) → a + m ≡ e - s → m ≡ 0 → s ≤ e → e ≡ s + a
steps_from s e a m h z l = omega arith

pub steps_there : (s e d : ℕ) → s ≤ e → (e - s) % d ≡ 0 → e ≡ s + (e - s) / d * d
steps_there s e d l z = steps_from s e ((e - s) / d * d) ((e - s) % d) (div-add-mod' (e - s) d) z l

-- ---- faults of negative numbers

pub negative_start : (count n : ℕ) (y z : ℤ) → StrideFaults count (negsuc n) y z
negative_start count n y z vs c = refl

pub negative_end : (count n : ℕ) (x z : ℤ) → StrideFaults count x (negsuc n) z
negative_end count n (pos s) z vs c = refl
negative_end count n (negsuc s) z vs c = refl

pub negative_stride : (count n : ℕ) (x y : ℤ) → StrideFaults count x y (negsuc n)
negative_stride count n (pos s) (pos e) vs c = refl
negative_stride count n (pos s) (negsuc e) vs c = refl
negative_stride count n (negsuc s) y vs c = refl

-- ---- picking

there : (cs : List Value) (i : ℕ) (v : Value) (ws : List Value) → slice_get cs i ≡ Some v → option_to_list (slice_get cs i) ++ ws ≡ v ∷ ws
there cs i v ws e = ap (λ o. option_to_list o ++ ws) e

-- one more is picked
pub pick_one : (cs : List Value) (i d left : ℕ) (v : Value) (ws : List Value) → slice_get cs i ≡ Some v → (ws ++ v ∷ []) ++ picked cs (i + d) d left ≡ ws ++ picked cs i d (suc left)
pick_one cs i d left v [] e = sym (there cs i v (picked cs (i + d) d left) e)
pick_one cs i d left v (w ∷ ws) e = ap (λ us. w ∷ us) (pick_one cs i d left v ws e)

-- ---- numbers of kind i64

pub count_answer : (o : Option ℕ) (v : Value) (k : Kind) (x : ℤ) → v ≡ number k x → NumberCount o x → CountAnswer o v
count_answer (Some n) v k x e h = (ap as_number e ∙ ap done h.0, h.1)
count_answer None v k x e h = (h.0, ap as_number e ∙ ap done h.1)

number_there : (v : Value) → IsPlaceNumber v → (x : ℤ) × (as_number v ≡ done x)
number_there (number k x) h = (x, refl)
number_there (list vs) h = absurd h
number_there (struct vs) h = absurd h
number_there (dict es) h = absurd h

pub bounds_start : (s n : Value) (count : ℕ) → CountAnswer None s → IsPlaceNumber n → BoundsAnswer (Err Fault) s n count
bounds_start s n count h g = let y = number_there n g in (negsuc h.0, y.0, h.1, y.1, part_negative count h.0 y.0)

pub bounds_count : (s n : Value) (count : ℕ) → IsPlaceNumber s → CountAnswer None n → BoundsAnswer (Err Fault) s n count
bounds_count s n count g h = let x = number_there s g in (x.0, negsuc h.0, x.1, h.1, part_negative_count count h.0 x.0)

pub bounds_beyond : (s n : Value) (count i k : ℕ) → CountAnswer (Some i) s → CountAnswer (Some k) n → count < i + k → BoundsAnswer (Err Fault) s n count
bounds_beyond s n count i k h g b = (pos i, pos k, h.0, g.0, part_beyond count i k b)

pub stride_start : (s e d : Value) (count : ℕ) → CountAnswer None s → IsPlaceNumber e → IsPlaceNumber d → StrideAnswer (Err Fault) s e d count
stride_start s e d count h g k =
    let y = number_there e g in
    let z = number_there d k in
    (negsuc h.0, y.0, z.0, h.1, y.1, z.1, negative_start count h.0 y.0 z.0)

pub stride_end : (s e d : Value) (count : ℕ) → IsPlaceNumber s → CountAnswer None e → IsPlaceNumber d → StrideAnswer (Err Fault) s e d count
stride_end s e d count g h k =
    let x = number_there s g in
    let z = number_there d k in
    (x.0, negsuc h.0, z.0, x.1, h.1, z.1, negative_end count h.0 x.0 z.0)

pub stride_step : (s e d : Value) (count : ℕ) → IsPlaceNumber s → IsPlaceNumber e → CountAnswer None d → StrideAnswer (Err Fault) s e d count
stride_step s e d count g k h =
    let x = number_there s g in
    let y = number_there e k in
    (x.0, y.0, negsuc h.0, x.1, y.1, h.1, negative_stride count h.0 x.0 y.0)

-- the steps of counts are those of the values
pub stride_answer : (r : Result (ℕ × ℕ × ℕ) Stop) (s e d : Value) (count i j k : ℕ) → CountAnswer (Some i) s → CountAnswer (Some j) e → CountAnswer (Some k) d → StepsAnswer r i j k count → StrideAnswer r s e d count
stride_answer (Ok p) s e d count i j k a b c h =
    (a.0 ∙ ap (λ n. done (pos n)) h.0, b.0 ∙ ap (λ n. done (pos n)) h.1, c.0 ∙ ap (λ n. done (pos n)) h.2, h.3, subst (λ n. n ≤ count) h.1 h.4)
stride_answer (Err Fault) s e d count i j k a b c h = (pos i, pos j, pos k, a.0, b.0, c.0, h)
stride_answer (Err Memory) s e d count i j k a b c h = absurd h

pub length_is : (cs : List Value) → length_of (list (values cs)) ≡ done (whole_number (length cs))
length_is cs = λ i. done (whole_number (length (list_of_values-values cs i)))

-- ---- fields

pub field_there : (n : ℕ) (fs : List Value) (a : Value) → slice_get fs n ≡ Some a → value_field n (struct (values fs)) ≡ done a
field_there zero [] a e = let no : ⊥ = cc in absurd no
field_there zero (f ∷ fs) a e = let same : f ≡ a = cc in ap done same
field_there (suc n) [] a e = let no : ⊥ = cc in absurd no
field_there (suc n) (f ∷ fs) a e = field_there n fs a e

-- ---- parts, item by item

map_take : {X Y : Type 0} (f : X → Y) (n : ℕ) (xs : List X) → map f (take n xs) ≡ take n (map f xs)
map_take f zero xs = refl
map_take f (suc n) [] = refl
map_take f (suc n) (x ∷ xs) = ap (λ l. f x ∷ l) (map_take f n xs)

map_drop : {X Y : Type 0} (f : X → Y) (n : ℕ) (xs : List X) → map f (drop n xs) ≡ drop n (map f xs)
map_drop f zero xs = refl
map_drop f (suc n) [] = refl
map_drop f (suc n) (x ∷ xs) = map_drop f n xs

pub map_part : {X Y : Type 0} (f : X → Y) (n i : ℕ) (xs : List X) → map f (take n (drop i xs)) ≡ take n (drop i (map f xs))
map_part f n i xs = map_take f n (drop i xs) ∙ ap (take n) (map_drop f i xs)

get_drop : (xs : List Value) (s k : ℕ) → slice_get (drop s xs) k ≡ slice_get xs (s + k)
get_drop xs zero k = let e : k ≡ 0 + k = omega arith in ap (slice_get xs) e
get_drop [] (suc s) k = refl
get_drop (x ∷ xs) (suc s) k = let e : suc (s + k) ≡ suc s + k = omega arith in get_drop xs s k ∙ ap (slice_get (x ∷ xs)) e

take_next : (xs : List Value) (k : ℕ) (v : Value) → slice_get xs k ≡ Some v → take (suc k) xs ≡ take k xs ++ v ∷ []
take_next [] k v e = let no : ⊥ = cc in absurd no
take_next (x ∷ xs) zero v e = let same : x ≡ v = cc in ap (λ y. y ∷ []) same
take_next (x ∷ xs) (suc k) v e = ap (λ l. x ∷ l) (take_next xs k v e)

-- one more is copied
pub copied_one : (xs old new : List Value) (s k : ℕ) (v : Value) → old ≡ take k (drop s xs) → slice_get xs (s + k) ≡ Some v → new ≡ old ++ v ∷ [] → new ≡ take (k + 1) (drop s xs)
copied_one xs old new s k v e g n =
    let more : suc k ≡ k + 1 = omega arith in
    n ∙ ap (λ l. l ++ v ∷ []) e ∙ sym (take_next (drop s xs) k v (get_drop xs s k ∙ g)) ∙ ap (λ m. take m (drop s xs)) more

-- a place that is left to be picked lies within
pub place_within : (p m d whole n : ℕ) → p + m * d ≡ whole → 1 ≤ m → 1 ≤ d → whole ≤ n → p < n
place_within p zero d whole n e a b h = absurd (omega arith)
place_within p (suc k) d whole n e a b h = let more : suc k * d ≡ d + k * d = grind arith in omega arith

pub place_next : (p m d whole n : ℕ) → p + m * d ≡ whole → 1 ≤ m → whole ≤ n → p + d ≤ n
place_next p zero d whole n e a h = absurd (omega arith)
place_next p (suc k) d whole n e a h = let more : suc k * d ≡ d + k * d = grind arith in omega arith

pub next_place : (p d left m whole : ℕ) → m ≡ suc left → p + m * d ≡ whole → p + d + left * d ≡ whole
next_place p d left m whole e h =
    let more : suc left * d ≡ d + left * d = grind arith in
    let same : m * d ≡ suc left * d = ap (λ n. n * d) e in
    omega arith

pub one_fewer : (n i : ℕ) → i < n → n - i ≡ suc (n - (i + 1))
one_fewer n i h = omega arith
