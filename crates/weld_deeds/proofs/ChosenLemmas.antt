-- Pairs that are merged where a truth value says so.
use Rattle.std.proofs.Common.{◌≡◌, ℕ, zero, suc, ◌+◌, ◌<◌, ◌≤◌, ℤ, pos, List, [], ◌∷◌, ◌++◌, Bool, true, false, if◌then◌else◌, length, take, drop, zip, get_or, Result, Ok, Err, refl, sym, ap, ap₂, subst, ◌∙◌, arith, add-one}
use Rattle.std.specs.Ordering.{int_eq}
use Rattle.weld_data.specs.declared.stop.Stop.{Stop}
use Rattle.weld_data.specs.declared.stop.Stop.TheVariants.{Fault, Memory}
use Rattle.weld_data.specs.declared.kind.Kind.{Kind}
use Rattle.weld_data.specs.Kind.{IsNarrow}
use Rattle.weld_data.specs.Value.{number}
use Rattle.weld_builders.specs.Outcome.{Outcome, done, fault, stuck, and_then, map_out}
use Rattle.weld_builders.specs.Part.{Part, merge_part}
use Rattle.weld_builders.specs.Range.{AllInRange}
use Rattle.weld_meaning.specs.Thing.{Thing, building}
use Rattle.weld_built.specs.Merges.{merge_all, TakesPairs}
use Rattle.weld_built.specs.Pair.{pair, number_pairs}
use Rattle.weld_built.specs.State.{MergeAnswer}
use Rattle.weld_acts.specs.Act.{Acts}
use Rattle.weld_eval.proofs.Shorts.{narrow_word}
use Rattle.weld_deeds.specs.Chosen.{pair_guarded, PairGuardedFits, chosen_words}
use Rattle.weld_deeds.specs.Does.{pair_done, PairFits}
use Rattle.weld_blocks.specs.Numbers.{count_of}
use Rattle.weld_deeds.specs.Through.{done_through, FitsThrough}
use Rattle.weld_blocks.specs.declared.numbers.Numbers.{Numbers}
use Rattle.weld_deeds.proofs.ManyPairs.{item_taken, part_is}
use Rattle.weld_deeds.proofs.ManyPuts.{rest_from}
use Rattle.weld_blocks.proofs.Words.{truth_is}

-- ---- what is chosen

abbrev choice : Bool → ℤ → List ℤ → List ℤ
choice b x xs = if b then x ∷ xs else xs

chosen_more : (ts xs : List ℤ) (i : ℕ) (b : Bool) → i < length ts → i < length xs → int_eq (get_or ts i (pos 0)) (pos 1) ≡ b
    → chosen_words (take (suc i) ts) (take (suc i) xs) ≡ chosen_words (take i ts) (take i xs) ++ choice b (get_or xs i (pos 0)) []
chosen_more [] xs i b l m e = absurd (omega (arith, l))
chosen_more (t ∷ ts) [] i b l m e = absurd (omega (arith, m))
chosen_more (t ∷ ts) (x ∷ xs) zero b l m e = ap (λ c. choice c x []) e
chosen_more (t ∷ ts) (x ∷ xs) (suc i) b l m e = by (int_eq t (pos 1)) (chosen_more ts xs i b (omega (arith, l)) (omega (arith, m)) e)
  where
    by : (c : Bool) → chosen_words (take (suc i) ts) (take (suc i) xs) ≡ chosen_words (take i ts) (take i xs) ++ choice b (get_or xs i (pos 0)) []
        → choice c x (chosen_words (take (suc i) ts) (take (suc i) xs)) ≡ choice c x (chosen_words (take i ts) (take i xs)) ++ choice b (get_or xs i (pos 0)) []
    by true h = ap (λ zs. x ∷ zs) h
    by false h = h

pub chosen_step : (ts xs out new : List ℤ) (i : ℕ) (t x : ℤ) → i < length ts → i < length xs → t ≡ get_or ts i (pos 0) → x ≡ get_or xs i (pos 0) → new ≡ out ++ (if int_eq t (pos 1) then x ∷ [] else [])
    → out ≡ chosen_words (take i ts) (take i xs) → new ≡ chosen_words (take (i + 1) ts) (take (i + 1) xs)
chosen_step ts xs out new i t x l m e f is so_far =
    is
    ∙ ap₂ (λ us y. us ++ choice (int_eq t (pos 1)) y []) so_far f
    ∙ sym (chosen_more ts xs i (int_eq t (pos 1)) l m (ap (λ y. int_eq y (pos 1)) (sym e)))
    ∙ ap (λ j. chosen_words (take j ts) (take j xs)) (sym (add-one i))

pub chosen_in_range : (k : Kind) (ts xs : List ℤ) → AllInRange k xs → AllInRange k (chosen_words ts xs)
chosen_in_range k [] xs h = tt
chosen_in_range k (t ∷ ts) [] h = tt
chosen_in_range k (t ∷ ts) (x ∷ xs) h = by (int_eq t (pos 1)) (chosen_in_range k ts xs h.1)
  where
    by : (c : Bool) → AllInRange k (chosen_words ts xs) → AllInRange k (choice c x (chosen_words ts xs))
    by true r = (h.0, r)
    by false r = r

pub as_many : (n : ℕ) (ts xs ys : List ℤ) → n ≤ length xs → n ≤ length ys → length (chosen_words (take n ts) (take n xs)) ≡ length (chosen_words (take n ts) (take n ys))
as_many zero ts xs ys l m = refl
as_many (suc n) [] xs ys l m = refl
as_many (suc n) (t ∷ ts) [] ys l m = absurd (omega (arith, l))
as_many (suc n) (t ∷ ts) (x ∷ xs) [] l m = absurd (omega (arith, m))
as_many (suc n) (t ∷ ts) (x ∷ xs) (y ∷ ys) l m = by (int_eq t (pos 1)) (as_many n ts xs ys (omega (arith, l)) (omega (arith, m)))
  where
    by : (c : Bool) → length (chosen_words (take n ts) (take n xs)) ≡ length (chosen_words (take n ts) (take n ys))
        → length (choice c x (chosen_words (take n ts) (take n xs))) ≡ length (choice c y (chosen_words (take n ts) (take n ys)))
    by true h = ap suc h
    by false h = h

-- ---- one row

abbrev word_in : Numbers → ℕ → ℤ
word_in c j = get_or c.items.items j (pos 0)

-- what is done on a row, by its truth value
by_truth : (c d e : Numbers) (j : ℕ) (s : Thing) (b : Bool) → PairGuardedFits c d e j s → int_eq (word_in c j) (pos 1) ≡ b → pair_guarded c d e j s ≡ (if b then pair_done d e j s else done s)
by_truth c d e j s b h q =
    ap (λ o. and_then o (λ (t : Bool). if t then pair_done d e j s else done s)) (truth_is c.kind (word_in c j) h.1 ∙ ap done q)

truth_here : (c d e : Numbers) (j : ℕ) (s : Thing) → PairGuardedFits c d e j s → int_eq (word_in c j) (pos 1) ≡ true → PairFits d e j s
truth_here c d e j s h q = h.2 (truth_is c.kind (word_in c j) h.1 ∙ ap done q)

-- the words that are chosen on so many rows from one on
abbrev words_from : Numbers → Numbers → ℕ → ℕ → List ℤ
words_from c d j n = chosen_words (take n (drop j c.items.items)) (take n (drop j d.items.items))

words_next : (c d : Numbers) (j n : ℕ) (b : Bool) → j < count_of c → j < count_of d → int_eq (word_in c j) (pos 1) ≡ b
    → words_from c d j (suc n) ≡ choice b (word_in d j) (words_from c d (suc j) n)
words_next c d j n b l m q =
    ap₂ (λ us vs. chosen_words (take (suc n) us) (take (suc n) vs)) (rest_from c.items.items j l) (rest_from d.items.items j m)
    ∙ ap (λ t. choice t (word_in d j) (words_from c d (suc j) n)) q

-- ---- all rows

abbrev merged_from : Numbers → Numbers → Numbers → ℕ → ℕ → Part → Outcome Thing
merged_from c d e j n p = map_out building (merge_all p (number_pairs d.kind e.kind (zip (words_from c d j n) (words_from c e j n))))

-- the rows that are left are merged so
abbrev Rest : Numbers → Numbers → Numbers → ℕ → ℕ → Part → Type 0
Rest c d e j n q = FitsThrough (pair_guarded c d e) (PairGuardedFits c d e) j n (building q) → done_through (pair_guarded c d e) j n (building q) ≡ merged_from c d e j n q

-- merged row by row those that are chosen are merged as a list
as_chosen : (c d e : Numbers) (j n : ℕ) (p : Part) → IsNarrow d.kind → IsNarrow e.kind → j + n ≤ count_of c → j + n ≤ count_of d → j + n ≤ count_of e → FitsThrough (pair_guarded c d e) (PairGuardedFits c d e) j n (building p)
    → done_through (pair_guarded c d e) j n (building p) ≡ merged_from c d e j n p
as_chosen c d e j zero p k m lc ld le h = refl
as_chosen c d e j (suc n) p k m lc ld le h =
    by (int_eq (word_in c j) (pos 1)) refl
    (λ q f. as_chosen c d e (suc j) n q k m (omega (arith, lc)) (omega (arith, ld)) (omega (arith, le)) f)
  where
    words : (b : Bool) → int_eq (word_in c j) (pos 1) ≡ b
        → merged_from c d e j (suc n) p ≡ map_out building (merge_all p (number_pairs d.kind e.kind (zip (choice b (word_in d j) (words_from c d (suc j) n)) (choice b (word_in e j) (words_from c e (suc j) n)))))
    words b q =
        ap₂ (λ us vs. map_out building (merge_all p (number_pairs d.kind e.kind (zip us vs)))) (words_next c d j n b (omega (arith, lc)) (omega (arith, ld)) q) (words_next c e j n b (omega (arith, lc)) (omega (arith, le)) q)

    one : pair_done d e j (building p) ≡ map_out building (merge_part p (pair (number d.kind (word_in d j)) (number e.kind (word_in e j))))
    one = ap₂ (λ u v. map_out building (merge_part p (pair (number d.kind u) (number e.kind v)))) (narrow_word d.kind (word_in d j) k) (narrow_word e.kind (word_in e j) m)

    on : (o : Outcome Part) → ((q : Part) → o ≡ done q → FitsThrough (pair_guarded c d e) (PairGuardedFits c d e) (suc j) n (building q)) → ((q : Part) → Rest c d e (suc j) n q)
        → and_then (map_out building o) (λ t. done_through (pair_guarded c d e) (suc j) n t) ≡ map_out building (and_then o (λ q. merge_all q (number_pairs d.kind e.kind (zip (words_from c d (suc j) n) (words_from c e (suc j) n)))))
    on (done q) f rest = rest q (f q refl)
    on fault f rest = refl
    on stuck f rest = refl

    by : (b : Bool) → int_eq (word_in c j) (pos 1) ≡ b → ((q : Part) → Rest c d e (suc j) n q) → done_through (pair_guarded c d e) j (suc n) (building p) ≡ merged_from c d e j (suc n) p
    by true q rest =
        let here : pair_guarded c d e j (building p) ≡ map_out building (merge_part p (pair (number d.kind (word_in d j)) (number e.kind (word_in e j)))) = by_truth c d e j (building p) true h.0 q ∙ one in
        ap (λ o. and_then o (λ t. done_through (pair_guarded c d e) (suc j) n t)) here
        ∙ on (merge_part p (pair (number d.kind (word_in d j)) (number e.kind (word_in e j)))) (λ r f. h.1 (building r) (here ∙ ap (map_out building) f)) rest
        ∙ sym (words true q)
    by false q rest =
        let here : pair_guarded c d e j (building p) ≡ done (building p) = by_truth c d e j (building p) false h.0 q in
        ap (λ o. and_then o (λ t. done_through (pair_guarded c d e) (suc j) n t)) here
        ∙ rest p (h.1 (building p) here)
        ∙ sym (words false q)

-- where one is chosen there is a builder that takes pairs
some_chosen : (c d e : Numbers) (j n : ℕ) (s : Thing) → j + n ≤ count_of c → j + n ≤ count_of d → FitsThrough (pair_guarded c d e) (PairGuardedFits c d e) j n s → 0 < length (words_from c d j n)
    → (p : Part) × (s ≡ building p) × TakesPairs p d.kind e.kind
some_chosen c d e j zero s lc ld h less = absurd (omega (arith, less))
some_chosen c d e j (suc n) s lc ld h less = by (int_eq (word_in c j) (pos 1)) refl (λ f l. some_chosen c d e (suc j) n s (omega (arith, lc)) (omega (arith, ld)) f l)
  where
    by : (b : Bool) → int_eq (word_in c j) (pos 1) ≡ b
        → (FitsThrough (pair_guarded c d e) (PairGuardedFits c d e) (suc j) n s → 0 < length (words_from c d (suc j) n) → (p : Part) × (s ≡ building p) × TakesPairs p d.kind e.kind)
        → (p : Part) × (s ≡ building p) × TakesPairs p d.kind e.kind
    by true q rest = item_taken d e j s (truth_here c d e j s h.0 q).2
    by false q rest =
        rest (h.1 s (by_truth c d e j s false h.0 q)) (subst (λ (us : List ℤ). 0 < length us) (words_next c d j n false (omega (arith, lc)) (omega (arith, ld)) q) less)

-- where none is chosen nothing is done
none_chosen : (c d e : Numbers) (j n : ℕ) (s : Thing) → j + n ≤ count_of c → j + n ≤ count_of d → FitsThrough (pair_guarded c d e) (PairGuardedFits c d e) j n s → length (words_from c d j n) ≡ 0
    → done_through (pair_guarded c d e) j n s ≡ done s
none_chosen c d e j zero s lc ld h is = refl
none_chosen c d e j (suc n) s lc ld h is = by (int_eq (word_in c j) (pos 1)) refl (λ f l. none_chosen c d e (suc j) n s (omega (arith, lc)) (omega (arith, ld)) f l)
  where
    by : (b : Bool) → int_eq (word_in c j) (pos 1) ≡ b
        → (FitsThrough (pair_guarded c d e) (PairGuardedFits c d e) (suc j) n s → length (words_from c d (suc j) n) ≡ 0 → done_through (pair_guarded c d e) (suc j) n s ≡ done s)
        → done_through (pair_guarded c d e) j (suc n) s ≡ done s
    by true q rest =
        let more : suc (length (words_from c d (suc j) n)) ≡ 0 = sym (ap length (words_next c d j n true (omega (arith, lc)) (omega (arith, ld)) q)) ∙ is in absurd (omega (arith, more))
    by false q rest =
        let here : pair_guarded c d e j s ≡ done s = by_truth c d e j s false h.0 q in
        ap (λ o. and_then o (λ t. done_through (pair_guarded c d e) (suc j) n t)) here
        ∙ rest (h.1 s here) (sym (ap length (words_next c d j n false (omega (arith, lc)) (omega (arith, ld)) q)) ∙ is)

all_put : {T : Type 0} (r : Result T Stop) (c d e : Numbers) (n : ℕ) (p q : Part) → IsNarrow d.kind → IsNarrow e.kind → n ≤ count_of c → n ≤ count_of d → n ≤ count_of e → FitsThrough (pair_guarded c d e) (PairGuardedFits c d e) 0 n (building p)
    → MergeAnswer r (merge_all p (number_pairs d.kind e.kind (zip (words_from c d 0 n) (words_from c e 0 n)))) q → Acts r (done_through (pair_guarded c d e) 0 n (building p)) (building q)
all_put (Ok x) c d e n p q k m lc ld le h a = as_chosen c d e 0 n p k m (omega (arith, lc)) (omega (arith, ld)) (omega (arith, le)) h ∙ ap (map_out building) a
all_put (Err Fault) c d e n p q k m lc ld le h a = as_chosen c d e 0 n p k m (omega (arith, lc)) (omega (arith, ld)) (omega (arith, le)) h ∙ ap (map_out building) a
all_put (Err Memory) c d e n p q k m lc ld le h a = tt

pub chosen_put : {T : Type 0} (r : Result T Stop) (c d e : Numbers) (n : ℕ) (s : Thing) (p q : Part) (ks ns : List ℤ) → IsNarrow d.kind → IsNarrow e.kind → n ≤ count_of c → n ≤ count_of d → n ≤ count_of e → s ≡ building p
    → ks ≡ words_from c d 0 n → ns ≡ words_from c e 0 n → FitsThrough (pair_guarded c d e) (PairGuardedFits c d e) 0 n s → MergeAnswer r (merge_all p (number_pairs d.kind e.kind (zip ks ns))) q → Acts r (done_through (pair_guarded c d e) 0 n s) (building q)
chosen_put r c d e n s p q ks ns k m lc ld le is f g h a =
    subst (λ (t : Thing). Acts r (done_through (pair_guarded c d e) 0 n t) (building q)) (sym is)
    (all_put r c d e n p q k m lc ld le (subst (FitsThrough (pair_guarded c d e) (PairGuardedFits c d e) 0 n) is h) (subst (λ (es : List (ℤ × ℤ)). MergeAnswer r (merge_all p (number_pairs d.kind e.kind es)) q) (ap₂ zip f g) a))

pub chosen_on : (c d e : Numbers) (n : ℕ) (s : Thing) (ks : List ℤ) → n ≤ count_of c → n ≤ count_of d → FitsThrough (pair_guarded c d e) (PairGuardedFits c d e) 0 n s → ks ≡ words_from c d 0 n → 0 < length ks
    → (p : Part) × (s ≡ building p) × TakesPairs p d.kind e.kind
chosen_on c d e n s ks lc ld h is less = some_chosen c d e 0 n s (omega (arith, lc)) (omega (arith, ld)) h (subst (λ (us : List ℤ). 0 < length us) is less)

pub chosen_none : (c d e : Numbers) (n : ℕ) (s : Thing) (ks : List ℤ) → n ≤ count_of c → n ≤ count_of d → FitsThrough (pair_guarded c d e) (PairGuardedFits c d e) 0 n s → ks ≡ words_from c d 0 n → length ks ≡ 0
    → done_through (pair_guarded c d e) 0 n s ≡ done s
chosen_none c d e n s ks lc ld h is none = none_chosen c d e 0 n s (omega (arith, lc)) (omega (arith, ld)) h (sym (ap length is) ∙ none)

pub chosen_takes : (c d e : Numbers) (n : ℕ) (s : Thing) (p : Part) (ks : List ℤ) → s ≡ building p → n ≤ count_of c → n ≤ count_of d → FitsThrough (pair_guarded c d e) (PairGuardedFits c d e) 0 n s → ks ≡ words_from c d 0 n → 0 < length ks
    → TakesPairs p d.kind e.kind
chosen_takes c d e n s p ks at lc ld h is less =
    let on = chosen_on c d e n s ks lc ld h is less in
    subst (λ (r : Part). TakesPairs r d.kind e.kind) (part_is _ p (sym on.1 ∙ at)) on.2
