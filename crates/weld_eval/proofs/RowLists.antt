-- The rows of legs, seen as the lists of their elements.
use Rattle.std.proofs.Common.{◌≡◌, ℕ, zero, suc, ◌<◌, ◌==◌, ◌≢◌, ltb, Bool, true, false, ◌&&◌, List, [], ◌∷◌, ◌++◌, map, length, slice_get, Option, Some, None, option_to_list, Ok, inl, inr, ◌⊎◌, refl, ap, sym, subst, ◌∙◌, arith}
use Rattle.std.proofs.lemmas.Bool.{eq-eqb, eqb-true, lt-ltb, ltb-true}
use Rattle.std.proofs.lemmas.List.{length-map}
use Rattle.std.proofs.lemmas.Option.{slice_get-get_or}
use Rattle.weld_data.specs.Value.{Value, Values, no_values, and_value, struct, values, list_of_values, list_of_values-values}
use Rattle.weld_builders.specs.Outcome.{done, fault, and_then, map_out}
use Rattle.weld_meaning.specs.Evaluation.{join_rows, zipped, rows_of}
use Rattle.weld_meaning.specs.Thing.{value_at, value_field}
use Rattle.weld_eval.specs.Fits.{HasField}
use Rattle.weld_eval.specs.declared.short.Short.{Short}
use Rattle.weld_eval.specs.NumberAnswers.{ElementNumber, FieldNumber}
use Rattle.weld_eval.specs.RowLists.{or_none, rows_in, RowsAnswer, all_long, AllReach, elements_at, row_in, all_reach, has_row, is_one}

-- ---- rows of legs of one length

both : (a b : Bool) → (a && b) ≡ true → (a ≡ true) × (b ≡ true)
both true b e = (refl, e)
both false b e = let no : ⊥ = cc in absurd no

abbrev joined : List Value → List Values → List Values
joined [] rs = []
joined (v ∷ vs) [] = []
joined (v ∷ vs) (r ∷ rs) = and_value v r ∷ joined vs rs

abbrev all_joined : List Value → List (List Value) → List Values
all_joined l [] = map (λ v. and_value v no_values) l
all_joined l (m ∷ ls) = joined l (all_joined m ls)

joined_length : (vs : List Value) (rs : List Values) → length vs ≡ length rs → length (joined vs rs) ≡ length vs
joined_length [] rs e = refl
joined_length (v ∷ vs) [] e = absurd (omega arith)
joined_length (v ∷ vs) (r ∷ rs) e = ap suc (joined_length vs rs (omega arith))

joins : (vs : List Value) (rs : List Values) → length vs ≡ length rs → join_rows vs rs ≡ done (joined vs rs)
joins [] [] e = refl
joins [] (r ∷ rs) e = absurd (omega arith)
joins (v ∷ vs) [] e = absurd (omega arith)
joins (v ∷ vs) (r ∷ rs) e = ap (map_out (λ (t : List Values). and_value v r ∷ t)) (joins vs rs (omega arith))

faults : (vs : List Value) (rs : List Values) → length vs ≢ length rs → join_rows vs rs ≡ fault
faults [] [] d = absurd (d refl)
faults [] (r ∷ rs) d = refl
faults (v ∷ vs) [] d = refl
faults (v ∷ vs) (r ∷ rs) d = ap (map_out (λ (t : List Values). and_value v r ∷ t)) (faults vs rs (λ e. d (ap suc e)))

all_length : (n : ℕ) (l : List Value) (ls : List (List Value)) → length l ≡ n → all_long n ls ≡ true → length (all_joined l ls) ≡ n
all_length n l [] e a = length-map l (λ v. and_value v no_values) ∙ e
all_length n l (m ∷ ls) e a =
    let p = both (length m == n) (all_long n ls) a in
    joined_length l (all_joined m ls) (e ∙ sym (all_length n m ls (eqb-true (length m) n p.0) p.1)) ∙ e

zips : (n : ℕ) (l : List Value) (ls : List (List Value)) → length l ≡ n → all_long n ls ≡ true → zipped (l ∷ ls) ≡ done (all_joined l ls)
zips n l [] e a = refl
zips n l (m ∷ ls) e a =
    let p = both (length m == n) (all_long n ls) a in
    let k = eqb-true (length m) n p.0 in
    ap (λ o. and_then o (join_rows l)) (zips n m ls k p.1) ∙ joins l (all_joined m ls) (e ∙ sym (all_length n m ls k p.1))

-- what is zipped has the length of the first leg
zipped_cases : (l : List Value) (ls : List (List Value)) → (zipped (l ∷ ls) ≡ fault) ⊎ ((rs : List Values) × (zipped (l ∷ ls) ≡ done rs) × (length rs ≡ length l))
zipped_cases l [] = inr (map (λ v. and_value v no_values) l, refl, length-map l (λ v. and_value v no_values))
zipped_cases l (m ∷ ls) = by (zipped_cases m ls)
  where
    joined_cases : (rs : List Values) → zipped (m ∷ ls) ≡ done rs → (b : Bool) → (length l == length rs) ≡ b → (zipped (l ∷ m ∷ ls) ≡ fault) ⊎ ((ts : List Values) × (zipped (l ∷ m ∷ ls) ≡ done ts) × (length ts ≡ length l))
    joined_cases rs z true q =
        let e = eqb-true (length l) (length rs) q in
        inr (joined l rs, ap (λ o. and_then o (join_rows l)) z ∙ joins l rs e, joined_length l rs e)
    joined_cases rs z false q = inl (ap (λ o. and_then o (join_rows l)) z ∙ faults l rs (λ e. differ e q))
      where
        differ : length l ≡ length rs → (length l == length rs) ≡ false → ⊥
        differ e q = let t = eq-eqb (length l) (length rs) e in let no : ⊥ = cc in no

    by : (zipped (m ∷ ls) ≡ fault) ⊎ ((rs : List Values) × (zipped (m ∷ ls) ≡ done rs) × (length rs ≡ length m)) → (zipped (l ∷ m ∷ ls) ≡ fault) ⊎ ((ts : List Values) × (zipped (l ∷ m ∷ ls) ≡ done ts) × (length ts ≡ length l))
    by (inl z) = inl (ap (λ o. and_then o (join_rows l)) z)
    by (inr r) = joined_cases r.0 r.1 (length l == length r.0) refl

uneven : (n : ℕ) (l : List Value) (ls : List (List Value)) → length l ≡ n → all_long n ls ≡ false → zipped (l ∷ ls) ≡ fault
uneven n l [] e a = let no : ⊥ = cc in absurd no
uneven n l (m ∷ ls) e a = by (λ k b. uneven n m ls k b) (length m == n) refl
  where
    rest : (b : Bool) → (length m == n) ≡ b → b ≡ true → all_long n ls ≡ false
    rest b q t = sym (ap (λ c. c && all_long n ls) (q ∙ t)) ∙ a

    other : (zipped (m ∷ ls) ≡ fault) ⊎ ((rs : List Values) × (zipped (m ∷ ls) ≡ done rs) × (length rs ≡ length m)) → length m ≢ n → zipped (l ∷ m ∷ ls) ≡ fault
    other (inl z) d = ap (λ o. and_then o (join_rows l)) z
    other (inr r) d = ap (λ o. and_then o (join_rows l)) r.1 ∙ faults l r.0 (λ k. d (sym r.2 ∙ sym k ∙ e))

    differ : (length m == n) ≡ false → length m ≢ n
    differ q k = let t = eq-eqb (length m) n k in let no : ⊥ = cc in no

    by : (length m ≡ n → all_long n ls ≡ false → zipped (m ∷ ls) ≡ fault) → (b : Bool) → (length m == n) ≡ b → zipped (l ∷ m ∷ ls) ≡ fault
    by more true q = ap (λ o. and_then o (join_rows l)) (more (eqb-true (length m) n q) (rest true q refl))
    by more false q = other (zipped_cases m ls) (differ q)

-- ---- how many rows there are

rows_length : (rows : List Value) (ls : List (List Value)) (n : ℕ) → rows_of ls ≡ done rows → length rows ≡ n → RowsAnswer (Ok n) ls
rows_length rows ls n e k =
    let same : rows_in ls ≡ rows = ap or_none e in
    (e ∙ ap done (sym same), ap length same ∙ k)

pub even_rows : (n : ℕ) (l : List Value) (ls : List (List Value)) → length l ≡ n → all_long n ls ≡ true → RowsAnswer (Ok n) (l ∷ ls)
even_rows n l [] e a = (refl, e)
even_rows n l (m ∷ ls) e a =
    rows_length (map struct (all_joined l (m ∷ ls))) (l ∷ m ∷ ls) n (ap (map_out (map struct)) (zips n l (m ∷ ls) e a)) (length-map (all_joined l (m ∷ ls)) struct ∙ all_length n l (m ∷ ls) e a)

pub uneven_rows : (n : ℕ) (l : List Value) (ls : List (List Value)) → length l ≡ n → all_long n ls ≡ false → rows_of (l ∷ ls) ≡ fault
uneven_rows n l [] e a = let no : ⊥ = cc in absurd no
uneven_rows n l (m ∷ ls) e a = ap (map_out (map struct)) (uneven n l (m ∷ ls) e a)

-- ---- the row of a number

get_there : {A : Type 0} (xs : List A) (i : ℕ) → i < length xs → (x : A) × (slice_get xs i ≡ Some x)
get_there [] i lt = absurd (omega arith)
get_there (x ∷ xs) zero lt = (x, refl)
get_there (x ∷ xs) (suc i) lt = get_there xs i (omega arith)

get_map : {A B : Type 0} (f : A → B) (xs : List A) (i : ℕ) (x : A) → slice_get xs i ≡ Some x → slice_get (map f xs) i ≡ Some (f x)
get_map f [] i x e = let no : ⊥ = cc in absurd no
get_map f (y ∷ ys) zero x e = let same : y ≡ x = cc in ap (λ z. Some (f z)) same
get_map f (y ∷ ys) (suc i) x e = get_map f ys i x e

joined_at : (vs : List Value) (rs : List Values) (i : ℕ) (v : Value) (r : Values) → slice_get vs i ≡ Some v → slice_get rs i ≡ Some r → slice_get (joined vs rs) i ≡ Some (and_value v r)
joined_at [] rs i v r e f = let no : ⊥ = cc in absurd no
joined_at (w ∷ vs) [] i v r e f = let no : ⊥ = cc in absurd no
joined_at (w ∷ vs) (s ∷ rs) zero v r e f =
    let same : w ≡ v = cc in
    let also : s ≡ r = cc in
    ap (λ x. Some (and_value x s)) same ∙ ap (λ x. Some (and_value v x)) also
joined_at (w ∷ vs) (s ∷ rs) (suc i) v r e f = joined_at vs rs i v r e f

all_joined_at : (n : ℕ) (l : List Value) (ls : List (List Value)) (i : ℕ) → length l ≡ n → all_long n ls ≡ true → i < n → slice_get (all_joined l ls) i ≡ Some (values (elements_at i (l ∷ ls)))
all_joined_at n l [] i e a lt =
    let p = get_there l i (omega arith) in
    get_map (λ v. and_value v no_values) l i p.0 p.1 ∙ ap (λ o. Some (values (option_to_list o ++ []))) (sym p.1)
all_joined_at n l (m ∷ ls) i e a lt =
    let p = get_there l i (omega arith) in
    let q = both (length m == n) (all_long n ls) a in
    let r = all_joined_at n m ls i (eqb-true (length m) n q.0) q.1 lt in
    joined_at l (all_joined m ls) i p.0 (values (elements_at i (m ∷ ls))) p.1 r ∙ ap (λ o. Some (values (option_to_list o ++ elements_at i (m ∷ ls)))) (sym p.1)

lists_reach : (n : ℕ) (ls : List (List Value)) (i : ℕ) → all_long n ls ≡ true → i < n → AllReach i ls
lists_reach n [] i a lt = tt
lists_reach n (l ∷ ls) i a lt =
    let q = both (length l == n) (all_long n ls) a in
    let e = eqb-true (length l) n q.0 in
    (omega arith, lists_reach n ls i q.1 lt)

-- where there is a row, the legs are of one length
long_legs : (l : List Value) (ls : List (List Value)) (i : ℕ) → i < length (rows_in (l ∷ ls)) → (all_long (length l) ls ≡ true) × (i < length l)
long_legs l ls i lt = by (all_long (length l) ls) refl
  where
    by : (b : Bool) → all_long (length l) ls ≡ b → (all_long (length l) ls ≡ true) × (i < length l)
    by true q = (q, let k = (even_rows (length l) l ls refl q).1 in omega arith)
    by false q =
        let none : rows_in (l ∷ ls) ≡ [] = ap or_none (uneven_rows (length l) l ls refl q) in
        let zero_long : length (rows_in (l ∷ ls)) ≡ 0 = ap length none in
        absurd (omega arith)

pub reach : (ls : List (List Value)) (i : ℕ) → i < length (rows_in ls) → AllReach i ls
reach [] i lt = tt
reach (l ∷ ls) i lt = let p = long_legs l ls i lt in (p.1, lists_reach (length l) ls i p.0 p.1)

pub row_there : (l m : List Value) (ls : List (List Value)) (i : ℕ) → i < length (rows_in (l ∷ m ∷ ls)) → slice_get (rows_in (l ∷ m ∷ ls)) i ≡ Some (struct (values (elements_at i (l ∷ m ∷ ls))))
row_there l m ls i lt =
    let p = long_legs l (m ∷ ls) i lt in
    let rows : rows_in (l ∷ m ∷ ls) ≡ map struct (all_joined l (m ∷ ls)) = ap (λ o. or_none (map_out (map struct) o)) (zips (length l) l (m ∷ ls) refl p.0) in
    ap (λ (rs : List Value). slice_get rs i) rows ∙ get_map struct (all_joined l (m ∷ ls)) i (values (elements_at i (l ∷ m ∷ ls))) (all_joined_at (length l) l (m ∷ ls) i refl p.0 p.1)

-- ---- the row of a number as what it stands for

-- where there is a row of that number, each leg has an element of it
reaches : (ls : List (List Value)) (i : ℕ) → AllReach i ls → all_reach i ls ≡ true
reaches [] i r = refl
reaches (l ∷ ls) i r = ap (λ b. b && all_reach i ls) (lt-ltb i (length l) r.0) ∙ reaches ls i r.1

pub row_stands : (ls : List (List Value)) (i : ℕ) → i < length (rows_in ls) → has_row i ls ≡ true
row_stands [] i lt = absurd (omega arith)
row_stands (l ∷ ls) i lt = reaches (l ∷ ls) i (reach (l ∷ ls) i lt)

-- the row of a number is what the legs' elements make
pub row_is : (ls : List (List Value)) (i : ℕ) → i < length (rows_in ls) → slice_get (rows_in ls) i ≡ Some (row_in ls i)
row_is [] i lt = absurd (omega arith)
row_is (l ∷ []) i lt = slice_get-get_or l i (struct no_values) lt
row_is (l ∷ m ∷ ls) i lt = row_there l m ls i lt

-- the same of rows that are known by their equation
pub row_of_rows : (ls : List (List Value)) (rows : List Value) (i : ℕ) → rows_of ls ≡ done rows → i < length rows → slice_get rows i ≡ Some (row_in ls i)
row_of_rows ls rows i e lt =
    let same : rows_in ls ≡ rows = ap or_none e in
    subst (λ (rs : List Value). slice_get rs i ≡ Some (row_in ls i)) same (row_is ls i (subst (λ (rs : List Value). i < length rs) (sym same) lt))

-- ---- the parts of a row

-- the first leg has the element
pub first_reaches : (l : List Value) (ls : List (List Value)) (i : ℕ) → has_row i (l ∷ ls) ≡ true → i < length l
first_reaches l ls i h = ltb-true i (length l) (both (ltb i (length l)) (all_reach i ls) h).0

-- so has the leg of that place
pub leg_reaches : (ls : List (List Value)) (i n : ℕ) (l : List Value) → all_reach i ls ≡ true → slice_get ls n ≡ Some l → i < length l
leg_reaches [] i n l h e = let no : ⊥ = cc in absurd no
leg_reaches (m ∷ ls) i zero l h e =
    let same : m ≡ l = cc in
    subst (λ (k : List Value). i < length k) same (ltb-true i (length m) (both (ltb i (length m)) (all_reach i ls) h).0)
leg_reaches (m ∷ ls) i (suc n) l h e = leg_reaches ls i n l (both (ltb i (length m)) (all_reach i ls) h).1 e

pub legs_reach : (ls : List (List Value)) (i n : ℕ) (l : List Value) → has_row i ls ≡ true → slice_get ls n ≡ Some l → i < length l
legs_reach [] i n l h e = let no : ⊥ = cc in absurd no
legs_reach (m ∷ ls) i n l h e = leg_reaches (m ∷ ls) i n l h e

-- ---- the fields of a row of more legs than one

more_row : (ls : List (List Value)) (i : ℕ) → false ≡ is_one ls → has_row i ls ≡ true → row_in ls i ≡ struct (values (elements_at i ls))
more_row [] i o h = let no : ⊥ = cc in absurd no
more_row (l ∷ []) i o h = let no : ⊥ = cc in absurd no
more_row (l ∷ m ∷ ls) i o h = refl

elements_length : (ls : List (List Value)) (i : ℕ) → all_reach i ls ≡ true → length (elements_at i ls) ≡ length ls
elements_length [] i h = refl
elements_length (l ∷ ls) i h =
    let p = both (ltb i (length l)) (all_reach i ls) h in
    let g = get_there l i (ltb-true i (length l) p.0) in
    ap (λ o. length (option_to_list o ++ elements_at i ls)) g.1 ∙ ap suc (elements_length ls i p.1)

elements_value : (ls : List (List Value)) (i n : ℕ) (l : List Value) (v : Value) → all_reach i ls ≡ true → slice_get ls n ≡ Some l → slice_get l i ≡ Some v → value_at n (values (elements_at i ls)) ≡ done v
elements_value [] i n l v h e is = let no : ⊥ = cc in absurd no
elements_value (m ∷ ls) i zero l v h e is =
    let same : m ≡ l = cc in
    ap (λ (k : List Value). value_at zero (values (option_to_list (slice_get k i) ++ elements_at i ls))) same
    ∙ ap (λ o. value_at zero (values (option_to_list o ++ elements_at i ls))) is
elements_value (m ∷ ls) i (suc n) l v h e is =
    let p = both (ltb i (length m)) (all_reach i ls) h in
    let g = get_there m i (ltb-true i (length m) p.0) in
    ap (λ o. value_at (suc n) (values (option_to_list o ++ elements_at i ls))) g.1 ∙ elements_value ls i n l v p.1 e is

reached : (ls : List (List Value)) (i : ℕ) → has_row i ls ≡ true → all_reach i ls ≡ true
reached [] i h = refl
reached (l ∷ ls) i h = h

pub field_within : (ls : List (List Value)) (i n : ℕ) → false ≡ is_one ls → has_row i ls ≡ true → HasField n (row_in ls i) → n < length ls
field_within ls i n o h f =
    let there : n < length (list_of_values (values (elements_at i ls))) = subst (λ (v : Value). HasField n v) (more_row ls i o h) f in
    let long : length (list_of_values (values (elements_at i ls))) ≡ length ls = ap length (list_of_values-values (elements_at i ls)) ∙ elements_length ls i (reached ls i h) in
    omega arith

pub field_value : (ls : List (List Value)) (i n : ℕ) (l : List Value) (v : Value) → false ≡ is_one ls → has_row i ls ≡ true → slice_get ls n ≡ Some l → slice_get l i ≡ Some v → value_field n (row_in ls i) ≡ done v
field_value ls i n l v o h e is = ap (value_field n) (more_row ls i o h) ∙ elements_value ls i n l v (reached ls i h) e is

pub field_number : (ls : List (List Value)) (i n : ℕ) (l : List Value) (r : Option Short) → false ≡ is_one ls → has_row i ls ≡ true → slice_get ls n ≡ Some l → ElementNumber r (slice_get l i) → FieldNumber r (value_field n (row_in ls i))
field_number ls i n l (Some s) o h e is = field_value ls i n l _ o h e is
field_number ls i n l None o h e is = (is.0, field_value ls i n l is.0 o h e is.1, is.2)
