-- Rows over lists of which one stands twice: what the rows over the others are, with that one's element at a further place.
use Rattle.std.proofs.Common.{◌≡◌, ℕ, zero, suc, List, [], ◌∷◌, map, Option, Some, None, refl, ap, sym, subst, ◌∙◌}
use Rattle.weld_data.specs.Value.{Value, struct, Values, no_values, and_value}
use Rattle.weld_builders.specs.Outcome.{Outcome, done, fault, stuck, and_then, map_out}
use Rattle.weld_meaning.specs.Evaluation.{join_rows, zipped, rows_of}

-- one more at a place
abbrev pub with_value : ℕ → Value → Values → Values
with_value zero v vs = and_value v vs
with_value (suc n) v no_values = and_value v no_values
with_value (suc n) v (and_value w vs) = and_value w (with_value n v vs)

abbrev pub with_list : ℕ → List Value → List (List Value) → List (List Value)
with_list zero l ls = l ∷ ls
with_list (suc n) l [] = l ∷ []
with_list (suc n) l (m ∷ ls) = m ∷ with_list n l ls

-- each row with an element of a list at the place; there is a fault where they aren't as many
abbrev pub add_column : ℕ → List Value → List Values → Outcome (List Values)
add_column n [] [] = done []
add_column n [] (r ∷ rs) = fault
add_column n (v ∷ vs) [] = fault
add_column n (v ∷ vs) (r ∷ rs) = map_out (λ t. with_value n v r ∷ t) (add_column n vs rs)

-- ---- outcomes of joins are done or a fault

-- it isn't stuck
pub data Sure {A : Type 0} (o : Outcome A) : Type 0 where
  gives : (x : A) → o ≡ done x → Sure o
  faults : o ≡ fault → Sure o

map_sure : {A B : Type 0} (f : A → B) (o : Outcome A) → Sure o → Sure (map_out f o)
map_sure f o (gives x e) = gives (f x) (ap (map_out f) e)
map_sure f o (faults e) = faults (ap (map_out f) e)

join_sure : (l : List Value) (rs : List Values) → Sure (join_rows l rs)
join_sure [] [] = gives [] refl
join_sure [] (r ∷ rs) = faults refl
join_sure (v ∷ l) [] = faults refl
join_sure (v ∷ l) (r ∷ rs) = map_sure _ (join_rows l rs) (join_sure l rs)

add_sure : (n : ℕ) (l : List Value) (rs : List Values) → Sure (add_column n l rs)
add_sure n [] [] = gives [] refl
add_sure n [] (r ∷ rs) = faults refl
add_sure n (v ∷ l) [] = faults refl
add_sure n (v ∷ l) (r ∷ rs) = map_sure _ (add_column n l rs) (add_sure n l rs)

-- ---- a column may be joined before or behind another

first_is_join : (l : List Value) (rs : List Values) → add_column zero l rs ≡ join_rows l rs
first_is_join [] [] = refl
first_is_join [] (r ∷ rs) = refl
first_is_join (v ∷ l) [] = refl
first_is_join (v ∷ l) (r ∷ rs) = ap (map_out (λ t. and_value v r ∷ t)) (first_is_join l rs)

-- where one of both has no more rows, there is a fault
none_more : (o : Outcome (List Values)) (x : Values) (k : List Values → Outcome (List Values)) → Sure o → ((xs : List Values) → k (x ∷ xs) ≡ fault) → and_then (map_out (λ t. x ∷ t) o) k ≡ fault
none_more o x k (gives xs e) f = ap (λ p. and_then (map_out (λ t. x ∷ t) p) k) e ∙ f xs
none_more o x k (faults e) f = ap (λ p. and_then (map_out (λ t. x ∷ t) p) k) e

step : (o : Outcome (List Values)) (x y : Values) (f : List Values → Outcome (List Values)) (k : List Values → Outcome (List Values)) → ((xs : List Values) → k (x ∷ xs) ≡ map_out (λ t. y ∷ t) (f xs)) → and_then (map_out (λ t. x ∷ t) o) k ≡ map_out (λ t. y ∷ t) (and_then o f)
step (done xs) x y f k e = e xs
step fault x y f k e = refl
step stuck x y f k e = refl

exchange : (n : ℕ) (l m : List Value) (rs : List Values) → and_then (add_column n l rs) (join_rows m) ≡ and_then (join_rows m rs) (add_column (suc n) l)
exchange n [] [] [] = refl
exchange n [] (v ∷ m) [] = refl
exchange n (w ∷ l) [] [] = refl
exchange n (w ∷ l) (v ∷ m) [] = refl
exchange n [] [] (r ∷ rs) = refl
exchange n [] (v ∷ m) (r ∷ rs) = sym (none_more (join_rows m rs) (and_value v r) (add_column (suc n) []) (join_sure m rs) (λ xs. refl))
exchange n (w ∷ l) [] (r ∷ rs) = none_more (add_column n l rs) (with_value n w r) (join_rows []) (add_sure n l rs) (λ xs. refl)
exchange n (w ∷ l) (v ∷ m) (r ∷ rs) =
    step (add_column n l rs) (with_value n w r) (and_value v (with_value n w r)) (join_rows m) (join_rows (v ∷ m)) (λ xs. refl)
    ∙ ap (map_out (λ t. and_value v (with_value n w r) ∷ t)) (exchange n l m rs)
    ∙ sym (step (join_rows m rs) (and_value v r) (and_value v (with_value n w r)) (add_column (suc n) l) (add_column (suc n) (w ∷ l)) (λ xs. refl))

single : List Value → List Values
single l = map (λ v. and_value v no_values) l

alone : (n : ℕ) (w : Value) → with_value n w no_values ≡ and_value w no_values
alone zero w = refl
alone (suc n) w = refl

last_column : (n : ℕ) (l m : List Value) → join_rows m (map (λ v. and_value v no_values) l) ≡ add_column (suc n) l (map (λ v. and_value v no_values) m)
last_column n [] [] = refl
last_column n [] (v ∷ m) = refl
last_column n (w ∷ l) [] = refl
last_column n (w ∷ l) (v ∷ m) =
    ap (map_out (λ t. and_value v (and_value w no_values) ∷ t)) (last_column n l m)
    ∙ ap (λ x. map_out (λ t. and_value v x ∷ t) (add_column (suc n) l (map (λ v. and_value v no_values) m))) (sym (alone n w))

regroup : (o : Outcome (List Values)) (f k : List Values → Outcome (List Values)) (g h : List Values → Outcome (List Values)) → ((x : List Values) → and_then (f x) g ≡ and_then (k x) h) → and_then (and_then o f) g ≡ and_then (and_then o k) h
regroup (done x) f k g h e = e x
regroup fault f k g h e = refl
regroup stuck f k g h e = refl

behind_first : (n : ℕ) (l m k : List Value) (ls : List (List Value)) → zipped (m ∷ with_list n l (k ∷ ls)) ≡ and_then (zipped (with_list n l (k ∷ ls))) (join_rows m)
behind_first zero l m k ls = refl
behind_first (suc n) l m k ls = refl

-- rows over lists with one at a further place are those over the others, with its elements there
pub zip_with : (n : ℕ) (l m : List Value) (ls : List (List Value)) → zipped (with_list n l (m ∷ ls)) ≡ and_then (zipped (m ∷ ls)) (add_column n l)
zip_with zero l m ls = by (zipped (m ∷ ls))
  where
    by : (o : Outcome (List Values)) → and_then o (join_rows l) ≡ and_then o (add_column zero l)
    by (done rs) = sym (first_is_join l rs)
    by fault = refl
    by stuck = refl
zip_with (suc zero) l m [] = last_column zero l m
zip_with (suc (suc n)) l m [] = last_column (suc n) l m
zip_with (suc n) l m (k ∷ ls) =
    behind_first n l m k ls ∙ ap (λ o. and_then o (join_rows m)) (zip_with n l k ls)
    ∙ regroup (zipped (k ∷ ls)) (add_column n l) (join_rows m) (join_rows m) (add_column (suc n) l) (λ rs. exchange n l m rs)

-- ---- a column that is there already

abbrev pub nth_value : ℕ → Values → Value
nth_value n no_values = struct no_values
nth_value zero (and_value v vs) = v
nth_value (suc n) (and_value v vs) = nth_value n vs

abbrev pub nth_list : ℕ → List (List Value) → Option (List Value)
nth_list n [] = None
nth_list zero (l ∷ ls) = Some l
nth_list (suc n) (l ∷ ls) = nth_list n ls

-- the list has the elements of the rows at that place
abbrev Column : ℕ → List Value → List Values → Type 0
Column n [] [] = Unit {0}
Column n [] (r ∷ rs) = ⊥
Column n (v ∷ vs) [] = ⊥
Column n (v ∷ vs) (r ∷ rs) = (nth_value n r ≡ v) × Column n vs rs

single_column : (l : List Value) → Column zero l (map (λ v. and_value v no_values) l)
single_column [] = tt
single_column (v ∷ l) = (refl, single_column l)

-- what a row more is made of
joined_cons : (x : Values) (o : Outcome (List Values)) (rows : List Values) → map_out (λ t. x ∷ t) o ≡ done rows → (rs : List Values) × (o ≡ done rs) × (rows ≡ x ∷ rs)
joined_cons x (done rs) rows e = let same : x ∷ rs ≡ rows = cc in (rs, refl, sym same)
joined_cons x fault rows e = let nothing : ⊥ = cc in absurd nothing
joined_cons x stuck rows e = let nothing : ⊥ = cc in absurd nothing

first_column : (l : List Value) (rs rows : List Values) → join_rows l rs ≡ done rows → Column zero l rows
first_column [] [] rows e = let same : [] ≡ rows = cc in subst (Column zero []) same tt
first_column [] (r ∷ rs) rows e = let nothing : ⊥ = cc in absurd nothing
first_column (v ∷ l) [] rows e = let nothing : ⊥ = cc in absurd nothing
first_column (v ∷ l) (r ∷ rs) rows e =
    let k = joined_cons (and_value v r) (join_rows l rs) rows e in subst (Column zero (v ∷ l)) (sym k.2) (refl, first_column l rs k.0 k.1)

later_column : (n : ℕ) (m l : List Value) (rs rows : List Values) → join_rows l rs ≡ done rows → Column n m rs → Column (suc n) m rows
later_column n m [] [] rows e c = let same : [] ≡ rows = cc in subst (Column (suc n) m) same (empty n m c)
  where
    empty : (n : ℕ) (m : List Value) → Column n m [] → Column (suc n) m []
    empty n [] c = tt
    empty n (v ∷ m) c = c
later_column n m [] (r ∷ rs) rows e c = let nothing : ⊥ = cc in absurd nothing
later_column n m (v ∷ l) [] rows e c = let nothing : ⊥ = cc in absurd nothing
later_column n [] (v ∷ l) (r ∷ rs) rows e c = absurd c
later_column n (w ∷ m) (v ∷ l) (r ∷ rs) rows e c =
    let k = joined_cons (and_value v r) (join_rows l rs) rows e in subst (Column (suc n) (w ∷ m)) (sym k.2) (c.0, later_column n m l rs k.0 k.1 c.1)

then_done : {A B : Type 0} (o : Outcome A) (f : A → Outcome B) (y : B) → and_then o f ≡ done y → (x : A) × (o ≡ done x) × (f x ≡ done y)
then_done (done x) f y e = (x, refl, e)
then_done fault f y e = let nothing : ⊥ = cc in absurd nothing
then_done stuck f y e = let nothing : ⊥ = cc in absurd nothing

column_of : (n : ℕ) (l m : List Value) (ls : List (List Value)) (rows : List Values) → nth_list n (m ∷ ls) ≡ Some l → zipped (m ∷ ls) ≡ done rows → Column n l rows
column_of zero l m [] rows k e =
    let same : m ≡ l = cc in let of : map (λ v. and_value v no_values) m ≡ rows = cc in subst (λ x. Column zero x rows) same (subst (Column zero m) of (single_column m))
column_of (suc n) l m [] rows k e = let nothing : ⊥ = cc in absurd nothing
column_of zero l m (i ∷ ls) rows k e =
    let same : m ≡ l = cc in let d = then_done (zipped (i ∷ ls)) (join_rows m) rows e in subst (λ x. Column zero x rows) same (first_column m d.0 rows d.2)
column_of (suc n) l m (i ∷ ls) rows k e =
    let d = then_done (zipped (i ∷ ls)) (join_rows m) rows e in later_column n l m d.0 rows d.2 (column_of n l i ls d.0 k d.1)

filled : (n place : ℕ) (l : List Value) (rows : List Values) → Column n l rows → add_column place l rows ≡ done (map (λ r. with_value place (nth_value n r) r) rows)
filled n place [] [] c = refl
filled n place [] (r ∷ rs) c = absurd c
filled n place (v ∷ l) [] c = absurd c
filled n place (v ∷ l) (r ∷ rs) c =
    (λ i. map_out (λ t. with_value place (sym c.0 i) r ∷ t) (add_column place l rs)) ∙ ap (map_out (λ t. with_value place (nth_value n r) r ∷ t)) (filled n place l rs c.1)

-- ---- rows

-- the fields of a row over so many lists: a row over one is its only field
abbrev pub row_fields : List (List Value) → Value → Values
row_fields [] v = no_values
row_fields (l ∷ []) v = and_value v no_values
row_fields (l ∷ m ∷ ls) (struct vs) = vs
row_fields (l ∷ m ∷ ls) _ = no_values

-- the row with the element at the first place once more at the second
abbrev pub restored : ℕ → ℕ → List (List Value) → Value → Value
restored first second ls v = struct (with_value second (nth_value first (row_fields ls v)) (row_fields ls v))

then_filled : (n place : ℕ) (l : List Value) (o : Outcome (List Values)) → ((rows : List Values) → o ≡ done rows → Column n l rows) → and_then o (add_column place l) ≡ map_out (map (λ r. with_value place (nth_value n r) r)) o
then_filled n place l (done rows) k = filled n place l rows (k rows refl)
then_filled n place l fault k = refl
then_filled n place l stuck k = refl

map_twice : {A B C : Type 0} (f : B → C) (g : A → B) (xs : List A) → map f (map g xs) ≡ map (λ x. f (g x)) xs
map_twice f g [] = refl
map_twice f g (x ∷ xs) = ap (λ r. f (g x) ∷ r) (map_twice f g xs)

out_twice : {A B C : Type 0} (f : B → C) (g : A → B) (h : A → C) (o : Outcome A) → ((x : A) → f (g x) ≡ h x) → map_out f (map_out g o) ≡ map_out h o
out_twice f g h (done x) e = ap done (e x)
out_twice f g h fault e = refl
out_twice f g h stuck e = refl

-- rows over lists with one of them once more
two_at_least : (place : ℕ) (l m : List Value) (ls : List (List Value)) → rows_of (with_list place l (m ∷ ls)) ≡ map_out (map struct) (zipped (with_list place l (m ∷ ls)))
two_at_least zero l m ls = refl
two_at_least (suc zero) l m [] = refl
two_at_least (suc (suc n)) l m [] = refl
two_at_least (suc zero) l m (k ∷ ls) = refl
two_at_least (suc (suc n)) l m (k ∷ ls) = refl

pub rows_restored : (n place : ℕ) (l m : List Value) (ls : List (List Value)) → nth_list n (m ∷ ls) ≡ Some l → rows_of (with_list place l (m ∷ ls)) ≡ map_out (map (restored n place (m ∷ ls))) (rows_of (m ∷ ls))
rows_restored n place l m ls k =
    two_at_least place l m ls ∙ ap (map_out (map struct)) (zip_with place l m ls ∙ then_filled n place l (zipped (m ∷ ls)) (λ rows e. column_of n l m ls rows k e)) ∙ by m ls
  where
    by : (m : List Value) (ls : List (List Value)) → map_out (map struct) (map_out (map (λ r. with_value place (nth_value n r) r)) (zipped (m ∷ ls))) ≡ map_out (map (restored n place (m ∷ ls))) (rows_of (m ∷ ls))
    by m [] = ap done (map_twice struct (λ r. with_value place (nth_value n r) r) (map (λ v. and_value v no_values) m) ∙ map_twice (λ r. struct (with_value place (nth_value n r) r)) (λ v. and_value v no_values) m)
    by m (i ∷ ls) =
        out_twice (map struct) (map (λ r. with_value place (nth_value n r) r)) (map (λ r. struct (with_value place (nth_value n r) r))) (zipped (m ∷ i ∷ ls)) (λ rs. map_twice struct (λ r. with_value place (nth_value n r) r) rs)
        ∙ sym (out_twice (map (restored n place (m ∷ i ∷ ls))) (map struct) (map (λ r. struct (with_value place (nth_value n r) r))) (zipped (m ∷ i ∷ ls)) (λ rs. map_twice (restored n place (m ∷ i ∷ ls)) struct rs))
