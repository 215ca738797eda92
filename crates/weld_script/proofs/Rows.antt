-- The table, row by row.
use Rattle.std.proofs.Common.{◌≡◌, ◌∙◌, ◌<◌, ◌≤◌, ◌+◌, ◌-◌, ◌/◌, ◌%◌, ℕ, zero, suc, ℤ, pos, List, [], ◌∷◌, ◌++◌, map, refl, ap, sym, subst, append_assoc, append-nil, arith}
use Rattle.std.proofs.lemmas.Int.{ints}
use Rattle.weld_data.specs.declared.kind.Kind.TheVariants.{I64}
use Rattle.weld_data.specs.Value.{Value, number as of_kind, list, struct, values}
use Rattle.weld_tree.specs.TypeTree.{vec}
use Rattle.weld_tree.specs.HasValue.{HasValue}
use Rattle.weld_script.specs.declared.made.Made.{Made}
use Rattle.weld_script.specs.Script.{AreInputs, declared_of}
use Rattle.weld_script.specs.Soak.{Row, next_number, draw_below, rows_from, column_of, table_of, soak_table, soak_made, number_type}

-- ---- the loop

-- the numbers of one column
abbrev pub part_of : (Row → ℕ) → List Row → List ℤ
part_of part rows = map (λ r. pos (part r)) rows

-- the first rows are there; what is left are those from the generator's number on
pub record SoFar (seed rows i number : ℕ) (k x y : List ℤ) : Type 0 where
  pub small : number < 2147483648
  pub ks : k ++ part_of (λ r. r.k) (rows_from number (rows - i)) ≡ part_of (λ r. r.k) (rows_from seed rows)
  pub xs : x ++ part_of (λ r. r.x) (rows_from number (rows - i)) ≡ part_of (λ r. r.x) (rows_from seed rows)
  pub ys : y ++ part_of (λ r. r.y) (rows_from number (rows - i)) ≡ part_of (λ r. r.y) (rows_from seed rows)

one_less : (rows i : ℕ) → i < rows → rows - i ≡ suc (rows - (i + 1))
one_less rows i h = omega (arith, h)

step : (part : Row → ℕ) (rows i number next : ℕ) (v w whole : List ℤ) (n : ℤ) (row : Row) → i < rows → w ≡ v ++ n ∷ [] → n ≡ pos (part row)
    → rows_from number (suc (rows - (i + 1))) ≡ row ∷ rows_from next (rows - (i + 1))
    → v ++ part_of part (rows_from number (rows - i)) ≡ whole → w ++ part_of part (rows_from next (rows - (i + 1))) ≡ whole
step part rows i number next v w whole n row h e f g s =
    ap (λ vs. vs ++ part_of part (rows_from next (rows - (i + 1)))) e
    ∙ append_assoc v (n ∷ []) (part_of part (rows_from next (rows - (i + 1))))
    ∙ (λ j. v ++ f j ∷ part_of part (rows_from next (rows - (i + 1))))
    ∙ (λ j. v ++ part_of part (sym g j))
    ∙ (λ j. v ++ part_of part (rows_from number (sym (one_less rows i h) j)))
    ∙ s

pub one_more : (seed rows i number next : ℕ) (k x y l w z : List ℤ) → i < rows → SoFar seed rows i number k x y
    → l ≡ k ++ pos (draw_below 8 (next_number number)) ∷ [] → w ≡ x ++ pos (draw_below 100 (next_number (next_number number))) ∷ []
    → z ≡ y ++ pos (draw_below 100 (next_number (next_number (next_number number)))) ∷ []
    → next ≡ next_number (next_number (next_number number)) → next < 2147483648 → SoFar seed rows (i + 1) next l w z
one_more seed rows i number next k x y l w z h s e f g n small =
    let row : Row = record { k = draw_below 8 (next_number number); x = draw_below 100 (next_number (next_number number)); y = draw_below 100 (next_number (next_number (next_number number))) } in
    let here : rows_from number (suc (rows - (i + 1))) ≡ row ∷ rows_from next (rows - (i + 1)) = (λ j. row ∷ rows_from (sym n j) (rows - (i + 1))) in
    record {
      small = small;
      ks = step (λ r. r.k) rows i number next k l (part_of (λ r. r.k) (rows_from seed rows)) (pos row.k) row h e refl here s.ks;
      xs = step (λ r. r.x) rows i number next x w (part_of (λ r. r.x) (rows_from seed rows)) (pos row.x) row h f refl here s.xs;
      ys = step (λ r. r.y) rows i number next y z (part_of (λ r. r.y) (rows_from seed rows)) (pos row.y) row h g refl here s.ys;
    }

pub nothing_yet : (seed rows : ℕ) (k x y : List ℤ) → seed < 2147483648 → k ≡ [] → x ≡ [] → y ≡ [] → SoFar seed rows 0 seed k x y
nothing_yet seed rows k x y h e f g =
    let none : rows - 0 ≡ rows = omega arith in
    record {
      small = h;
      ks = (λ j. e j ++ part_of (λ r. r.k) (rows_from seed (none j)));
      xs = (λ j. f j ++ part_of (λ r. r.x) (rows_from seed (none j)));
      ys = (λ j. g j ++ part_of (λ r. r.y) (rows_from seed (none j)));
    }

ended : (part : Row → ℕ) (rows i number : ℕ) (v whole : List ℤ) → rows ≤ i → v ++ part_of part (rows_from number (rows - i)) ≡ whole → v ≡ whole
ended part rows i number v whole h s =
    let none : 0 ≡ rows - i = omega (arith, h) in
    sym (append-nil v) ∙ (λ j. v ++ part_of part (rows_from number (none j))) ∙ s

pub all_k : (seed rows i number : ℕ) (k x y : List ℤ) → rows ≤ i → SoFar seed rows i number k x y → k ≡ part_of (λ r. r.k) (rows_from seed rows)
all_k seed rows i number k x y h s = ended (λ r. r.k) rows i number k (part_of (λ r. r.k) (rows_from seed rows)) h s.ks

pub all_x : (seed rows i number : ℕ) (k x y : List ℤ) → rows ≤ i → SoFar seed rows i number k x y → x ≡ part_of (λ r. r.x) (rows_from seed rows)
all_x seed rows i number k x y h s = ended (λ r. r.x) rows i number x (part_of (λ r. r.x) (rows_from seed rows)) h s.xs

pub all_y : (seed rows i number : ℕ) (k x y : List ℤ) → rows ≤ i → SoFar seed rows i number k x y → y ≡ part_of (λ r. r.y) (rows_from seed rows)
all_y seed rows i number k x y h s = ended (λ r. r.y) rows i number y (part_of (λ r. r.y) (rows_from seed rows)) h s.ys

-- ---- the value

numbered : (part : Row → ℕ) (rows : List Row) → map (of_kind I64) (part_of part rows) ≡ map (λ r. of_kind I64 (pos (part r))) rows
numbered part [] = refl
numbered part (r ∷ rows) = ap (λ vs. of_kind I64 (pos (part r)) ∷ vs) (numbered part rows)

pub columns_are : (rows : List Row) (k x y : List ℤ) → k ≡ part_of (λ r. r.k) rows → x ≡ part_of (λ r. r.x) rows → y ≡ part_of (λ r. r.y) rows
    → struct (values (list (values (map (of_kind I64) k)) ∷ list (values (map (of_kind I64) x)) ∷ list (values (map (of_kind I64) y)) ∷ [])) ≡ table_of rows
columns_are rows k x y e f g =
    (λ j. struct (values (list (values (map (of_kind I64) (e j))) ∷ list (values (map (of_kind I64) (f j))) ∷ list (values (map (of_kind I64) (g j))) ∷ [])))
    ∙ (λ j. struct (values (list (values (numbered (λ r. r.k) rows j)) ∷ list (values (numbered (λ r. r.x) rows j)) ∷ list (values (numbered (λ r. r.y) rows j)) ∷ [])))

-- ---- its type

-- each number of the part is below that one
abbrev AreSmall : (Row → ℕ) → List Row → Type 0
AreSmall part [] = Unit {0}
AreSmall part (r ∷ rows) = (part r < 100) × AreSmall part rows

column_fits : (part : Row → ℕ) (rows : List Row) → AreSmall part rows → HasValue (vec number_type) (column_of part rows)
column_fits part [] h = tt
column_fits part (r ∷ rows) h = ((refl, record { low = omega (arith, ints); high = omega (arith, ints, h.0) }), column_fits part rows h.1)

rest_below : (n m : ℕ) → 0 < m → m ≤ 100 → n % m < 100
rest_below n m h l = omega (arith, h, l)

k_small : (s n : ℕ) → AreSmall (λ r. r.k) (rows_from s n)
k_small s zero = tt
k_small s (suc n) = (rest_below (next_number s / 65536) 8 (omega arith) (omega arith), k_small (next_number (next_number (next_number s))) n)

x_small : (s n : ℕ) → AreSmall (λ r. r.x) (rows_from s n)
x_small s zero = tt
x_small s (suc n) = (rest_below (next_number (next_number s) / 65536) 100 (omega arith) (omega arith), x_small (next_number (next_number (next_number s))) n)

y_small : (s n : ℕ) → AreSmall (λ r. r.y) (rows_from s n)
y_small s zero = tt
y_small s (suc n) = (rest_below (next_number (next_number (next_number s)) / 65536) 100 (omega arith) (omega arith), y_small (next_number (next_number (next_number s))) n)

pub table_fits : (seed rows : ℕ) → AreInputs (declared_of soak_made) (soak_table seed rows ∷ [])
table_fits seed rows =
    ((column_fits (λ r. r.k) (rows_from seed rows) (k_small seed rows), (column_fits (λ r. r.x) (rows_from seed rows) (x_small seed rows), (column_fits (λ r. r.y) (rows_from seed rows) (y_small seed rows), tt))), tt)

pub inputs_fit : (made : List Made) (inputs : List Value) (seed rows : ℕ) → made ≡ soak_made → inputs ≡ soak_table seed rows ∷ [] → AreInputs (declared_of made) inputs
inputs_fit made inputs seed rows e f = subst (λ ms. AreInputs (declared_of ms) inputs) (sym e) (subst (AreInputs (declared_of soak_made)) (sym f) (table_fits seed rows))
