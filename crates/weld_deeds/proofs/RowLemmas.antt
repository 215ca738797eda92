-- Structs of numbers that are merged one after another.
use Rattle.std.proofs.Common.{◌≡◌, ℕ, zero, suc, ◌+◌, ◌-◌, ◌<◌, ◌≤◌, ℤ, pos, Bool, true, false, if◌then◌else◌, List, [], ◌∷◌, ◌++◌, length, drop, map, get_or, Result, Ok, Err, refl, sym, ap, subst, ◌∙◌, arith, add-one, append_assoc, ◌==◌}
use Rattle.std.specs.Ordering.{int_eq}
use Rattle.std.proofs.lemmas.Bool.{false≢true}
use Rattle.weld_data.specs.declared.kind.Kind.{Kind}
use Rattle.weld_data.specs.Kind.{InRange}
use Rattle.weld_data.specs.Structs.{fields_in, structs_in, AreFields, AreStructs, AreKeptStructs}
use Rattle.weld_data.specs.Value.{Values, and_value, number, struct, values}
use Rattle.weld_builders.specs.Outcome.{Outcome, done, fault, stuck, and_then, map_out}
use Rattle.weld_builders.specs.Part.{Part, merge_part}
use Rattle.weld_meaning.specs.Thing.{Thing, building}
use Rattle.weld_built.specs.Merges.{merge_all, MayAppend}
use Rattle.weld_eval.specs.Word.{of_word}
use Rattle.weld_eval.proofs.Shorts.{narrow_word}
use Rattle.weld_blocks.specs.Numbers.{number_at}
use Rattle.weld_blocks.specs.Scope.{struct_at}
use Rattle.weld_blocks.specs.Structs.{AreLonger}
use Rattle.weld_blocks.specs.declared.numbers.Numbers.{Numbers}
use Rattle.weld_blocks.proofs.Words.{truth_is}
use Rattle.weld_deeds.specs.Rows.{kinds_of_columns, words_at, words_through, structs_through, struct_done, is_chosen, words_chosen, count_chosen, structs_chosen, struct_guarded, StructGuardedFits, AreChosenRows, AreReady}
use Rattle.weld_deeds.specs.Through.{done_through, FitsThrough}

-- the words of a row, before further ones
pub record IsRow (cs : List Numbers) (j : ℕ) (ys : List ℤ) : Type 0 where
  pub are : AreFields (kinds_of_columns cs) (words_at cs j ++ ys)
  pub fields : fields_in (kinds_of_columns cs) (words_at cs j ++ ys) ≡ values (map (λ c. number_at c j) cs)
  pub rest : drop (length (kinds_of_columns cs)) (words_at cs j ++ ys) ≡ ys

is_row : (cs : List Numbers) (j count : ℕ) (ys : List ℤ) → AreReady cs count → IsRow cs j ys
is_row [] j count ys h = record { are = tt; fields = refl; rest = refl }
is_row (c ∷ cs) j count ys h =
    let t = is_row cs j count ys h.2 in
    let x = get_or c.items.items j (pos 0) in
    let word : of_word c.kind x ≡ x = narrow_word c.kind x h.0 in
    record {
      are = (h.0, subst (InRange c.kind) word (c.in_range j), t.are);
      fields = ap (λ (z : ℤ). and_value (number c.kind z) (fields_in (kinds_of_columns cs) (words_at cs j ++ ys))) (sym word) ∙ ap (and_value (number_at c j)) t.fields;
      rest = t.rest;
    }

stand : (cs : List Numbers) (j n count : ℕ) → AreReady cs count → AreStructs n (kinds_of_columns cs) (words_through cs j n)
stand cs j zero count h = refl
stand cs j (suc n) count h =
    let t = is_row cs j count (words_through cs (suc j) n) h in
    (t.are, subst (AreStructs n (kinds_of_columns cs)) (sym t.rest) (stand cs (suc j) n count h))

all_are : (cs : List Numbers) (j n count : ℕ) → AreReady cs count → structs_in n (kinds_of_columns cs) (words_through cs j n) ≡ structs_through cs j n
all_are cs j zero count h = refl
all_are cs j (suc n) count h =
    let t = is_row cs j count (words_through cs (suc j) n) h in
    ap (λ (fs : Values). struct fs ∷ structs_in n (kinds_of_columns cs) (drop (length (kinds_of_columns cs)) (words_through cs j (suc n)))) t.fields
    ∙ ap (λ (xs : List ℤ). struct_at cs j ∷ structs_in n (kinds_of_columns cs) xs) t.rest
    ∙ ap (λ vs. struct_at cs j ∷ vs) (all_are cs (suc j) n count h)

-- a list keeps them so
some_columns : (cs : List Numbers) → (length cs == 0) ≡ false → 0 < length (kinds_of_columns cs)
some_columns [] h = absurd (false≢true (sym h))
some_columns (c ∷ cs) h = omega arith

pub rows_kept : (cs : List Numbers) (count : ℕ) (ks : List Kind) (xs : List ℤ) → AreReady cs count → (length cs == 0) ≡ false → ks ≡ kinds_of_columns cs → xs ≡ words_through cs 0 count → AreKeptStructs count ks xs
rows_kept cs count ks xs h some p q =
    subst (λ (is : List Kind). AreKeptStructs count is xs) (sym p)
    (subst (λ (zs : List ℤ). AreKeptStructs count (kinds_of_columns cs) zs) (sym q) (record { some = some_columns cs some; structs = stand cs 0 count count h }))

pub rows_are : {E : Type 0} (r : Result Bool E) (cs : List Numbers) (count : ℕ) (ks : List Kind) (xs : List ℤ) (p q : Part) → AreReady cs count → ks ≡ kinds_of_columns cs → xs ≡ words_through cs 0 count
    → MayAppend r p (λ all. merge_all p (structs_in count ks xs) ≡ done all) q → MayAppend r p (λ all. merge_all p (structs_through cs 0 count) ≡ done all) q
rows_are (Ok true) cs count ks xs p q h e f m =
    sym (ap (merge_all p) (ap (λ (is : List Kind). structs_in count is xs) e ∙ ap (structs_in count (kinds_of_columns cs)) f ∙ all_are cs 0 count count h)) ∙ m
rows_are (Ok false) cs count ks xs p q h e f m = m
rows_are (Err e) cs count ks xs p q h k f m = m

-- ---- merged row by row they are merged as a list

as_list : (cs : List Numbers) (j n : ℕ) (p : Part) → done_through (struct_done cs) j n (building p) ≡ map_out building (merge_all p (structs_through cs j n))
as_list cs j zero p = refl
as_list cs j (suc n) p = by (λ q. as_list cs (suc j) n q) (merge_part p (struct_at cs j))
  where
    by : ((q : Part) → done_through (struct_done cs) (suc j) n (building q) ≡ map_out building (merge_all q (structs_through cs (suc j) n))) → (o : Outcome Part) → and_then (map_out building o) (λ t. done_through (struct_done cs) (suc j) n t) ≡ map_out building (and_then o (λ q. merge_all q (structs_through cs (suc j) n)))
    by f (done q) = f q
    by f fault = refl
    by f stuck = refl

pub rows_done : {E : Type 0} (r : Result Bool E) (cs ds : List Numbers) (count : ℕ) (s t : Thing) (p q : Part) → ds ≡ cs → s ≡ building p → t ≡ building q → MayAppend r p (λ all. merge_all p (structs_through ds 0 count) ≡ done all) q
    → MayAppend r s (λ all. done_through (struct_done cs) 0 count s ≡ done all) t
rows_done (Ok true) cs ds count s t p q d e f m =
    subst (λ (u : Thing). done_through (struct_done cs) 0 count u ≡ done t) (sym e)
    (subst (λ (u : Thing). done_through (struct_done cs) 0 count (building p) ≡ done u) (sym f) (as_list cs 0 count p ∙ ap (map_out building) (ap (λ (us : List Numbers). merge_all p (structs_through us 0 count)) (sym d) ∙ m)))
rows_done (Ok false) cs ds count s t p q d e f m = f ∙ ap building m ∙ sym e
rows_done (Err x) cs ds count s t p q d e f m = tt

-- ---- the words of a row more

pub row_longer : (cs : List Numbers) (count j : ℕ) → AreReady cs count → j < count → AreLonger cs j
row_longer [] count j h less = tt
row_longer (c ∷ cs) count j h less = (omega (arith, h.1, less), row_longer cs count j h.2 less)

pub words_more : (cs : List Numbers) (count j : ℕ) (out new whole : List ℤ) → j < count → new ≡ out ++ words_at cs j → out ++ words_through cs j (count - j) ≡ whole → new ++ words_through cs (j + 1) (count - (j + 1)) ≡ whole
words_more cs count j out new whole less is so =
    let one : count - j ≡ suc (count - suc j) = omega (arith, less) in
    ap (λ xs. xs ++ words_through cs (j + 1) (count - (j + 1))) is
    ∙ append_assoc out (words_at cs j) (words_through cs (j + 1) (count - (j + 1)))
    ∙ ap (λ (i : ℕ). out ++ (words_at cs j ++ words_through cs i (count - i))) (add-one j)
    ∙ ap (λ (m : ℕ). out ++ words_through cs j m) (sym one)
    ∙ so

pub words_end : (cs : List Numbers) (count j : ℕ) (out whole : List ℤ) → count ≤ j → out ++ words_through cs j (count - j) ≡ whole → out ++ [] ≡ whole
words_end cs count j out whole over so =
    let none : count - j ≡ 0 = omega (arith, over) in
    ap (λ (m : ℕ). out ++ words_through cs j m) (sym none) ∙ so

-- ---- the rows on which a truth value is true

stand_chosen : (c : Numbers) (cs : List Numbers) (j n count : ℕ) → AreReady cs count → AreStructs (count_chosen c j n) (kinds_of_columns cs) (words_chosen c cs j n)
stand_chosen c cs j zero count h = refl
stand_chosen c cs j (suc n) count h = by (stand_chosen c cs (suc j) n count h) (is_chosen c j)
  where
    by : AreStructs (count_chosen c (suc j) n) (kinds_of_columns cs) (words_chosen c cs (suc j) n) → (b : Bool) → AreStructs (if b then suc (count_chosen c (suc j) n) else count_chosen c (suc j) n) (kinds_of_columns cs) ((if b then words_at cs j else []) ++ words_chosen c cs (suc j) n)
    by g true =
        let t = is_row cs j count (words_chosen c cs (suc j) n) h in
        (t.are, subst (AreStructs (count_chosen c (suc j) n) (kinds_of_columns cs)) (sym t.rest) g)
    by g false = g

all_chosen : (c : Numbers) (cs : List Numbers) (j n count : ℕ) → AreReady cs count → structs_in (count_chosen c j n) (kinds_of_columns cs) (words_chosen c cs j n) ≡ structs_chosen c cs j n
all_chosen c cs j zero count h = refl
all_chosen c cs j (suc n) count h = by (all_chosen c cs (suc j) n count h) (is_chosen c j)
  where
    by : structs_in (count_chosen c (suc j) n) (kinds_of_columns cs) (words_chosen c cs (suc j) n) ≡ structs_chosen c cs (suc j) n → (b : Bool) → structs_in (if b then suc (count_chosen c (suc j) n) else count_chosen c (suc j) n) (kinds_of_columns cs) ((if b then words_at cs j else []) ++ words_chosen c cs (suc j) n)
        ≡ (if b then struct_at cs j ∷ structs_chosen c cs (suc j) n else structs_chosen c cs (suc j) n)
    by g true =
        let t = is_row cs j count (words_chosen c cs (suc j) n) h in
        ap (λ (fs : Values). struct fs ∷ structs_in (count_chosen c (suc j) n) (kinds_of_columns cs) (drop (length (kinds_of_columns cs)) (words_at cs j ++ words_chosen c cs (suc j) n))) t.fields
        ∙ ap (λ (xs : List ℤ). struct_at cs j ∷ structs_in (count_chosen c (suc j) n) (kinds_of_columns cs) xs) t.rest
        ∙ ap (λ vs. struct_at cs j ∷ vs) g
    by g false = g

pub chosen_kept : (c : Numbers) (cs : List Numbers) (count rows : ℕ) (ks : List Kind) (xs : List ℤ) → AreReady cs count → (length cs == 0) ≡ false → ks ≡ kinds_of_columns cs → AreChosenRows c cs count xs rows → AreKeptStructs rows ks xs
chosen_kept c cs count rows ks xs h some p q =
    subst (λ (m : ℕ). AreKeptStructs m ks xs) (sym q.many)
    (subst (λ (is : List Kind). AreKeptStructs (count_chosen c 0 count) is xs) (sym p)
    (subst (λ (zs : List ℤ). AreKeptStructs (count_chosen c 0 count) (kinds_of_columns cs) zs) (sym q.all) (record { some = some_columns cs some; structs = stand_chosen c cs 0 count count h })))

pub chosen_are : {E : Type 0} (r : Result Bool E) (c : Numbers) (cs : List Numbers) (count rows : ℕ) (ks : List Kind) (xs : List ℤ) (p q : Part) → AreReady cs count → ks ≡ kinds_of_columns cs → AreChosenRows c cs count xs rows
    → MayAppend r p (λ all. merge_all p (structs_in rows ks xs) ≡ done all) q → MayAppend r p (λ all. merge_all p (structs_chosen c cs 0 count) ≡ done all) q
chosen_are (Ok true) c cs count rows ks xs p q h e f m =
    sym (ap (merge_all p) (ap (λ (n : ℕ). structs_in n ks xs) f.many ∙ ap (λ (is : List Kind). structs_in (count_chosen c 0 count) is xs) e ∙ ap (structs_in (count_chosen c 0 count) (kinds_of_columns cs)) f.all ∙ all_chosen c cs 0 count count h)) ∙ m
chosen_are (Ok false) c cs count rows ks xs p q h e f m = m
chosen_are (Err x) c cs count rows ks xs p q h e f m = m

-- what is done on a row, by its truth value
by_truth : (c : Numbers) (cs : List Numbers) (j : ℕ) (s : Thing) (b : Bool) → StructGuardedFits c cs j s → is_chosen c j ≡ b → struct_guarded c cs j s ≡ (if b then struct_done cs j s else done s)
by_truth c cs j s b h q =
    ap (λ o. and_then o (λ (t : Bool). if t then struct_done cs j s else done s)) (truth_is c.kind (get_or c.items.items j (pos 0)) h.1 ∙ ap done q)

as_chosen : (c : Numbers) (cs : List Numbers) (j n : ℕ) (p : Part) → FitsThrough (struct_guarded c cs) (StructGuardedFits c cs) j n (building p) → done_through (struct_guarded c cs) j n (building p) ≡ map_out building (merge_all p (structs_chosen c cs j n))
as_chosen c cs j zero p h = refl
as_chosen c cs j (suc n) p h = by (λ q f. as_chosen c cs (suc j) n q f) (is_chosen c j) refl
  where
    on : ((q : Part) → FitsThrough (struct_guarded c cs) (StructGuardedFits c cs) (suc j) n (building q) → done_through (struct_guarded c cs) (suc j) n (building q) ≡ map_out building (merge_all q (structs_chosen c cs (suc j) n)))
        → (o : Outcome Part) → struct_guarded c cs j (building p) ≡ map_out building o → and_then (map_out building o) (λ t. done_through (struct_guarded c cs) (suc j) n t) ≡ map_out building (and_then o (λ q. merge_all q (structs_chosen c cs (suc j) n)))
    on f (done q) e = f q (h.1 (building q) e)
    on f fault e = refl
    on f stuck e = refl

    by : ((q : Part) → FitsThrough (struct_guarded c cs) (StructGuardedFits c cs) (suc j) n (building q) → done_through (struct_guarded c cs) (suc j) n (building q) ≡ map_out building (merge_all q (structs_chosen c cs (suc j) n)))
        → (b : Bool) → is_chosen c j ≡ b → and_then (struct_guarded c cs j (building p)) (λ t. done_through (struct_guarded c cs) (suc j) n t)
        ≡ map_out building (merge_all p (if is_chosen c j then struct_at cs j ∷ structs_chosen c cs (suc j) n else structs_chosen c cs (suc j) n))
    by f true q =
        let e = by_truth c cs j (building p) true h.0 q in
        ap (λ o. and_then o (λ t. done_through (struct_guarded c cs) (suc j) n t)) e
        ∙ on f (merge_part p (struct_at cs j)) e
        ∙ sym (ap (λ (b : Bool). map_out building (merge_all p (if b then struct_at cs j ∷ structs_chosen c cs (suc j) n else structs_chosen c cs (suc j) n))) q)
    by f false q =
        let e = by_truth c cs j (building p) false h.0 q in
        ap (λ o. and_then o (λ t. done_through (struct_guarded c cs) (suc j) n t)) e
        ∙ f p (h.1 (building p) e)
        ∙ sym (ap (λ (b : Bool). map_out building (merge_all p (if b then struct_at cs j ∷ structs_chosen c cs (suc j) n else structs_chosen c cs (suc j) n))) q)

pub chosen_done : {E : Type 0} (r : Result Bool E) (c : Numbers) (cs ds : List Numbers) (count : ℕ) (s t : Thing) (p q : Part) → ds ≡ cs → FitsThrough (struct_guarded c cs) (StructGuardedFits c cs) 0 count s → s ≡ building p → t ≡ building q
    → MayAppend r p (λ all. merge_all p (structs_chosen c ds 0 count) ≡ done all) q → MayAppend r s (λ all. done_through (struct_guarded c cs) 0 count s ≡ done all) t
chosen_done (Ok true) c cs ds count s t p q d h e f m =
    let g = subst (FitsThrough (struct_guarded c cs) (StructGuardedFits c cs) 0 count) e h in
    subst (λ (u : Thing). done_through (struct_guarded c cs) 0 count u ≡ done t) (sym e)
    (subst (λ (u : Thing). done_through (struct_guarded c cs) 0 count (building p) ≡ done u) (sym f) (as_chosen c cs 0 count p g ∙ ap (map_out building) (ap (λ (us : List Numbers). merge_all p (structs_chosen c us 0 count)) (sym d) ∙ m)))
chosen_done (Ok false) c cs ds count s t p q d h e f m = f ∙ ap building m ∙ sym e
chosen_done (Err x) c cs ds count s t p q d h e f m = tt

-- a row more is there, with its words or without
pub row_step : (c : Numbers) (cs : List Numbers) (count j : ℕ) (x : ℤ) (out new whole : List ℤ) → j < count → x ≡ get_or c.items.items j (pos 0) → new ≡ out ++ (if int_eq x (pos 1) then words_at cs j else []) → out ++ words_chosen c cs j (count - j) ≡ whole
    → new ++ words_chosen c cs (j + 1) (count - (j + 1)) ≡ whole
row_step c cs count j x out new whole less e is so =
    let one : count - j ≡ suc (count - suc j) = omega (arith, less) in
    ap (λ xs. xs ++ words_chosen c cs (j + 1) (count - (j + 1))) is
    ∙ append_assoc out (if int_eq x (pos 1) then words_at cs j else []) (words_chosen c cs (j + 1) (count - (j + 1)))
    ∙ ap (λ (i : ℕ). out ++ ((if int_eq x (pos 1) then words_at cs j else []) ++ words_chosen c cs i (count - i))) (add-one j)
    ∙ ap (λ (y : ℤ). out ++ ((if int_eq y (pos 1) then words_at cs j else []) ++ words_chosen c cs (suc j) (count - suc j))) e
    ∙ ap (λ (m : ℕ). out ++ words_chosen c cs j m) (sym one)
    ∙ so

pub count_step : (c : Numbers) (count j rows n whole : ℕ) (x : ℤ) → j < count → x ≡ get_or c.items.items j (pos 0) → n ≡ (if int_eq x (pos 1) then 1 else 0) → rows + count_chosen c j (count - j) ≡ whole → rows + n + count_chosen c (j + 1) (count - (j + 1)) ≡ whole
count_step c count j rows n whole x less e is so =
    let one : count - j ≡ suc (count - suc j) = omega (arith, less) in
    let more : n ≡ (if is_chosen c j then 1 else 0) = is ∙ ap (λ (y : ℤ). if int_eq y (pos 1) then 1 else 0) e in
    let step : count_chosen c j (count - j) ≡ (if is_chosen c j then suc (count_chosen c (suc j) (count - suc j)) else count_chosen c (suc j) (count - suc j)) = ap (count_chosen c j) one in
    let next : count_chosen c (j + 1) (count - (j + 1)) ≡ count_chosen c (suc j) (count - suc j) = ap (λ (i : ℕ). count_chosen c i (count - i)) (add-one j) in
    by (is_chosen c j) more step next
  where
    by : (b : Bool) → n ≡ (if b then 1 else 0) → count_chosen c j (count - j) ≡ (if b then suc (count_chosen c (suc j) (count - suc j)) else count_chosen c (suc j) (count - suc j))
        → count_chosen c (j + 1) (count - (j + 1)) ≡ count_chosen c (suc j) (count - suc j) → rows + n + count_chosen c (j + 1) (count - (j + 1)) ≡ whole
    by true p q r = omega (arith, p, q, r, so)
    by false p q r = omega (arith, p, q, r, so)

pub few_step : (n : ℕ) (b : Bool) → n ≡ (if b then 1 else 0) → n ≤ 1
few_step n true e = omega (arith, e)
few_step n false e = omega (arith, e)
