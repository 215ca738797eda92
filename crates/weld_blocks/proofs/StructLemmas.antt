-- Structs of numbers field by field.
use Rattle.std.proofs.Common.{◌≡◌, ℕ, zero, suc, ◌+◌, ◌<◌, ◌++◌, ◌∷◌, [], Bool, true, false, if◌then◌else◌, List, length, map, take, get_or, Option, Some, None, IfSome, Vec, Global, refl, sym, ap, ◌∙◌, subst, arith}
use Rattle.std.proofs.lemmas.List.{take_more, take_all, map-append}
use Rattle.weld_data.specs.Value.{Value, struct, and_value, values}
use Rattle.weld_tree.specs.ExprTree.{ExprTree, At, Three, three}
use Rattle.weld_builders.specs.Outcome.{Outcome, done, fault, stuck}
use Rattle.weld_meaning.specs.Thing.{plain}
use Rattle.weld_meaning.specs.Evaluation.{Env, eval, truth_of}
use Rattle.weld_blocks.specs.Numbers.{count_of, number_at, AreGiven, AreNumbersOf, IsChosen, Chooses}
use Rattle.weld_blocks.specs.Scope.{struct_at}
use Rattle.weld_blocks.specs.Structs.{AreLonger, AreCounted, AreStructs, AreChosenFields}
use Rattle.weld_blocks.specs.declared.numbers.Numbers.{Numbers}
use Rattle.weld_blocks.proofs.ColumnLemmas.{chosen_of}

-- ---- the struct of a row

pub longer : (cs : List Numbers) (count j : ℕ) → AreCounted cs count → j < count → AreLonger cs j
longer [] count j h less = tt
longer (c ∷ cs) count j h less = (subst (λ m. j < m) (sym h.0) less, longer cs count j h.1 less)

pub longer_at : (cs : List Numbers) (i j : ℕ) (d : Numbers) → AreLonger cs j → i < length cs → d ≡ get_or cs i d → j < count_of d
longer_at [] i j d h less e = absurd (omega (arith, less))
longer_at (c ∷ cs) zero j d h less e = subst (λ (x : Numbers). j < count_of x) (sym e) h.0
longer_at (c ∷ cs) (suc i) j d h less e = longer_at cs i j d h.1 (omega (arith, less)) e

pub next_value : (cs : List Numbers) (i j : ℕ) (d : Numbers) (v : Value) (vs more : List Value) → i < length cs → d ≡ get_or cs i d → v ≡ number_at d j → vs ≡ map (λ c. number_at c j) (take i cs) → more ≡ vs ++ v ∷ []
    → more ≡ map (λ c. number_at c j) (take (i + 1) cs)
next_value cs i j d v vs more less e is so_far g =
    let taken : take (i + 1) cs ≡ take i cs ++ d ∷ [] = take_more cs i d less ∙ ap (λ c. take i cs ++ c ∷ []) (sym e) in
    g ∙ ap (λ us. us ++ v ∷ []) so_far ∙ ap (λ u. map (λ c. number_at c j) (take i cs) ++ u ∷ []) is
    ∙ sym (map-append (λ c. number_at c j) (take i cs) (d ∷ [])) ∙ sym (ap (map (λ c. number_at c j)) taken)

pub all_values : (cs : List Numbers) (i j : ℕ) (vs : List Value) → length cs ≡ i → vs ≡ map (λ c. number_at c j) (take i cs) → struct_at cs j ≡ struct (values vs)
all_values cs i j vs long h = sym (ap (λ us. struct (values us)) (h ∙ ap (map (λ c. number_at c j)) (take_all i cs (omega (arith, long)))))

-- ---- one of two, field by field

abbrev done_truth : Outcome Bool → Bool
done_truth (done b) = b
done_truth fault = false
done_truth stuck = false

field_then : (t v w x : Value) → truth_of t ≡ done true → IsChosen t v w x → x ≡ v
field_then t v w x e h = by h.0 (ap done_truth (sym e ∙ h.1)) h.2
  where
    by : (b : Bool) → true ≡ b → x ≡ (if b then v else w) → x ≡ v
    by true p q = q
    by false p q = absurd (let bad : true ≡ false = p in cc)

field_otherwise : (t v w x : Value) → truth_of t ≡ done false → IsChosen t v w x → x ≡ w
field_otherwise t v w x e h = by h.0 (ap done_truth (sym e ∙ h.1)) h.2
  where
    by : (b : Bool) → false ≡ b → x ≡ (if b then v else w) → x ≡ w
    by false p q = q
    by true p q = absurd (let bad : false ≡ true = p in cc)

all_then : (t : Numbers) (count j : ℕ) (xs ys cs : List Numbers) → truth_of (number_at t j) ≡ done true → j < count → AreChosenFields t xs ys cs count → values (map (λ c. number_at c j) cs) ≡ values (map (λ c. number_at c j) xs)
all_then t count j [] [] [] e less h = refl
all_then t count j [] [] (c ∷ cs) e less h = absurd h
all_then t count j [] (y ∷ ys) [] e less h = absurd h
all_then t count j [] (y ∷ ys) (c ∷ cs) e less h = absurd h
all_then t count j (x ∷ xs) [] [] e less h = absurd h
all_then t count j (x ∷ xs) [] (c ∷ cs) e less h = absurd h
all_then t count j (x ∷ xs) (y ∷ ys) [] e less h = absurd h
all_then t count j (x ∷ xs) (y ∷ ys) (c ∷ cs) e less h =
    ap (λ v. and_value v (values (map (λ d. number_at d j) cs))) (field_then (number_at t j) (number_at x j) (number_at y j) (number_at c j) e (h.0.each j less))
    ∙ ap (and_value (number_at x j)) (all_then t count j xs ys cs e less h.1)

all_otherwise : (t : Numbers) (count j : ℕ) (xs ys cs : List Numbers) → truth_of (number_at t j) ≡ done false → j < count → AreChosenFields t xs ys cs count → values (map (λ c. number_at c j) cs) ≡ values (map (λ c. number_at c j) ys)
all_otherwise t count j [] [] [] e less h = refl
all_otherwise t count j [] [] (c ∷ cs) e less h = absurd h
all_otherwise t count j [] (y ∷ ys) [] e less h = absurd h
all_otherwise t count j [] (y ∷ ys) (c ∷ cs) e less h = absurd h
all_otherwise t count j (x ∷ xs) [] [] e less h = absurd h
all_otherwise t count j (x ∷ xs) [] (c ∷ cs) e less h = absurd h
all_otherwise t count j (x ∷ xs) (y ∷ ys) [] e less h = absurd h
all_otherwise t count j (x ∷ xs) (y ∷ ys) (c ∷ cs) e less h =
    ap (λ v. and_value v (values (map (λ d. number_at d j) cs))) (field_otherwise (number_at t j) (number_at x j) (number_at y j) (number_at c j) e (h.0.each j less))
    ∙ ap (and_value (number_at y j)) (all_otherwise t count j xs ys cs e less h.1)

fields_long : (t : Numbers) (count : ℕ) (xs ys cs : List Numbers) → AreChosenFields t xs ys cs count → AreCounted cs count
fields_long t count [] [] [] h = tt
fields_long t count [] [] (c ∷ cs) h = absurd h
fields_long t count [] (y ∷ ys) [] h = absurd h
fields_long t count [] (y ∷ ys) (c ∷ cs) h = absurd h
fields_long t count (x ∷ xs) [] [] h = absurd h
fields_long t count (x ∷ xs) [] (c ∷ cs) h = absurd h
fields_long t count (x ∷ xs) (y ∷ ys) [] h = absurd h
fields_long t count (x ∷ xs) (y ∷ ys) (c ∷ cs) h = (h.0.long, fields_long t count xs ys cs h.1)

-- by the truth value at the place
struct_chosen : (t : Numbers) (count j : ℕ) (xs ys cs : List Numbers) (b : Bool) → truth_of (number_at t j) ≡ done b → j < count → AreChosenFields t xs ys cs count → IsChosen (number_at t j) (struct_at xs j) (struct_at ys j) (struct_at cs j)
struct_chosen t count j xs ys cs true e less h = (true, e, ap struct (all_then t count j xs ys cs e less h))
struct_chosen t count j xs ys cs false e less h = (false, e, ap struct (all_otherwise t count j xs ys cs e less h))

some_chosen : (t : Numbers) (count : ℕ) (xs ys cs : List Numbers) → 0 < length xs → AreChosenFields t xs ys cs count → AreStructs (λ j v. IsChosen (number_at t j) (struct_at xs j) (struct_at ys j) v) cs count
some_chosen t count [] ys cs some h = absurd (omega (arith, some))
some_chosen t count (x ∷ xs) [] [] some h = absurd h
some_chosen t count (x ∷ xs) [] (c ∷ cs) some h = absurd h
some_chosen t count (x ∷ xs) (y ∷ ys) [] some h = absurd h
some_chosen t count (x ∷ xs) (y ∷ ys) (c ∷ cs) some h = record {
  long = fields_long t count (x ∷ xs) (y ∷ ys) (c ∷ cs) h;
  each = λ j less. let first = h.0.each j less in struct_chosen t count j (x ∷ xs) (y ∷ ys) (c ∷ cs) first.0 first.1 less h;
}

pub all_chosen : (t : Numbers) (count i : ℕ) (xs ys cs : List Numbers) → length xs ≡ i → length ys ≡ i → 0 < length xs → AreChosenFields t (take i xs) (take i ys) cs count
    → AreStructs (λ j v. IsChosen (number_at t j) (struct_at xs j) (struct_at ys j) v) cs count
all_chosen t count i xs ys cs p q some h =
    some_chosen t count xs ys cs some
    (subst (λ l. AreChosenFields t l ys cs count) (take_all i xs (omega (arith, p))) (subst (λ l. AreChosenFields t (take i xs) l cs count) (take_all i ys (omega (arith, q))) h))

chosen_more : (t : Numbers) (count : ℕ) (a b d : Numbers) (xs ys cs : List Numbers) → AreGiven (λ j v. IsChosen (number_at t j) (number_at a j) (number_at b j) v) d count → AreChosenFields t xs ys cs count
    → AreChosenFields t (xs ++ a ∷ []) (ys ++ b ∷ []) (cs ++ d ∷ []) count
chosen_more t count a b d [] [] [] k h = (k, tt)
chosen_more t count a b d [] [] (c ∷ cs) k h = absurd h
chosen_more t count a b d [] (y ∷ ys) [] k h = absurd h
chosen_more t count a b d [] (y ∷ ys) (c ∷ cs) k h = absurd h
chosen_more t count a b d (x ∷ xs) [] [] k h = absurd h
chosen_more t count a b d (x ∷ xs) [] (c ∷ cs) k h = absurd h
chosen_more t count a b d (x ∷ xs) (y ∷ ys) [] k h = absurd h
chosen_more t count a b d (x ∷ xs) (y ∷ ys) (c ∷ cs) k h = (h.0, chosen_more t count a b d xs ys cs k h.1)

pub next_chosen : (t : Numbers) (count i : ℕ) (a b d : Numbers) (xs ys cs more : List Numbers) → i < length xs → i < length ys → a ≡ get_or xs i a → b ≡ get_or ys i b → more ≡ cs ++ d ∷ []
    → AreGiven (λ j v. IsChosen (number_at t j) (number_at a j) (number_at b j) v) d count → AreChosenFields t (take i xs) (take i ys) cs count → AreChosenFields t (take (i + 1) xs) (take (i + 1) ys) more count
next_chosen t count i a b d xs ys cs more p q e f is k h =
    let first : take (i + 1) xs ≡ take i xs ++ a ∷ [] = take_more xs i a p ∙ ap (λ c. take i xs ++ c ∷ []) (sym e) in
    let second : take (i + 1) ys ≡ take i ys ++ b ∷ [] = take_more ys i b q ∙ ap (λ c. take i ys ++ c ∷ []) (sym f) in
    subst (λ l. AreChosenFields t l (take (i + 1) ys) more count) (sym first)
    (subst (λ l. AreChosenFields t (take i xs ++ a ∷ []) l more count) (sym second)
    (subst (λ (l : List Numbers). AreChosenFields t (take i xs ++ a ∷ []) (take i ys ++ b ∷ []) l count) (sym is) (chosen_more t count a b d (take i xs) (take i ys) cs k h)))

pub chosen_structs : (r : Option (Vec Numbers Global)) (a : At) (k : Three) (c e f : ExprTree) (envs : ℕ → Env) (n : ExprTree) (t : Numbers) (xs ys : List Numbers) (count : ℕ) → n ≡ three a k c e f → Chooses n → AreNumbersOf c envs t count
    → AreStructs (λ j v. eval e (envs j) ≡ done (plain v)) xs count → AreStructs (λ j v. eval f (envs j) ≡ done (plain v)) ys count
    → IfSome r (λ cs. AreStructs (λ j v. IsChosen (number_at t j) (struct_at xs j) (struct_at ys j) v) cs.items count) → IfSome r (λ cs. AreStructs (λ j v. eval n (envs j) ≡ done (plain v)) cs.items count)
chosen_structs None a k c e f envs n t xs ys count is form o p q h = tt
chosen_structs (Some d) a k c e f envs n t xs ys count is form o p q h = record {
  long = h.long;
  each = λ j less.
      ap (λ m. eval m (envs j)) is
      ∙ chosen_of a k c e f (envs j) (number_at t j) (struct_at xs j) (struct_at ys j) (struct_at d.items j) (subst (λ m. Chooses m) is form) (o.each j less) (p.each j less) (q.each j less) (h.each j less);
}
