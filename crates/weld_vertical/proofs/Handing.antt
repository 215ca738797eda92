-- What a producer makes, handed to a consumer after all rows or row by row, comes to one answer.
use Rattle.std.proofs.Common.{◌≡◌, ℕ, suc, List, [], ◌∷◌, ◌++◌, refl, ap, sym, ◌∙◌}
use Rattle.std.proofs.lemmas.List.{append_assoc}
use Rattle.weld_data.specs.Value.{Value, list_of_values-values}
use Rattle.weld_tree.specs.TypeTree.{TypeTree}
use Rattle.weld_tree.specs.HasValue.{HasValue}
use Rattle.weld_builders.specs.Outcome.{Outcome, done, fault, stuck, and_then, map_out}
use Rattle.weld_builders.specs.Part.{list_part}
use Rattle.weld_meaning.specs.Thing.{Thing, building}
use Rattle.weld_meaning.specs.Evaluation.{Row, value_out, elements_of, finished, number_from, run}
use Rattle.weld_meaning.specs.Meaning.{GivesOrFaults}
use Rattle.weld_meaning.specs.Loops.{RowsHave}
use Rattle.weld_meaning.specs.Names.{answer_of}
use Rattle.weld_meaning.proofs.Outcomes.{and_then-map_out}

-- ---- outcomes and answers

pub then_then : {A B C : Type 0} (o : Outcome A) (f : A → Outcome B) (g : B → Outcome C) → and_then (and_then o f) g ≡ and_then o (λ x. and_then (f x) g)
then_then (done x) f g = refl
then_then fault f g = refl
then_then stuck f g = refl

pub then_done : {A B : Type 0} (o : Outcome A) (f : A → B) → and_then o (λ x. done (f x)) ≡ map_out f o
then_done (done x) f = refl
then_done fault f = refl
then_done stuck f = refl

pub map_twice : {A B C : Type 0} (o : Outcome A) (f : A → B) (g : B → C) (h : A → C) → ((x : A) → h x ≡ g (f x)) → map_out h o ≡ map_out g (map_out f o)
map_twice (done x) f g h e = ap done (e x)
map_twice fault f g h e = refl
map_twice stuck f g h e = refl

pub then_map : {A B C : Type 0} (o : Outcome A) (g : A → B) (f : B → Outcome C) → and_then (map_out g o) f ≡ and_then o (λ x. f (g x))
then_map (done x) g f = refl
then_map fault g f = refl
then_map stuck g f = refl

pub then_itself : {A : Type 0} (o : Outcome A) → and_then o (λ x. done x) ≡ o
then_itself (done x) = refl
then_itself fault = refl
then_itself stuck = refl

-- what goes on to one answer on each result that there may be
pub answers_at : {A B : Type 0} (P : A → Type 0) (o : Outcome A) (f k : A → Outcome B) → GivesOrFaults P o → ((x : A) → P x → answer_of (f x) ≡ answer_of (k x)) → answer_of (and_then o f) ≡ answer_of (and_then o k)
answers_at P (done x) f k h e = e x h
answers_at P fault f k h e = refl
answers_at P stuck f k h e = refl

pub answers : {A B : Type 0} (o : Outcome A) (f k : A → Outcome B) → ((x : A) → answer_of (f x) ≡ answer_of (k x)) → answer_of (and_then o f) ≡ answer_of (and_then o k)
answers (done x) f k e = e x
answers fault f k e = refl
answers stuck f k e = refl

-- two that don't go by each other may be exchanged
pub answers_swap : {A B C : Type 0} (o : Outcome A) (p : Outcome B) (f : A → B → Outcome C) → answer_of (and_then o (λ x. and_then p (f x))) ≡ answer_of (and_then p (λ y. and_then o (λ x. f x y)))
answers_swap (done x) (done y) f = refl
answers_swap (done x) fault f = refl
answers_swap (done x) stuck f = refl
answers_swap fault (done y) f = refl
answers_swap fault fault f = refl
answers_swap fault stuck f = refl
answers_swap stuck (done y) f = refl
answers_swap stuck fault f = refl
answers_swap stuck stuck f = refl

-- ---- rows

-- the values that each row gives, in order
abbrev pub collect : (Row → Outcome (List Value)) → List Row → Outcome (List Value)
collect w [] = done []
collect w (r ∷ rs) = and_then (w r) (λ vs. map_out (λ ws. vs ++ ws) (collect w rs))

abbrev pub list_of : List Value → Thing
list_of vs = building (list_part vs)

pub nothing_behind : (vs : List Value) → vs ≡ vs ++ []
nothing_behind [] = refl
nothing_behind (v ∷ vs) = ap (λ ws. v ∷ ws) (nothing_behind vs)

-- a body that appends what its row gives
pub run_collects : (w : Row → Outcome (List Value)) (body : Row → Thing → Outcome Thing) → ((r : Row) (vs : List Value) → body r (list_of vs) ≡ map_out (λ us. list_of (vs ++ us)) (w r)) → (rows : List Row) (vs : List Value) → run rows (list_of vs) body ≡ map_out (λ ws. list_of (vs ++ ws)) (collect w rows)
run_collects w body e [] vs = ap (λ ws. done (list_of ws)) (nothing_behind vs)
run_collects w body e (r ∷ rows) vs =
    ap (λ o. and_then o (λ t. run rows t body)) (e r vs)
    ∙ and_then-map_out (λ us. list_of (vs ++ us)) (λ ws. list_of (vs ++ ws)) (w r) (λ t. run rows t body) (λ us. map_out (λ ws. us ++ ws) (collect w rows))
    (λ us. run_collects w body e rows (vs ++ us)
    ∙ map_twice (collect w rows) (λ ws. us ++ ws) (λ ws. list_of (vs ++ ws)) (λ ws. list_of ((vs ++ us) ++ ws)) (λ ws. ap list_of (append_assoc vs us ws)))

-- the consumer goes on from the values of a row to those of the next as from its own row to the next
abbrev pub Steps : (Row → Outcome (List Value)) → (Row → Thing → Outcome Thing) → Type 0
Steps w f =
    (n : ℕ) (x : Value) (vs us : List Value) (s : Thing) → w (n, x) ≡ done vs
    → run (number_from n (vs ++ us)) s f ≡ and_then (run (number_from n vs) s f) (λ t. run (number_from (suc n) us) t f)

-- where each row gives one value
pub steps_of_one : (w : Row → Outcome (List Value)) (f : Row → Thing → Outcome Thing) → ((r : Row) (vs : List Value) → w r ≡ done vs → (v : Value) × (vs ≡ v ∷ [])) → Steps w f
steps_of_one w f single n x vs us s e = let one = single (n, x) vs e in ap (λ ws. run (number_from n (ws ++ us)) s f) one.1 ∙ sym (then_then (f (n, one.0) s) (λ t. done t) (λ t. run (number_from (suc n) us) t f)) ∙ sym (ap (λ ws. and_then (run (number_from n ws) s f) (λ t. run (number_from (suc n) us) t f)) one.1)

-- where the row's number doesn't count
pub steps_of_any : (w : Row → Outcome (List Value)) (f : Row → Thing → Outcome Thing) → ((m n : ℕ) (v : Value) (s : Thing) → f (m, v) s ≡ f (n, v) s) → Steps w f
steps_of_any w f any n x vs us s e = by n (suc n) vs s
  where
    renumbered : (m k : ℕ) (us : List Value) (t : Thing) → run (number_from m us) t f ≡ run (number_from k us) t f
    renumbered m k [] t = refl
    renumbered m k (u ∷ us) t = λ i. and_then (any m k u t i) (λ y. renumbered (suc m) (suc k) us y i)

    by : (m k : ℕ) (vs : List Value) (s : Thing) → run (number_from m (vs ++ us)) s f ≡ and_then (run (number_from m vs) s f) (λ t. run (number_from k us) t f)
    by m k [] s = renumbered m k us s
    by m k (v ∷ vs) s =
        (λ i. and_then (f (m, v) s) (λ t. by (suc m) k vs t i))
        ∙ sym (then_then (f (m, v) s) (λ t. run (number_from (suc m) vs) t f) (λ t. run (number_from k us) t f))

-- the consumer over all that was collected, or on the values of each row as they come
pub handed : (w : Row → Outcome (List Value)) (f : Row → Thing → Outcome Thing) → Steps w f → (n : ℕ) (rows : List Value) (s : Thing) → answer_of (and_then (collect w (number_from n rows)) (λ vs. run (number_from n vs) s f)) ≡ answer_of (run (number_from n rows) s (λ r t. and_then (w r) (λ vs. run (number_from r.0 vs) t f)))
handed w f steps n [] s = refl
handed w f steps n (x ∷ rows) s = by (w (n, x)) refl (λ t. handed w f steps (suc n) rows t)
  where
    rest : Outcome (List Value)
    rest = collect w (number_from (suc n) rows)

    now : Row → Thing → Outcome Thing
    now r t = and_then (w r) (λ vs. run (number_from r.0 vs) t f)

    by : (o : Outcome (List Value)) → w (n, x) ≡ o → ((t : Thing) → answer_of (and_then rest (λ us. run (number_from (suc n) us) t f)) ≡ answer_of (run (number_from (suc n) rows) t now)) → answer_of (and_then (and_then o (λ vs. map_out (λ ws. vs ++ ws) rest)) (λ us. run (number_from n us) s f)) ≡ answer_of (and_then (and_then o (λ vs. run (number_from n vs) s f)) (λ t. run (number_from (suc n) rows) t now))
    by (done vs) e h =
        ap answer_of (then_map rest (λ us. vs ++ us) (λ us. run (number_from n us) s f))
        ∙ (λ i. answer_of (and_then rest (λ us. steps n x vs us s e i)))
        ∙ answers_swap rest (run (number_from n vs) s f) (λ us t. run (number_from (suc n) us) t f)
        ∙ answers (run (number_from n vs) s f) (λ t. and_then rest (λ us. run (number_from (suc n) us) t f)) (λ t. run (number_from (suc n) rows) t now) h
    by fault e h = refl
    by stuck e h = refl

-- bodies that are the same on rows of the type
pub run_rows : (r : TypeTree) (f k : Row → Thing → Outcome Thing) → ((row : Row) (s : Thing) → HasValue r row.1 → f row s ≡ k row s) → (rows : List Row) (s : Thing) → RowsHave r rows → run rows s f ≡ run rows s k
run_rows r f k e [] s h = refl
run_rows r f k e (row ∷ rows) s h = let x = e row s h.0 in let y : (t : Thing) → run rows t f ≡ run rows t k = λ t. run_rows r f k e rows t h.1 in λ i. and_then (x i) (λ t. y t i)

-- ---- the list that was made, as a leg

-- the elements of a builder's result
abbrev pub elements_made : Outcome Thing → Outcome (List Value)
elements_made o = and_then (value_out (and_then o finished)) elements_of

through : {A : Type 0} (o : Outcome A) (k : A → Outcome Thing) (m : A → Outcome (List Value)) → ((x : A) → elements_made (k x) ≡ m x) → elements_made (and_then o k) ≡ and_then o m
through (done x) k m e = e x
through fault k m e = refl
through stuck k m e = refl

made : (o : Outcome (List Value)) → elements_made (map_out (λ ws. list_of ws) o) ≡ o
made (done ws) = ap done (list_of_values-values ws)
made fault = refl
made stuck = refl

-- of a loop that collects
pub elements_collected : {A : Type 0} (legs : Outcome A) (rows : A → Outcome (List Value)) (all : List Value → Outcome Thing) (w : Row → Outcome (List Value)) → ((vs : List Value) → all vs ≡ map_out (λ ws. list_of ws) (collect w (number_from 0 vs))) → elements_made (and_then legs (λ l. and_then (rows l) all)) ≡ and_then legs (λ l. and_then (rows l) (λ vs. collect w (number_from 0 vs)))
elements_collected legs rows all w e =
    through legs (λ l. and_then (rows l) all) (λ l. and_then (rows l) (λ vs. collect w (number_from 0 vs)))
    (λ l. through (rows l) all (λ vs. collect w (number_from 0 vs)) (λ vs. ap elements_made (e vs) ∙ made (collect w (number_from 0 vs))))

-- a loop over one leg runs over its elements
pub one_leg : {B : Type 0} (o : Outcome (List Value)) (k : List (List Value) → Outcome B) → and_then (and_then o (λ vs. done (vs ∷ []))) k ≡ and_then o (λ vs. k (vs ∷ []))
one_leg o k = then_then o (λ vs. done (vs ∷ [])) k
