-- Rows over lists of which one is made row by row from others: joined and then made, or made and then joined, they come to one answer.
use Rattle.std.proofs.Common.{◌≡◌, ℕ, zero, suc, ◌+◌, ◌≤◌, List, [], ◌∷◌, ◌++◌, map, length, Some, None, refl, ap, sym, subst, ◌∙◌, arith, length-append}
use Rattle.std.proofs.lemmas.List.{append-nil}
use Rattle.weld_data.specs.Value.{Value, struct, Values, no_values, and_value, values}
use Rattle.weld_tree.specs.TypeTree.{TypeTrees, struct as tuple, no_types, more_types}
use Rattle.weld_tree.specs.HasValue.{HasValue, HaveValues, AllAre}
use Rattle.weld_builders.specs.Outcome.{Outcome, done, fault, stuck, and_then, map_out}
use Rattle.weld_meaning.specs.Evaluation.{Row, join_rows, zipped, rows_of, number_from}
use Rattle.weld_meaning.specs.Names.{answer_of}
use Rattle.weld_meaning.proofs.Good.{Good}
use Rattle.weld_vertical.proofs.Handing.{then_then, then_done, answers, answers_swap}
use Rattle.weld_horizontal.specs.Twice.{count}
use Rattle.weld_vertical_zip.proofs.Merging.{collect}

-- ---- outcomes and answers

pub then_map : {A B C : Type 0} (o : Outcome A) (g : A → B) (f : B → Outcome C) → and_then (map_out g o) f ≡ and_then o (λ x. f (g x))
then_map (done x) g f = refl
then_map fault g f = refl
then_map stuck g f = refl

pub map_then : {A B C : Type 0} (g : B → C) (o : Outcome A) (f : A → Outcome B) → map_out g (and_then o f) ≡ and_then o (λ x. map_out g (f x))
map_then g (done x) f = refl
map_then g fault f = refl
map_then g stuck f = refl

pub map_map : {A B C : Type 0} (f : B → C) (g : A → B) (o : Outcome A) → map_out f (map_out g o) ≡ map_out (λ x. f (g x)) o
map_map f g (done x) = refl
map_map f g fault = refl
map_map f g stuck = refl

pub same_then : {A B : Type 0} (o p : Outcome A) (k : A → Outcome B) → answer_of o ≡ answer_of p → answer_of (and_then o k) ≡ answer_of (and_then p k)
same_then (done x) (done y) k e = let same : x ≡ y = cc in ap (λ z. answer_of (k z)) same
same_then (done x) fault k e = let nothing : ⊥ = cc in absurd nothing
same_then (done x) stuck k e = let nothing : ⊥ = cc in absurd nothing
same_then fault (done y) k e = let nothing : ⊥ = cc in absurd nothing
same_then fault fault k e = refl
same_then fault stuck k e = refl
same_then stuck (done y) k e = let nothing : ⊥ = cc in absurd nothing
same_then stuck fault k e = refl
same_then stuck stuck k e = refl

pub same_map : {A B : Type 0} (g : A → B) (o p : Outcome A) → answer_of o ≡ answer_of p → answer_of (map_out g o) ≡ answer_of (map_out g p)
same_map g (done x) (done y) e = let same : x ≡ y = cc in ap (λ z. Some (g z)) same
same_map g (done x) fault e = let nothing : ⊥ = cc in absurd nothing
same_map g (done x) stuck e = let nothing : ⊥ = cc in absurd nothing
same_map g fault (done y) e = let nothing : ⊥ = cc in absurd nothing
same_map g fault fault e = refl
same_map g fault stuck e = refl
same_map g stuck (done y) e = let nothing : ⊥ = cc in absurd nothing
same_map g stuck fault e = refl
same_map g stuck stuck e = refl

no_answer : {A B : Type 0} (o : Outcome A) (k : A → Outcome B) → ((x : A) → answer_of (k x) ≡ None) → answer_of (and_then o k) ≡ None
no_answer (done x) k e = e x
no_answer fault k e = refl
no_answer stuck k e = refl

-- ---- what each row gives, in order

abbrev pub gather : {A B : Type 0} → (ℕ → A → Outcome B) → ℕ → List A → Outcome (List B)
gather w n [] = done []
gather w n (x ∷ xs) = and_then (w n x) (λ y. map_out (λ ys. y ∷ ys) (gather w (suc n) xs))

pub collect_gathers : (w : Row → Outcome Value) (n : ℕ) (vs : List Value) → collect w (number_from n vs) ≡ gather (λ k v. w (k, v)) n vs
collect_gathers w n [] = refl
collect_gathers w n (v ∷ vs) = let k = collect_gathers w (suc n) vs in λ i. and_then (w (n, v)) (λ y. map_out (λ ys. y ∷ ys) (k i))

gather_map : {A B C : Type 0} (w : ℕ → B → Outcome C) (f : A → B) (n : ℕ) (xs : List A) → gather w n (map f xs) ≡ gather (λ k x. w k (f x)) n xs
gather_map w f n [] = refl
gather_map w f n (x ∷ xs) = let k = gather_map w f (suc n) xs in λ i. and_then (w n (f x)) (λ y. map_out (λ ys. y ∷ ys) (k i))

-- where what comes of one row and what comes of the others are had in either order
step : {X A B C : Type 0} (o : Outcome X) (p : Outcome (List A)) (q : Outcome (List B)) (f : List A → Outcome (List C)) (g : List B → Outcome (List C)) (h : X → C) → answer_of (and_then p f) ≡ answer_of (and_then q g) → answer_of (and_then p (λ u. and_then (map_out h o) (λ y. map_out (λ ys. y ∷ ys) (f u)))) ≡ answer_of (and_then o (λ v. and_then q (λ c. map_out (λ ys. h v ∷ ys) (g c))))
step (done v) p q f g h e =
    ap answer_of (sym (map_then (λ ys. h v ∷ ys) p f)) ∙ same_map (λ ys. h v ∷ ys) (and_then p f) (and_then q g) e ∙ ap answer_of (map_then (λ ys. h v ∷ ys) q g)
step fault p q f g h e = no_answer p _ (λ u. refl)
step stuck p q f g h e = no_answer p _ (λ u. refl)

-- ---- behind a column

abbrev lifted : (ℕ → Values → Outcome Values) → ℕ → Values → Outcome Values
lifted w n no_values = fault
lifted w n (and_value v r) = map_out (and_value v) (w n r)

join_gather : (w : ℕ → Values → Outcome Values) (n : ℕ) (l : List Value) (rs : List Values) → answer_of (and_then (join_rows l rs) (gather (lifted w) n)) ≡ answer_of (and_then (gather w n rs) (join_rows l))
join_gather w n [] [] = refl
join_gather w n [] (r ∷ rs) =
    sym (ap answer_of (then_then (w n r) (λ y. map_out (λ ys. y ∷ ys) (gather w (suc n) rs)) (join_rows []))
    ∙ no_answer (w n r) _ (λ y. ap answer_of (then_map (gather w (suc n) rs) (λ ys. y ∷ ys) (join_rows [])) ∙ no_answer (gather w (suc n) rs) _ (λ ys. refl)))
join_gather w n (v ∷ l) [] = refl
join_gather w n (v ∷ l) (r ∷ rs) =
    ap answer_of (then_map (join_rows l rs) (λ t. and_value v r ∷ t) (gather (lifted w) n))
    ∙ step (w n r) (join_rows l rs) (gather w (suc n) rs) (gather (lifted w) (suc n)) (join_rows l) (and_value v) (join_gather w (suc n) l rs)
    ∙ sym (ap answer_of (then_then (w n r) (λ y. map_out (λ ys. y ∷ ys) (gather w (suc n) rs)) (join_rows (v ∷ l))
    ∙ (λ i. and_then (w n r) (λ y. then_map (gather w (suc n) rs) (λ ys. y ∷ ys) (join_rows (v ∷ l)) i))))

-- ---- rows beside rows

abbrev pub values_behind : Values → Values → Values
values_behind no_values ws = ws
values_behind (and_value v vs) ws = and_value v (values_behind vs ws)

abbrev rows_beside : List Values → List Values → Outcome (List Values)
rows_beside [] [] = done []
rows_beside [] (t ∷ ts) = fault
rows_beside (q ∷ qs) [] = fault
rows_beside (q ∷ qs) (t ∷ ts) = map_out (λ u. values_behind q t ∷ u) (rows_beside qs ts)

single_beside : (l : List Value) (ts : List Values) → join_rows l ts ≡ rows_beside (map (λ v. and_value v no_values) l) ts
single_beside [] [] = refl
single_beside [] (t ∷ ts) = refl
single_beside (v ∷ l) [] = refl
single_beside (v ∷ l) (t ∷ ts) = ap (map_out (λ u. and_value v t ∷ u)) (single_beside l ts)

beside_join : (l : List Value) (qs ts : List Values) → answer_of (and_then (rows_beside qs ts) (join_rows l)) ≡ answer_of (and_then (join_rows l qs) (λ us. rows_beside us ts))
beside_join [] [] [] = refl
beside_join [] [] (t ∷ ts) = refl
beside_join [] (q ∷ qs) [] = refl
beside_join [] (q ∷ qs) (t ∷ ts) = ap answer_of (then_map (rows_beside qs ts) (λ u. values_behind q t ∷ u) (join_rows [])) ∙ no_answer (rows_beside qs ts) _ (λ u. refl)
beside_join (v ∷ l) [] [] = refl
beside_join (v ∷ l) [] (t ∷ ts) = refl
beside_join (v ∷ l) (q ∷ qs) [] = sym (ap answer_of (then_map (join_rows l qs) (λ u. and_value v q ∷ u) (λ us. rows_beside us [])) ∙ no_answer (join_rows l qs) _ (λ u. refl))
beside_join (v ∷ l) (q ∷ qs) (t ∷ ts) =
    let row = and_value v (values_behind q t) in
    ap answer_of (then_map (rows_beside qs ts) (λ u. values_behind q t ∷ u) (join_rows (v ∷ l)) ∙ sym (map_then (λ u. row ∷ u) (rows_beside qs ts) (join_rows l)))
    ∙ same_map (λ u. row ∷ u) _ _ (beside_join l qs ts)
    ∙ ap answer_of (map_then (λ u. row ∷ u) (join_rows l qs) (λ us. rows_beside us ts) ∙ sym (then_map (join_rows l qs) (λ u. and_value v q ∷ u) (λ us. rows_beside us (t ∷ ts))))

zip_beside : (y : List Value) (ys : List (List Value)) (z : List Value) (zs : List (List Value)) → answer_of (zipped (y ∷ (ys ++ z ∷ zs))) ≡ answer_of (and_then (zipped (z ∷ zs)) (λ ts. and_then (zipped (y ∷ ys)) (λ qs. rows_beside qs ts)))
zip_beside y [] z zs = λ i. answer_of (and_then (zipped (z ∷ zs)) (λ ts. single_beside y ts i))
zip_beside y (x ∷ ys) z zs =
    let later = zipped (z ∷ zs) in
    let own = zipped (x ∷ ys) in
    same_then (zipped (x ∷ (ys ++ z ∷ zs))) (and_then later (λ ts. and_then own (λ qs. rows_beside qs ts))) (join_rows y) (zip_beside x ys z zs)
    ∙ ap answer_of (then_then later (λ ts. and_then own (λ qs. rows_beside qs ts)) (join_rows y))
    ∙ answers later _ _ (λ ts.
    ap answer_of (then_then own (λ qs. rows_beside qs ts) (join_rows y))
    ∙ answers own _ _ (λ qs. beside_join y qs ts)
    ∙ ap answer_of (sym (then_then own (join_rows y) (λ us. rows_beside us ts))))

-- ---- how many fields rows have

abbrev width : Values → ℕ
width no_values = 0
width (and_value v vs) = suc (width vs)

abbrev AllWide : ℕ → List Values → Type 0
AllWide n [] = Unit {0}
AllWide n (r ∷ rs) = (width r ≡ n) × AllWide n rs

abbrev Wide : ℕ → Outcome (List Values) → Type 0
Wide n (done rs) = AllWide n rs
Wide n fault = Unit {0}
Wide n stuck = Unit {0}

more_wide : (n : ℕ) (r : Values) (o : Outcome (List Values)) → width r ≡ n → Wide n o → Wide n (map_out (λ rs. r ∷ rs) o)
more_wide n r (done rs) e h = (e, h)
more_wide n r fault e h = tt
more_wide n r stuck e h = tt

join_wide : (n : ℕ) (l : List Value) (rs : List Values) → AllWide n rs → Wide (suc n) (join_rows l rs)
join_wide n [] [] h = tt
join_wide n [] (r ∷ rs) h = tt
join_wide n (v ∷ l) [] h = tt
join_wide n (v ∷ l) (r ∷ rs) h = more_wide (suc n) (and_value v r) (join_rows l rs) (ap suc h.0) (join_wide n l rs h.1)

then_wide : (n m : ℕ) (o : Outcome (List Values)) (f : List Values → Outcome (List Values)) → Wide n o → ((rs : List Values) → AllWide n rs → Wide m (f rs)) → Wide m (and_then o f)
then_wide n m (done rs) f h k = k rs h
then_wide n m fault f h k = tt
then_wide n m stuck f h k = tt

single_wide : (l : List Value) → AllWide 1 (map (λ v. and_value v no_values) l)
single_wide [] = tt
single_wide (v ∷ l) = (refl, single_wide l)

zip_wide : (y : List Value) (ys : List (List Value)) → Wide (suc (length ys)) (zipped (y ∷ ys))
zip_wide y [] = single_wide y
zip_wide y (x ∷ ys) = then_wide (suc (length ys)) _ (zipped (x ∷ ys)) (join_rows y) (zip_wide x ys) (λ rs h. join_wide (suc (length ys)) y rs h)

answers_wide : {B : Type 0} (n : ℕ) (o : Outcome (List Values)) (f k : List Values → Outcome B) → Wide n o → ((rs : List Values) → AllWide n rs → answer_of (f rs) ≡ answer_of (k rs)) → answer_of (and_then o f) ≡ answer_of (and_then o k)
answers_wide n (done rs) f k h e = e rs h
answers_wide n fault f k h e = refl
answers_wide n stuck f k h e = refl

-- ---- some fields of a row become one

abbrev first_values : ℕ → Values → Values
first_values zero vs = no_values
first_values (suc n) no_values = no_values
first_values (suc n) (and_value v vs) = and_value v (first_values n vs)

abbrev later_values : ℕ → Values → Values
later_values zero vs = vs
later_values (suc n) no_values = no_values
later_values (suc n) (and_value v vs) = later_values n vs

first_behind : (n : ℕ) (r t : Values) → width r ≡ n → first_values n (values_behind r t) ≡ r
first_behind zero no_values t e = refl
first_behind (suc n) no_values t e = absurd (omega (arith, e))
first_behind zero (and_value v r) t e = absurd (omega (arith, e))
first_behind (suc n) (and_value v r) t e = ap (and_value v) (first_behind n r t (omega (arith, e)))

later_behind : (n : ℕ) (r t : Values) → width r ≡ n → later_values n (values_behind r t) ≡ t
later_behind zero no_values t e = refl
later_behind (suc n) no_values t e = absurd (omega (arith, e))
later_behind zero (and_value v r) t e = absurd (omega (arith, e))
later_behind (suc n) (and_value v r) t e = later_behind n r t (omega (arith, e))

none_behind : (r : Values) → values_behind r no_values ≡ r
none_behind no_values = refl
none_behind (and_value v r) = ap (and_value v) (none_behind r)

-- behind so many fields, so many become one
abbrev pub on_fields : ℕ → ℕ → (ℕ → Values → Outcome Value) → ℕ → Values → Outcome Values
on_fields zero k w = λ n fs. map_out (λ v. and_value v (later_values k fs)) (w n (first_values k fs))
on_fields (suc j) k w = lifted (on_fields j k w)

own_there : (k : ℕ) (w : ℕ → Values → Outcome Value) (n : ℕ) (q t : Values) → width q ≡ k → on_fields zero k w n (values_behind q t) ≡ map_out (λ v. and_value v t) (w n q)
own_there k w n q t e = let first = first_behind k q t e in let later = later_behind k q t e in λ i. map_out (λ v. and_value v (later i)) (w n (first i))

beside_gather : (k : ℕ) (w : ℕ → Values → Outcome Value) (n : ℕ) (qs ts : List Values) → AllWide k qs → answer_of (and_then (rows_beside qs ts) (gather (on_fields zero k w) n)) ≡ answer_of (and_then (gather w n qs) (λ c. join_rows c ts))
beside_gather k w n [] [] h = refl
beside_gather k w n [] (t ∷ ts) h = refl
beside_gather k w n (q ∷ qs) [] h =
    sym (ap answer_of (then_then (w n q) (λ y. map_out (λ ys. y ∷ ys) (gather w (suc n) qs)) (λ c. join_rows c []))
    ∙ no_answer (w n q) _ (λ y. ap answer_of (then_map (gather w (suc n) qs) (λ ys. y ∷ ys) (λ c. join_rows c [])) ∙ no_answer (gather w (suc n) qs) _ (λ ys. refl)))
beside_gather k w n (q ∷ qs) (t ∷ ts) h =
    ap answer_of (then_map (rows_beside qs ts) (λ u. values_behind q t ∷ u) (gather (on_fields zero k w) n))
    ∙ (λ i. answer_of (and_then (rows_beside qs ts) (λ u. and_then (own_there k w n q t h.0 i) (λ y. map_out (λ ys. y ∷ ys) (gather (on_fields zero k w) (suc n) u)))))
    ∙ step (w n q) (rows_beside qs ts) (gather w (suc n) qs) (gather (on_fields zero k w) (suc n)) (λ c. join_rows c ts) (λ v. and_value v t) (beside_gather k w (suc n) qs ts h.1)
    ∙ sym (ap answer_of (then_then (w n q) (λ y. map_out (λ ys. y ∷ ys) (gather w (suc n) qs)) (λ c. join_rows c (t ∷ ts))
    ∙ (λ i. and_then (w n q) (λ y. then_map (gather w (suc n) qs) (λ ys. y ∷ ys) (λ c. join_rows c (t ∷ ts)) i))))

alone_step : (o : Outcome Value) (p : Outcome (List Values)) (q : Outcome (List Value)) → p ≡ map_out (map (λ v. and_value v no_values)) q → and_then (map_out (λ v. and_value v no_values) o) (λ y. map_out (λ ys. y ∷ ys) p) ≡ map_out (map (λ v. and_value v no_values)) (and_then o (λ v. map_out (λ ys. v ∷ ys) q))
alone_step (done v) p q e =
    ap (map_out (λ ys. and_value v no_values ∷ ys)) e ∙ map_map (λ ys. and_value v no_values ∷ ys) (map (λ v. and_value v no_values)) q
    ∙ sym (map_map (map (λ v. and_value v no_values)) (λ ys. v ∷ ys) q)
alone_step fault p q e = refl
alone_step stuck p q e = refl

alone_gather : (k : ℕ) (w : ℕ → Values → Outcome Value) (n : ℕ) (qs : List Values) → AllWide k qs → gather (on_fields zero k w) n qs ≡ map_out (map (λ v. and_value v no_values)) (gather w n qs)
alone_gather k w n [] h = refl
alone_gather k w n (q ∷ qs) h =
    ap (λ o. and_then o (λ y. map_out (λ ys. y ∷ ys) (gather (on_fields zero k w) (suc n) qs))) (ap (on_fields zero k w n) (sym (none_behind q)) ∙ own_there k w n q no_values h.0)
    ∙ alone_step (w n q) (gather (on_fields zero k w) (suc n) qs) (gather w (suc n) qs) (alone_gather k w (suc n) qs h.1)

-- ---- rows over all

zip_more : (l : List Value) (xs : List (List Value)) (m : List Value) (ms : List (List Value)) → zipped (l ∷ (xs ++ m ∷ ms)) ≡ and_then (zipped (xs ++ m ∷ ms)) (join_rows l)
zip_more l [] m ms = refl
zip_more l (x ∷ xs) m ms = refl

zip_gather : (w : ℕ → Values → Outcome Value) (n : ℕ) (xs : List (List Value)) (y : List Value) (ys zs : List (List Value)) → answer_of (and_then (zipped (xs ++ (y ∷ (ys ++ zs)))) (gather (on_fields (length xs) (suc (length ys)) w) n)) ≡ answer_of (and_then (and_then (zipped (y ∷ ys)) (gather w n)) (λ c. zipped (xs ++ c ∷ zs)))
zip_gather w n [] y ys [] =
    let k = suc (length ys) in
    let own = zipped (y ∷ ys) in
    ap (λ ls. answer_of (and_then (zipped (y ∷ ls)) (gather (on_fields zero k w) n))) (append-nil ys)
    ∙ answers_wide k own _ (λ qs. and_then (gather w n qs) (λ c. zipped (c ∷ []))) (zip_wide y ys) (λ qs h. ap answer_of (alone_gather k w n qs h ∙ sym (then_done (gather w n qs) (map (λ v. and_value v no_values)))))
    ∙ ap answer_of (sym (then_then own (gather w n) (λ c. zipped (c ∷ []))))
zip_gather w n [] y ys (z ∷ zs) =
    let k = suc (length ys) in
    let own = zipped (y ∷ ys) in
    let later = zipped (z ∷ zs) in
    same_then (zipped (y ∷ (ys ++ z ∷ zs))) (and_then later (λ ts. and_then own (λ qs. rows_beside qs ts))) (gather (on_fields zero k w) n) (zip_beside y ys z zs)
    ∙ ap answer_of (then_then later (λ ts. and_then own (λ qs. rows_beside qs ts)) (gather (on_fields zero k w) n))
    ∙ answers later _ (λ ts. and_then (and_then own (gather w n)) (λ c. join_rows c ts)) (λ ts.
    ap answer_of (then_then own (λ qs. rows_beside qs ts) (gather (on_fields zero k w) n))
    ∙ answers_wide k own _ (λ qs. and_then (gather w n qs) (λ c. join_rows c ts)) (zip_wide y ys) (λ qs h. beside_gather k w n qs ts h)
    ∙ ap answer_of (sym (then_then own (gather w n) (λ c. join_rows c ts))))
    ∙ sym (answers_swap (and_then own (gather w n)) later (λ c ts. join_rows c ts))
zip_gather w n (l ∷ xs) y ys zs =
    let f = on_fields (length xs) (suc (length ys)) w in
    let all = zipped (xs ++ (y ∷ (ys ++ zs))) in
    let made = and_then (zipped (y ∷ ys)) (gather w n) in
    ap (λ o. answer_of (and_then o (gather (lifted f) n))) (zip_more l xs y (ys ++ zs))
    ∙ ap answer_of (then_then all (join_rows l) (gather (lifted f) n))
    ∙ answers all _ (λ rs. and_then (gather f n rs) (join_rows l)) (λ rs. join_gather f n l rs)
    ∙ ap answer_of (sym (then_then all (gather f n) (join_rows l)))
    ∙ same_then (and_then all (gather f n)) (and_then made (λ c. zipped (xs ++ c ∷ zs))) (join_rows l) (zip_gather w n xs y ys zs)
    ∙ ap answer_of (then_then made (λ c. zipped (xs ++ c ∷ zs)) (join_rows l))
    ∙ ap answer_of (sym (λ i. and_then made (λ c. zip_more l xs c zs i)))

-- ---- rows as values

abbrev first_value : Values → Value
first_value no_values = struct no_values
first_value (and_value v vs) = v

-- the row of such fields: the one where there is one list, the struct where there are more
abbrev pub as_row : ℕ → Values → Value
as_row zero = first_value
as_row (suc k) = struct

firsts : (l : List Value) → map first_value (map (λ v. and_value v no_values) l) ≡ l
firsts [] = refl
firsts (v ∷ l) = ap (λ vs. v ∷ vs) (firsts l)

rows_are : (y : List Value) (ys : List (List Value)) → rows_of (y ∷ ys) ≡ map_out (map (as_row (length ys))) (zipped (y ∷ ys))
rows_are y [] = ap done (sym (firsts y))
rows_are y (x ∷ ys) = refl

rows_several : (xs : List (List Value)) (c : List Value) (zs : List (List Value)) → 1 ≤ length xs + length zs → rows_of (xs ++ c ∷ zs) ≡ map_out (map struct) (zipped (xs ++ c ∷ zs))
rows_several [] c [] h = absurd (omega (arith, h))
rows_several [] c (z ∷ zs) h = refl
rows_several (x ∷ []) c zs h = refl
rows_several (x ∷ m ∷ xs) c zs h = refl

abbrev AllFit : TypeTrees → List Values → Type 0
AllFit us [] = Unit {0}
AllFit us (r ∷ rs) = HaveValues us r × AllFit us rs

all_fit : (us : TypeTrees) (rs : List Values) → AllAre (HasValue (tuple us)) (values (map struct rs)) → AllFit us rs
all_fit us [] h = tt
all_fit us (r ∷ rs) h = (h.0, all_fit us rs h.1)

gather_structs : (us : TypeTrees) (u : ℕ → Value → Outcome Value) (f : ℕ → Values → Outcome Values) → ((n : ℕ) (r : Values) → HaveValues us r → u n (struct r) ≡ map_out struct (f n r)) → (n : ℕ) (rs : List Values) → AllFit us rs → gather u n (map struct rs) ≡ map_out (map struct) (gather f n rs)
gather_structs us u f e n [] h = refl
gather_structs us u f e n (r ∷ rs) h =
    let now = e n r h.0 in
    let rest = gather_structs us u f e (suc n) rs h.1 in
    (λ i. and_then (now i) (λ y. map_out (λ ys. y ∷ ys) (rest i))) ∙ by (f n r) (gather f (suc n) rs)
  where
    by : (o : Outcome Values) (p : Outcome (List Values)) → and_then (map_out struct o) (λ y. map_out (λ ys. y ∷ ys) (map_out (map struct) p)) ≡ map_out (map struct) (and_then o (λ v. map_out (λ ys. v ∷ ys) p))
    by (done v) p = map_map (λ ys. struct v ∷ ys) (map struct) p ∙ sym (map_map (map struct) (λ ys. v ∷ ys) p)
    by fault p = refl
    by stuck p = refl

-- rows of the type, over all lists, made into rows; or the lists' rows, made and joined with the others
pub core : (us : TypeTrees) (v u : ℕ → Value → Outcome Value) (xs : List (List Value)) (y : List Value) (ys zs : List (List Value)) → 1 ≤ length xs + length zs → ((n : ℕ) (r : Values) → HaveValues us r → u n (struct r) ≡ map_out struct (on_fields (length xs) (suc (length ys)) (λ k fs. v k (as_row (length ys) fs)) n r)) → Good (λ vs. AllAre (HasValue (tuple us)) (values vs)) (rows_of (xs ++ (y ∷ (ys ++ zs)))) → answer_of (and_then (rows_of (xs ++ (y ∷ (ys ++ zs)))) (gather u 0)) ≡ answer_of (and_then (and_then (rows_of (y ∷ ys)) (gather v 0)) (λ c. rows_of (xs ++ c ∷ zs)))
core us v u xs y ys zs some e good =
    let f = on_fields (length xs) (suc (length ys)) w in
    let all = zipped (xs ++ (y ∷ (ys ++ zs))) in
    let own = zipped (y ∷ ys) in
    let made = and_then own (gather w 0) in
    ap (λ o. answer_of (and_then o (gather u 0))) wide
    ∙ ap answer_of (then_map all (map struct) (gather u 0) ∙ structs all (subst (Good (λ vs. AllAre (HasValue (tuple us)) (values vs))) wide good) ∙ sym (map_then (map struct) all (gather f 0)))
    ∙ same_map (map struct) (and_then all (gather f 0)) (and_then made (λ c. zipped (xs ++ c ∷ zs))) (zip_gather w 0 xs y ys zs)
    ∙ ap answer_of (map_then (map struct) made (λ c. zipped (xs ++ c ∷ zs)) ∙ sym (λ i. and_then made (λ c. rows_several xs c zs some i)))
    ∙ ap (λ o. answer_of (and_then o (λ c. rows_of (xs ++ c ∷ zs)))) (sym makes)
  where
    w : ℕ → Values → Outcome Value
    w = λ k fs. v k (as_row (length ys) fs)

    wide : rows_of (xs ++ (y ∷ (ys ++ zs))) ≡ map_out (map struct) (zipped (xs ++ (y ∷ (ys ++ zs))))
    wide = rows_several xs y (ys ++ zs) (more (length-append ys zs))
      where
        more : length (ys ++ zs) ≡ length ys + length zs → 1 ≤ length xs + length (ys ++ zs)
        more h = omega (arith, h, some)

    structs : (o : Outcome (List Values)) → Good (λ vs. AllAre (HasValue (tuple us)) (values vs)) (map_out (map struct) o) → and_then o (λ rs. gather u 0 (map struct rs)) ≡ and_then o (λ rs. map_out (map struct) (gather (on_fields (length xs) (suc (length ys)) w) 0 rs))
    structs (done rs) h = gather_structs us u (on_fields (length xs) (suc (length ys)) w) e 0 rs (all_fit us rs h.fits)
    structs fault h = refl
    structs stuck h = refl

    makes : and_then (rows_of (y ∷ ys)) (gather v 0) ≡ and_then (zipped (y ∷ ys)) (gather w 0)
    makes =
        ap (λ o. and_then o (gather v 0)) (rows_are y ys) ∙ then_map (zipped (y ∷ ys)) (map (as_row (length ys))) (gather v 0)
        ∙ (λ i. and_then (zipped (y ∷ ys)) (λ rs. gather_map v (as_row (length ys)) 0 rs i))

-- ---- on rows of the types

have_width : (us : TypeTrees) (r : Values) → HaveValues us r → width r ≡ count us
have_width no_types no_values h = refl
have_width no_types (and_value v r) h = absurd h
have_width (more_types t us) no_values h = absurd h
have_width (more_types t us) (and_value v r) h = ap suc (have_width us r h.1)

-- behind fields of the first types, those of the second become one
pub on_fields_at : (bs ks : TypeTrees) (w : ℕ → Values → Outcome Value) (n : ℕ) (rs qs ts : Values) → HaveValues bs rs → HaveValues ks qs → on_fields (count bs) (count ks) w n (values_behind rs (values_behind qs ts)) ≡ map_out (λ v. values_behind rs (and_value v ts)) (w n qs)
on_fields_at no_types ks w n no_values qs ts h k = own_there (count ks) w n qs ts (have_width ks qs k)
on_fields_at no_types ks w n (and_value v rs) qs ts h k = absurd h
on_fields_at (more_types t bs) ks w n no_values qs ts h k = absurd h
on_fields_at (more_types t bs) ks w n (and_value r rs) qs ts h k =
    ap (map_out (and_value r)) (on_fields_at bs ks w n rs qs ts h.1 k) ∙ map_map (and_value r) (λ v. values_behind rs (and_value v ts)) (w n qs)
