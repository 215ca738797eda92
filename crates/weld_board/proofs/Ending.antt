-- The last of some spans goes on by a job.
use Rattle.std.proofs.Common.{◌≡◌, ℕ, suc, ◌+◌, ◌-◌, ◌<◌, ◌≤◌, List, [], ◌∷◌, ◌++◌, length, get_or, set, refl, ap, sym, ◌∙◌, subst, append_assoc, append-nil, length-append, arith}
use Rattle.weld_board.specs.declared.workers.span.Span.{Span}
use Rattle.weld_board.specs.Spans.{numbers_from, jobs_of, jobs_in, AreMade, EndsAt}

module _ {A : Type 0} where
  last_at : (front : List A) (x d : A) → get_or (front ++ x ∷ []) (length (front ++ x ∷ []) - 1) d ≡ x
  last_at [] x d = refl
  last_at (y ∷ []) x d = refl
  last_at (y ∷ z ∷ front) x d =
      let one : length (y ∷ ((z ∷ front) ++ x ∷ [])) - 1 ≡ suc (length ((z ∷ front) ++ x ∷ []) - 1) = (let both = length-append (z ∷ front) (x ∷ []) in omega arith) in
      ap (λ k. get_or (y ∷ ((z ∷ front) ++ x ∷ [])) k d) one ∙ last_at (z ∷ front) x d

  last_set : (front : List A) (x y : A) → set (front ++ x ∷ []) (length (front ++ x ∷ []) - 1) y ≡ front ++ y ∷ []
  last_set [] x y = refl
  last_set (z ∷ []) x y = refl
  last_set (z ∷ w ∷ front) x y =
      let one : length (z ∷ ((w ∷ front) ++ x ∷ [])) - 1 ≡ suc (length ((w ∷ front) ++ x ∷ []) - 1) = (let both = length-append (w ∷ front) (x ∷ []) in omega arith) in
      ap (λ k. set (z ∷ ((w ∷ front) ++ x ∷ [])) k y) one ∙ ap (λ l. z ∷ l) (last_set (w ∷ front) x y)

  -- where a list has a last item, it is that
  pub split_last : (xs : List A) → 0 < length xs → (front : List A) × (x : A) × (xs ≡ front ++ x ∷ [])
  split_last [] some = absurd (omega arith)
  split_last (x ∷ []) some = ([], x, refl)
  split_last (x ∷ y ∷ xs) some = let rest = split_last (y ∷ xs) (omega arith) in (x ∷ rest.0, rest.1, ap (λ l. x ∷ l) rest.2)

  pub last_is : (xs front : List A) (x y d : A) → xs ≡ front ++ x ∷ [] → y ≡ get_or xs (length xs - 1) d → y ≡ x
  last_is xs front x y d e is = is ∙ ap (λ l. get_or l (length l - 1) d) e ∙ last_at front x d

one_more : (first job : ℕ) → first ≤ job → numbers_from first ((job + 1) - first) ≡ numbers_from first (job - first) ++ job ∷ []
one_more first job low =
    let next : (job + 1) - first ≡ suc (job - first) = omega arith in
    let here : first + (job - first) ≡ job = omega arith in
    ap (numbers_from first) next ∙ ap (λ k. numbers_from first (job - first) ++ k ∷ []) here

module _ {P : Type 0} where
  pub jobs_in-append : (xs ys : List (Span P)) → jobs_in (xs ++ ys) ≡ jobs_in xs ++ jobs_in ys
  jobs_in-append [] ys = refl
  jobs_in-append (x ∷ xs) ys = ap (λ l. jobs_of x ++ l) (jobs_in-append xs ys) ∙ sym (append_assoc (jobs_of x) (jobs_in xs) (jobs_in ys))

  pub made_append : (made : ℕ → ℕ → P → Type 0) (xs ys : List (Span P)) → AreMade made xs → AreMade made ys → AreMade made (xs ++ ys)
  made_append made [] ys a b = b
  made_append made (x ∷ xs) ys a b = (a.0, made_append made xs ys a.1 b)

  pub made_front : (made : ℕ → ℕ → P → Type 0) (xs ys : List (Span P)) → AreMade made (xs ++ ys) → AreMade made xs × AreMade made ys
  made_front made [] ys a = (tt, a)
  made_front made (x ∷ xs) ys a = let rest = made_front made xs ys a.1 in ((a.0, rest.0), rest.1)

  module _ (made : ℕ → ℕ → P → Type 0) (job : ℕ) where
    -- behind the front, the last span with its next job done
    abbrev on : Span P → P → Span P
    on last p = record { first = last.first; next = job + 1; part = p }

    goes_made : (front : List (Span P)) (last : Span P) (p : P) → AreMade made front → last.first ≤ job → made last.first (job + 1) p → AreMade made (front ++ on last p ∷ [])
    goes_made front last p before low is = made_append made front (on last p ∷ []) before (((omega arith), is), tt)

    goes_jobs : (front : List (Span P)) (last : Span P) (p : P) → last.first ≤ job → last.next ≡ job → jobs_in (front ++ on last p ∷ []) ≡ jobs_in (front ++ last ∷ []) ++ job ∷ []
    goes_jobs front last p low next =
        let own : jobs_of (on last p) ≡ jobs_of last ++ job ∷ [] = one_more last.first job low ∙ ap (λ k. numbers_from last.first (k - last.first) ++ job ∷ []) (sym next) in
        jobs_in-append front (on last p ∷ []) ∙ ap (λ l. jobs_in front ++ l) (append-nil (jobs_of (on last p)) ∙ own) ∙ sym (append_assoc (jobs_in front) (jobs_of last) (job ∷ []))
        ∙ ap (λ l. l ++ job ∷ []) (sym (jobs_in-append front (last ∷ []) ∙ ap (λ l. jobs_in front ++ l) (append-nil (jobs_of last))))

    set_is : (spans front : List (Span P)) (last d : Span P) (p : P) → spans ≡ front ++ last ∷ [] → set spans (length spans - 1) (on (get_or spans (length spans - 1) d) p) ≡ front ++ on last p ∷ []
    set_is spans front last d p e =
        ap (λ l. set l (length l - 1) (on (get_or l (length l - 1) d) p)) e ∙ ap (λ x. set (front ++ last ∷ []) (length (front ++ last ∷ []) - 1) (on x p)) (last_at front last d) ∙ last_set front last (on last p)

    pub last_made : (spans : List (Span P)) (d : Span P) → EndsAt made job spans → made (get_or spans (length spans - 1) d).first job (get_or spans (length spans - 1) d).part
    last_made spans d h = subst (λ (x : Span P). made x.first job x.part) (sym (ap (λ l. get_or l (length l - 1) d) h.are ∙ last_at h.front h.last d)) h.made_so_far

    pub some_span : (spans : List (Span P)) → EndsAt made job spans → 0 < length spans
    some_span spans h = let count = ap length h.are in let both = length-append h.front (h.last ∷ []) in omega arith

    pub ran_made : (spans : List (Span P)) (d : Span P) (p : P) → EndsAt made job spans → made (get_or spans (length spans - 1) d).first (job + 1) p → AreMade made (set spans (length spans - 1) (on (get_or spans (length spans - 1) d) p))
    ran_made spans d p h is =
        let last : made h.last.first (job + 1) p = subst (λ (x : Span P). made x.first (job + 1) p) (ap (λ l. get_or l (length l - 1) d) h.are ∙ last_at h.front h.last d) is in
        subst (AreMade made) (sym (set_is spans h.front h.last d p h.are)) (goes_made h.front h.last p h.before h.begins last)

    pub ran_jobs : (spans : List (Span P)) (d : Span P) (p : P) → EndsAt made job spans → jobs_in (set spans (length spans - 1) (on (get_or spans (length spans - 1) d) p)) ≡ jobs_in spans ++ job ∷ []
    ran_jobs spans d p h = ap jobs_in (set_is spans h.front h.last d p h.are) ∙ goes_jobs h.front h.last p h.begins h.next ∙ ap (λ l. jobs_in l ++ job ∷ []) (sym h.are)

    -- a new span, before its first job
    pub bare_ends : (spans : List (Span P)) (p : P) → AreMade made spans → made job job p → EndsAt made job (spans ++ record { first = job; next = job; part = p } ∷ [])
    bare_ends spans p all is = record { front = spans; last = record { first = job; next = job; part = p }; are = refl; before = all; begins = omega arith; next = refl; made_so_far = is }

    pub bare_jobs : (spans : List (Span P)) (p : P) → jobs_in (spans ++ record { first = job; next = job; part = p } ∷ []) ≡ jobs_in spans
    bare_jobs spans p =
        let none : job - job ≡ 0 = omega arith in
        jobs_in-append spans (record { first = job; next = job; part = p } ∷ []) ∙ ap (λ k. jobs_in spans ++ (numbers_from job k ++ [])) none ∙ append-nil (jobs_in spans)

    -- the last of made spans, of which the job is the next
    pub made_ends : (spans front : List (Span P)) (last : Span P) → AreMade made spans → spans ≡ front ++ last ∷ [] → last.next ≡ job → EndsAt made job spans
    made_ends spans front last all e next =
        let parts = made_front made front (last ∷ []) (subst (AreMade made) e all) in
        let low = parts.1.0.0 in
        record { front = front; last = last; are = e; before = parts.0; begins = omega arith; next = next; made_so_far = subst (λ k. made last.first k last.part) next parts.1.0.1 }
