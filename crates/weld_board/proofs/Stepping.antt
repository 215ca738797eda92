-- Each kind of step keeps the rule.
use Rattle.std.proofs.Common.{◌≡◌, ◌≢◌, ℕ, zero, suc, ◌+◌, ◌%◌, ◌^◌, ◌<◌, ◌≤◌, List, [], ◌∷◌, ◌++◌, length, get_or, set, take, drop, replicate, refl, ap, sym, ◌∙◌, subst, add-one, arith}
use Rattle.std.proofs.Math.Nat.{mod-eq_of_lt}
use Rattle.std.proofs.lemmas.List.{length-set, set-get_or, length-replicate}
use mathlib.Core.Option.{none as nothing, some}
use mathlib.Core.Logic.{dite}
use native.Mathlib.Decide.{dec_le, ℕ_discrete}
use lib.ListN.{get_elem?}
use Rattle.atomic_table.specs.Table.{State, Me, step, keeps, opening, Allows, Splits, Joins}
use Rattle.atomic_table.proofs.Lists.{set_again, set_else}
use Rattle.weld_board.proofs.HandsDealt.{start_within}
use Rattle.weld_board.specs.declared.dealt.Dealt.{Dealt}
use Rattle.weld_board.specs.declared.share.Share.{Share}
use Rattle.weld_board.specs.Weights.{weigh, weigh_below, weigh_words}
use Rattle.weld_board.specs.Draws.{size_of, late, late_at, fresh, weigh_draws, weigh_view, drawn}
use Rattle.weld_board.specs.Rule.{Each, Shares, IsBounded, DrawsPlace, ShowsAll, others, first_share, both}
use Rattle.weld_board.proofs.Weighing.{weigh-append, weigh_set, weigh_at, weigh_each, weigh_none, weigh_ones, each_set, each_at, each_append, each_weaker, below_ones, words_set, words_at}
use Rattle.std.proofs.lemmas.Bool.Decides.{nat_tests}

-- ---- late places

pub late_at_most : (d : Dealt) (k hand place : ℕ) → late_at d k hand place ≤ 1
late_at_most d k hand place = grind (arith, nat_tests)

pub late_elsewhere : (d : Dealt) (k hand place : ℕ) → hand ≢ k → late_at d k hand place ≡ 0
late_elsewhere d k hand place other = grind (arith, nat_tests)

pub late_early : (d : Dealt) (k place : ℕ) → place < size_of d k → late_at d k k place ≡ 0
late_early d k place low = grind (arith, nat_tests)

pub late_late : (d : Dealt) (k place : ℕ) → size_of d k ≤ place → late_at d k k place ≡ 1
late_late d k place high = grind (arith, nat_tests)

-- ---- a draw

late_weight : (d : Dealt) (k n : ℕ) → n ≤ size_of d k + weigh_below (late_at d k k) n
late_weight d k zero = omega arith
late_weight d k (suc n) = dite (dec_le (size_of d k) n)
    (λ high. let rest = late_weight d k n in let one = late_late d k n high in omega arith)
    (λ low. omega arith)

-- no more draws on a hand than it has tiles, and one of each worker
word_bound : (d : Dealt) (s : State ℕ (List Share)) (k : ℕ) → Shares d s → k < d.workers → get_or s.words k 0 ≤ size_of d k + d.workers
word_bound d s k h low =
    let f : ℕ → ℕ → ℕ = late_at d k in
    let n : ℕ = get_or s.words k 0 in
    let hands = h.hands in
    let here : weigh_below (f (0 + k)) n ≤ weigh_words f 0 s.words = words_at f 0 s.words k (omega arith) in
    let same : weigh_below (f (0 + k)) n ≡ weigh_below (f k) n = (let none : 0 + k ≡ k = omega arith in ap (λ m. weigh_below (f m) n) none) in
    let all : weigh (weigh_view f) s.views ≡ weigh_words f 0 s.words = h.places f in
    let each : Each (λ v. weigh_view f v ≤ weigh (λ (x : Share). 1) v) s.views =
    each_weaker (Each (λ (x : Share). late d k x.draws ≤ 1)) (λ v. weigh_view f v ≤ weigh (λ (x : Share). 1) v) (λ v. weigh_each (λ (x : Share). weigh_draws f x.draws) (λ (x : Share). 1) v) s.views (h.late_once k) in
    let few : weigh (weigh_view f) s.views ≤ weigh (λ v. weigh (λ (x : Share). 1) v) s.views = weigh_each (weigh_view f) (λ v. weigh (λ (x : Share). 1) v) s.views each in
    let seats : weigh (λ v. weigh (λ (x : Share). 1) v) s.views ≡ weigh_below (λ m. 1) d.workers = h.seats (λ m. 1) in
    let count : weigh_below (λ m. 1) d.workers ≡ d.workers = below_ones d.workers in
    let late : n ≤ size_of d k + weigh_below (f k) n = late_weight d k n in
    omega arith

-- the word doesn't wrap
pub word_next : (d : Dealt) (s : State ℕ (List Share)) (k : ℕ) → Shares d s → k < d.workers → (get_or s.words k 0 + 1) % 2 ^ 64 ≡ get_or s.words k 0 + 1
word_next d s k h low =
    let bound = word_bound d s k h low in
    let end = start_within d.tiles d.workers (k + 1) (omega arith) in
    let room = h.room in
    let small : get_or s.words k 0 + 1 < 18446744073709551616 = omega arith in
    mod-eq_of_lt small

module _ (d : Dealt) (s : State ℕ (List Share)) (id k n : ℕ) (x : Share) (h : Shares d s) (at : get_elem? s.views id ≡ some (x ∷ [])) (low : k < length s.words) (is : n ≡ get_or s.words k 0) where
  view_drawn : (f : ℕ → ℕ → ℕ) → weigh_view f (drawn (x ∷ []) k n) ≡ weigh_view f (x ∷ []) + f k n
  view_drawn f = let more = weigh-append (λ (y : ℕ × ℕ). f y.0 y.1) x.draws ((k, n) ∷ []) in omega arith

  places_drawn : (f : ℕ → ℕ → ℕ) → weigh (weigh_view f) (set s.views id (drawn (x ∷ []) k n)) ≡ weigh_words f 0 (set s.words k (n + 1))
  places_drawn f =
      let views = weigh_set (weigh_view f) s.views id (x ∷ []) (drawn (x ∷ []) k n) at in
      let words = words_set f 0 s.words k n low is in
      let same : f (0 + k) n ≡ f k n = (let none : 0 + k ≡ k = omega arith in ap (λ m. f m n) none) in
      let all = h.places f in
      let more = view_drawn f in
      omega arith

  seats_drawn : (f : ℕ → ℕ) → weigh (λ v. weigh (λ (y : Share). f y.seat) v) (set s.views id (drawn (x ∷ []) k n)) ≡ weigh_below f d.workers
  seats_drawn f =
      let views = weigh_set (λ v. weigh (λ (y : Share). f y.seat) v) s.views id (x ∷ []) (drawn (x ∷ []) k n) at in
      let all = h.seats f in
      omega arith

  late_drawn : late d k x.draws ≡ 0 → (j : ℕ) → Each (λ (y : Share). late d j y.draws ≤ 1) (drawn (x ∷ []) k n)
  late_drawn none j =
      let more : late d j (x.draws ++ (k, n) ∷ []) ≡ late d j x.draws + (late_at d j k n + 0) = weigh-append (λ (y : ℕ × ℕ). late_at d j y.0 y.1) x.draws ((k, n) ∷ []) in
      let before : late d j x.draws ≤ 1 = (each_at (Each (λ (y : Share). late d j y.draws ≤ 1)) s.views id (x ∷ []) at (h.late_once j)).0 in
      dite (ℕ_discrete k j)
      (λ e. let here : late d j x.draws ≡ 0 = ap (λ m. late d m x.draws) (sym e) ∙ none in let one = late_at_most d j k n in ((omega arith), tt))
      (λ e. let here = late_elsewhere d j k n e in ((omega arith), tt))

  bounded : IsBounded (drawn (x ∷ []) k n)
  bounded = (
    set s.words k (n + 1),
    λ f.
        let views = weigh_set (weigh_view f) s.views id (x ∷ []) (drawn (x ∷ []) k n) at in
        let part = weigh_at (weigh_view f) s.views id (x ∷ []) at in
        let all = places_drawn f in
        omega arith,
  )

  pub draws_kept : late d k x.draws ≡ 0 → Shares d (record { words = set s.words k (n + 1); homes = s.homes; views = set s.views id (drawn (x ∷ []) k n) })
  draws_kept none = record {
    hands = length-set s.words k (n + 1) ∙ h.hands;
    room = h.room;
    seats = seats_drawn;
    places = places_drawn;
    late_once = λ j. each_set (Each (λ (y : Share). late d j y.draws ≤ 1)) s.views id (drawn (x ∷ []) k n) (late_drawn none j) (h.late_once j);
  }

pub draw_allowed : (d : Dealt) (slots id k : ℕ) (x : Share) → k < d.workers → late d k x.draws ≡ 0
    → Allows (Shares d) slots id (x ∷ [], []) k (λ n. (n + 1) % 2 ^ 64) (DrawsPlace (step slots k 1 0 nothing) (x ∷ [], []))
draw_allowed d slots id k x low none s h homes at fits =
    let n : ℕ = get_or s.words k 0 in
    let hands = h.hands in
    let there : k < length s.words = omega arith in (
      drawn (x ∷ []) k n,
      keeps,
      tt,
      subst (λ m. Shares d (record { words = set s.words k m; homes = s.homes; views = set s.views id (drawn (x ∷ []) k n) })) (sym (word_next d s k h low)) (draws_kept d s id k n x h at there refl none),
      (refl, bounded d s id k n x h at there refl),
    )

-- ---- a load by a seat that has all shares

no_draws : (f : ℕ → ℕ → ℕ) (v : List Share) → weigh (λ (x : Share). 1) v ≡ 0 → weigh_view f v ≡ 0
no_draws f [] none = refl
no_draws f (x ∷ v) none = absurd (omega arith)

all_drawn : (d : Dealt) (s : State ℕ (List Share)) (id : ℕ) (v : List Share) → Shares d s → get_elem? s.views id ≡ some v → length v ≡ d.workers → (f : ℕ → ℕ → ℕ) → weigh_view f v ≡ weigh_words f 0 s.words
all_drawn d s id v h at all f =
    let empty : List (List Share) = set s.views id [] in
    let shares : weigh (λ w. weigh (λ (x : Share). 1) w) empty + weigh (λ (x : Share). 1) v ≡ weigh (λ w. weigh (λ (x : Share). 1) w) s.views + 0 = weigh_set (λ w. weigh (λ (x : Share). 1) w) s.views id v [] at in
    let ones = weigh_ones v in
    let seats : weigh (λ w. weigh (λ (x : Share). 1) w) s.views ≡ weigh_below (λ m. 1) d.workers = h.seats (λ m. 1) in
    let count : weigh_below (λ m. 1) d.workers ≡ d.workers = below_ones d.workers in
    let none : weigh (weigh_view f) empty ≡ 0 = weigh_none (λ w. weigh (λ (x : Share). 1) w) (weigh_view f) (no_draws f) empty (omega arith) in
    let draws : weigh (weigh_view f) empty + weigh_view f v ≡ weigh (weigh_view f) s.views + 0 = weigh_set (weigh_view f) s.views id v [] at in
    let places = h.places f in
    omega arith

pub look_allowed : (d : Dealt) (slots id : ℕ) (v : List Share) → length v ≡ d.workers → Allows (Shares d) slots id (v, []) 0 (λ n. n) (ShowsAll (step slots 0 0 0 nothing) (v, []))
look_allowed d slots id v all s h homes at fits =
    let words : set s.words 0 (get_or s.words 0 0) ≡ s.words = set-get_or s.words 0 0 in
    let views : set s.views id v ≡ s.views = set_again s.views id v at in
    let same : record { words = s.words; homes = s.homes; views = s.views } ≡ record { words = set s.words 0 (get_or s.words 0 0); homes = s.homes; views = set s.views id v }
    = λ i. record { words = sym words i; homes = s.homes; views = sym views i } in
    (v, keeps, tt, subst (Shares d) same h, (refl, (s.words, all_drawn d s id v h at all)))

-- ---- shares that part and come together

module _ {A : Type 0} (f : A → ℕ) where
  parts_weigh : (v : List A) → weigh f (drop 1 v) + weigh f (take 1 v) ≡ weigh f v
  parts_weigh [] = refl
  parts_weigh (x ∷ v) = omega arith

  split_weigh : (views : List (List A)) (id : ℕ) (v : List A) → get_elem? views id ≡ some v → weigh (weigh f) (set views id (drop 1 v) ++ take 1 v ∷ []) ≡ weigh (weigh f) views
  split_weigh views id v at =
      let more = weigh-append (weigh f) (set views id (drop 1 v)) (take 1 v ∷ []) in
      let one = weigh_set (weigh f) views id v (drop 1 v) at in
      let parts = parts_weigh v in
      omega arith

  join_weigh : (views : List (List A)) (id : ℕ) (v : List A) (other : ℕ) (w : List A) → get_elem? views id ≡ some v → get_elem? (set views id (w ++ v)) other ≡ some w
      → weigh (weigh f) (set (set views id (w ++ v)) other []) ≡ weigh (weigh f) views
  join_weigh views id v other w at there =
      let both = weigh-append f w v in
      let first = weigh_set (weigh f) views id v (w ++ v) at in
      let second = weigh_set (weigh f) (set views id (w ++ v)) other w [] there in
      omega arith

each_parts : {A : Type 0} (P : A → Type 0) (v : List A) → Each P v → Each P (drop 1 v) × Each P (take 1 v)
each_parts P [] all = (tt, tt)
each_parts P (x ∷ v) all = (all.1, (all.0, tt))

pub split_allowed : (d : Dealt) (id : ℕ) (v : List Share) → Splits (Shares d) id v (others v) (first_share v)
split_allowed d id v s h at = record {
  hands = h.hands;
  room = h.room;
  seats = λ f. split_weigh (λ (x : Share). f x.seat) s.views id v at ∙ h.seats f;
  places = λ f. split_weigh (λ (x : Share). weigh_draws f x.draws) s.views id v at ∙ h.places f;
  late_once = λ k.
      let P : Share → Type 0 = λ x. late d k x.draws ≤ 1 in
      let parts = each_parts P v (each_at (Each P) s.views id v at (h.late_once k)) in
      each_append (Each P) (set s.views id (drop 1 v)) (take 1 v ∷ []) (each_set (Each P) s.views id (drop 1 v) parts.0 (h.late_once k)) (parts.1, tt);
}

pub join_allowed : (d : Dealt) (id : ℕ) (v : List Share) (other : ℕ) (w : List Share) → Joins (Shares d) id v other w (both v w) []
join_allowed d id v other w s h at apart there = record {
  hands = h.hands;
  room = h.room;
  seats = λ f. join_weigh (λ (x : Share). f x.seat) s.views id v other w at there ∙ h.seats f;
  places = λ f. join_weigh (λ (x : Share). weigh_draws f x.draws) s.views id v other w at there ∙ h.places f;
  late_once = λ k.
      let P : Share → Type 0 = λ x. late d k x.draws ≤ 1 in
      let first : Each P v = each_at (Each P) s.views id v at (h.late_once k) in
      let second : Each P w = each_at (Each P) s.views other w (sym (set_else s.views id other (w ++ v) apart) ∙ there) (h.late_once k) in
      each_set (Each P) (set s.views id (w ++ v)) other [] tt (each_set (Each P) s.views id (w ++ v) (each_append P w v second first) (h.late_once k));
}

-- ---- the table at the start

fresh_seats : (f : ℕ → ℕ) (k n : ℕ) → weigh (λ (x : Share). f x.seat) (fresh k n) + weigh_below f k ≡ weigh_below f (k + n)
fresh_seats f k zero = let none : k + 0 ≡ k = omega arith in omega (arith, ap (weigh_below f) none)
fresh_seats f k (suc n) =
    let rest = fresh_seats f (k + 1) n in
    let one : weigh_below f (k + 1) ≡ weigh_below f k + f k = ap (weigh_below f) (add-one k) in
    let same : weigh_below f (k + 1 + n) ≡ weigh_below f (k + suc n) = (let e : k + 1 + n ≡ k + suc n = omega arith in ap (weigh_below f) e) in
    omega arith

fresh_draws : (f : ℕ → ℕ → ℕ) (k n : ℕ) → weigh_view f (fresh k n) ≡ 0
fresh_draws f k zero = refl
fresh_draws f k (suc n) = let rest = fresh_draws f (k + 1) n in omega arith

fresh_late : (d : Dealt) (j k n : ℕ) → Each (λ (x : Share). late d j x.draws ≤ 1) (fresh k n)
fresh_late d j k zero = tt
fresh_late d j k (suc n) = ((omega arith), fresh_late d j (k + 1) n)

zero_words : (f : ℕ → ℕ → ℕ) (k n : ℕ) → weigh_words f k (replicate n 0) ≡ 0
zero_words f k zero = refl
zero_words f k (suc n) = let rest = zero_words f (k + 1) n in omega arith

pub opens : (d : Dealt) (words : List ℕ) → d.tiles + d.workers < 18446744073709551615 → words ≡ replicate d.workers 0 → Shares d (opening words [] (fresh 0 d.workers))
opens d words room zeros = record {
  hands = ap length zeros ∙ length-replicate d.workers 0;
  room = room;
  seats = λ f. let all = fresh_seats f 0 d.workers in let same : weigh_below f (0 + d.workers) ≡ weigh_below f d.workers = (let e : 0 + d.workers ≡ d.workers = omega arith in ap (weigh_below f) e) in omega arith;
  places = λ f. let none = fresh_draws f 0 d.workers in let words_none = ap (weigh_words f 0) zeros ∙ zero_words f 0 d.workers in omega arith;
  late_once = λ k. (fresh_late d k 0 d.workers, tt);
}

-- ---- the same for a table's key and a seat's state, as code has them

pub draw_at : (key d : Dealt) (slots id k : ℕ) (me : Me ℕ (List Share)) (x : Share) → key ≡ d → me ≡ (x ∷ [], []) → k < d.workers → late d k x.draws ≡ 0
    → Allows (Shares key) slots id me k (λ n. (n + 1) % 2 ^ 64) (DrawsPlace (step slots k 1 0 nothing) me)
draw_at key d slots id k me x e m low none =
    subst (λ q. Allows (Shares q) slots id me k (λ n. (n + 1) % 2 ^ 64) (DrawsPlace (step slots k 1 0 nothing) me)) (sym e)
    (subst (λ q. Allows (Shares d) slots id q k (λ n. (n + 1) % 2 ^ 64) (DrawsPlace (step slots k 1 0 nothing) q)) (sym m) (draw_allowed d slots id k x low none))

pub look_at : (key d : Dealt) (slots id : ℕ) (me : Me ℕ (List Share)) → key ≡ d → me.1 ≡ [] → length me.0 ≡ d.workers → Allows (Shares key) slots id me 0 (λ n. n) (ShowsAll (step slots 0 0 0 nothing) me)
look_at key d slots id me e m all =
    subst (λ q. Allows (Shares q) slots id me 0 (λ n. n) (ShowsAll (step slots 0 0 0 nothing) me)) (sym e)
    (subst (λ q. Allows (Shares d) slots id (me.0, q) 0 (λ n. n) (ShowsAll (step slots 0 0 0 nothing) (me.0, q))) (sym m) (look_allowed d slots id me.0 all))

pub split_at : (key : Dealt) (id : ℕ) (v : List Share) → Splits (Shares key) id v (others v) (first_share v)
split_at key id v = split_allowed key id v
