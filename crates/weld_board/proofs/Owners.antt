-- Each seat's share is in one view, so what the seat took is what that share has.
use Rattle.std.proofs.Common.{◌≡◌, ◌≢◌, ℕ, zero, suc, ◌<◌, ◌≤◌, cond, eqb, ltb, List, [], ◌∷◌, ◌++◌, set, refl, ap, sym, ◌∙◌, append-nil, append_assoc, arith}
use Rattle.std.proofs.lemmas.Bool.{eq-eqb, ne_eqb, lt-ltb, le-ltb}
use mathlib.Core.Option.{some, some-injective, some-ne-none}
use mathlib.Core.Logic.{dite}
use native.Mathlib.Decide.{dec_lt, ℕ_discrete}
use lib.ListN.{get_elem?}
use Rattle.atomic_table.specs.Table.{State}
use Rattle.weld_board.specs.declared.dealt.Dealt.{Dealt}
use Rattle.weld_board.specs.declared.share.Share.{Share}
use Rattle.weld_board.specs.Weights.{weigh, weigh_below}
use Rattle.weld_board.specs.Draws.{tiles_drawn}
use Rattle.weld_board.specs.Rule.{Shares}
use Rattle.weld_board.proofs.Weighing.{weigh_at}
use Rattle.weld_board.specs.Events.{taken_in, taken_in_all}

-- 1 for number j, and how many shares of seat j a view has
abbrev pub is : ℕ → ℕ → ℕ
is j k = cond (eqb k j) 1 0

abbrev pub count : ℕ → List Share → ℕ
count j v = weigh (λ (x : Share). is j x.seat) v

pub is_same : (j : ℕ) → is j j ≡ 1
is_same j = ap (λ b. cond {A = ℕ} b 1 0) (eq-eqb j j refl)

pub is_other : (j k : ℕ) → k ≢ j → is j k ≡ 0
is_other j k other = ap (λ b. cond {A = ℕ} b 1 0) (ne_eqb k j other)

-- ---- numbers below a number

below_none : (j n : ℕ) → n ≤ j → weigh_below (is j) n ≡ 0
below_none j zero low = refl
below_none j (suc n) low = let rest = below_none j n (omega arith) in let here = is_other j n (λ e. absurd (omega arith)) in omega arith

pub below_one : (j n : ℕ) → j < n → weigh_below (is j) n ≡ 1
below_one j zero low = absurd (omega arith)
below_one j (suc n) low = dite (ℕ_discrete n j)
    (λ e. let rest = below_none j n (omega arith) in let here = ap (is j) e ∙ is_same j in omega arith)
    (λ e. let rest = below_one j n (omega arith) in let here = is_other j n e in omega arith)

none_high : (w n : ℕ) → n ≤ w → weigh_below (λ k. cond (ltb k w) 0 1) n ≡ 0
none_high w zero low = refl
none_high w (suc n) low = let rest = none_high w n (omega arith) in let here : cond {A = ℕ} (ltb n w) 0 1 ≡ 0 = ap (λ b. cond {A = ℕ} b 0 1) (lt-ltb n w (omega arith)) in omega arith

-- ---- what a seat took

module _ (d : Dealt) (j : ℕ) where
  pub own : (x : Share) (xs : List Share) → x.seat ≡ j → taken_in d j (x ∷ xs) ≡ tiles_drawn d x.draws ++ taken_in d j xs
  own x xs e = ap (λ b. cond b (tiles_drawn d x.draws) [] ++ taken_in d j xs) (eq-eqb x.seat j e)

  pub other_own : (x : Share) (xs : List Share) → x.seat ≢ j → taken_in d j (x ∷ xs) ≡ taken_in d j xs
  other_own x xs e = ap (λ b. cond b (tiles_drawn d x.draws) [] ++ taken_in d j xs) (ne_eqb x.seat j e)

  pub taken_one : (x : Share) → x.seat ≡ j → taken_in d j (x ∷ []) ≡ tiles_drawn d x.draws
  taken_one x e = own x [] e ∙ append-nil (tiles_drawn d x.draws)

  pub taken_none : (v : List Share) → count j v ≡ 0 → taken_in d j v ≡ []
  taken_none [] none = refl
  taken_none (x ∷ v) none = dite (ℕ_discrete x.seat j)
      (λ e. let here : is j x.seat ≡ 1 = ap (is j) e ∙ is_same j in absurd (omega arith))
      (λ e. other_own x v e ∙ taken_none v (omega arith))

  pub taken_append : (v w : List Share) → taken_in d j (v ++ w) ≡ taken_in d j v ++ taken_in d j w
  taken_append [] w = refl
  taken_append (x ∷ v) w = ap (λ l. cond (eqb x.seat j) (tiles_drawn d x.draws) [] ++ l) (taken_append v w)
      ∙ sym (append_assoc (cond (eqb x.seat j) (tiles_drawn d x.draws) []) (taken_in d j v) (taken_in d j w))

  pub all_none : (views : List (List Share)) → weigh (count j) views ≡ 0 → taken_in_all d j views ≡ []
  all_none [] none = refl
  all_none (v ∷ views) none = ap (λ l. l ++ taken_in_all d j views) (taken_none v (omega arith)) ∙ all_none views (omega arith)

  -- the seat's share is in one view, in whose place another is put
  pub only : (views : List (List Share)) (id : ℕ) (v w : List Share) → get_elem? views id ≡ some v → count j v ≡ 1 → weigh (count j) views ≡ 1 → taken_in_all d j (set views id w) ≡ taken_in d j w
  only [] id v w at one all = absurd (some-ne-none v (sym at))
  only (u ∷ views) zero v w at one all =
      let same : count j u ≡ count j v = ap (count j) (some-injective u v at) in
      ap (λ l. taken_in d j w ++ l) (all_none views (omega arith)) ∙ append-nil (taken_in d j w)
  only (u ∷ views) (suc id) v w at one all =
      let there = weigh_at (count j) views id v at in
      ap (λ l. l ++ taken_in_all d j (set views id w)) (taken_none u (omega arith)) ∙ only views id v w at one (omega arith)

  -- a view is put in the place of another of which the seat has as much
  pub unmoved : (views : List (List Share)) (id : ℕ) (v w : List Share) → get_elem? views id ≡ some v → taken_in d j w ≡ taken_in d j v → taken_in_all d j (set views id w) ≡ taken_in_all d j views
  unmoved [] id v w at same = refl
  unmoved (u ∷ views) zero v w at same = ap (λ l. l ++ taken_in_all d j views) (same ∙ ap (taken_in d j) (sym (some-injective u v at)))
  unmoved (u ∷ views) (suc id) v w at same = ap (λ l. taken_in d j u ++ l) (unmoved views id v w at same)

-- ---- where the rule holds

module _ (d : Dealt) (s : State ℕ (List Share)) (h : Shares d s) where
  pub one_share : (j : ℕ) → j < d.workers → weigh (count j) s.views ≡ 1
  one_share j low = h.seats (is j) ∙ below_one j d.workers low

  pub seat_low : (id : ℕ) (x : Share) → get_elem? s.views id ≡ some (x ∷ []) → x.seat < d.workers
  seat_low id x at = dite (dec_lt x.seat d.workers)
      (λ low. low)
      (λ high.
      let here : high_at x.seat ≡ 1 = ap (λ b. cond {A = ℕ} b 0 1) (le-ltb x.seat d.workers (omega arith)) in
      let there : weigh (λ (y : Share). high_at y.seat) (x ∷ []) ≤ weigh (weigh (λ (y : Share). high_at y.seat)) s.views = weigh_at (weigh (λ (y : Share). high_at y.seat)) s.views id (x ∷ []) at in
      let all : weigh (weigh (λ (y : Share). high_at y.seat)) s.views ≡ weigh_below high_at d.workers = h.seats high_at in
      let none : weigh_below high_at d.workers ≡ 0 = none_high d.workers d.workers (omega arith) in
      absurd (omega arith))
    where
      high_at : ℕ → ℕ
      high_at k = cond (ltb k d.workers) 0 1
