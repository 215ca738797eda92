-- A draw is the taking of the first tile left.
use Rattle.std.proofs.Common.{◌≡◌, ◌≢◌, ℕ, ◌+◌, ◌%◌, ◌^◌, ◌<◌, Bool, cond, List, [], ◌∷◌, ◌++◌, length, get_or, set, map, refl, ap, sym, ◌∙◌, subst, append-nil, arith}
use Rattle.std.proofs.lemmas.Bool.{eq-eqb, ne_eqb}
use Rattle.std.proofs.lemmas.List.{get_or-map, get_or-set_other, ext_get_or, length-set, length-map, set-get_or}
use Rattle.std.proofs.lemmas.Grind.{get_or-set_at}
use mathlib.Core.Option.{some}
use mathlib.Core.Logic.{dite}
use native.Mathlib.Decide.{dec_le, ℕ_discrete}
use lib.ListN.{get_elem?}
use Rattle.atomic_table.specs.Table.{State}
use Rattle.atomic_table.proofs.Lists.{set_again}
use Rattle.weld_board.specs.Sharing.{Core, Permits, left_in, taken_by, moved, moved_first, after}
use Rattle.weld_board.specs.declared.hands.event.Event.TheVariants.{Pop, Steal}
use Rattle.weld_board.specs.declared.dealt.Dealt.{Dealt}
use Rattle.weld_board.specs.declared.share.Share.{Share}
use Rattle.weld_board.specs.Draws.{first_of, size_of, tiles_drawn, late, drawn}
use Rattle.weld_board.specs.Rule.{Shares}
use Rattle.weld_board.specs.Sitting.{numbers}
use Rattle.weld_board.proofs.Stepping.{draws_kept, word_next}
use Rattle.weld_board.proofs.Taking.{tiles_more, tile_early, tile_late}
use Rattle.weld_board.specs.Events.{core_at, hand_left, hands_left, taken_in_all, after_draw, taking, IsTaking}
use Rattle.weld_board.proofs.Owners.{is_same, is_other, taken_one, taken_none, only, unmoved, one_share, seat_low}
use Rattle.weld_board.proofs.Lefts.{length_numbers, numbers_at, left_early, left_late, length_left, left_at, left_set}

-- ---- a list with an item for each number below a number

module _ {A : Type 0} where
  pub map_numbers_at : (f : ℕ → A) (n i : ℕ) (e : A) → i < n → get_or (map f (numbers n)) i e ≡ f i
  map_numbers_at f n i e low = let all = length_numbers n in get_or-map f (numbers n) i 0 e (omega arith) ∙ ap f (numbers_at n i low)

  pub length_map_numbers : (f : ℕ → A) (n : ℕ) → length (map f (numbers n)) ≡ n
  length_map_numbers f n = length-map (numbers n) f ∙ length_numbers n

  -- another list of which one item is another
  pub map_numbers_set : (f g : ℕ → A) (n j : ℕ) (d : A) → j < n → ((i : ℕ) → i < n → i ≢ j → f i ≡ g i) → map f (numbers n) ≡ set (map g (numbers n)) j (f j)
  map_numbers_set f g n j d low same =
      let one = length_map_numbers f n in
      let two = length_map_numbers g n in
      let three = length-set (map g (numbers n)) j (f j) in
      ext_get_or d (map f (numbers n)) (set (map g (numbers n)) j (f j)) (omega arith) (λ i few.
      dite (ℕ_discrete i j)
      (λ e.
      map_numbers_at f n i d (omega arith) ∙ ap f e ∙ sym (get_or-set_at (map g (numbers n)) j i (f j) d e (omega arith)))
      (λ other. map_numbers_at f n i d (omega arith) ∙ same i (omega arith) other ∙ sym (map_numbers_at g n i d (omega arith)) ∙ sym (get_or-set_other (map g (numbers n)) j i (f j) d other)))

-- ---- what a draw adds

module _ (d : Dealt) (s : State ℕ (List Share)) (id k n : ℕ) (x : Share) (h : Shares d s) (at : get_elem? s.views id ≡ some (x ∷ [])) where
  taken_own : taken_in_all d x.seat (set s.views id (drawn (x ∷ []) k n)) ≡ taken_in_all d x.seat s.views ++ tiles_drawn d ((k, n) ∷ [])
  taken_own =
      let low = seat_low d s h id x at in
      let one = is_same x.seat in
      let new = only d x.seat s.views id (x ∷ []) (drawn (x ∷ []) k n) at (omega arith) (one_share d s h x.seat low) in
      let old = only d x.seat s.views id (x ∷ []) (x ∷ []) at (omega arith) (one_share d s h x.seat low) in
      let same : taken_in_all d x.seat s.views ≡ tiles_drawn d x.draws = ap (taken_in_all d x.seat) (sym (set_again s.views id (x ∷ []) at)) ∙ old ∙ taken_one d x.seat x refl in
      new ∙ taken_one d x.seat (record { seat = x.seat; draws = x.draws ++ (k, n) ∷ [] }) refl ∙ tiles_more d x.draws ((k, n) ∷ []) ∙ ap (λ l. l ++ tiles_drawn d ((k, n) ∷ [])) (sym same)

  taken_other : (j : ℕ) → j ≢ x.seat → taken_in_all d j (set s.views id (drawn (x ∷ []) k n)) ≡ taken_in_all d j s.views
  taken_other j other =
      let none = is_other j x.seat (λ e. other (sym e)) in
      unmoved d j s.views id (x ∷ []) (drawn (x ∷ []) k n) at (taken_none d j (drawn (x ∷ []) k n) (omega arith) ∙ sym (taken_none d j (x ∷ []) (omega arith)))

-- ---- the core's state

pub same_core : {h g t u : List (List ℕ)} {f : List Bool} → h ≡ g → t ≡ u → ◌≡◌ {A = Core ℕ} (record { hands = h; taken = t; finished = f }) (record { hands = g; taken = u; finished = f })
same_core {f = f} p q = λ i. record { hands = p i; taken = q i; finished = f }

module _ (d : Dealt) (s : State ℕ (List Share)) (id k : ℕ) (x : Share) (h : Shares d s) (at : get_elem? s.views id ≡ some (x ∷ [])) (low : k < d.workers) where
  -- what is left in hand k, and what the seat took
  left : left_in (core_at d s) k ≡ hand_left d k (get_or s.words k 0)
  left = let hands = h.hands in let none : 0 + k ≡ k = omega arith in left_at d 0 k s.words (omega arith) ∙ ap (λ m. hand_left d m (get_or s.words k 0)) none

  took : taken_by (core_at d s) x.seat ≡ taken_in_all d x.seat s.views
  took = map_numbers_at (λ j. taken_in_all d j s.views) d.workers x.seat [] (seat_low d s h id x at)

  hands_drawn : hands_left d 0 (set s.words k (get_or s.words k 0 + 1)) ≡ set (hands_left d 0 s.words) k (hand_left d k (get_or s.words k 0 + 1))
  hands_drawn =
      let none : 0 + k ≡ k = omega arith in
      left_set d 0 k (get_or s.words k 0 + 1) s.words ∙ ap (λ m. set (hands_left d 0 s.words) k (hand_left d m (get_or s.words k 0 + 1))) none

  taken_drawn : map (λ j. taken_in_all d j (set s.views id (drawn (x ∷ []) k (get_or s.words k 0)))) (numbers d.workers)
      ≡ set (map (λ j. taken_in_all d j s.views) (numbers d.workers)) x.seat (taken_by (core_at d s) x.seat ++ tiles_drawn d ((k, get_or s.words k 0) ∷ []))
  taken_drawn =
      let n : ℕ = get_or s.words k 0 in
      map_numbers_set (λ j. taken_in_all d j (set s.views id (drawn (x ∷ []) k n))) (λ j. taken_in_all d j s.views) d.workers x.seat [] (seat_low d s h id x at) (λ j few other. taken_other d s id k n x h at j other)
      ∙ ap (λ l. set (map (λ j. taken_in_all d j s.views) (numbers d.workers)) x.seat l) (taken_own d s id k n x h at ∙ ap (λ l. l ++ tiles_drawn d ((k, n) ∷ [])) (sym took))

  core_drawn : core_at d (record { words = set s.words k (get_or s.words k 0 + 1); homes = s.homes; views = set s.views id (drawn (x ∷ []) k (get_or s.words k 0)) }) ≡ moved (core_at d s) x.seat k
  core_drawn =
      let n : ℕ = get_or s.words k 0 in
      let hands : List (List ℕ) = hands_left d 0 s.words in
      let taken : List (List ℕ) = map (λ j. taken_in_all d j s.views) (numbers d.workers) in
      dite (dec_le (size_of d k) n)
      (λ high.
      let none : left_in (core_at d s) k ≡ [] = left ∙ left_late d k low n high in
      let past : hand_left d k (n + 1) ≡ left_in (core_at d s) k = left_late d k low (n + 1) (omega arith) ∙ sym none in
      let same : taken_by (core_at d s) x.seat ++ tiles_drawn d ((k, n) ∷ []) ≡ taken_by (core_at d s) x.seat = ap (λ l. taken_by (core_at d s) x.seat ++ l) (tile_late d k n high) ∙ append-nil (taken_by (core_at d s) x.seat) in
      same_core (hands_drawn ∙ ap (set hands k) past ∙ set-get_or hands k []) (taken_drawn ∙ ap (set taken x.seat) same ∙ set-get_or taken x.seat [])
      ∙ ap (moved_first (core_at d s) x.seat k) (sym none))
      (λ few.
      let first : left_in (core_at d s) k ≡ (first_of d k + n) ∷ hand_left d k (n + 1) = left ∙ left_early d k low n (omega arith) in
      same_core hands_drawn (taken_drawn ∙ ap (λ l. set taken x.seat (taken_by (core_at d s) x.seat ++ l)) (tile_early d k n (omega arith)))
      ∙ ap (moved_first (core_at d s) x.seat k) (sym first))

-- ---- the core's event

after_taking : (c : Core ℕ) (j k : ℕ) → after c (taking j k) ≡ moved c j k
after_taking c j k = dite (ℕ_discrete j k)
    (λ e. ap (λ b. after c (cond b (Pop k) (Steal j k))) (eq-eqb j k e) ∙ ap (λ i. moved c i k) (sym e))
    (λ e. ap (λ b. after c (cond b (Pop k) (Steal j k))) (ne_eqb j k e))

permits_taking : (c : Core ℕ) (j k : ℕ) → j < length c.hands → k < length c.hands → Permits c (taking j k)
permits_taking c j k to from = dite (ℕ_discrete j k)
    (λ e. subst (λ b. Permits c (cond b (Pop k) (Steal j k))) (sym (eq-eqb j k e)) from)
    (λ e. subst (λ b. Permits c (cond b (Pop k) (Steal j k))) (sym (ne_eqb j k e)) (to, from, e))

pub draw_takes : (d : Dealt) (s : State ℕ (List Share)) (id k : ℕ) (x : Share) → Shares d s → get_elem? s.views id ≡ some (x ∷ []) → k < d.workers → late d k x.draws ≡ 0
    → IsTaking d s (after_draw s id (x ∷ []) k) x.seat k
draw_takes d s id k x h at low none =
    let n : ℕ = get_or s.words k 0 in
    let own = seat_low d s h id x at in
    let hands = h.hands in
    let all = length_left d 0 s.words in
    let there : k < length s.words = omega arith in
    let next : (n + 1) % 2 ^ 64 ≡ n + 1 = word_next d s k h low in
    record {
      rule = subst (λ m. Shares d (record { words = set s.words k m; homes = s.homes; views = set s.views id (drawn (x ∷ []) k n) })) (sym next) (draws_kept d s id k n x h at there refl none);
      permits = permits_taking (core_at d s) x.seat k (omega arith) (omega arith);
      is_after = ap (λ m. core_at d (record { words = set s.words k m; homes = s.homes; views = set s.views id (drawn (x ∷ []) k n) })) next
          ∙ core_drawn d s id k x h at low ∙ sym (after_taking (core_at d s) x.seat k);
    }
