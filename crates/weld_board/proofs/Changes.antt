-- Whatever seats do at a board, the core follows.
use Rattle.std.proofs.Common.{◌≡◌, ◌≢◌, ℕ, zero, suc, ◌+◌, ◌-◌, ◌<◌, ◌≤◌, Bool, true, false, cond, eqb, List, [], ◌∷◌, ◌++◌, length, get_or, set, map, take, drop, replicate, refl, ap, sym, ◌∙◌, subst, append-nil, append_assoc, arith}
use Rattle.std.proofs.lemmas.List.{ext_get_or, length-replicate, get_or-append_right}
use Rattle.std.proofs.Math.ListN.{get_or-append}
use mathlib.Core.Option.{some}
use mathlib.Core.Logic.{dite}
use native.Mathlib.Decide.{ℕ_discrete}
use lib.ListN.{get_elem?}
use Rattle.atomic_table.specs.Table.{State}
use Rattle.atomic_table.proofs.Lists.{set_again, set_else, set_here}
use Rattle.weld_board.specs.Dealing.{hand, hands_below}
use Rattle.weld_board.proofs.HandsDealt.{length_hands}
use Rattle.weld_board.specs.Sharing.{Core, PermitsAll, after, after_all, dealt}
use Rattle.weld_board.specs.declared.hands.event.Event.{Event}
use Rattle.weld_board.specs.declared.dealt.Dealt.{Dealt}
use Rattle.weld_board.specs.declared.share.Share.{Share}
use Rattle.weld_board.specs.Weights.{weigh}
use Rattle.weld_board.specs.Draws.{tiles_drawn, fresh}
use Rattle.weld_board.specs.Rule.{Shares, others, first_share, both}
use Rattle.weld_board.specs.Sitting.{numbers}
use Rattle.weld_board.specs.Events.{core_at, hand_left, hands_left, taken_in, taken_in_all, after_draw, taking, IsTaking, Change, splits, draws, joins, view_at, seat_in, changed, May, events_in, changed_all, MayAll, events_in_all, opened_at}
use Rattle.weld_board.proofs.Weighing.{weigh-append, weigh_set, weigh_at}
use Rattle.weld_board.proofs.Stepping.{split_allowed, join_allowed, opens}
use Rattle.weld_board.proofs.Owners.{count, is, is_same, own, other_own, taken_one, taken_none, taken_append, only, unmoved, one_share}
use Rattle.weld_board.proofs.Lefts.{length_left, left_at}
use Rattle.weld_board.proofs.Takings.{map_numbers_at, length_map_numbers, same_core, draw_takes}

-- ---- lists

elem_at : {A : Type 0} (xs : List A) (i : ℕ) (d : A) → i < length xs → get_elem? xs i ≡ some (get_or xs i d)
elem_at [] i d low = absurd (omega arith)
elem_at (x ∷ xs) zero d low = refl
elem_at (x ∷ xs) (suc i) d low = elem_at xs i d (omega arith)

same_numbers : (f g : ℕ → List ℕ) (n : ℕ) → ((i : ℕ) → i < n → f i ≡ g i) → map f (numbers n) ≡ map g (numbers n)
same_numbers f g n same =
    let one = length_map_numbers f n in
    let two = length_map_numbers g n in
    ext_get_or [] (map f (numbers n)) (map g (numbers n)) (omega arith) (λ i low.
    map_numbers_at f n i [] (omega arith) ∙ same i (omega arith) ∙ sym (map_numbers_at g n i [] (omega arith)))

-- ---- the tiles dealt

hands_at : {A : Type 0} (tiles : List A) (w n i : ℕ) → i < n → get_or (hands_below tiles w n) i [] ≡ hand tiles w i
hands_at tiles w zero i low = absurd (omega arith)
hands_at tiles w (suc n) i low = dite (ℕ_discrete i n)
    (λ e.
    let none : i - n ≡ 0 = omega arith in
    get_or-append_right (hands_below tiles w n) (hand tiles w n ∷ []) n i [] (length_hands tiles w n) (omega arith) ∙ ap (λ m. get_or (hand tiles w n ∷ []) m []) none ∙ ap (hand tiles w) (sym e))
    (λ e. let all = length_hands tiles w n in get_or-append (hands_below tiles w n) (hand tiles w n ∷ []) [] i (omega arith) ∙ hands_at tiles w n i (omega arith))

zero_at : (n i : ℕ) → get_or {A = ℕ} (replicate n 0) i 0 ≡ 0
zero_at zero i = refl
zero_at (suc n) zero = refl
zero_at (suc n) (suc i) = zero_at n i

nothing_at : (n i : ℕ) → get_or {A = List ℕ} (replicate n []) i [] ≡ []
nothing_at zero i = refl
nothing_at (suc n) zero = refl
nothing_at (suc n) (suc i) = nothing_at n i

either : {A : Type 0} (b : Bool) (x : A) → cond b x x ≡ x
either true x = refl
either false x = refl

fresh_taken : (d : Dealt) (j k n : ℕ) → taken_in d j (fresh k n) ≡ []
fresh_taken d j k zero = refl
fresh_taken d j k (suc n) = ap (λ l. l ++ taken_in d j (fresh (k + 1) n)) (either (eqb k j) []) ∙ fresh_taken d j (k + 1) n

opened_core : (d : Dealt) → core_at d (opened_at d) ≡ dealt (numbers d.tiles) d.workers
opened_core d =
    let w : ℕ = d.workers in
    let tiles : List ℕ = numbers d.tiles in
    let zeros : List ℕ = replicate w 0 in
    let hands : length (hands_left d 0 zeros) ≡ w = length_left d 0 zeros ∙ length-replicate w 0 in
    let few : length zeros ≡ w = length-replicate w 0 in
    let below : length (hands_below tiles w w) ≡ w = length_hands tiles w w in
    let all : length (map (λ j. taken_in_all d j (fresh 0 w ∷ [])) (numbers w)) ≡ w = length_map_numbers (λ j. taken_in_all d j (fresh 0 w ∷ [])) w in
    let none : length (replicate {A = List ℕ} w []) ≡ w = length-replicate w [] in
    same_core
    (ext_get_or [] (hands_left d 0 zeros) (hands_below tiles w w) (omega arith) (λ i low.
    let at : 0 + i ≡ i = omega arith in
    left_at d 0 i zeros (omega arith) ∙ ap (hand_left d (0 + i)) (zero_at w i) ∙ ap (hand tiles w) at ∙ sym (hands_at tiles w w i (omega arith))))
    (ext_get_or [] (map (λ j. taken_in_all d j (fresh 0 w ∷ [])) (numbers w)) (replicate w []) (omega arith) (λ i low.
    map_numbers_at (λ j. taken_in_all d j (fresh 0 w ∷ [])) w i [] (omega arith) ∙ append-nil (taken_in d i (fresh 0 w)) ∙ fresh_taken d i 0 w ∙ sym (nothing_at w i)))

-- ---- shares that go to another seat

module _ (d : Dealt) (j : ℕ) where
  all_append : (views more : List (List Share)) → taken_in_all d j (views ++ more) ≡ taken_in_all d j views ++ taken_in_all d j more
  all_append [] more = refl
  all_append (v ∷ views) more = ap (λ l. taken_in d j v ++ l) (all_append views more) ∙ sym (append_assoc (taken_in d j v) (taken_in_all d j views) (taken_in_all d j more))

  -- the view that has the seat's share has all that it took
  whole : (views : List (List Share)) (id : ℕ) (v : List Share) → get_elem? views id ≡ some v → count j v ≡ 1 → weigh (count j) views ≡ 1 → taken_in_all d j views ≡ taken_in d j v
  whole views id v at one all = ap (taken_in_all d j) (sym (set_again views id v at)) ∙ only d j views id v v at one all

  split_taken : (views : List (List Share)) (id : ℕ) (v : List Share) → get_elem? views id ≡ some v → weigh (count j) views ≡ 1 → taken_in_all d j (set views id (drop 1 v) ++ take 1 v ∷ []) ≡ taken_in_all d j views
  split_taken views id [] at one = all_append (set views id []) ([] ∷ []) ∙ append-nil (taken_in_all d j (set views id [])) ∙ ap (taken_in_all d j) (set_again views id [] at)
  split_taken views id (x ∷ v) at one = all_append (set views id v) ((x ∷ []) ∷ []) ∙ ap (λ l. taken_in_all d j (set views id v) ++ l) (append-nil (taken_in d j (x ∷ []))) ∙ dite (ℕ_discrete x.seat j)
      (λ e.
      let here : is j x.seat ≡ 1 = ap (is j) e ∙ is_same j in
      let there : count j (x ∷ v) ≤ weigh (count j) views = weigh_at (count j) views id (x ∷ v) at in
      let none : taken_in d j v ≡ [] = taken_none d j v (omega arith) in
      ap (λ l. l ++ taken_in d j (x ∷ [])) (only d j views id (x ∷ v) v at (omega arith) one ∙ none)
      ∙ taken_one d j x e ∙ sym (append-nil (tiles_drawn d x.draws)) ∙ ap (λ l. tiles_drawn d x.draws ++ l) (sym none) ∙ sym (own d j x v e) ∙ sym (whole views id (x ∷ v) at (omega arith) one))
      (λ e.
      ap (λ l. taken_in_all d j (set views id v) ++ l) (other_own d j x [] e) ∙ append-nil (taken_in_all d j (set views id v)) ∙ unmoved d j views id (x ∷ v) v at (sym (other_own d j x v e)))

  join_taken : (views : List (List Share)) (id other : ℕ) (v w : List Share) → id < length views → get_elem? views id ≡ some v → get_elem? views other ≡ some w → other ≢ id → weigh (count j) views ≡ 1
      → taken_in_all d j (set (set views id (w ++ v)) other []) ≡ taken_in_all d j views
  join_taken views id other v w low at there apart one =
      let more : get_elem? (set views id (w ++ v)) other ≡ some w = set_else views id other (w ++ v) apart ∙ there in
      let counts : count j (w ++ v) ≡ count j w + count j v = weigh-append (λ (x : Share). is j x.seat) w v in
      dite (ℕ_discrete (count j w) 0)
      (λ none.
      let taken : taken_in d j w ≡ [] = taken_none d j w none in
      unmoved d j (set views id (w ++ v)) other w [] more (sym taken)
      ∙ unmoved d j views id v (w ++ v) at (taken_append d j w v ∙ ap (λ l. l ++ taken_in d j v) taken))
      (λ some_there.
      let emptied = weigh_set (count j) views id v [] at in
      let still : get_elem? (set views id []) other ≡ some w = set_else views id other [] apart ∙ there in
      let part = weigh_at (count j) (set views id []) other w still in
      let first = weigh_set (count j) views id v (w ++ v) at in
      let second = weigh_set (count j) (set views id (w ++ v)) other w [] more in
      let here : get_elem? (set (set views id (w ++ v)) other []) id ≡ some (w ++ v) = set_else (set views id (w ++ v)) other id [] (λ e. apart (sym e)) ∙ set_here views id (w ++ v) low in
      whole (set (set views id (w ++ v)) other []) id (w ++ v) here (omega arith) (omega arith)
      ∙ taken_append d j w v ∙ ap (λ l. taken_in d j w ++ l) (taken_none d j v (omega arith)) ∙ append-nil (taken_in d j w)
      ∙ sym (whole views other w there (omega arith) one))

-- ---- changes, one after another

record Follows (d : Dealt) (s t : State ℕ (List Share)) (es : List Event) : Type 0 where
  pub rule : Shares d t
  pub permits : PermitsAll (core_at d s) es
  pub is_after : core_at d t ≡ after_all (core_at d s) es

-- the same words, and each seat took the same
same_taken : (d : Dealt) (words : List ℕ) (views more : List (List Share)) (s : State ℕ (List Share)) → s.words ≡ words → s.views ≡ views → ((j : ℕ) → j < d.workers → taken_in_all d j more ≡ taken_in_all d j views)
    → core_at d (record { words = words; homes = s.homes; views = more }) ≡ core_at d s
same_taken d words views more s e f same = same_core (ap (hands_left d 0) (sym e)) (same_numbers (λ j. taken_in_all d j more) (λ j. taken_in_all d j s.views) d.workers (λ j low. same j low ∙ ap (taken_in_all d j) (sym f)))

change_follows : (d : Dealt) (s : State ℕ (List Share)) (c : Change) → Shares d s → May d s c → Follows d s (changed s c) (events_in s c)
change_follows d s (splits id) h may = record {
  rule = split_allowed d id (view_at s id) s h (elem_at s.views id [] may);
  permits = tt;
  is_after = same_taken d s.words s.views (set s.views id (others (view_at s id)) ++ first_share (view_at s id) ∷ []) s refl refl (λ j low. split_taken d j s.views id (view_at s id) (elem_at s.views id [] may) (one_share d s h j low));
}
change_follows d s (draws id k) h may =
    let x : Share = may.1.0 in
    let at : get_elem? s.views id ≡ some (x ∷ []) = elem_at s.views id [] may.0 ∙ ap some may.1.1 in
    let step : IsTaking d s (after_draw s id (x ∷ []) k) x.seat k = draw_takes d s id k x h at may.2 may.1.2 in
    subst (λ v. Follows d s (after_draw s id v k) (taking (seat_in v) k ∷ [])) (sym may.1.1) (record {
      rule = step.rule;
      permits = (step.permits, tt);
      is_after = step.is_after;
    })
change_follows d s (joins id other) h may = record {
  rule = join_allowed d id (view_at s id) other (view_at s other) s h (elem_at s.views id [] may.0) may.2 (set_else s.views id other (view_at s other ++ view_at s id) may.2 ∙ elem_at s.views other [] may.1);
  permits = tt;
  is_after = same_taken d s.words s.views (set (set s.views id (both (view_at s id) (view_at s other))) other []) s refl refl
      (λ j low. join_taken d j s.views id other (view_at s id) (view_at s other) may.0 (elem_at s.views id [] may.0) (elem_at s.views other [] may.1) may.2 (one_share d s h j low));
}

permits_append : (c : Core ℕ) (es more : List Event) → PermitsAll c es → PermitsAll (after_all c es) more → PermitsAll c (es ++ more)
permits_append c [] more may then = then
permits_append c (e ∷ es) more may then = (may.0, permits_append (after c e) es more may.1 then)

after_append : (c : Core ℕ) (es more : List Event) → after_all c (es ++ more) ≡ after_all (after_all c es) more
after_append c [] more = refl
after_append c (e ∷ es) more = after_append (after c e) es more

all_follow : (d : Dealt) (s : State ℕ (List Share)) (cs : List Change) → Shares d s → MayAll d s cs → PermitsAll (core_at d s) (events_in_all s cs) × (core_at d (changed_all s cs) ≡ after_all (core_at d s) (events_in_all s cs))
all_follow d s [] h may = (tt, refl)
all_follow d s (c ∷ cs) h may =
    let one : Follows d s (changed s c) (events_in s c) = change_follows d s c h may.0 in
    let rest = all_follow d (changed s c) cs one.rule may.1 in (
      permits_append (core_at d s) (events_in s c) (events_in_all (changed s c) cs) one.permits (subst (λ q. PermitsAll q (events_in_all (changed s c) cs)) one.is_after rest.0),
      rest.1 ∙ ap (λ q. after_all q (events_in_all (changed s c) cs)) one.is_after ∙ sym (after_append (core_at d s) (events_in s c) (events_in_all (changed s c) cs)),
    )

pub boards_follow : (d : Dealt) (changes : List Change) → 1 ≤ d.workers → d.tiles + d.workers < 18446744073709551615 → MayAll d (opened_at d) changes
    → PermitsAll (dealt (numbers d.tiles) d.workers) (events_in_all (opened_at d) changes)
    × (core_at d (changed_all (opened_at d) changes) ≡ after_all (dealt (numbers d.tiles) d.workers) (events_in_all (opened_at d) changes))
boards_follow d changes some_worker room may =
    subst (λ q. PermitsAll q (events_in_all (opened_at d) changes) × (core_at d (changed_all (opened_at d) changes) ≡ after_all q (events_in_all (opened_at d) changes))) (opened_core d)
    (all_follow d (opened_at d) changes (opens d (replicate d.workers 0) room refl) may)
