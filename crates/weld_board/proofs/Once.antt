-- Each tile stays in one hand or was taken once.
use Rattle.std.proofs.Common.{◌≡◌, ℕ, zero, suc, ◌<◌, ◌≤◌, true, false, List, [], ◌∷◌, ◌++◌, length, get_or, set, replicate, refl, ap, sym, ◌∙◌, subst, append_assoc, append-nil, arith, IsPermutation}
use Rattle.std.proofs.lemmas.List.{length-set, length-replicate, get_or-set_other}
use Rattle.std.proofs.lemmas.List.Sorted.{IsPermutation-refl, IsPermutation-trans, IsPermutation-append_left, IsPermutation-append_right, IsPermutation-middle, IsPermutation-sym}
use native.Mathlib.Decide.{ℕ_discrete}
use mathlib.Core.Logic.{dite}
use Rattle.weld_board.specs.Dealing.{hands_below, joined}
use Rattle.weld_board.specs.Sharing.{Core, left_in, taken_by, dealt, moved_first, after, after_all, Permits, PermitsAll, Once, HaveFinished}
use Rattle.weld_board.specs.declared.hands.event.Event.{Event}
use Rattle.weld_board.specs.declared.hands.event.Event.TheVariants.{Pop, Steal, Finish}
use Rattle.weld_board.proofs.HandsDealt.{length_hands, hands_are_tiles}

none_finished : (n k : ℕ) → get_or (replicate n false) k false ≡ false
none_finished zero k = refl
none_finished (suc n) zero = refl
none_finished (suc n) (suc k) = none_finished n k

module _ {A : Type 0} where
  -- ---- a list of lists, of which one has an item less or more

  joined_less : (xss : List (List A)) (k : ℕ) (t : A) (ts : List A) → k < length xss → get_or xss k [] ≡ t ∷ ts → IsPermutation (joined xss) (t ∷ joined (set xss k ts))
  joined_less [] k t ts low is = absurd (omega arith)
  joined_less (xs ∷ xss) zero t ts low is = subst (λ l. IsPermutation (l ++ joined xss) (t ∷ (ts ++ joined xss))) (sym is) (IsPermutation-refl (t ∷ (ts ++ joined xss)))
  joined_less (xs ∷ xss) (suc k) t ts low is =
      IsPermutation-trans (xs ++ joined xss) (xs ++ t ∷ joined (set xss k ts)) (t ∷ (xs ++ joined (set xss k ts)))
      (IsPermutation-append_right xs (joined xss) (t ∷ joined (set xss k ts)) (joined_less xss k t ts (omega arith) is))
      (IsPermutation-middle xs t (joined (set xss k ts)))

  joined_more : (xss : List (List A)) (j : ℕ) (t : A) → j < length xss → IsPermutation (joined (set xss j (get_or xss j [] ++ t ∷ []))) (t ∷ joined xss)
  joined_more [] j t low = absurd (omega arith)
  joined_more (xs ∷ xss) zero t low = subst (λ l. IsPermutation l (t ∷ (xs ++ joined xss))) (sym (append_assoc xs (t ∷ []) (joined xss))) (IsPermutation-middle xs t (joined xss))
  joined_more (xs ∷ xss) (suc j) t low =
      IsPermutation-trans (xs ++ joined (set xss j (get_or xss j [] ++ t ∷ []))) (xs ++ t ∷ joined xss) (t ∷ (xs ++ joined xss))
      (IsPermutation-append_right xs (joined (set xss j (get_or xss j [] ++ t ∷ []))) (t ∷ joined xss) (joined_more xss j t (omega arith)))
      (IsPermutation-middle xs t (joined xss))

  joined_none : (xss : List (List A)) → ((k : ℕ) → k < length xss → get_or xss k [] ≡ []) → joined xss ≡ []
  joined_none [] none = refl
  joined_none (xs ∷ xss) none = ap (λ l. l ++ joined xss) (none 0 (omega arith)) ∙ joined_none xss (λ k low. none (suc k) (omega arith))

  joined_empty : (n : ℕ) → joined {A = A} (replicate n []) ≡ []
  joined_empty zero = refl
  joined_empty (suc n) = joined_empty n

  -- ---- what stays

  record Keeps (tiles : List A) (w : ℕ) (s : Core A) : Type 0 where
    pub hands : length s.hands ≡ w
    pub taken : length s.taken ≡ w
    pub finished : length s.finished ≡ w
    pub once : Once tiles s
    pub empty : (k : ℕ) → get_or s.finished k false ≡ true → left_in s k ≡ []

  moved_once : (tiles : List A) (s : Core A) (j k : ℕ) (t : A) (ts : List A) → left_in s k ≡ t ∷ ts → j < length s.taken → k < length s.hands → Once tiles s → Once tiles (moved_first s j k (t ∷ ts))
  moved_once tiles s j k t ts is to from once =
      let more : List A = joined (set s.taken j (taken_by s j ++ t ∷ [])) in
      let less : List A = joined (set s.hands k ts) in
      IsPermutation-trans (more ++ less) ((t ∷ joined s.taken) ++ less) tiles
      (IsPermutation-append_left less more (t ∷ joined s.taken) (joined_more s.taken j t to))
      (IsPermutation-trans (t ∷ (joined s.taken ++ less)) (joined s.taken ++ t ∷ less) tiles
      (IsPermutation-sym (joined s.taken ++ t ∷ less) (t ∷ (joined s.taken ++ less)) (IsPermutation-middle (joined s.taken) t less))
      (IsPermutation-trans (joined s.taken ++ t ∷ less) (joined s.taken ++ joined s.hands) tiles
      (IsPermutation-append_right (joined s.taken) (t ∷ less) (joined s.hands) (IsPermutation-sym (joined s.hands) (t ∷ less) (joined_less s.hands k t ts from is)))
      once))

  moved_empty : (s : Core A) (k : ℕ) (t : A) (ts : List A) → left_in s k ≡ t ∷ ts → ((i : ℕ) → get_or s.finished i false ≡ true → left_in s i ≡ []) → (i : ℕ) → get_or s.finished i false ≡ true → get_or (set s.hands k ts) i [] ≡ []
  moved_empty s k t ts is empty i f = dite (ℕ_discrete i k)
      (λ e. let none : left_in s k ≡ [] = ap (left_in s) (sym e) ∙ empty i f in cc)
      (λ n. get_or-set_other s.hands k i ts [] n ∙ empty i f)

  moved_keeps : (tiles : List A) (w : ℕ) (s : Core A) (j k : ℕ) (h : List A) → left_in s k ≡ h → j < w → k < w → Keeps tiles w s → Keeps tiles w (moved_first s j k h)
  moved_keeps tiles w s j k [] is to from h = h
  moved_keeps tiles w s j k (t ∷ ts) is to from h =
      let hands = h.hands in
      let taken = h.taken in
      record {
        hands = length-set s.hands k ts ∙ h.hands;
        taken = length-set s.taken j (taken_by s j ++ t ∷ []) ∙ h.taken;
        finished = h.finished;
        once = moved_once tiles s j k t ts is (omega arith) (omega arith) h.once;
        empty = moved_empty s k t ts is h.empty;
      }

  after_keeps : (tiles : List A) (w : ℕ) (s : Core A) (e : Event) → Permits s e → Keeps tiles w s → Keeps tiles w (after s e)
  after_keeps tiles w s (Pop k) may h = let hands = h.hands in moved_keeps tiles w s k k (left_in s k) refl (omega arith) (omega arith) h
  after_keeps tiles w s (Steal j k) may h = let hands = h.hands in moved_keeps tiles w s j k (left_in s k) refl (omega arith) (omega arith) h
  after_keeps tiles w s (Finish k) may h = record {
    hands = h.hands;
    taken = h.taken;
    finished = length-set s.finished k true ∙ h.finished;
    once = h.once;
    empty = λ i f. dite (ℕ_discrete i k)
        (λ e. ap (left_in s) e ∙ may.1)
        (λ n. h.empty i (sym (get_or-set_other s.finished k i true false n) ∙ f));
  }

  all_keeps : (tiles : List A) (w : ℕ) (s : Core A) (es : List Event) → PermitsAll s es → Keeps tiles w s → Keeps tiles w (after_all s es)
  all_keeps tiles w s [] may h = h
  all_keeps tiles w s (e ∷ es) may h = all_keeps tiles w (after s e) es may.1 (after_keeps tiles w s e may.0 h)

  dealt_keeps : (tiles : List A) (w : ℕ) → 0 < w → Keeps tiles w (dealt tiles w)
  dealt_keeps tiles w some = record {
    hands = length_hands tiles w w;
    taken = length-replicate w [];
    finished = length-replicate w false;
    once =
        let none : joined (replicate w []) ≡ [] = joined_empty w in
        let all : joined (replicate w []) ++ joined (hands_below tiles w w) ≡ tiles = ap (λ l. l ++ joined (hands_below tiles w w)) none ∙ hands_are_tiles tiles w some in
        subst (IsPermutation (joined (replicate w []) ++ joined (hands_below tiles w w))) all (IsPermutation-refl (joined (replicate w []) ++ joined (hands_below tiles w w)));
    empty = λ k f. let not = none_finished w k in cc;
  }

  -- ---- the laws

  pub stays_once : (tiles : List A) (w : ℕ) (es : List Event) → 1 ≤ w → PermitsAll (dealt tiles w) es → Once tiles (after_all (dealt tiles w) es)
  stays_once tiles w es some may = (all_keeps tiles w (dealt tiles w) es may (dealt_keeps tiles w (omega arith))).once

  pub ends_taken : (tiles : List A) (w : ℕ) (es : List Event) → 1 ≤ w → PermitsAll (dealt tiles w) es → HaveFinished (after_all (dealt tiles w) es) → IsPermutation (joined (after_all (dealt tiles w) es).taken) tiles
  ends_taken tiles w es some may all =
      let s : Core A = after_all (dealt tiles w) es in
      let h : Keeps tiles w s = all_keeps tiles w (dealt tiles w) es may (dealt_keeps tiles w (omega arith)) in
      let hands = h.hands in
      let finished = h.finished in
      let none : joined s.hands ≡ [] = joined_none s.hands (λ k low. h.empty k (all k (omega arith))) in
      subst (λ l. IsPermutation l tiles) (ap (λ l. joined s.taken ++ l) none ∙ append-nil (joined s.taken)) h.once
