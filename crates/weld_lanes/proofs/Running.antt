-- What steps answer one after another.
use Rattle.std.proofs.Common.{◌≡◌, ◌⊎◌, inl, inr, ℕ, zero, suc, ◌+◌, ◌*◌, ◌<◌, ◌≤◌, nat_lt, Bool, true, false, not, ◌&&◌, ◌||◌, if◌then◌else◌, ℤ, pos, List, [], ◌∷◌, ◌++◌, length, map, refl, sym, ap, subst, ◌∙◌, IsTrue, arith}
use Rattle.std.proofs.lemmas.List.{get_or_append_left, get_or_push, length-append, length-map, map-append, get_or-append-add}
use Rattle.std.proofs.lemmas.Bool.{ltb-true, cases_lt}
use Rattle.weld_data.specs.declared.kind.Kind.{Kind}
use Rattle.weld_data.specs.Operation.{truth}
use Rattle.weld_lanes.specs.declared.steps.LaneStep.{LaneStep}
use Rattle.weld_lanes.specs.declared.steps.LaneStep.TheVariants as steps
use Rattle.weld_lanes.specs.Answers.{at, is_true, made, answer, answers, answers_after}
use Rattle.weld_lanes.specs.Blocks.{AreOne, AreTwo, AreThree, ArePart, AreAnswered, IsAnswered, answers_at, block_at, step_at, kept_at}
use Rattle.weld_lanes.specs.Formed.{is_formed, are_formed, is_arithmetic, is_comparison}

-- ---- tests

pub left_of : (x y : Bool) → IsTrue (x && y) → IsTrue x
left_of true y h = refl
left_of false y h = cc

pub right_of : (x y : Bool) → IsTrue (x && y) → IsTrue y
right_of true y h = h
right_of false y h = cc

pub below : (i n : ℕ) → IsTrue (nat_lt i n) → i < n
below i n h = ltb-true i n h

-- ---- steps

-- what was answered stays
pub kept : (k : Kind) (us : List ℤ) (a b : ℤ) (ss : List LaneStep) (xs : List ℤ) (i : ℕ) → i < length xs → at (answers_after k us a b xs ss) i ≡ at xs i
kept k us a b [] xs i less = refl
kept k us a b (s ∷ ss) xs i less =
    let v : ℤ = answer k us a b xs s in
    let long : length (xs ++ v ∷ []) ≡ length xs + length (v ∷ []) = length-append xs (v ∷ []) in
    kept k us a b ss (xs ++ v ∷ []) i (omega (arith, long)) ∙ get_or_append_left xs (v ∷ []) (pos 0) i less

-- a step looks at no more than those that it names
pub same_step : (k : Kind) (us : List ℤ) (a b : ℤ) (n : ℕ) (s : LaneStep) (xs ys : List ℤ) → IsTrue (is_formed k n s) → ((i : ℕ) → i < n → at xs i ≡ at ys i) → answer k us a b xs s ≡ answer k us a b ys s
same_step k us a b n steps.A xs ys h e = refl
same_step k us a b n steps.B xs ys h e = refl
same_step k us a b n (steps.Lit x) xs ys h e = refl
same_step k us a b n (steps.Uniform u) xs ys h e = refl
same_step k us a b n (steps.Arith op i j) xs ys h e =
    let names = right_of (is_arithmetic op) _ h in
    ap (λ (x : ℤ). made op k x (at xs j)) (e i (below i n (left_of (nat_lt i n) _ names))) ∙ ap (made op k (at ys i)) (e j (below j n (right_of (nat_lt i n) _ names)))
same_step k us a b n (steps.Compare op i j) xs ys h e =
    let names = right_of (is_comparison op) _ h in
    ap (λ (x : ℤ). made op k x (at xs j)) (e i (below i n (left_of (nat_lt i n) _ names))) ∙ ap (made op k (at ys i)) (e j (below j n (right_of (nat_lt i n) _ names)))
same_step k us a b n (steps.Truth t) xs ys h e = refl
same_step k us a b n (steps.Not i) xs ys h e = ap (λ (x : ℤ). truth (not (is_true x))) (e i (below i n h))
same_step k us a b n (steps.And i j) xs ys h e =
    ap (λ (x : ℤ). truth (is_true x && is_true (at xs j))) (e i (below i n (left_of (nat_lt i n) _ h))) ∙ ap (λ (x : ℤ). truth (is_true (at ys i) && is_true x)) (e j (below j n (right_of (nat_lt i n) _ h)))
same_step k us a b n (steps.Or i j) xs ys h e =
    ap (λ (x : ℤ). truth (is_true x || is_true (at xs j))) (e i (below i n (left_of (nat_lt i n) _ h))) ∙ ap (λ (x : ℤ). truth (is_true (at ys i) || is_true x)) (e j (below j n (right_of (nat_lt i n) _ h)))
same_step k us a b n (steps.Select c i j) xs ys h e =
    let names = right_of (nat_lt c n) _ h in
    ap (λ (x : ℤ). if is_true x then at xs i else at xs j) (e c (below c n (left_of (nat_lt c n) _ h)))
    ∙ ap (λ (x : ℤ). if is_true (at ys c) then x else at xs j) (e i (below i n (left_of (nat_lt i n) _ names)))
    ∙ ap (λ (x : ℤ). if is_true (at ys c) then at ys i else x) (e j (below j n (right_of (nat_lt i n) _ names)))

-- each answer is its step's, of all answers
run_at : (k : Kind) (us : List ℤ) (a b : ℤ) (ss : List LaneStep) (xs : List ℤ) (i : ℕ) → IsTrue (are_formed k (length xs) ss) → i < length ss
    → at (answers_after k us a b xs ss) (length xs + i) ≡ answer k us a b (answers_after k us a b xs ss) (step_at ss i)
run_at k us a b [] xs i h less = absurd (omega (arith, less))
run_at k us a b (s ∷ ss) xs zero h less =
    let v : ℤ = answer k us a b xs s in
    let long : length (xs ++ v ∷ []) ≡ length xs + length (v ∷ []) = length-append xs (v ∷ []) in
    let here : length xs + 0 ≡ length xs = omega arith in
    ap (at (answers_after k us a b (xs ++ v ∷ []) ss)) here
    ∙ kept k us a b ss (xs ++ v ∷ []) (length xs) (omega (arith, long))
    ∙ get_or_push xs v (pos 0) (length xs) refl
    ∙ same_step k us a b (length xs) s xs (answers_after k us a b (xs ++ v ∷ []) ss) (left_of (is_formed k (length xs) s) _ h) (λ j small. sym (kept k us a b (s ∷ ss) xs j small))
run_at k us a b (s ∷ ss) xs (suc i) h less =
    let v : ℤ = answer k us a b xs s in
    let long : length (xs ++ v ∷ []) ≡ length xs + length (v ∷ []) = length-append xs (v ∷ []) in
    let one : length (xs ++ v ∷ []) ≡ suc (length xs) = omega (arith, long) in
    let there : length xs + suc i ≡ length (xs ++ v ∷ []) + i = omega (arith, long) in
    ap (at (answers_after k us a b (xs ++ v ∷ []) ss)) there
    ∙ run_at k us a b ss (xs ++ v ∷ []) i (subst (λ (n : ℕ). IsTrue (are_formed k n ss)) (sym one) (right_of (is_formed k (length xs) s) _ h)) (omega (arith, less))

pub answers_is : (k : Kind) (ss : List LaneStep) (us : List ℤ) (a b : ℤ) (i : ℕ) → IsTrue (are_formed k 0 ss) → i < length ss → at (answers k ss us a b) i ≡ answer k us a b (answers k ss us a b) (step_at ss i)
answers_is k ss us a b i h less =
    let e : 0 + i ≡ i = omega arith in
    subst (λ (n : ℕ). at (answers k ss us a b) n ≡ answer k us a b (answers k ss us a b) (step_at ss i)) e (run_at k us a b ss [] i h less)

formed_from : (k : Kind) (n : ℕ) (ss : List LaneStep) (i : ℕ) → IsTrue (are_formed k n ss) → i < length ss → IsTrue (is_formed k (n + i) (step_at ss i))
formed_from k n [] i h less = absurd (omega (arith, less))
formed_from k n (s ∷ ss) zero h less = let e : n ≡ n + 0 = omega arith in subst (λ (m : ℕ). IsTrue (is_formed k m s)) e (left_of (is_formed k n s) _ h)
formed_from k n (s ∷ ss) (suc i) h less =
    let e : suc n + i ≡ n + suc i = omega arith in
    subst (λ (m : ℕ). IsTrue (is_formed k m (step_at ss i))) e (formed_from k (suc n) ss i (right_of (is_formed k n s) _ h) (omega (arith, less)))

pub formed_at : (k : Kind) (ss : List LaneStep) (i : ℕ) → IsTrue (are_formed k 0 ss) → i < length ss → IsTrue (is_formed k i (step_at ss i))
formed_at k ss i h less = let e : 0 + i ≡ i = omega arith in subst (λ (m : ℕ). IsTrue (is_formed k m (step_at ss i))) e (formed_from k 0 ss i h less)

-- ---- what is made of answers

pub two_answers : (g : ℤ → ℤ → ℤ) (k : Kind) (ss : List LaneStep) (us cs ds room xs ys zs : List ℤ) (n count i j : ℕ) → AreAnswered k ss us cs ds room n count → i < n → j < n
    → ArePart (block_at ss us cs ds room i) xs count → ArePart (block_at ss us cs ds room j) ys count → AreTwo g xs ys zs count
    → ArePart (λ r. g (at (answers_at k ss us cs ds r) i) (at (answers_at k ss us cs ds r) j)) zs count
two_answers g k ss us cs ds room xs ys zs n count i j h p q x y z = record {
  each = λ r less.
      z.each r less
      ∙ ap (λ (u : ℤ). g u (at ys r)) (x.each r less ∙ h.each i p r less)
      ∙ ap (g (at (answers_at k ss us cs ds r) i)) (y.each r less ∙ h.each j q r less);
}

pub not_answers : (k : Kind) (ss : List LaneStep) (us cs ds room xs zs : List ℤ) (n count i : ℕ) → AreAnswered k ss us cs ds room n count → i < n
    → ArePart (block_at ss us cs ds room i) xs count → AreOne (λ x. truth (not (is_true x))) xs zs count → IsAnswered k ss us cs ds (steps.Not i) zs count
not_answers k ss us cs ds room xs zs n count i h p x z = record {
  each = λ r less. z.each r less ∙ ap (λ (u : ℤ). truth (not (is_true u))) (x.each r less ∙ h.each i p r less);
}

pub chosen_answers : (k : Kind) (ss : List LaneStep) (us cs ds room ts xs ys zs : List ℤ) (n count t i j : ℕ) → AreAnswered k ss us cs ds room n count → t < n → i < n → j < n
    → ArePart (block_at ss us cs ds room t) ts count → ArePart (block_at ss us cs ds room i) xs count → ArePart (block_at ss us cs ds room j) ys count → AreThree ts xs ys zs count → IsAnswered k ss us cs ds (steps.Select t i j) zs count
chosen_answers k ss us cs ds room ts xs ys zs n count t i j h o p q c x y z = record {
  each = λ r less.
      z.each r less
      ∙ ap (λ (u : ℤ). if is_true u then at xs r else at ys r) (c.each r less ∙ h.each t o r less)
      ∙ ap (λ (u : ℤ). if is_true (at (answers_at k ss us cs ds r) t) then u else at ys r) (x.each r less ∙ h.each i p r less)
      ∙ ap (λ (u : ℤ). if is_true (at (answers_at k ss us cs ds r) t) then at (answers_at k ss us cs ds r) i else u) (y.each r less ∙ h.each j q r less);
}

-- ---- one more step

pub front : {T : Type 0} (f : T → ℤ) (xs ys : List T) (m : ℕ) → m < length xs → at (map f (xs ++ ys)) m ≡ at (map f xs) m
front f xs ys m less =
    let long : length (map f xs) ≡ length xs = length-map xs f in
    ap (λ (zs : List ℤ). at zs m) (map-append f xs ys) ∙ get_or_append_left (map f xs) (map f ys) (pos 0) m (omega (arith, long))

pub back : {T : Type 0} (f : T → ℤ) (xs ys : List T) (n m : ℕ) → length xs ≡ n → at (map f (xs ++ ys)) (n + m) ≡ at (map f ys) m
back f xs ys n m e =
    let long : n ≡ length (map f xs) = sym (length-map xs f ∙ e) in
    ap (λ (zs : List ℤ). at zs (n + m)) (map-append f xs ys) ∙ ap (λ (i : ℕ). at (map f xs ++ map f ys) (i + m)) long ∙ get_or-append-add (map f xs) (map f ys) m (pos 0)

-- the answers of the next step stand behind those of the others
pub one_more : {T : Type 0} (f : T → ℤ) (k : Kind) (ss : List LaneStep) (us cs ds : List ℤ) (flat before rest new after : List T) (n count : ℕ) → IsTrue (are_formed k 0 ss) → n < length ss → count ≤ 512
    → length before ≡ n * 512 → count ≤ length new → flat ≡ before ++ rest → after ≡ before ++ new → AreAnswered k ss us cs ds (map f flat) n count → IsAnswered k ss us cs ds (step_at ss n) (map f new) count
    → AreAnswered k ss us cs ds (map f after) (n + 1) count
one_more {T} f k ss us cs ds flat before rest new after n count formed there small long wide was is h z = record { each = each }
  where
    each : (i : ℕ) → i < n + 1 → (j : ℕ) → j < count → block_at ss us cs ds (map f after) i j ≡ at (answers_at k ss us cs ds j) i
    each i less j lower = by (cases_lt i n)
      where
        by : (i < n) ⊎ (n ≤ i) → block_at ss us cs ds (map f after) i j ≡ at (answers_at k ss us cs ds j) i
        by (inl low) =
            let within : i * 512 + j < length before = omega arith in
            ap (kept_at us (step_at ss i) (at cs j) (at ds j))
            (ap (λ (zs : List T). at (map f zs) (i * 512 + j)) is ∙ front f before new (i * 512 + j) within ∙ sym (front f before rest (i * 512 + j) within) ∙ ap (λ (zs : List T). at (map f zs) (i * 512 + j)) (sym was))
            ∙ h.each i low j lower
        by (inr high) =
            let same : i ≡ n = omega arith in
            ap (λ (m : ℕ). block_at ss us cs ds (map f after) m j) same
            ∙ ap (kept_at us (step_at ss n) (at cs j) (at ds j)) (ap (λ (zs : List T). at (map f zs) (n * 512 + j)) is ∙ back f before new (n * 512) j long)
            ∙ z.each j lower
            ∙ sym (answers_is k ss us (at cs j) (at ds j) n formed there)
            ∙ ap (at (answers_at k ss us cs ds j)) (sym same)

-- what is written before others is still answered
pub answered_front : {T : Type 0} (f : T → ℤ) (k : Kind) (ss : List LaneStep) (us cs ds : List ℤ) (s : LaneStep) (xs ys : List T) (n : ℕ) → length xs ≡ n → IsAnswered k ss us cs ds s (map f xs) n → IsAnswered k ss us cs ds s (map f (xs ++ ys)) n
answered_front f k ss us cs ds s xs ys n long h = record {
  each = λ j less. ap (kept_at us s (at cs j) (at ds j)) (front f xs ys j (omega (arith, long))) ∙ h.each j less;
}
