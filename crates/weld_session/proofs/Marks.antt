-- What is marked as reached in a script is what is reached.
use Rattle.std.proofs.Common.{◌≡◌, ℕ, zero, suc, ◌+◌, ◌<◌, ◌≤◌, ◌==◌, ◌||◌, Bool, true, false, if◌then◌else◌, List, [], ◌∷◌, ◌++◌, length, Some, slice_get, refl, ap, sym, ◌∙◌, subst, inl, inr, ◌⊎◌, arith, eqb-true, eq-eqb}
use Rattle.weld_tree.specs.TypeTree.{TypeTree}
use Rattle.weld_tree.specs.Program.{IsOneOf}
use Rattle.weld_objects.specs.Reached.{is_one_of}
use Rattle.weld_script.specs.declared.made.Made.{Made}
use Rattle.weld_script.specs.declared.made.Made.TheVariants as makes
use Rattle.weld_script.specs.Script.{AreBelow, AreMade, made_type}
use Rattle.weld_session.specs.Answer.{IsMadeOn, IsReached, is_shown, is_used, with_used, reached_from, reached}

-- ---- one of these

or_left : (a b : Bool) → a ≡ true → (a || b) ≡ true
or_left true b e = refl
or_left false b e = let no : ⊥ = cc in absurd no

or_right : (a b : Bool) → b ≡ true → (a || b) ≡ true
or_right true b e = refl
or_right false b e = e

either : (a b : Bool) → (a || b) ≡ true → (a ≡ true) ⊎ (b ≡ true)
either true b e = inl refl
either false b e = inr e

one_of_true : (ts : List ℕ) (s : ℕ) → IsOneOf ts s → is_one_of ts s ≡ true
one_of_true [] s h = absurd h
one_of_true (t ∷ ts) s (inl e) = or_left (s == t) (is_one_of ts s) (eq-eqb s t e)
one_of_true (t ∷ ts) s (inr h) = or_right (s == t) (is_one_of ts s) (one_of_true ts s h)

true_one_of : (ts : List ℕ) (s : ℕ) → is_one_of ts s ≡ true → IsOneOf ts s
true_one_of [] s e = let no : ⊥ = cc in absurd no
true_one_of (t ∷ ts) s e = by (true_one_of ts s) (either (s == t) (is_one_of ts s) e)
  where
    by : (is_one_of ts s ≡ true → IsOneOf ts s) → ((s == t) ≡ true) ⊎ (is_one_of ts s ≡ true) → (s ≡ t) ⊎ IsOneOf ts s
    by later (inl p) = inl (eqb-true s t p)
    by later (inr p) = inr (later p)

-- ---- marks

-- what the one marks the other marks
record Within (first second : ℕ → Bool) : Type 0 where
  within : (k : ℕ) → first k ≡ true → second k ≡ true

used_within : (id : ℕ) (m : Made) (marks : ℕ → Bool) → Within marks (with_used id m marks)
used_within id (makes.Declared d) marks = record { within = λ k e. e }
used_within id (makes.Literal l x) marks = record { within = λ k e. e }
used_within id (makes.Call c ids) marks = record { within = λ k e. by k e (marks id) }
  where
    by : (k : ℕ) → marks k ≡ true → (b : Bool) → (if b then is_one_of ids k || marks k else marks k) ≡ true
    by k e true = or_right (is_one_of ids k) (marks k) e
    by k e false = e

marks_stay : (id : ℕ) (ms : List Made) (marks : ℕ → Bool) → Within marks (reached_from id ms marks)
marks_stay id [] marks = record { within = λ k e. e }
marks_stay id (m ∷ ms) marks = record { within = λ k e. (used_within id m (reached_from (suc id) ms marks)).within k ((marks_stay (suc id) ms marks).within k e) }

one_below : (n : ℕ) (ids : List ℕ) (k : ℕ) → AreBelow n ids → IsOneOf ids k → k < n
one_below n [] k h i = absurd i
one_below n (j ∷ ids) k h (inl e) = omega (arith, e, h.0)
one_below n (j ∷ ids) k h (inr i) = one_below n ids k h.1 i

-- each of these is kept
abbrev AllKept : (ℕ → Bool) → List ℕ → Type 0
AllKept keep [] = Unit {0}
AllKept keep (id ∷ ids) = (keep id ≡ true) × AllKept keep ids

-- with a call that is kept are those that it is made on
abbrev IsClosedFrom : (ℕ → Bool) → ℕ → List Made → Type 0
IsClosedFrom keep id [] = Unit {0}
IsClosedFrom keep id (makes.Declared d ∷ ms) = IsClosedFrom keep (suc id) ms
IsClosedFrom keep id (makes.Literal l x ∷ ms) = IsClosedFrom keep (suc id) ms
IsClosedFrom keep id (makes.Call c ids ∷ ms) = (keep id ≡ true → AllKept keep ids) × IsClosedFrom keep (suc id) ms

-- the calls are made on objects before them
abbrev AreBehind : ℕ → List Made → Type 0
AreBehind id [] = Unit {0}
AreBehind id (makes.Declared d ∷ ms) = AreBehind (suc id) ms
AreBehind id (makes.Literal l x ∷ ms) = AreBehind (suc id) ms
AreBehind id (makes.Call c ids ∷ ms) = AreBelow id ids × AreBehind (suc id) ms

type_more : (ts : List TypeTree) (t : TypeTree) (id : ℕ) → length ts ≡ id → length (ts ++ t ∷ []) ≡ suc id
type_more [] t id e = omega (arith, e)
type_more (u ∷ ts) t zero e = absurd (omega (arith, e))
type_more (u ∷ ts) t (suc id) e = let further = type_more ts t id (omega (arith, e)) in omega (arith, further)

behind : (id : ℕ) (ts : List TypeTree) (ms : List Made) → length ts ≡ id → AreMade ts ms → AreBehind id ms
behind id ts [] e h = tt
behind id ts (makes.Declared d ∷ ms) e h = behind (suc id) (ts ++ made_type ts (makes.Declared d) ∷ []) ms (type_more ts (made_type ts (makes.Declared d)) id e) h.1
behind id ts (makes.Literal l x ∷ ms) e h = behind (suc id) (ts ++ made_type ts (makes.Literal l x) ∷ []) ms (type_more ts (made_type ts (makes.Literal l x)) id e) h.1
behind id ts (makes.Call c ids ∷ ms) e h =
    (subst (λ n. AreBelow n ids) e h.0.before, behind (suc id) (ts ++ made_type ts (makes.Call c ids) ∷ []) ms (type_more ts (made_type ts (makes.Call c ids)) id e) h.1)

-- of later objects a call marks none
used_later : (id : ℕ) (ids : List ℕ) (marks : ℕ → Bool) (k : ℕ) → AreBelow id ids → id ≤ k → (if marks id then is_one_of ids k || marks k else marks k) ≡ true → marks k ≡ true
used_later id ids marks k below h e = by (marks id) e
  where
    one : (is_one_of ids k ≡ true) ⊎ (marks k ≡ true) → marks k ≡ true
    one (inl q) = absurd (omega (arith, h, one_below id ids k below (true_one_of ids k q)))
    one (inr q) = q

    by : (b : Bool) → (if b then is_one_of ids k || marks k else marks k) ≡ true → marks k ≡ true
    by true q = one (either (is_one_of ids k) (marks k) q)
    by false q = q

more_kept : (first second : ℕ → Bool) (ids : List ℕ) → Within first second → AllKept first ids → AllKept second ids
more_kept first second [] w a = tt
more_kept first second (k ∷ ids) w a = (w.within k a.0, more_kept first second ids w a.1)

closed_more : (first second : ℕ → Bool) (id : ℕ) (ms : List Made) → Within first second → ((k : ℕ) → id ≤ k → second k ≡ true → first k ≡ true) → IsClosedFrom first id ms → IsClosedFrom second id ms
closed_more first second id [] w back h = tt
closed_more first second id (makes.Declared d ∷ ms) w back h = closed_more first second (suc id) ms w (λ k q. back k (omega (arith, q))) h
closed_more first second id (makes.Literal l x ∷ ms) w back h = closed_more first second (suc id) ms w (λ k q. back k (omega (arith, q))) h
closed_more first second id (makes.Call c ids ∷ ms) w back h =
    ((λ on. more_kept first second ids w (h.0 (back id (omega arith) on))), closed_more first second (suc id) ms w (λ k q. back k (omega (arith, q))) h.1)

all_one_of : (all ids : List ℕ) → ((k : ℕ) → IsOneOf ids k → IsOneOf all k) → (keep : ℕ → Bool) → ((k : ℕ) → is_one_of all k ≡ true → keep k ≡ true) → AllKept keep ids
all_one_of all [] i keep q = tt
all_one_of all (k ∷ ids) i keep q = (q k (one_of_true all k (i k (inl refl))), all_one_of all ids (λ j h. i j (inr h)) keep q)

-- a call that is marked marks those that it is made on
marks_own : (id : ℕ) (ids : List ℕ) (marks : ℕ → Bool) (b : Bool) → marks id ≡ b → b ≡ true → AllKept (λ k. if marks id then is_one_of ids k || marks k else marks k) ids
marks_own id ids marks true e q =
    all_one_of ids ids (λ k h. h) (λ k. if marks id then is_one_of ids k || marks k else marks k) (λ k h. (λ i. if e i then is_one_of ids k || marks k else marks k) ∙ or_left (is_one_of ids k) (marks k) h)
marks_own id ids marks false e q = let no : ⊥ = cc in absurd no

reached_closed : (id : ℕ) (ms : List Made) (marks : ℕ → Bool) → AreBehind id ms → IsClosedFrom (reached_from id ms marks) id ms
reached_closed id [] marks are = tt
reached_closed id (makes.Declared d ∷ ms) marks are = reached_closed (suc id) ms marks are
reached_closed id (makes.Literal l x ∷ ms) marks are = reached_closed (suc id) ms marks are
reached_closed id (makes.Call c ids ∷ ms) marks are =
    let later = reached_from (suc id) ms marks in
    let now = with_used id (makes.Call c ids) later in (
      (λ on. marks_own id ids later (later id) refl (used_later id ids later id are.0 (omega arith) on)),
      closed_more later now (suc id) ms (used_within id (makes.Call c ids) later) (λ k h. used_later id ids later k are.0 (omega (arith, h))) (reached_closed (suc id) ms marks are.1),
    )

-- ---- both ways

record Suffix (whole : List Made) (id : ℕ) (ms : List Made) : Type 0 where
  at : (j : ℕ) → slice_get whole (id + j) ≡ slice_get ms j

suffix_here : (whole : List Made) (id : ℕ) (m : Made) (ms : List Made) → Suffix whole id (m ∷ ms) → slice_get whole id ≡ Some m
suffix_here whole id m ms s = let e : id ≡ id + 0 = omega arith in ap (slice_get whole) e ∙ s.at 0

suffix_next : (whole : List Made) (id : ℕ) (m : Made) (ms : List Made) → Suffix whole id (m ∷ ms) → Suffix whole (suc id) ms
suffix_next whole id m ms s = record { at = λ j. let e : suc id + j ≡ id + suc j = omega arith in ap (slice_get whole) e ∙ s.at (suc j) }

sound : (whole : List Made) (shown : List ℕ) (id : ℕ) (ms : List Made) (marks : ℕ → Bool) → Suffix whole id ms → ((k : ℕ) → marks k ≡ true → IsReached whole shown k) → (k : ℕ) → reached_from id ms marks k ≡ true → IsReached whole shown k
sound whole shown id [] marks s m k e = m k e
sound whole shown id (makes.Declared d ∷ ms) marks s m k e = sound whole shown (suc id) ms marks (suffix_next whole id (makes.Declared d) ms s) m k e
sound whole shown id (makes.Literal l x ∷ ms) marks s m k e = sound whole shown (suc id) ms marks (suffix_next whole id (makes.Literal l x) ms s) m k e
sound whole shown id (makes.Call c ids ∷ ms) marks s m k e = by (sound whole shown (suc id) ms marks (suffix_next whole id (makes.Call c ids) ms s) m) (later id) refl e
  where
    later : ℕ → Bool
    later = reached_from (suc id) ms marks

    one : ((j : ℕ) → later j ≡ true → IsReached whole shown j) → later id ≡ true → (is_one_of ids k ≡ true) ⊎ (later k ≡ true) → IsReached whole shown k
    one rest on (inl q) = is_used id k (rest id on) (subst (λ o. IsMadeOn o k) (sym (suffix_here whole id (makes.Call c ids) ms s)) (true_one_of ids k q))
    one rest on (inr q) = rest k q

    by : ((j : ℕ) → later j ≡ true → IsReached whole shown j) → (b : Bool) → later id ≡ b → (if b then is_one_of ids k || later k else later k) ≡ true → IsReached whole shown k
    by rest true on q = one rest on (either (is_one_of ids k) (later k) q)
    by rest false off q = rest k q

pub is_reached : (ms : List Made) (shown : List ℕ) (k : ℕ) → reached ms shown k ≡ true → IsReached ms shown k
is_reached ms shown k e = sound ms shown 0 ms (is_one_of shown) (record { at = λ j. let e : 0 + j ≡ j = omega arith in ap (slice_get ms) e }) (λ j q. is_shown j (true_one_of shown j q)) k e

kept_at : (keep : ℕ → Bool) (ids : List ℕ) (k : ℕ) → AllKept keep ids → IsOneOf ids k → keep k ≡ true
kept_at keep [] k a i = absurd i
kept_at keep (j ∷ ids) k a (inl e) = ap keep e ∙ a.0
kept_at keep (j ∷ ids) k a (inr i) = kept_at keep ids k a.1 i

closed_at : (keep : ℕ → Bool) (id j : ℕ) (ms : List Made) (k : ℕ) → IsClosedFrom keep id ms → keep (id + j) ≡ true → IsMadeOn (slice_get ms j) k → keep k ≡ true
closed_at keep id j [] k c on m = absurd m
closed_at keep id zero (makes.Declared d ∷ ms) k c on m = absurd m
closed_at keep id zero (makes.Literal l x ∷ ms) k c on m = absurd m
closed_at keep id zero (makes.Call call ids ∷ ms) k c on m = let e : id ≡ id + 0 = omega arith in kept_at keep ids k (c.0 (ap keep e ∙ on)) m
closed_at keep id (suc j) (makes.Declared d ∷ ms) k c on m = let e : suc id + j ≡ id + suc j = omega arith in closed_at keep (suc id) j ms k c (ap keep e ∙ on) m
closed_at keep id (suc j) (makes.Literal l x ∷ ms) k c on m = let e : suc id + j ≡ id + suc j = omega arith in closed_at keep (suc id) j ms k c (ap keep e ∙ on) m
closed_at keep id (suc j) (makes.Call call ids ∷ ms) k c on m = let e : suc id + j ≡ id + suc j = omega arith in closed_at keep (suc id) j ms k c.1 (ap keep e ∙ on) m

pub reached_is : (ms : List Made) (shown : List ℕ) (k : ℕ) → AreMade [] ms → IsReached ms shown k → reached ms shown k ≡ true
reached_is ms shown k are (is_shown id i) = (marks_stay 0 ms (is_one_of shown)).within id (one_of_true shown id i)
reached_is ms shown k are (is_used id used r m) =
    let e : 0 + id ≡ id = omega arith in
    closed_at (reached ms shown) 0 id ms used (reached_closed 0 ms (is_one_of shown) (behind 0 [] ms refl are)) (ap (reached ms shown) e ∙ reached_is ms shown id are r) m
