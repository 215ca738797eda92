-- What is marked as reached is what is reached.
use Rattle.std.proofs.Common.{◌≡◌, ℕ, zero, suc, ◌+◌, ◌<◌, ◌≤◌, ◌==◌, ◌||◌, Bool, true, false, if◌then◌else◌, List, [], ◌∷◌, length, Option, Some, None, slice_get, refl, ap, sym, subst, ◌∙◌, inl, inr, ◌⊎◌, arith, eqb-true, eq-eqb}
use Rattle.weld_tree.specs.declared.binder.Binder.{Binder}
use Rattle.weld_tree.specs.TypeTree.{TypeTree}
use Rattle.weld_tree.specs.Program.{IsOneOf}
use Rattle.weld_meaning.specs.Typing.{ParamFits, ParamsFit}
use Rattle.weld_objects.specs.Objects.{Object, given, call, type_of, with_one, DepsFit, AreObjectsFrom, AreObjects, AreBefore}
use Rattle.weld_objects.specs.Reached.{IsMadeOn, IsReached, is_shown, is_used, is_one_of, with_used, reached_from, reached}
use Rattle.weld_objects.proofs.State.{Early, early_next, AllKept, IsClosedFrom}

-- ---- one of these

or_left : (a b : Bool) → a ≡ true → (a || b) ≡ true
or_left true b e = refl
or_left false b e = let no : ⊥ = cc in absurd no

or_right : (a b : Bool) → b ≡ true → (a || b) ≡ true
or_right true b e = refl
or_right false b e = e

either : (a b : Bool) → (a || b) ≡ true → (a ≡ true) ⊎ (b ≡ true)
either true b e = inl refl
either false b e = inr e

pub one_of_true : (ts : List ℕ) (s : ℕ) → IsOneOf ts s → is_one_of ts s ≡ true
one_of_true [] s h = absurd h
one_of_true (t ∷ ts) s (inl e) = or_left (s == t) (is_one_of ts s) (eq-eqb s t e)
one_of_true (t ∷ ts) s (inr h) = or_right (s == t) (is_one_of ts s) (one_of_true ts s h)

pub true_one_of : (ts : List ℕ) (s : ℕ) → is_one_of ts s ≡ true → IsOneOf ts s
true_one_of [] s e = let no : ⊥ = cc in absurd no
true_one_of (t ∷ ts) s e = by (true_one_of ts s) (either (s == t) (is_one_of ts s) e)
  where
    by : (is_one_of ts s ≡ true → IsOneOf ts s) → ((s == t) ≡ true) ⊎ (is_one_of ts s ≡ true) → (s ≡ t) ⊎ IsOneOf ts s
    by later (inl p) = inl (eqb-true s t p)
    by later (inr p) = inr (later p)

-- ---- marks

-- what the one marks the other marks
pub record Within (first second : ℕ → Bool) : Type 0 where
  pub within : (k : ℕ) → first k ≡ true → second k ≡ true

used_within : (id : ℕ) (o : Object) (marks : ℕ → Bool) → Within marks (with_used id o marks)
used_within id (given t v) marks = record { within = λ k e. e }
used_within id (call t ids p) marks = record { within = λ k e. by k e (marks id) }
  where
    by : (k : ℕ) → marks k ≡ true → (c : Bool) → (if c then is_one_of ids k || marks k else marks k) ≡ true
    by k e true = or_right (is_one_of ids k) (marks k) e
    by k e false = e

pub marks_stay : (id : ℕ) (os : List Object) (marks : ℕ → Bool) → Within marks (reached_from id os marks)
marks_stay id [] marks = record { within = λ k e. e }
marks_stay id (o ∷ os) marks = record { within = λ k e. (used_within id o (reached_from (suc id) os marks)).within k ((marks_stay (suc id) os marks).within k e) }

-- a call is made on objects before it
note_is : (m : Option TypeTree) → ParamFits m → (t : TypeTree) × (m ≡ Some t)
note_is (Some t) h = (t, refl)
note_is None h = absurd h

pub deps_before : (id : ℕ) (types : ℕ → Option TypeTree) (ids : List ℕ) (bs : List Binder) → DepsFit types ids bs → ParamsFit bs → Early id types → AreBefore id ids
deps_before id types [] bs h fit early = tt
deps_before id types (k ∷ ids) [] h fit early = absurd h
deps_before id types (k ∷ ids) (b ∷ bs) h fit early =
    let note = note_is b.note fit.0 in (early.early k note.0 (h.0 ∙ note.1), deps_before id types ids bs h.1 fit.1 early)

pub one_before : (id : ℕ) (ids : List ℕ) (k : ℕ) → AreBefore id ids → IsOneOf ids k → k < id
one_before id [] k h i = absurd i
one_before id (j ∷ ids) k h (inl e) = omega (arith, e, h.0)
one_before id (j ∷ ids) k h (inr i) = one_before id ids k h.1 i

-- of later objects a call marks none
used_later : (id : ℕ) (o : Object) (types : ℕ → Option TypeTree) (os : List Object) (marks : ℕ → Bool) (k : ℕ) → AreObjectsFrom id types (o ∷ os) → Early id types → id ≤ k → with_used id o marks k ≡ true → marks k ≡ true
used_later id (given t v) types os marks k are early h e = e
used_later id (call t ids p) types os marks k are early h e = by (marks id) e
  where
    one : (is_one_of ids k ≡ true) ⊎ (marks k ≡ true) → marks k ≡ true
    one (inl q) = absurd (omega (arith, h, one_before id ids k (deps_before id types ids p.params are.0.fits are.0.typed.params early) (true_one_of ids k q)))
    one (inr q) = q

    by : (c : Bool) → (if c then is_one_of ids k || marks k else marks k) ≡ true → marks k ≡ true
    by true q = one (either (is_one_of ids k) (marks k) q)
    by false q = q

closed_more : (first second : ℕ → Bool) (id : ℕ) (os : List Object) → Within first second → ((k : ℕ) → id ≤ k → second k ≡ true → first k ≡ true) → IsClosedFrom first id os → IsClosedFrom second id os
closed_more first second id [] w back h = tt
closed_more first second id (given t v ∷ os) w back h = closed_more first second (suc id) os w (λ k q. back k (omega (arith, q))) h
closed_more first second id (call t ids p ∷ os) w back h =
    ((λ on. more ids (h.0 (back id (omega arith) on))), closed_more first second (suc id) os w (λ k q. back k (omega (arith, q))) h.1)
  where
    more : (ks : List ℕ) → AllKept first ks → AllKept second ks
    more [] a = tt
    more (k ∷ ks) a = (w.within k a.0, more ks a.1)

all_one_of : (all ids : List ℕ) → ((k : ℕ) → IsOneOf ids k → IsOneOf all k) → (keep : ℕ → Bool) → ((k : ℕ) → is_one_of all k ≡ true → keep k ≡ true) → AllKept keep ids
all_one_of all [] i keep q = tt
all_one_of all (k ∷ ids) i keep q = (q k (one_of_true all k (i k (inl refl))), all_one_of all ids (λ j h. i j (inr h)) keep q)

-- with a call that is marked, those that it is made on are marked
pub reached_closed : (id : ℕ) (os : List Object) (types : ℕ → Option TypeTree) (marks : ℕ → Bool) → AreObjectsFrom id types os → Early id types → IsClosedFrom (reached_from id os marks) id os
reached_closed id [] types marks are early = tt
reached_closed id (given t v ∷ os) types marks are early = reached_closed (suc id) os (with_one id (Some t) types) marks are.1 (early_next id t types early)
reached_closed id (call t ids p ∷ os) types marks are early =
    let later = reached_from (suc id) os marks in
    let now = with_used id (call t ids p) later in (
      (λ on. by (later id) refl (used_later id (call t ids p) types os later id are early (omega arith) on)),
      closed_more later now (suc id) os (used_within id (call t ids p) later) (λ k h. used_later id (call t ids p) types os later k are early (omega (arith, h)))
          (reached_closed (suc id) os (with_one id (Some t) types) marks are.1 (early_next id t types early)),
    )
  where
    by : (c : Bool) → reached_from (suc id) os marks id ≡ c → c ≡ true → AllKept (with_used id (call t ids p) (reached_from (suc id) os marks)) ids
    by true e q = all_one_of ids ids (λ k h. h) (with_used id (call t ids p) (reached_from (suc id) os marks)) (λ k h. (λ i. if e i then is_one_of ids k || reached_from (suc id) os marks k else reached_from (suc id) os marks k) ∙ or_left (is_one_of ids k) (reached_from (suc id) os marks k) h)
    by false e q = let no : ⊥ = cc in absurd no

-- ---- both ways

record Suffix (whole : List Object) (id : ℕ) (os : List Object) : Type 0 where
  at : (j : ℕ) → slice_get whole (id + j) ≡ slice_get os j

suffix_here : (whole : List Object) (id : ℕ) (o : Object) (os : List Object) → Suffix whole id (o ∷ os) → slice_get whole id ≡ Some o
suffix_here whole id o os s = let e : id ≡ id + 0 = omega arith in ap (slice_get whole) e ∙ s.at 0

suffix_next : (whole : List Object) (id : ℕ) (o : Object) (os : List Object) → Suffix whole id (o ∷ os) → Suffix whole (suc id) os
suffix_next whole id o os s = record { at = λ j. let e : suc id + j ≡ id + suc j = omega arith in ap (slice_get whole) e ∙ s.at (suc j) }

sound : (whole : List Object) (shown : List ℕ) (id : ℕ) (os : List Object) (marks : ℕ → Bool) → Suffix whole id os → ((k : ℕ) → marks k ≡ true → IsReached whole shown k) → (k : ℕ) → reached_from id os marks k ≡ true → IsReached whole shown k
sound whole shown id [] marks s m k e = m k e
sound whole shown id (given t v ∷ os) marks s m k e = sound whole shown (suc id) os marks (suffix_next whole id (given t v) os s) m k e
sound whole shown id (call t ids p ∷ os) marks s m k e = by (sound whole shown (suc id) os marks (suffix_next whole id (call t ids p) os s) m) (later id) refl e
  where
    later : ℕ → Bool
    later = reached_from (suc id) os marks

    one : ((j : ℕ) → later j ≡ true → IsReached whole shown j) → later id ≡ true → (is_one_of ids k ≡ true) ⊎ (later k ≡ true) → IsReached whole shown k
    one rest on (inl q) = is_used id k (rest id on) (subst (λ o. IsMadeOn o k) (sym (suffix_here whole id (call t ids p) os s)) (true_one_of ids k q))
    one rest on (inr q) = rest k q

    by : ((j : ℕ) → later j ≡ true → IsReached whole shown j) → (c : Bool) → later id ≡ c → (if c then is_one_of ids k || later k else later k) ≡ true → IsReached whole shown k
    by rest true on q = one rest on (either (is_one_of ids k) (later k) q)
    by rest false off q = rest k q

pub is_reached : (os : List Object) (shown : List ℕ) (k : ℕ) → reached os shown k ≡ true → IsReached os shown k
is_reached os shown k e = sound os shown 0 os (is_one_of shown) (record { at = λ j. let e : 0 + j ≡ j = omega arith in ap (slice_get os) e }) (λ j q. is_shown j (true_one_of shown j q)) k e

kept_at : (keep : ℕ → Bool) (ids : List ℕ) (k : ℕ) → AllKept keep ids → IsOneOf ids k → keep k ≡ true
kept_at keep [] k a i = absurd i
kept_at keep (j ∷ ids) k a (inl e) = ap keep e ∙ a.0
kept_at keep (j ∷ ids) k a (inr i) = kept_at keep ids k a.1 i

closed_at : (keep : ℕ → Bool) (id j : ℕ) (os : List Object) (k : ℕ) → IsClosedFrom keep id os → keep (id + j) ≡ true → IsMadeOn (slice_get os j) k → keep k ≡ true
closed_at keep id j [] k c on m = absurd m
closed_at keep id zero (given t v ∷ os) k c on m = absurd m
closed_at keep id zero (call t ids p ∷ os) k c on m = let e : id ≡ id + 0 = omega arith in kept_at keep ids k (c.0 (ap keep e ∙ on)) m
closed_at keep id (suc j) (given t v ∷ os) k c on m = let e : suc id + j ≡ id + suc j = omega arith in closed_at keep (suc id) j os k c (ap keep e ∙ on) m
closed_at keep id (suc j) (call t ids p ∷ os) k c on m = let e : suc id + j ≡ id + suc j = omega arith in closed_at keep (suc id) j os k c.1 (ap keep e ∙ on) m

pub none_known : Early {A = TypeTree} 0 (λ id. None)
none_known = record { early = λ k t e. let no : ⊥ = cc in absurd no }

pub closed : (os : List Object) (shown : List ℕ) → AreObjects os → IsClosedFrom (reached os shown) 0 os
closed os shown are = reached_closed 0 os (λ id. None) (is_one_of shown) are none_known

pub shown_kept : (os : List Object) (shown : List ℕ) → AllKept (reached os shown) shown
shown_kept os shown = all_one_of shown shown (λ k h. h) (reached os shown) (λ k h. (marks_stay 0 os (is_one_of shown)).within k h)

pub reached_is : (os : List Object) (shown : List ℕ) (k : ℕ) → AreObjects os → IsReached os shown k → reached os shown k ≡ true
reached_is os shown k are (is_shown id i) = (marks_stay 0 os (is_one_of shown)).within id (one_of_true shown id i)
reached_is os shown k are (is_used id used r m) =
    let e : 0 + id ≡ id = omega arith in closed_at (reached os shown) 0 id os used (closed os shown are) (ap (reached os shown) e ∙ reached_is os shown id are r) m

-- ---- what is reached is there

made_on_before : (id j : ℕ) (types : ℕ → Option TypeTree) (os : List Object) (k : ℕ) → AreObjectsFrom id types os → Early id types → IsMadeOn (slice_get os j) k → (k < id + j) × (j < length os)
made_on_before id j types [] k are early m = absurd m
made_on_before id zero types (given t v ∷ os) k are early m = absurd m
made_on_before id zero types (call t ids p ∷ os) k are early m =
    let h = one_before id ids k (deps_before id types ids p.params are.0.fits are.0.typed.params early) m in (omega (arith, h), omega arith)
made_on_before id (suc j) types (o ∷ os) k are early m =
    let rest = made_on_before (suc id) j (with_one id (Some (type_of o)) types) os k are.1 (early_next id (type_of o) types early) m in
    (omega (arith, rest.0), omega (arith, rest.1))

pub reached_there : (os : List Object) (shown : List ℕ) (k : ℕ) → AreObjects os → AreBefore (length os) shown → IsReached os shown k → k < length os
reached_there os shown k are there (is_shown id i) = one_before (length os) shown id there i
reached_there os shown k are there (is_used id used r m) =
    let h = made_on_before 0 id (λ j. None) os used are none_known m in omega (arith, h.0, h.1)
