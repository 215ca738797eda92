-- The types of objects, and lists of objects that one is added to.
use Rattle.std.proofs.Common.{◌≡◌, ℕ, zero, suc, ◌+◌, ◌<◌, ◌≤◌, List, [], ◌∷◌, ◌++◌, length, Option, Some, None, refl, ap, sym, subst, ◌∙◌, arith}
use Rattle.weld_tree.specs.declared.binder.Binder.{Binder}
use Rattle.weld_tree.specs.TypeTree.{TypeTree}
use Rattle.weld_meaning.specs.Typing.{ParamFits, ParamsFit}
use Rattle.weld_objects.specs.Objects.{Object, type_of, type_at, with_one, DepsFit, IsObject, AreObjectsFrom, AreObjects}
use Rattle.weld_objects.specs.Additions.{CallFault, unknown, count, mismatch, unless_there, first_unknown, FirstMismatch, IsRefused, MayBeAdded}
use Rattle.weld_objects.proofs.State.{one_here, one_else, below_is_else, Early, early_next}
use Rattle.weld_objects.proofs.Rules.{types_from}

types_before : (id : ℕ) (os : List Object) (types : ℕ → Option TypeTree) (k : ℕ) → k < id → types_from id os types k ≡ types k
types_before id [] types k h = refl
types_before id (o ∷ os) types k h = types_before (suc id) os (with_one id (Some (type_of o)) types) k (omega (arith, h)) ∙ one_else id (Some (type_of o)) types k (below_is_else k id h)

not_early : (id : ℕ) (types : ℕ → Option TypeTree) (k : ℕ) → Early id types → id ≤ k → types k ≡ None
not_early id types k early h = by (types k) refl
  where
    by : (m : Option TypeTree) → types k ≡ m → m ≡ None
    by None e = refl
    by (Some t) e = absurd (omega (arith, h, early.early k t e))

types_at : (id : ℕ) (os : List Object) (types : ℕ → Option TypeTree) (j : ℕ) → Early id types → types_from id os types (id + j) ≡ type_at os j
types_at id [] types j early = not_early id types (id + j) early (omega arith)
types_at id (o ∷ os) types zero early =
    let e : id + 0 ≡ id = omega arith in
    ap (types_from (suc id) os (with_one id (Some (type_of o)) types)) e ∙ types_before (suc id) os (with_one id (Some (type_of o)) types) id (omega arith) ∙ one_here id (Some (type_of o)) types
types_at id (o ∷ os) types (suc j) early =
    let e : id + suc j ≡ suc id + j = omega arith in
    ap (types_from (suc id) os (with_one id (Some (type_of o)) types)) e ∙ types_at (suc id) os (with_one id (Some (type_of o)) types) j (early_next id (type_of o) types early)

pub types_are : (os : List Object) → types_from 0 os (λ id. None) ≡ type_at os
types_are os = λ i k. at k i
  where
    none_known : Early {A = TypeTree} 0 (λ id. None)
    none_known = record { early = λ k t e. let no : ⊥ = cc in absurd no }

    at : (k : ℕ) → types_from 0 os (λ id. None) k ≡ type_at os k
    at k = let e : k ≡ 0 + k = omega arith in ap (types_from 0 os (λ id. None)) e ∙ types_at 0 os (λ id. None) k none_known

grown : (id : ℕ) (types : ℕ → Option TypeTree) (os : List Object) (o : Object) → AreObjectsFrom id types os → IsObject (types_from id os types) o → AreObjectsFrom id types (os ++ o ∷ [])
grown id types [] o are h = (h, tt)
grown id types (a ∷ os) o are h = (are.0, grown (suc id) (with_one id (Some (type_of a)) types) os o are.1 h)

pub objects_grow : (os : List Object) (o : Object) → AreObjects os → IsObject (type_at os) o → AreObjects (os ++ o ∷ [])
objects_grow os o are h = grown 0 (λ id. None) os o are (subst (λ types. IsObject types o) (sym (types_are os)) h)

-- ---- refusals

note_is : (m : Option TypeTree) → ParamFits m → (t : TypeTree) × (m ≡ Some t)
note_is (Some t) h = (t, refl)
note_is None h = absurd h

fits_known : (os : List Object) (ids : List ℕ) (bs : List Binder) → ParamsFit bs → MayBeAdded os ids bs → first_unknown os ids ≡ None
fits_known os [] bs fit h = refl
fits_known os (id ∷ ids) [] fit h = absurd h
fits_known os (id ∷ ids) (b ∷ bs) fit h =
    let note = note_is b.note fit.0 in
    (λ i. unless_there ((h.0 ∙ note.1) i) id (first_unknown os ids)) ∙ fits_known os ids bs fit.1 h.1

fits_count : (types : ℕ → Option TypeTree) (ids : List ℕ) (bs : List Binder) → DepsFit types ids bs → length bs ≡ length ids
fits_count types [] [] h = refl
fits_count types [] (b ∷ bs) h = absurd h
fits_count types (id ∷ ids) [] h = absurd h
fits_count types (id ∷ ids) (b ∷ bs) h = ap suc (fits_count types ids bs h.1)

some_is : (m : Option TypeTree) (t u : TypeTree) → m ≡ Some t → m ≡ Some u → t ≡ u
some_is m t u p q = let e : ◌≡◌ {A = Option TypeTree} (Some t) (Some u) = sym p ∙ q in cc

fits_alike : (os : List Object) (ids : List ℕ) (bs : List Binder) (place : ℕ) (expected found : TypeTree) → MayBeAdded os ids bs → FirstMismatch os ids bs place expected found → ⊥
fits_alike os [] bs place expected found h m = m
fits_alike os (id ∷ ids) [] place expected found h m = m
fits_alike os (id ∷ ids) (b ∷ bs) zero expected found h m = m.2 (some_is (type_at os id) expected found (h.0 ∙ m.0) m.1)
fits_alike os (id ∷ ids) (b ∷ bs) (suc place) expected found h m = fits_alike os ids bs place expected found h.1 m.1

pub fits_or_refused : (os : List Object) (ids : List ℕ) (bs : List Binder) (f : CallFault) → ParamsFit bs → MayBeAdded os ids bs → IsRefused os ids bs f → ⊥
fits_or_refused os ids bs (unknown id) fit h r = let e = fits_known os ids bs fit h in let no : ⊥ = cc in no
fits_or_refused os ids bs (count wanted given_count) fit h r = r.3 (r.1 ∙ fits_count (type_at os) ids bs h ∙ sym r.2)
fits_or_refused os ids bs (mismatch place expected found) fit h r = fits_alike os ids bs place expected found h r.2

one_mismatch : (os : List Object) (ids : List ℕ) (bs : List Binder) (m n : ℕ) (e f g h : TypeTree) → FirstMismatch os ids bs m e f → FirstMismatch os ids bs n g h → mismatch m e f ≡ mismatch n g h
one_mismatch os [] bs m n e f g h p q = absurd p
one_mismatch os (id ∷ ids) [] m n e f g h p q = absurd p
one_mismatch os (id ∷ ids) (b ∷ bs) zero zero e f g h p q = λ i. mismatch 0 (some_is b.note e g p.0 q.0 i) (some_is (type_at os id) f h p.1 q.1 i)
one_mismatch os (id ∷ ids) (b ∷ bs) zero (suc n) e f g h p q = absurd (p.2 (some_is (type_at os id) e f (q.0 ∙ p.0) p.1))
one_mismatch os (id ∷ ids) (b ∷ bs) (suc m) zero e f g h p q = absurd (q.2 (some_is (type_at os id) g h (p.0 ∙ q.0) q.1))
one_mismatch os (id ∷ ids) (b ∷ bs) (suc m) (suc n) e f g h p q = ap further (one_mismatch os ids bs m n e f g h p.1 q.1)
  where
    further : CallFault → CallFault
    further (unknown k) = unknown k
    further (count w k) = count w k
    further (mismatch k a b) = mismatch (suc k) a b

pub one_refusal : (os : List Object) (ids : List ℕ) (bs : List Binder) (f g : CallFault) → IsRefused os ids bs f → IsRefused os ids bs g → f ≡ g
one_refusal os ids bs (unknown a) (unknown b) p q = let e : ◌≡◌ {A = Option ℕ} (Some a) (Some b) = sym p ∙ q in let same : a ≡ b = cc in ap unknown same
one_refusal os ids bs (unknown a) (count w k) p q = let e = q.0 in let no : ⊥ = cc in absurd no
one_refusal os ids bs (unknown a) (mismatch m e f) p q = let d = q.0 in let no : ⊥ = cc in absurd no
one_refusal os ids bs (count w k) (unknown b) p q = let e = p.0 in let no : ⊥ = cc in absurd no
one_refusal os ids bs (count w k) (count u j) p q = λ i. count ((p.1 ∙ sym q.1) i) ((p.2 ∙ sym q.2) i)
one_refusal os ids bs (count w k) (mismatch m e f) p q = absurd (p.3 (p.1 ∙ q.1 ∙ sym p.2))
one_refusal os ids bs (mismatch m e f) (unknown b) p q = let d = p.0 in let no : ⊥ = cc in absurd no
one_refusal os ids bs (mismatch m e f) (count u j) p q = absurd (q.3 (q.1 ∙ p.1 ∙ sym q.2))
one_refusal os ids bs (mismatch m e f) (mismatch n g h) p q = one_mismatch os ids bs m n e f g h p.2 q.2
