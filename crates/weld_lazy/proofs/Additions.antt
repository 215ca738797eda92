-- The checks of a call, place by place.
use Rattle.std.proofs.Common.{◌≡◌, ◌≢◌, ℕ, zero, suc, ◌+◌, ◌<◌, ◌≤◌, List, [], ◌∷◌, ◌++◌, length, map, take, drop, get_or, Option, Some, None, option_map, is_some, Bool, true, false, slice_get, Bor, refl, ap, sym, subst, ◌∙◌, arith}
use Rattle.std.proofs.lemmas.List.{length-map, get_or-map}
use Rattle.weld_tree.specs.TypeTree.{TypeTree}
use Rattle.weld_tree.specs.declared.binder.Binder.{Binder}
use Rattle.weld_meaning.specs.Typing.{ParamFits, ParamsFit}
use Rattle.weld_objects.specs.Objects as objects
use Rattle.weld_objects.specs.Objects.{type_at, DepsFit}
use Rattle.weld_objects.specs.Additions.{unless_there, first_unknown, FirstMismatch}
use Rattle.weld_lazy.specs.View.{view_ids, MismatchSays, MismatchIs}
use Rattle.weld_lazy.specs.declared.fault.LazyFault.{LazyFault}
use Rattle.weld_lazy.specs.declared.fault.LazyFault.TheVariants.{Unknown, Count, Mismatch, Memory}
use Rattle.weld_lazy.specs.declared.ids.ObjectId.{ObjectId}

-- ---- places

drop_at : {A : Type 0} (xs : List A) (i : ℕ) (d : A) → i < length xs → drop i xs ≡ get_or xs i d ∷ drop (suc i) xs
drop_at [] i d h = absurd (omega (arith, h))
drop_at (x ∷ xs) zero d h = refl
drop_at (x ∷ xs) (suc i) d h = drop_at xs i d (omega (arith, h))

drop_end : {A : Type 0} (xs : List A) (i : ℕ) → length xs ≤ i → drop i xs ≡ []
drop_end [] zero h = refl
drop_end [] (suc i) h = refl
drop_end (x ∷ xs) zero h = absurd (omega (arith, h))
drop_end (x ∷ xs) (suc i) h = drop_end xs i (omega (arith, h))

-- what is left fits, or differs at a place, as the whole does
pub record FitsSoFar (os : List objects.Object) (ids : List ℕ) (bs : List Binder) (i : ℕ) : Type 0 where
  pub fits : DepsFit (type_at os) (drop i ids) (drop i bs) → DepsFit (type_at os) ids bs
  pub differs : (m : ℕ) (e f : TypeTree) → FirstMismatch os (drop i ids) (drop i bs) m e f → FirstMismatch os ids bs (i + m) e f

pub at_start : (os : List objects.Object) (ids : List ℕ) (bs : List Binder) → FitsSoFar os ids bs 0
at_start os ids bs = record { fits = λ h. h; differs = λ m e f h. let z : m ≡ 0 + m = omega arith in subst (λ k. FirstMismatch os ids bs k e f) z h }

pub one_fits : (os : List objects.Object) (ids : List ℕ) (bs : List Binder) (i j d : ℕ) (b : Binder) → i + 1 ≡ j → i < length ids → i < length bs → type_at os (get_or ids i d) ≡ (get_or bs i b).note → FitsSoFar os ids bs i → FitsSoFar os ids bs j
one_fits os ids bs i j d b step h k e s =
    let z : suc i ≡ j = omega (arith, step) in
    let left = drop_at ids i d h in let right = drop_at bs i b k in
    subst (FitsSoFar os ids bs) z (record {
      fits = λ q. s.fits (subst (λ (xs : List ℕ). DepsFit (type_at os) xs (drop i bs)) (sym left) (subst (λ (ys : List Binder). DepsFit (type_at os) (get_or ids i d ∷ drop (suc i) ids) ys) (sym right) (e, q)));
      differs = λ m x y q.
          let w : i + suc m ≡ suc i + m = omega arith in
          subst (λ n. FirstMismatch os ids bs n x y) w
          (s.differs (suc m) x y (subst (λ (xs : List ℕ). FirstMismatch os xs (drop i bs) (suc m) x y) (sym left) (subst (λ (ys : List Binder). FirstMismatch os (get_or ids i d ∷ drop (suc i) ids) ys (suc m) x y) (sym right) (e, q))));
    })

pub one_differs : (os : List objects.Object) (ids : List ℕ) (bs : List Binder) (i d : ℕ) (b : Binder) (e f : TypeTree) → i < length ids → i < length bs → (get_or bs i b).note ≡ Some e → type_at os (get_or ids i d) ≡ Some f → e ≢ f → FitsSoFar os ids bs i → FirstMismatch os ids bs i e f
one_differs os ids bs i d b e f h k p q ne s =
    let z : i + 0 ≡ i = omega arith in
    subst (λ n. FirstMismatch os ids bs n e f) z
    (s.differs 0 e f (subst (λ (xs : List ℕ). FirstMismatch os xs (drop i bs) 0 e f) (sym (drop_at ids i d h)) (subst (λ (ys : List Binder). FirstMismatch os (get_or ids i d ∷ drop (suc i) ids) ys 0 e f) (sym (drop_at bs i b k)) (p, q, ne))))

pub all_fit : (os : List objects.Object) (ids : List ℕ) (bs : List Binder) (i : ℕ) → length ids ≤ i → length bs ≤ i → FitsSoFar os ids bs i → DepsFit (type_at os) ids bs
all_fit os ids bs i h k s = s.fits (subst (λ (xs : List ℕ). DepsFit (type_at os) xs (drop i bs)) (sym (drop_end ids i h)) (subst (λ (ys : List Binder). DepsFit (type_at os) [] ys) (sym (drop_end bs i k)) tt))

-- ---- ids

pub known_next : (os : List objects.Object) (ids : List ObjectId) (i : ℕ) (d : ObjectId) (t : TypeTree) → i < length ids → type_at os (get_or ids i d).0 ≡ Some t → first_unknown os (view_ids (drop i ids)) ≡ first_unknown os (view_ids (drop (suc i) ids))
known_next os ids i d t h e = ap (λ (xs : List ObjectId). first_unknown os (view_ids xs)) (drop_at ids i d h) ∙ (λ k. unless_there (e k) (get_or ids i d).0 (first_unknown os (view_ids (drop (suc i) ids))))

pub unknown_here : (os : List objects.Object) (ids : List ObjectId) (i : ℕ) (d : ObjectId) → i < length ids → type_at os (get_or ids i d).0 ≡ None → first_unknown os (view_ids (drop i ids)) ≡ Some (get_or ids i d).0
unknown_here os ids i d h e = ap (λ (xs : List ObjectId). first_unknown os (view_ids xs)) (drop_at ids i d h) ∙ (λ k. unless_there (e k) (get_or ids i d).0 (first_unknown os (view_ids (drop (suc i) ids))))

pub noted_at : (bs : List Binder) (i : ℕ) (d : Binder) → ParamsFit bs → i < length bs → (get_or bs i d).note ≡ None → ⊥
noted_at [] i d h k e = absurd (omega (arith, k))
noted_at (b ∷ bs) zero d h k e = no_note b.note h.0 e
  where
    no_note : (m : Option TypeTree) → ParamFits m → m ≡ None → ⊥
    no_note None f p = f
    no_note (Some t) f p = let no : ⊥ = cc in no
noted_at (b ∷ bs) (suc i) d h k e = noted_at bs i d h.1 (omega (arith, k)) e

rest_known : (m : Option TypeTree) (id : ℕ) (later : Option ℕ) → unless_there m id later ≡ None → (m ≡ None → ⊥) × (later ≡ None)
rest_known None id later e = let no : ⊥ = cc in absurd no
rest_known (Some t) id later e = ((λ p. let no : ⊥ = cc in no), e)

pub known_at : (os : List objects.Object) (ids : List ObjectId) (i : ℕ) (d : ObjectId) → first_unknown os (view_ids ids) ≡ None → i < length ids → type_at os (get_or ids i d).0 ≡ None → ⊥
known_at os [] i d h k e = absurd (omega (arith, k))
known_at os (x ∷ xs) zero d h k e = (rest_known (type_at os x.0) x.0 (first_unknown os (view_ids xs)) h).0 e
known_at os (x ∷ xs) (suc i) d h k e = known_at os xs i d (rest_known (type_at os x.0) x.0 (first_unknown os (view_ids xs)) h).1 (omega (arith, k)) e

-- ---- in the code's ids

pub dep_fits : (os : List objects.Object) (ids : List ObjectId) (bs : List Binder) (i : ℕ) (d : ObjectId) (b : Binder) (t e : TypeTree) (m : Option TypeTree) → i < length ids → length bs ≡ length ids → m ≡ Some t → m ≡ type_at os (get_or ids i d).0 → t ≡ e → (get_or bs i b).note ≡ Some e → FitsSoFar os (view_ids ids) bs i → FitsSoFar os (view_ids ids) bs (i + 1)
dep_fits os ids bs i d b t e m h n p q same note s =
    let l : length (view_ids ids) ≡ length ids = length-map ids (λ (id : ObjectId). id.0) in
    let at : get_or (view_ids ids) i d.0 ≡ (get_or ids i d).0 = get_or-map (λ (id : ObjectId). id.0) ids i d d.0 h in
    one_fits os (view_ids ids) bs i (i + 1) d.0 b refl (omega (arith, l, h)) (omega (arith, n, h)) (ap (type_at os) at ∙ sym q ∙ p ∙ ap Some same ∙ sym note) s

pub dep_differs : (os : List objects.Object) (ids : List ObjectId) (bs : List Binder) (i : ℕ) (d : ObjectId) (b : Binder) (t e : TypeTree) (m : Option TypeTree) (r : LazyFault) → i < length ids → length bs ≡ length ids → m ≡ Some t → m ≡ type_at os (get_or ids i d).0 → (t ≡ e → ⊥) → (get_or bs i b).note ≡ Some e → FitsSoFar os (view_ids ids) bs i → MismatchIs r i e t → MismatchSays r os (view_ids ids) bs
dep_differs os ids bs i d b t e m (Unknown id) h n p q ne note s r = absurd r
dep_differs os ids bs i d b t e m (Count w k) h n p q ne note s r = absurd r
dep_differs os ids bs i d b t e m (Mismatch place expected found) h n p q ne note s r =
    let l : length (view_ids ids) ≡ length ids = length-map ids (λ (id : ObjectId). id.0) in
    let at : get_or (view_ids ids) i d.0 ≡ (get_or ids i d).0 = get_or-map (λ (id : ObjectId). id.0) ids i d d.0 h in
    let here : FirstMismatch os (view_ids ids) bs i e t = one_differs os (view_ids ids) bs i d.0 b e t (omega (arith, l, h)) (omega (arith, n, h)) note (ap (type_at os) at ∙ sym q ∙ p) (λ x. ne (sym x)) s in
    subst (λ (k : ℕ). FirstMismatch os (view_ids ids) bs k expected found) (sym r.0) (subst (λ (u : TypeTree). FirstMismatch os (view_ids ids) bs i u found) (sym r.1) (subst (λ (u : TypeTree). FirstMismatch os (view_ids ids) bs i e u) (sym r.2) here))
dep_differs os ids bs i d b t e m Memory h n p q ne note s r = tt

-- what stands behind an option of a reference
pub now_of : (m : Option (Bor TypeTree)) (x : Bor TypeTree) → m ≡ Some x → option_map (λ (t : Bor TypeTree). t.now) m ≡ Some x.now
now_of m x e = ap (option_map (λ (t : Bor TypeTree). t.now)) e

pub none_of : (m : Option (Bor TypeTree)) → m ≡ None → option_map (λ (t : Bor TypeTree). t.now) m ≡ None
none_of m e = ap (option_map (λ (t : Bor TypeTree). t.now)) e

pub not_some : (m : Option (Bor TypeTree)) → is_some m ≡ false → option_map (λ (t : Bor TypeTree). t.now) m ≡ None
not_some (Some x) e = let no : ⊥ = cc in absurd no
not_some None e = refl

pub clash : (b : Bool) → b ≡ true → b ≡ false → ⊥
clash b h e = let no : ⊥ = cc in no
