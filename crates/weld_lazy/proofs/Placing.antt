-- The numbers of a call's parameters and binders, put into a map from the last to the first.
use Rattle.std.proofs.Common.{◌≡◌, ◌≢◌, ℕ, zero, suc, ◌+◌, ◌-◌, ◌<◌, ◌≤◌, ◌==◌, Bool, true, false, if◌then◌else◌, List, [], ◌∷◌, ◌++◌, length, map, drop, get_or, Option, Some, None, Result, Ok, Err, IfOk, unwrap_or, refl, ap, sym, subst, ◌∙◌, inl, inr, ◌⊎◌, arith, eq-eqb, ne_eqb}
use Rattle.std.proofs.lemmas.Bool.{cases_eq}
use Rattle.std.proofs.lemmas.List.{length-map, get_or-map}
use Rattle.weld_tree.specs.declared.binder.Binder.{Binder}
use Rattle.std.specs.declared.alloc.AllocError.{AllocError}
use Rattle.weld_tree.specs.ExprTree.{ExprTree}
use Rattle.weld_tree.specs.Program.{ProgramTree, bound, IsProgram, IsOneOf, syms_of}
use Rattle.weld_tree.specs.Blank.{distance}
use Rattle.weld_meaning.specs.Environment.{Named, look_for}
use Rattle.weld_objects.specs.Renamed.{renamed, AgreeAt, ScopeAgrees}
use Rattle.weld_objects.specs.Numbering.{number_in}
use Rattle.weld_objects.proofs.Trees.{agreeing}
use Rattle.weld_objects.specs.Lowered.{placed, placed_body}
use Rattle.weld_objects.proofs.Lists.{binds_all}
use Rattle.weld_lazy.specs.Lowering.{param_number, binder_number}

drop_at : {A : Type 0} (xs : List A) (i : ℕ) (d : A) → i < length xs → drop i xs ≡ get_or xs i d ∷ drop (suc i) xs
drop_at [] i d h = absurd (omega (arith, h))
drop_at (x ∷ xs) zero d h = refl
drop_at (x ∷ xs) (suc i) d h = drop_at xs i d (omega (arith, h))

drop_end : {A : Type 0} (xs : List A) (i : ℕ) → length xs ≤ i → drop i xs ≡ []
drop_end [] zero h = refl
drop_end [] (suc i) h = refl
drop_end (x ∷ xs) zero h = absurd (omega (arith, h))
drop_end (x ∷ xs) (suc i) h = drop_end xs i (omega (arith, h))

-- ---- binders

pub binders_end : (base : ℕ) (ts : List ℕ) (m : Named ℕ) → m ≡ [] → (s : ℕ) → look_for s m ≡ binder_number (base + length ts) (drop (length ts) ts) s
binders_end base ts m e s = (λ i. look_for s (e i)) ∙ (λ i. binder_number (base + length ts) (sym (drop_end ts (length ts) (omega arith)) i) s)

pub one_binder : (base : ℕ) (ts : List ℕ) (place before t n d : ℕ) (old new : Named ℕ) → place < length ts → before ≡ suc place → t ≡ get_or ts place d → n ≡ base + place
    → ((s : ℕ) → look_for s old ≡ binder_number (base + before) (drop before ts) s) → ((s : ℕ) → look_for s new ≡ (if s == t then Some n else look_for s old))
    → (s : ℕ) → look_for s new ≡ binder_number (base + place) (drop place ts) s
one_binder base ts place before t n d old new h b e m was step s =
    let z : base + suc place ≡ suc (base + place) = omega arith in
    step s ∙ (λ i. if s == e i then Some (m i) else was s i) ∙ (λ i. if s == get_or ts place d then Some (base + place) else binder_number (base + b i) (drop (b i) ts) s)
    ∙ (λ i. if s == get_or ts place d then Some (base + place) else binder_number (z i) (drop (suc place) ts) s)
    ∙ (λ i. binder_number (base + place) (sym (drop_at ts place d h) i) s)

-- ---- parameters

pub params_end : (bs : List Binder) (ns : List ℕ) (s : ℕ) (later : Option ℕ) → later ≡ param_number (drop (length bs) bs) ns s later
params_end bs ns s later = λ i. param_number (sym (drop_end bs (length bs) (omega arith)) i) ns s later

pub one_param : (bs : List Binder) (ids : List ℕ) (numbers : ℕ → ℕ) (place before t n d : ℕ) (b : Binder) (first old new : Named ℕ) → place < length bs → length bs ≡ length ids → before ≡ suc place → t ≡ (get_or bs place b).sym.0 → n ≡ numbers (get_or ids place d)
    → ((s : ℕ) → look_for s old ≡ param_number (drop before bs) (map numbers (drop before ids)) s (look_for s first)) → ((s : ℕ) → look_for s new ≡ (if s == t then Some n else look_for s old))
    → (s : ℕ) → look_for s new ≡ param_number (drop place bs) (map numbers (drop place ids)) s (look_for s first)
one_param bs ids numbers place before t n d b first old new h l z e m was step s =
    step s ∙ (λ i. if s == e i then Some (m i) else was s i)
    ∙ (λ i. if s == (get_or bs place b).sym.0 then Some (numbers (get_or ids place d)) else param_number (drop (z i) bs) (map numbers (drop (z i) ids)) s (look_for s first))
    ∙ (λ i. param_number (sym (drop_at bs place b h) i) (map numbers (sym (drop_at ids place d (omega (arith, h, l))) i)) s (look_for s first))

-- ---- the whole map

binder_is : (base : ℕ) (ts : List ℕ) (s : ℕ) → IsOneOf ts s → unwrap_or (binder_number base ts s) s ≡ base + distance ts s
binder_is base [] s h = absurd h
binder_is base (t ∷ ts) s h = by (cases_eq s t) h (binder_is (suc base) ts s)
  where
    here : s ≡ t → unwrap_or (binder_number base (t ∷ ts) s) s ≡ base
    here e = rw (eq-eqb s t e) refl

    near : s ≡ t → distance (t ∷ ts) s ≡ 0
    near e = rw (eq-eqb t s (sym e)) refl

    there : s ≢ t → unwrap_or (binder_number base (t ∷ ts) s) s ≡ unwrap_or (binder_number (suc base) ts s) s
    there ne = rw (ne_eqb s t ne) refl

    far : s ≢ t → distance (t ∷ ts) s ≡ suc (distance ts s)
    far ne = rw (ne_eqb t s (λ e. ne (sym e))) refl

    by : (s ≡ t) ⊎ (s ≢ t) → (s ≡ t) ⊎ IsOneOf ts s → (IsOneOf ts s → unwrap_or (binder_number (suc base) ts s) s ≡ suc base + distance ts s) → unwrap_or (binder_number base (t ∷ ts) s) s ≡ base + distance (t ∷ ts) s
    by (inl e) k later = let a = here e in let b = near e in omega (arith, a, b)
    by (inr ne) (inl e) later = absurd (ne e)
    by (inr ne) (inr k) later = let a = there ne in let b = far ne in let c = later k in omega (arith, a, b, c)

param_is : (base : ℕ) (bs : List Binder) (ns binders : List ℕ) (s : ℕ) (later : Option ℕ) → length bs ≡ length ns → IsOneOf (syms_of bs) s → unwrap_or (param_number bs ns s later) s ≡ placed base bs ns binders s
param_is base [] ns binders s later l h = absurd h
param_is base (b ∷ bs) [] binders s later l h = absurd (omega (arith, l))
param_is base (b ∷ bs) (n ∷ ns) binders s later l (inl e) = rw (eq-eqb s b.sym.0 e) refl
param_is base (b ∷ bs) (n ∷ ns) binders s later l (inr k) = by (s == b.sym.0) (param_is base bs ns binders s later (omega (arith, l)) k)
  where
    by : (c : Bool) → unwrap_or (param_number bs ns s later) s ≡ placed base bs ns binders s → unwrap_or (if c then Some n else param_number bs ns s later) s ≡ (if c then n else placed base bs ns binders s)
    by true r = refl
    by false r = r

own_is : (base : ℕ) (bs : List Binder) (ns binders : List ℕ) (s : ℕ) → IsOneOf binders s → unwrap_or (param_number bs ns s (binder_number base binders s)) s ≡ placed base bs ns binders s
own_is base [] ns binders s h = binder_is base binders s h
own_is base (b ∷ bs) [] binders s h = binder_is base binders s h
own_is base (b ∷ bs) (n ∷ ns) binders s h = by (s == b.sym.0) (own_is base bs ns binders s h)
  where
    by : (c : Bool) → unwrap_or (param_number bs ns s (binder_number base binders s)) s ≡ placed base bs ns binders s → unwrap_or (if c then Some n else param_number bs ns s (binder_number base binders s)) s ≡ (if c then n else placed base bs ns binders s)
    by true r = refl
    by false r = r

pub placed_alike : (base : ℕ) (ns : List ℕ) (p : ProgramTree) (m : Named ℕ) → IsProgram p.params p.body → length p.params ≡ length ns → ((s : ℕ) → look_for s m ≡ param_number p.params ns s (binder_number base (bound p.body) s)) → renamed (number_in m) p.body ≡ placed_body base ns p
placed_alike base ns p m program l h =
    agreeing (number_in m) (placed base p.params ns (bound p.body)) p.body (syms_of p.params)
    (record { agree = λ s k. (λ i. unwrap_or (h s i) s) ∙ param_is base p.params ns (bound p.body) s (binder_number base (bound p.body) s) l k })
    (binds_all (AgreeAt (number_in m) (placed base p.params ns (bound p.body))) p.body (λ s k. record { agree = (λ i. unwrap_or (h s i) s) ∙ own_is base p.params ns (bound p.body) s k }))
    program.scoped

pub placed_from : {B : Type 0} (plain : B → ExprTree) (base : ℕ) (ids : List ℕ) (numbers : ℕ → ℕ) (p q : ProgramTree) (bs : List Binder) (body : ExprTree) (binders : List ℕ) (first m : Named ℕ) (r : Result B AllocError) → p ≡ q → bs ≡ q.params → body ≡ q.body → IsProgram q.params q.body → length p.params ≡ length ids → binders ≡ bound p.body
    → ((s : ℕ) → look_for s first ≡ binder_number base binders s) → ((s : ℕ) → look_for s m ≡ param_number bs (map numbers ids) s (look_for s first)) → IfOk r (λ copy. plain copy ≡ renamed (number_in m) body) → IfOk r (λ copy. plain copy ≡ placed_body base (map numbers ids) p)
placed_from plain base ids numbers p q bs body binders first m (Err e) pq eb ebody program count bound_is h k copied = tt
placed_from plain base ids numbers p q bs body binders first m (Ok copy) pq eb ebody program count bound_is h k copied =
    let ns = map numbers ids in
    let l : length q.params ≡ length ns = ap (λ (x : ProgramTree). length x.params) (sym pq) ∙ count ∙ sym (length-map ids numbers) in
    copied ∙ (λ i. renamed (number_in m) (ebody i))
    ∙ placed_alike base ns q m program l (λ s. k s ∙ (λ i. param_number (eb i) ns s (h s i)) ∙ (λ i. param_number q.params ns s (binder_number base ((bound_is ∙ ap (λ (x : ProgramTree). bound x.body) pq) i) s)))
    ∙ (λ i. placed_body base ns (sym pq i))
