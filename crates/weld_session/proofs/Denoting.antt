-- What an object that is a call comes to, by what its own objects come to.
use Rattle.std.proofs.Common.{◌≡◌, ℕ, zero, suc, ◌+◌, ◌<◌, List, [], ◌∷◌, map, Option, Some, None, slice_get, refl, ap, sym, subst, ◌∙◌, arith}
use Rattle.weld_data.specs.Value.{Value}
use Rattle.weld_tree.specs.declared.binder.Binder.{Binder}
use Rattle.weld_tree.specs.TypeTree.{TypeTree}
use Rattle.weld_tree.specs.Program.{ProgramTree}
use Rattle.weld_tree.specs.HasValue.{HasValue}
use Rattle.weld_builders.specs.Outcome.{Outcome, done, fault, stuck, and_then, map_out}
use Rattle.weld_meaning.specs.Typing.{ParamFits, ParamsFit, noted_type}
use Rattle.weld_meaning.specs.Meaning.{GivesOrFaults, ArgumentsFit, meaning}
use Rattle.weld_objects.specs.Objects.{Object, call, type_of, type_at, with_one, all_done, answer, answers, denote, DepsFit, IsCall, IsObject, AreObjectsFrom, AreObjects}
use Rattle.weld_objects.proofs.State.{one_here, one_else, below_is_else, Early, early_next}
use Rattle.weld_objects.proofs.Rules.{types_from}
use Rattle.weld_objects.proofs.Growing.{types_are}

note_is : (m : Option TypeTree) → ParamFits m → (t : TypeTree) × (m ≡ Some t)
note_is (Some t) h = (t, refl)
note_is None h = absurd h

-- what is known of earlier ids stays
answers_before : (id : ℕ) (os : List Object) (known : ℕ → Outcome Value) (k : ℕ) → k < id → answers id os known k ≡ known k
answers_before id [] known k h = refl
answers_before id (o ∷ os) known k h =
    answers_before (suc id) os (with_one id (answer known o) known) k (omega (arith, h)) ∙ one_else id (answer known o) known k (below_is_else k id h)

types_before : (id : ℕ) (os : List Object) (types : ℕ → Option TypeTree) (k : ℕ) → k < id → types_from id os types k ≡ types k
types_before id [] types k h = refl
types_before id (o ∷ os) types k h = types_before (suc id) os (with_one id (Some (type_of o)) types) k (omega (arith, h)) ∙ one_else id (Some (type_of o)) types k (below_is_else k id h)

-- on ids that are known, what agrees on earlier ids is the same
same_before : (f g : ℕ → Outcome Value) (id : ℕ) (types : ℕ → Option TypeTree) (ids : List ℕ) (bs : List Binder) → DepsFit types ids bs → ParamsFit bs → Early id types → ((k : ℕ) → k < id → f k ≡ g k) → map f ids ≡ map g ids
same_before f g id types [] [] h fit early same = refl
same_before f g id types [] (b ∷ bs) h fit early same = absurd h
same_before f g id types (k ∷ ids) [] h fit early same = absurd h
same_before f g id types (k ∷ ids) (b ∷ bs) h fit early same =
    let note = note_is b.note fit.0 in
    λ i. same k (early.early k note.0 (h.0 ∙ note.1)) i ∷ same_before f g id types ids bs h.1 fit.1 early same i

fits_later : (id : ℕ) (os : List Object) (types : ℕ → Option TypeTree) (ids : List ℕ) (bs : List Binder) → DepsFit types ids bs → ParamsFit bs → Early id types → DepsFit (types_from id os types) ids bs
fits_later id os types [] [] h fit early = tt
fits_later id os types [] (b ∷ bs) h fit early = absurd h
fits_later id os types (k ∷ ids) [] h fit early = absurd h
fits_later id os types (k ∷ ids) (b ∷ bs) h fit early =
    let note = note_is b.note fit.0 in
    (types_before id os types k (early.early k note.0 (h.0 ∙ note.1)) ∙ h.0, fits_later id os types ids bs h.1 fit.1 early)

-- what a call comes to, and that its parameters are of its objects' types
record IsMeant (id : ℕ) (os : List Object) (known : ℕ → Outcome Value) (types : ℕ → Option TypeTree) (place : ℕ) (ids : List ℕ) (p : ProgramTree) : Type 0 where
  comes : answers id os known place ≡ and_then (all_done (map (answers id os known) ids)) (meaning p)
  fits : DepsFit (types_from id os types) ids p.params
  params : ParamsFit p.params

meant_here : (id : ℕ) (os : List Object) (known : ℕ → Outcome Value) (types : ℕ → Option TypeTree) (t : TypeTree) (ids : List ℕ) (p : ProgramTree) → IsCall types t ids p → Early id types → IsMeant id (call t ids p ∷ os) known types (id + 0) ids p
meant_here id os known types t ids p h early =
    let e : id + 0 ≡ id = omega arith in
    let next = with_one id (answer known (call t ids p)) known in
    record {
      comes = ap (answers (suc id) os next) e ∙ answers_before (suc id) os next id (omega arith) ∙ one_here id (answer known (call t ids p)) known
          ∙ ap (λ vs. and_then (all_done vs) (meaning p)) (sym (same_before (answers (suc id) os next) known id types ids p.params h.fits h.typed.params early (λ k b. answers_before (suc id) os next k (omega (arith, b)) ∙ one_else id (answer known (call t ids p)) known k (below_is_else k id b))));
      fits = fits_later id (call t ids p ∷ os) types ids p.params h.fits h.typed.params early;
      params = h.typed.params;
    }

meant : (id : ℕ) (os : List Object) (known : ℕ → Outcome Value) (types : ℕ → Option TypeTree) (j : ℕ) (t : TypeTree) (ids : List ℕ) (p : ProgramTree) → AreObjectsFrom id types os → Early id types → slice_get os j ≡ Some (call t ids p) → IsMeant id os known types (id + j) ids p
meant id [] known types j t ids p are early e = let no : ⊥ = cc in absurd no
meant id (o ∷ os) known types zero t ids p are early e =
    let same : o ≡ call t ids p = cc in
    subst (λ x. IsMeant id (x ∷ os) known types (id + 0) ids p) (sym same) (meant_here id os known types t ids p (subst (IsObject types) same are.0) early)
meant id (o ∷ os) known types (suc j) t ids p are early e =
    let further : suc id + j ≡ id + suc j = omega arith in
    let m = meant (suc id) os (with_one id (answer known o) known) (with_one id (Some (type_of o)) types) j t ids p are.1 (early_next id (type_of o) types early) e in
    subst (λ n. IsMeant id (o ∷ os) known types n ids p) further (record { comes = m.comes; fits = m.fits; params = m.params })

-- ---- arguments

gives_then : {A B : Type 0} (P : A → Type 0) (Q : B → Type 0) (o : Outcome A) (f : A → Outcome B) → GivesOrFaults P o → ((x : A) → P x → GivesOrFaults Q (f x)) → GivesOrFaults Q (and_then o f)
gives_then P Q (done x) f h k = k x h
gives_then P Q fault f h k = tt
gives_then P Q stuck f h k = absurd h

gives_map : {A B : Type 0} (P : A → Type 0) (Q : B → Type 0) (o : Outcome A) (f : A → B) → GivesOrFaults P o → ((x : A) → P x → Q (f x)) → GivesOrFaults Q (map_out f o)
gives_map P Q (done x) f h k = k x h
gives_map P Q fault f h k = tt
gives_map P Q stuck f h k = absurd h

arguments_fit : (known : ℕ → Outcome Value) (types : ℕ → Option TypeTree) (ids : List ℕ) (bs : List Binder) → DepsFit types ids bs → ParamsFit bs → ((k : ℕ) (t : TypeTree) → types k ≡ Some t → GivesOrFaults (HasValue t) (known k)) → GivesOrFaults (ArgumentsFit bs) (all_done (map known ids))
arguments_fit known types [] [] h fit s = tt
arguments_fit known types [] (b ∷ bs) h fit s = absurd h
arguments_fit known types (id ∷ ids) [] h fit s = absurd h
arguments_fit known types (id ∷ ids) (b ∷ bs) h fit s =
    let note = note_is b.note fit.0 in
    let same : note.0 ≡ noted_type b.note = ap noted_type (sym note.1) in
    gives_then (HasValue note.0) (ArgumentsFit (b ∷ bs)) (known id) (λ x. map_out (λ xs. x ∷ xs) (all_done (map known ids))) (s id note.0 (h.0 ∙ note.1))
    (λ x p. gives_map (ArgumentsFit bs) (ArgumentsFit (b ∷ bs)) (all_done (map known ids)) (λ xs. x ∷ xs) (arguments_fit known types ids bs h.1 fit.1 s) (λ xs q. (subst (λ t. HasValue t x) same p, q)))

same_on : {A B : Type 0} (P : A → Type 0) (o : Outcome A) (f g : A → Outcome B) → GivesOrFaults P o → ((x : A) → P x → f x ≡ g x) → and_then o f ≡ and_then o g
same_on P (done x) f g h k = k x h
same_on P fault f g h k = refl
same_on P stuck f g h k = absurd h

-- ---- the whole

pub call_denotes : (os : List Object) (id : ℕ) (t : TypeTree) (ids : List ℕ) (p : ProgramTree) (list_meaning : List Value → Outcome Value) → AreObjects os → ((k : ℕ) (u : TypeTree) → type_at os k ≡ Some u → GivesOrFaults (HasValue u) (denote os k))
    → slice_get os id ≡ Some (call t ids p) → ((vs : List Value) → ArgumentsFit p.params vs → meaning p vs ≡ list_meaning vs) → denote os id ≡ and_then (all_done (map (denote os) ids)) list_meaning
call_denotes os id t ids p list_meaning are sound e law =
    let none : Early {A = TypeTree} 0 (λ k. None) = record { early = λ k u q. let no : ⊥ = cc in absurd no } in
    let m = meant 0 os (λ k. stuck) (λ k. None) id t ids p are none e in
    let here : 0 + id ≡ id = omega arith in
    ap (denote os) (sym here) ∙ m.comes
    ∙ same_on (ArgumentsFit p.params) (all_done (map (denote os) ids)) (meaning p) list_meaning
    (arguments_fit (denote os) (type_at os) ids p.params (subst (λ ts. DepsFit ts ids p.params) (types_are os) m.fits) m.params sound) law
