-- Objects are never stuck: each comes to a value of its type, or faults.
use Rattle.std.proofs.Common.{◌≡◌, ℕ, suc, ◌==◌, Bool, true, false, if◌then◌else◌, List, [], ◌∷◌, map, Option, Some, None, refl, ap, sym, subst, ◌∙◌}
use Rattle.weld_data.specs.Value.{Value}
use Rattle.weld_tree.specs.declared.binder.Binder.{Binder}
use Rattle.weld_tree.specs.TypeTree.{TypeTree}
use Rattle.weld_tree.specs.ExprTree.{ExprTree}
use Rattle.weld_tree.specs.Program.{ProgramTree}
use Rattle.weld_tree.specs.HasValue.{HasValue}
use Rattle.weld_builders.specs.Outcome.{Outcome, done, fault, stuck, and_then, map_out}
use Rattle.weld_meaning.specs.Thing.{Thing, plain}
use Rattle.weld_meaning.specs.Typing.{Types, AreFormed, ParamFits, ParamsFit, noted_type, param_types, ProgramHas, HasType}
use Rattle.weld_meaning.specs.ThingType.{HasThing, EnvFits}
use Rattle.weld_meaning.specs.Evaluation.{Env, eval}
use Rattle.weld_meaning.specs.Meaning.{GivesOrFaults, ArgumentsFit, with_arguments, meaning}
use Rattle.weld_meaning.proofs.NeverStuck.{fits_bind}
use Rattle.weld_objects.specs.Objects.{Object, given, call, type_of, type_at, with_one, all_done, answer, answers, denote, DepsFit, IsObject, AreObjectsFrom, AreObjects}
use Rattle.weld_objects.proofs.Rules.{types_from, formed_params}
use Rattle.weld_objects.proofs.Growing.{types_are}
use Rattle.weld_objects.proofs.Means.{NeverStuck}

-- what is known of typed expressions and programs
pub record Laws : Type 0 where
  pub expression : (e : ExprTree) (g : Types) (t : TypeTree) (env : Env) → HasType e g t → AreFormed g → EnvFits g env → GivesOrFaults (λ (x : Thing). HasThing x t) (eval e env)
  pub program : (p : ProgramTree) (t : TypeTree) (arguments : List Value) → ProgramHas p t → ArgumentsFit p.params arguments → GivesOrFaults (HasValue t) (meaning p arguments)

arguments_fit : (bs : List Binder) (vs : List Value) → ArgumentsFit bs vs → EnvFits (param_types bs) (with_arguments bs vs)
arguments_fit [] [] h = record { finds = λ s t e. let no : ⊥ = cc in absurd no }
arguments_fit [] (v ∷ vs) h = absurd h
arguments_fit (b ∷ bs) [] h = absurd h
arguments_fit (b ∷ bs) (v ∷ vs) h = fits_bind (param_types bs) (with_arguments bs vs) b.sym.0 (noted_type b.note) (plain v) h.0 (arguments_fit bs vs h.1)

pub never_stuck : Laws → NeverStuck
never_stuck laws = record { body = λ p t vs h fit. laws.expression p.body (param_types p.params) t (with_arguments p.params vs) h.body (formed_params p.params h.params) (arguments_fit p.params vs fit) }

gives_then : {A B : Type 0} (P : A → Type 0) (Q : B → Type 0) (o : Outcome A) (f : A → Outcome B) → GivesOrFaults P o → ((x : A) → P x → GivesOrFaults Q (f x)) → GivesOrFaults Q (and_then o f)
gives_then P Q (done x) f h k = k x h
gives_then P Q fault f h k = tt
gives_then P Q stuck f h k = absurd h

gives_map : {A B : Type 0} (P : A → Type 0) (Q : B → Type 0) (o : Outcome A) (f : A → B) → GivesOrFaults P o → ((x : A) → P x → Q (f x)) → GivesOrFaults Q (map_out f o)
gives_map P Q (done x) f h k = k x h
gives_map P Q fault f h k = tt
gives_map P Q stuck f h k = absurd h

-- what is known of typed ids isn't stuck
record Sound (known : ℕ → Outcome Value) (types : ℕ → Option TypeTree) : Type 0 where
  sound : (k : ℕ) (t : TypeTree) → types k ≡ Some t → GivesOrFaults (HasValue t) (known k)

note_is : (m : Option TypeTree) → ParamFits m → (t : TypeTree) × (m ≡ Some t)
note_is (Some t) h = (t, refl)
note_is None h = absurd h

arguments_sound : (known : ℕ → Outcome Value) (types : ℕ → Option TypeTree) (ids : List ℕ) (bs : List Binder) → DepsFit types ids bs → ParamsFit bs → Sound known types → GivesOrFaults (ArgumentsFit bs) (all_done (map known ids))
arguments_sound known types [] [] h fit s = tt
arguments_sound known types [] (b ∷ bs) h fit s = absurd h
arguments_sound known types (id ∷ ids) [] h fit s = absurd h
arguments_sound known types (id ∷ ids) (b ∷ bs) h fit s =
    let note = note_is b.note fit.0 in
    let same : note.0 ≡ noted_type b.note = ap noted_type (sym note.1) in
    gives_then (HasValue note.0) (ArgumentsFit (b ∷ bs)) (known id) (λ x. map_out (λ xs. x ∷ xs) (all_done (map known ids))) (s.sound id note.0 (h.0 ∙ note.1))
    (λ x p. gives_map (ArgumentsFit bs) (ArgumentsFit (b ∷ bs)) (all_done (map known ids)) (λ xs. x ∷ xs) (arguments_sound known types ids bs h.1 fit.1 s) (λ xs q. (subst (λ t. HasValue t x) same p, q)))

answer_sound : Laws → (known : ℕ → Outcome Value) (types : ℕ → Option TypeTree) (o : Object) → IsObject types o → Sound known types → GivesOrFaults (HasValue (type_of o)) (answer known o)
answer_sound laws known types (given t v) h s = h.fits
answer_sound laws known types (call t ids p) h s =
    gives_then (ArgumentsFit p.params) (HasValue t) (all_done (map known ids)) (meaning p) (arguments_sound known types ids p.params h.fits h.typed.params s) (λ vs q. laws.program p t vs h.typed q)

sound_next : (id : ℕ) (a : Outcome Value) (t : TypeTree) (known : ℕ → Outcome Value) (types : ℕ → Option TypeTree) → GivesOrFaults (HasValue t) a → Sound known types → Sound (with_one id a known) (with_one id (Some t) types)
sound_next id a t known types h s = record { sound = λ k u e. by k u (k == id) (s.sound k u) e }
  where
    by : (k : ℕ) (u : TypeTree) (c : Bool) → (types k ≡ Some u → GivesOrFaults (HasValue u) (known k)) → (if c then Some t else types k) ≡ Some u → GivesOrFaults (HasValue u) (if c then a else known k)
    by k u true old e = let same : t ≡ u = cc in subst (λ w. GivesOrFaults (HasValue w) a) same h
    by k u false old e = old e

answers_sound : Laws → (id : ℕ) (os : List Object) (known : ℕ → Outcome Value) (types : ℕ → Option TypeTree) → AreObjectsFrom id types os → Sound known types → Sound (answers id os known) (types_from id os types)
answers_sound laws id [] known types are s = s
answers_sound laws id (o ∷ os) known types are s =
    answers_sound laws (suc id) os (with_one id (answer known o) known) (with_one id (Some (type_of o)) types) are.1
    (sound_next id (answer known o) (type_of o) known types (answer_sound laws known types o are.0 s) s)

pub objects_sound : Laws → (os : List Object) (id : ℕ) (t : TypeTree) → AreObjects os → type_at os id ≡ Some t → GivesOrFaults (HasValue t) (denote os id)
objects_sound laws os id t are e =
    (answers_sound laws 0 os (λ k. stuck) (λ k. None) are (record { sound = λ k u q. let no : ⊥ = cc in absurd no })).sound id t ((λ i. types_are os i id) ∙ e)
