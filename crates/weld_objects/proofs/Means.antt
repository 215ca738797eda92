-- A lowered program's lets mean the objects one by one, and its body is the struct of what is shown.
use Rattle.std.proofs.Common.{◌≡◌, ℕ, suc, ◌+◌, Bool, true, false, if◌then◌else◌, List, [], ◌∷◌, map, length, Option, Some, None, refl, ap, sym, subst, ◌∙◌, arith}
use Rattle.weld_data.specs.Value.{Value, and_value, struct, values}
use Rattle.weld_tree.specs.declared.binder.Binder.{Binder}
use Rattle.weld_tree.specs.TypeTree.{TypeTree}
use Rattle.weld_tree.specs.ExprTree.{leaf, let_in, name, pack_exprs}
use Rattle.weld_tree.specs.Program.{ProgramTree, bound}
use Rattle.weld_tree.specs.Blank.{blank_at}
use Rattle.weld_tree.specs.HasValue.{HasValue}
use Rattle.weld_builders.specs.Outcome.{Outcome, done, fault, stuck, and_then, map_out}
use Rattle.weld_meaning.specs.Environment.{look_for}
use Rattle.weld_meaning.specs.Thing.{Thing, plain, Things, no_things, more_things, as_values, struct_of, struct_from}
use Rattle.weld_meaning.specs.Typing.{ParamFits, ParamsFit, noted_type, ProgramHas}
use Rattle.weld_meaning.specs.ThingType.{HasThing}
use Rattle.weld_meaning.specs.Evaluation.{Env, found, value_out, eval, eval_all}
use Rattle.weld_meaning.specs.Meaning.{GivesOrFaults, ArgumentsFit, with_arguments, meaning}
use Rattle.weld_meaning.proofs.Good.{free_value_type, value_of_thing}
use Rattle.weld_objects.proofs.Meanings.{means}
use Rattle.weld_objects.specs.Objects.{Object, given, call, with_one, all_done, answer, DepsFit, AreObjectsFrom, AreBefore}
use Rattle.weld_objects.specs.Lowered.{new_binder, placed, placed_body, shown_struct, lets}
use Rattle.weld_objects.proofs.Placing.{paired, Stand, Below, under_of, placed_moves, body_alone}
use Rattle.weld_objects.proofs.State.{one_here, one_else, below_is_else, Early, early_next, AllKept, IsClosedFrom, Standing, Ahead, Carries, standing_given, standing_skip, standing_call, ahead_call, below_call}
use Rattle.weld_objects.proofs.Rest.{rest_answer, rest_kept, rest_skipped}

-- an accepted program on arguments of its types gives a value of its type, or faults
pub record NeverStuck : Type 0 where
  pub body : (p : ProgramTree) (t : TypeTree) (vs : List Value) → ProgramHas p t → ArgumentsFit p.params vs → GivesOrFaults (λ x. HasThing x t) (eval p.body (with_arguments p.params vs))

-- what stands for an object is the value that it came to, which is of the object's type
pub record Meant (known : ℕ → Outcome Value) (types : ℕ → Option TypeTree) (k : ℕ) (x : Thing) : Type 0 where
  pub value : Value
  pub type : TypeTree
  pub is_plain : x ≡ plain value
  pub is_known : known k ≡ done value
  pub typed : types k ≡ Some type
  pub fits : HasValue type value

meant_carries : (id : ℕ) (a : Outcome Value) (t : TypeTree) (known : ℕ → Outcome Value) (types : ℕ → Option TypeTree) → Carries id (Meant known types) (Meant (with_one id a known) (with_one id (Some t) types))
meant_carries id a t known types = record {
  carries = λ k x h m. record {
    value = m.value;
    type = m.type;
    is_plain = m.is_plain;
    is_known = one_else id a known k (below_is_else k id h) ∙ m.is_known;
    typed = one_else id (Some t) types k (below_is_else k id h) ∙ m.typed;
    fits = m.fits;
  };
}

meant_new : (id : ℕ) (v : Value) (a : Outcome Value) (t : TypeTree) (known : ℕ → Outcome Value) (types : ℕ → Option TypeTree) → a ≡ done v → HasValue t v → Meant (with_one id a known) (with_one id (Some t) types) id (plain v)
meant_new id v a t known types e h =
    record { value = v; type = t; is_plain = refl; is_known = one_here id a known ∙ e; typed = one_here id (Some t) types; fits = h }

-- ---- what a call is made on

record Arguments (known : ℕ → Outcome Value) (numbers : ℕ → ℕ) (env : Env) (ids : List ℕ) (bs : List Binder) : Type 0 where
  arguments : List Value
  all : all_done (map known ids) ≡ done arguments
  fit : ArgumentsFit bs arguments
  stand : Stand (map numbers ids) (map plain arguments) env
  pairs : with_arguments bs arguments ≡ paired bs (map plain arguments)

note_is : (m : Option TypeTree) → ParamFits m → (t : TypeTree) × (m ≡ Some t)
note_is (Some t) h = (t, refl)
note_is None h = absurd h

arguments_of : (keep : ℕ → Bool) (id : ℕ) (numbers : ℕ → ℕ) (known : ℕ → Outcome Value) (types : ℕ → Option TypeTree) (env : Env) (ids : List ℕ) (bs : List Binder) → DepsFit types ids bs → ParamsFit bs → AllKept keep ids → Early id types → Standing (Meant known types) keep id numbers env → Arguments known numbers env ids bs
arguments_of keep id numbers known types env [] [] h noted on early s = record { arguments = []; all = refl; fit = tt; stand = tt; pairs = refl }
arguments_of keep id numbers known types env [] (b ∷ bs) h noted on early s = absurd h
arguments_of keep id numbers known types env (k ∷ ids) [] h noted on early s = absurd h
arguments_of keep id numbers known types env (k ∷ ids) (b ∷ bs) h noted on early s =
    let rest = arguments_of keep id numbers known types env ids bs h.1 noted.1 on.1 early s in
    let note = note_is b.note noted.0 in
    let old = s.stands k (early.early k note.0 (h.0 ∙ note.1)) on.0 in
    let m = old.1 in
    record {
      arguments = m.value ∷ rest.arguments;
      all = (λ i. and_then (m.is_known i) (λ v. map_out (λ vs. v ∷ vs) (rest.all i)));
      fit = (subst (λ n. HasValue (noted_type n) m.value) (sym m.typed ∙ h.0) m.fits, rest.fit);
      stand = (old.2 ∙ ap Some m.is_plain, rest.stand);
      pairs = λ i. (b.sym.0, plain m.value) ∷ rest.pairs i;
    }

-- ---- the struct of what is shown

record Fields (known : ℕ → Outcome Value) (numbers : ℕ → ℕ) (env : Env) (shown : List ℕ) : Type 0 where
  fields : List Value
  things : Things
  all : all_done (map known shown) ≡ done fields
  come : eval_all (pack_exprs (map (λ k. leaf blank_at (name (numbers k))) shown)) env ≡ done things
  are : as_values things ≡ done (values fields)

fields_of : (keep : ℕ → Bool) (id : ℕ) (numbers : ℕ → ℕ) (known : ℕ → Outcome Value) (types : ℕ → Option TypeTree) (env : Env) (shown : List ℕ) → AllKept keep shown → AreBefore id shown → Standing (Meant known types) keep id numbers env → Fields known numbers env shown
fields_of keep id numbers known types env [] on before s = record { fields = []; things = no_things; all = refl; come = refl; are = refl }
fields_of keep id numbers known types env (k ∷ ks) on before s =
    let rest = fields_of keep id numbers known types env ks on.1 before.1 s in
    let old = s.stands k before.0 on.0 in
    let m = old.1 in
    let here : look_for (numbers k) env ≡ Some (plain m.value) = old.2 ∙ ap Some m.is_plain in
    record {
      fields = m.value ∷ rest.fields;
      things = more_things (plain m.value) rest.things;
      all = λ i. and_then (m.is_known i) (λ v. map_out (λ vs. v ∷ vs) (rest.all i));
      come = λ i. and_then (found (here i)) (λ t. map_out (more_things t) (rest.come i));
      are = λ i. map_out (and_value m.value) (rest.are i);
    }

shown_means : (numbers : ℕ → ℕ) (known : ℕ → Outcome Value) (env : Env) (shown : List ℕ) → Fields known numbers env shown → eval (shown_struct numbers shown) env ≡ map_out plain (map_out (λ ws. struct (values ws)) (all_done (map known shown)))
shown_means numbers known env shown f =
    (λ i. and_then (f.come i) (λ ts. done (struct_of ts))) ∙ (λ i. done (struct_from f.things (f.are i)))
    ∙ sym (λ i. map_out plain (map_out (λ ws. struct (values ws)) (f.all i)))

-- ---- the lets

-- from any place on
abbrev LetsMean : (ℕ → Bool) → List ℕ → List Object → Type 0
LetsMean keep shown os =
    (id next : ℕ) (numbers : ℕ → ℕ) (known : ℕ → Outcome Value) (types : ℕ → Option TypeTree) (env : Env)
    → AreObjectsFrom id types os → Early id types → IsClosedFrom keep id os → AreBefore (id + length os) shown
    → Standing (Meant known types) keep id numbers env → Ahead (λ t v. plain v) keep id numbers env os → Below next env
    → eval (lets keep id next numbers shown os) env ≡ map_out plain (rest_answer keep id os known shown)

pub before_suc : (id n : ℕ) (ks : List ℕ) → AreBefore (id + suc n) ks → AreBefore (suc id + n) ks
before_suc id n [] h = tt
before_suc id n (k ∷ ks) h = (omega (arith, h.0), before_suc id n ks h.1)

pub at_end : (id : ℕ) (ks : List ℕ) → AreBefore (id + 0) ks → AreBefore id ks
at_end id [] h = tt
at_end id (k ∷ ks) h = (omega (arith, h.0), at_end id ks h.1)

end_means : (keep : ℕ → Bool) (shown : List ℕ) → AllKept keep shown → LetsMean keep shown []
end_means keep shown on id next numbers known types env are early closed before s ahead below =
    shown_means numbers known env shown (fields_of keep id numbers known types env shown on (at_end id shown before) s)

given_means : (keep : ℕ → Bool) (shown : List ℕ) (t : TypeTree) (v : Value) (os : List Object) → LetsMean keep shown os → LetsMean keep shown (given t v ∷ os)
given_means keep shown t v os go id next numbers known types env are early closed before s ahead below =
    let later = with_one id (done v) known in
    let more = with_one id (Some t) types in
    let stands = standing_given (Meant known types) (Meant later more) keep id numbers env (plain v) (meant_carries id (done v) t known types) (meant_new id v (done v) t known types refl are.0.fits) ahead.0 s in
    go (suc id) next numbers later more env are.1 (early_next id t types early) closed (before_suc id (length os) shown before) stands ahead.1 below ∙ by (keep id) refl
  where
    by : (c : Bool) → keep id ≡ c → map_out plain (rest_answer keep (suc id) os (with_one id (done v) known) shown) ≡ map_out plain (rest_answer keep id (given t v ∷ os) known shown)
    by true on = ap (map_out plain) (sym (rest_kept keep id (given t v) os known shown on))
    by false off = ap (map_out plain) (sym (rest_skipped keep id (given t v) os known shown off))

call_skipped : (keep : ℕ → Bool) (shown : List ℕ) (t : TypeTree) (ids : List ℕ) (p : ProgramTree) (os : List Object) → LetsMean keep shown os
    → (id next : ℕ) (numbers : ℕ → ℕ) (known : ℕ → Outcome Value) (types : ℕ → Option TypeTree) (env : Env)
    → AreObjectsFrom id types (call t ids p ∷ os) → Early id types → IsClosedFrom keep id (call t ids p ∷ os) → AreBefore (id + suc (length os)) shown
    → Standing (Meant known types) keep id numbers env → Ahead (λ t v. plain v) keep (suc id) numbers env os → Below next env → keep id ≡ false
    → eval (lets keep (suc id) next numbers shown os) env ≡ map_out plain (rest_answer keep id (call t ids p ∷ os) known shown)
call_skipped keep shown t ids p os go id next numbers known types env are early closed before s ahead below off =
    let a = answer known (call t ids p) in
    let later = with_one id a known in
    let more = with_one id (Some t) types in
    let stands = standing_skip (Meant known types) (Meant later more) keep id numbers env (meant_carries id a t known types) off s in
    go (suc id) next numbers later more env are.1 (early_next id t types early) closed.1 (before_suc id (length os) shown before) stands ahead below
    ∙ ap (map_out plain) (sym (rest_skipped keep id (call t ids p) os known shown off))

call_kept : NeverStuck → (keep : ℕ → Bool) (shown : List ℕ) (t : TypeTree) (ids : List ℕ) (p : ProgramTree) (os : List Object) → LetsMean keep shown os
    → (id next : ℕ) (numbers : ℕ → ℕ) (known : ℕ → Outcome Value) (types : ℕ → Option TypeTree) (env : Env)
    → AreObjectsFrom id types (call t ids p ∷ os) → Early id types → IsClosedFrom keep id (call t ids p ∷ os) → AreBefore (id + suc (length os)) shown
    → Standing (Meant known types) keep id numbers env → Ahead (λ t v. plain v) keep (suc id) numbers env os → Below next env → keep id ≡ true
    → and_then (eval (placed_body (suc next) (map numbers ids) p) env) (λ x. eval (lets keep (suc id) (suc next + length (bound p.body)) (with_one id next numbers) shown os) ((next, x) ∷ env))
    ≡ map_out plain (rest_answer keep id (call t ids p ∷ os) known shown)
call_kept laws keep shown t ids p os go id next numbers known types env are early closed before s ahead below on =
    (λ i. and_then (placed_is i) rest) ∙ by (eval p.body (with_arguments p.params args.arguments)) (laws.body p t args.arguments are.0.typed args.fit) answer_is
    ∙ ap (map_out plain) (sym (rest_kept keep id (call t ids p) os known shown on))
  where
    args : Arguments known numbers env ids p.params
    args = arguments_of keep id numbers known types env ids p.params are.0.fits are.0.typed.params (closed.0 on) early s

    above : Below (suc next) env
    above = record { none = λ k h. below.none k (omega (arith, h)) }

    rest : Thing → Outcome Thing
    rest x = eval (lets keep (suc id) (suc next + length (bound p.body)) (with_one id next numbers) shown os) ((next, x) ∷ env)

    placed_is : eval (placed_body (suc next) (map numbers ids) p) env ≡ eval p.body (with_arguments p.params args.arguments)
    placed_is =
        means (placed (suc next) p.params (map numbers ids) (bound p.body)) p.body (paired p.params (map plain args.arguments)) env
        (body_alone (suc next) (map numbers ids) p are.0.program (under_of (suc next) (map numbers ids) (map plain args.arguments) env above args.stand))
        (placed_moves (suc next) p.params (map numbers ids) (map plain args.arguments) (bound p.body) env args.stand above)
        ∙ sym (λ i. eval p.body (args.pairs i))

    answer_is : answer known (call t ids p) ≡ value_out (eval p.body (with_arguments p.params args.arguments))
    answer_is = λ i. and_then (args.all i) (meaning p)

    after : Outcome Value → Outcome Value
    after a = rest_answer keep (suc id) os (with_one id a known) shown

    by : (o : Outcome Thing) → GivesOrFaults (λ x. HasThing x t) o → answer known (call t ids p) ≡ value_out o → and_then o rest ≡ map_out plain (and_then (answer known (call t ids p)) (λ v. after (answer known (call t ids p))))
    by fault h e = sym (λ i. map_out plain (and_then (e i) (λ v. after (e i))))
    by stuck h e = absurd h
    by (done x) h e = given_thing x (value_of_thing t x (free_value_type t are.0.typed.builder_free) h) e
      where
        given_thing : (x : Thing) → (v : Value) × (x ≡ plain v) × HasValue t v → answer known (call t ids p) ≡ value_out (done x) → rest x ≡ map_out plain (and_then (answer known (call t ids p)) (λ v. after (answer known (call t ids p))))
        given_thing x w e =
            let v = w.0 in
            let is_done : answer known (call t ids p) ≡ done v = e ∙ (λ i. value_out (done (w.1 i))) in
            let more = with_one id (Some t) types in
            let later = with_one id (done v) known in
            let stands = standing_call (Meant known types) (Meant later more) keep id next numbers env (plain v) (meant_carries id (done v) t known types) (meant_new id v (done v) t known types refl w.2) below s in
            (λ i. rest (w.1 i))
            ∙ go (suc id) (suc next + length (bound p.body)) (with_one id next numbers) later more ((next, plain v) ∷ env) are.1 (early_next id t types early) closed.1 (before_suc id (length os) shown before) stands
            (ahead_call (λ t v. plain v) keep id next (suc id) numbers env (plain v) os (omega arith) below ahead) (below_call next (length (bound p.body)) env (plain v) below)
            ∙ sym (λ i. map_out plain (and_then (is_done i) (λ v. after (is_done i))))

call_means : NeverStuck → (keep : ℕ → Bool) (shown : List ℕ) (t : TypeTree) (ids : List ℕ) (p : ProgramTree) (os : List Object) → LetsMean keep shown os → LetsMean keep shown (call t ids p ∷ os)
call_means laws keep shown t ids p os go id next numbers known types env are early closed before s ahead below = by (keep id) refl
  where
    by : (c : Bool) → keep id ≡ c → eval (if c then let_in blank_at (new_binder next None) (placed_body (suc next) (map numbers ids) p) (lets keep (suc id) (suc next + length (bound p.body)) (with_one id next numbers) shown os) else lets keep (suc id) next numbers shown os) env ≡ map_out plain (rest_answer keep id (call t ids p ∷ os) known shown)
    by true on = call_kept laws keep shown t ids p os go id next numbers known types env are early closed before s ahead below on
    by false off = call_skipped keep shown t ids p os go id next numbers known types env are early closed before s ahead below off

pub lets_mean : NeverStuck → (keep : ℕ → Bool) (shown : List ℕ) → AllKept keep shown → (os : List Object) → LetsMean keep shown os
lets_mean laws keep shown on [] = end_means keep shown on
lets_mean laws keep shown on (given t v ∷ os) = given_means keep shown t v os (lets_mean laws keep shown on os)
lets_mean laws keep shown on (call t ids p ∷ os) = call_means laws keep shown t ids p os (lets_mean laws keep shown on os)
