-- A job has one answer at most.
use Rattle.std.proofs.Common.{◌≡◌, ◌≢◌, ◌&&◌, ℕ, inl, inr, Bool, true, false, List, Option, Some, None, Ok, Err, sym, ap, subst, refl, ◌∙◌, [], ◌∷◌}
use Rattle.std.specs.Bool.{MatchBool}
use Rattle.weld_data.specs.Value.{Value}
use Rattle.weld_builders.specs.Outcome.{Outcome, done, fault}
use Rattle.weld_tree.specs.TypeTree.{TypeTree}
use Rattle.weld_tree.specs.Program.{ProgramTree}
use Rattle.weld_tree.specs.declared.binder.Binder.{Binder}
use Rattle.weld_tree.specs.declared.code.Code.{Code}
use Rattle.weld_tree.specs.declared.place.Place.{Place}
use Rattle.weld_tree.specs.declared.refusal.Refusal.{Refusal}
use Rattle.weld_types.specs.Walk.{found, refusal_of, program_type, typing_refusal}
use Rattle.weld_meaning.specs.LinearWalk.{linear_refusal}
use Rattle.weld_meaning.specs.Meaning.{meaning}
use Rattle.weld_job.specs.Blocks.{job_of}
use Rattle.weld_job.specs.Job.{Job}
use Rattle.weld_parse.specs.Parses.{Parses, IsRefused}
use Rattle.weld_inputs.specs.Arguments.{Arguments, IsUnfit}
use Rattle.weld_front.specs.Accepting.{Accepts, Says, IsIllTyped, IsNotLinear, Refuses}
use Rattle.weld_words.specs.declared.options.Options.{Options}
use Rattle.weld_words.specs.declared.options.Command.{Command}
use Rattle.weld_words.specs.declared.options.Command.TheVariants.{Run, Check, Show, Session, Soak}
use Rattle.weld_front.specs.Asking.{reads_a_job}
use Rattle.weld_front.specs.Concluding.{Concludes, IsReport, IsTold}
use Rattle.weld_script.specs.declared.made.Declared.{Declared}
use Rattle.weld_script.specs.Script.{PlainScript, declared_of}
use Rattle.weld_read_script.specs.Reading.{IsRead}
use Rattle.weld_read_script.specs.declared.read.ScriptFault.{ScriptFault}
use Rattle.weld_read_script.specs.declared.read.ScriptFault.TheVariants as faults
use Rattle.weld_inputs.specs.Inputs as of_script
use Rattle.weld_session.specs.Answer.{shown_type, script_answer}
use Rattle.weld_script.specs.Soak.{soak_made, soak_shown, soak_table}
use Rattle.weld_front.specs.Sessions.{IsScriptReport, ScriptConcludes, ScriptAnswers, ScriptRefusalAnswers, SessionAnswers, soak_script}
use Rattle.weld_front.specs.Answer.{Answers, CommandAnswers, CommandHasOneText, HasOneText, RunAnswers, CheckAnswers, ShowAnswers, RefusalAnswers, ProgramAnswers, ProgramConcludes, is_too_long}
use Rattle.weld_front.specs.Texts.{value_text, ok_text, unfit_text, refusal_text, script_refusal_text}
use Rattle.weld_front.specs.declared.status.Status.{Status}
use Rattle.weld_front.specs.declared.status.Status.TheVariants.{Done, Fault, Words, Refused, Unfit, Read, Write, Memory}

-- what is known of texts: one program, or one refusal, and not both
pub record TextsKnown : Type 0 where
  pub one_program : (text : List ℕ) (p q : ProgramTree) → Parses text p → Parses text q → p ≡ q
  pub not_both : (text : List ℕ) (p : ProgramTree) (r : Refusal) → Parses text p → IsRefused text r → ⊥
  pub one_refusal : (text : List ℕ) (r s : Refusal) → IsRefused text r → IsRefused text s → r ≡ s

-- what is known of data: one list of arguments, or one thing wrong with them first, and not both
pub record DataKnown : Type 0 where
  pub one_list : (ps : List Binder) (job : Job) (vs ws : List Value) → Arguments ps job vs → Arguments ps job ws → vs ≡ ws
  pub not_both : (ps : List Binder) (job : Job) (vs : List Value) (n : ℕ) (c : Code) → Arguments ps job vs → IsUnfit ps job n c → ⊥
  pub one_code : (ps : List Binder) (job : Job) (n m : ℕ) (c d : Code) → IsUnfit ps job n c → IsUnfit ps job m d → (n ≡ m) × (c ≡ d)

-- what is known of scripts and their data: one script, or one refusal, and not both; one list of values, or one thing wrong
-- with the data first, and not both
pub record ScriptsKnown : Type 0 where
  pub one_script : (text : List ℕ) (s t : PlainScript) → IsRead text (Ok s) → IsRead text (Ok t) → s ≡ t
  pub one_fault : (text : List ℕ) (e f : ScriptFault) → e ≢ faults.Memory → f ≢ faults.Memory → IsRead text (Err e) → IsRead text (Err f) → e ≡ f
  pub script_or_fault : (text : List ℕ) (s : PlainScript) (e : ScriptFault) → e ≢ faults.Memory → IsRead text (Ok s) → IsRead text (Err e) → ⊥
  pub one_list : (ds : List Declared) (job : Job) (vs ws : List Value) → of_script.Inputs ds job vs → of_script.Inputs ds job ws → vs ≡ ws
  pub not_both : (ds : List Declared) (job : Job) (vs : List Value) (n : ℕ) (c : Code) → of_script.Inputs ds job vs → of_script.IsUnfit ds job n c → ⊥
  pub one_code : (ds : List Declared) (job : Job) (n m : ℕ) (c d : Code) → of_script.IsUnfit ds job n c → of_script.IsUnfit ds job m d → (n ≡ m) × (c ≡ d)

-- ---- one program or one refusal

type_one : (p : ProgramTree) (t u : TypeTree) → program_type p ≡ found t → program_type p ≡ found u → t ≡ u
type_one p t u e f = let same : found t ≡ found u = sym e ∙ f in cc

pub program_one : TextsKnown → (text : List ℕ) (p q : ProgramTree) (t u : TypeTree) → Accepts text p t → Accepts text q u → p ≡ q
program_one known text p q t u a b = known.one_program text p q a.parses b.parses

types_one : TextsKnown → (text : List ℕ) (p q : ProgramTree) (t u : TypeTree) → Accepts text p t → Accepts text q u → t ≡ u
types_one known text p q t u a b =
    type_one p t u a.typed (subst (λ (x : ProgramTree). program_type x ≡ found u) (sym (program_one known text p q t u a b)) b.typed)

says_none : (o : Option (Code × Place)) (r : Refusal) → o ≡ None → Says o r → ⊥
says_none None r e s = s
says_none (Some at) r e s = cc

says_one : (o : Option (Code × Place)) (r s : Refusal) → Says o r → Says o s → r ≡ s
says_one None r s h g = absurd h
says_one (Some at) r s h g = h ∙ sym g

-- a program with a type isn't refused by the typing rules
typed_unrefused : (p : ProgramTree) (t : TypeTree) → program_type p ≡ found t → typing_refusal p ≡ None
typed_unrefused p t e = ap refusal_of e

not_refused : TextsKnown → (text : List ℕ) (p : ProgramTree) (t : TypeTree) (r : Refusal) → Accepts text p t → Refuses text r → ⊥
not_refused known text p t r a (inl h) = known.not_both text p r a.parses h
not_refused known text p t r a (inr (inl h)) =
    let same : p ≡ h.program = known.one_program text p h.program a.parses h.parses in
    says_none (typing_refusal h.program) r (subst (λ (x : ProgramTree). typing_refusal x ≡ None) same (typed_unrefused p t a.typed)) h.says
not_refused known text p t r a (inr (inr h)) =
    let same : p ≡ h.program = known.one_program text p h.program a.parses h.parses in
    says_none (linear_refusal h.program) r (subst (λ (x : ProgramTree). linear_refusal x ≡ None) same a.linear) h.says

ill_typed_one : TextsKnown → (text : List ℕ) (r s : Refusal) → IsIllTyped text r → IsIllTyped text s → r ≡ s
ill_typed_one known text r s h g =
    let same : h.program ≡ g.program = known.one_program text h.program g.program h.parses g.parses in
    says_one (typing_refusal g.program) r s (subst (λ (x : ProgramTree). Says (typing_refusal x) r) same h.says) g.says

ill_typed_or_linear : TextsKnown → (text : List ℕ) (r s : Refusal) → IsIllTyped text r → IsNotLinear text s → ⊥
ill_typed_or_linear known text r s h g =
    let same : g.program ≡ h.program = known.one_program text g.program h.program g.parses h.parses in
    says_none (typing_refusal h.program) r (subst (λ (x : ProgramTree). typing_refusal x ≡ None) same (typed_unrefused g.program g.type g.typed)) h.says

not_linear_one : TextsKnown → (text : List ℕ) (r s : Refusal) → IsNotLinear text r → IsNotLinear text s → r ≡ s
not_linear_one known text r s h g =
    let same : h.program ≡ g.program = known.one_program text h.program g.program h.parses g.parses in
    says_one (linear_refusal g.program) r s (subst (λ (x : ProgramTree). Says (linear_refusal x) r) same h.says) g.says

refusals_one : TextsKnown → (text : List ℕ) (r s : Refusal) → Refuses text r → Refuses text s → r ≡ s
refusals_one known text r s (inl h) (inl g) = known.one_refusal text r s h g
refusals_one known text r s (inl h) (inr (inl g)) = absurd (known.not_both text g.program r g.parses h)
refusals_one known text r s (inl h) (inr (inr g)) = absurd (known.not_both text g.program r g.parses h)
refusals_one known text r s (inr (inl h)) (inl g) = absurd (known.not_both text h.program s h.parses g)
refusals_one known text r s (inr (inr h)) (inl g) = absurd (known.not_both text h.program s h.parses g)
refusals_one known text r s (inr (inl h)) (inr (inl g)) = ill_typed_one known text r s h g
refusals_one known text r s (inr (inl h)) (inr (inr g)) = absurd (ill_typed_or_linear known text r s h g)
refusals_one known text r s (inr (inr h)) (inr (inl g)) = absurd (ill_typed_or_linear known text s r g h)
refusals_one known text r s (inr (inr h)) (inr (inr g)) = not_linear_one known text r s h g

refusal_texts : TextsKnown → (job : Job) (x y : List ℕ) → RefusalAnswers job x → RefusalAnswers job y → x ≡ y
refusal_texts known job x y (r, h, e) (s, g, f) = e ∙ ap refusal_text (refusals_one known job.text r s h g) ∙ sym f

-- ---- what a program is answered with

-- one status, and where there is one text, one text
abbrev Same : Type 0 → Status → List ℕ → Status → List ℕ → Type 0
Same One s x s' y = (s ≡ s') × (One → x ≡ y)

told_one : (b : Bool) (P : List ℕ → Type 0) (v w x y : List ℕ) → b ≡ false → v ≡ w → IsTold b P v x → IsTold b P w y → x ≡ y
told_one true P v w x y f e h g = absurd cc
told_one false P v w x y f e h g = h ∙ e ∙ sym g

concludes_one : (b : Bool) (P : List ℕ → Type 0) (t : TypeTree) (u : Outcome Value) (s s' : Status) (x y : List ℕ) → Concludes b P t u s x → Concludes b P t u s' y → Same (b ≡ false) s x s' y
concludes_one b P t u Done Done x y (v, e, f) (w, g, h) =
    let same : done v ≡ done w = sym e ∙ g in
    let values : v ≡ w = cc in
    (refl, λ r. told_one b P (value_text t v) (value_text t w) x y r (ap (value_text t) values) f h)
concludes_one b P t u Done Fault x y (v, e, f) (g, h) = let same : done v ≡ fault = sym e ∙ g in cc
concludes_one b P t u Fault Done x y (e, f) (w, g, h) = let same : done w ≡ fault = sym g ∙ e in cc
concludes_one b P t u Fault Fault x y (e, f) (g, h) = (refl, λ r. f ∙ sym h)
concludes_one b P t u Words s' x y h g = absurd h
concludes_one b P t u Refused s' x y h g = absurd h
concludes_one b P t u Unfit s' x y h g = absurd h
concludes_one b P t u Read s' x y h g = absurd h
concludes_one b P t u Write s' x y h g = absurd h
concludes_one b P t u Memory s' x y h g = absurd h
concludes_one b P t u s Words x y h g = absurd g
concludes_one b P t u s Refused x y h g = absurd g
concludes_one b P t u s Unfit x y h g = absurd g
concludes_one b P t u s Read x y h g = absurd g
concludes_one b P t u s Write x y h g = absurd g
concludes_one b P t u s Memory x y h g = absurd g

unfit_texts : (n m : ℕ) (c d : Code) (x y : List ℕ) → (n ≡ m) × (c ≡ d) → x ≡ unfit_text n c → y ≡ unfit_text m d → x ≡ y
unfit_texts n m c d x y same e f = e ∙ ap (λ (i : ℕ). unfit_text i c) same.0 ∙ ap (unfit_text m) same.1 ∙ sym f

-- the answers on data that fit, and those on data that don't
data Split (o : Options) (p : ProgramTree) (t : TypeTree) (job : Job) (s : Status) (x : List ℕ) : Type 0 where
  on_data : (vs : List Value) → Arguments p.params job vs → ProgramConcludes o p t vs s x → Split o p t job s x
  off_data : (number : ℕ) (code : Code) → s ≡ Unfit → IsUnfit p.params job number code → x ≡ unfit_text number code → Split o p t job s x

split : (o : Options) (p : ProgramTree) (t : TypeTree) (job : Job) (s : Status) (x : List ℕ) → ProgramAnswers o p t job s x → Split o p t job s x
split o p t job Unfit x (n, c, u, e) = off_data n c refl u e
split o p t job Done x (vs, a, c) = on_data vs a c
split o p t job Fault x (vs, a, c) = on_data vs a c
split o p t job Words x (vs, a, c) = absurd c
split o p t job Refused x (vs, a, c) = absurd c
split o p t job Read x (vs, a, c) = absurd c
split o p t job Write x (vs, a, c) = absurd c
split o p t job Memory x (vs, a, c) = absurd c

splits_one : DataKnown → (o : Options) (p : ProgramTree) (t : TypeTree) (job : Job) (s s' : Status) (x y : List ℕ) → Split o p t job s x → Split o p t job s' y → Same (o.report ≡ false) s x s' y
splits_one known o p t job s s' x y (on_data vs a c) (on_data ws b d) =
    concludes_one o.report (IsReport p ws o.cut) t (meaning p ws) s s' x y (subst (λ (us : List Value). ProgramConcludes o p t us s x) (known.one_list p.params job vs ws a b) c) d
splits_one known o p t job s s' x y (on_data vs a c) (off_data n k e u f) = absurd (known.not_both p.params job vs n k a u)
splits_one known o p t job s s' x y (off_data n k e u f) (on_data ws b d) = absurd (known.not_both p.params job ws n k b u)
splits_one known o p t job s s' x y (off_data n k e u f) (off_data m l g v h) =
    (e ∙ sym g, λ r. unfit_texts n m k l x y (known.one_code p.params job n m k l u v) f h)

-- an answer to an accepted program, whatever its status
record Accepted (o : Options) (job : Job) (s : Status) (x : List ℕ) : Type 0 where
  program : ProgramTree
  type : TypeTree
  accepts : Accepts job.text program type
  answers : ProgramAnswers o program type job s x

accepted_one : TextsKnown → DataKnown → (o : Options) (job : Job) (s s' : Status) (x y : List ℕ) → Accepted o job s x → Accepted o job s' y → Same (o.report ≡ false) s x s' y
accepted_one texts known o job s s' x y a b =
    let programs : a.program ≡ b.program = program_one texts job.text a.program b.program a.type b.type a.accepts b.accepts in
    let types : a.type ≡ b.type = types_one texts job.text a.program b.program a.type b.type a.accepts b.accepts in
    let moved : ProgramAnswers o b.program b.type job s x =
    subst (λ (t : TypeTree). ProgramAnswers o b.program t job s x) types (subst (λ (p : ProgramTree). ProgramAnswers o p a.type job s x) programs a.answers) in
    splits_one known o b.program b.type job s s' x y
    (split o b.program b.type job s x moved) (split o b.program b.type job s' y b.answers)

-- an answer of `run` is a refusal, or one to an accepted program
data RunSplit (o : Options) (job : Job) (s : Status) (x : List ℕ) : Type 0 where
  is_refused : s ≡ Refused → RefusalAnswers job x → RunSplit o job s x
  is_accepted : Accepted o job s x → RunSplit o job s x

run_split : (o : Options) (job : Job) (s : Status) (x : List ℕ) → RunAnswers o job s x → RunSplit o job s x
run_split o job Refused x h = is_refused refl h
run_split o job Done x (p, t, a, h) = is_accepted (record { program = p; type = t; accepts = a; answers = h })
run_split o job Fault x (p, t, a, h) = is_accepted (record { program = p; type = t; accepts = a; answers = h })
run_split o job Unfit x (p, t, a, h) = is_accepted (record { program = p; type = t; accepts = a; answers = h })
run_split o job Words x (p, t, a, h) = is_accepted (record { program = p; type = t; accepts = a; answers = h })
run_split o job Read x (p, t, a, h) = is_accepted (record { program = p; type = t; accepts = a; answers = h })
run_split o job Write x (p, t, a, h) = is_accepted (record { program = p; type = t; accepts = a; answers = h })
run_split o job Memory x (p, t, a, h) = is_accepted (record { program = p; type = t; accepts = a; answers = h })

either : TextsKnown → (o : Options) (job : Job) (s : Status) (x y : List ℕ) → RefusalAnswers job x → Accepted o job s y → ⊥
either known o job s x y (r, h, e) a = not_refused known job.text a.program a.type r a.accepts h

runs_one : TextsKnown → DataKnown → (o : Options) (job : Job) (s s' : Status) (x y : List ℕ) → RunSplit o job s x → RunSplit o job s' y → Same (o.report ≡ false) s x s' y
runs_one texts known o job s s' x y (is_refused e h) (is_refused f g) = (e ∙ sym f, λ r. refusal_texts texts job x y h g)
runs_one texts known o job s s' x y (is_refused e h) (is_accepted b) = absurd (either texts o job s' x y h b)
runs_one texts known o job s s' x y (is_accepted a) (is_refused f g) = absurd (either texts o job s y x g a)
runs_one texts known o job s s' x y (is_accepted a) (is_accepted b) = accepted_one texts known o job s s' x y a b

checks_one : TextsKnown → (job : Job) (s s' : Status) (x y : List ℕ) → CheckAnswers job s x → CheckAnswers job s' y → Same (Unit {0}) s x s' y
checks_one texts job Done Done x y (p, t, a, e) (q, u, b, f) = (refl, λ r. e ∙ ap ok_text (types_one texts job.text p q t u a b) ∙ sym f)
checks_one texts job Done Refused x y (p, t, a, e) (r, h, f) = absurd (not_refused texts job.text p t r a h)
checks_one texts job Refused Done x y (r, h, f) (p, t, a, e) = absurd (not_refused texts job.text p t r a h)
checks_one texts job Refused Refused x y h g = (refl, λ r. refusal_texts texts job x y h g)
checks_one texts job Fault s' x y h g = absurd h
checks_one texts job Unfit s' x y h g = absurd h
checks_one texts job Words s' x y h g = absurd h
checks_one texts job Read s' x y h g = absurd h
checks_one texts job Write s' x y h g = absurd h
checks_one texts job Memory s' x y h g = absurd h
checks_one texts job s Fault x y h g = absurd g
checks_one texts job s Unfit x y h g = absurd g
checks_one texts job s Words x y h g = absurd g
checks_one texts job s Read x y h g = absurd g
checks_one texts job s Write x y h g = absurd g
checks_one texts job s Memory x y h g = absurd g

shows_one : TextsKnown → (job : Job) (s s' : Status) (x y : List ℕ) → ShowAnswers job s x → ShowAnswers job s' y → Same ⊥ s x s' y
shows_one texts job Done Done x y h g = (refl, λ r. absurd r)
shows_one texts job Done Refused x y (p, t, a, e) (r, h, f) = absurd (not_refused texts job.text p t r a h)
shows_one texts job Refused Done x y (r, h, f) (p, t, a, e) = absurd (not_refused texts job.text p t r a h)
shows_one texts job Refused Refused x y h g = (refl, λ r. absurd r)
shows_one texts job Fault s' x y h g = absurd h
shows_one texts job Unfit s' x y h g = absurd h
shows_one texts job Words s' x y h g = absurd h
shows_one texts job Read s' x y h g = absurd h
shows_one texts job Write s' x y h g = absurd h
shows_one texts job Memory s' x y h g = absurd h
shows_one texts job s Fault x y h g = absurd g
shows_one texts job s Unfit x y h g = absurd g
shows_one texts job s Words x y h g = absurd g
shows_one texts job s Read x y h g = absurd g
shows_one texts job s Write x y h g = absurd g
shows_one texts job s Memory x y h g = absurd g

-- ---- what a script is answered with

-- the answers on values of the declarations, and those on data that don't fit
data ScriptSplit (o : Options) (p : PlainScript) (job : Job) (s : Status) (x : List ℕ) : Type 0 where
  on_values : (vs : List Value) → of_script.Inputs (declared_of p.made) job vs → ScriptConcludes o p vs s x → ScriptSplit o p job s x
  off_values : (number : ℕ) (code : Code) → s ≡ Unfit → of_script.IsUnfit (declared_of p.made) job number code → x ≡ unfit_text number code → ScriptSplit o p job s x

script_split : (o : Options) (p : PlainScript) (job : Job) (s : Status) (x : List ℕ) → ScriptAnswers o p job s x → ScriptSplit o p job s x
script_split o p job Unfit x (n, c, u, e) = off_values n c refl u e
script_split o p job Done x (vs, a, c) = on_values vs a c
script_split o p job Fault x (vs, a, c) = on_values vs a c
script_split o p job Words x (vs, a, c) = absurd c
script_split o p job Refused x (vs, a, c) = absurd c
script_split o p job Read x (vs, a, c) = absurd c
script_split o p job Write x (vs, a, c) = absurd c
script_split o p job Memory x (vs, a, c) = absurd c

script_splits_one : ScriptsKnown → (o : Options) (p : PlainScript) (job : Job) (s s' : Status) (x y : List ℕ) → ScriptSplit o p job s x → ScriptSplit o p job s' y → Same (o.report ≡ false) s x s' y
script_splits_one known o p job s s' x y (on_values vs a c) (on_values ws b d) =
    concludes_one o.report (IsScriptReport p ws o.cut) (shown_type p.made p.shown) (script_answer p.made p.shown ws) s s' x y
    (subst (λ (us : List Value). ScriptConcludes o p us s x) (known.one_list (declared_of p.made) job vs ws a b) c) d
script_splits_one known o p job s s' x y (on_values vs a c) (off_values n k e u f) = absurd (known.not_both (declared_of p.made) job vs n k a u)
script_splits_one known o p job s s' x y (off_values n k e u f) (on_values ws b d) = absurd (known.not_both (declared_of p.made) job ws n k b u)
script_splits_one known o p job s s' x y (off_values n k e u f) (off_values m l g v h) =
    (e ∙ sym g, λ r. unfit_texts n m k l x y (known.one_code (declared_of p.made) job n m k l u v) f h)

-- an answer of `session` is a refusal, or one to a script
data SessionSplit (o : Options) (job : Job) (s : Status) (x : List ℕ) : Type 0 where
  no_script : s ≡ Refused → ScriptRefusalAnswers job x → SessionSplit o job s x
  a_script : (p : PlainScript) → IsRead job.text (Ok p) → ScriptAnswers o p job s x → SessionSplit o job s x

session_split : (o : Options) (job : Job) (s : Status) (x : List ℕ) → SessionAnswers o job s x → SessionSplit o job s x
session_split o job Refused x h = no_script refl h
session_split o job Done x (p, r, h) = a_script p r h
session_split o job Fault x (p, r, h) = a_script p r h
session_split o job Unfit x (p, r, h) = a_script p r h
session_split o job Words x (p, r, h) = a_script p r h
session_split o job Read x (p, r, h) = a_script p r h
session_split o job Write x (p, r, h) = a_script p r h
session_split o job Memory x (p, r, h) = a_script p r h

script_refusal_texts : ScriptsKnown → (job : Job) (x y : List ℕ) → ScriptRefusalAnswers job x → ScriptRefusalAnswers job y → x ≡ y
script_refusal_texts known job x y (e, m, h, t) (f, n, g, u) = t ∙ ap script_refusal_text (known.one_fault job.text e f m n h g) ∙ sym u

sessions_one : ScriptsKnown → (o : Options) (job : Job) (s s' : Status) (x y : List ℕ) → SessionSplit o job s x → SessionSplit o job s' y → Same (o.report ≡ false) s x s' y
sessions_one known o job s s' x y (no_script e h) (no_script f g) = (e ∙ sym f, λ r. script_refusal_texts known job x y h g)
sessions_one known o job s s' x y (no_script e (f, m, h, t)) (a_script p r a) = absurd (known.script_or_fault job.text p f m r h)
sessions_one known o job s s' x y (a_script p r a) (no_script e (f, m, h, t)) = absurd (known.script_or_fault job.text p f m r h)
sessions_one known o job s s' x y (a_script p r a) (a_script q l b) =
    script_splits_one known o q job s s' x y
    (script_split o q job s x (subst (λ (z : PlainScript). ScriptAnswers o z job s x) (known.one_script job.text p q r l) a)) (script_split o q job s' y b)

-- ---- all commands

commands_one : TextsKnown → DataKnown → ScriptsKnown → (c : Command) (o : Options) (job : Job) (s s' : Status) (x y : List ℕ) → CommandAnswers c o job s x → CommandAnswers c o job s' y → Same (CommandHasOneText c o.report) s x s' y
commands_one texts known scripts Run o job s s' x y h g = runs_one texts known o job s s' x y (run_split o job s x h) (run_split o job s' y g)
commands_one texts known scripts Check o job s s' x y h g = checks_one texts job s s' x y h g
commands_one texts known scripts Show o job s s' x y h g = shows_one texts job s s' x y h g
commands_one texts known scripts Session o job s s' x y h g = sessions_one scripts o job s s' x y (session_split o job s x h) (session_split o job s' y g)
commands_one texts known scripts Soak o job s s' x y h g =
    let vs : List Value = soak_table o.seed o.rows ∷ [] in
    concludes_one o.report (IsScriptReport soak_script vs o.cut) (shown_type soak_made soak_shown) (script_answer soak_made soak_shown vs) s s' x y h g

one_by : (One : Type 0) (b : Bool) (s s' : Status) (x y text : List ℕ) (P Q : Type 0) → (P → Q → Same One s x s' y) → MatchBool b ((s ≡ Refused) × (x ≡ text)) P → MatchBool b ((s' ≡ Refused) × (y ≡ text)) Q → Same One s x s' y
one_by One true s s' x y text P Q f h g = (h.0 ∙ sym g.0, λ r. h.1 ∙ sym g.1)
one_by One false s s' x y text P Q f h g = f h g

pub answers_one : TextsKnown → DataKnown → ScriptsKnown → (o : Options) (bytes : List ℕ) (s s' : Status) (x y : List ℕ) → Answers o bytes s x → Answers o bytes s' y → (s ≡ s') × (HasOneText o → x ≡ y)
answers_one texts known scripts o bytes s s' x y h g =
    one_by (HasOneText o) (reads_a_job o.command && is_too_long bytes) s s' x y _ _ _ (commands_one texts known scripts o.command o (job_of bytes) s s' x y) h g
