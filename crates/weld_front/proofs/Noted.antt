-- A program with noted types is answered as the one that the text spells.
use Rattle.std.proofs.Common.{◌≡◌, ℕ, ◌+◌, ◌≤◌, suc, Bool, true, false, List, [], ◌∷◌, length, refl, sym, ap, subst, ◌∙◌}
use Rattle.weld_data.specs.Value.{Value}
use Rattle.weld_builders.specs.Outcome.{Outcome}
use Rattle.weld_tree.specs.TypeTree.{TypeTree}
use Rattle.weld_tree.specs.Program.{ProgramTree, loops}
use Rattle.weld_tree.specs.Blank.{AreSame}
use Rattle.weld_tree.specs.declared.binder.Binder.{Binder}
use Rattle.weld_job.specs.Job.{Block}
use Rattle.weld_job.specs.Job.{Job}
use Rattle.weld_meaning.specs.Meaning.{ArgumentsFit, meaning}
use Rattle.weld_inputs.specs.Arguments.{Arguments, BlocksGive, DataGive, IsUnfit}
use Rattle.weld_check_types.specs.Unnoted.{IsSameButNotes}
use Rattle.weld_vertical.specs.Chains.{IsChainProgram}
use Rattle.weld_passes.specs.Normal.{IsOptimised}
use Rattle.weld_share.specs.declared.note.RunNote.{RunNote}
use Rattle.weld_words.specs.declared.options.Options.{Options}
use Rattle.weld_front.specs.Concluding.{IsCounted, IsReport, IsTold, Concludes}
use Rattle.weld_front.specs.Answer.{ProgramAnswers, ProgramConcludes, IsShown}
use Rattle.weld_front.specs.Texts.{report_text}
use Rattle.weld_front.specs.declared.status.Status.{Status}
use Rattle.weld_front.specs.declared.status.Status.TheVariants.{Done, Fault, Words, Refused, Unfit, Read, Write, Memory}

-- what is known of noted types: they don't count
pub record NotesKnown : Type 0 where
  pub same : (p q : ProgramTree) → IsSameButNotes p q → AreSame p q
  pub meant : (p q : ProgramTree) (vs : List Value) → AreSame p q → length vs ≡ length p.params → meaning p vs ≡ meaning q vs
  pub counts : (p q : ProgramTree) → AreSame p q → loops p.body ≡ loops q.body
  pub chains : (p q : ProgramTree) → IsSameButNotes p q → (k : ℕ) → IsChainProgram k q.body → IsChainProgram k p.body

blocks_length : (ps : List Binder) (blocks : List Block) (vs : List Value) → BlocksGive ps blocks vs → length vs ≡ length ps
blocks_length [] [] [] h = refl
blocks_length [] [] (v ∷ vs) h = absurd h
blocks_length [] (x ∷ xs) vs h = absurd h
blocks_length (b ∷ bs) [] vs h = absurd h
blocks_length (b ∷ bs) (x ∷ xs) [] h = absurd h
blocks_length (b ∷ bs) (x ∷ xs) (v ∷ vs) h = ap suc (blocks_length bs xs vs h.1)

data_length : (stray : Bool) (ps : List Binder) (blocks : List Block) (vs : List Value) → DataGive stray ps blocks vs → length vs ≡ length ps
data_length true ps blocks vs h = absurd h
data_length false ps blocks vs h = blocks_length ps blocks vs h

params_same : (p q : ProgramTree) → IsSameButNotes p q → p.params ≡ q.params
params_same p q h = ap (λ (x : ProgramTree). x.params) h

pub fit_length : (ps : List Binder) (vs : List Value) → ArgumentsFit ps vs → length vs ≡ length ps
fit_length [] [] h = refl
fit_length [] (v ∷ vs) h = absurd h
fit_length (b ∷ bs) [] h = absurd h
fit_length (b ∷ bs) (v ∷ vs) h = ap suc (fit_length bs vs h.1)

-- what is optimised from the one is so from the other
pub optimised_spelled : NotesKnown → (r p q : ProgramTree) → IsSameButNotes p q → IsOptimised r p → IsOptimised r q
optimised_spelled known r p q h o =
    let same : p.params ≡ q.params = params_same p q h in
    record {
      params = o.params ∙ same;
      accepted = o.accepted;
      normal = o.normal;
      means = λ vs f.
          let fits : ArgumentsFit p.params vs = subst (λ (ps : List Binder). ArgumentsFit ps vs) (sym same) f in
          o.means vs fits ∙ known.meant p q vs (known.same p q h) (fit_length p.params vs fits);
      chain = λ k is. subst (λ (n : ℕ). loops r.body + k ≤ n) (known.counts p q (known.same p q h)) (o.chain k (known.chains p q h k is));
      loops = subst (λ (n : ℕ). loops r.body ≤ n) (known.counts p q (known.same p q h)) o.loops;
    }

pub shown_spelled : NotesKnown → (p q : ProgramTree) (x : List ℕ) → IsSameButNotes p q → IsShown p x → IsShown q x
shown_spelled known p q x h s = record {
  shown = s.shown;
  optimised = optimised_spelled known s.shown p q h s.optimised;
  told = s.told;
  read = s.read;
  spelled = s.spelled;
  same = s.same;
}

counted_spelled : NotesKnown → (p q : ProgramTree) (vs : List Value) (cut : ℕ) (note : RunNote) → IsSameButNotes p q → IsCounted p vs cut note → IsCounted q vs cut note
counted_spelled known p q vs cut note h c = record { ran = c.ran; optimised = optimised_spelled known c.ran p q h c.optimised; counted = c.counted }

report_spelled : NotesKnown → (p q : ProgramTree) (vs : List Value) (cut : ℕ) (lines : List ℕ) → IsSameButNotes p q → IsReport p vs cut lines → IsReport q vs cut lines
report_spelled known p q vs cut lines h r = record {
  note = r.note;
  counted = counted_spelled known p q vs cut r.note h r.counted;
  told = r.told ∙ ap (λ (n : ℕ). report_text n r.note) (known.counts p q (known.same p q h));
}

pub told_so : (b : Bool) (P Q : List ℕ → Type 0) (x y : List ℕ) → ((lines : List ℕ) → P lines → Q lines) → IsTold b P x y → IsTold b Q x y
told_so true P Q x y f (lines, p, e) = (lines, f lines p, e)
told_so false P Q x y f e = e

pub concludes : (b : Bool) (P Q : List ℕ → Type 0) (t : TypeTree) (o u : Outcome Value) (s : Status) (x : List ℕ) → ((lines : List ℕ) → P lines → Q lines) → o ≡ u → Concludes b P t o s x → Concludes b Q t u s x
concludes b P Q t o u Done x f e (v, m, h) = (v, sym e ∙ m, told_so b P Q _ x f h)
concludes b P Q t o u Fault x f e (m, h) = (sym e ∙ m, h)
concludes b P Q t o u Words x f e h = absurd h
concludes b P Q t o u Refused x f e h = absurd h
concludes b P Q t o u Unfit x f e h = absurd h
concludes b P Q t o u Read x f e h = absurd h
concludes b P Q t o u Write x f e h = absurd h
concludes b P Q t o u Memory x f e h = absurd h

on_data : NotesKnown → (o : Options) (p q : ProgramTree) (t : TypeTree) (job : Job) (s : Status) (x : List ℕ) → IsSameButNotes p q → (vs : List Value) × Arguments p.params job vs × ProgramConcludes o p t vs s x → (vs : List Value) × Arguments q.params job vs × ProgramConcludes o q t vs s x
on_data known o p q t job s x h (vs, a, c) = (
  vs,
  subst (λ (ps : List Binder). Arguments ps job vs) (params_same p q h) a,
  concludes o.report (IsReport p vs o.cut) (IsReport q vs o.cut) t (meaning p vs) (meaning q vs) s x
      (λ lines r. report_spelled known p q vs o.cut lines h r)
      (known.meant p q vs (known.same p q h) (data_length job.stray p.params job.blocks vs a)) c,
)

pub spelled_answers : NotesKnown → (o : Options) (p q : ProgramTree) (t : TypeTree) (job : Job) (s : Status) (x : List ℕ) → IsSameButNotes p q → ProgramAnswers o p t job s x → ProgramAnswers o q t job s x
spelled_answers known o p q t job Unfit x h (n, c, u, e) = (n, c, subst (λ (ps : List Binder). IsUnfit ps job n c) (params_same p q h) u, e)
spelled_answers known o p q t job Done x h a = on_data known o p q t job Done x h a
spelled_answers known o p q t job Fault x h a = on_data known o p q t job Fault x h a
spelled_answers known o p q t job Words x h a = on_data known o p q t job Words x h a
spelled_answers known o p q t job Refused x h a = on_data known o p q t job Refused x h a
spelled_answers known o p q t job Read x h a = on_data known o p q t job Read x h a
spelled_answers known o p q t job Write x h a = on_data known o p q t job Write x h a
spelled_answers known o p q t job Memory x h a = on_data known o p q t job Memory x h a
