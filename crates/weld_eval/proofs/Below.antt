-- Names in scope that stand in front of others, in the code.
use Rattle.std.proofs.Common.{◌≡◌, ℕ, ◌++◌, Result, Option, Some, None, IsSome, Bor, ap, sym, subst, ◌∙◌}
use Rattle.weld_data.specs.declared.stop.Stop.{Stop}
use Rattle.weld_builders.specs.Outcome.{done}
use Rattle.weld_meaning.specs.Environment.{look_for}
use Rattle.weld_meaning.specs.Evaluation.{Env, found}
use Rattle.weld_meaning.specs.Thing.{Thing}
use Rattle.weld_eval.specs.Answers.{Answers}
use Rattle.weld_eval.specs.declared.frame.Frame.{Frame}
use Rattle.weld_eval.specs.declared.frame.Frame.TheFolds.{fold-roll-Frame}
use Rattle.weld_eval.specs.declared.frame.Frame.TheVariants as links
use Rattle.weld_eval.specs.declared.names.Names.{Names}
use Rattle.weld_eval.specs.declared.thing.Held.{Held}
use Rattle.weld_eval.specs.FrameView.{frame_step, env_of}
use Rattle.weld_eval.specs.NamesView.{env_of_names}
use Rattle.weld_eval.specs.ThingView.{held_of}
use Rattle.weld_eval.proofs.OwnedNames.{among_first, below_first}

in_front : (f : Frame) (ns : Bor Names) (r : Bor Frame) → f ≡ links.Names ns r → env_of f ≡ env_of_names ns.now ++ env_of r.now
in_front f ns r e = ap env_of e ∙ ap env_of (sym (links.rolls-Names ns r)) ∙ fold-roll-Frame Env frame_step _

pub found_among : (f : Frame) (ns : Bor Names) (r : Bor Frame) (s : ℕ) (t : Thing) → f ≡ links.Names ns r → look_for s (env_of_names ns.now) ≡ Some t → look_for s (env_of f) ≡ Some t
found_among f ns r s t e is = ap (look_for s) (in_front f ns r e) ∙ among_first (env_of_names ns.now) (env_of r.now) s t is

pub found_below : (f : Frame) (ns : Bor Names) (r : Bor Frame) (s : ℕ) (t : Thing) → f ≡ links.Names ns r → look_for s (env_of_names ns.now) ≡ None → look_for s (env_of r.now) ≡ Some t → look_for s (env_of f) ≡ Some t
found_below f ns r s t e none is = ap (look_for s) (in_front f ns r e) ∙ below_first (env_of_names ns.now) (env_of r.now) s none ∙ is

same_below : (f : Frame) (ns : Bor Names) (r : Bor Frame) (s : ℕ) → f ≡ links.Names ns r → look_for s (env_of_names ns.now) ≡ None → look_for s (env_of f) ≡ look_for s (env_of r.now)
same_below f ns r s e none = ap (look_for s) (in_front f ns r e) ∙ below_first (env_of_names ns.now) (env_of r.now) s none

pub is_below : (f : Frame) (ns : Bor Names) (r : Bor Frame) (s : ℕ) → f ≡ links.Names ns r → look_for s (env_of_names ns.now) ≡ None → IsSome (look_for s (env_of f)) → IsSome (look_for s (env_of r.now))
is_below f ns r s e none is = subst (λ (o : Option Thing). IsSome o) (same_below f ns r s e none) is

pub answers_among : (f : Frame) (ns : Bor Names) (r : Bor Frame) (s : ℕ) (t : Thing) (x : Result Held Stop) → f ≡ links.Names ns r → look_for s (env_of_names ns.now) ≡ Some t → Answers held_of x (done t) → Answers held_of x (found (look_for s (env_of f)))
answers_among f ns r s t x e is a = subst (λ (o : Option Thing). Answers held_of x (found o)) (sym (found_among f ns r s t e is)) a

pub answers_below : (f : Frame) (ns : Bor Names) (r : Bor Frame) (s : ℕ) (x : Result Held Stop) → f ≡ links.Names ns r → look_for s (env_of_names ns.now) ≡ None → Answers held_of x (found (look_for s (env_of r.now))) → Answers held_of x (found (look_for s (env_of f)))
answers_below f ns r s x e none a = subst (λ (o : Option Thing). Answers held_of x (found o)) (sym (same_below f ns r s e none)) a
