-- Where a run stands, in the words of the code.
use Rattle.std.proofs.Common.{◌≡◌, Bool, true, false, if◌then◌else◌, List, [], ◌∷◌, ◌++◌, sym, ap, ◌∙◌, subst}
use Rattle.weld_data.specs.Value.{Value}
use Rattle.weld_tree.specs.declared.binder.Binder.{Binder}
use Rattle.weld_tree.specs.ExprTree.{ExprTree, At, LegTree, LegTrees, more_legs, loop}
use Rattle.weld_tree.specs.Program.{ProgramTree}
use Rattle.weld_builders.specs.Outcome.{Outcome, done, fault, stuck, and_then, map_out}
use Rattle.weld_meaning.specs.Accepted.{IsAccepted}
use Rattle.weld_meaning.specs.Thing.{Thing, plain, Things, no_things, more_things, first_of, rest_of}
use Rattle.weld_meaning.specs.Evaluation.{Env, eval, eval_leg, eval_legs}
use Rattle.weld_meaning.specs.Meaning.{ArgumentsFit, with_arguments}
use Rattle.weld_eval.specs.Fit.{IsFit, LegIsFit}
use Rattle.weld_eval.proofs.Children.{fit_first_leg, fit_rest_of_legs, fit_legs}
use Rattle.weld_eval_forms.specs.Legs.{IsVector, AreVectors, or_none, elements_of_thing}
use Rattle.weld_eval.specs.declared.thing.Held.{Held}
use Rattle.weld_eval.specs.ThingView.{held_of}
use Rattle.weld_eval_plain.specs.Turns.{HoldsState}
use Rattle.weld_eval_plain.proofs.Parts.{one_vector_more}
use Rattle.weld_plan.specs.StepTree.{StepTree, is_read, run_turns, steps_of}
use Rattle.weld_plan.specs.Leads.{Where, IsOnTop, AreThere, lists_in, below_legs, Leads}
use Rattle.weld_plan.proofs.Programs.{program_leads}
use Rattle.weld_exec.specs.Stacked.{IsSomething, LegsStand, HasPile, AreThereAt}

-- ---- the start

pub starts : (p : ProgramTree) (vs : List Value) (steps : List StepTree) (ls : Env) → IsAccepted p → steps ≡ steps_of p.body 0 → ArgumentsFit p.params vs → ls ≡ []
    → Leads steps 0 (with_arguments p.params vs) ls no_things (eval p.body (with_arguments p.params vs))
starts p vs steps ls h is fit none =
    subst (λ (l : Env). Leads steps 0 (with_arguments p.params vs) l no_things (eval p.body (with_arguments p.params vs))) (sym none)
    (subst (λ (l : List StepTree). Leads l 0 (with_arguments p.params vs) [] no_things (eval p.body (with_arguments p.params vs))) (sym is) (program_leads p vs h fit))

-- ---- turns

same_state : (v w : Value) → plain v ≡ plain w → v ≡ w
same_state v w e = cc

pub state_ready : (n : ExprTree) (rest : List StepTree) (g ls : Env) (st : Things) (o : Outcome Thing) (t : Thing) (v : Value) → Leads (run_turns n ∷ rest) 0 g ls st o → t ≡ first_of st → t ≡ plain v → HoldsState n (ls ++ g) v
state_ready n rest g ls no_things o t v h e q = absurd h
state_ready n rest g ls (more_things u st) o t v h e q = subst (HoldsState n (ls ++ g)) (same_state h.0 v (sym h.1 ∙ sym e ∙ q)) h.3

-- ---- legs

later_done : (C : Type 0) (o : Outcome (List Value)) (p : Outcome (List (List Value))) (xs : List Value) (rest : List (List Value)) → and_then o (λ vs. map_out (λ more. vs ∷ more) p) ≡ done (xs ∷ rest) → (o ≡ done xs → p ≡ done rest → C) → C
later_done C (done vs) (done more) xs rest q k = let first : vs ≡ xs = cc in let second : more ≡ rest = cc in k (ap done first) (ap done second)
later_done C (done vs) fault xs rest q k = let no : ⊥ = cc in absurd no
later_done C (done vs) stuck xs rest q k = let no : ⊥ = cc in absurd no
later_done C fault p xs rest q k = let no : ⊥ = cc in absurd no
later_done C stuck p xs rest q k = let no : ⊥ = cc in absurd no

pub leg_fit : (l : LegTree) (js : LegTrees) (env : Env) (st : Things) → LegsStand (more_legs l js) env st → LegIsFit l env
leg_fit l js env st h = fit_first_leg l js env h.fit

read_lists : (l : LegTree) (js : LegTrees) (env : Env) (st : Things) → is_read l ≡ true → lists_in (more_legs l js) env st ≡ or_none (eval_leg l env) ∷ lists_in js env st
read_lists l js env st r = ap (λ (b : Bool). if b then or_none (eval_leg l env) ∷ lists_in js env st else elements_of_thing (first_of st) ∷ lists_in js env (rest_of st)) r

stacked_lists : (l : LegTree) (js : LegTrees) (env : Env) (st : Things) → is_read l ≡ false → lists_in (more_legs l js) env st ≡ elements_of_thing (first_of st) ∷ lists_in js env (rest_of st)
stacked_lists l js env st r = ap (λ (b : Bool). if b then or_none (eval_leg l env) ∷ lists_in js env st else elements_of_thing (first_of st) ∷ lists_in js env (rest_of st)) r

pub rest_read : (l : LegTree) (js : LegTrees) (env : Env) (st : Things) → is_read l ≡ true → LegsStand (more_legs l js) env st → LegsStand js env st
rest_read l js env st r h = record {
  fit = fit_rest_of_legs l js env h.fit;
  lists = later_done (eval_legs js env ≡ done (lists_in js env st)) (eval_leg l env) (eval_legs js env) (or_none (eval_leg l env)) (lists_in js env st) (h.lists ∙ ap done (read_lists l js env st r)) (λ p q. q);
  there = subst (λ b. Where b (AreThere js st) (IsOnTop st × AreThere js (rest_of st))) r h.there;
}

pub rest_stacked : (l : LegTree) (js : LegTrees) (env : Env) (t : Thing) (st : Things) → is_read l ≡ false → LegsStand (more_legs l js) env (more_things t st) → LegsStand js env st
rest_stacked l js env t st r h = record {
  fit = fit_rest_of_legs l js env h.fit;
  lists = later_done (eval_legs js env ≡ done (lists_in js env st)) (eval_leg l env) (eval_legs js env) (elements_of_thing t) (lists_in js env st) (h.lists ∙ ap done (stacked_lists l js env (more_things t st) r)) (λ p q. q);
  there = (subst (λ b. Where b (AreThere js (more_things t st)) (IsVector t × AreThere js st)) r h.there).1;
}

pub vector_on_top : (l : LegTree) (js : LegTrees) (env : Env) (t : Thing) (st : Things) → is_read l ≡ false → LegsStand (more_legs l js) env (more_things t st) → IsVector t
vector_on_top l js env t st r h = (subst (λ b. Where b (AreThere js (more_things t st)) (IsVector t × AreThere js st)) r h.there).0

pub something_there : (l : LegTree) (js : LegTrees) (env : Env) → is_read l ≡ false → LegsStand (more_legs l js) env no_things → ⊥
something_there l js env r h = (subst (λ b. Where b (AreThere js no_things) (⊥ × AreThere js no_things)) r h.there).0

pub leg_no_fault : (l : LegTree) (js : LegTrees) (env : Env) (st : Things) → is_read l ≡ true → LegsStand (more_legs l js) env st → eval_leg l env ≡ fault → ⊥
leg_no_fault l js env st r h q =
    later_done ⊥ (eval_leg l env) (eval_legs js env) (or_none (eval_leg l env)) (lists_in js env st) (h.lists ∙ ap done (read_lists l js env st r)) (λ p k. let no : fault ≡ done (or_none (eval_leg l env)) = sym q ∙ p in let bad : ⊥ = cc in bad)

pub legs_stand : (a : At) (ls : LegTrees) (e : ExprTree) (b n x : Binder) (f : ExprTree) (env : Env) (m : ExprTree) (st : Things) → m ≡ loop a ls e b n x f → IsFit m env → HasPile m env st → LegsStand ls env st
legs_stand a ls e b n x f env m st is h p =
    let k = subst (λ d. HasPile d env st) is p in
    record { fit = fit_legs a ls e b n x f env (subst (λ d. IsFit d env) is h); lists = k.0; there = k.1 }

-- ---- legs that go

pub legs_there : (a : At) (ls : LegTrees) (e : ExprTree) (b n x : Binder) (f : ExprTree) (m : ExprTree) (st : Things) → m ≡ loop a ls e b n x f → AreThereAt m st → AreThere ls st
legs_there a ls e b n x f m st is h = subst (λ d. AreThereAt d st) is h

pub below_read : (l : LegTree) (js : LegTrees) (st : Things) → is_read l ≡ true → below_legs (more_legs l js) st ≡ below_legs js st
below_read l js st r = ap (λ (b : Bool). if b then below_legs js st else below_legs js (rest_of st)) r

pub below_stacked : (l : LegTree) (js : LegTrees) (st : Things) → is_read l ≡ false → below_legs (more_legs l js) st ≡ below_legs js (rest_of st)
below_stacked l js st r = ap (λ (b : Bool). if b then below_legs js st else below_legs js (rest_of st)) r

pub there_read : (l : LegTree) (js : LegTrees) (st : Things) → is_read l ≡ true → AreThere (more_legs l js) st → AreThere js st
there_read l js st r h = subst (λ b. Where b (AreThere js st) (IsOnTop st × AreThere js (rest_of st))) r h

pub there_stacked : (l : LegTree) (js : LegTrees) (st : Things) → is_read l ≡ false → AreThere (more_legs l js) st → AreThere js (rest_of st)
there_stacked l js st r h = (subst (λ b. Where b (AreThere js st) (IsOnTop st × AreThere js (rest_of st))) r h).1

top_something : (st : Things) → IsOnTop st → IsSomething st
top_something no_things h = h
top_something (more_things t st) h = tt

pub stacked_something : (l : LegTree) (js : LegTrees) (st : Things) → is_read l ≡ false → AreThere (more_legs l js) st → IsSomething st
stacked_something l js st r h = top_something st (subst (λ b. Where b (AreThere js st) (IsOnTop st × AreThere js (rest_of st))) r h).0

pub vectors_more : (hs gs : List Held) (h : Held) → AreVectors hs → IsVector (held_of h) → gs ≡ hs ++ h ∷ [] → AreVectors gs
vectors_more hs gs h all one is = subst AreVectors (sym is) (one_vector_more hs h all one)
