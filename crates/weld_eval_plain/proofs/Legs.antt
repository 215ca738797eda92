-- One leg of a loop, and what all of them are.
use Rattle.std.proofs.Common.{◌≡◌, ◌<◌, List, [], ◌∷◌, length, refl, ap, ◌∙◌, subst, arith}
use Rattle.weld_data.specs.Value.{Value, number, list, struct, dict, values}
use Rattle.weld_tree.specs.TypeTree.{TypeTree, TypeTrees, no_types, more_types, vec}
use Rattle.weld_tree.specs.ExprTree.{ExprTree, LegTree, whole, strided, LegTrees, no_legs, more_legs}
use Rattle.weld_tree.specs.HasValue.{HasValue, AllAre}
use Rattle.weld_builders.specs.Outcome.{Outcome, done, fault, and_then}
use Rattle.weld_meaning.specs.Thing.{Thing, plain, building, several}
use Rattle.weld_meaning.specs.ThingType.{HasThing, EnvFits}
use Rattle.weld_meaning.specs.Typing.{Types, AreFormed, LegHas, LegsHave, RowHas, place_type}
use Rattle.weld_meaning.specs.Evaluation.{Env, eval, eval_leg, eval_legs, value_out, elements_of, strided_of}
use Rattle.weld_meaning.proofs.Good.{Good, good, then_good, map_good, value_out_good}
use Rattle.weld_meaning.proofs.ValuesGood.{LegsFit, elements_good, strided_good}
use Rattle.weld_meaning.proofs.NeverStuck.{never_stuck}
use Rattle.weld_eval.specs.declared.thing.Held.{Held}
use Rattle.weld_eval.specs.Fit.{IsFit, LegIsFit}
use Rattle.weld_eval.proofs.Children.{key_laws, gives}
use Rattle.weld_eval_forms.specs.Legs.{leg_lists, IsVector, IsPlace}

-- ---- all legs have elements of their types

leg_good : (l : LegTree) (g : Types) (u : TypeTree) (env : Env) → LegHas l g u → AreFormed g → EnvFits g env → Good (λ vs. AllAre (HasValue u) (values vs)) (eval_leg l env)
leg_good (whole e) g u env h w fit =
    then_good elements_of (value_out_good (vec u) tt (never_stuck key_laws e g (vec u) env h w fit)) (λ v p. elements_good u v p)
leg_good (strided e f k i) g u env h w fit =
    let q = never_stuck key_laws f g place_type env h.1 w fit in
    let r = never_stuck key_laws k g place_type env h.2 w fit in
    let s = never_stuck key_laws i g place_type env h.3 w fit in
    then_good _ (value_out_good (vec u) tt (never_stuck key_laws e g (vec u) env h.0 w fit)) (λ v p.
    then_good _ (value_out_good place_type tt q) (λ from a. then_good _ (value_out_good place_type tt r) (λ to b. then_good _ (value_out_good place_type tt s) (λ d c.
    strided_good u v from to d p a b c))))

pub legs_good : (ls : LegTrees) (g : Types) (us : TypeTrees) (env : Env) → LegsHave ls g us → AreFormed g → EnvFits g env → Good (LegsFit us) (eval_legs ls env)
legs_good no_legs g no_types env h w fit = good tt
legs_good no_legs g (more_types u us) env h w fit = absurd h
legs_good (more_legs l ls) g no_types env h w fit = absurd h
legs_good (more_legs l ls) g (more_types u us) env h w fit =
    then_good _ (leg_good l g u env h.0 w fit) (λ vs p. map_good (λ rest. vs ∷ rest) (legs_good ls g us env h.1 w fit) (λ rest q. (p, q)))

pub some_leg : (us : TypeTrees) (r : TypeTree) (hs : List Held) → RowHas us r → LegsFit us (leg_lists hs) → 0 < length hs
some_leg no_types r hs row fit = absurd row
some_leg (more_types u us) r [] row fit = absurd fit
some_leg (more_types u us) r (h ∷ hs) row fit = omega arith

-- ---- a whole vector

vector_thing : (u : TypeTree) (x : Thing) → HasThing x (vec u) → IsVector x
vector_thing u (plain (number k y)) h = h
vector_thing u (plain (list vs)) h = tt
vector_thing u (plain (struct vs)) h = h
vector_thing u (plain (dict es)) h = h
vector_thing u (building p) h = h
vector_thing u (several ts) h = h

place_thing : (x : Thing) → HasThing x place_type → IsPlace x
place_thing (plain v) h = h
place_thing (building p) h = h
place_thing (several ts) h = h

fit_whole : (e : ExprTree) (env : Env) → LegIsFit (whole e) env → IsFit e env
fit_whole e env h = record { names = h.names; origins = h.origins; named = h.named; answer = vec h.answer; typed = h.typed; keeps = h.keeps }

pub whole_fits : (e : ExprTree) (env : Env) (l : LegTree) → l ≡ whole e → LegIsFit l env → IsFit e env
whole_fits e env l is h = fit_whole e env (subst (λ m. LegIsFit m env) is h)

vector_whole : (e : ExprTree) (env : Env) (x : Thing) → LegIsFit (whole e) env → eval e env ≡ done x → IsVector x
vector_whole e env x h q = vector_thing h.answer x (gives e h.names h.origins env (vec h.answer) x h.named h.typed q)

pub whole_is_vector : (e : ExprTree) (env : Env) (l : LegTree) (x : Thing) → l ≡ whole e → LegIsFit l env → eval e env ≡ done x → IsVector x
whole_is_vector e env l x is h q = vector_whole e env x (subst (λ m. LegIsFit m env) is h) q

-- ---- a vector with bounds and a stride

fit_vector : (e f g i : ExprTree) (env : Env) → LegIsFit (strided e f g i) env → IsFit e env
fit_vector e f g i env h = record { names = h.names; origins = h.origins; named = h.named; answer = vec h.answer; typed = h.typed.0; keeps = h.keeps.0 }

fit_start : (e f g i : ExprTree) (env : Env) → LegIsFit (strided e f g i) env → IsFit f env
fit_start e f g i env h = record { names = h.names; origins = h.origins; named = h.named; answer = place_type; typed = h.typed.1; keeps = h.keeps.1 }

fit_end : (e f g i : ExprTree) (env : Env) → LegIsFit (strided e f g i) env → IsFit g env
fit_end e f g i env h = record { names = h.names; origins = h.origins; named = h.named; answer = place_type; typed = h.typed.2; keeps = h.keeps.2 }

fit_stride : (e f g i : ExprTree) (env : Env) → LegIsFit (strided e f g i) env → IsFit i env
fit_stride e f g i env h = record { names = h.names; origins = h.origins; named = h.named; answer = place_type; typed = h.typed.3; keeps = h.keeps.3 }

pub vector_fits : (e f g i : ExprTree) (env : Env) (l : LegTree) → l ≡ strided e f g i → LegIsFit l env → IsFit e env
vector_fits e f g i env l is h = fit_vector e f g i env (subst (λ m. LegIsFit m env) is h)

pub start_fits : (e f g i : ExprTree) (env : Env) (l : LegTree) → l ≡ strided e f g i → LegIsFit l env → IsFit f env
start_fits e f g i env l is h = fit_start e f g i env (subst (λ m. LegIsFit m env) is h)

pub end_fits : (e f g i : ExprTree) (env : Env) (l : LegTree) → l ≡ strided e f g i → LegIsFit l env → IsFit g env
end_fits e f g i env l is h = fit_end e f g i env (subst (λ m. LegIsFit m env) is h)

pub stride_fits : (e f g i : ExprTree) (env : Env) (l : LegTree) → l ≡ strided e f g i → LegIsFit l env → IsFit i env
stride_fits e f g i env l is h = fit_stride e f g i env (subst (λ m. LegIsFit m env) is h)

strided_vector : (e f g i : ExprTree) (env : Env) (x : Thing) → LegIsFit (strided e f g i) env → eval e env ≡ done x → IsVector x
strided_vector e f g i env x h q = vector_thing h.answer x (gives e h.names h.origins env (vec h.answer) x h.named h.typed.0 q)

strided_start : (e f g i : ExprTree) (env : Env) (x : Thing) → LegIsFit (strided e f g i) env → eval f env ≡ done x → IsPlace x
strided_start e f g i env x h q = place_thing x (gives f h.names h.origins env place_type x h.named h.typed.1 q)

strided_end : (e f g i : ExprTree) (env : Env) (x : Thing) → LegIsFit (strided e f g i) env → eval g env ≡ done x → IsPlace x
strided_end e f g i env x h q = place_thing x (gives g h.names h.origins env place_type x h.named h.typed.2 q)

strided_stride : (e f g i : ExprTree) (env : Env) (x : Thing) → LegIsFit (strided e f g i) env → eval i env ≡ done x → IsPlace x
strided_stride e f g i env x h q = place_thing x (gives i h.names h.origins env place_type x h.named h.typed.3 q)

pub vector_is : (e f g i : ExprTree) (env : Env) (l : LegTree) (x : Thing) → l ≡ strided e f g i → LegIsFit l env → eval e env ≡ done x → IsVector x
vector_is e f g i env l x is h q = strided_vector e f g i env x (subst (λ m. LegIsFit m env) is h) q

pub start_is : (e f g i : ExprTree) (env : Env) (l : LegTree) (x : Thing) → l ≡ strided e f g i → LegIsFit l env → eval f env ≡ done x → IsPlace x
start_is e f g i env l x is h q = strided_start e f g i env x (subst (λ m. LegIsFit m env) is h) q

pub end_is : (e f g i : ExprTree) (env : Env) (l : LegTree) (x : Thing) → l ≡ strided e f g i → LegIsFit l env → eval g env ≡ done x → IsPlace x
end_is e f g i env l x is h q = strided_end e f g i env x (subst (λ m. LegIsFit m env) is h) q

pub stride_is : (e f g i : ExprTree) (env : Env) (l : LegTree) (x : Thing) → l ≡ strided e f g i → LegIsFit l env → eval i env ≡ done x → IsPlace x
stride_is e f g i env l x is h q = strided_stride e f g i env x (subst (λ m. LegIsFit m env) is h) q

abbrev by_parts : Outcome Thing → Outcome Thing → Outcome Thing → Outcome Thing → Outcome (List Value)
by_parts o p q r = and_then (value_out o) (λ v. and_then (value_out p) (λ s. and_then (value_out q) (λ end. and_then (value_out r) (λ d. strided_of v s end d))))

pub vector_faults : (e f g i : ExprTree) (env : Env) (l : LegTree) → l ≡ strided e f g i → eval e env ≡ fault → eval_leg l env ≡ fault
vector_faults e f g i env l is p = ap (λ m. eval_leg m env) is ∙ ap (λ o. by_parts o (eval f env) (eval g env) (eval i env)) p

is_plain_value : (x : Thing) → IsPlace x → (v : Value) × (x ≡ plain v)
is_plain_value (plain v) h = (v, refl)
is_plain_value (building p) h = absurd h
is_plain_value (several ts) h = absurd h

is_plain_vector : (x : Thing) → IsVector x → (v : Value) × (x ≡ plain v)
is_plain_vector (plain v) h = (v, refl)
is_plain_vector (building p) h = absurd h
is_plain_vector (several ts) h = absurd h

pub start_faults : (e f g i : ExprTree) (env : Env) (l : LegTree) (x : Thing) → l ≡ strided e f g i → eval e env ≡ done x → IsVector x → eval f env ≡ fault → eval_leg l env ≡ fault
start_faults e f g i env l x is p a q =
    let v = is_plain_vector x a in
    ap (λ m. eval_leg m env) is
    ∙ ap (λ o. by_parts o (eval f env) (eval g env) (eval i env)) (p ∙ ap done v.1)
    ∙ ap (λ o. by_parts (done (plain v.0)) o (eval g env) (eval i env)) q

pub end_faults : (e f g i : ExprTree) (env : Env) (l : LegTree) (x y : Thing) → l ≡ strided e f g i → eval e env ≡ done x → IsVector x → eval f env ≡ done y → IsPlace y → eval g env ≡ fault → eval_leg l env ≡ fault
end_faults e f g i env l x y is p a q b r =
    let v = is_plain_vector x a in
    let s = is_plain_value y b in
    ap (λ m. eval_leg m env) is
    ∙ ap (λ o. by_parts o (eval f env) (eval g env) (eval i env)) (p ∙ ap done v.1)
    ∙ ap (λ o. by_parts (done (plain v.0)) o (eval g env) (eval i env)) (q ∙ ap done s.1)
    ∙ ap (λ o. by_parts (done (plain v.0)) (done (plain s.0)) o (eval i env)) r

pub stride_faults : (e f g i : ExprTree) (env : Env) (l : LegTree) (x y z : Thing) → l ≡ strided e f g i → eval e env ≡ done x → IsVector x → eval f env ≡ done y → IsPlace y → eval g env ≡ done z → IsPlace z → eval i env ≡ fault → eval_leg l env ≡ fault
stride_faults e f g i env l x y z is p a q b r c u =
    let v = is_plain_vector x a in
    let s = is_plain_value y b in
    let t = is_plain_value z c in
    ap (λ m. eval_leg m env) is
    ∙ ap (λ o. by_parts o (eval f env) (eval g env) (eval i env)) (p ∙ ap done v.1)
    ∙ ap (λ o. by_parts (done (plain v.0)) o (eval g env) (eval i env)) (q ∙ ap done s.1)
    ∙ ap (λ o. by_parts (done (plain v.0)) (done (plain s.0)) o (eval i env)) (r ∙ ap done t.1)
    ∙ ap (λ o. by_parts (done (plain v.0)) (done (plain s.0)) (done (plain t.0)) o) u
