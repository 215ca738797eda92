-- The parts of vectors and structs, and the legs of loops, one after another.
use Rattle.std.proofs.Common.{◌≡◌, ℕ, ◌+◌, ◌<◌, ◌≤◌, List, [], ◌∷◌, ◌++◌, length, drop, get_or, map, refl, sym, ap, ◌∙◌, subst, append_assoc, append-nil}
use Rattle.std.proofs.lemmas.List.{at_drop_more, drop_all}
use Rattle.weld_data.specs.Value.{Value}
use Rattle.weld_tree.specs.TypeTree.{TypeTrees, no_types, more_types}
use Rattle.weld_tree.specs.ExprTree.{ExprTree, ExprTrees, At, many, Many, no_exprs, more_exprs, pack_exprs, pack_legs}
use Rattle.weld_tree.specs.ExprView.{view_leg}
use Rattle.weld_tree.specs.declared.expr.Leg.{Leg}
use Rattle.weld_builders.specs.Outcome.{Outcome, done, fault, stuck, and_then, map_out}
use Rattle.weld_meaning.specs.Environment.{Named}
use Rattle.weld_meaning.specs.Thing.{Thing, Things, no_things, more_things}
use Rattle.weld_meaning.specs.Typing.{Types, HaveTypes}
use Rattle.weld_meaning.specs.Origin.{Origin}
use Rattle.weld_meaning.specs.Evaluation.{Env, eval, eval_all, eval_leg, eval_legs}
use Rattle.weld_eval.specs.declared.thing.Held.{Held}
use Rattle.weld_eval.specs.ThingView.{held_of}
use Rattle.weld_eval.specs.Fit.{AreNamed, IsFit, AreFit, LegIsFit, LegsAreFit}
use Rattle.weld_eval.proofs.Children.{gives, fit_many, fit_first_of_all, fit_rest_of_all, fit_first_leg, fit_rest_of_legs}
use Rattle.weld_eval_forms.specs.FormTakes.{before_things, pack_things, AreOfTypes, ManyTakes}
use Rattle.weld_eval_forms.specs.Legs.{elements_in, leg_lists, IsVector, AreVectors}

-- ---- a vector or a struct

pub parts_fit : (a : At) (o : Many) (es : ExprTrees) (env : Env) (n : ExprTree) → n ≡ many a o es → IsFit n env → AreFit es env
parts_fit a o es env n is h = fit_many a o es env (subst (λ m. IsFit m env) is h)

all_done : (C : Type 0) (o : Outcome Thing) (p : Outcome Things) (xs : Things) → and_then o (λ t. map_out (more_things t) p) ≡ done xs → ((y : Thing) (ys : Things) → o ≡ done y → p ≡ done ys → xs ≡ more_things y ys → C) → C
all_done C (done y) (done ys) xs q k = let same : more_things y ys ≡ xs = cc in k y ys refl refl (sym same)
all_done C (done y) fault xs q k = let no : ⊥ = cc in absurd no
all_done C (done y) stuck xs q k = let no : ⊥ = cc in absurd no
all_done C fault p xs q k = let no : ⊥ = cc in absurd no
all_done C stuck p xs q k = let no : ⊥ = cc in absurd no

are_of_types : (es : ExprTrees) (names : Types) (origins : Named Origin) (env : Env) (us : TypeTrees) (xs : Things) → AreNamed names origins env → HaveTypes es names us → eval_all es env ≡ done xs → AreOfTypes xs us
are_of_types no_exprs names origins env no_types xs n h q = let same : no_things ≡ xs = cc in subst (λ ys. AreOfTypes ys no_types) same tt
are_of_types no_exprs names origins env (more_types u us) xs n h q = absurd h
are_of_types (more_exprs e es) names origins env no_types xs n h q = absurd h
are_of_types (more_exprs e es) names origins env (more_types u us) xs n h q =
    all_done (AreOfTypes xs (more_types u us)) (eval e env) (eval_all es env) xs q
    (λ y ys p r same. subst (λ zs. AreOfTypes zs (more_types u us)) (sym same) (gives e names origins env u y n h.0 p, are_of_types es names origins env us ys n h.1 r))

takes_many : (a : At) (o : Many) (es : ExprTrees) (env : Env) (xs : Things) → IsFit (many a o es) env → eval_all es env ≡ done xs → ManyTakes o xs
takes_many a o es env xs h q = record { types = h.typed.0; answer = h.answer; rule = h.typed.2; have = are_of_types es h.names h.origins env h.typed.0 xs h.named h.typed.1 q }

pub parts_take : (a : At) (o : Many) (es : ExprTrees) (env : Env) (n : ExprTree) (xs : Things) → n ≡ many a o es → IsFit n env → eval_all es env ≡ done xs → ManyTakes o xs
parts_take a o es env n xs is h q = takes_many a o es env xs (subst (λ m. IsFit m env) is h) q

-- ---- parts, one after another

pub part_fits : (es : List ExprTree) (env : Env) (i : ℕ) (e : ExprTree) → i < length es → e ≡ get_or es i e → AreFit (pack_exprs (drop i es)) env → IsFit e env
part_fits es env i e h is fit =
    subst (λ d. IsFit d env) (sym is) (fit_first_of_all (get_or es i e) (pack_exprs (drop (i + 1) es)) env (subst (λ l. AreFit l env) (at_drop_more (λ l. pack_exprs l) es i e h) fit))

pub rest_fits : (es : List ExprTree) (env : Env) (i : ℕ) (e : ExprTree) → i < length es → e ≡ get_or es i e → AreFit (pack_exprs (drop i es)) env → AreFit (pack_exprs (drop (i + 1) es)) env
rest_fits es env i e h is fit =
    fit_rest_of_all (get_or es i e) (pack_exprs (drop (i + 1) es)) env (subst (λ l. AreFit l env) (at_drop_more (λ l. pack_exprs l) es i e h) fit)

one_before : (xs : List Thing) (x : Thing) (ts : Things) → before_things (xs ++ x ∷ []) ts ≡ before_things xs (more_things x ts)
one_before [] x ts = refl
one_before (y ∷ ys) x ts = ap (more_things y) (one_before ys x ts)

gathered : (xs : List Thing) (x : Thing) (o : Outcome Things) → map_out (before_things xs) (map_out (more_things x) o) ≡ map_out (before_things (xs ++ x ∷ [])) o
gathered xs x (done ts) = ap done (sym (one_before xs x ts))
gathered xs x fault = refl
gathered xs x stuck = refl

all_from : (es : List ExprTree) (env : Env) (xs : List Thing) (i : ℕ) (e : ExprTree) → i < length es → e ≡ get_or es i e
    → map_out (before_things xs) (eval_all (pack_exprs (drop i es)) env) ≡ map_out (before_things xs) (and_then (eval e env) (λ t. map_out (more_things t) (eval_all (pack_exprs (drop (i + 1) es)) env)))
all_from es env xs i e h is =
    at_drop_more (λ l. map_out (before_things xs) (eval_all (pack_exprs l) env)) es i e h
    ∙ ap (λ d. map_out (before_things xs) (and_then (eval d env) (λ t. map_out (more_things t) (eval_all (pack_exprs (drop (i + 1) es)) env)))) (sym is)

pub part_done : (es : List ExprTree) (env : Env) (xs ys : List Thing) (i : ℕ) (e : ExprTree) (x : Thing) → i < length es → e ≡ get_or es i e → eval e env ≡ done x → ys ≡ xs ++ x ∷ []
    → map_out (before_things xs) (eval_all (pack_exprs (drop i es)) env) ≡ map_out (before_things ys) (eval_all (pack_exprs (drop (i + 1) es)) env)
part_done es env xs ys i e x h is q more =
    all_from es env xs i e h is
    ∙ ap (λ o. map_out (before_things xs) (and_then o (λ t. map_out (more_things t) (eval_all (pack_exprs (drop (i + 1) es)) env)))) q
    ∙ gathered xs x (eval_all (pack_exprs (drop (i + 1) es)) env)
    ∙ ap (λ zs. map_out (before_things zs) (eval_all (pack_exprs (drop (i + 1) es)) env)) (sym more)

pub part_faults : (es : List ExprTree) (env : Env) (xs : List Thing) (i : ℕ) (e : ExprTree) → i < length es → e ≡ get_or es i e → eval e env ≡ fault
    → map_out (before_things xs) (eval_all (pack_exprs (drop i es)) env) ≡ fault
part_faults es env xs i e h is q =
    all_from es env xs i e h is ∙ ap (λ o. map_out (before_things xs) (and_then o (λ t. map_out (more_things t) (eval_all (pack_exprs (drop (i + 1) es)) env)))) q

pub no_part_left : (es : List ExprTree) (env : Env) (xs : List Thing) (i : ℕ) → length es ≤ i → map_out (before_things xs) (eval_all (pack_exprs (drop i es)) env) ≡ done (pack_things xs)
no_part_left es env xs i h = ap (λ l. map_out (before_things xs) (eval_all (pack_exprs l) env)) (drop_all i es h)

-- ---- legs, one after another

pub leg_fits : (ls : List Leg) (env : Env) (i : ℕ) (l : Leg) → i < length ls → l ≡ get_or ls i l → LegsAreFit (pack_legs (map view_leg (drop i ls))) env → LegIsFit (view_leg l) env
leg_fits ls env i l h is fit =
    subst (λ m. LegIsFit (view_leg m) env) (sym is) (fit_first_leg (view_leg (get_or ls i l)) (pack_legs (map view_leg (drop (i + 1) ls))) env (subst (λ k. LegsAreFit k env) (at_drop_more (λ k. pack_legs (map view_leg k)) ls i l h) fit))

pub legs_rest_fit : (ls : List Leg) (env : Env) (i : ℕ) (l : Leg) → i < length ls → l ≡ get_or ls i l → LegsAreFit (pack_legs (map view_leg (drop i ls))) env → LegsAreFit (pack_legs (map view_leg (drop (i + 1) ls))) env
legs_rest_fit ls env i l h is fit =
    fit_rest_of_legs (view_leg (get_or ls i l)) (pack_legs (map view_leg (drop (i + 1) ls))) env (subst (λ k. LegsAreFit k env) (at_drop_more (λ k. pack_legs (map view_leg k)) ls i l h) fit)

gathered_lists : (xs : List (List Value)) (x : List Value) (o : Outcome (List (List Value))) → map_out (λ rest. xs ++ rest) (map_out (λ rest. x ∷ rest) o) ≡ map_out (λ rest. (xs ++ x ∷ []) ++ rest) o
gathered_lists xs x (done ts) = ap done (sym (append_assoc xs (x ∷ []) ts))
gathered_lists xs x fault = refl
gathered_lists xs x stuck = refl

legs_from : (ls : List Leg) (env : Env) (xs : List (List Value)) (i : ℕ) (l : Leg) → i < length ls → l ≡ get_or ls i l
    → map_out (λ rest. xs ++ rest) (eval_legs (pack_legs (map view_leg (drop i ls))) env) ≡ map_out (λ rest. xs ++ rest) (and_then (eval_leg (view_leg l) env) (λ vs. map_out (λ rest. vs ∷ rest) (eval_legs (pack_legs (map view_leg (drop (i + 1) ls))) env)))
legs_from ls env xs i l h is =
    at_drop_more (λ k. map_out (λ rest. xs ++ rest) (eval_legs (pack_legs (map view_leg k)) env)) ls i l h
    ∙ ap (λ d. map_out (λ rest. xs ++ rest) (and_then (eval_leg (view_leg d) env) (λ vs. map_out (λ rest. vs ∷ rest) (eval_legs (pack_legs (map view_leg (drop (i + 1) ls))) env)))) (sym is)

pub leg_done : (ls : List Leg) (env : Env) (xs ys : List (List Value)) (i : ℕ) (l : Leg) (x : List Value) → i < length ls → l ≡ get_or ls i l → eval_leg (view_leg l) env ≡ done x → ys ≡ xs ++ x ∷ []
    → map_out (λ rest. xs ++ rest) (eval_legs (pack_legs (map view_leg (drop i ls))) env) ≡ map_out (λ rest. ys ++ rest) (eval_legs (pack_legs (map view_leg (drop (i + 1) ls))) env)
leg_done ls env xs ys i l x h is q more =
    legs_from ls env xs i l h is
    ∙ ap (λ o. map_out (λ rest. xs ++ rest) (and_then o (λ vs. map_out (λ rest. vs ∷ rest) (eval_legs (pack_legs (map view_leg (drop (i + 1) ls))) env)))) q
    ∙ gathered_lists xs x (eval_legs (pack_legs (map view_leg (drop (i + 1) ls))) env)
    ∙ ap (λ zs. map_out (λ rest. zs ++ rest) (eval_legs (pack_legs (map view_leg (drop (i + 1) ls))) env)) (sym more)

pub leg_faults : (ls : List Leg) (env : Env) (xs : List (List Value)) (i : ℕ) (l : Leg) → i < length ls → l ≡ get_or ls i l → eval_leg (view_leg l) env ≡ fault
    → map_out (λ rest. xs ++ rest) (eval_legs (pack_legs (map view_leg (drop i ls))) env) ≡ fault
leg_faults ls env xs i l h is q =
    legs_from ls env xs i l h is ∙ ap (λ o. map_out (λ rest. xs ++ rest) (and_then o (λ vs. map_out (λ rest. vs ∷ rest) (eval_legs (pack_legs (map view_leg (drop (i + 1) ls))) env)))) q

pub no_leg_left : (ls : List Leg) (env : Env) (xs : List (List Value)) (i : ℕ) → length ls ≤ i → map_out (λ rest. xs ++ rest) (eval_legs (pack_legs (map view_leg (drop i ls))) env) ≡ done xs
no_leg_left ls env xs i h = ap (λ k. map_out (λ rest. xs ++ rest) (eval_legs (pack_legs (map view_leg k)) env)) (drop_all i ls h) ∙ ap done (append-nil xs)

pub one_vector_more : (hs : List Held) (h : Held) → AreVectors hs → IsVector (held_of h) → AreVectors (hs ++ h ∷ [])
one_vector_more [] h all one = (one, tt)
one_vector_more (g ∷ gs) h all one = (all.0, one_vector_more gs h all.1 one)

pub one_list_more : (hs : List Held) (h : Held) → leg_lists (hs ++ h ∷ []) ≡ leg_lists hs ++ elements_in h ∷ []
one_list_more [] h = refl
one_list_more (g ∷ gs) h = ap (λ l. elements_in g ∷ l) (one_list_more gs h)
