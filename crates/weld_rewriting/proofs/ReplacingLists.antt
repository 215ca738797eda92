-- Where each of some parts may be replaced: lists of parts, and legs.
use Rattle.std.proofs.Common.{◌≡◌, ◌||◌, refl, ap, ◌∷◌}
use Rattle.weld_tree.specs.TypeTree.{TypeTree, TypeTrees, vec, no_types, more_types}
use Rattle.weld_tree.specs.ExprTree.{ExprTrees, no_exprs, more_exprs, LegTree, whole, strided, LegTrees, no_legs, more_legs}
use Rattle.weld_builders.specs.Outcome.{and_then, map_out}
use Rattle.weld_meaning.specs.Environment.{Named}
use Rattle.weld_meaning.specs.Thing.{more_things}
use Rattle.weld_meaning.specs.Typing.{Types, place_type}
use Rattle.weld_meaning.specs.ThingType.{EnvFits}
use Rattle.weld_meaning.specs.Evaluation.{Env, value_out, elements_of, strided_of, eval_all, eval_leg, eval_legs}
use Rattle.weld_meaning.specs.Origin.{Origin, more_origins, origins}
use Rattle.weld_meaning.specs.Available.{some_take, leg_takes, legs_take}
use Rattle.weld_rewriting.specs.Replacing.{MayReplace}
use Rattle.weld_rewriting.specs.Shape.{AllRelate, LegRelates, LegsRelate}
use Rattle.weld_rewriting.proofs.Parts.{ArePlaced, first_placed, rest_placed, LegIsPlaced, whole_placed, vector_placed, from_placed, to_placed, by_placed, LegsArePlaced, first_leg_placed, rest_legs_placed}
use Rattle.weld_rewriting.proofs.Nodes.{apart_same}

-- ---- lists

pub all_origins : (ds es : ExprTrees) → AllRelate MayReplace ds es → (g : Named Origin) → origins ds g ≡ origins es g
all_origins no_exprs no_exprs r g = refl
all_origins no_exprs (more_exprs e es) r g = absurd r
all_origins (more_exprs d ds) no_exprs r g = absurd r
all_origins (more_exprs d ds) (more_exprs e es) r g =
    let x = r.0.same_origin g in let y = all_origins ds es r.1 g in λ i. more_origins (x i) (y i)

pub all_taken : (ds es : ExprTrees) → AllRelate MayReplace ds es → (types : Types) (g : Named Origin) (us : TypeTrees) → ArePlaced es types g us → some_take ds g ≡ some_take es g
all_taken no_exprs no_exprs r types g us p = refl
all_taken no_exprs (more_exprs e es) r types g us p = absurd r
all_taken (more_exprs d ds) no_exprs r types g us p = absurd r
all_taken (more_exprs d ds) (more_exprs e es) r types g no_types p = absurd p.typed
all_taken (more_exprs d ds) (more_exprs e es) r types g (more_types u us) p =
    let x = r.0.taken types g u (first_placed e es types g u us p) in
    let y = all_taken ds es r.1 types g us (rest_placed e es types g u us p) in
    λ i s q. x i s q || y i s q

pub all_placed : (ds es : ExprTrees) → AllRelate MayReplace ds es → (types : Types) (g : Named Origin) (us : TypeTrees) → ArePlaced es types g us → ArePlaced ds types g us
all_placed no_exprs no_exprs r types g us p = p
all_placed no_exprs (more_exprs e es) r types g us p = absurd r
all_placed (more_exprs d ds) no_exprs r types g us p = absurd r
all_placed (more_exprs d ds) (more_exprs e es) r types g no_types p = absurd p.typed
all_placed (more_exprs d ds) (more_exprs e es) r types g (more_types u us) p =
    let x = first_placed e es types g u us p in
    let y = rest_placed e es types g u us p in
    let q = r.0.placed types g u x in
    let w = all_placed ds es r.1 types g us y in
    record {
      formed = p.formed;
      forms = p.forms;
      typed = (q.typed, w.typed);
      keep = (q.keeps, w.keep);
      split = (q.splits, w.split, apart_same _ _ _ _ (r.0.taken types g u x) (all_taken ds es r.1 types g us y) p.split.2);
      noted = (q.noted, w.noted);
    }

pub all_mean : (ds es : ExprTrees) → AllRelate MayReplace ds es → (types : Types) (g : Named Origin) (us : TypeTrees) (env : Env) → ArePlaced es types g us → EnvFits types env → eval_all ds env ≡ eval_all es env
all_mean no_exprs no_exprs r types g us env p fit = refl
all_mean no_exprs (more_exprs e es) r types g us env p fit = absurd r
all_mean (more_exprs d ds) no_exprs r types g us env p fit = absurd r
all_mean (more_exprs d ds) (more_exprs e es) r types g no_types env p fit = absurd p.typed
all_mean (more_exprs d ds) (more_exprs e es) r types g (more_types u us) env p fit =
    let x = r.0.means types g u env (first_placed e es types g u us p) fit in
    let y = all_mean ds es r.1 types g us env (rest_placed e es types g u us p) fit in
    λ i. and_then (x i) (λ t. map_out (more_things t) (y i))

-- ---- legs

leg_taken : (k l : LegTree) → LegRelates MayReplace k l → (types : Types) (g : Named Origin) (u : TypeTree) → LegIsPlaced l types g u → leg_takes k g ≡ leg_takes l g
leg_taken (whole d) (whole e) r types g u p = r.taken types g (vec u) (whole_placed e types g u p)
leg_taken (whole d) (strided e f i j) r types g u p = absurd r
leg_taken (strided d a b c) (whole e) r types g u p = absurd r
leg_taken (strided d a b c) (strided e f i j) r types g u p =
    let w = r.0.taken types g (vec u) (vector_placed e f i j types g u p) in
    let x = r.1.taken types g place_type (from_placed e f i j types g u p) in
    let y = r.2.taken types g place_type (to_placed e f i j types g u p) in
    let z = r.3.taken types g place_type (by_placed e f i j types g u p) in
    λ m s q. w m s q || (x m s q || (y m s q || z m s q))

leg_placed : (k l : LegTree) → LegRelates MayReplace k l → (types : Types) (g : Named Origin) (u : TypeTree) → LegIsPlaced l types g u → LegIsPlaced k types g u
leg_placed (whole d) (whole e) r types g u p =
    let q = r.placed types g (vec u) (whole_placed e types g u p) in
    record { formed = p.formed; forms = p.forms; typed = q.typed; keeps = q.keeps; splits = q.splits; noted = q.noted }
leg_placed (whole d) (strided e f i j) r types g u p = absurd r
leg_placed (strided d a b c) (whole e) r types g u p = absurd r
leg_placed (strided d a b c) (strided e f i j) r types g u p =
    let w = vector_placed e f i j types g u p in
    let x = from_placed e f i j types g u p in
    let y = to_placed e f i j types g u p in
    let z = by_placed e f i j types g u p in
    let qw = r.0.placed types g (vec u) w in
    let qx = r.1.placed types g place_type x in
    let qy = r.2.placed types g place_type y in
    let qz = r.3.placed types g place_type z in
    let tw = r.0.taken types g (vec u) w in
    let tx = r.1.taken types g place_type x in
    let ty = r.2.taken types g place_type y in
    let tz = r.3.taken types g place_type z in
    record {
      formed = p.formed;
      forms = p.forms;
      typed = (qw.typed, qx.typed, qy.typed, qz.typed);
      keeps = (qw.keeps, qx.keeps, qy.keeps, qz.keeps);
      splits = (
        qw.splits,
        qx.splits,
        qy.splits,
        qz.splits,
        apart_same _ _ _ _ tw tx p.splits.4,
        apart_same _ _ _ _ tw ty p.splits.5,
        apart_same _ _ _ _ tw tz p.splits.6,
        apart_same _ _ _ _ tx ty p.splits.7,
        apart_same _ _ _ _ tx tz p.splits.8,
        apart_same _ _ _ _ ty tz p.splits.9,
      );
      noted = (qw.noted, qx.noted, qy.noted, qz.noted);
    }

leg_means : (k l : LegTree) → LegRelates MayReplace k l → (types : Types) (g : Named Origin) (u : TypeTree) (env : Env) → LegIsPlaced l types g u → EnvFits types env → eval_leg k env ≡ eval_leg l env
leg_means (whole d) (whole e) r types g u env p fit = ap (λ o. and_then (value_out o) elements_of) (r.means types g (vec u) env (whole_placed e types g u p) fit)
leg_means (whole d) (strided e f i j) r types g u env p fit = absurd r
leg_means (strided d a b c) (whole e) r types g u env p fit = absurd r
leg_means (strided d a b c) (strided e f i j) r types g u env p fit =
    let w = r.0.means types g (vec u) env (vector_placed e f i j types g u p) fit in
    let x = r.1.means types g place_type env (from_placed e f i j types g u p) fit in
    let y = r.2.means types g place_type env (to_placed e f i j types g u p) fit in
    let z = r.3.means types g place_type env (by_placed e f i j types g u p) fit in
    λ m. and_then (value_out (w m)) (λ v. and_then (value_out (x m)) (λ from. and_then (value_out (y m)) (λ to. and_then (value_out (z m)) (λ n. strided_of v from to n))))

pub legs_taken : (ks ls : LegTrees) → LegsRelate MayReplace ks ls → (types : Types) (g : Named Origin) (us : TypeTrees) → LegsArePlaced ls types g us → legs_take ks g ≡ legs_take ls g
legs_taken no_legs no_legs r types g us p = refl
legs_taken no_legs (more_legs l ls) r types g us p = absurd r
legs_taken (more_legs k ks) no_legs r types g us p = absurd r
legs_taken (more_legs k ks) (more_legs l ls) r types g no_types p = absurd p.typed
legs_taken (more_legs k ks) (more_legs l ls) r types g (more_types u us) p =
    let x = leg_taken k l r.0 types g u (first_leg_placed l ls types g u us p) in
    let y = legs_taken ks ls r.1 types g us (rest_legs_placed l ls types g u us p) in
    λ i s q. x i s q || y i s q

pub legs_placed : (ks ls : LegTrees) → LegsRelate MayReplace ks ls → (types : Types) (g : Named Origin) (us : TypeTrees) → LegsArePlaced ls types g us → LegsArePlaced ks types g us
legs_placed no_legs no_legs r types g us p = p
legs_placed no_legs (more_legs l ls) r types g us p = absurd r
legs_placed (more_legs k ks) no_legs r types g us p = absurd r
legs_placed (more_legs k ks) (more_legs l ls) r types g no_types p = absurd p.typed
legs_placed (more_legs k ks) (more_legs l ls) r types g (more_types u us) p =
    let x = first_leg_placed l ls types g u us p in
    let y = rest_legs_placed l ls types g u us p in
    let q = leg_placed k l r.0 types g u x in
    let w = legs_placed ks ls r.1 types g us y in
    record {
      formed = p.formed;
      forms = p.forms;
      typed = (q.typed, w.typed);
      keep = (q.keeps, w.keep);
      split = (q.splits, w.split, apart_same _ _ _ _ (leg_taken k l r.0 types g u x) (legs_taken ks ls r.1 types g us y) p.split.2);
      noted = (q.noted, w.noted);
    }

pub legs_mean : (ks ls : LegTrees) → LegsRelate MayReplace ks ls → (types : Types) (g : Named Origin) (us : TypeTrees) (env : Env) → LegsArePlaced ls types g us → EnvFits types env → eval_legs ks env ≡ eval_legs ls env
legs_mean no_legs no_legs r types g us env p fit = refl
legs_mean no_legs (more_legs l ls) r types g us env p fit = absurd r
legs_mean (more_legs k ks) no_legs r types g us env p fit = absurd r
legs_mean (more_legs k ks) (more_legs l ls) r types g no_types env p fit = absurd p.typed
legs_mean (more_legs k ks) (more_legs l ls) r types g (more_types u us) env p fit =
    let x = leg_means k l r.0 types g u env (first_leg_placed l ls types g u us p) fit in
    let y = legs_mean ks ls r.1 types g us env (rest_legs_placed l ls types g u us p) fit in
    λ i. and_then (x i) (λ vs. map_out (λ rest. vs ∷ rest) (y i))
