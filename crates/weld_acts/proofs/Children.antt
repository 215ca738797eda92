-- What lets an expression be done in place lets its parts be; and what is done by way of them.
use Rattle.std.proofs.Common.{◌≡◌, ℕ, suc, ◌+◌, ◌-◌, ◌<◌, take, Bool, true, false, if◌then◌else◌, List, [], ◌∷◌, length, drop, get_or, refl, ap, sym, subst, ◌∙◌, arith}
use Rattle.std.proofs.lemmas.List.{at_drop_more}
use Rattle.weld_data.specs.Value.{Value, values}
use Rattle.weld_tree.specs.declared.binder.Binder.{Binder}
use Rattle.weld_tree.specs.TypeTree.{TypeTree, TypeTrees, struct as tuple, no_types, more_types}
use Rattle.weld_tree.specs.Types.{IsBuilder, AreBuilders, IsWellFormed, HasTypes}
use Rattle.weld_tree.specs.ExprTree.{ExprTree, ExprTrees, At, two, three, many, let_in, loop, more_exprs, LegTrees, Two, binary, and, or, look_up, key_exists, merge, Three, if_else, select, slice, Many, make_vec, make_struct, pack_exprs}
use Rattle.weld_tree.specs.HasValue.{HasValue, AllAre}
use Rattle.weld_builders.specs.Outcome.{Outcome, done, fault, and_then, map_out}
use Rattle.weld_builders.specs.Part.{Part}
use Rattle.weld_meaning.specs.Thing.{Thing, plain, building, several, Things, more_things, struct_of, bare_thing, fields_of}
use Rattle.weld_meaning.specs.ThingType.{HasThing, HaveBuilders}
use Rattle.weld_meaning.specs.Typing.{TwoHas, ThreeHas, ManyHas, HaveTypes}
use Rattle.weld_meaning.specs.Origin.{origin}
use Rattle.weld_meaning.specs.Meaning.{GivesOrFaults}
use Rattle.weld_meaning.specs.Evaluation.{Env, truth_of, merged, chosen, whole_number, rows_of, number_from, run, with_row, eval, eval_legs}
use Rattle.weld_meaning.proofs.WellFormed.{type_formed, types_formed}
use Rattle.weld_meaning.proofs.ValuesGood.{LegsFit, rows_good}
use Rattle.weld_eval.specs.Fit.{IsFit}
use Rattle.weld_eval.specs.Takes.{TwoTakes}
use Rattle.weld_eval.proofs.Children.{gives, fit_second_of_two, named_bind}
use Rattle.weld_eval.proofs.LoopSteps.{row_gives}
use Rattle.weld_eval_plain.proofs.Legs.{legs_good}
use Rattle.weld_eval_plain.specs.Rows.{row_step, rows_from}
use Rattle.weld_acts.specs.Act.{IsMerge, IsChoice, IsStruct, AreDirect, act, act_all}
use Rattle.weld_acts.specs.ActFits.{ActFits, ActsFit}
use Rattle.weld_acts.specs.Ranges.{range_over, HoldsRange}
use Rattle.weld_acts.proofs.Outcomes.{run_same}
use Rattle.weld_acts.proofs.InPlace.{first_has, rest_have, fields_have, rows_have}
use Rattle.weld_acts.proofs.Keeps.{act_good, all_act_good, struct_is_several}
use Rattle.weld_acts.proofs.RowActs.{acts_of_row}
use Rattle.weld_acts.proofs.RangeSteps.{range_is}

pub act_fit : (e : ExprTree) (env : Env) (s : Thing) → ActFits e env s → IsFit e env
act_fit e env s h = h.fit

pub act_direct : (e : ExprTree) (env : Env) (s : Thing) → ActFits e env s → AreDirect e
act_direct e env s h = h.direct

-- what is done to a builder leaves it of its type
pub act_gives : (e : ExprTree) (env : Env) (s t : Thing) (h : ActFits e env s) → act e env s ≡ done t → HasThing t h.fit.answer
act_gives e env s t h q =
    subst (GivesOrFaults (λ y. HasThing y h.fit.answer)) q
    (act_good e h.name h.path env s h.fit.names h.fit.answer h.acts (record { formed = h.fit.named.formed; fits = h.fit.named.fits }) h.fit.typed h.builder h.has).fits

-- ---- a merge

merge_types : (o : Two) (u v t : TypeTree) → IsMerge o → TwoHas o u v t → t ≡ u
merge_types (binary op) u v t m h = absurd m
merge_types and u v t m h = absurd m
merge_types or u v t m h = absurd m
merge_types look_up u v t m h = absurd m
merge_types key_exists u v t m h = absurd m
merge_types merge u v t m h = h.3

part_acts : (a : At) (o : Two) (e f : ExprTree) (env : Env) (s : Thing) → ActFits (two a o e f) env s → ActFits e env s
part_acts a o e f env s h =
    let same = merge_types o h.fit.typed.0 h.fit.typed.1 h.fit.answer h.acts.0 h.fit.typed.4 in record {
      fit = record { names = h.fit.names; origins = h.fit.origins; named = h.fit.named; answer = h.fit.typed.0; typed = h.fit.typed.2; keeps = h.fit.keeps.0 };
      direct = h.direct.0;
      name = h.name;
      path = h.path;
      acts = h.acts.1;
      builder = subst IsBuilder same h.builder;
      has = subst (HasThing s) same h.has;
    }

pub merge_part_acts : (a : At) (o : Two) (e f : ExprTree) (env : Env) (n : ExprTree) (s : Thing) → n ≡ two a o e f → ActFits n env s → ActFits e env s
merge_part_acts a o e f env n s is h = part_acts a o e f env s (subst (λ m. ActFits m env s) is h)

pub merge_item_fits : (a : At) (o : Two) (e f : ExprTree) (env : Env) (n : ExprTree) (s : Thing) → n ≡ two a o e f → ActFits n env s → IsFit f env
merge_item_fits a o e f env n s is h = fit_second_of_two a o e f env (subst (λ m. IsFit m env) is h.fit)

pub merge_item_direct : (a : At) (o : Two) (e f : ExprTree) (env : Env) (n : ExprTree) (s : Thing) → n ≡ two a o e f → ActFits n env s → AreDirect f
merge_item_direct a o e f env n s is h = let d = subst (λ m. AreDirect m) is h.direct in d.1

takes_of : (a : At) (o : Two) (e f : ExprTree) (env : Env) (s t y : Thing) → ActFits (two a o e f) env s → act e env s ≡ done t → eval f env ≡ done y → TwoTakes o t y
unfolding part_acts
takes_of a o e f env s t y h q r = record {
  first = h.fit.typed.0;
  second = h.fit.typed.1;
  answer = h.fit.answer;
  rule = h.fit.typed.4;
  formed = type_formed e h.fit.names h.fit.typed.0 h.fit.typed.2 h.fit.named.formed;
  has_first = act_gives e env s t (part_acts a o e f env s h) q;
  has_second = gives f h.fit.names h.fit.origins env h.fit.typed.1 y h.fit.named h.fit.typed.3 r;
}

pub merge_takes : (a : At) (o : Two) (e f : ExprTree) (env : Env) (n : ExprTree) (s t y : Thing) → n ≡ two a o e f → ActFits n env s → act e env s ≡ done t → eval f env ≡ done y → TwoTakes o t y
merge_takes a o e f env n s t y is h q r = takes_of a o e f env s t y (subst (λ m. ActFits m env s) is h) q r

pub merge_is : (a : At) (o : Two) (e f : ExprTree) (env : Env) (n : ExprTree) (s t y : Thing) → n ≡ two a o e f → act e env s ≡ done t → eval f env ≡ done y → act n env s ≡ merged t (done y)
merge_is a o e f env n s t y is q r = ap (λ m. act m env s) is ∙ ap (λ x. and_then x (λ u. merged u (eval f env))) q ∙ ap (merged t) r

pub merge_part_faults : (a : At) (o : Two) (e f : ExprTree) (env : Env) (n : ExprTree) (s : Thing) → n ≡ two a o e f → act e env s ≡ fault → act n env s ≡ fault
merge_part_faults a o e f env n s is q = ap (λ m. act m env s) is ∙ ap (λ x. and_then x (λ u. merged u (eval f env))) q

-- what is merged into is a builder
building_of : (o : Two) (t : Thing) (u v w : TypeTree) → IsMerge o → TwoHas o u v w → HasThing t u → (p : Part) × (t ≡ building p)
building_of (binary op) t u v w m h k = absurd m
building_of and t u v w m h k = absurd m
building_of or t u v w m h k = absurd m
building_of look_up t u v w m h k = absurd m
building_of key_exists t u v w m h k = absurd m
building_of merge (plain x) u v w m h k = absurd (subst (HasThing (plain x)) h.1 k)
building_of merge (building p) u v w m h k = (p, refl)
building_of merge (several ts) u v w m h k = absurd (subst (HasThing (several ts)) h.1 k)

item_faults : (a : At) (o : Two) (e f : ExprTree) (env : Env) (s t : Thing) → ActFits (two a o e f) env s → act e env s ≡ done t → eval f env ≡ fault → act (two a o e f) env s ≡ fault
unfolding part_acts
item_faults a o e f env s t h q r =
    let b = building_of o t h.fit.typed.0 h.fit.typed.1 h.fit.answer h.acts.0 h.fit.typed.4 (act_gives e env s t (part_acts a o e f env s h) q) in
    ap (λ x. and_then x (λ u. merged u (eval f env))) (q ∙ ap done b.1) ∙ ap (merged (building b.0)) r

pub merge_item_faults : (a : At) (o : Two) (e f : ExprTree) (env : Env) (n : ExprTree) (s t : Thing) → n ≡ two a o e f → ActFits n env s → act e env s ≡ done t → eval f env ≡ fault → act n env s ≡ fault
merge_item_faults a o e f env n s t is h q r = ap (λ m. act m env s) is ∙ item_faults a o e f env s t (subst (λ m. ActFits m env s) is h) q r

-- ---- an `if`

arm_types : (o : Three) (u v w t : TypeTree) → IsChoice o → ThreeHas o u v w t → (t ≡ v) × (t ≡ w)
arm_types if_else u v w t m h = (sym h.1, sym h.2)
arm_types select u v w t m h = absurd m
arm_types slice u v w t m h = absurd m

first_arm : (a : At) (o : Three) (c e f : ExprTree) (env : Env) (s : Thing) → ActFits (three a o c e f) env s → ActFits e env s
first_arm a o c e f env s h =
    let same = (arm_types o h.fit.typed.0 h.fit.typed.1 h.fit.typed.2 h.fit.answer h.acts.0 h.fit.typed.6).0 in record {
      fit = record { names = h.fit.names; origins = h.fit.origins; named = h.fit.named; answer = h.fit.typed.1; typed = h.fit.typed.4; keeps = h.fit.keeps.1 };
      direct = h.direct.1;
      name = h.name;
      path = h.path;
      acts = h.acts.2;
      builder = subst IsBuilder same h.builder;
      has = subst (HasThing s) same h.has;
    }

second_arm : (a : At) (o : Three) (c e f : ExprTree) (env : Env) (s : Thing) → ActFits (three a o c e f) env s → ActFits f env s
second_arm a o c e f env s h =
    let same = (arm_types o h.fit.typed.0 h.fit.typed.1 h.fit.typed.2 h.fit.answer h.acts.0 h.fit.typed.6).1 in record {
      fit = record { names = h.fit.names; origins = h.fit.origins; named = h.fit.named; answer = h.fit.typed.2; typed = h.fit.typed.5; keeps = h.fit.keeps.2 };
      direct = h.direct.2;
      name = h.name;
      path = h.path;
      acts = h.acts.3;
      builder = subst IsBuilder same h.builder;
      has = subst (HasThing s) same h.has;
    }

pub then_acts : (a : At) (o : Three) (c e f : ExprTree) (env : Env) (n : ExprTree) (s : Thing) → n ≡ three a o c e f → ActFits n env s → ActFits e env s
then_acts a o c e f env n s is h = first_arm a o c e f env s (subst (λ m. ActFits m env s) is h)

pub otherwise_acts : (a : At) (o : Three) (c e f : ExprTree) (env : Env) (n : ExprTree) (s : Thing) → n ≡ three a o c e f → ActFits n env s → ActFits f env s
otherwise_acts a o c e f env n s is h = second_arm a o c e f env s (subst (λ m. ActFits m env s) is h)

choose_act : (a : At) (o : Three) (c e f : ExprTree) (env : Env) (n : ExprTree) (s x : Thing) (v : Value) (b : Bool) → n ≡ three a o c e f → eval c env ≡ done x → x ≡ plain v → truth_of v ≡ done b → act n env s ≡ (if b then act e env s else act f env s)
choose_act a o c e f env n s x v b is q same t =
    ap (λ m. act m env s) is
    ∙ ap (λ y. and_then y (λ z. chosen z (act e env s) (act f env s))) (q ∙ ap done same)
    ∙ ap (λ y. and_then y (λ d. if d then act e env s else act f env s)) t

pub choice_then : (a : At) (o : Three) (c e f : ExprTree) (env : Env) (n : ExprTree) (s x : Thing) (v : Value) → n ≡ three a o c e f → eval c env ≡ done x → x ≡ plain v → truth_of v ≡ done true → act n env s ≡ act e env s
choice_then a o c e f env n s x v is q same t = choose_act a o c e f env n s x v true is q same t

pub choice_otherwise : (a : At) (o : Three) (c e f : ExprTree) (env : Env) (n : ExprTree) (s x : Thing) (v : Value) → n ≡ three a o c e f → eval c env ≡ done x → x ≡ plain v → truth_of v ≡ done false → act n env s ≡ act f env s
choice_otherwise a o c e f env n s x v is q same t = choose_act a o c e f env n s x v false is q same t

pub choice_faults : (a : At) (o : Three) (c e f : ExprTree) (env : Env) (n : ExprTree) (s : Thing) → n ≡ three a o c e f → eval c env ≡ fault → act n env s ≡ fault
choice_faults a o c e f env n s is q = ap (λ m. act m env s) is ∙ ap (λ y. and_then y (λ z. chosen z (act e env s) (act f env s))) q

-- ---- a `let`

let_act : (a : At) (y : Binder) (v e : ExprTree) (env : Env) (s x : Thing) → ActFits (let_in a y v e) env s → eval v env ≡ done x → ActFits e ((y.sym.0, x) ∷ env) s
let_act a y v e env s x h q = record {
  fit = record { names = (y.sym.0, h.fit.typed.0) ∷ h.fit.names; origins = (y.sym.0, origin v h.fit.origins) ∷ h.fit.origins; named = named_bind v h.fit.names h.fit.origins env y.sym.0 h.fit.typed.0 x h.fit.named h.fit.typed.1 (gives v h.fit.names h.fit.origins env h.fit.typed.0 x h.fit.named h.fit.typed.1 q); answer = h.fit.answer; typed = h.fit.typed.3; keeps = h.fit.keeps.1 };
  direct = h.direct.1;
  name = h.name;
  path = h.path;
  acts = h.acts.2;
  builder = h.builder;
  has = h.has;
}

pub let_acts : (a : At) (y : Binder) (v e : ExprTree) (env : Env) (n : ExprTree) (s x : Thing) → n ≡ let_in a y v e → ActFits n env s → eval v env ≡ done x → ActFits e ((y.sym.0, x) ∷ env) s
let_acts a y v e env n s x is h q = let_act a y v e env s x (subst (λ m. ActFits m env s) is h) q

pub let_is : (a : At) (y : Binder) (v e : ExprTree) (env : Env) (n : ExprTree) (s x : Thing) → n ≡ let_in a y v e → eval v env ≡ done x → act n env s ≡ act e ((y.sym.0, x) ∷ env) s
let_is a y v e env n s x is q = ap (λ m. act m env s) is ∙ ap (λ o. and_then o (λ t. act e ((y.sym.0, t) ∷ env) s)) q

pub let_faults : (a : At) (y : Binder) (v e : ExprTree) (env : Env) (n : ExprTree) (s : Thing) → n ≡ let_in a y v e → eval v env ≡ fault → act n env s ≡ fault
let_faults a y v e env n s is q = ap (λ m. act m env s) is ∙ ap (λ o. and_then o (λ t. act e ((y.sym.0, t) ∷ env) s)) q

-- ---- a struct

struct_types : (o : Many) (us : TypeTrees) (t : TypeTree) → IsStruct o → ManyHas o us t → t ≡ tuple us
struct_types make_vec us t m h = absurd m
struct_types make_struct us t m h = h.2

some_types : (o : Many) (us : TypeTrees) (t : TypeTree) → IsStruct o → ManyHas o us t → HasTypes us
some_types make_vec us t m h = absurd m
some_types make_struct us t m h = h.0

struct_fields : (a : At) (o : Many) (es : ExprTrees) (env : Env) (s : Thing) (h : ActFits (many a o es) env s) → (s ≡ several (fields_of s)) × HaveBuilders (fields_of s) h.fit.typed.0
struct_fields a o es env s h =
    let same = struct_types o h.fit.typed.0 h.fit.answer h.acts.0 h.fit.typed.2 in
    fields_have s h.fit.typed.0 (subst IsWellFormed same (type_formed (many a o es) h.fit.names h.fit.answer h.fit.typed h.fit.named.formed)) (subst IsBuilder same h.builder) (subst (HasThing s) same h.has)

struct_act : (a : At) (o : Many) (es : ExprTrees) (env : Env) (s : Thing) → ActFits (many a o es) env s → ActsFit es env (fields_of s)
struct_act a o es env s h = record {
  fit = record { names = h.fit.names; origins = h.fit.origins; named = h.fit.named; answers = h.fit.typed.0; typed = h.fit.typed.1; keeps = h.fit.keeps };
  direct = h.direct;
  name = h.name;
  path = h.path;
  number = 0;
  act = h.acts.1;
  builders = subst IsBuilder (struct_types o h.fit.typed.0 h.fit.answer h.acts.0 h.fit.typed.2) h.builder;
  have = (struct_fields a o es env s h).1;
}

pub struct_acts : (a : At) (o : Many) (es : ExprTrees) (env : Env) (n : ExprTree) (s : Thing) → n ≡ many a o es → ActFits n env s → ActsFit es env (fields_of s)
struct_acts a o es env n s is h = struct_act a o es env s (subst (λ m. ActFits m env s) is h)

pub struct_several : (a : At) (o : Many) (es : ExprTrees) (env : Env) (n : ExprTree) (s : Thing) → n ≡ many a o es → ActFits n env s → s ≡ several (fields_of s)
struct_several a o es env n s is h = (struct_fields a o es env s (subst (λ m. ActFits m env s) is h)).0

fields_gives : (es : ExprTrees) (env : Env) (ss ts : Things) (h : ActsFit es env ss) → act_all es env ss ≡ done ts → HaveBuilders ts h.fit.answers
fields_gives es env ss ts h q =
    subst (GivesOrFaults (λ y. HaveBuilders y h.fit.answers)) q
    (all_act_good es h.name h.path h.number env ss h.fit.names h.fit.answers h.act (record { formed = h.fit.named.formed; fits = h.fit.named.fits }) h.fit.typed (types_formed es h.fit.names h.fit.answers h.fit.typed h.fit.named.formed) h.builders h.have).fits

struct_done : (a : At) (o : Many) (es : ExprTrees) (env : Env) (s : Thing) (ts : Things) → ActFits (many a o es) env s → act_all es env (fields_of s) ≡ done ts → act (many a o es) env s ≡ done (several ts)
unfolding struct_act
struct_done a o es env s ts h q =
    ap (map_out struct_of) q
    ∙ ap done (struct_is_several ts h.fit.typed.0 (some_types o h.fit.typed.0 h.fit.answer h.acts.0 h.fit.typed.2) (fields_gives es env (fields_of s) ts (struct_act a o es env s h) q))

pub struct_is : (a : At) (o : Many) (es : ExprTrees) (env : Env) (n : ExprTree) (s : Thing) (ts : Things) → n ≡ many a o es → ActFits n env s → act_all es env (fields_of s) ≡ done ts → act n env s ≡ done (several ts)
struct_is a o es env n s ts is h q = ap (λ m. act m env s) is ∙ struct_done a o es env s ts (subst (λ m. ActFits m env s) is h) q

pub struct_faults : (a : At) (o : Many) (es : ExprTrees) (env : Env) (n : ExprTree) (s : Thing) → n ≡ many a o es → act_all es env (fields_of s) ≡ fault → act n env s ≡ fault
struct_faults a o es env n s is q = ap (λ m. act m env s) is ∙ ap (map_out struct_of) q

pub acts_first : (e : ExprTree) (es : ExprTrees) (env : Env) (x : Thing) (xs : Things) → ActsFit (more_exprs e es) env (more_things x xs) → ActFits e env x
acts_first e es env x xs h = by h.fit.answers h.fit.typed h.builders h.have
  where
    by : (us : TypeTrees) → HaveTypes (more_exprs e es) h.fit.names us → AreBuilders us → HaveBuilders (more_things x xs) us → ActFits e env x
    by no_types k b g = absurd k
    by (more_types u us) k b g = record {
      fit = record { names = h.fit.names; origins = h.fit.origins; named = h.fit.named; answer = u; typed = k.0; keeps = h.fit.keeps.0 };
      direct = h.direct.0;
      name = h.name;
      path = h.number ∷ h.path;
      acts = h.act.0;
      builder = b.0;
      has = first_has x xs u us g;
    }

pub acts_rest : (e : ExprTree) (es : ExprTrees) (env : Env) (x : Thing) (xs : Things) → ActsFit (more_exprs e es) env (more_things x xs) → ActsFit es env xs
acts_rest e es env x xs h = by h.fit.answers h.fit.typed h.builders h.have
  where
    by : (us : TypeTrees) → HaveTypes (more_exprs e es) h.fit.names us → AreBuilders us → HaveBuilders (more_things x xs) us → ActsFit es env xs
    by no_types k b g = absurd k
    by (more_types u us) k b g = record {
      fit = record { names = h.fit.names; origins = h.fit.origins; named = h.fit.named; answers = us; typed = k.1; keeps = h.fit.keeps.1 };
      direct = h.direct.1;
      name = h.name;
      path = h.path;
      number = suc h.number;
      act = h.act.1;
      builders = b.1;
      have = rest_have x xs u us g;
    }

pub acts_at : (es : List ExprTree) (env : Env) (i : ℕ) (e : ExprTree) (x : Thing) (xs : Things) → i < length es → e ≡ get_or es i e → ActsFit (pack_exprs (drop i es)) env (more_things x xs) → ActFits e env x
acts_at es env i e x xs less is h =
    subst (λ d. ActFits d env x) (sym is) (acts_first (get_or es i e) (pack_exprs (drop (i + 1) es)) env x xs (subst (λ l. ActsFit l env (more_things x xs)) (at_drop_more (λ l. pack_exprs l) es i e less) h))

pub acts_after : (es : List ExprTree) (env : Env) (i : ℕ) (e : ExprTree) (x : Thing) (xs : Things) → i < length es → e ≡ get_or es i e → ActsFit (pack_exprs (drop i es)) env (more_things x xs) → ActsFit (pack_exprs (drop (i + 1) es)) env xs
acts_after es env i e x xs less is h =
    acts_rest (get_or es i e) (pack_exprs (drop (i + 1) es)) env x xs (subst (λ l. ActsFit l env (more_things x xs)) (at_drop_more (λ l. pack_exprs l) es i e less) h)

-- ---- a loop that goes on

loop_part : (a : At) (ls : LegTrees) (e : ExprTree) (b n x : Binder) (f : ExprTree) (env : Env) (s : Thing) → ActFits (loop a ls e b n x f) env s → ActFits e env s
loop_part a ls e b n x f env s h = record {
  fit = record { names = h.fit.names; origins = h.fit.origins; named = h.fit.named; answer = h.fit.answer; typed = h.fit.typed.4; keeps = h.fit.keeps.1 };
  direct = h.direct.1;
  name = h.name;
  path = h.path;
  acts = h.acts.1;
  builder = h.builder;
  has = h.has;
}

pub loop_part_acts : (a : At) (ls : LegTrees) (e : ExprTree) (b n x : Binder) (f : ExprTree) (env : Env) (m : ExprTree) (s : Thing) → m ≡ loop a ls e b n x f → ActFits m env s → ActFits e env s
loop_part_acts a ls e b n x f env m s is h = loop_part a ls e b n x f env s (subst (λ l. ActFits l env s) is h)

rows_typed : (a : At) (ls : LegTrees) (e : ExprTree) (b n x : Binder) (f : ExprTree) (env : Env) (h : IsFit (loop a ls e b n x f) env) (lists : List (List Value)) (rows : List Value)
    → eval_legs ls env ≡ done lists → rows_of lists ≡ done rows → AllAre (HasValue h.typed.1) (values rows)
rows_typed a ls e b n x f env h lists rows q r =
    let fit = subst (GivesOrFaults (LegsFit h.typed.0)) q (legs_good ls h.names h.typed.0 env h.typed.2 h.named.formed h.named.fits).fits in
    subst (GivesOrFaults (λ vs. AllAre (HasValue h.typed.1) (values vs))) r (rows_good h.typed.0 h.typed.1 lists h.typed.3 fit).fits

holds_of : (a : At) (ls : LegTrees) (e : ExprTree) (b n x : Binder) (f : ExprTree) (env : Env) (s t : Thing) (lists : List (List Value)) (rows : List Value) → ActFits (loop a ls e b n x f) env s
    → eval_legs ls env ≡ done lists → rows_of lists ≡ done rows → act e env s ≡ done t → HoldsRange (loop a ls e b n x f) env lists 0 (length rows) t
unfolding loop_part
holds_of a ls e b n x f env s t lists rows h q r u = record {
  fit = h.fit;
  has = act_gives e env s t (loop_part a ls e b n x f env s h) u;
  rows = rows;
  are = r;
  rows_have = rows_typed a ls e b n x f env h.fit lists rows q r;
  ordered = omega arith;
  within = omega arith;
}

pub loop_holds : (a : At) (ls : LegTrees) (e : ExprTree) (b n x : Binder) (f : ExprTree) (env : Env) (m : ExprTree) (s t : Thing) (lists : List (List Value)) (rows : List Value) → m ≡ loop a ls e b n x f → ActFits m env s
    → eval_legs ls env ≡ done lists → rows_of lists ≡ done rows → act e env s ≡ done t → HoldsRange m env lists 0 (length rows) t
loop_holds a ls e b n x f env m s t lists rows is h q r u =
    subst (λ l. HoldsRange l env lists 0 (length rows) t) (sym is) (holds_of a ls e b n x f env s t lists rows (subst (λ l. ActFits l env s) is h) q r u)

-- the rows in place, whatever the own name stands for, are the loop's rows from the builder
rows_in_place : (a : At) (ls : LegTrees) (e : ExprTree) (b n x : Binder) (f : ExprTree) (env : Env) (h : IsFit (loop a ls e b n x f) env) (own s : Thing) (i : ℕ) (rows : List Value) → AreDirect (loop a ls e b n x f) → HasThing s h.answer → AllAre (HasValue h.typed.1) (values rows)
    → run (number_from i rows) s (λ r t. act f (with_row b n x own (plain (whole_number r.0)) (plain r.1) env) t) ≡ rows_from (loop a ls e b n x f) env i rows s
rows_in_place a ls e b n x f env h own s i rows d hs all =
    run_same h.typed.1 (λ t. HasThing t h.answer) (λ r t. act f (with_row b n x own (plain (whole_number r.0)) (plain r.1) env) t) (λ r t. row_step (loop a ls e b n x f) env r t)
    (λ r t hv ht. sym (acts_of_row a ls e b n x f env r.0 t own r.1 d (record { fit = h; has = ht; row = hv })))
    (λ r t u hv ht q.
    row_gives a ls e b n x f env h r.0 r.1 t u ht hv (acts_of_row a ls e b n x f env r.0 t own r.1 d (record { fit = h; has = ht; row = hv }) ∙ q))
    (number_from i rows) s (rows_have h.typed.1 i rows all) hs

pub all_rows : (rows : List Value) → take (length rows - 0) (drop 0 rows) ≡ rows
all_rows rows = let none : length rows - 0 ≡ length rows = omega arith in ap (λ k. take k rows) none ∙ taken rows
  where
    taken : (vs : List Value) → take (length vs) vs ≡ vs
    taken [] = refl
    taken (v ∷ vs) = ap (λ l. v ∷ l) (taken vs)

loop_acts_is : (a : At) (ls : LegTrees) (e : ExprTree) (b n x : Binder) (f : ExprTree) (env : Env) (s t : Thing) (lists : List (List Value)) (rows : List Value) → ActFits (loop a ls e b n x f) env s
    → eval_legs ls env ≡ done lists → rows_of lists ≡ done rows → act e env s ≡ done t → act (loop a ls e b n x f) env s ≡ range_over (loop a ls e b n x f) env lists 0 (length rows) t
unfolding loop_part
loop_acts_is a ls e b n x f env s t lists rows h q r u =
    ap (λ o. and_then o (λ legs. and_then (rows_of legs) (λ rows. and_then (act e env s) (λ t. run (number_from 0 rows) t (λ r w. act f (with_row b n x (bare_thing t) (plain (whole_number r.0)) (plain r.1) env) w))))) q
    ∙ ap (λ o. and_then o (λ rows. and_then (act e env s) (λ t. run (number_from 0 rows) t (λ r w. act f (with_row b n x (bare_thing t) (plain (whole_number r.0)) (plain r.1) env) w)))) r
    ∙ ap (λ o. and_then o (λ t. run (number_from 0 rows) t (λ r w. act f (with_row b n x (bare_thing t) (plain (whole_number r.0)) (plain r.1) env) w))) u
    ∙ rows_in_place a ls e b n x f env h.fit (bare_thing t) t 0 rows h.direct (act_gives e env s t (loop_part a ls e b n x f env s h) u) (rows_typed a ls e b n x f env h.fit lists rows q r)
    ∙ ap (λ k. rows_from (loop a ls e b n x f) env 0 k t) (sym (all_rows rows))
    ∙ sym (range_is (loop a ls e b n x f) env lists rows 0 (length rows) t r)

pub loop_is : (a : At) (ls : LegTrees) (e : ExprTree) (b n x : Binder) (f : ExprTree) (env : Env) (m : ExprTree) (s t : Thing) (lists : List (List Value)) (rows : List Value) → m ≡ loop a ls e b n x f → ActFits m env s
    → eval_legs ls env ≡ done lists → rows_of lists ≡ done rows → act e env s ≡ done t → act m env s ≡ range_over m env lists 0 (length rows) t
loop_is a ls e b n x f env m s t lists rows is h q r u =
    subst (λ l. act l env s ≡ range_over l env lists 0 (length rows) t) (sym is) (loop_acts_is a ls e b n x f env s t lists rows (subst (λ l. ActFits l env s) is h) q r u)

abbrev by_legs : ExprTree → Binder → Binder → Binder → ExprTree → Env → Thing → Outcome (List (List Value)) → Outcome Thing
by_legs e b n x f env s o = and_then o (λ legs. and_then (rows_of legs) (λ rows. and_then (act e env s) (λ t. run (number_from 0 rows) t (λ r w. act f (with_row b n x (bare_thing t) (plain (whole_number r.0)) (plain r.1) env) w))))

pub loop_legs_fault : (a : At) (ls : LegTrees) (e : ExprTree) (b n x : Binder) (f : ExprTree) (env : Env) (m : ExprTree) (s : Thing) → m ≡ loop a ls e b n x f → eval_legs ls env ≡ fault → act m env s ≡ fault
loop_legs_fault a ls e b n x f env m s is q = ap (λ l. act l env s) is ∙ ap (by_legs e b n x f env s) q

pub loop_rows_fault : (a : At) (ls : LegTrees) (e : ExprTree) (b n x : Binder) (f : ExprTree) (env : Env) (m : ExprTree) (s : Thing) (lists : List (List Value)) → m ≡ loop a ls e b n x f → eval_legs ls env ≡ done lists → rows_of lists ≡ fault → act m env s ≡ fault
loop_rows_fault a ls e b n x f env m s lists is q r =
    ap (λ l. act l env s) is ∙ ap (by_legs e b n x f env s) q
    ∙ ap (λ o. and_then o (λ rows. and_then (act e env s) (λ t. run (number_from 0 rows) t (λ r w. act f (with_row b n x (bare_thing t) (plain (whole_number r.0)) (plain r.1) env) w)))) r

pub loop_part_faults : (a : At) (ls : LegTrees) (e : ExprTree) (b n x : Binder) (f : ExprTree) (env : Env) (m : ExprTree) (s : Thing) (lists : List (List Value)) (rows : List Value) → m ≡ loop a ls e b n x f → eval_legs ls env ≡ done lists → rows_of lists ≡ done rows → act e env s ≡ fault → act m env s ≡ fault
loop_part_faults a ls e b n x f env m s lists rows is q r u =
    ap (λ l. act l env s) is ∙ ap (by_legs e b n x f env s) q
    ∙ ap (λ o. and_then o (λ rows. and_then (act e env s) (λ t. run (number_from 0 rows) t (λ r w. act f (with_row b n x (bare_thing t) (plain (whole_number r.0)) (plain r.1) env) w)))) r
    ∙ ap (λ o. and_then o (λ t. run (number_from 0 rows) t (λ r w. act f (with_row b n x (bare_thing t) (plain (whole_number r.0)) (plain r.1) env) w))) u
