-- What is known of a node is known of its parts.
use Rattle.std.proofs.Common.{◌≡◌, ℕ, ◌∷◌, sym, subst}
use Rattle.weld_data.specs.Value.{Value}
use Rattle.weld_tree.specs.declared.binder.Binder.{Binder}
use Rattle.weld_tree.specs.TypeTree.{TypeTree, TypeTrees, no_types, more_types}
use Rattle.weld_tree.specs.Types.{IsBuilderFree, AreBuilderFree, IsWellFormed}
use Rattle.weld_tree.specs.ExprTree.{ExprTree, At, one, two, three, many, let_in, loop, iterate, ExprTrees, more_exprs, LegTree, LegTrees, more_legs, One, Two, Three, Many}
use Rattle.weld_tree.specs.HasValue.{HasValue}
use Rattle.weld_builders.specs.Outcome.{done}
use Rattle.weld_builders.proofs.Order.{value_cmp_total}
use Rattle.weld_builders.proofs.Steps.{keys_stand}
use Rattle.weld_meaning.specs.Environment.{Named}
use Rattle.weld_meaning.specs.Thing.{Thing, plain}
use Rattle.weld_meaning.specs.Typing.{Types, HasType, HaveTypes, LegsHave, RowHas}
use Rattle.weld_meaning.specs.ThingType.{HasThing}
use Rattle.weld_meaning.specs.Meaning.{GivesOrFaults}
use Rattle.weld_meaning.specs.Evaluation.{Env, eval}
use Rattle.weld_meaning.specs.Origin.{Origin, value, origin, outside, in_turn}
use Rattle.weld_meaning.proofs.WellFormed.{formed_bind, type_formed}
use Rattle.weld_meaning.proofs.PartsGood.{KeyLaws}
use Rattle.weld_meaning.proofs.NeverStuck.{never_stuck, fits_bind}
use Rattle.weld_meaning.proofs.OriginTypes.{forms_bind, forms_outside, origin_forms}
use Rattle.weld_eval.specs.Fit.{AreNamed, IsFit, AreFit, LegIsFit, LegsAreFit}
use Rattle.weld_eval.specs.Takes.{OneTakes, TwoTakes, ThreeTakes}

pub key_laws : KeyLaws
key_laws = record { total = value_cmp_total; alike = keys_stand }

-- ---- what an expression gives

pub gives : (e : ExprTree) (names : Types) (origins : Named Origin) (env : Env) (t : TypeTree) (x : Thing) → AreNamed names origins env → HasType e names t → eval e env ≡ done x → HasThing x t
gives e names origins env t x n h is = subst (GivesOrFaults (λ y. HasThing y t)) is (never_stuck key_laws e names t env h n.formed n.fits).fits

formed_of : (e : ExprTree) (names : Types) (origins : Named Origin) (env : Env) (t : TypeTree) → AreNamed names origins env → HasType e names t → IsWellFormed t
formed_of e names origins env t n h = type_formed e names t h n.formed

-- ---- names of lambdas and lets

pub named_bind : (e : ExprTree) (names : Types) (origins : Named Origin) (env : Env) (s : ℕ) (t : TypeTree) (x : Thing) → AreNamed names origins env → HasType e names t → HasThing x t → AreNamed ((s, t) ∷ names) ((s, origin e origins) ∷ origins) ((s, x) ∷ env)
named_bind e names origins env s t x n h hx = record {
  formed = formed_bind names s t (type_formed e names t h n.formed) n.formed;
  fits = fits_bind names env s t x hx n.fits;
  forms = forms_bind origins names s (origin e origins) t (origin_forms e origins names t h n.formed n.forms) n.forms;
}

pub named_turn : (e : ExprTree) (names : Types) (origins : Named Origin) (env : Env) (b : Binder) (t : TypeTree) (v : Value) → AreNamed names origins env → HasType e names t → IsBuilderFree t → HasValue t v → AreNamed ((b.sym.0, t) ∷ names) (in_turn b origins) ((b.sym.0, plain v) ∷ env)
named_turn e names origins env b t v n h free hv = record {
  formed = formed_bind names b.sym.0 t (type_formed e names t h n.formed) n.formed;
  fits = fits_bind names env b.sym.0 t (plain v) hv n.fits;
  forms = forms_bind (outside origins) names b.sym.0 value t free (forms_outside origins names n.forms);
}

pub row_free : (us : TypeTrees) (r : TypeTree) → AreBuilderFree us → RowHas us r → IsBuilderFree r
row_free no_types r f h = absurd h
row_free (more_types u no_types) r f h = subst IsBuilderFree (sym h) f.0
row_free (more_types u (more_types v us)) r f h = subst IsBuilderFree (sym h) f

-- ---- parts

pub fit_one : (a : At) (o : One) (e : ExprTree) (env : Env) → IsFit (one a o e) env → IsFit e env
fit_one a o e env h = record { names = h.names; origins = h.origins; named = h.named; answer = h.typed.0; typed = h.typed.1; keeps = h.keeps.0 }

pub one_takes : (a : At) (o : One) (e : ExprTree) (env : Env) (x : Thing) → IsFit (one a o e) env → eval e env ≡ done x → OneTakes o x
one_takes a o e env x h is = record {
  first = h.typed.0;
  answer = h.answer;
  rule = h.typed.2;
  formed = formed_of e h.names h.origins env h.typed.0 h.named h.typed.1;
  answer_formed = formed_of (one a o e) h.names h.origins env h.answer h.named h.typed;
  has = gives e h.names h.origins env h.typed.0 x h.named h.typed.1 is;
}

pub fit_first_of_two : (a : At) (o : Two) (e f : ExprTree) (env : Env) → IsFit (two a o e f) env → IsFit e env
fit_first_of_two a o e f env h = record { names = h.names; origins = h.origins; named = h.named; answer = h.typed.0; typed = h.typed.2; keeps = h.keeps.0 }

pub fit_second_of_two : (a : At) (o : Two) (e f : ExprTree) (env : Env) → IsFit (two a o e f) env → IsFit f env
fit_second_of_two a o e f env h = record { names = h.names; origins = h.origins; named = h.named; answer = h.typed.1; typed = h.typed.3; keeps = h.keeps.1 }

pub two_takes : (a : At) (o : Two) (e f : ExprTree) (env : Env) (x y : Thing) → IsFit (two a o e f) env → eval e env ≡ done x → eval f env ≡ done y → TwoTakes o x y
two_takes a o e f env x y h is also = record {
  first = h.typed.0;
  second = h.typed.1;
  answer = h.answer;
  rule = h.typed.4;
  formed = formed_of e h.names h.origins env h.typed.0 h.named h.typed.2;
  has_first = gives e h.names h.origins env h.typed.0 x h.named h.typed.2 is;
  has_second = gives f h.names h.origins env h.typed.1 y h.named h.typed.3 also;
}

pub fit_first_of_three : (a : At) (o : Three) (e f g : ExprTree) (env : Env) → IsFit (three a o e f g) env → IsFit e env
fit_first_of_three a o e f g env h = record { names = h.names; origins = h.origins; named = h.named; answer = h.typed.0; typed = h.typed.3; keeps = h.keeps.0 }

pub fit_second_of_three : (a : At) (o : Three) (e f g : ExprTree) (env : Env) → IsFit (three a o e f g) env → IsFit f env
fit_second_of_three a o e f g env h = record { names = h.names; origins = h.origins; named = h.named; answer = h.typed.1; typed = h.typed.4; keeps = h.keeps.1 }

pub fit_third_of_three : (a : At) (o : Three) (e f g : ExprTree) (env : Env) → IsFit (three a o e f g) env → IsFit g env
fit_third_of_three a o e f g env h = record { names = h.names; origins = h.origins; named = h.named; answer = h.typed.2; typed = h.typed.5; keeps = h.keeps.2 }

pub three_takes : (a : At) (o : Three) (e f g : ExprTree) (env : Env) (x y z : Thing) → IsFit (three a o e f g) env → eval e env ≡ done x → eval f env ≡ done y → eval g env ≡ done z → ThreeTakes o x y z
three_takes a o e f g env x y z h is also third = record {
  first = h.typed.0;
  second = h.typed.1;
  third = h.typed.2;
  answer = h.answer;
  rule = h.typed.6;
  has_first = gives e h.names h.origins env h.typed.0 x h.named h.typed.3 is;
  has_second = gives f h.names h.origins env h.typed.1 y h.named h.typed.4 also;
  has_third = gives g h.names h.origins env h.typed.2 z h.named h.typed.5 third;
}

pub fit_many : (a : At) (o : Many) (es : ExprTrees) (env : Env) → IsFit (many a o es) env → AreFit es env
fit_many a o es env h = record { names = h.names; origins = h.origins; named = h.named; answers = h.typed.0; typed = h.typed.1; keeps = h.keeps }

pub fit_value : (a : At) (b : Binder) (e f : ExprTree) (env : Env) → IsFit (let_in a b e f) env → IsFit e env
fit_value a b e f env h = record { names = h.names; origins = h.origins; named = h.named; answer = h.typed.0; typed = h.typed.1; keeps = h.keeps.0 }

pub fit_let_body : (a : At) (b : Binder) (e f : ExprTree) (env : Env) (x : Thing) → IsFit (let_in a b e f) env → eval e env ≡ done x → IsFit f ((b.sym.0, x) ∷ env)
fit_let_body a b e f env x h is = record {
  names = (b.sym.0, h.typed.0) ∷ h.names;
  origins = (b.sym.0, origin e h.origins) ∷ h.origins;
  named = named_bind e h.names h.origins env b.sym.0 h.typed.0 x h.named h.typed.1 (gives e h.names h.origins env h.typed.0 x h.named h.typed.1 is);
  answer = h.answer;
  typed = h.typed.3;
  keeps = h.keeps.1;
}

pub fit_state : (a : At) (e : ExprTree) (b : Binder) (f : ExprTree) (env : Env) → IsFit (iterate a e b f) env → IsFit e env
fit_state a e b f env h = record { names = h.names; origins = h.origins; named = h.named; answer = h.answer; typed = h.typed.0; keeps = h.keeps.0 }

pub fit_builder : (a : At) (ls : LegTrees) (e : ExprTree) (b n x : Binder) (f : ExprTree) (env : Env) → IsFit (loop a ls e b n x f) env → IsFit e env
fit_builder a ls e b n x f env h = record { names = h.names; origins = h.origins; named = h.named; answer = h.answer; typed = h.typed.4; keeps = h.keeps.1 }

pub fit_legs : (a : At) (ls : LegTrees) (e : ExprTree) (b n x : Binder) (f : ExprTree) (env : Env) → IsFit (loop a ls e b n x f) env → LegsAreFit ls env
fit_legs a ls e b n x f env h = record { names = h.names; origins = h.origins; named = h.named; answers = h.typed.0; typed = h.typed.2; keeps = h.keeps.0 }

-- ---- lists of parts

pub fit_first_of_all : (e : ExprTree) (es : ExprTrees) (env : Env) → AreFit (more_exprs e es) env → IsFit e env
fit_first_of_all e es env h = by h.answers h.typed
  where
    by : (us : TypeTrees) → HaveTypes (more_exprs e es) h.names us → IsFit e env
    by no_types k = absurd k
    by (more_types u us) k = record { names = h.names; origins = h.origins; named = h.named; answer = u; typed = k.0; keeps = h.keeps.0 }

pub fit_rest_of_all : (e : ExprTree) (es : ExprTrees) (env : Env) → AreFit (more_exprs e es) env → AreFit es env
fit_rest_of_all e es env h = by h.answers h.typed
  where
    by : (us : TypeTrees) → HaveTypes (more_exprs e es) h.names us → AreFit es env
    by no_types k = absurd k
    by (more_types u us) k = record { names = h.names; origins = h.origins; named = h.named; answers = us; typed = k.1; keeps = h.keeps.1 }

pub fit_first_leg : (l : LegTree) (ls : LegTrees) (env : Env) → LegsAreFit (more_legs l ls) env → LegIsFit l env
fit_first_leg l ls env h = by h.answers h.typed
  where
    by : (us : TypeTrees) → LegsHave (more_legs l ls) h.names us → LegIsFit l env
    by no_types k = absurd k
    by (more_types u us) k = record { names = h.names; origins = h.origins; named = h.named; answer = u; typed = k.0; keeps = h.keeps.0 }

pub fit_rest_of_legs : (l : LegTree) (ls : LegTrees) (env : Env) → LegsAreFit (more_legs l ls) env → LegsAreFit ls env
fit_rest_of_legs l ls env h = by h.answers h.typed
  where
    by : (us : TypeTrees) → LegsHave (more_legs l ls) h.names us → LegsAreFit ls env
    by no_types k = absurd k
    by (more_types u us) k = record { names = h.names; origins = h.origins; named = h.named; answers = us; typed = k.1; keeps = h.keeps.1 }
