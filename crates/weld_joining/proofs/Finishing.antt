-- What is answered in the end, a thing or its result: each rule of both.
use Rattle.std.proofs.Common.{◌≡◌, ℕ, List, Bool, Option, Some, None, refl, sym, ap, subst, ◌∙◌}
use Rattle.weld_data.specs.Value.{Value}
use Rattle.weld_tree.specs.TypeTree.{TypeTree, build}
use Rattle.weld_tree.specs.ExprTree.{At, ExprTree, one, finish}
use Rattle.weld_tree.specs.Program.{bound, loops, IsWellMade}
use Rattle.weld_builders.specs.Outcome.{Outcome, done, fault, stuck, and_then}
use Rattle.weld_meaning.specs.Environment.{Named}
use Rattle.weld_meaning.specs.Names.{IsFree}
use Rattle.weld_meaning.specs.Thing.{Thing, plain, field_of}
use Rattle.weld_meaning.specs.ThingType.{HasThing}
use Rattle.weld_meaning.specs.Typing.{Types, OneHas, HasType}
use Rattle.weld_meaning.specs.Origin.{Path, Origin, value, origin}
use Rattle.weld_meaning.specs.Linear.{IsNotOwn, Keeps}
use Rattle.weld_meaning.specs.Available.{takes, Splits}
use Rattle.weld_meaning.specs.Evaluation.{Env, finished, eval}
use Rattle.weld_meaning.proofs.OneType.{one_type}
use Rattle.weld_check_types.specs.Notes.{HasNote, AreNoted}
use Rattle.weld_print.specs.Spellable.{IsSpellable}
use Rattle.weld_rewriting.specs.Placed.{IsPlaced}
use Rattle.weld_rewriting.specs.Within.{legs}
use Rattle.weld_rewriting.proofs.Parts.{part_of_one}
use Rattle.weld_rewriting.specs.Weight.{weight}
use Rattle.weld_joining.specs.Beside.{finish_at}
use Rattle.weld_meaning.proofs.Good.{Good}
use Rattle.weld_joining.proofs.Runs.{pair, both, finished_one}

-- ---- what is asked of a result

abbrev pub FinishHas : Option At → TypeTree → TypeTree → Type 0
FinishHas None t u = u ≡ t
FinishHas (Some a) t u = OneHas finish t u

abbrev pub FinishNoted : Option At → ExprTree → Types → Type 0
FinishNoted None e g = Unit {0}
FinishNoted (Some a) e g = HasNote a (one a finish e) g

abbrev pub FinishKeeps : Option At → Origin → Type 0
FinishKeeps None o = Unit {0}
FinishKeeps (Some a) o = IsNotOwn o

abbrev pub finish_origin : Option At → Origin → Origin
finish_origin None o = o
finish_origin (Some a) o = value

abbrev pub closing : Option At → Thing → Outcome Thing
closing None t = done t
closing (Some a) t = finished t

-- ---- in its place

pub record FinishPlaced (f : Option At) (e : ExprTree) (types : Types) (g : Named Origin) (u : TypeTree) : Type 0 where
  pub type : TypeTree
  pub placed : IsPlaced e types g type
  pub has : FinishHas f type u
  pub result_noted : FinishNoted f e types
  pub closes : FinishKeeps f (origin e g)

pub finish_placed : (f : Option At) (e : ExprTree) (types : Types) (g : Named Origin) (u : TypeTree) → IsPlaced (finish_at f e) types g u → FinishPlaced f e types g u
finish_placed None e types g u p = record { type = u; placed = p; has = refl; result_noted = tt; closes = tt }
finish_placed (Some a) e types g u p = record {
  type = p.typed.0;
  placed = part_of_one a finish e types g u p;
  has = p.typed.2;
  result_noted = p.noted.1;
  closes = p.keeps.1;
}

pub finish_typed : (f : Option At) (e : ExprTree) (g : Types) (t u : TypeTree) → HasType e g t → FinishHas f t u → HasType (finish_at f e) g u
finish_typed None e g t u h w = subst (HasType e g) (sym w) h
finish_typed (Some a) e g t u h w = (t, h, w)

pub finish_noted : (f : Option At) (d e : ExprTree) (g i : Types) (u : TypeTree) → AreNoted d i → FinishNoted f e g → HasType (finish_at f e) g u → HasType (finish_at f d) i u → AreNoted (finish_at f d) i
finish_noted None d e g i u n w x y = n
finish_noted (Some a) d e g i u n w x y = (n, (w.0, w.1, subst (HasType (one a finish d) i) (one_type (one a finish e) g u w.0 x w.2) y))

pub finish_keeps : (f : Option At) (e : ExprTree) (g : Named Origin) → Keeps e g → FinishKeeps f (origin e g) → Keeps (finish_at f e) g
finish_keeps None e g k w = k
finish_keeps (Some a) e g k w = (k, w)

pub finish_splits : (f : Option At) (e : ExprTree) (g : Named Origin) → Splits e g → Splits (finish_at f e) g
finish_splits None e g h = h
finish_splits (Some a) e g h = (h, tt)

pub finish_splits_back : (f : Option At) (e : ExprTree) (g : Named Origin) → Splits (finish_at f e) g → Splits e g
finish_splits_back None e g h = h
finish_splits_back (Some a) e g h = h.0

pub finish_takes : (f : Option At) (e : ExprTree) (g : Named Origin) (s : ℕ) (q : Path) → takes (finish_at f e) g s q ≡ takes e g s q
finish_takes None e g s q = refl
finish_takes (Some a) e g s q = refl

pub finish_from : (f : Option At) (e : ExprTree) (g : Named Origin) → origin (finish_at f e) g ≡ finish_origin f (origin e g)
finish_from None e g = refl
finish_from (Some a) e g = refl

-- ---- what it comes to

keep_out : (o : Outcome Thing) → o ≡ and_then o (λ t. done t)
keep_out (done t) = refl
keep_out fault = refl
keep_out stuck = refl

pub finish_eval : (f : Option At) (e : ExprTree) (env : Env) → eval (finish_at f e) env ≡ and_then (eval e env) (λ t. closing f t)
finish_eval None e env = keep_out (eval e env)
finish_eval (Some a) e env = refl

-- what has the type closes
pub closing_done : (f : Option At) (t u : TypeTree) (y : Thing) → FinishHas f t u → HasThing y t → (v : Thing) × (closing f y ≡ done v)
closing_done None t u y w h = (y, refl)
closing_done (Some a) t u y w h = let v = finished_one w.0 y (subst (HasThing y) w.1 h) in (plain v.0, v.1)

-- both, closed, and then the rest: in either order
pub results_pair : (e f : Option At) (b c v w : TypeTree) (o m : Outcome Thing) (rest : Thing → Thing → Outcome Thing) → FinishHas e b v → FinishHas f c w → Good (λ t. HasThing t b) o → Good (λ t. HasThing t c) m
    → and_then (both o m) (λ s. and_then (and_then (and_then (done s) (field_of 0)) (λ t. closing e t)) (λ y. and_then (and_then (and_then (done s) (field_of 1)) (λ t. closing f t)) (λ z. rest y z)))
    ≡ and_then (and_then o (λ t. closing e t)) (λ y. and_then (and_then m (λ t. closing f t)) (λ z. rest y z))
results_pair e f b c v w (done t) (done u) rest p q x y = refl
results_pair e f b c v w (done t) fault rest p q x y =
    let d = closing_done e b v t p x.fits in ap (λ k. and_then k (λ z. let o : Outcome Thing = fault in o)) (sym d.1)
results_pair e f b c v w (done t) stuck rest p q x y = absurd y.fits
results_pair e f b c v w fault m rest p q x y = refl
results_pair e f b c v w stuck m rest p q x y = absurd x.fits

-- ---- what is counted of it

pub finish_bound : (f : Option At) (e : ExprTree) → bound (finish_at f e) ≡ bound e
finish_bound None e = refl
finish_bound (Some a) e = refl

pub finish_loops : (f : Option At) (e : ExprTree) → loops (finish_at f e) ≡ loops e
finish_loops None e = refl
finish_loops (Some a) e = refl

pub finish_legs : (f : Option At) (e : ExprTree) → legs (finish_at f e) ≡ legs e
finish_legs None e = refl
finish_legs (Some a) e = refl

pub finish_weight : (f : Option At) (e : ExprTree) → weight (finish_at f e) ≡ weight e
finish_weight None e = refl
finish_weight (Some a) e = refl

pub finish_free : (f : Option At) (e : ExprTree) (s : ℕ) → IsFree e s → IsFree (finish_at f e) s
finish_free None e s h = h
finish_free (Some a) e s h = h

pub finish_free_back : (f : Option At) (e : ExprTree) (s : ℕ) → IsFree (finish_at f e) s → IsFree e s
finish_free_back None e s h = h
finish_free_back (Some a) e s h = h

pub finish_made : (f : Option At) (e : ExprTree) → IsWellMade e → IsWellMade (finish_at f e)
finish_made None e w = w
finish_made (Some a) e w = (tt, w)

pub finish_made_back : (f : Option At) (e : ExprTree) → IsWellMade (finish_at f e) → IsWellMade e
finish_made_back None e w = w
finish_made_back (Some a) e w = w.1

pub finish_spellable : (f : Option At) (e : ExprTree) → IsSpellable e → IsSpellable (finish_at f e)
finish_spellable None e w = w
finish_spellable (Some a) e w = (tt, w)

pub finish_spellable_back : (f : Option At) (e : ExprTree) → IsSpellable (finish_at f e) → IsSpellable e
finish_spellable_back None e w = w
finish_spellable_back (Some a) e w = w.1
