-- Plain values: where they lead, what they hold, and that they don't fault.
use Rattle.std.proofs.Common.{◌≡◌, ℕ, zero, suc, true, Option, Some, None, length, refl, ap, subst, ◌∙◌}
use Rattle.weld_data.specs.Value.{number, list as list_value, struct as struct_value, dict as dict_value, Values, no_values, and_value}
use Rattle.weld_tree.specs.TypeTree.{TypeTree, TypeTrees, scalar, vec, struct as tuple, dict, build, no_types, more_types}
use Rattle.weld_tree.specs.Types.{IsBuilder, AreBuilders, HasTypes, IsWellFormed, AreWellFormed}
use Rattle.weld_tree.specs.ExprTree.{ExprTree}
use Rattle.weld_tree.specs.Program.{loops, bound}
use Rattle.weld_builders.specs.Outcome.{Outcome, done, fault, stuck, and_then, map_out}
use Rattle.weld_meaning.specs.Environment.{Named, look_for}
use Rattle.weld_meaning.specs.Thing.{Thing, plain, building, several, Things, no_things, more_things, thing_at, value_at, field_of}
use Rattle.weld_meaning.specs.Evaluation.{Env, found, eval}
use Rattle.weld_meaning.specs.Typing.{Types, AreFormed, HasType}
use Rattle.weld_meaning.specs.Origin.{Path, Origin, value, made, own, outer, named, struct, Origins, no_origins, more_origins, field_origin, origin_of_name, origin, from_within}
use Rattle.weld_meaning.specs.Linear.{IsSeen}
use Rattle.weld_meaning.specs.Available.{field_within, at_path, chain_of}
use Rattle.weld_meaning.proofs.Before.{HasNone, HaveNone, none_within}
use Rattle.weld_meaning.specs.Forms.{HasForm, HaveForms, NamesHaveForms}
use Rattle.weld_meaning.proofs.OriginTypes.{not_both, origin_forms}
use Rattle.weld_rewriting.specs.Within.{times, legs}
use Rattle.weld_substitution.specs.Redex.{is_plain}
use Rattle.weld_substitution.proofs.Chains.{chain_by, plain_by}

-- ---- where a chain leads

field_leads : (n : ℕ) (o : Origin) (us : TypeTrees) → HasForm o (tuple us) → field_origin n o ≡ field_within n o
field_leads n value us h = refl
field_leads n made us h = absurd h
field_leads n (own p) us h = absurd h
field_leads n outer us h = absurd h
field_leads n (named s p) us h = absurd h
field_leads n (struct os) us h = refl

pub chain_leads : (types : Types) (g : Named Origin) → AreFormed types → NamesHaveForms g types → (d : ExprTree) (c : ℕ × Path) → chain_of d ≡ Some c → (u : TypeTree) → HasType d types u → origin d g ≡ at_path c.1 (origin_of_name c.0 g)
chain_leads types g formed forms d c k =
    chain_by (λ x y. (u : TypeTree) → HasType x types u → origin x g ≡ at_path y.1 (origin_of_name y.0 g))
    (λ a s u h. refl)
    (λ a n x y m f u h.
    field_leads n (origin x g) h.2.0 (subst (HasForm (origin x g)) h.2.1 (origin_forms x g types h.0 h.1 formed forms)) ∙ ap (field_within n) (f h.0 h.1))
    d c k

-- ---- a builder isn't seen within a lambda

mutual
  none_builds : (o : Origin) (u : TypeTree) → HasNone o → HasForm o u → IsWellFormed u → IsBuilder u → ⊥
  none_builds value u n h w b = not_both u w b h
  none_builds made u n h w b = n
  none_builds (own p) u n h w b = n
  none_builds outer u n h w b = n
  none_builds (named s p) u n h w b = n
  none_builds (struct os) (scalar k) n h w b = h
  none_builds (struct os) (vec t) n h w b = h
  none_builds (struct os) (tuple us) n h w b = none_build os us n h.1 w.0 w.1 b
  none_builds (struct os) (dict k t) n h w b = h
  none_builds (struct os) (build c) n h w b = h

  none_build : (os : Origins) (us : TypeTrees) → HaveNone os → HaveForms os us → HasTypes us → AreWellFormed us → AreBuilders us → ⊥
  none_build os no_types n h some w b = some
  none_build no_origins (more_types u us) n h some w b = h
  none_build (more_origins o os) (more_types u us) n h some w b = none_builds o u n.0 h.0 w.0 b.0

pub builder_hidden : (o : Origin) (u : TypeTree) → HasForm o u → IsWellFormed u → IsBuilder u → IsSeen (from_within o) → ⊥
builder_hidden o u h w b seen = none_builds o u (none_within o seen) h w b

-- ---- what a plain value holds

pub record HoldsNothing (v : ExprTree) : Type 0 where
  pub binds : (t : ℕ) → times (bound v) t ≡ 0
  pub no_loops : loops v ≡ 0
  pub no_legs : legs v ≡ 0
  pub no_binders : length (bound v) ≡ 0

pub plain_holds : (v : ExprTree) → is_plain v ≡ true → HoldsNothing v
plain_holds v h =
    plain_by HoldsNothing
    (λ a k x. record { binds = λ t. refl; no_loops = refl; no_legs = refl; no_binders = refl })
    (λ a b. record { binds = λ t. refl; no_loops = refl; no_legs = refl; no_binders = refl })
    (λ w c k. chain_by (λ x y. HoldsNothing x)
    (λ a s. record { binds = λ t. refl; no_loops = refl; no_legs = refl; no_binders = refl })
    (λ a n x y m f. record { binds = f.binds; no_loops = f.no_loops; no_legs = f.no_legs; no_binders = f.no_binders }) w c k) v h

-- ---- it doesn't fault

value_at_gives : (n : ℕ) (vs : Values) → value_at n vs ≡ fault → ⊥
value_at_gives zero no_values e = let nothing : ⊥ = cc in nothing
value_at_gives (suc n) no_values e = let nothing : ⊥ = cc in nothing
value_at_gives zero (and_value v vs) e = let nothing : ⊥ = cc in nothing
value_at_gives (suc n) (and_value v vs) e = value_at_gives n vs e

thing_at_gives : (n : ℕ) (ts : Things) → thing_at n ts ≡ fault → ⊥
thing_at_gives zero no_things e = let nothing : ⊥ = cc in nothing
thing_at_gives (suc n) no_things e = let nothing : ⊥ = cc in nothing
thing_at_gives zero (more_things t ts) e = let nothing : ⊥ = cc in nothing
thing_at_gives (suc n) (more_things t ts) e = thing_at_gives n ts e

map_gives : {A B : Type 0} (f : A → B) (o : Outcome A) → (o ≡ fault → ⊥) → map_out f o ≡ fault → ⊥
map_gives f (done x) k e = let nothing : ⊥ = cc in nothing
map_gives f fault k e = k refl
map_gives f stuck k e = let nothing : ⊥ = cc in nothing

field_gives : (n : ℕ) (t : Thing) → field_of n t ≡ fault → ⊥
field_gives n (plain (number k x)) e = let nothing : ⊥ = cc in nothing
field_gives n (plain (list_value vs)) e = let nothing : ⊥ = cc in nothing
field_gives n (plain (struct_value vs)) e = map_gives plain (value_at n vs) (value_at_gives n vs) e
field_gives n (plain (dict_value es)) e = let nothing : ⊥ = cc in nothing
field_gives n (building p) e = let nothing : ⊥ = cc in nothing
field_gives n (several ts) e = thing_at_gives n ts e

found_gives : (m : Option Thing) → found m ≡ fault → ⊥
found_gives (Some t) e = let nothing : ⊥ = cc in nothing
found_gives None e = let nothing : ⊥ = cc in nothing

then_gives : {A B : Type 0} (o : Outcome A) (f : A → Outcome B) → (o ≡ fault → ⊥) → ((x : A) → f x ≡ fault → ⊥) → and_then o f ≡ fault → ⊥
then_gives (done x) f k m e = m x e
then_gives fault f k m e = k refl
then_gives stuck f k m e = let nothing : ⊥ = cc in nothing

pub plain_gives : (env : Env) (v : ExprTree) → is_plain v ≡ true → eval v env ≡ fault → ⊥
plain_gives env v h =
    plain_by (λ w. eval w env ≡ fault → ⊥)
    (λ a k x e. let nothing : ⊥ = cc in nothing)
    (λ a b e. let nothing : ⊥ = cc in nothing)
    (λ w c k. chain_by (λ x y. eval x env ≡ fault → ⊥) (λ a s. found_gives (look_for s env)) (λ a n x y m f. then_gives (eval x env) (field_of n) f (field_gives n)) w c k)
    v h
