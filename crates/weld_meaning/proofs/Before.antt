-- The start that stands before a thing, by the thing's origin.
use Rattle.std.proofs.Common.{◌≡◌, ℕ, zero, suc, refl, ap, sym, ◌∙◌, subst, Bool, true, false, if◌then◌else◌, [], ◌∷◌, map, Option, Some, None, option_map, ◌==◌}
use Rattle.weld_meaning.specs.Environment.{Named, look_for}
use Rattle.weld_meaning.specs.Thing.{Thing, plain, building, several, Things, no_things, more_things, struct_of, nothing, fields_of, first_of, rest_of, after_thing, after_things}
use Rattle.weld_meaning.specs.Evaluation.{Env}
use Rattle.weld_meaning.specs.Origin.{Path, Origin, value, made, own, outer, named, struct, Origins, no_origins, more_origins, origin_at, field_origin, are_values, struct_origin, known_origin, origin_of_name, own_below, own_fields, own_paths, from_within, all_from_within, outside}
use Rattle.weld_meaning.specs.Linear.{IsSeen, AreSeen}
use Rattle.weld_meaning.proofs.Outcomes.{option_map_same}
use Rattle.weld_meaning.proofs.Joining.{nth, nth-no_things, after_nothing, after_no_things, struct_of-after}

-- what stands at a path of a start
abbrev pub at : Path → Thing → Thing
at [] s = s
at (n ∷ p) s = nth n (fields_of (at p s))

-- before a path of the own builder stands what the start has there, before a struct what stands before its fields, and
-- before anything else nothing
abbrev mutual
  pub before : Thing → Origin → Thing
  before s value = nothing
  before s made = nothing
  before s (own p) = at p s
  before s outer = nothing
  before s (named x p) = nothing
  before s (struct os) = several (all_before s os)

  pub all_before : Thing → Origins → Things
  all_before s no_origins = no_things
  all_before s (more_origins o os) = more_things (before s o) (all_before s os)

-- ---- fields and structs

before-origin_at : (s : Thing) (n : ℕ) (os : Origins) → before s (origin_at n os) ≡ nth n (all_before s os)
before-origin_at s zero no_origins = refl
before-origin_at s (suc n) no_origins = sym (nth-no_things n)
before-origin_at s zero (more_origins o os) = refl
before-origin_at s (suc n) (more_origins o os) = before-origin_at s n os

pub before-field_origin : (s : Thing) (n : ℕ) (o : Origin) → before s (field_origin n o) ≡ nth n (fields_of (before s o))
before-field_origin s n value = sym (nth-no_things n)
before-field_origin s n made = sym (nth-no_things n)
before-field_origin s n (own p) = refl
before-field_origin s n outer = sym (nth-no_things n)
before-field_origin s n (named x p) = sym (nth-no_things n)
before-field_origin s n (struct os) = before-origin_at s n os

-- nothing stands before values
after-values : (s : Thing) (os : Origins) (ts : Things) → are_values os ≡ true → after_things (all_before s os) ts ≡ ts
after-values s no_origins ts e = after_no_things ts
after-values s (more_origins o os) no_things e = refl
after-values s (more_origins value os) (more_things t ts) e = λ i. more_things (after_nothing t i) (after-values s os ts e i)
after-values s (more_origins made os) (more_things t ts) e = cc
after-values s (more_origins (own p) os) (more_things t ts) e = cc
after-values s (more_origins outer os) (more_things t ts) e = cc
after-values s (more_origins (named x p) os) (more_things t ts) e = cc
after-values s (more_origins (struct ps) os) (more_things t ts) e = cc

pub struct_of-before : (s : Thing) (os : Origins) (ts : Things) → struct_of (after_things (all_before s os) ts) ≡ after_thing (before s (struct_origin os)) (struct_of ts)
struct_of-before s os ts = by (are_values os) refl
  where
    by : (b : Bool) → are_values os ≡ b → struct_of (after_things (all_before s os) ts) ≡ after_thing (before s (if b then value else struct os)) (struct_of ts)
    by true e = ap struct_of (after-values s os ts e) ∙ sym (after_nothing (struct_of ts))
    by false e = struct_of-after (all_before s os) ts

-- ---- a loop within

-- the things from that number on
abbrev pub drop_things : ℕ → Things → Things
drop_things zero ts = ts
drop_things (suc n) ts = drop_things n (rest_of ts)

pub first_of-drop_things : (n : ℕ) (ts : Things) → nth n ts ≡ first_of (drop_things n ts)
first_of-drop_things zero ts = refl
first_of-drop_things (suc n) ts = first_of-drop_things n (rest_of ts)

pub drop_things-suc : (n : ℕ) (ts : Things) → drop_things (suc n) ts ≡ rest_of (drop_things n ts)
drop_things-suc zero ts = refl
drop_things-suc (suc n) ts = drop_things-suc n (rest_of ts)

mutual
  -- where t has at p what stands before the origin in s, it has before the paths below p what stands before the origin
  before-own_below : (s t : Thing) (p : Path) (o : Origin) → at p t ≡ before s o → before t (own_below p o) ≡ before s o
  before-own_below s t p value e = refl
  before-own_below s t p made e = e
  before-own_below s t p (own q) e = e
  before-own_below s t p outer e = e
  before-own_below s t p (named x q) e = e
  before-own_below s t p (struct os) e = ap several (before-own_fields s t zero p os (ap fields_of e))

  before-own_fields : (s t : Thing) (n : ℕ) (p : Path) (os : Origins) → drop_things n (fields_of (at p t)) ≡ all_before s os → all_before t (own_fields n p os) ≡ all_before s os
  before-own_fields s t n p no_origins e = refl
  before-own_fields s t n p (more_origins o os) e =
      let here : at (n ∷ p) t ≡ before s o = first_of-drop_things n (fields_of (at p t)) ∙ ap first_of e in
      let rest : drop_things (suc n) (fields_of (at p t)) ≡ all_before s os = drop_things-suc n (fields_of (at p t)) ∙ ap rest_of e in
      λ i. more_things (before-own_below s t (n ∷ p) o here i) (before-own_fields s t (suc n) p os rest i)

-- before the paths of a lambda's own builder stands what stands before the builder with which the loop starts
pub before-own_paths : (s : Thing) (o : Origin) → before (before s o) (own_paths o) ≡ before s o
before-own_paths s o = before-own_below s (before s o) [] o refl

-- ---- what is seen from within a lambda

-- no builder stands in it
abbrev mutual
  pub HasNone : Origin → Type 0
  HasNone value = Unit {0}
  HasNone made = ⊥
  HasNone (own p) = ⊥
  HasNone outer = ⊥
  HasNone (named s p) = ⊥
  HasNone (struct os) = HaveNone os

  pub HaveNone : Origins → Type 0
  HaveNone no_origins = Unit {0}
  HaveNone (more_origins o os) = HasNone o × HaveNone os

mutual
  pub none_within : (o : Origin) → IsSeen (from_within o) → HasNone o
  none_within value h = tt
  none_within made h = h
  none_within (own p) h = h
  none_within outer h = h
  none_within (named s p) h = h
  none_within (struct os) h = all_none_within os h

  all_none_within : (os : Origins) → AreSeen (all_from_within os) → HaveNone os
  all_none_within no_origins h = tt
  all_none_within (more_origins o os) h = (none_within o h.0, all_none_within os h.1)

mutual
  pub seen_of_none : (o : Origin) → HasNone o → IsSeen o
  seen_of_none value h = tt
  seen_of_none made h = absurd h
  seen_of_none (own p) h = absurd h
  seen_of_none outer h = absurd h
  seen_of_none (named s p) h = absurd h
  seen_of_none (struct os) h = all_seen_of_none os h

  all_seen_of_none : (os : Origins) → HaveNone os → AreSeen os
  all_seen_of_none no_origins h = tt
  all_seen_of_none (more_origins o os) h = (seen_of_none o h.0, all_seen_of_none os h.1)

mutual
  pub none_from_within : (o : Origin) → HasNone o → HasNone (from_within o)
  none_from_within value h = tt
  none_from_within made h = absurd h
  none_from_within (own p) h = absurd h
  none_from_within outer h = absurd h
  none_from_within (named s p) h = absurd h
  none_from_within (struct os) h = all_none_from_within os h

  all_none_from_within : (os : Origins) → HaveNone os → HaveNone (all_from_within os)
  all_none_from_within no_origins h = tt
  all_none_from_within (more_origins o os) h = (none_from_within o h.0, all_none_from_within os h.1)

mutual
  pub after-none : (s t : Thing) (o : Origin) → HasNone o → after_thing (before s o) t ≡ t
  after-none s t value h = after_nothing t
  after-none s t made h = absurd h
  after-none s t (own p) h = absurd h
  after-none s t outer h = absurd h
  after-none s t (named x p) h = absurd h
  after-none s (plain v) (struct os) h = refl
  after-none s (building d) (struct os) h = refl
  after-none s (several ds) (struct os) h = ap several (all_after-none s ds os h)

  all_after-none : (s : Thing) (ts : Things) (os : Origins) → HaveNone os → after_things (all_before s os) ts ≡ ts
  all_after-none s ts no_origins h = after_no_things ts
  all_after-none s no_things (more_origins o os) h = refl
  all_after-none s (more_things t ts) (more_origins o os) h = λ i. more_things (after-none s t o h.0 i) (all_after-none s ts os h.1 i)

-- ---- related environments

-- each name that is seen stands in the second environment for what it stands for in the first, with the start before it
pub record Related (g : Named Origin) (s : Thing) (env later : Env) : Type 0 where
  pub same : (x : ℕ) → IsSeen (origin_of_name x g) → look_for x later ≡ option_map (after_thing (before s (origin_of_name x g))) (look_for x env)

pub related-bind : (g : Named Origin) (s : Thing) (env later : Env) (x : ℕ) (o : Origin) (t u : Thing) → u ≡ after_thing (before s o) t → Related g s env later → Related ((x, o) ∷ g) s ((x, t) ∷ env) ((x, u) ∷ later)
related-bind g s env later x o t u e r = record { same = λ y. by (y == x) (look_for y g) (look_for y env) (look_for y later) (r.same y) }
  where
    by : (b : Bool) (p : Option Origin) (m n : Option Thing) → (IsSeen (known_origin p) → n ≡ option_map (after_thing (before s (known_origin p))) m) → IsSeen (known_origin (if b then Some o else p)) → (if b then Some u else n) ≡ option_map (after_thing (before s (known_origin (if b then Some o else p)))) (if b then Some t else m)
    by true p m n h seen = ap Some e
    by false p m n h seen = h seen

pub look_for-map : {A B : Type 0} (f : A → B) (x : ℕ) (g : Named A) → look_for x (map (λ (e : ℕ × A). (e.0, f e.1)) g) ≡ option_map f (look_for x g)
look_for-map f x [] = refl
look_for-map f x (e ∷ es) = by (x == e.0) (look_for-map f x es)
  where
    by : (b : Bool) → look_for x (map (λ e. (e.0, f e.1)) es) ≡ option_map f (look_for x es) → (if b then Some (f e.1) else look_for x (map (λ e. (e.0, f e.1)) es)) ≡ option_map f (if b then Some e.1 else look_for x es)
    by true h = refl
    by false h = h

origin_from_within : (m : Option Origin) → known_origin (option_map from_within m) ≡ from_within (known_origin m)
origin_from_within (Some o) = refl
origin_from_within None = refl

pub origin_outside : (x : ℕ) (g : Named Origin) → origin_of_name x (outside g) ≡ from_within (origin_of_name x g)
origin_outside x g = ap known_origin (look_for-map from_within x g) ∙ origin_from_within (look_for x g)

-- within a lambda only values of outside are seen
pub related-outside : (g : Named Origin) (s r : Thing) (env later : Env) → Related g s env later → Related (outside g) r env later
related-outside g s r env later rel = record {
  same = λ x seen.
      let o = origin_of_name x g in
      let none : HasNone o = none_within o (subst IsSeen (origin_outside x g) seen) in
      let within : HasNone (origin_of_name x (outside g)) = subst HasNone (sym (origin_outside x g)) (none_from_within o none) in
      rel.same x (seen_of_none o none)
      ∙ option_map_same (after_thing (before s o)) (look_for x env) (λ t. after-none s t o none)
      ∙ sym (option_map_same (after_thing (before r (origin_of_name x (outside g)))) (look_for x env) (λ t. after-none r t (origin_of_name x (outside g)) within));
}

-- and nothing else, whatever start there is
pub related-self : (g : Named Origin) (r : Thing) (env : Env) → Related (outside g) r env env
related-self g r env = record {
  same = λ x seen.
      let none : HasNone (origin_of_name x g) = none_within (origin_of_name x g) (subst IsSeen (origin_outside x g) seen) in
      let within : HasNone (origin_of_name x (outside g)) = subst HasNone (sym (origin_outside x g)) (none_from_within (origin_of_name x g) none) in
      sym (option_map_same (after_thing (before r (origin_of_name x (outside g)))) (look_for x env) (λ t. after-none r t (origin_of_name x (outside g)) within));
}
