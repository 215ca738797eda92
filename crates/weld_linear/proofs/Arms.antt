-- The arms of an `if` agree by names exactly where they do by any labels of the builders before it.
use Rattle.std.proofs.Common.{◌≡◌, ◌↔◌, ℕ, zero, suc, ◌==◌, Bool, true, false, ◌&&◌, if◌then◌else◌, [], ◌∷◌, ◌+◌, refl, ap, sym, subst, ◌∙◌, eqb-true, arith}
use Rattle.weld_tree.specs.ExprTree.{ExprTree, leaf, one, two, three, many, let_in, loop, iterate, ExprTrees, no_exprs, more_exprs, int, truth, chars, name, fresh, neg, not, cast, len, field, finish, started, binary, and, or, look_up, key_exists, merge, if_else, select, slice, make_vec, make_struct}
use Rattle.weld_meaning.specs.Environment.{Named}
use Rattle.weld_meaning.specs.Origin.{Path, Origin, value, made, own, outer, named, struct, Origins, no_origins, more_origins, origin_at, field_origin, is_value, are_values, struct_origin, origin_of_name, origin, origins, named_below, named_fields, by_name}
use Rattle.weld_meaning.specs.Linear.{IsNotMade, AreNotMade, ArmsAgree}
use Rattle.weld_linear.specs.Arms.{Labels, ArmsShare}
use Rattle.weld_linear.specs.Resolve.{follow, resolve, all_resolve}

clash : {A : Type 0} {b : Bool} → b ≡ true → b ≡ false → A
clash p q = let no : ⊥ = cc in absurd no

-- a builder of within the innermost lambda
abbrev pub is_inner : Origin → Bool
is_inner value = false
is_inner made = true
is_inner (own p) = true
is_inner outer = false
is_inner (named s p) = true
is_inner (struct os) = false

-- each path of a name leads to such a builder
abbrev mutual
  pub Leads : Named Origin → Origin → Type 0
  Leads h value = Unit {0}
  Leads h made = Unit {0}
  Leads h (own p) = Unit {0}
  Leads h outer = Unit {0}
  Leads h (named s p) = is_inner (follow p (origin_of_name s h)) ≡ true
  Leads h (struct os) = AllLead h os

  pub AllLead : Named Origin → Origins → Type 0
  AllLead h no_origins = Unit {0}
  AllLead h (more_origins o os) = Leads h o × AllLead h os

field_builder : (n : ℕ) (o : Origin) → is_inner o ≡ true → is_inner (field_origin n o) ≡ true
field_builder n value e = clash e refl
field_builder n made e = refl
field_builder n (own p) e = refl
field_builder n outer e = clash e refl
field_builder n (named s p) e = refl
field_builder n (struct os) e = clash e refl

pub builder_no_value : (o : Origin) → is_inner o ≡ true → is_value o ≡ false
builder_no_value value e = clash e refl
builder_no_value made e = refl
builder_no_value (own p) e = refl
builder_no_value outer e = refl
builder_no_value (named s p) e = refl
builder_no_value (struct os) e = refl

lead_at : (h : Named Origin) (n : ℕ) (os : Origins) → AllLead h os → Leads h (origin_at n os)
lead_at h n no_origins k = tt
lead_at h zero (more_origins o os) k = k.0
lead_at h (suc n) (more_origins o os) k = lead_at h n os k.1

field_leads : (h : Named Origin) (n : ℕ) (o : Origin) → Leads h o → Leads h (field_origin n o)
field_leads h n value k = tt
field_leads h n made k = tt
field_leads h n (own p) k = tt
field_leads h n outer k = tt
field_leads h n (named s p) k = field_builder n (follow p (origin_of_name s h)) k
field_leads h n (struct os) k = lead_at h n os k

resolve_at : (h : Named Origin) (n : ℕ) (os : Origins) → resolve h (origin_at n os) ≡ origin_at n (all_resolve h os)
resolve_at h n no_origins = refl
resolve_at h zero (more_origins o os) = refl
resolve_at h (suc n) (more_origins o os) = resolve_at h n os

resolve_field : (h : Named Origin) (n : ℕ) (o : Origin) → resolve h (field_origin n o) ≡ field_origin n (resolve h o)
resolve_field h n value = refl
resolve_field h n made = refl
resolve_field h n (own p) = refl
resolve_field h n outer = refl
resolve_field h n (named s p) = refl
resolve_field h n (struct os) = resolve_at h n os

pub value_resolved : (h : Named Origin) (o : Origin) → Leads h o → is_value (resolve h o) ≡ is_value o
value_resolved h value k = refl
value_resolved h made k = refl
value_resolved h (own p) k = refl
value_resolved h outer k = refl
value_resolved h (named s p) k = builder_no_value (follow p (origin_of_name s h)) k
value_resolved h (struct os) k = refl

values_resolved : (h : Named Origin) (os : Origins) → AllLead h os → are_values (all_resolve h os) ≡ are_values os
values_resolved h no_origins k = refl
values_resolved h (more_origins o os) k = λ i. value_resolved h o k.0 i && values_resolved h os k.1 i

struct_by : (h : Named Origin) (b : Bool) (os : Origins) → resolve h (if b then value else struct os) ≡ (if b then value else struct (all_resolve h os))
struct_by h true os = refl
struct_by h false os = refl

struct_resolved : (h : Named Origin) (os : Origins) → AllLead h os → resolve h (struct_origin os) ≡ struct_origin (all_resolve h os)
struct_resolved h os k = struct_by h (are_values os) os ∙ ap (λ b. if b then value else struct (all_resolve h os)) (sym (values_resolved h os k))

struct_leads : (h : Named Origin) (b : Bool) (os : Origins) → AllLead h os → Leads h (if b then value else struct os)
struct_leads h true os k = tt
struct_leads h false os k = k

-- ---- origins by names, resolved

Shows : Named Origin → Origin → Origin → Type 0
Shows h o u = Leads h o × (resolve h o ≡ u)

pub record Resolves (h n m : Named Origin) : Type 0 where
  pub at : (s : ℕ) → Leads h (origin_of_name s n) × (resolve h (origin_of_name s n) ≡ origin_of_name s m)

resolves_more : (h n m : Named Origin) (b : ℕ) (o u : Origin) → Leads h o → resolve h o ≡ u → Resolves h n m → Resolves h ((b, o) ∷ n) ((b, u) ∷ m)
resolves_more h n m b o u k e r = record { at = λ s. by s (s == b) refl }
  where
    by : (s : ℕ) (c : Bool) → (s == b) ≡ c → Leads h (origin_of_name s ((b, o) ∷ n)) × (resolve h (origin_of_name s ((b, o) ∷ n)) ≡ origin_of_name s ((b, u) ∷ m))
    by s true p = rw p (k, e)
    by s false p = rw p (r.at s)

mutual
  pub shows : (h n m : Named Origin) (e : ExprTree) → Resolves h n m → Leads h (origin e n) × (resolve h (origin e n) ≡ origin e m)
  shows h n m (leaf a (int k x)) r = (tt, refl)
  shows h n m (leaf a (truth b)) r = (tt, refl)
  shows h n m (leaf a (chars bs)) r = (tt, refl)
  shows h n m (leaf a (name s)) r = r.at s
  shows h n m (leaf a (fresh b)) r = (tt, refl)
  shows h n m (one a neg e) r = (tt, refl)
  shows h n m (one a not e) r = (tt, refl)
  shows h n m (one a (cast k) e) r = (tt, refl)
  shows h n m (one a len e) r = (tt, refl)
  shows h n m (one a (field k) e) r =
      let w = shows h n m e r in (field_leads h k (origin e n) w.0, resolve_field h k (origin e n) ∙ ap (field_origin k) w.1)
  shows h n m (one a finish e) r = (tt, refl)
  shows h n m (one a (started b) e) r = (tt, refl)
  shows h n m (two a (binary op) e f) r = (tt, refl)
  shows h n m (two a and e f) r = (tt, refl)
  shows h n m (two a or e f) r = (tt, refl)
  shows h n m (two a look_up e f) r = (tt, refl)
  shows h n m (two a key_exists e f) r = (tt, refl)
  shows h n m (two a merge e f) r = shows h n m e r
  shows h n m (three a if_else c e f) r = shows h n m e r
  shows h n m (three a select c e f) r = (tt, refl)
  shows h n m (three a slice c e f) r = (tt, refl)
  shows h n m (many a make_vec es) r = (tt, refl)
  shows h n m (many a make_struct es) r =
      let w = all_show h n m es r in
      (struct_leads h (are_values (origins es n)) (origins es n) w.0, struct_resolved h (origins es n) w.0 ∙ ap struct_origin w.1)
  shows h n m (let_in a b e f) r =
      let w = shows h n m e r in shows h _ _ f (resolves_more h n m b.sym.0 (origin e n) (origin e m) w.0 w.1 r)
  shows h n m (loop a ls e b i x f) r = shows h n m e r
  shows h n m (iterate a e b f) r = (tt, refl)

  all_show : (h n m : Named Origin) (es : ExprTrees) → Resolves h n m → AllLead h (origins es n) × (all_resolve h (origins es n) ≡ origins es m)
  all_show h n m no_exprs r = (tt, refl)
  all_show h n m (more_exprs e es) r =
      let w = shows h n m e r in let ws = all_show h n m es r in
      ((w.0, ws.0), λ i. more_origins (w.1 i) (ws.1 i))

-- ---- names as their own origins

name_below : (s : ℕ) (h : Named Origin) → origin_of_name s (by_name h) ≡ named_below s [] (origin_of_name s h)
name_below s [] = refl
name_below s (e ∷ h) = by (s == e.0) refl (name_below s h)
  where
    by : (c : Bool) → (s == e.0) ≡ c → origin_of_name s (by_name h) ≡ named_below s [] (origin_of_name s h) → origin_of_name s (by_name (e ∷ h)) ≡ named_below s [] (origin_of_name s (e ∷ h))
    by true p rest = rw p (ap (λ t. named_below t [] e.1) (sym (eqb-true s e.0 p)))
    by false p rest = rw p rest

mutual
  below_shows : (h : Named Origin) (s : ℕ) (p : Path) (o : Origin) → follow p (origin_of_name s h) ≡ o → Leads h (named_below s p o) × (resolve h (named_below s p o) ≡ o)
  below_shows h s p value e = (tt, refl)
  below_shows h s p made e = (ap is_inner e, e)
  below_shows h s p (own q) e = (ap is_inner e, e)
  below_shows h s p outer e = (tt, refl)
  below_shows h s p (named t q) e = (ap is_inner e, e)
  below_shows h s p (struct os) e =
      let w = fields_show h s zero p os (λ n. let z : (zero + n) ≡ n = omega arith in ap (λ m. field_origin m (follow p (origin_of_name s h))) z ∙ ap (field_origin n) e) in
      (w.0, ap struct w.1)

  fields_show : (h : Named Origin) (s k : ℕ) (p : Path) (os : Origins) → ((n : ℕ) → field_origin (k + n) (follow p (origin_of_name s h)) ≡ origin_at n os)
      → AllLead h (named_fields s k p os) × (all_resolve h (named_fields s k p os) ≡ os)
  fields_show h s k p no_origins f = (tt, refl)
  fields_show h s k p (more_origins o os) f =
      let z : k ≡ (k + zero) = omega arith in
      let w = below_shows h s (k ∷ p) o (ap (λ m. field_origin m (follow p (origin_of_name s h))) z ∙ f zero) in
      let ws = fields_show h s (suc k) p os (λ n. let y : (suc k + n) ≡ (k + suc n) = omega arith in ap (λ m. field_origin m (follow p (origin_of_name s h))) y ∙ f (suc n)) in
      ((w.0, ws.0), λ i. more_origins (w.1 i) (ws.1 i))

pub names_resolve : (h : Named Origin) → Resolves h (by_name h) h
names_resolve h = record {
  at = λ s.
      let w = below_shows h s [] (origin_of_name s h) refl in
      (subst (Leads h) (sym (name_below s h)) w.0, ap (resolve h) (name_below s h) ∙ w.1);
}

pub by_names : (e : ExprTree) (h : Named Origin) → resolve h (origin e (by_name h)) ≡ origin e h
by_names e h = (shows h (by_name h) h e (names_resolve h)).1

mutual
  below_twice : (s : ℕ) (p : Path) (o : Origin) → named_below s p (named_below s p o) ≡ named_below s p o
  below_twice s p value = refl
  below_twice s p made = refl
  below_twice s p (own q) = refl
  below_twice s p outer = refl
  below_twice s p (named t q) = refl
  below_twice s p (struct os) = ap struct (fields_twice s zero p os)

  fields_twice : (s n : ℕ) (p : Path) (os : Origins) → named_fields s n p (named_fields s n p os) ≡ named_fields s n p os
  fields_twice s n p no_origins = refl
  fields_twice s n p (more_origins o os) = λ i. more_origins (below_twice s (n ∷ p) o i) (fields_twice s (suc n) p os i)

names_twice : (g : Named Origin) → by_name (by_name g) ≡ by_name g
names_twice [] = refl
names_twice (e ∷ g) = λ i. (e.0, below_twice e.0 [] e.1 i) ∷ names_twice g i

-- ---- a `let`, by the names before it

builder_below : (s : ℕ) (p : Path) (o : Origin) → is_inner o ≡ true → named_below s p o ≡ named s p
builder_below s p value e = clash e refl
builder_below s p made e = refl
builder_below s p (own q) e = refl
builder_below s p outer e = clash e refl
builder_below s p (named t q) e = refl
builder_below s p (struct os) e = clash e refl

mutual
  below_resolved : (h : Named Origin) (s : ℕ) (p : Path) (o : Origin) → Leads h o → named_below s p (resolve h o) ≡ named_below s p o
  below_resolved h s p value k = refl
  below_resolved h s p made k = refl
  below_resolved h s p (own q) k = refl
  below_resolved h s p outer k = refl
  below_resolved h s p (named t q) k = builder_below s p (follow q (origin_of_name t h)) k
  below_resolved h s p (struct os) k = ap struct (fields_resolved h s zero p os k)

  fields_resolved : (h : Named Origin) (s n : ℕ) (p : Path) (os : Origins) → AllLead h os → named_fields s n p (all_resolve h os) ≡ named_fields s n p os
  fields_resolved h s n p no_origins k = refl
  fields_resolved h s n p (more_origins o os) k = λ i. more_origins (below_resolved h s (n ∷ p) o k.0 i) (fields_resolved h s (suc n) p os k.1 i)

-- the bound name read as what is bound to it
let_resolves : (b : ℕ) (e : ExprTree) (g : Named Origin)
    → Resolves ((b, origin e (by_name g)) ∷ by_name g) (by_name ((b, origin e g) ∷ g)) ((b, origin e (by_name g)) ∷ by_name g)
let_resolves b e g = record { at = λ s. by s (s == b) refl }
  where
    form : named_below b [] (origin e g) ≡ named_below b [] (origin e (by_name g))
    form =
        let w = shows g (by_name g) g e (names_resolve g) in
        ap (named_below b []) (sym w.1) ∙ below_resolved g b [] (origin e (by_name g)) w.0

    here : (s : ℕ) (c : Bool) → (s == b) ≡ c → origin_of_name s ((b, origin e (by_name g)) ∷ by_name g) ≡ (if c then origin e (by_name g) else origin_of_name s (by_name g))
    here s true p = rw p refl
    here s false p = rw p refl

    there : (s : ℕ) (c : Bool) → (s == b) ≡ c → origin_of_name s (by_name ((b, origin e g) ∷ g)) ≡ (if c then named_below b [] (origin e g) else origin_of_name s (by_name g))
    there s true p = rw p refl
    there s false p = rw p refl

    named_twice : (s : ℕ) → named_below s [] (origin_of_name s (by_name g)) ≡ origin_of_name s (by_name g)
    named_twice s = ap (named_below s []) (name_below s g) ∙ below_twice s [] (origin_of_name s g) ∙ sym (name_below s g)

    by : (s : ℕ) (c : Bool) → (s == b) ≡ c
        → Leads ((b, origin e (by_name g)) ∷ by_name g) (origin_of_name s (by_name ((b, origin e g) ∷ g)))
        × (resolve ((b, origin e (by_name g)) ∷ by_name g) (origin_of_name s (by_name ((b, origin e g) ∷ g))) ≡ origin_of_name s ((b, origin e (by_name g)) ∷ by_name g))
    by s true p =
        let w = below_shows ((b, origin e (by_name g)) ∷ by_name g) s [] (origin e (by_name g)) (here s true p) in
        let q : origin_of_name s (by_name ((b, origin e g) ∷ g)) ≡ named_below s [] (origin e (by_name g)) =
        there s true p ∙ form ∙ ap (λ t. named_below t [] (origin e (by_name g))) (sym (eqb-true s b p)) in
        (subst (Leads ((b, origin e (by_name g)) ∷ by_name g)) (sym q) w.0, ap (resolve ((b, origin e (by_name g)) ∷ by_name g)) q ∙ w.1 ∙ sym (here s true p))
    by s false p =
        let w = below_shows ((b, origin e (by_name g)) ∷ by_name g) s [] (origin_of_name s (by_name g)) (here s false p) in
        let q : origin_of_name s (by_name ((b, origin e g) ∷ g)) ≡ named_below s [] (origin_of_name s (by_name g)) = there s false p ∙ sym (named_twice s) in
        (subst (Leads ((b, origin e (by_name g)) ∷ by_name g)) (sym q) w.0, ap (resolve ((b, origin e (by_name g)) ∷ by_name g)) q ∙ w.1 ∙ sym (here s false p))

pub let_by_name : (b : ℕ) (e f : ExprTree) (g : Named Origin)
    → resolve ((b, origin e (by_name g)) ∷ by_name g) (origin f (by_name ((b, origin e g) ∷ g))) ≡ origin f ((b, origin e (by_name g)) ∷ by_name g)
let_by_name b e f g = (shows _ _ _ f (let_resolves b e g)).1

mutual
  below_not_made : (s : ℕ) (p : Path) (o : Origin) → IsNotMade (named_below s p o)
  below_not_made s p value = tt
  below_not_made s p made = tt
  below_not_made s p (own q) = tt
  below_not_made s p outer = tt
  below_not_made s p (named t q) = tt
  below_not_made s p (struct os) = fields_not_made s zero p os

  fields_not_made : (s n : ℕ) (p : Path) (os : Origins) → AreNotMade (named_fields s n p os)
  fields_not_made s n p no_origins = tt
  fields_not_made s n p (more_origins o os) = (below_not_made s (n ∷ p) o, fields_not_made s (suc n) p os)

not_made_at : (n : ℕ) (os : Origins) → AreNotMade os → IsNotMade (origin_at n os)
not_made_at n no_origins k = tt
not_made_at zero (more_origins o os) k = k.0
not_made_at (suc n) (more_origins o os) k = not_made_at n os k.1

not_made_field : (n : ℕ) (o : Origin) → IsNotMade o → IsNotMade (field_origin n o)
not_made_field n value k = tt
not_made_field n made k = k
not_made_field n (own p) k = tt
not_made_field n outer k = tt
not_made_field n (named s p) k = tt
not_made_field n (struct os) k = not_made_at n os k

not_made_follow : (p : Path) (o : Origin) → IsNotMade o → IsNotMade (follow p o)
not_made_follow [] o k = k
not_made_follow (n ∷ p) o k = not_made_field n (follow p o) (not_made_follow p o k)

mutual
  resolved_not_made : (h : Named Origin) (o : Origin) → ((s : ℕ) → IsNotMade (origin_of_name s h)) → IsNotMade o → IsNotMade (resolve h o)
  resolved_not_made h value l k = tt
  resolved_not_made h made l k = k
  resolved_not_made h (own p) l k = tt
  resolved_not_made h outer l k = tt
  resolved_not_made h (named s p) l k = not_made_follow p (origin_of_name s h) (l s)
  resolved_not_made h (struct os) l k = all_not_made h os l k

  all_not_made : (h : Named Origin) (os : Origins) → ((s : ℕ) → IsNotMade (origin_of_name s h)) → AreNotMade os → AreNotMade (all_resolve h os)
  all_not_made h no_origins l k = tt
  all_not_made h (more_origins o os) l k = (resolved_not_made h o l k.0, all_not_made h os l k.1)

-- ---- the rule on arms

shared : (e f : ExprTree) (g h : Named Origin) → ArmsAgree e f g → Labels g h → ArmsShare e f h
shared e f g h a l = record {
  same = sym (by_names e h) ∙ ap (resolve h) (ap (origin e) l.same_places ∙ a.same ∙ ap (origin f) (sym l.same_places)) ∙ by_names f h;
  not_made = subst IsNotMade (by_names e h) (resolved_not_made h (origin e (by_name h)) l.labelled (subst IsNotMade (ap (origin e) (sym l.same_places)) a.not_made));
}

agreed : (e f : ExprTree) (g : Named Origin) → ((h : Named Origin) → Labels g h → ArmsShare e f h) → ArmsAgree e f g
agreed e f g k =
    let labels : Labels g (by_name g) = record { same_places = names_twice g; labelled = λ s. subst IsNotMade (sym (name_below s g)) (below_not_made s [] (origin_of_name s g)) } in
    let share : ArmsShare e f (by_name g) = k (by_name g) labels in
    record { same = share.same; not_made = share.not_made }

pub arms_by_labels : (e f : ExprTree) (g : Named Origin) → ArmsAgree e f g ↔ ((h : Named Origin) → Labels g h → ArmsShare e f h)
arms_by_labels e f g = (λ a h l. shared e f g h a l, agreed e f g)
