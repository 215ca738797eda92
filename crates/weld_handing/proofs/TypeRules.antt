-- What the rules say of a node's type by those of its parts they say with another builder in the place of the list's.
use Rattle.std.proofs.Common.{◌≡◌, ℕ, zero, suc, Bool, true, false, ◌&&◌, if◌then◌else◌, refl, ap, sym, subst, ◌∙◌, inl, inr, ◌⊎◌}
use Rattle.weld_tree.specs.TypeTree.{TypeTree, BuildTree, TypeTrees, vec, struct as tuple, dict, build, list, total, keyed, cells, groups, no_types, more_types}
use Rattle.weld_tree.specs.Types.{IsBuilderFree, AreBuilderFree, IsBuilder, AreBuilders, IsWellFormed, IsWellFormedBuild, AreWellFormed}
use Rattle.weld_tree.specs.ExprTree.{ExprTree, One, neg, not, cast, len, field, finish, started, Two, binary, and, or, look_up, key_exists, merge, Three, if_else, select, slice, Many, make_vec, make_struct}
use Rattle.weld_meaning.specs.Environment.{Named}
use Rattle.weld_meaning.specs.Typing.{IsField, AreAll, StartHas, OneHas, TwoHas, ThreeHas, ManyHas}
use Rattle.weld_meaning.specs.Origin.{Origin, value, made, own, outer, named, struct, Origins, no_origins, more_origins, origin_at, field_origin, are_values, struct_origin, one_origin, two_origin, three_origin, many_origin, origin}
use Rattle.weld_meaning.specs.Linear.{IsNotOwn, OneKeeps, ThreeKeeps}
use Rattle.weld_meaning.specs.Forms.{HasForm, HaveForms}
use Rattle.weld_meaning.proofs.WellFormed.{key_free, integer_free, merger_free, takes_free}
use Rattle.weld_vertical.specs.Sinking.{is_merge}
use Rattle.weld_handing.specs.Handing.{is_held, handed_type, handed_types}
use Rattle.weld_meaning.proofs.Tracing.{same_origins}
use Rattle.weld_handing.proofs.Held.{values_hold, unheld_types, free_kept, frees_kept, other_kept, handed_builders, handed_some}

-- ---- nodes of one part

-- the field of that number has what becomes of its type
field_at : (t : TypeTree) (m : ℕ) (os : Origins) (us : TypeTrees) (v : TypeTree) → IsField m us v → HaveForms os us → IsField m (handed_types t os us) (handed_type t (origin_at m os) v)
field_at t zero os no_types v f h = absurd f
field_at t (suc m) os no_types v f h = absurd f
field_at t zero no_origins (more_types u us) v f h = absurd h
field_at t (suc m) no_origins (more_types u us) v f h = absurd h
field_at t zero (more_origins o os) (more_types u us) v f h = ap (handed_type t o) f
field_at t (suc m) (more_origins o os) (more_types u us) v f h = field_at t m os us v f h.1

-- the struct is one of fields that are as they become
field_handed : (t : TypeTree) (m : ℕ) (o : Origin) (us : TypeTrees) (v : TypeTree) → IsField m us v → HasForm o (tuple us) → (vs : TypeTrees) × (handed_type t o (tuple us) ≡ tuple vs) × IsField m vs (handed_type t (field_origin m o) v)
field_handed t m value us v f h = (us, refl, f)
field_handed t m made us v f h = absurd h
field_handed t m (own p) us v f h = absurd h
field_handed t m outer us v f h = absurd h
field_handed t m (named s p) us v f h = absurd h
field_handed t m (struct os) us v f h = (handed_types t os us, refl, field_at t m os us v f h.1)

-- a builder starts with a value
start_free : (b : BuildTree) (u : TypeTree) → IsWellFormedBuild b → StartHas b u → IsBuilderFree u
start_free (list t) u w h = absurd h
start_free (total t op) u w h = subst IsBuilderFree (sym h) (merger_free t w)
start_free (keyed k v op) u w h = absurd h
start_free (cells t op) u w h = subst IsBuilderFree (sym h) (integer_free t w)
start_free (groups k v) u w h = absurd h

-- what isn't a lambda's own builder isn't the list's
not_own : (o : Origin) → IsNotOwn o → is_held o ≡ false
not_own value h = refl
not_own made h = refl
not_own (own p) h = absurd h
not_own outer h = refl
not_own (named s p) h = refl
not_own (struct os) h = refl

-- a node of one part
pub one_handed : (t : TypeTree) (k : One) (o : Origin) (u v : TypeTree) → OneHas k u v → IsWellFormed u → HasForm o u → OneKeeps k o → OneHas k (handed_type t o u) (handed_type t (one_origin k o) v)
one_handed t neg o u v h w f k = (h.0, h.1, free_kept t o u w (subst IsBuilderFree (sym h.2) tt) f ∙ h.2, h.3)
one_handed t not o u v h w f k = (free_kept t o u w (subst IsBuilderFree (sym h.0) tt) f ∙ h.0, h.1)
one_handed t (cast m) o u v h w f k = (h.0, h.1, free_kept t o u w (subst IsBuilderFree (sym h.2) tt) f ∙ h.2, h.3)
one_handed t len o u v h w f k =
    let p : IsWellFormed (vec h.0) = subst IsWellFormed h.1 w in
    (h.0, free_kept t o u w (subst IsBuilderFree (sym h.1) p.1) f ∙ h.1, h.2)
one_handed t (field m) o u v h w f k =
    let r = field_handed t m o h.0 v h.2 (subst (HasForm o) h.1 f) in (r.0, ap (handed_type t o) h.1 ∙ r.1, r.2)
one_handed t finish o u v h w f k = (h.0, ap (handed_type t o) h.1 ∙ other_kept t o h.0 (not_own o k), h.2)
one_handed t (started b) o u v h w f k =
    (h.0, subst (StartHas b) (sym (free_kept t o u w (start_free b u h.0 h.1) f)) h.1, h.2)

-- ---- of two, but for the merge into the list

-- a node of two parts that isn't the merge into the list
pub two_handed : (t : TypeTree) (k : Two) (p r : Origin) (u v w : TypeTree) → TwoHas k u v w → IsWellFormed u → IsWellFormed v → HasForm p u → HasForm r v → (is_merge k && is_held p) ≡ false → TwoHas k (handed_type t p u) (handed_type t r v) (handed_type t (two_origin k p) w)
two_handed t (binary op) p r u v w h a b f g e = (
  h.0,
  h.1,
  free_kept t p u a (subst IsBuilderFree (sym h.2) tt) f ∙ h.2,
  free_kept t r v b (subst IsBuilderFree (sym h.3) tt) g ∙ h.3,
  h.4,
)
two_handed t and p r u v w h a b f g e =
    (free_kept t p u a (subst IsBuilderFree (sym h.0) tt) f ∙ h.0, free_kept t r v b (subst IsBuilderFree (sym h.1) tt) g ∙ h.1, h.2)
two_handed t or p r u v w h a b f g e =
    (free_kept t p u a (subst IsBuilderFree (sym h.0) tt) f ∙ h.0, free_kept t r v b (subst IsBuilderFree (sym h.1) tt) g ∙ h.1, h.2)
two_handed t look_up p r u v w (inl h) a b f g e =
    let q : IsWellFormed (vec w) = subst IsWellFormed h.0 a in
    inl (free_kept t p u a (subst IsBuilderFree (sym h.0) q.1) f ∙ h.0, free_kept t r v b (subst IsBuilderFree (sym h.1) tt) g ∙ h.1)
two_handed t look_up p r u v w (inr h) a b f g e =
    let q : IsWellFormed (dict v w) = subst IsWellFormed h a in
    let free : IsBuilderFree (dict v w) = (key_free v q.0, q.2) in
    inr (free_kept t p u a (subst IsBuilderFree (sym h) free) f ∙ h ∙ ap (λ y. dict y w) (sym (free_kept t r v b (key_free v q.0) g)))
two_handed t key_exists p r u v w h a b f g e =
    let q : IsWellFormed (dict v h.0) = subst IsWellFormed h.1 a in
    let free : IsBuilderFree (dict v h.0) = (key_free v q.0, q.2) in
    (h.0, free_kept t p u a (subst IsBuilderFree (sym h.1) free) f ∙ h.1 ∙ ap (λ y. dict y h.0) (sym (free_kept t r v b (key_free v q.0) g)), h.2)
two_handed t merge p r u v w h a b f g e =
    let q : IsWellFormed (build h.0) = subst IsWellFormed h.1 a in (
      h.0,
      ap (handed_type t p) h.1 ∙ other_kept t p h.0 e,
      free_kept t r v b (subst IsBuilderFree (sym h.2) (takes_free h.0 q)) g ∙ h.2,
      ap (handed_type t p) h.3,
    )

-- ---- of three

-- the arms of an `if` have one origin
abbrev pub SameArms : Three → Origin → Origin → Type 0
SameArms if_else p q = p ≡ q
SameArms select p q = Unit {0}
SameArms slice p q = Unit {0}

-- where the arms of an `if` agree they are of one origin
pub same_arms : (k : Three) (e g : ExprTree) (q : Named Origin) → ThreeKeeps k e g q → SameArms k (origin e q) (origin g q)
same_arms if_else e g q h = same_origins e g q h.same
same_arms select e g q h = tt
same_arms slice e g q h = tt

-- a node of three parts
pub three_handed : (t : TypeTree) (k : Three) (p q r : Origin) (u v w s : TypeTree) → ThreeHas k u v w s → IsWellFormed u → IsWellFormed v → IsWellFormed w → HasForm p u → HasForm q v → HasForm r w → SameArms k q r → ThreeHas k (handed_type t p u) (handed_type t q v) (handed_type t r w) (handed_type t (three_origin k q) s)
three_handed t if_else p q r u v w s h a b c f g j e = (
  free_kept t p u a (subst IsBuilderFree (sym h.0) tt) f ∙ h.0,
  ap (handed_type t q) h.1,
  ap (λ o. handed_type t o w) (sym e) ∙ ap (handed_type t q) h.2,
)
three_handed t select p q r u v w s h a b c f g j e = (
  free_kept t p u a (subst IsBuilderFree (sym h.0) tt) f ∙ h.0,
  free_kept t q v b (subst IsBuilderFree (sym h.1) h.3) g ∙ h.1,
  free_kept t r w c (subst IsBuilderFree (sym h.2) h.3) j ∙ h.2,
  h.3,
)
three_handed t slice p q r u v w s h a b c f g j e =
    let x : IsWellFormed (vec h.0) = subst IsWellFormed h.1 a in
    let same = free_kept t p u a (subst IsBuilderFree (sym h.1) x.1) f in (
      h.0,
      same ∙ h.1,
      free_kept t q v b (subst IsBuilderFree (sym h.2) tt) g ∙ h.2,
      free_kept t r w c (subst IsBuilderFree (sym h.3) tt) j ∙ h.3,
      h.4 ∙ sym same,
    )

-- ---- of many

-- where one of them is builder-free all are
all_free : (us : TypeTrees) (u : TypeTree) → AreAll us u → IsBuilderFree u → AreBuilderFree us
all_free no_types u h f = tt
all_free (more_types v us) u h f = (subst IsBuilderFree (sym h.0) f, all_free us u h.1 f)

-- the fields of a struct are all builders or none is
fields_handed : (t : TypeTree) (os : Origins) (us : TypeTrees) → IsBuilder t → AreWellFormed us → HaveForms os us → AreBuilderFree us ⊎ AreBuilders us → AreBuilderFree (handed_types t os us) ⊎ AreBuilders (handed_types t os us)
fields_handed t os us b w f (inl h) = inl (subst AreBuilderFree (sym (frees_kept t os us w h f)) h)
fields_handed t os us b w f (inr h) = inr (handed_builders t os us b h)

-- a node of any number of parts
pub many_handed : (t : TypeTree) (k : Many) (os : Origins) (us : TypeTrees) (s : TypeTree) → ManyHas k us s → AreWellFormed us → HaveForms os us → IsBuilder t → ManyHas k (handed_types t os us) (handed_type t (many_origin k os) s)
many_handed t make_vec os us s h w f b =
    subst (λ vs. ManyHas make_vec vs s) (sym (frees_kept t os us w (all_free us h.0 h.2 h.3) f)) h
many_handed t make_struct os us s h w f b =
    (handed_some t os us h.0, fields_handed t os us b w f h.1, ap (handed_type t (struct_origin os)) h.2 ∙ by (are_values os) refl)
  where
    by : (c : Bool) → are_values os ≡ c → handed_type t (if c then value else struct os) (tuple us) ≡ tuple (handed_types t os us)
    by true e = ap tuple (sym (unheld_types t os us (values_hold os e)))
    by false e = refl
