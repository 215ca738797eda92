-- A lowered program's lets keep the rules: they have their type, the walk over builders refuses nowhere, each name is in scope, and
-- each node is one that a text can spell.
use Rattle.std.proofs.Common.{◌≡◌, ℕ, suc, ◌+◌, ◌<◌, ◌==◌, Bool, true, false, if◌then◌else◌, not, List, [], ◌∷◌, ◌++◌, map, length, Option, Some, None, refl, ap, sym, subst, ◌∙◌, inl, inr, ◌⊎◌, arith, eqb-true, eq-eqb}
use Rattle.weld_data.specs.Value.{Value}
use Rattle.weld_tree.specs.declared.binder.Binder.{Binder}
use Rattle.weld_tree.specs.declared.code.Code.TheVariants.{L1, L3}
use Rattle.weld_tree.specs.TypeTree.{TypeTree, TypeTrees, scalar, vec, struct as tuple, dict, build, pack}
use Rattle.weld_tree.specs.Types.{IsWellFormed, IsBuilderFree, AreBuilderFree}
use Rattle.weld_tree.specs.ExprTree.{ExprTree, leaf, let_in, name, ExprTrees, pack_exprs}
use Rattle.weld_tree.specs.Program.{ProgramTree, bound, IsProgram, IsOneOf, IsScoped, AreScoped, IsWellMade, AreWellMade, syms_of}
use Rattle.weld_tree.specs.Blank.{blank_at, blank_place}
use Rattle.weld_meaning.specs.Environment.{Named, look_for}
use Rattle.weld_meaning.specs.Typing.{Types, AreFormed, ParamFits, ParamsFit, noted_type, param_types, ProgramHas, HasType, HaveTypes}
use Rattle.weld_meaning.specs.Origin.{Origin, value, made, own, outer, named, struct, known_origin, origin_of_name, origin}
use Rattle.weld_meaning.specs.LinearWalk.{some_of, is_seen, has, paths_below, before, where_so, left_over, builders_of, refusal, some_refusal}
use Rattle.weld_meaning.specs.Available.{takes}
use Rattle.weld_meaning.specs.Accepted.{IsAccepted}
use Rattle.weld_meaning.proofs.WellFormed.{formed_bind, type_formed}
use Rattle.weld_meaning.specs.Forms.{HasForm}
use Rattle.weld_meaning.proofs.OriginTypes.{not_both, origin_forms}
use Rattle.weld_meaning.proofs.Walk.{walk_of_linear}
use Rattle.weld_objects.specs.Renamed.{ScopeMoves}
use Rattle.weld_objects.specs.RenamedOrigins.{OriginsHaveMoved, renamed_origin}
use Rattle.weld_objects.proofs.Types.{types_after}
use Rattle.weld_objects.proofs.Origins.{origin_moves}
use Rattle.weld_objects.proofs.Refusals.{refused_alike}
use Rattle.weld_objects.proofs.Trees.{scoped_after, made_after}
use Rattle.weld_objects.specs.Objects.{Object, given, call, type_of, with_one, DepsFit, AreObjectsFrom, AreBefore}
use Rattle.weld_objects.specs.Lowered.{new_binder, placed, placed_body, shown_struct, lets}
use Rattle.weld_objects.proofs.Placing.{paired, Stand, Below, under_of, placed_moves, body_alone}
use Rattle.weld_objects.proofs.State.{one_here, one_else, below_is_else, Early, early_next, AllKept, IsClosedFrom, Standing, Ahead, Carries, standing_given, standing_skip, standing_call, ahead_call, below_call}
use Rattle.weld_objects.proofs.Means.{before_suc, at_end}

-- ---- accepted programs answer values

pub formed_params : (bs : List Binder) → ParamsFit bs → AreFormed (param_types bs)
formed_params [] h = record { formed = λ s t e. let no : ⊥ = cc in absurd no }
formed_params (b ∷ bs) h = formed_bind (param_types bs) b.sym.0 (noted_type b.note) (param_formed b.note h.0) (formed_params bs h.1)
  where
    param_formed : (m : Option TypeTree) → ParamFits m → IsWellFormed (noted_type m)
    param_formed None h = absurd h
    param_formed (Some t) h = h.0

free_params : (bs : List Binder) → ParamsFit bs → (s : ℕ) (t : TypeTree) → look_for s (param_types bs) ≡ Some t → IsBuilderFree t
free_params [] h s t e = let no : ⊥ = cc in absurd no
free_params (b ∷ bs) h s t e = by (s == b.sym.0) (free_params bs h.1 s t) e
  where
    param_free : (m : Option TypeTree) → ParamFits m → IsBuilderFree (noted_type m)
    param_free None h = absurd h
    param_free (Some t) h = h.1

    by : (c : Bool) → (look_for s (param_types bs) ≡ Some t → IsBuilderFree t) → (if c then Some (noted_type b.note) else look_for s (param_types bs)) ≡ Some t → IsBuilderFree t
    by true k e = let same : noted_type b.note ≡ t = cc in subst IsBuilderFree same (param_free b.note h.0)
    by false k e = k e

value_form : (o : Origin) (t : TypeTree) → IsWellFormed t → IsBuilderFree t → HasForm o t → o ≡ value
value_form value t w f h = refl
value_form made (scalar k) w f h = absurd h
value_form made (vec t) w f h = absurd h
value_form made (tuple us) w f h = absurd h
value_form made (dict k v) w f h = absurd h
value_form made (build b) w f h = absurd f
value_form (own p) (scalar k) w f h = absurd h
value_form (own p) (vec t) w f h = absurd h
value_form (own p) (tuple us) w f h = absurd h
value_form (own p) (dict k v) w f h = absurd h
value_form (own p) (build b) w f h = absurd f
value_form outer (scalar k) w f h = absurd h
value_form outer (vec t) w f h = absurd h
value_form outer (tuple us) w f h = absurd h
value_form outer (dict k v) w f h = absurd h
value_form outer (build b) w f h = absurd f
value_form (named s p) (scalar k) w f h = absurd h
value_form (named s p) (vec t) w f h = absurd h
value_form (named s p) (tuple us) w f h = absurd h
value_form (named s p) (dict k v) w f h = absurd h
value_form (named s p) (build b) w f h = absurd f
value_form (struct os) (scalar k) w f h = absurd h
value_form (struct os) (vec t) w f h = absurd h
value_form (struct os) (tuple us) w f h = absurd (not_both (tuple us) w h.0 f)
value_form (struct os) (dict k v) w f h = absurd h
value_form (struct os) (build b) w f h = absurd h

pub answers_value : (p : ProgramTree) (t : TypeTree) → ProgramHas p t → origin p.body [] ≡ value
answers_value p t h =
    let formed = formed_params p.params h.params in
    value_form (origin p.body []) t (type_formed p.body (param_types p.params) t h.body formed) h.builder_free
    (origin_forms p.body [] (param_types p.params) t h.body formed (record { forms = λ s u e. free_params p.params h.params s u e }))

-- ---- what a call is made on

-- what stands for an object has the object's type, which is builder-free
pub record Typed (types : ℕ → Option TypeTree) (k : ℕ) (t : TypeTree) : Type 0 where
  pub typed : types k ≡ Some t
  pub free : IsBuilderFree t

typed_carries : (id : ℕ) (t : TypeTree) (types : ℕ → Option TypeTree) → Carries id (Typed types) (Typed (with_one id (Some t) types))
typed_carries id t types = record { carries = λ k x h m. record { typed = one_else id (Some t) types k (below_is_else k id h) ∙ m.typed; free = m.free } }

typed_new : (id : ℕ) (t : TypeTree) (types : ℕ → Option TypeTree) → IsBuilderFree t → Typed (with_one id (Some t) types) id t
typed_new id t types f = record { typed = one_here id (Some t) types; free = f }

note_is : (m : Option TypeTree) → ParamFits m → (t : TypeTree) × (m ≡ Some t)
note_is (Some t) h = (t, refl)
note_is None h = absurd h

params_stand : (keep : ℕ → Bool) (id : ℕ) (numbers : ℕ → ℕ) (types : ℕ → Option TypeTree) (g : Types) (ids : List ℕ) (bs : List Binder) → DepsFit types ids bs → ParamsFit bs → AllKept keep ids → Early id types → Standing (Typed types) keep id numbers g → Stand (map numbers ids) (map (λ b. noted_type b.note) bs) g
params_stand keep id numbers types g [] [] h fit on early s = tt
params_stand keep id numbers types g [] (b ∷ bs) h fit on early s = absurd h
params_stand keep id numbers types g (k ∷ ids) [] h fit on early s = absurd h
params_stand keep id numbers types g (k ∷ ids) (b ∷ bs) h fit on early s =
    let note = note_is b.note fit.0 in
    let old = s.stands k (early.early k note.0 (h.0 ∙ note.1)) on.0 in
    let same : old.0 ≡ noted_type b.note = ap noted_type (sym old.1.typed ∙ h.0) in
    (old.2 ∙ ap Some same, params_stand keep id numbers types g ids bs h.1 fit.1 on.1 early s)

params_paired : (bs : List Binder) → param_types bs ≡ paired bs (map (λ b. noted_type b.note) bs)
params_paired [] = refl
params_paired (b ∷ bs) = ap (λ g. (b.sym.0, noted_type b.note) ∷ g) (params_paired bs)

-- ---- names

-- each name is a value, and what has a type is in scope
pub record Names (g : Types) (h : Named Origin) (scope : List ℕ) : Type 0 where
  pub values : (s : ℕ) → origin_of_name s h ≡ value
  pub scoped : (s : ℕ) (t : TypeTree) → look_for s g ≡ Some t → IsOneOf scope s

names_bind : (g : Types) (h : Named Origin) (scope : List ℕ) (n : ℕ) (t : TypeTree) (o : Origin) → o ≡ value → Names g h scope → Names ((n, t) ∷ g) ((n, o) ∷ h) (n ∷ scope)
names_bind g h scope n t o e names = record { values = λ s. value_by s (s == n) (names.values s); scoped = λ s u p. scoped_by s u (s == n) refl (names.scoped s u) p }
  where
    value_by : (s : ℕ) (c : Bool) → known_origin (look_for s h) ≡ value → known_origin (if c then Some o else look_for s h) ≡ value
    value_by s true k = e
    value_by s false k = k

    scoped_by : (s : ℕ) (u : TypeTree) (c : Bool) → (s == n) ≡ c → (look_for s g ≡ Some u → IsOneOf scope s) → (if c then Some t else look_for s g) ≡ Some u → (s ≡ n) ⊎ IsOneOf scope s
    scoped_by s u true q k p = inl (eqb-true s n q)
    scoped_by s u false q k p = inr (k p)

placed_found : (base : ℕ) (bs : List Binder) (ns : List ℕ) (binders : List ℕ) (g : Types) (s : ℕ) → Stand ns (map (λ (b : Binder). noted_type b.note) bs) g → IsOneOf (syms_of bs) s → (t : TypeTree) × (look_for (placed base bs ns binders s) g ≡ Some t)
placed_found base [] ns binders g s h k = absurd k
placed_found base (b ∷ bs) [] binders g s h k = absurd h
placed_found base (b ∷ bs) (n ∷ ns) binders g s h (inl e) = (noted_type b.note, rw (eq-eqb s b.sym.0 e) h.0)
placed_found base (b ∷ bs) (n ∷ ns) binders g s h (inr k) = by (s == b.sym.0) (placed_found base bs ns binders g s h.1 k)
  where
    by : (c : Bool) → (t : TypeTree) × (look_for (placed base bs ns binders s) g ≡ Some t) → (t : TypeTree) × (look_for (if c then n else placed base bs ns binders s) g ≡ Some t)
    by true k = (noted_type b.note, h.0)
    by false k = k

-- ---- an expression that keeps the rules

pub record KeepsRules (e : ExprTree) (g : Types) (h : Named Origin) (scope : List ℕ) (t : TypeTree) : Type 0 where
  pub typed : HasType e g t
  pub unrefused : refusal e h [] ≡ None
  pub scoped : IsScoped e scope
  pub well_made : IsWellMade e

-- a call's body where it stands, which comes from no builder
record BodyKeeps (e : ExprTree) (g : Types) (h : Named Origin) (scope : List ℕ) (t : TypeTree) : Type 0 where
  rules : KeepsRules e g h scope t
  is_value : origin e h ≡ value

no_origins : (r : ℕ → ℕ) (h : Named Origin) → ((s : ℕ) → origin_of_name s h ≡ value) → OriginsHaveMoved r [] h
no_origins r h k = record { same = λ s. k (r s); alone = λ s. inl refl; holds = λ s. tt }

body_keeps : (keep : ℕ → Bool) (id next : ℕ) (numbers : ℕ → ℕ) (types : ℕ → Option TypeTree) (g : Types) (h : Named Origin) (scope : List ℕ) (t : TypeTree) (ids : List ℕ) (p : ProgramTree)
    → IsProgram p.params p.body → IsAccepted p → ProgramHas p t → Stand (map numbers ids) (map (λ b. noted_type b.note) p.params) g → Below next g → Names g h scope → BodyKeeps (placed_body (suc next) (map numbers ids) p) g h scope t
body_keeps keep id next numbers types g h scope t ids p program accepted typed stand below names =
    let ns = map numbers ids in
    let r = placed (suc next) p.params ns (bound p.body) in
    let above : Below (suc next) g = record { none = λ k b. below.none k (omega (arith, b)) } in
    let alone = body_alone (suc next) ns p program (under_of (suc next) ns (map (λ b. noted_type b.note) p.params) g above stand) in
    let moved = placed_moves (suc next) p.params ns (map (λ b. noted_type b.note) p.params) (bound p.body) g stand above in
    let origins = no_origins r h names.values in
    let scope_moves : ScopeMoves r (syms_of p.params) scope = record {
      there = λ s k. let at = placed_found (suc next) p.params ns (bound p.body) g s stand k in names.scoped (r s) at.0 at.1;
    } in
    record {
      rules = record {
        typed = types_after r p.body (paired p.params (map (λ b. noted_type b.note) p.params)) g t alone moved (subst (λ k. HasType p.body k t) (params_paired p.params) typed.body);
        unrefused = refused_alike r p.body [] h [] alone origins tt ∙ walk_of_linear p accepted.keeps accepted.splits;
        scoped = scoped_after r p.body (syms_of p.params) scope scope_moves program.scoped;
        well_made = made_after r p.body program.well_made;
      };
      is_value = origin_moves r p.body [] h alone origins ∙ ap (renamed_origin r) (answers_value p t typed);
    }

let_keeps : (n : ℕ) (e f : ExprTree) (g : Types) (h : Named Origin) (scope : List ℕ) (u t : TypeTree) → BodyKeeps e g h scope u → KeepsRules f ((n, u) ∷ g) ((n, origin e h) ∷ h) (n ∷ scope) t → KeepsRules (let_in blank_at (new_binder n None) e f) g h scope t
let_keeps n e f g h scope u t first rest = record {
  typed = (u, first.rules.typed, tt, rest.typed);
  unrefused = (λ i. before (first.rules.unrefused i) (before (refusal f ((n, origin e h) ∷ h) (builders_of n (first.is_value i) ++ [])) (left_over n (first.is_value i) (new_binder n None).place (takes f ((n, origin e h) ∷ h)))))
      ∙ (λ i. before (rest.unrefused i) None);
  scoped = (first.rules.scoped, rest.scoped);
  well_made = (first.rules.well_made, rest.well_made);
}

-- ---- the struct of what is shown

abbrev types_shown : (ℕ → Option TypeTree) → List ℕ → List TypeTree
types_shown types shown = map (λ k. noted_type (types k)) shown

record FieldsKeep (es : ExprTrees) (g : Types) (h : Named Origin) (scope : List ℕ) (ts : TypeTrees) : Type 0 where
  typed : HaveTypes es g ts
  free : AreBuilderFree ts
  unrefused : some_refusal es h [] ≡ None
  scoped : AreScoped es scope
  well_made : AreWellMade es

fields_keep : (keep : ℕ → Bool) (id : ℕ) (numbers : ℕ → ℕ) (types : ℕ → Option TypeTree) (g : Types) (h : Named Origin) (scope : List ℕ) (shown : List ℕ) → AllKept keep shown → AreBefore id shown → Standing (Typed types) keep id numbers g → Names g h scope
    → FieldsKeep (pack_exprs (map (λ k. leaf blank_at (name (numbers k))) shown)) g h scope (pack (types_shown types shown))
fields_keep keep id numbers types g h scope [] on before_id s names = record { typed = tt; free = tt; unrefused = refl; scoped = tt; well_made = tt }
fields_keep keep id numbers types g h scope (k ∷ ks) on before_id s names =
    let rest = fields_keep keep id numbers types g h scope ks on.1 before_id.1 s names in
    let old = s.stands k before_id.0 on.0 in
    let same : old.0 ≡ noted_type (types k) = ap noted_type (sym old.1.typed) in
    record {
      typed = (old.2 ∙ ap Some same, rest.typed);
      free = (subst IsBuilderFree same old.1.free, rest.free);
      unrefused = (λ i. before (refused_name (names.values (numbers k)) i) (some_refusal (pack_exprs (map (λ j. leaf blank_at (name (numbers j))) ks)) h [])) ∙ rest.unrefused;
      scoped = (names.scoped (numbers k) old.0 old.2, rest.scoped);
      well_made = (tt, rest.well_made);
    }
  where
    refused_name : origin_of_name (numbers k) h ≡ value → refusal (leaf blank_at (name (numbers k))) h [] ≡ None
    refused_name e = λ i. before (where_so (not (is_seen (e i))) L3 blank_place) (where_so (some_of (λ q. not (has [] (numbers k) q)) (paths_below [] (e i))) L1 blank_place)

struct_keeps : (numbers : ℕ → ℕ) (types : ℕ → Option TypeTree) (g : Types) (h : Named Origin) (scope shown : List ℕ) → 0 < length shown
    → FieldsKeep (pack_exprs (map (λ k. leaf blank_at (name (numbers k))) shown)) g h scope (pack (types_shown types shown))
    → KeepsRules (shown_struct numbers shown) g h scope (tuple (pack (types_shown types shown)))
struct_keeps numbers types g h scope [] some f = absurd (omega (arith, some))
struct_keeps numbers types g h scope (k ∷ ks) some f = record {
  typed = (pack (types_shown types (k ∷ ks)), f.typed, (tt, inl f.free, refl));
  unrefused = f.unrefused;
  scoped = f.scoped;
  well_made = (tt, f.well_made);
}

-- ---- the lets

-- the types of objects, from that id on
abbrev pub types_from : ℕ → List Object → (ℕ → Option TypeTree) → ℕ → Option TypeTree
types_from id [] types = types
types_from id (o ∷ os) types = types_from (suc id) os (with_one id (Some (type_of o)) types)

abbrev LetsKeep : (ℕ → Bool) → List ℕ → List Object → Type 0
LetsKeep keep shown os =
    (id next : ℕ) (numbers : ℕ → ℕ) (types : ℕ → Option TypeTree) (g : Types) (h : Named Origin) (scope : List ℕ)
    → AreObjectsFrom id types os → Early id types → IsClosedFrom keep id os → AreBefore (id + length os) shown
    → Standing (Typed types) keep id numbers g → Ahead (λ t v. t) keep id numbers g os → Below next g → Names g h scope
    → KeepsRules (lets keep id next numbers shown os) g h scope (tuple (pack (types_shown (types_from id os types) shown)))

end_keeps : (keep : ℕ → Bool) (shown : List ℕ) → 0 < length shown → AllKept keep shown → LetsKeep keep shown []
end_keeps keep shown some on id next numbers types g h scope are early closed before_id s ahead below names =
    struct_keeps numbers types g h scope shown some (fields_keep keep id numbers types g h scope shown on (at_end id shown before_id) s names)

given_keeps : (keep : ℕ → Bool) (shown : List ℕ) (t : TypeTree) (v : Value) (os : List Object) → LetsKeep keep shown os → LetsKeep keep shown (given t v ∷ os)
given_keeps keep shown t v os go id next numbers types g h scope are early closed before_id s ahead below names =
    go (suc id) next numbers (with_one id (Some t) types) g h scope are.1 (early_next id t types early) closed (before_suc id (length os) shown before_id)
    (standing_given (Typed types) (Typed (with_one id (Some t) types)) keep id numbers g t (typed_carries id t types) (typed_new id t types are.0.free) ahead.0 s) ahead.1 below names

call_keeps : (keep : ℕ → Bool) (shown : List ℕ) (t : TypeTree) (ids : List ℕ) (p : ProgramTree) (os : List Object) → LetsKeep keep shown os → LetsKeep keep shown (call t ids p ∷ os)
call_keeps keep shown t ids p os go id next numbers types g h scope are early closed before_id s ahead below names = by (keep id) refl
  where
    more : ℕ → Option TypeTree
    more = with_one id (Some t) types

    stand : keep id ≡ true → Stand (map numbers ids) (map (λ b. noted_type b.note) p.params) g
    stand on = params_stand keep id numbers types g ids p.params are.0.fits are.0.typed.params (closed.0 on) early s

    first : keep id ≡ true → BodyKeeps (placed_body (suc next) (map numbers ids) p) g h scope t
    first on = body_keeps keep id next numbers types g h scope t ids p are.0.program are.0.accepted are.0.typed (stand on) below names

    by : (c : Bool) → keep id ≡ c → KeepsRules (if c then let_in blank_at (new_binder next None) (placed_body (suc next) (map numbers ids) p) (lets keep (suc id) (suc next + length (bound p.body)) (with_one id next numbers) shown os) else lets keep (suc id) next numbers shown os) g h scope (tuple (pack (types_shown (types_from (suc id) os (with_one id (Some t) types)) shown)))
    by true on =
        let_keeps next (placed_body (suc next) (map numbers ids) p) (lets keep (suc id) (suc next + length (bound p.body)) (with_one id next numbers) shown os) g h scope t _ (first on)
        (go (suc id) (suc next + length (bound p.body)) (with_one id next numbers) more ((next, t) ∷ g) ((next, origin (placed_body (suc next) (map numbers ids) p) h) ∷ h) (next ∷ scope)
        are.1 (early_next id t types early) closed.1 (before_suc id (length os) shown before_id)
        (standing_call (Typed types) (Typed more) keep id next numbers g t (typed_carries id t types) (typed_new id t types are.0.typed.builder_free) below s)
        (ahead_call (λ t v. t) keep id next (suc id) numbers g t os (omega arith) below ahead) (below_call next (length (bound p.body)) g t below)
        (names_bind g h scope next t (origin (placed_body (suc next) (map numbers ids) p) h) (first on).is_value names))
    by false off =
        go (suc id) next numbers more g h scope are.1 (early_next id t types early) closed.1 (before_suc id (length os) shown before_id)
        (standing_skip (Typed types) (Typed more) keep id numbers g (typed_carries id t types) off s) ahead below names

pub lets_keep : (keep : ℕ → Bool) (shown : List ℕ) → 0 < length shown → AllKept keep shown → (os : List Object) → LetsKeep keep shown os
lets_keep keep shown some on [] = end_keeps keep shown some on
lets_keep keep shown some on (given t v ∷ os) = given_keeps keep shown t v os (lets_keep keep shown some on os)
lets_keep keep shown some on (call t ids p ∷ os) = call_keeps keep shown t ids p os (lets_keep keep shown some on os)
