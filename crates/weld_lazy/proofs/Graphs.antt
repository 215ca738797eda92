-- Graphs that one object is added to.
use Rattle.std.proofs.Common.{◌≡◌, ℕ, zero, suc, ◌+◌, ◌*◌, ◌^◌, ◌<◌, ◌≤◌, List, [], ◌∷◌, ◌++◌, length, map, Option, Some, None, refl, ap, sym, subst, ◌∙◌, arith, length-append}
use Rattle.std.proofs.lemmas.List.{length-map}
use Rattle.weld_tree.specs.TypeTree.{TypeTree}
use Rattle.weld_tree.specs.Program.{ProgramTree, bound, syms_of, IsProgram}
use Rattle.weld_tree.specs.declared.binder.Binder.{Binder}
use Rattle.weld_meaning.specs.Typing.{ProgramHas}
use Rattle.weld_meaning.specs.Accepted.{IsAccepted}
use Rattle.weld_objects.specs.Objects as objects
use Rattle.weld_objects.specs.Objects.{given, call, type_of, type_at, with_one, DepsFit, IsCall, IsObject, AreObjectsFrom, AreObjects}
use Rattle.weld_objects.specs.Lowered.{names_of}
use Rattle.weld_lazy.specs.View.{view_object}
use Rattle.weld_lazy.specs.declared.object.Object.{Object}

-- a program has fewer binders than 4,294,967,295
pub few_binders : (p : ProgramTree) → IsProgram p.params p.body → length p.params + length (bound p.body) < 4294967295
few_binders p h =
    let a : length (syms_of p.params ++ bound p.body) ≡ length (syms_of p.params) + length (bound p.body) = length-append (syms_of p.params) (bound p.body) in
    let b : length (syms_of p.params) ≡ length p.params = length-map p.params (λ (c : Binder). c.sym.0) in
    omega (arith, a, b, h.few)

few_names : (id : ℕ) (types : ℕ → Option TypeTree) (os : List objects.Object) → AreObjectsFrom id types os → names_of os ≤ 4294967295 * length os
few_names id types [] are = omega arith
few_names id types (given t v ∷ os) are = omega (arith, few_names (suc id) (with_one id (Some t) types) os are.1)
few_names id types (call t ids p ∷ os) are = omega (arith, few_names (suc id) (with_one id (Some t) types) os are.1, few_binders p are.0.program)

pub names_bound : (os : List objects.Object) → AreObjects os → names_of os ≤ 4294967295 * length os
names_bound os are = few_names 0 (λ id. None) os are

pub names_grow : (os : List objects.Object) (o : objects.Object) → names_of (os ++ o ∷ []) ≡ names_of os + names_of (o ∷ [])
names_grow [] o = omega arith
names_grow (given t v ∷ os) o = let k = names_grow os o in omega (arith, k)
names_grow (call t ids p ∷ os) o = let k = names_grow os o in omega (arith, k)

map_grow : (os : List Object) (o : Object) → map view_object (os ++ o ∷ []) ≡ map view_object os ++ view_object o ∷ []
map_grow [] o = refl
map_grow (a ∷ os) o = ap (λ r. view_object a ∷ r) (map_grow os o)

-- what every graph keeps, in the code's objects
abbrev pub IsGraph : List Object → ℕ → Type 0
IsGraph items names = AreObjects (map view_object items) × (names_of (map view_object items) ≡ names) × (length items ≤ 4294967295)

pub graph_grows : (items after : List Object) (o : Object) (names more : ℕ)
    → ((os : List objects.Object) (x : objects.Object) → AreObjects os → IsObject (type_at os) x → AreObjects (os ++ x ∷ []))
    → IsGraph items names → length items < 4294967295 → after ≡ items ++ o ∷ [] → IsObject (type_at (map view_object items)) (view_object o)
    → more ≡ names + names_of (view_object o ∷ []) → IsGraph after more
graph_grows items after o names more grow g room e h m =
    let plain : map view_object after ≡ map view_object items ++ view_object o ∷ [] = ap (map view_object) e ∙ map_grow items o in (
      subst AreObjects (sym plain) (grow (map view_object items) (view_object o) g.0 h),
      ap names_of plain ∙ names_grow (map view_object items) (view_object o) ∙ (λ i. g.1 i + names_of (view_object o ∷ [])) ∙ sym m,
      (let l : length after ≡ length items + 1 = ap length e ∙ length-append items (o ∷ []) in omega (arith, l, room)),
    )

-- there is room for the names of one more
pub names_fit : (items : List Object) (names : ℕ) → IsGraph items names → length items < 4294967295 → names + 4294967295 < 2 ^ 64
names_fit items names g room =
    let b = names_bound (map view_object items) g.0 in
    let l : length (map view_object items) ≡ length items = length-map items view_object in
    omega (arith, b, l, g.1, room)

pub call_is : (os now : List objects.Object) (t : TypeTree) (ids given_ids : List ℕ) (p : ProgramTree) → os ≡ now → ids ≡ given_ids → IsProgram p.params p.body → IsAccepted p → ProgramHas p t → DepsFit (type_at now) given_ids p.params → IsCall (type_at os) t ids p
call_is os now t ids given_ids p e i program accepted typed fits = record {
  program = program;
  accepted = accepted;
  typed = typed;
  fits = subst (λ (xs : List ℕ). DepsFit (type_at os) xs p.params) (sym i) (subst (λ (ys : List objects.Object). DepsFit (type_at ys) given_ids p.params) (sym e) fits);
}
