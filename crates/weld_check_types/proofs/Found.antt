-- A program in which the walk finds a type, with the types of its nodes noted, is typed.
use Rattle.std.proofs.Common.{◌≡◌, ◌↔◌, ◌∙◌, sym, ap, subst, List, [], ◌∷◌, Option, Some, None}
use Rattle.weld_check_types.specs.Typed.{IsTyped}
use Rattle.weld_check_types.proofs.Noting.{Laws, are_noted, went, allowed}
use Rattle.weld_check_types.proofs.Same.{is_program_still, place_stays, same_but_notes, type_stays}
use Rattle.weld_meaning.specs.Typing.{Types, HasType, ProgramHas, param_types}
use Rattle.weld_tree.specs.declared.binder.Binder.{Binder}
use Rattle.weld_tree.specs.declared.code.Code.TheVariants.{Y1, Y2, Y3}
use Rattle.weld_tree.specs.ExprTree.{ExprTree}
use Rattle.weld_tree.specs.Program.{ProgramTree, IsProgram, IsWellMade}
use Rattle.weld_tree.specs.TypeTree.{TypeTree}
use Rattle.weld_check_types.specs.Noted.{known_by, typed, typed_program}
use Rattle.weld_types.specs.Sizes.{KeepsSize, ProgramKeepsSize}
use Rattle.weld_types.specs.Tests.{is_builder_free, is_well_formed}
use Rattle.weld_types.specs.Walk.{Found, found, demand_at, go_on, note_place, param_type, param_types_fit, place_of, program_type, type_of}
use Rattle.weld_check_types.specs.Unnoted.{IsSameButNotes}

-- the laws of typing as they stand on the calls that state them
abbrev pub WalkIsTyping : Type 0
WalkIsTyping = (e : ExprTree) (g : Types) (t : TypeTree) → IsWellMade e → (type_of e g ≡ found t) ↔ (HasType e g t × KeepsSize e g)

abbrev pub ProgramWalkIsTyping : Type 0
ProgramWalkIsTyping = (p : ProgramTree) (t : TypeTree) → IsWellMade p.body → (program_type p ≡ found t) ↔ (ProgramHas p t × ProgramKeepsSize p)

abbrev pub TypesAreUnique : Type 0
TypesAreUnique = (e : ExprTree) (g : Types) (t u : TypeTree) → HasType e g t → HasType e g u → t ≡ u

-- the body of a program in which the walk finds a type has one
one_of : {A : Type 0} (note : Option TypeTree) (b : Binder) (m : Found A) (x : A) → param_type note b m ≡ found x → m ≡ found x
one_of None b m x e = let no : ⊥ = cc in absurd no
one_of (Some t) b m x e =
    allowed (is_builder_free t) Y2 (note_place b) m x (allowed (is_well_formed t) Y1 (note_place b) (demand_at (is_builder_free t) Y2 (note_place b) m) x e)

param_of : {A : Type 0} (bs : List Binder) (m : Found A) (x : A) → param_types_fit bs m ≡ found x → m ≡ found x
param_of [] m x e = e
param_of (b ∷ bs) m x e = param_of bs m x (one_of b.note b (param_types_fit bs m) x e)

body_of : (p : ProgramTree) (t : TypeTree) → program_type p ≡ found t → (u : TypeTree) × (type_of p.body (param_types p.params) ≡ found u)
body_of p t e =
    let h = went (type_of p.body (param_types p.params)) (λ u. demand_at (is_builder_free u) Y3 (place_of p.body) (found u)) t
    (param_of p.params (go_on (type_of p.body (param_types p.params)) (λ u. demand_at (is_builder_free u) Y3 (place_of p.body) (found u))) t e) in
    (h.0, h.1)

program_stays : (p : ProgramTree) → program_type (typed_program p) ≡ program_type p
program_stays p = λ i.
    param_types_fit p.params (go_on (type_stays p.body (known_by (type_of p.body (param_types p.params))) (param_types p.params) i)
    (λ t. demand_at (is_builder_free t) Y3 (place_stays p.body (known_by (type_of p.body (param_types p.params))) (param_types p.params) i) (found t)))

-- the body may be noted in a program
pub program_made : (bs : List Binder) (e : ExprTree) → IsProgram bs e → IsProgram bs (typed e (param_types bs))
program_made bs e h = is_program_still bs e (known_by (type_of e (param_types bs))) (param_types bs) h

pub typed_if_found : (p : ProgramTree) (t : TypeTree) → WalkIsTyping → ProgramWalkIsTyping → TypesAreUnique → IsProgram p.params p.body → program_type p ≡ found t → IsTyped (typed_program p) t
typed_if_found p t walk law unique made h =
    let laws : Laws = record { has = λ e g t m k. ((walk e g t m).0 k).0; one = unique } in
    let made' : IsWellMade (typed p.body (param_types p.params)) = (program_made p.params p.body made).well_made in
    let both : ProgramHas (typed_program p) t × ProgramKeepsSize (typed_program p) = (law (typed_program p) t made').0 (program_stays p ∙ h) in
    let b = body_of p t h in
    record { has = both.0; keeps = both.1; noted = are_noted laws p.body (param_types p.params) b.0 made.well_made b.1 }

pub same_program : (p : ProgramTree) → IsSameButNotes (typed_program p) p
same_program p = λ i. record { params = p.params; body = same_but_notes p.body (known_by (type_of p.body (param_types p.params))) (param_types p.params) i }

-- the same of a body that was noted in place

abbrev pub noted_body : List Binder → ExprTree → ExprTree
noted_body bs e = typed e (param_types bs)

abbrev pub answers : List Binder → ExprTree → Found TypeTree
answers bs e = param_types_fit bs (go_on (type_of e (param_types bs)) (λ t. demand_at (is_builder_free t) Y3 (place_of e) (found t)))

new_is : (bs cs : List Binder) (e d new : ExprTree) → cs ≡ bs → d ≡ e → new ≡ noted_body cs d → new ≡ noted_body bs e
new_is bs cs e d new p q h = h ∙ ap (λ xs. noted_body xs d) p ∙ ap (noted_body bs) q

pub made_so : (bs cs : List Binder) (e d new : ExprTree) → IsProgram bs e → cs ≡ bs → d ≡ e → new ≡ noted_body cs d → IsProgram bs new
made_so bs cs e d new made p q h = subst (λ (x : ExprTree). IsProgram bs x) (sym (new_is bs cs e d new p q h)) (program_made bs e made)

pub typed_so : (bs cs : List Binder) (e d new : ExprTree) (t : TypeTree) → WalkIsTyping → ProgramWalkIsTyping → TypesAreUnique → IsProgram bs e → cs ≡ bs → d ≡ e → new ≡ noted_body cs d
    → answers cs d ≡ found t → IsTyped (record { params = bs; body = new }) t
typed_so bs cs e d new t walk law unique made p q h k =
    subst (λ (x : ExprTree). IsTyped (record { params = bs; body = x }) t) (sym (new_is bs cs e d new p q h))
    (typed_if_found (record { params = bs; body = e }) t walk law unique made (sym (ap (λ xs. answers xs d) p ∙ ap (answers bs) q) ∙ k))

pub same_so : (program : ProgramTree) (bs cs : List Binder) (e d new : ExprTree) → record { params = bs; body = e } ≡ program → cs ≡ bs → d ≡ e → new ≡ noted_body cs d
    → IsSameButNotes (record { params = bs; body = new }) program
same_so program bs cs e d new r p q h =
    subst (λ (z : ProgramTree). IsSameButNotes (record { params = bs; body = new }) z) r
    (subst (λ (x : ExprTree). IsSameButNotes (record { params = bs; body = x }) (record { params = bs; body = e })) (sym (new_is bs cs e d new p q h)) (same_program (record { params = bs; body = e })))
