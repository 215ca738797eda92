-- Parameters one by one from the last.
use Rattle.std.proofs.Common.{◌≡◌, List, [], ◌∷◌, ◌++◌, Some, sym, ap, ◌∙◌, refl, All, IsSome, Bor}
use Rattle.std.proofs.lemmas.List.{append_assoc}
use Rattle.std.proofs.lemmas.List.Elements.{All-pop}
use Rattle.weld_meaning.specs.Typing.{Types, noted_type, param_types}
use Rattle.weld_tree.specs.TypeTree.{TypeTree}
use Rattle.weld_tree.specs.declared.sym.Sym.{Sym}
use Rattle.weld_tree.specs.declared.binder.Binder.{Binder}

types_append : (bs cs : List Binder) → param_types (bs ++ cs) ≡ param_types bs ++ param_types cs
types_append [] cs = refl
types_append (b ∷ bs) cs = ap (λ rest. (b.sym.0, noted_type b.note) ∷ rest) (types_append bs cs)

-- the last parameter's type stands before those of the names behind
pub last_param : (bs rest : List Binder) (b : Binder) (t : TypeTree) (g : Types) → bs ≡ rest ++ b ∷ [] → b.note ≡ Some t → param_types bs ++ g ≡ param_types rest ++ ((b.sym.0, t) ∷ g)
last_param bs rest b t g p q =
    ap (λ cs. param_types cs ++ g) p
    ∙ ap (λ ts. ts ++ g) (types_append rest (b ∷ []))
    ∙ append_assoc (param_types rest) ((b.sym.0, noted_type b.note) ∷ []) g
    ∙ ap (λ note. param_types rest ++ ((b.sym.0, noted_type note) ∷ g)) q

pub notes_before : (bs rest : List Binder) (b : Binder) → bs ≡ rest ++ b ∷ [] → All (λ (c : Binder). IsSome c.note) bs → All (λ (c : Binder). IsSome c.note) rest
notes_before bs rest b p h = (All-pop (λ (c : Binder). IsSome c.note) bs rest (Some b) p h).0

pub note_of_last : (bs rest : List Binder) (b : Binder) → bs ≡ rest ++ b ∷ [] → All (λ (c : Binder). IsSome c.note) bs → IsSome b.note
note_of_last bs rest b p h = (All-pop (λ (c : Binder). IsSome c.note) bs rest (Some b) p h).1
