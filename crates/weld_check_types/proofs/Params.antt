-- Parameters one by one.
use Rattle.std.proofs.Common.{◌≡◌, ℕ, ◌+◌, ◌<◌, ◌≤◌, List, [], ◌∷◌, ◌++◌, Some, length, drop, get_or, sym, ap, ◌∙◌, refl, subst, All, IsSome}
use Rattle.std.proofs.lemmas.List.{at_drop_more, drop_all, append_assoc}
use Rattle.std.proofs.lemmas.List.Elements.{All-pop}
use Rattle.weld_meaning.specs.Typing.{Types, noted_type, param_types}
use Rattle.weld_tree.specs.TypeTree.{TypeTree}
use Rattle.weld_tree.specs.declared.binder.Binder.{Binder}
use Rattle.weld_tree.specs.declared.refusal.Refusal.{Refusal}
use Rattle.weld_types.specs.Says.{RefusalSays}
use Rattle.weld_types.specs.Walk.{Found, param_type, param_types_fit}

-- a parameter that fits
pub param_left : (bs : List Binder) (i : ℕ) (b : Binder) → i < length bs → b ≡ get_or bs i b → ((later : Found TypeTree) → param_type b.note b later ≡ later)
    → (later : Found TypeTree) → param_types_fit (drop i bs) later ≡ param_types_fit (drop (i + 1) bs) later
param_left bs i b h p fit later =
    at_drop_more (λ rest. param_types_fit rest later) bs i b h
    ∙ ap (λ c. param_type c.note c (param_types_fit (drop (i + 1) bs) later)) (sym p)
    ∙ fit (param_types_fit (drop (i + 1) bs) later)

-- a parameter that is refused
pub param_refused : (bs : List Binder) (i : ℕ) (b : Binder) (r : Refusal) → i < length bs → b ≡ get_or bs i b → ((later : Found TypeTree) → RefusalSays r (param_type b.note b later))
    → (later : Found TypeTree) → RefusalSays r (param_types_fit (drop i bs) later)
param_refused bs i b r h p refuses later =
    subst (λ (w : Found TypeTree). RefusalSays r w)
    (sym (at_drop_more (λ rest. param_types_fit rest later) bs i b h ∙ ap (λ c. param_type c.note c (param_types_fit (drop (i + 1) bs) later)) (sym p)))
    (refuses (param_types_fit (drop (i + 1) bs) later))

pub no_param_left : (bs : List Binder) (i : ℕ) → length bs ≤ i → (later : Found TypeTree) → param_types_fit (drop i bs) later ≡ later
no_param_left bs i h later = ap (λ rest. param_types_fit rest later) (drop_all i bs h)

types_append : (bs cs : List Binder) → param_types (bs ++ cs) ≡ param_types bs ++ param_types cs
types_append [] cs = refl
types_append (b ∷ bs) cs = ap (λ rest. (b.sym.0, noted_type b.note) ∷ rest) (types_append bs cs)

-- the last parameter's type stands before those of the names behind
pub last_param : (bs rest : List Binder) (b : Binder) (t : TypeTree) (g : Types) → bs ≡ rest ++ b ∷ [] → b.note ≡ Some t → param_types bs ++ g ≡ param_types rest ++ ((b.sym.0, t) ∷ g)
last_param bs rest b t g p q =
    ap (λ cs. param_types cs ++ g) p
    ∙ ap (λ ts. ts ++ g) (types_append rest (b ∷ []))
    ∙ append_assoc (param_types rest) ((b.sym.0, noted_type b.note) ∷ []) g
    ∙ ap (λ note. param_types rest ++ ((b.sym.0, noted_type note) ∷ g)) q

pub notes_before : (bs rest : List Binder) (b : Binder) → bs ≡ rest ++ b ∷ [] → All (λ (c : Binder). IsSome c.note) bs → All (λ (c : Binder). IsSome c.note) rest
notes_before bs rest b p h = (All-pop (λ (c : Binder). IsSome c.note) bs rest (Some b) p h).0

pub note_of_last : (bs rest : List Binder) (b : Binder) → bs ≡ rest ++ b ∷ [] → All (λ (c : Binder). IsSome c.note) bs → IsSome b.note
note_of_last bs rest b p h = (All-pop (λ (c : Binder). IsSome c.note) bs rest (Some b) p h).1
