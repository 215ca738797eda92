-- Columns, chosen one after another.
use Rattle.std.proofs.Common.{◌≡◌, ◌∙◌, sym, ap, refl, ◌<◌, ◌+◌, ℕ, zero, suc, Bool, true, false, cond, List, [], ◌∷◌, ◌++◌, length, map, drop, get_or, Option, Some, None, arith, append_assoc}
use Rattle.std.proofs.Math.Seq.{drop-cons}
use Rattle.std.proofs.lemmas.List.{append-nil, map-append}
use Rattle.std.proofs.lemmas.List.Elements.{All-append}
use Rattle.std.specs.List.{All}
use Rattle.std.specs.Str.{bytes_eq}
use Rattle.csv.specs.Records.{field_at}
use Rattle.weld_tree.specs.TypeTree.{TypeTree}
use Rattle.weld_table.specs.declared.column.TableColumn.{TableColumn}
use Rattle.weld_table.specs.Table.{Row, Place, IsCell, placed, place_in, before, named}
use Rattle.weld_table.specs.Cells.{place_of, IsNew}

-- ---- one more column

one_new : (width : ℕ) (c : TableColumn) → IsNew width c → All (IsNew width) (c ∷ [])
one_new width c n zero d h = n
one_new width c n (suc k) d h = absurd (omega (arith, h))

pub new_more : (width : ℕ) (columns : List TableColumn) (c : TableColumn) → All (IsNew width) columns → IsNew width c
    → All (IsNew width) (columns ++ c ∷ [])
new_more width columns c a n = All-append (IsNew width) columns (c ∷ []) a (one_new width c n)

pub none_new : (width : ℕ) → All (IsNew width) []
none_new width k d h = absurd (omega (arith, h))

-- ---- in order

drop_first : {A : Type 0} (xs : List A) (i : ℕ) (d : A) → i < length xs → drop i xs ≡ get_or xs i d ∷ drop (i + 1) xs
drop_first xs i d h =
    let one : suc i ≡ i + 1 = omega arith in
    drop-cons xs i d h ∙ ap (λ (n : ℕ). get_or xs i d ∷ drop n xs) one

-- these columns are those of the types up to this place
abbrev pub ArePlaced : List TypeTree → ℕ → List TableColumn → Type 0
ArePlaced ts i columns = placed 0 ts ≡ map place_of columns ++ placed i (drop i ts)

pub placed_more : (ts : List TypeTree) (i : ℕ) (t : TypeTree) (columns : List TableColumn) (c : TableColumn) → i < length ts → t ≡ get_or ts i t
    → place_of c ≡ record { at = i; cell = t } → ArePlaced ts i columns → ArePlaced ts (i + 1) (columns ++ c ∷ [])
placed_more ts i t columns c h is p a =
    let first : drop i ts ≡ t ∷ drop (i + 1) ts = drop_first ts i t h ∙ ap (λ (x : TypeTree). x ∷ drop (i + 1) ts) (sym is) in
    let next : placed i (drop i ts) ≡ place_of c ∷ placed (i + 1) (drop (i + 1) ts) =
    ap (placed i) first ∙ ap (λ (x : Place). x ∷ placed (i + 1) (drop (i + 1) ts)) (sym p) in
    a ∙ ap (λ (x : List Place). map place_of columns ++ x) next
    ∙ sym (append_assoc (map place_of columns) (place_of c ∷ []) (placed (i + 1) (drop (i + 1) ts)))
    ∙ ap (λ (x : List Place). x ++ placed (i + 1) (drop (i + 1) ts)) (sym (map-append place_of columns (c ∷ [])))

drop_end : {A : Type 0} (xs : List A) (i : ℕ) → (i < length xs → ⊥) → drop i xs ≡ []
drop_end [] zero h = refl
drop_end [] (suc i) h = refl
drop_end (x ∷ xs) zero h = absurd (h (omega arith))
drop_end (x ∷ xs) (suc i) h = drop_end xs i (λ l. h (omega (arith, l)))

pub placed_all : (ts : List TypeTree) (i : ℕ) (columns : List TableColumn) → (i < length ts → ⊥) → ArePlaced ts i columns
    → map place_of columns ≡ placed 0 ts
placed_all ts i columns h a =
    sym (a ∙ ap (λ (x : List TypeTree). map place_of columns ++ placed i x) (drop_end ts i h) ∙ append-nil (map place_of columns))

-- ---- by name

some_is : (x y : List ℕ) → Some x ≡ Some y → x ≡ y
some_is x y h = cc h

field_drop : (fields : Row) (i : ℕ) (field : List ℕ) → field_at fields i ≡ Some field → drop i fields ≡ field ∷ drop (suc i) fields
unfolding field_at
field_drop [] i field h = cc h
field_drop (f ∷ fs) zero field h = ap (λ (x : List ℕ). x ∷ fs) (some_is f field h)
field_drop (f ∷ fs) (suc i) field h = field_drop fs i field h

field_first : (fields : Row) (i : ℕ) (field : List ℕ) → field_at fields i ≡ Some field → drop i fields ≡ field ∷ drop (i + 1) fields
field_first fields i field h =
    let one : suc i ≡ i + 1 = omega arith in
    field_drop fields i field h ∙ ap (λ (n : ℕ). field ∷ drop n fields) one

-- no field before this place is the name
abbrev pub IsSought : List ℕ → Row → ℕ → Type 0
IsSought name fields i = place_in name 0 fields ≡ place_in name i (drop i fields)

pub found_here : (name : List ℕ) (fields : Row) (i : ℕ) (field : List ℕ) → IsSought name fields i → field_at fields i ≡ Some field
    → bytes_eq name field ≡ true → place_in name 0 fields ≡ Some i
found_here name fields i field s h e =
    s ∙ ap (place_in name i) (field_first fields i field h)
    ∙ ap (λ (b : Bool). cond b (Some i) (place_in name (i + 1) (drop (i + 1) fields))) e

pub sought_more : (name : List ℕ) (fields : Row) (i : ℕ) (field : List ℕ) → IsSought name fields i → field_at fields i ≡ Some field
    → bytes_eq name field ≡ false → IsSought name fields (i + 1)
sought_more name fields i field s h e =
    s ∙ ap (place_in name i) (field_first fields i field h)
    ∙ ap (λ (b : Bool). cond b (Some i) (place_in name (i + 1) (drop (i + 1) fields))) e

pub found_nowhere : (name : List ℕ) (fields : Row) (i : ℕ) → IsSought name fields i → (i < length fields → ⊥) → place_in name 0 fields ≡ None
found_nowhere name fields i s h = s ∙ ap (place_in name i) (drop_end fields i h)

below_by : (name : List ℕ) (at : ℕ) (field : List ℕ) (fields : Row) (i : ℕ) (b : Bool) → (place_in name (at + 1) fields ≡ Some i → i < (at + 1) + length fields)
    → cond b (Some at) (place_in name (at + 1) fields) ≡ Some i → i < at + length (field ∷ fields)
below_by name at field fields i true f e = let same : at ≡ i = cc e in omega (arith, same)
below_by name at field fields i false f e = let below : i < (at + 1) + length fields = f e in omega (arith, below)

pub place_below : (name : List ℕ) (at : ℕ) (fields : Row) (i : ℕ) → place_in name at fields ≡ Some i → i < at + length fields
place_below name at [] i h = cc h
place_below name at (field ∷ fields) i h = below_by name at field fields i (bytes_eq name field) (place_below name (at + 1) fields i) h

-- these places before those
abbrev pub behind : List Place → Option (List Place) → Option (List Place)
behind cs None = None
behind cs (Some ds) = Some (cs ++ ds)

behind_one : (cs : List Place) (c : Place) (o : Option (List Place)) → behind cs (before (Some c.at) c.cell o) ≡ behind (cs ++ c ∷ []) o
behind_one cs c None = refl
behind_one cs c (Some ds) = ap Some (sym (append_assoc cs (c ∷ []) ds))

-- these columns are those of the names before the ones that are left
abbrev pub AreNamed : Row → List (List ℕ) → List TypeTree → List (List ℕ) → List TypeTree → List TableColumn → Type 0
AreNamed header names ts left_names left columns = named header names ts ≡ behind (map place_of columns) (named header left_names left)

pub named_none : (header : Row) (names : List (List ℕ)) (ts : List TypeTree) → AreNamed header names ts names ts []
named_none header names ts = all (named header names ts)
  where
    all : (o : Option (List Place)) → o ≡ behind [] o
    all None = refl
    all (Some cs) = refl

pub named_more : (header : Row) (names : List (List ℕ)) (ts : List TypeTree) (name : List ℕ) (left_names : List (List ℕ)) (t : TypeTree) (left : List TypeTree)
    (columns : List TableColumn) (c : TableColumn) (at : ℕ) → place_in name 0 header ≡ Some at → place_of c ≡ record { at = at; cell = t }
    → AreNamed header names ts (name ∷ left_names) (t ∷ left) columns → AreNamed header names ts left_names left (columns ++ c ∷ [])
named_more header names ts name left_names t left columns c at h p a =
    a ∙ ap (λ (o : Option ℕ). behind (map place_of columns) (before o t (named header left_names left))) h
    ∙ behind_one (map place_of columns) (record { at = at; cell = t }) (named header left_names left)
    ∙ ap (λ (x : Place). behind (map place_of columns ++ x ∷ []) (named header left_names left)) (sym p)
    ∙ ap (λ (x : List Place). behind x (named header left_names left)) (sym (map-append place_of columns (c ∷ [])))

pub named_not : (header : Row) (names : List (List ℕ)) (ts : List TypeTree) (name : List ℕ) (left_names : List (List ℕ)) (t : TypeTree) (left : List TypeTree)
    (columns : List TableColumn) → place_in name 0 header ≡ None
    → AreNamed header names ts (name ∷ left_names) (t ∷ left) columns → named header names ts ≡ None
named_not header names ts name left_names t left columns h a =
    a ∙ ap (λ (o : Option ℕ). behind (map place_of columns) (before o t (named header left_names left))) h

-- ---- the steps of the loop over names

pub cells_first : (t : TypeTree) (ts : List TypeTree) → All IsCell (t ∷ ts) → IsCell t
cells_first t ts a = a 0 t (omega arith)

pub cells_rest : (t : TypeTree) (ts : List TypeTree) → All IsCell (t ∷ ts) → All IsCell ts
cells_rest t ts a k d h = a (suc k) d (omega (arith, h))

pub name_first : (names : List (List ℕ)) (i : ℕ) (d : List ℕ) → i < length names → drop i names ≡ get_or names i d ∷ drop (i + 1) names
name_first names i d h = drop_first names i d h

-- the field at a place below their number
pub field_is : (fields : Row) (i : ℕ) → i < length fields → (field : List ℕ) × (field_at fields i ≡ Some field)
unfolding field_at
field_is [] i h = absurd (omega (arith, h))
field_is (f ∷ fs) zero h = (f, refl)
field_is (f ∷ fs) (suc i) h = field_is fs i (omega (arith, h))
