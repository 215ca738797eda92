-- Table types and the types of their cells.
use Rattle.std.proofs.Common.{◌≡◌, ◌∙◌, sym, ap, subst, refl, ◌<◌, ◌+◌, ℕ, zero, suc, List, [], ◌∷◌, ◌++◌, length, drop, get_or, Option, Some, None, arith, append_assoc}
use Rattle.std.proofs.Math.Seq.{drop-cons}
use Rattle.std.proofs.lemmas.List.{append-nil}
use Rattle.std.specs.List.{All}
use Rattle.weld_data.specs.declared.kind.Kind.TheVariants as kinds
use Rattle.weld_tree.specs.TypeTree.{TypeTree, TypeTrees, scalar, vec, struct, dict, build, no_types, more_types, pack, unpack, unpack-pack}
use Rattle.weld_table.specs.declared.wanted.Wanted.TheVariants.{Fields}
use Rattle.weld_table.specs.Table.{IsCell, AreCells, cell_in, cell_before, cells_in, columns_in, list_types, type_of_table, IsWantedBy}

-- ---- the loop over a struct's fields

abbrev pub behind : List TypeTree → Option (List TypeTree) → Option (List TypeTree)
behind ts None = None
behind ts (Some us) = Some (ts ++ us)

behind_one : (ts : List TypeTree) (t : TypeTree) (o : Option (List TypeTree)) → behind ts (cell_before (Some t) o) ≡ behind (ts ++ t ∷ []) o
behind_one ts t None = refl
behind_one ts t (Some us) = ap Some (sym (append_assoc ts (t ∷ []) us))

-- the cells of the fields up to this one are these types
abbrev pub AreFound : List TypeTree → ℕ → List TypeTree → Type 0
AreFound fields i types = cells_in fields ≡ behind types (cells_in (drop i fields))

first : (fields : List TypeTree) (i : ℕ) (field : TypeTree) → i < length fields → field ≡ get_or fields i field → drop i fields ≡ field ∷ drop (i + 1) fields
first fields i field h is =
    let one : suc i ≡ i + 1 = omega arith in
    drop-cons fields i field h ∙ ap (λ (n : ℕ). get_or fields i field ∷ drop n fields) one ∙ ap (λ (t : TypeTree). t ∷ drop (i + 1) fields) (sym is)

pub none_found : (fields : List TypeTree) → AreFound fields 0 []
none_found fields = all (cells_in fields)
  where
    all : (o : Option (List TypeTree)) → o ≡ behind [] o
    all None = refl
    all (Some ts) = refl

pub one_found : (fields : List TypeTree) (i : ℕ) (field cell : TypeTree) (types : List TypeTree) → i < length fields → field ≡ get_or fields i field
    → Some cell ≡ cell_in field → AreFound fields i types → AreFound fields (i + 1) (types ++ cell ∷ [])
one_found fields i field cell types h is e a =
    a ∙ ap (λ (ts : List TypeTree). behind types (cells_in ts)) (first fields i field h is)
    ∙ ap (λ (o : Option TypeTree). behind types (cell_before o (cells_in (drop (i + 1) fields)))) (sym e)
    ∙ behind_one types cell (cells_in (drop (i + 1) fields))

pub not_found : (fields : List TypeTree) (i : ℕ) (field : TypeTree) (types : List TypeTree) → i < length fields → field ≡ get_or fields i field
    → None ≡ cell_in field → AreFound fields i types → None ≡ cells_in fields
not_found fields i field types h is e a =
    sym (a ∙ ap (λ (ts : List TypeTree). behind types (cells_in ts)) (first fields i field h is)
    ∙ ap (λ (o : Option TypeTree). behind types (cell_before o (cells_in (drop (i + 1) fields)))) (sym e))

pub all_found : (fields : List TypeTree) (i : ℕ) (types : List TypeTree) → (i < length fields → ⊥) → AreFound fields i types → Some types ≡ cells_in fields
all_found fields i types h a =
    sym (a ∙ ap (λ (ts : List TypeTree). behind types (cells_in ts)) (end fields i h) ∙ ap Some (append-nil types))
  where
    end : (fields : List TypeTree) (i : ℕ) → (i < length fields → ⊥) → drop i fields ≡ []
    end [] zero h = refl
    end [] (suc i) h = refl
    end (x ∷ xs) zero h = absurd (h (omega arith))
    end (x ∷ xs) (suc i) h = end xs i (λ l. h (omega (arith, l)))

-- ---- what is found

some_is : {A : Type 0} (x y : A) → Some x ≡ Some y → x ≡ y
some_is x y h = cc h

none_is : {A : Type 0} (x : A) → None ≡ Some x → ⊥
none_is x h = cc h

record IsColumn (field cell : TypeTree) : Type 0 where
  pub is : IsCell cell
  pub listed : field ≡ vec cell

column_of : (field cell : TypeTree) → cell_in field ≡ Some cell → IsColumn field cell
column_of (vec (scalar k)) cell h = subst (IsColumn (vec (scalar k))) (some_is _ _ h) (record { is = tt; listed = refl })
column_of (vec (vec (scalar kinds.I8))) cell h = subst (IsColumn (vec (vec (scalar kinds.I8)))) (some_is _ _ h) (record { is = tt; listed = refl })
column_of (vec (vec (scalar kinds.U8))) cell h = subst (IsColumn (vec (vec (scalar kinds.U8)))) (some_is _ _ h) (record { is = tt; listed = refl })
column_of _ cell h = absurd (none_is cell h)

record AreColumns (fields cells : List TypeTree) : Type 0 where
  pub are : All IsCell cells
  pub listed : (ts : TypeTrees) → unpack ts ≡ fields → list_types cells ≡ ts

columns_before : (field : TypeTree) (fields : List TypeTree) (o : Option TypeTree) (p : Option (List TypeTree)) (cells : List TypeTree)
    → ((cell : TypeTree) → o ≡ Some cell → IsColumn field cell) → ((rest : List TypeTree) → p ≡ Some rest → AreColumns fields rest)
    → cell_before o p ≡ Some cells → AreColumns (field ∷ fields) cells
columns_before field fields None p cells f g h = absurd (none_is cells h)
columns_before field fields (Some cell) None cells f g h = absurd (none_is cells h)
columns_before field fields (Some cell) (Some rest) cells f g h =
    let c = f cell refl in
    let r = g rest refl in
    subst (AreColumns (field ∷ fields)) (some_is (cell ∷ rest) cells h) (record {
      are = both cell rest c.is r.are;
      listed = λ ts e. listed_both field fields cell rest c r ts e;
    })
  where
    both : (cell : TypeTree) (rest : List TypeTree) → IsCell cell → All IsCell rest → All IsCell (cell ∷ rest)
    both cell rest i a zero d h = i
    both cell rest i a (suc k) d h = a k d (omega (arith, h))

    listed_both : (field : TypeTree) (fields : List TypeTree) (cell : TypeTree) (rest : List TypeTree) → IsColumn field cell → AreColumns fields rest
        → (ts : TypeTrees) → unpack ts ≡ field ∷ fields → list_types (cell ∷ rest) ≡ ts
    listed_both field fields cell rest c r no_types e = cc e
    listed_both field fields cell rest c r (more_types t ts) e =
        let head : t ≡ field = cc e in
        let tail : unpack ts ≡ fields = cc e in
        ap (λ (x : TypeTree). more_types x (list_types rest)) (sym c.listed ∙ sym head) ∙ ap (more_types t) (r.listed ts tail)

columns_of_fields : (fields cells : List TypeTree) → cells_in fields ≡ Some cells → AreColumns fields cells
columns_of_fields [] cells h = subst (AreColumns []) (some_is [] cells h) (record { are = λ k d l. absurd (omega (arith, l)); listed = none })
  where
    none : (ts : TypeTrees) → unpack ts ≡ [] → no_types ≡ ts
    none no_types e = refl
    none (more_types t ts) e = cc e
columns_of_fields (field ∷ fields) cells h =
    columns_before field fields (cell_in field) (cells_in fields) cells (column_of field) (columns_of_fields fields) h

pub cells_are : (t : TypeTree) (ts : List TypeTree) → columns_in t ≡ Some ts → AreCells (Fields ts)
cells_are (struct us) ts h = (columns_of_fields (unpack us) ts h).are
cells_are (scalar k) ts h = absurd (none_is ts h)
cells_are (vec t) ts h = absurd (none_is ts h)
cells_are (dict k t) ts h = absurd (none_is ts h)
cells_are (build b) ts h = absurd (none_is ts h)

pub type_is : (t : TypeTree) (ts : List TypeTree) → columns_in t ≡ Some ts → type_of_table (Fields ts) ≡ t
type_is (struct us) ts h = ap struct ((columns_of_fields (unpack us) ts h).listed us refl)
type_is (scalar k) ts h = absurd (none_is ts h)
type_is (vec t) ts h = absurd (none_is ts h)
type_is (dict k t) ts h = absurd (none_is ts h)
type_is (build b) ts h = absurd (none_is ts h)

-- ---- the answer on a struct type

pub struct_columns : (t : TypeTree) (fields : List TypeTree) (o : Option (List TypeTree)) → t ≡ struct (pack fields) → o ≡ cells_in fields → columns_in t ≡ o
struct_columns t fields o e f = ap columns_in e ∙ ap cells_in (unpack-pack fields) ∙ sym f

pub wanted_some : (t : TypeTree) (types : List TypeTree) → columns_in t ≡ Some types → IsWantedBy (columns_in t) (Some (Fields types))
wanted_some t types e = rw e refl

pub wanted_none : (t : TypeTree) → columns_in t ≡ None → IsWantedBy (columns_in t) None
wanted_none t e = rw e tt
