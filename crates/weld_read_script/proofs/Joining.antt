-- Columns read one after another.
use Rattle.std.proofs.Common.{◌≡◌, ℕ, ◌+◌, ◌<◌, ◌≤◌, List, [], ◌∷◌, ◌++◌, length, drop, get_or, map, Option, Some, None, option_map, Bor, refl, sym, ap, ◌∙◌, subst}
use Rattle.std.proofs.lemmas.List.{drop_more, drop_all, append_assoc, append-nil}
use Rattle.weld_grammar.specs.declared.terminals.token.Token.{Token}
use Rattle.weld_tree.specs.TypeTree.{TypeTree}
use Rattle.weld_read_script.specs.declared.statements.statement.Column.{Column}
use Rattle.weld_read_script.specs.declared.statements.statement.Columns.{Columns}
use Rattle.weld_read_script.specs.Columns.{ColumnRead, ColumnsRead, with_first}

abbrev pub lent_columns : List (Bor (List Token)) → Option Columns → Type 0
lent_columns ps r = ColumnsRead (map (λ x. x.now) ps) r

-- further columns behind these
abbrev pub behind_columns : List (List ℕ) → List TypeTree → Option Columns → Option Columns
behind_columns names cells None = None
behind_columns names cells (Some more) = Some (record { names = names ++ more.names; cells = cells ++ more.cells })

-- whatever the parts from i on are read as, all are read as that behind these
abbrev pub ReadTo : List (Bor (List Token)) → ℕ → List (List ℕ) → List TypeTree → Type 0
ReadTo ps i names cells = (r : Option Columns) → lent_columns (drop i ps) r → lent_columns ps (behind_columns names cells r)

abbrev pub made : List (List ℕ) → List TypeTree → Columns
made names cells = record { names = names; cells = cells }

pub read_start : (ps : List (Bor (List Token))) → ReadTo ps 0 [] []
read_start ps None h = h
read_start ps (Some m) h = h

one_behind : (names : List (List ℕ)) (cells : List TypeTree) (c : Column) (r : Option Columns)
    → behind_columns names cells (option_map (with_first c) r) ≡ behind_columns (names ++ c.name ∷ []) (cells ++ c.cell ∷ []) r
one_behind names cells c None = refl
one_behind names cells c (Some m) =
    ap (λ ns. Some (made ns (cells ++ c.cell ∷ m.cells))) (sym (append_assoc names (c.name ∷ []) m.names))
    ∙ ap (λ cs. Some (made (names ++ c.name ∷ [] ++ m.names) cs)) (sym (append_assoc cells (c.cell ∷ []) m.cells))

-- the parts from i on are the part p and those behind it
lent_at : (ps : List (Bor (List Token))) (i : ℕ) (p : Bor (List Token)) → i < length ps → p ≡ get_or ps i p → drop i ps ≡ p ∷ drop (i + 1) ps
lent_at ps i p below is = drop_more ps i p below ∙ ap (λ q. q ∷ drop (i + 1) ps) (sym is)

pub column_more : (ps : List (Bor (List Token))) (i : ℕ) (p : Bor (List Token)) (names more : List (List ℕ)) (cells wider : List TypeTree) (c : Column)
    → i < length ps → p ≡ get_or ps i p → ColumnRead p.now (Some c) → more ≡ names ++ c.name ∷ [] → wider ≡ cells ++ c.cell ∷ []
    → ReadTo ps i names cells → ReadTo ps (i + 1) more wider
column_more ps i p names more cells wider c below is reads more_is wider_is so_far r h =
    subst (lent_columns ps)
    (one_behind names cells c r ∙ ap (λ ns. behind_columns ns (cells ++ c.cell ∷ []) r) (sym more_is) ∙ ap (λ cs. behind_columns more cs r) (sym wider_is))
    (so_far (option_map (with_first c) r)
    (subst (λ qs. lent_columns qs (option_map (with_first c) r)) (sym (lent_at ps i p below is)) (Some c, reads, (r, h, refl))))

pub column_none : (ps : List (Bor (List Token))) (i : ℕ) (p : Bor (List Token)) (names : List (List ℕ)) (cells : List TypeTree)
    → i < length ps → p ≡ get_or ps i p → ColumnRead p.now None → ReadTo ps i names cells → lent_columns ps None
column_none ps i p names cells below is reads so_far =
    so_far None (subst (λ qs. lent_columns qs None) (sym (lent_at ps i p below is)) (None, reads, refl))

pub columns_all : (ps : List (Bor (List Token))) (i : ℕ) (names : List (List ℕ)) (cells : List TypeTree)
    → length ps ≤ i → ReadTo ps i names cells → lent_columns ps (Some (made names cells))
columns_all ps i names cells past so_far =
    subst (lent_columns ps) (ap (λ ns. Some (made ns (cells ++ []))) (append-nil names) ∙ ap (λ cs. Some (made names cs)) (append-nil cells))
    (so_far (Some (made [] [])) (subst (λ qs. lent_columns qs (Some (made [] []))) (sym (drop_all i ps past)) refl))
