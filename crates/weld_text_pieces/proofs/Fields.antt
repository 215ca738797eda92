-- Values in lists of scalars, and structs field by field.
use Rattle.std.proofs.Common.{◌≡◌, sym, ◌∙◌, ℕ, zero, suc, ◌+◌, ◌<◌, List, [], ◌∷◌, ◌++◌, length, drop, get_or, Some, refl, ap, subst, map, arith, add-one, append_assoc, Bool, true, false, Result, Ok, Err, IfOk, MatchBool}
use Rattle.std.specs.List.{slice_get}
use Rattle.std.proofs.Math.Seq.{drop-cons}
use Rattle.weld_data.specs.declared.kind.Kind.{Kind}
use Rattle.weld_data.specs.declared.kind.Kind.TheVariants as kinds
use Rattle.weld_data.specs.Value.{Value, number, list, struct, dict, values, list_of_values-values}
use Rattle.weld_tree.specs.TypeTree.{TypeTree, scalar, vec, struct as struct_of, dict as dict_of, build, pack}
use Rattle.weld_tree.specs.HasValue.{HasValue, HaveValues}
use Rattle.weld_write_value.specs.Showing.{IsI8, shown_scalar, shown_list, show, show_fields}
use Rattle.weld_text_pieces.specs.Appended.{IsAppended}

-- a number that stands in brackets, in a list of such
abbrev pub IsCell : Value → Type 0
IsCell (number k x) = IsI8 (scalar k) → ⊥
IsCell (list vs) = ⊥
IsCell (struct vs) = ⊥
IsCell (dict es) = ⊥

shown : (t : TypeTree) (v : Value) (vs : List Value) → IsCell v → HasValue t (list (values (v ∷ vs))) → show t (list (values (v ∷ vs))) ≡ shown_list shown_scalar (v ∷ vs)
shown (scalar k) v vs c h = absurd h
shown (vec (scalar kinds.Bool)) v vs c h = ap (shown_list shown_scalar) (list_of_values-values (v ∷ vs))
shown (vec (scalar kinds.I8)) (number k x) vs c h = absurd (c (subst (λ (j : Kind). IsI8 (scalar j)) (sym h.0.0) tt))
shown (vec (scalar kinds.I8)) (list us) vs c h = absurd c
shown (vec (scalar kinds.I8)) (struct us) vs c h = absurd c
shown (vec (scalar kinds.I8)) (dict es) vs c h = absurd c
shown (vec (scalar kinds.I16)) v vs c h = ap (shown_list shown_scalar) (list_of_values-values (v ∷ vs))
shown (vec (scalar kinds.I32)) v vs c h = ap (shown_list shown_scalar) (list_of_values-values (v ∷ vs))
shown (vec (scalar kinds.I64)) v vs c h = ap (shown_list shown_scalar) (list_of_values-values (v ∷ vs))
shown (vec (scalar kinds.U8)) v vs c h = ap (shown_list shown_scalar) (list_of_values-values (v ∷ vs))
shown (vec (scalar kinds.U16)) v vs c h = ap (shown_list shown_scalar) (list_of_values-values (v ∷ vs))
shown (vec (scalar kinds.U32)) v vs c h = ap (shown_list shown_scalar) (list_of_values-values (v ∷ vs))
shown (vec (scalar kinds.U64)) v vs c h = ap (shown_list shown_scalar) (list_of_values-values (v ∷ vs))
shown (vec (vec t)) (number k x) vs c h = absurd h.0
shown (vec (vec t)) (list us) vs c h = absurd c
shown (vec (vec t)) (struct us) vs c h = absurd c
shown (vec (vec t)) (dict es) vs c h = absurd c
shown (vec (struct_of ts)) (number k x) vs c h = absurd h.0
shown (vec (struct_of ts)) (list us) vs c h = absurd c
shown (vec (struct_of ts)) (struct us) vs c h = absurd c
shown (vec (struct_of ts)) (dict es) vs c h = absurd c
shown (vec (dict_of t u)) (number k x) vs c h = absurd h.0
shown (vec (dict_of t u)) (list us) vs c h = absurd c
shown (vec (dict_of t u)) (struct us) vs c h = absurd c
shown (vec (dict_of t u)) (dict es) vs c h = absurd c
shown (vec (build b)) v vs c h = absurd h.0
shown (struct_of ts) v vs c h = absurd h
shown (dict_of t u) v vs c h = absurd h
shown (build b) v vs c h = absurd h

-- numbers in brackets are the text of their list, whatever its type
pub cells_appended : {A : Type 0} (f : A → Value) → ((x : A) → IsCell (f x)) → (xs : List A) (vs : List Value) (old new : List ℕ) → map f xs ≡ vs → 0 < length xs → new ≡ old ++ shown_list shown_scalar (map f xs) → IsAppended old new (list (values vs))
cells_appended f c [] vs old new e h n = absurd (omega arith)
cells_appended f c (x ∷ xs) vs old new e h n = λ t typed.
    n ∙ ap (λ (us : List Value). old ++ shown_list shown_scalar us) e
    ∙ ap (λ (y : List ℕ). old ++ y) (subst (λ (us : List Value). HasValue t (list (values us)) → shown_list shown_scalar us ≡ show t (list (values us))) e (λ h. sym (shown t (f x) (map f xs) (c x) h)) typed)

-- the same where many are written and few aren't
pub many_appended : {A E : Type 0} (f : A → Value) → ((x : A) → IsCell (f x)) → (xs : List A) (vs : List Value) (old new : List ℕ) (r : Result Bool E) → map f xs ≡ vs → IfOk r (λ is_done. MatchBool is_done ((0 < length xs) × (new ≡ old ++ shown_list shown_scalar (map f xs))) (new ≡ old)) → IfOk r (λ is_done. MatchBool is_done (IsAppended old new (list (values vs))) (new ≡ old))
many_appended f c xs vs old new (Ok true) e h = cells_appended f c xs vs old new e h.0 h.1
many_appended f c xs vs old new (Ok false) e h = h
many_appended f c xs vs old new (Err x) e h = tt

-- a struct has as many values as fields
pub have_length : (ts : List TypeTree) (vs : List Value) → HaveValues (pack ts) (values vs) → length vs ≡ length ts
have_length [] [] h = refl
have_length [] (v ∷ vs) h = absurd h
have_length (t ∷ ts) [] h = absurd h
have_length (t ∷ ts) (v ∷ vs) h = omega (arith, have_length ts vs h.1)

-- the field at an index has its value
have_at : (ts : List TypeTree) (vs : List Value) (i : ℕ) (t : TypeTree) (d : Value) → i < length ts → HaveValues (pack ts) (values vs) → HasValue (get_or ts i t) (get_or vs i d)
have_at [] vs i t d l h = absurd (omega arith)
have_at (t ∷ ts) [] i u d l h = absurd h
have_at (t ∷ ts) (v ∷ vs) zero u d l h = h.0
have_at (t ∷ ts) (v ∷ vs) (suc i) u d l h = have_at ts vs i u d (omega arith) h.1

at_index : (vs : List Value) (i : ℕ) (d x : Value) → i < length vs → slice_get vs i ≡ Some x → get_or vs i d ≡ x
at_index [] i d x l h = absurd (omega arith)
at_index (v ∷ vs) zero d x l h = cc
at_index (v ∷ vs) (suc i) d x l h = at_index vs i d x (omega arith) h

-- the field's value is of the field's type
pub field_typed : (ts : List TypeTree) (vs : List Value) (i : ℕ) (t : TypeTree) (v : Value) → i < length ts → t ≡ get_or ts i t → slice_get vs i ≡ Some v → HaveValues (pack ts) (values vs) → HasValue t v
field_typed ts vs i t v l it iv h =
    let e = have_length ts vs h in
    subst (λ (x : TypeTree). HasValue x v) (sym it) (subst (HasValue (get_or ts i t)) (at_index vs i v v (omega arith) iv) (have_at ts vs i t v l h))

field_step : (ts : List TypeTree) (vs : List Value) (i lead : ℕ) (t : TypeTree) (d : Value) → i < length ts → length vs ≡ length ts → show_fields (pack (drop i ts)) lead (values (drop i vs)) ≡ (lead ∷ show (get_or ts i t) (get_or vs i d)) ++ show_fields (pack (drop (i + 1) ts)) 44 (values (drop (i + 1) vs))
field_step ts vs i lead t d h e =
    ap (λ (x : List TypeTree). show_fields (pack x) lead (values (drop i vs))) (drop-cons ts i t h)
    ∙ ap (λ (x : List Value). show_fields (pack (get_or ts i t ∷ drop (suc i) ts)) lead (values x)) (drop-cons vs i d (omega arith))
    ∙ ap (λ (k : ℕ). (lead ∷ show (get_or ts i t) (get_or vs i d)) ++ show_fields (pack (drop k ts)) 44 (values (drop k vs))) (sym (add-one i))

appended : (out : List ℕ) (lead : ℕ) (text rest : List ℕ) → ((out ++ lead ∷ []) ++ text) ++ rest ≡ out ++ ((lead ∷ text) ++ rest)
appended out lead text rest = append_assoc (out ++ lead ∷ []) text rest ∙ append_assoc out (lead ∷ []) (text ++ rest)

-- a field more is written
pub field_written : (ts : List TypeTree) (vs : List Value) (i lead : ℕ) (t : TypeTree) (v : Value) (out pushed written whole : List ℕ) → i < length ts → t ≡ get_or ts i t → slice_get vs i ≡ Some v → HaveValues (pack ts) (values vs) → pushed ≡ out ++ lead ∷ [] → written ≡ pushed ++ show t v → out ++ show_fields (pack (drop i ts)) lead (values (drop i vs)) ≡ whole → written ++ show_fields (pack (drop (i + 1) ts)) 44 (values (drop (i + 1) vs)) ≡ whole
field_written ts vs i lead t v out pushed written whole l it iv have p w so =
    let e = have_length ts vs have in
    let rest = show_fields (pack (drop (i + 1) ts)) 44 (values (drop (i + 1) vs)) in
    ap (λ (x : List ℕ). x ++ rest) (w ∙ ap (λ (x : List ℕ). x ++ show t v) p)
    ∙ appended out lead (show t v) rest
    ∙ ap (λ (x : List ℕ). out ++ ((lead ∷ x) ++ rest)) (ap (λ (x : TypeTree). show x v) it ∙ ap (show (get_or ts i t)) (sym (at_index vs i v v (omega arith) iv)))
    ∙ ap (λ (x : List ℕ). out ++ x) (sym (field_step ts vs i lead t v l e))
    ∙ so
