use Rattle.std.proofs.Common.{◌≡◌, ◌<◌, ◌≤◌, ◌*◌, ◌∙◌, ◌++◌, rules, get_or, sym, subst, ap, length, arith, map, List, ℕ, pos, Bool}
use Rattle.std.proofs.lemmas.Bool.{both_ways}
use Rattle.std.proofs.lemmas.List.{length-map, get_or-map}
use Rattle.weld_data.specs.declared.kind.Kind.TheVariants as kinds
use Rattle.weld_data.specs.Operation.{truth}
use Rattle.weld_data.specs.Value.{Value, number, list, values, dict, entries}
use Rattle.weld_data.specs.View.{view_val, view_column, view_pair}
use Rattle.weld_tree.specs.TypeTree.{TypeTree, vec, dict as dict_of, pack, type_nodes, types_nodes}
use Rattle.weld_tree.specs.HasValue.{HasValue, HaveValues, AllAre}
use Rattle.weld_write_value.specs.Showing.{IsI8}
use Rattle.weld_write_value.specs.Showing.{shown_elements, shown_entries, show}
use Rattle.weld_write_value.proofs.Texts.{cells_shown, vec_shown, on_ok, all_at, have_length, field_typed, field_written, dict_shown, entry_typed, entry_written, dict_end}
use Rattle.weld_write_value.proofs.write.+write.Goals as goal

pub write_at-returns-in-Vec-List : goal.write_at-returns-in-Vec-List
write_at-returns-in-Vec-List t c =
    let e1 : vec c.deref.result.now ≡ c.args.ty.now = cc in
    let e2 : list (values (view_column c.in-Vec-List.column)) ≡ view_val c.args.value.now = ap view_val (sym c.in-Vec-List.is-1) in
    let whole : shown_elements c.deref.result.now (show c.deref.result.now) (view_column c.in-Vec-List.column) ≡ show c.args.ty.now (view_val c.args.value.now) = vec_shown c.deref.result.now (view_column c.in-Vec-List.column) ∙ ap (λ (x : TypeTree). show x (list (values (view_column c.in-Vec-List.column)))) e1 ∙ ap (show c.args.ty.now) e2 in
    on_ok c.write_column.result c.write_column.ensures (λ p. p ∙ ap (λ (x : List ℕ). c.args.out.now ++ x) whole)

pub write_column-returns-in-Bool : goal.write_column-returns-in-Bool
write_column-returns-in-Bool t c =
    let f = (λ (b : Bool). number kinds.Bool (truth b)) in
    let never : IsI8 c.args.item.now → ⊥ = λ i. both_ways c.is_i8.result c.if-is_i8.false (c.is_i8.ensures.1 i) in
    let view : map f c.as_slice.result.now ≡ view_column c.args.column.now = ap (map f) c.as_slice.ensures ∙ ap view_column (sym c.in-Bool.is) in
    let typed = subst (λ (vs : List Value). AllAre (HasValue c.args.item.now) (values vs)) (sym view) c.requires in
    let same = cells_shown f (λ x. tt) c.args.item.now c.as_slice.result.now never typed in
    on_ok c.write_cells.result c.write_cells.ensures (λ p. p ∙ ap (λ (x : List ℕ). c.args.out.now ++ x) (same ∙ ap (λ (vs : List Value). shown_elements c.args.item.now (show c.args.item.now) vs) view))

pub write_column-returns-in-I8 : goal.write_column-returns-in-I8
write_column-returns-in-I8 t c =
    let f = (number kinds.I8) in
    let never : IsI8 c.args.item.now → ⊥ = λ i. both_ways c.is_i8.result c.if-is_i8.false (c.is_i8.ensures.1 i) in
    let view : map f c.as_slice-in-I8.result.now ≡ view_column c.args.column.now = ap (map f) c.as_slice-in-I8.ensures ∙ ap view_column (sym c.in-I8.is) in
    let typed = subst (λ (vs : List Value). AllAre (HasValue c.args.item.now) (values vs)) (sym view) c.requires in
    let same = cells_shown f (λ x. tt) c.args.item.now c.as_slice-in-I8.result.now never typed in
    on_ok c.write_cells-in-I8.result c.write_cells-in-I8.ensures (λ p. p ∙ ap (λ (x : List ℕ). c.args.out.now ++ x) (same ∙ ap (λ (vs : List Value). shown_elements c.args.item.now (show c.args.item.now) vs) view))

pub write_column-returns-in-I16 : goal.write_column-returns-in-I16
write_column-returns-in-I16 t c =
    let f = (number kinds.I16) in
    let never : IsI8 c.args.item.now → ⊥ = λ i. both_ways c.is_i8.result c.if-is_i8.false (c.is_i8.ensures.1 i) in
    let view : map f c.as_slice-in-I16.result.now ≡ view_column c.args.column.now = ap (map f) c.as_slice-in-I16.ensures ∙ ap view_column (sym c.in-I16.is) in
    let typed = subst (λ (vs : List Value). AllAre (HasValue c.args.item.now) (values vs)) (sym view) c.requires in
    let same = cells_shown f (λ x. tt) c.args.item.now c.as_slice-in-I16.result.now never typed in
    on_ok c.write_cells-in-I16.result c.write_cells-in-I16.ensures (λ p. p ∙ ap (λ (x : List ℕ). c.args.out.now ++ x) (same ∙ ap (λ (vs : List Value). shown_elements c.args.item.now (show c.args.item.now) vs) view))

pub write_column-returns-in-I32 : goal.write_column-returns-in-I32
write_column-returns-in-I32 t c =
    let f = (number kinds.I32) in
    let never : IsI8 c.args.item.now → ⊥ = λ i. both_ways c.is_i8.result c.if-is_i8.false (c.is_i8.ensures.1 i) in
    let view : map f c.as_slice-in-I32.result.now ≡ view_column c.args.column.now = ap (map f) c.as_slice-in-I32.ensures ∙ ap view_column (sym c.in-I32.is) in
    let typed = subst (λ (vs : List Value). AllAre (HasValue c.args.item.now) (values vs)) (sym view) c.requires in
    let same = cells_shown f (λ x. tt) c.args.item.now c.as_slice-in-I32.result.now never typed in
    on_ok c.write_cells-in-I32.result c.write_cells-in-I32.ensures (λ p. p ∙ ap (λ (x : List ℕ). c.args.out.now ++ x) (same ∙ ap (λ (vs : List Value). shown_elements c.args.item.now (show c.args.item.now) vs) view))

pub write_column-returns-in-I64 : goal.write_column-returns-in-I64
write_column-returns-in-I64 t c =
    let f = (number kinds.I64) in
    let never : IsI8 c.args.item.now → ⊥ = λ i. both_ways c.is_i8.result c.if-is_i8.false (c.is_i8.ensures.1 i) in
    let view : map f c.as_slice-in-I64.result.now ≡ view_column c.args.column.now = ap (map f) c.as_slice-in-I64.ensures ∙ ap view_column (sym c.in-I64.is) in
    let typed = subst (λ (vs : List Value). AllAre (HasValue c.args.item.now) (values vs)) (sym view) c.requires in
    let same = cells_shown f (λ x. tt) c.args.item.now c.as_slice-in-I64.result.now never typed in
    on_ok c.write_cells-in-I64.result c.write_cells-in-I64.ensures (λ p. p ∙ ap (λ (x : List ℕ). c.args.out.now ++ x) (same ∙ ap (λ (vs : List Value). shown_elements c.args.item.now (show c.args.item.now) vs) view))

pub write_column-returns-in-U8 : goal.write_column-returns-in-U8
write_column-returns-in-U8 t c =
    let f = (λ (n : ℕ). number kinds.U8 (pos n)) in
    let never : IsI8 c.args.item.now → ⊥ = λ i. both_ways c.is_i8.result c.if-is_i8.false (c.is_i8.ensures.1 i) in
    let view : map f c.as_slice-in-U8.result.now ≡ view_column c.args.column.now = ap (map f) c.as_slice-in-U8.ensures ∙ ap view_column (sym c.in-U8.is) in
    let typed = subst (λ (vs : List Value). AllAre (HasValue c.args.item.now) (values vs)) (sym view) c.requires in
    let same = cells_shown f (λ x. tt) c.args.item.now c.as_slice-in-U8.result.now never typed in
    on_ok c.write_cells-in-U8.result c.write_cells-in-U8.ensures (λ p. p ∙ ap (λ (x : List ℕ). c.args.out.now ++ x) (same ∙ ap (λ (vs : List Value). shown_elements c.args.item.now (show c.args.item.now) vs) view))

pub write_column-returns-in-U16 : goal.write_column-returns-in-U16
write_column-returns-in-U16 t c =
    let f = (λ (n : ℕ). number kinds.U16 (pos n)) in
    let never : IsI8 c.args.item.now → ⊥ = λ i. both_ways c.is_i8.result c.if-is_i8.false (c.is_i8.ensures.1 i) in
    let view : map f c.as_slice-in-U16.result.now ≡ view_column c.args.column.now = ap (map f) c.as_slice-in-U16.ensures ∙ ap view_column (sym c.in-U16.is) in
    let typed = subst (λ (vs : List Value). AllAre (HasValue c.args.item.now) (values vs)) (sym view) c.requires in
    let same = cells_shown f (λ x. tt) c.args.item.now c.as_slice-in-U16.result.now never typed in
    on_ok c.write_cells-in-U16.result c.write_cells-in-U16.ensures (λ p. p ∙ ap (λ (x : List ℕ). c.args.out.now ++ x) (same ∙ ap (λ (vs : List Value). shown_elements c.args.item.now (show c.args.item.now) vs) view))

pub write_column-returns-in-U32 : goal.write_column-returns-in-U32
write_column-returns-in-U32 t c =
    let f = (λ (n : ℕ). number kinds.U32 (pos n)) in
    let never : IsI8 c.args.item.now → ⊥ = λ i. both_ways c.is_i8.result c.if-is_i8.false (c.is_i8.ensures.1 i) in
    let view : map f c.as_slice-in-U32.result.now ≡ view_column c.args.column.now = ap (map f) c.as_slice-in-U32.ensures ∙ ap view_column (sym c.in-U32.is) in
    let typed = subst (λ (vs : List Value). AllAre (HasValue c.args.item.now) (values vs)) (sym view) c.requires in
    let same = cells_shown f (λ x. tt) c.args.item.now c.as_slice-in-U32.result.now never typed in
    on_ok c.write_cells-in-U32.result c.write_cells-in-U32.ensures (λ p. p ∙ ap (λ (x : List ℕ). c.args.out.now ++ x) (same ∙ ap (λ (vs : List Value). shown_elements c.args.item.now (show c.args.item.now) vs) view))

pub write_column-returns-in-U64 : goal.write_column-returns-in-U64
write_column-returns-in-U64 t c =
    let f = (λ (n : ℕ). number kinds.U64 (pos n)) in
    let never : IsI8 c.args.item.now → ⊥ = λ i. both_ways c.is_i8.result c.if-is_i8.false (c.is_i8.ensures.1 i) in
    let view : map f c.as_slice-in-U64.result.now ≡ view_column c.args.column.now = ap (map f) c.as_slice-in-U64.ensures ∙ ap view_column (sym c.in-U64.is) in
    let typed = subst (λ (vs : List Value). AllAre (HasValue c.args.item.now) (values vs)) (sym view) c.requires in
    let same = cells_shown f (λ x. tt) c.args.item.now c.as_slice-in-U64.result.now never typed in
    on_ok c.write_cells-in-U64.result c.write_cells-in-U64.ensures (λ p. p ∙ ap (λ (x : List ℕ). c.args.out.now ++ x) (same ∙ ap (λ (vs : List Value). shown_elements c.args.item.now (show c.args.item.now) vs) view))

pub write_nested-write_at-requires : goal.write_nested-write_at-requires
write_nested-write_at-requires t c =
    let within : c.items.value-index < length c.args.items.now = search rules in
    let falls : 4 * type_nodes c.args.item.now < t = omega (arith, c.decreases) in
    let typed = all_at (HasValue c.args.item.now) (map view_val c.args.items.now) c.items.value-index (view_val c.value-item.result) (omega (arith, length-map c.args.items.now view_val)) c.requires in
    let same : get_or (map view_val c.args.items.now) c.items.value-index (view_val c.value-item.result) ≡ view_val c.value-item.result = get_or-map view_val c.args.items.now c.items.value-index c.value-item.result (view_val c.value-item.result) within ∙ ap view_val (sym c.value-item.is) in
    (falls, subst (HasValue c.args.item.now) same typed)

pub write_struct-at-requires : goal.write_struct-at-requires
write_struct-at-requires t c =
    let e = have_length c.args.fields.now c.args.vals.now c.requires in
    let within : c.fields.i < length c.as_slice-types.result.now = search rules in
    omega (arith, within, e, ap length c.as_slice-types.ensures.value)

pub write_struct-write_at-requires : goal.write_struct-write_at-requires
write_struct-write_at-requires t c =
    let ts = c.as_slice-types.result.now in
    let within : c.fields.i < length c.as_slice-types.result.now = search rules in
    let nodes : type_nodes (get_or c.as_slice-types.result.now c.fields.i c.index-types-i.result) ≤ types_nodes (pack c.args.fields.now) = c.as_slice-types.ensures.parts c.fields.i c.index-types-i.result within in
    let fewer : type_nodes c.index-types-i.result ≤ types_nodes (pack c.args.fields.now) = subst (λ (x : TypeTree). type_nodes x ≤ types_nodes (pack c.args.fields.now)) (sym c.index-types-i.is) nodes in
    let falls : 4 * type_nodes c.index-types-i.result < t = omega (arith, fewer, c.decreases) in
    let have = subst (λ (us : List TypeTree). HaveValues (pack us) (values c.args.vals.now)) (sym c.as_slice-types.ensures.value) c.requires in
    (falls, field_typed ts c.args.vals.now c.fields.i c.index-types-i.result (view_val c.at.result.now) within (have_length ts c.args.vals.now have) c.index-types-i.is c.at.ensures have)

pub write_struct-fields-preserved : goal.write_struct-fields-preserved
write_struct-fields-preserved t c =
    let ts = c.as_slice-types.result.now in
    let within : c.fields.i < length c.as_slice-types.result.now = search rules in
    let have = subst (λ (us : List TypeTree). HaveValues (pack us) (values c.args.vals.now)) (sym c.as_slice-types.ensures.value) c.requires in
    field_written ts c.args.vals.now c.fields.i c.fields.lead c.index-types-i.result (view_val c.at.result.now) c.fields.out c.push.new.self c.write_at.new.out _ within (have_length ts c.args.vals.now have) c.index-types-i.is c.at.ensures c.in_ok-push.ensures.ok c.in_ok-write_at.ensures c.fields.invariant

pub write_at-returns-in-Dict-Dict : goal.write_at-returns-in-Dict-Dict
write_at-returns-in-Dict-Dict t c =
    let k = c.deref-in-Dict-Dict.result.now in
    let u = c.deref-in-Dict-Dict-2.result.now in
    let e1 : dict_of c.deref-in-Dict-Dict.result.now c.deref-in-Dict-Dict-2.result.now ≡ c.args.ty.now = cc in
    let e2 : dict (entries c.in-Dict-Dict.pairs) ≡ view_val c.args.value.now = ap view_val (sym c.in-Dict-Dict.is-1) in
    let whole : shown_entries (show c.deref-in-Dict-Dict.result.now) (show c.deref-in-Dict-Dict-2.result.now) c.in-Dict-Dict.pairs ≡ show c.args.ty.now (view_val c.args.value.now) = dict_shown k u c.in-Dict-Dict.pairs ∙ ap (λ (x : TypeTree). show x (dict (entries c.in-Dict-Dict.pairs))) e1 ∙ ap (show c.args.ty.now) e2 in
    on_ok c.write_dict.result c.write_dict.ensures (λ p. p ∙ ap (λ (x : List ℕ). c.args.out.now ++ x) whole)

pub write_dict-at-pair-requires : goal.write_dict-at-pair-requires
write_dict-at-pair-requires t c = omega (arith, c.len-i-end.ensures, c.entries-test.true)

pub write_dict-write_at-requires : goal.write_dict-write_at-requires
write_dict-write_at-requires t c =
    let falls : 4 * type_nodes c.args.key.now < t = omega (arith, c.decreases) in
    (falls, (entry_typed (HasValue c.args.key.now) (HasValue c.args.value.now) c.args.pairs.now c.entries.i (view_pair c.at-pair.result.now) c.at-pair.ensures.entry c.requires).0)

pub write_dict-write_at-requires-in-entries : goal.write_dict-write_at-requires-in-entries
write_dict-write_at-requires-in-entries t c =
    let falls : 4 * type_nodes c.args.value.now < t = omega (arith, c.decreases) in
    (falls, (entry_typed (HasValue c.args.key.now) (HasValue c.args.value.now) c.args.pairs.now c.entries.i (view_pair c.at-pair.result.now) c.at-pair.ensures.entry c.requires).1)

pub write_dict-entries-preserved : goal.write_dict-entries-preserved
write_dict-entries-preserved t c =
    entry_written (show c.args.key.now) (show c.args.value.now) c.args.pairs.now c.entries.i c.entries.lead (view_pair c.at-pair.result.now) c.entries.out c.push.new.self c.write_at.new.out c.push-in-entries.new.self c.write_at-in-entries.new.out _ c.at-pair.ensures.entry c.in_ok-push.ensures.ok c.in_ok-write_at.ensures c.in_ok-push-2.ensures.ok c.in_ok-write_at-2.ensures c.entries.invariant

pub write_dict-returns : goal.write_dict-returns
write_dict-returns t c =
    on_ok c.push-2.result c.push-2.ensures.ok
    (dict_end (show c.args.key.now) (show c.args.value.now) c.args.pairs.now c.entries.i c.entries.lead c.entries.out c.push_all-2.new.self c.args.out.now c.push-2.new.self (omega (arith, c.len-i-end.ensures, c.entries-test.false)) (sym c.is_empty.ensures ∙ c.if-is_empty.false) c.in_ok-push_all.ensures.ok c.entries.invariant)
