use Rattle.std.proofs.Common.{◌≡◌, ◌<◌, ◌≤◌, ◌+◌, ◌*◌, ◌∙◌, rules, drop, get_or, sym, subst, ap, length, arith, List, ℕ, IfNone}
use Rattle.weld_data.specs.Value.{Value, values, struct as struct_value}
use Rattle.weld_tree.specs.TypeTree.{TypeTree, TypeTrees, vec, struct, dict as dict_of, no_types, more_types, pack, type_nodes, types_nodes}
use Rattle.weld_values.specs.declared.flaw.Flaw.{Flaw}
use Rattle.weld_values.specs.Grammar.{At, AtString, AtStruct, AtEntry, Fields}
use Rattle.weld_values.specs.Judging.{Gathered, AreListed, IsRead, IsReadInto, IsUnread, AreUnread, FieldsSoFar, IsReadable, AreReadable, AreJudged, worse, IsEntryRead, EntriesRead}
use Rattle.weld_data.specs.declared.value.Val.{Val}
use Rattle.weld_data.specs.View.{view_val}
use Rattle.weld_values.proofs.KeyTypes.{one_key_type, key_plain, key_readable}
use Rattle.weld_values.proofs.EntryListings.{entries_more, entries_stuck, entries_open, no_colon, no_value, entry_read, entry_key}
use Rattle.weld_values.proofs.Listings.{into_more, into_last, unclosed, some_holds, none_holds}
use Rattle.weld_values.proofs.Integers.{none_then}
use Rattle.std.proofs.lemmas.Result.{IfOk-weaker}
use Rattle.std.proofs.lemmas.List.{drop_all}
use Rattle.weld_values.proofs.Soles.{at_sole, entry_sole}
use Rattle.weld_values.proofs.Shrinks.{at_shrinks, entry_shrinks}
use Rattle.weld_values.proofs.Structs.{left_is, readable_at, fields_more, fields_end, fields_stuck, fields_unread, fields_open}
use Rattle.weld_values.proofs.Vectors.{list_unread, string_unread}
use Rattle.weld_values.proofs.read.+read.Goals as goal

pub read_some-items-smaller : goal.read_some-items-smaller
read_some-items-smaller t c =
    let read = some_holds (λ (f : Flaw × _). IsReadInto (At c.args.item.now) c.items.rest.now f.0 c.items.items c.read_into.new.items f.1.now) c.in_ok-here.field-0 (c.in-Some.here, c.in-Some.after) c.in-Some.is c.in_ok-here.ensures.found in
    let after = at_shrinks c.args.item.now read.read.raw c.items.rest.now c.in-Some.after.now read.read.at in
    let less : length c.in-Some-byte_at.more.now < length c.items.rest.now = omega (arith, after, c.in-Some-byte_at.ensures.less) in
    less

pub read_some-items-preserved : goal.read_some-items-preserved
read_some-items-preserved t c =
    let R = At c.args.item.now in
    let read = some_holds (λ (f : Flaw × _). IsReadInto R c.items.rest.now f.0 c.items.items c.read_into.new.items f.1.now) c.in_ok-here.field-0 (c.in-Some.here, c.in-Some.after) c.in-Some.is c.in_ok-here.ensures.found in
    subst (λ (f : Flaw). Gathered R c.args.text.now c.in-Some-byte_at.more.now f c.read_into.new.items) (sym c.and-flaw.ensures)
    (into_more R (at_sole c.args.item.now) c.args.text.now c.items.rest.now c.in-Some.after.now c.in-Some-byte_at.more.now c.items.flaw c.in-Some.here c.items.items c.read_into.new.items c.items.invariant read (sym c.in-Some-byte_at.ensures.value))

pub read_some-returns-in_default-byte_at-2-clause-none : goal.read_some-returns-in_default-byte_at-2-clause-none
read_some-returns-in_default-byte_at-2-clause-none t c =
    let R = At c.args.item.now in
    let read = some_holds (λ (f : Flaw × _). IsReadInto R c.items.rest.now f.0 c.items.items c.read_into.new.items f.1.now) c.in_ok-here.field-0 (c.in-Some.here, c.in-Some.after) c.in-Some.is c.in_ok-here.ensures.found in
    unclosed R (at_sole c.args.item.now) c.args.text.now c.items.rest.now c.in-Some.after.now c.items.flaw c.items.items read.read.raw c.items.invariant read.read.at (sym c.in_default-byte_at.ensures.value) (sym c.in_default-byte_at-2.ensures.value)

pub read_some-returns-in_default-byte_at-clause-found : goal.read_some-returns-in_default-byte_at-clause-found
read_some-returns-in_default-byte_at-clause-found t c =
    let R = At c.args.item.now in
    let read = some_holds (λ (f : Flaw × _). IsReadInto R c.items.rest.now f.0 c.items.items c.read_into.new.items f.1.now) c.in_ok-here.field-0 (c.in-Some.here, c.in-Some.after) c.in-Some.is c.in_ok-here.ensures.found in
    subst (λ (f : Flaw). AreListed R c.args.text.now f c.read_into.new.items c.in-Some-byte_at-2.end.now) (sym c.and-flaw.ensures)
    (into_last R c.args.text.now c.items.rest.now c.in-Some.after.now c.in-Some-byte_at-2.end.now c.items.flaw c.in-Some.here c.items.items c.read_into.new.items c.items.invariant read (sym c.in-Some-byte_at-2.ensures.value))

pub read_struct-read_into-requires : goal.read_struct-read_into-requires
read_struct-read_into-requires t c =
    let within : c.fields.ty-index < length c.as_slice-ty-items.result.now = search rules in
    let nodes : type_nodes (get_or c.as_slice-ty-items.result.now c.fields.ty-index c.ty-item.result) ≤ types_nodes (pack c.args.fields.now) = c.as_slice-ty-items.ensures.parts c.fields.ty-index c.ty-item.result within in
    let fewer : type_nodes c.ty-item.result ≤ types_nodes (pack c.args.fields.now) = subst (λ (x : TypeTree). type_nodes x ≤ types_nodes (pack c.args.fields.now)) (sym c.ty-item.is) nodes in
    let plain : IsReadable c.ty-item.result = subst (λ (x : TypeTree). IsReadable x) (sym c.ty-item.is) (readable_at c.as_slice-ty-items.result.now c.fields.ty-index c.ty-item.result within (subst (λ (ts : List TypeTree). AreReadable (pack ts)) (sym c.as_slice-ty-items.ensures.value) c.requires)) in
    let falls : 8 * type_nodes c.ty-item.result + 1 < t = omega (arith, fewer, c.decreases) in
    (falls, plain)

left_now : (ts : List TypeTree) (i : ℕ) (t : TypeTree) (lead : ℕ) (text rest : List ℕ) (f : Flaw) (vs : List Value) → i < length ts → t ≡ get_or ts i t → FieldsSoFar (pack ts) (pack (drop i ts)) lead text rest f vs → FieldsSoFar (pack ts) (more_types t (pack (drop (i + 1) ts))) lead text rest f vs
left_now ts i t lead text rest f vs h e s = subst (λ (x : TypeTrees). FieldsSoFar (pack ts) x lead text rest f vs) (left_is ts i t h ∙ ap (λ (x : TypeTree). more_types x (pack (drop (i + 1) ts))) (sym e)) s

pub read_struct-fields-preserved : goal.read_struct-fields-preserved
read_struct-fields-preserved t c =
    let ts = c.as_slice-ty-items.result.now in
    let within : c.fields.ty-index < length c.as_slice-ty-items.result.now = search rules in
    let read = some_holds (λ (f : Flaw × _). IsReadInto (At c.ty-item.result) c.in-Some.start.now f.0 c.fields.values c.read_into.new.items f.1.now) c.in_ok-here.field-0 (c.in-Some-2.here, c.in-Some-2.after) c.in-Some-2.is c.in_ok-here.ensures.found in
    subst (λ (f : Flaw). FieldsSoFar (pack ts) (pack (drop (c.fields.ty-index + 1) ts)) 44 c.args.text.now c.in-Some-2.after.now f c.read_into.new.items) (sym c.and-flaw.ensures)
    (fields_more (pack ts) c.ty-item.result (pack (drop (c.fields.ty-index + 1) ts)) c.fields.lead c.args.text.now c.fields.rest.now c.in-Some.start.now c.in-Some-2.after.now c.fields.flaw c.in-Some-2.here c.fields.values c.read_into.new.items
    (left_now ts c.fields.ty-index c.ty-item.result c.fields.lead c.args.text.now c.fields.rest.now c.fields.flaw c.fields.values within c.ty-item.is c.fields.invariant) (sym c.in-Some.ensures.value) read)

pub read_at-returns-in-Vec-clause-none : goal.read_at-returns-in-Vec-clause-none
read_at-returns-in-Vec-clause-none t c =
    let e : vec c.deref.result.now ≡ c.args.ty.now = cc in
    IfOk-weaker c.read_vec.result (λ found. IfNone found (IsUnread (At (vec c.deref.result.now)) c.args.text.now)) (λ found. IfNone found (IsUnread (At c.args.ty.now) c.args.text.now))
    (λ o h. none_then o h (λ u. subst (λ (x : TypeTree). IsUnread (At x) c.args.text.now) e u)) c.read_vec.ensures.none

pub read_at-returns-in-Struct-clause-none : goal.read_at-returns-in-Struct-clause-none
read_at-returns-in-Struct-clause-none t c =
    let e : struct (pack c.in-Struct.fields) ≡ c.args.ty.now = cc in
    IfOk-weaker c.read_struct.result (λ found. IfNone found (IsUnread (AtStruct (Fields (pack c.in-Struct.fields) 123)) c.args.text.now)) (λ found. IfNone found (IsUnread (At c.args.ty.now) c.args.text.now))
    (λ o h. none_then o h (λ u. subst (λ (x : TypeTree). IsUnread (At x) c.args.text.now) e u)) c.read_struct.ensures.none

pub read_struct-returns-in_default-clause-none : goal.read_struct-returns-in_default-clause-none
read_struct-returns-in_default-clause-none t c =
    let ts = c.as_slice-ty-items.result.now in
    let within : c.fields.ty-index < length c.as_slice-ty-items.result.now = search rules in
    let unread = fields_stuck (pack ts) c.ty-item.result (pack (drop (c.fields.ty-index + 1) ts)) c.fields.lead c.args.text.now c.fields.rest.now c.fields.flaw c.fields.values
    (left_now ts c.fields.ty-index c.ty-item.result c.fields.lead c.args.text.now c.fields.rest.now c.fields.flaw c.fields.values within c.ty-item.is c.fields.invariant) (sym c.in_default.ensures.value) in
    subst (λ (x : List TypeTree). IsUnread (AtStruct (Fields (pack x) 123)) c.args.text.now) c.as_slice-ty-items.ensures.value unread

pub read_struct-returns-in_default-2-clause-none : goal.read_struct-returns-in_default-2-clause-none
read_struct-returns-in_default-2-clause-none t c =
    let ts = c.as_slice-ty-items.result.now in
    let within : c.fields.ty-index < length c.as_slice-ty-items.result.now = search rules in
    let none = none_holds (IsUnread (At c.ty-item.result) c.in-Some.start.now) c.in_ok-here.field-0 c.in_default-2.is c.in_ok-here.ensures.none in
    let unread = fields_unread (pack ts) c.ty-item.result (pack (drop (c.fields.ty-index + 1) ts)) c.fields.lead c.args.text.now c.fields.rest.now c.in-Some.start.now c.fields.flaw c.fields.values
    (left_now ts c.fields.ty-index c.ty-item.result c.fields.lead c.args.text.now c.fields.rest.now c.fields.flaw c.fields.values within c.ty-item.is c.fields.invariant) (sym c.in-Some.ensures.value) none in
    subst (λ (x : List TypeTree). IsUnread (AtStruct (Fields (pack x) 123)) c.args.text.now) c.as_slice-ty-items.ensures.value unread

over_now : (ts : List TypeTree) (i lead : ℕ) (text rest : List ℕ) (f : Flaw) (vs : List Value) → length ts ≤ i → FieldsSoFar (pack ts) (pack (drop i ts)) lead text rest f vs → FieldsSoFar (pack ts) no_types lead text rest f vs
over_now ts i lead text rest f vs h s = subst (λ (x : List TypeTree). FieldsSoFar (pack ts) (pack x) lead text rest f vs) (drop_all i ts h) s

pub read_struct-returns-in_default-byte_at-clause-none : goal.read_struct-returns-in_default-byte_at-clause-none
read_struct-returns-in_default-byte_at-clause-none t c =
    let ts = c.as_slice-ty-items.result.now in
    let over : length c.as_slice-ty-items.result.now ≤ c.fields.ty-index = search rules in
    let unread = fields_open (pack ts) c.fields.lead c.args.text.now c.fields.rest.now c.fields.flaw c.fields.values (over_now ts c.fields.ty-index c.fields.lead c.args.text.now c.fields.rest.now c.fields.flaw c.fields.values over c.fields.invariant) (sym c.in_default-byte_at.ensures.value) in
    subst (λ (x : List TypeTree). IsUnread (AtStruct (Fields (pack x) 123)) c.args.text.now) c.as_slice-ty-items.ensures.value unread

pub read_struct-returns-clause-found : goal.read_struct-returns-clause-found
read_struct-returns-clause-found t c =
    let ts = c.as_slice-ty-items.result.now in
    let over : length c.as_slice-ty-items.result.now ≤ c.fields.ty-index = search rules in
    let read = fields_end (pack ts) c.fields.lead c.args.text.now c.fields.rest.now c.in-Some-byte_at.end.now c.fields.flaw c.fields.values (over_now ts c.fields.ty-index c.fields.lead c.args.text.now c.fields.rest.now c.fields.flaw c.fields.values over c.fields.invariant) (sym c.in-Some-byte_at.ensures.value) in
    subst (λ (x : List TypeTree). IsRead (AtStruct (Fields (pack x) 123)) c.args.text.now c.fields.flaw (struct_value (values c.fields.values)) c.in-Some-byte_at.end.now) c.as_slice-ty-items.ensures.value read

pub read_vec-returns-then-is_i8-clause-none : goal.read_vec-returns-then-is_i8-clause-none
read_vec-returns-then-is_i8-clause-none t c =
    IfOk-weaker c.read_string.result (λ found. IfNone found (IsUnread AtString c.args.text.now)) (λ found. IfNone found (IsUnread (At (vec c.args.item.now)) c.args.text.now))
    (λ o h. none_then o h (string_unread c.args.item.now c.args.text.now (sym c.in_default.ensures.value))) c.read_string.ensures.none

pub read_vec-returns-in-None-clause-none : goal.read_vec-returns-in-None-clause-none
read_vec-returns-in-None-clause-none t c = list_unread c.args.item.now c.args.text.now c.in-Some.inner.now (sym c.in-Some.ensures.value) (none_holds (AreUnread (At c.args.item.now) c.in-Some.inner.now) c.in_ok-column.field-0 c.in-None.is c.in_ok-column.ensures.none)

-- ---- dictionaries

pub read_at-returns-in-Dict-clause-none : goal.read_at-returns-in-Dict-clause-none
read_at-returns-in-Dict-clause-none t c =
    let e : dict_of c.deref-in-Dict.result.now c.deref-in-Dict-2.result.now ≡ c.args.ty.now = cc in
    IfOk-weaker c.read_dict.result (λ found. IfNone found (IsUnread (At (dict_of c.deref-in-Dict.result.now c.deref-in-Dict-2.result.now)) c.args.text.now)) (λ found. IfNone found (IsUnread (At c.args.ty.now) c.args.text.now))
    (λ o h. none_then o h (λ u. subst (λ (x : TypeTree). IsUnread (At x) c.args.text.now) e u)) c.read_dict.ensures.none

pub read_dict-settled-requires : goal.read_dict-settled-requires
read_dict-settled-requires t c = λ e.
    let r = some_holds (λ (f : _ × Flaw × _). EntriesRead c.args.key.now (AtEntry (At c.args.key.now) (At c.args.value.now)) c.in-Some-byte_at.inner.now f.1 f.0.items f.2.now) c.in_ok-read.field-0 (c.in-Some-2.read, c.in-Some-2.flaw, c.in-Some-2.rest) c.in-Some-2.is c.in_ok-read.ensures.found in
    one_key_type c.args.key.now c.requires.key c.in-Some-2.read.items (subst (λ (f : Flaw). AreJudged c.args.key.now f r.raws c.in-Some-2.read.items) e r.judged).2

pub read_entries-returns-in_default-2-clause-none : goal.read_entries-returns-in_default-2-clause-none
read_entries-returns-in_default-2-clause-none t c =
    let R = AtEntry (At c.args.key.now) (At c.args.value.now) in
    let none = none_holds (IsUnread R c.entries.rest.now) c.in_ok-so_far.field-0 c.in_default-2.is c.in_ok-so_far.ensures.none in
    entries_stuck c.args.key.now R c.args.text.now c.entries.rest.now c.entries.flaw c.entries.entries.items (sym c.in_default.ensures.value) c.entries.invariant none

pub read_entries-returns-in_default-byte_at-2-clause-none : goal.read_entries-returns-in_default-byte_at-2-clause-none
read_entries-returns-in_default-byte_at-2-clause-none t c =
    let R = AtEntry (At c.args.key.now) (At c.args.value.now) in
    let read = some_holds (λ (f : Flaw × _). IsEntryRead c.args.key.now R c.entries.rest.now c.entries.flaw f.0 c.entries.entries.items c.read_entry.new.entries.items f.1.now) c.in_ok-so_far.field-0 (c.in-Some-2.so_far, c.in-Some-2.after) c.in-Some-2.is c.in_ok-so_far.ensures.found in
    entries_open c.args.key.now R (entry_sole (At c.args.key.now) (At c.args.value.now) (at_sole c.args.key.now) (at_sole c.args.value.now)) c.args.text.now c.entries.rest.now c.in-Some-2.after.now c.entries.flaw c.in-Some-2.so_far c.entries.entries.items c.read_entry.new.entries.items (sym c.in_default.ensures.value) c.entries.invariant read (sym c.in_default-byte_at.ensures.value) (sym c.in_default-byte_at-2.ensures.value)

pub read_entries-entries-smaller : goal.read_entries-entries-smaller
read_entries-entries-smaller t c =
    let R = AtEntry (At c.args.key.now) (At c.args.value.now) in
    let read = some_holds (λ (f : Flaw × _). IsEntryRead c.args.key.now R c.entries.rest.now c.entries.flaw f.0 c.entries.entries.items c.read_entry.new.entries.items f.1.now) c.in_ok-so_far.field-0 (c.in-Some-2.so_far, c.in-Some-2.after) c.in-Some-2.is c.in_ok-so_far.ensures.found in
    let after = entry_shrinks (At c.args.key.now) (At c.args.value.now) (at_shrinks c.args.key.now) (at_shrinks c.args.value.now) read.raw c.entries.rest.now c.in-Some-2.after.now read.at in
    let less : length c.in-Some-byte_at.more.now < length c.entries.rest.now = omega (arith, after, c.in-Some-byte_at.ensures.less) in
    less

pub read_entries-entries-preserved : goal.read_entries-entries-preserved
read_entries-entries-preserved t c =
    let R = AtEntry (At c.args.key.now) (At c.args.value.now) in
    let read = some_holds (λ (f : Flaw × _). IsEntryRead c.args.key.now R c.entries.rest.now c.entries.flaw f.0 c.entries.entries.items c.read_entry.new.entries.items f.1.now) c.in_ok-so_far.field-0 (c.in-Some-2.so_far, c.in-Some-2.after) c.in-Some-2.is c.in_ok-so_far.ensures.found in
    entries_more c.args.key.now R (entry_sole (At c.args.key.now) (At c.args.value.now) (at_sole c.args.key.now) (at_sole c.args.value.now)) c.args.text.now c.entries.rest.now c.in-Some-2.after.now c.in-Some-byte_at.more.now c.entries.flaw c.in-Some-2.so_far c.entries.entries.items c.read_entry.new.entries.items c.entries.invariant read (sym c.in-Some-byte_at.ensures.value)

pub read_entry-read_at-requires : goal.read_entry-read_at-requires
read_entry-read_at-requires t c =
    let falls : 8 * type_nodes c.args.key.now < t = omega (arith, c.decreases) in
    (falls, key_readable c.args.key.now c.requires.key)

pub read_entry-returns-in_default-byte_at-clause-none : goal.read_entry-returns-in_default-byte_at-clause-none
read_entry-returns-in_default-byte_at-clause-none t c =
    let key = some_holds (λ (f : Val × Flaw × _). IsRead (At c.args.key.now) c.args.text.now f.1 (view_val f.0) f.2.now) c.in_ok-first.field-0 (c.in-Some.first, c.in-Some.key_flaw, c.in-Some.mid) c.in-Some.is c.in_ok-first.ensures.found in
    no_colon (At c.args.key.now) (At c.args.value.now) (at_sole c.args.key.now) c.args.text.now c.in-Some.mid.now key.raw key.at (sym c.in_default-byte_at.ensures.value)

pub read_entry-returns-in_default-2-clause-none : goal.read_entry-returns-in_default-2-clause-none
read_entry-returns-in_default-2-clause-none t c =
    let key = some_holds (λ (f : Val × Flaw × _). IsRead (At c.args.key.now) c.args.text.now f.1 (view_val f.0) f.2.now) c.in_ok-first.field-0 (c.in-Some.first, c.in-Some.key_flaw, c.in-Some.mid) c.in-Some.is c.in_ok-first.ensures.found in
    let none = none_holds (IsUnread (At c.args.value.now) c.in-Some-byte_at.start.now) c.in_ok-second.field-0 c.in_default-2.is c.in_ok-second.ensures.none in
    no_value (At c.args.key.now) (At c.args.value.now) (at_sole c.args.key.now) c.args.text.now c.in-Some.mid.now c.in-Some-byte_at.start.now key.raw key.at (sym c.in-Some-byte_at.ensures.value) none

pub read_entry-push_entry-requires : goal.read_entry-push_entry-requires
read_entry-push_entry-requires t c =
    let key = some_holds (λ (f : Val × Flaw × _). IsRead (At c.args.key.now) c.args.text.now f.1 (view_val f.0) f.2.now) c.in_ok-first.field-0 (c.in-Some.first, c.in-Some.key_flaw, c.in-Some.mid) c.in-Some.is c.in_ok-first.ensures.found in
    entry_key c.args.key.now c.requires.key (key_plain c.args.key.now c.requires.key) c.args.text.now c.in-Some.mid.now c.args.before c.in-Some.key_flaw c.in-Some-2.value_flaw c.and-flaw.result (view_val c.in-Some.first) key (c.and-flaw.ensures ∙ ap (λ (f : Flaw). worse f c.in-Some-2.value_flaw) c.and-with_key.ensures)

pub read_entry-returns-clause-found : goal.read_entry-returns-clause-found
read_entry-returns-clause-found t c =
    let key = some_holds (λ (f : Val × Flaw × _). IsRead (At c.args.key.now) c.args.text.now f.1 (view_val f.0) f.2.now) c.in_ok-first.field-0 (c.in-Some.first, c.in-Some.key_flaw, c.in-Some.mid) c.in-Some.is c.in_ok-first.ensures.found in
    let value = some_holds (λ (f : Val × Flaw × _). IsRead (At c.args.value.now) c.in-Some-byte_at.start.now f.1 (view_val f.0) f.2.now) c.in_ok-second.field-0 (c.in-Some-2.second, c.in-Some-2.value_flaw, c.in-Some-2.rest) c.in-Some-2.is c.in_ok-second.ensures.found in
    entry_read c.args.key.now (key_plain c.args.key.now c.requires.key) (At c.args.value.now) c.args.text.now c.in-Some.mid.now c.in-Some-byte_at.start.now c.in-Some-2.rest.now c.args.before c.in-Some.key_flaw c.in-Some-2.value_flaw c.and-flaw.result _ _ (view_val c.in-Some.first) (view_val c.in-Some-2.second) key (sym c.in-Some-byte_at.ensures.value) value (c.and-flaw.ensures ∙ ap (λ (f : Flaw). worse f c.in-Some-2.value_flaw) c.and-with_key.ensures) c.in_ok-push_entry.ensures
