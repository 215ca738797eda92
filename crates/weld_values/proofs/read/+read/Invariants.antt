use Rattle.std.proofs.Common.{◌+◌, ◌*◌, length, drop}
use Rattle.weld_tree.specs.TypeTree.{type_nodes, types_nodes, pack}
use Rattle.weld_values.specs.Grammar.{At, AtEntry}
use Rattle.weld_values.specs.Judging.{Gathered, FieldsSoFar, EntriesSoFar}
use Rattle.weld_values.proofs.read.+read.Given as goal

abbrev pub decreases-read_at : goal.decreases-read_at
decreases-read_at l = 8 * type_nodes l.ty.now

abbrev pub decreases-read_into : goal.decreases-read_into
decreases-read_into l = 8 * type_nodes l.ty.now + 1

abbrev pub decreases-read_some : goal.decreases-read_some
decreases-read_some l = 8 * type_nodes l.item.now + 2

abbrev pub decreases-read_nested : goal.decreases-read_nested
decreases-read_nested l = 8 * type_nodes l.item.now + 3

abbrev pub decreases-read_inside : goal.decreases-read_inside
decreases-read_inside l = 8 * type_nodes l.item.now + 4

abbrev pub decreases-read_vec : goal.decreases-read_vec
decreases-read_vec l = 8 * type_nodes l.item.now + 5

abbrev pub decreases-read_struct : goal.decreases-read_struct
decreases-read_struct l = 8 * types_nodes (pack l.fields.now) + 2

abbrev pub invariant-read_some-items : goal.invariant-read_some-items
invariant-read_some-items l = Gathered (At l.item) l.text l.rest l.flaw l.items

abbrev pub decreases-read_some-items : goal.decreases-read_some-items
decreases-read_some-items l = length l.rest

abbrev pub invariant-read_struct-fields : goal.invariant-read_struct-fields
invariant-read_struct-fields l = FieldsSoFar (pack l.ty-items) (pack (drop l.ty-index l.ty-items)) l.lead l.text l.rest l.flaw l.values

abbrev pub decreases-read_entry : goal.decreases-read_entry
decreases-read_entry l = 8 * (type_nodes l.key.now + type_nodes l.value.now) + 2

abbrev pub decreases-read_entries : goal.decreases-read_entries
decreases-read_entries l = 8 * (type_nodes l.key.now + type_nodes l.value.now) + 3

abbrev pub decreases-read_dict : goal.decreases-read_dict
decreases-read_dict l = 8 * (type_nodes l.key.now + type_nodes l.value.now) + 4

abbrev pub invariant-read_entries-entries : goal.invariant-read_entries-entries
invariant-read_entries-entries l = EntriesSoFar l.key (AtEntry (At l.key) (At l.value)) l.text l.rest l.flaw l.entries.items

abbrev pub decreases-read_entries-entries : goal.decreases-read_entries-entries
decreases-read_entries-entries l = length l.rest
