use Rattle.std.proofs.Common.{ap, int_cmp, nat_cmp, pos, ℕ, Bool}
use Rattle.std.specs.Ordering.{bool_cmp}
use Rattle.weld_data.specs.declared.kind.Kind.TheVariants as kinds
use Rattle.weld_data.specs.Operation.{truth}
use Rattle.weld_data.specs.Value.{number}
use Rattle.weld_data.specs.View.{view_column}
use Rattle.weld_sorted.proofs.Comparing.{arrays_cmp, ints_order, nats_order, bools_order}
use Rattle.weld_sorted.proofs.compare.compare_columns.Goals as goal

pub returns-in-Bool-Bool : goal.returns-in-Bool-Bool
returns-in-Bool-Bool c =
    arrays_cmp bool_cmp (λ (b : Bool). number kinds.Bool (truth b)) bools_order c.in-Bool-Bool.x c.in-Bool-Bool.y _ _ _ _ _ c.cmp.ensures c.as_slice.ensures c.as_slice-in-Bool-Bool.ensures (ap view_column c.in-Bool-Bool.is-0) (ap view_column c.in-Bool-Bool.is-1)

pub returns-in-I8-I8 : goal.returns-in-I8-I8
returns-in-I8-I8 c =
    arrays_cmp int_cmp (number kinds.I8) (ints_order kinds.I8) c.in-I8-I8.x c.in-I8-I8.y _ _ _ _ _ c.cmp-in-I8-I8.ensures c.as_slice-in-I8-I8.ensures c.as_slice-in-I8-I8-2.ensures (ap view_column c.in-I8-I8.is-0) (ap view_column c.in-I8-I8.is-1)

pub returns-in-I16-I16 : goal.returns-in-I16-I16
returns-in-I16-I16 c =
    arrays_cmp int_cmp (number kinds.I16) (ints_order kinds.I16) c.in-I16-I16.x c.in-I16-I16.y _ _ _ _ _ c.cmp-in-I16-I16.ensures c.as_slice-in-I16-I16.ensures c.as_slice-in-I16-I16-2.ensures (ap view_column c.in-I16-I16.is-0) (ap view_column c.in-I16-I16.is-1)

pub returns-in-I32-I32 : goal.returns-in-I32-I32
returns-in-I32-I32 c =
    arrays_cmp int_cmp (number kinds.I32) (ints_order kinds.I32) c.in-I32-I32.x c.in-I32-I32.y _ _ _ _ _ c.cmp-in-I32-I32.ensures c.as_slice-in-I32-I32.ensures c.as_slice-in-I32-I32-2.ensures (ap view_column c.in-I32-I32.is-0) (ap view_column c.in-I32-I32.is-1)

pub returns-in-I64-I64 : goal.returns-in-I64-I64
returns-in-I64-I64 c =
    arrays_cmp int_cmp (number kinds.I64) (ints_order kinds.I64) c.in-I64-I64.x c.in-I64-I64.y _ _ _ _ _ c.cmp-in-I64-I64.ensures c.as_slice-in-I64-I64.ensures c.as_slice-in-I64-I64-2.ensures (ap view_column c.in-I64-I64.is-0) (ap view_column c.in-I64-I64.is-1)

pub returns-in-U8-U8 : goal.returns-in-U8-U8
returns-in-U8-U8 c =
    arrays_cmp nat_cmp (λ (n : ℕ). number kinds.U8 (pos n)) (nats_order kinds.U8) c.in-U8-U8.x c.in-U8-U8.y _ _ _ _ _ c.cmp-in-U8-U8.ensures c.as_slice-in-U8-U8.ensures c.as_slice-in-U8-U8-2.ensures (ap view_column c.in-U8-U8.is-0) (ap view_column c.in-U8-U8.is-1)

pub returns-in-U16-U16 : goal.returns-in-U16-U16
returns-in-U16-U16 c =
    arrays_cmp nat_cmp (λ (n : ℕ). number kinds.U16 (pos n)) (nats_order kinds.U16) c.in-U16-U16.x c.in-U16-U16.y _ _ _ _ _ c.cmp-in-U16-U16.ensures c.as_slice-in-U16-U16.ensures c.as_slice-in-U16-U16-2.ensures (ap view_column c.in-U16-U16.is-0) (ap view_column c.in-U16-U16.is-1)

pub returns-in-U32-U32 : goal.returns-in-U32-U32
returns-in-U32-U32 c =
    arrays_cmp nat_cmp (λ (n : ℕ). number kinds.U32 (pos n)) (nats_order kinds.U32) c.in-U32-U32.x c.in-U32-U32.y _ _ _ _ _ c.cmp-in-U32-U32.ensures c.as_slice-in-U32-U32.ensures c.as_slice-in-U32-U32-2.ensures (ap view_column c.in-U32-U32.is-0) (ap view_column c.in-U32-U32.is-1)

pub returns-in-U64-U64 : goal.returns-in-U64-U64
returns-in-U64-U64 c =
    arrays_cmp nat_cmp (λ (n : ℕ). number kinds.U64 (pos n)) (nats_order kinds.U64) c.in-U64-U64.x c.in-U64-U64.y _ _ _ _ _ c.cmp-in-U64-U64.ensures c.as_slice-in-U64-U64.ensures c.as_slice-in-U64-U64-2.ensures (ap view_column c.in-U64-U64.is-0) (ap view_column c.in-U64-U64.is-1)
