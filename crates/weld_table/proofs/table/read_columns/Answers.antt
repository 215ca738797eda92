use Rattle.std.proofs.Common.{◌∙◌, sym, subst, ap, ℕ, drop, length}
use Rattle.csv.specs.Records.{fields_of}
use Rattle.weld_table.specs.Table.{rows_of, columns_of}
use Rattle.weld_table.specs.Cells.{AreNew, IsUneven, RowsRead}
use Rattle.weld_table.proofs.Finishing.{no_record, no_column, chosen_none, chosen_some, now_read, is_uneven, lent_back}
use Rattle.weld_table.proofs.table.read_columns.Goals as goal

pub returns-then-not-branch-clause-fault : goal.returns-then-not-branch-clause-fault
returns-then-not-branch-clause-fault c =
    let none = rw c.if-not-branch.true at (c.in_ok-next_row.ensures.taken (rows_of c.args.content.now) c.rows-reader.ensures) in
    no_record c.args.content.now c.args.wanted.now none

pub returns-in_default-chosen-clause-fault : goal.returns-in_default-chosen-clause-fault
returns-in_default-chosen-clause-fault c =
    let header = fields_of c.next_row.new.row in
    let taken = rw c.if-not-branch.false at (c.in_ok-next_row.ensures.taken (rows_of c.args.content.now) c.rows-reader.ensures) in
    let chosen = rw c.in_default-chosen.is at c.in-Ok.ensures in
    no_column c.args.content.now c.args.wanted.now header taken.0 taken.1 (chosen_none (length header) (columns_of c.args.wanted.now header) chosen)

pub read_rows-requires-clause-there : goal.read_rows-requires-clause-there
read_rows-requires-clause-there c =
    let taken = rw c.if-not-branch.false at (c.in_ok-next_row.ensures.taken (rows_of c.args.content.now) c.rows-reader.ensures) in
    (taken.0, taken.2)

pub returns-in-Ok-read_rows-clause-read : goal.returns-in-Ok-read_rows-clause-read
returns-in-Ok-read_rows-clause-read c =
    let header = fields_of c.next_row.new.row in
    let taken = rw c.if-not-branch.false at (c.in_ok-next_row.ensures.taken (rows_of c.args.content.now) c.rows-reader.ensures) in
    let chosen = rw c.in-Some.is at c.in-Ok.ensures in
    let (cs, found, fresh) = chosen_some (length header) (columns_of c.args.wanted.now header) c.in-Some.columns.items chosen in
    let first = c.deref_mut.result.now in
    let new : AreNew (length header) cs first = subst (AreNew (length header) cs) (sym c.deref_mut.ensures.value) fresh in
    let read : RowsRead (length header) taken.0 first c.read_rows.new.columns =
    subst (λ (w : ℕ). RowsRead w taken.0 first c.read_rows.new.columns) c.len.ensures (c.in-Ok-read_rows.ensures.read taken.0 taken.2) in
    lent_back c.args.content.now c.args.wanted.now c.in-Some.columns.len taken.0 first c.read_rows.new.columns
    (drop (length c.read_rows.new.columns) c.in-Some.columns.items)
    (ap length c.deref_mut.ensures.value ∙ sym c.in-Some.columns.ok.0) read.1
    (now_read c.args.content.now c.args.wanted.now header taken.0 cs first c.read_rows.new.columns taken.1 found new read)

pub returns-clause-fault : goal.returns-clause-fault
returns-clause-fault c =
    let header = fields_of c.next_row.new.row in
    let taken = rw c.if-not-branch.false at (c.in_ok-next_row.ensures.taken (rows_of c.args.content.now) c.rows-reader.ensures) in
    let chosen = rw c.in-Some.is at c.in-Ok.ensures in
    let (cs, found, fresh) = chosen_some (length header) (columns_of c.args.wanted.now header) c.in-Some.columns.items chosen in
    is_uneven c.args.content.now c.args.wanted.now header taken.0 cs c.in-Err.fault taken.1 found
    (subst (λ (w : ℕ). IsUneven w taken.0 c.in-Err.fault) c.len.ensures (c.in-Err.ensures.fault taken.0 taken.2))
