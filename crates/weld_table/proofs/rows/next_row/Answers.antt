use Rattle.csv.specs.Records.{fields_of}
use Rattle.weld_table.proofs.Left.{takes, fewer}
use Rattle.weld_table.proofs.rows.next_row.Goals as goal

pub returns-clause-taken : goal.returns-clause-taken
returns-clause-taken c = λ rows l.
    takes c.in-Ok.found c.args.reader.now c.read_byte_record.new.self (fields_of c.read_byte_record.new.row) rows l (c.in-Ok.ensures.reads l.trim l.ready)
    (c.in-Ok.ensures.ready l.trim)

pub returns-clause-less : goal.returns-clause-less
returns-clause-less c = λ found rows l.
    fewer c.in-Ok.found c.args.reader.now c.read_byte_record.new.self (fields_of c.read_byte_record.new.row) rows l (c.in-Ok.ensures.reads l.trim l.ready)
    (c.in-Ok.ensures.ready l.trim) found
