use Rattle.weld_pieces.proofs.FieldLemmas.{two_popped}
use Rattle.weld_pieces.proofs.fields.two_fields.Goals as goal

pub returns : goal.returns
returns c =
    two_popped c.args.item c.in-Struct.fields c.into_vec-items.result.items c.pop-second.new.self.items c.pop-first.new.self.items c.in-Some.a c.in-Some-second.b
    c.requires c.in-Struct.is c.into_vec-items.ensures c.in-Some-second.ensures.items c.in-Some.ensures.items
