use Rattle.std.proofs.Common.{◌++◌, ap, ◌∙◌, refl, map, subst, sym, arith}
use Rattle.weld_data.specs.View.{view_val}
use Rattle.weld_data.specs.Structs.{AreKeptStructs, kinds_of}
use Rattle.weld_data.proofs.StructLemmas.{none_kept}
use Rattle.weld_data.proofs.structs.Structs.like.Goals as goal

pub from_numbers-requires : goal.from_numbers-requires
from_numbers-requires c =
    let vs = map view_val c.args.fields.now in
    let ks = c.put_kinds.ensures ∙ ap (λ l. l ++ kinds_of vs) c.in_ok-kinds.ensures.items in
    subst (λ xs. AreKeptStructs 0 c.put_kinds.new.kinds.items xs) (sym c.new.ensures.items)
    (none_kept view_val c.args.fields.now c.put_kinds.new.kinds.items vs refl ks (c.if-not-are_numbers.ensures refl) (omega arith))
