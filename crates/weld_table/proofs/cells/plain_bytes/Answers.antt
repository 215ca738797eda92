use Rattle.std.proofs.Common.{◌∙◌, ap, ℕ, pos, List, map, arith}
use Rattle.weld_data.specs.declared.kind.Kind.TheVariants as kinds
use Rattle.weld_data.specs.Value.{Value, number, list, values}
use Rattle.weld_table.proofs.Bytes.{plain_are}
use Rattle.weld_table.proofs.cells.plain_bytes.Goals as goal

pub returns : goal.returns
returns c =
    ap (λ (bytes : List ℕ). list (values (map (λ (n : ℕ). number kinds.U8 (pos n)) bytes))) c.in_ok-copy_of.ensures
    ∙ ap (λ (vs : List Value). list (values vs)) (plain_are c.args.field.now (λ i. omega (arith, c.type_inv.field i)))
