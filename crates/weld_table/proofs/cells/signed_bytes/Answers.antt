use Rattle.std.proofs.Common.{◌∙◌, ap, ℕ, pos, List, map, length, ◌≤◌, arith}
use Rattle.std.proofs.lemmas.List.{take_all}
use Rattle.weld_data.specs.declared.kind.Kind.TheVariants as kinds
use Rattle.weld_data.specs.Wrapped.{wrapped}
use Rattle.weld_data.specs.Value.{Value, list, values}
use Rattle.weld_table.proofs.Bytes.{signed_are}
use Rattle.weld_table.proofs.cells.signed_bytes.Goals as goal

pub returns : goal.returns
returns c =
    let end : length c.args.field.now ≤ c.loop-byte.byte-index = omega (arith, c.loop-byte-test.false) in
    ap (λ (vs : List Value). list (values vs))
    (signed_are c.args.field.now c.loop-byte.items
    (c.loop-byte.invariant ∙ ap (map (λ (b : ℕ). wrapped kinds.I8 (pos b))) (take_all c.loop-byte.byte-index c.args.field.now end)))
