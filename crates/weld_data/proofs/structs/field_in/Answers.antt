use Rattle.std.proofs.Common.{ap₂, subst, sym, ◌∙◌, pos, Some}
use Rattle.weld_data.specs.Kind.{InRange}
use Rattle.weld_data.specs.Value.{number}
use Rattle.weld_data.specs.declared.kind.Kind.TheVariants as kinds
use Rattle.weld_data.proofs.StructLemmas.{field_bits, field_ranges, field_is}
use Rattle.weld_data.proofs.structs.field_in.Goals as goal

pub number_of-requires : goal.number_of-requires
number_of-requires c =
    let ks = c.args.kinds.now in
    let xs = c.args.numbers.now in
    let r = field_ranges ks xs c.args.field kinds.Bool (pos 0) c.requires c.if-field-kinds.true in
    subst (InRange _) (sym (field_bits ks xs c.args.field kinds.Bool (pos 0) c.requires c.if-field-kinds.true)) r.1

pub returns-then-field-kinds : goal.returns-then-field-kinds
returns-then-field-kinds c =
    let ks = c.args.kinds.now in
    let xs = c.args.numbers.now in
    let bits = c.number_of.ensures.value ∙ field_bits ks xs c.args.field kinds.Bool (pos 0) c.requires c.if-field-kinds.true in
    field_is ks xs c.args.field kinds.Bool (pos 0) c.requires c.if-field-kinds.true
    ∙ ap₂ (λ k x. Some (number k x)) (sym c.number_of.ensures.kind) (sym bits)
