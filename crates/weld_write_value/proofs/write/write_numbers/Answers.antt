use Rattle.std.proofs.Common.{◌∙◌, ◌<◌, sym, subst, Option, IfSome, length, rules}
use Rattle.weld_data.specs.declared.kind.Kind.TheVariants as kinds
use Rattle.weld_data.specs.Kind.{InRange}
use Rattle.weld_data.specs.Value.{Value}
use Rattle.weld_data.specs.View.{view_column}
use Rattle.weld_data.specs.Order.{IsNumber}
use Rattle.weld_write_value.proofs.Texts.{i8_at, value_is, number_written}
use Rattle.weld_write_value.proofs.write.write_numbers.Goals as goal

pub number_at-number-requires-clause-number : goal.number_at-number-requires-clause-number
number_at-number-requires-clause-number c =
    let within : c.items.i < length (view_column c.args.column.now) = search rules in
    let found = i8_at (view_column c.args.column.now) c.items.i within c.requires in
    subst (λ (o : Option Value). IfSome o IsNumber) (sym found.1) tt

pub byte_of-requires : goal.byte_of-requires
byte_of-requires c =
    let within : c.items.i < length (view_column c.args.column.now) = search rules in
    let found = i8_at (view_column c.args.column.now) c.items.i within c.requires in
    subst (InRange kinds.I8) (value_is kinds.I8 c.number_at-number.result.kind found.0 c.number_at-number.result.value (sym found.1 ∙ c.number_at-number.ensures)) found.2

pub items-preserved : goal.items-preserved
items-preserved c =
    let within : c.items.i < length (view_column c.args.column.now) = search rules in
    number_written (view_column c.args.column.now) c.items.i c.number_at-number.result.kind c.number_at-number.result.value c.byte_of.result c.items.out c.write_byte.new.out _ within c.number_at-number.ensures c.byte_of.ensures c.in_ok-write_byte.ensures c.items.invariant
