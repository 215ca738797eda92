use Rattle.std.proofs.Common.{◌≡◌, ◌≤◌, Some, None, sym, ap, ◌∙◌, arith}
use Rattle.weld_grammar.specs.declared.terminals.class.Class.TheVariants as classes
use Rattle.weld_tokens.specs.Words.{class_of}
use Rattle.weld_tokens.specs.Literals.{number_value, field_value}
use Rattle.weld_tokens.proofs.Numbers.{field-small, no-class}
use Rattle.weld_tokens.proofs.literals.field_of.Goals as goal

pub unreachable-requires : goal.unreachable-requires
unreachable-requires c =
    let small : field_value c.args.word.now ≤ 999999999 = field-small c.args.word.now c.requires in
    let same : field_value c.args.word.now ≡ number_value c.in-Some.digits.now = ap field_value c.in-Some.ensures.cases.0 in
    omega (arith, small, same, c.in-None-number_up_to.ensures.none)

pub unreachable-requires-in-None : goal.unreachable-requires-in-None
unreachable-requires-in-None c =
    let none : class_of c.args.word.now ≡ None = no-class c.args.word.now c.in-None.ensures.cases in
    let is = c.requires in
    let bad : Some classes.Field ≡ None = sym is ∙ none in
    cc
