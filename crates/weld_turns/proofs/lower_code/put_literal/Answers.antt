use Rattle.std.proofs.Common.{w64, to_z, of_z, ap, sym, ◌∙◌}
use Rattle.std.proofs.lemmas.Int.{to_z-of_z}
use Rattle.weld_data.specs.declared.kind.Kind.TheVariants as kinds
use Rattle.weld_data.specs.Value.{number}
use Rattle.weld_turns.proofs.LowerLemmas.{literal_ok}
use Rattle.weld_turns.proofs.lower_code.put_literal.Goals as goal

pub returns-in-Some : goal.returns-in-Some
returns-in-Some c =
    literal_ok c.put_word.result c.args.rest c.args.n c.args.to (to_z w64 (of_z w64 c.in-Some.x))
    (c.in-Some.ensures.number ∙ ap (number kinds.I64) (sym (to_z-of_z w64 c.in-Some.x c.in-Some.ensures.fits))) c.put_word.ensures
