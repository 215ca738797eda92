use Rattle.std.proofs.Common.{◌∙◌, ap, sym}
use Rattle.weld_tree.specs.declared.known.Known.{Known}
use Rattle.weld_substitution.specs.Redex.{is_known_value}
use Rattle.weld_types.proofs.CodeTests.{free_bool}
use Rattle.weld_inline.proofs.redex.is_known_value.Goals as goal

pub returns-in-Is : goal.returns-in-Is
returns-in-Is c = free_bool c.is_builder_free.result c.in-Is.ty c.is_builder_free.ensures ∙ ap (λ (k : Known). is_known_value k) (sym c.in-Is.is)
