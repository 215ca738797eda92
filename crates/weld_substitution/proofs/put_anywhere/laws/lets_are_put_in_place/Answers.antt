use Rattle.weld_meaning.proofs.PartsGood.{KeyLaws}
use Rattle.weld_substitution.proofs.PlainRule.{plain_rewrites}
use Rattle.weld_substitution.proofs.UsedRule.{once_rewrites}
use Rattle.weld_substitution.proofs.put_anywhere.laws.lets_are_put_in_place.Goals as goal

pub returns : goal.returns
returns c =
    let laws : KeyLaws = record { total = c.values_are_ordered.ensures.total; alike = c.keys_are_ordered_alike.ensures } in
    record { plain = λ a b v f tidy h. plain_rewrites a b v f tidy h laws; once = once_rewrites laws }
