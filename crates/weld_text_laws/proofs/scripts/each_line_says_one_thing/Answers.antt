use Rattle.weld_text_laws.proofs.Sayings.{saying_one, saying_some}
use Rattle.weld_text_laws.proofs.scripts.each_line_says_one_thing.Goals as goal

pub returns-clause-one : goal.returns-clause-one
returns-clause-one c = λ line a b h k.
    saying_one
    (record { one_tree = c.one_tree_of_tokens.ensures; unbroken = c.one_break.ensures.derived; derived_or_broken = c.derived_or_broken.ensures })
    (record { tokens = c.one_reading.ensures.tokens; not_both = c.one_reading.ensures.not_both; some = c.some_reading.ensures }) line a b h k

pub returns-clause-some : goal.returns-clause-some
returns-clause-some c = λ line.
    saying_some
    (record { one_tree = c.one_tree_of_tokens.ensures; unbroken = c.one_break.ensures.derived; derived_or_broken = c.derived_or_broken.ensures })
    (record { tokens = c.one_reading.ensures.tokens; not_both = c.one_reading.ensures.not_both; some = c.some_reading.ensures }) line
