-- The command line as clap is told of it: one word, four options with a value, and one without.
use Rattle.std.specs.Prelude.{◌≡◌, ◌||◌, ◌&&◌, ◌==◌, Bool, true, false, not, Option, Some, None, List, [], ◌∷◌, codes, ℕ}
use Rattle.clap.specs.Walk.{Rule, Row, Text}
use Rattle.clap.specs.Simple.{App, new_app, new_rule, on_top, with_rule}
use Rattle.clap.specs.declared.builder.action.ArgAction.TheVariants.{Set, SetTrue}

abbrev pub word_rule : Rule
word_rule = record (new_rule (codes "command")) { action = Some Set }

abbrev pub value_rule : Text → Rule
value_rule name = record (new_rule name) { long = Some name; action = Some Set }

abbrev pub report_rule : Rule
report_rule = record (new_rule (codes "report")) { long = Some (codes "report"); action = Some SetTrue }

abbrev pub bare_line : App
bare_line = on_top (λ s. record s { no_binary_name = true; disable_help_flag = true }) (new_app (codes "weld"))

abbrev pub line : App
line =
    with_rule (with_rule (with_rule (with_rule (with_rule (with_rule bare_line word_rule)
    (value_rule (codes "workers"))) (value_rule (codes "cut"))) (value_rule (codes "seed"))) (value_rule (codes "rows"))) report_rule

-- a word that clap is asked to read: one that doesn't begin with a hyphen, or two hyphens and more
abbrev pub has_more : List ℕ → Bool
has_more [] = false
has_more (c ∷ cs) = true

abbrev pub is_long_rest : List ℕ → Bool
is_long_rest [] = false
is_long_rest (c ∷ cs) = (c == 45) && has_more cs

abbrev pub may_stand : Text → Bool
may_stand [] = true
may_stand (c ∷ cs) = not (c == 45) || is_long_rest cs
