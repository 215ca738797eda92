use Rattle.std.proofs.Common.{◌≡◌, ◌∙◌, true, rules, ap, ap₂, codes}
use Rattle.clap.specs.Words.{App, app_of, rule_of, with_rule}
use Rattle.clap.specs.Simple.{app_of_fields, on_top}
use Rattle.weld_words.specs.Line.{bare_line, word_rule, value_rule, report_rule}
use Rattle.weld_words.proofs.command_line.command_line.Goals as goal

pub returns : goal.returns
returns c =
    let workers_is : rule_of c.value_option.result ≡ value_rule (codes "workers") = search (rules, c.value_option.ensures.rule) in
    let cut_is : rule_of c.value_option-2.result ≡ value_rule (codes "cut") = search (rules, c.value_option-2.ensures.rule) in
    let seed_is : rule_of c.value_option-3.result ≡ value_rule (codes "seed") = search (rules, c.value_option-3.ensures.rule) in
    let rows_is : rule_of c.value_option-4.result ≡ value_rule (codes "rows") = search (rules, c.value_option-4.ensures.rule) in
    let bare_is : app_of c.disable_help_flag.result ≡ bare_line =
    ap app_of_fields c.disable_help_flag.ensures ∙ (ap (λ f. on_top (λ s. record s { disable_help_flag = true }) (app_of_fields f)) c.no_binary_name.ensures
    ∙ ap (on_top (λ s. record s { no_binary_name = true; disable_help_flag = true })) c.new.ensures.app) in
    c.in_ok-command.ensures.shape c.report_option.ensures.global
    ∙ ap₂ with_rule (c.in_ok-arg-5.ensures.shape c.value_option-4.ensures.global
    ∙ ap₂ with_rule (c.in_ok-arg-4.ensures.shape c.value_option-3.ensures.global
    ∙ ap₂ with_rule (c.in_ok-arg-3.ensures.shape c.value_option-2.ensures.global
    ∙ ap₂ with_rule (c.in_ok-arg-2.ensures.shape c.value_option.ensures.global
    ∙ ap₂ with_rule (c.in_ok-arg.ensures.shape c.word_argument.ensures.global
    ∙ ap₂ with_rule bare_is c.word_argument.ensures.rule) workers_is) cut_is) seed_is) rows_is) c.report_option.ensures.rule
