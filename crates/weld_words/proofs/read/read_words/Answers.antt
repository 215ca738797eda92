use Rattle.std.proofs.Common.{◌≡◌, ◌∙◌, true, ap, subst, Err, List, map, string_bytes, Global, Option, codes}
use Rattle.weld_words.specs.declared.options.WordsFault.{WordsFault}
use Rattle.weld_words.specs.declared.options.WordsFault.TheVariants.{Form}
use Rattle.weld_words.specs.Words.{Text}
use Rattle.weld_words.specs.Found.{Names, Asks}
use Rattle.weld_words.proofs.Forms.{form_stands, unformed, missed, all_formed}
use Rattle.weld_words.proofs.Refusals.{may_all}
use Rattle.weld_words.proofs.read.read_words.Goals as goal

pub returns-then-not-all_stand-clause-form : goal.returns-then-not-all_stand-clause-form
returns-then-not-all_stand-clause-form c = λ e o f.
    let stand : c.all_stand.result ≡ true = c.all_stand.ensures ∙ may_all (string_bytes {Z = Global}) c.args.words.now (form_stands (map (string_bytes {Z = Global}) c.args.words.now) o f) in cc

pub returns-in-Err-clause-form : goal.returns-in-Err-clause-form
returns-in-Err-clause-form c = λ e. let is : c.in-Err.fault ≡ Form = cc in c.in-Err.ensures.form (ap (λ (x : WordsFault). Err x) is)

pub returns-in-Some-clause-ok : goal.returns-in-Some-clause-ok
returns-in-Some-clause-ok c =
    all_formed (map (string_bytes {Z = Global}) c.args.words.now) c.in-Ok.matches c.in-Some.options
    c.command_of-command.result c.number_of-workers.result c.number_of-cut.result c.number_of-seed.result c.number_of-rows.result c.get_flag-report.result
    c.in-Ok.ensures.ok c.in-Some.ensures
    (subst (λ (t : Option Text). Names t c.command_of-command.result) c.get_str.ensures c.command_of-command.ensures)
    (subst (λ (t : Option Text). Asks 1 64 4 t c.number_of-workers.result) c.get_str-2.ensures c.number_of-workers.ensures)
    (subst (λ (t : Option Text). Asks 1 2147483647 4096 t c.number_of-cut.result) c.get_str-3.ensures c.number_of-cut.ensures)
    (subst (λ (t : Option Text). Asks 0 2147483647 1 t c.number_of-seed.result) c.get_str-4.ensures c.number_of-seed.ensures)
    (subst (λ (t : Option Text). Asks 0 1000000 1000 t c.number_of-rows.result) c.get_str-5.ensures c.number_of-rows.ensures)
    c.get_flag-report.ensures.value c.get_flag-report.ensures.other

pub returns-clause-form : goal.returns-clause-form
returns-clause-form c = λ e.
    unformed (map (string_bytes {Z = Global}) c.args.words.now) c.in-Ok.matches c.in-Ok.ensures.ok
    (missed c.in-Ok.matches c.command_of-command.result c.number_of-workers.result c.number_of-cut.result c.number_of-seed.result c.number_of-rows.result c.get_flag-report.result c.in-None.ensures
    (subst (λ (t : Option Text). Names t c.command_of-command.result) c.get_str.ensures c.command_of-command.ensures)
    (subst (λ (t : Option Text). Asks 1 64 4 t c.number_of-workers.result) c.get_str-2.ensures c.number_of-workers.ensures)
    (subst (λ (t : Option Text). Asks 1 2147483647 4096 t c.number_of-cut.result) c.get_str-3.ensures c.number_of-cut.ensures)
    (subst (λ (t : Option Text). Asks 0 2147483647 1 t c.number_of-seed.result) c.get_str-4.ensures c.number_of-seed.ensures)
    (subst (λ (t : Option Text). Asks 0 1000000 1000 t c.number_of-rows.result) c.get_str-5.ensures c.number_of-rows.ensures))
