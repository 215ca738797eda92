use Rattle.std.proofs.Common.{◌≡◌, ◌∙◌, Err, map, string_bytes, Global}
use Rattle.clap.specs.Words.{app_of}
use Rattle.clap.specs.Values.{kind_of}
use Rattle.clap.specs.declared.error.kind.ErrorKind.TheVariants as kind
use Rattle.weld_words.specs.declared.options.WordsFault.TheVariants.{Memory, Form}
use Rattle.weld_words.proofs.Refusals.{all_may, ok_finds, err_refuses}
use Rattle.weld_words.proofs.command_line.find_in.Goals as goal

pub returns-in-Ok-try_get_matches_from-clause-ok :
    goal.returns-in-Ok-try_get_matches_from-clause-ok
returns-in-Ok-try_get_matches_from-clause-ok c =
    ok_finds (app_of c.in-Ok.command) (map (string_bytes {Z = Global}) c.args.words.now) c.in-Ok-try_get_matches_from.matches c.in-Ok.ensures
    (all_may (string_bytes {Z = Global}) c.args.words.now c.requires)
    c.in-Ok-try_get_matches_from.ensures.kinds c.in-Ok-try_get_matches_from.ensures.matches

pub returns-in-Err-try_get_matches_from-clause-form :
    goal.returns-in-Err-try_get_matches_from-clause-form
returns-in-Err-try_get_matches_from-clause-form c = λ e.
    err_refuses (app_of c.in-Ok.command) (map (string_bytes {Z = Global}) c.args.words.now) c.in-Err-try_get_matches_from.error c.in-Ok.ensures
    c.in-Err-try_get_matches_from.ensures.kinds
    (λ h. let m : c.fault_of.result ≡ Memory = c.fault_of.ensures (c.kind.ensures ∙ h) in cc)
