use Rattle.std.proofs.Common.{◌≡◌, sym, ap, subst, ◌∙◌, length}
use Rattle.weld_data.specs.declared.value.Val.{Val}
use Rattle.weld_data.specs.View.{view_val}
use Rattle.weld_values.specs.declared.flaw.Flaw.{Flaw}
use Rattle.weld_values.specs.Grammar.{At}
use Rattle.weld_values.specs.Judging.{IsRead}
use Rattle.weld_values.proofs.Listings.{some_holds}
use Rattle.weld_values.proofs.Wholes.{whole_open, whole_fine, not_empty}
use Rattle.weld_values.proofs.Typed.{read_typed}
use Rattle.std.proofs.lemmas.Bool.{eqb-true}
use Rattle.weld_values.proofs.read.read_value.Goals as goal

pub returns-then-not-is_empty-clause-fault : goal.returns-then-not-is_empty-clause-fault
returns-then-not-is_empty-clause-fault c =
    let read = some_holds (λ (f : Val × Flaw × _). IsRead (At c.args.ty.now) c.args.content.now f.1 (view_val f.0) f.2.now) c.in-Ok-Some.field-0 (c.in-Ok-Some.value, c.in-Ok-Some.flaw, c.in-Ok-Some.rest) c.in-Ok-Some.field-0-is c.in-Ok-Some.ensures.found in
    whole_open c.args.ty.now c.args.content.now c.in-Ok-Some.rest.now c.in-Ok-Some.flaw (view_val c.in-Ok-Some.value) read
    (λ e. not_empty c.after_blanks.result.now (sym c.is_empty.ensures ∙ c.if-not-is_empty.true) (ap length c.after_blanks.ensures.value ∙ e))

pub returns-in-Fine-clause-typed : goal.returns-in-Fine-clause-typed
returns-in-Fine-clause-typed c =
    let read = some_holds (λ (f : Val × Flaw × _). IsRead (At c.args.ty.now) c.args.content.now f.1 (view_val f.0) f.2.now) c.in-Ok-Some.field-0 (c.in-Ok-Some.value, c.in-Ok-Some.flaw, c.in-Ok-Some.rest) c.in-Ok-Some.field-0-is c.in-Ok-Some.ensures.found in
    let fine = subst (λ (f : Flaw). IsRead (At c.args.ty.now) c.args.content.now f (view_val c.in-Ok-Some.value) c.in-Ok-Some.rest.now) c.in-Fine.is read in
    let empty : length c.after_blanks.result.now ≡ 0 = eqb-true _ _ (sym c.is_empty.ensures ∙ c.if-not-is_empty.false) in
    read_typed c.args.content.now c.args.ty.now (view_val c.in-Ok-Some.value) c.requires (whole_fine c.args.ty.now c.args.content.now c.in-Ok-Some.rest.now (view_val c.in-Ok-Some.value) fine (ap length (sym c.after_blanks.ensures.value) ∙ empty))
