use Rattle.std.proofs.Common.{◌≡◌, ◌∷◌, ℕ, List, suc, OnOk, sym, ◌∙◌, subst}
use Rattle.weld_objects.specs.Numbering.{number_in}
use Rattle.weld_objects.specs.Objects as objects
use Rattle.weld_objects.specs.Lowered.{lets}
use Rattle.weld_lazy.specs.View.{view_object}
use Rattle.weld_lazy.specs.Lowering.{marks_of, chained}
use Rattle.weld_lazy.specs.declared.object.Object.{Object}
use Rattle.weld_lazy.proofs.Numbering.{on_ok_three}
use Rattle.weld_lazy.proofs.Chaining.{call_passed}
use Rattle.weld_lazy.proofs.chain.Chain.pass.Goals as goal

pub returns-then-has-clause-passed : goal.returns-then-has-clause-passed
returns-then-has-clause-passed c =
    subst (λ (o : Object). OnOk c.place_call.result ((shown : List ℕ) (os : List objects.Object)
    → chained c.place_call.new.self.lets (lets (marks_of c.args.marks.now) (suc c.args.id.0) c.place_call.new.self.next (number_in c.place_call.new.self.numbers) shown os)
    ≡ chained c.args.self.now.lets (lets (marks_of c.args.marks.now) c.args.id.0 c.args.self.now.next (number_in c.args.self.now.numbers) shown (view_object o ∷ os)))) (sym c.in-Call.is)
    (on_ok_three _ _ _ _ c.place_call.result
    (λ e f g shown os. call_passed (marks_of c.args.marks.now) c.args.id.0 c.args.self.now.next c.in-Call.field-0 c.in-Call.deps c.in-Call.program shown os (number_in c.args.self.now.numbers) (number_in c.place_call.new.self.numbers) c.args.self.now.lets c.place_call.new.self.lets c.place_call.new.self.next
    (sym c.has.ensures ∙ c.if-has.true) e f g) c.place_call.ensures.lets c.place_call.ensures.next c.place_call.ensures.numbers)
