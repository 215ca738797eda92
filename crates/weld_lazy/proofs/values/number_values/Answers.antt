use Rattle.std.proofs.Common.{◌≡◌, ◌+◌, ◌≤◌, ◌∷◌, ℕ, List, sym, suc, length, map, subst, arith, refl}
use Rattle.weld_objects.specs.Numbering.{number_in}
use Rattle.weld_objects.specs.Objects as objects
use Rattle.weld_lazy.specs.View.{view_object}
use Rattle.weld_lazy.specs.Lowering.{marks_of, numbered}
use Rattle.weld_lazy.specs.declared.object.Object.{Object}
use Rattle.weld_lazy.proofs.Numbering.{values_start, values_next}
use Rattle.weld_lazy.proofs.values.number_values.Goals as goal

pub loop-id-init : goal.loop-id-init
loop-id-init c =
    let e = c.new-3.ensures in
    record {
      count = subst (λ (xs : List ℕ). length xs ≤ 0) (sym e) (omega arith);
      left = values_start (marks_of c.args.marks.now) (map view_object c.args.objects.now) c.new.result c.new-2.result c.new-3.result c.new.ensures c.new-2.ensures c.new-3.ensures;
    }

pub loop-id-preserved : goal.loop-id-preserved
loop-id-preserved c =
    let n = c.loop-id.invariant.count in
    let m = c.in_ok-pass.ensures.count in
    record {
      count = omega (arith, n, m);
      left = values_next (marks_of c.args.marks.now) c.args.objects.now c.loop-id.id (c.loop-id.id + 1) c.index-objects-id.result _ (number_in c.loop-id.values.numbers) (number_in c.pass.new.self.numbers) c.loop-id.values.params c.pass.new.self.params c.loop-id.values.inputs c.pass.new.self.inputs
          c.loop-id-test.true refl c.loop-id.invariant.left
          (subst (λ (o : Object). (os : List objects.Object) → numbered (marks_of c.args.marks.now) c.loop-id.id (view_object o ∷ os) (number_in c.loop-id.values.numbers) c.loop-id.values.params c.loop-id.values.inputs
          ≡ numbered (marks_of c.args.marks.now) (suc c.loop-id.id) os (number_in c.pass.new.self.numbers) c.pass.new.self.params c.pass.new.self.inputs) c.index-objects-id.is c.in_ok-pass.ensures.passed);
    }
