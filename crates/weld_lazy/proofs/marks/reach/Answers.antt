use Rattle.std.proofs.Common.{◌≡◌, ◌-◌, ◌<◌, ℕ, suc, length, subst, arith}
use Rattle.weld_objects.specs.Reached.{is_one_of, with_used}
use Rattle.weld_lazy.specs.View.{view_object}
use Rattle.weld_lazy.specs.declared.object.Object.{Object}
use Rattle.weld_lazy.specs.Lowering.{marks_of}
use Rattle.weld_lazy.proofs.Marking.{reach_one}
use Rattle.weld_lazy.proofs.marks.reach.Goals as goal

pub loop-id-preserved : goal.loop-id-preserved
loop-id-preserved c =
    let t = c.loop-id-test.true in
    let w = c.loop-id.invariant.within in
    let h : c.loop-id.id - 1 < length c.args.objects.now = omega (arith, t, w) in
    let b : c.loop-id.id ≡ suc (c.loop-id.id - 1) = omega (arith, t) in
    record {
      within = omega (arith, w);
      marked = reach_one c.args.objects.now (c.loop-id.id - 1) c.loop-id.id c.index-objects-id.result (is_one_of c.args.shown.now) (marks_of c.loop-id.marks) (marks_of c.mark_used.new.marks) h b c.loop-id.invariant.marked
          (subst (λ (o : Object). (k : ℕ) → marks_of c.mark_used.new.marks k ≡ with_used (c.loop-id.id - 1) (view_object o) (marks_of c.loop-id.marks) k) c.index-objects-id.is c.in_ok-mark_used.ensures);
    }
