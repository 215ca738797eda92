use Rattle.std.proofs.Common.{◌≡◌, ℕ, ◌<◌, pos, length, get_or, Some}
use Rattle.weld_data.specs.Kind.{InRange}
use Rattle.weld_data.specs.Operation.{operation, answer_kind}
use Rattle.weld_eval.specs.Word.{of_word}
use Rattle.weld_blocks.proofs.works.work_all.Given as goal

abbrev pub invariant-loop-place : goal.invariant-loop-place
invariant-loop-place g l =
    let op = g.W.Works.op l.work in
    let kind = g.W.Works.kind l.work in
    record {
      long : length l.items ≡ length l.fn.items;
      each : (j : ℕ) → j < l.place → Some (of_word (answer_kind op kind) (get_or l.items j (pos 0))) ≡ operation op kind (of_word kind (get_or l.left j (pos 0))) (of_word kind (get_or l.right j (pos 0)));
      in_range : (j : ℕ) → j < l.place → InRange (answer_kind op kind) (of_word (answer_kind op kind) (get_or l.items j (pos 0)));
    }
