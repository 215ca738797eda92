use Rattle.std.proofs.Common.{◌≡◌, true, false, ap}
use Rattle.weld_turns.specs.CodeView.{filled, turn_value, value}
use Rattle.weld_turns.specs.Lowering.{either_then, ended_at, filled_then, put_then, rest_value, settled}
use Rattle.weld_turns.proofs.Following.{either_filling, ok_as, put_filling, test_choice, test_contrary, then_filling, turn_either, turn_end, turn_first}
use Rattle.weld_turns.proofs.LowerLemmas.{put_ok}
use Rattle.weld_turns.proofs.lower.+lower.Goals as goal

pub lower_filling-returns-in-Put-clause-lowered : goal.lower_filling-returns-in-Put-clause-lowered
lower_filling-returns-in-Put-clause-lowered t c =
    let h1 = c.put-whole.ensures in
    let e : rest_value c.put-whole.result ≡ put_then c.in-Put.to c.in-Put.code (rest_value c.args.rest.now) = cc in
    ok_as c.args.shape c.lower.result (rest_value c.put-whole.result) (filled_then c.args.filling.now (rest_value c.args.rest.now)) (put_filling c.args.filling.now c.in-Put.to c.in-Put.code (rest_value c.args.rest.now) (rest_value c.put-whole.result) (λ f. ap (λ x. filled x f) c.in-Put.is) e) c.lower.ensures.lowered

pub lower_filling-returns-in-Then-clause-lowered : goal.lower_filling-returns-in-Then-clause-lowered
lower_filling-returns-in-Then-clause-lowered t c =
    let h1 = c.fill-whole.ensures in
    let h2 = c.fill-after.ensures in
    let h3 = c.deref.ensures in
    let h4 = c.deref-in-Then.ensures in
    let e : rest_value c.fill-whole.result ≡ filled_then c.in-Then.x.value (filled_then c.in-Then.y.value (rest_value c.args.rest.now)) = cc in
    ok_as c.args.shape c.lower-in-Then.result (rest_value c.fill-whole.result) (filled_then c.args.filling.now (rest_value c.args.rest.now)) (then_filling c.args.filling.now c.in-Then.x.value c.in-Then.y.value (rest_value c.args.rest.now) (rest_value c.fill-whole.result) (λ f. ap (λ x. filled x f) c.in-Then.is) e) c.lower-in-Then.ensures.lowered

pub lower_filling-returns-in-Either-clause-lowered : goal.lower_filling-returns-in-Either-clause-lowered
lower_filling-returns-in-Either-clause-lowered t c =
    let h1 = c.either-whole.ensures in
    let h2 = c.fill-yes.ensures in
    let h3 = c.fill-no.ensures in
    let h4 = c.deref-in-Either.ensures in
    let h5 = c.deref-in-Either-2.ensures in
    let e : rest_value c.either-whole.result ≡ either_then c.in-Either.test (filled_then c.in-Either.x.value (rest_value c.args.rest.now)) (filled_then c.in-Either.y.value (rest_value c.args.rest.now)) = cc in
    ok_as c.args.shape c.lower-in-Either.result (rest_value c.either-whole.result) (filled_then c.args.filling.now (rest_value c.args.rest.now)) (either_filling c.args.filling.now c.in-Either.test c.in-Either.x.value c.in-Either.y.value (rest_value c.args.rest.now) (rest_value c.either-whole.result) (λ f. ap (λ x. filled x f) c.in-Either.is) e) c.lower-in-Either.ensures.lowered

pub lower_test-returns-in-Contrary-clause-lowered : goal.lower_test-returns-in-Contrary-clause-lowered
lower_test-returns-in-Contrary-clause-lowered t c =
    let h1 = c.either-whole.ensures in
    let h2 = c.deref.ensures in
    let e : rest_value c.either-whole.result ≡ either_then c.in-Contrary.test.value (rest_value c.args.y.now) (rest_value c.args.x.now) = cc in
    ok_as c.args.shape c.lower.result (rest_value c.either-whole.result) (either_then c.args.test.now (rest_value c.args.x.now) (rest_value c.args.y.now)) (test_contrary c.args.test.now c.in-Contrary.test.value (rest_value c.args.x.now) (rest_value c.args.y.now) (rest_value c.either-whole.result) (λ f. ap (λ x. value x f) c.in-Contrary.is) e) c.lower.ensures.lowered

pub lower_test-returns-in-Choice-clause-lowered : goal.lower_test-returns-in-Choice-clause-lowered
lower_test-returns-in-Choice-clause-lowered t c =
    let h1 = c.either-whole-in-Choice.ensures in
    let h2 = c.either-yes.ensures in
    let h3 = c.either-no.ensures in
    let h4 = c.deref-in-Choice.ensures in
    let h5 = c.deref-in-Choice-2.ensures in
    let h6 = c.deref-in-Choice-3.ensures in
    let e : rest_value c.either-whole-in-Choice.result ≡ either_then c.in-Choice.test.value (either_then c.in-Choice.first.value (rest_value c.args.x.now) (rest_value c.args.y.now)) (either_then c.in-Choice.second.value (rest_value c.args.x.now) (rest_value c.args.y.now)) = cc in
    ok_as c.args.shape c.lower-in-Choice.result (rest_value c.either-whole-in-Choice.result) (either_then c.args.test.now (rest_value c.args.x.now) (rest_value c.args.y.now)) (test_choice c.args.test.now c.in-Choice.test.value c.in-Choice.first.value c.in-Choice.second.value (rest_value c.args.x.now) (rest_value c.args.y.now) (rest_value c.either-whole-in-Choice.result) (λ f. ap (λ x. value x f) c.in-Choice.is) e) c.lower-in-Choice.ensures.lowered

pub lower_turn-returns-in-First-clause-lowered : goal.lower_turn-returns-in-First-clause-lowered
lower_turn-returns-in-First-clause-lowered t c =
    let h1 = c.fill-whole.ensures in
    let h2 = c.of_turn-after.ensures in
    let h3 = c.deref.ensures in
    let e : rest_value c.fill-whole.result ≡ filled_then c.in-First.filling (settled c.in-First.rest.value) = cc in
    ok_as c.args.shape c.lower.result (rest_value c.fill-whole.result) (settled c.args.turn.now) (turn_first c.args.turn.now c.in-First.filling c.in-First.rest.value (rest_value c.fill-whole.result) (λ shape f. ap (λ x. turn_value x shape f) c.in-First.is) e) c.lower.ensures.lowered

pub lower_turn-returns-in-Either-clause-lowered : goal.lower_turn-returns-in-Either-clause-lowered
lower_turn-returns-in-Either-clause-lowered t c =
    let h1 = c.either-whole.ensures in
    let h2 = c.of_turn-yes.ensures in
    let h3 = c.of_turn-no.ensures in
    let h4 = c.deref-in-Either.ensures in
    let h5 = c.deref-in-Either-2.ensures in
    let e : rest_value c.either-whole.result ≡ either_then c.in-Either.test (settled c.in-Either.x.value) (settled c.in-Either.y.value) = cc in
    ok_as c.args.shape c.lower-in-Either.result (rest_value c.either-whole.result) (settled c.args.turn.now) (turn_either c.args.turn.now c.in-Either.test c.in-Either.x.value c.in-Either.y.value (rest_value c.either-whole.result) (λ shape f. ap (λ x. turn_value x shape f) c.in-Either.is) e) c.lower-in-Either.ensures.lowered

pub lower_turn-returns-in-End-clause-lowered : goal.lower_turn-returns-in-End-clause-lowered
lower_turn-returns-in-End-clause-lowered t c =
    let h1 = c.either-whole-in-End.ensures in
    let h2 = c.end-yes.ensures in
    let h3 = c.end-no.ensures in
    let e : rest_value c.either-whole-in-End.result ≡ either_then c.in-End.test (ended_at c.in-End.first true) (ended_at c.in-End.first false) = cc in
    ok_as c.args.shape c.lower-in-End.result (rest_value c.either-whole-in-End.result) (settled c.args.turn.now) (turn_end c.args.turn.now c.in-End.test c.in-End.first (rest_value c.either-whole-in-End.result) (λ shape f. ap (λ x. turn_value x shape f) c.in-End.is) e) c.lower-in-End.ensures.lowered

pub lower_put-returns-in-Ok-clause-lowered : goal.lower_put-returns-in-Ok-clause-lowered
lower_put-returns-in-Ok-clause-lowered t c = put_ok c.args.shape c.put_code.result c.in-Ok.after c.args.code.now c.args.to (rest_value c.args.rest.now) c.in-Ok.ensures.lowered c.put_code.ensures
