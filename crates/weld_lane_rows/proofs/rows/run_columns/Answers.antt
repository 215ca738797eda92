use Rattle.std.proofs.Common.{rules, ◌≡◌, true, map, ap, ◌∙◌}
use Rattle.weld_eval.specs.FrameView.{env_of}
use Rattle.weld_eval.specs.LegsView.{lists_of}
use Rattle.weld_lane_rows.specs.Outside.{AreOutside}
use Rattle.weld_lane_rows.proofs.Meaning.{rows_merge, if_some, meant, outside_given}
use Rattle.weld_lane_rows.proofs.rows.run_columns.Goals as goal

pub run_pieces-requires-clause-merges : goal.run_pieces-requires-clause-merges
run_pieces-requires-clause-merges g c =
    let k = g.L.Lane.kind in
    let names = c.args.names.now in
    let env = env_of c.args.frame.now in
    let is_same : c.is_same.result ≡ true = search rules in
    let is_apart : c.is_own_apart.result ≡ true = search rules in
    let found = if_some c.in_ok-uniforms.field-0 c.in-Some-2.uniforms (λ us. AreOutside names k c.deref.result.now (map g.L.Lane.number us.items) env) c.in-Some-2.is c.in_ok-uniforms.ensures in
    let outside = outside_given names k c.deref.result.now c.in-Some.made.uniforms.items _ (map g.L.Lane.number c.deref-in-Some-2.result.now) env c.deref.ensures.value (ap (map g.L.Lane.number) c.deref-in-Some-2.ensures.value) found in
    rows_merge g.L.Lane.number k c.in-Some.made.program c.in-Some.made.uniforms.items names c.args.body.now c.args.node.now c.deref-in-Some-2.result.now c.args.columns.now.first.now c.args.columns.now.second.now env (lists_of c.args.legs.now) c.args.to
    (c.is_same.ensures is_same ∙ c.requires.kind) c.requires.named (c.is_own_apart.ensures is_apart) outside c.requires.columns
    (meant c.in_ok-made.field-0 c.in-Some.made names.is_pair names.row.0 names.own.0 c.args.body.now c.in-Some.is c.in_ok-made.ensures.means)
