use Rattle.std.proofs.Common.{◌≡◌, ◌+◌, ◌-◌, ◌*◌, ℕ, length, take, drop, map, subst, ◌∙◌, arith}
use Rattle.std.proofs.lemmas.List.{length-take, length-drop}
use Rattle.weld_lanes.specs.Blocks.{AreSame}
use Rattle.weld_lanes.proofs.ConstantLemmas.{same_put}
use Rattle.weld_lanes.proofs.constants.put_same.Goals as goal

pub returns-clause-same : goal.returns-clause-same
returns-clause-same g c =
    let f = g.L.Lane.number in
    let from : ℕ = c.args.place * 512 in
    let long : length (take (from + 512 - from) (drop from c.args.constants.now)) ≡ 512 = simp (length-take, length-drop) (omega (arith, c.requires)) in
    same_put f (f c.args.x) c.args.place c.args.constants.now c.each_same.new.out _ c.requires (c.each_same.auto.out ∙ long)
    (subst (AreSame (f c.args.x) (map f c.each_same.new.out)) long c.each_same.ensures)
