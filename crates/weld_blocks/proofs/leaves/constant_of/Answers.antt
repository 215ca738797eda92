use Rattle.std.proofs.Common.{◌≡◌, w64, of_z, to_z, replicate, sym, ◌∙◌, ap}
use Rattle.std.proofs.lemmas.Int.{to_z-of_z}
use Rattle.weld_blocks.proofs.WorkLemmas.{one_in_range}
use Rattle.weld_blocks.proofs.leaves.constant_of.Goals as goal

pub invariant_of-result : goal.invariant_of-result
invariant_of-result c =
    let x = c.args.x in
    let bits : to_z w64 (of_z w64 x) ≡ x = to_z-of_z w64 x c.ranges.x in
    record {
      in_range = one_in_range c.args.kind x c.in-Ok.items.items c.args.count c.requires (c.in-Ok.ensures.items_if_clones_equal (λ y e. e) ∙ ap (replicate c.args.count) bits) (sym c.in-Ok.items.ok.0 ∙ c.in-Ok.ensures.len);
    }
