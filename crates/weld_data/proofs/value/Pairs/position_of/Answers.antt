use Rattle.std.proofs.Common.{arith}
use Rattle.weld_data.specs.View.{view_val, view_pair}
use Rattle.weld_data.proofs.Lookups.{IsKeyFor-at, value_of_key-at, less_below, greater_above, value_of_key-between}
use Rattle.weld_data.proofs.value.Pairs.position_of.Goals as goal

pub compare_keys-requires : goal.compare_keys-requires
compare_keys-requires c = IsKeyFor-at c.args.self.now (view_val c.args.key.now) _ _ c.requires c.at.ensures.entry

pub loop-low-preserved-in-Less : goal.loop-low-preserved-in-Less
loop-low-preserved-in-Less c = record {
  ordered = omega arith;
  within = omega arith;
  below = less_below c.args.self.now (view_val c.args.key.now) _ _ c.at.ensures.rises c.at.ensures.entry c.in-Less.ensures;
  above = c.loop-low.invariant.above;
}

pub returns-in-Equal-clause-found : goal.returns-in-Equal-clause-found
returns-in-Equal-clause-found c = (
  view_pair c.at.result.now,
  record {
    entry = c.at.ensures.entry;
    found = value_of_key-at c.args.self.now (view_val c.args.key.now) _ _ c.at.ensures.rises c.at.ensures.entry c.in-Equal.ensures;
  },
)

pub loop-low-preserved : goal.loop-low-preserved
loop-low-preserved c = record {
  ordered = omega arith;
  within = omega arith;
  below = c.loop-low.invariant.below;
  above = greater_above c.args.self.now (view_val c.args.key.now) _ _ c.at.ensures.rises c.at.ensures.entry c.in-Greater.ensures;
}

pub returns-clause-missing : goal.returns-clause-missing
returns-clause-missing c =
    value_of_key-between c.args.self.now (view_val c.args.key.now) c.loop-low.low c.loop-low.invariant.below (λ i e h p. c.loop-low.invariant.above i e (omega arith) p)
