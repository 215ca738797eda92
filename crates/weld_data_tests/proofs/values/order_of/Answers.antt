use Rattle.weld_data.specs.declared.kind.Kind.TheVariants as kinds
use Rattle.weld_data.proofs.Keys.{AreNumbers-map}
use Rattle.weld_data_tests.proofs.values.order_of.Goals as goal

pub compare_keys-requires : goal.compare_keys-requires
compare_keys-requires c =
    (kinds.I8, rw c.in_ok-a.ensures (AreNumbers-map kinds.I8 (λ x. x) c.args.a.now), rw c.in_ok-b.ensures (AreNumbers-map kinds.I8 (λ x. x) c.args.b.now))
