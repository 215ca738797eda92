use Rattle.std.proofs.Common.{ℕ, ◌-◌, ◌<◌, ◌≡◌, Some, subst, length, slice_get, rules}
use Rattle.weld_data.specs.View.{view_val, view_pair}
use Rattle.weld_sorted.proofs.Sorting.{last_stands}
use Rattle.weld_sorted.proofs.sorted.last_stands.Goals as goal

pub returns : goal.returns
returns c =
    let some : 0 < length c.args.pairs.now = search rules in
    last_stands c.args.pairs.now (view_val c.args.key.now) (view_pair c.at.result.now) c.compare_keys.result some
    (subst (λ (n : ℕ). slice_get c.args.pairs.now (n - 1) ≡ Some (view_pair c.at.result.now)) c.len-count.ensures c.at.ensures.entry) c.at.ensures.rises c.compare_keys.ensures
