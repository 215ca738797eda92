use Rattle.std.proofs.Common.{◌≡◌, drop, zip}
use Rattle.weld_built.specs.Merges.{merge_all, TakesPairs}
use Rattle.weld_built.specs.Pair.{number_pairs}
use Rattle.weld_built.specs.State.{part_of_state, IsState}
use Rattle.weld_built.proofs.pairs.each_into.Given as goal

abbrev pub invariant-loop-i : goal.invariant-loop-i
invariant-loop-i l =
    (merge_all (part_of_state l.initial.state) (number_pairs l.key_kind l.kind (zip l.keys l.numbers)) ≡ merge_all (part_of_state l.state) (number_pairs l.key_kind l.kind (zip (drop l.i l.keys) (drop l.i l.numbers))))
    × TakesPairs (part_of_state l.state) l.key_kind l.kind
    × IsState l.state
