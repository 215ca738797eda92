use Rattle.std.proofs.Common.{◌≡◌, Some, [], ◌∷◌, take}
use Rattle.weld_grammar.specs.declared.item.Item.TheVariants.{Part as OfRule}
use Rattle.weld_grammar.specs.Pending.{pending}
use Rattle.weld_grammar.specs.Classes.{classes}
use Rattle.weld_accept.specs.declared.entry.Entry.TheVariants.{Due}
use Rattle.weld_accept.specs.Machine.{items_of, Moves}
use Rattle.weld_accept.proofs.derivation.derive.Given as goal

abbrev pub invariant-loop-i : goal.invariant-loop-i
invariant-loop-i l = record {
  pending : pending l.fn.rule (take l.i (classes l.tokens)) ≡ Some (items_of l.stack);
  made : Moves (Due (OfRule l.fn.rule) ∷ []) [] (take l.i (classes l.tokens)) l.stack l.steps;
}
