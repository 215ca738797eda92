-- A loop without the second of both legs, as the code makes it.
use Rattle.std.proofs.Common.{◌≡◌, ◌<◌, Bool, true, false, ◌&&◌, Some, is_some, List, length, sym, ap, ◌∙◌}
use borrow.Author.Tests.{ltb-true}
use Rattle.weld_tree.specs.declared.binder.Binder.{Binder}
use Rattle.weld_tree.specs.ExprTree.{At, ExprTree, loop, LegTree, LegTrees, pack_legs}
use Rattle.weld_horizontal.specs.Twice.{Places, twice, once}
use Rattle.weld_horizontal.specs.Doubles.{are_few, is_double, once_by, without_double}
use Rattle.weld_horizontal.proofs.PlaceLemmas.{are_few_is}

second : (a b : Bool) → (a && b) ≡ true → b ≡ true
second true b h = h
second false b h = let wrong : ⊥ = cc in absurd wrong

pub dropped : (d c : ExprTree) (a : At) (ls : LegTrees) (e : ExprTree) (b n x : Binder) (f : ExprTree) (p : Places) → d ≡ once a ls e b n x f p → c ≡ loop a ls e b n x f → Some p ≡ twice ls → d ≡ without_double c
dropped d c a ls e b n x f p q r t = q ∙ ap (once_by a ls e b n x f) t ∙ sym (ap without_double r)

pub few_there : (c : ExprTree) (a : At) (ls : List LegTree) (e : ExprTree) (b n x : Binder) (f : ExprTree) → c ≡ loop a (pack_legs ls) e b n x f → is_double c ≡ true → length ls < 1000000000
few_there c a ls e b n x f r h =
    let few : are_few (pack_legs ls) ≡ true = second (is_some (twice (pack_legs ls))) (are_few (pack_legs ls)) (sym (ap is_double r) ∙ h) in
    ltb-true (length ls) 1000000000 (sym (are_few_is ls) ∙ few)
