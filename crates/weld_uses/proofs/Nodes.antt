-- Of a node its place counts alone.
use Rattle.std.proofs.Common.{Result, Ok, Err}
use Rattle.weld_tree.specs.declared.place.Place.{Place}
use Rattle.weld_tree.specs.declared.binder.Binder.{Binder}
use Rattle.weld_tree.specs.declared.refusal.Refusal.{Refusal}
use Rattle.weld_tree.specs.ExprTree.{At, ExprTree, leaf, one, two, three, many, let_in, loop, iterate, ExprTrees, LegTrees, Leaf, One, Two, Three, if_else, select, slice, Many}
use Rattle.weld_meaning.specs.Environment.{Named}
use Rattle.weld_meaning.specs.Origin.{Origin}
use Rattle.weld_meaning.specs.LinearWalk.{Left}
use Rattle.weld_uses.specs.Walks.{at, somewhere, Walks}

pub leaf_at : (r : Result Origin Refusal) (a : At) (k : Leaf) (g : Named Origin) (l after : Left) → Walks r (leaf (at a.place) k) g l after → Walks r (leaf a k) g l after
leaf_at (Ok o) a k g l after w = record { none = w.none; from = w.from; rest = w.rest }
leaf_at (Err r) a k g l after w = record { fails = w.fails }

pub one_at : (r : Result Origin Refusal) (a : At) (k : One) (e : ExprTree) (g : Named Origin) (l after : Left) → Walks r (one (at a.place) k e) g l after → Walks r (one a k e) g l after
one_at (Ok o) a k e g l after w = record { none = w.none; from = w.from; rest = w.rest }
one_at (Err r) a k e g l after w = record { fails = w.fails }

pub two_at : (r : Result Origin Refusal) (a : At) (k : Two) (e f : ExprTree) (g : Named Origin) (l after : Left) → Walks r (two (at a.place) k e f) g l after → Walks r (two a k e f) g l after
two_at (Ok o) a k e f g l after w = record { none = w.none; from = w.from; rest = w.rest }
two_at (Err r) a k e f g l after w = record { fails = w.fails }

pub three_at : (r : Result Origin Refusal) (k : Three) (a : At) (c e f : ExprTree) (g : Named Origin) (l after : Left)
    → Walks r (three (at a.place) k c e f) g l after → Walks r (three a k c e f) g l after
three_at (Ok o) if_else a c e f g l after w = record { none = w.none; from = w.from; rest = w.rest }
three_at (Ok o) select a c e f g l after w = record { none = w.none; from = w.from; rest = w.rest }
three_at (Ok o) slice a c e f g l after w = record { none = w.none; from = w.from; rest = w.rest }
three_at (Err r) if_else a c e f g l after w = record { fails = w.fails }
three_at (Err r) select a c e f g l after w = record { fails = w.fails }
three_at (Err r) slice a c e f g l after w = record { fails = w.fails }

-- a `select` and a `slice` evaluate their parts alike
pub select_at : (r : Result Origin Refusal) (p : Place) (c e f : ExprTree) (g : Named Origin) (l after : Left)
    → Walks r (three (at somewhere) select c e f) g l after → Walks r (three (at p) select c e f) g l after
select_at (Ok o) p c e f g l after w = record { none = w.none; from = w.from; rest = w.rest }
select_at (Err r) p c e f g l after w = record { fails = w.fails }

pub slice_at : (r : Result Origin Refusal) (p : Place) (c e f : ExprTree) (g : Named Origin) (l after : Left)
    → Walks r (three (at somewhere) select c e f) g l after → Walks r (three (at p) slice c e f) g l after
slice_at (Ok o) p c e f g l after w = record { none = w.none; from = w.from; rest = w.rest }
slice_at (Err r) p c e f g l after w = record { fails = w.fails }

pub many_at : (r : Result Origin Refusal) (a : At) (k : Many) (es : ExprTrees) (g : Named Origin) (l after : Left) → Walks r (many (at somewhere) k es) g l after → Walks r (many a k es) g l after
many_at (Ok o) a k es g l after w = record { none = w.none; from = w.from; rest = w.rest }
many_at (Err r) a k es g l after w = record { fails = w.fails }

pub let_at : (r : Result Origin Refusal) (a : At) (b : Binder) (e f : ExprTree) (g : Named Origin) (l after : Left) → Walks r (let_in (at somewhere) b e f) g l after → Walks r (let_in a b e f) g l after
let_at (Ok o) a b e f g l after w = record { none = w.none; from = w.from; rest = w.rest }
let_at (Err r) a b e f g l after w = record { fails = w.fails }

pub loop_at : (r : Result Origin Refusal) (a : At) (ls : LegTrees) (b n x : Binder) (e f : ExprTree) (g : Named Origin) (l after : Left)
    → Walks r (loop (at a.place) ls e b n x f) g l after → Walks r (loop a ls e b n x f) g l after
loop_at (Ok o) a ls b n x e f g l after w = record { none = w.none; from = w.from; rest = w.rest }
loop_at (Err r) a ls b n x e f g l after w = record { fails = w.fails }

pub iterate_at : (r : Result Origin Refusal) (a : At) (b : Binder) (e f : ExprTree) (g : Named Origin) (l after : Left) → Walks r (iterate (at somewhere) e b f) g l after → Walks r (iterate a e b f) g l after
iterate_at (Ok o) a b e f g l after w = record { none = w.none; from = w.from; rest = w.rest }
iterate_at (Err r) a b e f g l after w = record { fails = w.fails }
