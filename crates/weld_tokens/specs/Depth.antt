-- How deep a node may stand.
use Rattle.std.specs.Prelude.{ℕ, ◌-◌, Bool, ◌==◌, ◌||◌, ◌&&◌, nat_lt, if◌then◌else◌, Option, Some, None}
use Rattle.weld_tree.specs.declared.place.Place.{Place}
use Rattle.weld_tree.specs.ExprTree.{ExprTree, leaf, one, two, three, many, let_in, loop, iterate, ExprTrees, no_exprs, more_exprs, LegTree, whole, strided, LegTrees, no_legs, more_legs}

-- the first place stands before the second one
abbrev pub is_before : Place → Place → Bool
is_before p q = nat_lt p.line q.line || (p.line == q.line && nat_lt p.column q.column)

-- the earlier of two places, where there are any
abbrev pub earlier : Option Place → Option Place → Option Place
earlier None q = q
earlier (Some p) None = Some p
earlier (Some p) (Some q) = if is_before q p then Some q else Some p

-- the place of a node that stands too deep: no more levels are left for it
abbrev pub if_deep : ℕ → Place → Option Place
if_deep levels place = if levels == 0 then Some place else None

-- the first place, in the order of the text, of a node too deep in an expression for which so many levels are left: a
-- child stands one level deeper than its node, but the body of a `let` as deep as that; the expressions of a leg are
-- children of its loop
abbrev mutual
  pub first_deep : ℕ → ExprTree → Option Place
  first_deep levels (leaf a l) = if_deep levels a.place
  first_deep levels (one a o e) = earlier (if_deep levels a.place) (first_deep (levels - 1) e)
  first_deep levels (two a t e f) = earlier (if_deep levels a.place) (earlier (first_deep (levels - 1) e) (first_deep (levels - 1) f))
  first_deep levels (three a t e f g) = earlier (if_deep levels a.place) (earlier (first_deep (levels - 1) e) (earlier (first_deep (levels - 1) f) (first_deep (levels - 1) g)))
  first_deep levels (many a m es) = first_deep_in (levels - 1) (if_deep levels a.place) es
  first_deep levels (let_in a b e f) = earlier (if_deep levels a.place) (earlier (first_deep (levels - 1) e) (first_deep levels f))
  first_deep levels (loop a ls e b n x f) = earlier (first_deep_in_legs (levels - 1) (if_deep levels a.place) ls) (earlier (first_deep (levels - 1) e) (first_deep (levels - 1) f))
  first_deep levels (iterate a e b f) = earlier (if_deep levels a.place) (earlier (first_deep (levels - 1) e) (first_deep (levels - 1) f))

  -- the earlier of a place found before and of those in these
  pub first_deep_in : ℕ → Option Place → ExprTrees → Option Place
  first_deep_in levels found no_exprs = found
  first_deep_in levels found (more_exprs e es) = first_deep_in levels (earlier found (first_deep levels e)) es

  pub first_deep_in_leg : ℕ → LegTree → Option Place
  first_deep_in_leg levels (whole e) = first_deep levels e
  first_deep_in_leg levels (strided e f g h) = earlier (first_deep levels e) (earlier (first_deep levels f) (earlier (first_deep levels g) (first_deep levels h)))

  pub first_deep_in_legs : ℕ → Option Place → LegTrees → Option Place
  first_deep_in_legs levels found no_legs = found
  first_deep_in_legs levels found (more_legs l ls) = first_deep_in_legs levels (earlier found (first_deep_in_leg levels l)) ls

-- M4: the place of the first node that stands deeper than 100; the root has depth 1
abbrev pub first_deep_node : ExprTree → Option Place
first_deep_node e = first_deep 100 e
