-- Types that are gathered one by one.
use Rattle.std.specs.Prelude.{List, [], ◌∷◌}
use Rattle.weld_tree.specs.TypeTree.{TypeTree, TypeTrees, more_types}
use Rattle.weld_types.specs.Walk.{Judged, fits, breaks}

-- the types gathered so far, before those that are still to come
abbrev pub before : List TypeTree → TypeTrees → TypeTrees
before [] us = us
before (t ∷ ts) us = more_types t (before ts us)

-- the same, where those still to come may break a rule
abbrev pub before_judged : List TypeTree → Judged TypeTrees → Judged TypeTrees
before_judged ts (fits us) = fits (before ts us)
before_judged ts (breaks c) = breaks c
