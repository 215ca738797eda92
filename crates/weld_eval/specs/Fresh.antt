-- The kinds of fields that are numbers, in the code.
use Rattle.std.specs.Prelude.{List, [], ◌∷◌}
use Rattle.weld_data.specs.declared.kind.Kind.{Kind}
use Rattle.weld_data.specs.declared.kind.Kind.TheVariants.{Bool}
use Rattle.weld_tree.specs.TypeTree.{TypeTree, scalar, vec, struct, dict, build}

-- the kind of a scalar type
abbrev pub kind_in : TypeTree → Kind
kind_in (scalar k) = k
kind_in (vec t) = Bool
kind_in (struct ts) = Bool
kind_in (dict k v) = Bool
kind_in (build b) = Bool

abbrev pub kinds_listed : List TypeTree → List Kind
kinds_listed [] = []
kinds_listed (t ∷ ts) = kind_in t ∷ kinds_listed ts
