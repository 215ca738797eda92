-- The limits on parameters, fields, legs and written types, as statements on what tokens spell: by the tree that derives them.
use Rattle.std.specs.Prelude.{ℕ, zero, suc, Bool, ◌&&◌, nat_le, if◌then◌else◌, Option, Some, None, List, [], ◌∷◌}
use Rattle.weld_tree.specs.declared.place.Place.{Place}
use Rattle.weld_tree.specs.declared.binder.Binder.{Binder}
use Rattle.weld_tree.specs.TypeTree.{TypeTree, type_nodes, type_depth}
use Rattle.weld_grammar.specs.declared.terminals.token.Token.{Token}
use Rattle.weld_grammar.specs.declared.rule.Rule.{Rule}
use Rattle.weld_grammar.specs.declared.rule.Rule.TheVariants.{Program, Param, Note, ListBuild, TotalBuild, KeyedBuild, CellsBuild, GroupsBuild, MakeStruct, StructType, Zip}
use Rattle.weld_grammar.specs.declared.item.Item.TheVariants.{Part as OfRule, Optional, Repeated}
use Rattle.weld_grammar.specs.Grammar.{Part, item, all_of, one_of, body}
use Rattle.weld_grammar.specs.Derivation.{Tree, node, pair, here, there, yield}
use Rattle.weld_tokens.specs.Depth.{earlier}
use Rattle.weld_spell.specs.TypeOf.{type_of}

-- the place of the first token of a tree
abbrev pub place_in : List Token → Option Place
place_in [] = None
place_in (t ∷ ts) = Some t.place

-- ---- parameters

-- the place of the binder behind so many
abbrev pub binder_behind : ℕ → List Binder → Option Place
binder_behind n [] = None
binder_behind zero (b ∷ bs) = Some b.place
binder_behind (suc n) (b ∷ bs) = binder_behind n bs

-- M7: the place of the 17th parameter
abbrev pub parameter_too_many : List Binder → Option Place
parameter_too_many params = binder_behind 16 params

-- ---- fields and legs

-- the tree of the item behind so many of a list's further items, each behind its comma
abbrev pub further_behind : ℕ → Tree Token → Option Place
further_behind zero (pair (node (pair c (pair t end))) more) = place_in (yield t)
further_behind (suc n) (pair t more) = further_behind n more
further_behind n _ = None

-- the place of the first token of the 17th field of a struct or a struct type, or of the 17th leg of a `zip`
abbrev pub item_too_many : Rule → Tree Token → Option Place
item_too_many MakeStruct (pair a (pair t (pair more end))) = further_behind 15 more
item_too_many StructType (pair a (pair t (pair more end))) = further_behind 15 more
item_too_many Zip (pair w (pair a (pair t (pair c (pair u (pair more end)))))) = further_behind 14 more
item_too_many _ t = None

-- the first of these places in a tree of the part
abbrev pub items_too_many : Part → Tree Token → Option Place
items_too_many (item (OfRule r)) (node t) = earlier (item_too_many r t) (items_too_many (body r) t)
items_too_many (item (Optional r)) (here t) = items_too_many (item (OfRule r)) t
items_too_many (item (Repeated r)) (pair t u) = earlier (items_too_many (item (OfRule r)) t) (items_too_many (item (Repeated r)) u)
items_too_many (all_of (i ∷ rest)) (pair t u) = earlier (items_too_many (item i) t) (items_too_many (all_of rest) u)
items_too_many (one_of (i ∷ rest)) (here t) = items_too_many (item i) t
items_too_many (one_of (i ∷ rest)) (there t) = items_too_many (one_of rest) t
items_too_many p t = None

-- M8
abbrev pub field_too_many : Tree Token → Option Place
field_too_many t = items_too_many (item (OfRule Program)) t

-- ---- written types

-- at most 256 type nodes, at most 16 deep
abbrev pub fits : TypeTree → Bool
fits t = nat_le (type_nodes t) 256 && nat_le (type_depth t) 16

-- the place of a written type that is too large
abbrev pub if_large : Tree Token → Option Place
if_large t = if fits (type_of t) then None else place_in (yield t)

-- the first of two places
abbrev pub first_of : Option Place → Option Place → Option Place
first_of None q = q
first_of (Some p) q = Some p

-- the types that are written in a rule: behind the `:` of a binder, and in the brackets of a builder
abbrev pub written : Rule → Tree Token → Option Place
written Note (pair c (pair t rest)) = if_large t
written Param (pair w (pair c (pair t rest))) = if_large t
written ListBuild (pair w (pair b (pair t rest))) = if_large t
written TotalBuild (pair w (pair b (pair t rest))) = if_large t
written KeyedBuild (pair w (pair b (pair t (pair c (pair u rest))))) = first_of (if_large t) (if_large u)
written CellsBuild (pair w (pair b (pair t rest))) = if_large t
written GroupsBuild (pair w (pair b (pair t (pair c (pair u rest))))) = first_of (if_large t) (if_large u)
written _ t = None

-- the first that is too large in a tree of the part
abbrev pub types_too_large : Part → Tree Token → Option Place
types_too_large (item (OfRule r)) (node t) = first_of (written r t) (types_too_large (body r) t)
types_too_large (item (Optional r)) (here t) = types_too_large (item (OfRule r)) t
types_too_large (item (Repeated r)) (pair t u) = first_of (types_too_large (item (OfRule r)) t) (types_too_large (item (Repeated r)) u)
types_too_large (all_of (i ∷ rest)) (pair t u) = first_of (types_too_large (item i) t) (types_too_large (all_of rest) u)
types_too_large (one_of (i ∷ rest)) (here t) = types_too_large (item i) t
types_too_large (one_of (i ∷ rest)) (there t) = types_too_large (one_of rest) t
types_too_large p t = None

-- M6
abbrev pub type_too_large : Tree Token → Option Place
type_too_large t = types_too_large (item (OfRule Program)) t
