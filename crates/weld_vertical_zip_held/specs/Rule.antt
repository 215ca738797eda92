-- A loop over a `zip` of which a leg is a list that another loop makes that holds its builder wherever it likes, and the one loop
-- over all legs that takes the place of both.
use Rattle.std.specs.Prelude.{◌≡◌, ℕ, suc, ◌==◌, if◌then◌else◌, Bool, true, false, not, ◌&&◌, ◌||◌, Option, Some, None, option_map}
use Rattle.weld_tree.specs.declared.binder.Binder.{Binder}
use Rattle.weld_tree.specs.declared.known.Known.{Known}
use Rattle.weld_tree.specs.declared.place.Place.{Place}
use Rattle.weld_tree.specs.ExprTree.{At, ExprTree, leaf, one, two, three, many, let_in, loop, iterate, ExprTrees, no_exprs, more_exprs, LegTree, whole, strided, LegTrees, no_legs, more_legs, name, finish}
use Rattle.weld_meaning.specs.Environment.{Named}
use Rattle.weld_meaning.specs.Names.{put}
use Rattle.weld_meaning.specs.Origin.{Origin}
use Rattle.weld_rewriting.specs.Nodes.{EachNode}
use Rattle.weld_rewriting.specs.Sweep.{RootRule, swept}
use Rattle.weld_rewriting.specs.Tested.{tested}
use Rattle.weld_vertical.specs.Sinking.{starts_list, is_finish}
use Rattle.weld_horizontal.specs.Twice.{node_of}
use Rattle.weld_horizontal.specs.Doubles.{picks_rule}
use Rattle.weld_handing.specs.Handing.{unnoted, starts_none, own_names, handed_by, is_noted}
use Rattle.weld_handing.specs.Merging.{list_merges, always_merges}
use Rattle.weld_vertical_zip.specs.Zipping.{legs_behind, Around, behind_leg, Sides, own_row, made_row, sides, producer_of, are_several, fits_around}

-- ---- the first leg that such a loop makes

abbrev mutual
  -- the name is bound again within
  pub rebinds : ℕ → ExprTree → Bool
  rebinds s (leaf a l) = false
  rebinds s (one a o e) = rebinds s e
  rebinds s (two a o e f) = rebinds s e || rebinds s f
  rebinds s (three a o e f g) = rebinds s e || (rebinds s f || rebinds s g)
  rebinds s (many a o es) = some_rebind s es
  rebinds s (let_in a b e f) = (s == b.sym.0) || (rebinds s e || rebinds s f)
  rebinds s (loop a ls e b n x f) = ((s == b.sym.0) || ((s == n.sym.0) || (s == x.sym.0))) || (legs_rebind s ls || (rebinds s e || rebinds s f))
  rebinds s (iterate a e b f) = (s == b.sym.0) || (rebinds s e || rebinds s f)

  pub some_rebind : ℕ → ExprTrees → Bool
  some_rebind s no_exprs = false
  some_rebind s (more_exprs e es) = rebinds s e || some_rebind s es

  pub leg_rebinds : ℕ → LegTree → Bool
  leg_rebinds s (whole e) = rebinds s e
  leg_rebinds s (strided e f g h) = rebinds s e || (rebinds s f || (rebinds s g || rebinds s h))

  pub legs_rebind : ℕ → LegTrees → Bool
  legs_rebind s no_legs = false
  legs_rebind s (more_legs l ls) = leg_rebinds s l || legs_rebind s ls

-- it merges into the list at one place, in every row, and no loop within starts with the list's builder
abbrev pub merges_always : Named Origin → ExprTree → Bool
merges_always q g = (list_merges q g == 1) && (starts_none q g && always_merges q g)

-- and it doesn't bind its row again
abbrev pub merges_each : ℕ → Named Origin → ExprTree → Bool
merges_each r q g = not (rebinds r g) && merges_always q g

-- a loop that starts with an empty `vecbuilder` and has such a body
abbrev pub makes_each : ExprTree → Bool
makes_each (leaf a l) = false
makes_each (one a o e) = false
makes_each (two a o e f) = false
makes_each (three a o e f g) = false
makes_each (many a o es) = false
makes_each (let_in a b e f) = false
makes_each (loop a ls e d i r g) = starts_list e && merges_each r.sym.0 (own_names d i r) g
makes_each (iterate a e b f) = false

-- the list that it makes
abbrev pub is_each_list : ExprTree → Bool
is_each_list (leaf a l) = false
is_each_list (one a o e) = is_finish o && makes_each e
is_each_list (two a o e f) = false
is_each_list (three a o e f g) = false
is_each_list (many a o es) = false
is_each_list (let_in a b e f) = false
is_each_list (loop a ls e b n x f) = false
is_each_list (iterate a e b f) = false

abbrev pub is_each_leg : LegTree → Bool
is_each_leg (whole e) = is_each_list e
is_each_leg (strided e f g h) = false

-- the first such leg, with those before it and those behind it
abbrev pub first_each : LegTrees → Option Around
first_each no_legs = None
first_each (more_legs l ls) = if is_each_leg l then Some (record { before = no_legs; leg = l; after = ls }) else option_map (behind_leg l) (first_each ls)

-- a noted loop over several legs with such a leg, where a row over all legs is within the limits on types
abbrev pub is_over_each : ExprTree → Bool
is_over_each (leaf a l) = false
is_over_each (one a o e) = false
is_over_each (two a o e f) = false
is_over_each (three a o e f g) = false
is_over_each (many a o es) = false
is_over_each (let_in a b e f) = false
is_over_each (loop a ls e b n x f) = is_noted a.ty && (are_several ls && fits_around (first_each ls))
is_over_each (iterate a e b f) = false

-- ---- the one loop

-- the consumer's row, from a row over all legs and what its own row now stands for: the item that was merged
abbrev pub whole_of : Place → ℕ → Sides → ℕ → ExprTree
whole_of place r s x = made_row place r s (leaf (node_of place s.item) (name x))

-- the loop that makes the leg, with its own row and the consumer's rebuilt from the row over all legs, and its body handed over;
-- what is no loop stays
abbrev pub zip_within : Known → Place → Binder → Binder → Binder → ExprTree → Sides → ExprTree → ExprTree
zip_within ty place c n x f w (leaf p l) = leaf p l
zip_within ty place c n x f w (one p o q) = one p o q
zip_within ty place c n x f w (two p o q g) = two p o q g
zip_within ty place c n x f w (three p o k q g) = three p o k q g
zip_within ty place c n x f w (many p o es) = many p o es
zip_within ty place c n x f w (let_in p z v g) = let_in p z v g
zip_within ty place c n x f w (loop p ks s d i r g) =
    loop p ks s (unnoted d) i (unnoted r)
    (handed_by ty i.sym.0 c n (unnoted x) (put x.sym.0 (whole_of place r.sym.0 w x.sym.0) f) (own_names d i r) (put r.sym.0 (own_row place r.sym.0 w) g))
zip_within ty place c n x f w (iterate p q d g) = iterate p q d g

-- the loop over the legs before, its own, and those behind, that starts otherwise; what is no loop stays
abbrev pub over_own : At → ExprTree → LegTrees → LegTrees → ExprTree → ExprTree
over_own a e bs zs (leaf p l) = leaf p l
over_own a e bs zs (one p o q) = one p o q
over_own a e bs zs (two p o q g) = two p o q g
over_own a e bs zs (three p o k q g) = three p o k q g
over_own a e bs zs (many p o es) = many p o es
over_own a e bs zs (let_in p z v g) = let_in p z v g
over_own a e bs zs (loop p ks s d i r g) = loop a (legs_behind bs (legs_behind ks zs)) e d i r g
over_own a e bs zs (iterate p q d g) = iterate p q d g

-- the one loop, by the consumer, its legs before and behind, and the loop that makes the leg between them
abbrev pub zip_joined : At → ExprTree → Binder → Binder → Binder → ExprTree → LegTrees → LegTrees → ExprTree → ExprTree
zip_joined a e c n x f bs zs q = over_own a e bs zs (zip_within a.ty a.place c n x f (sides bs q zs) q)

abbrev pub joined_around : At → LegTrees → ExprTree → Binder → Binder → Binder → ExprTree → Option Around → ExprTree
joined_around a ls e c n x f None = loop a ls e c n x f
joined_around a ls e c n x f (Some s) = zip_joined a e c n x f s.before s.after (producer_of s.leg)

-- what is no loop stays
abbrev pub zip_over : ExprTree → ExprTree
zip_over (leaf a l) = leaf a l
zip_over (one a o e) = one a o e
zip_over (two a o e f) = two a o e f
zip_over (three a o e f g) = three a o e f g
zip_over (many a o es) = many a o es
zip_over (let_in a b e f) = let_in a b e f
zip_over (loop a ls e c n x f) = joined_around a ls e c n x f (first_each ls)
zip_over (iterate a e b f) = iterate a e b f

-- and the fields of the rows that are made there picked, so that no struct is made for one field of it
abbrev pub zip_handed : ExprTree → ExprTree
zip_handed e = swept picks_rule (zip_over e)

-- the rule: such a list isn't made, where it is a leg of a `zip`
abbrev pub zip_handing_rule : RootRule
zip_handing_rule = tested is_over_each zip_handed

-- no node of the expression is a loop over such legs
abbrev pub HasNoZipHandedOver : ExprTree → Type 0
HasNoZipHandedOver e = EachNode (λ node. is_over_each node ≡ false) e

-- ---- as the code finds and makes it

-- the place of the first such leg, from 0
abbrev pub place_each : LegTrees → Option ℕ
place_each no_legs = None
place_each (more_legs l ls) = if is_each_leg l then Some 0 else option_map suc (place_each ls)

-- the leg is the list that the loop makes
abbrev pub IsEachBy : LegTree → ExprTree → Type 0
IsEachBy l q = (m : At) × (l ≡ whole (one m finish q)) × (makes_each q ≡ true)

-- the first such leg stands between those legs, and the loop makes it
abbrev pub IsCutEach : LegTrees → LegTrees → LegTrees → ExprTree → Type 0
IsCutEach ls bs zs q = (l : LegTree) × (first_each ls ≡ Some (record { before = bs; leg = l; after = zs })) × IsEachBy l q
