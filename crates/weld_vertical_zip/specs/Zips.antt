-- Lists that other loops make, on legs of a `zip`, made where they are used: the rule of the pass, and what its answer has none of.
use Rattle.std.specs.Prelude.{◌≡◌, ℕ, ◌+◌, ◌<◌, ◌^◌, suc, if◌then◌else◌, Bool, true, false, Option, Some, None, option_map}
use Rattle.weld_tree.specs.declared.binder.Binder.{Binder}
use Rattle.weld_tree.specs.declared.known.Known.{Known}
use Rattle.weld_tree.specs.declared.known.Known.TheVariants.{Is}
use Rattle.weld_tree.specs.declared.place.Place.{Place}
use Rattle.weld_tree.specs.TypeTree.{TypeTrees, pack}
use Rattle.weld_tree.specs.ExprTree.{At, ExprTree, leaf, one, two, three, many, let_in, loop, iterate, ExprTrees, more_exprs, LegTree, whole, LegTrees, no_legs, more_legs, name, finish}
use Rattle.weld_meaning.specs.Names.{put}
use Rattle.weld_meaning.specs.Typing.{place_type}
use Rattle.weld_rewriting.specs.Nodes.{EachNode}
use Rattle.weld_rewriting.specs.Sweep.{RootRule, swept}
use Rattle.weld_rewriting.specs.Tested.{tested}
use Rattle.weld_vertical.specs.Sinking.{is_producer, at_of}
use Rattle.weld_horizontal.specs.Twice.{items_from, count, bare}
use Rattle.weld_horizontal.specs.Doubles.{picks_rule}
use Rattle.weld_vertical_zip.specs.Zipping.{legs_behind, exprs_behind, is_made_leg, first_made, Sides, all_items, made_row, own_row, sides, producer_of, is_zipped, unzipped}
use Rattle.weld_vertical_zip.specs.declared.rows.Sides.{Sides as CodeSides}

-- ---- the rule

-- one loop over all legs, and the fields of the rows that are made there picked, so that no struct is made for one field of it
abbrev pub spliced : ExprTree → ExprTree
spliced e = swept picks_rule (unzipped e)

-- the rule: a list that another loop makes isn't made, where it is a leg of a `zip`
abbrev pub zips_rule : RootRule
zips_rule = tested is_zipped spliced

-- no node of the expression is a loop over a `zip` with such a leg
abbrev pub HasNoMadeLeg : ExprTree → Type 0
HasNoMadeLeg e = EachNode (λ node. is_zipped node ≡ false) e

-- ---- as the code finds and makes it

-- the place of the first leg that another loop makes, from 0
abbrev pub place_produced : LegTrees → Option ℕ
place_produced no_legs = None
place_produced (more_legs l ls) = if is_made_leg l then Some 0 else option_map suc (place_produced ls)

-- the leg is the list that the loop makes
abbrev pub IsMadeBy : LegTree → ExprTree → Type 0
IsMadeBy l p = (m : At) × (l ≡ whole (one m finish p)) × (is_producer p ≡ true)

-- the types of the items of the legs of the loop that makes the leg
abbrev pub own_items : LegTree → TypeTrees
own_items l = (sides no_legs (producer_of l) no_legs).within

-- all those items are so few that each field of a row can be spelled
abbrev pub AreFew : Sides → Type 0
AreFew s = count s.before + count s.within + count s.after < 10 ^ 9

-- the items of the consumer's row, from a row over all legs and the value that was merged
abbrev pub row_fields : Place → ℕ → Sides → ExprTree → ExprTrees
row_fields place r s v =
    exprs_behind (items_from place r (all_items s) 0 s.before) (more_exprs v (items_from place r (all_items s) (count s.before + count s.within) s.after))

-- the types as the code has them
abbrev pub of_sides : CodeSides → Sides
of_sides s = record { before = pack s.before; within = pack s.within; after = pack s.after; item = s.item }

-- the producer's body with, in place of its merge of a value, the consumer's row number as the producer's, its row as the struct of
-- the value and the items beside it, and its body; all of the consumer's type
abbrev pub spliced_body : Known → ℕ → Binder → Binder → ExprTree → Place → ℕ → Sides → ExprTree → ExprTree
spliced_body ty i n x f place r s (leaf a l) = leaf a l
spliced_body ty i n x f place r s (one a o e) = one a o e
spliced_body ty i n x f place r s (two a o e v) =
    let_in (at_of a ty) n (leaf (at_of a (Is place_type)) (name i)) (let_in (at_of a ty) x (made_row place r s v) f)
spliced_body ty i n x f place r s (three a o c e g) = three a o c e g
spliced_body ty i n x f place r s (many a o es) = many a o es
spliced_body ty i n x f place r s (let_in a z v h) = let_in (at_of a ty) z v (spliced_body ty i n x f place r s h)
spliced_body ty i n x f place r s (loop a ls e b m y g) = loop a ls e b m y g
spliced_body ty i n x f place r s (iterate a e b g) = iterate a e b g

-- a producer with the consumer sunk into its body, and its own row rebuilt there from the row over all legs; what isn't a loop stays
abbrev pub spliced_producer : Known → Place → Binder → Binder → ExprTree → Sides → ExprTree → ExprTree
spliced_producer ty place n x f w (leaf p l) = leaf p l
spliced_producer ty place n x f w (one p o q) = one p o q
spliced_producer ty place n x f w (two p o q g) = two p o q g
spliced_producer ty place n x f w (three p o c q g) = three p o c q g
spliced_producer ty place n x f w (many p o es) = many p o es
spliced_producer ty place n x f w (let_in p z v g) = let_in p z v g
spliced_producer ty place n x f w (loop p ks s d i r g) =
    loop p ks s d i (bare r) (spliced_body ty i.sym.0 n x f place r.sym.0 w (put r.sym.0 (own_row place r.sym.0 w) g))
spliced_producer ty place n x f w (iterate p q d g) = iterate p q d g

-- a loop over the legs before, its own, and those after, with another builder that starts otherwise; what isn't a loop stays
abbrev pub over_legs : At → ExprTree → Binder → LegTrees → LegTrees → ExprTree → ExprTree
over_legs a e b bs zs (leaf p l) = leaf p l
over_legs a e b bs zs (one p o q) = one p o q
over_legs a e b bs zs (two p o q g) = two p o q g
over_legs a e b bs zs (three p o c q g) = three p o c q g
over_legs a e b bs zs (many p o es) = many p o es
over_legs a e b bs zs (let_in p z v g) = let_in p z v g
over_legs a e b bs zs (loop p ks s d i r g) = loop a (legs_behind bs (legs_behind ks zs)) e b i r g
over_legs a e b bs zs (iterate p q d g) = iterate p q d g

abbrev pub is_loop : ExprTree → Bool
is_loop (leaf p l) = false
is_loop (one p o q) = false
is_loop (two p o q g) = false
is_loop (three p o c q g) = false
is_loop (many p o es) = false
is_loop (let_in p z v g) = false
is_loop (loop p ks s d i r g) = true
is_loop (iterate p q d g) = false

-- the one loop, by the legs before and after, the consumer and the producer, the last
abbrev pub spliced_loop : At → ExprTree → Binder → Binder → Binder → ExprTree → LegTrees → LegTrees → ExprTree → ExprTree
spliced_loop a e b n x f bs zs q = over_legs a e b bs zs (spliced_producer a.ty a.place n x f (sides bs q zs) q)

-- the first leg that another loop makes stands between those legs, and the loop makes it
abbrev pub IsCut : LegTrees → LegTrees → LegTrees → ExprTree → Type 0
IsCut ls bs zs q = (l : LegTree) × (first_made ls ≡ Some (record { before = bs; leg = l; after = zs })) × IsMadeBy l q
