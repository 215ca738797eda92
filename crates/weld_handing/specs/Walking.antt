-- The walk that hands a loop's body over, in code: a consumer that is there until the merge takes it.
use Rattle.std.specs.Prelude.{ℕ, zero, suc, ◌+◌, Bool, true, false, ◌&&◌, if◌then◌else◌, Option, Some, None, [], ◌∷◌}
use Rattle.weld_tree.specs.declared.binder.Binder.{Binder}
use Rattle.weld_tree.specs.declared.known.Known.TheVariants.{Is}
use Rattle.weld_tree.specs.TypeTree.{TypeTree}
use Rattle.weld_tree.specs.ExprTree.{At, ExprTree, leaf, one, two, three, many, let_in, loop, iterate, ExprTrees, LegTree, LegTrees, truth, name}
use Rattle.weld_tree.specs.Blank.{blank_at, blank_place}
use Rattle.weld_meaning.specs.Environment.{Named}
use Rattle.weld_meaning.specs.Typing.{place_type}
use Rattle.weld_meaning.specs.Origin.{Origin, value, own, origin}
use Rattle.weld_vertical.specs.Sinking.{is_merge, at_of}
use Rattle.weld_handing.specs.declared.settling.Consumer.{Consumer}
use Rattle.weld_handing.specs.Handing.{is_held, handed_at, unnoted, handed, all_handed, leg_handed, legs_handed, own_names, handed_by}
use Rattle.weld_handing.specs.Merging.{list_merges, all_list_merges, legs_list_merges}

-- ---- the consumer

-- at how many merges it may still be moved in
abbrev pub left : Option Consumer → ℕ
left None = 0
left (Some c) = 1

-- what is left of it behind so many merges
abbrev pub taken : ℕ → Option Consumer → Option Consumer
taken zero c = c
taken (suc k) c = None

-- its binders and its body; where there is none, ones that stand nowhere
abbrev pub no_binder : Binder
no_binder = record { sym = record { 0 = 0 }; place = blank_place; note = None; note_place = blank_place }

abbrev pub builder_of : Option Consumer → Binder
builder_of None = no_binder
builder_of (Some c) = c.builder

abbrev pub number_of : Option Consumer → Binder
number_of None = no_binder
number_of (Some c) = c.number

abbrev pub row_of : Option Consumer → Binder
row_of None = no_binder
row_of (Some c) = c.row

abbrev pub body_of : Option Consumer → ExprTree
body_of None = leaf blank_at (truth false)
body_of (Some c) = c.body.value

-- ---- what is made of a body

abbrev pub handed_for : TypeTree → ℕ → Option Consumer → Named Origin → ExprTree → ExprTree
handed_for t i c q e = handed t i (builder_of c) (number_of c) (row_of c) (body_of c) q e

abbrev pub all_handed_for : TypeTree → ℕ → Option Consumer → Named Origin → ExprTrees → ExprTrees
all_handed_for t i c q es = all_handed t i (builder_of c) (number_of c) (row_of c) (body_of c) q es

abbrev pub leg_handed_for : TypeTree → ℕ → Option Consumer → Named Origin → LegTree → LegTree
leg_handed_for t i c q l = leg_handed t i (builder_of c) (number_of c) (row_of c) (body_of c) q l

abbrev pub legs_handed_for : TypeTree → ℕ → Option Consumer → Named Origin → LegTrees → LegTrees
legs_handed_for t i c q ls = legs_handed t i (builder_of c) (number_of c) (row_of c) (body_of c) q ls

-- ---- the parts of a node, and then the node itself

-- at how many merges in its parts the builder is the list's
abbrev pub parts_merge : Named Origin → ExprTree → ℕ
parts_merge q (leaf a l) = 0
parts_merge q (one a o e) = list_merges q e
parts_merge q (two a o e v) = list_merges q e + list_merges q v
parts_merge q (three a o d e g) = list_merges q d + (list_merges q e + list_merges q g)
parts_merge q (many a o es) = all_list_merges q es
parts_merge q (let_in a z v g) = list_merges q v + list_merges ((z.sym.0, origin v q) ∷ q) g
parts_merge q (loop a ls e b m y g) = legs_list_merges q ls + list_merges q e
parts_merge q (iterate a e b g) = list_merges q e

-- the node with its parts handed over
abbrev pub parts_handed : TypeTree → ℕ → Option Consumer → Named Origin → ExprTree → ExprTree
parts_handed t i c q (leaf a l) = leaf a l
parts_handed t i c q (one a o e) = one a o (handed_for t i c q e)
parts_handed t i c q (two a o e v) = two a o (handed_for t i c q e) (handed_for t i c q v)
parts_handed t i c q (three a o d e g) = three a o (handed_for t i c q d) (handed_for t i c q e) (handed_for t i c q g)
parts_handed t i c q (many a o es) = many a o (all_handed_for t i c q es)
parts_handed t i c q (let_in a z v g) = let_in a (unnoted z) (handed_for t i c q v) (handed_for t i c ((z.sym.0, origin v q) ∷ q) g)
parts_handed t i c q (loop a ls e b m y g) = loop a (legs_handed_for t i c q ls) (handed_for t i c q e) b m y g
parts_handed t i c q (iterate a e b g) = iterate a (handed_for t i c q e) b g

-- a node that answers what comes from there is the merge into the list
abbrev pub is_list_merge : Origin → ExprTree → Bool
is_list_merge o (leaf a l) = false
is_list_merge o (one a p e) = false
is_list_merge o (two a p e v) = is_merge p && is_held o
is_list_merge o (three a p d e g) = false
is_list_merge o (many a p es) = false
is_list_merge o (let_in a z v g) = false
is_list_merge o (loop a ls e b m y g) = false
is_list_merge o (iterate a e b g) = false

-- a form of two parts
abbrev pub is_two : ExprTree → Bool
is_two (leaf a l) = false
is_two (one a p e) = false
is_two (two a p e v) = true
is_two (three a p d e g) = false
is_two (many a p es) = false
is_two (let_in a z v g) = false
is_two (loop a ls e b m y g) = false
is_two (iterate a e b g) = false

-- a form with a lambda
abbrev pub is_lambda : ExprTree → Bool
is_lambda (leaf a l) = false
is_lambda (one a p e) = false
is_lambda (two a p e v) = false
is_lambda (three a p d e g) = false
is_lambda (many a p es) = false
is_lambda (let_in a z v g) = false
is_lambda (loop a ls e b m y g) = true
is_lambda (iterate a e b g) = true

-- the node with its type noted anew
abbrev pub noted : TypeTree → Origin → ExprTree → ExprTree
noted t o (leaf a l) = leaf (handed_at t o a) l
noted t o (one a p e) = one (handed_at t o a) p e
noted t o (two a p e v) = two (handed_at t o a) p e v
noted t o (three a p d e g) = three (handed_at t o a) p d e g
noted t o (many a p es) = many (handed_at t o a) p es
noted t o (let_in a z v g) = let_in (handed_at t o a) z v g
noted t o (loop a ls e b m y g) = loop a ls e b m y g
noted t o (iterate a e b g) = iterate a e b g

-- the consumer in the place of the node, a merge
abbrev pub consumed : TypeTree → ℕ → Binder → Binder → Binder → ExprTree → ExprTree → ExprTree
consumed t i c n x f (leaf a l) = leaf a l
consumed t i c n x f (one a p e) = one a p e
consumed t i c n x f (two a p e v) =
    let_in (at_of a (Is t)) c e (let_in (at_of a (Is t)) n (leaf (at_of a (Is place_type)) (name i)) (let_in (at_of a (Is t)) x v f))
consumed t i c n x f (three a p d e g) = three a p d e g
consumed t i c n x f (many a p es) = many a p es
consumed t i c n x f (let_in a z v g) = let_in a z v g
consumed t i c n x f (loop a ls e b m y g) = loop a ls e b m y g
consumed t i c n x f (iterate a e b g) = iterate a e b g

abbrev pub settled : TypeTree → ℕ → Option Consumer → Origin → ExprTree → ExprTree
settled t i c o e = if is_list_merge o e then consumed t i (builder_of c) (number_of c) (row_of c) (body_of c) e else noted t o e

-- ---- the loop that takes the place of both

-- the names that a loop's body has of it, by their numbers
abbrev pub names_within : ℕ → ℕ → ℕ → Named Origin
names_within d i r = (r, value) ∷ (i, value) ∷ (d, own []) ∷ []

-- at how many merges of a loop's body the builder is the list's
abbrev pub body_merges : ExprTree → ℕ
body_merges (leaf a l) = 0
body_merges (one a p e) = 0
body_merges (two a p e v) = 0
body_merges (three a p d e g) = 0
body_merges (many a p es) = 0
body_merges (let_in a z v g) = 0
body_merges (loop a ls s d i r g) = list_merges (own_names d i r) g
body_merges (iterate a e b g) = 0

-- a consumer over its list, by the loop that makes that; what is no loop stays
abbrev pub joined : At → ExprTree → Consumer → ExprTree → ExprTree
joined a s c (leaf p l) = leaf p l
joined a s c (one p o e) = one p o e
joined a s c (two p o e v) = two p o e v
joined a s c (three p o d e g) = three p o d e g
joined a s c (many p o es) = many p o es
joined a s c (let_in p z v g) = let_in p z v g
joined a s c (loop p ks e d i r g) = loop a ks s (unnoted d) i r (handed_by a.ty i.sym.0 c.builder c.number c.row c.body.value (own_names d i r) g)
joined a s c (iterate p e b g) = iterate p e b g
