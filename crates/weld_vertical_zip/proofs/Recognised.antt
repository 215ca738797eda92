-- Which legs the test recognises: what holds of the pattern holds of them.
use Rattle.std.proofs.Common.{◌≡◌, ◌==◌, true, ◌&&◌, eqb-true}
use Rattle.weld_tree.specs.declared.binder.Binder.{Binder}
use Rattle.weld_tree.specs.TypeTree.{TypeTree, list, total, keyed, cells, groups}
use Rattle.weld_tree.specs.ExprTree.{At, ExprTree, leaf, one, two, three, many, let_in, loop, iterate, LegTree, whole, strided, LegTrees, int, truth, chars, name, fresh, neg, not, cast, len, field, finish, started}
use Rattle.weld_substitution.proofs.Following.{and_true}
use Rattle.weld_substitution.specs.Uses.{uses}
use Rattle.weld_vertical.specs.Sinking.{starts_list, ends_in_merge, is_producer}
use Rattle.weld_vertical_zip.specs.Zipping.{is_made_list, is_made_leg}

list_by : (P : ExprTree → Type 0) → ((o : At) (item : TypeTree) → P (leaf o (fresh (list item)))) → (s : ExprTree) → starts_list s ≡ true → P s
list_by P f (leaf o (int k x)) h = let nothing : ⊥ = cc in absurd nothing
list_by P f (leaf o (truth b)) h = let nothing : ⊥ = cc in absurd nothing
list_by P f (leaf o (chars bs)) h = let nothing : ⊥ = cc in absurd nothing
list_by P f (leaf o (name s)) h = let nothing : ⊥ = cc in absurd nothing
list_by P f (leaf o (fresh (list item))) h = f o item
list_by P f (leaf o (fresh (total t op))) h = let nothing : ⊥ = cc in absurd nothing
list_by P f (leaf o (fresh (keyed k v op))) h = let nothing : ⊥ = cc in absurd nothing
list_by P f (leaf o (fresh (cells t op))) h = let nothing : ⊥ = cc in absurd nothing
list_by P f (leaf o (fresh (groups k v))) h = let nothing : ⊥ = cc in absurd nothing
list_by P f (one a o e) h = let nothing : ⊥ = cc in absurd nothing
list_by P f (two a o e g) h = let nothing : ⊥ = cc in absurd nothing
list_by P f (three a o e g k) h = let nothing : ⊥ = cc in absurd nothing
list_by P f (many a o es) h = let nothing : ⊥ = cc in absurd nothing
list_by P f (let_in a b e g) h = let nothing : ⊥ = cc in absurd nothing
list_by P f (loop a ls e b n x g) h = let nothing : ⊥ = cc in absurd nothing
list_by P f (iterate a e b g) h = let nothing : ⊥ = cc in absurd nothing

-- a loop that starts with an empty list and merges once
abbrev AtProducer : (ExprTree → Type 0) → Type 0
AtProducer P =
    (p o : At) (item : TypeTree) (ks : LegTrees) (d i r : Binder) (g : ExprTree) → ends_in_merge d.sym.0 g ≡ true → uses g d.sym.0 ≡ 1
    → P (loop p ks (leaf o (fresh (list item))) d i r g)

producer_by : (P : ExprTree → Type 0) → AtProducer P → (q : ExprTree) → is_producer q ≡ true → P q
producer_by P f (leaf a l) h = let nothing : ⊥ = cc in absurd nothing
producer_by P f (one a o e) h = let nothing : ⊥ = cc in absurd nothing
producer_by P f (two a o e g) h = let nothing : ⊥ = cc in absurd nothing
producer_by P f (three a o e g k) h = let nothing : ⊥ = cc in absurd nothing
producer_by P f (many a o es) h = let nothing : ⊥ = cc in absurd nothing
producer_by P f (let_in a b e g) h = let nothing : ⊥ = cc in absurd nothing
producer_by P f (loop p ks s d i r g) h =
    let x = and_true (starts_list s) (ends_in_merge d.sym.0 g && (uses g d.sym.0 == 1)) h in
    let y = and_true (ends_in_merge d.sym.0 g) (uses g d.sym.0 == 1) x.1 in
    list_by (λ s. P (loop p ks s d i r g)) (λ o item. f p o item ks d i r g y.0 (eqb-true (uses g d.sym.0) 1 y.1)) s x.0
producer_by P f (iterate a e b g) h = let nothing : ⊥ = cc in absurd nothing

made_by : (P : ExprTree → Type 0) → ((m : At) → AtProducer (λ q. P (one m finish q))) → (q : ExprTree) → is_made_list q ≡ true → P q
made_by P f (leaf a l) h = let nothing : ⊥ = cc in absurd nothing
made_by P f (one m neg e) h = let nothing : ⊥ = cc in absurd nothing
made_by P f (one m not e) h = let nothing : ⊥ = cc in absurd nothing
made_by P f (one m (cast k) e) h = let nothing : ⊥ = cc in absurd nothing
made_by P f (one m len e) h = let nothing : ⊥ = cc in absurd nothing
made_by P f (one m (field n) e) h = let nothing : ⊥ = cc in absurd nothing
made_by P f (one m finish e) h = producer_by (λ q. P (one m finish q)) (f m) e h
made_by P f (one m (started b) e) h = let nothing : ⊥ = cc in absurd nothing
made_by P f (two a o e g) h = let nothing : ⊥ = cc in absurd nothing
made_by P f (three a o e g k) h = let nothing : ⊥ = cc in absurd nothing
made_by P f (many a o es) h = let nothing : ⊥ = cc in absurd nothing
made_by P f (let_in a b e g) h = let nothing : ⊥ = cc in absurd nothing
made_by P f (loop a ls e b n x g) h = let nothing : ⊥ = cc in absurd nothing
made_by P f (iterate a e b g) h = let nothing : ⊥ = cc in absurd nothing

pub leg_by : (P : LegTree → Type 0) → ((m : At) → AtProducer (λ q. P (whole (one m finish q)))) → (l : LegTree) → is_made_leg l ≡ true → P l
leg_by P f (whole e) h = made_by (λ q. P (whole q)) f e h
leg_by P f (strided e g k l) h = let nothing : ⊥ = cc in absurd nothing
