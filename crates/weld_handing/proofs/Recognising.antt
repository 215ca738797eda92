-- What is recognised of two loops: an empty list, a noted type; and a body that is copied once.
use Rattle.std.proofs.Common.{◌≡◌, ℕ, zero, suc, Bool, true, false, ◌||◌, refl, ap, ◌∙◌, arith}
use Rattle.weld_tree.specs.declared.known.Known.{Known}
use Rattle.weld_tree.specs.declared.known.Known.TheVariants.{Blank, Is}
use Rattle.weld_tree.specs.TypeTree.{TypeTree, list, total, keyed, cells, groups}
use Rattle.weld_tree.specs.ExprTree.{At, ExprTree, leaf, one, two, three, many, let_in, loop, iterate, int, truth, chars, name, fresh}
use Rattle.weld_vertical.specs.Sinking.{starts_list}
use Rattle.weld_handing.specs.Handing.{is_noted}
use Rattle.weld_handing.proofs.Counting.{copies}

pub one_copy : (m k : ℕ) → m ≡ 1 → copies m k ≡ k
one_copy m k e = let same : copies (suc zero) k ≡ k = omega arith in ap (λ j. copies j k) e ∙ same

pub twice_more : (b : Bool) → b ≡ ((b || false) || false)
twice_more true = refl
twice_more false = refl

pub list_by : (P : ExprTree → Type 0) → ((o : At) (item : TypeTree) → P (leaf o (fresh (list item)))) → (s : ExprTree) → starts_list s ≡ true → P s
list_by P f (leaf o (int k x)) h = let nothing : ⊥ = cc in absurd nothing
list_by P f (leaf o (truth b)) h = let nothing : ⊥ = cc in absurd nothing
list_by P f (leaf o (chars bs)) h = let nothing : ⊥ = cc in absurd nothing
list_by P f (leaf o (name s)) h = let nothing : ⊥ = cc in absurd nothing
list_by P f (leaf o (fresh (list item))) h = f o item
list_by P f (leaf o (fresh (total t op))) h = let nothing : ⊥ = cc in absurd nothing
list_by P f (leaf o (fresh (keyed k v op))) h = let nothing : ⊥ = cc in absurd nothing
list_by P f (leaf o (fresh (cells t op))) h = let nothing : ⊥ = cc in absurd nothing
list_by P f (leaf o (fresh (groups k v))) h = let nothing : ⊥ = cc in absurd nothing
list_by P f (one a o e) h = let nothing : ⊥ = cc in absurd nothing
list_by P f (two a o e g) h = let nothing : ⊥ = cc in absurd nothing
list_by P f (three a o e g k) h = let nothing : ⊥ = cc in absurd nothing
list_by P f (many a o es) h = let nothing : ⊥ = cc in absurd nothing
list_by P f (let_in a b e g) h = let nothing : ⊥ = cc in absurd nothing
list_by P f (loop a ls e b n x g) h = let nothing : ⊥ = cc in absurd nothing
list_by P f (iterate a e b g) h = let nothing : ⊥ = cc in absurd nothing

pub noted_by : (y : Known) → is_noted y ≡ true → (t : TypeTree) × (y ≡ Is t)
noted_by Blank h = let nothing : ⊥ = cc in absurd nothing
noted_by (Is t) h = (t, refl)
