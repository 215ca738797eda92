-- The tests tell where the definitions hold.
use Rattle.std.proofs.Common.{◌≡◌, ◌≢◌, ℕ, zero, suc, ◌==◌, Bool, true, false, not, ◌&&◌, ◌||◌, [], ◌∷◌, Option, Some, None, option_map, refl, ap, ◌∙◌}
use Rattle.std.specs.Prelude.{Decides}
use Rattle.std.proofs.lemmas.Bool.Decides.{Decides-not, Decides-and, Decides-or, Decides-like, Decides-at, Decides-eqb}
use Rattle.weld_tree.specs.declared.binder.Binder.{Binder}
use Rattle.weld_tree.specs.ExprTree.{ExprTree, leaf, one, two, three, many, let_in, loop, iterate, ExprTrees, no_exprs, more_exprs, LegTree, whole, strided, LegTrees, no_legs, more_legs, Leaf, int, truth, chars, name, fresh, One, neg, not as not_of, cast, len, field, finish, started, Two, binary, and, or, look_up, key_exists, merge, Three, if_else, select, slice, Many, make_vec, make_struct}
use Rattle.weld_meaning.specs.Origin.{Path}
use Rattle.weld_meaning.specs.Available.{chain_of_leaf, chain_of_one, chain_of}
use Rattle.weld_meaning.specs.Names.{LeafNames, IsFree, AreFree, LegIsFree, LegsAreFree}
use Rattle.weld_acts.specs.Act.{IsMerge, IsChoice, IsStruct, IsAct, AllAct, IsOwnAct, AreDirect, AllDirect, LegDirect, LegsDirect}
use Rattle.weld_acts.specs.Test.{leaf_uses, uses, some_use, leg_uses, legs_use, leaf_follows, is_field, follows, is_merge, is_choice, is_struct, acts, all_act, acts_own, are_direct, all_direct, leg_direct, legs_direct}
use Rattle.weld_acts.proofs.InPlace.{same_chain}

-- ---- tests of more than two parts

never : {P : Type 0} → ¬ P → Decides false P
never wrong = ((λ e. let differ : ⊥ = cc in absurd differ), λ p. absurd (wrong p))

always : {P : Type 0} → P → Decides true P
always p = ((λ e. p), λ q. refl)

three_and : {P Q R : Type 0} (x y z : Bool) → Decides x P → Decides y Q → Decides z R → Decides (x && (y && z)) (P × Q × R)
three_and x y z a b c =
    Decides-like (x && (y && z)) (λ h. (h.0, h.1.0, h.1.1)) (λ h. (h.0, (h.1, h.2))) (Decides-and x (y && z) a (Decides-and y z b c))

four_and : {P Q R S : Type 0} (x y z w : Bool) → Decides x P → Decides y Q → Decides z R → Decides w S → Decides (x && (y && (z && w))) (P × Q × R × S)
four_and x y z w a b c d =
    Decides-like (x && (y && (z && w))) (λ h. (h.0, h.1.0, h.1.1, h.1.2)) (λ h. (h.0, (h.1, h.2, h.3))) (Decides-and x (y && (z && w)) a (three_and y z w b c d))

six_and : {P Q R S T U : Type 0} (x y z w u v : Bool) → Decides x P → Decides y Q → Decides z R → Decides w S → Decides u T → Decides v U → Decides (x && (y && (z && (w && (u && v))))) (P × Q × R × S × T × U)
six_and x y z w u v a b c d e f =
    Decides-like (x && (y && (z && (w && (u && v))))) (λ h. (h.0, h.1.0, h.1.1.0, h.1.1.1, h.1.1.2, h.1.1.3)) (λ h. (h.0, (h.1, (h.2, h.3, h.4, h.5))))
    (Decides-and x (y && (z && (w && (u && v)))) a (Decides-and y (z && (w && (u && v))) b (four_and z w u v c d e f)))

other : (s b : ℕ) → Decides (not (s == b)) (s ≢ b)
other s b = Decides-not (s == b) (Decides-eqb s b)

-- ---- free names

leaf_uses_decides : (l : Leaf) (s : ℕ) → Decides (leaf_uses l s) (LeafNames l s)
leaf_uses_decides (int k x) s = never (λ h. h)
leaf_uses_decides (truth b) s = never (λ h. h)
leaf_uses_decides (chars bs) s = never (λ h. h)
leaf_uses_decides (name t) s = Decides-eqb s t
leaf_uses_decides (fresh b) s = never (λ h. h)

mutual
  pub uses_decides : (e : ExprTree) (s : ℕ) → Decides (uses e s) (IsFree e s)
  uses_decides (leaf a l) s = leaf_uses_decides l s
  uses_decides (one a o e) s = uses_decides e s
  uses_decides (two a o e f) s = Decides-or (uses e s) (uses f s) (uses_decides e s) (uses_decides f s)
  uses_decides (three a o c e f) s =
      Decides-or (uses c s) (uses e s || uses f s) (uses_decides c s) (Decides-or (uses e s) (uses f s) (uses_decides e s) (uses_decides f s))
  uses_decides (many a o es) s = some_use_decides es s
  uses_decides (let_in a b e f) s =
      Decides-or (uses e s) (uses f s && not (s == b.sym.0)) (uses_decides e s) (Decides-and (uses f s) (not (s == b.sym.0)) (uses_decides f s) (other s b.sym.0))
  uses_decides (loop a ls e b n x f) s =
      Decides-or (legs_use ls s) _ (legs_use_decides ls s)
      (Decides-or (uses e s) _ (uses_decides e s) (four_and (uses f s) (not (s == x.sym.0)) (not (s == n.sym.0)) (not (s == b.sym.0)) (uses_decides f s) (other s x.sym.0) (other s n.sym.0) (other s b.sym.0)))
  uses_decides (iterate a e b f) s =
      Decides-or (uses e s) (uses f s && not (s == b.sym.0)) (uses_decides e s) (Decides-and (uses f s) (not (s == b.sym.0)) (uses_decides f s) (other s b.sym.0))

  some_use_decides : (es : ExprTrees) (s : ℕ) → Decides (some_use es s) (AreFree es s)
  some_use_decides no_exprs s = never (λ h. h)
  some_use_decides (more_exprs e es) s = Decides-or (uses e s) (some_use es s) (uses_decides e s) (some_use_decides es s)

  leg_uses_decides : (l : LegTree) (s : ℕ) → Decides (leg_uses l s) (LegIsFree l s)
  leg_uses_decides (whole e) s = uses_decides e s
  leg_uses_decides (strided e f g h) s =
      Decides-or (uses e s) _ (uses_decides e s) (Decides-or (uses f s) _ (uses_decides f s) (Decides-or (uses g s) (uses h s) (uses_decides g s) (uses_decides h s)))

  legs_use_decides : (ls : LegTrees) (s : ℕ) → Decides (legs_use ls s) (LegsAreFree ls s)
  legs_use_decides no_legs s = never (λ h. h)
  legs_use_decides (more_legs l ls) s = Decides-or (leg_uses l s) (legs_use ls s) (leg_uses_decides l s) (legs_use_decides ls s)

-- ---- a name with field accesses

no_chain : (b : ℕ) (p : Path) → ¬ (◌≡◌ {A = Option (ℕ × Path)} None (Some (b, p)))
no_chain b p e = cc

leaf_follows_decides : (l : Leaf) (b : ℕ) (p : Path) → Decides (leaf_follows l b p) (chain_of_leaf l ≡ Some (b, p))
leaf_follows_decides (int k x) b p = never (no_chain b p)
leaf_follows_decides (truth t) b p = never (no_chain b p)
leaf_follows_decides (chars bs) b p = never (no_chain b p)
leaf_follows_decides (name s) b [] = Decides-like (s == b) (λ e. ap (λ y. Some (y, [])) e) (λ h. (same_chain s b [] [] h).0) (Decides-eqb s b)
leaf_follows_decides (name s) b (n ∷ p) = never (λ h. let e = (same_chain s b [] (n ∷ p) h).1 in let wrong : ⊥ = cc in wrong)
leaf_follows_decides (fresh t) b p = never (no_chain b p)

field_from : (c : Option (ℕ × Path)) (b m n : ℕ) (p : Path) → option_map {U = ℕ × Path} (λ (e : ℕ × Path). (e.0, m ∷ e.1)) c ≡ Some (b, n ∷ p) → (m ≡ n) × (c ≡ Some (b, p))
field_from None b m n p h = absurd (no_chain b (n ∷ p) h)
field_from (Some c) b m n p h =
    let e = same_chain c.0 b (m ∷ c.1) (n ∷ p) h in
    let paths : m ∷ c.1 ≡ n ∷ p = e.1 in
    let first : m ≡ n = cc in
    let rest : c.1 ≡ p = cc in
    (first, (λ i. Some (e.0 i, rest i)))

field_no_root : (c : Option (ℕ × Path)) (b m : ℕ) → ¬ (option_map {U = ℕ × Path} (λ (e : ℕ × Path). (e.0, m ∷ e.1)) c ≡ Some (b, []))
field_no_root None b m h = no_chain b [] h
field_no_root (Some c) b m h = let e : m ∷ c.1 ≡ [] = (same_chain c.0 b (m ∷ c.1) [] h).1 in cc

one_no_root : (o : One) (c : Option (ℕ × Path)) (b : ℕ) → ¬ (chain_of_one o c ≡ Some (b, []))
one_no_root neg c b h = no_chain b [] h
one_no_root not_of c b h = no_chain b [] h
one_no_root (cast k) c b h = no_chain b [] h
one_no_root len c b h = no_chain b [] h
one_no_root (field m) c b h = field_no_root c b m h
one_no_root finish c b h = no_chain b [] h
one_no_root (started t) c b h = no_chain b [] h

one_follows : (o : One) (c : Option (ℕ × Path)) (r : Bool) (b n : ℕ) (p : Path) → Decides r (c ≡ Some (b, p)) → Decides (is_field o n && r) (chain_of_one o c ≡ Some (b, n ∷ p))
one_follows neg c r b n p d = never (no_chain b (n ∷ p))
one_follows not_of c r b n p d = never (no_chain b (n ∷ p))
one_follows (cast k) c r b n p d = never (no_chain b (n ∷ p))
one_follows len c r b n p d = never (no_chain b (n ∷ p))
one_follows (field m) c r b n p d =
    Decides-like ((m == n) && r) (λ h. ap (option_map {U = ℕ × Path} (λ (e : ℕ × Path). (e.0, m ∷ e.1))) h.1 ∙ ap (λ k. Some (b, k ∷ p)) h.0) (field_from c b m n p) (Decides-and (m == n) r (Decides-eqb m n) d)
one_follows finish c r b n p d = never (no_chain b (n ∷ p))
one_follows (started t) c r b n p d = never (no_chain b (n ∷ p))

follows_decides : (e : ExprTree) (b : ℕ) (p : Path) → Decides (follows e b p) (chain_of e ≡ Some (b, p))
follows_decides (leaf a l) b p = leaf_follows_decides l b p
follows_decides (one a o e) b [] = never (one_no_root o (chain_of e) b)
follows_decides (one a o e) b (n ∷ p) = one_follows o (chain_of e) (follows e b p) b n p (follows_decides e b p)
follows_decides (two a o e f) b p = never (no_chain b p)
follows_decides (three a o c e f) b p = never (no_chain b p)
follows_decides (many a o es) b p = never (no_chain b p)
follows_decides (let_in a y e f) b p = never (no_chain b p)
follows_decides (loop a ls e c n x f) b p = never (no_chain b p)
follows_decides (iterate a e y f) b p = never (no_chain b p)

-- ---- acts

is_merge_decides : (o : Two) → Decides (is_merge o) (IsMerge o)
is_merge_decides (binary op) = never (λ h. h)
is_merge_decides and = never (λ h. h)
is_merge_decides or = never (λ h. h)
is_merge_decides look_up = never (λ h. h)
is_merge_decides key_exists = never (λ h. h)
is_merge_decides merge = always tt

is_choice_decides : (o : Three) → Decides (is_choice o) (IsChoice o)
is_choice_decides if_else = always tt
is_choice_decides select = never (λ h. h)
is_choice_decides slice = never (λ h. h)

is_struct_decides : (o : Many) → Decides (is_struct o) (IsStruct o)
is_struct_decides make_vec = never (λ h. h)
is_struct_decides make_struct = always tt

unused : (e : ExprTree) (b : ℕ) → Decides (not (uses e b)) (¬ (IsFree e b))
unused e b = Decides-not (uses e b) (uses_decides e b)

mutual
  pub acts_decides : (e : ExprTree) (b : ℕ) (p : Path) → Decides (acts e b p) (IsAct b p e)
  acts_decides (leaf a l) b p = leaf_follows_decides l b p
  acts_decides (one a o e) b p = follows_decides (one a o e) b p
  acts_decides (two a o e v) b p = three_and (is_merge o) (acts e b p) (not (uses v b)) (is_merge_decides o) (acts_decides e b p) (unused v b)
  acts_decides (three a o c e f) b p =
      four_and (is_choice o) (not (uses c b)) (acts e b p) (acts f b p) (is_choice_decides o) (unused c b) (acts_decides e b p) (acts_decides f b p)
  acts_decides (many a o es) b p = Decides-and (is_struct o) (all_act es b p zero) (is_struct_decides o) (all_act_decides es b p zero)
  acts_decides (let_in a y v e) b p = three_and (not (uses v b)) (not (y.sym.0 == b)) (acts e b p) (unused v b) (other y.sym.0 b) (acts_decides e b p)
  acts_decides (loop a ls e c n x f) b p =
      six_and (not (legs_use ls b)) (acts e b p) (not (uses f b)) (not (c.sym.0 == n.sym.0)) (not (c.sym.0 == x.sym.0)) (acts f c.sym.0 [])
      (Decides-not (legs_use ls b) (legs_use_decides ls b)) (acts_decides e b p) (unused f b) (other c.sym.0 n.sym.0) (other c.sym.0 x.sym.0) (acts_decides f c.sym.0 [])
  acts_decides (iterate a e y f) b p = never (λ h. h)

  all_act_decides : (es : ExprTrees) (b : ℕ) (p : Path) (n : ℕ) → Decides (all_act es b p n) (AllAct b p n es)
  all_act_decides no_exprs b p n = always tt
  all_act_decides (more_exprs e es) b p n = Decides-and (acts e b (n ∷ p)) (all_act es b p (suc n)) (acts_decides e b (n ∷ p)) (all_act_decides es b p (suc n))

own_decides : (c n x : Binder) (f : ExprTree) → Decides (acts_own c n x f) (IsOwnAct c n x f)
own_decides c n x f =
    three_and (not (c.sym.0 == n.sym.0)) (not (c.sym.0 == x.sym.0)) (acts f c.sym.0 []) (other c.sym.0 n.sym.0) (other c.sym.0 x.sym.0) (acts_decides f c.sym.0 [])

mutual
  pub direct_decides : (e : ExprTree) → Decides (are_direct e) (AreDirect e)
  direct_decides (leaf a l) = always tt
  direct_decides (one a o e) = direct_decides e
  direct_decides (two a o e f) = Decides-and (are_direct e) (are_direct f) (direct_decides e) (direct_decides f)
  direct_decides (three a o c e f) = three_and (are_direct c) (are_direct e) (are_direct f) (direct_decides c) (direct_decides e) (direct_decides f)
  direct_decides (many a o es) = all_direct_decides es
  direct_decides (let_in a b e f) = Decides-and (are_direct e) (are_direct f) (direct_decides e) (direct_decides f)
  direct_decides (loop a ls e b n x f) =
      four_and (legs_direct ls) (are_direct e) (are_direct f) (acts_own b n x f) (legs_direct_decides ls) (direct_decides e) (direct_decides f) (own_decides b n x f)
  direct_decides (iterate a e b f) = Decides-and (are_direct e) (are_direct f) (direct_decides e) (direct_decides f)

  all_direct_decides : (es : ExprTrees) → Decides (all_direct es) (AllDirect es)
  all_direct_decides no_exprs = always tt
  all_direct_decides (more_exprs e es) = Decides-and (are_direct e) (all_direct es) (direct_decides e) (all_direct_decides es)

  leg_direct_decides : (l : LegTree) → Decides (leg_direct l) (LegDirect l)
  leg_direct_decides (whole e) = direct_decides e
  leg_direct_decides (strided e f g h) =
      four_and (are_direct e) (are_direct f) (are_direct g) (are_direct h) (direct_decides e) (direct_decides f) (direct_decides g) (direct_decides h)

  legs_direct_decides : (ls : LegTrees) → Decides (legs_direct ls) (LegsDirect ls)
  legs_direct_decides no_legs = always tt
  legs_direct_decides (more_legs l ls) = Decides-and (leg_direct l) (legs_direct ls) (leg_direct_decides l) (legs_direct_decides ls)

pub direct_at_test : (r : Bool) (e : ExprTree) → r ≡ are_direct e → Decides r (AreDirect e)
direct_at_test r e same = Decides-at r (are_direct e) same (direct_decides e)
