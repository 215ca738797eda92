-- Where a pair is used by its parts alone; and that what is answered comes from the parts where it came from the pair.
use Rattle.std.proofs.Common.{◌≡◌, ◌≢◌, ℕ, if◌then◌else◌, Bool, true, false, ◌&&◌, ◌∷◌, Option, Some, None, refl, ap, sym, subst, ◌∙◌, ◌⊎◌, inl, inr, eq-eqb, ne_eqb, eqb-true}
use Rattle.std.proofs.lemmas.Bool.{cases_eq}
use Rattle.weld_tree.specs.ExprTree.{At, ExprTree, leaf, one, two, three, many, let_in, loop, iterate, ExprTrees, no_exprs, more_exprs, LegTree, whole, strided, LegTrees, no_legs, more_legs, Leaf, int, truth, chars, name, fresh, One, neg, not, cast, len, field, finish, started, Two, binary, and, or, look_up, key_exists, merge, Three, if_else, select, slice, Many, make_vec, make_struct}
use Rattle.weld_meaning.specs.Environment.{Named}
use Rattle.weld_meaning.specs.Origin.{Origin, value, made, Origins, no_origins, more_origins, field_origin, struct_origin, origin_of_name, leaf_origin, one_origin, two_origin, three_origin, many_origin, origin, origins}
use Rattle.weld_meaning.specs.Names.{IsFree}
use Rattle.weld_substitution.specs.Uses.{is_name, is_use}
use Rattle.weld_substitution.specs.Redex.{is_field}
use Rattle.weld_vertical_struct.specs.Parting.{field_taken, part_name, parted_one, parted, all_parted, is_part}

-- a pair: its name, the name that stands for its part number `i`, and the number of the other part, for which its own name stands
pub record Pair : Type 0 where
  pub s : ℕ
  pub x : ℕ
  pub i : ℕ
  pub j : ℕ
  pub apart : s ≢ x
  pub other : i ≢ j

-- ---- a field of a name

name_is : (l : Leaf) (s : ℕ) → is_name l s ≡ true → l ≡ name s
name_is (int k y) s h = let nothing : ⊥ = cc in absurd nothing
name_is (truth b) s h = let nothing : ⊥ = cc in absurd nothing
name_is (chars bs) s h = let nothing : ⊥ = cc in absurd nothing
name_is (name t) s h = ap name (sym (eqb-true s t h))
name_is (fresh b) s h = let nothing : ⊥ = cc in absurd nothing

use_by : (s : ℕ) (P : ExprTree → Type 0) → ((m : At) → P (leaf m (name s))) → (e : ExprTree) → is_use e s ≡ true → P e
use_by s P f (leaf m l) h = subst (λ k. P (leaf m k)) (sym (name_is l s h)) (f m)
use_by s P f (one m o e) h = let nothing : ⊥ = cc in absurd nothing
use_by s P f (two m o e g) h = let nothing : ⊥ = cc in absurd nothing
use_by s P f (three m o c e g) h = let nothing : ⊥ = cc in absurd nothing
use_by s P f (many m o es) h = let nothing : ⊥ = cc in absurd nothing
use_by s P f (let_in m b e g) h = let nothing : ⊥ = cc in absurd nothing
use_by s P f (loop m ls e b n y g) h = let nothing : ⊥ = cc in absurd nothing
use_by s P f (iterate m e b g) h = let nothing : ⊥ = cc in absurd nothing

-- where a field of the name is taken, the node is that
pub field_by : (s : ℕ) (P : One → ExprTree → ℕ → Type 0) → ((m : At) (n : ℕ) → P (field n) (leaf m (name s)) n) → (o : One) (e : ExprTree) (n : ℕ) → field_taken s o e ≡ Some n → P o e n
field_by s P f neg e n h = let nothing : ⊥ = cc in absurd nothing
field_by s P f not e n h = let nothing : ⊥ = cc in absurd nothing
field_by s P f (cast k) e n h = let nothing : ⊥ = cc in absurd nothing
field_by s P f len e n h = let nothing : ⊥ = cc in absurd nothing
field_by s P f (field k) e n h = by (is_use e s) refl h
  where
    by : (b : Bool) → is_use e s ≡ b → (if b then Some k else None) ≡ Some n → P (field k) e n
    by true p q = let same : k ≡ n = cc in subst (P (field k) e) same (use_by s (λ d. P (field k) d k) (λ m. f m k) e p)
    by false p q = let nothing : ⊥ = cc in absurd nothing
field_by s P f finish e n h = let nothing : ⊥ = cc in absurd nothing
field_by s P f (started b) e n h = let nothing : ⊥ = cc in absurd nothing

-- what carries origins over, whatever they are made of
pub record Carrier : Type 0 where
  pub to : Origin → Origin
  pub all : Origins → Origins
  pub at_value : to value ≡ value
  pub at_made : to made ≡ made
  pub at_none : all no_origins ≡ no_origins
  pub at_more : (o : Origin) (os : Origins) → all (more_origins o os) ≡ more_origins (to o) (all os)
  pub at_field : (n : ℕ) (o : Origin) → to (field_origin n o) ≡ field_origin n (to o)
  pub at_struct : (os : Origins) → to (struct_origin os) ≡ struct_origin (all os)

-- nothing is carried over
abbrev pub stays : Carrier
stays = record {
  to = λ o. o;
  all = λ os. os;
  at_value = refl;
  at_made = refl;
  at_none = refl;
  at_more = λ o os. refl;
  at_field = λ n o. refl;
  at_struct = λ os. refl;
}

module _ (m : Pair) where
  -- a number of its two parts
  abbrev pub IsPartNumber : ℕ → Type 0
  IsPartNumber n = (n ≡ m.i) ⊎ (n ≡ m.j)

  abbrev pub part : ℕ → ℕ
  part n = part_name m.s m.x m.i n

  pub part_first : part m.i ≡ m.x
  part_first = rw (eq-eqb m.i m.i refl) refl

  pub part_other : part m.j ≡ m.s
  part_other = rw (ne_eqb m.j m.i (λ e. m.other (sym e))) refl

  -- a name of neither
  abbrev pub IsElse : ℕ → Type 0
  IsElse t = (t ≢ m.s) × (t ≢ m.x)

  abbrev pub HasNeither : ExprTree → Type 0
  HasNeither e = (IsFree e m.s → ⊥) × (IsFree e m.x → ⊥)

  -- ---- expressions in which the pair is used by its parts alone

  abbrev pub LeafIsOfParts : Leaf → Type 0
  LeafIsOfParts (int k y) = Unit {0}
  LeafIsOfParts (truth b) = Unit {0}
  LeafIsOfParts (chars bs) = Unit {0}
  LeafIsOfParts (name t) = IsElse t
  LeafIsOfParts (fresh b) = Unit {0}

  abbrev pub OneIsOfParts : Option ℕ → Bool → Type 0 → Type 0
  OneIsOfParts (Some n) below part_is = IsPartNumber n
  OneIsOfParts None below part_is = (below ≡ false) × part_is

  abbrev mutual
    pub IsOfParts : ExprTree → Type 0
    IsOfParts (leaf a l) = LeafIsOfParts l
    IsOfParts (one a o e) = OneIsOfParts (field_taken m.s o e) (is_field o && is_part m.s e) (IsOfParts e)
    IsOfParts (two a o e f) = IsOfParts e × IsOfParts f
    IsOfParts (three a o c e f) = IsOfParts c × IsOfParts e × IsOfParts f
    IsOfParts (many a o es) = AreOfParts es
    IsOfParts (let_in a b e f) = IsElse b.sym.0 × IsOfParts e × IsOfParts f
    IsOfParts (loop a ls e b n y f) = LegsAreOfParts ls × IsOfParts e × HasNeither f
    IsOfParts (iterate a e b f) = IsOfParts e × HasNeither f

    pub AreOfParts : ExprTrees → Type 0
    AreOfParts no_exprs = Unit {0}
    AreOfParts (more_exprs e es) = IsOfParts e × AreOfParts es

    pub LegIsOfParts : LegTree → Type 0
    LegIsOfParts (whole e) = IsOfParts e
    LegIsOfParts (strided e f g h) = IsOfParts e × IsOfParts f × IsOfParts g × IsOfParts h

    pub LegsAreOfParts : LegTrees → Type 0
    LegsAreOfParts no_legs = Unit {0}
    LegsAreOfParts (more_legs l ls) = LegIsOfParts l × LegsAreOfParts ls

  abbrev pub parts : ExprTree → ExprTree
  parts e = parted m.s m.x m.i e

  -- ---- origins

  module _ (c : Carrier) where
    -- what a part of the pair is, the name of the part is too, and each other name what it was
    pub record Carries (p q : Named Origin) : Type 0 where
      pub parts : (n : ℕ) → IsPartNumber n → field_origin n (origin_of_name m.s p) ≡ c.to (origin_of_name (part n) q)
      pub others : (t : ℕ) → IsElse t → origin_of_name t p ≡ c.to (origin_of_name t q)

    over : (t z : ℕ) (o : Origin) (g : Named Origin) → t ≢ z → origin_of_name t ((z, o) ∷ g) ≡ origin_of_name t g
    over t z o g ne = rw (ne_eqb t z ne) refl

    here : (t z : ℕ) (o : Origin) (g : Named Origin) → t ≡ z → origin_of_name t ((z, o) ∷ g) ≡ o
    here t z o g e = rw (eq-eqb t z e) refl

    part_else : (n z : ℕ) → IsPartNumber n → IsElse z → part n ≢ z
    part_else n z (inl e) k h = k.1 (sym (sym part_first ∙ ap part (sym e) ∙ h))
    part_else n z (inr e) k h = k.0 (sym (sym part_other ∙ ap part (sym e) ∙ h))

    pub carries_bind : (z : ℕ) (o u : Origin) (p q : Named Origin) → IsElse z → o ≡ c.to u → Carries p q → Carries ((z, o) ∷ p) ((z, u) ∷ q)
    carries_bind z o u p q k e r = record {
      parts = λ n h. ap (field_origin n) (over m.s z o p (λ y. k.0 (sym y))) ∙ r.parts n h ∙ ap c.to (sym (over (part n) z u q (part_else n z h k)));
      others = λ t h. by t h (cases_eq t z);
    }
      where
        by : (t : ℕ) → IsElse t → (t ≡ z) ⊎ (t ≢ z) → origin_of_name t ((z, o) ∷ p) ≡ c.to (origin_of_name t ((z, u) ∷ q))
        by t h (inl y) = here t z o p y ∙ e ∙ ap c.to (sym (here t z u q y))
        by t h (inr ne) = over t z o p ne ∙ r.others t h ∙ ap c.to (sym (over t z u q ne))

    leaf_carried : (l : Leaf) (p q : Named Origin) → LeafIsOfParts l → Carries p q → leaf_origin l p ≡ c.to (leaf_origin l q)
    leaf_carried (int k y) p q h r = sym c.at_value
    leaf_carried (truth b) p q h r = sym c.at_value
    leaf_carried (chars bs) p q h r = sym c.at_value
    leaf_carried (name t) p q h r = r.others t h
    leaf_carried (fresh b) p q h r = sym c.at_made

    one_carried : (o : One) (u v : Origin) → u ≡ c.to v → one_origin o u ≡ c.to (one_origin o v)
    one_carried neg u v h = sym c.at_value
    one_carried not u v h = sym c.at_value
    one_carried (cast k) u v h = sym c.at_value
    one_carried len u v h = sym c.at_value
    one_carried (field n) u v h = ap (field_origin n) h ∙ sym (c.at_field n v)
    one_carried finish u v h = sym c.at_value
    one_carried (started b) u v h = sym c.at_made

    two_carried : (o : Two) (u v : Origin) → u ≡ c.to v → two_origin o u ≡ c.to (two_origin o v)
    two_carried (binary op) u v h = sym c.at_value
    two_carried and u v h = sym c.at_value
    two_carried or u v h = sym c.at_value
    two_carried look_up u v h = sym c.at_value
    two_carried key_exists u v h = sym c.at_value
    two_carried merge u v h = h

    three_carried : (o : Three) (u v : Origin) → u ≡ c.to v → three_origin o u ≡ c.to (three_origin o v)
    three_carried if_else u v h = h
    three_carried select u v h = sym c.at_value
    three_carried slice u v h = sym c.at_value

    many_carried : (o : Many) (us vs : Origins) → us ≡ c.all vs → many_origin o us ≡ c.to (many_origin o vs)
    many_carried make_vec us vs h = sym c.at_value
    many_carried make_struct us vs h = ap struct_origin h ∙ sym (c.at_struct vs)

    mutual
      pub origin_carried : (e : ExprTree) (p q : Named Origin) → IsOfParts e → Carries p q → origin e p ≡ c.to (origin (parts e) q)
      origin_carried (leaf a l) p q h r = leaf_carried l p q h r
      origin_carried (one a o e) p q h r = by (field_taken m.s o e) refl h (λ k. origin_carried e p q k r)
        where
          by : (f : Option ℕ) → field_taken m.s o e ≡ f → OneIsOfParts f (is_field o && is_part m.s e) (IsOfParts e) → (IsOfParts e → origin e p ≡ c.to (origin (parts e) q)) → one_origin o (origin e p) ≡ c.to (origin (parted_one m.s m.x m.i a f (one a o (parts e))) q)
          by (Some n) w k f = field_by m.s (λ d y n. IsPartNumber n → one_origin d (origin y p) ≡ c.to (origin_of_name (part n) q)) (λ b n k. r.parts n k) o e n w k
          by None w k f = one_carried o _ _ (f k.1)
      origin_carried (two a o e f) p q h r = two_carried o _ _ (origin_carried e p q h.0 r)
      origin_carried (three a o d e f) p q h r = three_carried o _ _ (origin_carried e p q h.1 r)
      origin_carried (many a o es) p q h r = many_carried o _ _ (origins_carried es p q h r)
      origin_carried (let_in a b e f) p q h r =
          origin_carried f ((b.sym.0, origin e p) ∷ p) ((b.sym.0, origin (parts e) q) ∷ q) h.2 (carries_bind b.sym.0 (origin e p) (origin (parts e) q) p q h.0 (origin_carried e p q h.1 r) r)
      origin_carried (loop a ls e b n y f) p q h r = origin_carried e p q h.1 r
      origin_carried (iterate a e b f) p q h r = sym c.at_value

      origins_carried : (es : ExprTrees) (p q : Named Origin) → AreOfParts es → Carries p q → origins es p ≡ c.all (origins (all_parted m.s m.x m.i es) q)
      origins_carried no_exprs p q h r = sym c.at_none
      origins_carried (more_exprs e es) p q h r =
          let y = origin_carried e p q h.0 r in let z = origins_carried es p q h.1 r in (λ k. more_origins (y k) (z k)) ∙ sym (c.at_more _ _)
