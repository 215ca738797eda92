-- Types of what holds the list's builder: which they are, and what they are with another builder in the place of the list's.
use Rattle.std.proofs.Common.{◌≡◌, ℕ, zero, suc, Bool, true, false, ◌&&◌, ◌||◌, if◌then◌else◌, ◌∷◌, Option, Some, refl, ap, sym, subst, inr, ◌==◌}
use Rattle.weld_tree.specs.TypeTree.{TypeTree, BuildTree, TypeTrees, scalar, vec, struct as tuple, dict, build, list, no_types, more_types}
use Rattle.weld_tree.specs.Types.{IsBuilderFree, AreBuilderFree, IsBuilder, AreBuilders, HasTypes, IsWellFormed, AreWellFormed}
use Rattle.weld_tree.specs.ExprTree.{ExprTree, leaf, one, two, three, many, let_in, loop, iterate, ExprTrees, no_exprs, more_exprs, Leaf, int, truth, chars, name, fresh, One, neg, not, cast, len, field, finish, started, Two, binary, and, or, look_up, key_exists, merge, Three, if_else, select, slice, Many, make_vec, make_struct}
use Rattle.weld_meaning.specs.Environment.{Named, look_for}
use Rattle.weld_meaning.specs.Typing.{Types, AreFormed, IsField, LeafHas, OneHas, TwoHas, ThreeHas, ManyHas, HasType, HaveTypes}
use Rattle.weld_meaning.specs.Origin.{Origin, value, made, own, outer, named, struct, Origins, no_origins, more_origins, origin_at, field_origin, is_value, are_values, struct_origin, known_origin, origin_of_name, leaf_origin, one_origin, two_origin, three_origin, many_origin, origin, origins}
use Rattle.weld_meaning.specs.Forms.{HasForm, HaveForms, NamesHaveForms}
use Rattle.weld_meaning.proofs.Before.{HasNone, HaveNone}
use Rattle.weld_meaning.proofs.WellFormed.{formed_bind, type_formed}
use Rattle.weld_meaning.proofs.OriginTypes.{origin_forms, forms_bind}
use Rattle.weld_rewriting.proofs.Forms.{free_origin}
use Rattle.weld_handing.specs.Handing.{is_held, holds, some_hold, handed_type, handed_types}

-- ---- what holds nothing

-- where neither holds, both don't
pub neither : (a b : Bool) → (a || b) ≡ false → (a ≡ false) × (b ≡ false)
neither true b e = let no : ⊥ = cc in absurd no
neither false b e = (refl, e)

-- where both are so, each is
both_so : (a b : Bool) → (a && b) ≡ true → (a ≡ true) × (b ≡ true)
both_so true b e = (refl, e)
both_so false b e = let no : ⊥ = cc in absurd no

mutual
  -- what has no builder in it doesn't hold the list's
  pub none_held : (o : Origin) → HasNone o → holds o ≡ false
  none_held value h = refl
  none_held made h = absurd h
  none_held (own p) h = absurd h
  none_held outer h = absurd h
  none_held (named s p) h = absurd h
  none_held (struct os) h = all_none_held os h

  -- nor do all of these
  all_none_held : (os : Origins) → HaveNone os → some_hold os ≡ false
  all_none_held no_origins h = refl
  all_none_held (more_origins o os) h = λ i. none_held o h.0 i || all_none_held os h.1 i

-- a value holds nothing
value_holds : (o : Origin) → is_value o ≡ true → holds o ≡ false
value_holds value e = refl
value_holds made e = let no : ⊥ = cc in absurd no
value_holds (own p) e = let no : ⊥ = cc in absurd no
value_holds outer e = let no : ⊥ = cc in absurd no
value_holds (named s p) e = let no : ⊥ = cc in absurd no
value_holds (struct os) e = let no : ⊥ = cc in absurd no

-- values hold nothing
pub values_hold : (os : Origins) → are_values os ≡ true → some_hold os ≡ false
values_hold no_origins e = refl
values_hold (more_origins o os) e =
    let h = both_so (is_value o) (are_values os) e in λ i. value_holds o h.0 i || values_hold os h.1 i

mutual
  -- what doesn't hold the list's builder keeps its type
  pub unheld_type : (t : TypeTree) (o : Origin) (u : TypeTree) → holds o ≡ false → handed_type t o u ≡ u
  unheld_type t value u e = refl
  unheld_type t made u e = refl
  unheld_type t (own p) u e = let no : ⊥ = cc in absurd no
  unheld_type t outer u e = refl
  unheld_type t (named s p) u e = refl
  unheld_type t (struct os) (scalar k) e = refl
  unheld_type t (struct os) (vec u) e = refl
  unheld_type t (struct os) (tuple us) e = ap tuple (unheld_types t os us e)
  unheld_type t (struct os) (dict k v) e = refl
  unheld_type t (struct os) (build b) e = refl

  -- so do all of these
  pub unheld_types : (t : TypeTree) (os : Origins) (us : TypeTrees) → some_hold os ≡ false → handed_types t os us ≡ us
  unheld_types t no_origins us e = refl
  unheld_types t (more_origins o os) no_types e = refl
  unheld_types t (more_origins o os) (more_types u us) e =
      let h = neither (holds o) (some_hold os) e in λ i. more_types (unheld_type t o u h.0 i) (unheld_types t os us h.1 i)

-- a builder-free type stays
pub free_kept : (t : TypeTree) (o : Origin) (u : TypeTree) → IsWellFormed u → IsBuilderFree u → HasForm o u → handed_type t o u ≡ u
free_kept t o u w f h = ap (λ p. handed_type t p u) (free_origin o u w f h)

-- so do builder-free types
pub frees_kept : (t : TypeTree) (os : Origins) (us : TypeTrees) → AreWellFormed us → AreBuilderFree us → HaveForms os us → handed_types t os us ≡ us
frees_kept t no_origins us w f h = refl
frees_kept t (more_origins o os) no_types w f h = refl
frees_kept t (more_origins o os) (more_types u us) w f h =
    λ i. more_types (free_kept t o u w.0 f.0 h.0 i) (frees_kept t os us w.1 f.1 h.1 i)

-- so does that of one builder that isn't the list's
pub other_kept : (t : TypeTree) (o : Origin) (b : BuildTree) → is_held o ≡ false → handed_type t o (build b) ≡ build b
other_kept t value b e = refl
other_kept t made b e = refl
other_kept t (own p) b e = let no : ⊥ = cc in absurd no
other_kept t outer b e = refl
other_kept t (named s p) b e = refl
other_kept t (struct os) b e = refl

-- the list's builder becomes the other
pub held_type : (t : TypeTree) (o : Origin) (u : TypeTree) → is_held o ≡ true → handed_type t o u ≡ t
held_type t value u e = let no : ⊥ = cc in absurd no
held_type t made u e = let no : ⊥ = cc in absurd no
held_type t (own p) u e = refl
held_type t outer u e = let no : ⊥ = cc in absurd no
held_type t (named s p) u e = let no : ⊥ = cc in absurd no
held_type t (struct os) u e = let no : ⊥ = cc in absurd no

-- ---- builders stay builders

mutual
  -- of a builder type comes a builder type
  pub handed_builder : (t : TypeTree) (o : Origin) (u : TypeTree) → IsBuilder t → IsBuilder u → IsBuilder (handed_type t o u)
  handed_builder t value u b h = h
  handed_builder t made u b h = h
  handed_builder t (own p) u b h = b
  handed_builder t outer u b h = h
  handed_builder t (named s p) u b h = h
  handed_builder t (struct os) (scalar k) b h = h
  handed_builder t (struct os) (vec u) b h = h
  handed_builder t (struct os) (tuple us) b h = handed_builders t os us b h
  handed_builder t (struct os) (dict k v) b h = h
  handed_builder t (struct os) (build d) b h = h

  -- and of builder types come builder types
  pub handed_builders : (t : TypeTree) (os : Origins) (us : TypeTrees) → IsBuilder t → AreBuilders us → AreBuilders (handed_types t os us)
  handed_builders t no_origins us b h = h
  handed_builders t (more_origins o os) no_types b h = tt
  handed_builders t (more_origins o os) (more_types u us) b h = (handed_builder t o u b h.0, handed_builders t os us b h.1)

-- there are as many types as before
pub handed_some : (t : TypeTree) (os : Origins) (us : TypeTrees) → HasTypes us → HasTypes (handed_types t os us)
handed_some t no_origins us h = h
handed_some t (more_origins o os) no_types h = h
handed_some t (more_origins o os) (more_types u us) h = tt

mutual
  -- well-formed types stay well formed
  pub handed_formed : (t : TypeTree) (o : Origin) (u : TypeTree) → IsWellFormed t → IsBuilder t → IsWellFormed u → HasForm o u → IsWellFormed (handed_type t o u)
  handed_formed t value u w b h f = h
  handed_formed t made u w b h f = h
  handed_formed t (own p) u w b h f = w
  handed_formed t outer u w b h f = h
  handed_formed t (named s p) u w b h f = h
  handed_formed t (struct os) (scalar k) w b h f = h
  handed_formed t (struct os) (vec u) w b h f = h
  handed_formed t (struct os) (tuple us) w b h f =
      (handed_some t os us h.0, all_handed_formed t os us w b h.1 f.1, inr (handed_builders t os us b f.0))
  handed_formed t (struct os) (dict k v) w b h f = h
  handed_formed t (struct os) (build d) w b h f = h

  -- all of these too
  all_handed_formed : (t : TypeTree) (os : Origins) (us : TypeTrees) → IsWellFormed t → IsBuilder t → AreWellFormed us → HaveForms os us → AreWellFormed (handed_types t os us)
  all_handed_formed t no_origins us w b h f = h
  all_handed_formed t (more_origins o os) no_types w b h f = tt
  all_handed_formed t (more_origins o os) (more_types u us) w b h f =
      (handed_formed t o u w b h.0 f.0, all_handed_formed t os us w b h.1 f.1)

-- ---- the list's builder has the list's type

abbrev mutual
  -- what is the list's builder, or holds it in a field, has its type there
  pub HasHeld : TypeTree → Origin → TypeTree → Type 0
  HasHeld item value u = Unit {0}
  HasHeld item made u = Unit {0}
  HasHeld item (own p) u = u ≡ build (list item)
  HasHeld item outer u = Unit {0}
  HasHeld item (named s p) u = Unit {0}
  HasHeld item (struct os) (scalar k) = Unit {0}
  HasHeld item (struct os) (vec u) = Unit {0}
  HasHeld item (struct os) (tuple us) = HaveHeld item os us
  HasHeld item (struct os) (dict k v) = Unit {0}
  HasHeld item (struct os) (build b) = Unit {0}

  -- field by field
  pub HaveHeld : TypeTree → Origins → TypeTrees → Type 0
  HaveHeld item no_origins us = Unit {0}
  HaveHeld item (more_origins o os) no_types = Unit {0}
  HaveHeld item (more_origins o os) (more_types u us) = HasHeld item o u × HaveHeld item os us

-- each typed name does
pub record NamesHaveHeld (item : TypeTree) (q : Named Origin) (h : Types) : Type 0 where
  pub held : (s : ℕ) (u : TypeTree) → look_for s h ≡ Some u → HasHeld item (origin_of_name s q) u

-- with one more name
pub held_bind : (item : TypeTree) (q : Named Origin) (h : Types) (z : ℕ) (o : Origin) (u : TypeTree) → HasHeld item o u → NamesHaveHeld item q h → NamesHaveHeld item ((z, o) ∷ q) ((z, u) ∷ h)
held_bind item q h z o u k n = record { held = λ s v e. by (s == z) v (look_for s q) (look_for s h) (n.held s v) e }
  where
    by : (b : Bool) (v : TypeTree) (p : Option Origin) (m : Option TypeTree) → (m ≡ Some v → HasHeld item (known_origin p) v) → (if b then Some u else m) ≡ Some v → HasHeld item (known_origin (if b then Some o else p)) v
    by true v p m n e = let same : u ≡ v = cc in subst (HasHeld item o) same k
    by false v p m n e = n e

-- it is of the type
pub held_is : (item : TypeTree) (o : Origin) (u : TypeTree) → is_held o ≡ true → HasHeld item o u → u ≡ build (list item)
held_is item value u e h = let no : ⊥ = cc in absurd no
held_is item made u e h = let no : ⊥ = cc in absurd no
held_is item (own p) u e h = h
held_is item outer u e h = let no : ⊥ = cc in absurd no
held_is item (named s p) u e h = let no : ⊥ = cc in absurd no
held_is item (struct os) u e h = let no : ⊥ = cc in absurd no

-- a node without parts does
leaf_held : (item : TypeTree) (l : Leaf) (q : Named Origin) (h : Types) (u : TypeTree) → LeafHas l h u → NamesHaveHeld item q h → HasHeld item (leaf_origin l q) u
leaf_held item (int k x) q h u p n = tt
leaf_held item (truth b) q h u p n = tt
leaf_held item (chars bs) q h u p n = tt
leaf_held item (name s) q h u p n = n.held s u p
leaf_held item (fresh b) q h u p n = tt

-- the field of that number does
held_at : (item : TypeTree) (m : ℕ) (os : Origins) (us : TypeTrees) (u : TypeTree) → IsField m us u → HaveHeld item os us → HasHeld item (origin_at m os) u
held_at item zero no_origins us u f h = tt
held_at item (suc m) no_origins us u f h = tt
held_at item zero (more_origins o os) no_types u f h = absurd f
held_at item (suc m) (more_origins o os) no_types u f h = absurd f
held_at item zero (more_origins o os) (more_types v us) u f h = subst (HasHeld item o) (sym f) h.0
held_at item (suc m) (more_origins o os) (more_types v us) u f h = held_at item m os us u f h.1

-- a field does, where the struct does
field_held : (item : TypeTree) (m : ℕ) (o : Origin) (us : TypeTrees) (u : TypeTree) → IsField m us u → HasForm o (tuple us) → HasHeld item o (tuple us) → HasHeld item (field_origin m o) u
field_held item m value us u f k h = tt
field_held item m made us u f k h = tt
field_held item m (own p) us u f k h = absurd k
field_held item m outer us u f k h = tt
field_held item m (named s p) us u f k h = tt
field_held item m (struct os) us u f k h = held_at item m os us u f h

-- a node of one part does, where the part does
one_held : (item : TypeTree) (k : One) (o : Origin) (u v : TypeTree) → OneHas k u v → HasForm o u → HasHeld item o u → HasHeld item (one_origin k o) v
one_held item neg o u v p f h = tt
one_held item not o u v p f h = tt
one_held item (cast k) o u v p f h = tt
one_held item len o u v p f h = tt
one_held item (field m) o u v p f h = field_held item m o p.0 v p.2 (subst (HasForm o) p.1 f) (subst (HasHeld item o) p.1 h)
one_held item finish o u v p f h = tt
one_held item (started b) o u v p f h = tt

-- of two: a merge has its builder
two_held : (item : TypeTree) (k : Two) (o : Origin) (u v w : TypeTree) → TwoHas k u v w → HasHeld item o u → HasHeld item (two_origin k o) w
two_held item (binary op) o u v w p h = tt
two_held item and o u v w p h = tt
two_held item or o u v w p h = tt
two_held item look_up o u v w p h = tt
two_held item key_exists o u v w p h = tt
two_held item merge o u v w p h = subst (HasHeld item o) (sym p.3) h

-- of three: an `if` has what its arms have
three_held : (item : TypeTree) (k : Three) (o : Origin) (u v w s : TypeTree) → ThreeHas k u v w s → HasHeld item o v → HasHeld item (three_origin k o) s
three_held item if_else o u v w s p h = subst (HasHeld item o) p.1 h
three_held item select o u v w s p h = tt
three_held item slice o u v w s p h = tt

-- of any number: a struct has what its fields have
many_held : (item : TypeTree) (k : Many) (os : Origins) (us : TypeTrees) (s : TypeTree) → ManyHas k us s → HaveHeld item os us → HasHeld item (many_origin k os) s
many_held item make_vec os us s p h = tt
many_held item make_struct os us s p h = subst (HasHeld item (struct_origin os)) (sym p.2) (by (are_values os))
  where
    by : (b : Bool) → HasHeld item (if b then value else struct os) (tuple us)
    by true = tt
    by false = h

mutual
  -- what an expression has of the list's builder has its type
  pub type_held : (item : TypeTree) (e : ExprTree) (q : Named Origin) (h : Types) (u : TypeTree) → HasType e h u → AreFormed h → NamesHaveForms q h → NamesHaveHeld item q h → HasHeld item (origin e q) u
  type_held item (leaf a l) q h u p w f n = leaf_held item l q h u p n
  type_held item (one a o e) q h u p w f n =
      one_held item o (origin e q) p.0 u p.2 (origin_forms e q h p.0 p.1 w f) (type_held item e q h p.0 p.1 w f n)
  type_held item (two a o e v) q h u p w f n = two_held item o (origin e q) p.0 p.1 u p.4 (type_held item e q h p.0 p.2 w f n)
  type_held item (three a o d e g) q h u p w f n =
      three_held item o (origin e q) p.0 p.1 p.2 u p.6 (type_held item e q h p.1 p.4 w f n)
  type_held item (many a o es) q h u p w f n = many_held item o (origins es q) p.0 u p.2 (types_held item es q h p.0 p.1 w f n)
  type_held item (let_in a z v g) q h u p w f n =
      let o = origin v q in
      type_held item g ((z.sym.0, o) ∷ q) ((z.sym.0, p.0) ∷ h) u p.3 (formed_bind h z.sym.0 p.0 (type_formed v h p.0 p.1 w) w)
      (forms_bind q h z.sym.0 o p.0 (origin_forms v q h p.0 p.1 w f) f) (held_bind item q h z.sym.0 o p.0 (type_held item v q h p.0 p.1 w f n) n)
  type_held item (loop a ls e b m y g) q h u p w f n = type_held item e q h u p.4 w f n
  type_held item (iterate a e b g) q h u p w f n = tt

  -- and so each of these
  types_held : (item : TypeTree) (es : ExprTrees) (q : Named Origin) (h : Types) (us : TypeTrees) → HaveTypes es h us → AreFormed h → NamesHaveForms q h → NamesHaveHeld item q h → HaveHeld item (origins es q) us
  types_held item no_exprs q h us p w f n = tt
  types_held item (more_exprs e es) q h no_types p w f n = tt
  types_held item (more_exprs e es) q h (more_types u us) p w f n = (type_held item e q h u p.0 w f n, types_held item es q h us p.1 w f n)
