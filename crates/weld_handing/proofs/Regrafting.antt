-- The paths of a lambda's own builder as other paths: a loop's body answers whatever builder it is given, path by path.
use Rattle.std.proofs.Common.{◌≡◌, ◌≢◌, ℕ, zero, suc, Bool, true, false, ◌&&◌, if◌then◌else◌, [], ◌∷◌, ◌++◌, map, Option, Some, None, option_map, refl, ap, sym, ◌∙◌}
use Rattle.weld_tree.specs.declared.binder.Binder.{Binder}
use Rattle.weld_tree.specs.ExprTree.{ExprTree, leaf, one, two, three, many, let_in, loop, iterate, ExprTrees, no_exprs, more_exprs, Leaf, int, truth, chars, name, fresh, One, neg, not, cast, len, field, finish, started, Two, binary, and, or, look_up, key_exists, merge, Three, if_else, select, slice, Many, make_vec, make_struct}
use Rattle.weld_meaning.specs.Environment.{Named, look_for}
use Rattle.weld_meaning.specs.Origin.{Path, Origin, value, made, own, outer, named, struct, Origins, no_origins, more_origins, origin_at, field_origin, is_value, are_values, struct_origin, known_origin, leaf_origin, one_origin, two_origin, three_origin, many_origin, origin, origins, own_below, own_fields, own_paths, from_within, all_from_within, outside, in_body, named_below, named_fields}
use Rattle.weld_meaning.specs.Names.{IsFree, AgreeOn}
use Rattle.weld_meaning.proofs.Before.{look_for-map}
use Rattle.weld_meaning.proofs.FreeNames.{origin_free}
use Rattle.weld_meaning.proofs.Names.{agree_bind}
use Rattle.weld_handing.proofs.Common.{IsBehind}

-- ---- one origin, whose own paths become others

abbrev mutual
  pub regrafted : (Path → Origin) → Origin → Origin
  regrafted r value = value
  regrafted r made = made
  regrafted r (own p) = r p
  regrafted r outer = outer
  regrafted r (named t p) = named t p
  regrafted r (struct os) = struct (all_regrafted r os)

  pub all_regrafted : (Path → Origin) → Origins → Origins
  all_regrafted r no_origins = no_origins
  all_regrafted r (more_origins o os) = more_origins (regrafted r o) (all_regrafted r os)

-- paths become paths: a field's becomes the field's, and none becomes a value
pub record KeepsPaths (r : Path → Origin) : Type 0 where
  pub field : (n : ℕ) (p : Path) → field_origin n (r p) ≡ r (n ∷ p)
  pub built : (p : Path) → is_value (r p) ≡ false

abbrev pub all_relabelled : (Path → Origin) → Named Origin → Named Origin
all_relabelled r g = map (λ (e : ℕ × Origin). (e.0, regrafted r e.1)) g

module _ (r : Path → Origin) (paths : KeepsPaths r) where
  at_regrafted : (n : ℕ) (os : Origins) → origin_at n (all_regrafted r os) ≡ regrafted r (origin_at n os)
  at_regrafted zero no_origins = refl
  at_regrafted (suc n) no_origins = refl
  at_regrafted zero (more_origins o os) = refl
  at_regrafted (suc n) (more_origins o os) = at_regrafted n os

  field_regrafted : (n : ℕ) (o : Origin) → field_origin n (regrafted r o) ≡ regrafted r (field_origin n o)
  field_regrafted n value = refl
  field_regrafted n made = refl
  field_regrafted n (own p) = paths.field n p
  field_regrafted n outer = refl
  field_regrafted n (named t p) = refl
  field_regrafted n (struct os) = at_regrafted n os

  value_regrafted : (o : Origin) → is_value (regrafted r o) ≡ is_value o
  value_regrafted value = refl
  value_regrafted made = refl
  value_regrafted (own p) = paths.built p
  value_regrafted outer = refl
  value_regrafted (named t p) = refl
  value_regrafted (struct os) = refl

  values_regrafted : (os : Origins) → are_values (all_regrafted r os) ≡ are_values os
  values_regrafted no_origins = refl
  values_regrafted (more_origins o os) = λ i. value_regrafted o i && values_regrafted os i

  struct_regrafted : (os : Origins) → struct_origin (all_regrafted r os) ≡ regrafted r (struct_origin os)
  struct_regrafted os = (λ i. if values_regrafted os i then value else struct (all_regrafted r os)) ∙ by (are_values os)
    where
      by : (b : Bool) → (if b then value else struct (all_regrafted r os)) ≡ regrafted r (if b then value else struct os)
      by true = refl
      by false = refl

  known_regrafted : (o : Option Origin) → known_origin (option_map (regrafted r) o) ≡ regrafted r (known_origin o)
  known_regrafted None = refl
  known_regrafted (Some o) = refl

  leaf_regrafted : (l : Leaf) (g : Named Origin) → leaf_origin l (all_relabelled r g) ≡ regrafted r (leaf_origin l g)
  leaf_regrafted (int kind x) g = refl
  leaf_regrafted (truth b) g = refl
  leaf_regrafted (chars bs) g = refl
  leaf_regrafted (name t) g = ap known_origin (look_for-map (regrafted r) t g) ∙ known_regrafted (look_for t g)
  leaf_regrafted (fresh b) g = refl

  one_regrafted : (o : One) (u v : Origin) → u ≡ regrafted r v → one_origin o u ≡ regrafted r (one_origin o v)
  one_regrafted neg u v h = refl
  one_regrafted not u v h = refl
  one_regrafted (cast c) u v h = refl
  one_regrafted len u v h = refl
  one_regrafted (field n) u v h = ap (field_origin n) h ∙ field_regrafted n v
  one_regrafted finish u v h = refl
  one_regrafted (started b) u v h = refl

  two_regrafted : (o : Two) (u v : Origin) → u ≡ regrafted r v → two_origin o u ≡ regrafted r (two_origin o v)
  two_regrafted (binary op) u v h = refl
  two_regrafted and u v h = refl
  two_regrafted or u v h = refl
  two_regrafted look_up u v h = refl
  two_regrafted key_exists u v h = refl
  two_regrafted merge u v h = h

  three_regrafted : (o : Three) (u v : Origin) → u ≡ regrafted r v → three_origin o u ≡ regrafted r (three_origin o v)
  three_regrafted if_else u v h = h
  three_regrafted select u v h = refl
  three_regrafted slice u v h = refl

  many_regrafted : (o : Many) (us vs : Origins) → us ≡ all_regrafted r vs → many_origin o us ≡ regrafted r (many_origin o vs)
  many_regrafted make_vec us vs h = refl
  many_regrafted make_struct us vs h = ap struct_origin h ∙ struct_regrafted vs

  mutual
    origin_regrafted : (e : ExprTree) (g : Named Origin) → origin e (all_relabelled r g) ≡ regrafted r (origin e g)
    origin_regrafted (leaf a l) g = leaf_regrafted l g
    origin_regrafted (one a o e) g = one_regrafted o _ _ (origin_regrafted e g)
    origin_regrafted (two a o e f) g = two_regrafted o _ _ (origin_regrafted e g)
    origin_regrafted (three a o c e f) g = three_regrafted o _ _ (origin_regrafted e g)
    origin_regrafted (many a o es) g = many_regrafted o _ _ (origins_regrafted es g)
    origin_regrafted (let_in a b e f) g =
        ap (λ u. origin f ((b.sym.0, u) ∷ all_relabelled r g)) (origin_regrafted e g) ∙ origin_regrafted f ((b.sym.0, origin e g) ∷ g)
    origin_regrafted (loop a ls e b n x f) g = origin_regrafted e g
    origin_regrafted (iterate a e b f) g = refl

    origins_regrafted : (es : ExprTrees) (g : Named Origin) → origins es (all_relabelled r g) ≡ all_regrafted r (origins es g)
    origins_regrafted no_exprs g = refl
    origins_regrafted (more_exprs e es) g = λ i. more_origins (origin_regrafted e g i) (origins_regrafted es g i)

  -- ---- a loop's body

  mutual
    -- of what stands outside no path is an own one
    within_regrafted : (o : Origin) → regrafted r (from_within o) ≡ from_within o
    within_regrafted value = refl
    within_regrafted made = refl
    within_regrafted (own p) = refl
    within_regrafted outer = refl
    within_regrafted (named t p) = refl
    within_regrafted (struct os) = ap struct (all_within_regrafted os)

    all_within_regrafted : (os : Origins) → all_regrafted r (all_from_within os) ≡ all_from_within os
    all_within_regrafted no_origins = refl
    all_within_regrafted (more_origins o os) = λ i. more_origins (within_regrafted o i) (all_within_regrafted os i)

  -- the body of a loop answers the builder that it is given, where its other names stand for what they stand for
  pub body_regrafted : (c n x : Binder) (f : ExprTree) (start : Origin) (around k : Named Origin) → AgreeOn (IsBehind f c.sym.0 n.sym.0 x.sym.0) (outside around) k → origin f (in_body c n x start around) ≡ own_paths start → origin f ((x.sym.0, value) ∷ (n.sym.0, value) ∷ (c.sym.0, regrafted r (own_paths start)) ∷ k) ≡ regrafted r (own_paths start)
  body_regrafted c n x f start around k agrees comes =
      origin_free f _ (all_relabelled r (in_body c n x start around))
      (agree_bind (λ s. IsFree f s × (s ≢ x.sym.0)) (IsFree f) x.sym.0 value _ _ (λ s y ne. (y, ne))
      (agree_bind (λ s. IsFree f s × (s ≢ x.sym.0) × (s ≢ n.sym.0)) (λ s. IsFree f s × (s ≢ x.sym.0)) n.sym.0 value _ _ (λ s y ne. (y.0, y.1, ne))
      (agree_bind (IsBehind f c.sym.0 n.sym.0 x.sym.0) (λ s. IsFree f s × (s ≢ x.sym.0) × (s ≢ n.sym.0)) c.sym.0 (regrafted r (own_paths start)) k (all_relabelled r (outside around)) (λ s y ne. (y.0, y.1, y.2, ne))
      (record { agree = λ s y. sym (agrees.agree s y) ∙ same s }))))
      ∙ origin_regrafted f (in_body c n x start around)
      ∙ ap (regrafted r) comes
    where
      within : (m : Option Origin) → option_map from_within m ≡ option_map (regrafted r) (option_map from_within m)
      within None = refl
      within (Some o) = ap Some (sym (within_regrafted o))

      same : (s : ℕ) → look_for s (outside around) ≡ look_for s (all_relabelled r (outside around))
      same s =
          look_for-map from_within s around ∙ within (look_for s around) ∙ ap (option_map (regrafted r)) (sym (look_for-map from_within s around))
          ∙ sym (look_for-map (regrafted r) s (outside around))

-- ---- the two ways in which own paths go on

abbrev pub onto_own : Path → Path → Origin
onto_own q p = own (p ++ q)

abbrev pub onto_name : ℕ → Path → Path → Origin
onto_name s q p = named s (p ++ q)

pub own_keeps : (q : Path) → KeepsPaths (onto_own q)
own_keeps q = record { field = λ n p. refl; built = λ p. refl }

pub name_keeps : (s : ℕ) (q : Path) → KeepsPaths (onto_name s q)
name_keeps s q = record { field = λ n p. refl; built = λ p. refl }

mutual
  own_onto : (q p : Path) (o : Origin) → regrafted (onto_own q) (own_below p o) ≡ own_below (p ++ q) o
  own_onto q p value = refl
  own_onto q p made = refl
  own_onto q p (own w) = refl
  own_onto q p outer = refl
  own_onto q p (named s w) = refl
  own_onto q p (struct os) = ap struct (own_fields_onto q zero p os)

  own_fields_onto : (q : Path) (n : ℕ) (p : Path) (os : Origins) → all_regrafted (onto_own q) (own_fields n p os) ≡ own_fields n (p ++ q) os
  own_fields_onto q n p no_origins = refl
  own_fields_onto q n p (more_origins o os) = λ i. more_origins (own_onto q (n ∷ p) o i) (own_fields_onto q (suc n) p os i)

pub own_grown : (q : Path) (o : Origin) → regrafted (onto_own q) (own_paths o) ≡ own_below q o
own_grown q o = own_onto q [] o

mutual
  name_onto : (s : ℕ) (q p w : Path) (o : Origin) → regrafted (onto_name s q) (own_below p o) ≡ named_below s (p ++ q) (own_below w o)
  name_onto s q p w value = refl
  name_onto s q p w made = refl
  name_onto s q p w (own v) = refl
  name_onto s q p w outer = refl
  name_onto s q p w (named t v) = refl
  name_onto s q p w (struct os) = ap struct (name_fields_onto s q zero p zero w os)

  name_fields_onto : (s : ℕ) (q : Path) (n : ℕ) (p : Path) (m : ℕ) (w : Path) (os : Origins) → all_regrafted (onto_name s q) (own_fields n p os) ≡ named_fields s n (p ++ q) (own_fields m w os)
  name_fields_onto s q n p m w no_origins = refl
  name_fields_onto s q n p m w (more_origins o os) = λ i. more_origins (name_onto s q (n ∷ p) (m ∷ w) o i) (name_fields_onto s q (suc n) p (suc m) w os i)

pub name_grown : (s : ℕ) (q : Path) (o : Origin) → regrafted (onto_name s q) (own_paths o) ≡ named_below s q (own_paths o)
name_grown s q o = name_onto s q [] [] o
