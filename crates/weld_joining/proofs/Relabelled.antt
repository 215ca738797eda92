-- The paths of a lambda's own builder, when that becomes a field of another: the rules on origins see no difference.
use Rattle.std.proofs.Common.{◌≡◌, ℕ, zero, suc, ◌==◌, Bool, true, false, ◌&&◌, ◌||◌, if◌then◌else◌, List, [], ◌∷◌, ◌++◌, map, Option, Some, None, option_map, refl, ap, sym, subst, ◌∙◌}
use Rattle.weld_tree.specs.declared.binder.Binder.{Binder}
use Rattle.weld_tree.specs.ExprTree.{ExprTree, leaf, one, two, three, many, let_in, loop, iterate, ExprTrees, no_exprs, more_exprs, LegTree, whole, strided, LegTrees, no_legs, more_legs, Leaf, int, truth, chars, name, fresh, One, neg, not, cast, len, field, finish, started, Two, binary, and, or, look_up, key_exists, merge, Three, if_else, select, slice, Many, make_vec, make_struct}
use Rattle.weld_meaning.specs.Environment.{Named, look_for}
use Rattle.weld_meaning.specs.Origin.{Path, Origin, value, made, own, outer, named, struct, Origins, no_origins, more_origins, origin_at, field_origin, is_value, are_values, struct_origin, known_origin, origin_of_name, leaf_origin, one_origin, two_origin, three_origin, many_origin, origin, origins, own_below, own_fields, own_paths, from_within, all_from_within, outside, in_body, in_turn, named_below, named_fields, by_name}
use Rattle.weld_meaning.specs.Linear.{IsSeen, AreSeen, IsNotOwn}
use Rattle.weld_meaning.specs.Available.{at_path, field_within, is_builder, is_builder_path}

-- ---- one origin, an own path of which goes on below a field

abbrev mutual
  pub below : ℕ → Origin → Origin
  below k value = value
  below k made = made
  below k (own p) = own (p ++ k ∷ [])
  below k outer = outer
  below k (named s p) = named s p
  below k (struct os) = struct (all_below k os)

  pub all_below : ℕ → Origins → Origins
  all_below k no_origins = no_origins
  all_below k (more_origins o os) = more_origins (below k o) (all_below k os)

abbrev pub relabelled : ℕ → Named Origin → Named Origin
relabelled k g = map (λ (e : ℕ × Origin). (e.0, below k e.1)) g

pub at_below : (k n : ℕ) (os : Origins) → origin_at n (all_below k os) ≡ below k (origin_at n os)
at_below k zero no_origins = refl
at_below k (suc n) no_origins = refl
at_below k zero (more_origins o os) = refl
at_below k (suc n) (more_origins o os) = at_below k n os

pub field_below : (k n : ℕ) (o : Origin) → field_origin n (below k o) ≡ below k (field_origin n o)
field_below k n value = refl
field_below k n made = refl
field_below k n (own p) = refl
field_below k n outer = refl
field_below k n (named s p) = refl
field_below k n (struct os) = at_below k n os

pub value_below : (k : ℕ) (o : Origin) → is_value (below k o) ≡ is_value o
value_below k value = refl
value_below k made = refl
value_below k (own p) = refl
value_below k outer = refl
value_below k (named s p) = refl
value_below k (struct os) = refl

values_below : (k : ℕ) (os : Origins) → are_values (all_below k os) ≡ are_values os
values_below k no_origins = refl
values_below k (more_origins o os) = λ i. value_below k o i && values_below k os i

struct_below : (k : ℕ) (os : Origins) → struct_origin (all_below k os) ≡ below k (struct_origin os)
struct_below k os = (λ i. if values_below k os i then value else struct (all_below k os)) ∙ by (are_values os)
  where
    by : (b : Bool) → (if b then value else struct (all_below k os)) ≡ below k (if b then value else struct os)
    by true = refl
    by false = refl

mutual
  own_same : (k : ℕ) (p : Path) (o : Origin) → own_below p (below k o) ≡ own_below p o
  own_same k p value = refl
  own_same k p made = refl
  own_same k p (own q) = refl
  own_same k p outer = refl
  own_same k p (named s q) = refl
  own_same k p (struct os) = ap struct (own_fields_same k zero p os)

  own_fields_same : (k n : ℕ) (p : Path) (os : Origins) → own_fields n p (all_below k os) ≡ own_fields n p os
  own_fields_same k n p no_origins = refl
  own_fields_same k n p (more_origins o os) = λ i. more_origins (own_same k (n ∷ p) o i) (own_fields_same k (suc n) p os i)

pub own_paths_same : (k : ℕ) (o : Origin) → own_paths (below k o) ≡ own_paths o
own_paths_same k o = own_same k [] o

-- the own paths below a field are those of the field's own, gone on below it
mutual
  own_further : (k : ℕ) (p : Path) (o : Origin) → own_below (p ++ k ∷ []) o ≡ below k (own_below p o)
  own_further k p value = refl
  own_further k p made = refl
  own_further k p (own q) = refl
  own_further k p outer = refl
  own_further k p (named s q) = refl
  own_further k p (struct os) = ap struct (fields_further k zero p os)

  fields_further : (k n : ℕ) (p : Path) (os : Origins) → own_fields n (p ++ k ∷ []) os ≡ all_below k (own_fields n p os)
  fields_further k n p no_origins = refl
  fields_further k n p (more_origins o os) = λ i. more_origins (own_further k (n ∷ p) o i) (fields_further k (suc n) p os i)

pub own_of_field : (k : ℕ) (o : Origin) → own_below (k ∷ []) o ≡ below k (own_paths o)
own_of_field k o = own_further k [] o

pub own_value : (p : Path) (o : Origin) → is_value (own_below p o) ≡ is_value o
own_value p value = refl
own_value p made = refl
own_value p (own q) = refl
own_value p outer = refl
own_value p (named s q) = refl
own_value p (struct os) = refl

-- own paths are seen
mutual
  pub own_seen : (p : Path) (o : Origin) → IsSeen (own_below p o)
  own_seen p value = tt
  own_seen p made = tt
  own_seen p (own q) = tt
  own_seen p outer = tt
  own_seen p (named s q) = tt
  own_seen p (struct os) = fields_seen zero p os

  fields_seen : (n : ℕ) (p : Path) (os : Origins) → AreSeen (own_fields n p os)
  fields_seen n p no_origins = tt
  fields_seen n p (more_origins o os) = (own_seen (n ∷ p) o, fields_seen (suc n) p os)

mutual
  within_same : (k : ℕ) (o : Origin) → from_within (below k o) ≡ from_within o
  within_same k value = refl
  within_same k made = refl
  within_same k (own p) = refl
  within_same k outer = refl
  within_same k (named s p) = refl
  within_same k (struct os) = ap struct (all_within_same k os)

  all_within_same : (k : ℕ) (os : Origins) → all_from_within (all_below k os) ≡ all_from_within os
  all_within_same k no_origins = refl
  all_within_same k (more_origins o os) = λ i. more_origins (within_same k o i) (all_within_same k os i)

pub outside_same : (k : ℕ) (g : Named Origin) → outside (relabelled k g) ≡ outside g
outside_same k [] = refl
outside_same k (e ∷ g) = λ i. (e.0, within_same k e.1 i) ∷ outside_same k g i

mutual
  named_same : (k s : ℕ) (p : Path) (o : Origin) → named_below s p (below k o) ≡ named_below s p o
  named_same k s p value = refl
  named_same k s p made = refl
  named_same k s p (own q) = refl
  named_same k s p outer = refl
  named_same k s p (named t q) = refl
  named_same k s p (struct os) = ap struct (named_fields_same k s zero p os)

  named_fields_same : (k s n : ℕ) (p : Path) (os : Origins) → named_fields s n p (all_below k os) ≡ named_fields s n p os
  named_fields_same k s n p no_origins = refl
  named_fields_same k s n p (more_origins o os) = λ i. more_origins (named_same k s (n ∷ p) o i) (named_fields_same k s (suc n) p os i)

pub by_name_same : (k : ℕ) (g : Named Origin) → by_name (relabelled k g) ≡ by_name g
by_name_same k [] = refl
by_name_same k (e ∷ g) = λ i. (e.0, named_same k e.0 [] e.1 i) ∷ by_name_same k g i

-- ---- names

look_below : (k s : ℕ) (g : Named Origin) → look_for s (relabelled k g) ≡ option_map (below k) (look_for s g)
look_below k s [] = refl
look_below k s (e ∷ g) = by (s == e.0) (look_below k s g)
  where
    by : (b : Bool) → look_for s (relabelled k g) ≡ option_map (below k) (look_for s g) → (if b then Some (below k e.1) else look_for s (relabelled k g)) ≡ option_map (below k) (if b then Some e.1 else look_for s g)
    by true h = refl
    by false h = h

known_below : (k : ℕ) (o : Option Origin) → known_origin (option_map (below k) o) ≡ below k (known_origin o)
known_below k None = refl
known_below k (Some o) = refl

pub name_below : (k s : ℕ) (g : Named Origin) → origin_of_name s (relabelled k g) ≡ below k (origin_of_name s g)
name_below k s g = ap known_origin (look_below k s g) ∙ known_below k (look_for s g)

-- ---- where expressions come from

leaf_below : (k : ℕ) (l : Leaf) (g : Named Origin) → leaf_origin l (relabelled k g) ≡ below k (leaf_origin l g)
leaf_below k (int kind x) g = refl
leaf_below k (truth b) g = refl
leaf_below k (chars bs) g = refl
leaf_below k (name s) g = name_below k s g
leaf_below k (fresh b) g = refl

one_below : (k : ℕ) (o : One) (u v : Origin) → u ≡ below k v → one_origin o u ≡ below k (one_origin o v)
one_below k neg u v h = refl
one_below k not u v h = refl
one_below k (cast c) u v h = refl
one_below k len u v h = refl
one_below k (field n) u v h = ap (field_origin n) h ∙ field_below k n v
one_below k finish u v h = refl
one_below k (started b) u v h = refl

two_below : (k : ℕ) (o : Two) (u v : Origin) → u ≡ below k v → two_origin o u ≡ below k (two_origin o v)
two_below k (binary op) u v h = refl
two_below k and u v h = refl
two_below k or u v h = refl
two_below k look_up u v h = refl
two_below k key_exists u v h = refl
two_below k merge u v h = h

three_below : (k : ℕ) (o : Three) (u v : Origin) → u ≡ below k v → three_origin o u ≡ below k (three_origin o v)
three_below k if_else u v h = h
three_below k select u v h = refl
three_below k slice u v h = refl

many_below : (k : ℕ) (o : Many) (us vs : Origins) → us ≡ all_below k vs → many_origin o us ≡ below k (many_origin o vs)
many_below k make_vec us vs h = refl
many_below k make_struct us vs h = ap struct_origin h ∙ struct_below k vs

mutual
  pub origin_below : (k : ℕ) (e : ExprTree) (g : Named Origin) → origin e (relabelled k g) ≡ below k (origin e g)
  origin_below k (leaf a l) g = leaf_below k l g
  origin_below k (one a o e) g = one_below k o _ _ (origin_below k e g)
  origin_below k (two a o e f) g = two_below k o _ _ (origin_below k e g)
  origin_below k (three a o c e f) g = three_below k o _ _ (origin_below k e g)
  origin_below k (many a o es) g = many_below k o _ _ (origins_below k es g)
  origin_below k (let_in a b e f) g = ap (λ u. origin f ((b.sym.0, u) ∷ relabelled k g)) (origin_below k e g) ∙ origin_below k f ((b.sym.0, origin e g) ∷ g)
  origin_below k (loop a ls e b n x f) g = origin_below k e g
  origin_below k (iterate a e b f) g = refl

  origins_below : (k : ℕ) (es : ExprTrees) (g : Named Origin) → origins es (relabelled k g) ≡ all_below k (origins es g)
  origins_below k no_exprs g = refl
  origins_below k (more_exprs e es) g = λ i. more_origins (origin_below k e g i) (origins_below k es g i)

-- ---- the environments of lambdas

pub body_same : (k : ℕ) (b n x : Binder) (e : ExprTree) (g : Named Origin) → in_body b n x (origin e (relabelled k g)) (relabelled k g) ≡ in_body b n x (origin e g) g
body_same k b n x e g =
    let own_is : own_paths (origin e (relabelled k g)) ≡ own_paths (origin e g) = ap own_paths (origin_below k e g) ∙ own_paths_same k (origin e g) in
    λ i. (x.sym.0, value) ∷ (n.sym.0, value) ∷ (b.sym.0, own_is i) ∷ outside_same k g i

pub own_is_same : (k : ℕ) (e : ExprTree) (g : Named Origin) → own_paths (origin e (relabelled k g)) ≡ own_paths (origin e g)
own_is_same k e g = ap own_paths (origin_below k e g) ∙ own_paths_same k (origin e g)

pub turn_same : (k : ℕ) (b : Binder) (g : Named Origin) → in_turn b (relabelled k g) ≡ in_turn b g
turn_same k b g = ap (λ h. (b.sym.0, value) ∷ h) (outside_same k g)

-- ---- paths

within_below : (k n : ℕ) (o : Origin) → field_within n (below k o) ≡ below k (field_within n o)
within_below k n value = refl
within_below k n made = refl
within_below k n (own p) = refl
within_below k n outer = refl
within_below k n (named s p) = refl
within_below k n (struct os) = at_below k n os

path_below : (k : ℕ) (p : Path) (o : Origin) → at_path p (below k o) ≡ below k (at_path p o)
path_below k [] o = refl
path_below k (n ∷ p) o = ap (field_within n) (path_below k p o) ∙ within_below k n (at_path p o)

builder_below : (k : ℕ) (o : Origin) → is_builder (below k o) ≡ is_builder o
builder_below k value = refl
builder_below k made = refl
builder_below k (own p) = refl
builder_below k outer = refl
builder_below k (named s p) = refl
builder_below k (struct os) = refl

pub builder_path_below : (k : ℕ) (o : Origin) (q : Path) → is_builder_path (below k o) q ≡ is_builder_path o q
builder_path_below k o q = ap is_builder (path_below k q o) ∙ builder_below k (at_path q o)

-- ---- what is seen, and what isn't own

mutual
  pub seen_below : (k : ℕ) (o : Origin) → IsSeen o → IsSeen (below k o)
  seen_below k value h = tt
  seen_below k made h = tt
  seen_below k (own p) h = tt
  seen_below k outer h = h
  seen_below k (named s p) h = tt
  seen_below k (struct os) h = all_seen_below k os h

  all_seen_below : (k : ℕ) (os : Origins) → AreSeen os → AreSeen (all_below k os)
  all_seen_below k no_origins h = tt
  all_seen_below k (more_origins o os) h = (seen_below k o h.0, all_seen_below k os h.1)

pub not_own_below : (k : ℕ) (o : Origin) → IsNotOwn o → IsNotOwn (below k o)
not_own_below k value h = tt
not_own_below k made h = tt
not_own_below k (own p) h = h
not_own_below k outer h = tt
not_own_below k (named s p) h = tt
not_own_below k (struct os) h = tt
