-- The paths of a lambda's own builder as paths of a name: a loop's body answers whatever builder it is given, path by path.
use Rattle.std.proofs.Common.{◌≡◌, ◌≢◌, ◌⊎◌, inl, inr, ℕ, zero, suc, Bool, true, false, ◌&&◌, if◌then◌else◌, [], ◌∷◌, map, Option, Some, None, option_map, refl, ap, sym, subst, ◌∙◌, eq-eqb, ne_eqb}
use Rattle.std.proofs.lemmas.Bool.{cases_eq}
use Rattle.weld_tree.specs.declared.binder.Binder.{Binder}
use Rattle.weld_tree.specs.TypeTree.{TypeTree, TypeTrees, scalar, vec, struct as tuple, dict, build, no_types, more_types}
use Rattle.weld_tree.specs.ExprTree.{ExprTree, leaf, one, two, three, many, let_in, loop, iterate, ExprTrees, no_exprs, more_exprs, Leaf, int, truth, chars, name, fresh, One, neg, not, cast, len, field, finish, started, Two, binary, and, or, look_up, key_exists, merge, Three, if_else, select, slice, Many, make_vec, make_struct}
use Rattle.weld_meaning.specs.Environment.{Named, look_for}
use Rattle.weld_meaning.specs.Typing.{Types}
use Rattle.weld_meaning.specs.Origin.{Path, Origin, value, made, own, outer, named, struct, Origins, no_origins, more_origins, origin_at, field_origin, is_value, are_values, struct_origin, known_origin, origin_of_name, leaf_origin, one_origin, two_origin, three_origin, many_origin, origin, origins, own_below, own_fields, own_paths, from_within, all_from_within, outside, in_body, named_below, named_fields, by_name}
use Rattle.weld_meaning.specs.Linear.{IsSeen, AreSeen, IsNotMade, AreNotMade}
use Rattle.weld_meaning.specs.Names.{IsFree, AgreeOn}
use Rattle.weld_meaning.proofs.Before.{look_for-map}
use Rattle.weld_meaning.proofs.FreeNames.{origin_free}
use Rattle.weld_meaning.proofs.Names.{agree_bind}
use Rattle.weld_meaning.specs.Forms.{HasForm, HaveForms, NamesHaveForms}
use Rattle.weld_substitution.proofs.Bindings.{look_for-by_name}
use Rattle.weld_vertical.proofs.Related.{IsBehind}

-- ---- one origin, an own path of which becomes one of a name

abbrev mutual
  pub grafted : ℕ → Origin → Origin
  grafted s value = value
  grafted s made = made
  grafted s (own p) = named s p
  grafted s outer = outer
  grafted s (named t p) = named t p
  grafted s (struct os) = struct (all_grafted s os)

  pub all_grafted : ℕ → Origins → Origins
  all_grafted s no_origins = no_origins
  all_grafted s (more_origins o os) = more_origins (grafted s o) (all_grafted s os)

abbrev pub relabelled : ℕ → Named Origin → Named Origin
relabelled s g = map (λ (e : ℕ × Origin). (e.0, grafted s e.1)) g

at_grafted : (s n : ℕ) (os : Origins) → origin_at n (all_grafted s os) ≡ grafted s (origin_at n os)
at_grafted s zero no_origins = refl
at_grafted s (suc n) no_origins = refl
at_grafted s zero (more_origins o os) = refl
at_grafted s (suc n) (more_origins o os) = at_grafted s n os

field_grafted : (s n : ℕ) (o : Origin) → field_origin n (grafted s o) ≡ grafted s (field_origin n o)
field_grafted s n value = refl
field_grafted s n made = refl
field_grafted s n (own p) = refl
field_grafted s n outer = refl
field_grafted s n (named t p) = refl
field_grafted s n (struct os) = at_grafted s n os

value_grafted : (s : ℕ) (o : Origin) → is_value (grafted s o) ≡ is_value o
value_grafted s value = refl
value_grafted s made = refl
value_grafted s (own p) = refl
value_grafted s outer = refl
value_grafted s (named t p) = refl
value_grafted s (struct os) = refl

values_grafted : (s : ℕ) (os : Origins) → are_values (all_grafted s os) ≡ are_values os
values_grafted s no_origins = refl
values_grafted s (more_origins o os) = λ i. value_grafted s o i && values_grafted s os i

struct_grafted : (s : ℕ) (os : Origins) → struct_origin (all_grafted s os) ≡ grafted s (struct_origin os)
struct_grafted s os = (λ i. if values_grafted s os i then value else struct (all_grafted s os)) ∙ by (are_values os)
  where
    by : (b : Bool) → (if b then value else struct (all_grafted s os)) ≡ grafted s (if b then value else struct os)
    by true = refl
    by false = refl

-- ---- where expressions come from

look_grafted : (s t : ℕ) (g : Named Origin) → look_for t (relabelled s g) ≡ option_map (grafted s) (look_for t g)
look_grafted s t g = look_for-map (grafted s) t g

known_grafted : (s : ℕ) (o : Option Origin) → known_origin (option_map (grafted s) o) ≡ grafted s (known_origin o)
known_grafted s None = refl
known_grafted s (Some o) = refl

leaf_grafted : (s : ℕ) (l : Leaf) (g : Named Origin) → leaf_origin l (relabelled s g) ≡ grafted s (leaf_origin l g)
leaf_grafted s (int kind x) g = refl
leaf_grafted s (truth b) g = refl
leaf_grafted s (chars bs) g = refl
leaf_grafted s (name t) g = ap known_origin (look_grafted s t g) ∙ known_grafted s (look_for t g)
leaf_grafted s (fresh b) g = refl

one_grafted : (s : ℕ) (o : One) (u v : Origin) → u ≡ grafted s v → one_origin o u ≡ grafted s (one_origin o v)
one_grafted s neg u v h = refl
one_grafted s not u v h = refl
one_grafted s (cast c) u v h = refl
one_grafted s len u v h = refl
one_grafted s (field n) u v h = ap (field_origin n) h ∙ field_grafted s n v
one_grafted s finish u v h = refl
one_grafted s (started b) u v h = refl

two_grafted : (s : ℕ) (o : Two) (u v : Origin) → u ≡ grafted s v → two_origin o u ≡ grafted s (two_origin o v)
two_grafted s (binary op) u v h = refl
two_grafted s and u v h = refl
two_grafted s or u v h = refl
two_grafted s look_up u v h = refl
two_grafted s key_exists u v h = refl
two_grafted s merge u v h = h

three_grafted : (s : ℕ) (o : Three) (u v : Origin) → u ≡ grafted s v → three_origin o u ≡ grafted s (three_origin o v)
three_grafted s if_else u v h = h
three_grafted s select u v h = refl
three_grafted s slice u v h = refl

many_grafted : (s : ℕ) (o : Many) (us vs : Origins) → us ≡ all_grafted s vs → many_origin o us ≡ grafted s (many_origin o vs)
many_grafted s make_vec us vs h = refl
many_grafted s make_struct us vs h = ap struct_origin h ∙ struct_grafted s vs

mutual
  origin_grafted : (s : ℕ) (e : ExprTree) (g : Named Origin) → origin e (relabelled s g) ≡ grafted s (origin e g)
  origin_grafted s (leaf a l) g = leaf_grafted s l g
  origin_grafted s (one a o e) g = one_grafted s o _ _ (origin_grafted s e g)
  origin_grafted s (two a o e f) g = two_grafted s o _ _ (origin_grafted s e g)
  origin_grafted s (three a o c e f) g = three_grafted s o _ _ (origin_grafted s e g)
  origin_grafted s (many a o es) g = many_grafted s o _ _ (origins_grafted s es g)
  origin_grafted s (let_in a b e f) g =
      ap (λ u. origin f ((b.sym.0, u) ∷ relabelled s g)) (origin_grafted s e g) ∙ origin_grafted s f ((b.sym.0, origin e g) ∷ g)
  origin_grafted s (loop a ls e b n x f) g = origin_grafted s e g
  origin_grafted s (iterate a e b f) g = refl

  origins_grafted : (s : ℕ) (es : ExprTrees) (g : Named Origin) → origins es (relabelled s g) ≡ all_grafted s (origins es g)
  origins_grafted s no_exprs g = refl
  origins_grafted s (more_exprs e es) g = λ i. more_origins (origin_grafted s e g i) (origins_grafted s es g i)

-- ---- names as their own origins

mutual
  own_named : (s : ℕ) (p : Path) (o : Origin) → named_below s p (own_below p o) ≡ grafted s (own_below p o)
  own_named s p value = refl
  own_named s p made = refl
  own_named s p (own q) = refl
  own_named s p outer = refl
  own_named s p (named t q) = refl
  own_named s p (struct os) = ap struct (fields_named s zero p os)

  fields_named : (s n : ℕ) (p : Path) (os : Origins) → named_fields s n p (own_fields n p os) ≡ all_grafted s (own_fields n p os)
  fields_named s n p no_origins = refl
  fields_named s n p (more_origins o os) = λ i. more_origins (own_named s (n ∷ p) o i) (fields_named s (suc n) p os i)

mutual
  within_named : (s t : ℕ) (p : Path) (o : Origin) → named_below t p (from_within o) ≡ grafted s (from_within o)
  within_named s t p value = refl
  within_named s t p made = refl
  within_named s t p (own q) = refl
  within_named s t p outer = refl
  within_named s t p (named u q) = refl
  within_named s t p (struct os) = ap struct (all_within_named s t zero p os)

  all_within_named : (s t n : ℕ) (p : Path) (os : Origins) → named_fields t n p (all_from_within os) ≡ all_grafted s (all_from_within os)
  all_within_named s t n p no_origins = refl
  all_within_named s t n p (more_origins o os) = λ i. more_origins (within_named s t (n ∷ p) o i) (all_within_named s t (suc n) p os i)

-- ---- what the paths of an own builder are

mutual
  not_made_below : (s : ℕ) (p : Path) (o : Origin) → IsNotMade (grafted s (own_below p o))
  not_made_below s p value = tt
  not_made_below s p made = tt
  not_made_below s p (own q) = tt
  not_made_below s p outer = tt
  not_made_below s p (named t q) = tt
  not_made_below s p (struct os) = not_made_fields s zero p os

  not_made_fields : (s n : ℕ) (p : Path) (os : Origins) → AreNotMade (all_grafted s (own_fields n p os))
  not_made_fields s n p no_origins = tt
  not_made_fields s n p (more_origins o os) = (not_made_below s (n ∷ p) o, not_made_fields s (suc n) p os)

pub own_not_made : (s : ℕ) (o : Origin) → IsNotMade (grafted s (own_paths o))
own_not_made s o = not_made_below s [] o

mutual
  seen_below : (p : Path) (o : Origin) → IsSeen (own_below p o)
  seen_below p value = tt
  seen_below p made = tt
  seen_below p (own q) = tt
  seen_below p outer = tt
  seen_below p (named t q) = tt
  seen_below p (struct os) = seen_fields zero p os

  seen_fields : (n : ℕ) (p : Path) (os : Origins) → AreSeen (own_fields n p os)
  seen_fields n p no_origins = tt
  seen_fields n p (more_origins o os) = (seen_below (n ∷ p) o, seen_fields (suc n) p os)

pub own_seen : (o : Origin) → IsSeen (own_paths o)
own_seen o = seen_below [] o

-- ---- a name as its own origin has the form of its type

mutual
  forms_below : (s : ℕ) (p : Path) (o : Origin) (t : TypeTree) → HasForm o t → HasForm (named_below s p o) t
  forms_below s p value t h = h
  forms_below s p made t h = h
  forms_below s p (own q) t h = h
  forms_below s p outer t h = h
  forms_below s p (named u q) t h = h
  forms_below s p (struct os) (scalar k) h = absurd h
  forms_below s p (struct os) (vec t) h = absurd h
  forms_below s p (struct os) (tuple us) h = (h.0, forms_fields s zero p os us h.1)
  forms_below s p (struct os) (dict k v) h = absurd h
  forms_below s p (struct os) (build b) h = absurd h

  forms_fields : (s n : ℕ) (p : Path) (os : Origins) (us : TypeTrees) → HaveForms os us → HaveForms (named_fields s n p os) us
  forms_fields s n p no_origins no_types h = tt
  forms_fields s n p no_origins (more_types u us) h = absurd h
  forms_fields s n p (more_origins o os) no_types h = absurd h
  forms_fields s n p (more_origins o os) (more_types u us) h = (forms_below s (n ∷ p) o u h.0, forms_fields s (suc n) p os us h.1)

pub forms_by_name : (g : Named Origin) (types : Types) → NamesHaveForms g types → NamesHaveForms (by_name g) types
forms_by_name g types w = record { forms = λ s t e. subst (λ o. HasForm o t) (sym (there s)) (forms_below s [] (origin_of_name s g) t (w.forms s t e)) }
  where
    known : (s : ℕ) (m : Option Origin) → known_origin (option_map (named_below s []) m) ≡ named_below s [] (known_origin m)
    known s (Some o) = refl
    known s None = refl

    there : (s : ℕ) → origin_of_name s (by_name g) ≡ named_below s [] (origin_of_name s g)
    there s = ap known_origin (look_for-by_name s g) ∙ known s (look_for s g)

-- ---- a loop's body

module _ (b n x : Binder) (f : ExprTree) (start : Origin) (around : Named Origin) where
  abbrev Behind : ℕ → Type 0
  Behind s = IsBehind f x.sym.0 n.sym.0 s

  abbrev before : Named Origin
  before = (b.sym.0, own_paths start) ∷ outside around

  -- names stand for what they stand for in the body, with the own builder's paths as those of the builder's name
  pub record Grafts (q : Named Origin) : Type 0 where
    pub behind : (s : ℕ) → Behind s → look_for s q ≡ option_map (grafted b.sym.0) (look_for s before)
    pub builder : look_for b.sym.0 q ≡ Some (grafted b.sym.0 (own_paths start))

  -- the body answers them
  pub body_answers : (q : Named Origin) → Grafts q → origin f (in_body b n x start around) ≡ own_paths start → origin f ((x.sym.0, value) ∷ (n.sym.0, value) ∷ q) ≡ grafted b.sym.0 (own_paths start)
  body_answers q w comes =
      origin_free f _ (relabelled b.sym.0 (in_body b n x start around))
      (agree_bind (λ s. IsFree f s × (s ≢ x.sym.0)) (IsFree f) x.sym.0 value _ _ (λ s y ne. (y, ne))
      (agree_bind Behind (λ s. IsFree f s × (s ≢ x.sym.0)) n.sym.0 value q (relabelled b.sym.0 before) (λ s y ne. (y.0, y.1, ne))
      (record { agree = λ s k. w.behind s k ∙ sym (look_grafted b.sym.0 s before) })))
      ∙ origin_grafted b.sym.0 f (in_body b n x start around)
      ∙ ap (grafted b.sym.0) comes

  -- so do they where each name is its own origin
  pub grafts_by_name : (q : Named Origin) → AgreeOn Behind before q → look_for b.sym.0 q ≡ Some (own_paths start) → Grafts (by_name q)
  grafts_by_name q agrees there = record {
    behind = λ s k. look_for-by_name s q ∙ ap (option_map (named_below s [])) (sym (agrees.agree s k)) ∙ by s (cases_eq s b.sym.0);
    builder = look_for-by_name b.sym.0 q ∙ ap (option_map (named_below b.sym.0 [])) there ∙ ap Some (own_named b.sym.0 [] start);
  }
    where
      at_builder : look_for b.sym.0 before ≡ Some (own_paths start)
      at_builder = rw (eq-eqb b.sym.0 b.sym.0 refl) refl

      within : (s : ℕ) (m : Option Origin) → option_map (named_below s []) (option_map from_within m) ≡ option_map (grafted b.sym.0) (option_map from_within m)
      within s (Some o) = ap Some (within_named b.sym.0 s [] o)
      within s None = refl

      by : (s : ℕ) → (s ≡ b.sym.0) ⊎ (s ≢ b.sym.0) → option_map (named_below s []) (look_for s before) ≡ option_map (grafted b.sym.0) (look_for s before)
      by s (inl e) =
          subst (λ t. option_map (named_below t []) (look_for t before) ≡ option_map (grafted b.sym.0) (look_for t before)) (sym e)
          (ap (option_map (named_below b.sym.0 [])) at_builder ∙ ap Some (own_named b.sym.0 [] start) ∙ sym (ap (option_map (grafted b.sym.0)) at_builder))
      by s (inr ne) =
          let behind : look_for s before ≡ option_map from_within (look_for s around) = rw (ne_eqb s b.sym.0 ne) (look_for-map from_within s around) in
          ap (option_map (named_below s [])) behind ∙ within s (look_for s around) ∙ sym (ap (option_map (grafted b.sym.0)) behind)
