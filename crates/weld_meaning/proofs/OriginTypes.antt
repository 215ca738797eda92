-- The origin of an expression has the form of its type.
use Rattle.std.proofs.Common.{◌≡◌, ℕ, zero, suc, Bool, true, false, ◌&&◌, if◌then◌else◌, [], ◌∷◌, Option, Some, refl, ap, sym, subst, ◌∙◌, inl, inr, ◌⊎◌, ◌==◌}
use Rattle.weld_tree.specs.declared.binder.Binder.{Binder}
use Rattle.weld_tree.specs.TypeTree.{TypeTree, BuildTree, TypeTrees, scalar, vec, struct as tuple, dict, build, list, total, keyed, cells, groups, no_types, more_types}
use Rattle.weld_tree.specs.Types.{IsBuilderFree, AreBuilderFree, IsBuilder, AreBuilders, HasTypes, IsWellFormed, IsWellFormedBuild, AreWellFormed, gives}
use Rattle.weld_tree.specs.ExprTree.{ExprTree, leaf, one, two, three, many, let_in, loop, iterate, ExprTrees, no_exprs, more_exprs, Leaf, int, truth, chars, name, fresh, One, neg, not, cast, len, field, finish, started, Two, binary, and, or, look_up, key_exists, merge, Three, if_else, select, slice, Many, make_vec, make_struct}
use Rattle.weld_meaning.specs.Environment.{Named, look_for}
use Rattle.weld_meaning.specs.Thing.{Thing, plain, building, several, Things, no_things, more_things, fields_of, first_of, rest_of}
use Rattle.weld_meaning.specs.Typing.{Types, AreFormed, place_type, IsField, LeafHas, OneHas, TwoHas, ThreeHas, ManyHas, HasType, HaveTypes, body_types}
use Rattle.weld_meaning.specs.Forms.{IsOneBuilder, HasForm, HaveForms, NamesHaveForms}
use Rattle.weld_meaning.specs.ThingType.{HasThing, HaveBuilders}
use Rattle.weld_meaning.specs.Origin.{Path, Origin, value, made, own, outer, named, struct, Origins, no_origins, more_origins, origin_at, field_origin, is_value, are_values, struct_origin, known_origin, origin_of_name, leaf_origin, one_origin, two_origin, three_origin, many_origin, origin, origins, own_below, own_fields, own_paths, from_within, all_from_within, outside, in_body}
use Rattle.weld_meaning.proofs.WellFormed.{key_free, integer_free, merger_free, formed_bind, type_formed, types_formed}
use Rattle.weld_meaning.proofs.Before.{at, before, all_before, origin_outside, drop_things, first_of-drop_things, drop_things-suc}
use Rattle.weld_meaning.proofs.NeverStuck.{no_builder_value}

pub forms_bind : (g : Named Origin) (types : Types) (s : ℕ) (o : Origin) (t : TypeTree) → HasForm o t → NamesHaveForms g types → NamesHaveForms ((s, o) ∷ g) ((s, t) ∷ types)
forms_bind g types s o t h n = record { forms = λ x u e. by (x == s) u (look_for x g) (look_for x types) (n.forms x u) e }
  where
    by : (b : Bool) (u : TypeTree) (p : Option Origin) (m : Option TypeTree) → (m ≡ Some u → HasForm (known_origin p) u) → (if b then Some t else m) ≡ Some u → HasForm (known_origin (if b then Some o else p)) u
    by true u p m k e = let same : t ≡ u = cc in subst (HasForm o) same h
    by false u p m k e = k e

mutual
  forms_within : (o : Origin) (t : TypeTree) → HasForm o t → HasForm (from_within o) t
  forms_within value t h = h
  forms_within made t h = h
  forms_within (own p) t h = h
  forms_within outer t h = h
  forms_within (named s p) t h = h
  forms_within (struct os) (scalar k) h = h
  forms_within (struct os) (vec t) h = h
  forms_within (struct os) (tuple us) h = (h.0, all_forms_within os us h.1)
  forms_within (struct os) (dict k v) h = h
  forms_within (struct os) (build b) h = h

  all_forms_within : (os : Origins) (us : TypeTrees) → HaveForms os us → HaveForms (all_from_within os) us
  all_forms_within no_origins no_types h = tt
  all_forms_within no_origins (more_types u us) h = h
  all_forms_within (more_origins o os) no_types h = h
  all_forms_within (more_origins o os) (more_types u us) h = (forms_within o u h.0, all_forms_within os us h.1)

mutual
  own_forms : (p : Path) (o : Origin) (t : TypeTree) → HasForm o t → HasForm (own_below p o) t
  own_forms p value t h = h
  own_forms p made t h = h
  own_forms p (own q) t h = h
  own_forms p outer t h = h
  own_forms p (named s q) t h = h
  own_forms p (struct os) (scalar k) h = h
  own_forms p (struct os) (vec t) h = h
  own_forms p (struct os) (tuple us) h = (h.0, own_fields_form zero p os us h.1)
  own_forms p (struct os) (dict k v) h = h
  own_forms p (struct os) (build b) h = h

  own_fields_form : (n : ℕ) (p : Path) (os : Origins) (us : TypeTrees) → HaveForms os us → HaveForms (own_fields n p os) us
  own_fields_form n p no_origins no_types h = tt
  own_fields_form n p no_origins (more_types u us) h = h
  own_fields_form n p (more_origins o os) no_types h = h
  own_fields_form n p (more_origins o os) (more_types u us) h = (own_forms (n ∷ p) o u h.0, own_fields_form (suc n) p os us h.1)

pub forms_outside : (g : Named Origin) (types : Types) → NamesHaveForms g types → NamesHaveForms (outside g) types
forms_outside g types n = record { forms = λ s t e. subst (λ o. HasForm o t) (sym (origin_outside s g)) (forms_within (origin_of_name s g) t (n.forms s t e)) }

-- ---- node by node

leaf_forms : (l : Leaf) (g : Named Origin) (types : Types) (t : TypeTree) → LeafHas l types t → NamesHaveForms g types → HasForm (leaf_origin l g) t
leaf_forms (int k x) g types t h n = subst IsBuilderFree (sym h.2) tt
leaf_forms (truth b) g types t h n = subst IsBuilderFree (sym h) tt
leaf_forms (chars bs) g types t h n = subst IsBuilderFree (sym h) tt
leaf_forms (name s) g types t h n = n.forms s t h
leaf_forms (fresh b) g types t h n = subst IsOneBuilder (sym h.2) tt

free_field : (n : ℕ) (us : TypeTrees) (t : TypeTree) → IsField n us t → AreBuilderFree us → IsBuilderFree t
free_field zero no_types t f h = absurd f
free_field (suc n) no_types t f h = absurd f
free_field zero (more_types u us) t f h = subst IsBuilderFree (sym f) h.0
free_field (suc n) (more_types u us) t f h = free_field n us t f h.1

form_at : (n : ℕ) (os : Origins) (us : TypeTrees) (t : TypeTree) → IsField n us t → HaveForms os us → HasForm (origin_at n os) t
form_at zero os no_types t f h = absurd f
form_at (suc n) os no_types t f h = absurd f
form_at zero no_origins (more_types u us) t f h = absurd h
form_at zero (more_origins o os) (more_types u us) t f h = subst (HasForm o) (sym f) h.0
form_at (suc n) no_origins (more_types u us) t f h = absurd h
form_at (suc n) (more_origins o os) (more_types u us) t f h = form_at n os us t f h.1

field_forms : (n : ℕ) (o : Origin) (us : TypeTrees) (t : TypeTree) → IsField n us t → HasForm o (tuple us) → HasForm (field_origin n o) t
field_forms n value us t f h = free_field n us t f h
field_forms n made us t f h = absurd h
field_forms n (own p) us t f h = absurd h
field_forms n outer us t f h = absurd h
field_forms n (named s p) us t f h = absurd h
field_forms n (struct os) us t f h = form_at n os us t f h.1

gives_free : (b : BuildTree) → IsWellFormedBuild b → IsBuilderFree (gives b)
gives_free (list t) h = h.1
gives_free (total t op) h = merger_free t h
gives_free (keyed k v op) h = (key_free k h.0, integer_free v h.1)
gives_free (cells t op) h = integer_free t h
gives_free (groups k v) h = (key_free k h.0, h.2)

one_forms : (k : One) (o : Origin) (u t : TypeTree) → OneHas k u t → IsWellFormed u → HasForm o u → HasForm (one_origin k o) t
one_forms neg o u t h w f = subst IsBuilderFree (sym h.3) tt
one_forms not o u t h w f = subst IsBuilderFree (sym h.1) tt
one_forms (cast k) o u t h w f = subst IsBuilderFree (sym h.3) tt
one_forms len o u t h w f = subst IsBuilderFree (sym h.2) tt
one_forms (field n) o u t h w f = field_forms n o h.0 t h.2 (subst (HasForm o) h.1 f)
one_forms finish o u t h w f = let p : IsWellFormed (build h.0) = subst IsWellFormed h.1 w in subst IsBuilderFree (sym h.2) (gives_free h.0 p)
one_forms (started b) o u t h w f = subst IsOneBuilder (sym h.2) tt

two_forms : (k : Two) (o : Origin) (u v t : TypeTree) → TwoHas k u v t → IsWellFormed u → HasForm o u → HasForm (two_origin k o) t
two_forms (binary op) o u v t h w f = subst IsBuilderFree (sym h.4) tt
two_forms and o u v t h w f = subst IsBuilderFree (sym h.2) tt
two_forms or o u v t h w f = subst IsBuilderFree (sym h.2) tt
two_forms look_up o u v t (inl h) w f = let p : IsWellFormed (vec t) = subst IsWellFormed h.0 w in p.1
two_forms look_up o u v t (inr h) w f = let p : IsWellFormed (dict v t) = subst IsWellFormed h w in p.2
two_forms key_exists o u v t h w f = subst IsBuilderFree (sym h.2) tt
two_forms merge o u v t h w f = subst (HasForm o) (sym h.3) f

three_forms : (k : Three) (o : Origin) (u v w t : TypeTree) → ThreeHas k u v w t → IsWellFormed u → HasForm o v → HasForm (three_origin k o) t
three_forms if_else o u v w t h p f = subst (HasForm o) h.1 f
three_forms select o u v w t h p f = h.3
three_forms slice o u v w t h p f = let q : IsWellFormed (vec h.0) = subst IsWellFormed h.1 p in subst IsBuilderFree (sym (h.4 ∙ h.1)) q.1

mutual
  -- a well-formed builder type isn't builder-free
  pub not_both : (u : TypeTree) → IsWellFormed u → IsBuilder u → IsBuilderFree u → ⊥
  not_both (scalar k) w b f = b
  not_both (vec t) w b f = b
  not_both (tuple us) w b f = not_both_all us w.0 w.1 b f
  not_both (dict k v) w b f = b
  not_both (build c) w b f = f

  not_both_all : (us : TypeTrees) → HasTypes us → AreWellFormed us → AreBuilders us → AreBuilderFree us → ⊥
  not_both_all no_types some w b f = some
  not_both_all (more_types u us) some w b f = not_both u w.0 b.0 f.0

value_of_free : (o : Origin) (u : TypeTree) → IsWellFormed u → IsBuilderFree u → HasForm o u → is_value o ≡ true
value_of_free value u w f h = refl
value_of_free made (scalar k) w f h = absurd h
value_of_free made (vec t) w f h = absurd h
value_of_free made (tuple us) w f h = absurd h
value_of_free made (dict k v) w f h = absurd h
value_of_free made (build b) w f h = absurd f
value_of_free (own p) (scalar k) w f h = absurd h
value_of_free (own p) (vec t) w f h = absurd h
value_of_free (own p) (tuple us) w f h = absurd h
value_of_free (own p) (dict k v) w f h = absurd h
value_of_free (own p) (build b) w f h = absurd f
value_of_free outer (scalar k) w f h = absurd h
value_of_free outer (vec t) w f h = absurd h
value_of_free outer (tuple us) w f h = absurd h
value_of_free outer (dict k v) w f h = absurd h
value_of_free outer (build b) w f h = absurd f
value_of_free (named s p) (scalar k) w f h = absurd h
value_of_free (named s p) (vec t) w f h = absurd h
value_of_free (named s p) (tuple us) w f h = absurd h
value_of_free (named s p) (dict k v) w f h = absurd h
value_of_free (named s p) (build b) w f h = absurd f
value_of_free (struct os) (scalar k) w f h = absurd h
value_of_free (struct os) (vec t) w f h = absurd h
value_of_free (struct os) (tuple us) w f h = absurd (not_both (tuple us) w h.0 f)
value_of_free (struct os) (dict k v) w f h = absurd h
value_of_free (struct os) (build b) w f h = absurd h

values_of_free : (os : Origins) (us : TypeTrees) → AreWellFormed us → AreBuilderFree us → HaveForms os us → are_values os ≡ true
values_of_free no_origins no_types w f h = refl
values_of_free no_origins (more_types u us) w f h = absurd h
values_of_free (more_origins o os) no_types w f h = absurd h
values_of_free (more_origins o os) (more_types u us) w f h =
    λ i. value_of_free o u w.0 f.0 h.0 i && values_of_free os us w.1 f.1 h.1 i

no_value_of_builder : (o : Origin) (u : TypeTree) → IsWellFormed u → IsBuilder u → HasForm o u → is_value o ≡ false
no_value_of_builder value u w b h = absurd (not_both u w b h)
no_value_of_builder made u w b h = refl
no_value_of_builder (own p) u w b h = refl
no_value_of_builder outer u w b h = refl
no_value_of_builder (named s p) u w b h = refl
no_value_of_builder (struct os) u w b h = refl

no_values_of_builders : (os : Origins) (us : TypeTrees) → HasTypes us → AreWellFormed us → AreBuilders us → HaveForms os us → are_values os ≡ false
no_values_of_builders os no_types some w b h = absurd some
no_values_of_builders no_origins (more_types u us) some w b h = absurd h
no_values_of_builders (more_origins o os) (more_types u us) some w b h =
    ap (λ x. x && are_values os) (no_value_of_builder o u w.0 b.0 h.0)

struct_forms : (os : Origins) (us : TypeTrees) → HasTypes us → AreWellFormed us → AreBuilderFree us ⊎ AreBuilders us → HaveForms os us → HasForm (struct_origin os) (tuple us)
struct_forms os us some w (inl f) h =
    subst (λ b. HasForm (if b then value else struct os) (tuple us)) (sym (values_of_free os us w f h)) f
struct_forms os us some w (inr b) h =
    subst (λ c. HasForm (if c then value else struct os) (tuple us)) (sym (no_values_of_builders os us some w b h)) (b, h)

many_forms : (k : Many) (os : Origins) (us : TypeTrees) (t : TypeTree) → ManyHas k us t → AreWellFormed us → HaveForms os us → HasForm (many_origin k os) t
many_forms make_vec os us t h w f = subst IsBuilderFree (sym h.4) h.3
many_forms make_struct os us t h w f = subst (HasForm (struct_origin os)) (sym h.2) (struct_forms os us h.0 w h.1 f)

mutual
  pub origin_forms : (e : ExprTree) (g : Named Origin) (types : Types) (t : TypeTree) → HasType e types t → AreFormed types → NamesHaveForms g types → HasForm (origin e g) t
  origin_forms (leaf a l) g types t h w n = leaf_forms l g types t h n
  origin_forms (one a k e) g types t h w n =
      one_forms k (origin e g) h.0 t h.2 (type_formed e types h.0 h.1 w) (origin_forms e g types h.0 h.1 w n)
  origin_forms (two a k e f) g types t h w n =
      two_forms k (origin e g) h.0 h.1 t h.4 (type_formed e types h.0 h.2 w) (origin_forms e g types h.0 h.2 w n)
  origin_forms (three a k c e f) g types t h w n =
      three_forms k (origin e g) h.0 h.1 h.2 t h.6 (type_formed c types h.0 h.3 w) (origin_forms e g types h.1 h.4 w n)
  origin_forms (many a k es) g types t h w n =
      many_forms k (origins es g) h.0 t h.2 (types_formed es types h.0 h.1 w) (origins_form es g types h.0 h.1 w n)
  origin_forms (let_in a b e f) g types t h w n =
      origin_forms f _ _ t h.3 (formed_bind types b.sym.0 h.0 (type_formed e types h.0 h.1 w) w) (forms_bind g types b.sym.0 (origin e g) h.0 (origin_forms e g types h.0 h.1 w n) n)
  origin_forms (loop a ls e b x y f) g types t h w n = origin_forms e g types t h.4 w n
  origin_forms (iterate a e b f) g types t h w n = h.1

  origins_form : (es : ExprTrees) (g : Named Origin) (types : Types) (us : TypeTrees) → HaveTypes es types us → AreFormed types → NamesHaveForms g types → HaveForms (origins es g) us
  origins_form no_exprs g types no_types h w n = tt
  origins_form no_exprs g types (more_types u us) h w n = h
  origins_form (more_exprs e es) g types no_types h w n = h
  origins_form (more_exprs e es) g types (more_types u us) h w n = (origin_forms e g types u h.0 w n, origins_form es g types us h.1 w n)

-- in the body of a loop
pub forms_in_body : (g : Named Origin) (types : Types) (b n x : Binder) (o : Origin) (t r : TypeTree) → HasForm o t → IsBuilderFree r → NamesHaveForms g types → NamesHaveForms (in_body b n x o g) (body_types b n x t r types)
forms_in_body g types b n x o t r h f names =
    forms_bind _ _ x.sym.0 value r f (forms_bind _ _ n.sym.0 value place_type tt (forms_bind _ _ b.sym.0 (own_paths o) t (own_forms [] o t h) (forms_outside g types names)))

-- ---- a builder of the type stands before its own paths

mutual
  whole_below : (t s : Thing) (p : Path) (o : Origin) (u : TypeTree) → HasForm o u → IsWellFormed u → IsBuilder u → HasThing s u → at p t ≡ s → before t (own_below p o) ≡ s
  whole_below t s p value u f w b h e = absurd (not_both u w b f)
  whole_below t s p made u f w b h e = e
  whole_below t s p (own q) u f w b h e = e
  whole_below t s p outer u f w b h e = e
  whole_below t s p (named x q) u f w b h e = e
  whole_below t s p (struct os) (scalar k) f w b h e = absurd f
  whole_below t s p (struct os) (vec v) f w b h e = absurd f
  whole_below t (plain v) p (struct os) (tuple us) f w b h e = absurd (no_builder_value (tuple us) v w b h)
  whole_below t (building d) p (struct os) (tuple us) f w b h e = absurd h
  whole_below t (several ss) p (struct os) (tuple us) f w b h e = ap several (whole_fields t ss zero p os us f.1 w.1 b h.1 (ap fields_of e))
  whole_below t s p (struct os) (dict k v) f w b h e = absurd f
  whole_below t s p (struct os) (build c) f w b h e = absurd f

  whole_fields : (t : Thing) (ss : Things) (n : ℕ) (p : Path) (os : Origins) (us : TypeTrees) → HaveForms os us → AreWellFormed us → AreBuilders us → HaveBuilders ss us → drop_things n (fields_of (at p t)) ≡ ss → all_before t (own_fields n p os) ≡ ss
  whole_fields t no_things n p no_origins no_types f w b h e = refl
  whole_fields t (more_things s ss) n p no_origins no_types f w b h e = absurd h
  whole_fields t ss n p no_origins (more_types u us) f w b h e = absurd f
  whole_fields t ss n p (more_origins o os) no_types f w b h e = absurd f
  whole_fields t no_things n p (more_origins o os) (more_types u us) f w b h e = absurd h
  whole_fields t (more_things (plain v) ss) n p (more_origins o os) (more_types u us) f w b h e = absurd h
  whole_fields t (more_things (building d) ss) n p (more_origins o os) (more_types u us) f w b h e =
      let here : at (n ∷ p) t ≡ building d = first_of-drop_things n (fields_of (at p t)) ∙ ap first_of e in
      let rest : drop_things (suc n) (fields_of (at p t)) ≡ ss = drop_things-suc n (fields_of (at p t)) ∙ ap rest_of e in
      λ i. more_things (whole_below t (building d) (n ∷ p) o u f.0 w.0 b.0 h.0 here i) (whole_fields t ss (suc n) p os us f.1 w.1 b.1 h.1 rest i)
  whole_fields t (more_things (several ds) ss) n p (more_origins o os) (more_types u us) f w b h e =
      let here : at (n ∷ p) t ≡ several ds = first_of-drop_things n (fields_of (at p t)) ∙ ap first_of e in
      let rest : drop_things (suc n) (fields_of (at p t)) ≡ ss = drop_things-suc n (fields_of (at p t)) ∙ ap rest_of e in
      λ i. more_things (whole_below t (several ds) (n ∷ p) o u f.0 w.0 b.0 h.0 here i) (whole_fields t ss (suc n) p os us f.1 w.1 b.1 h.1 rest i)

pub before_own : (s : Thing) (o : Origin) (u : TypeTree) → HasForm o u → IsWellFormed u → IsBuilder u → HasThing s u → before s (own_paths o) ≡ s
before_own s o u f w b h = whole_below s s [] o u f w b h refl
