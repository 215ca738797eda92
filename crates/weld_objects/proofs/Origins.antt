-- Where the builders of an expression come from, under other numbers: the same, the names in it under their new numbers.
use Rattle.std.proofs.Common.{◌≡◌, ℕ, zero, suc, ◌==◌, Bool, true, false, ◌&&◌, if◌then◌else◌, [], ◌∷◌, Option, Some, refl, ap, sym, subst, ◌∙◌, inl, inr, ◌⊎◌, eqb-true}
use Rattle.weld_tree.specs.declared.binder.Binder.{Binder}
use Rattle.weld_tree.specs.ExprTree.{ExprTree, leaf, one, two, three, many, let_in, loop, iterate, ExprTrees, no_exprs, more_exprs, Leaf, int, truth, chars, name, fresh, One, neg, not, cast, len, field, finish, started, Two, binary, and, or, look_up, key_exists, merge, Three, if_else, select, slice, Many, make_vec, make_struct}
use Rattle.weld_meaning.specs.Environment.{Named, look_for}
use Rattle.weld_meaning.specs.Names.{Binds, AllBind}
use Rattle.weld_meaning.specs.Origin.{Path, Origin, value, made, own, outer, named, struct, Origins, no_origins, more_origins, origin_at, field_origin, is_value, are_values, struct_origin, known_origin, origin_of_name, leaf_origin, one_origin, two_origin, three_origin, many_origin, origin, origins, own_below, own_fields, own_paths, from_within, all_from_within, outside, in_body, in_turn, named_below, named_fields, by_name}
use Rattle.weld_meaning.proofs.Before.{origin_outside}
use Rattle.weld_objects.specs.Renamed.{Renaming, renamed_binder, renamed_leaf, renamed, all_renamed, IsAlone}
use Rattle.weld_objects.specs.RenamedOrigins.{renamed_origin, origins_renamed, HoldsAlone, AllHoldAlone, OriginsHaveMoved}
use Rattle.weld_objects.proofs.Numbers.{alone_second}

-- ---- one origin

pub at_renamed : (r : Renaming) (n : ℕ) (os : Origins) → origin_at n (origins_renamed r os) ≡ renamed_origin r (origin_at n os)
at_renamed r zero no_origins = refl
at_renamed r (suc n) no_origins = refl
at_renamed r zero (more_origins o os) = refl
at_renamed r (suc n) (more_origins o os) = at_renamed r n os

pub field_renamed : (r : Renaming) (n : ℕ) (o : Origin) → field_origin n (renamed_origin r o) ≡ renamed_origin r (field_origin n o)
field_renamed r n value = refl
field_renamed r n made = refl
field_renamed r n (own p) = refl
field_renamed r n outer = refl
field_renamed r n (named s p) = refl
field_renamed r n (struct os) = at_renamed r n os

pub value_renamed : (r : Renaming) (o : Origin) → is_value (renamed_origin r o) ≡ is_value o
value_renamed r value = refl
value_renamed r made = refl
value_renamed r (own p) = refl
value_renamed r outer = refl
value_renamed r (named s p) = refl
value_renamed r (struct os) = refl

values_renamed : (r : Renaming) (os : Origins) → are_values (origins_renamed r os) ≡ are_values os
values_renamed r no_origins = refl
values_renamed r (more_origins o os) = λ i. value_renamed r o i && values_renamed r os i

struct_renamed : (r : Renaming) (os : Origins) → struct_origin (origins_renamed r os) ≡ renamed_origin r (struct_origin os)
struct_renamed r os = (λ i. if values_renamed r os i then value else struct (origins_renamed r os)) ∙ by (are_values os)
  where
    by : (b : Bool) → (if b then value else struct (origins_renamed r os)) ≡ renamed_origin r (if b then value else struct os)
    by true = refl
    by false = refl

mutual
  own_renamed : (r : Renaming) (p : Path) (o : Origin) → own_below p (renamed_origin r o) ≡ renamed_origin r (own_below p o)
  own_renamed r p value = refl
  own_renamed r p made = refl
  own_renamed r p (own q) = refl
  own_renamed r p outer = refl
  own_renamed r p (named s q) = refl
  own_renamed r p (struct os) = ap struct (own_fields_renamed r zero p os)

  own_fields_renamed : (r : Renaming) (n : ℕ) (p : Path) (os : Origins) → own_fields n p (origins_renamed r os) ≡ origins_renamed r (own_fields n p os)
  own_fields_renamed r n p no_origins = refl
  own_fields_renamed r n p (more_origins o os) = λ i. more_origins (own_renamed r (n ∷ p) o i) (own_fields_renamed r (suc n) p os i)

pub own_paths_renamed : (r : Renaming) (o : Origin) → own_paths (renamed_origin r o) ≡ renamed_origin r (own_paths o)
own_paths_renamed r o = own_renamed r [] o

mutual
  within_renamed : (r : Renaming) (o : Origin) → from_within (renamed_origin r o) ≡ renamed_origin r (from_within o)
  within_renamed r value = refl
  within_renamed r made = refl
  within_renamed r (own p) = refl
  within_renamed r outer = refl
  within_renamed r (named s p) = refl
  within_renamed r (struct os) = ap struct (all_within_renamed r os)

  all_within_renamed : (r : Renaming) (os : Origins) → all_from_within (origins_renamed r os) ≡ origins_renamed r (all_from_within os)
  all_within_renamed r no_origins = refl
  all_within_renamed r (more_origins o os) = λ i. more_origins (within_renamed r o i) (all_within_renamed r os i)

mutual
  named_renamed : (r : Renaming) (s : ℕ) (p : Path) (o : Origin) → named_below (r s) p (renamed_origin r o) ≡ renamed_origin r (named_below s p o)
  named_renamed r s p value = refl
  named_renamed r s p made = refl
  named_renamed r s p (own q) = refl
  named_renamed r s p outer = refl
  named_renamed r s p (named t q) = refl
  named_renamed r s p (struct os) = ap struct (named_fields_renamed r s zero p os)

  named_fields_renamed : (r : Renaming) (s n : ℕ) (p : Path) (os : Origins) → named_fields (r s) n p (origins_renamed r os) ≡ origins_renamed r (named_fields s n p os)
  named_fields_renamed r s n p no_origins = refl
  named_fields_renamed r s n p (more_origins o os) = λ i. more_origins (named_renamed r s (n ∷ p) o i) (named_fields_renamed r s (suc n) p os i)

-- ---- the names in an origin

at_holds : (r : Renaming) (n : ℕ) (os : Origins) → AllHoldAlone r os → HoldsAlone r (origin_at n os)
at_holds r zero no_origins h = tt
at_holds r (suc n) no_origins h = tt
at_holds r zero (more_origins o os) h = h.0
at_holds r (suc n) (more_origins o os) h = at_holds r n os h.1

field_holds : (r : Renaming) (n : ℕ) (o : Origin) → HoldsAlone r o → HoldsAlone r (field_origin n o)
field_holds r n value h = tt
field_holds r n made h = tt
field_holds r n (own p) h = tt
field_holds r n outer h = tt
field_holds r n (named s p) h = h
field_holds r n (struct os) h = at_holds r n os h

struct_holds : (r : Renaming) (os : Origins) → AllHoldAlone r os → HoldsAlone r (struct_origin os)
struct_holds r os h = by (are_values os)
  where
    by : (b : Bool) → HoldsAlone r (if b then value else struct os)
    by true = tt
    by false = h

mutual
  pub own_holds : (r : Renaming) (p : Path) (o : Origin) → HoldsAlone r (own_below p o)
  own_holds r p value = tt
  own_holds r p made = tt
  own_holds r p (own q) = tt
  own_holds r p outer = tt
  own_holds r p (named s q) = tt
  own_holds r p (struct os) = own_fields_hold r zero p os

  own_fields_hold : (r : Renaming) (n : ℕ) (p : Path) (os : Origins) → AllHoldAlone r (own_fields n p os)
  own_fields_hold r n p no_origins = tt
  own_fields_hold r n p (more_origins o os) = (own_holds r (n ∷ p) o, own_fields_hold r (suc n) p os)

mutual
  within_holds : (r : Renaming) (o : Origin) → HoldsAlone r (from_within o)
  within_holds r value = tt
  within_holds r made = tt
  within_holds r (own p) = tt
  within_holds r outer = tt
  within_holds r (named s p) = tt
  within_holds r (struct os) = all_within_hold r os

  all_within_hold : (r : Renaming) (os : Origins) → AllHoldAlone r (all_from_within os)
  all_within_hold r no_origins = tt
  all_within_hold r (more_origins o os) = (within_holds r o, all_within_hold r os)

mutual
  named_holds : (r : Renaming) (s : ℕ) (p : Path) (o : Origin) → IsAlone r s → HoldsAlone r (named_below s p o)
  named_holds r s p value a = tt
  named_holds r s p made a = a
  named_holds r s p (own q) a = a
  named_holds r s p outer a = tt
  named_holds r s p (named t q) a = a
  named_holds r s p (struct os) a = named_fields_hold r s zero p os a

  named_fields_hold : (r : Renaming) (s n : ℕ) (p : Path) (os : Origins) → IsAlone r s → AllHoldAlone r (named_fields s n p os)
  named_fields_hold r s n p no_origins a = tt
  named_fields_hold r s n p (more_origins o os) a = (named_holds r s (n ∷ p) o a, named_fields_hold r s (suc n) p os a)

-- ---- environments

pub bind_moves : (r : Renaming) (b : ℕ) (o p : Origin) (g h : Named Origin) → IsAlone r b → p ≡ renamed_origin r o → HoldsAlone r o → OriginsHaveMoved r g h → OriginsHaveMoved r ((b, o) ∷ g) ((r b, p) ∷ h)
bind_moves r b o p g h a e holds m = record {
  same = λ s. (λ i. known_origin (if alone_second r s b a i then Some (e i) else look_for (r s) h)) ∙ same_by (s == b) (look_for s g) (look_for (r s) h) (m.same s);
  alone = λ s. alone_by s (s == b) refl (look_for s g) (m.alone s);
  holds = λ s. holds_by (s == b) (look_for s g) (m.holds s);
}
  where
    same_by : (c : Bool) (x y : Option Origin) → known_origin y ≡ renamed_origin r (known_origin x) → known_origin (if c then Some (renamed_origin r o) else y) ≡ renamed_origin r (known_origin (if c then Some o else x))
    same_by true x y k = refl
    same_by false x y k = k

    alone_by : (s : ℕ) (c : Bool) → (s == b) ≡ c → (x : Option Origin) → (known_origin x ≡ value) ⊎ IsAlone r s → (known_origin (if c then Some o else x) ≡ value) ⊎ IsAlone r s
    alone_by s true q x k = inr (subst (IsAlone r) (sym (eqb-true s b q)) a)
    alone_by s false q x k = k

    holds_by : (c : Bool) (x : Option Origin) → HoldsAlone r (known_origin x) → HoldsAlone r (known_origin (if c then Some o else x))
    holds_by true x k = holds
    holds_by false x k = k

outside_moves : (r : Renaming) (g h : Named Origin) → OriginsHaveMoved r g h → OriginsHaveMoved r (outside g) (outside h)
outside_moves r g h m = record {
  same = λ s. origin_outside (r s) h ∙ ap from_within (m.same s) ∙ within_renamed r (origin_of_name s g) ∙ ap (renamed_origin r) (sym (origin_outside s g));
  alone = λ s. by s (m.alone s);
  holds = λ s. subst (HoldsAlone r) (sym (origin_outside s g)) (within_holds r (origin_of_name s g));
}
  where
    by : (s : ℕ) → (origin_of_name s g ≡ value) ⊎ IsAlone r s → (origin_of_name s (outside g) ≡ value) ⊎ IsAlone r s
    by s (inl e) = inl (origin_outside s g ∙ ap from_within e)
    by s (inr a) = inr a

origin_by_name : (x : ℕ) (g : Named Origin) → origin_of_name x (by_name g) ≡ named_below x [] (origin_of_name x g)
origin_by_name x [] = refl
origin_by_name x (e ∷ es) = by (x == e.0) refl (origin_by_name x es)
  where
    by : (c : Bool) → (x == e.0) ≡ c → known_origin (look_for x (by_name es)) ≡ named_below x [] (known_origin (look_for x es)) → known_origin (if c then Some (named_below e.0 [] e.1) else look_for x (by_name es)) ≡ named_below x [] (known_origin (if c then Some e.1 else look_for x es))
    by true q k = ap (λ s. named_below s [] e.1) (sym (eqb-true x e.0 q))
    by false q k = k

pub by_name_moves : (r : Renaming) (g h : Named Origin) → OriginsHaveMoved r g h → OriginsHaveMoved r (by_name g) (by_name h)
by_name_moves r g h m = record {
  same = λ s. origin_by_name (r s) h ∙ ap (named_below (r s) []) (m.same s) ∙ named_renamed r s [] (origin_of_name s g) ∙ ap (renamed_origin r) (sym (origin_by_name s g));
  alone = λ s. alone_by s (m.alone s);
  holds = λ s. subst (HoldsAlone r) (sym (origin_by_name s g)) (holds_by s (m.alone s));
}
  where
    alone_by : (s : ℕ) → (origin_of_name s g ≡ value) ⊎ IsAlone r s → (origin_of_name s (by_name g) ≡ value) ⊎ IsAlone r s
    alone_by s (inl e) = inl (origin_by_name s g ∙ ap (named_below s []) e)
    alone_by s (inr a) = inr a

    holds_by : (s : ℕ) → (origin_of_name s g ≡ value) ⊎ IsAlone r s → HoldsAlone r (named_below s [] (origin_of_name s g))
    holds_by s (inl e) = subst (λ o. HoldsAlone r (named_below s [] o)) (sym e) tt
    holds_by s (inr a) = named_holds r s [] (origin_of_name s g) a

-- in the body of a loop and of an `iterate`
pub body_moves : (r : Renaming) (b n x : Binder) (o p : Origin) (g h : Named Origin) → IsAlone r b.sym.0 → IsAlone r n.sym.0 → IsAlone r x.sym.0 → p ≡ renamed_origin r o → OriginsHaveMoved r g h → OriginsHaveMoved r (in_body b n x o g) (in_body (renamed_binder r b) (renamed_binder r n) (renamed_binder r x) p h)
body_moves r b n x o p g h ab an ax e m =
    bind_moves r x.sym.0 value value _ _ ax refl tt (bind_moves r n.sym.0 value value _ _ an refl tt
    (bind_moves r b.sym.0 (own_paths o) (own_paths p) _ _ ab (ap own_paths e ∙ own_paths_renamed r o) (own_holds r [] o) (outside_moves r g h m)))

pub turn_moves : (r : Renaming) (b : Binder) (g h : Named Origin) → IsAlone r b.sym.0 → OriginsHaveMoved r g h → OriginsHaveMoved r (in_turn b g) (in_turn (renamed_binder r b) h)
turn_moves r b g h a m = bind_moves r b.sym.0 value value _ _ a refl tt (outside_moves r g h m)

-- ---- expressions

record Holding (r : Renaming) (g : Named Origin) : Type 0 where
  holding : (s : ℕ) → HoldsAlone r (origin_of_name s g)

holding_bind : (r : Renaming) (b : ℕ) (o : Origin) (g : Named Origin) → HoldsAlone r o → Holding r g → Holding r ((b, o) ∷ g)
holding_bind r b o g h m = record { holding = λ s. by (s == b) (look_for s g) (m.holding s) }
  where
    by : (c : Bool) (x : Option Origin) → HoldsAlone r (known_origin x) → HoldsAlone r (known_origin (if c then Some o else x))
    by true x k = h
    by false x k = k

leaf_holds : (r : Renaming) (l : Leaf) (g : Named Origin) → Holding r g → HoldsAlone r (leaf_origin l g)
leaf_holds r (int k x) g m = tt
leaf_holds r (truth b) g m = tt
leaf_holds r (chars bs) g m = tt
leaf_holds r (name s) g m = m.holding s
leaf_holds r (fresh b) g m = tt

one_holds : (r : Renaming) (o : One) (u : Origin) → HoldsAlone r u → HoldsAlone r (one_origin o u)
one_holds r neg u h = tt
one_holds r not u h = tt
one_holds r (cast k) u h = tt
one_holds r len u h = tt
one_holds r (field n) u h = field_holds r n u h
one_holds r finish u h = tt
one_holds r (started b) u h = tt

two_holds : (r : Renaming) (o : Two) (u : Origin) → HoldsAlone r u → HoldsAlone r (two_origin o u)
two_holds r (binary op) u h = tt
two_holds r and u h = tt
two_holds r or u h = tt
two_holds r look_up u h = tt
two_holds r key_exists u h = tt
two_holds r merge u h = h

three_holds : (r : Renaming) (o : Three) (u : Origin) → HoldsAlone r u → HoldsAlone r (three_origin o u)
three_holds r if_else u h = h
three_holds r select u h = tt
three_holds r slice u h = tt

many_holds : (r : Renaming) (o : Many) (us : Origins) → AllHoldAlone r us → HoldsAlone r (many_origin o us)
many_holds r make_vec us h = tt
many_holds r make_struct us h = struct_holds r us h

mutual
  holds : (r : Renaming) (e : ExprTree) (g : Named Origin) → Holding r g → HoldsAlone r (origin e g)
  holds r (leaf a l) g m = leaf_holds r l g m
  holds r (one a o e) g m = one_holds r o (origin e g) (holds r e g m)
  holds r (two a o e f) g m = two_holds r o (origin e g) (holds r e g m)
  holds r (three a o c e f) g m = three_holds r o (origin e g) (holds r e g m)
  holds r (many a o es) g m = many_holds r o (origins es g) (all_hold r es g m)
  holds r (let_in a b e f) g m = holds r f ((b.sym.0, origin e g) ∷ g) (holding_bind r b.sym.0 (origin e g) g (holds r e g m) m)
  holds r (loop a ls e b n x f) g m = holds r e g m
  holds r (iterate a e b f) g m = tt

  all_hold : (r : Renaming) (es : ExprTrees) (g : Named Origin) → Holding r g → AllHoldAlone r (origins es g)
  all_hold r no_exprs g m = tt
  all_hold r (more_exprs e es) g m = (holds r e g m, all_hold r es g m)

pub origin_holds : (r : Renaming) (e : ExprTree) (g h : Named Origin) → OriginsHaveMoved r g h → HoldsAlone r (origin e g)
origin_holds r e g h m = holds r e g (record { holding = m.holds })

leaf_moves : (r : Renaming) (l : Leaf) (g h : Named Origin) → OriginsHaveMoved r g h → leaf_origin (renamed_leaf r l) h ≡ renamed_origin r (leaf_origin l g)
leaf_moves r (int k x) g h m = refl
leaf_moves r (truth b) g h m = refl
leaf_moves r (chars bs) g h m = refl
leaf_moves r (name s) g h m = m.same s
leaf_moves r (fresh b) g h m = refl

one_moves : (r : Renaming) (o : One) (u : Origin) → one_origin o (renamed_origin r u) ≡ renamed_origin r (one_origin o u)
one_moves r neg u = refl
one_moves r not u = refl
one_moves r (cast k) u = refl
one_moves r len u = refl
one_moves r (field n) u = field_renamed r n u
one_moves r finish u = refl
one_moves r (started b) u = refl

two_moves : (r : Renaming) (o : Two) (u : Origin) → two_origin o (renamed_origin r u) ≡ renamed_origin r (two_origin o u)
two_moves r (binary op) u = refl
two_moves r and u = refl
two_moves r or u = refl
two_moves r look_up u = refl
two_moves r key_exists u = refl
two_moves r merge u = refl

three_moves : (r : Renaming) (o : Three) (u : Origin) → three_origin o (renamed_origin r u) ≡ renamed_origin r (three_origin o u)
three_moves r if_else u = refl
three_moves r select u = refl
three_moves r slice u = refl

many_moves : (r : Renaming) (o : Many) (us : Origins) → many_origin o (origins_renamed r us) ≡ renamed_origin r (many_origin o us)
many_moves r make_vec us = refl
many_moves r make_struct us = struct_renamed r us

mutual
  pub origin_moves : (r : Renaming) (e : ExprTree) (g h : Named Origin) → Binds (IsAlone r) e → OriginsHaveMoved r g h → origin (renamed r e) h ≡ renamed_origin r (origin e g)
  origin_moves r (leaf a l) g h b m = leaf_moves r l g h m
  origin_moves r (one a o e) g h b m = ap (one_origin o) (origin_moves r e g h b m) ∙ one_moves r o (origin e g)
  origin_moves r (two a o e f) g h b m = ap (two_origin o) (origin_moves r e g h b.0 m) ∙ two_moves r o (origin e g)
  origin_moves r (three a o c e f) g h b m = ap (three_origin o) (origin_moves r e g h b.1 m) ∙ three_moves r o (origin e g)
  origin_moves r (many a o es) g h b m = ap (many_origin o) (all_origins_move r es g h b m) ∙ many_moves r o (origins es g)
  origin_moves r (let_in a x e f) g h b m =
      origin_moves r f ((x.sym.0, origin e g) ∷ g) ((r x.sym.0, origin (renamed r e) h) ∷ h) b.2
      (bind_moves r x.sym.0 (origin e g) (origin (renamed r e) h) g h b.0 (origin_moves r e g h b.1 m) (origin_holds r e g h m) m)
  origin_moves r (loop a ls e s n x f) g h b m = origin_moves r e g h b.4 m
  origin_moves r (iterate a e x f) g h b m = refl

  all_origins_move : (r : Renaming) (es : ExprTrees) (g h : Named Origin) → AllBind (IsAlone r) es → OriginsHaveMoved r g h → origins (all_renamed r es) h ≡ origins_renamed r (origins es g)
  all_origins_move r no_exprs g h b m = refl
  all_origins_move r (more_exprs e es) g h b m = λ i. more_origins (origin_moves r e g h b.0 m i) (all_origins_move r es g h b.1 m i)
