-- Each name as its own origin, with another loop's builder in the place of the list's; and what stands around a lambda.
use Rattle.std.proofs.Common.{◌≡◌, ℕ, zero, suc, Bool, false, ◌||◌, [], ◌∷◌, Option, Some, None, option_map, refl, ap, sym, subst, ◌∙◌}
use Rattle.weld_tree.specs.declared.binder.Binder.{Binder}
use Rattle.weld_tree.specs.TypeTree.{TypeTree}
use Rattle.weld_tree.specs.ExprTree.{ExprTree}
use Rattle.weld_meaning.specs.Environment.{Named, look_for}
use Rattle.weld_meaning.specs.Origin.{Path, Origin, value, made, own, outer, named, struct, Origins, no_origins, more_origins, known_origin, origin_of_name, own_below, own_fields, from_within, all_from_within, named_below, named_fields, by_name}
use Rattle.weld_meaning.specs.Linear.{IsSeen, AreSeen, IsNotOwn, IsNotMade, AreNotMade}
use Rattle.weld_meaning.proofs.Before.{look_for-map}
use Rattle.weld_substitution.proofs.Bindings.{look_for-by_name}
use Rattle.weld_handing.specs.Handing.{holds, some_hold}
use Rattle.weld_handing.proofs.Traces.{grown, handed_origin, handed_origins, Alike, AllAlike}
use Rattle.weld_handing.proofs.Answering.{Names}

-- ---- what is seen, and what wasn't made

mutual
  below_seen : (p : Path) (o : Origin) → IsSeen (own_below p o)
  below_seen p value = tt
  below_seen p made = tt
  below_seen p (own q) = tt
  below_seen p outer = tt
  below_seen p (named s q) = tt
  below_seen p (struct os) = fields_seen zero p os

  fields_seen : (n : ℕ) (p : Path) (os : Origins) → AreSeen (own_fields n p os)
  fields_seen n p no_origins = tt
  fields_seen n p (more_origins o os) = (below_seen (n ∷ p) o, fields_seen (suc n) p os)

mutual
  -- with the other loop's builder in place of the list's it is seen where it was
  pub handed_seen : (start o : Origin) → IsSeen o → IsSeen (handed_origin start o o)
  handed_seen start value h = tt
  handed_seen start made h = tt
  handed_seen start (own p) h = below_seen p start
  handed_seen start outer h = absurd h
  handed_seen start (named s p) h = tt
  handed_seen start (struct os) h = all_handed_seen start os h

  all_handed_seen : (start : Origin) (os : Origins) → AreSeen os → AreSeen (handed_origins start os os)
  all_handed_seen start no_origins h = tt
  all_handed_seen start (more_origins o os) h = (handed_seen start o h.0, all_handed_seen start os h.1)

-- and it isn't the own builder where it wasn't
pub handed_not_own : (start o : Origin) → IsNotOwn o → IsNotOwn (handed_origin start o o)
handed_not_own start value h = tt
handed_not_own start made h = tt
handed_not_own start (own p) h = absurd h
handed_not_own start outer h = tt
handed_not_own start (named s p) h = tt
handed_not_own start (struct os) h = tt

mutual
  below_not_made : (p : Path) (o : Origin) → IsNotMade (own_below p o)
  below_not_made p value = tt
  below_not_made p made = tt
  below_not_made p (own q) = tt
  below_not_made p outer = tt
  below_not_made p (named s q) = tt
  below_not_made p (struct os) = fields_not_made zero p os

  fields_not_made : (n : ℕ) (p : Path) (os : Origins) → AreNotMade (own_fields n p os)
  fields_not_made n p no_origins = tt
  fields_not_made n p (more_origins o os) = (below_not_made (n ∷ p) o, fields_not_made (suc n) p os)

mutual
  named_not_made : (s : ℕ) (p w : Path) (o : Origin) → IsNotMade (named_below s p (own_below w o))
  named_not_made s p w value = tt
  named_not_made s p w made = tt
  named_not_made s p w (own q) = tt
  named_not_made s p w outer = tt
  named_not_made s p w (named t q) = tt
  named_not_made s p w (struct os) = named_fields_not_made s zero p zero w os

  named_fields_not_made : (s n : ℕ) (p : Path) (m : ℕ) (w : Path) (os : Origins) → AreNotMade (named_fields s n p (own_fields m w os))
  named_fields_not_made s n p m w no_origins = tt
  named_fields_not_made s n p m w (more_origins o os) = (named_not_made s (n ∷ p) (m ∷ w) o, named_fields_not_made s (suc n) p (suc m) w os)

grown_not_made : (start u : Origin) → IsNotMade u → IsNotMade (grown start u)
grown_not_made start value h = tt
grown_not_made start made h = absurd h
grown_not_made start (own p) h = below_not_made p start
grown_not_made start outer h = tt
grown_not_made start (named s p) h = named_not_made s p [] start
grown_not_made start (struct os) h = h

mutual
  -- and nothing in it was made there where nothing was
  pub handed_not_made : (start o u : Origin) → IsNotMade u → IsNotMade (handed_origin start o u)
  handed_not_made start value u h = h
  handed_not_made start made u h = h
  handed_not_made start (own p) u h = grown_not_made start u h
  handed_not_made start outer u h = h
  handed_not_made start (named s p) u h = h
  handed_not_made start (struct os) value h = h
  handed_not_made start (struct os) made h = h
  handed_not_made start (struct os) (own p) h = h
  handed_not_made start (struct os) outer h = h
  handed_not_made start (struct os) (named s p) h = h
  handed_not_made start (struct os) (struct us) h = all_handed_not_made start os us h

  all_handed_not_made : (start : Origin) (os us : Origins) → AreNotMade us → AreNotMade (handed_origins start os us)
  all_handed_not_made start no_origins us h = h
  all_handed_not_made start (more_origins o os) no_origins h = h
  all_handed_not_made start (more_origins o os) (more_origins u us) h = (handed_not_made start o u h.0, all_handed_not_made start os us h.1)

-- ---- each name as its own origin

mutual
  -- only the shape of what stands below a name counts
  named_shape : (s : ℕ) (p w v : Path) (o : Origin) → named_below s p (own_below w o) ≡ named_below s p (own_below v o)
  named_shape s p w v value = refl
  named_shape s p w v made = refl
  named_shape s p w v (own q) = refl
  named_shape s p w v outer = refl
  named_shape s p w v (named t q) = refl
  named_shape s p w v (struct os) = ap struct (named_fields_shape s zero p zero w zero v os)

  named_fields_shape : (s n : ℕ) (p : Path) (m : ℕ) (w : Path) (k : ℕ) (v : Path) (os : Origins) → named_fields s n p (own_fields m w os) ≡ named_fields s n p (own_fields k v os)
  named_fields_shape s n p m w k v no_origins = refl
  named_fields_shape s n p m w k v (more_origins o os) = λ i. more_origins (named_shape s (n ∷ p) (m ∷ w) (k ∷ v) o i) (named_fields_shape s (suc n) p (suc m) w (suc k) v os i)

mutual
  named_handed : (start : Origin) (s : ℕ) (p : Path) (o : Origin) → named_below s p (handed_origin start o o) ≡ handed_origin start o (named_below s p o)
  named_handed start s p value = refl
  named_handed start s p made = refl
  named_handed start s p (own w) = named_shape s p w [] start
  named_handed start s p outer = refl
  named_handed start s p (named t w) = refl
  named_handed start s p (struct os) = ap struct (named_fields_handed start s zero p os)

  named_fields_handed : (start : Origin) (s n : ℕ) (p : Path) (os : Origins) → named_fields s n p (handed_origins start os os) ≡ handed_origins start os (named_fields s n p os)
  named_fields_handed start s n p no_origins = refl
  named_fields_handed start s n p (more_origins o os) = λ i. more_origins (named_handed start s (n ∷ p) o i) (named_fields_handed start s (suc n) p os i)

mutual
  named_alike : (s : ℕ) (p : Path) (o : Origin) → Alike o o → Alike o (named_below s p o)
  named_alike s p value h = tt
  named_alike s p made h = tt
  named_alike s p (own w) h = (h.0, tt)
  named_alike s p outer h = tt
  named_alike s p (named t w) h = tt
  named_alike s p (struct os) h = named_fields_alike s zero p os h

  named_fields_alike : (s n : ℕ) (p : Path) (os : Origins) → AllAlike os os → AllAlike os (named_fields s n p os)
  named_fields_alike s n p no_origins h = tt
  named_fields_alike s n p (more_origins o os) h = (named_alike s (n ∷ p) o h.0, named_fields_alike s (suc n) p os h.1)

mutual
  named_within : (s : ℕ) (p : Path) (o : Origin) → named_below s p (from_within o) ≡ from_within o
  named_within s p value = refl
  named_within s p made = refl
  named_within s p (own w) = refl
  named_within s p outer = refl
  named_within s p (named t w) = refl
  named_within s p (struct os) = ap struct (named_fields_within s zero p os)

  named_fields_within : (s n : ℕ) (p : Path) (os : Origins) → named_fields s n p (all_from_within os) ≡ all_from_within os
  named_fields_within s n p no_origins = refl
  named_fields_within s n p (more_origins o os) = λ i. more_origins (named_within s (n ∷ p) o i) (named_fields_within s (suc n) p os i)

pub name_by_name : (s : ℕ) (q : Named Origin) → origin_of_name s (by_name q) ≡ named_below s [] (origin_of_name s q)
name_by_name s q = ap known_origin (look_for-by_name s q) ∙ known (look_for s q)
  where
    known : (m : Option Origin) → known_origin (option_map (named_below s []) m) ≡ named_below s [] (known_origin m)
    known (Some o) = refl
    known None = refl

module _ (t : TypeTree) (i : ℕ) (c n x : Binder) (f : ExprTree) (start : Origin) (around : Named Origin) where
  abbrev These : Named Origin → Named Origin → Named Origin → Type 0
  These q k l = Names t i c n x f start around q k l

  -- names that stand for what they stand for, with the other loop's builder in place of the list's, do so as their own origins
  pub names_by_name : (q l : Named Origin) → These q q l → These q (by_name q) (by_name l)
  names_by_name q l r = record {
    alike = λ s. subst (Alike (origin_of_name s q)) (sym (name_by_name s q)) (named_alike s [] (origin_of_name s q) (r.alike s));
    handed = λ s. look_for-by_name s l ∙ ap (option_map (named_below s [])) (r.handed s) ∙ by s (look_for s q) refl ∙ ap (option_map (handed_origin start (origin_of_name s q))) (sym (look_for-by_name s q));
    behind = record { agree = λ s h. sym (look_for-by_name s l ∙ ap (option_map (named_below s [])) (sym (r.behind.agree s h) ∙ look_for-map from_within s around) ∙ within s (look_for s around) ∙ sym (look_for-map from_within s around)) };
    number = name_by_name i l ∙ ap (named_below i []) r.number;
  }
    where
      by : (s : ℕ) (m : Option Origin) → look_for s q ≡ m → option_map (named_below s []) (option_map (handed_origin start (origin_of_name s q)) m) ≡ option_map (handed_origin start (origin_of_name s q)) (option_map (named_below s []) m)
      by s None e = refl
      by s (Some o) e =
          subst (λ y. Some (named_below s [] (handed_origin start y o)) ≡ Some (handed_origin start y (named_below s [] o))) (sym (ap known_origin e)) (ap Some (named_handed start s [] o))

      within : (s : ℕ) (m : Option Origin) → option_map (named_below s []) (option_map from_within m) ≡ option_map from_within m
      within s None = refl
      within s (Some o) = ap Some (named_within s [] o)

-- ---- what is seen from within a lambda holds nothing

neither : (a b : Bool) → a ≡ false → b ≡ false → (a || b) ≡ false
neither a b d e = ap (λ y. y || b) d ∙ e

mutual
  pub seen_holds_none : (o : Origin) → IsSeen (from_within o) → holds o ≡ false
  seen_holds_none value h = refl
  seen_holds_none made h = refl
  seen_holds_none (own p) h = absurd h
  seen_holds_none outer h = refl
  seen_holds_none (named s p) h = refl
  seen_holds_none (struct os) h = all_seen_hold_none os h

  all_seen_hold_none : (os : Origins) → AreSeen (all_from_within os) → some_hold os ≡ false
  all_seen_hold_none no_origins h = refl
  all_seen_hold_none (more_origins o os) h = neither (holds o) (some_hold os) (seen_holds_none o h.0) (all_seen_hold_none os h.1)
