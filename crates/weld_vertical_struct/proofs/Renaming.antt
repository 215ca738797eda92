-- The names of the parts of a pair as fields of the pair, in origins: what each name is by itself.
use Rattle.std.proofs.Common.{◌≡◌, ◌≢◌, ℕ, zero, suc, ◌==◌, if◌then◌else◌, Bool, true, false, ◌&&◌, [], ◌∷◌, ◌++◌, Option, Some, None, option_map, refl, ap, sym, subst, ◌∙◌, ◌⊎◌, inl, inr, eq-eqb, ne_eqb}
use Rattle.std.proofs.lemmas.Bool.{cases_eq}
use Rattle.weld_tree.specs.ExprTree.{ExprTree}
use Rattle.weld_meaning.specs.Environment.{Named, look_for}
use Rattle.weld_meaning.specs.Origin.{Path, Origin, value, made, own, outer, named, struct, Origins, no_origins, more_origins, origin_at, field_origin, is_value, are_values, struct_origin, known_origin, origin_of_name, named_below, named_fields, by_name}
use Rattle.weld_meaning.specs.Linear.{IsNotMade, AreNotMade, ArmsAgree}
use Rattle.weld_meaning.specs.Available.{field_within}
use Rattle.weld_meaning.specs.Names.{AgreeOn}
use Rattle.weld_substitution.proofs.Bindings.{look_for-by_name}
use Rattle.weld_vertical_struct.proofs.Parts.{Pair, Carrier, Carries, IsPartNumber, IsElse, part, part_first, part_other, IsOfParts, parts, origin_carried}

pub to_end : (w : Path) → w ++ [] ≡ w
to_end [] = refl
to_end (n ∷ w) = ap (λ u. n ∷ u) (to_end w)

module _ (m : Pair) where
  -- a name of a part is a field of the pair
  abbrev pub root : ℕ → ℕ
  root t = if t == m.x then m.s else t

  abbrev pub tail : ℕ → Path
  tail t = if t == m.x then m.i ∷ [] else (if t == m.s then m.j ∷ [] else [])

  abbrev mutual
    pub paired : Origin → Origin
    paired value = value
    paired made = made
    paired (own p) = own p
    paired outer = outer
    paired (named t w) = named (root t) (w ++ tail t)
    paired (struct os) = struct (all_paired os)

    pub all_paired : Origins → Origins
    all_paired no_origins = no_origins
    all_paired (more_origins o os) = more_origins (paired o) (all_paired os)

  -- ---- by the name

  pub root_first : (t : ℕ) → t ≡ m.x → root t ≡ m.s
  root_first t e = rw (eq-eqb t m.x e) refl

  pub tail_first : (t : ℕ) → t ≡ m.x → tail t ≡ m.i ∷ []
  tail_first t e = rw (eq-eqb t m.x e) refl

  pub root_behind : (t : ℕ) → t ≢ m.x → root t ≡ t
  root_behind t e = rw (ne_eqb t m.x e) refl

  pub tail_other : (t : ℕ) → t ≡ m.s → tail t ≡ m.j ∷ []
  tail_other t e = rw (ne_eqb t m.x (λ y. m.apart (sym e ∙ y))) (rw (eq-eqb t m.s e) refl)

  pub tail_else : (t : ℕ) → IsElse m t → tail t ≡ []
  tail_else t h = rw (ne_eqb t m.x h.1) (rw (ne_eqb t m.s h.0) refl)

  pub root_part : (n : ℕ) → IsPartNumber m n → root (part m n) ≡ m.s
  root_part n (inl e) = root_first (part m n) (ap (part m) e ∙ part_first m)
  root_part n (inr e) = let there : part m n ≡ m.s = ap (part m) e ∙ part_other m in root_behind (part m n) (λ y. m.apart (sym there ∙ y)) ∙ there

  pub tail_part : (n : ℕ) → IsPartNumber m n → tail (part m n) ≡ n ∷ []
  tail_part n (inl e) = tail_first (part m n) (ap (part m) e ∙ part_first m) ∙ ap (λ k. k ∷ []) (sym e)
  tail_part n (inr e) = tail_other (part m n) (ap (part m) e ∙ part_other m) ∙ ap (λ k. k ∷ []) (sym e)

  -- ---- it carries origins over

  at_paired : (n : ℕ) (os : Origins) → paired (origin_at n os) ≡ origin_at n (all_paired os)
  at_paired zero no_origins = refl
  at_paired (suc n) no_origins = refl
  at_paired zero (more_origins o os) = refl
  at_paired (suc n) (more_origins o os) = at_paired n os

  pub field_paired : (n : ℕ) (o : Origin) → paired (field_origin n o) ≡ field_origin n (paired o)
  field_paired n value = refl
  field_paired n made = refl
  field_paired n (own p) = refl
  field_paired n outer = refl
  field_paired n (named t w) = refl
  field_paired n (struct os) = at_paired n os

  value_paired : (o : Origin) → is_value (paired o) ≡ is_value o
  value_paired value = refl
  value_paired made = refl
  value_paired (own p) = refl
  value_paired outer = refl
  value_paired (named t w) = refl
  value_paired (struct os) = refl

  values_paired : (os : Origins) → are_values (all_paired os) ≡ are_values os
  values_paired no_origins = refl
  values_paired (more_origins o os) = λ i. value_paired o i && values_paired os i

  pub struct_paired : (os : Origins) → paired (struct_origin os) ≡ struct_origin (all_paired os)
  struct_paired os = by (are_values os) ∙ sym (λ i. if values_paired os i then value else struct (all_paired os))
    where
      by : (b : Bool) → paired (if b then value else struct os) ≡ (if b then value else struct (all_paired os))
      by true = refl
      by false = refl

  abbrev pub pairs : Carrier
  pairs = record {
    to = paired;
    all = all_paired;
    at_value = refl;
    at_made = refl;
    at_none = refl;
    at_more = λ o os. refl;
    at_field = field_paired;
    at_struct = struct_paired;
  }

  -- ---- and back

  abbrev step : ℕ → Path → ℕ × Path → ℕ × Path
  step n [] r = (part m n, [])
  step n (k ∷ w) r = (r.0, n ∷ r.1)

  abbrev way_back : Path → ℕ × Path
  way_back [] = (m.s, [])
  way_back (n ∷ w) = step n w (way_back w)

  step_on : (k n : ℕ) (w : Path) (r : ℕ × Path) → step k (w ++ n ∷ []) r ≡ (r.0, k ∷ r.1)
  step_on k n [] r = refl
  step_on k n (l ∷ w) r = refl

  back_on : (n : ℕ) (w : Path) → way_back (w ++ n ∷ []) ≡ (part m n, w)
  back_on n [] = refl
  back_on n (k ∷ w) = step_on k n w (way_back (w ++ n ∷ [])) ∙ ap (λ (r : ℕ × Path). (r.0, k ∷ r.1)) (back_on n w)

  abbrev mutual
    unpaired : Origin → Origin
    unpaired value = value
    unpaired made = made
    unpaired (own p) = own p
    unpaired outer = outer
    unpaired (named t w) = if t == m.s then named (way_back w).0 (way_back w).1 else named t w
    unpaired (struct os) = struct (all_unpaired os)

    all_unpaired : Origins → Origins
    all_unpaired no_origins = no_origins
    all_unpaired (more_origins o os) = more_origins (unpaired o) (all_unpaired os)

  from_pair : (t n : ℕ) (w : Path) → root t ≡ m.s → tail t ≡ n ∷ [] → part m n ≡ t → unpaired (named (root t) (w ++ tail t)) ≡ named t w
  from_pair t n w e f g =
      (λ i. unpaired (named (e i) (w ++ f i)))
      ∙ ap (λ b. if b then named (way_back (w ++ n ∷ [])).0 (way_back (w ++ n ∷ [])).1 else named m.s (w ++ n ∷ [])) (eq-eqb m.s m.s refl)
      ∙ ap (λ (r : ℕ × Path). named r.0 r.1) (back_on n w)
      ∙ ap (λ u. named u w) g

  from_else : (t : ℕ) (w : Path) → IsElse m t → unpaired (named (root t) (w ++ tail t)) ≡ named t w
  from_else t w h =
      (λ i. unpaired (named (root_behind t h.1 i) (w ++ tail_else t h i)))
      ∙ ap (λ b. if b then named (way_back (w ++ [])).0 (way_back (w ++ [])).1 else named t (w ++ [])) (ne_eqb t m.s h.0)
      ∙ ap (named t) (to_end w)

  named_back : (t : ℕ) (w : Path) → (t ≡ m.x) ⊎ (t ≢ m.x) → unpaired (paired (named t w)) ≡ named t w
  named_back t w (inl e) = from_pair t m.i w (root_first t e) (tail_first t e) (part_first m ∙ sym e)
  named_back t w (inr nx) = by (cases_eq t m.s)
    where
      by : (t ≡ m.s) ⊎ (t ≢ m.s) → unpaired (paired (named t w)) ≡ named t w
      by (inl e) = from_pair t m.j w (root_behind t nx ∙ e) (tail_other t e) (part_other m ∙ sym e)
      by (inr ns) = from_else t w (ns, nx)

  mutual
    there_and_back : (o : Origin) → unpaired (paired o) ≡ o
    there_and_back value = refl
    there_and_back made = refl
    there_and_back (own p) = refl
    there_and_back outer = refl
    there_and_back (named t w) = named_back t w (cases_eq t m.x)
    there_and_back (struct os) = ap struct (all_there_and_back os)

    all_there_and_back : (os : Origins) → all_unpaired (all_paired os) ≡ os
    all_there_and_back no_origins = refl
    all_there_and_back (more_origins o os) = λ i. more_origins (there_and_back o i) (all_there_and_back os i)

  pub same_before : (o u : Origin) → paired o ≡ paired u → o ≡ u
  same_before o u h = sym (there_and_back o) ∙ ap unpaired h ∙ there_and_back u

  mutual
    pub not_made_before : (o : Origin) → IsNotMade (paired o) → IsNotMade o
    not_made_before value h = h
    not_made_before made h = h
    not_made_before (own p) h = h
    not_made_before outer h = h
    not_made_before (named t w) h = tt
    not_made_before (struct os) h = all_not_made_before os h

    all_not_made_before : (os : Origins) → AreNotMade (all_paired os) → AreNotMade os
    all_not_made_before no_origins h = h
    all_not_made_before (more_origins o os) h = (not_made_before o h.0, all_not_made_before os h.1)

  -- ---- names as their own origins

  module _ (n : ℕ) (h : IsPartNumber m n) where
    mutual
      part_below : (w : Path) (o : Origin) → paired (named_below (part m n) w o) ≡ named_below m.s (w ++ n ∷ []) o
      part_below w value = refl
      part_below w made = λ i. named (root_part n h i) (w ++ tail_part n h i)
      part_below w (own q) = λ i. named (root_part n h i) (w ++ tail_part n h i)
      part_below w outer = refl
      part_below w (named t q) = λ i. named (root_part n h i) (w ++ tail_part n h i)
      part_below w (struct os) = ap struct (part_fields zero w os)

      part_fields : (k : ℕ) (w : Path) (os : Origins) → all_paired (named_fields (part m n) k w os) ≡ named_fields m.s k (w ++ n ∷ []) os
      part_fields k w no_origins = refl
      part_fields k w (more_origins o os) = λ i. more_origins (part_below (k ∷ w) o i) (part_fields (suc k) w os i)

  module _ (t : ℕ) (h : IsElse m t) where
    else_there : (w : Path) → paired (named t w) ≡ named t w
    else_there w = (λ i. named (root_behind t h.1 i) (w ++ tail_else t h i)) ∙ ap (named t) (to_end w)

    mutual
      else_below : (w : Path) (o : Origin) → paired (named_below t w o) ≡ named_below t w o
      else_below w value = refl
      else_below w made = else_there w
      else_below w (own q) = else_there w
      else_below w outer = refl
      else_below w (named u q) = else_there w
      else_below w (struct os) = ap struct (else_fields zero w os)

      else_fields : (k : ℕ) (w : Path) (os : Origins) → all_paired (named_fields t k w os) ≡ named_fields t k w os
      else_fields k w no_origins = refl
      else_fields k w (more_origins o os) = λ i. more_origins (else_below (k ∷ w) o i) (else_fields (suc k) w os i)

  -- ---- the names of the parts stand for the parts

  -- where the pair is this, its part of that number is that
  pub record IsPartOf (o : Origin) (n : ℕ) (u : Origin) : Type 0 where
    pub from : field_origin n o ≡ u
    pub leads : field_within n o ≡ u
    pub below : field_origin n (named_below m.s [] o) ≡ named_below m.s (n ∷ []) u

  pub record ArePaired (p q : Named Origin) : Type 0 where
    pub parts : (n : ℕ) → IsPartNumber m n → IsPartOf (origin_of_name m.s p) n (origin_of_name (part m n) q)
    pub others : AgreeOn (IsElse m) p q

  named_there : (t : ℕ) (g : Named Origin) → origin_of_name t (by_name g) ≡ named_below t [] (origin_of_name t g)
  named_there t g = ap known_origin (look_for-by_name t g) ∙ by (look_for t g)
    where
      by : (o : Option Origin) → known_origin (option_map (named_below t []) o) ≡ named_below t [] (known_origin o)
      by (Some o) = refl
      by None = refl

  pub paired_by_name : (p q : Named Origin) → ArePaired p q → Carries m pairs (by_name p) (by_name q)
  paired_by_name p q r = record {
    parts = λ n h. ap (field_origin n) (named_there m.s p) ∙ (r.parts n h).below ∙ sym (part_below n h [] (origin_of_name (part m n) q)) ∙ sym (ap paired (named_there (part m n) q));
    others = λ t h. named_there t p ∙ ap (λ o. named_below t [] (known_origin o)) (r.others.agree t h) ∙ sym (else_below t h [] (origin_of_name t q)) ∙ sym (ap paired (named_there t q));
  }

  pub arms_paired : (e f : ExprTree) (p q : Named Origin) → IsOfParts m e → IsOfParts m f → ArePaired p q → ArmsAgree e f p → ArmsAgree (parts m e) (parts m f) q
  arms_paired e f p q h k r w =
      let names = paired_by_name p q r in
      let x = origin_carried m pairs e (by_name p) (by_name q) h names in let y = origin_carried m pairs f (by_name p) (by_name q) k names in
      record {
        same = same_before _ _ (sym x ∙ w.same ∙ y);
        not_made = not_made_before _ (subst IsNotMade x w.not_made);
      }
