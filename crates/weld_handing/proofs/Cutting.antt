-- Paths that go on behind the list's builder, cut off there: what leads to a builder, and what stands below a name's fields.
use Rattle.std.proofs.Common.{◌≡◌, ℕ, zero, suc, Bool, true, false, ◌&&◌, [], ◌∷◌, ◌++◌, Some, refl, ap, sym, subst, ◌∙◌}
use Rattle.weld_tree.specs.ExprTree.{ExprTree}
use Rattle.weld_meaning.specs.Environment.{Named}
use Rattle.weld_meaning.specs.Origin.{Path, Origin, value, made, own, outer, named, struct, Origins, no_origins, more_origins, origin_at, field_origin, is_value, origin_of_name, origin}
use Rattle.weld_meaning.specs.Available.{field_within, at_path, is_builder, is_builder_path, same_path, is_below, chain_of}
use Rattle.weld_substitution.proofs.Chains.{chain_by}
use Rattle.weld_substitution.proofs.Following.{and_true, both_true, or_right, same_truth, not_true, below_is, is_below_on}
use Rattle.weld_handing.specs.Handing.{is_held}
use Rattle.weld_handing.proofs.Traces.{handed_origin, handed_origins}
use Rattle.weld_handing.proofs.Answering.{IsClear}

abbrev cut_on : Bool → ℕ → Path → Path
cut_on true m v = v
cut_on false m v = m ∷ v

-- the path up to the list's builder, where it comes by there; else all of it
abbrev pub cut : Origin → Path → Path
cut o [] = []
cut o (m ∷ w) = cut_on (is_held (at_path (cut o w) o)) m (cut o w)

-- ---- a path that isn't cut

pub whole_path : (o : Origin) (w : Path) → is_held (at_path (cut o w) o) ≡ false → cut o w ≡ w
whole_path o [] h = refl
whole_path o (m ∷ w) h = by (is_held (at_path (cut o w) o)) refl h (whole_path o w)
  where
    by : (b : Bool) → is_held (at_path (cut o w) o) ≡ b → is_held (at_path (cut_on b m (cut o w)) o) ≡ false → (is_held (at_path (cut o w) o) ≡ false → cut o w ≡ w) → cut_on b m (cut o w) ≡ m ∷ w
    by true e k f = let both : true ≡ false = sym e ∙ k in let nothing : ⊥ = cc in absurd nothing
    by false e k f = ap (λ v. m ∷ v) (f e)

at_same : (start : Origin) (m : ℕ) (os : Origins) → origin_at m (handed_origins start os os) ≡ handed_origin start (origin_at m os) (origin_at m os)
at_same start zero no_origins = refl
at_same start (suc m) no_origins = refl
at_same start zero (more_origins o os) = refl
at_same start (suc m) (more_origins o os) = at_same start m os

within_same : (start : Origin) (m : ℕ) (o : Origin) → is_held o ≡ false → field_within m (handed_origin start o o) ≡ handed_origin start (field_within m o) (field_within m o)
within_same start m value e = refl
within_same start m made e = refl
within_same start m (own p) e = let nothing : ⊥ = cc in absurd nothing
within_same start m outer e = refl
within_same start m (named s p) e = refl
within_same start m (struct os) e = at_same start m os

-- what stands there, with the other loop's builder in place of the list's
path_same : (start o : Origin) (w : Path) → is_held (at_path (cut o w) o) ≡ false → at_path w (handed_origin start o o) ≡ handed_origin start (at_path w o) (at_path w o)
path_same start o [] h = refl
path_same start o (m ∷ w) h = by (is_held (at_path (cut o w) o)) refl h (path_same start o w)
  where
    by : (b : Bool) → is_held (at_path (cut o w) o) ≡ b → is_held (at_path (cut_on b m (cut o w)) o) ≡ false → (is_held (at_path (cut o w) o) ≡ false → at_path w (handed_origin start o o) ≡ handed_origin start (at_path w o) (at_path w o)) → field_within m (at_path w (handed_origin start o o)) ≡ handed_origin start (field_within m (at_path w o)) (field_within m (at_path w o))
    by true e k f = let both : true ≡ false = sym e ∙ k in let nothing : ⊥ = cc in absurd nothing
    by false e k f =
        ap (field_within m) (f e)
        ∙ within_same start m (at_path w o) (subst (λ v. is_held (at_path v o) ≡ false) (whole_path o w e) e)

-- ---- what leads to a builder

held_builds : (o : Origin) → is_held o ≡ true → is_builder o ≡ true
held_builds value e = let nothing : ⊥ = cc in absurd nothing
held_builds made e = refl
held_builds (own p) e = refl
held_builds outer e = refl
held_builds (named s p) e = refl
held_builds (struct os) e = let nothing : ⊥ = cc in absurd nothing

builds_back : (start o : Origin) → is_held o ≡ false → is_builder (handed_origin start o o) ≡ true → is_builder o ≡ true
builds_back start value e h = h
builds_back start made e h = refl
builds_back start (own p) e h = refl
builds_back start outer e h = refl
builds_back start (named s p) e h = refl
builds_back start (struct os) e h = h

-- a path to a builder leads to one where it is cut
pub cut_builds : (start o : Origin) (w : Path) → is_builder_path (handed_origin start o o) w ≡ true → is_builder_path o (cut o w) ≡ true
cut_builds start o w h = by (is_held (at_path (cut o w) o)) refl
  where
    by : (b : Bool) → is_held (at_path (cut o w) o) ≡ b → is_builder (at_path (cut o w) o) ≡ true
    by true e = held_builds (at_path (cut o w) o) e
    by false e =
        let whole = whole_path o w e in
        subst (λ v. is_builder (at_path v o) ≡ true) (sym whole)
        (builds_back start (at_path w o) (subst (λ v. is_held (at_path v o) ≡ false) whole e) (ap is_builder (sym (path_same start o w e)) ∙ h))

-- ---- fields of a name

-- no path of which this is a field holds the list's builder
abbrev pub Unheld : Path → Origin → Type 0
Unheld [] o = Unit {0}
Unheld (m ∷ w) o = (is_held (at_path w o) ≡ false) × Unheld w o

unheld_whole : (o : Origin) (c : Path) → Unheld c o → cut o c ≡ c
unheld_whole o [] h = refl
unheld_whole o (m ∷ c) h =
    let rest = unheld_whole o c h.1 in
    (λ i. cut_on (is_held (at_path (rest i) o)) m (rest i)) ∙ ap (λ b. cut_on b m c) h.0

below_cut : (o : Origin) (c k : Path) → Unheld c o → is_below c (cut o (k ++ c)) ≡ true
below_cut o c [] h = subst (λ v. is_below c v ≡ true) (sym (unheld_whole o c h)) (is_below_on [] c)
below_cut o c (m ∷ k) h = by (is_held (at_path (cut o (k ++ c)) o)) (below_cut o c k h)
  where
    by : (b : Bool) → is_below c (cut o (k ++ c)) ≡ true → is_below c (cut_on b m (cut o (k ++ c))) ≡ true
    by true r = r
    by false r = or_right (same_path c (m ∷ cut o (k ++ c))) (is_below c (cut o (k ++ c))) r

cut_below : (o : Origin) (c w : Path) → is_below c (cut o w) ≡ true → is_below c w ≡ true
cut_below o c [] h = h
cut_below o c (m ∷ w) h = by (is_held (at_path (cut o w) o)) refl h (cut_below o c w)
  where
    by : (b : Bool) → is_held (at_path (cut o w) o) ≡ b → is_below c (cut_on b m (cut o w)) ≡ true → (is_below c (cut o w) ≡ true → is_below c w ≡ true) → is_below c (m ∷ w) ≡ true
    by true e k r = or_right (same_path c (m ∷ w)) (is_below c w) (r k)
    by false e k r = subst (λ v. is_below c (m ∷ v) ≡ true) (whole_path o w e) k

-- what a name with fields takes of a name
pub chain_cut : (start o : Origin) (c w : Path) → Unheld c o → (is_below c w && is_builder_path (handed_origin start o o) w) ≡ ((is_below c (cut o w) && is_builder_path o (cut o w)) && is_builder_path (handed_origin start o o) w)
chain_cut start o c w h =
    same_truth (is_below c w && is_builder_path (handed_origin start o o) w) ((is_below c (cut o w) && is_builder_path o (cut o w)) && is_builder_path (handed_origin start o o) w) there back
  where
    there : (is_below c w && is_builder_path (handed_origin start o o) w) ≡ true → ((is_below c (cut o w) && is_builder_path o (cut o w)) && is_builder_path (handed_origin start o o) w) ≡ true
    there e =
        let k = and_true (is_below c w) (is_builder_path (handed_origin start o o) w) e in
        let w_is = below_is c w k.0 in
        both_true (is_below c (cut o w) && is_builder_path o (cut o w)) (is_builder_path (handed_origin start o o) w)
        (both_true (is_below c (cut o w)) (is_builder_path o (cut o w)) (subst (λ v. is_below c (cut o v) ≡ true) (sym w_is.1) (below_cut o c w_is.0 h)) (cut_builds start o w k.1)) k.1

    back : ((is_below c (cut o w) && is_builder_path o (cut o w)) && is_builder_path (handed_origin start o o) w) ≡ true → (is_below c w && is_builder_path (handed_origin start o o) w) ≡ true
    back e =
        let k = and_true (is_below c (cut o w) && is_builder_path o (cut o w)) (is_builder_path (handed_origin start o o) w) e in
        let m = and_true (is_below c (cut o w)) (is_builder_path o (cut o w)) k.0 in
        both_true (is_below c w) (is_builder_path (handed_origin start o o) w) (cut_below o c w m.0) k.1

-- ---- names with fields hold the list's builder at most at their end

abbrev fields_at : Path → Origin → Origin
fields_at [] o = o
fields_at (m ∷ w) o = field_origin m (fields_at w o)

within_field : (m : ℕ) (u v : Origin) → (is_value u ≡ false → u ≡ v) → is_value (field_within m u) ≡ false → field_within m u ≡ field_origin m v
within_field m value v f e = let nothing : ⊥ = cc in absurd nothing
within_field m made v f e = let nothing : ⊥ = cc in absurd nothing
within_field m (own p) v f e = let nothing : ⊥ = cc in absurd nothing
within_field m outer v f e = let nothing : ⊥ = cc in absurd nothing
within_field m (named s p) v f e = let nothing : ⊥ = cc in absurd nothing
within_field m (struct os) v f e = ap (field_origin m) (f refl)

path_fields : (w : Path) (o : Origin) → is_value (at_path w o) ≡ false → at_path w o ≡ fields_at w o
path_fields [] o e = refl
path_fields (m ∷ w) o e = within_field m (at_path w o) (fields_at w o) (path_fields w o) e

held_no_value : (o : Origin) → is_held o ≡ true → is_value o ≡ false
held_no_value value e = let nothing : ⊥ = cc in absurd nothing
held_no_value made e = refl
held_no_value (own p) e = refl
held_no_value outer e = refl
held_no_value (named s p) e = refl
held_no_value (struct os) e = refl

chain_fields : (q : Named Origin) (e : ExprTree) (c : ℕ × Path) → chain_of e ≡ Some c → origin e q ≡ fields_at c.1 (origin_of_name c.0 q)
chain_fields q = chain_by (λ e c. origin e q ≡ fields_at c.1 (origin_of_name c.0 q)) (λ a s. refl) (λ a m e c h k. ap (field_origin m) k)

pub clear_chain : (q : Named Origin) (e : ExprTree) (c : ℕ × Path) → chain_of e ≡ Some c → IsClear q e → Unheld c.1 (origin_of_name c.0 q)
clear_chain q = chain_by (λ e c. IsClear q e → Unheld c.1 (origin_of_name c.0 q)) (λ a s h. tt) (λ a m e c is k h. (unheld e c is h.1, k h.0))
  where
    unheld : (e : ExprTree) (c : ℕ × Path) → chain_of e ≡ Some c → is_held (origin e q) ≡ false → is_held (at_path c.1 (origin_of_name c.0 q)) ≡ false
    unheld e c is h =
        not_true (is_held (at_path c.1 (origin_of_name c.0 q)))
        (λ y. let same = path_fields c.1 (origin_of_name c.0 q) (held_no_value (at_path c.1 (origin_of_name c.0 q)) y) ∙ sym (chain_fields q e c is) in
        let both : true ≡ false = sym y ∙ ap is_held same ∙ h in
        let nothing : ⊥ = cc in absurd nothing)
