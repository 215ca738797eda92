-- What std's ordered map finds is what the list of its pairs has.
use Rattle.std.proofs.Common.{◌≡◌, ◌≢◌, ℕ, ◌==◌, Bool, true, false, cond, if◌then◌else◌, List, [], ◌∷◌, Some, refl, sym, ◌∙◌, inl, inr, ◌⊎◌, eq-eqb, ne_eqb}
use Rattle.std.proofs.lemmas.Bool.{cases_eq}
use Rattle.std.specs.Ordering.{nat_cmp}
use Rattle.std.specs.Cmp.{unsigned_tied}
use Rattle.std.specs.Map.{lookup}
use Rattle.std.specs.BTreeMap.{is_at}
use Rattle.weld_meaning.specs.Environment.{look_for}

pub looked_up : (k : ℕ) (es : List (ℕ × ℕ)) → lookup (is_at (nat_cmp k)) es ≡ look_for k es
looked_up k [] = refl
looked_up k (e ∷ es) = (λ i. cond (unsigned_tied k e.0 i) (Some e.1) (looked_up k es i)) ∙ by (k == e.0)
  where
    by : (c : Bool) → cond c (Some e.1) (look_for k es) ≡ (if c then Some e.1 else look_for k es)
    by true = refl
    by false = refl

turned : (a b : ℕ) → (a == b) ≡ (b == a)
turned a b = by (cases_eq a b)
  where
    by : (a ≡ b) ⊎ (a ≢ b) → (a == b) ≡ (b == a)
    by (inl e) = eq-eqb a b e ∙ sym (eq-eqb b a (sym e))
    by (inr ne) = ne_eqb a b ne ∙ sym (ne_eqb b a (λ e. ne (sym e)))

-- after an insertion
pub put_in : (old new : List (ℕ × ℕ)) (from to : ℕ) → ((q : ℕ) → lookup (is_at (nat_cmp q)) new ≡ cond (is_at (nat_cmp from) q) (Some to) (lookup (is_at (nat_cmp q)) old))
    → (s : ℕ) → look_for s new ≡ (if s == from then Some to else look_for s old)
put_in old new from to h s =
    sym (looked_up s new) ∙ h s ∙ (λ i. cond ((unsigned_tied from s ∙ turned from s) i) (Some to) (looked_up s old i)) ∙ by (s == from)
  where
    by : (c : Bool) → cond c (Some to) (look_for s old) ≡ (if c then Some to else look_for s old)
    by true = refl
    by false = refl
