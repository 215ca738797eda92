-- Numbers that are alone, and what names stand for under new numbers.
use Rattle.std.proofs.Common.{◌≡◌, ◌≢◌, ℕ, ◌==◌, if◌then◌else◌, ◌∷◌, Some, sym, ap, ◌∙◌, inl, inr, ◌⊎◌, eq-eqb, ne_eqb}
use Rattle.std.proofs.lemmas.Bool.{cases_eq}
use Rattle.weld_meaning.specs.Environment.{Named}
use Rattle.weld_objects.specs.Renamed.{Renaming, IsAlone, HaveMoved}

-- what is compared with a number that is alone compares alike under new numbers
pub alone_second : (r : Renaming) (s b : ℕ) → IsAlone r b → (r s == r b) ≡ (s == b)
alone_second r s b a = by (cases_eq s b)
  where
    by : (s ≡ b) ⊎ (s ≢ b) → (r s == r b) ≡ (s == b)
    by (inl e) = eq-eqb (r s) (r b) (ap r e) ∙ sym (eq-eqb s b e)
    by (inr ne) = ne_eqb (r s) (r b) (λ e. ne (a.alone s e)) ∙ sym (ne_eqb s b ne)

pub alone_first : (r : Renaming) (b s : ℕ) → IsAlone r b → (r b == r s) ≡ (b == s)
alone_first r b s a = by (cases_eq b s)
  where
    by : (b ≡ s) ⊎ (b ≢ s) → (r b == r s) ≡ (b == s)
    by (inl e) = eq-eqb (r b) (r s) (ap r e) ∙ sym (eq-eqb b s e)
    by (inr ne) = ne_eqb (r b) (r s) (λ e. ne (sym (a.alone s (sym e)))) ∙ sym (ne_eqb b s ne)

-- a binder that is alone stands in front of both
pub moved_bind : {A : Type 0} (r : Renaming) (b : ℕ) (t : A) (g h : Named A) → IsAlone r b → HaveMoved r g h → HaveMoved r ((b, t) ∷ g) ((r b, t) ∷ h)
moved_bind r b t g h a m = record { same = λ s i. if alone_second r s b a i then Some t else m.same s i }

-- the three binders of a loop
pub moved_body : {A : Type 0} (r : Renaming) (b n x : ℕ) (t i w : A) (g h : Named A) → IsAlone r b → IsAlone r n → IsAlone r x → HaveMoved r g h → HaveMoved r ((x, w) ∷ (n, i) ∷ (b, t) ∷ g) ((r x, w) ∷ (r n, i) ∷ (r b, t) ∷ h)
moved_body r b n x t i w g h ab an ax m =
    moved_bind r x w ((n, i) ∷ (b, t) ∷ g) ((r n, i) ∷ (r b, t) ∷ h) ax
    (moved_bind r n i ((b, t) ∷ g) ((r b, t) ∷ h) an (moved_bind r b t g h ab m))
