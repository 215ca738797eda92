-- Reading one scalar.
use Rattle.std.proofs.Common.{◌≡◌, sym, ◌∙◌, ℕ, ◌<◌, ◌≤◌, Bool, true, false, ◌==◌, cond, List, [], ◌∷◌, length, Option, Some, None, refl, ap, ℤ, arith}
use Rattle.std.specs.Option.{option_map}
use Rattle.weld_data.specs.declared.kind.Kind.{Kind}
use Rattle.weld_data.specs.declared.kind.Kind.TheVariants as kinds
use Rattle.weld_data.specs.Kind.{IsInteger}
use Rattle.weld_data.specs.Operation.{truth}
use Rattle.weld_data.specs.Value.{Value, number}
use Rattle.weld_values.specs.declared.flaw.Flaw.{Flaw}
use Rattle.weld_values.specs.declared.flaw.Flaw.TheVariants.{Fine}
use Rattle.weld_values.specs.Tokens.{is_blank, after_blanks, after_byte, byte_at, integer_at}
use Rattle.weld_values.specs.Grammar.{truth_at, number_at, scalar_at, Found}
use Rattle.weld_values.specs.Judging.{Judged, IsRead}
use Rattle.weld_values.proofs.Listings.{some_is, none_is}

integer_scalar : (k : Kind) → IsInteger k → (text : List ℕ) → scalar_at k text ≡ number_at k text
unfolding scalar_at
integer_scalar kinds.Bool h text = absurd h
integer_scalar kinds.I8 h text = refl
integer_scalar kinds.I16 h text = refl
integer_scalar kinds.I32 h text = refl
integer_scalar kinds.I64 h text = refl
integer_scalar kinds.U8 h text = refl
integer_scalar kinds.U16 h text = refl
integer_scalar kinds.U32 h text = refl
integer_scalar kinds.U64 h text = refl

pub integer_read : (k : Kind) → IsInteger k → (text bare rest : List ℕ) (z : ℤ) (f : Flaw) (v : Value) → bare ≡ after_blanks text → integer_at bare ≡ Some (z, rest) → Judged f (number k z) v → IsRead (Found (scalar_at k)) text f v rest
integer_read k i text bare rest z f v b h j = record {
  raw = number k z;
  at = integer_scalar k i text ∙ ap (λ (o : Option (ℤ × List ℕ)). option_map (λ (p : ℤ × List ℕ). (number k p.0, p.1)) o) (ap integer_at (sym b) ∙ h);
  judged = j;
}

pub integer_unread : (k : Kind) → IsInteger k → (text bare : List ℕ) → bare ≡ after_blanks text → integer_at bare ≡ None → scalar_at k text ≡ None
integer_unread k i text bare b h = integer_scalar k i text ∙ ap (λ (o : Option (ℤ × List ℕ)). option_map (λ (p : ℤ × List ℕ). (number k p.0, p.1)) o) (ap integer_at (sym b) ∙ h)

truth_is_sound : (b : Bool) → Judged Fine (number kinds.Bool (truth b)) (number kinds.Bool (truth b))
truth_is_sound true = (record { low = omega arith; high = omega arith }, refl)
truth_is_sound false = (record { low = omega arith; high = omega arith }, refl)

pub truth_read : (text bare rest : List ℕ) (b : Bool) → bare ≡ after_blanks text → Some (number kinds.Bool (truth b), rest) ≡ truth_at bare → IsRead (Found (scalar_at kinds.Bool)) text Fine (number kinds.Bool (truth b)) rest
unfolding scalar_at
truth_read text bare rest b e h = record { raw = number kinds.Bool (truth b); at = ap truth_at (sym e) ∙ sym h; judged = truth_is_sound b }

pub truth_unread : (text bare : List ℕ) → bare ≡ after_blanks text → None ≡ truth_at bare → scalar_at kinds.Bool text ≡ None
unfolding scalar_at
truth_unread text bare e h = ap truth_at (sym e) ∙ sym h

-- ---- what is left is shorter

blanks_by : (byte : ℕ) (bytes : List ℕ) (b : Bool) → length (after_blanks bytes) ≤ length bytes → length (cond b (after_blanks bytes) (byte ∷ bytes)) ≤ length (byte ∷ bytes)
blanks_by byte bytes true h = omega arith
blanks_by byte bytes false h = omega arith

pub blanks_no_longer : (text : List ℕ) → length (after_blanks text) ≤ length text
blanks_no_longer [] = omega arith
blanks_no_longer (byte ∷ bytes) = blanks_by byte bytes (is_blank byte) (blanks_no_longer bytes)

byte_by : (first : ℕ) (bytes rest : List ℕ) (b : Bool) → cond b (Some bytes) None ≡ Some rest → length rest < length (first ∷ bytes)
byte_by first bytes rest true h = omega (arith, ap length (some_is bytes rest h))
byte_by first bytes rest false h = absurd (none_is rest h)

pub byte_shorter : (byte : ℕ) (text rest : List ℕ) → after_byte byte text ≡ Some rest → length rest < length text
byte_shorter byte [] rest h = absurd (none_is rest h)
byte_shorter byte (first ∷ bytes) rest h = byte_by first bytes rest (first == byte) h

pub byte_at_shorter : (byte : ℕ) (text rest : List ℕ) → byte_at byte text ≡ Some rest → length rest < length text
unfolding byte_at
byte_at_shorter byte text rest h = omega (arith, byte_shorter byte (after_blanks text) rest h, blanks_no_longer text)
