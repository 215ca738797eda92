-- Laws of whole numbers that std doesn't have: distribution, association of products, and congruence modulo a number.
use Rattle.std.proofs.Common.{◌≡◌, ℕ, ◌+◌, ◌*◌, ℤ, pos, ◌+ℤ◌, ◌*ℤ◌, ap, sym, ◌∙◌, arith}
use Rattle.std.proofs.Math.IntN.{*ℤ_comm}
use Rattle.std.proofs.lemmas.Int.{ints}
use borrow.Author.Differences.{up, down, sum_is_lem, product_is}
use Rattle.weld_data.specs.Wrapped.{SameModulo}

pub add-*ℤ : (a b c : ℤ) → (a +ℤ b) *ℤ c ≡ a *ℤ c +ℤ b *ℤ c
add-*ℤ a b c =
    let s = sum_is_lem a b in
    let above : (up (a +ℤ b) + down a + down b) * up c ≡ (down (a +ℤ b) + up a + up b) * up c = ap (λ n. n * up c) s in
    let below : (up (a +ℤ b) + down a + down b) * down c ≡ (down (a +ℤ b) + up a + up b) * down c = ap (λ n. n * down c) s in
    omega (arith, ints)

pub *ℤ_assoc : (a b c : ℤ) → (a *ℤ b) *ℤ c ≡ a *ℤ (b *ℤ c)
*ℤ_assoc a b c =
    let l = product_is a b in
    let r = product_is b c in
    let lu : up (a *ℤ b) * up c ≡ (up a * up b + down a * down b) * up c = ap (λ n. n * up c) l.0 in
    let ld : up (a *ℤ b) * down c ≡ (up a * up b + down a * down b) * down c = ap (λ n. n * down c) l.0 in
    let mu : down (a *ℤ b) * up c ≡ (up a * down b + down a * up b) * up c = ap (λ n. n * up c) l.1 in
    let md : down (a *ℤ b) * down c ≡ (up a * down b + down a * up b) * down c = ap (λ n. n * down c) l.1 in
    let ru : up a * up (b *ℤ c) ≡ up a * (up b * up c + down b * down c) = ap (λ n. up a * n) r.0 in
    let rd : down a * up (b *ℤ c) ≡ down a * (up b * up c + down b * down c) = ap (λ n. down a * n) r.0 in
    let su : up a * down (b *ℤ c) ≡ up a * (up b * down c + down b * up c) = ap (λ n. up a * n) r.1 in
    let sd : down a * down (b *ℤ c) ≡ down a * (up b * down c + down b * up c) = ap (λ n. down a * n) r.1 in
    omega (arith, ints)

pub SameModulo-refl : (n : ℕ) (x : ℤ) → SameModulo n x x
SameModulo-refl n x = (pos 0, omega (arith, ints))

pub SameModulo-add : (n : ℕ) (x y z : ℤ) → SameModulo n x y → SameModulo n (x +ℤ z) (y +ℤ z)
SameModulo-add n x y z s = (s.0, omega (arith, ints, s.1))

pub SameModulo-mul : (n : ℕ) (x y z : ℤ) → SameModulo n x y → SameModulo n (x *ℤ z) (y *ℤ z)
SameModulo-mul n x y z s = (
  s.0 *ℤ z,
  ap (λ a. a *ℤ z) s.1 ∙ add-*ℤ y (s.0 *ℤ pos n) z ∙ ap (λ a. y *ℤ z +ℤ a) (*ℤ_assoc s.0 (pos n) z ∙ ap (λ a. s.0 *ℤ a) (*ℤ_comm (pos n) z) ∙ sym (*ℤ_assoc s.0 z (pos n))),
)
