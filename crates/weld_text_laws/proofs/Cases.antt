-- What follows in both cases of a truth value, and what there is in either.
use Rattle.std.proofs.Common.{◌≡◌, Bool, true, false, Option, None, refl}
use Rattle.std.specs.Bool.{MatchBool}

pub in_both : (b : Bool) (P Q R S T : Type 0) → (P → R → T) → (Q → S → T) → MatchBool b P Q → MatchBool b R S → T
in_both true P Q R S T f g h k = f h k
in_both false P Q R S T f g h k = g h k

pub in_either : {A : Type 0} (b : Bool) (P Q : A → Type 0) → (x : A) × P x → (x : A) × Q x → (x : A) × MatchBool b (P x) (Q x)
in_either true P Q p q = p
in_either false P Q p q = q

pub nothing : {A : Type 0} → (x : Option A) × (x ≡ None)
nothing = (None, refl)

pub this : {A : Type 0} (y : A) → (x : A) × (x ≡ y)
this y = (y, refl)
