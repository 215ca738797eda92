-- Laws of outcomes.
use Rattle.std.proofs.Common.{◌≡◌, refl, ap, Option, Some, None, option_map}
use Rattle.weld_builders.specs.Outcome.{Outcome, done, fault, stuck, and_then, map_out}

-- what goes on where both do, with what was changed on the way
pub and_then-map_out : {A B C D : Type 0} (f : A → B) (g : C → D) (o : Outcome A) (k : B → Outcome D) (h : A → Outcome C) → ((x : A) → k (f x) ≡ map_out g (h x)) → and_then (map_out f o) k ≡ map_out g (and_then o h)
and_then-map_out f g (done x) k h e = e x
and_then-map_out f g fault k h e = refl
and_then-map_out f g stuck k h e = refl

pub map_out-and_then : {A C D : Type 0} (g : C → D) (o : Outcome A) (k : A → Outcome D) (h : A → Outcome C) → ((x : A) → k x ≡ map_out g (h x)) → and_then o k ≡ map_out g (and_then o h)
map_out-and_then g (done x) k h e = e x
map_out-and_then g fault k h e = refl
map_out-and_then g stuck k h e = refl

pub map_out_same : {A : Type 0} (f : A → A) (o : Outcome A) → ((x : A) → f x ≡ x) → map_out f o ≡ o
map_out_same f (done x) e = ap done (e x)
map_out_same f fault e = refl
map_out_same f stuck e = refl

pub option_map_same : {A : Type 0} (f : A → A) (o : Option A) → ((x : A) → f x ≡ x) → option_map f o ≡ o
option_map_same f (Some x) e = ap Some (e x)
option_map_same f None e = refl
