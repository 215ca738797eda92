-- Outcomes, one after another.
use Rattle.std.proofs.Common.{◌≡◌, ap, refl}
use Rattle.weld_builders.specs.Outcome.{Outcome, done, fault, stuck, and_then, map_out}
use Rattle.weld_meaning.specs.Thing.{plain}
use Rattle.weld_meaning.specs.Evaluation.{value_out}
use Rattle.weld_data.specs.Value.{Value}

pub map_out-map_out : {A B C : Type 0} (f : A → B) (g : B → C) (o : Outcome A) → map_out g (map_out f o) ≡ map_out (λ x. g (f x)) o
map_out-map_out f g (done x) = refl
map_out-map_out f g fault = refl
map_out-map_out f g stuck = refl

pub and_then-assoc : {A B C : Type 0} (o : Outcome A) (f : A → Outcome B) (g : B → Outcome C) → and_then (and_then o f) g ≡ and_then o (λ x. and_then (f x) g)
and_then-assoc (done x) f g = refl
and_then-assoc fault f g = refl
and_then-assoc stuck f g = refl

pub and_then-map_out : {A B C : Type 0} (o : Outcome A) (f : A → B) (g : B → Outcome C) → and_then (map_out f o) g ≡ and_then o (λ x. g (f x))
and_then-map_out (done x) f g = refl
and_then-map_out fault f g = refl
and_then-map_out stuck f g = refl

pub map_out-and_then : {A B C : Type 0} (o : Outcome A) (f : A → Outcome B) (g : B → C) → map_out g (and_then o f) ≡ and_then o (λ x. map_out g (f x))
map_out-and_then (done x) f g = refl
map_out-and_then fault f g = refl
map_out-and_then stuck f g = refl

pub and_then-same : {A B : Type 0} (o : Outcome A) (f g : A → Outcome B) → ((x : A) → f x ≡ g x) → and_then o f ≡ and_then o g
and_then-same (done x) f g h = h x
and_then-same fault f g h = refl
and_then-same stuck f g h = refl

pub map_out-same : {A B : Type 0} (o : Outcome A) (f g : A → B) → ((x : A) → f x ≡ g x) → map_out f o ≡ map_out g o
map_out-same (done x) f g h = ap done (h x)
map_out-same fault f g h = refl
map_out-same stuck f g h = refl

pub value_of_plain : (o : Outcome Value) → value_out (map_out plain o) ≡ o
value_of_plain (done v) = refl
value_of_plain fault = refl
value_of_plain stuck = refl
