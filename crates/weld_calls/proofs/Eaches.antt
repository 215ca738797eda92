-- What becomes of each element.
use Rattle.std.proofs.Common.{◌≡◌, List, [], ◌∷◌, map, ap, sym, refl, ◌∙◌}
use Rattle.weld_builders.specs.Outcome.{Outcome, done, fault, stuck, and_then, map_out}
use Rattle.weld_calls.specs.Lists.{each}
use Rattle.weld_calls.proofs.Outcomes.{map_out-map_out}

pub map-map : {A B C : Type 0} (f : A → B) (g : B → C) (xs : List A) → map g (map f xs) ≡ map (λ x. g (f x)) xs
map-map f g [] = refl
map-map f g (x ∷ xs) = ap (λ ys. g (f x) ∷ ys) (map-map f g xs)

pub map_same : {A B : Type 0} (f g : A → B) (xs : List A) → ((x : A) → f x ≡ g x) → map f xs ≡ map g xs
map_same f g [] h = refl
map_same f g (x ∷ xs) h = λ i. h x i ∷ map_same f g xs h i

pub each_done : {A B : Type 0} (f : A → B) (xs : List A) → each (λ x. done (f x)) xs ≡ done (map f xs)
each_done f [] = refl
each_done f (x ∷ xs) = ap (map_out (λ ys. f x ∷ ys)) (each_done f xs)

pub each_same : {A B : Type 0} (f g : A → Outcome B) (xs : List A) → ((x : A) → f x ≡ g x) → each f xs ≡ each g xs
each_same f g [] h = refl
each_same f g (x ∷ xs) h = λ i. and_then (h x i) (λ y. map_out (λ ys. y ∷ ys) (each_same f g xs h i))

pub each_map : {A B C : Type 0} (f : B → Outcome C) (g : A → B) (xs : List A) → each f (map g xs) ≡ each (λ x. f (g x)) xs
each_map f g [] = refl
each_map f g (x ∷ xs) = ap (λ o. and_then (f (g x)) (λ y. map_out (λ ys. y ∷ ys) o)) (each_map f g xs)

pub each_out : {A B C : Type 0} (f : A → Outcome B) (g : B → C) (xs : List A) → each (λ x. map_out g (f x)) xs ≡ map_out (map g) (each f xs)
each_out f g [] = refl
each_out f g (x ∷ xs) = by (f x) (each f xs) (each_out f g xs)
  where
    by : (o : Outcome _) (p : Outcome (List _)) → each (λ y. map_out g (f y)) xs ≡ map_out (map g) p → and_then (map_out g o) (λ y. map_out (λ ys. y ∷ ys) (each (λ y. map_out g (f y)) xs)) ≡ map_out (map g) (and_then o (λ y. map_out (λ ys. y ∷ ys) p))
    by (done y) p e =
        ap (map_out (λ ys. g y ∷ ys)) e ∙ map_out-map_out (map g) (λ ys. g y ∷ ys) p
        ∙ sym (map_out-map_out (λ ys. y ∷ ys) (map g) p)
    by fault p e = refl
    by stuck p e = refl
