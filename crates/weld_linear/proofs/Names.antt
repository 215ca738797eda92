-- Origins of names as they are seen from within a lambda, and each as its own.
use Rattle.std.specs.Prelude.{IfOk}
use Rattle.std.proofs.Common.{◌≡◌, ℕ, ◌==◌, Bool, true, false, [], ◌∷◌, refl, ap, sym, ◌∙◌, eqb-true, Result, Ok, Err}
use Rattle.weld_meaning.specs.Environment.{Named}
use Rattle.weld_meaning.specs.Origin.{Origin, origin_of_name, from_within, outside, named_below, by_name}

pub name_outside : (s : ℕ) (h : Named Origin) → origin_of_name s (outside h) ≡ from_within (origin_of_name s h)
name_outside s [] = refl
name_outside s (e ∷ h) = by (s == e.0) refl (name_outside s h)
  where
    by : (c : Bool) → (s == e.0) ≡ c → origin_of_name s (outside h) ≡ from_within (origin_of_name s h) → origin_of_name s (outside (e ∷ h)) ≡ from_within (origin_of_name s (e ∷ h))
    by true p rest = rw p refl
    by false p rest = rw p rest

pub name_by_name : (s : ℕ) (h : Named Origin) → origin_of_name s (by_name h) ≡ named_below s [] (origin_of_name s h)
name_by_name s [] = refl
name_by_name s (e ∷ h) = by (s == e.0) refl (name_by_name s h)
  where
    by : (c : Bool) → (s == e.0) ≡ c → origin_of_name s (by_name h) ≡ named_below s [] (origin_of_name s h) → origin_of_name s (by_name (e ∷ h)) ≡ named_below s [] (origin_of_name s (e ∷ h))
    by true p rest = rw p (ap (λ t. named_below t [] e.1) (sym (eqb-true s e.0 p)))
    by false p rest = rw p rest

pub from_outside : {E : Type 0} (s : ℕ) (g : Named Origin) (x : Origin) (r : Result Origin E) → x ≡ origin_of_name s g → IfOk r (λ o. o ≡ from_within x) → IfOk r (λ o. o ≡ origin_of_name s (outside g))
from_outside s g x (Ok o) e h = h ∙ ap from_within e ∙ sym (name_outside s g)
from_outside s g x (Err f) e h = tt

pub from_names : {E : Type 0} (s : ℕ) (g : Named Origin) (x : Origin) (r : Result Origin E) → x ≡ origin_of_name s g → IfOk r (λ o. o ≡ named_below s [] x) → IfOk r (λ o. o ≡ origin_of_name s (by_name g))
from_names s g x (Ok o) e h = h ∙ ap (named_below s []) e ∙ sym (name_by_name s g)
from_names s g x (Err f) e h = tt
