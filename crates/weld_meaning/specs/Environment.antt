-- What the names in scope stand for.
use Rattle.std.specs.Prelude.{ℕ, ◌==◌, if◌then◌else◌, List, [], ◌∷◌, Option, Some, None}

-- what each name stands for, the newest name first
abbrev pub Named : Type 0 → Type 0
Named A = List (ℕ × A)

-- what the name stands for, if it is there: an inner binder hides an outer one of the same name
abbrev pub look_for : {A : Type 0} → ℕ → Named A → Option A
look_for s [] = None
look_for s (e ∷ es) = if s == e.0 then Some e.1 else look_for s es
