-- The names in scope with their origins, as plain data.
use Rattle.std.specs.Prelude.{◌≡◌, ℕ, ◌<◌, ◌⊎◌, [], ◌∷◌, length, Option, Some, None}
use Rattle.std.specs.Borrow.{Bor}
use Rattle.weld_meaning.specs.Environment.{Named, look_for}
use Rattle.weld_meaning.specs.Origin.{Origin, value, outside, by_name}
use Rattle.std.proofs.Common.{refl}
use Rattle.std.proofs.lemmas.List.{length-map}
use Rattle.weld_tree.specs.declared.sym.Sym.{Sym}
use Rattle.weld_linear.specs.declared.seen.Seen.{Seen}

-- the origin, if there is one, else that of a value
abbrev pub origin_in : Option (Bor Origin) → Origin
origin_in None = value
origin_in (Some o) = o.now

-- the names as they are seen so
abbrev pub seen_as : Seen → Named Origin → Named Origin
seen_as Seen.Same g = g
seen_as Seen.Outside g = outside g
seen_as Seen.ByName g = by_name g

pub length-seen_as : (s : Seen) (g : Named Origin) → length (seen_as s g) ≡ length g
length-seen_as Seen.Same g = refl
length-seen_as Seen.Outside g = length-map g _
length-seen_as Seen.ByName g = length-map g _

-- the newest name, its origin, how those before it are seen, these, and some further back
abbrev pub Newest : Type 0
Newest = Option (Sym × Option (Bor Origin) × Seen × Bor (Named Origin) × Bor (Named Origin))

-- the origins of the names, the newest first
abbrev pub names_of : Newest → Named Origin
names_of None = []
names_of (Some n) = (n.0.0, origin_in n.1) ∷ seen_as n.2 n.3.now

-- those further back answer for each number that isn't within the bounds
abbrev pub AnswersBeyond : Seen → Named Origin → Named Origin → ℕ → ℕ → Type 0
AnswersBeyond Seen.Same names far low high = (n : ℕ) → (n < low) ⊎ (high < n) → look_for n names ≡ look_for n far
AnswersBeyond Seen.Outside names far low high = Unit {0}
AnswersBeyond Seen.ByName names far low high = Unit {0}

-- those further back are fewer, and answer where the names before are seen as they are
pub record IsFurther (seen : Seen) (names far : Named Origin) (low high : ℕ) : Type 0 where
  pub back : length far < length names
  pub same : AnswersBeyond seen names far low high

abbrev pub Jumps : Newest → ℕ → ℕ → Type 0
Jumps None low high = Unit {0}
Jumps (Some n) low high = IsFurther n.2 ((n.0.0, origin_in n.1) ∷ seen_as n.2 n.3.now) n.4.now low high
