-- What is known of what a line of a call asks for.
use Rattle.std.specs.Prelude.{◌≡◌, ◌<◌, ℕ, length}
use Rattle.std.specs.List.{AllByRecursion}
use Rattle.weld_data.specs.Kind.{InRange}
use Rattle.weld_calls.specs.CallTypes.{HasItsOperator, row}
use Rattle.weld_read_script.specs.declared.requests.names.Object.{Object}
use Rattle.weld_read_script.specs.declared.requests.names.Object.TheVariants.{Before, Literal}
use Rattle.weld_read_script.specs.declared.requests.names.Resolved.{Resolved}
use Rattle.weld_read_script.specs.declared.requests.names.Resolved.TheVariants.{OfObject, OutOfRange, Chars}
use Rattle.weld_read_script.specs.declared.requests.request.Request.{Request}
use Rattle.weld_read_script.specs.declared.requests.request.Wish.{Wish}
use Rattle.weld_read_script.specs.declared.requests.request.Wish.TheVariants.{OfCall, OfColumn}

-- one of so many objects that are made, or a number of its kind
abbrev pub IsObject : ℕ → Object → Type 0
IsObject n (Before id) = id < n
IsObject n (Literal k x) = InRange k x

abbrev pub IsResolved : ℕ → Resolved → Type 0
IsResolved n (OfObject object) = IsObject n object
IsResolved n OutOfRange = Unit {0}
IsResolved n (Chars text) = Unit {0}

-- the call has an operator that it may have, and takes so many objects; a column is one of one table
abbrev pub IsWish : Wish → ℕ → Type 0
IsWish (OfCall call) n = HasItsOperator call × (n ≡ length (row call))
IsWish (OfColumn name) n = n ≡ 1

pub record IsRequest (n : ℕ) (r : Request) : Type 0 where
  pub wish : IsWish r.wish (length r.objects)
  pub objects : AllByRecursion (IsObject n) r.objects
