-- Names in scope, and the newest of each in a map.
use Rattle.std.proofs.Common.{◌≡◌, refl, ℕ, Bool, true, false, ◌||◌, if◌then◌else◌, Option, Some, IfSome, IfNone, IsSome, List, [], ◌∷◌, ◌++◌, reverse, ap, ◌∙◌, bytes_eq, HashMap, Bor}
use Rattle.std.proofs.lemmas.List.{reverse-append}
use Rattle.std.proofs.lemmas.Slice.Eq.{bytes_eq-Decides}
use Rattle.weld_spell.specs.Names.{bears}
use Rattle.weld_spell.specs.ProgramOf.{Bound, number_in}
use Rattle.weld_reduce.specs.Views.{view_seen}
use Rattle.weld_reduce.specs.States.{names_of}
use Rattle.weld_reduce.specs.Hiding.{bounds, newest_number, number_at, IsScope}
use Rattle.weld_reduce.specs.declared.scope.Hiding.{Hiding}

-- the name that is seen last
abbrev pub word : Hiding → List ℕ
word name = (view_seen name.seen).bytes

-- what is found is what the walk along all names says
pub found_number : (scope : List Bound) (bytes : List ℕ) → IfSome (newest_number scope bytes) (λ n. n ≡ number_in scope bytes)
found_number [] bytes = tt
found_number (b ∷ scope) bytes = elim (bytes_eq b.bytes bytes) as (λ t. IfSome (if t then Some b.number else newest_number scope bytes) (λ n. n ≡ (if t then b.number else number_in scope bytes))) [
  | true ↦ refl
  | false ↦ found_number scope bytes
]

pub found_borne : (scope : List Bound) (bytes : List ℕ) → IfSome (newest_number scope bytes) (λ _. bears (names_of scope) bytes ≡ true)
found_borne [] bytes = tt
found_borne (b ∷ scope) bytes = elim (bytes_eq b.bytes bytes) as (λ t. IfSome (if t then Some b.number else newest_number scope bytes) (λ _. (t || bears (names_of scope) bytes) ≡ true)) [
  | true ↦ refl
  | false ↦ found_borne scope bytes
]

pub none_number : (scope : List Bound) (bytes : List ℕ) → IfNone (newest_number scope bytes) (number_in scope bytes ≡ 0)
none_number [] bytes = refl
none_number (b ∷ scope) bytes = elim (bytes_eq b.bytes bytes) as (λ t. IfNone (if t then Some b.number else newest_number scope bytes) ((if t then b.number else number_in scope bytes) ≡ 0)) [
  | true ↦ tt
  | false ↦ none_number scope bytes
]

pub none_borne : (scope : List Bound) (bytes : List ℕ) → IfNone (newest_number scope bytes) (bears (names_of scope) bytes ≡ false)
none_borne [] bytes = refl
none_borne (b ∷ scope) bytes = elim (bytes_eq b.bytes bytes) as (λ t. IfNone (if t then Some b.number else newest_number scope bytes) ((t || bears (names_of scope) bytes) ≡ false)) [
  | true ↦ tt
  | false ↦ none_borne scope bytes
]

pub pushed_first : (names : List Hiding) (name : Hiding) → reverse (names ++ name ∷ []) ≡ name ∷ reverse names
pushed_first names name = reverse-append names (name ∷ [])

module _ {S : Type 0} (old new : HashMap (Bor (List ℕ)) ℕ S) (names : List Hiding) (name : Hiding) where
  pub scope_pushed : IsScope old names → name.hidden ≡ number_at old (word name) → ((bytes : List ℕ) → number_at new bytes ≡ (if bytes_eq (word name) bytes then Some name.seen.number else number_at old bytes)) → IsScope new (name ∷ names)
  scope_pushed h is u = record {
    newest = λ bytes. u bytes ∙ ap (λ o. if bytes_eq (word name) bytes then Some name.seen.number else o) (h.newest bytes);
    hidden = (is ∙ h.newest (word name), h.hidden);
  }

  covered : (t : Bool) (x y z : Option ℕ) → (t ≡ true → x ≡ z) → (if t then x else (if t then y else z)) ≡ z
  covered true x y z e = e refl
  covered false x y z e = refl

  pub scope_popped : IsScope old (name ∷ names) → ((bytes : List ℕ) → number_at new bytes ≡ (if bytes_eq (word name) bytes then name.hidden else number_at old bytes)) → IsScope new names
  scope_popped h u = record {
    newest = λ bytes. u bytes
        ∙ ap (λ o. if bytes_eq (word name) bytes then name.hidden else o) (h.newest bytes)
        ∙ covered (bytes_eq (word name) bytes) name.hidden (Some name.seen.number) (newest_number (bounds names) bytes)
        (λ e. h.hidden.0 ∙ ap (newest_number (bounds names)) ((bytes_eq-Decides (word name) bytes).0 e));
    hidden = h.hidden.1;
  }

-- the name that was seen last is in the map
pub newest_is_there : {S : Type 0} (numbers : HashMap (Bor (List ℕ)) ℕ S) (names : List Hiding) (name : Hiding) → IsScope numbers (name ∷ names) → IsSome (number_at numbers (word name))
newest_is_there numbers names name h =
    let e : number_at numbers (word name) ≡ Some name.seen.number =
    h.newest (word name) ∙ ap (λ t. if t then Some name.seen.number else newest_number (bounds names) (word name)) ((bytes_eq-Decides (word name) (word name)).1 refl) in
    rw e refl
