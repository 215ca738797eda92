-- Lists whose text is cut at commas.
use Rattle.std.specs.Prelude.{◌≡◌, ◌++◌, ℕ, Bool, true, false, List, [], ◌∷◌, Some, None}
use Rattle.weld_tree.specs.TypeTree.{TypeTree, scalar, vec, struct as struct_of, dict as dict_of, build}
use Rattle.weld_values.specs.Tokens.{after_blanks, byte_at}
use Rattle.weld_values.specs.Grammar.{Part, Listed}

-- the text is these parts, one or more, with a comma between each two, and blanks after the last
abbrev pub Separated : {A : Type 0} → Part A → List A → List ℕ → Type 0
Separated R xs text = (end : List ℕ) × Listed R xs text end × (after_blanks end ≡ [])

-- the body stands between the bracket that begins the text and the last one, after which blanks stand; it isn't blank
pub record InBrackets (text body : List ℕ) : Type 0 where
  pub back : List ℕ
  pub opens : byte_at 91 text ≡ Some (body ++ 93 ∷ back)
  pub holds : byte_at 93 (body ++ 93 ∷ back) ≡ None
  pub ends : after_blanks back ≡ []

abbrev pub is_scalar : TypeTree → Bool
is_scalar (scalar k) = true
is_scalar (vec t) = false
is_scalar (struct_of ts) = false
is_scalar (dict_of k v) = false
is_scalar (build b) = false

-- a scalar, or a list of scalars
abbrev pub is_row : TypeTree → Bool
is_row (scalar k) = true
is_row (vec t) = is_scalar t
is_row (struct_of ts) = false
is_row (dict_of k v) = false
is_row (build b) = false
