-- Lists made one element after another.
use Rattle.std.proofs.Common.{◌≡◌, ℕ, ◌+◌, ◌<◌, ◌≤◌, List, [], ◌∷◌, ◌++◌, length, take, get_or, map, refl, sym, ap, ◌∙◌}
use Rattle.std.proofs.lemmas.List.{take_more, take_all, map-append}
use Rattle.weld_tree.specs.TypeTree.{TypeTree, vec, more_types, pack}
use Rattle.weld_table.specs.Table.{list_types}

pub mapped_more : {A B : Type 0} (f : A → B) (xs : List A) (i : ℕ) (x : A) (done after : List B) → i < length xs → x ≡ get_or xs i x
    → done ≡ map f (take i xs) → after ≡ done ++ f x ∷ [] → after ≡ map f (take (i + 1) xs)
mapped_more f xs i x done after below is so_far added =
    added ∙ ap (λ ys. ys ++ f x ∷ []) so_far ∙ ap (λ y. map f (take i xs) ++ f y ∷ []) is
    ∙ sym (map-append f (take i xs) (get_or xs i x ∷ [])) ∙ ap (map f) (sym (take_more xs i x below))

pub mapped_all : {A B : Type 0} (f : A → B) (xs : List A) (i : ℕ) (done : List B) → length xs ≤ i → done ≡ map f (take i xs) → done ≡ map f xs
mapped_all f xs i done past so_far = so_far ∙ ap (map f) (take_all i xs past)

-- the types of a table's columns
pub columns_packed : (ts : List TypeTree) → pack (map vec ts) ≡ list_types ts
columns_packed [] = refl
columns_packed (t ∷ ts) = ap (more_types (vec t)) (columns_packed ts)
