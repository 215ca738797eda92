-- Lists read one element after another.
use Rattle.std.proofs.Common.{◌≡◌, ℕ, ◌+◌, ◌<◌, ◌≤◌, List, [], ◌∷◌, ◌++◌, length, drop, get_or, Option, Some, None, refl, sym, ap, ◌∙◌}
use Rattle.std.proofs.lemmas.List.{drop_more, drop_all, append_assoc, append-nil}
use Rattle.weld_read_script.specs.Parts.{all_read, both}

-- what is read of further elements, behind what was read
abbrev pub behind : {B : Type 0} → List B → Option (List B) → Option (List B)
behind done None = None
behind done (Some more) = Some (done ++ more)

pub behind_nothing : {B : Type 0} (r : Option (List B)) → r ≡ behind [] r
behind_nothing None = refl
behind_nothing (Some xs) = refl

behind_both : {B : Type 0} (done : List B) (x : B) (r : Option (List B)) → behind done (both (Some x) r) ≡ behind (done ++ x ∷ []) r
behind_both done x None = refl
behind_both done x (Some xs) = ap Some (sym (append_assoc done (x ∷ []) xs))

behind_unread : {B : Type 0} (done : List B) (r : Option (List B)) → behind done (both None r) ≡ None
behind_unread done None = refl
behind_unread done (Some xs) = refl

read_at : {A B : Type 0} (read : A → Option B) (xs : List A) (i : ℕ) (x : A) → i < length xs → x ≡ get_or xs i x
    → all_read read (drop i xs) ≡ both (read x) (all_read read (drop (i + 1) xs))
read_at read xs i x below is =
    ap (all_read read) (drop_more xs i x below) ∙ ap (λ q. both (read q) (all_read read (drop (i + 1) xs))) (sym is)

pub read_more : {A B : Type 0} (read : A → Option B) (xs : List A) (i : ℕ) (x : A) (y : B) (done after : List B)
    → i < length xs → x ≡ get_or xs i x → Some y ≡ read x → after ≡ done ++ y ∷ [] → all_read read xs ≡ behind done (all_read read (drop i xs))
    → all_read read xs ≡ behind after (all_read read (drop (i + 1) xs))
read_more read xs i x y done after below is read_so after_is so_far =
    so_far ∙ ap (behind done) (read_at read xs i x below is)
    ∙ ap (λ r. behind done (both r (all_read read (drop (i + 1) xs)))) (sym read_so)
    ∙ behind_both done y (all_read read (drop (i + 1) xs)) ∙ ap (λ ys. behind ys (all_read read (drop (i + 1) xs))) (sym after_is)

pub read_none : {A B : Type 0} (read : A → Option B) (xs : List A) (i : ℕ) (x : A) (done : List B)
    → i < length xs → x ≡ get_or xs i x → None ≡ read x → all_read read xs ≡ behind done (all_read read (drop i xs))
    → None ≡ all_read read xs
read_none read xs i x done below is read_so so_far =
    sym (so_far ∙ ap (behind done) (read_at read xs i x below is)
    ∙ ap (λ r. behind done (both r (all_read read (drop (i + 1) xs)))) (sym read_so)
    ∙ behind_unread done (all_read read (drop (i + 1) xs)))

pub read_all : {A B : Type 0} (read : A → Option B) (xs : List A) (i : ℕ) (done : List B)
    → length xs ≤ i → all_read read xs ≡ behind done (all_read read (drop i xs)) → Some done ≡ all_read read xs
read_all read xs i done past so_far =
    sym (so_far ∙ ap (λ ys. behind done (all_read read ys)) (drop_all i xs past) ∙ ap Some (append-nil done))
