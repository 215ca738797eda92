-- Pieces one after another.
use Rattle.std.proofs.Common.{◌≡◌, sym, ◌∙◌, ℕ, List, [], ◌∷◌, ◌++◌, map, refl, ap, append-nil}
use Rattle.std.proofs.lemmas.List.{map-append}
use Rattle.weld_text_pieces.specs.Cuts.{after_commas, with_commas}

-- the pieces so far, a comma after each, and what is left
abbrev pub before : List (List ℕ) → List ℕ → List ℕ
before [] rest = rest
before (piece ∷ pieces) rest = piece ++ 44 ∷ before pieces rest

pub before_more : (pieces : List (List ℕ)) (piece more : List ℕ) → before (pieces ++ piece ∷ []) more ≡ before pieces (piece ++ 44 ∷ more)
before_more [] piece more = refl
before_more (first ∷ pieces) piece more = ap (λ (x : List ℕ). first ++ 44 ∷ x) (before_more pieces piece more)

after_last : (pieces : List (List ℕ)) (rest : List ℕ) → after_commas (pieces ++ rest ∷ []) ≡ 44 ∷ before pieces rest
after_last [] rest = ap (λ (x : List ℕ). 44 ∷ x) (append-nil rest)
after_last (first ∷ pieces) rest = ap (λ (x : List ℕ). 44 ∷ (first ++ x)) (after_last pieces rest)

pub before_last : (pieces : List (List ℕ)) (rest : List ℕ) → with_commas (pieces ++ rest ∷ []) ≡ before pieces rest
before_last [] rest = append-nil rest
before_last (first ∷ pieces) rest = ap (λ (x : List ℕ). first ++ x) (after_last pieces rest)

-- a piece more among those so far
pub pushed_more : {A : Type 0} (now : A → List ℕ) (pieces new : List A) (piece : A) (text rest more : List ℕ) → new ≡ pieces ++ piece ∷ [] → text ≡ before (map now pieces) rest → rest ≡ now piece ++ 44 ∷ more → text ≡ before (map now new) more
pushed_more now pieces new piece text rest more n e c =
    e ∙ ap (before (map now pieces)) c ∙ sym (before_more (map now pieces) (now piece) more)
    ∙ ap (λ (x : List (List ℕ)). before x more) (sym (ap (map now) n ∙ map-append now pieces (piece ∷ [])))

-- the last piece
pub pushed_last : {A : Type 0} (now : A → List ℕ) (pieces new : List A) (piece : A) (text : List ℕ) → new ≡ pieces ++ piece ∷ [] → text ≡ before (map now pieces) (now piece) → text ≡ with_commas (map now new)
pushed_last now pieces new piece text n e =
    e ∙ sym (before_last (map now pieces) (now piece)) ∙ ap with_commas (sym (ap (map now) n ∙ map-append now pieces (piece ∷ [])))
