-- Pieces joined are the text that is cut into them.
use Rattle.std.proofs.Common.{◌≡◌, sym, ◌∙◌, ℕ, ◌<◌, List, [], ◌∷◌, ◌++◌, length, map, take, drop, refl, ap, ap₂, subst, append_assoc, append-nil, arith}
use Rattle.std.proofs.lemmas.List.{map-append, take-append-drop, take-append-le, take_all}
use Rattle.std.proofs.lemmas.List.Elements.{All-append}
use Rattle.weld_data.specs.Value.{Value}
use Rattle.weld_tree.specs.TypeTree.{TypeTree}
use Rattle.weld_tree.specs.HasValue.{HasValue}
use Rattle.weld_values.specs.Grammar.{At}
use Rattle.weld_values.specs.Pieces.{Separated}
use Rattle.weld_text_pieces.specs.Cuts.{with_commas}
use Rattle.weld_text_pieces.specs.Joined.{AreValues, ArePieces}

-- the law of cuts, for values of the type
abbrev pub JoinAtCommas : TypeTree → Type 0
JoinAtCommas t = (p q : List ℕ) (vs ws : List Value) → Separated (At t) vs p → Separated (At t) ws q → Separated (At t) (vs ++ ws) (p ++ 44 ∷ q)

pub joined : (t : TypeTree) → JoinAtCommas t → (pieces : List (List ℕ)) (vs : List Value) → 0 < length pieces → ArePieces t pieces vs → AreValues t (with_commas pieces) vs
joined t law [] vs some h = absurd (omega (arith, some))
joined t law (piece ∷ []) vs some (us, ws, e, are, none) =
    let same : us ≡ vs = sym (append-nil us) ∙ ap (λ (x : List Value). us ++ x) (sym none) ∙ sym e in
    subst (λ (x : List ℕ). AreValues t x vs) (sym (append-nil piece)) (subst (AreValues t piece) same are)
joined t law (piece ∷ next ∷ pieces) vs some (us, ws, e, are, more) =
    let rest = joined t law (next ∷ pieces) ws (omega arith) more in
    subst (AreValues t (piece ++ 44 ∷ with_commas (next ∷ pieces))) (sym e)
    (law piece (with_commas (next ∷ pieces)) us ws are.0 rest.0, All-append (HasValue t) us ws are.1 rest.1)

-- ---- pieces beside one another

pub one_piece : (t : TypeTree) (piece : List ℕ) (vs : List Value) → AreValues t piece vs → ArePieces t (piece ∷ []) vs
one_piece t piece vs are = (vs, [], sym (append-nil vs), are, refl)

both : (t : TypeTree) (ps qs : List (List ℕ)) (us ws : List Value) → ArePieces t ps us → ArePieces t qs ws → ArePieces t (ps ++ qs) (us ++ ws)
both t [] qs us ws h k = subst (ArePieces t qs) (ap (λ (x : List Value). x ++ ws) (sym h)) k
both t (piece ∷ ps) qs us ws (vs, rest, e, are, more) k =
    (vs, rest ++ ws, ap (λ (x : List Value). x ++ ws) e ∙ append_assoc vs rest ws, are, both t ps qs rest ws more k)

-- the pieces of both halves, and the values of both
pub halves_joined : {A B : Type 0} (now : A → List ℕ) (value : B → Value) (t : TypeTree) (half : ℕ) (pieces first last : List A) (low high : List B) → first ≡ take half pieces → last ≡ drop half pieces → ArePieces t (map now first) (map value low) → ArePieces t (map now last) (map value high) → ArePieces t (map now pieces) (map value (low ++ high))
halves_joined now value t half pieces first last low high f l h k =
    let whole : first ++ last ≡ pieces = ap₂ ◌++◌ f l ∙ take-append-drop half pieces in
    subst (ArePieces t (map now pieces)) (sym (map-append value low high))
    (subst (λ (x : List (List ℕ)). ArePieces t x (map value low ++ map value high)) (sym (map-append now first last) ∙ ap (map now) whole)
    (both t (map now first) (map now last) (map value low) (map value high) h k))

-- all places of a list, and nothing behind them
pub all_places : {A : Type 0} (n : ℕ) (xs ys : List A) → length xs ≡ n → take n (xs ++ ys) ≡ xs
all_places n xs ys e = take-append-le n xs ys (omega (arith, e)) ∙ take_all n xs (omega (arith, e))

pub mapped_some : {A B : Type 0} (f : A → B) (xs : List A) → 0 < length xs → 0 < length (map f xs)
mapped_some f [] h = absurd (omega (arith, h))
mapped_some f (x ∷ xs) h = omega arith
