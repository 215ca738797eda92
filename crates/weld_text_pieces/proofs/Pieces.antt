-- Lists written in pieces.
use Rattle.std.proofs.Common.{◌≡◌, sym, ◌∙◌, ℕ, zero, suc, ◌-◌, List, [], ◌∷◌, ◌++◌, length, take, drop, set, arith, refl, ap, subst, map, flat_map, append_assoc, append-nil, Result, Ok, Err, IfOk, MatchResult, Contains}
use Rattle.std.specs.List.{AllZip}
use Rattle.std.proofs.lemmas.List.{map-append, length-drop, take_all}
use Rattle.weld_data.specs.Value.{Value}
use Rattle.weld_write_value.specs.Showing.{led, shown_scalar}

pub led-append : (f : Value → List ℕ) (us vs : List Value) → led 44 f (us ++ vs) ≡ led 44 f us ++ led 44 f vs
led-append f [] vs = refl
led-append f (u ∷ us) vs = ap (λ (x : List ℕ). 44 ∷ f u ++ x) (led-append f us vs) ∙ ap (λ (x : List ℕ). 44 ∷ x) (sym (append_assoc (f u) (led 44 f us) (led 44 f vs)))

-- a block more of what is left
pub piece_more : {A : Type 0} (f : A → Value) (rest block more : List A) (out new whole text : List ℕ) → rest ≡ block ++ more → new ≡ out ++ text → text ≡ led 44 shown_scalar (map f block) → out ++ led 44 shown_scalar (map f rest) ≡ whole → new ++ led 44 shown_scalar (map f more) ≡ whole
piece_more f rest block more out new whole text r e t h =
    let left = led 44 shown_scalar (map f more) in
    let first = led 44 shown_scalar (map f block) in
    ap (λ (x : List ℕ). x ++ left) (e ∙ ap (λ (x : List ℕ). out ++ x) t)
    ∙ append_assoc out first left
    ∙ ap (λ (x : List ℕ). out ++ x) (sym (led-append shown_scalar (map f block) (map f more))
    ∙ ap (led 44 shown_scalar) (sym (map-append f block more) ∙ ap (map f) (sym r)))
    ∙ h

-- a list's end, cut as the range up to the length
pub range_to_end : (bytes : List ℕ) (n at : ℕ) → length bytes ≡ n → take (n - at) (drop at bytes) ≡ drop at bytes
range_to_end bytes n at e = take_all (n - at) (drop at bytes) (omega (arith, length-drop at bytes, e))

no_bytes : (text : List ℕ) → [] ≡ 44 ∷ text ++ [] → ⊥
no_bytes text e = cc

-- the first scalar, its comma made a bracket
pub bracketed : (bytes : List ℕ) (at : ℕ) (text : List ℕ) → drop at bytes ≡ 44 ∷ text ++ [] → drop at (set bytes at 91) ≡ 91 ∷ text
bracketed [] zero text e = absurd (no_bytes text e)
bracketed [] (suc at) text e = absurd (no_bytes text e)
bracketed (b ∷ bytes) zero text e = ap (λ (x : List ℕ). 91 ∷ drop 1 x) e ∙ ap (λ (x : List ℕ). 91 ∷ x) (append-nil text)
bracketed (b ∷ bytes) (suc at) text e = bracketed bytes at text e

-- texts, each that of a piece, are together that of the pieces
pub texts_joined : {A : Type 0} (f : A → Value) (pieces : List (List A)) (texts : List (List ℕ)) → AllZip (λ piece text. text ≡ led 44 shown_scalar (map f piece)) pieces texts → flat_map (λ text. text) texts ≡ led 44 shown_scalar (map f (flat_map (λ piece. piece) pieces))
texts_joined f [] [] h = refl
texts_joined f [] (text ∷ texts) h = absurd h
texts_joined f (piece ∷ pieces) [] h = absurd h
texts_joined f (piece ∷ pieces) (text ∷ texts) h =
    let rest = flat_map (λ p. p) pieces in
    ap (λ (x : List ℕ). x ++ flat_map (λ t. t) texts) h.0
    ∙ ap (λ (x : List ℕ). led 44 shown_scalar (map f piece) ++ x) (texts_joined f pieces texts h.1)
    ∙ sym (ap (led 44 shown_scalar) (map-append f piece rest) ∙ led-append shown_scalar (map f piece) (map f rest))

-- where no piece failed, each text is that of its piece
all_made : {X Y : Type 0} (E : Type 0) (P : X → Y → Type 0) (pieces : List X) (ys : List Y) → AllZip (λ piece (r : Result Y E). IfOk r (P piece)) pieces (map Ok ys) → AllZip P pieces ys
all_made E P [] [] h = tt
all_made E P [] (y ∷ ys) h = absurd h
all_made E P (piece ∷ pieces) [] h = absurd h
all_made E P (piece ∷ pieces) (y ∷ ys) h = (h.0, all_made E P pieces ys h.1)

-- what collecting the pieces' texts gives
pub collected : {A V : Type 0} (E : Type 0) (f : A → Value) (texts_of : V → List (List ℕ)) (items : List A) (pieces : List (List A)) (answers : List (Result (List ℕ) E)) (r : Result V E) → flat_map (λ piece. piece) pieces ≡ items → AllZip (λ piece answer. IfOk answer (λ text. text ≡ led 44 shown_scalar (map f piece))) pieces answers → MatchResult r (λ v. (ys : List (List ℕ)) × (answers ≡ map Ok ys) × (texts_of v ≡ ys)) (λ e. Contains answers (Err e)) → IfOk r (λ v. flat_map (λ text. text) (texts_of v) ≡ led 44 shown_scalar (map f items))
collected E f texts_of items pieces answers (Ok v) e h (ys, all, same) =
    let each = all_made E (λ piece text. text ≡ led 44 shown_scalar (map f piece)) pieces ys (subst (AllZip _ pieces) all h) in
    ap (flat_map (λ text. text)) same ∙ texts_joined f pieces ys each ∙ ap (λ (x : List _). led 44 shown_scalar (map f x)) e
collected E f texts_of items pieces answers (Err x) e h m = tt
