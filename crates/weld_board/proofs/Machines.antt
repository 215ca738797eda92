-- The machine's lists against those of the core.
use Rattle.std.proofs.Common.{◌≡◌, ℕ, zero, suc, ◌-◌, ◌<◌, List, [], ◌∷◌, ◌++◌, length, map, reverse, get_or, set, take, Vec, vec_items, refl, ap, sym, ◌∙◌, length-append, arith}
use mathlib.Core.List.{reverse-cons}
use Rattle.std.proofs.lemmas.List.{reverse-reverse}
use Rattle.std.proofs.Math.Seq.{take-append_seam, map-set_same}
use Rattle.weld_tiles.specs.declared.tile.Tile.{Tile}
use Rattle.weld_board.specs.Machines.{turned, shown}

-- what is shown of the item at a place
pub map_at : {A B : Type 0} (f : A → B) (xs : List A) (k : ℕ) (d : A) (e : B) → k < length xs → get_or (map f xs) k e ≡ f (get_or xs k d)
map_at f [] k d e low = absurd (omega arith)
map_at f (x ∷ xs) zero d e low = refl
map_at f (x ∷ xs) (suc k) d e low = map_at f xs k d e (omega arith)

-- and of lists with another item there
pub map_set : {A B : Type 0} (f : A → B) (xs : List A) (k : ℕ) (x : A) → map f (set xs k x) ≡ set (map f xs) k (f x)
map_set f [] k x = refl
map_set f (y ∷ xs) zero x = refl
map_set f (y ∷ xs) (suc k) x = ap (λ l. f y ∷ l) (map_set f xs k x)

-- a hand kept back to front gave its last item
hand_left : (v w : List Tile) (t : Tile) (rest : List Tile) (n : ℕ) → n ≡ length v → reverse v ≡ t ∷ rest → w ≡ take (n - 1) v → reverse w ≡ rest
hand_left v w t rest n long is less =
    let whole : v ≡ reverse rest ++ t ∷ [] = sym (reverse-reverse v) ∙ ap reverse is ∙ reverse-cons t rest in
    let count : length v ≡ length (reverse rest ++ t ∷ []) = ap length whole in
    let both = length-append (reverse rest) (t ∷ []) in
    let one : n - 1 ≡ length (reverse rest) = omega arith in
    ap reverse (less ∙ ap (λ m. take m v) one ∙ ap (take (length (reverse rest))) whole ∙ take-append_seam (reverse rest) (t ∷ [])) ∙ reverse-reverse rest

module _ {Z : Type 0} where
  pub popped : (hands : List (Vec Tile Z)) (at : ℕ) (d w : Vec Tile Z) (n : ℕ) (t : Tile) (rest : List Tile) → at < length hands → n ≡ length (get_or hands at d).items → w.items ≡ take (n - 1) (get_or hands at d).items
      → get_or (turned hands) at [] ≡ t ∷ rest → turned (set hands at w) ≡ set (turned hands) at rest
  popped hands at d w n t rest low long less is =
      let one : reverse (get_or hands at d).items ≡ t ∷ rest = sym (map_at (λ u. reverse (vec_items u)) hands at d [] low) ∙ is in
      map_set (λ u. reverse (vec_items u)) hands at w ∙ ap (set (turned hands) at) (hand_left (get_or hands at d).items w.items t rest n long one less)

  pub pushed : (lists : List (Vec Tile Z)) (at : ℕ) (d w : Vec Tile Z) (t : Tile) → at < length lists → w.items ≡ (get_or lists at d).items ++ t ∷ []
      → shown (set lists at w) ≡ set (shown lists) at (get_or (shown lists) at [] ++ t ∷ [])
  pushed lists at d w t low more =
      let one : get_or (shown lists) at [] ≡ (get_or lists at d).items = map_at (λ u. vec_items u) lists at d [] low in
      map_set (λ u. vec_items u) lists at w ∙ ap (set (shown lists) at) (more ∙ ap (λ l. l ++ t ∷ []) (sym one))

  pub unpushed : (lists : List (Vec Tile Z)) (at : ℕ) (d w : Vec Tile Z) → w.items ≡ (get_or lists at d).items → shown (set lists at w) ≡ shown lists
  unpushed lists at d w same = map-set_same (λ u. vec_items u) lists at w d same
