-- The place of a name among others, found one after another.
use Rattle.std.proofs.Common.{◌≡◌, ℕ, zero, suc, ◌+◌, ◌<◌, ◌≤◌, ◌==◌, ◌≢◌, Bool, true, false, if◌then◌else◌, List, [], ◌∷◌, drop, length, map, get_or, Option, Some, None, option_map, refl, ap, sym, ◌∙◌, arith}
use Rattle.std.proofs.lemmas.Bool.{eq-eqb, eqb-true}
use Rattle.std.proofs.lemmas.List.{drop_more}
use Rattle.weld_tree.specs.declared.sym.Sym.{Sym}
use Rattle.weld_lane_form.specs.Lowering.{place_among}

-- the place of the name among those from one on, counted from the first of all
abbrev pub place_from : ℕ → List Sym → ℕ → Option ℕ
place_from i ns s = option_map (λ (n : ℕ). n + i) (place_among (map (λ (m : Sym). m.0) (drop i ns)) s)

front : (ns : List Sym) (s i : ℕ) (n : Sym) → i < length ns → n ≡ get_or ns i n
    → place_from i ns s ≡ option_map (λ (k : ℕ). k + i) (if s == n.0 then Some 0 else option_map (λ (k : ℕ). k + 1) (place_among (map (λ (m : Sym). m.0) (drop (i + 1) ns)) s))
front ns s i n h e =
    let d = drop_more ns i n h ∙ ap (λ (m : Sym). m ∷ drop (i + 1) ns) (sym e) in
    ap (λ (l : List Sym). option_map (λ (k : ℕ). k + i) (place_among (map (λ (m : Sym). m.0) l) s)) d

pub found_here : (ns : List Sym) (s i : ℕ) (n : Sym) → i < length ns → n ≡ get_or ns i n → s ≡ n.0 → place_from i ns s ≡ Some i
found_here ns s i n h e is =
    front ns s i n h e
    ∙ ap (λ (t : Bool). option_map (λ (k : ℕ). k + i) (if t then Some 0 else option_map (λ (k : ℕ). k + 1) (place_among (map (λ (m : Sym). m.0) (drop (i + 1) ns)) s))) (eq-eqb s n.0 is)
    ∙ (let z : 0 + i ≡ i = omega arith in ap (λ (k : ℕ). Some k) z)

counted : (i : ℕ) (o : Option ℕ) → option_map (λ (k : ℕ). k + i) (option_map (λ (k : ℕ). k + 1) o) ≡ option_map (λ (k : ℕ). k + (i + 1)) o
counted i None = refl
counted i (Some k) = let z : (k + 1) + i ≡ k + (i + 1) = omega arith in ap (λ (j : ℕ). Some j) z

pub found_later : (ns : List Sym) (s i : ℕ) (n : Sym) → i < length ns → n ≡ get_or ns i n → s ≢ n.0 → place_from i ns s ≡ place_from (i + 1) ns s
found_later ns s i n h e differs =
    front ns s i n h e
    ∙ ap (λ (t : Bool). option_map (λ (k : ℕ). k + i) (if t then Some 0 else option_map (λ (k : ℕ). k + 1) (place_among (map (λ (m : Sym). m.0) (drop (i + 1) ns)) s))) (by (s == n.0) refl)
    ∙ counted i (place_among (map (λ (m : Sym). m.0) (drop (i + 1) ns)) s)
  where
    by : (t : Bool) → (s == n.0) ≡ t → (s == n.0) ≡ false
    by true q = absurd (differs (eqb-true s n.0 q))
    by false q = q

pub not_found : (ns : List Sym) (s i : ℕ) → length ns ≤ i → place_from i ns s ≡ None
not_found [] s zero h = refl
not_found [] s (suc i) h = refl
not_found (n ∷ ns) s zero h = absurd (omega (arith, h))
not_found (n ∷ ns) s (suc i) h = none (place_among (map (λ (m : Sym). m.0) (drop i ns)) s) (unmapped i (place_among (map (λ (m : Sym). m.0) (drop i ns)) s) (not_found ns s i (omega (arith, h))))
  where
    unmapped : (j : ℕ) (o : Option ℕ) → option_map (λ (k : ℕ). k + j) o ≡ None → o ≡ None
    unmapped j None e = refl
    unmapped j (Some k) e = cc

    none : (o : Option ℕ) → o ≡ None → option_map (λ (k : ℕ). k + suc i) o ≡ None
    none o e = ap (option_map (λ (k : ℕ). k + suc i)) e

from_start : (o : Option ℕ) → option_map (λ (k : ℕ). k + 0) o ≡ o
from_start None = refl
from_start (Some k) = let z : k + 0 ≡ k = omega arith in ap (λ (j : ℕ). Some j) z

pub begins : (ns : List Sym) (s : ℕ) → place_among (map (λ (m : Sym). m.0) ns) s ≡ place_from 0 ns s
begins ns s = sym (from_start (place_among (map (λ (m : Sym). m.0) ns) s))
