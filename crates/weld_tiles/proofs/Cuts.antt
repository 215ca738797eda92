-- Rows cut into halves, and tilings.
use Rattle.std.proofs.Common.{◌≡◌, ℕ, ◌+◌, ◌-◌, ◌<◌, ◌≤◌, List, [], ◌∷◌, ◌++◌, length, add-zero, append_assoc, append-nil, length-append, ap, ap₂, sym, subst, refl, ◌∙◌, arith}
use Rattle.weld_tiles.specs.declared.tile.Tile.{Tile}
use Rattle.weld_tiles.specs.Tiling.{middle, Halves, empty, whole, halved, numbered, AddsHalves, IsRun, IsTiling}

-- ---- one way only

pub one_cut : (cut lo hi : ℕ) (first second : List (ℕ × ℕ)) → Halves cut lo hi first → Halves cut lo hi second → first ≡ second
one_cut cut lo hi _ _ (empty _ _ e) (empty _ _ f) = refl
one_cut cut lo hi _ _ (empty _ _ e) (whole _ _ l s) = absurd (omega arith)
one_cut cut lo hi _ _ (empty _ _ e) (halved _ _ _ _ c g h) = absurd (omega arith)
one_cut cut lo hi _ _ (whole _ _ l s) (empty _ _ f) = absurd (omega arith)
one_cut cut lo hi _ _ (whole _ _ l s) (whole _ _ m t) = refl
one_cut cut lo hi _ _ (whole _ _ l s) (halved _ _ _ _ c g h) = absurd (omega arith)
one_cut cut lo hi _ _ (halved _ _ _ _ c p q) (empty _ _ f) = absurd (omega arith)
one_cut cut lo hi _ _ (halved _ _ _ _ c p q) (whole _ _ m t) = absurd (omega arith)
one_cut cut lo hi _ _ (halved _ _ a b c p q) (halved _ _ d e f g h) = ap₂ ◌++◌ (one_cut cut lo (middle lo hi) a d p g) (one_cut cut (middle lo hi) hi b e q h)

-- ---- what the cut appends

pub adds_none : (cut lo hi : ℕ) (old : List Tile) → lo ≡ hi → AddsHalves cut lo hi old old
adds_none cut lo hi old e = record { ranges = []; cuts = empty lo hi e; behind = sym (append-nil old) }

pub adds_one : (cut lo hi : ℕ) (old : List Tile) → lo < hi → hi - lo ≤ cut → AddsHalves cut lo hi old (old ++ record { number = length old; lo = lo; hi = hi } ∷ [])
adds_one cut lo hi old l h = record { ranges = (lo, hi) ∷ []; cuts = whole lo hi l h; behind = refl }

numbered-append : (n : ℕ) (xs ys : List (ℕ × ℕ)) → numbered n (xs ++ ys) ≡ numbered n xs ++ numbered (n + length xs) ys
numbered-append n [] ys = ap (λ m. numbered m ys) (sym (add-zero n))
numbered-append n (x ∷ xs) ys =
    let e : n + 1 + length xs ≡ n + length (x ∷ xs) = omega arith in
    ap (λ ts. record { number = n; lo = x.0; hi = x.1 } ∷ ts) (numbered-append (n + 1) xs ys ∙ ap (λ m. numbered (n + 1) xs ++ numbered m ys) e)

length-numbered : (n : ℕ) (xs : List (ℕ × ℕ)) → length (numbered n xs) ≡ length xs
length-numbered n [] = refl
length-numbered n (x ∷ xs) = let t = length-numbered (n + 1) xs in omega arith

pub adds_both : (cut lo hi : ℕ) (a b c : List Tile) → cut < hi - lo → AddsHalves cut lo (middle lo hi) a b → AddsHalves cut (middle lo hi) hi b c → AddsHalves cut lo hi a c
adds_both cut lo hi a b c l f s =
    let long : length b ≡ length a + length f.ranges = ap length f.behind ∙ length-append a (numbered (length a) f.ranges) ∙ ap (λ n. length a + n) (length-numbered (length a) f.ranges) in
    record {
      ranges = f.ranges ++ s.ranges;
      cuts = halved lo hi f.ranges s.ranges l f.cuts s.cuts;
      behind = s.behind ∙ ap₂ (λ ts n. ts ++ numbered n s.ranges) f.behind long
          ∙ append_assoc a (numbered (length a) f.ranges) (numbered (length a + length f.ranges) s.ranges)
          ∙ ap (λ ts. a ++ ts) (sym (numbered-append (length a) f.ranges s.ranges));
    }

-- ---- it is a tiling

IsRun-append : (n lo mid hi : ℕ) (xs ys : List Tile) → IsRun n lo mid xs → IsRun (n + length xs) mid hi ys → IsRun n lo hi (xs ++ ys)
IsRun-append n lo mid hi [] ys p q = let e : n + 0 ≡ n = omega arith in subst (λ k. IsRun k lo hi ys) e (subst (λ k. IsRun (n + 0) k hi ys) (sym p) q)
IsRun-append n lo mid hi (x ∷ xs) ys p q =
    let e : n + length (x ∷ xs) ≡ n + 1 + length xs = omega arith in
    (p.0, IsRun-append (n + 1) x.hi mid hi xs ys p.1 (subst (λ k. IsRun k mid hi ys) e q))

IsRun-halves : (cut n lo hi : ℕ) (rs : List (ℕ × ℕ)) → Halves cut lo hi rs → IsRun n lo hi (numbered n rs)
IsRun-halves cut n lo hi _ (empty _ _ e) = e
IsRun-halves cut n lo hi _ (whole _ _ l s) = ((refl, refl, l), refl)
IsRun-halves cut n lo hi _ (halved _ _ a b c p q) =
    subst (IsRun n lo hi) (sym (numbered-append n a b))
    (IsRun-append n lo (middle lo hi) hi (numbered n a) (numbered (n + length a) b)
    (IsRun-halves cut n lo (middle lo hi) a p)
    (subst (λ k. IsRun (n + k) (middle lo hi) hi (numbered (n + length a) b)) (sym (length-numbered n a)) (IsRun-halves cut (n + length a) (middle lo hi) hi b q)))

pub halves_tile : (cut rows : ℕ) (list : List Tile) → AddsHalves cut 0 rows [] list → IsTiling list rows
halves_tile cut rows list a = subst (IsRun 0 0 rows) (sym a.behind) (IsRun-halves cut 0 0 rows a.ranges a.cuts)
