-- The tiles of a loop, cut into stretches.
use Rattle.std.proofs.Common.{◌≡◌, ℕ, zero, suc, ◌+◌, ◌-◌, ◌<◌, List, [], ◌∷◌, ◌++◌, take, drop, length, get_or, refl, ap, subst, sym, ◌∙◌, arith}
use Rattle.std.proofs.lemmas.List.{take-append-drop}
use Rattle.weld_tiles.specs.declared.tile.Tile.{Tile}
use Rattle.weld_tiles.specs.Tiling.{Follows, IsRun}
use Rattle.weld_share.specs.declared.stretch.Stretch.{Stretch}
use Rattle.weld_share.specs.Stretches.{IsStretch, AreStretches}

-- tiles that others follow end where their last one does
run_parts : (n lo rows : ℕ) (ts behind : List Tile) (i : ℕ) (d : Tile) → length ts ≡ suc i → IsRun n lo rows (ts ++ behind) → IsRun n lo (get_or ts i d).hi ts × ((m : ℕ) × IsRun m (get_or ts i d).hi rows behind) × (lo < (get_or ts i d).hi)
run_parts n lo rows [] behind i d long run = absurd (omega arith)
run_parts n lo rows (u ∷ []) behind zero d long run = ((run.0, refl), (n + 1, run.1), run.0.2)
run_parts n lo rows (u ∷ []) behind (suc i) d long run = absurd (omega arith)
run_parts n lo rows (u ∷ v ∷ ts) behind zero d long run = absurd (omega arith)
run_parts n lo rows (u ∷ v ∷ ts) behind (suc i) d long run =
    let rest = run_parts (n + 1) u.hi rows (v ∷ ts) behind i d (omega arith) run.1 in
    let first = run.0.2 in
    let more = rest.2 in
    ((run.0, rest.0), rest.1, (omega arith))

pub last_ends : (n lo rows : ℕ) (ts behind : List Tile) (d : Tile) → 0 < length ts → IsRun n lo rows (ts ++ behind)
    → IsRun n lo (get_or ts (length ts - 1) d).hi ts × ((m : ℕ) × IsRun m (get_or ts (length ts - 1) d).hi rows behind) × (lo < (get_or ts (length ts - 1) d).hi)
last_ends n lo rows ts behind d some run = run_parts n lo rows ts behind (length ts - 1) d (omega arith) run

-- the stretches so far, and the tiles that are left
pub record HasCut (rows : ℕ) (list : List Stretch) (lo : ℕ) (left : List Tile) : Type 0 where
  pub so_far : AreStretches 0 0 lo list
  pub next : ℕ
  pub run : IsRun next lo rows left

pub cut_starts : (rows : ℕ) (ts : List Tile) → IsRun 0 0 rows ts → HasCut rows [] 0 ts
cut_starts rows ts run = record { so_far = refl; next = 0; run = run }

one_more : (n lo mid : ℕ) (ss : List Stretch) (s : Stretch) → AreStretches n lo mid ss → Follows s.whole (n + length ss) mid → IsStretch s → AreStretches n lo s.whole.hi (ss ++ s ∷ [])
one_more n lo mid [] s are next is =
    let number : s.whole.number ≡ n = (let here = next.0 in omega arith) in
    let low : s.whole.lo ≡ lo = next.1 ∙ sym are in
    ((number, low, subst (λ k. k < s.whole.hi) (sym are) next.2), is, refl)
one_more n lo mid (u ∷ ss) s are next is =
    let count : n + length (u ∷ ss) ≡ (n + 1) + length ss = omega arith in
    (are.0, are.1, one_more (n + 1) u.whole.hi mid ss s are.2 (subst (λ k. Follows s.whole k mid) count next) is)

pub cut_on : (rows : ℕ) (list : List Stretch) (lo : ℕ) (left run behind : List Tile) (s : Stretch) → HasCut rows list lo left → left ≡ run ++ behind → s.whole.number ≡ length list → s.whole.lo ≡ lo → s.tiles.now ≡ run
    → ((n low all : ℕ) (more : List Tile) → IsRun n low all (run ++ more) → IsRun n low s.whole.hi run × ((m : ℕ) × IsRun m s.whole.hi all more) × (low < s.whole.hi))
    → HasCut rows (list ++ s ∷ []) s.whole.hi behind
cut_on rows list lo left run behind s h parts number low same ends =
    let all : length list ≡ 0 + length list = omega arith in
    let apart = ends h.next lo rows behind (subst (IsRun h.next lo rows) parts h.run) in
    record {
      so_far = one_more 0 0 lo list s h.so_far (number ∙ all, low, apart.2) (h.next, subst (λ k. IsRun h.next k s.whole.hi s.tiles.now) (sym low) (subst (IsRun h.next lo s.whole.hi) (sym same) apart.0));
      next = apart.1.0;
      run = apart.1.1;
    }

pub cut_ends : (rows : ℕ) (list : List Stretch) (lo : ℕ) (left : List Tile) → HasCut rows list lo left → left ≡ [] → AreStretches 0 0 rows list
cut_ends rows list lo left h none = subst (λ k. AreStretches 0 0 k list) (subst (IsRun h.next lo rows) none h.run) h.so_far

pub parted : (k : ℕ) (ts run behind : List Tile) → run ≡ take k ts → behind ≡ drop k ts → ts ≡ run ++ behind
parted k ts run behind r b = sym (take-append-drop k ts) ∙ ap (λ l. l ++ drop k ts) (sym r) ∙ ap (λ l. run ++ l) (sym b)
