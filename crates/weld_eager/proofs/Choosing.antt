-- Numbers chosen place by place, and lists put side by side.
use Rattle.std.proofs.Common.{◌≡◌, ℕ, zero, suc, ◌+◌, ◌<◌, ◌≤◌, ℤ, pos, Bool, true, false, cond, List, [], ◌∷◌, ◌++◌, map, drop, length, slice_index_or, append_assoc, append-nil, ap, sym, subst, refl, ◌∙◌, arith}
use Rattle.weld_data.specs.declared.kind.Kind.{Kind}
use Rattle.weld_data.specs.Kind.{InRange}
use Rattle.weld_builders.specs.Outcome.{done, fault, and_then, map_out}
use Rattle.weld_builders.specs.Range.{AllInRange}
use Rattle.weld_eager.proofs.Words.{bits, bits_are, cell_in_range, all_in_range_at}
use Rattle.weld_calls.specs.Lists.{paired, chosen}
use Rattle.weld_calls.proofs.Outcomes.{and_then-map_out, map_out-and_then, map_out-map_out, and_then-same, map_out-same}
use Rattle.weld_eager.proofs.Combining.{paired_apart, left_from}

-- ---- lists of one length

pub record ArePaired {A B : Type 0} (xs : List A) (ys : List B) : Type 0 where
  pub pairs : List (A × B)
  pub same : paired xs ys ≡ done pairs
  pub count : length pairs ≡ length xs

pub are_paired : {A B : Type 0} (xs : List A) (ys : List B) → length xs ≡ length ys → ArePaired xs ys
are_paired [] [] e = record { pairs = []; same = refl; count = refl }
are_paired [] (y ∷ ys) e = absurd (omega (arith, e))
are_paired (x ∷ xs) [] e = absurd (omega (arith, e))
are_paired (x ∷ xs) (y ∷ ys) e =
    let r = are_paired xs ys (omega (arith, e)) in
    record { pairs = (x, y) ∷ r.pairs; same = ap (map_out (λ ps. (x, y) ∷ ps)) r.same; count = ap suc r.count }

-- ---- numbers chosen

pub chosen_apart : (ms : List Bool) (xs ys : List ℤ) → (length xs ≡ length ys → ⊥) → chosen ms xs ys ≡ fault
chosen_apart ms xs ys ne = ap (λ o. map_out (map (λ (p : Bool × (ℤ × ℤ)). cond p.0 p.1.0 p.1.1)) (and_then o (paired ms))) (paired_apart xs ys ne)

pub chosen_unmarked : (ms : List Bool) (xs ys : List ℤ) → length xs ≡ length ys → (length ms ≡ length xs → ⊥) → chosen ms xs ys ≡ fault
chosen_unmarked ms xs ys e ne =
    let r = are_paired xs ys e in
    ap (λ o. map_out (map (λ (p : Bool × (ℤ × ℤ)). cond p.0 p.1.0 p.1.1)) (and_then o (paired ms))) r.same
    ∙ ap (map_out (map (λ (p : Bool × (ℤ × ℤ)). cond p.0 p.1.0 p.1.1))) (paired_apart ms r.pairs (λ f. ne (f ∙ r.count)))

abbrev picks : List (Bool × (ℤ × ℤ)) → List ℤ
picks ps = map (λ (p : Bool × (ℤ × ℤ)). cond p.0 p.1.0 p.1.1) ps

chosen_one : (m : Bool) (x y : ℤ) (ms : List Bool) (xs ys : List ℤ) → chosen (m ∷ ms) (x ∷ xs) (y ∷ ys) ≡ map_out (λ r. cond m x y ∷ r) (chosen ms xs ys)
chosen_one m x y ms xs ys =
    ap (map_out picks) (and_then-map_out (paired xs ys) (λ ps. (x, y) ∷ ps) (paired (m ∷ ms)))
    ∙ map_out-and_then (paired xs ys) (λ ps. map_out (λ qs. (m, (x, y)) ∷ qs) (paired ms ps)) picks
    ∙ and_then-same (paired xs ys) _ _ (λ ps. map_out-map_out (λ qs. (m, (x, y)) ∷ qs) picks (paired ms ps) ∙ sym (map_out-map_out picks (λ r. cond m x y ∷ r) (paired ms ps)))
    ∙ sym (map_out-and_then (paired xs ys) (λ ps. map_out picks (paired ms ps)) (λ r. cond m x y ∷ r))
    ∙ ap (map_out (λ r. cond m x y ∷ r)) (sym (map_out-and_then (paired xs ys) (paired ms) picks))

marks_left : (ms : List Bool) (i : ℕ) → i < length ms → drop i ms ≡ slice_index_or ms i false ∷ drop (i + 1) ms
marks_left [] i h = absurd (none i h)
  where
    none : (i : ℕ) → i < 0 → ⊥
    none i h = omega (arith, h)
marks_left (m ∷ ms) zero h = refl
marks_left (m ∷ ms) (suc i) h =
    let more : suc (i + 1) ≡ suc i + 1 = omega arith in
    marks_left ms i (omega (arith, h)) ∙ ap (λ n. slice_index_or ms i false ∷ drop n (m ∷ ms)) more

pub chosen_more : (k : Kind) (ms : List Bool) (xs ys zs new : List ℤ) (i : ℕ) (z : ℤ) → AllInRange k xs → AllInRange k ys → i < length xs → length xs ≡ length ys → length ms ≡ length xs
    → z ≡ cond (slice_index_or ms i false) (bits (slice_index_or xs i (pos 0))) (bits (slice_index_or ys i (pos 0))) → new ≡ zs ++ bits z ∷ []
    → chosen ms xs ys ≡ map_out (λ rest. zs ++ rest) (chosen (drop i ms) (drop i xs) (drop i ys))
    → chosen ms xs ys ≡ map_out (λ rest. new ++ rest) (chosen (drop (i + 1) ms) (drop (i + 1) xs) (drop (i + 1) ys))
chosen_more k ms xs ys zs new i z f g h l n e is so =
    let there : i < length ys = omega (arith, h, l) in
    let marked : i < length ms = omega (arith, h, n) in
    let m = slice_index_or ms i false in
    let x = slice_index_or xs i (pos 0) in
    let y = slice_index_or ys i (pos 0) in
    let fx = all_in_range_at k xs i (pos 0) f h in
    let fy = all_in_range_at k ys i (pos 0) g there in
    let at : bits z ≡ cond m x y = ap bits (e ∙ (λ j. cond m (bits_are k x fx j) (bits_are k y fy j))) ∙ by k m x y fx fy in
    so
    ∙ (λ j. map_out (λ rest. zs ++ rest) (chosen (marks_left ms i marked j) (left_from xs i h j) (left_from ys i there j)))
    ∙ ap (map_out (λ rest. zs ++ rest)) (chosen_one m x y (drop (i + 1) ms) (drop (i + 1) xs) (drop (i + 1) ys))
    ∙ map_out-map_out (λ r. cond m x y ∷ r) (λ rest. zs ++ rest) (chosen (drop (i + 1) ms) (drop (i + 1) xs) (drop (i + 1) ys))
    ∙ map_out-same (chosen (drop (i + 1) ms) (drop (i + 1) xs) (drop (i + 1) ys)) _ _ (λ rest. sym (append_assoc zs (cond m x y ∷ []) rest) ∙ ap (λ l. l ++ rest) (sym (is ∙ ap (λ w. zs ++ w ∷ []) at)))
  where
    by : (k : Kind) (b : Bool) (x y : ℤ) → InRange k x → InRange k y → bits (cond b x y) ≡ cond b x y
    by k true x y f g = bits_are k x f
    by k false x y f g = bits_are k y g

pub picked_in_range : (k : Kind) (ms : List Bool) (xs ys : List ℤ) (i : ℕ) (z : ℤ) → AllInRange k xs → AllInRange k ys → i < length xs → length xs ≡ length ys
    → z ≡ cond (slice_index_or ms i false) (bits (slice_index_or xs i (pos 0))) (bits (slice_index_or ys i (pos 0))) → InRange k z
picked_in_range k ms xs ys i z f g h l e =
    let there : i < length ys = omega (arith, h, l) in
    subst (InRange k) (sym e) (by (slice_index_or ms i false) (cell_in_range k xs i f h) (cell_in_range k ys i g there))
  where
    by : {x y : ℤ} (b : Bool) → InRange k x → InRange k y → InRange k (cond b x y)
    by true f g = f
    by false f g = g

pub chosen_ends : (ms : List Bool) (xs ys zs : List ℤ) (i : ℕ) → length xs ≤ i → length xs ≡ length ys → length ms ≡ length xs
    → chosen ms xs ys ≡ map_out (λ rest. zs ++ rest) (chosen (drop i ms) (drop i xs) (drop i ys)) → chosen ms xs ys ≡ done zs
chosen_ends ms xs ys zs i h l n so =
    so ∙ (λ j. map_out (λ rest. zs ++ rest) (chosen (drop_past ms i (omega (arith, h, n)) j) (drop_past xs i h j) (drop_past ys i (omega (arith, h, l)) j))) ∙ ap done (append-nil zs)
  where
    drop_past : {A : Type 0} (xs : List A) (i : ℕ) → length xs ≤ i → drop i xs ≡ []
    drop_past [] zero h = refl
    drop_past [] (suc i) h = refl
    drop_past (x ∷ xs) zero h = absurd (omega (arith, h))
    drop_past (x ∷ xs) (suc i) h = drop_past xs i (omega (arith, h))
