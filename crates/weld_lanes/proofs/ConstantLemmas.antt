-- Steps that answer the same on every row, and where their answers stand.
use Rattle.std.proofs.Common.{◌≡◌, ◌⊎◌, inl, inr, ℕ, ◌+◌, ◌*◌, ◌<◌, ◌≤◌, ℤ, pos, List, ◌++◌, length, take, map, refl, sym, ap, ◌∙◌, IsTrue, arith}
use Rattle.std.proofs.lemmas.Bool.{cases_lt}
use Rattle.std.proofs.lemmas.List.{get_or-take, length-take-le, take-map}
use Rattle.weld_lanes.specs.declared.steps.LaneStep.{LaneStep}
use Rattle.weld_lanes.specs.declared.steps.LaneStep.TheVariants as steps
use Rattle.weld_lanes.specs.Answers.{at}
use Rattle.weld_lanes.specs.Blocks.{ArePart, AreConstants, AreSame, AreSameAt, block_at, constant_of, is_constant, kept_at, step_at}
use Rattle.weld_lanes.proofs.Running.{front, back}

kept_constant : (us : List ℤ) (s : LaneStep) (a b x : ℤ) → IsTrue (is_constant s) → kept_at us s a b x ≡ constant_of us s
kept_constant us steps.A a b x h = cc
kept_constant us steps.B a b x h = cc
kept_constant us (steps.Lit y) a b x h = refl
kept_constant us (steps.Uniform u) a b x h = refl
kept_constant us (steps.Arith op i j) a b x h = cc
kept_constant us (steps.Compare op i j) a b x h = cc
kept_constant us (steps.Truth t) a b x h = refl
kept_constant us (steps.Not i) a b x h = cc
kept_constant us (steps.And i j) a b x h = cc
kept_constant us (steps.Or i j) a b x h = cc
kept_constant us (steps.Select c i j) a b x h = cc

-- those of a step that is one are its answers on the rows of a block
pub constants_are : (ss : List LaneStep) (us cs ds room ks zs : List ℤ) (done count i : ℕ) → AreConstants ss us ks done → i < done → count ≤ 512 → IsTrue (is_constant (step_at ss i))
    → ArePart (λ j. at ks (i * 512 + j)) zs count → ArePart (block_at ss us cs ds room i) zs count
constants_are ss us cs ds room ks zs done count i h there small constant z = record {
  each = λ j less.
      z.each j less
      ∙ h.each i there j (omega (arith, less, small))
      ∙ sym (kept_constant us (step_at ss i) (at cs j) (at ds j) (at room (i * 512 + j)) constant);
}

-- those of so many steps, and those of one more
pub next_constants : (ss : List LaneStep) (us old new : List ℤ) (x : ℤ) (n : ℕ) → AreConstants ss us old n → AreSameAt x n old new → x ≡ constant_of us (step_at ss n) → AreConstants ss us new (n + 1)
next_constants ss us old new x n h z is = record { each = each }
  where
    each : (i : ℕ) → i < n + 1 → (j : ℕ) → j < 512 → at new (i * 512 + j) ≡ constant_of us (step_at ss i)
    each i less j lower = by (cases_lt i n)
      where
        by : (i < n) ⊎ (n ≤ i) → at new (i * 512 + j) ≡ constant_of us (step_at ss i)
        by (inl low) = z.below (i * 512 + j) (omega arith) ∙ h.each i low j lower
        by (inr high) =
            let same : i ≡ n = omega arith in
            ap (λ (m : ℕ). at new (m * 512 + j)) same ∙ z.here j lower ∙ is ∙ ap (λ (m : ℕ). constant_of us (step_at ss m)) (sym same)

-- the same number written at a step's places
pub same_put : {T : Type 0} (f : T → ℤ) (x : ℤ) (n : ℕ) (old new more : List T) → n * 512 + 512 ≤ length old → length new ≡ 512 → AreSame x (map f new) 512 → AreSameAt x n (map f old) (map f (take (n * 512) old ++ (new ++ more)))
same_put f x n old new more there wide h = record {
  here = λ j less. back f (take (n * 512) old) (new ++ more) (n * 512) j long ∙ front f new more j (omega (arith, wide, less)) ∙ h.each j less;
  below = λ j less.
      front f (take (n * 512) old) (new ++ more) j (omega (arith, long, less))
      ∙ ap (λ (ys : List ℤ). at ys j) (sym (take-map f (n * 512) old))
      ∙ get_or-take (n * 512) (map f old) j (pos 0) less;
}
  where
    long : length (take (n * 512) old) ≡ n * 512
    long = length-take-le (n * 512) old (omega (arith, there))
