-- The one loop binds, names and holds nothing that both lets don't.
use Rattle.std.proofs.Common.{◌≡◌, ◌≢◌, ◌⊎◌, inl, inr, ℕ, ◌+◌, ◌*◌, ◌≤◌, ◌<◌, ◌^◌, ◌==◌, if◌then◌else◌, List, [], ◌∷◌, ◌++◌, length, refl, sym, ap, ◌∙◌, subst, arith, length-append}
use Rattle.weld_data.specs.declared.kind.Kind.TheVariants as kinds
use Rattle.weld_tree.specs.TypeTree.{TypeTree, scalar}
use Rattle.weld_tree.specs.ExprTree.{At, ExprTree, leaf, name}
use Rattle.weld_tree.specs.Program.{bound, loops}
use Rattle.weld_meaning.specs.Names.{IsFree, put}
use Rattle.weld_substitution.specs.Uses.{uses}
use Rattle.weld_rewriting.specs.Within.{times, legs, StaysWithin}
use Rattle.weld_rewriting.proofs.Counts.{times-append}
use Rattle.weld_substitution.proofs.PutCounts.{put_counted}
use Rattle.weld_substitution.proofs.PutMade.{put_named, put_made, put_spellable}
use Rattle.weld_joining.specs.Beside.{Half, half_loop, two_lets, MayJoin, node_of, both_builders, builder_field, second_body, side_by_side}
use Rattle.weld_joining.proofs.Finishing.{finish_bound, finish_loops, finish_legs, finish_free, finish_free_back, finish_made, finish_made_back, finish_spellable, finish_spellable_back}
use Rattle.weld_joining.proofs.Numbers.{own_numbers, second_numbers, numbers_are}

-- ---- sums

none_more : (m : ℕ) → m * 0 ≡ 0
none_more m = omega arith

-- what the new tree counts, in its order, and the old in its own
sums : (n1 b1 i1 x1 n2 b2 i2 x2 s1 s2 f1 f2 f3 r : ℕ) → f3 ≡ f2
    → i2 + (((s1 + (s2 + 0)) + (x2 + (i1 + (x1 + ((b1 + f1) + ((b2 + f3) + 0)))))) + (n1 + (n2 + r))) ≤ n1 + (s1 + (b1 + (i1 + (x1 + (f1 + (n2 + (s2 + (b2 + (i2 + (x2 + (f2 + r)))))))))))
sums n1 b1 i1 x1 n2 b2 i2 x2 s1 s2 f1 f2 f3 r e = omega arith

module _ (a m : At) (s : ℕ) (row : TypeTree) (h k : Half) (rest : ExprTree) (may : MayJoin row h k) where
  abbrev new : ExprTree
  new = second_body a.place row h k

  abbrev number_name : ExprTree
  number_name = leaf (node_of a.place (scalar kinds.I64)) (name h.number.sym.0)

  abbrev row_name : ExprTree
  row_name = leaf (node_of a.place row) (name h.row.sym.0)

  abbrev half : ExprTree
  half = put k.row.sym.0 row_name k.body

  -- ---- the second body counts as before

  new_times : (t : ℕ) → times (bound new) t ≡ times (bound k.body) t
  new_times t =
      let p = (put_counted half k.number.sym.0 number_name).binds t in
      let q = (put_counted k.body k.row.sym.0 row_name).binds t in
      omega (arith, p, q, none_more (uses half k.number.sym.0), none_more (uses k.body k.row.sym.0))

  new_length : length (bound new) ≡ length (bound k.body)
  new_length =
      let p = (put_counted half k.number.sym.0 number_name).binder_count in
      let q = (put_counted k.body k.row.sym.0 row_name).binder_count in
      omega (arith, p, q, none_more (uses half k.number.sym.0), none_more (uses k.body k.row.sym.0))

  new_loops : loops new ≡ loops k.body
  new_loops =
      let p = (put_counted half k.number.sym.0 number_name).loop_count in
      let q = (put_counted k.body k.row.sym.0 row_name).loop_count in
      omega (arith, p, q, none_more (uses half k.number.sym.0), none_more (uses k.body k.row.sym.0))

  new_legs : legs new ≡ legs k.body
  new_legs =
      let p = (put_counted half k.number.sym.0 number_name).leg_count in
      let q = (put_counted k.body k.row.sym.0 row_name).leg_count in
      omega (arith, p, q, none_more (uses half k.number.sym.0), none_more (uses k.body k.row.sym.0))

  new_named : (t : ℕ) → IsFree new t → (t ≡ h.number.sym.0) ⊎ ((t ≡ h.row.sym.0) ⊎ (IsFree k.body t × (t ≢ k.row.sym.0) × (t ≢ k.number.sym.0)))
  new_named t f = by (put_named half k.number.sym.0 number_name t f)
    where
      within_row : (t ≢ k.number.sym.0) → IsFree row_name t ⊎ (IsFree k.body t × (t ≢ k.row.sym.0)) → (t ≡ h.number.sym.0) ⊎ ((t ≡ h.row.sym.0) ⊎ (IsFree k.body t × (t ≢ k.row.sym.0) × (t ≢ k.number.sym.0)))
      within_row ne (inl e) = inr (inl e)
      within_row ne (inr q) = inr (inr (q.0, q.1, ne))

      by : IsFree number_name t ⊎ (IsFree half t × (t ≢ k.number.sym.0)) → (t ≡ h.number.sym.0) ⊎ ((t ≡ h.row.sym.0) ⊎ (IsFree k.body t × (t ≢ k.row.sym.0) × (t ≢ k.number.sym.0)))
      by (inl e) = inl e
      by (inr q) = within_row q.1 (put_named k.body k.row.sym.0 row_name t q.0)

  -- ---- the whole

  abbrev answer : ExprTree
  answer = side_by_side a m s row h k rest

  abbrev pattern : ExprTree
  pattern = two_lets a m s h k rest

  abbrev first_part : List ℕ
  first_part = h.builder.sym.0 ∷ bound h.body

  abbrev second_part : List ℕ
  second_part = k.builder.sym.0 ∷ bound new

  abbrev one : ℕ → ℕ → ℕ
  one t u = if t == u then 1 else 0

  abbrev start_part : List ℕ
  start_part = bound h.start ++ (bound k.start ++ [])

  abbrev loop_part : List ℕ
  loop_part = k.row.sym.0 ∷ h.number.sym.0 ∷ h.row.sym.0 ∷ (first_part ++ (second_part ++ []))

  abbrev first_field : ExprTree
  first_field = builder_field a.place (both_builders h k) 0 h.starts k.number.sym.0

  abbrev second_field : ExprTree
  second_field = builder_field a.place (both_builders h k) 1 k.starts k.number.sym.0

  answer_is : bound answer ≡ k.number.sym.0 ∷ ((start_part ++ loop_part) ++ (h.bound.sym.0 ∷ k.bound.sym.0 ∷ bound rest))
  answer_is = λ i.
      k.number.sym.0 ∷ ((start_part ++ loop_part) ++ (h.bound.sym.0 ∷ (finish_bound h.result_at first_field i ++ (k.bound.sym.0 ∷ (finish_bound k.result_at second_field i ++ bound rest)))))

  start_times : (t : ℕ) → times start_part t ≡ times (bound h.start) t + (times (bound k.start) t + 0)
  start_times t = times-append (bound h.start) (bound k.start ++ []) t ∙ ap (λ n. times (bound h.start) t + n) (times-append (bound k.start) [] t)

  loop_times : (t : ℕ) → times loop_part t ≡ one t k.row.sym.0 + (one t h.number.sym.0 + (one t h.row.sym.0 + ((one t h.builder.sym.0 + times (bound h.body) t) + ((one t k.builder.sym.0 + times (bound new) t) + 0))))
  loop_times t =
      ap (λ n. one t k.row.sym.0 + (one t h.number.sym.0 + (one t h.row.sym.0 + n)))
      (times-append first_part (second_part ++ []) t ∙ ap (λ n. (one t h.builder.sym.0 + times (bound h.body) t) + n) (times-append second_part [] t))

  answer_times : (t : ℕ) → times (bound answer) t
      ≡ one t k.number.sym.0 + (((times (bound h.start) t + (times (bound k.start) t + 0))
      + (one t k.row.sym.0 + (one t h.number.sym.0 + (one t h.row.sym.0 + ((one t h.builder.sym.0 + times (bound h.body) t) + ((one t k.builder.sym.0 + times (bound new) t) + 0))))))
      + (one t h.bound.sym.0 + (one t k.bound.sym.0 + times (bound rest) t)))
  answer_times t =
      ap (λ xs. times xs t) answer_is
      ∙ ap (λ n. one t k.number.sym.0 + n)
      (times-append (start_part ++ loop_part) (h.bound.sym.0 ∷ k.bound.sym.0 ∷ bound rest) t
      ∙ ap (λ n. n + (one t h.bound.sym.0 + (one t k.bound.sym.0 + times (bound rest) t)))
      (times-append start_part loop_part t ∙ (λ i. start_times t i + loop_times t i)))

  second_times : (t : ℕ) → times (second_numbers k rest) t
      ≡ one t k.bound.sym.0 + (times (bound k.start) t + (one t k.builder.sym.0 + (one t k.number.sym.0 + (one t k.row.sym.0 + (times (bound k.body) t + times (bound rest) t)))))
  second_times t =
      ap (λ n. one t k.bound.sym.0 + n)
      (times-append (bound k.start) (own_numbers k (bound rest)) t
      ∙ ap (λ n. times (bound k.start) t + (one t k.builder.sym.0 + (one t k.number.sym.0 + (one t k.row.sym.0 + n)))) (times-append (bound k.body) (bound rest) t))

  pattern_times : (t : ℕ) → times (bound pattern) t
      ≡ one t h.bound.sym.0 + (times (bound h.start) t + (one t h.builder.sym.0 + (one t h.number.sym.0 + (one t h.row.sym.0 + (times (bound h.body) t
      + (one t k.bound.sym.0 + (times (bound k.start) t + (one t k.builder.sym.0 + (one t k.number.sym.0 + (one t k.row.sym.0 + (times (bound k.body) t + times (bound rest) t)))))))))))
  pattern_times t =
      ap (λ xs. times xs t) (numbers_are a m s h k rest)
      ∙ ap (λ n. one t h.bound.sym.0 + n)
      (times-append (bound h.start) (own_numbers h (second_numbers k rest)) t
      ∙ ap (λ n. times (bound h.start) t + (one t h.builder.sym.0 + (one t h.number.sym.0 + (one t h.row.sym.0 + n))))
      (times-append (bound h.body) (second_numbers k rest) t ∙ ap (λ n. times (bound h.body) t + n) (second_times t)))

  less : (x y u v : ℕ) → x ≡ u → y ≡ v → u ≤ v → x ≤ y
  less x y u v p q h = omega arith

  pub within : StaysWithin answer pattern
  within = record {
    binds = λ t. less _ _ _ _ (answer_times t) (pattern_times t)
        (sums (one t h.bound.sym.0) (one t h.builder.sym.0) (one t h.number.sym.0) (one t h.row.sym.0) (one t k.bound.sym.0) (one t k.builder.sym.0) (one t k.number.sym.0) (one t k.row.sym.0)
        (times (bound h.start) t) (times (bound k.start) t) (times (bound h.body) t) (times (bound k.body) t) (times (bound new) t) (times (bound rest) t) (new_times t));
    names = λ t f. named t f;
    no_more_loops = omega (arith, new_loops, finish_loops h.result_at (half_loop s h), finish_loops k.result_at (half_loop s k), finish_loops h.result_at first_field, finish_loops k.result_at second_field);
    no_more_legs = omega (arith, new_legs, finish_legs h.result_at (half_loop s h), finish_legs k.result_at (half_loop s k), finish_legs h.result_at first_field, finish_legs k.result_at second_field);
    no_more_binders = omega (
      arith,
      new_length,
      ap (λ (xs : List ℕ). length xs) answer_is,
      ap (λ (xs : List ℕ). length xs) (numbers_are a m s h k rest),
      length-append (start_part ++ loop_part) (h.bound.sym.0 ∷ k.bound.sym.0 ∷ bound rest),
      length-append start_part loop_part,
      length-append (bound h.start) (bound k.start ++ []),
      length-append (bound k.start) [],
      length-append first_part (second_part ++ []),
      length-append second_part [],
      length-append (bound h.start) (own_numbers h (second_numbers k rest)),
      length-append (bound h.body) (second_numbers k rest),
      length-append (bound k.start) (own_numbers k (bound rest)),
      length-append (bound k.body) (bound rest),
    );
    well_made = λ w.
        let u = finish_made_back h.result_at (half_loop s h) w.0 in
        let v = finish_made_back k.result_at (half_loop s k) w.1.0 in (
          (
            tt,
            u.1,
            (tt, (u.2, (v.2, tt))),
            (tt, (((tt, tt), u.3), (((tt, tt), put_made half k.number.sym.0 number_name tt (put_made k.body k.row.sym.0 row_name tt v.3)), tt))),
          ),
          (finish_made h.result_at first_field (tt, tt), (finish_made k.result_at second_field (tt, tt), w.1.1)),
        );
    spellable = λ w.
        let u = finish_spellable_back h.result_at (half_loop s h) w.1 in
        let v = finish_spellable_back k.result_at (half_loop s k) w.2.1 in (
          tt,
          (
            u.0,
            (u.1, (v.1, tt)),
            tt,
            u.3,
            u.4,
            (
              (u.2, (small_zero, tt), u.5),
              ((v.2, (small_one, tt), put_spellable half k.number.sym.0 number_name tt (put_spellable k.body k.row.sym.0 row_name tt v.5)), tt),
            ),
          ),
          (w.0, finish_spellable h.result_at first_field (small_zero, tt), (w.2.0, finish_spellable k.result_at second_field (small_one, tt), w.2.2)),
        );
  }
    where
      small_zero : 0 < 10 ^ 9
      small_zero = omega arith

      small_one : 1 < 10 ^ 9
      small_one = omega arith

      in_first_loop : (t : ℕ) → IsFree (half_loop s h) t → IsFree pattern t
      in_first_loop t f = inl (finish_free h.result_at (half_loop s h) t f)

      in_second_loop : (t : ℕ) → t ≢ h.bound.sym.0 → IsFree (half_loop s k) t → IsFree pattern t
      in_second_loop t ne f = inr (inl (finish_free k.result_at (half_loop s k) t f), ne)

      in_second : (t : ℕ) → t ≢ h.row.sym.0 → t ≢ h.number.sym.0 → t ≢ k.builder.sym.0 → (t ≡ h.number.sym.0) ⊎ ((t ≡ h.row.sym.0) ⊎ (IsFree k.body t × (t ≢ k.row.sym.0) × (t ≢ k.number.sym.0))) → IsFree pattern t
      in_second t x n b (inl e) = absurd (n e)
      in_second t x n b (inr (inl e)) = absurd (x e)
      in_second t x n b (inr (inr q)) = in_second_loop t (λ e. may.unnamed (subst (IsFree k.body) e q.0)) (inr (inr (q.0, q.1, q.2, b)))

      named : (t : ℕ) → IsFree answer t → IsFree pattern t
      named t (inl (inl f)) = in_first_loop t (inl f)
      named t (inl (inr (inl (inl f)))) = in_first_loop t (inr (inl f))
      named t (inl (inr (inl (inr (inl f))))) = in_second_loop t (λ e. may.start_unnamed (subst (IsFree k.start) e f)) (inr (inl f))
      named t (inl (inr (inl (inr (inr f))))) = absurd f
      named t (inl (inr (inr (inl (inl e), x, n, c)))) = absurd (c e)
      named t (inl (inr (inr (inl (inr f), x, n, c)))) = in_first_loop t (inr (inr (f.0, x, n, f.1)))
      named t (inl (inr (inr (inr (inl (inl e)), x, n, c)))) = absurd (c e)
      named t (inl (inr (inr (inr (inl (inr f)), x, n, c)))) = in_second t x n f.1 (new_named t f.0)
      named t (inl (inr (inr (inr (inr f), x, n, c)))) = absurd f
      named t (inr (inl e, ne)) = absurd (ne (finish_free_back h.result_at first_field t e))
      named t (inr (inr (inl e, nh), ne)) = absurd (ne (finish_free_back k.result_at second_field t e))
      named t (inr (inr (inr (f, nk), nh), ne)) = inr (inr (f, nk), nh)
