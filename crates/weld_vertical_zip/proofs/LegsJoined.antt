-- Rows over legs of which one is a list that is made row by row from others: joined and then made, or made and then joined.
use Rattle.std.proofs.Common.{◌≡◌, ℕ, suc, List, [], ◌∷◌, ◌++◌, length, refl, ap, sym, subst, ◌∙◌, arith}
use Rattle.weld_data.specs.Value.{Value, struct as struct_value, Values}
use Rattle.weld_tree.specs.TypeTree.{TypeTree, TypeTrees, struct, list, no_types, more_types}
use Rattle.weld_tree.specs.Types.{HasTypes}
use Rattle.weld_tree.specs.ExprTree.{more_legs, whole}
use Rattle.weld_tree.specs.HasValue.{HaveValues}
use Rattle.weld_builders.specs.Outcome.{Outcome, done, fault, stuck, and_then, map_out}
use Rattle.weld_meaning.specs.Environment.{Named}
use Rattle.weld_meaning.specs.ThingType.{EnvFits}
use Rattle.weld_meaning.specs.Typing.{Types, RowHas}
use Rattle.weld_meaning.specs.Evaluation.{Env, rows_of, eval_leg, eval_legs}
use Rattle.weld_meaning.specs.Origin.{Origin}
use Rattle.weld_meaning.specs.Names.{answer_of}
use Rattle.weld_meaning.proofs.Good.{Good}
use Rattle.weld_meaning.proofs.PartsGood.{KeyLaws}
use Rattle.weld_meaning.proofs.ValuesGood.{LegsFit, rows_good}
use Rattle.weld_rewriting.specs.Placed.{IsPlaced}
use Rattle.weld_rewriting.proofs.Rows.{legs_good}
use Rattle.weld_vertical.proofs.Handing.{answers_at}
use Rattle.weld_horizontal.specs.Twice.{items, count}
use Rattle.weld_vertical_zip.specs.Zipping.{legs_behind, all_items}
use Rattle.weld_vertical_zip.proofs.Gathering.{gather, as_row, core, on_fields}
use Rattle.weld_vertical_zip.proofs.ZippingSplicing.{eval_together, fit_together, fit_count}
use Rattle.weld_vertical_zip.proofs.Splice.{Splice, places, produced, old_legs, pattern, row, all_legs}
use Rattle.weld_vertical_zip.proofs.SplicePlaced.{row_several, Known, several_all, row_has}

-- ---- outcomes of legs behind legs

all_together : {X Y Z L M R : Type 0} (p : Outcome X) (q : Outcome Y) (s : Outcome Z) (f : X → M → L) (h : Y → Z → M) (k : L → Outcome R) → and_then (and_then p (λ x. map_out (f x) (and_then q (λ y. map_out (h y) s)))) k ≡ and_then p (λ x. and_then q (λ y. and_then s (λ z. k (f x (h y z)))))
all_together (done x) (done y) (done z) f h k = refl
all_together (done x) (done y) fault f h k = refl
all_together (done x) (done y) stuck f h k = refl
all_together (done x) fault s f h k = refl
all_together (done x) stuck s f h k = refl
all_together fault q s f h k = refl
all_together stuck q s f h k = refl

made_together : {X Y Z C L M R : Type 0} (p : Outcome X) (q : Outcome Y) (s : Outcome Z) (m : Y → Outcome C) (f : X → M → L) (h : C → Z → M) (k : L → Outcome R) → answer_of (and_then (and_then p (λ x. map_out (f x) (and_then (and_then q m) (λ y. map_out (h y) s)))) k) ≡ answer_of (and_then p (λ x. and_then q (λ y. and_then s (λ z. and_then (m y) (λ c. k (f x (h c z)))))))
made_together (done x) (done y) s m f h k = by (m y) s
  where
    by : (o : Outcome _) (s : Outcome _) → answer_of (and_then (map_out (f x) (and_then o (λ y. map_out (h y) s))) k) ≡ answer_of (and_then s (λ z. and_then o (λ c. k (f x (h c z)))))
    by (done c) (done z) = refl
    by (done c) fault = refl
    by (done c) stuck = refl
    by fault (done z) = refl
    by fault fault = refl
    by fault stuck = refl
    by stuck (done z) = refl
    by stuck fault = refl
    by stuck stuck = refl
made_together (done x) fault s m f h k = refl
made_together (done x) stuck s m f h k = refl
made_together fault q s m f h k = refl
made_together stuck q s m f h k = refl

-- what a row of the loop that makes the list gives, and a row over all legs
module _ (c : Splice) (laws : KeyLaws) (types : Types) (around : Named Origin) (t : TypeTree) (q : IsPlaced (pattern c) types around t) (k : Known c types around t q) (env : Env) (fit : EnvFits types env) (own_gives rows_give : ℕ → Value → Outcome Value) (old_gathers : eval_leg (whole (produced c)) env ≡ and_then (eval_legs c.ks env) (λ l. and_then (rows_of l) (gather own_gives 0))) (each_gives : (j n : ℕ) (fs : Values) → suc j ≡ count (items c.ks) → HaveValues (all_items (places c)) fs → rows_give n (struct_value fs) ≡ map_out struct_value (on_fields (count (items c.bs)) (count (items c.ks)) (λ m gs. own_gives m (as_row j gs)) n fs)) where
  abbrev all : TypeTrees
  all = all_items (places c)

  -- ---- over lists

  abbrev Same : List (List Value) → List (List Value) → List (List Value) → Type 0
  Same xs ys zs = answer_of (and_then (rows_of (xs ++ (ys ++ zs))) (gather rows_give 0)) ≡ answer_of (and_then (and_then (rows_of ys) (gather own_gives 0)) (λ made. rows_of (xs ++ (made ∷ zs))))

  over_lists : (xs ys zs : List (List Value)) → LegsFit (items c.bs) xs → LegsFit (items c.ks) ys → LegsFit (items c.zs) zs → Same xs ys zs
  over_lists xs [] zs fx fy fz = absurd (nothing_fits (items c.ks) k.some fy)
    where
      nothing_fits : (us : TypeTrees) → HasTypes us → LegsFit us [] → ⊥
      nothing_fits no_types h f = h
      nothing_fits (more_types u us) h f = f
  over_lists xs (y ∷ ys) zs fx fy fz =
      core all own_gives rows_give xs y ys zs (omega (arith, c.several, before_count, after_count)) each
      (rows_good all (struct all) (xs ++ (y ∷ (ys ++ zs))) is_row (fit_together (items c.bs) _ xs _ fx (fit_together (items c.ks) (items c.zs) (y ∷ ys) zs fy fz)))
    where
      before_count : length xs ≡ count (items c.bs)
      before_count = fit_count (items c.bs) xs fx

      within_count : suc (length ys) ≡ count (items c.ks)
      within_count = fit_count (items c.ks) (y ∷ ys) fy

      after_count : length zs ≡ count (items c.zs)
      after_count = fit_count (items c.zs) zs fz

      is_row : RowHas all (struct all)
      is_row = subst (RowHas all) (row_several all (several_all c types around t q k)) (row_has c types around t q k)

      each : (n : ℕ) (fs : Values) → HaveValues all fs → rows_give n (struct_value fs) ≡ map_out struct_value (on_fields (length xs) (suc (length ys)) (λ m gs. own_gives m (as_row (length ys) gs)) n fs)
      each n fs h =
          each_gives (length ys) n fs within_count h
          ∙ (λ i. map_out struct_value (on_fields (sym before_count i) (sym within_count i) (λ m gs. own_gives m (as_row (length ys) gs)) n fs))

  -- ---- the legs

  before_good : Good (LegsFit (items c.bs)) (eval_legs c.bs env)
  before_good = legs_good laws c.bs types (items c.bs) env k.before_have q.formed fit

  within_good : Good (LegsFit (items c.ks)) (eval_legs c.ks env)
  within_good = legs_good laws c.ks types (items c.ks) env k.within_have q.formed fit

  after_good : Good (LegsFit (items c.zs)) (eval_legs c.zs env)
  after_good = legs_good laws c.zs types (items c.zs) env k.after_have q.formed fit

  -- the rows over all legs made whole are those over the legs of which one is the list that is made
  pub same_rows : answer_of (and_then (eval_legs (all_legs c) env) (λ l. and_then (rows_of l) (gather rows_give 0))) ≡ answer_of (and_then (eval_legs (old_legs c) env) rows_of)
  same_rows =
      ap answer_of (ap (λ o. and_then o (λ l. and_then (rows_of l) (gather rows_give 0))) new_legs ∙ all_together p s z (λ xs rest. xs ++ rest) (λ ys rest. ys ++ rest) (λ l. and_then (rows_of l) (gather rows_give 0)))
      ∙ answers_at (LegsFit (items c.bs)) p _ _ before_good.fits (λ xs fx.
      answers_at (LegsFit (items c.ks)) s _ _ within_good.fits (λ ys fy. answers_at (LegsFit (items c.zs)) z _ _ after_good.fits (λ zs fz. over_lists xs ys zs fx fy fz)))
      ∙ sym (ap answer_of (ap (λ o. and_then o rows_of) old) ∙ made_together p s z (λ ys. and_then (rows_of ys) (gather own_gives 0)) (λ xs rest. xs ++ rest) (λ made rest. made ∷ rest) rows_of)
    where
      p : Outcome (List (List Value))
      p = eval_legs c.bs env

      s : Outcome (List (List Value))
      s = eval_legs c.ks env

      z : Outcome (List (List Value))
      z = eval_legs c.zs env

      new_legs : eval_legs (all_legs c) env ≡ and_then (eval_legs c.bs env) (λ xs. map_out (λ rest. xs ++ rest) (and_then (eval_legs c.ks env) (λ ys. map_out (λ rest. ys ++ rest) (eval_legs c.zs env))))
      new_legs =
          eval_together c.bs (legs_behind c.ks c.zs) env
          ∙ ap (λ o. and_then (eval_legs c.bs env) (λ xs. map_out (λ rest. xs ++ rest) o)) (eval_together c.ks c.zs env)

      old : eval_legs (old_legs c) env ≡ and_then (eval_legs c.bs env) (λ xs. map_out (λ rest. xs ++ rest) (and_then (and_then (eval_legs c.ks env) (λ ys. and_then (rows_of ys) (gather own_gives 0))) (λ made. map_out (λ rest. made ∷ rest) (eval_legs c.zs env))))
      old =
          eval_together c.bs (more_legs (whole (produced c)) c.zs) env
          ∙ ap (λ o. and_then (eval_legs c.bs env) (λ xs. map_out (λ rest. xs ++ rest) (and_then o (λ made. map_out (λ rest. made ∷ rest) (eval_legs c.zs env))))) old_gathers
