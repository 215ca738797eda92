-- Stretches that follow one another are within the rows, and so are their answers.
use Rattle.std.proofs.Common.{◌≡◌, ℕ, ◌+◌, ◌≤◌, List, [], ◌∷◌, ◌++◌, take, drop, Result, Ok, Err, IfOk, IsOkAnd, All, le_refl, ap, subst, sym, ◌∙◌, arith}
use Rattle.std.specs.List.{AllZip}
use Rattle.std.proofs.lemmas.List.{take-append-drop}
use Rattle.std.proofs.lemmas.List.Elements.{All-nil, All-cons}
use Rattle.weld_data.specs.declared.stop.Stop.{Stop}
use Rattle.weld_data.specs.declared.stop.Stop.TheVariants.{Fault, Memory}
use Rattle.weld_builders.specs.Outcome.{fault}
use Rattle.weld_acts.specs.Ranges.{Evaluation}
use Rattle.weld_eval.specs.Answers.{OnFault}
use Rattle.weld_tiles.specs.Tiling.{Follows}
use Rattle.weld_tiles.specs.declared.tile.Tile.{Tile}
use Rattle.weld_tile_parts.specs.Parts.{part_evaluation}
use Rattle.weld_tile_parts.specs.declared.piece.TilePart.{TilePart}
use Rattle.weld_plan.specs.declared.plan.Plan.{Plan}
use Rattle.weld_exec.specs.Run.{evaluation_of, program_meaning}
use Rattle.weld_exec.specs.declared.env.Env.{Env}
use Rattle.weld_share.specs.declared.stretch.Stretch.{Stretch}
use Rattle.weld_share.specs.Stretches.{IsStretchOf, AreStretches}
use Rattle.weld_share.specs.Mapped.{IsAnswer, AreAnswers}

pub ends_behind : (n lo rows : ℕ) (ss : List Stretch) → AreStretches n lo rows ss → lo ≤ rows
ends_behind n lo rows [] run = subst (λ k. lo ≤ k) run (le_refl lo)
ends_behind n lo rows (s ∷ ss) run = let high = run.0.2 in let rest = ends_behind (n + 1) s.whole.hi rows ss run.2 in omega arith

-- stretches that others follow are within the rows
pub batch_within : (n lo rows : ℕ) (ss behind : List Stretch) → AreStretches n lo rows (ss ++ behind) → All (IsStretchOf rows) ss
batch_within n lo rows [] behind run = All-nil (IsStretchOf rows)
batch_within n lo rows (s ∷ ss) behind run =
    All-cons (IsStretchOf rows) s ss (run.1, ends_behind (n + 1) s.whole.hi rows (ss ++ behind) run.2) (batch_within (n + 1) s.whole.hi rows ss behind run.2)

pub batch_answers : (p : Plan) (e : Env) (n lo rows : ℕ) (ss behind : List Stretch) (rs : List (Result TilePart Stop)) → AreStretches n lo rows (ss ++ behind) → AllZip (λ s r. IsAnswer p e s.whole r) ss rs → AreAnswers p e n lo rows behind rs
batch_answers p e n lo rows [] behind [] run all = run
batch_answers p e n lo rows [] behind (r ∷ rs) run all = absurd all
batch_answers p e n lo rows (s ∷ ss) behind [] run all = absurd all
batch_answers p e n lo rows (s ∷ ss) behind (r ∷ rs) run all = (s.whole, run.0, all.0, batch_answers p e (n + 1) s.whole.hi rows ss behind rs run.2 all.1)

-- the first so many stretches, and what is left behind them
pub parted_stretches : (n lo rows k : ℕ) (left batch : List Stretch) → AreStretches n lo rows left → batch ≡ take k left → AreStretches n lo rows (batch ++ drop k left)
parted_stretches n lo rows k left batch run is = subst (AreStretches n lo rows) (sym (ap (λ ss. ss ++ drop k left) is ∙ take-append-drop k left)) run

-- ---- one answer

pub answer_follows : (p : Plan) (e : Env) (t : Tile) (n lo : ℕ) (r : Result TilePart Stop) → Follows t n lo → IsAnswer p e t r → IfOk r (λ part. Follows part.tile n lo)
answer_follows p e t n lo (Ok part) f h = subst (λ (u : Tile). Follows u n lo) (sym h.0) f
answer_follows p e t n lo (Err stop) f h = tt

pub answer_evaluation : (p : Plan) (e : Env) (t : Tile) (at : Evaluation) (r : Result TilePart Stop) → at ≡ evaluation_of p e → IsAnswer p e t r → IfOk r (λ part. part_evaluation part ≡ at)
answer_evaluation p e t at (Ok part) same h = h.1 ∙ sym same
answer_evaluation p e t at (Err stop) same h = tt

pub answer_stops : (T U : Type 0) (stop : Stop) (p : Plan) (e : Env) (t : Tile) (r : Result TilePart Stop) → IsAnswer p e t r → OnFault {T = T} (Err stop) (r ≡ Err Fault) → OnFault {T = U} (Err stop) (program_meaning p e ≡ fault)
answer_stops T U Fault p e t r h is = subst (IsAnswer p e t) is h
answer_stops T U Memory p e t r h is = tt

-- the answers behind the first, where it has been entered
pub answers_on : (p : Plan) (e : Env) (n lo rows : ℕ) (t : Tile) (next end : ℕ) (behind : List Stretch) (r : Result TilePart Stop) (rs : List (Result TilePart Stop)) → Follows t n lo → IsAnswer p e t r
    → IsOkAnd r (λ part. (next ≡ part.tile.number + 1) × (end ≡ part.tile.hi)) → AreAnswers p e (n + 1) t.hi rows behind rs → AreAnswers p e next end rows behind rs
answers_on p e n lo rows t next end behind (Ok part) rs f h on all =
    let number : n ≡ part.tile.number = sym (ap (λ (u : Tile). u.number) h.0 ∙ f.0) in
    let same : n + 1 ≡ next = ap (λ m. m + 1) number ∙ sym on.0 in
    let low : t.hi ≡ end = sym (on.1 ∙ ap (λ (u : Tile). u.hi) h.0) in
    subst (λ l. AreAnswers p e next l rows behind rs) low (subst (λ m. AreAnswers p e m t.hi rows behind rs) same all)
answers_on p e n lo rows t next end behind (Err stop) rs f h on all = absurd on
