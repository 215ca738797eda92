-- The tiles of a stretch, run one after another into one part.
use Rattle.std.proofs.Common.{◌≡◌, ℕ, zero, suc, ◌+◌, ◌<◌, ◌≤◌, List, [], ◌∷◌, length, drop, get_or, Err, le_refl, refl, sym, ap, ◌∙◌, subst, arith}
use Rattle.weld_data.specs.Value.{Value}
use Rattle.weld_data.specs.declared.stop.Stop.{Stop}
use Rattle.weld_data.specs.declared.stop.Stop.TheVariants.{Fault, Memory}
use Rattle.weld_tree.specs.ExprTree.{ExprTree}
use Rattle.weld_builders.specs.Outcome.{done, and_then}
use Rattle.weld_meaning.specs.Thing.{Thing, bare_thing}
use Rattle.weld_meaning.specs.Evaluation.{Env}
use Rattle.weld_acts.specs.Ranges.{HoldsRange, RangeAnswer, range_over}
use Rattle.weld_acts.proofs.RangeLaw.{range_has, range_splits}
use Rattle.weld_acts.proofs.RangeSteps.{RunsIn, range_start, range_ends}
use Rattle.weld_tiles.specs.declared.tile.Tile.{Tile}
use Rattle.weld_tiles.specs.Tiling.{IsRun}
use Rattle.weld_tile_parts.specs.declared.piece.TilePart.{TilePart}
use Rattle.weld_plan.specs.declared.plan.Plan.{Plan}
use Rattle.weld_exec.specs.Run.{evaluation_of, rows_at, IsAtALoop}
use Rattle.weld_exec.specs.declared.env.Env.{Env as State}
use Rattle.weld_exec.proofs.Tiling.{bare_stops}
use Rattle.weld_share.specs.Mapped.{IsAnswer}
use Rattle.weld_share.specs.Stretches.{IsStretchOf}
use Rattle.weld_share.specs.declared.stretch.Stretch.{Stretch}

-- a builder has come so far: these tiles are left, and what they make of it is what all make of the start
pub record HasRun (n : ExprTree) (env : Env) (lists : List (List Value)) (lo hi : ℕ) (start : Thing) (left : List Tile) (s : Thing) : Type 0 where
  pub next : ℕ
  pub at : ℕ
  pub run : IsRun next at hi left
  pub runs : RunsIn n env lists lo hi start at s

pub run_ordered : (n lo hi : ℕ) (ts : List Tile) → IsRun n lo hi ts → lo ≤ hi
run_ordered n lo hi [] h = subst (λ k. lo ≤ k) h (le_refl lo)
run_ordered n lo hi (t ∷ ts) h = let low = h.0.2 in let rest = run_ordered (n + 1) t.hi hi ts h.1 in omega arith

-- the tiles that are left at a place
tile_left : (ts : List Tile) (i : ℕ) (d : Tile) → i < length ts → drop i ts ≡ get_or ts i d ∷ drop (i + 1) ts
tile_left [] i d less = absurd (omega arith)
tile_left (u ∷ us) zero d less = refl
tile_left (u ∷ us) (suc i) d less = let more : suc (i + 1) ≡ suc i + 1 = omega arith in tile_left us i d (omega arith) ∙ ap (λ k. get_or us i d ∷ drop k (u ∷ us)) more

none_left : (ts : List Tile) (i : ℕ) → length ts ≤ i → drop i ts ≡ []
none_left [] zero more = refl
none_left [] (suc i) more = refl
none_left (t ∷ ts) zero more = absurd (omega arith)
none_left (t ∷ ts) (suc i) more = none_left ts i (omega arith)

pub run_starts : (n : ExprTree) (env : Env) (lists : List (List Value)) (next lo hi : ℕ) (ts : List Tile) (s : Thing) → IsRun next lo hi ts → HoldsRange n env lists lo hi s → HasRun n env lists lo hi s ts s
run_starts n env lists next lo hi ts s run holds = record { next = next; at = lo; run = run; runs = range_start n env lists lo hi s holds }

-- at the tile of a place
pub run_at : (n : ExprTree) (env : Env) (lists : List (List Value)) (lo hi : ℕ) (start s : Thing) (ts : List Tile) (i : ℕ) (d : Tile) → i < length ts → HasRun n env lists lo hi start (drop i ts) s → HasRun n env lists lo hi start (get_or ts i d ∷ drop (i + 1) ts) s
run_at n env lists lo hi start s ts i d less h = subst (λ l. HasRun n env lists lo hi start l s) (tile_left ts i d less) h

-- the next tile can be run
pub tile_next : (n : ExprTree) (env : Env) (lists : List (List Value)) (lo hi : ℕ) (start s : Thing) (t : Tile) (left : List Tile) → HasRun n env lists lo hi start (t ∷ left) s → HoldsRange n env lists t.lo t.hi s
tile_next n env lists lo hi start s t left h =
    let same = h.run.0.1 in
    let low = h.run.0.2 in
    let high = run_ordered (h.next + 1) t.hi hi left h.run.1 in
    let long = h.runs.holds.within in
    record { fit = h.runs.holds.fit; has = h.runs.holds.has; rows = h.runs.holds.rows; are = h.runs.holds.are; rows_have = h.runs.holds.rows_have; ordered = omega arith; within = omega arith }

-- what all make, as what the next tile makes and then the others
next_splits : (n : ExprTree) (env : Env) (lists : List (List Value)) (lo hi : ℕ) (start s : Thing) (t : Tile) (left : List Tile) → HasRun n env lists lo hi start (t ∷ left) s
    → range_over n env lists lo hi start ≡ and_then (range_over n env lists t.lo t.hi s) (λ u. range_over n env lists t.hi hi u)
next_splits n env lists lo hi start s t left h =
    let low = h.run.0.2 in
    h.runs.same ∙ range_splits n env lists h.runs.holds.rows h.at t.hi hi s h.runs.holds.are (omega arith) (run_ordered (h.next + 1) t.hi hi left h.run.1) h.runs.holds.within
    ∙ ap (λ k. and_then (range_over n env lists k t.hi s) (λ u. range_over n env lists t.hi hi u)) (sym h.run.0.1)

-- a tile was run
pub tile_on : (n : ExprTree) (env : Env) (lists : List (List Value)) (lo hi : ℕ) (start s u : Thing) (t : Tile) (left : List Tile) → HasRun n env lists lo hi start (t ∷ left) s → range_over n env lists t.lo t.hi s ≡ done u → HasRun n env lists lo hi start left u
tile_on n env lists lo hi start s u t left h q = record {
  next = h.next + 1;
  at = t.hi;
  run = h.run.1;
  runs = record {
    holds = record {
      fit = h.runs.holds.fit;
      has = range_has n env lists h.runs.holds.fit h.runs.holds.rows t.lo t.hi s u (record { are = h.runs.holds.are; rows_have = h.runs.holds.rows_have }) h.runs.holds.has q;
      rows = h.runs.holds.rows;
      are = h.runs.holds.are;
      rows_have = h.runs.holds.rows_have;
      ordered = run_ordered (h.next + 1) t.hi hi left h.run.1;
      within = h.runs.holds.within;
    };
    same = next_splits n env lists lo hi start s t left h ∙ ap (λ o. and_then o (λ w. range_over n env lists t.hi hi w)) q;
  };
}

-- a tile stopped, in the evaluation from its start r
pub tile_stops : (T U : Type 0) (stop : Stop) (n : ExprTree) (env : Env) (lists : List (List Value)) (lo hi : ℕ) (start s x y r : Thing) (t : Tile) (left : List Tile) → HasRun n env lists lo hi start (t ∷ left) s
    → RangeAnswer {T = T} (Err stop) (record { node = n; names = env; lists = lists; start = r }) t.lo t.hi s x → RangeAnswer {T = U} (Err stop) (record { node = n; names = env; lists = lists; start = r }) lo hi start y
tile_stops T U Fault n env lists lo hi start s x y r t left h q = next_splits n env lists lo hi start s t left h ∙ ap (λ o. and_then o (λ w. range_over n env lists t.hi hi w)) q
tile_stops T U Memory n env lists lo hi start s x y r t left h q = tt

-- all tiles were run
pub run_ends : (n : ExprTree) (env : Env) (lists : List (List Value)) (lo hi : ℕ) (start s : Thing) (ts : List Tile) (i : ℕ) → length ts ≤ i → HasRun n env lists lo hi start (drop i ts) s → range_over n env lists lo hi start ≡ done s
run_ends n env lists lo hi start s ts i more h =
    let same : h.at ≡ hi = subst (λ l. IsRun h.next h.at hi l) (none_left ts i more) h.run in
    range_ends n env lists lo hi start h.at s h.runs (omega arith)

-- a stretch that stopped answers so
pub stretch_stops : (T U : Type 0) (stop : Stop) (p : Plan) (e : State) (s : Stretch) (y : Thing) → IsAtALoop p e → IsStretchOf (rows_at e) s
    → RangeAnswer {T = T} (Err stop) (evaluation_of p e) s.whole.lo s.whole.hi (bare_thing (evaluation_of p e).start) y → IsAnswer p e s.whole (Err stop)
stretch_stops T U Fault p e s y h of q = bare_stops T TilePart Fault p e h.at (bare_thing (evaluation_of p e).start) y s.whole.lo s.whole.hi h.stands (run_ordered of.0.0 s.whole.lo s.whole.hi s.tiles.now of.0.1) of.1 refl q
stretch_stops T U Memory p e s y h of q = tt
