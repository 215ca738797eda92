-- Stretches that are shared: where they begin, and what is made of them.
use Rattle.std.proofs.Common.{◌≡◌, ℕ, zero, suc, ◌+◌, ◌-◌, ◌<◌, ◌≤◌, List, [], ◌∷◌, ◌++◌, length, take, drop, get_or, Err, Result, le_refl, refl, sym, ap, ◌∙◌, subst, add-one, arith}
use Rattle.weld_data.specs.declared.stop.Stop.{Stop}
use Rattle.weld_data.specs.declared.stop.Stop.TheVariants.{Fault, Memory}
use Rattle.weld_builders.specs.Outcome.{done, fault, and_then}
use Rattle.weld_meaning.specs.Thing.{Thing, bare_thing}
use Rattle.weld_acts.specs.Ranges.{Evaluation, HoldsRange, RangeAnswer, IsAction, range_over}
use Rattle.weld_acts.proofs.RangeLaw.{range_has, range_splits}
use Rattle.weld_acts.proofs.RangeSteps.{none_left}
use Rattle.weld_tiles.specs.Tiling.{IsRun}
use Rattle.weld_plan.specs.declared.plan.Plan.{Plan}
use Rattle.weld_exec.specs.Run.{evaluation_of, rows_at, program_meaning, IsAtALoop}
use Rattle.weld_exec.specs.declared.env.Env.{Env as State}
use Rattle.weld_exec.proofs.Tiling.{bare_ready, tile_means}
use Rattle.weld_board.specs.declared.workers.span.Span.{Span}
use Rattle.weld_board.specs.Spans.{AreSpans, OnFault}
use Rattle.weld_share.specs.declared.stretch.Stretch.{Stretch}
use Rattle.weld_share.specs.Stretches.{IsStretch, AreStretches}
use Rattle.weld_share.specs.Shared.{first_row, row_from, row_of, AreShared, HasMade}
use Rattle.weld_share.proofs.Following.{ends_behind, parted_stretches}

-- the stretch of a number
abbrev pub no_stretch : Stretch
no_stretch = record { whole = record { number = 0; lo = 0; hi = 0 }; tiles = record { ref_ptr = (0, 0); now = [] } }

abbrev pub stretch_of : List Stretch → ℕ → Stretch
stretch_of ss k = get_or ss k no_stretch

-- ---- where they begin

row_first : (lo : ℕ) (ss : List Stretch) → row_from lo ss 0 ≡ lo
row_first lo [] = refl
row_first lo (s ∷ ss) = refl

pub record IsAt (rows lo : ℕ) (ss : List Stretch) (k : ℕ) (s : Stretch) : Type 0 where
  pub begins : s.whole.lo ≡ row_from lo ss k
  pub ends : s.whole.hi ≡ row_from lo ss (suc k)
  pub is : IsStretch s
  pub some : row_from lo ss k < row_from lo ss (suc k)
  pub within : row_from lo ss (suc k) ≤ rows

at_stretch : (n lo rows : ℕ) (ss behind : List Stretch) (k : ℕ) (d : Stretch) → AreStretches n lo rows (ss ++ behind) → k < length ss → IsAt rows lo ss k (get_or ss k d)
at_stretch n lo rows [] behind k d run low = absurd (omega arith)
at_stretch n lo rows (s ∷ ss) behind zero d run low =
    let first = row_first s.whole.hi ss in
    let rest = ends_behind (n + 1) s.whole.hi rows (ss ++ behind) run.2 in
    let more = run.0.2 in
    record { begins = run.0.1; ends = sym first; is = run.1; some = omega arith; within = omega arith }
at_stretch n lo rows (s ∷ ss) behind (suc k) d run low =
    let rest = at_stretch (n + 1) s.whole.hi rows ss behind k d run.2 (omega arith) in
    record { begins = rest.begins; ends = rest.ends; is = rest.is; some = rest.some; within = rest.within }

row_rises : (n lo rows : ℕ) (ss behind : List Stretch) (a b : ℕ) → AreStretches n lo rows (ss ++ behind) → a ≤ b → row_from lo ss a ≤ row_from lo ss b
row_rises n lo rows [] behind a b run le = le_refl lo
row_rises n lo rows (s ∷ ss) behind zero zero run le = le_refl lo
row_rises n lo rows (s ∷ ss) behind zero (suc b) run le =
    let first = row_first s.whole.hi ss in
    let rest = row_rises (n + 1) s.whole.hi rows ss behind 0 b run.2 (omega arith) in
    let more = run.0.2 in
    omega arith
row_rises n lo rows (s ∷ ss) behind (suc a) zero run le = absurd (omega arith)
row_rises n lo rows (s ∷ ss) behind (suc a) (suc b) run le = row_rises (n + 1) s.whole.hi rows ss behind a b run.2 (omega arith)

row_within : (n lo rows : ℕ) (ss behind : List Stretch) (b : ℕ) → AreStretches n lo rows (ss ++ behind) → row_from lo ss b ≤ rows
row_within n lo rows [] behind b run = ends_behind n lo rows behind run
row_within n lo rows (s ∷ ss) behind zero run = ends_behind n lo rows ((s ∷ ss) ++ behind) run
row_within n lo rows (s ∷ ss) behind (suc b) run = row_within (n + 1) s.whole.hi rows ss behind b run.2

behind_at : (n lo rows : ℕ) (ss behind : List Stretch) → AreStretches n lo rows (ss ++ behind) → (m : ℕ) × AreStretches m (row_from lo ss (length ss)) rows behind
behind_at n lo rows [] behind run = (n, run)
behind_at n lo rows (s ∷ ss) behind run = behind_at (n + 1) s.whole.hi rows ss behind run.2

first_is : (n lo rows : ℕ) (ss behind : List Stretch) → AreStretches n lo rows (ss ++ behind) → 0 < length ss → lo ≡ first_row ss
first_is n lo rows [] behind run some = absurd (omega arith)
first_is n lo rows (s ∷ ss) behind run some = sym run.0.1

pub from_first : (n lo rows : ℕ) (ss behind : List Stretch) → AreStretches n lo rows (ss ++ behind) → 0 < length ss → AreStretches n (first_row ss) rows (ss ++ behind)
from_first n lo rows ss behind run some = subst (λ k. AreStretches n k rows (ss ++ behind)) (first_is n lo rows ss behind run some) run

-- the same of a batch
module _ (rows : ℕ) (ss : List Stretch) (are : AreShared rows ss) (some : 0 < length ss) where
  runs : AreStretches are.0 (first_row ss) rows (ss ++ are.2)
  runs = from_first are.0 are.1 rows ss are.2 are.3 some

  pub stretch_at : (k : ℕ) (d : Stretch) → k < length ss → IsAt rows (first_row ss) ss k (get_or ss k d)
  stretch_at k d low = at_stretch are.0 (first_row ss) rows ss are.2 k d runs low

  pub rises : (a b : ℕ) → a ≤ b → row_of ss a ≤ row_of ss b
  rises a b le = row_rises are.0 (first_row ss) rows ss are.2 a b runs le

  pub within : (b : ℕ) → row_of ss b ≤ rows
  within b = row_within are.0 (first_row ss) rows ss are.2 b runs

  -- some stretches that begin where the first does end where the last does
  pub last_end : (first next : ℕ) (d : Stretch) → first < next → next ≤ length ss → ((get_or ss (next - 1) d).whole.hi ≡ row_of ss next) × (row_of ss first < row_of ss next)
  last_end first next d low high =
      let one : suc (next - 1) ≡ next = omega arith in
      let at = stretch_at (next - 1) d (omega arith) in
      let strict = at.some in
      let up = rises first (next - 1) (omega arith) in
      let same : row_of ss (suc (next - 1)) ≡ row_of ss next = ap (row_of ss) one in
      (at.ends ∙ same, (omega arith))

pub end_first : (n lo rows : ℕ) (ss behind : List Stretch) → AreStretches n lo rows (ss ++ behind) → 0 < length ss → lo ≡ row_of ss 0
end_first n lo rows ss behind run some = first_is n lo rows ss behind run some ∙ sym (row_first (first_row ss) ss)

pub behind_all : (n lo rows end at : ℕ) (ss behind : List Stretch) → AreStretches n lo rows (ss ++ behind) → 0 < length ss → at ≡ length ss → end ≡ row_of ss at → (m : ℕ) × AreStretches m end rows behind
behind_all n lo rows end at ss behind run some all is =
    let rest = behind_at n (first_row ss) rows ss behind (from_first n lo rows ss behind run some) in
    (rest.0, subst (λ k. AreStretches rest.0 k rows behind) (sym (is ∙ ap (row_of ss) all)) rest.1)

-- the same of the first so many stretches
pub batch_shared : (n lo rows k : ℕ) (left batch : List Stretch) → AreStretches n lo rows left → batch ≡ take k left → AreShared rows batch
batch_shared n lo rows k left batch run is = (n, lo, drop k left, parted_stretches n lo rows k left batch run is)

pub batch_begins : (n lo rows k : ℕ) (left batch : List Stretch) → AreStretches n lo rows left → batch ≡ take k left → 0 < length batch → lo ≡ row_of batch 0
batch_begins n lo rows k left batch run is some = end_first n lo rows batch (drop k left) (parted_stretches n lo rows k left batch run is) some

pub batch_behind : (n lo rows end k : ℕ) (left batch : List Stretch) → AreStretches n lo rows left → batch ≡ take k left → 0 < length batch → end ≡ row_of batch (length batch) → (m : ℕ) × AreStretches m end rows (drop k left)
batch_behind n lo rows end k left batch run is some ends = behind_all n lo rows end (length batch) batch (drop k left) (parted_stretches n lo rows k left batch run is) some refl ends

-- where no span is left, the last has been entered
pub none_spanned : {P : Type 0} (made : ℕ → ℕ → P → Type 0) (at n : ℕ) (xs : List (Span P)) → length xs ≡ 0 → AreSpans made at n xs → at ≡ n
none_spanned made at n [] none are = are
none_spanned made at n (x ∷ xs) none are = absurd (omega arith)

-- ---- what is made of them

module _ (p : Plan) (e : State) (ss : List Stretch) (h : IsAtALoop p e) (are : AreShared (rows_at e) ss) where
  pub bare_made : (job : ℕ) (s : Thing) → job < length ss → s ≡ bare_thing (evaluation_of p e).start → HasMade p e ss job job s
  bare_made job s low is =
      let ev : Evaluation = evaluation_of p e in
      let high = within (rows_at e) ss are (omega arith) job in
      record {
        ordered = le_refl job;
        within = omega arith;
        action = none_left ev.node ev.names ev.lists h.stands.holds.rows (row_of ss job) (bare_thing ev.start) h.stands.holds.are ∙ ap done (sym is);
        holds = bare_ready p e h.at s (row_of ss job) (rows_at e) h.stands high (le_refl (rows_at e)) is;
      }

  pub can_run : (first job : ℕ) (d : Stretch) (s : Thing) → job < length ss → HasMade p e ss first job s
      → HoldsRange (evaluation_of p e).node (evaluation_of p e).names (evaluation_of p e).lists (get_or ss job d).whole.lo (get_or ss job d).whole.hi s
  can_run first job d s low made =
      let there = stretch_at (rows_at e) ss are (omega arith) job d low in
      let begins = there.begins in
      let ends = there.ends in
      let some = there.some in
      let high = there.within in
      let long = made.holds.within in
      record { fit = made.holds.fit; has = made.holds.has; rows = made.holds.rows; are = made.holds.are; rows_have = made.holds.rows_have; ordered = omega arith; within = omega arith }

  -- what the stretch makes of the builder is what all make of the bare one
  splits : (first job : ℕ) (d : Stretch) (s : Thing) → job < length ss → HasMade p e ss first job s
      → range_over (evaluation_of p e).node (evaluation_of p e).names (evaluation_of p e).lists (row_of ss first) (row_of ss (suc job)) (bare_thing (evaluation_of p e).start)
      ≡ range_over (evaluation_of p e).node (evaluation_of p e).names (evaluation_of p e).lists (get_or ss job d).whole.lo (get_or ss job d).whole.hi s
  splits first job d s low made =
      let ev : Evaluation = evaluation_of p e in
      let there = stretch_at (rows_at e) ss are (omega arith) job d low in
      let some = there.some in
      let high = there.within in
      let up = rises (rows_at e) ss are (omega arith) first job made.ordered in
      let long = made.holds.within in
      range_splits ev.node ev.names ev.lists made.holds.rows (row_of ss first) (row_of ss job) (row_of ss (suc job)) (bare_thing ev.start) made.holds.are (omega arith) (omega arith) (omega arith)
      ∙ ap (λ o. and_then o (λ t. range_over ev.node ev.names ev.lists (row_of ss job) (row_of ss (suc job)) t)) made.action
      ∙ ap (λ k. range_over ev.node ev.names ev.lists k (row_of ss (suc job)) s) (sym there.begins)
      ∙ ap (λ k. range_over ev.node ev.names ev.lists (get_or ss job d).whole.lo k s) (sym there.ends)

  pub more_made : (first job : ℕ) (d : Stretch) (s u : Thing) → job < length ss → HasMade p e ss first job s
      → range_over (evaluation_of p e).node (evaluation_of p e).names (evaluation_of p e).lists (get_or ss job d).whole.lo (get_or ss job d).whole.hi s ≡ done u → HasMade p e ss first (job + 1) u
  more_made first job d s u low made q =
      let ev : Evaluation = evaluation_of p e in
      let there = stretch_at (rows_at e) ss are (omega arith) job d low in
      let high = there.within in
      let ordered = made.ordered in
      let long = made.holds.within in
      let next : row_of ss (suc job) ≡ row_of ss (job + 1) = ap (row_of ss) (sym (add-one job)) in
      record {
        ordered = omega arith;
        within = omega arith;
        action = subst (λ k. IsAction ev (row_of ss first) k u) next (splits first job d s low made ∙ q);
        holds = record {
          fit = made.holds.fit;
          has = range_has ev.node ev.names ev.lists made.holds.fit made.holds.rows (get_or ss job d).whole.lo (get_or ss job d).whole.hi s u (record { are = made.holds.are; rows_have = made.holds.rows_have }) made.holds.has q;
          rows = made.holds.rows;
          are = made.holds.are;
          rows_have = made.holds.rows_have;
          ordered = omega arith;
          within = made.holds.within;
        };
      }

  pub stretch_faults : (T U : Type 0) (stop : Stop) (first job : ℕ) (d : Stretch) (s u : Thing) (start : Thing) → job < length ss → HasMade p e ss first job s
      → RangeAnswer {T = T} (Err stop) (record { node = (evaluation_of p e).node; names = (evaluation_of p e).names; lists = (evaluation_of p e).lists; start = start }) (get_or ss job d).whole.lo (get_or ss job d).whole.hi s u
      → OnFault {T = U} (Err stop) (program_meaning p e ≡ fault)
  stretch_faults T U Fault first job d s u start low made q =
      let there = stretch_at (rows_at e) ss are (omega arith) job d low in
      let some = there.some in
      let up = rises (rows_at e) ss are (omega arith) first job made.ordered in
      tile_means p e h.at (row_of ss first) (row_of ss (suc job)) h.stands (omega arith) there.within (splits first job d s low made ∙ q)
  stretch_faults T U Memory first job d s u start low made q = tt
