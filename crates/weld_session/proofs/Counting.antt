-- The names of a script's objects are few.
use Rattle.std.proofs.Common.{◌≡◌, ℕ, suc, ◌*◌, ◌≤◌, List, [], ◌∷◌, ◌++◌, length, refl, ap, arith}
use Rattle.weld_data.specs.Value.{Value}
use Rattle.weld_tree.specs.TypeTree.{TypeTree}
use Rattle.weld_tree.specs.Program.{bound}
use Rattle.weld_objects.specs.Lowered.{names_of}
use Rattle.weld_calls.specs.declared.call.Call.{Call}
use Rattle.weld_calls.specs.declared.call.Call.TheVariants.{Add, Sub, Mul, Scale, Where, Dot, Sum, Min, Max, Slice, Take, Histogram, RowsDot, Column, Filter, Compare, Arith, Count, GroupSum, GroupList, GroupCount}
use Rattle.weld_calls.specs.CallTypes.{row}
use Rattle.weld_calls.specs.CallPrograms.{body_of, params_from}
use Rattle.weld_script.specs.declared.made.Made.{Made}
use Rattle.weld_script.specs.declared.made.Made.TheVariants as makes
use Rattle.weld_script.specs.Script.{AreMade, types_at, made_type}
use Rattle.weld_session.specs.Answer.{left_after}
use Rattle.weld_session.specs.Gathering.{objects_from}

body_small : (c : Call) (ts : List TypeTree) → length (bound (body_of c ts)) ≤ 8
body_small Add ts = omega arith
body_small Sub ts = omega arith
body_small Mul ts = omega arith
body_small Scale ts = omega arith
body_small Where ts = omega arith
body_small Dot ts = omega arith
body_small Sum ts = omega arith
body_small Min ts = omega arith
body_small Max ts = omega arith
body_small Slice ts = omega arith
body_small Take ts = omega arith
body_small Histogram ts = omega arith
body_small RowsDot ts = omega arith
body_small (Column n) ts = omega arith
body_small Filter ts = omega arith
body_small (Compare op) ts = omega arith
body_small (Arith op) ts = omega arith
body_small Count ts = omega arith
body_small GroupSum ts = omega arith
body_small GroupList ts = omega arith
body_small GroupCount ts = omega arith

params_count : (n : ℕ) (ts : List TypeTree) → length (params_from n ts) ≡ length ts
params_count n [] = refl
params_count n (t ∷ ts) = ap suc (params_count (suc n) ts)

-- a call takes at most three arguments
abbrev pub RowsAreShort : Type 0
RowsAreShort = (c : Call) → length (row c) ≤ 3

pub names_few : RowsAreShort → (types : List TypeTree) (inputs : List Value) (ms : List Made) → AreMade types ms → names_of (objects_from types inputs ms) ≤ 12 * length ms
names_few short types inputs [] may = omega arith
names_few short types inputs (makes.Declared d ∷ ms) may =
    let further = names_few short (types ++ made_type types (makes.Declared d) ∷ []) (left_after (makes.Declared d) inputs) ms may.1 in omega (arith, further)
names_few short types inputs (makes.Literal k x ∷ ms) may =
    let further = names_few short (types ++ made_type types (makes.Literal k x) ∷ []) inputs ms may.1 in omega (arith, further)
names_few short types inputs (makes.Call c ids ∷ ms) may =
    let further = names_few short (types ++ made_type types (makes.Call c ids) ∷ []) inputs ms may.1 in
    let body = body_small c (types_at types ids) in
    let params = params_count 0 (types_at types ids) in
    let count = may.0.fits.count in
    let few = short c in
    omega (arith, further, body, params, count, few)
