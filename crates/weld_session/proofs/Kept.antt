-- Which objects are reached, and what is kept of them, in a script as in its graph.
use Rattle.std.proofs.Common.{◌≡◌, ℕ, suc, ◌+◌, ◌≤◌, Bool, true, false, if◌then◌else◌, List, [], ◌∷◌, ◌++◌, length, refl, ◌∙◌, arith}
use Rattle.weld_data.specs.Value.{Value, number}
use Rattle.weld_tree.specs.TypeTree.{TypeTree}
use Rattle.weld_tree.specs.Program.{loops}
use Rattle.weld_objects.specs.Reached as graph
use Rattle.weld_objects.specs.Lowered as lowering
use Rattle.weld_calls.specs.declared.call.Call.{Call}
use Rattle.weld_calls.specs.CallPrograms.{fragment, loops_of}
use Rattle.weld_script.specs.declared.made.Made.{Made}
use Rattle.weld_script.specs.declared.made.Made.TheVariants as makes
use Rattle.weld_script.specs.Script.{AreBelow, AreInputs, types_at, declared_of, made_type}
use Rattle.weld_session.specs.Answer.{left_after, with_used, reached_from, reached, kept, given_from, loops_from}
use Rattle.weld_session.specs.Gathering.{objects_from}

marks_same : (id : ℕ) (types : List TypeTree) (inputs : List Value) (ms : List Made) (marks : ℕ → Bool) → graph.reached_from id (objects_from types inputs ms) marks ≡ reached_from id ms marks
marks_same id types inputs [] marks = refl
marks_same id types inputs (makes.Declared d ∷ ms) marks =
    λ i. with_used id (makes.Declared d) (marks_same (suc id) (types ++ made_type types (makes.Declared d) ∷ []) (left_after (makes.Declared d) inputs) ms marks i)
marks_same id types inputs (makes.Literal k x ∷ ms) marks =
    λ i. with_used id (makes.Literal k x) (marks_same (suc id) (types ++ made_type types (makes.Literal k x) ∷ []) inputs ms marks i)
marks_same id types inputs (makes.Call c ids ∷ ms) marks =
    λ i. with_used id (makes.Call c ids) (marks_same (suc id) (types ++ made_type types (makes.Call c ids) ∷ []) inputs ms marks i)

pub reached_same : (made : List Made) (shown : List ℕ) (inputs : List Value) → graph.reached (objects_from [] inputs made) shown ≡ reached made shown
reached_same made shown inputs = marks_same 0 [] inputs made (graph.is_one_of shown)

pub kept_same : (keep : ℕ → Bool) (id : ℕ) (types : List TypeTree) (inputs : List Value) (ms : List Made) → lowering.kept keep id (objects_from types inputs ms) ≡ kept keep id ms
kept_same keep id types inputs [] = refl
kept_same keep id types inputs (m ∷ ms) =
    λ i. if keep id then id ∷ kept_same keep (suc id) (types ++ made_type types m ∷ []) (left_after m inputs) ms i else kept_same keep (suc id) (types ++ made_type types m ∷ []) (left_after m inputs) ms i

-- ---- a kept object's part

one_kept : (b : Bool) (v : Value) (vs : List Value) → (if b then v ∷ vs else vs) ≡ (if b then v ∷ [] else []) ++ vs
one_kept true v vs = refl
one_kept false v vs = refl

none_kept : (b : Bool) (vs : List Value) → vs ≡ (if b then [] else []) ++ vs
none_kept true vs = refl
none_kept false vs = refl

pub given_same : (keep : ℕ → Bool) (id : ℕ) (types : List TypeTree) (inputs : List Value) (ms : List Made) → AreInputs (declared_of ms) inputs → lowering.inputs_of keep id (objects_from types inputs ms) ≡ given_from keep id inputs ms
given_same keep id types inputs [] fit = refl
given_same keep id types [] (makes.Declared d ∷ ms) fit = absurd fit
given_same keep id types (v ∷ vs) (makes.Declared d ∷ ms) fit =
    (λ i. if keep id then v ∷ given_same keep (suc id) (types ++ made_type types (makes.Declared d) ∷ []) vs ms fit.1 i else given_same keep (suc id) (types ++ made_type types (makes.Declared d) ∷ []) vs ms fit.1 i)
    ∙ one_kept (keep id) v (given_from keep (suc id) vs ms)
given_same keep id types inputs (makes.Literal k x ∷ ms) fit =
    (λ i. if keep id then number k x ∷ given_same keep (suc id) (types ++ made_type types (makes.Literal k x) ∷ []) inputs ms fit i else given_same keep (suc id) (types ++ made_type types (makes.Literal k x) ∷ []) inputs ms fit i)
    ∙ one_kept (keep id) (number k x) (given_from keep (suc id) inputs ms)
given_same keep id types inputs (makes.Call c ids ∷ ms) fit =
    given_same keep (suc id) (types ++ made_type types (makes.Call c ids) ∷ []) inputs ms fit ∙ none_kept (keep id) (given_from keep (suc id) inputs ms)

-- how many loops a call's program has
abbrev pub CallsLoop : Type 0
CallsLoop = (c : Call) (types : List TypeTree) → loops (fragment c types).body ≡ loops_of c

none_loop : (b : Bool) (n : ℕ) → n ≡ (if b then 0 else 0) + n
none_loop true n = omega arith
none_loop false n = omega arith

some_loop : (b : Bool) (l k n : ℕ) → l ≡ k → (if b then l + n else n) ≡ (if b then k else 0) + n
some_loop true l k n e = omega (arith, e)
some_loop false l k n e = omega arith

pub loops_same : CallsLoop → (keep : ℕ → Bool) (id : ℕ) (types : List TypeTree) (inputs : List Value) (ms : List Made) → lowering.kept_loops keep id (objects_from types inputs ms) ≡ loops_from keep id ms
loops_same loop keep id types inputs [] = refl
loops_same loop keep id types inputs (makes.Declared d ∷ ms) =
    loops_same loop keep (suc id) (types ++ made_type types (makes.Declared d) ∷ []) (left_after (makes.Declared d) inputs) ms ∙ none_loop (keep id) (loops_from keep (suc id) ms)
loops_same loop keep id types inputs (makes.Literal k x ∷ ms) =
    loops_same loop keep (suc id) (types ++ made_type types (makes.Literal k x) ∷ []) inputs ms ∙ none_loop (keep id) (loops_from keep (suc id) ms)
loops_same loop keep id types inputs (makes.Call c ids ∷ ms) =
    let further = loops_same loop keep (suc id) (types ++ made_type types (makes.Call c ids) ∷ []) inputs ms in
    (λ i. if keep id then loops (fragment c (types_at types ids)).body + further i else further i)
    ∙ some_loop (keep id) (loops (fragment c (types_at types ids)).body) (loops_of c) (loops_from keep (suc id) ms) (loop c (types_at types ids))

-- what is kept is below the number of all
pub kept_below : (keep : ℕ → Bool) (id n : ℕ) (ms : List Made) → id + length ms ≤ n → AreBelow n (kept keep id ms)
kept_below keep id n [] h = tt
kept_below keep id n (m ∷ ms) h = by (keep id) (kept_below keep (suc id) n ms (omega (arith, h)))
  where
    by : (b : Bool) → AreBelow n (kept keep (suc id) ms) → AreBelow n (if b then id ∷ kept keep (suc id) ms else kept keep (suc id) ms)
    by true later = (omega (arith, h), later)
    by false later = later
