-- Two runs over the same rows, side by side.
use Rattle.std.proofs.Common.{◌≡◌, [], ◌∷◌, List, refl, ap, sym, subst, ◌∙◌}
use Rattle.weld_tree.specs.HasValue.{HasValue}
use Rattle.weld_tree.specs.TypeTree.{TypeTree, BuildTree, build}
use Rattle.weld_tree.specs.Types.{IsBuilder, IsWellFormed}
use Rattle.weld_builders.specs.Outcome.{Outcome, done, fault, stuck, and_then, map_out}
use Rattle.weld_builders.specs.Part.{Part, result_of}
use Rattle.weld_data.specs.Value.{Value, number, list, struct, dict}
use Rattle.weld_meaning.specs.Thing.{Thing, plain, building, several, Things, no_things, more_things, struct_of}
use Rattle.weld_meaning.specs.ThingType.{HasThing}
use Rattle.weld_meaning.specs.Evaluation.{Row, run, finished}
use Rattle.weld_meaning.specs.Loops.{RowsHave}
use Rattle.weld_meaning.proofs.Good.{Good}
use Rattle.weld_meaning.proofs.NeverStuck.{run_good, no_builder_value}

abbrev pub pair : Thing → Thing → Thing
pair t u = several (more_things t (more_things u no_things))

-- both, one after the other
abbrev pub both : Outcome Thing → Outcome Thing → Outcome Thing
both o p = and_then o (λ t. and_then p (λ u. done (pair t u)))

then_fault : {A B : Type 0} (P : A → Type 0) (o : Outcome A) → Good P o → fault ≡ and_then o (λ (x : A). let f : Outcome B = fault in f)
then_fault P (done x) h = refl
then_fault P fault h = refl
then_fault P stuck h = absurd h.fits

pub runs_pair : (r : TypeTree) (P Q : Thing → Type 0) (f g h : Row → Thing → Outcome Thing)
    → ((row : Row) (t : Thing) → HasValue r row.1 → P t → Good P (f row t))
    → ((row : Row) (u : Thing) → HasValue r row.1 → Q u → Good Q (g row u))
    → ((row : Row) (t u : Thing) → HasValue r row.1 → P t → Q u → h row (pair t u) ≡ both (f row t) (g row u))
    → (rows : List Row) (t u : Thing) → RowsHave r rows → P t → Q u → run rows (pair t u) h ≡ both (run rows t f) (run rows u g)
runs_pair r P Q f g h fg gg step [] t u w p q = refl
runs_pair r P Q f g h fg gg step (row ∷ rows) t u w p q =
    ap (λ o. and_then o (λ s. run rows s h)) (step row t u w.0 p q) ∙ by (λ t u p q. runs_pair r P Q f g h fg gg step rows t u w.1 p q) (f row t) (g row u) (fg row t w.0 p) (gg row u w.0 q)
  where
    by : ((t u : Thing) → P t → Q u → run rows (pair t u) h ≡ both (run rows t f) (run rows u g)) → (o m : Outcome Thing) → Good P o → Good Q m → and_then (both o m) (λ s. run rows s h) ≡ both (and_then o (λ t. run rows t f)) (and_then m (λ u. run rows u g))
    by again (done t) (done u) x y = again t u x.fits y.fits
    by again (done t) fault x y = then_fault P (run rows t f) (run_good r P f fg rows t w.1 x.fits)
    by again (done t) stuck x y = absurd y.fits
    by again fault m x y = refl
    by again stuck m x y = absurd x.fits

-- ---- builders

pub one_builder : (b : BuildTree) (t : Thing) → HasThing t (build b) → (p : Part) × (t ≡ building p)
one_builder b (plain (number k x)) h = absurd h
one_builder b (plain (list vs)) h = absurd h
one_builder b (plain (struct vs)) h = absurd h
one_builder b (plain (dict es)) h = absurd h
one_builder b (building p) h = (p, refl)
one_builder b (several ts) h = absurd h

pub finished_one : (b : BuildTree) (t : Thing) → HasThing t (build b) → (v : Value) × (finished t ≡ done (plain v))
finished_one b t h = let p = one_builder b t h in (result_of p.0, ap finished p.1)

-- a struct the first field of which is a builder, or a struct of builders, is no value
struct_pair : (b : TypeTree) (t u : Thing) → IsWellFormed b → IsBuilder b → HasThing t b → struct_of (more_things t (more_things u no_things)) ≡ pair t u
struct_pair b (plain v) u w k h = absurd (no_builder_value b v w k h)
struct_pair b (building p) u w k h = refl
struct_pair b (several ts) u w k h = refl

-- what a struct of two comes to
pub made_pair : (b c : TypeTree) (o m : Outcome Thing) → IsWellFormed b → IsBuilder b → Good (λ t. HasThing t b) o → Good (λ t. HasThing t c) m
    → and_then (and_then o (λ t. map_out (more_things t) (and_then m (λ u. map_out (more_things u) (done no_things))))) (λ ts. done (struct_of ts)) ≡ both o m
made_pair b c (done t) (done u) w k x y = ap done (struct_pair b t u w k x.fits)
made_pair b c (done t) fault w k x y = refl
made_pair b c (done t) stuck w k x y = absurd y.fits
made_pair b c fault m w k x y = refl
made_pair b c stuck m w k x y = absurd x.fits

-- two loops, each from a start of its own
pub loops_pair : (P Q : Thing → Type 0) (o m : Outcome Thing) (f g h : Thing → Outcome Thing) → Good P o → Good Q m → ((t : Thing) → P t → Good P (f t)) → ((t u : Thing) → P t → Q u → h (pair t u) ≡ both (f t) (g u))
    → and_then (both o m) h ≡ both (and_then o f) (and_then m g)
loops_pair P Q (done t) (done u) f g h x y k step = step t u x.fits y.fits
loops_pair P Q (done t) fault f g h x y k step = then_fault P (f t) (k t x.fits)
loops_pair P Q (done t) stuck f g h x y k step = absurd y.fits
loops_pair P Q fault m f g h x y k step = refl
loops_pair P Q stuck m f g h x y k step = absurd x.fits
