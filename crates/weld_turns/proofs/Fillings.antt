-- Slots that are filled with what an expression comes to.
use Rattle.std.proofs.Common.{◌≡◌, ℕ, ◌+◌, ◌<◌, ◌≤◌, List, ◌∷◌, drop, Some, Result, Ok, Err, IfOk, refl, ap, sym, subst, ◌∙◌, arith}
use Rattle.weld_data.specs.Value.{Value, Values, struct}
use Rattle.weld_data.specs.declared.op.BinOp.{BinOp}
use Rattle.weld_builders.specs.Outcome.{Outcome, done, fault, stuck, and_then, map_out}
use Rattle.weld_tree.specs.ExprTree.{ExprTree, binary, pack_exprs, make_struct, select}
use Rattle.weld_meaning.specs.Environment.{look_for}
use Rattle.weld_meaning.specs.Evaluation.{Env, eval, eval_all, many_thing, operated, three_thing, two_thing, chosen, selected, truth_of, value_out}
use Rattle.weld_meaning.specs.Thing.{Thing, plain, as_value}
use Rattle.weld_turns.specs.CodeView.{Slots, slot_limit, with_slot, shape_value, value, filled, either_of}
use Rattle.weld_turns.specs.Fillings.{AreKept, Copies, Fills, FillsFields, IsFilled, IsWork, Picks, PutsFields, Selects}
use Rattle.weld_turns.specs.Scopes.{with_scope, room_of, AreBelow, IsNamedAt, IsOutsideName, IsStateAt, Means, Sites}
use Rattle.weld_turns.specs.declared.code.Code.{Code}
use Rattle.weld_turns.specs.declared.code.Filling.{Filling}
use Rattle.weld_turns.specs.declared.code.Filling as filling
use Rattle.weld_turns.specs.declared.code.Shape.{Shape}
use Rattle.weld_turns.specs.declared.code.Shape.TheVariants.{One, Fields}
use Rattle.weld_turns.specs.declared.code.Place.{Place}
use Rattle.weld_turns.specs.declared.code.Site.TheVariants as sites
use Rattle.weld_turns.specs.declared.code.Unmade.{Unmade}
use Rattle.weld_turns.proofs.Copying.{put_fills, choose_filled}
use Rattle.weld_turns.proofs.Fields.{values_close, written_close}
use Rattle.weld_turns.proofs.Making.{named_comes, outside_comes}
use Rattle.weld_turns.proofs.Scoping.{scope_kept, held_scope, found_under, kept_then, kept_under, shape_kept}

-- ---- one filling after another

-- what is filled after slots that are kept
kept_on : (o : Outcome Thing) (r : Outcome Slots) (shape : Shape) (first : ℕ) (f g : Slots) → AreKept first f g → IsFilled o r shape first g → IsFilled o r shape first f
kept_on o (done h) shape first f g kept is = (is.0, kept_then first f g h kept is.1)
kept_on o fault shape first f g kept is = is
kept_on o stuck shape first f g kept is = is

-- slots are filled with a thing, and then others below with what is made of it
pub next_filled : (o : Outcome Thing) (make : Thing → Outcome Thing) (k shape : Shape) (next first : ℕ) (f : Slots) (r : Outcome Slots) (y : Slots → Outcome Slots) → first ≤ next → IsFilled o r k next f
    → ((g : Slots) → AreKept next f g → IsFilled (make (plain (shape_value k next g))) (y g) shape first g) → IsFilled (and_then o make) (and_then r y) shape first f
next_filled o make k shape first' first f (done g) y less is h =
    subst (λ (p : Outcome Thing). IsFilled (and_then p make) (y g) shape first f) (sym is.0)
    (kept_on (make (plain (shape_value k first' g))) (y g) shape first f g (kept_under first first' f g less is.1) (h g is.1))
next_filled o make k shape first' first f fault y less is h = ap (λ (p : Outcome Thing). and_then p make) is
next_filled o make k shape first' first f stuck y less is h = ap (λ (p : Outcome Thing). and_then p make) is

-- ---- a number

pub number_fills : (ns : Sites) (env : Env) (e : ExprTree) (first : ℕ) (c : Code) → first < slot_limit → Means c ns env (eval e) → Fills (filling.Put first c) One first ns env (eval e)
number_fills ns env e first c less h f = subst (λ (o : Outcome Thing). IsFilled o (map_out (with_slot f first) (value c f)) One first f) (sym (h f)) (put_fills f first (value c f) less)

-- ---- a choice

pub fork_fills : (shape : Shape) (first : ℕ) (ns : Sites) (env : Env) (e g h : ExprTree) (c : Code) (x y t : Filling) → ((f : Slots) → filled t f ≡ and_then (value c f) (λ v. either_of v (filled x f) (filled y f)))
    → Means c ns env (eval e) → Fills x shape first ns env (eval g) → Fills y shape first ns env (eval h) → Fills t shape first ns env (λ inner. and_then (eval e inner) (λ u. chosen u (eval g inner) (eval h inner)))
fork_fills shape first ns env e g h c x y t is i j k f =
    let inner : Env = with_scope ns f env in
    subst (λ (o : Outcome Thing). IsFilled (and_then o (λ u. chosen u (eval g inner) (eval h inner))) (filled t f) shape first f) (sym (i f))
    (subst (λ (r : Outcome Slots). IsFilled (and_then (map_out plain (value c f)) (λ u. chosen u (eval g inner) (eval h inner))) r shape first f) (sym (is f)) (by (value c f)))
  where
    by : (o : Outcome Value) → IsFilled (and_then (map_out plain o) (λ u. chosen u (eval g (with_scope ns f env)) (eval h (with_scope ns f env)))) (and_then o (λ v. either_of v (filled x f) (filled y f))) shape first f
    by (done v) = choose_filled (truth_of v) (eval g (with_scope ns f env)) (eval h (with_scope ns f env)) (filled x f) (filled y f) shape first f (j f) (k f)
    by fault = refl
    by stuck = refl

-- ---- what stands in slots already

pub named_apart : (e : ExprTree) (shape : Shape) (ns : Sites) (from first : ℕ) → IsStateAt e shape ns from → AreBelow ns first → from + room_of shape ≤ first
named_apart e shape ns from first is below =
    let room : room_of is.1.shape ≡ room_of shape = ap room_of is.4 in
    let under : is.1.first + room_of is.1.shape ≤ first = found_under ns is.0 first (sites.Whole is.1) is.3 below in
    let same : is.1.first ≡ from = is.5 in
    omega (arith, room, under, same)

named_fills : (t : Filling) (shape : Shape) (ns : Sites) (env : Env) (e : ExprTree) (from first : ℕ) → IsStateAt e shape ns from → Copies t shape from first → Fills t shape first ns env (eval e)
named_fills t shape ns env e from first is h f =
    subst (λ (o : Outcome Thing). IsFilled o (filled t f) shape first f)
    (sym (named_comes e is.0 ns f env (sites.Whole is.1) is.2 is.3 ∙ ap (λ (k : Shape). done (plain (shape_value k is.1.first f))) is.4 ∙ ap (λ (i : ℕ). done (plain (shape_value shape i f))) is.5)) (h f)

pub named_ok : (r : Result Filling Unmade) (shape : Shape) (ns : Sites) (env : Env) (e : ExprTree) (from first : ℕ) → IsStateAt e shape ns from → IfOk r (λ t. Copies t shape from first) → IfOk r (λ t. Fills t shape first ns env (eval e))
named_ok (Ok t) shape ns env e from first is h = named_fills t shape ns env e from first is h
named_ok (Err x) shape ns env e from first is h = h

outer_fills : (t : Filling) (ns : Sites) (env : Env) (e : ExprTree) (s n first : ℕ) (vs : Values) → IsOutsideName e ns s → look_for s env ≡ Some (plain (struct vs)) → PutsFields t n vs first → Fills t (Fields n) first ns env (eval e)
outer_fills t ns env e s n first vs is h k f =
    subst (λ (o : Outcome Thing). IsFilled o (filled t f) (Fields n) first f) (sym (outside_comes e s ns f env (plain (struct vs)) is.0 is.1 h)) (values_close vs (filled t f) n first f (k f))

pub outer_ok : (r : Result Filling Unmade) (ns : Sites) (env : Env) (e : ExprTree) (s n first : ℕ) (vs : Values) → IsOutsideName e ns s → look_for s env ≡ Some (plain (struct vs)) → IfOk r (λ t. PutsFields t n vs first)
    → IfOk r (λ t. Fills t (Fields n) first ns env (eval e))
outer_ok (Ok t) ns env e s n first vs is h k = outer_fills t ns env e s n first vs is h k
outer_ok (Err u) ns env e s n first vs is h k = k

-- ---- a struct that is written

pub written_ok : (r : Result Filling Unmade) (ns : Sites) (env : Env) (es : List ExprTree) (left n first : ℕ) → left ≡ n → IfOk r (λ t. FillsFields t left first ns env (eval_all (pack_exprs (drop 0 es))))
    → IfOk r (λ t. Fills t (Fields n) first ns env (λ inner. and_then (eval_all (pack_exprs es) inner) (many_thing make_struct)))
written_ok (Ok t) ns env es left n first is h = written_close t n first ns env (pack_exprs es) (subst (λ (m : ℕ). FillsFields t m first ns env (eval_all (pack_exprs es))) is h)
written_ok (Err u) ns env es left n first is h = h

-- ---- a let

pub after_fills : (x y : Filling) (shape : Shape) (first next : ℕ) (ns all : Sites) (env : Env) (e d : ExprTree) (s : ℕ) (p : Place) → p.first ≡ next → first ≤ next → AreBelow ns next → all ≡ (s, sites.Whole p) ∷ ns
    → Fills x p.shape next ns env (eval e) → Fills y shape first all env (eval d)
    → (f : Slots) → IsFilled (and_then (eval e (with_scope ns f env)) (λ u. eval d ((s, u) ∷ with_scope ns f env))) (and_then (filled x f) (filled y)) shape first f
after_fills x y shape first next ns all env e d s p at less below more i j f =
    let inner : Env = with_scope ns f env in
    next_filled (eval e inner) (λ u. eval d ((s, u) ∷ inner)) p.shape shape next first f (filled x f) (filled y) less (i f)
    (λ g kept. subst (λ (names : Env). IsFilled (eval d names) (filled y g) shape first g) (held_scope ns all f g env s next p at below more kept) (j g))

and_done : (o : Outcome Thing) → and_then o (λ (t : Thing). done t) ≡ o
and_done (done t) = refl
and_done fault = refl
and_done stuck = refl

-- filled above, and then copied
pub above_fills : (t x y : Filling) (shape : Shape) (first next : ℕ) (ns : Sites) (env : Env) (e : ExprTree) → ((f : Slots) → filled t f ≡ and_then (filled x f) (filled y))
    → first ≤ next → Fills x shape next ns env (eval e) → Copies y shape next first → Fills t shape first ns env (eval e)
above_fills t x y shape first next ns env e is less i j f =
    let inner : Env = with_scope ns f env in
    subst (λ (r : Outcome Slots). IsFilled (eval e inner) r shape first f) (sym (is f))
    (subst (λ (o : Outcome Thing). IsFilled o (and_then (filled x f) (filled y)) shape first f) (and_done (eval e inner))
    (next_filled (eval e inner) (λ t. done t) shape shape next first f (filled x f) (filled y) less (i f) (λ g kept. j g)))

pub alias_fills : (r : Result Filling Unmade) (shape : Shape) (first : ℕ) (ns all : Sites) (env : Env) (e d : ExprTree) (name : ℕ) (p : Place) → IsNamedAt e ns p → all ≡ (name, sites.Whole p) ∷ ns → IfOk r (λ t. Fills t shape first all env (eval d))
    → IfOk r (λ t. Fills t shape first ns env (λ inner. and_then (eval e inner) (λ x. eval d ((name, x) ∷ inner))))
alias_fills (Ok t) shape first ns all env e d name p is more h =
    λ f. subst (λ (o : Outcome Thing). IsFilled o (filled t f) shape first f)
    (sym (ap (λ (o : Outcome Thing). and_then o (λ x. eval d ((name, x) ∷ with_scope ns f env))) (named_comes e is.0 ns f env (sites.Whole p) is.1 is.2) ∙ ap (λ (ms : Sites). eval d (with_scope ms f env)) (sym more))) (h f)
alias_fills (Err x) shape first ns all env e d name p is more h = h

-- ---- a select

-- what a `select` comes to by its arms
by_first : (v : Value) (o p : Outcome Thing) → three_thing select (plain v) o p ≡ and_then o (λ t. map_out plain (and_then (as_value t) (λ w. and_then (value_out p) (selected v w))))
by_first v (done t) p = refl
by_first v fault p = refl
by_first v stuck p = refl

by_second : (q : Value → Outcome Value) (p : Outcome Thing) → map_out plain (and_then (value_out p) q) ≡ and_then p (λ t. map_out plain (and_then (as_value t) q))
by_second q (done t) = refl
by_second q fault = refl
by_second q stuck = refl

-- ---- an operator whose sides have slots of their own

pub work_fills : (x y z rest : Filling) (op : BinOp) (first next : ℕ) (ns : Sites) (env : Env) (e d : ExprTree) → ((f : Slots) → filled rest f ≡ and_then (filled y f) (filled z)) → first + 1 ≤ next → first < slot_limit → AreBelow ns first → Fills x One first ns env (eval e) → Fills y One next ns env (eval d)
    → IsWork z op first next → (f : Slots) → IsFilled (and_then (eval e (with_scope ns f env)) (λ u. two_thing (binary op) u (eval d (with_scope ns f env)))) (and_then (filled x f) (filled rest)) One first f
work_fills x y z rest op first next ns env e d is less within below i j work f =
    let inner : Env = with_scope ns f env in
    next_filled (eval e inner) (λ u. two_thing (binary op) u (eval d inner)) One One first first f (filled x f) (filled rest) (omega arith) (i f)
    (λ g kept. subst (λ (r : Outcome Slots). IsFilled (two_thing (binary op) (plain (g first)) (eval d inner)) r One first g) (sym (is g))
    (subst (λ (o : Outcome Thing). IsFilled o (and_then (filled y g) (filled z)) One first g) (sym (by_second (operated op (g first)) (eval d inner)))
    (next_filled (eval d inner) (λ t. map_out plain (and_then (as_value t) (operated op (g first)))) One One next first g (filled y g) (filled z) (omega (arith, less))
    (subst (λ (names : Env). IsFilled (eval d names) (filled y g) One next g) (scope_kept ns f g env first below kept) (j g))
    (λ l more. subst (λ (r : Outcome Slots). IsFilled (map_out plain (operated op (g first) (l next))) r One first l) (sym (work l))
    (subst (λ (v : Value). IsFilled (map_out plain (operated op v (l next))) (map_out (with_slot l first) (operated op (l first) (l next))) One first l) (more.below first (omega (arith, less)))
    (put_fills l first (operated op (l first) (l next)) within))))))

-- ---- a select, filled

pub select_fills : (x y : Filling) (n first next : ℕ) (ns : Sites) (env : Env) (e g h : ExprTree) → first ≤ next → AreBelow ns next → Fills x One next ns env (eval e) → Selects y n next first ns env (eval g) (eval h)
    → (f : Slots) → IsFilled (and_then (eval e (with_scope ns f env)) (λ u. three_thing select u (eval g (with_scope ns f env)) (eval h (with_scope ns f env)))) (and_then (filled x f) (filled y)) (Fields n) first f
select_fills x y n first next ns env e g h less below i j f =
    let inner : Env = with_scope ns f env in
    next_filled (eval e inner) (λ u. three_thing select u (eval g inner) (eval h inner)) One (Fields n) next first f (filled x f) (filled y) less (i f)
    (λ k kept. subst (λ (names : Env). IsFilled (three_thing select (plain (k next)) (eval g names) (eval h names)) (filled y k) (Fields n) first k) (scope_kept ns f k env next below kept) (j k))

-- the second struct is filled and then one of both is picked
second_fills : (y z : Filling) (n held first : ℕ) (k : Slots) (p : Outcome Thing) → first + n ≤ held → IsFilled p (filled y k) (Fields n) (held + 1 + n) k → Picks z n held first
    → IsFilled (map_out plain (and_then (value_out p) (selected (k held) (shape_value (Fields n) (held + 1) k)))) (and_then (filled y k) (filled z)) (Fields n) first k
second_fills y z n held first k p room i j =
    let v : Value = k held in
    let w : Value = shape_value (Fields n) (held + 1) k in
    subst (λ (o : Outcome Thing). IsFilled o (and_then (filled y k) (filled z)) (Fields n) first k) (sym (by_second (selected v w) p))
    (next_filled p (λ t. map_out plain (and_then (as_value t) (selected v w))) (Fields n) (Fields n) (held + 1 + n) first k (filled y k) (filled z) (omega (arith, room)) i
    (λ l kept. subst (λ (u : Value). IsFilled (map_out plain (selected u w (shape_value (Fields n) (held + 1 + n) l))) (filled z l) (Fields n) first l) (kept.below held (omega arith))
    (subst (λ (u : Value). IsFilled (map_out plain (selected (l held) u (shape_value (Fields n) (held + 1 + n) l))) (filled z l) (Fields n) first l)
    (shape_kept (Fields n) (held + 1) (held + 1 + n) k l (omega arith) kept) (j l))))

pub both_fill : (x y z rest : Filling) (n held first : ℕ) (ns : Sites) (env : Env) (e d : ExprTree) → ((f : Slots) → filled rest f ≡ and_then (filled y f) (filled z)) → first + n ≤ held → AreBelow ns held
    → Fills x (Fields n) (held + 1) ns env (eval e) → Fills y (Fields n) (held + 1 + n) ns env (eval d) → Picks z n held first
    → (f : Slots) → IsFilled (three_thing select (plain (f held)) (eval e (with_scope ns f env)) (eval d (with_scope ns f env))) (and_then (filled x f) (filled rest)) (Fields n) first f
both_fill x y z rest n held first ns env e d is room below i j l f =
    let inner : Env = with_scope ns f env in
    let v : Value = f held in
    subst (λ (o : Outcome Thing). IsFilled o (and_then (filled x f) (filled rest)) (Fields n) first f) (sym (by_first v (eval e inner) (eval d inner)))
    (next_filled (eval e inner) (λ t. map_out plain (and_then (as_value t) (λ w. and_then (value_out (eval d inner)) (selected v w)))) (Fields n) (Fields n) (held + 1) first f (filled x f) (filled rest) (omega (arith, room)) (i f)
    (λ g kept. subst (λ (r : Outcome Slots). IsFilled (map_out plain (and_then (value_out (eval d inner)) (selected v (shape_value (Fields n) (held + 1) g)))) r (Fields n) first g) (sym (is g))
    (subst (λ (u : Value). IsFilled (map_out plain (and_then (value_out (eval d inner)) (selected u (shape_value (Fields n) (held + 1) g)))) (and_then (filled y g) (filled z)) (Fields n) first g) (kept.below held (omega arith))
    (second_fills y z n held first g (eval d inner) room
    (subst (λ (names : Env). IsFilled (eval d names) (filled y g) (Fields n) (held + 1 + n) g) (scope_kept ns f g env held below (kept_under held (held + 1) f g (omega arith) kept)) (j g)) l))))
