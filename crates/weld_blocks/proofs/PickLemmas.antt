-- Rows that are picked by their places.
use Rattle.std.proofs.Common.{Bor, ◌≡◌, ℕ, ◌+◌, ◌<◌, ℤ, pos, int_eq, Bool, true, false, if◌then◌else◌, List, length, get_or, Option, Some, None, refl, sym, ap, ◌∙◌, subst, below_more}
use Rattle.weld_data.specs.declared.kind.Kind.{Kind}
use Rattle.weld_data.specs.declared.kind.Kind.TheVariants as kinds
use Rattle.weld_data.specs.Value.{Value, number}
use Rattle.weld_tree.specs.ExprTree.{ExprTree, At, two, three, and, or, Three, if_else, select, slice}
use Rattle.weld_builders.specs.Outcome.{Outcome, done, and_then, map_out}
use Rattle.weld_meaning.specs.Environment.{look_for}
use Rattle.weld_meaning.specs.Thing.{plain, field_of}
use Rattle.weld_meaning.specs.Evaluation.{Env, eval, found, chosen, truth_of, truth_value, two_thing, three_thing, value_out}
use Rattle.weld_eval.specs.Word.{of_word}
use Rattle.weld_eval_plain.specs.Nodes.{IsIf}
use Rattle.weld_blocks.specs.Numbers.{number_at, AreGiven, MayGive, AreNumbersOf, MayBeNumbers, IsChosen}
use Rattle.weld_blocks.specs.Outer.{StandsEverywhere}
use Rattle.weld_blocks.specs.Picked.{IsPicked, StandsAt, Where, AreNumbersWhere, MayBeNumbersWhere}
use Rattle.weld_blocks.specs.Scope.{scope_step, scope_env}
use Rattle.weld_blocks.specs.declared.numbers.Numbers.{Numbers}
use Rattle.weld_blocks.specs.declared.scope.Scope.{Scope}
use Rattle.weld_blocks.specs.declared.scope.Scope.TheFolds.{fold-roll-Scope}
use Rattle.weld_blocks.specs.declared.scope.Scope.TheVariants as scopes
use Rattle.weld_blocks.proofs.LeafLemmas.{may_map}

-- ---- names of picked rows

pub scope_picked : (sc : Scope) (ps : Bor (List ℕ)) (t : ℕ) (r : Bor Scope) (j : ℕ) → sc ≡ scopes.Picked ps t r → scope_env sc j ≡ scope_env r.now (get_or ps.now j 0)
scope_picked sc ps t r j e = ap (λ (s : Scope). scope_env s j) (e ∙ sym (scopes.rolls-Picked ps t r)) ∙ ap (λ (f : ℕ → Env). f j) (fold-roll-Scope (ℕ → Env) scope_step _)

pub name_picked : (r : Option Numbers) (sc : Scope) (ps : Bor (List ℕ)) (t : ℕ) (p : Bor Scope) (c : Numbers) (s n : ℕ) → sc ≡ scopes.Picked ps t p → AreGiven (λ j v. look_for s (scope_env p.now j) ≡ Some (plain v)) c t
    → MayGive (λ j v. IsPicked c ps.now j v) r n → MayGive (λ j v. look_for s (scope_env sc j) ≡ Some (plain v)) r n
name_picked r sc ps t p c s n e h k = may_map (λ j v. IsPicked c ps.now j v) (λ j v. look_for s (scope_env sc j) ≡ Some (plain v)) r n
    (λ j v q. ap (look_for s) (scope_picked sc ps t p j e) ∙ h.each (get_or ps.now j 0) (subst (λ m. get_or ps.now j 0 < m) h.long q.0) ∙ ap (λ u. Some (plain u)) (sym q.1)) k

pub field_picked : (r : Option Numbers) (k : ℕ) (sc : Scope) (ps : Bor (List ℕ)) (t : ℕ) (p : Bor Scope) (c : Numbers) (s n : ℕ) → sc ≡ scopes.Picked ps t p
    → AreGiven (λ j v. and_then (found (look_for s (scope_env p.now j))) (field_of k) ≡ done (plain v)) c t
    → MayGive (λ j v. IsPicked c ps.now j v) r n → MayGive (λ j v. and_then (found (look_for s (scope_env sc j))) (field_of k) ≡ done (plain v)) r n
field_picked r k sc ps t p c s n e h m = may_map (λ j v. IsPicked c ps.now j v) (λ j v. and_then (found (look_for s (scope_env sc j))) (field_of k) ≡ done (plain v)) r n
    (λ j v q.
    ap (λ (env : Env). and_then (found (look_for s env)) (field_of k)) (scope_picked sc ps t p j e)
    ∙ h.each (get_or ps.now j 0) (subst (λ i. get_or ps.now j 0 < i) h.long q.0) ∙ ap (λ u. done (plain u)) (sym q.1)) m

pub stands_picked : (sc : Scope) (ps : Bor (List ℕ)) (t : ℕ) (p : Bor Scope) (s : ℕ) (v : Value) → sc ≡ scopes.Picked ps t p → StandsEverywhere s (scope_env p.now) v → StandsEverywhere s (scope_env sc) v
stands_picked sc ps t p s v e h j = ap (look_for s) (scope_picked sc ps t p j e) ∙ h (get_or ps.now j 0)

pub lent_picked : (sc : Scope) (ps : Bor (List ℕ)) (t : ℕ) (p : Bor Scope) (s j i : ℕ) (v : Value) → sc ≡ scopes.Picked ps t p → i ≡ get_or ps.now j 0 → look_for s (scope_env p.now i) ≡ Some (plain v) → look_for s (scope_env sc j) ≡ Some (plain v)
lent_picked sc ps t p s j i v e same h = ap (look_for s) (scope_picked sc ps t p j e) ∙ ap (λ k. look_for s (scope_env p.now k)) (sym same) ∙ h

-- ---- the rows on which a truth value is this one

-- the number at a place isn't the truth value
not_of_kind : (k : Kind) (x : ℤ) (b : Bool) → (k ≡ kinds.Bool → int_eq x (pos 1) ≡ b → ⊥) → truth_of (number k (of_word k x)) ≡ done b → ⊥
not_of_kind kinds.Bool x b never h = never refl cc
not_of_kind kinds.I8 x b never h = cc
not_of_kind kinds.I16 x b never h = cc
not_of_kind kinds.I32 x b never h = cc
not_of_kind kinds.I64 x b never h = cc
not_of_kind kinds.U8 x b never h = cc
not_of_kind kinds.U16 x b never h = cc
not_of_kind kinds.U32 x b never h = cc
not_of_kind kinds.U64 x b never h = cc

pub not_there : (c : Numbers) (j : ℕ) (b : Bool) → (c.kind ≡ kinds.Bool → int_eq (get_or c.items.items j (pos 0)) (pos 1) ≡ b → ⊥) → truth_of (number_at c j) ≡ done b → ⊥
not_there c j b never h = not_of_kind c.kind (get_or c.items.items j (pos 0)) b never h

pub wherever : (r : Option Numbers) (e : ExprTree) (envs : ℕ → Env) (t : Numbers) (b : Bool) (count : ℕ) → MayBeNumbers e envs r count → MayBeNumbersWhere e envs t b r count
wherever r e envs t b count h = may_map (λ j v. eval e (envs j) ≡ done (plain v)) (Where t b (λ j v. eval e (envs j) ≡ done (plain v))) r count (λ j v q w. q) h

pub nowhere_more : (t : Numbers) (b : Bool) (i : ℕ) → ((j : ℕ) → j < i → truth_of (number_at t j) ≡ done b → ⊥) → (truth_of (number_at t i) ≡ done b → ⊥) → (j : ℕ) → j < i + 1 → truth_of (number_at t j) ≡ done b → ⊥
nowhere_more t b i h never = below_more (λ j. truth_of (number_at t j) ≡ done b → ⊥) i h never

-- where no row is such a one, any numbers do
pub nowhere : (r : Option Numbers) (e : ExprTree) (envs : ℕ → Env) (t : Numbers) (b : Bool) (count : ℕ) → ((j : ℕ) → j < count → truth_of (number_at t j) ≡ done b → ⊥) → MayGive (λ j v. Unit {0}) r count → MayBeNumbersWhere e envs t b r count
nowhere None e envs t b count never h = tt
nowhere (Some c) e envs t b count never h = record { long = h.long; each = λ j less q. absurd (never j less q) }

pub spread_where : (r : Option Numbers) (e : ExprTree) (envs inner : ℕ → Env) (ps : List ℕ) (t : Numbers) (b : Bool) (d : Numbers) (count : ℕ) → ((k : ℕ) → inner k ≡ envs (get_or ps k 0)) → AreNumbersOf e inner d (length ps)
    → MayGive (λ j v. Where t b (λ i w. StandsAt d ps i w) j v) r count → MayBeNumbersWhere e envs t b r count
spread_where r e envs inner ps t b d count same h k = may_map (λ j v. Where t b (λ i w. StandsAt d ps i w) j v) (Where t b (λ j v. eval e (envs j) ≡ done (plain v))) r count
    (λ j v q w.
    let s = q w in
    ap (λ i. eval e (envs i)) (sym s.3) ∙ ap (eval e) (sym (same s.0)) ∙ h.each s.0 s.1 ∙ ap (λ u. done (plain u)) (sym s.4)) k

-- ---- forms that evaluate a part on some rows alone

choose_where : (t v w x : Value) (o p : Outcome Value) → IsChosen t v w x → (truth_of t ≡ done true → o ≡ done v) → (truth_of t ≡ done false → p ≡ done w) → chosen (plain t) o p ≡ done x
choose_where t v w x o p h q r = ap (λ u. and_then u (λ (c : Bool). if c then o else p)) h.1 ∙ by h.0 h.1 h.2
  where
    by : (b : Bool) → truth_of t ≡ done b → x ≡ (if b then v else w) → (if b then o else p) ≡ done x
    by true s e = q s ∙ ap done (sym e)
    by false s e = r s ∙ ap done (sym e)

pub and_where : (r : Option Numbers) (a : At) (e f : ExprTree) (envs : ℕ → Env) (n : ExprTree) (c d : Numbers) (count : ℕ) → n ≡ two a and e f → AreNumbersOf e envs c count → AreNumbersWhere f envs c true d count
    → MayGive (λ j v. IsChosen (number_at c j) (number_at d j) (truth_value false) v) r count → MayBeNumbers n envs r count
and_where None a e f envs n c d count is p q h = tt
and_where (Some x) a e f envs n c d count is p q h = record {
  long = h.long;
  each = λ j less.
      ap (λ m. eval m (envs j)) is ∙ ap (λ o. and_then o (λ t. two_thing and t (eval f (envs j)))) (p.each j less)
      ∙ ap (map_out plain) (choose_where (number_at c j) (number_at d j) (truth_value false) (number_at x j) (value_out (eval f (envs j))) (done (truth_value false)) (h.each j less) (λ s. ap value_out (q.each j less s)) (λ s. refl));
}

pub or_where : (r : Option Numbers) (a : At) (e f : ExprTree) (envs : ℕ → Env) (n : ExprTree) (c d : Numbers) (count : ℕ) → n ≡ two a or e f → AreNumbersOf e envs c count → AreNumbersWhere f envs c false d count
    → MayGive (λ j v. IsChosen (number_at c j) (truth_value true) (number_at d j) v) r count → MayBeNumbers n envs r count
or_where None a e f envs n c d count is p q h = tt
or_where (Some x) a e f envs n c d count is p q h = record {
  long = h.long;
  each = λ j less.
      ap (λ m. eval m (envs j)) is ∙ ap (λ o. and_then o (λ t. two_thing or t (eval f (envs j)))) (p.each j less)
      ∙ ap (map_out plain) (choose_where (number_at c j) (truth_value true) (number_at d j) (number_at x j) (done (truth_value true)) (value_out (eval f (envs j))) (h.each j less) (λ s. refl) (λ s. ap value_out (q.each j less s)));
}

if_of : (a : At) (o : Three) (c e f : ExprTree) (env : Env) (t v w x : Value) → IsIf (three a o c e f) → eval c env ≡ done (plain t) → (truth_of t ≡ done true → eval e env ≡ done (plain v)) → (truth_of t ≡ done false → eval f env ≡ done (plain w)) → IsChosen t v w x → eval (three a o c e f) env ≡ done (plain x)
if_of a if_else c e f env t v w x k o p q h =
    ap (λ u. and_then u (λ y. three_thing if_else y (eval e env) (eval f env))) o ∙ ap (λ u. and_then u (λ (b : Bool). if b then eval e env else eval f env)) h.1 ∙ by h.0 h.1 h.2
  where
    by : (b : Bool) → truth_of t ≡ done b → x ≡ (if b then v else w) → (if b then eval e env else eval f env) ≡ done (plain x)
    by true s i = p s ∙ ap (λ u. done (plain u)) (sym i)
    by false s i = q s ∙ ap (λ u. done (plain u)) (sym i)
if_of a select c e f env t v w x k o p q h = absurd k
if_of a slice c e f env t v w x k o p q h = absurd k

pub if_where : (r : Option Numbers) (a : At) (k : Three) (c e f : ExprTree) (envs : ℕ → Env) (n : ExprTree) (t d g : Numbers) (count : ℕ) → n ≡ three a k c e f → IsIf n → AreNumbersOf c envs t count → AreNumbersWhere e envs t true d count → AreNumbersWhere f envs t false g count
    → MayGive (λ j v. IsChosen (number_at t j) (number_at d j) (number_at g j) v) r count → MayBeNumbers n envs r count
if_where None a k c e f envs n t d g count is form o p q h = tt
if_where (Some x) a k c e f envs n t d g count is form o p q h = record {
  long = h.long;
  each = λ j less.
      ap (λ m. eval m (envs j)) is
      ∙ if_of a k c e f (envs j) (number_at t j) (number_at d j) (number_at g j) (number_at x j) (subst (λ m. IsIf m) is form) (o.each j less) (p.each j less) (q.each j less) (h.each j less);
}
