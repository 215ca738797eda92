-- Legs, names and fields that are read.
use Rattle.std.proofs.Common.{ℤ, pos, ◌≡◌, ℕ, ◌+◌, ◌<◌, ◌≤◌, ◌≢◌, ◌==◌, Bool, true, false, ◌∷◌, [], List, length, slice_get, get_or, map, zero, suc, Option, Some, None, IfSome, if◌then◌else◌, Bor, Vec, Global, refl, sym, ap, ◌∙◌, arith}
use Rattle.std.proofs.lemmas.Bool.{eq-eqb, eqb-true}
use Rattle.std.proofs.lemmas.Option.{get_or_from_slice_get}
use Rattle.weld_data.specs.View.{view_column}
use Rattle.weld_data.specs.declared.kind.Kind.{Kind}
use Rattle.weld_data.specs.Structs.{HasThere}
use Rattle.weld_eval.proofs.PackedLemmas.{field_there as packed_field}
use Rattle.weld_data.specs.Value.{Value, number, struct, no_values, values}
use Rattle.weld_data.specs.declared.value.Column.{Column}
use Rattle.weld_builders.specs.Outcome.{done, and_then, map_out}
use Rattle.weld_meaning.specs.Environment.{look_for}
use Rattle.weld_meaning.specs.Thing.{Thing, plain, value_at, value_field, field_of}
use Rattle.weld_meaning.specs.Evaluation.{Env, found, whole_number}
use Rattle.weld_eval.specs.LegsView.{lists_of}
use Rattle.weld_eval.specs.RowLists.{row_in, rows_in, is_one}
use Rattle.weld_eval.specs.declared.legs.Legs.{Legs}
use Rattle.weld_eval.specs.declared.legs.Legs.TheVariants.{And, End}
use Rattle.weld_eval.proofs.LegLists.{lists_and, lists_end}
use Rattle.weld_eval.proofs.RowLists.{row_stands, field_value}
use Rattle.weld_blocks.specs.Numbers.{count_of, number_at, AreSame, AreGiven, HasFieldThere, MayGive, MayGiveLeg}
use Rattle.weld_blocks.specs.declared.numbers.Numbers.{Numbers}
use Rattle.weld_blocks.specs.declared.scope.Bound.{Bound}
use Rattle.weld_blocks.specs.declared.scope.Bound.TheVariants as bounds
use Rattle.weld_blocks.specs.declared.scope.Rows.{Rows}
use Rattle.weld_blocks.specs.declared.scope.Scope.{Scope}
use Rattle.weld_blocks.specs.declared.scope.Scope.TheFolds.{fold-roll-Scope}
use Rattle.weld_blocks.specs.declared.scope.Scope.TheVariants as scopes
use Rattle.weld_blocks.specs.Scope.{bound_at, scope_step, scope_env, row_env}
use Rattle.weld_eval.specs.FrameView.{env_of}
use Rattle.weld_eval.specs.Word.{of_word}
use Rattle.weld_eval.specs.ThingView.{thing_of}
use Rattle.weld_tree.specs.declared.sym.Sym.{Sym}

-- ---- legs

pub one_leg : (legs : Legs) (c : Bor Column) (r : Bor Legs) → legs ≡ And c r → r.now ≡ End → lists_of legs ≡ view_column c.now ∷ []
one_leg legs c r e d = lists_and legs c r e ∙ ap (λ (ls : List (List Value)). view_column c.now ∷ ls) (lists_end r.now d)

pub two_legs : (legs : Legs) (c : Bor Column) (r : Bor Legs) (m : List Value) → legs ≡ And c r → lists_of r.now ≡ m ∷ [] → lists_of legs ≡ view_column c.now ∷ m ∷ []
two_legs legs c r m e d = lists_and legs c r e ∙ ap (λ (ls : List (List Value)). view_column c.now ∷ ls) d

-- ---- numbers that are given

pub given_map : (P Q : ℕ → Value → Type 0) (c : Numbers) (n : ℕ) → ((j : ℕ) (v : Value) → P j v → Q j v) → AreGiven P c n → AreGiven Q c n
given_map P Q c n f h = record { long = h.long; each = λ j less. f j (number_at c j) (h.each j less) }

pub may_map : (P Q : ℕ → Value → Type 0) (r : Option Numbers) (n : ℕ) → ((j : ℕ) (v : Value) → P j v → Q j v) → MayGive P r n → MayGive Q r n
may_map P Q (Some c) n f h = given_map P Q c n f h
may_map P Q None n f h = tt

-- a copy of so many
pub copy_given : (r : Option Numbers) (c : Numbers) (n : ℕ) → count_of c ≡ n → IfSome r (λ d. AreSame d c) → MayGive (λ j v. v ≡ number_at c j) r n
copy_given None c n e h = tt
copy_given (Some d) c n e h = record {
  long = ap length h.1 ∙ e;
  each = λ j less. ap (λ (k : Kind). number k (of_word k (get_or d.items.items j (pos 0)))) h.0 ∙ ap (λ (xs : List ℤ). number c.kind (of_word c.kind (get_or xs j (pos 0)))) h.1;
}

-- ---- what is bound

pub number_bound : (r : Option Numbers) (b : Bound) (c : Numbers) (n : ℕ) → b ≡ bounds.Number c → MayGive (λ j v. v ≡ number_at c j) r n → MayGive (λ j v. v ≡ bound_at b j) r n
number_bound r b c n is h = may_map (λ j v. v ≡ number_at c j) (λ j v. v ≡ bound_at b j) r n (λ j v q. q ∙ ap (λ (u : Bound). bound_at u j) (sym is)) h

field_there : (cs : List Numbers) (k j : ℕ) (c : Numbers) → k < length cs → c ≡ get_or cs k c → value_at k (values (map (λ d. number_at d j) cs)) ≡ done (number_at c j)
field_there [] k j c less e = absurd (omega arith)
field_there (d ∷ cs) zero j c less e = ap (λ (x : Numbers). done (number_at x j)) (sym e)
field_there (d ∷ cs) (suc k) j c less e = field_there cs k j c (omega arith) e

pub field_bound : (r : Option Numbers) (b : Bound) (cs : Vec Numbers Global) (c : Numbers) (k n : ℕ) → b ≡ bounds.Fields cs → k < length cs.items → c ≡ get_or cs.items k c → MayGive (λ j v. v ≡ number_at c j) r n
    → MayGive (λ j v. value_field k (bound_at b j) ≡ done v) r n
field_bound r b cs c k n is less e h = may_map (λ j v. v ≡ number_at c j) (λ j v. value_field k (bound_at b j) ≡ done v) r n
    (λ j v q. ap (λ (u : Bound). value_field k (bound_at u j)) is ∙ field_there cs.items k j c less e ∙ ap done (sym q)) h

-- ---- rows of one leg

pub single : (ls : List (List Value)) (l : List Value) (i : ℕ) (v : Value) → ls ≡ l ∷ [] → slice_get l i ≡ Some v → row_in ls i ≡ v
single ls l i v e q = ap (λ (ks : List (List Value)). row_in ks i) e ∙ get_or_from_slice_get l i v (struct no_values) q

pub single_given : (r : Option Numbers) (ls : List (List Value)) (l : List Value) (from n : ℕ) → ls ≡ l ∷ [] → MayGive (λ j v. slice_get l (from + j) ≡ Some v) r n → MayGive (λ j v. row_in ls (from + j) ≡ v) r n
single_given r ls l from n e h = may_map (λ j v. slice_get l (from + j) ≡ Some v) (λ j v. row_in ls (from + j) ≡ v) r n (λ j v q. single ls l (from + j) v e q) h

-- ---- fields of rows

pub leg_given : (r : Option Numbers) (ls : List (List Value)) (l : List Value) (k from n : ℕ) → slice_get ls k ≡ Some l → from + n ≤ length (rows_in ls) → MayGive (λ j v. slice_get l (from + j) ≡ Some v) r n → MayGiveLeg ls k from r n
leg_given None ls l k from n e w h = tt
leg_given (Some c) ls l k from n e w h = record { elements = l; at = e; within = w; given = h }

several : (legs : Legs) (c d : Bor Column) (r s : Bor Legs) → legs ≡ And c r → r.now ≡ And d s → false ≡ is_one (lists_of legs)
several legs c d r s e f = sym (ap is_one (lists_and legs c r e ∙ ap (λ (ls : List (List Value)). view_column c.now ∷ ls) (lists_and r.now d s f)))

field_at : (ls : List (List Value)) (l : List Value) (k i n : ℕ) (v : Value) → false ≡ is_one ls → slice_get ls k ≡ Some l → i < n → n ≤ length (rows_in ls) → slice_get l i ≡ Some v → value_field k (row_in ls i) ≡ done v
field_at ls l k i n v o e less w q = field_value ls i k l v o (row_stands ls i (omega arith)) e q

pub field_given : (r : Option Numbers) (legs : Legs) (c d : Bor Column) (p s : Bor Legs) (k from n : ℕ) → legs ≡ And c p → p.now ≡ And d s → MayGiveLeg (lists_of legs) k from r n
    → MayGive (λ j v. value_field k (row_in (lists_of legs) (from + j)) ≡ done v) r n
field_given None legs c d p s k from n e f h = tt
field_given (Some x) legs c d p s k from n e f h = record {
  long = h.given.long;
  each = λ j less. let near : from + j < from + n = omega arith in field_at (lists_of legs) h.elements k (from + j) (from + n) (number_at x j) (several legs c d p s e f) h.at near h.within (h.given.each j less);
}

-- the field of a struct of numbers
pub field_packed : (vs : List Value) (k i : ℕ) (w v : Value) → slice_get vs i ≡ Some w → HasThere k v w → HasFieldThere k (slice_get vs i) v
field_packed vs k i w v at h = record { whole = w; at = at; is = packed_field k w v h }

pub packed_given : (r : Option Numbers) (legs : Legs) (c : Bor Column) (p : Bor Legs) (k from n : ℕ) → legs ≡ And c p → p.now ≡ End → MayGive (λ j v. HasFieldThere k (slice_get (view_column c.now) (from + j)) v) r n
    → MayGive (λ j v. value_field k (row_in (lists_of legs) (from + j)) ≡ done v) r n
packed_given r legs c p k from n e d h = may_map (λ j v. HasFieldThere k (slice_get (view_column c.now) (from + j)) v) (λ j v. value_field k (row_in (lists_of legs) (from + j)) ≡ done v) r n
    (λ j v q. ap (value_field k) (single (lists_of legs) (view_column c.now) (from + j) q.whole (one_leg legs c p e d) q.at) ∙ q.is) h

-- ---- names

pub here : {A : Type 0} (s b : ℕ) (t : A) (env : List (ℕ × A)) → b ≡ s → look_for s ((b, t) ∷ env) ≡ Some t
here s b t env e = let q : (s == b) ≡ true = eq-eqb s b (sym e) in ap (λ (c : Bool). if c then Some t else look_for s env) q

pub past : {A : Type 0} (s b : ℕ) (t : A) (env : List (ℕ × A)) → (b ≡ s → ⊥) → look_for s ((b, t) ∷ env) ≡ look_for s env
past s b t env d = by (s == b) refl
  where
    by : (c : Bool) → (s == b) ≡ c → look_for s ((b, t) ∷ env) ≡ look_for s env
    by true q = absurd (d (sym (eqb-true s b q)))
    by false q = ap (λ (c : Bool). if c then Some t else look_for s env) q

-- ---- what a name stands for on rows

pub scope_let : (sc : Scope) (b : Sym) (c : Bor Bound) (r : Bor Scope) (j : ℕ) → sc ≡ scopes.Let b c r → scope_env sc j ≡ (b.0, plain (bound_at c.now j)) ∷ scope_env r.now j
scope_let sc b c r j e = ap (λ (s : Scope). scope_env s j) (e ∙ sym (scopes.rolls-Let b c r)) ∙ ap (λ (f : ℕ → Env). f j) (fold-roll-Scope (ℕ → Env) scope_step _)

pub scope_rows : (sc : Scope) (r : Bor Rows) (j : ℕ) → sc ≡ scopes.Rows r → scope_env sc j ≡ row_env r.now j
scope_rows sc r j e = ap (λ (s : Scope). scope_env s j) (e ∙ sym (scopes.rolls-Rows r)) ∙ ap (λ (f : ℕ → Env). f j) (fold-roll-Scope (ℕ → Env) scope_step _)

-- the newest name is this one
pub let_here : (sc : Scope) (b : Sym) (c : Bor Bound) (p : Bor Scope) (s j : ℕ) → sc ≡ scopes.Let b c p → b.0 ≡ s → look_for s (scope_env sc j) ≡ Some (plain (bound_at c.now j))
let_here sc b c p s j e same = ap (look_for s) (scope_let sc b c p j e) ∙ here s b.0 (plain (bound_at c.now j)) (scope_env p.now j) same

-- the newest name is another one
pub let_past : (sc : Scope) (b : Sym) (c : Bor Bound) (p : Bor Scope) (s j : ℕ) → sc ≡ scopes.Let b c p → b.0 ≢ s → look_for s (scope_env sc j) ≡ look_for s (scope_env p.now j)
let_past sc b c p s j e other = ap (look_for s) (scope_let sc b c p j e) ∙ past s b.0 (plain (bound_at c.now j)) (scope_env p.now j) other

pub name_here : (r : Option Numbers) (sc : Scope) (b : Sym) (c : Bor Bound) (p : Bor Scope) (s n : ℕ) → sc ≡ scopes.Let b c p → b.0 ≡ s → MayGive (λ j v. v ≡ bound_at c.now j) r n → MayGive (λ j v. look_for s (scope_env sc j) ≡ Some (plain v)) r n
name_here r sc b c p s n e same h = may_map (λ j v. v ≡ bound_at c.now j) (λ j v. look_for s (scope_env sc j) ≡ Some (plain v)) r n
    (λ j v q. let_here sc b c p s j e same ∙ ap (λ u. Some (plain u)) (sym q)) h

pub name_below : (r : Option Numbers) (sc : Scope) (b : Sym) (c : Bor Bound) (p : Bor Scope) (s n : ℕ) → sc ≡ scopes.Let b c p → b.0 ≢ s → MayGive (λ j v. look_for s (scope_env p.now j) ≡ Some (plain v)) r n → MayGive (λ j v. look_for s (scope_env sc j) ≡ Some (plain v)) r n
name_below r sc b c p s n e other h = may_map (λ j v. look_for s (scope_env p.now j) ≡ Some (plain v)) (λ j v. look_for s (scope_env sc j) ≡ Some (plain v)) r n
    (λ j v q. let_past sc b c p s j e other ∙ q) h

pub name_of_rows : (r : Option Numbers) (sc : Scope) (p : Bor Rows) (s n : ℕ) → sc ≡ scopes.Rows p → MayGive (λ j v. look_for s (row_env p.now j) ≡ Some (plain v)) r n → MayGive (λ j v. look_for s (scope_env sc j) ≡ Some (plain v)) r n
name_of_rows r sc p s n e h = may_map (λ j v. look_for s (row_env p.now j) ≡ Some (plain v)) (λ j v. look_for s (scope_env sc j) ≡ Some (plain v)) r n (λ j v q. ap (look_for s) (scope_rows sc p j e) ∙ q) h

-- the row is seen first, then its number, then the builder, then the names outside
abbrev pub outer_env : Rows → Env
outer_env p = (p.own_name.0, thing_of p.own.now) ∷ env_of p.frame.now

abbrev pub middle_env : Rows → ℕ → Env
middle_env p j = (p.count_name.0, plain (whole_number (p.from + j))) ∷ outer_env p

abbrev pub row_thing : Rows → ℕ → Thing
row_thing p j = plain (row_in (lists_of p.legs.now) (p.from + j))

pub row_here : (r : Option Numbers) (p : Rows) (s n : ℕ) → p.row_name.0 ≡ s → MayGive (λ j v. row_in (lists_of p.legs.now) (p.from + j) ≡ v) r n → MayGive (λ j v. look_for s (row_env p j) ≡ Some (plain v)) r n
row_here r p s n e h = may_map (λ j v. row_in (lists_of p.legs.now) (p.from + j) ≡ v) (λ j v. look_for s (row_env p j) ≡ Some (plain v)) r n (λ j v q. here s p.row_name.0 (row_thing p j) (middle_env p j) e ∙ ap (λ u. Some (plain u)) q) h

pub count_here : (r : Option Numbers) (p : Rows) (s n : ℕ) → p.row_name.0 ≢ s → p.count_name.0 ≡ s → MayGive (λ j v. v ≡ whole_number (p.from + j)) r n → MayGive (λ j v. look_for s (row_env p j) ≡ Some (plain v)) r n
count_here r p s n d e h = may_map (λ j v. v ≡ whole_number (p.from + j)) (λ j v. look_for s (row_env p j) ≡ Some (plain v)) r n (λ j v q. past s p.row_name.0 (row_thing p j) (middle_env p j) d ∙ here s p.count_name.0 (plain (whole_number (p.from + j))) (outer_env p) e ∙ ap (λ u. Some (plain u)) (sym q)) h

pub outside_here : (r : Option Numbers) (p : Rows) (s n : ℕ) → p.row_name.0 ≢ s → p.count_name.0 ≢ s → p.own_name.0 ≢ s → MayGive (λ j v. look_for s (env_of p.frame.now) ≡ Some (plain v)) r n → MayGive (λ j v. look_for s (row_env p j) ≡ Some (plain v)) r n
outside_here r p s n d e f h = may_map (λ j v. look_for s (env_of p.frame.now) ≡ Some (plain v)) (λ j v. look_for s (row_env p j) ≡ Some (plain v)) r n (λ j v q. past s p.row_name.0 (row_thing p j) (middle_env p j) d ∙ past s p.count_name.0 (plain (whole_number (p.from + j))) (outer_env p) e ∙ past s p.own_name.0 (thing_of p.own.now) (env_of p.frame.now) f ∙ q) h

pub outside_given : (r : Option Numbers) (env : Env) (s n : ℕ) (w : Value) → look_for s env ≡ Some (plain w) → MayGive (λ j v. v ≡ w) r n → MayGive (λ j v. look_for s env ≡ Some (plain v)) r n
outside_given r env s n w e h = may_map (λ j v. v ≡ w) (λ j v. look_for s env ≡ Some (plain v)) r n (λ j v q. e ∙ ap (λ u. Some (plain u)) (sym q)) h

-- ---- a field of a name

pub field_here : (r : Option Numbers) (k : ℕ) (sc : Scope) (b : Sym) (c : Bor Bound) (p : Bor Scope) (s n : ℕ) → sc ≡ scopes.Let b c p → b.0 ≡ s
    → MayGive (λ j v. value_field k (bound_at c.now j) ≡ done v) r n → MayGive (λ j v. and_then (found (look_for s (scope_env sc j))) (field_of k) ≡ done (plain v)) r n
field_here r k sc b c p s n e same h = may_map (λ j v. value_field k (bound_at c.now j) ≡ done v) (λ j v. and_then (found (look_for s (scope_env sc j))) (field_of k) ≡ done (plain v)) r n
    (λ j v q. ap (λ o. and_then (found o) (field_of k)) (let_here sc b c p s j e same) ∙ ap (map_out plain) q) h

pub field_below : (r : Option Numbers) (k : ℕ) (sc : Scope) (b : Sym) (c : Bor Bound) (p : Bor Scope) (s n : ℕ) → sc ≡ scopes.Let b c p → b.0 ≢ s
    → MayGive (λ j v. and_then (found (look_for s (scope_env p.now j))) (field_of k) ≡ done (plain v)) r n → MayGive (λ j v. and_then (found (look_for s (scope_env sc j))) (field_of k) ≡ done (plain v)) r n
field_below r k sc b c p s n e other h = may_map (λ j v. and_then (found (look_for s (scope_env p.now j))) (field_of k) ≡ done (plain v)) (λ j v. and_then (found (look_for s (scope_env sc j))) (field_of k) ≡ done (plain v)) r n
    (λ j v q. ap (λ o. and_then (found o) (field_of k)) (let_past sc b c p s j e other) ∙ q) h

pub field_of_rows : (r : Option Numbers) (k : ℕ) (sc : Scope) (p : Bor Rows) (s n : ℕ) → sc ≡ scopes.Rows p → p.now.row_name.0 ≡ s
    → MayGive (λ j v. value_field k (row_in (lists_of p.now.legs.now) (p.now.from + j)) ≡ done v) r n → MayGive (λ j v. and_then (found (look_for s (scope_env sc j))) (field_of k) ≡ done (plain v)) r n
field_of_rows r k sc p s n e same h = may_map (λ j v. value_field k (row_in (lists_of p.now.legs.now) (p.now.from + j)) ≡ done v) (λ j v. and_then (found (look_for s (scope_env sc j))) (field_of k) ≡ done (plain v)) r n
    (λ j v q. ap (λ o. and_then (found o) (field_of k)) (ap (look_for s) (scope_rows sc p j e) ∙ here s p.now.row_name.0 (row_thing p.now j) (middle_env p.now j) same) ∙ ap (map_out plain) q) h

pub scope_row_here : (sc : Scope) (p : Bor Rows) (s j : ℕ) → sc ≡ scopes.Rows p → p.now.row_name.0 ≡ s → look_for s (scope_env sc j) ≡ Some (row_thing p.now j)
scope_row_here sc p s j e same = ap (look_for s) (scope_rows sc p j e) ∙ here s p.now.row_name.0 (row_thing p.now j) (middle_env p.now j) same
