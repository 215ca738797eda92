-- Values outside of a loop's rows.
use Rattle.std.proofs.Common.{Bor, ◌≡◌, ◌≢◌, ◌∷◌, ℕ, zero, suc, ◌+◌, ℤ, pos, List, [], Option, Some, sym, ap, ◌∙◌}
use Rattle.std.specs.Prelude.{slice_get}
use Rattle.weld_data.specs.declared.kind.Kind.{Kind}
use Rattle.weld_data.specs.declared.kind.Kind.TheVariants as kinds
use Rattle.weld_data.specs.Value.{Value, number, list, struct, values, list_of_values-values}
use Rattle.weld_tree.specs.declared.sym.Sym.{Sym}
use Rattle.weld_tree.specs.ExprTree.{ExprTree, At, leaf, one, name, field}
use Rattle.weld_builders.specs.Outcome.{done, and_then, map_out, or_fault}
use Rattle.weld_meaning.specs.Environment.{look_for}
use Rattle.weld_meaning.specs.Thing.{plain, value_field}
use Rattle.weld_meaning.specs.Evaluation.{Env, eval, found, one_thing, element_at, looked_up, whole_number}
use Rattle.weld_eval.specs.FrameView.{env_of}
use Rattle.weld_eval.specs.ThingView.{thing_of}
use Rattle.weld_eval.specs.Word.{of_word}
use Rattle.weld_blocks.specs.Numbers.{MayGive, MayBeNumbers}
use Rattle.weld_blocks.specs.Outer.{IsEverywhere, StandsEverywhere}
use Rattle.weld_blocks.specs.Scope.{scope_env, row_env}
use Rattle.weld_blocks.specs.declared.numbers.Numbers.{Numbers}
use Rattle.weld_blocks.specs.declared.scope.Bound.{Bound}
use Rattle.weld_blocks.specs.declared.scope.Rows.{Rows}
use Rattle.weld_blocks.specs.declared.scope.Scope.{Scope}
use Rattle.weld_blocks.specs.declared.scope.Scope.TheVariants as scopes
use Rattle.weld_blocks.proofs.LeafLemmas.{may_map, past, let_past, scope_rows, row_thing, middle_env, outer_env}

-- ---- names and fields

pub name_everywhere : (a : At) (s : ℕ) (envs : ℕ → Env) (n : ExprTree) (v : Value) → n ≡ leaf a (name s) → StandsEverywhere s envs v → IsEverywhere n envs v
name_everywhere a s envs n v is h j = ap (λ m. eval m (envs j)) is ∙ ap found (h j)

pub field_everywhere : (a : At) (k : ℕ) (e : ExprTree) (envs : ℕ → Env) (n : ExprTree) (v w : Value) → n ≡ one a (field k) e → IsEverywhere e envs v → value_field k v ≡ done w → IsEverywhere n envs w
field_everywhere a k e envs n v w is h q j = ap (λ m. eval m (envs j)) is ∙ ap (λ o. and_then o (one_thing (field k))) (h j) ∙ ap (map_out plain) q

pub stands_below : (sc : Scope) (b : Sym) (c : Bor Bound) (p : Bor Scope) (s : ℕ) (v : Value) → sc ≡ scopes.Let b c p → b.0 ≢ s → StandsEverywhere s (scope_env p.now) v → StandsEverywhere s (scope_env sc) v
stands_below sc b c p s v e other h j = let_past sc b c p s j e other ∙ h j

pub stands_outside : (sc : Scope) (p : Bor Rows) (s : ℕ) (v : Value) → sc ≡ scopes.Rows p → StandsEverywhere s (row_env p.now) v → StandsEverywhere s (scope_env sc) v
stands_outside sc p s v e h j = ap (look_for s) (scope_rows sc p j e) ∙ h j

pub stands_past_rows : (p : Rows) (s : ℕ) (v : Value) → p.row_name.0 ≢ s → p.count_name.0 ≢ s → p.own_name.0 ≢ s → look_for s (env_of p.frame.now) ≡ Some (plain v) → StandsEverywhere s (row_env p) v
stands_past_rows p s v d e f q j =
    past s p.row_name.0 (row_thing p j) (middle_env p j) d ∙ past s p.count_name.0 (plain (whole_number (p.from + j))) (outer_env p) e ∙ past s p.own_name.0 (thing_of p.own.now) (env_of p.frame.now) f ∙ q

field_at : (vs : List Value) (k : ℕ) (w : Value) → slice_get vs k ≡ Some w → value_field k (struct (values vs)) ≡ done w
field_at [] k w q = let no : ⊥ = cc in absurd no
field_at (v ∷ vs) zero w q = let same : v ≡ w = cc in ap done same
field_at (v ∷ vs) (suc k) w q = field_at vs k w q

pub field_of_struct : (vs : List Value) (u : Value) (k : ℕ) (w : Value) → u ≡ struct (values vs) → slice_get vs k ≡ Some w → value_field k u ≡ done w
field_of_struct vs u k w is q = ap (value_field k) is ∙ field_at vs k w q

pub same_everywhere : (r : Option Numbers) (u w : Value) (count : ℕ) → u ≡ w → MayGive (λ j v. v ≡ w) r count → MayGive (λ j v. v ≡ u) r count
same_everywhere r u w count same k = may_map (λ j v. v ≡ w) (λ j v. v ≡ u) r count (λ j v q. q ∙ sym same) k

pub everywhere_numbers : (r : Option Numbers) (e : ExprTree) (envs : ℕ → Env) (u : Value) (count : ℕ) → IsEverywhere e envs u → MayGive (λ j v. v ≡ u) r count → MayBeNumbers e envs r count
everywhere_numbers r e envs u count h k = may_map (λ j v. v ≡ u) (λ j v. eval e (envs j) ≡ done (plain v)) r count (λ j v q. h j ∙ ap (λ x. done (plain x)) (sym q)) k

-- ---- elements

pub element_looked_up : (vs : List Value) (k : Kind) (x : ℤ) (i : ℕ) (w : Value) → k ≡ kinds.I64 → x ≡ pos i → slice_get vs i ≡ Some w → looked_up (list (values vs)) (number k (of_word k x)) ≡ done w
element_looked_up vs k x i w is same q =
    ap (λ (m : Kind). looked_up (list (values vs)) (number m (of_word m x))) is
    ∙ ap (λ (y : ℤ). looked_up (list (values vs)) (number kinds.I64 y)) same
    ∙ ap (λ (l : List Value). element_at l (pos i)) (list_of_values-values vs) ∙ ap or_fault q
