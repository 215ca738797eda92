-- Values that stand in the rows of a block.
use Rattle.std.proofs.Common.{Bor, ◌≡◌, ◌≢◌, ◌∷◌, ℕ, ◌+◌, List, [], length, slice_get, Option, Some, None, sym, ap, ◌∙◌}
use Rattle.weld_data.specs.Value.{Value, list, dict, values, entries, list_of_values-values}
use Rattle.weld_tree.specs.declared.sym.Sym.{Sym}
use Rattle.weld_tree.specs.ExprTree.{ExprTree, At, leaf, one, two, name, field, len, look_up}
use Rattle.weld_builders.specs.Outcome.{done, and_then, map_out}
use Rattle.weld_meaning.specs.Environment.{look_for}
use Rattle.weld_meaning.specs.Thing.{plain, value_field}
use Rattle.weld_meaning.specs.Evaluation.{Env, eval, found, one_thing, two_thing, looked_up, whole_number}
use Rattle.weld_eval.specs.FrameView.{env_of}
use Rattle.weld_eval.specs.LegsView.{lists_of}
use Rattle.weld_eval.specs.RowLists.{row_in}
use Rattle.weld_blocks.specs.Outer.{IsEverywhere}
use Rattle.weld_blocks.specs.Lent.{HasLength, HasLooked, MayHaveLengths, MayHaveLooked}
use Rattle.weld_blocks.specs.Numbers.{number_at, MayGive, AreNumbersOf, MayBeNumbers}
use Rattle.weld_blocks.specs.Scope.{scope_env, row_env}
use Rattle.weld_blocks.specs.declared.numbers.Numbers.{Numbers}
use Rattle.weld_blocks.specs.declared.scope.Bound.{Bound}
use Rattle.weld_blocks.specs.declared.scope.Rows.{Rows}
use Rattle.weld_blocks.specs.declared.scope.Scope.{Scope}
use Rattle.weld_blocks.specs.declared.scope.Scope.TheVariants as scopes
use Rattle.weld_blocks.proofs.LeafLemmas.{may_map, let_past, scope_rows, here, single, row_thing, middle_env}
use Rattle.weld_blocks.proofs.OuterLemmas.{stands_past_rows}

-- ---- names and fields

pub name_lent : (a : At) (s : ℕ) (env : Env) (n : ExprTree) (v : Value) → n ≡ leaf a (name s) → look_for s env ≡ Some (plain v) → eval n env ≡ done (plain v)
name_lent a s env n v is h = ap (λ m. eval m env) is ∙ ap found h

pub field_lent : (a : At) (k : ℕ) (e : ExprTree) (env : Env) (n : ExprTree) (v w : Value) → n ≡ one a (field k) e → eval e env ≡ done (plain v) → value_field k v ≡ done w → eval n env ≡ done (plain w)
field_lent a k e env n v w is h q = ap (λ m. eval m env) is ∙ ap (λ o. and_then o (one_thing (field k))) h ∙ ap (map_out plain) q

pub let_lent : (sc : Scope) (b : Sym) (c : Bor Bound) (p : Bor Scope) (s j : ℕ) (v : Value) → sc ≡ scopes.Let b c p → b.0 ≢ s → look_for s (scope_env p.now j) ≡ Some (plain v) → look_for s (scope_env sc j) ≡ Some (plain v)
let_lent sc b c p s j v e other h = let_past sc b c p s j e other ∙ h

pub rows_lent : (sc : Scope) (p : Bor Rows) (s j : ℕ) (v : Value) → sc ≡ scopes.Rows p → look_for s (row_env p.now j) ≡ Some (plain v) → look_for s (scope_env sc j) ≡ Some (plain v)
rows_lent sc p s j v e h = ap (look_for s) (scope_rows sc p j e) ∙ h

pub row_lent : (p : Rows) (s j : ℕ) (v : Value) → p.row_name.0 ≡ s → row_in (lists_of p.legs.now) (p.from + j) ≡ v → look_for s (row_env p j) ≡ Some (plain v)
row_lent p s j v e h = here s p.row_name.0 (row_thing p j) (middle_env p j) e ∙ ap (λ u. Some (plain u)) h

pub outside_lent : (p : Rows) (s j : ℕ) (v : Value) → p.row_name.0 ≢ s → p.count_name.0 ≢ s → p.own_name.0 ≢ s → look_for s (env_of p.frame.now) ≡ Some (plain v) → look_for s (row_env p j) ≡ Some (plain v)
outside_lent p s j v d e f q = stands_past_rows p s v d e f q j

pub one_row : (ls : List (List Value)) (l : List Value) (i : ℕ) (v : Value) → ls ≡ l ∷ [] → slice_get l i ≡ Some v → row_in ls i ≡ v
one_row ls l i v e q = single ls l i v e q

-- ---- lengths and elements

pub length_outside : (r : Option Numbers) (e : ExprTree) (envs : ℕ → Env) (u : Value) (vs : List Value) (count : ℕ) → IsEverywhere e envs u → u ≡ list (values vs) → MayGive (λ j v. v ≡ whole_number (length vs)) r count → MayHaveLengths e envs r count
length_outside r e envs u vs count h same k = may_map (λ j v. v ≡ whole_number (length vs)) (λ j v. HasLength e (envs j) v) r count (λ j v q. (vs, h j ∙ ap (λ w. done (plain w)) same, q)) k

pub lengths_lent : (r : Option Numbers) (a : At) (e : ExprTree) (envs : ℕ → Env) (n : ExprTree) (count : ℕ) → n ≡ one a len e → MayHaveLengths e envs r count → MayBeNumbers n envs r count
lengths_lent r a e envs n count is h = may_map (λ j v. HasLength e (envs j) v) (λ j v. eval n (envs j) ≡ done (plain v)) r count
    (λ j v q.
    ap (λ m. eval m (envs j)) is ∙ ap (λ o. and_then o (one_thing len)) q.1
    ∙ ap (λ (l : List Value). done (plain (whole_number (length l)))) (list_of_values-values q.0) ∙ ap (λ w. done (plain w)) (sym q.2)) h

pub looked_lent : (e : ExprTree) (env : Env) (u : Value) (vs : List Value) (place v : Value) → eval e env ≡ done (plain u) → u ≡ list (values vs) → looked_up (list (values vs)) place ≡ done v → HasLooked e env place v
looked_lent e env u vs place v h same q = (u, h, ap (λ w. looked_up w place) same ∙ q)

-- of a vector or a dictionary that stands outside
looked_outside : (r : Option Numbers) (e : ExprTree) (envs : ℕ → Env) (u w : Value) (d : Numbers) (count : ℕ) → IsEverywhere e envs u → u ≡ w → MayGive (λ j v. looked_up w (number_at d j) ≡ done v) r count
    → MayHaveLooked e envs d r count
looked_outside r e envs u w d count h same k = may_map (λ j v. looked_up w (number_at d j) ≡ done v) (λ j v. HasLooked e (envs j) (number_at d j) v) r count
    (λ j v q. (u, h j, ap (λ x. looked_up x (number_at d j)) same ∙ q)) k

pub looked_in_list : (r : Option Numbers) (e : ExprTree) (envs : ℕ → Env) (u : Value) (vs : List Value) (d : Numbers) (count : ℕ) → IsEverywhere e envs u → u ≡ list (values vs) → MayGive (λ j v. looked_up (list (values vs)) (number_at d j) ≡ done v) r count
    → MayHaveLooked e envs d r count
looked_in_list r e envs u vs d count h same k = looked_outside r e envs u (list (values vs)) d count h same k

pub looked_in_dict : (r : Option Numbers) (e : ExprTree) (envs : ℕ → Env) (u : Value) (es : List (Value × Value)) (d : Numbers) (count : ℕ) → IsEverywhere e envs u → u ≡ dict (entries es) → MayGive (λ j v. looked_up (dict (entries es)) (number_at d j) ≡ done v) r count
    → MayHaveLooked e envs d r count
looked_in_dict r e envs u es d count h same k = looked_outside r e envs u (dict (entries es)) d count h same k

pub looked_numbers : (r : Option Numbers) (a : At) (e f : ExprTree) (envs : ℕ → Env) (n : ExprTree) (d : Numbers) (count : ℕ) → n ≡ two a look_up e f → AreNumbersOf f envs d count → MayHaveLooked e envs d r count → MayBeNumbers n envs r count
looked_numbers None a e f envs n d count is q h = tt
looked_numbers (Some x) a e f envs n d count is q h = record {
  long = h.long;
  each = λ j less.
      let k = h.each j less in
      ap (λ m. eval m (envs j)) is ∙ ap (λ o. and_then o (λ t. two_thing look_up t (eval f (envs j)))) k.1
      ∙ ap (two_thing look_up (plain k.0)) (q.each j less) ∙ ap (map_out plain) k.2;
}
