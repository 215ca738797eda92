-- Structs of numbers that a name stands for, field by field.
use Rattle.std.proofs.Common.{◌≡◌, ◌≢◌, ℕ, ◌+◌, ◌<◌, false, List, [], ◌∷◌, ◌++◌, map, slice_get, Option, Some, None, option_to_list, Bor, Vec, Global, refl, sym, ap, subst, ◌∙◌}
use Rattle.std.proofs.lemmas.List.{append-nil, append_assoc}
use Rattle.weld_data.specs.View.{view_column}
use Rattle.weld_data.specs.declared.value.Column.{Column}
use Rattle.weld_data.specs.Value.{Value, struct, values}
use Rattle.weld_tree.specs.ExprTree.{ExprTree}
use Rattle.weld_tree.specs.declared.sym.Sym.{Sym}
use Rattle.weld_builders.specs.Outcome.{done}
use Rattle.weld_meaning.specs.Environment.{look_for}
use Rattle.weld_meaning.specs.Thing.{plain}
use Rattle.weld_meaning.specs.Evaluation.{Env, eval, found}
use Rattle.weld_eval.specs.LegsView.{lists_of}
use Rattle.weld_eval.specs.RowLists.{row_in, elements_at, is_one}
use Rattle.weld_eval.specs.declared.legs.Legs.{Legs}
use Rattle.weld_eval.specs.declared.legs.Legs.TheVariants.{And, End}
use Rattle.weld_eval.proofs.LegLists.{lists_and, lists_end}
use Rattle.weld_blocks.specs.Numbers.{number_at, AreGiven, IsName}
use Rattle.weld_blocks.specs.Scope.{bound_at, struct_at, scope_env}
use Rattle.weld_blocks.specs.Structs.{AreStructs}
use Rattle.weld_blocks.specs.declared.numbers.Numbers.{Numbers}
use Rattle.weld_blocks.specs.declared.scope.Bound.{Bound}
use Rattle.weld_blocks.specs.declared.scope.Bound.TheVariants as bounds
use Rattle.weld_blocks.specs.declared.scope.Rows.{Rows}
use Rattle.weld_blocks.specs.declared.scope.Scope.{Scope}
use Rattle.weld_blocks.specs.declared.scope.Scope.TheVariants as scopes
use Rattle.weld_blocks.proofs.LeafLemmas.{let_here, let_past, scope_row_here}
use Rattle.weld_blocks.proofs.ColumnLemmas.{eval_name}
use Rattle.weld_deeds.specs.Named.{HaveGrown, MayBeStructs}

may_map : (P Q : ℕ → Value → Type 0) (r : Option (Vec Numbers Global)) (n : ℕ) → ((j : ℕ) (v : Value) → P j v → Q j v) → MayBeStructs P r n → MayBeStructs Q r n
may_map P Q (Some cs) n f h = record { long = h.long; each = λ j less. f j (struct_at cs.items j) (h.each j less) }
may_map P Q None n f h = tt

pub structs_here : (r : Option (Vec Numbers Global)) (sc : Scope) (b : Sym) (c : Bor Bound) (p : Bor Scope) (s n : ℕ) → sc ≡ scopes.Let b c p → b.0 ≡ s
    → MayBeStructs (λ j v. bound_at c.now j ≡ v) r n → MayBeStructs (λ j v. look_for s (scope_env sc j) ≡ Some (plain v)) r n
structs_here r sc b c p s n e same h = may_map (λ j v. bound_at c.now j ≡ v) (λ j v. look_for s (scope_env sc j) ≡ Some (plain v)) r n
    (λ j v q. let_here sc b c p s j e same ∙ ap (λ u. Some (plain u)) q) h

pub structs_below : (r : Option (Vec Numbers Global)) (sc : Scope) (b : Sym) (c : Bor Bound) (p : Bor Scope) (s n : ℕ) → sc ≡ scopes.Let b c p → b.0 ≢ s
    → MayBeStructs (λ j v. look_for s (scope_env p.now j) ≡ Some (plain v)) r n → MayBeStructs (λ j v. look_for s (scope_env sc j) ≡ Some (plain v)) r n
structs_below r sc b c p s n e other h = may_map (λ j v. look_for s (scope_env p.now j) ≡ Some (plain v)) (λ j v. look_for s (scope_env sc j) ≡ Some (plain v)) r n
    (λ j v q. let_past sc b c p s j e other ∙ q) h

pub structs_of_rows : (r : Option (Vec Numbers Global)) (sc : Scope) (p : Bor Rows) (s n : ℕ) → sc ≡ scopes.Rows p → p.now.row_name.0 ≡ s
    → MayBeStructs (λ j v. row_in (lists_of p.now.legs.now) (p.now.from + j) ≡ v) r n → MayBeStructs (λ j v. look_for s (scope_env sc j) ≡ Some (plain v)) r n
structs_of_rows r sc p s n e same h = may_map (λ j v. row_in (lists_of p.now.legs.now) (p.now.from + j) ≡ v) (λ j v. look_for s (scope_env sc j) ≡ Some (plain v)) r n
    (λ j v q. scope_row_here sc p s j e same ∙ ap (λ u. Some (plain u)) q) h

-- ---- fields that come to others

pub grown_none : (cs ds : List Numbers) (n : ℕ) → ds ≡ [] → HaveGrown cs cs n (λ j. map (λ c. number_at c j) ds)
grown_none cs ds n e = record { added = []; is = sym (append-nil cs); long = tt; each = λ j less. sym (ap (map (λ c. number_at c j)) e) }

pub grown_copy : (old mid new ds rest : List Numbers) (c d : Numbers) (n : ℕ) → ds ≡ c ∷ rest → AreGiven (λ j v. v ≡ number_at c j) d n → mid ≡ old ++ d ∷ [] → HaveGrown mid new n (λ j. map (λ x. number_at x j) rest)
    → HaveGrown old new n (λ j. map (λ x. number_at x j) ds)
grown_copy old mid new ds rest c d n e g m h = record {
  added = d ∷ h.added;
  is = h.is ∙ ap (λ cs. cs ++ h.added) m ∙ append_assoc old (d ∷ []) h.added;
  long = (g.long, h.long);
  each = λ j less. ap (λ v. v ∷ map (λ x. number_at x j) h.added) (g.each j less) ∙ ap (λ vs. number_at c j ∷ vs) (h.each j less) ∙ sym (ap (map (λ x. number_at x j)) e);
}

pub grown_end : (cs : List Numbers) (legs : Legs) (from n : ℕ) → legs ≡ End → HaveGrown cs cs n (λ j. elements_at (from + j) (lists_of legs))
grown_end cs legs from n e = record { added = []; is = sym (append-nil cs); long = tt; each = λ j less. sym (ap (elements_at (from + j)) (lists_end legs e)) }

pub grown_leg : (old mid new : List Numbers) (legs : Legs) (c : Bor Column) (p : Bor Legs) (d : Numbers) (from n : ℕ) → legs ≡ And c p → AreGiven (λ j v. slice_get (view_column c.now) (from + j) ≡ Some v) d n → mid ≡ old ++ d ∷ []
    → HaveGrown mid new n (λ j. elements_at (from + j) (lists_of p.now)) → HaveGrown old new n (λ j. elements_at (from + j) (lists_of legs))
grown_leg old mid new legs c p d from n e g m h = record {
  added = d ∷ h.added;
  is = h.is ∙ ap (λ cs. cs ++ h.added) m ∙ append_assoc old (d ∷ []) h.added;
  long = (g.long, h.long);
  each = λ j less.
      ap (λ vs. number_at d j ∷ vs) (h.each j less)
      ∙ sym (ap (λ o. option_to_list o ++ elements_at (from + j) (lists_of p.now)) (g.each j less))
      ∙ sym (ap (elements_at (from + j)) (lists_and legs c p e));
}

-- ---- the structs

structs_grown : (P : ℕ → Value → Type 0) (old new : List Numbers) (n : ℕ) (more : ℕ → List Value) → old ≡ [] → HaveGrown old new n more → ((j : ℕ) → j < n → P j (struct (values (more j)))) → AreStructs P new n
structs_grown P old new n more e h f =
    let is : new ≡ h.added = h.is ∙ ap (λ cs. cs ++ h.added) e in
    subst (λ cs. AreStructs P cs n) (sym is) (record { long = h.long; each = λ j less. subst (P j) (sym (ap (λ vs. struct (values vs)) (h.each j less))) (f j less) })

pub bound_given : (b : Bound) (cs : Vec Numbers Global) (ds old new : List Numbers) (n : ℕ) → b ≡ bounds.Fields cs → ds ≡ cs.items → old ≡ [] → HaveGrown old new n (λ j. map (λ c. number_at c j) ds)
    → AreStructs (λ j v. bound_at b j ≡ v) new n
bound_given b cs ds old new n is same e h =
    structs_grown (λ j v. bound_at b j ≡ v) old new n (λ j. map (λ c. number_at c j) ds) e h
    (λ j less. ap (λ (u : Bound). bound_at u j) is ∙ ap (λ xs. struct_at xs j) (sym same))

several_row : (ls : List (List Value)) (i : ℕ) → false ≡ is_one ls → row_in ls i ≡ struct (values (elements_at i ls))
several_row [] i o = refl
several_row (l ∷ []) i o = let nothing : ⊥ = cc in absurd nothing
several_row (l ∷ m ∷ ls) i o = refl

pub rows_given : (legs : Legs) (c d : Bor Column) (p q : Bor Legs) (old new : List Numbers) (from n : ℕ) → legs ≡ And c p → p.now ≡ And d q → old ≡ [] → HaveGrown old new n (λ j. elements_at (from + j) (lists_of legs))
    → AreStructs (λ j v. row_in (lists_of legs) (from + j) ≡ v) new n
rows_given legs c d p q old new from n e f none h =
    let many : false ≡ is_one (lists_of legs) = sym (ap is_one (lists_and legs c p e ∙ ap (λ (ls : List (List Value)). view_column c.now ∷ ls) (lists_and p.now d q f))) in
    structs_grown (λ j v. row_in (lists_of legs) (from + j) ≡ v) old new n (λ j. elements_at (from + j) (lists_of legs)) none h (λ j less. several_row (lists_of legs) (from + j) many)

-- what the name is, the expression is
pub named_item : (r : Option (Vec Numbers Global)) (e : ExprTree) (s : ℕ) (envs : ℕ → Env) (n : ℕ) → IsName e s → MayBeStructs (λ j v. look_for s (envs j) ≡ Some (plain v)) r n → MayBeStructs (λ j v. eval e (envs j) ≡ done (plain v)) r n
named_item r e s envs n is h = may_map (λ j v. look_for s (envs j) ≡ Some (plain v)) (λ j v. eval e (envs j) ≡ done (plain v)) r n (λ j v q. eval_name e s (envs j) is ∙ ap found q) h
