-- What a loop that makes a list makes: what each row gives, in order.
use Rattle.std.proofs.Common.{◌≡◌, ◌≢◌, ℕ, true, List, [], ◌∷◌, ◌++◌, Some, refl, ap, ◌∙◌, eq-eqb, ne_eqb}
use Rattle.weld_data.specs.Value.{Value}
use Rattle.weld_tree.specs.declared.binder.Binder.{Binder}
use Rattle.weld_tree.specs.TypeTree.{TypeTree, list}
use Rattle.weld_tree.specs.ExprTree.{At, ExprTree, leaf, one, loop, whole, LegTrees, fresh, finish}
use Rattle.weld_builders.specs.Outcome.{Outcome, done, fault, stuck, and_then, map_out}
use Rattle.weld_builders.specs.Part.{list_part}
use Rattle.weld_meaning.specs.Environment.{look_for}
use Rattle.weld_meaning.specs.Thing.{Thing, plain, building}
use Rattle.weld_meaning.specs.Evaluation.{Env, Row, whole_number, with_row, rows_of, number_from, run, eval, eval_leg, eval_legs}
use Rattle.weld_meaning.specs.Names.{Binds}
use Rattle.weld_meaning.proofs.Names.{agree_bind}
use Rattle.weld_substitution.specs.Uses.{uses}
use Rattle.weld_vertical.specs.Sinking.{ends_in_merge}
use Rattle.weld_vertical_zip.proofs.Merging.{row_value, row_appends, row_value_free, run_collects, elements_collected}
use Rattle.weld_vertical_zip.proofs.Gathering.{gather, collect_gathers}

module _ (m p o : At) (item : TypeTree) (ks : LegTrees) (d i r : Binder) (g : ExprTree) (ends : ends_in_merge d.sym.0 g ≡ true) (once : uses g d.sym.0 ≡ 1) (number_other : d.sym.0 ≢ i.sym.0) (row_other : d.sym.0 ≢ r.sym.0) (apart : Binds (λ z. d.sym.0 ≢ z) g) (env : Env) where
  -- the names in the body on a row, before anything is merged
  abbrev pub at_row : ℕ → Value → Env
  at_row n v = with_row d i r (building (list_part [])) (plain (whole_number n)) (plain v) env

  abbrev gives : Row → Outcome Value
  gives y = row_value g (at_row y.0 y.1)

  abbrev produces : Row → Thing → Outcome Thing
  produces y s = eval g (with_row d i r s (plain (whole_number y.0)) (plain y.1) env)

  builder_there : (s : Thing) (y : Row) → look_for d.sym.0 (with_row d i r s (plain (whole_number y.0)) (plain y.1) env) ≡ Some s
  builder_there s y = rw (ne_eqb d.sym.0 r.sym.0 row_other) (rw (ne_eqb d.sym.0 i.sym.0 number_other) (rw (eq-eqb d.sym.0 d.sym.0 refl) refl))

  -- the row's value doesn't go by what was merged before
  gives_free : (y : Row) (s : Thing) → row_value g (with_row d i r s (plain (whole_number y.0)) (plain y.1) env) ≡ gives y
  gives_free y s =
      row_value_free d.sym.0 g ends once apart _ _
      (agree_bind (λ u. u ≢ d.sym.0) (λ u. u ≢ d.sym.0) r.sym.0 (plain y.1) _ _ (λ u c ne. c)
      (agree_bind (λ u. u ≢ d.sym.0) (λ u. u ≢ d.sym.0) i.sym.0 (plain (whole_number y.0)) _ _ (λ u c ne. c)
      (record { agree = λ u ne. rw (ne_eqb u d.sym.0 ne) refl })))

  appends : (y : Row) (vs : List Value) → produces y (building (list_part vs)) ≡ map_out (λ v. building (list_part (vs ++ v ∷ []))) (gives y)
  appends y vs =
      row_appends d.sym.0 g ends once apart _ vs (builder_there (building (list_part vs)) y)
      ∙ ap (map_out (λ v. building (list_part (vs ++ v ∷ [])))) (gives_free y (building (list_part vs)))

  pub leg_gathers : eval_leg (whole (one m finish (loop p ks (leaf o (fresh (list item))) d i r g))) env ≡ and_then (eval_legs ks env) (λ l. and_then (rows_of l) (gather (λ n v. row_value g (at_row n v)) 0))
  leg_gathers =
      elements_collected (eval_legs ks env) rows_of (λ vs. run (number_from 0 vs) (building (list_part [])) produces) gives
      (λ vs. run_collects gives produces appends (number_from 0 vs) [])
      ∙ (λ j. and_then (eval_legs ks env) (λ l. and_then (rows_of l) (λ vs. collect_gathers gives 0 vs j)))

-- bodies that append the same give the same
pub same_gives : (o p : Outcome Value) → map_out (λ v. building (list_part ([] ++ v ∷ []))) o ≡ map_out (λ v. building (list_part ([] ++ v ∷ []))) p → o ≡ p
same_gives (done v) (done w) e = let same : v ≡ w = cc in ap done same
same_gives (done v) fault e = let nothing : ⊥ = cc in absurd nothing
same_gives (done v) stuck e = let nothing : ⊥ = cc in absurd nothing
same_gives fault (done w) e = let nothing : ⊥ = cc in absurd nothing
same_gives fault fault e = refl
same_gives fault stuck e = let nothing : ⊥ = cc in absurd nothing
same_gives stuck (done w) e = let nothing : ⊥ = cc in absurd nothing
same_gives stuck fault e = let nothing : ⊥ = cc in absurd nothing
same_gives stuck stuck e = refl
