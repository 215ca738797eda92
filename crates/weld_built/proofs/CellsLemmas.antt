-- Merges into cells, and joins of cells.
use Rattle.std.proofs.Common.{◌≡◌, ℤ, List, [], ◌∷◌, Result, Ok, Err, refl, ap, sym, ◌∙◌}
use Rattle.weld_data.specs.declared.kind.Kind.{Kind}
use Rattle.weld_data.specs.declared.kind.Kind.TheVariants as kinds
use Rattle.weld_data.specs.declared.op.MergeOp.{MergeOp}
use Rattle.weld_data.specs.declared.stop.Stop.{Stop}
use Rattle.weld_data.specs.declared.stop.Stop.TheVariants.{Fault, Memory}
use Rattle.weld_builders.specs.Outcome.{Outcome, done, fault, stuck, and_then, map_out}
use Rattle.weld_builders.specs.Part.{Part, cells_part, cells_shape, shape_of, start_part, merge_cell, after_part}
use Rattle.weld_builders.specs.Range.{IsInRange}
use Rattle.weld_builders.proofs.Joins.{bare_before, bare_behind}
use Rattle.weld_builders.proofs.Shapes.{shape_of-start_part}
use Rattle.weld_pieces.specs.Answer.{CellAnswer}
use Rattle.weld_pieces.specs.Many.{merged_cells, CellsAnswer}
use Rattle.weld_pieces.specs.declared.cells.CellsShape.{CellsShape}
use Rattle.weld_built.specs.CellsState.{part_of_cells_state}
use Rattle.weld_built.specs.Merges.{merge_all}
use Rattle.weld_built.specs.Pair.{number_pairs}
use Rattle.weld_built.specs.State.{MergeAnswer}
use Rattle.weld_built.specs.declared.cells.Cells.{Cells}
use Rattle.weld_built.specs.declared.cells.Cells.TheVariants as cells

pub cell_merged : {T : Type 0} (r : Result T Stop) (op new_op : MergeOp) (kind new_kind : Kind) (o : Outcome (List ℤ)) (old new : List ℤ) → CellAnswer r o old new → new_op ≡ op → new_kind ≡ kind
    → MergeAnswer r (map_out (cells_part op kind) o) (cells_part new_op new_kind new)
cell_merged (Ok t) op new_op kind new_kind o old new h p k = ap (map_out (cells_part op kind)) h ∙ (λ i. done (cells_part (sym p i) (sym k i) new))
cell_merged (Err Fault) op new_op kind new_kind o old new h p k = ap (map_out (cells_part op kind)) h.0
cell_merged (Err Memory) op new_op kind new_kind o old new h p k = tt

-- pairs of an index and a number, one after another
cells_all : (op : MergeOp) (kind : Kind) (xs : List ℤ) (es : List (ℤ × ℤ)) → merge_all (cells_part op kind xs) (number_pairs kinds.I64 kind es) ≡ map_out (cells_part op kind) (merged_cells op kind xs es)
cells_all op kind xs [] = refl
cells_all op kind xs (e ∷ es) = by (λ ys. cells_all op kind ys es) (merge_cell op kind xs e.0 e.1)
  where
    by : ((ys : List ℤ) → merge_all (cells_part op kind ys) (number_pairs kinds.I64 kind es) ≡ map_out (cells_part op kind) (merged_cells op kind ys es)) → (o : Outcome (List ℤ)) → and_then (map_out (cells_part op kind) o) (λ q. merge_all q (number_pairs kinds.I64 kind es)) ≡ map_out (cells_part op kind) (and_then o (λ ys. merged_cells op kind ys es))
    by rest (done ys) = rest ys
    by rest fault = refl
    by rest stuck = refl

pub cells_merged : {T : Type 0} (r : Result T Stop) (op new_op : MergeOp) (kind new_kind : Kind) (old new : List ℤ) (es : List (ℤ × ℤ)) → CellsAnswer r (merged_cells op kind old es) new → new_op ≡ op → new_kind ≡ kind
    → MergeAnswer r (merge_all (cells_part op kind old) (number_pairs kinds.I64 kind es)) (cells_part new_op new_kind new)
cells_merged (Ok t) op new_op kind new_kind old new es h p k =
    cells_all op kind old es ∙ ap (map_out (cells_part op kind)) h ∙ (λ i. done (cells_part (sym p i) (sym k i) new))
cells_merged (Err Fault) op new_op kind new_kind old new es h p k = cells_all op kind old es ∙ ap (map_out (cells_part op kind)) h
cells_merged (Err Memory) op new_op kind new_kind old new es h p k = tt

pub bare_shape : (c : Cells) (alloc : _) (s : CellsShape) → c ≡ cells.Bare alloc s → shape_of (part_of_cells_state c) ≡ cells_shape s.op s.kind s.count
bare_shape c alloc s e = ap (λ d. shape_of (part_of_cells_state d)) e ∙ shape_of-start_part (cells_shape s.op s.kind s.count)

bare_part : (c : Cells) (alloc : _) (s : CellsShape) → c ≡ cells.Bare alloc s → start_part (shape_of (part_of_cells_state c)) ≡ part_of_cells_state c
bare_part c alloc s e = ap start_part (bare_shape c alloc s e) ∙ sym (ap part_of_cells_state e)

-- cells that have nothing merged, after others and before others
pub bare_later : (p : Part) (c : Cells) (alloc : _) (s : CellsShape) → c ≡ cells.Bare alloc s → shape_of p ≡ shape_of (part_of_cells_state c) → IsInRange p → p ≡ after_part p (part_of_cells_state c)
bare_later p c alloc s is e h = sym (ap (after_part p) (sym (bare_part c alloc s is) ∙ ap start_part (sym e)) ∙ bare_behind p h)

pub bare_earlier : (p : Part) (c : Cells) (alloc : _) (s : CellsShape) → c ≡ cells.Bare alloc s → shape_of (part_of_cells_state c) ≡ shape_of p → IsInRange p → p ≡ after_part (part_of_cells_state c) p
bare_earlier p c alloc s is e h = sym (ap (λ q. after_part q p) (sym (bare_part c alloc s is) ∙ ap start_part e) ∙ bare_before p h)
