use Rattle.std.proofs.Common.{◌≡◌, ◌++◌, List, ℤ, length, map, take, drop, zip, sym, subst, arith}
use Rattle.weld_data.specs.Kind.{IsNarrow}
use Rattle.weld_pieces.specs.Total.{Cells}
use Rattle.weld_pieces.specs.Word.{word}
use Rattle.weld_pieces.specs.Many.{merged_cells, CellsAnswer}
use Rattle.weld_pieces.proofs.ManyLemmas.{words_kept, kept_words, words_answer, all_taken}
use Rattle.weld_pieces.proofs.cells.CellsPart.merge_numbers.Goals as goal

pub merge_cells-requires-clause-cells : goal.merge_cells-requires-clause-cells
merge_cells-requires-clause-cells c =
    let n : IsNarrow c.self.inside.kind = subst (λ (s : Cells). IsNarrow s.kind) (sym c.self.view_is) c.requires.narrow in
    words_kept c.self.inside.kind c.self.inside.cells.items c.deref_mut.result.now n c.deref_mut.ensures.value c.self.invariant.in_range

pub invariant_of-self : goal.invariant_of-self
invariant_of-self c =
    let n : IsNarrow c.self.inside.kind = subst (λ (s : Cells). IsNarrow s.kind) (sym c.self.view_is) c.requires.narrow in
    record {
      integer = c.self.invariant.integer;
      in_range = kept_words c.self.inside.kind _ c.merge_cells.new.cells n (all_taken c.self.inside.cells.len c.merge_cells.new.cells (drop (length c.merge_cells.new.cells) c.self.inside.cells.items) (omega (arith, c.merge_cells.auto.cells, c.deref_mut.ensures.len))) c.merge_cells.ensures.in_range;
    }

pub returns-clause-cells : goal.returns-clause-cells
returns-clause-cells c =
    let n : IsNarrow c.self.inside.kind = subst (λ (s : Cells). IsNarrow s.kind) (sym c.self.view_is) c.requires.narrow in
    let all : List ℤ = take c.self.inside.cells.len (c.merge_cells.new.cells ++ drop (length c.merge_cells.new.cells) c.self.inside.cells.items) in
    let es = zip c.args.indexes.now c.args.numbers.now in
    let same : all ≡ c.merge_cells.new.cells = all_taken c.self.inside.cells.len c.merge_cells.new.cells (drop (length c.merge_cells.new.cells) c.self.inside.cells.items) (omega (arith, c.merge_cells.auto.cells, c.deref_mut.ensures.len)) in
    subst (λ (s : Cells). CellsAnswer c.merge_cells.result (merged_cells s.op s.kind s.cells es) (map (word c.self.inside.kind) all)) c.self.view_is
    (words_answer c.merge_cells.result c.self.inside.op c.self.inside.kind c.deref_mut.result.now c.merge_cells.new.cells c.self.inside.cells.items all es n c.deref_mut.ensures.value same c.merge_cells.ensures.cells)
