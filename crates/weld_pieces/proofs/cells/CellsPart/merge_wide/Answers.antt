use Rattle.std.proofs.Common.{◌≡◌, ◌<◌, length, map, slice_set, sym, subst, refl, ◌∙◌, rules, w64}
use Rattle.std.proofs.lemmas.Int.{to_z-of_z}
use Rattle.std.proofs.lemmas.List.{length-map}
use Rattle.weld_data.specs.Kind.{InRange}
use Rattle.weld_builders.specs.Outcome.{done, fault}
use Rattle.weld_builders.specs.Part.{merge_cell}
use Rattle.weld_pieces.specs.Answer.{IsOutside}
use Rattle.weld_pieces.specs.Total.{Cells}
use Rattle.weld_pieces.specs.Word.{word}
use Rattle.weld_pieces.proofs.CellLemmas.{outside_faults, cell_merges, old_in_range, words_in_range_set, bits}
use Rattle.weld_pieces.proofs.cells.CellsPart.merge_wide.Goals as goal

pub combine_words-requires-clause-left : goal.combine_words-requires-clause-left
combine_words-requires-clause-left c =
    let l : c.in-Some.place < length c.self.inside.cells.items = search rules in
    old_in_range c.self.inside.kind c.self.inside.cells.items c.index-old.result.now c.in-Some.place l c.index-old.ensures c.self.invariant.in_range

pub invariant_of-self : goal.invariant_of-self
invariant_of-self c = record {
  integer = c.self.invariant.integer;
  in_range = words_in_range_set c.self.inside.kind c.self.inside.cells.items c.in-Some.place c.combine_words.result c.self.invariant.in_range c.combine_words.ensures.in_range;
}

pub returns-in-None-clause-cells : goal.returns-in-None-clause-cells
returns-in-None-clause-cells c =
    let same = to_z-of_z w64 c.args.index c.ranges.index in
    let numbers = map (word c.self.inside.kind) c.self.inside.cells.items in
    let n : c.len.result ≡ length c.self.inside.cells.items = search rules in
    let m : c.len.result ≡ length numbers = n ∙ sym (length-map c.self.inside.cells.items (word c.self.inside.kind)) in
    let o : IsOutside c.args.index (length numbers) = subst (IsOutside c.args.index) m (subst (λ i. IsOutside i c.len.result) same c.in-None.ensures) in (
      subst (λ (s : Cells). merge_cell s.op s.kind s.cells c.args.index c.args.x ≡ fault) c.self.view_is
          (outside_faults c.self.inside.op c.self.inside.kind numbers c.args.index c.args.x o),
      refl,
    )

pub returns-in-Some-clause-cells : goal.returns-in-Some-clause-cells
returns-in-Some-clause-cells c =
    let l : c.in-Some.place < length c.self.inside.cells.items = search rules in
    let same = to_z-of_z w64 c.args.index c.ranges.index in
    let y : InRange c.self.inside.kind c.args.x = search rules in
    let v : word c.self.inside.kind c.to_word.result ≡ c.args.x = search rules in
    subst (λ (s : Cells). merge_cell s.op s.kind s.cells c.args.index c.args.x ≡ done (map (word c.self.inside.kind) (slice_set c.self.inside.cells.items c.in-Some.place (bits c.combine_words.result)))) c.self.view_is
    (cell_merges c.self.inside.op c.self.inside.kind c.self.inside.cells.items c.args.index c.index-old.result.now c.to_word.result c.args.x c.combine_words.result c.in-Some.place
    (sym same ∙ c.in-Some.ensures.0) l c.index-old.ensures c.self.invariant.in_range v y c.combine_words.ensures.value c.combine_words.ensures.in_range)
