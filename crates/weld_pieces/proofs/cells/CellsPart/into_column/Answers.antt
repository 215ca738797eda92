use Rattle.std.proofs.Common.{◌≡◌, map, rules, subst}
use Rattle.weld_data.specs.declared.kind.Kind.TheVariants as kinds
use Rattle.weld_data.specs.Value.{number}
use Rattle.weld_pieces.specs.Total.{Cells}
use Rattle.weld_pieces.proofs.CellLemmas.{words_of_i64}
use Rattle.weld_pieces.proofs.cells.CellsPart.into_column.Goals as goal

pub returns-then-eq : goal.returns-then-eq
returns-then-eq c =
    let wide : c.self.inside.kind ≡ kinds.I64 = search rules in
    subst (λ (s : Cells). map (number kinds.I64) c.from_vec.result ≡ map (number s.kind) s.cells) c.self.view_is
    (words_of_i64 c.self.inside.kind c.self.inside.cells.items c.from_vec.result wide c.from_vec.ensures)
