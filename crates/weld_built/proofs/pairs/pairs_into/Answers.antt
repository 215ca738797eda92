use Rattle.std.proofs.Common.{◌≡◌, ◌∙◌, List, ◌∷◌, [], length, zip, ap, subst, refl}
use Rattle.weld_data.specs.Structs.{structs_in}
use Rattle.weld_data.specs.declared.kind.Kind.{Kind}
use Rattle.weld_builders.specs.Part.{kinds_of}
use Rattle.weld_built.specs.Merges.{TakesPairs}
use Rattle.weld_built.specs.State.{part_of_state}
use Rattle.weld_built.specs.declared.built.State.{State}
use Rattle.weld_built.proofs.ManyLemmas.{totals_rows}
use Rattle.weld_built.proofs.PairLemmas.{keyed_pairs}
use Rattle.weld_built.proofs.RowLemmas.{pairs_are, pairs_kept}
use Rattle.weld_built.proofs.pairs.pairs_into.Goals as goal

pub returns-in-Ok-clause-answer : goal.returns-in-Ok-clause-answer
returns-in-Ok-clause-answer c =
    keyed_pairs c.args.state.now c.in-Keyed.alloc c.in-Keyed.part c.merge_numbers.new.part c.args.key_kind c.args.kind (zip c.args.keys.now c.args.numbers.now)
    c.in-Keyed.is c.requires.items c.merge_numbers.ensures.op c.merge_numbers.ensures.kind c.in-Ok.ensures.ok

pub merge_rows-requires : goal.merge_rows-requires
merge_rows-requires c =
    let kinds : kinds_of c.in-Totals.totals.totals ≡ c.args.key_kind ∷ c.args.kind ∷ [] = subst (λ (s : State). TakesPairs (part_of_state s) c.args.key_kind c.args.kind) c.in-Totals.is c.requires.items in
    (pairs_kept c.args.key_kind c.args.kind (kinds_of c.in-Totals.totals.totals) c.args.keys.now c.args.numbers.now c.deref.result.now c.requires.narrow_key c.requires.narrow c.requires.keys c.requires.numbers c.requires.count kinds (c.deref.ensures.value ∙ c.in-Ok-side_by_side.ensures)).structs

pub returns-in-Ok-side_by_side-clause-answer : goal.returns-in-Ok-side_by_side-clause-answer
returns-in-Ok-side_by_side-clause-answer c =
    let ks : List Kind = c.args.key_kind ∷ c.args.kind ∷ [] in
    let kinds : kinds_of c.in-Totals.totals.totals ≡ ks = subst (λ (s : State). TakesPairs (part_of_state s) c.args.key_kind c.args.kind) c.in-Totals.is c.requires.items in
    let words = c.deref.ensures.value ∙ c.in-Ok-side_by_side.ensures in
    totals_rows (part_of_state c.args.state.now) c.in-Totals.totals c.merge_rows.new.self (length c.args.keys.now) ks c.deref.result.now _ (ap part_of_state c.in-Totals.is) kinds
    (pairs_kept c.args.key_kind c.args.kind ks c.args.keys.now c.args.numbers.now c.deref.result.now c.requires.narrow_key c.requires.narrow c.requires.keys c.requires.numbers c.requires.count refl words).structs
    (ap (structs_in (length c.args.keys.now) ks) words ∙ pairs_are c.args.key_kind c.args.kind c.args.keys.now c.args.numbers.now c.requires.count) c.merge_rows.ensures.op c.merge_rows.ensures.totals
