use Rattle.std.proofs.Common.{◌≡◌, ◌∙◌, sym, ap, subst, ◌<◌, ◌∷◌, ◌+◌, length, drop, get_or, List, ℕ, arith, rules}
use Rattle.std.specs.List.{All}
use Rattle.csv.specs.Records.{fields_of}
use Rattle.weld_tree.specs.TypeTree.{TypeTree}
use Rattle.weld_table.specs.Table.{IsCell, Place, place_in}
use Rattle.weld_table.specs.Cells.{IsNew}
use Rattle.weld_table.proofs.Choosing.{AreNamed, cells_first, cells_rest, name_first, named_more, new_more, place_below}
use Rattle.weld_table.proofs.choice.by_name.Goals as goal

pub new-requires : goal.new-requires
new-requires c =
    cells_first c.in-Some.ty.now c.in-Some.more.now (subst (All IsCell) c.in-Some.ensures.cases.0 c.loop-name.invariant.cells)

pub loop-name-preserved : goal.loop-name-preserved
loop-name-preserved c =
    let header = fields_of c.args.header.now in
    let within : c.loop-name.name-index < length c.args.names.now = search rules in
    let name = c.name-item.result in
    let here : get_or c.args.names.now c.loop-name.name-index name ≡ name =
    ap (λ (xs : List (List ℕ)). get_or xs c.loop-name.name-index name) (sym c.as_slice-name-items.ensures) ∙ sym c.name-item.is in
    let names : drop c.loop-name.name-index c.args.names.now ≡ name ∷ drop (c.loop-name.name-index + 1) c.args.names.now =
    name_first c.args.names.now c.loop-name.name-index name within
    ∙ ap (λ (x : List ℕ). x ∷ drop (c.loop-name.name-index + 1) c.args.names.now) here in
    let before : AreNamed header c.args.names.now c.args.types.now (name ∷ drop (c.loop-name.name-index + 1) c.args.names.now) (c.in-Some.ty.now ∷ c.in-Some.more.now) c.loop-name.columns.items =
    subst (λ (ns : List (List ℕ)). AreNamed header c.args.names.now c.args.types.now ns (c.in-Some.ty.now ∷ c.in-Some.more.now) c.loop-name.columns.items) names
    (subst (λ (ts : List TypeTree). AreNamed header c.args.names.now c.args.types.now (drop c.loop-name.name-index c.args.names.now) ts c.loop-name.columns.items)
    c.in-Some.ensures.cases.0 c.loop-name.invariant.places) in
    let found : place_in name 0 header ≡ _ = ap (λ (x : List ℕ). place_in x 0 header) (sym c.as_slice.ensures) ∙ sym c.place_of_name.ensures ∙ c.in-Some-place_of_name.is in
    let at = c.in-Some-place_of_name.place in
    let below : at < length header = let low = place_below name 0 header at found in omega (arith, low) in
    let place : c.new.result.place ≡ at = ap (λ (p : Place). p.at) c.new.ensures.place in
    let stands : c.new.result.place < length header = omega (arith, place, below) in
    record {
      places = subst (AreNamed header c.args.names.now c.args.types.now (drop (c.loop-name.name-index + 1) c.args.names.now) c.in-Some.more.now) (sym c.in_ok-push.ensures.items)
          (named_more header c.args.names.now c.args.types.now name (drop (c.loop-name.name-index + 1) c.args.names.now) c.in-Some.ty.now c.in-Some.more.now
          c.loop-name.columns.items c.new.result at found c.new.ensures.place before);
      fresh = subst (All (IsNew (length header))) (sym c.in_ok-push.ensures.items)
          (new_more (length header) c.loop-name.columns.items c.new.result c.loop-name.invariant.fresh (c.new.ensures.fresh.0, c.new.ensures.fresh.1, stands));
      cells = cells_rest c.in-Some.ty.now c.in-Some.more.now (subst (All IsCell) c.in-Some.ensures.cases.0 c.loop-name.invariant.cells);
    }
