use Rattle.std.proofs.Common.{◌≡◌, ◌+◌, sym, ◌∙◌, map, take, length, arith}
use Rattle.std.proofs.lemmas.Bool.{eqb-true}
use Rattle.weld_tree.specs.TypeTree.{scalar}
use Rattle.weld_values.proofs.Wholes.{empty_is}
use Rattle.weld_values.proofs.Pieces.{taken_none, taken_more, filled}
use Rattle.weld_values.proofs.piece.fill_piece.Goals as goal

pub scalars-init : goal.scalars-init
scalars-init g c = record { within = omega arith; taken = taken_none (scalar g.T.Cell.kind) c.args.text.now }

pub scalars-preserved : goal.scalars-preserved
scalars-preserved g c = record {
  within = omega (arith, c.in-Some.ensures.within, c.in-Some.ensures.length);
  taken = taken_more (scalar g.T.Cell.kind) tt c.args.text.now c.scalars.rest.now c.in-Some.after.now c.in-Some-byte_at.more.now
      (map g.T.Cell.value (take c.scalars.place c.scalars.places)) (map g.T.Cell.value (take (c.scalars.place + 1) c.put_cell.new.places))
      c.scalars.invariant.taken c.in-Some.ensures.found (sym c.in-Some-byte_at.ensures.value);
}

pub returns-then-place-places-clause-separated : goal.returns-then-place-places-clause-separated
returns-then-place-places-clause-separated g c = λ e.
    let empty : length c.after_blanks.result.now ≡ 0 = eqb-true _ _ (sym c.is_empty.ensures ∙ e) in
    (filled g.T.Cell.value (scalar g.T.Cell.kind) tt c.args.text.now c.scalars.rest.now c.in-Some.after.now c.scalars.place c.scalars.places c.put_cell.new.places
    c.if-place-places.true c.scalars.invariant.taken c.in-Some.ensures.found (sym c.after_blanks.ensures.value ∙ empty_is c.after_blanks.result.now empty)).0

pub returns-then-place-places-clause-typed : goal.returns-then-place-places-clause-typed
returns-then-place-places-clause-typed g c = λ e.
    let empty : length c.after_blanks.result.now ≡ 0 = eqb-true _ _ (sym c.is_empty.ensures ∙ e) in
    (filled g.T.Cell.value (scalar g.T.Cell.kind) tt c.args.text.now c.scalars.rest.now c.in-Some.after.now c.scalars.place c.scalars.places c.put_cell.new.places
    c.if-place-places.true c.scalars.invariant.taken c.in-Some.ensures.found (sym c.after_blanks.ensures.value ∙ empty_is c.after_blanks.result.now empty)).1
