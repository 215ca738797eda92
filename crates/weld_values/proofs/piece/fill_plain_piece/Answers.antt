use Rattle.std.proofs.Common.{◌≡◌, ◌<◌, ◌+◌, sym, ◌∙◌, map, take, length, arith}
use Rattle.std.proofs.lemmas.Bool.{eqb-true}
use Rattle.weld_data.specs.View.{view_val}
use Rattle.weld_values.proofs.Wholes.{empty_is}
use Rattle.weld_values.proofs.Shrinks.{at_shrinks}
use Rattle.weld_values.proofs.KeyTypes.{plain_readable}
use Rattle.weld_values.proofs.Pieces.{taken_none, taken_more, filled}
use Rattle.weld_values.proofs.piece.fill_plain_piece.Goals as goal

pub put_value-requires : goal.put_value-requires
put_value-requires c = plain_readable c.args.ty.now c.requires

pub values-init : goal.values-init
values-init c = record { within = omega arith; taken = taken_none c.args.ty.now c.args.text.now }

pub values-smaller : goal.values-smaller
values-smaller c =
    let read = c.in-Some.ensures.found in
    let after = at_shrinks c.args.ty.now read.read.raw c.values.rest.now c.in-Some.after.now read.read.at in
    let less : length c.in-Some-byte_at.more.now < length c.values.rest.now = omega (arith, after, c.in-Some-byte_at.ensures.less) in
    less

pub values-preserved : goal.values-preserved
values-preserved c = record {
  within = omega (arith, c.in-Some.ensures.within, c.in-Some.ensures.length);
  taken = taken_more c.args.ty.now c.requires c.args.text.now c.values.rest.now c.in-Some.after.now c.in-Some-byte_at.more.now
      (map view_val (take c.values.place c.values.places)) (map view_val (take (c.values.place + 1) c.put_value.new.places))
      c.values.invariant.taken c.in-Some.ensures.found (sym c.in-Some-byte_at.ensures.value);
}

pub returns-then-place-places-clause-separated : goal.returns-then-place-places-clause-separated
returns-then-place-places-clause-separated c = λ e.
    let empty : length c.after_blanks.result.now ≡ 0 = eqb-true _ _ (sym c.is_empty.ensures ∙ e) in
    (filled view_val c.args.ty.now c.requires c.args.text.now c.values.rest.now c.in-Some.after.now c.values.place c.values.places c.put_value.new.places
    c.if-place-places.true c.values.invariant.taken c.in-Some.ensures.found (sym c.after_blanks.ensures.value ∙ empty_is c.after_blanks.result.now empty)).0

pub returns-then-place-places-clause-typed : goal.returns-then-place-places-clause-typed
returns-then-place-places-clause-typed c = λ e.
    let empty : length c.after_blanks.result.now ≡ 0 = eqb-true _ _ (sym c.is_empty.ensures ∙ e) in
    (filled view_val c.args.ty.now c.requires c.args.text.now c.values.rest.now c.in-Some.after.now c.values.place c.values.places c.put_value.new.places
    c.if-place-places.true c.values.invariant.taken c.in-Some.ensures.found (sym c.after_blanks.ensures.value ∙ empty_is c.after_blanks.result.now empty)).1
