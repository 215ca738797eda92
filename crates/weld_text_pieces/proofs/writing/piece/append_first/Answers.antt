use Rattle.std.proofs.Common.{◌++◌, ◌∙◌, List, ℕ, ap, arith, set, length-set, OnOk, Ok, Err, Result}
use Rattle.weld_write_value.specs.Showing.{shown_scalar}
use Rattle.weld_text_pieces.proofs.Pieces.{bracketed, range_to_end}
use Rattle.weld_text_pieces.proofs.writing.piece.append_first.Goals as goal

on_ok : {T E P Q : Type 0} (r : Result T E) → OnOk r P → (P → Q) → OnOk r Q
on_ok (Ok x) h f = f h
on_ok (Err e) h f = h

pub returns : goal.returns
returns g c =
    let bytes = c.write_before-at.new.bytes in
    let at = c.write_before-at.result in
    let text = range_to_end (set bytes at 91) 21 at (omega (arith, length-set bytes at 91)) ∙ bracketed bytes at (shown_scalar (g.T.Cell.value c.args.item)) c.write_before-at.ensures.written in
    on_ok c.push_all.result c.push_all.ensures.ok (λ p. p ∙ ap (λ (x : List ℕ). c.args.out.now ++ x) text)
