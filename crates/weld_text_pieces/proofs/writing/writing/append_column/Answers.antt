use Rattle.std.proofs.Common.{◌≡◌, ◌∙◌, sym, ap, map, ℕ, Bool, pos}
use Rattle.weld_data.specs.declared.kind.Kind.TheVariants as kinds
use Rattle.weld_data.specs.Operation.{truth}
use Rattle.weld_data.specs.Value.{number}
use Rattle.weld_data.specs.View.{view_column}
use Rattle.weld_text_pieces.proofs.Fields.{many_appended}
use Rattle.weld_text_pieces.proofs.writing.writing.append_column.Goals as goal

pub returns-in-Bool : goal.returns-in-Bool
returns-in-Bool g c =
    let f = (λ (b : Bool). number kinds.Bool (truth b)) in
    let view : map f c.as_slice.result.now ≡ view_column c.args.column.now = ap (map f) c.as_slice.ensures ∙ ap view_column (sym c.in-Bool.is) in
    many_appended f (λ x h. h) c.as_slice.result.now (view_column c.args.column.now) c.args.out.now c.append_many.new.out c.append_many.result view c.append_many.ensures

pub returns-in-I16 : goal.returns-in-I16
returns-in-I16 g c =
    let f = (number kinds.I16) in
    let view : map f c.as_slice-in-I16.result.now ≡ view_column c.args.column.now = ap (map f) c.as_slice-in-I16.ensures ∙ ap view_column (sym c.in-I16.is) in
    many_appended f (λ x h. h) c.as_slice-in-I16.result.now (view_column c.args.column.now) c.args.out.now c.append_many-in-I16.new.out c.append_many-in-I16.result view c.append_many-in-I16.ensures

pub returns-in-I32 : goal.returns-in-I32
returns-in-I32 g c =
    let f = (number kinds.I32) in
    let view : map f c.as_slice-in-I32.result.now ≡ view_column c.args.column.now = ap (map f) c.as_slice-in-I32.ensures ∙ ap view_column (sym c.in-I32.is) in
    many_appended f (λ x h. h) c.as_slice-in-I32.result.now (view_column c.args.column.now) c.args.out.now c.append_many-in-I32.new.out c.append_many-in-I32.result view c.append_many-in-I32.ensures

pub returns-in-I64 : goal.returns-in-I64
returns-in-I64 g c =
    let f = (number kinds.I64) in
    let view : map f c.as_slice-in-I64.result.now ≡ view_column c.args.column.now = ap (map f) c.as_slice-in-I64.ensures ∙ ap view_column (sym c.in-I64.is) in
    many_appended f (λ x h. h) c.as_slice-in-I64.result.now (view_column c.args.column.now) c.args.out.now c.append_many-in-I64.new.out c.append_many-in-I64.result view c.append_many-in-I64.ensures

pub returns-in-U8 : goal.returns-in-U8
returns-in-U8 g c =
    let f = (λ (n : ℕ). number kinds.U8 (pos n)) in
    let view : map f c.as_slice-in-U8.result.now ≡ view_column c.args.column.now = ap (map f) c.as_slice-in-U8.ensures ∙ ap view_column (sym c.in-U8.is) in
    many_appended f (λ x h. h) c.as_slice-in-U8.result.now (view_column c.args.column.now) c.args.out.now c.append_many-in-U8.new.out c.append_many-in-U8.result view c.append_many-in-U8.ensures

pub returns-in-U16 : goal.returns-in-U16
returns-in-U16 g c =
    let f = (λ (n : ℕ). number kinds.U16 (pos n)) in
    let view : map f c.as_slice-in-U16.result.now ≡ view_column c.args.column.now = ap (map f) c.as_slice-in-U16.ensures ∙ ap view_column (sym c.in-U16.is) in
    many_appended f (λ x h. h) c.as_slice-in-U16.result.now (view_column c.args.column.now) c.args.out.now c.append_many-in-U16.new.out c.append_many-in-U16.result view c.append_many-in-U16.ensures

pub returns-in-U32 : goal.returns-in-U32
returns-in-U32 g c =
    let f = (λ (n : ℕ). number kinds.U32 (pos n)) in
    let view : map f c.as_slice-in-U32.result.now ≡ view_column c.args.column.now = ap (map f) c.as_slice-in-U32.ensures ∙ ap view_column (sym c.in-U32.is) in
    many_appended f (λ x h. h) c.as_slice-in-U32.result.now (view_column c.args.column.now) c.args.out.now c.append_many-in-U32.new.out c.append_many-in-U32.result view c.append_many-in-U32.ensures

pub returns-in-U64 : goal.returns-in-U64
returns-in-U64 g c =
    let f = (λ (n : ℕ). number kinds.U64 (pos n)) in
    let view : map f c.as_slice-in-U64.result.now ≡ view_column c.args.column.now = ap (map f) c.as_slice-in-U64.ensures ∙ ap view_column (sym c.in-U64.is) in
    many_appended f (λ x h. h) c.as_slice-in-U64.result.now (view_column c.args.column.now) c.args.out.now c.append_many-in-U64.new.out c.append_many-in-U64.result view c.append_many-in-U64.ensures
