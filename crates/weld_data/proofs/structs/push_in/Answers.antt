use Rattle.std.proofs.Common.{◌++◌, List, ap, subst, ◌∙◌, refl, map, arith}
use Rattle.weld_data.specs.declared.kind.Kind.{Kind}
use Rattle.weld_data.specs.View.{view_val}
use Rattle.weld_data.specs.Structs.{FitKinds, numbers_of}
use Rattle.weld_data.proofs.StructLemmas.{one_grown}
use Rattle.weld_data.proofs.structs.push_in.Goals as goal

pub overflow_add-kept : goal.overflow_add-kept
overflow_add-kept c =
    let vs = map view_val c.args.fields.now in
    let fit = subst (λ (ks : List Kind). FitKinds ks vs) c.deref.ensures.value (c.if-not-fit_kinds.ensures refl) in
    let grown = c.put_numbers.ensures ∙ ap (λ xs. xs ++ numbers_of vs) c.in_ok-reserve.ensures.items in
    let t = one_grown c.args.kept.now.count c.args.kept.now.kinds.items c.args.kept.now.numbers.items c.put_numbers.new.numbers.items vs c.requires fit grown in
    omega (arith, t.few, c.len-total.ensures)

pub returns-clause-kept : goal.returns-clause-kept
returns-clause-kept c =
    let vs = map view_val c.args.fields.now in
    let fit = subst (λ (ks : List Kind). FitKinds ks vs) c.deref.ensures.value (c.if-not-fit_kinds.ensures refl) in
    let grown = c.put_numbers.ensures ∙ ap (λ xs. xs ++ numbers_of vs) c.in_ok-reserve.ensures.items in
    (one_grown c.args.kept.now.count c.args.kept.now.kinds.items c.args.kept.now.numbers.items c.put_numbers.new.numbers.items vs c.requires fit grown).kept

pub returns-clause-taken : goal.returns-clause-taken
returns-clause-taken c =
    let vs = map view_val c.args.fields.now in
    let fit = subst (λ (ks : List Kind). FitKinds ks vs) c.deref.ensures.value (c.if-not-fit_kinds.ensures refl) in
    let grown = c.put_numbers.ensures ∙ ap (λ xs. xs ++ numbers_of vs) c.in_ok-reserve.ensures.items in
    (one_grown c.args.kept.now.count c.args.kept.now.kinds.items c.args.kept.now.numbers.items c.put_numbers.new.numbers.items vs c.requires fit grown).taken
