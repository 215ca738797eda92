use Rattle.std.proofs.Common.{sym, ◌∙◌, refl, arith}
use Rattle.weld_data.proofs.StructLemmas.{all_grown}
use Rattle.weld_data.proofs.structs.append_in.Goals as goal

pub overflow_add-kept : goal.overflow_add-kept
overflow_add-kept c =
    let same = sym c.deref.ensures.value ∙ c.if-not-are_same.ensures refl in
    let grown = c.in_ok-extend_from_slice.ensures.items in
    let t = all_grown c.args.kept.now.count c.args.count c.args.kept.now.kinds.items c.args.kinds.now c.args.kept.now.numbers.items c.args.numbers.now c.extend_from_slice.new.self.items same c.requires.kept c.requires.later grown in
    omega (arith, t.few, c.len-total.ensures)

pub returns-clause-kept : goal.returns-clause-kept
returns-clause-kept c =
    let same = sym c.deref.ensures.value ∙ c.if-not-are_same.ensures refl in
    let grown = c.in_ok-extend_from_slice.ensures.items in
    (all_grown c.args.kept.now.count c.args.count c.args.kept.now.kinds.items c.args.kinds.now c.args.kept.now.numbers.items c.args.numbers.now c.extend_from_slice.new.self.items same c.requires.kept c.requires.later grown).kept

pub returns-clause-taken : goal.returns-clause-taken
returns-clause-taken c =
    let same = sym c.deref.ensures.value ∙ c.if-not-are_same.ensures refl in
    let grown = c.in_ok-extend_from_slice.ensures.items in
    (all_grown c.args.kept.now.count c.args.count c.args.kept.now.kinds.items c.args.kinds.now c.args.kept.now.numbers.items c.args.numbers.now c.extend_from_slice.new.self.items same c.requires.kept c.requires.later grown).taken
