use Rattle.std.proofs.Common.{subst, sym, ap₂, ◌∙◌, add-one, min, length, arith, ◌≡◌, nat_cmp, Ordering}
use Rattle.weld_data.specs.Value.{number}
use Rattle.weld_data.specs.View.{view_column}
use Rattle.weld_data.specs.Order.{KeyStands, ListStands}
use Rattle.weld_data.proofs.Keys.{ListStands-at, ListStands-end, ints_stand, kind_at, number_there, take-agree}
use Rattle.weld_data.proofs.value.order.compare_numbers.Goals as goal

pub number_at-requires-clause-number : goal.number_at-requires-clause-number
number_at-requires-clause-number c = number_there c.requires.0 (view_column c.args.a.now) c.loop-i.i c.requires.1

pub number_at-requires-in-loop-i-clause-number : goal.number_at-requires-in-loop-i-clause-number
number_at-requires-in-loop-i-clause-number c = number_there c.requires.0 (view_column c.args.b.now) c.loop-i.i c.requires.2

pub returns-in_default : goal.returns-in_default
returns-in_default c =
    let xs = view_column c.args.a.now in
    let ys = view_column c.args.b.now in
    let x = c.number_at.result in
    let y = c.number_at-in-loop-i.result in
    let same = kind_at c.requires.0 xs c.loop-i.i x.kind x.value c.requires.1 c.number_at.ensures ∙ sym (kind_at c.requires.0 ys c.loop-i.i y.kind y.value c.requires.2 c.number_at-in-loop-i.ensures) in
    ListStands-at c.cmp.result xs ys c.loop-i.i (number x.kind x.value) (number y.kind y.value) c.number_at.ensures c.number_at-in-loop-i.ensures c.loop-i.invariant (subst (λ (r : Ordering). KeyStands r (number x.kind x.value) (number y.kind y.value)) (sym c.cmp.ensures) (ints_stand x.kind y.kind x.value y.value same)) c.in_default.not-Equal

pub loop-i-preserved : goal.loop-i-preserved
loop-i-preserved c =
    let xs = view_column c.args.a.now in
    let ys = view_column c.args.b.now in
    let x = c.number_at.result in
    let y = c.number_at-in-loop-i.result in
    let same = kind_at c.requires.0 xs c.loop-i.i x.kind x.value c.requires.1 c.number_at.ensures ∙ sym (kind_at c.requires.0 ys c.loop-i.i y.kind y.value c.requires.2 c.number_at-in-loop-i.ensures) in
    let stands = subst (λ (r : Ordering). KeyStands r (number x.kind x.value) (number y.kind y.value)) (sym c.cmp.ensures ∙ c.in-Equal.is) (ints_stand x.kind y.kind x.value y.value same) in
    rw add-one
    (take-agree xs ys c.loop-i.i (number x.kind x.value) (number y.kind y.value) c.number_at.ensures c.number_at-in-loop-i.ensures stands c.loop-i.invariant)

pub returns : goal.returns
returns c =
    let xs = view_column c.args.a.now in
    let ys = view_column c.args.b.now in
    let at_end : c.loop-i.i ≡ min (length xs) (length ys) = omega arith in
    subst (λ (r : Ordering). ListStands r xs ys) (sym (c.cmp-2.ensures ∙ ap₂ nat_cmp c.len-3.ensures c.len-4.ensures)) (ListStands-end xs ys c.loop-i.i at_end c.loop-i.invariant)
