use Rattle.std.proofs.Common.{List, sym, ◌∙◌, subst, map, arith, ◌<◌, length}
use Rattle.weld_values.specs.declared.flaw.Flaw.{Flaw}
use Rattle.weld_values.specs.declared.flaw.Flaw.TheVariants.{Fine}
use Rattle.weld_values.specs.Grammar.{scalar_at, Found}
use Rattle.weld_values.specs.Judging.{Gathered, AreListed, IsReadInto}
use Rattle.weld_values.proofs.Listings.{gathered_none, found_sole, into_more, into_last, unclosed, some_holds}
use Rattle.weld_values.proofs.column.read_some.Goals as goal

pub loop-items-init : goal.loop-items-init
loop-items-init g c =
    let R = Found (scalar_at g.T.Cell.kind) in
    subst (λ (xs : List _). Gathered R c.args.text.now c.args.text.now Fine (map g.T.Cell.value xs)) (sym (c.from_vec-items.ensures ∙ c.in_ok-with_capacity.ensures.items)) (gathered_none R c.args.text.now)

pub loop-items-smaller : goal.loop-items-smaller
loop-items-smaller g c =
    let after = some_holds (λ (f : Flaw × _). length f.1.now < length c.loop-items.rest.now) c.in_ok-here.field-0 (c.in-Some.here, c.in-Some.after) c.in-Some.is c.in_ok-here.ensures.less in
    let less : length c.in-Some-byte_at.more.now < length c.loop-items.rest.now = omega (arith, after, c.in-Some-byte_at.ensures.less) in
    less

pub loop-items-preserved : goal.loop-items-preserved
loop-items-preserved g c =
    let R = Found (scalar_at g.T.Cell.kind) in
    let old = map g.T.Cell.value c.loop-items.items in
    let new = map g.T.Cell.value c.append_cell.new.items in
    let read = some_holds (λ (f : Flaw × _). IsReadInto R c.loop-items.rest.now f.0 old new f.1.now) c.in_ok-here.field-0 (c.in-Some.here, c.in-Some.after) c.in-Some.is c.in_ok-here.ensures.found in
    subst (λ (f : Flaw). Gathered R c.args.text.now c.in-Some-byte_at.more.now f new) (sym c.and-flaw.ensures)
    (into_more R (found_sole (scalar_at g.T.Cell.kind)) c.args.text.now c.loop-items.rest.now c.in-Some.after.now c.in-Some-byte_at.more.now c.loop-items.flaw c.in-Some.here old new c.loop-items.invariant read (sym c.in-Some-byte_at.ensures.value))

pub returns-in_default-byte_at-2-clause-none : goal.returns-in_default-byte_at-2-clause-none
returns-in_default-byte_at-2-clause-none g c =
    let R = Found (scalar_at g.T.Cell.kind) in
    let old = map g.T.Cell.value c.loop-items.items in
    let new = map g.T.Cell.value c.append_cell.new.items in
    let read = some_holds (λ (f : Flaw × _). IsReadInto R c.loop-items.rest.now f.0 old new f.1.now) c.in_ok-here.field-0 (c.in-Some.here, c.in-Some.after) c.in-Some.is c.in_ok-here.ensures.found in
    unclosed R (found_sole (scalar_at g.T.Cell.kind)) c.args.text.now c.loop-items.rest.now c.in-Some.after.now c.loop-items.flaw old read.read.raw c.loop-items.invariant read.read.at (sym c.in_default-byte_at.ensures.value) (sym c.in_default-byte_at-2.ensures.value)

pub returns-in_default-byte_at-clause-found : goal.returns-in_default-byte_at-clause-found
returns-in_default-byte_at-clause-found g c =
    let R = Found (scalar_at g.T.Cell.kind) in
    let old = map g.T.Cell.value c.loop-items.items in
    let new = map g.T.Cell.value c.append_cell.new.items in
    let read = some_holds (λ (f : Flaw × _). IsReadInto R c.loop-items.rest.now f.0 old new f.1.now) c.in_ok-here.field-0 (c.in-Some.here, c.in-Some.after) c.in-Some.is c.in_ok-here.ensures.found in
    subst (λ (f : Flaw). AreListed R c.args.text.now f new c.in-Some-byte_at-2.end.now) (sym c.and-flaw.ensures)
    (into_last R c.args.text.now c.loop-items.rest.now c.in-Some.after.now c.in-Some-byte_at-2.end.now c.loop-items.flaw c.in-Some.here old new c.loop-items.invariant read (sym c.in-Some-byte_at-2.ensures.value))
