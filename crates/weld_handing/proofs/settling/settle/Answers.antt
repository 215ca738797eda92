use Rattle.std.proofs.Common.{sym, ◌∙◌}
use Rattle.weld_rewriting.proofs.Lists.{and_so}
use Rattle.weld_handing.proofs.Walked.{no_merge, merge_takes, none_there, settled_noted, settled_consumed, merge_is_two}
use Rattle.weld_handing.proofs.settling.settle.Goals as goal

pub returns-then-not-is_list_merge-clause-taken : goal.returns-then-not-is_list_merge-clause-taken
returns-then-not-is_list_merge-clause-taken c =
    and_so c.note.result (λ h. no_merge _ c.args.consumer.now (sym c.is_list_merge.ensures ∙ c.if-not-is_list_merge.true)) c.note.ensures

pub returns-then-not-is_list_merge-clause-settled : goal.returns-then-not-is_list_merge-clause-settled
returns-then-not-is_list_merge-clause-settled c =
    and_so c.note.result
    (λ h. h ∙ settled_noted c.args.ty.now c.args.count.0 c.args.consumer.now c.args.source.now c.args.e.now (sym c.is_list_merge.ensures ∙ c.if-not-is_list_merge.true)) c.note.ensures

pub consume-requires : goal.consume-requires
consume-requires c = merge_is_two c.args.source.now c.args.e.now (sym c.is_list_merge.ensures ∙ c.if-not-is_list_merge.false)

pub unreachable-requires : goal.unreachable-requires
unreachable-requires c =
    none_there _ c.args.consumer.now (sym c.is_list_merge.ensures ∙ c.if-not-is_list_merge.false) c.requires (sym c.take.ensures.value ∙ c.in-None.is)

pub returns-clause-taken : goal.returns-clause-taken
returns-clause-taken c =
    and_so c.consume.result (λ h. c.take.ensures.after ∙ merge_takes _ c.args.consumer.now (sym c.is_list_merge.ensures ∙ c.if-not-is_list_merge.false)) c.consume.ensures

pub returns-clause-settled : goal.returns-clause-settled
returns-clause-settled c =
    and_so c.consume.result
    (λ h.
    h
    ∙ settled_consumed c.args.ty.now c.args.count.0 c.in-Some.consumer c.args.consumer.now c.args.source.now c.args.e.now (sym c.take.ensures.value ∙ c.in-Some.is) (sym c.is_list_merge.ensures ∙ c.if-not-is_list_merge.false))
    c.consume.ensures
