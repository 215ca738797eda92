use Rattle.std.proofs.Common.{ap, subst, ◌∙◌}
use Rattle.std.proofs.Crossing
use Rattle.rayon.proofs.ListFacts.{IfOk-then, AllZip-weaken}
use Rattle.rayon.proofs.ToStd.{slice-AllZip}
use denote.Exit.{no}
use denote.Param.Send.{param_send, arg_send, sendable}
use Rattle.weld_share.proofs.Sent.{answer_send}
use Rattle.weld_share.proofs.parallel.map_stretches.Goals as goal

pub map-requires-send-U : goal.map-requires-send-U
map-requires-send-U g c κs within = param_send 2 _ (arg_send _ no _ answer_send)

pub collect-requires-send-Self-Item : goal.collect-requires-send-Self-Item
collect-requires-send-Self-Item g c κs within = param_send 1 _ (arg_send _ no _ answer_send)

pub collect-requires-send-C : goal.collect-requires-send-C
collect-requires-send-C g c κs within = search (Crossing.crosses, answer_send, sendable) depth 60 fits 20000

pub returns : goal.returns
returns g c =
    let slice = ap (λ it. it.base.slice.now) c.map.ensures.base ∙ ap (λ it. it.slice.now) c.with_min_len.ensures.base ∙ c.par_iter.ensures in
    IfOk-then c.collect.result _ _ c.collect.ensures (λ v h.
    let chain = h.1 in
    rw h.2 (slice-AllZip chain.0 c.args.stretches.now (chain.1 ∙ slice) (g.T.RunsStretches.answers c.args.runs.now) h.0 (AllZip-weaken _ _ (λ x y p. subst (λ f. g.T.RunsStretches.answers f.0.now x.now y) c.map.ensures.f p) chain.0 h.0 chain.2)))
