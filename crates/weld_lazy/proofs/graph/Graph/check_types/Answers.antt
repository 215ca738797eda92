use Rattle.std.proofs.Common.{◌<◌, length, sym, ◌∙◌, arith}
use Rattle.weld_lazy.proofs.Additions.{noted_at, known_at, dep_fits, dep_differs, now_of, none_of, clash}
use Rattle.weld_lazy.proofs.graph.Graph.check_types.Goals as goal

pub unreachable-requires : goal.unreachable-requires
unreachable-requires c =
    let h : c.loop-place.place < length c.args.params.now = (let n = c.requires.count in let t = c.loop-place-test.true in omega (arith, n, t)) in
    noted_at c.args.params.now c.loop-place.place c.index-params-place.result c.requires.noted h c.in_default.is

pub unreachable-requires-in_default-ty_of : goal.unreachable-requires-in_default-ty_of
unreachable-requires-in_default-ty_of c =
    known_at c.args.self.now c.args.deps.now c.loop-place.place (record { 0 = 0 }) c.requires.known c.loop-place-test.true (sym c.ty_of.ensures ∙ none_of c.ty_of.result c.in_default-ty_of.is)

pub returns-then-not-same-clause-refused : goal.returns-then-not-same-clause-refused
returns-then-not-same-clause-refused c =
    dep_differs c.args.self.now c.args.deps.now c.args.params.now c.loop-place.place (record { 0 = 0 }) c.index-params-place.result c.in-Some-ty_of.found.now c.in-Some.expected _ c.mismatch.result
    c.loop-place-test.true c.requires.count (now_of c.ty_of.result c.in-Some-ty_of.found c.in-Some-ty_of.is) c.ty_of.ensures
    (λ e. let t = c.same.ensures.1 e in clash c.same.result t c.if-not-same.true) c.in-Some.is c.loop-place.invariant c.mismatch.ensures

pub loop-place-preserved : goal.loop-place-preserved
loop-place-preserved c =
    dep_fits c.args.self.now c.args.deps.now c.args.params.now c.loop-place.place (record { 0 = 0 }) c.index-params-place.result c.in-Some-ty_of.found.now c.in-Some.expected _
    c.loop-place-test.true c.requires.count (now_of c.ty_of.result c.in-Some-ty_of.found c.in-Some-ty_of.is) c.ty_of.ensures
    (c.same.ensures.0 c.if-not-same.false) c.in-Some.is c.loop-place.invariant
