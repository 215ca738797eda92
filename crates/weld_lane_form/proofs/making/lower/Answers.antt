use Rattle.std.proofs.Common.{◌≡◌, ℕ, List, [], map, Option, Some, refl, subst}
use Rattle.weld_tree.specs.declared.sym.Sym.{Sym}
use Rattle.weld_tree.specs.ExprTree.{ExprTree}
use Rattle.weld_lanes.specs.declared.steps.LaneStep.{LaneStep}
use Rattle.weld_lane_form.specs.LetsView.{view_lets}
use Rattle.weld_lane_form.specs.Lowering.{LaneNames, Begun, placed, nothing_begun, lower_body}
use Rattle.weld_lane_form.specs.Made.{lane_names, begun, IsPlaced, made_lowered}
use Rattle.weld_lane_form.proofs.BodyMeans.{body_means}
use Rattle.weld_lane_form.proofs.making.lower.Goals as goal

started : (c : LaneNames) (e : ExprTree) (ns : List (ℕ × ℕ)) (ss : List LaneStep) (ms : List Sym) (d : Begun) (o : Option ℕ) (i : ℕ) → ns ≡ [] → ss ≡ [] → ms ≡ [] → o ≡ Some i
    → IsPlaced (lower_body c ns e (record { steps = ss; names = map (λ (s : Sym). s.0) ms })) o d → lower_body c [] e nothing_begun ≡ placed d i
started c e ns ss ms d o i none no_steps no_names is h =
    subst (λ (xs : List (ℕ × ℕ)). lower_body c xs e nothing_begun ≡ placed d i) none
    (subst (λ (xs : List LaneStep). lower_body c ns e (record { steps = xs; names = [] }) ≡ placed d i) no_steps
    (subst (λ (xs : List Sym). lower_body c ns e (record { steps = ss; names = map (λ (s : Sym). s.0) xs }) ≡ placed d i) no_names
    (subst (λ (p : Option ℕ). IsPlaced (lower_body c ns e (record { steps = ss; names = map (λ (s : Sym). s.0) ms })) p d) is h)))

pub returns-clause-means : goal.returns-clause-means
returns-clause-means c =
    let n = c.args.names in
    let l = made_lowered (record { program = c.new-program.result; uniforms = c.make_body.new.making.uniforms }) n.is_pair n.row.0 in
    let h = started (lane_names n) c.args.e.now (view_lets c.no_lets-end.result) c.new.result.items c.new-2.result.items (begun c.make_body.new.making) c.in-Ok-Some.field-0 c.in-Ok-Some.field-0-0
    c.no_lets-end.ensures c.new.ensures.items c.new-2.ensures.items c.in-Ok-Some.field-0-is c.in-Ok-Some.ensures in
    body_means l (lane_names n) c.args.e.now (begun c.make_body.new.making) c.in-Ok-Some.field-0-0 h c.new-program.ensures.kind refl refl c.new-program.result.formed c.new-program.ensures.steps refl
