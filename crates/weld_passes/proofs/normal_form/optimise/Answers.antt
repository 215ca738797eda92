use Rattle.std.proofs.Common.{◌∙◌, subst}
use Rattle.weld_tree.specs.Program.{ProgramTree, IsProgram}
use Rattle.weld_meaning.specs.Accepted.{IsAccepted}
use Rattle.weld_rewriting.proofs.Spelled.{spelled_by}
use Rattle.weld_passes.proofs.Bodies.{Rewritten, program_rewritten}
use Rattle.weld_passes.proofs.normal_form.optimise.Goals as goal

pub invariant_of-program : goal.invariant_of-program
invariant_of-program c =
    let q : ProgramTree = record { params = c.program.inside.params; body = c.optimise_body.new.body } in
    let body = c.in_ok-optimise_body.ensures.optimised in
    let done : Rewritten q c.args.p =
    program_rewritten (record { tidy = c.tidiness_is_kept.ensures.program; rewrites = c.bodies_are_rewritten.ensures.rewrites; chain = c.bodies_are_rewritten.ensures.chain })
    c.args.p c.program.inside.params c.program.inside.body.value c.deref_mut.result.now c.optimise_body.new.body body.0 c.program.invariant c.deref_mut.ensures.value body.1
    (c.program.view_is ∙ c.p.view_is) in
    c.rewritten_programs.ensures.program q c.args.p done.rewrites (subst (λ (p : ProgramTree). IsProgram p.params p.body) (c.program.view_is ∙ c.p.view_is) c.program.invariant)

pub invariant_of-program-2 : goal.invariant_of-program-2
invariant_of-program-2 c =
    let q : ProgramTree = record { params = c.program.inside.params; body = c.optimise_body.new.body } in
    let body = c.in_ok-optimise_body.ensures.optimised in
    let done : Rewritten q c.args.p =
    program_rewritten (record { tidy = c.tidiness_is_kept.ensures.program; rewrites = c.bodies_are_rewritten.ensures.rewrites; chain = c.bodies_are_rewritten.ensures.chain })
    c.args.p c.program.inside.params c.program.inside.body.value c.deref_mut.result.now c.optimise_body.new.body body.0 c.program.invariant c.deref_mut.ensures.value body.1
    (c.program.view_is ∙ c.p.view_is) in
    let accepted : IsAccepted c.args.p = subst IsAccepted c.p.view_is c.p.invariant in
    c.rewritten_programs.ensures.accepted q c.args.p done.rewrites accepted c.requires

pub invariant_of-result : goal.invariant_of-result
invariant_of-result c =
    c.all_rules_may_be_tried.ensures.normal (record { params = c.program.inside.params; body = c.optimise_body.new.body }) c.in_ok-optimise_body.ensures.still

pub returns : goal.returns
returns c =
    let q : ProgramTree = record { params = c.program.inside.params; body = c.optimise_body.new.body } in
    let body = c.in_ok-optimise_body.ensures.optimised in
    let done : Rewritten q c.args.p =
    program_rewritten (record { tidy = c.tidiness_is_kept.ensures.program; rewrites = c.bodies_are_rewritten.ensures.rewrites; chain = c.bodies_are_rewritten.ensures.chain })
    c.args.p c.program.inside.params c.program.inside.body.value c.deref_mut.result.now c.optimise_body.new.body body.0 c.program.invariant c.deref_mut.ensures.value body.1
    (c.program.view_is ∙ c.p.view_is) in
    let made : IsProgram q.params q.body =
    c.rewritten_programs.ensures.program q c.args.p done.rewrites (subst (λ (p : ProgramTree). IsProgram p.params p.body) (c.program.view_is ∙ c.p.view_is) c.program.invariant) in
    let accepted : IsAccepted c.args.p = subst IsAccepted c.p.view_is c.p.invariant in
    let known = c.rewritten_programs.ensures in
    record {
      optimised = record {
        params = done.rewrites.params;
        accepted = known.accepted q c.args.p done.rewrites accepted c.requires;
        normal = c.all_rules_may_be_tried.ensures.normal q c.in_ok-optimise_body.ensures.still;
        means = known.same_meaning q c.args.p done.rewrites accepted c.requires;
        loops = known.loops q c.args.p done.rewrites;
        chain = done.chain;
      };
      noted = known.noted q c.args.p done.rewrites accepted c.requires;
      spelled = spelled_by (record { spellable = c.texts_spell_the_spellable.ensures; printed = c.printed_programs_read_back.ensures.made }) q c.args.p done.rewrites made;
      legs = known.legs q c.args.p done.rewrites;
    }
