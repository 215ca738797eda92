use Rattle.std.proofs.Common.{◌∙◌, subst}
use Rattle.weld_tree.specs.Program.{ProgramTree, IsProgram}
use Rattle.weld_meaning.specs.Accepted.{IsAccepted}
use Rattle.weld_rewriting.specs.Rewriting.{RewritesProgram}
use Rattle.weld_rewriting.proofs.Passed.{program_rewritten}
use Rattle.weld_rewriting.proofs.Spelled.{spelled_by}
use Rattle.weld_rewriting.proofs.pass.pass.run_pass.Goals as goal

pub invariant_of-program : goal.invariant_of-program
invariant_of-program g c =
    let q : ProgramTree = record { params = c.program.inside.params; body = c.sweep_until_still.new.e } in
    let swept = c.in_ok-sweep_until_still.ensures.swept in
    let done : RewritesProgram q c.args.p =
    program_rewritten (record { tidy = c.tidiness_is_kept.ensures.program; rounds = c.rounds_rewrite.ensures }) (g.R.Rule.rule c.args.rule.now) c.requires.sound
    c.args.p c.program.inside.params c.program.inside.body.value c.deref_mut.result.now c.sweep_until_still.new.e swept.0 c.program.invariant c.deref_mut.ensures.value swept.1
    (c.program.view_is ∙ c.p.view_is) in
    c.rewritten_programs.ensures.program q c.args.p done (subst (λ (p : ProgramTree). IsProgram p.params p.body) (c.program.view_is ∙ c.p.view_is) c.program.invariant)

pub invariant_of-result : goal.invariant_of-result
invariant_of-result g c =
    let q : ProgramTree = record { params = c.program.inside.params; body = c.sweep_until_still.new.e } in
    let swept = c.in_ok-sweep_until_still.ensures.swept in
    let done : RewritesProgram q c.args.p =
    program_rewritten (record { tidy = c.tidiness_is_kept.ensures.program; rounds = c.rounds_rewrite.ensures }) (g.R.Rule.rule c.args.rule.now) c.requires.sound
    c.args.p c.program.inside.params c.program.inside.body.value c.deref_mut.result.now c.sweep_until_still.new.e swept.0 c.program.invariant c.deref_mut.ensures.value swept.1
    (c.program.view_is ∙ c.p.view_is) in
    let accepted : IsAccepted c.args.p = subst IsAccepted c.p.view_is c.p.invariant in
    c.rewritten_programs.ensures.accepted q c.args.p done accepted c.requires.noted

pub returns : goal.returns
returns g c =
    let q : ProgramTree = record { params = c.program.inside.params; body = c.sweep_until_still.new.e } in
    let swept = c.in_ok-sweep_until_still.ensures.swept in
    let done : RewritesProgram q c.args.p =
    program_rewritten (record { tidy = c.tidiness_is_kept.ensures.program; rounds = c.rounds_rewrite.ensures }) (g.R.Rule.rule c.args.rule.now) c.requires.sound
    c.args.p c.program.inside.params c.program.inside.body.value c.deref_mut.result.now c.sweep_until_still.new.e swept.0 c.program.invariant c.deref_mut.ensures.value swept.1
    (c.program.view_is ∙ c.p.view_is) in
    let made : IsProgram q.params q.body =
    c.rewritten_programs.ensures.program q c.args.p done (subst (λ (p : ProgramTree). IsProgram p.params p.body) (c.program.view_is ∙ c.p.view_is) c.program.invariant) in
    let accepted : IsAccepted c.args.p = subst IsAccepted c.p.view_is c.p.invariant in
    record {
      passed = record {
        accepted = c.rewritten_programs.ensures.accepted q c.args.p done accepted c.requires.noted;
        noted = c.rewritten_programs.ensures.noted q c.args.p done accepted c.requires.noted;
        params = done.params;
        same_meaning = c.rewritten_programs.ensures.same_meaning q c.args.p done accepted c.requires.noted;
        spelled = spelled_by (record { spellable = c.texts_spell_the_spellable.ensures; printed = c.printed_programs_read_back.ensures.made }) q c.args.p done made;
        no_more_legs = c.rewritten_programs.ensures.legs q c.args.p done;
        no_more_loops = c.rewritten_programs.ensures.loops q c.args.p done;
      };
      still = c.in_ok-sweep_until_still.ensures.still;
    }
