use Rattle.weld_passes.specs.Normal.{all_rules}
use Rattle.weld_passes.proofs.Existing.{normal_form}
use Rattle.weld_passes.proofs.laws.each_program_has_a_normal_form.Goals as goal

pub returns : goal.returns
returns c =
    let falls = c.all_rules_may_be_tried.ensures.falls in
    normal_form
    (record {
      rounds = record { lighter = λ e m. c.sweeps_fall.ensures.lighter all_rules e falls m; still = λ e m. c.sweeps_fall.ensures.still all_rules e m };
      normal = c.all_rules_may_be_tried.ensures.normal;
      bodies = record { tidy = c.tidiness_is_kept.ensures.program; rewrites = c.bodies_are_rewritten.ensures.rewrites; chain = c.bodies_are_rewritten.ensures.chain };
      accepted = c.rewritten_programs.ensures.accepted;
      means = c.rewritten_programs.ensures.same_meaning;
      programs = c.rewritten_programs.ensures.program;
      fewer = c.rewritten_programs.ensures.loops;
      walk = c.the_walk_is_typing.ensures.expression;
      program_walk = c.the_walk_is_typing.ensures.program;
      unique = c.types_are_unique.ensures;
      linear = c.the_walk_is_linear_use.ensures;
      noted = c.notes_play_no_part.ensures.linear;
    })
    (record { spellable = c.texts_spell_the_spellable.ensures; printed = c.printed_programs_read_back.ensures.made })
