use Rattle.std.proofs.Common.{sym, ◌∙◌}
use Rattle.weld_parse.proofs.Answering.{judged_program, judged_refused, judged_accepted}
use Rattle.weld_parse.proofs.reading.judge.Goals as goal

pub invariant_of-result : goal.invariant_of-result
invariant_of-result c =
    let f = c.found_in-found.ensures in
    judged_program c.numbers_by_the_tree.ensures (record { parameters = c.parameters_by_the_tree.ensures; fields = c.fields_by_the_tree.ensures; types = c.types_by_the_tree.ensures }) c.spelled_programs.ensures _ _ _ _ c.requires.read c.found_in-found.result (record {
      ungrammatical = f.ungrammatical;
      out_of_range = f.out_of_range;
      too_deep = f.too_deep;
      too_many_lets = f.too_many_lets;
      too_large_type = f.too_large_type;
      too_many_parameters = f.too_many_parameters;
      too_many_fields = f.too_many_fields;
      misnamed_is = f.misnamed;
    }) (sym c.first_refusal_within.ensures ∙ c.in-None.is)

pub returns-in-Some-clause-refused : goal.returns-in-Some-clause-refused
returns-in-Some-clause-refused c =
    let f = c.found_in-found.ensures in
    judged_refused c.numbers_by_the_tree.ensures (record { parameters = c.parameters_by_the_tree.ensures; fields = c.fields_by_the_tree.ensures; types = c.types_by_the_tree.ensures }) _ _ _ _ c.requires.read c.found_in-found.result (record {
      ungrammatical = f.ungrammatical;
      out_of_range = f.out_of_range;
      too_deep = f.too_deep;
      too_many_lets = f.too_many_lets;
      too_large_type = f.too_large_type;
      too_many_parameters = f.too_many_parameters;
      too_many_fields = f.too_many_fields;
      misnamed_is = f.misnamed;
    }) _ (sym c.first_refusal_within.ensures ∙ c.in-Some.is)

pub returns-in-None-clause-program : goal.returns-in-None-clause-program
returns-in-None-clause-program c =
    let f = c.found_in-found.ensures in
    judged_accepted c.numbers_by_the_tree.ensures (record { parameters = c.parameters_by_the_tree.ensures; fields = c.fields_by_the_tree.ensures; types = c.types_by_the_tree.ensures }) _ _ _ _ c.requires.read c.found_in-found.result (record {
      ungrammatical = f.ungrammatical;
      out_of_range = f.out_of_range;
      too_deep = f.too_deep;
      too_many_lets = f.too_many_lets;
      too_large_type = f.too_large_type;
      too_many_parameters = f.too_many_parameters;
      too_many_fields = f.too_many_fields;
      misnamed_is = f.misnamed;
    }) (sym c.first_refusal_within.ensures ∙ c.in-None.is)
