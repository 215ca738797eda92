use Rattle.weld_text_laws.proofs.RoundTrip.{round_trip}
use Rattle.weld_text_laws.proofs.round_trip.parsed_programs_read_back.Goals as goal

pub returns : goal.returns
returns c = round_trip (record {
  parsed = c.parsed_programs.ensures;
  printed = c.printed_programs_read_back.ensures.spelled;
  answered = c.parsed_or_refused.ensures;
  one_list = c.one_reading.ensures.tokens;
  not_both = c.one_reading.ensures.not_both;
  one_program = c.one_program.ensures;
  are_derived = c.programs_are_derived.ensures.derived;
  unbroken = c.one_break.ensures.derived;
  one_tree = c.one_tree_of_tokens.ensures;
})
