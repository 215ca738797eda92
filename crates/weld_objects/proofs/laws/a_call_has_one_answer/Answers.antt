use Rattle.weld_objects.proofs.Growing.{fits_or_refused, one_refusal}
use Rattle.weld_objects.proofs.laws.a_call_has_one_answer.Goals as goal

pub returns : goal.returns
returns c = record {
  added = λ os ids p f accepted. fits_or_refused os ids p.params f accepted.typed.1.params;
  refused = λ os ids p. one_refusal os ids p.params;
}
