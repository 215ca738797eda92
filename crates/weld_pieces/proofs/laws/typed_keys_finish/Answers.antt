use Rattle.weld_pieces.proofs.KeptKeys.{typed_keys_agree, typed_keys_are_kept}
use Rattle.weld_pieces.proofs.laws.typed_keys_finish.Goals as goal

pub returns : goal.returns
returns c = record { kept = typed_keys_are_kept c.one_key_type.ensures.is_key; one_type = typed_keys_agree c.one_key_type.ensures.shared }
