use Rattle.weld_read_script.proofs.RequestsSound.{resolved_sound, objects_sound, request_sound}
use Rattle.weld_read_script.proofs.requests.laws.requests_are_sound.Goals as goal

pub returns : goal.returns
returns c = record { resolved = resolved_sound; shown = objects_sound; requests = request_sound }
