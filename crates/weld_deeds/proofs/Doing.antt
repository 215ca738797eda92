-- What is done row by row.
use Rattle.std.proofs.Common.{◌≡◌, ℕ, Result, Ok, Err, ap, ◌∙◌}
use Rattle.weld_data.specs.declared.stop.Stop.{Stop}
use Rattle.weld_data.specs.declared.stop.Stop.TheVariants.{Fault, Memory}
use Rattle.weld_builders.specs.Outcome.{map_out}
use Rattle.weld_meaning.specs.Thing.{Thing, several, Things, fields_of}
use Rattle.weld_acts.specs.Act.{Acts}
use Rattle.weld_deeds.specs.Deeds.{do_of, do_all, DoesAll}
use Rattle.weld_deeds.specs.declared.deed.Deed.{Deed}
use Rattle.weld_deeds.specs.declared.deed.Deed as deed
use Rattle.weld_deeds.specs.declared.deed.Deeds.{Deeds}

pub fields_done : {T : Type 0} (r : Result T Stop) (d : Deed) (ds : Deeds) (j : ℕ) (s : Thing) (ss ts : Things) → d ≡ deed.Fields ds → s ≡ several ss → DoesAll r (do_all ds j ss) ts → Acts r (do_of d j s) (several ts)
fields_done (Ok x) d ds j s ss ts e q h = ap (λ c. do_of c j s) e ∙ ap (λ t. map_out several (do_all ds j (fields_of t))) q ∙ ap (map_out several) h
fields_done (Err Fault) d ds j s ss ts e q h = ap (λ c. do_of c j s) e ∙ ap (λ t. map_out several (do_all ds j (fields_of t))) q ∙ ap (map_out several) h
fields_done (Err Memory) d ds j s ss ts e q h = tt
