-- What owned names stand for.
use Rattle.std.specs.Prelude.{ℕ, List, map, reverse}
use Rattle.weld_meaning.specs.Thing.{Thing}
use Rattle.weld_meaning.specs.Evaluation.{Env}
use Rattle.weld_eval.specs.ThingView.{thing_of}
use Rattle.weld_eval.specs.declared.names.Named.{Named}
use Rattle.weld_eval.specs.declared.names.Names.{Names}

abbrev pub entry_of : Named → ℕ × Thing
entry_of n = (n.name.0, thing_of n.thing)

-- the newest name first
abbrev pub env_of_list : List Named → Env
env_of_list ns = reverse (map entry_of ns)

abbrev pub env_of_names : Names → Env
env_of_names ns = env_of_list ns.items.items
