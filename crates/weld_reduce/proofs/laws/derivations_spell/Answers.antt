use Rattle.weld_reduce.proofs.Programs.{spelled, spelled_type}
use Rattle.weld_reduce.proofs.laws.derivations_spell.Goals as goal

pub returns-clause-programs : goal.returns-clause-programs
returns-clause-programs c = λ tree h ranged read. spelled tree h ranged read

pub returns-clause-types : goal.returns-clause-types
returns-clause-types c = λ tree h. spelled_type tree h
