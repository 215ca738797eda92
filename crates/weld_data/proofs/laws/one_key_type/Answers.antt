use Rattle.weld_data.proofs.Keys.{SameKeyType_sym, key_types_agree, key_of_type, key_typed}
use Rattle.weld_data.proofs.laws.one_key_type.Goals as goal

pub returns-clause-symmetric : goal.returns-clause-symmetric
returns-clause-symmetric c = SameKeyType_sym

pub returns-clause-shared : goal.returns-clause-shared
returns-clause-shared c = key_types_agree

pub returns-clause-is_key : goal.returns-clause-is_key
returns-clause-is_key c = key_of_type

pub returns-clause-has_type : goal.returns-clause-has_type
returns-clause-has_type c = key_typed
