use Rattle.weld_tokens.proofs.Spelled.{spelled_symbol, spelled_reserved}
use Rattle.weld_tokens.proofs.laws.spelled_tokens.Goals as goal

pub returns-clause-symbols : goal.returns-clause-symbols
returns-clause-symbols c = spelled_symbol

pub returns-clause-reserved : goal.returns-clause-reserved
returns-clause-reserved c = spelled_reserved
