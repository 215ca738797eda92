-- A rule's body as the grammar has it.
use Rattle.weld_grammar.specs.Grammar.{Part, all_of, one_of}
use Rattle.weld_accept.specs.declared.table.Production.{Production}
use Rattle.weld_accept.specs.declared.table.Production.TheVariants.{All, OneOf}

abbrev pub view_body : Production → Part
view_body (All items) = all_of items.now
view_body (OneOf items) = one_of items.now
