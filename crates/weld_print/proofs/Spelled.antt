-- A type that tokens spell has no empty struct.
use Rattle.std.specs.Prelude.{ℕ, List}
use Rattle.std.proofs.Common.{subst}
use Rattle.weld_tree.specs.TypeTree.{TypeTree}
use Rattle.weld_print.specs.TypeText.{type_text}
use Rattle.weld_print.specs.Texts.{TextSpellsType}
use Rattle.weld_print.proofs.ReadsBackTypes.{type_reads_back}
use Rattle.weld_grammar.specs.declared.terminals.token.Token.{Token}
use Rattle.weld_grammar.specs.Derivation.{Tree, node, pair, here, there}
use Rattle.weld_spell.specs.TypeOf.{type_of, next_types_of}
use Rattle.weld_print.specs.Spellable.{HasNoEmptyStruct, HaveNoEmptyStruct}

mutual
  pub type_made : (t : Tree Token) → HasNoEmptyStruct (type_of t)
  type_made (node (here t)) = tt
  type_made (node (there (here (node (pair a (pair b (pair t rest))))))) = type_made t
  type_made (node (there (there (here (node (pair a (pair t (pair u rest)))))))) = (tt, (type_made t, next_made u))
  type_made (node (there (there (there (here (node (pair a (pair b (pair t (pair c (pair u rest))))))))))) = (type_made t, type_made u)
  type_made (node (there (there (there (there (here (node (pair a (pair b (pair t rest)))))))))) = type_made t
  type_made (node (there (there (there (there (there (here (node (pair a (pair b (pair t (pair c (pair o rest))))))))))))) = type_made t
  type_made (node (there (there (there (there (there (there (here (node (pair a (pair b (pair t (pair c (pair u (pair d (pair o rest)))))))))))))))) = (type_made t, type_made u)
  type_made (node (there (there (there (there (there (there (there (here (node (pair a (pair b (pair t (pair c (pair o rest))))))))))))))) = type_made t
  type_made (node (there (there (there (there (there (there (there (there (here (node (pair a (pair b (pair t (pair c (pair u rest)))))))))))))))) = (type_made t, type_made u)
  type_made _ = tt

  next_made : (t : Tree Token) → HaveNoEmptyStruct (next_types_of t)
  next_made (pair (node (pair a (pair t rest))) u) = (type_made t, next_made u)
  next_made _ = tt

-- where some text spells the type, its printed text does
pub spelled_reads_back : (text : List ℕ) (t : TypeTree) → TextSpellsType text t → TextSpellsType (type_text t) t
spelled_reads_back text t s = type_reads_back t (subst HasNoEmptyStruct s.spells.value (type_made s.spells.tree))
