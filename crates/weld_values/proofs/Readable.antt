-- Which types have readable values.
use Rattle.weld_tree.specs.TypeTree.{TypeTree, TypeTrees, scalar, vec, struct as struct_of, dict as dict_of, build, no_types, more_types}
use Rattle.weld_tree.specs.Types.{IsWellFormed, AreWellFormed, IsBuilderFree, AreBuilderFree}
use Rattle.weld_values.specs.Judging.{IsReadable, AreReadable}

mutual
  pub formed_readable : (t : TypeTree) → IsWellFormed t → IsBuilderFree t → IsReadable t
  formed_readable (scalar k) w f = tt
  formed_readable (vec t) w f = formed_readable t w.0 f
  formed_readable (struct_of ts) w f = all_formed_readable ts w.1 f
  formed_readable (dict_of k v) w f = (w.0, formed_readable v w.1 w.2)
  formed_readable (build b) w f = absurd f

  all_formed_readable : (ts : TypeTrees) → AreWellFormed ts → AreBuilderFree ts → AreReadable ts
  all_formed_readable no_types w f = tt
  all_formed_readable (more_types t ts) w f = (formed_readable t w.0 f.0, all_formed_readable ts w.1 f.1)
