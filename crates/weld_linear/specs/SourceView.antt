-- The program's origins seen as those of the meaning.
use Rattle.weld_meaning.specs.Origin.{Origin, value, made, own, outer, named, struct}
use Rattle.weld_linear.specs.Sources.{pack_origins}
use Rattle.weld_linear.specs.declared.source.SourceForm.{SourceForm}
use Rattle.weld_linear.specs.declared.source.SourceForm.TheVariants.{Value, Made, Own, Outer, Named, Struct}

abbrev pub view_source : SourceForm → Origin
view_source Value = value
view_source Made = made
view_source (Own p) = own p
view_source Outer = outer
view_source (Named s p) = named s.0 p
view_source (Struct os) = struct (pack_origins os)
