use Rattle.std.proofs.Common.{◌≡◌, ◌∙◌, sym, ap, Some, None}
use Rattle.weld_tree.specs.declared.ty.TyForm.{TyForm}
use Rattle.weld_tree.specs.TypeView.{view_type}
use Rattle.weld_tree.specs.TypeTree.{struct, pack}
use Rattle.weld_table.proofs.TableTypes.{struct_columns, wanted_some, wanted_none}
use Rattle.weld_table.proofs.wanted.Wanted.of_type.Goals as goal

pub returns-in-Some : goal.returns-in-Some
returns-in-Some c =
    let is : c.args.ty.now ≡ struct (pack c.in-Struct.fields) = sym c.ty.view_is ∙ ap (λ (f : TyForm). view_type f) c.in-Struct.is in
    wanted_some c.args.ty.now c.in-Some.types (struct_columns c.args.ty.now c.in-Struct.fields (Some c.in-Some.types) is (sym c.in-Some.is ∙ c.in_ok-types-in-Struct.ensures))

pub returns-in-None : goal.returns-in-None
returns-in-None c =
    let is : c.args.ty.now ≡ struct (pack c.in-Struct.fields) = sym c.ty.view_is ∙ ap (λ (f : TyForm). view_type f) c.in-Struct.is in
    wanted_none c.args.ty.now (struct_columns c.args.ty.now c.in-Struct.fields None is (sym c.in-None.is ∙ c.in_ok-types-in-Struct.ensures))
