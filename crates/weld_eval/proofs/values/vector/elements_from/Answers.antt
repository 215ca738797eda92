use Rattle.std.proofs.Common.{map, take, drop, ap, sym, ◌∙◌}
use Rattle.weld_data.specs.View.{view_column}
use Rattle.weld_eval.proofs.VectorLemmas.{map_part}
use Rattle.weld_eval.proofs.values.vector.elements_from.Goals as goal

pub returns-in_ok-items_from-in-Bool : goal.returns-in_ok-items_from-in-Bool
returns-in_ok-items_from-in-Bool c =
    ap (map _) c.in_ok-items_from-in-Bool.ensures
    ∙ map_part _ c.args.count c.args.start c.in-Bool.items
    ∙ ap (λ u. take c.args.count (drop c.args.start (view_column u))) (sym c.in-Bool.is)

pub returns-in_ok-i8s_from-in-I8 : goal.returns-in_ok-i8s_from-in-I8
returns-in_ok-i8s_from-in-I8 c =
    ap (map _) c.in_ok-i8s_from-in-I8.ensures
    ∙ map_part _ c.args.count c.args.start c.in-I8.items
    ∙ ap (λ u. take c.args.count (drop c.args.start (view_column u))) (sym c.in-I8.is)

pub returns-in_ok-items_from-in-I16 : goal.returns-in_ok-items_from-in-I16
returns-in_ok-items_from-in-I16 c =
    ap (map _) c.in_ok-items_from-in-I16.ensures
    ∙ map_part _ c.args.count c.args.start c.in-I16.items
    ∙ ap (λ u. take c.args.count (drop c.args.start (view_column u))) (sym c.in-I16.is)

pub returns-in_ok-items_from-in-I32 : goal.returns-in_ok-items_from-in-I32
returns-in_ok-items_from-in-I32 c =
    ap (map _) c.in_ok-items_from-in-I32.ensures
    ∙ map_part _ c.args.count c.args.start c.in-I32.items
    ∙ ap (λ u. take c.args.count (drop c.args.start (view_column u))) (sym c.in-I32.is)

pub returns-in_ok-items_from-in-I64 : goal.returns-in_ok-items_from-in-I64
returns-in_ok-items_from-in-I64 c =
    ap (map _) c.in_ok-items_from-in-I64.ensures
    ∙ map_part _ c.args.count c.args.start c.in-I64.items
    ∙ ap (λ u. take c.args.count (drop c.args.start (view_column u))) (sym c.in-I64.is)

pub returns-in_ok-items_from-in-U8 : goal.returns-in_ok-items_from-in-U8
returns-in_ok-items_from-in-U8 c =
    ap (map _) c.in_ok-items_from-in-U8.ensures
    ∙ map_part _ c.args.count c.args.start c.in-U8.items
    ∙ ap (λ u. take c.args.count (drop c.args.start (view_column u))) (sym c.in-U8.is)

pub returns-in_ok-items_from-in-U16 : goal.returns-in_ok-items_from-in-U16
returns-in_ok-items_from-in-U16 c =
    ap (map _) c.in_ok-items_from-in-U16.ensures
    ∙ map_part _ c.args.count c.args.start c.in-U16.items
    ∙ ap (λ u. take c.args.count (drop c.args.start (view_column u))) (sym c.in-U16.is)

pub returns-in_ok-items_from-in-U32 : goal.returns-in_ok-items_from-in-U32
returns-in_ok-items_from-in-U32 c =
    ap (map _) c.in_ok-items_from-in-U32.ensures
    ∙ map_part _ c.args.count c.args.start c.in-U32.items
    ∙ ap (λ u. take c.args.count (drop c.args.start (view_column u))) (sym c.in-U32.is)

pub returns-in_ok-items_from-in-U64 : goal.returns-in_ok-items_from-in-U64
returns-in_ok-items_from-in-U64 c =
    ap (map _) c.in_ok-items_from-in-U64.ensures
    ∙ map_part _ c.args.count c.args.start c.in-U64.items
    ∙ ap (λ u. take c.args.count (drop c.args.start (view_column u))) (sym c.in-U64.is)
