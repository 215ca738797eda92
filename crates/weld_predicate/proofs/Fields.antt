-- The neutral numbers of a struct's fields, one by one.
use Rattle.std.proofs.Common.{◌≡◌, ℕ, ◌≤◌, List, [], ◌∷◌, length, map, take, refl, ap, ◌∙◌}
use Rattle.std.proofs.lemmas.List.{take_all}
use Rattle.weld_data.specs.declared.op.MergeOp.{MergeOp}
use Rattle.weld_tree.specs.declared.place.Place.{Place}
use Rattle.weld_tree.specs.TypeTree.{TypeTree, pack}
use Rattle.weld_tree.specs.ExprTree.{pack_exprs, more_exprs}
use Rattle.weld_predicate.specs.Neutral.{neutral, neutrals}

each_neutral : (place : Place) (op : MergeOp) (ts : List TypeTree) → pack_exprs (map (neutral place op) ts) ≡ neutrals place op (pack ts)
each_neutral place op [] = refl
each_neutral place op (t ∷ ts) = ap (more_exprs (neutral place op t)) (each_neutral place op ts)

pub all_neutral : (place : Place) (op : MergeOp) (ts : List TypeTree) (i : ℕ) → length ts ≤ i → pack_exprs (map (neutral place op) (take i ts)) ≡ neutrals place op (pack ts)
all_neutral place op ts i h = ap (λ (us : List TypeTree). pack_exprs (map (neutral place op) us)) (take_all i ts h) ∙ each_neutral place op ts
