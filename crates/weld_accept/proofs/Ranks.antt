-- How deep an item opens: the first item of a rule opens less deep than the rule.
use Rattle.std.proofs.Common.{◌≡◌, refl, ℕ, suc, ◌<◌, Bool, true, false, ◌&&◌, List, [], ◌∷◌, ltb, ap, sym, ◌∙◌, subst}
use Rattle.std.proofs.lemmas.Bool.{and_parts, cond-true, cond-false, ltb-true}
use Rattle.weld_grammar.specs.declared.terminals.class.Class.{Class}
use Rattle.weld_grammar.specs.declared.rule.Rule.{Rule}
use Rattle.weld_grammar.specs.declared.rule.Rule.TheVariants as r
use Rattle.weld_grammar.specs.declared.item.Item.{Item}
use Rattle.weld_grammar.specs.declared.item.Item.TheVariants.{One, Part as OfRule, Optional, Repeated}
use Rattle.weld_grammar.specs.Grammar.{Part, item, all_of, one_of, body}
use Rattle.weld_grammar.specs.Begins.{begins}
use Rattle.weld_grammar.specs.Pending.{first_begun}

abbrev pub rank_of : Rule → ℕ
rank_of r.Program = 14
rank_of r.WithoutParams = 1
rank_of r.WithParams = 1
rank_of r.NextParam = 1
rank_of r.Param = 1
rank_of r.Expr = 13
rank_of r.Let = 1
rank_of r.Note = 1
rank_of r.Or = 12
rank_of r.OrPart = 1
rank_of r.And = 11
rank_of r.AndPart = 1
rank_of r.Equality = 10
rank_of r.EqualityPart = 2
rank_of r.EqualityOp = 1
rank_of r.Relation = 9
rank_of r.RelationPart = 2
rank_of r.RelationOp = 1
rank_of r.Sum = 8
rank_of r.SumPart = 2
rank_of r.SumOp = 1
rank_of r.Product = 7
rank_of r.ProductPart = 2
rank_of r.ProductOp = 1
rank_of r.Unary = 6
rank_of r.Minus = 1
rank_of r.Minused = 7
rank_of r.Not = 1
rank_of r.Post = 5
rank_of r.FieldPart = 1
rank_of r.Primary = 4
rank_of r.Paren = 1
rank_of r.MakeVec = 1
rank_of r.MakeStruct = 1
rank_of r.NextExpr = 1
rank_of r.If = 1
rank_of r.Select = 1
rank_of r.LookUp = 1
rank_of r.KeyExists = 1
rank_of r.Len = 1
rank_of r.Slice = 1
rank_of r.Merge = 1
rank_of r.Finish = 1
rank_of r.For = 1
rank_of r.Iterate = 1
rank_of r.Cast = 2
rank_of r.Rows = 15
rank_of r.Zip = 1
rank_of r.NextLeg = 1
rank_of r.Leg = 14
rank_of r.Iter = 1
rank_of r.Bind = 1
rank_of r.Build = 3
rank_of r.ListBuild = 2
rank_of r.TotalBuild = 1
rank_of r.KeyedBuild = 1
rank_of r.CellsBuild = 1
rank_of r.GroupsBuild = 2
rank_of r.Start = 1
rank_of r.AnyType = 3
rank_of r.VecType = 1
rank_of r.StructType = 1
rank_of r.NextType = 1
rank_of r.DictType = 1
rank_of r.ListType = 2
rank_of r.TotalType = 1
rank_of r.KeyedType = 1
rank_of r.CellsType = 1
rank_of r.GroupsType = 2
rank_of r.ListWord = 1
rank_of r.GroupsWord = 1
rank_of r.MergeOp = 1
rank_of r.Kind = 2
rank_of r.IntKind = 1

abbrev pub rank : Item → ℕ
rank (One a) = 0
rank (OfRule r) = rank_of r
rank (Optional r) = suc (rank_of r)
rank (Repeated r) = suc (rank_of r)

all_below : List Item → ℕ → Bool
all_below [] n = ltb 0 n
all_below (i ∷ rest) n = ltb (rank i) n && all_below rest n

front_below : Part → ℕ → Bool
front_below (item i) n = ltb (rank i) n
front_below (all_of []) n = true
front_below (all_of (i ∷ rest)) n = ltb (rank i) n
front_below (one_of choices) n = all_below choices n

opens_less : (r : Rule) → front_below (body r) (rank_of r) ≡ true
unfolding front_below all_below
opens_less r.Program = refl
opens_less r.WithoutParams = refl
opens_less r.WithParams = refl
opens_less r.NextParam = refl
opens_less r.Param = refl
opens_less r.Expr = refl
opens_less r.Let = refl
opens_less r.Note = refl
opens_less r.Or = refl
opens_less r.OrPart = refl
opens_less r.And = refl
opens_less r.AndPart = refl
opens_less r.Equality = refl
opens_less r.EqualityPart = refl
opens_less r.EqualityOp = refl
opens_less r.Relation = refl
opens_less r.RelationPart = refl
opens_less r.RelationOp = refl
opens_less r.Sum = refl
opens_less r.SumPart = refl
opens_less r.SumOp = refl
opens_less r.Product = refl
opens_less r.ProductPart = refl
opens_less r.ProductOp = refl
opens_less r.Unary = refl
opens_less r.Minus = refl
opens_less r.Minused = refl
opens_less r.Not = refl
opens_less r.Post = refl
opens_less r.FieldPart = refl
opens_less r.Primary = refl
opens_less r.Paren = refl
opens_less r.MakeVec = refl
opens_less r.MakeStruct = refl
opens_less r.NextExpr = refl
opens_less r.If = refl
opens_less r.Select = refl
opens_less r.LookUp = refl
opens_less r.KeyExists = refl
opens_less r.Len = refl
opens_less r.Slice = refl
opens_less r.Merge = refl
opens_less r.Finish = refl
opens_less r.For = refl
opens_less r.Iterate = refl
opens_less r.Cast = refl
opens_less r.Rows = refl
opens_less r.Zip = refl
opens_less r.NextLeg = refl
opens_less r.Leg = refl
opens_less r.Iter = refl
opens_less r.Bind = refl
opens_less r.Build = refl
opens_less r.ListBuild = refl
opens_less r.TotalBuild = refl
opens_less r.KeyedBuild = refl
opens_less r.CellsBuild = refl
opens_less r.GroupsBuild = refl
opens_less r.Start = refl
opens_less r.AnyType = refl
opens_less r.VecType = refl
opens_less r.StructType = refl
opens_less r.NextType = refl
opens_less r.DictType = refl
opens_less r.ListType = refl
opens_less r.TotalType = refl
opens_less r.KeyedType = refl
opens_less r.CellsType = refl
opens_less r.GroupsType = refl
opens_less r.ListWord = refl
opens_less r.GroupsWord = refl
opens_less r.MergeOp = refl
opens_less r.Kind = refl
opens_less r.IntKind = refl

first_below : (choices : List Item) (x : Class) (n : ℕ) → all_below choices n ≡ true → rank (first_begun choices x) < n
unfolding all_below
first_below [] x n h = ltb-true 0 n h
first_below (i ∷ rest) x n h = let both = and_parts (ltb (rank i) n) (all_below rest n) h in cases (begins i x) refl (ltb-true (rank i) n both.0) (first_below rest x n both.1)
  where
    cases : (b : Bool) → begins i x ≡ b → rank i < n → rank (first_begun rest x) < n → rank (first_begun (i ∷ rest) x) < n
    cases true e h k = let P : Item → Type 0 = λ j. rank j < n in subst P (sym (cond-true (begins i x) i (first_begun rest x) e)) h
    cases false e h k = let P : Item → Type 0 = λ j. rank j < n in subst P (sym (cond-false (begins i x) i (first_begun rest x) e)) k

pub choice_below : (r : Rule) (choices : List Item) (x : Class) → one_of choices ≡ body r → rank (first_begun choices x) < rank_of r
unfolding front_below
choice_below r choices x e = first_below choices x (rank_of r) (ap (λ p. front_below p (rank_of r)) e ∙ opens_less r)

pub row_below : (r : Rule) (i : Item) (rest : List Item) → all_of (i ∷ rest) ≡ body r → rank i < rank_of r
unfolding front_below
row_below r i rest e = ltb-true (rank i) (rank_of r) (ap (λ p. front_below p (rank_of r)) e ∙ opens_less r)
