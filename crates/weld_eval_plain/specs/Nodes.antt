-- What a node is.
use Rattle.std.specs.Prelude.{Bool, not}
use Rattle.weld_tree.specs.declared.expr.TwoForm.{TwoForm}
use Rattle.weld_tree.specs.declared.expr.TwoForm.TheVariants as forms
use Rattle.weld_tree.specs.ExprTree.{ExprTree, LegTree, whole, strided, one, two, three, many, let_in, loop, iterate, Two, binary, and, or, look_up, key_exists, merge, Three, if_else, select, slice}
use Rattle.weld_eval.specs.Takes.{IsStrict}
use Rattle.weld_eval_forms.specs.FormTakes.{AreAllEvaluated}

abbrev pub IsOne : ExprTree → Type 0
IsOne (one a o e) = Unit {0}
IsOne _ = ⊥

-- the form evaluates its second part only where it decides
abbrev pub IsEitherForm : Two → Type 0
IsEitherForm (binary op) = ⊥
IsEitherForm and = Unit {0}
IsEitherForm or = Unit {0}
IsEitherForm look_up = ⊥
IsEitherForm key_exists = ⊥
IsEitherForm merge = ⊥

-- the first part, which is this truth value, decides alone: `&&` where it is false, `||` where it is true
abbrev pub decided : TwoForm → Bool → Bool
decided forms.And c = not c
decided _ c = c

abbrev pub IsEither : ExprTree → Type 0
IsEither (two a o e f) = IsEitherForm o
IsEither _ = ⊥

-- a node of two parts that evaluates both
abbrev pub IsBoth : ExprTree → Type 0
IsBoth (two a o e f) = IsStrict o
IsBoth _ = ⊥

abbrev pub IsIfForm : Three → Type 0
IsIfForm if_else = Unit {0}
IsIfForm select = ⊥
IsIfForm slice = ⊥

abbrev pub IsIf : ExprTree → Type 0
IsIf (three a o c e f) = IsIfForm o
IsIf _ = ⊥

-- a node of three parts that evaluates all of them
abbrev pub IsThree : ExprTree → Type 0
IsThree (three a o c e f) = AreAllEvaluated o
IsThree _ = ⊥

abbrev pub IsMany : ExprTree → Type 0
IsMany (many a o es) = Unit {0}
IsMany _ = ⊥

abbrev pub IsLet : ExprTree → Type 0
IsLet (let_in a b e f) = Unit {0}
IsLet _ = ⊥

abbrev pub IsLoop : ExprTree → Type 0
IsLoop (loop a ls e b n x f) = Unit {0}
IsLoop _ = ⊥

abbrev pub IsIterate : ExprTree → Type 0
IsIterate (iterate a e b f) = Unit {0}
IsIterate _ = ⊥

abbrev pub IsStrided : LegTree → Type 0
IsStrided (whole e) = ⊥
IsStrided (strided e f g h) = Unit {0}
