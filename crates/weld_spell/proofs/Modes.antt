-- Where the grammar stands between its tokens: behind an operand, behind the minus of one, or elsewhere.
use Rattle.std.proofs.Common.{◌≡◌, refl, Bool, true, false, ◌&&◌, cond, Option, Some, None, List, [], ◌∷◌}
use Rattle.std.proofs.lemmas.Bool.{false≢true}
use Rattle.weld_grammar.specs.declared.terminals.class.Class.{Class}
use Rattle.weld_grammar.specs.declared.terminals.class.Class.TheVariants as classes
use Rattle.weld_grammar.specs.declared.terminal.Terminal.{Terminal}
use Rattle.weld_grammar.specs.declared.terminal.Terminal.TheVariants.{Sign, Fixed, Word, Name, Number, Field, Chars}
use Rattle.weld_grammar.specs.declared.rule.Rule.{Rule}
use Rattle.weld_grammar.specs.declared.rule.Rule.TheVariants as r
use Rattle.weld_grammar.specs.declared.item.Item.{Item}
use Rattle.weld_grammar.specs.declared.item.Item.TheVariants.{One, Part as OfRule, Optional, Repeated}
use Rattle.weld_grammar.specs.Grammar.{Part, item, all_of, one_of}
use Rattle.weld_tokens.specs.Order.{ends_operand, is_minus}

-- no operand before, and no minus of one; behind an operand; behind the minus of one; not behind such a minus
pub data Mode : Type 0 where
  start : Mode
  operand : Mode
  minus : Mode
  any : Mode

-- an operand ends before, and a minus of one stands before
abbrev pub Fits : Mode → Bool → Bool → Type 0
Fits start op bh = (op ≡ false) × (bh ≡ false)
Fits operand op bh = (op ≡ true) × (bh ≡ false)
Fits minus op bh = (op ≡ false) × (bh ≡ true)
Fits any op bh = bh ≡ false

-- what fits the first fits the second
abbrev pub within : Mode → Mode → Bool
within start start = true
within start any = true
within operand operand = true
within operand any = true
within minus minus = true
within any any = true
within _ _ = false

pub widen : (m n : Mode) (op bh : Bool) → within m n ≡ true → Fits m op bh → Fits n op bh
widen start start op bh e f = f
widen start any op bh e f = f.1
widen operand operand op bh e f = f
widen operand any op bh e f = f.1
widen minus minus op bh e f = f
widen any any op bh e f = f
widen _ _ op bh e f = absurd (false≢true e)

pub within-same : (m : Mode) → within m m ≡ true
within-same start = refl
within-same operand = refl
within-same minus = refl
within-same any = refl

-- where a rule may begin, and where it ends
abbrev pub mode_in : Rule → Mode
mode_in r.NextParam = any
mode_in r.Param = any
mode_in r.Note = any
mode_in r.OrPart = operand
mode_in r.AndPart = operand
mode_in r.EqualityPart = operand
mode_in r.EqualityOp = any
mode_in r.RelationPart = operand
mode_in r.RelationOp = any
mode_in r.SumPart = operand
mode_in r.SumOp = operand
mode_in r.ProductPart = operand
mode_in r.ProductOp = any
mode_in r.Minused = minus
mode_in r.FieldPart = operand
mode_in r.NextExpr = operand
mode_in r.NextLeg = operand
mode_in r.Bind = any
mode_in r.Start = operand
mode_in r.AnyType = any
mode_in r.VecType = any
mode_in r.StructType = any
mode_in r.NextType = any
mode_in r.DictType = any
mode_in r.ListType = any
mode_in r.TotalType = any
mode_in r.KeyedType = any
mode_in r.CellsType = any
mode_in r.GroupsType = any
mode_in r.ListWord = any
mode_in r.GroupsWord = any
mode_in r.MergeOp = any
mode_in r.Kind = any
mode_in r.IntKind = any
mode_in _ = start

abbrev pub mode_out : Rule → Mode
mode_out r.NextParam = any
mode_out r.Param = any
mode_out r.Note = any
mode_out r.EqualityOp = start
mode_out r.RelationOp = start
mode_out r.SumOp = start
mode_out r.ProductOp = start
mode_out r.Bind = any
mode_out r.AnyType = any
mode_out r.VecType = any
mode_out r.StructType = any
mode_out r.NextType = any
mode_out r.DictType = any
mode_out r.ListType = any
mode_out r.TotalType = any
mode_out r.KeyedType = any
mode_out r.CellsType = any
mode_out r.GroupsType = any
mode_out r.ListWord = any
mode_out r.GroupsWord = any
mode_out r.MergeOp = any
mode_out r.Kind = any
mode_out r.IntKind = any
mode_out _ = operand

-- behind a minus
abbrev pub behind_minus : Mode → Option Mode
behind_minus start = Some minus
behind_minus operand = Some start
behind_minus minus = None
behind_minus any = None

-- behind a token of the class
abbrev pub behind_class : Mode → Class → Option Mode
behind_class m c = cond (ends_operand c) (Some operand) (cond (is_minus c) (behind_minus m) (Some start))

abbrev pub behind_terminal : Mode → Terminal → Option Mode
behind_terminal m (Sign s) = behind_class m (classes.Symbol s)
behind_terminal m (Fixed w) = behind_class m (classes.Reserved w)
behind_terminal m Word = Some any
behind_terminal m Name = Some operand
behind_terminal m Number = Some operand
behind_terminal m Field = Some operand
behind_terminal m Chars = Some operand

abbrev pub join : Mode → Mode → Mode
join m n = cond (within n m) m any

-- behind an item, but behind the minus of an operand
abbrev pub behind : Mode → Item → Option Mode
behind m (One a) = behind_terminal m a
behind m (OfRule q) = cond (within m (mode_in q)) (Some (mode_out q)) None
behind m (Optional q) = cond (within m (mode_in q) && within m (join m (mode_out q)) && within (mode_out q) (join m (mode_out q))) (Some (join m (mode_out q))) None
behind m (Repeated q) = cond (within m (mode_in q) && within (mode_out q) m) (Some m) None

abbrev pub reaches : Option Mode → Mode → Bool
reaches None out = false
reaches (Some m) out = within m out

-- a token of the part may stand there: no minus of an operand before a terminal
abbrev pub is_plain : Mode → Bool
is_plain minus = false
is_plain _ = true

abbrev pub and_on : Option Mode → (Mode → Bool) → Bool
and_on None f = false
and_on (Some m) f = f m

abbrev pub passes_item : Mode → Item → Mode → Bool
passes_item m (One a) out = is_plain m && reaches (behind_terminal m a) out
passes_item m i out = reaches (behind m i) out

abbrev pub passes_row : Mode → List Item → Mode → Bool
passes_row m [] out = within m out
passes_row m (i ∷ rest) out = and_on (behind m i) (λ n. passes_item m i n && passes_row n rest out)

abbrev pub passes_each : Mode → List Item → Mode → Bool
passes_each m [] out = true
passes_each m (i ∷ rest) out = passes_item m i out && passes_each m rest out

-- tokens of the part lead from the first mode to the second
abbrev pub passes : Mode → Part → Mode → Bool
passes m (item i) out = passes_item m i out
passes m (all_of s) out = passes_row m s out
passes m (one_of s) out = passes_each m s out
