-- The normal form of programs, and what stands in a program's place when it is run or shown.
use Rattle.std.specs.Prelude.{◌≡◌, ◌+◌, ◌≤◌, ℕ, false}
use Rattle.weld_tree.specs.Blank.{AreSame}
use Rattle.weld_tree.specs.ExprTree.{ExprTree}
use Rattle.weld_tree.specs.Program.{ProgramTree, loops}
use Rattle.weld_check_types.specs.Unnoted.{IsSameButNotes}
use Rattle.weld_print.specs.PrintText.{program_text}
use Rattle.weld_print.specs.Texts.{TextSpellsSoundly}
use Rattle.weld_rewriting.specs.Sweep.{RootRule, swept_times}
use Rattle.weld_rewriting.specs.Either.{either}
use Rattle.weld_rewriting.specs.Followed.{followed}
use Rattle.weld_meaning.specs.Accepted.{IsAccepted}
use Rattle.weld_rewriting.specs.Rewriting.{SameMeaning}
use Rattle.weld_inline.specs.Inlining.{HasNoSuchLet, lets_rule}
use Rattle.weld_predicate.specs.Predicating.{HasNoGuard, guards_rule}
use Rattle.weld_vertical.specs.Chains.{IsChainProgram, chain_fused}
use Rattle.weld_vertical.specs.Fusing.{HasNoSuchLoop, loops_rule}
use Rattle.weld_vertical_struct.specs.Held.{HasNoHeldLoop, held_rule, opened_rule, opened_producer}
use Rattle.weld_vertical_held.specs.Rule.{HasNoListHandedOver, handing_rule}
use Rattle.weld_vertical_zip.specs.Zips.{HasNoMadeLeg, zips_rule}
use Rattle.weld_vertical_zip_held.specs.Rule.{HasNoZipHandedOver, zip_handing_rule}
use Rattle.weld_vertical_zip.specs.Zipping.{is_zipped}
use Rattle.weld_rewriting.specs.Nodes.{EachNode}
use Rattle.weld_horizontal.specs.Doubles.{HasNoDouble, doubles_rule}
use Rattle.weld_joining.specs.Joining.{HasNoPair, beside_rule}

-- a list on a leg of a `zip` isn't made, and the legs that stand twice then go at once, up to so many
abbrev pub spare_legs_rule : RootRule
spare_legs_rule = followed 16 zips_rule doubles_rule

-- a list on a leg of a `zip` isn't made, also where the loop that makes it holds its builder in pairs
abbrev pub held_legs_rule : RootRule
held_legs_rule = opened_rule zips_rule

-- no node of the expression is a `zip` with such a leg
abbrev pub HasNoHeldLeg : ExprTree → Type 0
HasNoHeldLeg e = EachNode (λ node. is_zipped (opened_producer node) ≡ false) e

-- the rules on the legs of a loop, and on loops side by side
abbrev pub legs_rules : RootRule
legs_rules = either doubles_rule (either spare_legs_rule (either held_legs_rule (either zip_handing_rule beside_rule)))

-- the rules of all passes as one
abbrev pub all_rules : RootRule
all_rules = either lets_rule (either guards_rule (either loops_rule (either held_rule (either handing_rule legs_rules))))

-- the body after so many sweeps with them, once its chain of loops was fused
abbrev pub optimised_body : ℕ → ExprTree → ExprTree
optimised_body n e = swept_times n all_rules (chain_fused e)

-- nothing stands in the program that a pass would rewrite (as far as this project goes): no `let` that can be put in
-- place, no guarded merge that can be merged always, no loop over what another loop makes that merges once, wherever it holds its
-- builder, no such list on a leg of a `zip` that is merged into in every row, no leg that stands twice in one loop, and no two lets of
-- loops over one name or of their results with none but results of names between them
pub record IsNormal (q : ProgramTree) : Type 0 where
  pub no_let : HasNoSuchLet q.body
  pub no_guard : HasNoGuard q.body
  pub no_loop_over_a_loop : HasNoSuchLoop q.body
  pub no_held_loop : HasNoHeldLoop q.body
  pub no_list_handed_over : HasNoListHandedOver q.body
  pub no_made_leg : HasNoMadeLeg q.body
  pub no_held_leg : HasNoHeldLeg q.body
  pub no_zip_handed_over : HasNoZipHandedOver q.body
  pub no_leg_twice : HasNoDouble q.body
  pub no_loops_side_by_side : HasNoPair q.body

-- the first program is accepted and in normal form; it means what the second means on all arguments that fit, faults included,
-- and has no more loops; and where the second is a chain of loops, as many less as follow the first loop of the chain
pub record IsOptimised (q p : ProgramTree) : Type 0 where
  pub params : q.params ≡ p.params
  pub accepted : IsAccepted q
  pub normal : IsNormal q
  pub means : SameMeaning q p
  pub chain : (k : ℕ) → IsChainProgram k p.body → loops q.body + k ≤ loops p.body
  pub loops : loops q.body ≤ loops p.body

-- some optimised program may stand in the place of this one with its types noted, and its printed text reads back as it
pub record HasNormalForm (p : ProgramTree) : Type 0 where
  pub noted : ProgramTree
  pub same : IsSameButNotes noted p
  pub normal : ProgramTree
  pub optimised : IsOptimised normal noted
  pub read : ProgramTree
  pub spelled : TextSpellsSoundly (program_text normal) read
  pub reads_back : AreSame normal read

-- some optimised program may stand in the place of this one with its types noted
pub record CanBeOptimised (p : ProgramTree) : Type 0 where
  pub noted : ProgramTree
  pub same : IsSameButNotes noted p
  pub normal : ProgramTree
  pub optimised : IsOptimised normal noted
