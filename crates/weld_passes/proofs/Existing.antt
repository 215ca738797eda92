-- Each program has a normal form.
use Rattle.std.proofs.Common.{◌≡◌, ◌↔◌, ℕ, zero, suc, ◌<◌, ◌≤◌, Bool, true, false, List, [], None, refl, sym, ◌∙◌, arith}
use Rattle.weld_tree.specs.ExprTree.{ExprTree}
use Rattle.weld_tree.specs.TypeTree.{TypeTree}
use Rattle.weld_tree.specs.Program.{ProgramTree, IsProgram, loops}
use Rattle.weld_meaning.specs.Accepted.{IsAccepted}
use Rattle.weld_meaning.specs.Available.{Splits}
use Rattle.weld_meaning.specs.Linear.{Keeps}
use Rattle.weld_meaning.specs.LinearWalk.{linear_refusal}
use Rattle.weld_types.specs.Walk.{found, program_type}
use Rattle.weld_check_types.specs.Noted.{typed_program}
use Rattle.weld_check_types.specs.Notes.{ProgramIsNoted}
use Rattle.weld_check_types.specs.Typed.{IsTyped}
use Rattle.weld_check_types.proofs.Found.{WalkIsTyping, ProgramWalkIsTyping, TypesAreUnique, program_made, same_program, typed_if_found}
use Rattle.weld_check_types.specs.Unnoted.{IsSameButNotes}
use Rattle.weld_print.specs.Texts.{TextSpells}
use Rattle.weld_rewriting.specs.Sweep.{RootRule, swept, swept_times, moves, IsStill}
use Rattle.weld_rewriting.specs.Rewriting.{RewritesProgram, SameMeaning}
use Rattle.weld_rewriting.specs.Weight.{weight}
use Rattle.weld_rewriting.proofs.Spelled.{TextLaws, spelled_by}
use Rattle.weld_vertical.specs.Chains.{chain_fused}
use Rattle.weld_passes.specs.Normal.{all_rules, optimised_body, IsNormal, IsOptimised, HasNormalForm, CanBeOptimised}
use Rattle.weld_passes.proofs.Bodies.{BodyLaws, Rewritten, rewritten_body}

-- the laws of rounds that this rests on, for one rule
pub record RoundsKnown (r : RootRule) : Type 0 where
  pub lighter : (e : ExprTree) → moves r e ≡ true → weight (swept r e) < weight e
  pub still : (e : ExprTree) → moves r e ≡ false → IsStill r e

step : (r : RootRule) → RoundsKnown r → (e : ExprTree) (b : Bool) → moves r e ≡ b
    → (weight (swept r e) < weight e → (n : ℕ) × IsStill r (swept_times n r (swept r e))) → (n : ℕ) × IsStill r (swept_times n r e)
step r known e false m f = (zero, known.still e m)
step r known e true m f = let k = f (known.lighter e m) in (suc k.0, k.1)

-- rounds end
rounds_end : (r : RootRule) → RoundsKnown r → (k : ℕ) (e : ExprTree) → weight e ≤ k → (n : ℕ) × IsStill r (swept_times n r e)
rounds_end r known zero e l = step r known e (moves r e) refl (λ lt. absurd (omega (arith, lt, l)))
rounds_end r known (suc k) e l = step r known e (moves r e) refl (λ lt. rounds_end r known k (swept r e) (omega (arith, lt, l)))

-- the laws of programs that this rests on
pub record Known : Type 0 where
  pub rounds : RoundsKnown all_rules
  pub normal : (p : ProgramTree) → IsStill all_rules p.body → IsNormal p
  pub bodies : BodyLaws
  pub accepted : (q p : ProgramTree) → RewritesProgram q p → IsAccepted p → ProgramIsNoted p → IsAccepted q
  pub means : (q p : ProgramTree) → RewritesProgram q p → IsAccepted p → ProgramIsNoted p → SameMeaning q p
  pub programs : (q p : ProgramTree) → RewritesProgram q p → IsProgram p.params p.body → IsProgram q.params q.body
  pub fewer : (q p : ProgramTree) → RewritesProgram q p → loops q.body ≤ loops p.body
  pub walk : WalkIsTyping
  pub program_walk : ProgramWalkIsTyping
  pub unique : TypesAreUnique
  pub linear : (p : ProgramTree) → (linear_refusal p ≡ None) ↔ (Keeps p.body [] × Splits p.body [])
  pub noted : (p q : ProgramTree) → IsSameButNotes p q → linear_refusal p ≡ linear_refusal q

-- an optimised program in the place of one whose types are noted
record NormalOf (m : ProgramTree) : Type 0 where
  normal : ProgramTree
  rewrites : RewritesProgram normal m
  optimised : IsOptimised normal m

normal_of : Known → (m : ProgramTree) (t : TypeTree) → IsProgram m.params m.body → IsTyped m t → linear_refusal m ≡ None → NormalOf m
normal_of known m t made typed linear =
    let uses = (known.linear m).0 linear in
    let accepted : IsAccepted m = record { typed = (t, typed.has); keeps = uses.0; splits = uses.1 } in
    let front = chain_fused m.body in
    let ends = rounds_end all_rules known.rounds (weight front) front (omega arith) in
    let q : ProgramTree = record { params = m.params; body = optimised_body ends.0 m.body } in
    let w : Rewritten q m = rewritten_body known.bodies m.params m.body m.body q.body ends.0 made refl refl in
    let rewritten : RewritesProgram q m = w.rewrites in
    record {
      normal = q;
      rewrites = rewritten;
      optimised = record {
        params = refl;
        accepted = known.accepted q m rewritten accepted typed.noted;
        normal = known.normal q ends.1;
        means = known.means q m rewritten accepted typed.noted;
        loops = known.fewer q m rewritten;
        chain = w.chain;
      };
    }

-- the program with its types noted
noted_typed : Known → (p : ProgramTree) (t : TypeTree) → IsProgram p.params p.body → program_type p ≡ found t → IsTyped (typed_program p) t
noted_typed known p t made typed = typed_if_found p t known.walk known.program_walk known.unique made typed

pub normal_form : Known → TextLaws → (text : List ℕ) (p : ProgramTree) (t : TypeTree) → TextSpells text p → IsProgram p.params p.body → program_type p ≡ found t → linear_refusal p ≡ None → HasNormalForm p
normal_form known texts text p t s made typed linear =
    let m : ProgramTree = typed_program p in
    let made_too : IsProgram m.params m.body = program_made p.params p.body made in
    let n = normal_of known m t made_too (noted_typed known p t made typed) (known.noted m p (same_program p) ∙ linear) in
    let read = spelled_by texts n.normal m n.rewrites (known.programs n.normal m n.rewrites made_too) text p s (sym (same_program p)) in
    record {
      noted = m;
      same = same_program p;
      normal = n.normal;
      optimised = n.optimised;
      read = read.0;
      spelled = read.1;
      reads_back = read.2;
    }

pub optimisable : Known → (p : ProgramTree) (t : TypeTree) → IsProgram p.params p.body → IsAccepted p → program_type p ≡ found t → CanBeOptimised p
optimisable known p t made accepted typed =
    let m : ProgramTree = typed_program p in
    let linear : linear_refusal p ≡ None = (known.linear p).1 (accepted.keeps, accepted.splits) in
    let n = normal_of known m t (program_made p.params p.body made) (noted_typed known p t made typed) (known.noted m p (same_program p) ∙ linear) in
    record { noted = m; same = same_program p; normal = n.normal; optimised = n.optimised }
