-- Sweeps with a sound rule rewrite.
use Rattle.std.proofs.Common.{◌≡◌, ℕ, zero, suc, Option, Some, None, refl}
use Rattle.weld_tree.specs.ExprTree.{ExprTree, leaf, one, two, three, many, let_in, loop, iterate, ExprTrees, no_exprs, more_exprs, LegTree, whole, strided, LegTrees, no_legs, more_legs}
use Rattle.weld_rewriting.specs.Sweep.{RootRule, or_same, settled, swept, all_swept, leg_swept, legs_swept, swept_times}
use Rattle.weld_rewriting.specs.Shape.{AllRelate, LegRelates, LegsRelate, IsCongruence, EachHas, LegHasEach, LegsHaveEach, EachPart}
use Rattle.weld_rewriting.specs.Tidy.{IsTidy}
use Rattle.weld_rewriting.specs.Within.{StaysWithin}
use Rattle.weld_rewriting.specs.Rewriting.{Rewrites}
use Rattle.weld_rewriting.specs.Rules.{IsSound}

-- the laws of rewriting that this rests on
pub record Laws : Type 0 where
  pub itself : (e : ExprTree) → Rewrites e e
  pub in_turn : (c d e : ExprTree) → Rewrites c d → Rewrites d e → Rewrites c e
  pub through : IsCongruence Rewrites
  pub parts : (e : ExprTree) → IsTidy e → EachPart IsTidy e
  pub within : (d e : ExprTree) → StaysWithin d e → IsTidy e → IsTidy d

-- the rule tried at a node that rewrites another
settle : (laws : Laws) (r : RootRule) (d e : ExprTree) → IsSound r → IsTidy e → Rewrites d e → Rewrites (settled r d) e
settle laws r d e sound tidy h = by (r d) refl
  where
    by : (o : Option ExprTree) → r d ≡ o → Rewrites (or_same o d) e
    by None q = h
    by (Some c) q = laws.in_turn c d e (sound.rewrites d c (laws.within d e h.within tidy) q) h

mutual
  pub sweep_rewrites : (laws : Laws) (r : RootRule) → IsSound r → (e : ExprTree) → IsTidy e → Rewrites (swept r e) e
  sweep_rewrites laws r s (leaf a l) t = settle laws r (leaf a l) (leaf a l) s t (laws.through.at_leaf a l)
  sweep_rewrites laws r s (one a o e) t =
      settle laws r (one a o (swept r e)) (one a o e) s t (laws.through.at_one a o (swept r e) e (sweep_rewrites laws r s e (laws.parts (one a o e) t)))
  sweep_rewrites laws r s (two a o e f) t =
      let p = laws.parts (two a o e f) t in
      settle laws r (two a o (swept r e) (swept r f)) (two a o e f) s t
      (laws.through.at_two a o (swept r e) (swept r f) e f (sweep_rewrites laws r s e p.0) (sweep_rewrites laws r s f p.1))
  sweep_rewrites laws r s (three a o c e f) t =
      let p = laws.parts (three a o c e f) t in
      settle laws r (three a o (swept r c) (swept r e) (swept r f)) (three a o c e f) s t
      (laws.through.at_three a o (swept r c) (swept r e) (swept r f) c e f (sweep_rewrites laws r s c p.0) (sweep_rewrites laws r s e p.1) (sweep_rewrites laws r s f p.2))
  sweep_rewrites laws r s (many a o es) t =
      settle laws r (many a o (all_swept r es)) (many a o es) s t
      (laws.through.at_many a o (all_swept r es) es (all_rewrite laws r s es (laws.parts (many a o es) t)))
  sweep_rewrites laws r s (let_in a b e f) t =
      let p = laws.parts (let_in a b e f) t in
      settle laws r (let_in a b (swept r e) (swept r f)) (let_in a b e f) s t
      (laws.through.at_let a b (swept r e) (swept r f) e f (sweep_rewrites laws r s e p.0) (sweep_rewrites laws r s f p.1))
  sweep_rewrites laws r s (loop a ls e b n x f) t =
      let p = laws.parts (loop a ls e b n x f) t in
      settle laws r (loop a (legs_swept r ls) (swept r e) b n x (swept r f)) (loop a ls e b n x f) s t
      (laws.through.at_loop a (legs_swept r ls) ls (swept r e) e b n x (swept r f) f (legs_rewrite laws r s ls p.0) (sweep_rewrites laws r s e p.1) (sweep_rewrites laws r s f p.2))
  sweep_rewrites laws r s (iterate a e b f) t =
      let p = laws.parts (iterate a e b f) t in
      settle laws r (iterate a (swept r e) b (swept r f)) (iterate a e b f) s t
      (laws.through.at_iterate a (swept r e) e b (swept r f) f (sweep_rewrites laws r s e p.0) (sweep_rewrites laws r s f p.1))

  all_rewrite : (laws : Laws) (r : RootRule) → IsSound r → (es : ExprTrees) → EachHas IsTidy es → AllRelate Rewrites (all_swept r es) es
  all_rewrite laws r s no_exprs t = tt
  all_rewrite laws r s (more_exprs e es) t = (sweep_rewrites laws r s e t.0, all_rewrite laws r s es t.1)

  leg_rewrites : (laws : Laws) (r : RootRule) → IsSound r → (l : LegTree) → LegHasEach IsTidy l → LegRelates Rewrites (leg_swept r l) l
  leg_rewrites laws r s (whole e) t = sweep_rewrites laws r s e t
  leg_rewrites laws r s (strided e f g h) t =
      (sweep_rewrites laws r s e t.0, sweep_rewrites laws r s f t.1, sweep_rewrites laws r s g t.2, sweep_rewrites laws r s h t.3)

  legs_rewrite : (laws : Laws) (r : RootRule) → IsSound r → (ls : LegTrees) → LegsHaveEach IsTidy ls → LegsRelate Rewrites (legs_swept r ls) ls
  legs_rewrite laws r s no_legs t = tt
  legs_rewrite laws r s (more_legs l ls) t = (leg_rewrites laws r s l t.0, legs_rewrite laws r s ls t.1)

pub rounds_rewrite : (laws : Laws) (r : RootRule) (n : ℕ) (e : ExprTree) → IsSound r → IsTidy e → Rewrites (swept_times n r e) e
rounds_rewrite laws r zero e s t = laws.itself e
rounds_rewrite laws r (suc n) e s t =
    let h = sweep_rewrites laws r s e t in
    laws.in_turn (swept_times n r (swept r e)) (swept r e) e (rounds_rewrite laws r n (swept r e) s (laws.within (swept r e) e h.within t)) h
