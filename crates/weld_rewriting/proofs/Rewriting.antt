-- Rewriting is both halves at once.
use Rattle.weld_tree.specs.ExprTree.{ExprTree, ExprTrees, no_exprs, more_exprs, LegTree, whole, strided, LegTrees, no_legs, more_legs}
use Rattle.weld_meaning.proofs.PartsGood.{KeyLaws}
use Rattle.weld_rewriting.specs.Shape.{AllRelate, LegRelates, LegsRelate, IsCongruence}
use Rattle.weld_rewriting.specs.Rewriting.{Rewrites}
use Rattle.weld_rewriting.proofs.Nodes.{may_itself, may_in_turn}
use Rattle.weld_rewriting.proofs.Lambdas.{may_through}
use Rattle.weld_rewriting.proofs.Staying.{stays_itself, stays_in_turn, stays_through}

pub rewrites_itself : (e : ExprTree) → Rewrites e e
rewrites_itself e = record { replaces = may_itself e; within = stays_itself e }

pub rewrites_in_turn : (c d e : ExprTree) → Rewrites c d → Rewrites d e → Rewrites c e
rewrites_in_turn c d e r q = record { replaces = may_in_turn c d e r.replaces q.replaces; within = stays_in_turn c d e r.within q.within }

-- ---- what relates so relates otherwise

all_so : (R S : ExprTree → ExprTree → Type 0) → ((d e : ExprTree) → R d e → S d e) → (ds es : ExprTrees) → AllRelate R ds es → AllRelate S ds es
all_so R S k no_exprs no_exprs r = tt
all_so R S k no_exprs (more_exprs e es) r = r
all_so R S k (more_exprs d ds) no_exprs r = r
all_so R S k (more_exprs d ds) (more_exprs e es) r = (k d e r.0, all_so R S k ds es r.1)

leg_so : (R S : ExprTree → ExprTree → Type 0) → ((d e : ExprTree) → R d e → S d e) → (l m : LegTree) → LegRelates R l m → LegRelates S l m
leg_so R S k (whole d) (whole e) r = k d e r
leg_so R S k (whole d) (strided e f i j) r = r
leg_so R S k (strided d a b c) (whole e) r = r
leg_so R S k (strided d a b c) (strided e f i j) r = (k d e r.0, k a f r.1, k b i r.2, k c j r.3)

legs_so : (R S : ExprTree → ExprTree → Type 0) → ((d e : ExprTree) → R d e → S d e) → (ls ms : LegTrees) → LegsRelate R ls ms → LegsRelate S ls ms
legs_so R S k no_legs no_legs r = tt
legs_so R S k no_legs (more_legs m ms) r = r
legs_so R S k (more_legs l ls) no_legs r = r
legs_so R S k (more_legs l ls) (more_legs m ms) r = (leg_so R S k l m r.0, legs_so R S k ls ms r.1)

-- where two relations go through every node, so does the one that holds where both do
both_through : (R S T : ExprTree → ExprTree → Type 0) → ((d e : ExprTree) → T d e → R d e) → ((d e : ExprTree) → T d e → S d e) → ((d e : ExprTree) → R d e → S d e → T d e) → IsCongruence R → IsCongruence S → IsCongruence T
both_through R S T f g k r s = record {
  at_leaf = λ a l. k _ _ (r.at_leaf a l) (s.at_leaf a l);
  at_one = λ a o d e h. k _ _ (r.at_one a o d e (f d e h)) (s.at_one a o d e (g d e h));
  at_two = λ a o b c d e h i. k _ _ (r.at_two a o b c d e (f b d h) (f c e i)) (s.at_two a o b c d e (g b d h) (g c e i));
  at_three = λ a o b c d e m n h i j. k _ _ (r.at_three a o b c d e m n (f b e h) (f c m i) (f d n j)) (s.at_three a o b c d e m n (g b e h) (g c m i) (g d n j));
  at_many = λ a o ds es h. k _ _ (r.at_many a o ds es (all_so T R f ds es h)) (s.at_many a o ds es (all_so T S g ds es h));
  at_let = λ a b c d e m h i. k _ _ (r.at_let a b c d e m (f c e h) (f d m i)) (s.at_let a b c d e m (g c e h) (g d m i));
  at_loop = λ a ks ls c e b n x d m h i j.
      k _ _ (r.at_loop a ks ls c e b n x d m (legs_so T R f ks ls h) (f c e i) (f d m j)) (s.at_loop a ks ls c e b n x d m (legs_so T S g ks ls h) (g c e i) (g d m j));
  at_iterate = λ a c e b d m h i. k _ _ (r.at_iterate a c e b d m (f c e h) (f d m i)) (s.at_iterate a c e b d m (g c e h) (g d m i));
}

pub rewrites_through : KeyLaws → IsCongruence Rewrites
rewrites_through laws =
    both_through _ _ Rewrites (λ d e h. h.replaces) (λ d e h. h.within) (λ d e r s. record { replaces = r; within = s }) (may_through laws) stays_through
