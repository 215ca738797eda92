-- What the walk over an expression answers: the first refusal, or where its builders come from, by the names before it, and what is
-- left of the builders that are available.
use Rattle.std.specs.Prelude.{◌≡◌, ◌==◌, ℕ, Bool, false, not, List, [], ◌∷◌, Some, None, Result, Ok, Err}
use Rattle.weld_tree.specs.declared.known.Known.TheVariants.{Blank}
use Rattle.weld_tree.specs.declared.place.Place.{Place}
use Rattle.weld_tree.specs.declared.binder.Binder.{Binder}
use Rattle.weld_tree.specs.declared.code.Code.TheVariants.{L1, L2, L5, L6}
use Rattle.weld_tree.specs.declared.refusal.Refusal.{Refusal}
use Rattle.weld_tree.specs.declared.refusal.Refusal.TheVariants as refused
use Rattle.weld_tree.specs.ExprTree.{At, ExprTree, ExprTrees, LegTree, LegTrees, One, neg, not as not_of, cast, len, field, finish, started, Two, binary, and, or, look_up, key_exists, merge}
use Rattle.weld_tree.specs.Program.{IsOneOf}
use Rattle.weld_meaning.specs.Environment.{Named}
use Rattle.weld_meaning.specs.Origin.{Path, Origin, field_origin, is_value, one_origin, two_origin, origin, origins, origin_of_name, own_paths, in_body, by_name}
use Rattle.weld_meaning.specs.Available.{takes, some_take, leg_takes, legs_take, chain_takes}
use Rattle.weld_meaning.specs.LinearWalk.{Left, Refused, before, where_so, is_own, same_origin, after_taking, builders_of, chain_refused, left_over, refusal, some_refusal, leg_refusal, legs_refusal}
use Rattle.weld_linear.specs.Sources.{pack_origins}
use Rattle.weld_linear.specs.Resolve.{follow, resolve}

-- a node of which the place counts alone
abbrev pub at : Place → At
at p = record { place = p; ty = Blank }

abbrev pub somewhere : Place
somewhere = record { line = 0; column = 0 }

-- it is the first refusal, or memory was wanting
abbrev pub Fails : Refusal → Refused → Type 0
Fails (refused.At c p) r = r ≡ Some (c, p)
Fails (refused.Size c) r = ⊥
Fails refused.Memory r = Unit {0}

-- the walk over an expression refuses nowhere: this is its origin by the names before it, and this is what is left
pub record Walked (o : Origin) (e : ExprTree) (g : Named Origin) (left after : Left) : Type 0 where
  pub none : refusal e g left ≡ None
  pub from : o ≡ origin e (by_name g)
  pub rest : after ≡ after_taking (takes e g) left

-- it is refused
pub record Stops (r : Refusal) (e : ExprTree) (g : Named Origin) (left : Left) : Type 0 where
  pub fails : Fails r (refusal e g left)

abbrev pub Walks : Result Origin Refusal → ExprTree → Named Origin → Left → Left → Type 0
Walks (Ok o) e g left after = Walked o e g left after
Walks (Err r) e g left after = Stops r e g left

-- over expressions in order
pub record AllWalked (os : List Origin) (es : ExprTrees) (g : Named Origin) (left after : Left) : Type 0 where
  pub none : some_refusal es g left ≡ None
  pub from : pack_origins os ≡ origins es (by_name g)
  pub rest : after ≡ after_taking (some_take es g) left

pub record AllStop (r : Refusal) (es : ExprTrees) (g : Named Origin) (left : Left) : Type 0 where
  pub fails : Fails r (some_refusal es g left)

abbrev pub AllWalk : Result (List Origin) Refusal → ExprTrees → Named Origin → Left → Left → Type 0
AllWalk (Ok os) es g left after = AllWalked os es g left after
AllWalk (Err r) es g left after = AllStop r es g left

-- over a leg, and over legs in order
pub record LegWalked (l : LegTree) (g : Named Origin) (left after : Left) : Type 0 where
  pub none : leg_refusal l g left ≡ None
  pub rest : after ≡ after_taking (leg_takes l g) left

pub record LegStops (r : Refusal) (l : LegTree) (g : Named Origin) (left : Left) : Type 0 where
  pub fails : Fails r (leg_refusal l g left)

abbrev pub LegWalks : Result (Unit {0}) Refusal → LegTree → Named Origin → Left → Left → Type 0
LegWalks (Ok u) l g left after = LegWalked l g left after
LegWalks (Err r) l g left after = LegStops r l g left

pub record LegsWalked (ls : LegTrees) (g : Named Origin) (left after : Left) : Type 0 where
  pub none : legs_refusal ls g left ≡ None
  pub rest : after ≡ after_taking (legs_take ls g) left

pub record LegsStop (r : Refusal) (ls : LegTrees) (g : Named Origin) (left : Left) : Type 0 where
  pub fails : Fails r (legs_refusal ls g left)

abbrev pub LegsWalk : Result (Unit {0}) Refusal → LegTrees → Named Origin → Left → Left → Type 0
LegsWalk (Ok u) ls g left after = LegsWalked ls g left after
LegsWalk (Err r) ls g left after = LegsStop r ls g left

-- a name followed by field accesses
pub record ChainUsed (o : Origin) (c : ℕ × Path) (p : Place) (g : Named Origin) (left after : Left) : Type 0 where
  pub none : chain_refused c p g left ≡ None
  pub from : o ≡ follow c.1 (origin_of_name c.0 (by_name g))
  pub rest : after ≡ after_taking (λ s q. chain_takes (Some c) g s q false) left

pub record ChainStops (r : Refusal) (c : ℕ × Path) (p : Place) (g : Named Origin) (left : Left) : Type 0 where
  pub fails : Fails r (chain_refused c p g left)

abbrev pub UsesChain : Result Origin Refusal → ℕ × Path → Place → Named Origin → Left → Left → Type 0
UsesChain (Ok o) c p g left after = ChainUsed o c p g left after
UsesChain (Err r) c p g left after = ChainStops r c p g left

-- ---- binders

-- no builder of the name is there
abbrev pub IsAbsent : ℕ → Left → Type 0
IsAbsent s [] = Unit {0}
IsAbsent s (e ∷ es) = ((e.0 == s) ≡ false) × IsAbsent s es

-- the numbers are distinct, and none names a builder that is there
abbrev pub AreClear : List ℕ → Left → Type 0
AreClear [] left = Unit {0}
AreClear (t ∷ ts) left = ¬ (IsOneOf ts t) × IsAbsent t left × AreClear ts left

-- ---- at a node itself

-- at a node of one part that is no name followed by field accesses, by the origin of its part by names
abbrev pub one_ends : One → Place → Named Origin → Origin → Refused
one_ends neg p g part = None
one_ends not_of p g part = None
one_ends (cast k) p g part = None
one_ends len p g part = None
one_ends (field n) p g part = where_so (not (is_value (field_origin n part))) L1 p
one_ends finish p g part = where_so (is_own (resolve g part)) L5 p
one_ends (started b) p g part = None

pub record EndedOne (o : Origin) (k : One) (p : Place) (g : Named Origin) (part : Origin) : Type 0 where
  pub none : one_ends k p g part ≡ None
  pub from : o ≡ one_origin k part

pub record FailsOne (r : Refusal) (k : One) (p : Place) (g : Named Origin) (part : Origin) : Type 0 where
  pub fails : Fails r (one_ends k p g part)

abbrev pub EndsOne : Result Origin Refusal → One → Place → Named Origin → Origin → Type 0
EndsOne (Ok o) k p g part = EndedOne o k p g part
EndsOne (Err r) k p g part = FailsOne r k p g part

-- at a node of two parts, by the origin of the first and whether the second took a builder
abbrev pub two_ends : Two → Place → Bool → Refused
two_ends (binary op) p took = None
two_ends and p took = where_so took L2 p
two_ends or p took = where_so took L2 p
two_ends look_up p took = None
two_ends key_exists p took = None
two_ends merge p took = None

pub record EndedTwo (o : Origin) (k : Two) (p : Place) (took : Bool) (first : Origin) : Type 0 where
  pub none : two_ends k p took ≡ None
  pub from : o ≡ two_origin k first

pub record FailsTwo (r : Refusal) (k : Two) (p : Place) (took : Bool) : Type 0 where
  pub fails : Fails r (two_ends k p took)

abbrev pub EndsTwo : Result Origin Refusal → Two → Place → Bool → Origin → Type 0
EndsTwo (Ok o) k p took first = EndedTwo o k p took first
EndsTwo (Err r) k p took first = FailsTwo r k p took

-- in the body of a loop whose builder has this origin
abbrev pub body_refusal : Binder → Binder → Binder → ExprTree → Place → Origin → Named Origin → Refused
body_refusal b n x f p o g =
    before (refusal f (in_body b n x o g) (builders_of b.sym.0 (own_paths o)))
    (before (left_over b.sym.0 (own_paths o) b.place (takes f (in_body b n x o g)))
    (where_so (not (same_origin (origin f (in_body b n x o g)) (own_paths o))) L6 p))

pub record BodyWalked (b n x : Binder) (f : ExprTree) (p : Place) (o : Origin) (g : Named Origin) : Type 0 where
  pub none : body_refusal b n x f p o g ≡ None

pub record BodyStops (r : Refusal) (b n x : Binder) (f : ExprTree) (p : Place) (o : Origin) (g : Named Origin) : Type 0 where
  pub fails : Fails r (body_refusal b n x f p o g)

abbrev pub BodyWalks : Result (Unit {0}) Refusal → Binder → Binder → Binder → ExprTree → Place → Origin → Named Origin → Type 0
BodyWalks (Ok u) b n x f p o g = BodyWalked b n x f p o g
BodyWalks (Err r) b n x f p o g = BodyStops r b n x f p o g
