-- Lists of legs of which one is the only one.
use Rattle.std.proofs.Common.{◌≡◌, ℕ, ◌≤◌, Bool, true, false, ◌&&◌, List, [], ◌∷◌, ◌++◌, length, map, refl, ap, sym, subst, ◌∙◌, arith}
use Rattle.weld_tree.specs.ExprTree.{At, ExprTree, leaf, one, two, three, many, let_in, loop, iterate, LegTree, whole, strided, LegTrees, no_legs, more_legs, finish, pack_legs}
use Rattle.weld_tree.specs.ExprView.{view_leg}
use Rattle.weld_tree.specs.declared.binder.Binder.{Binder}
use Rattle.weld_tree.specs.declared.expr.Leg.{Leg}
use Rattle.weld_vertical.specs.Sinking.{is_finish, is_made, is_only_leg, fused}
use Rattle.weld_vertical.proofs.Recognised.{made_by}
use Rattle.weld_vertical.specs.Fusing.{is_result_leg, is_only_result, IsMadeBy, IsOnlyBy, body_merges, joined}

-- of two legs or more none is the only one
pub more_legs_no : (n : ℕ) (f : ExprTree) (legs : List Leg) → 2 ≤ length legs → false ≡ is_only_leg n f (pack_legs (map view_leg legs))
more_legs_no n f [] h = absurd (omega (arith, h))
more_legs_no n f (l ∷ []) h = absurd (omega (arith, h))
more_legs_no n f (l ∷ m ∷ ls) h = refl

-- the last leg is the only one
pub last_only : (rest : List Leg) (l : Leg) → is_only_result (pack_legs (map view_leg (rest ++ l ∷ []))) ≡ true → is_result_leg (view_leg l) ≡ true
last_only [] l h = h
last_only (m ∷ []) l h = let nothing : ⊥ = cc in absurd nothing
last_only (m ∷ k ∷ rest) l h = let nothing : ⊥ = cc in absurd nothing

pub none_before : (rest : List Leg) (l : Leg) → is_only_result (pack_legs (map view_leg (rest ++ l ∷ []))) ≡ true → pack_legs (map view_leg (rest ++ l ∷ [])) ≡ more_legs (view_leg l) no_legs
none_before [] l h = refl
none_before (m ∷ []) l h = let nothing : ⊥ = cc in absurd nothing
none_before (m ∷ k ∷ rest) l h = let nothing : ⊥ = cc in absurd nothing

-- the loop that takes the place of both
pub fused_joined : (a m : At) (e : ExprTree) (b n x : Binder) (f q : ExprTree) → is_made n.sym.0 f q ≡ true → fused (loop a (more_legs (whole (one m finish q)) no_legs) e b n x f) ≡ joined a e b n x f q
fused_joined a m e b n x f =
    made_by n.sym.0 f (λ q. fused (loop a (more_legs (whole (one m finish q)) no_legs) e b n x f) ≡ joined a e b n x f q)
    (λ p o item ks d i r g spine once numbered. refl)

first_true : (a b : Bool) → (a && b) ≡ true → a ≡ true
first_true true b h = refl
first_true false b h = let nothing : ⊥ = cc in absurd nothing

-- the only leg of a consumer is the result of what makes it
pub only_result : (n : ℕ) (f : ExprTree) (ls : LegTrees) → is_only_leg n f ls ≡ true → is_only_result ls ≡ true
only_result n f no_legs h = let nothing : ⊥ = cc in absurd nothing
only_result n f (more_legs l (more_legs m ls)) h = let nothing : ⊥ = cc in absurd nothing
only_result n f (more_legs (strided e g k l) no_legs) h = let nothing : ⊥ = cc in absurd nothing
only_result n f (more_legs (whole (leaf a l)) no_legs) h = let nothing : ⊥ = cc in absurd nothing
only_result n f (more_legs (whole (one a o e)) no_legs) h = first_true (is_finish o) (is_made n f e) h
only_result n f (more_legs (whole (two a o e g)) no_legs) h = let nothing : ⊥ = cc in absurd nothing
only_result n f (more_legs (whole (three a o e g k)) no_legs) h = let nothing : ⊥ = cc in absurd nothing
only_result n f (more_legs (whole (many a o es)) no_legs) h = let nothing : ⊥ = cc in absurd nothing
only_result n f (more_legs (whole (let_in a b e g)) no_legs) h = let nothing : ⊥ = cc in absurd nothing
only_result n f (more_legs (whole (loop a ls e b m x g)) no_legs) h = let nothing : ⊥ = cc in absurd nothing
only_result n f (more_legs (whole (iterate a e b g)) no_legs) h = let nothing : ⊥ = cc in absurd nothing

pub made_there : (n : ℕ) (f : ExprTree) (ls : LegTrees) (p : ExprTree) → is_only_leg n f ls ≡ true → IsOnlyBy ls p → is_made n f p ≡ true
made_there n f ls p h is = subst (λ l. is_only_leg n f l ≡ true) is.1 h

-- its body has one merge
pub one_merge : (n : ℕ) (f : ExprTree) (ls : LegTrees) (p : ExprTree) → is_only_leg n f ls ≡ true → IsOnlyBy ls p → body_merges p ≡ 1
one_merge n f ls p h is = made_by n f (λ q. body_merges q ≡ 1) (λ p o item ks d i r g spine once numbered. once) p (made_there n f ls p h is)

-- the leg that was taken from a list of one
pub leg_of : (items rest : List Leg) (legs : List LegTree) (l : Leg) → map view_leg items ≡ legs → items ≡ rest ++ l ∷ [] → is_only_result (pack_legs legs) ≡ true → is_result_leg (view_leg l) ≡ true
leg_of items rest legs l e k h = last_only rest l (ap (λ ls. is_only_result (pack_legs ls)) (ap (map view_leg) (sym k) ∙ e) ∙ h)

pub only_of : (items rest : List Leg) (legs : List LegTree) (l : Leg) (p : ExprTree) → map view_leg items ≡ legs → items ≡ rest ++ l ∷ [] → is_only_result (pack_legs legs) ≡ true → IsMadeBy (view_leg l) p → IsOnlyBy (pack_legs legs) p
only_of items rest legs l p e k h made =
    let same : map view_leg (rest ++ l ∷ []) ≡ legs = ap (map view_leg) (sym k) ∙ e in
    let one_leg = none_before rest l (ap (λ ls. is_only_result (pack_legs ls)) same ∙ h) in
    (made.0, sym (ap pack_legs same) ∙ one_leg ∙ ap (λ m. more_legs m no_legs) made.1)
