-- A loop over the list that another makes, in code.
use Rattle.std.proofs.Common.{◌≡◌, ◌≢◌, ◌⊎◌, inl, inr, ℕ, ◌≤◌, ◌==◌, Bool, true, false, ◌&&◌, ◌||◌, List, [], ◌∷◌, ◌++◌, length, map, refl, sym, ap, subst, ◌∙◌, arith, ne_eqb}
use Rattle.std.proofs.lemmas.Bool.{cases_eq}
use Rattle.weld_tree.specs.declared.expr.Leg.{Leg}
use Rattle.weld_tree.specs.declared.known.Known.{Known}
use Rattle.weld_tree.specs.ExprTree.{At, ExprTree, leaf, one, two, three, many, let_in, loop, iterate, LegTree, whole, strided, LegTrees, no_legs, more_legs, finish, pack_legs}
use Rattle.weld_tree.specs.ExprView.{view_leg}
use Rattle.weld_substitution.specs.Uses.{uses}
use Rattle.weld_vertical.specs.Sinking.{is_finish, starts_list}
use Rattle.weld_vertical.specs.Fusing.{is_result_leg, is_only_result, IsMadeBy, IsOnlyBy}
use Rattle.weld_handing.specs.declared.settling.Consumer.{Consumer}
use Rattle.weld_handing.specs.Handing.{starts_none, own_names, is_noted}
use Rattle.weld_handing.specs.Merging.{list_merges, always_merges}
use Rattle.weld_handing.specs.Walking.{body_merges, joined}
use Rattle.weld_vertical_held.specs.Rule.{merges_once, makes_list, is_its_only_leg, handed_over}

first_true : (a b : Bool) → (a && b) ≡ true → a ≡ true
first_true true b h = refl
first_true false b h = let nothing : ⊥ = cc in absurd nothing

second_true : (a b : Bool) → (a && b) ≡ true → b ≡ true
second_true true b h = h
second_true false b h = let nothing : ⊥ = cc in absurd nothing

one_of : (n : ℕ) → (n == 1) ≡ true → n ≡ 1
one_of n h = by (cases_eq n 1)
  where
    by : (n ≡ 1) ⊎ (n ≢ 1) → n ≡ 1
    by (inl e) = e
    by (inr ne) = let wrong : false ≡ true = sym (ne_eqb n 1 ne) ∙ h in absurd cc

-- ---- lists of legs of which one is the only one

-- of two legs or more none is
pub more_legs_no : (n : ℕ) (f : ExprTree) (legs : List Leg) → 2 ≤ length legs → false ≡ is_its_only_leg n f (pack_legs (map view_leg legs))
more_legs_no n f [] h = absurd (omega (arith, h))
more_legs_no n f (l ∷ []) h = absurd (omega (arith, h))
more_legs_no n f (l ∷ m ∷ ls) h = refl

last_only : (rest : List Leg) (l : Leg) → is_only_result (pack_legs (map view_leg (rest ++ l ∷ []))) ≡ true → is_result_leg (view_leg l) ≡ true
last_only [] l h = h
last_only (m ∷ []) l h = let nothing : ⊥ = cc in absurd nothing
last_only (m ∷ k ∷ rest) l h = let nothing : ⊥ = cc in absurd nothing

none_before : (rest : List Leg) (l : Leg) → is_only_result (pack_legs (map view_leg (rest ++ l ∷ []))) ≡ true → pack_legs (map view_leg (rest ++ l ∷ [])) ≡ more_legs (view_leg l) no_legs
none_before [] l h = refl
none_before (m ∷ []) l h = let nothing : ⊥ = cc in absurd nothing
none_before (m ∷ k ∷ rest) l h = let nothing : ⊥ = cc in absurd nothing

-- the leg that was taken from a list of one
pub leg_of : (items rest : List Leg) (legs : List LegTree) (l : Leg) → map view_leg items ≡ legs → items ≡ rest ++ l ∷ [] → is_only_result (pack_legs legs) ≡ true → is_result_leg (view_leg l) ≡ true
leg_of items rest legs l e k h = last_only rest l (ap (λ ls. is_only_result (pack_legs ls)) (ap (map view_leg) (sym k) ∙ e) ∙ h)

pub only_of : (items rest : List Leg) (legs : List LegTree) (l : Leg) (p : ExprTree) → map view_leg items ≡ legs → items ≡ rest ++ l ∷ [] → is_only_result (pack_legs legs) ≡ true → IsMadeBy (view_leg l) p → IsOnlyBy (pack_legs legs) p
only_of items rest legs l p e k h made =
    let alike : map view_leg (rest ++ l ∷ []) ≡ legs = ap (map view_leg) (sym k) ∙ e in
    let one_leg = none_before rest l (ap (λ ls. is_only_result (pack_legs ls)) alike ∙ h) in
    (made.0, sym (ap pack_legs alike) ∙ one_leg ∙ ap (λ m. more_legs m no_legs) made.1)

-- ---- the loop and the list

-- the only leg is the result of a loop
pub only_result : (n : ℕ) (f : ExprTree) (ls : LegTrees) → is_its_only_leg n f ls ≡ true → is_only_result ls ≡ true
only_result n f no_legs h = let nothing : ⊥ = cc in absurd nothing
only_result n f (more_legs l (more_legs m ls)) h = let nothing : ⊥ = cc in absurd nothing
only_result n f (more_legs (strided e g k l) no_legs) h = let nothing : ⊥ = cc in absurd nothing
only_result n f (more_legs (whole (leaf a l)) no_legs) h = let nothing : ⊥ = cc in absurd nothing
only_result n f (more_legs (whole (one a o e)) no_legs) h = first_true (is_finish o) (makes_list n f e) h
only_result n f (more_legs (whole (two a o e g)) no_legs) h = let nothing : ⊥ = cc in absurd nothing
only_result n f (more_legs (whole (three a o e g k)) no_legs) h = let nothing : ⊥ = cc in absurd nothing
only_result n f (more_legs (whole (many a o es)) no_legs) h = let nothing : ⊥ = cc in absurd nothing
only_result n f (more_legs (whole (let_in a b e g)) no_legs) h = let nothing : ⊥ = cc in absurd nothing
only_result n f (more_legs (whole (loop a ls e b m x g)) no_legs) h = let nothing : ⊥ = cc in absurd nothing
only_result n f (more_legs (whole (iterate a e b g)) no_legs) h = let nothing : ⊥ = cc in absurd nothing

made_there : (n : ℕ) (f : ExprTree) (ls : LegTrees) (p : ExprTree) → is_its_only_leg n f ls ≡ true → IsOnlyBy ls p → makes_list n f p ≡ true
made_there n f ls p h is = subst (λ l. is_its_only_leg n f l ≡ true) is.1 h

made_merges : (n : ℕ) (f p : ExprTree) → makes_list n f p ≡ true → body_merges p ≡ 1
made_merges n f (leaf a l) h = let nothing : ⊥ = cc in absurd nothing
made_merges n f (one a o e) h = let nothing : ⊥ = cc in absurd nothing
made_merges n f (two a o e g) h = let nothing : ⊥ = cc in absurd nothing
made_merges n f (three a o e g k) h = let nothing : ⊥ = cc in absurd nothing
made_merges n f (many a o es) h = let nothing : ⊥ = cc in absurd nothing
made_merges n f (let_in a b e g) h = let nothing : ⊥ = cc in absurd nothing
made_merges n f (loop a ls e d i r g) h =
    let once = second_true (starts_list e) (merges_once n f (own_names d i r) g) h in
    one_of (list_merges (own_names d i r) g)
    (first_true (list_merges (own_names d i r) g == 1) (starts_none (own_names d i r) g && (always_merges (own_names d i r) g || (uses f n == 0))) once)
made_merges n f (iterate a e b g) h = let nothing : ⊥ = cc in absurd nothing

-- its body merges at one place
pub one_merge : (n : ℕ) (f : ExprTree) (ls : LegTrees) (p : ExprTree) → is_its_only_leg n f ls ≡ true → IsOnlyBy ls p → body_merges p ≡ 1
one_merge n f ls p h is = made_merges n f p (made_there n f ls p h is)

made_joined : (a m : At) (s : ExprTree) (c : Consumer) (p : ExprTree) → makes_list c.number.sym.0 c.body.value p ≡ true
    → joined a s c p ≡ handed_over (loop a (more_legs (whole (one m finish p)) no_legs) s c.builder c.number c.row c.body.value)
made_joined a m s c (leaf b l) h = let nothing : ⊥ = cc in absurd nothing
made_joined a m s c (one b o d) h = let nothing : ⊥ = cc in absurd nothing
made_joined a m s c (two b o d g) h = let nothing : ⊥ = cc in absurd nothing
made_joined a m s c (three b o d g k) h = let nothing : ⊥ = cc in absurd nothing
made_joined a m s c (many b o es) h = let nothing : ⊥ = cc in absurd nothing
made_joined a m s c (let_in b z d g) h = let nothing : ⊥ = cc in absurd nothing
made_joined a m s c (loop b ks y d i r g) h = refl
made_joined a m s c (iterate b d z g) h = let nothing : ⊥ = cc in absurd nothing

-- the loop that takes the place of both
pub handed_joined : (a : At) (ls : LegTrees) (s : ExprTree) (c : Consumer) (p : ExprTree) → is_its_only_leg c.number.sym.0 c.body.value ls ≡ true → IsOnlyBy ls p
    → joined a s c p ≡ handed_over (loop a ls s c.builder c.number c.row c.body.value)
handed_joined a ls s c p h is =
    made_joined a is.0 s c p (made_there c.number.sym.0 c.body.value ls p h is)
    ∙ ap (λ (l : LegTrees). handed_over (loop a l s c.builder c.number c.row c.body.value)) (sym is.1)

-- ---- what the test says of a loop

pub noted_there : (k : Known) (b : Bool) → (is_noted k && b) ≡ true → b ≡ true
noted_there k b h = second_true (is_noted k) b h
