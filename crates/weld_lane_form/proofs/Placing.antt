-- Steps that are placed behind those of parts.
use Rattle.std.proofs.Common.{◌≡◌, ℕ, ◌+◌, true, List, [], ◌∷◌, ◌++◌, length, Option, None, refl, ap, sym, subst, ◌∙◌, append_assoc, arith}
use Rattle.std.proofs.lemmas.List.{length-append}
use Rattle.weld_tree.specs.ExprTree.{ExprTree, Two}
use Rattle.weld_lanes.specs.declared.steps.LaneStep.{LaneStep}
use Rattle.weld_lanes.specs.declared.steps.LaneStep.TheVariants as steps
use Rattle.weld_lane_form.specs.Lowering.{LaneNames, Begun, Placed, placed, behind, added, choosing, choose_truth, lower_two, lower_select, lower_expr, lower_body}
use Rattle.weld_lane_form.specs.Made.{IsPlaced}
use Rattle.weld_lane_form.proofs.Growing.{added_is}

pub behind_some : (p : Placed) (f : Begun → ℕ → Placed) (d g : Begun) (i : ℕ) (r : Option ℕ) → p ≡ placed d i → IsPlaced (f d i) r g → IsPlaced (behind p f) r g
behind_some p f d g i r e h = subst (λ (q : Placed). IsPlaced (behind q f) r g) (sym e) h

pub behind_none : (p : Placed) (f : Begun → ℕ → Placed) → p ≡ None → behind p f ≡ None
behind_none p f e = ap (λ (q : Placed). behind q f) e

pub two_placed : (c : LaneNames) (ns : List (ℕ × ℕ)) (o : Two) (e f : ExprTree) (b d g h : Begun) (i j : ℕ) (r : Option ℕ) → lower_expr c ns e b ≡ placed d i → lower_expr c ns f d ≡ placed g j → IsPlaced (lower_two o i j g) r h
    → IsPlaced (behind (lower_expr c ns e b) (λ d i. behind (lower_expr c ns f d) (λ g j. lower_two o i j g))) r h
two_placed c ns o e f b d g h i j r first second is =
    behind_some (lower_expr c ns e b) (λ d i. behind (lower_expr c ns f d) (λ g j. lower_two o i j g)) d h i r first
    (behind_some (lower_expr c ns f d) (λ g j. lower_two o i j g) g h j r second is)

pub no_first : (c : LaneNames) (ns : List (ℕ × ℕ)) (o : Two) (e f : ExprTree) (b : Begun) → lower_expr c ns e b ≡ None → behind (lower_expr c ns e b) (λ d i. behind (lower_expr c ns f d) (λ g j. lower_two o i j g)) ≡ None
no_first c ns o e f b first = behind_none (lower_expr c ns e b) (λ d i. behind (lower_expr c ns f d) (λ g j. lower_two o i j g)) first

pub no_second : (c : LaneNames) (ns : List (ℕ × ℕ)) (o : Two) (e f : ExprTree) (b d : Begun) (i : ℕ) → lower_expr c ns e b ≡ placed d i → lower_expr c ns f d ≡ None
    → behind (lower_expr c ns e b) (λ d i. behind (lower_expr c ns f d) (λ g j. lower_two o i j g)) ≡ None
no_second c ns o e f b d i first second =
    ap (λ (q : Placed). behind q (λ d i. behind (lower_expr c ns f d) (λ g j. lower_two o i j g))) first ∙ behind_none (lower_expr c ns f d) (λ g j. lower_two o i j g) second

pub three_placed : (c : LaneNames) (ns : List (ℕ × ℕ)) (e f k : ExprTree) (b d g m h : Begun) (t i j : ℕ) (r : Option ℕ) → lower_expr c ns e b ≡ placed d t → lower_expr c ns f d ≡ placed g i → lower_expr c ns k g ≡ placed m j → IsPlaced (lower_select t i j m) r h
    → IsPlaced (behind (lower_expr c ns e b) (λ d t. behind (lower_expr c ns f d) (λ g i. behind (lower_expr c ns k g) (λ m j. lower_select t i j m)))) r h
three_placed c ns e f k b d g m h t i j r test first second is =
    behind_some (lower_expr c ns e b) (λ d t. behind (lower_expr c ns f d) (λ g i. behind (lower_expr c ns k g) (λ m j. lower_select t i j m))) d h t r test
    (behind_some (lower_expr c ns f d) (λ g i. behind (lower_expr c ns k g) (λ m j. lower_select t i j m)) g h i r first
    (behind_some (lower_expr c ns k g) (λ m j. lower_select t i j m) m h j r second is))

pub no_test : (c : LaneNames) (ns : List (ℕ × ℕ)) (e f k : ExprTree) (b : Begun) → lower_expr c ns e b ≡ None
    → behind (lower_expr c ns e b) (λ d t. behind (lower_expr c ns f d) (λ g i. behind (lower_expr c ns k g) (λ m j. lower_select t i j m))) ≡ None
no_test c ns e f k b test = ap (λ (q : Placed). behind q (λ d t. behind (lower_expr c ns f d) (λ g i. behind (lower_expr c ns k g) (λ m j. lower_select t i j m)))) test

pub no_then : (c : LaneNames) (ns : List (ℕ × ℕ)) (e f k : ExprTree) (b d : Begun) (t : ℕ) → lower_expr c ns e b ≡ placed d t → lower_expr c ns f d ≡ None
    → behind (lower_expr c ns e b) (λ d t. behind (lower_expr c ns f d) (λ g i. behind (lower_expr c ns k g) (λ m j. lower_select t i j m))) ≡ None
no_then c ns e f k b d t test first =
    ap (λ (q : Placed). behind q (λ d t. behind (lower_expr c ns f d) (λ g i. behind (lower_expr c ns k g) (λ m j. lower_select t i j m)))) test
    ∙ ap (λ (q : Placed). behind q (λ g i. behind (lower_expr c ns k g) (λ m j. lower_select t i j m))) first

pub no_otherwise : (c : LaneNames) (ns : List (ℕ × ℕ)) (e f k : ExprTree) (b d g : Begun) (t i : ℕ) → lower_expr c ns e b ≡ placed d t → lower_expr c ns f d ≡ placed g i → lower_expr c ns k g ≡ None
    → behind (lower_expr c ns e b) (λ d t. behind (lower_expr c ns f d) (λ g i. behind (lower_expr c ns k g) (λ m j. lower_select t i j m))) ≡ None
no_otherwise c ns e f k b d g t i test first second =
    ap (λ (q : Placed). behind q (λ d t. behind (lower_expr c ns f d) (λ g i. behind (lower_expr c ns k g) (λ m j. lower_select t i j m)))) test
    ∙ ap (λ (q : Placed). behind q (λ g i. behind (lower_expr c ns k g) (λ m j. lower_select t i j m))) first
    ∙ ap (λ (q : Placed). behind q (λ m j. lower_select t i j m)) second

pub let_placed : (c : LaneNames) (ns : List (ℕ × ℕ)) (x : ℕ) (e f : ExprTree) (b d h : Begun) (i : ℕ) (r : Option ℕ) → lower_expr c ns e b ≡ placed d i → IsPlaced (lower_body c ((x, i) ∷ ns) f d) r h
    → IsPlaced (behind (lower_expr c ns e b) (λ d i. lower_body c ((x, i) ∷ ns) f d)) r h
let_placed c ns x e f b d h i r first is = behind_some (lower_expr c ns e b) (λ d i. lower_body c ((x, i) ∷ ns) f d) d h i r first is

pub no_let : (c : LaneNames) (ns : List (ℕ × ℕ)) (x : ℕ) (e f : ExprTree) (b : Begun) → lower_expr c ns e b ≡ None → behind (lower_expr c ns e b) (λ d i. lower_body c ((x, i) ∷ ns) f d) ≡ None
no_let c ns x e f b first = behind_none (lower_expr c ns e b) (λ d i. lower_body c ((x, i) ∷ ns) f d) first

-- ---- steps one behind another

same_begun : (ss ts : List LaneStep) (ns ms : List ℕ) (i j : ℕ) (d : Begun) → d.steps ≡ ts → d.names ≡ ms → ss ≡ ts → ns ≡ ms → i ≡ j → placed (record { steps = ss; names = ns }) i ≡ placed d j
same_begun ss ts ns ms i j d p q a b e =
    ap (λ (xs : List LaneStep). placed (record { steps = xs; names = ns }) i) (a ∙ sym p)
    ∙ ap (λ (xs : List ℕ). placed (record { steps = d.steps; names = xs }) i) (b ∙ sym q)
    ∙ ap (placed d) e

pub chosen_truth : (t i j : ℕ) (b c d e g : Begun) (x y z w : ℕ) → added b (steps.And t i) ≡ placed c x → added c (steps.Not t) ≡ placed d y → added d (steps.And y j) ≡ placed e z → added e (steps.Or x z) ≡ placed g w → choose_truth t i j b ≡ placed g w
chosen_truth t i j b c d e g x y z w first second third fourth =
    let p = added_is b (steps.And t i) c x first in
    let q = added_is c (steps.Not t) d y second in
    let r = added_is d (steps.And y j) e z third in
    let s = added_is e (steps.Or x z) g w fourth in
    let n : ℕ = length b.steps in
    let long = ap length p.steps_are ∙ length-append b.steps (steps.And t i ∷ []) in
    let longer = ap length q.steps_are ∙ length-append c.steps (steps.Not t ∷ []) in
    let longest = ap length r.steps_are ∙ length-append d.steps (steps.And y j ∷ []) in
    let xn : n ≡ x = sym p.place_is in
    let yn : n + 1 ≡ y = let k = q.place_is in omega (arith, k, long) in
    let zn : n + 2 ≡ z = let k = r.place_is in omega (arith, k, long, longer) in
    let wn : n + 3 ≡ w = let k = s.place_is in omega (arith, k, long, longer, longest) in
    let whole : g.steps ≡ b.steps ++ (steps.And t i ∷ steps.Not t ∷ steps.And y j ∷ steps.Or x z ∷ []) =
    s.steps_are ∙ ap (λ (ss : List LaneStep). ss ++ steps.Or x z ∷ []) r.steps_are
    ∙ ap (λ (ss : List LaneStep). (ss ++ steps.And y j ∷ []) ++ steps.Or x z ∷ []) q.steps_are
    ∙ ap (λ (ss : List LaneStep). ((ss ++ steps.Not t ∷ []) ++ steps.And y j ∷ []) ++ steps.Or x z ∷ []) p.steps_are
    ∙ append_assoc ((b.steps ++ steps.And t i ∷ []) ++ steps.Not t ∷ []) (steps.And y j ∷ []) (steps.Or x z ∷ [])
    ∙ append_assoc (b.steps ++ steps.And t i ∷ []) (steps.Not t ∷ []) (steps.And y j ∷ steps.Or x z ∷ [])
    ∙ append_assoc b.steps (steps.And t i ∷ []) (steps.Not t ∷ steps.And y j ∷ steps.Or x z ∷ []) in
    let places : choosing n t i j ≡ steps.And t i ∷ steps.Not t ∷ steps.And y j ∷ steps.Or x z ∷ [] =
    ap (λ (k : ℕ). steps.And t i ∷ steps.Not t ∷ steps.And k j ∷ steps.Or n (n + 2) ∷ []) yn
    ∙ ap (λ (k : ℕ). steps.And t i ∷ steps.Not t ∷ steps.And y j ∷ steps.Or k (n + 2) ∷ []) xn
    ∙ ap (λ (k : ℕ). steps.And t i ∷ steps.Not t ∷ steps.And y j ∷ steps.Or x k ∷ []) zn in
    same_begun (b.steps ++ choosing n t i j) (b.steps ++ (steps.And t i ∷ steps.Not t ∷ steps.And y j ∷ steps.Or x z ∷ [])) b.names g.names (n + 3) w g whole refl
    (ap (λ (ss : List LaneStep). b.steps ++ ss) places) (sym (s.names_are ∙ r.names_are ∙ q.names_are ∙ p.names_are)) wn

-- a number copied behind
pub last_copied : (b c d : Begun) (i t w : ℕ) → added b (steps.Truth true) ≡ placed c t → added c (steps.Select t i i) ≡ placed d w
    → placed (record { steps = b.steps ++ (steps.Truth true ∷ steps.Select (length b.steps) i i ∷ []); names = b.names }) (length b.steps + 1) ≡ placed d w
last_copied b c d i t w first second =
    let p = added_is b (steps.Truth true) c t first in
    let q = added_is c (steps.Select t i i) d w second in
    let long = ap length p.steps_are ∙ length-append b.steps (steps.Truth true ∷ []) in
    let wn : length b.steps + 1 ≡ w = let k = q.place_is in omega (arith, k, long) in
    let whole : d.steps ≡ b.steps ++ (steps.Truth true ∷ steps.Select t i i ∷ []) =
    q.steps_are ∙ ap (λ (ss : List LaneStep). ss ++ steps.Select t i i ∷ []) p.steps_are ∙ append_assoc b.steps (steps.Truth true ∷ []) (steps.Select t i i ∷ []) in
    same_begun (b.steps ++ (steps.Truth true ∷ steps.Select (length b.steps) i i ∷ [])) (b.steps ++ (steps.Truth true ∷ steps.Select t i i ∷ [])) b.names d.names (length b.steps + 1) w d whole refl
    (ap (λ (k : ℕ). b.steps ++ (steps.Truth true ∷ steps.Select k i i ∷ [])) (sym p.place_is)) (sym (q.names_are ∙ p.names_are)) wn
