-- Each form of the lane form is lowered, where nodes have their types.
use Rattle.std.proofs.Common.{◌≡◌, ℕ, zero, suc, ◌<◌, ◌==◌, Bool, true, false, not, ◌&&◌, ◌||◌, if◌then◌else◌, List, [], ◌∷◌, ◌++◌, length, Option, Some, None, refl, sym, ap, subst, ◌∙◌, IsTrue}
use Rattle.std.proofs.lemmas.Bool.{eqb-true}
use Rattle.weld_data.specs.declared.kind.Kind.{Kind}
use Rattle.weld_data.specs.declared.kind.Kind.TheVariants as kinds
use Rattle.weld_data.specs.Lookup.{same_kind}
use Rattle.weld_data.specs.Wrapped.{wrapped}
use Rattle.weld_data.proofs.Wrapping.{IsWrapped-wrapped}
use Rattle.weld_tree.specs.declared.known.Known.{Known}
use Rattle.weld_tree.specs.declared.known.Known.TheVariants.{Is}
use Rattle.weld_tree.specs.TypeTree.{TypeTree, BuildTree, TypeTrees, scalar, struct, build, no_types, more_types}
use Rattle.weld_tree.specs.ExprTree.{At, ExprTree, leaf, one, two, three, many, let_in, loop, iterate, Leaf, int, truth, chars, name, fresh, One, neg, cast, len, field, finish, started, Two, binary, and, or, look_up, key_exists, merge, Three, if_else, select, slice}
use Rattle.weld_tree.specs.ExprTree as trees
use Rattle.weld_lanes.specs.declared.steps.LaneStep.TheVariants as steps
use Rattle.weld_lanes.specs.Formed.{is_formed, are_formed}
use Rattle.weld_meaning.specs.Environment.{look_for}
use Rattle.weld_meaning.specs.Typing.{Types, truth_type, IsField, LeafHas, OneHas, HasType}
use Rattle.weld_check_types.specs.Notes.{AreNoted}
use Rattle.weld_sizes.specs.Sized.{is_that_name}
use Rattle.weld_sizes.specs.Lanes.{is_lane_kind, is_noted_number, LaneLoop, is_among, is_lane_name, is_lane_leaf, is_int_leaf, is_int, is_not, is_lane_one, is_lane}
use Rattle.weld_lane_form.specs.Bodies.{IsNameOf}
use Rattle.weld_lane_form.specs.Lowering.{LaneNames, Begun, Placed, placed, behind, added, where_true, is_mask_at, place_among, lower_uniform, lower_outside, lower_name, lower_leaf, is_integer, lower_cast_leaf, lower_cast, is_unlet, lower_field, lower_not, lower_one}
use Rattle.weld_lane_form.proofs.Forms.{same_self}
use Rattle.weld_lane_form.proofs.LoweredMeans.{left_true, right_true, same_kinds, that_name}
use Rattle.weld_lane_form.proofs.AllLowered.{both_true, or_cases, below_is, number_kind, sort_type, truth_sort, noted_number, Lowers, added_lowers, where_lowers, behind_lowers, Known_names, row_type, Begins, some_type, lit_formed}

-- the loop as the lane form sees it
abbrev pub lane_loop : LaneNames → LaneLoop
lane_loop c = record { kind = c.kind; is_pair = c.is_pair; number = c.number; row = c.row }

abbrev pub let_names : List (ℕ × ℕ) → List ℕ
let_names [] = []
let_names (n ∷ ns) = n.0 ∷ let_names ns

-- ---- names

not_among : (ns : List (ℕ × ℕ)) (s : ℕ) → look_for s ns ≡ None → is_among (let_names ns) s ≡ true → ⊥
not_among [] s h g = cc
not_among (n ∷ ns) s h g = by (not_among ns s) (s == n.0) h g
  where
    by : (look_for s ns ≡ None → is_among (let_names ns) s ≡ true → ⊥) → (q : Bool) → (if q then Some n.1 else look_for s ns) ≡ None → (q || is_among (let_names ns) s) ≡ true → ⊥
    by rest true x y = cc
    by rest false x y = rest x y

uniform_lowers : (c : LaneNames) (b : Begun) (s : ℕ) (o : Option ℕ) (t : TypeTree) → IsTrue (are_formed c.kind 0 b.steps) → t ≡ scalar c.kind → Lowers c (lower_uniform b s o) t
uniform_lowers c b s (Some u) t h sort = added_lowers c b (steps.Uniform u) t h refl sort
uniform_lowers c b s None t h sort = added_lowers c (record { steps = b.steps; names = b.names ++ s ∷ [] }) (steps.Uniform (length b.names)) t h refl sort

struct_scalar : (c : LaneNames) (p : Bool) → (if p then struct (more_types (scalar c.kind) (more_types (scalar c.kind) no_types)) else scalar c.kind) ≡ scalar c.kind → not p ≡ true
struct_scalar c true h = cc
struct_scalar c false h = refl

build_scalar : (own : BuildTree) (k : Kind) → build own ≡ scalar k → ⊥
build_scalar own k h = cc

-- a number of the kind that no `let` names and that isn't the row's number
outside_lowers : (c : LaneNames) (own : BuildTree) (out : Types) (b : Begun) (s : ℕ) → Begins c own out → IsTrue (are_formed c.kind 0 b.steps) → look_for s out ≡ Some (scalar c.kind) → (s == c.number) ≡ false → Lowers c (lower_outside c b s) (scalar c.kind)
outside_lowers c own out b s k h typed apart = by (s == c.row) refl
  where
    not_own : (r : Bool) → (s == c.own) ≡ r → (s == c.row) ≡ false → not ((s == c.number) || r) ≡ true
    not_own true is other =
        let e : s ≡ c.own = eqb-true s c.own is in
        let x : (c.own == c.row) ≡ false = subst (λ (n : ℕ). (n == c.row) ≡ false) e other in
        let y : (c.own == c.number) ≡ false = subst (λ (n : ℕ). (n == c.number) ≡ false) e apart in
        absurd (build_scalar own c.kind (some_type (build own) (scalar c.kind) (sym (k.builder x y) ∙ ap (λ (n : ℕ). look_for n out) (sym e) ∙ typed)))
    not_own false is other = ap (λ (q : Bool). not (q || false)) apart

    by : (q : Bool) → (s == c.row) ≡ q → Lowers c (if q then where_true (not c.is_pair) (added b steps.A) else where_true (not ((s == c.number) || (s == c.own))) (lower_uniform b s (place_among b.names s))) (scalar c.kind)
    by true is =
        let e : s ≡ c.row = eqb-true s c.row is in
        let single = struct_scalar c c.is_pair (some_type (row_type c) (scalar c.kind) (sym k.row ∙ ap (λ (n : ℕ). look_for n out) (sym e) ∙ typed)) in
        where_lowers c (not c.is_pair) (added b steps.A) (scalar c.kind) single (added_lowers c b steps.A (scalar c.kind) h refl refl)
    by false is =
        where_lowers c (not ((s == c.number) || (s == c.own))) (lower_uniform b s (place_among b.names s)) (scalar c.kind)
        (not_own (s == c.own) refl is) (uniform_lowers c b s (place_among b.names s) (scalar c.kind) h refl)

unlike : (q : Bool) → (if q then false else true) ≡ true → q ≡ false
unlike true h = cc
unlike false h = refl

name_lowers : (c : LaneNames) (own : BuildTree) (out g : Types) (ns : List (ℕ × ℕ)) (b : Begun) (n : Known) (s : ℕ) (t : TypeTree) (o : Option ℕ) → Begins c own out → Known_names c out g ns b → IsTrue (are_formed c.kind 0 b.steps)
    → look_for s g ≡ Some t → n ≡ Is t → is_lane_name (lane_loop c) (let_names ns) n s ≡ true → look_for s ns ≡ o → Lowers c (lower_name c b s o) t
name_lowers c own out g ns b n s t (Some i) k names h typed noted lane is =
    let w = names.lets s i is in
    record { to = b; place = i; is = refl; sort = some_type t (sort_type c.kind (is_mask_at b i)) (sym typed ∙ w.1); formed = h }
name_lowers c own out g ns b n s t None k names h typed noted lane is =
    or_cases (is_noted_number c.kind n && (if s == c.number then false else true)) (is_noted_number kinds.Bool n && is_among (let_names ns) s) lane
    (λ x.
    let e : t ≡ scalar c.kind = noted_number c.kind n t noted (left_true (is_noted_number c.kind n) (if s == c.number then false else true) x) in
    let apart = unlike (s == c.number) (right_true (is_noted_number c.kind n) (if s == c.number then false else true) x) in
    subst (Lowers c (lower_outside c b s)) (sym e)
    (outside_lowers c own out b s k h (sym (names.others s is) ∙ typed ∙ ap (λ (u : TypeTree). Some u) e) apart))
    (λ x. absurd (not_among ns s is (right_true (is_noted_number kinds.Bool n) (is_among (let_names ns) s) x)))

-- ---- forms without parts

pub leaf_lowers : (c : LaneNames) (own : BuildTree) (out g : Types) (ns : List (ℕ × ℕ)) (b : Begun) (n : Known) (l : Leaf) (t : TypeTree) → Begins c own out → Known_names c out g ns b → IsTrue (are_formed c.kind 0 b.steps)
    → LeafHas l g t → n ≡ Is t → is_lane_leaf (lane_loop c) (let_names ns) n l ≡ true → Lowers c (lower_leaf c ns b l) t
leaf_lowers c own out g ns b n (int m x) t k names h typed noted lane =
    let e : c.kind ≡ m = same_kinds c.kind m lane in
    where_lowers c (same_kind m c.kind) (added b (steps.Lit x)) t (subst (λ (j : Kind). same_kind m j ≡ true) (sym e) (same_self m))
    (added_lowers c b (steps.Lit x) t h (subst (λ (j : Kind). is_formed j (length b.steps) (steps.Lit x) ≡ true) (sym e) (lit_formed m (length b.steps) x typed.1)) (typed.2 ∙ ap scalar (sym e)))
leaf_lowers c own out g ns b n (truth v) t k names h typed noted lane = added_lowers c b (steps.Truth v) t h refl typed
leaf_lowers c own out g ns b n (chars bs) t k names h typed noted lane = cc
leaf_lowers c own out g ns b n (name s) t k names h typed noted lane = name_lowers c own out g ns b n s t (look_for s ns) k names h typed noted lane refl
leaf_lowers c own out g ns b n (fresh d) t k names h typed noted lane = cc

-- ---- forms of one part

cast_leaf_lowers : (c : LaneNames) (m : Kind) (b : Begun) (l : Leaf) (t : TypeTree) → is_lane_kind c.kind ≡ true → IsTrue (are_formed c.kind 0 b.steps) → same_kind c.kind m ≡ true → is_int_leaf l ≡ true → t ≡ scalar m → Lowers c (lower_cast_leaf c m b l) t
cast_leaf_lowers c m b (int j x) t lane h same is typed =
    let e : c.kind ≡ m = same_kinds c.kind m same in
    where_lowers c (is_integer m && same_kind m c.kind) (added b (steps.Lit (wrapped m x))) t
    (both_true (is_integer m) (same_kind m c.kind) (subst (λ (i : Kind). is_integer i ≡ true) e (number_kind c.kind lane)) (subst (λ (i : Kind). same_kind m i ≡ true) (sym e) (same_self m)))
    (added_lowers c b (steps.Lit (wrapped m x)) t h
    (subst (λ (i : Kind). is_formed i (length b.steps) (steps.Lit (wrapped m x)) ≡ true) (sym e) (lit_formed m (length b.steps) (wrapped m x) (IsWrapped-wrapped m x).in_range)) (typed ∙ ap scalar (sym e)))
cast_leaf_lowers c m b (truth v) t lane h same is typed = cc
cast_leaf_lowers c m b (chars bs) t lane h same is typed = cc
cast_leaf_lowers c m b (name s) t lane h same is typed = cc
cast_leaf_lowers c m b (fresh d) t lane h same is typed = cc

cast_lowers : (c : LaneNames) (m : Kind) (b : Begun) (e : ExprTree) (t : TypeTree) → is_lane_kind c.kind ≡ true → IsTrue (are_formed c.kind 0 b.steps) → same_kind c.kind m ≡ true → is_int e ≡ true → t ≡ scalar m → Lowers c (lower_cast c m b e) t
cast_lowers c m b (leaf a l) t lane h same is typed = cast_leaf_lowers c m b l t lane h same is typed
cast_lowers c m b (one a o e) t lane h same is typed = cc
cast_lowers c m b (two a o e f) t lane h same is typed = cc
cast_lowers c m b (three a o e f g) t lane h same is typed = cc
cast_lowers c m b (many a o es) t lane h same is typed = cc
cast_lowers c m b (let_in a x e f) t lane h same is typed = cc
cast_lowers c m b (loop a ls e x n r f) t lane h same is typed = cc
cast_lowers c m b (iterate a e x f) t lane h same is typed = cc

-- the name's type is what is known of it
pub name_type : (e : ExprTree) (s : ℕ) (g : Types) (t : TypeTree) → IsNameOf e s → HasType e g t → look_for s g ≡ Some t
name_type (leaf a l) s g t is h = subst (λ (x : Leaf). LeafHas x g t) is h
name_type (one a o e) s g t is h = absurd is
name_type (two a o e f) s g t is h = absurd is
name_type (three a o e f k) s g t is h = absurd is
name_type (many a o es) s g t is h = absurd is
name_type (let_in a x e f) s g t is h = absurd is
name_type (loop a ls e x n r f) s g t is h = absurd is
name_type (iterate a e x f) s g t is h = absurd is

-- a name of no scalar type is no `let`'s
pub not_let : (c : LaneNames) (out g : Types) (ns : List (ℕ × ℕ)) (b : Begun) (s : ℕ) (t : TypeTree) (o : Option ℕ) → Known_names c out g ns b → look_for s g ≡ Some t → ((m : Kind) → t ≡ scalar m → ⊥) → look_for s ns ≡ o → o ≡ None
not_let c out g ns b s t (Some i) names typed other is = absurd (other _ (some_type t (sort_type c.kind (is_mask_at b i)) (sym typed ∙ (names.lets s i is).1)))
not_let c out g ns b s t None names typed other is = refl

pair_types : (p : Bool) (k : Kind) (us : TypeTrees) → p ≡ true → (if p then struct (more_types (scalar k) (more_types (scalar k) no_types)) else scalar k) ≡ struct us → more_types (scalar k) (more_types (scalar k) no_types) ≡ us
pair_types true k us h e = cc
pair_types false k us h e = cc

field_lowers_by : (c : LaneNames) (n : ℕ) (b : Begun) (t : TypeTree) → IsTrue (are_formed c.kind 0 b.steps) → IsField n (more_types (scalar c.kind) (more_types (scalar c.kind) no_types)) t
    → Lowers c (if n == 0 then added b steps.A else where_true (n == 1) (added b steps.B)) t
field_lowers_by c zero b t h is = added_lowers c b steps.A t h refl is
field_lowers_by c (suc zero) b t h is = added_lowers c b steps.B t h refl is
field_lowers_by c (suc (suc n)) b t h is = absurd is

field_lowers : (c : LaneNames) (own : BuildTree) (out g : Types) (ns : List (ℕ × ℕ)) (b : Begun) (n : ℕ) (e : ExprTree) (t u : TypeTree) → Begins c own out → Known_names c out g ns b → IsTrue (are_formed c.kind 0 b.steps)
    → HasType e g u → OneHas (field n) u t → (c.is_pair && is_that_name e c.row) ≡ true → Lowers c (lower_field c ns n b e) t
field_lowers c own out g ns b n e t u k names h typed rule lane =
    let pair = left_true c.is_pair (is_that_name e c.row) lane in
    let named = right_true c.is_pair (is_that_name e c.row) lane in
    let there : look_for c.row g ≡ Some (struct rule.0) = name_type e c.row g u (that_name e c.row named) typed ∙ ap (λ (v : TypeTree). Some v) rule.1 in
    let free : look_for c.row ns ≡ None = not_let c out g ns b c.row (struct rule.0) (look_for c.row ns) names there (λ m x. cc) refl in
    let row : row_type c ≡ struct rule.0 = some_type (row_type c) (struct rule.0) (sym k.row ∙ sym (names.others c.row free) ∙ there) in
    let us = pair_types c.is_pair c.kind rule.0 pair row in
    where_lowers c (c.is_pair && (is_that_name e c.row && is_unlet (look_for c.row ns))) (if n == 0 then added b steps.A else where_true (n == 1) (added b steps.B)) t
    (both_true c.is_pair (is_that_name e c.row && is_unlet (look_for c.row ns)) pair (both_true (is_that_name e c.row) (is_unlet (look_for c.row ns)) named (ap is_unlet free)))
    (field_lowers_by c n b t h (subst (λ (vs : TypeTrees). IsField n vs t) (sym us) rule.2))

-- what is known of a part that is lowered
abbrev LowersPart : LaneNames → LaneLoop → List ℕ → Types → ExprTree → Placed → Type 0
LowersPart c l ls g e p = (u : TypeTree) → is_lane l ls e ≡ true → HasType e g u → AreNoted e g → Lowers c p u

not_lowers : (c : LaneNames) (p : Placed) → is_lane_kind c.kind ≡ true → ((d : Begun) (i : ℕ) → p ≡ placed d i → i < length d.steps) → Lowers c p truth_type → Lowers c (behind p lower_not) truth_type
not_lowers c p lane below h =
    let mask = truth_sort c.kind (is_mask_at h.to h.place) lane h.sort in
    behind_lowers c p lower_not h.to h.place truth_type h.is
    (where_lowers c (is_mask_at h.to h.place) (added h.to (steps.Not h.place)) truth_type mask
    (added_lowers c h.to (steps.Not h.place) truth_type h.formed (below_is h.place (length h.to.steps) (below h.to h.place h.is)) refl))

pub one_lowers : (c : LaneNames) (own : BuildTree) (out g : Types) (ns : List (ℕ × ℕ)) (b : Begun) (o : One) (e : ExprTree) (p : Placed) (t u : TypeTree) → Begins c own out → Known_names c out g ns b → IsTrue (are_formed c.kind 0 b.steps)
    → ((d : Begun) (i : ℕ) → p ≡ placed d i → i < length d.steps) → LowersPart c (lane_loop c) (let_names ns) g e p
    → HasType e g u → AreNoted e g → OneHas o u t → (is_lane_one (lane_loop c) o e || (is_not o && is_lane (lane_loop c) (let_names ns) e)) ≡ true → Lowers c (lower_one c ns o b e p) t
one_lowers c own out g ns b neg e p t u k names h below part typed noted rule lane = cc
one_lowers c own out g ns b trees.not e p t u k names h below part typed noted rule lane =
    subst (Lowers c (behind p lower_not)) (sym rule.1) (not_lowers c p k.lane below (subst (Lowers c p) rule.0 (part u lane typed noted)))
one_lowers c own out g ns b (cast m) e p t u k names h below part typed noted rule lane =
    or_cases (same_kind c.kind m && is_int e) false lane
    (λ x. cast_lowers c m b e t k.lane h (left_true (same_kind c.kind m) (is_int e) x) (right_true (same_kind c.kind m) (is_int e) x) rule.3)
    (λ x. cc)
one_lowers c own out g ns b len e p t u k names h below part typed noted rule lane = cc
one_lowers c own out g ns b (field n) e p t u k names h below part typed noted rule lane =
    or_cases (c.is_pair && is_that_name e c.row) false lane
    (λ x. field_lowers c own out g ns b n e t u k names h typed rule x)
    (λ x. cc)
one_lowers c own out g ns b finish e p t u k names h below part typed noted rule lane = cc
one_lowers c own out g ns b (started d) e p t u k names h below part typed noted rule lane = cc
