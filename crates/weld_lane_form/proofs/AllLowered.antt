-- Each value of the lane form is lowered, where nodes have their types.
use Rattle.std.proofs.Common.{rules, ◌≡◌, ℕ, suc, ◌+◌, ◌<◌, ◌==◌, nat_lt, Bool, true, false, ◌&&◌, ◌||◌, if◌then◌else◌, ℤ, int_le, List, [], ◌∷◌, ◌++◌, length, Option, Some, None, refl, sym, ap, subst, ◌∙◌, IsTrue, arith}
use Rattle.std.proofs.lemmas.List.{get_or_push}
use Rattle.weld_data.specs.declared.kind.Kind.{Kind}
use Rattle.weld_data.specs.declared.kind.Kind.TheVariants as kinds
use Rattle.weld_data.specs.Kind.{InRange, least, greatest}
use Rattle.weld_tree.specs.declared.known.Known.{Known}
use Rattle.weld_tree.specs.declared.known.Known.TheVariants.{Is}
use Rattle.weld_tree.specs.TypeTree.{TypeTree, BuildTree, scalar, vec, struct, dict, build, no_types, more_types}
use Rattle.weld_tree.specs.ExprTree.{ExprTree, leaf, one, two, three, many, let_in, loop, iterate}
use Rattle.weld_lanes.specs.declared.steps.LaneStep.{LaneStep}
use Rattle.weld_lanes.specs.declared.steps.LaneStep.TheVariants as steps
use Rattle.weld_lanes.specs.Blocks.{step_at}
use Rattle.weld_lanes.specs.Formed.{is_formed, are_formed}
use Rattle.weld_meaning.specs.Environment.{look_for}
use Rattle.weld_meaning.specs.Typing.{Types, truth_type, place_type, HasType}
use Rattle.weld_meaning.proofs.OneType.{one_type}
use Rattle.weld_check_types.specs.Notes.{AreNoted}
use Rattle.weld_sizes.specs.Lanes.{is_lane_kind, is_number_type, is_noted_number, noted_of}
use Rattle.weld_lane_form.specs.Bodies.{is_mask}
use Rattle.weld_lane_form.specs.Lowering.{LaneNames, Begun, Placed, placed, behind, added, where_true, is_mask_at, is_integer}
use Rattle.weld_lane_form.proofs.Growing.{Grows, grows_at, grows_length, AreBelow}
use Rattle.weld_lane_form.proofs.LoweredMeans.{left_true, right_true, same_kinds}

-- ---- truths

pub both_true : (t u : Bool) → t ≡ true → u ≡ true → (t && u) ≡ true
both_true true u p q = q
both_true false u p q = cc

pub or_cases : {P : Type 0} (t u : Bool) → (t || u) ≡ true → (t ≡ true → P) → (u ≡ true → P) → P
or_cases true u h p q = p refl
or_cases false u h p q = q h

pub where_is : (t : Bool) (p : Placed) → t ≡ true → where_true t p ≡ p
where_is t p h = ap (λ (q : Bool). where_true q p) h

pub below_is : (i n : ℕ) → i < n → nat_lt i n ≡ true
below_is i n h = grind arith

-- ---- kinds

pub number_kind : (k : Kind) → is_lane_kind k ≡ true → is_integer k ≡ true
number_kind kinds.Bool h = cc
number_kind kinds.I8 h = refl
number_kind kinds.I16 h = refl
number_kind kinds.I32 h = refl
number_kind kinds.I64 h = refl
number_kind kinds.U8 h = refl
number_kind kinds.U16 h = refl
number_kind kinds.U32 h = refl
number_kind kinds.U64 h = refl

pub no_truth : (k : Kind) → is_lane_kind k ≡ true → k ≡ kinds.Bool → ⊥
no_truth kinds.Bool h e = cc
no_truth kinds.I8 h e = cc
no_truth kinds.I16 h e = cc
no_truth kinds.I32 h e = cc
no_truth kinds.I64 h e = cc
no_truth kinds.U8 h e = cc
no_truth kinds.U16 h e = cc
no_truth kinds.U32 h e = cc
no_truth kinds.U64 h e = cc

pub scalar_kind : (k m : Kind) → scalar k ≡ scalar m → k ≡ m
scalar_kind k m h = cc

-- the type of what a step answers
abbrev pub sort_type : Kind → Bool → TypeTree
sort_type k m = scalar (if m then kinds.Bool else k)

pub number_sort : (k : Kind) (m : Bool) → is_lane_kind k ≡ true → scalar k ≡ sort_type k m → m ≡ false
number_sort k true lane h = absurd (no_truth k lane (scalar_kind k kinds.Bool h))
number_sort k false lane h = refl

pub truth_sort : (k : Kind) (m : Bool) → is_lane_kind k ≡ true → truth_type ≡ sort_type k m → m ≡ true
truth_sort k true lane h = refl
truth_sort k false lane h = absurd (no_truth k lane (sym (scalar_kind kinds.Bool k h)))

-- ---- notes

is_known : (t u : TypeTree) → Is t ≡ Is u → t ≡ u
is_known t u h = cc

pub number_type_is : (k : Kind) (t : TypeTree) → is_number_type k t ≡ true → t ≡ scalar k
number_type_is k (scalar m) h = ap scalar (sym (same_kinds k m h))
number_type_is k (vec t) h = cc
number_type_is k (struct ts) h = cc
number_type_is k (dict t u) h = cc
number_type_is k (build b) h = cc

pub noted_number : (k : Kind) (n : Known) (t : TypeTree) → n ≡ Is t → is_noted_number k n ≡ true → t ≡ scalar k
noted_number k n t is h = number_type_is k t (ap (is_noted_number k) (sym is) ∙ h)

-- the type that is noted at an expression is its type
pub noted_is : (e : ExprTree) (g : Types) (t : TypeTree) → HasType e g t → AreNoted e g → noted_of e ≡ Is t
noted_is (leaf a l) g t h n = n.1 ∙ ap Is (one_type (leaf a l) g n.0 t n.2 h)
noted_is (one a o e) g t h n = let m = n.1 in m.1 ∙ ap Is (one_type (one a o e) g m.0 t m.2 h)
noted_is (two a o e f) g t h n = let m = n.2 in m.1 ∙ ap Is (one_type (two a o e f) g m.0 t m.2 h)
noted_is (three a o e f k) g t h n = let m = n.3 in m.1 ∙ ap Is (one_type (three a o e f k) g m.0 t m.2 h)
noted_is (many a o es) g t h n = let m = n.1 in m.1 ∙ ap Is (one_type (many a o es) g m.0 t m.2 h)
noted_is (let_in a b e f) g t h n = let m = n.2 in m.1 ∙ ap Is (one_type (let_in a b e f) g m.0 t m.2 h)
noted_is (loop a ls e b c x f) g t h n = let m = n.3 in m.1 ∙ ap Is (one_type (loop a ls e b c x f) g m.0 t m.2 h)
noted_is (iterate a e b f) g t h n = let m = n.2 in m.1 ∙ ap Is (one_type (iterate a e b f) g m.0 t m.2 h)

-- ---- steps that are formed

formed_more : (k : Kind) (n : ℕ) (ss ts : List LaneStep) → IsTrue (are_formed k n ss) → IsTrue (are_formed k (n + length ss) ts) → IsTrue (are_formed k n (ss ++ ts))
formed_more k n [] ts h g = let e : n + 0 ≡ n = omega arith in subst (λ (m : ℕ). IsTrue (are_formed k m ts)) e g
formed_more k n (s ∷ ss) ts h g =
    let e : n + suc (length ss) ≡ suc n + length ss = omega arith in
    both_true (is_formed k n s) (are_formed k (suc n) (ss ++ ts)) (left_true (is_formed k n s) (are_formed k (suc n) ss) h)
    (formed_more k (suc n) ss ts (right_true (is_formed k n s) (are_formed k (suc n) ss) h) (subst (λ (m : ℕ). IsTrue (are_formed k m ts)) e g))

-- steps behind those that are formed are formed where they are by their places
pub formed_behind : (k : Kind) (b : Begun) (ts : List LaneStep) → IsTrue (are_formed k 0 b.steps) → IsTrue (are_formed k (length b.steps) ts) → IsTrue (are_formed k 0 (b.steps ++ ts))
formed_behind k b ts h g = let e : length b.steps ≡ 0 + length b.steps = omega arith in formed_more k 0 b.steps ts h (subst (λ (m : ℕ). IsTrue (are_formed k m ts)) e g)

formed_one : (k : Kind) (b : Begun) (s : LaneStep) → IsTrue (are_formed k 0 b.steps) → is_formed k (length b.steps) s ≡ true → IsTrue (are_formed k 0 (b.steps ++ s ∷ []))
formed_one k b s h is = formed_behind k b (s ∷ []) h (both_true (is_formed k (length b.steps) s) true is refl)

-- ---- what is lowered

-- the expression is lowered to a step that answers what is of its type, and all steps are formed
pub record Lowers (c : LaneNames) (p : Placed) (t : TypeTree) : Type 0 where
  pub to : Begun
  pub place : ℕ
  pub is : p ≡ placed to place
  pub sort : t ≡ sort_type c.kind (is_mask_at to place)
  pub formed : IsTrue (are_formed c.kind 0 to.steps)

step_here : (b : Begun) (s : LaneStep) → step_at (b.steps ++ s ∷ []) (length b.steps) ≡ s
step_here b s = get_or_push b.steps s steps.A (length b.steps) refl

pub added_lowers : (c : LaneNames) (b : Begun) (s : LaneStep) (t : TypeTree) → IsTrue (are_formed c.kind 0 b.steps) → is_formed c.kind (length b.steps) s ≡ true → t ≡ sort_type c.kind (is_mask s) → Lowers c (added b s) t
added_lowers c b s t h is sort = record {
  to = record { steps = b.steps ++ s ∷ []; names = b.names };
  place = length b.steps;
  is = refl;
  sort = sort ∙ ap (λ (r : LaneStep). sort_type c.kind (is_mask r)) (sym (step_here b s));
  formed = formed_one c.kind b s h is;
}

pub lowers_by : (c : LaneNames) (p q : Placed) (t : TypeTree) → p ≡ q → Lowers c q t → Lowers c p t
lowers_by c p q t e h = record { to = h.to; place = h.place; is = e ∙ h.is; sort = h.sort; formed = h.formed }

pub where_lowers : (c : LaneNames) (q : Bool) (p : Placed) (t : TypeTree) → q ≡ true → Lowers c p t → Lowers c (where_true q p) t
where_lowers c q p t e h = lowers_by c (where_true q p) p t (where_is q p e) h

pub behind_lowers : (c : LaneNames) (p : Placed) (f : Begun → ℕ → Placed) (d : Begun) (i : ℕ) (t : TypeTree) → p ≡ placed d i → Lowers c (f d i) t → Lowers c (behind p f) t
behind_lowers c p f d i t e h = lowers_by c (behind p f) (f d i) t (ap (λ (r : Placed). behind r f) e) h

-- ---- names

-- the names of the lets, with the types that their steps answer; the names of outside are as they were
pub record Known_names (c : LaneNames) (out g : Types) (ns : List (ℕ × ℕ)) (b : Begun) : Type 0 where
  pub lets : (s i : ℕ) → look_for s ns ≡ Some i → (i < length b.steps) × (look_for s g ≡ Some (sort_type c.kind (is_mask_at b i)))
  pub others : (s : ℕ) → look_for s ns ≡ None → look_for s g ≡ look_for s out

pub names_below : (c : LaneNames) (out g : Types) (ns : List (ℕ × ℕ)) (b : Begun) → Known_names c out g ns b → AreBelow ns (length b.steps)
names_below c out g ns b h = record { below = λ s i is. (h.lets s i is).0 }

pub names_on : (c : LaneNames) (out g : Types) (ns : List (ℕ × ℕ)) (b d : Begun) (i : ℕ) → Known_names c out g ns b → Grows b d i → Known_names c out g ns d
names_on c out g ns b d i h w = record {
  lets = λ s j is.
      let k = h.lets s j is in
      let less = k.0 in
      let long = grows_length b d i w in
      (omega (arith, less, long), k.1 ∙ ap (λ (r : LaneStep). Some (sort_type c.kind (is_mask r))) (sym (grows_at b d i j w k.0)));
  others = h.others;
}

bound_let : (c : LaneNames) (q : Bool) (m j : ℕ) (o : Option ℕ) (u : TypeTree) (y : Option TypeTree) (b : Begun) → (if q then Some m else o) ≡ Some j → m < length b.steps → u ≡ sort_type c.kind (is_mask_at b m)
    → (o ≡ Some j → (j < length b.steps) × (y ≡ Some (sort_type c.kind (is_mask_at b j)))) → (j < length b.steps) × ((if q then Some u else y) ≡ Some (sort_type c.kind (is_mask_at b j)))
bound_let c true m j o u y b h less sort rest =
    let e : m ≡ j = cc in
    (omega (arith, less, e), ap (λ (v : TypeTree). Some v) sort ∙ ap (λ (n : ℕ). Some (sort_type c.kind (is_mask_at b n))) e)
bound_let c false m j o u y b h less sort rest = rest h

bound_other : (q : Bool) (m : ℕ) (o : Option ℕ) (u : TypeTree) (y z : Option TypeTree) → (if q then Some m else o) ≡ None → (o ≡ None → y ≡ z) → (if q then Some u else y) ≡ z
bound_other true m o u y z h rest = cc
bound_other false m o u y z h rest = rest h

pub names_bind : (c : LaneNames) (out g : Types) (ns : List (ℕ × ℕ)) (b : Begun) (x i : ℕ) (u : TypeTree) → Known_names c out g ns b → i < length b.steps → u ≡ sort_type c.kind (is_mask_at b i) → Known_names c out ((x, u) ∷ g) ((x, i) ∷ ns) b
names_bind c out g ns b x i u h less sort = record {
  lets = λ s j is. bound_let c (s == x) i j (look_for s ns) u (look_for s g) b is less sort (h.lets s j);
  others = λ s is. bound_other (s == x) i (look_for s ns) u (look_for s g) (look_for s out) is (h.others s);
}

-- the type of a row
abbrev pub row_type : LaneNames → TypeTree
row_type c = if c.is_pair then struct (more_types (scalar c.kind) (more_types (scalar c.kind) no_types)) else scalar c.kind

-- what the loop's own names stand for where its body begins
pub record Begins (c : LaneNames) (own : BuildTree) (out : Types) : Type 0 where
  pub lane : is_lane_kind c.kind ≡ true
  pub row : look_for c.row out ≡ Some (row_type c)
  pub builder : (c.own == c.row) ≡ false → (c.own == c.number) ≡ false → look_for c.own out ≡ Some (build own)
  pub number : (c.number == c.row) ≡ false → look_for c.number out ≡ Some place_type

pub some_type : (t u : TypeTree) → Some t ≡ Some u → t ≡ u
some_type t u h = cc

-- ---- forms without parts

range_low : (k : Kind) (x : ℤ) → InRange k x → int_le (least k) x ≡ true
range_low k x h = search (rules, h.low)

range_high : (k : Kind) (x : ℤ) → InRange k x → int_le x (greatest k) ≡ true
range_high k x h = search (rules, h.high)

pub lit_formed : (k : Kind) (n : ℕ) (x : ℤ) → InRange k x → is_formed k n (steps.Lit x) ≡ true
lit_formed k n x h = both_true (int_le (least k) x) (int_le x (greatest k)) (range_low k x h) (range_high k x h)
