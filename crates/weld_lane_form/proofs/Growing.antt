-- What is begun grows: steps and names are added behind those that are there.
use Rattle.std.proofs.Common.{◌≡◌, ℕ, ◌+◌, ◌<◌, ◌≤◌, ◌==◌, Bool, true, false, not, ◌||◌, if◌then◌else◌, List, [], ◌∷◌, ◌++◌, length, Option, Some, None, refl, sym, ap, ◌∙◌, append_assoc, append-nil, arith}
use Rattle.std.proofs.lemmas.List.{length-append, get_or_append_left}
use Rattle.weld_data.specs.declared.kind.Kind.{Kind}
use Rattle.weld_data.specs.declared.op.BinOp.{BinOp}
use Rattle.weld_tree.specs.ExprTree.{ExprTree, leaf, one, two, three, many, let_in, loop, iterate, Leaf, int, truth, chars, name, fresh, One, neg, cast, len, field, finish, started, Two, binary, and, or, look_up, key_exists, merge, Three, if_else, select, slice}
use Rattle.weld_tree.specs.ExprTree as trees
use Rattle.weld_lanes.specs.declared.steps.LaneStep.{LaneStep}
use Rattle.weld_lanes.specs.declared.steps.LaneStep.TheVariants as steps
use Rattle.weld_lanes.specs.Blocks.{step_at}
use Rattle.weld_lanes.specs.Formed.{is_arithmetic}
use Rattle.weld_meaning.specs.Environment.{look_for}
use Rattle.weld_lane_form.specs.Lowering.{LaneNames, Begun, Placed, placed, behind, added, where_true, place_among, lower_uniform, lower_name, lower_leaf, lower_cast_leaf, lower_cast, lower_field, lower_not, lower_one, lower_binary, are_numbers, are_truths, lower_two, choosing, choose_truth, lower_three, lower_expr, lower_last}

-- ---- what was answered

abbrev begun_of : Begun → Placed → Begun
begun_of b None = b
begun_of b (Some r) = r.0

abbrev place_of : Placed → ℕ
place_of None = 0
place_of (Some r) = r.1

pub behind_is : (p : Placed) (f : Begun → ℕ → Placed) (d : Begun) (i : ℕ) → behind p f ≡ placed d i → (b : Begun) × (j : ℕ) × (p ≡ placed b j) × (f b j ≡ placed d i)
behind_is None f d i h = cc
behind_is (Some r) f d i h = (r.0, r.1, refl, h)

pub true_is : (t : Bool) (p : Placed) (d : Begun) (i : ℕ) → where_true t p ≡ placed d i → (t ≡ true) × (p ≡ placed d i)
true_is true p d i h = (refl, h)
true_is false p d i h = cc

-- one step was added
pub record IsAdded (b : Begun) (s : LaneStep) (d : Begun) (i : ℕ) : Type 0 where
  pub steps_are : d.steps ≡ b.steps ++ s ∷ []
  pub names_are : d.names ≡ b.names
  pub place_is : i ≡ length b.steps

pub added_is : (b : Begun) (s : LaneStep) (d : Begun) (i : ℕ) → added b s ≡ placed d i → IsAdded b s d i
added_is b s d i h = record {
  steps_are = ap (λ (p : Placed). (begun_of b p).steps) (sym h);
  names_are = ap (λ (p : Placed). (begun_of b p).names) (sym h);
  place_is = ap place_of (sym h);
}

pub placed_is : (b : Begun) (i : ℕ) (d : Begun) (j : ℕ) → (the : Placed) → the ≡ placed b i → the ≡ placed d j → (b ≡ d) × (i ≡ j)
placed_is b i d j the h g = (ap (begun_of b) (sym h ∙ g), ap place_of (sym h ∙ g))

-- ---- growing

-- the second has the steps and names of the first before its own, and the place is one of its steps
pub record Grows (b d : Begun) (i : ℕ) : Type 0 where
  pub more : List LaneStep
  pub steps_are : d.steps ≡ b.steps ++ more
  pub more_names : List ℕ
  pub names_are : d.names ≡ b.names ++ more_names
  pub less : i < length d.steps

pub one_grows : (b : Begun) (s : LaneStep) (d : Begun) (i : ℕ) → IsAdded b s d i → Grows b d i
one_grows b s d i h =
    let long = ap length h.steps_are ∙ length-append b.steps (s ∷ []) in
    record {
      more = s ∷ [];
      steps_are = h.steps_are;
      more_names = [];
      names_are = h.names_are ∙ sym (append-nil b.names);
      less = omega (arith, h.place_is, long);
    }

pub grows_by : (b : Begun) (s : LaneStep) (d : Begun) (i : ℕ) → added b s ≡ placed d i → Grows b d i
grows_by b s d i h = one_grows b s d i (added_is b s d i h)

pub grows_on : (b d g : Begun) (i j : ℕ) → Grows b d i → Grows d g j → Grows b g j
grows_on b d g i j p q = record {
  more = p.more ++ q.more;
  steps_are = q.steps_are ∙ ap (λ (ss : List LaneStep). ss ++ q.more) p.steps_are ∙ append_assoc b.steps p.more q.more;
  more_names = p.more_names ++ q.more_names;
  names_are = q.names_are ∙ ap (λ (ns : List ℕ). ns ++ q.more_names) p.names_are ∙ append_assoc b.names p.more_names q.more_names;
  less = q.less;
}

pub grows_length : (b d : Begun) (i : ℕ) → Grows b d i → length b.steps ≤ length d.steps
grows_length b d i p = let long = ap length p.steps_are ∙ length-append b.steps p.more in omega (arith, long)

-- the steps that were there stay in their places
pub grows_at : (b d : Begun) (i j : ℕ) → Grows b d i → j < length b.steps → step_at d.steps j ≡ step_at b.steps j
grows_at b d i j p less = ap (λ (ss : List LaneStep). step_at ss j) p.steps_are ∙ get_or_append_left b.steps p.more steps.A j less

-- each name of a `let` has the place of a step that is there
pub record AreBelow (ns : List (ℕ × ℕ)) (n : ℕ) : Type 0 where
  pub below : (s i : ℕ) → look_for s ns ≡ Some i → i < n

pub below_on : (ns : List (ℕ × ℕ)) (b d : Begun) (i : ℕ) → AreBelow ns (length b.steps) → Grows b d i → AreBelow ns (length d.steps)
below_on ns b d i h g = record { below = λ s j is. let less = h.below s j is in let long = grows_length b d i g in omega (arith, less, long) }

some_place : (t : Bool) (m i : ℕ) (o : Option ℕ) (n : ℕ) → (if t then Some m else o) ≡ Some i → m < n → (o ≡ Some i → i < n) → i < n
some_place true m i o n h less rest = let e : m ≡ i = cc in omega (arith, e, less)
some_place false m i o n h less rest = rest h

pub below_bind : (ns : List (ℕ × ℕ)) (x i n : ℕ) → AreBelow ns n → i < n → AreBelow ((x, i) ∷ ns) n
below_bind ns x i n h less = record { below = λ s j is. some_place (s == x) i j (look_for s ns) n is less (h.below s j) }

pub below_none : (n : ℕ) → AreBelow [] n
below_none n = record { below = λ s i h. cc }

pub more_grow : (b : Begun) (ss : List LaneStep) (j : ℕ) (d : Begun) (i : ℕ) → j < length b.steps + length ss
    → placed (record { steps = b.steps ++ ss; names = b.names }) j ≡ placed d i → Grows b d i
more_grow b ss j d i less h =
    let p : Placed = placed (record { steps = b.steps ++ ss; names = b.names }) j in
    let is = placed_is (record { steps = b.steps ++ ss; names = b.names }) j d i p refl h in
    let steps_are : d.steps ≡ b.steps ++ ss = ap (λ (x : Begun). x.steps) (sym is.0) in
    let here = is.1 in
    let long = ap length steps_are ∙ length-append b.steps ss in
    record {
      more = ss;
      steps_are = steps_are;
      more_names = [];
      names_are = ap (λ (x : Begun). x.names) (sym is.0) ∙ sym (append-nil b.names);
      less = omega (arith, less, long, here);
    }

-- ---- each form

grows_where : (t : Bool) (b : Begun) (s : LaneStep) (d : Begun) (i : ℕ) → where_true t (added b s) ≡ placed d i → Grows b d i
grows_where t b s d i h = grows_by b s d i (true_is t (added b s) d i h).1

uniform_grows : (b : Begun) (s : ℕ) (o : Option ℕ) (d : Begun) (i : ℕ) → lower_uniform b s o ≡ placed d i → Grows b d i
uniform_grows b s (Some u) d i h = grows_by b (steps.Uniform u) d i h
uniform_grows b s None d i h =
    let a = added_is (record { steps = b.steps; names = b.names ++ s ∷ [] }) (steps.Uniform (length b.names)) d i h in
    let long = ap length a.steps_are ∙ length-append b.steps (steps.Uniform (length b.names) ∷ []) in
    let less : i < length d.steps = omega (arith, a.place_is, long) in
    record { more = steps.Uniform (length b.names) ∷ []; steps_are = a.steps_are; more_names = s ∷ []; names_are = a.names_are; less = less }

outside_by : (t : Bool) (c : LaneNames) (b : Begun) (s : ℕ) (d : Begun) (i : ℕ)
    → (if t then where_true (not c.is_pair) (added b steps.A) else where_true (not ((s == c.number) || (s == c.own))) (lower_uniform b s (place_among b.names s))) ≡ placed d i → Grows b d i
outside_by true c b s d i h = grows_where (not c.is_pair) b steps.A d i h
outside_by false c b s d i h = uniform_grows b s (place_among b.names s) d i (true_is (not ((s == c.number) || (s == c.own))) (lower_uniform b s (place_among b.names s)) d i h).1

same_grows : (b : Begun) (j n : ℕ) (d : Begun) (i : ℕ) → n ≡ length b.steps → j < n → placed b j ≡ placed d i → Grows b d i
same_grows b j n d i e less h =
    let is = placed_is b j d i (placed b j) refl h in
    let long = ap (λ (x : Begun). length x.steps) is.0 in
    let here = is.1 in
    record {
      more = [];
      steps_are = ap (λ (x : Begun). x.steps) (sym is.0) ∙ sym (append-nil b.steps);
      more_names = [];
      names_are = ap (λ (x : Begun). x.names) (sym is.0) ∙ sym (append-nil b.names);
      less = omega (arith, e, less, long, here);
    }

name_grows : (c : LaneNames) (b : Begun) (s : ℕ) (o : Option ℕ) (d : Begun) (i : ℕ) → ((j : ℕ) → o ≡ Some j → j < length b.steps) → lower_name c b s o ≡ placed d i → Grows b d i
name_grows c b s (Some j) d i k h = same_grows b j (length b.steps) d i refl (k j refl) h
name_grows c b s None d i k h = outside_by (s == c.row) c b s d i h

leaf_grows : (c : LaneNames) (ns : List (ℕ × ℕ)) (b : Begun) (l : Leaf) (d : Begun) (i : ℕ) → AreBelow ns (length b.steps) → lower_leaf c ns b l ≡ placed d i → Grows b d i
leaf_grows c ns b (int m x) d i k h = grows_where _ b (steps.Lit x) d i h
leaf_grows c ns b (truth t) d i k h = grows_by b (steps.Truth t) d i h
leaf_grows c ns b (chars bs) d i k h = cc
leaf_grows c ns b (name s) d i k h = name_grows c b s (look_for s ns) d i (k.below s) h
leaf_grows c ns b (fresh x) d i k h = cc

cast_leaf_grows : (c : LaneNames) (k : Kind) (b : Begun) (l : Leaf) (d : Begun) (i : ℕ) → lower_cast_leaf c k b l ≡ placed d i → Grows b d i
cast_leaf_grows c k b (int m x) d i h = grows_where _ b _ d i h
cast_leaf_grows c k b (truth t) d i h = cc
cast_leaf_grows c k b (chars bs) d i h = cc
cast_leaf_grows c k b (name s) d i h = cc
cast_leaf_grows c k b (fresh x) d i h = cc

cast_grows : (c : LaneNames) (k : Kind) (b : Begun) (e : ExprTree) (d : Begun) (i : ℕ) → lower_cast c k b e ≡ placed d i → Grows b d i
cast_grows c k b (leaf a l) d i h = cast_leaf_grows c k b l d i h
cast_grows c k b (one a o e) d i h = cc
cast_grows c k b (two a o e f) d i h = cc
cast_grows c k b (three a o e f g) d i h = cc
cast_grows c k b (many a o es) d i h = cc
cast_grows c k b (let_in a x e f) d i h = cc
cast_grows c k b (loop a ls e x n r f) d i h = cc
cast_grows c k b (iterate a e x f) d i h = cc

field_by : (t : Bool) (n : ℕ) (b : Begun) (d : Begun) (i : ℕ) → (if t then added b steps.A else where_true (n == 1) (added b steps.B)) ≡ placed d i → Grows b d i
field_by true n b d i h = grows_by b steps.A d i h
field_by false n b d i h = grows_where (n == 1) b steps.B d i h

field_grows : (c : LaneNames) (ns : List (ℕ × ℕ)) (n : ℕ) (b : Begun) (e : ExprTree) (d : Begun) (i : ℕ) → lower_field c ns n b e ≡ placed d i → Grows b d i
field_grows c ns n b e d i h = field_by (n == 0) n b d i (true_is _ (if n == 0 then added b steps.A else where_true (n == 1) (added b steps.B)) d i h).1

one_part_grows : (c : LaneNames) (ns : List (ℕ × ℕ)) (o : One) (b : Begun) (e : ExprTree) (p : Placed) (d : Begun) (i : ℕ)
    → ((g : Begun) (j : ℕ) → p ≡ placed g j → Grows b g j) → lower_one c ns o b e p ≡ placed d i → Grows b d i
one_part_grows c ns neg b e p d i k h = cc
one_part_grows c ns trees.not b e p d i k h =
    let w = behind_is p lower_not d i h in
    grows_on b w.0 d w.1 i (k w.0 w.1 w.2) (grows_where _ w.0 (steps.Not w.1) d i w.3)
one_part_grows c ns (cast m) b e p d i k h = cast_grows c m b e d i h
one_part_grows c ns len b e p d i k h = cc
one_part_grows c ns (field n) b e p d i k h = field_grows c ns n b e d i h
one_part_grows c ns finish b e p d i k h = cc
one_part_grows c ns (started x) b e p d i k h = cc

binary_by : (t : Bool) (op : BinOp) (b : Begun) (s : LaneStep) (u : Bool) (r : LaneStep) (d : Begun) (i : ℕ) → (if t then added b s else where_true u (added b r)) ≡ placed d i → Grows b d i
binary_by true op b s u r d i h = grows_by b s d i h
binary_by false op b s u r d i h = grows_where u b r d i h

pub two_parts_grow : (o : Two) (j k : ℕ) (b : Begun) (d : Begun) (i : ℕ) → lower_two o j k b ≡ placed d i → Grows b d i
two_parts_grow (binary op) j k b d i h = binary_by (is_arithmetic op) op b (steps.Arith op j k) _ (steps.Compare op j k) d i (true_is _ (lower_binary op j k b) d i h).1
two_parts_grow and j k b d i h = grows_where _ b (steps.And j k) d i h
two_parts_grow or j k b d i h = grows_where _ b (steps.Or j k) d i h
two_parts_grow look_up j k b d i h = cc
two_parts_grow key_exists j k b d i h = cc
two_parts_grow merge j k b d i h = cc

pub choose_grows : (t j k : ℕ) (b : Begun) (d : Begun) (i : ℕ) → choose_truth t j k b ≡ placed d i → Grows b d i
choose_grows t j k b d i h = more_grow b (choosing (length b.steps) t j k) (length b.steps + 3) d i (omega arith) h

select_by : (n : Bool) (t j k : ℕ) (b : Begun) (d : Begun) (i : ℕ) → (if n then added b (steps.Select t j k) else where_true (are_truths b j k) (choose_truth t j k b)) ≡ placed d i → Grows b d i
select_by true t j k b d i h = grows_by b (steps.Select t j k) d i h
select_by false t j k b d i h = choose_grows t j k b d i (true_is (are_truths b j k) (choose_truth t j k b) d i h).1

pub three_parts_grow : (o : Three) (t j k : ℕ) (b : Begun) (d : Begun) (i : ℕ) → lower_three o t j k b ≡ placed d i → Grows b d i
three_parts_grow if_else t j k b d i h = cc
three_parts_grow select t j k b d i h = select_by (are_numbers b j k) t j k b d i (true_is _ (if are_numbers b j k then added b (steps.Select t j k) else where_true (are_truths b j k) (choose_truth t j k b)) d i h).1
three_parts_grow slice t j k b d i h = cc

-- what an expression begins grows
pub expr_grows : (c : LaneNames) (ns : List (ℕ × ℕ)) (e : ExprTree) (b : Begun) (d : Begun) (i : ℕ) → AreBelow ns (length b.steps) → lower_expr c ns e b ≡ placed d i → Grows b d i
expr_grows c ns (leaf a l) b d i k h = leaf_grows c ns b l d i k h
expr_grows c ns (one a o e) b d i k h = one_part_grows c ns o b e (lower_expr c ns e b) d i (λ g j is. expr_grows c ns e b g j k is) h
expr_grows c ns (two a o e f) b d i k h =
    let w = behind_is (lower_expr c ns e b) (λ g j. behind (lower_expr c ns f g) (λ p k. lower_two o j k p)) d i h in
    let v = behind_is (lower_expr c ns f w.0) (λ p k. lower_two o w.1 k p) d i w.3 in
    let first = expr_grows c ns e b w.0 w.1 k w.2 in
    let second = expr_grows c ns f w.0 v.0 v.1 (below_on ns b w.0 w.1 k first) v.2 in
    grows_on b w.0 d w.1 i first (grows_on w.0 v.0 d v.1 i second (two_parts_grow o w.1 v.1 v.0 d i v.3))
expr_grows c ns (three a o e f g) b d i k h =
    let w = behind_is (lower_expr c ns e b) (λ p t. behind (lower_expr c ns f p) (λ q j. behind (lower_expr c ns g q) (λ r k. lower_three o t j k r))) d i h in
    let v = behind_is (lower_expr c ns f w.0) (λ q j. behind (lower_expr c ns g q) (λ r k. lower_three o w.1 j k r)) d i w.3 in
    let u = behind_is (lower_expr c ns g v.0) (λ r k. lower_three o w.1 v.1 k r) d i v.3 in
    let first = expr_grows c ns e b w.0 w.1 k w.2 in
    let on = below_on ns b w.0 w.1 k first in
    let second = expr_grows c ns f w.0 v.0 v.1 on v.2 in
    let third = expr_grows c ns g v.0 u.0 u.1 (below_on ns w.0 v.0 v.1 on second) u.2 in
    grows_on b w.0 d w.1 i first (grows_on w.0 v.0 d v.1 i second (grows_on v.0 u.0 d u.1 i third (three_parts_grow o w.1 v.1 u.1 u.0 d i u.3)))
expr_grows c ns (many a o es) b d i k h = cc
expr_grows c ns (let_in a x e f) b d i k h = cc
expr_grows c ns (loop a ls e x n r f) b d i k h = cc
expr_grows c ns (iterate a e x f) b d i k h = cc

last_by : (t : Bool) (b : Begun) (j : ℕ) (d : Begun) (i : ℕ) → j < length b.steps → (if t then placed b j else placed (record { steps = b.steps ++ (steps.Truth true ∷ steps.Select (length b.steps) j j ∷ []); names = b.names }) (length b.steps + 1)) ≡ placed d i → Grows b d i
last_by true b j d i less h = same_grows b j (length b.steps) d i refl less h
last_by false b j d i less h = more_grow b (steps.Truth true ∷ steps.Select (length b.steps) j j ∷ []) (length b.steps + 1) d i (omega arith) h

pub last_grows : (b : Begun) (j : ℕ) (d : Begun) (i : ℕ) → j < length b.steps → lower_last b j ≡ placed d i → Grows b d i
last_grows b j d i less h = last_by (j + 1 == length b.steps) b j d i less (true_is _ _ d i h).1
