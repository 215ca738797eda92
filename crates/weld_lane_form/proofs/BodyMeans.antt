-- What a body is lowered to is what it merges.
use Rattle.std.proofs.Common.{◌≡◌, ℕ, ◌+◌, ◌-◌, ◌<◌, ◌==◌, Bool, true, false, not, ◌&&◌, if◌then◌else◌, ℤ, List, [], ◌∷◌, ◌++◌, length, map, refl, sym, ap, subst, ◌∙◌, IsTrue, append-nil, arith}
use Rattle.std.proofs.lemmas.Bool.{eqb-true}
use Rattle.std.proofs.lemmas.List.{length-append, get_or-append-add}
use Rattle.weld_builders.specs.Outcome.{done}
use Rattle.weld_data.specs.Value.{number}
use Rattle.weld_tree.specs.declared.sym.Sym.{Sym}
use Rattle.weld_tree.specs.ExprTree.{ExprTree, leaf, one, two, three, many, let_in, loop, iterate, Two, binary, and, or, look_up, key_exists, merge}
use Rattle.weld_lanes.specs.declared.steps.LaneStep.{LaneStep}
use Rattle.weld_lanes.specs.declared.steps.LaneStep.TheVariants as steps
use Rattle.weld_lanes.specs.Answers.{at, is_true, answer}
use Rattle.weld_lanes.specs.Blocks.{step_at}
use Rattle.weld_lanes.specs.Formed.{are_formed}
use Rattle.weld_lanes.proofs.Running.{answers_is}
use Rattle.weld_meaning.specs.Environment.{look_for}
use Rattle.weld_meaning.specs.Thing.{plain}
use Rattle.weld_sizes.specs.Sized.{is_that_name}
use Rattle.weld_lane_form.specs.Bodies.{Lowered, all_answers, IsAt, IsNumberAt, EndsInMerge, MeansBody}
use Rattle.weld_lane_form.specs.Lowering.{LaneNames, Begun, placed, nothing_begun, behind, is_mask_at, is_unlet, lower_expr, lower_last, is_merge, lower_body}
use Rattle.weld_lane_form.proofs.Growing.{behind_is, true_is, placed_is, Grows, grows_on, AreBelow, below_on, below_bind, below_none, expr_grows, last_grows}
use Rattle.weld_lane_form.proofs.LoweredMeans.{left_true, right_true, not_false, unlet, that_name, Extends, extends_back, extends_at, extends_less, number_of, expr_at}
use Rattle.weld_lane_form.proofs.Merging.{ends_means}

pub merge_is : (o : Two) → is_merge o ≡ true → o ≡ merge
merge_is (binary op) h = cc
merge_is and h = cc
merge_is or h = cc
merge_is look_up h = cc
merge_is key_exists h = cc
merge_is merge h = refl

-- ---- the last step

-- a step behind others answers a number that was there
copied_at : (l : Lowered) (ns : List (ℕ × ℕ)) (f : ExprTree) (j n : ℕ) → IsTrue (are_formed l.kind 0 l.steps) → n + 1 < length l.steps → step_at l.steps n ≡ steps.Truth true → step_at l.steps (n + 1) ≡ steps.Select n j j
    → IsNumberAt l ns f j → IsNumberAt l ns f (n + 1)
copied_at l ns f j n formed less first second h us a b env stands =
    let xs : List ℤ = all_answers l us a b in
    let is : at xs (n + 1) ≡ (if is_true (at xs n) then at xs j else at xs j) = answers_is l.kind l.steps us a b (n + 1) formed less ∙ ap (answer l.kind us a b xs) second in
    h us a b env stands ∙ ap (λ (x : ℤ). done (plain (number l.kind x))) (sym (is ∙ same (is_true (at xs n)) (at xs j)))
  where
    same : (t : Bool) (x : ℤ) → (if t then x else x) ≡ x
    same true x = refl
    same false x = refl

-- the number that is merged is the last step's
pub record IsLast (l : Lowered) (ns : List (ℕ × ℕ)) (f : ExprTree) (d : Begun) (i : ℕ) : Type 0 where
  pub number_is : IsNumberAt l ns f i
  pub last : i + 1 ≡ length d.steps

last_by : (l : Lowered) (c : LaneNames) (ns : List (ℕ × ℕ)) (f : ExprTree) (b : Begun) (j : ℕ) (d : Begun) (i : ℕ) (t : Bool) → (j + 1 == length b.steps) ≡ t → j < length b.steps → Extends l c b → IsNumberAt l ns f j
    → (if t then placed b j else placed (record { steps = b.steps ++ (steps.Truth true ∷ steps.Select (length b.steps) j j ∷ []); names = b.names }) (length b.steps + 1)) ≡ placed d i → Extends l c d → IsLast l ns f d i
last_by l c ns f b j d i true is less x n h y =
    let same = placed_is b j d i (placed b j) refl h in
    let here : j + 1 ≡ length b.steps = eqb-true (j + 1) (length b.steps) is in
    record {
      number_is = subst (IsNumberAt l ns f) same.1 n;
      last = ap (λ (k : ℕ). k + 1) (sym same.1) ∙ here ∙ ap (λ (g : Begun). length g.steps) same.0;
    }
last_by l c ns f b j d i false is less x n h y =
    let m : ℕ = length b.steps in
    let ss : List LaneStep = steps.Truth true ∷ steps.Select m j j ∷ [] in
    let whole : Begun = record { steps = b.steps ++ ss; names = b.names } in
    let same = placed_is whole (m + 1) d i (placed whole (m + 1)) refl h in
    let z : Extends l c whole = subst (Extends l c) (sym same.0) y in
    let long : length (b.steps ++ ss) ≡ m + 2 = length-append b.steps ss in
    let there : (q : ℕ) → q < 2 → step_at l.steps (m + q) ≡ step_at ss q =
    λ q small. extends_at l c whole (m + q) z (omega (arith, small, long)) ∙ get_or-append-add b.steps ss q steps.A in
    let here : step_at l.steps m ≡ steps.Truth true = subst (λ (k : ℕ). step_at l.steps k ≡ steps.Truth true) (omega arith) (there 0 (omega arith)) in
    let far : m + 1 < length l.steps = extends_less l c whole (m + 1) z (omega (arith, long)) in
    record {
      number_is = subst (IsNumberAt l ns f) same.1 (copied_at l ns f j m x.formed far here (there 1 (omega arith)) n);
      last = let e = same.1 in let k = ap (λ (g : Begun). length g.steps) same.0 in omega (arith, e, k, long);
    }

last_is : (l : Lowered) (c : LaneNames) (ns : List (ℕ × ℕ)) (f : ExprTree) (b : Begun) (j : ℕ) (d : Begun) (i : ℕ) → j < length b.steps → IsAt l ns f j → lower_last b j ≡ placed d i → Extends l c d → IsLast l ns f d i
last_is l c ns f b j d i less is h y =
    let x = extends_back l c b d i y (last_grows b j d i less h) in
    let w = true_is (not (is_mask_at b j)) (if j + 1 == length b.steps then placed b j else placed (record { steps = b.steps ++ (steps.Truth true ∷ steps.Select (length b.steps) j j ∷ []); names = b.names }) (length b.steps + 1)) d i h in
    last_by l c ns f b j d i (j + 1 == length b.steps) refl less x (number_of l c ns b f j x less (not_false (is_mask_at b j) w.0) is) w.1 y

-- ---- lets that end in a merge

pub body_grows : (c : LaneNames) (ns : List (ℕ × ℕ)) (e : ExprTree) (b : Begun) (d : Begun) (i : ℕ) → AreBelow ns (length b.steps) → lower_body c ns e b ≡ placed d i → Grows b d i
body_grows c ns (leaf a l) b d i k h = cc
body_grows c ns (one a o e) b d i k h = cc
body_grows c ns (two a o e f) b d i k h =
    let w = true_is (is_merge o && (is_that_name e c.own && is_unlet (look_for c.own ns))) (behind (lower_expr c ns f b) lower_last) d i h in
    let v = behind_is (lower_expr c ns f b) lower_last d i w.1 in
    let g = expr_grows c ns f b v.0 v.1 k v.2 in
    grows_on b v.0 d v.1 i g (last_grows v.0 v.1 d i g.less v.3)
body_grows c ns (three a o e f g) b d i k h = cc
body_grows c ns (many a o es) b d i k h = cc
body_grows c ns (let_in a x e f) b d i k h =
    let v = behind_is (lower_expr c ns e b) (λ g j. lower_body c ((x.sym.0, j) ∷ ns) f g) d i h in
    let g = expr_grows c ns e b v.0 v.1 k v.2 in
    grows_on b v.0 d v.1 i g (body_grows c ((x.sym.0, v.1) ∷ ns) f v.0 d i (below_bind ns x.sym.0 v.1 (length v.0.steps) (below_on ns b v.0 v.1 k g) g.less) v.3)
body_grows c ns (loop a ls e x n r f) b d i k h = cc
body_grows c ns (iterate a e x f) b d i k h = cc

pub body_ends : (l : Lowered) (c : LaneNames) (ns : List (ℕ × ℕ)) (e : ExprTree) (b : Begun) (d : Begun) (i : ℕ) → AreBelow ns (length b.steps) → lower_body c ns e b ≡ placed d i → Extends l c d → length l.steps ≡ length d.steps → EndsInMerge l c.own ns e
body_ends l c ns (leaf a m) b d i k h y long = cc
body_ends l c ns (one a o e) b d i k h y long = cc
body_ends l c ns (two a o e f) b d i k h y long =
    let t : Bool = is_that_name e c.own && is_unlet (look_for c.own ns) in
    let w = true_is (is_merge o && t) (behind (lower_expr c ns f b) lower_last) d i h in
    let v = behind_is (lower_expr c ns f b) lower_last d i w.1 in
    let g = expr_grows c ns f b v.0 v.1 k v.2 in
    let x = extends_back l c v.0 d i y (last_grows v.0 v.1 d i g.less v.3) in
    let z = last_is l c ns f v.0 v.1 d i g.less (expr_at l c ns f b v.0 v.1 k v.2 x) v.3 y in
    let rest = right_true (is_merge o) t w.0 in
    let end = z.last in
    let place : i ≡ length l.steps - 1 = omega (arith, end, long) in (
      merge_is o (left_true (is_merge o) t w.0),
      that_name e c.own (left_true (is_that_name e c.own) (is_unlet (look_for c.own ns)) rest),
      unlet (look_for c.own ns) (right_true (is_that_name e c.own) (is_unlet (look_for c.own ns)) rest),
      subst (IsNumberAt l ns f) place z.number_is,
    )
body_ends l c ns (three a o e f g) b d i k h y long = cc
body_ends l c ns (many a o es) b d i k h y long = cc
body_ends l c ns (let_in a x e f) b d i k h y long =
    let v = behind_is (lower_expr c ns e b) (λ g j. lower_body c ((x.sym.0, j) ∷ ns) f g) d i h in
    let g = expr_grows c ns e b v.0 v.1 k v.2 in
    let below = below_bind ns x.sym.0 v.1 (length v.0.steps) (below_on ns b v.0 v.1 k g) g.less in
    let z = extends_back l c v.0 d i y (body_grows c ((x.sym.0, v.1) ∷ ns) f v.0 d i below v.3) in
    (v.1, expr_at l c ns e b v.0 v.1 k v.2 z, body_ends l c ((x.sym.0, v.1) ∷ ns) f v.0 d i below v.3 y long)
body_ends l c ns (loop a ls e x n r f) b d i k h y long = cc
body_ends l c ns (iterate a e x f) b d i k h y long = cc

-- the steps of a body, all of them, mean it
pub body_means : (l : Lowered) (c : LaneNames) (e : ExprTree) (d : Begun) (i : ℕ) → lower_body c [] e nothing_begun ≡ placed d i → l.kind ≡ c.kind → l.is_pair ≡ c.is_pair → l.row ≡ c.row → IsTrue (are_formed l.kind 0 l.steps)
    → l.steps ≡ d.steps → map (λ (s : Sym). s.0) l.names ≡ d.names → MeansBody l c.own e
body_means l c e d i h kind pair row formed steps_are names_are =
    let x : Extends l c d = record {
      kind_is = kind;
      pair_is = pair;
      row_is = row;
      formed = formed;
      more = [];
      steps_are = steps_are ∙ sym (append-nil d.steps);
      more_names = [];
      names_are = names_are ∙ sym (append-nil d.names);
    } in
    ends_means l c.own [] e refl (body_ends l c [] e nothing_begun d i (below_none 0) h x (ap length steps_are))
