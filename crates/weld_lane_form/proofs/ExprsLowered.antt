-- Expressions and bodies of the lane form are lowered, where nodes have their types.
use Rattle.std.proofs.Common.{◌≡◌, ℕ, suc, ◌+◌, ◌<◌, ◌==◌, nat_lt, Bool, true, false, not, ◌&&◌, if◌then◌else◌, List, [], ◌∷◌, ◌++◌, length, Option, Some, None, refl, sym, ap, subst, ◌∙◌, IsTrue, arith}
use Rattle.std.proofs.lemmas.Bool.{eqb-true, eq-eqb}
use Rattle.std.proofs.lemmas.List.{length-append, get_or-append-add}
use Rattle.weld_data.specs.declared.kind.Kind.{Kind}
use Rattle.weld_data.specs.declared.kind.Kind.TheVariants as kinds
use Rattle.weld_data.specs.declared.op.BinOp.{BinOp}
use Rattle.weld_data.specs.declared.op.BinOp.TheVariants as ops
use Rattle.weld_data.specs.Lookup.{same_kind}
use Rattle.weld_data.specs.Operation.{answer_kind}
use Rattle.weld_tree.specs.declared.binder.Binder.{Binder}
use Rattle.weld_tree.specs.TypeTree.{TypeTree, BuildTree, TypeTrees, scalar, vec, struct, dict, build, list, total, keyed, cells, groups, no_types, more_types}
use Rattle.weld_tree.specs.Types.{takes}
use Rattle.weld_tree.specs.ExprTree.{At, ExprTree, LegTree, whole, strided, LegTrees, no_legs, more_legs, Leaf, int, truth, chars, name, fresh, leaf, one, two, three, many, let_in, loop, iterate, Two, binary, and, or, look_up, key_exists, merge, Three, if_else, select, slice}
use Rattle.weld_lanes.specs.declared.steps.LaneStep.{LaneStep}
use Rattle.weld_lanes.specs.declared.steps.LaneStep.TheVariants as steps
use Rattle.weld_lanes.specs.Formed.{are_formed, is_arithmetic, is_comparison}
use Rattle.weld_meaning.specs.Environment.{look_for}
use Rattle.weld_meaning.specs.Typing.{Types, truth_type, place_type, LegHas, LegsHave, RowHas, body_types, TwoHas, ThreeHas, HasType}
use Rattle.weld_meaning.proofs.OneType.{one_type}
use Rattle.weld_check_types.specs.Notes.{AreNoted, LegIsNoted, LegsAreNoted}
use Rattle.weld_sizes.specs.Sized.{is_that_name}
use Rattle.weld_sizes.specs.Sized as sized
use Rattle.weld_sizes.specs.Lanes.{is_lane_kind, is_noted_number, noted_of, element_kind, noted_kind, leg_kind, legs_kind, are_two, is_lane_build, is_lane_start, is_lane_builder, has_lane_form, LaneLoop, is_lane_op, is_lane_two, is_select, is_lane, is_lane_body}
use Rattle.weld_lane_form.specs.Bodies.{is_mask}
use Rattle.weld_lane_form.specs.Marking.{names_of}
use Rattle.weld_lane_form.specs.Lowering.{LaneNames, Begun, Placed, placed, nothing_begun, behind, added, where_true, is_mask_at, is_unlet, lower_binary, are_numbers, are_truths, lower_two, choosing, choose_truth, lower_three, lower_expr, lower_last, is_merge, lower_body}
use Rattle.weld_lane_form.proofs.Growing.{Grows, grows_at, grows_length, expr_grows}
use Rattle.weld_lane_form.proofs.LoweredMeans.{left_true, right_true, same_kinds, that_name}
use Rattle.weld_lane_form.proofs.AllLowered.{both_true, where_is, below_is, no_truth, scalar_kind, sort_type, number_sort, truth_sort, number_type_is, noted_number, noted_is, formed_behind, Lowers, added_lowers, lowers_by, where_lowers, behind_lowers, Known_names, names_below, names_on, names_bind, row_type, Begins, some_type}
use Rattle.weld_lane_form.proofs.FormsLowered.{lane_loop, let_names, leaf_lowers, one_lowers, not_let, name_type}

-- ---- forms of two parts

not_true : (t : Bool) → t ≡ false → not t ≡ true
not_true t h = ap not h

lane_operator : (op : BinOp) → is_lane_op op ≡ true → is_arithmetic op ≡ false → is_comparison op ≡ true
lane_operator ops.Add h g = cc
lane_operator ops.Sub h g = cc
lane_operator ops.Mul h g = cc
lane_operator ops.Div h g = cc
lane_operator ops.Rem h g = cc
lane_operator ops.Eq h g = refl
lane_operator ops.Ne h g = refl
lane_operator ops.Lt h g = refl
lane_operator ops.Le h g = refl
lane_operator ops.Gt h g = refl
lane_operator ops.Ge h g = refl

arithmetic_kind : (op : BinOp) (k : Kind) → is_arithmetic op ≡ true → answer_kind op k ≡ k
arithmetic_kind ops.Add k h = refl
arithmetic_kind ops.Sub k h = refl
arithmetic_kind ops.Mul k h = refl
arithmetic_kind ops.Div k h = cc
arithmetic_kind ops.Rem k h = cc
arithmetic_kind ops.Eq k h = cc
arithmetic_kind ops.Ne k h = cc
arithmetic_kind ops.Lt k h = cc
arithmetic_kind ops.Le k h = cc
arithmetic_kind ops.Gt k h = cc
arithmetic_kind ops.Ge k h = cc

comparison_kind : (op : BinOp) (k : Kind) → is_comparison op ≡ true → answer_kind op k ≡ kinds.Bool
comparison_kind ops.Add k h = cc
comparison_kind ops.Sub k h = cc
comparison_kind ops.Mul k h = cc
comparison_kind ops.Div k h = cc
comparison_kind ops.Rem k h = cc
comparison_kind ops.Eq k h = refl
comparison_kind ops.Ne k h = refl
comparison_kind ops.Lt k h = refl
comparison_kind ops.Le k h = refl
comparison_kind ops.Gt k h = refl
comparison_kind ops.Ge k h = refl

both_below : (i j n : ℕ) → i < n → j < n → (nat_lt i n && nat_lt j n) ≡ true
both_below i j n p q = both_true (nat_lt i n) (nat_lt j n) (below_is i n p) (below_is j n q)

binary_lowers : (c : LaneNames) (op : BinOp) (i j : ℕ) (b : Begun) (t : TypeTree) → i < length b.steps → j < length b.steps → IsTrue (are_formed c.kind 0 b.steps) → is_lane_op op ≡ true → t ≡ scalar (answer_kind op c.kind) → Lowers c (lower_binary op i j b) t
binary_lowers c op i j b t p q h lane typed = by (is_arithmetic op) refl
  where
    by : (r : Bool) → is_arithmetic op ≡ r → Lowers c (if r then added b (steps.Arith op i j) else where_true (is_comparison op) (added b (steps.Compare op i j))) t
    by true is =
        added_lowers c b (steps.Arith op i j) t h (both_true (is_arithmetic op) (nat_lt i (length b.steps) && nat_lt j (length b.steps)) is (both_below i j (length b.steps) p q)) (typed ∙ ap scalar (arithmetic_kind op c.kind is))
    by false is =
        let compares = lane_operator op lane is in
        where_lowers c (is_comparison op) (added b (steps.Compare op i j)) t compares
        (added_lowers c b (steps.Compare op i j) t h (both_true (is_comparison op) (nat_lt i (length b.steps) && nat_lt j (length b.steps)) compares (both_below i j (length b.steps) p q)) (typed ∙ ap scalar (comparison_kind op c.kind compares)))

-- the sorts of both parts are known
two_lowers : (c : LaneNames) (own : BuildTree) (out : Types) (o : Two) (i j : ℕ) (b : Begun) (e : ExprTree) (t u v : TypeTree) → Begins c own out → i < length b.steps → j < length b.steps → IsTrue (are_formed c.kind 0 b.steps)
    → u ≡ sort_type c.kind (is_mask_at b i) → v ≡ sort_type c.kind (is_mask_at b j) → (is_noted_number c.kind (noted_of e) ≡ true → u ≡ scalar c.kind) → TwoHas o u v t → is_lane_two c.kind o (noted_of e) ≡ true → Lowers c (lower_two o i j b) t
two_lowers c own out (binary op) i j b e t u v k p q h first second noted rule lane =
    let number = noted (right_true (is_lane_op op) (is_noted_number c.kind (noted_of e)) lane) in
    let kind : rule.0 ≡ c.kind = scalar_kind rule.0 c.kind (sym rule.2 ∙ number) in
    let n = number_sort c.kind (is_mask_at b i) k.lane (sym number ∙ first) in
    let m = number_sort c.kind (is_mask_at b j) k.lane (ap scalar (sym kind) ∙ sym rule.3 ∙ second) in
    where_lowers c (are_numbers b i j) (lower_binary op i j b) t (both_true (not (is_mask_at b i)) (not (is_mask_at b j)) (not_true (is_mask_at b i) n) (not_true (is_mask_at b j) m))
    (binary_lowers c op i j b t p q h (left_true (is_lane_op op) (is_noted_number c.kind (noted_of e)) lane) (rule.4 ∙ ap (λ (x : Kind). scalar (answer_kind op x)) kind))
two_lowers c own out and i j b e t u v k p q h first second noted rule lane =
    where_lowers c (are_truths b i j) (added b (steps.And i j)) t
    (both_true (is_mask_at b i) (is_mask_at b j) (truth_sort c.kind (is_mask_at b i) k.lane (sym rule.0 ∙ first)) (truth_sort c.kind (is_mask_at b j) k.lane (sym rule.1 ∙ second)))
    (added_lowers c b (steps.And i j) t h (both_below i j (length b.steps) p q) rule.2)
two_lowers c own out or i j b e t u v k p q h first second noted rule lane =
    where_lowers c (are_truths b i j) (added b (steps.Or i j)) t
    (both_true (is_mask_at b i) (is_mask_at b j) (truth_sort c.kind (is_mask_at b i) k.lane (sym rule.0 ∙ first)) (truth_sort c.kind (is_mask_at b j) k.lane (sym rule.1 ∙ second)))
    (added_lowers c b (steps.Or i j) t h (both_below i j (length b.steps) p q) rule.2)
two_lowers c own out look_up i j b e t u v k p q h first second noted rule lane = cc
two_lowers c own out key_exists i j b e t u v k p q h first second noted rule lane = cc
two_lowers c own out merge i j b e t u v k p q h first second noted rule lane = cc

-- ---- forms of three parts

choosing_formed : (k : Kind) (n m i j : ℕ) → m < n → i < n → j < n → are_formed k n (choosing n m i j) ≡ true
choosing_formed k n m i j top left right =
    both_true (nat_lt m n && nat_lt i n) _ (both_below m i n top left)
    (both_true (nat_lt m (suc n)) _ (below_is m (suc n) (omega (arith, top)))
    (both_true (nat_lt (n + 1) (suc (suc n)) && nat_lt j (suc (suc n))) _ (both_below (n + 1) j (suc (suc n)) (omega arith) (omega (arith, right)))
    (both_true (nat_lt n (suc (suc (suc n))) && nat_lt (n + 2) (suc (suc (suc n)))) true (both_below n (n + 2) (suc (suc (suc n))) (omega arith) (omega arith)) refl)))

choose_lowers : (c : LaneNames) (m i j : ℕ) (b : Begun) (t : TypeTree) → m < length b.steps → i < length b.steps → j < length b.steps → IsTrue (are_formed c.kind 0 b.steps) → t ≡ truth_type → Lowers c (choose_truth m i j b) t
choose_lowers c m i j b t top left right h typed =
    let ss : List LaneStep = choosing (length b.steps) m i j in
    record {
      to = record { steps = b.steps ++ ss; names = b.names };
      place = length b.steps + 3;
      is = refl;
      sort = typed ∙ ap (λ (r : LaneStep). sort_type c.kind (is_mask r)) (sym (get_or-append-add b.steps ss 3 steps.A));
      formed = formed_behind c.kind b ss h (choosing_formed c.kind (length b.steps) m i j top left right);
    }

three_lowers : (c : LaneNames) (own : BuildTree) (out : Types) (o : Three) (m i j : ℕ) (b : Begun) (t u v w : TypeTree) → Begins c own out → m < length b.steps → i < length b.steps → j < length b.steps → IsTrue (are_formed c.kind 0 b.steps)
    → u ≡ sort_type c.kind (is_mask_at b m) → v ≡ sort_type c.kind (is_mask_at b i) → w ≡ sort_type c.kind (is_mask_at b j) → ThreeHas o u v w t → is_select o ≡ true → Lowers c (lower_three o m i j b) t
three_lowers c own out if_else m i j b t u v w k top left right h test first second rule lane = cc
three_lowers c own out select m i j b t u v w k top left right h test first second rule lane =
    where_lowers c (is_mask_at b m) (if are_numbers b i j then added b (steps.Select m i j) else where_true (are_truths b i j) (choose_truth m i j b)) t
    (truth_sort c.kind (is_mask_at b m) k.lane (sym rule.0 ∙ test)) (by (is_mask_at b i) refl)
  where
    known : (q : Bool) → is_mask_at b i ≡ q → t ≡ sort_type c.kind q
    known q is = sym rule.1 ∙ first ∙ ap (sort_type c.kind) is

    by : (q : Bool) → is_mask_at b i ≡ q → Lowers c (if are_numbers b i j then added b (steps.Select m i j) else where_true (are_truths b i j) (choose_truth m i j b)) t
    by true is =
        let typed = known true is in
        let other = truth_sort c.kind (is_mask_at b j) k.lane (sym typed ∙ sym rule.2 ∙ second) in
        let no_numbers : are_numbers b i j ≡ false = ap (λ (q : Bool). not q && not (is_mask_at b j)) is in
        lowers_by c (if are_numbers b i j then added b (steps.Select m i j) else where_true (are_truths b i j) (choose_truth m i j b)) (choose_truth m i j b) t
        (ap (λ (q : Bool). if q then added b (steps.Select m i j) else where_true (are_truths b i j) (choose_truth m i j b)) no_numbers
        ∙ where_is (are_truths b i j) (choose_truth m i j b) (both_true (is_mask_at b i) (is_mask_at b j) is other))
        (choose_lowers c m i j b t top left right h typed)
    by false is =
        let typed = known false is in
        let other = number_sort c.kind (is_mask_at b j) k.lane (sym typed ∙ sym rule.2 ∙ second) in
        let numbers : are_numbers b i j ≡ true = both_true (not (is_mask_at b i)) (not (is_mask_at b j)) (not_true (is_mask_at b i) is) (not_true (is_mask_at b j) other) in
        lowers_by c (if are_numbers b i j then added b (steps.Select m i j) else where_true (are_truths b i j) (choose_truth m i j b)) (added b (steps.Select m i j)) t
        (ap (λ (q : Bool). if q then added b (steps.Select m i j) else where_true (are_truths b i j) (choose_truth m i j b)) numbers)
        (added_lowers c b (steps.Select m i j) t h (both_true (nat_lt m (length b.steps)) (nat_lt i (length b.steps) && nat_lt j (length b.steps)) (below_is m (length b.steps) top) (both_below i j (length b.steps) left right)) typed)
three_lowers c own out slice m i j b t u v w k top left right h test first second rule lane = cc

-- ---- expressions

sort_on : (c : LaneNames) (b d : Begun) (i j : ℕ) (t : TypeTree) → Grows b d j → i < length b.steps → t ≡ sort_type c.kind (is_mask_at b i) → t ≡ sort_type c.kind (is_mask_at d i)
sort_on c b d i j t g less h = h ∙ ap (λ (s : LaneStep). sort_type c.kind (is_mask s)) (sym (grows_at b d j i g less))

pub expr_lowers : (c : LaneNames) (own : BuildTree) (out g : Types) (ns : List (ℕ × ℕ)) (e : ExprTree) (b : Begun) (t : TypeTree) → Begins c own out → Known_names c out g ns b → IsTrue (are_formed c.kind 0 b.steps)
    → is_lane (lane_loop c) (let_names ns) e ≡ true → HasType e g t → AreNoted e g → Lowers c (lower_expr c ns e b) t
expr_lowers c own out g ns (leaf a l) b t k names h lane typed noted = leaf_lowers c own out g ns b a.ty l t k names h typed (noted_is (leaf a l) g t typed noted) lane
expr_lowers c own out g ns (one a o e) b t k names h lane typed noted =
    one_lowers c own out g ns b o e (lower_expr c ns e b) t typed.0 k names h
    (λ d i is. (expr_grows c ns e b d i (names_below c out g ns b names) is).less)
    (λ u l p n. expr_lowers c own out g ns e b u k names h l p n) typed.1 noted.0 typed.2 lane
expr_lowers c own out g ns (two a o e f) b t k names h lane typed noted =
    let parts = right_true (is_lane_two c.kind o (noted_of e)) (is_lane (lane_loop c) (let_names ns) e && is_lane (lane_loop c) (let_names ns) f) lane in
    let x = expr_lowers c own out g ns e b typed.0 k names h (left_true (is_lane (lane_loop c) (let_names ns) e) (is_lane (lane_loop c) (let_names ns) f) parts) typed.2 noted.0 in
    let w = expr_grows c ns e b x.to x.place (names_below c out g ns b names) x.is in
    let names_then = names_on c out g ns b x.to x.place names w in
    let y = expr_lowers c own out g ns f x.to typed.1 k names_then x.formed (right_true (is_lane (lane_loop c) (let_names ns) e) (is_lane (lane_loop c) (let_names ns) f) parts) typed.3 noted.1 in
    let v = expr_grows c ns f x.to y.to y.place (names_below c out g ns x.to names_then) y.is in
    let long = grows_length x.to y.to y.place v in
    let less = w.less in
    behind_lowers c (lower_expr c ns e b) (λ d i. behind (lower_expr c ns f d) (λ q j. lower_two o i j q)) x.to x.place t x.is
    (behind_lowers c (lower_expr c ns f x.to) (λ q j. lower_two o x.place j q) y.to y.place t y.is
    (two_lowers c own out o x.place y.place y.to e t typed.0 typed.1 k (omega (arith, less, long)) v.less y.formed
    (sort_on c x.to y.to x.place y.place typed.0 v w.less x.sort) y.sort (λ n. noted_number c.kind (noted_of e) typed.0 (noted_is e g typed.0 typed.2 noted.0) n) typed.4
    (left_true (is_lane_two c.kind o (noted_of e)) (is_lane (lane_loop c) (let_names ns) e && is_lane (lane_loop c) (let_names ns) f) lane)))
expr_lowers c own out g ns (three a o e f r) b t k names h lane typed noted =
    let l : LaneLoop = lane_loop c in
    let ls : List ℕ = let_names ns in
    let parts = right_true (is_select o) (is_lane l ls e && (is_lane l ls f && is_lane l ls r)) lane in
    let later = right_true (is_lane l ls e) (is_lane l ls f && is_lane l ls r) parts in
    let x = expr_lowers c own out g ns e b typed.0 k names h (left_true (is_lane l ls e) (is_lane l ls f && is_lane l ls r) parts) typed.3 noted.0 in
    let w = expr_grows c ns e b x.to x.place (names_below c out g ns b names) x.is in
    let names_then = names_on c out g ns b x.to x.place names w in
    let y = expr_lowers c own out g ns f x.to typed.1 k names_then x.formed (left_true (is_lane l ls f) (is_lane l ls r) later) typed.4 noted.1 in
    let v = expr_grows c ns f x.to y.to y.place (names_below c out g ns x.to names_then) y.is in
    let names_last = names_on c out g ns x.to y.to y.place names_then v in
    let z = expr_lowers c own out g ns r y.to typed.2 k names_last y.formed (right_true (is_lane l ls f) (is_lane l ls r) later) typed.5 noted.2 in
    let s = expr_grows c ns r y.to z.to z.place (names_below c out g ns y.to names_last) z.is in
    let long = grows_length x.to y.to y.place v in
    let longer = grows_length y.to z.to z.place s in
    let less = w.less in
    let less_too = v.less in
    let there : x.place < length y.to.steps = omega (arith, less, long) in
    behind_lowers c (lower_expr c ns e b) (λ q m. behind (lower_expr c ns f q) (λ p i. behind (lower_expr c ns r p) (λ d j. lower_three o m i j d))) x.to x.place t x.is
    (behind_lowers c (lower_expr c ns f x.to) (λ p i. behind (lower_expr c ns r p) (λ d j. lower_three o x.place i j d)) y.to y.place t y.is
    (behind_lowers c (lower_expr c ns r y.to) (λ d j. lower_three o x.place y.place j d) z.to z.place t z.is
    (three_lowers c own out o x.place y.place z.place z.to t typed.0 typed.1 typed.2 k (omega (arith, less, long, longer)) (omega (arith, less_too, longer)) s.less z.formed
    (sort_on c y.to z.to x.place z.place typed.0 s there (sort_on c x.to y.to x.place y.place typed.0 v w.less x.sort))
    (sort_on c y.to z.to y.place z.place typed.1 s v.less y.sort) z.sort typed.6
    (left_true (is_select o) (is_lane l ls e && (is_lane l ls f && is_lane l ls r)) lane))))
expr_lowers c own out g ns (many a o es) b t k names h lane typed noted = cc
expr_lowers c own out g ns (let_in a x e f) b t k names h lane typed noted = cc
expr_lowers c own out g ns (loop a ls e x n r f) b t k names h lane typed noted = cc
expr_lowers c own out g ns (iterate a e x f) b t k names h lane typed noted = cc

-- ---- bodies

-- there are such steps, and all are formed
pub record Body_lowers (c : LaneNames) (p : Placed) : Type 0 where
  pub to : Begun
  pub place : ℕ
  pub is : p ≡ placed to place
  pub formed : IsTrue (are_formed c.kind 0 to.steps)
  pub some : 0 < length to.steps

copying_formed : (k : Kind) (n i : ℕ) → i < n → are_formed k n (steps.Truth true ∷ steps.Select n i i ∷ []) ≡ true
copying_formed k n i less =
    both_true (nat_lt n (suc n) && (nat_lt i (suc n) && nat_lt i (suc n))) true
    (both_true (nat_lt n (suc n)) (nat_lt i (suc n) && nat_lt i (suc n)) (below_is n (suc n) (omega arith)) (both_below i i (suc n) (omega (arith, less)) (omega (arith, less)))) refl

last_lowers : (c : LaneNames) (b : Begun) (i : ℕ) → IsTrue (are_formed c.kind 0 b.steps) → i < length b.steps → is_mask_at b i ≡ false → Body_lowers c (lower_last b i)
last_lowers c b i h less number = by (i + 1 == length b.steps) refl
  where
    ss : List LaneStep
    ss = steps.Truth true ∷ steps.Select (length b.steps) i i ∷ []

    by : (q : Bool) → (i + 1 == length b.steps) ≡ q → Body_lowers c (lower_last b i)
    by true is = record {
      to = b;
      place = i;
      is = where_is (not (is_mask_at b i)) (if i + 1 == length b.steps then placed b i else placed (record { steps = b.steps ++ (steps.Truth true ∷ steps.Select (length b.steps) i i ∷ []); names = b.names }) (length b.steps + 1)) (not_true (is_mask_at b i) number)
          ∙ ap (λ (q : Bool). if q then placed b i else placed (record { steps = b.steps ++ (steps.Truth true ∷ steps.Select (length b.steps) i i ∷ []); names = b.names }) (length b.steps + 1)) is;
      formed = h;
      some = omega (arith, less);
    }
    by false is = record {
      to = record { steps = b.steps ++ (steps.Truth true ∷ steps.Select (length b.steps) i i ∷ []); names = b.names };
      place = length b.steps + 1;
      is = where_is (not (is_mask_at b i)) (if i + 1 == length b.steps then placed b i else placed (record { steps = b.steps ++ (steps.Truth true ∷ steps.Select (length b.steps) i i ∷ []); names = b.names }) (length b.steps + 1)) (not_true (is_mask_at b i) number)
          ∙ ap (λ (q : Bool). if q then placed b i else placed (record { steps = b.steps ++ (steps.Truth true ∷ steps.Select (length b.steps) i i ∷ []); names = b.names }) (length b.steps + 1)) is;
      formed = formed_behind c.kind b (steps.Truth true ∷ steps.Select (length b.steps) i i ∷ []) h (copying_formed c.kind (length b.steps) i less);
      some = let long : length (b.steps ++ (steps.Truth true ∷ steps.Select (length b.steps) i i ∷ [])) ≡ length b.steps + 2 = length-append b.steps (steps.Truth true ∷ steps.Select (length b.steps) i i ∷ []) in omega (arith, less, long);
    }

body_by : (c : LaneNames) (p : Placed) (f : Begun → ℕ → Placed) (d : Begun) (i : ℕ) → p ≡ placed d i → Body_lowers c (f d i) → Body_lowers c (behind p f)
body_by c p f d i e h = record { to = h.to; place = h.place; is = ap (λ (r : Placed). behind r f) e ∙ h.is; formed = h.formed; some = h.some }

body_where : (c : LaneNames) (q : Bool) (p : Placed) → q ≡ true → Body_lowers c p → Body_lowers c (where_true q p)
body_where c q p e h = record { to = h.to; place = h.place; is = where_is q p e ∙ h.is; formed = h.formed; some = h.some }

merges_alike : (o : Two) → sized.is_merge o ≡ true → is_merge o ≡ true
merges_alike (binary op) h = cc
merges_alike and h = cc
merges_alike or h = cc
merges_alike look_up h = cc
merges_alike key_exists h = cc
merges_alike merge h = refl

merge_rule : (o : Two) (u v t : TypeTree) → sized.is_merge o ≡ true → TwoHas o u v t → (b : BuildTree) × (u ≡ build b) × (v ≡ takes b)
merge_rule (binary op) u v t h r = cc
merge_rule and u v t h r = cc
merge_rule or u v t h r = cc
merge_rule look_up u v t h r = cc
merge_rule key_exists u v t h r = cc
merge_rule merge u v t h r = (r.0, r.1, r.2)

row_builder : (p : Bool) (k : Kind) (b : BuildTree) → (if p then struct (more_types (scalar k) (more_types (scalar k) no_types)) else scalar k) ≡ build b → ⊥
row_builder true k b h = cc
row_builder false k b h = cc

-- of what builder it is that the body merges into
own_builder : (c : LaneNames) (own other : BuildTree) (out : Types) → Begins c own out → look_for c.own out ≡ Some (build other) → other ≡ own
own_builder c own other out k h = by (c.own == c.row) refl
  where
    built : build own ≡ build other → other ≡ own
    built e = cc

    at_number : (q : Bool) → (c.own == c.number) ≡ q → (c.own == c.row) ≡ false → other ≡ own
    at_number true is apart =
        let e = eqb-true c.own c.number is in
        let there : (c.number == c.row) ≡ false = subst (λ (n : ℕ). (n == c.row) ≡ false) e apart in
        let x : place_type ≡ build other = some_type place_type (build other) (sym (k.number there) ∙ ap (λ (n : ℕ). look_for n out) (sym e) ∙ h) in
        cc
    at_number false is apart = built (some_type (build own) (build other) (sym (k.builder apart is) ∙ h))

    by : (q : Bool) → (c.own == c.row) ≡ q → other ≡ own
    by true is =
        let e = eqb-true c.own c.row is in
        absurd (row_builder c.is_pair c.kind other (some_type (row_type c) (build other) (sym k.row ∙ ap (λ (n : ℕ). look_for n out) (sym e) ∙ h)))
    by false is = at_number (c.own == c.number) refl is

body_lowers : (c : LaneNames) (own : BuildTree) (out g : Types) (ns : List (ℕ × ℕ)) (e : ExprTree) (b : Begun) (t : TypeTree) → takes own ≡ scalar c.kind → Begins c own out → Known_names c out g ns b → IsTrue (are_formed c.kind 0 b.steps)
    → is_lane_body (lane_loop c) c.own (let_names ns) e ≡ true → HasType e g t → AreNoted e g → Body_lowers c (lower_body c ns e b)
body_lowers c own out g ns (leaf a l) b t item k names h lane typed noted = cc
body_lowers c own out g ns (one a o e) b t item k names h lane typed noted = cc
body_lowers c own out g ns (two a o e f) b t item k names h lane typed noted =
    let l : LaneLoop = lane_loop c in
    let ls : List ℕ = let_names ns in
    let merges = left_true (sized.is_merge o) (is_that_name e c.own && is_lane l ls f) lane in
    let rest = right_true (sized.is_merge o) (is_that_name e c.own && is_lane l ls f) lane in
    let named = left_true (is_that_name e c.own) (is_lane l ls f) rest in
    let rule = merge_rule o typed.0 typed.1 t merges typed.4 in
    let there : look_for c.own g ≡ Some (build rule.0) = name_type e c.own g typed.0 (that_name e c.own named) typed.2 ∙ ap (λ (u : TypeTree). Some u) rule.1 in
    let free : look_for c.own ns ≡ None = not_let c out g ns b c.own (build rule.0) (look_for c.own ns) names there (λ m x. cc) refl in
    let is : rule.0 ≡ own = own_builder c own rule.0 out k (sym (names.others c.own free) ∙ there) in
    let number : typed.1 ≡ scalar c.kind = rule.2 ∙ ap takes is ∙ item in
    let x = expr_lowers c own out g ns f b typed.1 k names h (right_true (is_that_name e c.own) (is_lane l ls f) rest) typed.3 noted.1 in
    let w = expr_grows c ns f b x.to x.place (names_below c out g ns b names) x.is in
    body_where c (is_merge o && (is_that_name e c.own && is_unlet (look_for c.own ns))) (behind (lower_expr c ns f b) lower_last)
    (both_true (is_merge o) (is_that_name e c.own && is_unlet (look_for c.own ns)) (merges_alike o merges) (both_true (is_that_name e c.own) (is_unlet (look_for c.own ns)) named (ap is_unlet free)))
    (body_by c (lower_expr c ns f b) lower_last x.to x.place x.is
    (last_lowers c x.to x.place x.formed w.less (number_sort c.kind (is_mask_at x.to x.place) k.lane (sym number ∙ x.sort))))
body_lowers c own out g ns (three a o e f r) b t item k names h lane typed noted = cc
body_lowers c own out g ns (many a o es) b t item k names h lane typed noted = cc
body_lowers c own out g ns (let_in a x e f) b t item k names h lane typed noted =
    let l : LaneLoop = lane_loop c in
    let ls : List ℕ = let_names ns in
    let u : TypeTree = typed.0 in
    let y = expr_lowers c own out g ns e b u k names h (left_true (is_lane l ls e) (is_lane_body l c.own (x.sym.0 ∷ ls) f) lane) typed.1 noted.0 in
    let w = expr_grows c ns e b y.to y.place (names_below c out g ns b names) y.is in
    let bound = names_bind c out g ns y.to x.sym.0 y.place u (names_on c out g ns b y.to y.place names w) w.less y.sort in
    let inner = noted.1 in
    let same : inner.0 ≡ u = one_type e g inner.0 u inner.1 typed.1 in
    body_by c (lower_expr c ns e b) (λ d i. lower_body c ((x.sym.0, i) ∷ ns) f d) y.to y.place y.is
    (body_lowers c own out ((x.sym.0, u) ∷ g) ((x.sym.0, y.place) ∷ ns) f y.to t item k bound y.formed
    (right_true (is_lane l ls e) (is_lane_body l c.own (x.sym.0 ∷ ls) f) lane) typed.3 (subst (λ (v : TypeTree). AreNoted f ((x.sym.0, v) ∷ g)) same inner.2))
body_lowers c own out g ns (loop a ks e x n r f) b t item k names h lane typed noted = cc
body_lowers c own out g ns (iterate a e x f) b t item k names h lane typed noted = cc

-- ---- loops

element_is : (u : TypeTree) (k : Kind) → is_lane_kind k ≡ true → element_kind u ≡ k → u ≡ scalar k
element_is (scalar m) k lane h = ap scalar h
element_is (vec t) k lane h = absurd (no_truth k lane (sym h))
element_is (struct ts) k lane h = absurd (no_truth k lane (sym h))
element_is (dict t u) k lane h = absurd (no_truth k lane (sym h))
element_is (build b) k lane h = absurd (no_truth k lane (sym h))

leg_is : (l : LegTree) (g : Types) (u : TypeTree) (k : Kind) → is_lane_kind k ≡ true → leg_kind l ≡ k → LegHas l g u → LegIsNoted l g → u ≡ scalar k
leg_is (whole e) g u k lane h typed noted = element_is u k lane (sym (ap noted_kind (noted_is e g (vec u) typed noted)) ∙ h)
leg_is (strided e f r s) g u k lane h typed noted = absurd (no_truth k lane (sym h))

one_row : (u r : TypeTree) (us : TypeTrees) → us ≡ no_types → RowHas (more_types u us) r → r ≡ u
one_row u r no_types e h = h
one_row u r (more_types v us) e h = cc

two_row : (u v r : TypeTree) (us : TypeTrees) → us ≡ no_types → RowHas (more_types u (more_types v us)) r → r ≡ struct (more_types u (more_types v no_types))
two_row u v r us e h = h ∙ ap (λ (ts : TypeTrees). struct (more_types u (more_types v ts))) e

no_more : (us : TypeTrees) (g : Types) → LegsHave no_legs g us → us ≡ no_types
no_more no_types g h = refl
no_more (more_types u us) g h = absurd h

both_kinds : (k : Kind) (j m : Kind) (q : Bool) → is_lane_kind k ≡ true → same_kind j m ≡ q → (if q then j else kinds.Bool) ≡ k → (j ≡ k) × (m ≡ k)
both_kinds k j m true lane is h = (h, sym (same_kinds j m is) ∙ h)
both_kinds k j m false lane is h = absurd (no_truth k lane (sym h))

-- rows of the lane form are numbers of the kind, or structs of two
legs_are : (ls : LegTrees) (g : Types) (us : TypeTrees) (r : TypeTree) (k : Kind) → is_lane_kind k ≡ true → legs_kind ls ≡ k → LegsHave ls g us → LegsAreNoted ls g → RowHas us r
    → r ≡ (if are_two ls then struct (more_types (scalar k) (more_types (scalar k) no_types)) else scalar k)
legs_are no_legs g us r k lane h typed noted row = absurd (no_truth k lane (sym h))
legs_are (more_legs l no_legs) g no_types r k lane h typed noted row = absurd typed
legs_are (more_legs l no_legs) g (more_types u us) r k lane h typed noted row = one_row u r us (no_more us g typed.1) row ∙ leg_is l g u k lane h typed.0 noted.0
legs_are (more_legs l (more_legs m no_legs)) g no_types r k lane h typed noted row = absurd typed
legs_are (more_legs l (more_legs m no_legs)) g (more_types u no_types) r k lane h typed noted row = absurd typed.1
legs_are (more_legs l (more_legs m no_legs)) g (more_types u (more_types v us)) r k lane h typed noted row =
    let w = both_kinds k (leg_kind l) (leg_kind m) (same_kind (leg_kind l) (leg_kind m)) lane refl h in
    let rest = typed.1 in
    let others = noted.1 in
    two_row u v r us (no_more us g rest.1) row
    ∙ ap (λ (t : TypeTree). struct (more_types t (more_types v no_types))) (leg_is l g u k lane w.0 typed.0 noted.0)
    ∙ ap (λ (t : TypeTree). struct (more_types (scalar k) (more_types t no_types))) (leg_is m g v k lane w.1 rest.0 others.0)
legs_are (more_legs l (more_legs m (more_legs n ls))) g us r k lane h typed noted row = absurd (no_truth k lane (sym h))

lane_item : (k : Kind) (d : BuildTree) → is_lane_build k d ≡ true → takes d ≡ scalar k
lane_item k (list t) h = number_type_is k t h
lane_item k (total t op) h = number_type_is k t h
lane_item k (keyed u v op) h = cc
lane_item k (cells t op) h = cc
lane_item k (groups u v) h = cc

-- the builder of the lane form, and its type
pub record IsLaneStart (k : Kind) (t : TypeTree) : Type 0 where
  pub builder : BuildTree
  pub is : t ≡ build builder
  pub item : takes builder ≡ scalar k

start_leaf : (k : Kind) (l : Leaf) (a : At) (g : Types) (t : TypeTree) → is_lane_start k l ≡ true → HasType (leaf a l) g t → IsLaneStart k t
start_leaf k (int m x) a g t h typed = cc
start_leaf k (truth b) a g t h typed = cc
start_leaf k (chars bs) a g t h typed = cc
start_leaf k (name s) a g t h typed = cc
start_leaf k (fresh d) a g t h typed = record { builder = d; is = typed.2; item = lane_item k d h }

start_is : (k : Kind) (e : ExprTree) (g : Types) (t : TypeTree) → is_lane_builder k e ≡ true → HasType e g t → IsLaneStart k t
start_is k (leaf a l) g t h typed = start_leaf k l a g t h typed
start_is k (one a o e) g t h typed = cc
start_is k (two a o e f) g t h typed = cc
start_is k (three a o e f r) g t h typed = cc
start_is k (many a o es) g t h typed = cc
start_is k (let_in a x e f) g t h typed = cc
start_is k (loop a ls e x n r f) g t h typed = cc
start_is k (iterate a e x f) g t h typed = cc

found_first : (s : ℕ) (t : TypeTree) (o : Option TypeTree) → (if s == s then Some t else o) ≡ Some t
found_first s t o = ap (λ (q : Bool). if q then Some t else o) (eq-eqb s s refl)

passed : (q : Bool) (t : TypeTree) (o p : Option TypeTree) → q ≡ false → o ≡ p → (if q then Some t else o) ≡ p
passed q t o p h e = ap (λ (b : Bool). if b then Some t else o) h ∙ e

begins_is : (c : LaneNames) (own : BuildTree) (r t : TypeTree) (g : Types) → is_lane_kind c.kind ≡ true → r ≡ row_type c → t ≡ build own → Begins c own ((c.row, r) ∷ (c.number, place_type) ∷ (c.own, t) ∷ g)
begins_is c own r t g lane row is = record {
  lane = lane;
  row = found_first c.row r _ ∙ ap (λ (u : TypeTree). Some u) row;
  builder = λ p q. passed (c.own == c.row) r _ (Some (build own)) p (passed (c.own == c.number) place_type _ (Some (build own)) q (found_first c.own t _ ∙ ap (λ (u : TypeTree). Some u) is));
  number = λ p. passed (c.number == c.row) r _ (Some place_type) p (found_first c.number place_type _);
}

-- each loop of the lane form has steps
pub loop_lowers : (a : At) (ls : LegTrees) (e : ExprTree) (b n x : Binder) (f : ExprTree) (g : Types) (t : TypeTree) → has_lane_form (loop a ls e b n x f) ≡ true → HasType (loop a ls e b n x f) g t → AreNoted (loop a ls e b n x f) g
    → Body_lowers (names_of ls b n x) (lower_body (names_of ls b n x) [] f nothing_begun)
loop_lowers a ls e b n x f g t h typed noted =
    let c : LaneNames = names_of ls b n x in
    let lane = left_true (is_lane_kind c.kind) _ h in
    let rest = right_true (is_lane_kind c.kind) _ h in
    let start = start_is c.kind e g t (left_true (is_lane_builder c.kind e) _ rest) typed.4 in
    let row : typed.1 ≡ row_type c = legs_are ls g typed.0 typed.1 c.kind lane refl typed.2 noted.0 typed.3 in
    let inner = noted.2 in
    let row_too : inner.1 ≡ row_type c = legs_are ls g inner.0 inner.1 c.kind lane refl inner.3 noted.0 inner.4 in
    let same : inner.2 ≡ t = one_type e g inner.2 t inner.5 typed.4 in
    let body : AreNoted f (body_types b n x t typed.1 g) =
    subst (λ (r : TypeTree). AreNoted f (body_types b n x t r g)) (row_too ∙ sym row) (subst (λ (u : TypeTree). AreNoted f (body_types b n x u inner.1 g)) same inner.6) in
    let out : Types = body_types b n x t typed.1 g in
    let nothing : Known_names c out out [] nothing_begun = record { lets = λ s i is. cc; others = λ s is. refl } in
    body_lowers c start.builder out out [] f nothing_begun t start.item (begins_is c start.builder typed.1 t g lane row start.is) nothing refl (right_true (is_lane_builder c.kind e) _ rest) typed.9 body
