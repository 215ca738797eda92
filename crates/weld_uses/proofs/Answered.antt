-- What the walk answers where its parts are known by equations.
use Rattle.std.proofs.Common.{◌≡◌, ◌≢◌, ℕ, ℤ, ◌+◌, ◌<◌, ◌≤◌, ◌==◌, ◌&&◌, Bool, true, false, List, [], ◌∷◌, ◌++◌, length, get_or, map, None, refl, sym, ap, subst, ◌∙◌, Result, Err}
use Rattle.weld_data.specs.declared.kind.Kind.{Kind}
use Rattle.weld_tree.specs.TypeTree.{BuildTree}
use Rattle.weld_tree.specs.declared.place.Place.{Place}
use Rattle.weld_tree.specs.declared.binder.Binder.{Binder}
use Rattle.weld_tree.specs.declared.code.Code.TheVariants.{L1, L2, L4, L6}
use Rattle.weld_tree.specs.declared.refusal.Refusal.{Refusal}
use Rattle.weld_tree.specs.declared.refusal.Refusal.TheVariants as refused
use Rattle.weld_tree.specs.declared.expr.Leg.{Leg}
use Rattle.weld_tree.specs.ExprTree.{At, ExprTree, leaf, one, two, three, many, let_in, loop, iterate, ExprTrees, LegTree, strided, LegTrees, Leaf, int, truth, chars, fresh, One, Two, Three, if_else, select, Many, pack_exprs, pack_legs}
use Rattle.weld_tree.specs.ExprView.{view_leg}
use Rattle.weld_tree.specs.Program.{bound, bound_in, bound_in_leg, bound_in_legs, AreDistinct}
use Rattle.weld_meaning.specs.Environment.{Named}
use Rattle.weld_meaning.specs.Origin.{Path, Origin, value, made, own, outer, named, struct, is_value, many_origin, own_paths, in_turn, outside, by_name}
use Rattle.weld_meaning.specs.LinearWalk.{Left, is_not_made, same_origin, some_of, paths_below, builders_of, refusal}
use Rattle.weld_linear.specs.AvailableView.{same_left}
use Rattle.weld_linear.specs.Sources.{pack_origins}
use Rattle.weld_linear.specs.Resolve.{resolve}
use Rattle.weld_uses.specs.Walks.{at, somewhere, Fails, Walked, Stops, Walks, AllWalked, AllStop, LegWalked, LegStops, LegWalks, LegsWalked, LegsStop, UsesChain, BodyWalked, BodyWalks, BodyStops, IsAbsent, AreClear}
use Rattle.weld_uses.proofs.Clear.{clear_first, clear_second, clear_bound, clear_distinct, distinct_second}
use Rattle.weld_uses.proofs.Steps.{fresh_walks, three_walk, other_stops, arms_leave_different, arms_answer_different, if_walks}
use Rattle.weld_uses.proofs.Binding.{body_stops_too, body_leaves, let_walks, turn_stops, iterate_walks, inside, inner_stops, inner_leaves, inner_differs, inner_walks, many_walks, AllSo, all_begin, all_stops, all_step, all_walked, LegsSo, legs_begin, legs_stops, legs_walked}
use Rattle.weld_uses.proofs.Nodes.{leaf_at, one_at, two_at, three_at, many_at, let_at, loop_at, iterate_at}

pub clear_same : (xs : List ℕ) {l m : Left} → m ≡ l → AreClear xs l → AreClear xs m
clear_same xs e h = subst (AreClear xs) (sym e) h

-- ---- where the walk stops

pub stop : (after : Left) {r : Result Origin Refusal} {x y : Refusal} {e : ExprTree} {g : Named Origin} {l : Left} → r ≡ Err y → y ≡ x → Stops x e g l → Walks r e g l after
stop after {x = x} {y = y} {e = e} {g = g} {l = l} p q h = subst (λ u. Walks u e g l after) (sym p) (subst (λ u. Stops u e g l) (sym q) h)

pub stop_leg : (after : Left) {r : Result (Unit {0}) Refusal} {x y : Refusal} {e : LegTree} {g : Named Origin} {l : Left} → r ≡ Err y → y ≡ x → LegStops x e g l → LegWalks r e g l after
stop_leg after {x = x} {y = y} {e = e} {g = g} {l = l} p q h = subst (λ u. LegWalks u e g l after) (sym p) (subst (λ u. LegStops u e g l) (sym q) h)

pub stop_body : {r : Result (Unit {0}) Refusal} {u v : Refusal} {b n x : Binder} {f : ExprTree} {p : Place} {o : Origin} {g : Named Origin}
    → r ≡ Err v → v ≡ u → BodyStops u b n x f p o g → BodyWalks r b n x f p o g
stop_body {b = b} {n = n} {x = x} {f = f} {p = p} {o = o} {g = g} e q h = subst (λ y. BodyWalks y b n x f p o g) (sym e) (subst (λ y. BodyStops y b n x f p o g) (sym q) h)

-- ---- nodes

pub chain_at : (r : Result Origin Refusal) (c : ℕ × Path) (g : Named Origin) (l : Left) (after : Left) {p q : Place} → p ≡ q → UsesChain r c p g l after → UsesChain r c q g l after
chain_at r c g l after e h = subst (λ p. UsesChain r c p g l after) e h

pub select_no_if : select ≢ if_else
select_no_if e = cc

pub three_answers : {k : Three} {c e f : ExprTree} {p : Place} {g : Named Origin} {l m n after : Left} {x o u t : Origin}
    → x ≡ value → k ≢ if_else → Walked o c g l m → Walked u e g m n → Walked t f g n after → Walked x (three (at p) k c e f) g l after
three_answers {k} {c} {e} {f} {p} {g} {l} {after = after} h other w v z = subst (λ y. Walked y (three (at p) k c e f) g l after) (sym h) (three_walk other w v z)

pub many_answers : {k : Many} {es : ExprTrees} {p : Place} {g : Named Origin} {l after : Left} {x : Origin} {os : List Origin}
    → x ≡ many_origin k (pack_origins os) → AllWalked os es g l after → Walked x (many (at p) k es) g l after
many_answers {k} {es} {p} {g} {l} {after} h w = subst (λ y. Walked y (many (at p) k es) g l after) (sym h) (many_walks w)

pub other_arm_stops : {r : Refusal} {c e f : ExprTree} {p : Place} {g : Named Origin} {l m copy n : Left} {o u : Origin}
    → copy ≡ m → Walked o c g l m → Walked u e g m n → Stops r f g copy → Stops r (three (at p) if_else c e f) g l
other_arm_stops {r} {f = f} {g = g} h w v s = other_stops w v (subst (λ y. Stops r f g y) h s)

pub arms_leave_others : {c e f : ExprTree} {p : Place} {g : Named Origin} {l m copy n after : Left} {o u t : Origin} {b : Bool}
    → copy ≡ m → Walked o c g l m → Walked u e g m n → Walked t f g copy after → b ≡ same_left n after → b ≡ false → Stops (refused.At L2 p) (three (at p) if_else c e f) g l
arms_leave_others {f = f} {g = g} {after = after} {t = t} h w v z s q = arms_leave_different w v (subst (λ y. Walked t f g y after) h z) (sym s ∙ q)

pub arms_answer_others : {c e f : ExprTree} {p : Place} {g : Named Origin} {l m copy n after : Left} {o u t : Origin} {b : Bool}
    → copy ≡ m → Walked o c g l m → Walked u e g m n → Walked t f g copy after → b ≡ same_left n after → b ≡ true
    → same_origin u t && is_not_made u ≡ false → Stops (refused.At L4 p) (three (at p) if_else c e f) g l
arms_answer_others {f = f} {g = g} {after = after} {t = t} h w v z s q k = arms_answer_different w v (subst (λ y. Walked t f g y after) h z) (sym s ∙ q) k

pub if_answers : {c e f : ExprTree} {p : Place} {g : Named Origin} {l m copy n after : Left} {o u t : Origin} {b : Bool}
    → copy ≡ m → Walked o c g l m → Walked u e g m n → Walked t f g copy after → b ≡ same_left n after → b ≡ true
    → same_origin u t && is_not_made u ≡ true → Walked u (three (at p) if_else c e f) g l n
if_answers {f = f} {g = g} {after = after} {t = t} h w v z s q k = if_walks w v (subst (λ y. Walked t f g y after) h z) (sym s ∙ q) k

pub both_true : {a b : Bool} {x y : Bool} → x ≡ a → x ≡ true → y ≡ b → y ≡ true → a && b ≡ true
both_true {a} {b} p q r s = (λ i. (sym p ∙ q) i && b) ∙ sym r ∙ s

pub first_false : {a x : Bool} (b : Bool) → x ≡ a → x ≡ false → a && b ≡ false
first_false b p q = λ i. (sym p ∙ q) i && b

pub second_false : {b y : Bool} (a : Bool) → y ≡ b → y ≡ false → a && b ≡ false
second_false true r s = sym r ∙ s
second_false false r s = refl

-- ---- the walk over an expression, by its form

pub leaf_node : (r : Result Origin Refusal) (g : Named Origin) (l : Left) (after : Left) {node : ExprTree} {a : At} {k : Leaf} → node ≡ leaf a k → Walks r (leaf (at a.place) k) g l after → Walks r node g l after
leaf_node r g l after {a = a} {k = k} p w = subst (λ x. Walks r x g l after) (sym p) (leaf_at r a k g l after w)

pub one_node : (r : Result Origin Refusal) (g : Named Origin) (l : Left) (after : Left) {node : ExprTree} {a : At} {k : One} {e x : ExprTree} → node ≡ one a k e → x ≡ e → Walks r (one (at a.place) k x) g l after → Walks r node g l after
one_node r g l after {a = a} {k = k} {x = x} p q w = subst (λ u. Walks r u g l after) (ap (one a k) q ∙ sym p) (one_at r a k x g l after w)

pub two_node : (r : Result Origin Refusal) (g : Named Origin) (l : Left) (after : Left) {node : ExprTree} {a : At} {k : Two} {e f x y : ExprTree} → node ≡ two a k e f → x ≡ e → y ≡ f → Walks r (two (at a.place) k x y) g l after → Walks r node g l after
two_node r g l after {a = a} {k = k} {x = x} {y = y} p q s w =
    subst (λ u. Walks r u g l after) ((λ i. two a k (q i) (s i)) ∙ sym p) (two_at r a k x y g l after w)

pub three_node : (r : Result Origin Refusal) (g : Named Origin) (l : Left) (after : Left) {node : ExprTree} {a : At} {k : Three} {c e f x y z : ExprTree} → node ≡ three a k c e f → x ≡ c → y ≡ e → z ≡ f → Walks r (three (at a.place) k x y z) g l after → Walks r node g l after
three_node r g l after {a = a} {k = k} {x = x} {y = y} {z = z} p q s t w =
    subst (λ u. Walks r u g l after) ((λ i. three a k (q i) (s i) (t i)) ∙ sym p) (three_at r k a x y z g l after w)

pub many_node : (r : Result Origin Refusal) (g : Named Origin) (l : Left) (after : Left) {node : ExprTree} {a : At} {k : Many} {es : ExprTrees} → node ≡ many a k es → Walks r (many (at somewhere) k es) g l after → Walks r node g l after
many_node r g l after {a = a} {k = k} {es = es} p w = subst (λ u. Walks r u g l after) (sym p) (many_at r a k es g l after w)

pub let_node : (r : Result Origin Refusal) (g : Named Origin) (l : Left) (after : Left) {node : ExprTree} {a : At} {b : Binder} {e f x y : ExprTree} → node ≡ let_in a b e f → x ≡ e → y ≡ f → Walks r (let_in (at somewhere) b x y) g l after → Walks r node g l after
let_node r g l after {a = a} {b = b} {x = x} {y = y} p q s w =
    subst (λ u. Walks r u g l after) ((λ i. let_in a b (q i) (s i)) ∙ sym p) (let_at r a b x y g l after w)

pub loop_node : (r : Result Origin Refusal) (g : Named Origin) (l : Left) (after : Left) {node : ExprTree} {a : At} {ls : LegTrees} {b n v b1 n1 v1 : Binder} {e f x y : ExprTree} → node ≡ loop a ls e b n v f → x ≡ e → b1 ≡ b → n1 ≡ n → v1 ≡ v → y ≡ f → Walks r (loop (at a.place) ls x b1 n1 v1 y) g l after → Walks r node g l after
loop_node r g l after {a = a} {ls = ls} {b1 = b1} {n1 = n1} {v1 = v1} {x = x} {y = y} p q i1 i2 i3 s w =
    subst (λ u. Walks r u g l after) ((λ i. loop a ls (q i) (i1 i) (i2 i) (i3 i) (s i)) ∙ sym p) (loop_at r a ls b1 n1 v1 x y g l after w)

pub iterate_node : (r : Result Origin Refusal) (g : Named Origin) (l : Left) (after : Left) {node : ExprTree} {a : At} {b : Binder} {e f x y : ExprTree} → node ≡ iterate a e b f → x ≡ e → y ≡ f → Walks r (iterate (at somewhere) x b y) g l after → Walks r node g l after
iterate_node r g l after {a = a} {b = b} {x = x} {y = y} p q s w =
    subst (λ u. Walks r u g l after) ((λ i. iterate a (q i) b (s i)) ∙ sym p) (iterate_at r a b x y g l after w)

-- ---- the binders of a node, by its form

pub clear_node : (l : Left) {node e : ExprTree} → node ≡ e → AreClear (bound node) l → AreClear (bound e) l
clear_node l p h = subst (λ u. AreClear (bound u) l) p h

pub clear_two : (l : Left) {node e f x y : ExprTree} {a : At} {k : Two} → node ≡ two a k e f → x ≡ e → y ≡ f → AreClear (bound node) l
    → AreClear (bound x) l × AreClear (bound y) l
clear_two l {x = x} {y = y} {a = a} {k = k} p q s h =
    let w = clear_node _ (p ∙ sym (λ i. two a k (q i) (s i))) h in (clear_first (bound x) (bound y) l w, clear_second (bound x) (bound y) l w)

pub clear_three : (l : Left) {node c e f x y z : ExprTree} {a : At} {k : Three} → node ≡ three a k c e f → x ≡ c → y ≡ e → z ≡ f → AreClear (bound node) l
    → AreClear (bound x) l × AreClear (bound y) l × AreClear (bound z) l
clear_three l {x = x} {y = y} {z = z} {a = a} {k = k} p q s t h =
    let w = clear_node _ (p ∙ sym (λ i. three a k (q i) (s i) (t i))) h in
    let v = clear_second (bound x) (bound y ++ bound z) l w in
    (clear_first (bound x) (bound y ++ bound z) l w, clear_first (bound y) (bound z) l v, clear_second (bound y) (bound z) l v)

pub clear_let : (l : Left) {node e f x y : ExprTree} {a : At} {b : Binder} → node ≡ let_in a b e f → x ≡ e → y ≡ f → AreClear (bound node) l
    → AreClear (bound (let_in (at somewhere) b x y)) l
clear_let l {x = x} {y = y} {a = a} {b = b} p q s h = clear_node _ (p ∙ sym (λ i. let_in a b (q i) (s i))) h

pub clear_loop : (l : Left) {node e f x y : ExprTree} {a : At} {ls : LegTrees} {b n v b1 n1 v1 : Binder} → node ≡ loop a ls e b n v f → x ≡ e → b1 ≡ b → n1 ≡ n → v1 ≡ v → y ≡ f → AreClear (bound node) l
    → AreClear (bound (loop (at a.place) ls x b1 n1 v1 y)) l
clear_loop l {a = a} {ls = ls} p q i1 i2 i3 s h = clear_node _ (p ∙ sym (λ i. loop a ls (q i) (i1 i) (i2 i) (i3 i) (s i))) h

pub clear_iterate : (l : Left) {node e f x y : ExprTree} {a : At} {b : Binder} → node ≡ iterate a e b f → x ≡ e → y ≡ f → AreClear (bound node) l
    → AreClear (bound (iterate (at somewhere) x b y)) l
clear_iterate l {x = x} {y = y} {a = a} {b = b} p q s h = clear_node _ (p ∙ sym (λ i. iterate a (q i) b (s i))) h

-- ---- legs, by their form

pub leg_node : (r : Result (Unit {0}) Refusal) (g : Named Origin) (l : Left) (after : Left) {leg t : LegTree} → leg ≡ t → LegWalks r t g l after → LegWalks r leg g l after
leg_node r g l after p w = subst (λ u. LegWalks r u g l after) (sym p) w

pub clear_leg : (l : Left) {leg t : LegTree} → leg ≡ t → AreClear (bound_in_leg leg) l → AreClear (bound_in_leg t) l
clear_leg l p h = subst (λ u. AreClear (bound_in_leg u) l) p h

pub clear_strided : (e f h i : ExprTree) (l : Left) → AreClear (bound_in_leg (strided e f h i)) l
    → AreClear (bound e) l × AreClear (bound f) l × AreClear (bound h) l × AreClear (bound i) l
clear_strided e f h i l c =
    let v = clear_second (bound e) (bound f ++ (bound h ++ bound i)) l c in
    let w = clear_second (bound f) (bound h ++ bound i) l v in
    (clear_first (bound e) (bound f ++ (bound h ++ bound i)) l c, clear_first (bound f) (bound h ++ bound i) l v, clear_first (bound h) (bound i) l w, clear_second (bound h) (bound i) l w)

-- ---- lists

pub all_starts : {es ps : List ExprTree} {os : List Origin} {g : Named Origin} {l : Left} → es ≡ ps → os ≡ [] → AreClear (bound_in (pack_exprs ps)) l → AllSo es 0 os g l l
all_starts {es} {ps} {g = g} {l = l} p q c =
    subst (λ os. AllSo es 0 os g l l) (sym q) (all_begin es g l (subst (λ x. AreClear (bound_in (pack_exprs x)) l) (sym p) c))

pub all_refused : {r : Refusal} {es ps : List ExprTree} {i : ℕ} {e : ExprTree} {os : List Origin} {g : Named Origin} {left now : Left} → es ≡ ps → i < length es → e ≡ get_or es i e
    → AllSo es i os g left now → Stops r e g now → AllStop r (pack_exprs ps) g left
all_refused {r} {g = g} {left = left} q h p a s = subst (λ x. AllStop r (pack_exprs x) g left) q (all_stops h p a s)

pub all_more : {es : List ExprTree} {i : ℕ} {e : ExprTree} {os more : List Origin} {g : Named Origin} {left now after : Left} {o : Origin} → more ≡ os ++ o ∷ []
    → i < length es → e ≡ get_or es i e → AllSo es i os g left now → Walked o e g now after → AllSo es (i + 1) more g left after
all_more {es} {i} {g = g} {left = left} {after = after} q h p a w = subst (λ x. AllSo es (i + 1) x g left after) (sym q) (all_step h p a w)

pub all_answer : {es ps : List ExprTree} {i : ℕ} {os : List Origin} {g : Named Origin} {left now : Left} → es ≡ ps → length es ≤ i → AllSo es i os g left now
    → AllWalked os (pack_exprs ps) g left now
all_answer {os = os} {g = g} {left = left} {now = now} q h a = subst (λ x. AllWalked os (pack_exprs x) g left now) q (all_walked h a)

pub legs_start : {ls : List Leg} {ps : List LegTree} {g : Named Origin} {l : Left} → map view_leg ls ≡ ps → AreClear (bound_in_legs (pack_legs ps)) l → LegsSo ls 0 g l l
legs_start {ls} {ps} {g} {l} p c = legs_begin ls g l (subst (λ x. AreClear (bound_in_legs (pack_legs x)) l) (sym p) c)

pub legs_refused : {r : Refusal} {ls : List Leg} {ps : List LegTree} {i : ℕ} {e : Leg} {g : Named Origin} {left now : Left} → map view_leg ls ≡ ps → i < length ls → e ≡ get_or ls i e
    → LegsSo ls i g left now → LegStops r (view_leg e) g now → LegsStop r (pack_legs ps) g left
legs_refused {r} {g = g} {left = left} q h p a s = subst (λ x. LegsStop r (pack_legs x) g left) q (legs_stops h p a s)

pub legs_answer : {ls : List Leg} {ps : List LegTree} {i : ℕ} {g : Named Origin} {left now : Left} → map view_leg ls ≡ ps → length ls ≤ i → LegsSo ls i g left now
    → LegsWalked (pack_legs ps) g left now
legs_answer {g = g} {left = left} {now = now} q h a = subst (λ x. LegsWalked (pack_legs x) g left now) q (legs_walked h a)

pub clear_one : (l : Left) {node e x : ExprTree} {a : At} {k : One} → node ≡ one a k e → x ≡ e → AreClear (bound node) l → AreClear (bound x) l
clear_one l {a = a} {k = k} p q h = clear_node _ (p ∙ sym (ap (one a k) q)) h

pub clear_many : (l : Left) {node : ExprTree} {a : At} {k : Many} {es : ExprTrees} → node ≡ many a k es → AreClear (bound node) l → AreClear (bound_in es) l
clear_many l p h = clear_node _ p h

pub leg_stops : {r : Refusal} {leg t : LegTree} {g : Named Origin} {l : Left} → leg ≡ t → LegStops r t g l → LegStops r leg g l
leg_stops {r} {g = g} {l = l} p w = subst (λ u. LegStops r u g l) (sym p) w

pub walked_leg : {leg t : LegTree} {g : Named Origin} {l after : Left} → leg ≡ t → LegWalked t g l after → LegWalked leg g l after
walked_leg {g = g} {l = l} {after = after} p w = subst (λ u. LegWalked u g l after) (sym p) w

pub less : {n a m : ℕ} → n ≡ m → a < n → a < m
less {a = a} e h = subst (λ x. a < x) e h

pub no_less : {n a m : ℕ} → n ≡ m → n ≤ a → m ≤ a
no_less {a = a} e h = subst (λ x. x ≤ a) e h

-- ---- with the names in scope known by an equation

pub scope_inside : (g : Named Origin) {h3 h2 h1 : Named Origin} {sx sn sb : ℕ} {mine : Origin} → h3 ≡ (sx, value) ∷ h2 → h2 ≡ (sn, value) ∷ h1 → h1 ≡ (sb, mine) ∷ outside g
    → h3 ≡ (sx, value) ∷ (sn, value) ∷ (sb, mine) ∷ outside g
scope_inside g {sx = sx} {sn = sn} {sb = sb} {mine = mine} p q r = p ∙ (λ i. (sx, value) ∷ q i) ∙ (λ i. (sx, value) ∷ (sn, value) ∷ r i)

pub bound_alone : (s : ℕ) (o : Origin) {none m : Left} → m ≡ builders_of s o ++ none → none ≡ [] → m ≡ builders_of s o ++ []
bound_alone s o p q = p ∙ (λ i. builders_of s o ++ q i)

pub clear_with : (s : ℕ) (xs : List ℕ) (o : Origin) (l : Left) {m : Left} → m ≡ builders_of s o ++ l → AreClear (s ∷ xs) l → AreClear xs m
clear_with s xs o l e h = clear_same _ e (clear_bound s xs (paths_below [] o) l h)

pub value_stands : (g : Named Origin) (o : Origin) → is_value o ≡ true → value ≡ resolve g o
value_stands g value h = refl
value_stands g made h = cc
value_stands g (own p) h = cc
value_stands g outer h = cc
value_stands g (named s p) h = cc
value_stands g (struct os) h = cc

pub let_stops : {r : Refusal} {b : Binder} {e f : ExprTree} {p : Place} {g h : Named Origin} {l m bound : Left} {o real : Origin}
    → Walked o e g l m → real ≡ resolve g o → bound ≡ builders_of b.sym.0 real ++ m → Stops r f h bound → h ≡ (b.sym.0, real) ∷ g → Stops r (let_in (at p) b e f) g l
let_stops {r} {f = f} {bound = bound} w v k s q = body_stops_too w v k (subst (λ y. Stops r f y bound) q s)

pub let_leaves : {b : Binder} {e f : ExprTree} {p : Place} {g h : Named Origin} {l m bound after : Left} {o real t : Origin} → IsAbsent b.sym.0 l
    → Walked o e g l m → real ≡ resolve g o → bound ≡ builders_of b.sym.0 real ++ m → Walked t f h bound after → h ≡ (b.sym.0, real) ∷ g
    → some_of (λ (x : ℕ × Path). x.0 == b.sym.0) after ≡ true → Stops (refused.At L1 b.place) (let_in (at p) b e f) g l
let_leaves {f = f} {bound = bound} {after = after} {t = t} n w v k z q s = body_leaves n w v k (subst (λ y. Walked t f y bound after) q z) s

pub let_answers : {b : Binder} {e f : ExprTree} {p : Place} {g h : Named Origin} {l m bound after : Left} {o real t answer : Origin} → IsAbsent b.sym.0 l
    → Walked o e g l m → real ≡ resolve g o → bound ≡ builders_of b.sym.0 real ++ m → Walked t f h bound after → h ≡ (b.sym.0, real) ∷ g
    → some_of (λ (x : ℕ × Path). x.0 == b.sym.0) after ≡ false → answer ≡ resolve ((b.sym.0, o) ∷ by_name g) t → Walked answer (let_in (at p) b e f) g l after
let_answers {f = f} {bound = bound} {after = after} {t = t} n w v k z q s a = let_walks n w v k (subst (λ y. Walked t f y bound after) q z) s a

pub iterate_stops : {r : Refusal} {b : Binder} {e f : ExprTree} {p : Place} {g h : Named Origin} {l m none : Left} {o : Origin}
    → none ≡ [] → Walked o e g l m → Stops r f h none → h ≡ (b.sym.0, value) ∷ outside g → Stops r (iterate (at p) e b f) g l
iterate_stops {r} {b} {f = f} {g = g} {none = none} n w s q = turn_stops w (subst (λ y. Stops r f (in_turn b g) y) n (subst (λ y. Stops r f y none) q s))

pub iterate_answers : {b : Binder} {e f : ExprTree} {p : Place} {g h : Named Origin} {l m none after : Left} {x o t : Origin}
    → x ≡ value → none ≡ [] → Walked o e g l m → Walked t f h none after → h ≡ (b.sym.0, value) ∷ outside g → Walked x (iterate (at p) e b f) g l m
iterate_answers {b} {e} {f} {p} {g} {l = l} {m = m} {none = none} {after = after} {t = t} v n w z q =
    subst (λ y. Walked y (iterate (at p) e b f) g l m) (sym v) (iterate_walks w (subst (λ y. Walked t f (in_turn b g) y after) n (subst (λ y. Walked t f y none after) q z)))

pub inside_stops : {r : Refusal} {b n x : Binder} {f : ExprTree} {p : Place} {g h : Named Origin} {bound : Left} {o mine : Origin}
    → mine ≡ own_paths o → bound ≡ builders_of b.sym.0 mine ++ [] → Stops r f h bound → h ≡ inside b n x mine g → BodyStops r b n x f p o g
inside_stops {r} {f = f} {bound = bound} v k s q = inner_stops v k (subst (λ y. Stops r f y bound) q s)

pub inside_leaves : {b n x : Binder} {f : ExprTree} {p : Place} {g h : Named Origin} {bound after : Left} {o mine t : Origin}
    → mine ≡ own_paths o → bound ≡ builders_of b.sym.0 mine ++ [] → Walked t f h bound after → h ≡ inside b n x mine g
    → some_of (λ (y : ℕ × Path). y.0 == b.sym.0) after ≡ true → BodyStops (refused.At L1 b.place) b n x f p o g
inside_leaves {f = f} {bound = bound} {after = after} {t = t} v k z q s = inner_leaves v k (subst (λ y. Walked t f y bound after) q z) s

pub inside_differs : {b n x : Binder} {f : ExprTree} {p : Place} {g h : Named Origin} {bound after : Left} {o mine t answer : Origin}
    → mine ≡ own_paths o → bound ≡ builders_of b.sym.0 mine ++ [] → Walked t f h bound after → h ≡ inside b n x mine g
    → some_of (λ (y : ℕ × Path). y.0 == b.sym.0) after ≡ false → answer ≡ resolve h t → same_origin answer mine ≡ false
    → BodyStops (refused.At L6 p) b n x f p o g
inside_differs {f = f} {bound = bound} {after = after} {t = t} v k z q s a d = inner_differs v k (subst (λ y. Walked t f y bound after) q z) s (a ∙ (λ i. resolve (q i) t)) d

pub inside_walks : {b n x : Binder} {f : ExprTree} {p : Place} {g h : Named Origin} {bound after : Left} {o mine t answer : Origin}
    → mine ≡ own_paths o → bound ≡ builders_of b.sym.0 mine ++ [] → Walked t f h bound after → h ≡ inside b n x mine g
    → some_of (λ (y : ℕ × Path). y.0 == b.sym.0) after ≡ false → answer ≡ resolve h t → same_origin answer mine ≡ true
    → BodyWalked b n x f p o g
inside_walks {f = f} {bound = bound} {after = after} {t = t} v k z q s a d = inner_walks v k (subst (λ y. Walked t f y bound after) q z) s (a ∙ (λ i. resolve (q i) t)) d

-- ---- leaves

pub fresh_leaf : (p : Place) (b : BuildTree) (o : Origin) (g : Named Origin) (left : Left) → o ≡ made → Walked o (leaf (at p) (fresh b)) g left left
fresh_leaf p b o g left e = fresh_walks p (fresh b) o g left refl e

pub int_leaf : (p : Place) (k : Kind) (x : ℤ) (o : Origin) (g : Named Origin) (left : Left) → o ≡ value → Walked o (leaf (at p) (int k x)) g left left
int_leaf p k x o g left e = fresh_walks p (int k x) o g left refl e

pub truth_leaf : (p : Place) (b : Bool) (o : Origin) (g : Named Origin) (left : Left) → o ≡ value → Walked o (leaf (at p) (truth b)) g left left
truth_leaf p b o g left e = fresh_walks p (truth b) o g left refl e

pub chars_leaf : (p : Place) (bs : List ℕ) (o : Origin) (g : Named Origin) (left : Left) → o ≡ value → Walked o (leaf (at p) (chars bs)) g left left
chars_leaf p bs o g left e = fresh_walks p (chars bs) o g left refl e

-- ---- the whole program

pub walked_whole : {o : Origin} {e d : ExprTree} {h : Named Origin} {l after : Left} → Walked o d h l after → d ≡ e → h ≡ [] → l ≡ [] → refusal e [] [] ≡ None
walked_whole w p q s = sym (λ i. refusal (p i) (q i) (s i)) ∙ w.none

pub stops_whole : {r : Refusal} {e d : ExprTree} {h : Named Origin} {l : Left} → Stops r d h l → d ≡ e → h ≡ [] → l ≡ [] → Fails r (refusal e [] [])
stops_whole {r} w p q s = subst (Fails r) (λ i. refusal (p i) (q i) (s i)) w.fails

pub clear_whole : (ss : List ℕ) {e d : ExprTree} {l : Left} → AreDistinct (ss ++ bound e) → d ≡ e → l ≡ [] → AreClear (bound d) l
clear_whole ss {e} {d} h p q = clear_same _ q (clear_node _ (sym p) (clear_distinct (bound e) (distinct_second ss (bound e) h)))
