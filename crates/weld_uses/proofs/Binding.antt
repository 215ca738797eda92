-- What the walk answers at a node that binds names, and over lists, by what it answers of the parts.
use Rattle.std.proofs.Common.{◌≡◌, ℕ, ◌+◌, ◌<◌, ◌≤◌, ◌==◌, Bool, true, false, ◌||◌, not, List, [], ◌∷◌, ◌++◌, length, drop, get_or, map, None, refl, sym, ap, subst, ◌∙◌}
use Rattle.std.proofs.lemmas.List.{at_drop_more, drop_all}
use Rattle.weld_tree.specs.declared.place.Place.{Place}
use Rattle.weld_tree.specs.declared.binder.Binder.{Binder}
use Rattle.weld_tree.specs.declared.code.Code.TheVariants.{L1, L6}
use Rattle.weld_tree.specs.declared.refusal.Refusal.{Refusal}
use Rattle.weld_tree.specs.declared.refusal.Refusal.TheVariants as refused
use Rattle.weld_tree.specs.declared.expr.Leg.{Leg}
use Rattle.weld_tree.specs.ExprTree.{ExprTree, many, let_in, loop, iterate, ExprTrees, whole, strided, LegTrees, Many, pack_exprs, pack_legs}
use Rattle.weld_tree.specs.ExprView.{view_leg}
use Rattle.weld_tree.specs.Program.{bound, bound_in, bound_in_leg, bound_in_legs}
use Rattle.weld_meaning.specs.Environment.{Named}
use Rattle.weld_meaning.specs.Origin.{Path, Origin, value, more_origins, origin, origins, many_origin, own_paths, in_body, in_turn, outside, by_name}
use Rattle.weld_meaning.specs.Available.{takes, some_take, leg_takes, legs_take}
use Rattle.weld_meaning.specs.LinearWalk.{Left, before, where_so, same_origin, some_of, after_taking, paths_below, builders_of, refusal, some_refusal, leg_refusal, legs_refusal}
use Rattle.weld_linear.specs.Sources.{pack_origins}
use Rattle.weld_linear.specs.Resolve.{resolve}
use Rattle.weld_uses.specs.Walks.{at, Fails, Walked, Stops, AllWalked, AllStop, LegWalked, LegStops, LegsWalked, LegsStop, body_refusal, BodyWalked, BodyStops, IsAbsent, AreClear}
use Rattle.weld_linear.proofs.Arms.{by_names, let_by_name}
use Rattle.weld_linear.proofs.Left.{joined, joined_more, joined_none}
use Rattle.weld_uses.proofs.Taking.{after_both, named_left_over, let_left, absent_left}
use Rattle.weld_uses.proofs.Clear.{clear_first, clear_second, clear_left}
use Rattle.weld_uses.proofs.Steps.{fails_first, fails_later, none_both, behind, none_behind, left_behind, after_none}

-- ---- `let`

pub value_stops : {r : Refusal} {b : Binder} {e f : ExprTree} {p : Place} {g : Named Origin} {l : Left} → Stops r e g l → Stops r (let_in (at p) b e f) g l
value_stops {r} h = record { fails = fails_first r _ _ h.fails }

-- the origin that is bound, and the builders with it
real_is : {e : ExprTree} {g : Named Origin} {l m : Left} {o real : Origin} → Walked o e g l m → real ≡ resolve g o → real ≡ origin e g
real_is {e} {g} w h = h ∙ ap (resolve g) w.from ∙ by_names e g

bound_is : {e : ExprTree} {g : Named Origin} {l m bound : Left} {o real : Origin} (s : ℕ) → Walked o e g l m → real ≡ resolve g o → bound ≡ builders_of s real ++ m
    → bound ≡ builders_of s (origin e g) ++ after_taking (takes e g) l
bound_is s w h k = k ∙ (λ i. builders_of s (real_is w h i) ++ w.rest i)

pub body_stops_too : {r : Refusal} {b : Binder} {e f : ExprTree} {p : Place} {g : Named Origin} {l m bound : Left} {o real : Origin}
    → Walked o e g l m → real ≡ resolve g o → bound ≡ builders_of b.sym.0 real ++ m → Stops r f ((b.sym.0, real) ∷ g) bound → Stops r (let_in (at p) b e f) g l
body_stops_too {r} {b} {e} {f} {p} {g} w h k s = record {
  fails = fails_later r _ _ w.none (fails_first r _ _ (subst (Fails r) (λ i. refusal f ((b.sym.0, real_is w h i) ∷ g) (bound_is b.sym.0 w h k i)) s.fails));
}

let_inner : (s : ℕ) {e f : ExprTree} {g : Named Origin} {l m bound after : Left} {o real t : Origin}
    → Walked o e g l m → real ≡ resolve g o → bound ≡ builders_of s real ++ m → Walked t f ((s, real) ∷ g) bound after
    → Walked t f ((s, origin e g) ∷ g) (builders_of s (origin e g) ++ after_taking (takes e g) l) after
let_inner s {e} {f} {g} {l} {m} {bound} {after} {o} {real} {t} w h k v =
    subst (λ x. Walked t f ((s, origin e g) ∷ g) x after) (bound_is s w h k) (subst (λ x. Walked t f ((s, x) ∷ g) bound after) (real_is w h) v)

let_over : (s : ℕ) (e f : ExprTree) (g : Named Origin) (l after : Left) (t : Origin) → IsAbsent s l
    → Walked t f ((s, origin e g) ∷ g) (builders_of s (origin e g) ++ after_taking (takes e g) l) after
    → some_of (λ (x : ℕ × Path). x.0 == s) after ≡ some_of (λ q. not (takes f ((s, origin e g) ∷ g) s q)) (paths_below [] (origin e g))
let_over s e f g l after t n v =
    ap (some_of (λ (x : ℕ × Path). x.0 == s)) v.rest
    ∙ named_left_over (takes f ((s, origin e g) ∷ g)) s (paths_below [] (origin e g)) (after_taking (takes e g) l) (absent_left (takes e g) s l n)

pub body_leaves : {b : Binder} {e f : ExprTree} {p : Place} {g : Named Origin} {l m bound after : Left} {o real t : Origin} → IsAbsent b.sym.0 l
    → Walked o e g l m → real ≡ resolve g o → bound ≡ builders_of b.sym.0 real ++ m → Walked t f ((b.sym.0, real) ∷ g) bound after
    → some_of (λ (x : ℕ × Path). x.0 == b.sym.0) after ≡ true → Stops (refused.At L1 b.place) (let_in (at p) b e f) g l
body_leaves {b} {e} {f} {p} {g} {l} {m} {bound} {after} {o} {real} {t} n w h k v s =
    let z = let_inner b.sym.0 w h k v in
    record { fails = fails_later (refused.At L1 b.place) _ _ w.none (fails_later (refused.At L1 b.place) _ _ z.none (ap (λ c. where_so c L1 b.place) (sym (let_over b.sym.0 e f g l after t n z) ∙ s))) }

pub let_walks : {b : Binder} {e f : ExprTree} {p : Place} {g : Named Origin} {l m bound after : Left} {o real t answer : Origin} → IsAbsent b.sym.0 l
    → Walked o e g l m → real ≡ resolve g o → bound ≡ builders_of b.sym.0 real ++ m → Walked t f ((b.sym.0, real) ∷ g) bound after
    → some_of (λ (x : ℕ × Path). x.0 == b.sym.0) after ≡ false → answer ≡ resolve ((b.sym.0, o) ∷ by_name g) t → Walked answer (let_in (at p) b e f) g l after
let_walks {b} {e} {f} {p} {g} {l} {m} {bound} {after} {o} {real} {t} n w h k v s a =
    let z = let_inner b.sym.0 w h k v in
    let over = sym (let_over b.sym.0 e f g l after t n z) ∙ s in
    record {
      none = none_both _ _ w.none (none_both _ _ z.none (ap (λ c. where_so c L1 b.place) over));
      from = a ∙ (λ i. resolve ((b.sym.0, w.from i) ∷ by_name g) (z.from i)) ∙ let_by_name b.sym.0 e f g;
      rest = z.rest ∙ let_left (takes e g) (takes f ((b.sym.0, origin e g) ∷ g)) b.sym.0 (paths_below [] (origin e g)) l n over;
    }

-- ---- `iterate`

pub state_stops : {r : Refusal} {b : Binder} {e f : ExprTree} {p : Place} {g : Named Origin} {l : Left} → Stops r e g l → Stops r (iterate (at p) e b f) g l
state_stops {r} h = record { fails = fails_first r _ _ h.fails }

pub turn_stops : {r : Refusal} {b : Binder} {e f : ExprTree} {p : Place} {g : Named Origin} {l m : Left} {o : Origin}
    → Walked o e g l m → Stops r f (in_turn b g) [] → Stops r (iterate (at p) e b f) g l
turn_stops {r} w h = record { fails = fails_later r _ _ w.none h.fails }

pub iterate_walks : {b : Binder} {e f : ExprTree} {p : Place} {g : Named Origin} {l m after : Left} {o t : Origin}
    → Walked o e g l m → Walked t f (in_turn b g) [] after → Walked value (iterate (at p) e b f) g l m
iterate_walks w v = record { none = none_both _ _ w.none v.none; from = refl; rest = w.rest }

-- ---- `for`

pub legs_stop : {r : Refusal} {ls : LegTrees} {b n x : Binder} {e f : ExprTree} {p : Place} {g : Named Origin} {l : Left}
    → LegsStop r ls g l → Stops r (loop (at p) ls e b n x f) g l
legs_stop {r} h = record { fails = fails_first r _ _ h.fails }

pub builder_stops : {r : Refusal} {ls : LegTrees} {b n x : Binder} {e f : ExprTree} {p : Place} {g : Named Origin} {l m : Left}
    → LegsWalked ls g l m → Stops r e g m → Stops r (loop (at p) ls e b n x f) g l
builder_stops {r} {e = e} {g = g} w h = record { fails = fails_later r _ _ w.none (fails_first r _ _ (subst (λ y. Fails r (refusal e g y)) w.rest h.fails)) }

pub loop_body_stops : {r : Refusal} {ls : LegTrees} {b n x : Binder} {e f : ExprTree} {p : Place} {g : Named Origin} {l m after : Left} {o : Origin}
    → LegsWalked ls g l m → Walked o e g m after → BodyStops r b n x f p (resolve g o) g → Stops r (loop (at p) ls e b n x f) g l
loop_body_stops {r} {ls} {b} {n} {x} {e} {f} {p} {g} w v h = record {
  fails = fails_later r _ _ w.none (fails_later r _ _ (subst (λ y. refusal e g y ≡ None) w.rest v.none)
      (subst (λ y. Fails r (body_refusal b n x f p y g)) (ap (resolve g) v.from ∙ by_names e g) h.fails));
}

pub loop_walks : {ls : LegTrees} {b n x : Binder} {e f : ExprTree} {p : Place} {g : Named Origin} {l m after : Left} {o : Origin}
    → LegsWalked ls g l m → Walked o e g m after → BodyWalked b n x f p (resolve g o) g → Walked o (loop (at p) ls e b n x f) g l after
loop_walks {ls} {b} {n} {x} {e} {f} {p} {g} {l} w v h = record {
  none = none_both _ _ w.none (none_both _ _ (subst (λ y. refusal e g y ≡ None) w.rest v.none)
      (subst (λ y. body_refusal b n x f p y g ≡ None) (ap (resolve g) v.from ∙ by_names e g) h.none));
  from = v.from;
  rest = v.rest ∙ ap (after_taking (takes e g)) w.rest ∙ after_both (legs_take ls g) (takes e g) l;
}

-- the names in the body
abbrev pub inside : Binder → Binder → Binder → Origin → Named Origin → Named Origin
inside b n x mine g = (x.sym.0, value) ∷ (n.sym.0, value) ∷ (b.sym.0, mine) ∷ outside g

append_none : (l : Left) → l ++ [] ≡ l
append_none [] = refl
append_none (e ∷ l) = ap (λ m. e ∷ m) (append_none l)

body_inner : (b n x : Binder) {f : ExprTree} (g : Named Origin) {bound after : Left} (o : Origin) {mine t : Origin}
    → mine ≡ own_paths o → bound ≡ builders_of b.sym.0 mine ++ [] → Walked t f (inside b n x mine g) bound after
    → Walked t f (in_body b n x o g) (builders_of b.sym.0 (own_paths o)) after
body_inner b n x {f} g {bound} {after} o {mine} {t} h k v =
    subst (λ y. Walked t f (in_body b n x o g) y after) (k ∙ append_none (builders_of b.sym.0 mine) ∙ ap (builders_of b.sym.0) h) (subst (λ y. Walked t f (inside b n x y g) bound after) h v)

pub inner_stops : {r : Refusal} {b n x : Binder} {f : ExprTree} {p : Place} {g : Named Origin} {bound : Left} {o mine : Origin}
    → mine ≡ own_paths o → bound ≡ builders_of b.sym.0 mine ++ [] → Stops r f (inside b n x mine g) bound → BodyStops r b n x f p o g
inner_stops {r} {b} {n} {x} {f} {p} {g} {bound} {o} {mine} h k v = record {
  fails = fails_first r _ _ (subst (Fails r) (λ i. refusal f (inside b n x (h i) g) ((k ∙ append_none (builders_of b.sym.0 mine) ∙ ap (builders_of b.sym.0) h) i)) v.fails);
}

body_over : (b n x : Binder) {f : ExprTree} (g : Named Origin) {after : Left} (o : Origin) {t : Origin}
    → Walked t f (in_body b n x o g) (builders_of b.sym.0 (own_paths o)) after
    → some_of (λ (y : ℕ × Path). y.0 == b.sym.0) after ≡ some_of (λ q. not (takes f (in_body b n x o g) b.sym.0 q)) (paths_below [] (own_paths o))
body_over b n x {f} g {after} o v =
    ap (some_of (λ (y : ℕ × Path). y.0 == b.sym.0)) (v.rest ∙ ap (after_taking (takes f (in_body b n x o g))) (sym (append_none (builders_of b.sym.0 (own_paths o)))))
    ∙ named_left_over (takes f (in_body b n x o g)) b.sym.0 (paths_below [] (own_paths o)) [] tt

pub inner_leaves : {b n x : Binder} {f : ExprTree} {p : Place} {g : Named Origin} {bound after : Left} {o mine t : Origin}
    → mine ≡ own_paths o → bound ≡ builders_of b.sym.0 mine ++ [] → Walked t f (inside b n x mine g) bound after
    → some_of (λ (y : ℕ × Path). y.0 == b.sym.0) after ≡ true → BodyStops (refused.At L1 b.place) b n x f p o g
inner_leaves {b} {n} {x} {f} {p} {g} {bound} {after} {o} h k v s =
    let z = body_inner b n x g o h k v in
    record { fails = fails_later (refused.At L1 b.place) _ _ z.none (fails_first (refused.At L1 b.place) _ _ (ap (λ c. where_so c L1 b.place) (sym (body_over b n x g o z) ∙ s))) }

-- the origin that the body answers
answered : (b n x : Binder) {f : ExprTree} (g : Named Origin) {bound after : Left} (o : Origin) {mine t answer : Origin} (c : Bool)
    → mine ≡ own_paths o → Walked t f (inside b n x mine g) bound after → answer ≡ resolve (inside b n x mine g) t → same_origin answer mine ≡ c
    → same_origin (origin f (in_body b n x o g)) (own_paths o) ≡ c
answered b n x {f} g o {mine} c h v a s =
    sym (λ i. same_origin ((a ∙ ap (resolve (inside b n x mine g)) v.from ∙ by_names f (inside b n x mine g) ∙ ap (λ y. origin f (inside b n x y g)) h) i) (h i)) ∙ s

pub inner_differs : {b n x : Binder} {f : ExprTree} {p : Place} {g : Named Origin} {bound after : Left} {o mine t answer : Origin}
    → mine ≡ own_paths o → bound ≡ builders_of b.sym.0 mine ++ [] → Walked t f (inside b n x mine g) bound after
    → some_of (λ (y : ℕ × Path). y.0 == b.sym.0) after ≡ false → answer ≡ resolve (inside b n x mine g) t → same_origin answer mine ≡ false
    → BodyStops (refused.At L6 p) b n x f p o g
inner_differs {b} {n} {x} {f} {p} {g} {bound} {after} {o} h k v s a d =
    let z = body_inner b n x g o h k v in
    record {
      fails = fails_later (refused.At L6 p) _ _ z.none (fails_later (refused.At L6 p) _ _ (ap (λ c. where_so c L1 b.place) (sym (body_over b n x g o z) ∙ s))
          (ap (λ c. where_so (not c) L6 p) (answered b n x g o false h v a d)));
    }

pub inner_walks : {b n x : Binder} {f : ExprTree} {p : Place} {g : Named Origin} {bound after : Left} {o mine t answer : Origin}
    → mine ≡ own_paths o → bound ≡ builders_of b.sym.0 mine ++ [] → Walked t f (inside b n x mine g) bound after
    → some_of (λ (y : ℕ × Path). y.0 == b.sym.0) after ≡ false → answer ≡ resolve (inside b n x mine g) t → same_origin answer mine ≡ true
    → BodyWalked b n x f p o g
inner_walks {b} {n} {x} {f} {p} {g} {bound} {after} {o} h k v s a d =
    let z = body_inner b n x g o h k v in
    record {
      none = none_both _ _ z.none (none_both _ _ (ap (λ c. where_so c L1 b.place) (sym (body_over b n x g o z) ∙ s)) (ap (λ c. where_so (not c) L6 p) (answered b n x g o true h v a d)));
    }

-- ---- legs

pub whole_walks : {e : ExprTree} {g : Named Origin} {l after : Left} {o : Origin} → Walked o e g l after → LegWalked (whole e) g l after
whole_walks w = record { none = w.none; rest = w.rest }

pub whole_stops : {r : Refusal} {e : ExprTree} {g : Named Origin} {l : Left} → Stops r e g l → LegStops r (whole e) g l
whole_stops h = record { fails = h.fails }

pub strided_stops : {r : Refusal} {e f h i : ExprTree} {g : Named Origin} {l : Left} → Stops r e g l → LegStops r (strided e f h i) g l
strided_stops {r} s = record { fails = fails_first r _ _ s.fails }

pub start_stops : {r : Refusal} {e f h i : ExprTree} {g : Named Origin} {l m : Left} {o : Origin} → Walked o e g l m → Stops r f g m → LegStops r (strided e f h i) g l
start_stops {r} w s = record { fails = fails_later r _ _ w.none (fails_first r _ _ (behind w s)) }

pub end_stops : {r : Refusal} {e f h i : ExprTree} {g : Named Origin} {l m n : Left} {o u : Origin} → Walked o e g l m → Walked u f g m n → Stops r h g n
    → LegStops r (strided e f h i) g l
end_stops {r} {e} {f} {h} {i} {g} {l} w v s = record {
  fails = fails_later r _ _ w.none (fails_later r _ _ (none_behind w v) (fails_first r _ _
      (subst (λ y. Fails r (refusal h g (after_taking (takes f g) y))) w.rest (behind v s))));
}

pub stride_stops : {r : Refusal} {e f h i : ExprTree} {g : Named Origin} {l m n k : Left} {o u t : Origin} → Walked o e g l m → Walked u f g m n → Walked t h g n k → Stops r i g k
    → LegStops r (strided e f h i) g l
stride_stops {r} {e} {f} {h} {i} {g} {l} w v z s = record {
  fails = fails_later r _ _ w.none (fails_later r _ _ (none_behind w v) (fails_later r _ _
      (subst (λ y. refusal h g (after_taking (takes f g) y) ≡ None) w.rest (none_behind v z))
      (subst (λ y. Fails r (refusal i g (after_taking (takes h g) (after_taking (takes f g) y)))) w.rest
      (subst (λ y. Fails r (refusal i g (after_taking (takes h g) y))) v.rest (behind z s)))));
}

pub strided_walks : {e f h i : ExprTree} {g : Named Origin} {l m n k after : Left} {o u t a : Origin} → Walked o e g l m → Walked u f g m n → Walked t h g n k → Walked a i g k after
    → LegWalked (strided e f h i) g l after
strided_walks {e} {f} {h} {i} {g} {l} w v z s = record {
  none = none_both _ _ w.none (none_both _ _ (none_behind w v) (none_both _ _
      (subst (λ y. refusal h g (after_taking (takes f g) y) ≡ None) w.rest (none_behind v z))
      (subst (λ y. refusal i g (after_taking (takes h g) (after_taking (takes f g) y)) ≡ None) w.rest
      (subst (λ y. refusal i g (after_taking (takes h g) y) ≡ None) v.rest (none_behind z s)))));
  rest = left_behind z s ∙ ap (after_taking (λ x q. takes h g x q || takes i g x q)) v.rest ∙ after_both (takes f g) (λ x q. takes h g x q || takes i g x q) _
      ∙ ap (after_taking (λ x q. takes f g x q || (takes h g x q || takes i g x q))) w.rest
      ∙ after_both (takes e g) (λ x q. takes f g x q || (takes h g x q || takes i g x q)) l;
}

-- ---- lists

pub many_walks : {k : Many} {es : ExprTrees} {p : Place} {g : Named Origin} {l after : Left} {os : List Origin}
    → AllWalked os es g l after → Walked (many_origin k (pack_origins os)) (many (at p) k es) g l after
many_walks {k} w = record { none = w.none; from = ap (many_origin k) w.from; rest = w.rest }

pub many_stops : {r : Refusal} {k : Many} {es : ExprTrees} {p : Place} {g : Named Origin} {l : Left} → AllStop r es g l → Stops r (many (at p) k es) g l
many_stops h = record { fails = h.fails }

-- those before the place are walked: what is refused, answered and left in the whole is what is in the rest
pub record AllSo (es : List ExprTree) (i : ℕ) (os : List Origin) (g : Named Origin) (left now : Left) : Type 0 where
  pub refuses : some_refusal (pack_exprs es) g left ≡ some_refusal (pack_exprs (drop i es)) g now
  pub answers : joined os (origins (pack_exprs (drop i es)) (by_name g)) ≡ origins (pack_exprs es) (by_name g)
  pub leaves : after_taking (some_take (pack_exprs (drop i es)) g) now ≡ after_taking (some_take (pack_exprs es) g) left
  pub clear : AreClear (bound_in (pack_exprs (drop i es))) now

pub all_begin : (es : List ExprTree) (g : Named Origin) (left : Left) → AreClear (bound_in (pack_exprs es)) left → AllSo es 0 [] g left left
all_begin es g left c = record { refuses = refl; answers = refl; leaves = refl; clear = c }

-- the first of those that are left
all_refuses : (es : List ExprTree) (i : ℕ) (e : ExprTree) (g : Named Origin) (now : Left) → i < length es → e ≡ get_or es i e
    → some_refusal (pack_exprs (drop i es)) g now ≡ before (refusal e g now) (some_refusal (pack_exprs (drop (i + 1) es)) g (after_taking (takes e g) now))
all_refuses es i e g now h p =
    at_drop_more (λ rest. some_refusal (pack_exprs rest) g now) es i e h
    ∙ ap (λ u. before (refusal u g now) (some_refusal (pack_exprs (drop (i + 1) es)) g (after_taking (takes u g) now))) (sym p)

all_clear : (es : List ExprTree) (i : ℕ) (e : ExprTree) (now : Left) → i < length es → e ≡ get_or es i e
    → AreClear (bound_in (pack_exprs (drop i es))) now → AreClear (bound e ++ bound_in (pack_exprs (drop (i + 1) es))) now
all_clear es i e now h p =
    subst (λ x. AreClear x now) (at_drop_more (λ rest. bound_in (pack_exprs rest)) es i e h ∙ ap (λ u. bound u ++ bound_in (pack_exprs (drop (i + 1) es))) (sym p))

pub all_next : {es : List ExprTree} {i : ℕ} {e : ExprTree} {os : List Origin} {g : Named Origin} {left now : Left} → i < length es → e ≡ get_or es i e
    → AllSo es i os g left now → AreClear (bound e) now
all_next {es} {i} {e} {now = now} h p a = clear_first _ _ now (all_clear es i e now h p a.clear)

pub all_stops : {r : Refusal} {es : List ExprTree} {i : ℕ} {e : ExprTree} {os : List Origin} {g : Named Origin} {left now : Left} → i < length es → e ≡ get_or es i e
    → AllSo es i os g left now → Stops r e g now → AllStop r (pack_exprs es) g left
all_stops {r} {es} {i} {e} {g = g} {now = now} h p a s = record {
  fails = subst (Fails r) (sym (a.refuses ∙ all_refuses es i e g now h p)) (fails_first r _ _ s.fails);
}

pub all_step : {es : List ExprTree} {i : ℕ} {e : ExprTree} {os : List Origin} {g : Named Origin} {left now after : Left} {o : Origin} → i < length es → e ≡ get_or es i e
    → AllSo es i os g left now → Walked o e g now after → AllSo es (i + 1) (os ++ o ∷ []) g left after
all_step {es} {i} {e} {os} {g} {left} {now} {after} {o} h p a w = record {
  refuses = a.refuses ∙ all_refuses es i e g now h p
      ∙ (λ j. before (w.none j) (some_refusal (pack_exprs (drop (i + 1) es)) g (sym w.rest j)));
  answers = joined_more os o (origins (pack_exprs (drop (i + 1) es)) (by_name g))
      ∙ ap (joined os) (ap (λ u. more_origins u (origins (pack_exprs (drop (i + 1) es)) (by_name g))) w.from
      ∙ sym (at_drop_more (λ rest. origins (pack_exprs rest) (by_name g)) es i e h
      ∙ ap (λ u. more_origins (origin u (by_name g)) (origins (pack_exprs (drop (i + 1) es)) (by_name g))) (sym p)))
      ∙ a.answers;
  leaves = ap (after_taking (some_take (pack_exprs (drop (i + 1) es)) g)) w.rest
      ∙ after_both (takes e g) (some_take (pack_exprs (drop (i + 1) es)) g) now
      ∙ sym (at_drop_more (λ rest. after_taking (some_take (pack_exprs rest) g) now) es i e h
      ∙ ap (λ u. after_taking (λ s q. takes u g s q || some_take (pack_exprs (drop (i + 1) es)) g s q) now) (sym p))
      ∙ a.leaves;
  clear = subst (AreClear (bound_in (pack_exprs (drop (i + 1) es)))) (sym w.rest)
      (clear_left _ (takes e g) now (clear_second _ _ now (all_clear es i e now h p a.clear)));
}

pub all_walked : {es : List ExprTree} {i : ℕ} {os : List Origin} {g : Named Origin} {left now : Left} → length es ≤ i → AllSo es i os g left now → AllWalked os (pack_exprs es) g left now
all_walked {es} {i} {os} {g} {left} {now} h a = record {
  none = a.refuses ∙ ap (λ rest. some_refusal (pack_exprs rest) g now) (drop_all i es h);
  from = sym (joined_none os) ∙ sym (ap (λ rest. joined os (origins (pack_exprs rest) (by_name g))) (drop_all i es h)) ∙ a.answers;
  rest = after_none now ∙ sym (ap (λ rest. after_taking (some_take (pack_exprs rest) g) now) (drop_all i es h)) ∙ a.leaves;
}

-- the same of legs
pub record LegsSo (ls : List Leg) (i : ℕ) (g : Named Origin) (left now : Left) : Type 0 where
  pub refuses : legs_refusal (pack_legs (map view_leg ls)) g left ≡ legs_refusal (pack_legs (map view_leg (drop i ls))) g now
  pub leaves : after_taking (legs_take (pack_legs (map view_leg (drop i ls))) g) now ≡ after_taking (legs_take (pack_legs (map view_leg ls)) g) left
  pub clear : AreClear (bound_in_legs (pack_legs (map view_leg (drop i ls)))) now

pub legs_begin : (ls : List Leg) (g : Named Origin) (left : Left) → AreClear (bound_in_legs (pack_legs (map view_leg ls))) left → LegsSo ls 0 g left left
legs_begin ls g left c = record { refuses = refl; leaves = refl; clear = c }

legs_refuse : (ls : List Leg) (i : ℕ) (l : Leg) (g : Named Origin) (now : Left) → i < length ls → l ≡ get_or ls i l
    → legs_refusal (pack_legs (map view_leg (drop i ls))) g now
    ≡ before (leg_refusal (view_leg l) g now) (legs_refusal (pack_legs (map view_leg (drop (i + 1) ls))) g (after_taking (leg_takes (view_leg l) g) now))
legs_refuse ls i l g now h p =
    at_drop_more (λ rest. legs_refusal (pack_legs (map view_leg rest)) g now) ls i l h
    ∙ ap (λ u. before (leg_refusal (view_leg u) g now) (legs_refusal (pack_legs (map view_leg (drop (i + 1) ls))) g (after_taking (leg_takes (view_leg u) g) now))) (sym p)

legs_clear : (ls : List Leg) (i : ℕ) (l : Leg) (now : Left) → i < length ls → l ≡ get_or ls i l
    → AreClear (bound_in_legs (pack_legs (map view_leg (drop i ls)))) now → AreClear (bound_in_leg (view_leg l) ++ bound_in_legs (pack_legs (map view_leg (drop (i + 1) ls)))) now
legs_clear ls i l now h p =
    subst (λ x. AreClear x now) (at_drop_more (λ rest. bound_in_legs (pack_legs (map view_leg rest))) ls i l h
    ∙ ap (λ u. bound_in_leg (view_leg u) ++ bound_in_legs (pack_legs (map view_leg (drop (i + 1) ls)))) (sym p))

pub legs_next : {ls : List Leg} {i : ℕ} {l : Leg} {g : Named Origin} {left now : Left} → i < length ls → l ≡ get_or ls i l
    → LegsSo ls i g left now → AreClear (bound_in_leg (view_leg l)) now
legs_next {ls} {i} {l} {now = now} h p a = clear_first _ _ now (legs_clear ls i l now h p a.clear)

pub legs_stops : {r : Refusal} {ls : List Leg} {i : ℕ} {l : Leg} {g : Named Origin} {left now : Left} → i < length ls → l ≡ get_or ls i l
    → LegsSo ls i g left now → LegStops r (view_leg l) g now → LegsStop r (pack_legs (map view_leg ls)) g left
legs_stops {r} {ls} {i} {l} {g} {now = now} h p a s = record {
  fails = subst (Fails r) (sym (a.refuses ∙ legs_refuse ls i l g now h p)) (fails_first r _ _ s.fails);
}

pub legs_step : {ls : List Leg} {i : ℕ} {l : Leg} {g : Named Origin} {left now after : Left} → i < length ls → l ≡ get_or ls i l
    → LegsSo ls i g left now → LegWalked (view_leg l) g now after → LegsSo ls (i + 1) g left after
legs_step {ls} {i} {l} {g} {left} {now} {after} h p a w = record {
  refuses = a.refuses ∙ legs_refuse ls i l g now h p
      ∙ (λ j. before (w.none j) (legs_refusal (pack_legs (map view_leg (drop (i + 1) ls))) g (sym w.rest j)));
  leaves = ap (after_taking (legs_take (pack_legs (map view_leg (drop (i + 1) ls))) g)) w.rest
      ∙ after_both (leg_takes (view_leg l) g) (legs_take (pack_legs (map view_leg (drop (i + 1) ls))) g) now
      ∙ sym (at_drop_more (λ rest. after_taking (legs_take (pack_legs (map view_leg rest)) g) now) ls i l h
      ∙ ap (λ u. after_taking (λ s q. leg_takes (view_leg u) g s q || legs_take (pack_legs (map view_leg (drop (i + 1) ls))) g s q) now) (sym p))
      ∙ a.leaves;
  clear = subst (AreClear (bound_in_legs (pack_legs (map view_leg (drop (i + 1) ls))))) (sym w.rest)
      (clear_left _ (leg_takes (view_leg l) g) now (clear_second _ _ now (legs_clear ls i l now h p a.clear)));
}

pub legs_walked : {ls : List Leg} {i : ℕ} {g : Named Origin} {left now : Left} → length ls ≤ i → LegsSo ls i g left now → LegsWalked (pack_legs (map view_leg ls)) g left now
legs_walked {ls} {i} {g} {left} {now} h a = record {
  none = a.refuses ∙ ap (λ rest. legs_refusal (pack_legs (map view_leg rest)) g now) (drop_all i ls h);
  rest = after_none now ∙ sym (ap (λ rest. after_taking (legs_take (pack_legs (map view_leg rest)) g) now) (drop_all i ls h)) ∙ a.leaves;
}

-- ---- binders stay clear

pub clear_walked : (xs : List ℕ) {o : Origin} {e : ExprTree} {g : Named Origin} {l m : Left} → Walked o e g l m → AreClear xs l → AreClear xs m
clear_walked xs {o} {e} {g} {l} w h = subst (AreClear xs) (sym w.rest) (clear_left xs (takes e g) l h)

pub clear_legs : (xs : List ℕ) {ls : LegTrees} {g : Named Origin} {l m : Left} → LegsWalked ls g l m → AreClear xs l → AreClear xs m
clear_legs xs {ls} {g} {l} w h = subst (AreClear xs) (sym w.rest) (clear_left xs (legs_take ls g) l h)
