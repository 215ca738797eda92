-- The walk over builders refuses an expression under other numbers where it refused it, by the same rule at the same place.
use Rattle.std.proofs.Common.{◌≡◌, ℕ, not, ◌&&◌, [], ◌∷◌, ◌++◌, Option, Some, None, refl, ap, ◌∙◌}
use Rattle.weld_tree.specs.declared.code.Code.TheVariants.{L1, L2, L3, L4, L5, L6}
use Rattle.weld_tree.specs.declared.place.Place.{Place}
use Rattle.weld_tree.specs.ExprTree.{ExprTree, leaf, one, two, three, many, let_in, loop, iterate, ExprTrees, no_exprs, more_exprs, LegTree, whole, strided, LegTrees, no_legs, more_legs, One, neg, not as not_of, cast, len, field, finish, started, Two, binary, and, or, look_up, key_exists, merge, if_else, select, slice}
use Rattle.weld_meaning.specs.Environment.{Named}
use Rattle.weld_meaning.specs.Names.{Binds, AllBind, LegBinds, LegsBind}
use Rattle.weld_meaning.specs.Origin.{Path, Origin, value, made, own, outer, named, struct, Origins, no_origins, more_origins, field_origin, is_value, origin_of_name, origin, own_paths, in_body, in_turn, by_name}
use Rattle.weld_meaning.specs.Available.{at_path, same_path, chain_of_leaf, chain_of_one, chain_of, takes, leg_takes, legs_take, Taken}
use Rattle.weld_meaning.specs.LinearWalk.{some_of, is_seen, are_seen, is_own, is_not_made, are_not_made, same_origin, same_origins, Left, after_taking, paths_below, builders_of, Refused, before, where_so, chain_refused, chain_or, name_place, one_refused, two_refused, differ, arms_refused, left_over, refusal, some_refusal, leg_refusal, legs_refusal}
use Rattle.weld_objects.specs.Renamed.{Renaming, renamed_binder, renamed, all_renamed, leg_renamed, legs_renamed, IsAlone}
use Rattle.weld_objects.specs.RenamedOrigins.{renamed_origin, origins_renamed, left_renamed, HoldsAlone, AllHoldAlone, AreAlone, OriginsHaveMoved}
use Rattle.weld_objects.proofs.Numbers.{alone_second}
use Rattle.weld_objects.proofs.Origins.{own_holds, value_renamed, field_renamed, own_paths_renamed, bind_moves, by_name_moves, body_moves, turn_moves, origin_moves, origin_holds}
use Rattle.weld_objects.proofs.Taken.{path_renamed, paths_renamed, moved_chain, leaf_chain, chain_of_node, TakesAlike, takes_alike, leg_takes_alike, legs_take_alike, has_alike, after_alike, after_alone, some_alike, builders_move, builders_alone, both_alone, both_renamed}

-- ---- tests of origins

mutual
  seen_renamed : (r : Renaming) (o : Origin) → is_seen (renamed_origin r o) ≡ is_seen o
  seen_renamed r value = refl
  seen_renamed r made = refl
  seen_renamed r (own p) = refl
  seen_renamed r outer = refl
  seen_renamed r (named s p) = refl
  seen_renamed r (struct os) = all_seen_renamed r os

  all_seen_renamed : (r : Renaming) (os : Origins) → are_seen (origins_renamed r os) ≡ are_seen os
  all_seen_renamed r no_origins = refl
  all_seen_renamed r (more_origins o os) = λ i. seen_renamed r o i && all_seen_renamed r os i

own_test_renamed : (r : Renaming) (o : Origin) → is_own (renamed_origin r o) ≡ is_own o
own_test_renamed r value = refl
own_test_renamed r made = refl
own_test_renamed r (own p) = refl
own_test_renamed r outer = refl
own_test_renamed r (named s p) = refl
own_test_renamed r (struct os) = refl

mutual
  not_made_renamed : (r : Renaming) (o : Origin) → is_not_made (renamed_origin r o) ≡ is_not_made o
  not_made_renamed r value = refl
  not_made_renamed r made = refl
  not_made_renamed r (own p) = refl
  not_made_renamed r outer = refl
  not_made_renamed r (named s p) = refl
  not_made_renamed r (struct os) = all_not_made_renamed r os

  all_not_made_renamed : (r : Renaming) (os : Origins) → are_not_made (origins_renamed r os) ≡ are_not_made os
  all_not_made_renamed r no_origins = refl
  all_not_made_renamed r (more_origins o os) = λ i. not_made_renamed r o i && all_not_made_renamed r os i

mutual
  same_renamed : (r : Renaming) (o p : Origin) → HoldsAlone r p → same_origin (renamed_origin r o) (renamed_origin r p) ≡ same_origin o p
  same_renamed r value value a = refl
  same_renamed r value made a = refl
  same_renamed r value (own q) a = refl
  same_renamed r value outer a = refl
  same_renamed r value (named t q) a = refl
  same_renamed r value (struct ps) a = refl
  same_renamed r made value a = refl
  same_renamed r made made a = refl
  same_renamed r made (own q) a = refl
  same_renamed r made outer a = refl
  same_renamed r made (named t q) a = refl
  same_renamed r made (struct ps) a = refl
  same_renamed r (own p) value a = refl
  same_renamed r (own p) made a = refl
  same_renamed r (own p) (own q) a = refl
  same_renamed r (own p) outer a = refl
  same_renamed r (own p) (named t q) a = refl
  same_renamed r (own p) (struct ps) a = refl
  same_renamed r outer value a = refl
  same_renamed r outer made a = refl
  same_renamed r outer (own q) a = refl
  same_renamed r outer outer a = refl
  same_renamed r outer (named t q) a = refl
  same_renamed r outer (struct ps) a = refl
  same_renamed r (named s p) value a = refl
  same_renamed r (named s p) made a = refl
  same_renamed r (named s p) (own q) a = refl
  same_renamed r (named s p) outer a = refl
  same_renamed r (named s p) (named t q) a = λ i. alone_second r s t a i && same_path p q
  same_renamed r (named s p) (struct ps) a = refl
  same_renamed r (struct os) value a = refl
  same_renamed r (struct os) made a = refl
  same_renamed r (struct os) (own q) a = refl
  same_renamed r (struct os) outer a = refl
  same_renamed r (struct os) (named t q) a = refl
  same_renamed r (struct os) (struct ps) a = all_same_renamed r os ps a

  all_same_renamed : (r : Renaming) (os ps : Origins) → AllHoldAlone r ps → same_origins (origins_renamed r os) (origins_renamed r ps) ≡ same_origins os ps
  all_same_renamed r (more_origins o os) (more_origins p ps) a = λ i. same_renamed r o p a.0 i && all_same_renamed r os ps a.1 i
  all_same_renamed r no_origins no_origins a = refl
  all_same_renamed r no_origins (more_origins p ps) a = refl
  all_same_renamed r (more_origins o os) no_origins a = refl

-- ---- at one node

place_stays : (r : Renaming) (e : ExprTree) → name_place (renamed r e) ≡ name_place e
place_stays r (leaf a l) = refl
place_stays r (one a o e) = place_stays r e
place_stays r (two a o e f) = refl
place_stays r (three a o c e f) = refl
place_stays r (many a o es) = refl
place_stays r (let_in a b e f) = refl
place_stays r (loop a ls e b n x f) = refl
place_stays r (iterate a e b f) = refl

chain_refused_alike : (r : Renaming) (c : ℕ × Path) (p : Place) (g h : Named Origin) (left : Left) → OriginsHaveMoved r g h → AreAlone r left → chain_refused (r c.0, c.1) p h (left_renamed r left) ≡ chain_refused c p g left
chain_refused_alike r c p g h left m a =
    let there : origin_of_name (r c.0) h ≡ renamed_origin r (origin_of_name c.0 g) = m.same c.0 in
    let paths : paths_below c.1 (at_path c.1 (origin_of_name (r c.0) h)) ≡ paths_below c.1 (at_path c.1 (origin_of_name c.0 g)) =
    (λ i. paths_below c.1 (at_path c.1 (there i))) ∙ ap (paths_below c.1) (path_renamed r c.1 (origin_of_name c.0 g)) ∙ paths_renamed r c.1 (at_path c.1 (origin_of_name c.0 g)) in
    let seen : is_seen (origin_of_name (r c.0) h) ≡ is_seen (origin_of_name c.0 g) = ap is_seen there ∙ seen_renamed r (origin_of_name c.0 g) in
    λ i. before (where_so (not (seen i)) L3 p) (where_so (some_of (λ q. not (has_alike r left c.0 q a i)) (paths i)) L1 p)

chain_or_alike : (r : Renaming) (m : Option (ℕ × Path)) (p : Place) (g h : Named Origin) (left : Left) (first second : Refused) → OriginsHaveMoved r g h → AreAlone r left → second ≡ first → chain_or (moved_chain r m) p h (left_renamed r left) second ≡ chain_or m p g left first
chain_or_alike r (Some c) p g h left first second m a e = chain_refused_alike r c p g h left m a
chain_or_alike r None p g h left first second m a e = e

one_alike : (r : Renaming) (o : One) (p : Place) (u : Origin) → one_refused o p (renamed_origin r u) ≡ one_refused o p u
one_alike r neg p u = refl
one_alike r not_of p u = refl
one_alike r (cast k) p u = refl
one_alike r len p u = refl
one_alike r (field n) p u = (λ i. where_so (not (is_value (field_renamed r n u i))) L1 p) ∙ (λ i. where_so (not (value_renamed r (field_origin n u) i)) L1 p)
one_alike r finish p u = λ i. where_so (own_test_renamed r u i) L5 p
one_alike r (started b) p u = refl

two_alike : (r : Renaming) (o : Two) (p : Place) (first second : Taken) (left : Left) → TakesAlike r first second → AreAlone r left → two_refused o p second (left_renamed r left) ≡ two_refused o p first left
two_alike r (binary op) p first second left t a = refl
two_alike r and p first second left t a = λ i. where_so (some_alike r (λ (e : ℕ × Path). first e.0 e.1) (λ (e : ℕ × Path). second e.0 e.1) left a t.alike i) L2 p
two_alike r or p first second left t a = λ i. where_so (some_alike r (λ (e : ℕ × Path). first e.0 e.1) (λ (e : ℕ × Path). second e.0 e.1) left a t.alike i) L2 p
two_alike r look_up p first second left t a = refl
two_alike r key_exists p first second left t a = refl
two_alike r merge p first second left t a = refl

left_over_alike : (r : Renaming) (s : ℕ) (o u : Origin) (p : Place) (first second : Taken) → IsAlone r s → u ≡ renamed_origin r o → TakesAlike r first second → left_over (r s) u p second ≡ left_over s o p first
left_over_alike r s o u p first second a e t =
    (λ i. left_over (r s) (e i) p second) ∙ (λ i. where_so (some_of (λ q. not (t.alike s q a i)) (paths_renamed r [] o i)) L1 p)

arms_alike : (r : Renaming) (e f : ExprTree) (p : Place) (g h : Named Origin) (left : Left) → Binds (IsAlone r) e → Binds (IsAlone r) f → OriginsHaveMoved r g h → AreAlone r left → arms_refused (renamed r e) (renamed r f) p h (left_renamed r left) ≡ arms_refused e f p g left
arms_alike r e f p g h left b c m a =
    let named_moves = by_name_moves r g h m in
    let first = origin_moves r e (by_name g) (by_name h) b named_moves in
    let second = origin_moves r f (by_name g) (by_name h) c named_moves in
    let taken = takes_alike r e g h b m in let other = takes_alike r f g h c m in
    let differs = some_alike r (λ (q : ℕ × Path). differ (takes e g q.0 q.1) (takes f g q.0 q.1)) (λ (q : ℕ × Path). differ (takes (renamed r e) h q.0 q.1) (takes (renamed r f) h q.0 q.1)) left a
    (λ s q x i. differ (taken.alike s q x i) (other.alike s q x i)) in
    let same : same_origin (origin (renamed r e) (by_name h)) (origin (renamed r f) (by_name h)) ≡ same_origin (origin e (by_name g)) (origin f (by_name g)) =
    (λ i. same_origin (first i) (second i)) ∙ same_renamed r (origin e (by_name g)) (origin f (by_name g)) (origin_holds r f (by_name g) (by_name h) named_moves) in
    let new : is_not_made (origin (renamed r e) (by_name h)) ≡ is_not_made (origin e (by_name g)) = ap is_not_made first ∙ not_made_renamed r (origin e (by_name g)) in
    λ i. before (where_so (differs i) L2 p) (where_so (not (same i && new i)) L4 p)

-- ---- the walk

-- three parts, one after another
three_parts : (r : Renaming) (c e f : ExprTree) (g h : Named Origin) (left : Left) → Binds (IsAlone r) c → Binds (IsAlone r) e → OriginsHaveMoved r g h → AreAlone r left
    → refusal (renamed r c) h (left_renamed r left) ≡ refusal c g left
    → ((l : Left) → AreAlone r l → refusal (renamed r e) h (left_renamed r l) ≡ refusal e g l)
    → ((l : Left) → AreAlone r l → refusal (renamed r f) h (left_renamed r l) ≡ refusal f g l)
    → before (refusal (renamed r c) h (left_renamed r left)) (before (refusal (renamed r e) h (after_taking (takes (renamed r c) h) (left_renamed r left))) (refusal (renamed r f) h (after_taking (takes (renamed r e) h) (after_taking (takes (renamed r c) h) (left_renamed r left)))))
    ≡ before (refusal c g left) (before (refusal e g (after_taking (takes c g) left)) (refusal f g (after_taking (takes e g) (after_taking (takes c g) left))))
three_parts r c e f g h left bc be m a at_c at_e at_f =
    let first = after_taking (takes c g) left in
    let first_alone = after_alone r (takes c g) left a in
    let first_moves = after_alike r (takes c g) (takes (renamed r c) h) left a (takes_alike r c g h bc m) in
    let second = after_taking (takes e g) first in
    let second_alone = after_alone r (takes e g) first first_alone in
    let second_moves = ap (after_taking (takes (renamed r e) h)) first_moves ∙ after_alike r (takes e g) (takes (renamed r e) h) first first_alone (takes_alike r e g h be m) in
    (λ i. before (at_c i) (before (refusal (renamed r e) h (first_moves i)) (refusal (renamed r f) h (second_moves i))))
    ∙ (λ i. before (refusal c g left) (before (at_e first first_alone i) (at_f second second_alone i)))

mutual
  pub refused_alike : (r : Renaming) (e : ExprTree) (g h : Named Origin) (left : Left) → Binds (IsAlone r) e → OriginsHaveMoved r g h → AreAlone r left → refusal (renamed r e) h (left_renamed r left) ≡ refusal e g left
  refused_alike r (leaf n l) g h left b m a =
      (λ i. chain_or (leaf_chain r l i) n.place h (left_renamed r left) None) ∙ chain_or_alike r (chain_of_leaf l) n.place g h left None None m a refl
  refused_alike r (one n o e) g h left b m a =
      let part : before (refusal (renamed r e) h (left_renamed r left)) (one_refused o n.place (origin (renamed r e) h)) ≡ before (refusal e g left) (one_refused o n.place (origin e g)) =
      (λ i. before (refused_alike r e g h left b m a i) (one_refused o n.place (origin_moves r e g h b m i))) ∙ (λ i. before (refusal e g left) (one_alike r o n.place (origin e g) i)) in
      (λ i. chain_or (chain_of_node r o e i) (place_stays r e i) h (left_renamed r left) (before (refusal (renamed r e) h (left_renamed r left)) (one_refused o n.place (origin (renamed r e) h))))
      ∙ chain_or_alike r (chain_of_one o (chain_of e)) (name_place e) g h left (before (refusal e g left) (one_refused o n.place (origin e g))) (before (refusal (renamed r e) h (left_renamed r left)) (one_refused o n.place (origin (renamed r e) h))) m a part
  refused_alike r (two n o e f) g h left b m a =
      let t = takes_alike r e g h b.0 m in let u = takes_alike r f g h b.1 m in
      let rest = after_taking (takes e g) left in
      let still : AreAlone r rest = after_alone r (takes e g) left a in
      let moved : after_taking (takes (renamed r e) h) (left_renamed r left) ≡ left_renamed r rest = after_alike r (takes e g) (takes (renamed r e) h) left a t in
      (λ i. before (refused_alike r e g h left b.0 m a i) (before (refusal (renamed r f) h (moved i)) (two_refused o n.place (takes (renamed r f) h) (moved i))))
      ∙ (λ i. before (refusal e g left) (before (refused_alike r f g h rest b.1 m still i) (two_alike r o n.place (takes f g) (takes (renamed r f) h) rest u still i)))
  refused_alike r (three n if_else c e f) g h left b m a =
      let t = takes_alike r c g h b.0 m in
      let rest = after_taking (takes c g) left in
      let still : AreAlone r rest = after_alone r (takes c g) left a in
      let moved : after_taking (takes (renamed r c) h) (left_renamed r left) ≡ left_renamed r rest = after_alike r (takes c g) (takes (renamed r c) h) left a t in
      (λ i. before (refused_alike r c g h left b.0 m a i) (before (refusal (renamed r e) h (moved i)) (before (refusal (renamed r f) h (moved i)) (arms_refused (renamed r e) (renamed r f) n.place h (moved i)))))
      ∙ (λ i. before (refusal c g left) (before (refused_alike r e g h rest b.1 m still i) (before (refused_alike r f g h rest b.2 m still i) (arms_alike r e f n.place g h rest b.1 b.2 m still i))))
  refused_alike r (three n select c e f) g h left b m a = three_parts r c e f g h left b.0 b.1 m a
      (refused_alike r c g h left b.0 m a) (λ l w. refused_alike r e g h l b.1 m w) (λ l w. refused_alike r f g h l b.2 m w)
  refused_alike r (three n slice c e f) g h left b m a = three_parts r c e f g h left b.0 b.1 m a
      (refused_alike r c g h left b.0 m a) (λ l w. refused_alike r e g h l b.1 m w) (λ l w. refused_alike r f g h l b.2 m w)
  refused_alike r (many n o es) g h left b m a = all_refused_alike r es g h left b m a
  refused_alike r (let_in n x e f) g h left b m a =
      let o = origin e g in let u = origin (renamed r e) h in
      let e_moves : u ≡ renamed_origin r o = origin_moves r e g h b.1 m in
      let t = takes_alike r e g h b.1 m in
      let inside = bind_moves r x.sym.0 o u g h b.0 e_moves (origin_holds r e g h m) m in
      let rest = after_taking (takes e g) left in
      let still : AreAlone r rest = after_alone r (takes e g) left a in
      let own_left = builders_of x.sym.0 o in
      let moved : builders_of (r x.sym.0) u ++ after_taking (takes (renamed r e) h) (left_renamed r left) ≡ left_renamed r (own_left ++ rest) =
      (λ i. builders_move r x.sym.0 o u e_moves i ++ after_alike r (takes e g) (takes (renamed r e) h) left a t i) ∙ both_renamed r own_left rest in
      let all : AreAlone r (own_left ++ rest) = both_alone r own_left rest (builders_alone r x.sym.0 o b.0) still in
      let v = takes_alike r f ((x.sym.0, o) ∷ g) ((r x.sym.0, u) ∷ h) b.2 inside in
      (λ i. before (refused_alike r e g h left b.1 m a i) (before (refusal (renamed r f) ((r x.sym.0, u) ∷ h) (moved i)) (left_over (r x.sym.0) u x.place (takes (renamed r f) ((r x.sym.0, u) ∷ h)))))
      ∙ (λ i. before (refusal e g left) (before (refused_alike r f ((x.sym.0, o) ∷ g) ((r x.sym.0, u) ∷ h) (own_left ++ rest) b.2 inside all i)
      (left_over_alike r x.sym.0 o u x.place (takes f ((x.sym.0, o) ∷ g)) (takes (renamed r f) ((r x.sym.0, u) ∷ h)) b.0 e_moves v i)))
  refused_alike r (loop n ls e y k x f) g h left b m a =
      let o = origin e g in let u = origin (renamed r e) h in
      let e_moves : u ≡ renamed_origin r o = origin_moves r e g h b.4 m in
      let own_moves : own_paths u ≡ renamed_origin r (own_paths o) = ap own_paths e_moves ∙ own_paths_renamed r o in
      let t = legs_take_alike r ls g h b.3 m in
      let inner = in_body y k x o g in
      let inner_h = in_body (renamed_binder r y) (renamed_binder r k) (renamed_binder r x) u h in
      let inside : OriginsHaveMoved r inner inner_h = body_moves r y k x o u g h b.0 b.1 b.2 e_moves m in
      let rest = after_taking (legs_take ls g) left in
      let still : AreAlone r rest = after_alone r (legs_take ls g) left a in
      let moved : after_taking (legs_take (legs_renamed r ls) h) (left_renamed r left) ≡ left_renamed r rest = after_alike r (legs_take ls g) (legs_take (legs_renamed r ls) h) left a t in
      let own_left = builders_of y.sym.0 (own_paths o) in
      let own_alone : AreAlone r own_left = builders_alone r y.sym.0 (own_paths o) b.0 in
      let own_left_moves : builders_of (r y.sym.0) (own_paths u) ≡ left_renamed r own_left = builders_move r y.sym.0 (own_paths o) (own_paths u) own_moves in
      let v = takes_alike r f inner inner_h b.5 inside in
      let f_moves : origin (renamed r f) inner_h ≡ renamed_origin r (origin f inner) = origin_moves r f inner inner_h b.5 inside in
      let same : same_origin (origin (renamed r f) inner_h) (own_paths u) ≡ same_origin (origin f inner) (own_paths o) =
      (λ i. same_origin (f_moves i) (own_moves i)) ∙ same_renamed r (origin f inner) (own_paths o) (own_holds r [] o) in
      (λ i. before (legs_refused_alike r ls g h left b.3 m a i) (before (refusal (renamed r e) h (moved i)) (before (refusal (renamed r f) inner_h (own_left_moves i)) (before (left_over (r y.sym.0) (own_paths u) y.place (takes (renamed r f) inner_h)) (where_so (not (same i)) L6 n.place)))))
      ∙ (λ i. before (legs_refusal ls g left) (before (refused_alike r e g h rest b.4 m still i) (before (refused_alike r f inner inner_h own_left b.5 inside own_alone i)
      (before (left_over_alike r y.sym.0 (own_paths o) (own_paths u) y.place (takes f inner) (takes (renamed r f) inner_h) b.0 own_moves v i) (where_so (not (same_origin (origin f inner) (own_paths o))) L6 n.place)))))
  refused_alike r (iterate n e x f) g h left b m a =
      λ i. before (refused_alike r e g h left b.1 m a i) (refused_alike r f (in_turn x g) (in_turn (renamed_binder r x) h) [] b.2 (turn_moves r x g h b.0 m) tt i)

  all_refused_alike : (r : Renaming) (es : ExprTrees) (g h : Named Origin) (left : Left) → AllBind (IsAlone r) es → OriginsHaveMoved r g h → AreAlone r left → some_refusal (all_renamed r es) h (left_renamed r left) ≡ some_refusal es g left
  all_refused_alike r no_exprs g h left b m a = refl
  all_refused_alike r (more_exprs e es) g h left b m a =
      let t = takes_alike r e g h b.0 m in
      let moved = after_alike r (takes e g) (takes (renamed r e) h) left a t in
      (λ i. before (refused_alike r e g h left b.0 m a i) (some_refusal (all_renamed r es) h (moved i)))
      ∙ (λ i. before (refusal e g left) (all_refused_alike r es g h (after_taking (takes e g) left) b.1 m (after_alone r (takes e g) left a) i))

  leg_refused_alike : (r : Renaming) (l : LegTree) (g h : Named Origin) (left : Left) → LegBinds (IsAlone r) l → OriginsHaveMoved r g h → AreAlone r left → leg_refusal (leg_renamed r l) h (left_renamed r left) ≡ leg_refusal l g left
  leg_refused_alike r (whole e) g h left b m a = refused_alike r e g h left b m a
  leg_refused_alike r (strided e f k j) g h left b m a =
      let first = after_taking (takes e g) left in
      let first_alone = after_alone r (takes e g) left a in
      let first_moves = after_alike r (takes e g) (takes (renamed r e) h) left a (takes_alike r e g h b.0 m) in
      let second = after_taking (takes f g) first in
      let second_alone = after_alone r (takes f g) first first_alone in
      let second_moves = ap (after_taking (takes (renamed r f) h)) first_moves ∙ after_alike r (takes f g) (takes (renamed r f) h) first first_alone (takes_alike r f g h b.1 m) in
      let third = after_taking (takes k g) second in
      let third_alone = after_alone r (takes k g) second second_alone in
      let third_moves = ap (after_taking (takes (renamed r k) h)) second_moves ∙ after_alike r (takes k g) (takes (renamed r k) h) second second_alone (takes_alike r k g h b.2 m) in
      (λ i. before (refused_alike r e g h left b.0 m a i) (before (refusal (renamed r f) h (first_moves i)) (before (refusal (renamed r k) h (second_moves i)) (refusal (renamed r j) h (third_moves i)))))
      ∙ (λ i. before (refusal e g left) (before (refused_alike r f g h first b.1 m first_alone i) (before (refused_alike r k g h second b.2 m second_alone i) (refused_alike r j g h third b.3 m third_alone i))))

  legs_refused_alike : (r : Renaming) (ls : LegTrees) (g h : Named Origin) (left : Left) → LegsBind (IsAlone r) ls → OriginsHaveMoved r g h → AreAlone r left → legs_refusal (legs_renamed r ls) h (left_renamed r left) ≡ legs_refusal ls g left
  legs_refused_alike r no_legs g h left b m a = refl
  legs_refused_alike r (more_legs l ls) g h left b m a =
      let moved = after_alike r (leg_takes l g) (leg_takes (leg_renamed r l) h) left a (leg_takes_alike r l g h b.0 m) in
      (λ i. before (leg_refused_alike r l g h left b.0 m a i) (legs_refusal (legs_renamed r ls) h (moved i)))
      ∙ (λ i. before (leg_refusal l g left) (legs_refused_alike r ls g h (after_taking (leg_takes l g) left) b.1 m (after_alone r (leg_takes l g) left a) i))
