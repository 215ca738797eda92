-- What the walk answers at a node, by what it answers of the parts.
use Rattle.std.proofs.Common.{◌≡◌, ◌≢◌, ℕ, ◌<◌, ◌≤◌, Bool, true, false, ◌&&◌, ◌||◌, not, [], ◌∷◌, length, Option, Some, None, refl, sym, ap, subst, ◌∙◌, Result, Ok, Err}
use Rattle.weld_tree.specs.declared.place.Place.{Place}
use Rattle.weld_tree.specs.declared.code.Code.TheVariants.{L1, L2, L4, L5}
use Rattle.weld_tree.specs.declared.refusal.Refusal.{Refusal}
use Rattle.weld_tree.specs.declared.refusal.Refusal.TheVariants as refused
use Rattle.weld_tree.specs.ExprTree.{At, ExprTree, leaf, one, two, three, many, let_in, loop, iterate, Leaf, int, truth, chars, name, fresh, One, neg, not as not_of, cast, len, field, finish, started, Two, binary, and, or, look_up, key_exists, merge, Three, if_else, select, slice}
use Rattle.weld_meaning.specs.Environment.{Named}
use Rattle.weld_meaning.specs.Origin.{Path, Origin, value, field_origin, is_value, origin, origin_of_name, one_origin, two_origin, by_name}
use Rattle.weld_meaning.specs.Available.{chain_of, chain_of_leaf, chain_of_one, chain_takes, takes, Taken}
use Rattle.weld_meaning.specs.LinearWalk.{Left, Refused, before, where_so, is_own, is_not_made, same_origin, some_of, differ, after_taking, chain_or, one_refused, two_refused, name_place, refusal}
use Rattle.weld_linear.specs.AvailableView.{same_left}
use Rattle.weld_linear.specs.Resolve.{follow, resolve}
use Rattle.weld_uses.specs.Walks.{at, Fails, Walked, Stops, Walks, UsesChain, one_ends, EndsOne, two_ends, EndsTwo}
use Rattle.weld_linear.proofs.Arms.{value_resolved, shows, names_resolve, by_names}
use Rattle.weld_uses.proofs.Taking.{after_both, took, arms_left, arms_alike}

-- ---- the first refusal

pub fails_first : (r : Refusal) (x y : Refused) → Fails r x → Fails r (before x y)
fails_first (refused.At c p) x y h = rw h refl
fails_first (refused.Size c) x y h = absurd h
fails_first refused.Memory x y h = tt

pub fails_later : (r : Refusal) (x y : Refused) → x ≡ None → Fails r y → Fails r (before x y)
fails_later r x y e h = subst (λ u. Fails r (before u y)) (sym e) h

pub none_both : (x y : Refused) → x ≡ None → y ≡ None → before x y ≡ None
none_both x y e f = rw e f

-- ---- names followed by field accesses

-- the origin of a name followed by field accesses
abbrev ChainIs : Option (ℕ × Path) → Named Origin → Origin → Type 0
ChainIs (Some c) h o = o ≡ follow c.1 (origin_of_name c.0 h)
ChainIs None h o = Unit {0}

field_chain : (c : Option (ℕ × Path)) (n : ℕ) (h : Named Origin) (o : Origin) → ChainIs c h o → ChainIs (chain_of_one (field n) c) h (field_origin n o)
field_chain (Some c) n h o k = ap (field_origin n) k
field_chain None n h o k = tt

leaf_chain : (a : At) (l : Leaf) (h : Named Origin) → ChainIs (chain_of_leaf l) h (origin (leaf a l) h)
leaf_chain a (int k x) h = tt
leaf_chain a (truth b) h = tt
leaf_chain a (chars bs) h = tt
leaf_chain a (name s) h = refl
leaf_chain a (fresh b) h = tt

chain_is : (e : ExprTree) (h : Named Origin) → ChainIs (chain_of e) h (origin e h)
chain_is (leaf a l) h = leaf_chain a l h
chain_is (one a neg e) h = tt
chain_is (one a not_of e) h = tt
chain_is (one a (cast k) e) h = tt
chain_is (one a len e) h = tt
chain_is (one a (field n) e) h = field_chain (chain_of e) n h (origin e h) (chain_is e h)
chain_is (one a finish e) h = tt
chain_is (one a (started b) e) h = tt
chain_is (two a o e f) h = tt
chain_is (three a o c e f) h = tt
chain_is (many a o es) h = tt
chain_is (let_in a b e f) h = tt
chain_is (loop a ls e b n x f) h = tt
chain_is (iterate a e b f) h = tt

-- what is refused at a node of one part, where its part is such a name or not
abbrev one_refusal : Option (ℕ × Path) → One → ExprTree → Place → Named Origin → Left → Refused
one_refusal d k part p g l = chain_or d (name_place part) g l (before (refusal part g l) (one_refused k p (origin part g)))

pub chain_walks : (r : Result Origin Refusal) (k : One) (part : ExprTree) (p : Place) (g : Named Origin) (l after : Left) (c : ℕ × Path)
    → Some c ≡ chain_of_one k (chain_of part) → UsesChain r c (name_place part) g l after → Walks r (one (at p) k part) g l after
chain_walks (Ok o) k part p g l after c e h = record {
  none = ap (λ d. one_refusal d k part p g l) (sym e) ∙ h.none;
  from = h.from ∙ sym (subst (λ d. ChainIs d (by_name g) (origin (one (at p) k part) (by_name g))) (sym e) (chain_is (one (at p) k part) (by_name g)));
  rest = h.rest ∙ ap (λ d. after_taking (λ s q. chain_takes d g s q (takes part g s q)) l) e;
}
chain_walks (Err r) k part p g l after c e h = record { fails = subst (Fails r) (ap (λ d. one_refusal d k part p g l) e) h.fails }

pub name_walks : (r : Result Origin Refusal) (s : ℕ) (p : Place) (g : Named Origin) (l after : Left)
    → UsesChain r (s, []) p g l after → Walks r (leaf (at p) (name s)) g l after
name_walks (Ok o) s p g l after h = record { none = h.none; from = h.from; rest = h.rest }
name_walks (Err r) s p g l after h = record { fails = h.fails }

pub after_none : (l : Left) → l ≡ after_taking (λ s q. false) l
after_none [] = refl
after_none (e ∷ l) = ap (λ m. e ∷ m) (after_none l)

pub fresh_walks : (p : Place) (l : Leaf) (o : Origin) (g : Named Origin) (left : Left) → chain_of_leaf l ≡ None → o ≡ origin (leaf (at p) l) (by_name g)
    → Walked o (leaf (at p) l) g left left
fresh_walks p l o g left e f = record {
  none = ap (λ d. chain_or d p g left None) e;
  from = f;
  rest = after_none left ∙ ap (λ d. after_taking (λ s q. chain_takes d g s q false) left) (sym e);
}

-- ---- nodes of one part

own_by_name : (e : ExprTree) (g : Named Origin) → is_own (origin e g) ≡ is_own (resolve g (origin e (by_name g)))
own_by_name e g = ap is_own (sym (by_names e g))

field_by_name : (e : ExprTree) (n : ℕ) (g : Named Origin) → is_value (field_origin n (origin e g)) ≡ is_value (field_origin n (origin e (by_name g)))
field_by_name e n g =
    let w = shows g (by_name g) g (one (at (record { line = 0; column = 0 })) (field n) e) (names_resolve g) in
    ap is_value (sym w.1) ∙ value_resolved g (field_origin n (origin e (by_name g))) w.0

ends_one : (k : One) (p : Place) (e : ExprTree) (g : Named Origin) → one_refused k p (origin e g) ≡ one_ends k p g (origin e (by_name g))
ends_one neg p e g = refl
ends_one not_of p e g = refl
ends_one (cast k) p e g = refl
ends_one len p e g = refl
ends_one (field n) p e g = ap (λ b. where_so (not b) L1 p) (field_by_name e n g)
ends_one finish p e g = ap (λ b. where_so b L5 p) (own_by_name e g)
ends_one (started b) p e g = refl

-- the part is refused
pub part_stops : {r : Refusal} {k : One} {part : ExprTree} {p : Place} {g : Named Origin} {l : Left}
    → chain_of_one k (chain_of part) ≡ None → Stops r part g l → Stops r (one (at p) k part) g l
part_stops {r} {k} {part} {p} {g} {l} e h = record { fails = subst (Fails r) (ap (λ d. one_refusal d k part p g l) (sym e)) (fails_first r _ _ h.fails) }

pub part_walks : (r : Result Origin Refusal) (k : One) {part : ExprTree} (p : Place) {g : Named Origin} {l after : Left} {o : Origin}
    → chain_of_one k (chain_of part) ≡ None → Walked o part g l after → EndsOne r k p g o → Walks r (one (at p) k part) g l after
part_walks (Ok a) k {part} p {g} {l} {after} {o} e w h = record {
  none = ap (λ d. one_refusal d k part p g l) e ∙ none_both _ _ w.none (ends_one k p part g ∙ ap (one_ends k p g) (sym w.from) ∙ h.none);
  from = h.from ∙ ap (one_origin k) w.from;
  rest = w.rest ∙ ap (λ d. after_taking (λ s q. chain_takes d g s q (takes part g s q)) l) (sym e);
}
part_walks (Err r) k {part} p {g} {l} {after} {o} e w h = record {
  fails = subst (Fails r) (ap (λ d. one_refusal d k part p g l) (sym e))
      (fails_later r _ _ w.none (subst (Fails r) (ap (one_ends k p g) w.from ∙ sym (ends_one k p part g)) h.fails));
}

-- ---- nodes of two parts

ends_two : (k : Two) (p : Place) (b : Bool) (t : Taken) (l : Left) → some_of (λ (e : ℕ × Path). t e.0 e.1) l ≡ b → two_refused k p t l ≡ two_ends k p b
ends_two (binary op) p b t l h = refl
ends_two and p b t l h = ap (λ c. where_so c L2 p) h
ends_two or p b t l h = ap (λ c. where_so c L2 p) h
ends_two look_up p b t l h = refl
ends_two key_exists p b t l h = refl
ends_two merge p b t l h = refl

pub first_stops : {r : Refusal} {k : Two} {e f : ExprTree} {p : Place} {g : Named Origin} {l : Left} → Stops r e g l → Stops r (two (at p) k e f) g l
first_stops {r} h = record { fails = fails_first r _ _ h.fails }

-- what is refused behind a part
pub behind : {r : Refusal} {e f : ExprTree} {g : Named Origin} {l m : Left} {o : Origin} → Walked o e g l m → Stops r f g m → Fails r (refusal f g (after_taking (takes e g) l))
behind {r} {e} {f} {g} w h = subst (λ x. Fails r (refusal f g x)) w.rest h.fails

pub none_behind : {e f : ExprTree} {g : Named Origin} {l m after : Left} {o u : Origin} → Walked o e g l m → Walked u f g m after → refusal f g (after_taking (takes e g) l) ≡ None
none_behind {e} {f} {g} w v = subst (λ x. refusal f g x ≡ None) w.rest v.none

pub left_behind : {e f : ExprTree} {g : Named Origin} {l m after : Left} {o u : Origin} → Walked o e g l m → Walked u f g m after
    → after ≡ after_taking (λ s q. takes e g s q || takes f g s q) l
left_behind {e} {f} {g} {l} w v = v.rest ∙ ap (after_taking (takes f g)) w.rest ∙ after_both (takes e g) (takes f g) l

pub second_stops : {r : Refusal} {k : Two} {e f : ExprTree} {p : Place} {g : Named Origin} {l m : Left} {o : Origin}
    → Walked o e g l m → Stops r f g m → Stops r (two (at p) k e f) g l
second_stops {r} w h = record { fails = fails_later r _ _ w.none (fails_first r _ _ (behind w h)) }

some_taken : {e f : ExprTree} {g : Named Origin} {l m after : Left} {o u : Origin} (b : Bool) → Walked o e g l m → Walked u f g m after
    → (b ≡ true → length after < length m) → (b ≡ false → length m ≤ length after)
    → some_of (λ (q : ℕ × Path). takes f g q.0 q.1) (after_taking (takes e g) l) ≡ b
some_taken {e} {f} {g} {l} {m} b w v less same =
    subst (λ x. some_of (λ (q : ℕ × Path). takes f g q.0 q.1) x ≡ b) w.rest
    (took b (takes f g) m (λ h. subst (λ x. length x < length m) v.rest (less h)) (λ h. subst (λ x. length m ≤ length x) v.rest (same h)))

pub two_walks : (r : Result Origin Refusal) (k : Two) {e f : ExprTree} (p : Place) {g : Named Origin} {l m after : Left} {o u : Origin} (b : Bool)
    → Walked o e g l m → Walked u f g m after → (b ≡ true → length after < length m) → (b ≡ false → length m ≤ length after)
    → EndsTwo r k p b o → Walks r (two (at p) k e f) g l after
two_walks (Ok a) k {e} {f} p {g} {l} b w v less same h = record {
  none = none_both _ _ w.none (none_both _ _ (none_behind w v) (ends_two k p b (takes f g) (after_taking (takes e g) l) (some_taken b w v less same) ∙ h.none));
  from = h.from ∙ ap (two_origin k) w.from;
  rest = left_behind w v;
}
two_walks (Err r) k {e} {f} p {g} {l} b w v less same h = record {
  fails = fails_later r _ _ w.none (fails_later r _ _ (none_behind w v)
      (subst (Fails r) (sym (ends_two k p b (takes f g) (after_taking (takes e g) l) (some_taken b w v less same))) h.fails));
}

-- ---- nodes of three parts

pub condition_stops : {r : Refusal} {k : Three} {c e f : ExprTree} {p : Place} {g : Named Origin} {l : Left} → Stops r c g l → Stops r (three (at p) k c e f) g l
condition_stops {r} {k = if_else} h = record { fails = fails_first r _ _ h.fails }
condition_stops {r} {k = select} h = record { fails = fails_first r _ _ h.fails }
condition_stops {r} {k = slice} h = record { fails = fails_first r _ _ h.fails }

pub middle_stops : {r : Refusal} {k : Three} {c e f : ExprTree} {p : Place} {g : Named Origin} {l m : Left} {o : Origin}
    → Walked o c g l m → Stops r e g m → Stops r (three (at p) k c e f) g l
middle_stops {r} {k = if_else} w h = record { fails = fails_later r _ _ w.none (fails_first r _ _ (behind w h)) }
middle_stops {r} {k = select} w h = record { fails = fails_later r _ _ w.none (fails_first r _ _ (behind w h)) }
middle_stops {r} {k = slice} w h = record { fails = fails_later r _ _ w.none (fails_first r _ _ (behind w h)) }

-- behind two parts
behind_both : {r : Refusal} {c e f : ExprTree} {g : Named Origin} {l m n : Left} {o u : Origin} → Walked o c g l m → Walked u e g m n → Stops r f g n
    → Fails r (refusal f g (after_taking (takes e g) (after_taking (takes c g) l)))
behind_both {r} {c} {e} {f} {g} w v h = subst (λ x. Fails r (refusal f g (after_taking (takes e g) x))) w.rest (behind v h)

none_behind_both : {c e f : ExprTree} {g : Named Origin} {l m n after : Left} {o u t : Origin} → Walked o c g l m → Walked u e g m n → Walked t f g n after
    → refusal f g (after_taking (takes e g) (after_taking (takes c g) l)) ≡ None
none_behind_both {c} {e} {f} {g} w v z = subst (λ x. refusal f g (after_taking (takes e g) x) ≡ None) w.rest (none_behind v z)

pub last_stops : {r : Refusal} {k : Three} {c e f : ExprTree} {p : Place} {g : Named Origin} {l m n : Left} {o u : Origin}
    → k ≢ if_else → Walked o c g l m → Walked u e g m n → Stops r f g n → Stops r (three (at p) k c e f) g l
last_stops {r} {k = if_else} other w v h = absurd (other refl)
last_stops {r} {k = select} other w v h = record { fails = fails_later r _ _ w.none (fails_later r _ _ (none_behind w v) (behind_both w v h)) }
last_stops {r} {k = slice} other w v h = record { fails = fails_later r _ _ w.none (fails_later r _ _ (none_behind w v) (behind_both w v h)) }

three_left : {c e f : ExprTree} {g : Named Origin} {l m n after : Left} {o u t : Origin} → Walked o c g l m → Walked u e g m n → Walked t f g n after
    → after ≡ after_taking (λ s q. takes c g s q || (takes e g s q || takes f g s q)) l
three_left {c} {e} {f} {g} {l} w v z =
    left_behind v z ∙ ap (after_taking (λ s q. takes e g s q || takes f g s q)) w.rest ∙ after_both (takes c g) (λ s q. takes e g s q || takes f g s q) l

pub three_walk : {k : Three} {c e f : ExprTree} {p : Place} {g : Named Origin} {l m n after : Left} {o u t : Origin}
    → k ≢ if_else → Walked o c g l m → Walked u e g m n → Walked t f g n after → Walked value (three (at p) k c e f) g l after
three_walk {k = if_else} other w v z = absurd (other refl)
three_walk {k = select} other w v z = record { none = none_both _ _ w.none (none_both _ _ (none_behind w v) (none_behind_both w v z)); from = refl; rest = three_left w v z }
three_walk {k = slice} other w v z = record { none = none_both _ _ w.none (none_both _ _ (none_behind w v) (none_behind_both w v z)); from = refl; rest = three_left w v z }

-- ---- `if`: each arm begins with what the condition leaves

pub other_stops : {r : Refusal} {c e f : ExprTree} {p : Place} {g : Named Origin} {l m n : Left} {o u : Origin}
    → Walked o c g l m → Walked u e g m n → Stops r f g m → Stops r (three (at p) if_else c e f) g l
other_stops {r} w v h = record { fails = fails_later r _ _ w.none (fails_later r _ _ (none_behind w v) (fails_first r _ _ (behind w h))) }

-- what is left of the arms
arms_leave : {c e f : ExprTree} {g : Named Origin} {l m n after : Left} {o u t : Origin} → Walked o c g l m → Walked u e g m n → Walked t f g m after
    → same_left n after ≡ not (some_of (λ (q : ℕ × Path). differ (takes e g q.0 q.1) (takes f g q.0 q.1)) (after_taking (takes c g) l))
arms_leave {c} {e} {f} {g} {l} {m} w v z =
    (λ i. same_left (v.rest i) (z.rest i)) ∙ arms_left (takes e g) (takes f g) m
    ∙ ap (λ x. not (some_of (λ (q : ℕ × Path). differ (takes e g q.0 q.1) (takes f g q.0 q.1)) x)) w.rest

not_swap : (a b : Bool) → a ≡ not b → b ≡ not a
not_swap a true h = ap not (sym h)
not_swap a false h = ap not (sym h)

arms_differ : {c e f : ExprTree} {g : Named Origin} {l m n after : Left} {o u t : Origin} → Walked o c g l m → Walked u e g m n → Walked t f g m after
    → (b : Bool) → same_left n after ≡ b → some_of (λ (q : ℕ × Path). differ (takes e g q.0 q.1) (takes f g q.0 q.1)) (after_taking (takes c g) l) ≡ not b
arms_differ w v z b h = not_swap _ _ (arms_leave w v z) ∙ ap not h

pub arms_leave_different : {c e f : ExprTree} {p : Place} {g : Named Origin} {l m n after : Left} {o u t : Origin} → Walked o c g l m → Walked u e g m n → Walked t f g m after
    → same_left n after ≡ false → Stops (refused.At L2 p) (three (at p) if_else c e f) g l
arms_leave_different {p = p} w v z h = record {
  fails = fails_later (refused.At L2 p) _ _ w.none (fails_later (refused.At L2 p) _ _ (none_behind w v) (fails_later (refused.At L2 p) _ _ (none_behind w z)
      (fails_first (refused.At L2 p) _ _ (ap (λ b. where_so b L2 p) (arms_differ w v z false h)))));
}

pub arms_answer_different : {c e f : ExprTree} {p : Place} {g : Named Origin} {l m n after : Left} {o u t : Origin} → Walked o c g l m → Walked u e g m n → Walked t f g m after
    → same_left n after ≡ true → same_origin u t && is_not_made u ≡ false → Stops (refused.At L4 p) (three (at p) if_else c e f) g l
arms_answer_different {c} {e} {f} {p} {g} {l} w v z h k = record {
  fails = fails_later (refused.At L4 p) _ _ w.none (fails_later (refused.At L4 p) _ _ (none_behind w v) (fails_later (refused.At L4 p) _ _ (none_behind w z)
      (fails_later (refused.At L4 p) _ _ (ap (λ b. where_so b L2 p) (arms_differ w v z true h))
      (ap (λ b. where_so (not b) L4 p) (sym (λ i. same_origin (v.from i) (z.from i) && is_not_made (v.from i)) ∙ k)))));
}

pub if_walks : {c e f : ExprTree} {p : Place} {g : Named Origin} {l m n after : Left} {o u t : Origin} → Walked o c g l m → Walked u e g m n → Walked t f g m after
    → same_left n after ≡ true → same_origin u t && is_not_made u ≡ true → Walked u (three (at p) if_else c e f) g l n
if_walks {c} {e} {f} {p} {g} {l} w v z h k = record {
  none = none_both _ _ w.none (none_both _ _ (none_behind w v) (none_both _ _ (none_behind w z)
      (none_both _ _ (ap (λ b. where_so b L2 p) (arms_differ w v z true h)) (ap (λ b. where_so (not b) L4 p) (sym (λ i. same_origin (v.from i) (z.from i) && is_not_made (v.from i)) ∙ k)))));
  from = v.from;
  rest = v.rest ∙ ap (after_taking (takes e g)) w.rest ∙ arms_alike (takes e g) (takes f g) (after_taking (takes c g) l) (arms_differ w v z true h)
      ∙ after_both (takes c g) (λ s q. takes e g s q || takes f g s q) l;
}
