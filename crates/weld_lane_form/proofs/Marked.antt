-- Marks of loops, one after another, and what they say where nodes have their types.
use Rattle.std.proofs.Common.{◌≡◌, inl, inr, ℕ, ◌+◌, ◌<◌, ◌≤◌, Bool, true, false, List, [], ◌∷◌, ◌++◌, length, drop, get_or, map, Option, Some, None, refl, sym, ap, subst, ◌∙◌, append_assoc, append-nil}
use Rattle.std.proofs.lemmas.List.{at_drop_more, drop_all}
use Rattle.weld_tree.specs.declared.binder.Binder.{Binder}
use Rattle.weld_tree.specs.declared.expr.Leg.{Leg}
use Rattle.weld_tree.specs.TypeTree.{TypeTree, TypeTrees, vec, no_types, more_types}
use Rattle.weld_tree.specs.ExprTree.{At, ExprTree, leaf, one, two, three, many, let_in, loop, iterate, ExprTrees, no_exprs, more_exprs, LegTree, whole, strided, LegTrees, no_legs, more_legs, pack_exprs, pack_legs}
use Rattle.weld_tree.specs.ExprView.{view_leg}
use Rattle.weld_meaning.specs.Typing.{Types, HasType, HaveTypes, LegHas, LegsHave, RowHas, body_types}
use Rattle.weld_meaning.proofs.OneType.{one_type}
use Rattle.weld_check_types.specs.Notes.{AreNoted, AllAreNoted, LegIsNoted, LegsAreNoted}
use Rattle.weld_sizes.specs.Lanes.{has_lane_form}
use Rattle.weld_lane_form.specs.Marking.{loops_in, loops_among, loops_in_leg, loops_in_legs, AreMarks, IsMark, MayBeMark, MarkOn}
use Rattle.weld_lane_form.specs.declared.making.LaneBody.{LaneBody}
use Rattle.weld_lane_form.proofs.ExprsLowered.{loop_lowers}

-- ---- one behind another

marks_append : (R : ExprTree → Option LaneBody → Type 0) (es fs : List ExprTree) (ms ns : List (Option LaneBody)) → AreMarks R es ms → AreMarks R fs ns → AreMarks R (es ++ fs) (ms ++ ns)
marks_append R [] fs [] ns h g = g
marks_append R [] fs (m ∷ ms) ns h g = absurd h
marks_append R (e ∷ es) fs [] ns h g = absurd h
marks_append R (e ∷ es) fs (m ∷ ms) ns h g = (h.0, marks_append R es fs ms ns h.1 g)

pub marks_on : (old mid new : List (Option LaneBody)) (es fs : List ExprTree) → MarkOn old mid es → MarkOn mid new fs → MarkOn old new (es ++ fs)
marks_on old mid new es fs p q = record {
  marks = p.marks ++ q.marks;
  is = q.is ∙ ap (λ (ms : List (Option LaneBody)). ms ++ q.marks) p.is ∙ append_assoc old p.marks q.marks;
  each = marks_append MayBeMark es fs p.marks q.marks p.each q.each;
}

pub no_marks : (old : List (Option LaneBody)) → MarkOn old old []
no_marks old = record { marks = []; is = sym (append-nil old); each = tt }

pub one_mark : (old new : List (Option LaneBody)) (e : ExprTree) (m : Option LaneBody) → new ≡ old ++ m ∷ [] → MayBeMark e m → MarkOn old new (e ∷ [])
one_mark old new e m is h = record { marks = m ∷ []; is = is; each = (h, tt) }

-- ---- lists of parts

pub part_marked : (old now more : List (Option LaneBody)) (es : List ExprTree) (i : ℕ) (e : ExprTree) → i < length es → e ≡ get_or es i e
    → ((new : List (Option LaneBody)) → MarkOn now new (loops_among (pack_exprs (drop i es))) → MarkOn old new (loops_among (pack_exprs es))) → MarkOn now more (loops_in e)
    → (new : List (Option LaneBody)) → MarkOn more new (loops_among (pack_exprs (drop (i + 1) es))) → MarkOn old new (loops_among (pack_exprs es))
part_marked old now more es i e less is rest here new later =
    let there = at_drop_more (λ xs. loops_among (pack_exprs xs)) es i e less ∙ ap (λ u. loops_in u ++ loops_among (pack_exprs (drop (i + 1) es))) (sym is) in
    rest new (subst (MarkOn now new) (sym there) (marks_on now more new (loops_in e) (loops_among (pack_exprs (drop (i + 1) es))) here later))

pub parts_marked : (old now : List (Option LaneBody)) (es : List ExprTree) (i : ℕ) → length es ≤ i
    → ((new : List (Option LaneBody)) → MarkOn now new (loops_among (pack_exprs (drop i es))) → MarkOn old new (loops_among (pack_exprs es))) → MarkOn old now (loops_among (pack_exprs es))
parts_marked old now es i h rest = rest now (subst (MarkOn now now) (sym (ap (λ xs. loops_among (pack_exprs xs)) (drop_all i es h))) (no_marks now))

pub leg_marked : (old now more : List (Option LaneBody)) (ls : List Leg) (i : ℕ) (l : Leg) → i < length ls → l ≡ get_or ls i l
    → ((new : List (Option LaneBody)) → MarkOn now new (loops_in_legs (pack_legs (map view_leg (drop i ls)))) → MarkOn old new (loops_in_legs (pack_legs (map view_leg ls)))) → MarkOn now more (loops_in_leg (view_leg l))
    → (new : List (Option LaneBody)) → MarkOn more new (loops_in_legs (pack_legs (map view_leg (drop (i + 1) ls)))) → MarkOn old new (loops_in_legs (pack_legs (map view_leg ls)))
leg_marked old now more ls i l less is rest here new later =
    let there = at_drop_more (λ xs. loops_in_legs (pack_legs (map view_leg xs))) ls i l less
    ∙ ap (λ u. loops_in_leg (view_leg u) ++ loops_in_legs (pack_legs (map view_leg (drop (i + 1) ls)))) (sym is) in
    rest new (subst (MarkOn now new) (sym there) (marks_on now more new (loops_in_leg (view_leg l)) (loops_in_legs (pack_legs (map view_leg (drop (i + 1) ls)))) here later))

pub legs_marked : (old now : List (Option LaneBody)) (ls : List Leg) (i : ℕ) → length ls ≤ i
    → ((new : List (Option LaneBody)) → MarkOn now new (loops_in_legs (pack_legs (map view_leg (drop i ls)))) → MarkOn old new (loops_in_legs (pack_legs (map view_leg ls)))) → MarkOn old now (loops_in_legs (pack_legs (map view_leg ls)))
legs_marked old now ls i h rest = rest now (subst (MarkOn now now) (sym (ap (λ xs. loops_in_legs (pack_legs (map view_leg xs))) (drop_all i ls h))) (no_marks now))

-- ---- where nodes have their types

-- each loop is of a type, and its nodes have theirs
pub record AreTyped (es : List ExprTree) : Type 0 where
  pub each : (ms : List (Option LaneBody)) → AreMarks MayBeMark es ms → AreMarks IsMark es ms

split_marks : (es fs : List ExprTree) (ms : List (Option LaneBody)) → AreMarks MayBeMark (es ++ fs) ms → (xs : List (Option LaneBody)) × (ys : List (Option LaneBody)) × (ms ≡ xs ++ ys) × AreMarks MayBeMark es xs × AreMarks MayBeMark fs ys
split_marks [] fs ms h = ([], ms, refl, tt, h)
split_marks (e ∷ es) fs [] h = absurd h
split_marks (e ∷ es) fs (m ∷ ms) h =
    let w = split_marks es fs ms h.1 in
    (m ∷ w.0, w.1, ap (λ (xs : List (Option LaneBody)). m ∷ xs) w.2, (h.0, w.3), w.4)

typed_append : (es fs : List ExprTree) → AreTyped es → AreTyped fs → AreTyped (es ++ fs)
typed_append es fs p q = record {
  each = λ ms h.
      let w = split_marks es fs ms h in
      subst (AreMarks IsMark (es ++ fs)) (sym w.2) (marks_append IsMark es fs w.0 w.1 (p.each w.0 w.3) (q.each w.1 w.4));
}

typed_none : AreTyped []
typed_none = record { each = none }
  where
    none : (ms : List (Option LaneBody)) → AreMarks MayBeMark [] ms → AreMarks IsMark [] ms
    none [] h = tt
    none (m ∷ ms) h = absurd h

mark_is : (a : At) (ls : LegTrees) (e : ExprTree) (b n x : Binder) (f : ExprTree) (g : Types) (t : TypeTree) (m : Option LaneBody) → HasType (loop a ls e b n x f) g t → AreNoted (loop a ls e b n x f) g → MayBeMark (loop a ls e b n x f) m → IsMark (loop a ls e b n x f) m
mark_is a ls e b n x f g t (Some made) typed noted h = h
mark_is a ls e b n x f g t None typed noted (inl h) = h
mark_is a ls e b n x f g t None typed noted (inr h) = by (has_lane_form (loop a ls e b n x f)) refl
  where
    by : (q : Bool) → has_lane_form (loop a ls e b n x f) ≡ q → has_lane_form (loop a ls e b n x f) ≡ false
    by true is = let w = loop_lowers a ls e b n x f g t is typed noted in absurd (h w.to w.place w.is w.formed w.some)
    by false is = is

typed_loop : (a : At) (ls : LegTrees) (e : ExprTree) (b n x : Binder) (f : ExprTree) (g : Types) (t : TypeTree) (rest : List ExprTree) → HasType (loop a ls e b n x f) g t → AreNoted (loop a ls e b n x f) g → AreTyped rest → AreTyped (loop a ls e b n x f ∷ rest)
typed_loop a ls e b n x f g t rest typed noted q = record { each = both }
  where
    both : (ms : List (Option LaneBody)) → AreMarks MayBeMark (loop a ls e b n x f ∷ rest) ms → AreMarks IsMark (loop a ls e b n x f ∷ rest) ms
    both [] h = absurd h
    both (m ∷ ms) h = (mark_is a ls e b n x f g t m typed noted h.0, q.each ms h.1)

vec_same : (u v : TypeTree) → vec u ≡ vec v → u ≡ v
vec_same u v h = cc

leg_same : (l : LegTree) (g : Types) (u v : TypeTree) → LegHas l g u → LegHas l g v → u ≡ v
leg_same (whole e) g u v h p = vec_same u v (one_type e g (vec u) (vec v) h p)
leg_same (strided e f r s) g u v h p = vec_same u v (one_type e g (vec u) (vec v) h.0 p.0)

legs_same : (ls : LegTrees) (g : Types) (us vs : TypeTrees) → LegsHave ls g us → LegsHave ls g vs → us ≡ vs
legs_same no_legs g no_types no_types h p = refl
legs_same no_legs g no_types (more_types v vs) h p = absurd p
legs_same no_legs g (more_types u us) vs h p = absurd h
legs_same (more_legs l ls) g no_types vs h p = absurd h
legs_same (more_legs l ls) g (more_types u us) no_types h p = absurd p
legs_same (more_legs l ls) g (more_types u us) (more_types v vs) h p = ap (λ (t : TypeTree). more_types t us) (leg_same l g u v h.0 p.0) ∙ ap (more_types v) (legs_same ls g us vs h.1 p.1)

one_row : (us : TypeTrees) (r s : TypeTree) → RowHas us r → RowHas us s → r ≡ s
one_row no_types r s h p = absurd h
one_row (more_types u no_types) r s h p = h ∙ sym p
one_row (more_types u (more_types v us)) r s h p = h ∙ sym p

rows_same : (us vs : TypeTrees) (r s : TypeTree) → us ≡ vs → RowHas us r → RowHas vs s → r ≡ s
rows_same us vs r s e h p = one_row vs r s (subst (λ (ts : TypeTrees). RowHas ts r) e h) p

mutual
  pub loops_typed : (e : ExprTree) (g : Types) (t : TypeTree) → HasType e g t → AreNoted e g → AreTyped (loops_in e)
  loops_typed (leaf a l) g t h n = typed_none
  loops_typed (one a o e) g t h n = loops_typed e g h.0 h.1 n.0
  loops_typed (two a o e f) g t h n = typed_append (loops_in e) (loops_in f) (loops_typed e g h.0 h.2 n.0) (loops_typed f g h.1 h.3 n.1)
  loops_typed (three a o c e f) g t h n =
      typed_append (loops_in c) (loops_in e ++ loops_in f) (loops_typed c g h.0 h.3 n.0) (typed_append (loops_in e) (loops_in f) (loops_typed e g h.1 h.4 n.1) (loops_typed f g h.2 h.5 n.2))
  loops_typed (many a o es) g t h n = all_typed es g h.0 h.1 n.0
  loops_typed (let_in a b e f) g t h n =
      let inner = n.1 in
      let same : inner.0 ≡ h.0 = one_type e g inner.0 h.0 inner.1 h.1 in
      typed_append (loops_in e) (loops_in f) (loops_typed e g h.0 h.1 n.0) (loops_typed f ((b.sym.0, h.0) ∷ g) t h.3 (subst (λ (u : TypeTree). AreNoted f ((b.sym.0, u) ∷ g)) same inner.2))
  loops_typed (loop a ls e b k x f) g t h n =
      let inner = n.2 in
      let same : inner.2 ≡ t = one_type e g inner.2 t inner.5 h.4 in
      let row : inner.1 ≡ h.1 = rows_same inner.0 h.0 inner.1 h.1 (legs_same ls g inner.0 h.0 inner.3 h.2) inner.4 h.3 in
      let body : AreNoted f (body_types b k x t h.1 g) =
      subst (λ (r : TypeTree). AreNoted f (body_types b k x t r g)) row (subst (λ (u : TypeTree). AreNoted f (body_types b k x u inner.1 g)) same inner.6) in
      typed_loop a ls e b k x f g t (loops_in_legs ls ++ (loops_in e ++ loops_in f)) h n
      (typed_append (loops_in_legs ls) (loops_in e ++ loops_in f) (legs_typed ls g h.0 h.2 n.0)
      (typed_append (loops_in e) (loops_in f) (loops_typed e g t h.4 n.1) (loops_typed f (body_types b k x t h.1 g) t h.9 body)))
  loops_typed (iterate a e b f) g t h n =
      let inner = n.1 in
      let same : inner.0 ≡ t = one_type e g inner.0 t inner.1 h.0 in
      typed_append (loops_in e) (loops_in f) (loops_typed e g t h.0 n.0) (loops_typed f ((b.sym.0, t) ∷ g) _ h.3 (subst (λ (u : TypeTree). AreNoted f ((b.sym.0, u) ∷ g)) same inner.2))

  all_typed : (es : ExprTrees) (g : Types) (us : TypeTrees) → HaveTypes es g us → AllAreNoted es g → AreTyped (loops_among es)
  all_typed no_exprs g us h n = typed_none
  all_typed (more_exprs e es) g no_types h n = absurd h
  all_typed (more_exprs e es) g (more_types u us) h n = typed_append (loops_in e) (loops_among es) (loops_typed e g u h.0 n.0) (all_typed es g us h.1 n.1)

  leg_typed : (l : LegTree) (g : Types) (u : TypeTree) → LegHas l g u → LegIsNoted l g → AreTyped (loops_in_leg l)
  leg_typed (whole e) g u h n = loops_typed e g _ h n
  leg_typed (strided e f r s) g u h n =
      typed_append (loops_in e) (loops_in f ++ (loops_in r ++ loops_in s)) (loops_typed e g _ h.0 n.0)
      (typed_append (loops_in f) (loops_in r ++ loops_in s) (loops_typed f g _ h.1 n.1) (typed_append (loops_in r) (loops_in s) (loops_typed r g _ h.2 n.2) (loops_typed s g _ h.3 n.3)))

  legs_typed : (ls : LegTrees) (g : Types) (us : TypeTrees) → LegsHave ls g us → LegsAreNoted ls g → AreTyped (loops_in_legs ls)
  legs_typed no_legs g us h n = typed_none
  legs_typed (more_legs l ls) g no_types h n = absurd h
  legs_typed (more_legs l ls) g (more_types u us) h n = typed_append (loops_in_leg l) (loops_in_legs ls) (leg_typed l g u h.0 n.0) (legs_typed ls g us h.1 n.1)

-- the marks of a program's loops, from the first on
pub all_marked : (e : ExprTree) (g : Types) (t : TypeTree) (new : List (Option LaneBody)) → HasType e g t → AreNoted e g → MarkOn [] new (loops_in e) → AreMarks IsMark (loops_in e) new
all_marked e g t new typed noted m = subst (AreMarks IsMark (loops_in e)) (sym m.is) ((loops_typed e g t typed noted).each m.marks m.each)
