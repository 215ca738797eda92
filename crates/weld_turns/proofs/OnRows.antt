-- Turns on rows that see other names than the state's.
use Rattle.std.proofs.Common.{◌≡◌, ◌≢◌, ℕ, zero, suc, ◌+◌, ◌-◌, ◌/◌, ◌<◌, ◌≤◌, ◌==◌, ◌||◌, ltb, get_or, ◌⊎◌, inl, inr, Bool, true, false, if◌then◌else◌, List, [], ◌∷◌, length, drop, ℤ, pos, Option, Some, None, IfSome, Result, Ok, Err, IfOk, refl, ap, sym, subst, ◌∙◌, eqb-true, arith}
use Rattle.std.proofs.lemmas.Bool.{cases_lt, le-ltb, lt-ltb}
use Rattle.weld_data.specs.declared.kind.Kind.TheVariants as kinds
use Rattle.weld_data.specs.Value.{Value, Values, number, struct, no_values, and_value}
use Rattle.weld_built.specs.Pair.{pair}
use Rattle.weld_builders.specs.Outcome.{Outcome, done, fault, and_then, map_out}
use Rattle.weld_meaning.specs.Environment.{look_for}
use Rattle.weld_meaning.specs.Evaluation.{Env, eval, next_turn, truth_of, turns, turn_limit, value_out}
use Rattle.weld_meaning.specs.Names.{IsFree, AgreeOn}
use Rattle.weld_meaning.specs.Thing.{Thing, plain, building, several}
use Rattle.weld_meaning.proofs.Names.{agree_bind, eval_free}
use Rattle.weld_tree.specs.ExprTree.{ExprTree}
use Rattle.weld_tree.specs.declared.sym.Sym.{Sym}
use Rattle.weld_eval.specs.declared.thing.Held.{Held}
use Rattle.weld_data.specs.declared.stop.Stop.{Stop}
use Rattle.weld_eval.specs.Answers.{Answers}
use Rattle.weld_eval.specs.ThingView.{held_of}
use Rattle.weld_turns.specs.States.{IsState, StepsRunOn}
use Rattle.weld_turns.specs.CodeView.{Slots, field_values, shape_value, slot_limit}
use Rattle.weld_turns.specs.Lowering.{Lowers, Meaning, settle, settled}
use Rattle.weld_turns.specs.OnRows.{has_name, most_words, placed, site_from, state_of, state_site, words_for, EndsWith, HasNumbers, HasWords, IsFollowedWith, IsOfTwo, IsSeen, MeansBody, Stand}
use Rattle.weld_turns.specs.declared.code.Named.{Named}
use Rattle.weld_turns.specs.declared.code.Seen.{Seen}
use Rattle.weld_turns.specs.declared.code.Seen.TheVariants as seen
use Rattle.weld_turns.specs.declared.code.Site.{Site}
use Rattle.weld_turns.specs.declared.code.Site.TheVariants as sites
use Rattle.weld_turns.specs.Scopes.{with_scope, fields_in, is_odd, put_fields, room_of, site_value, whole_of, Sites, TurnMeans}
use Rattle.weld_turns.specs.StepView.{Words, shown, step_value, with_word, words_of}
use Rattle.weld_turns.specs.declared.code.Place.{Place}
use Rattle.weld_turns.specs.declared.code.Shape.{Shape}
use Rattle.weld_turns.specs.declared.code.Shape.TheVariants.{One, Fields}
use Rattle.weld_turns.specs.declared.code.Turn.{Turn}
use Rattle.weld_turns.specs.declared.code.Unmade.{Unmade}
use Rattle.weld_turns.specs.declared.step.Step.{Step}
use Rattle.weld_turns.proofs.LowerLemmas.{with_other, with_same}
use Rattle.weld_turns.proofs.Making.{out_in}
use Rattle.weld_turns.proofs.Shapes.{same_state}
use Rattle.weld_turns.specs.States.{next_of}
use Rattle.weld_turns.proofs.States.{next_by, settled_next, unrolled}

-- ---- the names of a row

-- the slots that have the words, and past them what the names stand for on a row
abbrev thing_value : Option Thing → Value
thing_value None = number kinds.Bool (pos 0)
thing_value (Some (plain v)) = v
thing_value (Some (building p)) = number kinds.Bool (pos 0)
thing_value (Some (several ts)) = number kinds.Bool (pos 0)

abbrev shown_on : Words → Env → Slots
shown_on w row i = if ltb i slot_limit then number kinds.I64 (w i) else thing_value (look_for (i - slot_limit) row)

shown_below : (w : Words) (row : Env) (i : ℕ) → i < slot_limit → shown_on w row i ≡ number kinds.I64 (w i)
shown_below w row i h = ap (λ (b : Bool). if b then number kinds.I64 (w i) else thing_value (look_for (i - slot_limit) row)) (lt-ltb i slot_limit h)

shown_past : (w : Words) (row : Env) (s : ℕ) (vs : Values) → look_for s row ≡ Some (plain (struct vs)) → whole_of (shown_on w row) s ≡ vs
shown_past w row s vs is =
    ap (λ (b : Bool). fields_in (if b then number kinds.I64 (w (slot_limit + s)) else thing_value (look_for ((slot_limit + s) - slot_limit) row))) (le-ltb (slot_limit + s) slot_limit (omega arith))
    ∙ ap (λ (i : ℕ). fields_in (thing_value (look_for i row))) (omega arith) ∙ ap (λ (o : Option Thing). fields_in (thing_value o)) is

-- each name stands on the row for what stands there
abbrev AllStand : Sites → Slots → Env → Type 0
AllStand [] f row = Unit {0}
AllStand (n ∷ ns) f row = (look_for n.0 row ≡ Some (plain (site_value n.1 f))) × AllStand ns f row

found_there : (n : ℕ) (ns : Sites) (f : Slots) (row env : Env) → AllStand ns f row → (look_for n ns ≡ None → look_for n row ≡ look_for n env) → look_for n row ≡ look_for n (with_scope ns f env)
found_there n [] f row env all other = other refl
found_there n (m ∷ ns) f row env all other = by (n == m.0) refl (found_there n ns f row env all.1)
  where
    later : Env
    later = with_scope ns f env

    by : (b : Bool) → (n == m.0) ≡ b → ((look_for n ns ≡ None → look_for n row ≡ look_for n env) → look_for n row ≡ look_for n later) → look_for n row ≡ (if b then Some (plain (site_value m.1 f)) else look_for n later)
    by true e rest = ap (λ (i : ℕ). look_for i row) (eqb-true n m.0 e) ∙ all.0
    by false e rest = rest (λ q. other (ap (λ (b : Bool). if b then Some m.1 else look_for n ns) e ∙ q))

-- the values that have the numbers are those that stand in the slots
fields_stand : (n bits at first : ℕ) (xs : List ℤ) (f : Slots) (vs : Values) → ((k : ℕ) → at ≤ k → k < at + n → f (first + k) ≡ number kinds.I64 (words_of xs k)) → HasNumbers n bits at xs vs → vs ≡ put_fields n bits (first + at) f vs
fields_stand zero bits at first xs f vs h has = refl
fields_stand (suc n) bits at first xs f no_values h has = absurd has
fields_stand (suc n) bits at first xs f (and_value v vs) h has =
    let next : first + suc at ≡ suc (first + at) = omega arith in
    (λ i. and_value (here (is_odd bits) has.0 i) ((fields_stand n (bits / 2) (suc at) first xs f vs (λ k less more. h k (omega (arith, less)) (omega (arith, more))) has.1 ∙ ap (λ (j : ℕ). put_fields n (bits / 2) j f vs) next) i))
  where
    here : (b : Bool) → (b ≡ true → v ≡ number kinds.I64 (words_of xs at)) → v ≡ (if b then f (first + at) else v)
    here true is = is refl ∙ sym (h at (omega arith) (omega arith))
    here false is = refl

stand_within : (names : List Named) (at : ℕ) (xs : List ℤ) (row : Env) → Stand names at xs row → at ≤ length xs
stand_within [] at xs row is = omega (arith, is)
stand_within (s ∷ ss) at xs row is = let rest : at + words_for s.seen ≤ length xs = stand_within ss (at + words_for s.seen) xs row is.1 in omega (arith, rest)

seen_stands : (name : Sym) (s : Seen) (first at : ℕ) (xs : List ℤ) (w : Words) (row : Env) → first ≤ 255 → at + words_for s ≤ length xs → length xs ≤ most_words → HasWords first xs w → IsSeen s at xs (look_for name.0 row)
    → look_for name.0 row ≡ Some (plain (site_value (site_from name s (first + at)) (shown_on w row)))
seen_stands name seen.Number first at xs w row low room few has is =
    is ∙ ap (λ (v : Value). Some (plain v)) (ap (number kinds.I64) (sym (has at (omega (arith, room)))) ∙ sym (shown_below w row (first + at) (omega (arith, low, room, few))))
seen_stands name (seen.Fields n bits) first at xs w row low room few has is =
    is.1 ∙ ap (λ (vs : Values). Some (plain (struct vs)))
    (fields_stand n bits at first xs (shown_on w row) is.0 (λ k less more. shown_below w row (first + k) (omega (arith, low, more, room, few)) ∙ ap (number kinds.I64) (has k (omega (arith, more, room)))) is.2
    ∙ ap (put_fields n bits (first + at) (shown_on w row)) (sym (shown_past w row name.0 is.0 is.1)))

all_stand : (names : List Named) (first at : ℕ) (xs : List ℤ) (w : Words) (row : Env) (ns : Sites) → first ≤ 255 → length xs ≤ most_words → HasWords first xs w → Stand names at xs row → AllStand ns (shown_on w row) row
    → AllStand (placed names (first + at) ns) (shown_on w row) row
all_stand [] first at xs w row ns low few has is all = all
all_stand (s ∷ ss) first at xs w row ns low few has is all =
    subst (λ (i : ℕ). AllStand (placed ss i ((s.name.0, site_from s.name s.seen (first + at)) ∷ ns)) (shown_on w row) row) (omega arith)
    (all_stand ss first (at + words_for s.seen) xs w row ((s.name.0, site_from s.name s.seen (first + at)) ∷ ns) low few has is.1
    (seen_stands s.name s.seen first at xs w row low (stand_within ss (at + words_for s.seen) xs row is.1) few has is.0, all))

none_placed : (names : List Named) (at n : ℕ) (ns : Sites) → look_for n (placed names at ns) ≡ None → (has_name n names ≡ false) × (look_for n ns ≡ None)
none_placed [] at n ns is = (refl, is)
none_placed (s ∷ ss) at n ns is =
    let rest : (has_name n ss ≡ false) × ((if n == s.name.0 then Some (site_from s.name s.seen at) else look_for n ns) ≡ None) = none_placed ss (at + words_for s.seen) n ((s.name.0, site_from s.name s.seen at) ∷ ns) is in
    by (n == s.name.0) refl rest.0 rest.1
  where
    by : (b : Bool) → (n == s.name.0) ≡ b → has_name n ss ≡ false → (if b then Some (site_from s.name s.seen at) else look_for n ns) ≡ None → ((b || has_name n ss) ≡ false) × (look_for n ns ≡ None)
    by true e has q = let none : ⊥ = cc in absurd none
    by false e has q = (has, q)

shown_state : (shape : Shape) (w : Words) (row : Env) → room_of shape ≤ 255 → shape_value shape 0 (shown_on w row) ≡ shape_value shape 0 (shown w)
shown_state shape w row low = same_state shape (shown w) (shown_on w row) (λ j less. shown_below w row j (omega (arith, low, less)))

behind_state : (names : List Named) (shape : Shape) (xs : List ℤ) (w : Words) (row : Env) → room_of shape ≤ 255 → length xs ≤ most_words → HasWords (room_of shape) xs w → Stand names 0 xs row → AllStand (placed names (room_of shape) []) (shown_on w row) row
behind_state names shape xs w row low few has stand =
    let here : room_of shape + 0 ≡ room_of shape = omega arith in
    subst (λ (i : ℕ). AllStand (placed names i []) (shown_on w row) row) here (all_stand names (room_of shape) 0 xs w row [] low few has stand tt)

pub means_body : (t : Turn) (st : Step) (whole : Meaning) (shape : Shape) (s : ℕ) (e : ExprTree) (names : List Named) (env : Env) → room_of shape ≤ 255 → TurnMeans t shape ((s, state_site shape) ∷ placed names (room_of shape) []) env (eval e)
    → whole ≡ settled t → Lowers shape st whole → MeansBody st shape s e names env
means_body t st whole shape s e names env low means is lowers row xs few stand others w has =
    let f : Slots = shown_on w row in
    let behind : Env = with_scope (placed names (room_of shape) []) f env in
    let state : Value = shape_value shape 0 f in
    let same_state : state ≡ shape_value shape 0 (shown w) = shown_state shape w row low in
    let agree : AgreeOn (λ n. IsFree e n × (n ≢ s)) row behind =
    record { agree = λ n g. found_there n (placed names (room_of shape) []) f row env (behind_state names shape xs w row low few has stand) (λ q. others.agree n (g.0, g.1, (none_placed names (room_of shape) n [] q).0)) } in
    let same : eval e ((s, plain state) ∷ row) ≡ eval e ((s, plain state) ∷ behind) =
    eval_free e ((s, plain state) ∷ row) ((s, plain state) ∷ behind) (agree_bind (λ n. IsFree e n × (n ≢ s)) (IsFree e) s (plain state) row behind (λ n g ne. (g, ne)) agree) in
    ap (λ (v : Value). and_then (next_of s e row v) settle) (sym same_state)
    ∙ ap (λ (o : Outcome Thing). and_then (value_out o) settle) (same ∙ means f)
    ∙ ap (λ (o : Outcome Value). and_then o settle) (out_in _)
    ∙ ap (λ (m : Meaning). m shape f) (sym is) ∙ lowers f w (λ i h. shown_below w row i (omega (arith, h)))

-- ---- the places of the names

pub all_placed : (t : Turn) (names : List Named) (shape : Shape) (s i at : ℕ) (p : Place) (ns all : Sites) (e : ExprTree) (env : Env) → p.first ≡ 0 → p.shape ≡ shape → length names ≤ i → all ≡ (s, sites.Whole p) ∷ ns
    → TurnMeans t shape all env (eval e) → TurnMeans t shape ((s, state_site shape) ∷ placed (drop i names) at ns) env (eval e)
all_placed t names shape s i at p ns all e env first same none more h =
    let here : p ≡ record { shape = shape; first = 0 } = (λ j. record { shape = same j; first = first j }) in
    subst (λ (ms : Sites). TurnMeans t shape ms env (eval e)) (more ∙ (λ j. (s, sites.Whole (here j)) ∷ placed (sym (drop_all i names none) j) at ns)) h
  where
    drop_all : (k : ℕ) (ss : List Named) → length ss ≤ k → drop k ss ≡ []
    drop_all zero [] less = refl
    drop_all zero (x ∷ ss) less = absurd (omega (arith, less))
    drop_all (suc k) [] less = refl
    drop_all (suc k) (x ∷ ss) less = drop_all k ss (omega (arith, less))

drop_step : (names : List Named) (i : ℕ) (s : Named) → i < length names → s ≡ get_or names i s → drop i names ≡ s ∷ drop (suc i) names
drop_step [] i s less e = absurd (omega (arith, less))
drop_step (x ∷ xs) zero s less e = ap (λ (y : Named). y ∷ xs) (sym e)
drop_step (x ∷ xs) (suc i) s less e = drop_step xs i s (omega (arith, less)) e

pub one_placed : (t : Turn) (names : List Named) (shape : Shape) (s i at next : ℕ) (seen : Named) (site : Site) (ns all : Sites) (e : ExprTree) (env : Env) → i < length names → seen ≡ get_or names i seen → site ≡ site_from seen.name seen.seen at → next ≡ at + words_for seen.seen → all ≡ (seen.name.0, site) ∷ ns
    → TurnMeans t shape ((s, state_site shape) ∷ placed (drop (i + 1) names) next all) env (eval e) → TurnMeans t shape ((s, state_site shape) ∷ placed (drop i names) at ns) env (eval e)
one_placed t names shape s i at next seen site ns all e env less is there after more h =
    let step : drop i names ≡ seen ∷ drop (suc i) names = drop_step names i seen less is in
    let one_more : i + 1 ≡ suc i = omega arith in
    subst (λ (ms : Sites). TurnMeans t shape ((s, state_site shape) ∷ ms) env (eval e))
    (ap (λ (k : ℕ). placed (drop k names) next all) one_more
    ∙ (λ j. placed (drop (suc i) names) (after j) ((more ∙ ap (λ (q : Site). (seen.name.0, q) ∷ ns) there) j))
    ∙ ap (λ (ms : List Named). placed ms at ns) (sym step)) h

-- ---- the turns

abbrev IsKept : Shape → Words → Words → Type 0
IsKept shape w u = (i : ℕ) → i < room_of shape → u i ≡ w i

kept_state : (shape : Shape) (w u : Words) → IsKept shape w u → shape_value shape 0 (shown u) ≡ shape_value shape 0 (shown w)
kept_state shape w u kept = same_state shape (shown w) (shown u) (λ j less. ap (number kinds.I64) (kept j less))

words_state : (shape : Shape) (w : Words) (x y : ℤ) → IsOfTwo shape → w 0 ≡ x → w 1 ≡ y → shape_value shape 0 (shown w) ≡ state_of shape x y
words_state One w x y two a b = ap (number kinds.I64) a
words_state (Fields n) w x y two a b = ap (λ (m : ℕ). struct (field_values m 0 (shown w))) two ∙ (λ i. pair (number kinds.I64 (a i)) (number kinds.I64 (b i)))

pub one_more : (w u : Words) (at k : ℕ) (x : ℤ) (xs : List ℤ) → done u ≡ done (with_word w (at + k) x) → x ≡ words_of xs k → ((j : ℕ) → j < k → w (at + j) ≡ words_of xs j) → (j : ℕ) → j < k + 1 → u (at + j) ≡ words_of xs j
one_more w u at k x xs e is before j less = by (cases_lt j k)
  where
    same : u ≡ with_word w (at + k) x
    same = cc

    by : (j < k) ⊎ (k ≤ j) → u (at + j) ≡ words_of xs j
    by (inl h) = ap (λ (z : Words). z (at + j)) same ∙ with_other w (at + k) (at + j) x (λ q. omega (arith, q, h)) ∙ before j h
    by (inr h) = let last : j ≡ k = omega (arith, h, less) in ap (λ (i : ℕ). u (at + i)) last ∙ ap (λ (z : Words). z (at + k)) same ∙ with_same w (at + k) x ∙ is ∙ ap (words_of xs) (sym last)

pub one_kept : (w u z : Words) (at k : ℕ) (x : ℤ) → done u ≡ done (with_word w (at + k) x) → ((i : ℕ) → i < at → w i ≡ z i) → (i : ℕ) → i < at → u i ≡ z i
one_kept w u z at k x e before i less =
    let same : u ≡ with_word w (at + k) x = cc in
    ap (λ (v : Words). v i) same ∙ with_other w (at + k) i x (λ q. omega (arith, q, less)) ∙ before i less

-- a turn from these words, the names put behind the state again
pub stepped_with : (t : Step) (shape : Shape) (xs : List ℤ) (w u z : Words) (g : Value → Outcome Value) (i : ℕ) (v : Value) (b : Bool) → i < 1000000 → IsFollowedWith t shape xs g → HasWords (room_of shape) xs u → IsKept shape w u
    → step_value t shape u ≡ done (pair (shape_value shape 0 (shown z)) v) → truth_of v ≡ done b
    → turns (turn_limit - i) (shape_value shape 0 (shown w)) g ≡ (if b then turns (turn_limit - (i + 1)) (shape_value shape 0 (shown z)) g else done (shape_value shape 0 (shown z)))
stepped_with t shape xs w u z g i v b h is has kept e q =
    let go : Value → Outcome Value = λ (state : Value). turns (turn_limit - (i + 1)) state g in
    ap (λ (s : Value). turns (turn_limit - i) s g) (sym (kept_state shape w u kept))
    ∙ unrolled i (shape_value shape 0 (shown u)) g h ∙ settled_next (g (shape_value shape 0 (shown u))) go
    ∙ ap (λ (o : Outcome Value). and_then o (λ x. next_turn x go)) (is u has ∙ e)
    ∙ next_by (shape_value shape 0 (shown z)) v b go q

-- a turn that faults
pub fault_with : (t : Step) (shape : Shape) (xs : List ℤ) (w u : Words) (g : Value → Outcome Value) (i : ℕ) → i < 1000000 → IsFollowedWith t shape xs g → HasWords (room_of shape) xs u → IsKept shape w u → step_value t shape u ≡ fault → turns (turn_limit - i) (shape_value shape 0 (shown w)) g ≡ fault
fault_with t shape xs w u g i h is has kept e =
    let go : Value → Outcome Value = λ (state : Value). turns (turn_limit - (i + 1)) state g in
    ap (λ (s : Value). turns (turn_limit - i) s g) (sym (kept_state shape w u kept))
    ∙ unrolled i (shape_value shape 0 (shown u)) g h ∙ settled_next (g (shape_value shape 0 (shown u))) go
    ∙ ap (λ (o : Outcome Value). and_then o (λ x. next_turn x go)) (is u has ∙ e)

pub means_ok : (r : Result Step Unmade) (t : Turn) (shape : Shape) (s : ℕ) (e : ExprTree) (names : List Named) (env : Env) → room_of shape ≤ 255 → TurnMeans t shape ((s, state_site shape) ∷ placed names (room_of shape) []) env (eval e)
    → IfOk r (λ st. Lowers shape st (settled t)) → IfOk r (λ st. MeansBody st shape s e names env)
means_ok (Ok st) t shape s e names env low means h = means_body t st (settled t) shape s e names env low means refl h
means_ok (Err u) t shape s e names env low means h = tt

pub ends_some : (r : Option (ℤ × ℤ)) (t : Step) (shape : Shape) (xs : List ℤ) (w u : Words) (x y : ℤ) → IsOfTwo shape → w 0 ≡ x → w 1 ≡ y → IfSome r (λ p. u 0 ≡ p.0) → IfSome r (λ p. u 1 ≡ p.1)
    → ((g : Value → Outcome Value) → IsFollowedWith t shape xs g → turns (turn_limit - 0) (shape_value shape 0 (shown w)) g ≡ done (shape_value shape 0 (shown u))) → IfSome r (λ p. EndsWith t shape xs (state_of shape x y) (state_of shape p.0 p.1))
ends_some None t shape xs w u x y two a b c d ends = tt
ends_some (Some p) t shape xs w u x y two a b c d ends = λ g is.
    ap (λ (v : Value). turns turn_limit v g) (sym (words_state shape w x y two a b)) ∙ ap (λ (n : ℕ). turns n (shape_value shape 0 (shown w)) g) whole ∙ ends g is ∙ ap done (words_state shape u p.0 p.1 two c d)
  where
    whole : turn_limit ≡ turn_limit - 0
    whole = omega arith

-- ---- the turns behind the first ones, which see no other names

pub ended_on : (o : Option (Result Held Stop)) (t : Step) (shape : Shape) (xs : List ℤ) (w u : Words) (left : ℕ) → ((g : Value → Outcome Value) → IsFollowedWith t shape xs g → turns left (shape_value shape 0 (shown w)) g ≡ done (shape_value shape 0 (shown u)))
    → IfSome o (λ r. IsState r shape (shown u)) → IfSome o (λ r. StepsRunOn r t shape w left)
ended_on None t shape xs w u left ends state = tt
ended_on (Some r) t shape xs w u left ends state = λ g is. subst (λ (p : Outcome Value). Answers held_of r (map_out plain p)) (sym (ends g (λ v has. is v))) state
