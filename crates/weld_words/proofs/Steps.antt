-- One word, as clap's walk reads it and as the parts do.
use Rattle.std.proofs.Common.{◌≡◌, ◌∙◌, ℕ, Bool, cond, true, false, refl, sym, ap, ap₂, subst, List, [], ◌∷◌, ◌++◌, map, Option, Some, None}
use Rattle.std.specs.Prelude.{◌||◌, ◌&&◌, not, codes, option_and_then, option_map}
use Rattle.std.specs.Str.{bytes_eq}
use Rattle.std.specs.Option.{option_map_or}
use Rattle.clap.specs.Lexer.{long_of, short_of}
use Rattle.clap.specs.Walk.{Held, Rule, Row, Text, Walk, Waiting, idle, option, Step, trailing, has_row, used, settled, settled_rows, value, is_pending, pushed, arg_by_long, after_step, long_met, long_or_other, long_word, after_flag, short_or_plain, plain_word, walked, word_met}
use Rattle.clap.specs.Faults.{use_fault, settle_fault, bundle_fault, react_fault, turn_fault, flag_word_fault, long_fault, step_fault}
use Rattle.clap.specs.Kinds.{Kinds, or_else}
use Rattle.weld_words.specs.Words.{Name, workers, cut, seed, rows, name_text, Part, word, valued, report, IsPlain}
use Rattle.weld_words.proofs.Built.{filled_value, filled_word, filled_option, filled_report, rules, shape, by_name, by_long, Flag, named, asks, rule_for, flag_named}
use Rattle.weld_words.proofs.Rows.{id_of, value_in, row_for, rows_for, add, Uses, word_use, option_use, report_use, empty_use}

-- ---- the parts so far, and what waits

-- nothing; a part that the next word or the end adds; an option whose value is the next word
pub data Pend : Type 0 where
  free : Pend
  given : Name → Text → Pend
  said : Text → Pend
  opened : Name → Pend

pub record State : Type 0 where
  pub parts : List Part
  pub pend : Pend
  pub has_word : Bool

abbrev pub settle : List Part → Pend → Option (List Part)
settle ps free = Some ps
settle ps (given n t) = add (valued n t) ps
settle ps (said w) = add (word w) ps
settle ps (opened n) = None

abbrev pub set_parts : Pend → Bool → List Part → State
set_parts p b ps = record { parts = ps; pend = p; has_word = b }

abbrev pub long_step : State → Option Flag → Option Text → Option State
long_step s None v = None
long_step s (Some (named n)) (Some t) = option_map (set_parts free s.has_word) (option_and_then (add (valued n t)) (settle s.parts s.pend))
long_step s (Some (named n)) None = option_map (set_parts (opened n) s.has_word) (settle s.parts s.pend)
long_step s (Some asks) (Some t) = None
long_step s (Some asks) None = option_map (set_parts free s.has_word) (option_and_then (add report) (settle s.parts s.pend))

abbrev pub word_step : Bool → Option (List Part) → Text → Option State
word_step true o w = None
word_step false o w = option_map (set_parts (said w) true) o

abbrev pub plain_step : List Part → Pend → Bool → Text → Option State
plain_step ps (opened n) b w = Some (set_parts (given n w) b ps)
plain_step ps free b w = word_step b (settle ps free) w
plain_step ps (given n t) b w = word_step b (settle ps (given n t)) w
plain_step ps (said v) b w = word_step b (settle ps (said v)) w

abbrev pub step_by : State → Option (Text × Option Text) → Text → Option State
step_by s (Some p) w = long_step s (flag_named p.0) p.1
step_by s None w = plain_step s.parts s.pend s.has_word w

abbrev pub step : State → Text → Option State
step s w = step_by s (long_of w) w

-- ---- where clap's walk stands

abbrev pub pending_for : Pend → Option (Text × List Text)
pending_for free = None
pending_for (given n t) = Some (name_text n, t ∷ [])
pending_for (said w) = Some (codes "command", w ∷ [])
pending_for (opened n) = Some (name_text n, [])

abbrev pub waiting_for : Pend → Waiting
waiting_for free = idle
waiting_for (given n t) = idle
waiting_for (said w) = idle
waiting_for (opened n) = option (name_text n)

abbrev pub position_for : Bool → ℕ
position_for true = 2
position_for false = 1

abbrev pub held_with : List Row → Option (Text × List Text) → Held
held_with rs p = record { rows = rs; pending = p; skip = 0 }

abbrev pub held_for : List Part → Pend → Held
held_for ps p = held_with (rows_for ps) (pending_for p)

abbrev pub walk_for : State → Walk
walk_for s = record { held = held_for s.parts s.pend; waiting = waiting_for s.pend; position = position_for s.has_word; is_trailing = false; stopped = None }

-- ---- what waits is added

abbrev pub Settles : Option (List Part) → Held → Type 0
Settles None h = settle_fault rules false h ≡ [] → ⊥
Settles (Some ps) h = (settle_fault rules false h ≡ []) × (settled_rows rules h.pending h.rows ≡ rows_for ps)

settled_value : (n : Name) (t : Text) (ps : List Part) (o : Option (List Part)) → Uses o (rows_for ps) (filled_option n) (t ∷ []) → Settles o (held_with (rows_for ps) (Some (name_text n, t ∷ [])))
settled_value workers t ps None u = u
settled_value workers t ps (Some qs) u = u
settled_value cut t ps None u = u
settled_value cut t ps (Some qs) u = u
settled_value seed t ps None u = u
settled_value seed t ps (Some qs) u = u
settled_value rows t ps None u = u
settled_value rows t ps (Some qs) u = u

settled_word : (w : Text) (ps : List Part) (o : Option (List Part)) → Uses o (rows_for ps) filled_word (w ∷ []) → Settles o (held_with (rows_for ps) (Some (codes "command", w ∷ [])))
settled_word w ps None u = u
settled_word w ps (Some qs) u = u

pub settles : (ps : List Part) (p : Pend) → Settles (settle ps p) (held_for ps p)
settles ps free = (refl, refl)
settles ps (given n t) = settled_value n t ps (add (valued n t) ps) (option_use n t ps)
settles ps (said w) = settled_word w ps (add (word w) ps) (word_use w ps)
settles ps (opened workers) = λ f. cc
settles ps (opened cut) = λ f. cc
settles ps (opened seed) = λ f. cc
settles ps (opened rows) = λ f. cc

-- ---- faults one after another

pub first_none : (a b : Kinds) → or_else a b ≡ [] → a ≡ []
first_none [] b f = refl
first_none (k ∷ ks) b f = f

pub second_none : (a b : Kinds) → or_else a b ≡ [] → b ≡ []
second_none [] b f = f
second_none (k ∷ ks) b f = cc

pub both_none : (a b : Kinds) → a ≡ [] → b ≡ [] → or_else a b ≡ []
both_none a b e f = rw e f

-- ---- what waits is added, and then a part

abbrev pub Reacts : Option (List Part) → Held → Rule → List Text → Type 0
Reacts None h a vs = react_fault rules false a vs h ≡ [] → ⊥
Reacts (Some ps) h a vs = (react_fault rules false a vs h ≡ []) × (used a vs (settled_rows rules h.pending h.rows) ≡ rows_for ps)

reacts_at : (ps : List Part) (h : Held) (a : Rule) (vs : List Text) (o : Option (List Part)) → settle_fault rules false h ≡ [] → settled_rows rules h.pending h.rows ≡ rows_for ps → Uses o (rows_for ps) a vs → Reacts o h a vs
reacts_at ps h a vs None e r u = λ f. u (ap (use_fault false a vs) (sym r) ∙ second_none (settle_fault rules false h) _ f)
reacts_at ps h a vs (Some qs) e r u = (
  both_none (settle_fault rules false h) _ e (ap (use_fault false a vs) r ∙ u.0),
  ap (used a vs) r ∙ u.1,
)

pub reacts : (p : Part) (h : Held) (a : Rule) (vs : List Text) (o : Option (List Part)) → Settles o h → ((ps : List Part) → Uses (add p ps) (rows_for ps) a vs) → Reacts (option_and_then (add p) o) h a vs
reacts p h a vs None s u = λ f. s (first_none (settle_fault rules false h) _ f)
reacts p h a vs (Some ps) s u = reacts_at ps h a vs (add p ps) s.0 s.1 (u ps)

-- ---- one word

abbrev pub Follows : Option State → State → Kinds → Walk → Type 0
Follows None s f w = f ≡ [] → ⊥
Follows (Some t) s f w = (f ≡ []) × (w ≡ walk_for t)

abbrev walk_with : Waiting → Bool → Held → Walk
walk_with waiting b h = record { held = h; waiting = waiting; position = position_for b; is_trailing = false; stopped = None }

-- the rest of a turn, once it is known whether the word is two hyphens and whether it is long
abbrev met_by : Waiting → Bool → Text → Held → Bool → Option (Text × Option Text) → Held × Step
met_by waiting b w h dashes long = cond dashes (h, trailing (position_for b)) (long_or_other rules waiting w long h)

abbrev fault_by : Waiting → Bool → Text → Held → Bool → Option (Text × Option Text) → Kinds
fault_by waiting b w h dashes long =
    or_else (cond dashes [] (flag_word_fault rules false long w h)) (step_fault shape (position_for b) (met_by waiting b w h dashes long).0 (met_by waiting b w h dashes long).1)

abbrev walked_by : Waiting → Bool → Text → Held → Bool → Option (Text × Option Text) → Walk
walked_by waiting b w h dashes long =
    after_step rules w (walk_with waiting b h) (met_by waiting b w h dashes long).0 (met_by waiting b w h dashes long).1

-- a long word, by the argument that it names
abbrev long_fault_by : Waiting → Bool → Text → Held → Option Text → Option Rule → Kinds
long_fault_by waiting b w h v r =
    or_else (long_fault rules false r v h) (step_fault shape (position_for b) (after_flag rules waiting w (long_met rules r v h).0 (long_met rules r v h).1).0 (after_flag rules waiting w (long_met rules r v h).0 (long_met rules r v h).1).1)

abbrev long_walked_by : Waiting → Bool → Text → Held → Option Text → Option Rule → Walk
long_walked_by waiting b w h v r =
    after_step rules w (walk_with waiting b h) (after_flag rules waiting w (long_met rules r v h).0 (long_met rules r v h).1).0 (after_flag rules waiting w (long_met rules r v h).0 (long_met rules r v h).1).1

reacted_walk : (s : State) (w : Text) (waiting : Waiting) (a : Rule) (vs : List Text) (o : Option (List Part)) → Reacts o (held_for s.parts s.pend) a vs
    → Follows (option_map (set_parts free s.has_word) o) s (or_else (react_fault rules false a vs (held_for s.parts s.pend)) []) (walk_with idle s.has_word (held_with (used a vs (settled_rows rules (pending_for s.pend) (rows_for s.parts))) None))
reacted_walk s w waiting a vs None r = λ f. r (first_none (react_fault rules false a vs (held_for s.parts s.pend)) [] f)
reacted_walk s w waiting a vs (Some ps) r = (
  both_none (react_fault rules false a vs (held_for s.parts s.pend)) [] r.0 refl,
  ap (λ (rs : List Row). walk_with idle s.has_word (held_with rs None)) r.1,
)

opened_walk : (s : State) (w : Text) (n : Name) (o : Option (List Part)) → Settles o (held_for s.parts s.pend)
    → Follows (option_map (set_parts (opened n) s.has_word) o) s (or_else (settle_fault rules false (held_for s.parts s.pend)) []) (walk_with (option (name_text n)) s.has_word (held_with (settled_rows rules (pending_for s.pend) (rows_for s.parts)) (Some (name_text n, []))))
opened_walk s w n None r = λ f. r (first_none (settle_fault rules false (held_for s.parts s.pend)) [] f)
opened_walk s w n (Some ps) r = (
  both_none (settle_fault rules false (held_for s.parts s.pend)) [] r.0 refl,
  ap (λ (rs : List Row). walk_with (option (name_text n)) s.has_word (held_with rs (Some (name_text n, [])))) r.1,
)

long_follows : (s : State) (w : Text) (waiting : Waiting) (o : Option Flag) (v : Option Text)
    → Follows (long_step s o v) s (long_fault_by waiting s.has_word w (held_for s.parts s.pend) v (option_map rule_for o)) (long_walked_by waiting s.has_word w (held_for s.parts s.pend) v (option_map rule_for o))
long_follows s w waiting None v = λ f. cc
long_follows s w waiting (Some (named n)) (Some t) =
    reacted_walk s w waiting (filled_option n) (t ∷ []) (option_and_then (add (valued n t)) (settle s.parts s.pend)) (reacts (valued n t) (held_for s.parts s.pend) (filled_option n) (t ∷ []) (settle s.parts s.pend) (settles s.parts s.pend) (option_use n t))
long_follows s w waiting (Some (named n)) None = opened_walk s w n (settle s.parts s.pend) (settles s.parts s.pend)
long_follows s w waiting (Some asks) (Some t) = λ f. cc
long_follows s w waiting (Some asks) None =
    reacted_walk s w waiting filled_report [] (option_and_then (add report) (settle s.parts s.pend)) (reacts report (held_for s.parts s.pend) filled_report [] (settle s.parts s.pend) (settles s.parts s.pend) report_use)

-- a word that isn't long, where its letters behind one hyphen are `short`
abbrev short_fault_by : Waiting → Bool → Text → Held → Option Text → Kinds
short_fault_by waiting b w h short =
    or_else (option_map_or (λ flags. bundle_fault rules false flags h) short [])
    (step_fault shape (position_for b) (short_or_plain rules waiting w short h).0 (short_or_plain rules waiting w short h).1)

abbrev short_walked_by : Waiting → Bool → Text → Held → Option Text → Walk
short_walked_by waiting b w h short =
    after_step rules w (walk_with waiting b h) (short_or_plain rules waiting w short h).0 (short_or_plain rules waiting w short h).1

unless : {X : Type 0} (b : Bool) (x y : X) → cond (b && false) x y ≡ y
unless true x y = refl
unless false x y = refl

word_walk : (s : State) (w : Text) (h : Held) (o : Option (List Part)) → h.skip ≡ 0 → Settles o h → (b : Bool) → Follows (word_step b o w) s (step_fault shape (position_for b) h value) (after_step rules w (walk_with idle b h) h value)
word_walk s w h o z e true = λ f. cc
word_walk s w h None z e false = λ f. e (sym (unless (is_pending filled_word h.pending) [] (settle_fault rules false h)) ∙ f)
word_walk s w h (Some ps) z e false = (
  unless (is_pending filled_word h.pending) [] (settle_fault rules false h) ∙ e.0,
  ap (λ (k : Held). record { held = pushed (codes "command") w k; waiting = idle; position = 2; is_trailing = false; stopped = None }) (unless (is_pending filled_word h.pending) h (settled rules h))
      ∙ ap₂ (λ (rs : List Row) (n : ℕ). record { held = record { rows = rs; pending = Some (codes "command", w ∷ []); skip = n }; waiting = idle; position = 2; is_trailing = false; stopped = None }) e.1 z,
)

plain_follows : (ps : List Part) (p : Pend) (b : Bool) (w : Text) → Follows (plain_step ps p b w) (set_parts p b ps) (short_fault_by (waiting_for p) b w (held_for ps p) None) (short_walked_by (waiting_for p) b w (held_for ps p) None)
plain_follows ps free b w = word_walk (set_parts free b ps) w (held_for ps free) (settle ps free) refl (settles ps free) b
plain_follows ps (given n t) b w = word_walk (set_parts (given n t) b ps) w (held_for ps (given n t)) (settle ps (given n t)) refl (settles ps (given n t)) b
plain_follows ps (said v) b w = word_walk (set_parts (said v) b ps) w (held_for ps (said v)) (settle ps (said v)) refl (settles ps (said v)) b
plain_follows ps (opened workers) b w = (refl, refl)
plain_follows ps (opened cut) b w = (refl, refl)
plain_follows ps (opened seed) b w = (refl, refl)
plain_follows ps (opened rows) b w = (refl, refl)

long_turn : (s : State) (w : Text) (waiting : Waiting) (name : Text) (v : Option Text)
    → Follows (long_step s (flag_named name) v) s (fault_by waiting s.has_word w (held_for s.parts s.pend) false (Some (name, v))) (walked_by waiting s.has_word w (held_for s.parts s.pend) false (Some (name, v)))
long_turn s w waiting name v =
    subst (λ (r : Option Rule). Follows (long_step s (flag_named name) v) s (long_fault_by waiting s.has_word w (held_for s.parts s.pend) v r) (long_walked_by waiting s.has_word w (held_for s.parts s.pend) v r))
    (sym (by_long name)) (long_follows s w waiting (flag_named name) v)

plain_turn : (s : State) (w : Text) → short_of w ≡ None
    → Follows (plain_step s.parts s.pend s.has_word w) s (fault_by (waiting_for s.pend) s.has_word w (held_for s.parts s.pend) false None) (walked_by (waiting_for s.pend) s.has_word w (held_for s.parts s.pend) false None)
plain_turn s w e =
    subst (λ (o : Option Text). Follows (plain_step s.parts s.pend s.has_word w) s (short_fault_by (waiting_for s.pend) s.has_word w (held_for s.parts s.pend) o) (short_walked_by (waiting_for s.pend) s.has_word w (held_for s.parts s.pend) o))
    (sym e) (plain_follows s.parts s.pend s.has_word w)

abbrev pub two_hyphens : Text
two_hyphens = 45 ∷ 45 ∷ []

-- a word that clap reads as an option or as a word of its own
pub record Stands (w : Text) : Type 0 where
  pub not_hyphens : bytes_eq w two_hyphens ≡ false
  pub not_short : long_of w ≡ None → short_of w ≡ None
  pub plain : long_of w ≡ None → IsPlain w

turn_by : (s : State) (w : Text) (dashes : Bool) (long : Option (Text × Option Text)) → dashes ≡ false → (long ≡ None → short_of w ≡ None)
    → Follows (step_by s long w) s (fault_by (waiting_for s.pend) s.has_word w (held_for s.parts s.pend) dashes long) (walked_by (waiting_for s.pend) s.has_word w (held_for s.parts s.pend) dashes long)
turn_by s w true long e g = absurd (let no : true ≡ false = e in cc)
turn_by s w false (Some p) e g = long_turn s w (waiting_for s.pend) p.0 p.1
turn_by s w false None e g = plain_turn s w (g refl)

turn_is : (ps : List Part) (p : Pend) (b : Bool) (w : Text) → fault_by (waiting_for p) b w (held_for ps p) (bytes_eq w two_hyphens) (long_of w) ≡ turn_fault shape [] (walk_for (set_parts p b ps)) w
turn_is ps free b w = refl
turn_is ps (given n t) b w = refl
turn_is ps (said v) b w = refl
turn_is ps (opened n) b w = refl

walked_is : (ps : List Part) (p : Pend) (b : Bool) (w : Text) → walked_by (waiting_for p) b w (held_for ps p) (bytes_eq w two_hyphens) (long_of w) ≡ walked rules [] (walk_for (set_parts p b ps)) w
unfolding walked
walked_is ps free b w = refl
walked_is ps (given n t) b w = refl
walked_is ps (said v) b w = refl
walked_is ps (opened n) b w = refl

pub follows : (s : State) (w : Text) → Stands w → Follows (step s w) s (turn_fault shape [] (walk_for s) w) (walked rules [] (walk_for s) w)
follows s w h =
    subst (λ (x : Walk). Follows (step s w) s (turn_fault shape [] (walk_for s) w) x) (walked_is s.parts s.pend s.has_word w)
    (subst (λ (f : Kinds). Follows (step s w) s f (walked_by (waiting_for s.pend) s.has_word w (held_for s.parts s.pend) (bytes_eq w two_hyphens) (long_of w))) (turn_is s.parts s.pend s.has_word w)
    (turn_by s w (bytes_eq w two_hyphens) (long_of w) h.not_hyphens h.not_short))
