-- Words that are written of parts, each name once, are read as these.
use Rattle.std.proofs.Common.{inl, inr, ◌≡◌, ◌∙◌, ◌≤◌, ◌+◌, ℕ, Bool, cond, true, false, refl, sym, ap, ap₂, subst, List, [], ◌∷◌, ◌++◌, length, Option, Some, None, arith, append_assoc}
use Rattle.std.specs.Prelude.{◌⊎◌, codes, option_and_then, option_map}
use Rattle.clap.specs.Lexer.{long_of}
use Rattle.weld_words.specs.Words.{Text, Name, name_text, flag_of, Part, word, valued, report, IsPlain, IsWritten, AreWritten}
use Rattle.weld_words.proofs.Built.{Flag, named, asks, flag_text, flag_named}
use Rattle.weld_words.proofs.Rows.{id_of, value_in, add}
use Rattle.weld_words.proofs.Steps.{State, Pend, free, given, said, opened, set_parts, settle, step, step_by, long_step, word_step, plain_step}
use Rattle.weld_words.proofs.Reading.{run, ended, start, read}
use Rattle.weld_words.proofs.Lexing.{named_by, opens, holds, reports, plain_is}
use Rattle.weld_words.proofs.Counts.{texts_at, text_at, Once, adds, texts_length}

nothing_more : (x : List Part) → x ++ [] ≡ x
nothing_more [] = refl
nothing_more (p ∷ ps) = ap (λ (y : List Part). p ∷ y) (nothing_more ps)

-- what waits and is whole
abbrev waits : Pend → List Part
waits free = []
waits (given n t) = valued n t ∷ []
waits (said w) = word w ∷ []
waits (opened n) = []

abbrev IsWhole : Pend → Type 0
IsWhole free = Unit {0}
IsWhole (given n t) = Unit {0}
IsWhole (said w) = Unit {0}
IsWhole (opened n) = ⊥

settle_adds : (ps : List Part) (p : Pend) (qs : List Part) → IsWhole p → Once (ps ++ (waits p ++ qs)) → settle ps p ≡ Some (ps ++ waits p)
settle_adds ps free qs h o = ap Some (sym (nothing_more ps))
settle_adds ps (given n t) qs h o = adds ps (valued n t) qs o
settle_adds ps (said w) qs h o = adds ps (word w) qs o
settle_adds ps (opened n) qs h o = absurd h

abbrev HasWord : Bool → List Part → Type 0
HasWord b ps = b ≡ true → 1 ≤ length (texts_at (codes "command") ps)

still : (b : Bool) (ps qs : List Part) → HasWord b ps → HasWord b (ps ++ qs)
still b ps qs h e =
    let some : 1 ≤ length (texts_at (codes "command") ps) = h e in
    let all : length (texts_at (codes "command") (ps ++ qs)) ≡ length (texts_at (codes "command") ps) + length (texts_at (codes "command") qs) = texts_length (codes "command") ps qs in
    omega arith

stepped : (s t : State) (w : Text) (ws : List Text) → step s w ≡ Some t → ended (run s (w ∷ ws)) ≡ ended (run t ws)
stepped s t w ws e = ap (λ (o : Option State). ended (option_and_then (λ (u : State). run u ws) o)) e

adds_after : (q : Part) (ps : List Part) (p : Pend) (qs : List Part) → IsWhole p → Once ((ps ++ waits p) ++ q ∷ qs) → option_and_then (add q) (settle ps p) ≡ Some ((ps ++ waits p) ++ q ∷ [])
adds_after q ps p qs h o =
    ap (option_and_then (add q)) (settle_adds ps p (q ∷ qs) h (subst Once (append_assoc ps (waits p) (q ∷ qs)) o)) ∙ adds (ps ++ waits p) q qs o

held_step : (n : Name) (t : Text) (ps : List Part) (p : Pend) (b : Bool) (qs : List Part) → IsWhole p → Once ((ps ++ waits p) ++ valued n t ∷ qs)
    → step (set_parts p b ps) (flag_of n ++ 61 ∷ t) ≡ Some (set_parts free b ((ps ++ waits p) ++ valued n t ∷ []))
held_step n t ps p b qs h o =
    ap (λ (l : Option (Text × Option Text)). step_by (set_parts p b ps) l (flag_of n ++ 61 ∷ t)) (holds n t)
    ∙ (ap (λ (f : Option Flag). long_step (set_parts p b ps) f (Some t)) (named_by n)
    ∙ ap (option_map (set_parts free b)) (adds_after (valued n t) ps p qs h o))

opened_step : (n : Name) (ps : List Part) (p : Pend) (b : Bool) (qs : List Part) → IsWhole p → Once (ps ++ (waits p ++ qs))
    → step (set_parts p b ps) (flag_of n) ≡ Some (set_parts (opened n) b (ps ++ waits p))
opened_step n ps p b qs h o =
    ap (λ (l : Option (Text × Option Text)). step_by (set_parts p b ps) l (flag_of n)) (opens n)
    ∙ (ap (λ (f : Option Flag). long_step (set_parts p b ps) f None) (named_by n)
    ∙ ap (option_map (set_parts (opened n) b)) (settle_adds ps p qs h o))

report_step : (ps : List Part) (p : Pend) (b : Bool) (qs : List Part) → IsWhole p → Once ((ps ++ waits p) ++ report ∷ qs)
    → step (set_parts p b ps) (codes "--report") ≡ Some (set_parts free b ((ps ++ waits p) ++ report ∷ []))
report_step ps p b qs h o = ap (option_map (set_parts free b)) (adds_after report ps p qs h o)

value_step : (n : Name) (t : Text) (ps : List Part) (b : Bool) → IsPlain t → step (set_parts (opened n) b ps) t ≡ Some (set_parts (given n t) b ps)
value_step n t ps b h = ap (λ (l : Option (Text × Option Text)). step_by (set_parts (opened n) b ps) l t) (plain_is t h)

plain_whole : (ps : List Part) (p : Pend) (b : Bool) (w : Text) → IsWhole p → plain_step ps p b w ≡ word_step b (settle ps p) w
plain_whole ps free b w h = refl
plain_whole ps (given n t) b w h = refl
plain_whole ps (said v) b w h = refl
plain_whole ps (opened n) b w h = absurd h

first_word : (w : Text) (ps qs : List Part) (b : Bool) → Once (ps ++ word w ∷ qs) → HasWord b ps → b ≡ false
first_word w ps qs false o h = refl
first_word w ps qs true o h =
    let some : 1 ≤ length (texts_at (codes "command") ps) = h refl in
    let all : length (texts_at (codes "command") (ps ++ word w ∷ qs)) ≡ length (texts_at (codes "command") ps) + length (w ∷ texts_at (codes "command") qs) = texts_length (codes "command") ps (word w ∷ qs) in
    let once : length (texts_at (codes "command") (ps ++ word w ∷ qs)) ≤ 1 = o (word w) in
    absurd (omega arith)

word_stepped : (w : Text) (ps : List Part) (p : Pend) (b : Bool) (qs : List Part) → IsPlain w → IsWhole p → Once ((ps ++ waits p) ++ word w ∷ qs) → HasWord b (ps ++ waits p)
    → step (set_parts p b ps) w ≡ Some (set_parts (said w) true (ps ++ waits p))
word_stepped w ps p b qs g h o k =
    ap (λ (l : Option (Text × Option Text)). step_by (set_parts p b ps) l w) (plain_is w g)
    ∙ (plain_whole ps p b w h
    ∙ ap₂ (λ (c : Bool) (x : Option (List Part)). word_step c x w) (first_word w (ps ++ waits p) qs b o k) (settle_adds ps p (word w ∷ qs) h (subst Once (append_assoc ps (waits p) (word w ∷ qs)) o)))

some_word : (w : Text) (ps : List Part) → HasWord true (ps ++ word w ∷ [])
some_word w ps e =
    let all : length (texts_at (codes "command") (ps ++ word w ∷ [])) ≡ length (texts_at (codes "command") ps) + length (w ∷ []) = texts_length (codes "command") ps (word w ∷ []) in
    omega arith

abbrev Completes : List Part → List Text → Type 0
Completes qs ws = (ps : List Part) (p : Pend) (b : Bool) → IsWhole p → Once (ps ++ (waits p ++ qs)) → HasWord b (ps ++ waits p) → ended (run (set_parts p b ps) ws) ≡ Some (ps ++ (waits p ++ qs))

-- a part that is added at its own word
at_once : (q : Part) (w : Text) (qs : List Part) (ws : List Text) → Completes qs ws
    → ((ps : List Part) (p : Pend) (b : Bool) → IsWhole p → Once ((ps ++ waits p) ++ q ∷ qs) → step (set_parts p b ps) w ≡ Some (set_parts free b ((ps ++ waits p) ++ q ∷ [])))
    → Completes (q ∷ qs) (w ∷ ws)
at_once q w qs ws ih st ps p b h o k =
    let once : Once ((ps ++ waits p) ++ q ∷ qs) = subst Once (sym (append_assoc ps (waits p) (q ∷ qs))) o in
    let next : ((ps ++ waits p) ++ q ∷ []) ++ qs ≡ (ps ++ waits p) ++ q ∷ qs = append_assoc (ps ++ waits p) (q ∷ []) qs in
    stepped (set_parts p b ps) (set_parts free b ((ps ++ waits p) ++ q ∷ [])) w ws (st ps p b h once)
    ∙ (ih ((ps ++ waits p) ++ q ∷ []) free b tt (subst Once (sym next) once) (subst (HasWord b) (sym (nothing_more ((ps ++ waits p) ++ q ∷ []))) (still b (ps ++ waits p) (q ∷ []) k))
    ∙ ap Some (next ∙ append_assoc ps (waits p) (q ∷ qs)))

-- a word, and an option whose value is the next word
word_next : (w : Text) (qs : List Part) (ws : List Text) → IsPlain w → Completes qs ws → Completes (word w ∷ qs) (w ∷ ws)
word_next w qs ws g ih ps p b h o k =
    let once : Once ((ps ++ waits p) ++ word w ∷ qs) = subst Once (sym (append_assoc ps (waits p) (word w ∷ qs))) o in
    stepped (set_parts p b ps) (set_parts (said w) true (ps ++ waits p)) w ws (word_stepped w ps p b qs g h once k)
    ∙ (ih (ps ++ waits p) (said w) true tt once (some_word w (ps ++ waits p)) ∙ ap Some (append_assoc ps (waits p) (word w ∷ qs)))

value_next : (n : Name) (t : Text) (qs : List Part) (ws : List Text) → IsPlain t → Completes qs ws → Completes (valued n t ∷ qs) (flag_of n ∷ t ∷ ws)
value_next n t qs ws g ih ps p b h o k =
    let once : Once ((ps ++ waits p) ++ valued n t ∷ qs) = subst Once (sym (append_assoc ps (waits p) (valued n t ∷ qs))) o in
    stepped (set_parts p b ps) (set_parts (opened n) b (ps ++ waits p)) (flag_of n) (t ∷ ws) (opened_step n ps p b (valued n t ∷ qs) h o)
    ∙ (stepped (set_parts (opened n) b (ps ++ waits p)) (set_parts (given n t) b (ps ++ waits p)) t ws (value_step n t (ps ++ waits p) b g)
    ∙ (ih (ps ++ waits p) (given n t) b tt once (still b (ps ++ waits p) (valued n t ∷ []) k) ∙ ap Some (append_assoc ps (waits p) (valued n t ∷ qs))))

part_next : (q : Part) (front : List Text) (qs : List Part) (ws : List Text) → IsWritten q front → Completes qs ws → Completes (q ∷ qs) (front ++ ws)
part_next (word w) front qs ws h ih = subst (λ (x : List Text). Completes (word w ∷ qs) (x ++ ws)) (sym h.0) (word_next w qs ws h.1 ih)
part_next (valued n t) front qs ws h ih = elim h [
  | inl e ↦ subst (λ (x : List Text). Completes (valued n t ∷ qs) (x ++ ws)) (sym e) (at_once (valued n t) (flag_of n ++ 61 ∷ t) qs ws ih (λ ps p b. held_step n t ps p b qs))
  | inr g ↦ subst (λ (x : List Text). Completes (valued n t ∷ qs) (x ++ ws)) (sym g.0) (value_next n t qs ws g.1 ih)
]
part_next report front qs ws h ih = subst (λ (x : List Text). Completes (report ∷ qs) (x ++ ws)) (sym h) (at_once report (codes "--report") qs ws ih (λ ps p b. report_step ps p b qs))

complete : (qs : List Part) (ws : List Text) → AreWritten qs ws → Completes qs ws
complete [] ws e ps p b h o k = subst (λ (x : List Text). ended (run (set_parts p b ps) x) ≡ Some (ps ++ (waits p ++ []))) (sym e) (settle_adds ps p [] h o ∙ ap (λ (x : List Part). Some (ps ++ x)) (sym (nothing_more (waits p))))
complete (q ∷ qs) ws (front, rest, e, h, more) ps p b g o k = subst (Completes (q ∷ qs)) (sym e) (part_next q front qs rest h (complete qs rest more)) ps p b g o k

pub written_reads : (ps : List Part) (ws : List Text) → AreWritten ps ws → Once ps → read ws ≡ Some ps
written_reads ps ws h o = complete ps ws h [] free false tt o (λ e. let no : false ≡ true = e in cc)
