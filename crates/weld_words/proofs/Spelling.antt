-- The parts that are read are those that the words are written of, and the other way round.
use Rattle.std.proofs.Common.{inl, inr, ◌≡◌, ◌∙◌, ◌≤◌, ◌+◌, ℕ, Bool, cond, true, false, refl, sym, ap, ap₂, subst, List, [], ◌∷◌, ◌++◌, length, Option, Some, None, arith, append_assoc}
use Rattle.std.specs.Prelude.{◌⊎◌, codes, option_and_then, option_map}
use Rattle.clap.specs.Lexer.{long_of, short_of}
use Rattle.weld_words.specs.Words.{Text, Name, name_text, flag_of, Part, word, valued, report, IsPlain, IsWritten, AreWritten}
use Rattle.weld_words.proofs.Built.{Flag, named, asks, flag_text, flag_named}
use Rattle.weld_words.proofs.Rows.{id_of, add}
use Rattle.weld_words.proofs.Steps.{Stands, State, Pend, free, given, said, opened, set_parts, settle, step, step_by, long_step, word_step, plain_step}
use Rattle.weld_words.proofs.Reading.{run, ended, start, read, AllStand}
use Rattle.weld_words.proofs.Lexing.{tail_of, long_is, named_is, named_by, opens, holds, reports, plain_is}
use Rattle.weld_words.proofs.Counts.{texts_at, text_at, Once, added, once_added, adds, texts_length}

-- what is written after the parts so far: what waits, and then the words
abbrev Spelled : Pend → List Part → List Text → Type 0
Spelled free qs ws = AreWritten qs ws
Spelled (given n t) qs ws = (rs : List Part) × (qs ≡ valued n t ∷ rs) × AreWritten rs ws
Spelled (said w) qs ws = (rs : List Part) × (qs ≡ word w ∷ rs) × AreWritten rs ws
Spelled (opened n) qs ws = (t : Text) × (us : List Text) × (rs : List Part) × (ws ≡ t ∷ us) × IsPlain t × (qs ≡ valued n t ∷ rs) × AreWritten rs us

-- the parts so far are followed by parts that spell the rest, and each name stands once
abbrev Found : List Part → Pend → List Text → List Part → Type 0
Found ps p ws all = (qs : List Part) × (all ≡ ps ++ qs) × Spelled p qs ws × (Once ps → Once all)

-- what waits was added
closed : (ps : List Part) (p : Pend) (ws : List Text) (ps1 rest all : List Part) → settle ps p ≡ Some ps1 → AreWritten rest ws → all ≡ ps1 ++ rest → (Once ps1 → Once all) → Found ps p ws all
closed ps free ws ps1 rest all e h a o =
    let same : ps ≡ ps1 = cc in
    (rest, a ∙ ap (λ (x : List Part). x ++ rest) (sym same), h, λ once. o (subst Once same once))
closed ps (given n t) ws ps1 rest all e h a o =
    (valued n t ∷ rest, a ∙ ap (λ (x : List Part). x ++ rest) (added (valued n t) ps ps1 e).0 ∙ append_assoc ps (valued n t ∷ []) rest, (rest, refl, h), λ once. o (once_added (valued n t) ps ps1 e once))
closed ps (said w) ws ps1 rest all e h a o =
    (word w ∷ rest, a ∙ ap (λ (x : List Part). x ++ rest) (added (word w) ps ps1 e).0 ∙ append_assoc ps (word w ∷ []) rest, (rest, refl, h), λ once. o (once_added (word w) ps ps1 e once))
closed ps (opened n) ws ps1 rest all e h a o = cc

-- an option that adds a part
abbrev After : State → List Text → List Part → Type 0
After t ws all = ended (run t ws) ≡ Some all

sound_added : (q : Part) (ps : List Part) (p : Pend) (b : Bool) (w : Text) (ws : List Text) (all : List Part) → IsWritten q (w ∷ [])
    → ((t : State) → After t ws all → Found t.parts t.pend ws all)
    → ended (option_and_then (λ (t : State). run t ws) (option_map (set_parts free b) (option_and_then (add q) (settle ps p)))) ≡ Some all → Found ps p (w ∷ ws) all
sound_added q ps p b w ws all h ih e = go (settle ps p) refl e
  where
    two : (ps1 : List Part) → settle ps p ≡ Some ps1 → (o : Option (List Part)) → add q ps1 ≡ o → ended (option_and_then (λ (t : State). run t ws) (option_map (set_parts free b) o)) ≡ Some all → Found ps p (w ∷ ws) all
    two ps1 s None a e = cc
    two ps1 s (Some ps2) a e =
        let f : Found ps2 free ws all = ih (set_parts free b ps2) e in
        closed ps p (w ∷ ws) ps1 (q ∷ f.0) all s (w ∷ [], ws, refl, h, f.2) (f.1 ∙ ap (λ (x : List Part). x ++ f.0) (added q ps1 ps2 a).0 ∙ append_assoc ps1 (q ∷ []) f.0) (λ once. f.3 (once_added q ps1 ps2 a once))

    go : (o : Option (List Part)) → settle ps p ≡ o → ended (option_and_then (λ (t : State). run t ws) (option_map (set_parts free b) (option_and_then (add q) o))) ≡ Some all → Found ps p (w ∷ ws) all
    go None s e = cc
    go (Some ps1) s e = two ps1 s (add q ps1) refl e

sound_opened : (n : Name) (ps : List Part) (p : Pend) (b : Bool) (w : Text) (ws : List Text) (all : List Part) → w ≡ flag_of n
    → ((t : State) → After t ws all → Found t.parts t.pend ws all)
    → ended (option_and_then (λ (t : State). run t ws) (option_map (set_parts (opened n) b) (settle ps p))) ≡ Some all → Found ps p (w ∷ ws) all
sound_opened n ps p b w ws all h ih e = go (settle ps p) refl e
  where
    go : (o : Option (List Part)) → settle ps p ≡ o → ended (option_and_then (λ (t : State). run t ws) (option_map (set_parts (opened n) b) o)) ≡ Some all → Found ps p (w ∷ ws) all
    go None s e = cc
    go (Some ps1) s e = next (ih (set_parts (opened n) b ps1) e)
      where
        next : Found ps1 (opened n) ws all → Found ps p (w ∷ ws) all
        next (qs, a, (t, us, rs, is, plain, q, more), o) =
            closed ps p (w ∷ ws) ps1 qs all s (subst (λ (x : List Part). AreWritten x (w ∷ ws)) (sym q) (w ∷ t ∷ [], us, ap (λ (x : List Text). w ∷ x) is, inr (ap (λ (x : Text). x ∷ t ∷ []) h, plain), more)) a o

sound_long : (f : Option Flag) (v : Option Text) (ps : List Part) (p : Pend) (b : Bool) (w name : Text) (ws : List Text) (all : List Part) → flag_named name ≡ f → w ≡ 45 ∷ 45 ∷ (name ++ tail_of v)
    → ((t : State) → After t ws all → Found t.parts t.pend ws all)
    → ended (option_and_then (λ (t : State). run t ws) (long_step (set_parts p b ps) f v)) ≡ Some all → Found ps p (w ∷ ws) all
sound_long None v ps p b w name ws all i h ih e = cc
sound_long (Some (named n)) (Some t) ps p b w name ws all i h ih e =
    sound_added (valued n t) ps p b w ws all (inl (ap (λ (x : Text). x ∷ []) (h ∙ ap (λ (x : Text). 45 ∷ 45 ∷ (x ++ 61 ∷ t)) (sym (named_is name (named n) i))))) ih e
sound_long (Some (named n)) None ps p b w name ws all i h ih e =
    sound_opened n ps p b w ws all (h ∙ ap (λ (x : Text). 45 ∷ 45 ∷ x) (nothing_more name ∙ sym (named_is name (named n) i))) ih e
  where
    nothing_more : (x : Text) → x ++ [] ≡ x
    nothing_more [] = refl
    nothing_more (c ∷ cs) = ap (λ (y : Text). c ∷ y) (nothing_more cs)
sound_long (Some asks) (Some t) ps p b w name ws all i h ih e = cc
sound_long (Some asks) None ps p b w name ws all i h ih e =
    sound_added report ps p b w ws all (ap (λ (x : Text). x ∷ []) (h ∙ ap (λ (x : Text). 45 ∷ 45 ∷ (x ++ [])) (sym (named_is name asks i)))) ih e

sound_word : (ps : List Part) (p : Pend) (b : Bool) (w : Text) (ws : List Text) (all : List Part) → IsPlain w
    → ((t : State) → After t ws all → Found t.parts t.pend ws all)
    → ended (option_and_then (λ (t : State). run t ws) (word_step b (settle ps p) w)) ≡ Some all → Found ps p (w ∷ ws) all
sound_word ps p true w ws all h ih e = cc
sound_word ps p false w ws all h ih e = go (settle ps p) refl e
  where
    go : (o : Option (List Part)) → settle ps p ≡ o → ended (option_and_then (λ (t : State). run t ws) (option_map (set_parts (said w) true) o)) ≡ Some all → Found ps p (w ∷ ws) all
    go None s e = cc
    go (Some ps1) s e = next (ih (set_parts (said w) true ps1) e)
      where
        next : Found ps1 (said w) ws all → Found ps p (w ∷ ws) all
        next (qs, a, (rs, q, more), o) =
            closed ps p (w ∷ ws) ps1 qs all s (subst (λ (x : List Part). AreWritten x (w ∷ ws)) (sym q) (w ∷ [], ws, refl, (refl, h), more)) a o

sound_plain : (ps : List Part) (p : Pend) (b : Bool) (w : Text) (ws : List Text) (all : List Part) → IsPlain w
    → ((t : State) → After t ws all → Found t.parts t.pend ws all)
    → ended (option_and_then (λ (t : State). run t ws) (plain_step ps p b w)) ≡ Some all → Found ps p (w ∷ ws) all
sound_plain ps free b w ws all h ih e = sound_word ps free b w ws all h ih e
sound_plain ps (given n t) b w ws all h ih e = sound_word ps (given n t) b w ws all h ih e
sound_plain ps (said v) b w ws all h ih e = sound_word ps (said v) b w ws all h ih e
sound_plain ps (opened n) b w ws all h ih e = next (ih (set_parts (given n w) b ps) e)
  where
    next : Found ps (given n w) ws all → Found ps (opened n) (w ∷ ws) all
    next (qs, a, (rs, q, more), o) = (qs, a, (w, ws, rs, refl, h, q, more), o)

sound : (ws : List Text) → AllStand ws → (s : State) (all : List Part) → After s ws all → Found s.parts s.pend ws all
sound [] h s all e = closed s.parts s.pend [] all [] all e refl (sym (nothing all)) (λ once. once)
  where
    nothing : (x : List Part) → x ++ [] ≡ x
    nothing [] = refl
    nothing (p ∷ ps) = ap (λ (y : List Part). p ∷ y) (nothing ps)
sound (w ∷ ws) h s all e = go (λ t. sound ws h.1 t all) (long_of w) refl e
  where
    go : ((t : State) → After t ws all → Found t.parts t.pend ws all) → (l : Option (Text × Option Text)) → long_of w ≡ l → ended (option_and_then (λ (t : State). run t ws) (step_by s l w)) ≡ Some all → Found s.parts s.pend (w ∷ ws) all
    go ih (Some p) l e = sound_long (flag_named p.0) p.1 s.parts s.pend s.has_word w p.0 ws all refl (long_is w p l) ih e
    go ih None l e = sound_plain s.parts s.pend s.has_word w ws all (h.0.plain l) ih e

-- what is read is written so, each name once
pub reads_written : (ws : List Text) → AllStand ws → (ps : List Part) → read ws ≡ Some ps → AreWritten ps ws × Once ps
reads_written ws h ps e = next (sound ws h start ps e)
  where
    none : Once []
    none id = omega arith

    next : Found [] free ws ps → AreWritten ps ws × Once ps
    next (qs, a, w, o) = (subst (λ (x : List Part). AreWritten x ws) (sym a) w, o none)
