-- What a word looks like, and how parts are written.
use Rattle.std.proofs.Common.{inl, inr, ◌≡◌, ◌≢◌, ◌∙◌, ◌+◌, ℕ, Bool, cond, true, false, suc, refl, sym, ap, ap₂, subst, List, [], ◌∷◌, ◌++◌, take, drop, Option, Some, None, arith}
use Rattle.std.specs.Prelude.{◌||◌, ◌&&◌, ◌==◌, ◌⊎◌, not, codes, find, option_and_then}
use Rattle.std.specs.List.{list_any, before_first, after_first, position_or_len, AllByRecursion}
use Rattle.std.specs.Str.{bytes_eq}
use Rattle.std.proofs.lemmas.Bool.{eqb-true, eq-eqb}
use Rattle.std.proofs.lemmas.Slice.Eq.{bytes_eq-Decides}
use Rattle.clap.specs.Lexer.{has_byte, name_and_value, strip_byte, long_of_rest, long_of, short_of}
use Rattle.weld_words.specs.Line.{may_stand, is_long_rest, has_more}
use Rattle.weld_words.specs.Words.{Text, Name, workers, cut, seed, rows, name_text, flag_of, Part, word, valued, report, IsPlain, IsWritten, AreWritten}
use Rattle.weld_words.proofs.Built.{Flag, named, asks, flag_text, all_flags, flag_named}

true≢false : true ≡ false → ⊥
true≢false e = cc

-- ---- what a long word is made of

abbrev pub tail_of : Option Text → Text
tail_of None = []
tail_of (Some t) = 61 ∷ t

abbrev is_equals : ℕ → Bool
is_equals x = x == 61

abbrev split_at : ℕ → Bool → Text → Text
split_at n b text = take n text ++ tail_of (cond b (Some (drop (n + 1) text)) None)

splits : (text : Text) → split_at (position_or_len is_equals text) (has_byte 61 text) text ≡ text
splits [] = refl
splits (x ∷ xs) = go (splits xs) (x == 61) refl
  where
    go : split_at (position_or_len is_equals xs) (has_byte 61 xs) xs ≡ xs → (b : Bool) → (x == 61) ≡ b → split_at (cond (not b) (1 + position_or_len is_equals xs) 0) (b || has_byte 61 xs) (x ∷ xs) ≡ x ∷ xs
    go ih true e = ap (λ (y : ℕ). y ∷ xs) (sym (eqb-true x 61 e))
    go ih false e =
        let one : 1 + position_or_len is_equals xs ≡ suc (position_or_len is_equals xs) = omega arith in
        let more : suc (position_or_len is_equals xs) + 1 ≡ suc (position_or_len is_equals xs + 1) = omega arith in
        ap (λ (n : ℕ). split_at n (has_byte 61 xs) (x ∷ xs)) one
        ∙ (ap (λ (n : ℕ). x ∷ (take (position_or_len is_equals xs) xs ++ tail_of (cond (has_byte 61 xs) (Some (drop n (x ∷ xs))) None))) more
        ∙ ap (λ (t : Text). x ∷ t) ih)

some_is : {X : Type 0} (a b : X) → Some a ≡ Some b → a ≡ b
some_is a b e = cc

abbrev Long : Type 0
Long = Text × Option Text

first_hyphen : (b : Bool) (w : Text) (p : Long) → option_and_then long_of_rest (option_and_then (strip_byte 45) (cond b (Some w) None)) ≡ Some p → (b ≡ true) × (option_and_then long_of_rest (strip_byte 45 w) ≡ Some p)
first_hyphen true w p e = (refl, e)
first_hyphen false w p e = cc

second_hyphen : (b : Bool) (w : Text) (p : Long) → option_and_then long_of_rest (cond b (Some w) None) ≡ Some p → (b ≡ true) × (long_of_rest w ≡ Some p)
second_hyphen true w p e = (refl, e)
second_hyphen false w p e = cc

behind_hyphens : (w : Text) (p : Long) → long_of_rest w ≡ Some p → w ≡ p.0 ++ tail_of p.1
behind_hyphens [] p e = cc
behind_hyphens (x ∷ xs) p e = sym (splits (x ∷ xs)) ∙ ap (λ (q : Long). q.0 ++ tail_of q.1) (some_is (name_and_value (x ∷ xs)) p e)

behind_one : (w : Text) (p : Long) → option_and_then long_of_rest (strip_byte 45 w) ≡ Some p → w ≡ 45 ∷ (p.0 ++ tail_of p.1)
behind_one [] p e = cc
behind_one (b ∷ w) p e =
    let f : (b == 45 ≡ true) × (long_of_rest w ≡ Some p) = second_hyphen (b == 45) w p e in
    ap₂ (λ (y : ℕ) (ys : Text). y ∷ ys) (eqb-true b 45 f.0) (behind_hyphens w p f.1)

pub long_is : (w : Text) (p : Long) → long_of w ≡ Some p → w ≡ 45 ∷ 45 ∷ (p.0 ++ tail_of p.1)
long_is [] p e = cc
long_is (a ∷ w) p e =
    let f : (a == 45 ≡ true) × (option_and_then long_of_rest (strip_byte 45 w) ≡ Some p) = first_hyphen (a == 45) w p e in
    ap₂ (λ (y : ℕ) (ys : Text). y ∷ ys) (eqb-true a 45 f.0) (behind_one w p f.1)

-- ---- the options by their names

found_is : (test : Flag → Bool) (fs : List Flag) (f : Flag) → find test fs ≡ Some f → test f ≡ true
found_is test [] f e = cc
found_is test (g ∷ fs) f e = go (found_is test fs f) (test g) refl e
  where
    go : (find test fs ≡ Some f → test f ≡ true) → (b : Bool) → test g ≡ b → cond b (Some g) (find test fs) ≡ Some f → test f ≡ true
    go ih true t e = ap test (sym (some_is g f e)) ∙ t
    go ih false t e = ih e

or_false : (b : Bool) → (b || false) ≡ true → b ≡ true
or_false true e = refl
or_false false e = e

pub named_is : (name : Text) (f : Flag) → flag_named name ≡ Some f → flag_text f ≡ name
named_is name f e = (bytes_eq-Decides (flag_text f) name).0 (or_false (bytes_eq (flag_text f) name) (found_is (λ (g : Flag). bytes_eq (flag_text g) name || false) all_flags f e))

pub named_by : (n : Name) → flag_named (name_text n) ≡ Some (named n)
named_by workers = refl
named_by cut = refl
named_by seed = refl
named_by rows = refl

-- ---- written parts

pub opens : (n : Name) → long_of (flag_of n) ≡ Some (name_text n, None)
opens workers = refl
opens cut = refl
opens seed = refl
opens rows = refl

pub holds : (n : Name) (t : Text) → long_of (flag_of n ++ 61 ∷ t) ≡ Some (name_text n, Some t)
holds workers t = refl
holds cut t = refl
holds seed t = refl
holds rows t = refl

pub reports : long_of (codes "--report") ≡ Some (codes "report", None)
reports = refl

not_hyphen : (c : ℕ) → c ≢ 45 → (c == 45) ≡ false
not_hyphen c h = go (c == 45) refl
  where
    go : (b : Bool) → (c == 45) ≡ b → (c == 45) ≡ false
    go true e = absurd (h (eqb-true c 45 e))
    go false e = e

pub plain_is : (w : Text) → IsPlain w → long_of w ≡ None
plain_is [] h = refl
plain_is (c ∷ cs) h = ap (λ (b : Bool). option_and_then long_of_rest (option_and_then (strip_byte 45) (cond b (Some cs) None))) (not_hyphen c h)

-- ---- the words that clap is asked to read

plain_stands : (w : Text) → IsPlain w → may_stand w ≡ true
plain_stands [] h = refl
plain_stands (c ∷ cs) h = ap (λ (b : Bool). not b || is_long_rest cs) (not_hyphen c h)

flag_stands : (n : Name) → may_stand (flag_of n) ≡ true
flag_stands workers = refl
flag_stands cut = refl
flag_stands seed = refl
flag_stands rows = refl

held_stands : (n : Name) (t : Text) → may_stand (flag_of n ++ 61 ∷ t) ≡ true
held_stands workers t = refl
held_stands cut t = refl
held_stands seed t = refl
held_stands rows t = refl

abbrev pub AllMay : List Text → Type 0
AllMay ws = AllByRecursion (λ w. may_stand w ≡ true) ws

all_append : (vs ws : List Text) → AllMay vs → AllMay ws → AllMay (vs ++ ws)
all_append [] ws h g = g
all_append (v ∷ vs) ws h g = (h.0, all_append vs ws h.1 g)

part_stands : (p : Part) (ws : List Text) → IsWritten p ws → AllMay ws
part_stands (word w) ws h = subst AllMay (sym h.0) (plain_stands w h.1, tt)
part_stands (valued n t) ws h = elim h [
  | inl e ↦ subst AllMay (sym e) (held_stands n t, tt)
  | inr g ↦ subst AllMay (sym g.0) (flag_stands n, (plain_stands t g.1, tt))
]
part_stands report ws h = subst AllMay (sym h) (refl, tt)

pub written_stand : (ps : List Part) (ws : List Text) → AreWritten ps ws → AllMay ws
written_stand [] ws h = subst AllMay (sym h) tt
written_stand (p ∷ ps) ws (front, rest, e, g, more) = subst AllMay (sym e) (all_append front rest (part_stands p front g) (written_stand ps rest more))
