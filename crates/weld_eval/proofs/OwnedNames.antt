-- Owned names, from the newest on, and names with others below.
use Rattle.std.proofs.Common.{◌≡◌, ℕ, zero, suc, ◌-◌, ◌<◌, ◌≤◌, ◌==◌, ◌≢◌, Bool, true, false, if◌then◌else◌, List, [], ◌∷◌, ◌++◌, map, reverse, take, length, get_or, Some, None, refl, ap, sym, subst, ◌∙◌, arith}
use Rattle.std.proofs.Math.Seq.{take-suc, take-length}
use Rattle.std.proofs.lemmas.Bool.{eq-eqb, eqb-true}
use Rattle.std.proofs.lemmas.List.{map-append, reverse-append}
use Rattle.weld_meaning.specs.Environment.{look_for}
use Rattle.weld_meaning.specs.Evaluation.{Env}
use Rattle.weld_meaning.specs.Thing.{Thing}
use Rattle.weld_eval.specs.declared.names.Named.{Named}
use Rattle.weld_eval.specs.NamesView.{entry_of, env_of_list}
use Rattle.weld_eval.specs.ThingView.{thing_of}

pub all_names : (ns : List Named) (s : ℕ) → look_for s (env_of_list ns) ≡ look_for s (env_of_list (take (length ns) ns))
all_names ns s = ap (λ (ms : List Named). look_for s (env_of_list ms)) (sym (take-length ns))

newest : (ns : List Named) (i : ℕ) (n : Named) → i < length ns → n ≡ get_or ns i n → env_of_list (take (suc i) ns) ≡ entry_of n ∷ env_of_list (take i ns)
newest ns i n lt e =
    let t = take-suc ns i n lt ∙ ap (λ (m : Named). take i ns ++ m ∷ []) (sym e) in
    ap env_of_list t ∙ ap reverse (map-append entry_of (take i ns) (n ∷ [])) ∙ reverse-append (map entry_of (take i ns)) (entry_of n ∷ [])

-- the number of names is one more than the place of the newest
front : (ns : List Named) (s i : ℕ) (n : Named) → 0 < i → i ≤ length ns → n ≡ get_or ns (i - 1) n
    → look_for s (env_of_list (take i ns)) ≡ (if s == n.name.0 then Some (thing_of n.thing) else look_for s (env_of_list (take (i - 1) ns)))
front ns s zero n pos le e = absurd (omega arith)
front ns s (suc i) n pos le e =
    let one : suc i - 1 ≡ i = omega arith in
    let here : n ≡ get_or ns i n = subst (λ (k : ℕ). n ≡ get_or ns k n) one e in
    ap (look_for s) (newest ns i n (omega arith) here) ∙ ap (λ (k : ℕ). if s == n.name.0 then Some (thing_of n.thing) else look_for s (env_of_list (take k ns))) (sym one)

pub name_found : (ns : List Named) (s i : ℕ) (n : Named) → 0 < i → i ≤ length ns → n ≡ get_or ns (i - 1) n → n.name.0 ≡ s
    → look_for s (env_of_list (take i ns)) ≡ Some (thing_of n.thing)
name_found ns s i n pos le e is =
    front ns s i n pos le e ∙ ap (λ (t : Bool). if t then Some (thing_of n.thing) else look_for s (env_of_list (take (i - 1) ns))) (eq-eqb s n.name.0 (sym is))

pub name_older : (ns : List Named) (s i : ℕ) (n : Named) → 0 < i → i ≤ length ns → n ≡ get_or ns (i - 1) n → n.name.0 ≢ s
    → look_for s (env_of_list (take i ns)) ≡ look_for s (env_of_list (take (i - 1) ns))
name_older ns s i n pos le e differs =
    front ns s i n pos le e ∙ ap (λ (t : Bool). if t then Some (thing_of n.thing) else look_for s (env_of_list (take (i - 1) ns))) (by (s == n.name.0) refl)
  where
    by : (t : Bool) → (s == n.name.0) ≡ t → (s == n.name.0) ≡ false
    by true q = absurd (differs (sym (eqb-true s n.name.0 q)))
    by false q = q

pub no_name : (ns : List Named) (s i : ℕ) → i ≡ 0 → look_for s (env_of_list (take i ns)) ≡ None
no_name ns s i e = ap (λ (k : ℕ). look_for s (env_of_list (take k ns))) e

-- ---- names with others below

-- what a name stands for among those in front of others
looked : (x : ℕ × Thing) (es : Env) (s : ℕ) (b : Bool) → (s == x.0) ≡ b → look_for s (x ∷ es) ≡ (if b then Some x.1 else look_for s es)
looked x es s b q = ap (λ (c : Bool). if c then Some x.1 else look_for s es) q

pub among_first : (es fs : Env) (s : ℕ) (t : Thing) → look_for s es ≡ Some t → look_for s (es ++ fs) ≡ Some t
among_first [] fs s t e = let no : ⊥ = cc in absurd no
among_first (x ∷ es) fs s t e = by (among_first es fs s t) (s == x.0) refl
  where
    by : (look_for s es ≡ Some t → look_for s (es ++ fs) ≡ Some t) → (b : Bool) → (s == x.0) ≡ b → look_for s (x ∷ (es ++ fs)) ≡ Some t
    by more true q = looked x (es ++ fs) s true q ∙ sym (looked x es s true q) ∙ e
    by more false q = looked x (es ++ fs) s false q ∙ more (sym (looked x es s false q) ∙ e)

pub below_first : (es fs : Env) (s : ℕ) → look_for s es ≡ None → look_for s (es ++ fs) ≡ look_for s fs
below_first [] fs s e = refl
below_first (x ∷ es) fs s e = by (below_first es fs s) (s == x.0) refl
  where
    by : (look_for s es ≡ None → look_for s (es ++ fs) ≡ look_for s fs) → (b : Bool) → (s == x.0) ≡ b → look_for s (x ∷ (es ++ fs)) ≡ look_for s fs
    by more true q = let no : Some x.1 ≡ None = sym (looked x es s true q) ∙ e in let off : ⊥ = cc in absurd off
    by more false q = looked x (es ++ fs) s false q ∙ more (sym (looked x es s false q) ∙ e)
