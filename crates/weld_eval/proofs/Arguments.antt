-- Parameters and their arguments, one after another.
use Rattle.std.proofs.Common.{◌≡◌, ℕ, zero, suc, ◌+◌, ◌<◌, ◌≤◌, min, ◌==◌, ◌≢◌, Bool, true, false, if◌then◌else◌, List, [], ◌∷◌, drop, length, get_or, slice_get, Some, None, refl, ap, sym, ◌∙◌, arith}
use Rattle.std.proofs.lemmas.Bool.{eq-eqb, eqb-true}
use Rattle.std.proofs.lemmas.List.{drop_more}
use Rattle.weld_data.specs.Value.{Value}
use Rattle.weld_tree.specs.declared.binder.Binder.{Binder}
use Rattle.weld_meaning.specs.Environment.{look_for}
use Rattle.weld_meaning.specs.Meaning.{with_arguments}
use Rattle.weld_meaning.specs.Thing.{plain}

drop_value : (vs : List Value) (i : ℕ) → i < length vs → (v : Value) × (slice_get vs i ≡ Some v) × (drop i vs ≡ v ∷ drop (i + 1) vs)
drop_value [] i h = absurd (omega arith)
drop_value (v ∷ vs) zero h = (v, refl, refl)
drop_value (v ∷ vs) (suc i) h =
    let r = drop_value vs i (omega arith) in
    let more : suc (i + 1) ≡ suc i + 1 = omega arith in
    (r.0, r.1, r.2 ∙ ap (λ n. r.0 ∷ drop n (v ∷ vs)) more)

front : (bs : List Binder) (vs : List Value) (s i : ℕ) (b : Binder) (h : i < length bs) (g : i < length vs) → b ≡ get_or bs i b
    → look_for s (with_arguments (drop i bs) (drop i vs)) ≡ (if s == b.sym.0 then Some (plain (drop_value vs i g).0) else look_for s (with_arguments (drop (i + 1) bs) (drop (i + 1) vs)))
front bs vs s i b h g e =
    let d = drop_more bs i b h ∙ ap (λ c. c ∷ drop (i + 1) bs) (sym e) in
    ap (λ l. look_for s (with_arguments l (drop i vs))) d ∙ ap (λ l. look_for s (with_arguments (b ∷ drop (i + 1) bs) l)) (drop_value vs i g).2

pub found_there : (bs : List Binder) (vs : List Value) (s i : ℕ) (b : Binder) (v : Value) → i < length bs → i < length vs → b ≡ get_or bs i b → slice_get vs i ≡ Some v → b.sym.0 ≡ s
    → look_for s (with_arguments (drop i bs) (drop i vs)) ≡ Some (plain v)
found_there bs vs s i b v h g e get is =
    let w = drop_value vs i g in
    let same : w.0 ≡ v = cc in
    front bs vs s i b h g e
    ∙ ap (λ (t : Bool). if t then Some (plain w.0) else look_for s (with_arguments (drop (i + 1) bs) (drop (i + 1) vs))) (eq-eqb s b.sym.0 (sym is))
    ∙ ap (λ u. Some (plain u)) same

pub not_there : (bs : List Binder) (vs : List Value) (s i : ℕ) (b : Binder) → i < length bs → i < length vs → b ≡ get_or bs i b → b.sym.0 ≢ s
    → look_for s (with_arguments (drop i bs) (drop i vs)) ≡ look_for s (with_arguments (drop (i + 1) bs) (drop (i + 1) vs))
not_there bs vs s i b h g e differs =
    front bs vs s i b h g e
    ∙ ap (λ (t : Bool). if t then Some (plain (drop_value vs i g).0) else look_for s (with_arguments (drop (i + 1) bs) (drop (i + 1) vs))) (by (s == b.sym.0) refl)
  where
    by : (t : Bool) → (s == b.sym.0) ≡ t → (s == b.sym.0) ≡ false
    by true q = absurd (differs (sym (eqb-true s b.sym.0 q)))
    by false q = q

pub ended : (bs : List Binder) (vs : List Value) (s i : ℕ) → min (length bs) (length vs) ≤ i → look_for s (with_arguments (drop i bs) (drop i vs)) ≡ None
ended [] vs s zero h = refl
ended [] vs s (suc i) h = refl
ended (b ∷ bs) [] s zero h = refl
ended (b ∷ bs) [] s (suc i) h = none (drop i bs) s
  where
    none : (cs : List Binder) (t : ℕ) → look_for t (with_arguments cs []) ≡ None
    none [] t = refl
    none (c ∷ cs) t = refl
ended (b ∷ bs) (v ∷ vs) s zero h = absurd (omega arith)
ended (b ∷ bs) (v ∷ vs) s (suc i) h = ended bs vs s i (omega arith)
