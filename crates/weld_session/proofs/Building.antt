-- The objects of a script as those of a graph, one after another.
use Rattle.std.proofs.Common.{◌≡◌, ℕ, zero, suc, ◌+◌, ◌<◌, ◌≤◌, List, [], ◌∷◌, ◌++◌, length, drop, get_or, refl, ap, sym, subst, ◌∙◌, append_assoc, append-nil, add-one, arith}
use Rattle.std.proofs.Math.Seq.{drop-cons}
use Rattle.std.proofs.lemmas.List.{drop_all, map-append}
use Rattle.weld_data.specs.Value.{Value}
use Rattle.weld_tree.specs.TypeTree.{TypeTree}
use Rattle.weld_objects.specs.Objects.{Object, type_of}
use Rattle.weld_script.specs.declared.made.Made.{Made}
use Rattle.weld_script.specs.declared.made.Made.TheVariants as makes
use Rattle.weld_script.specs.Script.{AreMade, IsMade, AreInputs, declared_of, made_type, made_types_from}
use Rattle.weld_session.specs.Answer.{left_after}
use Rattle.weld_session.specs.Gathering.{object_of, objects_from, types_of, Hands}

pub type_is : (types : List TypeTree) (inputs : List Value) (m : Made) → type_of (object_of types inputs m) ≡ made_type types m
type_is types inputs (makes.Declared d) = refl
type_is types inputs (makes.Literal k x) = refl
type_is types inputs (makes.Call c ids) = refl

-- the types of what is made are those of the graph's objects
pub types_made : (types : List TypeTree) (inputs : List Value) (ms : List Made) → made_types_from types ms ≡ types ++ types_of (objects_from types inputs ms)
types_made types inputs [] = sym (append-nil types)
types_made types inputs (m ∷ ms) =
    types_made (types ++ made_type types m ∷ []) (left_after m inputs) ms
    ∙ append_assoc types (made_type types m ∷ []) (types_of (objects_from (types ++ made_type types m ∷ []) (left_after m inputs) ms))
    ∙ ap (λ t. types ++ t ∷ types_of (objects_from (types ++ made_type types m ∷ []) (left_after m inputs) ms)) (sym (type_is types inputs m))

pub objects_count : (types : List TypeTree) (inputs : List Value) (ms : List Made) → length (objects_from types inputs ms) ≡ length ms
objects_count types inputs [] = refl
objects_count types inputs (m ∷ ms) = ap suc (objects_count (types ++ made_type types m ∷ []) (left_after m inputs) ms)

-- ---- the loop

-- the first objects are there; what is left decides
pub record SoFar (made : List Made) (inputs : List Value) (i : ℕ) (os : List Object) (left : List Value) : Type 0 where
  pub may : AreMade (types_of os) (drop i made)
  pub fit : AreInputs (declared_of (drop i made)) left
  pub all : os ++ objects_from (types_of os) left (drop i made) ≡ objects_from [] inputs made
  pub count : length os ≡ i

pub nothing_yet : (made : List Made) (inputs : List Value) (os : List Object) (left : List Value) → AreMade [] made → AreInputs (declared_of made) inputs → os ≡ [] → left ≡ inputs → SoFar made inputs 0 os left
nothing_yet made inputs os left may fit e f =
    let start : SoFar made inputs 0 [] inputs = record { may = may; fit = fit; all = refl; count = refl } in
    subst (λ ps. SoFar made inputs 0 ps left) (sym e) (subst (SoFar made inputs 0 []) (sym f) start)

pub next_made : (ms : List Made) (i : ℕ) (m : Made) → i < length ms → m ≡ get_or ms i m → drop i ms ≡ m ∷ drop (i + 1) ms
next_made ms i m l e = drop-cons ms i m l ∙ ap (λ (x : Made). x ∷ drop (suc i) ms) (sym e) ∙ ap (λ (k : ℕ). m ∷ drop k ms) (sym (add-one i))

hands : (m : Made) (ms : List Made) (left : List Value) → AreInputs (declared_of (m ∷ ms)) left → Hands m left
hands (makes.Declared d) ms [] h = h
hands (makes.Declared d) ms (v ∷ vs) h = h.0
hands (makes.Literal k x) ms left h = tt
hands (makes.Call c ids) ms left h = tt

pub fit_after : (m : Made) (ms : List Made) (left : List Value) → AreInputs (declared_of (m ∷ ms)) left → AreInputs (declared_of ms) (left_after m left)
fit_after (makes.Declared d) ms [] h = absurd h
fit_after (makes.Declared d) ms (v ∷ vs) h = h.1
fit_after (makes.Literal k x) ms left h = h
fit_after (makes.Call c ids) ms left h = h

-- what is known of the next object
pub record Next (os : List Object) (left : List Value) (m : Made) : Type 0 where
  pub may : IsMade (types_of os) m
  pub hands : Hands m left
  pub room : length os < 4294967295

pub next_of : (made : List Made) (inputs : List Value) (i : ℕ) (os : List Object) (left : List Value) (m : Made) → length made ≤ 864 → i < length made → m ≡ get_or made i m → SoFar made inputs i os left → Next os left m
next_of made inputs i os left m few l e s =
    let here = next_made made i m l e in
    let may : AreMade (types_of os) (m ∷ drop (i + 1) made) = subst (AreMade (types_of os)) here s.may in
    let fit : AreInputs (declared_of (m ∷ drop (i + 1) made)) left = subst (λ ms. AreInputs (declared_of ms) left) here s.fit in
    record { may = may.0; hands = hands m (drop (i + 1) made) left fit; room = omega (arith, few, l, s.count) }

types_more : (os : List Object) (left : List Value) (m : Made) → types_of (os ++ object_of (types_of os) left m ∷ []) ≡ types_of os ++ made_type (types_of os) m ∷ []
types_more os left m = map-append type_of os (object_of (types_of os) left m ∷ []) ∙ ap (λ t. types_of os ++ t ∷ []) (type_is (types_of os) left m)

count_more : (os : List Object) (o : Object) (i : ℕ) → length os ≡ i → length (os ++ o ∷ []) ≡ i + 1
count_more [] o i e = omega (arith, e)
count_more (p ∷ os) o zero e = absurd (omega (arith, e))
count_more (p ∷ os) o (suc i) e = let further = count_more os o i (omega (arith, e)) in omega (arith, further)

pub one_more : (made : List Made) (inputs : List Value) (i : ℕ) (os ps : List Object) (left more : List Value) (m : Made) → i < length made → m ≡ get_or made i m → SoFar made inputs i os left
    → ps ≡ os ++ object_of (types_of os) left m ∷ [] → more ≡ left_after m left → SoFar made inputs (i + 1) ps more
one_more made inputs i os ps left more m l e s added gone =
    let here = next_made made i m l e in
    let rest = drop (i + 1) made in
    let may : AreMade (types_of os) (m ∷ rest) = subst (AreMade (types_of os)) here s.may in
    let fit : AreInputs (declared_of (m ∷ rest)) left = subst (λ ms. AreInputs (declared_of ms) left) here s.fit in
    let all : os ++ objects_from (types_of os) left (m ∷ rest) ≡ objects_from [] inputs made = subst (λ ms. os ++ objects_from (types_of os) left ms ≡ objects_from [] inputs made) here s.all in
    let types = types_more os left m in
    let now : SoFar made inputs (i + 1) (os ++ object_of (types_of os) left m ∷ []) (left_after m left) = record {
      may = subst (λ ts. AreMade ts rest) (sym types) may.1;
      fit = fit_after m rest left fit;
      all = ap (λ ts. (os ++ object_of (types_of os) left m ∷ []) ++ objects_from ts (left_after m left) rest) types
          ∙ append_assoc os (object_of (types_of os) left m ∷ []) (objects_from (types_of os ++ made_type (types_of os) m ∷ []) (left_after m left) rest) ∙ all;
      count = count_more os (object_of (types_of os) left m) i s.count;
    } in
    subst (λ qs. SoFar made inputs (i + 1) qs more) (sym added) (subst (SoFar made inputs (i + 1) (os ++ object_of (types_of os) left m ∷ [])) (sym gone) now)

pub all_made : (made : List Made) (inputs : List Value) (i : ℕ) (os : List Object) (left : List Value) → length made ≤ i → SoFar made inputs i os left → os ≡ objects_from [] inputs made
all_made made inputs i os left l s =
    sym (append-nil os) ∙ ap (λ ms. os ++ objects_from (types_of os) left ms) (sym (drop_all i made l)) ∙ s.all
