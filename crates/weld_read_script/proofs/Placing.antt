-- Objects placed one after another.
use Rattle.std.proofs.Common.{◌≡◌, ℕ, suc, ◌+◌, ◌<◌, ◌≤◌, List, [], ◌∷◌, ◌++◌, length, drop, get_or, refl, sym, ap, ◌∙◌, arith, ℤ}
use Rattle.std.proofs.lemmas.List.{drop_more, drop_all, append_assoc, append-nil, length-append}
use Rattle.weld_data.specs.declared.kind.Kind.{Kind}
use Rattle.weld_tree.specs.TypeTree.{TypeTree, scalar}
use Rattle.weld_read_script.specs.declared.requests.names.Object.{Object}
use Rattle.weld_read_script.specs.declared.requests.names.Object.TheVariants.{Before, Literal}
use Rattle.weld_script.specs.declared.made.Made.{Made}
use Rattle.weld_script.specs.declared.made.Made.TheVariants as makes
use Rattle.weld_read_script.specs.declared.steps.known.Known.{Known}
use Rattle.weld_read_script.specs.Steps.{with_literals, literals, literal_types, numbers}

-- the first i of the objects are placed
pub record Placing (start : Known) (objects : List Object) (i : ℕ) (k : Known) (ids : List ℕ) : Type 0 where
  pub known : with_literals start objects ≡ with_literals k (drop i objects)
  pub numbered : numbers (length start.made) objects ≡ ids ++ numbers (length k.made) (drop i objects)
  pub few : length k.made ≤ length start.made + i

pub placing_start : (start : Known) (objects : List Object) (ids : List ℕ) → ids ≡ [] → Placing start objects 0 start ids
placing_start start objects ids none = record {
  known = refl;
  numbered = ap (λ xs. xs ++ numbers (length start.made) objects) (sym none);
  few = omega arith;
}

left : (objects : List Object) (i : ℕ) (o p : Object) → i < length objects → o ≡ get_or objects i o → o ≡ p → drop i objects ≡ p ∷ drop (i + 1) objects
left objects i o p below is same = drop_more objects i o below ∙ ap (λ q. q ∷ drop (i + 1) objects) (sym is ∙ same)

pub placing_before : (start : Known) (objects : List Object) (i : ℕ) (k : Known) (ids after : List ℕ) (o : Object) (id : ℕ) → i < length objects → o ≡ get_or objects i o → o ≡ Before id
    → after ≡ ids ++ id ∷ [] → Placing start objects i k ids → Placing start objects (i + 1) k after
placing_before start objects i k ids after o id below is same added h =
    let rest : List Object = drop (i + 1) objects in
    let here : drop i objects ≡ Before id ∷ rest = left objects i o (Before id) below is same in
    record {
      known = h.known ∙ ap (with_literals k) here;
      numbered = h.numbered ∙ ap (λ os. ids ++ numbers (length k.made) os) here ∙ sym (append_assoc ids (id ∷ []) (numbers (length k.made) rest))
          ∙ ap (λ xs. xs ++ numbers (length k.made) rest) (sym added);
      few = omega (arith, h.few);
    }

abbrev pub with_literal : Known → Kind → ℤ → Known
with_literal k kind x = record k { made = k.made ++ makes.Literal kind x ∷ []; types = k.types ++ scalar kind ∷ [] }

abbrev remade : Known → List Made → List TypeTree → Known
remade k ms ts = record k { made = ms; types = ts }

literal_first : (k : Known) (kind : Kind) (x : ℤ) (os : List Object) → with_literals k (Literal kind x ∷ os) ≡ with_literals (with_literal k kind x) os
literal_first k kind x os =
    ap (λ ms. remade k ms (k.types ++ scalar kind ∷ literal_types os)) (sym (append_assoc k.made (makes.Literal kind x ∷ []) (literals os)))
    ∙ ap (remade k (k.made ++ makes.Literal kind x ∷ [] ++ literals os)) (sym (append_assoc k.types (scalar kind ∷ []) (literal_types os)))

pub placing_literal : (start : Known) (objects : List Object) (i : ℕ) (k next : Known) (ids after : List ℕ) (o : Object) (kind : Kind) (x : ℤ) → i < length objects
    → o ≡ get_or objects i o → o ≡ Literal kind x → after ≡ ids ++ length k.made ∷ [] → next ≡ with_literal k kind x
    → Placing start objects i k ids → Placing start objects (i + 1) next after
placing_literal start objects i k next ids after o kind x below is same added made h =
    let rest : List Object = drop (i + 1) objects in
    let here : drop i objects ≡ Literal kind x ∷ rest = left objects i o (Literal kind x) below is same in
    let longer : length next.made ≡ suc (length k.made) =
    ap (λ (q : Known). length q.made) made ∙ length-append k.made (makes.Literal kind x ∷ []) ∙ omega arith in
    record {
      known = h.known ∙ ap (with_literals k) here ∙ literal_first k kind x rest ∙ ap (λ q. with_literals q rest) (sym made);
      numbered = h.numbered ∙ ap (λ os. ids ++ numbers (length k.made) os) here
          ∙ sym (append_assoc ids (length k.made ∷ []) (numbers (suc (length k.made)) rest))
          ∙ ap (λ xs. xs ++ numbers (suc (length k.made)) rest) (sym added) ∙ ap (λ n. after ++ numbers n rest) (sym longer);
      few = omega (arith, h.few, longer);
    }

with_none : (k : Known) → with_literals k [] ≡ k
with_none k = ap (λ ms. remade k ms (k.types ++ [])) (append-nil k.made) ∙ ap (remade k k.made) (append-nil k.types)

pub placed_all : (start : Known) (objects : List Object) (i : ℕ) (k : Known) (ids : List ℕ) → length objects ≤ i → Placing start objects i k ids
    → k ≡ with_literals start objects
placed_all start objects i k ids past h = sym (h.known ∙ ap (with_literals k) (drop_all i objects past) ∙ with_none k)

pub numbered_all : (start : Known) (objects : List Object) (i : ℕ) (k : Known) (ids : List ℕ) → length objects ≤ i → Placing start objects i k ids
    → ids ≡ numbers (length start.made) objects
numbered_all start objects i k ids past h = sym (h.numbered ∙ ap (λ os. ids ++ numbers (length k.made) os) (drop_all i objects past) ∙ append-nil ids)
