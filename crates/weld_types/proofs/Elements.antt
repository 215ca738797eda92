-- Elements of vectors, rows and turns.
use Rattle.std.proofs.Common.{◌≡◌, ℕ, ◌+◌, ◌<◌, ◌≤◌, ◌&&◌, Bool, true, false, List, [], ◌∷◌, ◌++◌, length, drop, get_or, sym, ap, ◌∙◌, refl, arith, zero, suc}
use Rattle.std.proofs.lemmas.List.{at_drop_more, drop_all}
use Rattle.weld_meaning.specs.Typing.{truth_type}
use Rattle.weld_tree.specs.TypeTree.{TypeTree, TypeTrees, pack, vec, struct, no_types, more_types}
use Rattle.weld_tree.specs.Types.{pair_of}
use Rattle.weld_tree.specs.declared.code.Code.{Code}
use Rattle.weld_tree.specs.declared.code.Code.TheVariants.{Y23}
use Rattle.weld_types.specs.Gathered.{before, before_judged}
use Rattle.weld_types.specs.Tests.{same_type}
use Rattle.weld_types.specs.Walk.{Judged, fits, breaks, elements, row_of, with_element}

-- these types and no others
pub before_none : (ts : List TypeTree) → before ts no_types ≡ pack ts
before_none [] = refl
before_none (t ∷ ts) = ap (more_types t) (before_none ts)

-- one more is gathered
pub before_more : (ts : List TypeTree) (u : TypeTree) (us : TypeTrees) → before (ts ++ u ∷ []) us ≡ before ts (more_types u us)
before_more [] u us = refl
before_more (t ∷ ts) u us = ap (more_types t) (before_more ts u us)

judged_more : (ts : List TypeTree) (u : TypeTree) (later : Judged TypeTrees) → before_judged ts (with_element (vec u) later) ≡ before_judged (ts ++ u ∷ []) later
judged_more ts u (fits us) = ap fits (sym (before_more ts u us))
judged_more ts u (breaks c) = refl

-- the element of one more vector is gathered
pub element_left : (vs ts : List TypeTree) (i : ℕ) (v u : TypeTree) → i < length vs → v ≡ get_or vs i v → v ≡ vec u
    → before_judged ts (elements (pack (drop i vs))) ≡ before_judged (ts ++ u ∷ []) (elements (pack (drop (i + 1) vs)))
element_left vs ts i v u h p e =
    at_drop_more (λ rest. before_judged ts (elements (pack rest))) vs i v h
    ∙ ap (λ w. before_judged ts (with_element w (elements (pack (drop (i + 1) vs))))) (sym p ∙ e)
    ∙ judged_more ts u (elements (pack (drop (i + 1) vs)))

-- what is no vector has no elements
pub element_missing : (vs ts : List TypeTree) (i : ℕ) (v : TypeTree) → i < length vs → v ≡ get_or vs i v → ((later : Judged TypeTrees) → with_element v later ≡ breaks Y23)
    → before_judged ts (elements (pack (drop i vs))) ≡ breaks Y23
element_missing vs ts i v h p lacks =
    at_drop_more (λ rest. before_judged ts (elements (pack rest))) vs i v h
    ∙ ap (λ w. before_judged ts (with_element w (elements (pack (drop (i + 1) vs))))) (sym p)
    ∙ ap (before_judged ts) (lacks (elements (pack (drop (i + 1) vs))))

-- no vector is left
pub no_element_left : (vs ts : List TypeTree) (i : ℕ) → length vs ≤ i → before_judged ts (elements (pack (drop i vs))) ≡ fits (pack ts)
no_element_left vs ts i h = ap (λ rest. before_judged ts (elements (pack rest))) (drop_all i vs h) ∙ ap fits (before_none ts)

pub row_of_one : (ts : List TypeTree) (t : TypeTree) → length ts ≡ 1 → t ≡ get_or ts 0 t → row_of (pack ts) ≡ fits t
row_of_one [] t h p = absurd (omega (arith, h))
row_of_one (u ∷ []) t h p = ap fits (sym p)
row_of_one (u ∷ v ∷ ts) t h p = absurd (omega (arith, h))

pub row_of_more : (ts : List TypeTree) → 2 ≤ length ts → row_of (pack ts) ≡ fits (struct (pack ts))
row_of_more [] h = absurd (omega (arith, h))
row_of_more (u ∷ []) h = absurd (omega (arith, h))
row_of_more (u ∷ v ∷ ts) h = refl

and_true : (b c : Bool) → (b && (c && true)) ≡ (b && c)
and_true b true = refl
and_true b false = refl

-- two fields are those of a turn where they are the state's and a truth value's
pub turn_of_two : (ts : List TypeTree) (t u s : TypeTree) → length ts ≡ 2 → t ≡ get_or ts 0 t → u ≡ get_or ts 1 u
    → same_type (struct (pack ts)) (pair_of s truth_type) ≡ (same_type t s && same_type u truth_type)
turn_of_two [] t u s h p q = absurd (omega (arith, h))
turn_of_two (x ∷ []) t u s h p q = absurd (omega (arith, h))
turn_of_two (x ∷ y ∷ []) t u s h p q = and_true (same_type x s) (same_type y truth_type) ∙ ap (λ v. same_type v s && same_type y truth_type) (sym p) ∙ ap (λ w. same_type t s && same_type w truth_type) (sym q)
turn_of_two (x ∷ y ∷ z ∷ ts) t u s h p q = absurd (omega (arith, h))

and_false : (b : Bool) → (b && false) ≡ false
and_false true = refl
and_false false = refl

more_is_false : (b c : Bool) → (b && (c && false)) ≡ false
more_is_false b c = ap (λ d. b && d) (and_false c) ∙ and_false b

-- any other number of fields are no turn's
pub turn_of_others : (ts : List TypeTree) (s : TypeTree) → ¬ (length ts ≡ 2) → same_type (struct (pack ts)) (pair_of s truth_type) ≡ false
turn_of_others [] s h = refl
turn_of_others (x ∷ []) s h = and_false (same_type x s)
turn_of_others (x ∷ y ∷ []) s h = absurd (h refl)
turn_of_others (x ∷ y ∷ z ∷ ts) s h = more_is_false (same_type x s) (same_type y truth_type)
