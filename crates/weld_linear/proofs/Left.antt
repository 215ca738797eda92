-- What is left of a list of origins from a place on.
use Rattle.std.proofs.Common.{◌≡◌, ◌≢◌, ℕ, zero, suc, ◌+◌, ◌<◌, ◌≤◌, Bool, true, false, ◌&&◌, List, [], ◌∷◌, ◌++◌, length, drop, get_or, refl, sym, ap, ◌∙◌, arith}
use Rattle.std.proofs.lemmas.List.{at_drop_more, drop_all}
use Rattle.weld_meaning.specs.Origin.{Path, Origin, Origins, no_origins, more_origins, is_value, are_values}
use Rattle.weld_meaning.specs.LinearWalk.{is_seen, are_seen, is_not_made, are_not_made, same_origin, same_origins}
use Rattle.weld_meaning.specs.Environment.{Named}
use Rattle.std.specs.List.{All}
use Rattle.weld_linear.specs.Sources.{pack_origins, origin_nodes, origins_nodes}
use Rattle.weld_linear.specs.Resolve.{resolve, all_resolve}
use Rattle.weld_linear.specs.Labels.{marked, all_marked}
use Rattle.weld_linear.specs.declared.source.marks.Label.{Label}

pub values_left : (os : List Origin) (i : ℕ) (o : Origin) → i < length os → o ≡ get_or os i o
    → are_values (pack_origins (drop i os)) ≡ is_value o && are_values (pack_origins (drop (i + 1) os))
values_left os i o h p = at_drop_more (λ rest. are_values (pack_origins rest)) os i o h ∙ ap (λ u. is_value u && are_values (pack_origins (drop (i + 1) os))) (sym p)

pub no_values_left : (os : List Origin) (i : ℕ) → length os ≤ i → are_values (pack_origins (drop i os)) ≡ true
no_values_left os i h = ap (λ rest. are_values (pack_origins rest)) (drop_all i os h)

-- origins of a list, and then others
abbrev pub joined : List Origin → Origins → Origins
joined [] os = os
joined (x ∷ xs) os = more_origins x (joined xs os)

pub joined_more : (xs : List Origin) (y : Origin) (os : Origins) → joined (xs ++ y ∷ []) os ≡ joined xs (more_origins y os)
joined_more [] y os = refl
joined_more (x ∷ xs) y os = ap (more_origins x) (joined_more xs y os)

pub joined_none : (xs : List Origin) → joined xs no_origins ≡ pack_origins xs
joined_none [] = refl
joined_none (x ∷ xs) = ap (more_origins x) (joined_none xs)

pub mark_left : (l : Label) (p : Path) (xs os : List Origin) (i : ℕ) (o : Origin) → i < length os → o ≡ get_or os i o
    → joined xs (all_marked l i p (pack_origins (drop i os))) ≡ joined (xs ++ marked l (i ∷ p) o ∷ []) (all_marked l (i + 1) p (pack_origins (drop (i + 1) os)))
mark_left l p xs os i o h e =
    let y : suc i ≡ (i + 1) = omega arith in
    ap (joined xs)
    (at_drop_more (λ rest. all_marked l i p (pack_origins rest)) os i o h
    ∙ ap (λ u. more_origins (marked l (i ∷ p) u) (all_marked l (suc i) p (pack_origins (drop (i + 1) os)))) (sym e)
    ∙ ap (λ m. more_origins (marked l (i ∷ p) o) (all_marked l m p (pack_origins (drop (i + 1) os)))) y)
    ∙ sym (joined_more xs (marked l (i ∷ p) o) (all_marked l (i + 1) p (pack_origins (drop (i + 1) os))))

pub no_mark_left : (l : Label) (p : Path) (xs os : List Origin) (i : ℕ) → length os ≤ i
    → joined xs (all_marked l i p (pack_origins (drop i os))) ≡ pack_origins xs
no_mark_left l p xs os i h = ap (λ rest. joined xs (all_marked l i p (pack_origins rest))) (drop_all i os h) ∙ joined_none xs

pub seen_left : (os : List Origin) (i : ℕ) (o : Origin) → i < length os → o ≡ get_or os i o
    → are_seen (pack_origins (drop i os)) ≡ is_seen o && are_seen (pack_origins (drop (i + 1) os))
seen_left os i o h p = at_drop_more (λ rest. are_seen (pack_origins rest)) os i o h ∙ ap (λ u. is_seen u && are_seen (pack_origins (drop (i + 1) os))) (sym p)

pub no_seen_left : (os : List Origin) (i : ℕ) → length os ≤ i → are_seen (pack_origins (drop i os)) ≡ true
no_seen_left os i h = ap (λ rest. are_seen (pack_origins rest)) (drop_all i os h)

pub not_made_left : (os : List Origin) (i : ℕ) (o : Origin) → i < length os → o ≡ get_or os i o
    → are_not_made (pack_origins (drop i os)) ≡ is_not_made o && are_not_made (pack_origins (drop (i + 1) os))
not_made_left os i o h p = at_drop_more (λ rest. are_not_made (pack_origins rest)) os i o h ∙ ap (λ u. is_not_made u && are_not_made (pack_origins (drop (i + 1) os))) (sym p)

pub no_not_made_left : (os : List Origin) (i : ℕ) → length os ≤ i → are_not_made (pack_origins (drop i os)) ≡ true
no_not_made_left os i h = ap (λ rest. are_not_made (pack_origins rest)) (drop_all i os h)

pub same_left : (os ps : List Origin) (i : ℕ) (o p : Origin) → i < length os → i < length ps → o ≡ get_or os i o → p ≡ get_or ps i p
    → same_origins (pack_origins (drop i os)) (pack_origins (drop i ps)) ≡ same_origin o p && same_origins (pack_origins (drop (i + 1) os)) (pack_origins (drop (i + 1) ps))
same_left os ps i o p h k e f =
    at_drop_more (λ rest. same_origins (pack_origins rest) (pack_origins (drop i ps))) os i o h
    ∙ at_drop_more (λ rest. same_origins (more_origins (get_or os i o) (pack_origins (drop (i + 1) os))) (pack_origins rest)) ps i p k
    ∙ (λ j. same_origin (sym e j) (sym f j) && same_origins (pack_origins (drop (i + 1) os)) (pack_origins (drop (i + 1) ps)))

pub no_same_left : (os ps : List Origin) (i : ℕ) → length os ≤ i → length ps ≤ i → same_origins (pack_origins (drop i os)) (pack_origins (drop i ps)) ≡ true
no_same_left os ps i h k = λ j. same_origins (pack_origins (drop_all i os h j)) (pack_origins (drop_all i ps k j))

and_false : (b : Bool) → b && false ≡ false
and_false true = refl
and_false false = refl

pub other_lengths : (os ps : List Origin) → length os ≢ length ps → same_origins (pack_origins os) (pack_origins ps) ≡ false
other_lengths [] [] n = absurd (n refl)
other_lengths [] (p ∷ ps) n = refl
other_lengths (o ∷ os) [] n = refl
other_lengths (o ∷ os) (p ∷ ps) n = ap (λ b. same_origin o p && b) (other_lengths os ps (λ e. n (let r : length (o ∷ os) ≡ length (p ∷ ps) = omega (arith, e) in r))) ∙ and_false (same_origin o p)

pub resolve_left : (g : Named Origin) (xs os : List Origin) (i : ℕ) (o : Origin) → i < length os → o ≡ get_or os i o
    → joined xs (all_resolve g (pack_origins (drop i os))) ≡ joined (xs ++ resolve g o ∷ []) (all_resolve g (pack_origins (drop (i + 1) os)))
resolve_left g xs os i o h e =
    ap (joined xs)
    (at_drop_more (λ rest. all_resolve g (pack_origins rest)) os i o h
    ∙ ap (λ u. more_origins (resolve g u) (all_resolve g (pack_origins (drop (i + 1) os)))) (sym e))
    ∙ sym (joined_more xs (resolve g o) (all_resolve g (pack_origins (drop (i + 1) os))))

pub no_resolve_left : (g : Named Origin) (xs os : List Origin) (i : ℕ) → length os ≤ i
    → joined xs (all_resolve g (pack_origins (drop i os))) ≡ pack_origins xs
no_resolve_left g xs os i h = ap (λ rest. joined xs (all_resolve g (pack_origins rest))) (drop_all i os h) ∙ joined_none xs

-- ---- sizes

origin_under : (os : List Origin) (k : ℕ) (d : Origin) → k < length os → origin_nodes (get_or os k d) ≤ origins_nodes (pack_origins os)
origin_under [] k d h = absurd (omega (arith, h))
origin_under (o ∷ os) zero d h = omega arith
origin_under (o ∷ os) (suc k) d h = omega (arith, origin_under os k d (omega (arith, h)))

-- none has more nodes than all together
pub origins_parts : (os : List Origin) → All (λ o. origin_nodes o ≤ origins_nodes (pack_origins os)) os
origins_parts os k d h = origin_under os k d h
