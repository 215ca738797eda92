-- Lists that are handed over one by one, from the first.
use Rattle.std.proofs.Common.{◌≡◌, ℕ, ◌+◌, ◌-◌, ◌<◌, ◌≤◌, List, [], ◌∷◌, ◌++◌, length, get_or, set, map, drop, Option, refl, sym, ap, ◌∙◌, arith}
use Rattle.std.proofs.lemmas.List.{at_drop_more, drop_all, length-map}
use Rattle.weld_tree.specs.TypeTree.{TypeTree}
use Rattle.weld_tree.specs.ExprTree.{ExprTree, leaf, one, two, three, many, let_in, loop, iterate, LegTree, pack_exprs, pack_legs, more_exprs, more_legs}
use Rattle.weld_tree.specs.ExprFalls.{expr_nodes}
use Rattle.weld_tree.specs.ExprView.{view_leg}
use Rattle.weld_tree.specs.Lending.{refill, refill_is}
use Rattle.weld_tree.specs.declared.expr.Leg.{Leg}
use Rattle.weld_meaning.specs.Environment.{Named}
use Rattle.weld_meaning.specs.Origin.{Origin, origin, origins, more_origins}
use Rattle.weld_linear.specs.Sources.{pack_origins}
use Rattle.weld_rewriting.proofs.Lists.{up_to, next_one, changed, next_leg, leg_there, leg_changed}
use Rattle.weld_handing.specs.declared.settling.Consumer.{Consumer}
use Rattle.weld_handing.specs.Merging.{list_merges, all_list_merges, leg_list_merges, legs_list_merges}
use Rattle.weld_handing.specs.Walking.{left, taken, handed_for, all_handed_for, leg_handed_for, legs_handed_for}
use Rattle.weld_handing.proofs.Lists.{behind, behind_more, behind_none}
use Rattle.weld_handing.proofs.Walked.{more_left, more_taken, handed_on, leg_handed_on}

-- of so many merges, the rest of which are still to come, the first have taken the consumer
pub record IsTaken (all rest : ℕ) (c m : Option Consumer) : Type 0 where
  pub fewer : rest ≤ all
  pub same : m ≡ taken (all - rest) c

-- the next has no more merges than are left
pub next_left : (all rest k more : ℕ) (c m : Option Consumer) → all ≤ left c → rest ≡ k + more → IsTaken all rest c m → k ≤ left m
next_left all rest k more c m h e t =
    more_left (all - rest) k c m t.same (omega (arith, h, e, t.fewer))

pub next_taken : (all rest k more : ℕ) (c m n : Option Consumer) → rest ≡ k + more → IsTaken all rest c m → n ≡ taken k m → IsTaken all more c n
next_taken all rest k more c m n e t u =
    let z : (all - rest) + k ≡ all - more = omega (arith, e, t.fewer) in
    record { fewer = omega (arith, e, t.fewer); same = more_taken (all - rest) k c m n t.same u ∙ ap (λ j. taken j c) z }

pub next_handed : (t : TypeTree) (i all rest more : ℕ) (c m : Option Consumer) (q : Named Origin) (e g : ExprTree) → all ≤ left c → rest ≡ list_merges q e + more → IsTaken all rest c m
    → g ≡ handed_for t i m q e → g ≡ handed_for t i c q e
next_handed t i all rest more c m q e g h s k p = handed_on t i (all - rest) c m q e g k.same (omega (arith, h, s, k.fewer)) p

pub next_leg_handed : (t : TypeTree) (i all rest more : ℕ) (c m : Option Consumer) (q : Named Origin) (l g : LegTree) → all ≤ left c → rest ≡ leg_list_merges q l + more → IsTaken all rest c m
    → g ≡ leg_handed_for t i m q l → g ≡ leg_handed_for t i c q l
next_leg_handed t i all rest more c m q l g h s k p = leg_handed_on t i (all - rest) c m q l g k.same (omega (arith, h, s, k.fewer)) p

-- ---- what is left of the lists

pub merges_of_rest : (q : Named Origin) (es : List ExprTree) (i : ℕ) (d : ExprTree) → i < length es
    → all_list_merges q (pack_exprs (drop i es)) ≡ list_merges q (get_or es i d) + all_list_merges q (pack_exprs (drop (i + 1) es))
merges_of_rest q es i d h = at_drop_more (λ rest. all_list_merges q (pack_exprs rest)) es i d h

pub merges_of_legs : (q : Named Origin) (ls : List LegTree) (i : ℕ) (d : LegTree) → i < length ls
    → legs_list_merges q (pack_legs (drop i ls)) ≡ leg_list_merges q (get_or ls i d) + legs_list_merges q (pack_legs (drop (i + 1) ls))
merges_of_legs q ls i d h = at_drop_more (λ rest. legs_list_merges q (pack_legs rest)) ls i d h

pub origins_next : (g : Named Origin) (xs ys : List Origin) (es : List ExprTree) (i : ℕ) (d : ExprTree) (o : Origin) → i < length es → o ≡ origin (get_or es i d) g → ys ≡ xs ++ o ∷ []
    → origins (pack_exprs es) g ≡ behind xs (origins (pack_exprs (drop i es)) g) → origins (pack_exprs es) g ≡ behind ys (origins (pack_exprs (drop (i + 1) es)) g)
origins_next g xs ys es i d o h p y s =
    s
    ∙ ap (behind xs) (at_drop_more (λ rest. origins (pack_exprs rest) g) es i d h ∙ ap (λ u. more_origins u (origins (pack_exprs (drop (i + 1) es)) g)) (sym p))
    ∙ sym (behind_more xs o (origins (pack_exprs (drop (i + 1) es)) g))
    ∙ ap (λ zs. behind zs (origins (pack_exprs (drop (i + 1) es)) g)) (sym y)

pub origins_all : (g : Named Origin) (xs : List Origin) (es : List ExprTree) (i : ℕ) → length es ≤ i → origins (pack_exprs es) g ≡ behind xs (origins (pack_exprs (drop i es)) g) → pack_origins xs ≡ origins (pack_exprs es) g
origins_all g xs es i h s = sym (s ∙ ap (λ rest. behind xs (origins (pack_exprs rest) g)) (drop_all i es h) ∙ behind_none xs)

-- ---- lists as data

packed : (t : TypeTree) (i : ℕ) (c : Option Consumer) (q : Named Origin) (es : List ExprTree) → pack_exprs (map (handed_for t i c q) es) ≡ all_handed_for t i c q (pack_exprs es)
packed t i c q [] = refl
packed t i c q (e ∷ es) = ap (more_exprs (handed_for t i c q e)) (packed t i c q es)

packed_legs : (t : TypeTree) (i : ℕ) (c : Option Consumer) (q : Named Origin) (ls : List LegTree) → pack_legs (map (leg_handed_for t i c q) ls) ≡ legs_handed_for t i c q (pack_legs ls)
packed_legs t i c q [] = refl
packed_legs t i c q (l ∷ ls) = ap (more_legs (leg_handed_for t i c q l)) (packed_legs t i c q ls)

-- what the slice was made is what the list is
pub list_handed : (t : TypeTree) (i : ℕ) (c : Option Consumer) (q : Named Origin) (old was new : List ExprTree) → was ≡ old → new ≡ map (handed_for t i c q) was → pack_exprs (refill old new) ≡ all_handed_for t i c q (pack_exprs old)
list_handed t i c q old was new p s =
    ap pack_exprs (ap (refill old) (s ∙ ap (map (handed_for t i c q)) p) ∙ refill_is old (map (handed_for t i c q) old) (length-map old (handed_for t i c q))) ∙ packed t i c q old

pub legs_list_handed : (t : TypeTree) (i : ℕ) (c : Option Consumer) (q : Named Origin) (old was new : List LegTree) → was ≡ old → new ≡ map (leg_handed_for t i c q) was → pack_legs (refill old new) ≡ legs_handed_for t i c q (pack_legs old)
legs_list_handed t i c q old was new p s =
    ap pack_legs (ap (refill old) (s ∙ ap (map (leg_handed_for t i c q)) p) ∙ refill_is old (map (leg_handed_for t i c q) old) (length-map old (leg_handed_for t i c q))) ∙ packed_legs t i c q old

-- ---- one of a list is handed over

pub some_nodes : (e : ExprTree) → 1 ≤ expr_nodes e
some_nodes (leaf a l) = omega arith
some_nodes (one a o e) = omega arith
some_nodes (two a o e v) = omega arith
some_nodes (three a o d e g) = omega arith
some_nodes (many a o es) = omega arith
some_nodes (let_in a z v g) = omega arith
some_nodes (loop a ls e b m y g) = omega arith
some_nodes (iterate a e b g) = omega arith

module _ (t : TypeTree) (i : ℕ) (c : Option Consumer) (q : Named Origin) (es was : List ExprTree) (k : ℕ) (d : ExprTree) (m : Option Consumer) where
  pub part_may : all_list_merges q (pack_exprs es) ≤ left c → k < length es → was ≡ up_to (handed_for t i c q) k es → IsTaken (all_list_merges q (pack_exprs es)) (all_list_merges q (pack_exprs (drop k es))) c m
      → list_merges q (get_or was k d) ≤ left m
  part_may h lt p s =
      let r : list_merges q (get_or es k d) ≤ left m = next_left _ _ _ _ c m h (merges_of_rest q es k d lt) s in
      let e : list_merges q (get_or was k d) ≡ list_merges q (get_or es k d) = ap (list_merges q) (next_one (handed_for t i c q) k was es d p) in
      omega (arith, r, e)

  pub part_taken : (n : Option Consumer) → k < length es → was ≡ up_to (handed_for t i c q) k es → IsTaken (all_list_merges q (pack_exprs es)) (all_list_merges q (pack_exprs (drop k es))) c m
      → n ≡ taken (list_merges q (get_or was k d)) m → IsTaken (all_list_merges q (pack_exprs es)) (all_list_merges q (pack_exprs (drop (k + 1) es))) c n
  part_taken n lt p s u =
      next_taken _ _ _ _ c m n (merges_of_rest q es k d lt) s (u ∙ ap (λ (e : ExprTree). taken (list_merges q e) m) (next_one (handed_for t i c q) k was es d p))

  pub part_handed : (now : ExprTree) → all_list_merges q (pack_exprs es) ≤ left c → k < length es → was ≡ up_to (handed_for t i c q) k es
      → IsTaken (all_list_merges q (pack_exprs es)) (all_list_merges q (pack_exprs (drop k es))) c m
      → now ≡ handed_for t i m q (get_or was k d) → set was k now ≡ up_to (handed_for t i c q) (k + 1) es
  part_handed now h lt p s u =
      let same : get_or was k d ≡ get_or es k d = next_one (handed_for t i c q) k was es d p in
      let there : now ≡ handed_for t i c q (get_or es k d) =
      next_handed t i _ _ _ c m q (get_or es k d) now h (merges_of_rest q es k d lt) s (u ∙ ap (handed_for t i m q) same) in
      changed (handed_for t i c q) k was es now d p lt (there ∙ ap (handed_for t i c q) (sym same))

  pub part_origin : (xs ys : List Origin) (o : Origin) → k < length es → was ≡ up_to (handed_for t i c q) k es → o ≡ origin (get_or was k d) q → ys ≡ xs ++ o ∷ []
      → origins (pack_exprs es) q ≡ behind xs (origins (pack_exprs (drop k es)) q) → origins (pack_exprs es) q ≡ behind ys (origins (pack_exprs (drop (k + 1) es)) q)
  part_origin xs ys o lt p u y s = origins_next q xs ys es k d o lt (u ∙ ap (λ (e : ExprTree). origin e q) (next_one (handed_for t i c q) k was es d p)) y s

module _ (t : TypeTree) (i : ℕ) (c : Option Consumer) (q : Named Origin) (ls was : List Leg) (k : ℕ) (d : Leg) (m : Option Consumer) where
  abbrev pub LegsTaken : Type 0
  LegsTaken = IsTaken (legs_list_merges q (pack_legs (map view_leg ls))) (legs_list_merges q (pack_legs (drop k (map view_leg ls)))) c m

  pub leg_may : legs_list_merges q (pack_legs (map view_leg ls)) ≤ left c → k < length ls → map view_leg was ≡ up_to (leg_handed_for t i c q) k (map view_leg ls) → LegsTaken
      → leg_list_merges q (view_leg (get_or was k d)) ≤ left m
  leg_may h lt p s =
      let r : leg_list_merges q (get_or (map view_leg ls) k (view_leg d)) ≤ left m = next_left _ _ _ _ c m h (merges_of_legs q (map view_leg ls) k (view_leg d) (leg_there k ls lt)) s in
      let e : leg_list_merges q (view_leg (get_or was k d)) ≡ leg_list_merges q (get_or (map view_leg ls) k (view_leg d)) = ap (leg_list_merges q) (next_leg (leg_handed_for t i c q) k was ls d p lt) in
      omega (arith, r, e)

  pub leg_taken : (n : Option Consumer) → k < length ls → map view_leg was ≡ up_to (leg_handed_for t i c q) k (map view_leg ls) → LegsTaken
      → n ≡ taken (leg_list_merges q (view_leg (get_or was k d))) m → IsTaken (legs_list_merges q (pack_legs (map view_leg ls))) (legs_list_merges q (pack_legs (drop (k + 1) (map view_leg ls)))) c n
  leg_taken n lt p s u =
      next_taken _ _ _ _ c m n (merges_of_legs q (map view_leg ls) k (view_leg d) (leg_there k ls lt)) s
      (u ∙ ap (λ (l : LegTree). taken (leg_list_merges q l) m) (next_leg (leg_handed_for t i c q) k was ls d p lt))

  pub leg_handed : (now : Leg) → legs_list_merges q (pack_legs (map view_leg ls)) ≤ left c → k < length ls → map view_leg was ≡ up_to (leg_handed_for t i c q) k (map view_leg ls) → LegsTaken
      → view_leg now ≡ leg_handed_for t i m q (view_leg (get_or was k d)) → map view_leg (set was k now) ≡ up_to (leg_handed_for t i c q) (k + 1) (map view_leg ls)
  leg_handed now h lt p s u =
      let same : view_leg (get_or was k d) ≡ get_or (map view_leg ls) k (view_leg d) = next_leg (leg_handed_for t i c q) k was ls d p lt in
      let there : view_leg now ≡ leg_handed_for t i c q (get_or (map view_leg ls) k (view_leg d)) =
      next_leg_handed t i _ _ _ c m q (get_or (map view_leg ls) k (view_leg d)) (view_leg now) h (merges_of_legs q (map view_leg ls) k (view_leg d) (leg_there k ls lt)) s (u ∙ ap (leg_handed_for t i m q) same) in
      leg_changed (leg_handed_for t i c q) k was ls now d p lt (there ∙ ap (leg_handed_for t i c q) (sym same))
