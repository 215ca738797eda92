-- What is gathered node by node is the list of the free names, each once.
use Rattle.std.proofs.Common.{◌≡◌, ◌≢◌, ◌⊎◌, ◌↔◌, inl, inr, ℕ, ◌==◌, if◌then◌else◌, Bool, true, false, ◌||◌, List, [], ◌∷◌, ◌++◌, refl, sym, ◌∙◌, ap, subst, eq-eqb, ne_eqb}
use Rattle.std.proofs.lemmas.Bool.{cases_eq}
use Rattle.weld_tree.specs.ExprTree.{ExprTree, leaf, one, two, three, many, let_in, loop, iterate, ExprTrees, no_exprs, more_exprs, LegTree, whole, strided, LegTrees, no_legs, more_legs, Leaf, int, truth, chars, name, fresh}
use Rattle.weld_tree.specs.Program.{IsOneOf, AreDistinct}
use Rattle.weld_meaning.specs.Names.{LeafNames, IsFree, AreFree, LegIsFree, LegsAreFree}
use Rattle.weld_substitution.specs.FreeNames.{is_among, without, leaf_free_uses, free_uses, free_uses_in, free_uses_in_leg, free_uses_in_legs, noted_once, all_noted_once, each_once}
use Rattle.weld_substitution.specs.Gathering.{leaf_gathered, gathered, all_gathered, leg_gathered, legs_gathered}

-- ---- lists of numbers

among_both : (cs bs : List ℕ) (s : ℕ) → is_among (cs ++ bs) s ≡ (is_among cs s || is_among bs s)
among_both [] bs s = refl
among_both (c ∷ cs) bs s = ap (λ b. (s == c) || b) (among_both cs bs s) ∙ sym (or_of (s == c) (is_among cs s) (is_among bs s))
  where
    or_of : (a b c : Bool) → ((a || b) || c) ≡ (a || (b || c))
    or_of true b c = refl
    or_of false b c = refl

without_none : (xs : List ℕ) → without [] xs ≡ xs
without_none [] = refl
without_none (x ∷ xs) = ap (λ ys. x ∷ ys) (without_none xs)

without_both : (bs xs ys : List ℕ) → without bs (xs ++ ys) ≡ without bs xs ++ without bs ys
without_both bs [] ys = refl
without_both bs (x ∷ xs) ys = by (is_among bs x) (without bs (xs ++ ys)) (without bs xs) (without bs ys) (without_both bs xs ys)
  where
    by : (b : Bool) (zs us vs : List ℕ) → zs ≡ us ++ vs → (if b then zs else x ∷ zs) ≡ (if b then us else x ∷ us) ++ vs
    by true zs us vs p = p
    by false zs us vs p = ap (λ ws. x ∷ ws) p

without_more : (cs bs xs : List ℕ) → without bs (without cs xs) ≡ without (cs ++ bs) xs
without_more cs bs [] = refl
without_more cs bs (x ∷ xs) =
    by (is_among cs x) (without cs xs) (without (cs ++ bs) xs) (without_more cs bs xs)
    ∙ ap (λ b. if b then without (cs ++ bs) xs else x ∷ without (cs ++ bs) xs) (sym (among_both cs bs x))
  where
    by : (a : Bool) (zs ws : List ℕ) → without bs zs ≡ ws → without bs (if a then zs else x ∷ zs) ≡ (if a || is_among bs x then ws else x ∷ ws)
    by true zs ws p = p
    by false zs ws p = λ i. if is_among bs x then p i else x ∷ p i

once_both : (there xs ys : List ℕ) → all_noted_once there (xs ++ ys) ≡ all_noted_once (all_noted_once there xs) ys
once_both there [] ys = refl
once_both there (x ∷ xs) ys = once_both (noted_once there x) xs ys

-- what comes behind what is there, of two lists one after another
in_turn : (bound there xs ys : List ℕ) → all_noted_once (all_noted_once there (without bound xs)) (without bound ys) ≡ all_noted_once there (without bound (xs ++ ys))
in_turn bound there xs ys = sym (once_both there (without bound xs) (without bound ys)) ∙ ap (all_noted_once there) (sym (without_both bound xs ys))

-- and of the second under more binders
under : (cs bound there xs ys : List ℕ) → all_noted_once (all_noted_once there (without bound xs)) (without (cs ++ bound) ys) ≡ all_noted_once there (without bound (xs ++ without cs ys))
under cs bound there xs ys = ap (all_noted_once (all_noted_once there (without bound xs))) (sym (without_more cs bound ys)) ∙ in_turn bound there xs (without cs ys)

-- ---- gathering

-- what is gathered of an expression with these free uses
abbrev behind : List ℕ → List ℕ → List ℕ → List ℕ
behind there bound xs = all_noted_once there (without bound xs)

leaf_is : (l : Leaf) (bound there : List ℕ) → leaf_gathered l bound there ≡ behind there bound (leaf_free_uses l)
leaf_is (int k x) bound there = refl
leaf_is (truth b) bound there = refl
leaf_is (chars bs) bound there = refl
leaf_is (name s) bound there = by (is_among bound s)
  where
    by : (b : Bool) → (if b then there else noted_once there s) ≡ all_noted_once there (if b then [] else s ∷ [])
    by true = refl
    by false = refl
leaf_is (fresh b) bound there = refl

mutual
  gathered_is : (e : ExprTree) (bound there : List ℕ) → gathered e bound there ≡ behind there bound (free_uses e)
  gathered_is (leaf a l) bound there = leaf_is l bound there
  gathered_is (one a o e) bound there = gathered_is e bound there
  gathered_is (two a o e f) bound there =
      gathered_is f bound (gathered e bound there) ∙ ap (λ t. behind t bound (free_uses f)) (gathered_is e bound there)
      ∙ in_turn bound there (free_uses e) (free_uses f)
  gathered_is (three a o c e f) bound there =
      gathered_is f bound (gathered e bound (gathered c bound there))
      ∙ ap (λ t. behind t bound (free_uses f)) (gathered_is e bound (gathered c bound there))
      ∙ in_turn bound (gathered c bound there) (free_uses e) (free_uses f)
      ∙ ap (λ t. behind t bound (free_uses e ++ free_uses f)) (gathered_is c bound there)
      ∙ in_turn bound there (free_uses c) (free_uses e ++ free_uses f)
  gathered_is (many a o es) bound there = all_gathered_is es bound there
  gathered_is (let_in a b e f) bound there =
      gathered_is f (b.sym.0 ∷ bound) (gathered e bound there)
      ∙ ap (λ t. behind t (b.sym.0 ∷ bound) (free_uses f)) (gathered_is e bound there)
      ∙ under (b.sym.0 ∷ []) bound there (free_uses e) (free_uses f)
  gathered_is (loop a ls e b n x f) bound there =
      let cs : List ℕ = x.sym.0 ∷ n.sym.0 ∷ b.sym.0 ∷ [] in
      gathered_is f (x.sym.0 ∷ n.sym.0 ∷ b.sym.0 ∷ bound) (gathered e bound (legs_gathered ls bound there))
      ∙ ap (λ t. behind t (x.sym.0 ∷ n.sym.0 ∷ b.sym.0 ∷ bound) (free_uses f)) (gathered_is e bound (legs_gathered ls bound there))
      ∙ under cs bound (legs_gathered ls bound there) (free_uses e) (free_uses f)
      ∙ ap (λ t. behind t bound (free_uses e ++ without cs (free_uses f))) (legs_gathered_is ls bound there)
      ∙ in_turn bound there (free_uses_in_legs ls) (free_uses e ++ without cs (free_uses f))
  gathered_is (iterate a e b f) bound there =
      gathered_is f (b.sym.0 ∷ bound) (gathered e bound there)
      ∙ ap (λ t. behind t (b.sym.0 ∷ bound) (free_uses f)) (gathered_is e bound there)
      ∙ under (b.sym.0 ∷ []) bound there (free_uses e) (free_uses f)

  all_gathered_is : (es : ExprTrees) (bound there : List ℕ) → all_gathered es bound there ≡ behind there bound (free_uses_in es)
  all_gathered_is no_exprs bound there = refl
  all_gathered_is (more_exprs e es) bound there =
      all_gathered_is es bound (gathered e bound there) ∙ ap (λ t. behind t bound (free_uses_in es)) (gathered_is e bound there)
      ∙ in_turn bound there (free_uses e) (free_uses_in es)

  leg_gathered_is : (l : LegTree) (bound there : List ℕ) → leg_gathered l bound there ≡ behind there bound (free_uses_in_leg l)
  leg_gathered_is (whole e) bound there = gathered_is e bound there
  leg_gathered_is (strided e f h k) bound there =
      let one : List ℕ = gathered e bound there in
      let two : List ℕ = gathered f bound (gathered e bound there) in
      gathered_is k bound (gathered h bound (gathered f bound (gathered e bound there)))
      ∙ ap (λ t. behind t bound (free_uses k)) (gathered_is h bound (gathered f bound (gathered e bound there)))
      ∙ in_turn bound two (free_uses h) (free_uses k)
      ∙ ap (λ t. behind t bound (free_uses h ++ free_uses k)) (gathered_is f bound (gathered e bound there))
      ∙ in_turn bound one (free_uses f) (free_uses h ++ free_uses k)
      ∙ ap (λ t. behind t bound (free_uses f ++ (free_uses h ++ free_uses k))) (gathered_is e bound there)
      ∙ in_turn bound there (free_uses e) (free_uses f ++ (free_uses h ++ free_uses k))

  legs_gathered_is : (ls : LegTrees) (bound there : List ℕ) → legs_gathered ls bound there ≡ behind there bound (free_uses_in_legs ls)
  legs_gathered_is no_legs bound there = refl
  legs_gathered_is (more_legs l ls) bound there =
      legs_gathered_is ls bound (leg_gathered l bound there) ∙ ap (λ t. behind t bound (free_uses_in_legs ls)) (leg_gathered_is l bound there)
      ∙ in_turn bound there (free_uses_in_leg l) (free_uses_in_legs ls)

pub gathered_once : (e : ExprTree) → gathered e [] [] ≡ each_once (free_uses e)
gathered_once e = gathered_is e [] [] ∙ ap (all_noted_once []) (without_none (free_uses e))

-- ---- members

pub of_first : (xs ys : List ℕ) (s : ℕ) → IsOneOf xs s → IsOneOf (xs ++ ys) s
of_first [] ys s h = absurd h
of_first (x ∷ xs) ys s (inl e) = inl e
of_first (x ∷ xs) ys s (inr h) = inr (of_first xs ys s h)

pub of_second : (xs ys : List ℕ) (s : ℕ) → IsOneOf ys s → IsOneOf (xs ++ ys) s
of_second [] ys s h = h
of_second (x ∷ xs) ys s h = inr (of_second xs ys s h)

pub of_either : (xs ys : List ℕ) (s : ℕ) → IsOneOf (xs ++ ys) s → IsOneOf xs s ⊎ IsOneOf ys s
of_either [] ys s h = inr h
of_either (x ∷ xs) ys s (inl e) = inl (inl e)
of_either (x ∷ xs) ys s (inr h) = by (of_either xs ys s h)
  where
    by : IsOneOf xs s ⊎ IsOneOf ys s → IsOneOf (x ∷ xs) s ⊎ IsOneOf ys s
    by (inl k) = inl (inr k)
    by (inr k) = inr k

-- whether a number is there
is_there : (xs : List ℕ) (s : ℕ) → ((is_among xs s ≡ true) × IsOneOf xs s) ⊎ ((is_among xs s ≡ false) × (IsOneOf xs s → ⊥))
is_there [] s = inr (refl, λ h. h)
is_there (x ∷ xs) s = by (cases_eq s x) (is_there xs s)
  where
    by : (s ≡ x) ⊎ (s ≢ x) → ((is_among xs s ≡ true) × IsOneOf xs s) ⊎ ((is_among xs s ≡ false) × (IsOneOf xs s → ⊥))
        → ((is_among (x ∷ xs) s ≡ true) × IsOneOf (x ∷ xs) s) ⊎ ((is_among (x ∷ xs) s ≡ false) × (IsOneOf (x ∷ xs) s → ⊥))
    by (inl e) r = inl (rw (eq-eqb s x e) refl, inl e)
    by (inr ne) (inl r) = inl (rw (ne_eqb s x ne) r.0, inr r.1)
    by (inr ne) (inr r) = inr (rw (ne_eqb s x ne) r.0, elim [ inl e ↦ ne e | inr h ↦ r.1 h ])

-- ---- each once

distinct_more : (xs : List ℕ) (s : ℕ) → AreDistinct xs → (IsOneOf xs s → ⊥) → AreDistinct (xs ++ s ∷ [])
distinct_more [] s h missing = ((λ k. k), tt)
distinct_more (x ∷ xs) s h missing = ((λ k. by (of_either xs (s ∷ []) x k)), distinct_more xs s h.1 (λ k. missing (inr k)))
  where
    by : IsOneOf xs x ⊎ IsOneOf (s ∷ []) x → ⊥
    by (inl k) = h.0 k
    by (inr (inl e)) = missing (inl (sym e))
    by (inr (inr k)) = k

noted_distinct : (xs : List ℕ) (s : ℕ) → AreDistinct xs → AreDistinct (noted_once xs s)
noted_distinct xs s h = by (is_there xs s)
  where
    by : ((is_among xs s ≡ true) × IsOneOf xs s) ⊎ ((is_among xs s ≡ false) × (IsOneOf xs s → ⊥)) → AreDistinct (noted_once xs s)
    by (inl r) = subst (λ b. AreDistinct (if b then xs else xs ++ s ∷ [])) (sym r.0) h
    by (inr r) = subst (λ b. AreDistinct (if b then xs else xs ++ s ∷ [])) (sym r.0) (distinct_more xs s h r.1)

all_distinct : (there ss : List ℕ) → AreDistinct there → AreDistinct (all_noted_once there ss)
all_distinct there [] h = h
all_distinct there (s ∷ ss) h = all_distinct (noted_once there s) ss (noted_distinct there s h)

pub once_is_distinct : (e : ExprTree) → AreDistinct (each_once (free_uses e))
once_is_distinct e = all_distinct [] (free_uses e) tt

-- what is there stays, and so does what comes
noted_stays : (xs : List ℕ) (s t : ℕ) → IsOneOf xs t → IsOneOf (noted_once xs s) t
noted_stays xs s t h = by (is_among xs s)
  where
    by : (b : Bool) → IsOneOf (if b then xs else xs ++ s ∷ []) t
    by true = h
    by false = of_first xs (s ∷ []) t h

noted_comes : (xs : List ℕ) (s : ℕ) → IsOneOf (noted_once xs s) s
noted_comes xs s = by (is_there xs s)
  where
    by : ((is_among xs s ≡ true) × IsOneOf xs s) ⊎ ((is_among xs s ≡ false) × (IsOneOf xs s → ⊥)) → IsOneOf (noted_once xs s) s
    by (inl r) = subst (λ b. IsOneOf (if b then xs else xs ++ s ∷ []) s) (sym r.0) r.1
    by (inr r) = subst (λ b. IsOneOf (if b then xs else xs ++ s ∷ []) s) (sym r.0) (of_second xs (s ∷ []) s (inl refl))

noted_is : (xs : List ℕ) (s t : ℕ) → IsOneOf (noted_once xs s) t → IsOneOf xs t ⊎ (t ≡ s)
noted_is xs s t h = by (is_among xs s) h
  where
    last : IsOneOf xs t ⊎ IsOneOf (s ∷ []) t → IsOneOf xs t ⊎ (t ≡ s)
    last (inl k) = inl k
    last (inr (inl e)) = inr e
    last (inr (inr k)) = absurd k

    by : (b : Bool) → IsOneOf (if b then xs else xs ++ s ∷ []) t → IsOneOf xs t ⊎ (t ≡ s)
    by true k = inl k
    by false k = last (of_either xs (s ∷ []) t k)

all_stay : (there ss : List ℕ) (t : ℕ) → IsOneOf there t → IsOneOf (all_noted_once there ss) t
all_stay there [] t h = h
all_stay there (s ∷ ss) t h = all_stay (noted_once there s) ss t (noted_stays there s t h)

all_come : (there ss : List ℕ) (t : ℕ) → IsOneOf ss t → IsOneOf (all_noted_once there ss) t
all_come there [] t h = absurd h
all_come there (s ∷ ss) t (inl e) = all_stay (noted_once there s) ss t (subst (λ u. IsOneOf (noted_once there s) u) (sym e) (noted_comes there s))
all_come there (s ∷ ss) t (inr h) = all_come (noted_once there s) ss t h

all_are : (there ss : List ℕ) (t : ℕ) → IsOneOf (all_noted_once there ss) t → IsOneOf there t ⊎ IsOneOf ss t
all_are there [] t h = inl h
all_are there (s ∷ ss) t h = by (all_are (noted_once there s) ss t h)
  where
    first : IsOneOf there t ⊎ (t ≡ s) → IsOneOf there t ⊎ IsOneOf (s ∷ ss) t
    first (inl k) = inl k
    first (inr e) = inr (inl e)

    by : IsOneOf (noted_once there s) t ⊎ IsOneOf ss t → IsOneOf there t ⊎ IsOneOf (s ∷ ss) t
    by (inl k) = first (noted_is there s t k)
    by (inr k) = inr (inr k)

-- ---- free names

without_is : (bs xs : List ℕ) (t : ℕ) → IsOneOf (without bs xs) t → IsOneOf xs t × (IsOneOf bs t → ⊥)
without_is bs [] t h = absurd h
without_is bs (x ∷ xs) t h = by (is_there bs x) (without_is bs xs t)
  where
    rest : IsOneOf xs t × (IsOneOf bs t → ⊥) → IsOneOf (x ∷ xs) t × (IsOneOf bs t → ⊥)
    rest r = (inr r.0, r.1)

    stays : (IsOneOf bs x → ⊥) → (IsOneOf (without bs xs) t → IsOneOf xs t × (IsOneOf bs t → ⊥)) → IsOneOf (x ∷ without bs xs) t → IsOneOf (x ∷ xs) t × (IsOneOf bs t → ⊥)
    stays missing later (inl e) = (inl e, λ k. missing (subst (IsOneOf bs) e k))
    stays missing later (inr k) = rest (later k)

    by : ((is_among bs x ≡ true) × IsOneOf bs x) ⊎ ((is_among bs x ≡ false) × (IsOneOf bs x → ⊥)) → (IsOneOf (without bs xs) t → IsOneOf xs t × (IsOneOf bs t → ⊥))
        → IsOneOf (x ∷ xs) t × (IsOneOf bs t → ⊥)
    by (inl r) later = rest (later (subst (λ b. IsOneOf (if b then without bs xs else x ∷ without bs xs) t) r.0 h))
    by (inr r) later = stays r.1 later (subst (λ b. IsOneOf (if b then without bs xs else x ∷ without bs xs) t) r.0 h)

without_has : (bs xs : List ℕ) (t : ℕ) → IsOneOf xs t → (IsOneOf bs t → ⊥) → IsOneOf (without bs xs) t
without_has bs [] t h missing = absurd h
without_has bs (x ∷ xs) t (inl e) missing = by (is_there bs x)
  where
    by : ((is_among bs x ≡ true) × IsOneOf bs x) ⊎ ((is_among bs x ≡ false) × (IsOneOf bs x → ⊥)) → IsOneOf (without bs (x ∷ xs)) t
    by (inl r) = absurd (missing (subst (IsOneOf bs) (sym e) r.1))
    by (inr r) = subst (λ b. IsOneOf (if b then without bs xs else x ∷ without bs xs) t) (sym r.0) (inl e)
without_has bs (x ∷ xs) t (inr h) missing = by (is_among bs x) (without_has bs xs t h missing)
  where
    by : (b : Bool) → IsOneOf (without bs xs) t → IsOneOf (if b then without bs xs else x ∷ without bs xs) t
    by true k = k
    by false k = inr k

leaf_names : (l : Leaf) (s : ℕ) → IsOneOf (leaf_free_uses l) s → LeafNames l s
leaf_names (int k x) s h = h
leaf_names (truth b) s h = h
leaf_names (chars bs) s h = h
leaf_names (name t) s (inl e) = e
leaf_names (name t) s (inr h) = absurd h
leaf_names (fresh b) s h = h

named_leaf : (l : Leaf) (s : ℕ) → LeafNames l s → IsOneOf (leaf_free_uses l) s
named_leaf (int k x) s h = h
named_leaf (truth b) s h = h
named_leaf (chars bs) s h = h
named_leaf (name t) s e = inl e
named_leaf (fresh b) s h = h

-- from members of a list joined of two to what they are members of
joined : (xs ys : List ℕ) (s : ℕ) {P Q : Type 0} → (IsOneOf xs s → P) → (IsOneOf ys s → Q) → IsOneOf (xs ++ ys) s → P ⊎ Q
joined xs ys s f g h = elim (of_either xs ys s h) [ inl k ↦ inl (f k) | inr k ↦ inr (g k) ]

join : (xs ys : List ℕ) (s : ℕ) {P Q : Type 0} → (P → IsOneOf xs s) → (Q → IsOneOf ys s) → P ⊎ Q → IsOneOf (xs ++ ys) s
join xs ys s f g (inl p) = of_first xs ys s (f p)
join xs ys s f g (inr q) = of_second xs ys s (g q)

mutual
  is_free : (e : ExprTree) (s : ℕ) → IsOneOf (free_uses e) s → IsFree e s
  is_free (leaf a l) s h = leaf_names l s h
  is_free (one a o e) s h = is_free e s h
  is_free (two a o e f) s h = joined (free_uses e) (free_uses f) s (is_free e s) (is_free f s) h
  is_free (three a o c e f) s h = joined (free_uses c) (free_uses e ++ free_uses f) s (is_free c s) (joined (free_uses e) (free_uses f) s (is_free e s) (is_free f s)) h
  is_free (many a o es) s h = are_free es s h
  is_free (let_in a b e f) s h =
      joined (free_uses e) (without (b.sym.0 ∷ []) (free_uses f)) s (is_free e s)
      (λ k. let r = without_is (b.sym.0 ∷ []) (free_uses f) s k in (is_free f s r.0, λ q. r.1 (inl q))) h
  is_free (loop a ls e b n x f) s h =
      joined (free_uses_in_legs ls) (free_uses e ++ without (x.sym.0 ∷ n.sym.0 ∷ b.sym.0 ∷ []) (free_uses f)) s (legs_are_free ls s)
      (joined (free_uses e) (without (x.sym.0 ∷ n.sym.0 ∷ b.sym.0 ∷ []) (free_uses f)) s (is_free e s)
      (λ k. let r = without_is (x.sym.0 ∷ n.sym.0 ∷ b.sym.0 ∷ []) (free_uses f) s k in
      (is_free f s r.0, λ q. r.1 (inl q), λ q. r.1 (inr (inl q)), λ q. r.1 (inr (inr (inl q)))))) h
  is_free (iterate a e b f) s h =
      joined (free_uses e) (without (b.sym.0 ∷ []) (free_uses f)) s (is_free e s)
      (λ k. let r = without_is (b.sym.0 ∷ []) (free_uses f) s k in (is_free f s r.0, λ q. r.1 (inl q))) h

  are_free : (es : ExprTrees) (s : ℕ) → IsOneOf (free_uses_in es) s → AreFree es s
  are_free no_exprs s h = h
  are_free (more_exprs e es) s h = joined (free_uses e) (free_uses_in es) s (is_free e s) (are_free es s) h

  leg_is_free : (l : LegTree) (s : ℕ) → IsOneOf (free_uses_in_leg l) s → LegIsFree l s
  leg_is_free (whole e) s h = is_free e s h
  leg_is_free (strided e f g k) s h =
      joined (free_uses e) (free_uses f ++ (free_uses g ++ free_uses k)) s (is_free e s)
      (joined (free_uses f) (free_uses g ++ free_uses k) s (is_free f s) (joined (free_uses g) (free_uses k) s (is_free g s) (is_free k s))) h

  legs_are_free : (ls : LegTrees) (s : ℕ) → IsOneOf (free_uses_in_legs ls) s → LegsAreFree ls s
  legs_are_free no_legs s h = h
  legs_are_free (more_legs l ls) s h = joined (free_uses_in_leg l) (free_uses_in_legs ls) s (leg_is_free l s) (legs_are_free ls s) h

-- none of one, or of three
not_one : (b s : ℕ) → s ≢ b → IsOneOf (b ∷ []) s → ⊥
not_one b s ne (inl e) = ne e
not_one b s ne (inr k) = k

not_three : (x n b s : ℕ) → s ≢ x → s ≢ n → s ≢ b → IsOneOf (x ∷ n ∷ b ∷ []) s → ⊥
not_three x n b s p q r (inl e) = p e
not_three x n b s p q r (inr (inl e)) = q e
not_three x n b s p q r (inr (inr (inl e))) = r e
not_three x n b s p q r (inr (inr (inr k))) = k

mutual
  free_is : (e : ExprTree) (s : ℕ) → IsFree e s → IsOneOf (free_uses e) s
  free_is (leaf a l) s h = named_leaf l s h
  free_is (one a o e) s h = free_is e s h
  free_is (two a o e f) s h = join (free_uses e) (free_uses f) s (free_is e s) (free_is f s) h
  free_is (three a o c e f) s h = join (free_uses c) (free_uses e ++ free_uses f) s (free_is c s) (join (free_uses e) (free_uses f) s (free_is e s) (free_is f s)) h
  free_is (many a o es) s h = free_are es s h
  free_is (let_in a b e f) s h =
      join (free_uses e) (without (b.sym.0 ∷ []) (free_uses f)) s (free_is e s)
      (λ k. without_has (b.sym.0 ∷ []) (free_uses f) s (free_is f s k.0) (not_one b.sym.0 s k.1)) h
  free_is (loop a ls e b n x f) s h =
      join (free_uses_in_legs ls) (free_uses e ++ without (x.sym.0 ∷ n.sym.0 ∷ b.sym.0 ∷ []) (free_uses f)) s (free_legs_are ls s)
      (join (free_uses e) (without (x.sym.0 ∷ n.sym.0 ∷ b.sym.0 ∷ []) (free_uses f)) s (free_is e s)
      (λ k. without_has (x.sym.0 ∷ n.sym.0 ∷ b.sym.0 ∷ []) (free_uses f) s (free_is f s k.0) (not_three x.sym.0 n.sym.0 b.sym.0 s k.1 k.2 k.3))) h
  free_is (iterate a e b f) s h =
      join (free_uses e) (without (b.sym.0 ∷ []) (free_uses f)) s (free_is e s)
      (λ k. without_has (b.sym.0 ∷ []) (free_uses f) s (free_is f s k.0) (not_one b.sym.0 s k.1)) h

  free_are : (es : ExprTrees) (s : ℕ) → AreFree es s → IsOneOf (free_uses_in es) s
  free_are no_exprs s h = h
  free_are (more_exprs e es) s h = join (free_uses e) (free_uses_in es) s (free_is e s) (free_are es s) h

  free_leg_is : (l : LegTree) (s : ℕ) → LegIsFree l s → IsOneOf (free_uses_in_leg l) s
  free_leg_is (whole e) s h = free_is e s h
  free_leg_is (strided e f g k) s h =
      join (free_uses e) (free_uses f ++ (free_uses g ++ free_uses k)) s (free_is e s)
      (join (free_uses f) (free_uses g ++ free_uses k) s (free_is f s) (join (free_uses g) (free_uses k) s (free_is g s) (free_is k s))) h

  free_legs_are : (ls : LegTrees) (s : ℕ) → LegsAreFree ls s → IsOneOf (free_uses_in_legs ls) s
  free_legs_are no_legs s h = h
  free_legs_are (more_legs l ls) s h = join (free_uses_in_leg l) (free_uses_in_legs ls) s (free_leg_is l s) (free_legs_are ls s) h

pub free_is_among : (e : ExprTree) (s : ℕ) → IsOneOf (each_once (free_uses e)) s ↔ IsFree e s
free_is_among e s = (λ h. by (all_are [] (free_uses e) s h), λ h. all_come [] (free_uses e) s (free_is e s h))
  where
    by : IsOneOf [] s ⊎ IsOneOf (free_uses e) s → IsFree e s
    by (inl k) = absurd k
    by (inr k) = is_free e s k
