-- A chain of loops becomes one loop.
use Rattle.std.proofs.Common.{◌≡◌, ◌≢◌, inl, inr, ℕ, zero, suc, ◌+◌, ◌≤◌, ◌==◌, if◌then◌else◌, Bool, true, false, ◌&&◌, List, [], ◌∷◌, ◌++◌, Some, None, refl, ap, sym, subst, ◌∙◌, arith, eqb-true, eq-eqb, ne_eqb}
use Rattle.weld_tree.specs.declared.binder.Binder.{Binder}
use Rattle.weld_tree.specs.declared.known.Known.{Known}
use Rattle.weld_tree.specs.TypeTree.{list}
use Rattle.weld_tree.specs.ExprTree.{At, ExprTree, leaf, one, two, three, many, let_in, loop, iterate, whole, strided, LegTrees, no_legs, more_legs, name, fresh, finish}
use Rattle.weld_tree.specs.Program.{loops, bound, bound_in_legs, IsOneOf}
use Rattle.weld_meaning.specs.Names.{IsFree, Binds}
use Rattle.weld_rewriting.specs.Within.{times, StaysWithin}
use Rattle.weld_rewriting.specs.Tidy.{IsTidy}
use Rattle.weld_rewriting.specs.Shape.{IsCongruence, EachPart, LegsHaveEach, LegsRelate}
use Rattle.weld_rewriting.specs.Rewriting.{Rewrites}
use Rattle.weld_rewriting.proofs.Counts.{times-append, one_of_times, distinct_times}
use Rattle.weld_substitution.proofs.Clear.{second_of, binds_each}
use Rattle.weld_substitution.proofs.Following.{and_true, both_true, or_right}
use Rattle.weld_substitution.specs.Uses.{uses}
use Rattle.weld_substitution.proofs.UsedNames.{used_or_free}
use Rattle.weld_rewriting.specs.Sweep.{or_same, settled}
use Rattle.weld_vertical.specs.Sinking.{starts_list, is_spine, merges, is_producer, is_filter, is_consumer, sunk, fused}
use Rattle.weld_vertical.proofs.Spine.{spine_by}
use Rattle.weld_vertical.proofs.Recognised.{consumer_by}
use Rattle.weld_vertical.specs.Fusing.{loops_rule}
use Rattle.weld_vertical.specs.Chains.{is_unnumbered, loop_before, IsChain, IsChainProgram, chain_fused, legs_fused}

-- the laws that this rests on
pub record ChainLaws : Type 0 where
  pub itself : (e : ExprTree) → Rewrites e e
  pub in_turn : (c d e : ExprTree) → Rewrites c d → Rewrites d e → Rewrites c e
  pub through : IsCongruence Rewrites
  pub parts : (e : ExprTree) → IsTidy e → EachPart IsTidy e
  pub within : (d e : ExprTree) → StaysWithin d e → IsTidy e → IsTidy d
  pub fuses : (e : ExprTree) → IsTidy e → is_consumer e ≡ true → Rewrites (fused e) e
  pub one_less : (e : ExprTree) → is_consumer e ≡ true → loops e ≡ suc (loops (fused e))

-- ---- the rule at one node

settled_by : (P : ExprTree → Type 0) (e : ExprTree) → P e → (is_consumer e ≡ true → P (fused e)) → P (settled loops_rule e)
settled_by P e here there = by (is_consumer e) refl
  where
    by : (c : Bool) → is_consumer e ≡ c → P (or_same (if c then Some (fused e) else None) e)
    by true h = there h
    by false h = here

settled_there : (e : ExprTree) → is_consumer e ≡ true → settled loops_rule e ≡ fused e
settled_there e h = ap (λ c. or_same (if c then Some (fused e) else None) e) h

-- ---- it rewrites

mutual
  pub chain_rewrites : ChainLaws → (e : ExprTree) → IsTidy e → Rewrites (chain_fused e) e
  chain_rewrites laws (leaf a l) tidy = laws.itself (leaf a l)
  chain_rewrites laws (one a o e) tidy = laws.through.at_one a o (chain_fused e) e (chain_rewrites laws e (laws.parts (one a o e) tidy))
  chain_rewrites laws (two a o e f) tidy = laws.itself (two a o e f)
  chain_rewrites laws (three a o e f g) tidy = laws.itself (three a o e f g)
  chain_rewrites laws (many a o es) tidy = laws.itself (many a o es)
  chain_rewrites laws (let_in a b e f) tidy = laws.itself (let_in a b e f)
  chain_rewrites laws (loop a ls e b n x f) tidy =
      let was : ExprTree = loop a ls e b n x f in
      let now : ExprTree = loop a (legs_fused ls) e b n x f in
      let w : Rewrites now was = laws.through.at_loop a (legs_fused ls) ls e e b n x f f (legs_rewrite laws ls (laws.parts was tidy).0) (laws.itself e) (laws.itself f) in
      settled_by (λ d. Rewrites d was) now w (λ h. laws.in_turn (fused now) now was (laws.fuses now (laws.within now was w.within tidy) h) w)
  chain_rewrites laws (iterate a e b f) tidy = laws.itself (iterate a e b f)

  legs_rewrite : ChainLaws → (ls : LegTrees) → LegsHaveEach IsTidy ls → LegsRelate Rewrites (legs_fused ls) ls
  legs_rewrite laws no_legs tidy = tt
  legs_rewrite laws (more_legs (whole e) ls) tidy = (chain_rewrites laws e tidy.0, legs_rewrite laws ls tidy.1)
  legs_rewrite laws (more_legs (strided e f g h) ls) tidy = ((laws.itself e, laws.itself f, laws.itself g, laws.itself h), legs_rewrite laws ls tidy.1)

-- before the rule is tried at a loop itself, it is tidy still
below_tidy : ChainLaws → (a : At) (ls : LegTrees) (e : ExprTree) (b n x : Binder) (f : ExprTree) → IsTidy (loop a ls e b n x f) → IsTidy (loop a (legs_fused ls) e b n x f)
below_tidy laws a ls e b n x f tidy =
    let was : ExprTree = loop a ls e b n x f in
    let now : ExprTree = loop a (legs_fused ls) e b n x f in
    let w : Rewrites now was = laws.through.at_loop a (legs_fused ls) ls e e b n x f f (legs_rewrite laws ls (laws.parts was tidy).0) (laws.itself e) (laws.itself f) in
    laws.within now was w.within tidy

-- ---- what it makes is a producer where the loop was

zero_is : (n : ℕ) → n ≡ 0 → (n == 0) ≡ true
zero_is n e = eq-eqb n 0 e

-- a spine sunk into a spine is one of the other builder's name
spine_sunk : (ty : Known) (s c i : ℕ) (n x : Binder) (f : ExprTree) → i ≢ c → is_spine c f ≡ true → (g : ExprTree) → is_spine s g ≡ true → uses g c ≡ 0 → is_spine c (sunk ty c i n x f g) ≡ true
spine_sunk ty s c i n x f ne spine =
    spine_by s (λ g. uses g c ≡ 0 → is_spine c (sunk ty c i n x f g) ≡ true) (λ a none. eq-eqb c c refl)
    (λ a z v h unused k none. both_true (uses v c == 0) (is_spine c (sunk ty c i n x f h)) (zero_is (uses v c) (omega (arith, none))) (k (omega (arith, none))))
    (λ a d e g unused k l none. both_true (uses d c == 0) (is_spine c (sunk ty c i n x f e) && is_spine c (sunk ty c i n x f g)) (zero_is (uses d c) (omega (arith, none)))
    (both_true (is_spine c (sunk ty c i n x f e)) (is_spine c (sunk ty c i n x f g)) (k (omega (arith, none))) (l (omega (arith, none)))))
    (λ a d v unused none. both_true (uses (leaf a (name i)) c == 0) ((uses v c == 0) && is_spine c f) (number a) (both_true (uses v c == 0) (is_spine c f) (zero_is (uses v c) (omega (arith, none))) spine))
  where
    number : (a : At) → (uses (leaf a (name i)) c == 0) ≡ true
    number a = ap (λ b. (if b then 1 else 0) == 0) (ne_eqb c i (λ e. ne (sym e)))

-- with as many merges as the other has
merges_sunk : (ty : Known) (s c i : ℕ) (n x : Binder) (f : ExprTree) → merges f ≡ 1 → (g : ExprTree) → is_spine s g ≡ true → merges (sunk ty c i n x f g) ≡ merges g
merges_sunk ty s c i n x f single =
    spine_by s (λ g. merges (sunk ty c i n x f g) ≡ merges g) (λ a. refl) (λ a z v h unused k. k) (λ a d e g unused k l. omega (arith, k, l)) (λ a d v unused. single)

-- ---- names

-- in a tidy loop over what another makes, its builder isn't the other's row number, and the other's body doesn't use it
module _ (a m p : At) (ks : LegTrees) (q e : ExprTree) (d i r b n x : Binder) (g f : ExprTree) where
  abbrev pattern : ExprTree
  pattern = loop a (more_legs (whole (one m finish (loop p ks q d i r g))) no_legs) e b n x f

  abbrev inner : List ℕ
  inner = d.sym.0 ∷ i.sym.0 ∷ r.sym.0 ∷ bound g

  abbrev mine : List ℕ
  mine = b.sym.0 ∷ n.sym.0 ∷ x.sym.0 ∷ bound f

  abbrev before : List ℕ
  before = bound_in_legs ks ++ (bound q ++ inner)

  record OwnBuilder : Type 0 where
    pub number : i.sym.0 ≢ b.sym.0
    pub unused : uses g b.sym.0 ≡ 0

  own_builder : IsTidy pattern → OwnBuilder
  own_builder tidy = record {
    number = λ same. apart i.sym.0 (inr (inl refl)) (inl same);
    unused = none (uses g b.sym.0) refl;
  }
    where
      all_times : (s : ℕ) → times (bound pattern) s ≡ times (bound_in_legs ks) s + times (bound q) s + times inner s + times (bound e) s + times mine s
      all_times s =
          omega (
            arith,
            times-append (before ++ []) (bound e ++ mine) s,
            times-append before [] s,
            times-append (bound_in_legs ks) (bound q ++ inner) s,
            times-append (bound q) inner s,
            times-append (bound e) mine s,
          )

      apart : (s : ℕ) → IsOneOf inner s → IsOneOf mine s → ⊥
      apart s h k = absurd (omega (arith, distinct_times (bound pattern) tidy.distinct s, all_times s, one_of_times inner s h, one_of_times mine s k))

      not_free : IsFree g b.sym.0 → ⊥
      not_free k =
          tidy.apart b.sym.0 (second_of (before ++ []) (bound e ++ mine) b.sym.0 (second_of (bound e) mine b.sym.0 (inl refl)))
          (inl (inl (inr (inr (k, λ same. apart b.sym.0 (inr (inr (inl same))) (inl refl), λ same. apart b.sym.0 (inr (inl same)) (inl refl), λ same. apart b.sym.0 (inl same) (inl refl))))))

      others : Binds (λ z. b.sym.0 ≢ z) g
      others = binds_each g (λ z. b.sym.0 ≢ z) (λ z h same. apart z (inr (inr (inr h))) (inl (sym same)))

      none : (k : ℕ) → uses g b.sym.0 ≡ k → uses g b.sym.0 ≡ 0
      none zero same = same
      none (suc k) same = absurd (not_free ((used_or_free g b.sym.0 others).0 (omega (arith, same))))

-- where the consumer makes a list too, the one loop does
filter_fused : (e : ExprTree) → is_consumer e ≡ true → IsTidy e → is_filter e ≡ true → is_filter (fused e) ≡ true
filter_fused =
    consumer_by (λ e. IsTidy e → is_filter e ≡ true → is_filter (fused e) ≡ true) (λ a e b n x f m p o item ks d i r g spine once numbered tidy h.
    let own = own_builder a m p ks (leaf o (fresh (list item))) e d i r b n x g f tidy in
    let u = and_true (starts_list e) (is_spine b.sym.0 f && (merges f == 1)) h in
    let v = and_true (is_spine b.sym.0 f) (merges f == 1) u.1 in
    let body : ExprTree = sunk a.ty b.sym.0 i.sym.0 n x f g in
    let single : merges body ≡ 1 = merges_sunk a.ty d.sym.0 b.sym.0 i.sym.0 n x f (eqb-true (merges f) 1 v.1) g spine ∙ once in
    both_true (starts_list e) (is_spine b.sym.0 body && (merges body == 1)) u.0
    (both_true (is_spine b.sym.0 body) (merges body == 1) (spine_sunk a.ty d.sym.0 b.sym.0 i.sym.0 n x f own.number v.0 g spine own.unused) (eq-eqb (merges body) 1 single)))

-- whether a loop makes a list as a filter does doesn't go by its legs
filter_kept : ChainLaws → (e : ExprTree) → IsTidy e → is_filter e ≡ true → is_filter (chain_fused e) ≡ true
filter_kept laws (leaf a l) tidy h = let nothing : ⊥ = cc in absurd nothing
filter_kept laws (one a o e) tidy h = let nothing : ⊥ = cc in absurd nothing
filter_kept laws (two a o e f) tidy h = let nothing : ⊥ = cc in absurd nothing
filter_kept laws (three a o e f g) tidy h = let nothing : ⊥ = cc in absurd nothing
filter_kept laws (many a o es) tidy h = let nothing : ⊥ = cc in absurd nothing
filter_kept laws (let_in a b e f) tidy h = let nothing : ⊥ = cc in absurd nothing
filter_kept laws (loop a ls e b n x f) tidy h =
    let now : ExprTree = loop a (legs_fused ls) e b n x f in
    settled_by (λ d. is_filter d ≡ true) now h (λ c. filter_fused now c (below_tidy laws a ls e b n x f tidy) h)
filter_kept laws (iterate a e b f) tidy h = let nothing : ⊥ = cc in absurd nothing

-- ---- each loop but the first is fused

-- a loop that doesn't use its row number, over one that is shorter now and makes a list still
one_shorter : ChainLaws → (k : ℕ) (a m : At) (e : ExprTree) (b n x : Binder) (f q was : ExprTree) → (uses f n.sym.0 == 0) ≡ true → is_filter q ≡ true → loops q + k ≤ loops was
    → loops (settled loops_rule (loop a (more_legs (whole (one m finish q)) no_legs) e b n x f)) + suc k ≤ loops (loop a (more_legs (whole (one m finish was)) no_legs) e b n x f)
one_shorter laws k a m e b n x f q was unnumbered makes shorter =
    let now : ExprTree = loop a (more_legs (whole (one m finish q)) no_legs) e b n x f in
    let consumes : is_consumer now ≡ true = or_right (is_producer q) (is_filter q && (uses f n.sym.0 == 0)) (both_true (is_filter q) (uses f n.sym.0 == 0) makes unnumbered) in
    let less = laws.one_less now consumes in
    subst (λ d. loops d + suc k ≤ loops (loop a (more_legs (whole (one m finish was)) no_legs) e b n x f)) (sym (settled_there now consumes)) (omega (arith, less, shorter))

shorter : ChainLaws → (k : ℕ) (e : ExprTree) → IsTidy e → IsChain k e → loops (chain_fused e) + k ≤ loops e
shorter laws zero e tidy chain = omega (arith, (chain_rewrites laws e tidy).within.no_more_loops)
shorter laws (suc k) e tidy chain =
    consumer_by (λ e. IsTidy e → is_unnumbered e ≡ true → IsChain k (loop_before e) → loops (chain_fused e) + suc k ≤ loops e)
    (λ a e b n x f m p o item ks d i r g spine once numbered tidy unnumbered rest.
    let q : ExprTree = loop p ks (leaf o (fresh (list item))) d i r g in
    let made : ExprTree = one m finish q in
    let tidy_made : IsTidy made = (laws.parts (loop a (more_legs (whole made) no_legs) e b n x f) tidy).0.0 in
    let tidy_before : IsTidy q = laws.parts made tidy_made in
    let makes : is_filter q ≡ true = both_true (is_spine d.sym.0 g) (merges g == 1) spine (eq-eqb (merges g) 1 once) in
    one_shorter laws k a m e b n x f (chain_fused q) q unnumbered (filter_kept laws q tidy_before makes) (shorter laws k q tidy_before rest))
    e chain.1 tidy chain.0 chain.2

pub chain_shorter : ChainLaws → (k : ℕ) (e : ExprTree) → IsTidy e → IsChainProgram k e → loops (chain_fused e) + k ≤ loops e
chain_shorter laws k (leaf a l) tidy chain = absurd chain
chain_shorter laws k (one a o e) tidy chain = shorter laws k e (laws.parts (one a o e) tidy) chain.1
chain_shorter laws k (two a o e f) tidy chain = absurd chain
chain_shorter laws k (three a o e f g) tidy chain = absurd chain
chain_shorter laws k (many a o es) tidy chain = absurd chain
chain_shorter laws k (let_in a b e f) tidy chain = absurd chain
chain_shorter laws k (loop a ls e b n x f) tidy chain = absurd chain
chain_shorter laws k (iterate a e b f) tidy chain = absurd chain
