-- A `let` of a pair may be rewritten to one of a part, with the other part put in its place.
use Rattle.std.proofs.Common.{◌≡◌, ◌≢◌, ℕ, suc, ◌+◌, ◌*◌, ◌≤◌, ◌<◌, ◌==◌, if◌then◌else◌, Bool, true, false, not, List, [], ◌∷◌, ◌++◌, Option, Some, None, length, refl, ap, sym, subst, ◌∙◌, ◌⊎◌, inl, inr, eq-eqb, eqb-true, arith, length-append}
use Rattle.std.proofs.lemmas.Bool.{cases_eq}
use Rattle.weld_tree.specs.declared.binder.Binder.{Binder}
use Rattle.weld_tree.specs.TypeTree.{TypeTree}
use Rattle.weld_tree.specs.ExprTree.{At, ExprTree, leaf, one, two, three, many, let_in, loop, iterate, ExprTrees, no_exprs, more_exprs, LegTree, whole, strided, LegTrees, no_legs, more_legs}
use Rattle.weld_tree.specs.Program.{loops, bound, IsOneOf, IsWellMade}
use Rattle.weld_print.specs.Spellable.{IsSpellable}
use Rattle.weld_meaning.specs.Environment.{Named}
use Rattle.weld_meaning.specs.Typing.{Types}
use Rattle.weld_meaning.specs.Origin.{Origin}
use Rattle.weld_meaning.specs.Names.{IsFree, put}
use Rattle.weld_rewriting.specs.Placed.{IsPlaced}
use Rattle.weld_rewriting.specs.Replacing.{MayReplace}
use Rattle.weld_rewriting.specs.Rewriting.{Rewrites}
use Rattle.weld_rewriting.specs.Tidy.{IsTidy}
use Rattle.weld_rewriting.specs.Within.{times, legs, StaysWithin}
use Rattle.weld_rewriting.proofs.Counts.{times-append, times_here, times_there, one_of_times, times_one_of, distinct_times, times_distinct}
use Rattle.weld_rewriting.proofs.Nodes.{may_in_turn}
use Rattle.weld_substitution.specs.declared.put_anywhere.spot.Spot.{Spot}
use Rattle.weld_substitution.specs.declared.put_anywhere.spot.Spot.TheVariants.{Leg, Other}
use Rattle.weld_substitution.specs.Redex.{is_plain, is_redex, is_used_well, has_loop, or_else, spot_below, only_where, takes_both, takes_all, spot_of, spot_among, spot_in_leg, spot_in_legs, stands}
use Rattle.weld_substitution.specs.Uses.{is_name, uses, uses_in, uses_in_leg, uses_in_legs}
use Rattle.weld_substitution.proofs.Chains.{or_true}
use Rattle.weld_substitution.proofs.Clear.{binds_each}
use Rattle.weld_substitution.proofs.Following.{and_true, both_true}
use Rattle.weld_substitution.proofs.PlainFacts.{plain_holds}
use Rattle.weld_substitution.proofs.PutCounts.{Counted, put_counted}
use Rattle.weld_substitution.proofs.UsedNames.{used_or_free, kept}
use Rattle.weld_inline.specs.Inlining.{lets_rule}
use Rattle.weld_vertical_struct.specs.Parting.{parted, unnoted, part_binder, both_bound, IsAbsent}
use Rattle.weld_vertical_struct.proofs.Pairs.{pair_of_parts}
use Rattle.weld_vertical_struct.proofs.Naming.{name_leaf, IsNamed, first_named, second_named, let_named}

-- ---- numbers that stand nowhere

none_left : (n : ℕ) → (0 < n → ⊥) → n ≡ 0
none_left n f = by (some_or_none n)
  where
    some_or_none : (m : ℕ) → (0 < m) ⊎ (m ≡ 0)
    some_or_none m = grind arith

    by : (0 < n) ⊎ (n ≡ 0) → n ≡ 0
    by (inl h) = absurd (f h)
    by (inr h) = h

unused : (z : ℕ) (e : ExprTree) → times (bound e) z ≡ 0 → (IsFree e z → ⊥) → uses e z ≡ 0
unused z e t n =
    none_left (uses e z)
    (λ h. n ((used_or_free e z (binds_each e (λ s. z ≢ s) (λ s k q. absurd (omega (arith, t, one_of_times (bound e) z (subst (IsOneOf (bound e)) (sym q) k)))))).0 h))

only_none : (b : Bool) → only_where b None ≡ None
only_none true = refl
only_none false = refl

mutual
  no_spot : (e : ExprTree) (s : ℕ) (here : Spot) → uses e s ≡ 0 → spot_of s here e ≡ None
  no_spot (leaf a l) s here h = by (is_name l s) h
    where
      by : (b : Bool) → ◌≡◌ {A = ℕ} (if b then 1 else 0) 0 → ◌≡◌ {A = Option Spot} (if b then Some here else None) None
      by true k = absurd (omega (arith, k))
      by false k = refl
  no_spot (one a o e) s here h = no_spot e s (spot_below o) h
  no_spot (two a o e f) s here h =
      let x = no_spot e s Other (omega (arith, h)) in let y = no_spot f s Other (omega (arith, h)) in (λ i. or_else (x i) (only_where (takes_both o) (y i))) ∙ only_none (takes_both o)
  no_spot (three a o c e f) s here h =
      let w = no_spot c s Other (omega (arith, h)) in let x = no_spot e s Other (omega (arith, h)) in let y = no_spot f s Other (omega (arith, h)) in
      (λ i. or_else (w i) (only_where (takes_all o) (or_else (x i) (y i)))) ∙ only_none (takes_all o)
  no_spot (many a o es) s here h = none_among es s h
  no_spot (let_in a b e f) s here h = let x = no_spot e s Other (omega (arith, h)) in let y = no_spot f s Other (omega (arith, h)) in λ i. or_else (x i) (y i)
  no_spot (loop a ls e b n u f) s here h = let x = none_in_legs ls s (omega (arith, h)) in let y = no_spot e s Other (omega (arith, h)) in λ i. or_else (x i) (y i)
  no_spot (iterate a e b f) s here h = no_spot e s Other (omega (arith, h))

  none_among : (es : ExprTrees) (s : ℕ) → uses_in es s ≡ 0 → spot_among s es ≡ None
  none_among no_exprs s h = refl
  none_among (more_exprs e es) s h = let x = no_spot e s Other (omega (arith, h)) in let y = none_among es s (omega (arith, h)) in λ i. or_else (x i) (y i)

  none_in_leg : (l : LegTree) (s : ℕ) → uses_in_leg l s ≡ 0 → spot_in_leg s l ≡ None
  none_in_leg (whole e) s h = no_spot e s Leg h
  none_in_leg (strided e f g k) s h =
      let w = no_spot e s Other (omega (arith, h)) in let x = no_spot f s Other (omega (arith, h)) in let y = no_spot g s Other (omega (arith, h)) in let u = no_spot k s Other (omega (arith, h)) in
      λ i. or_else (w i) (or_else (x i) (or_else (y i) (u i)))

  none_in_legs : (ls : LegTrees) (s : ℕ) → uses_in_legs ls s ≡ 0 → spot_in_legs s ls ≡ None
  none_in_legs no_legs s h = refl
  none_in_legs (more_legs l ls) s h = let x = none_in_leg l s (omega (arith, h)) in let y = none_in_legs ls s (omega (arith, h)) in λ i. or_else (x i) (y i)

-- ---- a pair, and the same with a name for a part

pub record IsSpelled (z : ℕ) (v w e f : ExprTree) : Type 0 where
  pub named : (types : Types) (h : Named Origin) (u : TypeTree) → (IsFree f z → ⊥) → IsPlaced v types h u → IsNamed z v w e f types h u
  pub back : put z e f ≡ f → put z e w ≡ v
  pub used : uses f z ≡ 0 → uses w z ≡ 1
  pub spot : uses f z ≡ 0 → spot_of z Other w ≡ Some Other
  pub binds : (t : ℕ) → times (bound v) t ≡ times (bound e) t + times (bound f) t
  pub named_binds : (t : ℕ) → times (bound w) t ≡ times (bound f) t
  pub binders : length (bound v) ≡ length (bound e) + length (bound f)
  pub named_binders : length (bound w) ≡ length (bound f)
  pub loop_count : loops v ≡ loops e + loops w
  pub leg_count : legs v ≡ legs e + legs w
  pub of_part : (t : ℕ) → IsFree e t → IsFree v t
  pub of_other : (t : ℕ) → IsFree f t → IsFree v t
  pub of_named : (t : ℕ) → IsFree w t → (t ≡ z) ⊎ IsFree f t
  pub made : IsWellMade v → IsWellMade e × IsWellMade w
  pub spellable : IsSpellable v → IsSpellable e × IsSpellable w

z_there : (z : ℕ) (e d : ExprTree) → (if z == z then e else d) ≡ e
z_there z e d = rw (eq-eqb z z refl) refl

z_counts : (z : ℕ) → ◌≡◌ {A = ℕ} (if z == z then 1 else 0) 1
z_counts z = rw (eq-eqb z z refl) refl

z_stands : (z : ℕ) → ◌≡◌ {A = Option Spot} (if z == z then Some Other else None) (Some Other)
z_stands z = rw (eq-eqb z z refl) refl

pub first_spelled : (m : At) (z : ℕ) (e f : ExprTree) → IsSpelled z (pair_of_parts m e f) (pair_of_parts m (name_leaf m z e) f) e f
first_spelled m z e f = record {
  named = λ types h u n p. first_named m z e f n types h u p;
  back = λ q i. pair_of_parts m (z_there z e (name_leaf m z e) i) (q i);
  used = λ q. omega (arith, q, z_counts z);
  spot = λ q i. or_else (z_stands z i) (or_else (no_spot f z Other q i) None);
  binds = λ t. omega (arith, times-append (bound e) (bound f ++ []) t, times-append (bound f) [] t);
  named_binds = λ t. omega (arith, times-append (bound f) [] t);
  binders = omega (arith, length-append (bound e) (bound f ++ []), length-append (bound f) []);
  named_binders = omega (arith, length-append (bound f) []);
  loop_count = omega arith;
  leg_count = omega arith;
  of_part = λ t k. inl k;
  of_other = λ t k. inr (inl k);
  of_named = λ t. named t;
  made = λ k. (k.1.0, (k.0, (tt, (k.1.1.0, tt))));
  spellable = λ k. (k.0, (tt, k.1));
}
  where
    named : (t : ℕ) → IsFree (pair_of_parts m (name_leaf m z e) f) t → (t ≡ z) ⊎ IsFree f t
    named t (inl k) = inl k
    named t (inr (inl k)) = inr k
    named t (inr (inr k)) = absurd k

pub second_spelled : (m : At) (z : ℕ) (e f : ExprTree) → IsSpelled z (pair_of_parts m f e) (pair_of_parts m f (name_leaf m z e)) e f
second_spelled m z e f = record {
  named = λ types h u n p. second_named m z e f n types h u p;
  back = λ q i. pair_of_parts m (q i) (z_there z e (name_leaf m z e) i);
  used = λ q. omega (arith, q, z_counts z);
  spot = λ q i. or_else (no_spot f z Other q i) (or_else (z_stands z i) None);
  binds = λ t. omega (arith, times-append (bound f) (bound e ++ []) t, times-append (bound e) [] t);
  named_binds = λ t. omega (arith, times-append (bound f) [] t);
  binders = omega (arith, length-append (bound f) (bound e ++ []), length-append (bound e) []);
  named_binders = omega (arith, length-append (bound f) []);
  loop_count = omega arith;
  leg_count = omega arith;
  of_part = λ t k. inr (inl k);
  of_other = λ t k. inl k;
  of_named = λ t. named t;
  made = λ k. (k.1.1.0, (k.0, (k.1.0, (tt, tt))));
  spellable = λ k. (k.1.0, (k.0, (tt, tt)));
}
  where
    named : (t : ℕ) → IsFree (pair_of_parts m f (name_leaf m z e)) t → (t ≡ z) ⊎ IsFree f t
    named t (inl k) = inr k
    named t (inr (inl k)) = inl k
    named t (inr (inr k)) = absurd k

-- ---- the `let` of the part around that of the pair

-- what is known of lets that are put in their place
pub record Puts : Type 0 where
  pub once : (a : At) (b : Binder) (v f : ExprTree) → IsTidy (let_in a b v f) → is_used_well b.sym.0 v f ≡ true → Rewrites (put b.sym.0 v f) (let_in a b v f)
  pub sound : (e d : ExprTree) → IsTidy e → lets_rule e ≡ Some d → Rewrites d e
  pub through_let : (a : At) (b : Binder) (c d f : ExprTree) → Rewrites d f → Rewrites (let_in a b c d) (let_in a b c f)
  pub body : (a : At) (b : Binder) (v f : ExprTree) → IsTidy (let_in a b v f) → IsTidy f
  pub within : (d e : ExprTree) → StaysWithin d e → IsTidy e → IsTidy d

module _ (puts : Puts) (a : At) (b : Binder) (z i : ℕ) (v w e f g : ExprTree) (spelled : IsSpelled z v w e f) (tidy : IsTidy (let_in a b v g)) (absent : IsAbsent z (let_in a b v g)) (no_loop : not (has_loop e) ≡ true) where
  abbrev whole_let : ExprTree
  whole_let = let_in a b v g

  abbrev inner : ExprTree
  inner = let_in a b w g

  abbrev named : ExprTree
  named = let_in a (part_binder z b) e inner

  abbrev rest : List ℕ
  rest = bound e ++ (b.sym.0 ∷ (bound w ++ bound g))

  not_pair : z ≢ b.sym.0
  not_pair q = absurd (omega (arith, absent.0, subst (λ y. times (y ∷ (bound v ++ bound g)) z ≡ suc (times (bound v ++ bound g) z)) q (times_here z (bound v ++ bound g))))

  in_parts : times (bound e) z + times (bound f) z + times (bound g) z ≡ 0
  in_parts = omega (arith, absent.0, times_there b.sym.0 z (bound v ++ bound g) not_pair, times-append (bound v) (bound g) z, spelled.binds z)

  not_part : IsFree e z → ⊥
  not_part k = absent.1 (inl (spelled.of_part z k))

  not_other : IsFree f z → ⊥
  not_other k = absent.1 (inl (spelled.of_other z k))

  not_body : IsFree g z → ⊥
  not_body k = absent.1 (inr (k, not_pair))

  unused_other : uses f z ≡ 0
  unused_other = unused z f (omega (arith, in_parts)) not_other

  unused_body : uses g z ≡ 0
  unused_body = unused z g (omega (arith, in_parts)) not_body

  -- ---- it is tidy

  rest_times : (t : ℕ) → times rest t ≡ times (bound whole_let) t
  rest_times t =
      omega (
        arith,
        times-append (bound e) (b.sym.0 ∷ (bound w ++ bound g)) t,
        times-append (bound w) (bound g) t,
        times-append (bound v) (bound g) t,
        spelled.binds t,
        spelled.named_binds t,
      )

  rest_length : length rest ≡ length (bound whole_let)
  rest_length =
      omega (
        arith,
        length-append (bound e) (b.sym.0 ∷ (bound w ++ bound g)),
        length-append (bound w) (bound g),
        length-append (bound v) (bound g),
        spelled.binders,
        spelled.named_binders,
      )

  once_each : (t : ℕ) → times (z ∷ rest) t ≤ 1
  once_each t = by (cases_eq t z)
    where
      by : (t ≡ z) ⊎ (t ≢ z) → times (z ∷ rest) t ≤ 1
      by (inl q) = subst (λ y. times (z ∷ rest) y ≤ 1) (sym q) (omega (arith, times_here z rest, rest_times z, absent.0))
      by (inr ne) = omega (arith, times_there z t rest ne, rest_times t, distinct_times (bound whole_let) tidy.distinct t)

  free_whole : (t : ℕ) → IsFree named t → IsFree whole_let t
  free_whole t (inl k) = inl (spelled.of_part t k)
  free_whole t (inr k) = by k.0
    where
      of_pair : (t ≡ z) ⊎ IsFree f t → IsFree whole_let t
      of_pair (inl q) = absurd (k.1 q)
      of_pair (inr l) = inl (spelled.of_other t l)

      by : IsFree w t ⊎ (IsFree g t × (t ≢ b.sym.0)) → IsFree whole_let t
      by (inl l) = of_pair (spelled.of_named t l)
      by (inr l) = inr l

  pub named_tidy : IsTidy named
  named_tidy = record { distinct = times_distinct (z ∷ rest) once_each; apart = λ t h k. apart t h (free_whole t k) }
    where
      apart : (t : ℕ) → (t ≡ z) ⊎ IsOneOf rest t → IsFree whole_let t → ⊥
      apart t (inl q) k = absent.1 (subst (IsFree whole_let) q k)
      apart t (inr h) k = tidy.apart t (times_one_of (bound whole_let) t (omega (arith, one_of_times rest t h, rest_times t))) k

  -- ---- it may take the place

  used_well : is_used_well z e inner ≡ true
  used_well =
      let n : uses inner z ≡ 1 = omega (arith, spelled.used unused_other, unused_body) in
      both_true (uses inner z == 1) (stands e (spot_of z Other inner)) (eq-eqb (uses inner z) 1 n) (ap (λ p. stands e (or_else p (spot_of z Other g))) (spelled.spot unused_other) ∙ no_loop)

  put_back : put z e inner ≡ whole_let
  put_back = let x = spelled.back (kept f e z unused_other) in let y = kept g e z unused_body in λ j. let_in a b (x j) (y j)

  is_whole : MayReplace whole_let named
  is_whole = subst (λ d. MayReplace d named) put_back (puts.once a (part_binder z b) e inner named_tidy used_well).replaces

  named_placed : (types : Types) (h : Named Origin) (t : TypeTree) → IsPlaced whole_let types h t → IsPlaced named types h t
  named_placed types h t p =
      let q : IsPlaced v types h p.typed.0 = record { formed = p.formed; forms = p.forms; typed = p.typed.1; keeps = p.keeps.0; splits = p.splits.0; noted = p.noted.0 } in
      let_named a b z v w e f g types h t not_pair not_body p (spelled.named types h p.typed.0 not_other q)

  named_replaces : MayReplace named whole_let
  named_replaces = record {
    same_origin = λ h. sym (is_whole.same_origin h);
    same_chain = λ c k. let no : ⊥ = cc in absurd no;
    placed = named_placed;
    taken = λ types h t p. sym (is_whole.taken types h t (named_placed types h t p));
    means = λ types h t env p fit. sym (is_whole.means types h t env (named_placed types h t p) fit);
  }

  -- ---- and with the pair taken apart and the part put

  abbrev opened_let : ExprTree
  opened_let = let_in a (unnoted b) f (parted b.sym.0 z i g)

  abbrev part_uses : ℕ
  part_uses = uses opened_let z

  abbrev both : ExprTree
  both = both_bound z a b i e f g

  none_times : (n k : ℕ) → k ≡ 0 → n * k ≡ 0
  none_times n k h = ap (λ y. n * y) h ∙ omega arith

  one_times : (n k : ℕ) → n ≡ 1 → n * k ≡ k
  one_times n k h = ap (λ y. y * k) h ∙ omega arith

  module _ (apart : Rewrites (let_in a (unnoted b) f (parted b.sym.0 z i g)) (let_in a b w g)) where
    both_rewrites : Rewrites both named
    both_rewrites = puts.through_let a (part_binder z b) e opened_let inner apart

    both_tidy : IsTidy both
    both_tidy = puts.within both named both_rewrites.within named_tidy

    -- what is put is put once, or holds nothing
    put_within : is_redex both ≡ true → Rewrites (put z e opened_let) both → StaysWithin (put z e opened_let) whole_let
    put_within redex r = by (or_true (is_plain e) (is_used_well z e opened_let) redex)
      where
        c : Counted (put z e opened_let) opened_let e part_uses
        c = put_counted opened_let z e

        stays : ((t : ℕ) → part_uses * times (bound e) t ≤ times (bound e) t) → part_uses * length (bound e) ≤ length (bound e) → part_uses * loops e ≤ loops e → part_uses * legs e ≤ legs e → StaysWithin (put z e opened_let) whole_let
        stays p q s u = record {
          binds = λ t.
              omega (arith, c.binds t, p t, both_rewrites.within.binds t, rest_times t, times-append (bound e) (bound opened_let) t);
          names = λ t k. free_whole t (both_rewrites.within.names t (r.within.names t k));
          no_more_loops = omega (arith, c.loop_count, s, both_rewrites.within.no_more_loops, spelled.loop_count);
          no_more_legs = omega (arith, c.leg_count, u, both_rewrites.within.no_more_legs, spelled.leg_count);
          no_more_binders = omega (arith, c.binder_count, q, both_rewrites.within.no_more_binders, rest_length, length-append (bound e) (bound opened_let));
          well_made = λ k. let l = spelled.made k.0 in r.within.well_made (both_rewrites.within.well_made (l.0, (l.1, k.1)));
          spellable = λ k. let l = spelled.spellable k.1 in r.within.spellable (both_rewrites.within.spellable (tt, l.0, (k.0, l.1, k.2)));
        }

        by : (is_plain e ≡ true) ⊎ (is_used_well z e opened_let ≡ true) → StaysWithin (put z e opened_let) whole_let
        by (inl plain) =
            let k = plain_holds e plain in
            stays (λ t. omega (arith, none_times part_uses (times (bound e) t) (k.binds t))) (omega (arith, none_times part_uses (length (bound e)) k.no_binders)) (omega (arith, none_times part_uses (loops e) k.no_loops)) (omega (arith, none_times part_uses (legs e) k.no_legs))
        by (inr well) =
            let one_use = eqb-true part_uses 1 (and_true (part_uses == 1) (stands e (spot_of z Other opened_let)) well).0 in
            stays (λ t. omega (arith, one_times part_uses (times (bound e) t) one_use)) (omega (arith, one_times part_uses (length (bound e)) one_use)) (omega (arith, one_times part_uses (loops e) one_use)) (omega (arith, one_times part_uses (legs e) one_use))

    pub part_put : (d : ExprTree) → lets_rule both ≡ Some d → Rewrites d whole_let
    part_put d h = by (is_redex both) refl h
      where
        by : (c : Bool) → is_redex both ≡ c → (if c then Some (put z e opened_let) else None) ≡ Some d → Rewrites d whole_let
        by true redex k =
            let is : put z e opened_let ≡ d = cc in
            let r : Rewrites d both = puts.sound both d both_tidy h in
            let s : Rewrites (put z e opened_let) both = subst (λ y. Rewrites y both) (sym is) r in
            record {
              replaces = may_in_turn d named whole_let (may_in_turn d both named r.replaces both_rewrites.replaces) named_replaces;
              within = subst (λ y. StaysWithin y whole_let) is (put_within redex s);
            }
        by false redex k = let no : ⊥ = cc in absurd no
