-- A loop over a list may be rewritten to one loop with the loop that makes it, wherever that holds its builder.
use Rattle.std.proofs.Common.{◌≡◌, ℕ, ◌+◌, ◌<◌, ◌==◌, true, ◌&&◌, ◌||◌, List, [], ◌∷◌, ◌++◌, length, refl, ap, sym, subst, arith, length-append, eqb-true, inl, inr, ◌⊎◌}
use Rattle.weld_tree.specs.declared.binder.Binder.{Binder}
use Rattle.weld_tree.specs.declared.known.Known.TheVariants.{Is}
use Rattle.weld_tree.specs.TypeTree.{TypeTree, list}
use Rattle.weld_tree.specs.ExprTree.{At, ExprTree, leaf, one, two, three, many, let_in, loop, iterate, whole, strided, LegTrees, no_legs, more_legs, fresh, neg, not, cast, len, field, finish, started}
use Rattle.weld_tree.specs.Program.{loops, bound, bound_in_legs}
use Rattle.weld_meaning.specs.Environment.{Named}
use Rattle.weld_meaning.specs.Origin.{Origin}
use Rattle.weld_meaning.specs.Typing.{Types}
use Rattle.weld_meaning.specs.Available.{takes, legs_take}
use Rattle.weld_meaning.specs.Names.{IsFree}
use Rattle.weld_meaning.proofs.LoopLaw.{PartLaws}
use Rattle.weld_rewriting.specs.Placed.{IsPlaced}
use Rattle.weld_rewriting.specs.Within.{times, legs, StaysWithin}
use Rattle.weld_rewriting.specs.Weight.{weight}
use Rattle.weld_rewriting.specs.Tidy.{IsTidy}
use Rattle.weld_rewriting.specs.Rewriting.{Rewrites}
use Rattle.weld_rewriting.specs.Tested.{AnswersLighter, AnswersSoundly}
use Rattle.weld_rewriting.proofs.Counts.{times-append}
use Rattle.weld_substitution.proofs.Chains.{or_true}
use Rattle.weld_substitution.proofs.Following.{and_true}
use Rattle.weld_substitution.specs.Uses.{uses}
use Rattle.weld_vertical.specs.Sinking.{starts_list}
use Rattle.weld_handing.specs.Handing.{unnoted, starts_none, own_names, is_noted, handed_by}
use Rattle.weld_handing.specs.Merging.{list_merges, always_merges}
use Rattle.weld_handing.proofs.Free.{Added, handed_free}
use Rattle.weld_handing.proofs.Counting.{Counts, handed_counts}
use Rattle.weld_handing.proofs.Recognising.{one_copy, twice_more, list_by, noted_by}
use Rattle.weld_vertical_held.specs.Rule.{merges_once, makes_list, is_its_list, is_its_only_leg, is_over_list, handed_over}
use Rattle.weld_vertical_held.proofs.ListPlaced.{pattern, body, answer, mine, all_times, placed}
use Rattle.weld_vertical_held.proofs.ListMeans.{means}

module _ (a m p o : At) (t item : TypeTree) (noted : a.ty ≡ Is t) (ks : LegTrees) (d i r : Binder) (g e : ExprTree) (c n x : Binder) (f : ExprTree) (starts : starts_none (own_names d i r) g ≡ true) (once : list_merges (own_names d i r) g ≡ 1) (numbered : (always_merges (own_names d i r) g ≡ true) ⊎ (uses f n.sym.0 ≡ 0)) where
  abbrev over : ExprTree
  over = pattern a m p o t item noted ks d i r g e c n x f starts

  abbrev now : ExprTree
  now = answer a m p o t item noted ks d i r g e c n x f starts

  abbrev inside : ExprTree
  inside = body a m p o t item noted ks d i r g e c n x f starts

  abbrev theirs : List ℕ
  theirs = mine a m p o t item noted ks d i r g e c n x f starts

  counts : Counts t i.sym.0 c n x f inside g (list_merges (own_names d i r) g)
  counts = handed_counts t i.sym.0 c n x f g (own_names d i r)

  taken : (types : Types) (around : Named Origin) (u : TypeTree) → IsPlaced over types around u → takes now around ≡ takes over around
  taken types around u q = λ j s v. twice_more (legs_take ks around s v) j || takes e around s v

  within : StaysWithin now over
  within = record {
    binds = λ s.
        omega (
          arith,
          counts.binds s,
          one_copy (list_merges (own_names d i r) g) (times theirs s) once,
          all_times a m p o t item noted ks d i r g e c n x f starts s,
          times-append (bound_in_legs ks) (bound e ++ (d.sym.0 ∷ i.sym.0 ∷ r.sym.0 ∷ bound inside)) s,
          times-append (bound e) (d.sym.0 ∷ i.sym.0 ∷ r.sym.0 ∷ bound inside) s,
        );
    names = named;
    no_more_loops = omega (arith, counts.loop_count, one_copy (list_merges (own_names d i r) g) (loops f) once);
    no_more_legs = omega (arith, counts.leg_count, one_copy (list_merges (own_names d i r) g) (legs f) once);
    no_more_binders =
        omega (
          arith,
          counts.binder_count,
          one_copy (list_merges (own_names d i r) g) (3 + length (bound f)) once,
          length-append (bound_in_legs ks) (bound e ++ (d.sym.0 ∷ i.sym.0 ∷ r.sym.0 ∷ bound inside)),
          length-append (bound e) (d.sym.0 ∷ i.sym.0 ∷ r.sym.0 ∷ bound inside),
          length-append ((bound_in_legs ks ++ (d.sym.0 ∷ i.sym.0 ∷ r.sym.0 ∷ bound g)) ++ []) (bound e ++ theirs),
          length-append (bound_in_legs ks ++ (d.sym.0 ∷ i.sym.0 ∷ r.sym.0 ∷ bound g)) [],
          length-append (bound_in_legs ks) (d.sym.0 ∷ i.sym.0 ∷ r.sym.0 ∷ bound g),
          length-append (bound e) theirs,
        );
    well_made = λ h. (h.1.0.1.0, h.1.0.1.1, h.2, counts.made h.3 h.1.0.1.3);
    spellable = λ h. (h.0.0.1.0, h.1, tt, h.0.0.1.3, h.0.0.1.4, counts.spellable h.2 h.3 h.4 h.5 h.0.0.1.5);
  }
    where
      named : (s : ℕ) → IsFree now s → IsFree over s
      named s (inl k) = inl (inl (inl k))
      named s (inr (inl k)) = inr (inl k)
      named s (inr (inr k)) = by (handed_free t i.sym.0 c n x f (own_names d i r) g s k.0)
        where
          by : IsFree g s ⊎ Added t i.sym.0 c n x f s → IsFree over s
          by (inl j) = inl (inl (inr (inr (j, k.1, k.2, k.3))))
          by (inr (inl j)) = absurd (k.2 j)
          by (inr (inr j)) = inr (inr (j.0, j.1, j.2, j.3))

  rewrites : PartLaws → IsTidy over → Rewrites now over
  rewrites laws tidy = record {
    replaces = record {
      same_origin = λ q. refl;
      same_chain = λ y h. let nothing : ⊥ = cc in absurd nothing;
      placed = placed a m p o t item noted ks d i r g e c n x f starts tidy;
      taken = taken;
      means = means laws a m p o t item noted ks d i r g e c n x f starts once numbered tidy;
    };
    within = within;
  }

  lighter : weight now < weight over
  lighter = omega (arith, counts.weighs, one_copy (list_merges (own_names d i r) g) (3 + weight f) once)

  -- as the rule answers it
  answered : handed_over over ≡ now
  answered = ap (λ y. loop a ks e (unnoted d) i r (handed_by y i.sym.0 c n x f (own_names d i r) g)) noted

-- ---- which loops the test recognises

-- a loop that starts with an empty list and merges once
abbrev AtMaker : ℕ → ExprTree → (ExprTree → Type 0) → Type 0
AtMaker n f P =
    (p o : At) (item : TypeTree) (ks : LegTrees) (d i r : Binder) (g : ExprTree) → starts_none (own_names d i r) g ≡ true → list_merges (own_names d i r) g ≡ 1 → (always_merges (own_names d i r) g ≡ true) ⊎ (uses f n ≡ 0)
    → P (loop p ks (leaf o (fresh (list item))) d i r g)

module _ (n : ℕ) (h : ExprTree) where
  maker_by : (P : ExprTree → Type 0) → AtMaker n h P → (q : ExprTree) → makes_list n h q ≡ true → P q
  maker_by P f (leaf a l) k = let nothing : ⊥ = cc in absurd nothing
  maker_by P f (one a o e) k = let nothing : ⊥ = cc in absurd nothing
  maker_by P f (two a o e g) k = let nothing : ⊥ = cc in absurd nothing
  maker_by P f (three a o e g y) k = let nothing : ⊥ = cc in absurd nothing
  maker_by P f (many a o es) k = let nothing : ⊥ = cc in absurd nothing
  maker_by P f (let_in a b e g) k = let nothing : ⊥ = cc in absurd nothing
  maker_by P f (loop p ks s d i r g) k =
      let q = own_names d i r in
      let y = and_true (starts_list s) (merges_once n h q g) k in
      let z = and_true (list_merges q g == 1) (starts_none q g && (always_merges q g || (uses h n == 0))) y.1 in
      let v = and_true (starts_none q g) (always_merges q g || (uses h n == 0)) z.1 in
      list_by (λ s. P (loop p ks s d i r g)) (λ o item. f p o item ks d i r g v.0 (eqb-true (list_merges q g) 1 z.0) (by (or_true (always_merges q g) (uses h n == 0) v.1))) s y.0
    where
      by : (always_merges (own_names d i r) g ≡ true) ⊎ ((uses h n == 0) ≡ true) → (always_merges (own_names d i r) g ≡ true) ⊎ (uses h n ≡ 0)
      by (inl b) = inl b
      by (inr b) = inr (eqb-true (uses h n) 0 b)
  maker_by P f (iterate a e b g) k = let nothing : ⊥ = cc in absurd nothing

  its_list_by : (P : ExprTree → Type 0) → ((m : At) → AtMaker n h (λ q. P (one m finish q))) → (q : ExprTree) → is_its_list n h q ≡ true → P q
  its_list_by P f (leaf a l) k = let nothing : ⊥ = cc in absurd nothing
  its_list_by P f (one m neg e) k = let nothing : ⊥ = cc in absurd nothing
  its_list_by P f (one m not e) k = let nothing : ⊥ = cc in absurd nothing
  its_list_by P f (one m (cast c) e) k = let nothing : ⊥ = cc in absurd nothing
  its_list_by P f (one m len e) k = let nothing : ⊥ = cc in absurd nothing
  its_list_by P f (one m (field c) e) k = let nothing : ⊥ = cc in absurd nothing
  its_list_by P f (one m finish e) k = maker_by (λ q. P (one m finish q)) (f m) e k
  its_list_by P f (one m (started b) e) k = let nothing : ⊥ = cc in absurd nothing
  its_list_by P f (two a o e g) k = let nothing : ⊥ = cc in absurd nothing
  its_list_by P f (three a o e g c) k = let nothing : ⊥ = cc in absurd nothing
  its_list_by P f (many a o es) k = let nothing : ⊥ = cc in absurd nothing
  its_list_by P f (let_in a b e g) k = let nothing : ⊥ = cc in absurd nothing
  its_list_by P f (loop a ls e b m x g) k = let nothing : ⊥ = cc in absurd nothing
  its_list_by P f (iterate a e b g) k = let nothing : ⊥ = cc in absurd nothing

  only_by : (P : LegTrees → Type 0) → ((m : At) → AtMaker n h (λ q. P (more_legs (whole (one m finish q)) no_legs))) → (ls : LegTrees) → is_its_only_leg n h ls ≡ true → P ls
  only_by P f no_legs k = let nothing : ⊥ = cc in absurd nothing
  only_by P f (more_legs (whole e) no_legs) k = its_list_by (λ q. P (more_legs (whole q) no_legs)) f e k
  only_by P f (more_legs (strided e g c l) no_legs) k = let nothing : ⊥ = cc in absurd nothing
  only_by P f (more_legs l (more_legs m ls)) k = let nothing : ⊥ = cc in absurd nothing

over_by : (P : ExprTree → Type 0) → ((a : At) (t : TypeTree) (e : ExprTree) (b n x : Binder) (f : ExprTree) (m : At) → a.ty ≡ Is t → AtMaker n.sym.0 f (λ q. P (loop a (more_legs (whole (one m finish q)) no_legs) e b n x f))) → (e : ExprTree) → is_over_list e ≡ true → P e
over_by P f (leaf a l) h = let nothing : ⊥ = cc in absurd nothing
over_by P f (one a o e) h = let nothing : ⊥ = cc in absurd nothing
over_by P f (two a o e g) h = let nothing : ⊥ = cc in absurd nothing
over_by P f (three a o e g k) h = let nothing : ⊥ = cc in absurd nothing
over_by P f (many a o es) h = let nothing : ⊥ = cc in absurd nothing
over_by P f (let_in a b e g) h = let nothing : ⊥ = cc in absurd nothing
over_by P f (loop a ls e b n x g) h =
    let y = and_true (is_noted a.ty) (is_its_only_leg n.sym.0 g ls) h in
    let z = noted_by a.ty y.0 in only_by n.sym.0 g (λ ls. P (loop a ls e b n x g)) (λ m. f a z.0 e b n x g m z.1) ls y.1
over_by P f (iterate a e b g) h = let nothing : ⊥ = cc in absurd nothing

-- ---- the rule

pub answers_soundly : PartLaws → AnswersSoundly is_over_list handed_over
answers_soundly laws e tidy h =
    over_by (λ e. IsTidy e → Rewrites (handed_over e) e)
    (λ a t e c n x f m noted p o item ks d i r g starts once numbered tidy.
    subst (λ y. Rewrites y (pattern a m p o t item noted ks d i r g e c n x f starts)) (sym (answered a m p o t item noted ks d i r g e c n x f starts once numbered))
    (rewrites a m p o t item noted ks d i r g e c n x f starts once numbered laws tidy)) e h tidy

pub answers_lighter : AnswersLighter is_over_list handed_over
answers_lighter e h =
    over_by (λ e. weight (handed_over e) < weight e)
    (λ a t e c n x f m noted p o item ks d i r g starts once numbered.
    subst (λ y. weight y < weight (pattern a m p o t item noted ks d i r g e c n x f starts)) (sym (answered a m p o t item noted ks d i r g e c n x f starts once numbered))
    (lighter a m p o t item noted ks d i r g e c n x f starts once numbered)) e h
