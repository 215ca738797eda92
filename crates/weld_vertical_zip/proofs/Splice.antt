-- A loop over a `zip` of which a leg is the list that another loop makes, and the loop over the list of whole rows that takes its
-- place: by all their parts, what both bind, name and hold.
use Rattle.std.proofs.Common.{◌≡◌, ◌≢◌, ℕ, ◌+◌, ◌*◌, ◌≤◌, ◌<◌, ◌^◌, true, List, [], ◌∷◌, ◌++◌, length, ap, sym, subst, ◌∙◌, eq-eqb, arith, length-append, ◌⊎◌, inl, inr}
use Rattle.weld_tree.specs.declared.binder.Binder.{Binder}
use Rattle.weld_tree.specs.declared.known.Known.TheVariants.{Is}
use Rattle.weld_tree.specs.TypeTree.{TypeTree, vec, build, list}
use Rattle.weld_tree.specs.Types.{HasTypes}
use Rattle.weld_tree.specs.ExprTree.{At, ExprTree, leaf, one, loop, whole, LegTrees, no_legs, more_legs, fresh, finish}
use Rattle.weld_tree.specs.Program.{loops, bound, bound_in_legs, IsOneOf, AreDistinct, HasLegs, IsWellMade}
use Rattle.weld_meaning.specs.Names.{IsFree, LegsAreFree, put, Binds, IsClear}
use Rattle.weld_rewriting.specs.Within.{times, legs}
use Rattle.weld_rewriting.specs.Tidy.{IsTidy}
use Rattle.weld_rewriting.proofs.Counts.{times-append, one_of_times, times_one_of, distinct_times, times_distinct}
use Rattle.weld_rewriting.proofs.Tidying.{clean_of, tidy_of}
use Rattle.weld_substitution.proofs.Clear.{binds_each}
use Rattle.weld_substitution.proofs.Following.{both_true, or_left}
use Rattle.weld_substitution.proofs.PutCounts.{put_counted}
use Rattle.weld_substitution.proofs.PutMade.{put_named, put_made, put_spellable}
use Rattle.weld_print.specs.Spellable.{IsSpellable}
use Rattle.weld_substitution.specs.Uses.{uses}
use Rattle.weld_vertical.specs.Sinking.{at_of, ends_in_merge, is_producer, is_consumer}
use Rattle.weld_horizontal.specs.Twice.{node_of, items, count, bare}
use Rattle.weld_vertical_zip.specs.Zipping.{legs_behind, types_behind, Sides, all_items, whole_row, own_row, widened}
use Rattle.weld_vertical_zip.proofs.ZippingSplicing.{times_together, length_together, loops_together, legs_together, named_apart, named_first, named_second, some_first, some_together, made_apart, made_together}
use Rattle.weld_vertical_zip.proofs.MadeRows.{among, PartSmall, part_small, part_unused}
use Rattle.weld_vertical_zip.proofs.Widening.{Clear, Counted, wide_counted}
use Rattle.weld_vertical_zip.proofs.UsesPut.{uses_put, ends_put}

-- the nodes of the consumer, of the result, of the producer and of its start; the legs before, the producer's, and those behind; the
-- producer's binders and body; the consumer's builder, binders and body
pub record Splice : Type 0 where
  pub a : At
  pub m : At
  pub p : At
  pub o : At
  pub item : TypeTree
  pub bs : LegTrees
  pub ks : LegTrees
  pub zs : LegTrees
  pub d : Binder
  pub i : Binder
  pub r : Binder
  pub g : ExprTree
  pub e : ExprTree
  pub b : Binder
  pub n : Binder
  pub x : Binder
  pub f : ExprTree
  pub several : 1 ≤ count (items bs) + count (items zs)
  pub few : count (types_behind (items bs) (types_behind (items ks) (items zs))) < 10 ^ 9

-- the producer's body is lets that end in its one merge
pub record Simple (c : Splice) : Type 0 where
  pub ends : ends_in_merge c.d.sym.0 c.g ≡ true
  pub once : uses c.g c.d.sym.0 ≡ 1

nothing_more : (m k : ℕ) → k ≡ 0 → m * k ≡ 0
nothing_more m k h = ap (λ z. m * z) h ∙ omega arith

some_items : (ls : LegTrees) → HasLegs ls → HasTypes (items ls)
some_items no_legs h = absurd h
some_items (more_legs l ls) h = tt

module _ (c : Splice) where
  abbrev pub places : Sides
  places = record { before = items c.bs; within = items c.ks; after = items c.zs; item = c.item }

  abbrev pub empty : ExprTree
  empty = leaf c.o (fresh (list c.item))

  abbrev pub producer : ExprTree
  producer = loop c.p c.ks empty c.d c.i c.r c.g

  abbrev pub produced : ExprTree
  produced = one c.m finish producer

  abbrev pub old_legs : LegTrees
  old_legs = legs_behind c.bs (more_legs (whole produced) c.zs)

  abbrev pub pattern : ExprTree
  pattern = loop c.a old_legs c.e c.b c.n c.x c.f

  abbrev pub row : ExprTree
  row = own_row c.a.place c.r.sym.0 places

  abbrev pub body : ExprTree
  body = put c.r.sym.0 row c.g

  abbrev pub wide : ExprTree
  wide = widened c.a.place c.d.sym.0 c.r.sym.0 places body

  abbrev pub all_legs : LegTrees
  all_legs = legs_behind c.bs (legs_behind c.ks c.zs)

  abbrev pub rows_start : ExprTree
  rows_start = leaf (node_of c.a.place (build (list (whole_row places)))) (fresh (list (whole_row places)))

  abbrev pub rows_producer : ExprTree
  rows_producer = loop (at_of c.p (Is (build (list (whole_row places))))) all_legs rows_start (bare c.d) c.i (bare c.r) wide

  abbrev pub rows_list : ExprTree
  rows_list = one (node_of c.a.place (vec (whole_row places))) finish rows_producer

  abbrev pub answer : ExprTree
  answer = loop c.a (more_legs (whole rows_list) no_legs) c.e c.b c.n c.x c.f

  pub row_small : PartSmall c.a.place c.r.sym.0 (items c.ks) row
  row_small = part_small c.a.place c.r.sym.0 (all_items places) (count (items c.bs)) (items c.ks) (among places).within c.few

  -- ---- binders

  abbrev pub inner : List ℕ
  inner = c.d.sym.0 ∷ c.i.sym.0 ∷ c.r.sym.0 ∷ bound c.g

  abbrev pub mine : List ℕ
  mine = c.b.sym.0 ∷ c.n.sym.0 ∷ c.x.sym.0 ∷ bound c.f

  pub old_times : (s : ℕ) → times (bound pattern) s ≡ times (bound_in_legs c.bs) s + times (bound_in_legs c.ks) s + times inner s + times (bound_in_legs c.zs) s + times (bound c.e ++ mine) s
  old_times s =
      omega (
        arith,
        times-append (bound_in_legs old_legs) (bound c.e ++ mine) s,
        times_together c.bs (more_legs (whole produced) c.zs) s,
        times-append (bound_in_legs c.ks ++ inner) (bound_in_legs c.zs) s,
        times-append (bound_in_legs c.ks) inner s,
      )

  pub body_times : (s : ℕ) → times (bound body) s ≡ times (bound c.g) s
  body_times s =
      let more = nothing_more (uses c.g c.r.sym.0) (times (bound row) s) (ap (λ l. times l s) row_small.binds) in
      omega (arith, (put_counted c.g c.r.sym.0 row).binds s, more)

  -- what a tidy pattern keeps apart
  pub record Tidily : Type 0 where
    pub number_other : c.d.sym.0 ≢ c.i.sym.0
    pub row_other : c.d.sym.0 ≢ c.r.sym.0
    pub clear : Binds (IsClear c.r.sym.0 row) c.g
    pub apart : Binds (λ z. c.d.sym.0 ≢ z) c.g
    pub body_clear : Binds (Clear c.a.place c.d.sym.0 c.r.sym.0 places) body
    pub body_apart : Binds (λ z. c.d.sym.0 ≢ z) body
    pub not_builder : (z : ℕ) → IsOneOf (bound c.g) z → z ≢ c.d.sym.0

  pub tidily : IsTidy pattern → Tidily
  tidily tidy = record {
    number_other = λ q. distinct.0 (inl q);
    row_other = row_other;
    clear = binds_each c.g (IsClear c.r.sym.0 row) (λ z h. (λ q. not_row z h (sym q), λ k. not_row z h (row_small.names z k)));
    apart = binds_each c.g (λ z. c.d.sym.0 ≢ z) (λ z h q. not_builder z h (sym q));
    body_clear = binds_each body (Clear c.a.place c.d.sym.0 c.r.sym.0 places) (λ z h. let k = in_body z h in (not_builder z k, not_row z k));
    body_apart = binds_each body (λ z. c.d.sym.0 ≢ z) (λ z h q. not_builder z (in_body z h) (sym q));
    not_builder = not_builder;
  }
    where
      distinct : AreDistinct inner
      distinct = times_distinct inner (λ s. omega (arith, distinct_times (bound pattern) tidy.distinct s, old_times s))

      row_other : c.d.sym.0 ≢ c.r.sym.0
      row_other q = distinct.0 (inr (inl q))

      not_builder : (z : ℕ) → IsOneOf (bound c.g) z → z ≢ c.d.sym.0
      not_builder z h q = distinct.0 (subst (IsOneOf (c.i.sym.0 ∷ c.r.sym.0 ∷ bound c.g)) q (inr (inr h)))

      not_row : (z : ℕ) → IsOneOf (bound c.g) z → z ≢ c.r.sym.0
      not_row z h q = distinct.1.1.0 (subst (IsOneOf (bound c.g)) q h)

      in_body : (z : ℕ) → IsOneOf (bound body) z → IsOneOf (bound c.g) z
      in_body z h = times_one_of (bound c.g) z (omega (arith, one_of_times (bound body) z h, body_times z))

  -- ---- a producer with one merge at its end

  module _ (simple : Simple c) where
    row_unused : c.d.sym.0 ≢ c.r.sym.0 → uses row c.d.sym.0 ≡ 0
    row_unused ne = part_unused c.a.place c.r.sym.0 (all_items places) (count (items c.bs)) (items c.ks) c.d.sym.0 ne

    pub body_ends : c.d.sym.0 ≢ c.r.sym.0 → ends_in_merge c.d.sym.0 body ≡ true
    body_ends ne = ends_put c.g c.r.sym.0 row c.d.sym.0 ne simple.ends simple.once

    pub body_once : c.d.sym.0 ≢ c.r.sym.0 → uses body c.d.sym.0 ≡ 1
    body_once ne = uses_put c.g c.r.sym.0 row c.d.sym.0 ne (row_unused ne) ∙ simple.once

    pub counted : c.d.sym.0 ≢ c.r.sym.0 → Counted c.a.place c.d.sym.0 c.r.sym.0 places body
    counted ne = wide_counted c.a.place c.d.sym.0 c.r.sym.0 places c.few ne body (body_ends ne) (body_once ne)

    wide_times : c.d.sym.0 ≢ c.r.sym.0 → (s : ℕ) → times (bound wide) s ≡ times (bound c.g) s
    wide_times ne s = ap (λ l. times l s) (counted ne).binds ∙ body_times s

    pub wide_apart : Tidily → Binds (λ z. c.d.sym.0 ≢ z) wide
    wide_apart w =
        binds_each wide (λ z. c.d.sym.0 ≢ z)
        (λ z h q. w.not_builder z (times_one_of (bound c.g) z (omega (arith, one_of_times (bound wide) z h, wide_times w.row_other z))) (sym q))

    wide_loops : c.d.sym.0 ≢ c.r.sym.0 → loops wide ≡ loops c.g
    wide_loops ne =
        let more = nothing_more (uses c.g c.r.sym.0) (loops row) row_small.no_loops in omega (arith, (counted ne).loop_count, (put_counted c.g c.r.sym.0 row).loop_count, more)

    wide_legs : c.d.sym.0 ≢ c.r.sym.0 → legs wide ≡ legs c.g
    wide_legs ne =
        let more = nothing_more (uses c.g c.r.sym.0) (legs row) row_small.no_legs in omega (arith, (counted ne).leg_count, (put_counted c.g c.r.sym.0 row).leg_count, more)

    wide_length : c.d.sym.0 ≢ c.r.sym.0 → length (bound wide) ≡ length (bound c.g)
    wide_length ne =
        let more = nothing_more (uses c.g c.r.sym.0) (length (bound row)) (ap length row_small.binds) in
        omega (arith, ap length (counted ne).binds, (put_counted c.g c.r.sym.0 row).binder_count, more)

    new_times : c.d.sym.0 ≢ c.r.sym.0 → (s : ℕ) → times (bound answer) s ≡ times (bound pattern) s
    new_times ne s =
        let now = c.d.sym.0 ∷ c.i.sym.0 ∷ c.r.sym.0 ∷ bound wide in
        omega (
          arith,
          old_times s,
          times-append ((bound_in_legs all_legs ++ now) ++ []) (bound c.e ++ mine) s,
          times-append (bound_in_legs all_legs ++ now) [] s,
          times-append (bound_in_legs all_legs) now s,
          times_together c.bs (legs_behind c.ks c.zs) s,
          times_together c.ks c.zs s,
          wide_times ne s,
        )

    -- ---- what is counted

    -- it binds as often, names and holds no more, and is well made where the pattern is
    pub record Near : Type 0 where
      pub binds : (s : ℕ) → times (bound answer) s ≡ times (bound pattern) s
      pub names : (s : ℕ) → IsFree answer s → IsFree pattern s
      pub same_loops : loops answer ≡ loops pattern
      pub same_legs : legs answer ≡ legs pattern
      pub same_binders : length (bound answer) ≡ length (bound pattern)
      pub well_made : IsWellMade pattern → IsWellMade answer

    new_length : c.d.sym.0 ≢ c.r.sym.0 → length (bound answer) ≡ length (bound pattern)
    new_length ne =
        let now = c.d.sym.0 ∷ c.i.sym.0 ∷ c.r.sym.0 ∷ bound wide in
        omega (
          arith,
          length-append (bound_in_legs old_legs) (bound c.e ++ mine),
          length_together c.bs (more_legs (whole produced) c.zs),
          length-append (bound_in_legs c.ks ++ inner) (bound_in_legs c.zs),
          length-append (bound_in_legs c.ks) inner,
          length-append ((bound_in_legs all_legs ++ now) ++ []) (bound c.e ++ mine),
          length-append (bound_in_legs all_legs ++ now) [],
          length-append (bound_in_legs all_legs) now,
          length_together c.bs (legs_behind c.ks c.zs),
          length_together c.ks c.zs,
          wide_length ne,
        )

    new_loops : c.d.sym.0 ≢ c.r.sym.0 → loops answer ≡ loops pattern
    new_loops ne = omega (arith, loops_together c.bs (more_legs (whole produced) c.zs), loops_together c.bs (legs_behind c.ks c.zs), loops_together c.ks c.zs, wide_loops ne)

    new_legs : c.d.sym.0 ≢ c.r.sym.0 → legs answer ≡ legs pattern
    new_legs ne = omega (arith, legs_together c.bs (more_legs (whole produced) c.zs), legs_together c.bs (legs_behind c.ks c.zs), legs_together c.ks c.zs, wide_legs ne)

    named : c.d.sym.0 ≢ c.r.sym.0 → (s : ℕ) → IsFree answer s → IsFree pattern s
    named ne s (inr k) = inr k
    named ne s (inl (inr k)) = absurd k
    named ne s (inl (inl k)) = inl (in_producer k)
      where
        of_legs : LegsAreFree c.ks s ⊎ LegsAreFree c.zs s → LegsAreFree old_legs s
        of_legs (inl h) = named_second c.bs (more_legs (whole produced) c.zs) s (inl (inl h))
        of_legs (inr h) = named_second c.bs (more_legs (whole produced) c.zs) s (inr h)

        of_all : LegsAreFree c.bs s ⊎ LegsAreFree (legs_behind c.ks c.zs) s → LegsAreFree old_legs s
        of_all (inl h) = named_first c.bs (more_legs (whole produced) c.zs) s h
        of_all (inr h) = of_legs (named_apart c.ks c.zs s h)

        of_row : s ≢ c.r.sym.0 → IsFree row s ⊎ (IsFree c.g s × (s ≢ c.r.sym.0)) → IsFree c.g s
        of_row other (inl h) = absurd (other (row_small.names s h))
        of_row other (inr h) = h.0

        of_body : s ≢ c.r.sym.0 → (s ≡ c.r.sym.0) ⊎ IsFree body s → IsFree c.g s
        of_body other (inl q) = absurd (other q)
        of_body other (inr h) = of_row other (put_named c.g c.r.sym.0 row s h)

        in_producer : IsFree rows_producer s → LegsAreFree old_legs s
        in_producer (inl h) = of_all (named_apart c.bs (legs_behind c.ks c.zs) s h)
        in_producer (inr (inl h)) = absurd h
        in_producer (inr (inr h)) = named_second c.bs (more_legs (whole produced) c.zs) s (inl (inr (inr (of_body h.1 ((counted ne).names s h.0), h.1, h.2, h.3))))

    made_well : c.d.sym.0 ≢ c.r.sym.0 → IsWellMade pattern → IsWellMade answer
    made_well ne h =
        let k = made_apart c.bs (more_legs (whole produced) c.zs) h.1 in
        let q = k.1.0.1 in
        let legs_made = made_together c.bs (legs_behind c.ks c.zs) k.0 (made_together c.ks c.zs q.1 k.1.1) in
        let some = some_together c.bs (legs_behind c.ks c.zs) (some_first c.ks c.zs q.0) in
        let body_made = put_made c.g c.r.sym.0 row (row_small.made (some_items c.ks q.0)) q.3 in
        (tt, ((tt, (some, legs_made, tt, (counted ne).made body_made)), tt), h.2, h.3)

    pub near : Tidily → Near
    near w = record {
      binds = new_times w.row_other;
      names = named w.row_other;
      same_loops = new_loops w.row_other;
      same_legs = new_legs w.row_other;
      same_binders = new_length w.row_other;
      well_made = made_well w.row_other;
    }

    pub wide_spellable : Tidily → IsSpellable c.g → IsSpellable wide
    wide_spellable w h = (counted w.row_other).spellable (put_spellable c.g c.r.sym.0 row row_small.spellable h)

    -- ---- what else is kept

    pub answer_tidy : IsTidy pattern → IsTidy answer
    answer_tidy tidy =
        let k = near (tidily tidy) in
        let q = clean_of pattern tidy in
        tidy_of answer (record { once = λ s. omega (arith, k.binds s, q.once s); unbound = λ s h. omega (arith, k.binds s, q.unbound s (k.names s h)) })

    pub is_one : Tidily → is_consumer answer ≡ true
    is_one w =
        let k = counted w.row_other in
        or_left (is_producer rows_producer) _ (both_true (ends_in_merge c.d.sym.0 wide) _ k.ends (eq-eqb (uses wide c.d.sym.0) 1 (k.use_count ∙ body_once w.row_other)))
