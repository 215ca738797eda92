-- A loop over a `zip` may be rewritten to one loop with the loop that makes a leg, wherever that holds its builder.
use Rattle.std.specs.Prelude.{not as not_of}
use Rattle.std.proofs.Common.{◌≡◌, ℕ, ◌+◌, ◌*◌, ◌<◌, ◌==◌, ◌≢◌, Bool, true, false, ◌&&◌, if◌then◌else◌, List, [], ◌∷◌, ◌++◌, length, Option, Some, None, option_map, refl, ap, sym, subst, ◌∙◌, arith, length-append, eqb-true, inl, inr, ◌⊎◌}
use Rattle.weld_tree.specs.declared.binder.Binder.{Binder}
use Rattle.weld_tree.specs.TypeTree.{TypeTree, list}
use Rattle.weld_tree.specs.Types.{HasTypes}
use Rattle.weld_tree.specs.ExprTree.{At, ExprTree, leaf, one, two, three, many, let_in, loop, iterate, LegTree, whole, strided, LegTrees, no_legs, more_legs, fresh, neg, not, cast, len, field, finish, started}
use Rattle.weld_tree.specs.Program.{loops, bound, bound_in_legs, HasLegs, IsWellMade}
use Rattle.weld_meaning.specs.Names.{IsFree, LegsAreFree}
use Rattle.weld_meaning.proofs.LoopLaw.{PartLaws}
use Rattle.weld_print.specs.Spellable.{IsSpellable}
use Rattle.weld_rewriting.specs.Replacing.{MayReplace}
use Rattle.weld_rewriting.specs.Rewriting.{Rewrites}
use Rattle.weld_rewriting.specs.Tidy.{IsTidy}
use Rattle.weld_rewriting.specs.Weight.{weight}
use Rattle.weld_rewriting.specs.Within.{times, legs, StaysWithin}
use Rattle.weld_rewriting.proofs.Counts.{times-append}
use Rattle.weld_substitution.proofs.Following.{and_true}
use Rattle.weld_substitution.proofs.PutCounts.{put_counted}
use Rattle.weld_substitution.proofs.PutMade.{put_named, put_made, put_spellable}
use Rattle.weld_substitution.specs.Uses.{uses}
use Rattle.weld_vertical.specs.Sinking.{starts_list}
use Rattle.weld_horizontal.specs.Twice.{items, count}
use Rattle.weld_horizontal.proofs.Weights.{weight_put}
use Rattle.weld_handing.specs.Handing.{unnoted, starts_none, own_names, handed_by, is_noted}
use Rattle.weld_handing.specs.Merging.{list_merges, always_merges}
use Rattle.weld_handing.proofs.Counting.{Counts, handed_counts}
use Rattle.weld_handing.proofs.Free.{Added, handed_free}
use Rattle.weld_handing.proofs.Types.{not_so}
use Rattle.weld_handing.proofs.Recognising.{one_copy, list_by, noted_by}
use Rattle.weld_vertical_zip.specs.Zipping.{legs_behind, types_behind, all_items, Around, behind_leg, producer_of, are_several, fits_around}
use Rattle.weld_vertical_zip.proofs.Falling.{part_weight, made_weight, legs_weight}
use Rattle.weld_vertical_zip.proofs.MadeRows.{made_small}
use Rattle.weld_vertical_zip.proofs.Splice.{Splice, places, produced, pattern, row, body, all_legs, old_legs, row_small, mine, inner, body_times}
use Rattle.weld_vertical_zip.proofs.SpliceRule.{few_of, several_of}
use Rattle.weld_vertical_zip.proofs.ZippingSplicing.{times_together, length_together, loops_together, legs_together, named_apart, named_first, named_second, some_first, some_together, made_apart, made_together, spellable_apart, spellable_together}
use Rattle.weld_vertical_zip_held.specs.Rule.{rebinds, merges_always, merges_each, makes_each, is_each_list, is_each_leg, first_each, is_over_each, zip_joined, joined_around, zip_over}
use Rattle.weld_vertical_zip_held.proofs.ZipHeld.{own, Held, item_there, made, consumer, made_names, all_times, merges_in, one_body, one_loop}
use Rattle.weld_vertical_zip_held.proofs.ZipPlaced.{placed, taken}
use Rattle.weld_vertical_zip_held.proofs.ZipMeans.{means}

some_items : (ls : LegTrees) → HasLegs ls → HasTypes (items ls)
some_items no_legs h = absurd h
some_items (more_legs l ls) h = tt

nothing_more : (m k : ℕ) → k ≡ 0 → m * k ≡ 0
nothing_more m k h = ap (λ z. m * z) h ∙ omega arith

module _ (c : Splice) (h : Held c) where
  -- ---- what is counted

  counts : Counts h.t c.i.sym.0 c.b c.n (unnoted c.x) (consumer c) (one_body c h) (body c) (list_merges (own c) (body c))
  counts = handed_counts h.t c.i.sym.0 c.b c.n (unnoted c.x) (consumer c) (body c) (own c)

  -- the consumer's body with its row rebuilt holds what it held
  made_binds : bound (made c) ≡ []
  made_binds = (made_small c.a.place c.r.sym.0 (places c) (item_there c) c.few).binds

  consumer_times : (s : ℕ) → times (bound (consumer c)) s ≡ times (bound c.f) s
  consumer_times s = let more = nothing_more (uses c.f c.x.sym.0) (times (bound (made c)) s) (ap (λ l. times l s) made_binds) in omega (arith, (put_counted c.f c.x.sym.0 (made c)).binds s, more)

  consumer_length : length (bound (consumer c)) ≡ length (bound c.f)
  consumer_length = let more = nothing_more (uses c.f c.x.sym.0) (length (bound (made c))) (ap length made_binds) in omega (arith, (put_counted c.f c.x.sym.0 (made c)).binder_count, more)

  consumer_loops : loops (consumer c) ≡ loops c.f
  consumer_loops =
      let more = nothing_more (uses c.f c.x.sym.0) (loops (made c)) (made_small c.a.place c.r.sym.0 (places c) (item_there c) c.few).loop_count in omega (arith, (put_counted c.f c.x.sym.0 (made c)).loop_count, more)

  consumer_legs : legs (consumer c) ≡ legs c.f
  consumer_legs =
      let more = nothing_more (uses c.f c.x.sym.0) (legs (made c)) (made_small c.a.place c.r.sym.0 (places c) (item_there c) c.few).leg_count in omega (arith, (put_counted c.f c.x.sym.0 (made c)).leg_count, more)

  -- and so does the body of the loop that makes the list
  body_length : length (bound (body c)) ≡ length (bound c.g)
  body_length = let more = nothing_more (uses c.g c.r.sym.0) (length (bound (row c))) (ap length (row_small c).binds) in omega (arith, (put_counted c.g c.r.sym.0 (row c)).binder_count, more)

  body_loops : loops (body c) ≡ loops c.g
  body_loops = let more = nothing_more (uses c.g c.r.sym.0) (loops (row c)) (row_small c).no_loops in omega (arith, (put_counted c.g c.r.sym.0 (row c)).loop_count, more)

  body_legs : legs (body c) ≡ legs c.g
  body_legs = let more = nothing_more (uses c.g c.r.sym.0) (legs (row c)) (row_small c).no_legs in omega (arith, (put_counted c.g c.r.sym.0 (row c)).leg_count, more)

  abbrev theirs : List ℕ
  theirs = c.b.sym.0 ∷ c.n.sym.0 ∷ c.x.sym.0 ∷ bound (consumer c)

  theirs_times : (s : ℕ) → times theirs s ≡ times (mine c) s
  theirs_times s = omega (arith, consumer_times s)

  within : StaysWithin (one_loop c h) (pattern c)
  within = record {
    binds = λ s.
        omega (
          arith,
          counts.binds s,
          one_copy (list_merges (own c) (body c)) (times theirs s) (merges_in c h),
          theirs_times s,
          body_times c s,
          all_times c s,
          times_together c.bs (legs_behind c.ks c.zs) s,
          times_together c.ks c.zs s,
          times-append (bound_in_legs (all_legs c)) (bound c.e ++ (c.d.sym.0 ∷ c.i.sym.0 ∷ c.r.sym.0 ∷ bound (one_body c h))) s,
          times-append (bound c.e) (c.d.sym.0 ∷ c.i.sym.0 ∷ c.r.sym.0 ∷ bound (one_body c h)) s,
        );
    names = named;
    no_more_loops =
        omega (
          arith,
          counts.loop_count,
          one_copy (list_merges (own c) (body c)) (loops (consumer c)) (merges_in c h),
          consumer_loops,
          body_loops,
          loops_together c.bs (more_legs (whole (produced c)) c.zs),
          loops_together c.bs (legs_behind c.ks c.zs),
          loops_together c.ks c.zs,
        );
    no_more_legs =
        omega (
          arith,
          counts.leg_count,
          one_copy (list_merges (own c) (body c)) (legs (consumer c)) (merges_in c h),
          consumer_legs,
          body_legs,
          legs_together c.bs (more_legs (whole (produced c)) c.zs),
          legs_together c.bs (legs_behind c.ks c.zs),
          legs_together c.ks c.zs,
        );
    no_more_binders =
        omega (
          arith,
          counts.binder_count,
          one_copy (list_merges (own c) (body c)) (3 + length (bound (consumer c))) (merges_in c h),
          consumer_length,
          body_length,
          length-append (bound_in_legs (all_legs c)) (bound c.e ++ (c.d.sym.0 ∷ c.i.sym.0 ∷ c.r.sym.0 ∷ bound (one_body c h))),
          length-append (bound c.e) (c.d.sym.0 ∷ c.i.sym.0 ∷ c.r.sym.0 ∷ bound (one_body c h)),
          length_together c.bs (legs_behind c.ks c.zs),
          length_together c.ks c.zs,
          length-append (bound_in_legs (old_legs c)) (bound c.e ++ mine c),
          length-append (bound c.e) (mine c),
          length_together c.bs (more_legs (whole (produced c)) c.zs),
          length-append (bound_in_legs c.ks ++ inner c) (bound_in_legs c.zs),
          length-append (bound_in_legs c.ks) (inner c),
        );
    well_made = made_well;
    spellable = spells;
  }
    where
      of_legs : (s : ℕ) → LegsAreFree c.ks s ⊎ LegsAreFree c.zs s → LegsAreFree (old_legs c) s
      of_legs s (inl k) = named_second c.bs (more_legs (whole (produced c)) c.zs) s (inl (inl k))
      of_legs s (inr k) = named_second c.bs (more_legs (whole (produced c)) c.zs) s (inr k)

      of_all : (s : ℕ) → LegsAreFree c.bs s ⊎ LegsAreFree (legs_behind c.ks c.zs) s → LegsAreFree (old_legs c) s
      of_all s (inl k) = named_first c.bs (more_legs (whole (produced c)) c.zs) s k
      of_all s (inr k) = of_legs s (named_apart c.ks c.zs s k)

      named : (s : ℕ) → IsFree (one_loop c h) s → IsFree (pattern c) s
      named s (inl k) = inl (of_all s (named_apart c.bs (legs_behind c.ks c.zs) s k))
      named s (inr (inl k)) = inr (inl k)
      named s (inr (inr k)) = by (handed_free h.t c.i.sym.0 c.b c.n (unnoted c.x) (consumer c) (own c) (body c) s k.0)
        where
          in_body : IsFree (row c) s ⊎ (IsFree c.g s × (s ≢ c.r.sym.0)) → IsFree (pattern c) s
          in_body (inl j) = absurd (k.1 ((row_small c).names s j))
          in_body (inr j) = inl (named_second c.bs (more_legs (whole (produced c)) c.zs) s (inl (inr (inr (j.0, k.1, k.2, k.3)))))

          in_made : (s ≡ c.r.sym.0) ⊎ (s ≡ c.x.sym.0) → (s ≢ c.x.sym.0) → IsFree (pattern c) s
          in_made (inl j) ne = absurd (k.1 j)
          in_made (inr j) ne = absurd (ne j)

          in_consumer : IsFree (made c) s ⊎ (IsFree c.f s × (s ≢ c.x.sym.0)) → (s ≢ c.x.sym.0) × (s ≢ c.n.sym.0) × (s ≢ c.b.sym.0) → IsFree (pattern c) s
          in_consumer (inl j) ne = in_made (made_names c s j) ne.0
          in_consumer (inr j) ne = inr (inr (j.0, ne.0, ne.1, ne.2))

          by : IsFree (body c) s ⊎ Added h.t c.i.sym.0 c.b c.n (unnoted c.x) (consumer c) s → IsFree (pattern c) s
          by (inl j) = in_body (put_named c.g c.r.sym.0 (row c) s j)
          by (inr (inl j)) = absurd (k.2 j)
          by (inr (inr j)) = in_consumer (put_named c.f c.x.sym.0 (made c) s j.0) (j.1, j.2, j.3)

      made_well : IsWellMade (pattern c) → IsWellMade (one_loop c h)
      made_well y =
          let k = made_apart c.bs (more_legs (whole (produced c)) c.zs) y.1 in
          let q = k.1.0.1 in (
            some_together c.bs (legs_behind c.ks c.zs) (some_first c.ks c.zs q.0),
            made_together c.bs (legs_behind c.ks c.zs) k.0 (made_together c.ks c.zs q.1 k.1.1),
            y.2,
            counts.made (put_made c.f c.x.sym.0 (made c) whole_made y.3) (put_made c.g c.r.sym.0 (row c) ((row_small c).made (some_items c.ks q.0)) q.3),
          )
        where
          whole_made : IsWellMade (made c)
          whole_made = let m = made_small c.a.place c.r.sym.0 (places c) (item_there c) c.few in (m.some, m.made tt)

      spells : IsSpellable (pattern c) → IsSpellable (one_loop c h)
      spells y =
          let k = spellable_apart c.bs (more_legs (whole (produced c)) c.zs) y.0 in
          let q = k.1.0.1 in (
            spellable_together c.bs (legs_behind c.ks c.zs) k.0 (spellable_together c.ks c.zs q.0 k.1.1),
            y.1,
            tt,
            q.3,
            tt,
            counts.spellable y.2 y.3 tt (put_spellable c.f c.x.sym.0 (made c) ((made_small c.a.place c.r.sym.0 (places c) (item_there c) c.few).spellable tt) y.5) (put_spellable c.g c.r.sym.0 (row c) (row_small c).spellable q.5),
          )

  replaces : PartLaws → IsTidy (pattern c) → MayReplace (one_loop c h) (pattern c)
  replaces laws tidy = record {
    same_origin = λ q. refl;
    same_chain = λ y k. let nothing : ⊥ = cc in absurd nothing;
    placed = placed c h tidy;
    taken = taken c h tidy;
    means = means laws c h tidy;
  }

  rewrites : PartLaws → IsTidy (pattern c) → Rewrites (one_loop c h) (pattern c)
  rewrites laws tidy = record { replaces = replaces laws tidy; within = within }

  -- ---- it is lighter

  lighter : weight (one_loop c h) < weight (pattern c)
  lighter =
      omega (
        arith,
        counts.weighs,
        one_copy (list_merges (own c) (body c)) (3 + weight (consumer c)) (merges_in c h),
        weight_put c.f c.x.sym.0 (made c) (made_weight c.a.place c.r.sym.0 (places c) (item_there c)),
        weight_put c.g c.r.sym.0 (row c) (part_weight c.a.place c.r.sym.0 (all_items (places c)) (count (items c.bs)) (items c.ks)),
        legs_weight c.bs (more_legs (whole (produced c)) c.zs),
        legs_weight c.bs (legs_behind c.ks c.zs),
        legs_weight c.ks c.zs,
      )

-- ---- which loops the test recognises

-- such a leg stands between those before and those behind
record Found (ls : LegTrees) (s : Around) : Type 0 where
  pub each : is_each_leg s.leg ≡ true
  pub legs_are : ls ≡ legs_behind s.before (more_legs s.leg s.after)

found_behind : (l : LegTree) (ls : LegTrees) (o : Option Around) → ((s : Around) → o ≡ Some s → Found ls s) → (s : Around) → option_map (behind_leg l) o ≡ Some s → Found (more_legs l ls) s
found_behind l ls None h s e = let nothing : ⊥ = cc in absurd nothing
found_behind l ls (Some r) h s e =
    let k = h r refl in
    let same : behind_leg l r ≡ s = let both : Some (behind_leg l r) ≡ Some s = e in cc in
    subst (Found (more_legs l ls)) same (record { each = k.each; legs_are = ap (more_legs l) k.legs_are })

found_of : (ls : LegTrees) (s : Around) → first_each ls ≡ Some s → Found ls s
found_of no_legs s e = let nothing : ⊥ = cc in absurd nothing
found_of (more_legs l ls) s e = by (is_each_leg l) refl e (found_of ls)
  where
    by : (b : Bool) → is_each_leg l ≡ b → (if b then Some (record { before = no_legs; leg = l; after = ls }) else option_map (behind_leg l) (first_each ls)) ≡ Some s → ((r : Around) → first_each ls ≡ Some r → Found ls r) → Found (more_legs l ls) s
    by true h k f =
        let here : Around = record { before = no_legs; leg = l; after = ls } in
        let same : here ≡ s = let both : Some here ≡ Some s = k in cc in
        subst (Found (more_legs l ls)) same (record { each = h; legs_are = refl })
    by false h k f = found_behind l ls (first_each ls) f s k

-- a loop that starts with an empty list and merges once in each row
abbrev AtMaker : (ExprTree → Type 0) → Type 0
AtMaker P =
    (p o : At) (item : TypeTree) (ks : LegTrees) (d i r : Binder) (g : ExprTree) → starts_none (own_names d i r) g ≡ true → list_merges (own_names d i r) g ≡ 1 → always_merges (own_names d i r) g ≡ true → rebinds r.sym.0 g ≡ false
    → P (loop p ks (leaf o (fresh (list item))) d i r g)

maker_by : (P : ExprTree → Type 0) → AtMaker P → (q : ExprTree) → makes_each q ≡ true → P q
maker_by P f (leaf a l) k = let nothing : ⊥ = cc in absurd nothing
maker_by P f (one a o e) k = let nothing : ⊥ = cc in absurd nothing
maker_by P f (two a o e g) k = let nothing : ⊥ = cc in absurd nothing
maker_by P f (three a o e g y) k = let nothing : ⊥ = cc in absurd nothing
maker_by P f (many a o es) k = let nothing : ⊥ = cc in absurd nothing
maker_by P f (let_in a b e g) k = let nothing : ⊥ = cc in absurd nothing
maker_by P f (loop p ks s d i r g) k =
    let q = own_names d i r in
    let y = and_true (starts_list s) (merges_each r.sym.0 q g) k in
    let u = and_true (not_of (rebinds r.sym.0 g)) (merges_always q g) y.1 in
    let z = and_true (list_merges q g == 1) (starts_none q g && always_merges q g) u.1 in
    let v = and_true (starts_none q g) (always_merges q g) z.1 in
    list_by (λ s. P (loop p ks s d i r g)) (λ o item. f p o item ks d i r g v.0 (eqb-true (list_merges q g) 1 z.0) v.1 (not_so (rebinds r.sym.0 g) u.0)) s y.0
maker_by P f (iterate a e b g) k = let nothing : ⊥ = cc in absurd nothing

each_list_by : (P : ExprTree → Type 0) → ((m : At) → AtMaker (λ q. P (one m finish q))) → (q : ExprTree) → is_each_list q ≡ true → P q
each_list_by P f (leaf a l) k = let nothing : ⊥ = cc in absurd nothing
each_list_by P f (one m neg e) k = let nothing : ⊥ = cc in absurd nothing
each_list_by P f (one m not e) k = let nothing : ⊥ = cc in absurd nothing
each_list_by P f (one m (cast c) e) k = let nothing : ⊥ = cc in absurd nothing
each_list_by P f (one m len e) k = let nothing : ⊥ = cc in absurd nothing
each_list_by P f (one m (field c) e) k = let nothing : ⊥ = cc in absurd nothing
each_list_by P f (one m finish e) k = maker_by (λ q. P (one m finish q)) (f m) e k
each_list_by P f (one m (started b) e) k = let nothing : ⊥ = cc in absurd nothing
each_list_by P f (two a o e g) k = let nothing : ⊥ = cc in absurd nothing
each_list_by P f (three a o e g c) k = let nothing : ⊥ = cc in absurd nothing
each_list_by P f (many a o es) k = let nothing : ⊥ = cc in absurd nothing
each_list_by P f (let_in a b e g) k = let nothing : ⊥ = cc in absurd nothing
each_list_by P f (loop a ls e b m x g) k = let nothing : ⊥ = cc in absurd nothing
each_list_by P f (iterate a e b g) k = let nothing : ⊥ = cc in absurd nothing

each_leg_by : (P : LegTree → Type 0) → ((m : At) → AtMaker (λ q. P (whole (one m finish q)))) → (l : LegTree) → is_each_leg l ≡ true → P l
each_leg_by P f (whole e) k = each_list_by (λ q. P (whole q)) f e k
each_leg_by P f (strided e g c l) k = let nothing : ⊥ = cc in absurd nothing

module _ (Q : ExprTree → ExprTree → Type 0) (at : (c : Splice) (h : Held c) → Q (pattern c) (one_loop c h)) where
  around_by : (a : At) (e : ExprTree) (b n x : Binder) (f : ExprTree) (bs zs : LegTrees) (l : LegTree) → is_noted a.ty ≡ true → is_each_leg l ≡ true → are_several (legs_behind bs (more_legs l zs)) ≡ true → fits_around (Some (record { before = bs; leg = l; after = zs })) ≡ true
      → Q (loop a (legs_behind bs (more_legs l zs)) e b n x f) (joined_around a (legs_behind bs (more_legs l zs)) e b n x f (Some (record { before = bs; leg = l; after = zs })))
  around_by a e b n x f bs zs l noted h =
      each_leg_by
      (λ u.
      are_several (legs_behind bs (more_legs u zs)) ≡ true → fits_around (Some (record { before = bs; leg = u; after = zs })) ≡ true
      → Q (loop a (legs_behind bs (more_legs u zs)) e b n x f) (joined_around a (legs_behind bs (more_legs u zs)) e b n x f (Some (record { before = bs; leg = u; after = zs }))))
      (λ m p o item ks d i r g starts once always anew some few. by m p o item ks d i r g starts once always anew some few)
      l h
    where
      by : (m p o : At) (item : TypeTree) (ks : LegTrees) (d i r : Binder) (g : ExprTree) → starts_none (own_names d i r) g ≡ true → list_merges (own_names d i r) g ≡ 1 → always_merges (own_names d i r) g ≡ true → rebinds r.sym.0 g ≡ false
          → are_several (legs_behind bs (more_legs (whole (one m finish (loop p ks (leaf o (fresh (list item))) d i r g))) zs)) ≡ true
          → fits_around (Some (record { before = bs; leg = whole (one m finish (loop p ks (leaf o (fresh (list item))) d i r g)); after = zs })) ≡ true
          → Q (loop a (legs_behind bs (more_legs (whole (one m finish (loop p ks (leaf o (fresh (list item))) d i r g))) zs)) e b n x f) (zip_joined a e b n x f bs zs (loop p ks (leaf o (fresh (list item))) d i r g))
      by m p o item ks d i r g starts once always anew some few =
          let type = noted_by a.ty noted in
          let c : Splice = record {
            a = a;
            m = m;
            p = p;
            o = o;
            item = item;
            bs = bs;
            ks = ks;
            zs = zs;
            d = d;
            i = i;
            r = r;
            g = g;
            e = e;
            b = b;
            n = n;
            x = x;
            f = f;
            several = several_of bs zs (whole (one m finish (loop p ks (leaf o (fresh (list item))) d i r g))) some;
            few = few_of (types_behind (items bs) (types_behind (items ks) (items zs))) few;
          } in
          let held : Held c = record { t = type.0; noted = type.1; starts = starts; once = once; always = always; fresh = anew } in
          let answered : zip_joined a e b n x f bs zs (loop p ks (leaf o (fresh (list item))) d i r g) ≡ one_loop c held =
          ap (λ y. loop a (all_legs c) e (unnoted d) i (unnoted r) (handed_by y i.sym.0 b n (unnoted x) (consumer c) (own_names d i r) (body c))) type.1 in
          subst (Q (pattern c)) (sym answered) (at c held)

  loop_by : (a : At) (ls : LegTrees) (e : ExprTree) (b n x : Binder) (f : ExprTree) → (is_noted a.ty && (are_several ls && fits_around (first_each ls))) ≡ true → Q (loop a ls e b n x f) (joined_around a ls e b n x f (first_each ls))
  loop_by a ls e b n x f h =
      let y = and_true (is_noted a.ty) (are_several ls && fits_around (first_each ls)) h in let k = and_true (are_several ls) (fits_around (first_each ls)) y.1 in by (first_each ls) refl k.0 k.1 y.0
    where
      by : (o : Option Around) → first_each ls ≡ o → are_several ls ≡ true → fits_around o ≡ true → is_noted a.ty ≡ true → Q (loop a ls e b n x f) (joined_around a ls e b n x f o)
      by None q some fits noted = let nothing : ⊥ = cc in absurd nothing
      by (Some s) q some fits noted =
          let w = found_of ls s q in
          subst (λ ms. Q (loop a ms e b n x f) (zip_joined a e b n x f s.before s.after (producer_of s.leg))) (sym w.legs_are)
          (around_by a e b n x f s.before s.after s.leg noted w.each (sym (ap are_several w.legs_are) ∙ some) fits)

  pub over_each_by : (e : ExprTree) → is_over_each e ≡ true → Q e (zip_over e)
  over_each_by (leaf a l) h = let nothing : ⊥ = cc in absurd nothing
  over_each_by (one a o e) h = let nothing : ⊥ = cc in absurd nothing
  over_each_by (two a o e f) h = let nothing : ⊥ = cc in absurd nothing
  over_each_by (three a o c e f) h = let nothing : ⊥ = cc in absurd nothing
  over_each_by (many a o es) h = let nothing : ⊥ = cc in absurd nothing
  over_each_by (let_in a b e f) h = let nothing : ⊥ = cc in absurd nothing
  over_each_by (loop a ls e b n x f) h = loop_by a ls e b n x f h
  over_each_by (iterate a e b f) h = let nothing : ⊥ = cc in absurd nothing

-- ---- the laws

pub joined_rewrites : PartLaws → (e : ExprTree) → IsTidy e → is_over_each e ≡ true → Rewrites (zip_over e) e
joined_rewrites laws e tidy h = over_each_by (λ d j. IsTidy d → Rewrites j d) (λ c k tidy. rewrites c k laws tidy) e h tidy

pub joined_lighter : (e : ExprTree) → is_over_each e ≡ true → weight (zip_over e) < weight e
joined_lighter = over_each_by (λ d j. weight j < weight d) (λ c k. lighter c k)
