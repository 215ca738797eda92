-- A loop over a `zip` of which a leg is a list that another loop makes that holds its builder anywhere, and the one loop that takes
-- the place of both: by all their parts, and what both bind and name.
use Rattle.std.proofs.Common.{◌≡◌, ◌≢◌, ℕ, ◌+◌, ◌≤◌, true, false, ◌∷◌, refl, ◌∙◌, sym, subst, arith, ◌⊎◌, inl, inr}
use Rattle.weld_tree.specs.declared.known.Known.TheVariants.{Is}
use Rattle.weld_tree.specs.TypeTree.{TypeTree}
use Rattle.weld_tree.specs.ExprTree.{ExprTree, leaf, loop, whole, more_legs, name}
use Rattle.weld_tree.specs.Program.{bound, bound_in_legs, IsOneOf, AreDistinct}
use Rattle.weld_meaning.specs.Environment.{Named}
use Rattle.weld_meaning.specs.Origin.{Origin}
use Rattle.weld_meaning.specs.Names.{IsFree, put, Binds, IsClear}
use Rattle.weld_rewriting.specs.Within.{times}
use Rattle.weld_rewriting.specs.Tidy.{IsTidy}
use Rattle.weld_rewriting.proofs.Counts.{times-append, one_of_times, times_one_of, distinct_times, times_distinct}
use Rattle.weld_substitution.proofs.Clear.{binds_each}
use Rattle.weld_substitution.proofs.Values.{IsIdle}
use Rattle.weld_substitution.proofs.PutMade.{put_named}
use Rattle.weld_horizontal.specs.Twice.{node_of, items, count}
use Rattle.weld_vertical_zip.specs.Zipping.{all_items}
use Rattle.weld_handing.specs.Handing.{unnoted, handed, starts_none, own_names}
use Rattle.weld_handing.specs.Merging.{list_merges, always_merges}
use Rattle.weld_handing.proofs.Common.{IsAside}
use Rattle.weld_vertical_zip.proofs.ZippingSplicing.{named_second}
use Rattle.weld_vertical_zip.proofs.MadeRows.{made_small}
use Rattle.weld_vertical_zip.proofs.Splice.{Splice, places, produced, pattern, row, body, all_legs, row_small, inner, mine, old_times, body_times}
use Rattle.weld_vertical_zip_held.specs.Rule.{rebinds, whole_of}
use Rattle.weld_vertical_zip_held.proofs.PutHeld.{part_still, own_merges, own_starts}

module _ (c : Splice) where
  -- the names in the body of the loop that makes the list
  abbrev pub own : Named Origin
  own = own_names c.d c.i c.r

  -- the type that is noted at the consumer, and what is asked of the body
  pub record Held : Type 0 where
    pub t : TypeTree
    pub noted : c.a.ty ≡ Is t
    pub starts : starts_none own c.g ≡ true
    pub once : list_merges own c.g ≡ 1
    pub always : always_merges own c.g ≡ true
    pub fresh : rebinds c.r.sym.0 c.g ≡ false

  -- ---- the consumer's row

  -- the item that was merged
  abbrev pub item_there : ExprTree
  item_there = leaf (node_of c.a.place c.item) (name c.x.sym.0)

  abbrev pub made : ExprTree
  made = whole_of c.a.place c.r.sym.0 (places c) c.x.sym.0

  -- the consumer's body with its row rebuilt
  abbrev pub consumer : ExprTree
  consumer = put c.x.sym.0 made c.f

  pub made_names : (z : ℕ) → IsFree made z → (z ≡ c.r.sym.0) ⊎ (z ≡ c.x.sym.0)
  made_names = (made_small c.a.place c.r.sym.0 (places c) item_there c.few).names

  -- ---- binders

  pub all_times : (s : ℕ) → times (bound (pattern c)) s ≡ times (bound_in_legs c.bs) s + times (bound_in_legs c.ks) s + times (inner c) s + times (bound_in_legs c.zs) s + times (bound c.e) s + times (mine c) s
  all_times s = omega (arith, old_times c s, times-append (bound c.e) (mine c) s)

  -- what a tidy pattern keeps apart
  pub record Apart : Type 0 where
    pub aside : Binds (IsAside c.b.sym.0 c.n.sym.0 c.x.sym.0 c.i.sym.0 consumer) (body c)
    pub not_builder : IsFree (body c) c.b.sym.0 → ⊥
    pub not_number : IsFree (body c) c.n.sym.0 → ⊥
    pub not_row : IsFree (body c) c.x.sym.0 → ⊥
    pub number_row : c.i.sym.0 ≢ c.r.sym.0
    pub list_number : c.d.sym.0 ≢ c.i.sym.0
    pub list_row : c.d.sym.0 ≢ c.r.sym.0
    pub behind_list : IsFree consumer c.d.sym.0 → ⊥
    pub behind_number : IsFree consumer c.i.sym.0 → ⊥
    pub no_row : IsFree c.f c.r.sym.0 → ⊥
    pub builder_number : c.b.sym.0 ≢ c.n.sym.0
    pub builder_row : c.b.sym.0 ≢ c.x.sym.0
    pub builder_count : c.b.sym.0 ≢ c.i.sym.0
    pub number_count : c.n.sym.0 ≢ c.i.sym.0
    pub row_builder : c.r.sym.0 ≢ c.b.sym.0
    pub row_number : c.r.sym.0 ≢ c.n.sym.0
    pub row_row : c.r.sym.0 ≢ c.x.sym.0
    pub made_clear : Binds (IsClear c.x.sym.0 made) c.f

  pub apart : IsTidy (pattern c) → Apart
  apart tidy = record {
    aside = binds_each (body c) (IsAside c.b.sym.0 c.n.sym.0 c.x.sym.0 c.i.sym.0 consumer) (λ z y. let u = in_body z y in (
      (λ q. other z (inr (inr (inr u))) (inl q)),
      (λ q. other z (inr (inr (inr u))) (inr (inl q))),
      (λ q. other z (inr (inr (inr u))) (inr (inr (inl q)))),
      (λ q. distinct.1.0 (subst (IsOneOf (c.r.sym.0 ∷ bound c.g)) q (inr u))),
      not_consumer z (inr (inr (inr u))) (λ q. distinct.1.1.0 (subst (IsOneOf (bound c.g)) q u)),
    ));
    not_builder = not_in_body c.b.sym.0 (inl refl);
    not_number = not_in_body c.n.sym.0 (inr (inl refl));
    not_row = not_in_body c.x.sym.0 (inr (inr (inl refl)));
    number_row = λ q. distinct.1.0 (inl q);
    list_number = λ q. distinct.0 (inl q);
    list_row = λ q. distinct.0 (inr (inl q));
    behind_list = not_consumer c.d.sym.0 (inl refl) (λ q. distinct.0 (inr (inl q)));
    behind_number = not_consumer c.i.sym.0 (inr (inl refl)) (λ q. distinct.1.0 (inl q));
    no_row = not_free c.r.sym.0 (inr (inr (inl refl)));
    builder_number = λ q. mine_distinct.0 (inl q);
    builder_row = λ q. mine_distinct.0 (inr (inl q));
    builder_count = λ q. other c.b.sym.0 (inr (inl q)) (inl refl);
    number_count = λ q. other c.n.sym.0 (inr (inl q)) (inr (inl refl));
    row_builder = λ q. other c.r.sym.0 (inr (inr (inl refl))) (inl q);
    row_number = λ q. other c.r.sym.0 (inr (inr (inl refl))) (inr (inl q));
    row_row = λ q. other c.r.sym.0 (inr (inr (inl refl))) (inr (inr (inl q)));
    made_clear = binds_each c.f (IsClear c.x.sym.0 made) (λ z y. (
      (λ q. mine_distinct.1.1.0 (subst (IsOneOf (bound c.f)) (sym q) y)),
      (λ k. not_made z y (made_names z k)),
    ));
  }
    where
      once_each : (s : ℕ) → times (bound (pattern c)) s ≤ 1
      once_each = distinct_times (bound (pattern c)) tidy.distinct

      distinct : AreDistinct (inner c)
      distinct = times_distinct (inner c) (λ s. omega (arith, once_each s, all_times s))

      mine_distinct : AreDistinct (mine c)
      mine_distinct = times_distinct (mine c) (λ s. omega (arith, once_each s, all_times s))

      other : (s : ℕ) → IsOneOf (inner c) s → IsOneOf (mine c) s → ⊥
      other s h k = absurd (omega (arith, once_each s, all_times s, one_of_times (inner c) s h, one_of_times (mine c) s k))

      in_inner : (s : ℕ) → IsOneOf (inner c) s → IsOneOf (bound (pattern c)) s
      in_inner s h = times_one_of (bound (pattern c)) s (omega (arith, all_times s, one_of_times (inner c) s h))

      in_mine : (s : ℕ) → IsOneOf (mine c) s → IsOneOf (bound (pattern c)) s
      in_mine s h = times_one_of (bound (pattern c)) s (omega (arith, all_times s, one_of_times (mine c) s h))

      in_body : (z : ℕ) → IsOneOf (bound (body c)) z → IsOneOf (bound c.g) z
      in_body z h = times_one_of (bound c.g) z (omega (arith, one_of_times (bound (body c)) z h, body_times c z))

      not_free : (z : ℕ) → IsOneOf (inner c) z → IsFree c.f z → ⊥
      not_free z h k = tidy.apart z (in_inner z h) (inr (inr (k, λ q. other z h (inr (inr (inl q))), λ q. other z h (inr (inl q)), λ q. other z h (inl q))))

      not_in : (z : ℕ) → IsOneOf (mine c) z → IsFree c.g z → ⊥
      not_in z h k =
          tidy.apart z (in_mine z h)
          (inl (named_second c.bs (more_legs (whole (produced c)) c.zs) z (inl (inr (inr (k, λ q. other z (inr (inr (inl q))) h, λ q. other z (inr (inl q)) h, λ q. other z (inl q) h))))))

      not_in_body : (z : ℕ) → IsOneOf (mine c) z → IsFree (body c) z → ⊥
      not_in_body z h k = by (put_named c.g c.r.sym.0 (row c) z k)
        where
          by : IsFree (row c) z ⊎ (IsFree c.g z × (z ≢ c.r.sym.0)) → ⊥
          by (inl j) = other z (inr (inr (inl ((row_small c).names z j)))) h
          by (inr j) = not_in z h j.0

      not_consumer : (z : ℕ) → IsOneOf (inner c) z → z ≢ c.r.sym.0 → IsFree consumer z → ⊥
      not_consumer z h ne k = by (put_named c.f c.x.sym.0 made z k)
        where
          in_made : (z ≡ c.r.sym.0) ⊎ (z ≡ c.x.sym.0) → ⊥
          in_made (inl e) = ne e
          in_made (inr e) = other z h (inr (inr (inl e)))

          by : IsFree made z ⊎ (IsFree c.f z × (z ≢ c.x.sym.0)) → ⊥
          by (inl j) = in_made (made_names z j)
          by (inr j) = not_free z h j.0

      not_made : (z : ℕ) → IsOneOf (bound c.f) z → (z ≡ c.r.sym.0) ⊎ (z ≡ c.x.sym.0) → ⊥
      not_made z y (inl e) = other z (inr (inr (inl e))) (inr (inr (inr y)))
      not_made z y (inr e) = mine_distinct.1.1.0 (subst (IsOneOf (bound c.f)) e y)

  -- ---- the body of the loop that makes the list, with its row rebuilt

  -- the row takes no builder
  pub row_still : IsIdle (row c)
  row_still = part_still c.a.place c.r.sym.0 (all_items (places c)) (count (items c.bs)) (items c.ks)

  -- ---- the one loop

  module _ (h : Held) where
    -- the body merges and starts as it did
    pub merges_in : list_merges own (body c) ≡ 1
    merges_in = own_merges c.d c.i c.r c.a.place (all_items (places c)) (count (items c.bs)) (items c.ks) c.g h.fresh ∙ h.once

    pub starts_in : starts_none own (body c) ≡ true
    starts_in = own_starts c.d c.i c.r c.a.place (all_items (places c)) (count (items c.bs)) (items c.ks) c.g h.fresh ∙ h.starts

    abbrev pub one_body : ExprTree
    one_body = handed h.t c.i.sym.0 c.b c.n (unnoted c.x) consumer own (body c)

    abbrev pub one_loop : ExprTree
    one_loop = loop c.a (all_legs c) c.e (unnoted c.d) c.i (unnoted c.r) one_body
