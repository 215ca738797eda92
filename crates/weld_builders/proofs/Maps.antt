-- Laws of maps whose values are merged: joins, and one more value at a key.
use Rattle.std.proofs.Common.{◌≡◌, ℤ, Option, Some, None, List, [], ◌∷◌, ◌++◌, Bool, true, false, cond, append_assoc, ap, sym, refl, ◌∙◌}
use Rattle.std.specs.Ordering.{eq_by_cmp}
use Rattle.std.specs.Cmp.{Equal-is}
use Rattle.std.specs.FinMap as finite
use Rattle.weld_data.specs.declared.kind.Kind.{Kind}
use Rattle.weld_data.specs.declared.op.MergeOp.{MergeOp}
use Rattle.weld_data.specs.Operation.{combination}
use Rattle.weld_data.proofs.Operations.{combination_assoc}
use Rattle.weld_data.specs.Value.{Value}
use Rattle.weld_builders.specs.ValueOrder.{value_cmp, ValueMap}
use Rattle.weld_builders.specs.Part.{combined, appended, merge_key, join_entries, join_maps}
use Rattle.weld_builders.proofs.Order.{value_cmp_total, value_cmp-IsAntisymmetric}

-- what a merge with what may be there has to meet: nothing there leaves the new, and it doesn't matter in which order three are put together
pub record IsMerging {X : Type 0} (f : Option X → X → X) : Type 0 where
  pub first : (y : X) → f None y ≡ y
  pub chains : (o : Option X) (y z : X) → f (Some (f o y)) z ≡ f o (f (Some y) z)

pub combined-IsMerging : (op : MergeOp) (k : Kind) → IsMerging (combined op k)
combined-IsMerging op k = record { first = λ y. refl; chains = chains }
  where
    chains : (o : Option ℤ) (y z : ℤ) → combination op k (combined op k o y) z ≡ combined op k o (combination op k y z)
    chains None y z = refl
    chains (Some x) y z = combination_assoc op k x y z

pub appended-IsMerging : {X : Type 0} → IsMerging (appended {X = X})
appended-IsMerging {X} = record { first = λ y. refl; chains = chains }
  where
    chains : (o : Option (List X)) (y z : List X) → appended o y ++ z ≡ appended o (y ++ z)
    chains None y z = refl
    chains (Some x) y z = append_assoc x y z

-- what stands at a key of a join
abbrev pub over : {X : Type 0} → (Option X → X → X) → Option X → Option X → Option X
over f o None = o
over f o (Some y) = Some (f o y)

tied : {X : Type 0} (m : ValueMap X) (q k : Value) → eq_by_cmp value_cmp q k ≡ true → finite.get m k ≡ finite.get m q
tied m q k e = finite.get_tied value_cmp_total m q k ((Equal-is (value_cmp q k)).0 e)

module _ {X : Type 0} (f : Option X → X → X) where
  get-join_entries : (s : ValueMap X) (es : List (Value × X)) (q : Value) → finite.get (join_entries f s es) q ≡ over f (finite.get s q) (finite.find value_cmp q es)
  get-join_entries s [] q = refl
  get-join_entries s (e ∷ es) q =
      finite.get-insert value_cmp_total (join_entries f s es) e.0 (f (finite.get s e.0) e.1) q
      ∙ by (get-join_entries s es q) (eq_by_cmp value_cmp q e.0) refl
    where
      by : finite.get (join_entries f s es) q ≡ over f (finite.get s q) (finite.find value_cmp q es) → (b : Bool) → eq_by_cmp value_cmp q e.0 ≡ b
          → cond b (Some (f (finite.get s e.0) e.1)) (finite.get (join_entries f s es) q) ≡ over f (finite.get s q) (cond b (Some e.1) (finite.find value_cmp q es))
      by rest true t = ap (λ (o : Option X). Some (f o e.1)) (tied s q e.0 t)
      by rest false t = rest

  pub get-join_maps : (s m : ValueMap X) (q : Value) → finite.get (join_maps f s m) q ≡ over f (finite.get s q) (finite.get m q)
  get-join_maps s m q = get-join_entries s (finite.entries m) q ∙ ap (over f (finite.get s q)) (sym (finite.get-entries m q))

  pub get-merge_key : (m : ValueMap X) (k : Value) (x : X) (q : Value) → finite.get (merge_key f m k x) q ≡ cond (eq_by_cmp value_cmp q k) (Some (f (finite.get m k) x)) (finite.get m q)
  get-merge_key m k x q = finite.get-insert value_cmp_total m k (f (finite.get m k) x) q

pub same_maps : {X : Type 0} (m n : ValueMap X) → ((q : Value) → finite.get m q ≡ finite.get n q) → m ≡ n
same_maps m n h = finite.same_map value_cmp_total value_cmp-IsAntisymmetric m n h

module _ {X : Type 0} {f : Option X → X → X} (h : IsMerging f) where
  pub join_maps-empty : (s : ValueMap X) → join_maps f s finite.empty ≡ s
  join_maps-empty s =
      same_maps _ _ (λ q. get-join_maps f s finite.empty q ∙ ap (over f (finite.get s q)) (finite.get-empty value_cmp q))

  over_none : (o : Option X) → over f None o ≡ o
  over_none None = refl
  over_none (Some y) = ap Some (h.first y)

  pub empty-join_maps : (m : ValueMap X) → join_maps f finite.empty m ≡ m
  empty-join_maps m =
      same_maps _ _ (λ q. get-join_maps f finite.empty m q
      ∙ ap (λ (o : Option X). over f o (finite.get m q)) (finite.get-empty value_cmp q) ∙ over_none (finite.get m q))

  over_assoc : (a b c : Option X) → over f (over f a b) c ≡ over f a (over f b c)
  over_assoc a b None = refl
  over_assoc a None (Some z) = ap (λ y. Some (f a y)) (sym (h.first z))
  over_assoc a (Some y) (Some z) = ap Some (h.chains a y z)

  pub join_maps-assoc : (r s m : ValueMap X) → join_maps f (join_maps f r s) m ≡ join_maps f r (join_maps f s m)
  join_maps-assoc r s m =
      same_maps _ _ (λ q. get-join_maps f (join_maps f r s) m q
      ∙ ap (λ (o : Option X). over f o (finite.get m q)) (get-join_maps f r s q)
      ∙ over_assoc (finite.get r q) (finite.get s q) (finite.get m q)
      ∙ sym (get-join_maps f r (join_maps f s m) q ∙ ap (over f (finite.get r q)) (get-join_maps f s m q)))

  after_over : (a b : Option X) (x : X) → f (over f a b) x ≡ f a (f b x)
  after_over a None x = ap (f a) (sym (h.first x))
  after_over a (Some y) x = h.chains a y x

  -- one more value after a join is one more in its later map
  pub merge_key-join_maps : (s m : ValueMap X) (k : Value) (x : X) → merge_key f (join_maps f s m) k x ≡ join_maps f s (merge_key f m k x)
  merge_key-join_maps s m k x =
      same_maps _ _ (λ q. get-merge_key f (join_maps f s m) k x q ∙ by q (eq_by_cmp value_cmp q k) refl
      ∙ sym (get-join_maps f s (merge_key f m k x) q ∙ ap (over f (finite.get s q)) (get-merge_key f m k x q)))
    where
      by : (q : Value) (b : Bool) → eq_by_cmp value_cmp q k ≡ b → cond b (Some (f (finite.get (join_maps f s m) k) x)) (finite.get (join_maps f s m) q) ≡ over f (finite.get s q) (cond b (Some (f (finite.get m k) x)) (finite.get m q))
      by q true t =
          ap (λ (o : Option X). Some (f o x)) (get-join_maps f s m k)
          ∙ ap Some (after_over (finite.get s k) (finite.get m k) x)
          ∙ ap (λ (o : Option X). Some (f o (f (finite.get m k) x))) (tied s q k t)
      by q false t = get-join_maps f s m q
