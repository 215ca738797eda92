-- A handed body keeps the rules on origins.
use Rattle.std.proofs.Common.{◌≡◌, ◌≢◌, inl, inr, ℕ, Bool, true, false, ◌&&◌, ◌∷◌, Option, Some, None, option_map, refl, ap, sym, subst, ◌∙◌, ne_eqb}
use Rattle.weld_tree.specs.declared.binder.Binder.{Binder}
use Rattle.weld_tree.specs.TypeTree.{TypeTree}
use Rattle.weld_tree.specs.ExprTree.{At, ExprTree, leaf, one, two, three, many, let_in, loop, iterate, ExprTrees, no_exprs, more_exprs, LegTree, whole, strided, LegTrees, no_legs, more_legs, int, truth, chars, name, fresh, One, neg, not, cast, len, field, finish, started, Two, Three, if_else, select, slice}
use Rattle.weld_meaning.specs.Environment.{Named, look_for}
use Rattle.weld_meaning.specs.Origin.{Origin, value, made, own, outer, named, struct, is_value, known_origin, origin_of_name, origin, own_below, own_paths, from_within, outside, in_body, in_turn, by_name}
use Rattle.weld_meaning.specs.Linear.{IsSeen, IsNotMade, OneKeeps, ThreeKeeps, Keeps, AllKeep, LegKeeps, LegsKeep}
use Rattle.weld_meaning.specs.Names.{IsFree, AreFree, LegIsFree, LegsAreFree, AgreeOn, Binds, AllBind, LegBinds, LegsBind}
use Rattle.weld_meaning.proofs.Before.{look_for-map, origin_outside}
use Rattle.weld_meaning.proofs.FreeNames.{keeps_free, origin_free}
use Rattle.weld_meaning.proofs.Names.{agree_bind}
use Rattle.weld_substitution.proofs.Bindings.{agree_over, agree_after}
use Rattle.weld_substitution.proofs.Unnamed.{kept_seen}
use Rattle.weld_vertical.specs.Sinking.{is_merge}
use Rattle.weld_handing.specs.Handing.{is_held, holds, handed_two, handed, all_handed, leg_handed, legs_handed}
use Rattle.weld_meaning.proofs.Tracing.{same_origins}
use Rattle.weld_handing.proofs.Traces.{handed_origin, Alike, handed_none}
use Rattle.weld_handing.proofs.Answering.{IsClear, AllClear, LegClear, LegsClear, Consumes, Aside, Behind, Names, names_bind, name_handed, handed_answers, builder_not_free, count_not_free, value_past}
use Rattle.weld_handing.proofs.ByName.{handed_seen, handed_not_own, handed_not_made, names_by_name, seen_holds_none}

-- a value, with the other loop's builder in place of the list's
pub stays_value : (start o : Origin) → is_value o ≡ true → handed_origin start o o ≡ value
stays_value start value e = refl
stays_value start made e = let nothing : ⊥ = cc in absurd nothing
stays_value start (own p) e = let nothing : ⊥ = cc in absurd nothing
stays_value start outer e = let nothing : ⊥ = cc in absurd nothing
stays_value start (named s p) e = let nothing : ⊥ = cc in absurd nothing
stays_value start (struct os) e = let nothing : ⊥ = cc in absurd nothing

-- the list's builder becomes the other loop's own
pub held_is_own : (start o : Origin) → is_held o ≡ true → Alike o o → handed_origin start o o ≡ own_paths start
held_is_own start value e h = let nothing : ⊥ = cc in absurd nothing
held_is_own start made e h = let nothing : ⊥ = cc in absurd nothing
held_is_own start (own p) e h = ap (λ w. own_below w start) h.0
held_is_own start outer e h = let nothing : ⊥ = cc in absurd nothing
held_is_own start (named s p) e h = let nothing : ⊥ = cc in absurd nothing
held_is_own start (struct os) e h = let nothing : ⊥ = cc in absurd nothing

module _ (t : TypeTree) (i : ℕ) (c n x : Binder) (f : ExprTree) (start : Origin) (around : Named Origin) where
  abbrev Clears : ℕ → Type 0
  Clears = Aside t i c n x f start around

  abbrev These : Named Origin → Named Origin → Type 0
  These q l = Names t i c n x f start around q q l

  abbrev Known : Type 0
  Known = Consumes t i c n x f start around

  abbrev turned : Named Origin → ExprTree → ExprTree
  turned q e = handed t i c n x f q e

  abbrev BehindIt : ℕ → Type 0
  BehindIt = Behind t i c n x f start around

  -- where an answer comes from
  pub from_there : Known → (e : ExprTree) (q l : Named Origin) → Binds Clears e → (IsFree e c.sym.0 → ⊥) → (IsFree e n.sym.0 → ⊥) → IsClear q e → These q l → Alike (origin e q) (origin e q) × (origin (turned q e) l ≡ handed_origin start (origin e q) (origin e q))
  from_there known e q l w not_c not_n clear r = handed_answers t i c n x f start around known e q q l w not_c not_n clear r

  -- names that are seen from within a lambda stand for what they stood for
  pub seen_same : (q l : Named Origin) → These q l → (s : ℕ) → IsSeen (origin_of_name s (outside q)) → look_for s (outside q) ≡ look_for s (outside l)
  seen_same q l r s h =
      look_for-map from_within s q ∙ ap (option_map from_within) (sym (r.handed s ∙ by (look_for s q) refl)) ∙ sym (look_for-map from_within s l)
    where
      none : holds (origin_of_name s q) ≡ false
      none = seen_holds_none (origin_of_name s q) (subst IsSeen (origin_outside s q) h)

      by : (m : Option Origin) → look_for s q ≡ m → option_map (handed_origin start (origin_of_name s q)) m ≡ m
      by None e = refl
      by (Some o) e = ap Some (handed_none start (origin_of_name s q) o none)

  -- the names of its body stand there for what they stood for
  pub consumer_agrees : (l : Named Origin) → AgreeOn BehindIt (outside around) l → AgreeOn (IsFree f) (in_body c n x start around) ((x.sym.0, value) ∷ (n.sym.0, value) ∷ (c.sym.0, own_paths start) ∷ l)
  consumer_agrees l agrees =
      agree_bind (λ s. IsFree f s × (s ≢ x.sym.0)) (IsFree f) x.sym.0 value _ _ (λ s y ne. (y, ne))
      (agree_bind (λ s. IsFree f s × (s ≢ x.sym.0) × (s ≢ n.sym.0)) (λ s. IsFree f s × (s ≢ x.sym.0)) n.sym.0 value _ _ (λ s y ne. (y.0, y.1, ne))
      (agree_bind BehindIt (λ s. IsFree f s × (s ≢ x.sym.0) × (s ≢ n.sym.0)) c.sym.0 (own_paths start) (outside around) l (λ s y ne. (y.0, y.1, y.2, ne)) agrees))

  -- what the other loop's body is in its place it is at the merge, where its builder is the list's
  pub at_merge : Known → (l : Named Origin) (o u w : Origin) → AgreeOn BehindIt (outside around) l → o ≡ own_paths start → u ≡ value → w ≡ value → Keeps f (in_body c n x start around) → Keeps f ((x.sym.0, w) ∷ (n.sym.0, u) ∷ (c.sym.0, o) ∷ l)
  at_merge known l o u w agrees is_own is_count is_item keeps =
      subst (λ y. Keeps f ((x.sym.0, y) ∷ (n.sym.0, u) ∷ (c.sym.0, o) ∷ l)) (sym is_item)
      (subst (λ y. Keeps f ((x.sym.0, value) ∷ (n.sym.0, y) ∷ (c.sym.0, o) ∷ l)) (sym is_count)
      (subst (λ y. Keeps f ((x.sym.0, value) ∷ (n.sym.0, value) ∷ (c.sym.0, y) ∷ l)) (sym is_own) (keeps_free f _ _ (consumer_agrees l agrees) keeps)))

  one_keeps : (o : One) (u v : Origin) → v ≡ handed_origin start u u → OneKeeps o u → OneKeeps o v
  one_keeps neg u v e h = tt
  one_keeps not u v e h = tt
  one_keeps (cast k) u v e h = tt
  one_keeps len u v e h = tt
  one_keeps (field m) u v e h = tt
  one_keeps finish u v e h = subst (OneKeeps finish) (sym e) (handed_not_own start u h)
  one_keeps (started b) u v e h = tt

  -- a merge, into the list or not
  merge_keeps : Known → Keeps f (in_body c n x start around) → (a : At) (o : Two) (e v : ExprTree) (q l : Named Origin) → Binds Clears v → (IsFree v c.sym.0 → ⊥) → (IsFree v n.sym.0 → ⊥) → IsClear q v → These q l → Alike (origin e q) (origin e q) → origin (turned q e) l ≡ handed_origin start (origin e q) (origin e q) → Keeps (turned q e) l → Keeps (turned q v) l → (b : Bool) → (is_merge o && is_held (origin e q)) ≡ b → (b ≡ true → is_value (origin v q) ≡ true) → Keeps (handed_two b t i c n x f (origin e q) a o (turned q e) (turned q v)) l
  merge_keeps known keeps a o e v q l w not_c not_n clear r alike from first second false h is_item = (first, second)
  merge_keeps known keeps a o e v q l w not_c not_n clear r alike from first second true h is_item = (
    first,
    (
      subst IsSeen (sym number) tt,
      (
        keeps_free (turned q v) l _
            (agree_after (IsFree (turned q v)) l ((c.sym.0, origin (turned q e) l) ∷ l) _ (agree_over (IsFree (turned q v)) c.sym.0 (origin (turned q e) l) l (builder_not_free t i c n x f start around known q v not_c))
            (agree_over (IsFree (turned q v)) n.sym.0 _ ((c.sym.0, origin (turned q e) l) ∷ l) (count_not_free t i c n x f start around known q v not_n)))
            second,
        at_merge known l (origin (turned q e) l) _ _ r.behind (from ∙ held_is_own start (origin e q) held alike) number
            (value_past t i c n x f start around known q v not_c not_n _ (origin (turned q e) l) l ∙ (from_there known v q l w not_c not_n clear r).1 ∙ stays_value start (origin v q) (is_item refl))
            keeps,
      ),
    ),
  )
    where
      held : is_held (origin e q) ≡ true
      held = (both_of (is_merge o) (is_held (origin e q)) h).1
        where
          both_of : (d g : Bool) → (d && g) ≡ true → (d ≡ true) × (g ≡ true)
          both_of true g k = (refl, k)
          both_of false g k = let nothing : ⊥ = cc in absurd nothing

      number : origin_of_name i ((c.sym.0, origin (turned q e) l) ∷ l) ≡ value
      number = ap known_origin (past i c.sym.0 (origin (turned q e) l) l (λ y. known.builder_number (sym y))) ∙ r.number
        where
          past : {A : Type 0} (s z : ℕ) (y : A) (g : Named A) → s ≢ z → look_for s ((z, y) ∷ g) ≡ look_for s g
          past s z y g ne = rw (ne_eqb s z ne) refl

  three_keeps : Known → (o : Three) (e g : ExprTree) (q l : Named Origin) → Binds Clears e → Binds Clears g → (IsFree e c.sym.0 → ⊥) → (IsFree e n.sym.0 → ⊥) → (IsFree g c.sym.0 → ⊥) → (IsFree g n.sym.0 → ⊥) → IsClear q e → IsClear q g → These q l → ThreeKeeps o e g q → ThreeKeeps o (turned q e) (turned q g) l
  three_keeps known if_else e g q l w v not_c not_n no_c no_n clear clears r h =
      let named = names_by_name t i c n x f start around q l r in
      let first = handed_answers t i c n x f start around known e q (by_name q) (by_name l) w not_c not_n clear named in
      let second = handed_answers t i c n x f start around known g q (by_name q) (by_name l) v no_c no_n clears named in
      record {
        same = first.1 ∙ (λ j. handed_origin start (same_origins e g q h.same j) (h.same j)) ∙ sym second.1;
        not_made = subst IsNotMade (sym first.1) (handed_not_made start (origin e q) (origin e (by_name q)) h.not_made);
      }
  three_keeps known select e g q l w v not_c not_n no_c no_n clear clears r h = tt
  three_keeps known slice e g q l w v not_c not_n no_c no_n clear clears r h = tt

  -- the body of a loop within
  pub body_same : (b m y : Binder) (g : ExprTree) (o : Origin) (q l : Named Origin) → These q l → Keeps g (in_body b m y o q) → AgreeOn (IsFree g) (in_body b m y o q) (in_body b m y o l)
  body_same b m y g o q l r h =
      agree_bind (λ s. IsFree g s × (s ≢ y.sym.0)) (IsFree g) y.sym.0 value _ _ (λ s k ne. (k, ne))
      (agree_bind (λ s. IsFree g s × (s ≢ y.sym.0) × (s ≢ m.sym.0)) (λ s. IsFree g s × (s ≢ y.sym.0)) m.sym.0 value _ _ (λ s k ne. (k.0, k.1, ne))
      (agree_bind (λ s. IsFree g s × (s ≢ y.sym.0) × (s ≢ m.sym.0) × (s ≢ b.sym.0)) (λ s. IsFree g s × (s ≢ y.sym.0) × (s ≢ m.sym.0)) b.sym.0 (own_paths o) _ _ (λ s k ne. (k.0, k.1, k.2, ne))
      (record { agree = λ s k. seen_same q l r s (subst IsSeen (past s k) (kept_seen g _ s h k.0)) })))
    where
      past : (s : ℕ) → IsFree g s × (s ≢ y.sym.0) × (s ≢ m.sym.0) × (s ≢ b.sym.0) → origin_of_name s (in_body b m y o q) ≡ origin_of_name s (outside q)
      past s k = rw (ne_eqb s y.sym.0 k.1) (rw (ne_eqb s m.sym.0 k.2) (rw (ne_eqb s b.sym.0 k.3) refl))

  -- and of an `iterate`
  pub turn_same : (b : Binder) (g : ExprTree) (q l : Named Origin) → These q l → Keeps g (in_turn b q) → AgreeOn (IsFree g) (in_turn b q) (in_turn b l)
  turn_same b g q l r h =
      agree_bind (λ s. IsFree g s × (s ≢ b.sym.0)) (IsFree g) b.sym.0 value _ _ (λ s k ne. (k, ne))
      (record { agree = λ s k. seen_same q l r s (subst IsSeen (past s k) (kept_seen g _ s h k.0)) })
    where
      past : (s : ℕ) → IsFree g s × (s ≢ b.sym.0) → origin_of_name s (in_turn b q) ≡ origin_of_name s (outside q)
      past s k = rw (ne_eqb s b.sym.0 k.1) refl

  mutual
    -- a handed body keeps the rules where the body does and the other loop's keeps them in its place
    pub handed_keeps : Known → Keeps f (in_body c n x start around) → (e : ExprTree) (q l : Named Origin) → Binds Clears e → (IsFree e c.sym.0 → ⊥) → (IsFree e n.sym.0 → ⊥) → IsClear q e → These q l → Keeps e q → Keeps (turned q e) l
    handed_keeps known keeps (leaf a (int kind y)) q l w not_c not_n clear r h = tt
    handed_keeps known keeps (leaf a (truth b)) q l w not_c not_n clear r h = tt
    handed_keeps known keeps (leaf a (chars bs)) q l w not_c not_n clear r h = tt
    handed_keeps known keeps (leaf a (name s)) q l w not_c not_n clear r h =
        subst IsSeen (sym (name_handed t i c n x f start around s q q l r)) (handed_seen start (origin_of_name s q) h)
    handed_keeps known keeps (leaf a (fresh b)) q l w not_c not_n clear r h = tt
    handed_keeps known keeps (one a o e) q l w not_c not_n clear r h =
        (handed_keeps known keeps e q l w not_c not_n clear.0 r h.0, one_keeps o (origin e q) (origin (turned q e) l) (from_there known e q l w not_c not_n clear.0 r).1 h.1)
    handed_keeps known keeps (two a o e v) q l w not_c not_n clear r h =
        let it = from_there known e q l w.0 (λ k. not_c (inl k)) (λ k. not_n (inl k)) clear.0 r in
        merge_keeps known keeps a o e v q l w.1 (λ k. not_c (inr k)) (λ k. not_n (inr k)) clear.1 r it.0 it.1
        (handed_keeps known keeps e q l w.0 (λ k. not_c (inl k)) (λ k. not_n (inl k)) clear.0 r h.0)
        (handed_keeps known keeps v q l w.1 (λ k. not_c (inr k)) (λ k. not_n (inr k)) clear.1 r h.1) (is_merge o && is_held (origin e q)) refl clear.2
    handed_keeps known keeps (three a o d e g) q l w not_c not_n clear r h = (
      handed_keeps known keeps d q l w.0 (λ k. not_c (inl k)) (λ k. not_n (inl k)) clear.0 r h.0,
      handed_keeps known keeps e q l w.1 (λ k. not_c (inr (inl k))) (λ k. not_n (inr (inl k))) clear.1 r h.1,
      handed_keeps known keeps g q l w.2 (λ k. not_c (inr (inr k))) (λ k. not_n (inr (inr k))) clear.2 r h.2,
      three_keeps known o e g q l w.1 w.2 (λ k. not_c (inr (inl k))) (λ k. not_n (inr (inl k))) (λ k. not_c (inr (inr k))) (λ k. not_n (inr (inr k))) clear.1 clear.2 r h.3,
    )
    handed_keeps known keeps (many a o es) q l w not_c not_n clear r h = all_handed_keep known keeps es q l w not_c not_n clear r h
    handed_keeps known keeps (let_in a z v g) q l w not_c not_n clear r h =
        let it = from_there known v q l w.1 (λ k. not_c (inl k)) (λ k. not_n (inl k)) clear.0 r in
        let inner = names_bind t i c n x f start around z.sym.0 (origin v q) (origin v q) q q l w.0 it.0 r in (
          handed_keeps known keeps v q l w.1 (λ k. not_c (inl k)) (λ k. not_n (inl k)) clear.0 r h.0,
          subst (λ o. Keeps (turned ((z.sym.0, origin v q) ∷ q) g) ((z.sym.0, o) ∷ l)) (sym it.1)
              (handed_keeps known keeps g ((z.sym.0, origin v q) ∷ q) ((z.sym.0, handed_origin start (origin v q) (origin v q)) ∷ l) w.2 (λ k. not_c (inr (k, λ e. w.0.0 (sym e)))) (λ k. not_n (inr (k, λ e. w.0.1 (sym e)))) clear.1 inner h.1),
        )
    handed_keeps known keeps (loop a ls e b m y g) q l w not_c not_n clear r h =
        let it = from_there known e q l w.4 (λ k. not_c (inr (inl k))) (λ k. not_n (inr (inl k))) clear.1 r in
        let same = it.1 ∙ handed_none start (origin e q) (origin e q) clear.2 in
        let agrees = body_same b m y g (origin e q) q l r h.2 in (
          legs_handed_keep known keeps ls q l w.3 (λ k. not_c (inl k)) (λ k. not_n (inl k)) clear.0 r h.0,
          handed_keeps known keeps e q l w.4 (λ k. not_c (inr (inl k))) (λ k. not_n (inr (inl k))) clear.1 r h.1,
          subst (λ o. Keeps g (in_body b m y o l)) (sym same) (keeps_free g _ _ agrees h.2),
          (λ j. origin g (in_body b m y (same j) l)) ∙ sym (origin_free g _ _ agrees) ∙ h.3 ∙ ap own_paths (sym same),
        )
    handed_keeps known keeps (iterate a e b g) q l w not_c not_n clear r h =
        (handed_keeps known keeps e q l w.1 (λ k. not_c (inl k)) (λ k. not_n (inl k)) clear r h.0, keeps_free g _ _ (turn_same b g q l r h.1) h.1)

    all_handed_keep : Known → Keeps f (in_body c n x start around) → (es : ExprTrees) (q l : Named Origin) → AllBind Clears es → (AreFree es c.sym.0 → ⊥) → (AreFree es n.sym.0 → ⊥) → AllClear q es → These q l → AllKeep es q → AllKeep (all_handed t i c n x f q es) l
    all_handed_keep known keeps no_exprs q l w not_c not_n clear r h = tt
    all_handed_keep known keeps (more_exprs e es) q l w not_c not_n clear r h = (
      handed_keeps known keeps e q l w.0 (λ k. not_c (inl k)) (λ k. not_n (inl k)) clear.0 r h.0,
      all_handed_keep known keeps es q l w.1 (λ k. not_c (inr k)) (λ k. not_n (inr k)) clear.1 r h.1,
    )

    leg_handed_keeps : Known → Keeps f (in_body c n x start around) → (m : LegTree) (q l : Named Origin) → LegBinds Clears m → (LegIsFree m c.sym.0 → ⊥) → (LegIsFree m n.sym.0 → ⊥) → LegClear q m → These q l → LegKeeps m q → LegKeeps (leg_handed t i c n x f q m) l
    leg_handed_keeps known keeps (whole e) q l w not_c not_n clear r h = handed_keeps known keeps e q l w not_c not_n clear r h
    leg_handed_keeps known keeps (strided e g j u) q l w not_c not_n clear r h = (
      handed_keeps known keeps e q l w.0 (λ k. not_c (inl k)) (λ k. not_n (inl k)) clear.0 r h.0,
      handed_keeps known keeps g q l w.1 (λ k. not_c (inr (inl k))) (λ k. not_n (inr (inl k))) clear.1 r h.1,
      handed_keeps known keeps j q l w.2 (λ k. not_c (inr (inr (inl k)))) (λ k. not_n (inr (inr (inl k)))) clear.2 r h.2,
      handed_keeps known keeps u q l w.3 (λ k. not_c (inr (inr (inr k)))) (λ k. not_n (inr (inr (inr k)))) clear.3 r h.3,
    )

    legs_handed_keep : Known → Keeps f (in_body c n x start around) → (ls : LegTrees) (q l : Named Origin) → LegsBind Clears ls → (LegsAreFree ls c.sym.0 → ⊥) → (LegsAreFree ls n.sym.0 → ⊥) → LegsClear q ls → These q l → LegsKeep ls q → LegsKeep (legs_handed t i c n x f q ls) l
    legs_handed_keep known keeps no_legs q l w not_c not_n clear r h = tt
    legs_handed_keep known keeps (more_legs m ls) q l w not_c not_n clear r h = (
      leg_handed_keeps known keeps m q l w.0 (λ k. not_c (inl k)) (λ k. not_n (inl k)) clear.0 r h.0,
      legs_handed_keep known keeps ls q l w.1 (λ k. not_c (inr k)) (λ k. not_n (inr k)) clear.1 r h.1,
    )
