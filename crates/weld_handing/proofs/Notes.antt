-- In a body with another loop's builder in the place of its list's each node has its type noted, where that was so before.
use Rattle.std.proofs.Common.{◌≡◌, ℕ, Bool, true, false, ◌&&◌, ◌∷◌, refl, ap, subst, inl, inr}
use Rattle.std.specs.Prelude.{not}
use Rattle.weld_tree.specs.declared.binder.Binder.{Binder}
use Rattle.weld_tree.specs.declared.known.Known.TheVariants.{Is}
use Rattle.weld_tree.specs.TypeTree.{TypeTree}
use Rattle.weld_tree.specs.Types.{IsBuilderFree}
use Rattle.weld_tree.specs.ExprTree.{At, ExprTree, leaf, one, two, three, many, let_in, loop, iterate, ExprTrees, no_exprs, more_exprs, LegTree, whole, strided, LegTrees, no_legs, more_legs, name, Two, binary, and, or, look_up, key_exists, merge}
use Rattle.weld_meaning.specs.Environment.{Named}
use Rattle.weld_meaning.specs.Typing.{Types, place_type, HasType, body_types}
use Rattle.weld_meaning.specs.Origin.{Origin, two_origin, origin}
use Rattle.weld_meaning.specs.Linear.{Keeps, AllKeep, LegKeeps, LegsKeep}
use Rattle.weld_meaning.specs.Names.{IsFree, AreFree, LegIsFree, LegsAreFree, Binds, AllBind, LegBinds, LegsBind}
use Rattle.weld_meaning.proofs.FreeNames.{type_free}
use Rattle.weld_meaning.proofs.OneType.{one_type}
use Rattle.weld_check_types.specs.Notes.{HasNote, AreNoted, AllAreNoted, LegIsNoted, LegsAreNoted}
use Rattle.weld_substitution.proofs.Following.{and_true}
use Rattle.weld_substitution.proofs.PutTypes.{noted_free}
use Rattle.weld_vertical.specs.Sinking.{is_merge, at_of}
use Rattle.weld_handing.specs.Handing.{is_held, holds, handed_type, handed_note, handed_at, handed_two, handed, all_handed, leg_handed, legs_handed, starts_none, all_start_none, leg_starts_none, legs_start_none}
use Rattle.weld_handing.proofs.Held.{unheld_type}
use Rattle.weld_handing.proofs.Types.{not_so, Typed, Else, Aside, TypesRelate, relate_let, with_builder, with_number, else_under, loop_agree, turn_agree, value_typed, Merged, merge_parts, merged_typed, plain_typed, handed_typed, legs_handed_typed}

-- the other loop, as in Types
module _ (t item : TypeTree) (i : ℕ) (c n x : Binder) (f : ExprTree) (outer : Types) where
  -- what is known of its types
  abbrev Known : Type 0
  Known = Typed t item i c n x f outer

  -- its body has its notes
  abbrev pub BodyIsNoted : Type 0
  BodyIsNoted = AreNoted f (body_types c n x t item outer)

  abbrev Relate : Named Origin → Types → Types → Type 0
  Relate q h k = TypesRelate t item i c n x f outer q h k

  abbrev Clear : ℕ → Type 0
  Clear z = Aside t item i c n x f outer z

  abbrev Other : ℕ → Type 0
  Other s = Else t item i c n x f outer s

  abbrev put : Named Origin → ExprTree → ExprTree
  put q e = handed t i c n x f q e

  -- its type
  typed : Known → (e : ExprTree) (q : Named Origin) (h k : Types) (u : TypeTree) → Binds Clear e → ((s : ℕ) → IsFree e s → Other s) → starts_none q e ≡ true → Keeps e q → Relate q h k → HasType e h u → HasType (put q e) k (handed_type t (origin e q) u)
  typed = handed_typed t item i c n x f outer

  -- the note becomes that of the type that the expression has then
  note_handed : Known → (a : At) (e : ExprTree) (q : Named Origin) (h k : Types) → Binds Clear e → ((s : ℕ) → IsFree e s → Other s) → starts_none q e ≡ true → Keeps e q → Relate q h k → HasNote a e h → HasNote (handed_at t (origin e q) a) (put q e) k
  note_handed known a e q h k b o s m r p =
      (handed_type t (origin e q) p.0, ap (handed_note t (origin e q)) p.1, typed known e q h k p.0 b o s m r p.2)

  -- what a merge into the list becomes
  merged_noted : Known → BodyIsNoted → (a : At) (o : Two) (e v : ExprTree) (y : Origin) (k : Types) → Merged t item i c n x f outer k e v → AreNoted e k → AreNoted v ((n.sym.0, place_type) ∷ (c.sym.0, t) ∷ k) → AreNoted (handed_two true t i c n x f y a o e v) k
  merged_noted known body a o e v y k m first second =
      let node : At = at_of a (Is t) in
      let number : ExprTree = leaf (at_of a (Is place_type)) (name i) in
      let with_row : ExprTree = let_in node x v f in
      let one_in : Types = (c.sym.0, t) ∷ k in
      let two_in : Types = (n.sym.0, place_type) ∷ (c.sym.0, t) ∷ k in
      let row_typed : HasType with_row two_in t = (item, m.row, known.row_note, type_free f _ _ t m.agrees known.body) in
      let number_typed : HasType (let_in node n number with_row) one_in t = (place_type, m.number, known.number_note, row_typed) in
      let row_noted : AreNoted with_row two_in = (second, (item, m.row, noted_free f _ _ m.agrees body), (t, refl, row_typed)) in
      let number_noted : AreNoted (let_in node n number with_row) one_in =
      ((place_type, refl, m.number), (place_type, m.number, row_noted), (t, refl, number_typed)) in
      (first, (t, m.builder, number_noted), (t, refl, merged_typed t item i c n x f outer known a o e v y k m))

  -- another node of two parts
  plain_noted : (a : At) (o : Two) (e v : ExprTree) (q : Named Origin) (h k : Types) → (is_merge o && is_held (origin e q)) ≡ false → Relate q h k → (p : HasNote a (two a o e v) h) → HasType (put q e) k (handed_type t (origin e q) p.2.0) → HasType (put q v) k (handed_type t (origin v q) p.2.1) → AreNoted (put q e) k → AreNoted (put q v) k
      → AreNoted (two (handed_at t (two_origin o (origin e q)) a) o (put q e) (put q v)) k
  plain_noted a o e v q h k none r p first second noted other =
      let y = two_origin o (origin e q) in (
        noted,
        other,
        (
          handed_type t y p.0,
          ap (handed_note t y) p.1,
          plain_typed t item i c n x f outer a o e v q h k p.2.0 p.2.1 p.0 none r p.2.2 p.2.3 p.2.4 first second,
        ),
      )

  -- a node of two parts, the merge into the list among them
  two_noted : Known → BodyIsNoted → (a : At) (o : Two) (e v : ExprTree) (q : Named Origin) (h k : Types) → Relate q h k → (p : HasNote a (two a o e v) h) → HasType (put q e) k (handed_type t (origin e q) p.2.0) → ((j : Types) → Relate q h j → HasType (put q v) j (handed_type t (origin v q) p.2.1))
      → AreNoted (put q e) k → ((j : Types) → Relate q h j → AreNoted (put q v) j) → AreNoted (put q (two a o e v)) k
  two_noted known body a (binary op) e v q h k r p first second noted other = plain_noted a (binary op) e v q h k refl r p first (second k r) noted (other k r)
  two_noted known body a and e v q h k r p first second noted other = plain_noted a and e v q h k refl r p first (second k r) noted (other k r)
  two_noted known body a or e v q h k r p first second noted other = plain_noted a or e v q h k refl r p first (second k r) noted (other k r)
  two_noted known body a look_up e v q h k r p first second noted other = plain_noted a look_up e v q h k refl r p first (second k r) noted (other k r)
  two_noted known body a key_exists e v q h k r p first second noted other = plain_noted a key_exists e v q h k refl r p first (second k r) noted (other k r)
  two_noted known body a merge e v q h k r p first second noted other = by (is_held (origin e q)) refl
    where
      by : (b : Bool) → is_held (origin e q) ≡ b → AreNoted (handed_two b t i c n x f (origin e q) a merge (put q e) (put q v)) k
      by true held =
          let there = with_number t item i c n x f outer q h ((c.sym.0, t) ∷ k) (with_builder t item i c n x f outer known q h k r) in
          merged_noted known body a merge (put q e) (put q v) (origin e q) k
          (merge_parts t item i c n x f outer known e v q h k p.2.0 p.2.1 p.0 held r p.2.2 p.2.3 p.2.4 first second) noted (other ((n.sym.0, place_type) ∷ (c.sym.0, t) ∷ k) there)
      by false none = plain_noted a merge e v q h k none r p first (second k r) noted (other k r)

  mutual
    -- each node has its note
    pub handed_noted : Known → BodyIsNoted → (e : ExprTree) (q : Named Origin) (h k : Types) → Binds Clear e → ((s : ℕ) → IsFree e s → Other s) → starts_none q e ≡ true → Keeps e q → Relate q h k → AreNoted e h → AreNoted (put q e) k
    handed_noted known body (leaf a l) q h k b o s m r p = note_handed known a (leaf a l) q h k b o s m r p
    handed_noted known body (one a w e) q h k b o s m r p =
        (handed_noted known body e q h k b o s m.0 r p.0, note_handed known a (one a w e) q h k b o s m r p.1)
    handed_noted known body (two a w e v) q h k b o s m r p =
        let z = and_true (starts_none q e) (starts_none q v) s in
        two_noted known body a w e v q h k r p.2
        (typed known e q h k p.2.2.0 b.0 (λ y j. o y (inl j)) z.0 m.0 r p.2.2.2)
        (λ l d. typed known v q h l p.2.2.1 b.1 (λ y j. o y (inr j)) z.1 m.1 d p.2.2.3)
        (handed_noted known body e q h k b.0 (λ y j. o y (inl j)) z.0 m.0 r p.0)
        (λ l d. handed_noted known body v q h l b.1 (λ y j. o y (inr j)) z.1 m.1 d p.1)
    handed_noted known body (three a w d e g) q h k b o s m r p =
        let z = and_true (starts_none q d) (starts_none q e && starts_none q g) s in
        let y = and_true (starts_none q e) (starts_none q g) z.1 in (
          handed_noted known body d q h k b.0 (λ l j. o l (inl j)) z.0 m.0 r p.0,
          handed_noted known body e q h k b.1 (λ l j. o l (inr (inl j))) y.0 m.1 r p.1,
          handed_noted known body g q h k b.2 (λ l j. o l (inr (inr j))) y.1 m.2 r p.2,
          note_handed known a (three a w d e g) q h k b o s m r p.3,
        )
    handed_noted known body (many a w es) q h k b o s m r p =
        (all_handed_noted known body es q h k b o s m r p.0, note_handed known a (many a w es) q h k b o s m r p.1)
    handed_noted known body (let_in a z v g) q h k b o s m r p =
        let y = and_true (starts_none q v) (starts_none ((z.sym.0, origin v q) ∷ q) g) s in
        let u = p.1.0 in (
          handed_noted known body v q h k b.1 (λ l j. o l (inl j)) y.0 m.0 r p.0,
          (
            handed_type t (origin v q) u,
            typed known v q h k u b.1 (λ l j. o l (inl j)) y.0 m.0 r p.1.1,
            handed_noted known body g ((z.sym.0, origin v q) ∷ q) ((z.sym.0, u) ∷ h) ((z.sym.0, handed_type t (origin v q) u) ∷ k) b.2 (else_under t item i c n x f outer z.sym.0 g b.0 (λ l j. o l (inr j))) y.1 m.1
                (relate_let t item i c n x f outer z v q h k u b.0 r p.1.1) p.1.2,
          ),
          note_handed known a (let_in a z v g) q h k b o s m r p.2,
        )
    handed_noted known body (loop a ls e j d y g) q h k b o s m r p =
        let z = and_true (not (holds (origin e q))) (legs_start_none q ls && starts_none q e) s in
        let l = and_true (legs_start_none q ls) (starts_none q e) z.1 in
        let none = not_so (holds (origin e q)) z.0 in
        let w = p.2 in
        let u = p.3.0 in (
          legs_handed_noted known body ls q h k b.3 (λ l f. o l (inl f)) l.0 m.0 r p.0,
          handed_noted known body e q h k b.4 (λ l f. o l (inr (inl f))) l.1 m.1 r p.1,
          (
            w.0,
            w.1,
            w.2,
            legs_handed_typed t item i c n x f outer known ls q h k w.0 b.3 (λ l f. o l (inl f)) l.0 m.0 r w.3,
            w.4,
            subst (HasType (put q e) k) (unheld_type t (origin e q) w.2 none) (typed known e q h k w.2 b.4 (λ l f. o l (inr (inl f))) l.1 m.1 r w.5),
            noted_free g _ _ (loop_agree t item i c n x f outer g j d y (origin e q) w.2 w.1 q h k r (λ l f. o l (inr (inr f))) m.2) w.6,
          ),
          (
            u,
            p.3.1,
            subst (HasType (put q (loop a ls e j d y g)) k) (unheld_type t (origin e q) u none) (typed known (loop a ls e j d y g) q h k u b o s m r p.3.2),
          ),
        )
    handed_noted known body (iterate a e j g) q h k b o s m r p =
        let w = p.1 in
        let u = p.2.0 in
        let same : u ≡ w.0 = one_type e h u w.0 p.2.2.0 w.1 in (
          handed_noted known body e q h k b.1 (λ l f. o l (inl f)) s m.0 r p.0,
          (
            w.0,
            value_typed t item i c n x f outer e q h k w.0 (subst IsBuilderFree same p.2.2.1) r w.1 (typed known e q h k w.0 b.1 (λ l f. o l (inl f)) s m.0 r w.1),
            noted_free g _ _ (turn_agree t item i c n x f outer g j w.0 q h k r (λ l f. o l (inr f)) m.1) w.2,
          ),
          (u, p.2.1, typed known (iterate a e j g) q h k u b o s m r p.2.2),
        )

    -- so in all of these
    all_handed_noted : Known → BodyIsNoted → (es : ExprTrees) (q : Named Origin) (h k : Types) → AllBind Clear es → ((s : ℕ) → AreFree es s → Other s) → all_start_none q es ≡ true → AllKeep es q → Relate q h k → AllAreNoted es h → AllAreNoted (all_handed t i c n x f q es) k
    all_handed_noted known body no_exprs q h k b o s m r p = tt
    all_handed_noted known body (more_exprs e es) q h k b o s m r p =
        let z = and_true (starts_none q e) (all_start_none q es) s in
        (handed_noted known body e q h k b.0 (λ y j. o y (inl j)) z.0 m.0 r p.0, all_handed_noted known body es q h k b.1 (λ y j. o y (inr j)) z.1 m.1 r p.1)

    -- in a leg
    leg_handed_noted : Known → BodyIsNoted → (l : LegTree) (q : Named Origin) (h k : Types) → LegBinds Clear l → ((s : ℕ) → LegIsFree l s → Other s) → leg_starts_none q l ≡ true → LegKeeps l q → Relate q h k → LegIsNoted l h → LegIsNoted (leg_handed t i c n x f q l) k
    leg_handed_noted known body (whole e) q h k b o s m r p = handed_noted known body e q h k b o s m r p
    leg_handed_noted known body (strided e v g w) q h k b o s m r p =
        let z = and_true (starts_none q e) (starts_none q v && (starts_none q g && starts_none q w)) s in
        let y = and_true (starts_none q v) (starts_none q g && starts_none q w) z.1 in
        let l = and_true (starts_none q g) (starts_none q w) y.1 in (
          handed_noted known body e q h k b.0 (λ y j. o y (inl j)) z.0 m.0 r p.0,
          handed_noted known body v q h k b.1 (λ y j. o y (inr (inl j))) y.0 m.1 r p.1,
          handed_noted known body g q h k b.2 (λ y j. o y (inr (inr (inl j)))) l.0 m.2 r p.2,
          handed_noted known body w q h k b.3 (λ y j. o y (inr (inr (inr j)))) l.1 m.3 r p.3,
        )

    -- in all legs
    legs_handed_noted : Known → BodyIsNoted → (ls : LegTrees) (q : Named Origin) (h k : Types) → LegsBind Clear ls → ((s : ℕ) → LegsAreFree ls s → Other s) → legs_start_none q ls ≡ true → LegsKeep ls q → Relate q h k → LegsAreNoted ls h → LegsAreNoted (legs_handed t i c n x f q ls) k
    legs_handed_noted known body no_legs q h k b o s m r p = tt
    legs_handed_noted known body (more_legs l ls) q h k b o s m r p =
        let z = and_true (leg_starts_none q l) (legs_start_none q ls) s in
        (leg_handed_noted known body l q h k b.0 (λ y j. o y (inl j)) z.0 m.0 r p.0, legs_handed_noted known body ls q h k b.1 (λ y j. o y (inr j)) z.1 m.1 r p.1)
