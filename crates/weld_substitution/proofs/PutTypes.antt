-- Where a value is put in a name's place, types and notes stay.
use Rattle.std.proofs.Common.{◌≡◌, ◌≢◌, ℕ, ◌==◌, if◌then◌else◌, ◌∷◌, Some, sym, subst, ◌∙◌, ◌⊎◌, inl, inr, eq-eqb, ne_eqb}
use Rattle.std.proofs.lemmas.Bool.{cases_eq}
use Rattle.weld_tree.specs.declared.binder.Binder.{Binder}
use Rattle.weld_tree.specs.TypeTree.{TypeTree, TypeTrees, vec, no_types, more_types}
use Rattle.weld_tree.specs.ExprTree.{At, ExprTree, leaf, one, two, three, many, let_in, loop, iterate, ExprTrees, no_exprs, more_exprs, LegTree, whole, strided, LegTrees, no_legs, more_legs, Leaf, int, truth, chars, name, fresh}
use Rattle.weld_meaning.specs.Environment.{look_for}
use Rattle.weld_meaning.specs.Typing.{Types, place_type, LeafHas, HasType, HaveTypes, LegHas, LegsHave, body_types}
use Rattle.weld_meaning.specs.Names.{IsFree, AreFree, LegIsFree, LegsAreFree, AgreeOn, put_in_leaf, put, put_in_all, put_in_leg, put_in_legs, Binds, AllBind, LegBinds, LegsBind, IsClear}
use Rattle.weld_meaning.proofs.Names.{agree_bind, agree_less}
use Rattle.weld_meaning.proofs.FreeNames.{type_free}
use Rattle.weld_check_types.specs.Notes.{HasNote, AreNoted, AllAreNoted, LegIsNoted, LegsAreNoted}
use Rattle.weld_substitution.proofs.Bindings.{Binding, binding_behind, binding_types, agree_over, agree_over_types}

-- ---- types

type_over : (v : ExprTree) (b : ℕ) (y u : TypeTree) (g : Types) → ¬ (IsFree v b) → HasType v g u → HasType v ((b, y) ∷ g) u
type_over v b y u g nf h = type_free v g ((b, y) ∷ g) u (agree_over (IsFree v) b y g nf) h

leaf_type_put : (a : At) (l : Leaf) (s : ℕ) (v : ExprTree) (u : TypeTree) (g h : Types) (t : TypeTree) → Binding s u g h → HasType v g u → LeafHas l h t → HasType (put_in_leaf s v a l) g t
leaf_type_put a (int k x) s v u g h t r p q = q
leaf_type_put a (truth b) s v u g h t r p q = q
leaf_type_put a (chars bs) s v u g h t r p q = q
leaf_type_put a (name x) s v u g h t r p q = by (cases_eq s x)
  where
    by : (s ≡ x) ⊎ (s ≢ x) → HasType (if s == x then v else leaf a (name x)) g t
    by (inl e) = rw (eq-eqb s x e) (let found : look_for s h ≡ Some t = subst (λ y. look_for y h ≡ Some t) (sym e) q in let there = r.there in let same : u ≡ t = cc in subst (HasType v g) same p)
    by (inr ne) = rw (ne_eqb s x ne) (r.others x (λ e. ne (sym e)) ∙ q)
leaf_type_put a (fresh b) s v u g h t r p q = q

mutual
  pub type_put : (e : ExprTree) (s : ℕ) (v : ExprTree) (u : TypeTree) (g h : Types) (t : TypeTree) → Binds (IsClear s v) e → Binding s u g h → HasType v g u → HasType e h t → HasType (put s v e) g t
  type_put (leaf a l) s v u g h t c r p q = leaf_type_put a l s v u g h t r p q
  type_put (one a o e) s v u g h t c r p q = (q.0, type_put e s v u g h q.0 c r p q.1, q.2)
  type_put (two a o e f) s v u g h t c r p q = (q.0, q.1, type_put e s v u g h q.0 c.0 r p q.2, type_put f s v u g h q.1 c.1 r p q.3, q.4)
  type_put (three a o d e f) s v u g h t c r p q =
      (q.0, q.1, q.2, type_put d s v u g h q.0 c.0 r p q.3, type_put e s v u g h q.1 c.1 r p q.4, type_put f s v u g h q.2 c.2 r p q.5, q.6)
  type_put (many a o es) s v u g h t c r p q = (q.0, types_put es s v u g h q.0 c r p q.1, q.2)
  type_put (let_in a b e f) s v u g h t c r p q = (
    q.0,
    type_put e s v u g h q.0 c.1 r p q.1,
    q.2,
    type_put f s v u ((b.sym.0, q.0) ∷ g) ((b.sym.0, q.0) ∷ h) t c.2 (binding_behind s u g h b.sym.0 q.0 c.0.0 r) (type_over v b.sym.0 q.0 u g c.0.1 p) q.3,
  )
  type_put (loop a ls e b n x f) s v u g h t c r p q = (
    q.0,
    q.1,
    leg_types_put ls s v u g h q.0 c.3 r p q.2,
    q.3,
    type_put e s v u g h t c.4 r p q.4,
    q.5,
    q.6,
    q.7,
    q.8,
    type_put f s v u (body_types b n x t q.1 g) (body_types b n x t q.1 h) t c.5 (binding_types s u g h b n x t q.1 c.0.0 c.1.0 c.2.0 r)
        (type_free v g _ u (agree_over_types (IsFree v) b n x t q.1 g c.0.1 c.1.1 c.2.1) p) q.9,
  )
  type_put (iterate a e b f) s v u g h t c r p q = (
    type_put e s v u g h t c.1 r p q.0,
    q.1,
    q.2,
    type_put f s v u ((b.sym.0, t) ∷ g) ((b.sym.0, t) ∷ h) _ c.2 (binding_behind s u g h b.sym.0 t c.0.0 r) (type_over v b.sym.0 t u g c.0.1 p) q.3,
  )

  types_put : (es : ExprTrees) (s : ℕ) (v : ExprTree) (u : TypeTree) (g h : Types) (us : TypeTrees) → AllBind (IsClear s v) es → Binding s u g h → HasType v g u → HaveTypes es h us → HaveTypes (put_in_all s v es) g us
  types_put no_exprs s v u g h no_types c r p q = tt
  types_put no_exprs s v u g h (more_types t ts) c r p q = q
  types_put (more_exprs e es) s v u g h no_types c r p q = q
  types_put (more_exprs e es) s v u g h (more_types t ts) c r p q = (type_put e s v u g h t c.0 r p q.0, types_put es s v u g h ts c.1 r p q.1)

  leg_type_put : (l : LegTree) (s : ℕ) (v : ExprTree) (u : TypeTree) (g h : Types) (t : TypeTree) → LegBinds (IsClear s v) l → Binding s u g h → HasType v g u → LegHas l h t → LegHas (put_in_leg s v l) g t
  leg_type_put (whole e) s v u g h t c r p q = type_put e s v u g h (vec t) c r p q
  leg_type_put (strided e f i j) s v u g h t c r p q = (
    type_put e s v u g h (vec t) c.0 r p q.0,
    type_put f s v u g h place_type c.1 r p q.1,
    type_put i s v u g h place_type c.2 r p q.2,
    type_put j s v u g h place_type c.3 r p q.3,
  )

  pub leg_types_put : (ls : LegTrees) (s : ℕ) (v : ExprTree) (u : TypeTree) (g h : Types) (ts : TypeTrees) → LegsBind (IsClear s v) ls → Binding s u g h → HasType v g u → LegsHave ls h ts → LegsHave (put_in_legs s v ls) g ts
  leg_types_put no_legs s v u g h no_types c r p q = tt
  leg_types_put no_legs s v u g h (more_types t ts) c r p q = q
  leg_types_put (more_legs l ls) s v u g h no_types c r p q = q
  leg_types_put (more_legs l ls) s v u g h (more_types t ts) c r p q = (leg_type_put l s v u g h t c.0 r p q.0, leg_types_put ls s v u g h ts c.1 r p q.1)

-- ---- notes depend on free names alone

note_free : (a : At) (e : ExprTree) (g h : Types) → AgreeOn (IsFree e) g h → HasNote a e g → HasNote a e h
note_free a e g h r n = (n.0, n.1, type_free e g h n.0 r n.2)

agree_three : (ls : LegTrees) (e f : ExprTree) (b n x : Binder) (t r : TypeTree) (g h : Types) → AgreeOn (λ s. LegsAreFree ls s ⊎ (IsFree e s ⊎ (IsFree f s × (s ≢ x.sym.0) × (s ≢ n.sym.0) × (s ≢ b.sym.0)))) g h → AgreeOn (IsFree f) (body_types b n x t r g) (body_types b n x t r h)
agree_three ls e f b n x t r g h a =
    agree_bind (λ s. IsFree f s × (s ≢ x.sym.0)) (IsFree f) x.sym.0 r _ _ (λ s y ne. (y, ne))
    (agree_bind (λ s. IsFree f s × (s ≢ x.sym.0) × (s ≢ n.sym.0)) (λ s. IsFree f s × (s ≢ x.sym.0)) n.sym.0 place_type _ _ (λ s y ne. (y.0, y.1, ne))
    (agree_bind _ (λ s. IsFree f s × (s ≢ x.sym.0) × (s ≢ n.sym.0)) b.sym.0 t g h (λ s y ne. inr (inr (y.0, y.1, y.2, ne))) a))

leg_types_agree : (ls : LegTrees) (g h : Types) (us : TypeTrees) → AgreeOn (LegsAreFree ls) g h → LegsHave ls g us → LegsHave ls h us
leg_types_agree no_legs g h no_types r p = tt
leg_types_agree no_legs g h (more_types u us) r p = p
leg_types_agree (more_legs l ls) g h no_types r p = p
leg_types_agree (more_legs (whole e) ls) g h (more_types u us) r p =
    (type_free e g h (vec u) (agree_less _ (IsFree e) g h (λ s x. inl x) r) p.0, leg_types_agree ls g h us (agree_less _ (LegsAreFree ls) g h (λ s x. inr x) r) p.1)
leg_types_agree (more_legs (strided e f i j) ls) g h (more_types u us) r p = (
  (
    type_free e g h (vec u) (agree_less _ (IsFree e) g h (λ s x. inl (inl x)) r) p.0.0,
    type_free f g h place_type (agree_less _ (IsFree f) g h (λ s x. inl (inr (inl x))) r) p.0.1,
    type_free i g h place_type (agree_less _ (IsFree i) g h (λ s x. inl (inr (inr (inl x)))) r) p.0.2,
    type_free j g h place_type (agree_less _ (IsFree j) g h (λ s x. inl (inr (inr (inr x)))) r) p.0.3,
  ),
  leg_types_agree ls g h us (agree_less _ (LegsAreFree ls) g h (λ s x. inr x) r) p.1,
)

mutual
  pub noted_free : (e : ExprTree) (g h : Types) → AgreeOn (IsFree e) g h → AreNoted e g → AreNoted e h
  noted_free (leaf a l) g h r n = note_free a (leaf a l) g h r n
  noted_free (one a o e) g h r n = (noted_free e g h (record { agree = r.agree }) n.0, note_free a (one a o e) g h r n.1)
  noted_free (two a o e f) g h r n = (
    noted_free e g h (agree_less _ (IsFree e) g h (λ s x. inl x) r) n.0,
    noted_free f g h (agree_less _ (IsFree f) g h (λ s x. inr x) r) n.1,
    note_free a (two a o e f) g h r n.2,
  )
  noted_free (three a o e f k) g h r n = (
    noted_free e g h (agree_less _ (IsFree e) g h (λ s x. inl x) r) n.0,
    noted_free f g h (agree_less _ (IsFree f) g h (λ s x. inr (inl x)) r) n.1,
    noted_free k g h (agree_less _ (IsFree k) g h (λ s x. inr (inr x)) r) n.2,
    note_free a (three a o e f k) g h r n.3,
  )
  noted_free (many a o es) g h r n = (all_noted_free es g h (record { agree = r.agree }) n.0, note_free a (many a o es) g h r n.1)
  noted_free (let_in a b e f) g h r n =
      let k = agree_less _ (IsFree e) g h (λ s x. inl x) r in (
        noted_free e g h k n.0,
        (
          n.1.0,
          type_free e g h n.1.0 k n.1.1,
          noted_free f _ _ (agree_bind _ (IsFree f) b.sym.0 n.1.0 g h (λ s x ne. inr (x, ne)) r) n.1.2,
        ),
        note_free a (let_in a b e f) g h r n.2,
      )
  noted_free (loop a ls e b n x f) g h r m =
      let j = agree_less _ (LegsAreFree ls) g h (λ s y. inl y) r in
      let k = agree_less _ (IsFree e) g h (λ s y. inr (inl y)) r in
      let w = m.2 in (
        legs_noted_free ls g h j m.0,
        noted_free e g h k m.1,
        (
          w.0,
          w.1,
          w.2,
          leg_types_agree ls g h w.0 j w.3,
          w.4,
          type_free e g h w.2 k w.5,
          noted_free f _ _ (agree_three ls e f b n x w.2 w.1 g h (record { agree = r.agree })) w.6,
        ),
        note_free a (loop a ls e b n x f) g h r m.3,
      )
  noted_free (iterate a e b f) g h r n =
      let k = agree_less _ (IsFree e) g h (λ s x. inl x) r in (
        noted_free e g h k n.0,
        (
          n.1.0,
          type_free e g h n.1.0 k n.1.1,
          noted_free f _ _ (agree_bind _ (IsFree f) b.sym.0 n.1.0 g h (λ s x ne. inr (x, ne)) r) n.1.2,
        ),
        note_free a (iterate a e b f) g h r n.2,
      )

  all_noted_free : (es : ExprTrees) (g h : Types) → AgreeOn (AreFree es) g h → AllAreNoted es g → AllAreNoted es h
  all_noted_free no_exprs g h r n = tt
  all_noted_free (more_exprs e es) g h r n =
      (noted_free e g h (agree_less _ (IsFree e) g h (λ s x. inl x) r) n.0, all_noted_free es g h (agree_less _ (AreFree es) g h (λ s x. inr x) r) n.1)

  leg_noted_free : (l : LegTree) (g h : Types) → AgreeOn (LegIsFree l) g h → LegIsNoted l g → LegIsNoted l h
  leg_noted_free (whole e) g h r n = noted_free e g h (record { agree = r.agree }) n
  leg_noted_free (strided e f i j) g h r n = (
    noted_free e g h (agree_less _ (IsFree e) g h (λ s x. inl x) r) n.0,
    noted_free f g h (agree_less _ (IsFree f) g h (λ s x. inr (inl x)) r) n.1,
    noted_free i g h (agree_less _ (IsFree i) g h (λ s x. inr (inr (inl x))) r) n.2,
    noted_free j g h (agree_less _ (IsFree j) g h (λ s x. inr (inr (inr x))) r) n.3,
  )

  legs_noted_free : (ls : LegTrees) (g h : Types) → AgreeOn (LegsAreFree ls) g h → LegsAreNoted ls g → LegsAreNoted ls h
  legs_noted_free no_legs g h r n = tt
  legs_noted_free (more_legs l ls) g h r n =
      (leg_noted_free l g h (agree_less _ (LegIsFree l) g h (λ s x. inl x) r) n.0, legs_noted_free ls g h (agree_less _ (LegsAreFree ls) g h (λ s x. inr x) r) n.1)

-- ---- notes of what is put together

noted_over : (v : ExprTree) (b : ℕ) (y : TypeTree) (g : Types) → ¬ (IsFree v b) → AreNoted v g → AreNoted v ((b, y) ∷ g)
noted_over v b y g nf n = noted_free v g ((b, y) ∷ g) (agree_over (IsFree v) b y g nf) n

leaf_noted_put : (a : At) (l : Leaf) (s : ℕ) (v : ExprTree) (u : TypeTree) (g h : Types) → Binding s u g h → HasType v g u → AreNoted v g → HasNote a (leaf a l) h → AreNoted (put_in_leaf s v a l) g
leaf_noted_put a (int k x) s v u g h r p w n = n
leaf_noted_put a (truth b) s v u g h r p w n = n
leaf_noted_put a (chars bs) s v u g h r p w n = n
leaf_noted_put a (name x) s v u g h r p w n = by (cases_eq s x)
  where
    by : (s ≡ x) ⊎ (s ≢ x) → AreNoted (if s == x then v else leaf a (name x)) g
    by (inl e) = rw (eq-eqb s x e) w
    by (inr ne) = rw (ne_eqb s x ne) (n.0, n.1, (r.others x (λ e. ne (sym e)) ∙ n.2))
leaf_noted_put a (fresh b) s v u g h r p w n = n

mutual
  pub noted_put : (e : ExprTree) (s : ℕ) (v : ExprTree) (u : TypeTree) (g h : Types) → Binds (IsClear s v) e → Binding s u g h → HasType v g u → AreNoted v g → AreNoted e h → AreNoted (put s v e) g
  noted_put (leaf a l) s v u g h c r p w n = leaf_noted_put a l s v u g h r p w n
  noted_put (one a o e) s v u g h c r p w n =
      (noted_put e s v u g h c r p w n.0, (n.1.0, n.1.1, type_put (one a o e) s v u g h n.1.0 c r p n.1.2))
  noted_put (two a o e f) s v u g h c r p w n =
      (noted_put e s v u g h c.0 r p w n.0, noted_put f s v u g h c.1 r p w n.1, (n.2.0, n.2.1, type_put (two a o e f) s v u g h n.2.0 c r p n.2.2))
  noted_put (three a o d e f) s v u g h c r p w n =
      (noted_put d s v u g h c.0 r p w n.0, noted_put e s v u g h c.1 r p w n.1, noted_put f s v u g h c.2 r p w n.2, (n.3.0, n.3.1, type_put (three a o d e f) s v u g h n.3.0 c r p n.3.2))
  noted_put (many a o es) s v u g h c r p w n =
      (all_noted_put es s v u g h c r p w n.0, (n.1.0, n.1.1, type_put (many a o es) s v u g h n.1.0 c r p n.1.2))
  noted_put (let_in a b e f) s v u g h c r p w n =
      let k = n.1 in (
        noted_put e s v u g h c.1 r p w n.0,
        (
          k.0,
          type_put e s v u g h k.0 c.1 r p k.1,
          noted_put f s v u ((b.sym.0, k.0) ∷ g) ((b.sym.0, k.0) ∷ h) c.2 (binding_behind s u g h b.sym.0 k.0 c.0.0 r) (type_over v b.sym.0 k.0 u g c.0.1 p) (noted_over v b.sym.0 k.0 g c.0.1 w) k.2,
        ),
        (n.2.0, n.2.1, type_put (let_in a b e f) s v u g h n.2.0 c r p n.2.2),
      )
  noted_put (loop a ls e b n x f) s v u g h c r p w m =
      let k = m.2 in
      let over = agree_over_types (IsFree v) b n x k.2 k.1 g c.0.1 c.1.1 c.2.1 in (
        legs_noted_put ls s v u g h c.3 r p w m.0,
        noted_put e s v u g h c.4 r p w m.1,
        (
          k.0,
          k.1,
          k.2,
          leg_types_put ls s v u g h k.0 c.3 r p k.3,
          k.4,
          type_put e s v u g h k.2 c.4 r p k.5,
          noted_put f s v u (body_types b n x k.2 k.1 g) (body_types b n x k.2 k.1 h) c.5 (binding_types s u g h b n x k.2 k.1 c.0.0 c.1.0 c.2.0 r) (type_free v g _ u over p) (noted_free v g _ over w) k.6,
        ),
        (m.3.0, m.3.1, type_put (loop a ls e b n x f) s v u g h m.3.0 c r p m.3.2),
      )
  noted_put (iterate a e b f) s v u g h c r p w n =
      let k = n.1 in (
        noted_put e s v u g h c.1 r p w n.0,
        (
          k.0,
          type_put e s v u g h k.0 c.1 r p k.1,
          noted_put f s v u ((b.sym.0, k.0) ∷ g) ((b.sym.0, k.0) ∷ h) c.2 (binding_behind s u g h b.sym.0 k.0 c.0.0 r) (type_over v b.sym.0 k.0 u g c.0.1 p) (noted_over v b.sym.0 k.0 g c.0.1 w) k.2,
        ),
        (n.2.0, n.2.1, type_put (iterate a e b f) s v u g h n.2.0 c r p n.2.2),
      )

  all_noted_put : (es : ExprTrees) (s : ℕ) (v : ExprTree) (u : TypeTree) (g h : Types) → AllBind (IsClear s v) es → Binding s u g h → HasType v g u → AreNoted v g → AllAreNoted es h → AllAreNoted (put_in_all s v es) g
  all_noted_put no_exprs s v u g h c r p w n = tt
  all_noted_put (more_exprs e es) s v u g h c r p w n = (noted_put e s v u g h c.0 r p w n.0, all_noted_put es s v u g h c.1 r p w n.1)

  leg_noted_put : (l : LegTree) (s : ℕ) (v : ExprTree) (u : TypeTree) (g h : Types) → LegBinds (IsClear s v) l → Binding s u g h → HasType v g u → AreNoted v g → LegIsNoted l h → LegIsNoted (put_in_leg s v l) g
  leg_noted_put (whole e) s v u g h c r p w n = noted_put e s v u g h c r p w n
  leg_noted_put (strided e f i j) s v u g h c r p w n =
      (noted_put e s v u g h c.0 r p w n.0, noted_put f s v u g h c.1 r p w n.1, noted_put i s v u g h c.2 r p w n.2, noted_put j s v u g h c.3 r p w n.3)

  legs_noted_put : (ls : LegTrees) (s : ℕ) (v : ExprTree) (u : TypeTree) (g h : Types) → LegsBind (IsClear s v) ls → Binding s u g h → HasType v g u → AreNoted v g → LegsAreNoted ls h → LegsAreNoted (put_in_legs s v ls) g
  legs_noted_put no_legs s v u g h c r p w n = tt
  legs_noted_put (more_legs l ls) s v u g h c r p w n = (leg_noted_put l s v u g h c.0 r p w n.0, legs_noted_put ls s v u g h c.1 r p w n.1)
