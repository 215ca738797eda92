-- With the names of a pair's parts for the pair, types, notes and what is evaluated stay.
use Rattle.std.proofs.Common.{◌≡◌, ◌≢◌, ℕ, ◌&&◌, ◌∷◌, Option, Some, None, refl, ap, sym, subst, ◌∙◌, inl, inr, ne_eqb}
use Rattle.weld_tree.specs.declared.binder.Binder.{Binder}
use Rattle.weld_tree.specs.TypeTree.{TypeTree, TypeTrees, vec, struct as tuple, no_types, more_types}
use Rattle.weld_tree.specs.ExprTree.{At, ExprTree, leaf, one, two, three, many, let_in, loop, iterate, ExprTrees, no_exprs, more_exprs, LegTree, whole, strided, LegTrees, no_legs, more_legs, Leaf, int, truth, chars, name, fresh, field}
use Rattle.weld_builders.specs.Outcome.{and_then, map_out}
use Rattle.weld_meaning.specs.Environment.{Named, look_for}
use Rattle.weld_meaning.specs.Thing.{Thing, plain, more_things, field_of}
use Rattle.weld_meaning.specs.Typing.{Types, IsField, place_type, LeafHas, HasType, HaveTypes, LegHas, LegsHave, body_types}
use Rattle.weld_meaning.specs.Evaluation.{Env, found, leaf_thing, one_thing, two_thing, three_thing, many_thing, value_out, elements_of, strided_of, rows_of, number_from, run, with_row, whole_number, turns, turn_limit, eval, eval_all, eval_leg, eval_legs}
use Rattle.weld_meaning.specs.Names.{IsFree, AgreeOn}
use Rattle.weld_meaning.proofs.Names.{agree_bind, eval_free}
use Rattle.weld_meaning.proofs.FreeNames.{type_free}
use Rattle.weld_check_types.specs.Notes.{AreNoted, AllAreNoted, LegIsNoted, LegsAreNoted}
use Rattle.weld_substitution.specs.Redex.{is_field}
use Rattle.weld_substitution.proofs.PutTypes.{noted_free}
use Rattle.weld_vertical_struct.specs.Parting.{field_taken, parted_one, all_parted, leg_parted, legs_parted, is_part}
use Rattle.weld_vertical_struct.proofs.Parts.{Pair, IsPartNumber, IsElse, HasNeither, part, part_first, part_other, LeafIsOfParts, OneIsOfParts, IsOfParts, AreOfParts, LegIsOfParts, LegsAreOfParts, parts, field_by}

module _ (m : Pair) where
  over : {A : Type 0} (t z : ℕ) (o : A) (g : Named A) → t ≢ z → look_for t ((z, o) ∷ g) ≡ look_for t g
  over t z o g ne = rw (ne_eqb t z ne) refl

  part_else : (n z : ℕ) → IsPartNumber m n → IsElse m z → part m n ≢ z
  part_else n z (inl e) k h = k.1 (sym (sym (part_first m) ∙ ap (part m) (sym e) ∙ h))
  part_else n z (inr e) k h = k.0 (sym (sym (part_other m) ∙ ap (part m) (sym e) ∙ h))

  -- what has neither name sees the same
  neither : {A : Type 0} (f : ExprTree) (g h : Named A) → HasNeither m f → AgreeOn (IsElse m) g h → AgreeOn (IsFree f) g h
  neither f g h n a = record { agree = λ t k. a.agree t ((λ e. n.0 (subst (IsFree f) e k)), (λ e. n.1 (subst (IsFree f) e k))) }

  pub agree_types : (f : ExprTree) (b n y : Binder) (t r : TypeTree) (g h : Types) → HasNeither m f → AgreeOn (IsElse m) g h → AgreeOn (IsFree f) (body_types b n y t r g) (body_types b n y t r h)
  agree_types f b n y t r g h k a =
      agree_bind (IsFree f) (IsFree f) y.sym.0 r _ _ (λ t k ne. k)
      (agree_bind (IsFree f) (IsFree f) n.sym.0 place_type _ _ (λ t k ne. k) (agree_bind (IsFree f) (IsFree f) b.sym.0 t _ _ (λ t k ne. k) (neither f g h k a)))

  agree_one : {A : Type 0} (f : ExprTree) (z : ℕ) (t : A) (g h : Named A) → HasNeither m f → AgreeOn (IsElse m) g h → AgreeOn (IsFree f) ((z, t) ∷ g) ((z, t) ∷ h)
  agree_one f z t g h k a = agree_bind (IsFree f) (IsFree f) z t g h (λ t k ne. k) (neither f g h k a)

  -- ---- types

  pub record TypesArePaired (g h : Types) : Type 0 where
    pub parts : (n : ℕ) (us : TypeTrees) (t : TypeTree) → IsPartNumber m n → look_for m.s g ≡ Some (tuple us) → IsField n us t → look_for (part m n) h ≡ Some t
    pub others : AgreeOn (IsElse m) g h

  pub types_bind : (z : ℕ) (t : TypeTree) (g h : Types) → IsElse m z → TypesArePaired g h → TypesArePaired ((z, t) ∷ g) ((z, t) ∷ h)
  types_bind z t g h k r = record {
    parts = λ n us u p e f. over (part m n) z t h (part_else n z p k) ∙ r.parts n us u p (sym (over m.s z t g (λ y. k.0 (sym y))) ∙ e) f;
    others = agree_bind (IsElse m) (IsElse m) z t g h (λ t h ne. h) r.others;
  }

  leaf_type_parted : (l : Leaf) (g h : Types) (t : TypeTree) → LeafIsOfParts m l → TypesArePaired g h → LeafHas l g t → LeafHas l h t
  leaf_type_parted (int k y) g h t c r p = p
  leaf_type_parted (truth b) g h t c r p = p
  leaf_type_parted (chars bs) g h t c r p = p
  leaf_type_parted (name z) g h t c r p = sym (r.others.agree z c) ∙ p
  leaf_type_parted (fresh b) g h t c r p = p

  part_type : (a b : At) (n : ℕ) (g h : Types) (t : TypeTree) → IsPartNumber m n → TypesArePaired g h → HasType (one a (field n) (leaf b (name m.s))) g t → look_for (part m n) h ≡ Some t
  part_type a b n g h t k r p = r.parts n p.2.0 t k (p.1 ∙ ap (λ u. Some u) p.2.1) p.2.2

  mutual
    pub type_parted : (e : ExprTree) (g h : Types) (t : TypeTree) → IsOfParts m e → TypesArePaired g h → HasType e g t → HasType (parts m e) h t
    type_parted (leaf a l) g h t c r p = leaf_type_parted l g h t c r p
    type_parted (one a o e) g h t c r p = by (field_taken m.s o e) refl c (λ k. type_parted e g h p.0 k r p.1)
      where
        by : (n : Option ℕ) → field_taken m.s o e ≡ n → OneIsOfParts m n (is_field o && is_part m.s e) (IsOfParts m e) → (IsOfParts m e → HasType (parts m e) h p.0) → HasType (parted_one m.s m.x m.i a n (one a o (parts m e))) h t
        by (Some n) l k f = field_by m.s (λ d y n. IsPartNumber m n → HasType (one a d y) g t → look_for (part m n) h ≡ Some t) (λ b n k q. part_type a b n g h t k r q) o e n l k p
        by None l k f = (p.0, f k.1, p.2)
    type_parted (two a o e f) g h t c r p = (p.0, p.1, type_parted e g h p.0 c.0 r p.2, type_parted f g h p.1 c.1 r p.3, p.4)
    type_parted (three a o d e f) g h t c r p =
        (p.0, p.1, p.2, type_parted d g h p.0 c.0 r p.3, type_parted e g h p.1 c.1 r p.4, type_parted f g h p.2 c.2 r p.5, p.6)
    type_parted (many a o es) g h t c r p = (p.0, types_parted es g h p.0 c r p.1, p.2)
    type_parted (let_in a b e f) g h t c r p =
        (p.0, type_parted e g h p.0 c.1 r p.1, p.2, type_parted f ((b.sym.0, p.0) ∷ g) ((b.sym.0, p.0) ∷ h) t c.2 (types_bind b.sym.0 p.0 g h c.0 r) p.3)
    type_parted (loop a ls e b n y f) g h t c r p =
        (p.0, p.1, leg_types_parted ls g h p.0 c.0 r p.2, p.3, type_parted e g h t c.1 r p.4, p.5, p.6, p.7, p.8, type_free f _ _ t (agree_types f b n y t p.1 g h c.2 r.others) p.9)
    type_parted (iterate a e b f) g h t c r p = (type_parted e g h t c.0 r p.0, p.1, p.2, type_free f _ _ _ (agree_one f b.sym.0 t g h c.1 r.others) p.3)

    types_parted : (es : ExprTrees) (g h : Types) (us : TypeTrees) → AreOfParts m es → TypesArePaired g h → HaveTypes es g us → HaveTypes (all_parted m.s m.x m.i es) h us
    types_parted no_exprs g h no_types c r p = tt
    types_parted no_exprs g h (more_types u us) c r p = p
    types_parted (more_exprs e es) g h no_types c r p = p
    types_parted (more_exprs e es) g h (more_types u us) c r p = (type_parted e g h u c.0 r p.0, types_parted es g h us c.1 r p.1)

    leg_type_parted : (l : LegTree) (g h : Types) (u : TypeTree) → LegIsOfParts m l → TypesArePaired g h → LegHas l g u → LegHas (leg_parted m.s m.x m.i l) h u
    leg_type_parted (whole e) g h u c r p = type_parted e g h (vec u) c r p
    leg_type_parted (strided e f k d) g h u c r p =
        (type_parted e g h (vec u) c.0 r p.0, type_parted f g h place_type c.1 r p.1, type_parted k g h place_type c.2 r p.2, type_parted d g h place_type c.3 r p.3)

    leg_types_parted : (ls : LegTrees) (g h : Types) (us : TypeTrees) → LegsAreOfParts m ls → TypesArePaired g h → LegsHave ls g us → LegsHave (legs_parted m.s m.x m.i ls) h us
    leg_types_parted no_legs g h no_types c r p = tt
    leg_types_parted no_legs g h (more_types u us) c r p = p
    leg_types_parted (more_legs l ls) g h no_types c r p = p
    leg_types_parted (more_legs l ls) g h (more_types u us) c r p = (leg_type_parted l g h u c.0 r p.0, leg_types_parted ls g h us c.1 r p.1)

  -- ---- notes

  mutual
    pub noted_parted : (e : ExprTree) (g h : Types) → IsOfParts m e → TypesArePaired g h → AreNoted e g → AreNoted (parts m e) h
    noted_parted (leaf a l) g h c r n = (n.0, n.1, leaf_type_parted l g h n.0 c r n.2)
    noted_parted (one a o e) g h c r n = by (field_taken m.s o e) refl c (λ k. noted_parted e g h k r n.0)
      where
        by : (f : Option ℕ) → field_taken m.s o e ≡ f → OneIsOfParts m f (is_field o && is_part m.s e) (IsOfParts m e) → (IsOfParts m e → AreNoted (parts m e) h) → AreNoted (parted_one m.s m.x m.i a f (one a o (parts m e))) h
        by (Some k) l u f =
            (n.1.0, n.1.1, field_by m.s (λ d y k. IsPartNumber m k → HasType (one a d y) g n.1.0 → look_for (part m k) h ≡ Some n.1.0) (λ b k u q. part_type a b k g h n.1.0 u r q) o e k l u n.1.2)
        by None l u f =
            let w = n.1.2 in (f u.1, (n.1.0, n.1.1, (w.0, type_parted e g h w.0 u.1 r w.1, w.2)))
    noted_parted (two a o e f) g h c r n = (noted_parted e g h c.0 r n.0, noted_parted f g h c.1 r n.1, (n.2.0, n.2.1, type_parted (two a o e f) g h n.2.0 c r n.2.2))
    noted_parted (three a o d e f) g h c r n =
        (noted_parted d g h c.0 r n.0, noted_parted e g h c.1 r n.1, noted_parted f g h c.2 r n.2, (n.3.0, n.3.1, type_parted (three a o d e f) g h n.3.0 c r n.3.2))
    noted_parted (many a o es) g h c r n = (all_noted_parted es g h c r n.0, (n.1.0, n.1.1, type_parted (many a o es) g h n.1.0 c r n.1.2))
    noted_parted (let_in a b e f) g h c r n =
        let k = n.1 in (
          noted_parted e g h c.1 r n.0,
          (k.0, type_parted e g h k.0 c.1 r k.1, noted_parted f ((b.sym.0, k.0) ∷ g) ((b.sym.0, k.0) ∷ h) c.2 (types_bind b.sym.0 k.0 g h c.0 r) k.2),
          (n.2.0, n.2.1, type_parted (let_in a b e f) g h n.2.0 c r n.2.2),
        )
    noted_parted (loop a ls e b n y f) g h c r w =
        let k = w.2 in (
          legs_noted_parted ls g h c.0 r w.0,
          noted_parted e g h c.1 r w.1,
          (k.0, k.1, k.2, leg_types_parted ls g h k.0 c.0 r k.3, k.4, type_parted e g h k.2 c.1 r k.5, noted_free f _ _ (agree_types f b n y k.2 k.1 g h c.2 r.others) k.6),
          (w.3.0, w.3.1, type_parted (loop a ls e b n y f) g h w.3.0 c r w.3.2),
        )
    noted_parted (iterate a e b f) g h c r n =
        let k = n.1 in (
          noted_parted e g h c.0 r n.0,
          (k.0, type_parted e g h k.0 c.0 r k.1, noted_free f _ _ (agree_one f b.sym.0 k.0 g h c.1 r.others) k.2),
          (n.2.0, n.2.1, type_parted (iterate a e b f) g h n.2.0 c r n.2.2),
        )

    all_noted_parted : (es : ExprTrees) (g h : Types) → AreOfParts m es → TypesArePaired g h → AllAreNoted es g → AllAreNoted (all_parted m.s m.x m.i es) h
    all_noted_parted no_exprs g h c r n = tt
    all_noted_parted (more_exprs e es) g h c r n = (noted_parted e g h c.0 r n.0, all_noted_parted es g h c.1 r n.1)

    leg_noted_parted : (l : LegTree) (g h : Types) → LegIsOfParts m l → TypesArePaired g h → LegIsNoted l g → LegIsNoted (leg_parted m.s m.x m.i l) h
    leg_noted_parted (whole e) g h c r n = noted_parted e g h c r n
    leg_noted_parted (strided e f k d) g h c r n = (noted_parted e g h c.0 r n.0, noted_parted f g h c.1 r n.1, noted_parted k g h c.2 r n.2, noted_parted d g h c.3 r n.3)

    legs_noted_parted : (ls : LegTrees) (g h : Types) → LegsAreOfParts m ls → TypesArePaired g h → LegsAreNoted ls g → LegsAreNoted (legs_parted m.s m.x m.i ls) h
    legs_noted_parted no_legs g h c r n = tt
    legs_noted_parted (more_legs l ls) g h c r n = (leg_noted_parted l g h c.0 r n.0, legs_noted_parted ls g h c.1 r n.1)

  -- ---- what is evaluated

  pub record ThingsArePaired (env later : Env) : Type 0 where
    pub parts : (n : ℕ) → IsPartNumber m n → and_then (found (look_for m.s env)) (field_of n) ≡ found (look_for (part m n) later)
    pub others : AgreeOn (IsElse m) env later

  things_bind : (z : ℕ) (t : Thing) (env later : Env) → IsElse m z → ThingsArePaired env later → ThingsArePaired ((z, t) ∷ env) ((z, t) ∷ later)
  things_bind z t env later k r = record {
    parts = λ n h. ap (λ o. and_then (found o) (field_of n)) (over m.s z t env (λ y. k.0 (sym y))) ∙ r.parts n h ∙ ap found (sym (over (part m n) z t later (part_else n z h k)));
    others = agree_bind (IsElse m) (IsElse m) z t env later (λ t h ne. h) r.others;
  }

  leaf_parted : (l : Leaf) (env later : Env) → LeafIsOfParts m l → ThingsArePaired env later → leaf_thing l env ≡ leaf_thing l later
  leaf_parted (int k y) env later c r = refl
  leaf_parted (truth b) env later c r = refl
  leaf_parted (chars bs) env later c r = refl
  leaf_parted (name z) env later c r = ap found (r.others.agree z c)
  leaf_parted (fresh b) env later c r = refl

  mutual
    pub eval_parted : (e : ExprTree) (env later : Env) → IsOfParts m e → ThingsArePaired env later → eval e env ≡ eval (parts m e) later
    eval_parted (leaf a l) env later c r = leaf_parted l env later c r
    eval_parted (one a o e) env later c r = by (field_taken m.s o e) refl c (λ k. eval_parted e env later k r)
      where
        by : (n : Option ℕ) → field_taken m.s o e ≡ n → OneIsOfParts m n (is_field o && is_part m.s e) (IsOfParts m e) → (IsOfParts m e → eval e env ≡ eval (parts m e) later) → and_then (eval e env) (one_thing o) ≡ eval (parted_one m.s m.x m.i a n (one a o (parts m e))) later
        by (Some n) l k f = field_by m.s (λ d y n. IsPartNumber m n → and_then (eval y env) (one_thing d) ≡ found (look_for (part m n) later)) (λ b n k. r.parts n k) o e n l k
        by None l k f = ap (λ v. and_then v (one_thing o)) (f k.1)
    eval_parted (two a o e f) env later c r =
        let x = eval_parted e env later c.0 r in let y = eval_parted f env later c.1 r in λ i. and_then (x i) (λ t. two_thing o t (y i))
    eval_parted (three a o d e f) env later c r =
        let x = eval_parted d env later c.0 r in let y = eval_parted e env later c.1 r in let z = eval_parted f env later c.2 r in
        λ i. and_then (x i) (λ t. three_thing o t (y i) (z i))
    eval_parted (many a o es) env later c r = let x = eval_all_parted es env later c r in λ i. and_then (x i) (many_thing o)
    eval_parted (let_in a b e f) env later c r =
        let x = eval_parted e env later c.1 r in
        let y : (t : Thing) → eval f ((b.sym.0, t) ∷ env) ≡ eval (parts m f) ((b.sym.0, t) ∷ later) = λ t. eval_parted f _ _ c.2 (things_bind b.sym.0 t env later c.0 r) in
        λ i. and_then (x i) (λ t. y t i)
    eval_parted (loop a ls e b n y f) env later c r =
        let u = eval_legs_parted ls env later c.0 r in
        let x = eval_parted e env later c.1 r in
        let z : (k t w : Thing) → eval f (with_row b n y t k w env) ≡ eval f (with_row b n y t k w later) = λ k t w. eval_free f _ _ (agree_bind (IsFree f) (IsFree f) y.sym.0 w _ _ (λ t k ne. k)
        (agree_bind (IsFree f) (IsFree f) n.sym.0 k _ _ (λ t k ne. k) (agree_one f b.sym.0 t env later c.2 r.others))) in
        λ i. and_then (u i) (λ legs. and_then (rows_of legs) (λ rows. and_then (x i) (λ s. run (number_from 0 rows) s (λ r t. z (plain (whole_number r.0)) t (plain r.1) i))))
    eval_parted (iterate a e b f) env later c r =
        let x = eval_parted e env later c.0 r in
        let z : (t : Thing) → eval f ((b.sym.0, t) ∷ env) ≡ eval f ((b.sym.0, t) ∷ later) = λ t. eval_free f _ _ (agree_one f b.sym.0 t env later c.1 r.others) in
        λ i. and_then (value_out (x i)) (λ v. map_out plain (turns turn_limit v (λ w. value_out (z (plain w) i))))

    eval_all_parted : (es : ExprTrees) (env later : Env) → AreOfParts m es → ThingsArePaired env later → eval_all es env ≡ eval_all (all_parted m.s m.x m.i es) later
    eval_all_parted no_exprs env later c r = refl
    eval_all_parted (more_exprs e es) env later c r =
        let x = eval_parted e env later c.0 r in let y = eval_all_parted es env later c.1 r in λ i. and_then (x i) (λ t. map_out (more_things t) (y i))

    eval_leg_parted : (l : LegTree) (env later : Env) → LegIsOfParts m l → ThingsArePaired env later → eval_leg l env ≡ eval_leg (leg_parted m.s m.x m.i l) later
    eval_leg_parted (whole e) env later c r = ap (λ o. and_then (value_out o) elements_of) (eval_parted e env later c r)
    eval_leg_parted (strided e f g d) env later c r =
        let x = eval_parted e env later c.0 r in let y = eval_parted f env later c.1 r in let z = eval_parted g env later c.2 r in let u = eval_parted d env later c.3 r in
        λ i. and_then (value_out (x i)) (λ v. and_then (value_out (y i)) (λ s. and_then (value_out (z i)) (λ end. and_then (value_out (u i)) (λ d. strided_of v s end d))))

    eval_legs_parted : (ls : LegTrees) (env later : Env) → LegsAreOfParts m ls → ThingsArePaired env later → eval_legs ls env ≡ eval_legs (legs_parted m.s m.x m.i ls) later
    eval_legs_parted no_legs env later c r = refl
    eval_legs_parted (more_legs l ls) env later c r =
        let x = eval_leg_parted l env later c.0 r in let y = eval_legs_parted ls env later c.1 r in λ i. and_then (x i) (λ vs. map_out (λ rest. vs ∷ rest) (y i))
