-- With the names of a pair's parts for the pair, binders, loops and legs stay; and where the pair is used by its parts.
use Rattle.std.proofs.Common.{◌≡◌, ◌≢◌, ℕ, ◌+◌, ◌==◌, if◌then◌else◌, Bool, true, false, not, ◌&&◌, ◌||◌, [], ◌∷◌, ◌++◌, Option, Some, None, refl, sym, ◌∙◌, ◌⊎◌, inl, inr, eq-eqb, eqb-true, arith}
use Rattle.weld_tree.specs.ExprTree.{At, ExprTree, leaf, one, two, three, many, let_in, loop, iterate, ExprTrees, no_exprs, more_exprs, LegTree, whole, strided, LegTrees, no_legs, more_legs, Leaf, int, truth, chars, name, fresh, One}
use Rattle.weld_tree.specs.Program.{loops, loops_in, loops_in_leg, loops_in_legs, bound, bound_in, bound_in_leg, bound_in_legs, IsWellMade, AreWellMade, LegIsWellMade, LegsAreWellMade, HasExprs, HasLegs}
use Rattle.weld_meaning.specs.Names.{IsFree, AreFree, LegIsFree, LegsAreFree, Binds, AllBind, LegBinds, LegsBind}
use Rattle.weld_print.specs.Spellable.{IsSpellable, AreSpellable, LegIsSpellable, LegsAreSpellable}
use Rattle.weld_rewriting.specs.Within.{legs, legs_in, legs_within, legs_among}
use Rattle.weld_substitution.specs.Uses.{is_name, uses}
use Rattle.weld_substitution.specs.Redex.{is_field}
use Rattle.weld_substitution.proofs.UsedNames.{used_or_free}
use Rattle.weld_substitution.proofs.Unnamed.{binds_so}
use Rattle.weld_vertical_struct.specs.Parting.{field_taken, parted_one, all_parted, leg_parted, legs_parted, is_part, one_apart, is_unnamed, is_apart, are_apart, leg_is_apart, legs_are_apart}
use Rattle.weld_vertical_struct.proofs.Parts.{Pair, IsPartNumber, IsElse, HasNeither, part, LeafIsOfParts, OneIsOfParts, IsOfParts, AreOfParts, LegIsOfParts, LegsAreOfParts, parts, field_by}

module _ (m : Pair) where
  -- what of a node stays where it is a field of the pair, or has its part parted
  module _ {A : Type 0} (f : ExprTree → A) (nothing : A) (at_leaf : (a : At) (l : Leaf) → f (leaf a l) ≡ nothing) (at_one : (a : At) (o : One) (e : ExprTree) → f (one a o e) ≡ f e) where
    one_stays : (a : At) (o : One) (e d : ExprTree) → f d ≡ f e → f (parted_one m.s m.x m.i a (field_taken m.s o e) (one a o d)) ≡ f (one a o e)
    one_stays a o e d h = by (field_taken m.s o e) refl
      where
        by : (n : Option ℕ) → field_taken m.s o e ≡ n → f (parted_one m.s m.x m.i a n (one a o d)) ≡ f (one a o e)
        by (Some n) l = at_leaf a _ ∙ sym (at_one a o e ∙ field_by m.s (λ o e n. f e ≡ nothing) (λ b n. at_leaf b (name m.s)) o e n l)
        by None l = at_one a o d ∙ h ∙ sym (at_one a o e)

  mutual
    pub bound_stay : (e : ExprTree) → bound (parts m e) ≡ bound e
    bound_stay (leaf a l) = refl
    bound_stay (one a o e) = one_stays bound [] (λ a l. refl) (λ a o e. refl) a o e (parts m e) (bound_stay e)
    bound_stay (two a o e f) = let x = bound_stay e in let y = bound_stay f in λ i. x i ++ y i
    bound_stay (three a o c e f) = let x = bound_stay c in let y = bound_stay e in let z = bound_stay f in λ i. x i ++ (y i ++ z i)
    bound_stay (many a o es) = bound_in_stay es
    bound_stay (let_in a b e f) = let x = bound_stay e in let y = bound_stay f in λ i. b.sym.0 ∷ (x i ++ y i)
    bound_stay (loop a ls e b n y f) = let x = bound_in_legs_stay ls in let z = bound_stay e in λ i. x i ++ (z i ++ (b.sym.0 ∷ n.sym.0 ∷ y.sym.0 ∷ bound f))
    bound_stay (iterate a e b f) = let x = bound_stay e in λ i. x i ++ (b.sym.0 ∷ bound f)

    bound_in_stay : (es : ExprTrees) → bound_in (all_parted m.s m.x m.i es) ≡ bound_in es
    bound_in_stay no_exprs = refl
    bound_in_stay (more_exprs e es) = let x = bound_stay e in let y = bound_in_stay es in λ i. x i ++ y i

    bound_in_leg_stay : (l : LegTree) → bound_in_leg (leg_parted m.s m.x m.i l) ≡ bound_in_leg l
    bound_in_leg_stay (whole e) = bound_stay e
    bound_in_leg_stay (strided e f g h) =
        let x = bound_stay e in let y = bound_stay f in let z = bound_stay g in let u = bound_stay h in λ i. x i ++ (y i ++ (z i ++ u i))

    bound_in_legs_stay : (ls : LegTrees) → bound_in_legs (legs_parted m.s m.x m.i ls) ≡ bound_in_legs ls
    bound_in_legs_stay no_legs = refl
    bound_in_legs_stay (more_legs l ls) = let x = bound_in_leg_stay l in let y = bound_in_legs_stay ls in λ i. x i ++ y i

  mutual
    pub loops_stay : (e : ExprTree) → loops (parts m e) ≡ loops e
    loops_stay (leaf a l) = refl
    loops_stay (one a o e) = one_stays loops 0 (λ a l. refl) (λ a o e. refl) a o e (parts m e) (loops_stay e)
    loops_stay (two a o e f) = let x = loops_stay e in let y = loops_stay f in λ i. x i + y i
    loops_stay (three a o c e f) = omega (arith, loops_stay c, loops_stay e, loops_stay f)
    loops_stay (many a o es) = loops_in_stay es
    loops_stay (let_in a b e f) = let x = loops_stay e in let y = loops_stay f in λ i. x i + y i
    loops_stay (loop a ls e b n y f) = omega (arith, loops_in_legs_stay ls, loops_stay e)
    loops_stay (iterate a e b f) = omega (arith, loops_stay e)

    loops_in_stay : (es : ExprTrees) → loops_in (all_parted m.s m.x m.i es) ≡ loops_in es
    loops_in_stay no_exprs = refl
    loops_in_stay (more_exprs e es) = omega (arith, loops_stay e, loops_in_stay es)

    loops_in_leg_stay : (l : LegTree) → loops_in_leg (leg_parted m.s m.x m.i l) ≡ loops_in_leg l
    loops_in_leg_stay (whole e) = loops_stay e
    loops_in_leg_stay (strided e f g h) = omega (arith, loops_stay e, loops_stay f, loops_stay g, loops_stay h)

    loops_in_legs_stay : (ls : LegTrees) → loops_in_legs (legs_parted m.s m.x m.i ls) ≡ loops_in_legs ls
    loops_in_legs_stay no_legs = refl
    loops_in_legs_stay (more_legs l ls) = omega (arith, loops_in_leg_stay l, loops_in_legs_stay ls)

  mutual
    pub legs_stay : (e : ExprTree) → legs (parts m e) ≡ legs e
    legs_stay (leaf a l) = refl
    legs_stay (one a o e) = one_stays legs 0 (λ a l. refl) (λ a o e. refl) a o e (parts m e) (legs_stay e)
    legs_stay (two a o e f) = omega (arith, legs_stay e, legs_stay f)
    legs_stay (three a o c e f) = omega (arith, legs_stay c, legs_stay e, legs_stay f)
    legs_stay (many a o es) = legs_in_stay es
    legs_stay (let_in a b e f) = omega (arith, legs_stay e, legs_stay f)
    legs_stay (loop a ls e b n y f) = omega (arith, legs_among_stay ls, legs_stay e)
    legs_stay (iterate a e b f) = omega (arith, legs_stay e)

    legs_in_stay : (es : ExprTrees) → legs_in (all_parted m.s m.x m.i es) ≡ legs_in es
    legs_in_stay no_exprs = refl
    legs_in_stay (more_exprs e es) = omega (arith, legs_stay e, legs_in_stay es)

    legs_within_stay : (l : LegTree) → legs_within (leg_parted m.s m.x m.i l) ≡ legs_within l
    legs_within_stay (whole e) = legs_stay e
    legs_within_stay (strided e f g h) = omega (arith, legs_stay e, legs_stay f, legs_stay g, legs_stay h)

    legs_among_stay : (ls : LegTrees) → legs_among (legs_parted m.s m.x m.i ls) ≡ legs_among ls
    legs_among_stay no_legs = refl
    legs_among_stay (more_legs l ls) = omega (arith, legs_within_stay l, legs_among_stay ls)

  -- ---- free names: those that were, and the names of the parts

  abbrev pub IsNamed : Type 0 → ℕ → Type 0
  IsNamed was t = was ⊎ ((t ≡ m.x) ⊎ (t ≡ m.s))

  widely : {A B : Type 0} (t : ℕ) → (A → B) → IsNamed A t → IsNamed B t
  widely t f (inl a) = inl (f a)
  widely t f (inr k) = inr k

  pub one_of : {A B : Type 0} → (A → ⊥) → (B → ⊥) → A ⊎ B → ⊥
  one_of f g (inl a) = f a
  one_of f g (inr b) = g b

  either_named : {A B C D : Type 0} (t : ℕ) → (A → IsNamed C t) → (B → IsNamed D t) → A ⊎ B → IsNamed (C ⊎ D) t
  either_named t f g (inl a) = widely t (λ c. inl c) (f a)
  either_named t f g (inr b) = widely t (λ d. inr d) (g b)

  part_named : (n t : ℕ) → t ≡ part m n → (t ≡ m.x) ⊎ (t ≡ m.s)
  part_named n t h = by (n == m.i) h
    where
      by : (b : Bool) → t ≡ (if b then m.x else m.s) → (t ≡ m.x) ⊎ (t ≡ m.s)
      by true h = inl h
      by false h = inr h

  mutual
    pub parted_named : (e : ExprTree) (t : ℕ) → IsFree (parts m e) t → IsNamed (IsFree e t) t
    parted_named (leaf a l) t h = inl h
    parted_named (one a o e) t h = by (field_taken m.s o e) h (parted_named e t)
      where
        by : (n : Option ℕ) → IsFree (parted_one m.s m.x m.i a n (one a o (parts m e))) t → (IsFree (parts m e) t → IsNamed (IsFree e t) t) → IsNamed (IsFree e t) t
        by (Some n) h f = inr (part_named n t h)
        by None h f = f h
    parted_named (two a o e f) t h = either_named t (parted_named e t) (parted_named f t) h
    parted_named (three a o c e f) t h = either_named t (parted_named c t) (either_named t (parted_named e t) (parted_named f t)) h
    parted_named (many a o es) t h = all_parted_named es t h
    parted_named (let_in a b e f) t h = either_named t (parted_named e t) (λ k. widely t (λ y. (y, k.1)) (parted_named f t k.0)) h
    parted_named (loop a ls e b n y f) t h = either_named t (legs_parted_named ls t) (either_named t (parted_named e t) (λ k. inl k)) h
    parted_named (iterate a e b f) t h = either_named t (parted_named e t) (λ k. inl k) h

    all_parted_named : (es : ExprTrees) (t : ℕ) → AreFree (all_parted m.s m.x m.i es) t → IsNamed (AreFree es t) t
    all_parted_named no_exprs t h = absurd h
    all_parted_named (more_exprs e es) t h = either_named t (parted_named e t) (all_parted_named es t) h

    leg_parted_named : (l : LegTree) (t : ℕ) → LegIsFree (leg_parted m.s m.x m.i l) t → IsNamed (LegIsFree l t) t
    leg_parted_named (whole e) t h = parted_named e t h
    leg_parted_named (strided e f g k) t h = either_named t (parted_named e t) (either_named t (parted_named f t) (either_named t (parted_named g t) (parted_named k t))) h

    legs_parted_named : (ls : LegTrees) (t : ℕ) → LegsAreFree (legs_parted m.s m.x m.i ls) t → IsNamed (LegsAreFree ls t) t
    legs_parted_named no_legs t h = absurd h
    legs_parted_named (more_legs l ls) t h = either_named t (leg_parted_named l t) (legs_parted_named ls t) h

  -- ---- well made and spellable

  some_parted : (es : ExprTrees) → HasExprs es → HasExprs (all_parted m.s m.x m.i es)
  some_parted no_exprs h = h
  some_parted (more_exprs e es) h = tt

  some_legs_parted : (ls : LegTrees) → HasLegs ls → HasLegs (legs_parted m.s m.x m.i ls)
  some_legs_parted no_legs h = h
  some_legs_parted (more_legs l ls) h = tt

  mutual
    pub parted_made : (e : ExprTree) → IsWellMade e → IsWellMade (parts m e)
    parted_made (leaf a l) h = h
    parted_made (one a o e) h = by (field_taken m.s o e) (parted_made e h.1)
      where
        by : (n : Option ℕ) → IsWellMade (parts m e) → IsWellMade (parted_one m.s m.x m.i a n (one a o (parts m e)))
        by (Some n) k = tt
        by None k = (h.0, k)
    parted_made (two a o e f) h = (parted_made e h.0, parted_made f h.1)
    parted_made (three a o c e f) h = (parted_made c h.0, parted_made e h.1, parted_made f h.2)
    parted_made (many a o es) h = (some_parted es h.0, all_parted_made es h.1)
    parted_made (let_in a b e f) h = (parted_made e h.0, parted_made f h.1)
    parted_made (loop a ls e b n y f) h = (some_legs_parted ls h.0, legs_parted_made ls h.1, parted_made e h.2, h.3)
    parted_made (iterate a e b f) h = (parted_made e h.0, h.1)

    all_parted_made : (es : ExprTrees) → AreWellMade es → AreWellMade (all_parted m.s m.x m.i es)
    all_parted_made no_exprs h = tt
    all_parted_made (more_exprs e es) h = (parted_made e h.0, all_parted_made es h.1)

    leg_parted_made : (l : LegTree) → LegIsWellMade l → LegIsWellMade (leg_parted m.s m.x m.i l)
    leg_parted_made (whole e) h = parted_made e h
    leg_parted_made (strided e f g k) h = (parted_made e h.0, parted_made f h.1, parted_made g h.2, parted_made k h.3)

    legs_parted_made : (ls : LegTrees) → LegsAreWellMade ls → LegsAreWellMade (legs_parted m.s m.x m.i ls)
    legs_parted_made no_legs h = tt
    legs_parted_made (more_legs l ls) h = (leg_parted_made l h.0, legs_parted_made ls h.1)

  mutual
    pub parted_spellable : (e : ExprTree) → IsSpellable e → IsSpellable (parts m e)
    parted_spellable (leaf a l) h = h
    parted_spellable (one a o e) h = by (field_taken m.s o e) (parted_spellable e h.1)
      where
        by : (n : Option ℕ) → IsSpellable (parts m e) → IsSpellable (parted_one m.s m.x m.i a n (one a o (parts m e)))
        by (Some n) k = tt
        by None k = (h.0, k)
    parted_spellable (two a o e f) h = (parted_spellable e h.0, parted_spellable f h.1)
    parted_spellable (three a o c e f) h = (parted_spellable c h.0, parted_spellable e h.1, parted_spellable f h.2)
    parted_spellable (many a o es) h = all_parted_spellable es h
    parted_spellable (let_in a b e f) h = (h.0, parted_spellable e h.1, parted_spellable f h.2)
    parted_spellable (loop a ls e b n y f) h = (legs_parted_spellable ls h.0, parted_spellable e h.1, h.2, h.3, h.4, h.5)
    parted_spellable (iterate a e b f) h = (parted_spellable e h.0, h.1, h.2)

    all_parted_spellable : (es : ExprTrees) → AreSpellable es → AreSpellable (all_parted m.s m.x m.i es)
    all_parted_spellable no_exprs h = tt
    all_parted_spellable (more_exprs e es) h = (parted_spellable e h.0, all_parted_spellable es h.1)

    leg_parted_spellable : (l : LegTree) → LegIsSpellable l → LegIsSpellable (leg_parted m.s m.x m.i l)
    leg_parted_spellable (whole e) h = parted_spellable e h
    leg_parted_spellable (strided e f g k) h = (parted_spellable e h.0, parted_spellable f h.1, parted_spellable g h.2, parted_spellable k h.3)

    legs_parted_spellable : (ls : LegTrees) → LegsAreSpellable ls → LegsAreSpellable (legs_parted m.s m.x m.i ls)
    legs_parted_spellable no_legs h = tt
    legs_parted_spellable (more_legs l ls) h = (leg_parted_spellable l h.0, legs_parted_spellable ls h.1)

  -- ---- where the test holds, the pair is used by its parts

  both : (a b : Bool) → (a && b) ≡ true → (a ≡ true) × (b ≡ true)
  both true b h = (refl, h)
  both false b h = let nothing : ⊥ = cc in absurd nothing

  denied : (a : Bool) → not a ≡ true → a ≡ false
  denied true h = let nothing : ⊥ = cc in absurd nothing
  denied false h = refl

  abbrev Numbers : Type 0
  Numbers = (n : ℕ) → ((n == 0) || (n == 1)) ≡ true → IsPartNumber m n

  other_name : (t s : ℕ) → (s == t) ≡ false → t ≢ s
  other_name t s h e = let yes : (s == t) ≡ true = eq-eqb s t (sym e) in let nothing : ⊥ = cc in nothing

  unused : (f : ExprTree) → Binds (IsElse m) f → is_unnamed m.s m.x f ≡ true → HasNeither m f
  unused f c h =
      let k = both (uses f m.s == 0) (uses f m.x == 0) h in
      let none_s : uses f m.s ≡ 0 = eqb-true (uses f m.s) 0 k.0 in let none_x : uses f m.x ≡ 0 = eqb-true (uses f m.x) 0 k.1 in (
        λ y. let used = (used_or_free f m.s (first f c)).1 y in absurd (omega (arith, used, none_s)),
        λ y. let used = (used_or_free f m.x (second f c)).1 y in absurd (omega (arith, used, none_x)),
      )
    where
      first : (f : ExprTree) → Binds (IsElse m) f → Binds (λ b. m.s ≢ b) f
      first f c = binds_so (IsElse m) (λ b. m.s ≢ b) (λ b h e. h.0 (sym e)) f c

      second : (f : ExprTree) → Binds (IsElse m) f → Binds (λ b. m.x ≢ b) f
      second f c = binds_so (IsElse m) (λ b. m.x ≢ b) (λ b h e. h.1 (sym e)) f c

  leaf_of_parts : (l : Leaf) → (not (is_name l m.s) && not (is_name l m.x)) ≡ true → LeafIsOfParts m l
  leaf_of_parts (int k y) h = tt
  leaf_of_parts (truth b) h = tt
  leaf_of_parts (chars bs) h = tt
  leaf_of_parts (name t) h =
      let k = both (not (m.s == t)) (not (m.x == t)) h in
      (other_name t m.s (denied (m.s == t) k.0), other_name t m.x (denied (m.x == t) k.1))
  leaf_of_parts (fresh b) h = tt

  mutual
    pub of_parts : Numbers → (e : ExprTree) → Binds (IsElse m) e → is_apart m.s m.x e ≡ true → IsOfParts m e
    of_parts w (leaf a l) c h = leaf_of_parts l h
    of_parts w (one a o e) c h = by (field_taken m.s o e) h (of_parts w e c)
      where
        by : (n : Option ℕ) → one_apart n (not (is_field o && is_part m.s e) && is_apart m.s m.x e) ≡ true → (is_apart m.s m.x e ≡ true → IsOfParts m e) → OneIsOfParts m n (is_field o && is_part m.s e) (IsOfParts m e)
        by (Some n) h f = w n h
        by None h f = let k = both (not (is_field o && is_part m.s e)) (is_apart m.s m.x e) h in (denied (is_field o && is_part m.s e) k.0, f k.1)
    of_parts w (two a o e f) c h = let k = both (is_apart m.s m.x e) (is_apart m.s m.x f) h in (of_parts w e c.0 k.0, of_parts w f c.1 k.1)
    of_parts w (three a o d e f) c h =
        let k = both (is_apart m.s m.x d) (is_apart m.s m.x e && is_apart m.s m.x f) h in
        let l = both (is_apart m.s m.x e) (is_apart m.s m.x f) k.1 in
        (of_parts w d c.0 k.0, of_parts w e c.1 l.0, of_parts w f c.2 l.1)
    of_parts w (many a o es) c h = all_of_parts w es c h
    of_parts w (let_in a b e f) c h = let k = both (is_apart m.s m.x e) (is_apart m.s m.x f) h in (c.0, of_parts w e c.1 k.0, of_parts w f c.2 k.1)
    of_parts w (loop a ls e b n y f) c h =
        let k = both (legs_are_apart m.s m.x ls) (is_apart m.s m.x e && is_unnamed m.s m.x f) h in
        let l = both (is_apart m.s m.x e) (is_unnamed m.s m.x f) k.1 in
        (legs_of_parts w ls c.3 k.0, of_parts w e c.4 l.0, unused f c.5 l.1)
    of_parts w (iterate a e b f) c h = let k = both (is_apart m.s m.x e) (is_unnamed m.s m.x f) h in (of_parts w e c.1 k.0, unused f c.2 k.1)

    all_of_parts : Numbers → (es : ExprTrees) → AllBind (IsElse m) es → are_apart m.s m.x es ≡ true → AreOfParts m es
    all_of_parts w no_exprs c h = tt
    all_of_parts w (more_exprs e es) c h = let k = both (is_apart m.s m.x e) (are_apart m.s m.x es) h in (of_parts w e c.0 k.0, all_of_parts w es c.1 k.1)

    leg_of_parts : Numbers → (l : LegTree) → LegBinds (IsElse m) l → leg_is_apart m.s m.x l ≡ true → LegIsOfParts m l
    leg_of_parts w (whole e) c h = of_parts w e c h
    leg_of_parts w (strided e f g d) c h =
        let k = both (is_apart m.s m.x e) (is_apart m.s m.x f && (is_apart m.s m.x g && is_apart m.s m.x d)) h in
        let l = both (is_apart m.s m.x f) (is_apart m.s m.x g && is_apart m.s m.x d) k.1 in
        let n = both (is_apart m.s m.x g) (is_apart m.s m.x d) l.1 in
        (of_parts w e c.0 k.0, of_parts w f c.1 l.0, of_parts w g c.2 n.0, of_parts w d c.3 n.1)

    legs_of_parts : Numbers → (ls : LegTrees) → LegsBind (IsElse m) ls → legs_are_apart m.s m.x ls ≡ true → LegsAreOfParts m ls
    legs_of_parts w no_legs c h = tt
    legs_of_parts w (more_legs l ls) c h = let k = both (leg_is_apart m.s m.x l) (legs_are_apart m.s m.x ls) h in (leg_of_parts w l c.0 k.0, legs_of_parts w ls c.1 k.1)

  -- ---- the name of the first part isn't there

  mutual
    pub not_named : (e : ExprTree) → IsOfParts m e → IsFree e m.x → ⊥
    not_named (leaf a l) h k = leaf_not_named l h k
      where
        leaf_not_named : (l : Leaf) → LeafIsOfParts m l → IsFree (leaf a l) m.x → ⊥
        leaf_not_named (int j y) h k = k
        leaf_not_named (truth b) h k = k
        leaf_not_named (chars bs) h k = k
        leaf_not_named (name t) h k = h.1 (sym k)
        leaf_not_named (fresh b) h k = k
    not_named (one a o e) h k = by (field_taken m.s o e) refl h (not_named e)
      where
        by : (n : Option ℕ) → field_taken m.s o e ≡ n → OneIsOfParts m n (is_field o && is_part m.s e) (IsOfParts m e) → (IsOfParts m e → IsFree e m.x → ⊥) → ⊥
        by (Some n) l u f = field_by m.s (λ d y n. IsFree y m.x → ⊥) (λ b n e. m.apart (sym e)) o e n l k
        by None l u f = f u.1 k
    not_named (two a o e f) h k = one_of (not_named e h.0) (not_named f h.1) k
    not_named (three a o c e f) h k = one_of (not_named c h.0) (one_of (not_named e h.1) (not_named f h.2)) k
    not_named (many a o es) h k = none_named es h k
    not_named (let_in a b e f) h k = one_of (not_named e h.1) (λ y. not_named f h.2 y.0) k
    not_named (loop a ls e b n y f) h k = one_of (legs_not_named ls h.0) (one_of (not_named e h.1) (λ z. h.2.1 z.0)) k
    not_named (iterate a e b f) h k = one_of (not_named e h.0) (λ z. h.1.1 z.0) k

    none_named : (es : ExprTrees) → AreOfParts m es → AreFree es m.x → ⊥
    none_named no_exprs h k = k
    none_named (more_exprs e es) h k = one_of (not_named e h.0) (none_named es h.1) k

    leg_not_named : (l : LegTree) → LegIsOfParts m l → LegIsFree l m.x → ⊥
    leg_not_named (whole e) h k = not_named e h k
    leg_not_named (strided e f g d) h k = one_of (not_named e h.0) (one_of (not_named f h.1) (one_of (not_named g h.2) (not_named d h.3))) k

    legs_not_named : (ls : LegTrees) → LegsAreOfParts m ls → LegsAreFree ls m.x → ⊥
    legs_not_named no_legs h k = k
    legs_not_named (more_legs l ls) h k = one_of (leg_not_named l h.0) (legs_not_named ls h.1) k
