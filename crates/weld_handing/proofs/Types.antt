-- A body with another loop's builder in the place of its list's has the type that it had, with that builder's type in the place of
-- the list's.
use Rattle.std.proofs.Common.{◌≡◌, ◌≢◌, ℕ, ◌==◌, Bool, true, false, ◌&&◌, if◌then◌else◌, ◌∷◌, Option, Some, option_map, refl, ap, sym, subst, ◌∙◌, ◌⊎◌, inl, inr, eq-eqb, ne_eqb}
use Rattle.std.specs.Prelude.{not}
use Rattle.std.proofs.lemmas.Bool.{cases_eq}
use Rattle.weld_tree.specs.declared.binder.Binder.{Binder}
use Rattle.weld_tree.specs.TypeTree.{TypeTree, TypeTrees, vec, build, list, no_types, more_types}
use Rattle.weld_tree.specs.Types.{IsBuilderFree, IsBuilder, IsWellFormed, takes}
use Rattle.weld_tree.specs.ExprTree.{At, ExprTree, leaf, one, two, three, many, let_in, loop, iterate, ExprTrees, no_exprs, more_exprs, LegTree, whole, strided, LegTrees, no_legs, more_legs, Leaf, int, truth, chars, name, fresh, Two, binary, and, or, look_up, key_exists, merge}
use Rattle.weld_meaning.specs.Environment.{Named, look_for}
use Rattle.weld_meaning.specs.Typing.{Types, AreFormed, NoteFits, place_type, LeafHas, TwoHas, HasType, HaveTypes, LegHas, LegsHave, body_types}
use Rattle.weld_meaning.specs.Origin.{Origin, value, known_origin, origin_of_name, leaf_origin, two_origin, origin, origins, own_paths, outside, in_body, in_turn}
use Rattle.weld_meaning.specs.Linear.{IsSeen, Keeps, AllKeep, LegKeeps, LegsKeep}
use Rattle.weld_meaning.specs.Names.{IsFree, AreFree, LegIsFree, LegsAreFree, AgreeOn, Binds, AllBind, LegBinds, LegsBind}
use Rattle.weld_meaning.specs.Forms.{HasForm, HaveForms, NamesHaveForms}
use Rattle.weld_meaning.proofs.Before.{none_within, origin_outside}
use Rattle.weld_meaning.proofs.Outcomes.{option_map_same}
use Rattle.weld_meaning.proofs.FreeNames.{type_free}
use Rattle.weld_meaning.proofs.Names.{agree_bind}
use Rattle.weld_meaning.proofs.WellFormed.{formed_bind, type_formed, types_formed, takes_free}
use Rattle.weld_meaning.proofs.OriginTypes.{origin_forms, forms_bind}
use Rattle.weld_substitution.proofs.Bindings.{agree_over, agree_after}
use Rattle.weld_substitution.proofs.Following.{and_true}
use Rattle.weld_substitution.proofs.Unnamed.{kept_seen}
use Rattle.weld_substitution.proofs.Values.{look_behind}
use Rattle.weld_vertical.specs.Sinking.{is_merge}
use Rattle.weld_handing.specs.Handing.{is_held, holds, handed_type, handed_types, handed_two, handed, all_handed, leg_handed, legs_handed, starts_none, all_start_none, leg_starts_none, legs_start_none}
use Rattle.weld_handing.proofs.Common.{IsAside, IsBehind}
use Rattle.weld_handing.proofs.Held.{none_held, unheld_type, free_kept, held_type, HasHeld, NamesHaveHeld, held_bind, held_is, type_held}
use Rattle.weld_handing.proofs.TypeRules.{one_handed, two_handed, three_handed, same_arms, many_handed}

-- ---- names

-- the origins of expressions have the forms of their types
origins_have_forms : (es : ExprTrees) (q : Named Origin) (h : Types) (us : TypeTrees) → HaveTypes es h us → AreFormed h → NamesHaveForms q h → HaveForms (origins es q) us
origins_have_forms no_exprs q h no_types p w n = tt
origins_have_forms no_exprs q h (more_types u us) p w n = p
origins_have_forms (more_exprs e es) q h no_types p w n = p
origins_have_forms (more_exprs e es) q h (more_types u us) p w n = (origin_forms e q h u p.0 w n, origins_have_forms es q h us p.1 w n)

-- what isn't so is otherwise
pub not_so : (b : Bool) → not b ≡ true → b ≡ false
not_so true e = let no : ⊥ = cc in absurd no
not_so false e = refl

-- what a name stands for behind another
pub look_past : (s z : ℕ) (u : TypeTree) (g : Types) (r : Option TypeTree) → s ≢ z → look_for s g ≡ r → look_for s ((z, u) ∷ g) ≡ r
look_past s z u g r ne e = rw (ne_eqb s z ne) e

-- where a name's type is so, it stays so behind one more
pub types_bind : (t : TypeTree) (s z : ℕ) (o : Origin) (u : TypeTree) (q : Named Origin) (h k : Types) → look_for s k ≡ option_map (handed_type t (origin_of_name s q)) (look_for s h) → look_for s ((z, handed_type t o u) ∷ k) ≡ option_map (handed_type t (origin_of_name s ((z, o) ∷ q))) (look_for s ((z, u) ∷ h))
types_bind t s z o u q h k = by (s == z) (look_for s q) (look_for s h) (look_for s k)
  where
    by : (b : Bool) (p : Option Origin) (m l : Option TypeTree) → l ≡ option_map (handed_type t (known_origin p)) m → (if b then Some (handed_type t o u) else l) ≡ option_map (handed_type t (known_origin (if b then Some o else p))) (if b then Some u else m)
    by true p m l e = refl
    by false p m l e = e

-- what stands around the binders of a loop's body is the same within
pub body_agree : (e : ExprTree) (b m y : Binder) (u r : TypeTree) (g h : Types) → AgreeOn (λ s. IsFree e s × (s ≢ y.sym.0) × (s ≢ m.sym.0) × (s ≢ b.sym.0)) g h → AgreeOn (IsFree e) (body_types b m y u r g) (body_types b m y u r h)
body_agree e b m y u r g h a =
    agree_bind (λ s. IsFree e s × (s ≢ y.sym.0)) (IsFree e) y.sym.0 r _ _ (λ s k ne. (k, ne))
    (agree_bind (λ s. IsFree e s × (s ≢ y.sym.0) × (s ≢ m.sym.0)) (λ s. IsFree e s × (s ≢ y.sym.0)) m.sym.0 place_type _ _ (λ s k ne. (k.0, k.1, ne))
    (agree_bind _ (λ s. IsFree e s × (s ≢ y.sym.0) × (s ≢ m.sym.0)) b.sym.0 u g h (λ s k ne. (k.0, k.1, k.2, ne)) a))

-- what is seen of a name from within a lambda holds nothing
seen_unheld : (q : Named Origin) (s : ℕ) → IsSeen (origin_of_name s (outside q)) → holds (origin_of_name s q) ≡ false
seen_unheld q s h = let o = origin_of_name s q in none_held o (none_within o (subst IsSeen (origin_outside s q) h))

-- so from the body of a loop
pub loop_unheld : (g : ExprTree) (b m y : Binder) (o : Origin) (q : Named Origin) (s : ℕ) → Keeps g (in_body b m y o q) → IsFree g s × (s ≢ y.sym.0) × (s ≢ m.sym.0) × (s ≢ b.sym.0) → holds (origin_of_name s q) ≡ false
loop_unheld g b m y o q s k f =
    let p = own_paths o in
    let same : origin_of_name s (in_body b m y o q) ≡ origin_of_name s (outside q) =
    look_behind s y.sym.0 value ((m.sym.0, value) ∷ (b.sym.0, p) ∷ outside q) f.1
    ∙ look_behind s m.sym.0 value ((b.sym.0, p) ∷ outside q) f.2
    ∙ look_behind s b.sym.0 p (outside q) f.3 in
    seen_unheld q s (subst IsSeen same (kept_seen g (in_body b m y o q) s k f.0))

-- and of an `iterate`
pub turn_unheld : (g : ExprTree) (b : Binder) (q : Named Origin) (s : ℕ) → Keeps g (in_turn b q) → IsFree g s × (s ≢ b.sym.0) → holds (origin_of_name s q) ≡ false
turn_unheld g b q s k f =
    seen_unheld q s (subst IsSeen (look_behind s b.sym.0 value (outside q) f.1) (kept_seen g (in_turn b q) s k f.0))

-- the other loop's builder and its rows' items have these types; the row number of the loop that makes the list is i; the other loop
-- binds its builder, row number and row so, has this body, and stands among such names
module _ (t item : TypeTree) (i : ℕ) (c n x : Binder) (f : ExprTree) (outer : Types) where
  -- what is known of the other loop
  pub record Typed : Type 0 where
    pub builder : IsBuilder t
    pub builder_note : NoteFits c.note t
    pub number_note : NoteFits n.note place_type
    pub row_note : NoteFits x.note item
    pub body : HasType f (body_types c n x t item outer) t
    pub apart : i ≢ c.sym.0

  -- names other than those that the other loop binds
  abbrev pub Else : ℕ → Type 0
  Else s = (s ≢ c.sym.0) × (s ≢ n.sym.0) × (s ≢ x.sym.0)

  -- all free names are such
  abbrev pub IsElse : ExprTree → Type 0
  IsElse e = (s : ℕ) → IsFree e s → Else s

  -- so it is where none of these three is free
  pub else_of : (e : ExprTree) → (IsFree e c.sym.0 → ⊥) → (IsFree e n.sym.0 → ⊥) → (IsFree e x.sym.0 → ⊥) → IsElse e
  else_of e nc nn nx s f = ((λ j. nc (subst (IsFree e) j f)), (λ j. nn (subst (IsFree e) j f)), (λ j. nx (subst (IsFree e) j f)))

  -- a binder that gets in nobody's way
  abbrev pub Aside : ℕ → Type 0
  Aside z = IsAside c.sym.0 n.sym.0 x.sym.0 i f z

  -- the names that the other loop's body has from around it
  abbrev pub Behind : ℕ → Type 0
  Behind s = IsBehind f c.sym.0 n.sym.0 x.sym.0 s

  -- names have the types that they had, with the other builder in the place of the list's
  pub record TypesRelate (q : Named Origin) (h k : Types) : Type 0 where
    pub types : (s : ℕ) → Else s → look_for s k ≡ option_map (handed_type t (origin_of_name s q)) (look_for s h)
    pub behind : AgreeOn Behind outer k
    pub number : look_for i k ≡ Some place_type
    pub held : NamesHaveHeld item q h
    pub formed : AreFormed h
    pub forms : NamesHaveForms q h

  -- under a `let`
  pub relate_bind : (z : ℕ) (o : Origin) (u : TypeTree) (q : Named Origin) (h k : Types) → Aside z → IsWellFormed u → HasForm o u → HasHeld item o u → TypesRelate q h k → TypesRelate ((z, o) ∷ q) ((z, u) ∷ h) ((z, handed_type t o u) ∷ k)
  relate_bind z o u q h k a w m d r = record {
    types = λ s e. types_bind t s z o u q h k (r.types s e);
    behind = agree_after Behind outer k ((z, handed_type t o u) ∷ k) r.behind (agree_over Behind z (handed_type t o u) k (λ b. a.4 b.0));
    number = look_past i z (handed_type t o u) k (Some place_type) (λ e. a.3 (sym e)) r.number;
    held = held_bind item q h z o u d r.held;
    formed = formed_bind h z u w r.formed;
    forms = forms_bind q h z o u m r.forms;
  }

  -- by its value
  pub relate_let : (z : Binder) (v : ExprTree) (q : Named Origin) (h k : Types) (u : TypeTree) → Aside z.sym.0 → TypesRelate q h k → HasType v h u → TypesRelate ((z.sym.0, origin v q) ∷ q) ((z.sym.0, u) ∷ h) ((z.sym.0, handed_type t (origin v q) u) ∷ k)
  relate_let z v q h k u a r p =
      relate_bind z.sym.0 (origin v q) u q h k a (type_formed v h u p r.formed) (origin_forms v q h u p r.formed r.forms) (type_held item v q h u p r.formed r.forms r.held) r

  -- with one more name, which the other loop binds
  relate_over : (z : ℕ) (u : TypeTree) (q : Named Origin) (h k : Types) → ((s : ℕ) → Else s → s ≢ z) → (Behind z → ⊥) → look_for i ((z, u) ∷ k) ≡ Some place_type → TypesRelate q h k → TypesRelate q h ((z, u) ∷ k)
  relate_over z u q h k ne nb j r = record {
    types = λ s e. look_past s z u k (option_map (handed_type t (origin_of_name s q)) (look_for s h)) (ne s e) (r.types s e);
    behind = agree_after Behind outer k ((z, u) ∷ k) r.behind (agree_over Behind z u k nb);
    number = j;
    held = r.held;
    formed = r.formed;
    forms = r.forms;
  }

  -- the other loop's builder stands there
  pub with_builder : Typed → (q : Named Origin) (h k : Types) → TypesRelate q h k → TypesRelate q h ((c.sym.0, t) ∷ k)
  with_builder known q h k r = relate_over c.sym.0 t q h k (λ s e. e.0) (λ b. b.3 refl) (look_past i c.sym.0 t k (Some place_type) known.apart r.number) r

  -- and its row number
  pub with_number : (q : Named Origin) (h k : Types) → TypesRelate q h k → TypesRelate q h ((n.sym.0, place_type) ∷ k)
  with_number q h k r = relate_over n.sym.0 place_type q h k (λ s e. e.1) (λ b. b.2 refl) (by (cases_eq i n.sym.0)) r
    where
      by : (i ≡ n.sym.0) ⊎ (i ≢ n.sym.0) → look_for i ((n.sym.0, place_type) ∷ k) ≡ Some place_type
      by (inl e) = rw (eq-eqb i n.sym.0 e) refl
      by (inr ne) = look_past i n.sym.0 place_type k (Some place_type) ne r.number

  -- under a binder that is aside free names are such too
  pub else_under : (z : ℕ) (g : ExprTree) → Aside z → ((s : ℕ) → IsFree g s × (s ≢ z) → Else s) → IsElse g
  else_under z g a other s y = by (cases_eq s z)
    where
      by : (s ≡ z) ⊎ (s ≢ z) → Else s
      by (inl e) = ((λ j. a.0 (sym e ∙ j)), (λ j. a.1 (sym e ∙ j)), (λ j. a.2 (sym e ∙ j)))
      by (inr ne) = other s (y, ne)

  -- a name that holds nothing has one type
  pub same_type : (q : Named Origin) (h k : Types) (s : ℕ) → TypesRelate q h k → Else s → holds (origin_of_name s q) ≡ false → look_for s h ≡ look_for s k
  same_type q h k s r e none =
      let o = origin_of_name s q in sym (r.types s e ∙ option_map_same (handed_type t o) (look_for s h) (λ u. unheld_type t o u none))

  -- the free names of a loop's body have the same types
  pub loop_agree : (g : ExprTree) (b m y : Binder) (o : Origin) (u r : TypeTree) (q : Named Origin) (h k : Types) → TypesRelate q h k → ((s : ℕ) → IsFree g s × (s ≢ y.sym.0) × (s ≢ m.sym.0) × (s ≢ b.sym.0) → Else s) → Keeps g (in_body b m y o q) → AgreeOn (IsFree g) (body_types b m y u r h) (body_types b m y u r k)
  loop_agree g b m y o u r q h k w other keeps =
      body_agree g b m y u r h k (record { agree = λ s j. same_type q h k s w (other s j) (loop_unheld g b m y o q s keeps j) })

  -- and those of the body of an `iterate`
  pub turn_agree : (g : ExprTree) (b : Binder) (u : TypeTree) (q : Named Origin) (h k : Types) → TypesRelate q h k → ((s : ℕ) → IsFree g s × (s ≢ b.sym.0) → Else s) → Keeps g (in_turn b q) → AgreeOn (IsFree g) ((b.sym.0, u) ∷ h) ((b.sym.0, u) ∷ k)
  turn_agree g b u q h k w other keeps =
      agree_bind _ (IsFree g) b.sym.0 u h k (λ s j ne. (j, ne)) (record { agree = λ s j. same_type q h k s w (other s j) (turn_unheld g b q s keeps j) })

  -- ---- what an expression becomes

  -- it
  abbrev pub now : Named Origin → ExprTree → ExprTree
  now q e = handed t i c n x f q e

  -- a value keeps its type
  pub value_typed : (e : ExprTree) (q : Named Origin) (h k : Types) (u : TypeTree) → IsBuilderFree u → TypesRelate q h k → HasType e h u → HasType (now q e) k (handed_type t (origin e q) u) → HasType (now q e) k u
  value_typed e q h k u free r p w =
      subst (HasType (now q e) k) (free_kept t (origin e q) u (type_formed e h u p r.formed) free (origin_forms e q h u p r.formed r.forms)) w

  -- a node without parts
  leaf_typed : (a : At) (l : Leaf) (q : Named Origin) (h k : Types) (u : TypeTree) → IsElse (leaf a l) → TypesRelate q h k → LeafHas l h u → LeafHas l k (handed_type t (leaf_origin l q) u)
  leaf_typed a (int m y) q h k u e r p = p
  leaf_typed a (truth b) q h k u e r p = p
  leaf_typed a (chars bs) q h k u e r p = p
  leaf_typed a (name s) q h k u e r p = r.types s (e s refl) ∙ ap (option_map (handed_type t (origin_of_name s q))) p
  leaf_typed a (fresh b) q h k u e r p = p

  -- what is known of the parts of what a merge into the list becomes
  pub record Merged (k : Types) (e v : ExprTree) : Type 0 where
    pub builder : HasType e k t
    pub number : look_for i ((c.sym.0, t) ∷ k) ≡ Some place_type
    pub row : HasType v ((n.sym.0, place_type) ∷ (c.sym.0, t) ∷ k) item
    pub agrees : AgreeOn (IsFree f) (body_types c n x t item outer) (body_types c n x t item k)

  -- a merge into the list is of the list's item
  item_merged : (e v : ExprTree) (q : Named Origin) (h : Types) (u w s : TypeTree) → is_held (origin e q) ≡ true → AreFormed h → NamesHaveForms q h → NamesHaveHeld item q h → HasType e h u → TwoHas merge u w s → w ≡ item
  item_merged e v q h u w s held formed forms names p y =
      let list_type : u ≡ build (list item) = held_is item (origin e q) u held (type_held item e q h u p formed forms names) in
      let same : build y.0 ≡ build (list item) = sym y.1 ∙ list_type in
      let one : y.0 ≡ list item = cc in
      y.2 ∙ ap takes one

  -- its parts are so
  pub merge_parts : Typed → (e v : ExprTree) (q : Named Origin) (h k : Types) (u w s : TypeTree) → is_held (origin e q) ≡ true → TypesRelate q h k → HasType e h u → HasType v h w → TwoHas merge u w s → HasType (now q e) k (handed_type t (origin e q) u)
      → ((j : Types) → TypesRelate q h j → HasType (now q v) j (handed_type t (origin v q) w)) → Merged k (now q e) (now q v)
  merge_parts known e v q h k u w s held r p z y made rest =
      let inner = with_builder known q h k r in
      let there = with_number q h ((c.sym.0, t) ∷ k) inner in
      let formed : IsWellFormed (build y.0) = subst IsWellFormed y.1 (type_formed e h u p r.formed) in
      let row_types : Types = (n.sym.0, place_type) ∷ (c.sym.0, t) ∷ k in
      record {
        builder = subst (HasType (now q e) k) (held_type t (origin e q) u held) made;
        number = inner.number;
        row =
            subst (HasType (now q v) row_types) (item_merged e v q h u w s held r.formed r.forms r.held p y)
            (value_typed v q h row_types w (subst IsBuilderFree (sym y.2) (takes_free y.0 formed)) there z (rest row_types there));
        agrees = body_agree f c n x t item outer k r.behind;
      }

  -- what it becomes has the other builder's type
  pub merged_typed : Typed → (a : At) (o : Two) (e v : ExprTree) (y : Origin) (k : Types) → Merged k e v → HasType (handed_two true t i c n x f y a o e v) k t
  merged_typed known a o e v y k m =
      (t, m.builder, known.builder_note, (place_type, m.number, known.number_note, (item, m.row, known.row_note, type_free f _ _ t m.agrees known.body)))

  -- another node of two parts
  pub plain_typed : (a : At) (o : Two) (e v : ExprTree) (q : Named Origin) (h k : Types) (u w s : TypeTree) → (is_merge o && is_held (origin e q)) ≡ false → TypesRelate q h k → HasType e h u → HasType v h w → TwoHas o u w s → HasType (now q e) k (handed_type t (origin e q) u) → HasType (now q v) k (handed_type t (origin v q) w)
      → HasType (two a o (now q e) (now q v)) k (handed_type t (two_origin o (origin e q)) s)
  plain_typed a o e v q h k u w s none r p z y first second = (
    handed_type t (origin e q) u,
    handed_type t (origin v q) w,
    first,
    second,
    two_handed t o (origin e q) (origin v q) u w s y (type_formed e h u p r.formed) (type_formed v h w z r.formed) (origin_forms e q h u p r.formed r.forms) (origin_forms v q h w z r.formed r.forms) none,
  )

  -- a node of two parts, the merge into the list among them
  two_typed : Typed → (a : At) (o : Two) (e v : ExprTree) (q : Named Origin) (h k : Types) (u w s : TypeTree) → TypesRelate q h k → HasType e h u → HasType v h w → TwoHas o u w s → HasType (now q e) k (handed_type t (origin e q) u)
      → ((j : Types) → TypesRelate q h j → HasType (now q v) j (handed_type t (origin v q) w)) → HasType (now q (two a o e v)) k (handed_type t (two_origin o (origin e q)) s)
  two_typed known a (binary op) e v q h k u w s r p z y first rest = plain_typed a (binary op) e v q h k u w s refl r p z y first (rest k r)
  two_typed known a and e v q h k u w s r p z y first rest = plain_typed a and e v q h k u w s refl r p z y first (rest k r)
  two_typed known a or e v q h k u w s r p z y first rest = plain_typed a or e v q h k u w s refl r p z y first (rest k r)
  two_typed known a look_up e v q h k u w s r p z y first rest = plain_typed a look_up e v q h k u w s refl r p z y first (rest k r)
  two_typed known a key_exists e v q h k u w s r p z y first rest = plain_typed a key_exists e v q h k u w s refl r p z y first (rest k r)
  two_typed known a merge e v q h k u w s r p z y first rest = by (is_held (origin e q)) refl
    where
      by : (b : Bool) → is_held (origin e q) ≡ b → HasType (handed_two b t i c n x f (origin e q) a merge (now q e) (now q v)) k (handed_type t (origin e q) s)
      by true held =
          subst (HasType (handed_two true t i c n x f (origin e q) a merge (now q e) (now q v)) k) (sym (held_type t (origin e q) s held))
          (merged_typed known a merge (now q e) (now q v) (origin e q) k (merge_parts known e v q h k u w s held r p z y first rest))
      by false none = plain_typed a merge e v q h k u w s none r p z y first (rest k r)

  mutual
    -- each expression has the type that it had, with the other builder in the place of the list's
    pub handed_typed : Typed → (e : ExprTree) (q : Named Origin) (h k : Types) (u : TypeTree) → Binds Aside e → IsElse e → starts_none q e ≡ true → Keeps e q → TypesRelate q h k → HasType e h u → HasType (now q e) k (handed_type t (origin e q) u)
    handed_typed known (leaf a l) q h k u b e s m r p = leaf_typed a l q h k u e r p
    handed_typed known (one a o d) q h k u b e s m r p = (
      handed_type t (origin d q) p.0,
      handed_typed known d q h k p.0 b e s m.0 r p.1,
      one_handed t o (origin d q) p.0 u p.2 (type_formed d h p.0 p.1 r.formed) (origin_forms d q h p.0 p.1 r.formed r.forms) m.1,
    )
    handed_typed known (two a o d v) q h k u b e s m r p =
        let z = and_true (starts_none q d) (starts_none q v) s in
        two_typed known a o d v q h k p.0 p.1 u r p.2 p.3 p.4
        (handed_typed known d q h k p.0 b.0 (λ y j. e y (inl j)) z.0 m.0 r p.2)
        (λ l w. handed_typed known v q h l p.1 b.1 (λ y j. e y (inr j)) z.1 m.1 w p.3)
    handed_typed known (three a o d v g) q h k u b e s m r p =
        let z = and_true (starts_none q d) (starts_none q v && starts_none q g) s in
        let w = and_true (starts_none q v) (starts_none q g) z.1 in (
          handed_type t (origin d q) p.0,
          handed_type t (origin v q) p.1,
          handed_type t (origin g q) p.2,
          handed_typed known d q h k p.0 b.0 (λ y j. e y (inl j)) z.0 m.0 r p.3,
          handed_typed known v q h k p.1 b.1 (λ y j. e y (inr (inl j))) w.0 m.1 r p.4,
          handed_typed known g q h k p.2 b.2 (λ y j. e y (inr (inr j))) w.1 m.2 r p.5,
          three_handed t o (origin d q) (origin v q) (origin g q) p.0 p.1 p.2 u p.6 (type_formed d h p.0 p.3 r.formed) (type_formed v h p.1 p.4 r.formed) (type_formed g h p.2 p.5 r.formed)
              (origin_forms d q h p.0 p.3 r.formed r.forms) (origin_forms v q h p.1 p.4 r.formed r.forms) (origin_forms g q h p.2 p.5 r.formed r.forms) (same_arms o v g q m.3),
        )
    handed_typed known (many a o es) q h k u b e s m r p = (
      handed_types t (origins es q) p.0,
      all_handed_typed known es q h k p.0 b e s m r p.1,
      many_handed t o (origins es q) p.0 u p.2 (types_formed es h p.0 p.1 r.formed) (origins_have_forms es q h p.0 p.1 r.formed r.forms) known.builder,
    )
    handed_typed known (let_in a z v g) q h k u b e s m r p =
        let y = and_true (starts_none q v) (starts_none ((z.sym.0, origin v q) ∷ q) g) s in (
          handed_type t (origin v q) p.0,
          handed_typed known v q h k p.0 b.1 (λ l j. e l (inl j)) y.0 m.0 r p.1,
          tt,
          handed_typed known g ((z.sym.0, origin v q) ∷ q) ((z.sym.0, p.0) ∷ h) ((z.sym.0, handed_type t (origin v q) p.0) ∷ k) u b.2 (else_under z.sym.0 g b.0 (λ l j. e l (inr j))) y.1 m.1 (relate_let z v q h k p.0 b.0 r p.1) p.3,
        )
    handed_typed known (loop a ls d b m y g) q h k u c e s w r p =
        let z = and_true (not (holds (origin d q))) (legs_start_none q ls && starts_none q d) s in
        let j = and_true (legs_start_none q ls) (starts_none q d) z.1 in
        let kept : handed_type t (origin d q) u ≡ u = unheld_type t (origin d q) u (not_so (holds (origin d q)) z.0) in
        subst (HasType (now q (loop a ls d b m y g)) k) (sym kept) (
          p.0,
          p.1,
          legs_handed_typed known ls q h k p.0 c.3 (λ l f. e l (inl f)) j.0 w.0 r p.2,
          p.3,
          subst (HasType (now q d) k) kept (handed_typed known d q h k u c.4 (λ l f. e l (inr (inl f))) j.1 w.1 r p.4),
          p.5,
          p.6,
          p.7,
          p.8,
          type_free g _ _ u (loop_agree g b m y (origin d q) u p.1 q h k r (λ l f. e l (inr (inr f))) w.2) p.9,
        )
    handed_typed known (iterate a d b g) q h k u c e s m r p = (
      value_typed d q h k u p.1 r p.0 (handed_typed known d q h k u c.1 (λ l f. e l (inl f)) s m.0 r p.0),
      p.1,
      p.2,
      type_free g _ _ _ (turn_agree g b u q h k r (λ l f. e l (inr f)) m.1) p.3,
    )

    -- expressions in order
    pub all_handed_typed : Typed → (es : ExprTrees) (q : Named Origin) (h k : Types) (us : TypeTrees) → AllBind Aside es → ((s : ℕ) → AreFree es s → Else s) → all_start_none q es ≡ true → AllKeep es q → TypesRelate q h k → HaveTypes es h us
        → HaveTypes (all_handed t i c n x f q es) k (handed_types t (origins es q) us)
    all_handed_typed known no_exprs q h k no_types b e s m r p = tt
    all_handed_typed known no_exprs q h k (more_types u us) b e s m r p = p
    all_handed_typed known (more_exprs d es) q h k no_types b e s m r p = p
    all_handed_typed known (more_exprs d es) q h k (more_types u us) b e s m r p =
        let z = and_true (starts_none q d) (all_start_none q es) s in
        (handed_typed known d q h k u b.0 (λ y j. e y (inl j)) z.0 m.0 r p.0, all_handed_typed known es q h k us b.1 (λ y j. e y (inr j)) z.1 m.1 r p.1)

    -- the elements of a leg are what they were
    pub leg_handed_typed : Typed → (l : LegTree) (q : Named Origin) (h k : Types) (u : TypeTree) → LegBinds Aside l → ((s : ℕ) → LegIsFree l s → Else s) → leg_starts_none q l ≡ true → LegKeeps l q → TypesRelate q h k → LegHas l h u → LegHas (leg_handed t i c n x f q l) k u
    leg_handed_typed known (whole d) q h k u b e s m r p =
        value_typed d q h k (vec u) (type_formed d h (vec u) p r.formed).1 r p (handed_typed known d q h k (vec u) b e s m r p)
    leg_handed_typed known (strided d v g w) q h k u b e s m r p =
        let z = and_true (starts_none q d) (starts_none q v && (starts_none q g && starts_none q w)) s in
        let y = and_true (starts_none q v) (starts_none q g && starts_none q w) z.1 in
        let l = and_true (starts_none q g) (starts_none q w) y.1 in (
          value_typed d q h k (vec u) (type_formed d h (vec u) p.0 r.formed).1 r p.0 (handed_typed known d q h k (vec u) b.0 (λ y j. e y (inl j)) z.0 m.0 r p.0),
          value_typed v q h k place_type tt r p.1 (handed_typed known v q h k place_type b.1 (λ y j. e y (inr (inl j))) y.0 m.1 r p.1),
          value_typed g q h k place_type tt r p.2 (handed_typed known g q h k place_type b.2 (λ y j. e y (inr (inr (inl j)))) l.0 m.2 r p.2),
          value_typed w q h k place_type tt r p.3 (handed_typed known w q h k place_type b.3 (λ y j. e y (inr (inr (inr j)))) l.1 m.3 r p.3),
        )

    -- the elements of legs are what they were
    pub legs_handed_typed : Typed → (ls : LegTrees) (q : Named Origin) (h k : Types) (us : TypeTrees) → LegsBind Aside ls → ((s : ℕ) → LegsAreFree ls s → Else s) → legs_start_none q ls ≡ true → LegsKeep ls q → TypesRelate q h k → LegsHave ls h us → LegsHave (legs_handed t i c n x f q ls) k us
    legs_handed_typed known no_legs q h k no_types b e s m r p = tt
    legs_handed_typed known no_legs q h k (more_types u us) b e s m r p = p
    legs_handed_typed known (more_legs l ls) q h k no_types b e s m r p = p
    legs_handed_typed known (more_legs l ls) q h k (more_types u us) b e s m r p =
        let z = and_true (leg_starts_none q l) (legs_start_none q ls) s in
        (leg_handed_typed known l q h k u b.0 (λ y j. e y (inl j)) z.0 m.0 r p.0, legs_handed_typed known ls q h k us b.1 (λ y j. e y (inr j)) z.1 m.1 r p.1)
