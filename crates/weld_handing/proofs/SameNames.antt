-- By the names that a body has of its loop alone all is as by all names that stand around it: it names no builder of outside.
use Rattle.std.proofs.Common.{◌≡◌, ◌≢◌, ◌⊎◌, inl, inr, ℕ, ◌+◌, not as not_of, ◌&&◌, if◌then◌else◌, [], ◌∷◌, Some, refl, ap, sym, subst, ◌∙◌, eq-eqb, ne_eqb}
use Rattle.std.proofs.lemmas.Bool.{cases_eq}
use Rattle.weld_tree.specs.declared.binder.Binder.{Binder}
use Rattle.weld_tree.specs.TypeTree.{TypeTree, TypeTrees, scalar, vec, struct as tuple, dict, build, no_types, more_types}
use Rattle.weld_tree.specs.Types.{IsBuilder, AreBuilders, HasTypes, IsWellFormed, AreWellFormed}
use Rattle.weld_tree.specs.ExprTree.{At, ExprTree, leaf, one, two, three, many, let_in, loop, iterate, ExprTrees, no_exprs, more_exprs, LegTree, whole, strided, LegTrees, no_legs, more_legs, Leaf, int, truth, chars, name, fresh}
use Rattle.weld_meaning.specs.Environment.{Named, look_for}
use Rattle.weld_meaning.specs.Typing.{Types, AreFormed, place_type, HasType, HaveTypes, LegHas, LegsHave, body_types}
use Rattle.weld_meaning.specs.Origin.{Origin, value, made, own, outer, named, struct, Origins, no_origins, more_origins, origin_of_name, leaf_origin, one_origin, two_origin, three_origin, many_origin, origin, origins, from_within, all_from_within, outside, in_body}
use Rattle.weld_meaning.specs.Linear.{IsSeen, AreSeen, Keeps, AllKeep, LegKeeps, LegsKeep}
use Rattle.weld_meaning.specs.Forms.{HasForm, HaveForms, NamesHaveForms}
use Rattle.weld_meaning.proofs.Before.{origin_outside}
use Rattle.weld_meaning.proofs.OriginTypes.{not_both}
use Rattle.weld_vertical.specs.Sinking.{is_merge}
use Rattle.weld_handing.specs.Handing.{is_held, holds, handed_at, unnoted, handed_two, handed, all_handed, leg_handed, legs_handed, starts_none, all_start_none, leg_starts_none, legs_start_none, own_names}
use Rattle.weld_handing.specs.Merging.{list_merges, all_list_merges, leg_list_merges, legs_list_merges, always_merges}

-- typed names that are seen by the second come from there by the first too
pub record SeenSame (g : Types) (p q : Named Origin) : Type 0 where
  pub same : (s : ℕ) (u : TypeTree) → look_for s g ≡ Some u → IsSeen (origin_of_name s q) → origin_of_name s p ≡ origin_of_name s q

pub seen_bind : (z : ℕ) (y : TypeTree) (o u : Origin) (g : Types) (p q : Named Origin) → o ≡ u → SeenSame g p q → SeenSame ((z, y) ∷ g) ((z, o) ∷ p) ((z, u) ∷ q)
seen_bind z y o u g p q e r = record { same = λ s v k h. by s v k h (cases_eq s z) }
  where
    by : (s : ℕ) (v : TypeTree) → look_for s ((z, y) ∷ g) ≡ Some v → IsSeen (origin_of_name s ((z, u) ∷ q)) → (s ≡ z) ⊎ (s ≢ z) → origin_of_name s ((z, o) ∷ p) ≡ origin_of_name s ((z, u) ∷ q)
    by s v k h (inl w) = rw (eq-eqb s z w) e
    by s v k h (inr ne) =
        let there : origin_of_name s ((z, u) ∷ q) ≡ origin_of_name s q = rw (ne_eqb s z ne) refl in
        let here : origin_of_name s ((z, o) ∷ p) ≡ origin_of_name s p = rw (ne_eqb s z ne) refl in
        let typed : look_for s ((z, y) ∷ g) ≡ look_for s g = rw (ne_eqb s z ne) refl in
        here ∙ r.same s v (sym typed ∙ k) (subst IsSeen there h) ∙ sym there

module _ (t : TypeTree) (i : ℕ) (c n x : Binder) (f : ExprTree) where
  abbrev turned : Named Origin → ExprTree → ExprTree
  turned q e = handed t i c n x f q e

  pub record Same (e : ExprTree) (p q : Named Origin) : Type 0 where
    pub from : origin e p ≡ origin e q
    pub turns : turned p e ≡ turned q e
    pub starts : starts_none p e ≡ starts_none q e
    pub merges : list_merges p e ≡ list_merges q e
    pub always : always_merges p e ≡ always_merges q e

  record AllSame (es : ExprTrees) (p q : Named Origin) : Type 0 where
    pub from : origins es p ≡ origins es q
    pub turns : all_handed t i c n x f p es ≡ all_handed t i c n x f q es
    pub starts : all_start_none p es ≡ all_start_none q es
    pub merges : all_list_merges p es ≡ all_list_merges q es

  record LegSame (l : LegTree) (p q : Named Origin) : Type 0 where
    pub turns : leg_handed t i c n x f p l ≡ leg_handed t i c n x f q l
    pub starts : leg_starts_none p l ≡ leg_starts_none q l
    pub merges : leg_list_merges p l ≡ leg_list_merges q l

  record LegsSame (ls : LegTrees) (p q : Named Origin) : Type 0 where
    pub turns : legs_handed t i c n x f p ls ≡ legs_handed t i c n x f q ls
    pub starts : legs_start_none p ls ≡ legs_start_none q ls
    pub merges : legs_list_merges p ls ≡ legs_list_merges q ls

  leaf_same : (l : Leaf) (a : At) (g : Types) (u : TypeTree) (p q : Named Origin) → SeenSame g p q → Keeps (leaf a l) q → HasType (leaf a l) g u → leaf_origin l p ≡ leaf_origin l q
  leaf_same (int m y) a g u p q r h k = refl
  leaf_same (truth b) a g u p q r h k = refl
  leaf_same (chars bs) a g u p q r h k = refl
  leaf_same (name s) a g u p q r h k = r.same s u k h
  leaf_same (fresh b) a g u p q r h k = refl

  mutual
    -- all is as by the names that a body has of its loop
    pub same_names : (e : ExprTree) (env : Types) (u : TypeTree) (p q : Named Origin) → SeenSame env p q → Keeps e q → HasType e env u → Same e p q
    same_names (leaf a l) env ty p q r h k =
        let w = leaf_same l a env ty p q r h k in
        record { from = w; turns = λ j. leaf (handed_at t (w j) a) l; starts = refl; merges = refl; always = refl }
    same_names (one a o e) env ty p q r h k =
        let w = same_names e env k.0 p q r h.0 k.1 in
        record {
          from = ap (one_origin o) w.from;
          turns = λ j. one (handed_at t (one_origin o (w.from j)) a) o (w.turns j);
          starts = w.starts;
          merges = w.merges;
          always = refl;
        }
    same_names (two a o e v) env ty p q r h k =
        let w = same_names e env k.0 p q r h.0 k.2 in
        let y = same_names v env k.1 p q r h.1 k.3 in
        record {
          from = ap (two_origin o) w.from;
          turns = λ j. handed_two (is_merge o && is_held (w.from j)) t i c n x f (w.from j) a o (w.turns j) (y.turns j);
          starts = λ j. w.starts j && y.starts j;
          merges = λ j. (if is_merge o && is_held (w.from j) then 1 else 0) + (w.merges j + y.merges j);
          always = λ j. is_merge o && is_held (w.from j);
        }
    same_names (three a o d e g) env ty p q r h k =
        let w = same_names d env k.0 p q r h.0 k.3 in
        let y = same_names e env k.1 p q r h.1 k.4 in
        let z = same_names g env k.2 p q r h.2 k.5 in
        record {
          from = ap (three_origin o) y.from;
          turns = λ j. three (handed_at t (three_origin o (y.from j)) a) o (w.turns j) (y.turns j) (z.turns j);
          starts = λ j. w.starts j && (y.starts j && z.starts j);
          merges = λ j. w.merges j + (y.merges j + z.merges j);
          always = refl;
        }
    same_names (many a o es) env ty p q r h k =
        let w = all_same_names es env k.0 p q r h k.1 in
        record {
          from = ap (many_origin o) w.from;
          turns = λ j. many (handed_at t (many_origin o (w.from j)) a) o (w.turns j);
          starts = w.starts;
          merges = w.merges;
          always = refl;
        }
    same_names (let_in a z v g) env ty p q r h k =
        let u = k.0 in
        let w = same_names v env u p q r h.0 k.1 in
        let y = same_names g ((z.sym.0, u) ∷ env) ty ((z.sym.0, origin v p) ∷ p) ((z.sym.0, origin v q) ∷ q) (seen_bind z.sym.0 u (origin v p) (origin v q) env p q w.from r) h.1 k.3 in
        record {
          from = y.from;
          turns = λ j. let_in (handed_at t (y.from j) a) (unnoted z) (w.turns j) (y.turns j);
          starts = λ j. w.starts j && y.starts j;
          merges = λ j. w.merges j + y.merges j;
          always = y.always;
        }
    same_names (loop a ls e b m y g) env ty p q r h k =
        let w = legs_same_names ls env k.0 p q r h.0 k.2 in
        let z = same_names e env ty p q r h.1 k.4 in
        record {
          from = z.from;
          turns = λ j. loop a (w.turns j) (z.turns j) b m y g;
          starts = λ j. not_of (holds (z.from j)) && (w.starts j && z.starts j);
          merges = λ j. w.merges j + z.merges j;
          always = refl;
        }
    same_names (iterate a e b g) env ty p q r h k =
        let w = same_names e env ty p q r h.0 k.0 in
        record { from = refl; turns = λ j. iterate a (w.turns j) b g; starts = w.starts; merges = w.merges; always = refl }

    all_same_names : (es : ExprTrees) (env : Types) (us : TypeTrees) (p q : Named Origin) → SeenSame env p q → AllKeep es q → HaveTypes es env us → AllSame es p q
    all_same_names no_exprs env tys p q r h k = record { from = refl; turns = refl; starts = refl; merges = refl }
    all_same_names (more_exprs e es) env no_types p q r h k = absurd k
    all_same_names (more_exprs e es) env (more_types ty tys) p q r h k =
        let w = same_names e env ty p q r h.0 k.0 in
        let y = all_same_names es env tys p q r h.1 k.1 in
        record {
          from = λ j. more_origins (w.from j) (y.from j);
          turns = λ j. more_exprs (w.turns j) (y.turns j);
          starts = λ j. w.starts j && y.starts j;
          merges = λ j. w.merges j + y.merges j;
        }

    leg_same_names : (l : LegTree) (env : Types) (u : TypeTree) (p q : Named Origin) → SeenSame env p q → LegKeeps l q → LegHas l env u → LegSame l p q
    leg_same_names (whole e) env ty p q r h k = let w = same_names e env (vec ty) p q r h k in record { turns = λ j. whole (w.turns j); starts = w.starts; merges = w.merges }
    leg_same_names (strided e g y d) env ty p q r h k =
        let w = same_names e env (vec ty) p q r h.0 k.0 in
        let v = same_names g env place_type p q r h.1 k.1 in
        let z = same_names y env place_type p q r h.2 k.2 in
        let u = same_names d env place_type p q r h.3 k.3 in
        record {
          turns = λ j. strided (w.turns j) (v.turns j) (z.turns j) (u.turns j);
          starts = λ j. w.starts j && (v.starts j && (z.starts j && u.starts j));
          merges = λ j. w.merges j + (v.merges j + (z.merges j + u.merges j));
        }

    legs_same_names : (ls : LegTrees) (env : Types) (us : TypeTrees) (p q : Named Origin) → SeenSame env p q → LegsKeep ls q → LegsHave ls env us → LegsSame ls p q
    legs_same_names no_legs env tys p q r h k = record { turns = refl; starts = refl; merges = refl }
    legs_same_names (more_legs l ls) env no_types p q r h k = absurd k
    legs_same_names (more_legs l ls) env (more_types ty tys) p q r h k =
        let w = leg_same_names l env ty p q r h.0 k.0 in
        let y = legs_same_names ls env tys p q r h.1 k.1 in
        record {
          turns = λ j. more_legs (w.turns j) (y.turns j);
          starts = λ j. w.starts j && y.starts j;
          merges = λ j. w.merges j + y.merges j;
        }

-- ---- the names around a loop

mutual
  -- a builder of outside isn't seen
  builder_unseen : (o : Origin) (u : TypeTree) → IsWellFormed u → IsBuilder u → HasForm o u → IsSeen (from_within o) → ⊥
  builder_unseen value u w b h s = not_both u w b h
  builder_unseen made u w b h s = s
  builder_unseen (own p) u w b h s = s
  builder_unseen outer u w b h s = s
  builder_unseen (named k p) u w b h s = s
  builder_unseen (struct os) (scalar k) w b h s = h
  builder_unseen (struct os) (vec u) w b h s = h
  builder_unseen (struct os) (dict k v) w b h s = h
  builder_unseen (struct os) (build k) w b h s = h
  builder_unseen (struct os) (tuple us) w b h s = some_unseen os us w.0 w.1 h.0 h.1 s

  some_unseen : (os : Origins) (us : TypeTrees) → HasTypes us → AreWellFormed us → AreBuilders us → HaveForms os us → AreSeen (all_from_within os) → ⊥
  some_unseen os no_types some w b h s = some
  some_unseen no_origins (more_types u us) some w b h s = h
  some_unseen (more_origins o os) (more_types u us) some w b h s = builder_unseen o u w.0 b.0 h.0 s.0

-- what is seen of outside is a value
seen_value : (o : Origin) (u : TypeTree) → IsWellFormed u → HasForm o u → IsSeen (from_within o) → from_within o ≡ value
seen_value value u w h s = refl
seen_value made u w h s = absurd s
seen_value (own p) u w h s = absurd s
seen_value outer u w h s = absurd s
seen_value (named k p) u w h s = absurd s
seen_value (struct os) (scalar k) w h s = absurd h
seen_value (struct os) (vec u) w h s = absurd h
seen_value (struct os) (dict k v) w h s = absurd h
seen_value (struct os) (build b) w h s = absurd h
seen_value (struct os) (tuple us) w h s = absurd (some_unseen os us w.0 w.1 h.0 h.1 s)

-- a typed name that is seen from within is a value
pub outside_value : (types : Types) (around : Named Origin) → AreFormed types → NamesHaveForms around types → (s : ℕ) (u : TypeTree) → look_for s types ≡ Some u → IsSeen (origin_of_name s (outside around)) → origin_of_name s (outside around) ≡ value
outside_value types around formed forms s u e h =
    let from = origin_outside s around in
    from ∙ seen_value (origin_of_name s around) u (formed.formed s u e) (forms.forms s u e) (subst IsSeen from h)

-- so by the loop's own names all is as by those and what stands around it
pub own_names_same : (types : Types) (around : Named Origin) (d i r : Binder) (item row : TypeTree) → AreFormed types → NamesHaveForms around types → SeenSame (body_types d i r item row types) (own_names d i r) (in_body d i r made around)
own_names_same types around d i r item row formed forms =
    seen_bind r.sym.0 row value value _ _ _ refl (seen_bind i.sym.0 place_type value value _ _ _ refl (seen_bind d.sym.0 item (own []) (own []) types [] (outside around) refl
    (record { same = λ s u e h. sym (outside_value types around formed forms s u e h) })))
