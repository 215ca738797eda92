-- With an idle value put for a name a body merges into its own list as often as it did, and starts as few loops with it.
use Rattle.std.proofs.Common.{◌≡◌, ◌≢◌, ℕ, suc, ◌+◌, ◌==◌, Bool, true, false, not, ◌&&◌, if◌then◌else◌, ◌∷◌, Some, refl, ap, sym, subst, ◌∙◌, arith, eq-eqb, inl, inr}
use Rattle.weld_tree.specs.declared.binder.Binder.{Binder}
use Rattle.weld_tree.specs.declared.place.Place.{Place}
use Rattle.weld_tree.specs.TypeTree.{TypeTree, TypeTrees, no_types, more_types}
use Rattle.weld_tree.specs.ExprTree.{At, ExprTree, leaf, one, two, three, many, let_in, loop, iterate, ExprTrees, no_exprs, more_exprs, LegTree, whole, strided, LegTrees, no_legs, more_legs, Leaf, int, truth, chars, name, fresh}
use Rattle.weld_meaning.specs.Environment.{Named, look_for}
use Rattle.weld_meaning.specs.Origin.{Origin, value, known_origin, origin_of_name, origin}
use Rattle.weld_meaning.specs.Names.{IsFree, AreFree, put_in_leaf, put, put_in_all, put_in_leg, put_in_legs, Binds, AllBind, LegBinds, LegsBind, IsClear}
use Rattle.weld_substitution.proofs.Unnamed.{binds_so}
use Rattle.weld_substitution.proofs.Values.{Idle, IsIdle, Still, still_behind, from_still}
use Rattle.weld_vertical.specs.Sinking.{is_merge}
use Rattle.weld_horizontal.specs.Twice.{item_at, items_from}
use Rattle.weld_horizontal.proofs.RowHolds.{IdleAt}
use Rattle.weld_vertical_zip.specs.Zipping.{part_of_row}
use Rattle.weld_vertical_zip.proofs.MadeRows.{part_idle, part_named}
use Rattle.weld_handing.specs.Handing.{is_held, holds, starts_none, all_start_none, leg_starts_none, legs_start_none, own_names}
use Rattle.weld_vertical_zip_held.specs.Rule.{rebinds}
use Rattle.weld_vertical_zip_held.proofs.Fresh.{binds_other}
use Rattle.weld_handing.specs.Merging.{list_merges, all_list_merges, leg_list_merges, legs_list_merges}

-- a value that merges into no list, and starts no loop with one
pub record MergesNone (v : ExprTree) : Type 0 where
  pub merges : (q : Named Origin) → list_merges q v ≡ 0
  pub starts : (q : Named Origin) → starts_none q v ≡ true

module _ (s : ℕ) (v : ExprTree) (idle : IsIdle v) (none : MergesNone v) where
  leaf_merges : (a : At) (l : Leaf) (q : Named Origin) → list_merges q (put_in_leaf s v a l) ≡ 0
  leaf_merges a (int k x) q = refl
  leaf_merges a (truth b) q = refl
  leaf_merges a (chars bs) q = refl
  leaf_merges a (name t) q = by (s == t)
    where
      by : (b : Bool) → list_merges q (if b then v else leaf a (name t)) ≡ 0
      by true = none.merges q
      by false = refl
  leaf_merges a (fresh b) q = refl

  leaf_starts : (a : At) (l : Leaf) (q : Named Origin) → starts_none q (put_in_leaf s v a l) ≡ true
  leaf_starts a (int k x) q = refl
  leaf_starts a (truth b) q = refl
  leaf_starts a (chars bs) q = refl
  leaf_starts a (name t) q = by (s == t)
    where
      by : (b : Bool) → starts_none q (if b then v else leaf a (name t)) ≡ true
      by true = none.starts q
      by false = refl
  leaf_starts a (fresh b) q = refl

  mutual
    pub put_merges : (e : ExprTree) (q h : Named Origin) → Binds (IsClear s v) e → Still s v q h → list_merges q (put s v e) ≡ list_merges h e
    put_merges (leaf a l) q h c r = leaf_merges a l q
    put_merges (one a o e) q h c r = put_merges e q h c r
    put_merges (two a o e f) q h c r =
        let x = put_merges e q h c.0 r in let y = put_merges f q h c.1 r in let z = from_still s v idle e q h c.0 r in
        λ i. (if is_merge o && is_held (z i) then 1 else 0) + (x i + y i)
    put_merges (three a o d e f) q h c r =
        let x = put_merges d q h c.0 r in let y = put_merges e q h c.1 r in let z = put_merges f q h c.2 r in λ i. x i + (y i + z i)
    put_merges (many a o es) q h c r = all_put_merge es q h c r
    put_merges (let_in a b e f) q h c r =
        let x = put_merges e q h c.1 r in
        let y = ap (λ o. list_merges ((b.sym.0, o) ∷ q) (put s v f)) (from_still s v idle e q h c.1 r)
        ∙ put_merges f ((b.sym.0, origin e h) ∷ q) ((b.sym.0, origin e h) ∷ h) c.2 (still_behind s v q h b.sym.0 (origin e h) c.0 r) in
        λ i. x i + y i
    put_merges (loop a ls e b n x f) q h c r = let y = legs_put_merge ls q h c.3 r in let z = put_merges e q h c.4 r in λ i. y i + z i
    put_merges (iterate a e b f) q h c r = put_merges e q h c.1 r

    all_put_merge : (es : ExprTrees) (q h : Named Origin) → AllBind (IsClear s v) es → Still s v q h → all_list_merges q (put_in_all s v es) ≡ all_list_merges h es
    all_put_merge no_exprs q h c r = refl
    all_put_merge (more_exprs e es) q h c r = let x = put_merges e q h c.0 r in let y = all_put_merge es q h c.1 r in λ i. x i + y i

    leg_put_merges : (l : LegTree) (q h : Named Origin) → LegBinds (IsClear s v) l → Still s v q h → leg_list_merges q (put_in_leg s v l) ≡ leg_list_merges h l
    leg_put_merges (whole e) q h c r = put_merges e q h c r
    leg_put_merges (strided e f g j) q h c r =
        let x = put_merges e q h c.0 r in let y = put_merges f q h c.1 r in let z = put_merges g q h c.2 r in let u = put_merges j q h c.3 r in
        λ i. x i + (y i + (z i + u i))

    legs_put_merge : (ls : LegTrees) (q h : Named Origin) → LegsBind (IsClear s v) ls → Still s v q h → legs_list_merges q (put_in_legs s v ls) ≡ legs_list_merges h ls
    legs_put_merge no_legs q h c r = refl
    legs_put_merge (more_legs l ls) q h c r = let x = leg_put_merges l q h c.0 r in let y = legs_put_merge ls q h c.1 r in λ i. x i + y i

  mutual
    pub put_starts : (e : ExprTree) (q h : Named Origin) → Binds (IsClear s v) e → Still s v q h → starts_none q (put s v e) ≡ starts_none h e
    put_starts (leaf a l) q h c r = leaf_starts a l q
    put_starts (one a o e) q h c r = put_starts e q h c r
    put_starts (two a o e f) q h c r = let x = put_starts e q h c.0 r in let y = put_starts f q h c.1 r in λ i. x i && y i
    put_starts (three a o d e f) q h c r =
        let x = put_starts d q h c.0 r in let y = put_starts e q h c.1 r in let z = put_starts f q h c.2 r in λ i. x i && (y i && z i)
    put_starts (many a o es) q h c r = all_put_start es q h c r
    put_starts (let_in a b e f) q h c r =
        let x = put_starts e q h c.1 r in
        let y = ap (λ o. starts_none ((b.sym.0, o) ∷ q) (put s v f)) (from_still s v idle e q h c.1 r)
        ∙ put_starts f ((b.sym.0, origin e h) ∷ q) ((b.sym.0, origin e h) ∷ h) c.2 (still_behind s v q h b.sym.0 (origin e h) c.0 r) in
        λ i. x i && y i
    put_starts (loop a ls e b n x f) q h c r =
        let o = from_still s v idle e q h c.4 r in let y = legs_put_start ls q h c.3 r in let z = put_starts e q h c.4 r in
        λ i. not (holds (o i)) && (y i && z i)
    put_starts (iterate a e b f) q h c r = put_starts e q h c.1 r

    all_put_start : (es : ExprTrees) (q h : Named Origin) → AllBind (IsClear s v) es → Still s v q h → all_start_none q (put_in_all s v es) ≡ all_start_none h es
    all_put_start no_exprs q h c r = refl
    all_put_start (more_exprs e es) q h c r = let x = put_starts e q h c.0 r in let y = all_put_start es q h c.1 r in λ i. x i && y i

    leg_put_starts : (l : LegTree) (q h : Named Origin) → LegBinds (IsClear s v) l → Still s v q h → leg_starts_none q (put_in_leg s v l) ≡ leg_starts_none h l
    leg_put_starts (whole e) q h c r = put_starts e q h c r
    leg_put_starts (strided e f g j) q h c r =
        let x = put_starts e q h c.0 r in let y = put_starts f q h c.1 r in let z = put_starts g q h c.2 r in let u = put_starts j q h c.3 r in
        λ i. x i && (y i && (z i && u i))

    legs_put_start : (ls : LegTrees) (q h : Named Origin) → LegsBind (IsClear s v) ls → Still s v q h → legs_start_none q (put_in_legs s v ls) ≡ legs_start_none h ls
    legs_put_start no_legs q h c r = refl
    legs_put_start (more_legs l ls) q h c r = let x = leg_put_starts l q h c.0 r in let y = legs_put_start ls q h c.1 r in λ i. x i && y i

-- ---- a part of a row is such a value

module _ (place : Place) (x : ℕ) where
  item_merges : (us : TypeTrees) (n : ℕ) (u : TypeTree) (q : Named Origin) → list_merges q (item_at place x us n u) ≡ 0
  item_merges no_types n u q = refl
  item_merges (more_types t no_types) n u q = refl
  item_merges (more_types t (more_types s ts)) n u q = refl

  item_starts : (us : TypeTrees) (n : ℕ) (u : TypeTree) (q : Named Origin) → starts_none q (item_at place x us n u) ≡ true
  item_starts no_types n u q = refl
  item_starts (more_types t no_types) n u q = refl
  item_starts (more_types t (more_types s ts)) n u q = refl

  items_merge : (all : TypeTrees) (n : ℕ) (us : TypeTrees) (q : Named Origin) → all_list_merges q (items_from place x all n us) ≡ 0
  items_merge all n no_types q = refl
  items_merge all n (more_types u us) q = omega (arith, item_merges all n u q, items_merge all (suc n) us q)

  items_start : (all : TypeTrees) (n : ℕ) (us : TypeTrees) (q : Named Origin) → all_start_none q (items_from place x all n us) ≡ true
  items_start all n no_types q = refl
  items_start all n (more_types u us) q = let y = item_starts all n u q in let z = items_start all (suc n) us q in λ i. y i && z i

  pub part_none : (all : TypeTrees) (n : ℕ) (us : TypeTrees) → MergesNone (part_of_row place x all n us)
  part_none all n no_types = record { merges = λ q. refl; starts = λ q. refl }
  part_none all n (more_types t no_types) = record { merges = item_merges all n t; starts = item_starts all n t }
  part_none all n (more_types t (more_types u us)) = record {
    merges = items_merge all n (more_types t (more_types u us));
    starts = items_start all n (more_types t (more_types u us));
  }

  -- and idle
  pub part_still : (all : TypeTrees) (n : ℕ) (us : TypeTrees) → IsIdle (part_of_row place x all n us)
  part_still all n no_types = record { from = λ g i. refl; none = λ g i s q. refl; keeps = λ g i. tt; splits = λ g i. tt }
  part_still all n (more_types u us) = record { from = λ g i. (at g i).from; none = λ g i. (at g i).none; keeps = λ g i. (at g i).keeps; splits = λ g i. (at g i).splits }
    where
      at : (g : Named Origin) → Idle (part_of_row place x all n (more_types u us)) g → IdleAt place x (part_of_row place x all n (more_types u us)) g
      at g i = part_idle place x all n (more_types u us) g (i.idle x (part_named place x all n (more_types u us) tt))

  item_names : (us : TypeTrees) (n : ℕ) (u : TypeTree) (t : ℕ) → IsFree (item_at place x us n u) t → t ≡ x
  item_names no_types n u t h = h
  item_names (more_types v no_types) n u t h = h
  item_names (more_types v (more_types s ts)) n u t h = h

  items_names : (all : TypeTrees) (n : ℕ) (us : TypeTrees) (t : ℕ) → AreFree (items_from place x all n us) t → t ≡ x
  items_names all n no_types t h = absurd h
  items_names all n (more_types u us) t (inl h) = item_names all n u t h
  items_names all n (more_types u us) t (inr h) = items_names all (suc n) us t h

  -- it names the row alone
  pub part_names : (all : TypeTrees) (n : ℕ) (us : TypeTrees) (t : ℕ) → IsFree (part_of_row place x all n us) t → t ≡ x
  part_names all n no_types t h = absurd h
  part_names all n (more_types u no_types) t h = item_names all n u t h
  part_names all n (more_types u (more_types v us)) t h = items_names all n (more_types u (more_types v us)) t h

-- ---- the body of a loop that makes a list, with its row rebuilt

module _ (d i r : Binder) (place : Place) (all : TypeTrees) (n : ℕ) (us : TypeTrees) (g : ExprTree) (fresh : rebinds r.sym.0 g ≡ false) where
  abbrev row : ExprTree
  row = part_of_row place r.sym.0 all n us

  abbrev own : Named Origin
  own = own_names d i r

  own_still : Still r.sym.0 row own own
  own_still = record { binding = record { others = λ s ne. refl; there = there }; idle = record { idle = λ s f. subst (λ u. origin_of_name u own ≡ value) (sym (part_names place r.sym.0 all n us s f)) (ap known_origin there) } }
    where
      there : look_for r.sym.0 own ≡ Some value
      there = rw (eq-eqb r.sym.0 r.sym.0 refl) refl

  own_clear : Binds (IsClear r.sym.0 row) g
  own_clear = binds_so (λ z. r.sym.0 ≢ z) (IsClear r.sym.0 row) (λ z ne. (ne, λ k. ne (sym (part_names place r.sym.0 all n us z k)))) g (binds_other r.sym.0 g fresh)

  -- it merges and starts as it did
  pub own_merges : list_merges own (put r.sym.0 row g) ≡ list_merges own g
  own_merges = put_merges r.sym.0 row (part_still place r.sym.0 all n us) (part_none place r.sym.0 all n us) g own own own_clear own_still

  pub own_starts : starts_none own (put r.sym.0 row g) ≡ starts_none own g
  own_starts = put_starts r.sym.0 row (part_still place r.sym.0 all n us) (part_none place r.sym.0 all n us) g own own own_clear own_still
