-- The row rebuilt: it takes and holds nothing, and names nothing but the row.
use Rattle.std.proofs.Common.{◌≡◌, ℕ, zero, suc, ◌+◌, ◌<◌, ◌^◌, if◌then◌else◌, true, false, ◌||◌, ◌&&◌, [], ◌∷◌, ◌++◌, refl, ap, sym, subst, arith, ◌⊎◌, inl, inr}
use Rattle.weld_tree.specs.declared.place.Place.{Place}
use Rattle.weld_tree.specs.TypeTree.{TypeTree, TypeTrees, no_types, more_types}
use Rattle.weld_tree.specs.ExprTree.{ExprTree, leaf, ExprTrees, no_exprs, more_exprs, name}
use Rattle.weld_tree.specs.Program.{loops, loops_in, bound, bound_in, HasExprs, IsWellMade, AreWellMade}
use Rattle.weld_meaning.specs.Environment.{Named}
use Rattle.weld_meaning.specs.Typing.{IsField}
use Rattle.weld_meaning.specs.Origin.{Path, Origin, value, struct, field_origin, are_values, is_value, origin_of_name, origin, origins}
use Rattle.weld_meaning.specs.Linear.{IsSeen, Keeps, AllKeep}
use Rattle.weld_meaning.specs.Available.{Apart, takes, some_take, Splits, AllSplit}
use Rattle.weld_meaning.specs.Names.{IsFree, AreFree}
use Rattle.weld_print.specs.Spellable.{IsSpellable, AreSpellable}
use Rattle.weld_rewriting.specs.Within.{legs, legs_in}
use Rattle.weld_rewriting.proofs.Forms.{chain_takes_none}
use Rattle.weld_horizontal.specs.Twice.{Places, node_of, item_at, items_from, count, type_at, with_expr, rebuilt}
use Rattle.weld_horizontal.proofs.RowItems.{field_below, Within, within_all, within_next, within_here}

module _ (place : Place) (x : ℕ) where
  -- ---- nothing is taken

  pub record IdleAt (e : ExprTree) (g : Named Origin) : Type 0 where
    pub from : origin e g ≡ value
    pub none : (s : ℕ) (q : Path) → takes e g s q ≡ false
    pub keeps : Keeps e g
    pub splits : Splits e g

  seen : (o : Origin) → o ≡ value → IsSeen o
  seen o h = subst IsSeen (sym h) tt

  pub item_idle : (us : TypeTrees) (n : ℕ) (u : TypeTree) (g : Named Origin) → origin_of_name x g ≡ value → IdleAt (item_at place x us n u) g
  item_idle no_types n u g h = record { from = h; none = λ s q. chain_takes_none (x, []) g s q false h; keeps = seen (origin_of_name x g) h; splits = tt }
  item_idle (more_types t no_types) n u g h = record { from = h; none = λ s q. chain_takes_none (x, []) g s q false h; keeps = seen (origin_of_name x g) h; splits = tt }
  item_idle (more_types t (more_types s ts)) n u g h = record {
    from = ap (field_origin n) h;
    none = λ w q. chain_takes_none (x, n ∷ []) g w q (takes (leaf (node_of place (Rattle.weld_tree.specs.TypeTree.struct (more_types t (more_types s ts)))) (name x)) g w q) h;
    keeps = (seen (origin_of_name x g) h, tt);
    splits = (tt, tt);
  }

  abbrev pub AllIdle : ExprTrees → Named Origin → Type 0
  AllIdle no_exprs g = Unit {0}
  AllIdle (more_exprs e es) g = IdleAt e g × AllIdle es g

  pub items_idle : (all : TypeTrees) (n : ℕ) (us : TypeTrees) (g : Named Origin) → origin_of_name x g ≡ value → AllIdle (items_from place x all n us) g
  items_idle all n no_types g h = tt
  items_idle all n (more_types u us) g h = (item_idle all n u g h, items_idle all (suc n) us g h)

  with_idle : (n : ℕ) (e : ExprTree) (es : ExprTrees) (g : Named Origin) → IdleAt e g → AllIdle es g → AllIdle (with_expr n e es) g
  with_idle zero e es g h k = (h, k)
  with_idle (suc n) e no_exprs g h k = (h, tt)
  with_idle (suc n) e (more_exprs f es) g h k = (k.0, with_idle n e es g h k.1)

  pub all_values : (es : ExprTrees) (g : Named Origin) → AllIdle es g → are_values (origins es g) ≡ true
  all_values no_exprs g h = refl
  all_values (more_exprs e es) g h = let k = all_values es g h.1 in λ i. is_value (h.0.from i) && k i

  pub none_taken : (es : ExprTrees) (g : Named Origin) → AllIdle es g → (s : ℕ) (q : Path) → some_take es g s q ≡ false
  none_taken no_exprs g h s q = refl
  none_taken (more_exprs e es) g h s q = let k = none_taken es g h.1 s q in λ i. h.0.none s q i || k i

  pub all_keep : (es : ExprTrees) (g : Named Origin) → AllIdle es g → AllKeep es g
  all_keep no_exprs g h = tt
  all_keep (more_exprs e es) g h = (h.0.keeps, all_keep es g h.1)

  first_none : (e : ExprTree) (es : ExprTrees) (g : Named Origin) → IdleAt e g → Apart (takes e g) (some_take es g)
  first_none e es g h = record { apart = λ s q k m. let z = h.none s q in let nothing : ⊥ = cc in nothing }

  pub all_split : (es : ExprTrees) (g : Named Origin) → AllIdle es g → AllSplit es g
  all_split no_exprs g h = tt
  all_split (more_exprs e es) g h = (h.0.splits, all_split es g h.1, first_none e es g h.0)

  pub item_named : (us : TypeTrees) (n : ℕ) (u : TypeTree) → IsFree (item_at place x us n u) x
  item_named no_types n u = refl
  item_named (more_types t no_types) n u = refl
  item_named (more_types t (more_types s ts)) n u = refl

  with_named : (n : ℕ) (e : ExprTree) (es : ExprTrees) → IsFree e x → AreFree (with_expr n e es) x
  with_named zero e es h = inl h
  with_named (suc n) e no_exprs h = inl h
  with_named (suc n) e (more_exprs f es) h = inr (with_named n e es h)

  all_idle : (us : TypeTrees) (p : Places) (g : Named Origin) → origin_of_name x g ≡ value → AllIdle (with_expr p.second (item_at place x us p.first (type_at p.first us)) (items_from place x us 0 us)) g
  all_idle us p g h = with_idle p.second _ _ g (item_idle us p.first (type_at p.first us) g h) (items_idle us 0 us g h)

  -- ---- what it holds

  pub record Small (e : ExprTree) : Type 0 where
    pub binds : bound e ≡ []
    pub no_loops : loops e ≡ 0
    pub no_legs : legs e ≡ 0
    pub names : (t : ℕ) → IsFree e t → t ≡ x
    pub made : IsWellMade e
    pub spellable : IsSpellable e

  pub item_small : (us : TypeTrees) (n : ℕ) (u : TypeTree) → n < 10 ^ 9 → Small (item_at place x us n u)
  item_small no_types n u b = record { binds = refl; no_loops = refl; no_legs = refl; names = λ t h. h; made = tt; spellable = tt }
  item_small (more_types t no_types) n u b = record { binds = refl; no_loops = refl; no_legs = refl; names = λ t h. h; made = tt; spellable = tt }
  item_small (more_types t (more_types s ts)) n u b = record { binds = refl; no_loops = refl; no_legs = refl; names = λ t h. h; made = (tt, tt); spellable = (b, tt) }

  abbrev pub EachSmall : ExprTrees → Type 0
  EachSmall no_exprs = Unit {0}
  EachSmall (more_exprs e es) = Small e × EachSmall es

  pub record AreSmall (es : ExprTrees) : Type 0 where
    pub binds : bound_in es ≡ []
    pub no_loops : loops_in es ≡ 0
    pub no_legs : legs_in es ≡ 0
    pub names : (t : ℕ) → AreFree es t → t ≡ x
    pub made : AreWellMade es
    pub spellable : AreSpellable es

  none_small : AreSmall no_exprs
  none_small = record { binds = refl; no_loops = refl; no_legs = refl; names = λ t h. absurd h; made = tt; spellable = tt }

  more_small : (e : ExprTree) (es : ExprTrees) → Small e → AreSmall es → AreSmall (more_exprs e es)
  more_small e es h k = record {
    binds = λ i. h.binds i ++ k.binds i;
    no_loops = λ i. h.no_loops i + k.no_loops i;
    no_legs = λ i. h.no_legs i + k.no_legs i;
    names = λ t f. by t f;
    made = (h.made, k.made);
    spellable = (h.spellable, k.spellable);
  }
    where
      by : (t : ℕ) → IsFree e t ⊎ AreFree es t → t ≡ x
      by t (inl f) = h.names t f
      by t (inr f) = k.names t f

  pub all_small : (es : ExprTrees) → EachSmall es → AreSmall es
  all_small no_exprs h = none_small
  all_small (more_exprs e es) h = more_small e es h.0 (all_small es h.1)

  pub items_small : (all : TypeTrees) (n : ℕ) (us : TypeTrees) → Within n us all → count all < 10 ^ 9 → EachSmall (items_from place x all n us)
  items_small all n no_types w b = tt
  items_small all n (more_types u us) w b =
      (item_small all n u (omega (arith, b, field_below n all u (within_here n u us all w))), items_small all (suc n) us (within_next n u us all w) b)

  with_small : (n : ℕ) (e : ExprTree) (es : ExprTrees) → Small e → EachSmall es → EachSmall (with_expr n e es)
  with_small zero e es h k = (h, k)
  with_small (suc n) e no_exprs h k = (h, tt)
  with_small (suc n) e (more_exprs f es) h k = (k.0, with_small n e es h k.1)

  with_exprs : (n : ℕ) (e : ExprTree) (es : ExprTrees) → HasExprs (with_expr n e es)
  with_exprs zero e es = tt
  with_exprs (suc n) e no_exprs = tt
  with_exprs (suc n) e (more_exprs f es) = tt

  pub rebuilt_small : (us : TypeTrees) (p : Places) → IsField p.first us (type_at p.first us) → count us < 10 ^ 9 → Small (rebuilt place x us p)
  rebuilt_small us p f b =
      let k = all_small _ (with_small p.second _ _ (item_small us p.first (type_at p.first us) (omega (arith, b, field_below p.first us (type_at p.first us) f))) (items_small us 0 us (within_all us) b)) in
      record { binds = k.binds; no_loops = k.no_loops; no_legs = k.no_legs; names = k.names; made = (with_exprs p.second _ _, k.made); spellable = k.spellable }

  pub rebuilt_named : (us : TypeTrees) (p : Places) → IsFree (rebuilt place x us p) x
  rebuilt_named us p = with_named p.second _ _ (item_named us p.first (type_at p.first us))

  pub rebuilt_idle : (us : TypeTrees) (p : Places) (g : Named Origin) → origin_of_name x g ≡ value → IdleAt (rebuilt place x us p) g
  rebuilt_idle us p g h =
      let k = all_idle us p g h in
      record {
        from = ap (λ b. if b then value else struct (origins (with_expr p.second (item_at place x us p.first (type_at p.first us)) (items_from place x us 0 us)) g)) (all_values _ g k);
        none = none_taken _ g k;
        keeps = all_keep _ g k;
        splits = all_split _ g k;
      }
