-- Names that don't occur, and names that are kept to be seen.
use Rattle.std.proofs.Common.{◌≡◌, ◌≢◌, ℕ, ◌<◌, ◌∷◌, sym, subst, ◌⊎◌, inl, inr, arith}
use Rattle.weld_tree.specs.ExprTree.{ExprTree, leaf, one, two, three, many, let_in, loop, iterate, ExprTrees, no_exprs, more_exprs, LegTree, whole, strided, LegTrees, no_legs, more_legs, Leaf, int, truth, chars, name, fresh}
use Rattle.weld_meaning.specs.Environment.{Named}
use Rattle.weld_meaning.specs.Origin.{Origin, value, origin_of_name, origin, own_paths, outside}
use Rattle.weld_meaning.specs.Linear.{IsSeen, LeafKeeps, Keeps, AllKeep, LegKeeps, LegsKeep}
use Rattle.weld_meaning.specs.Names.{LeafNames, IsFree, AreFree, LegIsFree, LegsAreFree, AgreeOn, put, Binds, AllBind, LegBinds, LegsBind, IsClear}
use Rattle.weld_meaning.proofs.Before.{none_within, seen_of_none, origin_outside}
use Rattle.weld_substitution.specs.Uses.{uses}
use Rattle.weld_substitution.proofs.UsedNames.{used_or_free, kept}
use Rattle.weld_substitution.proofs.Values.{look_behind}

-- ---- binders

mutual
  pub binds_so : (P Q : ℕ → Type 0) → ((b : ℕ) → P b → Q b) → (e : ExprTree) → Binds P e → Binds Q e
  binds_so P Q f (leaf a l) h = tt
  binds_so P Q f (one a o e) h = binds_so P Q f e h
  binds_so P Q f (two a o e k) h = (binds_so P Q f e h.0, binds_so P Q f k h.1)
  binds_so P Q f (three a o d e k) h = (binds_so P Q f d h.0, binds_so P Q f e h.1, binds_so P Q f k h.2)
  binds_so P Q f (many a o es) h = all_bind_so P Q f es h
  binds_so P Q f (let_in a b e k) h = (f b.sym.0 h.0, binds_so P Q f e h.1, binds_so P Q f k h.2)
  binds_so P Q f (loop a ls e b n x k) h = (f b.sym.0 h.0, f n.sym.0 h.1, f x.sym.0 h.2, legs_bind_so P Q f ls h.3, binds_so P Q f e h.4, binds_so P Q f k h.5)
  binds_so P Q f (iterate a e b k) h = (f b.sym.0 h.0, binds_so P Q f e h.1, binds_so P Q f k h.2)

  all_bind_so : (P Q : ℕ → Type 0) → ((b : ℕ) → P b → Q b) → (es : ExprTrees) → AllBind P es → AllBind Q es
  all_bind_so P Q f no_exprs h = tt
  all_bind_so P Q f (more_exprs e es) h = (binds_so P Q f e h.0, all_bind_so P Q f es h.1)

  leg_binds_so : (P Q : ℕ → Type 0) → ((b : ℕ) → P b → Q b) → (l : LegTree) → LegBinds P l → LegBinds Q l
  leg_binds_so P Q f (whole e) h = binds_so P Q f e h
  leg_binds_so P Q f (strided e i j k) h = (binds_so P Q f e h.0, binds_so P Q f i h.1, binds_so P Q f j h.2, binds_so P Q f k h.3)

  legs_bind_so : (P Q : ℕ → Type 0) → ((b : ℕ) → P b → Q b) → (ls : LegTrees) → LegsBind P ls → LegsBind Q ls
  legs_bind_so P Q f no_legs h = tt
  legs_bind_so P Q f (more_legs l ls) h = (leg_binds_so P Q f l h.0, legs_bind_so P Q f ls h.1)

-- ---- a name that isn't used

none_left : (n : ℕ) → (0 < n → ⊥) → n ≡ 0
none_left n f = by (some_or_none n)
  where
    some_or_none : (m : ℕ) → (0 < m) ⊎ (m ≡ 0)
    some_or_none m = grind arith

    by : (0 < n) ⊎ (n ≡ 0) → n ≡ 0
    by (inl h) = absurd (f h)
    by (inr h) = h

pub unnamed_put : (s : ℕ) (v e : ExprTree) → Binds (IsClear s v) e → (IsFree e s → ⊥) → put s v e ≡ e
unnamed_put s v e c nf = kept e v s (none_left (uses e s) (λ h. nf ((used_or_free e s (binds_so (IsClear s v) (λ b. s ≢ b) (λ b k. k.0) e c)).0 h)))

pub unused_named : (s : ℕ) (v e : ExprTree) → Binds (IsClear s v) e → uses e s ≡ 0 → IsFree e s → ⊥
unused_named s v e c z f = let h = (used_or_free e s (binds_so (IsClear s v) (λ b. s ≢ b) (λ b k. k.0) e c)).1 f in omega (arith, h, z)

pub agree_back : {A : Type 0} (free : ℕ → Type 0) (g h : Named A) → AgreeOn free g h → AgreeOn free h g
agree_back free g h a = record { agree = λ t f. sym (a.agree t f) }

-- ---- what occurs free is seen

leaf_seen : (l : Leaf) (g : Named Origin) (t : ℕ) → LeafKeeps l g → LeafNames l t → IsSeen (origin_of_name t g)
leaf_seen (int k x) g t h f = absurd f
leaf_seen (truth b) g t h f = absurd f
leaf_seen (chars bs) g t h f = absurd f
leaf_seen (name x) g t h f = subst (λ u. IsSeen (origin_of_name u g)) (sym f) h
leaf_seen (fresh b) g t h f = absurd f

seen_behind : (t b : ℕ) (y : Origin) (g : Named Origin) → t ≢ b → IsSeen (origin_of_name t ((b, y) ∷ g)) → IsSeen (origin_of_name t g)
seen_behind t b y g ne h = subst IsSeen (look_behind t b y g ne) h

seen_outside : (t : ℕ) (g : Named Origin) → IsSeen (origin_of_name t (outside g)) → IsSeen (origin_of_name t g)
seen_outside t g h = seen_of_none (origin_of_name t g) (none_within (origin_of_name t g) (subst IsSeen (origin_outside t g) h))

mutual
  pub kept_seen : (e : ExprTree) (g : Named Origin) (t : ℕ) → Keeps e g → IsFree e t → IsSeen (origin_of_name t g)
  kept_seen (leaf a l) g t h f = leaf_seen l g t h f
  kept_seen (one a o e) g t h f = kept_seen e g t h.0 f
  kept_seen (two a o e k) g t h (inl f) = kept_seen e g t h.0 f
  kept_seen (two a o e k) g t h (inr f) = kept_seen k g t h.1 f
  kept_seen (three a o d e k) g t h (inl f) = kept_seen d g t h.0 f
  kept_seen (three a o d e k) g t h (inr (inl f)) = kept_seen e g t h.1 f
  kept_seen (three a o d e k) g t h (inr (inr f)) = kept_seen k g t h.2 f
  kept_seen (many a o es) g t h f = all_kept_seen es g t h f
  kept_seen (let_in a b e k) g t h (inl f) = kept_seen e g t h.0 f
  kept_seen (let_in a b e k) g t h (inr f) = seen_behind t b.sym.0 _ g f.1 (kept_seen k _ t h.1 f.0)
  kept_seen (loop a ls e b n x k) g t h (inl f) = legs_kept_seen ls g t h.0 f
  kept_seen (loop a ls e b n x k) g t h (inr (inl f)) = kept_seen e g t h.1 f
  kept_seen (loop a ls e b n x k) g t h (inr (inr f)) =
      let own = own_paths (origin e g) in
      seen_outside t g (seen_behind t b.sym.0 own (outside g) f.3
      (seen_behind t n.sym.0 value ((b.sym.0, own) ∷ outside g) f.2 (seen_behind t x.sym.0 value ((n.sym.0, value) ∷ (b.sym.0, own) ∷ outside g) f.1 (kept_seen k _ t h.2 f.0))))
  kept_seen (iterate a e b k) g t h (inl f) = kept_seen e g t h.0 f
  kept_seen (iterate a e b k) g t h (inr f) = seen_outside t g (seen_behind t b.sym.0 value (outside g) f.1 (kept_seen k _ t h.1 f.0))

  all_kept_seen : (es : ExprTrees) (g : Named Origin) (t : ℕ) → AllKeep es g → AreFree es t → IsSeen (origin_of_name t g)
  all_kept_seen no_exprs g t h f = absurd f
  all_kept_seen (more_exprs e es) g t h (inl f) = kept_seen e g t h.0 f
  all_kept_seen (more_exprs e es) g t h (inr f) = all_kept_seen es g t h.1 f

  leg_kept_seen : (l : LegTree) (g : Named Origin) (t : ℕ) → LegKeeps l g → LegIsFree l t → IsSeen (origin_of_name t g)
  leg_kept_seen (whole e) g t h f = kept_seen e g t h f
  leg_kept_seen (strided e i j k) g t h (inl f) = kept_seen e g t h.0 f
  leg_kept_seen (strided e i j k) g t h (inr (inl f)) = kept_seen i g t h.1 f
  leg_kept_seen (strided e i j k) g t h (inr (inr (inl f))) = kept_seen j g t h.2 f
  leg_kept_seen (strided e i j k) g t h (inr (inr (inr f))) = kept_seen k g t h.3 f

  legs_kept_seen : (ls : LegTrees) (g : Named Origin) (t : ℕ) → LegsKeep ls g → LegsAreFree ls t → IsSeen (origin_of_name t g)
  legs_kept_seen no_legs g t h f = absurd f
  legs_kept_seen (more_legs l ls) g t h (inl f) = leg_kept_seen l g t h.0 f
  legs_kept_seen (more_legs l ls) g t h (inr f) = legs_kept_seen ls g t h.1 f
