-- Each number below that of a program's loops is that of a loop.
use Rattle.std.proofs.Common.{◌≡◌, ℕ, zero, suc, ◌+◌, ◌-◌, ◌<◌, ◌≤◌, refl, inl, inr, ◌⊎◌, ◌∷◌, arith}
use Rattle.weld_tree.specs.declared.binder.Binder.{Binder}
use Rattle.weld_tree.specs.TypeTree.{TypeTree, TypeTrees, no_types, more_types, vec}
use Rattle.weld_tree.specs.Types.{IsBuilderFree}
use Rattle.weld_tree.specs.ExprTree.{At, ExprTree, leaf, one, two, three, many, let_in, loop, iterate, ExprTrees, no_exprs, more_exprs, LegTree, whole, strided, LegTrees, no_legs, more_legs}
use Rattle.weld_tree.specs.Program.{loops, loops_in, loops_in_leg, loops_in_legs}
use Rattle.weld_meaning.specs.Typing.{Types, place_type, HasType, HaveTypes, LegHas, LegsHave, body_types}
use Rattle.weld_meaning.specs.Loops.{Site, Behind, LoopAt, LoopIn, LoopInLeg, LoopInLegs}

below_or : (k a : ℕ) → (k < a) ⊎ (a ≤ k)
below_or k a = grind arith

-- a number below a sum is below the first, or behind it below the second
split : (k a b : ℕ) → k < a + b → (k < a) ⊎ ((m : ℕ) × (k ≡ a + m) × (m < b))
split k a b h = by (below_or k a)
  where
    by : (k < a) ⊎ (a ≤ k) → (k < a) ⊎ ((m : ℕ) × (k ≡ a + m) × (m < b))
    by (inl p) = inl p
    by (inr p) = inr (k - a, omega arith, omega arith)

-- of two parts, by where the number lies
between : (P Q : ℕ → Site → Type 0) (k a b : ℕ) → k < a + b → (k < a → (l : Site) × P k l) → ((m : ℕ) → m < b → (l : Site) × Q m l) → (l : Site) × (P k l ⊎ Behind a k (λ m. Q m l))
between P Q k a b h f g = by (split k a b h)
  where
    by : (k < a) ⊎ ((m : ℕ) × (k ≡ a + m) × (m < b)) → (l : Site) × (P k l ⊎ Behind a k (λ m. Q m l))
    by (inl p) = let r = f p in (r.0, inl r.1)
    by (inr p) = let r = g p.0 p.2 in (r.0, inr (p.0, p.1, r.1))

-- of three
among : (P Q R : ℕ → Site → Type 0) (k a b c : ℕ) → k < a + b + c → (k < a → (l : Site) × P k l) → ((m : ℕ) → m < b → (l : Site) × Q m l) → ((m : ℕ) → m < c → (l : Site) × R m l) → (l : Site) × (P k l ⊎ (Behind a k (λ m. Q m l) ⊎ Behind (a + b) k (λ m. R m l)))
among P Q R k a b c h f g u = by (split k (a + b) c h)
  where
    first : (k < a) ⊎ ((m : ℕ) × (k ≡ a + m) × (m < b)) → (l : Site) × (P k l ⊎ (Behind a k (λ m. Q m l) ⊎ Behind (a + b) k (λ m. R m l)))
    first (inl p) = let r = f p in (r.0, inl r.1)
    first (inr p) = let r = g p.0 p.2 in (r.0, inr (inl (p.0, p.1, r.1)))

    by : (k < a + b) ⊎ ((m : ℕ) × (k ≡ a + b + m) × (m < c)) → (l : Site) × (P k l ⊎ (Behind a k (λ m. Q m l) ⊎ Behind (a + b) k (λ m. R m l)))
    by (inl p) = first (split k a b p)
    by (inr p) = let r = u p.0 p.2 in (r.0, inr (inr (p.0, p.1, r.1)))

-- of four
among_four : (P Q R S : ℕ → Site → Type 0) (k a b c d : ℕ) → k < a + b + c + d → (k < a → (l : Site) × P k l) → ((m : ℕ) → m < b → (l : Site) × Q m l) → ((m : ℕ) → m < c → (l : Site) × R m l) → ((m : ℕ) → m < d → (l : Site) × S m l) → (l : Site) × (P k l ⊎ (Behind a k (λ m. Q m l) ⊎ (Behind (a + b) k (λ m. R m l) ⊎ Behind (a + b + c) k (λ m. S m l))))
among_four P Q R S k a b c d h f g u v = by (split k (a + b + c) d h)
  where
    moved : (l : Site) → P k l ⊎ (Behind a k (λ m. Q m l) ⊎ Behind (a + b) k (λ m. R m l)) → P k l ⊎ (Behind a k (λ m. Q m l) ⊎ (Behind (a + b) k (λ m. R m l) ⊎ Behind (a + b + c) k (λ m. S m l)))
    moved l (inl x) = inl x
    moved l (inr (inl x)) = inr (inl x)
    moved l (inr (inr x)) = inr (inr (inl x))

    by : (k < a + b + c) ⊎ ((m : ℕ) × (k ≡ a + b + c + m) × (m < d)) → (l : Site) × (P k l ⊎ (Behind a k (λ m. Q m l) ⊎ (Behind (a + b) k (λ m. R m l) ⊎ Behind (a + b + c) k (λ m. S m l))))
    by (inl p) = let r = among P Q R k a b c p f g u in (r.0, moved r.0 r.1)
    by (inr p) = let r = v p.0 p.2 in (r.0, inr (inr (inr (p.0, p.1, r.1))))

in_let : (b : Binder) (e f : ExprTree) (types : Types) (k : ℕ) (u : TypeTree) → HasType e types u → (l : Site) × (LoopAt e types k l ⊎ Behind (loops e) k (λ m. LoopAt f ((b.sym.0, u) ∷ types) m l)) → (l : Site) × (LoopAt e types k l ⊎ ((v : TypeTree) × HasType e types v × Behind (loops e) k (λ m. LoopAt f ((b.sym.0, v) ∷ types) m l)))
in_let b e f types k u h p = (p.0, by p.0 p.1)
  where
    by : (l : Site) → LoopAt e types k l ⊎ Behind (loops e) k (λ m. LoopAt f ((b.sym.0, u) ∷ types) m l) → LoopAt e types k l ⊎ ((v : TypeTree) × HasType e types v × Behind (loops e) k (λ m. LoopAt f ((b.sym.0, v) ∷ types) m l))
    by l (inl q) = inl q
    by l (inr q) = inr (u, h, q)

in_iterate : (b : Binder) (e f : ExprTree) (types : Types) (k : ℕ) (u : TypeTree) → HasType e types u → IsBuilderFree u → (l : Site) × (LoopAt e types k l ⊎ Behind (loops e) k (λ m. LoopAt f ((b.sym.0, u) ∷ types) m l)) → (l : Site) × (LoopAt e types k l ⊎ ((v : TypeTree) × HasType e types v × IsBuilderFree v × Behind (loops e) k (λ m. LoopAt f ((b.sym.0, v) ∷ types) m l)))
in_iterate b e f types k u h free p = (p.0, by p.0 p.1)
  where
    by : (l : Site) → LoopAt e types k l ⊎ Behind (loops e) k (λ m. LoopAt f ((b.sym.0, u) ∷ types) m l) → LoopAt e types k l ⊎ ((v : TypeTree) × HasType e types v × IsBuilderFree v × Behind (loops e) k (λ m. LoopAt f ((b.sym.0, v) ∷ types) m l))
    by l (inl q) = inl q
    by l (inr q) = inr (u, h, free, q)

in_loop : (a : At) (ls : LegTrees) (e : ExprTree) (b n x : Binder) (f : ExprTree) (types : Types) (t : TypeTree) → (h : HasType (loop a ls e b n x f) types t) → (k : ℕ) → (l : Site) × (LoopInLegs ls types k l ⊎ (Behind (loops_in_legs ls) k (λ m. LoopAt e types m l) ⊎ Behind (loops_in_legs ls + loops e) k (λ m. LoopAt f (body_types b n x t h.1 types) m l))) → (l : Site) × LoopAt (loop a ls e b n x f) types (suc k) l
in_loop a ls e b n x f types t h k p = (p.0, by p.0 p.1)
  where
    by : (l : Site) → LoopInLegs ls types k l ⊎ (Behind (loops_in_legs ls) k (λ m. LoopAt e types m l) ⊎ Behind (loops_in_legs ls + loops e) k (λ m. LoopAt f (body_types b n x t h.1 types) m l)) → LoopAt (loop a ls e b n x f) types (suc k) l
    by l (inl q) = inr (inl (k, omega arith, q))
    by l (inr (inl q)) = inr (inr (inl (q.0, omega (arith, q.1), q.2)))
    by l (inr (inr q)) = inr (inr (inr (h.0, h.1, t, h.2, h.3, h.4, h.5, (q.0, omega (arith, q.1), q.2))))

mutual
  pub loop_there : (e : ExprTree) (types : Types) (t : TypeTree) (k : ℕ) → HasType e types t → k < loops e → (l : Site) × LoopAt e types k l
  loop_there (leaf a o) types t k h p = absurd (omega arith)
  loop_there (one a o e) types t k h p = loop_there e types h.0 k h.1 p
  loop_there (two a o e f) types t k h p =
      between (λ m l. LoopAt e types m l) (λ m l. LoopAt f types m l) k (loops e) (loops f) p (λ q. loop_there e types h.0 k h.2 q) (λ m q. loop_there f types h.1 m h.3 q)
  loop_there (three a o e f g) types t k h p =
      among (λ m l. LoopAt e types m l) (λ m l. LoopAt f types m l) (λ m l. LoopAt g types m l) k (loops e) (loops f) (loops g) p
      (λ q. loop_there e types h.0 k h.3 q) (λ m q. loop_there f types h.1 m h.4 q) (λ m q. loop_there g types h.2 m h.5 q)
  loop_there (many a o es) types t k h p = loop_among es types h.0 k h.1 p
  loop_there (let_in a b e f) types t k h p =
      in_let b e f types k h.0 h.1
      (between (λ m l. LoopAt e types m l) (λ m l. LoopAt f ((b.sym.0, h.0) ∷ types) m l) k (loops e) (loops f) p (λ q. loop_there e types h.0 k h.1 q) (λ m q. loop_there f ((b.sym.0, h.0) ∷ types) t m h.3 q))
  loop_there (loop a ls e b n x f) types t zero h p = (
    record { builder_binder = b; number_binder = n; row_binder = x; body = f; builder = t; row = h.1; names = types },
    inl (refl, record { builder_binder = refl; number_binder = refl; row_binder = refl; body = refl; names = refl; legs = (h.0, h.2, h.3); starts = h.4; is_builder = h.5; gives = h.9 }),
  )
  loop_there (loop a ls e b n x f) types t (suc k) h p =
      in_loop a ls e b n x f types t h k
      (among (λ m l. LoopInLegs ls types m l) (λ m l. LoopAt e types m l) (λ m l. LoopAt f (body_types b n x t h.1 types) m l) k (loops_in_legs ls) (loops e) (loops f) (omega arith)
      (λ q. loop_in_legs ls types h.0 k h.2 q) (λ m q. loop_there e types t m h.4 q) (λ m q. loop_there f (body_types b n x t h.1 types) t m h.9 q))
  loop_there (iterate a e b f) types t k h p =
      in_iterate b e f types k t h.0 h.1
      (between (λ m l. LoopAt e types m l) (λ m l. LoopAt f ((b.sym.0, t) ∷ types) m l) k (loops e) (loops f) p (λ q. loop_there e types t k h.0 q) (λ m q. loop_there f ((b.sym.0, t) ∷ types) _ m h.3 q))

  loop_among : (es : ExprTrees) (types : Types) (us : TypeTrees) (k : ℕ) → HaveTypes es types us → k < loops_in es → (l : Site) × LoopIn es types k l
  loop_among no_exprs types us k h p = absurd (omega arith)
  loop_among (more_exprs e es) types no_types k h p = absurd h
  loop_among (more_exprs e es) types (more_types u us) k h p =
      between (λ m l. LoopAt e types m l) (λ m l. LoopIn es types m l) k (loops e) (loops_in es) p (λ q. loop_there e types u k h.0 q) (λ m q. loop_among es types us m h.1 q)

  loop_in_leg : (s : LegTree) (types : Types) (u : TypeTree) (k : ℕ) → LegHas s types u → k < loops_in_leg s → (l : Site) × LoopInLeg s types k l
  loop_in_leg (whole e) types u k h p = loop_there e types (vec u) k h p
  loop_in_leg (strided e f g i) types u k h p =
      among_four (λ m l. LoopAt e types m l) (λ m l. LoopAt f types m l) (λ m l. LoopAt g types m l) (λ m l. LoopAt i types m l) k (loops e) (loops f) (loops g) (loops i) p
      (λ q. loop_there e types (vec u) k h.0 q) (λ m q. loop_there f types place_type m h.1 q) (λ m q. loop_there g types place_type m h.2 q) (λ m q. loop_there i types place_type m h.3 q)

  loop_in_legs : (ls : LegTrees) (types : Types) (us : TypeTrees) (k : ℕ) → LegsHave ls types us → k < loops_in_legs ls → (l : Site) × LoopInLegs ls types k l
  loop_in_legs no_legs types us k h p = absurd (omega arith)
  loop_in_legs (more_legs s ls) types no_types k h p = absurd h
  loop_in_legs (more_legs s ls) types (more_types u us) k h p =
      between (λ m l. LoopInLeg s types m l) (λ m l. LoopInLegs ls types m l) k (loops_in_leg s) (loops_in_legs ls) p (λ q. loop_in_leg s types u k h.0 q) (λ m q. loop_in_legs ls types us m h.1 q)
