-- Names with field accesses, and plain values.
use Rattle.std.proofs.Common.{◌≡◌, ℕ, ◌==◌, if◌then◌else◌, Bool, true, false, ◌&&◌, ◌||◌, [], ◌∷◌, Option, Some, None, refl, ap, sym, subst, eqb-true, eq-eqb, ne_eqb, ℤ, ◌⊎◌, inl, inr}
use Rattle.weld_data.specs.declared.kind.Kind.{Kind}
use Rattle.weld_tree.specs.ExprTree.{At, ExprTree, leaf, one, two, three, many, let_in, loop, iterate, ExprTrees, no_exprs, more_exprs, LegTree, whole, strided, LegTrees, no_legs, more_legs, int, truth, chars, name, fresh, One, neg, not, cast, len, field, finish, started}
use Rattle.weld_meaning.specs.Environment.{Named, look_for}
use Rattle.weld_meaning.specs.Origin.{Path, Origin, value, field_origin, known_origin, origin_of_name, origin}
use Rattle.weld_meaning.specs.Linear.{IsSeen, Keeps}
use Rattle.weld_meaning.specs.Available.{is_below, is_builder_path, chain_of_one, chain_of, chain_takes, takes, some_take, leg_takes, legs_take, ChainSplits, Splits}
use Rattle.weld_meaning.specs.Names.{IsFree, AreFree, LegIsFree, LegsAreFree}
use Rattle.weld_rewriting.proofs.Forms.{chain_field}
use Rattle.weld_substitution.specs.Redex.{is_field, is_chain, is_plain}

-- ---- chains, by the name and the accesses behind it

pub chain_by : (P : ExprTree → ℕ × Path → Type 0) → ((a : At) (s : ℕ) → P (leaf a (name s)) (s, [])) → ((a : At) (n : ℕ) (e : ExprTree) (c : ℕ × Path) → chain_of e ≡ Some c → P e c → P (one a (field n) e) (c.0, n ∷ c.1)) → (d : ExprTree) (c : ℕ × Path) → chain_of d ≡ Some c → P d c
chain_by P f k (leaf a (int x y)) c e = let nothing : ⊥ = cc in absurd nothing
chain_by P f k (leaf a (truth b)) c e = let nothing : ⊥ = cc in absurd nothing
chain_by P f k (leaf a (chars bs)) c e = let nothing : ⊥ = cc in absurd nothing
chain_by P f k (leaf a (name s)) c e = let same : (s, []) ≡ c = cc in subst (P (leaf a (name s))) same (f a s)
chain_by P f k (leaf a (fresh b)) c e = let nothing : ⊥ = cc in absurd nothing
chain_by P f k (one a neg d) c e = let nothing : ⊥ = cc in absurd nothing
chain_by P f k (one a not d) c e = let nothing : ⊥ = cc in absurd nothing
chain_by P f k (one a (cast x) d) c e = let nothing : ⊥ = cc in absurd nothing
chain_by P f k (one a len d) c e = let nothing : ⊥ = cc in absurd nothing
chain_by P f k (one a (field n) d) c e = let m = chain_field n (chain_of d) c e in subst (P (one a (field n) d)) (sym m.2) (k a n d m.0 m.1 (chain_by P f k d m.0 m.1))
chain_by P f k (one a finish d) c e = let nothing : ⊥ = cc in absurd nothing
chain_by P f k (one a (started b) d) c e = let nothing : ⊥ = cc in absurd nothing
chain_by P f k (two a o d m) c e = let nothing : ⊥ = cc in absurd nothing
chain_by P f k (three a o d m l) c e = let nothing : ⊥ = cc in absurd nothing
chain_by P f k (many a o es) c e = let nothing : ⊥ = cc in absurd nothing
chain_by P f k (let_in a b d m) c e = let nothing : ⊥ = cc in absurd nothing
chain_by P f k (loop a ls d b n x m) c e = let nothing : ⊥ = cc in absurd nothing
chain_by P f k (iterate a d b m) c e = let nothing : ⊥ = cc in absurd nothing

pub chain_named : (d : ExprTree) (c : ℕ × Path) → chain_of d ≡ Some c → IsFree d c.0
chain_named d c e = chain_by (λ x y. IsFree x y.0) (λ a s. refl) (λ a n x y e h. h) d c e

-- a chain has one free name
pub chain_only : (e : ExprTree) (c : ℕ × Path) (t : ℕ) → chain_of e ≡ Some c → IsFree e t → t ≡ c.0
chain_only e c t k f = chain_by (λ x y. IsFree x t → t ≡ y.0) (λ a x h. h) (λ a n x y m h. h) e c k f

pub chain_origin : (g : Named Origin) (d : ExprTree) (c : ℕ × Path) → chain_of d ≡ Some c → origin_of_name c.0 g ≡ value → origin d g ≡ value
chain_origin g d c e h = chain_by (λ x y. origin_of_name y.0 g ≡ value → origin x g ≡ value) (λ a s k. k) (λ a n x y e f k. ap (field_origin n) (f k)) d c e h

pub chain_keeps : (g : Named Origin) (d : ExprTree) (c : ℕ × Path) → chain_of d ≡ Some c → IsSeen (origin_of_name c.0 g) → Keeps d g
chain_keeps g d c e h = chain_by (λ x y. IsSeen (origin_of_name y.0 g) → Keeps x g) (λ a s k. k) (λ a n x y e f k. (f k, tt)) d c e h

pub chain_apart : (g : Named Origin) (d : ExprTree) (c : ℕ × Path) → chain_of d ≡ Some c → Splits d g
chain_apart g d c e =
    chain_by (λ x y. Splits x g) (λ a s. tt)
    (λ a n x y e f. (f, subst (λ m. ChainSplits m (field_origin n (origin x g))) (sym e) tt)) d c e

-- what makes a chain of its part has one
pub chain_of_part : (m : One) (d : Option (ℕ × Path)) (y : ℕ × Path) → chain_of_one m d ≡ Some y → (i : ℕ × Path) × (d ≡ Some i)
chain_of_part m (Some i) y e = (i, refl)
chain_of_part neg None y e = let nothing : ⊥ = cc in absurd nothing
chain_of_part not None y e = let nothing : ⊥ = cc in absurd nothing
chain_of_part (cast k) None y e = let nothing : ⊥ = cc in absurd nothing
chain_of_part len None y e = let nothing : ⊥ = cc in absurd nothing
chain_of_part (field n) None y e = let nothing : ⊥ = cc in absurd nothing
chain_of_part finish None y e = let nothing : ⊥ = cc in absurd nothing
chain_of_part (started b) None y e = let nothing : ⊥ = cc in absurd nothing

-- ---- what is taken is a builder

taken_chain : (c : ℕ × Path) (g : Named Origin) (s : ℕ) (q : Path) (x : Bool) → chain_takes (Some c) g s q x ≡ true → is_builder_path (origin_of_name s g) q ≡ true
taken_chain c g s q x h = both (c.0 == s) (is_below c.1 q) (is_builder_path (origin_of_name s g) q) h
  where
    both : (a b d : Bool) → (a && (b && d)) ≡ true → d ≡ true
    both true true d h = h
    both true false d h = let nothing : ⊥ = cc in absurd nothing
    both false b d h = let nothing : ⊥ = cc in absurd nothing

pub or_true : (a b : Bool) → (a || b) ≡ true → (a ≡ true) ⊎ (b ≡ true)
or_true true b h = inl refl
or_true false b h = inr h

either : {A B C : Type 0} → (A → C) → (B → C) → A ⊎ B → C
either f g (inl x) = f x
either f g (inr x) = g x

-- of one or another
pub taken_of : {C : Type 0} → (a b : Bool) → (a ≡ true → C) → (b ≡ true → C) → (a || b) ≡ true → C
taken_of a b f g h = either f g (or_true a b h)

mutual
  pub taken_builds : (e : ExprTree) (g : Named Origin) (s : ℕ) (q : Path) → takes e g s q ≡ true → is_builder_path (origin_of_name s g) q ≡ true
  taken_builds (leaf a (int k x)) g s q h = let nothing : ⊥ = cc in absurd nothing
  taken_builds (leaf a (truth b)) g s q h = let nothing : ⊥ = cc in absurd nothing
  taken_builds (leaf a (chars bs)) g s q h = let nothing : ⊥ = cc in absurd nothing
  taken_builds (leaf a (name x)) g s q h = taken_chain (x, []) g s q false h
  taken_builds (leaf a (fresh b)) g s q h = let nothing : ⊥ = cc in absurd nothing
  taken_builds (one a o e) g s q h = by (chain_of_one o (chain_of e)) (taken_builds e g s q) h
    where
      by : (m : Option (ℕ × Path)) → (takes e g s q ≡ true → is_builder_path (origin_of_name s g) q ≡ true) → chain_takes m g s q (takes e g s q) ≡ true → is_builder_path (origin_of_name s g) q ≡ true
      by (Some c) k h = taken_chain c g s q (takes e g s q) h
      by None k h = k h
  taken_builds (two a o e f) g s q h = taken_of (takes e g s q) (takes f g s q) (taken_builds e g s q) (taken_builds f g s q) h
  taken_builds (three a o c e f) g s q h =
      taken_of (takes c g s q) (takes e g s q || takes f g s q) (taken_builds c g s q) (taken_of (takes e g s q) (takes f g s q) (taken_builds e g s q) (taken_builds f g s q)) h
  taken_builds (many a o es) g s q h = some_taken_builds es g s q h
  taken_builds (let_in a b e f) g s q h =
      taken_of (takes e g s q) (if b.sym.0 == s then false else takes f ((b.sym.0, origin e g) ∷ g) s q) (taken_builds e g s q)
      (by (b.sym.0 == s) refl (taken_builds f ((b.sym.0, origin e g) ∷ g) s q)) h
    where
      by : (c : Bool) → (b.sym.0 == s) ≡ c → (takes f ((b.sym.0, origin e g) ∷ g) s q ≡ true → is_builder_path (origin_of_name s ((b.sym.0, origin e g) ∷ g)) q ≡ true) → (if c then false else takes f ((b.sym.0, origin e g) ∷ g) s q) ≡ true → is_builder_path (origin_of_name s g) q ≡ true
      by true p k h = let nothing : ⊥ = cc in absurd nothing
      by false p k h =
          let ne : (s == b.sym.0) ≡ false = other s b.sym.0 p in
          subst (λ c. is_builder_path (known_origin (if c then Some (origin e g) else look_for s g)) q ≡ true) ne (k h)
        where
          other : (x y : ℕ) → (y == x) ≡ false → (x == y) ≡ false
          other x y p = ne_eqb x y (λ e. let same : (y == x) ≡ true = eq-eqb y x (sym e) in let nothing : ⊥ = cc in nothing)
  taken_builds (loop a ls e b n x f) g s q h = taken_of (legs_take ls g s q) (takes e g s q) (legs_taken_build ls g s q) (taken_builds e g s q) h
  taken_builds (iterate a e b f) g s q h = taken_builds e g s q h

  some_taken_builds : (es : ExprTrees) (g : Named Origin) (s : ℕ) (q : Path) → some_take es g s q ≡ true → is_builder_path (origin_of_name s g) q ≡ true
  some_taken_builds no_exprs g s q h = let nothing : ⊥ = cc in absurd nothing
  some_taken_builds (more_exprs e es) g s q h = taken_of (takes e g s q) (some_take es g s q) (taken_builds e g s q) (some_taken_builds es g s q) h

  leg_taken_builds : (l : LegTree) (g : Named Origin) (s : ℕ) (q : Path) → leg_takes l g s q ≡ true → is_builder_path (origin_of_name s g) q ≡ true
  leg_taken_builds (whole e) g s q h = taken_builds e g s q h
  leg_taken_builds (strided e f i j) g s q h =
      taken_of (takes e g s q) (takes f g s q || (takes i g s q || takes j g s q)) (taken_builds e g s q)
      (taken_of (takes f g s q) (takes i g s q || takes j g s q) (taken_builds f g s q) (taken_of (takes i g s q) (takes j g s q) (taken_builds i g s q) (taken_builds j g s q))) h

  legs_taken_build : (ls : LegTrees) (g : Named Origin) (s : ℕ) (q : Path) → legs_take ls g s q ≡ true → is_builder_path (origin_of_name s g) q ≡ true
  legs_taken_build no_legs g s q h = let nothing : ⊥ = cc in absurd nothing
  legs_taken_build (more_legs l ls) g s q h = taken_of (leg_takes l g s q) (legs_take ls g s q) (leg_taken_builds l g s q) (legs_taken_build ls g s q) h

-- ---- what is taken is named

chain_takes_named : (c : ℕ × Path) (g : Named Origin) (s : ℕ) (q : Path) (x : Bool) → chain_takes (Some c) g s q x ≡ true → c.0 ≡ s
chain_takes_named c g s q x h = by (c.0 == s) refl h
  where
    by : (b : Bool) → (c.0 == s) ≡ b → (b && (is_below c.1 q && is_builder_path (origin_of_name s g) q)) ≡ true → c.0 ≡ s
    by true p h = eqb-true c.0 s p
    by false p h = let nothing : ⊥ = cc in absurd nothing

mutual
  pub taken_named : (e : ExprTree) (g : Named Origin) (s : ℕ) (q : Path) → takes e g s q ≡ true → IsFree e s
  taken_named (leaf a (int k x)) g s q h = let nothing : ⊥ = cc in absurd nothing
  taken_named (leaf a (truth b)) g s q h = let nothing : ⊥ = cc in absurd nothing
  taken_named (leaf a (chars bs)) g s q h = let nothing : ⊥ = cc in absurd nothing
  taken_named (leaf a (name x)) g s q h = sym (chain_takes_named (x, []) g s q false h)
  taken_named (leaf a (fresh b)) g s q h = let nothing : ⊥ = cc in absurd nothing
  taken_named (one a o e) g s q h = by (chain_of_one o (chain_of e)) refl (taken_named e g s q) h
    where
      by : (m : Option (ℕ × Path)) → chain_of_one o (chain_of e) ≡ m → (takes e g s q ≡ true → IsFree e s) → chain_takes m g s q (takes e g s q) ≡ true → IsFree e s
      by (Some c) p k h = subst (IsFree e) (chain_takes_named c g s q (takes e g s q) h) (chain_named (one a o e) c p)
      by None p k h = k h
  taken_named (two a o e f) g s q h = taken_of (takes e g s q) (takes f g s q) (λ k. inl (taken_named e g s q k)) (λ k. inr (taken_named f g s q k)) h
  taken_named (three a o c e f) g s q h =
      taken_of (takes c g s q) (takes e g s q || takes f g s q) (λ k. inl (taken_named c g s q k))
      (taken_of (takes e g s q) (takes f g s q) (λ k. inr (inl (taken_named e g s q k))) (λ k. inr (inr (taken_named f g s q k)))) h
  taken_named (many a o es) g s q h = some_taken_named es g s q h
  taken_named (let_in a b e f) g s q h =
      taken_of (takes e g s q) (if b.sym.0 == s then false else takes f ((b.sym.0, origin e g) ∷ g) s q) (λ k. inl (taken_named e g s q k))
      (by (b.sym.0 == s) refl (taken_named f ((b.sym.0, origin e g) ∷ g) s q)) h
    where
      by : (c : Bool) → (b.sym.0 == s) ≡ c → (takes f ((b.sym.0, origin e g) ∷ g) s q ≡ true → IsFree f s) → (if c then false else takes f ((b.sym.0, origin e g) ∷ g) s q) ≡ true → IsFree (let_in a b e f) s
      by true p k h = let nothing : ⊥ = cc in absurd nothing
      by false p k h = inr (k h, λ e. let same : (b.sym.0 == s) ≡ true = eq-eqb b.sym.0 s (sym e) in let nothing : ⊥ = cc in nothing)
  taken_named (loop a ls e b n x f) g s q h = taken_of (legs_take ls g s q) (takes e g s q) (λ k. inl (legs_taken_named ls g s q k)) (λ k. inr (inl (taken_named e g s q k))) h
  taken_named (iterate a e b f) g s q h = inl (taken_named e g s q h)

  some_taken_named : (es : ExprTrees) (g : Named Origin) (s : ℕ) (q : Path) → some_take es g s q ≡ true → AreFree es s
  some_taken_named no_exprs g s q h = let nothing : ⊥ = cc in absurd nothing
  some_taken_named (more_exprs e es) g s q h = taken_of (takes e g s q) (some_take es g s q) (λ k. inl (taken_named e g s q k)) (λ k. inr (some_taken_named es g s q k)) h

  leg_taken_named : (l : LegTree) (g : Named Origin) (s : ℕ) (q : Path) → leg_takes l g s q ≡ true → LegIsFree l s
  leg_taken_named (whole e) g s q h = taken_named e g s q h
  leg_taken_named (strided e f i j) g s q h =
      taken_of (takes e g s q) (takes f g s q || (takes i g s q || takes j g s q)) (λ k. inl (taken_named e g s q k))
      (taken_of (takes f g s q) (takes i g s q || takes j g s q) (λ k. inr (inl (taken_named f g s q k)))
      (taken_of (takes i g s q) (takes j g s q) (λ k. inr (inr (inl (taken_named i g s q k)))) (λ k. inr (inr (inr (taken_named j g s q k)))))) h

  legs_taken_named : (ls : LegTrees) (g : Named Origin) (s : ℕ) (q : Path) → legs_take ls g s q ≡ true → LegsAreFree ls s
  legs_taken_named no_legs g s q h = let nothing : ⊥ = cc in absurd nothing
  legs_taken_named (more_legs l ls) g s q h = taken_of (leg_takes l g s q) (legs_take ls g s q) (λ k. inl (leg_taken_named l g s q k)) (λ k. inr (legs_taken_named ls g s q k)) h

-- ---- plain values

and_true : (a b : Bool) → (a && b) ≡ true → (a ≡ true) × (b ≡ true)
and_true true b h = (refl, h)
and_true false b h = let nothing : ⊥ = cc in absurd nothing

field_chain : (o : One) (m : Option (ℕ × Path)) → is_field o ≡ true → (c : ℕ × Path) → m ≡ Some c → (d : ℕ × Path) × (chain_of_one o m ≡ Some d)
field_chain neg m h c e = let nothing : ⊥ = cc in absurd nothing
field_chain not m h c e = let nothing : ⊥ = cc in absurd nothing
field_chain (cast k) m h c e = let nothing : ⊥ = cc in absurd nothing
field_chain len m h c e = let nothing : ⊥ = cc in absurd nothing
field_chain (field n) m h c e = ((c.0, n ∷ c.1), ap (chain_of_one (field n)) e)
field_chain finish m h c e = let nothing : ⊥ = cc in absurd nothing
field_chain (started b) m h c e = let nothing : ⊥ = cc in absurd nothing

pub chain_there : (v : ExprTree) → is_chain v ≡ true → (c : ℕ × Path) × (chain_of v ≡ Some c)
chain_there (leaf a (int k x)) h = let nothing : ⊥ = cc in absurd nothing
chain_there (leaf a (truth b)) h = let nothing : ⊥ = cc in absurd nothing
chain_there (leaf a (chars bs)) h = let nothing : ⊥ = cc in absurd nothing
chain_there (leaf a (name s)) h = ((s, []), refl)
chain_there (leaf a (fresh b)) h = let nothing : ⊥ = cc in absurd nothing
chain_there (one a o e) h = let p = and_true (is_field o) (is_chain e) h in let m = chain_there e p.1 in field_chain o (chain_of e) p.0 m.0 m.1
chain_there (two a o e f) h = let nothing : ⊥ = cc in absurd nothing
chain_there (three a o e f g) h = let nothing : ⊥ = cc in absurd nothing
chain_there (many a o es) h = let nothing : ⊥ = cc in absurd nothing
chain_there (let_in a b e f) h = let nothing : ⊥ = cc in absurd nothing
chain_there (loop a ls e b n x f) h = let nothing : ⊥ = cc in absurd nothing
chain_there (iterate a e b f) h = let nothing : ⊥ = cc in absurd nothing

-- a plain value is a number, a truth value, or a chain
pub plain_by : (P : ExprTree → Type 0) → ((a : At) (k : Kind) (x : ℤ) → P (leaf a (int k x))) → ((a : At) (b : Bool) → P (leaf a (truth b))) → ((v : ExprTree) (c : ℕ × Path) → chain_of v ≡ Some c → P v) → (v : ExprTree) → is_plain v ≡ true → P v
plain_by P f k m (leaf a (int j x)) h = f a j x
plain_by P f k m (leaf a (truth b)) h = k a b
plain_by P f k m (leaf a (chars bs)) h = let nothing : ⊥ = cc in absurd nothing
plain_by P f k m (leaf a (name s)) h = m (leaf a (name s)) (s, []) refl
plain_by P f k m (leaf a (fresh b)) h = let nothing : ⊥ = cc in absurd nothing
plain_by P f k m (one a o e) h = let c = chain_there (one a o e) h in m (one a o e) c.0 c.1
plain_by P f k m (two a o e g) h = let nothing : ⊥ = cc in absurd nothing
plain_by P f k m (three a o e g i) h = let nothing : ⊥ = cc in absurd nothing
plain_by P f k m (many a o es) h = let nothing : ⊥ = cc in absurd nothing
plain_by P f k m (let_in a b e g) h = let nothing : ⊥ = cc in absurd nothing
plain_by P f k m (loop a ls e b n x g) h = let nothing : ⊥ = cc in absurd nothing
plain_by P f k m (iterate a e b g) h = let nothing : ⊥ = cc in absurd nothing

-- a name that is free in a plain value is that of a chain
pub plain_named : (v : ExprTree) (t : ℕ) → is_plain v ≡ true → IsFree v t → (c : ℕ × Path) × (chain_of v ≡ Some c) × (t ≡ c.0)
plain_named v t h =
    plain_by (λ w. IsFree w t → (c : ℕ × Path) × (chain_of w ≡ Some c) × (t ≡ c.0)) (λ a k x f. absurd f) (λ a b f. absurd f) (λ w c k f. (c, k, chain_only w c t k f)) v h
