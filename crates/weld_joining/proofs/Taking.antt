-- What is taken occurs free, is seen and is a builder; so the body of a loop takes of its own builder alone.
use Rattle.std.proofs.Common.{◌≡◌, ◌≢◌, ◌⊎◌, inl, inr, ℕ, zero, suc, ◌==◌, Bool, true, false, ◌&&◌, ◌||◌, if◌then◌else◌, List, [], ◌∷◌, map, Option, Some, None, option_map, refl, ap, sym, subst, ◌∙◌, eqb-true, eq-eqb, ne_eqb}
use Rattle.weld_tree.specs.declared.binder.Binder.{Binder}
use Rattle.weld_tree.specs.ExprTree.{ExprTree, leaf, one, two, three, many, let_in, loop, iterate, ExprTrees, no_exprs, more_exprs, LegTree, whole, strided, LegTrees, no_legs, more_legs, Leaf, int, truth, chars, name, fresh, One, neg, not, cast, len, field, finish, started}
use Rattle.weld_meaning.specs.Environment.{Named, look_for}
use Rattle.weld_meaning.specs.Names.{IsFree, AreFree, LegIsFree, LegsAreFree}
use Rattle.weld_meaning.specs.Origin.{Path, Origin, value, made, own, outer, named, struct, Origins, no_origins, more_origins, origin_at, known_origin, origin_of_name, origin, from_within, all_from_within, outside}
use Rattle.weld_meaning.specs.Linear.{IsSeen, AreSeen, Keeps, AllKeep, LegKeeps, LegsKeep}
use Rattle.weld_meaning.specs.Available.{at_path, field_within, is_builder, is_builder_path, is_below, chain_of, chain_of_one, chain_takes, takes, some_take, leg_takes, legs_take}

-- ---- tests

and_both : (a b : Bool) → (a && b) ≡ true → (a ≡ true) × (b ≡ true)
and_both true b h = (refl, h)
and_both false b h = let wrong : ⊥ = cc in absurd wrong

or_either : (a b : Bool) → (a || b) ≡ true → (a ≡ true) ⊎ (b ≡ true)
or_either true b h = inl refl
or_either false b h = inr h

-- ---- what is taken

-- the name occurs there as the test says, it is seen, and a builder is at the path
pub record Shown (free : ℕ → Type 0) (g : Named Origin) (s : ℕ) (q : Path) : Type 0 where
  pub named : free s
  pub seen : IsSeen (origin_of_name s g)
  pub builds : is_builder_path (origin_of_name s g) q ≡ true

widen : (free more : ℕ → Type 0) (g : Named Origin) (s : ℕ) (q : Path) → (free s → more s) → Shown free g s q → Shown more g s q
widen free more g s q f h = record { named = f h.named; seen = h.seen; builds = h.builds }

-- a name with field accesses keeps the rules where its name is seen
chain_shown : (e : ExprTree) (g : Named Origin) (c : ℕ × Path) → chain_of e ≡ Some c → Keeps e g → IsFree e c.0 × IsSeen (origin_of_name c.0 g)
chain_shown (leaf a (int k x)) g c p h = let wrong : ⊥ = cc in absurd wrong
chain_shown (leaf a (truth b)) g c p h = let wrong : ⊥ = cc in absurd wrong
chain_shown (leaf a (chars bs)) g c p h = let wrong : ⊥ = cc in absurd wrong
chain_shown (leaf a (name s)) g c p h = let e : s ≡ c.0 = name_of (s, []) c p in (sym e, subst (λ t. IsSeen (origin_of_name t g)) e h)
  where
    name_of : (d c : ℕ × Path) → Some d ≡ Some c → d.0 ≡ c.0
    name_of d c p = let e : d ≡ c = cc in ap (λ (x : ℕ × Path). x.0) e
chain_shown (leaf a (fresh b)) g c p h = let wrong : ⊥ = cc in absurd wrong
chain_shown (one a neg e) g c p h = let wrong : ⊥ = cc in absurd wrong
chain_shown (one a not e) g c p h = let wrong : ⊥ = cc in absurd wrong
chain_shown (one a (cast k) e) g c p h = let wrong : ⊥ = cc in absurd wrong
chain_shown (one a len e) g c p h = let wrong : ⊥ = cc in absurd wrong
chain_shown (one a (field n) e) g c p h = by (chain_of e) refl (λ d q. chain_shown e g d q h.0) p
  where
    by : (m : Option (ℕ × Path)) → chain_of e ≡ m → ((d : ℕ × Path) → chain_of e ≡ Some d → IsFree e d.0 × IsSeen (origin_of_name d.0 g)) → option_map (λ (d : ℕ × Path). (d.0, n ∷ d.1)) m ≡ Some c → IsFree e c.0 × IsSeen (origin_of_name c.0 g)
    by None q k r = let wrong : ⊥ = cc in absurd wrong
    by (Some d) q k r =
        let e0 : (d.0, n ∷ d.1) ≡ c = cc in
        let same : d.0 ≡ c.0 = ap (λ (x : ℕ × Path). x.0) e0 in subst (λ t. IsFree e t × IsSeen (origin_of_name t g)) same (k d q)
chain_shown (one a finish e) g c p h = let wrong : ⊥ = cc in absurd wrong
chain_shown (one a (started b) e) g c p h = let wrong : ⊥ = cc in absurd wrong
chain_shown (two a o e f) g c p h = let wrong : ⊥ = cc in absurd wrong
chain_shown (three a o d e f) g c p h = let wrong : ⊥ = cc in absurd wrong
chain_shown (many a o es) g c p h = let wrong : ⊥ = cc in absurd wrong
chain_shown (let_in a b e f) g c p h = let wrong : ⊥ = cc in absurd wrong
chain_shown (loop a ls e b n x f) g c p h = let wrong : ⊥ = cc in absurd wrong
chain_shown (iterate a e b f) g c p h = let wrong : ⊥ = cc in absurd wrong

shown_by_chain : (c : ℕ × Path) (free : ℕ → Type 0) (g : Named Origin) (s : ℕ) (q : Path) (x : Bool) → free c.0 → IsSeen (origin_of_name c.0 g) → chain_takes (Some c) g s q x ≡ true → Shown free g s q
shown_by_chain c free g s q x f seen h =
    let p = and_both (c.0 == s) (is_below c.1 q && is_builder_path (origin_of_name s g) q) h in
    let r = and_both (is_below c.1 q) (is_builder_path (origin_of_name s g) q) p.1 in
    let e : c.0 ≡ s = eqb-true c.0 s p.0 in
    record { named = subst free e f; seen = subst (λ t. IsSeen (origin_of_name t g)) e seen; builds = r.1 }

node_shown : (m : Option (ℕ × Path)) (free : ℕ → Type 0) (g : Named Origin) (s : ℕ) (q : Path) (x : Bool) → ((c : ℕ × Path) → m ≡ Some c → free c.0 × IsSeen (origin_of_name c.0 g)) → (x ≡ true → Shown free g s q) → chain_takes m g s q x ≡ true → Shown free g s q
node_shown None free g s q x there part h = part h
node_shown (Some c) free g s q x there part h = let k = there c refl in shown_by_chain c free g s q x k.0 k.1 h

mutual
  pub shown : (e : ExprTree) (g : Named Origin) (s : ℕ) (q : Path) → Keeps e g → takes e g s q ≡ true → Shown (IsFree e) g s q
  shown (leaf a l) g s q k h = node_shown (chain_of (leaf a l)) (IsFree (leaf a l)) g s q false (λ c p. chain_shown (leaf a l) g c p k) (λ p. let wrong : ⊥ = cc in absurd wrong) h
  shown (one a o e) g s q k h =
      node_shown (chain_of (one a o e)) (IsFree (one a o e)) g s q (takes e g s q) (λ c p. chain_shown (one a o e) g c p k)
      (λ p. widen (IsFree e) (IsFree (one a o e)) g s q (λ x. x) (shown e g s q k.0 p)) h
  shown (two a o e f) g s q k h = pick (or_either (takes e g s q) (takes f g s q) h) (λ p. shown e g s q k.0 p) (λ p. shown f g s q k.1 p)
    where
      pick : (takes e g s q ≡ true) ⊎ (takes f g s q ≡ true) → (takes e g s q ≡ true → Shown (IsFree e) g s q) → (takes f g s q ≡ true → Shown (IsFree f) g s q) → Shown (IsFree (two a o e f)) g s q
      pick (inl p) x y = widen (IsFree e) (IsFree (two a o e f)) g s q (λ z. inl z) (x p)
      pick (inr p) x y = widen (IsFree f) (IsFree (two a o e f)) g s q (λ z. inr z) (y p)
  shown (three a o c e f) g s q k h =
      pick (or_either (takes c g s q) (takes e g s q || takes f g s q) h) (λ p. shown c g s q k.0 p) (λ p. shown e g s q k.1 p) (λ p. shown f g s q k.2 p)
    where
      pick : (takes c g s q ≡ true) ⊎ ((takes e g s q || takes f g s q) ≡ true) → (takes c g s q ≡ true → Shown (IsFree c) g s q) → (takes e g s q ≡ true → Shown (IsFree e) g s q) → (takes f g s q ≡ true → Shown (IsFree f) g s q) → Shown (IsFree (three a o c e f)) g s q
      pick (inl p) w x y = widen (IsFree c) (IsFree (three a o c e f)) g s q (λ z. inl z) (w p)
      pick (inr p) w x y = then_of (or_either (takes e g s q) (takes f g s q) p)
        where
          then_of : (takes e g s q ≡ true) ⊎ (takes f g s q ≡ true) → Shown (IsFree (three a o c e f)) g s q
          then_of (inl r) = widen (IsFree e) (IsFree (three a o c e f)) g s q (λ z. inr (inl z)) (x r)
          then_of (inr r) = widen (IsFree f) (IsFree (three a o c e f)) g s q (λ z. inr (inr z)) (y r)
  shown (many a o es) g s q k h = some_shown es g s q k h
  shown (let_in a b e f) g s q k h =
      pick (or_either (takes e g s q) (if b.sym.0 == s then false else takes f ((b.sym.0, origin e g) ∷ g) s q) h) (λ p. shown e g s q k.0 p) (λ p. shown f ((b.sym.0, origin e g) ∷ g) s q k.1 p)
    where
      inner : Named Origin
      inner = (b.sym.0, origin e g) ∷ g

      under : (t : Bool) → (b.sym.0 == s) ≡ t → (if t then false else takes f inner s q) ≡ true → (takes f inner s q ≡ true → Shown (IsFree f) inner s q) → Shown (IsFree (let_in a b e f)) g s q
      under true n p y = let wrong : ⊥ = cc in absurd wrong
      under false n p y =
          let w = y p in
          let ne : s ≢ b.sym.0 = λ x. let t : (b.sym.0 == s) ≡ true = eq-eqb b.sym.0 s (sym x) in let wrong : ⊥ = cc in wrong in
          let same : origin_of_name s inner ≡ origin_of_name s g = ap (λ (d : Bool). known_origin (if d then Some (origin e g) else look_for s g)) (ne_eqb s b.sym.0 ne) in
          record { named = inr (w.named, ne); seen = subst IsSeen same w.seen; builds = sym (ap (λ o. is_builder_path o q) same) ∙ w.builds }

      pick : (takes e g s q ≡ true) ⊎ ((if b.sym.0 == s then false else takes f inner s q) ≡ true) → (takes e g s q ≡ true → Shown (IsFree e) g s q) → (takes f inner s q ≡ true → Shown (IsFree f) inner s q) → Shown (IsFree (let_in a b e f)) g s q
      pick (inl p) x y = widen (IsFree e) (IsFree (let_in a b e f)) g s q (λ z. inl z) (x p)
      pick (inr p) x y = under (b.sym.0 == s) refl p y
  shown (loop a ls e b n x f) g s q k h = pick (or_either (legs_take ls g s q) (takes e g s q) h) (λ p. legs_shown ls g s q k.0 p) (λ p. shown e g s q k.1 p)
    where
      pick : (legs_take ls g s q ≡ true) ⊎ (takes e g s q ≡ true) → (legs_take ls g s q ≡ true → Shown (LegsAreFree ls) g s q) → (takes e g s q ≡ true → Shown (IsFree e) g s q) → Shown (IsFree (loop a ls e b n x f)) g s q
      pick (inl p) y z = widen (LegsAreFree ls) (IsFree (loop a ls e b n x f)) g s q (λ w. inl w) (y p)
      pick (inr p) y z = widen (IsFree e) (IsFree (loop a ls e b n x f)) g s q (λ w. inr (inl w)) (z p)
  shown (iterate a e b f) g s q k h = widen (IsFree e) (IsFree (iterate a e b f)) g s q (λ z. inl z) (shown e g s q k.0 h)

  some_shown : (es : ExprTrees) (g : Named Origin) (s : ℕ) (q : Path) → AllKeep es g → some_take es g s q ≡ true → Shown (AreFree es) g s q
  some_shown no_exprs g s q k h = let wrong : ⊥ = cc in absurd wrong
  some_shown (more_exprs e es) g s q k h = pick (or_either (takes e g s q) (some_take es g s q) h) (λ p. shown e g s q k.0 p) (λ p. some_shown es g s q k.1 p)
    where
      pick : (takes e g s q ≡ true) ⊎ (some_take es g s q ≡ true) → (takes e g s q ≡ true → Shown (IsFree e) g s q) → (some_take es g s q ≡ true → Shown (AreFree es) g s q) → Shown (AreFree (more_exprs e es)) g s q
      pick (inl p) x y = widen (IsFree e) (AreFree (more_exprs e es)) g s q (λ z. inl z) (x p)
      pick (inr p) x y = widen (AreFree es) (AreFree (more_exprs e es)) g s q (λ z. inr z) (y p)

  leg_shown : (l : LegTree) (g : Named Origin) (s : ℕ) (q : Path) → LegKeeps l g → leg_takes l g s q ≡ true → Shown (LegIsFree l) g s q
  leg_shown (whole e) g s q k h = widen (IsFree e) (LegIsFree (whole e)) g s q (λ z. z) (shown e g s q k h)
  leg_shown (strided e f i j) g s q k h =
      pick (or_either (takes e g s q) (takes f g s q || (takes i g s q || takes j g s q)) h) (λ p. shown e g s q k.0 p) (λ p. shown f g s q k.1 p) (λ p. shown i g s q k.2 p) (λ p. shown j g s q k.3 p)
    where
      all : ℕ → Type 0
      all = LegIsFree (strided e f i j)

      last : (takes i g s q ≡ true) ⊎ (takes j g s q ≡ true) → (takes i g s q ≡ true → Shown (IsFree i) g s q) → (takes j g s q ≡ true → Shown (IsFree j) g s q) → Shown all g s q
      last (inl r) y z = widen (IsFree i) all g s q (λ t. inr (inr (inl t))) (y r)
      last (inr r) y z = widen (IsFree j) all g s q (λ t. inr (inr (inr t))) (z r)

      middle : (takes f g s q ≡ true) ⊎ ((takes i g s q || takes j g s q) ≡ true) → (takes f g s q ≡ true → Shown (IsFree f) g s q) → (takes i g s q ≡ true → Shown (IsFree i) g s q) → (takes j g s q ≡ true → Shown (IsFree j) g s q) → Shown all g s q
      middle (inl r) x y z = widen (IsFree f) all g s q (λ t. inr (inl t)) (x r)
      middle (inr r) x y z = last (or_either (takes i g s q) (takes j g s q) r) y z

      pick : (takes e g s q ≡ true) ⊎ ((takes f g s q || (takes i g s q || takes j g s q)) ≡ true) → (takes e g s q ≡ true → Shown (IsFree e) g s q) → (takes f g s q ≡ true → Shown (IsFree f) g s q) → (takes i g s q ≡ true → Shown (IsFree i) g s q) → (takes j g s q ≡ true → Shown (IsFree j) g s q) → Shown all g s q
      pick (inl p) w x y z = widen (IsFree e) all g s q (λ t. inl t) (w p)
      pick (inr p) w x y z = middle (or_either (takes f g s q) (takes i g s q || takes j g s q) p) x y z

  legs_shown : (ls : LegTrees) (g : Named Origin) (s : ℕ) (q : Path) → LegsKeep ls g → legs_take ls g s q ≡ true → Shown (LegsAreFree ls) g s q
  legs_shown no_legs g s q k h = let wrong : ⊥ = cc in absurd wrong
  legs_shown (more_legs l ls) g s q k h = pick (or_either (leg_takes l g s q) (legs_take ls g s q) h) (λ p. leg_shown l g s q k.0 p) (λ p. legs_shown ls g s q k.1 p)
    where
      pick : (leg_takes l g s q ≡ true) ⊎ (legs_take ls g s q ≡ true) → (leg_takes l g s q ≡ true → Shown (LegIsFree l) g s q) → (legs_take ls g s q ≡ true → Shown (LegsAreFree ls) g s q) → Shown (LegsAreFree (more_legs l ls)) g s q
      pick (inl p) x y = widen (LegIsFree l) (LegsAreFree (more_legs l ls)) g s q (λ z. inl z) (x p)
      pick (inr p) x y = widen (LegsAreFree ls) (LegsAreFree (more_legs l ls)) g s q (λ z. inr z) (y p)

-- ---- builders of outside aren't seen

at_within : (n : ℕ) (os : Origins) → origin_at n (all_from_within os) ≡ from_within (origin_at n os)
at_within zero no_origins = refl
at_within (suc n) no_origins = refl
at_within zero (more_origins o os) = refl
at_within (suc n) (more_origins o os) = at_within n os

field_from : (n : ℕ) (o : Origin) → field_within n (from_within o) ≡ from_within (field_within n o)
field_from n value = refl
field_from n made = refl
field_from n (own p) = refl
field_from n outer = refl
field_from n (named s p) = refl
field_from n (struct os) = at_within n os

path_from : (q : Path) (o : Origin) → at_path q (from_within o) ≡ from_within (at_path q o)
path_from [] o = refl
path_from (n ∷ q) o = ap (field_within n) (path_from q o) ∙ field_from n (at_path q o)

pub seen_at : (n : ℕ) (os : Origins) → AreSeen os → IsSeen (origin_at n os)
seen_at n no_origins h = value_at n
  where
    value_at : (n : ℕ) → IsSeen (origin_at n no_origins)
    value_at zero = tt
    value_at (suc n) = tt
seen_at zero (more_origins o os) h = h.0
seen_at (suc n) (more_origins o os) h = seen_at n os h.1

seen_field : (n : ℕ) (o : Origin) → IsSeen o → IsSeen (field_within n o)
seen_field n value h = tt
seen_field n made h = tt
seen_field n (own p) h = tt
seen_field n outer h = tt
seen_field n (named s p) h = tt
seen_field n (struct os) h = seen_at n os h

seen_path : (q : Path) (o : Origin) → IsSeen o → IsSeen (at_path q o)
seen_path [] o h = h
seen_path (n ∷ q) o h = seen_field n (at_path q o) (seen_path q o h)

no_builder : (o : Origin) → IsSeen (from_within o) → is_builder (from_within o) ≡ false
no_builder value h = refl
no_builder made h = absurd h
no_builder (own p) h = absurd h
no_builder outer h = absurd h
no_builder (named s p) h = absurd h
no_builder (struct os) h = refl

pub unseen : (o : Origin) (q : Path) → IsSeen (from_within o) → is_builder_path (from_within o) q ≡ false
unseen o q h = ap is_builder (path_from q o) ∙ no_builder (at_path q o) (subst IsSeen (path_from q o) (seen_path q (from_within o) h))

pub outside_name : (s : ℕ) (g : Named Origin) → origin_of_name s (outside g) ≡ from_within (origin_of_name s g)
outside_name s [] = refl
outside_name s (e ∷ g) = by (s == e.0) (outside_name s g)
  where
    by : (b : Bool) → origin_of_name s (outside g) ≡ from_within (origin_of_name s g) → known_origin (if b then Some (from_within e.1) else look_for s (outside g)) ≡ from_within (known_origin (if b then Some e.1 else look_for s g))
    by true h = refl
    by false h = h
