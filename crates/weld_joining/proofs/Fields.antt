-- Two bodies side by side: the struct of both answers the struct of its builders, and each takes its own field alone.
use Rattle.std.proofs.Common.{◌≡◌, ◌≢◌, ◌⊎◌, inl, inr, ℕ, zero, suc, ◌==◌, Bool, true, false, ◌&&◌, ◌||◌, if◌then◌else◌, [], ◌∷◌, Option, Some, None, refl, ap, sym, subst, ◌∙◌, eqb-true, eq-eqb, ne_eqb, arith}
use Rattle.weld_tree.specs.ExprTree.{At, ExprTree, leaf, one, many, let_in, no_exprs, more_exprs, name, field, make_struct}
use Rattle.weld_tree.specs.declared.binder.Binder.{Binder}
use Rattle.weld_meaning.specs.Environment.{Named, look_for}
use Rattle.weld_meaning.specs.Origin.{Path, Origin, value, made, own, outer, named, struct, no_origins, more_origins, Origins, origin_at, field_origin, is_value, are_values, struct_origin, known_origin, origin_of_name, origin, own_below, own_paths}
use Rattle.weld_meaning.specs.Linear.{IsSeen, Keeps}
use Rattle.weld_meaning.specs.Available.{at_path, field_within, is_builder, is_builder_path, is_below, same_path, chain_takes, takes, some_take, Taken, Apart, TakesAll, without, Splits}
use Rattle.weld_joining.proofs.Looking.{skip, there}
use Rattle.weld_joining.proofs.Bodies.{value_path, AsField}
use Rattle.weld_joining.proofs.Relabelled.{below, own_of_field, own_value, own_seen, value_below}

-- ---- tests

pub not_false : (a : Bool) → a ≡ true → a ≡ false → ⊥
not_false a p q = let wrong : ⊥ = cc in wrong

pub or_false : (a b : Bool) → b ≡ false → (a || b) ≡ a
or_false true b h = refl
or_false false b h = h

pub or_right : (m n : Bool) → n ≡ true → (m || n) ≡ true
or_right true n p = refl
or_right false n p = p

and_both : (a b : Bool) → (a && b) ≡ true → (a ≡ true) × (b ≡ true)
and_both true b h = (refl, h)
and_both false b h = let wrong : ⊥ = cc in absurd wrong

-- a name of value origin takes nothing
pub name_takes : (y : ℕ) (p : Path) (h : Named Origin) (s : ℕ) (q : Path) (x : Bool) → origin_of_name y h ≡ value → chain_takes (Some (y, p)) h s q x ≡ false
name_takes y p h s q x e = by (y == s) refl
  where
    none : (a : Bool) → (a && false) ≡ false
    none true = refl
    none false = refl

    by : (b : Bool) → (y == s) ≡ b → (b && (is_below p q && is_builder_path (origin_of_name s h) q)) ≡ false
    by true r =
        let here : origin_of_name s h ≡ value = subst (λ t. origin_of_name t h ≡ value) (eqb-true y s r) e in
        ap (λ o. is_below p q && is_builder_path o q) here ∙ ap (λ z. is_below p q && z) (value_path q) ∙ none (is_below p q)
    by false r = refl

-- what is without a name takes nothing where the rest takes nothing
under_takes : (b s : ℕ) (q : Path) (t : Taken) (bb : ℕ) → ((s : ℕ) (q : Path) → s ≢ bb → t s q ≡ false) → s ≢ bb → (if b == s then false else t s q) ≡ false
under_takes b s q t bb only ne = by (b == s)
  where
    by : (d : Bool) → (if d then false else t s q) ≡ false
    by true = refl
    by false = only s q ne

-- ---- a body under a `let` of a value's name

pub renamed : (p : Origin) (bb : ℕ) (a m : At) (b : Binder) (y : ℕ) (f : ExprTree) (h : Named Origin) → AsField p bb f ((b.sym.0, value) ∷ h) → origin_of_name y h ≡ value → b.sym.0 ≢ bb → AsField p bb (let_in a b (leaf m (name y)) f) h
renamed p bb a m b y f h w e ne =
    let back = sym e in record {
      keeps = (subst IsSeen back tt, subst (λ o. Keeps f ((b.sym.0, o) ∷ h)) back w.keeps);
      gives = ap (λ o. origin f ((b.sym.0, o) ∷ h)) e ∙ w.gives;
      splits = (
        tt,
        subst (λ o. Splits f ((b.sym.0, o) ∷ h)) back w.splits,
        record { apart = λ s q t r. not_false _ t (name_takes y [] h s q false e) },
        record { all = λ q t. absurd (not_false _ (sym (ap (λ o. is_builder_path o q) e) ∙ t) (value_path q)) },
      );
      all = record { all = λ q t. own_taken q (w.all.all q t) };
      only = λ s q sne. ap (λ x. x || (if b.sym.0 == s then false else takes f ((b.sym.0, origin_of_name y h) ∷ h) s q)) (name_takes y [] h s q false e)
          ∙ ap (λ o. if b.sym.0 == s then false else takes f ((b.sym.0, o) ∷ h) s q) e ∙ under_takes b.sym.0 s q (takes f ((b.sym.0, value) ∷ h)) bb w.only sne;
    }
  where
    own_taken : (q : Path) → takes f ((b.sym.0, value) ∷ h) bb q ≡ true → takes (let_in a b (leaf m (name y)) f) h bb q ≡ true
    own_taken q t =
        ap (λ x. x || (if b.sym.0 == bb then false else takes f ((b.sym.0, origin_of_name y h) ∷ h) bb q)) (name_takes y [] h bb q false e)
        ∙ ap (λ o. if b.sym.0 == bb then false else takes f ((b.sym.0, o) ∷ h) bb q) e ∙ ap (λ d. if d then false else takes f ((b.sym.0, value) ∷ h) bb q) (ne_eqb b.sym.0 bb ne) ∙ t

-- ---- a body under a `let` of a field

-- own paths of two builders, or structs of such, as those of one struct
abbrev pub pair_origin : Origin → Origin → Origin
pair_origin o u = struct (more_origins (below 0 (own_paths o)) (more_origins (below 1 (own_paths u)) no_origins))

pub pair_own : (o u : Origin) → own_paths (struct (more_origins o (more_origins u no_origins))) ≡ pair_origin o u
pair_own o u = λ i. struct (more_origins (own_of_field 0 o i) (more_origins (own_of_field 1 u i) no_origins))

below_seen : (k : ℕ) (o : Origin) → IsSeen (below k (own_paths o))
below_seen k o = subst IsSeen (own_of_field k o) (own_seen (k ∷ []) o)

pub pair_seen : (o u : Origin) → IsSeen (pair_origin o u)
pair_seen o u = (below_seen 0 o, (below_seen 1 u, tt))

pub no_own_value : (k : ℕ) (o : Origin) → is_value o ≡ false → is_value (below k (own_paths o)) ≡ false
no_own_value k o e = value_below k (own_paths o) ∙ own_value [] o ∙ e

-- the field of that number, which has this origin, taken whole
pub record TakesField (k c : ℕ) (p : Origin) (e : ExprTree) (h : Named Origin) : Type 0 where
  pub keeps : Keeps e h
  pub gives : origin e h ≡ p
  pub splits : Splits e h
  pub takes_is : (s : ℕ) (q : Path) → takes e h s q ≡ chain_takes (Some (c, k ∷ [])) h s q false

pub field_body : (k c : ℕ) (p all : Origin) (a m l : At) (b : Binder) (f : ExprTree) (h : Named Origin) → origin_of_name c h ≡ all → field_origin k all ≡ p → IsSeen all → AsField p b.sym.0 f ((b.sym.0, p) ∷ h)
    → TakesField k c p (let_in a b (one m (field k) (leaf l (name c))) f) h
field_body k c p all a m l b f h look this seen w =
    let from : field_origin k (origin_of_name c h) ≡ p = ap (field_origin k) look ∙ this in
    let back = sym from in record {
      keeps = ((subst IsSeen (sym look) seen, tt), subst (λ o. Keeps f ((b.sym.0, o) ∷ h)) back w.keeps);
      gives = ap (λ o. origin f ((b.sym.0, o) ∷ h)) from ∙ w.gives;
      splits = (
        (tt, tt),
        subst (λ o. Splits f ((b.sym.0, o) ∷ h)) back w.splits,
        record { apart = λ s q t r. not_false _ r (none s q) },
        subst (λ o. TakesAll b.sym.0 o (takes f ((b.sym.0, o) ∷ h))) back w.all,
      );
      takes_is = λ s q. or_false _ _ (none s q);
    }
  where
    from_field : field_origin k (origin_of_name c h) ≡ p
    from_field = ap (field_origin k) look ∙ this

    none : (s : ℕ) (q : Path) → (if b.sym.0 == s then false else takes f ((b.sym.0, field_origin k (origin_of_name c h)) ∷ h) s q) ≡ false
    none s q = ap (λ o. if b.sym.0 == s then false else takes f ((b.sym.0, o) ∷ h) s q) from_field ∙ by (b.sym.0 == s) refl
      where
        by : (d : Bool) → (b.sym.0 == s) ≡ d → (if d then false else takes f ((b.sym.0, p) ∷ h) s q) ≡ false
        by true t = refl
        by false t = w.only s q (λ e. let r : (b.sym.0 == s) ≡ true = eq-eqb b.sym.0 s (sym e) in let wrong : ⊥ = cc in wrong)

-- ---- both

and_none : (a : Bool) → (a && false) ≡ false
and_none true = refl
and_none false = refl

pub fields_apart : (q : Path) → is_below (0 ∷ []) q ≡ true → is_below (1 ∷ []) q ≡ true → ⊥
fields_apart [] p r = not_false _ p refl
fields_apart (n ∷ []) p r = by (0 == n) (1 == n) refl refl p r
  where
    by : (a b : Bool) → (0 == n) ≡ a → (1 == n) ≡ b → ((a && true) || false) ≡ true → ((b && true) || false) ≡ true → ⊥
    by true true x y p r =
        let e : 0 ≡ n = eqb-true 0 n x in
        let f : 1 ≡ n = eqb-true 1 n y in omega arith
    by true false x y p r = not_false _ r refl
    by false b x y p r = not_false _ p refl
fields_apart (n ∷ (m ∷ q)) p r =
    fields_apart (m ∷ q) (sym (ap (λ d. d || is_below (0 ∷ []) (m ∷ q)) (and_none (0 == n))) ∙ p) (sym (ap (λ d. d || is_below (1 ∷ []) (m ∷ q)) (and_none (1 == n))) ∙ r)

chains_apart : (c : ℕ) (h : Named Origin) (s : ℕ) (q : Path) → chain_takes (Some (c, 0 ∷ [])) h s q false ≡ true → chain_takes (Some (c, 1 ∷ [])) h s q false ≡ true → ⊥
chains_apart c h s q p r =
    let x = (and_both (is_below (0 ∷ []) q) (is_builder_path (origin_of_name s h) q) (and_both (c == s) (is_below (0 ∷ []) q && is_builder_path (origin_of_name s h) q) p).1).0 in
    let y = (and_both (is_below (1 ∷ []) q) (is_builder_path (origin_of_name s h) q) (and_both (c == s) (is_below (1 ∷ []) q && is_builder_path (origin_of_name s h) q) r).1).0 in fields_apart q x y

-- the builders of a struct of two lie below its fields
below_first : (n : ℕ) (q : Path) → is_below (n ∷ []) q ≡ true → (m : ℕ) → is_below (n ∷ []) (m ∷ q) ≡ true
below_first n q h m = or_right (same_path (n ∷ []) (m ∷ q)) (is_below (n ∷ []) q) h

-- either the path isn't empty and leads below a field, or nothing stands there
paths_below : (o u : Origin) (m : ℕ) (q : Path) → (at_path (m ∷ q) (struct (more_origins o (more_origins u no_origins))) ≡ value) ⊎ ((is_below (0 ∷ []) (m ∷ q) ≡ true) ⊎ (is_below (1 ∷ []) (m ∷ q) ≡ true))
paths_below o u zero [] = inr (inl refl)
paths_below o u (suc zero) [] = inr (inr refl)
paths_below o u (suc (suc m)) [] = inl refl
paths_below o u m (n ∷ q) = by (paths_below o u n q)
  where
    by : (at_path (n ∷ q) (struct (more_origins o (more_origins u no_origins))) ≡ value) ⊎ ((is_below (0 ∷ []) (n ∷ q) ≡ true) ⊎ (is_below (1 ∷ []) (n ∷ q) ≡ true))
        → (at_path (m ∷ n ∷ q) (struct (more_origins o (more_origins u no_origins))) ≡ value) ⊎ ((is_below (0 ∷ []) (m ∷ n ∷ q) ≡ true) ⊎ (is_below (1 ∷ []) (m ∷ n ∷ q) ≡ true))
    by (inl e) = inl (ap (field_within m) e)
    by (inr (inl h)) = inr (inl (below_first 0 (n ∷ q) h m))
    by (inr (inr h)) = inr (inr (below_first 1 (n ∷ q) h m))

pub two_paths : (o u : Origin) (C : Path → Type 0) → ((q : Path) → is_below (0 ∷ []) q ≡ true → C q) → ((q : Path) → is_below (1 ∷ []) q ≡ true → C q)
    → (q : Path) → is_builder_path (struct (more_origins o (more_origins u no_origins))) q ≡ true → C q
two_paths o u C x y [] h = let wrong : ⊥ = cc in absurd wrong
two_paths o u C x y (m ∷ q) h = by (paths_below o u m q)
  where
    by : (at_path (m ∷ q) (struct (more_origins o (more_origins u no_origins))) ≡ value) ⊎ ((is_below (0 ∷ []) (m ∷ q) ≡ true) ⊎ (is_below (1 ∷ []) (m ∷ q) ≡ true)) → C (m ∷ q)
    by (inl e) = absurd (not_false _ h (ap is_builder e))
    by (inr (inl b)) = x (m ∷ q) b
    by (inr (inr b)) = y (m ∷ q) b

-- a field of a name takes what lies below it
pub chain_there : (c k : ℕ) (o : Origin) (h : Named Origin) (q : Path) → origin_of_name c h ≡ o → is_below (k ∷ []) q ≡ true → is_builder_path o q ≡ true → chain_takes (Some (c, k ∷ [])) h c q false ≡ true
chain_there c k o h q look b p =
    ap (λ d. d && (is_below (k ∷ []) q && is_builder_path (origin_of_name c h) q)) (eq-eqb c c refl)
    ∙ ap (λ d. d && is_builder_path (origin_of_name c h) q) b ∙ ap (λ o. is_builder_path o q) look ∙ p

-- a struct the first field of which is no value is none
pub struct_two : (o u : Origin) → is_value o ≡ false → struct_origin (more_origins o (more_origins u no_origins)) ≡ struct (more_origins o (more_origins u no_origins))
struct_two o u e = ap (λ b. if b && (is_value u && true) then value else struct (more_origins o (more_origins u no_origins))) e

-- the fields of a struct have the origins that went in, whether they are values or not
is_one : (o : Origin) → is_value o ≡ true → value ≡ o
is_one value e = refl
is_one made e = let wrong : ⊥ = cc in absurd wrong
is_one (own p) e = let wrong : ⊥ = cc in absurd wrong
is_one outer e = let wrong : ⊥ = cc in absurd wrong
is_one (named s p) e = let wrong : ⊥ = cc in absurd wrong
is_one (struct os) e = let wrong : ⊥ = cc in absurd wrong

pub first_of_two : (o u : Origin) → field_origin 0 (struct_origin (more_origins o (more_origins u no_origins))) ≡ o
first_of_two o u = by (is_value o) (is_value u) refl
  where
    by : (a b : Bool) → is_value o ≡ a → field_origin 0 (if a && (b && true) then value else struct (more_origins o (more_origins u no_origins))) ≡ o
    by true true e = is_one o e
    by true false e = refl
    by false b e = refl

pub second_of_two : (o u : Origin) → field_origin 1 (struct_origin (more_origins o (more_origins u no_origins))) ≡ u
second_of_two o u = by (is_value o) (is_value u) refl
  where
    by : (a b : Bool) → is_value u ≡ b → field_origin 1 (if a && (b && true) then value else struct (more_origins o (more_origins u no_origins))) ≡ u
    by true true e = is_one u e
    by true false e = refl
    by false b e = refl

pub record BothBodies (c : ℕ) (p r : Origin) (a : At) (d e : ExprTree) (h : Named Origin) : Type 0 where
  pub keeps : Keeps (many a make_struct (more_exprs d (more_exprs e no_exprs))) h
  pub gives : origin (many a make_struct (more_exprs d (more_exprs e no_exprs))) h ≡ struct (more_origins p (more_origins r no_origins))
  pub splits : Splits (many a make_struct (more_exprs d (more_exprs e no_exprs))) h
  pub all : TakesAll c (struct (more_origins p (more_origins r no_origins))) (takes (many a make_struct (more_exprs d (more_exprs e no_exprs))) h)

pub both_bodies : (c : ℕ) (p r : Origin) (a : At) (d e : ExprTree) (h : Named Origin) → is_value p ≡ false → origin_of_name c h ≡ struct (more_origins p (more_origins r no_origins)) → TakesField 0 c p d h → TakesField 1 c r e h
    → BothBodies c p r a d e h
both_bodies c p r a d e h kept look x y =
    record {
      keeps = (x.keeps, (y.keeps, tt));
      gives = (λ i. struct_origin (more_origins (x.gives i) (more_origins (y.gives i) no_origins))) ∙ struct_two p r kept;
      splits = (
        x.splits,
        (y.splits, tt, record { apart = λ s q t u. let wrong : ⊥ = cc in wrong }),
        record { apart = λ s q t u. chains_apart c h s q (sym (x.takes_is s q) ∙ t) (sym (y.takes_is s q) ∙ sym (or_false (takes e h s q) false refl) ∙ u) },
      );
      all = record { all = λ q t. two_paths p r (λ q. is_builder_path (struct (more_origins p (more_origins r no_origins))) q ≡ true → some_take (more_exprs d (more_exprs e no_exprs)) h c q ≡ true) (λ q b w. first q b w) (λ q b w. second q b w) q t t };
    }
  where
    both : Origin
    both = struct (more_origins p (more_origins r no_origins))

    first : (q : Path) → is_below (0 ∷ []) q ≡ true → is_builder_path both q ≡ true → some_take (more_exprs d (more_exprs e no_exprs)) h c q ≡ true
    first q b w = ap (λ z. z || (takes e h c q || false)) (x.takes_is c q ∙ chain_there c 0 both h q look b w)

    second : (q : Path) → is_below (1 ∷ []) q ≡ true → is_builder_path both q ≡ true → some_take (more_exprs d (more_exprs e no_exprs)) h c q ≡ true
    second q b w = or_right (takes d h c q) (takes e h c q || false) (ap (λ z. z || false) (y.takes_is c q ∙ chain_there c 1 both h q look b w))

-- ---- a name with one field

-- a name with one field access takes of that name, below that field
pub chain_fact : (c k : ℕ) (h : Named Origin) (s : ℕ) (q : Path) (x : Bool) → chain_takes (Some (c, k ∷ [])) h s q x ≡ true → (c ≡ s) × (is_below (k ∷ []) q ≡ true)
chain_fact c k h s q x p =
    let r = and_both (c == s) (is_below (k ∷ []) q && is_builder_path (origin_of_name s h) q) p in
    (eqb-true c s r.0, (and_both (is_below (k ∷ []) q) (is_builder_path (origin_of_name s h) q) r.1).0)

pub without_fact : (b y : ℕ) (t : Taken) (q : Path) → without b t y q ≡ true → t y q ≡ true
without_fact b y t q p = by (b == y) p
  where
    by : (d : Bool) → (if d then false else t y q) ≡ true → t y q ≡ true
    by true p = let wrong : ⊥ = cc in absurd wrong
    by false p = p
