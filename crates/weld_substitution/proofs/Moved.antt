-- Origins by names, where one name's paths become those below a path of another.
use Rattle.std.proofs.Common.{◌≡◌, ◌≢◌, ℕ, zero, suc, ◌+◌, ◌==◌, if◌then◌else◌, Bool, true, false, ◌&&◌, [], ◌∷◌, ◌++◌, Option, Some, None, option_map, refl, ap, sym, subst, ◌∙◌, eq-eqb, ne_eqb, arith, ◌⊎◌, inl, inr}
use Rattle.std.proofs.lemmas.Bool.{cases_eq}
use Rattle.weld_tree.specs.ExprTree.{ExprTree, leaf, one, two, three, many, let_in, loop, iterate, ExprTrees, no_exprs, more_exprs, Leaf, int, truth, chars, name, fresh, One, neg, not, cast, len, field, finish, started, Two, binary, and, or, look_up, key_exists, merge, Three, if_else, select, slice, Many, make_vec, make_struct}
use Rattle.weld_meaning.specs.Environment.{Named, look_for}
use Rattle.weld_meaning.specs.Origin.{Path, Origin, value, made, own, outer, named, struct, Origins, no_origins, more_origins, origin_at, field_origin, is_value, are_values, struct_origin, known_origin, leaf_origin, one_origin, two_origin, three_origin, many_origin, origin, origins, named_below, named_fields, by_name}
use Rattle.weld_meaning.specs.Linear.{IsNotMade, AreNotMade}
use Rattle.weld_meaning.specs.Available.{chain_of}
use Rattle.weld_substitution.proofs.Bindings.{look_for-by_name}
use Rattle.weld_substitution.proofs.Chains.{chain_by}

-- ---- a chain's own origin by names

origin_at_named : (x n k : ℕ) (q : Path) (os : Origins) → origin_at n (named_fields x k q os) ≡ named_below x ((k + n) ∷ q) (origin_at n os)
origin_at_named x zero k q no_origins = refl
origin_at_named x (suc n) k q no_origins = refl
origin_at_named x zero k q (more_origins o os) = let same : k ≡ k + zero = omega arith in ap (λ m. named_below x (m ∷ q) o) same
origin_at_named x (suc n) k q (more_origins o os) =
    let same : suc k + n ≡ k + suc n = omega arith in origin_at_named x n (suc k) q os ∙ ap (λ m. named_below x (m ∷ q) (origin_at n os)) same

field_named : (x n : ℕ) (q : Path) (o : Origin) → field_origin n (named_below x q o) ≡ named_below x (n ∷ q) (field_origin n o)
field_named x n q value = refl
field_named x n q made = refl
field_named x n q (own p) = refl
field_named x n q outer = refl
field_named x n q (named t p) = refl
field_named x n q (struct os) = let same : zero + n ≡ n = omega arith in origin_at_named x n zero q os ∙ ap (λ m. named_below x (m ∷ q) (origin_at n os)) same

known_named : (x : ℕ) (m : Option Origin) → known_origin (option_map (named_below x []) m) ≡ named_below x [] (known_origin m)
known_named x (Some o) = refl
known_named x None = refl

pub chain_by_name : (g : Named Origin) (d : ExprTree) (c : ℕ × Path) → chain_of d ≡ Some c → origin d (by_name g) ≡ named_below c.0 c.1 (origin d g)
chain_by_name g d c e =
    chain_by (λ x y. origin x (by_name g) ≡ named_below y.0 y.1 (origin x g))
    (λ a s. ap known_origin (look_for-by_name s g) ∙ known_named s (look_for s g))
    (λ a n x y m f. ap (field_origin n) f ∙ field_named y.0 n y.1 (origin x g)) d c e

-- ---- moving

module _ (s x : ℕ) (p : Path) where
  abbrev mutual
    pub moved : Origin → Origin
    moved value = value
    moved made = made
    moved (own q) = own q
    moved outer = outer
    moved (named t q) = if s == t then named x (q ++ p) else named t q
    moved (struct os) = struct (all_moved os)

    pub all_moved : Origins → Origins
    all_moved no_origins = no_origins
    all_moved (more_origins o os) = more_origins (moved o) (all_moved os)

  -- the name's own paths
  here : (q : Path) → moved (named s q) ≡ named x (q ++ p)
  here q = ap (λ b. if b then named x (q ++ p) else named s q) (eq-eqb s s refl)

  mutual
    moved_here : (q : Path) (o : Origin) → moved (named_below s q o) ≡ named_below x (q ++ p) o
    moved_here q value = refl
    moved_here q made = here q
    moved_here q (own r) = here q
    moved_here q outer = refl
    moved_here q (named t r) = here q
    moved_here q (struct os) = ap struct (all_moved_here zero q os)

    all_moved_here : (n : ℕ) (q : Path) (os : Origins) → all_moved (named_fields s n q os) ≡ named_fields x n (q ++ p) os
    all_moved_here n q no_origins = refl
    all_moved_here n q (more_origins o os) = let y = moved_here (n ∷ q) o in let z = all_moved_here (suc n) q os in λ i. more_origins (y i) (z i)

  -- and those of others
  there : (t : ℕ) (q : Path) → s ≢ t → moved (named t q) ≡ named t q
  there t q ne = ap (λ b. if b then named x (q ++ p) else named t q) (ne_eqb s t ne)

  mutual
    moved_there : (t : ℕ) (q : Path) (o : Origin) → s ≢ t → moved (named_below t q o) ≡ named_below t q o
    moved_there t q value ne = refl
    moved_there t q made ne = there t q ne
    moved_there t q (own r) ne = there t q ne
    moved_there t q outer ne = refl
    moved_there t q (named u r) ne = there t q ne
    moved_there t q (struct os) ne = ap struct (all_moved_there t zero q os ne)

    all_moved_there : (t n : ℕ) (q : Path) (os : Origins) → s ≢ t → all_moved (named_fields t n q os) ≡ named_fields t n q os
    all_moved_there t n q no_origins ne = refl
    all_moved_there t n q (more_origins o os) ne = let y = moved_there t (n ∷ q) o ne in let z = all_moved_there t (suc n) q os ne in λ i. more_origins (y i) (z i)

  -- ---- goes through expressions

  moved_at : (n : ℕ) (os : Origins) → origin_at n (all_moved os) ≡ moved (origin_at n os)
  moved_at zero no_origins = refl
  moved_at (suc n) no_origins = refl
  moved_at zero (more_origins o os) = refl
  moved_at (suc n) (more_origins o os) = moved_at n os

  moved_field : (n : ℕ) (o : Origin) → field_origin n (moved o) ≡ moved (field_origin n o)
  moved_field n value = refl
  moved_field n made = refl
  moved_field n (own q) = refl
  moved_field n outer = refl
  moved_field n (named t q) = by (s == t)
    where
      by : (b : Bool) → field_origin n (if b then named x (q ++ p) else named t q) ≡ (if b then named x ((n ∷ q) ++ p) else named t (n ∷ q))
      by true = refl
      by false = refl
  moved_field n (struct os) = moved_at n os

  moved_value : (o : Origin) → is_value (moved o) ≡ is_value o
  moved_value value = refl
  moved_value made = refl
  moved_value (own q) = refl
  moved_value outer = refl
  moved_value (named t q) = by (s == t)
    where
      by : (b : Bool) → is_value (if b then named x (q ++ p) else named t q) ≡ false
      by true = refl
      by false = refl
  moved_value (struct os) = refl

  moved_values : (os : Origins) → are_values (all_moved os) ≡ are_values os
  moved_values no_origins = refl
  moved_values (more_origins o os) = let y = moved_value o in let z = moved_values os in λ i. y i && z i

  moved_struct : (os : Origins) → struct_origin (all_moved os) ≡ moved (struct_origin os)
  moved_struct os = ap (λ b. if b then value else struct (all_moved os)) (moved_values os) ∙ by (are_values os)
    where
      by : (b : Bool) → (if b then value else struct (all_moved os)) ≡ moved (if b then value else struct os)
      by true = refl
      by false = refl

  moved_one : (o : One) (y : Origin) → one_origin o (moved y) ≡ moved (one_origin o y)
  moved_one neg y = refl
  moved_one not y = refl
  moved_one (cast k) y = refl
  moved_one len y = refl
  moved_one (field n) y = moved_field n y
  moved_one finish y = refl
  moved_one (started b) y = refl

  moved_two : (o : Two) (y : Origin) → two_origin o (moved y) ≡ moved (two_origin o y)
  moved_two (binary op) y = refl
  moved_two and y = refl
  moved_two or y = refl
  moved_two look_up y = refl
  moved_two key_exists y = refl
  moved_two merge y = refl

  moved_three : (o : Three) (y : Origin) → three_origin o (moved y) ≡ moved (three_origin o y)
  moved_three if_else y = refl
  moved_three select y = refl
  moved_three slice y = refl

  moved_many : (o : Many) (os : Origins) → many_origin o (all_moved os) ≡ moved (many_origin o os)
  moved_many make_vec os = refl
  moved_many make_struct os = moved_struct os

  known_moved : (m : Option Origin) → known_origin (option_map moved m) ≡ moved (known_origin m)
  known_moved (Some o) = refl
  known_moved None = refl

  pub record Moves (g h : Named Origin) : Type 0 where
    pub moves : (y : ℕ) → look_for y h ≡ option_map moved (look_for y g)

  moves_behind : (b : ℕ) (o r : Origin) (g h : Named Origin) → r ≡ moved o → Moves g h → Moves ((b, o) ∷ g) ((b, r) ∷ h)
  moves_behind b o r g h e m = record { moves = λ y. by (y == b) (look_for y g) (look_for y h) (m.moves y) }
    where
      by : (c : Bool) (k l : Option Origin) → l ≡ option_map moved k → (if c then Some r else l) ≡ option_map moved (if c then Some o else k)
      by true k l f = ap Some e
      by false k l f = f

  leaf_moved : (l : Leaf) (g h : Named Origin) → Moves g h → leaf_origin l h ≡ moved (leaf_origin l g)
  leaf_moved (int k y) g h m = refl
  leaf_moved (truth b) g h m = refl
  leaf_moved (chars bs) g h m = refl
  leaf_moved (name t) g h m = ap known_origin (m.moves t) ∙ known_moved (look_for t g)
  leaf_moved (fresh b) g h m = refl

  mutual
    pub origin_moved : (e : ExprTree) (g h : Named Origin) → Moves g h → origin e h ≡ moved (origin e g)
    origin_moved (leaf a l) g h m = leaf_moved l g h m
    origin_moved (one a o e) g h m = ap (one_origin o) (origin_moved e g h m) ∙ moved_one o (origin e g)
    origin_moved (two a o e f) g h m = ap (two_origin o) (origin_moved e g h m) ∙ moved_two o (origin e g)
    origin_moved (three a o d e f) g h m = ap (three_origin o) (origin_moved e g h m) ∙ moved_three o (origin e g)
    origin_moved (many a o es) g h m = ap (many_origin o) (origins_moved es g h m) ∙ moved_many o (origins es g)
    origin_moved (let_in a b e f) g h m = origin_moved f ((b.sym.0, origin e g) ∷ g) ((b.sym.0, origin e h) ∷ h) (moves_behind b.sym.0 (origin e g) (origin e h) g h (origin_moved e g h m) m)
    origin_moved (loop a ls e b n y f) g h m = origin_moved e g h m
    origin_moved (iterate a e b f) g h m = refl

    origins_moved : (es : ExprTrees) (g h : Named Origin) → Moves g h → origins es h ≡ all_moved (origins es g)
    origins_moved no_exprs g h m = refl
    origins_moved (more_exprs e es) g h m = let y = origin_moved e g h m in let z = origins_moved es g h m in λ i. more_origins (y i) (z i)

  mutual
    pub not_made_moved : (o : Origin) → IsNotMade o → IsNotMade (moved o)
    not_made_moved value h = tt
    not_made_moved made h = h
    not_made_moved (own q) h = tt
    not_made_moved outer h = tt
    not_made_moved (named t q) h = by (s == t)
      where
        by : (b : Bool) → IsNotMade (if b then named x (q ++ p) else named t q)
        by true = tt
        by false = tt
    not_made_moved (struct os) h = all_not_made_moved os h

    all_not_made_moved : (os : Origins) → AreNotMade os → AreNotMade (all_moved os)
    all_not_made_moved no_origins h = tt
    all_not_made_moved (more_origins o os) h = (not_made_moved o h.0, all_not_made_moved os h.1)

  -- ---- where the name stands for a chain

  moves_look : (y : ℕ) (m : Option Origin) → s ≢ y → option_map (named_below y []) m ≡ option_map moved (option_map (named_below y []) m)
  moves_look y (Some o) ne = ap Some (sym (moved_there y [] o ne))
  moves_look y None ne = refl

  -- the names of the second environment, by their names, moved: the name itself stands for the chain by its own
  pub moves_by_name : (o r : Origin) (h : Named Origin) → look_for s h ≡ Some o → r ≡ named_below x p o → Moves (by_name h) ((s, r) ∷ by_name h)
  moves_by_name o r h e k = record { moves = λ y. by y (cases_eq y s) }
    where
      at_name : look_for s (by_name h) ≡ Some (named_below s [] o)
      at_name = look_for-by_name s h ∙ ap (option_map (named_below s [])) e

      by : (y : ℕ) → (y ≡ s) ⊎ (y ≢ s) → look_for y ((s, r) ∷ by_name h) ≡ option_map moved (look_for y (by_name h))
      by y (inl q) = rw (eq-eqb y s q) (ap Some (k ∙ sym (moved_here [] o)) ∙ sym (ap (option_map moved) (subst (λ z. look_for z (by_name h) ≡ Some (named_below s [] o)) (sym q) at_name)))
      by y (inr ne) = rw (ne_eqb y s ne) (look_for-by_name y h ∙ moves_look y (look_for y h) (λ q. ne (sym q)) ∙ ap (option_map moved) (sym (look_for-by_name y h)))
