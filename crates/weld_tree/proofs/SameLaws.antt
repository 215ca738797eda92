-- What sameness keeps.
use Rattle.std.proofs.Common.{◌≡◌, ◌≢◌, ℕ, suc, ◌+◌, ◌<◌, List, [], ◌∷◌, length, refl, sym, ap, ◌∙◌, arith, eq-eqb, inl, inr, ◌⊎◌}
use Rattle.std.proofs.lemmas.Bool.{ne_eqb, cases_eq}
use Rattle.weld_tree.specs.ExprTree.{ExprTree, leaf, one, two, three, many, let_in, loop, iterate, ExprTrees, no_exprs, more_exprs, LegTree, whole, strided, LegTrees, no_legs, more_legs}
use Rattle.weld_tree.specs.ExprFalls.{expr_nodes, exprs_nodes, leg_nodes, legs_nodes}
use Rattle.weld_tree.specs.Program.{ProgramTree, IsOneOf, loops, loops_in, loops_in_leg, loops_in_legs, syms_of}
use Rattle.weld_tree.specs.Blank.{AreSame, bare, bare_all, bare_leg, bare_legs, distance}

mutual
  loops-bare : (e : ExprTree) (scope : List ℕ) → loops (bare e scope) ≡ loops e
  loops-bare (leaf a l) scope = refl
  loops-bare (one a o e) scope = loops-bare e scope
  loops-bare (two a t e f) scope = λ i. loops-bare e scope i + loops-bare f scope i
  loops-bare (three a t e f g) scope = λ i. loops-bare e scope i + loops-bare f scope i + loops-bare g scope i
  loops-bare (many a m es) scope = loops_in-bare_all es scope
  loops-bare (let_in a b e f) scope = λ i. loops-bare e scope i + loops-bare f (b.sym.0 ∷ scope) i
  loops-bare (loop a ls e b n x f) scope = λ i. 1 + (loops_in_legs-bare_legs ls scope i + loops-bare e scope i + loops-bare f (x.sym.0 ∷ n.sym.0 ∷ b.sym.0 ∷ scope) i)
  loops-bare (iterate a e b f) scope = λ i. loops-bare e scope i + loops-bare f (b.sym.0 ∷ scope) i

  loops_in-bare_all : (es : ExprTrees) (scope : List ℕ) → loops_in (bare_all es scope) ≡ loops_in es
  loops_in-bare_all no_exprs scope = refl
  loops_in-bare_all (more_exprs e es) scope = λ i. loops-bare e scope i + loops_in-bare_all es scope i

  loops_in_leg-bare_leg : (l : LegTree) (scope : List ℕ) → loops_in_leg (bare_leg l scope) ≡ loops_in_leg l
  loops_in_leg-bare_leg (whole e) scope = loops-bare e scope
  loops_in_leg-bare_leg (strided e f g h) scope = λ i. loops-bare e scope i + loops-bare f scope i + loops-bare g scope i + loops-bare h scope i

  loops_in_legs-bare_legs : (ls : LegTrees) (scope : List ℕ) → loops_in_legs (bare_legs ls scope) ≡ loops_in_legs ls
  loops_in_legs-bare_legs no_legs scope = refl
  loops_in_legs-bare_legs (more_legs l ls) scope = λ i. loops_in_leg-bare_leg l scope i + loops_in_legs-bare_legs ls scope i

mutual
  nodes-bare : (e : ExprTree) (scope : List ℕ) → expr_nodes (bare e scope) ≡ expr_nodes e
  nodes-bare (leaf a l) scope = refl
  nodes-bare (one a o e) scope = λ i. 1 + nodes-bare e scope i
  nodes-bare (two a t e f) scope = λ i. 1 + (nodes-bare e scope i + nodes-bare f scope i)
  nodes-bare (three a t e f g) scope = λ i. 1 + (nodes-bare e scope i + nodes-bare f scope i + nodes-bare g scope i)
  nodes-bare (many a m es) scope = λ i. 1 + exprs_nodes-bare_all es scope i
  nodes-bare (let_in a b e f) scope = λ i. 1 + (nodes-bare e scope i + nodes-bare f (b.sym.0 ∷ scope) i)
  nodes-bare (loop a ls e b n x f) scope = λ i. 1 + (legs_nodes-bare_legs ls scope i + nodes-bare e scope i + nodes-bare f (x.sym.0 ∷ n.sym.0 ∷ b.sym.0 ∷ scope) i)
  nodes-bare (iterate a e b f) scope = λ i. 1 + (nodes-bare e scope i + nodes-bare f (b.sym.0 ∷ scope) i)

  exprs_nodes-bare_all : (es : ExprTrees) (scope : List ℕ) → exprs_nodes (bare_all es scope) ≡ exprs_nodes es
  exprs_nodes-bare_all no_exprs scope = refl
  exprs_nodes-bare_all (more_exprs e es) scope = λ i. nodes-bare e scope i + exprs_nodes-bare_all es scope i

  leg_nodes-bare_leg : (l : LegTree) (scope : List ℕ) → leg_nodes (bare_leg l scope) ≡ leg_nodes l
  leg_nodes-bare_leg (whole e) scope = nodes-bare e scope
  leg_nodes-bare_leg (strided e f g h) scope = λ i. nodes-bare e scope i + nodes-bare f scope i + nodes-bare g scope i + nodes-bare h scope i

  legs_nodes-bare_legs : (ls : LegTrees) (scope : List ℕ) → legs_nodes (bare_legs ls scope) ≡ legs_nodes ls
  legs_nodes-bare_legs no_legs scope = refl
  legs_nodes-bare_legs (more_legs l ls) scope = λ i. leg_nodes-bare_leg l scope i + legs_nodes-bare_legs ls scope i

pub same_loops : (p q : ProgramTree) → AreSame p q → loops p.body ≡ loops q.body
same_loops p q e = sym (loops-bare p.body (syms_of p.params)) ∙ ap (λ r. loops r.body) e ∙ loops-bare q.body (syms_of q.params)

pub same_nodes : (p q : ProgramTree) → AreSame p q → expr_nodes p.body ≡ expr_nodes q.body
same_nodes p q e = sym (nodes-bare p.body (syms_of p.params)) ∙ ap (λ r. expr_nodes r.body) e ∙ nodes-bare q.body (syms_of q.params)

-- by whether the newest name is meant
distance_here : (t s : ℕ) (ts : List ℕ) → t ≡ s → distance (t ∷ ts) s ≡ 0
distance_here t s ts e = rw (eq-eqb t s e) refl

distance_there : (t s : ℕ) (ts : List ℕ) → t ≢ s → distance (t ∷ ts) s ≡ suc (distance ts s)
distance_there t s ts e = rw (ne_eqb t s e) refl

pub bound_is_near : (scope : List ℕ) (s : ℕ) → IsOneOf scope s → distance scope s < length scope
bound_is_near [] s h = absurd h
bound_is_near (t ∷ ts) s h = by_newest (bound_is_near ts s) (cases_eq t s) h
  where
    by_newest : (IsOneOf ts s → distance ts s < length ts) → (t ≡ s) ⊎ (t ≢ s) → (s ≡ t) ⊎ IsOneOf ts s → distance (t ∷ ts) s < length (t ∷ ts)
    by_newest older (inl e) h = rw (distance_here t s ts e) (omega arith)
    by_newest older (inr ne) (inl p) = absurd (ne (sym p))
    by_newest older (inr ne) (inr q) = let r : distance ts s < length ts = older q in rw (distance_there t s ts ne) (omega arith)

pub free_is_far : (scope : List ℕ) (s : ℕ) → ¬ (IsOneOf scope s) → distance scope s ≡ length scope + s
free_is_far [] s h = omega arith
free_is_far (t ∷ ts) s h =
    let ne : t ≢ s = λ e. h (inl (sym e)) in
    let r : distance ts s ≡ length ts + s = free_is_far ts s (λ q. h (inr q)) in
    rw (distance_there t s ts ne) (omega arith)

pub distance_is_one_name : (scope : List ℕ) (s t : ℕ) → distance scope s ≡ distance scope t → s ≡ t
distance_is_one_name [] s t e = e
distance_is_one_name (u ∷ us) s t e = by_newest (distance_is_one_name us s t) (cases_eq u s) (cases_eq u t)
  where
    by_newest : (distance us s ≡ distance us t → s ≡ t) → (u ≡ s) ⊎ (u ≢ s) → (u ≡ t) ⊎ (u ≢ t) → s ≡ t
    by_newest older (inl p) (inl q) = sym p ∙ q
    by_newest older (inl p) (inr q) = absurd (omega (arith, distance_here u s us p, distance_there u t us q, e))
    by_newest older (inr p) (inl q) = absurd (omega (arith, distance_there u s us p, distance_here u t us q, e))
    by_newest older (inr p) (inr q) = older (omega (arith, distance_there u s us p, distance_there u t us q, e))
