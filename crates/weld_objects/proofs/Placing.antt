-- A call's body where it stands: its parameters are the numbers of objects, its binders numbers of its own.
use Rattle.std.proofs.Common.{◌≡◌, ℕ, ◌+◌, ◌<◌, ◌≤◌, ◌==◌, Bool, true, false, if◌then◌else◌, List, [], ◌∷◌, length, Option, Some, None, refl, ◌∙◌, inl, inr, arith, ne_eqb}
use Rattle.weld_tree.specs.declared.binder.Binder.{Binder}
use Rattle.weld_tree.specs.Program.{ProgramTree, bound, IsOneOf, IsProgram, syms_of}
use Rattle.weld_tree.specs.Blank.{distance}
use Rattle.weld_tree.proofs.SameLaws.{distance_is_one_name}
use Rattle.weld_meaning.specs.Environment.{Named, look_for}
use Rattle.weld_meaning.specs.Names.{Binds}
use Rattle.weld_objects.specs.Renamed.{IsAlone, HaveMoved}
use Rattle.weld_objects.proofs.Trees.{bound_move}
use Rattle.weld_objects.specs.Lowered.{placed, placed_body}
use Rattle.weld_objects.proofs.Lists.{apart, distinct_behind, binds_all, upward, counted}

-- each parameter with what it stands for
abbrev pub paired : {A : Type 0} → List Binder → List A → Named A
paired [] xs = []
paired (b ∷ bs) [] = []
paired (b ∷ bs) (x ∷ xs) = (b.sym.0, x) ∷ paired bs xs

-- each of the numbers stands for its own
abbrev pub Stand : {A : Type 0} → List ℕ → List A → Named A → Type 0
Stand [] [] g = Unit {0}
Stand [] (x ∷ xs) g = ⊥
Stand (n ∷ ns) [] g = ⊥
Stand (n ∷ ns) (x ∷ xs) g = (look_for n g ≡ Some x) × Stand ns xs g

-- what stands for something has a number below that one
pub record Below {A : Type 0} (base : ℕ) (g : Named A) : Type 0 where
  pub none : (s : ℕ) → base ≤ s → look_for s g ≡ None

pub found_below : {A : Type 0} (base : ℕ) (g : Named A) (s : ℕ) (x : A) → Below base g → look_for s g ≡ Some x → s < base
found_below {A} base g s x b e =
    let not_above : ¬ (base ≤ s) = λ h. clash (look_for s g) (b.none s h) e in omega (arith, not_above)
  where
    clash : (m : Option A) → m ≡ None → m ≡ Some x → ⊥
    clash m p q = let no : ⊥ = cc in no

-- each of the numbers is below that one
abbrev pub AreUnder : ℕ → List ℕ → Type 0
AreUnder base [] = Unit {0}
AreUnder base (n ∷ ns) = (n < base) × AreUnder base ns

pub under_of : {A : Type 0} (base : ℕ) (ns : List ℕ) (xs : List A) (g : Named A) → Below base g → Stand ns xs g → AreUnder base ns
under_of base [] xs g b h = tt
under_of base (n ∷ ns) [] g b h = absurd h
under_of base (n ∷ ns) (x ∷ xs) g b h = (found_below base g n x b h.0, under_of base ns xs g b h.1)

placed_at : {A : Type 0} (base : ℕ) (bs : List Binder) (ns : List ℕ) (xs : List A) (binders : List ℕ) (g : Named A) (s : ℕ) → Stand ns xs g → Below base g → look_for (placed base bs ns binders s) g ≡ look_for s (paired bs xs)
placed_at base [] ns xs binders g s h b = b.none (base + distance binders s) (omega arith)
placed_at base (c ∷ bs) [] [] binders g s h b = b.none (base + distance binders s) (omega arith)
placed_at base (c ∷ bs) [] (x ∷ xs) binders g s h b = absurd h
placed_at base (c ∷ bs) (n ∷ ns) [] binders g s h b = absurd h
placed_at base (c ∷ bs) (n ∷ ns) (x ∷ xs) binders g s h b = by (s == c.sym.0) (placed_at base bs ns xs binders g s h.1 b)
  where
    by : (d : Bool) → look_for (placed base bs ns binders s) g ≡ look_for s (paired bs xs) → look_for (if d then n else placed base bs ns binders s) g ≡ (if d then Some x else look_for s (paired bs xs))
    by true k = h.0
    by false k = k

pub placed_moves : {A : Type 0} (base : ℕ) (bs : List Binder) (ns : List ℕ) (xs : List A) (binders : List ℕ) (g : Named A) → Stand ns xs g → Below base g → HaveMoved (placed base bs ns binders) (paired bs xs) g
placed_moves base bs ns xs binders g h b = record { same = λ s. placed_at base bs ns xs binders g s h b }

-- ---- its binders are alone

placed_own : (base : ℕ) (bs : List Binder) (ns : List ℕ) (binders : List ℕ) (s : ℕ) → ¬ (IsOneOf (syms_of bs) s) → placed base bs ns binders s ≡ base + distance binders s
placed_own base [] ns binders s h = refl
placed_own base (c ∷ bs) [] binders s h = refl
placed_own base (c ∷ bs) (n ∷ ns) binders s h = rw (ne_eqb s c.sym.0 (λ e. h (inl e))) (placed_own base bs ns binders s (λ k. h (inr k)))

placed_back : (base : ℕ) (bs : List Binder) (ns : List ℕ) (binders : List ℕ) (s d : ℕ) → AreUnder base ns → placed base bs ns binders s ≡ base + d → distance binders s ≡ d
placed_back base [] ns binders s d u e = omega (arith, e)
placed_back base (c ∷ bs) [] binders s d u e = omega (arith, e)
placed_back base (c ∷ bs) (n ∷ ns) binders s d u e = by (s == c.sym.0) (placed_back base bs ns binders s d u.1) e
  where
    by : (q : Bool) → (placed base bs ns binders s ≡ base + d → distance binders s ≡ d) → (if q then n else placed base bs ns binders s) ≡ base + d → distance binders s ≡ d
    by true k e = absurd (omega (arith, e, u.0))
    by false k e = k e

placed_alone : (base : ℕ) (bs : List Binder) (ns : List ℕ) (binders : List ℕ) (b : ℕ) → AreUnder base ns → ¬ (IsOneOf (syms_of bs) b) → IsAlone (placed base bs ns binders) b
placed_alone base bs ns binders b u h = record { alone = λ s e. distance_is_one_name binders s b (placed_back base bs ns binders s (distance binders b) u (e ∙ placed_own base bs ns binders b h)) }

-- of a program each binder is alone where its body is placed
pub body_alone : (base : ℕ) (ns : List ℕ) (p : ProgramTree) → IsProgram p.params p.body → AreUnder base ns → Binds (IsAlone (placed base p.params ns (bound p.body))) p.body
body_alone base ns p h u =
    binds_all (IsAlone (placed base p.params ns (bound p.body))) p.body
    (λ b k. placed_alone base p.params ns (bound p.body) b u (λ q. apart (syms_of p.params) (bound p.body) b h.distinct k q))

-- and their new numbers stand one after another
pub body_bound : (base : ℕ) (ns : List ℕ) (p : ProgramTree) → IsProgram p.params p.body → bound (placed_body base ns p) ≡ upward base (length (bound p.body))
body_bound base ns p h =
    bound_move (placed base p.params ns (bound p.body)) p.body
    ∙ counted base (placed base p.params ns (bound p.body)) (bound p.body) (distinct_behind (syms_of p.params) (bound p.body) h.distinct)
    (λ s k. placed_own base p.params ns (bound p.body) s (λ q. apart (syms_of p.params) (bound p.body) s h.distinct k q))
