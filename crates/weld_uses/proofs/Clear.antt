-- Binders with numbers of their own stay clear of the builders that are there.
use Rattle.std.proofs.Common.{◌≡◌, ℕ, List, [], ◌∷◌, ◌++◌, inl, inr}
use Rattle.std.proofs.lemmas.Bool.{ne_eqb}
use Rattle.weld_tree.specs.Program.{IsOneOf, AreDistinct}
use Rattle.weld_meaning.specs.Origin.{Path}
use Rattle.weld_meaning.specs.Available.{Taken}
use Rattle.weld_meaning.specs.LinearWalk.{Left, after_taking}
use Rattle.weld_linear.specs.AvailableView.{of_name}
use Rattle.weld_uses.specs.Walks.{IsAbsent, AreClear}
use Rattle.weld_uses.proofs.Taking.{absent_left}

one_of_first : (xs ys : List ℕ) (s : ℕ) → IsOneOf xs s → IsOneOf (xs ++ ys) s
one_of_first [] ys s h = absurd h
one_of_first (x ∷ xs) ys s h = elim h [ inl e ↦ inl e | inr k ↦ inr (one_of_first xs ys s k) ]

one_of_second : (xs ys : List ℕ) (s : ℕ) → IsOneOf ys s → IsOneOf (xs ++ ys) s
one_of_second [] ys s h = h
one_of_second (x ∷ xs) ys s h = inr (one_of_second xs ys s h)

pub clear_first : (xs ys : List ℕ) (l : Left) → AreClear (xs ++ ys) l → AreClear xs l
clear_first [] ys l h = tt
clear_first (x ∷ xs) ys l h = (λ k. h.0 (one_of_first xs ys x k), h.1, clear_first xs ys l h.2)

pub clear_second : (xs ys : List ℕ) (l : Left) → AreClear (xs ++ ys) l → AreClear ys l
clear_second [] ys l h = h
clear_second (x ∷ xs) ys l h = clear_second xs ys l h.2

-- where some are taken
pub clear_left : (xs : List ℕ) (t : Taken) (l : Left) → AreClear xs l → AreClear xs (after_taking t l)
clear_left [] t l h = tt
clear_left (x ∷ xs) t l h = (h.0, absent_left t x l h.1, clear_left xs t l h.2)

absent_more : (s x : ℕ) (ps : List Path) (l : Left) → (x ≡ s → ⊥) → IsAbsent s l → IsAbsent s (of_name x ps ++ l)
absent_more s x [] l n h = h
absent_more s x (p ∷ ps) l n h = (ne_eqb x s n, absent_more s x ps l n h)

-- where the builders of another binder are there
clear_more : (x : ℕ) (xs : List ℕ) (ps : List Path) (l : Left) → (IsOneOf xs x → ⊥) → AreClear xs l → AreClear xs (of_name x ps ++ l)
clear_more x [] ps l n h = tt
clear_more x (s ∷ xs) ps l n h = (h.0, absent_more s x ps l (λ e. n (inl e)) h.1, clear_more x xs ps l (λ k. n (inr k)) h.2)

pub clear_bound : (x : ℕ) (xs : List ℕ) (ps : List Path) (l : Left) → AreClear (x ∷ xs) l → AreClear xs (of_name x ps ++ l)
clear_bound x xs ps l h = clear_more x xs ps l h.0 h.2

-- where none is there
pub clear_none : (xs : List ℕ) (l : Left) → AreClear xs l → AreClear xs []
clear_none [] l h = tt
clear_none (x ∷ xs) l h = (h.0, tt, clear_none xs l h.2)

pub clear_distinct : (xs : List ℕ) → AreDistinct xs → AreClear xs []
clear_distinct [] h = tt
clear_distinct (x ∷ xs) h = (h.0, tt, clear_distinct xs h.1)

pub distinct_second : (xs ys : List ℕ) → AreDistinct (xs ++ ys) → AreDistinct ys
distinct_second [] ys h = h
distinct_second (x ∷ xs) ys h = distinct_second xs ys h.1

-- a binder and what its body binds
pub clear_body : (s : ℕ) (xs ys : List ℕ) (l : Left) → AreClear (s ∷ (xs ++ ys)) l → AreClear (s ∷ ys) l
clear_body s xs ys l h = (λ k. h.0 (one_of_second xs ys s k), h.1, clear_second xs ys l h.2)

pub clear_lambda : (b n x : ℕ) (xs : List ℕ) (l : Left) → AreClear (b ∷ n ∷ x ∷ xs) l → AreClear (b ∷ xs) []
clear_lambda b n x xs l h = (λ k. h.0 (inr (inr k)), tt, clear_none xs l h.2.2.2)
