-- Names followed by field accesses, compared from their ends.
use Rattle.std.proofs.Common.{◌≡◌, ℕ, ◌==◌, ◌&&◌, Bool, true, false, [], Option, Some, None, refl, sym, ap, ◌∙◌}
use Rattle.weld_tree.specs.ExprTree.{At, ExprTree, leaf, one, Leaf, int, truth, chars, name, fresh, field}
use Rattle.weld_meaning.specs.Origin.{Path}
use Rattle.weld_meaning.specs.Available.{same_path, chain_of, chain_of_one, chain_of_leaf}
use Rattle.weld_predicate.specs.Guard.{same_chain}

-- ---- names

true_both : (b : Bool) → (b && true) ≡ b
true_both true = refl
true_both false = refl

pub same_names : (s t : ℕ) (e : ExprTree) (a : At) → e ≡ leaf a (name t) → (s == t) ≡ same_chain (Some (s, [])) (chain_of e)
same_names s t e a q = sym (ap (λ x. same_chain (Some (s, [])) (chain_of x)) q ∙ true_both (s == t))

-- a name is no field, and what is no chain is no name
pub no_name : (s n : ℕ) (c : Option (ℕ × Path)) (e : ExprTree) → chain_of e ≡ chain_of_one (field n) c → false ≡ same_chain (Some (s, [])) (chain_of e)
no_name s n None e q = ap (same_chain (Some (s, []))) (sym q)
no_name s n (Some d) e q = sym (ap (same_chain (Some (s, []))) q ∙ and_false (s == d.0))
  where
    and_false : (b : Bool) → (b && false) ≡ false
    and_false true = refl
    and_false false = refl

-- two fields
fields_by : (n m : ℕ) (c d : Option (ℕ × Path)) → ((n == m) && same_chain c d) ≡ same_chain (chain_of_one (field n) c) (chain_of_one (field m) d)
fields_by n m None d = and_false (n == m)
  where
    and_false : (b : Bool) → (b && false) ≡ false
    and_false true = refl
    and_false false = refl
fields_by n m (Some c) None = and_false (n == m)
  where
    and_false : (b : Bool) → (b && false) ≡ false
    and_false true = refl
    and_false false = refl
fields_by n m (Some c) (Some d) = swap (n == m) (c.0 == d.0) (same_path c.1 d.1)
  where
    swap : (a b p : Bool) → (a && (b && p)) ≡ (b && (a && p))
    swap true b p = refl
    swap false true p = refl
    swap false false p = refl

pub same_fields : (n m : ℕ) (c : Option (ℕ × Path)) (e f : ExprTree) (a : At) → e ≡ one a (field m) f → ((n == m) && same_chain c (chain_of f)) ≡ same_chain (chain_of_one (field n) c) (chain_of e)
same_fields n m c e f a q = fields_by n m c (chain_of f) ∙ sym (ap (λ x. same_chain (chain_of_one (field n) c) (chain_of x)) q)

-- a leaf is no field
leaf_by : (n : ℕ) (c : Option (ℕ × Path)) (l : Leaf) → false ≡ same_chain (chain_of_one (field n) c) (chain_of_leaf l)
leaf_by n None l = refl
leaf_by n (Some d) (int k x) = refl
leaf_by n (Some d) (truth b) = refl
leaf_by n (Some d) (chars bs) = refl
leaf_by n (Some d) (name s) = by (d.0 == s)
  where
    by : (b : Bool) → false ≡ (b && false)
    by true = refl
    by false = refl
leaf_by n (Some d) (fresh b) = refl

pub leaf_no_field : (n : ℕ) (c : Option (ℕ × Path)) (e : ExprTree) (a : At) (l : Leaf) → e ≡ leaf a l → false ≡ same_chain (chain_of_one (field n) c) (chain_of e)
leaf_no_field n c e a l q = leaf_by n c l ∙ sym (ap (λ x. same_chain (chain_of_one (field n) c) (chain_of x)) q)

-- nor is what is no chain
none_by : (c : Option (ℕ × Path)) → false ≡ same_chain c None
none_by None = refl
none_by (Some d) = refl

pub no_chain : (n : ℕ) (c : Option (ℕ × Path)) (e : ExprTree) → chain_of e ≡ None → false ≡ same_chain (chain_of_one (field n) c) (chain_of e)
no_chain n c e q = none_by (chain_of_one (field n) c) ∙ sym (ap (same_chain (chain_of_one (field n) c)) q)
