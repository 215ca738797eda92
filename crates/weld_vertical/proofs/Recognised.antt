-- Which loops the test recognises: what holds of the pattern holds of them.
use Rattle.std.proofs.Common.{◌≡◌, ℕ, ◌==◌, true, ◌&&◌, eqb-true, ◌⊎◌, inl, inr}
use Rattle.weld_tree.specs.declared.binder.Binder.{Binder}
use Rattle.weld_tree.specs.TypeTree.{TypeTree, list, total, keyed, cells, groups}
use Rattle.weld_tree.specs.ExprTree.{At, ExprTree, leaf, one, two, three, many, let_in, loop, iterate, whole, strided, LegTrees, no_legs, more_legs, int, truth, chars, name, fresh, neg, not, cast, len, field, finish, started}
use Rattle.weld_substitution.proofs.Chains.{or_true}
use Rattle.weld_substitution.proofs.Following.{and_true}
use Rattle.weld_substitution.specs.Uses.{uses}
use Rattle.weld_vertical.specs.Sinking.{starts_list, ends_in_merge, is_spine, merges, is_producer, is_filter, is_made, is_produced, is_only_leg, is_consumer}
use Rattle.weld_vertical.proofs.Spine.{spine_of_ends}

list_by : (P : ExprTree → Type 0) → ((o : At) (item : TypeTree) → P (leaf o (fresh (list item)))) → (s : ExprTree) → starts_list s ≡ true → P s
list_by P f (leaf o (int k x)) h = let nothing : ⊥ = cc in absurd nothing
list_by P f (leaf o (truth b)) h = let nothing : ⊥ = cc in absurd nothing
list_by P f (leaf o (chars bs)) h = let nothing : ⊥ = cc in absurd nothing
list_by P f (leaf o (name s)) h = let nothing : ⊥ = cc in absurd nothing
list_by P f (leaf o (fresh (list item))) h = f o item
list_by P f (leaf o (fresh (total t op))) h = let nothing : ⊥ = cc in absurd nothing
list_by P f (leaf o (fresh (keyed k v op))) h = let nothing : ⊥ = cc in absurd nothing
list_by P f (leaf o (fresh (cells t op))) h = let nothing : ⊥ = cc in absurd nothing
list_by P f (leaf o (fresh (groups k v))) h = let nothing : ⊥ = cc in absurd nothing
list_by P f (one a o e) h = let nothing : ⊥ = cc in absurd nothing
list_by P f (two a o e g) h = let nothing : ⊥ = cc in absurd nothing
list_by P f (three a o e g k) h = let nothing : ⊥ = cc in absurd nothing
list_by P f (many a o es) h = let nothing : ⊥ = cc in absurd nothing
list_by P f (let_in a b e g) h = let nothing : ⊥ = cc in absurd nothing
list_by P f (loop a ls e b n x g) h = let nothing : ⊥ = cc in absurd nothing
list_by P f (iterate a e b g) h = let nothing : ⊥ = cc in absurd nothing

-- a loop that starts with an empty list and merges once
abbrev AtProducer : (ExprTree → Type 0) → Type 0
AtProducer P =
    (p o : At) (item : TypeTree) (ks : LegTrees) (d i r : Binder) (g : ExprTree) → ends_in_merge d.sym.0 g ≡ true → uses g d.sym.0 ≡ 1
    → P (loop p ks (leaf o (fresh (list item))) d i r g)

producer_by : (P : ExprTree → Type 0) → AtProducer P → (q : ExprTree) → is_producer q ≡ true → P q
producer_by P f (leaf a l) h = let nothing : ⊥ = cc in absurd nothing
producer_by P f (one a o e) h = let nothing : ⊥ = cc in absurd nothing
producer_by P f (two a o e g) h = let nothing : ⊥ = cc in absurd nothing
producer_by P f (three a o e g k) h = let nothing : ⊥ = cc in absurd nothing
producer_by P f (many a o es) h = let nothing : ⊥ = cc in absurd nothing
producer_by P f (let_in a b e g) h = let nothing : ⊥ = cc in absurd nothing
producer_by P f (loop p ks s d i r g) h =
    let x = and_true (starts_list s) (ends_in_merge d.sym.0 g && (uses g d.sym.0 == 1)) h in
    let y = and_true (ends_in_merge d.sym.0 g) (uses g d.sym.0 == 1) x.1 in
    list_by (λ s. P (loop p ks s d i r g)) (λ o item. f p o item ks d i r g y.0 (eqb-true (uses g d.sym.0) 1 y.1)) s x.0
producer_by P f (iterate a e b g) h = let nothing : ⊥ = cc in absurd nothing

-- one that merges at one end of a spine
abbrev AtFilter : (ExprTree → Type 0) → Type 0
AtFilter P = (p o : At) (item : TypeTree) (ks : LegTrees) (d i r : Binder) (g : ExprTree) → is_spine d.sym.0 g ≡ true → merges g ≡ 1 → P (loop p ks (leaf o (fresh (list item))) d i r g)

filter_by : (P : ExprTree → Type 0) → AtFilter P → (q : ExprTree) → is_filter q ≡ true → P q
filter_by P f (leaf a l) h = let nothing : ⊥ = cc in absurd nothing
filter_by P f (one a o e) h = let nothing : ⊥ = cc in absurd nothing
filter_by P f (two a o e g) h = let nothing : ⊥ = cc in absurd nothing
filter_by P f (three a o e g k) h = let nothing : ⊥ = cc in absurd nothing
filter_by P f (many a o es) h = let nothing : ⊥ = cc in absurd nothing
filter_by P f (let_in a b e g) h = let nothing : ⊥ = cc in absurd nothing
filter_by P f (loop p ks s d i r g) h =
    let x = and_true (starts_list s) (is_spine d.sym.0 g && (merges g == 1)) h in
    let y = and_true (is_spine d.sym.0 g) (merges g == 1) x.1 in
    list_by (λ s. P (loop p ks s d i r g)) (λ o item. f p o item ks d i r g y.0 (eqb-true (merges g) 1 y.1)) s x.0
filter_by P f (iterate a e b g) h = let nothing : ⊥ = cc in absurd nothing

-- each row of the list has the number of the producer's, or the consumer, with this row number and body, doesn't use it
abbrev pub Numbered : ℕ → ExprTree → ℕ → ExprTree → Type 0
Numbered n h d g = (ends_in_merge d g ≡ true) ⊎ (uses h n ≡ 0)

-- one of both
abbrev pub AtMade : ℕ → ExprTree → (ExprTree → Type 0) → Type 0
AtMade n h P =
    (p o : At) (item : TypeTree) (ks : LegTrees) (d i r : Binder) (g : ExprTree) → is_spine d.sym.0 g ≡ true → merges g ≡ 1 → Numbered n h d.sym.0 g
    → P (loop p ks (leaf o (fresh (list item))) d i r g)

module _ (n : ℕ) (h : ExprTree) where
  pub made_by : (P : ExprTree → Type 0) → AtMade n h P → (q : ExprTree) → is_made n h q ≡ true → P q
  made_by P f q m = by (or_true (is_producer q) (is_filter q && (uses h n == 0)) m)
    where
      by : (is_producer q ≡ true) ⊎ ((is_filter q && (uses h n == 0)) ≡ true) → P q
      by (inl y) =
          producer_by P
          (λ p o item ks d i r g ends once. let w = spine_of_ends d.sym.0 g ends once in f p o item ks d i r g w.0 w.1 (inl ends)) q y
      by (inr y) =
          let z = and_true (is_filter q) (uses h n == 0) y in
          filter_by P (λ p o item ks d i r g spine once. f p o item ks d i r g spine once (inr (eqb-true (uses h n) 0 z.1))) q z.0

  produced_by : (P : ExprTree → Type 0) → ((m : At) → AtMade n h (λ q. P (one m finish q))) → (q : ExprTree) → is_produced n h q ≡ true → P q
  produced_by P f (leaf a l) k = let nothing : ⊥ = cc in absurd nothing
  produced_by P f (one m neg e) k = let nothing : ⊥ = cc in absurd nothing
  produced_by P f (one m not e) k = let nothing : ⊥ = cc in absurd nothing
  produced_by P f (one m (cast c) e) k = let nothing : ⊥ = cc in absurd nothing
  produced_by P f (one m len e) k = let nothing : ⊥ = cc in absurd nothing
  produced_by P f (one m (field c) e) k = let nothing : ⊥ = cc in absurd nothing
  produced_by P f (one m finish e) k = made_by (λ q. P (one m finish q)) (f m) e k
  produced_by P f (one m (started b) e) k = let nothing : ⊥ = cc in absurd nothing
  produced_by P f (two a o e g) k = let nothing : ⊥ = cc in absurd nothing
  produced_by P f (three a o e g c) k = let nothing : ⊥ = cc in absurd nothing
  produced_by P f (many a o es) k = let nothing : ⊥ = cc in absurd nothing
  produced_by P f (let_in a b e g) k = let nothing : ⊥ = cc in absurd nothing
  produced_by P f (loop a ls e b m x g) k = let nothing : ⊥ = cc in absurd nothing
  produced_by P f (iterate a e b g) k = let nothing : ⊥ = cc in absurd nothing

  only_by : (P : LegTrees → Type 0) → ((m : At) → AtMade n h (λ q. P (more_legs (whole (one m finish q)) no_legs))) → (ls : LegTrees) → is_only_leg n h ls ≡ true → P ls
  only_by P f no_legs k = let nothing : ⊥ = cc in absurd nothing
  only_by P f (more_legs (whole e) no_legs) k = produced_by (λ q. P (more_legs (whole q) no_legs)) f e k
  only_by P f (more_legs (strided e g c l) no_legs) k = let nothing : ⊥ = cc in absurd nothing
  only_by P f (more_legs l (more_legs m ls)) k = let nothing : ⊥ = cc in absurd nothing

pub consumer_by : (P : ExprTree → Type 0) → ((a : At) (e : ExprTree) (b n x : Binder) (f : ExprTree) (m : At) → AtMade n.sym.0 f (λ q. P (loop a (more_legs (whole (one m finish q)) no_legs) e b n x f))) → (e : ExprTree) → is_consumer e ≡ true → P e
consumer_by P f (leaf a l) h = let nothing : ⊥ = cc in absurd nothing
consumer_by P f (one a o e) h = let nothing : ⊥ = cc in absurd nothing
consumer_by P f (two a o e g) h = let nothing : ⊥ = cc in absurd nothing
consumer_by P f (three a o e g k) h = let nothing : ⊥ = cc in absurd nothing
consumer_by P f (many a o es) h = let nothing : ⊥ = cc in absurd nothing
consumer_by P f (let_in a b e g) h = let nothing : ⊥ = cc in absurd nothing
consumer_by P f (loop a ls e b n x g) h = only_by n.sym.0 g (λ ls. P (loop a ls e b n x g)) (f a e b n x g) ls h
consumer_by P f (iterate a e b g) h = let nothing : ⊥ = cc in absurd nothing
