-- The bodies of two loops over one vector, as the fields of one body: each answers its own field and takes nothing else.
use Rattle.std.proofs.Common.{◌≡◌, ◌≢◌, ◌⊎◌, inl, inr, ℕ, zero, suc, ◌==◌, Bool, true, false, ◌&&◌, ◌||◌, if◌then◌else◌, [], ◌∷◌, ◌++◌, Option, Some, None, refl, ap, sym, subst, ◌∙◌, eqb-true, eq-eqb, ne_eqb}
use Rattle.weld_tree.specs.ExprTree.{At, ExprTree, leaf, one, two, three, many, let_in, loop, iterate, ExprTrees, no_exprs, more_exprs, name, field, make_struct}
use Rattle.weld_tree.specs.declared.binder.Binder.{Binder}
use Rattle.weld_meaning.specs.Environment.{Named, look_for}
use Rattle.weld_meaning.specs.Names.{IsFree, AgreeOn}
use Rattle.weld_meaning.specs.Origin.{Path, Origin, value, made, own, struct, no_origins, more_origins, field_origin, known_origin, origin_of_name, struct_origin, origin, from_within, all_from_within, Origins, outer, named, own_paths, outside, in_body}
use Rattle.weld_meaning.specs.Linear.{IsSeen, Keeps}
use Rattle.weld_meaning.specs.Available.{at_path, field_within, is_builder_path, is_below, same_path, chain_takes, takes, some_take, Taken, Apart, TakesAll, without, Splits}
use Rattle.weld_meaning.proofs.FreeNames.{origin_free, keeps_free, taken_free, splits_free}
use Rattle.weld_joining.proofs.Relabelled.{below, all_below, relabelled, origin_below}
use Rattle.weld_joining.proofs.Relabelling.{keeps_below, taken_below, takes_all, splits_below}
use Rattle.weld_joining.proofs.Taking.{Shown, shown, unseen, outside_name}
use Rattle.weld_joining.proofs.Looking.{skip, there, forward, over, instead}

-- ---- what stands outside has no own paths

mutual
  within_stays : (k : ℕ) (o : Origin) → below k (from_within o) ≡ from_within o
  within_stays k value = refl
  within_stays k made = refl
  within_stays k (own p) = refl
  within_stays k outer = refl
  within_stays k (named s p) = refl
  within_stays k (struct os) = ap struct (all_stay k os)

  all_stay : (k : ℕ) (os : Origins) → all_below k (all_from_within os) ≡ all_from_within os
  all_stay k no_origins = refl
  all_stay k (more_origins o os) = λ i. more_origins (within_stays k o i) (all_stay k os i)

pub outside_stays : (k : ℕ) (g : Named Origin) → relabelled k (outside g) ≡ outside g
outside_stays k [] = refl
outside_stays k (e ∷ g) = λ i. (e.0, within_stays k e.1 i) ∷ outside_stays k g i

no_path : (q : Path) → at_path q value ≡ value
no_path [] = refl
no_path (n ∷ q) = ap (field_within n) (no_path q)

pub value_path : (q : Path) → is_builder_path value q ≡ false
value_path q = ap Rattle.weld_meaning.specs.Available.is_builder (no_path q)

-- ---- one body

-- the body of a loop from builders of this origin, in its place
pub record OneBody (b n x : Binder) (f : ExprTree) (o : Origin) (g : Named Origin) : Type 0 where
  pub keeps : Keeps f (in_body b n x o g)
  pub gives : origin f (in_body b n x o g) ≡ own_paths o
  pub splits : Splits f (in_body b n x o g)
  pub all : TakesAll b.sym.0 (own_paths o) (takes f (in_body b n x o g))

-- the same body, its builders, which have this origin now, being those of a field of another
pub record AsField (p : Origin) (b : ℕ) (f : ExprTree) (h : Named Origin) : Type 0 where
  pub keeps : Keeps f h
  pub gives : origin f h ≡ p
  pub splits : Splits f h
  pub all : TakesAll b p (takes f h)
  pub only : (s : ℕ) (q : Path) → s ≢ b → takes f h s q ≡ false

-- its own builder alone
only_own : (b n x : Binder) (f : ExprTree) (o : Origin) (g : Named Origin) (s : ℕ) (q : Path) → Keeps f (in_body b n x o g) → s ≢ b.sym.0 → takes f (in_body b n x o g) s q ≡ false
only_own b n x f o g s q k ne = by (takes f (in_body b n x o g) s q) refl
  where
    inner : Named Origin
    inner = in_body b n x o g

    at_value : origin_of_name s inner ≡ value → Shown (IsFree f) inner s q → ⊥
    at_value e w = let p : is_builder_path value q ≡ true = sym (ap (λ o. is_builder_path o q) e) ∙ w.builds in let r = value_path q in let wrong : ⊥ = cc in wrong

    at_other : s ≢ x.sym.0 → s ≢ n.sym.0 → Shown (IsFree f) inner s q → ⊥
    at_other sx sn w =
        let e : origin_of_name s inner ≡ from_within (origin_of_name s g) =
        ap known_origin (skip s x.sym.0 value ((n.sym.0, value) ∷ (b.sym.0, own_paths o) ∷ outside g) sx ∙ skip s n.sym.0 value ((b.sym.0, own_paths o) ∷ outside g) sn ∙ skip s b.sym.0 (own_paths o) (outside g) ne)
        ∙ outside_name s g in
        let r = unseen (origin_of_name s g) q (subst IsSeen e w.seen) in
        let p : is_builder_path (from_within (origin_of_name s g)) q ≡ true = sym (ap (λ o. is_builder_path o q) e) ∙ w.builds in
        let wrong : ⊥ = cc in wrong

    at_number : (d : Bool) → (s == n.sym.0) ≡ d → s ≢ x.sym.0 → Shown (IsFree f) inner s q → ⊥
    at_number true p sx w =
        at_value (ap known_origin (skip s x.sym.0 value ((n.sym.0, value) ∷ (b.sym.0, own_paths o) ∷ outside g) sx ∙ ap (λ d. if d then Some value else look_for s ((b.sym.0, own_paths o) ∷ outside g)) p)) w
    at_number false p sx w = at_other sx (λ e. let r : (s == n.sym.0) ≡ true = eq-eqb s n.sym.0 e in let wrong : ⊥ = cc in wrong) w

    at_row : (d : Bool) → (s == x.sym.0) ≡ d → Shown (IsFree f) inner s q → ⊥
    at_row true p w = at_value (ap known_origin (ap (λ d. if d then Some value else look_for s ((n.sym.0, value) ∷ (b.sym.0, own_paths o) ∷ outside g)) p)) w
    at_row false p w = at_number (s == n.sym.0) refl (λ e. let r : (s == x.sym.0) ≡ true = eq-eqb s x.sym.0 e in let wrong : ⊥ = cc in wrong) w

    by : (d : Bool) → takes f inner s q ≡ d → takes f inner s q ≡ false
    by true p = absurd (at_row (s == x.sym.0) refl (shown f inner s q k p))
    by false p = p

-- wherever the names of the body stand for the same, its builders' paths apart
pub as_field : (k : ℕ) (b n x : Binder) (f : ExprTree) (o : Origin) (g h : Named Origin) → OneBody b n x f o g → AgreeOn (IsFree f) (relabelled k (in_body b n x o g)) h → AsField (below k (own_paths o)) b.sym.0 f h
as_field k b n x f o g h w a =
    let inner : Named Origin = in_body b n x o g in
    let taken : takes f h ≡ takes f inner = sym (taken_free f (relabelled k inner) h a) ∙ taken_below k f inner in
    record {
      keeps = keeps_free f (relabelled k inner) h a (keeps_below k f inner w.keeps);
      gives = sym (origin_free f (relabelled k inner) h a) ∙ origin_below k f inner ∙ ap (below k) w.gives;
      splits = splits_free f (relabelled k inner) h a (splits_below k f inner w.splits);
      all = takes_all k b.sym.0 (own_paths o) (takes f h) (takes f inner) taken w.all;
      only = λ s q ne. ap (λ (t : Taken). t s q) taken ∙ only_own b n x f o g s q w.keeps ne;
    }
