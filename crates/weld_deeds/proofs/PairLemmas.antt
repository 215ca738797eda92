-- Rows that are two numbers.
use Rattle.std.proofs.Common.{◌≡◌, ◌≢◌, ℕ, ◌+◌, ◌<◌, ◌++◌, ◌∷◌, [], Bool, true, false, if◌then◌else◌, List, length, get_or, slice_get, Option, Some, None, option_to_list, Bor, Vec, Global, sym, ap, ◌∙◌, subst, arith}
use Rattle.weld_data.specs.Value.{Value, struct, values}
use Rattle.weld_tree.specs.ExprTree.{ExprTree, At, three, select}
use Rattle.weld_tree.specs.declared.sym.Sym.{Sym}
use Rattle.weld_builders.specs.Outcome.{Outcome, done, fault, stuck}
use Rattle.weld_built.specs.Pair.{pair}
use Rattle.weld_meaning.specs.Environment.{look_for}
use Rattle.weld_meaning.specs.Thing.{plain}
use Rattle.weld_meaning.specs.Evaluation.{Env, eval, found}
use Rattle.weld_eval.specs.LegsView.{lists_of}
use Rattle.weld_eval.specs.RowLists.{row_in}
use Rattle.weld_blocks.specs.Numbers.{number_at, AreGiven, AreNumbersOf, IsName, IsChosen}
use Rattle.weld_deeds.specs.Deeds.{IsPairOf, MayBePair, IsItem, MayBeItem, item_at}
use Rattle.weld_blocks.specs.Scope.{bound_at, struct_at, scope_env, IsBound}
use Rattle.weld_deeds.specs.declared.deed.Deed.{Deed}
use Rattle.weld_deeds.specs.declared.deed.Deed as deed
use Rattle.weld_blocks.specs.declared.numbers.Numbers.{Numbers}
use Rattle.weld_blocks.specs.declared.scope.Bound.{Bound}
use Rattle.weld_blocks.specs.declared.scope.Bound.TheVariants as bounds
use Rattle.weld_blocks.specs.declared.scope.Rows.{Rows}
use Rattle.weld_blocks.specs.declared.scope.Scope.{Scope}
use Rattle.weld_blocks.specs.declared.scope.Scope.TheVariants as scopes
use Rattle.weld_blocks.proofs.LeafLemmas.{let_here, let_past, scope_row_here}
use Rattle.weld_blocks.proofs.ColumnLemmas.{eval_name, of_select}

pair_map : (P Q : ℕ → Value → Type 0) (d : Deed) (n : ℕ) → ((j : ℕ) (v : Value) → P j v → Q j v) → IsPairOf P d n → IsPairOf Q d n
pair_map P Q (deed.Pair c d) n f h = (h.0, h.1, λ j less. f j (pair (number_at c j) (number_at d j)) (h.2 j less))
pair_map P Q deed.Nothing n f h = absurd h
pair_map P Q (deed.Number c) n f h = absurd h
pair_map P Q (deed.Struct cs) n f h = absurd h
pair_map P Q (deed.List cs) n f h = absurd h
pair_map P Q (deed.Same u) n f h = absurd h
pair_map P Q (deed.Choice' c a d b e) n f h = absurd h
pair_map P Q (deed.Fields ds) n f h = absurd h

may_map : (P Q : ℕ → Value → Type 0) (r : Option Deed) (n : ℕ) → ((j : ℕ) (v : Value) → P j v → Q j v) → MayBePair P r n → MayBePair Q r n
may_map P Q (Some d) n f h = pair_map P Q d n f h
may_map P Q None n f h = tt

pub pair_here : (r : Option Deed) (sc : Scope) (b : Sym) (c : Bor Bound) (p : Bor Scope) (s n : ℕ) → sc ≡ scopes.Let b c p → b.0 ≡ s
    → MayBePair (λ j v. bound_at c.now j ≡ v) r n → MayBePair (λ j v. look_for s (scope_env sc j) ≡ Some (plain v)) r n
pair_here r sc b c p s n e same h = may_map (λ j v. bound_at c.now j ≡ v) (λ j v. look_for s (scope_env sc j) ≡ Some (plain v)) r n
    (λ j v q. let_here sc b c p s j e same ∙ ap (λ u. Some (plain u)) q) h

pub pair_below : (r : Option Deed) (sc : Scope) (b : Sym) (c : Bor Bound) (p : Bor Scope) (s n : ℕ) → sc ≡ scopes.Let b c p → b.0 ≢ s
    → MayBePair (λ j v. look_for s (scope_env p.now j) ≡ Some (plain v)) r n → MayBePair (λ j v. look_for s (scope_env sc j) ≡ Some (plain v)) r n
pair_below r sc b c p s n e other h = may_map (λ j v. look_for s (scope_env p.now j) ≡ Some (plain v)) (λ j v. look_for s (scope_env sc j) ≡ Some (plain v)) r n
    (λ j v q. let_past sc b c p s j e other ∙ q) h

pub pair_of_rows : (r : Option Deed) (sc : Scope) (p : Bor Rows) (s n : ℕ) → sc ≡ scopes.Rows p → p.now.row_name.0 ≡ s
    → MayBePair (λ j v. row_in (lists_of p.now.legs.now) (p.now.from + j) ≡ v) r n → MayBePair (λ j v. look_for s (scope_env sc j) ≡ Some (plain v)) r n
pair_of_rows r sc p s n e same h = may_map (λ j v. row_in (lists_of p.now.legs.now) (p.now.from + j) ≡ v) (λ j v. look_for s (scope_env sc j) ≡ Some (plain v)) r n
    (λ j v q. scope_row_here sc p s j e same ∙ ap (λ u. Some (plain u)) q) h

two_row : (ls : List (List Value)) (l m : List Value) (i : ℕ) (v w : Value) → ls ≡ l ∷ m ∷ [] → slice_get l i ≡ Some v → slice_get m i ≡ Some w → row_in ls i ≡ pair v w
two_row ls l m i v w e q r =
    ap (λ (ks : List (List Value)). row_in ks i) e
    ∙ ap (λ o. struct (values (option_to_list o ++ (option_to_list (slice_get m i) ++ [])))) q
    ∙ ap (λ o. struct (values ((v ∷ []) ++ (option_to_list o ++ [])))) r

pub pair_given : (ls : List (List Value)) (l m : List Value) (c d : Numbers) (from n : ℕ) → ls ≡ l ∷ m ∷ [] → AreGiven (λ j v. slice_get l (from + j) ≡ Some v) c n → AreGiven (λ j v. slice_get m (from + j) ≡ Some v) d n
    → IsPairOf (λ j v. row_in ls (from + j) ≡ v) (deed.Pair c d) n
pair_given ls l m c d from n e h k = (h.long, k.long, λ j less. two_row ls l m (from + j) (number_at c j) (number_at d j) e (h.each j less) (k.each j less))

-- structs of two
two_fields : (cs : List Numbers) (j : ℕ) (c d : Numbers) → length cs ≡ 2 → c ≡ get_or cs 0 c → d ≡ get_or cs 1 d → struct_at cs j ≡ pair (number_at c j) (number_at d j)
two_fields [] j c d long e f = absurd (omega arith)
two_fields (a ∷ []) j c d long e f = absurd (omega arith)
two_fields (a ∷ b ∷ []) j c d long e f = ap (λ (x : Numbers). pair (number_at x j) (number_at b j)) (sym e) ∙ ap (λ (x : Numbers). pair (number_at c j) (number_at x j)) (sym f)
two_fields (a ∷ b ∷ x ∷ cs) j c d long e f = absurd (omega arith)

pub pair_bound : (b : Bound) (cs : Vec Numbers Global) (c d k m : Numbers) (n : ℕ) → b ≡ bounds.Fields cs → length cs.items ≡ 2 → c ≡ get_or cs.items 0 c → d ≡ get_or cs.items 1 d
    → AreGiven (λ j v. v ≡ number_at c j) k n → AreGiven (λ j v. v ≡ number_at d j) m n → IsPairOf (λ j v. bound_at b j ≡ v) (deed.Pair k m) n
pair_bound b cs c d k m n is long first second p q = (
  p.long,
  q.long,
  λ j less.
      ap (λ (u : Bound). bound_at u j) is ∙ two_fields cs.items j c d long first second
      ∙ ap (λ x. pair x (number_at d j)) (sym (p.each j less)) ∙ ap (pair (number_at k j)) (sym (q.each j less)),
)

pub row_pair : (r : Option Deed) (e : ExprTree) (s : ℕ) (envs : ℕ → Env) (n : ℕ) → IsName e s → MayBePair (λ j v. look_for s (envs j) ≡ Some (plain v)) r n → MayBeItem e envs r n
row_pair None e s envs n is h = tt
row_pair (Some (deed.Pair c d)) e s envs n is h = pair_map (λ j v. look_for s (envs j) ≡ Some (plain v)) (λ j v. eval e (envs j) ≡ done (plain v)) (deed.Pair c d) n (λ j v q. eval_name e s (envs j) is ∙ ap found q) h
row_pair (Some deed.Nothing) e s envs n is h = absurd h
row_pair (Some (deed.Number c)) e s envs n is h = absurd h
row_pair (Some (deed.Struct cs)) e s envs n is h = absurd h
row_pair (Some (deed.List cs)) e s envs n is h = absurd h
row_pair (Some (deed.Same u)) e s envs n is h = absurd h
row_pair (Some (deed.Choice' c a d b f)) e s envs n is h = absurd h
row_pair (Some (deed.Fields ds)) e s envs n is h = absurd h

-- what is bound
pub ended_number : (c : Numbers) (e : ExprTree) (envs : ℕ → Env) (at : ℕ → Value) (n : ℕ) → IsBound e envs at n → AreGiven (λ j v. v ≡ at j) c n → AreNumbersOf e envs c n
ended_number c e envs at n is h = record { long = h.long; each = λ j less. is j less ∙ ap (λ (v : Value). done (plain v)) (sym (h.each j less)) }

pub ended_item : (r : Option Deed) (e : ExprTree) (envs : ℕ → Env) (at : ℕ → Value) (n : ℕ) → IsBound e envs at n → MayBePair (λ j v. at j ≡ v) r n → MayBeItem e envs r n
ended_item None e envs at n is h = tt
ended_item (Some (deed.Pair c d)) e envs at n is h = (h.0, h.1, λ j less. is j less ∙ ap (λ (v : Value). done (plain v)) (h.2 j less))
ended_item (Some deed.Nothing) e envs at n is h = absurd h
ended_item (Some (deed.Number c)) e envs at n is h = absurd h
ended_item (Some (deed.Struct cs)) e envs at n is h = absurd h
ended_item (Some (deed.List cs)) e envs at n is h = absurd h
ended_item (Some (deed.Same u)) e envs at n is h = absurd h
ended_item (Some (deed.Choice' c a d b f)) e envs at n is h = absurd h
ended_item (Some (deed.Fields ds)) e envs at n is h = absurd h

-- ---- one of two

-- both fields are chosen by one truth value
pair_if : (b c : Bool) (k l n m x y : Value) → c ≡ b → x ≡ (if b then k else l) → y ≡ (if c then n else m) → pair x y ≡ (if b then pair k n else pair l m)
pair_if true true k l n m x y e p q = ap (λ u. pair u y) p ∙ ap (pair k) q
pair_if false false k l n m x y e p q = ap (λ u. pair u y) p ∙ ap (pair l) q
pair_if true false k l n m x y e p q = absurd (let bad : false ≡ true = e in cc)
pair_if false true k l n m x y e p q = absurd (let bad : true ≡ false = e in cc)

abbrev done_truth : Outcome Bool → Bool
done_truth (done b) = b
done_truth fault = false
done_truth stuck = false

chosen_both : (t k l n m x y : Value) → IsChosen t k l x → IsChosen t n m y → IsChosen t (pair k n) (pair l m) (pair x y)
chosen_both t k l n m x y p q = (p.0, p.1, pair_if p.0 q.0 k l n m x y (ap done_truth (sym q.1 ∙ p.1)) p.2 q.2)

pub pairs_chosen : (p q : Deed) (t c d e f x y : Numbers) (count : ℕ) → p ≡ deed.Pair c e → q ≡ deed.Pair d f
    → AreGiven (λ j v. IsChosen (number_at t j) (number_at c j) (number_at d j) v) x count → AreGiven (λ j v. IsChosen (number_at t j) (number_at e j) (number_at f j) v) y count
    → IsPairOf (λ j v. IsChosen (number_at t j) (item_at p j) (item_at q j) v) (deed.Pair x y) count
pairs_chosen p q t c d e f x y count is also k m = (
  k.long,
  m.long,
  λ j less.
      subst (λ v. IsChosen (number_at t j) v (item_at q j) (pair (number_at x j) (number_at y j))) (sym (ap (λ r. item_at r j) is))
      (subst (λ v. IsChosen (number_at t j) (pair (number_at c j) (number_at e j)) v (pair (number_at x j) (number_at y j))) (sym (ap (λ r. item_at r j) also))
      (chosen_both (number_at t j) (number_at c j) (number_at d j) (number_at e j) (number_at f j) (number_at x j) (number_at y j) (k.each j less) (m.each j less))),
)

item_is : (e : ExprTree) (envs : ℕ → Env) (d : Deed) (count : ℕ) → IsItem e envs d count → (j : ℕ) → j < count → eval e (envs j) ≡ done (plain (item_at d j))
item_is e envs (deed.Number c) count h j less = h.each j less
item_is e envs (deed.Pair c d) count h j less = h.2 j less
item_is e envs deed.Nothing count h j less = absurd h
item_is e envs (deed.Struct cs) count h j less = h.each j less
item_is e envs (deed.List cs) count h j less = h.each j less
item_is e envs (deed.Same u) count h j less = h j less
item_is e envs (deed.Choice' c a d b f) count h j less = absurd h
item_is e envs (deed.Fields ds) count h j less = absurd h

pub chosen_pair_gives : (r : Option Deed) (a : At) (c e f : ExprTree) (envs : ℕ → Env) (n : ExprTree) (t : Numbers) (d g : Deed) (count : ℕ) → n ≡ three a select c e f → AreNumbersOf c envs t count
    → IsItem e envs d count → IsItem f envs g count → MayBePair (λ j v. IsChosen (number_at t j) (item_at d j) (item_at g j) v) r count → MayBeItem n envs r count
chosen_pair_gives None a c e f envs n t d g count is o p q h = tt
chosen_pair_gives (Some (deed.Pair x y)) a c e f envs n t d g count is o p q h = (
  h.0,
  h.1,
  λ j less.
      ap (λ m. eval m (envs j)) is
      ∙ of_select a c e f (envs j) (number_at t j) (item_at d j) (item_at g j) (pair (number_at x j) (number_at y j)) (o.each j less) (item_is e envs d count p j less) (item_is f envs g count q j less) (h.2 j less),
)
chosen_pair_gives (Some deed.Nothing) a c e f envs n t d g count is o p q h = absurd h
chosen_pair_gives (Some (deed.Number x)) a c e f envs n t d g count is o p q h = absurd h
chosen_pair_gives (Some (deed.Struct cs)) a c e f envs n t d g count is o p q h = absurd h
chosen_pair_gives (Some (deed.List cs)) a c e f envs n t d g count is o p q h = absurd h
chosen_pair_gives (Some (deed.Same u)) a c e f envs n t d g count is o p q h = absurd h
chosen_pair_gives (Some (deed.Choice' x b y z w)) a c e f envs n t d g count is o p q h = absurd h
chosen_pair_gives (Some (deed.Fields ds)) a c e f envs n t d g count is o p q h = absurd h
