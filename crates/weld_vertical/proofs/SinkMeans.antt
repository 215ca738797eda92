-- What a producer's body, and one with a consumer sunk into it, come to on a row: by the values that the row gives.
use Rattle.std.proofs.Common.{◌≡◌, ◌≢◌, ℕ, Bool, true, false, if◌then◌else◌, List, [], ◌∷◌, ◌++◌, Some, refl, ap, sym, subst, ◌∙◌, ne_eqb, inl, inr}
use Rattle.weld_data.specs.Value.{Value}
use Rattle.weld_tree.specs.declared.binder.Binder.{Binder}
use Rattle.weld_tree.specs.TypeTree.{TypeTree, build, list}
use Rattle.weld_tree.specs.Types.{IsBuilderFree}
use Rattle.weld_tree.specs.ExprTree.{At, ExprTree, leaf, one, two, three, many, let_in, loop, iterate, name, merge, if_else}
use Rattle.weld_tree.specs.declared.known.Known.{Known}
use Rattle.weld_builders.specs.Outcome.{Outcome, done, fault, stuck, and_then, map_out}
use Rattle.weld_meaning.specs.Environment.{look_for}
use Rattle.weld_meaning.specs.Thing.{Thing, plain, as_value}
use Rattle.weld_meaning.specs.ThingType.{HasThing, EnvFits}
use Rattle.weld_meaning.specs.Typing.{Types, AreFormed, HasType}
use Rattle.weld_meaning.specs.Evaluation.{Env, Row, whole_number, truth_of, chosen, found, merged, value_out, number_from, run, eval}
use Rattle.weld_meaning.specs.Names.{IsFree, AgreeOn, Binds}
use Rattle.weld_meaning.proofs.Good.{free_value_type, value_of_thing}
use Rattle.weld_meaning.proofs.Names.{agree_bind, agree_less, eval_free}
use Rattle.weld_meaning.proofs.Outcomes.{map_out-and_then}
use Rattle.weld_meaning.proofs.PartsGood.{KeyLaws}
use Rattle.weld_meaning.proofs.NeverStuck.{Of, never_stuck, fits_bind}
use Rattle.weld_meaning.proofs.WellFormed.{type_formed, formed_bind}
use Rattle.weld_rewriting.proofs.Outcomes.{then_same}
use Rattle.weld_substitution.proofs.Bindings.{agree_over, agree_after}
use Rattle.weld_substitution.proofs.Unnamed.{binds_so}
use Rattle.weld_substitution.specs.Uses.{uses}
use Rattle.weld_vertical.specs.Sinking.{ends_in_merge, is_spine, sunk}
use Rattle.weld_vertical.proofs.Spine.{spine_by, unnamed}
use Rattle.weld_vertical.proofs.Related.{IsAside, IsElse, IsBehind}
use Rattle.weld_vertical.proofs.Arms.{merged_typed}
use Rattle.weld_vertical.proofs.Handing.{then_then, then_done, then_itself, then_map, map_twice, list_of, nothing_behind}

-- the values that the body merges
abbrev pub row_values : ExprTree → Env → Outcome (List Value)
row_values (leaf a l) env = done []
row_values (one a o e) env = stuck
row_values (two a o e v) env = map_out (λ w. w ∷ []) (value_out (eval v env))
row_values (three a o c e f) env = and_then (eval c env) (λ t. chosen t (row_values e env) (row_values f env))
row_values (many a o es) env = stuck
row_values (let_in a z v h) env = and_then (eval v env) (λ t. row_values h ((z.sym.0, t) ∷ env))
row_values (loop a ls e b n x f) env = stuck
row_values (iterate a e b f) env = stuck

-- ---- lets that end in a merge give one

then_gives : {A B : Type 0} (o : Outcome A) (k : A → Outcome B) (y : B) → and_then o k ≡ done y → (x : A) × (k x ≡ done y)
then_gives (done x) k y h = (x, h)
then_gives fault k y h = let nothing : ⊥ = cc in absurd nothing
then_gives stuck k y h = let nothing : ⊥ = cc in absurd nothing

gives_one : (o : Outcome Value) (vs : List Value) → map_out (λ w. w ∷ []) o ≡ done vs → (v : Value) × (vs ≡ v ∷ [])
gives_one (done w) vs h = (w, cc)
gives_one fault vs h = let nothing : ⊥ = cc in absurd nothing
gives_one stuck vs h = let nothing : ⊥ = cc in absurd nothing

pub row_single : (s : ℕ) (g : ExprTree) (env : Env) (vs : List Value) → ends_in_merge s g ≡ true → row_values g env ≡ done vs → (v : Value) × (vs ≡ v ∷ [])
row_single s (leaf a l) env vs e h = let nothing : ⊥ = cc in absurd nothing
row_single s (one a o d) env vs e h = let nothing : ⊥ = cc in absurd nothing
row_single s (two a o d v) env vs e h = gives_one (value_out (eval v env)) vs h
row_single s (three a o c d f) env vs e h = let nothing : ⊥ = cc in absurd nothing
row_single s (many a o es) env vs e h = let nothing : ⊥ = cc in absurd nothing
row_single s (let_in a z v g) env vs e h =
    let t = then_gives (eval v env) (λ t. row_values g ((z.sym.0, t) ∷ env)) vs h in row_single s g ((z.sym.0, t.0) ∷ env) vs e t.1
row_single s (loop a ls d b n x f) env vs e h = let nothing : ⊥ = cc in absurd nothing
row_single s (iterate a d b f) env vs e h = let nothing : ⊥ = cc in absurd nothing

-- ---- what is chosen, and what goes on

chosen_map : {A B : Type 0} (f : A → B) (t : Thing) (o p : Outcome A) → chosen t (map_out f o) (map_out f p) ≡ map_out f (chosen t o p)
chosen_map f t o p =
    map_out-and_then f (as_value t) (λ v. and_then (truth_of v) (λ c. if c then map_out f o else map_out f p)) (λ v. and_then (truth_of v) (λ c. if c then o else p))
    (λ v. map_out-and_then f (truth_of v) (λ c. if c then map_out f o else map_out f p) (λ c. if c then o else p) by)
  where
    by : (c : Bool) → (if c then map_out f o else map_out f p) ≡ map_out f (if c then o else p)
    by true = refl
    by false = refl

chosen_then : {A B : Type 0} (k : A → Outcome B) (t : Thing) (o p : Outcome A) → chosen t (and_then o k) (and_then p k) ≡ and_then (chosen t o p) k
chosen_then k t o p = (λ i. and_then (as_value t) (λ v. inner v i)) ∙ sym (then_then (as_value t) (λ v. and_then (truth_of v) (λ c. if c then o else p)) k)
  where
    by : (c : Bool) → (if c then and_then o k else and_then p k) ≡ and_then (if c then o else p) k
    by true = refl
    by false = refl

    inner : (v : Value) → and_then (truth_of v) (λ c. if c then and_then o k else and_then p k) ≡ and_then (and_then (truth_of v) (λ c. if c then o else p)) k
    inner v = (λ i. and_then (truth_of v) (λ c. by c i)) ∙ sym (then_then (truth_of v) (λ c. if c then o else p) k)

-- ---- the producer's body appends them

module _ (d : ℕ) where
  abbrev Apart : ExprTree → Type 0
  Apart g = Binds (λ z. d ≢ z) g

  look_over : (z : ℕ) (t u : Thing) (env : Env) → d ≢ z → look_for d env ≡ Some u → look_for d ((z, t) ∷ env) ≡ Some u
  look_over z t u env ne e = rw (ne_eqb d z ne) e

  abbrev Appends : ExprTree → Type 0
  Appends g = Apart g → (env : Env) (vs : List Value) → look_for d env ≡ Some (list_of vs) → eval g env ≡ map_out (λ ws. list_of (vs ++ ws)) (row_values g env)

  name_appends : (a : At) → Appends (leaf a (name d))
  name_appends a c env vs e = ap found e ∙ ap (λ ws. done (list_of ws)) (nothing_behind vs)

  let_appends : (a : At) (z : Binder) (v h : ExprTree) → uses v d ≡ 0 → Appends h → Appends (let_in a z v h)
  let_appends a z v h none f c env vs e =
      map_out-and_then (λ ws. list_of (vs ++ ws)) (eval v env) (λ t. eval h ((z.sym.0, t) ∷ env)) (λ t. row_values h ((z.sym.0, t) ∷ env))
      (λ t. f c.2 ((z.sym.0, t) ∷ env) vs (look_over z.sym.0 t (list_of vs) env c.0 e))

  if_appends : (a : At) (t e g : ExprTree) → uses t d ≡ 0 → Appends e → Appends g → Appends (three a if_else t e g)
  if_appends a t e g none k l c env vs h =
      map_out-and_then (λ ws. list_of (vs ++ ws)) (eval t env) (λ x. chosen x (eval e env) (eval g env)) (λ x. chosen x (row_values e env) (row_values g env))
      (λ x. (λ i. chosen x (k c.1 env vs h i) (l c.2 env vs h i)) ∙ chosen_map (λ ws. list_of (vs ++ ws)) x (row_values e env) (row_values g env))

  merge_appends : (a c : At) (v : ExprTree) → uses v d ≡ 0 → Appends (two a merge (leaf c (name d)) v)
  merge_appends a c v none cl env vs e =
      ap (λ m. and_then (found m) (λ t. merged t (eval v env))) e
      ∙ then_done (value_out (eval v env)) (λ w. list_of (vs ++ w ∷ []))
      ∙ map_twice (value_out (eval v env)) (λ w. w ∷ []) (λ ws. list_of (vs ++ ws)) (λ w. list_of (vs ++ w ∷ [])) (λ w. refl)

  pub row_appends : (g : ExprTree) → is_spine d g ≡ true → Appends g
  row_appends = spine_by d Appends name_appends let_appends if_appends merge_appends

  -- ---- whatever was merged before

  abbrev Other : ℕ → Type 0
  Other s = s ≢ d

  abbrev Freely : ExprTree → Type 0
  Freely g = Apart g → (env later : Env) → AgreeOn Other env later → row_values g env ≡ row_values g later

  value_freely : (v : ExprTree) → uses v d ≡ 0 → Apart v → (env later : Env) → AgreeOn Other env later → eval v env ≡ eval v later
  value_freely v none c env later a = eval_free v env later (agree_less Other (IsFree v) env later (λ s f e. unnamed d v c none (subst (IsFree v) e f)) a)

  name_freely : (a : At) → Freely (leaf a (name d))
  name_freely a c env later same = refl

  let_freely : (a : At) (z : Binder) (v h : ExprTree) → uses v d ≡ 0 → Freely h → Freely (let_in a z v h)
  let_freely a z v h none f c env later same =
      let x = value_freely v none c.1 env later same in
      let y : (t : Thing) → row_values h ((z.sym.0, t) ∷ env) ≡ row_values h ((z.sym.0, t) ∷ later) = λ t. f c.2 ((z.sym.0, t) ∷ env) ((z.sym.0, t) ∷ later) (agree_bind Other Other z.sym.0 t env later (λ s k ne. k) same) in
      λ i. and_then (x i) (λ t. y t i)

  if_freely : (a : At) (t e g : ExprTree) → uses t d ≡ 0 → Freely e → Freely g → Freely (three a if_else t e g)
  if_freely a t e g none k l c env later same =
      let x = value_freely t none c.0 env later same in
      let y = k c.1 env later same in
      let z = l c.2 env later same in
      λ i. and_then (x i) (λ u. chosen u (y i) (z i))

  merge_freely : (a c : At) (v : ExprTree) → uses v d ≡ 0 → Freely (two a merge (leaf c (name d)) v)
  merge_freely a c v none cl env later same = ap (λ o. map_out (λ w. w ∷ []) (value_out o)) (value_freely v none cl.1 env later same)

  pub row_values_free : (g : ExprTree) → is_spine d g ≡ true → Freely g
  row_values_free = spine_by d Freely name_freely let_freely if_freely merge_freely

-- ---- with the consumer sunk into it, the body hands them on

module _ (laws : KeyLaws) (ty : Known) (d i : ℕ) (b n x : Binder) (f : ExprTree) (item : TypeTree) (item_free : IsBuilderFree item) (around : Env) (state : Thing) (count : ℕ) where
  abbrev Clear : ℕ → Type 0
  Clear z = IsAside d b.sym.0 i n.sym.0 f z

  abbrev Else : ℕ → Type 0
  Else t = IsElse d b.sym.0 t

  abbrev Behind : ℕ → Type 0
  Behind t = IsBehind f x.sym.0 n.sym.0 t

  abbrev number : Thing
  number = plain (whole_number count)

  abbrev consumes : Row → Thing → Outcome Thing
  consumes r s = eval f ((x.sym.0, plain r.1) ∷ (n.sym.0, plain (whole_number r.0)) ∷ (b.sym.0, s) ∷ around)

  -- the consumer on the values, which have numbers from the row's on
  abbrev consumed : List Value → Outcome Thing
  consumed vs = run (number_from count vs) state consumes

  abbrev Hands : ExprTree → Type 0
  Hands g =
      (h : Types) (env later : Env) → Binds Clear g → (IsFree g b.sym.0 → ⊥) → (IsFree g n.sym.0 → ⊥) → HasType g h (build (list item)) → AreFormed h → EnvFits h env
      → AgreeOn Else env later → AgreeOn Behind ((b.sym.0, state) ∷ around) later → look_for i later ≡ Some number → look_for b.sym.0 later ≡ Some state
      → eval (sunk ty b.sym.0 i n x f g) later ≡ and_then (row_values g env) consumed

  not_d : (v : ExprTree) → Binds Clear v → uses v d ≡ 0 → IsFree v d → ⊥
  not_d v c none = unnamed d v (binds_so Clear (λ z. d ≢ z) (λ z k e. k.0 (sym e)) v c) none

  value_same : (v : ExprTree) → uses v d ≡ 0 → Binds Clear v → (IsFree v b.sym.0 → ⊥) → (env later : Env) → AgreeOn Else env later → eval v later ≡ eval v env
  value_same v none c nb env later a =
      sym (eval_free v env later (agree_less Else (IsFree v) env later (λ s k. ((λ e. not_d v c none (subst (IsFree v) e k)), (λ e. nb (subst (IsFree v) e k)))) a))

  name_hands : (a : At) → Hands (leaf a (name d))
  name_hands a h env later c nb nn typed formed fit same behind number_there there = ap found there

  let_hands : (a : At) (z : Binder) (v g : ExprTree) → uses v d ≡ 0 → Hands g → Hands (let_in a z v g)
  let_hands a z v g none hands h env later c nb nn typed formed fit same behind number_there there =
      ap (λ o. and_then o (λ t. eval (sunk ty b.sym.0 i n x f g) ((z.sym.0, t) ∷ later))) (value_same v none c.1 (λ k. nb (inl k)) env later same)
      ∙ then_same (Of typed.0) (eval v env) (λ t. eval (sunk ty b.sym.0 i n x f g) ((z.sym.0, t) ∷ later)) (λ t. and_then (row_values g ((z.sym.0, t) ∷ env)) consumed)
      (never_stuck laws v h typed.0 env typed.1 formed fit)
      (λ t q. hands ((z.sym.0, typed.0) ∷ h) ((z.sym.0, t) ∷ env) ((z.sym.0, t) ∷ later) c.2 (λ k. nb (inr (k, λ e. c.0.1 (sym e)))) (λ k. nn (inr (k, λ e. c.0.3 (sym e)))) typed.3
      (formed_bind h z.sym.0 typed.0 (type_formed v h typed.0 typed.1 formed) formed) (fits_bind h env z.sym.0 typed.0 t q fit)
      (agree_bind Else Else z.sym.0 t env later (λ s k ne. k) same)
      (agree_after Behind _ later ((z.sym.0, t) ∷ later) behind (agree_over Behind z.sym.0 t later (λ k. c.0.4 k.0)))
      (rw (ne_eqb i z.sym.0 (λ e. c.0.2 (sym e))) number_there) (rw (ne_eqb b.sym.0 z.sym.0 (λ e. c.0.1 (sym e))) there))
      ∙ sym (then_then (eval v env) (λ t. row_values g ((z.sym.0, t) ∷ env)) consumed)

  if_hands : (a : At) (t e g : ExprTree) → uses t d ≡ 0 → Hands e → Hands g → Hands (three a if_else t e g)
  if_hands a t e g none k l h env later c nb nn typed formed fit same behind number_there there =
      ap (λ o. and_then o (λ u. chosen u (eval first later) (eval second later))) (value_same t none c.0 (λ y. nb (inl y)) env later same)
      ∙ (λ j. and_then (eval t env) (λ u. chosen u (on_first j) (on_second j)))
      ∙ (λ j. and_then (eval t env) (λ u. chosen_then consumed u (row_values e env) (row_values g env) j))
      ∙ sym (then_then (eval t env) (λ u. chosen u (row_values e env) (row_values g env)) consumed)
    where
      first : ExprTree
      first = sunk ty b.sym.0 i n x f e

      second : ExprTree
      second = sunk ty b.sym.0 i n x f g

      on_first : eval first later ≡ and_then (row_values e env) consumed
      on_first = k h env later c.1 (λ y. nb (inr (inl y))) (λ y. nn (inr (inl y))) (subst (HasType e h) typed.6.1 typed.4) formed fit same behind number_there there

      on_second : eval second later ≡ and_then (row_values g env) consumed
      on_second = l h env later c.2 (λ y. nb (inr (inr y))) (λ y. nn (inr (inr y))) (subst (HasType g h) typed.6.2 typed.5) formed fit same behind number_there there

  merge_hands : (a c : At) (v : ExprTree) → uses v d ≡ 0 → Hands (two a merge (leaf c (name d)) v)
  merge_hands a c v none h env later cl nb nn typed formed fit same behind number_there there =
      ap (λ m. and_then (found m) (λ y. and_then (eval v ((n.sym.0, y) ∷ later)) (λ t. eval f ((x.sym.0, t) ∷ (n.sym.0, y) ∷ later)))) number_there
      ∙ (λ j. and_then (value_there j) (λ t. body_there t j))
      ∙ then_same (Of item) (eval v env) inside (λ t. and_then (as_value t) (λ w. consumed (w ∷ []))) (never_stuck laws v h item env (merged_typed a c d v h item typed) formed fit) (λ t q. plainly t q)
      ∙ sym (then_then (eval v env) as_value (λ w. consumed (w ∷ [])))
      ∙ sym (then_map (value_out (eval v env)) (λ w. w ∷ []) consumed)
    where
      inside : Thing → Outcome Thing
      inside t = eval f ((x.sym.0, t) ∷ (n.sym.0, number) ∷ (b.sym.0, state) ∷ around)

      value_there : eval v ((n.sym.0, number) ∷ later) ≡ eval v env
      value_there =
          sym (eval_free v later ((n.sym.0, number) ∷ later) (agree_over (IsFree v) n.sym.0 number later (λ k. nn (inr k)))) ∙ value_same v none cl.1 (λ k. nb (inr k)) env later same

      body_there : (t : Thing) → eval f ((x.sym.0, t) ∷ (n.sym.0, number) ∷ later) ≡ inside t
      body_there t =
          sym (eval_free f ((x.sym.0, t) ∷ (n.sym.0, number) ∷ (b.sym.0, state) ∷ around) ((x.sym.0, t) ∷ (n.sym.0, number) ∷ later)
          (agree_bind (λ s. IsFree f s × (s ≢ x.sym.0)) (IsFree f) x.sym.0 t _ _ (λ s y ne. (y, ne))
          (agree_bind Behind (λ s. IsFree f s × (s ≢ x.sym.0)) n.sym.0 number _ later (λ s y ne. (y.0, y.1, ne)) behind)))

      plainly : (t : Thing) → HasThing t item → inside t ≡ and_then (as_value t) (λ w. consumed (w ∷ []))
      plainly t q =
          let v = value_of_thing item t (free_value_type item item_free) q in
          subst (λ u. inside u ≡ and_then (as_value u) (λ w. consumed (w ∷ []))) (sym v.1) (sym (then_itself (inside (plain v.0))))

  pub row_hands : (g : ExprTree) → is_spine d g ≡ true → Hands g
  row_hands = spine_by d Hands name_hands let_hands if_hands merge_hands
