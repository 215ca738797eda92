-- A `let` of the result of a name with field accesses may stand behind the next one, where that doesn't name it.
use Rattle.std.proofs.Common.{◌≡◌, ◌≢◌, ◌⊎◌, inl, inr, ℕ, ◌==◌, Bool, true, false, ◌||◌, if◌then◌else◌, ◌∷◌, ◌++◌, Some, refl, ap, sym, subst, ◌∙◌, arith, eqb-true, eq-eqb, ne_eqb, length-append}
use Rattle.weld_tree.specs.declared.binder.Binder.{Binder}
use Rattle.weld_tree.specs.TypeTree.{TypeTree, build}
use Rattle.weld_tree.specs.ExprTree.{At, ExprTree, one, let_in, finish}
use Rattle.weld_tree.specs.Program.{bound, IsOneOf}
use Rattle.weld_builders.specs.Outcome.{Outcome, done, fault, stuck, and_then}
use Rattle.weld_builders.specs.Part.{result_of}
use Rattle.weld_meaning.specs.Environment.{Named, look_for}
use Rattle.weld_meaning.specs.Names.{IsFree, AgreeOn}
use Rattle.weld_meaning.specs.Thing.{Thing, plain, building, several}
use Rattle.weld_meaning.specs.ThingType.{EnvFits}
use Rattle.weld_meaning.specs.Typing.{Types, HasType}
use Rattle.weld_meaning.specs.Evaluation.{Env, finished, eval}
use Rattle.weld_meaning.specs.Meaning.{GivesOrFaults}
use Rattle.weld_meaning.specs.Origin.{Path, Origin, value, origin}
use Rattle.weld_meaning.specs.Linear.{Keeps}
use Rattle.weld_meaning.specs.Available.{Taken, Apart, TakesAll, without, is_builder_path, takes, Splits}
use Rattle.weld_meaning.proofs.OneType.{one_type}
use Rattle.weld_meaning.proofs.FreeNames.{type_free, origin_free, keeps_free, taken_free, splits_free}
use Rattle.weld_meaning.proofs.Names.{eval_free}
use Rattle.weld_meaning.proofs.PartsGood.{KeyLaws}
use Rattle.weld_meaning.proofs.NeverStuck.{Of, never_stuck}
use Rattle.weld_check_types.specs.Notes.{AreNoted}
use Rattle.weld_rewriting.specs.Placed.{IsPlaced}
use Rattle.weld_rewriting.specs.Rewriting.{Rewrites}
use Rattle.weld_rewriting.specs.Tidy.{IsTidy}
use Rattle.weld_rewriting.specs.Within.{StaysWithin}
use Rattle.weld_rewriting.proofs.Counts.{times-append}
use Rattle.weld_rewriting.proofs.Forms.{no_builder_path}
use Rattle.weld_rewriting.proofs.Parts.{value_of_let, body_of_let}
use Rattle.weld_substitution.specs.Redex.{is_chain, is_plain}
use Rattle.weld_substitution.proofs.Chains.{chain_by, chain_there}
use Rattle.weld_substitution.proofs.PlainFacts.{plain_gives}
use Rattle.weld_substitution.proofs.PutTypes.{noted_free}
use Rattle.weld_joining.proofs.Fields.{not_false, or_right}
use Rattle.weld_joining.proofs.Looking.{skip}
use Rattle.weld_joining.proofs.Numbers.{behind}
use Rattle.weld_joining.proofs.Taking.{shown}

-- ---- two names in either order

crossed : {A : Type 0} (t x y : ℕ) (r q : A) (g : Named A) → x ≢ y → look_for t ((y, q) ∷ (x, r) ∷ g) ≡ look_for t ((x, r) ∷ (y, q) ∷ g)
crossed t x y r q g ne = by (t == y) refl
  where
    by : (b : Bool) → (t == y) ≡ b → (if b then Some q else (if t == x then Some r else look_for t g)) ≡ (if t == x then Some r else (if b then Some q else look_for t g))
    by true e =
        let tx : (t == x) ≡ false = ne_eqb t x (λ k. ne (sym k ∙ eqb-true t y e)) in
        sym (ap (λ b. if b then Some r else Some q) tx)
    by false e = refl

-- ---- what is taken

-- by a `let` of that number
abbrev let_takes : ℕ → Taken → Taken → Taken
let_takes x first rest s q = first s q || without x rest s q

without_here : (x : ℕ) (taken : Taken) (s : ℕ) (q : Path) → x ≢ s → taken s q ≡ true → without x taken s q ≡ true
without_here x taken s q ne h = ap (λ b. if b then false else taken s q) (ne_eqb x s ne) ∙ h

without_there : (x : ℕ) (taken : Taken) (s : ℕ) (q : Path) → without x taken s q ≡ true → (x ≢ s) × (taken s q ≡ true)
without_there x taken s q h = by (x == s) refl h
  where
    by : (b : Bool) → (x == s) ≡ b → (if b then false else taken s q) ≡ true → (x ≢ s) × (taken s q ≡ true)
    by true e h = let wrong : ⊥ = cc in absurd wrong
    by false e h = ((λ k. not_false (x == s) (eq-eqb x s k) e), h)

without_own : (x : ℕ) (taken : Taken) (q : Path) → without x taken x q ≡ false
without_own x taken q = ap (λ b. if b then false else taken x q) (eq-eqb x x refl)

without_other : (x : ℕ) (taken : Taken) (s : ℕ) (q : Path) → x ≢ s → without x taken s q ≡ taken s q
without_other x taken s q ne = ap (λ b. if b then false else taken s q) (ne_eqb x s ne)

or_left : (m n : Bool) → m ≡ true → (m || n) ≡ true
or_left m n h = ap (λ b. b || n) h

either_of : (m n : Bool) → (m || n) ≡ true → (m ≡ true) ⊎ (n ≡ true)
either_of true n h = inl refl
either_of false n h = inr h

in_turn : (m n o : Bool) → (m || (n || o)) ≡ (n || (m || o))
in_turn true true o = refl
in_turn true false o = refl
in_turn false true o = refl
in_turn false false o = refl

-- the first value takes of neither name, the second not of the first's
module _ (x y : ℕ) (v w r : Taken) (ne : x ≢ y) (v_x : (q : Path) → v x q ≡ false) (v_y : (q : Path) → v y q ≡ false) (w_x : (q : Path) → w x q ≡ false) where
  at_name : (t : Taken) (n s : ℕ) (q : Path) → ((p : Path) → t n p ≡ false) → t s q ≡ true → n ≢ s
  at_name t n s q none h e = not_false (t s q) h (subst (λ m. t m q ≡ false) e (none q))

  first_apart : Apart v (without x (let_takes y w r)) → Apart v (without x r)
  first_apart a = record {
    apart = λ s q h k.
        let f = without_there x r s q k in
        a.apart s q h (without_here x (let_takes y w r) s q f.0 (or_right (w s q) (without y r s q) (without_here y r s q (at_name v y s q v_y h) f.1)));
  }

  second_apart : Apart v (without x (let_takes y w r)) → Apart w (without y r) → Apart w (without y (let_takes x v r))
  second_apart a b = record { apart = λ s q h k. let f = without_there y (let_takes x v r) s q k in by s q h f.0 (either_of (v s q) (without x r s q) f.1) }
    where
      by : (s : ℕ) (q : Path) → w s q ≡ true → y ≢ s → (v s q ≡ true) ⊎ (without x r s q ≡ true) → ⊥
      by s q h n (inl f) = a.apart s q f (without_here x (let_takes y w r) s q (at_name w x s q w_x h) (or_left (w s q) (without y r s q) h))
      by s q h n (inr f) = b.apart s q h (without_here y r s q n (without_there x r s q f).1)

  same_takes : (s : ℕ) (q : Path) → let_takes y w (let_takes x v r) s q ≡ let_takes x v (let_takes y w r) s q
  same_takes s q = by (x == s) refl (y == s) refl
    where
      apart_by : (n : ℕ) → (n == s) ≡ false → n ≢ s
      apart_by n e k = not_false (n == s) (eq-eqb n s k) e

      by : (b : Bool) → (x == s) ≡ b → (c : Bool) → (y == s) ≡ c
          → (w s q || (if c then false else (v s q || (if b then false else r s q)))) ≡ (v s q || (if b then false else (w s q || (if c then false else r s q))))
      by true e true f = absurd (ne (eqb-true x s e ∙ sym (eqb-true y s f)))
      by true e false f =
          let w_none : w s q ≡ false = subst (λ m. w m q ≡ false) (eqb-true x s e) (w_x q) in
          ap (λ m. m || (v s q || false)) w_none
      by false e true f =
          let v_none : v s q ≡ false = subst (λ m. v m q ≡ false) (eqb-true y s f) (v_y q) in
          sym (ap (λ m. m || (w s q || false)) v_none)
      by false e false f = in_turn (w s q) (v s q) (r s q)

-- ---- both lets

chain_plain : (c : ExprTree) → is_chain c ≡ true → is_plain c ≡ true
chain_plain c h =
    let k = chain_there c h in
    (chain_by (λ d n. (is_plain d ≡ true) × (is_chain d ≡ true)) (λ a s. (refl, refl)) (λ a n d e m f. (f.1, f.1)) c k.0 k.1).0

module _ (a p m : At) (x y : Binder) (c w rest : ExprTree) (chain : is_chain c ≡ true) (unnamed : IsFree w x.sym.0 → ⊥) (tidy : IsTidy (let_in a x (one p finish c) (let_in m y w rest))) where
  abbrev n1 : ℕ
  n1 = x.sym.0

  abbrev n2 : ℕ
  n2 = y.sym.0

  abbrev v : ExprTree
  v = one p finish c

  abbrev inner : ExprTree
  inner = let_in m y w rest

  abbrev before : ExprTree
  before = let_in a x v inner

  abbrev later : ExprTree
  later = let_in a x v rest

  abbrev after : ExprTree
  after = let_in m y w later

  -- ---- names

  second_bound : IsOneOf (bound c ++ (n2 ∷ (bound w ++ bound rest))) n2
  second_bound = behind (bound c) (n2 ∷ (bound w ++ bound rest)) n2 (inl refl)

  names_differ : n1 ≢ n2
  names_differ e = tidy.distinct.0 (behind (bound c) (n2 ∷ (bound w ++ bound rest)) n1 (inl e))

  first_unnamed : IsFree v n1 → ⊥
  first_unnamed f = tidy.apart n1 (inl refl) (inl f)

  second_unnamed : IsFree v n2 → ⊥
  second_unnamed f = tidy.apart n2 (inr second_bound) (inl f)

  w_same : {A : Type 0} (r : A) (g : Named A) → AgreeOn (IsFree w) ((n1, r) ∷ g) g
  w_same r g = record { agree = λ t f. skip t n1 r g (λ e. unnamed (subst (IsFree w) e f)) }

  v_same : {A : Type 0} (q : A) (g : Named A) → AgreeOn (IsFree v) g ((n2, q) ∷ g)
  v_same q g = record { agree = λ t f. sym (skip t n2 q g (λ e. second_unnamed (subst (IsFree v) e f))) }

  rest_same : {A : Type 0} (r q : A) (g : Named A) → AgreeOn (IsFree rest) ((n2, q) ∷ (n1, r) ∷ g) ((n1, r) ∷ (n2, q) ∷ g)
  rest_same r q g = record { agree = λ t f. crossed t n1 n2 r q g names_differ }

  -- ---- origins

  w_from : (g : Named Origin) → origin w ((n1, value) ∷ g) ≡ origin w g
  w_from g = origin_free w ((n1, value) ∷ g) g (w_same value g)

  abbrev rest_origins : Named Origin → Named Origin
  rest_origins g = (n1, value) ∷ (n2, origin w g) ∷ g

  same_from : (g : Named Origin) → origin after g ≡ origin before g
  same_from g =
      sym (ap (λ o. origin rest ((n2, o) ∷ (n1, value) ∷ g)) (w_from g)
      ∙ origin_free rest ((n2, origin w g) ∷ (n1, value) ∷ g) (rest_origins g) (rest_same value (origin w g) g))

  -- ---- in their place

  module _ (types : Types) (g : Named Origin) (t : TypeTree) (placed : IsPlaced before types g t) where
    abbrev u1 : TypeTree
    u1 = placed.typed.0

    value_in : IsPlaced v types g u1
    value_in = value_of_let a x v inner types g t placed

    inner_in : IsPlaced inner ((n1, u1) ∷ types) ((n1, value) ∷ g) t
    inner_in = body_of_let a x v inner types g t placed

    abbrev u2 : TypeTree
    u2 = inner_in.typed.0

    w_in : IsPlaced w ((n1, u1) ∷ types) ((n1, value) ∷ g) u2
    w_in = value_of_let m y w rest ((n1, u1) ∷ types) ((n1, value) ∷ g) t inner_in

    rest_in : IsPlaced rest ((n2, u2) ∷ (n1, u1) ∷ types) ((n2, origin w g) ∷ (n1, value) ∷ g) t
    rest_in =
        subst (λ o. IsPlaced rest ((n2, u2) ∷ (n1, u1) ∷ types) ((n2, o) ∷ (n1, value) ∷ g) t) (w_from g)
        (body_of_let m y w rest ((n1, u1) ∷ types) ((n1, value) ∷ g) t inner_in)

    w_typed : HasType w types u2
    w_typed = type_free w ((n1, u1) ∷ types) types u2 (w_same u1 types) w_in.typed

    v_typed : HasType v ((n2, u2) ∷ types) u1
    v_typed = type_free v types ((n2, u2) ∷ types) u1 (v_same u2 types) value_in.typed

    rest_typed : HasType rest ((n1, u1) ∷ (n2, u2) ∷ types) t
    rest_typed = type_free rest ((n2, u2) ∷ (n1, u1) ∷ types) ((n1, u1) ∷ (n2, u2) ∷ types) t (rest_same u1 u2 types) rest_in.typed

    later_typed : HasType later ((n2, u2) ∷ types) t
    later_typed = (u1, v_typed, placed.typed.2, rest_typed)

    after_typed : HasType after types t
    after_typed = (u2, w_typed, inner_in.typed.2, later_typed)

    later_noted : AreNoted later ((n2, u2) ∷ types)
    later_noted =
        let n = placed.noted.2 in (
          noted_free v types ((n2, u2) ∷ types) (v_same u2 types) value_in.noted,
          (u1, v_typed, noted_free rest ((n2, u2) ∷ (n1, u1) ∷ types) ((n1, u1) ∷ (n2, u2) ∷ types) (rest_same u1 u2 types) rest_in.noted),
          (n.0, n.1, subst (HasType later ((n2, u2) ∷ types)) (one_type before types t n.0 placed.typed n.2) later_typed),
        )

    after_noted : AreNoted after types
    after_noted =
        let n = inner_in.noted.2 in (
          noted_free w ((n1, u1) ∷ types) types (w_same u1 types) w_in.noted,
          (u2, w_typed, later_noted),
          (n.0, n.1, subst (HasType after types) (one_type inner ((n1, u1) ∷ types) t n.0 inner_in.typed n.2) after_typed),
        )

    after_keeps : Keeps after g
    after_keeps = (
      keeps_free w ((n1, value) ∷ g) g (w_same value g) w_in.keeps,
      (
        keeps_free v g ((n2, origin w g) ∷ g) (v_same (origin w g) g) value_in.keeps,
        keeps_free rest ((n2, origin w g) ∷ (n1, value) ∷ g) (rest_origins g) (rest_same value (origin w g) g) rest_in.keeps,
      ),
    )

    -- ---- builders

    abbrev v_taken : Taken
    v_taken = takes v g

    abbrev w_taken : Taken
    w_taken = takes w g

    abbrev rest_taken : Taken
    rest_taken = takes rest (rest_origins g)

    v_later : takes v ((n2, origin w g) ∷ g) ≡ v_taken
    v_later = sym (taken_free v g ((n2, origin w g) ∷ g) (v_same (origin w g) g))

    w_before : takes w ((n1, value) ∷ g) ≡ w_taken
    w_before = taken_free w ((n1, value) ∷ g) g (w_same value g)

    rest_before : takes rest ((n2, origin w ((n1, value) ∷ g)) ∷ (n1, value) ∷ g) ≡ rest_taken
    rest_before =
        ap (λ o. takes rest ((n2, o) ∷ (n1, value) ∷ g)) (w_from g)
        ∙ taken_free rest ((n2, origin w g) ∷ (n1, value) ∷ g) (rest_origins g) (rest_same value (origin w g) g)

    unnamed_taken : (e : ExprTree) (n : ℕ) → Keeps e g → (IsFree e n → ⊥) → (q : Path) → takes e g n q ≡ false
    unnamed_taken e n k none q = by (takes e g n q) refl
      where
        by : (b : Bool) → takes e g n q ≡ b → takes e g n q ≡ false
        by true h = absurd (none (shown e g n q k h).named)
        by false h = h

    v_first : (q : Path) → v_taken n1 q ≡ false
    v_first q = unnamed_taken v n1 value_in.keeps first_unnamed q

    v_second : (q : Path) → v_taken n2 q ≡ false
    v_second q = unnamed_taken v n2 value_in.keeps second_unnamed q

    w_first : (q : Path) → w_taken n1 q ≡ false
    w_first q = unnamed_taken w n1 after_keeps.0 unnamed q

    inner_takes : takes inner ((n1, value) ∷ g) ≡ let_takes n2 w_taken rest_taken
    inner_takes = λ i s q. w_before i s q || without n2 (rest_before i) s q

    later_takes : takes later ((n2, origin w g) ∷ g) ≡ let_takes n1 v_taken rest_taken
    later_takes = λ i s q. v_later i s q || without n1 rest_taken s q

    apart_before : Apart v_taken (without n1 (let_takes n2 w_taken rest_taken))
    apart_before = subst (λ o. Apart v_taken (without n1 o)) inner_takes placed.splits.2

    apart_inner : Apart w_taken (without n2 rest_taken)
    apart_inner = subst (λ o. Apart o (without n2 rest_taken)) w_before (subst (λ o. Apart (takes w ((n1, value) ∷ g)) (without n2 o)) rest_before inner_in.splits.2)

    all_inner : TakesAll n2 (origin w g) rest_taken
    all_inner = subst (λ o. TakesAll n2 o rest_taken) (w_from g) (subst (TakesAll n2 (origin w ((n1, value) ∷ g))) rest_before inner_in.splits.3)

    later_splits : Splits later ((n2, origin w g) ∷ g)
    later_splits = (
      splits_free v g ((n2, origin w g) ∷ g) (v_same (origin w g) g) value_in.splits,
      splits_free rest ((n2, origin w g) ∷ (n1, value) ∷ g) (rest_origins g) (rest_same value (origin w g) g) rest_in.splits,
      subst (λ o. Apart o (without n1 rest_taken)) (sym v_later) (first_apart n1 n2 v_taken w_taken rest_taken names_differ v_first v_second w_first apart_before),
      record { all = λ q h. absurd (not_false (is_builder_path value q) h (no_builder_path q)) },
    )

    after_splits : Splits after g
    after_splits = (
      splits_free w ((n1, value) ∷ g) g (w_same value g) w_in.splits,
      later_splits,
      subst (λ o. Apart w_taken (without n2 o)) (sym later_takes) (second_apart n1 n2 v_taken w_taken rest_taken names_differ v_first v_second w_first apart_before apart_inner),
      subst (TakesAll n2 (origin w g)) (sym later_takes)
          (record { all = λ q h. or_right (v_taken n2 q) (without n1 rest_taken n2 q) (without_here n1 rest_taken n2 q names_differ (all_inner.all q h)) }),
    )

    after_placed : IsPlaced after types g t
    after_placed = record { formed = placed.formed; forms = placed.forms; typed = after_typed; keeps = after_keeps; splits = after_splits; noted = after_noted }

    taken : takes after g ≡ takes before g
    taken =
        (λ i s q. w_taken s q || without n2 (later_takes i) s q)
        ∙ (λ i s q. same_takes n1 n2 v_taken w_taken rest_taken names_differ v_first v_second w_first s q i)
        ∙ sym (λ i s q. v_taken s q || without n1 (inner_takes i) s q)

    -- ---- what both come to

    gives : KeyLaws → (env : Env) → EnvFits types env → (r : Thing) × (eval v env ≡ done r)
    gives laws env fit =
        let h = value_in.typed in
        by (eval c env) refl (subst (λ u. GivesOrFaults (Of u) (eval c env)) h.2.1 (never_stuck laws c types h.0 env h.1 placed.formed fit).fits)
      where
        by : (o : Outcome Thing) → eval c env ≡ o → GivesOrFaults (Of (build value_in.typed.2.0)) o → (r : Thing) × (eval v env ≡ done r)
        by (done (plain b)) e h = absurd h
        by (done (building b)) e h = (plain (result_of b), ap (λ o. and_then o finished) e)
        by (done (several ts)) e h = absurd h
        by fault e h = absurd (plain_gives env c (chain_plain c chain) e)
        by stuck e h = absurd h

    comes_to : KeyLaws → (env : Env) → EnvFits types env → eval after env ≡ eval before env
    comes_to laws env fit =
        let given = gives laws env fit in
        let r : Thing = given.0 in
        let later_is : (u : Thing) → eval later ((n2, u) ∷ env) ≡ eval rest ((n2, u) ∷ (n1, r) ∷ env) = λ u.
        ap (λ o. and_then o (λ z. eval rest ((n1, z) ∷ (n2, u) ∷ env))) (sym (eval_free v env ((n2, u) ∷ env) (v_same u env)) ∙ given.1)
        ∙ sym (eval_free rest ((n2, u) ∷ (n1, r) ∷ env) ((n1, r) ∷ (n2, u) ∷ env) (rest_same r u env)) in
        (λ i. and_then (sym (eval_free w ((n1, r) ∷ env) env (w_same r env)) i) (λ u. later_is u i))
        ∙ sym (ap (λ o. and_then o (λ z. eval inner ((n1, z) ∷ env))) given.1)

  -- ---- counts

  within : StaysWithin after before
  within = record {
    binds = λ s. omega (arith, times-append (bound w) (n1 ∷ (bound c ++ bound rest)) s, times-append (bound c) (bound rest) s, times-append (bound c) (n2 ∷ (bound w ++ bound rest)) s, times-append (bound w) (bound rest) s);
    names = named;
    no_more_loops = omega arith;
    no_more_legs = omega arith;
    no_more_binders = omega (arith, length-append (bound w) (n1 ∷ (bound c ++ bound rest)), length-append (bound c) (bound rest), length-append (bound c) (n2 ∷ (bound w ++ bound rest)), length-append (bound w) (bound rest));
    well_made = λ h. (h.1.0, (h.0, h.1.1));
    spellable = λ h. (h.2.0, h.2.1, (h.0, h.1, h.2.2));
  }
    where
      named : (s : ℕ) → IsFree after s → IsFree before s
      named s (inl f) = inr (inl f, (λ e. unnamed (subst (IsFree w) e f)))
      named s (inr (inl f, ne)) = inl f
      named s (inr (inr f, ne)) = inr (inr (f.0, ne), f.1)

  pub exchanged : KeyLaws → Rewrites after before
  exchanged laws = record {
    replaces = record {
      same_origin = same_from;
      same_chain = λ k e. let wrong : ⊥ = cc in absurd wrong;
      placed = after_placed;
      taken = taken;
      means = λ types g t env placed fit. comes_to types g t placed laws env fit;
    };
    within = within;
  }
