-- Evaluation depends on the free names alone, and looks past places, notes and the numbers of binders.
use Rattle.std.proofs.Common.{◌≡◌, ◌≢◌, ℕ, suc, List, [], ◌∷◌, map, length, Some, None, refl, ap, sym, ◌∙◌, inl, inr, ◌⊎◌, eq-eqb, ne_eqb, arith}
use Rattle.std.proofs.lemmas.Bool.{cases_eq}
use Rattle.weld_data.specs.Value.{Value, list, values}
use Rattle.weld_tree.specs.declared.binder.Binder.{Binder}
use Rattle.weld_tree.specs.ExprTree.{ExprTree, leaf, one, two, three, many, let_in, loop, iterate, ExprTrees, no_exprs, more_exprs, LegTree, whole, strided, LegTrees, no_legs, more_legs, Leaf, int, truth, chars, name, fresh}
use Rattle.weld_tree.specs.Program.{ProgramTree, syms_of}
use Rattle.weld_tree.specs.Blank.{AreSame, blank_binder, bare, bare_all, bare_leg, bare_legs, bare_leaf, distance}
use Rattle.weld_builders.specs.Outcome.{Outcome, done, fault, stuck, and_then, map_out}
use Rattle.weld_meaning.specs.Environment.{Named, look_for}
use Rattle.weld_meaning.specs.Thing.{Thing, plain, more_things}
use Rattle.weld_meaning.specs.Evaluation.{Env, found, byte_value, truth_value, whole_number, elements_of, strided_of, value_out, started_builder, leaf_thing, one_thing, two_thing, three_thing, many_thing, Row, number_from, rows_of, run, turns, turn_limit, with_row, eval, eval_all, eval_leg, eval_legs}
use Rattle.weld_meaning.specs.Meaning.{with_arguments, meaning, GivesOrFaults}
use Rattle.weld_meaning.specs.Names.{LeafNames, IsFree, AreFree, LegIsFree, LegsAreFree, AgreeOn, answer_of}

-- ---- free names

same_behind : {A : Type 0} (s b : ℕ) (t : A) (g h : Named A) → (s ≢ b → look_for s g ≡ look_for s h) → look_for s ((b, t) ∷ g) ≡ look_for s ((b, t) ∷ h)
same_behind {A} s b t g h k = by (cases_eq s b)
  where
    by : (s ≡ b) ⊎ (s ≢ b) → look_for s ((b, t) ∷ g) ≡ look_for s ((b, t) ∷ h)
    by (inl e) = rw (eq-eqb s b e) refl
    by (inr ne) = rw (ne_eqb s b ne) (k ne)

pub agree_bind : {A : Type 0} (free inner : ℕ → Type 0) (b : ℕ) (t : A) (g h : Named A) → ((s : ℕ) → inner s → s ≢ b → free s) → AgreeOn free g h → AgreeOn inner ((b, t) ∷ g) ((b, t) ∷ h)
agree_bind free inner b t g h k a = record { agree = λ s f. same_behind s b t g h (λ ne. a.agree s (k s f ne)) }

pub agree_less : {A : Type 0} (free inner : ℕ → Type 0) (g h : Named A) → ((s : ℕ) → inner s → free s) → AgreeOn free g h → AgreeOn inner g h
agree_less free inner g h k a = record { agree = λ s f. a.agree s (k s f) }

leaf_free : (l : Leaf) (env later : Env) → AgreeOn (LeafNames l) env later → leaf_thing l env ≡ leaf_thing l later
leaf_free (int k x) env later a = refl
leaf_free (truth b) env later a = refl
leaf_free (chars bs) env later a = refl
leaf_free (name s) env later a = ap found (a.agree s refl)
leaf_free (fresh b) env later a = refl

mutual
  pub eval_free : (e : ExprTree) (env later : Env) → AgreeOn (IsFree e) env later → eval e env ≡ eval e later
  eval_free (leaf a l) env later h = leaf_free l env later (record { agree = h.agree })
  eval_free (one a o e) env later h = ap (λ r. and_then r (one_thing o)) (eval_free e env later (record { agree = h.agree }))
  eval_free (two a o e f) env later h =
      let p = eval_free e env later (agree_less _ (IsFree e) env later (λ s q. inl q) h) in
      let q = eval_free f env later (agree_less _ (IsFree f) env later (λ s r. inr r) h) in
      λ i. and_then (p i) (λ t. two_thing o t (q i))
  eval_free (three a o c e f) env later h =
      let p = eval_free c env later (agree_less _ (IsFree c) env later (λ s x. inl x) h) in
      let q = eval_free e env later (agree_less _ (IsFree e) env later (λ s x. inr (inl x)) h) in
      let r = eval_free f env later (agree_less _ (IsFree f) env later (λ s x. inr (inr x)) h) in
      λ i. and_then (p i) (λ t. three_thing o t (q i) (r i))
  eval_free (many a o es) env later h = ap (λ r. and_then r (many_thing o)) (all_free es env later (record { agree = h.agree }))
  eval_free (let_in a b e f) env later h =
      let p = eval_free e env later (agree_less _ (IsFree e) env later (λ s q. inl q) h) in
      let q : (t : Thing) → eval f ((b.sym.0, t) ∷ env) ≡ eval f ((b.sym.0, t) ∷ later) =
      λ t. eval_free f _ _ (agree_bind _ (IsFree f) b.sym.0 t env later (λ s x ne. inr (x, ne)) h) in
      λ i. and_then (p i) (λ t. q t i)
  eval_free (loop a ls e b n x f) env later h =
      let p = legs_free ls env later (agree_less _ (LegsAreFree ls) env later (λ s q. inl q) h) in
      let q = eval_free e env later (agree_less _ (IsFree e) env later (λ s r. inr (inl r)) h) in
      let body : (r : Row) (t : Thing) → eval f (with_row b n x t (plain (whole_number r.0)) (plain r.1) env) ≡ eval f (with_row b n x t (plain (whole_number r.0)) (plain r.1) later) =
      λ r t. eval_free f _ _
      (agree_bind (λ s. IsFree f s × (s ≢ x.sym.0)) (IsFree f) x.sym.0 (plain r.1) _ _ (λ s y ne. (y, ne))
      (agree_bind (λ s. IsFree f s × (s ≢ x.sym.0) × (s ≢ n.sym.0)) (λ s. IsFree f s × (s ≢ x.sym.0)) n.sym.0 (plain (whole_number r.0)) _ _ (λ s y ne. (y.0, y.1, ne))
      (agree_bind _ (λ s. IsFree f s × (s ≢ x.sym.0) × (s ≢ n.sym.0)) b.sym.0 t env later (λ s y ne. inr (inr (y.0, y.1, y.2, ne))) h))) in
      λ i. and_then (p i) (λ legs. and_then (rows_of legs) (λ rows. and_then (q i) (λ s. run (number_from 0 rows) s (λ r t. body r t i))))
  eval_free (iterate a e b f) env later h =
      let p = eval_free e env later (agree_less _ (IsFree e) env later (λ s q. inl q) h) in
      let q : (w : Value) → eval f ((b.sym.0, plain w) ∷ env) ≡ eval f ((b.sym.0, plain w) ∷ later) =
      λ w. eval_free f _ _ (agree_bind _ (IsFree f) b.sym.0 (plain w) env later (λ s x ne. inr (x, ne)) h) in
      λ i. and_then (value_out (p i)) (λ v. map_out plain (turns turn_limit v (λ w. value_out (q w i))))

  all_free : (es : ExprTrees) (env later : Env) → AgreeOn (AreFree es) env later → eval_all es env ≡ eval_all es later
  all_free no_exprs env later h = refl
  all_free (more_exprs e es) env later h =
      let p = eval_free e env later (agree_less _ (IsFree e) env later (λ s q. inl q) h) in
      let q = all_free es env later (agree_less _ (AreFree es) env later (λ s r. inr r) h) in
      λ i. and_then (p i) (λ t. map_out (more_things t) (q i))

  leg_free : (l : LegTree) (env later : Env) → AgreeOn (LegIsFree l) env later → eval_leg l env ≡ eval_leg l later
  leg_free (whole e) env later h = ap (λ o. and_then (value_out o) elements_of) (eval_free e env later (record { agree = h.agree }))
  leg_free (strided e f g k) env later h =
      let p = eval_free e env later (agree_less _ (IsFree e) env later (λ s x. inl x) h) in
      let q = eval_free f env later (agree_less _ (IsFree f) env later (λ s x. inr (inl x)) h) in
      let r = eval_free g env later (agree_less _ (IsFree g) env later (λ s x. inr (inr (inl x))) h) in
      let u = eval_free k env later (agree_less _ (IsFree k) env later (λ s x. inr (inr (inr x))) h) in
      λ i. and_then (value_out (p i)) (λ v. and_then (value_out (q i)) (λ from. and_then (value_out (r i)) (λ to. and_then (value_out (u i)) (λ d. strided_of v from to d))))

  legs_free : (ls : LegTrees) (env later : Env) → AgreeOn (LegsAreFree ls) env later → eval_legs ls env ≡ eval_legs ls later
  legs_free no_legs env later h = refl
  legs_free (more_legs l ls) env later h =
      let p = leg_free l env later (agree_less _ (LegIsFree l) env later (λ s q. inl q) h) in
      let q = legs_free ls env later (agree_less _ (LegsAreFree ls) env later (λ s r. inr r) h) in
      λ i. and_then (p i) (λ vs. map_out (λ rest. vs ∷ rest) (q i))

-- ---- places, notes and numbers

-- the names of an environment
abbrev names : Env → List ℕ
names [] = []
names (e ∷ es) = e.0 ∷ names es

-- both have the same things, one by one
abbrev SameThings : Env → Env → Type 0
SameThings [] [] = Unit {0}
SameThings [] (f ∷ fs) = ⊥
SameThings (e ∷ es) [] = ⊥
SameThings (e ∷ es) (f ∷ fs) = (e.1 ≡ f.1) × SameThings es fs

here : (t s : ℕ) (ts : List ℕ) → t ≡ s → distance (t ∷ ts) s ≡ 0
here t s ts e = rw (eq-eqb t s e) refl

there : (t s : ℕ) (ts : List ℕ) → t ≢ s → distance (t ∷ ts) s ≡ suc (distance ts s)
there t s ts e = rw (ne_eqb t s e) refl

found_here : (s : ℕ) (e : ℕ × Thing) (es : Env) → e.0 ≡ s → look_for s (e ∷ es) ≡ Some e.1
found_here s e es p = rw (eq-eqb s e.0 (sym p)) refl

found_there : (s : ℕ) (e : ℕ × Thing) (es : Env) → e.0 ≢ s → look_for s (e ∷ es) ≡ look_for s es
found_there s e es p = rw (ne_eqb s e.0 (λ q. p (sym q))) refl

same_distance : (env later : Env) (s t : ℕ) → distance (names env) s ≡ distance (names later) t → SameThings env later → look_for s env ≡ look_for t later
same_distance [] [] s t d h = refl
same_distance [] (f ∷ fs) s t d h = absurd h
same_distance (e ∷ es) [] s t d h = absurd h
same_distance (e ∷ es) (f ∷ fs) s t d h = by (same_distance es fs s t) (cases_eq e.0 s) (cases_eq f.0 t)
  where
    by : (distance (names es) s ≡ distance (names fs) t → SameThings es fs → look_for s es ≡ look_for t fs) → (e.0 ≡ s) ⊎ (e.0 ≢ s) → (f.0 ≡ t) ⊎ (f.0 ≢ t) → look_for s (e ∷ es) ≡ look_for t (f ∷ fs)
    by older (inl p) (inl q) = found_here s e es p ∙ ap Some h.0 ∙ sym (found_here t f fs q)
    by older (inl p) (inr q) = absurd (omega (arith, here e.0 s (names es) p, there f.0 t (names fs) q, d))
    by older (inr p) (inl q) = absurd (omega (arith, there e.0 s (names es) p, here f.0 t (names fs) q, d))
    by older (inr p) (inr q) =
        found_there s e es p ∙ older (omega (arith, there e.0 s (names es) p, there f.0 t (names fs) q, d)) h.1 ∙ sym (found_there t f fs q)

same_leaf : (l m : Leaf) (env later : Env) → bare_leaf l (names env) ≡ bare_leaf m (names later) → SameThings env later → leaf_thing l env ≡ leaf_thing m later
same_leaf (int k x) (int j y) env later e h = cc
same_leaf (truth b) (truth c) env later e h = let same : b ≡ c = cc in ap (λ x. done (plain (truth_value x))) same
same_leaf (chars bs) (chars cs) env later e h = let same : bs ≡ cs = cc in ap (λ x. done (plain (list (values (map byte_value x))))) same
same_leaf (name s) (name t) env later e h =
    let same : distance (names env) s ≡ distance (names later) t = cc in ap found (same_distance env later s t same h)
same_leaf (fresh b) (fresh c) env later e h = let same : b ≡ c = cc in ap (λ x. started_builder x None) same
same_leaf _ _ env later e h = absurd (cc)

mutual
  pub eval_same : (e f : ExprTree) (env later : Env) → bare e (names env) ≡ bare f (names later) → SameThings env later → eval e env ≡ eval f later
  eval_same (leaf a l) (leaf b m) env later p h =
      let q : bare_leaf l (names env) ≡ bare_leaf m (names later) = cc in same_leaf l m env later q h
  eval_same (one a o e) (one b k f) env later p h =
      let same : o ≡ k = cc in let q : bare e (names env) ≡ bare f (names later) = cc in
      let r = eval_same e f env later q h in λ i. and_then (r i) (one_thing (same i))
  eval_same (two a o e g) (two b k f j) env later p h =
      let same : o ≡ k = cc in let q : bare e (names env) ≡ bare f (names later) = cc in let u : bare g (names env) ≡ bare j (names later) = cc in
      let r = eval_same e f env later q h in let w = eval_same g j env later u h in λ i. and_then (r i) (λ t. two_thing (same i) t (w i))
  eval_same (three a o c e g) (three b k d f j) env later p h =
      let same : o ≡ k = cc in let z : bare c (names env) ≡ bare d (names later) = cc in
      let q : bare e (names env) ≡ bare f (names later) = cc in let u : bare g (names env) ≡ bare j (names later) = cc in
      let y = eval_same c d env later z h in let r = eval_same e f env later q h in let w = eval_same g j env later u h in
      λ i. and_then (y i) (λ t. three_thing (same i) t (r i) (w i))
  eval_same (many a o es) (many b k fs) env later p h =
      let same : o ≡ k = cc in let q : bare_all es (names env) ≡ bare_all fs (names later) = cc in
      let r = all_same es fs env later q h in λ i. and_then (r i) (many_thing (same i))
  eval_same (let_in a b e g) (let_in c d f j) env later p h =
      let q : bare e (names env) ≡ bare f (names later) = cc in let u : bare g (b.sym.0 ∷ names env) ≡ bare j (d.sym.0 ∷ names later) = cc in
      let r = eval_same e f env later q h in
      let w : (t : Thing) → eval g ((b.sym.0, t) ∷ env) ≡ eval j ((d.sym.0, t) ∷ later) = λ t. eval_same g j _ _ u (refl, h) in
      λ i. and_then (r i) (λ t. w t i)
  eval_same (loop a ls e b n x g) (loop c ms f d m y j) env later p h =
      let v : bare_legs ls (names env) ≡ bare_legs ms (names later) = cc in let q : bare e (names env) ≡ bare f (names later) = cc in
      let u : bare g (x.sym.0 ∷ n.sym.0 ∷ b.sym.0 ∷ names env) ≡ bare j (y.sym.0 ∷ m.sym.0 ∷ d.sym.0 ∷ names later) = cc in
      let z = legs_same ls ms env later v h in let r = eval_same e f env later q h in
      let w : (row : Row) (t : Thing) → eval g (with_row b n x t (plain (whole_number row.0)) (plain row.1) env) ≡ eval j (with_row d m y t (plain (whole_number row.0)) (plain row.1) later) =
      λ row t. eval_same g j _ _ u (refl, (refl, (refl, h))) in
      λ i. and_then (z i) (λ legs. and_then (rows_of legs) (λ rows. and_then (r i) (λ s. run (number_from 0 rows) s (λ row t. w row t i))))
  eval_same (iterate a e b g) (iterate c f d j) env later p h =
      let q : bare e (names env) ≡ bare f (names later) = cc in let u : bare g (b.sym.0 ∷ names env) ≡ bare j (d.sym.0 ∷ names later) = cc in
      let r = eval_same e f env later q h in
      let w : (v : Value) → eval g ((b.sym.0, plain v) ∷ env) ≡ eval j ((d.sym.0, plain v) ∷ later) = λ v. eval_same g j _ _ u (refl, h) in
      λ i. and_then (value_out (r i)) (λ v. map_out plain (turns turn_limit v (λ s. value_out (w s i))))
  eval_same _ _ env later p h = absurd (cc)

  all_same : (es fs : ExprTrees) (env later : Env) → bare_all es (names env) ≡ bare_all fs (names later) → SameThings env later → eval_all es env ≡ eval_all fs later
  all_same no_exprs no_exprs env later p h = refl
  all_same (more_exprs e es) (more_exprs f fs) env later p h =
      let q : bare e (names env) ≡ bare f (names later) = cc in let u : bare_all es (names env) ≡ bare_all fs (names later) = cc in
      let r = eval_same e f env later q h in let w = all_same es fs env later u h in λ i. and_then (r i) (λ t. map_out (more_things t) (w i))
  all_same _ _ env later p h = absurd (cc)

  leg_same : (l m : LegTree) (env later : Env) → bare_leg l (names env) ≡ bare_leg m (names later) → SameThings env later → eval_leg l env ≡ eval_leg m later
  leg_same (whole e) (whole f) env later p h =
      let q : bare e (names env) ≡ bare f (names later) = cc in ap (λ o. and_then (value_out o) elements_of) (eval_same e f env later q h)
  leg_same (strided e g k j) (strided f n m o) env later p h =
      let pa : bare e (names env) ≡ bare f (names later) = cc in let pb : bare g (names env) ≡ bare n (names later) = cc in
      let pc : bare k (names env) ≡ bare m (names later) = cc in let pd : bare j (names env) ≡ bare o (names later) = cc in
      let qa = eval_same e f env later pa h in let qb = eval_same g n env later pb h in let qc = eval_same k m env later pc h in let qd = eval_same j o env later pd h in
      λ i. and_then (value_out (qa i)) (λ v. and_then (value_out (qb i)) (λ from. and_then (value_out (qc i)) (λ to. and_then (value_out (qd i)) (λ d. strided_of v from to d))))
  leg_same _ _ env later p h = absurd (cc)

  legs_same : (ls ms : LegTrees) (env later : Env) → bare_legs ls (names env) ≡ bare_legs ms (names later) → SameThings env later → eval_legs ls env ≡ eval_legs ms later
  legs_same no_legs no_legs env later p h = refl
  legs_same (more_legs l ls) (more_legs m ms) env later p h =
      let q : bare_leg l (names env) ≡ bare_leg m (names later) = cc in let u : bare_legs ls (names env) ≡ bare_legs ms (names later) = cc in
      let r = leg_same l m env later q h in let w = legs_same ls ms env later u h in λ i. and_then (r i) (λ vs. map_out (λ rest. vs ∷ rest) (w i))
  legs_same _ _ env later p h = absurd (cc)

names_of_arguments : (bs : List Binder) (vs : List Value) → length vs ≡ length bs → names (with_arguments bs vs) ≡ syms_of bs
names_of_arguments [] [] e = refl
names_of_arguments [] (v ∷ vs) e = refl
names_of_arguments (b ∷ bs) [] e = absurd (omega arith)
names_of_arguments (b ∷ bs) (v ∷ vs) e = ap (λ r. b.sym.0 ∷ r) (names_of_arguments bs vs (omega arith))

same_arguments : (bs cs : List Binder) (vs : List Value) → length vs ≡ length bs → length vs ≡ length cs → SameThings (with_arguments bs vs) (with_arguments cs vs)
same_arguments [] [] vs e f = tt
same_arguments [] (c ∷ cs) [] e f = absurd (omega arith)
same_arguments [] (c ∷ cs) (v ∷ vs) e f = absurd (omega arith)
same_arguments (b ∷ bs) [] [] e f = absurd (omega arith)
same_arguments (b ∷ bs) [] (v ∷ vs) e f = absurd (omega arith)
same_arguments (b ∷ bs) (c ∷ cs) [] e f = tt
same_arguments (b ∷ bs) (c ∷ cs) (v ∷ vs) e f = (refl, same_arguments bs cs vs (omega arith) (omega arith))

length-blank : (bs : List Binder) → length (map blank_binder bs) ≡ length bs
length-blank [] = refl
length-blank (b ∷ bs) = ap suc (length-blank bs)

pub meaning_same : (p q : ProgramTree) (vs : List Value) → AreSame p q → length vs ≡ length p.params → meaning p vs ≡ meaning q vs
meaning_same p q vs same e =
    let params : length p.params ≡ length q.params = sym (length-blank p.params) ∙ ap (λ r. length r.params) same ∙ length-blank q.params in
    let f : length vs ≡ length q.params = e ∙ params in
    ap value_out (eval_same p.body q.body (with_arguments p.params vs) (with_arguments q.params vs)
    (ap (bare p.body) (names_of_arguments p.params vs e) ∙ ap (λ r. r.body) same ∙ sym (ap (bare q.body) (names_of_arguments q.params vs f)))
    (same_arguments p.params q.params vs e f))

-- ---- answers

pub same_answers : {A : Type 0} (P Q : A → Type 0) (o p : Outcome A) → GivesOrFaults P o → GivesOrFaults Q p → answer_of o ≡ answer_of p → o ≡ p
same_answers P Q (done x) (done y) h g e = let same : x ≡ y = cc in ap done same
same_answers P Q (done x) fault h g e = absurd (cc)
same_answers P Q (done x) stuck h g e = absurd g
same_answers P Q fault (done y) h g e = absurd (cc)
same_answers P Q fault fault h g e = refl
same_answers P Q fault stuck h g e = absurd g
same_answers P Q stuck p h g e = absurd h
