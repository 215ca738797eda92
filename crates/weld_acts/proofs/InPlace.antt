-- What an expression does in place to the builder at a path of a name is what it comes to.
use Rattle.std.proofs.Common.{◌≡◌, ◌≢◌, ℕ, suc, ◌+◌, [], ◌∷◌, List, Option, Some, None, refl, ap, sym, subst, ◌∙◌, inl, inr, eq-eqb, ne_eqb, arith}
use Rattle.weld_data.specs.Value.{Value, values}
use Rattle.weld_tree.specs.declared.binder.Binder.{Binder}
use Rattle.weld_tree.specs.TypeTree.{TypeTree, TypeTrees, struct as tuple, no_types, more_types}
use Rattle.weld_tree.specs.Types.{IsBuilder, AreBuilders, IsWellFormed}
use Rattle.weld_tree.specs.ExprTree.{ExprTree, At, leaf, one, two, three, many, let_in, loop, iterate, ExprTrees, no_exprs, more_exprs, LegTree, whole, strided, LegTrees, no_legs, more_legs, Leaf, int, truth, chars, name, fresh, One, neg, not, cast, len, field, finish, started, binary, and, or, look_up, key_exists, merge, if_else, select, slice, make_vec, make_struct}
use Rattle.weld_tree.specs.HasValue.{HasValue, AllAre}
use Rattle.weld_builders.specs.Outcome.{Outcome, done, and_then, map_out}
use Rattle.weld_meaning.specs.Environment.{look_for}
use Rattle.weld_meaning.specs.Thing.{Thing, plain, building, several, Things, no_things, more_things, struct_of, thing_at, field_of, bare_thing, fields_of}
use Rattle.weld_meaning.specs.ThingType.{HasThing, HaveBuilders, EnvFits}
use Rattle.weld_meaning.specs.Typing.{Types, AreFormed, HasType, HaveTypes, LegsHave, RowHas, body_types}
use Rattle.weld_meaning.specs.Meaning.{GivesOrFaults}
use Rattle.weld_meaning.specs.Origin.{Path}
use Rattle.weld_meaning.specs.Available.{chain_of_leaf, chain_of_one, chain_of}
use Rattle.weld_meaning.specs.Names.{IsFree, AreFree, LegIsFree, LegsAreFree, AgreeOn}
use Rattle.weld_meaning.specs.Evaluation.{Env, Row, found, leaf_thing, one_thing, value_out, elements_of, strided_of, whole_number, rows_of, number_from, run, with_row, merged, chosen, eval, eval_all, eval_leg, eval_legs}
use Rattle.weld_meaning.specs.Loops.{RowsHave}
use Rattle.weld_meaning.proofs.Names.{agree_bind, agree_less, eval_free}
use Rattle.weld_meaning.proofs.WellFormed.{formed_bind, formed_body, type_formed, row_formed}
use Rattle.weld_meaning.proofs.ValuesGood.{LegsFit, rows_good}
use Rattle.weld_meaning.proofs.NeverStuck.{fits_bind, fits_body, no_builder_value, never_stuck}
use Rattle.weld_eval.proofs.Children.{key_laws}
use Rattle.weld_eval_plain.proofs.Legs.{legs_good}
use Rattle.weld_acts.specs.Act.{IsAct, AllAct, act, act_all, at_path_of, Besides, Stands}
use Rattle.weld_acts.proofs.Outcomes.{then_same, then_done, run_same}

-- ---- names

-- a name that isn't free isn't missed
agree_unused : (free inner : ℕ → Type 0) (b : ℕ) (d env : Env) → ((y : ℕ) → inner y → free y) → ¬ (inner b) → AgreeOn (Besides free b) d env → AgreeOn inner d env
agree_unused free inner b d env k unused a = record { agree = λ y f. a.agree y (k y f, λ e. unused (subst inner e f)) }

-- the own name may stand for anything
pub agree_own : (free inner : ℕ → Type 0) (c : ℕ) (t u : Thing) (d env : Env) → ((y : ℕ) → inner y → y ≢ c → free y) → AgreeOn free d env → AgreeOn (Besides inner c) ((c, t) ∷ d) ((c, u) ∷ env)
agree_own free inner c t u d env k a = record { agree = λ y f. behind y f.1 (a.agree y (k y f.0 f.1)) }
  where
    behind : (y : ℕ) → y ≢ c → look_for y d ≡ look_for y env → look_for y ((c, t) ∷ d) ≡ look_for y ((c, u) ∷ env)
    behind y ne e = rw (ne_eqb y c ne) e

-- in the body of a loop that goes on, whose own name may stand for anything
agree_in_body : (a : At) (ls : LegTrees) (e : ExprTree) (c n x : Binder) (f : ExprTree) (b : ℕ) (t u count row : Thing) (d env : Env) → ¬ (IsFree f b) → AgreeOn (Besides (IsFree (loop a ls e c n x f)) b) d env
    → AgreeOn (Besides (IsFree f) c.sym.0) (with_row c n x t count row d) (with_row c n x u count row env)
agree_in_body a ls e c n x f b t u count row d env unused ag =
    agree_bind (Besides (λ y. IsFree f y × (y ≢ x.sym.0)) c.sym.0) (Besides (IsFree f) c.sym.0) x.sym.0 row _ _ (λ y g ne. ((g.0, ne), g.1))
    (agree_bind (Besides (λ y. IsFree f y × (y ≢ x.sym.0) × (y ≢ n.sym.0)) c.sym.0) (Besides (λ y. IsFree f y × (y ≢ x.sym.0)) c.sym.0) n.sym.0 count _ _ (λ y g ne. ((g.0.0, g.0.1, ne), g.1))
    (agree_own (Besides (IsFree (loop a ls e c n x f)) b) (λ y. IsFree f y × (y ≢ x.sym.0) × (y ≢ n.sym.0)) c.sym.0 t u d env (λ y g ne. (inr (inr (g.0, g.1, g.2, ne)), λ q. unused (subst (IsFree f) q g.0))) ag))

behind_other : (b y : ℕ) (t : Thing) (d : Env) → y ≢ b → look_for b ((y, t) ∷ d) ≡ look_for b d
behind_other b y t d ne = rw (ne_eqb b y (λ e. ne (sym e))) refl

in_front : (b : ℕ) (t : Thing) (d : Env) → look_for b ((b, t) ∷ d) ≡ Some t
in_front b t d = rw (eq-eqb b b refl) refl

stands_behind : (b : ℕ) (p : Path) (y : ℕ) (t : Thing) (d : Env) (s : Thing) → y ≢ b → Stands b p d s → Stands b p ((y, t) ∷ d) s
stands_behind b p y t d s ne h = record { root = h.root; named = behind_other b y t d ne ∙ h.named; there = h.there }

pub stands_own : (c n x : Binder) (s count row : Thing) (d : Env) → c.sym.0 ≢ n.sym.0 → c.sym.0 ≢ x.sym.0 → Stands c.sym.0 [] (with_row c n x s count row d) s
stands_own c n x s count row d not_number not_row = record {
  root = s;
  named = behind_other c.sym.0 x.sym.0 row ((n.sym.0, count) ∷ (c.sym.0, s) ∷ d) (λ e. not_row (sym e)) ∙ behind_other c.sym.0 n.sym.0 count ((c.sym.0, s) ∷ d) (λ e. not_number (sym e)) ∙ in_front c.sym.0 s d;
  there = refl;
}

-- ---- a name with field accesses

pub same_chain : (s b : ℕ) (q p : Path) → ◌≡◌ {A = Option (ℕ × Path)} (Some (s, q)) (Some (b, p)) → (s ≡ b) × (q ≡ p)
same_chain s b q p e = (ap (first s) e, ap second e)
  where
    first : ℕ → Option (ℕ × Path) → ℕ
    first d (Some c) = c.0
    first d None = d

    second : Option (ℕ × Path) → Path
    second (Some c) = c.1
    second None = []

leaf_stands : (l : Leaf) (b : ℕ) (p : Path) (d : Env) (root : Thing) → chain_of_leaf l ≡ Some (b, p) → look_for b d ≡ Some root → leaf_thing l d ≡ at_path_of p root
leaf_stands (int k x) b p d root is h = let no : ⊥ = cc in absurd no
leaf_stands (truth c) b p d root is h = let no : ⊥ = cc in absurd no
leaf_stands (chars bs) b p d root is h = let no : ⊥ = cc in absurd no
leaf_stands (name s) b p d root is h =
    let e = same_chain s b [] p is in ap (λ y. found (look_for y d)) e.0 ∙ ap found h ∙ ap (λ q. at_path_of q root) e.1
leaf_stands (fresh k) b p d root is h = let no : ⊥ = cc in absurd no

one_stands : (o : One) (c : Option (ℕ × Path)) (b : ℕ) (p : Path) (out : Outcome Thing) (root : Thing) → chain_of_one o c ≡ Some (b, p) → ((q : Path) → c ≡ Some (b, q) → out ≡ at_path_of q root) → and_then out (one_thing o) ≡ at_path_of p root
one_stands neg c b p out root is k = let no : ⊥ = cc in absurd no
one_stands not c b p out root is k = let no : ⊥ = cc in absurd no
one_stands (cast m) c b p out root is k = let no : ⊥ = cc in absurd no
one_stands len c b p out root is k = let no : ⊥ = cc in absurd no
one_stands (field n) None b p out root is k = let no : ⊥ = cc in absurd no
one_stands (field n) (Some c) b p out root is k =
    ap (λ o. and_then o (field_of n)) (k c.1 (ap (λ y. Some (y, c.1)) (same_chain c.0 b (n ∷ c.1) p is).0)) ∙ ap (λ q. at_path_of q root) (same_chain c.0 b (n ∷ c.1) p is).1
one_stands finish c b p out root is k = let no : ⊥ = cc in absurd no
one_stands (started m) c b p out root is k = let no : ⊥ = cc in absurd no

pub chain_stands : (e : ExprTree) (b : ℕ) (p : Path) (d : Env) (root : Thing) → chain_of e ≡ Some (b, p) → look_for b d ≡ Some root → eval e d ≡ at_path_of p root
chain_stands (leaf a l) b p d root is h = leaf_stands l b p d root is h
chain_stands (one a o e) b p d root is h = one_stands o (chain_of e) b p (eval e d) root is (λ q k. chain_stands e b q d root k h)
chain_stands (two a o e f) b p d root is h = let no : ⊥ = cc in absurd no
chain_stands (three a o c e f) b p d root is h = let no : ⊥ = cc in absurd no
chain_stands (many a o es) b p d root is h = let no : ⊥ = cc in absurd no
chain_stands (let_in a y e f) b p d root is h = let no : ⊥ = cc in absurd no
chain_stands (loop a ls e c n x f) b p d root is h = let no : ⊥ = cc in absurd no
chain_stands (iterate a e y f) b p d root is h = let no : ⊥ = cc in absurd no

-- ---- legs

leg_same : (l : LegTree) (env later : Env) → AgreeOn (LegIsFree l) env later → eval_leg l env ≡ eval_leg l later
leg_same (whole e) env later h = ap (λ o. and_then (value_out o) elements_of) (eval_free e env later (record { agree = h.agree }))
leg_same (strided e f g k) env later h =
    let p = eval_free e env later (agree_less _ (IsFree e) env later (λ s x. inl x) h) in
    let q = eval_free f env later (agree_less _ (IsFree f) env later (λ s x. inr (inl x)) h) in
    let r = eval_free g env later (agree_less _ (IsFree g) env later (λ s x. inr (inr (inl x))) h) in
    let u = eval_free k env later (agree_less _ (IsFree k) env later (λ s x. inr (inr (inr x))) h) in
    λ i. and_then (value_out (p i)) (λ v. and_then (value_out (q i)) (λ from. and_then (value_out (r i)) (λ to. and_then (value_out (u i)) (λ by. strided_of v from to by))))

pub legs_same : (ls : LegTrees) (env later : Env) → AgreeOn (LegsAreFree ls) env later → eval_legs ls env ≡ eval_legs ls later
legs_same no_legs env later h = refl
legs_same (more_legs l ls) env later h =
    let p = leg_same l env later (agree_less _ (LegIsFree l) env later (λ s q. inl q) h) in
    let q = legs_same ls env later (agree_less _ (LegsAreFree ls) env later (λ s r. inr r) h) in
    λ i. and_then (p i) (λ vs. map_out (λ rest. vs ∷ rest) (q i))

-- ---- structs

-- the things are the fields from that number on
pub record FieldsFrom (n : ℕ) (whole_thing : Thing) (ss : Things) : Type 0 where
  pub from : (m : ℕ) → field_of (n + m) whole_thing ≡ thing_at m ss

fields_next : (n : ℕ) (w : Thing) (x : Thing) (xs : Things) → FieldsFrom n w (more_things x xs) → FieldsFrom (suc n) w xs
fields_next n w x xs h = record { from = λ m. let e : suc n + m ≡ n + suc m = omega arith in ap (λ k. field_of k w) e ∙ h.from (suc m) }

field_there : (n : ℕ) (w : Thing) (x : Thing) (xs : Things) → FieldsFrom n w (more_things x xs) → field_of n w ≡ done x
field_there n w x xs h = let e : n ≡ n + 0 = omega arith in ap (λ k. field_of k w) e ∙ h.from 0

pub first_has : (x : Thing) (xs : Things) (u : TypeTree) (us : TypeTrees) → HaveBuilders (more_things x xs) (more_types u us) → HasThing x u
first_has (plain v) xs u us h = absurd h
first_has (building p) xs u us h = h.0
first_has (several ss) xs u us h = h.0

pub rest_have : (x : Thing) (xs : Things) (u : TypeTree) (us : TypeTrees) → HaveBuilders (more_things x xs) (more_types u us) → HaveBuilders xs us
rest_have (plain v) xs u us h = absurd h
rest_have (building p) xs u us h = h.1
rest_have (several ss) xs u us h = h.1

-- a thing of a struct of builders is a struct of things
pub fields_have : (s : Thing) (us : TypeTrees) → IsWellFormed (tuple us) → AreBuilders us → HasThing s (tuple us) → (s ≡ several (fields_of s)) × HaveBuilders (fields_of s) us
fields_have (plain v) us w b h = absurd (no_builder_value (tuple us) v w b h)
fields_have (building p) us w b h = absurd h
fields_have (several ss) us w b h = (refl, h.1)

from_start : (s : Thing) → s ≡ several (fields_of s) → FieldsFrom 0 s (fields_of s)
from_start s e = record { from = λ m. let same : 0 + m ≡ m = omega arith in ap (λ k. field_of k s) same ∙ ap (field_of m) e }

-- ---- the induction

-- the names are of well-formed types, and what they stand for is of these
pub record Typed (names : Types) (d : Env) : Type 0 where
  pub formed : AreFormed names
  pub fits : EnvFits names d

pub typed_gives : (e : ExprTree) (names : Types) (d : Env) (t : TypeTree) (x : Thing) → Typed names d → HasType e names t → eval e d ≡ done x → HasThing x t
typed_gives e names d t x n h is = subst (GivesOrFaults (λ y. HasThing y t)) is (never_stuck key_laws e names t d h n.formed n.fits).fits

pub rows_have : (r : TypeTree) (i : ℕ) (vs : List Value) → AllAre (HasValue r) (values vs) → RowsHave r (number_from i vs)
rows_have r i [] h = tt
rows_have r i (v ∷ vs) h = (h.0, rows_have r (suc i) vs h.1)

legs_give : (ls : LegTrees) (names : Types) (d : Env) (us : TypeTrees) (r : TypeTree) (lists : List (List Value)) (rows : List Value) → Typed names d → LegsHave ls names us → RowHas us r → eval_legs ls d ≡ done lists → rows_of lists ≡ done rows
    → RowsHave r (number_from 0 rows)
legs_give ls names d us r lists rows n h k q o =
    let fit = subst (GivesOrFaults (LegsFit us)) q (legs_good ls names us d h n.formed n.fits).fits in
    rows_have r 0 rows (subst (GivesOrFaults (λ vs. AllAre (HasValue r) (values vs))) o (rows_good us r lists k fit).fits)

mutual
  -- where the two environments agree but for the builder's name, which stands in the first for a thing that has the builder s
  -- at the path, what an expression that acts on the path comes to in the first is what it does to s in the second
  pub in_place : (e : ExprTree) (b : ℕ) (p : Path) (d env : Env) (s : Thing) (names : Types) (t : TypeTree) → IsAct b p e → Stands b p d s → AgreeOn (Besides (IsFree e) b) d env → Typed names d → HasType e names t → IsBuilder t → HasThing s t
      → eval e d ≡ act e env s
  in_place (leaf a l) b p d env s names t is st ag n h k hs = chain_stands (leaf a l) b p d st.root is st.named ∙ st.there
  in_place (one a o e) b p d env s names t is st ag n h k hs = chain_stands (one a o e) b p d st.root is st.named ∙ st.there
  in_place (two a (binary op) e v) b p d env s names t is st ag n h k hs = absurd is.0
  in_place (two a and e v) b p d env s names t is st ag n h k hs = absurd is.0
  in_place (two a or e v) b p d env s names t is st ag n h k hs = absurd is.0
  in_place (two a look_up e v) b p d env s names t is st ag n h k hs = absurd is.0
  in_place (two a key_exists e v) b p d env s names t is st ag n h k hs = absurd is.0
  in_place (two a merge e v) b p d env s names t is st ag n h k hs =
      let same = h.4.3 in
      let x = in_place e b p d env s names h.0 is.1 st (agree_less _ (Besides (IsFree e) b) d env (λ y f. (inl f.0, f.1)) ag) n h.2 (subst IsBuilder same k) (subst (HasThing s) same hs) in
      let y = eval_free v d env (agree_unused (IsFree (two a merge e v)) (IsFree v) b d env (λ z f. inr f) is.2 ag) in
      λ i. and_then (x i) (λ u. merged u (y i))
  in_place (three a if_else c e f) b p d env s names t is st ag n h k hs =
      let z = eval_free c d env (agree_unused (IsFree (three a if_else c e f)) (IsFree c) b d env (λ y g. inl g) is.1 ag) in
      let x = in_place e b p d env s names t is.2 st (agree_less _ (Besides (IsFree e) b) d env (λ y g. (inr (inl g.0), g.1)) ag) n (subst (HasType e names) h.6.1 h.4) k hs in
      let y = in_place f b p d env s names t is.3 st (agree_less _ (Besides (IsFree f) b) d env (λ y g. (inr (inr g.0), g.1)) ag) n (subst (HasType f names) h.6.2 h.5) k hs in
      λ i. and_then (z i) (λ u. chosen u (x i) (y i))
  in_place (three a select c e f) b p d env s names t is st ag n h k hs = absurd is.0
  in_place (three a slice c e f) b p d env s names t is st ag n h k hs = absurd is.0
  in_place (many a make_vec es) b p d env s names t is st ag n h k hs = absurd is.0
  in_place (many a make_struct es) b p d env s names t is st ag n h k hs =
      let same = h.2.2 in
      let builders : AreBuilders h.0 = subst IsBuilder same k in
      let formed : IsWellFormed (tuple h.0) = subst IsWellFormed same (type_formed (many a make_struct es) names t h n.formed) in
      let fields = fields_have s h.0 formed builders (subst (HasThing s) same hs) in
      then_done struct_of (eval_all es d)
      ∙ ap (map_out struct_of) (all_in_place es b p 0 d env st.root s (fields_of s) names h.0 is.1 st.named st.there (from_start s fields.0) (agree_less _ (Besides (AreFree es) b) d env (λ y f. f) ag) n h.1 builders fields.1)
  in_place (let_in a y v e) b p d env s names t is st ag n h k hs =
      then_same (eval v d) (λ x. eval e ((y.sym.0, x) ∷ d)) (λ x. act e ((y.sym.0, x) ∷ env) s)
      (λ x q.
      let has = typed_gives v names d h.0 x n h.1 q in
      in_place e b p ((y.sym.0, x) ∷ d) ((y.sym.0, x) ∷ env) s ((y.sym.0, h.0) ∷ names) t is.2 (stands_behind b p y.sym.0 x d s is.1 st)
      (agree_bind (Besides (IsFree (let_in a y v e)) b) (Besides (IsFree e) b) y.sym.0 x d env (λ z f ne. (inr (f.0, ne), f.1)) ag)
      (record { formed = formed_bind names y.sym.0 h.0 (type_formed v names h.0 h.1 n.formed) n.formed; fits = fits_bind names d y.sym.0 h.0 x has n.fits }) h.3 k hs)
      ∙ ap (λ o. and_then o (λ x. act e ((y.sym.0, x) ∷ env) s)) (eval_free v d env (agree_unused (IsFree (let_in a y v e)) (IsFree v) b d env (λ z f. inl f) is.0 ag))
  in_place (loop a ls e c m x f) b p d env s names t is st ag n h k hs =
      let r = h.1 in
      let formed = formed_body c m x t r names (type_formed e names t h.4 n.formed) (row_formed ls names h.0 r h.2 h.3 n.formed) n.formed in
      let builder = in_place e b p d env s names t is.1 st (agree_less _ (Besides (IsFree e) b) d env (λ y g. (inr (inl g.0), g.1)) ag) n h.4 k hs in
      let typed : (row : Row) (w : Thing) → HasValue r row.1 → HasThing w t → Typed (body_types c m x t r names) (with_row c m x w (plain (whole_number row.0)) (plain row.1) d) =
      λ row w hv hw. record { formed = formed; fits = fits_body names d c m x t r w row.1 row.0 hw hv n.fits } in
      then_same (eval_legs ls d) _ _
      (λ lists q. then_same (rows_of lists) _ _ (λ rows o.
      then_same (eval e d) (λ u. run (number_from 0 rows) u (λ row w. eval f (with_row c m x w (plain (whole_number row.0)) (plain row.1) d)))
      (λ u. run (number_from 0 rows) u (λ row w. act f (with_row c m x (bare_thing u) (plain (whole_number row.0)) (plain row.1) env) w))
      (λ u g.
      run_same r (λ w. HasThing w t) (λ row w. eval f (with_row c m x w (plain (whole_number row.0)) (plain row.1) d)) (λ row w. act f (with_row c m x (bare_thing u) (plain (whole_number row.0)) (plain row.1) env) w)
      (λ row w hv hw.
      in_place f c.sym.0 [] (with_row c m x w (plain (whole_number row.0)) (plain row.1) d) (with_row c m x (bare_thing u) (plain (whole_number row.0)) (plain row.1) env) w (body_types c m x t r names) t
      is.5 (stands_own c m x w (plain (whole_number row.0)) (plain row.1) d is.3 is.4)
      (agree_in_body a ls e c m x f b w (bare_thing u) (plain (whole_number row.0)) (plain row.1) d env is.2 ag) (typed row w hv hw) h.9 k hw)
      (λ row w z hv hw q. typed_gives f (body_types c m x t r names) _ t z (typed row w hv hw) h.9 q)
      (number_from 0 rows) u (legs_give ls names d h.0 r lists rows n h.2 h.3 q o) (typed_gives e names d t u n h.4 g))
      ∙ ap (λ o. and_then o (λ u. run (number_from 0 rows) u (λ row w. act f (with_row c m x (bare_thing u) (plain (whole_number row.0)) (plain row.1) env) w))) builder))
      ∙ ap (λ o. and_then o (λ lists. and_then (rows_of lists) (λ rows. and_then (act e env s) (λ u. run (number_from 0 rows) u (λ row w. act f (with_row c m x (bare_thing u) (plain (whole_number row.0)) (plain row.1) env) w)))))
      (legs_same ls d env (agree_unused (IsFree (loop a ls e c m x f)) (LegsAreFree ls) b d env (λ y g. inl g) is.0 ag))
  in_place (iterate a e y f) b p d env s names t is st ag n h k hs = absurd is

  all_in_place : (es : ExprTrees) (b : ℕ) (p : Path) (i : ℕ) (d env : Env) (root w : Thing) (ss : Things) (names : Types) (us : TypeTrees) → AllAct b p i es → look_for b d ≡ Some root → at_path_of p root ≡ done w → FieldsFrom i w ss → AgreeOn (Besides (AreFree es) b) d env → Typed names d → HaveTypes es names us → AreBuilders us → HaveBuilders ss us
      → eval_all es d ≡ act_all es env ss
  all_in_place no_exprs b p i d env root w ss names us is named there fields ag n h k hs = refl
  all_in_place (more_exprs e es) b p i d env root w ss names no_types is named there fields ag n h k hs = absurd h
  all_in_place (more_exprs e es) b p i d env root w no_things names (more_types u us) is named there fields ag n h k hs = absurd hs
  all_in_place (more_exprs e es) b p i d env root w (more_things x xs) names (more_types u us) is named there fields ag n h k hs =
      let y = in_place e b (i ∷ p) d env x names u is.0 (record { root = root; named = named; there = ap (λ o. and_then o (field_of i)) there ∙ field_there i w x xs fields }) (agree_less _ (Besides (IsFree e) b) d env (λ z f. (inl f.0, f.1)) ag) n h.0 k.0 (first_has x xs u us hs) in
      let z = all_in_place es b p (suc i) d env root w xs names us is.1 named there (fields_next i w x xs fields) (agree_less _ (Besides (AreFree es) b) d env (λ z f. (inr f.0, f.1)) ag) n h.1 k.1 (rest_have x xs u us hs) in
      λ j. and_then (y j) (λ t. map_out (more_things t) (z j))
