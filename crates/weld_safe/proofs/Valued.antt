-- Safe expressions have values.
use Rattle.std.proofs.Common.{◌≡◌, ℕ, suc, List, [], ◌∷◌, refl, sym, subst, ◌∙◌}
use Rattle.weld_data.specs.Value.{Value, number, list, struct, dict, values, list_of_values}
use Rattle.weld_tree.specs.declared.known.Known.TheVariants.{Is}
use Rattle.weld_tree.specs.TypeTree.{TypeTree, TypeTrees, vec, build, no_types, more_types}
use Rattle.weld_tree.specs.ExprTree.{At, ExprTree, leaf, one, two, three, many, let_in, loop, iterate, ExprTrees, no_exprs, more_exprs, no_legs, more_legs, whole, strided, Two, binary, and, or, look_up, key_exists, merge}
use Rattle.weld_tree.specs.HasValue.{HasValue, AllAre}
use Rattle.weld_builders.specs.Outcome.{Outcome, done, fault, stuck, and_then, map_out}
use Rattle.weld_meaning.specs.Thing.{Thing, plain, building, several, more_things}
use Rattle.weld_meaning.specs.Typing.{Types, AreFormed, HasType, HaveTypes, LegsHave, RowHas, body_types}
use Rattle.weld_meaning.specs.ThingType.{HasThing, EnvFits}
use Rattle.weld_meaning.specs.Meaning.{GivesOrFaults}
use Rattle.weld_meaning.specs.Loops.{RowsHave}
use Rattle.weld_meaning.specs.Evaluation.{Env, Row, whole_number, with_row, value_out, elements_of, rows_of, number_from, run, one_thing, two_thing, three_thing, many_thing, eval, eval_all, eval_leg, eval_legs}
use Rattle.weld_meaning.proofs.WellFormed.{formed_bind, formed_body, type_formed, row_formed}
use Rattle.weld_meaning.proofs.NeverStuck.{fits_bind, fits_body}
use Rattle.weld_meaning.proofs.ValuesGood.{all_listed}
use Rattle.weld_check_types.specs.Notes.{AreNoted, AllAreNoted}
use Rattle.weld_safe.specs.Safe.{MergesSafely, NoteIsSafe, TwoIsSafe, IsSafe, AllAreSafe}
use Rattle.weld_safe.proofs.Clean.{IsNoFault, then_clean, map_clean, value_out_clean, elements_clean, leaf_clean, one_clean, binary_clean, and_clean, or_clean, key_clean, merged_clean, three_clean, many_clean}

-- the laws of the meaning that this rests on
pub record Laws : Type 0 where
  pub fits : (e : ExprTree) (g : Types) (t : TypeTree) (env : Env) → HasType e g t → AreFormed g → EnvFits g env → GivesOrFaults (λ x. HasThing x t) (eval e env)
  pub one : (e : ExprTree) (g : Types) (t u : TypeTree) → HasType e g t → HasType e g u → t ≡ u

-- what a typed expression comes to is of the type
is_of : (laws : Laws) (e : ExprTree) (g : Types) (t : TypeTree) (env : Env) (x : Thing) → HasType e g t → AreFormed g → EnvFits g env → eval e env ≡ done x → HasThing x t
is_of laws e g t env x h w fit q = subst (GivesOrFaults (λ x. HasThing x t)) q (laws.fits e g t env h w fit)

-- ---- rows

rows_are : (r : TypeTree) (n : ℕ) (vs : List Value) → AllAre (HasValue r) (values vs) → RowsHave r (number_from n vs)
rows_are r n [] h = tt
rows_are r n (v ∷ vs) h = (h.0, rows_are r (suc n) vs h.1)

-- a loop over rows of a type whose body keeps a property of the builder and doesn't fault
run_clean : (r : TypeTree) (P : Thing → Type 0) (f : Row → Thing → Outcome Thing)
    → ((row : Row) (s : Thing) → HasValue r row.1 → P s → IsNoFault (f row s)) → ((row : Row) (s t : Thing) → HasValue r row.1 → P s → f row s ≡ done t → P t)
    → (rows : List Row) (s : Thing) → RowsHave r rows → P s → IsNoFault (run rows s f)
run_clean r P f c k [] s h p = tt
run_clean r P f c k (row ∷ rows) s h p = then_clean (f row s) (λ t. run rows t f) (c row s h.0 p) (λ t q. run_clean r P f c k rows t h.1 (k row s t h.0 p q))

-- ---- the one leg of a loop

-- the elements of a vector are of its items' type
elements_are : (u : TypeTree) (o : Outcome Thing) (vs : List Value) → GivesOrFaults (λ x. HasThing x (vec u)) o → and_then (value_out o) elements_of ≡ done vs → AllAre (HasValue u) (values vs)
elements_are u (done (plain (number k x))) vs h q = absurd h
elements_are u (done (plain (list ws))) vs h q =
    let e : list_of_values ws ≡ vs = cc in subst (λ (xs : List Value). AllAre (HasValue u) (values xs)) e (all_listed (HasValue u) ws h)
elements_are u (done (plain (struct ws))) vs h q = absurd h
elements_are u (done (plain (dict es))) vs h q = absurd h
elements_are u (done (building p)) vs h q = absurd h
elements_are u (done (several ts)) vs h q = absurd h
elements_are u fault vs h q = let wrong : ⊥ = cc in absurd wrong
elements_are u stuck vs h q = absurd h

one_leg : (o : Outcome (List Value)) (legs : List (List Value)) → and_then o (λ vs. done (vs ∷ [])) ≡ done legs → (vs : List Value) × (o ≡ done vs) × (legs ≡ vs ∷ [])
one_leg (done vs) legs q = let e : vs ∷ [] ≡ legs = cc in (vs, refl, sym e)
one_leg fault legs q = let wrong : ⊥ = cc in absurd wrong
one_leg stuck legs q = let wrong : ⊥ = cc in absurd wrong

leg_type : (v : ExprTree) (g : Types) (us : TypeTrees) (r : TypeTree) → LegsHave (more_legs (whole v) no_legs) g us → RowHas us r → HasType v g (vec r)
leg_type v g no_types r h k = absurd h
leg_type v g (more_types u no_types) r h k = subst (λ z. HasType v g (vec z)) (sym k) h.0
leg_type v g (more_types u (more_types w us)) r h k = absurd h.1

same_row : (laws : Laws) (v : ExprTree) (g : Types) (us ws : TypeTrees) (r q : TypeTree)
    → LegsHave (more_legs (whole v) no_legs) g us → RowHas us r → LegsHave (more_legs (whole v) no_legs) g ws → RowHas ws q → r ≡ q
same_row laws v g us ws r q h k i j = let e : vec r ≡ vec q = laws.one v g (vec r) (vec q) (leg_type v g us r h k) (leg_type v g ws q i j) in cc

-- ---- forms of two parts

two_clean : (laws : Laws) (a : At) (o : Two) (e f : ExprTree) (g : Types) (t : TypeTree) (x : Thing) (p : Outcome Thing)
    → (h : HasType (two a o e f) g t) → (u : TypeTree) × (a.ty ≡ Is u) × HasType (two a o e f) g u → TwoIsSafe a.ty o → HasThing x h.0
    → IsNoFault p → IsNoFault (two_thing o x p)
two_clean laws a (binary op) e f g t x p h noted s has clean = binary_clean op x p s clean
two_clean laws a and e f g t x p h noted s has clean = and_clean x p clean
two_clean laws a or e f g t x p h noted s has clean = or_clean x p clean
two_clean laws a look_up e f g t x p h noted s has clean = absurd s
two_clean laws a key_exists e f g t x p h noted s has clean = key_clean x p clean
two_clean laws a merge e f g t x p h noted s has clean =
    let b = h.4.0 in
    let typed : HasType (two a merge e f) g (build b) = subst (λ z. HasType (two a merge e f) g z) (h.4.3 ∙ h.4.1) h in
    merged_clean b x p (subst (HasThing x) h.4.1 has)
    (subst MergesSafely (laws.one (two a merge e f) g noted.0 (build b) noted.2 typed) (subst NoteIsSafe noted.1 s)) clean

-- ---- the induction

mutual
  pub is_clean : (laws : Laws) (e : ExprTree) (g : Types) (t : TypeTree) (env : Env) → HasType e g t → AreFormed g → EnvFits g env → AreNoted e g → IsSafe e → IsNoFault (eval e env)
  is_clean laws (leaf a l) g t env h w fit noted s = leaf_clean l env
  is_clean laws (one a o e) g t env h w fit noted s =
      then_clean (eval e env) (one_thing o) (is_clean laws e g h.0 env h.1 w fit noted.0 s) (λ x q. one_clean o x)
  is_clean laws (two a o e f) g t env h w fit noted s =
      let right = is_clean laws f g h.1 env h.3 w fit noted.1 s.2 in
      then_clean (eval e env) (λ x. two_thing o x (eval f env)) (is_clean laws e g h.0 env h.2 w fit noted.0 s.1)
      (λ x q. two_clean laws a o e f g t x (eval f env) h noted.2 s.0 (is_of laws e g h.0 env x h.2 w fit q) right)
  is_clean laws (three a o c e f) g t env h w fit noted s =
      let second = is_clean laws e g h.1 env h.4 w fit noted.1 s.2 in
      let third = is_clean laws f g h.2 env h.5 w fit noted.2 s.3 in
      then_clean (eval c env) (λ x. three_thing o x (eval e env) (eval f env)) (is_clean laws c g h.0 env h.3 w fit noted.0 s.1)
      (λ x q. three_clean o x (eval e env) (eval f env) s.0 second third)
  is_clean laws (many a o es) g t env h w fit noted s =
      then_clean (eval_all es env) (many_thing o) (are_clean laws es g h.0 env h.1 w fit noted.0 s) (λ xs q. many_clean o xs)
  is_clean laws (let_in a b e f) g t env h w fit noted s =
      let same : noted.1.0 ≡ h.0 = laws.one e g noted.1.0 h.0 noted.1.1 h.1 in
      let notes : AreNoted f ((b.sym.0, h.0) ∷ g) = subst (λ (u : TypeTree). AreNoted f ((b.sym.0, u) ∷ g)) same noted.1.2 in
      let formed = formed_bind g b.sym.0 h.0 (type_formed e g h.0 h.1 w) w in
      then_clean (eval e env) (λ x. eval f ((b.sym.0, x) ∷ env)) (is_clean laws e g h.0 env h.1 w fit noted.0 s.0)
      (λ x q. is_clean laws f ((b.sym.0, h.0) ∷ g) t ((b.sym.0, x) ∷ env) h.3 formed (fits_bind g env b.sym.0 h.0 x (is_of laws e g h.0 env x h.1 w fit q) fit) notes s.1)
  is_clean laws (loop a no_legs e b n x f) g t env h w fit noted s = absurd s.0
  is_clean laws (loop a (more_legs (strided v i j k) ls) e b n x f) g t env h w fit noted s = absurd s.0.0
  is_clean laws (loop a (more_legs (whole v) (more_legs l ls)) e b n x f) g t env h w fit noted s = absurd s.0.1
  is_clean laws (loop a (more_legs (whole v) no_legs) e b n x f) g t env h w fit noted s =
      let r = h.1 in
      let row : HasType v g (vec r) = leg_type v g h.0 r h.2 h.3 in
      let other = noted.2 in
      let one_row : other.1 ≡ r = same_row laws v g other.0 h.0 other.1 r other.3 other.4 h.2 h.3 in
      let one_builder : other.2 ≡ t = laws.one e g other.2 t other.5 h.4 in
      let notes : AreNoted f (body_types b n x t r g) =
      subst (λ (z : TypeTree). AreNoted f (body_types b n x t z g)) one_row (subst (λ (z : TypeTree). AreNoted f (body_types b n x z other.1 g)) one_builder other.6) in
      let formed = formed_body b n x t r g (type_formed e g t h.4 w) (row_formed (more_legs (whole v) no_legs) g h.0 r h.2 h.3 w) w in
      let body : Row → Thing → Outcome Thing = λ row u. eval f (with_row b n x u (plain (whole_number row.0)) (plain row.1) env) in
      let leg : IsNoFault (eval_leg (whole v) env) =
      then_clean (value_out (eval v env)) elements_of (value_out_clean (eval v env) (is_clean laws v g (vec r) env row w fit noted.0.0 s.0.0)) (λ u q. elements_clean u) in
      let builder = is_clean laws e g t env h.4 w fit noted.1 s.1 in
      let clean : (row : Row) (u : Thing) → HasValue r row.1 → HasThing u t → IsNoFault (body row u) =
      λ row u hv hu. is_clean laws f (body_types b n x t r g) t _ h.9 formed (fits_body g env b n x t r u row.1 row.0 hu hv fit) notes s.2 in
      let typed : (row : Row) (u z : Thing) → HasValue r row.1 → HasThing u t → body row u ≡ done z → HasThing z t =
      λ row u z hv hu q. is_of laws f (body_types b n x t r g) t _ z h.9 formed (fits_body g env b n x t r u row.1 row.0 hu hv fit) q in
      then_clean (eval_legs (more_legs (whole v) no_legs) env) (λ legs. and_then (rows_of legs) (λ rows. and_then (eval e env) (λ u. run (number_from 0 rows) u body)))
      (then_clean (eval_leg (whole v) env) (λ vs. done (vs ∷ [])) leg (λ vs q. tt))
      (λ legs q. let k = one_leg (eval_leg (whole v) env) legs q in
      subst (λ (ls : List (List Value)). IsNoFault (and_then (rows_of ls) (λ rows. and_then (eval e env) (λ u. run (number_from 0 rows) u body)))) (sym k.2)
      (then_clean (eval e env) (λ u. run (number_from 0 k.0) u body) builder
      (λ u p. run_clean r (λ z. HasThing z t) body clean typed (number_from 0 k.0) u
      (rows_are r 0 k.0 (elements_are r (eval v env) k.0 (laws.fits v g (vec r) env row w fit) k.1)) (is_of laws e g t env u h.4 w fit p))))
  is_clean laws (iterate a e b f) g t env h w fit noted s = absurd s

  are_clean : (laws : Laws) (es : ExprTrees) (g : Types) (us : TypeTrees) (env : Env) → HaveTypes es g us → AreFormed g → EnvFits g env → AllAreNoted es g → AllAreSafe es → IsNoFault (eval_all es env)
  are_clean laws no_exprs g us env h w fit noted s = tt
  are_clean laws (more_exprs e es) g no_types env h w fit noted s = absurd h
  are_clean laws (more_exprs e es) g (more_types u us) env h w fit noted s =
      let rest = are_clean laws es g us env h.1 w fit noted.1 s.1 in
      then_clean (eval e env) (λ x. map_out (more_things x) (eval_all es env)) (is_clean laws e g u env h.0 w fit noted.0 s.0)
      (λ x q. map_clean (more_things x) (eval_all es env) rest)

-- what is no fault and comes to a thing or a fault is done
has_value : {A : Type 0} (P : A → Type 0) (o : Outcome A) → GivesOrFaults P o → IsNoFault o → (x : A) × (o ≡ done x) × P x
has_value P (done x) h k = (x, refl, h)
has_value P fault h k = absurd k
has_value P stuck h k = absurd h

pub valued : (laws : Laws) (e : ExprTree) (g : Types) (t : TypeTree) (env : Env) → AreFormed g → EnvFits g env → HasType e g t → AreNoted e g → IsSafe e
    → (x : Thing) × (eval e env ≡ done x) × HasThing x t
valued laws e g t env w fit h noted s = has_value (λ x. HasThing x t) (eval e env) (laws.fits e g t env h w fit) (is_clean laws e g t env h w fit noted s)
