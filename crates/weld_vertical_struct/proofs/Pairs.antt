-- What a pair is, by its parts: the same for both orders.
use Rattle.std.proofs.Common.{◌≡◌, ℕ, ◌+◌, Bool, true, false, ◌&&◌, ◌||◌, if◌then◌else◌, [], ◌++◌, length, refl, ap, sym, subst, ◌∙◌, inl, inr, arith, length-append}
use Rattle.weld_tree.specs.TypeTree.{TypeTree, TypeTrees, struct as tuple, no_types, more_types}
use Rattle.weld_tree.specs.ExprTree.{At, ExprTree, many, no_exprs, more_exprs, make_struct}
use Rattle.weld_tree.specs.Program.{loops, bound, IsWellMade}
use Rattle.weld_builders.specs.Outcome.{Outcome, done, fault, stuck, and_then, map_out}
use Rattle.weld_meaning.specs.Environment.{Named}
use Rattle.weld_meaning.specs.Thing.{Thing, plain, building, several, no_things, more_things, struct_of, field_of}
use Rattle.weld_meaning.specs.Typing.{Types, IsField, HasType, HaveTypes}
use Rattle.weld_meaning.specs.Evaluation.{Env, eval}
use Rattle.weld_meaning.specs.Origin.{Path, Origin, value, made, own, outer, named, struct, Origins, no_origins, more_origins, is_value, are_values, struct_origin, origin}
use Rattle.weld_meaning.specs.Linear.{Keeps}
use Rattle.weld_meaning.specs.Available.{Apart, takes, Splits}
use Rattle.weld_meaning.specs.Names.{IsFree}
use Rattle.weld_check_types.specs.Notes.{AreNoted}
use Rattle.weld_print.specs.Spellable.{IsSpellable}
use Rattle.weld_rewriting.specs.Within.{times, legs}
use Rattle.weld_rewriting.proofs.Counts.{times-append}
use Rattle.weld_vertical_struct.proofs.Parts.{Pair}
use Rattle.weld_vertical_struct.proofs.Renaming.{IsPartOf}

-- ---- origins

value_so : (o : Origin) → is_value o ≡ true → o ≡ value
value_so value h = refl
value_so made h = let nothing : ⊥ = cc in absurd nothing
value_so (own p) h = let nothing : ⊥ = cc in absurd nothing
value_so outer h = let nothing : ⊥ = cc in absurd nothing
value_so (named s p) h = let nothing : ⊥ = cc in absurd nothing
value_so (struct os) h = let nothing : ⊥ = cc in absurd nothing

both : (a b : Bool) → (a && b) ≡ true → (a ≡ true) × (b ≡ true)
both true b h = (refl, h)
both false b h = let nothing : ⊥ = cc in absurd nothing

abbrev two_origins : Origin → Origin → Origins
two_origins o u = more_origins o (more_origins u no_origins)

module _ (m : Pair) (o u : Origin) where
  whole_by : (P : Origin → Type 0) → (is_value o ≡ true → is_value u ≡ true → P value) → P (struct (two_origins o u)) → P (struct_origin (two_origins o u))
  whole_by P f g = by (are_values (two_origins o u)) refl
    where
      by : (b : Bool) → are_values (two_origins o u) ≡ b → P (if b then value else struct (two_origins o u))
      by true h = let k = both (is_value o) (is_value u && true) h in f k.0 (both (is_value u) true k.1).0
      by false h = g

  pub first_part : IsPartOf m (struct_origin (two_origins o u)) 0 o
  first_part =
      whole_by (λ w. IsPartOf m w 0 o)
      (λ h k. subst (IsPartOf m value 0) (sym (value_so o h)) (record { from = refl; leads = refl; below = refl }))
      (record { from = refl; leads = refl; below = refl })

  pub second_part : IsPartOf m (struct_origin (two_origins o u)) 1 u
  second_part =
      whole_by (λ w. IsPartOf m w 1 u)
      (λ h k. subst (IsPartOf m value 1) (sym (value_so u k)) (record { from = refl; leads = refl; below = refl }))
      (record { from = refl; leads = refl; below = refl })

-- ---- a pair by its parts, of which one has number `i` and the other number `j`

pub record IsPairOf (m : Pair) (v e f : ExprTree) : Type 0 where
  pub part : (g : Named Origin) → IsPartOf m (origin v g) m.i (origin e g)
  pub rest : (g : Named Origin) → IsPartOf m (origin v g) m.j (origin f g)
  pub typed : (g : Types) (u : TypeTree) → HasType v g u
      → (t : TypeTree) × (w : TypeTree) × HasType e g t × HasType f g w
      × ((us : TypeTrees) (y : TypeTree) → u ≡ tuple us → IsField m.i us y → y ≡ t) × ((us : TypeTrees) (y : TypeTree) → u ≡ tuple us → IsField m.j us y → y ≡ w)
  pub keeps : (g : Named Origin) → Keeps v g → Keeps f g
  pub splits : (g : Named Origin) → Splits v g → Splits f g × Apart (takes e g) (takes f g)
  pub taken : (g : Named Origin) (t : ℕ) (w : Path) → takes v g t w ≡ (takes e g t w || takes f g t w)
  pub noted : (g : Types) → AreNoted v g → AreNoted f g
  pub things : Thing → Thing → Thing
  pub part_thing : (t u : Thing) → field_of m.i (things t u) ≡ done t
  pub rest_thing : (t u : Thing) → field_of m.j (things t u) ≡ done u
  pub means : (env : Env) (t : Thing) → eval e env ≡ done t → eval v env ≡ map_out (things t) (eval f env)
  pub binds : (t : ℕ) → times (bound v) t ≡ times (bound e) t + times (bound f) t
  pub binders : length (bound v) ≡ length (bound e) + length (bound f)
  pub loop_count : loops v ≡ loops e + loops f
  pub leg_count : legs v ≡ legs e + legs f
  pub part_names : (t : ℕ) → IsFree e t → IsFree v t
  pub rest_names : (t : ℕ) → IsFree f t → IsFree v t
  pub made : IsWellMade v → IsWellMade f
  pub spellable : IsSpellable v → IsSpellable f

abbrev pub pair_of_parts : At → ExprTree → ExprTree → ExprTree
pair_of_parts w e f = many w make_struct (more_exprs e (more_exprs f no_exprs))

same_fields : (u : TypeTree) (vs us : TypeTrees) → u ≡ tuple vs → u ≡ tuple us → vs ≡ us
same_fields u vs us h k = let both_are : tuple vs ≡ tuple us = sym h ∙ k in cc

abbrev two_things : Thing → Thing → Thing
two_things t u = struct_of (more_things t (more_things u no_things))

first_thing : (t u : Thing) → field_of 0 (two_things t u) ≡ done t
first_thing (plain v) (plain w) = refl
first_thing (plain v) (building p) = refl
first_thing (plain v) (several ts) = refl
first_thing (building p) u = refl
first_thing (several ts) u = refl

second_thing : (t u : Thing) → field_of 1 (two_things t u) ≡ done u
second_thing (plain v) (plain w) = refl
second_thing (plain v) (building p) = refl
second_thing (plain v) (several ts) = refl
second_thing (building p) u = refl
second_thing (several ts) u = refl

then_pair : (o : Outcome Thing) (k : Thing → Thing → Thing) (t : Thing) → and_then (map_out (more_things t) (and_then o (λ u. map_out (more_things u) (done no_things)))) (λ ts. done (struct_of ts)) ≡ map_out (two_things t) o
then_pair (done u) k t = refl
then_pair fault k t = refl
then_pair stuck k t = refl

then_other : (o : Outcome Thing) (t : Thing) → and_then (and_then o (λ u. map_out (more_things u) (map_out (more_things t) (done no_things)))) (λ ts. done (struct_of ts)) ≡ map_out (λ u. two_things u t) o
then_other (done u) t = refl
then_other fault t = refl
then_other stuck t = refl

or_none : (b c : Bool) → (b || (c || false)) ≡ (b || c)
or_none true c = refl
or_none false true = refl
or_none false false = refl

or_turned : (b c : Bool) → (c || (b || false)) ≡ (b || c)
or_turned true true = refl
or_turned true false = refl
or_turned false true = refl
or_turned false false = refl

-- the name stands first
pub name_first : (m : Pair) → m.i ≡ 0 → m.j ≡ 1 → (w : At) (e f : ExprTree) → IsPairOf m (pair_of_parts w e f) e f
name_first m p q w e f = record {
  part = λ g. subst (λ n. IsPartOf m (origin (pair_of_parts w e f) g) n (origin e g)) (sym p) (first_part m (origin e g) (origin f g));
  rest = λ g. subst (λ n. IsPartOf m (origin (pair_of_parts w e f) g) n (origin f g)) (sym q) (second_part m (origin e g) (origin f g));
  typed = λ g u h. types g u h.0 h;
  keeps = λ g h. h.1.0;
  splits = λ g h. (h.1.0, record { apart = λ t w y z. h.2.apart t w y (ap (λ b. b || false) z) });
  taken = λ g t w. or_none (takes e g t w) (takes f g t w);
  noted = λ g h. h.0.1.0;
  things = two_things;
  part_thing = λ t u. subst (λ n. field_of n (two_things t u) ≡ done t) (sym p) (first_thing t u);
  rest_thing = λ t u. subst (λ n. field_of n (two_things t u) ≡ done u) (sym q) (second_thing t u);
  means = λ env t h. ap (λ o. and_then (and_then o (λ t. map_out (more_things t) (and_then (eval f env) (λ u. map_out (more_things u) (done no_things))))) (λ ts. done (struct_of ts))) h ∙ then_pair (eval f env) two_things t;
  binds = λ t. omega (arith, times-append (bound e) (bound f ++ []) t, times-append (bound f) [] t);
  binders = omega (arith, length-append (bound e) (bound f ++ []), length-append (bound f) []);
  loop_count = omega arith;
  leg_count = omega arith;
  part_names = λ t h. inl h;
  rest_names = λ t h. inr (inl h);
  made = λ h. h.1.1.0;
  spellable = λ h. h.1.0;
}
  where
    types : (g : Types) (u : TypeTree) (vs : TypeTrees) → (h : HasType (pair_of_parts w e f) g u) → (t : TypeTree) × (w : TypeTree) × HasType e g t × HasType f g w × ((us : TypeTrees) (y : TypeTree) → u ≡ tuple us → IsField m.i us y → y ≡ t) × ((us : TypeTrees) (y : TypeTree) → u ≡ tuple us → IsField m.j us y → y ≡ w)
    types g u vs h = by h.0 h.1 h.2.2
      where
        by : (us : TypeTrees) → HaveTypes (more_exprs e (more_exprs f no_exprs)) g us → u ≡ tuple us → (t : TypeTree) × (w : TypeTree) × HasType e g t × HasType f g w × ((us : TypeTrees) (y : TypeTree) → u ≡ tuple us → IsField m.i us y → y ≡ t) × ((us : TypeTrees) (y : TypeTree) → u ≡ tuple us → IsField m.j us y → y ≡ w)
        by no_types k is = absurd k
        by (more_types t no_types) k is = absurd k.1
        by (more_types t (more_types v no_types)) k is = (
          t,
          v,
          k.0,
          k.1.0,
          (λ us y e h. subst (λ n. IsField n (more_types t (more_types v no_types)) y) p (subst (λ zs. IsField m.i zs y) (sym (same_fields u (more_types t (more_types v no_types)) us is e)) h)),
          (λ us y e h. subst (λ n. IsField n (more_types t (more_types v no_types)) y) q (subst (λ zs. IsField m.j zs y) (sym (same_fields u (more_types t (more_types v no_types)) us is e)) h)),
        )
        by (more_types t (more_types v (more_types z zs))) k is = absurd k.1.1

-- the name stands second
pub name_second : (m : Pair) → m.i ≡ 1 → m.j ≡ 0 → (w : At) (e f : ExprTree) → IsPairOf m (pair_of_parts w f e) e f
name_second m p q w e f = record {
  part = λ g. subst (λ n. IsPartOf m (origin (pair_of_parts w f e) g) n (origin e g)) (sym p) (second_part m (origin f g) (origin e g));
  rest = λ g. subst (λ n. IsPartOf m (origin (pair_of_parts w f e) g) n (origin f g)) (sym q) (first_part m (origin f g) (origin e g));
  typed = λ g u h. types g u h.0 h;
  keeps = λ g h. h.0;
  splits = λ g h. (h.0, record { apart = λ t w y z. h.2.apart t w z (ap (λ b. b || false) y) });
  taken = λ g t w. or_turned (takes e g t w) (takes f g t w);
  noted = λ g h. h.0.0;
  things = λ t u. two_things u t;
  part_thing = λ t u. subst (λ n. field_of n (two_things u t) ≡ done t) (sym p) (second_thing u t);
  rest_thing = λ t u. subst (λ n. field_of n (two_things u t) ≡ done u) (sym q) (first_thing u t);
  means = λ env t h. ap (λ o. and_then (and_then (eval f env) (λ u. map_out (more_things u) (and_then o (λ t. map_out (more_things t) (done no_things))))) (λ ts. done (struct_of ts))) h ∙ then_other (eval f env) t;
  binds = λ t. omega (arith, times-append (bound f) (bound e ++ []) t, times-append (bound e) [] t);
  binders = omega (arith, length-append (bound f) (bound e ++ []), length-append (bound e) []);
  loop_count = omega arith;
  leg_count = omega arith;
  part_names = λ t h. inr (inl h);
  rest_names = λ t h. inl h;
  made = λ h. h.1.0;
  spellable = λ h. h.0;
}
  where
    types : (g : Types) (u : TypeTree) (vs : TypeTrees) → (h : HasType (pair_of_parts w f e) g u) → (t : TypeTree) × (w : TypeTree) × HasType e g t × HasType f g w × ((us : TypeTrees) (y : TypeTree) → u ≡ tuple us → IsField m.i us y → y ≡ t) × ((us : TypeTrees) (y : TypeTree) → u ≡ tuple us → IsField m.j us y → y ≡ w)
    types g u vs h = by h.0 h.1 h.2.2
      where
        by : (us : TypeTrees) → HaveTypes (more_exprs f (more_exprs e no_exprs)) g us → u ≡ tuple us → (t : TypeTree) × (w : TypeTree) × HasType e g t × HasType f g w × ((us : TypeTrees) (y : TypeTree) → u ≡ tuple us → IsField m.i us y → y ≡ t) × ((us : TypeTrees) (y : TypeTree) → u ≡ tuple us → IsField m.j us y → y ≡ w)
        by no_types k is = absurd k
        by (more_types t no_types) k is = absurd k.1
        by (more_types v (more_types t no_types)) k is = (
          t,
          v,
          k.1.0,
          k.0,
          (λ us y e h. subst (λ n. IsField n (more_types v (more_types t no_types)) y) p (subst (λ zs. IsField m.i zs y) (sym (same_fields u (more_types v (more_types t no_types)) us is e)) h)),
          (λ us y e h. subst (λ n. IsField n (more_types v (more_types t no_types)) y) q (subst (λ zs. IsField m.j zs y) (sym (same_fields u (more_types v (more_types t no_types)) us is e)) h)),
        )
        by (more_types t (more_types v (more_types z zs))) k is = absurd k.1.1
