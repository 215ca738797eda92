-- What a body that is handed to the other loop comes to on a row, by its form: forms of up to three parts and lets.
use Rattle.std.proofs.Common.{◌≡◌, ◌≢◌, ℕ, Bool, true, false, ◌&&◌, List, [], ◌∷◌, ◌++◌, Option, Some, None, refl, ap, sym, subst, ◌∙◌, ne_eqb, inl, inr}
use Rattle.weld_data.specs.Value.{Value}
use Rattle.weld_tree.specs.declared.binder.Binder.{Binder}
use Rattle.weld_tree.specs.TypeTree.{TypeTree, BuildTree, TypeTrees, vec, struct as tuple, dict, build, list, total, keyed, cells, groups}
use Rattle.weld_tree.specs.Types.{IsBuilderFree, IsWellFormed, IsWellFormedBuild, takes as taken_type}
use Rattle.weld_tree.specs.ExprTree.{At, ExprTree, leaf, one, two, three, let_in, Leaf, int, truth, chars, name, fresh, One, neg, not as not_of, cast, len, field, finish, started, Two, binary, and, or, look_up, key_exists, merge, Three, if_else, select, slice}
use Rattle.weld_builders.specs.Outcome.{Outcome, done, fault, stuck, and_then}
use Rattle.weld_builders.specs.Part.{list_part, total_part, totals_part, cells_part, keyed_part, groups_part}
use Rattle.weld_meaning.specs.Environment.{Named, look_for}
use Rattle.weld_meaning.specs.Thing.{Thing, plain, building, several, as_value, field_of}
use Rattle.weld_meaning.specs.ThingType.{HasThing}
use Rattle.weld_meaning.specs.Typing.{Types, AreFormed, IsField, StartHas, OneHas, TwoHas, ThreeHas, HasType}
use Rattle.weld_meaning.specs.Evaluation.{Env, found, whole_number, value_out, chosen, merged, leaf_thing, one_thing, two_thing, three_thing, eval}
use Rattle.weld_meaning.specs.Origin.{Path, Origin, value, made, own, outer, named, struct, field_origin, is_value, one_origin, two_origin, three_origin, origin}
use Rattle.weld_meaning.specs.Linear.{OneKeeps, ThreeKeeps, Keeps}
use Rattle.weld_meaning.specs.Available.{chain_of_one, chain_of, ChainSplits, OneSplits, Splits}
use Rattle.weld_meaning.specs.Forms.{HasForm, NamesHaveForms}
use Rattle.weld_meaning.specs.Meaning.{GivesOrFaults}
use Rattle.weld_meaning.specs.Names.{answer_of, IsFree, Binds}
use Rattle.weld_meaning.proofs.Good.{free_value_type, value_of_thing}
use Rattle.weld_meaning.proofs.Names.{agree_bind, eval_free}
use Rattle.weld_meaning.proofs.NeverStuck.{Of, never_stuck}
use Rattle.weld_meaning.proofs.OriginTypes.{origin_forms}
use Rattle.weld_meaning.proofs.PartsGood.{KeyLaws}
use Rattle.weld_meaning.proofs.WellFormed.{merger_free, takes_free, integer_free, key_free, type_formed}
use Rattle.weld_rewriting.proofs.Forms.{chain_field}
use Rattle.weld_substitution.proofs.Following.{and_true}
use Rattle.weld_vertical.specs.Sinking.{is_merge}
use Rattle.weld_vertical.proofs.Handing.{then_then, then_itself, answers_at, answers_swap}
use Rattle.weld_handing.specs.Handing.{is_held, holds, handed_at, handed_two, handed, starts_none}
use Rattle.weld_handing.proofs.Common.{IsAside, IsBehind}
use Rattle.weld_meaning.proofs.Tracing.{same_origins}
use Rattle.weld_handing.proofs.Held.{HasHeld, held_is, type_held}
use Rattle.weld_handing.proofs.HandingOn.{Fails, fails_then, fails_after, no_answer, hand, breaks}
use Rattle.weld_handing.proofs.Staying.{no_chain, no_value_at, breaking_here, stays}
use Rattle.weld_handing.proofs.Answers.{answers_both, answers_when, chosen_same, chosen_on, two_same, three_same, other_holds, finished_holds, free_holds, unheld_on, held_hand, field_on}
use Rattle.weld_handing.proofs.Meeting.{Meets, meets_bind, meets_over, name_means, chain_means}

-- the key laws; the other loop's builder type, this one's row number, the other's binders and body, the type of what is merged,
-- what stands around the other loop, this row's number, and what the other loop makes of a list: it goes on by its body
module _ (laws : KeyLaws) (t : TypeTree) (i : ℕ) (c n x : Binder) (f : ExprTree) (item : TypeTree) (around : Env) (count : ℕ) (other : c.sym.0 ≢ i) (consumed : List Value → Outcome Thing) (goes_on : (vs : List Value) (v : Value) → consumed (vs ++ v ∷ []) ≡ and_then (consumed vs) (λ s. eval f ((x.sym.0, plain v) ∷ (n.sym.0, plain (whole_number count)) ∷ (c.sym.0, s) ∷ around))) where
  -- the body handed to the other loop
  abbrev pub to_other : Named Origin → ExprTree → ExprTree
  to_other q e = handed t i c n x f q e

  -- where the body stands, and where it stands handed on
  abbrev pub Meet : Types → Named Origin → Env → Env → Type 0
  Meet h q env later = Meets i c n x f item around count consumed h q env later

  -- a binder of the body gets in nobody's way
  abbrev pub Clear : ℕ → Type 0
  Clear z = IsAside c.sym.0 n.sym.0 x.sym.0 i f z

  -- the other loop's builder and row number aren't free in it
  abbrev pub NotIn : (ℕ → Type 0) → Type 0
  NotIn free = (free c.sym.0 → ⊥) × (free n.sym.0 → ⊥)

  -- what a longer list makes goes on from what a shorter makes
  pub longer : (vs : List Value) (v : Value) → Fails (consumed vs) → Fails (consumed (vs ++ v ∷ []))
  longer vs v h = subst Fails (sym (goes_on vs v)) (fails_then (consumed vs) (λ s. eval f ((x.sym.0, plain v) ∷ (n.sym.0, plain (whole_number count)) ∷ (c.sym.0, s) ∷ around)) h)

  -- the body handed on comes to what the body comes to, handed on
  abbrev pub Means : ExprTree → Type 0
  Means e =
      (h : Types) (q : Named Origin) (u : TypeTree) (env later : Env)
      → Binds Clear e → NotIn (IsFree e) → HasType e h u → Keeps e q → Splits e q → starts_none q e ≡ true → Meet h q env later
      → answer_of (eval (to_other q e) later) ≡ answer_of (and_then (eval e env) (hand consumed (origin e q)))

  -- what holds nothing comes to the same
  abbrev pub Same : ExprTree → Named Origin → Env → Env → Type 0
  Same e q env later = answer_of (eval (to_other q e) later) ≡ answer_of (eval e env)

  -- it comes to the same where its origin holds nothing
  pub unheld_same : (e : ExprTree) (q : Named Origin) (env later : Env) → holds (origin e q) ≡ false → answer_of (eval (to_other q e) later) ≡ answer_of (and_then (eval e env) (hand consumed (origin e q))) → Same e q env later
  unheld_same e q env later free means = means ∙ ap answer_of (unheld_on consumed (origin e q) (eval e env) free)

  -- what is of a builder-free type holds nothing
  pub type_free_holds : (e : ExprTree) (h : Types) (q : Named Origin) (u : TypeTree) → HasType e h u → AreFormed h → NamesHaveForms q h → IsBuilderFree u → holds (origin e q) ≡ false
  type_free_holds e h q u typed formed forms free = free_holds (origin e q) u (type_formed e h u typed formed) free (origin_forms e q h u typed formed forms)

  -- ---- leaves

  -- names stand for what they stood for, handed on
  pub leaf_means : (a : At) (l : Leaf) → Means (leaf a l)
  leaf_means a (int k y) h q u env later clear apart typed keeps splits starts r = refl
  leaf_means a (truth b) h q u env later clear apart typed keeps splits starts r = refl
  leaf_means a (chars bs) h q u env later clear apart typed keeps splits starts r = refl
  leaf_means a (name s) h q u env later clear apart typed keeps splits starts r =
      ap answer_of (name_means i c n x f item around count consumed h q env later s (λ e. apart.0 (sym e)) (λ e. apart.1 (sym e)) r)
  leaf_means a (fresh b) h q u env later clear apart typed keeps splits starts r = ap answer_of (sym (then_itself (leaf_thing (fresh b) later)))

  -- ---- forms of one part

  -- what a builder starts with is builder-free
  start_free : (b : BuildTree) (u : TypeTree) → IsWellFormedBuild b → StartHas b u → IsBuilderFree u
  start_free (list v) u w s = absurd s
  start_free (total v op) u w s = subst IsBuilderFree (sym s) (merger_free v w)
  start_free (keyed k v op) u w s = absurd s
  start_free (cells v op) u w s = subst IsBuilderFree (sym s) (integer_free v w)
  start_free (groups k v) u w s = absurd s

  -- a field that is a value stands in a value
  field_holds : (m : ℕ) (from : Origin) (us : TypeTrees) (v : TypeTree) → IsField m us v → IsWellFormed (tuple us) → HasForm from (tuple us) → is_value (field_origin m from) ≡ true → (holds from ≡ false) × (holds (field_origin m from) ≡ false)
  field_holds m value us v k w form e = (refl, refl)
  field_holds m made us v k w form e = absurd form
  field_holds m (own p) us v k w form e = absurd form
  field_holds m outer us v k w form e = absurd form
  field_holds m (named s p) us v k w form e = absurd form
  field_holds m (struct os) us v k w form e = absurd (no_value_at m os us v k w.1 form.0 form.1 e)

  -- but for fields by chains, neither the part nor the whole holds anything
  one_holds : (o : One) (e : ExprTree) (from : Origin) (u v : TypeTree) → OneHas o u v → IsWellFormed u → HasForm from u → OneKeeps o from → OneSplits o e from → chain_of_one o (chain_of e) ≡ None → (holds from ≡ false) × (holds (one_origin o from) ≡ false)
  one_holds neg e from u v has w form keeps splits none = (free_holds from u w (subst IsBuilderFree (sym has.2) tt) form, refl)
  one_holds not_of e from u v has w form keeps splits none = (free_holds from u w (subst IsBuilderFree (sym has.0) tt) form, refl)
  one_holds (cast k) e from u v has w form keeps splits none = (free_holds from u w (subst IsBuilderFree (sym has.2) tt) form, refl)
  one_holds len e from u v has w form keeps splits none =
      let y : IsWellFormed (vec has.0) = subst IsWellFormed has.1 w in (free_holds from u w (subst IsBuilderFree (sym has.1) y.1) form, refl)
  one_holds (field m) e from u v has w form keeps splits none =
      let not_chain : ChainSplits None (field_origin m from) = subst (λ k. ChainSplits k (field_origin m from)) (no_chain m (chain_of e) none) splits in
      field_holds m from has.0 v has.2 (subst IsWellFormed has.1 w) (subst (HasForm from) has.1 form) not_chain
  one_holds finish e from u v has w form keeps splits none = (finished_holds from u has.0 has.1 form keeps, refl)
  one_holds (started b) e from u v has w form keeps splits none = (free_holds from u w (start_free b u has.0 has.1) form, refl)

  -- forms of one part: a field by a chain, others by values
  pub one_means : (a : At) (o : One) (e : ExprTree) → Means e → Means (one a o e)
  one_means a o e part h q u env later clear apart typed keeps splits starts r = by o typed.2 keeps.1 splits.1 (chain_of_one o (chain_of e)) refl
    where
      v : TypeTree
      v = typed.0

      means : answer_of (eval (to_other q e) later) ≡ answer_of (and_then (eval e env) (hand consumed (origin e q)))
      means = part h q v env later clear apart typed.1 keeps.0 splits.0 starts r

      form : HasForm (origin e q) v
      form = origin_forms e q h v typed.1 r.formed r.forms

      by : (o : One) → OneHas o v u → OneKeeps o (origin e q) → OneSplits o e (origin e q) → (m : Option (ℕ × Path)) → chain_of_one o (chain_of e) ≡ m
          → answer_of (and_then (eval (to_other q e) later) (one_thing o)) ≡ answer_of (and_then (and_then (eval e env) (one_thing o)) (hand consumed (one_origin o (origin e q))))
      by o has keep split None k =
          let free = one_holds o e (origin e q) v u has (type_formed e h v typed.1 r.formed) form keep split k in
          answers_both (eval (to_other q e) later) (eval e env) (one_thing o) (one_thing o) (unheld_same e q env later free.0 means) (λ y. refl)
          ∙ ap answer_of (sym (unheld_on consumed (one_origin o (origin e q)) (and_then (eval e env) (one_thing o)) free.1))
      by neg has keep split (Some d) k = let nothing : ⊥ = cc in absurd nothing
      by not_of has keep split (Some d) k = let nothing : ⊥ = cc in absurd nothing
      by (cast b) has keep split (Some d) k = let nothing : ⊥ = cc in absurd nothing
      by len has keep split (Some d) k = let nothing : ⊥ = cc in absurd nothing
      by (field m) has keep split (Some d) k =
          let from = chain_field m (chain_of e) d k in
          answers_both (eval (to_other q e) later) (and_then (eval e env) (hand consumed (origin e q))) (field_of m) (field_of m) means (λ y. refl)
          ∙ ap answer_of (then_then (eval e env) (hand consumed (origin e q)) (field_of m))
          ∙ answers_when (eval e env) (λ y. and_then (hand consumed (origin e q) y) (field_of m)) (λ y. and_then (field_of m y) (hand consumed (field_origin m (origin e q))))
          (λ y ev. let z = chain_means i c n x f item around count consumed h q env later r e from.0 from.1 apart.0 apart.1 v typed.1 y ev in
          ap (λ o. answer_of (and_then o (field_of m))) z.1 ∙ ap answer_of (sym (field_on consumed m (origin e q) has.0 y z.0 (subst (HasForm (origin e q)) has.1 form) z.1)))
          ∙ ap answer_of (sym (then_then (eval e env) (field_of m) (hand consumed (field_origin m (origin e q)))))
      by finish has keep split (Some d) k = let nothing : ⊥ = cc in absurd nothing
      by (started b) has keep split (Some d) k = let nothing : ⊥ = cc in absurd nothing

  -- ---- forms of two parts

  -- forms of two parts that stay as they are
  plain_two_means : (a : At) (o : Two) (e g : ExprTree) (q : Named Origin) (env later : Env) → holds (two_origin o (origin e q)) ≡ false → Same e q env later → Same g q env later → answer_of (eval (two (handed_at t (two_origin o (origin e q)) a) o (to_other q e) (to_other q g)) later) ≡ answer_of (and_then (eval (two a o e g) env) (hand consumed (two_origin o (origin e q))))
  plain_two_means a o e g q env later free first second =
      answers_both (eval (to_other q e) later) (eval e env) (λ y. two_thing o y (eval (to_other q g) later)) (λ y. two_thing o y (eval g env)) first (λ y. two_same o y (eval (to_other q g) later) (eval g env) second)
      ∙ ap answer_of (sym (unheld_on consumed (two_origin o (origin e q)) (eval (two a o e g) env) free))

  -- the other loop's body on this row and the value
  abbrev step : Thing → Thing → Outcome Thing
  step s z = eval f ((x.sym.0, z) ∷ (n.sym.0, plain (whole_number count)) ∷ (c.sym.0, s) ∷ around)

  -- a value of the item type
  value_steps : (oe : Origin) → is_held oe ≡ true → IsBuilderFree item → (vs : List Value) (z : Thing) → HasThing z item → answer_of (and_then (consumed vs) (λ s. step s z)) ≡ answer_of (and_then (as_value z) (λ w. consumed (vs ++ w ∷ [])))
  value_steps oe k free vs z has =
      let v = value_of_thing item z (free_value_type item free) has in
      subst (λ y. answer_of (and_then (consumed vs) (λ s. step s y)) ≡ answer_of (and_then (as_value y) (λ w. consumed (vs ++ w ∷ [])))) (sym v.1) (ap answer_of (sym (goes_on vs v.0)))

  -- the list with one more value, handed on
  merged_on : (oe : Origin) → is_held oe ≡ true → (vs : List Value) (o : Outcome Thing) → and_then (merged (building (list_part vs)) o) (hand consumed oe) ≡ and_then o (λ z. and_then (as_value z) (λ w. consumed (vs ++ w ∷ [])))
  merged_on oe k vs o =
      then_then (value_out o) (λ w. done (building (list_part (vs ++ w ∷ [])))) (hand consumed oe)
      ∙ (λ j. and_then (value_out o) (λ w. held_hand consumed oe (building (list_part (vs ++ w ∷ []))) k j))
      ∙ then_then o as_value (λ w. consumed (vs ++ w ∷ []))

  -- a builder of the list's type is a list
  list_steps : (oe : Origin) → is_held oe ≡ true → IsBuilderFree item → (o : Outcome Thing) → GivesOrFaults (Of item) o → (y : Thing) → HasThing y (build (list item)) → answer_of (and_then (hand consumed oe y) (λ s. and_then o (step s))) ≡ answer_of (and_then (merged y o) (hand consumed oe))
  list_steps oe k free o good (plain v) has = absurd has
  list_steps oe k free o good (several ts) has = absurd has
  list_steps oe k free o good (building (list_part vs)) has =
      ap (λ m. answer_of (and_then m (λ s. and_then o (step s)))) (held_hand consumed oe (building (list_part vs)) k)
      ∙ answers_swap (consumed vs) o (λ s z. step s z)
      ∙ answers_at (Of item) o (λ z. and_then (consumed vs) (λ s. step s z)) (λ z. and_then (as_value z) (λ w. consumed (vs ++ w ∷ []))) good (value_steps oe k free vs)
      ∙ ap answer_of (sym (merged_on oe k vs o))
  list_steps oe k free o good (building (total_part op m y)) has = absurd has.1
  list_steps oe k free o good (building (totals_part op ys)) has = absurd has.1
  list_steps oe k free o good (building (cells_part op m ys)) has = absurd has.1
  list_steps oe k free o good (building (keyed_part op m ys)) has = absurd has.1
  list_steps oe k free o good (building (groups_part ys)) has = absurd has.1

  -- the builder of that type is the list
  list_builds : (b : BuildTree) → build b ≡ build (list item) → b ≡ list item
  list_builds b e = cc

  -- the merge into the list
  list_merge_means : (a : At) (e g : ExprTree) → Means e → Means g → (h : Types) (q : Named Origin) (u : TypeTree) (env later : Env)
      → Binds Clear (two a merge e g) → NotIn (IsFree (two a merge e g)) → HasType (two a merge e g) h u → Keeps (two a merge e g) q → Splits (two a merge e g) q → starts_none q e ≡ true → starts_none q g ≡ true → Meet h q env later
      → is_held (origin e q) ≡ true → answer_of (eval (handed_two true t i c n x f (origin e q) a merge (to_other q e) (to_other q g)) later) ≡ answer_of (and_then (eval (two a merge e g) env) (hand consumed (origin e q)))
  list_merge_means a e g first second h q u env later clear apart typed keeps splits starts_first starts_second r k =
      (λ j. answer_of (and_then (eval (to_other q e) later) (λ s. and_then (found (row_there s j)) (λ y. and_then (eval (to_other q g) ((n.sym.0, y) ∷ (c.sym.0, s) ∷ later)) (λ z. eval f ((x.sym.0, z) ∷ (n.sym.0, y) ∷ (c.sym.0, s) ∷ later))))))
      ∙ answers_both (eval (to_other q e) later) (and_then (eval e env) (hand consumed oe)) inside (λ s. and_then (eval g env) (step s))
      (first h q typed.0 env later clear.0 ((λ y. apart.0 (inl y)), (λ y. apart.1 (inl y))) typed.2 keeps.0 splits.0 starts_first r) inner
      ∙ ap answer_of (then_then (eval e env) (hand consumed oe) (λ s. and_then (eval g env) (step s)))
      ∙ answers_at (Of (build (list item))) (eval e env) (λ y. and_then (hand consumed oe y) (λ s. and_then (eval g env) (step s))) (λ y. and_then (merged y (eval g env)) (hand consumed oe))
      (never_stuck laws e h (build (list item)) env list_typed r.formed r.fits).fits (list_steps oe k list_formed.1 (eval g env) (never_stuck laws g h item env item_typed r.formed r.fits).fits)
      ∙ ap answer_of (sym (then_then (eval e env) (λ y. merged y (eval g env)) (hand consumed oe)))
    where
      oe : Origin
      oe = origin e q

      same : typed.0 ≡ build (list item)
      same = held_is item oe typed.0 k (type_held item e q h typed.0 typed.2 r.formed r.forms r.held)

      list_typed : HasType e h (build (list item))
      list_typed = subst (HasType e h) same typed.2

      list_formed : IsWellFormed (build (list item))
      list_formed = type_formed e h (build (list item)) list_typed r.formed

      item_typed : HasType g h item
      item_typed = subst (HasType g h) (typed.4.2 ∙ ap taken_type (list_builds typed.4.0 (sym typed.4.1 ∙ same))) typed.3

      row_there : (s : Thing) → look_for i ((c.sym.0, s) ∷ later) ≡ Some (plain (whole_number count))
      row_there s = rw (ne_eqb i c.sym.0 (λ e. other (sym e))) r.row

      inside : Thing → Outcome Thing
      inside s = and_then (eval (to_other q g) ((n.sym.0, plain (whole_number count)) ∷ (c.sym.0, s) ∷ later)) (λ z. eval f ((x.sym.0, z) ∷ (n.sym.0, plain (whole_number count)) ∷ (c.sym.0, s) ∷ later))

      body_there : (s z : Thing) → eval f ((x.sym.0, z) ∷ (n.sym.0, plain (whole_number count)) ∷ (c.sym.0, s) ∷ later) ≡ step s z
      body_there s z =
          sym (eval_free f ((x.sym.0, z) ∷ (n.sym.0, plain (whole_number count)) ∷ (c.sym.0, s) ∷ around) ((x.sym.0, z) ∷ (n.sym.0, plain (whole_number count)) ∷ (c.sym.0, s) ∷ later)
          (agree_bind (λ y. IsFree f y × (y ≢ x.sym.0)) (IsFree f) x.sym.0 z _ _ (λ y j ne. (j, ne))
          (agree_bind (λ y. IsFree f y × (y ≢ x.sym.0) × (y ≢ n.sym.0)) (λ y. IsFree f y × (y ≢ x.sym.0)) n.sym.0 (plain (whole_number count)) _ _ (λ y j ne. (j.0, j.1, ne))
          (agree_bind (λ y. IsBehind f c.sym.0 n.sym.0 x.sym.0 y) (λ y. IsFree f y × (y ≢ x.sym.0) × (y ≢ n.sym.0)) c.sym.0 s around later (λ y j ne. (j.0, j.1, j.2, ne)) r.behind))))

      inner : (s : Thing) → answer_of (inside s) ≡ answer_of (and_then (eval g env) (step s))
      inner s =
          answers_both (eval (to_other q g) ((n.sym.0, plain (whole_number count)) ∷ (c.sym.0, s) ∷ later)) (eval g env) (λ z. eval f ((x.sym.0, z) ∷ (n.sym.0, plain (whole_number count)) ∷ (c.sym.0, s) ∷ later)) (step s)
          (unheld_same g q env ((n.sym.0, plain (whole_number count)) ∷ (c.sym.0, s) ∷ later) (type_free_holds g h q item item_typed r.formed r.forms list_formed.1)
          (second h q item env ((n.sym.0, plain (whole_number count)) ∷ (c.sym.0, s) ∷ later) clear.1 ((λ y. apart.0 (inr y)), (λ y. apart.1 (inr y))) item_typed keeps.1 splits.1 starts_second (meets_over i c n x f item around count consumed h q env later s other r)))
          (λ z. ap answer_of (body_there s z))

  -- the parts of other forms of two are values
  two_free : (o : Two) (u v w : TypeTree) → is_merge o ≡ false → TwoHas o u v w → IsWellFormed u → IsBuilderFree u × IsBuilderFree v
  two_free (binary op) u v w e has form = (subst IsBuilderFree (sym has.2) tt, subst IsBuilderFree (sym has.3) tt)
  two_free and u v w e has form = (subst IsBuilderFree (sym has.0) tt, subst IsBuilderFree (sym has.1) tt)
  two_free or u v w e has form = (subst IsBuilderFree (sym has.0) tt, subst IsBuilderFree (sym has.1) tt)
  two_free look_up u v w e (inl has) form = let y : IsWellFormed (vec w) = subst IsWellFormed has.0 form in (subst IsBuilderFree (sym has.0) y.1, subst IsBuilderFree (sym has.1) tt)
  two_free look_up u v w e (inr has) form = let y : IsWellFormed (dict v w) = subst IsWellFormed has form in (subst IsBuilderFree (sym has) (key_free v y.0, y.2), key_free v y.0)
  two_free key_exists u v w e has form = let y : IsWellFormed (dict v has.0) = subst IsWellFormed has.1 form in (subst IsBuilderFree (sym has.1) (key_free v y.0, y.2), key_free v y.0)
  two_free merge u v w e has form = let nothing : ⊥ = cc in absurd nothing

  -- they answer values
  two_value : (o : Two) (oe : Origin) → is_merge o ≡ false → holds (two_origin o oe) ≡ false
  two_value (binary op) oe e = refl
  two_value and oe e = refl
  two_value or oe e = refl
  two_value look_up oe e = refl
  two_value key_exists oe e = refl
  two_value merge oe e = let nothing : ⊥ = cc in absurd nothing

  -- forms of two values
  values_two_means : (a : At) (o : Two) (e g : ExprTree) → is_merge o ≡ false → Means e → Means g → (h : Types) (q : Named Origin) (u : TypeTree) (env later : Env)
      → Binds Clear (two a o e g) → NotIn (IsFree (two a o e g)) → HasType (two a o e g) h u → Keeps (two a o e g) q → Splits (two a o e g) q → starts_none q (two a o e g) ≡ true → Meet h q env later
      → answer_of (eval (two (handed_at t (two_origin o (origin e q)) a) o (to_other q e) (to_other q g)) later) ≡ answer_of (and_then (eval (two a o e g) env) (hand consumed (two_origin o (origin e q))))
  values_two_means a o e g k first second h q u env later clear apart typed keeps splits starts r =
      let st = and_true (starts_none q e) (starts_none q g) starts in
      let free = two_free o typed.0 typed.1 u k typed.4 (type_formed e h typed.0 typed.2 r.formed) in
      plain_two_means a o e g q env later (two_value o (origin e q) k)
      (unheld_same e q env later (type_free_holds e h q typed.0 typed.2 r.formed r.forms free.0)
      (first h q typed.0 env later clear.0 ((λ y. apart.0 (inl y)), (λ y. apart.1 (inl y))) typed.2 keeps.0 splits.0 st.0 r))
      (unheld_same g q env later (type_free_holds g h q typed.1 typed.3 r.formed r.forms free.1)
      (second h q typed.1 env later clear.1 ((λ y. apart.0 (inr y)), (λ y. apart.1 (inr y))) typed.3 keeps.1 splits.1 st.1 r))

  -- a merge, into the list or into another builder
  merge_means : (a : At) (e g : ExprTree) → Means e → Means g → Means (two a merge e g)
  merge_means a e g first second h q u env later clear apart typed keeps splits starts r = by (is_held (origin e q)) refl
    where
      st : (starts_none q e ≡ true) × (starts_none q g ≡ true)
      st = and_true (starts_none q e) (starts_none q g) starts

      formed : IsWellFormed (build typed.4.0)
      formed = subst IsWellFormed typed.4.1 (type_formed e h typed.0 typed.2 r.formed)

      by : (b : Bool) → is_held (origin e q) ≡ b → answer_of (eval (handed_two b t i c n x f (origin e q) a merge (to_other q e) (to_other q g)) later) ≡ answer_of (and_then (eval (two a merge e g) env) (hand consumed (origin e q)))
      by true k = list_merge_means a e g first second h q u env later clear apart typed keeps splits st.0 st.1 r k
      by false k =
          let free = other_holds (origin e q) typed.0 typed.4.0 typed.4.1 (origin_forms e q h typed.0 typed.2 r.formed r.forms) k in
          let value_free : IsBuilderFree typed.1 = subst IsBuilderFree (sym typed.4.2) (takes_free typed.4.0 formed) in
          plain_two_means a merge e g q env later free
          (unheld_same e q env later free (first h q typed.0 env later clear.0 ((λ y. apart.0 (inl y)), (λ y. apart.1 (inl y))) typed.2 keeps.0 splits.0 st.0 r))
          (unheld_same g q env later (type_free_holds g h q typed.1 typed.3 r.formed r.forms value_free)
          (second h q typed.1 env later clear.1 ((λ y. apart.0 (inr y)), (λ y. apart.1 (inr y))) typed.3 keeps.1 splits.1 st.1 r))

  -- forms of two parts
  pub two_means : (a : At) (o : Two) (e g : ExprTree) → Means e → Means g → Means (two a o e g)
  two_means a (binary op) e g first second = values_two_means a (binary op) e g refl first second
  two_means a and e g first second = values_two_means a and e g refl first second
  two_means a or e g first second = values_two_means a or e g refl first second
  two_means a look_up e g first second = values_two_means a look_up e g refl first second
  two_means a key_exists e g first second = values_two_means a key_exists e g refl first second
  two_means a merge e g first second = merge_means a e g first second

  -- ---- forms of three parts

  -- the first part of three is a value
  three_free : (o : Three) (u v w z : TypeTree) → ThreeHas o u v w z → IsWellFormed u → IsBuilderFree u
  three_free if_else u v w z has form = subst IsBuilderFree (sym has.0) tt
  three_free select u v w z has form = subst IsBuilderFree (sym has.0) tt
  three_free slice u v w z has form = let y : IsWellFormed (vec has.0) = subst IsWellFormed has.1 form in subst IsBuilderFree (sym has.1) y.1

  -- forms of three parts: arms are of one origin
  pub three_means : (a : At) (o : Three) (d e g : ExprTree) → Means d → Means e → Means g → Means (three a o d e g)
  three_means a o d e g first second third h q u env later clear apart typed keeps splits starts r = by o typed.6 keeps.3
    where
      st : (starts_none q d ≡ true) × ((starts_none q e && starts_none q g) ≡ true)
      st = and_true (starts_none q d) (starts_none q e && starts_none q g) starts

      su : (starts_none q e ≡ true) × (starts_none q g ≡ true)
      su = and_true (starts_none q e) (starts_none q g) st.1

      first_same : Same d q env later
      first_same =
          unheld_same d q env later (type_free_holds d h q typed.0 typed.3 r.formed r.forms (three_free o typed.0 typed.1 typed.2 u typed.6 (type_formed d h typed.0 typed.3 r.formed)))
          (first h q typed.0 env later clear.0 ((λ y. apart.0 (inl y)), (λ y. apart.1 (inl y))) typed.3 keeps.0 splits.0 st.0 r)

      on_second : answer_of (eval (to_other q e) later) ≡ answer_of (and_then (eval e env) (hand consumed (origin e q)))
      on_second = second h q typed.1 env later clear.1 ((λ y. apart.0 (inr (inl y))), (λ y. apart.1 (inr (inl y)))) typed.4 keeps.1 splits.1 su.0 r

      on_third : answer_of (eval (to_other q g) later) ≡ answer_of (and_then (eval g env) (hand consumed (origin g q)))
      on_third = third h q typed.2 env later clear.2 ((λ y. apart.0 (inr (inr y))), (λ y. apart.1 (inr (inr y)))) typed.5 keeps.2 splits.2 su.1 r

      values : (k : Three) → three_origin k (origin e q) ≡ value → IsBuilderFree typed.1 → IsBuilderFree typed.2
          → answer_of (and_then (eval (to_other q d) later) (λ y. three_thing k y (eval (to_other q e) later) (eval (to_other q g) later)))
          ≡ answer_of (and_then (and_then (eval d env) (λ y. three_thing k y (eval e env) (eval g env))) (hand consumed (three_origin k (origin e q))))
      values k none fe fg =
          answers_both (eval (to_other q d) later) (eval d env) (λ y. three_thing k y (eval (to_other q e) later) (eval (to_other q g) later)) (λ y. three_thing k y (eval e env) (eval g env)) first_same
          (λ y. three_same k y (eval (to_other q e) later) (eval (to_other q g) later) (eval e env) (eval g env)
          (unheld_same e q env later (type_free_holds e h q typed.1 typed.4 r.formed r.forms fe) on_second) (unheld_same g q env later (type_free_holds g h q typed.2 typed.5 r.formed r.forms fg) on_third))
          ∙ ap answer_of (sym (unheld_on consumed (three_origin k (origin e q)) (and_then (eval d env) (λ y. three_thing k y (eval e env) (eval g env))) (ap holds none)))

      by : (k : Three) → ThreeHas k typed.0 typed.1 typed.2 u → ThreeKeeps k e g q
          → answer_of (and_then (eval (to_other q d) later) (λ y. three_thing k y (eval (to_other q e) later) (eval (to_other q g) later)))
          ≡ answer_of (and_then (and_then (eval d env) (λ y. three_thing k y (eval e env) (eval g env))) (hand consumed (three_origin k (origin e q))))
      by if_else has keep =
          answers_both (eval (to_other q d) later) (eval d env) (λ y. chosen y (eval (to_other q e) later) (eval (to_other q g) later))
          (λ y. chosen y (and_then (eval e env) (hand consumed (origin e q))) (and_then (eval g env) (hand consumed (origin e q)))) first_same
          (λ y. chosen_same y (eval (to_other q e) later) (eval (to_other q g) later) (and_then (eval e env) (hand consumed (origin e q))) (and_then (eval g env) (hand consumed (origin e q))) on_second
          (on_third ∙ ap (λ o. answer_of (and_then (eval g env) (hand consumed o))) (sym (same_origins e g q keep.same))))
          ∙ (λ j. answer_of (and_then (eval d env) (λ y. chosen_on (hand consumed (origin e q)) y (eval e env) (eval g env) j)))
          ∙ ap answer_of (sym (then_then (eval d env) (λ y. chosen y (eval e env) (eval g env)) (hand consumed (origin e q))))
      by select has keep = values select refl (subst IsBuilderFree (sym has.1) has.3) (subst IsBuilderFree (sym has.2) has.3)
      by slice has keep = values slice refl (subst IsBuilderFree (sym has.2) tt) (subst IsBuilderFree (sym has.3) tt)

  -- ---- lets

  -- where the value can't be handed on, neither can what the body answers
  let_fails : (a : At) (z : Binder) (e g : ExprTree) (h : Types) (q : Named Origin) (u : TypeTree) (env later : Env) → HasType (let_in a z e g) h u → Keeps (let_in a z e g) q → Splits (let_in a z e g) q
      → starts_none ((z.sym.0, origin e q) ∷ q) g ≡ true → Meet h q env later → (y : Thing) → Fails (hand consumed (origin e q) y) → Fails (and_then (eval g ((z.sym.0, y) ∷ env)) (hand consumed (origin g ((z.sym.0, origin e q) ∷ q))))
  let_fails a z e g h q u env later typed keeps splits starts r y fails =
      let b = breaks consumed (origin e q) y fails in
      fails_after (eval g ((z.sym.0, y) ∷ env)) (hand consumed (origin g ((z.sym.0, origin e q) ∷ q))) (λ v ev.
      stays consumed longer g ((z.sym.0, typed.0) ∷ h) ((z.sym.0, origin e q) ∷ q) u ((z.sym.0, y) ∷ env) z.sym.0 b.0 y v typed.3 keeps.1 splits.1 starts
      (breaking_here consumed longer h q env z.sym.0 typed.0 (origin e q) b.0 y (type_formed e h typed.0 typed.1 r.formed) (origin_forms e q h typed.0 typed.1 r.formed r.forms) r.formed r.forms b.2) (splits.3.all b.0 b.1) ev)

  -- a let: where the value can't be handed on there is no answer in the end, as what can't be handed on stays so
  pub let_means : (a : At) (z : Binder) (e g : ExprTree) → Means e → Means g → Means (let_in a z e g)
  let_means a z e g first second h q u env later clear apart typed keeps splits starts r =
      answers_both (eval (to_other q e) later) (and_then (eval e env) (hand consumed (origin e q))) (λ s. eval (to_other inner g) ((z.sym.0, s) ∷ later)) (λ s. eval (to_other inner g) ((z.sym.0, s) ∷ later))
      (first h q typed.0 env later clear.1 ((λ y. apart.0 (inl y)), (λ y. apart.1 (inl y))) typed.1 keeps.0 splits.0 st.0 r) (λ s. refl)
      ∙ ap answer_of (then_then (eval e env) (hand consumed (origin e q)) (λ s. eval (to_other inner g) ((z.sym.0, s) ∷ later)))
      ∙ answers_at (Of typed.0) (eval e env) (λ y. and_then (hand consumed (origin e q) y) (λ s. eval (to_other inner g) ((z.sym.0, s) ∷ later))) (λ y. and_then (eval g ((z.sym.0, y) ∷ env)) (hand consumed (origin g inner)))
      (never_stuck laws e h typed.0 env typed.1 r.formed r.fits).fits (λ y has. by y has (hand consumed (origin e q) y) refl)
      ∙ ap answer_of (sym (then_then (eval e env) (λ y. eval g ((z.sym.0, y) ∷ env)) (hand consumed (origin g inner))))
    where
      inner : Named Origin
      inner = (z.sym.0, origin e q) ∷ q

      st : (starts_none q e ≡ true) × (starts_none inner g ≡ true)
      st = and_true (starts_none q e) (starts_none inner g) starts

      form : HasForm (origin e q) typed.0
      form = origin_forms e q h typed.0 typed.1 r.formed r.forms

      hold : HasHeld item (origin e q) typed.0
      hold = type_held item e q h typed.0 typed.1 r.formed r.forms r.held

      none : (y : Thing) → Fails (hand consumed (origin e q) y) → None ≡ answer_of (and_then (eval g ((z.sym.0, y) ∷ env)) (hand consumed (origin g inner)))
      none y fails = sym (no_answer (and_then (eval g ((z.sym.0, y) ∷ env)) (hand consumed (origin g inner))) (let_fails a z e g h q u env later typed keeps splits st.1 r y fails))

      by : (y : Thing) → HasThing y typed.0 → (m : Outcome Thing) → hand consumed (origin e q) y ≡ m → answer_of (and_then m (λ s. eval (to_other inner g) ((z.sym.0, s) ∷ later))) ≡ answer_of (and_then (eval g ((z.sym.0, y) ∷ env)) (hand consumed (origin g inner)))
      by y has (done s) k =
          second ((z.sym.0, typed.0) ∷ h) inner u ((z.sym.0, y) ∷ env) ((z.sym.0, s) ∷ later) clear.2
          ((λ b. apart.0 (inr (b, λ same. clear.0.0 (sym same)))), (λ b. apart.1 (inr (b, λ same. clear.0.1 (sym same))))) typed.3 keeps.1 splits.1 st.1
          (meets_bind i c n x f item around count consumed h q env later z.sym.0 typed.0 (origin e q) y s clear.0 (type_formed e h typed.0 typed.1 r.formed) form hold has k r)
      by y has fault k = none y (subst Fails (sym k) tt)
      by y has stuck k = none y (subst Fails (sym k) tt)
