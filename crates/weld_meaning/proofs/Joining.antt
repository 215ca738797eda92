-- What joining with a start leaves as it is.
use Rattle.std.proofs.Common.{◌≡◌, ℕ, zero, suc, refl, ap, sym, ◌∙◌, Bool, true, false, if◌then◌else◌, List, [], ◌∷◌}
use Rattle.weld_data.specs.Value.{Value, Values, and_value}
use Rattle.weld_builders.specs.Outcome.{Outcome, done, fault, stuck, and_then, map_out}
use Rattle.weld_builders.specs.Part.{Part, merge_part, after_part}
use Rattle.weld_meaning.specs.Thing.{Thing, plain, building, several, Things, no_things, more_things, as_value, as_values, struct_from, struct_of, thing_at, value_field, field_of, nothing, fields_of, first_of, rest_of, after_start, after_thing, after_things}
use Rattle.weld_meaning.specs.Evaluation.{truth_of, value_out, on_value, on_values, on_three, chosen, merged, run, Row}
use Rattle.weld_meaning.proofs.Outcomes.{and_then-map_out, map_out-and_then, map_out_same}

-- merging into a join is merging into its later part
abbrev pub MergesAfter : Type 0
MergesAfter = (s d : Part) (v : Value) → merge_part (after_part s d) v ≡ map_out (after_part s) (merge_part d v)

-- ---- values

pub as_value-after : (s t : Thing) → as_value (after_thing s t) ≡ as_value t
as_value-after s (plain v) = refl
as_value-after s (building d) = refl
as_value-after s (several ds) = refl

pub value_out-after : (s : Thing) (o p : Outcome Thing) → p ≡ map_out (after_thing s) o → value_out p ≡ value_out o
value_out-after s o p e = ap value_out e ∙ by o
  where
    by : (q : Outcome Thing) → value_out (map_out (after_thing s) q) ≡ value_out q
    by (done t) = as_value-after s t
    by fault = refl
    by stuck = refl

pub as_values-after : (ss ts : Things) → as_values (after_things ss ts) ≡ as_values ts
as_values-after ss no_things = refl
as_values-after ss (more_things t ts) =
    λ i. and_then (as_value-after (first_of ss) t i) (λ v. map_out (and_value v) (as_values-after (rest_of ss) ts i))

-- a value is left as it is
pub after-plain : {A : Type 0} (s : Thing) (f : A → Value) (o : Outcome A) → map_out (λ x. plain (f x)) o ≡ map_out (after_thing s) (map_out (λ x. plain (f x)) o)
after-plain s f (done x) = refl
after-plain s f fault = refl
after-plain s f stuck = refl

-- ---- nothing

mutual
  pub after_nothing : (t : Thing) → after_thing nothing t ≡ t
  after_nothing (plain v) = refl
  after_nothing (building d) = refl
  after_nothing (several ds) = ap several (after_no_things ds)

  pub after_no_things : (ts : Things) → after_things no_things ts ≡ ts
  after_no_things no_things = refl
  after_no_things (more_things d ds) = λ i. more_things (after_nothing d i) (after_no_things ds i)

-- ---- fields

-- the thing of that number, or nothing
abbrev pub nth : ℕ → Things → Thing
nth zero ts = first_of ts
nth (suc n) ts = nth n (rest_of ts)

pub nth-no_things : (n : ℕ) → nth n no_things ≡ nothing
nth-no_things zero = refl
nth-no_things (suc n) = nth-no_things n

thing_at-after : (n : ℕ) (ss ts : Things) → thing_at n (after_things ss ts) ≡ map_out (after_thing (nth n ss)) (thing_at n ts)
thing_at-after zero ss no_things = refl
thing_at-after zero ss (more_things t ts) = refl
thing_at-after (suc n) ss no_things = refl
thing_at-after (suc n) ss (more_things t ts) = thing_at-after n (rest_of ss) ts

pub field_of-after : (n : ℕ) (s t : Thing) → field_of n (after_thing s t) ≡ map_out (after_thing (nth n (fields_of s))) (field_of n t)
field_of-after n s (plain v) = after-plain (nth n (fields_of s)) (λ w. w) (value_field n v)
field_of-after n s (building d) = refl
field_of-after n s (several ds) = thing_at-after n (fields_of s) ds

pub struct_of-after : (ss ts : Things) → struct_of (after_things ss ts) ≡ after_thing (several ss) (struct_of ts)
struct_of-after ss ts = ap (struct_from (after_things ss ts)) (as_values-after ss ts) ∙ by (as_values ts)
  where
    by : (o : Outcome Values) → struct_from (after_things ss ts) o ≡ after_thing (several ss) (struct_from ts o)
    by (done vs) = refl
    by fault = refl
    by stuck = refl

-- ---- what is done with values

pub on_value-after : (f : Value → Outcome Value) (s r t : Thing) → on_value f (after_thing s t) ≡ map_out (after_thing r) (on_value f t)
on_value-after f s r t = (λ i. map_out plain (and_then (as_value-after s t i) f)) ∙ after-plain r (λ w. w) (and_then (as_value t) f)

pub on_values-after : (f : Value → Value → Outcome Value) (s r t : Thing) (o p : Outcome Thing) → value_out p ≡ value_out o → on_values f (after_thing s t) p ≡ map_out (after_thing r) (on_values f t o)
on_values-after f s r t o p e =
    (λ i. map_out plain (and_then (as_value-after s t i) (λ v. and_then (e i) (f v))))
    ∙ after-plain r (λ w. w) (and_then (as_value t) (λ v. and_then (value_out o) (f v)))

pub on_three-after : (f : Value → Value → Value → Outcome Value) (s r t : Thing) (o p q u : Outcome Thing) → value_out p ≡ value_out o → value_out u ≡ value_out q → on_three f (after_thing s t) p u ≡ map_out (after_thing r) (on_three f t o q)
on_three-after f s r t o p q u e h =
    (λ i. map_out plain (and_then (as_value-after s t i) (λ v. and_then (e i) (λ w. and_then (h i) (f v w)))))
    ∙ after-plain r (λ w. w) (and_then (as_value t) (λ v. and_then (value_out o) (λ w. and_then (value_out q) (f v w))))

-- a choice between two values
pub chosen_values-after : (s r t : Thing) (o p q u : Outcome Value) → p ≡ o → u ≡ q → map_out plain (chosen (after_thing s t) p u) ≡ map_out (after_thing r) (map_out plain (chosen t o q))
chosen_values-after s r t o p q u e h =
    (λ i. map_out plain (and_then (as_value-after s t i) (λ v. and_then (truth_of v) (λ c. if c then e i else h i))))
    ∙ after-plain r (λ w. w) (chosen t o q)

choose-map_out : (f : Thing → Thing) (o p : Outcome Thing) (c : Outcome Bool) → and_then c (λ b. if b then map_out f o else map_out f p) ≡ map_out f (and_then c (λ b. if b then o else p))
choose-map_out f o p (done true) = refl
choose-map_out f o p (done false) = refl
choose-map_out f o p fault = refl
choose-map_out f o p stuck = refl

-- a choice between two things that a start stands before
pub chosen-after : (s r t : Thing) (o p q u : Outcome Thing) → p ≡ map_out (after_thing r) o → u ≡ map_out (after_thing r) q → chosen (after_thing s t) p u ≡ map_out (after_thing r) (chosen t o q)
chosen-after s r t o p q u e h =
    (λ i. and_then (as_value-after s t i) (λ v. and_then (truth_of v) (λ c. if c then e i else h i)))
    ∙ map_out-and_then (after_thing r) (as_value t) (λ v. and_then (truth_of v) (λ c. if c then map_out (after_thing r) o else map_out (after_thing r) q)) (λ v. and_then (truth_of v) (λ c. if c then o else q)) (λ v. choose-map_out (after_thing r) o q (truth_of v))

-- ---- builders

building-after : (s : Thing) (o : Outcome Part) → map_out building (map_out (after_start s) o) ≡ map_out (after_thing s) (map_out building o)
building-after s (done p) = refl
building-after s fault = refl
building-after s stuck = refl

merge_part-after : MergesAfter → (s : Thing) (d : Part) (v : Value) → merge_part (after_start s d) v ≡ map_out (after_start s) (merge_part d v)
merge_part-after law (plain w) d v = sym (map_out_same (λ e. e) (merge_part d v) (λ e. refl))
merge_part-after law (building p) d v = law p d v
merge_part-after law (several ts) d v = sym (map_out_same (λ e. e) (merge_part d v) (λ e. refl))

pub merged-after : MergesAfter → (s t : Thing) (o p : Outcome Thing) → value_out p ≡ value_out o → merged (after_thing s t) p ≡ map_out (after_thing s) (merged t o)
merged-after law s (plain v) o p e = refl
merged-after law s (several ts) o p e = refl
merged-after law s (building d) o p e =
    (λ i. and_then (e i) (λ v. map_out building (merge_part (after_start s d) v)))
    ∙ map_out-and_then (after_thing s) (value_out o) (λ v. map_out building (merge_part (after_start s d) v)) (λ v. map_out building (merge_part d v))
    (λ v. ap (map_out building) (merge_part-after law s d v) ∙ building-after s (merge_part d v))

-- ---- loops

pub run-after : (s : Thing) (f g : Row → Thing → Outcome Thing) → ((r : Row) (t : Thing) → g r (after_thing s t) ≡ map_out (after_thing s) (f r t)) → (rows : List Row) (t : Thing) → run rows (after_thing s t) g ≡ map_out (after_thing s) (run rows t f)
run-after s f g h [] t = refl
run-after s f g h (r ∷ rs) t =
    ap (λ o. and_then o (λ u. run rs u g)) (h r t)
    ∙ and_then-map_out (after_thing s) (after_thing s) (f r t) (λ u. run rs u g) (λ u. run rs u f) (λ u. run-after s f g h rs u)
