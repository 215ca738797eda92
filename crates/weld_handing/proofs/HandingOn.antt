-- A thing that holds the list's builder, handed to the other loop: in the place of each list stands what the other loop makes of it.
use Rattle.std.proofs.Common.{◌≡◌, ℕ, zero, suc, true, false, List, [], ◌∷◌, ◌++◌, refl, ap, sym, subst, ◌∙◌, ◌⊎◌, inl, inr, None}
use Rattle.weld_data.specs.Value.{Value, Values, and_value}
use Rattle.weld_builders.specs.Outcome.{Outcome, done, fault, stuck, and_then, map_out}
use Rattle.weld_builders.specs.Part.{Part, list_part, total_part, totals_part, cells_part, keyed_part, groups_part}
use Rattle.weld_meaning.specs.Thing.{Thing, plain, building, several, Things, no_things, more_things, as_value, as_values, thing_at, value_field, field_of}
use Rattle.weld_meaning.specs.Origin.{Path, Origin, value, made, own, outer, named, struct, Origins, no_origins, more_origins, origin_at}
use Rattle.weld_meaning.specs.Available.{field_within, at_path, is_builder, is_builder_path}
use Rattle.weld_meaning.specs.Names.{answer_of}
use Rattle.weld_handing.specs.Handing.{holds, some_hold}
use Rattle.weld_handing.proofs.Held.{neither}

-- ---- no answer

-- there is no answer
abbrev pub Fails : {A : Type 0} → Outcome A → Type 0
Fails (done x) = ⊥
Fails fault = Unit {0}
Fails stuck = Unit {0}

-- what goes on from none has none
pub fails_then : {A B : Type 0} (o : Outcome A) (f : A → Outcome B) → Fails o → Fails (and_then o f)
fails_then (done x) f h = absurd h
fails_then fault f h = tt
fails_then stuck f h = tt

-- nor has what is changed
pub fails_map : {A B : Type 0} (o : Outcome A) (f : A → B) → Fails o → Fails (map_out f o)
fails_map (done x) f h = absurd h
fails_map fault f h = tt
fails_map stuck f h = tt

-- where what goes on on each result has none, there is none
pub fails_after : {A B : Type 0} (o : Outcome A) (f : A → Outcome B) → ((x : A) → o ≡ done x → Fails (f x)) → Fails (and_then o f)
fails_after (done x) f h = h x refl
fails_after fault f h = tt
fails_after stuck f h = tt

-- what was changed had none where it has none
pub map_fails : {A B : Type 0} (o : Outcome A) (f : A → B) → Fails (map_out f o) → Fails o
map_fails (done x) f h = h
map_fails fault f h = tt
map_fails stuck f h = tt

-- one of the two has none
pub then_fails : {A B : Type 0} (o : Outcome A) (f : A → Outcome B) → Fails (and_then o f) → (Fails o) ⊎ ((x : A) × (o ≡ done x) × Fails (f x))
then_fails (done x) f h = inr (x, refl, h)
then_fails fault f h = inl tt
then_fails stuck f h = inl tt

-- what was done on the way to an answer
pub then_done_by : {A B : Type 0} (o : Outcome A) (f : A → Outcome B) (y : B) → and_then o f ≡ done y → (x : A) × (o ≡ done x) × (f x ≡ done y)
then_done_by (done x) f y h = (x, refl, h)
then_done_by fault f y h = let nothing : ⊥ = cc in absurd nothing
then_done_by stuck f y h = let nothing : ⊥ = cc in absurd nothing

-- what an answer was changed from
pub map_done_by : {A B : Type 0} (o : Outcome A) (f : A → B) (y : B) → map_out f o ≡ done y → (x : A) × (o ≡ done x) × (f x ≡ y)
map_done_by (done x) f y h = (x, refl, cc)
map_done_by fault f y h = let nothing : ⊥ = cc in absurd nothing
map_done_by stuck f y h = let nothing : ⊥ = cc in absurd nothing

-- a thing that gives a value is that value
pub value_done_by : (t : Thing) (v : Value) → as_value t ≡ done v → t ≡ plain v
value_done_by (plain w) v h = let same : w ≡ v = cc in ap plain same
value_done_by (building p) v h = let nothing : ⊥ = cc in absurd nothing
value_done_by (several ts) v h = let nothing : ⊥ = cc in absurd nothing

-- so the answer is none
pub no_answer : {A : Type 0} (o : Outcome A) → Fails o → answer_of o ≡ None
no_answer (done x) h = absurd h
no_answer fault h = refl
no_answer stuck h = refl

-- what is done is one thing
pub done_same : {A : Type 0} (x y : A) → done x ≡ done y → x ≡ y
done_same x y e = cc

-- ---- handing on

module _ (consumed : List Value → Outcome Thing) where
  -- what the other loop makes of a list; other builders stay
  abbrev pub hand_part : Part → Outcome Thing
  hand_part (list_part vs) = consumed vs
  hand_part (total_part op k x) = done (building (total_part op k x))
  hand_part (totals_part op xs) = done (building (totals_part op xs))
  hand_part (cells_part op k xs) = done (building (cells_part op k xs))
  hand_part (keyed_part op k m) = done (building (keyed_part op k m))
  hand_part (groups_part m) = done (building (groups_part m))

  -- of a builder of the list's origin
  abbrev pub hand_own : Thing → Outcome Thing
  hand_own (plain v) = done (plain v)
  hand_own (building p) = hand_part p
  hand_own (several ts) = done (several ts)

  abbrev mutual
    -- of a thing from there, with the other loop's builder in the place of each list; all fields in order
    pub hand : Origin → Thing → Outcome Thing
    hand value v = done v
    hand made v = done v
    hand (own p) v = hand_own v
    hand outer v = done v
    hand (named s p) v = done v
    hand (struct os) (plain v) = done (plain v)
    hand (struct os) (building p) = done (building p)
    hand (struct os) (several ts) = map_out several (hand_all os ts)

    -- fields in order
    pub hand_all : Origins → Things → Outcome Things
    hand_all no_origins ts = done ts
    hand_all (more_origins o os) no_things = done no_things
    hand_all (more_origins o os) (more_things t ts) = and_then (hand o t) (λ u. map_out (more_things u) (hand_all os ts))

  -- ---- what stays

  -- a value stays
  pub hands_plain : (o : Origin) (v : Value) → hand o (plain v) ≡ done (plain v)
  hands_plain value v = refl
  hands_plain made v = refl
  hands_plain (own p) v = refl
  hands_plain outer v = refl
  hands_plain (named s p) v = refl
  hands_plain (struct os) v = refl

  mutual
    -- what doesn't hold the builder stays
    pub hands_none : (o : Origin) (v : Thing) → holds o ≡ false → hand o v ≡ done v
    hands_none value v h = refl
    hands_none made v h = refl
    hands_none (own p) v h = let nothing : ⊥ = cc in absurd nothing
    hands_none outer v h = refl
    hands_none (named s p) v h = refl
    hands_none (struct os) (plain v) h = refl
    hands_none (struct os) (building p) h = refl
    hands_none (struct os) (several ts) h = ap (map_out several) (all_hand_none os ts h)

    -- fields that don't hold it stay
    pub all_hand_none : (os : Origins) (ts : Things) → some_hold os ≡ false → hand_all os ts ≡ done ts
    all_hand_none no_origins ts h = refl
    all_hand_none (more_origins o os) no_things h = refl
    all_hand_none (more_origins o os) (more_things t ts) h =
        let k = neither (holds o) (some_hold os) h in
        let x = hands_none o t k.0 in let y = all_hand_none os ts k.1 in λ i. and_then (x i) (λ u. map_out (more_things u) (y i))

  -- a struct of values stays
  pub values_hand : (os : Origins) (ts : Things) (vs : Values) → as_values ts ≡ done vs → hand_all os ts ≡ done ts
  values_hand no_origins ts vs h = refl
  values_hand (more_origins o os) no_things vs h = refl
  values_hand (more_origins o os) (more_things t ts) vs h =
      let x = then_done_by (as_value t) (λ v. map_out (and_value v) (as_values ts)) vs h in
      let y = map_done_by (as_values ts) (and_value x.0) vs x.2 in
      let here : hand o t ≡ done t = subst (λ z. hand o z ≡ done z) (sym (value_done_by t x.0 x.1)) (hands_plain o x.0) in
      let rest = values_hand os ts y.0 y.1 in λ i. and_then (here i) (λ u. map_out (more_things u) (rest i))

  -- ---- what can't be handed on

  -- the thing that stands at the path
  abbrev pub piece_at : Path → Thing → Outcome Thing
  piece_at [] v = done v
  piece_at (n ∷ p) v = and_then (piece_at p v) (field_of n)

  -- what stands at the path can't be handed on
  abbrev pub Broken : Path → Origin → Thing → Type 0
  Broken w o v = (u : Thing) × (piece_at w v ≡ done u) × Fails (hand (at_path w o) u)

  -- where one field can't be handed on, the fields can't
  fails_number : (n : ℕ) (os : Origins) (ts : Things) (u : Thing) → thing_at n ts ≡ done u → Fails (hand (origin_at n os) u) → Fails (hand_all os ts)
  fails_number zero no_origins ts u e h = absurd h
  fails_number (suc n) no_origins ts u e h = absurd h
  fails_number zero (more_origins o os) no_things u e h = let nothing : ⊥ = cc in absurd nothing
  fails_number (suc n) (more_origins o os) no_things u e h = let nothing : ⊥ = cc in absurd nothing
  fails_number zero (more_origins o os) (more_things t ts) u e h =
      let same : t ≡ u = cc in fails_then (hand o t) (λ z. map_out (more_things z) (hand_all os ts)) (subst (λ z. Fails (hand o z)) (sym same) h)
  fails_number (suc n) (more_origins o os) (more_things t ts) u e h =
      fails_after (hand o t) (λ z. map_out (more_things z) (hand_all os ts)) (λ z k. fails_map (hand_all os ts) (more_things z) (fails_number n os ts u e h))

  -- with a field the whole can't be handed on
  pub fails_field : (n : ℕ) (o : Origin) (y u : Thing) → field_of n y ≡ done u → Fails (hand (field_within n o) u) → Fails (hand o y)
  fails_field n value y u e h = h
  fails_field n made y u e h = h
  fails_field n (own p) y u e h = absurd h
  fails_field n outer y u e h = h
  fails_field n (named s p) y u e h = h
  fails_field n (struct os) (plain v) u e h =
      let x = map_done_by (value_field n v) plain u e in
      subst Fails (subst (λ z. hand (origin_at n os) z ≡ done z) x.2 (hands_plain (origin_at n os) x.0)) h
  fails_field n (struct os) (building p) u e h = let nothing : ⊥ = cc in absurd nothing
  fails_field n (struct os) (several ts) u e h = fails_map (hand_all os ts) several (fails_number n os ts u e h)

  -- where what stands at the path can't be handed on, what stands one field before it can't
  broken_less : (n : ℕ) (p : Path) (o : Origin) (v : Thing) → Broken (n ∷ p) o v → Broken p o v
  broken_less n p o v h =
      let x = then_done_by (piece_at p v) (field_of n) h.0 h.1 in (x.0, x.1, fails_field n (at_path p o) x.0 h.0 x.2 h.2)

  -- nor can what stands above on the path
  pub broken_above : (k p : Path) (o : Origin) (v : Thing) → Broken (k ++ p) o v → Broken p o v
  broken_above [] p o v h = h
  broken_above (n ∷ k) p o v h = broken_above k p o v (broken_less n (k ++ p) o v h)

  -- nor the thing itself
  pub broken_whole : (w : Path) (o : Origin) (v : Thing) → Broken w o v → Fails (hand o v)
  broken_whole [] o v h = let same : v ≡ h.0 = done_same v h.0 h.1 in subst (λ z. Fails (hand o z)) (sym same) h.2
  broken_whole (n ∷ w) o v h = broken_whole w o v (broken_less n w o v h)

  -- the things from a number on
  abbrev things_from : ℕ → Things → Things
  things_from zero ts = ts
  things_from (suc n) no_things = no_things
  things_from (suc n) (more_things t ts) = things_from n ts

  -- the origins from a number on
  abbrev origins_from : ℕ → Origins → Origins
  origins_from zero os = os
  origins_from (suc n) no_origins = no_origins
  origins_from (suc n) (more_origins o os) = origins_from n os

  -- the first of the things from a number on has that number
  thing_from : (n : ℕ) (ts : Things) (t : Thing) (us : Things) → things_from n ts ≡ more_things t us → thing_at n ts ≡ done t
  thing_from zero no_things t us e = let nothing : ⊥ = cc in absurd nothing
  thing_from (suc n) no_things t us e = let nothing : ⊥ = cc in absurd nothing
  thing_from zero (more_things u ts) t us e = let same : u ≡ t = cc in ap done same
  thing_from (suc n) (more_things u ts) t us e = thing_from n ts t us e

  -- the rest of them are those from the next on
  things_after : (n : ℕ) (ts : Things) (t : Thing) (us : Things) → things_from n ts ≡ more_things t us → things_from (suc n) ts ≡ us
  things_after zero no_things t us e = let nothing : ⊥ = cc in absurd nothing
  things_after (suc n) no_things t us e = let nothing : ⊥ = cc in absurd nothing
  things_after zero (more_things u ts) t us e = cc
  things_after (suc n) (more_things u ts) t us e = things_after n ts t us e

  -- the first of the origins from a number on has that number
  origin_from : (n : ℕ) (os : Origins) (o : Origin) (ps : Origins) → origins_from n os ≡ more_origins o ps → origin_at n os ≡ o
  origin_from zero no_origins o ps e = let nothing : ⊥ = cc in absurd nothing
  origin_from (suc n) no_origins o ps e = let nothing : ⊥ = cc in absurd nothing
  origin_from zero (more_origins p os) o ps e = cc
  origin_from (suc n) (more_origins p os) o ps e = origin_from n os o ps e

  -- the rest of them are those from the next on
  origins_after : (n : ℕ) (os : Origins) (o : Origin) (ps : Origins) → origins_from n os ≡ more_origins o ps → origins_from (suc n) os ≡ ps
  origins_after zero no_origins o ps e = let nothing : ⊥ = cc in absurd nothing
  origins_after (suc n) no_origins o ps e = let nothing : ⊥ = cc in absurd nothing
  origins_after zero (more_origins p os) o ps e = cc
  origins_after (suc n) (more_origins p os) o ps e = origins_after n os o ps e

  -- a broken path of a builder
  abbrev pub Breaks : Origin → Thing → Type 0
  Breaks o v = (w : Path) × (is_builder_path o w ≡ true) × Broken w o v

  mutual
    -- by the origin that stands at a path
    breaks_below : (o : Origin) (v : Thing) (whole : Origin) (all : Thing) (p : Path) → at_path p whole ≡ o → piece_at p all ≡ done v → Fails (hand o v) → Breaks whole all
    breaks_below value v whole all p e k h = absurd h
    breaks_below made v whole all p e k h = absurd h
    breaks_below (own q) v whole all p e k h = (p, ap is_builder e, (v, k, subst (λ z. Fails (hand z v)) (sym e) h))
    breaks_below outer v whole all p e k h = absurd h
    breaks_below (named s q) v whole all p e k h = absurd h
    breaks_below (struct os) (plain v) whole all p e k h = absurd h
    breaks_below (struct os) (building d) whole all p e k h = absurd h
    breaks_below (struct os) (several ts) whole all p e k h =
        break_among os ts whole all p zero os ts e k refl refl (map_fails (hand_all os ts) several h)

    -- by the fields from a number on
    break_among : (os : Origins) (ts : Things) (whole : Origin) (all : Thing) (p : Path) (n : ℕ) (ps : Origins) (us : Things) → at_path p whole ≡ struct ps → piece_at p all ≡ done (several us) → origins_from n ps ≡ os → things_from n us ≡ ts → Fails (hand_all os ts) → Breaks whole all
    break_among no_origins ts whole all p n ps us e k a b h = absurd h
    break_among (more_origins o os) no_things whole all p n ps us e k a b h = absurd h
    break_among (more_origins o os) (more_things t ts) whole all p n ps us e k a b h =
        by (then_fails (hand o t) (λ z. map_out (more_things z) (hand_all os ts)) h)
        (breaks_below o t whole all (n ∷ p) (ap (field_within n) e ∙ origin_from n ps o os a) (ap (λ z. and_then z (field_of n)) k ∙ thing_from n us t ts b))
        (break_among os ts whole all p (suc n) ps us e k (origins_after n ps o os a) (things_after n us t ts b))
      where
        by : (Fails (hand o t)) ⊎ ((x : Thing) × (hand o t ≡ done x) × Fails (map_out (more_things x) (hand_all os ts))) → (Fails (hand o t) → Breaks whole all) → (Fails (hand_all os ts) → Breaks whole all) → Breaks whole all
        by (inl f) here rest = here f
        by (inr f) here rest = rest (map_fails (hand_all os ts) (more_things f.0) f.2)

  -- what can't be handed on is broken at some path
  pub breaks : (o : Origin) (v : Thing) → Fails (hand o v) → Breaks o v
  breaks o v h = breaks_below o v o v [] refl refl h
