-- A guarded merge may be rewritten to the merge of what the condition chooses.
use Rattle.std.proofs.Common.{◌≡◌, ℕ, Bool, true, false, ◌&&◌, ◌||◌, if◌then◌else◌, ◌++◌, Option, Some, None, length, refl, ap, sym, subst, ◌∙◌, arith, length-append, inl, inr}
use Rattle.weld_data.specs.declared.op.MergeOp.{MergeOp}
use Rattle.weld_data.specs.Value.{Value}
use Rattle.weld_tree.specs.TypeTree.{TypeTree, BuildTree, build, total}
use Rattle.weld_tree.specs.Types.{takes as taken_type, IsMergerType}
use Rattle.weld_tree.specs.ExprTree.{At, ExprTree, leaf, one, two, three, many, let_in, loop, iterate, binary, and, or, look_up, key_exists, merge, if_else, select, slice}
use Rattle.weld_tree.specs.Program.{bound}
use Rattle.weld_builders.specs.Outcome.{Outcome, done, fault, stuck, and_then, map_out}
use Rattle.weld_builders.specs.Part.{Part}
use Rattle.weld_meaning.specs.Environment.{Named}
use Rattle.weld_meaning.specs.Thing.{Thing, plain, building, several}
use Rattle.weld_meaning.specs.ThingType.{HasPart, HasThing, EnvFits}
use Rattle.weld_meaning.specs.Evaluation.{Env, chosen, merged, eval}
use Rattle.weld_meaning.specs.Meaning.{GivesOrFaults}
use Rattle.weld_meaning.specs.Typing.{Types, truth_type, HasType}
use Rattle.weld_meaning.specs.Origin.{Path, Origin}
use Rattle.weld_meaning.specs.Available.{Taken, Apart, chain_of, takes}
use Rattle.weld_meaning.specs.Names.{IsFree}
use Rattle.weld_meaning.proofs.Good.{free_value_type, value_of_thing}
use Rattle.weld_meaning.proofs.WellFormed.{merger_free}
use Rattle.weld_meaning.proofs.OneType.{one_type}
use Rattle.weld_meaning.proofs.PartsGood.{KeyLaws}
use Rattle.weld_meaning.proofs.NeverStuck.{never_stuck}
use Rattle.weld_safe.specs.Safe.{IsSafe}
use Rattle.weld_safe.specs.Test.{is_safe}
use Rattle.weld_safe.proofs.Decided.{safe_at_test}
use Rattle.weld_safe.proofs.Valued.{Laws, valued}
use Rattle.weld_rewriting.specs.Placed.{IsPlaced}
use Rattle.weld_rewriting.specs.Within.{times, StaysWithin}
use Rattle.weld_rewriting.specs.Rewriting.{Rewrites}
use Rattle.weld_rewriting.proofs.Counts.{times-append}
use Rattle.weld_rewriting.proofs.Parts.{first_of_two, second_of_two, first_of_three, second_of_three, third_of_three}
use Rattle.weld_substitution.specs.Redex.{noted, is_plain, is_chain}
use Rattle.weld_substitution.proofs.Chains.{chain_by}
use Rattle.weld_substitution.proofs.Following.{and_true}
use Rattle.weld_substitution.proofs.PlainFacts.{plain_gives}
use Rattle.weld_predicate.specs.Neutral.{node_of, neutral}
use Rattle.weld_predicate.specs.Guard.{Merger, merger_of, same_chain, is_some_merger, is_guarded, is_guard, chosen_value, always_merged, unguarded}
use Rattle.weld_predicate.proofs.Neutrals.{IsNeutral, neutral_is, neutral_value, merge_neutral}
use Rattle.weld_predicate.proofs.Same.{one_origin, one_thing, one_taking, chains_are, IsMerger, merger_is, item_mergeable, note_there}
use Rattle.weld_predicate.proofs.Merging.{PartsPlaced, merge_placed, with_value, merge_gives}

-- ---- what the test says

-- a merge into a path of a `merger`, and that path
pub record Guarded (b v other : ExprTree) : Type 0 where
  pub chain : ℕ × Path
  pub here : chain_of b ≡ Some chain
  pub there : chain_of other ≡ Some chain
  pub merger : Merger
  pub known : merger_of (noted b) ≡ Some merger
  pub safe : IsSafe v

some_merger : (m : Option Merger) → is_some_merger m ≡ true → (n : Merger) × (m ≡ Some n)
some_merger (Some n) h = (n, refl)
some_merger None h = let nothing : ⊥ = cc in absurd nothing

guarded_of : (b v other : ExprTree) → (same_chain (chain_of b) (chain_of other) && (is_some_merger (merger_of (noted b)) && is_safe v)) ≡ true → Guarded b v other
guarded_of b v other h =
    let x = and_true (same_chain (chain_of b) (chain_of other)) (is_some_merger (merger_of (noted b)) && is_safe v) h in
    let y = and_true (is_some_merger (merger_of (noted b))) (is_safe v) x.1 in
    let c = chains_are (chain_of b) (chain_of other) x.0 in
    let m = some_merger (merger_of (noted b)) y.0 in
    record { chain = c.0; here = c.1; there = c.2; merger = m.0; known = m.1; safe = (safe_at_test true v (sym y.1)).0 refl }

-- ---- things

-- a thing of a builder is a part
part_of : (c : BuildTree) (x : Thing) → HasThing x (build c) → (p : Part) × (x ≡ building p) × HasPart p c
part_of c (plain v) h = absurd h
part_of c (building p) h = (p, refl, h.1)
part_of c (several ts) h = absurd h

given : {A : Type 0} (P : A → Type 0) (o : Outcome A) → GivesOrFaults P o → (o ≡ fault → ⊥) → (x : A) × (o ≡ done x) × P x
given P (done x) h k = (x, refl, h)
given P fault h k = absurd (k refl)
given P stuck h k = absurd h

chain_plain : (v : ExprTree) (c : ℕ × Path) → chain_of v ≡ Some c → is_plain v ≡ true
chain_plain v c k = (chain_by (λ x y. (is_plain x ≡ true) × (is_chain x ≡ true)) (λ a s. (refl, refl)) (λ a n x y m f. (f.1, f.1)) v c k).0

-- ---- apart

apart_back : (A B : Taken) → Apart A B → Apart B A
apart_back A B h = record { apart = λ t q x y. h.apart t q y x }

apart_less : (A B C : Taken) → ((t : ℕ) (q : Path) → C t q ≡ true → B t q ≡ true) → Apart A B → Apart A C
apart_less A B C f h = record { apart = λ t q x y. h.apart t q x (f t q y) }

apart_none : (A B : Taken) → ((t : ℕ) (q : Path) → B t q ≡ false) → Apart A B
apart_none A B f = record { apart = λ t q x y. let z = f t q in let nothing : ⊥ = cc in nothing }

or_first : (a b : Bool) → a ≡ true → (a || b) ≡ true
or_first a b e = ap (λ x. x || b) e

or_second : (a b : Bool) → b ≡ true → (a || b) ≡ true
or_second true b e = refl
or_second false b e = e

-- ---- one guarded merge, whichever arm it stands in

-- the arms take the same, so the value takes nothing
same_sides : (b c : Bool) → (b || (c || (false || false))) ≡ (c || ((b || false) || b))
same_sides true true = refl
same_sides true false = refl
same_sides false true = refl
same_sides false false = refl

other_sides : (b c : Bool) → (b || (c || (false || false))) ≡ (c || (b || (b || false)))
other_sides true true = refl
other_sides true false = refl
other_sides false true = refl
other_sides false false = refl

not_true : (x : Bool) → (x ≡ true → ⊥) → x ≡ false
not_true true f = absurd (f refl)
not_true false f = refl

builders_one : (c d : BuildTree) → build c ≡ build d → c ≡ d
builders_one c d e = cc

module _ (a m : At) (c b v other : ExprTree) (w : Guarded b v other) where
  abbrev item : TypeTree
  item = w.merger.item

  abbrev op : MergeOp
  op = w.merger.op

  abbrev builder_type : TypeTree
  builder_type = build (total item op)

  abbrev none : ExprTree
  none = neutral a.place op item

  abbrev arm : ExprTree
  arm = two m merge b v

  mergeable : IsMergerType item
  mergeable = item_mergeable (noted b) w.merger w.known

  neutral_none : IsNeutral op item none
  neutral_none = neutral_is a.place op item mergeable

  -- the arms and the condition in their places
  record Arms (types : Types) (g : Named Origin) (t : TypeTree) : Type 0 where
    pub condition : IsPlaced c types g truth_type
    pub merges : IsPlaced arm types g t
    pub stays : IsPlaced other types g t
    pub apart : Apart (takes c g) (takes arm g)
    pub alike : (s : ℕ) (q : Path) → takes arm g s q ≡ takes other g s q

  -- what is known of the parts then
  record Parts (types : Types) (g : Named Origin) (t : TypeTree) : Type 0 where
    pub builder : IsPlaced b types g builder_type
    pub value : IsPlaced v types g item
    pub neutral : IsPlaced none types g item
    pub type : t ≡ builder_type
    pub none_taken : (s : ℕ) (q : Path) → takes v g s q ≡ false

  parts_of : (types : Types) (g : Named Origin) (t : TypeTree) → Arms types g t → Parts types g t
  parts_of types g t p =
      let h = p.merges.typed in
      let pb = first_of_two m merge b v types g t p.merges in
      let pv = second_of_two m merge b v types g t p.merges in
      let n = note_there b types pb.noted in
      let is : IsMerger n.0 w.merger = merger_is (noted b) w.merger n.0 w.known n.1 in
      let type : h.0 ≡ builder_type = one_type b types h.0 n.0 pb.typed n.2 ∙ is.type in
      let same : h.4.0 ≡ total item op = builders_one h.4.0 (total item op) (sym h.4.1 ∙ type) in
      let value : h.1 ≡ item = h.4.2 ∙ ap taken_type same in
      record {
        builder = subst (IsPlaced b types g) type pb;
        value = subst (IsPlaced v types g) value pv;
        neutral = record {
          formed = pb.formed;
          forms = pb.forms;
          typed = neutral_none.typed types;
          keeps = neutral_none.keeps g;
          splits = neutral_none.splits g;
          noted = neutral_none.noted types;
        };
        type = h.4.3 ∙ type;
        none_taken = λ s q. not_true (takes v g s q) (λ e.
            p.merges.splits.2.apart s q (one_taking g b other w.chain w.here w.there s q ∙ sym (p.alike s q) ∙ or_second (takes b g s q) (takes v g s q) e) e);
      }

  -- ---- in its place

  in_first : (types : Types) (g : Named Origin) (t : TypeTree) → Arms types g t → PartsPlaced item op b c v none types g
  in_first types g t p =
      let q = parts_of types g t p in
      record {
        builder = q.builder;
        condition = p.condition;
        first = q.value;
        second = q.neutral;
        builder_condition = apart_back _ _ (apart_less (takes c g) (takes arm g) (takes b g) (λ s r. or_first (takes b g s r) (takes v g s r)) p.apart);
        builder_first = p.merges.splits.2;
        builder_second = apart_none (takes b g) (takes none g) (neutral_none.takes_none g);
        condition_first = apart_less (takes c g) (takes arm g) (takes v g) (λ s r. or_second (takes b g s r) (takes v g s r)) p.apart;
        condition_second = apart_none (takes c g) (takes none g) (neutral_none.takes_none g);
        first_second = apart_none (takes v g) (takes none g) (neutral_none.takes_none g);
      }

  in_second : (types : Types) (g : Named Origin) (t : TypeTree) → Arms types g t → PartsPlaced item op b c none v types g
  in_second types g t p =
      let q = in_first types g t p in
      record {
        builder = q.builder;
        condition = q.condition;
        first = q.second;
        second = q.first;
        builder_condition = q.builder_condition;
        builder_first = q.builder_second;
        builder_second = q.builder_first;
        condition_first = q.condition_second;
        condition_second = q.condition_first;
        first_second = apart_back _ _ q.first_second;
      }

  -- ---- what the arms come to

  record Things (env : Env) : Type 0 where
    pub part : Part
    pub value : Value
    pub builder_is : eval b env ≡ done (building part)
    pub value_is : eval v env ≡ done (plain value)
    pub merges_to : eval arm env ≡ with_value part value
    pub stays_at : eval other env ≡ with_value part (neutral_value op item)

  things_of : KeyLaws → (types : Types) (g : Named Origin) (t : TypeTree) (env : Env) → Arms types g t → EnvFits types env → Things env
  things_of laws types g t env p fit =
      let q = parts_of types g t p in
      let good = never_stuck laws b types builder_type env q.builder.typed q.builder.formed fit in
      let x = given (λ y. HasThing y builder_type) (eval b env) good.fits (plain_gives env b (chain_plain b w.chain w.here)) in
      let n = part_of (total item op) x.0 x.2 in
      let safe : Laws = record { fits = λ e h u later i formed fits. (never_stuck laws e h u later i formed fits).fits; one = one_type } in
      let y = valued safe v types item env q.value.formed fit q.value.typed q.value.noted w.safe in
      let i = value_of_thing item y.0 (free_value_type item (merger_free item mergeable)) y.2 in
      let eb : eval b env ≡ done (building n.0) = x.1 ∙ ap done n.1 in
      let ev : eval v env ≡ done (plain i.0) = y.1 ∙ ap done i.1 in
      record {
        part = n.0;
        value = i.0;
        builder_is = eb;
        value_is = ev;
        merges_to = λ j. and_then (eb j) (λ z. merged z (ev j));
        stays_at = one_thing env other b w.chain w.there w.here ∙ eb ∙ sym (ap (map_out building) (merge_neutral n.0 item op n.2));
      }

  -- ---- the merge where the condition holds

  abbrev pattern : ExprTree
  pattern = three a if_else c arm other

  abbrev answer : ExprTree
  answer = two a merge b (three (node_of a.place item) select c v none)

  arms_first : (types : Types) (g : Named Origin) (t : TypeTree) → IsPlaced pattern types g t → Arms types g t
  arms_first types g t p = record {
    condition = subst (IsPlaced c types g) p.typed.6.0 (first_of_three a if_else c arm other types g t p);
    merges = subst (IsPlaced arm types g) p.typed.6.1 (second_of_three a if_else c arm other types g t p);
    stays = subst (IsPlaced other types g) p.typed.6.2 (third_of_three a if_else c arm other types g t p);
    apart = p.splits.3;
    alike = p.splits.5.alike;
  }

  first_placed : (types : Types) (g : Named Origin) (t : TypeTree) → IsPlaced pattern types g t → IsPlaced answer types g t
  first_placed types g t p =
      let arms = arms_first types g t p in
      let q = parts_of types g t arms in
      subst (IsPlaced answer types g) (sym q.type)
      (merge_placed a a.place item op b c v none types g pattern (in_first types g t arms) (merger_free item mergeable) p.noted.3 (subst (HasType pattern types) q.type p.typed)
      (λ u h. one_type pattern types u t h p.typed ∙ q.type))

  first_taken : (types : Types) (g : Named Origin) (t : TypeTree) → IsPlaced pattern types g t → takes answer g ≡ takes pattern g
  first_taken types g t p =
      let q = parts_of types g t (arms_first types g t p) in
      λ i s r.
      ((λ j. takes b g s r || (takes c g s r || (q.none_taken s r j || neutral_none.takes_none g s r j))) ∙ same_sides (takes b g s r) (takes c g s r)
      ∙ (λ j. takes c g s r || ((takes b g s r || sym (q.none_taken s r) j) || one_taking g b other w.chain w.here w.there s r j))) i

  first_means : KeyLaws → (types : Types) (g : Named Origin) (t : TypeTree) (env : Env) → IsPlaced pattern types g t → EnvFits types env → eval answer env ≡ eval pattern env
  first_means laws types g t env p fit =
      let x = things_of laws types g t env (arms_first types g t p) fit in
      merge_gives a (node_of a.place item) x.part x.value (neutral_value op item) b c v none env x.builder_is x.value_is (neutral_none.gives env)
      ∙ (λ i. and_then (eval c env) (λ tc. chosen tc (sym x.merges_to i) (sym x.stays_at i)))

  -- ---- the merge where it doesn't

  abbrev mirrored : ExprTree
  mirrored = three a if_else c other arm

  abbrev mirrored_answer : ExprTree
  mirrored_answer = two a merge b (three (node_of a.place item) select c none v)

  arms_second : (types : Types) (g : Named Origin) (t : TypeTree) → IsPlaced mirrored types g t → Arms types g t
  arms_second types g t p = record {
    condition = subst (IsPlaced c types g) p.typed.6.0 (first_of_three a if_else c other arm types g t p);
    merges = subst (IsPlaced arm types g) p.typed.6.2 (third_of_three a if_else c other arm types g t p);
    stays = subst (IsPlaced other types g) p.typed.6.1 (second_of_three a if_else c other arm types g t p);
    apart = p.splits.4;
    alike = λ s q. sym (p.splits.5.alike s q);
  }

  second_placed : (types : Types) (g : Named Origin) (t : TypeTree) → IsPlaced mirrored types g t → IsPlaced mirrored_answer types g t
  second_placed types g t p =
      let arms = arms_second types g t p in
      let q = parts_of types g t arms in
      subst (IsPlaced mirrored_answer types g) (sym q.type)
      (merge_placed a a.place item op b c none v types g mirrored (in_second types g t arms) (merger_free item mergeable) p.noted.3 (subst (HasType mirrored types) q.type p.typed)
      (λ u h. one_type mirrored types u t h p.typed ∙ q.type))

  second_taken : (types : Types) (g : Named Origin) (t : TypeTree) → IsPlaced mirrored types g t → takes mirrored_answer g ≡ takes mirrored g
  second_taken types g t p =
      let q = parts_of types g t (arms_second types g t p) in
      λ i s r.
      ((λ j. takes b g s r || (takes c g s r || (neutral_none.takes_none g s r j || q.none_taken s r j))) ∙ other_sides (takes b g s r) (takes c g s r)
      ∙ (λ j. takes c g s r || (one_taking g b other w.chain w.here w.there s r j || (takes b g s r || sym (q.none_taken s r) j)))) i

  second_means : KeyLaws → (types : Types) (g : Named Origin) (t : TypeTree) (env : Env) → IsPlaced mirrored types g t → EnvFits types env → eval mirrored_answer env ≡ eval mirrored env
  second_means laws types g t env p fit =
      let x = things_of laws types g t env (arms_second types g t p) fit in
      merge_gives a (node_of a.place item) x.part (neutral_value op item) x.value b c none v env x.builder_is (neutral_none.gives env) x.value_is
      ∙ (λ i. and_then (eval c env) (λ tc. chosen tc (sym x.stays_at i) (sym x.merges_to i)))

  -- ---- what is counted

  first_within : StaysWithin answer pattern
  first_within = record {
    binds = λ t.
        let e : times (bound none) t ≡ 0 = ap (λ xs. times xs t) neutral_none.binds_none in
        omega (
          arith,
          e,
          times-append (bound b) (bound c ++ (bound v ++ bound none)) t,
          times-append (bound c) (bound v ++ bound none) t,
          times-append (bound v) (bound none) t,
          times-append (bound c) ((bound b ++ bound v) ++ bound other) t,
          times-append (bound b ++ bound v) (bound other) t,
          times-append (bound b) (bound v) t,
        );
    names = λ t h. named t h;
    no_more_loops = omega (arith, neutral_none.no_loops);
    no_more_legs = omega (arith, neutral_none.no_legs);
    no_more_binders =
        let e : length (bound none) ≡ 0 = ap length neutral_none.binds_none in
        omega (
          arith,
          e,
          length-append (bound b) (bound c ++ (bound v ++ bound none)),
          length-append (bound c) (bound v ++ bound none),
          length-append (bound v) (bound none),
          length-append (bound c) ((bound b ++ bound v) ++ bound other),
          length-append (bound b ++ bound v) (bound other),
          length-append (bound b) (bound v),
        );
    well_made = λ h. (h.1.0, (h.0, h.1.1, neutral_none.made));
    spellable = λ h. (h.1.0, (h.0, h.1.1, neutral_none.spellable));
  }
    where
      named : (t : ℕ) → IsFree answer t → IsFree pattern t
      named t (inl h) = inr (inl (inl h))
      named t (inr (inl h)) = inl h
      named t (inr (inr (inl h))) = inr (inl (inr h))
      named t (inr (inr (inr h))) = absurd (neutral_none.names_none t h)

  second_within : StaysWithin mirrored_answer mirrored
  second_within = record {
    binds = λ t.
        let e : times (bound none) t ≡ 0 = ap (λ xs. times xs t) neutral_none.binds_none in
        omega (
          arith,
          e,
          times-append (bound b) (bound c ++ (bound none ++ bound v)) t,
          times-append (bound c) (bound none ++ bound v) t,
          times-append (bound none) (bound v) t,
          times-append (bound c) (bound other ++ (bound b ++ bound v)) t,
          times-append (bound other) (bound b ++ bound v) t,
          times-append (bound b) (bound v) t,
        );
    names = λ t h. named t h;
    no_more_loops = omega (arith, neutral_none.no_loops);
    no_more_legs = omega (arith, neutral_none.no_legs);
    no_more_binders =
        let e : length (bound none) ≡ 0 = ap length neutral_none.binds_none in
        omega (
          arith,
          e,
          length-append (bound b) (bound c ++ (bound none ++ bound v)),
          length-append (bound c) (bound none ++ bound v),
          length-append (bound none) (bound v),
          length-append (bound c) (bound other ++ (bound b ++ bound v)),
          length-append (bound other) (bound b ++ bound v),
          length-append (bound b) (bound v),
        );
    well_made = λ h. (h.2.0, (h.0, neutral_none.made, h.2.1));
    spellable = λ h. (h.2.0, (h.0, neutral_none.spellable, h.2.1));
  }
    where
      named : (t : ℕ) → IsFree mirrored_answer t → IsFree mirrored t
      named t (inl h) = inr (inr (inl h))
      named t (inr (inl h)) = inl h
      named t (inr (inr (inl h))) = absurd (neutral_none.names_none t h)
      named t (inr (inr (inr h))) = inr (inr (inr h))

  -- ---- the rewritings

  pub first_rewrites : KeyLaws → Rewrites answer pattern
  first_rewrites laws = record {
    replaces = record {
      same_origin = λ g. refl;
      same_chain = λ x e. let nothing : ⊥ = cc in absurd nothing;
      placed = first_placed;
      taken = first_taken;
      means = first_means laws;
    };
    within = first_within;
  }

  pub second_rewrites : KeyLaws → Rewrites mirrored_answer mirrored
  second_rewrites laws = record {
    replaces = record {
      same_origin = λ g. one_origin g b other w.chain w.here w.there;
      same_chain = λ x e. let nothing : ⊥ = cc in absurd nothing;
      placed = second_placed;
      taken = second_taken;
      means = second_means laws;
    };
    within = second_within;
  }

-- ---- the pattern

-- what the arm merges, as the test of the pattern finds it
first_arm : KeyLaws → (a : At) (c e f : ExprTree) → is_guarded e f ≡ true → Rewrites (always_merged a c true e) (three a if_else c e f)
first_arm laws a c (leaf m l) f h = let nothing : ⊥ = cc in absurd nothing
first_arm laws a c (one m o e) f h = let nothing : ⊥ = cc in absurd nothing
first_arm laws a c (two m (binary o) b v) f h = let nothing : ⊥ = cc in absurd nothing
first_arm laws a c (two m and b v) f h = let nothing : ⊥ = cc in absurd nothing
first_arm laws a c (two m or b v) f h = let nothing : ⊥ = cc in absurd nothing
first_arm laws a c (two m look_up b v) f h = let nothing : ⊥ = cc in absurd nothing
first_arm laws a c (two m key_exists b v) f h = let nothing : ⊥ = cc in absurd nothing
first_arm laws a c (two m merge b v) f h =
    let w = guarded_of b v f h in
    subst (λ x. Rewrites (two a merge b (chosen_value a.place c true v x)) (three a if_else c (two m merge b v) f)) (sym w.known) (first_rewrites a m c b v f w laws)
first_arm laws a c (three m o d e g) f h = let nothing : ⊥ = cc in absurd nothing
first_arm laws a c (many m o es) f h = let nothing : ⊥ = cc in absurd nothing
first_arm laws a c (let_in m b e g) f h = let nothing : ⊥ = cc in absurd nothing
first_arm laws a c (loop m ls e b n x g) f h = let nothing : ⊥ = cc in absurd nothing
first_arm laws a c (iterate m e b g) f h = let nothing : ⊥ = cc in absurd nothing

second_arm : KeyLaws → (a : At) (c e f : ExprTree) → is_guarded f e ≡ true → Rewrites (always_merged a c false f) (three a if_else c e f)
second_arm laws a c e (leaf m l) h = let nothing : ⊥ = cc in absurd nothing
second_arm laws a c e (one m o f) h = let nothing : ⊥ = cc in absurd nothing
second_arm laws a c e (two m (binary o) b v) h = let nothing : ⊥ = cc in absurd nothing
second_arm laws a c e (two m and b v) h = let nothing : ⊥ = cc in absurd nothing
second_arm laws a c e (two m or b v) h = let nothing : ⊥ = cc in absurd nothing
second_arm laws a c e (two m look_up b v) h = let nothing : ⊥ = cc in absurd nothing
second_arm laws a c e (two m key_exists b v) h = let nothing : ⊥ = cc in absurd nothing
second_arm laws a c e (two m merge b v) h =
    let w = guarded_of b v e h in
    subst (λ x. Rewrites (two a merge b (chosen_value a.place c false v x)) (three a if_else c e (two m merge b v))) (sym w.known) (second_rewrites a m c b v e w laws)
second_arm laws a c e (three m o d f g) h = let nothing : ⊥ = cc in absurd nothing
second_arm laws a c e (many m o es) h = let nothing : ⊥ = cc in absurd nothing
second_arm laws a c e (let_in m b f g) h = let nothing : ⊥ = cc in absurd nothing
second_arm laws a c e (loop m ls f b n x g) h = let nothing : ⊥ = cc in absurd nothing
second_arm laws a c e (iterate m f b g) h = let nothing : ⊥ = cc in absurd nothing

either_arm : KeyLaws → (a : At) (c e f : ExprTree) → (is_guarded e f || is_guarded f e) ≡ true → Rewrites (if is_guarded e f then always_merged a c true e else always_merged a c false f) (three a if_else c e f)
either_arm laws a c e f h = by (is_guarded e f) refl h
  where
    by : (x : Bool) → is_guarded e f ≡ x → (x || is_guarded f e) ≡ true → Rewrites (if x then always_merged a c true e else always_merged a c false f) (three a if_else c e f)
    by true i k = first_arm laws a c e f i
    by false i k = second_arm laws a c e f k

pub guard_rewrites : KeyLaws → (e : ExprTree) → is_guard e ≡ true → Rewrites (unguarded e) e
guard_rewrites laws (leaf a l) h = let nothing : ⊥ = cc in absurd nothing
guard_rewrites laws (one a o e) h = let nothing : ⊥ = cc in absurd nothing
guard_rewrites laws (two a o e f) h = let nothing : ⊥ = cc in absurd nothing
guard_rewrites laws (three a if_else c e f) h = either_arm laws a c e f h
guard_rewrites laws (three a select c e f) h = let nothing : ⊥ = cc in absurd nothing
guard_rewrites laws (three a slice c e f) h = let nothing : ⊥ = cc in absurd nothing
guard_rewrites laws (many a o es) h = let nothing : ⊥ = cc in absurd nothing
guard_rewrites laws (let_in a b e f) h = let nothing : ⊥ = cc in absurd nothing
guard_rewrites laws (loop a ls e b n x f) h = let nothing : ⊥ = cc in absurd nothing
guard_rewrites laws (iterate a e b f) h = let nothing : ⊥ = cc in absurd nothing
