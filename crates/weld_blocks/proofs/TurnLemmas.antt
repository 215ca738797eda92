-- The turns of an `iterate` on the rows of a block.
use Rattle.std.proofs.Common.{◌≡◌, ◌≢◌, ℕ, ◌+◌, ◌<◌, ◌≤◌, ◌∷◌, [], Bool, true, false, if◌then◌else◌, List, length, get_or, set, ℤ, pos, Option, Some, None, IfSome, Vec, Global, refl, sym, ap, subst, ◌∙◌, below_more, get_or-set_other, get_or-set_same, arith}
use Rattle.std.proofs.lemmas.List.{ext_get_or, get_or-map, length-map}
use Rattle.weld_data.specs.declared.kind.Kind.TheVariants as kinds
use Rattle.weld_data.specs.Value.{Value, number}
use Rattle.weld_built.specs.Pair.{pair}
use Rattle.weld_tree.specs.declared.binder.Binder.{Binder}
use Rattle.weld_tree.specs.ExprTree.{ExprTree, At, one, iterate, field}
use Rattle.weld_builders.specs.Outcome.{Outcome, done, and_then, map_out}
use Rattle.weld_meaning.specs.Evaluation.{Env, eval, one_thing, turns, turn_limit, value_out}
use Rattle.weld_meaning.specs.Names.{AgreeOn}
use Rattle.weld_meaning.specs.Thing.{Thing, plain, value_field}
use Rattle.weld_acts.proofs.Decided.{uses_decides}
use Rattle.weld_turns.specs.OnRows.{most_words, state_of, EndsWith, IsOther, MeansBody}
use Rattle.weld_turns.specs.declared.code.Named.{Named}
use Rattle.weld_turns.specs.States.{next_of}
use Rattle.weld_turns.specs.declared.code.Shape.{Shape}
use Rattle.weld_turns.specs.declared.code.Shape.TheVariants as shapes
use Rattle.weld_turns.specs.declared.step.Step.{Step}
use Rattle.weld_blocks.specs.Numbers.{number_at, AreGiven, MayGive, MayBeNumbers}
use Rattle.weld_blocks.specs.Scope.{bound_at, struct_at, IsBound}
use Rattle.weld_blocks.specs.Turned.{no_state, part_at, state_at, word_in, words_in, AreEnds, AreLast, IsFieldOf, NamesGive, StandApart}
use Rattle.weld_blocks.specs.declared.numbers.Numbers.{Numbers}
use Rattle.weld_blocks.specs.declared.scope.Bound.{Bound}
use Rattle.weld_blocks.specs.declared.scope.Bound.TheVariants as bounds
use Rattle.weld_blocks.specs.declared.turning.State.{State}
use Rattle.weld_blocks.proofs.LeafLemmas.{may_map}
use Rattle.weld_blocks.proofs.NoteLemmas.{stand_at, wide_at}

-- ---- the words of a row

pub words_written : (cs : List Numbers) (xs : List ℤ) (i j : ℕ) → length xs ≡ length cs → length cs ≤ i → ((k : ℕ) → k < i → get_or xs k (pos 0) ≡ get_or (words_in cs j) k (pos 0)) → xs ≡ words_in cs j
words_written cs xs i j long all each =
    let e : length (words_in cs j) ≡ length cs = length-map cs (λ c. word_in c j) in
    ext_get_or (pos 0) xs (words_in cs j) (long ∙ sym e) (λ k less. each k (omega (arith, long, all)))

pub word_set : (cs : List Numbers) (xs : List ℤ) (i j : ℕ) (c : Numbers) (x : ℤ) → length xs ≡ length cs → i < length cs → c ≡ get_or cs i c → x ≡ word_in c j → ((k : ℕ) → k < i → get_or xs k (pos 0) ≡ get_or (words_in cs j) k (pos 0))
    → (k : ℕ) → k < i + 1 → get_or (set xs i x) k (pos 0) ≡ get_or (words_in cs j) k (pos 0)
word_set cs xs i j c x long less at is before =
    below_more (λ k. get_or (set xs i x) k (pos 0) ≡ get_or (words_in cs j) k (pos 0)) i
    (λ k lt. let ne : k ≢ i = omega arith in get_or-set_other xs i k x (pos 0) ne ∙ before k lt)
    (get_or-set_same xs i x (pos 0) (omega (arith, long, less)) ∙ is ∙ ap (λ (d : Numbers). word_in d j) at ∙ sym (get_or-map (λ d. word_in d j) cs i c (pos 0) less))

-- ---- states

pub state_set : (P : ℕ → State → Type 0) (ss : List State) (i : ℕ) (x : State) → i < length ss → P i x → ((j : ℕ) → j < i → P j (get_or ss j no_state)) → (j : ℕ) → j < i + 1 → P j (get_or (set ss i x) j no_state)
state_set P ss i x less p h =
    below_more (λ j. P j (get_or (set ss i x) j no_state)) i
    (λ k lt. let ne : k ≢ i = omega arith in subst (P k) (sym (get_or-set_other ss i k x no_state ne)) (h k lt))
    (subst (P i) (sym (get_or-set_same ss i x no_state less)) p)

-- the turns of each row
pub last_states : (s : ℕ) (e : ExprTree) (ns : List Named) (cs : List Numbers) (envs : ℕ → Env) (out : Env) (t : Step) (shape : Shape) (from last : ℕ → Value) (count : ℕ) (old : List Named) → length cs ≤ most_words → NamesGive ns cs envs count → StandApart e envs out old ns → MeansBody t shape s e ns out
    → ((j : ℕ) → j < count → EndsWith t shape (words_in cs j) (from j) (last j)) → AreLast s e envs from last count
last_states s e ns cs envs out t shape from last count old few give apart means ends j less =
    let long : length (words_in cs j) ≡ length cs = length-map cs (λ c. word_in c j) in
    let agree : AgreeOn (IsOther e s ns) (envs j) out = record { agree = λ n f. (apart n ((uses_decides e n).1 f.0) f.2).0 j } in
    ends j less (λ v. next_of s e (envs j) v) (means (envs j) (words_in cs j) (omega (arith, few, long)) (stand_at ns cs envs count j give less) agree)

pub last_some : (r : Option (Vec State Global)) (s : ℕ) (e : ExprTree) (ns ms old : List Named) (cs ds : List Numbers) (envs : ℕ → Env) (out env : Env) (t : Step) (shape : Shape) (from : ℕ → Value) (count : ℕ) → ms ≡ ns → ds ≡ cs → env ≡ out → length cs ≤ most_words → NamesGive ns cs envs count → StandApart e envs out old ns
    → MeansBody t shape s e ms env → IfSome r (λ ss. (j : ℕ) → j < count → EndsWith t shape (words_in ds j) (from j) (state_at shape ss.items j)) → IfSome r (λ ss. AreLast s e envs from (state_at shape ss.items) count)
last_some None s e ns ms old cs ds envs out env t shape from count n d o few give apart means ends = tt
last_some (Some ss) s e ns ms old cs ds envs out env t shape from count n d o few give apart means ends =
    last_states s e ns cs envs out t shape from (state_at shape ss.items) count old few give apart
    (subst (λ (ls : List Named). MeansBody t shape s e ls out) n (subst (MeansBody t shape s e ms) o means))
    (subst (λ (ls : List Numbers). (j : ℕ) → j < count → EndsWith t shape (words_in ls j) (from j) (state_at shape ss.items j)) d ends)

pub last_from : (s : ℕ) (e : ExprTree) (envs : ℕ → Env) (from begin last : ℕ → Value) (count : ℕ) → ((j : ℕ) → begin j ≡ from j) → AreLast s e envs from last count → AreLast s e envs begin last count
last_from s e envs from begin last count same h j less = ap (λ (v : Value). turns turn_limit v (λ w. next_of s e (envs j) w)) (same j) ∙ h j less

pub starts_one : (b : Bound) (c : Numbers) (j : ℕ) → b ≡ bounds.Number c → c.kind ≡ kinds.I64 → bound_at b j ≡ state_of shapes.One (word_in c j) (word_in c j)
starts_one b c j is kind = ap (λ (x : Bound). bound_at x j) is ∙ wide_at c j kind

two_fields : (cs : List Numbers) (c d : Numbers) (j : ℕ) → length cs ≡ 2 → c ≡ get_or cs 0 c → d ≡ get_or cs 1 d → struct_at cs j ≡ pair (number_at c j) (number_at d j)
two_fields [] c d j long x y = absurd (omega (arith, long))
two_fields (a ∷ []) c d j long x y = absurd (omega (arith, long))
two_fields (a ∷ b ∷ []) c d j long x y = (λ i. pair (number_at (sym x i) j) (number_at (sym y i) j))
two_fields (a ∷ b ∷ e ∷ cs) c d j long x y = absurd (omega (arith, long))

pub starts_two : (b : Bound) (cs : Vec Numbers Global) (c d : Numbers) (j : ℕ) → b ≡ bounds.Fields cs → length cs.items ≡ 2 → c ≡ get_or cs.items 0 c → d ≡ get_or cs.items 1 d → c.kind ≡ kinds.I64 → d.kind ≡ kinds.I64
    → bound_at b j ≡ state_of (shapes.Fields 2) (word_in c j) (word_in d j)
starts_two b cs c d j is long x y first second =
    ap (λ (u : Bound). bound_at u j) is ∙ two_fields cs.items c d j long x y ∙ (λ i. pair (wide_at c j first i) (wide_at d j second i))

-- ---- the expression

pub iterate_ends : (n : ExprTree) (a : At) (e f : ExprTree) (b : Binder) (envs : ℕ → Env) (from : ℕ → Value) (shape : Shape) (ss : List State) (count : ℕ) → n ≡ iterate a e b f → IsBound e envs from count → AreLast b.sym.0 f envs from (state_at shape ss) count
    → AreEnds n envs shape ss count
iterate_ends n a e f b envs from shape ss count is start last j less =
    ap (λ (m : ExprTree). eval m (envs j)) is
    ∙ ap (λ (o : Outcome Thing). and_then (value_out o) (λ v. map_out plain (turns turn_limit v (λ w. next_of b.sym.0 f (envs j) w)))) (start j less)
    ∙ ap (map_out plain) (last j less)

pub one_numbers : (r : Option Numbers) (n : ExprTree) (envs : ℕ → Env) (shape : Shape) (ss : List State) (count : ℕ) → AreEnds n envs shape ss count → MayGive (λ j v. v ≡ state_at shape ss j) r count → MayBeNumbers n envs r count
one_numbers None n envs shape ss count ends h = tt
one_numbers (Some c) n envs shape ss count ends h = record {
  long = h.long;
  each = λ j less. ends j less ∙ ap (λ (v : Value). done (plain v)) (sym (h.each j less));
}

pub field_of_ends : (r : Option Numbers) (n : ExprTree) (a : At) (k : ℕ) (e : ExprTree) (envs : ℕ → Env) (shape : Shape) (ss : List State) (count : ℕ) → n ≡ one a (field k) e → AreEnds e envs shape ss count → MayGive (λ j v. IsFieldOf k (state_at shape ss j) v) r count
    → MayBeNumbers n envs r count
field_of_ends None n a k e envs shape ss count is ends h = tt
field_of_ends (Some c) n a k e envs shape ss count is ends h = record {
  long = h.long;
  each = λ j less.
      ap (λ (m : ExprTree). eval m (envs j)) is ∙ ap (λ (o : Outcome Thing). and_then o (one_thing (field k))) (ends j less)
      ∙ ap (map_out plain) (h.each j less);
}

pub part_field : (r : Option Numbers) (ss : List State) (shape : Shape) (second : Bool) (n k count : ℕ) → shape ≡ shapes.Fields n → k ≡ (if second then 1 else 0) → MayGive (λ j v. v ≡ number kinds.I64 (part_at second ss j)) r count → MayGive (λ j v. IsFieldOf k (state_at shape ss j) v) r count
part_field r ss shape second n k count is at h = may_map (λ j v. v ≡ number kinds.I64 (part_at second ss j)) (λ j v. IsFieldOf k (state_at shape ss j) v) r count
    (λ j v q. ap (λ (i : ℕ). value_field i (state_at shape ss j)) at ∙ ap (λ (s : Shape). value_field (if second then 1 else 0) (state_at s ss j)) is ∙ part second j ∙ ap done (sym q)) h
  where
    part : (b : Bool) (j : ℕ) → value_field (if b then 1 else 0) (state_at (shapes.Fields n) ss j) ≡ done (number kinds.I64 (part_at b ss j))
    part true j = refl
    part false j = refl

pub one_bound : (b : Bound) (c : Numbers) (ss : List State) (count : ℕ) → b ≡ bounds.Number c → AreGiven (λ j v. v ≡ number kinds.I64 (part_at false ss j)) c count → (j : ℕ) → j < count → bound_at b j ≡ state_at shapes.One ss j
one_bound b c ss count is h j less = ap (λ (u : Bound). bound_at u j) is ∙ h.each j less

pub two_bound : (b : Bound) (c d : Numbers) (ss : List State) (n count : ℕ) → ((j : ℕ) → bound_at b j ≡ pair (number_at c j) (number_at d j)) → AreGiven (λ j v. v ≡ number kinds.I64 (part_at false ss j)) c count → AreGiven (λ j v. v ≡ number kinds.I64 (part_at true ss j)) d count
    → (j : ℕ) → j < count → bound_at b j ≡ state_at (shapes.Fields n) ss j
two_bound b c d ss n count is h k j less = is j ∙ (λ i. pair (h.each j less i) (k.each j less i))

pub ends_bound : (n : ExprTree) (envs : ℕ → Env) (shape : Shape) (ss : List State) (b : Bound) (count : ℕ) → AreEnds n envs shape ss count → ((j : ℕ) → j < count → bound_at b j ≡ state_at shape ss j) → IsBound n envs (bound_at b) count
ends_bound n envs shape ss b count ends h j less = ends j less ∙ ap (λ (v : Value). done (plain v)) (sym (h j less))
