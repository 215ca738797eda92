-- Names of the rows that the body of an `iterate` uses, with their columns.
use Rattle.std.proofs.Common.{◌≡◌, ◌≢◌, ℕ, zero, suc, ◌+◌, ◌-◌, ◌*◌, ◌/◌, ◌%◌, ◌<◌, ◌==◌, ◌||◌, ◌++◌, ◌∷◌, [], Bool, true, false, List, length, get_or, ℤ, Option, Some, Bor, refl, sym, ap, subst, ◌∙◌, arith}
use Rattle.std.proofs.lemmas.Bool.{eq-eqb}
use Rattle.std.proofs.Math.Nat.{div-add-mod, mod-lt}
use Rattle.std.proofs.lemmas.List.{append_assoc, append-nil, length-append, length-map}
use Rattle.weld_data.specs.declared.kind.Kind.{Kind}
use Rattle.weld_data.specs.declared.kind.Kind.TheVariants as kinds
use Rattle.weld_data.specs.Value.{Value, Values, number, list, struct, dict, no_values, and_value}
use Rattle.weld_tree.specs.declared.sym.Sym.{Sym}
use Rattle.weld_tree.specs.ExprTree.{ExprTree}
use Rattle.weld_builders.specs.Outcome.{Outcome, done, fault, stuck, and_then, map_out}
use Rattle.weld_meaning.specs.Environment.{look_for}
use Rattle.weld_meaning.specs.Evaluation.{Env, found}
use Rattle.weld_meaning.specs.Thing.{Thing, plain, field_of, value_at}
use Rattle.weld_acts.specs.Test.{uses}
use Rattle.weld_eval.specs.FrameView.{env_of}
use Rattle.weld_eval.specs.Word.{of_word}
use Rattle.weld_turns.specs.OnRows.{has_name, words_for, HasNumbers, IsSeen, Stand}
use Rattle.weld_turns.specs.Scopes.{is_odd}
use Rattle.weld_turns.specs.StepView.{words_of}
use Rattle.weld_turns.specs.declared.code.Named.{Named}
use Rattle.weld_turns.specs.declared.code.Seen.{Seen}
use Rattle.weld_turns.specs.declared.code.Seen.TheVariants.{Number, Fields}
use Rattle.weld_blocks.specs.Numbers.{number_at, AreGiven}
use Rattle.weld_blocks.specs.Scope.{bound_at, row_env, scope_env}
use Rattle.weld_blocks.specs.Structs.{AreCounted}
use Rattle.weld_blocks.specs.Turned.{outer_env, outer_step, word_in, words_in, AreTaken, IsFieldColumn, IsNoted, IsValue, NameGives, NamesGive, StandApart, TakesFields}
use Rattle.weld_blocks.specs.declared.numbers.Numbers.{Numbers}
use Rattle.weld_blocks.specs.declared.scope.Bound.{Bound}
use Rattle.weld_blocks.specs.declared.scope.Rows.{Rows}
use Rattle.weld_blocks.specs.declared.scope.Scope.{Scope}
use Rattle.weld_blocks.specs.declared.scope.Scope.TheFolds.{fold-roll-Scope}
use Rattle.weld_blocks.specs.declared.scope.Scope.TheVariants as scopes
use Rattle.weld_blocks.proofs.LeafLemmas.{let_here, let_past, middle_env, outer_env as below_env, past, row_thing, scope_row_here, scope_rows}
use Rattle.weld_blocks.proofs.PickLemmas.{scope_picked}

-- ---- what stands outside

pub outer_let : (sc : Scope) (b : Sym) (c : Bor Bound) (r : Bor Scope) → sc ≡ scopes.Let b c r → outer_env sc ≡ outer_env r.now
outer_let sc b c r e = ap outer_env (e ∙ sym (scopes.rolls-Let b c r)) ∙ fold-roll-Scope Env outer_step _

pub outer_rows : (sc : Scope) (r : Bor Rows) → sc ≡ scopes.Rows r → outer_env sc ≡ env_of r.now.frame.now
outer_rows sc r e = ap outer_env (e ∙ sym (scopes.rolls-Rows r)) ∙ fold-roll-Scope Env outer_step _

pub outer_picked : (sc : Scope) (ps : Bor (List ℕ)) (t : ℕ) (r : Bor Scope) → sc ≡ scopes.Picked ps t r → outer_env sc ≡ outer_env r.now
outer_picked sc ps t r e = ap outer_env (e ∙ sym (scopes.rolls-Picked ps t r)) ∙ fold-roll-Scope Env outer_step _

-- ---- one name

pub unused_noted : (e : ExprTree) (s : ℕ) (old : List Named) → uses e s ≡ false → IsNoted e s old old
unused_noted e s old free n u h = ((λ q. let bad : true ≡ false = sym u ∙ ap (uses e) q ∙ free in absurd (let f : ⊥ = cc in f)), h)

pushed : (n : ℕ) (x : Named) (old : List Named) → has_name n (old ++ x ∷ []) ≡ false → (n ≢ x.name.0) × (has_name n old ≡ false)
pushed n x [] h = ((λ q. let there : (n == x.name.0) ≡ true = eq-eqb n x.name.0 q in by (n == x.name.0) there h), refl)
  where
    by : (b : Bool) → b ≡ true → (b || false) ≡ false → ⊥
    by true p q = let bad : true ≡ false = q in let f : ⊥ = cc in f
    by false p q = let bad : false ≡ true = p in let f : ⊥ = cc in f
pushed n x (s ∷ ss) h = by (n == s.name.0) refl h (pushed n x ss)
  where
    by : (b : Bool) → (n == s.name.0) ≡ b → (b || has_name n (ss ++ x ∷ [])) ≡ false → (has_name n (ss ++ x ∷ []) ≡ false → (n ≢ x.name.0) × (has_name n ss ≡ false)) → (n ≢ x.name.0) × ((b || has_name n ss) ≡ false)
    by true e q rest = absurd (let bad : true ≡ false = q in let f : ⊥ = cc in f)
    by false e q rest = rest q

pub pushed_noted : (e : ExprTree) (x : Named) (old new : List Named) → new ≡ old ++ x ∷ [] → IsNoted e x.name.0 old new
pushed_noted e x old new is n u h = pushed n x old (ap (has_name n) (sym is) ∙ h)

-- ---- names of values

pub value_here : (sc : Scope) (b : Sym) (c : Bor Bound) (p : Bor Scope) (s : ℕ) → sc ≡ scopes.Let b c p → b.0 ≡ s → (j : ℕ) → IsValue (look_for s (scope_env sc j))
value_here sc b c p s is same j = (bound_at c.now j, let_here sc b c p s j is same)

pub value_below : (sc : Scope) (b : Sym) (c : Bor Bound) (p : Bor Scope) (s : ℕ) → sc ≡ scopes.Let b c p → b.0 ≢ s → ((j : ℕ) → IsValue (look_for s (scope_env p.now j))) → (j : ℕ) → IsValue (look_for s (scope_env sc j))
value_below sc b c p s is other h j = ((h j).0, let_past sc b c p s j is other ∙ (h j).1)

pub value_of_rows : (sc : Scope) (p : Bor Rows) (s : ℕ) → sc ≡ scopes.Rows p → p.now.row_name.0 ≡ s → (j : ℕ) → IsValue (look_for s (scope_env sc j))
value_of_rows sc p s is same j = let v : (v : Value) × (row_thing p.now j ≡ plain v) = (_, refl) in (v.0, scope_row_here sc p s j is same ∙ ap Some v.1)

pub value_picked : (sc : Scope) (ps : Bor (List ℕ)) (t : ℕ) (p : Bor Scope) (s : ℕ) → sc ≡ scopes.Picked ps t p → ((j : ℕ) → IsValue (look_for s (scope_env p.now j))) → (j : ℕ) → IsValue (look_for s (scope_env sc j))
value_picked sc ps t p s is h j = ((h (get_or ps.now j 0)).0, ap (look_for s) (scope_picked sc ps t p j is) ∙ (h (get_or ps.now j 0)).1)

-- ---- columns that are appended

pub no_fields : (bits k s : ℕ) (old : List Numbers) (envs : ℕ → Env) (count : ℕ) → bits ≡ 0 → TakesFields bits k s old old envs count
no_fields bits k s old envs count none = ([], sym (append-nil old), none)

pub one_taken : (bits k s : ℕ) (old mid new : List Numbers) (c : Numbers) (envs : ℕ → Env) (count : ℕ) → (bits ≡ 0 → ⊥) → mid ≡ old ++ c ∷ [] → IsFieldColumn (is_odd bits) k s c envs count → TakesFields (bits / 2) (k + 1) s mid new envs count
    → TakesFields bits k s old new envs count
one_taken bits k s old mid new c envs count some is h rest = (
  c ∷ rest.0,
  rest.1 ∙ ap (λ (l : List Numbers). l ++ rest.0) is ∙ append_assoc old (c ∷ []) rest.0,
  (some, h, subst (λ (i : ℕ). AreTaken (bits / 2) i s rest.0 envs count) (omega arith) rest.2),
)

gives_more : (ss : List Named) (cs : List Numbers) (x : Named) (here : List Numbers) (envs : ℕ → Env) (count : ℕ) → NamesGive ss cs envs count → NameGives x.name.0 x.seen here envs count → NamesGive (ss ++ x ∷ []) (cs ++ here) envs count
gives_more [] cs x here envs count h k = (here, [], ap (λ (l : List Numbers). l ++ here) h ∙ sym (append-nil here), k, refl)
gives_more (s ∷ ss) cs x here envs count (first, rest, is, g, more) k =
    (first, rest ++ here, ap (λ (l : List Numbers). l ++ here) is ∙ append_assoc first rest here, g, gives_more ss rest x here envs count more k)

pub number_gives : (ss ts : List Named) (cs ds : List Numbers) (x : Named) (s : Sym) (c : Numbers) (envs : ℕ → Env) (count : ℕ) → x ≡ record { name = s; seen = Number } → NamesGive ss cs envs count → ts ≡ ss ++ x ∷ [] → ds ≡ cs ++ c ∷ [] → c.kind ≡ kinds.I64
    → AreGiven (λ j v. look_for s.0 (envs j) ≡ Some (plain v)) c count → NamesGive ts ds envs count
number_gives ss ts cs ds x s c envs count made h t d kind given =
    subst (λ (l : List Named). NamesGive l ds envs count) (sym t) (subst (λ (l : List Numbers). NamesGive (ss ++ x ∷ []) l envs count) (sym d)
    (gives_more ss cs x (c ∷ []) envs count h (subst (λ (y : Named). NameGives y.name.0 y.seen (c ∷ []) envs count) (sym made) (c, refl, kind, given))))

pub fields_give : (ss ts : List Named) (cs ds : List Numbers) (x : Named) (s : Sym) (n bits : ℕ) (envs : ℕ → Env) (count : ℕ) → (bits ≡ 0 → ⊥) → x ≡ record { name = s; seen = Fields n bits } → n ≡ length ds - length cs → NamesGive ss cs envs count → ts ≡ ss ++ x ∷ []
    → TakesFields bits 0 s.0 cs ds envs count → ((j : ℕ) → IsValue (look_for s.0 (envs j))) → NamesGive ts ds envs count
fields_give ss ts cs ds x s n bits envs count some made many h t taken values =
    let all : length ds ≡ length cs + length taken.0 = ap length taken.1 ∙ length-append cs taken.0 in
    let exact : n ≡ length taken.0 = omega (arith, many, all) in
    subst (λ (l : List Named). NamesGive l ds envs count) (sym t) (subst (λ (l : List Numbers). NamesGive (ss ++ x ∷ []) l envs count) (sym taken.1)
    (gives_more ss cs x taken.0 envs count h (subst (λ (y : Named). NameGives y.name.0 y.seen taken.0 envs count) (sym made) (exact, some, values, taken.2))))

-- ---- all names

pub noted_let : (e : ExprTree) (sc : Scope) (b : Sym) (c : Bor Bound) (r : Bor Scope) (old mid new : List Named) → sc ≡ scopes.Let b c r → IsNoted e b.0 old mid → StandApart e (scope_env r.now) (outer_env r.now) mid new → StandApart e (scope_env sc) (outer_env sc) old new
noted_let e sc b c r old mid new is noted apart n u h =
    let below = apart n u h in
    let at = noted n u below.1 in
    ((λ j. let_past sc b c r n j is (λ q. at.0 (sym q)) ∙ below.0 j ∙ ap (look_for n) (sym (outer_let sc b c r is))), at.1)

pub noted_picked : (e : ExprTree) (sc : Scope) (ps : Bor (List ℕ)) (t : ℕ) (r : Bor Scope) (old new : List Named) → sc ≡ scopes.Picked ps t r → StandApart e (scope_env r.now) (outer_env r.now) old new → StandApart e (scope_env sc) (outer_env sc) old new
noted_picked e sc ps t r old new is apart n u h =
    let below = apart n u h in
    ((λ j. ap (look_for n) (scope_picked sc ps t r j is) ∙ below.0 (get_or ps.now j 0) ∙ ap (look_for n) (sym (outer_picked sc ps t r is))), below.1)

pub noted_rows : (e : ExprTree) (sc : Scope) (r : Bor Rows) (old new : List Named) → sc ≡ scopes.Rows r → StandApart e (row_env r.now) (env_of r.now.frame.now) old new → StandApart e (scope_env sc) (outer_env sc) old new
noted_rows e sc r old new is apart n u h =
    let below = apart n u h in
    ((λ j. ap (look_for n) (scope_rows sc r j is) ∙ below.0 j ∙ ap (look_for n) (sym (outer_rows sc r is))), below.1)

pub three_noted : (e : ExprTree) (r : Rows) (old mid more new : List Named) → IsNoted e r.own_name.0 old mid → IsNoted e r.count_name.0 mid more → IsNoted e r.row_name.0 more new → StandApart e (row_env r) (env_of r.frame.now) old new
three_noted e r old mid more new own count row n u h =
    let x = row n u h in
    let y = count n u x.1 in
    let z = own n u y.1 in (
      (λ j. past n r.row_name.0 (row_thing r j) (middle_env r j) (λ q. x.0 (sym q)) ∙ past n r.count_name.0 _ (below_env r) (λ q. y.0 (sym q)) ∙ past n r.own_name.0 _ (env_of r.frame.now) (λ q. z.0 (sym q))),
      z.1,
    )

-- ---- the words of a row

counted_taken : (bits k s : ℕ) (cs : List Numbers) (envs : ℕ → Env) (count : ℕ) → AreTaken bits k s cs envs count → AreCounted cs count
counted_taken bits k s [] envs count h = tt
counted_taken bits k s (c ∷ cs) envs count h = (h.1.0, counted_taken (bits / 2) (suc k) s cs envs count h.2)

counted_name : (s : ℕ) (seen : Seen) (cs : List Numbers) (envs : ℕ → Env) (count : ℕ) → NameGives s seen cs envs count → AreCounted cs count
counted_name s Number cs envs count h = subst (λ (l : List Numbers). AreCounted l count) (sym h.1) (h.3.long, tt)
counted_name s (Fields n bits) cs envs count h = counted_taken bits 0 s cs envs count h.3

counted_both : (cs ds : List Numbers) (count : ℕ) → AreCounted cs count → AreCounted ds count → AreCounted (cs ++ ds) count
counted_both [] ds count h k = k
counted_both (c ∷ cs) ds count h k = (h.0, counted_both cs ds count h.1 k)

pub counted : (ss : List Named) (cs : List Numbers) (envs : ℕ → Env) (count : ℕ) → NamesGive ss cs envs count → AreCounted cs count
counted [] cs envs count h = subst (λ (l : List Numbers). AreCounted l count) (sym h) tt
counted (s ∷ ss) cs envs count (here, rest, is, g, more) = subst (λ (l : List Numbers). AreCounted l count) (sym is) (counted_both here rest count (counted_name s.name.0 s.seen here envs count g) (counted ss rest envs count more))

-- the number of a column of kind i64
pub wide_at : (c : Numbers) (j : ℕ) → c.kind ≡ kinds.I64 → number_at c j ≡ number kinds.I64 (word_in c j)
wide_at c j e = ap (λ (k : Kind). number k (of_word k (word_in c j))) e

-- the words from a place on are those of the columns
abbrev HasThose : List Numbers → ℕ → List ℤ → ℕ → Type 0
HasThose [] at xs j = Unit {0}
HasThose (c ∷ cs) at xs j = (words_of xs at ≡ word_in c j) × HasThose cs (suc at) xs j

those_behind : (cs : List Numbers) (at : ℕ) (x : ℤ) (xs : List ℤ) (j : ℕ) → HasThose cs at xs j → HasThose cs (suc at) (x ∷ xs) j
those_behind [] at x xs j h = tt
those_behind (c ∷ cs) at x xs j h = (h.0, those_behind cs (suc at) x xs j h.1)

all_those : (cs : List Numbers) (j : ℕ) → HasThose cs 0 (words_in cs j) j
all_those [] j = tt
all_those (c ∷ cs) j = (refl, those_behind cs 0 (word_in c j) (words_in cs j) j (all_those cs j))

first_those : (cs ds : List Numbers) (at : ℕ) (xs : List ℤ) (j : ℕ) → HasThose (cs ++ ds) at xs j → HasThose cs at xs j × HasThose ds (at + length cs) xs j
first_those [] ds at xs j h = (tt, subst (λ (i : ℕ). HasThose ds i xs j) (omega arith) h)
first_those (c ∷ cs) ds at xs j h = let rest = first_those cs ds (suc at) xs j h.1 in ((h.0, rest.0), subst (λ (i : ℕ). HasThose ds i xs j) (omega arith) rest.1)

-- ---- the fields of a struct

done_field : (k : ℕ) (v : Value) (us : Values) → and_then (found (Some (plain (struct us)))) (field_of k) ≡ done (plain v) → value_at k us ≡ done v
done_field k v us is = by (value_at k us) is
  where
    by : (o : Outcome Value) → map_out plain o ≡ done (plain v) → o ≡ done v
    by (done u) q = let same : u ≡ v = cc in ap done same
    by fault q = let none : ⊥ = cc in absurd none
    by stuck q = let none : ⊥ = cc in absurd none

half_zero : (bits : ℕ) → is_odd bits ≡ false → bits / 2 ≡ 0 → bits ≡ 0
half_zero bits even none =
    let sum : 2 * (bits / 2) + bits % 2 ≡ bits = div-add-mod bits 2 in
    let less : bits % 2 < 2 = mod-lt bits (omega arith) in
    let one : bits % 2 ≡ 1 → ⊥ = (λ q. let bad : false ≡ true = sym even ∙ eq-eqb (bits % 2) 1 q in let absurdity : ⊥ = cc in absurdity) in
    let zeros : bits % 2 ≡ 0 = no_one (bits % 2) less one in
    omega (arith, sum, none, zeros)
  where
    no_one : (m : ℕ) → m < 2 → (m ≡ 1 → ⊥) → m ≡ 0
    no_one zero less n = refl
    no_one (suc zero) less n = absurd (n refl)
    no_one (suc (suc m)) less n = absurd (omega (arith, less))

-- where bits are set one of the fields is there
some_field : (bits k s j : ℕ) (cs : List Numbers) (envs : ℕ → Env) (count : ℕ) → (bits ≡ 0 → ⊥) → j < count → AreTaken bits k s cs envs count → (i : ℕ) × (u : Value) × (and_then (found (look_for s (envs j))) (field_of (k + i)) ≡ done (plain u))
some_field bits k s j [] envs count some less h = absurd (some h)
some_field bits k s j (c ∷ cs) envs count some less h = by (is_odd bits) refl (λ more. some_field (bits / 2) (suc k) s j cs envs count more less h.2)
  where
    by : (b : Bool) → is_odd bits ≡ b → ((bits / 2 ≡ 0 → ⊥) → (i : ℕ) × (u : Value) × (and_then (found (look_for s (envs j))) (field_of (suc k + i)) ≡ done (plain u)))
        → (i : ℕ) × (u : Value) × (and_then (found (look_for s (envs j))) (field_of (k + i)) ≡ done (plain u))
    by true odd later = (0, number_at c j, ap (λ (i : ℕ). and_then (found (look_for s (envs j))) (field_of i)) (omega arith) ∙ (h.1.1 odd).1 j less)
    by false even later =
        let rest = later (λ q. some (half_zero bits even q)) in
        (suc rest.0, rest.1, ap (λ (i : ℕ). and_then (found (look_for s (envs j))) (field_of i)) (omega arith) ∙ rest.2)

numbers_there : (bits k s j at : ℕ) (cs : List Numbers) (envs : ℕ → Env) (count : ℕ) (us vs : Values) (xs : List ℤ) → j < count → look_for s (envs j) ≡ Some (plain (struct us)) → ((i : ℕ) → value_at (k + i) us ≡ value_at i vs) → AreTaken bits k s cs envs count
    → HasThose cs at xs j → HasNumbers (length cs) bits at xs vs
numbers_there bits k s j at [] envs count us vs xs less is same h those = tt
numbers_there bits k s j at (c ∷ cs) envs count us no_values xs less is same h those =
    let there = some_field bits k s j (c ∷ cs) envs count h.0 less h in
    let bad : stuck ≡ done there.1 = sym (same there.0) ∙ done_field (k + there.0) there.1 us (ap (λ o. and_then (found o) (field_of (k + there.0))) (sym is) ∙ there.2) in
    let none : ⊥ = cc in absurd none
numbers_there bits k s j at (c ∷ cs) envs count us (and_value v vs) xs less is same h those = (
  (λ odd.
      let taken = h.1.1 odd in
      let here : value_at k us ≡ done (number_at c j) = done_field k (number_at c j) us (ap (λ o. and_then (found o) (field_of k)) (sym is) ∙ taken.1 j less) in
      let start : value_at (k + 0) us ≡ done v = same 0 in
      let both : done v ≡ done (number_at c j) = sym start ∙ ap (λ (i : ℕ). value_at i us) (omega arith) ∙ here in
      let equal : v ≡ number_at c j = cc in
      equal ∙ wide_at c j taken.0 ∙ ap (number kinds.I64) (sym those.0)),
  numbers_there (bits / 2) (suc k) s j (suc at) cs envs count us vs xs less is (λ i. ap (λ (n : ℕ). value_at n us) (omega arith) ∙ same (suc i)) h.2 those.1,
)

-- ---- the names stand for what they are seen as

whole_struct : (k : ℕ) (v : Value) (o : Option Thing) (u : Value) → o ≡ Some (plain v) → and_then (found o) (field_of k) ≡ done (plain u) → (us : Values) × (v ≡ struct us)
whole_struct k (number z x) o u is h = let none : stuck ≡ done (plain u) = ap (λ p. and_then (found p) (field_of k)) (sym is) ∙ h in let bad : ⊥ = cc in absurd bad
whole_struct k (list vs) o u is h = let none : stuck ≡ done (plain u) = ap (λ p. and_then (found p) (field_of k)) (sym is) ∙ h in let bad : ⊥ = cc in absurd bad
whole_struct k (struct vs) o u is h = (vs, refl)
whole_struct k (dict es) o u is h = let none : stuck ≡ done (plain u) = ap (λ p. and_then (found p) (field_of k)) (sym is) ∙ h in let bad : ⊥ = cc in absurd bad

seen_at : (s : ℕ) (seen : Seen) (cs : List Numbers) (envs : ℕ → Env) (count j at : ℕ) (xs : List ℤ) → NameGives s seen cs envs count → j < count → HasThose cs at xs j → IsSeen seen at xs (look_for s (envs j))
seen_at s Number cs envs count j at xs (c, is, kind, given) less those =
    let there : HasThose (c ∷ []) at xs j = subst (λ (l : List Numbers). HasThose l at xs j) is those in
    given.each j less ∙ ap (λ (v : Value). Some (plain v)) (wide_at c j kind ∙ ap (number kinds.I64) (sym there.0))
seen_at s (Fields n bits) cs envs count j at xs (exact, some, values, taken) less those =
    let there = some_field bits 0 s j cs envs count some less taken in
    let v = values j in
    let whole = whole_struct (0 + there.0) v.0 (look_for s (envs j)) there.1 v.1 there.2 in
    let is : look_for s (envs j) ≡ Some (plain (struct whole.0)) = v.1 ∙ ap (λ (u : Value). Some (plain u)) whole.1 in
    (whole.0, is, subst (λ (m : ℕ). HasNumbers m bits at xs whole.0) (sym exact) (numbers_there bits 0 s j at cs envs count whole.0 whole.0 xs less is (λ i. ap (λ (m : ℕ). value_at m whole.0) (omega arith)) taken those))

words_many : (s : ℕ) (seen : Seen) (cs : List Numbers) (envs : ℕ → Env) (count : ℕ) → NameGives s seen cs envs count → length cs ≡ words_for seen
words_many s Number cs envs count h = ap length h.1
words_many s (Fields n bits) cs envs count h = sym h.0

stand_from : (ss : List Named) (cs : List Numbers) (envs : ℕ → Env) (count j at : ℕ) (xs : List ℤ) → NamesGive ss cs envs count → j < count → HasThose cs at xs j → at + length cs ≡ length xs → Stand ss at xs (envs j)
stand_from [] cs envs count j at xs h less those long = let none : length cs ≡ 0 = ap length h in omega (arith, none, long)
stand_from (s ∷ ss) cs envs count j at xs (here, rest, is, g, more) less those long =
    let both = first_those here rest at xs j (subst (λ (l : List Numbers). HasThose l at xs j) is those) in
    let many : length here ≡ words_for s.seen = words_many s.name.0 s.seen here envs count g in
    let all : length cs ≡ length here + length rest = ap length is ∙ length-append here rest in (
      seen_at s.name.0 s.seen here envs count j at xs g less both.0,
      stand_from ss rest envs count j (at + words_for s.seen) xs more less (subst (λ (i : ℕ). HasThose rest (at + i) xs j) many both.1) (omega (arith, many, all, long)),
    )

pub stand_at : (ss : List Named) (cs : List Numbers) (envs : ℕ → Env) (count j : ℕ) → NamesGive ss cs envs count → j < count → Stand ss 0 (words_in cs j) (envs j)
stand_at ss cs envs count j h less =
    let long : length (words_in cs j) ≡ length cs = length-map cs (λ c. word_in c j) in
    stand_from ss cs envs count j 0 (words_in cs j) h less (all_those cs j) (omega (arith, long))
