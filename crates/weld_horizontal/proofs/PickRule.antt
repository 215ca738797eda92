-- A field of a struct that is made there of plain expressions may be rewritten to the expression of that field.
use Rattle.std.proofs.Common.{◌≡◌, ℕ, zero, suc, Bool, true, false, if◌then◌else◌, ◌&&◌, ◌||◌, refl, ap, sym, subst, ◌∙◌, arith, ◌⊎◌, inl, inr}
use Rattle.weld_data.specs.Value.{Value, Values, no_values, and_value}
use Rattle.weld_tree.specs.TypeTree.{TypeTree, TypeTrees, struct, no_types, more_types}
use Rattle.weld_tree.specs.Types.{IsBuilder, IsBuilderFree, AreBuilderFree, AreBuilders}
use Rattle.weld_tree.specs.ExprTree.{At, ExprTree, leaf, one, two, three, many, let_in, loop, iterate, ExprTrees, no_exprs, more_exprs, neg, not, cast, len, field, finish, started, make_vec, make_struct}
use Rattle.weld_tree.specs.Program.{IsWellMade, AreWellMade}
use Rattle.weld_builders.specs.Outcome.{Outcome, done, fault, stuck, and_then, map_out}
use Rattle.weld_meaning.specs.Environment.{Named}
use Rattle.weld_meaning.specs.Thing.{Thing, plain, Things, no_things, more_things, as_values, struct_from, struct_of, value_at, field_of}
use Rattle.weld_meaning.specs.ThingType.{EnvFits}
use Rattle.weld_meaning.specs.Typing.{Types, IsField, AreFormed, HasType, HaveTypes}
use Rattle.weld_meaning.specs.Evaluation.{Env, eval, eval_all}
use Rattle.weld_meaning.specs.Meaning.{GivesOrFaults}
use Rattle.weld_meaning.specs.Origin.{Path, Origin, value, made, own, outer, named, struct as struct_of_origins, origin_at, field_origin, is_value, are_values, struct_origin, origin_of_name, origin, origins}
use Rattle.weld_meaning.specs.Linear.{Keeps, AllKeep}
use Rattle.weld_meaning.specs.Available.{takes, some_take, Splits, AllSplit}
use Rattle.weld_meaning.specs.Names.{IsFree, AreFree}
use Rattle.weld_meaning.proofs.Good.{value_of_thing, free_value_type}
use Rattle.weld_meaning.proofs.WellFormed.{type_formed}
use Rattle.weld_meaning.specs.Forms.{HasForm}
use Rattle.weld_meaning.proofs.OriginTypes.{origin_forms, not_both}
use Rattle.weld_meaning.proofs.PartsGood.{KeyLaws}
use Rattle.weld_meaning.proofs.NeverStuck.{Of, never_stuck}
use Rattle.weld_check_types.specs.Notes.{AreNoted, AllAreNoted}
use Rattle.weld_print.specs.Spellable.{IsSpellable, AreSpellable}
use Rattle.weld_rewriting.specs.Placed.{IsPlaced}
use Rattle.weld_rewriting.specs.Within.{StaysWithin}
use Rattle.weld_rewriting.specs.Rewriting.{Rewrites}
use Rattle.weld_rewriting.proofs.Forms.{chain_value}
use Rattle.weld_substitution.specs.Redex.{is_plain}
use Rattle.weld_substitution.proofs.Chains.{plain_by, chain_only}
use Rattle.weld_substitution.proofs.PlainFacts.{plain_holds, plain_gives}
use Rattle.weld_substitution.proofs.Values.{plain_idle}
use Rattle.weld_horizontal.specs.Picked.{all_plain, has_nth, nth_or, is_pick, picked}

both : (a b : Bool) → (a && b) ≡ true → (a ≡ true) × (b ≡ true)
both true b h = (refl, h)
both false b h = let nothing : ⊥ = cc in absurd nothing

-- ---- the one of a number

-- what each of them has, that one has
by_place : (P : ExprTree → Type 0) (Q : ExprTrees → Type 0) → ((e : ExprTree) (es : ExprTrees) → Q (more_exprs e es) → P e) → ((e : ExprTree) (es : ExprTrees) → Q (more_exprs e es) → Q es) → (d : ExprTree) (n : ℕ) (es : ExprTrees) → has_nth n es ≡ true → Q es → P (nth_or d n es)
by_place P Q f k d n no_exprs h q = let nothing : ⊥ = cc in absurd nothing
by_place P Q f k d zero (more_exprs e es) h q = f e es q
by_place P Q f k d (suc n) (more_exprs e es) h q = by_place P Q f k d n es h (k e es q)

nth_plain : (d : ExprTree) (n : ℕ) (es : ExprTrees) → has_nth n es ≡ true → all_plain es ≡ true → is_plain (nth_or d n es) ≡ true
nth_plain d n es h k =
    by_place (λ e. is_plain e ≡ true) (λ es. all_plain es ≡ true) (λ e es q. (both (is_plain e) (all_plain es) q).0) (λ e es q. (both (is_plain e) (all_plain es) q).1) d n es h k

nth_free : (d : ExprTree) (n : ℕ) (es : ExprTrees) (t : ℕ) → has_nth n es ≡ true → IsFree (nth_or d n es) t → AreFree es t
nth_free d n no_exprs t h f = let nothing : ⊥ = cc in absurd nothing
nth_free d zero (more_exprs e es) t h f = inl f
nth_free d (suc n) (more_exprs e es) t h f = inr (nth_free d n es t h f)

nth_typed : (d : ExprTree) (n : ℕ) (es : ExprTrees) (g : Types) (us : TypeTrees) (t : TypeTree) → HaveTypes es g us → IsField n us t → HasType (nth_or d n es) g t
nth_typed d n no_exprs g no_types t h f = absurd f
nth_typed d n no_exprs g (more_types u us) t h f = absurd h
nth_typed d n (more_exprs e es) g no_types t h f = absurd h
nth_typed d zero (more_exprs e es) g (more_types u us) t h f = subst (HasType e g) (sym f) h.0
nth_typed d (suc n) (more_exprs e es) g (more_types u us) t h f = nth_typed d n es g us t h.1 f

nth_builder : (n : ℕ) (us : TypeTrees) (t : TypeTree) → AreBuilders us → IsField n us t → IsBuilder t
nth_builder n no_types t b f = absurd f
nth_builder zero (more_types u us) t b f = subst IsBuilder (sym f) b.0
nth_builder (suc n) (more_types u us) t b f = nth_builder n us t b.1 f

-- ---- origins

is_value_so : (o : Origin) → is_value o ≡ true → o ≡ value
is_value_so value h = refl
is_value_so made h = let nothing : ⊥ = cc in absurd nothing
is_value_so (own p) h = let nothing : ⊥ = cc in absurd nothing
is_value_so outer h = let nothing : ⊥ = cc in absurd nothing
is_value_so (named s p) h = let nothing : ⊥ = cc in absurd nothing
is_value_so (struct_of_origins os) h = let nothing : ⊥ = cc in absurd nothing

nth_origin : (d : ExprTree) (n : ℕ) (es : ExprTrees) (g : Named Origin) → has_nth n es ≡ true → origin (nth_or d n es) g ≡ origin_at n (origins es g)
nth_origin d n no_exprs g h = let nothing : ⊥ = cc in absurd nothing
nth_origin d zero (more_exprs e es) g h = refl
nth_origin d (suc n) (more_exprs e es) g h = nth_origin d n es g h

nth_value_origin : (d : ExprTree) (n : ℕ) (es : ExprTrees) (g : Named Origin) → has_nth n es ≡ true → are_values (origins es g) ≡ true → origin (nth_or d n es) g ≡ value
nth_value_origin d n es g h k =
    by_place (λ e. origin e g ≡ value) (λ es. are_values (origins es g) ≡ true)
    (λ e es q. is_value_so (origin e g) (both (is_value (origin e g)) (are_values (origins es g)) q).0) (λ e es q. (both (is_value (origin e g)) (are_values (origins es g)) q).1) d n es h k

picked_origin : (d : ExprTree) (n : ℕ) (es : ExprTrees) (g : Named Origin) → has_nth n es ≡ true → origin (nth_or d n es) g ≡ field_origin n (struct_origin (origins es g))
picked_origin d n es g h = by (are_values (origins es g)) refl
  where
    by : (b : Bool) → are_values (origins es g) ≡ b → origin (nth_or d n es) g ≡ field_origin n (if are_values (origins es g) then value else struct_of_origins (origins es g))
    by true k = nth_value_origin d n es g h k ∙ sym (ap (λ b. field_origin n (if b then value else struct_of_origins (origins es g))) k)
    by false k = nth_origin d n es g h ∙ sym (ap (λ b. field_origin n (if b then value else struct_of_origins (origins es g))) k)

-- ---- values

-- a plain expression of builder-free type takes nothing
plain_takes_none : (e : ExprTree) (types : Types) (g : Named Origin) (u : TypeTree) → is_plain e ≡ true → HasType e types u → IsBuilderFree u → AreFormed types → (n : (t : ℕ) → IsFree e t → origin_of_name t g ≡ value) → (s : ℕ) (q : Path) → takes e g s q ≡ false
plain_takes_none e types g u h k f w n s q = (plain_idle e h).none g (record { idle = n }) s q

plain_names : (e : ExprTree) (types : Types) (g : Named Origin) (t : TypeTree) (u : TypeTree) (d : ExprTree) → IsPlaced d types g t → is_plain e ≡ true → HasType e types u → IsBuilderFree u → (s : ℕ) → IsFree e s → origin_of_name s g ≡ value
plain_names e types g t u d p h k f =
    plain_by (λ w. HasType w types u → (s : ℕ) → IsFree w s → origin_of_name s g ≡ value)
    (λ a m x y s z. absurd z)
    (λ a b y s z. absurd z)
    (λ w c m y s z. subst (λ r. origin_of_name r g ≡ value) (sym (chain_only w c s m z)) (chain_value w c types g u m y p.formed p.forms f))
    e h k

abbrev plains : Values → Things
plains no_values = no_things
plains (and_value v vs) = more_things (plain v) (plains vs)

are_plain : (vs : Values) → as_values (plains vs) ≡ done vs
are_plain no_values = refl
are_plain (and_value v vs) = ap (map_out (and_value v)) (are_plain vs)

-- each comes to the value at its place
abbrev Give : ExprTrees → Values → Env → Type 0
Give no_exprs no_values env = Unit {0}
Give no_exprs (and_value v vs) env = ⊥
Give (more_exprs e es) no_values env = ⊥
Give (more_exprs e es) (and_value v vs) env = (eval e env ≡ done (plain v)) × Give es vs env

all_give : (es : ExprTrees) (vs : Values) (env : Env) → Give es vs env → eval_all es env ≡ done (plains vs)
all_give no_exprs no_values env h = refl
all_give no_exprs (and_value v vs) env h = absurd h
all_give (more_exprs e es) no_values env h = absurd h
all_give (more_exprs e es) (and_value v vs) env h = let k = all_give es vs env h.1 in λ i. and_then (h.0 i) (λ t. map_out (more_things t) (k i))

nth_gives : (d : ExprTree) (n : ℕ) (es : ExprTrees) (vs : Values) (env : Env) → has_nth n es ≡ true → Give es vs env → map_out plain (value_at n vs) ≡ eval (nth_or d n es) env
nth_gives d n no_exprs vs env h k = let nothing : ⊥ = cc in absurd nothing
nth_gives d n (more_exprs e es) no_values env h k = absurd k
nth_gives d zero (more_exprs e es) (and_value v vs) env h k = sym k.0
nth_gives d (suc n) (more_exprs e es) (and_value v vs) env h k = nth_gives d n es vs env h k.1

module _ (laws : KeyLaws) (types : Types) (env : Env) (formed : AreFormed types) (fit : EnvFits types env) where
  value_given : (e : ExprTree) (u : TypeTree) → is_plain e ≡ true → HasType e types u → IsBuilderFree u → (v : Value) × (eval e env ≡ done (plain v))
  value_given e u h k f = by (eval e env) refl (never_stuck laws e types u env k formed fit).fits
    where
      by : (o : Outcome Thing) → eval e env ≡ o → GivesOrFaults (Of u) o → (v : Value) × (eval e env ≡ done (plain v))
      by (done x) q g = let v = value_of_thing u x (free_value_type u f) g in (v.0, q ∙ ap done v.1)
      by fault q g = absurd (plain_gives env e h q)
      by stuck q g = absurd g

  values_given : (es : ExprTrees) (us : TypeTrees) → all_plain es ≡ true → HaveTypes es types us → AreBuilderFree us → (vs : Values) × Give es vs env
  values_given no_exprs us h k f = (no_values, tt)
  values_given (more_exprs e es) no_types h k f = absurd k
  values_given (more_exprs e es) (more_types u us) h k f =
      let b = both (is_plain e) (all_plain es) h in
      let v = value_given e u b.0 k.0 f.0 in let vs = values_given es us b.1 k.1 f.1 in (and_value v.0 vs.0, (v.1, vs.1))

-- ---- the rule

module _ (laws : KeyLaws) (a m : At) (n : ℕ) (es : ExprTrees) (there : has_nth n es ≡ true) (all : all_plain es ≡ true) where
  abbrev pattern : ExprTree
  pattern = one a (field n) (many m make_struct es)

  abbrev answer : ExprTree
  answer = nth_or pattern n es

  answer_plain : is_plain answer ≡ true
  answer_plain = nth_plain pattern n es there all

  record Known (types : Types) (g : Named Origin) (t : TypeTree) : Type 0 where
    pub us : TypeTrees
    pub have : HaveTypes es types us
    pub free : AreBuilderFree us
    pub typed : HasType answer types t

  known : (types : Types) (g : Named Origin) (t : TypeTree) → IsPlaced pattern types g t → Known types g t
  known types g t p = by p.typed.1.2.1
    where
      inner : TypeTrees
      inner = p.typed.1.0

      same : inner ≡ p.typed.2.0
      same = let both_are : struct inner ≡ struct p.typed.2.0 = sym p.typed.1.2.2 ∙ p.typed.2.1 in cc

      is_field : IsField n inner t
      is_field = subst (λ ws. IsField n ws t) (sym same) p.typed.2.2

      typed : HasType answer types t
      typed = nth_typed pattern n es types inner t p.typed.1.1 is_field

      by : AreBuilderFree inner ⊎ AreBuilders inner → Known types g t
      by (inl f) = record { us = inner; have = p.typed.1.1; free = f; typed = typed }
      by (inr b) =
          let here : origin answer g ≡ value = picked_origin pattern n es g there ∙ is_value_so (field_origin n (origin (many m make_struct es) g)) p.splits.1 in
          absurd (not_both t (type_formed answer types t typed p.formed) (nth_builder n inner t b is_field)
          (subst (λ o. HasForm o t) here (origin_forms answer g types t typed p.formed p.forms)))

  placed : (types : Types) (g : Named Origin) (t : TypeTree) → IsPlaced pattern types g t → IsPlaced answer types g t
  placed types g t p = record {
    formed = p.formed;
    forms = p.forms;
    typed = (known types g t p).typed;
    keeps = by_place (λ e. Keeps e g) (λ es. AllKeep es g) (λ e es q. q.0) (λ e es q. q.1) pattern n es there p.keeps.0;
    splits = by_place (λ e. Splits e g) (λ es. AllSplit es g) (λ e es q. q.0) (λ e es q. q.1) pattern n es there p.splits.0;
    noted = by_place (λ e. AreNoted e types) (λ es. AllAreNoted es types) (λ e es q. q.0) (λ e es q. q.1) pattern n es there p.noted.0.0;
  }

  none_taken : (types : Types) (g : Named Origin) (t : TypeTree) → IsPlaced pattern types g t → (fs : ExprTrees) (us : TypeTrees) → all_plain fs ≡ true → HaveTypes fs types us → AreBuilderFree us → (s : ℕ) (q : Path) → some_take fs g s q ≡ false
  none_taken types g t p no_exprs us h k f s q = refl
  none_taken types g t p (more_exprs e fs) no_types h k f s q = absurd k
  none_taken types g t p (more_exprs e fs) (more_types u us) h k f s q =
      let b = both (is_plain e) (all_plain fs) h in
      let x = plain_takes_none e types g u b.0 k.0 f.0 p.formed (plain_names e types g t u pattern p b.0 k.0 f.0) s q in
      let y = none_taken types g t p fs us b.1 k.1 f.1 s q in λ i. x i || y i

  field_free : (us : TypeTrees) (k : ℕ) (fs : ExprTrees) (types : Types) → has_nth k fs ≡ true → HaveTypes fs types us → AreBuilderFree us → (u : TypeTree) × HasType (nth_or pattern k fs) types u × IsBuilderFree u
  field_free us k no_exprs types h q f = let nothing : ⊥ = cc in absurd nothing
  field_free no_types k (more_exprs e fs) types h q f = absurd q
  field_free (more_types u us) zero (more_exprs e fs) types h q f = (u, q.0, f.0)
  field_free (more_types u us) (suc k) (more_exprs e fs) types h q f = field_free us k fs types h q.1 f.1

  taken : (types : Types) (g : Named Origin) (t : TypeTree) → IsPlaced pattern types g t → takes answer g ≡ takes pattern g
  taken types g t p =
      let k = known types g t p in
      let u = field_free k.us n es types there k.have k.free in
      λ i s q. (plain_takes_none answer types g u.0 answer_plain u.1 u.2 p.formed (plain_names answer types g t u.0 pattern p answer_plain u.1 u.2) s q ∙ sym (none_taken types g t p es k.us all k.have k.free s q)) i

  means : (types : Types) (g : Named Origin) (t : TypeTree) (env : Env) → IsPlaced pattern types g t → EnvFits types env → eval answer env ≡ eval pattern env
  means types g t env p fit =
      let k = known types g t p in
      let vs = values_given laws types env p.formed fit es k.us all k.have k.free in
      sym (
      ap (λ o. and_then (and_then o (λ ts. done (struct_of ts))) (field_of n)) (all_give es vs.0 env vs.1)
      ∙ ap (λ o. and_then (done (struct_from (plains vs.0) o)) (field_of n)) (are_plain vs.0) ∙ nth_gives pattern n es vs.0 env there vs.1
      )

  within : StaysWithin answer pattern
  within =
      let h = plain_holds answer answer_plain in
      record {
        binds = λ t. omega (arith, h.binds t);
        names = λ t f. nth_free pattern n es t there f;
        no_more_loops = omega (arith, h.no_loops);
        no_more_legs = omega (arith, h.no_legs);
        no_more_binders = omega (arith, h.no_binders);
        well_made = λ w. by_place IsWellMade AreWellMade (λ e es q. q.0) (λ e es q. q.1) pattern n es there w.1.1;
        spellable = λ w. by_place IsSpellable AreSpellable (λ e es q. q.0) (λ e es q. q.1) pattern n es there w.1;
      }

  field_rewrites : Rewrites answer pattern
  field_rewrites = record {
    replaces = record {
      same_origin = λ g. picked_origin pattern n es g there;
      same_chain = λ c h. let nothing : ⊥ = cc in absurd nothing;
      placed = placed;
      taken = taken;
      means = means;
    };
    within = within;
  }

made_rewrites : KeyLaws → (a : At) (n : ℕ) (e : ExprTree) → is_pick (one a (field n) e) ≡ true → Rewrites (picked (one a (field n) e)) (one a (field n) e)
made_rewrites laws a n (leaf m l) h = let nothing : ⊥ = cc in absurd nothing
made_rewrites laws a n (one m o e) h = let nothing : ⊥ = cc in absurd nothing
made_rewrites laws a n (two m o e f) h = let nothing : ⊥ = cc in absurd nothing
made_rewrites laws a n (three m o c e f) h = let nothing : ⊥ = cc in absurd nothing
made_rewrites laws a n (many m make_vec es) h = let nothing : ⊥ = cc in absurd nothing
made_rewrites laws a n (many m make_struct es) h = let b = both (has_nth n es) (all_plain es) h in field_rewrites laws a m n es b.0 b.1
made_rewrites laws a n (let_in m b e f) h = let nothing : ⊥ = cc in absurd nothing
made_rewrites laws a n (loop m ls e b k x f) h = let nothing : ⊥ = cc in absurd nothing
made_rewrites laws a n (iterate m e b f) h = let nothing : ⊥ = cc in absurd nothing

pub pick_rewrites : KeyLaws → (e : ExprTree) → is_pick e ≡ true → Rewrites (picked e) e
pick_rewrites laws (leaf a l) h = let nothing : ⊥ = cc in absurd nothing
pick_rewrites laws (one a neg e) h = let nothing : ⊥ = cc in absurd nothing
pick_rewrites laws (one a not e) h = let nothing : ⊥ = cc in absurd nothing
pick_rewrites laws (one a (cast k) e) h = let nothing : ⊥ = cc in absurd nothing
pick_rewrites laws (one a len e) h = let nothing : ⊥ = cc in absurd nothing
pick_rewrites laws (one a (field n) e) h = made_rewrites laws a n e h
pick_rewrites laws (one a finish e) h = let nothing : ⊥ = cc in absurd nothing
pick_rewrites laws (one a (started b) e) h = let nothing : ⊥ = cc in absurd nothing
pick_rewrites laws (two a o e f) h = let nothing : ⊥ = cc in absurd nothing
pick_rewrites laws (three a o c e f) h = let nothing : ⊥ = cc in absurd nothing
pick_rewrites laws (many a o es) h = let nothing : ⊥ = cc in absurd nothing
pick_rewrites laws (let_in a b e f) h = let nothing : ⊥ = cc in absurd nothing
pick_rewrites laws (loop a ls e b n x f) h = let nothing : ⊥ = cc in absurd nothing
pick_rewrites laws (iterate a e b f) h = let nothing : ⊥ = cc in absurd nothing
