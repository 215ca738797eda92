-- Legs behind legs: what both have, all have.
use Rattle.std.proofs.Common.{◌≡◌, ℕ, suc, ◌+◌, ◌≤◌, if◌then◌else◌, Bool, true, false, ◌||◌, List, [], ◌∷◌, ◌++◌, length, Option, Some, None, option_map, refl, ap, sym, subst, ◌∙◌, arith, length-append, ◌⊎◌, inl, inr}
use Rattle.weld_data.specs.Value.{Value}
use Rattle.weld_tree.specs.TypeTree.{TypeTree, TypeTrees, no_types, more_types}
use Rattle.weld_tree.specs.Types.{AreBuilderFree}
use Rattle.weld_tree.specs.ExprTree.{LegTree, LegTrees, no_legs, more_legs}
use Rattle.weld_tree.specs.Program.{loops_in_legs, bound_in_leg, bound_in_legs, HasLegs, LegsAreWellMade}
use Rattle.weld_builders.specs.Outcome.{Outcome, done, fault, stuck, and_then, map_out}
use Rattle.weld_meaning.specs.Environment.{Named}
use Rattle.weld_meaning.specs.Typing.{Types, LegHas, LegsHave}
use Rattle.weld_meaning.specs.Evaluation.{Env, eval_leg, eval_legs}
use Rattle.weld_meaning.specs.Origin.{Path, Origin}
use Rattle.weld_meaning.specs.Linear.{LegsKeep}
use Rattle.weld_meaning.specs.Available.{Apart, leg_takes, legs_take, LegsSplit}
use Rattle.weld_meaning.specs.Names.{LegsAreFree}
use Rattle.weld_meaning.proofs.ValuesGood.{LegsFit}
use Rattle.weld_check_types.specs.Notes.{LegsAreNoted}
use Rattle.weld_substitution.proofs.Chains.{or_true}
use Rattle.weld_substitution.proofs.Following.{or_left, or_right}
use Rattle.weld_print.specs.Spellable.{LegsAreSpellable}
use Rattle.weld_rewriting.specs.Within.{times, legs_among}
use Rattle.weld_rewriting.proofs.Counts.{times-append}
use Rattle.weld_horizontal.specs.Twice.{items, leg_item, count}
use Rattle.weld_vertical_zip.specs.Zipping.{legs_behind, types_behind, is_made_leg, Around, behind_leg, first_made, are_several}

-- ---- the first leg that another loop makes

pub record Found (ls : LegTrees) (s : Around) : Type 0 where
  pub made : is_made_leg s.leg ≡ true
  pub legs_are : ls ≡ legs_behind s.before (more_legs s.leg s.after)

mapped : (l : LegTree) (o : Option Around) (s : Around) → option_map (behind_leg l) o ≡ Some s → (r : Around) × (o ≡ Some r) × (s ≡ behind_leg l r)
mapped l None s h = let nothing : ⊥ = cc in absurd nothing
mapped l (Some r) s h = let same : behind_leg l r ≡ s = cc in (r, refl, sym same)

pub found_of : (ls : LegTrees) (s : Around) → first_made ls ≡ Some s → Found ls s
found_of no_legs s h = let nothing : ⊥ = cc in absurd nothing
found_of (more_legs l ls) s h = by (is_made_leg l) refl h (found_of ls)
  where
    by : (c : Bool) → is_made_leg l ≡ c → (if c then Some (record { before = no_legs; leg = l; after = ls }) else option_map (behind_leg l) (first_made ls)) ≡ Some s → ((r : Around) → first_made ls ≡ Some r → Found ls r) → Found (more_legs l ls) s
    by true e h f = let same : record { before = no_legs; leg = l; after = ls } ≡ s = cc in subst (Found (more_legs l ls)) same (record { made = e; legs_are = refl })
    by false e h f =
        let k = mapped l (first_made ls) s h in
        let r = f k.0 k.1 in
        subst (Found (more_legs l ls)) (sym k.2) (record { made = r.made; legs_are = ap (more_legs l) r.legs_are })

-- ---- types

pub types_apart : (ls ms : LegTrees) (g : Types) (us : TypeTrees) → LegsHave (legs_behind ls ms) g us → (ts : TypeTrees) × (vs : TypeTrees) × (us ≡ types_behind ts vs) × LegsHave ls g ts × LegsHave ms g vs
types_apart no_legs ms g us h = (no_types, us, refl, tt, h)
types_apart (more_legs l ls) ms g no_types h = absurd h
types_apart (more_legs l ls) ms g (more_types u us) h =
    let r = types_apart ls ms g us h.1 in (more_types u r.0, r.1, ap (more_types u) r.2, (h.0, r.3), r.4)

pub types_together : (ls ms : LegTrees) (g : Types) (ts vs : TypeTrees) → LegsHave ls g ts → LegsHave ms g vs → LegsHave (legs_behind ls ms) g (types_behind ts vs)
types_together no_legs ms g no_types vs h k = k
types_together no_legs ms g (more_types t ts) vs h k = absurd h
types_together (more_legs l ls) ms g no_types vs h k = absurd h
types_together (more_legs l ls) ms g (more_types t ts) vs h k = (h.0, types_together ls ms g ts vs h.1 k)

pub first_type : (l : LegTree) (ls : LegTrees) (g : Types) (us : TypeTrees) → LegsHave (more_legs l ls) g us → (u : TypeTree) × (vs : TypeTrees) × (us ≡ more_types u vs) × LegHas l g u × LegsHave ls g vs
first_type l ls g no_types h = absurd h
first_type l ls g (more_types u vs) h = (u, vs, refl, h.0, h.1)

pub items_behind : (ls ms : LegTrees) → items (legs_behind ls ms) ≡ types_behind (items ls) (items ms)
items_behind no_legs ms = refl
items_behind (more_legs l ls) ms = ap (more_types (leg_item l)) (items_behind ls ms)

pub free_together : (ts vs : TypeTrees) → AreBuilderFree ts → AreBuilderFree vs → AreBuilderFree (types_behind ts vs)
free_together no_types vs h k = k
free_together (more_types t ts) vs h k = (h.0, free_together ts vs h.1 k)

pub count_together : (ts vs : TypeTrees) → count (types_behind ts vs) ≡ count ts + count vs
count_together no_types vs = omega arith
count_together (more_types t ts) vs = omega (arith, count_together ts vs)

pub several_items : (ls : LegTrees) → are_several ls ≡ true → 2 ≤ count (items ls)
several_items no_legs h = let nothing : ⊥ = cc in absurd nothing
several_items (more_legs l no_legs) h = let nothing : ⊥ = cc in absurd nothing
several_items (more_legs l (more_legs m ls)) h = omega arith

-- ---- rules and notes

pub keep_apart : (ls ms : LegTrees) (g : Named Origin) → LegsKeep (legs_behind ls ms) g → LegsKeep ls g × LegsKeep ms g
keep_apart no_legs ms g h = (tt, h)
keep_apart (more_legs l ls) ms g h = let r = keep_apart ls ms g h.1 in ((h.0, r.0), r.1)

pub keep_together : (ls ms : LegTrees) (g : Named Origin) → LegsKeep ls g → LegsKeep ms g → LegsKeep (legs_behind ls ms) g
keep_together no_legs ms g h k = k
keep_together (more_legs l ls) ms g h k = (h.0, keep_together ls ms g h.1 k)

pub noted_apart : (ls ms : LegTrees) (g : Types) → LegsAreNoted (legs_behind ls ms) g → LegsAreNoted ls g × LegsAreNoted ms g
noted_apart no_legs ms g h = (tt, h)
noted_apart (more_legs l ls) ms g h = let r = noted_apart ls ms g h.1 in ((h.0, r.0), r.1)

pub noted_together : (ls ms : LegTrees) (g : Types) → LegsAreNoted ls g → LegsAreNoted ms g → LegsAreNoted (legs_behind ls ms) g
noted_together no_legs ms g h k = k
noted_together (more_legs l ls) ms g h k = (h.0, noted_together ls ms g h.1 k)

or_three : (a b c : Bool) → (a || (b || c)) ≡ ((a || b) || c)
or_three true b c = refl
or_three false b c = refl

pub taken_together : (ls ms : LegTrees) (g : Named Origin) (s : ℕ) (q : Path) → legs_take (legs_behind ls ms) g s q ≡ (legs_take ls g s q || legs_take ms g s q)
taken_together no_legs ms g s q = refl
taken_together (more_legs l ls) ms g s q =
    ap (λ b. leg_takes l g s q || b) (taken_together ls ms g s q) ∙ or_three (leg_takes l g s q) (legs_take ls g s q) (legs_take ms g s q)

pub split_apart : (ls ms : LegTrees) (g : Named Origin) → LegsSplit (legs_behind ls ms) g → LegsSplit ls g × LegsSplit ms g × Apart (legs_take ls g) (legs_take ms g)
split_apart no_legs ms g h = (tt, h, record { apart = λ s q x y. let nothing : ⊥ = cc in nothing })
split_apart (more_legs l ls) ms g h =
    let r = split_apart ls ms g h.1 in (
      (h.0, r.0, record { apart = λ s q x y. h.2.apart s q x (taken_together ls ms g s q ∙ or_left (legs_take ls g s q) (legs_take ms g s q) y) }),
      r.1,
      record { apart = λ s q x y. by r.2 s q y (or_true (leg_takes l g s q) (legs_take ls g s q) x) },
    )
  where
    by : Apart (legs_take ls g) (legs_take ms g) → (s : ℕ) (q : Path) → legs_take ms g s q ≡ true → (leg_takes l g s q ≡ true) ⊎ (legs_take ls g s q ≡ true) → ⊥
    by k s q y (inl x) = h.2.apart s q x (taken_together ls ms g s q ∙ or_right (legs_take ls g s q) (legs_take ms g s q) y)
    by k s q y (inr x) = k.apart s q x y

pub split_together : (ls ms : LegTrees) (g : Named Origin) → LegsSplit ls g → LegsSplit ms g → Apart (legs_take ls g) (legs_take ms g) → LegsSplit (legs_behind ls ms) g
split_together no_legs ms g h k a = k
split_together (more_legs l ls) ms g h k a = (
  h.0,
  split_together ls ms g h.1 k (record { apart = λ s q x y. a.apart s q (or_right (leg_takes l g s q) (legs_take ls g s q) x) y }),
  record { apart = λ s q x y. by s q x (or_true (legs_take ls g s q) (legs_take ms g s q) (sym (taken_together ls ms g s q) ∙ y)) },
)
  where
    by : (s : ℕ) (q : Path) → leg_takes l g s q ≡ true → (legs_take ls g s q ≡ true) ⊎ (legs_take ms g s q ≡ true) → ⊥
    by s q x (inl y) = h.2.apart s q x y
    by s q x (inr y) = a.apart s q (or_left (leg_takes l g s q) (legs_take ls g s q) x) y

-- ---- what they run over

lead : (o : Outcome (List Value)) (p : Outcome (List (List Value))) (r : Outcome (List (List Value))) → and_then o (λ vs. map_out (λ rest. vs ∷ rest) (and_then p (λ xs. map_out (λ ys. xs ++ ys) r))) ≡ and_then (and_then o (λ vs. map_out (λ rest. vs ∷ rest) p)) (λ xs. map_out (λ ys. xs ++ ys) r)
lead (done vs) (done xs) (done ys) = refl
lead (done vs) (done xs) fault = refl
lead (done vs) (done xs) stuck = refl
lead (done vs) fault r = refl
lead (done vs) stuck r = refl
lead fault p r = refl
lead stuck p r = refl

none_before : (o : Outcome (List (List Value))) → o ≡ map_out (λ ys. [] ++ ys) o
none_before (done ys) = refl
none_before fault = refl
none_before stuck = refl

pub eval_together : (ls ms : LegTrees) (env : Env) → eval_legs (legs_behind ls ms) env ≡ and_then (eval_legs ls env) (λ xs. map_out (λ ys. xs ++ ys) (eval_legs ms env))
eval_together no_legs ms env = none_before (eval_legs ms env)
eval_together (more_legs l ls) ms env =
    ap (λ o. and_then (eval_leg l env) (λ vs. map_out (λ rest. vs ∷ rest) o)) (eval_together ls ms env) ∙ lead (eval_leg l env) (eval_legs ls env) (eval_legs ms env)

pub fit_together : (ts vs : TypeTrees) (xs ys : List (List Value)) → LegsFit ts xs → LegsFit vs ys → LegsFit (types_behind ts vs) (xs ++ ys)
fit_together no_types vs [] ys h k = k
fit_together no_types vs (x ∷ xs) ys h k = absurd h
fit_together (more_types t ts) vs [] ys h k = absurd h
fit_together (more_types t ts) vs (x ∷ xs) ys h k = (h.0, fit_together ts vs xs ys h.1 k)

pub fit_count : (ts : TypeTrees) (xs : List (List Value)) → LegsFit ts xs → length xs ≡ count ts
fit_count no_types [] h = refl
fit_count no_types (x ∷ xs) h = absurd h
fit_count (more_types t ts) [] h = absurd h
fit_count (more_types t ts) (x ∷ xs) h = ap suc (fit_count ts xs h.1)

-- ---- what is counted

pub times_together : (ls ms : LegTrees) (s : ℕ) → times (bound_in_legs (legs_behind ls ms)) s ≡ times (bound_in_legs ls) s + times (bound_in_legs ms) s
times_together no_legs ms s = omega arith
times_together (more_legs l ls) ms s =
    omega (
      arith,
      times-append (bound_in_leg l) (bound_in_legs (legs_behind ls ms)) s,
      times_together ls ms s,
      times-append (bound_in_leg l) (bound_in_legs ls) s,
    )

pub length_together : (ls ms : LegTrees) → length (bound_in_legs (legs_behind ls ms)) ≡ length (bound_in_legs ls) + length (bound_in_legs ms)
length_together no_legs ms = omega arith
length_together (more_legs l ls) ms =
    omega (
      arith,
      length-append (bound_in_leg l) (bound_in_legs (legs_behind ls ms)),
      length_together ls ms,
      length-append (bound_in_leg l) (bound_in_legs ls),
    )

pub loops_together : (ls ms : LegTrees) → loops_in_legs (legs_behind ls ms) ≡ loops_in_legs ls + loops_in_legs ms
loops_together no_legs ms = omega arith
loops_together (more_legs l ls) ms = omega (arith, loops_together ls ms)

pub legs_together : (ls ms : LegTrees) → legs_among (legs_behind ls ms) ≡ legs_among ls + legs_among ms
legs_together no_legs ms = omega arith
legs_together (more_legs l ls) ms = omega (arith, legs_together ls ms)

pub named_apart : (ls ms : LegTrees) (s : ℕ) → LegsAreFree (legs_behind ls ms) s → LegsAreFree ls s ⊎ LegsAreFree ms s
named_apart no_legs ms s f = inr f
named_apart (more_legs l ls) ms s (inl f) = inl (inl f)
named_apart (more_legs l ls) ms s (inr f) = by (named_apart ls ms s f)
  where
    by : LegsAreFree ls s ⊎ LegsAreFree ms s → LegsAreFree (more_legs l ls) s ⊎ LegsAreFree ms s
    by (inl k) = inl (inr k)
    by (inr k) = inr k

pub named_first : (ls ms : LegTrees) (s : ℕ) → LegsAreFree ls s → LegsAreFree (legs_behind ls ms) s
named_first no_legs ms s f = absurd f
named_first (more_legs l ls) ms s (inl f) = inl f
named_first (more_legs l ls) ms s (inr f) = inr (named_first ls ms s f)

pub named_second : (ls ms : LegTrees) (s : ℕ) → LegsAreFree ms s → LegsAreFree (legs_behind ls ms) s
named_second no_legs ms s f = f
named_second (more_legs l ls) ms s f = inr (named_second ls ms s f)

pub some_together : (ls ms : LegTrees) → HasLegs ms → HasLegs (legs_behind ls ms)
some_together no_legs ms h = h
some_together (more_legs l ls) ms h = tt

pub some_first : (ls ms : LegTrees) → HasLegs ls → HasLegs (legs_behind ls ms)
some_first no_legs ms h = absurd h
some_first (more_legs l ls) ms h = tt

pub made_apart : (ls ms : LegTrees) → LegsAreWellMade (legs_behind ls ms) → LegsAreWellMade ls × LegsAreWellMade ms
made_apart no_legs ms h = (tt, h)
made_apart (more_legs l ls) ms h = let r = made_apart ls ms h.1 in ((h.0, r.0), r.1)

pub made_together : (ls ms : LegTrees) → LegsAreWellMade ls → LegsAreWellMade ms → LegsAreWellMade (legs_behind ls ms)
made_together no_legs ms h k = k
made_together (more_legs l ls) ms h k = (h.0, made_together ls ms h.1 k)

pub spellable_apart : (ls ms : LegTrees) → LegsAreSpellable (legs_behind ls ms) → LegsAreSpellable ls × LegsAreSpellable ms
spellable_apart no_legs ms h = (tt, h)
spellable_apart (more_legs l ls) ms h = let r = spellable_apart ls ms h.1 in ((h.0, r.0), r.1)

pub spellable_together : (ls ms : LegTrees) → LegsAreSpellable ls → LegsAreSpellable ms → LegsAreSpellable (legs_behind ls ms)
spellable_together no_legs ms h k = k
spellable_together (more_legs l ls) ms h k = (h.0, spellable_together ls ms h.1 k)
