-- A list of legs with one more at a place: what it has that the others have.
use Rattle.std.proofs.Common.{◌≡◌, ℕ, zero, suc, ◌≤◌, if◌then◌else◌, Bool, true, false, ◌||◌, List, [], ◌∷◌, length, Option, Some, None, option_map, refl, ap, sym, subst, ◌∙◌, arith, length-append, eqb-true, inl, inr}
use Rattle.weld_data.specs.Value.{Value}
use Rattle.weld_tree.specs.TypeTree.{TypeTree, TypeTrees, no_types, more_types}
use Rattle.weld_tree.specs.ExprTree.{At, leaf, one, two, three, many, let_in, loop, iterate, LegTree, whole, strided, LegTrees, no_legs, more_legs, Leaf, int, truth, chars, name, fresh}
use Rattle.weld_tree.specs.Program.{loops_in_legs, bound_in_leg, bound_in_legs, HasLegs, LegsAreWellMade}
use Rattle.weld_builders.specs.Outcome.{Outcome, done, fault, stuck, and_then, map_out}
use Rattle.weld_meaning.specs.Environment.{Named}
use Rattle.weld_meaning.specs.Typing.{Types, LegHas, LegsHave}
use Rattle.weld_meaning.specs.Evaluation.{Env, eval_leg, eval_legs}
use Rattle.weld_meaning.specs.Origin.{Path, Origin}
use Rattle.weld_meaning.specs.Linear.{LegsKeep}
use Rattle.weld_meaning.specs.Available.{leg_takes, legs_take, LegsSplit}
use Rattle.weld_meaning.specs.Names.{LegsAreFree}
use Rattle.weld_check_types.specs.Notes.{LegsAreNoted}
use Rattle.weld_print.specs.Spellable.{LegsAreSpellable}
use Rattle.weld_rewriting.specs.Within.{times, legs_among}
use Rattle.weld_rewriting.proofs.Counts.{times-append}
use Rattle.weld_horizontal.specs.Twice.{name_of_leaf, leg_name, is_that, place_in, place_of, Places, behind_one, or_behind, twice, without_leg, with_type}
use Rattle.weld_horizontal.proofs.Columns.{nth_list, with_list}

abbrev pub with_leg : ℕ → LegTree → LegTrees → LegTrees
with_leg zero l ls = more_legs l ls
with_leg (suc n) l no_legs = more_legs l no_legs
with_leg (suc n) l (more_legs m ls) = more_legs m (with_leg n l ls)

abbrev pub nth_leg : ℕ → LegTrees → Option LegTree
nth_leg n no_legs = None
nth_leg zero (more_legs l ls) = Some l
nth_leg (suc n) (more_legs l ls) = nth_leg n ls

-- ---- what the test says

leaf_is : (l : Leaf) (s : ℕ) → name_of_leaf l ≡ Some s → l ≡ name s
leaf_is (int k x) s h = let nothing : ⊥ = cc in absurd nothing
leaf_is (truth b) s h = let nothing : ⊥ = cc in absurd nothing
leaf_is (chars bs) s h = let nothing : ⊥ = cc in absurd nothing
leaf_is (name t) s h = let same : t ≡ s = cc in ap name same
leaf_is (fresh b) s h = let nothing : ⊥ = cc in absurd nothing

leg_is : (l : LegTree) (s : ℕ) → leg_name l ≡ Some s → (a : At) × (l ≡ whole (leaf a (name s)))
leg_is (whole (leaf a l)) s h = (a, ap (λ k. whole (leaf a k)) (leaf_is l s h))
leg_is (whole (one a o e)) s h = let nothing : ⊥ = cc in absurd nothing
leg_is (whole (two a o e f)) s h = let nothing : ⊥ = cc in absurd nothing
leg_is (whole (three a o e f g)) s h = let nothing : ⊥ = cc in absurd nothing
leg_is (whole (many a o es)) s h = let nothing : ⊥ = cc in absurd nothing
leg_is (whole (let_in a b e f)) s h = let nothing : ⊥ = cc in absurd nothing
leg_is (whole (loop a ls e b n x f)) s h = let nothing : ⊥ = cc in absurd nothing
leg_is (whole (iterate a e b f)) s h = let nothing : ⊥ = cc in absurd nothing
leg_is (strided e f g i) s h = let nothing : ⊥ = cc in absurd nothing

that_is : (s : ℕ) (m : Option ℕ) → is_that s m ≡ true → m ≡ Some s
that_is s (Some t) h = ap Some (sym (eqb-true s t h))
that_is s None h = let nothing : ⊥ = cc in absurd nothing

some_suc : (m : Option ℕ) (n : ℕ) → option_map suc m ≡ Some n → (k : ℕ) × (m ≡ Some k) × (n ≡ suc k)
some_suc (Some k) n h = let same : suc k ≡ n = cc in (k, refl, sym same)
some_suc None n h = let nothing : ⊥ = cc in absurd nothing

-- the leg of the name at that place
place_is : (s : ℕ) (ls : LegTrees) (n : ℕ) → place_in s ls ≡ Some n → (a : At) × (ls ≡ with_leg n (whole (leaf a (name s))) (without_leg n ls))
place_is s no_legs n h = let nothing : ⊥ = cc in absurd nothing
place_is s (more_legs l ls) n h = by (is_that s (leg_name l)) refl h (place_is s ls)
  where
    by : (c : Bool) → is_that s (leg_name l) ≡ c → (if c then Some 0 else option_map suc (place_in s ls)) ≡ Some n → ((k : ℕ) → place_in s ls ≡ Some k → (a : At) × (ls ≡ with_leg k (whole (leaf a (name s))) (without_leg k ls))) → (a : At) × (more_legs l ls ≡ with_leg n (whole (leaf a (name s))) (without_leg n (more_legs l ls)))
    by true e h f =
        let k = leg_is l s (that_is s (leg_name l) e) in let zero_is : 0 ≡ n = cc in
        (k.0, subst (λ m. more_legs l ls ≡ with_leg m (whole (leaf k.0 (name s))) (without_leg m (more_legs l ls))) zero_is (ap (λ m. more_legs m ls) k.1))
    by false e h f =
        let k = some_suc (place_in s ls) n h in let r = f k.0 k.1 in
        (r.0, subst (λ m. more_legs l ls ≡ with_leg m (whole (leaf r.0 (name s))) (without_leg m (more_legs l ls))) (sym k.2) (ap (more_legs l) r.1))

back : {A : Type 0} {x y : A} → x ≡ y → y ≡ x
back e = sym e

-- a name that is a leg at both places
pub record Doubled (ls : LegTrees) (p : Places) : Type 0 where
  pub symbol : ℕ
  pub here : At
  pub again : At
  pub second_is : ls ≡ with_leg p.second (whole (leaf again (name symbol))) (without_leg p.second ls)
  pub first_is : nth_leg p.first (without_leg p.second ls) ≡ Some (whole (leaf here (name symbol)))

some_places : (m : Option Places) (p : Places) → option_map behind_one m ≡ Some p → (q : Places) × (m ≡ Some q) × (p ≡ behind_one q)
some_places (Some q) p h = let same : behind_one q ≡ p = cc in (q, refl, back same)
some_places None p h = let nothing : ⊥ = cc in absurd nothing

pub doubled_of : (ls : LegTrees) (p : Places) → twice ls ≡ Some p → Doubled ls p
doubled_of no_legs p h = let nothing : ⊥ = cc in absurd nothing
doubled_of (more_legs l ls) p h = by (leg_name l) refl h (doubled_of ls)
  where
    behind : (q : Places) → Doubled ls q → Doubled (more_legs l ls) (behind_one q)
    behind q d = record { symbol = d.symbol; here = d.here; again = d.again; second_is = ap (more_legs l) d.second_is; first_is = d.first_is }

    at_first : (s n : ℕ) → leg_name l ≡ Some s → place_in s ls ≡ Some n → Doubled (more_legs l ls) (record { first = 0; second = suc n })
    at_first s n e k =
        let first = leg_is l s e in let r = place_is s ls n k in
        record { symbol = s; here = first.0; again = r.0; second_is = ap (more_legs l) r.1; first_is = ap Some first.1 }

    rest : (m : Option ℕ) → or_behind m (twice ls) ≡ Some p → ((n : ℕ) → m ≡ Some n → Doubled (more_legs l ls) (record { first = 0; second = suc n })) → ((q : Places) → twice ls ≡ Some q → Doubled ls q) → Doubled (more_legs l ls) p
    rest (Some n) h f g = let same : record { first = 0; second = suc n } ≡ p = cc in subst (Doubled (more_legs l ls)) same (f n refl)
    rest None h f g = let q = some_places (twice ls) p h in subst (Doubled (more_legs l ls)) (back q.2) (behind q.0 (g q.0 q.1))

    by : (m : Option ℕ) → leg_name l ≡ m → or_behind (place_of m ls) (twice ls) ≡ Some p → ((q : Places) → twice ls ≡ Some q → Doubled ls q) → Doubled (more_legs l ls) p
    by (Some s) e h g = rest (place_in s ls) h (λ n k. at_first s n e k) g
    by None e h g = rest None h (λ n k. let nothing : ⊥ = cc in absurd nothing) g

-- ---- types, rules, notes

pub with_types : (n : ℕ) (l : LegTree) (ls : LegTrees) (g : Types) (us : TypeTrees) → LegsHave (with_leg n l ls) g us → (u : TypeTree) × (ts : TypeTrees) × (us ≡ with_type n u ts) × LegHas l g u × LegsHave ls g ts
with_types zero l ls g no_types h = absurd h
with_types zero l ls g (more_types u us) h = (u, us, refl, h.0, h.1)
with_types (suc n) l no_legs g no_types h = absurd h
with_types (suc n) l no_legs g (more_types u no_types) h = (u, no_types, refl, h.0, tt)
with_types (suc n) l no_legs g (more_types u (more_types v us)) h = absurd h.1
with_types (suc n) l (more_legs m ls) g no_types h = absurd h
with_types (suc n) l (more_legs m ls) g (more_types u us) h =
    let r = with_types n l ls g us h.1 in (r.0, more_types u r.1, ap (more_types u) r.2, r.3, (h.0, r.4))

pub with_keep : (n : ℕ) (l : LegTree) (ls : LegTrees) (g : Named Origin) → LegsKeep (with_leg n l ls) g → LegsKeep ls g
with_keep zero l ls g h = h.1
with_keep (suc n) l no_legs g h = tt
with_keep (suc n) l (more_legs m ls) g h = (h.0, with_keep n l ls g h.1)

pub with_noted : (n : ℕ) (l : LegTree) (ls : LegTrees) (g : Types) → LegsAreNoted (with_leg n l ls) g → LegsAreNoted ls g
with_noted zero l ls g h = h.1
with_noted (suc n) l no_legs g h = tt
with_noted (suc n) l (more_legs m ls) g h = (h.0, with_noted n l ls g h.1)

-- a leg that takes nothing
pub with_taken : (n : ℕ) (l : LegTree) (ls : LegTrees) (g : Named Origin) → ((s : ℕ) (q : Path) → leg_takes l g s q ≡ false) → (s : ℕ) (q : Path) → legs_take (with_leg n l ls) g s q ≡ legs_take ls g s q
with_taken zero l ls g f s q = ap (λ b. b || legs_take ls g s q) (f s q)
with_taken (suc n) l no_legs g f s q = ap (λ b. b || false) (f s q)
with_taken (suc n) l (more_legs m ls) g f s q = ap (λ b. leg_takes m g s q || b) (with_taken n l ls g f s q)

pub with_split : (n : ℕ) (l : LegTree) (ls : LegTrees) (g : Named Origin) → ((s : ℕ) (q : Path) → leg_takes l g s q ≡ false) → LegsSplit (with_leg n l ls) g → LegsSplit ls g
with_split zero l ls g f h = h.1
with_split (suc n) l no_legs g f h = tt
with_split (suc n) l (more_legs m ls) g f h =
    (h.0, with_split n l ls g f h.1, record { apart = λ s q x y. h.2.apart s q x (with_taken n l ls g f s q ∙ y) })

-- ---- what they run over

regroup : {A B C : Type 0} (o : Outcome A) (f : A → Outcome B) (g : A → Outcome C) (k : B → C) → ((x : A) → g x ≡ map_out k (f x)) → and_then o g ≡ map_out k (and_then o f)
regroup (done x) f g k e = e x
regroup fault f g k e = refl
regroup stuck f g k e = refl

cons_twice : {A B C D : Type 0} (o : Outcome A) (f : A → B) (g : B → D) (h : A → C) (k : C → D) → ((x : A) → g (f x) ≡ k (h x)) → map_out g (map_out f o) ≡ map_out k (map_out h o)
cons_twice (done x) f g h k e = ap done (e x)
cons_twice fault f g h k e = refl
cons_twice stuck f g h k e = refl

pub with_eval : (n : ℕ) (l : LegTree) (ls : LegTrees) (env : Env) (xs : List Value) → eval_leg l env ≡ done xs → eval_legs (with_leg n l ls) env ≡ map_out (with_list n xs) (eval_legs ls env)
with_eval zero l ls env xs e = ap (λ o. and_then o (λ vs. map_out (λ rest. vs ∷ rest) (eval_legs ls env))) e
with_eval (suc n) l no_legs env xs e = ap (λ o. and_then o (λ vs. done (vs ∷ []))) e
with_eval (suc n) l (more_legs m ls) env xs e =
    regroup (eval_leg m env) (λ vs. map_out (λ rest. vs ∷ rest) (eval_legs ls env)) _ (with_list (suc n) xs)
    (λ vs. ap (map_out (λ rest. vs ∷ rest)) (with_eval n l ls env xs e) ∙ cons_twice (eval_legs ls env) (with_list n xs) (λ rest. vs ∷ rest) (λ rest. vs ∷ rest) (with_list (suc n) xs) (λ rest. refl))

list_done : (o : Outcome (List Value)) (r : Outcome (List (List Value))) (lists : List (List Value)) → and_then o (λ vs. map_out (λ rest. vs ∷ rest) r) ≡ done lists → (x : List Value) × (rest : List (List Value)) × (o ≡ done x) × (r ≡ done rest) × (lists ≡ x ∷ rest)
list_done (done x) (done rest) lists e = let same : x ∷ rest ≡ lists = cc in (x, rest, refl, refl, back same)
list_done (done x) fault lists e = let nothing : ⊥ = cc in absurd nothing
list_done (done x) stuck lists e = let nothing : ⊥ = cc in absurd nothing
list_done fault r lists e = let nothing : ⊥ = cc in absurd nothing
list_done stuck r lists e = let nothing : ⊥ = cc in absurd nothing

pub nth_eval : (n : ℕ) (l : LegTree) (ls : LegTrees) (env : Env) (xs : List Value) (lists : List (List Value)) → nth_leg n ls ≡ Some l → eval_leg l env ≡ done xs → eval_legs ls env ≡ done lists → nth_list n lists ≡ Some xs
nth_eval n l no_legs env xs lists k e h = let nothing : ⊥ = cc in absurd nothing
nth_eval zero l (more_legs m ls) env xs lists k e h =
    let d = list_done (eval_leg m env) (eval_legs ls env) lists h in
    let leg : m ≡ l = cc in let there : eval_leg l env ≡ done d.0 = subst (λ i. eval_leg i env ≡ done d.0) leg d.2 in
    let same : d.0 ≡ xs = cc in
    ap (nth_list zero) d.4 ∙ ap Some same
nth_eval (suc n) l (more_legs m ls) env xs lists k e h =
    let d = list_done (eval_leg m env) (eval_legs ls env) lists h in
    ap (nth_list (suc n)) d.4 ∙ nth_eval n l ls env xs d.1 k e d.3

-- ---- what is counted

pub with_times : (n : ℕ) (l : LegTree) (ls : LegTrees) (s : ℕ) → times (bound_in_legs ls) s ≤ times (bound_in_legs (with_leg n l ls)) s
with_times zero l ls s = omega (arith, times-append (bound_in_leg l) (bound_in_legs ls) s)
with_times (suc n) l no_legs s = omega arith
with_times (suc n) l (more_legs m ls) s =
    omega (arith, times-append (bound_in_leg m) (bound_in_legs ls) s, times-append (bound_in_leg m) (bound_in_legs (with_leg n l ls)) s, with_times n l ls s)

pub with_length : (n : ℕ) (l : LegTree) (ls : LegTrees) → length (bound_in_legs ls) ≤ length (bound_in_legs (with_leg n l ls))
with_length zero l ls = omega (arith, length-append (bound_in_leg l) (bound_in_legs ls))
with_length (suc n) l no_legs = omega arith
with_length (suc n) l (more_legs m ls) =
    omega (arith, length-append (bound_in_leg m) (bound_in_legs ls), length-append (bound_in_leg m) (bound_in_legs (with_leg n l ls)), with_length n l ls)

pub with_loops : (n : ℕ) (l : LegTree) (ls : LegTrees) → loops_in_legs ls ≤ loops_in_legs (with_leg n l ls)
with_loops zero l ls = omega arith
with_loops (suc n) l no_legs = omega arith
with_loops (suc n) l (more_legs m ls) = omega (arith, with_loops n l ls)

pub with_legs : (n : ℕ) (l : LegTree) (ls : LegTrees) → legs_among ls ≤ legs_among (with_leg n l ls)
with_legs zero l ls = omega arith
with_legs (suc n) l no_legs = omega arith
with_legs (suc n) l (more_legs m ls) = omega (arith, with_legs n l ls)

pub with_named : (n : ℕ) (l : LegTree) (ls : LegTrees) (s : ℕ) → LegsAreFree ls s → LegsAreFree (with_leg n l ls) s
with_named zero l ls s f = inr f
with_named (suc n) l no_legs s f = absurd f
with_named (suc n) l (more_legs m ls) s (inl f) = inl f
with_named (suc n) l (more_legs m ls) s (inr f) = inr (with_named n l ls s f)

pub with_made : (n : ℕ) (l : LegTree) (ls : LegTrees) → LegsAreWellMade (with_leg n l ls) → LegsAreWellMade ls
with_made zero l ls h = h.1
with_made (suc n) l no_legs h = tt
with_made (suc n) l (more_legs m ls) h = (h.0, with_made n l ls h.1)

pub with_spellable : (n : ℕ) (l : LegTree) (ls : LegTrees) → LegsAreSpellable (with_leg n l ls) → LegsAreSpellable ls
with_spellable zero l ls h = h.1
with_spellable (suc n) l no_legs h = tt
with_spellable (suc n) l (more_legs m ls) h = (h.0, with_spellable n l ls h.1)

pub nth_some : (n : ℕ) (l : LegTree) (ls : LegTrees) → nth_leg n ls ≡ Some l → HasLegs ls
nth_some n l no_legs h = let nothing : ⊥ = cc in absurd nothing
nth_some n l (more_legs m ls) h = tt
