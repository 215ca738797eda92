-- Deeds by their form.
use Rattle.std.proofs.Common.{◌≡◌, ℕ, List, refl, sym, ◌∙◌, subst, Result, Vec, Global}
use Rattle.weld_data.specs.declared.kind.Kind.TheVariants as kinds
use Rattle.weld_data.specs.declared.stop.Stop.{Stop}
use Rattle.weld_builders.specs.Outcome.{Outcome, done}
use Rattle.weld_meaning.specs.Thing.{Thing}
use Rattle.weld_acts.specs.Act.{Acts}
use Rattle.weld_deeds.specs.Deeds.{do_of, DeedFits}
use Rattle.weld_deeds.specs.Does.{DoesAs, number_done, NumberFits, pair_done, PairFits, guarded_done, GuardedFits, list_done, I64ListFits}
use Rattle.weld_deeds.specs.declared.deed.Deed.{Deed}
use Rattle.weld_deeds.specs.declared.deed.Deed as deed
use Rattle.weld_blocks.specs.declared.numbers.Numbers.{Numbers}
use Rattle.weld_deeds.specs.Lists.{AreAlike}
use Rattle.weld_deeds.specs.Rows.{struct_done, struct_guarded, StructGuardedFits}
use Rattle.weld_deeds.specs.Choices.{IsChoice}
use Rattle.weld_deeds.specs.Chosen.{pair_guarded, PairGuardedFits}
use Rattle.weld_deeds.specs.Through.{done_through, FitsThrough}

pub any_as : (d : Deed) → DoesAs (do_of d) (DeedFits d) d
any_as d = record { same = λ j s. refl; can = λ j s h. h }

pub number_as : (d : Deed) (c : Numbers) → d ≡ deed.Number c → DoesAs (number_done c) (NumberFits c) d
number_as d c e = subst (DoesAs (number_done c) (NumberFits c)) (sym e) (record { same = λ j s. refl; can = λ j s h. h })

pub pair_as : (d : Deed) (c n : Numbers) → d ≡ deed.Pair c n → DoesAs (pair_done c n) (PairFits c n) d
pair_as d c n e = subst (DoesAs (pair_done c n) (PairFits c n)) (sym e) (record { same = λ j s. refl; can = λ j s h. h })

pub guarded_as : (d : Deed) (c n : Numbers) (t e : Deed) → IsChoice d c t e → t ≡ deed.Number n → e ≡ deed.Nothing → DoesAs (guarded_done c n) (GuardedFits c n) d
guarded_as deed.Nothing c n t e h p q = absurd h
guarded_as (deed.Number x) c n t e h p q = absurd h
guarded_as (deed.Pair x y) c n t e h p q = absurd h
guarded_as (deed.Struct cs) c n t e h p q = absurd h
guarded_as (deed.List cs) c n t e h p q = absurd h
guarded_as (deed.Same u) c n t e h p q = absurd h
guarded_as (deed.Choice' x a y b z) c n t e h p q =
    let As = DoesAs (guarded_done c n) (GuardedFits c n) in
    subst (λ (u : Numbers). As (deed.Choice' u a y b z)) (sym h.0)
    (subst (λ (u : Deed). As (deed.Choice' c a u b z)) (sym (h.1 ∙ p))
    (subst (λ (u : Deed). As (deed.Choice' c a (deed.Number n) b u)) (sym (h.2 ∙ q)) (record { same = λ j s. refl; can = λ j s k. (k.0, k.1, k.2) })))
guarded_as (deed.Fields ds) c n t e h p q = absurd h

pub pair_guarded_as : (d : Deed) (c k n : Numbers) (t e : Deed) → IsChoice d c t e → t ≡ deed.Pair k n → e ≡ deed.Nothing → DoesAs (pair_guarded c k n) (PairGuardedFits c k n) d
pair_guarded_as deed.Nothing c k n t e h p q = absurd h
pair_guarded_as (deed.Number x) c k n t e h p q = absurd h
pair_guarded_as (deed.Pair x y) c k n t e h p q = absurd h
pair_guarded_as (deed.Struct cs) c k n t e h p q = absurd h
pair_guarded_as (deed.List cs) c k n t e h p q = absurd h
pair_guarded_as (deed.Same u) c k n t e h p q = absurd h
pair_guarded_as (deed.Choice' x a y b z) c k n t e h p q =
    let As = DoesAs (pair_guarded c k n) (PairGuardedFits c k n) in
    subst (λ (u : Numbers). As (deed.Choice' u a y b z)) (sym h.0)
    (subst (λ (u : Deed). As (deed.Choice' c a u b z)) (sym (h.1 ∙ p))
    (subst (λ (u : Deed). As (deed.Choice' c a (deed.Pair k n) b u)) (sym (h.2 ∙ q)) (record { same = λ j s. refl; can = λ j s f. (f.0, f.1, f.2) })))
pair_guarded_as (deed.Fields ds) c k n t e h p q = absurd h

pub struct_guarded_as : (d : Deed) (c : Numbers) (cs : Vec Numbers Global) (t e : Deed) → IsChoice d c t e → t ≡ deed.Struct cs → e ≡ deed.Nothing → DoesAs (struct_guarded c cs.items) (StructGuardedFits c cs.items) d
struct_guarded_as deed.Nothing c cs t e h p q = absurd h
struct_guarded_as (deed.Number x) c cs t e h p q = absurd h
struct_guarded_as (deed.Pair x y) c cs t e h p q = absurd h
struct_guarded_as (deed.Struct xs) c cs t e h p q = absurd h
struct_guarded_as (deed.List xs) c cs t e h p q = absurd h
struct_guarded_as (deed.Same u) c cs t e h p q = absurd h
struct_guarded_as (deed.Choice' x a y b z) c cs t e h p q =
    let As = DoesAs (struct_guarded c cs.items) (StructGuardedFits c cs.items) in
    subst (λ (u : Numbers). As (deed.Choice' u a y b z)) (sym h.0)
    (subst (λ (u : Deed). As (deed.Choice' c a u b z)) (sym (h.1 ∙ p))
    (subst (λ (u : Deed). As (deed.Choice' c a (deed.Struct cs) b u)) (sym (h.2 ∙ q)) (record { same = λ j s. refl; can = λ j s f. (f.0, f.1, f.2) })))
struct_guarded_as (deed.Fields ds) c cs t e h p q = absurd h

pub i64_list_as : (d : Deed) (cs : Vec Numbers Global) (xs : List Numbers) → d ≡ deed.List cs → xs ≡ cs.items → AreAlike kinds.I64 xs → DoesAs (list_done cs.items) (I64ListFits cs.items) d
i64_list_as d cs xs e same alike =
    subst (DoesAs (list_done cs.items) (I64ListFits cs.items)) (sym e) (record { same = λ j s. refl; can = λ j s h. (subst (AreAlike kinds.I64) same alike, h.0, h.1) })

-- an answer of what is done so is one of the deed
pub acts_as : {T : Type 0} (r : Result T Stop) (o p : Outcome Thing) (t : Thing) → o ≡ p → Acts r o t → Acts r p t
acts_as r o p t e h = subst (λ (u : Outcome Thing). Acts r u t) e h

-- ---- a number on each row

pub number_fits : (d : Deed) (c : Numbers) (n : ℕ) (s : Thing) → d ≡ deed.Number c → FitsThrough (do_of d) (DeedFits d) 0 n s → FitsThrough (number_done c) (NumberFits c) 0 n s
number_fits d c n s e h = subst (λ (x : Deed). FitsThrough (do_of x) (DeedFits x) 0 n s) e h

pub number_acts : {T : Type 0} (r : Result T Stop) (d : Deed) (c : Numbers) (n : ℕ) (s t : Thing) → d ≡ deed.Number c → Acts r (done_through (number_done c) 0 n s) t → Acts r (done_through (do_of d) 0 n s) t
number_acts r d c n s t e h = subst (λ (x : Deed). Acts r (done_through (do_of x) 0 n s) t) (sym e) h

-- ---- a struct of numbers on each row

pub struct_done_is : (d : Deed) (cs : Vec Numbers Global) (n : ℕ) (s t : Thing) → d ≡ deed.Struct cs → done_through (struct_done cs.items) 0 n s ≡ done t → done_through (do_of d) 0 n s ≡ done t
struct_done_is d cs n s t e h = subst (λ (x : Deed). done_through (do_of x) 0 n s ≡ done t) (sym e) h

pub same_fits : (d : Deed) (n : ℕ) (s t : Thing) → t ≡ s → FitsThrough (do_of d) (DeedFits d) 0 n s → FitsThrough (do_of d) (DeedFits d) 0 n t
same_fits d n s t e h = subst (FitsThrough (do_of d) (DeedFits d) 0 n) (sym e) h

-- ---- two numbers on each row

pub pair_fits : (d : Deed) (c m : Numbers) (n : ℕ) (s : Thing) → d ≡ deed.Pair c m → FitsThrough (do_of d) (DeedFits d) 0 n s → FitsThrough (pair_done c m) (PairFits c m) 0 n s
pair_fits d c m n s e h = subst (λ (x : Deed). FitsThrough (do_of x) (DeedFits x) 0 n s) e h

pub pair_acts : {T : Type 0} (r : Result T Stop) (d : Deed) (c m : Numbers) (n : ℕ) (s t : Thing) → d ≡ deed.Pair c m → Acts r (done_through (pair_done c m) 0 n s) t → Acts r (done_through (do_of d) 0 n s) t
pair_acts r d c m n s t e h = subst (λ (x : Deed). Acts r (done_through (do_of x) 0 n s) t) (sym e) h
