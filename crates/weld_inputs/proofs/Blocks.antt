-- Blocks are matched with declarations one by one.
use Rattle.std.proofs.Common.{◌≡◌, inl, inr, sym, ◌∙◌, ℕ, suc, ◌+◌, ◌<◌, ◌≤◌, Bool, false, List, [], ◌∷◌, ◌++◌, length, drop, get_or, refl, ap, subst, add-one, arith}
use Rattle.std.proofs.Math.Seq.{drop-cons}
use Rattle.std.specs.List.{All}
use Rattle.std.proofs.lemmas.List.Elements.{All-nil, All-cons}
use Rattle.weld_data.specs.Value.{Value}
use Rattle.weld_tree.specs.declared.code.Code.{Code}
use Rattle.weld_tree.specs.declared.code.Code.TheVariants as codes_of
use Rattle.weld_job.specs.Job.{Block}
use Rattle.weld_inputs.specs.declared.arguments.stop.DataStop.{DataStop}
use Rattle.weld_inputs.specs.declared.arguments.stop.DataStop.TheVariants.{Unfit, Memory}
use Rattle.weld_inputs.specs.declared.claim.Claim.{Claim}
use Rattle.weld_inputs.specs.declared.claim.Claim.TheVariants.{Param, Declaration}
use Rattle.weld_inputs.specs.Arguments.{Tells}
use Rattle.weld_script.specs.declared.made.Declared.{Declared}
use Rattle.weld_script.specs.declared.made.Made.{Made}
use Rattle.weld_script.specs.declared.made.Made.TheVariants as makes
use Rattle.weld_script.specs.Script.{IsDeclared, AreDeclared, declared_of, declared_by}
use Rattle.weld_inputs.specs.Inputs.{Gives, Fails, BlocksGive, BlocksFail, DataGive}
use Rattle.weld_inputs.specs.Claims.{MayBeRead, ClaimGives, ClaimFails, ClaimsGive, ClaimsFail, AreClaims, IsOfDeclared}

-- ---- one block

one_gives : (b : Declared) (k : Block) (c : Claim) (v : Value) → IsOfDeclared b k c → ClaimGives c v → Gives k.form k.content b v
one_gives b k (Param t block) v r g = absurd r
one_gives b k (Declaration d block) v (e, i, f) g = subst (λ (x : Declared). Gives k.form k.content x v) e (subst (λ (x : Block). Gives x.form x.content d.now v) f g)

one_fails : (b : Declared) (k : Block) (c : Claim) (code : Code) → IsOfDeclared b k c → ClaimFails c code → Fails k.form k.content b code
one_fails b k (Param t block) code r h = absurd r
one_fails b k (Declaration d block) code (e, i, f) h = subst (λ (x : Declared). Fails k.form k.content x code) e (subst (λ (x : Block). Fails x.form x.content d.now code) f h)

one_may : (b : Declared) (k : Block) (c : Claim) → IsOfDeclared b k c → MayBeRead c
one_may b k (Param t block) r = absurd r
one_may b k (Declaration d block) r = r.1

-- ---- all blocks

-- who claims a block may be given a value
pub may_be_read : (bs : List Declared) (ks : List Block) (cs : List Claim) → AreClaims IsOfDeclared bs ks cs → All MayBeRead cs
may_be_read [] ks [] r = All-nil MayBeRead
may_be_read [] ks (c ∷ cs) r = absurd r
may_be_read (b ∷ bs) ks [] r = All-nil MayBeRead
may_be_read (b ∷ bs) [] (c ∷ cs) r = absurd r
may_be_read (b ∷ bs) (k ∷ ks) (c ∷ cs) r = All-cons MayBeRead c cs (one_may b k c r.0) (may_be_read bs ks cs r.1)

-- all have their values, and no block is left
pub all_given : (bs : List Declared) (ks : List Block) (cs : List Claim) (vs : List Value) → length bs ≡ length cs → length ks ≤ length cs → AreClaims IsOfDeclared bs ks cs → ClaimsGive cs vs → BlocksGive bs ks vs
all_given [] [] [] [] e l r g = tt
all_given [] [] [] (v ∷ vs) e l r g = absurd g
all_given [] (k ∷ ks) [] vs e l r g = absurd (omega (arith, l))
all_given [] ks (c ∷ cs) vs e l r g = absurd r
all_given (b ∷ bs) ks [] vs e l r g = absurd (omega (arith, e))
all_given (b ∷ bs) [] (c ∷ cs) vs e l r g = absurd r
all_given (b ∷ bs) (k ∷ ks) (c ∷ cs) [] e l r g = absurd g
all_given (b ∷ bs) (k ∷ ks) (c ∷ cs) (v ∷ vs) e l r g = (one_gives b k c v r.0 g.0, all_given bs ks cs vs (omega (arith, e)) (omega (arith, l)) r.1 g.1)

-- a claim fails
failed : (bs : List Declared) (ks : List Block) (cs : List Claim) (first n : ℕ) (code : Code) → AreClaims IsOfDeclared bs ks cs → ClaimsFail cs first n code → BlocksFail bs ks first n code
failed bs ks [] first n code r h = absurd h
failed [] ks (c ∷ cs) first n code r h = absurd r
failed (b ∷ bs) [] (c ∷ cs) first n code r h = absurd r
failed (b ∷ bs) (k ∷ ks) (c ∷ cs) first n code r (inl h) = inl (h.0, one_fails b k c code r.0 h.1)
failed (b ∷ bs) (k ∷ ks) (c ∷ cs) first n code r (inr (v, g, h)) = inr (v, one_gives b k c v r.0 g, failed bs ks cs (first + 1) n code r.1 h)

pub unfit : (bs : List Declared) (ks : List Block) (cs : List Claim) (stop : DataStop) → AreClaims IsOfDeclared bs ks cs → Tells (ClaimsFail cs 1) stop → Tells (BlocksFail bs ks 1) stop
unfit bs ks cs Memory r h = tt
unfit bs ks cs (Unfit n code) r h = failed bs ks cs 1 n code r h

-- the claims give their values, and the next declaration has no block
pub missing : (bs : List Declared) (ks : List Block) (cs : List Claim) (vs : List Value) (first n : ℕ) → n ≡ first + length cs → length cs < length bs → AreClaims IsOfDeclared bs ks cs → ClaimsGive cs vs → BlocksFail bs ks first n codes_of.Missing
missing [] ks [] vs first n e l r g = absurd (omega (arith, l))
missing [] ks (c ∷ cs) vs first n e l r g = absurd r
missing (b ∷ bs) [] [] vs first n e l r g = (omega (arith, e), refl)
missing (b ∷ bs) (k ∷ ks) [] vs first n e l r g = absurd r
missing (b ∷ bs) [] (c ∷ cs) vs first n e l r g = absurd r
missing (b ∷ bs) (k ∷ ks) (c ∷ cs) [] first n e l r g = absurd g
missing (b ∷ bs) (k ∷ ks) (c ∷ cs) (v ∷ vs) first n e l r g = inr (v, one_gives b k c v r.0 g.0, missing bs ks cs vs (first + 1) n (omega (arith, e)) (omega (arith, l)) r.1 g.1)

-- all have their values, and a block is left
pub one_too_many : (bs : List Declared) (ks : List Block) (cs : List Claim) (vs : List Value) (first n : ℕ) → n ≡ first + length cs → length bs ≡ length cs → length cs < length ks → AreClaims IsOfDeclared bs ks cs → ClaimsGive cs vs → BlocksFail bs ks first n codes_of.Extra
one_too_many [] [] [] vs first n e o l r g = absurd (omega (arith, l))
one_too_many [] (k ∷ ks) [] vs first n e o l r g = (omega (arith, e), refl)
one_too_many [] ks (c ∷ cs) vs first n e o l r g = absurd r
one_too_many (b ∷ bs) ks [] vs first n e o l r g = absurd (omega (arith, o))
one_too_many (b ∷ bs) [] (c ∷ cs) vs first n e o l r g = absurd r
one_too_many (b ∷ bs) (k ∷ ks) (c ∷ cs) [] first n e o l r g = absurd g
one_too_many (b ∷ bs) (k ∷ ks) (c ∷ cs) (v ∷ vs) first n e o l r g = inr (v, one_gives b k c v r.0 g.0, one_too_many bs ks cs vs (first + 1) n (omega (arith, e)) (omega (arith, o)) (omega (arith, l)) r.1 g.1)

-- ---- the object that is next

next_made : (ms : List Made) (i : ℕ) (m : Made) → i < length ms → m ≡ get_or ms i m → declared_of (drop i ms) ≡ declared_by m ++ declared_of (drop (i + 1) ms)
next_made ms i m l e = ap declared_of (drop-cons ms i m l ∙ ap (λ (x : Made). x ∷ drop (suc i) ms) (sym e) ∙ ap (λ (k : ℕ). m ∷ drop k ms) (sym (add-one i)))

-- an object that is no declaration has no block
pub skipped : (ms : List Made) (i : ℕ) (m : Made) → declared_by m ≡ [] → i < length ms → m ≡ get_or ms i m → declared_of (drop i ms) ≡ declared_of (drop (i + 1) ms)
skipped ms i m none l e = next_made ms i m l e ∙ ap (λ (ds : List Declared). ds ++ declared_of (drop (i + 1) ms)) none

pub next_declared : (ms : List Made) (i : ℕ) (m : Made) (d : Declared) → m ≡ makes.Declared d → i < length ms → m ≡ get_or ms i m → declared_of (drop i ms) ≡ d ∷ declared_of (drop (i + 1) ms)
next_declared ms i m d is l e = next_made ms i m l e ∙ ap (λ (x : Made). declared_by x ++ declared_of (drop (i + 1) ms)) is

pub first_may : (d : Declared) (ds rest : List Declared) → ds ≡ d ∷ rest → AreDeclared ds → IsDeclared d
first_may d ds rest e may = let all : AreDeclared (d ∷ rest) = subst AreDeclared e may in all.0

pub others_may : (d : Declared) (ds rest : List Declared) → ds ≡ d ∷ rest → AreDeclared ds → AreDeclared rest
others_may d ds rest e may = let all : AreDeclared (d ∷ rest) = subst AreDeclared e may in all.1

-- what blocks give where no stray bytes stand before them
pub data_give : (stray : Bool) (ds : List Declared) (ks : List Block) (vs : List Value) → stray ≡ false → BlocksGive ds ks vs → DataGive stray ds ks vs
data_give stray ds ks vs e h = subst (λ (b : Bool). DataGive b ds ks vs) (sym e) h
