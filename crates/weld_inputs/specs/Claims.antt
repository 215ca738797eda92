-- Blocks with who claims them, and which values they give.
use Rattle.std.specs.Prelude.{◌≡◌, ◌⊎◌, ℕ, ◌+◌, ◌<◌, Bool, true, false, List, [], ◌∷◌, IfOk, IfErr}
use Rattle.std.specs.declared.result.Result.{Result}
use Rattle.weld_data.specs.Value.{Value}
use Rattle.weld_tree.specs.declared.binder.Binder.{Binder}
use Rattle.weld_tree.specs.declared.code.Code.{Code}
use Rattle.weld_job.specs.Extents.{block_of}
use Rattle.weld_job.specs.Job.{Block}
use Rattle.weld_meaning.specs.Typing.{noted_type}
use Rattle.weld_values.specs.Judging.{IsReadable}
use Rattle.weld_script.specs.declared.made.Declared.{Declared}
use Rattle.weld_script.specs.Script.{IsDeclared}
use Rattle.weld_inputs.specs.declared.arguments.stop.DataStop.{DataStop}
use Rattle.weld_inputs.specs.Arguments.{Gives, Fails, Tells}
use Rattle.weld_inputs.specs.Inputs.{Gives as InputGives, Fails as InputFails}
use Rattle.weld_inputs.specs.declared.claim.Claim.{Claim}
use Rattle.weld_inputs.specs.declared.claim.Claim.TheVariants.{Param, Declaration}

-- ---- one claim

-- the parameter's type, or the declaration, is one that text may be read as
abbrev pub MayBeRead : Claim → Type 0
MayBeRead (Param t block) = IsReadable t.now
MayBeRead (Declaration d block) = IsDeclared d.now

-- the block gives who claims it this value
abbrev pub ClaimGives : Claim → Value → Type 0
ClaimGives (Param t block) v = Gives block.form block.content.now t.now v
ClaimGives (Declaration d block) v = InputGives block.form block.content.now d.now v

-- the block gives none, for the reason of this code
abbrev pub ClaimFails : Claim → Code → Type 0
ClaimFails (Param t block) code = Fails block.form block.content.now t.now code
ClaimFails (Declaration d block) code = InputFails block.form block.content.now d.now code

-- ---- claims in order

-- each claim gives its value
abbrev pub ClaimsGive : List Claim → List Value → Type 0
ClaimsGive [] [] = Unit {0}
ClaimsGive [] (v ∷ vs) = ⊥
ClaimsGive (c ∷ cs) [] = ⊥
ClaimsGive (c ∷ cs) (v ∷ vs) = ClaimGives c v × ClaimsGive cs vs

-- the claim at this number is the first that gives none, where the first here has the number `first`
abbrev pub ClaimsFail : List Claim → ℕ → ℕ → Code → Type 0
ClaimsFail [] first number code = ⊥
ClaimsFail (c ∷ cs) first number code =
    ((number ≡ first) × ClaimFails c code)
    ⊎ ((v : Value) × ClaimGives c v × ClaimsFail cs (first + 1) number code)

-- what reading the claims comes to: their values, or what is wrong first, or want of memory
abbrev pub IsReading : List Claim → ℕ → Result (List Value) DataStop → Type 0
IsReading cs first answer = IfOk answer (ClaimsGive cs) × IfErr answer (Tells (ClaimsFail cs first))

-- ---- who claims which block

-- the claim is the parameter's, on this block
abbrev pub IsOfParam : Binder → Block → Claim → Type 0
IsOfParam b k (Param t block) =
    (t.now ≡ noted_type b.note) × IsReadable t.now × (block_of block ≡ k)
IsOfParam b k (Declaration d block) = ⊥

-- the claim is the declaration's, on this block
abbrev pub IsOfDeclared : Declared → Block → Claim → Type 0
IsOfDeclared d k (Param t block) = ⊥
IsOfDeclared d k (Declaration e block) = (e.now ≡ d) × IsDeclared e.now × (block_of block ≡ k)

-- in order each of these has a claim on its block, as many as there are blocks
abbrev pub AreClaims : {A : Type 0} → (A → Block → Claim → Type 0)
    → List A → List Block → List Claim → Type 0
AreClaims R [] ks [] = Unit {0}
AreClaims R [] ks (c ∷ cs) = ⊥
AreClaims R (a ∷ owners) [] [] = Unit {0}
AreClaims R (a ∷ owners) [] (c ∷ cs) = ⊥
AreClaims R (a ∷ owners) (k ∷ ks) [] = ⊥
AreClaims R (a ∷ owners) (k ∷ ks) (c ∷ cs) = R a k c × AreClaims R owners ks cs

-- whether there are as many claims as there are who could have one, or fewer
abbrev pub IsWhole : ℕ → ℕ → Bool → Type 0
IsWhole owners claims true = owners ≡ claims
IsWhole owners claims false = claims < owners
