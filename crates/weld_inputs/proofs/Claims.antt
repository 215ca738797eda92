-- Claims on blocks, cut into halves and joined again.
use Rattle.std.proofs.Common.{◌≡◌, inl, inr, sym, ◌∙◌, ℕ, suc, ◌+◌, ◌<◌, ◌≤◌, List, [], ◌∷◌, ◌++◌, length, map, drop, get_or, ap, subst, append_assoc, append-nil, add-one, arith}
use Rattle.std.proofs.Math.Seq.{drop-cons}
use Rattle.std.proofs.lemmas.List.{drop_all}
use Rattle.std.specs.Prelude.{Ok, Err, IfOk, IfErr}
use Rattle.std.specs.declared.result.Result.{Result}
use Rattle.weld_data.specs.Value.{Value}
use Rattle.weld_tree.specs.declared.code.Code.{Code}
use Rattle.weld_inputs.specs.declared.arguments.stop.DataStop.{DataStop}
use Rattle.weld_inputs.specs.declared.arguments.stop.DataStop.TheVariants.{Unfit, Memory}
use Rattle.weld_inputs.specs.declared.claim.Claim.{Claim}
use Rattle.weld_inputs.specs.Arguments.{Tells}
use Rattle.weld_inputs.specs.Claims.{ClaimGives, ClaimFails, ClaimsGive, ClaimsFail, IsReading}

-- ---- claims beside one another

pub give_both : (cs ds : List Claim) (vs ws : List Value) → ClaimsGive cs vs → ClaimsGive ds ws → ClaimsGive (cs ++ ds) (vs ++ ws)
give_both [] ds [] ws g h = h
give_both [] ds (v ∷ vs) ws g h = absurd g
give_both (c ∷ cs) ds [] ws g h = absurd g
give_both (c ∷ cs) ds (v ∷ vs) ws g h = (g.0, give_both cs ds vs ws g.1 h)

-- what is wrong with the first claims first is so with all
pub first_fails : (cs ds : List Claim) (first n : ℕ) (code : Code) → ClaimsFail cs first n code → ClaimsFail (cs ++ ds) first n code
first_fails [] ds first n code h = absurd h
first_fails (c ∷ cs) ds first n code (inl h) = inl h
first_fails (c ∷ cs) ds first n code (inr (v, g, h)) = inr (v, g, first_fails cs ds (first + 1) n code h)

-- where the first claims give values, what is wrong with the others first is so with all
pub later_fails : (cs ds : List Claim) (vs : List Value) (first n : ℕ) (code : Code) → ClaimsGive cs vs → ClaimsFail ds (first + length cs) n code → ClaimsFail (cs ++ ds) first n code
later_fails [] ds [] first n code g h = subst (λ (k : ℕ). ClaimsFail ds k n code) (omega arith) h
later_fails [] ds (v ∷ vs) first n code g h = absurd g
later_fails (c ∷ cs) ds [] first n code g h = absurd g
later_fails (c ∷ cs) ds (v ∷ vs) first n code g h =
    inr (v, g.0, later_fails cs ds vs (first + 1) n code g.1 (subst (λ (k : ℕ). ClaimsFail ds k n code) (omega arith) h))

pub first_stops : (cs ds : List Claim) (first : ℕ) (stop : DataStop) → Tells (ClaimsFail cs first) stop → Tells (ClaimsFail (cs ++ ds) first) stop
first_stops cs ds first Memory h = tt
first_stops cs ds first (Unfit n code) h = first_fails cs ds first n code h

pub later_stops : (cs ds : List Claim) (vs : List Value) (first second : ℕ) (stop : DataStop) → second ≡ first + length cs → ClaimsGive cs vs → Tells (ClaimsFail ds second) stop → Tells (ClaimsFail (cs ++ ds) first) stop
later_stops cs ds vs first second Memory e g h = tt
later_stops cs ds vs first second (Unfit n code) e g h = later_fails cs ds vs first n code g (subst (λ (k : ℕ). ClaimsFail ds k n code) e h)

-- want of memory tells nothing
pub memory_stops : (P : ℕ → Code → Type 0) (stop : DataStop) → stop ≡ Memory → Tells P stop
memory_stops P stop e = subst (Tells P) (sym e) tt

-- ---- claims one after another

-- the claim at this place, and those behind it
pub next_claim : (cs : List Claim) (i : ℕ) (c : Claim) → i < length cs → c ≡ get_or cs i c → drop i cs ≡ c ∷ drop (i + 1) cs
next_claim cs i c l e = drop-cons cs i c l ∙ ap (λ (x : Claim). x ∷ drop (suc i) cs) (sym e) ∙ ap (λ (k : ℕ). c ∷ drop k cs) (sym (add-one i))

-- the first claims gave these values, and the next one has this number
pub record ReadSoFar (cs : List Claim) (first : ℕ) (i : ℕ) (number : ℕ) (vs : List Value) : Type 0 where
  pub counted : number ≡ first + i
  pub given : (ws : List Value) → ClaimsGive (drop i cs) ws → ClaimsGive cs (vs ++ ws)
  pub failed : (n : ℕ) (code : Code) → ClaimsFail (drop i cs) number n code → ClaimsFail cs first n code

pub none_read : (cs : List Claim) (first : ℕ) → ReadSoFar cs first 0 first []
none_read cs first = record { counted = omega arith; given = λ ws h. h; failed = λ n code h. h }

pub one_read : (cs : List Claim) (first i : ℕ) (c : Claim) (number : ℕ) (vs ws : List Value) (v : Value) → i < length cs → c ≡ get_or cs i c → ReadSoFar cs first i number vs → ws ≡ vs ++ v ∷ [] → ClaimGives c v → ReadSoFar cs first (i + 1) (number + 1) ws
one_read cs first i c number vs ws v l e s a g = subst (ReadSoFar cs first (i + 1) (number + 1)) (sym a) (record {
  counted = omega (arith, s.counted);
  given = λ us h. subst (ClaimsGive cs) (sym (append_assoc vs (v ∷ []) us)) (s.given (v ∷ us) (subst (λ (ds : List Claim). ClaimsGive ds (v ∷ us)) (sym (next_claim cs i c l e)) (g, h)));
  failed = λ n code h. s.failed n code (subst (λ (ds : List Claim). ClaimsFail ds number n code) (sym (next_claim cs i c l e)) (inr (v, g, h)));
})

pub one_stops : (cs : List Claim) (first i : ℕ) (c : Claim) (number : ℕ) (vs : List Value) (stop : DataStop) → i < length cs → c ≡ get_or cs i c → ReadSoFar cs first i number vs → Tells (λ (n : ℕ) (code : Code). (n ≡ number) × ClaimFails c code) stop → Tells (ClaimsFail cs first) stop
one_stops cs first i c number vs Memory l e s h = tt
one_stops cs first i c number vs (Unfit n code) l e s h = s.failed n code (subst (λ (ds : List Claim). ClaimsFail ds number n code) (sym (next_claim cs i c l e)) (inl h))

pub all_read : (cs : List Claim) (first i number : ℕ) (vs : List Value) → length cs ≤ i → ReadSoFar cs first i number vs → ClaimsGive cs vs
all_read cs first i number vs l s = subst (ClaimsGive cs) (append-nil vs) (s.given [] (subst (λ (ds : List Claim). ClaimsGive ds []) (sym (drop_all i cs l)) tt))

-- ---- values appended one after another

pub append_more : {A : Type 0} (view : A → Value) (items new all : List Value) (left more : List A) (x : A) → items ++ map view left ≡ all → left ≡ x ∷ more → new ≡ items ++ view x ∷ [] → new ++ map view more ≡ all
append_more view items new all left more x e l n =
    ap (λ (vs : List Value). vs ++ map view more) n ∙ append_assoc items (view x ∷ []) (map view more) ∙ ap (λ (xs : List _). items ++ map view xs) (sym l) ∙ e

-- ---- both halves

-- the values of both halves, where memory was there for them
pub both_read : (cs ds : List Claim) (vs ws : List Value) (first : ℕ) (answer : Result (List Value) DataStop) → ClaimsGive cs vs → ClaimsGive ds ws
    → IfOk answer (λ all. all ≡ vs ++ ws) → IfErr answer (λ stop. stop ≡ Memory) → IsReading (cs ++ ds) first answer
both_read cs ds vs ws first (Ok all) g h o e = (subst (ClaimsGive (cs ++ ds)) (sym o) (give_both cs ds vs ws g h), tt)
both_read cs ds vs ws first (Err stop) g h o e = (tt, memory_stops (ClaimsFail (cs ++ ds) first) stop e)

-- what an answer that is known tells
pub gave : (cs : List Claim) (first : ℕ) (answer : Result (List Value) DataStop) (vs : List Value) → answer ≡ Ok vs → IsReading cs first answer → ClaimsGive cs vs
gave cs first answer vs e r = subst (λ (x : Result (List Value) DataStop). IfOk x (ClaimsGive cs)) e r.0

pub stopped : (cs : List Claim) (first : ℕ) (answer : Result (List Value) DataStop) (stop : DataStop) → answer ≡ Err stop → IsReading cs first answer → Tells (ClaimsFail cs first) stop
stopped cs first answer stop e r = subst (λ (x : Result (List Value) DataStop). IfErr x (Tells (ClaimsFail cs first))) e r.1
