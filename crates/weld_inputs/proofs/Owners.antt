-- Who claims blocks, one by one.
use Rattle.std.proofs.Common.{◌≡◌, sym, ◌∙◌, ℕ, zero, suc, ◌+◌, ◌<◌, Bool, true, false, List, [], ◌∷◌, ◌++◌, length, drop, ap, subst, append_assoc, append-nil, add-one, arith}
use Rattle.std.proofs.Math.Seq.{drop-cons}
use Rattle.std.proofs.lemmas.List.{drop_all, length-append}
use Rattle.std.proofs.lemmas.Option.{none-some, slice_get_within, get_or_from_slice_get}
use Rattle.std.specs.Prelude.{Some, None, slice_get}
use Rattle.weld_job.specs.Job.{Block}
use Rattle.weld_inputs.specs.declared.claim.Claim.{Claim}
use Rattle.weld_inputs.specs.Claims.{AreClaims, IsWhole}

-- the block at a place, and those after it
block_at : (ks : List Block) (at : ℕ) (block : Block) → Some block ≡ slice_get ks at → drop at ks ≡ block ∷ drop (at + 1) ks
block_at ks at block e =
    drop-cons ks at block (slice_get_within ks at block (sym e))
    ∙ ap (λ (x : Block). x ∷ drop (suc at) ks) (get_or_from_slice_get ks at block block (sym e))
    ∙ ap (λ (n : ℕ). block ∷ drop n ks) (sym (add-one at))

-- no block is left
no_block_at : (ks : List Block) (at : ℕ) → None ≡ slice_get ks at → drop at ks ≡ []
no_block_at [] at e = drop_all at [] (omega arith)
no_block_at (k ∷ ks) zero e = absurd (none-some k e)
no_block_at (k ∷ ks) (suc at) e = no_block_at ks at e

module _ {A : Type 0} (R : A → Block → Claim → Type 0) where
  -- all before those who are left have these claims
  pub record ClaimedSoFar (owners left : List A) (ks : List Block) (cs : List Claim) : Type 0 where
    pub counted : length owners ≡ length cs + length left
    pub joins : (more : List Claim) → AreClaims R left (drop (length cs) ks) more → AreClaims R owners ks (cs ++ more)

  pub none_claimed : (owners : List A) (ks : List Block) → ClaimedSoFar owners owners ks []
  none_claimed owners ks = record { counted = omega arith; joins = λ more h. h }

  -- one more has its claim
  pub one_claimed : (owners left rest : List A) (ks : List Block) (cs new : List Claim) (a : A) (k : Block) (c : Claim) → left ≡ a ∷ rest → Some k ≡ slice_get ks (length cs) → R a k c
      → new ≡ cs ++ c ∷ [] → ClaimedSoFar owners left ks cs → ClaimedSoFar owners rest ks new
  one_claimed owners left rest ks cs new a k c l e r n s =
      let one_longer : length cs + 1 ≡ length (cs ++ c ∷ []) = sym (length-append cs (c ∷ [])) in
      let one_fewer : length left ≡ suc (length rest) = ap length l in
      subst (ClaimedSoFar owners rest ks) (sym n) (record {
        counted = omega (arith, s.counted, one_longer, one_fewer);
        joins = λ more h. subst (AreClaims R owners ks) (sym (append_assoc cs (c ∷ []) more))
            (s.joins (c ∷ more)
            (subst (λ (xs : List A). AreClaims R xs (drop (length cs) ks) (c ∷ more)) (sym l)
            (subst (λ (ls : List Block). AreClaims R (a ∷ rest) ls (c ∷ more)) (sym (block_at ks (length cs) k e))
            (r, subst (λ (n : ℕ). AreClaims R rest (drop n ks) more) (sym one_longer) h))));
      })

  nobody : (ks : List Block) (left : List A) → left ≡ [] → AreClaims R left ks []
  nobody ks left e = subst (λ (xs : List A). AreClaims R xs ks []) (sym e) tt

  no_block : (a : A) (rest : List A) (ks : List Block) → ks ≡ [] → AreClaims R (a ∷ rest) ks []
  no_block a rest ks e = subst (λ (ls : List Block). AreClaims R (a ∷ rest) ls []) (sym e) tt

  -- all have their claims
  pub all_claimed : (owners left : List A) (ks : List Block) (cs : List Claim) → left ≡ [] → ClaimedSoFar owners left ks cs → AreClaims R owners ks cs
  all_claimed owners left ks cs e s = subst (AreClaims R owners ks) (append-nil cs) (s.joins [] (nobody (drop (length cs) ks) left e))

  pub as_many : (owners left : List A) (ks : List Block) (cs : List Claim) → left ≡ [] → ClaimedSoFar owners left ks cs → length owners ≡ length cs
  as_many owners left ks cs e s = let none : length left ≡ 0 = ap length e in omega (arith, s.counted, none)

  -- the next one has no block
  pub no_more_claimed : (owners left rest : List A) (ks : List Block) (cs : List Claim) (a : A) → left ≡ a ∷ rest → None ≡ slice_get ks (length cs) → ClaimedSoFar owners left ks cs → AreClaims R owners ks cs
  no_more_claimed owners left rest ks cs a l e s =
      subst (AreClaims R owners ks) (append-nil cs) (s.joins []
      (subst (λ (xs : List A). AreClaims R xs (drop (length cs) ks) []) (sym l) (no_block a rest (drop (length cs) ks) (no_block_at ks (length cs) e))))

  pub fewer : (owners left rest : List A) (ks : List Block) (cs : List Claim) (a : A) → left ≡ a ∷ rest → ClaimedSoFar owners left ks cs → length cs < length owners
  fewer owners left rest ks cs a l s = let one_fewer : length left ≡ suc (length rest) = ap length l in omega (arith, s.counted, one_fewer)

-- ---- whether all have one

pub whole : (owners claims : ℕ) (b : Bool) → b ≡ true → IsWhole owners claims b → owners ≡ claims
whole owners claims true e w = w
whole owners claims false e w = absurd (let bad : false ≡ true = e in cc)

pub not_whole : (owners claims : ℕ) (b : Bool) → b ≡ false → IsWhole owners claims b → claims < owners
not_whole owners claims true e w = absurd (let bad : true ≡ false = e in cc)
not_whole owners claims false e w = w
