-- Which arm of a guarded merge merges.
use Rattle.std.proofs.Common.{◌≡◌, Bool, true, false, ◌&&◌, ◌||◌, Option, Some, None, refl, sym, ap, ◌∙◌, subst}
use Rattle.weld_tree.specs.ExprTree.{At, ExprTree, leaf, one, two, three, many, let_in, loop, iterate, Two, binary, and, or, look_up, key_exists, merge, Three, if_else, select, slice}
use Rattle.weld_safe.specs.Test.{is_safe}
use Rattle.weld_meaning.specs.Available.{chain_of}
use Rattle.weld_substitution.specs.Redex.{noted}
use Rattle.weld_predicate.specs.Guard.{Merger, merger_of, same_chain, is_merge, is_some_merger, is_guarded, is_guard}
use Rattle.weld_predicate.specs.Predicating.{MergesIntoMerger}

both : (a b : Bool) → (a && b) ≡ true → (a ≡ true) × (b ≡ true)
both true b h = (refl, h)
both false b h = let wrong : ⊥ = cc in absurd wrong

merges : (o : Two) → is_merge o ≡ true → o ≡ merge
merges (binary op) h = let wrong : ⊥ = cc in absurd wrong
merges and h = let wrong : ⊥ = cc in absurd wrong
merges or h = let wrong : ⊥ = cc in absurd wrong
merges look_up h = let wrong : ⊥ = cc in absurd wrong
merges key_exists h = let wrong : ⊥ = cc in absurd wrong
merges merge h = refl

some : (m : Option Merger) → is_some_merger m ≡ true → (n : Merger) × (m ≡ Some n)
some None h = let wrong : ⊥ = cc in absurd wrong
some (Some n) h = (n, refl)

pub arm_merges : (e f : ExprTree) → is_guarded e f ≡ true → MergesIntoMerger e
arm_merges (leaf b l) f h = let wrong : ⊥ = cc in absurd wrong
arm_merges (one b o e) f h = let wrong : ⊥ = cc in absurd wrong
arm_merges (two b o e v) f h =
    let first = both (is_merge o) (same_chain (chain_of e) (chain_of f) && (is_some_merger (merger_of (noted e)) && is_safe v)) h in
    let second = both (same_chain (chain_of e) (chain_of f)) (is_some_merger (merger_of (noted e)) && is_safe v) first.1 in
    let third = both (is_some_merger (merger_of (noted e))) (is_safe v) second.1 in
    let m = some (merger_of (noted e)) third.0 in (merges o first.0, m.0, m.1)
arm_merges (three b o d e g) f h = let wrong : ⊥ = cc in absurd wrong
arm_merges (many b o es) f h = let wrong : ⊥ = cc in absurd wrong
arm_merges (let_in b n e g) f h = let wrong : ⊥ = cc in absurd wrong
arm_merges (loop b ls e n m x g) f h = let wrong : ⊥ = cc in absurd wrong
arm_merges (iterate b e n g) f h = let wrong : ⊥ = cc in absurd wrong

other : (o : Three) (a : At) (c e f : ExprTree) → is_guard (three a o c e f) ≡ true → is_guarded e f ≡ false → is_guarded f e ≡ true
other if_else a c e f h q = by (is_guarded e f) q h
  where
    by : (b : Bool) → b ≡ false → (b || is_guarded f e) ≡ true → is_guarded f e ≡ true
    by true q h = let wrong : ⊥ = cc in absurd wrong
    by false q h = h
other select a c e f h q = let wrong : ⊥ = cc in absurd wrong
other slice a c e f h q = let wrong : ⊥ = cc in absurd wrong

-- where the first arm doesn't, the second does
pub other_merges : (n : ExprTree) (a : At) (o : Three) (c e f x y z : ExprTree) (b : Bool) → n ≡ three a o c e f → is_guard n ≡ true → b ≡ is_guarded x y → b ≡ false → x ≡ e → y ≡ f → z ≡ f → MergesIntoMerger z
other_merges n a o c e f x y z b is h tested q p r s =
    let guard : is_guard (three a o c e f) ≡ true = ap is_guard (sym is) ∙ h in
    let not_first : is_guarded e f ≡ false = ap (λ (u : ExprTree). is_guarded u f) (sym p) ∙ ap (is_guarded x) (sym r) ∙ sym tested ∙ q in
    subst MergesIntoMerger (sym s) (arm_merges f e (other o a c e f guard not_first))
