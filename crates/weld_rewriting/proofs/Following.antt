-- A rule whose answer another rule settles.
use Rattle.std.proofs.Common.{◌≡◌, ◌≢◌, ◌-◌, ◌<◌, ◌≤◌, ℕ, zero, suc, false, Option, Some, None, option_map, is_some, refl, ap, sym, ◌∙◌, subst, arith}
use Rattle.weld_tree.specs.ExprTree.{ExprTree}
use Rattle.weld_rewriting.specs.Rewriting.{Rewrites}
use Rattle.weld_rewriting.specs.Within.{StaysWithin}
use Rattle.weld_rewriting.specs.Tidy.{IsTidy}
use Rattle.weld_rewriting.specs.Rules.{Falls, IsSound}
use Rattle.weld_rewriting.specs.Weight.{weight}
use Rattle.weld_rewriting.specs.Sweep.{RootRule, or_same, settled, IsNoMatch, IsStill}
use Rattle.weld_rewriting.specs.Followed.{settled_times, followed}
use Rattle.weld_rewriting.proofs.EachNodes.{each_node}

-- ---- in code

pub no_times : (n : ℕ) (r : RootRule) (e : ExprTree) → n ≡ 0 → settled_times n r e ≡ e
no_times zero r e h = refl
no_times (suc n) r e h = let wrong : ⊥ = cc in absurd wrong

none_of : (o : Option ExprTree) → is_some o ≡ false → o ≡ None
none_of None h = refl
none_of (Some d) h = let wrong : ⊥ = cc in absurd wrong

stays : (n : ℕ) (r : RootRule) (e : ExprTree) → settled r e ≡ e → settled_times n r e ≡ e
stays zero r e h = refl
stays (suc n) r e h = ap (settled_times n r) h ∙ stays n r e h

pub no_match : (n : ℕ) (r : RootRule) (d e : ExprTree) → is_some (r e) ≡ false → d ≡ settled r e → d ≡ settled_times n r e
no_match n r d e h q =
    let same : settled r e ≡ e = ap (λ (o : Option ExprTree). or_same o e) (none_of (r e) h) in
    (q ∙ same) ∙ sym (stays n r e same)

pub one_more : (n m : ℕ) (r : RootRule) (c d e : ExprTree) → n ≢ 0 → m ≡ n - 1 → d ≡ settled r e → c ≡ settled_times m r d → c ≡ settled_times n r e
one_more zero m r c d e h k p q = absurd (h refl)
one_more (suc n) m r c d e h k p q =
    let same : m ≡ n = omega arith in
    (q ∙ ap (λ (x : ℕ). settled_times x r d) same) ∙ ap (settled_times n r) p

-- ---- laws

lighter_once : (s : RootRule) → Falls s → (e : ExprTree) (o : Option ExprTree) → s e ≡ o → weight (or_same o e) ≤ weight e
lighter_once s f e None h = omega arith
lighter_once s f e (Some d) h = let less = f.lighter e d h in omega (arith, less)

lighter_times : (n : ℕ) (s : RootRule) → Falls s → (e : ExprTree) → weight (settled_times n s e) ≤ weight e
lighter_times zero s f e = omega arith
lighter_times (suc n) s f e =
    let once = lighter_once s f e (s e) refl in
    let more = lighter_times n s f (settled s e) in
    omega (arith, once, more)

answered : (n : ℕ) (s : RootRule) (o : Option ExprTree) (d : ExprTree) → option_map (settled_times n s) o ≡ Some d → (c : ExprTree) × (o ≡ Some c) × (settled_times n s c ≡ d)
answered n s None d h = let wrong : ⊥ = cc in absurd wrong
answered n s (Some c) d h = let same : settled_times n s c ≡ d = cc in (c, refl, same)

pub followed_falls : (n : ℕ) (r s : RootRule) → Falls r → Falls s → Falls (followed n r s)
followed_falls n r s f g = record { lighter = λ e d q. by e d (answered n s (r e) d q) }
  where
    by : (e d : ExprTree) → (c : ExprTree) × (r e ≡ Some c) × (settled_times n s c ≡ d) → weight d < weight e
    by e d a =
        let less = f.lighter e a.0 a.1 in
        let more = lighter_times n s g a.0 in
        subst (λ (x : ExprTree). weight x < weight e) a.2 (omega (arith, less, more))

-- what laws of rewriting this rests on
pub record OrderLaws : Type 0 where
  pub itself : (e : ExprTree) → Rewrites e e
  pub in_turn : (c d e : ExprTree) → Rewrites c d → Rewrites d e → Rewrites c e
  pub within : (d e : ExprTree) → StaysWithin d e → IsTidy e → IsTidy d

rewrites_once : OrderLaws → (s : RootRule) → IsSound s → (e : ExprTree) → IsTidy e → (o : Option ExprTree) → s e ≡ o → Rewrites (or_same o e) e
rewrites_once laws s g e tidy None h = laws.itself e
rewrites_once laws s g e tidy (Some d) h = g.rewrites e d tidy h

rewrites_times : OrderLaws → (n : ℕ) (s : RootRule) → IsSound s → (e : ExprTree) → IsTidy e → Rewrites (settled_times n s e) e
rewrites_times laws zero s g e tidy = laws.itself e
rewrites_times laws (suc n) s g e tidy =
    let once : Rewrites (settled s e) e = rewrites_once laws s g e tidy (s e) refl in
    laws.in_turn (settled_times n s (settled s e)) (settled s e) e (rewrites_times laws n s g (settled s e) (laws.within (settled s e) e once.within tidy)) once

pub followed_is_sound : OrderLaws → (n : ℕ) (r s : RootRule) → IsSound r → IsSound s → IsSound (followed n r s)
followed_is_sound laws n r s f g = record { rewrites = λ e d tidy q. by e d tidy (answered n s (r e) d q) }
  where
    by : (e d : ExprTree) → IsTidy e → (c : ExprTree) × (r e ≡ Some c) × (settled_times n s c ≡ d) → Rewrites d e
    by e d tidy a =
        let first : Rewrites a.0 e = f.rewrites e a.0 tidy a.1 in
        let more : Rewrites (settled_times n s a.0) a.0 = rewrites_times laws n s g a.0 (laws.within a.0 e first.within tidy) in
        subst (λ (x : ExprTree). Rewrites x e) a.2 (laws.in_turn (settled_times n s a.0) a.0 e more first)

unmatched : (n : ℕ) (s : RootRule) (o : Option ExprTree) → option_map (settled_times n s) o ≡ None → o ≡ None
unmatched n s None h = refl
unmatched n s (Some c) h = let wrong : ⊥ = cc in absurd wrong

pub followed_still : (n : ℕ) (r s : RootRule) (e : ExprTree) → IsStill (followed n r s) e → IsStill r e
followed_still n r s e h = each_node (IsNoMatch (followed n r s)) (IsNoMatch r) (λ node m. unmatched n s (r node) m) e h
