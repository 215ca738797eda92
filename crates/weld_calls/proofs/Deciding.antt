-- Tests that come to the definitions'.
use Rattle.std.proofs.Common.{◌≡◌, ◌↔◌, Bool, true, false, IsTrue, refl, sym}
use Rattle.weld_data.specs.declared.kind.Kind.{Kind}
use Rattle.weld_data.specs.declared.kind.Kind.TheVariants as kinds
use Rattle.weld_data.specs.Lookup.{same_kind}
use Rattle.weld_tree.specs.TypeTree.{TypeTree}
use Rattle.weld_tree.specs.Types.{IsKey}
use Rattle.weld_calls.specs.CallTypes.{is_key}
use Rattle.weld_calls.proofs.Wanted.{key_is}
use Rattle.weld_calls.proofs.Fitting.{key_true}

same_self : (k : Kind) → same_kind k k ≡ true
same_self kinds.Bool = refl
same_self kinds.I8 = refl
same_self kinds.I16 = refl
same_self kinds.I32 = refl
same_self kinds.I64 = refl
same_self kinds.U8 = refl
same_self kinds.U16 = refl
same_self kinds.U32 = refl
same_self kinds.U64 = refl

-- two tests of one fact
agree : (a b : Bool) → (a ≡ true → b ≡ true) → (b ≡ true → a ≡ true) → a ≡ b
agree true true f g = refl
agree true false f g = sym (f refl)
agree false true f g = g refl
agree false false f g = refl

pub key_decided : (b : Bool) (t : TypeTree) → (IsTrue b ↔ IsKey t) → b ≡ is_key t
key_decided b t h = agree b (is_key t) (λ e. key_true t (h.0 e)) (λ e. h.1 (key_is t e))
