-- A text reads as at most one value, and where it doesn't, for one reason.
use Rattle.std.proofs.Common.{◌≡◌, ◌⊎◌, inl, inr, ℕ, List, refl, subst}
use Rattle.weld_data.specs.Value.{Value}
use Rattle.weld_tree.specs.TypeTree.{TypeTree}
use Rattle.weld_values.specs.declared.fault.DataFault.{DataFault}
use Rattle.weld_values.specs.declared.fault.DataFault.TheVariants.{Syntax, Range, Repeat, Memory}
use Rattle.weld_values.specs.Reading.{ReadsAs, WhyNot, IsInRange, Settles}
use Rattle.weld_values.proofs.Readings.{one_spelling}
use Rattle.weld_values.proofs.Settling.{settles_one, settled_apart}

pub one_reading : (text : List ℕ) (t : TypeTree) (v w : Value) → ReadsAs text t v → ReadsAs text t w → v ≡ w
one_reading text t v w r s = settles_one s.raw v w (subst (λ (x : Value). Settles x v) (one_spelling text t r.raw s.raw r.spelled s.spelled) r.settled) s.settled

pub no_reason : (text : List ℕ) (t : TypeTree) (v : Value) (f : DataFault) → ReadsAs text t v → WhyNot text t f → f ≡ Memory
no_reason text t v Syntax r n = absurd (n r.raw r.spelled)
no_reason text t v Range r n = absurd (n.out (subst IsInRange (one_spelling text t r.raw n.raw r.spelled n.spelled) r.in_range))
no_reason text t v Repeat r n = absurd (settled_apart n.raw v (subst (λ (x : Value). Settles x v) (one_spelling text t r.raw n.raw r.spelled n.spelled) r.settled) n.repeats)
no_reason text t v Memory r n = refl

pub one_reason : (text : List ℕ) (t : TypeTree) (f g : DataFault) → WhyNot text t f → WhyNot text t g → (f ≡ Memory) ⊎ ((g ≡ Memory) ⊎ (f ≡ g))
one_reason text t Memory g n m = inl refl
one_reason text t Syntax Memory n m = inr (inl refl)
one_reason text t Syntax Syntax n m = inr (inr refl)
one_reason text t Syntax Range n m = absurd (n m.raw m.spelled)
one_reason text t Syntax Repeat n m = absurd (n m.raw m.spelled)
one_reason text t Range Memory n m = inr (inl refl)
one_reason text t Range Syntax n m = absurd (m n.raw n.spelled)
one_reason text t Range Range n m = inr (inr refl)
one_reason text t Range Repeat n m = absurd (n.out (subst IsInRange (one_spelling text t m.raw n.raw m.spelled n.spelled) m.in_range))
one_reason text t Repeat Memory n m = inr (inl refl)
one_reason text t Repeat Syntax n m = absurd (m n.raw n.spelled)
one_reason text t Repeat Range n m = absurd (m.out (subst IsInRange (one_spelling text t n.raw m.raw n.spelled m.spelled) n.in_range))
one_reason text t Repeat Repeat n m = inr (inr refl)
