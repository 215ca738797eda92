-- What names from outside stand for.
use Rattle.std.proofs.Common.{◌≡◌, ℕ, zero, suc, List, [], ◌∷◌, slice_get, Option, Some, None, IfSome, Bor, ap, ◌∙◌}
use Rattle.weld_data.specs.Value.{Value, values}
use Rattle.weld_built.specs.Pair.{pair}
use Rattle.weld_builders.specs.Outcome.{done}
use Rattle.weld_meaning.specs.Thing.{plain, field_of, value_at}
use Rattle.weld_meaning.specs.Environment.{look_for}
use Rattle.weld_eval.specs.FrameView.{env_of}
use Rattle.weld_eval.specs.NamesView.{env_of_names}
use Rattle.weld_eval.specs.NumberAnswers.{NumberAnswer}
use Rattle.weld_eval.specs.ShortView.{view_short}
use Rattle.weld_eval.specs.declared.short.Short.{Short}
use Rattle.weld_eval.specs.SlotView.{slot_thing}
use Rattle.weld_eval.specs.declared.frame.Frame.{Frame}
use Rattle.weld_eval.specs.declared.frame.Frame.TheVariants as links
use Rattle.weld_eval.specs.declared.frame.Slot.{Slot}
use Rattle.weld_eval.specs.declared.names.Names.{Names}
use Rattle.weld_eval.proofs.Below.{found_below}

pub first_of_pair : (v x y : Value) (n : ℕ) → v ≡ pair x y → n ≡ 0 → field_of n (plain v) ≡ done (plain x)
first_of_pair v x y n is none = ap (λ m. field_of m (plain v)) none ∙ ap (λ u. field_of 0 (plain u)) is

pub second_of_pair : (v x y : Value) (n : ℕ) → v ≡ pair x y → n ≡ 1 → field_of n (plain v) ≡ done (plain y)
second_of_pair v x y n is first = ap (λ m. field_of m (plain v)) first ∙ ap (λ u. field_of 1 (plain u)) is

-- a value that stands at an index
pub value_there : (vs : List Value) (i : ℕ) (v w : Value) → slice_get vs i ≡ Some v → v ≡ w → value_at i (values vs) ≡ done w
value_there [] i v w is e = let no : ⊥ = cc in absurd no
value_there (x ∷ vs) zero v w is e = let same : x ≡ v = cc in ap done (same ∙ e)
value_there (x ∷ vs) (suc i) v w is e = value_there vs i v w is e

pub number_there : (r : Option Short) (vs : List Value) (i : ℕ) (v : Value) → slice_get vs i ≡ Some v → NumberAnswer r v → IfSome r (λ n. value_at i (values vs) ≡ done (view_short n))
number_there (Some n) vs i v is e = value_there vs i v (view_short n) is e
number_there None vs i v is e = tt

-- what is found below names that don't have it
pub sought_below : (o : Option Slot) (f : Frame) (ns : Bor Names) (r : Bor Frame) (s : ℕ) → f ≡ links.Names ns r → look_for s (env_of_names ns.now) ≡ None → IfSome o (λ slot. look_for s (env_of r.now) ≡ Some (slot_thing slot)) → IfSome o (λ slot. look_for s (env_of f) ≡ Some (slot_thing slot))
sought_below (Some slot) f ns r s is none h = found_below f ns r s (slot_thing slot) is none h
sought_below None f ns r s is none h = h
