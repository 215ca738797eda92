use Rattle.std.proofs.Common.{◌≡◌, Some, Option, sym, subst, refl, ℤ, arith, Result, Ok, Err, OnOk}
use Rattle.std.proofs.lemmas.Int.{ints}
use Rattle.weld_data.specs.declared.kind.Kind.{Kind}
use Rattle.weld_data.specs.declared.kind.Kind.TheVariants as kinds
use Rattle.weld_data.specs.Kind.{InRange}
use Rattle.weld_data.specs.Value.{Value, number}
use Rattle.weld_builders.specs.Part.{merge_key, combined}
use Rattle.weld_builders.specs.ValueOrder.{ValueMap}
use Rattle.weld_pieces.specs.Keyed.{KeysAreKept}
use Rattle.weld_pieces.specs.Kept.{IsKeptKey}
use Rattle.weld_pieces_tests.proofs.keyed.merge_pair.Goals as goal

kept_more : {T E : Type 0} (r : Result T E) → ((key : Option Kind) (f : Option ℤ → ℤ → ℤ) (m : ValueMap ℤ) (k : Value) (x : ℤ) → KeysAreKept key m → IsKeptKey key k → KeysAreKept key (merge_key f m k x))
    → (f : Option ℤ → ℤ → ℤ) (m n : ValueMap ℤ) (k x : ℤ) → OnOk r (n ≡ merge_key f m (number kinds.I64 k) x) → KeysAreKept (Some kinds.I64) m → InRange kinds.I64 k → OnOk r (KeysAreKept (Some kinds.I64) n)
kept_more (Ok y) law f m n k x is kept range = subst (λ (o : ValueMap ℤ). KeysAreKept (Some kinds.I64) o) (sym is) (law (Some kinds.I64) f m (number kinds.I64 k) x kept (refl, range))
kept_more (Err e) law f m n k x is kept range = tt

pub returns-clause-kept : goal.returns-clause-kept
returns-clause-kept c =
    kept_more c.merge_number.result c.kept_keys_stay.ensures.merge (combined c.args.part.now.op c.args.part.now.kind) c.args.part.now.numbers c.merge_number.new.self.numbers _ _
    c.merge_number.ensures.ok c.requires.kept (record { low = omega (arith, ints); high = omega (arith, ints) })
