-- What is told of a list follows from what is told of its elements.
use Rattle.std.proofs.Common.{◌≡◌, inl, inr, sym, List, [], ◌∷◌, ◌++◌, refl, ap, ℤ, arith, subst}
use Rattle.std.proofs.lemmas.Int.{ints}
use Rattle.weld_data.specs.declared.kind.Kind.{Kind}
use Rattle.weld_data.specs.declared.kind.Kind.TheVariants as kinds
use Rattle.weld_data.specs.Kind.{InRange}
use Rattle.weld_data.specs.Value.{Value, Values, number, list, values, no_values, and_value}
use Rattle.weld_values.specs.declared.flaw.Flaw.{Flaw}
use Rattle.weld_values.specs.declared.flaw.Flaw.TheVariants.{Fine, Repeat, Range}
use Rattle.weld_values.specs.Reading.{IsInRange, AreInRange, RepeatsKey, SomeRepeatsKey, Settles, SettleAll}
use Rattle.weld_values.specs.Judging.{Judged, worse, IsFarOut, IsClamped}

in_range_push : (raws : List Value) (raw : Value) → AreInRange (values raws) → IsInRange raw → AreInRange (values (raws ++ raw ∷ []))
in_range_push [] raw h r = (r, tt)
in_range_push (x ∷ xs) raw h r = (h.0, in_range_push xs raw h.1 r)

in_range_parts : (raws : List Value) (raw : Value) → AreInRange (values (raws ++ raw ∷ [])) → AreInRange (values raws) × IsInRange raw
in_range_parts [] raw h = (tt, h.0)
in_range_parts (x ∷ xs) raw h = let p = in_range_parts xs raw h.1 in ((h.0, p.0), p.1)

settle_push_by : (x : Value) (xs : List Value) (w : Value) (ws : List Value) (raw v y : Value) (zs : Values) → and_value w (values ws) ≡ and_value y zs → Settles x y → SettleAll (values xs) zs → (SettleAll (values xs) (values ws) → SettleAll (values (xs ++ raw ∷ [])) (values (ws ++ v ∷ []))) → SettleAll (values (x ∷ xs ++ raw ∷ [])) (values (w ∷ ws ++ v ∷ []))
settle_push_by x xs w ws raw v y zs e h more again =
    let head : y ≡ w = cc in
    let tail : zs ≡ values ws = cc in
    (w, values (ws ++ v ∷ []), refl, subst (Settles x) head h, again (subst (SettleAll (values xs)) tail more))

settle_push : (raws vs : List Value) (raw v : Value) → SettleAll (values raws) (values vs) → Settles raw v → SettleAll (values (raws ++ raw ∷ [])) (values (vs ++ v ∷ []))
settle_push [] [] raw v h s = (v, no_values, refl, s, refl)
settle_push [] (y ∷ ys) raw v h s = absurd (cc)
settle_push (x ∷ xs) [] raw v (y, zs, e, h, more) s = absurd (cc)
settle_push (x ∷ xs) (w ∷ ws) raw v (y, zs, e, h, more) s = settle_push_by x xs w ws raw v y zs e h more (λ t. settle_push xs ws raw v t s)

repeats_left : (raws : List Value) (raw : Value) → SomeRepeatsKey (values raws) → SomeRepeatsKey (values (raws ++ raw ∷ []))
repeats_left [] raw h = elim h [ ]
repeats_left (x ∷ xs) raw (inl h) = inl h
repeats_left (x ∷ xs) raw (inr h) = inr (repeats_left xs raw h)

repeats_right : (raws : List Value) (raw : Value) → RepeatsKey raw → SomeRepeatsKey (values (raws ++ raw ∷ []))
repeats_right [] raw h = inl h
repeats_right (x ∷ xs) raw h = inr (repeats_right xs raw h)

settled_is : (raws vs : List Value) → Settles (list (values raws)) (list (values vs)) → SettleAll (values raws) (values vs)
settled_is raws vs (ws, e, h) = let same : ws ≡ values vs = cc in subst (SettleAll (values raws)) same h

-- one element more
pub judged_push : (f g : Flaw) (raws vs : List Value) (raw v : Value) → Judged f (list (values raws)) (list (values vs)) → Judged g raw v → Judged (worse f g) (list (values (raws ++ raw ∷ []))) (list (values (vs ++ v ∷ [])))
judged_push Fine Fine raws vs raw v h k = (in_range_push raws raw h.0 k.0, (values (vs ++ v ∷ []), refl, settle_push raws vs raw v (settled_is raws vs h.1) k.1))
judged_push Fine Repeat raws vs raw v h k = (in_range_push raws raw h.0 k.0, repeats_right raws raw k.1)
judged_push Fine Range raws vs raw v h k = λ r. k (in_range_parts raws raw r).1
judged_push Repeat Fine raws vs raw v h k = (in_range_push raws raw h.0 k.0, repeats_left raws raw h.1)
judged_push Repeat Repeat raws vs raw v h k = (in_range_push raws raw h.0 k.0, repeats_left raws raw h.1)
judged_push Repeat Range raws vs raw v h k = λ r. k (in_range_parts raws raw r).1
judged_push Range g raws vs raw v h k = λ r. h (in_range_parts raws raw r).0

pub judged_none : Judged Fine (list no_values) (list no_values)
judged_none = (tt, (no_values, refl, refl))

-- a number that is far out is of no kind
far_of_no_kind : (kind : Kind) (x : ℤ) → IsFarOut x → InRange kind x → ⊥
far_of_no_kind kinds.Bool x (inl h) r = omega (arith, ints)
far_of_no_kind kinds.Bool x (inr h) r = omega (arith, ints)
far_of_no_kind kinds.I8 x (inl h) r = omega (arith, ints)
far_of_no_kind kinds.I8 x (inr h) r = omega (arith, ints)
far_of_no_kind kinds.I16 x (inl h) r = omega (arith, ints)
far_of_no_kind kinds.I16 x (inr h) r = omega (arith, ints)
far_of_no_kind kinds.I32 x (inl h) r = omega (arith, ints)
far_of_no_kind kinds.I32 x (inr h) r = omega (arith, ints)
far_of_no_kind kinds.I64 x (inl h) r = omega (arith, ints)
far_of_no_kind kinds.I64 x (inr h) r = omega (arith, ints)
far_of_no_kind kinds.U8 x (inl h) r = omega (arith, ints)
far_of_no_kind kinds.U8 x (inr h) r = omega (arith, ints)
far_of_no_kind kinds.U16 x (inl h) r = omega (arith, ints)
far_of_no_kind kinds.U16 x (inr h) r = omega (arith, ints)
far_of_no_kind kinds.U32 x (inl h) r = omega (arith, ints)
far_of_no_kind kinds.U32 x (inr h) r = omega (arith, ints)
far_of_no_kind kinds.U64 x (inl h) r = omega (arith, ints)
far_of_no_kind kinds.U64 x (inr h) r = omega (arith, ints)

-- a number that may stand for another stands for itself where it is of the kind
pub number_fine : (kind : Kind) (x z : ℤ) → InRange kind x → IsClamped x z → Judged Fine (number kind z) (number kind x)
number_fine kind x z r (inl e) = (subst (InRange kind) e r, ap (number kind) e)
number_fine kind x z r (inr p) = absurd (far_of_no_kind kind x p.0 r)

-- and else the other is not of the kind either
pub number_out : (kind : Kind) (x z : ℤ) (v : Value) → (InRange kind x → ⊥) → IsClamped x z → Judged Range (number kind z) v
number_out kind x z v r (inl e) = λ h. r (subst (InRange kind) (sym e) h)
number_out kind x z v r (inr p) = λ h. far_of_no_kind kind z p.1 h
