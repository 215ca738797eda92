use Rattle.std.proofs.Common.{ℕ, ◌<◌, length, slice_index_or, pos, ap₂, subst, subst₂, sym, refl, arith}
use Rattle.std.proofs.lemmas.Int.{ints}
use Rattle.std.proofs.lemmas.List.FromFn.{get_or-map-range_with_len, length-map-range_with_len, map-range_with_len_more}
use Rattle.weld_data.specs.declared.kind.Kind.TheVariants as kinds
use Rattle.weld_data.specs.Value.{Value, number}
use Rattle.weld_data.specs.Order.{KeyPrecedes, CanFollow, SameKeyType, IsKeyFor}
use Rattle.weld_data_tests.specs.Dictionaries.{small_numbers}
use Rattle.weld_data_tests.proofs.dictionaries.build.Goals as goal

abbrev entry : ℕ → Value × Value
entry k = (number kinds.U8 (pos k), number kinds.U8 (pos k))

next_follows : (n : ℕ) → CanFollow (small_numbers n) (number kinds.U8 (pos n))
next_follows n = record { is_key = tt; follows = λ k d h. each n k d h }
  where
    each : (n k : ℕ) (d : Value × Value) → k < length (small_numbers n) → KeyPrecedes (slice_index_or (small_numbers n) k d).0 (number kinds.U8 (pos n))
    each n k d h =
        let below : k < n = subst (λ m. k < m) (length-map-range_with_len entry 0 n) h in
        subst (λ (e : Value × Value). KeyPrecedes e.0 (number kinds.U8 (pos n))) (sym (get_or-map-range_with_len entry 0 n k k d below (omega arith))) (record { same_type = refl; less = omega (arith, ints) })

pub push-requires : goal.push-requires
push-requires c =
    subst₂ CanFollow (sym c.loop-k.invariant) (sym (ap₂ number c.of_u8.ensures.kind c.of_u8.ensures.value)) (next_follows c.loop-k.k)

pub loop-k-preserved : goal.loop-k-preserved
loop-k-preserved c =
    let more = map-range_with_len_more entry 0 c.loop-k.k c.loop-k.k (omega arith) in
    let k = ap₂ number c.of_u8.ensures.kind c.of_u8.ensures.value in
    let v = ap₂ number c.of_u8-in-loop-k.ensures.kind c.of_u8-in-loop-k.ensures.value in
    cc (c.in_ok-push.ensures.ok, more)

keys_alike : (n k : ℕ) → IsKeyFor (small_numbers n) (number kinds.U8 (pos k))
keys_alike n k i d h =
    let below : i < n = subst (λ m. i < m) (length-map-range_with_len entry 0 n) h in
    subst (λ (e : Value × Value). SameKeyType e.0 (number kinds.U8 (pos k))) (sym (get_or-map-range_with_len entry 0 n i i d below (omega arith))) refl

pub returns-clause-keys : goal.returns-clause-keys
returns-clause-keys c = λ k. subst (λ es. IsKeyFor es (number kinds.U8 (pos k))) (sym c.loop-k.invariant) (keys_alike c.loop-k.k k)
