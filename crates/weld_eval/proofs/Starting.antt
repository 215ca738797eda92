-- Mergers of structs that start without a value.
use Rattle.std.proofs.Common.{◌≡◌, ℕ, zero, suc, ◌+◌, ◌<◌, ◌≤◌, None, List, [], ◌∷◌, ◌++◌, length, take, slice_index_or, ap, sym, subst, refl, ◌∙◌, arith}
use Rattle.std.proofs.lemmas.List.{take_more, take_all, map-append}
use Rattle.weld_data.specs.declared.kind.Kind.{Kind}
use Rattle.weld_data.specs.declared.num.Num.{Num}
use Rattle.weld_data.specs.declared.op.MergeOp.{MergeOp}
use Rattle.weld_data.specs.Operation.{start_of}
use Rattle.weld_tree.specs.TypeTree.{TypeTree, scalar, vec, struct as tuple, dict, build, total, pack}
use Rattle.weld_tree.specs.Types.{IsIntegerType, AreIntegerTypes}
use Rattle.weld_builders.specs.Outcome.{done, and_then, map_out}
use Rattle.weld_builders.specs.Part.{Part, Totals, totals_part, totals_builder, kinds_of, neutral_totals, start}
use Rattle.weld_pieces.specs.Totals.{total_in, totals_in, AreIntegers}
use Rattle.weld_meaning.specs.Thing.{building}
use Rattle.weld_meaning.specs.Evaluation.{kinds_in, started_builder}
use Rattle.weld_eval.specs.Fresh.{kind_in, kinds_listed}
use Rattle.weld_eval.specs.Takes.{IsScalar}

field_at : (ts : List TypeTree) (i : ℕ) (d : TypeTree) → AreIntegerTypes (pack ts) → i < length ts → IsIntegerType (slice_index_or ts i d)
field_at [] i d h l = absurd (omega arith)
field_at (t ∷ ts) zero d h l = h.0
field_at (t ∷ ts) (suc i) d h l = field_at ts i d h.1 (omega arith)

integer_scalar : (t : TypeTree) → IsIntegerType t → IsScalar t
integer_scalar (scalar k) h = tt
integer_scalar (vec t) h = absurd h
integer_scalar (tuple ts) h = absurd h
integer_scalar (dict k v) h = absurd h
integer_scalar (build b) h = absurd h

pub field_scalar : (ts : List TypeTree) (i : ℕ) (t : TypeTree) → AreIntegerTypes (pack ts) → i < length ts → t ≡ slice_index_or ts i t → IsScalar t
field_scalar ts i t h l is = integer_scalar t (subst IsIntegerType (sym is) (field_at ts i t h l))

pub field_integer : (ts : List TypeTree) (i : ℕ) (t : TypeTree) (k : Kind) → AreIntegerTypes (pack ts) → i < length ts → t ≡ slice_index_or ts i t → t ≡ scalar k → IsIntegerType (scalar k)
field_integer ts i t k h l is e = subst IsIntegerType e (subst IsIntegerType (sym is) (field_at ts i t h l))

kinds_taken : (ts : List TypeTree) → AreIntegerTypes (pack ts) → kinds_in (pack ts) ≡ done (kinds_listed ts)
kinds_taken [] h = refl
kinds_taken (scalar k ∷ ts) h = ap (map_out (λ ks. k ∷ ks)) (kinds_taken ts h.1)
kinds_taken (vec t ∷ ts) h = absurd h.0
kinds_taken (tuple us ∷ ts) h = absurd h.0
kinds_taken (dict k v ∷ ts) h = absurd h.0
kinds_taken (build b ∷ ts) h = absurd h.0

listed_integers : (ts : List TypeTree) → AreIntegerTypes (pack ts) → AreIntegers (kinds_listed ts)
listed_integers [] h = tt
listed_integers (scalar k ∷ ts) h = (h.0, listed_integers ts h.1)
listed_integers (vec t ∷ ts) h = absurd h.0
listed_integers (tuple us ∷ ts) h = absurd h.0
listed_integers (dict k v ∷ ts) h = absurd h.0
listed_integers (build b ∷ ts) h = absurd h.0

kinds_of-neutral : (op : MergeOp) (ks : List Kind) → kinds_of (neutral_totals op ks) ≡ ks
kinds_of-neutral op [] = refl
kinds_of-neutral op (k ∷ ks) = λ j. k ∷ kinds_of-neutral op ks j

-- ---- the loop over the fields

abbrev pub neutral_for : MergeOp → List TypeTree → Totals
neutral_for op ts = neutral_totals op (kinds_listed ts)

neutral_append : (op : MergeOp) (ss ts : List TypeTree) → neutral_for op (ss ++ ts) ≡ neutral_for op ss ++ neutral_for op ts
neutral_append op [] ts = refl
neutral_append op (s ∷ ss) ts = λ j. (kind_in s, start_of op (kind_in s)) ∷ neutral_append op ss ts j

pub field_added : (op : MergeOp) (ts : List TypeTree) (out new : List Num) (i : ℕ) (t : TypeTree) (k : Kind) (n : Num) → i < length ts → t ≡ slice_index_or ts i t → t ≡ scalar k → n.kind ≡ k → n.value ≡ start_of op k → new ≡ out ++ n ∷ []
    → totals_in out ≡ neutral_for op (take i ts) → totals_in new ≡ neutral_for op (take (i + 1) ts)
field_added op ts out new i t k n l is e nk nv g done_so_far =
    let one : total_in n ≡ (k, start_of op k) = λ j. (nk j, nv j) in
    let here : kind_in (slice_index_or ts i t) ≡ k = ap kind_in (sym is ∙ e) in
    ap totals_in g ∙ map-append total_in out (n ∷ []) ∙ ap (λ zs. zs ++ totals_in (n ∷ [])) done_so_far
    ∙ ap (λ z. neutral_for op (take i ts) ++ z ∷ []) (one ∙ ap (λ m. (m, start_of op m)) (sym here))
    ∙ sym (ap (neutral_for op) (take_more ts i t l) ∙ neutral_append op (take i ts) (slice_index_or ts i t ∷ []))

all_added : (op : MergeOp) (ts : List TypeTree) (i : ℕ) (xs : Totals) → length ts ≤ i → xs ≡ neutral_for op (take i ts) → xs ≡ neutral_for op ts
all_added op ts i xs l e = e ∙ ap (neutral_for op) (take_all i ts l)

pub added_integers : (op : MergeOp) (ts : List TypeTree) (i : ℕ) (ns : List Num) → AreIntegerTypes (pack ts) → length ts ≤ i → totals_in ns ≡ neutral_for op (take i ts) → AreIntegers (kinds_of (totals_in ns))
added_integers op ts i ns h l e =
    subst AreIntegers (sym (ap kinds_of (all_added op ts i (totals_in ns) l e) ∙ kinds_of-neutral op (kinds_listed ts))) (listed_integers ts h)

pub totals_start : (op : MergeOp) (ts : List TypeTree) (i : ℕ) (ns : List Num) (p : Part) → AreIntegerTypes (pack ts) → length ts ≤ i → totals_in ns ≡ neutral_for op (take i ts) → p ≡ totals_part op (totals_in ns)
    → started_builder (total (tuple (pack ts)) op) None ≡ done (building p)
totals_start op ts i ns p h l e is =
    ap (λ o. and_then (map_out (totals_builder op) o) (λ f. map_out building (start f None))) (kinds_taken ts h)
    ∙ ap (λ xs. done (building (totals_part op xs))) (sym (all_added op ts i (totals_in ns) l e)) ∙ ap (λ q. done (building q)) (sym is)
