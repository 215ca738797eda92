-- A builder of a well-formed type has a result: its keys are of one type.
use Rattle.std.proofs.Common.{◌≡◌, List, [], ◌∷◌, map, get_or, All, AllPairs, subst, arith}
use Rattle.std.proofs.lemmas.List.{get_or-map, length-map}
use Rattle.std.proofs.lemmas.List.Elements.{All-head, All-tail}
use Rattle.std.specs.FinMap as finite
use Rattle.std.specs.List.{AllByRecursion}
use Rattle.std.specs.Map.{keys_of}
use Rattle.weld_data.specs.Value.{Value, number, list, values, list_of_entries-entries}
use Rattle.weld_data.specs.Order.{IsKey, KeyPrecedes, SameKeyType, Rises}
use Rattle.weld_tree.specs.TypeTree.{BuildTree, build, list as list_of, total, keyed, cells, groups}
use Rattle.weld_tree.specs.Types.{IsWellFormedBuild}
use Rattle.weld_tree.specs.ExprTree.{finish}
use Rattle.weld_builders.specs.Part.{Part, list_part, total_part, totals_part, cells_part, keyed_part, groups_part}
use Rattle.weld_built.specs.Logged.{HasResult}
use Rattle.weld_meaning.specs.Thing.{building}
use Rattle.weld_meaning.specs.ThingType.{HasThing, HasPart}
use Rattle.weld_meaning.proofs.PartsGood.{result_has}
use Rattle.weld_eval.specs.Takes.{OneTakes}
use Rattle.weld_eval.proofs.Children.{key_laws}

-- an entry with its value shown
abbrev with_value : {X : Type 0} → (X → Value) → Value × X → Value × Value
with_value f e = (e.0, f e.1)

keys_kept : {X : Type 0} (f : X → Value) (es : List (Value × X)) → All (λ (e : Value × Value). IsKey e.0) (map (with_value f) es) → AllByRecursion IsKey (keys_of es)
keys_kept f [] h = tt
keys_kept f (e ∷ es) h =
    (All-head (λ (a : Value × Value). IsKey a.0) (with_value f e) (map (with_value f) es) h, keys_kept f es (All-tail (λ (a : Value × Value). IsKey a.0) (with_value f e) (map (with_value f) es) h))

both_same : (a c b d : Value × Value) → a ≡ c → b ≡ d → SameKeyType a.0 b.0 → SameKeyType c.0 d.0
both_same a c b d p q h = subst (λ (x : Value × Value). SameKeyType x.0 d.0) p (subst (λ (x : Value × Value). SameKeyType a.0 x.0) q h)

one_type : {X : Type 0} (f : X → Value) (es : List (Value × X)) → AllPairs (λ (a b : Value × Value). KeyPrecedes a.0 b.0) (map (with_value f) es) → AllPairs (λ (a b : Value × X). SameKeyType a.0 b.0) es
one_type f es h = λ i j d l m.
    let p = h i j (with_value f d) l (omega (arith, length-map es (with_value f))) in
    let ei = get_or-map (with_value f) es i d (with_value f d) (omega arith) in
    let ej = get_or-map (with_value f) es j d (with_value f d) (omega arith) in
    both_same (get_or (map (with_value f) es) i (with_value f d)) (with_value f (get_or es i d)) (get_or (map (with_value f) es) j (with_value f d)) (with_value f (get_or es j d)) ei ej p.same_type

part_has : (p : Part) (b : BuildTree) → IsWellFormedBuild b → HasPart p b → HasResult p
part_has (list_part vs) b w h = tt
part_has (total_part op k x) b w h = tt
part_has (totals_part op xs) b w h = tt
part_has (cells_part op k xs) b w h = tt
part_has (keyed_part op k m) (keyed s t o) w h =
    let r : Rises (map (with_value (number k)) (finite.entries m)) = subst Rises (list_of_entries-entries (map (with_value (number k)) (finite.entries m))) (result_has key_laws (keyed_part op k m) (keyed s t o) w h).1 in
    (keys_kept (number k) (finite.entries m) r.keys, one_type (number k) (finite.entries m) r.rise)
part_has (keyed_part op k m) (list_of t) w h = absurd h
part_has (keyed_part op k m) (total t o) w h = absurd h
part_has (keyed_part op k m) (cells t o) w h = absurd h
part_has (keyed_part op k m) (groups s t) w h = absurd h
part_has (groups_part m) (groups s t) w h =
    let r : Rises (map (with_value (λ vs. list (values vs))) (finite.entries m)) = subst Rises (list_of_entries-entries (map (with_value (λ vs. list (values vs))) (finite.entries m))) (result_has key_laws (groups_part m) (groups s t) w h).1 in
    (keys_kept (λ vs. list (values vs)) (finite.entries m) r.keys, one_type (λ vs. list (values vs)) (finite.entries m) r.rise)
part_has (groups_part m) (list_of t) w h = absurd h
part_has (groups_part m) (total t o) w h = absurd h
part_has (groups_part m) (cells t o) w h = absurd h
part_has (groups_part m) (keyed s t o) w h = absurd h

pub has_result : (p : Part) → OneTakes finish (building p) → HasResult p
has_result p h = let g : HasThing (building p) (build h.rule.0) = subst (HasThing (building p)) h.rule.1 h.has in part_has p h.rule.0 g.0 g.1
