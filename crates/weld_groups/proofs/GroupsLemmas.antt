-- Lists by keys, in the map in the code.
use Rattle.std.proofs.Common.{◌≡◌, ℤ, Option, Some, None, List, [], ◌∷◌, length, arith, refl, ap, sym, subst, ◌∙◌}
use Rattle.std.specs.Ordering.{eq_by_cmp, int_eq}
use Rattle.std.specs.HashMap.{HashMap}
use Rattle.std.specs.FinMap as finite
use Rattle.weld_data.specs.declared.kind.Kind.{Kind}
use Rattle.weld_data.specs.Value.{Value, number}
use Rattle.weld_builders.specs.Part.{appended, merge_key, join_maps}
use Rattle.weld_builders.specs.ValueOrder.{value_cmp}
use Rattle.weld_pieces.specs.Kept.{IsNarrowKey}
use Rattle.weld_pieces.specs.Keyed.{entry_with, map_of, by_value, itself, CanKeep, JoinsAs}
use Rattle.weld_pieces.specs.declared.list.ListPart.{ListPart}
use Rattle.weld_pieces.proofs.CellLemmas.{bits}
use Rattle.weld_pieces.proofs.KeyedLemmas.{Hashing}
use Rattle.weld_pieces.proofs.MapLemmas.{numbers_same, values_same}
use Rattle.weld_groups.specs.Groups.{lists_in, AreListsOf, CanKeepEach}
use Rattle.weld_pieces.specs.KeyMapView.{kind_of_keys, entries_in}
use Rattle.weld_groups.specs.GroupsView.{groups_in}
use Rattle.weld_pieces.specs.declared.key_map.KeyMap.{KeyMap}
use Rattle.weld_pieces.specs.declared.key_map.KeyMap.TheVariants as maps
use Rattle.weld_groups.proofs.ListLemmas.{numbers_appended, values_appended}

some_kind : (a b : Kind) → Some a ≡ Some b → a ≡ b
some_kind a b e = cc

-- keys and items may be kept as those are that they come from
pub narrow_kept : (key own : Option Kind) → CanKeep key own → IsNarrowKey own → IsNarrowKey key
narrow_kept None own can h = tt
narrow_kept (Some kind) own can h = subst IsNarrowKey can h

pub can_keep_each : (items own : Option Kind) (ls : List ListPart) → CanKeep items own → AreListsOf own ls → CanKeepEach items ls
can_keep_each items own [] can h = tt
can_keep_each items own (l ∷ ls) can h = (subst (CanKeep items) (sym h.0) can, can_keep_each items own ls can h.1)

-- a map without entries has no lists
nothing : {K X : Type 0} (key : K → Value) (es : List (K × X)) → by_value key es ≡ [] → es ≡ []
nothing key [] e = refl
nothing key (d ∷ es) e =
    let n : length (by_value key (d ∷ es)) ≡ 0 = ap length e in absurd (omega (arith, n))

pub none_in : (m : KeyMap ListPart) → entries_in m ≡ [] → groups_in m ≡ finite.empty
none_in (maps.Numbers k m) e = ap (λ es. map_of (number k) (lists_in es)) (nothing (number k) m.entries e)
none_in (maps.Values m) e = ap (λ es. map_of itself (lists_in es)) (nothing itself m.entries e)

pub number_done : (before : KeyMap ListPart) (k key_kind : Kind) (m : HashMap ℤ ListPart Hashing) (ds : List (ℤ × ListPart)) (key : ℤ) (xs : List Value) → before ≡ maps.Numbers k m → kind_of_keys before ≡ Some key_kind → bits key ≡ key
    → lists_in ds ≡ entry_with int_eq appended (lists_in m.entries) (bits key) xs → map_of (number k) (lists_in ds) ≡ merge_key appended (groups_in before) (number key_kind key) xs
number_done before k key_kind m ds key xs is kept same e =
    let kinds : k ≡ key_kind = some_kind k key_kind (sym (ap kind_of_keys is) ∙ kept) in
    numbers_appended k m.entries ds (bits key) xs e
    ∙ (λ i. merge_key appended (groups_in (sym is i)) (number (kinds i) (same i)) xs)

pub value_done : (before : KeyMap ListPart) (m : HashMap Value ListPart Hashing) (ds : List (Value × ListPart)) (key new_key : Value) (xs : List Value) → before ≡ maps.Values m → new_key ≡ key
    → lists_in ds ≡ entry_with (eq_by_cmp value_cmp) appended (lists_in m.entries) new_key xs → map_of itself (lists_in ds) ≡ merge_key appended (groups_in before) key xs
value_done before m ds key new_key xs is same e =
    values_appended m.entries ds new_key xs e ∙ (λ i. merge_key appended (groups_in (sym is i)) (same i) xs)

pub numbers_done : (before later : KeyMap ListPart) (k l : Kind) (m more : HashMap ℤ ListPart Hashing) (ds : List (ℤ × ListPart)) → before ≡ maps.Numbers k m → later ≡ maps.Numbers l more → kind_of_keys before ≡ kind_of_keys later
    → JoinsAs int_eq appended (lists_in m.entries) (lists_in more.entries) (lists_in ds) → map_of (number k) (lists_in ds) ≡ join_maps appended (groups_in before) (groups_in later)
numbers_done before later k l m more ds is so kept joins =
    let kinds : k ≡ l = some_kind k l (sym (ap kind_of_keys is) ∙ kept ∙ ap kind_of_keys so) in
    joins (number k) (numbers_same k)
    ∙ (λ i. join_maps appended (map_of (number k) (lists_in m.entries)) (map_of (number (kinds i)) (lists_in more.entries)))
    ∙ (λ i. join_maps appended (groups_in (sym is i)) (groups_in (sym so i)))

pub values_done : (before later : KeyMap ListPart) (m more : HashMap Value ListPart Hashing) (ds : List (Value × ListPart)) → before ≡ maps.Values m → later ≡ maps.Values more
    → JoinsAs (eq_by_cmp value_cmp) appended (lists_in m.entries) (lists_in more.entries) (lists_in ds) → map_of itself (lists_in ds) ≡ join_maps appended (groups_in before) (groups_in later)
values_done before later m more ds is so joins =
    joins itself values_same ∙ (λ i. join_maps appended (groups_in (sym is i)) (groups_in (sym so i)))
