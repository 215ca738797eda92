-- Numbers by keys, in the map in the code.
use Rattle.std.proofs.Common.{◌≡◌, BuildHasherDefault, FoldHasher, ℤ, Option, Some, List, ap, sym, ◌∙◌}
use Rattle.std.specs.Ordering.{eq_by_cmp, int_eq}
use Rattle.std.specs.HashMap.{HashMap}
use Rattle.weld_data.specs.declared.kind.Kind.{Kind}
use Rattle.weld_data.specs.Value.{Value, number}
use Rattle.weld_builders.specs.Part.{merge_key, join_maps}
use Rattle.weld_builders.specs.ValueOrder.{value_cmp}
use Rattle.weld_pieces.specs.Keyed.{entry_with, map_of, itself, JoinsAs}
use Rattle.weld_pieces.specs.KeyMapView.{kind_of_keys}
use Rattle.weld_pieces.specs.KeyedView.{numbers_in}
use Rattle.weld_pieces.specs.declared.key_map.KeyMap.{KeyMap}
use Rattle.weld_pieces.specs.declared.key_map.KeyMap.TheVariants as maps
use Rattle.weld_pieces.proofs.CellLemmas.{bits, wide_bits}
use Rattle.weld_pieces.proofs.MapLemmas.{numbers_merged, values_merged, numbers_same, values_same}

abbrev pub Hashing : Type 0
Hashing = BuildHasherDefault FoldHasher

pub some_kind : (a b : Kind) → Some a ≡ Some b → a ≡ b
some_kind a b e = cc

pub number_done : (f : Option ℤ → ℤ → ℤ) (before : KeyMap ℤ) (k key_kind : Kind) (m : HashMap ℤ ℤ Hashing) (ds : List (ℤ × ℤ)) (key x : ℤ) → before ≡ maps.Numbers k m → kind_of_keys before ≡ Some key_kind → bits key ≡ key → wide_bits x ≡ x
    → ds ≡ entry_with int_eq f m.entries (bits key) (wide_bits x) → map_of (number k) ds ≡ merge_key f (numbers_in before) (number key_kind key) x
number_done f before k key_kind m ds key x is kept same also e =
    let kinds : k ≡ key_kind = some_kind k key_kind (sym (ap kind_of_keys is) ∙ kept) in
    numbers_merged k f m.entries ds (bits key) (wide_bits x) e
    ∙ (λ i. merge_key f (numbers_in (sym is i)) (number (kinds i) (same i)) (also i))

pub value_done : (f : Option ℤ → ℤ → ℤ) (before : KeyMap ℤ) (m : HashMap Value ℤ Hashing) (ds : List (Value × ℤ)) (key new_key : Value) (x : ℤ) → before ≡ maps.Values m → new_key ≡ key → wide_bits x ≡ x
    → ds ≡ entry_with (eq_by_cmp value_cmp) f m.entries new_key (wide_bits x) → map_of itself ds ≡ merge_key f (numbers_in before) key x
value_done f before m ds key new_key x is same also e =
    values_merged f m.entries ds new_key (wide_bits x) e ∙ (λ i. merge_key f (numbers_in (sym is i)) (same i) (also i))

pub numbers_done : (f : Option ℤ → ℤ → ℤ) (before later : KeyMap ℤ) (k l : Kind) (m more : HashMap ℤ ℤ Hashing) (ds : List (ℤ × ℤ)) → before ≡ maps.Numbers k m → later ≡ maps.Numbers l more → kind_of_keys before ≡ kind_of_keys later
    → JoinsAs int_eq f m.entries more.entries ds → map_of (number k) ds ≡ join_maps f (numbers_in before) (numbers_in later)
numbers_done f before later k l m more ds is so kept joins =
    let kinds : k ≡ l = some_kind k l (sym (ap kind_of_keys is) ∙ kept ∙ ap kind_of_keys so) in
    joins (number k) (numbers_same k)
    ∙ (λ i. join_maps f (numbers_in (sym is i)) (map_of (number (kinds i)) more.entries))
    ∙ ap (λ p. join_maps f (numbers_in before) (numbers_in p)) (sym so)

pub values_done : (f : Option ℤ → ℤ → ℤ) (before later : KeyMap ℤ) (m more : HashMap Value ℤ Hashing) (ds : List (Value × ℤ)) → before ≡ maps.Values m → later ≡ maps.Values more
    → JoinsAs (eq_by_cmp value_cmp) f m.entries more.entries ds → map_of itself ds ≡ join_maps f (numbers_in before) (numbers_in later)
values_done f before later m more ds is so joins =
    joins itself values_same ∙ (λ i. join_maps f (numbers_in (sym is i)) (numbers_in (sym so i)))
