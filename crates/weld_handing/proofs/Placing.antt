-- What stands around a loop that makes a list, and the types of its rows.
use Rattle.std.proofs.Common.{◌≡◌, false, ◌||◌, refl, ap, sym, ◌∙◌}
use Rattle.weld_tree.specs.TypeTree.{TypeTree, TypeTrees, BuildTree, vec, build, list, no_types, more_types}
use Rattle.weld_tree.specs.Types.{IsBuilder, IsWellFormed, gives}
use Rattle.weld_tree.specs.ExprTree.{ExprTree, whole, no_legs, more_legs}
use Rattle.weld_meaning.specs.Typing.{Types, HasType, LegsHave, RowHas}
use Rattle.weld_meaning.specs.Origin.{Origin, value, made, own, outer, named, struct, Origins, no_origins, more_origins, is_value, from_within, all_from_within}
use Rattle.weld_meaning.specs.Forms.{HasForm}
use Rattle.weld_meaning.proofs.OriginTypes.{not_both}
use Rattle.weld_handing.specs.Handing.{holds, some_hold}
use Rattle.weld_handing.proofs.Traces.{Alike, AllAlike}

-- ---- types

-- a row over one leg is its item
pub only_type : (v : ExprTree) (g : Types) (us : TypeTrees) (r : TypeTree) → LegsHave (more_legs (whole v) no_legs) g us → RowHas us r → (u : TypeTree) × HasType v g (vec u) × (r ≡ u)
only_type v g no_types r h k = absurd h
only_type v g (more_types u no_types) r h k = (u, h.0, k)
only_type v g (more_types u (more_types w us)) r h k = absurd h.1

pub same_item : (u w item : TypeTree) (b : BuildTree) → w ≡ build b → vec u ≡ gives b → w ≡ build (list item) → u ≡ item
same_item u w item b e h k =
    let same : b ≡ list item = let it : build b ≡ build (list item) = sym e ∙ k in cc in
    let items : vec u ≡ vec item = h ∙ ap gives same in cc

-- a builder comes from no value
pub builder_origin : (o : Origin) (t : TypeTree) → IsWellFormed t → IsBuilder t → HasForm o t → is_value o ≡ false
builder_origin value t w b h = absurd (not_both t w b h)
builder_origin made t w b h = refl
builder_origin (own p) t w b h = refl
builder_origin outer t w b h = refl
builder_origin (named s p) t w b h = refl
builder_origin (struct os) t w b h = refl

-- ---- what stands around

mutual
  pub within_none : (o : Origin) → holds (from_within o) ≡ false
  within_none value = refl
  within_none made = refl
  within_none (own p) = refl
  within_none outer = refl
  within_none (named s p) = refl
  within_none (struct os) = all_within_none os

  pub all_within_none : (os : Origins) → some_hold (all_from_within os) ≡ false
  all_within_none no_origins = refl
  all_within_none (more_origins o os) = λ i. within_none o i || all_within_none os i

mutual
  pub within_alike : (o : Origin) → Alike (from_within o) (from_within o)
  within_alike value = tt
  within_alike made = tt
  within_alike (own p) = tt
  within_alike outer = tt
  within_alike (named s p) = tt
  within_alike (struct os) = all_within_alike os

  pub all_within_alike : (os : Origins) → AllAlike (all_from_within os) (all_from_within os)
  all_within_alike no_origins = tt
  all_within_alike (more_origins o os) = (within_alike o, all_within_alike os)
