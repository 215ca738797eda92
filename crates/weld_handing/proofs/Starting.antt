-- In the body of the loop that makes the list names have the types that they have where it starts with the other loop's builder.
use Rattle.std.proofs.Common.{◌≡◌, ◌≢◌, ℕ, false, ◌||◌, [], ◌∷◌, Some, option_map, refl, sym, subst, eq-eqb}
use Rattle.weld_tree.specs.declared.binder.Binder.{Binder}
use Rattle.weld_tree.specs.TypeTree.{TypeTree, TypeTrees, scalar, vec, struct as tuple, dict, build, list, no_types, more_types}
use Rattle.weld_tree.specs.Types.{IsBuilderFree, IsWellFormed}
use Rattle.weld_tree.specs.ExprTree.{ExprTree}
use Rattle.weld_meaning.specs.Environment.{Named, look_for}
use Rattle.weld_meaning.specs.Typing.{Types, AreFormed, place_type, body_types}
use Rattle.weld_meaning.specs.Origin.{Origin, value, made, own, outer, named, struct, Origins, no_origins, more_origins, origin_of_name, from_within, all_from_within, outside, in_body}
use Rattle.weld_meaning.specs.Forms.{NamesHaveForms}
use Rattle.weld_meaning.proofs.Before.{origin_outside}
use Rattle.weld_meaning.proofs.Outcomes.{option_map_same}
use Rattle.weld_meaning.proofs.WellFormed.{formed_body}
use Rattle.weld_meaning.proofs.OriginTypes.{forms_in_body}
use Rattle.weld_substitution.proofs.Bindings.{agree_over_types}
use Rattle.weld_handing.specs.Handing.{holds, some_hold, handed_type}
use Rattle.weld_handing.proofs.Held.{unheld_type, HasHeld, HaveHeld, NamesHaveHeld, held_bind}
use Rattle.weld_handing.proofs.Types.{look_past, types_bind, Behind, TypesRelate}

mutual
  -- what is seen from within a lambda isn't its own builder
  none_own : (o : Origin) → holds (from_within o) ≡ false
  none_own value = refl
  none_own made = refl
  none_own (own p) = refl
  none_own outer = refl
  none_own (named s p) = refl
  none_own (struct os) = all_none_own os

  -- nor are all of these
  all_none_own : (os : Origins) → some_hold (all_from_within os) ≡ false
  all_none_own no_origins = refl
  all_none_own (more_origins o os) = λ i. none_own o i || all_none_own os i

mutual
  -- what is seen from within a lambda has nothing of the list's builder, of whatever type
  unheld_has : (item : TypeTree) (o : Origin) (u : TypeTree) → HasHeld item (from_within o) u
  unheld_has item value u = tt
  unheld_has item made u = tt
  unheld_has item (own p) u = tt
  unheld_has item outer u = tt
  unheld_has item (named s p) u = tt
  unheld_has item (struct os) (scalar k) = tt
  unheld_has item (struct os) (vec u) = tt
  unheld_has item (struct os) (tuple us) = all_unheld_have item os us
  unheld_has item (struct os) (dict k v) = tt
  unheld_has item (struct os) (build b) = tt

  -- field by field
  all_unheld_have : (item : TypeTree) (os : Origins) (us : TypeTrees) → HaveHeld item (all_from_within os) us
  all_unheld_have item no_origins us = tt
  all_unheld_have item (more_origins o os) no_types = tt
  all_unheld_have item (more_origins o os) (more_types u us) = (unheld_has item o u, all_unheld_have item os us)

-- names of outside have one type
outside_types : (t : TypeTree) (around : Named Origin) (types : Types) (s : ℕ) → look_for s types ≡ option_map (handed_type t (origin_of_name s (outside around))) (look_for s types)
outside_types t around types s =
    let o = origin_of_name s (outside around) in
    let none : holds o ≡ false = subst (λ p. holds p ≡ false) (sym (origin_outside s around)) (none_own (origin_of_name s around)) in
    sym (option_map_same (handed_type t o) (look_for s types) (λ u. unheld_type t o u none))

-- and the list's builder isn't among them
outside_held : (item : TypeTree) (around : Named Origin) (types : Types) → NamesHaveHeld item (outside around) types
outside_held item around types = record {
  held = λ s u e. subst (λ o. HasHeld item o u) (sym (origin_outside s around)) (unheld_has item (origin_of_name s around) u);
}

-- the loop that makes the list binds its builder, row number and row as d, i and r; its rows are of this type
pub relate_start : (t item : TypeTree) (d i r : Binder) (row : TypeTree) (c n x : Binder) (f : ExprTree) (types : Types) (around : Named Origin) → IsWellFormed item → IsBuilderFree item → IsWellFormed row → IsBuilderFree row → AreFormed types → NamesHaveForms around types
    → (Behind t item i.sym.0 c n x f types d.sym.0 → ⊥) → (Behind t item i.sym.0 c n x f types i.sym.0 → ⊥) → (Behind t item i.sym.0 c n x f types r.sym.0 → ⊥) → i.sym.0 ≢ r.sym.0
    → TypesRelate t item i.sym.0 c n x f types (in_body d i r made around) (body_types d i r (build (list item)) row types) (body_types d i r t row types)
relate_start t item d i r row c n x f types around item_formed item_free row_formed row_free formed forms nd ni nr apart =
    let list_type : TypeTree = build (list item) in
    let own_origins : Named Origin = (d.sym.0, own []) ∷ outside around in
    let own_types : Types = (d.sym.0, list_type) ∷ types in
    record {
      types = λ s e.
          types_bind t s r.sym.0 value row ((i.sym.0, value) ∷ own_origins) ((i.sym.0, place_type) ∷ own_types) ((i.sym.0, place_type) ∷ (d.sym.0, t) ∷ types)
          (types_bind t s i.sym.0 value place_type own_origins own_types ((d.sym.0, t) ∷ types)
          (types_bind t s d.sym.0 (own []) list_type (outside around) types types (outside_types t around types s)));
      behind = agree_over_types (Behind t item i.sym.0 c n x f types) d i r t row types nd ni nr;
      number = look_past i.sym.0 r.sym.0 row ((i.sym.0, place_type) ∷ (d.sym.0, t) ∷ types) (Some place_type) apart (rw (eq-eqb i.sym.0 i.sym.0 refl) refl);
      held =
          held_bind item ((i.sym.0, value) ∷ own_origins) ((i.sym.0, place_type) ∷ own_types) r.sym.0 value row tt
          (held_bind item own_origins own_types i.sym.0 value place_type tt
          (held_bind item (outside around) types d.sym.0 (own []) list_type refl (outside_held item around types)));
      formed = formed_body d i r list_type row types (item_formed, item_free) row_formed formed;
      forms = forms_in_body around types d i r made list_type row tt row_free forms;
    }
