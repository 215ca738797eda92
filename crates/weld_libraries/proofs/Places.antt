-- Ids gone through one after another.
use Rattle.std.proofs.Common.{◌≡◌, ℕ, zero, suc, ◌+◌, ◌<◌, ◌≤◌, List, [], ◌∷◌, ◌++◌, length, drop, get_or, Option, Some, None, option_map, Bor, refl, sym, ap, subst, ◌∙◌, append_assoc, arith}
use Rattle.std.proofs.lemmas.List.{append-nil}
use Rattle.weld_tree.specs.TypeTree.{TypeTree}
use Rattle.weld_objects.specs.Objects.{Object, type_at}
use Rattle.weld_objects.specs.Additions.{unless_there, first_unknown}
use Rattle.weld_lazy.specs.declared.ids.ObjectId.{ObjectId}
use Rattle.weld_lazy.specs.View.{view_ids}
use Rattle.weld_libraries.specs.Answers.{before, types_at}

id_at : (ids : List ObjectId) (i : ℕ) (d : ObjectId) → i < length ids → drop i ids ≡ get_or ids i d ∷ drop (suc i) ids
id_at [] i d h = absurd (omega (arith, h))
id_at (x ∷ xs) zero d h = refl
id_at (x ∷ xs) (suc i) d h = id_at xs i d (omega (arith, h))

pub now_of : (m : Option (Bor TypeTree)) (x : Bor TypeTree) → m ≡ Some x → option_map (λ (t : Bor TypeTree). t.now) m ≡ Some x.now
now_of m x e = ap (option_map (λ (t : Bor TypeTree). t.now)) e

pub none_of : (m : Option (Bor TypeTree)) → m ≡ None → option_map (λ (t : Bor TypeTree). t.now) m ≡ None
none_of m e = ap (option_map (λ (t : Bor TypeTree). t.now)) e

-- what is left says as much as the whole
pub record SoFar (os : List Object) (ids : List ObjectId) (types : List TypeTree) (i : ℕ) : Type 0 where
  pub unknown : first_unknown os (view_ids (drop i ids)) ≡ first_unknown os (view_ids ids)
  pub found : types ++ types_at os (view_ids (drop i ids)) ≡ types_at os (view_ids ids)

pub nothing_yet : (os : List Object) (ids : List ObjectId) (types : List TypeTree) → types ≡ [] → SoFar os ids types 0
nothing_yet os ids types e = record { unknown = refl; found = ap (λ ts. ts ++ types_at os (view_ids ids)) e }

-- an id that is there
pub one_there : (os : List Object) (ids : List ObjectId) (types after : List TypeTree) (i : ℕ) (d : ObjectId) (t : TypeTree) → i < length ids
    → type_at os (get_or ids i d).0 ≡ Some t → after ≡ types ++ t ∷ [] → SoFar os ids types i → SoFar os ids after (i + 1)
one_there os ids types after i d t h there more s =
    let n : suc i ≡ i + 1 = omega arith in
    let x : ObjectId = get_or ids i d in
    let left : drop i ids ≡ x ∷ drop (suc i) ids = id_at ids i d h in
    let rest : List ℕ = view_ids (drop (suc i) ids) in
    let one : first_unknown os (view_ids (drop i ids)) ≡ first_unknown os rest =
    ap (λ (xs : List ObjectId). first_unknown os (view_ids xs)) left ∙ (λ k. unless_there (there k) x.0 (first_unknown os rest)) in
    let two : types_at os (view_ids (drop i ids)) ≡ t ∷ types_at os rest =
    ap (λ (xs : List ObjectId). types_at os (view_ids xs)) left ∙ (λ k. before (there k) (types_at os rest)) in
    subst (SoFar os ids after) n (record {
      unknown = sym one ∙ s.unknown;
      found = (λ k. more k ++ types_at os rest) ∙ append_assoc types (t ∷ []) (types_at os rest) ∙ (λ k. types ++ sym two k) ∙ s.found;
    })

-- one that isn't
pub one_missing : (os : List Object) (ids : List ObjectId) (types : List TypeTree) (i : ℕ) (d : ObjectId) → i < length ids
    → type_at os (get_or ids i d).0 ≡ None → SoFar os ids types i → first_unknown os (view_ids ids) ≡ Some (get_or ids i d).0
one_missing os ids types i d h there s =
    sym s.unknown ∙ ap (λ (xs : List ObjectId). first_unknown os (view_ids xs)) (id_at ids i d h)
    ∙ (λ k. unless_there (there k) (get_or ids i d).0 (first_unknown os (view_ids (drop (suc i) ids))))

drop_end : (xs : List ObjectId) (i : ℕ) → length xs ≤ i → drop i xs ≡ []
drop_end [] zero h = refl
drop_end [] (suc i) h = refl
drop_end (x ∷ xs) zero h = absurd (omega (arith, h))
drop_end (x ∷ xs) (suc i) h = drop_end xs i (omega (arith, h))

-- all of them
pub all_there : (os : List Object) (ids : List ObjectId) (types : List TypeTree) (i : ℕ) → length ids ≤ i → SoFar os ids types i
    → (first_unknown os (view_ids ids) ≡ None) × (types ≡ types_at os (view_ids ids))
all_there os ids types i h s =
    let e : drop i ids ≡ [] = drop_end ids i h in (
      sym s.unknown ∙ ap (λ (xs : List ObjectId). first_unknown os (view_ids xs)) e,
      sym (append-nil types) ∙ (λ k. types ++ types_at os (view_ids (sym e k))) ∙ s.found,
    )
