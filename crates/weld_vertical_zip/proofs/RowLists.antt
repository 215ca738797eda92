-- Rows over all legs, as lists.
use Rattle.std.proofs.Common.{◌≡◌, ◌≢◌, ℕ, zero, suc, ◌+◌, ◌<◌, ◌≤◌, List, [], ◌∷◌, ◌++◌, length, take, get_or, refl, sym, ap, ◌∙◌, arith}
use Rattle.std.proofs.lemmas.List.{take_more, take_all, length-take-le}
use Rattle.weld_tree.specs.declared.place.Place.{Place}
use Rattle.weld_tree.specs.TypeTree.{TypeTree, TypeTrees, struct, no_types, more_types, pack}
use Rattle.weld_tree.specs.ExprTree.{ExprTree, many, ExprTrees, no_exprs, more_exprs, make_struct, pack_exprs}
use Rattle.weld_horizontal.specs.Twice.{node_of, item_at, items_from, count}
use Rattle.weld_horizontal.proofs.RowLemmas.{field_list, packed_fields}
use Rattle.weld_vertical_zip.specs.Zipping.{types_behind, exprs_behind, part_of_row}

packed_types : (ts us : List TypeTree) → pack (ts ++ us) ≡ types_behind (pack ts) (pack us)
packed_types [] us = refl
packed_types (t ∷ ts) us = ap (more_types t) (packed_types ts us)

packed_exprs : (es fs : List ExprTree) → pack_exprs (es ++ fs) ≡ exprs_behind (pack_exprs es) (pack_exprs fs)
packed_exprs [] fs = refl
packed_exprs (e ∷ es) fs = ap (more_exprs e) (packed_exprs es fs)

types_regroup : (ts us vs : TypeTrees) → types_behind (types_behind ts us) vs ≡ types_behind ts (types_behind us vs)
types_regroup no_types us vs = refl
types_regroup (more_types t ts) us vs = ap (more_types t) (types_regroup ts us vs)

exprs_regroup : (es fs gs : ExprTrees) → exprs_behind (exprs_behind es fs) gs ≡ exprs_behind es (exprs_behind fs gs)
exprs_regroup no_exprs fs gs = refl
exprs_regroup (more_exprs e es) fs gs = ap (more_exprs e) (exprs_regroup es fs gs)

pub packed_three : (ts us vs : List TypeTree) → pack ((ts ++ us) ++ vs) ≡ types_behind (pack ts) (types_behind (pack us) (pack vs))
packed_three ts us vs = packed_types (ts ++ us) vs ∙ ap (λ ws. types_behind ws (pack vs)) (packed_types ts us) ∙ types_regroup (pack ts) (pack us) (pack vs)

pub packed_whole : (ts : List TypeTree) (t : TypeTree) (vs : List TypeTree) → pack ((ts ++ t ∷ []) ++ vs) ≡ types_behind (pack ts) (more_types t (pack vs))
packed_whole ts t vs = packed_three ts (t ∷ []) vs

pub packed_row : (es : List ExprTree) (e : ExprTree) (fs : List ExprTree) → pack_exprs ((es ++ e ∷ []) ++ fs) ≡ exprs_behind (pack_exprs es) (more_exprs e (pack_exprs fs))
packed_row es e fs =
    packed_exprs (es ++ e ∷ []) fs ∙ ap (λ ws. exprs_behind ws (pack_exprs fs)) (packed_exprs es (e ∷ [])) ∙ exprs_regroup (pack_exprs es) (pack_exprs (e ∷ [])) (pack_exprs fs)

pub counted : (ts : List TypeTree) → count (pack ts) ≡ length ts
counted [] = refl
counted (t ∷ ts) = ap suc (counted ts)

-- ---- the items of a row from a number on

fields_push : (place : Place) (x : ℕ) (all : TypeTrees) (n : ℕ) (us : List TypeTree) (u : TypeTree) (m : ℕ) → m ≡ n + length us → field_list place x all n (us ++ u ∷ []) ≡ field_list place x all n us ++ item_at place x all m u ∷ []
fields_push place x all n [] u m p = let e : n ≡ m = omega arith in ap (λ k. item_at place x all k u ∷ []) e
fields_push place x all n (v ∷ us) u m p = ap (λ es. item_at place x all n v ∷ es) (fields_push place x all (suc n) us u m (omega arith))

pub fields_more : (place : Place) (x : ℕ) (all : TypeTrees) (n : ℕ) (us : List TypeTree) (i : ℕ) (u : TypeTree) → i < length us → u ≡ get_or us i u
    → field_list place x all n (take (i + 1) us) ≡ field_list place x all n (take i us) ++ item_at place x all (n + i) u ∷ []
fields_more place x all n us i u h p =
    let e : length (take i us) ≡ i = length-take-le i us (omega arith) in
    ap (field_list place x all n) (take_more us i u h) ∙ fields_push place x all n (take i us) (get_or us i u) (n + i) (omega arith)
    ∙ ap (λ v. field_list place x all n (take i us) ++ item_at place x all (n + i) v ∷ []) (sym p)

pub fields_all : (place : Place) (x : ℕ) (all : TypeTrees) (n : ℕ) (us : List TypeTree) (i : ℕ) → length us ≤ i → pack_exprs (field_list place x all n (take i us)) ≡ items_from place x all n (pack us)
fields_all place x all n us i h = ap (λ ts. pack_exprs (field_list place x all n ts)) (take_all i us h) ∙ packed_fields place x all n us

-- ---- a part of a row

pub part_one : (place : Place) (x : ℕ) (all : TypeTrees) (n : ℕ) (us : List TypeTree) (u : TypeTree) → length us ≡ 1 → u ≡ get_or us 0 u → item_at place x all n u ≡ part_of_row place x all n (pack us)
part_one place x all n [] u h e = absurd (omega (arith, h))
part_one place x all n (t ∷ []) u h e = ap (item_at place x all n) e
part_one place x all n (t ∷ s ∷ us) u h e = absurd (omega (arith, h))

pub part_more : (place : Place) (x : ℕ) (all : TypeTrees) (n : ℕ) (us : List TypeTree) → length us ≢ 1 → many (node_of place (struct (pack us))) make_struct (items_from place x all n (pack us)) ≡ part_of_row place x all n (pack us)
part_more place x all n [] h = refl
part_more place x all n (t ∷ []) h = absurd (h refl)
part_more place x all n (t ∷ s ∷ us) h = refl
