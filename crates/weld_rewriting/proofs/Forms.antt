-- What has a builder-free type holds no builder; and a name with field accesses that has one stands on a name that has one.
use Rattle.std.proofs.Common.{◌≡◌, ℕ, zero, suc, ◌==◌, Bool, true, false, ◌&&◌, [], ◌∷◌, Option, Some, None, refl, ap, sym, subst, ◌∙◌, eqb-true, inl, inr, ◌⊎◌}
use Rattle.weld_tree.specs.TypeTree.{TypeTree, TypeTrees, scalar, vec, struct as tuple, dict, build, no_types, more_types}
use Rattle.weld_tree.specs.Types.{IsBuilderFree, AreBuilderFree, IsBuilder, AreBuilders, IsWellFormed}
use Rattle.weld_tree.specs.ExprTree.{ExprTree, leaf, one, two, three, many, let_in, loop, iterate, int, truth, chars, name, fresh, neg, not, cast, len, field, finish, started}
use Rattle.weld_meaning.specs.Environment.{Named, look_for}
use Rattle.weld_meaning.specs.Typing.{Types, AreFormed, IsField, HasType}
use Rattle.weld_meaning.specs.Origin.{Path, Origin, value, made, own, outer, named, struct, origin_of_name}
use Rattle.weld_meaning.specs.Available.{field_within, at_path, is_builder, is_builder_path, is_below, chain_of_one, chain_of, chain_takes, takes}
use Rattle.weld_meaning.proofs.WellFormed.{key_free, type_formed}
use Rattle.weld_meaning.specs.Forms.{HasForm, NamesHaveForms}
use Rattle.weld_meaning.proofs.OriginTypes.{not_both}

-- ---- types

-- a well-formed type is builder-free or a builder's
pub free_or_builder : (t : TypeTree) → IsWellFormed t → IsBuilderFree t ⊎ IsBuilder t
free_or_builder (scalar k) w = inl tt
free_or_builder (vec t) w = inl w.1
free_or_builder (tuple us) w = w.2
free_or_builder (dict k v) w = inl (key_free k w.0, w.2)
free_or_builder (build b) w = inr tt

pub field_builds : (n : ℕ) (us : TypeTrees) (t : TypeTree) → IsField n us t → AreBuilders us → IsBuilder t
field_builds zero no_types t f h = absurd f
field_builds (suc n) no_types t f h = absurd f
field_builds zero (more_types u us) t f h = subst IsBuilder (sym f) h.0
field_builds (suc n) (more_types u us) t f h = field_builds n us t f h.1

-- a struct with a builder-free field is builder-free
pub free_by_field : (n : ℕ) (us : TypeTrees) (t : TypeTree) → IsField n us t → IsWellFormed t → IsBuilderFree t → IsWellFormed (tuple us) → IsBuilderFree (tuple us)
free_by_field n us t f w free h = by h.2
  where
    by : AreBuilderFree us ⊎ AreBuilders us → AreBuilderFree us
    by (inl x) = x
    by (inr b) = absurd (not_both t w (field_builds n us t f b) free)

-- ---- origins

pub free_origin : (o : Origin) (u : TypeTree) → IsWellFormed u → IsBuilderFree u → HasForm o u → o ≡ value
free_origin value u w f h = refl
free_origin made (scalar k) w f h = absurd h
free_origin made (vec t) w f h = absurd h
free_origin made (tuple us) w f h = absurd h
free_origin made (dict k v) w f h = absurd h
free_origin made (build b) w f h = absurd f
free_origin (own p) (scalar k) w f h = absurd h
free_origin (own p) (vec t) w f h = absurd h
free_origin (own p) (tuple us) w f h = absurd h
free_origin (own p) (dict k v) w f h = absurd h
free_origin (own p) (build b) w f h = absurd f
free_origin outer (scalar k) w f h = absurd h
free_origin outer (vec t) w f h = absurd h
free_origin outer (tuple us) w f h = absurd h
free_origin outer (dict k v) w f h = absurd h
free_origin outer (build b) w f h = absurd f
free_origin (named s p) (scalar k) w f h = absurd h
free_origin (named s p) (vec t) w f h = absurd h
free_origin (named s p) (tuple us) w f h = absurd h
free_origin (named s p) (dict k v) w f h = absurd h
free_origin (named s p) (build b) w f h = absurd f
free_origin (struct os) (scalar k) w f h = absurd h
free_origin (struct os) (vec t) w f h = absurd h
free_origin (struct os) (tuple us) w f h = absurd (not_both (tuple us) w h.0 f)
free_origin (struct os) (dict k v) w f h = absurd h
free_origin (struct os) (build b) w f h = absurd h

pub no_path : (q : Path) → at_path q value ≡ value
no_path [] = refl
no_path (n ∷ q) = ap (field_within n) (no_path q)

pub no_builder_path : (q : Path) → is_builder_path value q ≡ false
no_builder_path q = ap is_builder (no_path q)

-- ---- chains

-- what of a chain with one more field is the chain without it
pub chain_field : (n : ℕ) (m : Option (ℕ × Path)) (c : ℕ × Path) → chain_of_one (field n) m ≡ Some c → (d : ℕ × Path) × (m ≡ Some d) × (c ≡ (d.0, n ∷ d.1))
chain_field n (Some d) c e = (d, refl, cc)
chain_field n None c e = let no : ⊥ = cc in absurd no

-- where a chain has a builder-free type, so has its name
pub chain_free : (d : ExprTree) (c : ℕ × Path) (g : Types) (u : TypeTree) → chain_of d ≡ Some c → HasType d g u → AreFormed g → IsBuilderFree u → (t : TypeTree) × (look_for c.0 g ≡ Some t) × IsBuilderFree t
chain_free (leaf a (int k x)) c g u e h w f = let no : ⊥ = cc in absurd no
chain_free (leaf a (truth b)) c g u e h w f = let no : ⊥ = cc in absurd no
chain_free (leaf a (chars bs)) c g u e h w f = let no : ⊥ = cc in absurd no
chain_free (leaf a (name s)) c g u e h w f = let same : c ≡ (s, []) = cc in (u, subst (λ (d : ℕ × Path). look_for d.0 g ≡ Some u) (sym same) h, f)
chain_free (leaf a (fresh b)) c g u e h w f = let no : ⊥ = cc in absurd no
chain_free (one a neg d) c g u e h w f = let no : ⊥ = cc in absurd no
chain_free (one a not d) c g u e h w f = let no : ⊥ = cc in absurd no
chain_free (one a (cast k) d) c g u e h w f = let no : ⊥ = cc in absurd no
chain_free (one a len d) c g u e h w f = let no : ⊥ = cc in absurd no
chain_free (one a (field n) d) c g u e h w f =
    let m = chain_field n (chain_of d) c e in
    let at : HasType d g (tuple h.2.0) = subst (HasType d g) h.2.1 h.1 in
    let free = free_by_field n h.2.0 u h.2.2 (type_formed (one a (field n) d) g u h w) f (type_formed d g (tuple h.2.0) at w) in
    subst (λ (x : ℕ × Path). (t : TypeTree) × (look_for x.0 g ≡ Some t) × IsBuilderFree t) (sym m.2) (chain_free d m.0 g (tuple h.2.0) m.1 at w free)
chain_free (one a finish d) c g u e h w f = let no : ⊥ = cc in absurd no
chain_free (one a (started b) d) c g u e h w f = let no : ⊥ = cc in absurd no
chain_free (two a o d k) c g u e h w f = let no : ⊥ = cc in absurd no
chain_free (three a o d k l) c g u e h w f = let no : ⊥ = cc in absurd no
chain_free (many a o es) c g u e h w f = let no : ⊥ = cc in absurd no
chain_free (let_in a b d k) c g u e h w f = let no : ⊥ = cc in absurd no
chain_free (loop a ls d b n x k) c g u e h w f = let no : ⊥ = cc in absurd no
chain_free (iterate a d b k) c g u e h w f = let no : ⊥ = cc in absurd no

pub chain_value : (d : ExprTree) (c : ℕ × Path) (g : Types) (h : Named Origin) (u : TypeTree) → chain_of d ≡ Some c → HasType d g u → AreFormed g → NamesHaveForms h g → IsBuilderFree u → origin_of_name c.0 h ≡ value
chain_value d c g h u e k w n f =
    let p = chain_free d c g u e k w f in
    free_origin (origin_of_name c.0 h) p.0 (w.formed c.0 p.0 p.1) p.2 (n.forms c.0 p.0 p.1)

-- a chain takes the builders below its path
pub takes_chain : (d : ExprTree) (c : ℕ × Path) (g : Named Origin) (s : ℕ) (q : Path) (x : Bool) → chain_of d ≡ Some c → takes d g s q ≡ chain_takes (Some c) g s q x
takes_chain (leaf a l) c g s q x e = ap (λ m. chain_takes m g s q false) e
takes_chain (one a o d) c g s q x e = ap (λ m. chain_takes m g s q (takes d g s q)) e
takes_chain (two a o d k) c g s q x e = let no : ⊥ = cc in absurd no
takes_chain (three a o d k l) c g s q x e = let no : ⊥ = cc in absurd no
takes_chain (many a o es) c g s q x e = let no : ⊥ = cc in absurd no
takes_chain (let_in a b d k) c g s q x e = let no : ⊥ = cc in absurd no
takes_chain (loop a ls d b n y k) c g s q x e = let no : ⊥ = cc in absurd no
takes_chain (iterate a d b k) c g s q x e = let no : ⊥ = cc in absurd no

-- on a name without builders it takes none
pub chain_takes_none : (c : ℕ × Path) (g : Named Origin) (s : ℕ) (q : Path) (x : Bool) → origin_of_name c.0 g ≡ value → chain_takes (Some c) g s q x ≡ false
chain_takes_none c g s q x e = by (c.0 == s) refl
  where
    none : (a : Bool) → (a && false) ≡ false
    none true = refl
    none false = refl

    by : (b : Bool) → (c.0 == s) ≡ b → (b && (is_below c.1 q && is_builder_path (origin_of_name s g) q)) ≡ false
    by true p =
        let here : origin_of_name s g ≡ value = subst (λ t. origin_of_name t g ≡ value) (eqb-true c.0 s p) e in
        ap (λ o. is_below c.1 q && is_builder_path o q) here ∙ ap (λ y. is_below c.1 q && y) (no_builder_path q) ∙ none (is_below c.1 q)
    by false p = refl
