-- Typed bodies take no field of the list's builder and merge values into it.
use Rattle.std.proofs.Common.{◌≡◌, Bool, true, false, not as not_of, ◌&&◌, ◌∷◌, refl, ap, sym, subst}
use Rattle.weld_tree.specs.TypeTree.{TypeTree, TypeTrees, vec, struct as tuple, no_types, more_types}
use Rattle.weld_tree.specs.Types.{IsBuilderFree, IsWellFormed}
use Rattle.weld_tree.specs.ExprTree.{ExprTree, leaf, one, two, three, many, let_in, loop, iterate, ExprTrees, no_exprs, more_exprs, LegTree, whole, strided, LegTrees, no_legs, more_legs, One, neg, not, cast, len, field, finish, started, Two, binary, and, or, look_up, key_exists, merge}
use Rattle.weld_meaning.specs.Environment.{Named}
use Rattle.weld_meaning.specs.Typing.{Types, AreFormed, OneHas, TwoHas, HasType, HaveTypes, LegHas, LegsHave}
use Rattle.weld_meaning.specs.Origin.{Origin, value, made, own, outer, named, struct, is_value, origin}
use Rattle.weld_meaning.specs.Forms.{HasForm, NamesHaveForms}
use Rattle.weld_meaning.proofs.OriginTypes.{origin_forms, forms_bind}
use Rattle.weld_meaning.proofs.WellFormed.{takes_free, type_formed, formed_bind}
use Rattle.weld_rewriting.proofs.Forms.{free_origin}
use Rattle.weld_substitution.proofs.Following.{and_true}
use Rattle.weld_vertical.specs.Sinking.{is_merge}
use Rattle.weld_handing.specs.Handing.{is_held, holds, starts_none, all_start_none, leg_starts_none, legs_start_none}
use Rattle.weld_handing.proofs.Answering.{OneClear, IsClear, AllClear, LegClear, LegsClear}

-- a struct isn't the list's builder
struct_unheld : (o : Origin) (us : TypeTrees) → HasForm o (tuple us) → is_held o ≡ false
struct_unheld value us h = refl
struct_unheld made us h = absurd h
struct_unheld (own p) us h = absurd h
struct_unheld outer us h = absurd h
struct_unheld (named s p) us h = absurd h
struct_unheld (struct os) us h = refl

one_clear : (o : One) (p : Origin) (u t : TypeTree) → HasForm p u → OneHas o u t → OneClear o p
one_clear neg p u t h k = tt
one_clear not p u t h k = tt
one_clear (cast c) p u t h k = tt
one_clear len p u t h k = tt
one_clear (field n) p u t h k = struct_unheld p k.0 (subst (HasForm p) k.1 h)
one_clear finish p u t h k = tt
one_clear (started b) p u t h k = tt

-- what is merged is a value
merged_value : (o : Two) (p r : Origin) (u v t : TypeTree) → IsWellFormed u → IsWellFormed v → HasForm r v → TwoHas o u v t → (is_merge o && is_held p) ≡ true → is_value r ≡ true
merged_value (binary op) p r u v t wu wv h k e = let nothing : ⊥ = cc in absurd nothing
merged_value and p r u v t wu wv h k e = let nothing : ⊥ = cc in absurd nothing
merged_value or p r u v t wu wv h k e = let nothing : ⊥ = cc in absurd nothing
merged_value look_up p r u v t wu wv h k e = let nothing : ⊥ = cc in absurd nothing
merged_value key_exists p r u v t wu wv h k e = let nothing : ⊥ = cc in absurd nothing
merged_value merge p r u v t wu wv h k e =
    ap is_value (free_origin r v wv (subst IsBuilderFree (sym k.2) (takes_free k.0 (subst IsWellFormed k.1 wu))) h)

starts_so : (b c : Bool) → (not_of b && c) ≡ true → (b ≡ false) × (c ≡ true)
starts_so true c h = let nothing : ⊥ = cc in absurd nothing
starts_so false c h = (refl, h)

mutual
  -- a typed body of which no loop within starts with the list's builder
  pub typed_clear : (e : ExprTree) (q : Named Origin) (g : Types) (t : TypeTree) → starts_none q e ≡ true → HasType e g t → AreFormed g → NamesHaveForms q g → IsClear q e
  typed_clear (leaf a l) q g t s h w f = tt
  typed_clear (one a o e) q g t s h w f = (typed_clear e q g h.0 s h.1 w f, one_clear o (origin e q) h.0 t (origin_forms e q g h.0 h.1 w f) h.2)
  typed_clear (two a o e v) q g t s h w f =
      let k = and_true (starts_none q e) (starts_none q v) s in (
        typed_clear e q g h.0 k.0 h.2 w f,
        typed_clear v q g h.1 k.1 h.3 w f,
        merged_value o (origin e q) (origin v q) h.0 h.1 t (type_formed e g h.0 h.2 w) (type_formed v g h.1 h.3 w) (origin_forms v q g h.1 h.3 w f) h.4,
      )
  typed_clear (three a o d e k) q g t s h w f =
      let y = and_true (starts_none q d) (starts_none q e && starts_none q k) s in
      let z = and_true (starts_none q e) (starts_none q k) y.1 in
      (typed_clear d q g h.0 y.0 h.3 w f, typed_clear e q g h.1 z.0 h.4 w f, typed_clear k q g h.2 z.1 h.5 w f)
  typed_clear (many a o es) q g t s h w f = all_typed_clear es q g h.0 s h.1 w f
  typed_clear (let_in a z v k) q g t s h w f =
      let y = and_true (starts_none q v) (starts_none ((z.sym.0, origin v q) ∷ q) k) s in
      let u = h.0 in (
        typed_clear v q g u y.0 h.1 w f,
        typed_clear k ((z.sym.0, origin v q) ∷ q) ((z.sym.0, u) ∷ g) t y.1 h.3 (formed_bind g z.sym.0 u (type_formed v g u h.1 w) w) (forms_bind q g z.sym.0 (origin v q) u (origin_forms v q g u h.1 w f) f),
      )
  typed_clear (loop a ls e b m x k) q g t s h w f =
      let y = starts_so (holds (origin e q)) (legs_start_none q ls && starts_none q e) s in
      let z = and_true (legs_start_none q ls) (starts_none q e) y.1 in
      (legs_typed_clear ls q g h.0 z.0 h.2 w f, typed_clear e q g t z.1 h.4 w f, y.0)
  typed_clear (iterate a e b k) q g t s h w f = typed_clear e q g t s h.0 w f

  all_typed_clear : (es : ExprTrees) (q : Named Origin) (g : Types) (us : TypeTrees) → all_start_none q es ≡ true → HaveTypes es g us → AreFormed g → NamesHaveForms q g → AllClear q es
  all_typed_clear no_exprs q g us s h w f = tt
  all_typed_clear (more_exprs e es) q g no_types s h w f = absurd h
  all_typed_clear (more_exprs e es) q g (more_types u us) s h w f =
      let k = and_true (starts_none q e) (all_start_none q es) s in (typed_clear e q g u k.0 h.0 w f, all_typed_clear es q g us k.1 h.1 w f)

  leg_typed_clear : (l : LegTree) (q : Named Origin) (g : Types) (u : TypeTree) → leg_starts_none q l ≡ true → LegHas l g u → AreFormed g → NamesHaveForms q g → LegClear q l
  leg_typed_clear (whole e) q g u s h w f = typed_clear e q g (vec u) s h w f
  leg_typed_clear (strided e d k j) q g u s h w f =
      let y = and_true (starts_none q e) (starts_none q d && (starts_none q k && starts_none q j)) s in
      let z = and_true (starts_none q d) (starts_none q k && starts_none q j) y.1 in
      let v = and_true (starts_none q k) (starts_none q j) z.1 in
      (typed_clear e q g _ y.0 h.0 w f, typed_clear d q g _ z.0 h.1 w f, typed_clear k q g _ v.0 h.2 w f, typed_clear j q g _ v.1 h.3 w f)

  legs_typed_clear : (ls : LegTrees) (q : Named Origin) (g : Types) (us : TypeTrees) → legs_start_none q ls ≡ true → LegsHave ls g us → AreFormed g → NamesHaveForms q g → LegsClear q ls
  legs_typed_clear no_legs q g us s h w f = tt
  legs_typed_clear (more_legs l ls) q g no_types s h w f = absurd h
  legs_typed_clear (more_legs l ls) q g (more_types u us) s h w f =
      let k = and_true (leg_starts_none q l) (legs_start_none q ls) s in (leg_typed_clear l q g u k.0 h.0 w f, legs_typed_clear ls q g us k.1 h.1 w f)
