-- The second body under the first's row number and row, for the same behind lets of both.
use Rattle.std.proofs.Common.{◌≡◌, ◌≢◌, ◌⊎◌, inl, inr, ℕ, [], ◌∷◌, ◌++◌, refl, sym, subst}
use Rattle.weld_data.specs.declared.kind.Kind.TheVariants as kinds
use Rattle.weld_tree.specs.TypeTree.{TypeTree, scalar}
use Rattle.weld_tree.specs.ExprTree.{At, ExprTree, leaf, many, let_in, more_exprs, no_exprs, whole, more_legs, no_legs, name, make_struct}
use Rattle.weld_tree.specs.Program.{bound, IsOneOf}
use Rattle.weld_meaning.specs.Names.{IsFree, put}
use Rattle.weld_meaning.proofs.PartsGood.{KeyLaws}
use Rattle.weld_rewriting.specs.Tidy.{IsTidy}
use Rattle.weld_rewriting.specs.Shape.{IsCongruence}
use Rattle.weld_rewriting.specs.Rewriting.{Rewrites}
use Rattle.weld_rewriting.proofs.Rewriting.{rewrites_itself, rewrites_in_turn, rewrites_through}
use Rattle.weld_rewriting.proofs.Tidying.{within_tidy}
use Rattle.weld_substitution.proofs.PlainRule.{plain_rewrites}
use Rattle.weld_joining.specs.Beside.{finish_at, Half, two_lets, node_of, bare, both_builders, builder_field, second_body, joined, with_results, side_by_side}
use Rattle.weld_joining.proofs.Placing.{behind_lets}
use Rattle.weld_joining.proofs.Numbers.{distinct_before, x1_apart, i1_apart, x2_there, i2_there, body_there, i2_apart, x2_apart, i2_x2, body_distinct, body_apart}

module _ (a m : At) (s : ℕ) (row : TypeTree) (h k : Half) (rest : ExprTree) (tidy : IsTidy (two_lets a m s h k rest)) (laws : KeyLaws) where
  abbrev at : At
  at = node_of a.place k.starts

  abbrev number_name : ExprTree
  number_name = leaf (node_of a.place (scalar kinds.I64)) (name h.number.sym.0)

  abbrev row_name : ExprTree
  row_name = leaf (node_of a.place row) (name h.row.sym.0)

  abbrev row_let : ExprTree
  row_let = let_in at (bare k.row) row_name k.body

  abbrev number_let : ExprTree
  number_let = let_in at (bare k.number) number_name row_let

  row_tidy : IsTidy row_let
  row_tidy = record {
    distinct = ((λ f. x2_apart a m s h k rest tidy k.row.sym.0 f refl), distinct_before (bound k.body) (bound rest) (body_distinct a m s h k rest tidy));
    apart = λ t b f. apart_from t b f;
  }
    where
      apart_from : (t : ℕ) → (t ≡ k.row.sym.0) ⊎ IsOneOf (bound k.body) t → (t ≡ h.row.sym.0) ⊎ (IsFree k.body t × (t ≢ k.row.sym.0)) → ⊥
      apart_from t (inl e) (inl f) = x1_apart a m s h k rest tidy t (subst (IsOneOf (Rattle.weld_joining.proofs.Numbers.tail a m s h k rest tidy)) (sym e) (x2_there a m s h k rest tidy)) (sym f)
      apart_from t (inr b) (inl f) = x1_apart a m s h k rest tidy t (body_there a m s h k rest tidy t b) (sym f)
      apart_from t (inl e) (inr f) = f.1 e
      apart_from t (inr b) (inr f) = body_apart a m s h k rest tidy t b f.0

  number_tidy : IsTidy number_let
  number_tidy = record {
    distinct = ((λ f. not_number f), row_tidy.distinct);
    apart = λ t b f. apart_from t b f;
  }
    where
      not_number : (k.number.sym.0 ≡ k.row.sym.0) ⊎ IsOneOf (bound k.body) k.number.sym.0 → ⊥
      not_number (inl e) = i2_x2 a m s h k rest tidy e
      not_number (inr b) = i2_apart a m s h k rest tidy k.number.sym.0 b refl

      there : (t : ℕ) → (t ≡ k.number.sym.0) ⊎ ((t ≡ k.row.sym.0) ⊎ IsOneOf (bound k.body) t) → IsOneOf (Rattle.weld_joining.proofs.Numbers.tail a m s h k rest tidy) t
      there t (inl e) = subst (IsOneOf (Rattle.weld_joining.proofs.Numbers.tail a m s h k rest tidy)) (sym e) (i2_there a m s h k rest tidy)
      there t (inr (inl e)) = subst (IsOneOf (Rattle.weld_joining.proofs.Numbers.tail a m s h k rest tidy)) (sym e) (x2_there a m s h k rest tidy)
      there t (inr (inr b)) = body_there a m s h k rest tidy t b

      apart_from : (t : ℕ) → (t ≡ k.number.sym.0) ⊎ ((t ≡ k.row.sym.0) ⊎ IsOneOf (bound k.body) t) → (t ≡ h.number.sym.0) ⊎ (((t ≡ h.row.sym.0) ⊎ (IsFree k.body t × (t ≢ k.row.sym.0))) × (t ≢ k.number.sym.0)) → ⊥
      apart_from t b (inl f) = i1_apart a m s h k rest tidy t (there t b) (sym f)
      apart_from t (inl e) (inr f) = f.1 e
      apart_from t (inr b) (inr f) = row_tidy.apart t b f.0

  body_rewrites : Rewrites (second_body a.place row h k) (behind_lets a.place row h k)
  body_rewrites =
      let through : IsCongruence Rewrites = rewrites_through laws in
      let first = plain_rewrites at (bare k.row) row_name k.body row_tidy refl laws in
      let under = through.at_let at (bare k.number) number_name (put k.row.sym.0 row_name k.body) number_name row_let (rewrites_itself number_name) first in
      let then_tidy = within_tidy (let_in at (bare k.number) number_name (put k.row.sym.0 row_name k.body)) number_let under.within number_tidy in
      rewrites_in_turn (second_body a.place row h k) (let_in at (bare k.number) number_name (put k.row.sym.0 row_name k.body)) number_let
      (plain_rewrites at (bare k.number) number_name (put k.row.sym.0 row_name k.body) then_tidy refl laws) under

  -- and so the whole
  pub renamed_rewrites : Rewrites (side_by_side a m s row h k rest) (with_results a m s h k (behind_lets a.place row h k) rest)
  renamed_rewrites =
      let through : IsCongruence Rewrites = rewrites_through laws in
      let all = both_builders h k in
      let node = node_of a.place all in
      let new = second_body a.place row h k in
      let old = behind_lets a.place row h k in
      let first_field = builder_field a.place all 0 h.starts k.row.sym.0 in
      let second_field = builder_field a.place all 1 k.starts k.row.sym.0 in
      let first = let_in (node_of a.place h.starts) h.builder first_field h.body in
      let starts = many node make_struct (more_exprs h.start (more_exprs k.start no_exprs)) in
      let results = let_in a h.bound (finish_at h.result_at (builder_field a.place all 0 h.starts k.number.sym.0)) (let_in m k.bound (finish_at k.result_at (builder_field a.place all 1 k.starts k.number.sym.0)) rest) in
      let lets = through.at_let (node_of a.place k.starts) k.builder second_field new second_field old (rewrites_itself second_field) body_rewrites in
      let body = through.at_many node make_struct (more_exprs first (more_exprs (let_in (node_of a.place k.starts) k.builder second_field new) no_exprs))
      (more_exprs first (more_exprs (let_in (node_of a.place k.starts) k.builder second_field old) no_exprs)) (rewrites_itself first, (lets, tt)) in
      let legs = more_legs (whole (leaf h.leg_at (name s))) no_legs in
      let loops = through.at_loop node legs legs starts starts (bare k.row) h.number h.row
      (many node make_struct (more_exprs first (more_exprs (let_in (node_of a.place k.starts) k.builder second_field new) no_exprs)))
      (many node make_struct (more_exprs first (more_exprs (let_in (node_of a.place k.starts) k.builder second_field old) no_exprs)))
      (rewrites_itself (leaf h.leg_at (name s)), tt) (rewrites_itself starts) body in
      through.at_let a (bare k.number) (joined a.place s h k new) results (joined a.place s h k old) results loops (rewrites_itself results)
