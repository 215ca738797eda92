-- The consumer's row, rebuilt from the row over all legs and the item that was merged, takes no builder, and comes to the struct of
-- both.
use Rattle.std.proofs.Common.{◌≡◌, ℕ, ◌+◌, ◌≤◌, false, [], Some, refl, ap, sym, subst, ◌∙◌, arith, inl, inr}
use Rattle.weld_data.specs.Value.{Value, struct as struct_value, Values, and_value}
use Rattle.weld_tree.specs.declared.place.Place.{Place}
use Rattle.weld_tree.specs.TypeTree.{TypeTree, TypeTrees, no_types, more_types}
use Rattle.weld_tree.specs.ExprTree.{ExprTree, leaf, ExprTrees, no_exprs, more_exprs, name}
use Rattle.weld_tree.specs.HasValue.{HasValue}
use Rattle.weld_builders.specs.Outcome.{Outcome, done, fault, stuck, map_out}
use Rattle.weld_meaning.specs.Environment.{Named, look_for}
use Rattle.weld_meaning.specs.Thing.{Thing, plain, building, several}
use Rattle.weld_meaning.specs.Evaluation.{Env, value_out, found, eval}
use Rattle.weld_meaning.specs.Origin.{Path, Origin, value, origin_of_name}
use Rattle.weld_meaning.specs.Linear.{IsSeen}
use Rattle.weld_meaning.specs.Available.{takes}
use Rattle.weld_meaning.specs.Names.{IsFree, AreFree}
use Rattle.weld_rewriting.proofs.Forms.{takes_chain, chain_takes_none}
use Rattle.weld_substitution.proofs.Values.{Idle, IsIdle}
use Rattle.weld_horizontal.specs.Twice.{node_of, item_at, items_from, count}
use Rattle.weld_horizontal.proofs.RowItems.{row_of}
use Rattle.weld_vertical_zip.specs.Zipping.{exprs_behind, Sides, all_items}
use Rattle.weld_vertical_zip.proofs.Gathering.{values_behind}
use Rattle.weld_vertical_zip.proofs.MadeRows.{Apiece, MadeSo, made_so, made_gives}
use Rattle.weld_vertical_zip_held.specs.Rule.{whole_of}

-- what comes out as a value is one
out_plain : (o : Outcome Thing) (v : Value) → value_out o ≡ done v → o ≡ done (plain v)
out_plain (done (plain w)) v e = let same : w ≡ v = cc in ap (λ y. done (plain y)) same
out_plain (done (building p)) v e = let nothing : ⊥ = cc in absurd nothing
out_plain (done (several ts)) v e = let nothing : ⊥ = cc in absurd nothing
out_plain fault v e = let nothing : ⊥ = cc in absurd nothing
out_plain stuck v e = let nothing : ⊥ = cc in absurd nothing

-- names of expressions behind others
first_named : (es fs : ExprTrees) (s : ℕ) → AreFree es s → AreFree (exprs_behind es fs) s
first_named no_exprs fs s h = absurd h
first_named (more_exprs e es) fs s (inl h) = inl h
first_named (more_exprs e es) fs s (inr h) = inr (first_named es fs s h)

second_named : (es fs : ExprTrees) (s : ℕ) → AreFree fs s → AreFree (exprs_behind es fs) s
second_named no_exprs fs s h = h
second_named (more_exprs e es) fs s h = inr (second_named es fs s h)

module _ (place : Place) (r : ℕ) (s : Sides) (x : ℕ) where
  item_named : (us : TypeTrees) (n : ℕ) (u : TypeTree) → IsFree (item_at place r us n u) r
  item_named no_types n u = refl
  item_named (more_types t no_types) n u = refl
  item_named (more_types t (more_types v ts)) n u = refl

  items_named : (all : TypeTrees) (n : ℕ) (us : TypeTrees) → 1 ≤ count us → AreFree (items_from place r all n us) r
  items_named all n no_types h = absurd (omega (arith, h))
  items_named all n (more_types u us) h = inl (item_named all n u)

  abbrev fronts : ExprTrees
  fronts = items_from place r (all_items s) 0 s.before

  abbrev backs : ExprTrees
  backs = items_from place r (all_items s) (count s.before + count s.within) s.after

  -- the item that was merged
  abbrev there : ExprTree
  there = leaf (node_of place s.item) (name x)

  row_named : 1 ≤ count s.before + count s.after → IsFree (whole_of place r s x) r
  row_named h = by s.before s.after h (λ k. first_named fronts (more_exprs there backs) r (items_named (all_items s) 0 s.before k)) (λ k. second_named fronts (more_exprs there backs) r (inr (items_named (all_items s) (count s.before + count s.within) s.after k)))
    where
      by : (us ts : TypeTrees) → 1 ≤ count us + count ts → (1 ≤ count us → IsFree (whole_of place r s x) r) → (1 ≤ count ts → IsFree (whole_of place r s x) r) → IsFree (whole_of place r s x) r
      by no_types ts k f g = g (omega (arith, k))
      by (more_types u us) ts k f g = f (omega arith)

  itself_named : IsFree (whole_of place r s x) x
  itself_named = second_named fronts (more_exprs there backs) x (inl refl)

  -- where the row and the item are values, so is it, and it takes nothing
  pub whole_idle : 1 ≤ count s.before + count s.after → IsIdle (whole_of place r s x)
  whole_idle h = record {
    from = λ g j. (so g j).from;
    none = λ g j t q. (so g j).taken t q ∙ name_takes g j t q;
    keeps = λ g j. (so g j).keeps;
    splits = λ g j. (so g j).splits;
  }
    where
      row_there : (g : Named Origin) → Idle (whole_of place r s x) g → origin_of_name r g ≡ value
      row_there g j = j.idle r (row_named h)

      item_value : (g : Named Origin) → Idle (whole_of place r s x) g → origin_of_name x g ≡ value
      item_value g j = j.idle x itself_named

      so : (g : Named Origin) → Idle (whole_of place r s x) g → MadeSo place r s there g
      so g j = made_so place r s there g (row_there g j) (item_value g j) (subst IsSeen (sym (item_value g j)) tt) tt

      name_takes : (g : Named Origin) → Idle (whole_of place r s x) g → (t : ℕ) (q : Path) → takes there g t q ≡ false
      name_takes g j t q = takes_chain there (x, []) g t q false refl ∙ chain_takes_none (x, []) g t q false (item_value g j)

  -- on a row over all legs, of an item
  pub whole_gives : (fs : Values) (a : Apiece s fs) (v : Value) (env : Env) → look_for r env ≡ Some (plain (struct_value fs)) → look_for x env ≡ Some (plain v) → HasValue (row_of (all_items s)) (struct_value fs) → 2 ≤ count (all_items s) → eval (whole_of place r s x) env ≡ done (plain (struct_value (values_behind a.before (and_value v a.after))))
  whole_gives fs a v env l k h b =
      out_plain (eval (whole_of place r s x) env) (struct_value (values_behind a.before (and_value v a.after)))
      (made_gives place r s there fs a env l h b
      ∙ ap (λ m. map_out (λ y. struct_value (values_behind a.before (and_value y a.after))) (value_out (found m))) k)
