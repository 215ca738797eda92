-- The merge that takes the place of a guarded one is lighter than the `if`.
use Rattle.std.proofs.Common.{◌≡◌, ◌+◌, ◌<◌, Bool, true, false, ◌&&◌, ◌||◌, if◌then◌else◌, Option, Some, None, refl, arith}
use Rattle.weld_data.specs.declared.kind.Kind.{Kind}
use Rattle.weld_data.specs.declared.kind.Kind.TheVariants.{Bool as BoolKind, I8, I16, I32, I64, U8, U16, U32, U64}
use Rattle.weld_data.specs.declared.op.MergeOp.{MergeOp}
use Rattle.weld_tree.specs.declared.place.Place.{Place}
use Rattle.weld_tree.specs.TypeTree.{TypeTree, TypeTrees, scalar, vec, struct, dict, build, no_types, more_types}
use Rattle.weld_tree.specs.ExprTree.{At, ExprTree, leaf, one, two, three, many, let_in, loop, iterate, if_else, select, slice}
use Rattle.weld_safe.specs.Test.{is_safe}
use Rattle.weld_meaning.specs.Available.{chain_of}
use Rattle.weld_substitution.specs.Redex.{noted}
use Rattle.weld_rewriting.specs.Weight.{weight, weight_in}
use Rattle.weld_predicate.specs.Neutral.{neutral, neutrals, neutral_number}
use Rattle.weld_predicate.specs.Guard.{Merger, merger_of, same_chain, is_merge, is_some_merger, is_guarded, is_guard, chosen_value, always_merged, unguarded}

both : (a b : Bool) → (a && b) ≡ true → (a ≡ true) × (b ≡ true)
both true b h = (refl, h)
both false b h = let wrong : ⊥ = cc in absurd wrong

number_weight : (place : Place) (op : MergeOp) (k : Kind) → weight (neutral_number place op k) ≡ 0
number_weight place op BoolKind = refl
number_weight place op I8 = refl
number_weight place op I16 = refl
number_weight place op I32 = refl
number_weight place op I64 = refl
number_weight place op U8 = refl
number_weight place op U16 = refl
number_weight place op U32 = refl
number_weight place op U64 = refl

-- however many fields a struct has, it weighs nothing
mutual
  neutral_weight : (place : Place) (op : MergeOp) (t : TypeTree) → weight (neutral place op t) ≡ 0
  neutral_weight place op (scalar k) = number_weight place op k
  neutral_weight place op (vec t) = refl
  neutral_weight place op (struct ts) = neutrals_weight place op ts
  neutral_weight place op (dict k v) = refl
  neutral_weight place op (build b) = refl

  neutrals_weight : (place : Place) (op : MergeOp) (ts : TypeTrees) → weight_in (neutrals place op ts) ≡ 0
  neutrals_weight place op no_types = refl
  neutrals_weight place op (more_types t ts) = λ i. neutral_weight place op t i + neutrals_weight place op ts i

chosen_weight : (place : Place) (c v : ExprTree) (wanted : Bool) (m : Option Merger) → is_some_merger m ≡ true → weight (chosen_value place c wanted v m) ≡ weight c + weight v
chosen_weight place c v wanted None h = let wrong : ⊥ = cc in absurd wrong
chosen_weight place c v true (Some m) h = omega (arith, neutral_weight place m.op m.item)
chosen_weight place c v false (Some m) h = omega (arith, neutral_weight place m.op m.item)

arm_weight : (a : At) (c : ExprTree) (wanted : Bool) (e f : ExprTree) → is_guarded e f ≡ true → weight (always_merged a c wanted e) ≡ weight c + weight e
arm_weight a c wanted (leaf b l) f h = let wrong : ⊥ = cc in absurd wrong
arm_weight a c wanted (one b o e) f h = let wrong : ⊥ = cc in absurd wrong
arm_weight a c wanted (two b o e v) f h =
    let after_merge = (both (is_merge o) (same_chain (chain_of e) (chain_of f) && (is_some_merger (merger_of (noted e)) && is_safe v)) h).1 in
    let after_chain = (both (same_chain (chain_of e) (chain_of f)) (is_some_merger (merger_of (noted e)) && is_safe v) after_merge).1 in
    let some = (both (is_some_merger (merger_of (noted e))) (is_safe v) after_chain).0 in
    omega (arith, chosen_weight a.place c v wanted (merger_of (noted e)) some)
arm_weight a c wanted (three b o d e g) f h = let wrong : ⊥ = cc in absurd wrong
arm_weight a c wanted (many b o es) f h = let wrong : ⊥ = cc in absurd wrong
arm_weight a c wanted (let_in b n e g) f h = let wrong : ⊥ = cc in absurd wrong
arm_weight a c wanted (loop b ls e n m x g) f h = let wrong : ⊥ = cc in absurd wrong
arm_weight a c wanted (iterate b e n g) f h = let wrong : ⊥ = cc in absurd wrong

by_first : (b : Bool) (a : At) (c e f : ExprTree) → is_guarded e f ≡ b → (b || is_guarded f e) ≡ true → weight (if b then always_merged a c true e else always_merged a c false f) < 1 + weight c + weight e + weight f
by_first true a c e f q h = omega (arith, arm_weight a c true e f q)
by_first false a c e f q h = omega (arith, arm_weight a c false f e h)

pub lighter : (e : ExprTree) → is_guard e ≡ true → weight (unguarded e) < weight e
lighter (leaf a l) h = let wrong : ⊥ = cc in absurd wrong
lighter (one a o e) h = let wrong : ⊥ = cc in absurd wrong
lighter (two a o e f) h = let wrong : ⊥ = cc in absurd wrong
lighter (three a if_else c e f) h = by_first (is_guarded e f) a c e f refl h
lighter (three a select c e f) h = let wrong : ⊥ = cc in absurd wrong
lighter (three a slice c e f) h = let wrong : ⊥ = cc in absurd wrong
lighter (many a o es) h = let wrong : ⊥ = cc in absurd wrong
lighter (let_in a b e f) h = let wrong : ⊥ = cc in absurd wrong
lighter (loop a ls e b n x f) h = let wrong : ⊥ = cc in absurd wrong
lighter (iterate a e b f) h = let wrong : ⊥ = cc in absurd wrong
