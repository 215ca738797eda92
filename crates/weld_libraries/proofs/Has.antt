-- Types of the parts that the calls' programs are made of.
use Rattle.std.proofs.Common.{◌≡◌, ℕ, zero, suc, ◌+◌, pos, [], ◌∷◌, Some, None, refl, inl, arith}
use Rattle.std.proofs.lemmas.Int.{ints}
use Rattle.weld_data.specs.declared.kind.Kind.{Kind}
use Rattle.weld_data.specs.declared.kind.Kind.TheVariants as kinds
use Rattle.weld_data.specs.declared.op.BinOp.{BinOp}
use Rattle.weld_data.specs.declared.op.BinOp.TheVariants as ops
use Rattle.weld_data.specs.declared.op.MergeOp.TheVariants as merges
use Rattle.weld_data.specs.Kind.{IsInteger, InRange}
use Rattle.weld_data.specs.Operation.{TakesKind, answer_kind}
use Rattle.weld_tree.specs.TypeTree.{TypeTree, TypeTrees, BuildTree, scalar, vec, struct, build, total, no_types, more_types}
use Rattle.weld_tree.specs.Types.{IsBuilderFree, IsWellFormedBuild, pair_of, takes, gives}
use Rattle.weld_tree.specs.ExprTree.{ExprTree, LegTrees}
use Rattle.weld_tree.specs.Program.{MayBeFresh}
use Rattle.weld_meaning.specs.Environment.{look_for}
use Rattle.weld_meaning.specs.Typing.{Types, HasType, LegsHave, RowHas, IsField}
use Rattle.weld_calls.specs.CallTypes.{place_type, nth_type, or_itself, IsComparison, IsArithmetic}
use Rattle.weld_calls.specs.CallPrograms.{use_of, literal, pair, merged, fresh_builder, gathered, across, dotted, legs_of}

pub gathered_has : (legs : LegTrees) (builder body : ExprTree) (b n x : ℕ) (g : Types) (us : TypeTrees) (r : TypeTree) (bt : BuildTree)
    → LegsHave legs g us → RowHas us r → HasType builder g (build bt) → HasType body ((x, r) ∷ (n, place_type) ∷ (b, build bt) ∷ g) (build bt)
    → HasType (gathered legs builder b n x body) g (gives bt)
gathered_has legs builder body b n x g us r bt l w e f = (build bt, (us, r, l, w, e, tt, tt, tt, tt, f), (bt, refl, refl))

pub merged_has : (b : ℕ) (e : ExprTree) (g : Types) (bt : BuildTree) (w : TypeTree) → look_for b g ≡ Some (build bt) → HasType e g w → w ≡ takes bt
    → HasType (merged (use_of b) e) g (build bt)
merged_has b e g bt w there h fits = (build bt, w, there, h, (bt, refl, fits, refl))

pub fresh_has : (bt : BuildTree) (g : Types) → MayBeFresh bt → IsWellFormedBuild bt → HasType (fresh_builder bt) g (build bt)
fresh_has bt g m w = (m, w, refl)

pub across_has : (op : BinOp) (x : ℕ) (k : Kind) (g : Types) → look_for x g ≡ Some (pair_of (scalar k) (scalar k)) → TakesKind op k
    → HasType (across op x) g (scalar (answer_kind op k))
across_has op x k g there h =
    let us : TypeTrees = more_types (scalar k) (more_types (scalar k) no_types) in
    (scalar k, scalar k, (struct us, there, (us, refl, refl)), (struct us, there, (us, refl, refl)), (k, h, refl, refl, refl))

pub one_in_range : InRange kinds.I64 (pos 1)
one_in_range = record { low = omega (arith, ints); high = omega (arith, ints) }

pub none_in_range : InRange kinds.I64 (pos 0)
none_in_range = record { low = omega (arith, ints); high = omega (arith, ints) }

-- a row beside the number 1
pub counted_has : (x : ℕ) (t : TypeTree) (g : Types) → look_for x g ≡ Some t → IsBuilderFree t → HasType (pair (use_of x) (literal 1)) g (pair_of t place_type)
counted_has x t g there free =
    (more_types t (more_types place_type no_types), (there, ((tt, one_in_range, refl), tt)), (tt, inl (free, (tt, tt)), refl))

-- the sum of products, wherever it stands
pub dotted_has : (v w b : ℕ) (k : Kind) (g : Types) → IsInteger k → look_for v g ≡ Some (vec (scalar k)) → look_for w g ≡ Some (vec (scalar k))
    → look_for (b + 2) ((b + 2, pair_of (scalar k) (scalar k)) ∷ (b + 1, place_type) ∷ (b, build (total (scalar k) merges.Add)) ∷ g) ≡ Some (pair_of (scalar k) (scalar k))
    → look_for b ((b + 2, pair_of (scalar k) (scalar k)) ∷ (b + 1, place_type) ∷ (b, build (total (scalar k) merges.Add)) ∷ g) ≡ Some (build (total (scalar k) merges.Add))
    → HasType (dotted v w (scalar k) b) g (scalar k)
dotted_has v w b k g h first second row builder =
    let bt : BuildTree = total (scalar k) merges.Add in
    let us : TypeTrees = more_types (scalar k) (more_types (scalar k) no_types) in
    let inside : Types = (b + 2, struct us) ∷ (b + 1, place_type) ∷ (b, build bt) ∷ g in
    gathered_has (legs_of (v ∷ w ∷ [])) (fresh_builder bt) (merged (use_of b) (across ops.Mul (b + 2))) b (b + 1) (b + 2) g us (struct us) bt
    (first, (second, tt)) refl (fresh_has bt g tt h) (merged_has b (across ops.Mul (b + 2)) inside bt (scalar k) builder (across_has ops.Mul (b + 2) k inside row h) refl)

-- a column that is there
pub column_has : (n : ℕ) (us : TypeTrees) (d t : TypeTree) → nth_type n us ≡ Some t → IsField n us (or_itself (nth_type n us) d)
column_has n no_types d t e = absurd (let no : None ≡ Some t = e in cc)
column_has zero (more_types u us) d t e = refl
column_has (suc n) (more_types u us) d t e = column_has n us d t e

-- ---- operators

pub arithmetic_takes : (op : BinOp) (k : Kind) → IsArithmetic op → IsInteger k → TakesKind op k
arithmetic_takes ops.Add k a h = h
arithmetic_takes ops.Sub k a h = h
arithmetic_takes ops.Mul k a h = h
arithmetic_takes ops.Div k a h = h
arithmetic_takes ops.Rem k a h = h
arithmetic_takes _ k a h = absurd a

pub arithmetic_answers : (op : BinOp) (k : Kind) → IsArithmetic op → answer_kind op k ≡ k
arithmetic_answers ops.Add k a = refl
arithmetic_answers ops.Sub k a = refl
arithmetic_answers ops.Mul k a = refl
arithmetic_answers ops.Div k a = refl
arithmetic_answers ops.Rem k a = refl
arithmetic_answers _ k a = absurd a

pub comparison_takes : (op : BinOp) (k : Kind) → IsInteger k → TakesKind op k
comparison_takes ops.Eq k h = tt
comparison_takes ops.Ne k h = tt
comparison_takes _ k h = h

pub comparison_answers : (op : BinOp) (k : Kind) → IsComparison op → answer_kind op k ≡ kinds.Bool
comparison_answers ops.Add k c = absurd c
comparison_answers ops.Sub k c = absurd c
comparison_answers ops.Mul k c = absurd c
comparison_answers ops.Div k c = absurd c
comparison_answers ops.Rem k c = absurd c
comparison_answers _ k c = refl
