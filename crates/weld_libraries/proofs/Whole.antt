-- The program of each call is sound.
use Rattle.std.proofs.Common.{◌≡◌, ℕ, zero, suc, List, [], ◌∷◌, Some, None, refl, sym, subst, arith, inl}
use Rattle.weld_data.specs.declared.kind.Kind.{Kind}
use Rattle.weld_data.specs.declared.kind.Kind.TheVariants as kinds
use Rattle.weld_data.specs.declared.op.BinOp.TheVariants as ops
use Rattle.weld_data.specs.declared.op.MergeOp.TheVariants as merges
use Rattle.weld_data.specs.Kind.{IsInteger}
use Rattle.weld_tree.specs.TypeTree.{TypeTree, TypeTrees, scalar, vec, struct, no_types, more_types}
use Rattle.weld_tree.specs.Types.{IsBuilderFree, AreBuilderFree}
use Rattle.weld_tree.specs.Program.{loops}
use Rattle.weld_calls.specs.declared.call.Call.{Call}
use Rattle.weld_calls.specs.declared.call.Call.TheVariants.{Add, Sub, Mul, Scale, Where, Dot, Sum, Min, Max, Slice, Take, Histogram, RowsDot, Column, Filter, Compare, Arith, Count, GroupSum, GroupList, GroupCount}
use Rattle.weld_calls.specs.CallTypes.{nth_type, or_itself, HasItsOperator, AreValueTypes, answer_of}
use Rattle.weld_calls.specs.CallRows.{OneVector, TwoVectors, VectorAndNumber, IsRow}
use Rattle.weld_calls.specs.CallPrograms.{fragment, field_of, use_of, loops_of}
use Rattle.weld_libraries.proofs.Parts.{IsBody, IsSound, sound}
use Rattle.weld_libraries.proofs.Has.{column_has, arithmetic_takes, arithmetic_answers, comparison_takes, comparison_answers}
use Rattle.weld_libraries.proofs.Calls.{zipped_is, against_is, where_is, take_is, reduced_is, dot_is, rows_dot_is, count_is, histogram_is, group_sum_is, group_list_is, group_count_is, filter_is, slice_is}

-- ---- columns

column_free : (n : ℕ) (us : TypeTrees) (d t : TypeTree) → nth_type n us ≡ Some t → AreBuilderFree us → IsBuilderFree (or_itself (nth_type n us) d)
column_free n no_types d t e h = absurd (let no : None ≡ Some t = e in cc)
column_free zero (more_types u us) d t e h = h.0
column_free (suc n) (more_types u us) d t e h = column_free n us d t e h.1

column_is : (n : ℕ) (us : TypeTrees) (t : TypeTree) → nth_type n us ≡ Some t → AreValueTypes (struct us ∷ [])
    → IsBody (struct us ∷ []) (field_of n (use_of 0)) (or_itself (nth_type n us) (struct us)) 1
column_is n us t e v = record {
  names = refl;
  few = omega arith;
  scoped = inl refl;
  made = (tt, tt);
  typed = (struct us, refl, (us, refl, column_has n us (struct us) t e));
  free = column_free n us (struct us) t e v.0.free;
  linear = refl;
}

-- ---- every call

-- what is to be shown of a call
abbrev Shown : Call → List TypeTree → Type 0
Shown call ts = AreValueTypes ts → IsSound (fragment call ts) (answer_of call ts)

one_vector : (call : Call) (ts : List TypeTree) → ((k : Kind) → IsInteger k → Shown call (vec (scalar k) ∷ [])) → OneVector ts → Shown call ts
one_vector call ts f r = subst (Shown call) (sym r.2) (f r.0 r.1)

two_vectors : (call : Call) (ts : List TypeTree) → ((k : Kind) → IsInteger k → Shown call (vec (scalar k) ∷ vec (scalar k) ∷ [])) → TwoVectors ts → Shown call ts
two_vectors call ts f r = subst (Shown call) (sym r.2) (f r.0 r.1)

vector_and_number : (call : Call) (ts : List TypeTree) → ((k : Kind) → IsInteger k → Shown call (vec (scalar k) ∷ scalar k ∷ [])) → VectorAndNumber ts → Shown call ts
vector_and_number call ts f r = subst (Shown call) (sym r.2) (f r.0 r.1)

pub sound_call : (call : Call) (ts : List TypeTree) → HasItsOperator call → IsRow call ts → Shown call ts
sound_call Add ts o r = two_vectors Add ts (λ k h v. sound _ _ _ 5 v (zipped_is ops.Add k h refl)) r
sound_call Sub ts o r = two_vectors Sub ts (λ k h v. sound _ _ _ 5 v (zipped_is ops.Sub k h refl)) r
sound_call Mul ts o r = two_vectors Mul ts (λ k h v. sound _ _ _ 5 v (zipped_is ops.Mul k h refl)) r
sound_call Scale ts o r = vector_and_number Scale ts (λ k h v. sound _ _ _ 5 v (against_is ops.Mul k k h refl)) r
sound_call Where ts o r = subst (Shown Where) (sym r.2) (λ v. sound _ _ _ 6 v (where_is r.0 r.1))
sound_call Dot ts o r = two_vectors Dot ts (λ k h v. sound _ _ _ 5 v (dot_is k h)) r
sound_call Sum ts o r = one_vector Sum ts (λ k h v. sound _ _ _ 4 v (reduced_is merges.Add k h)) r
sound_call Min ts o r = one_vector Min ts (λ k h v. sound _ _ _ 4 v (reduced_is merges.Min k h)) r
sound_call Max ts o r = one_vector Max ts (λ k h v. sound _ _ _ 4 v (reduced_is merges.Max k h)) r
sound_call Slice ts o r = subst (Shown Slice) (sym r.1) (λ v. sound _ _ _ 3 v (slice_is r.0 v))
sound_call Take ts o r = subst (Shown Take) (sym r.1) (λ v. sound _ _ _ 5 v (take_is r.0 v))
sound_call Histogram ts o r = subst (Shown Histogram) (sym r) (λ v. sound _ _ _ 5 v histogram_is)
sound_call RowsDot ts o r = subst (Shown RowsDot) (sym r.2) (λ v. sound _ _ _ 8 v (rows_dot_is r.0 r.1))
sound_call (Column n) ts o r = subst (Shown (Column n)) (sym r.4) (λ v. sound _ _ _ 1 v (column_is n r.0 r.1 r.3 v))
sound_call Filter ts o r = subst (Shown Filter) (sym r.1) (λ v. sound _ _ _ 5 v (filter_is r.0 v))
sound_call (Compare op) ts o r = vector_and_number (Compare op) ts (λ k h v. sound _ _ _ 5 v (against_is op k kinds.Bool (comparison_takes op k h) (comparison_answers op k o))) r
sound_call (Arith op) ts o r = two_vectors (Arith op) ts (λ k h v. sound _ _ _ 5 v (zipped_is op k (arithmetic_takes op k o h) (arithmetic_answers op k o))) r
sound_call Count ts o r = subst (Shown Count) (sym r) (λ v. sound _ _ _ 4 v count_is)
sound_call GroupSum ts o r = subst (Shown GroupSum) (sym r.4) (λ v. sound _ _ _ 5 v (group_sum_is r.0 r.1 r.2 r.3 v))
sound_call GroupList ts o r = subst (Shown GroupList) (sym r.3) (λ v. sound _ _ _ 5 v (group_list_is r.0 r.1 r.2 v))
sound_call GroupCount ts o r = subst (Shown GroupCount) (sym r.2) (λ v. sound _ _ _ 4 v (group_count_is r.0 r.1 v))

-- ---- loops

pub loops_are : (call : Call) (ts : List TypeTree) → loops (fragment call ts).body ≡ loops_of call
loops_are Add ts = refl
loops_are Sub ts = refl
loops_are Mul ts = refl
loops_are Scale ts = refl
loops_are Where ts = refl
loops_are Dot ts = refl
loops_are Sum ts = refl
loops_are Min ts = refl
loops_are Max ts = refl
loops_are Slice ts = refl
loops_are Take ts = refl
loops_are Histogram ts = refl
loops_are RowsDot ts = refl
loops_are (Column n) ts = refl
loops_are Filter ts = refl
loops_are (Compare op) ts = refl
loops_are (Arith op) ts = refl
loops_are Count ts = refl
loops_are GroupSum ts = refl
loops_are GroupList ts = refl
loops_are GroupCount ts = refl
