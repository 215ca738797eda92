-- The body of each call on parameters of its row's types.
use Rattle.std.proofs.Common.{◌≡◌, [], ◌∷◌, refl, ap, inl, inr, arith}
use Rattle.weld_data.specs.declared.kind.Kind.{Kind}
use Rattle.weld_data.specs.declared.op.BinOp.{BinOp}
use Rattle.weld_data.specs.declared.op.MergeOp.{MergeOp}
use Rattle.weld_data.specs.declared.op.MergeOp.TheVariants as merges
use Rattle.weld_data.specs.Kind.{IsInteger}
use Rattle.weld_data.specs.Operation.{TakesKind, answer_kind}
use Rattle.weld_tree.specs.TypeTree.{TypeTree, TypeTrees, BuildTree, scalar, vec, struct, dict, build, list, total, keyed, cells, groups, no_types, more_types}
use Rattle.weld_tree.specs.Types.{IsKey, pair_of}
use Rattle.weld_tree.specs.ExprTree.{ExprTree, one, two, three, started, look_up, if_else}
use Rattle.weld_tree.specs.Blank.{blank_at}
use Rattle.weld_meaning.specs.Typing.{Types}
use Rattle.weld_calls.specs.declared.call.Call.TheVariants.{Where, Slice, Take, Histogram, RowsDot, Filter, Count, GroupSum, GroupList, GroupCount}
use Rattle.weld_calls.specs.CallTypes.{place_type, truth_type, AreValueTypes}
use Rattle.weld_calls.specs.CallPrograms.{use_of, literal, field_of, between, pair, merged, selected, fresh_builder, across, zipped, against, reduced, dotted, legs_of, body_of}
use Rattle.weld_libraries.proofs.Parts.{IsBody}
use Rattle.weld_libraries.proofs.Has.{gathered_has, merged_has, fresh_has, across_has, one_in_range, none_in_range, counted_has, dotted_has}

-- ---- maps

pub zipped_is : (op : BinOp) (k : Kind) → TakesKind op k → answer_kind op k ≡ k → IsBody (vec (scalar k) ∷ vec (scalar k) ∷ []) (zipped op (scalar k)) (vec (scalar k)) 5
zipped_is op k h e =
    let bt : BuildTree = list (scalar k) in
    let us : TypeTrees = more_types (scalar k) (more_types (scalar k) no_types) in
    let g : Types = (0, vec (scalar k)) ∷ (1, vec (scalar k)) ∷ [] in
    let inside : Types = (4, struct us) ∷ (3, place_type) ∷ (2, build bt) ∷ g in
    record {
      names = refl;
      few = omega arith;
      scoped = ((inl refl, (inr (inl refl), tt)), tt, (inr (inr (inl refl)), (inl refl, inl refl)));
      made = (tt, (tt, (tt, (tt, tt)), tt, (tt, ((tt, tt), (tt, tt)))));
      typed =
          gathered_has (legs_of (0 ∷ 1 ∷ [])) (fresh_builder bt) (merged (use_of 2) (across op 4)) 2 3 4 g us (struct us) bt
          (refl, (refl, tt)) refl (fresh_has bt g tt (tt, tt)) (merged_has 2 (across op 4) inside bt (scalar (answer_kind op k)) refl (across_has op 4 k inside refl h) (ap scalar e));
      free = tt;
      linear = refl;
    }

pub against_is : (op : BinOp) (k m : Kind) → TakesKind op k → answer_kind op k ≡ m → IsBody (vec (scalar k) ∷ scalar k ∷ []) (against op (scalar m)) (vec (scalar m)) 5
against_is op k m h e =
    let bt : BuildTree = list (scalar m) in
    let g : Types = (0, vec (scalar k)) ∷ (1, scalar k) ∷ [] in
    let inside : Types = (4, scalar k) ∷ (3, place_type) ∷ (2, build bt) ∷ g in
    let item : ExprTree = between op (use_of 4) (use_of 1) in
    record {
      names = refl;
      few = omega arith;
      scoped = ((inl refl, tt), tt, (inr (inr (inl refl)), (inl refl, inr (inr (inr (inr (inl refl)))))));
      made = (tt, (tt, (tt, tt), tt, (tt, (tt, tt))));
      typed =
          gathered_has (legs_of (0 ∷ [])) (fresh_builder bt) (merged (use_of 2) item) 2 3 4 g (more_types (scalar k) no_types) (scalar k) bt
          (refl, tt) refl (fresh_has bt g tt (tt, tt))
          (merged_has 2 item inside bt (scalar (answer_kind op k)) refl (scalar k, scalar k, refl, refl, (k, h, refl, refl, refl)) (ap scalar e));
      free = tt;
      linear = refl;
    }

pub where_is : (k : Kind) → IsInteger k → IsBody (vec truth_type ∷ vec (scalar k) ∷ vec (scalar k) ∷ []) (body_of Where (vec truth_type ∷ vec (scalar k) ∷ vec (scalar k) ∷ [])) (vec (scalar k)) 6
where_is k h =
    let bt : BuildTree = list (scalar k) in
    let us : TypeTrees = more_types truth_type (more_types (scalar k) (more_types (scalar k) no_types)) in
    let g : Types = (0, vec truth_type) ∷ (1, vec (scalar k)) ∷ (2, vec (scalar k)) ∷ [] in
    let inside : Types = (5, struct us) ∷ (4, place_type) ∷ (3, build bt) ∷ g in
    let item : ExprTree = selected (field_of 0 (use_of 5)) (field_of 1 (use_of 5)) (field_of 2 (use_of 5)) in
    record {
      names = refl;
      few = omega arith;
      scoped = ((inl refl, (inr (inl refl), (inr (inr (inl refl)), tt))), tt, (inr (inr (inl refl)), (inl refl, inl refl, inl refl)));
      made = (tt, (tt, (tt, (tt, (tt, tt))), tt, (tt, ((tt, tt), (tt, tt), (tt, tt)))));
      typed =
          gathered_has (legs_of (0 ∷ 1 ∷ 2 ∷ [])) (fresh_builder bt) (merged (use_of 3) item) 3 4 5 g us (struct us) bt
          (refl, (refl, (refl, tt))) refl (fresh_has bt g tt (tt, tt))
          (merged_has 3 item inside bt (scalar k) refl
          (truth_type, scalar k, scalar k, (struct us, refl, (us, refl, refl)), (struct us, refl, (us, refl, refl)), (struct us, refl, (us, refl, refl)), (refl, refl, refl, tt)) refl);
      free = tt;
      linear = refl;
    }

pub take_is : (t : TypeTree) → AreValueTypes (vec t ∷ vec place_type ∷ []) → IsBody (vec t ∷ vec place_type ∷ []) (body_of Take (vec t ∷ vec place_type ∷ [])) (vec t) 5
take_is t v =
    let bt : BuildTree = list t in
    let g : Types = (0, vec t) ∷ (1, vec place_type) ∷ [] in
    let inside : Types = (4, place_type) ∷ (3, place_type) ∷ (2, build bt) ∷ g in
    let item : ExprTree = two blank_at look_up (use_of 0) (use_of 4) in
    record {
      names = refl;
      few = omega arith;
      scoped = ((inr (inl refl), tt), tt, (inr (inr (inl refl)), (inr (inr (inr (inl refl))), inl refl)));
      made = (tt, (tt, (tt, tt), tt, (tt, (tt, tt))));
      typed =
          gathered_has (legs_of (1 ∷ [])) (fresh_builder bt) (merged (use_of 2) item) 2 3 4 g (more_types place_type no_types) place_type bt
          (refl, tt) refl (fresh_has bt g tt v.0.formed)
          (merged_has 2 item inside bt t refl (vec t, place_type, refl, refl, inl (refl, refl)) refl);
      free = v.0.free;
      linear = refl;
    }

-- ---- numbers

pub reduced_is : (op : MergeOp) (k : Kind) → IsInteger k → IsBody (vec (scalar k) ∷ []) (reduced op (scalar k)) (scalar k) 4
reduced_is op k h =
    let bt : BuildTree = total (scalar k) op in
    let g : Types = (0, vec (scalar k)) ∷ [] in
    let inside : Types = (3, scalar k) ∷ (2, place_type) ∷ (1, build bt) ∷ g in
    record {
      names = refl;
      few = omega arith;
      scoped = ((inl refl, tt), tt, (inr (inr (inl refl)), inl refl));
      made = (tt, (tt, (tt, tt), tt, (tt, tt)));
      typed =
          gathered_has (legs_of (0 ∷ [])) (fresh_builder bt) (merged (use_of 1) (use_of 3)) 1 2 3 g (more_types (scalar k) no_types) (scalar k) bt
          (refl, tt) refl (fresh_has bt g tt h) (merged_has 1 (use_of 3) inside bt (scalar k) refl refl refl);
      free = tt;
      linear = refl;
    }

pub dot_is : (k : Kind) → IsInteger k → IsBody (vec (scalar k) ∷ vec (scalar k) ∷ []) (dotted 0 1 (scalar k) 2) (scalar k) 5
dot_is k h = record {
  names = refl;
  few = omega arith;
  scoped = ((inl refl, (inr (inl refl), tt)), tt, (inr (inr (inl refl)), (inl refl, inl refl)));
  made = (tt, (tt, (tt, (tt, tt)), tt, (tt, ((tt, tt), (tt, tt)))));
  typed = dotted_has 0 1 2 k ((0, vec (scalar k)) ∷ (1, vec (scalar k)) ∷ []) h refl refl refl refl;
  free = tt;
  linear = refl;
}

pub rows_dot_is : (k : Kind) → IsInteger k → IsBody (vec (vec (scalar k)) ∷ vec (scalar k) ∷ []) (body_of RowsDot (vec (vec (scalar k)) ∷ vec (scalar k) ∷ [])) (vec (scalar k)) 8
rows_dot_is k h =
    let bt : BuildTree = list (scalar k) in
    let g : Types = (0, vec (vec (scalar k))) ∷ (1, vec (scalar k)) ∷ [] in
    let inside : Types = (4, vec (scalar k)) ∷ (3, place_type) ∷ (2, build bt) ∷ g in
    let item : ExprTree = dotted 4 1 (scalar k) 5 in
    record {
      names = refl;
      few = omega arith;
      scoped = ((inl refl, tt), tt, (inr (inr (inl refl)), ((inl refl, (inr (inr (inr (inr (inl refl)))), tt)), tt, (inr (inr (inl refl)), (inl refl, inl refl)))));
      made = (tt, (tt, (tt, tt), tt, (tt, (tt, (tt, (tt, (tt, tt)), tt, (tt, ((tt, tt), (tt, tt))))))));
      typed =
          gathered_has (legs_of (0 ∷ [])) (fresh_builder bt) (merged (use_of 2) item) 2 3 4 g (more_types (vec (scalar k)) no_types) (vec (scalar k)) bt
          (refl, tt) refl (fresh_has bt g tt (tt, tt)) (merged_has 2 item inside bt (scalar k) refl (dotted_has 4 1 5 k inside h refl refl refl refl) refl);
      free = tt;
      linear = refl;
    }

pub count_is : IsBody (vec truth_type ∷ []) (body_of Count (vec truth_type ∷ [])) place_type 4
count_is =
    let bt : BuildTree = total place_type merges.Add in
    let g : Types = (0, vec truth_type) ∷ [] in
    let inside : Types = (3, truth_type) ∷ (2, place_type) ∷ (1, build bt) ∷ g in
    let item : ExprTree = selected (use_of 3) (literal 1) (literal 0) in
    record {
      names = refl;
      few = omega arith;
      scoped = ((inl refl, tt), tt, (inr (inr (inl refl)), (inl refl, tt, tt)));
      made = (tt, (tt, (tt, tt), tt, (tt, (tt, (tt, one_in_range), (tt, none_in_range)))));
      typed =
          gathered_has (legs_of (0 ∷ [])) (fresh_builder bt) (merged (use_of 1) item) 1 2 3 g (more_types truth_type no_types) truth_type bt
          (refl, tt) refl (fresh_has bt g tt tt)
          (merged_has 1 item inside bt place_type refl (truth_type, place_type, place_type, refl, (tt, one_in_range, refl), (tt, none_in_range, refl), (refl, refl, refl, tt)) refl);
      free = tt;
      linear = refl;
    }

pub histogram_is : IsBody (vec place_type ∷ vec place_type ∷ []) (body_of Histogram (vec place_type ∷ vec place_type ∷ [])) (vec place_type) 5
histogram_is =
    let bt : BuildTree = cells place_type merges.Add in
    let g : Types = (0, vec place_type) ∷ (1, vec place_type) ∷ [] in
    let inside : Types = (4, place_type) ∷ (3, place_type) ∷ (2, build bt) ∷ g in
    let item : ExprTree = pair (use_of 4) (literal 1) in
    record {
      names = refl;
      few = omega arith;
      scoped = ((inl refl, tt), inr (inl refl), (inr (inr (inl refl)), (inl refl, (tt, tt))));
      made = (tt, (tt, (tt, tt), (tt, tt), (tt, (tt, (tt, ((tt, one_in_range), tt))))));
      typed =
          gathered_has (legs_of (0 ∷ [])) (one blank_at (started bt) (use_of 1)) (merged (use_of 2) item) 2 3 4 g (more_types place_type no_types) place_type bt
          (refl, tt) refl (vec place_type, refl, (tt, refl, refl)) (merged_has 2 item inside bt (pair_of place_type place_type) refl (counted_has 4 place_type inside refl tt) refl);
      free = tt;
      linear = refl;
    }

-- ---- groups

pub group_sum_is : (q : TypeTree) (k : Kind) → IsKey q → IsInteger k → AreValueTypes (vec q ∷ vec (scalar k) ∷ [])
    → IsBody (vec q ∷ vec (scalar k) ∷ []) (body_of GroupSum (vec q ∷ vec (scalar k) ∷ [])) (dict q (scalar k)) 5
group_sum_is q k i h v =
    let bt : BuildTree = keyed q (scalar k) merges.Add in
    let us : TypeTrees = more_types q (more_types (scalar k) no_types) in
    let g : Types = (0, vec q) ∷ (1, vec (scalar k)) ∷ [] in
    let inside : Types = (4, struct us) ∷ (3, place_type) ∷ (2, build bt) ∷ g in
    record {
      names = refl;
      few = omega arith;
      scoped = ((inl refl, (inr (inl refl), tt)), tt, (inr (inr (inl refl)), inl refl));
      made = (tt, (tt, (tt, (tt, tt)), tt, (tt, tt)));
      typed =
          gathered_has (legs_of (0 ∷ 1 ∷ [])) (fresh_builder bt) (merged (use_of 2) (use_of 4)) 2 3 4 g us (struct us) bt
          (refl, (refl, tt)) refl (fresh_has bt g tt (i, h)) (merged_has 2 (use_of 4) inside bt (struct us) refl refl refl);
      free = (v.0.free, tt);
      linear = refl;
    }

pub group_list_is : (q t : TypeTree) → IsKey q → AreValueTypes (vec q ∷ vec t ∷ [])
    → IsBody (vec q ∷ vec t ∷ []) (body_of GroupList (vec q ∷ vec t ∷ [])) (dict q (vec t)) 5
group_list_is q t i v =
    let bt : BuildTree = groups q t in
    let us : TypeTrees = more_types q (more_types t no_types) in
    let g : Types = (0, vec q) ∷ (1, vec t) ∷ [] in
    let inside : Types = (4, struct us) ∷ (3, place_type) ∷ (2, build bt) ∷ g in
    record {
      names = refl;
      few = omega arith;
      scoped = ((inl refl, (inr (inl refl), tt)), tt, (inr (inr (inl refl)), inl refl));
      made = (tt, (tt, (tt, (tt, tt)), tt, (tt, tt)));
      typed =
          gathered_has (legs_of (0 ∷ 1 ∷ [])) (fresh_builder bt) (merged (use_of 2) (use_of 4)) 2 3 4 g us (struct us) bt
          (refl, (refl, tt)) refl (fresh_has bt g tt (i, v.1.0.formed.0, v.1.0.formed.1)) (merged_has 2 (use_of 4) inside bt (struct us) refl refl refl);
      free = (v.0.free, v.1.0.free);
      linear = refl;
    }

pub group_count_is : (q : TypeTree) → IsKey q → AreValueTypes (vec q ∷ []) → IsBody (vec q ∷ []) (body_of GroupCount (vec q ∷ [])) (dict q place_type) 4
group_count_is q i v =
    let bt : BuildTree = keyed q place_type merges.Add in
    let g : Types = (0, vec q) ∷ [] in
    let inside : Types = (3, q) ∷ (2, place_type) ∷ (1, build bt) ∷ g in
    let item : ExprTree = pair (use_of 3) (literal 1) in
    record {
      names = refl;
      few = omega arith;
      scoped = ((inl refl, tt), tt, (inr (inr (inl refl)), (inl refl, (tt, tt))));
      made = (tt, (tt, (tt, tt), tt, (tt, (tt, (tt, ((tt, one_in_range), tt))))));
      typed =
          gathered_has (legs_of (0 ∷ [])) (fresh_builder bt) (merged (use_of 1) item) 1 2 3 g (more_types q no_types) q bt
          (refl, tt) refl (fresh_has bt g tt (i, tt)) (merged_has 1 item inside bt (pair_of q place_type) refl (counted_has 3 q inside refl v.0.free) refl);
      free = (v.0.free, tt);
      linear = refl;
    }

-- ---- parts of vectors and of tables

pub filter_is : (t : TypeTree) → AreValueTypes (vec t ∷ vec truth_type ∷ []) → IsBody (vec t ∷ vec truth_type ∷ []) (body_of Filter (vec t ∷ vec truth_type ∷ [])) (vec t) 5
filter_is t v =
    let bt : BuildTree = list t in
    let us : TypeTrees = more_types t (more_types truth_type no_types) in
    let g : Types = (0, vec t) ∷ (1, vec truth_type) ∷ [] in
    let inside : Types = (4, struct us) ∷ (3, place_type) ∷ (2, build bt) ∷ g in
    let kept : ExprTree = merged (use_of 2) (field_of 0 (use_of 4)) in
    record {
      names = refl;
      few = omega arith;
      scoped = ((inl refl, (inr (inl refl), tt)), tt, (inl refl, (inr (inr (inl refl)), inl refl), inr (inr (inl refl))));
      made = (tt, (tt, (tt, (tt, tt)), tt, ((tt, tt), (tt, (tt, tt)), tt)));
      typed =
          gathered_has (legs_of (0 ∷ 1 ∷ [])) (fresh_builder bt) (three blank_at if_else (field_of 1 (use_of 4)) kept (use_of 2)) 2 3 4 g us (struct us) bt
          (refl, (refl, tt)) refl (fresh_has bt g tt v.0.formed)
          (truth_type, build bt, build bt, (struct us, refl, (us, refl, refl)), merged_has 2 (field_of 0 (use_of 4)) inside bt t refl (struct us, refl, (us, refl, refl)) refl, refl, (refl, refl, refl));
      free = v.0.free;
      linear = refl;
    }

pub slice_is : (t : TypeTree) → AreValueTypes (vec t ∷ place_type ∷ place_type ∷ []) → IsBody (vec t ∷ place_type ∷ place_type ∷ []) (body_of Slice (vec t ∷ place_type ∷ place_type ∷ [])) (vec t) 3
slice_is t v = record {
  names = refl;
  few = omega arith;
  scoped = (inl refl, inr (inl refl), inr (inr (inl refl)));
  made = (tt, tt, tt);
  typed = (vec t, place_type, place_type, refl, refl, refl, (t, refl, refl, refl, refl));
  free = v.0.free;
  linear = refl;
}
