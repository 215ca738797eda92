-- Two small loops over one name, by which the definitions are checked.
use Rattle.std.proofs.Common.{◌≡◌, ℕ, true, false, Some, None, refl}
use Rattle.weld_data.specs.declared.kind.Kind.TheVariants.{I64}
use Rattle.weld_data.specs.declared.op.MergeOp.TheVariants.{Add, Max}
use Rattle.weld_tree.specs.declared.binder.Binder.{Binder}
use Rattle.weld_tree.specs.declared.known.Known.TheVariants.{Blank}
use Rattle.weld_tree.specs.declared.place.Place.{Place}
use Rattle.weld_tree.specs.TypeTree.{TypeTree, scalar, struct, build, total, no_types, more_types}
use Rattle.weld_tree.specs.ExprTree.{At, ExprTree, leaf, one, two, many, let_in, loop, no_exprs, more_exprs, whole, no_legs, more_legs, name, fresh, field, finish, merge, make_struct}
use Rattle.weld_joining.specs.Beside.{Half, half_value, node_of, side_by_side}
use Rattle.weld_joining.specs.Between.{brought_up, may_come_up}

abbrev place : Place
place = record { line = 0; column = 0 }

abbrev node : At
node = record { place = place; ty = Blank }

abbrev binder : ℕ → Binder
binder s = record { sym = record { 0 = s }; place = place; note = None; note_place = place }

abbrev named : At → ℕ → ExprTree
named a s = leaf a (name s)

abbrev number : TypeTree
number = scalar I64

-- let a1 = result(for(v9, merger[i64,+], |b2,i3,x4| merge(b2, x4)))
abbrev first : Half
first = record {
  bound = binder 1;
  result_at = Some node;
  loop_at = node;
  leg_at = node;
  start = leaf node (fresh (total number Add));
  starts = build (total number Add);
  builder = binder 2;
  number = binder 3;
  row = binder 4;
  body = two node merge (named node 2) (named node 4);
}

-- let c5 = result(for(v9, merger[i64,max], |b6,i7,x8| merge(b6, x8)))
abbrev second : Half
second = record {
  bound = binder 5;
  result_at = Some node;
  loop_at = node;
  leg_at = node;
  start = leaf node (fresh (total number Max));
  starts = build (total number Max);
  builder = binder 6;
  number = binder 7;
  row = binder 8;
  body = two node merge (named node 6) (named node 8);
}

abbrev both : TypeTree
both = struct (more_types (build (total number Add)) (more_types (build (total number Max)) no_types))

abbrev part : ℕ → TypeTree → ℕ → ExprTree
part n t c = one (node_of place t) (field n) (named (node_of place both) c)

-- let b7 = for(v9, {merger[i64,+], merger[i64,max]}, |b8,i3,x4| {let b2 = b8.$0; merge(b2, x4), let b6 = b8.$1; merge(b6, x4)});
-- let a1 = result(b7.$0); let c5 = result(b7.$1); c5
one_loop : side_by_side node node 9 number first second (named node 5)
    ≡ let_in node (binder 7)
    (loop (node_of place both) (more_legs (whole (named node 9)) no_legs)
    (many (node_of place both) make_struct (more_exprs (leaf node (fresh (total number Add))) (more_exprs (leaf node (fresh (total number Max))) no_exprs))) (binder 8) (binder 3) (binder 4)
    (many (node_of place both) make_struct
    (more_exprs (let_in (node_of place (build (total number Add))) (binder 2) (part 0 (build (total number Add)) 8) (two node merge (named node 2) (named node 4)))
    (more_exprs (let_in (node_of place (build (total number Max))) (binder 6) (part 1 (build (total number Max)) 8) (two node merge (named node 6) (named (node_of place number) 4))) no_exprs))))
    (let_in node (binder 1) (one node finish (part 0 (build (total number Add)) 7)) (let_in node (binder 5) (one node finish (part 1 (build (total number Max)) 7)) (named node 5)))
one_loop = refl

-- ---- lets between

-- let q = result(r20.$n); rest
abbrev result_let : ℕ → ℕ → ExprTree → ExprTree
result_let q n rest = let_in node (binder q) (one node finish (one node (field n) (named node 20))) rest

abbrev second_let : ExprTree → ExprTree
second_let rest = let_in node (binder 5) (half_value 9 second) rest

it_comes_up : brought_up (result_let 11 0 (result_let 12 1 (second_let (named node 5)))) ≡ second_let (result_let 11 0 (result_let 12 1 (named node 5)))
it_comes_up = refl

may_pass_results : may_come_up (result_let 11 0 (result_let 12 1 (second_let (named node 5)))) ≡ true
may_pass_results = refl

-- let q11 = result(r20.$0); let c5 = q11; c5
stays_behind_its_names : may_come_up (result_let 11 0 (let_in node (binder 5) (named node 11) (named node 5))) ≡ false
stays_behind_its_names = refl

stays_behind_others : brought_up (let_in node (binder 11) (named node 20) (second_let (named node 5))) ≡ let_in node (binder 11) (named node 20) (second_let (named node 5))
stays_behind_others = refl

none_comes_up : may_come_up (result_let 11 0 (named node 11)) ≡ false
none_comes_up = refl
