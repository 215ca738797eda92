-- Neutral values: their types, what they come to, and what they hold.
use Rattle.std.proofs.Common.{◌≡◌, ℕ, ℤ, List, [], ◌∷◌, ◌++◌, ◌+◌, false, ◌||◌, refl, ap, ◌∙◌, arith, ◌⊎◌, inl, inr}
use Rattle.std.proofs.lemmas.Int.{ints}
use Rattle.weld_data.specs.declared.kind.Kind.{Kind}
use Rattle.weld_data.specs.declared.kind.Kind.TheVariants.{I8, I16, I32, I64, U8, U16, U32, U64}
use Rattle.weld_data.specs.declared.kind.Kind.TheVariants as kinds
use Rattle.weld_data.specs.declared.op.MergeOp.{MergeOp}
use Rattle.weld_data.specs.declared.op.MergeOp.TheVariants.{Add, Mul, Min, Max}
use Rattle.weld_data.specs.Kind.{IsInteger, InRange}
use Rattle.weld_data.specs.Operation.{start_of}
use Rattle.weld_data.specs.Wrapped.{wrapped}
use Rattle.weld_data.specs.Value.{Value, Values, number, struct as struct_value, no_values, and_value}
use Rattle.weld_data.proofs.Wrapping.{wrapped-in_range}
use Rattle.weld_data.proofs.Operations.{combination-start_right}
use Rattle.weld_tree.specs.declared.place.Place.{Place}
use Rattle.weld_tree.specs.TypeTree.{TypeTree, TypeTrees, scalar, vec, struct, dict, build, total, no_types, more_types}
use Rattle.weld_tree.specs.Types.{HasTypes, IsIntegerType, AreIntegerTypes, IsMergerType}
use Rattle.weld_tree.specs.ExprTree.{ExprTree, ExprTrees}
use Rattle.weld_tree.specs.Program.{loops, loops_in, bound, bound_in, IsWellMade, AreWellMade, HasExprs}
use Rattle.weld_builders.specs.Outcome.{done, and_then, map_out}
use Rattle.weld_builders.specs.Part.{Part, Totals, list_part, total_part, totals_part, cells_part, keyed_part, groups_part, as_number, as_numbers, merge_totals, merge_part}
use Rattle.weld_meaning.specs.Environment.{Named}
use Rattle.weld_meaning.specs.Thing.{plain, Things, no_things, more_things, as_values, struct_from, struct_of}
use Rattle.weld_meaning.specs.ThingType.{TotalsFit, AreTotals, HasPart}
use Rattle.weld_meaning.specs.Typing.{Types, HasType, HaveTypes}
use Rattle.weld_meaning.specs.Evaluation.{Env, truth_value, eval, eval_all}
use Rattle.weld_meaning.specs.Origin.{Path, Origin}
use Rattle.weld_meaning.specs.Linear.{Keeps, AllKeep}
use Rattle.weld_meaning.specs.Available.{Taken, Apart, takes, some_take, Splits, AllSplit}
use Rattle.weld_meaning.specs.Names.{IsFree, AreFree}
use Rattle.weld_meaning.proofs.WellFormed.{merger_free}
use Rattle.weld_check_types.specs.Notes.{AreNoted, AllAreNoted}
use Rattle.weld_print.specs.Spellable.{IsSpellable, AreSpellable}
use Rattle.weld_rewriting.specs.Within.{legs, legs_in}
use Rattle.weld_predicate.specs.Neutral.{neutral, neutrals, below}

-- ---- ranges

in_i8 : (op : MergeOp) → InRange I8 (start_of op I8)
in_i8 Add = record { low = omega (arith, ints); high = omega (arith, ints) }
in_i8 Mul = record { low = omega (arith, ints); high = omega (arith, ints) }
in_i8 Min = record { low = omega (arith, ints); high = omega (arith, ints) }
in_i8 Max = record { low = omega (arith, ints); high = omega (arith, ints) }

in_i16 : (op : MergeOp) → InRange I16 (start_of op I16)
in_i16 Add = record { low = omega (arith, ints); high = omega (arith, ints) }
in_i16 Mul = record { low = omega (arith, ints); high = omega (arith, ints) }
in_i16 Min = record { low = omega (arith, ints); high = omega (arith, ints) }
in_i16 Max = record { low = omega (arith, ints); high = omega (arith, ints) }

in_i32 : (op : MergeOp) → InRange I32 (start_of op I32)
in_i32 Add = record { low = omega (arith, ints); high = omega (arith, ints) }
in_i32 Mul = record { low = omega (arith, ints); high = omega (arith, ints) }
in_i32 Min = record { low = omega (arith, ints); high = omega (arith, ints) }
in_i32 Max = record { low = omega (arith, ints); high = omega (arith, ints) }

in_i64 : (op : MergeOp) → InRange I64 (start_of op I64)
in_i64 Add = record { low = omega (arith, ints); high = omega (arith, ints) }
in_i64 Mul = record { low = omega (arith, ints); high = omega (arith, ints) }
in_i64 Min = record { low = omega (arith, ints); high = omega (arith, ints) }
in_i64 Max = record { low = omega (arith, ints); high = omega (arith, ints) }

in_u8 : (op : MergeOp) → InRange U8 (start_of op U8)
in_u8 Add = record { low = omega (arith, ints); high = omega (arith, ints) }
in_u8 Mul = record { low = omega (arith, ints); high = omega (arith, ints) }
in_u8 Min = record { low = omega (arith, ints); high = omega (arith, ints) }
in_u8 Max = record { low = omega (arith, ints); high = omega (arith, ints) }

in_u16 : (op : MergeOp) → InRange U16 (start_of op U16)
in_u16 Add = record { low = omega (arith, ints); high = omega (arith, ints) }
in_u16 Mul = record { low = omega (arith, ints); high = omega (arith, ints) }
in_u16 Min = record { low = omega (arith, ints); high = omega (arith, ints) }
in_u16 Max = record { low = omega (arith, ints); high = omega (arith, ints) }

in_u32 : (op : MergeOp) → InRange U32 (start_of op U32)
in_u32 Add = record { low = omega (arith, ints); high = omega (arith, ints) }
in_u32 Mul = record { low = omega (arith, ints); high = omega (arith, ints) }
in_u32 Min = record { low = omega (arith, ints); high = omega (arith, ints) }
in_u32 Max = record { low = omega (arith, ints); high = omega (arith, ints) }

in_u64 : (op : MergeOp) → InRange U64 (start_of op U64)
in_u64 Add = record { low = omega (arith, ints); high = omega (arith, ints) }
in_u64 Mul = record { low = omega (arith, ints); high = omega (arith, ints) }
in_u64 Min = record { low = omega (arith, ints); high = omega (arith, ints) }
in_u64 Max = record { low = omega (arith, ints); high = omega (arith, ints) }

-- the literals of which casts are made are numbers of kind i32, and the casts come to the neutral numbers
i8_in_i32 : (op : MergeOp) → InRange I32 (start_of op I8)
i8_in_i32 Add = record { low = omega (arith, ints); high = omega (arith, ints) }
i8_in_i32 Mul = record { low = omega (arith, ints); high = omega (arith, ints) }
i8_in_i32 Min = record { low = omega (arith, ints); high = omega (arith, ints) }
i8_in_i32 Max = record { low = omega (arith, ints); high = omega (arith, ints) }

i16_in_i32 : (op : MergeOp) → InRange I32 (start_of op I16)
i16_in_i32 Add = record { low = omega (arith, ints); high = omega (arith, ints) }
i16_in_i32 Mul = record { low = omega (arith, ints); high = omega (arith, ints) }
i16_in_i32 Min = record { low = omega (arith, ints); high = omega (arith, ints) }
i16_in_i32 Max = record { low = omega (arith, ints); high = omega (arith, ints) }

u8_in_i32 : (op : MergeOp) → InRange I32 (start_of op U8)
u8_in_i32 Add = record { low = omega (arith, ints); high = omega (arith, ints) }
u8_in_i32 Mul = record { low = omega (arith, ints); high = omega (arith, ints) }
u8_in_i32 Min = record { low = omega (arith, ints); high = omega (arith, ints) }
u8_in_i32 Max = record { low = omega (arith, ints); high = omega (arith, ints) }

u16_in_i32 : (op : MergeOp) → InRange I32 (start_of op U16)
u16_in_i32 Add = record { low = omega (arith, ints); high = omega (arith, ints) }
u16_in_i32 Mul = record { low = omega (arith, ints); high = omega (arith, ints) }
u16_in_i32 Min = record { low = omega (arith, ints); high = omega (arith, ints) }
u16_in_i32 Max = record { low = omega (arith, ints); high = omega (arith, ints) }

below_in_i32 : (op : MergeOp) → InRange I32 (below op)
below_in_i32 Add = record { low = omega (arith, ints); high = omega (arith, ints) }
below_in_i32 Mul = record { low = omega (arith, ints); high = omega (arith, ints) }
below_in_i32 Min = record { low = omega (arith, ints); high = omega (arith, ints) }
below_in_i32 Max = record { low = omega (arith, ints); high = omega (arith, ints) }

below_is_u32 : (op : MergeOp) → wrapped U32 (below op) ≡ start_of op U32
below_is_u32 Add = refl
below_is_u32 Mul = refl
below_is_u32 Min = refl
below_is_u32 Max = refl

below_is_u64 : (op : MergeOp) → wrapped U64 (below op) ≡ start_of op U64
below_is_u64 Add = refl
below_is_u64 Mul = refl
below_is_u64 Min = refl
below_is_u64 Max = refl

-- ---- what they come to

abbrev mutual
  -- the value that changes nothing; a truth value where there is none
  pub neutral_value : MergeOp → TypeTree → Value
  neutral_value op (scalar k) = number k (start_of op k)
  neutral_value op (vec t) = truth_value false
  neutral_value op (struct ts) = struct_value (neutral_values op ts)
  neutral_value op (dict k v) = truth_value false
  neutral_value op (build b) = truth_value false

  pub neutral_values : MergeOp → TypeTrees → Values
  neutral_values op no_types = no_values
  neutral_values op (more_types t ts) = and_value (neutral_value op t) (neutral_values op ts)

-- values as things
abbrev plain_all : Values → Things
plain_all no_values = no_things
plain_all (and_value v vs) = more_things (plain v) (plain_all vs)

values_of_plain : (vs : Values) → as_values (plain_all vs) ≡ done vs
values_of_plain no_values = refl
values_of_plain (and_value v vs) = ap (map_out (and_value v)) (values_of_plain vs)

-- ---- all of them

pub record IsNeutral (op : MergeOp) (t : TypeTree) (n : ExprTree) : Type 0 where
  pub typed : (g : Types) → HasType n g t
  pub noted : (g : Types) → AreNoted n g
  pub gives : (env : Env) → eval n env ≡ done (plain (neutral_value op t))
  pub keeps : (g : Named Origin) → Keeps n g
  pub splits : (g : Named Origin) → Splits n g
  pub takes_none : (g : Named Origin) (s : ℕ) (q : Path) → takes n g s q ≡ false
  pub binds_none : bound n ≡ []
  pub no_loops : loops n ≡ 0
  pub no_legs : legs n ≡ 0
  pub names_none : (s : ℕ) → IsFree n s → ⊥
  pub made : IsWellMade n
  pub spellable : IsSpellable n

number_is : (place : Place) (op : MergeOp) (k : Kind) → IsInteger k → IsNeutral op (scalar k) (neutral place op (scalar k))
number_is place op kinds.Bool h = absurd h
number_is place op I32 h = record {
  typed = λ g. (tt, in_i32 op, refl);
  noted = λ g. (scalar I32, refl, (tt, in_i32 op, refl));
  gives = λ env. refl;
  keeps = λ g. tt;
  splits = λ g. tt;
  takes_none = λ g s q. refl;
  binds_none = refl;
  no_loops = refl;
  no_legs = refl;
  names_none = λ s f. f;
  made = (tt, in_i32 op);
  spellable = tt;
}
number_is place op I64 h = record {
  typed = λ g. (tt, in_i64 op, refl);
  noted = λ g. (scalar I64, refl, (tt, in_i64 op, refl));
  gives = λ env. refl;
  keeps = λ g. tt;
  splits = λ g. tt;
  takes_none = λ g s q. refl;
  binds_none = refl;
  no_loops = refl;
  no_legs = refl;
  names_none = λ s f. f;
  made = (tt, in_i64 op);
  spellable = tt;
}
number_is place op I8 h = record {
  typed = λ g. (scalar I32, (tt, i8_in_i32 op, refl), (I32, tt, refl, refl));
  noted = λ g. ((scalar I32, refl, (tt, i8_in_i32 op, refl)), (scalar I8, refl, (scalar I32, (tt, i8_in_i32 op, refl), (I32, tt, refl, refl))));
  gives = λ env. ap (λ x. done (plain (number I8 x))) (wrapped-in_range I8 (start_of op I8) (in_i8 op));
  keeps = λ g. (tt, tt);
  splits = λ g. (tt, tt);
  takes_none = λ g s q. refl;
  binds_none = refl;
  no_loops = refl;
  no_legs = refl;
  names_none = λ s f. f;
  made = (tt, (tt, i8_in_i32 op));
  spellable = (tt, tt);
}
number_is place op I16 h = record {
  typed = λ g. (scalar I32, (tt, i16_in_i32 op, refl), (I32, tt, refl, refl));
  noted = λ g. ((scalar I32, refl, (tt, i16_in_i32 op, refl)), (scalar I16, refl, (scalar I32, (tt, i16_in_i32 op, refl), (I32, tt, refl, refl))));
  gives = λ env. ap (λ x. done (plain (number I16 x))) (wrapped-in_range I16 (start_of op I16) (in_i16 op));
  keeps = λ g. (tt, tt);
  splits = λ g. (tt, tt);
  takes_none = λ g s q. refl;
  binds_none = refl;
  no_loops = refl;
  no_legs = refl;
  names_none = λ s f. f;
  made = (tt, (tt, i16_in_i32 op));
  spellable = (tt, tt);
}
number_is place op U8 h = record {
  typed = λ g. (scalar I32, (tt, u8_in_i32 op, refl), (I32, tt, refl, refl));
  noted = λ g. ((scalar I32, refl, (tt, u8_in_i32 op, refl)), (scalar U8, refl, (scalar I32, (tt, u8_in_i32 op, refl), (I32, tt, refl, refl))));
  gives = λ env. ap (λ x. done (plain (number U8 x))) (wrapped-in_range U8 (start_of op U8) (in_u8 op));
  keeps = λ g. (tt, tt);
  splits = λ g. (tt, tt);
  takes_none = λ g s q. refl;
  binds_none = refl;
  no_loops = refl;
  no_legs = refl;
  names_none = λ s f. f;
  made = (tt, (tt, u8_in_i32 op));
  spellable = (tt, tt);
}
number_is place op U16 h = record {
  typed = λ g. (scalar I32, (tt, u16_in_i32 op, refl), (I32, tt, refl, refl));
  noted = λ g. ((scalar I32, refl, (tt, u16_in_i32 op, refl)), (scalar U16, refl, (scalar I32, (tt, u16_in_i32 op, refl), (I32, tt, refl, refl))));
  gives = λ env. ap (λ x. done (plain (number U16 x))) (wrapped-in_range U16 (start_of op U16) (in_u16 op));
  keeps = λ g. (tt, tt);
  splits = λ g. (tt, tt);
  takes_none = λ g s q. refl;
  binds_none = refl;
  no_loops = refl;
  no_legs = refl;
  names_none = λ s f. f;
  made = (tt, (tt, u16_in_i32 op));
  spellable = (tt, tt);
}
number_is place op U32 h = record {
  typed = λ g. (scalar I32, (tt, below_in_i32 op, refl), (I32, tt, refl, refl));
  noted = λ g. ((scalar I32, refl, (tt, below_in_i32 op, refl)), (scalar U32, refl, (scalar I32, (tt, below_in_i32 op, refl), (I32, tt, refl, refl))));
  gives = λ env. ap (λ x. done (plain (number U32 x))) (below_is_u32 op);
  keeps = λ g. (tt, tt);
  splits = λ g. (tt, tt);
  takes_none = λ g s q. refl;
  binds_none = refl;
  no_loops = refl;
  no_legs = refl;
  names_none = λ s f. f;
  made = (tt, (tt, below_in_i32 op));
  spellable = (tt, tt);
}
number_is place op U64 h = record {
  typed = λ g. (scalar I32, (tt, below_in_i32 op, refl), (I32, tt, refl, refl));
  noted = λ g. ((scalar I32, refl, (tt, below_in_i32 op, refl)), (scalar U64, refl, (scalar I32, (tt, below_in_i32 op, refl), (I32, tt, refl, refl))));
  gives = λ env. ap (λ x. done (plain (number U64 x))) (below_is_u64 op);
  keeps = λ g. (tt, tt);
  splits = λ g. (tt, tt);
  takes_none = λ g s q. refl;
  binds_none = refl;
  no_loops = refl;
  no_legs = refl;
  names_none = λ s f. f;
  made = (tt, (tt, below_in_i32 op));
  spellable = (tt, tt);
}

-- ---- of the fields of a struct

record AreNeutral (op : MergeOp) (ts : TypeTrees) (ns : ExprTrees) : Type 0 where
  pub typed : (g : Types) → HaveTypes ns g ts
  pub noted : (g : Types) → AllAreNoted ns g
  pub gives : (env : Env) → eval_all ns env ≡ done (plain_all (neutral_values op ts))
  pub keeps : (g : Named Origin) → AllKeep ns g
  pub splits : (g : Named Origin) → AllSplit ns g
  pub takes_none : (g : Named Origin) (s : ℕ) (q : Path) → some_take ns g s q ≡ false
  pub binds_none : bound_in ns ≡ []
  pub no_loops : loops_in ns ≡ 0
  pub no_legs : legs_in ns ≡ 0
  pub names_none : (s : ℕ) → AreFree ns s → ⊥
  pub made : AreWellMade ns
  pub spellable : AreSpellable ns

field_is : (place : Place) (op : MergeOp) (t : TypeTree) → IsIntegerType t → IsNeutral op t (neutral place op t)
field_is place op (scalar k) h = number_is place op k h
field_is place op (vec t) h = absurd h
field_is place op (struct ts) h = absurd h
field_is place op (dict k v) h = absurd h
field_is place op (build b) h = absurd h

-- what takes nothing stands apart from all
none_apart : (A B : Taken) → ((s : ℕ) (q : Path) → A s q ≡ false) → Apart A B
none_apart A B f = record { apart = λ s q x y. let z = f s q in let nothing : ⊥ = cc in nothing }

neither : {A B : Type 0} → (A → ⊥) → (B → ⊥) → A ⊎ B → ⊥
neither f g (inl x) = f x
neither f g (inr y) = g y

fields_are : (place : Place) (op : MergeOp) (ts : TypeTrees) → AreIntegerTypes ts → AreNeutral op ts (neutrals place op ts)
fields_are place op no_types h = record {
  typed = λ g. tt;
  noted = λ g. tt;
  gives = λ env. refl;
  keeps = λ g. tt;
  splits = λ g. tt;
  takes_none = λ g s q. refl;
  binds_none = refl;
  no_loops = refl;
  no_legs = refl;
  names_none = λ s f. f;
  made = tt;
  spellable = tt;
}
fields_are place op (more_types t ts) h =
    let n = field_is place op t h.0 in
    let ns = fields_are place op ts h.1 in
    record {
      typed = λ g. (n.typed g, ns.typed g);
      noted = λ g. (n.noted g, ns.noted g);
      gives = λ env i. and_then (n.gives env i) (λ x. map_out (more_things x) (ns.gives env i));
      keeps = λ g. (n.keeps g, ns.keeps g);
      splits = λ g. (n.splits g, ns.splits g, none_apart (takes (neutral place op t) g) (some_take (neutrals place op ts) g) (n.takes_none g));
      takes_none = λ g s q i. n.takes_none g s q i || ns.takes_none g s q i;
      binds_none = λ i. n.binds_none i ++ ns.binds_none i;
      no_loops = λ i. n.no_loops i + ns.no_loops i;
      no_legs = λ i. n.no_legs i + ns.no_legs i;
      names_none = λ s. neither (n.names_none s) (ns.names_none s);
      made = (n.made, ns.made);
      spellable = (n.spellable, ns.spellable);
    }

has_exprs : (place : Place) (op : MergeOp) (ts : TypeTrees) → HasTypes ts → HasExprs (neutrals place op ts)
has_exprs place op no_types h = absurd h
has_exprs place op (more_types t ts) h = tt

struct_is : (place : Place) (op : MergeOp) (ts : TypeTrees) → IsMergerType (struct ts) → IsNeutral op (struct ts) (neutral place op (struct ts))
struct_is place op ts h =
    let ns = fields_are place op ts h.1 in
    let typed : (g : Types) → HasType (neutral place op (struct ts)) g (struct ts) = λ g. (ts, ns.typed g, (h.0, inl (merger_free (struct ts) h), refl)) in
    record {
      typed = typed;
      noted = λ g. (ns.noted g, (struct ts, refl, typed g));
      gives = λ env.
          (λ i. and_then (ns.gives env i) (λ xs. done (struct_of xs)))
          ∙ ap (λ o. done (struct_from (plain_all (neutral_values op ts)) o)) (values_of_plain (neutral_values op ts));
      keeps = ns.keeps;
      splits = ns.splits;
      takes_none = ns.takes_none;
      binds_none = ns.binds_none;
      no_loops = ns.no_loops;
      no_legs = ns.no_legs;
      names_none = ns.names_none;
      made = (has_exprs place op ts h.0, ns.made);
      spellable = ns.spellable;
    }

pub neutral_is : (place : Place) (op : MergeOp) (t : TypeTree) → IsMergerType t → IsNeutral op t (neutral place op t)
neutral_is place op (scalar k) h = number_is place op k h
neutral_is place op (vec t) h = absurd h
neutral_is place op (struct ts) h = struct_is place op ts h
neutral_is place op (dict k v) h = absurd h
neutral_is place op (build b) h = absurd h

-- ---- merged into a total, they change nothing

-- a neutral number for each
abbrev starts : MergeOp → Totals → List ℤ
starts op [] = []
starts op (x ∷ xs) = start_of op x.0 ∷ starts op xs

numbers_start : (op : MergeOp) (xs : Totals) (ts : TypeTrees) → TotalsFit xs ts → as_numbers (neutral_values op ts) ≡ done (starts op xs)
numbers_start op [] no_types h = refl
numbers_start op [] (more_types t ts) h = absurd h
numbers_start op (x ∷ xs) no_types h = absurd h
numbers_start op (x ∷ xs) (more_types t ts) h = λ i. and_then (as_number (neutral_value op (h.0 i))) (λ y. map_out (λ ys. y ∷ ys) (numbers_start op xs ts h.2 i))

starts_change_nothing : (op : MergeOp) (xs : Totals) (ts : TypeTrees) → TotalsFit xs ts → merge_totals op xs (starts op xs) ≡ done xs
starts_change_nothing op [] ts h = refl
starts_change_nothing op (x ∷ xs) no_types h = absurd h
starts_change_nothing op (x ∷ xs) (more_types t ts) h =
    λ i. map_out (λ rest. (x.0, combination-start_right op x.0 x.1 h.1 i) ∷ rest) (starts_change_nothing op xs ts h.2 i)

totals_stay : (o op : MergeOp) (xs : Totals) (t : TypeTree) → op ≡ o → AreTotals xs t → merge_part (totals_part o xs) (neutral_value op t) ≡ done (totals_part o xs)
totals_stay o op xs (struct ts) same h =
    ap (λ p. merge_part (totals_part o xs) (neutral_value p (struct ts))) same
    ∙ ap (λ e. and_then e (λ ys. map_out (totals_part o) (merge_totals o xs ys))) (numbers_start o xs ts h)
    ∙ ap (map_out (totals_part o)) (starts_change_nothing o xs ts h)
totals_stay o op xs (scalar k) same h = absurd h
totals_stay o op xs (vec t) same h = absurd h
totals_stay o op xs (dict k v) same h = absurd h
totals_stay o op xs (build b) same h = absurd h

pub merge_neutral : (p : Part) (t : TypeTree) (op : MergeOp) → HasPart p (total t op) → merge_part p (neutral_value op t) ≡ done p
merge_neutral (list_part vs) t op h = absurd h
merge_neutral (total_part o k x) t op h =
    (λ i. merge_part (total_part o k x) (neutral_value (h.0 i) (h.1 i))) ∙ ap (λ z. done (total_part o k z)) (combination-start_right o k x h.2)
merge_neutral (totals_part o xs) t op h = totals_stay o op xs t h.0 h.1
merge_neutral (cells_part o k xs) t op h = absurd h
merge_neutral (keyed_part o k m) t op h = absurd h
merge_neutral (groups_part m) t op h = absurd h
