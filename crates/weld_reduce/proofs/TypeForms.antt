-- The machine spells the types that stand in a tree.
use Rattle.std.proofs.Common.{◌≡◌, refl, false, Some, option_and_then, List, [], ◌∷◌, ◌++◌, ap, sym, ◌∙◌, append_assoc}
use Rattle.std.proofs.lemmas.List.{append-nil}
use Rattle.weld_grammar.specs.declared.terminals.class.Class.{Class}
use Rattle.weld_grammar.specs.declared.terminals.symbol.Symbol.TheVariants as s
use Rattle.weld_grammar.specs.declared.terminals.reserved.Reserved.TheVariants as w
use Rattle.weld_grammar.specs.declared.terminals.token.Token.{Token}
use Rattle.weld_tree.specs.TypeTree.{TypeTree, scalar, vec, struct, dict, build, list, total, keyed, cells, groups, more_types, pack, unpack, pack-unpack}
use Rattle.weld_grammar.specs.declared.rule.Rule.TheVariants as r
use Rattle.weld_grammar.specs.declared.item.Item.TheVariants.{Part as OfRule, Repeated}
use Rattle.weld_grammar.specs.Grammar.{item}
use Rattle.weld_grammar.specs.Derivation.{Tree, node, empty, pair, here, there, yield}
use Rattle.weld_spell.specs.ProgramOf.{first_of}
use Rattle.weld_spell.specs.TypeOf.{type_of, next_types_of, kind_of, int_kind_of, merge_op_of}
use Rattle.weld_spell.specs.Names.{misnamed, none}
use Rattle.weld_reduce.specs.Values.{Value, token, ty, types, op, top_token, top_types}
use Rattle.weld_reduce.specs.Forms.{kind_of_word, merge_op}
use Rattle.weld_reduce.specs.States.{State, push, with_values, names_of}
use Rattle.weld_reduce.proofs.Does.{Does, since, opened, first, later, kept, row, no_more, one_more}
use Rattle.weld_reduce.proofs.Good.{Good}
use Rattle.weld_reduce.proofs.Tokens.{Told, sign_told, fixed_told, front, itself, quiet, ended}

-- ---- kinds and operators

pub told_int_kind : (t : Tree Token) → Good false (item (OfRule r.IntKind)) t → Told (item (OfRule r.IntKind)) t kind_of_word (int_kind_of t)
told_int_kind (node (here t)) g = let d = fixed_told w.I8 t kind_of_word (λ x st. refl) g in record { is = d.is; only = d.only; says = d.says; does = λ st. opened (first (d.does st)) (λ z. refl) }
told_int_kind (node (there (here t))) g = let d = fixed_told w.I16 t kind_of_word (λ x st. refl) g in record { is = d.is; only = d.only; says = d.says; does = λ st. opened (later (first (d.does st))) (λ z. refl) }
told_int_kind (node (there (there (here t)))) g = let d = fixed_told w.I32 t kind_of_word (λ x st. refl) g in record { is = d.is; only = d.only; says = d.says; does = λ st. opened (later (later (first (d.does st)))) (λ z. refl) }
told_int_kind (node (there (there (there (here t))))) g = let d = fixed_told w.I64 t kind_of_word (λ x st. refl) g in record { is = d.is; only = d.only; says = d.says; does = λ st. opened (later (later (later (first (d.does st))))) (λ z. refl) }
told_int_kind (node (there (there (there (there (here t)))))) g = let d = fixed_told w.U8 t kind_of_word (λ x st. refl) g in record { is = d.is; only = d.only; says = d.says; does = λ st. opened (later (later (later (later (first (d.does st)))))) (λ z. refl) }
told_int_kind (node (there (there (there (there (there (here t))))))) g = let d = fixed_told w.U16 t kind_of_word (λ x st. refl) g in record { is = d.is; only = d.only; says = d.says; does = λ st. opened (later (later (later (later (later (first (d.does st))))))) (λ z. refl) }
told_int_kind (node (there (there (there (there (there (there (here t)))))))) g = let d = fixed_told w.U32 t kind_of_word (λ x st. refl) g in record { is = d.is; only = d.only; says = d.says; does = λ st. opened (later (later (later (later (later (later (first (d.does st)))))))) (λ z. refl) }
told_int_kind (node (there (there (there (there (there (there (there (here t))))))))) g = let d = fixed_told w.U64 t kind_of_word (λ x st. refl) g in record { is = d.is; only = d.only; says = d.says; does = λ st. opened (later (later (later (later (later (later (later (first (d.does st))))))))) (λ z. refl) }
told_int_kind _ g = absurd g

told_kind : (t : Tree Token) → Good false (item (OfRule r.Kind)) t → Told (item (OfRule r.Kind)) t kind_of_word (kind_of t)
told_kind (node (here t)) g = let d = fixed_told w.Bool t kind_of_word (λ x st. refl) g in record { is = d.is; only = d.only; says = d.says; does = λ st. opened (first (d.does st)) (λ z. refl) }
told_kind (node (there (here t))) g = let d = told_int_kind t g in record { is = d.is; only = d.only; says = d.says; does = λ st. opened (later (first (d.does st))) (λ z. refl) }
told_kind _ g = absurd g

abbrev pub nothing_read : Class → Unit {0}
nothing_read c = tt

-- which of the words it is says nothing
pub told_list : (t : Tree Token) → Good false (item (OfRule r.ListWord)) t → Told (item (OfRule r.ListWord)) t nothing_read tt
told_list (node (here t)) g = let d = fixed_told w.Vecbuilder t nothing_read (λ x st. refl) g in record { is = d.is; only = d.only; says = refl; does = λ st. opened (first (d.does st)) (λ z. refl) }
told_list (node (there (here t))) g = let d = fixed_told w.Appender t nothing_read (λ x st. refl) g in record { is = d.is; only = d.only; says = refl; does = λ st. opened (later (first (d.does st))) (λ z. refl) }
told_list _ g = absurd g

-- which of the words it is says nothing
pub told_groups : (t : Tree Token) → Good false (item (OfRule r.GroupsWord)) t → Told (item (OfRule r.GroupsWord)) t nothing_read tt
told_groups (node (here t)) g = let d = fixed_told w.Groupbuilder t nothing_read (λ x st. refl) g in record { is = d.is; only = d.only; says = refl; does = λ st. opened (first (d.does st)) (λ z. refl) }
told_groups (node (there (here t))) g = let d = fixed_told w.Groupmerger t nothing_read (λ x st. refl) g in record { is = d.is; only = d.only; says = refl; does = λ st. opened (later (first (d.does st))) (λ z. refl) }
told_groups _ g = absurd g

-- the operator of a builder
pub merge_ops : (t : Tree Token) → Good false (item (OfRule r.MergeOp)) t → (st : State) → Does (item (OfRule r.MergeOp)) t st (misnamed none (item (OfRule r.MergeOp)) t (names_of st.scope)) (push (op (merge_op_of t)) st)
merge_ops (node (here t)) g st = let d = sign_told s.Plus t merge_op (λ x st. refl) g in opened (first (d.does st)) (λ z. ap (λ k. Some (since z (push (op k) st))) d.says)
merge_ops (node (there (here t))) g st = let d = sign_told s.Star t merge_op (λ x st. refl) g in opened (later (first (d.does st))) (λ z. ap (λ k. Some (since z (push (op k) st))) d.says)
merge_ops (node (there (there (here t)))) g st = let d = fixed_told w.Min t merge_op (λ x st. refl) g in opened (later (later (first (d.does st)))) (λ z. ap (λ k. Some (since z (push (op k) st))) d.says)
merge_ops (node (there (there (there (here t))))) g st = let d = fixed_told w.Max t merge_op (λ x st. refl) g in opened (later (later (later (first (d.does st))))) (λ z. ap (λ k. Some (since z (push (op k) st))) d.says)
merge_ops _ g st = absurd g

-- ---- types

-- the type of a tree, at its place
abbrev pub type_at : Tree Token → Value
type_at t = ty (first_of (yield t)) (type_of t)

-- the value stands for these types
pub record HoldsTypes (v : Value) (ts : List TypeTree) : Type 0 where
  pub top : (vs : List Value) → top_types (v ∷ vs) ≡ Some (ts, vs)

-- behind some types of a struct come more
pub record MoreTypes (t : Tree Token) (ts : List TypeTree) (v : Value) (st : State) : Type 0 where
  pub value : Value
  pub holds : HoldsTypes value (ts ++ unpack (next_types_of t))
  pub does : Does (item (Repeated r.NextType)) t (push v st) (misnamed none (item (Repeated r.NextType)) t (names_of st.scope)) (push value st)

abbrev pub SpellsAt : Tree Token → Type 0
SpellsAt t = (st : State) → Does (item (OfRule r.AnyType)) t st (misnamed none (item (OfRule r.AnyType)) t (names_of st.scope)) (push (type_at t) st)

-- each alternative

kind_type : (t : Tree Token) → Good false (item (OfRule r.Kind)) t → SpellsAt (node (here t))
kind_type t g st = let d = told_kind t g in opened (first (d.does st)) (λ z. λ i. Some (since z (push (ty (first_of (d.only i)) (scalar (d.says i))) st)))

vec_type : (a0 a1 t2 q3 end : Tree Token) → Good false (item (OfRule r.VecType)) (node (pair a0 (pair a1 (pair t2 (pair q3 end))))) → SpellsAt t2 → SpellsAt (node (there (here (node (pair a0 (pair a1 (pair t2 (pair q3 end))))))))
vec_type a0 a1 t2 q3 end g k2 st =
    let x0 = fixed_told w.Vec a0 itself (λ x st. refl) g.0 in
    let x1 = sign_told s.LeftBracket a1 itself (λ x st. refl) g.1.0 in
    kept (later (first (opened (row (x0.does st) (row (x1.does (push (token x0.is) st)) (row (k2 (push (token x1.is) (push (token x0.is) st))) (row (quiet s.RightBracket q3 (push (type_at t2) (push (token x1.is) (push (token x0.is) st))) (λ x st. refl) g.1.1.1.0) (ended end (push (type_at t2) (push (token x1.is) (push (token x0.is) st))) g.1.1.1.1))))) (λ z. ap (λ p. Some (since z (push (ty p (vec (type_of t2))) st))) (front x0 (pair a1 (pair t2 (pair q3 end)))))))) (λ z. refl)

dict_type : (a0 a1 t2 q3 t4 q5 end : Tree Token) → Good false (item (OfRule r.DictType)) (node (pair a0 (pair a1 (pair t2 (pair q3 (pair t4 (pair q5 end))))))) → SpellsAt t2 → SpellsAt t4 → SpellsAt (node (there (there (there (here (node (pair a0 (pair a1 (pair t2 (pair q3 (pair t4 (pair q5 end))))))))))))
dict_type a0 a1 t2 q3 t4 q5 end g k2 k4 st =
    let x0 = fixed_told w.Dict a0 itself (λ x st. refl) g.0 in
    let x1 = sign_told s.LeftBracket a1 itself (λ x st. refl) g.1.0 in
    kept (later (later (later (first (opened (row (x0.does st) (row (x1.does (push (token x0.is) st)) (row (k2 (push (token x1.is) (push (token x0.is) st))) (row (quiet s.Comma q3 (push (type_at t2) (push (token x1.is) (push (token x0.is) st))) (λ x st. refl) g.1.1.1.0) (row (k4 (push (type_at t2) (push (token x1.is) (push (token x0.is) st)))) (row (quiet s.RightBracket q5 (push (type_at t4) (push (type_at t2) (push (token x1.is) (push (token x0.is) st)))) (λ x st. refl) g.1.1.1.1.1.0) (ended end (push (type_at t4) (push (type_at t2) (push (token x1.is) (push (token x0.is) st)))) g.1.1.1.1.1.1))))))) (λ z. ap (λ p. Some (since z (push (ty p (dict (type_of t2) (type_of t4))) st))) (front x0 (pair a1 (pair t2 (pair q3 (pair t4 (pair q5 end)))))))))))) (λ z. refl)

list_type : (a0 a1 t2 q3 end : Tree Token) → Good false (item (OfRule r.ListType)) (node (pair a0 (pair a1 (pair t2 (pair q3 end))))) → SpellsAt t2 → SpellsAt (node (there (there (there (there (here (node (pair a0 (pair a1 (pair t2 (pair q3 end)))))))))))
list_type a0 a1 t2 q3 end g k2 st =
    let x0 = told_list a0 g.0 in
    let x1 = sign_told s.LeftBracket a1 itself (λ x st. refl) g.1.0 in
    kept (later (later (later (later (first (opened (row (x0.does st) (row (x1.does (push (token x0.is) st)) (row (k2 (push (token x1.is) (push (token x0.is) st))) (row (quiet s.RightBracket q3 (push (type_at t2) (push (token x1.is) (push (token x0.is) st))) (λ x st. refl) g.1.1.1.0) (ended end (push (type_at t2) (push (token x1.is) (push (token x0.is) st))) g.1.1.1.1))))) (λ z. ap (λ p. Some (since z (push (ty p (build (list (type_of t2)))) st))) (front x0 (pair a1 (pair t2 (pair q3 end))))))))))) (λ z. refl)

total_type : (a0 a1 t2 q3 o4 q5 end : Tree Token) → Good false (item (OfRule r.TotalType)) (node (pair a0 (pair a1 (pair t2 (pair q3 (pair o4 (pair q5 end))))))) → SpellsAt t2 → SpellsAt (node (there (there (there (there (there (here (node (pair a0 (pair a1 (pair t2 (pair q3 (pair o4 (pair q5 end))))))))))))))
total_type a0 a1 t2 q3 o4 q5 end g k2 st =
    let x0 = fixed_told w.Merger a0 itself (λ x st. refl) g.0 in
    let x1 = sign_told s.LeftBracket a1 itself (λ x st. refl) g.1.0 in
    kept (later (later (later (later (later (first (opened (row (x0.does st) (row (x1.does (push (token x0.is) st)) (row (k2 (push (token x1.is) (push (token x0.is) st))) (row (quiet s.Comma q3 (push (type_at t2) (push (token x1.is) (push (token x0.is) st))) (λ x st. refl) g.1.1.1.0) (row (merge_ops o4 g.1.1.1.1.0 (push (type_at t2) (push (token x1.is) (push (token x0.is) st)))) (row (quiet s.RightBracket q5 (push (op (merge_op_of o4)) (push (type_at t2) (push (token x1.is) (push (token x0.is) st)))) (λ x st. refl) g.1.1.1.1.1.0) (ended end (push (op (merge_op_of o4)) (push (type_at t2) (push (token x1.is) (push (token x0.is) st)))) g.1.1.1.1.1.1))))))) (λ z. ap (λ p. Some (since z (push (ty p (build (total (type_of t2) (merge_op_of o4)))) st))) (front x0 (pair a1 (pair t2 (pair q3 (pair o4 (pair q5 end)))))))))))))) (λ z. refl)

keyed_type : (a0 a1 t2 q3 t4 q5 o6 q7 end : Tree Token) → Good false (item (OfRule r.KeyedType)) (node (pair a0 (pair a1 (pair t2 (pair q3 (pair t4 (pair q5 (pair o6 (pair q7 end))))))))) → SpellsAt t2 → SpellsAt t4 → SpellsAt (node (there (there (there (there (there (there (here (node (pair a0 (pair a1 (pair t2 (pair q3 (pair t4 (pair q5 (pair o6 (pair q7 end)))))))))))))))))
keyed_type a0 a1 t2 q3 t4 q5 o6 q7 end g k2 k4 st =
    let x0 = fixed_told w.Dictmerger a0 itself (λ x st. refl) g.0 in
    let x1 = sign_told s.LeftBracket a1 itself (λ x st. refl) g.1.0 in
    kept (later (later (later (later (later (later (first (opened (row (x0.does st) (row (x1.does (push (token x0.is) st)) (row (k2 (push (token x1.is) (push (token x0.is) st))) (row (quiet s.Comma q3 (push (type_at t2) (push (token x1.is) (push (token x0.is) st))) (λ x st. refl) g.1.1.1.0) (row (k4 (push (type_at t2) (push (token x1.is) (push (token x0.is) st)))) (row (quiet s.Comma q5 (push (type_at t4) (push (type_at t2) (push (token x1.is) (push (token x0.is) st)))) (λ x st. refl) g.1.1.1.1.1.0) (row (merge_ops o6 g.1.1.1.1.1.1.0 (push (type_at t4) (push (type_at t2) (push (token x1.is) (push (token x0.is) st))))) (row (quiet s.RightBracket q7 (push (op (merge_op_of o6)) (push (type_at t4) (push (type_at t2) (push (token x1.is) (push (token x0.is) st))))) (λ x st. refl) g.1.1.1.1.1.1.1.0) (ended end (push (op (merge_op_of o6)) (push (type_at t4) (push (type_at t2) (push (token x1.is) (push (token x0.is) st))))) g.1.1.1.1.1.1.1.1))))))))) (λ z. ap (λ p. Some (since z (push (ty p (build (keyed (type_of t2) (type_of t4) (merge_op_of o6)))) st))) (front x0 (pair a1 (pair t2 (pair q3 (pair t4 (pair q5 (pair o6 (pair q7 end))))))))))))))))) (λ z. refl)

cells_type : (a0 a1 t2 q3 o4 q5 end : Tree Token) → Good false (item (OfRule r.CellsType)) (node (pair a0 (pair a1 (pair t2 (pair q3 (pair o4 (pair q5 end))))))) → SpellsAt t2 → SpellsAt (node (there (there (there (there (there (there (there (here (node (pair a0 (pair a1 (pair t2 (pair q3 (pair o4 (pair q5 end))))))))))))))))
cells_type a0 a1 t2 q3 o4 q5 end g k2 st =
    let x0 = fixed_told w.Vecmerger a0 itself (λ x st. refl) g.0 in
    let x1 = sign_told s.LeftBracket a1 itself (λ x st. refl) g.1.0 in
    kept (later (later (later (later (later (later (later (first (opened (row (x0.does st) (row (x1.does (push (token x0.is) st)) (row (k2 (push (token x1.is) (push (token x0.is) st))) (row (quiet s.Comma q3 (push (type_at t2) (push (token x1.is) (push (token x0.is) st))) (λ x st. refl) g.1.1.1.0) (row (merge_ops o4 g.1.1.1.1.0 (push (type_at t2) (push (token x1.is) (push (token x0.is) st)))) (row (quiet s.RightBracket q5 (push (op (merge_op_of o4)) (push (type_at t2) (push (token x1.is) (push (token x0.is) st)))) (λ x st. refl) g.1.1.1.1.1.0) (ended end (push (op (merge_op_of o4)) (push (type_at t2) (push (token x1.is) (push (token x0.is) st)))) g.1.1.1.1.1.1))))))) (λ z. ap (λ p. Some (since z (push (ty p (build (cells (type_of t2) (merge_op_of o4)))) st))) (front x0 (pair a1 (pair t2 (pair q3 (pair o4 (pair q5 end)))))))))))))))) (λ z. refl)

groups_type : (a0 a1 t2 q3 t4 q5 end : Tree Token) → Good false (item (OfRule r.GroupsType)) (node (pair a0 (pair a1 (pair t2 (pair q3 (pair t4 (pair q5 end))))))) → SpellsAt t2 → SpellsAt t4 → SpellsAt (node (there (there (there (there (there (there (there (there (here (node (pair a0 (pair a1 (pair t2 (pair q3 (pair t4 (pair q5 end)))))))))))))))))
groups_type a0 a1 t2 q3 t4 q5 end g k2 k4 st =
    let x0 = told_groups a0 g.0 in
    let x1 = sign_told s.LeftBracket a1 itself (λ x st. refl) g.1.0 in
    kept (later (later (later (later (later (later (later (later (first (opened (row (x0.does st) (row (x1.does (push (token x0.is) st)) (row (k2 (push (token x1.is) (push (token x0.is) st))) (row (quiet s.Comma q3 (push (type_at t2) (push (token x1.is) (push (token x0.is) st))) (λ x st. refl) g.1.1.1.0) (row (k4 (push (type_at t2) (push (token x1.is) (push (token x0.is) st)))) (row (quiet s.RightBracket q5 (push (type_at t4) (push (type_at t2) (push (token x1.is) (push (token x0.is) st)))) (λ x st. refl) g.1.1.1.1.1.0) (ended end (push (type_at t4) (push (type_at t2) (push (token x1.is) (push (token x0.is) st)))) g.1.1.1.1.1.1))))))) (λ z. ap (λ p. Some (since z (push (ty p (build (groups (type_of t2) (type_of t4)))) st))) (front x0 (pair a1 (pair t2 (pair q3 (pair t4 (pair q5 end))))))))))))))))) (λ z. refl)

next_none : (v : Value) (ts : List TypeTree) (st : State) → HoldsTypes v ts → MoreTypes empty ts v st
next_none v ts st h = record { value = v; holds = record { top = λ vs. h.top vs ∙ ap (λ k. Some (k, vs)) (sym (append-nil ts)) }; does = no_more r.NextType (push v st) }

next_more : (c t end u : Tree Token) (v : Value) (ts : List TypeTree) (st : State) → Good false (item (OfRule r.NextType)) (node (pair c (pair t end))) → HoldsTypes v ts → SpellsAt t → MoreTypes u (ts ++ type_of t ∷ []) (types (ts ++ type_of t ∷ [])) st → MoreTypes (pair (node (pair c (pair t end))) u) ts v st
next_more c t end u v ts st g h k m = record {
  value = m.value;
  holds = record { top = λ vs. m.holds.top vs ∙ ap (λ k. Some (k, vs)) (append_assoc ts (type_of t ∷ []) (unpack (next_types_of u))) };
  does = one_more
      (opened (row (quiet s.Comma c (push v st) (λ x st. refl) g.0) (row (k (push v st)) (ended end (push (type_at t) (push v st)) g.1.1)))
      (λ z. ap (λ o. option_and_then (λ vs. Some (with_values (since z st) vs)) (option_and_then (λ k. Some (types (k.0 ++ type_of t ∷ []) ∷ k.1)) o)) (h.top st.values)))
      m.does;
}

struct_type : (a t u q end : Tree Token) → Good false (item (OfRule r.StructType)) (node (pair a (pair t (pair u (pair q end))))) → SpellsAt t → ((v : Value) (ts : List TypeTree) (st : State) → HoldsTypes v ts → MoreTypes u ts v st) → SpellsAt (node (there (there (here (node (pair a (pair t (pair u (pair q end)))))))))
struct_type a t u q end g k n st =
    let x = sign_told s.LeftBrace a itself (λ x st. refl) g.0 in
    let before = push (token x.is) st in
    let m = n (type_at t) (type_of t ∷ []) before (record { top = λ vs. refl }) in
    kept (later (later (first (opened (row (x.does st) (row (k before) (row m.does (row (quiet s.RightBrace q (push m.value before) (λ x st. refl) g.1.1.1.0) (ended end (push m.value before) g.1.1.1.1)))))
    (λ z. ap (λ o. option_and_then (λ vs. Some (with_values (since z st) vs)) (option_and_then (λ ts. option_and_then (λ b. Some (ty b.0.place (struct (pack ts.0)) ∷ b.1)) (top_token ts.1)) o)) (m.holds.top (token x.is ∷ st.values))
    ∙ ap (λ p. Some (since z (push (ty p (struct (more_types (type_of t) (pack (unpack (next_types_of u)))))) st))) (front x (pair t (pair u (pair q end))))
    ∙ ap (λ ts. Some (since z (push (ty (first_of (yield (pair a (pair t (pair u (pair q end)))))) (struct (more_types (type_of t) ts))) st))) (pack-unpack (next_types_of u))))))) (λ z. refl)

mutual
  pub spells_type : (t : Tree Token) → Good false (item (OfRule r.AnyType)) t → SpellsAt t
  spells_type (node (here t)) g = kind_type t g
  spells_type (node (there (here (node (pair a0 (pair a1 (pair t2 (pair q3 end)))))))) g = vec_type a0 a1 t2 q3 end g (spells_type t2 g.1.1.0)
  spells_type (node (there (there (here (node (pair a (pair t (pair u (pair q end))))))))) g = struct_type a t u q end g (spells_type t g.1.0) (λ v ts st h. next_types u v ts st g.1.1.0 h)
  spells_type (node (there (there (there (here (node (pair a0 (pair a1 (pair t2 (pair q3 (pair t4 (pair q5 end)))))))))))) g = dict_type a0 a1 t2 q3 t4 q5 end g (spells_type t2 g.1.1.0) (spells_type t4 g.1.1.1.1.0)
  spells_type (node (there (there (there (there (here (node (pair a0 (pair a1 (pair t2 (pair q3 end))))))))))) g = list_type a0 a1 t2 q3 end g (spells_type t2 g.1.1.0)
  spells_type (node (there (there (there (there (there (here (node (pair a0 (pair a1 (pair t2 (pair q3 (pair o4 (pair q5 end)))))))))))))) g = total_type a0 a1 t2 q3 o4 q5 end g (spells_type t2 g.1.1.0)
  spells_type (node (there (there (there (there (there (there (here (node (pair a0 (pair a1 (pair t2 (pair q3 (pair t4 (pair q5 (pair o6 (pair q7 end))))))))))))))))) g = keyed_type a0 a1 t2 q3 t4 q5 o6 q7 end g (spells_type t2 g.1.1.0) (spells_type t4 g.1.1.1.1.0)
  spells_type (node (there (there (there (there (there (there (there (here (node (pair a0 (pair a1 (pair t2 (pair q3 (pair o4 (pair q5 end)))))))))))))))) g = cells_type a0 a1 t2 q3 o4 q5 end g (spells_type t2 g.1.1.0)
  spells_type (node (there (there (there (there (there (there (there (there (here (node (pair a0 (pair a1 (pair t2 (pair q3 (pair t4 (pair q5 end))))))))))))))))) g = groups_type a0 a1 t2 q3 t4 q5 end g (spells_type t2 g.1.1.0) (spells_type t4 g.1.1.1.1.0)
  spells_type _ g = absurd (assumption)

  next_types : (t : Tree Token) (v : Value) (ts : List TypeTree) (st : State) → Good false (item (Repeated r.NextType)) t → HoldsTypes v ts → MoreTypes t ts v st
  next_types empty v ts st g h = next_none v ts st h
  next_types (pair (node (pair c (pair t end))) u) v ts st g h = next_more c t end u v ts st g.0 h (spells_type t g.0.1.0) (next_types u (types (ts ++ type_of t ∷ [])) (ts ++ type_of t ∷ []) st g.1 (record { top = λ vs. refl }))
  next_types _ v ts st g h = absurd (assumption)
