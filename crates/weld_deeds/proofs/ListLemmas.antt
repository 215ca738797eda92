-- Vectors of numbers item by item.
use Rattle.std.proofs.Common.{◌≡◌, ℕ, ◌<◌, ◌≤◌, ℤ, pos, List, [], ◌∷◌, ◌++◌, length, map, take, get_or, Option, Some, None, Vec, Global, refl, sym, ap, subst, ◌∙◌}
use Rattle.std.proofs.lemmas.List.{take_all}
use Rattle.weld_data.specs.declared.kind.Kind.{Kind}
use Rattle.weld_data.specs.declared.kind.Kind.TheVariants as kinds
use Rattle.weld_data.specs.declared.value.Val.{Val}
use Rattle.weld_data.specs.declared.value.Val.TheVariants as val
use Rattle.weld_data.specs.declared.value.Column.{Column}
use Rattle.weld_data.specs.Kind.{InRange, IsNarrow}
use Rattle.weld_data.specs.Value.{Value, number, list, and_value, values}
use Rattle.weld_data.specs.View.{view_val, view_column}
use Rattle.weld_tree.specs.ExprTree.{ExprTree, At, leaf, chars, many, make_vec, pack_exprs}
use Rattle.weld_builders.specs.Outcome.{done, and_then, map_out}
use Rattle.weld_meaning.specs.Thing.{plain, Things, no_things, more_things, as_values}
use Rattle.weld_meaning.specs.Evaluation.{Env, eval, eval_all, many_thing, byte_value}
use Rattle.weld_eval.specs.Word.{of_word}
use Rattle.weld_eval.proofs.Shorts.{narrow_word}
use Rattle.weld_blocks.specs.Numbers.{number_at}
use Rattle.weld_blocks.specs.Scope.{AreFieldsOf}
use Rattle.weld_blocks.specs.Structs.{AreCounted}
use Rattle.weld_blocks.specs.declared.numbers.Numbers.{Numbers}
use Rattle.weld_deeds.specs.Deeds.{IsItem}
use Rattle.weld_deeds.specs.Rows.{words_at}
use Rattle.weld_deeds.specs.Lists.{list_at, AreAlike, AreLists, MayBeFields, MayBeLists}
use Rattle.weld_deeds.specs.declared.deed.Deed as deed
use Rattle.weld_deeds.specs.declared.texts.Same.{Same}

-- ---- the vector of a row

-- values among things
abbrev plains : List Value → Things
plains [] = no_things
plains (v ∷ vs) = more_things (plain v) (plains vs)

as_plains : (vs : List Value) → as_values (plains vs) ≡ done (values vs)
as_plains [] = refl
as_plains (v ∷ vs) = ap (map_out (and_value v)) (as_plains vs)

items_give : (es : List ExprTree) (envs : ℕ → Env) (cs : List Numbers) (count j : ℕ) → AreFieldsOf es envs cs count → j < count → eval_all (pack_exprs es) (envs j) ≡ done (plains (map (λ c. number_at c j) cs))
items_give [] envs [] count j h less = refl
items_give [] envs (c ∷ cs) count j h less = absurd h
items_give (e ∷ es) envs [] count j h less = absurd h
items_give (e ∷ es) envs (c ∷ cs) count j h less =
    ap (λ o. and_then o (λ t. map_out (more_things t) (eval_all (pack_exprs es) (envs j)))) (h.0.each j less)
    ∙ ap (map_out (more_things (plain (number_at c j)))) (items_give es envs cs count j h.1 less)

items_long : (es : List ExprTree) (envs : ℕ → Env) (cs : List Numbers) (count : ℕ) → AreFieldsOf es envs cs count → AreCounted cs count
items_long [] envs [] count h = tt
items_long [] envs (c ∷ cs) count h = absurd h
items_long (e ∷ es) envs [] count h = absurd h
items_long (e ∷ es) envs (c ∷ cs) count h = (h.0.long, items_long es envs cs count h.1)

written_vectors : (a : At) (es : List ExprTree) (envs : ℕ → Env) (n : ExprTree) (cs : List Numbers) (count : ℕ) → n ≡ many a make_vec (pack_exprs es) → AreFieldsOf es envs cs count → AreLists (λ j v. eval n (envs j) ≡ done (plain v)) cs count
written_vectors a es envs n cs count is fields = record {
  long = items_long es envs cs count fields;
  each = λ j less.
      ap (λ m. eval m (envs j)) is
      ∙ ap (λ o. and_then o (many_thing make_vec)) (items_give es envs cs count j fields less)
      ∙ ap (map_out (λ vs. plain (list vs))) (as_plains (map (λ c. number_at c j) cs));
}

pub vectors_given : (r : Option (Vec Numbers Global)) (a : At) (es : List ExprTree) (envs : ℕ → Env) (n : ExprTree) (count : ℕ) → n ≡ many a make_vec (pack_exprs es) → MayBeFields es envs r count → MayBeLists n envs r count
vectors_given None a es envs n count is h = tt
vectors_given (Some cs) a es envs n count is h = written_vectors a es envs n cs.items count is h

-- what was appended to nothing is the vector
pub items_are : (v : Val) (column : Column) (cs : List Numbers) (j : ℕ) (ws xs ys : List Value) → ws ≡ [] → xs ≡ ws → ys ≡ xs ++ map (λ c. number_at c j) cs → view_column column ≡ ys → v ≡ val.List column → list_at cs j ≡ view_val v
items_are v column cs j ws xs ys none same more is made =
    sym (ap view_val made ∙ ap (λ us. list (values us)) (is ∙ more ∙ ap (λ us. us ++ map (λ c. number_at c j) cs) (same ∙ none)))

pub values_are : (v : Val) (column : Column) (cs : List Numbers) (j : ℕ) (xs ys : List Value) → xs ≡ [] → ys ≡ xs ++ map (λ c. number_at c j) cs → view_column column ≡ ys → v ≡ val.List column → list_at cs j ≡ view_val v
values_are v column cs j xs ys none more is made =
    sym (ap view_val made ∙ ap (λ us. list (values us)) (is ∙ more ∙ ap (λ us. us ++ map (λ c. number_at c j) cs) none))

i64_numbers : (cs : List Numbers) (j : ℕ) → AreAlike kinds.I64 cs → map (number kinds.I64) (words_at cs j) ≡ map (λ c. number_at c j) cs
i64_numbers [] j alike = refl
i64_numbers (c ∷ cs) j alike =
    ap (λ (k : Kind). number k (of_word k (get_or c.items.items j (pos 0))) ∷ map (number kinds.I64) (words_at cs j)) (sym alike.0)
    ∙ ap (λ (vs : List Value). number_at c j ∷ vs) (i64_numbers cs j alike.1)

pub i64_list_are : (v : Val) (column : Column) (cs : List Numbers) (i j : ℕ) (ws : List ℤ) → length cs ≤ i → ws ≡ words_at (take i cs) j → view_column column ≡ map (number kinds.I64) ws → v ≡ val.List column → AreAlike kinds.I64 cs → list_at cs j ≡ view_val v
i64_list_are v column cs i j ws all words is made alike =
    sym (ap view_val made ∙ ap (λ us. list (values us)) (is ∙ ap (map (number kinds.I64)) (words ∙ ap (λ ds. words_at ds j) (take_all i cs all)) ∙ i64_numbers cs j alike))

-- a string that is written out
pub text_is : (a : At) (bytes : List ℕ) (envs : ℕ → Env) (n : ExprTree) (u : Same) → n ≡ leaf a (chars bytes) → view_val u.value ≡ list (values (map byte_value bytes)) → (count : ℕ) → IsItem n envs (deed.Same u) count
text_is a bytes envs n u is text count j less = ap (λ m. eval m (envs j)) is ∙ ap (λ v. done (plain v)) (sym text)

-- ---- words

pub word_within : (k : Kind) (c : Numbers) (j : ℕ) (x : ℤ) → IsNarrow k → c.kind ≡ k → x ≡ get_or c.items.items j (pos 0) → InRange k x
word_within k c j x narrow same is =
    let there = subst (λ m. InRange m (of_word m (get_or c.items.items j (pos 0)))) same (c.in_range j) in
    subst (InRange k) (narrow_word k (get_or c.items.items j (pos 0)) narrow ∙ sym is) there

pub word_there : (k : Kind) (c : Numbers) (j : ℕ) (x : ℤ) → IsNarrow k → c.kind ≡ k → x ≡ get_or c.items.items j (pos 0) → number k x ≡ number_at c j
word_there k c j x narrow same is =
    ap (number k) is ∙ ap (number k) (sym (narrow_word k (get_or c.items.items j (pos 0)) narrow)) ∙ ap (λ m. number m (of_word m (get_or c.items.items j (pos 0)))) (sym same)
