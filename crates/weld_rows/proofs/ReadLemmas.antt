-- Names and fields of names that are read.
use Rattle.std.proofs.Common.{◌≡◌, ℕ, Option, Some, sym, ap, ◌∙◌, subst}
use Rattle.std.specs.Prelude.{IsSome}
use Rattle.weld_tree.specs.ExprTree.{ExprTree, At, leaf, one, name, One, field}
use Rattle.weld_builders.specs.Outcome.{done, and_then}
use Rattle.weld_meaning.specs.Environment.{look_for}
use Rattle.weld_meaning.specs.Thing.{Thing}
use Rattle.weld_meaning.specs.Evaluation.{Env, eval, one_thing, found}
use Rattle.weld_eval.specs.Fit.{IsFit}
use Rattle.weld_eval.specs.Takes.{OneTakes}
use Rattle.weld_eval_plain.proofs.Nodes.{part_fits, part_takes, leaf_takes}
use Rattle.std.specs.Borrow.{Bor}
use Rattle.weld_data.specs.declared.value.Column.{Column}
use Rattle.weld_rows.specs.Lent.{LendsVector}
use Rattle.weld_rows.specs.Numbers.{IsName, ReadsPair}
use Rattle.weld_eval.specs.declared.short.Short.{Short}

leaf_name : (e : ExprTree) (s : ℕ) → IsName e s → (at : At) × (e ≡ leaf at (name s))
leaf_name (leaf at l) s h = (at, ap (leaf at) h)
leaf_name _ s h = absurd h

part_fit : (a : At) (o : One) (e : ExprTree) (env : Env) (n : ExprTree) → n ≡ one a o e → IsFit n env → IsFit e env
part_fit a o e env n is h = part_fits a o e env n is h

pub name_there : (a : At) (o : One) (s : ℕ) (e : ExprTree) (env : Env) (n : ExprTree) → n ≡ one a o e → IsName e s → IsFit n env → IsSome (look_for s env)
name_there a o s e env n is same h = let l = leaf_name e s same in leaf_takes l.0 (name s) env (subst (λ m. IsFit m env) l.1 (part_fit a o e env n is h))

name_is : (s : ℕ) (e : ExprTree) (env : Env) (x : Thing) → IsName e s → look_for s env ≡ Some x → eval e env ≡ done x
name_is s e env x same q = let l = leaf_name e s same in ap (λ m. eval m env) l.1 ∙ ap found q

pub field_takes : (a : At) (o : One) (k s : ℕ) (e : ExprTree) (env : Env) (n : ExprTree) (x : Thing) → n ≡ one a o e → o ≡ field k → IsName e s → IsFit n env → look_for s env ≡ Some x → OneTakes (field k) x
field_takes a o k s e env n x is form same h q = subst (λ p. OneTakes p x) form (part_takes a o e env n x is h (name_is s e env x same q))

pub field_reads : (a : At) (o : One) (k s : ℕ) (e : ExprTree) (env : Env) (n : ExprTree) (x y : Thing) → n ≡ one a o e → o ≡ field k → IsName e s → look_for s env ≡ Some x → one_thing (field k) x ≡ done y → eval n env ≡ done y
field_reads a o k s e env n x y is form same q r =
    ap (λ m. eval m env) is ∙ ap (λ u. and_then u (one_thing o)) (name_is s e env x same q) ∙ ap (λ p. one_thing p x) form ∙ r

-- ---- a name alone

pub alone_there : (s : ℕ) (e : ExprTree) (env : Env) → IsName e s → IsFit e env → IsSome (look_for s env)
alone_there s e env same h = let l = leaf_name e s same in leaf_takes l.0 (name s) env (subst (λ m. IsFit m env) l.1 h)

pub alone_reads : (r : Option (Short × Short)) (s : ℕ) (e : ExprTree) (env : Env) (x : Thing) → IsName e s → look_for s env ≡ Some x → ReadsPair r (done x) → ReadsPair r (eval e env)
alone_reads r s e env x same q h = subst (λ o. ReadsPair r o) (sym (name_is s e env x same q)) h

pub alone_lends : (r : Option (Bor Column)) (s : ℕ) (e : ExprTree) (env : Env) (x : Thing) → IsName e s → look_for s env ≡ Some x → LendsVector r (done x) → LendsVector r (eval e env)
alone_lends r s e env x same q h = subst (λ o. LendsVector r o) (sym (name_is s e env x same q)) h
