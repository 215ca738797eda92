-- Turns that mean a body.
use Rattle.std.proofs.Common.{◌≡◌, ℕ, List, [], ◌∷◌, length, get_or, Result, Ok, Err, IfOk, refl, ap, sym, ◌∙◌}
use Rattle.weld_data.specs.Value.{Value}
use Rattle.weld_built.specs.Pair.{pair}
use Rattle.weld_builders.specs.Outcome.{Outcome, done, fault, stuck, and_then, map_out}
use Rattle.weld_tree.specs.ExprTree.{ExprTree, ExprTrees, no_exprs, more_exprs, pack_exprs, make_struct}
use Rattle.weld_meaning.specs.Evaluation.{Env, eval, eval_all, many_thing, chosen}
use Rattle.weld_meaning.specs.Thing.{Thing, plain, more_things, no_things}
use Rattle.weld_turns.specs.CodeView.{Slots, shape_value, value, filled, turn_value, either_of}
use Rattle.weld_turns.specs.Fillings.{Fills, IsFilled}
use Rattle.weld_turns.specs.Scopes.{with_scope, ended, AreBelow, IsEndAt, IsNamedAt, IsStateAt, Means, TurnMeans, Sites}
use Rattle.weld_turns.specs.declared.code.Code.{Code}
use Rattle.weld_turns.specs.declared.code.Filling.{Filling}
use Rattle.weld_turns.specs.declared.code.Turn.{Turn}
use Rattle.weld_turns.specs.declared.code.Turn as turns
use Rattle.weld_turns.specs.declared.code.Shape.{Shape}
use Rattle.weld_turns.specs.declared.code.Place.{Place}
use Rattle.weld_turns.specs.declared.code.Site.TheVariants as sites
use Rattle.weld_turns.specs.declared.code.Unmade.{Unmade}
use Rattle.weld_turns.proofs.Making.{named_comes, if_chooses}
use Rattle.weld_turns.proofs.Scoping.{held_scope, scope_kept}

-- ---- choices and lets

pub fork_means : (shape : Shape) (ns : Sites) (env : Env) (e g h : ExprTree) (c : Code) (x y t : Turn) → ((f : Slots) → turn_value t shape f ≡ and_then (value c f) (λ v. either_of v (turn_value x shape f) (turn_value y shape f)))
    → Means c ns env (eval e) → TurnMeans x shape ns env (eval g) → TurnMeans y shape ns env (eval h) → TurnMeans t shape ns env (λ inner. and_then (eval e inner) (λ u. chosen u (eval g inner) (eval h inner)))
fork_means shape ns env e g h c x y t is i j k f =
    ap (λ (o : Outcome Thing). and_then o (λ u. chosen u (eval g (with_scope ns f env)) (eval h (with_scope ns f env)))) (i f)
    ∙ ap (λ (o : Outcome Thing). and_then (map_out plain (value c f)) (λ u. chosen u o (eval h (with_scope ns f env)))) (j f)
    ∙ ap (λ (o : Outcome Thing). and_then (map_out plain (value c f)) (λ u. chosen u (map_out plain (turn_value x shape f)) o)) (k f)
    ∙ if_chooses (value c f) (turn_value x shape f) (turn_value y shape f) ∙ ap (map_out plain) (sym (is f))

pub let_means : (shape : Shape) (ns all : Sites) (env : Env) (e d : ExprTree) (s next : ℕ) (p : Place) (x : Filling) (rest : Turn) → p.first ≡ next → AreBelow ns next → all ≡ (s, sites.Whole p) ∷ ns → Fills x p.shape next ns env (eval e) → TurnMeans rest shape all env (eval d)
    → (f : Slots) → and_then (eval e (with_scope ns f env)) (λ u. eval d ((s, u) ∷ with_scope ns f env)) ≡ map_out plain (and_then (filled x f) (λ g. turn_value rest shape g))
let_means shape ns all env e d s next p x rest at below is i j f = by (filled x f) (i f)
  where
    by : (r : Outcome Slots) → IsFilled (eval e (with_scope ns f env)) r p.shape next f → and_then (eval e (with_scope ns f env)) (λ u. eval d ((s, u) ∷ with_scope ns f env)) ≡ map_out plain (and_then r (λ g. turn_value rest shape g))
    by (done g) h =
        ap (λ (o : Outcome Thing). and_then o (λ u. eval d ((s, u) ∷ with_scope ns f env))) h.0
        ∙ ap (eval d) (sym (held_scope ns all f g env s next p at below is h.1)) ∙ j g
    by fault h = ap (λ (o : Outcome Thing). and_then o (λ u. eval d ((s, u) ∷ with_scope ns f env))) h
    by stuck h = ap (λ (o : Outcome Thing). and_then o (λ u. eval d ((s, u) ∷ with_scope ns f env))) h

-- ---- ends

struct_by : (v : Value) (p : Outcome Value) → and_then (map_out (more_things (plain v)) (and_then (map_out plain p) (λ u. map_out (more_things u) (done no_things)))) (many_thing make_struct) ≡ map_out plain (and_then p (λ w. done (pair v w)))
struct_by v (done w) = refl
struct_by v fault = refl
struct_by v stuck = refl

-- the struct of two values
pub struct_of_two : (o p : Outcome Value) → ended (map_out plain o) (map_out plain p) ≡ map_out plain (and_then o (λ v. and_then p (λ w. done (pair v w))))
struct_of_two (done v) p = struct_by v p
struct_of_two fault p = refl
struct_of_two stuck p = refl

pub end_named_means : (shape : Shape) (ns : Sites) (env : Env) (e g : ExprTree) (first : ℕ) (c : Code) → IsStateAt e shape ns first → Means c ns env (eval g) → TurnMeans (turns.End first c) shape ns env (λ inner. and_then (eval_all (more_exprs e (more_exprs g no_exprs)) inner) (many_thing make_struct))
end_named_means shape ns env e g first c is h f =
    ap (λ (o : Outcome Thing). ended o (eval g (with_scope ns f env))) (named_comes e is.0 ns f env (sites.Whole is.1) is.2 is.3)
    ∙ ap (λ (o : Outcome Thing). ended (done (plain (shape_value is.1.shape is.1.first f))) o) (h f)
    ∙ struct_of_two (done (shape_value is.1.shape is.1.first f)) (value c f)
    ∙ ap (λ (k : Shape). map_out plain (and_then (value c f) (λ w. done (pair (shape_value k is.1.first f) w)))) is.4
    ∙ ap (λ (i : ℕ). map_out plain (and_then (value c f) (λ w. done (pair (shape_value shape i f) w)))) is.5

pub end_filled_means : (shape : Shape) (ns : Sites) (env : Env) (e d : ExprTree) (next : ℕ) (x : Filling) (end : Turn) → AreBelow ns next → Fills x shape next ns env (eval e) → IsEndAt end next ns env (eval d)
    → (f : Slots) → ended (eval e (with_scope ns f env)) (eval d (with_scope ns f env)) ≡ map_out plain (and_then (filled x f) (λ g. turn_value end shape g))
end_filled_means shape ns env e d next x end below i k f = by (filled x f) (i f)
  where
    by : (r : Outcome Slots) → IsFilled (eval e (with_scope ns f env)) r shape next f → ended (eval e (with_scope ns f env)) (eval d (with_scope ns f env)) ≡ map_out plain (and_then r (λ g. turn_value end shape g))
    by (done g) h =
        ap (λ (o : Outcome Thing). ended o (eval d (with_scope ns f env))) h.0
        ∙ ap (ended (done (plain (shape_value shape next g)))) (ap (eval d) (sym (scope_kept ns f g env next below h.1)) ∙ k.1 g)
        ∙ struct_of_two (done (shape_value shape next g)) (value k.0 g)
        ∙ ap (map_out plain) (sym (k.2 shape g))
    by fault h = ap (λ (o : Outcome Thing). ended o (eval d (with_scope ns f env))) h
    by stuck h = ap (λ (o : Outcome Thing). ended o (eval d (with_scope ns f env))) h

-- ---- parts of a struct

pub two_of : (es : List ExprTree) (e g : ExprTree) → length es ≡ 2 → e ≡ get_or es 0 e → g ≡ get_or es 1 g → pack_exprs es ≡ more_exprs e (more_exprs g no_exprs)
two_of [] e g n p q = let no : ⊥ = cc in absurd no
two_of (a ∷ []) e g n p q = let no : ⊥ = cc in absurd no
two_of (a ∷ b ∷ []) e g n p q = ap (λ x. more_exprs x (more_exprs b no_exprs)) (sym p) ∙ ap (λ y. more_exprs e (more_exprs y no_exprs)) (sym q)
two_of (a ∷ b ∷ d ∷ es) e g n p q = let no : ⊥ = cc in absurd no

pub two_parts : (t : Turn) (shape : Shape) (ns : Sites) (env : Env) (es : List ExprTree) (e g : ExprTree) → length es ≡ 2 → e ≡ get_or es 0 e → g ≡ get_or es 1 g
    → TurnMeans t shape ns env (λ inner. and_then (eval_all (more_exprs e (more_exprs g no_exprs)) inner) (many_thing make_struct)) → TurnMeans t shape ns env (λ inner. and_then (eval_all (pack_exprs es) inner) (many_thing make_struct))
two_parts t shape ns env es e g n p q h f = ap (λ (xs : ExprTrees). and_then (eval_all xs (with_scope ns f env)) (many_thing make_struct)) (two_of es e g n p q) ∙ h f

-- ---- lets that take no slot

pub alias_means : (t : Turn) (shape : Shape) (ns all : Sites) (env : Env) (e g : ExprTree) (name : ℕ) (p : Place) → IsNamedAt e ns p → all ≡ (name, sites.Whole p) ∷ ns → TurnMeans t shape all env (eval g) → TurnMeans t shape ns env (λ inner. and_then (eval e inner) (λ x. eval g ((name, x) ∷ inner)))
alias_means t shape ns all env e g name p is more h f =
    ap (λ (o : Outcome Thing). and_then o (λ x. eval g ((name, x) ∷ with_scope ns f env))) (named_comes e is.0 ns f env (sites.Whole p) is.1 is.2)
    ∙ ap (λ (ms : Sites). eval g (with_scope ms f env)) (sym more) ∙ h f

pub alias_ok : (r : Result Turn Unmade) (shape : Shape) (ns all : Sites) (env : Env) (e g : ExprTree) (name : ℕ) (p : Place) → IsNamedAt e ns p → all ≡ (name, sites.Whole p) ∷ ns → IfOk r (λ t. TurnMeans t shape all env (eval g))
    → IfOk r (λ t. TurnMeans t shape ns env (λ inner. and_then (eval e inner) (λ x. eval g ((name, x) ∷ inner))))
alias_ok (Ok t) shape ns all env e g name p is more h = alias_means t shape ns all env e g name p is more h
alias_ok (Err x) shape ns all env e g name p is more h = h
