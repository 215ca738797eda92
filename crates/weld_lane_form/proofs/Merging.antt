-- Bodies that end in a merge of the last step's number.
use Rattle.std.proofs.Common.{◌≡◌, ℕ, ℤ, List, [], ◌∷◌, Some, sym, ap, subst, ◌∙◌}
use Rattle.weld_data.specs.declared.kind.Kind.{Kind}
use Rattle.weld_data.specs.Kind.{InRange}
use Rattle.weld_data.specs.Value.{number}
use Rattle.weld_builders.specs.Outcome.{Outcome, done, and_then}
use Rattle.weld_builders.proofs.Order.{value_cmp_total}
use Rattle.weld_builders.proofs.Steps.{keys_stand}
use Rattle.weld_lanes.specs.Answers.{row_answer}
use Rattle.weld_tree.specs.declared.binder.Binder.{Binder}
use Rattle.weld_tree.specs.TypeTree.{TypeTree, scalar, vec, struct, dict, build}
use Rattle.weld_tree.specs.Types.{takes}
use Rattle.weld_tree.specs.HasValue.{HasValue}
use Rattle.weld_tree.specs.ExprTree.{ExprTree, At, leaf, one, two, three, many, let_in, loop, iterate, Leaf, Two, merge}
use Rattle.weld_meaning.specs.Environment.{look_for}
use Rattle.weld_meaning.specs.Evaluation.{Env, eval, found, leaf_thing, two_thing, merged}
use Rattle.weld_meaning.specs.Meaning.{GivesOrFaults}
use Rattle.weld_meaning.specs.Thing.{Thing, plain}
use Rattle.weld_meaning.specs.ThingType.{HasThing, EnvFits}
use Rattle.weld_meaning.specs.Typing.{Types, AreFormed, HasType, TwoHas}
use Rattle.weld_meaning.proofs.PartsGood.{KeyLaws}
use Rattle.weld_meaning.proofs.NeverStuck.{never_stuck, fits_bind}
use Rattle.weld_meaning.proofs.WellFormed.{formed_bind, type_formed}
use Rattle.weld_lane_form.specs.Bodies.{Lowered, Stands, place_value, with_lets, IsAt, IsNameOf, IsMerge, EndsInMerge, TakesNumber, MeansBody}
use Rattle.weld_lane_form.proofs.Forms.{let_missed, two_come}

-- ---- what is merged

-- the row's answer is merged into the builder of the name, whatever stands there
abbrev MeansUnder : Lowered → ℕ → List (ℕ × ℕ) → (Env → Outcome Thing) → Type 0
MeansUnder l own ns comes = (us : List ℤ) (a b : ℤ) (env : Env) (s : Thing) → Stands l us a b env → look_for own env ≡ Some s
    → comes (with_lets l us a b ns env) ≡ merged s (done (plain (number l.kind (row_answer l.kind l.steps us a b))))

own_named : (e : ExprTree) (own : ℕ) (env : Env) → IsNameOf e own → eval e env ≡ found (look_for own env)
own_named (leaf p x) own env is = ap (λ (y : Leaf). leaf_thing y env) is
own_named (one p o e) own env is = absurd is
own_named (two p o e f) own env is = absurd is
own_named (three p o c e f) own env is = absurd is
own_named (many p o es) own env is = absurd is
own_named (let_in p x e f) own env is = absurd is
own_named (loop p ls e x n r f) own env is = absurd is
own_named (iterate p e x f) own env is = absurd is

merge_means : (l : Lowered) (own : ℕ) (ns : List (ℕ × ℕ)) (o : Two) (e f : ExprTree) → IsMerge l own ns o e f → MeansUnder l own ns (λ env. and_then (eval e env) (λ t. two_thing o t (eval f env)))
merge_means l own ns o e f h us a b env s stands there =
    let inner : Env = with_lets l us a b ns env in
    ap (λ (w : Two). and_then (eval e inner) (λ t. two_thing w t (eval f inner))) h.0
    ∙ two_come merge (eval e inner) (eval f inner) s (plain (number l.kind (row_answer l.kind l.steps us a b)))
    (own_named e own inner h.1 ∙ ap found (let_missed l us a b own ns env h.2 ∙ there)) (h.3 us a b env stands)

let_means : (l : Lowered) (own : ℕ) (ns : List (ℕ × ℕ)) (n : ℕ) (e f : ExprTree) (i : ℕ) → IsAt l ns e i → MeansUnder l own ((n, i) ∷ ns) (eval f) → MeansUnder l own ns (λ env. and_then (eval e env) (λ t. eval f ((n, t) ∷ env)))
let_means l own ns n e f i h rest us a b env s stands there =
    ap (λ (o : Outcome Thing). and_then o (λ t. eval f ((n, t) ∷ with_lets l us a b ns env))) (h us a b env stands) ∙ rest us a b env s stands there

all_merge : (l : Lowered) (own : ℕ) (ns : List (ℕ × ℕ)) (e : ExprTree) → EndsInMerge l own ns e → MeansUnder l own ns (eval e)
all_merge l own ns (leaf p x) h = absurd h
all_merge l own ns (one p o e) h = absurd h
all_merge l own ns (two p o e f) h = merge_means l own ns o e f h
all_merge l own ns (three p o c e f) h = absurd h
all_merge l own ns (many p o es) h = absurd h
all_merge l own ns (let_in p x e f) h = let_means l own ns x.sym.0 e f h.0 h.1 (all_merge l own ((x.sym.0, h.0) ∷ ns) f h.2)
all_merge l own ns (loop p ls e x n r f) h = absurd h
all_merge l own ns (iterate p e x f) h = absurd h

-- ---- of what type it is

key_laws : KeyLaws
key_laws = record { total = value_cmp_total; alike = keys_stand }

-- what an expression comes to is of its type
gives : (e : ExprTree) (g : Types) (t : TypeTree) (env : Env) (x : Thing) → HasType e g t → AreFormed g → EnvFits g env → eval e env ≡ done x → HasThing x t
gives e g t env x h formed fit is = subst (GivesOrFaults (λ y. HasThing y t)) is (never_stuck key_laws e g t env h formed fit).fits

-- a number is of its kind's type alone
number_type : (t : TypeTree) (k : Kind) (x : ℤ) → HasValue t (number k x) → (t ≡ scalar k) × InRange k x
number_type (scalar m) k x h = (ap scalar (sym h.0), subst (λ (j : Kind). InRange j x) (sym h.0) h.1)
number_type (vec t) k x h = absurd h
number_type (struct ts) k x h = absurd h
number_type (dict t u) k x h = absurd h
number_type (build b) k x h = absurd h

-- the number is an item of the builder, wherever the names are of types
abbrev FitsUnder : Lowered → List (ℕ × ℕ) → ExprTree → Type 0
FitsUnder l ns e = (us : List ℤ) (a b : ℤ) (env : Env) (g : Types) (t : TypeTree) → Stands l us a b env → AreFormed g → EnvFits g (with_lets l us a b ns env) → HasType e g t → TakesNumber l.kind (row_answer l.kind l.steps us a b) t

merge_fits : (l : Lowered) (own : ℕ) (ns : List (ℕ × ℕ)) (p : At) (o : Two) (e f : ExprTree) → IsMerge l own ns o e f → FitsUnder l ns (two p o e f)
merge_fits l own ns p o e f h us a b env g t stands formed fit typed =
    let rule : TwoHas merge typed.0 typed.1 t = subst (λ (w : Two). TwoHas w typed.0 typed.1 t) h.0 typed.4 in
    let x : ℤ = row_answer l.kind l.steps us a b in
    let has = gives f g typed.1 (with_lets l us a b ns env) (plain (number l.kind x)) typed.3 formed fit (h.3 us a b env stands) in
    let is = number_type (takes rule.0) l.kind x (subst (λ (u : TypeTree). HasValue u (number l.kind x)) rule.2 has) in
    record { builder = rule.0; is_builder = rule.3 ∙ rule.1; takes_kind = is.0; in_range = is.1 }

let_fits : (l : Lowered) (ns : List (ℕ × ℕ)) (p : At) (n : Binder) (e f : ExprTree) (i : ℕ) → IsAt l ns e i → FitsUnder l ((n.sym.0, i) ∷ ns) f → FitsUnder l ns (let_in p n e f)
let_fits l ns p n e f i h rest us a b env g t stands formed fit typed =
    let inner : Env = with_lets l us a b ns env in
    let x : Thing = plain (place_value l us a b i) in
    rest us a b env ((n.sym.0, typed.0) ∷ g) t stands (formed_bind g n.sym.0 typed.0 (type_formed e g typed.0 typed.1 formed) formed)
    (fits_bind g inner n.sym.0 typed.0 x (gives e g typed.0 inner x typed.1 formed fit (h us a b env stands)) fit) typed.3

all_fit : (l : Lowered) (own : ℕ) (ns : List (ℕ × ℕ)) (e : ExprTree) → EndsInMerge l own ns e → FitsUnder l ns e
all_fit l own ns (leaf p x) h = absurd h
all_fit l own ns (one p o e) h = absurd h
all_fit l own ns (two p o e f) h = merge_fits l own ns p o e f h
all_fit l own ns (three p o c e f) h = absurd h
all_fit l own ns (many p o es) h = absurd h
all_fit l own ns (let_in p x e f) h = let_fits l ns p x e f h.0 h.1 (all_fit l own ((x.sym.0, h.0) ∷ ns) f h.2)
all_fit l own ns (loop p ls e x n r f) h = absurd h
all_fit l own ns (iterate p e x f) h = absurd h

pub ends_means : (l : Lowered) (own : ℕ) (ns : List (ℕ × ℕ)) (e : ExprTree) → ns ≡ [] → EndsInMerge l own ns e → MeansBody l own e
ends_means l own ns e none h =
    let ends : EndsInMerge l own [] e = subst (λ (ms : List (ℕ × ℕ)). EndsInMerge l own ms e) none h in
    record { merges = all_merge l own [] e ends; fits = all_fit l own [] e ends }

-- ---- the same by the whole expression

pub two_ends : (l : Lowered) (own : ℕ) (ns : List (ℕ × ℕ)) (x y u v e : ExprTree) (p : At) (o : Two) → two p o u v ≡ e → x ≡ u → y ≡ v → IsMerge l own ns o x y → EndsInMerge l own ns e
two_ends l own ns x y u v e p o is left right h =
    subst (EndsInMerge l own ns) is
    (subst (λ (w : ExprTree). IsMerge l own ns o w v) left
    (subst (λ (w : ExprTree). IsMerge l own ns o x w) right h))

pub let_ends : (l : Lowered) (own : ℕ) (ns : List (ℕ × ℕ)) (x y u v e : ExprTree) (p : At) (n : Binder) (i : ℕ) → let_in p n u v ≡ e → x ≡ u → y ≡ v → IsAt l ns x i → EndsInMerge l own ((n.sym.0, i) ∷ ns) y → EndsInMerge l own ns e
let_ends l own ns x y u v e p n i is left right at rest =
    subst (EndsInMerge l own ns) is
    (i, subst (λ (w : ExprTree). IsAt l ns w i) left at, subst (EndsInMerge l own ((n.sym.0, i) ∷ ns)) right rest)
