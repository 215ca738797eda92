-- Names of what stands in slots, where other slots are written.
use Rattle.std.proofs.Common.{◌≡◌, ℕ, zero, suc, ◌+◌, ◌/◌, ◌<◌, ◌≤◌, ◌==◌, Bool, true, false, if◌then◌else◌, [], ◌∷◌, Some, refl, ap, sym, subst, ◌∙◌, arith}
use Rattle.std.proofs.lemmas.Bool.{eq-eqb, eqb-true}
use Rattle.weld_data.specs.Value.{Value, Values, and_value, struct}
use Rattle.weld_tree.specs.ExprTree.{ExprTree}
use Rattle.weld_meaning.specs.Environment.{look_for}
use Rattle.weld_meaning.specs.Evaluation.{Env}
use Rattle.weld_meaning.specs.Thing.{plain}
use Rattle.weld_turns.specs.CodeView.{Slots, with_slot, shape_value, slot_limit}
use Rattle.weld_turns.specs.Fillings.{AreKept}
use Rattle.weld_turns.specs.Scopes.{with_scope, end_of, fields_in, first_of, is_odd, put_fields, rest_of, room_of, site_value, whole_of, AreBelow, IsNamedAt, Sites}
use Rattle.weld_turns.specs.declared.code.Place.{Place}
use Rattle.weld_turns.specs.declared.code.Site.{Site}
use Rattle.weld_turns.specs.declared.code.Site.TheVariants as sites
use Rattle.weld_turns.specs.declared.code.Shape.{Shape}
use Rattle.weld_turns.proofs.Shapes.{shape_same}

-- ---- slots that are written

pub there : (f : Slots) (i : ℕ) (v : Value) → with_slot f i v i ≡ v
there f i v = ap (λ (t : Bool). if t then v else f i) (eq-eqb i i refl)

pub beside : (f : Slots) (i j : ℕ) (v : Value) → (j ≡ i → ⊥) → with_slot f i v j ≡ f j
beside f i j v h = by (j == i) refl
  where
    by : (t : Bool) → (j == i) ≡ t → (if t then v else f j) ≡ f j
    by true q = absurd (h (eqb-true j i q))
    by false q = refl

pub put_keeps : (f : Slots) (first : ℕ) (v : Value) → first < slot_limit → AreKept first f (with_slot f first v)
put_keeps f first v less = record { below = λ i h. beside f first i v (λ e. omega (arith, h, e)); past = λ i h. beside f first i v (λ e. omega (arith, h, e, less)) }

-- one after another
pub kept_then : (first : ℕ) (f g h : Slots) → AreKept first f g → AreKept first g h → AreKept first f h
kept_then first f g h k l = record { below = λ i less. l.below i less ∙ k.below i less; past = λ i more. l.past i more ∙ k.past i more }

-- below fewer
pub kept_under : (first next : ℕ) (f g : Slots) → first ≤ next → AreKept next f g → AreKept first f g
kept_under first next f g h k = record { below = λ i less. k.below i (omega (arith, h, less)); past = k.past }

-- ---- places below those that are written

pub shape_kept : (k : Shape) (at first : ℕ) (f g : Slots) → at + room_of k ≤ first → AreKept first f g → shape_value k at g ≡ shape_value k at f
shape_kept k at first f g h kept = shape_same k at at f g (λ j less. kept.below (at + j) (omega (arith, h, less)))

fields_kept : (n bits at first : ℕ) (f g : Slots) (vs us : Values) → at + n ≤ first → AreKept first f g → us ≡ vs → put_fields n bits at g us ≡ put_fields n bits at f vs
fields_kept zero bits at first f g vs us h kept is = is
fields_kept (suc n) bits at first f g vs us h kept is =
    (λ i. and_value (if is_odd bits then kept.below at (omega (arith, h)) i else first_of (is i)) (fields_kept n (bits / 2) (suc at) first f g (rest_of vs) (rest_of us) (omega (arith, h)) kept (ap rest_of is) i))

site_kept : (p : Site) (first : ℕ) (f g : Slots) → end_of p ≤ first → AreKept first f g → site_value p g ≡ site_value p f
site_kept (sites.Whole p) first f g h kept = shape_kept p.shape p.first first f g h kept
site_kept (sites.Spread p) first f g h kept =
    ap struct (fields_kept p.fields p.taken p.first first f g (whole_of f p.name.0) (whole_of g p.name.0) h kept (ap fields_in (kept.past (slot_limit + p.name.0) (omega arith))))

-- what is written past the places of all names changes none of them
pub scope_kept : (ns : Sites) (f g : Slots) (env : Env) (first : ℕ) → AreBelow ns first → AreKept first f g → with_scope ns g env ≡ with_scope ns f env
scope_kept [] f g env first h kept = refl
scope_kept (n ∷ ns) f g env first h kept =
    ap (λ x. (n.0, plain x) ∷ with_scope ns g env) (site_kept n.1 first f g h.0 kept)
    ∙ ap (λ (rest : Env). (n.0, plain (site_value n.1 f)) ∷ rest) (scope_kept ns f g env first h.1 kept)

pub below_more : (ns : Sites) (m n : ℕ) → m ≤ n → AreBelow ns m → AreBelow ns n
below_more [] m n h k = tt
below_more (p ∷ ns) m n h k = (omega (arith, k.0), below_more ns m n h k.1)

-- ---- one name more

pub site_below : (ns all : Sites) (s next after : ℕ) (p : Site) → end_of p ≤ after → next ≤ after → AreBelow ns next → all ≡ (s, p) ∷ ns → AreBelow all after
site_below ns all s next after p room less h is = subst (λ (ms : Sites). AreBelow ms after) (sym is) (room, below_more ns next after less h)

pub held_below : (ns all : Sites) (s next after : ℕ) (p : Place) → p.first + room_of p.shape ≤ after → next ≤ after → AreBelow ns next → all ≡ (s, sites.Whole p) ∷ ns → AreBelow all after
held_below ns all s next after p room less h is = subst (λ (ms : Sites). AreBelow ms after) (sym is) (room, below_more ns next after less h)

pub held_scope : (ns all : Sites) (f g : Slots) (env : Env) (s next : ℕ) (p : Place) → p.first ≡ next → AreBelow ns next → all ≡ (s, sites.Whole p) ∷ ns → AreKept next f g
    → with_scope all g env ≡ (s, plain (shape_value p.shape next g)) ∷ with_scope ns f env
held_scope ns all f g env s next p at below is kept =
    ap (λ (ms : Sites). with_scope ms g env) is
    ∙ ap (λ (i : ℕ). (s, plain (shape_value p.shape i g)) ∷ with_scope ns g env) at
    ∙ ap (λ (rest : Env). (s, plain (shape_value p.shape next g)) ∷ rest) (scope_kept ns f g env next below kept)

under : (ns : Sites) (s next : ℕ) (p q : Site) (t : Bool) → (look_for s ns ≡ Some p → end_of p ≤ next) → end_of q ≤ next → (if t then Some q else look_for s ns) ≡ Some p → end_of p ≤ next
under ns s next p q true rest h is = let e : q ≡ p = cc in subst (λ (r : Site). end_of r ≤ next) e h
under ns s next p q false rest h is = rest is

pub found_under : (ns : Sites) (s next : ℕ) (p : Site) → look_for s ns ≡ Some p → AreBelow ns next → end_of p ≤ next
found_under [] s next p is h = let none : ⊥ = cc in absurd none
found_under (n ∷ ns) s next p is h = under ns s next p n.1 (s == n.0) (λ q. found_under ns s next p q h.1) h.0 is

pub alias_below : (e : ExprTree) (ns all : Sites) (name next : ℕ) (p : Place) → IsNamedAt e ns p → AreBelow ns next → all ≡ (name, sites.Whole p) ∷ ns → AreBelow all next
alias_below e ns all name next p is h more = subst (λ (ms : Sites). AreBelow ms next) (sym more) (found_under ns is.0 next (sites.Whole p) is.2 h, h)
