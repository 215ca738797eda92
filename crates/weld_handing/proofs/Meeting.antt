-- Where a body stands, and where it stands handed to the other loop: names stand for what they stood for, handed on.
use Rattle.std.proofs.Common.{◌≡◌, ◌≢◌, ℕ, ◌==◌, Bool, true, false, if◌then◌else◌, List, ◌∷◌, Option, Some, None, refl, ap, sym, subst, ◌∙◌, ne_eqb}
use Rattle.weld_data.specs.Value.{Value}
use Rattle.weld_tree.specs.declared.binder.Binder.{Binder}
use Rattle.weld_tree.specs.TypeTree.{TypeTree}
use Rattle.weld_tree.specs.Types.{IsWellFormed}
use Rattle.weld_tree.specs.ExprTree.{ExprTree, field}
use Rattle.weld_builders.specs.Outcome.{Outcome, done, and_then}
use Rattle.weld_meaning.specs.Environment.{Named, look_for}
use Rattle.weld_meaning.specs.Thing.{Thing, plain, field_of}
use Rattle.weld_meaning.specs.ThingType.{HasThing, EnvFits}
use Rattle.weld_meaning.specs.Typing.{Types, AreFormed, OneHas, HasType}
use Rattle.weld_meaning.specs.Evaluation.{Env, found, whole_number, with_row, eval}
use Rattle.weld_meaning.specs.Origin.{Path, Origin, field_origin, known_origin, origin_of_name, origin, from_within, outside, in_body, in_turn}
use Rattle.weld_meaning.specs.Linear.{IsSeen, Keeps}
use Rattle.weld_meaning.specs.Available.{chain_of}
use Rattle.weld_meaning.specs.Forms.{HasForm, NamesHaveForms}
use Rattle.weld_meaning.specs.Names.{IsFree, AgreeOn}
use Rattle.weld_meaning.proofs.Before.{none_within, origin_outside}
use Rattle.weld_meaning.proofs.Names.{agree_bind, eval_free}
use Rattle.weld_meaning.proofs.NeverStuck.{fits_bind}
use Rattle.weld_meaning.proofs.OriginTypes.{origin_forms, forms_bind}
use Rattle.weld_meaning.proofs.WellFormed.{formed_bind}
use Rattle.weld_substitution.proofs.Bindings.{agree_over, agree_after}
use Rattle.weld_substitution.proofs.Chains.{chain_by}
use Rattle.weld_substitution.proofs.Unnamed.{kept_seen}
use Rattle.weld_handing.specs.Handing.{holds}
use Rattle.weld_handing.proofs.Common.{IsAside, IsBehind}
use Rattle.weld_handing.proofs.Held.{none_held, HasHeld, NamesHaveHeld, held_bind}
use Rattle.weld_handing.proofs.HandingOn.{then_done_by, done_same, hand, hands_none}
use Rattle.weld_handing.proofs.Answers.{field_there}

module _ (i : ℕ) (c n x : Binder) (f : ExprTree) (item : TypeTree) (around : Env) (count : ℕ) (consumed : List Value → Outcome Thing) where
  -- the thing is there handed on; what isn't there isn't
  abbrev pub IsHanded : Origin → Option Thing → Option Thing → Type 0
  IsHanded o (Some v) m = (u : Thing) × (m ≡ Some u) × (hand consumed o v ≡ done u)
  IsHanded o None m = m ≡ None

  -- a binder of the body gets in nobody's way
  abbrev pub Aside : ℕ → Type 0
  Aside z = IsAside c.sym.0 n.sym.0 x.sym.0 i f z

  -- the names that the other loop's body has from around it
  abbrev pub Behind : ℕ → Type 0
  Behind s = IsBehind f c.sym.0 n.sym.0 x.sym.0 s

  -- this row's number
  abbrev pub number : Thing
  number = plain (whole_number count)

  -- of names but the other loop's builder and row number, each stands for what it stood for, handed on; those of the other loop's
  -- body stand for what they stood for around it, and this row's number is there
  pub record Meets (h : Types) (q : Named Origin) (env later : Env) : Type 0 where
    pub formed : AreFormed h
    pub forms : NamesHaveForms q h
    pub held : NamesHaveHeld item q h
    pub fits : EnvFits h env
    pub handed : (s : ℕ) → s ≢ c.sym.0 → s ≢ n.sym.0 → IsHanded (origin_of_name s q) (look_for s env) (look_for s later)
    pub behind : AgreeOn Behind around later
    pub row : look_for i later ≡ Some number

  -- under a binder of the body
  pub meets_bind : (h : Types) (q : Named Origin) (env later : Env) (z : ℕ) (u : TypeTree) (o : Origin) (y w : Thing) → Aside z → IsWellFormed u → HasForm o u → HasHeld item o u → HasThing y u → hand consumed o y ≡ done w → Meets h q env later → Meets ((z, u) ∷ h) ((z, o) ∷ q) ((z, y) ∷ env) ((z, w) ∷ later)
  meets_bind h q env later z u o y w aside form origin_form hold has on r = record {
    formed = formed_bind h z u form r.formed;
    forms = forms_bind q h z o u origin_form r.forms;
    held = held_bind item q h z o u hold r.held;
    fits = fits_bind h env z u y has r.fits;
    handed = λ s nc nn. by (s == z) (look_for s q) (look_for s env) (look_for s later) (r.handed s nc nn);
    behind = agree_after Behind around later ((z, w) ∷ later) r.behind (agree_over Behind z w later (λ k. aside.4 k.0));
    row = rw (ne_eqb i z (λ e. aside.3 (sym e))) r.row;
  }
    where
      by : (b : Bool) (p : Option Origin) (m l : Option Thing) → IsHanded (known_origin p) m l → IsHanded (known_origin (if b then Some o else p)) (if b then Some y else m) (if b then Some w else l)
      by true p m l k = (w, refl, on)
      by false p m l k = k

  -- under the other loop's builder and row number
  pub meets_over : (h : Types) (q : Named Origin) (env later : Env) (s : Thing) → c.sym.0 ≢ i → Meets h q env later → Meets h q env ((n.sym.0, number) ∷ (c.sym.0, s) ∷ later)
  meets_over h q env later s other r = record {
    formed = r.formed;
    forms = r.forms;
    held = r.held;
    fits = r.fits;
    handed = λ a nc nn. rw (ne_eqb a n.sym.0 nn, ne_eqb a c.sym.0 nc) (r.handed a nc nn);
    behind = agree_after Behind around ((c.sym.0, s) ∷ later) _ (agree_after Behind around later _ r.behind (agree_over Behind c.sym.0 s later (λ k. k.3 refl)))
        (agree_over Behind n.sym.0 number ((c.sym.0, s) ∷ later) (λ k. k.2 refl));
    row = by (i == n.sym.0);
  }
    where
      by : (b : Bool) → (if b then Some number else look_for i ((c.sym.0, s) ∷ later)) ≡ Some number
      by true = refl
      by false = rw (ne_eqb i c.sym.0 (λ e. other (sym e))) r.row

  -- ---- names

  -- a name stands for what it stood for, handed on
  pub name_means : (h : Types) (q : Named Origin) (env later : Env) (s : ℕ) → s ≢ c.sym.0 → s ≢ n.sym.0 → Meets h q env later → found (look_for s later) ≡ and_then (found (look_for s env)) (hand consumed (origin_of_name s q))
  name_means h q env later s nc nn r = by (look_for s env) (look_for s later) (r.handed s nc nn)
    where
      by : (m l : Option Thing) → IsHanded (origin_of_name s q) m l → found l ≡ and_then (found m) (hand consumed (origin_of_name s q))
      by (Some v) l k = ap found k.1 ∙ sym k.2
      by None l k = ap found k

  -- a name with field accesses is handed on
  pub chain_means : (h : Types) (q : Named Origin) (env later : Env) → Meets h q env later → (e : ExprTree) (d : ℕ × Path) → chain_of e ≡ Some d → (IsFree e c.sym.0 → ⊥) → (IsFree e n.sym.0 → ⊥) → (u : TypeTree) → HasType e h u → (y : Thing) → eval e env ≡ done y → (z : Thing) × (hand consumed (origin e q) y ≡ done z)
  chain_means h q env later r e d k =
      chain_by (λ e d. (IsFree e c.sym.0 → ⊥) → (IsFree e n.sym.0 → ⊥) → (u : TypeTree) → HasType e h u → (y : Thing) → eval e env ≡ done y → (z : Thing) × (hand consumed (origin e q) y ≡ done z))
      (λ a s nc nn u typed y ev. at_name s (λ g. nc (sym g)) (λ g. nn (sym g)) y ev) (λ a m e d k more nc nn u typed y ev. at_field m e (more nc nn) u typed y ev) e d k
    where
      at_name : (s : ℕ) → s ≢ c.sym.0 → s ≢ n.sym.0 → (y : Thing) → found (look_for s env) ≡ done y → (z : Thing) × (hand consumed (origin_of_name s q) y ≡ done z)
      at_name s nc nn y ev = by (look_for s env) (look_for s later) (r.handed s nc nn) ev
        where
          by : (m l : Option Thing) → IsHanded (origin_of_name s q) m l → found m ≡ done y → (z : Thing) × (hand consumed (origin_of_name s q) y ≡ done z)
          by (Some v) l k e = (k.0, ap (hand consumed (origin_of_name s q)) (sym (done_same v y e)) ∙ k.2)
          by None l k e = let nothing : ⊥ = cc in absurd nothing

      at_field : (m : ℕ) (e : ExprTree) → ((u : TypeTree) → HasType e h u → (y : Thing) → eval e env ≡ done y → (z : Thing) × (hand consumed (origin e q) y ≡ done z))
          → (u : TypeTree) → (p : (v : TypeTree) × HasType e h v × OneHas (field m) v u) → (y : Thing) → and_then (eval e env) (field_of m) ≡ done y
          → (z : Thing) × (hand consumed (field_origin m (origin e q)) y ≡ done z)
      at_field m e more u p y ev =
          let w = then_done_by (eval e env) (field_of m) y ev in
          let z = more p.0 p.1 w.0 w.1 in
          field_there consumed m (origin e q) p.2.0 w.0 z.0 y (subst (HasForm (origin e q)) p.2.1 (origin_forms e q h p.0 p.1 r.formed r.forms)) z.1 w.2

  -- ---- lambdas

  -- what is seen from within a lambda is the same in both
  seen_same : (h : Types) (q : Named Origin) (env later : Env) (s : ℕ) → s ≢ c.sym.0 → s ≢ n.sym.0 → Meets h q env later → IsSeen (from_within (origin_of_name s q)) → look_for s env ≡ look_for s later
  seen_same h q env later s nc nn r seen = by (look_for s env) (look_for s later) (r.handed s nc nn)
    where
      free : holds (origin_of_name s q) ≡ false
      free = none_held (origin_of_name s q) (none_within (origin_of_name s q) seen)

      by : (m l : Option Thing) → IsHanded (origin_of_name s q) m l → m ≡ l
      by (Some v) l k = ap Some (done_same v k.0 (sym (hands_none consumed (origin_of_name s q) v free) ∙ k.2)) ∙ sym k.1
      by None l k = sym k

  -- the body of a loop comes to the same
  pub body_same : (h : Types) (q : Named Origin) (env later : Env) (b m y : Binder) (g : ExprTree) (o : Origin) → Meets h q env later → Keeps g (in_body b m y o q) → (IsFree g c.sym.0 → (c.sym.0 ≢ y.sym.0) → (c.sym.0 ≢ m.sym.0) → (c.sym.0 ≢ b.sym.0) → ⊥) → (IsFree g n.sym.0 → (n.sym.0 ≢ y.sym.0) → (n.sym.0 ≢ m.sym.0) → (n.sym.0 ≢ b.sym.0) → ⊥) → (s k v : Thing) → eval g (with_row b m y s k v env) ≡ eval g (with_row b m y s k v later)
  body_same h q env later b m y g o r keeps nc nn s k v =
      eval_free g (with_row b m y s k v env) (with_row b m y s k v later)
      (agree_bind (λ a. IsFree g a × (a ≢ y.sym.0)) (IsFree g) y.sym.0 v _ _ (λ a j ne. (j, ne))
      (agree_bind (λ a. IsFree g a × (a ≢ y.sym.0) × (a ≢ m.sym.0)) (λ a. IsFree g a × (a ≢ y.sym.0)) m.sym.0 k _ _ (λ a j ne. (j.0, j.1, ne))
      (agree_bind (λ a. IsFree g a × (a ≢ y.sym.0) × (a ≢ m.sym.0) × (a ≢ b.sym.0)) (λ a. IsFree g a × (a ≢ y.sym.0) × (a ≢ m.sym.0)) b.sym.0 s env later (λ a j ne. (j.0, j.1, j.2, ne))
      (record { agree = λ a j. seen_same h q env later a (λ e. nc (subst (IsFree g) e j.0) (λ z. j.1 (e ∙ z)) (λ z. j.2 (e ∙ z)) (λ z. j.3 (e ∙ z))) (λ e. nn (subst (IsFree g) e j.0) (λ z. j.1 (e ∙ z)) (λ z. j.2 (e ∙ z)) (λ z. j.3 (e ∙ z))) r (seen a j) }))))
    where
      seen : (a : ℕ) → IsFree g a × (a ≢ y.sym.0) × (a ≢ m.sym.0) × (a ≢ b.sym.0) → IsSeen (from_within (origin_of_name a q))
      seen a j =
          let there : IsSeen (origin_of_name a (in_body b m y o q)) = kept_seen g (in_body b m y o q) a keeps j.0 in
          let behind : IsSeen (origin_of_name a (outside q)) = (rw (ne_eqb a y.sym.0 j.1, ne_eqb a m.sym.0 j.2, ne_eqb a b.sym.0 j.3) at there) in
          subst IsSeen (origin_outside a q) behind

  -- so does that of an `iterate`
  pub turn_same : (h : Types) (q : Named Origin) (env later : Env) (b : Binder) (g : ExprTree) → Meets h q env later → Keeps g (in_turn b q) → (IsFree g c.sym.0 → (c.sym.0 ≢ b.sym.0) → ⊥) → (IsFree g n.sym.0 → (n.sym.0 ≢ b.sym.0) → ⊥) → (v : Thing) → eval g ((b.sym.0, v) ∷ env) ≡ eval g ((b.sym.0, v) ∷ later)
  turn_same h q env later b g r keeps nc nn v =
      eval_free g ((b.sym.0, v) ∷ env) ((b.sym.0, v) ∷ later)
      (agree_bind (λ a. IsFree g a × (a ≢ b.sym.0)) (IsFree g) b.sym.0 v env later (λ a j ne. (j, ne))
      (record { agree = λ a j. seen_same h q env later a (λ e. nc (subst (IsFree g) e j.0) (λ z. j.1 (e ∙ z))) (λ e. nn (subst (IsFree g) e j.0) (λ z. j.1 (e ∙ z))) r (seen a j) }))
    where
      seen : (a : ℕ) → IsFree g a × (a ≢ b.sym.0) → IsSeen (from_within (origin_of_name a q))
      seen a j =
          let there : IsSeen (origin_of_name a (in_turn b q)) = kept_seen g (in_turn b q) a keeps j.0 in
          let behind : IsSeen (origin_of_name a (outside q)) = (rw (ne_eqb a b.sym.0 j.1) at there) in
          subst IsSeen (origin_outside a q) behind
