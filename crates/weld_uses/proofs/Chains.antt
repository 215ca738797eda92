-- What is answered at a name followed by field accesses, and at a node itself.
use Rattle.std.proofs.Common.{◌≡◌, ℕ, Bool, true, false, ◌&&◌, if◌then◌else◌, not, [], ◌∷◌, None, refl, sym, ap, ◌∙◌, ◌==◌}
use Rattle.weld_tree.specs.declared.place.Place.{Place}
use Rattle.weld_tree.specs.declared.code.Code.TheVariants.{L1, L3}
use Rattle.weld_tree.specs.declared.refusal.Refusal.TheVariants as refused
use Rattle.weld_meaning.specs.Environment.{Named}
use Rattle.weld_meaning.specs.Origin.{Path, Origin, value, made, own, outer, named, struct, is_value, field_origin, origin_of_name, named_below}
use Rattle.weld_meaning.specs.Available.{at_path, field_within, is_below, is_builder}
use Rattle.weld_meaning.specs.LinearWalk.{Left, where_so, is_seen, has, some_of, after_taking, paths_below}
use Rattle.weld_linear.specs.AvailableView.{stands_below, of_name}
use Rattle.weld_linear.specs.Resolve.{follow}
use Rattle.weld_uses.specs.Walks.{ChainUsed, ChainStops}
use Rattle.weld_linear.proofs.Names.{name_by_name}
use Rattle.weld_uses.proofs.Taking.{some_name, chain_taken}
use Rattle.weld_uses.proofs.Steps.{fails_first, fails_later, none_both}

pub hidden : {c : ℕ × Path} {p : Place} {g : Named Origin} {l : Left} {real : Origin} → real ≡ origin_of_name c.0 g → is_seen real ≡ false → ChainStops (refused.At L3 p) c p g l
hidden {c} {p} e s = record { fails = fails_first (refused.At L3 p) _ _ (ap (λ b. where_so (not b) L3 p) (ap is_seen (sym e) ∙ s)) }

seen : (c : ℕ × Path) (p : Place) (g : Named Origin) {real : Origin} → real ≡ origin_of_name c.0 g → is_seen real ≡ true → where_so (not (is_seen (origin_of_name c.0 g))) L3 p ≡ None
seen c p g e s = ap (λ b. where_so (not b) L3 p) (ap is_seen (sym e) ∙ s)

lack : (c : ℕ × Path) (g : Named Origin) (l wanted : Left) (real : Origin) → real ≡ origin_of_name c.0 g → wanted ≡ of_name c.0 (paths_below c.1 (at_path c.1 real))
    → some_of (λ (e : ℕ × Path). not (has l e.0 e.1)) wanted ≡ some_of (λ q. not (has l c.0 q)) (paths_below c.1 (at_path c.1 (origin_of_name c.0 g)))
lack c g l wanted real e w =
    ap (some_of (λ (x : ℕ × Path). not (has l x.0 x.1))) w
    ∙ some_name (has l) c.0 (paths_below c.1 (at_path c.1 real))
    ∙ ap (λ o. some_of (λ q. not (has l c.0 q)) (paths_below c.1 (at_path c.1 o))) e

pub missing : (c : ℕ × Path) {p : Place} (g : Named Origin) (l wanted : Left) (real : Origin) → real ≡ origin_of_name c.0 g → is_seen real ≡ true
    → wanted ≡ of_name c.0 (paths_below c.1 (at_path c.1 real)) → some_of (λ (e : ℕ × Path). not (has l e.0 e.1)) wanted ≡ true → ChainStops (refused.At L1 p) c p g l
missing c {p} g l wanted real e s w m = record {
  fails = fails_later (refused.At L1 p) _ _ (seen c p g e s) (ap (λ b. where_so b L1 p) (sym (lack c g l wanted real e w) ∙ m));
}

pub used : (c : ℕ × Path) {p : Place} (g : Named Origin) (l wanted after : Left) (real o : Origin) → real ≡ origin_of_name c.0 g → is_seen real ≡ true
    → wanted ≡ of_name c.0 (paths_below c.1 (at_path c.1 real)) → some_of (λ (e : ℕ × Path). not (has l e.0 e.1)) wanted ≡ false
    → after ≡ after_taking (λ s q. stands_below c.0 c.1 real (s, q)) l → o ≡ follow c.1 (named_below c.0 [] real) → ChainUsed o c p g l after
used c {p} g l wanted after real o e s w m a f = record {
  none = none_both _ _ (seen c p g e s) (ap (λ b. where_so b L1 p) (sym (lack c g l wanted real e w) ∙ m));
  from = f ∙ ap (λ x. follow c.1 (named_below c.0 [] x)) e ∙ ap (follow c.1) (sym (name_by_name c.0 g));
  rest = a ∙ ap (λ x. after_taking (λ s q. stands_below c.0 c.1 x (s, q)) l) e ∙ chain_taken c g l;
}

-- ---- a value

value_within : (p : Path) → at_path p value ≡ value
value_within [] = refl
value_within (n ∷ p) = ap (field_within n) (value_within p)

value_behind : (p : Path) → follow p value ≡ value
value_behind [] = refl
value_behind (n ∷ p) = ap (field_origin n) (value_behind p)

not_both : (a b : Bool) → (a && (b && false)) ≡ false
not_both true true = refl
not_both true false = refl
not_both false b = refl

untaken : (s : ℕ) (p : Path) (l : Left) → l ≡ after_taking (λ t q. stands_below s p value (t, q)) l
untaken s p [] = refl
untaken s p (e ∷ es) =
    let none : stands_below s p value (e.0, e.1) ≡ false = ap (λ o. (s == e.0) && (is_below p e.1 && is_builder o)) (value_within e.1) ∙ not_both (s == e.0) (is_below p e.1) in
    ap (λ l. e ∷ l) (untaken s p es)
    ∙ ap (λ b. if b then after_taking (λ t q. stands_below s p value (t, q)) es else e ∷ after_taking (λ t q. stands_below s p value (t, q)) es) (sym none)

pub used_value : (c : ℕ × Path) {p : Place} (g : Named Origin) (l : Left) (real : Origin) → real ≡ origin_of_name c.0 g → is_value real ≡ true → ChainUsed real c p g l l
used_value c g l value e v =
    used c g l [] l value value e refl (ap (λ o. of_name c.0 (paths_below c.1 o)) (sym (value_within c.1))) refl (untaken c.0 c.1 l) (sym (value_behind c.1))
used_value c g l made e v = let no : ⊥ = cc in absurd no
used_value c g l (own q) e v = let no : ⊥ = cc in absurd no
used_value c g l outer e v = let no : ⊥ = cc in absurd no
used_value c g l (named s q) e v = let no : ⊥ = cc in absurd no
used_value c g l (struct os) e v = let no : ⊥ = cc in absurd no
