-- Two environments that differ in one name, which is bound in the second alone.
use Rattle.std.proofs.Common.{◌≡◌, ◌≢◌, ℕ, ◌==◌, Bool, true, false, if◌then◌else◌, [], ◌∷◌, Some, option_map, refl, ap, sym, subst, ◌∙◌, eq-eqb, ne_eqb, eqb-true, ◌⊎◌, inl, inr}
use Rattle.std.proofs.lemmas.Bool.{cases_eq}
use Rattle.weld_tree.specs.declared.binder.Binder.{Binder}
use Rattle.weld_tree.specs.TypeTree.{TypeTree}
use Rattle.weld_meaning.specs.Environment.{Named, look_for}
use Rattle.weld_meaning.specs.Typing.{Types, place_type, body_types}
use Rattle.weld_meaning.specs.Origin.{Origin, value, own_paths, from_within, outside, named_below, in_body, in_turn, by_name}
use Rattle.weld_meaning.specs.Names.{AgreeOn}
use Rattle.weld_meaning.proofs.Before.{look_for-map}

pub record Binding {A : Type 0} (s : ℕ) (x : A) (g h : Named A) : Type 0 where
  pub others : (t : ℕ) → t ≢ s → look_for t g ≡ look_for t h
  pub there : look_for s h ≡ Some x

pub binding_first : {A : Type 0} (s : ℕ) (x : A) (g : Named A) → Binding s x g ((s, x) ∷ g)
binding_first s x g = record { others = λ t ne. rw (ne_eqb t s ne) refl; there = rw (eq-eqb s s refl) refl }

same_behind : {A : Type 0} (t b : ℕ) (y : A) (g h : Named A) → look_for t g ≡ look_for t h → look_for t ((b, y) ∷ g) ≡ look_for t ((b, y) ∷ h)
same_behind t b y g h e = λ i. if t == b then Some y else e i

pub binding_behind : {A : Type 0} (s : ℕ) (x : A) (g h : Named A) (b : ℕ) (y : A) → s ≢ b → Binding s x g h → Binding s x ((b, y) ∷ g) ((b, y) ∷ h)
binding_behind s x g h b y ne r = record {
  others = λ t nt. same_behind t b y g h (r.others t nt);
  there = rw (ne_eqb s b ne) r.there;
}

pub binding_outside : (s : ℕ) (o : Origin) (g h : Named Origin) → Binding s o g h → Binding s (from_within o) (outside g) (outside h)
binding_outside s o g h r = record {
  others = λ t nt. look_for-map from_within t g ∙ ap (option_map from_within) (r.others t nt) ∙ sym (look_for-map from_within t h);
  there = look_for-map from_within s h ∙ ap (option_map from_within) r.there;
}

pub look_for-by_name : (x : ℕ) (g : Named Origin) → look_for x (by_name g) ≡ option_map (named_below x []) (look_for x g)
look_for-by_name x [] = refl
look_for-by_name x (e ∷ es) = by (x == e.0) refl (look_for-by_name x es)
  where
    by : (c : Bool) → (x == e.0) ≡ c → look_for x (by_name es) ≡ option_map (named_below x []) (look_for x es) → (if c then Some (named_below e.0 [] e.1) else look_for x (by_name es)) ≡ option_map (named_below x []) (if c then Some e.1 else look_for x es)
    by true p k = ap (λ s. Some (named_below s [] e.1)) (sym (eqb-true x e.0 p))
    by false p k = k

pub binding_by_name : (s : ℕ) (o : Origin) (g h : Named Origin) → Binding s o g h → Binding s (named_below s [] o) (by_name g) (by_name h)
binding_by_name s o g h r = record {
  others = λ t nt. look_for-by_name t g ∙ ap (option_map (named_below t [])) (r.others t nt) ∙ sym (look_for-by_name t h);
  there = look_for-by_name s h ∙ ap (option_map (named_below s [])) r.there;
}

-- in the body of a loop, and of an `iterate`
pub binding_in_body : (s : ℕ) (o p : Origin) (g h : Named Origin) (b n x : Binder) → s ≢ b.sym.0 → s ≢ n.sym.0 → s ≢ x.sym.0 → Binding s o g h → Binding s (from_within o) (in_body b n x p g) (in_body b n x p h)
binding_in_body s o p g h b n x nb nn nx r =
    binding_behind s _ _ _ x.sym.0 value nx (binding_behind s _ _ _ n.sym.0 value nn (binding_behind s _ _ _ b.sym.0 (own_paths p) nb (binding_outside s o g h r)))

pub binding_in_turn : (s : ℕ) (o : Origin) (g h : Named Origin) (b : Binder) → s ≢ b.sym.0 → Binding s o g h → Binding s (from_within o) (in_turn b g) (in_turn b h)
binding_in_turn s o g h b nb r = binding_behind s _ _ _ b.sym.0 value nb (binding_outside s o g h r)

pub binding_types : (s : ℕ) (u : TypeTree) (g h : Types) (b n x : Binder) (t r : TypeTree) → s ≢ b.sym.0 → s ≢ n.sym.0 → s ≢ x.sym.0 → Binding s u g h → Binding s u (body_types b n x t r g) (body_types b n x t r h)
binding_types s u g h b n x t r nb nn nx k =
    binding_behind s _ _ _ x.sym.0 r nx (binding_behind s _ _ _ n.sym.0 place_type nn (binding_behind s u g h b.sym.0 t nb k))

-- ---- agreement

-- what the name isn't free in sees the same
pub agree_besides : {A : Type 0} (free : ℕ → Type 0) (s : ℕ) (x : A) (g h : Named A) → ¬ (free s) → Binding s x g h → AgreeOn free g h
agree_besides free s x g h nf r = record { agree = λ t f. r.others t (λ e. nf (subst free e f)) }

-- a binder of no free name may be dropped
pub agree_over : {A : Type 0} (free : ℕ → Type 0) (b : ℕ) (y : A) (g : Named A) → ¬ (free b) → AgreeOn free g ((b, y) ∷ g)
agree_over free b y g nf = record { agree = λ t f. by t f (cases_eq t b) }
  where
    by : (t : ℕ) → free t → (t ≡ b) ⊎ (t ≢ b) → look_for t g ≡ look_for t ((b, y) ∷ g)
    by t f (inl e) = absurd (nf (subst free e f))
    by t f (inr ne) = rw (ne_eqb t b ne) refl

pub agree_after : {A : Type 0} (free : ℕ → Type 0) (f g h : Named A) → AgreeOn free f g → AgreeOn free g h → AgreeOn free f h
agree_after free f g h a b = record { agree = λ t k. a.agree t k ∙ b.agree t k }

-- nor do those of a loop count
pub agree_over_types : (free : ℕ → Type 0) (b n x : Binder) (t r : TypeTree) (g : Types) → ¬ (free b.sym.0) → ¬ (free n.sym.0) → ¬ (free x.sym.0) → AgreeOn free g (body_types b n x t r g)
agree_over_types free b n x t r g nb nn nx =
    agree_after free g ((b.sym.0, t) ∷ g) _ (agree_over free b.sym.0 t g nb)
    (agree_after free ((b.sym.0, t) ∷ g) ((n.sym.0, place_type) ∷ (b.sym.0, t) ∷ g) _ (agree_over free n.sym.0 place_type _ nn) (agree_over free x.sym.0 r _ nx))

pub agree_over_body : (free : ℕ → Type 0) (b n x : Binder) (o : Origin) (g : Named Origin) → ¬ (free b.sym.0) → ¬ (free n.sym.0) → ¬ (free x.sym.0) → AgreeOn free (outside g) (in_body b n x o g)
agree_over_body free b n x o g nb nn nx =
    agree_after free (outside g) ((b.sym.0, own_paths o) ∷ outside g) _ (agree_over free b.sym.0 (own_paths o) (outside g) nb)
    (agree_after free ((b.sym.0, own_paths o) ∷ outside g) ((n.sym.0, value) ∷ (b.sym.0, own_paths o) ∷ outside g) _ (agree_over free n.sym.0 value _ nn) (agree_over free x.sym.0 value _ nx))
