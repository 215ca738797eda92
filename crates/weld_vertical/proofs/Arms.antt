-- A consumer sunk into an end of a spine answers the consumer's builder, whatever that is: so do the arms of an `if`, alike.
use Rattle.std.proofs.Common.{◌≡◌, ◌≢◌, ℕ, [], ◌∷◌, Some, option_map, ap, sym, subst, ◌∙◌, ne_eqb, inl, inr}
use Rattle.weld_tree.specs.declared.binder.Binder.{Binder}
use Rattle.weld_tree.specs.declared.known.Known.{Known}
use Rattle.weld_tree.specs.TypeTree.{TypeTree, build, list}
use Rattle.weld_tree.specs.Types.{IsBuilderFree, IsWellFormed, takes as taken_type}
use Rattle.weld_tree.specs.ExprTree.{At, ExprTree, leaf, two, three, let_in, name, merge, if_else}
use Rattle.weld_meaning.specs.Environment.{Named, look_for}
use Rattle.weld_meaning.specs.Typing.{Types, AreFormed, place_type, HasType}
use Rattle.weld_meaning.specs.Origin.{Origin, value, known_origin, origin, own_paths, outside, in_body, named_below, by_name}
use Rattle.weld_meaning.specs.Names.{IsFree, AgreeOn, Binds}
use Rattle.weld_meaning.proofs.FreeNames.{type_free}
use Rattle.weld_meaning.proofs.Names.{agree_bind, agree_less}
use Rattle.weld_meaning.specs.Forms.{HasForm, NamesHaveForms}
use Rattle.weld_meaning.proofs.OriginTypes.{origin_forms, forms_bind}
use Rattle.weld_meaning.proofs.WellFormed.{type_formed, formed_bind}
use Rattle.weld_rewriting.proofs.Forms.{free_origin}
use Rattle.weld_substitution.proofs.Bindings.{look_for-by_name, agree_over, agree_after}
use Rattle.weld_substitution.proofs.Unnamed.{binds_so}
use Rattle.weld_substitution.specs.Uses.{uses}
use Rattle.weld_vertical.specs.Sinking.{sunk}
use Rattle.weld_vertical.proofs.Spine.{unnamed}
use Rattle.weld_vertical.proofs.Related.{IsAside, IsElse, IsBehind}
use Rattle.weld_vertical.proofs.Grafting.{grafted, Grafts, body_answers, grafts_by_name, forms_by_name}

-- a merge's value has the type of the list's items
pub merged_typed : (w c : At) (d : ℕ) (v : ExprTree) (h : Types) (item : TypeTree) → HasType (two w merge (leaf c (name d)) v) h (build (list item)) → HasType v h item
merged_typed w c d v h item typed =
    let same : list item ≡ typed.4.0 = let e : build (list item) ≡ build typed.4.0 = typed.4.3 ∙ typed.4.1 in cc in
    subst (HasType v h) (typed.4.2 ∙ ap taken_type (sym same)) typed.3

module _ (ty : Known) (d i : ℕ) (b n x : Binder) (f : ExprTree) (item : TypeTree) (item_formed : IsWellFormed item) (item_free : IsBuilderFree item) (start : Origin) (around : Named Origin) (comes : origin f (in_body b n x start around) ≡ own_paths start) where
  abbrev Clear : ℕ → Type 0
  Clear z = IsAside d b.sym.0 i n.sym.0 f z

  abbrev Else : ℕ → Type 0
  Else t = IsElse d b.sym.0 t

  -- names have their types, the consumer's stand for what they stood for, and the row number for a value
  pub record Names (k : Types) (q : Named Origin) : Type 0 where
    pub grafts : Grafts b n x f start around q
    pub number : look_for i q ≡ Some value
    pub formed : AreFormed k
    pub forms : NamesHaveForms q k

  names_bind : (z : ℕ) (u : TypeTree) (o : Origin) (k : Types) (q : Named Origin) → Clear z → IsWellFormed u → HasForm o u → Names k q → Names ((z, u) ∷ k) ((z, o) ∷ q)
  names_bind z u o k q c w m r = record {
    grafts = record {
      behind = λ s j. rw (ne_eqb s z (λ e. c.4 (subst (IsFree f) e j.0))) (r.grafts.behind s j);
      builder = rw (ne_eqb b.sym.0 z (λ e. c.1 (sym e))) r.grafts.builder;
    };
    number = rw (ne_eqb i z (λ e. c.2 (sym e))) r.number;
    formed = formed_bind k z u w r.formed;
    forms = forms_bind q k z o u m r.forms;
  }

  abbrev pub Answers : ExprTree → Type 0
  Answers g =
      (h k : Types) (q : Named Origin) → Binds Clear g → (IsFree g b.sym.0 → ⊥) → (IsFree g n.sym.0 → ⊥) → AgreeOn Else h k → HasType g h (build (list item)) → Names k q
      → origin (sunk ty b.sym.0 i n x f g) q ≡ grafted b.sym.0 (own_paths start)

  not_d : (v : ExprTree) → Binds Clear v → uses v d ≡ 0 → IsFree v d → ⊥
  not_d v c none = unnamed d v (binds_so Clear (λ z. d ≢ z) (λ z k e. k.0 (sym e)) v c) none

  else_of : (v : ExprTree) → uses v d ≡ 0 → Binds Clear v → (IsFree v b.sym.0 → ⊥) → (s : ℕ) → IsFree v s → Else s
  else_of v none c nb s f = ((λ e. not_d v c none (subst (IsFree v) e f)), (λ e. nb (subst (IsFree v) e f)))

  pub name_answers : (w : At) → Answers (leaf w (name d))
  name_answers w h k q c nb nn same typed r = ap known_origin r.grafts.builder

  pub let_answers : (w : At) (z : Binder) (v g : ExprTree) → uses v d ≡ 0 → Answers g → Answers (let_in w z v g)
  let_answers w z v g none answers h k q c nb nn same typed r =
      let u = typed.0 in
      let there : HasType v k u = type_free v h k u (agree_less Else (IsFree v) h k (else_of v none c.1 (λ y. nb (inl y))) same) typed.1 in
      answers ((z.sym.0, u) ∷ h) ((z.sym.0, u) ∷ k) ((z.sym.0, origin v q) ∷ q) c.2 (λ y. nb (inr (y, λ e. c.0.1 (sym e)))) (λ y. nn (inr (y, λ e. c.0.3 (sym e))))
      (agree_bind Else Else z.sym.0 u h k (λ s y ne. y) same) typed.3
      (names_bind z.sym.0 u (origin v q) k q c.0 (type_formed v k u there r.formed) (origin_forms v q k u there r.formed r.forms) r)

  pub if_answers : (w : At) (t e g : ExprTree) → uses t d ≡ 0 → Answers e → Answers g → Answers (three w if_else t e g)
  if_answers w t e g none answers others h k q c nb nn same typed r =
      answers h k q c.1 (λ y. nb (inr (inl y))) (λ y. nn (inr (inl y))) same (subst (HasType e h) typed.6.1 typed.4) r

  pub merge_answers : (w c : At) (v : ExprTree) → uses v d ≡ 0 → Answers (two w merge (leaf c (name d)) v)
  merge_answers w c v none h k q cl nb nn same typed r =
      (λ j. origin f ((x.sym.0, origin v ((n.sym.0, from_number j) ∷ q)) ∷ (n.sym.0, from_number j) ∷ q))
      ∙ (λ j. origin f ((x.sym.0, from_value j) ∷ (n.sym.0, value) ∷ q))
      ∙ body_answers b n x f start around q r.grafts comes
    where
      from_number : known_origin (look_for i q) ≡ value
      from_number = ap known_origin r.number

      k1 : Types
      k1 = (n.sym.0, place_type) ∷ k

      q1 : Named Origin
      q1 = (n.sym.0, value) ∷ q

      there : HasType v k1 item
      there =
          type_free v h k1 item
          (agree_after (IsFree v) h k k1 (agree_less Else (IsFree v) h k (else_of v none cl.1 (λ y. nb (inr y))) same) (agree_over (IsFree v) n.sym.0 place_type k (λ y. nn (inr y))))
          (merged_typed w c d v h item typed)

      formed : AreFormed k1
      formed = formed_bind k n.sym.0 place_type tt r.formed

      from_value : origin v q1 ≡ value
      from_value = free_origin (origin v q1) item item_formed item_free (origin_forms v q1 k1 item there formed (forms_bind q k n.sym.0 value place_type tt r.forms))

  -- where each name is its own origin, the row number is a value, and the types are those of the names
  pub names_by_name : (k : Types) (q : Named Origin) → AgreeOn (IsBehind f x.sym.0 n.sym.0) ((b.sym.0, own_paths start) ∷ outside around) q → look_for b.sym.0 q ≡ Some (own_paths start) → look_for i q ≡ Some value → AreFormed k → NamesHaveForms q k → Names k (by_name q)
  names_by_name k q agrees there number formed forms = record {
    grafts = grafts_by_name b n x f start around q agrees there;
    number = look_for-by_name i q ∙ ap (option_map (named_below i [])) number;
    formed = formed;
    forms = forms_by_name q k forms;
  }
