-- A consumer sunk into a producer's body stands where the consumer's body stood: typed, noted, with each builder used once.
use Rattle.std.proofs.Common.{◌≡◌, ◌≢◌, ℕ, true, false, ◌||◌, [], ◌∷◌, Some, refl, ap, sym, subst, ◌∙◌, ◌⊎◌, inl, inr, eq-eqb, ne_eqb, arith}
use Rattle.std.proofs.lemmas.Bool.{cases_eq}
use Rattle.weld_tree.specs.declared.binder.Binder.{Binder}
use Rattle.weld_tree.specs.declared.known.Known.TheVariants.{Is}
use Rattle.weld_tree.specs.TypeTree.{TypeTree, build, list}
use Rattle.weld_tree.specs.Types.{IsBuilderFree, IsWellFormed}
use Rattle.weld_tree.specs.ExprTree.{At, ExprTree, leaf, two, three, let_in, name, merge, if_else}
use Rattle.weld_meaning.specs.Environment.{Named, look_for}
use Rattle.weld_meaning.specs.Typing.{Types, AreFormed, NoteFits, place_type, HasType, body_types}
use Rattle.weld_meaning.specs.Origin.{Path, Origin, value, known_origin, origin_of_name, origin, own_paths, from_within, outside, in_body, by_name}
use Rattle.weld_meaning.specs.Linear.{IsSeen, IsNotMade}
use Rattle.weld_meaning.specs.Available.{Taken, Apart, TakesAll, takes, without, is_below, is_builder_path}
use Rattle.weld_meaning.specs.Names.{IsFree, AgreeOn, Binds}
use Rattle.weld_meaning.proofs.Before.{origin_outside}
use Rattle.weld_meaning.proofs.FreeNames.{origin_free, taken_free}
use Rattle.weld_meaning.proofs.Names.{agree_bind, agree_less}
use Rattle.weld_meaning.specs.Forms.{HasForm, NamesHaveForms}
use Rattle.weld_meaning.proofs.OriginTypes.{origin_forms, forms_bind}
use Rattle.weld_meaning.proofs.WellFormed.{type_formed, formed_bind}
use Rattle.weld_rewriting.specs.Placed.{IsPlaced}
use Rattle.weld_rewriting.proofs.Forms.{free_origin, no_builder_path, chain_takes_none}
use Rattle.weld_rewriting.proofs.Parts.{first_of_three, second_of_three, third_of_three, value_of_let, body_of_let}
use Rattle.weld_substitution.proofs.Bindings.{agree_over, agree_after}
use Rattle.weld_substitution.proofs.Chains.{or_true, taken_builds, taken_named}
use Rattle.weld_substitution.proofs.Following.{or_left, or_right, same_truth, chain_takes_it}
use Rattle.weld_substitution.proofs.Values.{look_behind}
use Rattle.weld_substitution.proofs.Gaining.{without_is, else_without}
use Rattle.weld_substitution.proofs.Unnamed.{binds_so, kept_seen}
use Rattle.weld_substitution.specs.Uses.{uses}
use Rattle.weld_substitution.proofs.UsedNames.{used_or_free}
use Rattle.weld_vertical.specs.Sinking.{at_of, is_spine, sunk}
use Rattle.weld_vertical.proofs.Spine.{spine_by}
use Rattle.weld_vertical.proofs.Grafting.{grafted, own_not_made, own_seen}
use Rattle.weld_vertical.proofs.Arms.{merged_typed, Names, Answers, name_answers, let_answers, if_answers, merge_answers, names_by_name}
use Rattle.weld_vertical.proofs.Seen.{seen_no_path}
use Rattle.weld_vertical.proofs.Related.{IsAside, IsElse, IsBehind, placed_free, let_placed, let_taken}

-- the names of the producer's builder and row number, and the consumer: its node, binders and body, its row's type and its
-- builder's, and what stands around it
module _ (d i : ℕ) (a : At) (b n x : Binder) (f : ExprTree) (item builder : TypeTree) (outer : Types) (around : Named Origin) (start : Origin) where
  abbrev pub consumer_types : Types
  consumer_types = body_types b n x builder item outer

  abbrev pub consumer_origins : Named Origin
  consumer_origins = in_body b n x start around

  -- what is known of the consumer
  pub record Consumer : Type 0 where
    pub note : a.ty ≡ Is builder
    pub item_formed : IsWellFormed item
    pub item_free : IsBuilderFree item
    pub number_note : NoteFits n.note place_type
    pub row_note : NoteFits x.note item
    pub body : IsPlaced f consumer_types consumer_origins builder
    pub comes : origin f consumer_origins ≡ own_paths start
    pub all : TakesAll b.sym.0 (own_paths start) (takes f consumer_origins)
    pub builder_number : b.sym.0 ≢ n.sym.0
    pub builder_row : b.sym.0 ≢ x.sym.0

  -- a binder of the producer's body that gets in nobody's way
  abbrev pub Clear : ℕ → Type 0
  Clear z = IsAside d b.sym.0 i n.sym.0 f z

  -- names other than both builders
  abbrev Else : ℕ → Type 0
  Else t = IsElse d b.sym.0 t

  -- the names that the consumer's body has from around it
  abbrev Behind : ℕ → Type 0
  Behind t = IsBehind f x.sym.0 n.sym.0 t

  -- names stand for the same in the producer's body and where that stands with the consumer's builder, and those of the consumer
  -- stand for what they stood for
  pub record Related (h k : Types) (p q : Named Origin) : Type 0 where
    pub types : AgreeOn Else h k
    pub origins : AgreeOn Else p q
    pub behind_types : AgreeOn Behind ((b.sym.0, builder) ∷ outer) k
    pub behind_origins : AgreeOn Behind ((b.sym.0, own_paths start) ∷ outside around) q
    pub number_type : look_for i k ≡ Some place_type
    pub number_origin : look_for i q ≡ Some value
    pub builder_type : look_for b.sym.0 k ≡ Some builder
    pub builder_origin : look_for b.sym.0 q ≡ Some (own_paths start)
    pub formed : AreFormed k
    pub forms : NamesHaveForms q k

  look_over : {A : Type 0} (s z : ℕ) (y : A) (g : Named A) (w : A) → z ≢ s → look_for s g ≡ Some w → look_for s ((z, y) ∷ g) ≡ Some w
  look_over s z y g w ne e = rw (ne_eqb s z (λ c. ne (sym c))) e

  related_bind : (z : ℕ) (u : TypeTree) (o : Origin) (h k : Types) (p q : Named Origin) → Clear z → IsWellFormed u → HasForm o u → Related h k p q → Related ((z, u) ∷ h) ((z, u) ∷ k) ((z, o) ∷ p) ((z, o) ∷ q)
  related_bind z u o h k p q c w m r = record {
    types = agree_bind Else Else z u h k (λ s f ne. f) r.types;
    origins = agree_bind Else Else z o p q (λ s f ne. f) r.origins;
    behind_types = agree_after Behind _ k ((z, u) ∷ k) r.behind_types (agree_over Behind z u k (λ f. c.4 f.0));
    behind_origins = agree_after Behind _ q ((z, o) ∷ q) r.behind_origins (agree_over Behind z o q (λ f. c.4 f.0));
    number_type = look_over i z u k place_type c.2 r.number_type;
    number_origin = look_over i z o q value c.2 r.number_origin;
    builder_type = look_over b.sym.0 z u k builder c.1 r.builder_type;
    builder_origin = look_over b.sym.0 z o q (own_paths start) c.1 r.builder_origin;
    formed = formed_bind k z u w r.formed;
    forms = (forms_bind q k z o u m r.forms);
  }

  -- what is to be shown of the producer's body with the consumer sunk into it
  pub record Sunk (h k : Types) (p q : Named Origin) (g : ExprTree) : Type 0 where
    pub placed : IsPlaced (sunk a.ty b.sym.0 i n x f g) k q builder
    pub comes : origin (sunk a.ty b.sym.0 i n x f g) q ≡ own_paths start
    pub to : (s : ℕ) (w : Path) → takes (sunk a.ty b.sym.0 i n x f g) q s w ≡ true → ((s ≢ d) × (takes g p s w ≡ true)) ⊎ (s ≡ b.sym.0)
    pub back : (s : ℕ) (w : Path) → s ≢ d → takes g p s w ≡ true → takes (sunk a.ty b.sym.0 i n x f g) q s w ≡ true
    pub whole : (w : Path) → is_builder_path (own_paths start) w ≡ true → takes (sunk a.ty b.sym.0 i n x f g) q b.sym.0 w ≡ true

  abbrev pub Sinks : ExprTree → Type 0
  Sinks g = (h k : Types) (p q : Named Origin) → Binds Clear g → (IsFree g b.sym.0 → ⊥) → (IsFree g n.sym.0 → ⊥) → Related h k p q → IsPlaced g h p (build (list item)) → Sunk h k p q g

  pub unnamed : (v : ExprTree) → Binds Clear v → uses v d ≡ 0 → IsFree v d → ⊥
  unnamed v c none f = let h = (used_or_free v d (binds_so Clear (λ z. d ≢ z) (λ z k e. k.0 (sym e)) v c)).1 f in omega (arith, h, none)

  else_of : (v : ExprTree) → (IsFree v d → ⊥) → (IsFree v b.sym.0 → ⊥) → (s : ℕ) → IsFree v s → Else s
  else_of v not_d not_b s f = ((λ e. not_d (subst (IsFree v) e f)), (λ e. not_b (subst (IsFree v) e f)))

  -- ---- the name of the producer's builder

  below_all : (y : Path) → is_below [] y ≡ true
  below_all [] = refl
  below_all (m ∷ y) = below_all y

  sinks_name : Consumer → (w : At) → Sinks (leaf w (name d))
  sinks_name known w h k p q c nb nn r m =
      let from : origin_of_name b.sym.0 q ≡ own_paths start = ap known_origin r.builder_origin in
      record {
        placed = record {
          formed = r.formed;
          forms = r.forms;
          typed = r.builder_type;
          keeps = subst IsSeen (sym from) (own_seen start);
          splits = tt;
          noted = (builder, known.note, r.builder_type);
        };
        comes = from;
        to = λ s y e. inr (taken_named (leaf (at_of w a.ty) (name b.sym.0)) q s y e);
        back = λ s y ne e. absurd (ne (taken_named (leaf w (name d)) p s y e));
        whole = λ y e.
            chain_takes_it (leaf (at_of w a.ty) (name b.sym.0)) (b.sym.0, []) q b.sym.0 y refl refl (below_all y) (subst (λ o. is_builder_path o y ≡ true) (sym from) e);
      }

  -- ---- a `let` of the producer's

  sinks_let : Consumer → (w : At) (z : Binder) (v g : ExprTree) → uses v d ≡ 0 → Sinks g → Sinks (let_in w z v g)
  sinks_let known w z v g none sinks h k p q c nb nn r m =
      let u = m.typed.0 in
      let o = origin v p in
      let other = else_of v (unnamed v c.1 none) (λ f. nb (inl f)) in
      let origins : AgreeOn (IsFree v) p q = agree_less Else (IsFree v) p q other r.origins in
      let from : origin v q ≡ o = sym (origin_free v p q origins) in
      let same : takes v p ≡ takes v q = taken_free v p q origins in
      let value = value_of_let w z v g h p (build (list item)) m in
      let there : IsPlaced v k q u = placed_free v h k p q u (agree_less Else (IsFree v) h k other r.types) origins r.formed r.forms value in
      let form = origin_forms v p h u value.typed value.formed value.forms in
      let inner = related_bind z.sym.0 u o h k p q c.0 (type_formed v h u value.typed value.formed) form r in
      let it = sinks ((z.sym.0, u) ∷ h) ((z.sym.0, u) ∷ k) ((z.sym.0, o) ∷ p) ((z.sym.0, o) ∷ q) c.2 (λ f. nb (inr (f, λ e. c.0.1 (sym e)))) (λ f. nn (inr (f, λ e. c.0.3 (sym e)))) inner (body_of_let w z v g h p (build (list item)) m) in
      record {
        placed =
            let_placed (at_of w a.ty) z v (sunk a.ty b.sym.0 i n x f g) k q u builder o from known.note m.typed.2 there it.placed
            (record { apart = λ s y e l. apart same it s y e (without_is z.sym.0 s y (takes (sunk a.ty b.sym.0 i n x f g) ((z.sym.0, o) ∷ q)) l) })
            (record { all = λ y e. it.back z.sym.0 y c.0.0 (m.splits.3.all y e) });
        comes = ap (λ y. origin (sunk a.ty b.sym.0 i n x f g) ((z.sym.0, y) ∷ q)) from ∙ it.comes;
        to = λ s y e. to same it s y (or_true (takes v q s y) (without z.sym.0 (takes (sunk a.ty b.sym.0 i n x f g) ((z.sym.0, o) ∷ q)) s y) (sym (let_taken (at_of w a.ty) z v (sunk a.ty b.sym.0 i n x f g) q o from s y) ∙ e));
        back = λ s y ne e. let_taken (at_of w a.ty) z v (sunk a.ty b.sym.0 i n x f g) q o from s y ∙ back same it s y ne (or_true (takes v p s y) (without z.sym.0 (takes g ((z.sym.0, o) ∷ p)) s y) e);
        whole = λ y e.
            let_taken (at_of w a.ty) z v (sunk a.ty b.sym.0 i n x f g) q o from b.sym.0 y
            ∙ or_right (takes v q b.sym.0 y) (without z.sym.0 (takes (sunk a.ty b.sym.0 i n x f g) ((z.sym.0, o) ∷ q)) b.sym.0 y)
            (else_without z.sym.0 b.sym.0 y (takes (sunk a.ty b.sym.0 i n x f g) ((z.sym.0, o) ∷ q)) c.0.1 (it.whole y e));
      }
    where
      now : Named Origin
      now = (z.sym.0, origin v p) ∷ q

      before : Named Origin
      before = (z.sym.0, origin v p) ∷ p

      inside : ExprTree
      inside = sunk a.ty b.sym.0 i n x f g

      It : Type 0
      It = Sunk ((z.sym.0, m.typed.0) ∷ h) ((z.sym.0, m.typed.0) ∷ k) before now g

      apart : takes v p ≡ takes v q → It → (s : ℕ) (y : Path) → takes v q s y ≡ true → (z.sym.0 ≢ s) × (takes inside now s y ≡ true) → ⊥
      apart same it s y e l = by (it.to s y l.1)
        where
          by : ((s ≢ d) × (takes g before s y ≡ true)) ⊎ (s ≡ b.sym.0) → ⊥
          by (inl t) = m.splits.2.apart s y (ap (λ (t : Taken). t s y) same ∙ e) (else_without z.sym.0 s y (takes g before) l.0 t.1)
          by (inr t) = nb (inl (subst (IsFree v) t (taken_named v q s y e)))

      to : takes v p ≡ takes v q → It → (s : ℕ) (y : Path) → (takes v q s y ≡ true) ⊎ (without z.sym.0 (takes inside now) s y ≡ true) → ((s ≢ d) × (takes (let_in w z v g) p s y ≡ true)) ⊎ (s ≡ b.sym.0)
      to same it s y (inl e) =
          inl ((λ t. unnamed v c.1 none (subst (IsFree v) t (taken_named v q s y e))), or_left (takes v p s y) (without z.sym.0 (takes g before) s y) (ap (λ (t : Taken). t s y) same ∙ e))
      to same it s y (inr e) = by (without_is z.sym.0 s y (takes inside now) e)
        where
          by : (z.sym.0 ≢ s) × (takes inside now s y ≡ true) → ((s ≢ d) × (takes (let_in w z v g) p s y ≡ true)) ⊎ (s ≡ b.sym.0)
          by l = from (it.to s y l.1)
            where
              from : ((s ≢ d) × (takes g before s y ≡ true)) ⊎ (s ≡ b.sym.0) → ((s ≢ d) × (takes (let_in w z v g) p s y ≡ true)) ⊎ (s ≡ b.sym.0)
              from (inl t) = inl (t.0, or_right (takes v p s y) (without z.sym.0 (takes g before) s y) (else_without z.sym.0 s y (takes g before) l.0 t.1))
              from (inr t) = inr t

      back : takes v p ≡ takes v q → It → (s : ℕ) (y : Path) → s ≢ d → (takes v p s y ≡ true) ⊎ (without z.sym.0 (takes g before) s y ≡ true) → (takes v q s y || without z.sym.0 (takes inside now) s y) ≡ true
      back same it s y ne (inl e) = or_left (takes v q s y) (without z.sym.0 (takes inside now) s y) (sym (ap (λ (t : Taken). t s y) same) ∙ e)
      back same it s y ne (inr e) =
          let l = without_is z.sym.0 s y (takes g before) e in
          or_right (takes v q s y) (without z.sym.0 (takes inside now) s y) (else_without z.sym.0 s y (takes inside now) l.0 (it.back s y ne l.1))

  -- ---- an `if` of the producer's

  -- the sunk one answers the consumer's builder where each name is its own origin
  abbrev Gives : Consumer → ExprTree → Type 0
  Gives known g = Answers a.ty d i b n x f item known.item_formed known.item_free start around known.comes g

  sinks_if : (known : Consumer) → (w : At) (c e g : ExprTree) → uses c d ≡ 0 → Gives known e → Gives known g → Sinks e → Sinks g → Sinks (three w if_else c e g)
  sinks_if known w c e g none first_gives second_gives first second h k p q cl nb nn r m = record {
    placed = record {
      formed = r.formed;
      forms = r.forms;
      typed = typed;
      keeps = (
        there.keeps,
        one.placed.keeps,
        other.placed.keeps,
        record { same = first_answers ∙ sym second_answers; not_made = subst IsNotMade (sym first_answers) (own_not_made b.sym.0 start) },
      );
      splits = (
        there.splits,
        one.placed.splits,
        other.placed.splits,
        record { apart = λ s y j l. apart e (sink e) m.splits.3 one.to s y j l },
        record { apart = λ s y j l. apart g (sink g) m.splits.4 other.to s y j l },
        record { alike = alike },
      );
      noted = (there.noted, one.placed.noted, other.placed.noted, (builder, known.note, typed));
    };
    comes = one.comes;
    to = λ s y j. to s y (or_true (takes c q s y) (takes (sink e) q s y || takes (sink g) q s y) j);
    back = λ s y ne j. back s y ne (or_true (takes c p s y) (takes e p s y || takes g p s y) j);
    whole = λ y j.
        or_right (takes c q b.sym.0 y) (takes (sink e) q b.sym.0 y || takes (sink g) q b.sym.0 y)
        (or_left (takes (sink e) q b.sym.0 y) (takes (sink g) q b.sym.0 y) (one.whole y j));
  }
    where
      sink : ExprTree → ExprTree
      sink y = sunk a.ty b.sym.0 i n x f y

      other_name : (s : ℕ) → IsFree c s → Else s
      other_name = else_of c (unnamed c cl.0 none) (λ y. nb (inl y))

      origins : AgreeOn (IsFree c) p q
      origins = agree_less Else (IsFree c) p q other_name r.origins

      there : IsPlaced c k q m.typed.0
      there =
          placed_free c h k p q m.typed.0 (agree_less Else (IsFree c) h k other_name r.types) origins r.formed r.forms
          (first_of_three w if_else c e g h p (build (list item)) m)

      first_placed : IsPlaced e h p (build (list item))
      first_placed = subst (IsPlaced e h p) m.typed.6.1 (second_of_three w if_else c e g h p (build (list item)) m)

      second_placed : IsPlaced g h p (build (list item))
      second_placed = subst (IsPlaced g h p) m.typed.6.2 (third_of_three w if_else c e g h p (build (list item)) m)

      one : Sunk h k p q e
      one = first h k p q cl.1 (λ y. nb (inr (inl y))) (λ y. nn (inr (inl y))) r first_placed

      other : Sunk h k p q g
      other = second h k p q cl.2 (λ y. nb (inr (inr y))) (λ y. nn (inr (inr y))) r second_placed

      typed : HasType (three (at_of w a.ty) if_else c (sink e) (sink g)) k builder
      typed = (m.typed.0, builder, builder, there.typed, one.placed.typed, other.placed.typed, (m.typed.6.0, refl, refl))

      names : Names a.ty d i b n x f item known.item_formed known.item_free start around known.comes k (by_name q)
      names = names_by_name a.ty d i b n x f item known.item_formed known.item_free start around known.comes k q r.behind_origins r.builder_origin r.number_origin r.formed r.forms

      first_answers : origin (sink e) (by_name q) ≡ grafted b.sym.0 (own_paths start)
      first_answers =
          first_gives h k (by_name q) cl.1 (λ y. nb (inr (inl y))) (λ y. nn (inr (inl y))) r.types first_placed.typed names

      second_answers : origin (sink g) (by_name q) ≡ grafted b.sym.0 (own_paths start)
      second_answers =
          second_gives h k (by_name q) cl.2 (λ y. nb (inr (inr y))) (λ y. nn (inr (inr y))) r.types second_placed.typed names

      taken_same : takes c p ≡ takes c q
      taken_same = taken_free c p q origins

      apart : (y z : ExprTree) → Apart (takes c p) (takes y p) → ((s : ℕ) (w : Path) → takes z q s w ≡ true → ((s ≢ d) × (takes y p s w ≡ true)) ⊎ (s ≡ b.sym.0)) → (s : ℕ) (w : Path) → takes c q s w ≡ true → takes z q s w ≡ true → ⊥
      apart y z parts to s w j l = by (to s w l)
        where
          by : ((s ≢ d) × (takes y p s w ≡ true)) ⊎ (s ≡ b.sym.0) → ⊥
          by (inl t) = parts.apart s w (ap (λ (t : Taken). t s w) taken_same ∙ j) t.1
          by (inr t) = nb (inl (subst (IsFree c) t (taken_named c q s w j)))

      -- each arm takes all of the consumer's builder, and else what the other's takes
      builder_path : (s : ℕ) (w : Path) (y : ExprTree) → s ≡ b.sym.0 → takes y q s w ≡ true → is_builder_path (own_paths start) w ≡ true
      builder_path s w y e t =
          subst (λ o. is_builder_path o w ≡ true) (ap (λ j. origin_of_name j q) e ∙ ap known_origin r.builder_origin) (taken_builds y q s w t)

      across : (y z : ExprTree) → Sunk h k p q y → Sunk h k p q z → ((s : ℕ) (w : Path) → takes y p s w ≡ takes z p s w) → (s : ℕ) (w : Path) → takes (sink y) q s w ≡ true → takes (sink z) q s w ≡ true
      across y z u v same s w t = by (u.to s w t)
        where
          by : ((s ≢ d) × (takes y p s w ≡ true)) ⊎ (s ≡ b.sym.0) → takes (sink z) q s w ≡ true
          by (inl l) = v.back s w l.0 (sym (same s w) ∙ l.1)
          by (inr e) = subst (λ j. takes (sink z) q j w ≡ true) (sym e) (v.whole w (builder_path s w (sink y) e t))

      alike : (s : ℕ) (w : Path) → takes (sink e) q s w ≡ takes (sink g) q s w
      alike s w =
          same_truth (takes (sink e) q s w) (takes (sink g) q s w) (across e g one other m.splits.5.alike s w)
          (across g e other one (λ t y. sym (m.splits.5.alike t y)) s w)

      Was : ℕ → Path → Type 0
      Was s y = ((s ≢ d) × (takes (three w if_else c e g) p s y ≡ true)) ⊎ (s ≡ b.sym.0)

      to : (s : ℕ) (y : Path) → (takes c q s y ≡ true) ⊎ ((takes (sink e) q s y || takes (sink g) q s y) ≡ true) → Was s y
      to s y (inl j) =
          inl ((λ t. unnamed c cl.0 none (subst (IsFree c) t (taken_named c q s y j))), or_left (takes c p s y) (takes e p s y || takes g p s y) (ap (λ (t : Taken). t s y) taken_same ∙ j))
      to s y (inr j) = by (or_true (takes (sink e) q s y) (takes (sink g) q s y) j)
        where
          in_first : ((s ≢ d) × (takes e p s y ≡ true)) ⊎ (s ≡ b.sym.0) → Was s y
          in_first (inl t) = inl (t.0, or_right (takes c p s y) (takes e p s y || takes g p s y) (or_left (takes e p s y) (takes g p s y) t.1))
          in_first (inr t) = inr t

          in_second : ((s ≢ d) × (takes g p s y ≡ true)) ⊎ (s ≡ b.sym.0) → Was s y
          in_second (inl t) = inl (t.0, or_right (takes c p s y) (takes e p s y || takes g p s y) (or_right (takes e p s y) (takes g p s y) t.1))
          in_second (inr t) = inr t

          by : (takes (sink e) q s y ≡ true) ⊎ (takes (sink g) q s y ≡ true) → Was s y
          by (inl l) = in_first (one.to s y l)
          by (inr l) = in_second (other.to s y l)

      back : (s : ℕ) (y : Path) → s ≢ d → (takes c p s y ≡ true) ⊎ ((takes e p s y || takes g p s y) ≡ true) → (takes c q s y || (takes (sink e) q s y || takes (sink g) q s y)) ≡ true
      back s y ne (inl j) = or_left (takes c q s y) (takes (sink e) q s y || takes (sink g) q s y) (sym (ap (λ (t : Taken). t s y) taken_same) ∙ j)
      back s y ne (inr j) = or_right (takes c q s y) (takes (sink e) q s y || takes (sink g) q s y) (by (or_true (takes e p s y) (takes g p s y) j))
        where
          by : (takes e p s y ≡ true) ⊎ (takes g p s y ≡ true) → (takes (sink e) q s y || takes (sink g) q s y) ≡ true
          by (inl l) = or_left (takes (sink e) q s y) (takes (sink g) q s y) (one.back s y ne l)
          by (inr l) = or_right (takes (sink e) q s y) (takes (sink g) q s y) (other.back s y ne l)

  -- ---- what the consumer's body takes is its builder

  no_value_path : (o : Origin) (y : Path) → o ≡ value → is_builder_path o y ≡ true → ⊥
  no_value_path o y e t = let is : is_builder_path value y ≡ true = subst (λ w. is_builder_path w y ≡ true) e t in let z = no_builder_path y in let nothing : ⊥ = cc in nothing

  takes_own : Consumer → (s : ℕ) (y : Path) → takes f consumer_origins s y ≡ true → s ≡ b.sym.0
  takes_own known s y t = by_row (cases_eq s x.sym.0)
    where
      builds : is_builder_path (origin_of_name s consumer_origins) y ≡ true
      builds = taken_builds f consumer_origins s y t

      seen : IsSeen (origin_of_name s consumer_origins)
      seen = kept_seen f consumer_origins s known.body.keeps (taken_named f consumer_origins s y t)

      without_row : Named Origin
      without_row = (n.sym.0, value) ∷ (b.sym.0, own_paths start) ∷ outside around

      without_number : Named Origin
      without_number = (b.sym.0, own_paths start) ∷ outside around

      by_builder : origin_of_name s consumer_origins ≡ origin_of_name s without_number → (s ≡ b.sym.0) ⊎ (s ≢ b.sym.0) → s ≡ b.sym.0
      by_builder e (inl is) = is
      by_builder e (inr ne) =
          let here = e ∙ look_behind s b.sym.0 (own_paths start) (outside around) ne ∙ origin_outside s around in
          let none = seen_no_path (origin_of_name s around) y (subst IsSeen here seen) in
          let some : is_builder_path (from_within (origin_of_name s around)) y ≡ true = subst (λ o. is_builder_path o y ≡ true) here builds in
          let nothing : ⊥ = cc in absurd nothing

      by_number : origin_of_name s consumer_origins ≡ origin_of_name s without_row → (s ≡ n.sym.0) ⊎ (s ≢ n.sym.0) → s ≡ b.sym.0
      by_number e (inl is) = let found : look_for s without_row ≡ Some value = rw (eq-eqb s n.sym.0 is) refl in absurd (no_value_path (origin_of_name s consumer_origins) y (e ∙ ap known_origin found) builds)
      by_number e (inr ne) = by_builder (e ∙ look_behind s n.sym.0 value without_number ne) (cases_eq s b.sym.0)

      by_row : (s ≡ x.sym.0) ⊎ (s ≢ x.sym.0) → s ≡ b.sym.0
      by_row (inl is) = let found : look_for s consumer_origins ≡ Some value = rw (eq-eqb s x.sym.0 is) refl in absurd (no_value_path (origin_of_name s consumer_origins) y (ap known_origin found) builds)
      by_row (inr ne) = by_number (look_behind s x.sym.0 value without_row ne) (cases_eq s n.sym.0)

  -- ---- the merge

  sinks_merge : Consumer → (w c : At) (v : ExprTree) → uses v d ≡ 0 → Sinks (two w merge (leaf c (name d)) v)
  sinks_merge known w c v none h k p q cl nb nn r m = record {
    placed =
        let_placed node n number rest k q place_type builder value from_number known.note known.number_note number_placed rest_placed
        (record { apart = λ s y e l. number_takes s y e })
        (record { all = λ y e. absurd (no_value_path value y refl e) });
    comes = ap (λ o. origin rest ((n.sym.0, o) ∷ q)) from_number ∙ ap (λ o. origin f ((x.sym.0, o) ∷ q1)) from_value ∙ sym (origin_free f consumer_origins q2 body_origins) ∙ known.comes;
    to = λ s y e. to s y (or_true (takes number q s y) (without n.sym.0 (takes rest q1) s y) (sym (let_taken node n number rest q value from_number s y) ∙ e));
    back = λ s y ne e. let_taken node n number rest q value from_number s y ∙ back s y ne (or_true (takes (leaf c (name d)) p s y) (takes v p s y) e);
    whole = λ y e.
        let_taken node n number rest q value from_number b.sym.0 y
        ∙ or_right (takes number q b.sym.0 y) (without n.sym.0 (takes rest q1) b.sym.0 y)
        (else_without n.sym.0 b.sym.0 y (takes rest q1) (λ t. known.builder_number (sym t))
        (let_taken node x v f q1 value from_value b.sym.0 y
        ∙ or_right (takes v q1 b.sym.0 y) (without x.sym.0 (takes f q2) b.sym.0 y)
        (else_without x.sym.0 b.sym.0 y (takes f q2) (λ t. known.builder_row (sym t)) (sym (ap (λ (t : Taken). t b.sym.0 y) body_taken) ∙ known.all.all y e))));
  }
    where
      node : At
      node = at_of w a.ty

      number : ExprTree
      number = leaf (at_of w (Is place_type)) (name i)

      rest : ExprTree
      rest = let_in node x v f

      k1 : Types
      k1 = (n.sym.0, place_type) ∷ k

      q1 : Named Origin
      q1 = (n.sym.0, value) ∷ q

      k2 : Types
      k2 = (x.sym.0, item) ∷ k1

      q2 : Named Origin
      q2 = (x.sym.0, value) ∷ q1

      not_d : IsFree v d → ⊥
      not_d = unnamed v cl.1 none

      not_b : IsFree v b.sym.0 → ⊥
      not_b t = nb (inr t)

      not_n : IsFree v n.sym.0 → ⊥
      not_n t = nn (inr t)

      value_placed : IsPlaced v h p item
      value_placed =
          record {
            formed = m.formed;
            forms = m.forms;
            typed = merged_typed w c d v h item m.typed;
            keeps = m.keeps.1;
            splits = m.splits.1;
            noted = m.noted.1;
          }

      value_origins : AgreeOn (IsFree v) p q1
      value_origins = agree_after (IsFree v) p q q1 (agree_less Else (IsFree v) p q (else_of v not_d not_b) r.origins) (agree_over (IsFree v) n.sym.0 value q not_n)

      formed1 : AreFormed k1
      formed1 = formed_bind k n.sym.0 place_type tt r.formed

      forms1 : NamesHaveForms q1 k1
      forms1 = (forms_bind q k n.sym.0 value place_type tt r.forms)

      there : IsPlaced v k1 q1 item
      there =
          placed_free v h k1 p q1 item (agree_after (IsFree v) h k k1 (agree_less Else (IsFree v) h k (else_of v not_d not_b) r.types) (agree_over (IsFree v) n.sym.0 place_type k not_n))
          value_origins formed1 forms1 value_placed

      from_value : origin v q1 ≡ value
      from_value = free_origin (origin v q1) item known.item_formed known.item_free (origin_forms v q1 k1 item there.typed there.formed there.forms)

      body_origins : AgreeOn (IsFree f) consumer_origins q2
      body_origins =
          agree_bind (λ s. IsFree f s × (s ≢ x.sym.0)) (IsFree f) x.sym.0 value _ q1 (λ s y ne. (y, ne))
          (agree_bind Behind (λ s. IsFree f s × (s ≢ x.sym.0)) n.sym.0 value _ q (λ s y ne. (y.0, y.1, ne)) r.behind_origins)

      body_names : AgreeOn (IsFree f) consumer_types k2
      body_names =
          agree_bind (λ s. IsFree f s × (s ≢ x.sym.0)) (IsFree f) x.sym.0 item _ k1 (λ s y ne. (y, ne))
          (agree_bind Behind (λ s. IsFree f s × (s ≢ x.sym.0)) n.sym.0 place_type _ k (λ s y ne. (y.0, y.1, ne)) r.behind_types)

      body : IsPlaced f k2 q2 builder
      body =
          placed_free f consumer_types k2 consumer_origins q2 builder body_names body_origins (formed_bind k1 x.sym.0 item known.item_formed formed1)
          ((forms_bind q1 k1 x.sym.0 value item known.item_free forms1)) known.body

      body_taken : takes f consumer_origins ≡ takes f q2
      body_taken = taken_free f consumer_origins q2 body_origins

      own : (s : ℕ) (y : Path) → takes f q2 s y ≡ true → s ≡ b.sym.0
      own s y e = takes_own known s y (ap (λ (t : Taken). t s y) body_taken ∙ e)

      rest_placed : IsPlaced rest k1 q1 builder
      rest_placed =
          let_placed node x v f k1 q1 item builder value from_value known.note known.row_note there body
          (record { apart = λ s y e l. not_b (subst (IsFree v) (own s y (without_is x.sym.0 s y (takes f q2) l).1) (taken_named v q1 s y e)) })
          (record { all = λ y e. absurd (no_value_path value y refl e) })

      from_number : origin number q ≡ value
      from_number = ap known_origin r.number_origin

      number_placed : IsPlaced number k q place_type
      number_placed = record { formed = r.formed; forms = r.forms; typed = r.number_type; keeps = subst IsSeen (sym from_number) tt; splits = tt; noted = (place_type, refl, r.number_type) }

      number_takes : (s : ℕ) (y : Path) → takes number q s y ≡ true → ⊥
      number_takes s y e = let z = chain_takes_none (i, []) q s y false from_number in let nothing : ⊥ = cc in nothing

      value_same : takes v p ≡ takes v q1
      value_same = taken_free v p q1 value_origins

      to : (s : ℕ) (y : Path) → (takes number q s y ≡ true) ⊎ (without n.sym.0 (takes rest q1) s y ≡ true) → ((s ≢ d) × (takes (two w merge (leaf c (name d)) v) p s y ≡ true)) ⊎ (s ≡ b.sym.0)
      to s y (inl e) = absurd (number_takes s y e)
      to s y (inr e) =
          let l = without_is n.sym.0 s y (takes rest q1) e in
          by (or_true (takes v q1 s y) (without x.sym.0 (takes f q2) s y) (sym (let_taken node x v f q1 value from_value s y) ∙ l.1))
        where
          by : (takes v q1 s y ≡ true) ⊎ (without x.sym.0 (takes f q2) s y ≡ true) → ((s ≢ d) × (takes (two w merge (leaf c (name d)) v) p s y ≡ true)) ⊎ (s ≡ b.sym.0)
          by (inl t) =
              inl ((λ u. not_d (subst (IsFree v) u (taken_named v q1 s y t))), or_right (takes (leaf c (name d)) p s y) (takes v p s y) (ap (λ (u : Taken). u s y) value_same ∙ t))
          by (inr t) = inr (own s y (without_is x.sym.0 s y (takes f q2) t).1)

      back : (s : ℕ) (y : Path) → s ≢ d → (takes (leaf c (name d)) p s y ≡ true) ⊎ (takes v p s y ≡ true) → (takes number q s y || without n.sym.0 (takes rest q1) s y) ≡ true
      back s y ne (inl e) = absurd (ne (taken_named (leaf c (name d)) p s y e))
      back s y ne (inr e) =
          let t : takes v q1 s y ≡ true = sym (ap (λ (u : Taken). u s y) value_same) ∙ e in
          or_right (takes number q s y) (without n.sym.0 (takes rest q1) s y)
          (else_without n.sym.0 s y (takes rest q1) (λ u. not_n (subst (IsFree v) (sym u) (taken_named v q1 s y t)))
          (let_taken node x v f q1 value from_value s y ∙ or_left (takes v q1 s y) (without x.sym.0 (takes f q2) s y) t))

  -- ---- the producer's body

  abbrev Both : Consumer → ExprTree → Type 0
  Both known g = Gives known g × Sinks g

  pub sinks_all : Consumer → (g : ExprTree) → is_spine d g ≡ true → Sinks g
  sinks_all known g h =
      (spine_by d (Both known) (λ w. (name_answers a.ty d i b n x f item known.item_formed known.item_free start around known.comes w, sinks_name known w))
      (λ w z v g none k. (let_answers a.ty d i b n x f item known.item_formed known.item_free start around known.comes w z v g none k.0, sinks_let known w z v g none k.1))
      (λ w c e g none k l. (if_answers a.ty d i b n x f item known.item_formed known.item_free start around known.comes w c e g none k.0 l.0, sinks_if known w c e g none k.0 l.0 k.1 l.1))
      (λ w c v none. (merge_answers a.ty d i b n x f item known.item_formed known.item_free start around known.comes w c v none, sinks_merge known w c v none)) g h).1
