-- A `let` of a plain value may be rewritten to its body with the value put for the name.
use Rattle.std.proofs.Common.{◌≡◌, ◌≢◌, ℕ, ◌+◌, ◌*◌, ◌==◌, if◌then◌else◌, Bool, true, false, ◌||◌, ◌∷◌, ◌++◌, Some, length, refl, ap, sym, subst, ◌∙◌, eq-eqb, ne_eqb, eqb-true, arith, length-append, ◌⊎◌, inl, inr}
use Rattle.std.proofs.lemmas.Bool.{cases_eq}
use Rattle.weld_tree.specs.declared.binder.Binder.{Binder}
use Rattle.weld_data.specs.declared.kind.Kind.{Kind}
use Rattle.weld_data.specs.declared.kind.Kind.TheVariants as kinds
use Rattle.weld_tree.specs.TypeTree.{TypeTree, scalar}
use Rattle.weld_tree.specs.Types.{IsBuilderFree, IsBuilder}
use Rattle.weld_tree.specs.ExprTree.{At, ExprTree, let_in}
use Rattle.weld_tree.specs.Program.{loops, bound}
use Rattle.weld_builders.specs.Outcome.{Outcome, done, fault, stuck, and_then}
use Rattle.weld_meaning.specs.Environment.{Named}
use Rattle.weld_meaning.specs.Thing.{Thing}
use Rattle.weld_meaning.specs.Typing.{Types, HasType}
use Rattle.weld_meaning.specs.ThingType.{EnvFits}
use Rattle.weld_meaning.specs.Evaluation.{Env, eval}
use Rattle.weld_meaning.specs.Meaning.{GivesOrFaults}
use Rattle.weld_meaning.specs.Origin.{Path, Origin, value, origin_of_name, known_origin, origin}
use Rattle.weld_meaning.specs.Linear.{IsSeen, Keeps}
use Rattle.weld_meaning.specs.Available.{Taken, is_builder_path, is_below, chain_of, takes, Splits}
use Rattle.weld_meaning.specs.Names.{IsFree, put, Binds, IsClear}
use Rattle.weld_meaning.proofs.WellFormed.{type_formed}
use Rattle.weld_meaning.proofs.OriginTypes.{origin_forms}
use Rattle.weld_meaning.proofs.Putting.{put_law}
use Rattle.weld_meaning.proofs.PartsGood.{KeyLaws}
use Rattle.weld_meaning.proofs.NeverStuck.{Of, never_stuck}
use Rattle.weld_rewriting.specs.Placed.{IsPlaced}
use Rattle.weld_rewriting.specs.Within.{times, legs, StaysWithin}
use Rattle.weld_rewriting.specs.Tidy.{IsTidy}
use Rattle.weld_rewriting.specs.Rewriting.{Rewrites}
use Rattle.weld_rewriting.proofs.Counts.{times-append}
use Rattle.weld_rewriting.proofs.Forms.{free_or_builder, free_origin, chain_value, no_builder_path}
use Rattle.weld_rewriting.proofs.Parts.{value_of_let, body_of_let}
use Rattle.weld_substitution.specs.Uses.{uses}
use Rattle.weld_substitution.specs.Redex.{is_plain}
use Rattle.weld_substitution.proofs.Bindings.{Binding, binding_first}
use Rattle.weld_substitution.proofs.Clear.{clear_of, own_name}
use Rattle.weld_substitution.proofs.PutOrigins.{origin_put}
use Rattle.weld_substitution.proofs.PutTypes.{type_put, noted_put}
use Rattle.weld_substitution.proofs.PutCounts.{put_counted}
use Rattle.weld_substitution.proofs.PutMade.{put_named, put_made, put_spellable}
use Rattle.weld_substitution.proofs.Chains.{chain_named, taken_builds, or_true, plain_by, plain_named}
use Rattle.weld_substitution.proofs.Values.{Still, plain_idle}
use Rattle.weld_substitution.proofs.ValueRules.{still_taken, still_keeps, still_splits}
use Rattle.weld_substitution.proofs.Unnamed.{kept_seen}
use Rattle.weld_substitution.proofs.Following.{Chained, Led, Comes, Tame, put_follows, below_is, is_below_on, taken_by_chain, chain_takes_it, or_left, or_right, same_truth, not_true, builder_there, without_else}
use Rattle.weld_substitution.proofs.BuilderRules.{led_keeps, led_splits}
use Rattle.weld_substitution.proofs.PlainFacts.{chain_leads, builder_hidden, plain_holds, plain_gives}

-- ---- what is counted

pub plain_within : (a : At) (b : Binder) (v f : ExprTree) → is_plain v ≡ true → StaysWithin (put b.sym.0 v f) (let_in a b v f)
plain_within a b v f h =
    let s = b.sym.0 in let n = plain_holds v h in let c = put_counted f s v in
    record {
      binds = λ t.
          let e : times (bound (put s v f)) t ≡ times (bound f) t + uses f s * 0 = c.binds t ∙ ap (λ k. times (bound f) t + uses f s * k) (n.binds t) in
          omega (arith, e, times-append (bound v) (bound f) t);
      names = λ t k. named t (put_named f s v t k);
      no_more_loops = let e : loops (put s v f) ≡ loops f + uses f s * 0 = c.loop_count ∙ ap (λ k. loops f + uses f s * k) n.no_loops in omega (arith, e);
      no_more_legs = let e : legs (put s v f) ≡ legs f + uses f s * 0 = c.leg_count ∙ ap (λ k. legs f + uses f s * k) n.no_legs in omega (arith, e);
      no_more_binders =
          let e : length (bound (put s v f)) ≡ length (bound f) + uses f s * 0 = c.binder_count ∙ ap (λ k. length (bound f) + uses f s * k) n.no_binders in
          omega (arith, e, length-append (bound v) (bound f));
      well_made = λ k. put_made f s v k.0 k.1;
      spellable = λ k. put_spellable f s v k.1 k.2;
    }
  where
    named : (t : ℕ) → IsFree v t ⊎ (IsFree f t × (t ≢ b.sym.0)) → IsFree (let_in a b v f) t
    named t (inl k) = inl k
    named t (inr k) = inr k

-- ---- in its place

-- the rules are kept, and each builder is taken that was
record Kept (a : At) (b : Binder) (v f : ExprTree) (g : Named Origin) : Type 0 where
  pub keeps : Keeps (put b.sym.0 v f) g
  pub splits : Splits (put b.sym.0 v f) g
  pub taken : takes (put b.sym.0 v f) g ≡ takes (let_in a b v f) g

module _ (a : At) (b : Binder) (v f : ExprTree) (tidy : IsTidy (let_in a b v f)) (h : is_plain v ≡ true) where
  clear : Binds (IsClear b.sym.0 v) f
  clear = clear_of a b v f tidy

  -- a value
  kept_value : (types : Types) (g : Named Origin) (t : TypeTree) (p : IsPlaced (let_in a b v f) types g t) → IsBuilderFree p.typed.0 → Kept a b v f g
  kept_value types g t p free =
      let s = b.sym.0 in
      let x = value_of_let a b v f types g t p in
      let formed = type_formed v types p.typed.0 x.typed x.formed in
      let from : origin v g ≡ value = free_origin (origin v g) p.typed.0 formed free (origin_forms v g types p.typed.0 x.typed x.formed x.forms) in
      let later : Named Origin = (s, origin v g) ∷ g in
      let still : Still s v g later = record {
        binding = subst (λ o. Binding s o g later) from (binding_first s (origin v g) g);
        idle = record {
          idle = λ y m.
              let c = plain_named v y h m in
              subst (λ z. origin_of_name z g ≡ value) (sym c.2) (chain_value v c.0 types g p.typed.0 c.1 x.typed x.formed x.forms free);
        };
      } in
      let idle = plain_idle v h in
      record {
        keeps = still_keeps s v idle f g later clear still p.keeps.1;
        splits = still_splits s v idle f g later clear still p.splits.1;
        taken = λ i y q. (ap (λ (T : Taken). T y q) (still_taken s v idle f g later clear still) ∙ sides y q (idle.none g still.idle y q) (nothing_of from later y q still)) i;
      }
    where
      nothing_of : origin v g ≡ value → (later : Named Origin) (y : ℕ) (q : Path) → Still b.sym.0 v g later → (b.sym.0 == y) ≡ true → takes f later y q ≡ false
      nothing_of e later y q r k =
          let same : b.sym.0 ≡ y = eqb-true b.sym.0 y k in
          let here : origin_of_name y later ≡ value = subst (λ z. origin_of_name z later ≡ value) same (ap known_origin r.binding.there) in
          not_true (takes f later y q) (λ m. no_builder (subst (λ o. is_builder_path o q ≡ true) here (taken_builds f later y q m)))
        where
          no_builder : is_builder_path value q ≡ true → ⊥
          no_builder m = let none = no_builder_path q in let nothing : ⊥ = cc in nothing

      sides : (y : ℕ) (q : Path) → takes v g y q ≡ false → ((b.sym.0 == y) ≡ true → takes f ((b.sym.0, origin v g) ∷ g) y q ≡ false) → takes f ((b.sym.0, origin v g) ∷ g) y q ≡ takes (let_in a b v f) g y q
      sides y q e k = by (b.sym.0 == y) refl ∙ ap (λ c. c || (if b.sym.0 == y then false else takes f ((b.sym.0, origin v g) ∷ g) y q)) (sym e)
        where
          by : (c : Bool) → (b.sym.0 == y) ≡ c → takes f ((b.sym.0, origin v g) ∷ g) y q ≡ (if c then false else takes f ((b.sym.0, origin v g) ∷ g) y q)
          by true m = k m
          by false m = refl

  -- a builder: the value is a chain
  kept_chain : (types : Types) (g : Named Origin) (t : TypeTree) (p : IsPlaced (let_in a b v f) types g t) → IsBuilder p.typed.0 → (c : ℕ × Path) → chain_of v ≡ Some c → Kept a b v f g
  kept_chain types g t p builder c k =
      let s = b.sym.0 in
      let x = value_of_let a b v f types g t p in
      let formed = type_formed v types p.typed.0 x.typed x.formed in
      let forms = origin_forms v g types p.typed.0 x.typed x.formed x.forms in
      let o = origin v g in let r = origin_of_name c.0 g in
      let w : Chained s v c.0 c.1 o r = record {
        chain = k;
        other = λ e. own_name a b v f tidy (subst (IsFree v) (sym e) (chain_named v c k));
        leads = sym (chain_leads types g x.formed x.forms v c k p.typed.0 x.typed);
        hidden = builder_hidden o p.typed.0 forms formed builder;
      } in
      let later : Named Origin = (s, o) ∷ g in
      let led : Led s v c.0 c.1 o r w g later = record { binding = binding_first s o g; root = refl; from = refl } in
      let seen : IsSeen r = kept_seen v g c.0 p.keeps.0 (chain_named v c k) in
      let follows = put_follows s v c.0 c.1 o r w f g later clear led in
      let tame : Tame s v c.0 c.1 o r w (takes f later) = record {
        direct = λ q m i j.
            p.splits.2.apart c.0 q (chain_takes_it v c g c.0 q k refl i j) (without_else s v c.0 c.1 o r w s c.0 q (takes f later) w.other m);
        builds = λ q m. subst (λ y. is_builder_path y q ≡ true) (ap known_origin led.binding.there) (taken_builds f later s q m);
      } in
      record {
        keeps = led_keeps s v c.0 c.1 o r w seen f g later clear led p.keeps.1;
        splits = led_splits s v c.0 c.1 o r w seen f g later clear led tame p.keeps.1 p.splits.1;
        taken = λ i y q. same_truth (takes (put s v f) g y q) (takes (let_in a b v f) g y q)
            (λ m. ahead w later y q (follows.to y q m) tame.builds)
            (λ m. behind w later y q follows.back p.splits.3.all (or_true (takes v g y q) (if s == y then false else takes f later y q) m)) i;
      }
    where
      ahead : (w : Chained b.sym.0 v c.0 c.1 (origin v g) (origin_of_name c.0 g)) (later : Named Origin) (y : ℕ) (q : Path) → Comes b.sym.0 v c.0 c.1 (origin v g) (origin_of_name c.0 g) w (takes f later) y q → ((m : Path) → takes f later b.sym.0 m ≡ true → is_builder_path (origin v g) m ≡ true) → (takes v g y q || (if b.sym.0 == y then false else takes f later y q)) ≡ true
      ahead w later y q (inl m) z =
          or_right (takes v g y q) (if b.sym.0 == y then false else takes f later y q) (ap (λ i. if i then false else takes f later y q) (ne_eqb b.sym.0 y (λ e. m.0 (sym e))) ∙ m.1)
      ahead w later y q (inr m) z =
          let builds : is_builder_path (origin_of_name c.0 g) (m.1.0 ++ c.1) ≡ true = builder_there b.sym.0 v c.0 c.1 (origin v g) (origin_of_name c.0 g) w m.1.0 ∙ z m.1.0 m.1.2 in
          let there : is_builder_path (origin_of_name y g) q ≡ true = subst (λ u. is_builder_path (origin_of_name u g) q ≡ true) (sym m.0) (subst (λ u. is_builder_path (origin_of_name c.0 g) u ≡ true) (sym m.1.1) builds) in
          or_left (takes v g y q) (if b.sym.0 == y then false else takes f later y q)
          (chain_takes_it v c g y q k (sym m.0) (subst (λ u. is_below c.1 u ≡ true) (sym m.1.1) (is_below_on m.1.0 c.1)) there)

      behind : (w : Chained b.sym.0 v c.0 c.1 (origin v g) (origin_of_name c.0 g)) (later : Named Origin) (y : ℕ) (q : Path) → ((t : ℕ) (q : Path) → Comes b.sym.0 v c.0 c.1 (origin v g) (origin_of_name c.0 g) w (takes f later) t q → takes (put b.sym.0 v f) g t q ≡ true) → ((m : Path) → is_builder_path (origin v g) m ≡ true → takes f later b.sym.0 m ≡ true) → (takes v g y q ≡ true) ⊎ ((if b.sym.0 == y then false else takes f later y q) ≡ true) → takes (put b.sym.0 v f) g y q ≡ true
      behind w later y q back all (inl m) =
          let z = taken_by_chain v c g y q k m in
          let i = below_is c.1 q z.1 in
          let builds : is_builder_path (origin_of_name c.0 g) (i.0 ++ c.1) ≡ true = subst (λ u. is_builder_path (origin_of_name c.0 g) u ≡ true) i.1 (subst (λ u. is_builder_path (origin_of_name u g) q ≡ true) (sym z.0) z.2) in
          back y q (inr (sym z.0, (i.0, i.1, all i.0 (sym (builder_there b.sym.0 v c.0 c.1 (origin v g) (origin_of_name c.0 g) w i.0) ∙ builds))))
      behind w later y q back all (inr m) = by (cases_eq b.sym.0 y) m
        where
          by : (b.sym.0 ≡ y) ⊎ (b.sym.0 ≢ y) → (if b.sym.0 == y then false else takes f later y q) ≡ true → takes (put b.sym.0 v f) g y q ≡ true
          by (inl e) m = let it : (if b.sym.0 == y then false else takes f later y q) ≡ false = ap (λ i. if i then false else takes f later y q) (eq-eqb b.sym.0 y e) in let nothing : ⊥ = cc in absurd nothing
          by (inr ne) m = back y q (inl ((λ e. ne (sym e)), sym (ap (λ i. if i then false else takes f later y q) (ne_eqb b.sym.0 y ne)) ∙ m))

  not_scalar : (k : Kind) (u : TypeTree) → u ≡ scalar k → IsBuilder u → ⊥
  not_scalar k u e h = subst IsBuilder e h

  kept_builder : (types : Types) (g : Named Origin) (t : TypeTree) (p : IsPlaced (let_in a b v f) types g t) → IsBuilder p.typed.0 → Kept a b v f g
  kept_builder types g t p builder =
      plain_by (λ w. w ≡ v → Kept a b v f g)
      (λ i k x e. absurd (not_scalar k p.typed.0 (subst (λ w. HasType w types p.typed.0) (sym e) p.typed.1).2 builder))
      (λ i x e. absurd (not_scalar kinds.Bool p.typed.0 (subst (λ w. HasType w types p.typed.0) (sym e) p.typed.1) builder))
      (λ w c k e. kept_chain types g t p builder c (subst (λ u. chain_of u ≡ Some c) e k))
      v h refl

  kept : (types : Types) (g : Named Origin) (t : TypeTree) → IsPlaced (let_in a b v f) types g t → Kept a b v f g
  kept types g t p = by (free_or_builder p.typed.0 (type_formed v types p.typed.0 p.typed.1 p.formed))
    where
      by : IsBuilderFree p.typed.0 ⊎ IsBuilder p.typed.0 → Kept a b v f g
      by (inl free) = kept_value types g t p free
      by (inr builder) = kept_builder types g t p builder

  plain_placed : (types : Types) (g : Named Origin) (t : TypeTree) → IsPlaced (let_in a b v f) types g t → IsPlaced (put b.sym.0 v f) types g t
  plain_placed types g t p =
      let k = kept types g t p in
      let y = body_of_let a b v f types g t p in
      let later : Types = (b.sym.0, p.typed.0) ∷ types in
      record {
        formed = p.formed;
        forms = p.forms;
        typed = type_put f b.sym.0 v p.typed.0 types later t clear (binding_first b.sym.0 p.typed.0 types) p.typed.1 p.typed.3;
        keeps = k.keeps;
        splits = k.splits;
        noted = noted_put f b.sym.0 v p.typed.0 types later clear (binding_first b.sym.0 p.typed.0 types) p.typed.1 p.noted.0 y.noted;
      }

  plain_means : KeyLaws → (types : Types) (g : Named Origin) (t : TypeTree) (env : Env) → IsPlaced (let_in a b v f) types g t → EnvFits types env → eval (put b.sym.0 v f) env ≡ eval (let_in a b v f) env
  plain_means laws types g t env p fit = by (eval v env) refl (never_stuck laws v types p.typed.0 env p.typed.1 p.formed fit).fits
    where
      by : (o : Outcome Thing) → eval v env ≡ o → GivesOrFaults (Of p.typed.0) o → eval (put b.sym.0 v f) env ≡ and_then (eval v env) (λ x. eval f ((b.sym.0, x) ∷ env))
      by (done x) e k = put_law f v b.sym.0 x env clear e ∙ ap (λ o. and_then o (λ x. eval f ((b.sym.0, x) ∷ env))) (sym e)
      by fault e k = absurd (plain_gives env v h e)
      by stuck e k = absurd k

  pub plain_rewrites : KeyLaws → Rewrites (put b.sym.0 v f) (let_in a b v f)
  plain_rewrites laws = record {
    replaces = record {
      same_origin = λ g. origin_put f b.sym.0 v (origin v g) g ((b.sym.0, origin v g) ∷ g) clear (binding_first b.sym.0 (origin v g) g) refl;
      same_chain = λ c e. let nothing : ⊥ = cc in absurd nothing;
      placed = plain_placed;
      taken = λ types g t p. (kept types g t p).taken;
      means = plain_means laws;
    };
    within = plain_within a b v f h;
  }
