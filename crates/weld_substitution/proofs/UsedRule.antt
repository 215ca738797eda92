-- A `let` whose name is used once, on the way, where the value may stand, may be rewritten to its body with the value put there.
use Rattle.std.proofs.Common.{◌≡◌, ◌≢◌, ℕ, ◌+◌, ◌*◌, ◌==◌, Bool, true, false, not, ◌||◌, ◌∷◌, Option, Some, None, length, refl, ap, sym, subst, ◌∙◌, eqb-true, arith, length-append, ◌⊎◌, inl, inr}
use Rattle.weld_tree.specs.declared.binder.Binder.{Binder}
use Rattle.weld_tree.specs.declared.known.Known.TheVariants.{Is}
use Rattle.weld_tree.specs.TypeTree.{TypeTree, TypeTrees, scalar, vec, struct, dict, build, no_types, more_types}
use Rattle.weld_tree.specs.Types.{IsBuilderFree, AreBuilderFree}
use Rattle.weld_tree.specs.ExprTree.{At, ExprTree, leaf, one, two, three, many, let_in, loop, iterate}
use Rattle.weld_tree.specs.Program.{loops, bound}
use Rattle.weld_builders.specs.Outcome.{Outcome, done, fault, stuck, and_then}
use Rattle.weld_meaning.specs.Environment.{Named}
use Rattle.weld_meaning.specs.Thing.{Thing}
use Rattle.weld_meaning.specs.Typing.{Types, HasType}
use Rattle.weld_meaning.specs.ThingType.{EnvFits}
use Rattle.weld_meaning.specs.Evaluation.{Env, eval}
use Rattle.weld_meaning.specs.Meaning.{GivesOrFaults}
use Rattle.weld_meaning.specs.Origin.{Path, Origin, value, origin}
use Rattle.weld_meaning.specs.Available.{chain_of, takes, without}
use Rattle.weld_meaning.specs.Names.{IsFree, put, Binds, IsClear}
use Rattle.weld_meaning.proofs.OneType.{one_type}
use Rattle.weld_meaning.proofs.WellFormed.{type_formed}
use Rattle.weld_meaning.proofs.OriginTypes.{origin_forms}
use Rattle.weld_meaning.proofs.Putting.{put_law}
use Rattle.weld_meaning.proofs.PartsGood.{KeyLaws}
use Rattle.weld_meaning.proofs.NeverStuck.{Of, never_stuck}
use Rattle.weld_check_types.specs.Notes.{AreNoted}
use Rattle.weld_types.specs.Tests.{is_builder_free, are_builder_free}
use Rattle.weld_rewriting.specs.Placed.{IsPlaced}
use Rattle.weld_rewriting.specs.Within.{times, legs, StaysWithin}
use Rattle.weld_rewriting.specs.Tidy.{IsTidy}
use Rattle.weld_rewriting.specs.Rewriting.{Rewrites}
use Rattle.weld_rewriting.proofs.Counts.{times-append}
use Rattle.weld_rewriting.proofs.Forms.{free_origin}
use Rattle.weld_rewriting.proofs.Parts.{value_of_let, body_of_let}
use Rattle.weld_substitution.specs.Uses.{uses}
use Rattle.weld_substitution.specs.declared.put_anywhere.spot.Spot.{Spot}
use Rattle.weld_substitution.specs.declared.put_anywhere.spot.Spot.TheVariants.{Field, Other}
use Rattle.weld_substitution.specs.Redex.{is_chain, is_plain, spot_of, has_loop, noted, is_known_value, may_stand, stands, is_used_well}
use Rattle.weld_substitution.proofs.Bindings.{binding_first}
use Rattle.weld_substitution.proofs.Clear.{clear_of}
use Rattle.weld_substitution.proofs.PutOrigins.{origin_put}
use Rattle.weld_substitution.proofs.PutTypes.{type_put, noted_put}
use Rattle.weld_substitution.proofs.PutCounts.{put_counted}
use Rattle.weld_substitution.proofs.PutMade.{put_named, put_made, put_spellable}
use Rattle.weld_substitution.proofs.Chains.{chain_by, or_true}
use Rattle.weld_substitution.proofs.Following.{and_true, or_left, or_right, same_truth}
use Rattle.weld_substitution.proofs.Way.{Way, way_of}
use Rattle.weld_substitution.proofs.Gaining.{Gains, Free, without_is, else_without}
use Rattle.weld_substitution.proofs.WayRules.{On, way_gains, way_keeps}
use Rattle.weld_substitution.proofs.WaySplits.{way_splits}
use Rattle.weld_substitution.proofs.WayMeans.{GivesNone, way_none}
use Rattle.weld_substitution.proofs.PlainRule.{plain_rewrites}

-- ---- what the test says

chain_plain : (v : ExprTree) (c : ℕ × Path) → chain_of v ≡ Some c → is_plain v ≡ true
chain_plain v c k = (chain_by (λ x y. (is_plain x ≡ true) × (is_chain x ≡ true)) (λ a s. (refl, refl)) (λ a n x y m f. (f.1, f.1)) v c k).0

-- what isn't plain is no chain
no_chain : (v : ExprTree) → is_plain v ≡ false → chain_of v ≡ None
no_chain v h = by (chain_of v) refl
  where
    by : (m : Option (ℕ × Path)) → chain_of v ≡ m → m ≡ None
    by (Some c) k = let p = chain_plain v c k in let nothing : ⊥ = cc in absurd nothing
    by None k = refl

mutual
  free_of : (t : TypeTree) → is_builder_free t ≡ true → IsBuilderFree t
  free_of (scalar k) e = tt
  free_of (vec t) e = free_of t e
  free_of (struct ts) e = all_free_of ts e
  free_of (dict k t) e = let h = and_true (is_builder_free k) (is_builder_free t) e in (free_of k h.0, free_of t h.1)
  free_of (build b) e = let nothing : ⊥ = cc in nothing

  all_free_of : (ts : TypeTrees) → are_builder_free ts ≡ true → AreBuilderFree ts
  all_free_of no_types e = tt
  all_free_of (more_types t ts) e = let h = and_true (is_builder_free t) (are_builder_free ts) e in (free_of t h.0, all_free_of ts h.1)

-- the note of the node itself
note_there : (v : ExprTree) (g : Types) → AreNoted v g → (t : TypeTree) × (noted v ≡ Is t) × HasType v g t
note_there (leaf a l) g n = n
note_there (one a o e) g n = n.1
note_there (two a o e f) g n = n.2
note_there (three a o e f k) g n = n.3
note_there (many a o es) g n = n.1
note_there (let_in a b e f) g n = n.2
note_there (loop a ls e b x y f) g n = n.3
note_there (iterate a e b f) g n = n.2

-- the way to the use, and where it stands
record Used (s : ℕ) (v f : ExprTree) : Type 0 where
  pub once : uses f s ≡ 1
  pub spot : Spot
  pub way : Way s Other spot f
  pub may : may_stand v spot ≡ true

used_of : (s : ℕ) (v f : ExprTree) → is_used_well s v f ≡ true → Used s v f
used_of s v f h = let k = and_true (uses f s == 1) (stands v (spot_of s Other f)) h in by (eqb-true (uses f s) 1 k.0) (spot_of s Other f) refl k.1
  where
    by : uses f s ≡ 1 → (m : Option Spot) → spot_of s Other f ≡ m → stands v m ≡ true → Used s v f
    by single (Some p) e k = record { once = single; spot = p; way = way_of f s Other p single e; may = k }
    by single None e k = let nothing : ⊥ = cc in absurd nothing

only_fault : {A : Type 0} (P : A → Type 0) (o : Outcome A) → GivesOrFaults P o → GivesNone o → o ≡ fault
only_fault P (done x) h n = absurd (n.none x refl)
only_fault P fault h n = refl
only_fault P stuck h n = absurd h

module _ (a : At) (b : Binder) (v f : ExprTree) (tidy : IsTidy (let_in a b v f)) (u : Used b.sym.0 v f) (none : chain_of v ≡ None) where
  clear : Binds (IsClear b.sym.0 v) f
  clear = clear_of a b v f tidy

  -- ---- what is counted

  used_within : StaysWithin (put b.sym.0 v f) (let_in a b v f)
  used_within =
      let s = b.sym.0 in let c = put_counted f s v in
      record {
        binds = λ t.
            let e : times (bound (put s v f)) t ≡ times (bound f) t + 1 * times (bound v) t = c.binds t ∙ ap (λ n. times (bound f) t + n * times (bound v) t) u.once in
            omega (arith, e, times-append (bound v) (bound f) t);
        names = λ t k. named t (put_named f s v t k);
        no_more_loops = let e : loops (put s v f) ≡ loops f + 1 * loops v = c.loop_count ∙ ap (λ n. loops f + n * loops v) u.once in omega (arith, e);
        no_more_legs = let e : legs (put s v f) ≡ legs f + 1 * legs v = c.leg_count ∙ ap (λ n. legs f + n * legs v) u.once in omega (arith, e);
        no_more_binders =
            let e : length (bound (put s v f)) ≡ length (bound f) + 1 * length (bound v) = c.binder_count ∙ ap (λ n. length (bound f) + n * length (bound v)) u.once in
            omega (arith, e, length-append (bound v) (bound f));
        well_made = λ k. put_made f s v k.0 k.1;
        spellable = λ k. put_spellable f s v k.1 k.2;
      }
    where
      named : (t : ℕ) → IsFree v t ⊎ (IsFree f t × (t ≢ b.sym.0)) → IsFree (let_in a b v f) t
      named t (inl k) = inl k
      named t (inr k) = inr k

  -- ---- in its place

  -- under a field access stands what the note says is no builder
  no_builder : (types : Types) (g : Named Origin) (t : TypeTree) → IsPlaced (let_in a b v f) types g t → u.spot ≡ Field → origin v g ≡ value
  no_builder types g t p e =
      let x = value_of_let a b v f types g t p in
      let n = note_there v types x.noted in
      let may : may_stand v Field ≡ true = subst (λ q. may_stand v q ≡ true) e u.may in
      let known : is_known_value (noted v) ≡ true = (and_true (not (has_loop v)) (is_known_value (noted v)) may).1 in
      let free : is_builder_free n.0 ≡ true = sym (ap is_known_value n.1) ∙ known in
      let same : n.0 ≡ p.typed.0 = one_type v types n.0 p.typed.0 n.2 x.typed in
      free_origin (origin v g) p.typed.0 (type_formed v types p.typed.0 x.typed x.formed) (subst IsBuilderFree same (free_of n.0 free)) (origin_forms v g types p.typed.0 x.typed x.formed x.forms)

  used_placed : (types : Types) (g : Named Origin) (t : TypeTree) → IsPlaced (let_in a b v f) types g t → IsPlaced (put b.sym.0 v f) types g t
  used_placed types g t p =
      let s = b.sym.0 in
      let y = body_of_let a b v f types g t p in
      let later : Types = (s, p.typed.0) ∷ types in
      let o = origin v g in
      let valued = no_builder types g t p in
      let h : Named Origin = (s, o) ∷ g in
      let on : On s v u.spot o none valued g h = record { binding = binding_first s o g; from = refl; keeps = p.keeps.0; splits = p.splits.0 } in
      let free : Free s (takes v g) (takes f h) = record { free = λ w q i ne k. p.splits.2.apart w q i (else_without s w q (takes f h) (λ e. ne (sym e)) k) } in
      record {
        formed = p.formed;
        forms = p.forms;
        typed = type_put f s v p.typed.0 types later t clear (binding_first s p.typed.0 types) p.typed.1 p.typed.3;
        keeps = way_keeps s v u.spot o none valued f Other g h u.way clear on p.keeps.1;
        splits = way_splits s v u.spot o none valued f Other g h u.way clear on free p.splits.1;
        noted = noted_put f s v p.typed.0 types later clear (binding_first s p.typed.0 types) p.typed.1 p.noted.0 y.noted;
      }

  used_taken : (types : Types) (g : Named Origin) (t : TypeTree) → IsPlaced (let_in a b v f) types g t → takes (put b.sym.0 v f) g ≡ takes (let_in a b v f) g
  used_taken types g t p =
      let s = b.sym.0 in
      let o = origin v g in
      let h : Named Origin = (s, o) ∷ g in
      let valued = no_builder types g t p in
      let on : On s v u.spot o none valued g h = record { binding = binding_first s o g; from = refl; keeps = p.keeps.0; splits = p.splits.0 } in
      let m = way_gains s v u.spot o none valued f Other g h u.way clear on in
      λ i w q. same_truth (takes (put s v f) g w q) (takes (let_in a b v f) g w q) (λ k. ahead h w q (m.to w q k)) (λ k. behind h w q m (or_true (takes v g w q) (without s (takes f h) w q) k)) i
    where
      ahead : (h : Named Origin) (w : ℕ) (q : Path) → ((w ≢ b.sym.0) × (takes f h w q ≡ true)) ⊎ (takes v g w q ≡ true) → (takes v g w q || without b.sym.0 (takes f h) w q) ≡ true
      ahead h w q (inl k) = or_right (takes v g w q) (without b.sym.0 (takes f h) w q) (else_without b.sym.0 w q (takes f h) (λ e. k.0 (sym e)) k.1)
      ahead h w q (inr k) = or_left (takes v g w q) (without b.sym.0 (takes f h) w q) k

      behind : (h : Named Origin) (w : ℕ) (q : Path) → Gains b.sym.0 (takes v g) (takes (put b.sym.0 v f) g) (takes f h) → (takes v g w q ≡ true) ⊎ (without b.sym.0 (takes f h) w q ≡ true) → takes (put b.sym.0 v f) g w q ≡ true
      behind h w q m (inl k) = m.whole w q k
      behind h w q m (inr k) = let z = without_is b.sym.0 w q (takes f h) k in m.back w q (λ e. z.0 (sym e)) z.1

  used_means : KeyLaws → (types : Types) (g : Named Origin) (t : TypeTree) (env : Env) → IsPlaced (let_in a b v f) types g t → EnvFits types env → eval (put b.sym.0 v f) env ≡ eval (let_in a b v f) env
  used_means laws types g t env p fit = by (eval v env) refl (never_stuck laws v types p.typed.0 env p.typed.1 p.formed fit).fits
    where
      by : (o : Outcome Thing) → eval v env ≡ o → GivesOrFaults (Of p.typed.0) o → eval (put b.sym.0 v f) env ≡ and_then (eval v env) (λ x. eval f ((b.sym.0, x) ∷ env))
      by (done x) e k = put_law f v b.sym.0 x env clear e ∙ ap (λ o. and_then o (λ x. eval f ((b.sym.0, x) ∷ env))) (sym e)
      by fault e k =
          let q = used_placed types g t p in
          let nothing : GivesNone (eval v env) = record { none = λ x i. let clash : ⊥ = cc in clash } in
          only_fault (Of t) (eval (put b.sym.0 v f) env) (never_stuck laws (put b.sym.0 v f) types t env q.typed q.formed fit).fits (way_none b.sym.0 v u.spot f Other env u.way clear nothing)
          ∙ ap (λ o. and_then o (λ x. eval f ((b.sym.0, x) ∷ env))) (sym e)
      by stuck e k = absurd k

  used_rewrites : KeyLaws → Rewrites (put b.sym.0 v f) (let_in a b v f)
  used_rewrites laws = record {
    replaces = record {
      same_origin = λ g. origin_put f b.sym.0 v (origin v g) g ((b.sym.0, origin v g) ∷ g) clear (binding_first b.sym.0 (origin v g) g) refl;
      same_chain = λ c e. let nothing : ⊥ = cc in absurd nothing;
      placed = used_placed;
      taken = used_taken;
      means = used_means laws;
    };
    within = used_within;
  }

-- a plain value may be put anywhere, and what isn't plain is no chain
pub once_rewrites : KeyLaws → (a : At) (b : Binder) (v f : ExprTree) → IsTidy (let_in a b v f) → is_used_well b.sym.0 v f ≡ true → Rewrites (put b.sym.0 v f) (let_in a b v f)
once_rewrites laws a b v f tidy h = by (is_plain v) refl
  where
    by : (c : Bool) → is_plain v ≡ c → Rewrites (put b.sym.0 v f) (let_in a b v f)
    by true e = plain_rewrites a b v f tidy e laws
    by false e = used_rewrites a b v f tidy (used_of b.sym.0 v f h) (no_chain v e) laws
