-- A loop over a `zip` of which a leg is the list that another loop makes may be rewritten to one loop over all legs.
use Rattle.std.proofs.Common.{◌≡◌, ℕ, suc, ◌+◌, ◌*◌, ◌≤◌, ◌<◌, ◌^◌, nat_le, true, ◌&&◌, Option, Some, None, refl, ap, sym, subst, ◌∙◌, arith}
use Rattle.std.proofs.lemmas.Bool.{leb-true}
use Rattle.weld_tree.specs.declared.binder.Binder.{Binder}
use Rattle.weld_tree.specs.TypeTree.{TypeTree, TypeTrees, scalar, vec, struct, dict, build, list, no_types, more_types, type_nodes, types_nodes, type_depth}
use Rattle.weld_tree.specs.ExprTree.{At, ExprTree, leaf, one, two, three, many, let_in, loop, iterate, LegTree, whole, LegTrees, no_legs, more_legs, fresh, finish}
use Rattle.weld_tree.specs.Program.{loops}
use Rattle.weld_meaning.specs.Names.{put}
use Rattle.weld_meaning.proofs.PartsGood.{KeyLaws}
use Rattle.weld_rewriting.specs.Replacing.{MayReplace}
use Rattle.weld_rewriting.specs.Rewriting.{Rewrites}
use Rattle.weld_rewriting.specs.Tidy.{IsTidy}
use Rattle.weld_rewriting.specs.Within.{legs}
use Rattle.weld_rewriting.proofs.Nodes.{may_in_turn}
use Rattle.weld_substitution.proofs.Following.{and_true}
use Rattle.weld_substitution.proofs.PutCounts.{put_counted}
use Rattle.weld_print.specs.Spellable.{IsSpellable}
use Rattle.weld_substitution.specs.Uses.{uses}
use Rattle.weld_vertical.specs.Sinking.{sunk, fused}
use Rattle.weld_vertical.proofs.Spine.{ends_by, spine_of_ends, sunk_counted}
use Rattle.weld_vertical.proofs.SinkRule.{consumer_rewrites}
use Rattle.weld_horizontal.specs.Twice.{items, count}
use Rattle.weld_vertical_zip.specs.Zipping.{legs_behind, types_behind, is_made_leg, Around, first_made, widened, rows_leg, is_within_limits, are_several, fits_around, is_zipped, joined_by, joined, unzipped}
use Rattle.weld_vertical_zip.proofs.Recognised.{leg_by}
use Rattle.weld_vertical_zip.proofs.ZippingSplicing.{found_of, items_behind, count_together, several_items, loops_together, legs_together, spellable_apart, spellable_together}
use Rattle.weld_vertical_zip.proofs.MadeRows.{made_small}
use Rattle.weld_vertical_zip.proofs.Splice.{Splice, Simple, places, produced, pattern, row, wide, answer, row_small, body_once, counted, Tidily, tidily, near, wide_spellable, answer_tidy, is_one}
use Rattle.weld_vertical_zip.proofs.SplicePlaced.{known, answer_placed, answer_taken}
use Rattle.weld_vertical_zip.proofs.SpliceMeans.{answer_means}

-- ---- it may be rewritten

replaces : KeyLaws → (c : Splice) → Simple c → IsTidy (pattern c) → MayReplace (answer c) (pattern c)
replaces laws c simple tidy =
    let w = tidily c tidy in
    record {
      same_origin = λ h. refl;
      same_chain = λ y h. let nothing : ⊥ = cc in absurd nothing;
      placed = λ types around t q. answer_placed c types around t q (known c types around t q) simple w;
      taken = λ types around t q. answer_taken c types around t q (known c types around t q);
      means = λ types around t env q fit. answer_means c simple w laws types around t q (known c types around t q) env fit;
    }

spells : (c : Splice) → Simple c → Tidily c → IsSpellable (pattern c) → IsSpellable (fused (answer c))
spells c simple w h =
    let k = spellable_apart c.bs (more_legs (whole (produced c)) c.zs) h.0 in
    let q = k.1.0.1 in
    let spine = spine_of_ends c.d.sym.0 (wide c) (counted c simple w.row_other).ends ((counted c simple w.row_other).use_count ∙ body_once c simple w.row_other) in (
      spellable_together c.bs (legs_behind c.ks c.zs) k.0 (spellable_together c.ks c.zs q.0 k.1.1),
      h.1,
      h.2,
      q.3,
      tt,
      (sunk_counted c.a.ty c.d.sym.0 c.b.sym.0 c.i.sym.0 c.n c.x c.f (wide c) spine.0 spine.1).spellable h.3 h.4 (wide_spellable c simple w q.5) h.5,
    )

splice_rewrites : KeyLaws → (c : Splice) → Simple c → IsTidy (pattern c) → Rewrites (fused (answer c)) (pattern c)
splice_rewrites laws c simple tidy =
    let w = tidily c tidy in
    let k = near c simple w in
    let r = consumer_rewrites laws (answer c) (answer_tidy c simple tidy) (is_one c simple w) in
    record {
      replaces = may_in_turn (fused (answer c)) (answer c) (pattern c) r.replaces (replaces laws c simple tidy);
      within = record {
        binds = λ s. omega (arith, r.within.binds s, k.binds s);
        names = λ s h. k.names s (r.within.names s h);
        no_more_loops = omega (arith, r.within.no_more_loops, k.same_loops);
        no_more_legs = omega (arith, r.within.no_more_legs, k.same_legs);
        no_more_binders = omega (arith, r.within.no_more_binders, k.same_binders);
        well_made = λ h. r.within.well_made (k.well_made h);
        spellable = spells c simple w;
      };
    }

-- ---- one loop and one leg less

nothing_more : (m k : ℕ) → k ≡ 0 → m * k ≡ 0
nothing_more m k h = ap (λ z. m * z) h ∙ omega arith

module _ (c : Splice) where
  -- the one loop's body
  abbrev pub whole_body : ExprTree → ExprTree
  whole_body g = sunk c.a.ty c.b.sym.0 c.i.sym.0 c.n c.x c.f (widened c.a.place c.d.sym.0 c.r.sym.0 (places c) (put c.r.sym.0 (row c) g))

  put_loops : (v : ExprTree) → loops (put c.r.sym.0 (row c) v) ≡ loops v
  put_loops v = let more = nothing_more (uses v c.r.sym.0) (loops (row c)) (row_small c).no_loops in omega (arith, (put_counted v c.r.sym.0 (row c)).loop_count, more)

  put_legs : (v : ExprTree) → legs (put c.r.sym.0 (row c) v) ≡ legs v
  put_legs v = let more = nothing_more (uses v c.r.sym.0) (legs (row c)) (row_small c).no_legs in omega (arith, (put_counted v c.r.sym.0 (row c)).leg_count, more)

  module _ (simple : Simple c) where
    held : (loops (whole_body c.g) ≡ loops c.g + loops c.f) × (legs (whole_body c.g) ≡ legs c.g + legs c.f)
    held =
        ends_by c.d.sym.0 (λ g. (loops (whole_body g) ≡ loops g + loops c.f) × (legs (whole_body g) ≡ legs g + legs c.f))
        (λ a z v h none k. (omega (arith, put_loops v, k.0), omega (arith, put_legs v, k.1)))
        (λ a o v none.
        let m = made_small c.a.place c.r.sym.0 (places c) (put c.r.sym.0 (row c) v) c.few in
        (omega (arith, put_loops v, m.loop_count), omega (arith, put_legs v, m.leg_count)))
        c.g simple.ends simple.once

    one_loop_less : loops (pattern c) ≡ suc (loops (fused (answer c)))
    one_loop_less =
        omega (arith, held.0, loops_together c.bs (more_legs (whole (produced c)) c.zs), loops_together c.bs (legs_behind c.ks c.zs), loops_together c.ks c.zs)

    one_leg_less : legs (pattern c) ≡ suc (legs (fused (answer c)))
    one_leg_less =
        omega (arith, held.1, legs_together c.bs (more_legs (whole (produced c)) c.zs), legs_together c.bs (legs_behind c.ks c.zs), legs_together c.ks c.zs)

-- ---- which loops the test recognises

some_nodes : (t : TypeTree) → 1 ≤ type_nodes t
some_nodes (scalar k) = omega arith
some_nodes (vec t) = omega arith
some_nodes (struct ts) = omega arith
some_nodes (dict k v) = omega arith
some_nodes (build b) = omega arith

count_nodes : (us : TypeTrees) → count us ≤ types_nodes us
count_nodes no_types = omega arith
count_nodes (more_types u us) = omega (arith, some_nodes u, count_nodes us)

pub few_of : (us : TypeTrees) → is_within_limits (struct us) ≡ true → count us < 10 ^ 9
few_of us h =
    let k : type_nodes (struct us) ≤ 256 = leb-true (type_nodes (struct us)) 256 (and_true (nat_le (type_depth (struct us)) 16) (nat_le (type_nodes (struct us)) 256) h).1 in
    omega (arith, k, count_nodes us)

pub several_of : (bs zs : LegTrees) (l : LegTree) → are_several (legs_behind bs (more_legs l zs)) ≡ true → 1 ≤ count (items bs) + count (items zs)
several_of bs zs l h =
    let k = several_items (legs_behind bs (more_legs l zs)) h in
    let same = ap count (items_behind bs (more_legs l zs)) in
    omega (arith, k, same, count_together (items bs) (items (more_legs l zs)))

module _ (Q : ExprTree → ExprTree → Type 0) (at : (c : Splice) → Simple c → Q (pattern c) (answer c)) where
  around_by : (a : At) (e : ExprTree) (b n x : Binder) (f : ExprTree) (bs zs : LegTrees) (l : LegTree) → is_made_leg l ≡ true → are_several (legs_behind bs (more_legs l zs)) ≡ true → fits_around (Some (record { before = bs; leg = l; after = zs })) ≡ true → Q (loop a (legs_behind bs (more_legs l zs)) e b n x f) (loop a (more_legs (rows_leg a.place (record { before = bs; leg = l; after = zs })) no_legs) e b n x f)
  around_by a e b n x f bs zs l h =
      leg_by
      (λ u.
      are_several (legs_behind bs (more_legs u zs)) ≡ true → fits_around (Some (record { before = bs; leg = u; after = zs })) ≡ true
      → Q (loop a (legs_behind bs (more_legs u zs)) e b n x f) (loop a (more_legs (rows_leg a.place (record { before = bs; leg = u; after = zs })) no_legs) e b n x f))
      (λ m p o item ks d i r g ends once some few.
      at (record {
        a = a;
        m = m;
        p = p;
        o = o;
        item = item;
        bs = bs;
        ks = ks;
        zs = zs;
        d = d;
        i = i;
        r = r;
        g = g;
        e = e;
        b = b;
        n = n;
        x = x;
        f = f;
        several = several_of bs zs (whole (one m finish (loop p ks (leaf o (fresh (list item))) d i r g))) some;
        few = few_of (types_behind (items bs) (types_behind (items ks) (items zs))) few;
      }) (record { ends = ends; once = once }))
      l h

  loop_by : (a : At) (ls : LegTrees) (e : ExprTree) (b n x : Binder) (f : ExprTree) → (are_several ls && fits_around (first_made ls)) ≡ true → Q (loop a ls e b n x f) (joined_by a ls e b n x f (first_made ls))
  loop_by a ls e b n x f h = let k = and_true (are_several ls) (fits_around (first_made ls)) h in by (first_made ls) refl k.0 k.1
    where
      by : (o : Option Around) → first_made ls ≡ o → are_several ls ≡ true → fits_around o ≡ true → Q (loop a ls e b n x f) (joined_by a ls e b n x f o)
      by None q some fits = let nothing : ⊥ = cc in absurd nothing
      by (Some s) q some fits =
          let w = found_of ls s q in
          subst (λ ms. Q (loop a ms e b n x f) (loop a (more_legs (rows_leg a.place s) no_legs) e b n x f)) (sym w.legs_are)
          (around_by a e b n x f s.before s.after s.leg w.made (sym (ap are_several w.legs_are) ∙ some) fits)

  pub zipped_by : (e : ExprTree) → is_zipped e ≡ true → Q e (joined e)
  zipped_by (leaf a l) h = let nothing : ⊥ = cc in absurd nothing
  zipped_by (one a o e) h = let nothing : ⊥ = cc in absurd nothing
  zipped_by (two a o e f) h = let nothing : ⊥ = cc in absurd nothing
  zipped_by (three a o c e f) h = let nothing : ⊥ = cc in absurd nothing
  zipped_by (many a o es) h = let nothing : ⊥ = cc in absurd nothing
  zipped_by (let_in a b e f) h = let nothing : ⊥ = cc in absurd nothing
  zipped_by (loop a ls e b n x f) h = loop_by a ls e b n x f h
  zipped_by (iterate a e b f) h = let nothing : ⊥ = cc in absurd nothing

-- ---- the laws

pub zipped_rewrites : KeyLaws → (e : ExprTree) → IsTidy e → is_zipped e ≡ true → Rewrites (unzipped e) e
zipped_rewrites laws e tidy h = zipped_by (λ d j. IsTidy d → Rewrites (fused j) d) (λ c simple tidy. splice_rewrites laws c simple tidy) e h tidy

pub zipped_loops : (e : ExprTree) → is_zipped e ≡ true → loops e ≡ suc (loops (unzipped e))
zipped_loops = zipped_by (λ d j. loops d ≡ suc (loops (fused j))) (λ c simple. one_loop_less c simple)

pub zipped_legs : (e : ExprTree) → is_zipped e ≡ true → legs e ≡ suc (legs (unzipped e))
zipped_legs = zipped_by (λ d j. legs d ≡ suc (legs (fused j))) (λ c simple. one_leg_less c simple)
