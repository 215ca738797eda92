-- Where the parts of a node may be replaced, so may the node: nodes of one part to three, and `let`.
use Rattle.std.proofs.Common.{◌≡◌, ℕ, true, false, ◌||◌, ◌==◌, if◌then◌else◌, Option, Some, None, refl, ap, sym, subst, ◌∙◌, ◌∷◌}
use Rattle.weld_tree.specs.declared.binder.Binder.{Binder}
use Rattle.weld_tree.specs.TypeTree.{TypeTree, struct as tuple}
use Rattle.weld_tree.specs.Types.{IsBuilderFree}
use Rattle.weld_tree.specs.ExprTree.{At, ExprTree, one, two, three, let_in, One, neg, not, cast, len, field, finish, started, Two, Three, if_else, select, slice}
use Rattle.weld_builders.specs.Outcome.{and_then}
use Rattle.weld_meaning.specs.Environment.{Named}
use Rattle.weld_meaning.specs.Typing.{Types, HasType}
use Rattle.weld_meaning.specs.Evaluation.{one_thing, two_thing, three_thing, eval}
use Rattle.weld_meaning.specs.Origin.{Path, Origin, value, made, own, outer, named, struct, is_value, field_origin, origin_of_name, one_origin, two_origin, three_origin, origin, by_name}
use Rattle.weld_meaning.specs.Linear.{IsNotMade, OneKeeps, ThreeKeeps, Keeps}
use Rattle.weld_meaning.specs.Available.{chain_of_one, chain_of, chain_takes, takes, Taken, Apart, TakesAll, without, ChainSplits, OneSplits, TwoSplits, ThreeSplits, Splits}
use Rattle.weld_meaning.proofs.WellFormed.{type_formed}
use Rattle.weld_meaning.specs.Forms.{HasForm}
use Rattle.weld_meaning.proofs.OriginTypes.{origin_forms}
use Rattle.weld_meaning.proofs.PartsGood.{KeyLaws}
use Rattle.weld_meaning.proofs.NeverStuck.{Of, never_stuck, fits_bind}
use Rattle.weld_rewriting.specs.Placed.{IsPlaced}
use Rattle.weld_rewriting.specs.Replacing.{MayReplace}
use Rattle.weld_rewriting.proofs.Outcomes.{then_same}
use Rattle.weld_rewriting.proofs.Forms.{free_by_field, chain_field, chain_value, takes_chain, chain_takes_none}
use Rattle.weld_rewriting.proofs.Parts.{noted_at, part_of_one, first_of_two, second_of_two, first_of_three, second_of_three, third_of_three, value_of_let, body_of_let}

-- ---- itself, and one after another

pub may_itself : (e : ExprTree) → MayReplace e e
may_itself e = record {
  same_origin = λ g. refl;
  same_chain = λ c p. p;
  placed = λ types g t p. p;
  taken = λ types g t p. refl;
  means = λ types g t env p fit. refl;
}

pub may_in_turn : (c d e : ExprTree) → MayReplace c d → MayReplace d e → MayReplace c e
may_in_turn c d e r q = record {
  same_origin = λ g. r.same_origin g ∙ q.same_origin g;
  same_chain = λ x p. r.same_chain x (q.same_chain x p);
  placed = λ types g t p. r.placed types g t (q.placed types g t p);
  taken = λ types g t p. r.taken types g t (q.placed types g t p) ∙ q.taken types g t p;
  means = λ types g t env p fit. r.means types g t env (q.placed types g t p) fit ∙ q.means types g t env p fit;
}

-- ---- one part

one_chain : (o : One) (m k : Option (ℕ × Path)) → ((c : ℕ × Path) → m ≡ Some c → k ≡ Some c) → (c : ℕ × Path) → chain_of_one o m ≡ Some c → chain_of_one o k ≡ Some c
one_chain neg m k h c p = p
one_chain not m k h c p = p
one_chain (cast x) m k h c p = p
one_chain len m k h c p = p
one_chain (field n) m k h c p = let f = chain_field n m c p in ap (chain_of_one (field n)) (h f.0 f.1) ∙ ap Some (sym f.2)
one_chain finish m k h c p = p
one_chain (started b) m k h c p = p

chain_splits : (m k : Option (ℕ × Path)) (o r : Origin) → ((c : ℕ × Path) → m ≡ Some c → k ≡ Some c) → r ≡ o → ChainSplits m o → ChainSplits k r
chain_splits m (Some c) o r h e s = tt
chain_splits (Some c) None o r h e s = let f = h c refl in let no : ⊥ = cc in absurd no
chain_splits None None o r h e s = ap is_value e ∙ s

one_splits : (o : One) (d e : ExprTree) (r s : Origin) → ((c : ℕ × Path) → chain_of e ≡ Some c → chain_of d ≡ Some c) → s ≡ r → OneSplits o e r → OneSplits o d s
one_splits neg d e r s h p k = tt
one_splits not d e r s h p k = tt
one_splits (cast x) d e r s h p k = tt
one_splits len d e r s h p k = tt
one_splits (field n) d e r s h p k = chain_splits (chain_of e) (chain_of d) (field_origin n r) (field_origin n s) h (ap (field_origin n) p) k
one_splits finish d e r s h p k = tt
one_splits (started b) d e r s h p k = tt

-- a part that was none and becomes a name with field accesses has a builder-free type, so neither takes any
field_taken : (a : At) (n : ℕ) (d e : ExprTree) → MayReplace d e → (types : Types) (g : Named Origin) (t : TypeTree) → IsPlaced (one a (field n) e) types g t → (s : ℕ) (q : Path) → takes (one a (field n) d) g s q ≡ takes (one a (field n) e) g s q
field_taken a n d e r types g t p s q = by (chain_of e) (chain_of d) refl refl
  where
    part : IsPlaced e types g p.typed.0
    part = part_of_one a (field n) e types g t p

    same : takes d g s q ≡ takes e g s q
    same = ap (λ (x : Taken). x s q) (r.taken types g p.typed.0 part)

    -- the field is a value, so the whole is
    by_value : (c : ℕ × Path) → chain_of d ≡ Some c → chain_of e ≡ None → origin_of_name c.0 g ≡ value
    by_value c k m =
        let us = p.typed.2.0 in
        let typed : HasType e types (tuple us) = subst (HasType e types) p.typed.2.1 p.typed.1 in
        let formed = type_formed (one a (field n) e) types t p.typed p.formed in
        let forms : HasForm (field_origin n (origin e g)) t = origin_forms (one a (field n) e) g types t p.typed p.formed p.forms in
        let is : is_value (field_origin n (origin e g)) ≡ true = subst (λ x. ChainSplits x (field_origin n (origin e g))) m p.splits.1 in
        let free : IsBuilderFree t = free_of (field_origin n (origin e g)) t is forms in
        let whole : IsBuilderFree p.typed.0 = subst IsBuilderFree (sym p.typed.2.1) (free_by_field n us t p.typed.2.2 formed free (type_formed e types (tuple us) typed p.formed)) in
        let there = r.placed types g p.typed.0 part in
        chain_value d c types g p.typed.0 k there.typed p.formed p.forms whole
      where
        free_of : (o : Origin) (u : TypeTree) → is_value o ≡ true → HasForm o u → IsBuilderFree u
        free_of value u h f = f
        free_of made u h f = let no : ⊥ = cc in absurd no
        free_of (own x) u h f = let no : ⊥ = cc in absurd no
        free_of outer u h f = let no : ⊥ = cc in absurd no
        free_of (named x y) u h f = let no : ⊥ = cc in absurd no
        free_of (struct os) u h f = let no : ⊥ = cc in absurd no

    by : (m k : Option (ℕ × Path)) → chain_of e ≡ m → chain_of d ≡ k → chain_takes (chain_of_one (field n) k) g s q (takes d g s q) ≡ chain_takes (chain_of_one (field n) m) g s q (takes e g s q)
    by (Some c) k x y =
        let z : Some c ≡ k = sym (r.same_chain c x) ∙ y in
        subst (λ w. chain_takes (chain_of_one (field n) w) g s q (takes d g s q) ≡ chain_takes (chain_of_one (field n) (Some c)) g s q (takes e g s q)) z refl
    by None (Some c) x y =
        let none = by_value c y x in
        chain_takes_none (c.0, n ∷ c.1) g s q (takes d g s q) none ∙ sym (chain_takes_none c g s q false none) ∙ sym (takes_chain d c g s q false y) ∙ same
    by None None x y = same

one_taken : (a : At) (o : One) (d e : ExprTree) → MayReplace d e → (types : Types) (g : Named Origin) (t : TypeTree) → IsPlaced (one a o e) types g t → (s : ℕ) (q : Path) → takes (one a o d) g s q ≡ takes (one a o e) g s q
one_taken a neg d e r types g t p s q = ap (λ (x : Taken). x s q) (r.taken types g p.typed.0 (part_of_one a neg e types g t p))
one_taken a not d e r types g t p s q = ap (λ (x : Taken). x s q) (r.taken types g p.typed.0 (part_of_one a not e types g t p))
one_taken a (cast k) d e r types g t p s q = ap (λ (x : Taken). x s q) (r.taken types g p.typed.0 (part_of_one a (cast k) e types g t p))
one_taken a len d e r types g t p s q = ap (λ (x : Taken). x s q) (r.taken types g p.typed.0 (part_of_one a len e types g t p))
one_taken a (field n) d e r types g t p s q = field_taken a n d e r types g t p s q
one_taken a finish d e r types g t p s q = ap (λ (x : Taken). x s q) (r.taken types g p.typed.0 (part_of_one a finish e types g t p))
one_taken a (started b) d e r types g t p s q = ap (λ (x : Taken). x s q) (r.taken types g p.typed.0 (part_of_one a (started b) e types g t p))

one_placed : (a : At) (o : One) (d e : ExprTree) → MayReplace d e → (types : Types) (g : Named Origin) (t : TypeTree) → IsPlaced (one a o e) types g t → IsPlaced (one a o d) types g t
one_placed a o d e r types g t p =
    let q = r.placed types g p.typed.0 (part_of_one a o e types g t p) in
    let typed : HasType (one a o d) types t = (p.typed.0, q.typed, p.typed.2) in
    record {
      formed = p.formed;
      forms = p.forms;
      typed = typed;
      keeps = (q.keeps, subst (OneKeeps o) (sym (r.same_origin g)) p.keeps.1);
      splits = (q.splits, one_splits o d e (origin e g) (origin d g) r.same_chain (r.same_origin g) p.splits.1);
      noted = (q.noted, noted_at a (one a o d) (one a o e) types t p.noted.1 p.typed typed);
    }

pub one_may : (a : At) (o : One) (d e : ExprTree) → MayReplace d e → MayReplace (one a o d) (one a o e)
one_may a o d e r = record {
  same_origin = λ g. ap (one_origin o) (r.same_origin g);
  same_chain = one_chain o (chain_of e) (chain_of d) r.same_chain;
  placed = one_placed a o d e r;
  taken = λ types g t p. λ i s q. one_taken a o d e r types g t p s q i;
  means = λ types g t env p fit. ap (λ x. and_then x (one_thing o)) (r.means types g p.typed.0 env (part_of_one a o e types g t p) fit);
}

-- ---- two and three parts

pub apart_same : (a b c d : Taken) → a ≡ c → b ≡ d → Apart c d → Apart a b
apart_same a b c d p q h = subst (λ x. Apart x b) (sym p) (subst (Apart c) (sym q) h)

two_placed : (a : At) (o : Two) (c d e f : ExprTree) → MayReplace c e → MayReplace d f → (types : Types) (g : Named Origin) (t : TypeTree) → IsPlaced (two a o e f) types g t → IsPlaced (two a o c d) types g t
two_placed a o c d e f r u types g t p =
    let x = first_of_two a o e f types g t p in
    let y = second_of_two a o e f types g t p in
    let q = r.placed types g p.typed.0 x in
    let w = u.placed types g p.typed.1 y in
    let typed : HasType (two a o c d) types t = (p.typed.0, p.typed.1, q.typed, w.typed, p.typed.4) in
    record {
      formed = p.formed;
      forms = p.forms;
      typed = typed;
      keeps = (q.keeps, w.keeps);
      splits = (
        q.splits,
        w.splits,
        apart_same _ _ _ _ (r.taken types g p.typed.0 x) (u.taken types g p.typed.1 y) p.splits.2,
        subst (TwoSplits o) (sym (u.taken types g p.typed.1 y)) p.splits.3,
      );
      noted = (q.noted, w.noted, noted_at a (two a o c d) (two a o e f) types t p.noted.2 p.typed typed);
    }

pub two_may : (a : At) (o : Two) (c d e f : ExprTree) → MayReplace c e → MayReplace d f → MayReplace (two a o c d) (two a o e f)
two_may a o c d e f r u = record {
  same_origin = λ g. ap (two_origin o) (r.same_origin g);
  same_chain = λ x p. p;
  placed = two_placed a o c d e f r u;
  taken = λ types g t p.
      let x = r.taken types g p.typed.0 (first_of_two a o e f types g t p) in
      let y = u.taken types g p.typed.1 (second_of_two a o e f types g t p) in
      λ i s q. x i s q || y i s q;
  means = λ types g t env p fit.
      let x = r.means types g p.typed.0 env (first_of_two a o e f types g t p) fit in
      let y = u.means types g p.typed.1 env (second_of_two a o e f types g t p) fit in
      λ i. and_then (x i) (λ z. two_thing o z (y i));
}

three_keeps : (o : Three) (c d e f : ExprTree) (g : Named Origin) → MayReplace c e → MayReplace d f → ThreeKeeps o e f g → ThreeKeeps o c d g
three_keeps if_else c d e f g r u k = record {
  same = r.same_origin (by_name g) ∙ k.same ∙ sym (u.same_origin (by_name g));
  not_made = subst IsNotMade (sym (r.same_origin (by_name g))) k.not_made;
}
three_keeps select c d e f g r u k = tt
three_keeps slice c d e f g r u k = tt

three_placed : (a : At) (o : Three) (b c d e f k : ExprTree) → MayReplace b e → MayReplace c f → MayReplace d k → (types : Types) (g : Named Origin) (t : TypeTree) → IsPlaced (three a o e f k) types g t → IsPlaced (three a o b c d) types g t
three_placed a o b c d e f k r u v types g t p =
    let x = first_of_three a o e f k types g t p in
    let y = second_of_three a o e f k types g t p in
    let z = third_of_three a o e f k types g t p in
    let q = r.placed types g p.typed.0 x in
    let w = u.placed types g p.typed.1 y in
    let m = v.placed types g p.typed.2 z in
    let i = r.taken types g p.typed.0 x in
    let j = u.taken types g p.typed.1 y in
    let l = v.taken types g p.typed.2 z in
    let typed : HasType (three a o b c d) types t = (p.typed.0, p.typed.1, p.typed.2, q.typed, w.typed, m.typed, p.typed.6) in
    record {
      formed = p.formed;
      forms = p.forms;
      typed = typed;
      keeps = (q.keeps, w.keeps, m.keeps, three_keeps o c d f k g u v p.keeps.3);
      splits = (
        q.splits,
        w.splits,
        m.splits,
        apart_same _ _ _ _ i j p.splits.3,
        apart_same _ _ _ _ i l p.splits.4,
        subst (λ n. ThreeSplits o n (takes d g)) (sym j) (subst (ThreeSplits o (takes f g)) (sym l) p.splits.5),
      );
      noted = (q.noted, w.noted, m.noted, noted_at a (three a o b c d) (three a o e f k) types t p.noted.3 p.typed typed);
    }

pub three_may : (a : At) (o : Three) (b c d e f k : ExprTree) → MayReplace b e → MayReplace c f → MayReplace d k → MayReplace (three a o b c d) (three a o e f k)
three_may a o b c d e f k r u v = record {
  same_origin = λ g. ap (three_origin o) (u.same_origin g);
  same_chain = λ x p. p;
  placed = three_placed a o b c d e f k r u v;
  taken = λ types g t p.
      let x = r.taken types g p.typed.0 (first_of_three a o e f k types g t p) in
      let y = u.taken types g p.typed.1 (second_of_three a o e f k types g t p) in
      let z = v.taken types g p.typed.2 (third_of_three a o e f k types g t p) in
      λ i s q. x i s q || (y i s q || z i s q);
  means = λ types g t env p fit.
      let x = r.means types g p.typed.0 env (first_of_three a o e f k types g t p) fit in
      let y = u.means types g p.typed.1 env (second_of_three a o e f k types g t p) fit in
      let z = v.means types g p.typed.2 env (third_of_three a o e f k types g t p) fit in
      λ i. and_then (x i) (λ w. three_thing o w (y i) (z i));
}

-- ---- `let`

let_placed : (a : At) (b : Binder) (c d e f : ExprTree) → MayReplace c e → MayReplace d f → (types : Types) (g : Named Origin) (t : TypeTree) → IsPlaced (let_in a b e f) types g t → IsPlaced (let_in a b c d) types g t
let_placed a b c d e f r u types g t p =
    let x = value_of_let a b e f types g t p in
    let y = body_of_let a b e f types g t p in
    let q = r.placed types g p.typed.0 x in
    let w = u.placed _ _ t y in
    let i = r.taken types g p.typed.0 x in
    let same = sym (r.same_origin g) in
    let j : takes d ((b.sym.0, origin c g) ∷ g) ≡ takes f ((b.sym.0, origin e g) ∷ g) =
    ap (λ o. takes d ((b.sym.0, o) ∷ g)) (r.same_origin g) ∙ u.taken _ _ t y in
    let typed : HasType (let_in a b c d) types t = (p.typed.0, q.typed, p.typed.2, w.typed) in
    record {
      formed = p.formed;
      forms = p.forms;
      typed = typed;
      keeps = (q.keeps, subst (λ o. Keeps d ((b.sym.0, o) ∷ g)) same w.keeps);
      splits = (
        q.splits,
        subst (λ o. Splits d ((b.sym.0, o) ∷ g)) same w.splits,
        apart_same _ _ _ _ i (ap (without b.sym.0) j) p.splits.2,
        subst (λ o. TakesAll b.sym.0 o (takes d ((b.sym.0, origin c g) ∷ g))) same (subst (TakesAll b.sym.0 (origin e g)) (sym j) p.splits.3),
      );
      noted = (q.noted, (p.typed.0, q.typed, w.noted), noted_at a (let_in a b c d) (let_in a b e f) types t p.noted.2 p.typed typed);
    }

pub let_may : KeyLaws → (a : At) (b : Binder) (c d e f : ExprTree) → MayReplace c e → MayReplace d f → MayReplace (let_in a b c d) (let_in a b e f)
let_may laws a b c d e f r u = record {
  same_origin = λ g. ap (λ o. origin d ((b.sym.0, o) ∷ g)) (r.same_origin g) ∙ u.same_origin ((b.sym.0, origin e g) ∷ g);
  same_chain = λ x p. p;
  placed = let_placed a b c d e f r u;
  taken = λ types g t p.
      let x = r.taken types g p.typed.0 (value_of_let a b e f types g t p) in
      let y : takes d ((b.sym.0, origin c g) ∷ g) ≡ takes f ((b.sym.0, origin e g) ∷ g) =
      ap (λ o. takes d ((b.sym.0, o) ∷ g)) (r.same_origin g) ∙ u.taken _ _ t (body_of_let a b e f types g t p) in
      λ i s q. x i s q || (if b.sym.0 == s then false else y i s q);
  means = λ types g t env p fit.
      ap (λ o. and_then o (λ x. eval d ((b.sym.0, x) ∷ env))) (r.means types g p.typed.0 env (value_of_let a b e f types g t p) fit)
      ∙ then_same (Of p.typed.0) (eval e env) _ _ (never_stuck laws e types p.typed.0 env p.typed.1 p.formed fit) (λ x h.
      u.means _ _ t ((b.sym.0, x) ∷ env) (body_of_let a b e f types g t p) (fits_bind types env b.sym.0 p.typed.0 x h fit));
}
