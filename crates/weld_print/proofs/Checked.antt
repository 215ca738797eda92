-- A sound tree is one of its part, no name in it is refused, and no number in it is out of its range.
use Rattle.std.proofs.Common.{◌≡◌, ℕ, Bool, true, false, not, ◌&&◌, cond, Option, Some, None, List, [], ◌∷◌, refl, ap, ◌∙◌}
use Rattle.std.proofs.lemmas.Bool.{and_parts}
use Rattle.weld_tree.specs.declared.place.Place.{Place}
use Rattle.weld_tree.specs.declared.code.Code.TheVariants.{N1}
use Rattle.weld_grammar.specs.declared.terminals.class.Class.{Class}
use Rattle.weld_grammar.specs.declared.terminals.class.Class.TheVariants as classes
use Rattle.weld_grammar.specs.declared.terminals.token.Token.{Token}
use Rattle.weld_grammar.specs.declared.terminals.symbol.Symbol.TheVariants as s
use Rattle.weld_grammar.specs.declared.terminals.reserved.Reserved.TheVariants as reserves
use Rattle.weld_grammar.specs.declared.terminal.Terminal.{Terminal}
use Rattle.weld_grammar.specs.declared.terminal.Terminal.TheVariants.{Sign, Fixed, Word, Name}
use Rattle.weld_grammar.specs.declared.rule.Rule.{Rule}
use Rattle.weld_grammar.specs.declared.rule.Rule.TheVariants as r
use Rattle.weld_grammar.specs.declared.item.Item.{Item}
use Rattle.weld_grammar.specs.declared.item.Item.TheVariants.{One, Part as OfRule, Optional, Repeated}
use Rattle.weld_grammar.specs.Grammar.{Part, item, all_of, one_of, body, is_of}
use Rattle.weld_grammar.specs.Derivation.{Tree, leaf, node, empty, pair, here, there, IsOf}
use Rattle.weld_spell.specs.Seen.{seen}
use Rattle.weld_tokens.specs.Order.{out_of_range}
use Rattle.weld_spell.specs.Names.{Refused, bears, reserved, misnamed, misnamed_token, none, Binding, binding_of, name_of, with_params}
use Rattle.weld_spell.specs.Names.{or_else as first_name}
use Rattle.weld_spell.specs.Ranges.{or_else as first_place, refused_number, is_minused, out_of_range_in}
use Rattle.weld_print.proofs.Sound.{Sound, fine, named_right, unreserved}

pub record Checked (negative : Bool) (by : Binding) (p : Part) (t : Tree Token) (zs : List (List ℕ)) : Type 0 where
  pub of : IsOf p (seen t)
  pub named : misnamed by p t zs ≡ None
  pub ranged : out_of_range_in negative p t ≡ None

both_named : (a b : Option Refused) → a ≡ None → b ≡ None → first_name a b ≡ None
both_named a b e k = ap (λ (o : Option Refused). first_name o b) e ∙ k

both_ranged : (a b : Option Place) → a ≡ None → b ≡ None → first_place a b ≡ None
both_ranged a b e k = ap (λ (o : Option Place). first_place o b) e ∙ k

-- ---- tokens

unreserved_none : (c : Class) (place : Place) → unreserved c ≡ true → reserved c place ≡ None
unreserved_none (classes.Reserved w) place h = absurd (let bad : false ≡ true = h in cc)
unreserved_none _ place h = refl

name_none : (a : Terminal) (x : Token) (zs : List (List ℕ)) → named_right a x zs ≡ true → misnamed_token a x zs ≡ None
name_none Name x zs h = ap (λ (t : Bool). cond t None (Some (N1, x.place))) h
name_none Word x zs h = unreserved_none x.class x.place h
name_none _ x zs h = refl

range_none : (b : Bool) (place : Place) → not b ≡ true → cond b (Some place) None ≡ None
range_none true place h = absurd (let bad : false ≡ true = h in cc)
range_none false place h = refl

token_checked : (negative : Bool) (a : Terminal) (x : Token) (zs : List (List ℕ)) → fine negative a x zs ≡ true → Checked negative none (item (One a)) (leaf x) zs
token_checked negative a x zs h =
    let p = and_parts (is_of a x.class) (named_right a x zs && not (out_of_range x.class negative x.word)) h in
    let q = and_parts (named_right a x zs) (not (out_of_range x.class negative x.word)) p.1 in
    record { of = p.0; named = name_none a x zs q.0; ranged = range_none (out_of_range x.class negative x.word) x.place q.1 }

-- ---- trees

pub checked : (negative : Bool) (p : Part) (t : Tree Token) (zs : List (List ℕ)) → Sound negative none p t zs → Checked negative none p t zs
checked negative (item (One a)) (leaf x) zs h = token_checked negative a x zs h
checked negative (item (OfRule r.Let)) (node (pair l (pair w (pair note (pair q (pair v (pair m (pair b end)))))))) zs h =
    let kl = checked false (item (One (Fixed reserves.Let))) l zs h.0 in
    let kw = checked false (item (One Word)) w zs h.1.0 in
    let kn = checked false (item (Optional r.Note)) note zs h.1.1.0 in
    let kq = checked false (item (One (Sign s.Equals))) q zs h.1.1.1.0 in
    let kv = checked false (item (OfRule r.Or)) v zs h.1.1.1.1.0 in
    let km = checked false (item (One (Sign s.Semicolon))) m zs h.1.1.1.1.1.0 in
    let kb = checked false (item (OfRule r.Expr)) b (name_of w ∷ zs) h.1.1.1.1.1.1.0 in
    let ke = checked false (all_of []) end zs h.1.1.1.1.1.1.1 in
    record {
      of = (kl.of, (kw.of, (kn.of, (kq.of, (kv.of, (km.of, (kb.of, ke.of)))))));
      named = both_named _ _ kw.named (both_named _ _ kv.named kb.named);
      ranged = both_ranged _ _ kl.ranged (both_ranged _ _ kw.ranged (both_ranged _ _ kn.ranged (both_ranged _ _ kq.ranged (both_ranged _ _ kv.ranged (both_ranged _ _ km.ranged (both_ranged _ _ kb.ranged ke.ranged))))));
    }
checked negative (item (OfRule r.For)) (node (pair w (pair a (pair l (pair c (pair t (pair d (pair i (pair x (pair j (pair y (pair k (pair z (pair m (pair b end))))))))))))))) zs h =
    let body_zs = name_of z ∷ name_of y ∷ name_of x ∷ zs in
    let k0 = checked false (item (One (Fixed reserves.For))) w zs h.0 in
    let k1 = checked false (item (One (Sign s.LeftParen))) a zs h.1.0 in
    let k2 = checked false (item (OfRule r.Rows)) l zs h.1.1.0 in
    let k3 = checked false (item (One (Sign s.Comma))) c zs h.1.1.1.0 in
    let k4 = checked false (item (OfRule r.Expr)) t zs h.1.1.1.1.0 in
    let k5 = checked false (item (One (Sign s.Comma))) d zs h.1.1.1.1.1.0 in
    let k6 = checked false (item (One (Sign s.Bar))) i zs h.1.1.1.1.1.1.0 in
    let k7 = checked false (item (OfRule r.Bind)) x zs h.1.1.1.1.1.1.1.0 in
    let k8 = checked false (item (One (Sign s.Comma))) j zs h.1.1.1.1.1.1.1.1.0 in
    let k9 = checked false (item (OfRule r.Bind)) y zs h.1.1.1.1.1.1.1.1.1.0 in
    let k10 = checked false (item (One (Sign s.Comma))) k zs h.1.1.1.1.1.1.1.1.1.1.0 in
    let k11 = checked false (item (OfRule r.Bind)) z zs h.1.1.1.1.1.1.1.1.1.1.1.0 in
    let k12 = checked false (item (One (Sign s.Bar))) m zs h.1.1.1.1.1.1.1.1.1.1.1.1.0 in
    let k13 = checked false (item (OfRule r.Expr)) b body_zs h.1.1.1.1.1.1.1.1.1.1.1.1.1.0 in
    let k14 = checked false (all_of (One (Sign s.RightParen) ∷ [])) end body_zs h.1.1.1.1.1.1.1.1.1.1.1.1.1.1 in
    record {
      of = (k0.of, (k1.of, (k2.of, (k3.of, (k4.of, (k5.of, (k6.of, (k7.of, (k8.of, (k9.of, (k10.of, (k11.of, (k12.of, (k13.of, k14.of))))))))))))));
      named = both_named _ _ k2.named (both_named _ _ k4.named (both_named _ _ k7.named (both_named _ _ k9.named (both_named _ _ k11.named k13.named))));
      ranged = both_ranged _ _ k0.ranged (both_ranged _ _ k1.ranged (both_ranged _ _ k2.ranged (both_ranged _ _ k3.ranged (both_ranged _ _ k4.ranged (both_ranged _ _ k5.ranged (both_ranged _ _ k6.ranged (both_ranged _ _ k7.ranged (both_ranged _ _ k8.ranged (both_ranged _ _ k9.ranged (both_ranged _ _ k10.ranged (both_ranged _ _ k11.ranged (both_ranged _ _ k12.ranged (both_ranged _ _ k13.ranged k14.ranged)))))))))))));
    }
checked negative (item (OfRule r.Iterate)) (node (pair w (pair a (pair t (pair c (pair i (pair x (pair m (pair b end))))))))) zs h =
    let body_zs = name_of x ∷ zs in
    let k0 = checked false (item (One (Fixed reserves.Iterate))) w zs h.0 in
    let k1 = checked false (item (One (Sign s.LeftParen))) a zs h.1.0 in
    let k2 = checked false (item (OfRule r.Expr)) t zs h.1.1.0 in
    let k3 = checked false (item (One (Sign s.Comma))) c zs h.1.1.1.0 in
    let k4 = checked false (item (One (Sign s.Bar))) i zs h.1.1.1.1.0 in
    let k5 = checked false (item (OfRule r.Bind)) x zs h.1.1.1.1.1.0 in
    let k6 = checked false (item (One (Sign s.Bar))) m zs h.1.1.1.1.1.1.0 in
    let k7 = checked false (item (OfRule r.Expr)) b body_zs h.1.1.1.1.1.1.1.0 in
    let k8 = checked false (all_of (One (Sign s.RightParen) ∷ [])) end body_zs h.1.1.1.1.1.1.1.1 in
    record {
      of = (k0.of, (k1.of, (k2.of, (k3.of, (k4.of, (k5.of, (k6.of, (k7.of, k8.of))))))));
      named = both_named _ _ k2.named (both_named _ _ k5.named k7.named);
      ranged = both_ranged _ _ k0.ranged (both_ranged _ _ k1.ranged (both_ranged _ _ k2.ranged (both_ranged _ _ k3.ranged (both_ranged _ _ k4.ranged (both_ranged _ _ k5.ranged (both_ranged _ _ k6.ranged (both_ranged _ _ k7.ranged k8.ranged)))))));
    }
checked negative (item (OfRule r.WithParams)) (node (pair a (pair p (pair more (pair z (pair b end)))))) zs h =
    let k0 = checked false (item (One (Sign s.Bar))) a zs h.0 in
    let k1 = checked false (item (OfRule r.Param)) p zs h.1.0 in
    let k2 = checked false (item (Repeated r.NextParam)) more zs h.1.1.0 in
    let k3 = checked false (item (One (Sign s.Bar))) z zs h.1.1.1.0 in
    let k4 = checked false (item (OfRule r.Expr)) b (with_params more (name_of p ∷ zs)) h.1.1.1.1.0 in
    let k5 = checked false (all_of []) end zs h.1.1.1.1.1 in
    record {
      of = (k0.of, (k1.of, (k2.of, (k3.of, (k4.of, k5.of)))));
      named = both_named _ _ k1.named (both_named _ _ k2.named k4.named);
      ranged = both_ranged _ _ k0.ranged (both_ranged _ _ k1.ranged (both_ranged _ _ k2.ranged (both_ranged _ _ k3.ranged (both_ranged _ _ k4.ranged k5.ranged))));
    }
checked negative (item (OfRule r.Let)) (node _) zs h = absurd (assumption)
checked negative (item (OfRule r.For)) (node _) zs h = absurd (assumption)
checked negative (item (OfRule r.Iterate)) (node _) zs h = absurd (assumption)
checked negative (item (OfRule r.WithParams)) (node _) zs h = absurd (assumption)
checked negative (item (OfRule q)) (node t) zs h = let k = checked (is_minused q) (body q) t zs h in record { of = k.of; named = k.named; ranged = k.ranged }
checked negative (item (Optional q)) empty zs h = record { of = tt; named = refl; ranged = refl }
checked negative (item (Optional q)) (here t) zs h = let k = checked false (item (OfRule q)) t zs h in record { of = k.of; named = k.named; ranged = k.ranged }
checked negative (item (Repeated q)) empty zs h = record { of = tt; named = refl; ranged = refl }
checked negative (item (Repeated q)) (pair t u) zs h =
    let k = checked false (item (OfRule q)) t zs h.0 in
    let m = checked false (item (Repeated q)) u zs h.1 in
    record { of = (k.of, m.of); named = both_named _ _ k.named m.named; ranged = both_ranged _ _ k.ranged m.ranged }
checked negative (all_of []) empty zs h = record { of = tt; named = refl; ranged = refl }
checked negative (all_of (i ∷ rest)) (pair t u) zs h =
    let k = checked false (item i) t zs h.0 in
    let m = checked false (all_of rest) u zs h.1 in
    record { of = (k.of, m.of); named = both_named _ _ k.named m.named; ranged = both_ranged _ _ k.ranged m.ranged }
checked negative (one_of (i ∷ rest)) (here t) zs h = let k = checked negative (item i) t zs h in record { of = k.of; named = k.named; ranged = k.ranged }
checked negative (one_of (i ∷ rest)) (there t) zs h = let k = checked negative (one_of rest) t zs h.0 in record { of = (k.of, h.1); named = k.named; ranged = k.ranged }
checked negative _ _ zs h = absurd (assumption)
