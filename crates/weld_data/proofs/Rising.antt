-- Entries whose keys rise, and one more of them.
use Rattle.std.proofs.Common.{◌≡◌, List, [], ◌∷◌, ◌++◌, map, sym, subst, ap, ◌∙◌}
use Rattle.std.proofs.lemmas.List.{map-append}
use Rattle.std.proofs.lemmas.List.Elements.{All-append, All-cons, All-nil}
use Rattle.std.proofs.lemmas.List.Quantifiers.{all_pairs_push}
use Rattle.weld_data.specs.declared.value.Pair.{Pair}
use Rattle.weld_data.specs.Value.{Value}
use Rattle.weld_data.specs.View.{view_pair}
use Rattle.weld_data.specs.Order.{IsKey, KeyPrecedes, Rises, CanFollow}

one_more : (es : List (Value × Value)) (e : Value × Value) → Rises es → CanFollow es e.0 → Rises (es ++ e ∷ [])
one_more es e r f = record {
  keys = All-append (λ (e : Value × Value). IsKey e.0) es (e ∷ []) r.keys (All-cons (λ (e : Value × Value). IsKey e.0) e [] f.is_key (All-nil (λ (e : Value × Value). IsKey e.0)));
  rise = all_pairs_push (λ (a b : Value × Value). KeyPrecedes a.0 b.0) es e r.rise f.follows;
}

pub Rises-push : (before : List Pair) (es : List (Value × Value)) (after : List Pair) (p : Pair) → after ≡ before ++ p ∷ [] → map view_pair before ≡ es → Rises (map view_pair before) → CanFollow es (view_pair p).0 → Rises (map view_pair after)
Rises-push before es after p e v r f =
    subst Rises (sym (ap (map view_pair) e ∙ map-append view_pair before (p ∷ []))) (one_more (map view_pair before) (view_pair p) r (subst (λ xs. CanFollow xs (view_pair p).0) (sym v) f))
