-- A string is read item by item.
use Rattle.std.proofs.Common.{◌≡◌, sym, ◌∙◌, ℕ, ℤ, pos, List, [], ◌∷◌, ◌++◌, Some, None, refl, ap, subst, map, append_assoc, append-nil}
use Rattle.std.proofs.lemmas.List.{map-append}
use Rattle.weld_data.specs.Wrapped.{wrapped}
use Rattle.weld_data.specs.declared.kind.Kind.TheVariants.{I8}
use Rattle.weld_values.specs.Tokens.{after_byte, item_at}
use Rattle.weld_values.specs.Grammar.{AtItems}
use Rattle.weld_values.specs.Judging.{AreItems, ItemsSoFar, IsUnread}
use Rattle.weld_values.proofs.Listings.{some_is, none_is}

abbrev pub number_of : ℕ → ℤ
number_of b = wrapped I8 (pos b)

pub items_none : (text : List ℕ) → ItemsSoFar text text []
items_none text = record { bytes = []; found = λ bs end h. h; only = λ bs end h. (bs, refl, h); numbers = refl }

pub next_only : (rest : List ℕ) (b : ℕ) (after : List ℕ) → after_byte 34 rest ≡ None → item_at rest ≡ Some (b, after) → (bs end : List ℕ) → AtItems bs rest end → (cs : List ℕ) × (bs ≡ b ∷ cs) × AtItems cs after end
next_only rest b after n i [] end h = absurd (none_is end (sym n ∙ h))
next_only rest b after n i (x ∷ xs) end (mid, e, h) =
    let same = some_is (x, mid) (b, after) (sym e ∙ i) in
    (xs, ap (λ (y : ℕ). y ∷ xs) (ap (λ (p : ℕ × List ℕ). p.0) same), subst (λ (t : List ℕ). AtItems xs t end) (ap (λ (p : ℕ × List ℕ). p.1) same) h)

pub items_more : (text rest : List ℕ) (items new : List ℤ) (b : ℕ) (after : List ℕ) → ItemsSoFar text rest items → after_byte 34 rest ≡ None → item_at rest ≡ Some (b, after) → new ≡ items ++ number_of b ∷ [] → ItemsSoFar text after new
items_more text rest items new b after s n i e = record {
  bytes = s.bytes ++ b ∷ [];
  found = λ bs end h. subst (λ (x : List ℕ). AtItems x text end) (sym (append_assoc s.bytes (b ∷ []) bs)) (s.found (b ∷ bs) end (after, i, h));
  only = λ bs end h.
      let o = s.only bs end h in
      let p = next_only rest b after n i o.0 end o.2 in
      (p.0, o.1 ∙ ap (λ (x : List ℕ). s.bytes ++ x) p.1 ∙ sym (append_assoc s.bytes (b ∷ []) p.0), p.2);
  numbers = e ∙ ap (λ (x : List ℤ). x ++ number_of b ∷ []) s.numbers ∙ sym (map-append number_of s.bytes (b ∷ []));
}

pub items_end : (text rest : List ℕ) (items : List ℤ) (end : List ℕ) → ItemsSoFar text rest items → after_byte 34 rest ≡ Some end → AreItems text items end
items_end text rest items end s e = record {
  bytes = s.bytes ++ [];
  at = s.found [] end e;
  numbers = s.numbers ∙ ap (map number_of) (sym (append-nil s.bytes));
}

pub stuck : (rest : List ℕ) → after_byte 34 rest ≡ None → item_at rest ≡ None → (bs end : List ℕ) → AtItems bs rest end → ⊥
stuck rest n i [] end h = none_is end (sym n ∙ h)
stuck rest n i (x ∷ xs) end h = none_is (x, h.0) (sym i ∙ h.1)

pub items_stuck : (text rest : List ℕ) (items : List ℤ) → ItemsSoFar text rest items → after_byte 34 rest ≡ None → item_at rest ≡ None → IsUnread AtItems text
items_stuck text rest items s n i = λ bs end h. stuck rest n i (s.only bs end h).0 end (s.only bs end h).2
