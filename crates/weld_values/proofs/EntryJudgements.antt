-- What is wrong with the entries of a dictionary, one after another.
use Rattle.std.proofs.Common.{◌≡◌, inl, inr, sym, ◌∙◌, ℕ, zero, suc, List, [], ◌∷◌, ◌++◌, Some, slice_get, refl, ap, subst, All}
use Rattle.std.proofs.lemmas.List.Elements.{All-append, All-cons, All-nil}
use Rattle.std.specs.List.Sorted.{IsPermutation}
use Rattle.weld_data.specs.Value.{Value, dict, Entries, no_entries, and_entry, entries, list_of_entries-entries}
use Rattle.weld_data.specs.Order.{Rises}
use Rattle.weld_sorted.specs.Repeats.{HaveOneKey}
use Rattle.weld_tree.specs.TypeTree.{TypeTree}
use Rattle.weld_values.specs.declared.flaw.Flaw.{Flaw}
use Rattle.weld_values.specs.declared.flaw.Flaw.TheVariants.{Fine, Repeat, Range}
use Rattle.weld_values.specs.Grammar.{At}
use Rattle.weld_values.specs.Reading.{IsInRange, EntriesInRange, RepeatsKey, EntryRepeatsKey, Settles, SettleEntries}
use Rattle.weld_values.specs.Judging.{Judged, worse, AreJudged, IsPlain, IsSpelled}
use Rattle.weld_values.proofs.Listings.{some_is, none_is}
use Rattle.weld_values.proofs.Readings.{plain_stays, plain_no_repeat}

abbrev pub Pairing : Type 0
Pairing = Value × Value

in_range_push : (raws : List Pairing) (raw : Pairing) → EntriesInRange (entries raws) → IsInRange raw.0 → IsInRange raw.1 → EntriesInRange (entries (raws ++ raw ∷ []))
in_range_push [] raw h a b = (a, b, tt)
in_range_push (x ∷ xs) raw h a b = (h.0, h.1, in_range_push xs raw h.2 a b)

in_range_parts : (raws : List Pairing) (raw : Pairing) → EntriesInRange (entries (raws ++ raw ∷ [])) → EntriesInRange (entries raws) × IsInRange raw.0 × IsInRange raw.1
in_range_parts [] raw h = (tt, h.0, h.1)
in_range_parts (x ∷ xs) raw h = let p = in_range_parts xs raw h.2 in ((h.0, h.1, p.0), p.1, p.2)

settle_push_by : (x : Pairing) (xs : List Pairing) (w : Pairing) (ws : List Pairing) (raw : Pairing) (v y : Value) (zs : Entries) → and_entry w.0 w.1 (entries ws) ≡ and_entry x.0 y zs → Settles x.1 y → SettleEntries (entries xs) zs → (SettleEntries (entries xs) (entries ws) → SettleEntries (entries (xs ++ raw ∷ [])) (entries (ws ++ (raw.0, v) ∷ []))) → SettleEntries (entries (x ∷ xs ++ raw ∷ [])) (entries (w ∷ ws ++ (raw.0, v) ∷ []))
settle_push_by x xs w ws raw v y zs e h more again =
    let key : w.0 ≡ x.0 = cc in
    let head : y ≡ w.1 = cc in
    let tail : zs ≡ entries ws = cc in
    (w.1, entries (ws ++ (raw.0, v) ∷ []), ap (λ (k : Value). and_entry k w.1 (entries (ws ++ (raw.0, v) ∷ []))) key, subst (Settles x.1) head h, again (subst (SettleEntries (entries xs)) tail more))

settle_push : (raws es : List Pairing) (raw : Pairing) (v : Value) → SettleEntries (entries raws) (entries es) → Settles raw.1 v → SettleEntries (entries (raws ++ raw ∷ [])) (entries (es ++ (raw.0, v) ∷ []))
settle_push [] [] raw v h s = (v, no_entries, refl, s, refl)
settle_push [] (y ∷ ys) raw v h s = absurd (cc)
settle_push (x ∷ xs) [] raw v (y, zs, e, h, more) s = absurd (cc)
settle_push (x ∷ xs) (w ∷ ws) raw v (y, zs, e, h, more) s = settle_push_by x xs w ws raw v y zs e h more (λ t. settle_push xs ws raw v t s)

repeats_left : (raws : List Pairing) (raw : Pairing) → EntryRepeatsKey (entries raws) → EntryRepeatsKey (entries (raws ++ raw ∷ []))
repeats_left [] raw h = elim h [ ]
repeats_left (x ∷ xs) raw (inl h) = inl h
repeats_left (x ∷ xs) raw (inr h) = inr (repeats_left xs raw h)

repeats_right : (raws : List Pairing) (raw : Pairing) → RepeatsKey raw.1 → EntryRepeatsKey (entries (raws ++ raw ∷ []))
repeats_right [] raw h = inl h
repeats_right (x ∷ xs) raw h = inr (repeats_right xs raw h)

spelled_push : (t : TypeTree) (es : List Pairing) (e : Pairing) → All (λ (x : Pairing). IsSpelled t x.0) es → IsSpelled t e.0 → All (λ (x : Pairing). IsSpelled t x.0) (es ++ e ∷ [])
spelled_push t es e all one = All-append (λ (x : Pairing). IsSpelled t x.0) es (e ∷ []) all (All-cons (λ (x : Pairing). IsSpelled t x.0) e [] one (All-nil (λ (x : Pairing). IsSpelled t x.0)))

-- nothing is wrong with an entry more
fine_push : (t : TypeTree) (raws es new : List Pairing) (raw : Pairing) (k v : Value) → AreJudged t Fine raws es → IsInRange raw.0 → IsInRange raw.1 → Settles raw.1 v → IsSpelled t raw.0 → k ≡ raw.0 → new ≡ es ++ (k, v) ∷ [] → AreJudged t Fine (raws ++ raw ∷ []) new
fine_push t raws es new raw k v h a b s spelled same e =
    let is : new ≡ es ++ (raw.0, v) ∷ [] = e ∙ ap (λ (x : Value). es ++ (x, v) ∷ []) same in
    subst (AreJudged t Fine (raws ++ raw ∷ [])) (sym is)
    (in_range_push raws raw h.0 a b, settle_push raws es raw v h.1 s, spelled_push t es (raw.0, v) h.2 spelled)

-- one entry more
pub judged_entry : (t : TypeTree) → IsPlain t → (f kf vf : Flaw) (raws es new : List Pairing) (raw : Pairing) (k v : Value) (text mid : List ℕ) → At t raw.0 text mid → AreJudged t f raws es → Judged kf raw.0 k → Judged vf raw.1 v → (worse (worse f kf) vf ≡ Fine → new ≡ es ++ (k, v) ∷ []) → AreJudged t (worse (worse f kf) vf) (raws ++ raw ∷ []) new
judged_entry t p Fine Fine Fine raws es new raw k v text mid a h j g e = fine_push t raws es new raw k v h j.0 g.0 g.1 (text, mid, a) (plain_stays t p raw.0 text mid a k j.1) (e refl)
judged_entry t p Fine Fine Repeat raws es new raw k v text mid a h j g e = (in_range_push raws raw h.0 j.0 g.0, repeats_right raws raw g.1)
judged_entry t p Fine Fine Range raws es new raw k v text mid a h j g e = λ r. g (in_range_parts raws raw r).2
judged_entry t p Fine Repeat vf raws es new raw k v text mid a h j g e = absurd (plain_no_repeat t p raw.0 text mid a j.1)
judged_entry t p Fine Range vf raws es new raw k v text mid a h j g e = λ r. j (in_range_parts raws raw r).1
judged_entry t p Repeat Fine Fine raws es new raw k v text mid a h j g e = (in_range_push raws raw h.0 j.0 g.0, repeats_left raws raw h.1)
judged_entry t p Repeat Fine Repeat raws es new raw k v text mid a h j g e = (in_range_push raws raw h.0 j.0 g.0, repeats_left raws raw h.1)
judged_entry t p Repeat Fine Range raws es new raw k v text mid a h j g e = λ r. g (in_range_parts raws raw r).2
judged_entry t p Repeat Repeat vf raws es new raw k v text mid a h j g e = absurd (plain_no_repeat t p raw.0 text mid a j.1)
judged_entry t p Repeat Range vf raws es new raw k v text mid a h j g e = λ r. j (in_range_parts raws raw r).1
judged_entry t p Range kf vf raws es new raw k v text mid a h j g e = λ r. h (in_range_parts raws raw r).0

pub judged_no_entry : (t : TypeTree) → AreJudged t Fine [] []
judged_no_entry t = (tt, refl, All-nil (λ (x : Pairing). IsSpelled t x.0))

-- the key of an entry that was read, where nothing is wrong
pub fine_key : (t : TypeTree) → IsPlain t → (f kf vf : Flaw) (raw k : Value) (text mid : List ℕ) → At t raw text mid → Judged kf raw k → worse (worse f kf) vf ≡ Fine → IsSpelled t k
fine_key t p f Fine vf raw k text mid a j e = subst (IsSpelled t) (sym (plain_stays t p raw text mid a k j.1)) (text, mid, a)
fine_key t p f Repeat vf raw k text mid a j e = absurd (plain_no_repeat t p raw text mid a j.1)
fine_key t p Fine Range vf raw k text mid a j e = absurd (cc)
fine_key t p Repeat Range vf raw k text mid a j e = absurd (cc)
fine_key t p Range Range vf raw k text mid a j e = absurd (cc)

-- ---- the whole dictionary

pub fine_dict : (t : TypeTree) (raws es gs : List Pairing) → AreJudged t Fine raws es → IsPermutation es gs → Rises gs → Judged Fine (dict (entries raws)) (dict (entries gs))
fine_dict t raws es gs h p r = (h.0, (entries es, gs, refl, h.1, subst (λ (x : List Pairing). IsPermutation x gs) (sym (list_of_entries-entries es)) p, r))

abbrev HasKeyAt : List Pairing → ℕ → Value → Type 0
HasKeyAt raws i key = (x : Pairing) × (slice_get raws i ≡ Some x) × (x.0 ≡ key)

key_before_by : (x w e : Pairing) (xs ws : List Pairing) (y : Value) (zs : Entries) (i : ℕ) → and_entry w.0 w.1 (entries ws) ≡ and_entry x.0 y zs → SettleEntries (entries xs) zs → (SettleEntries (entries xs) (entries ws) → (j : ℕ) → slice_get ws j ≡ Some e → HasKeyAt xs j e.0) → slice_get (w ∷ ws) i ≡ Some e → HasKeyAt (x ∷ xs) i e.0
key_before_by x w e xs ws y zs zero is more again s =
    let key : w.0 ≡ x.0 = cc in
    (x, refl, sym key ∙ ap (λ (q : Pairing). q.0) (some_is w e s))
key_before_by x w e xs ws y zs (suc i) is more again s =
    let tail : zs ≡ entries ws = cc in
    again (subst (SettleEntries (entries xs)) tail more) i s

key_before : (raws es : List Pairing) (i : ℕ) (e : Pairing) → SettleEntries (entries raws) (entries es) → slice_get es i ≡ Some e → HasKeyAt raws i e.0
key_before raws [] i e h s = absurd (none_is e s)
key_before [] (w ∷ ws) i e h s = absurd (cc)
key_before (x ∷ xs) (w ∷ ws) i e (y, zs, is, h, more) s = key_before_by x w e xs ws y zs i is more (λ m j t. key_before xs ws j e m t) s

pub equal_dict : (t : TypeTree) (raws es : List Pairing) (w : Value) → AreJudged t Fine raws es → HaveOneKey es → Judged Repeat (dict (entries raws)) w
equal_dict t raws es w h (i, j, e, f, l, s, u, same) =
    let a = key_before raws es i e h.1 s in
    let b = key_before raws es j f h.1 u in
    (h.0, inl (subst HaveOneKey (sym (list_of_entries-entries raws)) (i, j, a.0, b.0, l, a.1, b.1, a.2 ∙ same ∙ sym b.2)))

pub repeat_dict : (t : TypeTree) (raws es : List Pairing) (w : Value) → AreJudged t Repeat raws es → Judged Repeat (dict (entries raws)) w
repeat_dict t raws es w h = (h.0, inr h.1)
