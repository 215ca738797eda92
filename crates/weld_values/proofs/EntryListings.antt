-- A dictionary is read entry by entry.
use Rattle.std.proofs.Common.{◌≡◌, sym, ◌∙◌, ℕ, List, [], ◌∷◌, ◌++◌, Option, Some, None, refl, ap, subst, append_assoc, codes}
use Rattle.weld_data.specs.Value.{Value, dict, entries}
use Rattle.weld_tree.specs.TypeTree.{TypeTree}
use Rattle.weld_values.specs.declared.flaw.Flaw.{Flaw}
use Rattle.weld_values.specs.declared.flaw.Flaw.TheVariants.{Fine}
use Rattle.weld_values.specs.Tokens.{byte_at, after_word, after_blanks}
use Rattle.weld_values.specs.Grammar.{Part, Listed, Enclosed, At, AtEntry, AtDict}
use Rattle.weld_values.specs.Judging.{Judged, worse, AreJudged, IsPlain, IsRead, IsUnread, IsEntryRead, EntriesSoFar, EntriesRead, EntriesUnread}
use Rattle.weld_values.proofs.Listings.{Sole, some_is, none_is, after_one, after_comma, after_last, more_listed, no_first}
use Rattle.weld_values.proofs.EntryJudgements.{Pairing, judged_no_entry, judged_entry, fine_key}
use Rattle.weld_values.proofs.KeyTypes.{key_is}
use Rattle.weld_data.proofs.Keys.{key_of_type}
use Rattle.weld_data.specs.Order.{IsKey}
use Rattle.weld_tree.specs.Types.{IsKey as IsKeyType}

pub no_entries_yet : (t : TypeTree) (R : Part Pairing) (text : List ℕ) → EntriesSoFar t R text text Fine []
no_entries_yet t R text = record { raws = []; found = λ zs end h. h; only = λ ys end out h c. (ys, refl, h); judged = judged_no_entry t }

pub no_entries_read : (t : TypeTree) (R : Part Pairing) (text rest : List ℕ) → byte_at 125 text ≡ Some rest → EntriesRead t R text Fine [] rest
no_entries_read t R text rest e = record { raws = []; at = subst (λ (o : Option (List ℕ)). Enclosed R 125 o [] text rest) (sym e) (refl, refl); judged = judged_no_entry t }

-- an entry more, and the comma after it
pub entries_more : (t : TypeTree) (R : Part Pairing) → Sole R → (text rest after more : List ℕ) (f g : Flaw) (old new : List Pairing) → EntriesSoFar t R text rest f old → IsEntryRead t R rest f g old new after → byte_at 44 after ≡ Some more → EntriesSoFar t R text more g new
entries_more t R sole text rest after more f g old new s r c = record {
  raws = s.raws ++ r.raw ∷ [];
  found = λ zs end h. subst (λ (x : List Pairing). Listed R x text end) (sym (append_assoc s.raws (r.raw ∷ []) zs)) (s.found (r.raw ∷ zs) end (more_listed R r.raw rest after more r.at c zs end h));
  only = λ ys end out h closes.
      let o = s.only ys end out h closes in
      let a = after_one R sole rest after r.raw r.at o.0 end o.2 in
      (a.0, o.1 ∙ ap (λ (x : List Pairing). s.raws ++ x) a.1 ∙ sym (append_assoc s.raws (r.raw ∷ []) a.0), after_comma R 125 refl after more c a.0 end out a.2 closes);
  judged = r.judged s.raws s.judged;
}

-- the last entry, and the brace after it
pub entries_last : (t : TypeTree) (R : Part Pairing) (text rest after out : List ℕ) (f g : Flaw) (old new : List Pairing) → byte_at 125 text ≡ None → EntriesSoFar t R text rest f old → IsEntryRead t R rest f g old new after → byte_at 125 after ≡ Some out → EntriesRead t R text g new out
entries_last t R text rest after out f g old new n s r c = record {
  raws = s.raws ++ r.raw ∷ [];
  at = subst (λ (o : Option (List ℕ)). Enclosed R 125 o (s.raws ++ r.raw ∷ []) text out) (sym n) (after, s.found (r.raw ∷ []) after (after, r.at, refl), c);
  judged = r.judged s.raws s.judged;
}

-- no entry where one must stand
pub entries_stuck : (t : TypeTree) (R : Part Pairing) (text rest : List ℕ) (f : Flaw) (es : List Pairing) → byte_at 125 text ≡ None → EntriesSoFar t R text rest f es → IsUnread R rest → EntriesUnread R text
entries_stuck t R text rest f es n s none = λ ys r h.
    let p = subst (λ (o : Option (List ℕ)). Enclosed R 125 o ys text r) n h in
    let o = s.only ys p.0 r p.1 p.2 in
    no_first R rest none o.0 p.0 o.2

-- neither a comma nor the brace after an entry
pub entries_open : (t : TypeTree) (R : Part Pairing) → Sole R → (text rest after : List ℕ) (f g : Flaw) (old new : List Pairing) → byte_at 125 text ≡ None → EntriesSoFar t R text rest f old → IsEntryRead t R rest f g old new after → byte_at 44 after ≡ None → byte_at 125 after ≡ None → EntriesUnread R text
entries_open t R sole text rest after f g old new n s r c b = λ ys out h.
    let p = subst (λ (o : Option (List ℕ)). Enclosed R 125 o ys text out) n h in
    let o = s.only ys p.0 out p.1 p.2 in
    let a = after_one R sole rest after r.raw r.at o.0 p.0 o.2 in
    let l = after_last R after c a.0 p.0 a.2 in
    none_is out (sym b ∙ ap (byte_at 125) l.1 ∙ p.2)

-- ---- the whole dictionary

pub dict_read : (t : TypeTree) (R S : Part Value) (text brace inner rest : List ℕ) (f g : Flaw) (es gs : List Pairing) → after_word (codes "dict") (after_blanks text) ≡ Some brace → byte_at 123 brace ≡ Some inner → EntriesRead t (AtEntry R S) inner f es rest → ((raws : List Pairing) → AreJudged t f raws es → Judged g (dict (entries raws)) (dict (entries gs))) → IsRead (AtDict R S) text g (dict (entries gs)) rest
dict_read t R S text brace inner rest f g es gs w b r judged = record { raw = dict (entries r.raws); at = (brace, inner, r.raws, w, b, r.at, refl); judged = judged r.raws r.judged }

pub no_word : (R S : Part Value) (text : List ℕ) → after_word (codes "dict") (after_blanks text) ≡ None → IsUnread (AtDict R S) text
no_word R S text n = λ v r h. none_is h.0 (sym n ∙ h.3)

pub no_brace : (R S : Part Value) (text brace : List ℕ) → after_word (codes "dict") (after_blanks text) ≡ Some brace → byte_at 123 brace ≡ None → IsUnread (AtDict R S) text
no_brace R S text brace w n = λ v r h. none_is h.1 (sym n ∙ ap (byte_at 123) (some_is brace h.0 (sym w ∙ h.3)) ∙ h.4)

pub dict_unread : (R S : Part Value) (text brace inner : List ℕ) → after_word (codes "dict") (after_blanks text) ≡ Some brace → byte_at 123 brace ≡ Some inner → EntriesUnread (AtEntry R S) inner → IsUnread (AtDict R S) text
dict_unread R S text brace inner w b u = λ v r h.
    let same : h.0 ≡ brace = some_is h.0 brace (sym h.3 ∙ w) in
    let inside : h.1 ≡ inner = some_is h.1 inner (sym h.4 ∙ ap (byte_at 123) same ∙ b) in
    u h.2 r (subst (λ (x : List ℕ). Enclosed (AtEntry R S) 125 (byte_at 125 x) h.2 x r) inside h.5)

-- ---- one entry

pub no_key : (R S : Part Value) (text : List ℕ) → IsUnread R text → IsUnread (AtEntry R S) text
no_key R S text u = λ e r h. u e.0 h.0 h.2

pub no_colon : (R S : Part Value) → Sole R → (text mid : List ℕ) (key : Value) → R key text mid → byte_at 58 mid ≡ None → IsUnread (AtEntry R S) text
no_colon R S sole text mid key a n = λ e r h.
    let one = sole key e.0 text mid h.0 a h.2 in
    none_is h.1 (sym n ∙ ap (byte_at 58) one.1 ∙ h.3)

pub no_value : (R S : Part Value) → Sole R → (text mid start : List ℕ) (key : Value) → R key text mid → byte_at 58 mid ≡ Some start → IsUnread S start → IsUnread (AtEntry R S) text
no_value R S sole text mid start key a b u = λ e r h.
    let one = sole key e.0 text mid h.0 a h.2 in
    let same : h.1 ≡ start = some_is h.1 start (sym h.3 ∙ ap (byte_at 58) (sym one.1) ∙ b) in
    u e.1 r (subst (λ (x : List ℕ). S e.1 x r) same h.4)

pub entry_read : (t : TypeTree) → IsPlain t → (S : Part Value) (text mid start rest : List ℕ) (before kf vf flaw : Flaw) (old new : List Pairing) (k v : Value) → IsRead (At t) text kf k mid → byte_at 58 mid ≡ Some start → IsRead S start vf v rest → flaw ≡ worse (worse before kf) vf → (flaw ≡ Fine → new ≡ old ++ (k, v) ∷ []) → IsEntryRead t (AtEntry (At t) S) text before flaw old new rest
entry_read t p S text mid start rest before kf vf flaw old new k v r b s e push = record {
  raw = (r.raw, s.raw);
  at = (mid, start, r.at, b, s.at);
  judged = λ raws h. subst (λ (f : Flaw). AreJudged t f (raws ++ (r.raw, s.raw) ∷ []) new) (sym e)
      (judged_entry t p before kf vf raws old new (r.raw, s.raw) k v text mid r.at h r.judged s.judged (λ fine. push (e ∙ fine)));
}

pub entry_key : (t : TypeTree) → IsKeyType t → IsPlain t → (text mid : List ℕ) (before kf vf flaw : Flaw) (k : Value) → IsRead (At t) text kf k mid → flaw ≡ worse (worse before kf) vf → flaw ≡ Fine → IsKey k
entry_key t q p text mid before kf vf flaw k r e fine =
    let key = key_is t q k (fine_key t p before kf vf r.raw k text mid r.at r.judged (sym e ∙ fine)) in
    key_of_type key.0 k key.1
