-- A struct is read field by field.
use Rattle.std.proofs.Common.{◌≡◌, sym, ◌∙◌, ℕ, zero, suc, ◌+◌, ◌<◌, List, [], ◌∷◌, ◌++◌, length, drop, get_or, Some, None, refl, ap, subst, arith, add-one}
use Rattle.std.proofs.Math.Seq.{drop-cons}
use Rattle.weld_data.specs.Value.{Value, Values, no_values, and_value, list, struct, values}
use Rattle.weld_tree.specs.TypeTree.{TypeTree, TypeTrees, no_types, more_types, pack}
use Rattle.weld_values.specs.declared.flaw.Flaw.{Flaw}
use Rattle.weld_values.specs.declared.flaw.Flaw.TheVariants.{Fine, Repeat, Range}
use Rattle.weld_values.specs.Tokens.{byte_at}
use Rattle.weld_values.specs.Grammar.{At, AtStruct, Fields}
use Rattle.weld_values.specs.Judging.{Judged, worse, joined, FieldsSoFar, IsRead, IsReadInto, IsUnread, IsReadable, AreReadable}
use Rattle.weld_values.proofs.Judgements.{judged_push, judged_none}
use Rattle.weld_values.proofs.Listings.{some_is, none_is}
use Rattle.weld_values.proofs.Soles.{at_sole}

pub left_is : (ts : List TypeTree) (i : ℕ) (d : TypeTree) → i < length ts → pack (drop i ts) ≡ more_types (get_or ts i d) (pack (drop (i + 1) ts))
left_is ts i d h = ap pack (drop-cons ts i d h ∙ ap (λ (k : ℕ). get_or ts i d ∷ drop k ts) (sym (add-one i)))

pub readable_at : (ts : List TypeTree) (i : ℕ) (d : TypeTree) → i < length ts → AreReadable (pack ts) → IsReadable (get_or ts i d)
readable_at [] i d h p = absurd (omega arith)
readable_at (t ∷ ts) zero d h p = p.0
readable_at (t ∷ ts) (suc i) d h p = readable_at ts i d (omega arith) p.1

joined_more : (raws : List Value) (raw : Value) (ws : Values) → joined (raws ++ raw ∷ []) ws ≡ joined raws (and_value raw ws)
joined_more [] raw ws = refl
joined_more (x ∷ xs) raw ws = ap (and_value x) (joined_more xs raw ws)

joined_none : (raws : List Value) → joined raws no_values ≡ values raws
joined_none [] = refl
joined_none (x ∷ xs) = ap (and_value x) (joined_none xs)

pub fields_none : (ts : TypeTrees) (text : List ℕ) → FieldsSoFar ts ts 123 text text Fine []
fields_none ts text = record { raws = []; found = λ ws end h. h; only = λ us end h. (us, refl, h); judged = judged_none }

-- the first of the fields that are left
field_only : (t : TypeTree) (left : TypeTrees) (lead : ℕ) (rest start : List ℕ) (raw : Value) (after : List ℕ) → byte_at lead rest ≡ Some start → At t raw start after → (ws : Values) (end : List ℕ) → Fields (more_types t left) lead ws rest end → (xs : Values) × (ws ≡ and_value raw xs) × Fields left 44 xs after end
field_only t left lead rest start raw after b r ws end (v, xs, start', mid, e, b', h, m) =
    let same : start' ≡ start = some_is start' start (sym b' ∙ b) in
    let one = at_sole t v raw start mid after (subst (λ (x : List ℕ). At t v x mid) same h) r in
    (xs, e ∙ ap (λ (x : Value). and_value x xs) one.0, subst (λ (x : List ℕ). Fields left 44 xs x end) one.1 m)

pub fields_more : (ts : TypeTrees) (t : TypeTree) (left : TypeTrees) (lead : ℕ) (text rest start after : List ℕ) (f g : Flaw) (old new : List Value) → FieldsSoFar ts (more_types t left) lead text rest f old → byte_at lead rest ≡ Some start → IsReadInto (At t) start g old new after → FieldsSoFar ts left 44 text after (worse f g) new
fields_more ts t left lead text rest start after f g old new s b r = record {
  raws = s.raws ++ r.read.raw ∷ [];
  found = λ ws end h. subst (λ (x : Values). Fields ts 123 x text end) (sym (joined_more s.raws r.read.raw ws)) (s.found (and_value r.read.raw ws) end (r.read.raw, ws, start, after, refl, b, r.read.at, h));
  only = λ us end h.
      let o = s.only us end h in
      let p = field_only t left lead rest start r.read.raw after b r.read.at o.0 end o.2 in
      (p.0, o.1 ∙ ap (joined s.raws) p.1 ∙ sym (joined_more s.raws r.read.raw p.0), p.2);
  judged = subst (λ (vs : List Value). Judged (worse f g) (list (values (s.raws ++ r.read.raw ∷ []))) (list (values vs))) (sym r.appended) (judged_push f g s.raws old r.read.raw r.v s.judged r.read.judged);
}

struct_of_list : (ws : Values) (vs : List Value) → list (values vs) ≡ list ws → struct (values vs) ≡ struct ws
struct_of_list ws vs e = let same : values vs ≡ ws = cc in ap struct same

struct_judged : (f : Flaw) (raws vs : List Value) → Judged f (list (values raws)) (list (values vs)) → Judged f (struct (values raws)) (struct (values vs))
struct_judged Fine raws vs h = (h.0, (h.1.0, struct_of_list h.1.0 vs h.1.1, h.1.2))
struct_judged Repeat raws vs h = h
struct_judged Range raws vs h = h

pub fields_end : (ts : TypeTrees) (lead : ℕ) (text rest end : List ℕ) (f : Flaw) (vs : List Value) → FieldsSoFar ts no_types lead text rest f vs → byte_at 125 rest ≡ Some end → IsRead (AtStruct (Fields ts 123)) text f (struct (values vs)) end
fields_end ts lead text rest end f vs s b = record {
  raw = struct (values s.raws);
  at = (joined s.raws no_values, rest, s.found no_values rest (refl, refl), b, ap struct (sym (joined_none s.raws)));
  judged = struct_judged f s.raws vs s.judged;
}

pub fields_stuck : (ts : TypeTrees) (t : TypeTree) (left : TypeTrees) (lead : ℕ) (text rest : List ℕ) (f : Flaw) (vs : List Value) → FieldsSoFar ts (more_types t left) lead text rest f vs → byte_at lead rest ≡ None → IsUnread (AtStruct (Fields ts 123)) text
fields_stuck ts t left lead text rest f vs s n = λ v r h. none_is ((s.only h.0 h.1 h.2).2).2 (sym n ∙ ((s.only h.0 h.1 h.2).2).5)

pub fields_unread : (ts : TypeTrees) (t : TypeTree) (left : TypeTrees) (lead : ℕ) (text rest start : List ℕ) (f : Flaw) (vs : List Value) → FieldsSoFar ts (more_types t left) lead text rest f vs → byte_at lead rest ≡ Some start → IsUnread (At t) start → IsUnread (AtStruct (Fields ts 123)) text
fields_unread ts t left lead text rest start f vs s b n = λ v r h.
    let (w, ws, start', mid, e, b', one, more) = (s.only h.0 h.1 h.2).2 in
    n w mid (subst (λ (x : List ℕ). At t w x mid) (some_is start' start (sym b' ∙ b)) one)

pub fields_open : (ts : TypeTrees) (lead : ℕ) (text rest : List ℕ) (f : Flaw) (vs : List Value) → FieldsSoFar ts no_types lead text rest f vs → byte_at 125 rest ≡ None → IsUnread (AtStruct (Fields ts 123)) text
fields_open ts lead text rest f vs s n = λ v r h.
    let o = s.only h.0 h.1 h.2 in
    none_is r (sym n ∙ ap (byte_at 125) o.2.1 ∙ h.3)
