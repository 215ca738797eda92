-- Pieces of lists, and such a list in brackets.
use Rattle.std.proofs.Common.{◌≡◌, sym, ◌∙◌, ℕ, ◌+◌, List, [], ◌∷◌, ◌++◌, Some, None, Option, refl, ap, subst, append_assoc, map, length, take, arith, All, inl}
use Rattle.std.proofs.lemmas.List.{take_all}
use Rattle.std.proofs.lemmas.List.Elements.{All-nil, All-head, All-tail, All-cons, All-append}
use Rattle.weld_data.specs.Value.{Value, values, list}
use Rattle.weld_tree.specs.TypeTree.{TypeTree, vec}
use Rattle.weld_tree.specs.HasValue.{HasValue, AllAre}
use Rattle.weld_values.specs.declared.flaw.Flaw.TheVariants.{Fine}
use Rattle.weld_values.specs.Tokens.{after_blanks, byte_at}
use Rattle.weld_values.specs.Grammar.{Listed, Enclosed, At}
use Rattle.weld_values.specs.Judging.{IsPlain, IsReadInto}
use Rattle.weld_values.specs.Reading.{ReadsAs}
use Rattle.weld_values.specs.Pieces.{Separated, InBrackets}
use Rattle.weld_values.proofs.Listings.{more_listed}
use Rattle.weld_values.proofs.Readings.{plain_stays, plain_gives}
use Rattle.weld_values.proofs.RoundTrip.{typed_good}
use Rattle.weld_values.proofs.KeyTypes.{plain_readable}
use Rattle.weld_values.proofs.Carried.{plain_carried, list_carried}
use Rattle.weld_values.proofs.Cuts.{byte_at_end}

-- what was read of a piece so far
pub record Taken (t : TypeTree) (text rest : List ℕ) (vs : List Value) : Type 0 where
  pub found : (zs : List Value) (end : List ℕ) → Listed (At t) zs rest end → Listed (At t) (vs ++ zs) text end
  pub typed : All (HasValue t) vs

pub taken_none : (t : TypeTree) (text : List ℕ) → Taken t text text []
taken_none t text = record { found = λ zs end h. h; typed = All-nil (HasValue t) }

-- the value that was read, which is as it was spelled
record Got (t : TypeTree) (old new : List Value) (rest after : List ℕ) : Type 0 where
  v : Value
  appended : new ≡ old ++ v ∷ []
  at : At t v rest after
  typed : HasValue t v

got : (t : TypeTree) → IsPlain t → (rest after : List ℕ) (old new : List Value) → IsReadInto (At t) rest Fine old new after → Got t old new rest after
got t p rest after old new i =
    let same : i.v ≡ i.read.raw = plain_stays t p i.read.raw rest after i.read.at i.v i.read.judged.1 in
    record {
      v = i.v;
      appended = i.appended;
      at = subst (λ (x : Value). At t x rest after) (sym same) i.read.at;
      typed = plain_gives t p i.read.raw rest after i.read.at i.read.judged.0 i.v i.read.judged.1;
    }

all_typed : (t : TypeTree) (old new : List Value) (rest after : List ℕ) → All (HasValue t) old → Got t old new rest after → All (HasValue t) new
all_typed t old new rest after h g = subst (All (HasValue t)) (sym g.appended) (All-append (HasValue t) old (g.v ∷ []) h (All-cons (HasValue t) g.v [] g.typed (All-nil (HasValue t))))

-- one value more, and the comma after it
pub taken_more : (t : TypeTree) → IsPlain t → (text rest after more : List ℕ) (old new : List Value) → Taken t text rest old → IsReadInto (At t) rest Fine old new after → byte_at 44 after ≡ Some more → Taken t text more new
taken_more t p text rest after more old new s i c =
    let g = got t p rest after old new i in
    record {
      found = λ zs end h. subst (λ (x : List Value). Listed (At t) x text end) (sym (append_assoc old (g.v ∷ []) zs) ∙ ap (λ (x : List Value). x ++ zs) (sym g.appended)) (s.found (g.v ∷ zs) end (more_listed (At t) g.v rest after more g.at c zs end h));
      typed = all_typed t old new rest after s.typed g;
    }

-- the last value, after which blanks stand
pub taken_last : (t : TypeTree) → IsPlain t → (text rest after : List ℕ) (old new : List Value) → Taken t text rest old → IsReadInto (At t) rest Fine old new after → after_blanks after ≡ [] → Separated (At t) new text × All (HasValue t) new
taken_last t p text rest after old new s i b =
    let g = got t p rest after old new i in
    ((after, subst (λ (x : List Value). Listed (At t) x text after) (sym g.appended) (s.found (g.v ∷ []) after (after, g.at, refl)), b), all_typed t old new rest after s.typed g)

-- the same where all places have what was read
pub filled : {A : Type 0} (value : A → Value) (t : TypeTree) → IsPlain t → (text rest after : List ℕ) (place : ℕ) (old new : List A) → place + 1 ≡ length new → Taken t text rest (map value (take place old)) → IsReadInto (At t) rest Fine (map value (take place old)) (map value (take (place + 1) new)) after → after_blanks after ≡ [] → Separated (At t) (map value new) text × All (HasValue t) (map value new)
filled value t p text rest after place old new e s i b =
    subst (λ (xs : List _). Separated (At t) (map value xs) text × All (HasValue t) (map value xs)) (take_all (place + 1) new (omega (arith, e)))
    (taken_last t p text rest after (map value (take place old)) (map value (take (place + 1) new)) s i b)

all_are : (P : Value → Type 0) (vs : List Value) → All P vs → AllAre P (values vs)
all_are P [] h = tt
all_are P (v ∷ vs) h = (All-head P v vs h, all_are P vs (All-tail P v vs h))

enclosed_by : (t : TypeTree) (o : Option (List ℕ)) (vs : List Value) (inner end back : List ℕ) → o ≡ None → Listed (At t) vs inner end → byte_at 93 end ≡ Some back → Enclosed (At t) 93 o vs inner back
enclosed_by t o vs inner end back n l c = subst (λ (p : Option (List ℕ)). Enclosed (At t) 93 p vs inner back) (sym n) (end, l, c)

-- such values in brackets
pub bracketed : (t : TypeTree) → IsPlain t → (text body : List ℕ) (vs : List Value) → InBrackets text body → Separated (At t) vs body → All (HasValue t) vs → ReadsAs text (vec t) (list (values vs))
bracketed t f text body vs b (end, l, blank) typed =
    let inner = body ++ 93 ∷ b.back in
    let enclosed = enclosed_by t (byte_at 93 inner) vs inner (end ++ 93 ∷ b.back) b.back b.holds (list_carried (At t) (plain_carried t f) vs body end 93 b.back refl l) (byte_at_end 93 end b.back refl blank) in
    let good = typed_good (vec t) (plain_readable t f) (list (values vs)) (all_are (HasValue t) vs typed) in
    record {
      raw = list (values vs);
      spelled = record { rest = b.back; at = inl (inner, vs, b.opens, enclosed, refl); ends = b.ends };
      in_range = good.0;
      settled = good.1;
    }
