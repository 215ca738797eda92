-- A list is read element by element.
use Rattle.std.proofs.Common.{IfSome, IfNone, ◌≡◌, sym, ◌∙◌, ℕ, Bool, true, false, ◌==◌, cond, List, [], ◌∷◌, ◌++◌, Option, Some, None, refl, ap, subst, append_assoc}
use Rattle.std.proofs.lemmas.Bool.{eqb-true, both_ways}
use Rattle.weld_data.specs.Value.{Value}
use Rattle.weld_values.specs.declared.flaw.Flaw.{Flaw}
use Rattle.weld_values.specs.declared.flaw.Flaw.TheVariants.{Fine}
use Rattle.weld_values.specs.Tokens.{after_blanks, after_byte, byte_at}
use Rattle.weld_values.specs.Grammar.{Part, More, Listed, Enclosed, Found}
use Rattle.weld_values.specs.Judging.{Judged, worse, Gathered, AreListed, AreUnlisted, AreRead, AreUnread, IsReadInto}
use Rattle.weld_values.proofs.Judgements.{judged_push, judged_none}

-- at most one such part stands at the front of a text
abbrev pub Sole : {A : Type 0} → Part A → Type 0
Sole {A} R = (x y : A) (text r s : List ℕ) → R x text r → R y text s → (x ≡ y) × (r ≡ s)

pub some_is : {A : Type 0} (x y : A) → Some x ≡ Some y → x ≡ y
some_is x y e = cc

pub none_is : {A : Type 0} (x : A) → None ≡ Some x → ⊥
none_is x e = cc

pub found_sole : {A : Type 0} (at : List ℕ → Option (A × List ℕ)) → Sole (Found at)
found_sole {A} at x y text r s h k =
    let same = some_is (x, r) (y, s) (sym h ∙ k) in
    (ap (λ (p : A × List ℕ). p.0) same, ap (λ (p : A × List ℕ). p.1) same)

pub gathered_none : (R : Part Value) (text : List ℕ) → Gathered R text text Fine []
gathered_none R text = record { raws = []; found = λ zs end h. h; only = λ ys end out h c. (ys, refl, h); judged = judged_none }

-- how a list goes on after an element that was read
pub after_one : {A : Type 0} (R : Part A) → Sole R → (rest after : List ℕ) (raw : A) → R raw rest after → (ys : List A) (end : List ℕ) → Listed R ys rest end → (zs : List A) × (ys ≡ raw ∷ zs) × More R zs after end
after_one R sole rest after raw r [] end h = elim h [ ]
after_one {A} R sole rest after raw r (y ∷ ys) end (mid, k, more) =
    let same = sole y raw rest mid after k r in
    (ys, ap (λ (x : A). x ∷ ys) same.0, subst (λ (x : List ℕ). More R ys x end) same.1 more)

first_byte_by : (c : ℕ) (text : List ℕ) (a b : ℕ) (r s : List ℕ) (p : Bool) → (c == a) ≡ p → (q : Bool) → (c == b) ≡ q → cond p (Some text) None ≡ Some r → cond q (Some text) None ≡ Some s → (a == b) ≡ true
first_byte_by c text a b r s false e q f h k = absurd (none_is r h)
first_byte_by c text a b r s true e false f h k = absurd (none_is s k)
first_byte_by c text a b r s true e true f h k = ap (λ (x : ℕ). x == b) (sym (eqb-true c a e)) ∙ f

first_bytes : (text : List ℕ) (a b : ℕ) (r s : List ℕ) → (a == b) ≡ false → after_byte a text ≡ Some r → after_byte b text ≡ Some s → ⊥
first_bytes [] a b r s ne h k = none_is r h
first_bytes (c ∷ text) a b r s ne h k = both_ways (a == b) ne (first_byte_by c text a b r s (c == a) refl (c == b) refl h k)

-- two bytes don't both stand at one place
pub one_byte : (a b : ℕ) (text r s : List ℕ) → (a == b) ≡ false → byte_at a text ≡ Some r → byte_at b text ≡ Some s → ⊥
unfolding byte_at
one_byte a b text r s ne h k = first_bytes (after_blanks text) a b r s ne h k

-- with a comma after it
pub after_comma : {A : Type 0} (R : Part A) (close : ℕ) → (44 == close) ≡ false → (after more : List ℕ) → byte_at 44 after ≡ Some more → (zs : List A) (end out : List ℕ) → More R zs after end → byte_at close end ≡ Some out → Listed R zs more end
after_comma R close ne after more c [] end out h closes = absurd (one_byte 44 close after more out ne c (subst (λ (x : List ℕ). byte_at close x ≡ Some out) (sym h) closes))
after_comma R close ne after more c (z ∷ zs) end out (start, e, one) closes =
    let same : start ≡ more = some_is start more (sym e ∙ c) in
    subst (λ (x : List ℕ). Listed R (z ∷ zs) x end) same one

-- without one
pub after_last : {A : Type 0} (R : Part A) (after : List ℕ) → byte_at 44 after ≡ None → (zs : List A) (end : List ℕ) → More R zs after end → (zs ≡ []) × (after ≡ end)
after_last R after c [] end h = (refl, h)
after_last R after c (z ∷ zs) end (start, e, one) = absurd (none_is start (sym c ∙ e))

pub more_listed : {A : Type 0} (R : Part A) (raw : A) (rest after more : List ℕ) → R raw rest after → byte_at 44 after ≡ Some more → (zs : List A) (end : List ℕ) → Listed R zs more end → Listed R (raw ∷ zs) rest end
more_listed R raw rest after more r c [] end h = elim h [ ]
more_listed R raw rest after more r c (z ∷ zs) end h = (after, r, (more, c, h))

-- an element more, and the comma after it
pub gathered_more : (R : Part Value) → Sole R → (text rest after more : List ℕ) (f g : Flaw) (vs : List Value) (raw v : Value) → Gathered R text rest f vs → R raw rest after → Judged g raw v → byte_at 44 after ≡ Some more → Gathered R text more (worse f g) (vs ++ v ∷ [])
gathered_more R sole text rest after more f g vs raw v s r j c = record {
  raws = s.raws ++ raw ∷ [];
  found = λ zs end h. subst (λ (x : List Value). Listed R x text end) (sym (append_assoc s.raws (raw ∷ []) zs)) (s.found (raw ∷ zs) end (more_listed R raw rest after more r c zs end h));
  only = λ ys end out h closes.
      let o = s.only ys end out h closes in
      let a = after_one R sole rest after raw r o.0 end o.2 in
      (a.0, o.1 ∙ ap (λ (x : List Value). s.raws ++ x) a.1 ∙ sym (append_assoc s.raws (raw ∷ []) a.0), after_comma R 93 refl after more c a.0 end out a.2 closes);
  judged = judged_push f g s.raws vs raw v s.judged j;
}

-- the last element, and the bracket after it
pub gathered_last : (R : Part Value) → (text rest after out : List ℕ) (f g : Flaw) (vs : List Value) (raw v : Value) → Gathered R text rest f vs → R raw rest after → Judged g raw v → byte_at 93 after ≡ Some out → AreListed R text (worse f g) (vs ++ v ∷ []) out
gathered_last R text rest after out f g vs raw v s r j c = record {
  raws = s.raws ++ raw ∷ [];
  end = after;
  at = s.found (raw ∷ []) after (after, r, refl);
  closes = c;
  judged = judged_push f g s.raws vs raw v s.judged j;
}

pub no_first : {A : Type 0} (R : Part A) (rest : List ℕ) → ((x : A) (r : List ℕ) → R x rest r → ⊥) → (zs : List A) (end : List ℕ) → Listed R zs rest end → ⊥
no_first R rest none [] end h = h
no_first R rest none (z ∷ zs) end h = none z h.0 h.1

-- no element where one must stand
pub none_gathered : (R : Part Value) (text rest : List ℕ) (f : Flaw) (vs : List Value) → Gathered R text rest f vs → ((x : Value) (r : List ℕ) → R x rest r → ⊥) → AreUnlisted R text
none_gathered R text rest f vs s none = λ ys end out h closes. no_first R rest none (s.only ys end out h closes).0 end (s.only ys end out h closes).2

-- neither a comma nor the bracket after an element
pub unclosed : (R : Part Value) → Sole R → (text rest after : List ℕ) (f : Flaw) (vs : List Value) (raw : Value) → Gathered R text rest f vs → R raw rest after → byte_at 44 after ≡ None → byte_at 93 after ≡ None → AreUnlisted R text
unclosed R sole text rest after f vs raw s r c b = λ ys end out h closes.
    let o = s.only ys end out h closes in
    let a = after_one R sole rest after raw r o.0 end o.2 in
    let l = after_last R after c a.0 end a.2 in
    none_is out (sym b ∙ ap (byte_at 93) l.1 ∙ closes)

-- ---- after the opening bracket

enclosed_by : (R : Part Value) (text : List ℕ) (o : Option (List ℕ)) (raws : List Value) (end out : List ℕ) → byte_at 93 text ≡ o → o ≡ None → Listed R raws text end → byte_at 93 end ≡ Some out → Enclosed R 93 (byte_at 93 text) raws text out
enclosed_by R text o raws end out e n h c = subst (λ (p : Option (List ℕ)). Enclosed R 93 p raws text out) (sym (e ∙ n)) (end, h, c)

pub listed_read : (R : Part Value) (text : List ℕ) (f : Flaw) (vs : List Value) (out : List ℕ) → byte_at 93 text ≡ None → AreListed R text f vs out → AreRead R text f vs out
listed_read R text f vs out n l = record { raws = l.raws; at = enclosed_by R text None l.raws l.end out n refl l.at l.closes; judged = l.judged }

pub unlisted_unread : (R : Part Value) (text : List ℕ) → byte_at 93 text ≡ None → AreUnlisted R text → AreUnread R text
unlisted_unread R text n h = λ ys rest e.
    let p = subst (λ (o : Option (List ℕ)). Enclosed R 93 o ys text rest) n e in
    h ys p.0 rest p.1 p.2

pub empty_read : (R : Part Value) (text rest : List ℕ) → byte_at 93 text ≡ Some rest → AreRead R text Fine [] rest
empty_read R text rest e = record { raws = []; at = subst (λ (o : Option (List ℕ)). Enclosed R 93 o [] text rest) (sym e) (refl, refl); judged = judged_none }

-- the same steps where an element was appended to those before it
pub into_more : (R : Part Value) → Sole R → (text rest after more : List ℕ) (f g : Flaw) (old new : List Value) → Gathered R text rest f old → IsReadInto R rest g old new after → byte_at 44 after ≡ Some more → Gathered R text more (worse f g) new
into_more R sole text rest after more f g old new s r c =
    subst (Gathered R text more (worse f g)) (sym r.appended) (gathered_more R sole text rest after more f g old r.read.raw r.v s r.read.at r.read.judged c)

pub into_last : (R : Part Value) (text rest after out : List ℕ) (f g : Flaw) (old new : List Value) → Gathered R text rest f old → IsReadInto R rest g old new after → byte_at 93 after ≡ Some out → AreListed R text (worse f g) new out
into_last R text rest after out f g old new s r c =
    subst (λ (vs : List Value). AreListed R text (worse f g) vs out) (sym r.appended) (gathered_last R text rest after out f g old r.read.raw r.v s r.read.at r.read.judged c)

pub none_first : {A : Type 0} (at : List ℕ → Option (A × List ℕ)) (text : List ℕ) → at text ≡ None → (x : A) (r : List ℕ) → Found at x text r → ⊥
none_first at text n x r h = none_is (x, r) (sym n ∙ h)

-- what a clause says of the value that is there
pub some_holds : {A : Type 0} (P : A → Type 0) (o : Option A) (x : A) → o ≡ Some x → IfSome o P → P x
some_holds P None x e h = absurd (none_is x e)
some_holds P (Some y) x e h = subst P (some_is y x e) h

-- what a clause says where no value is there
pub none_holds : {A : Type 0} (P : Type 0) (o : Option A) → o ≡ None → IfNone o P → P
none_holds P None e h = h
none_holds P (Some x) e h = absurd (none_is x (sym e))
