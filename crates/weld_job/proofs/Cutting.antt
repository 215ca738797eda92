-- Lemmas on the lines of some bytes, and on what stands before the first line that passes a test.
use Rattle.std.proofs.Common.{◌≡◌, ℕ, zero, suc, ◌+◌, ◌-◌, ◌<◌, ◌≤◌, Bool, true, false, not, cond, eqb, List, [], ◌∷◌, ◌++◌, length, map, take, drop, get_or, refl, sym, ap, subst, ◌∙◌, arith, append_assoc, append-nil, length-drop}
use Rattle.std.proofs.Math.Seq.{take-add}
use Rattle.std.proofs.lemmas.List.{drop-drop, drop_all, take_all, get_or-drop, map-append}
use Rattle.std.proofs.lemmas.List.Elements.{All-push}
use Rattle.std.proofs.lemmas.List.Sums.{take_while-cons}
use Rattle.std.proofs.lemmas.Bool.{false_from_ne_true, eqb-true, eq-eqb}
use Rattle.std.specs.List.{All, concat, before_first, position_or_len, onto_first, list_any}
use Rattle.weld_job.specs.Job.{Block}
use Rattle.weld_job.specs.declared.block.BlockForm.{BlockForm}
use Rattle.weld_job.specs.declared.block.Extent.{Extent}
use Rattle.weld_job.specs.Job.{Job}
use Rattle.weld_job.specs.Extents.{block_at, job_in, LiesIn}
use Rattle.weld_job.specs.Blocks.{lines, is_header, is_separator, is_stray, form_of, text_of, data_lines, blocks_of, job_of}

-- ---- before and from the first that passes

cond-not : {X : Type 0} (b : Bool) (x y : X) → cond (not b) x y ≡ cond b y x
cond-not true x y = refl
cond-not false x y = refl

pub before_first-cons : {X : Type 0} (p : X → Bool) (x : X) (xs : List X) → before_first p (x ∷ xs) ≡ cond (p x) [] (x ∷ before_first p xs)
before_first-cons p x xs = take_while-cons (λ y. not (p y)) x xs ∙ cond-not (p x) (x ∷ before_first p xs) []

-- the first that passes, and what follows it
abbrev pub from_first : {X : Type 0} → (X → Bool) → List X → List X
from_first p xs = drop (position_or_len p xs) xs

drop-one_add : {X : Type 0} (n : ℕ) (x : X) (xs : List X) → drop (1 + n) (x ∷ xs) ≡ drop n xs
drop-one_add n x xs = let e : 1 + n ≡ suc n = omega arith in rw e refl

pub from_first-cons : {X : Type 0} (p : X → Bool) (x : X) (xs : List X) → from_first p (x ∷ xs) ≡ cond (p x) (x ∷ xs) (from_first p xs)
from_first-cons p x xs =
    elim (p x) as (λ b. drop (cond (not b) (1 + position_or_len p xs) 0) (x ∷ xs) ≡ cond b (x ∷ xs) (from_first p xs)) [
      | true ↦ refl
      | false ↦ drop-one_add (position_or_len p xs) x xs
    ]

-- ---- the lines

-- the first line ends with the first LF
pub lines-cut : (bs : List ℕ) (k : ℕ) → k < length bs → eqb (get_or bs k 0) 10 ≡ true → ((j : ℕ) → j < k → eqb (get_or bs j 0) 10 ≡ false)
    → lines bs ≡ take (k + 1) bs ∷ lines (drop (k + 1) bs)
lines-cut [] k within is none = absurd (omega arith)
lines-cut (b ∷ bs) zero within is none = rw is refl
lines-cut (b ∷ bs) (suc k) within is none =
    let first : eqb b 10 ≡ false = none 0 (omega arith) in
    let rest : lines bs ≡ take (k + 1) bs ∷ lines (drop (k + 1) bs) = lines-cut bs k (omega arith) is (λ j below. none (suc j) (omega arith)) in
    let e : suc k + 1 ≡ suc (k + 1) = omega arith in
    rw (first, rest, e) refl

-- bytes without LF are one line
pub lines-whole : (bs : List ℕ) → 0 < length bs → ((j : ℕ) → j < length bs → eqb (get_or bs j 0) 10 ≡ false) → lines bs ≡ bs ∷ []
lines-whole [] some none = absurd (omega arith)
lines-whole (b ∷ []) some none = let first : eqb b 10 ≡ false = none 0 (omega arith) in rw first refl
lines-whole (b ∷ c ∷ bs) some none =
    let first : eqb b 10 ≡ false = none 0 (omega arith) in
    let rest : lines (c ∷ bs) ≡ (c ∷ bs) ∷ [] = lines-whole (c ∷ bs) (omega arith) (λ j below. none (suc j) (omega arith)) in
    subst (λ (ls : List (List ℕ)). cond (eqb b 10) ((b ∷ []) ∷ ls) (onto_first b ls) ≡ (b ∷ c ∷ bs) ∷ []) (sym rest) (rw first refl)

concat-onto_first : (b : ℕ) (ls : List (List ℕ)) → concat (onto_first b ls) ≡ b ∷ concat ls
concat-onto_first b [] = refl
concat-onto_first b (l ∷ ls) = refl

-- the lines in a row are the bytes
pub concat-lines : (bs : List ℕ) → concat (lines bs) ≡ bs
concat-lines [] = refl
concat-lines (b ∷ bs) =
    elim (eqb b 10) as (λ v. concat (cond v ((b ∷ []) ∷ lines bs) (onto_first b (lines bs))) ≡ b ∷ bs) [
      | true ↦ ap (λ l. b ∷ l) (concat-lines bs)
      | false ↦ concat-onto_first b (lines bs) ∙ ap (λ l. b ∷ l) (concat-lines bs)
    ]

-- ---- a loop over the lines, up to the first that passes

-- no line before the place `at` passes, and a line begins there
pub record Passed (p : List ℕ → Bool) (bytes : List ℕ) (at : ℕ) : Type 0 where
  pub within : at ≤ length bytes
  pub front : take at bytes ++ concat (before_first p (lines (drop at bytes))) ≡ concat (before_first p (lines bytes))
  pub rest : from_first p (lines (drop at bytes)) ≡ from_first p (lines bytes)

pub Passed-start : (p : List ℕ → Bool) (bytes : List ℕ) → Passed p bytes 0
Passed-start p bytes = record { within = omega arith; front = refl; rest = refl }

pub Passed-step : (p : List ℕ → Bool) (bytes : List ℕ) (at n : ℕ) → Passed p bytes at → n ≤ length (drop at bytes)
    → lines (drop at bytes) ≡ take n (drop at bytes) ∷ lines (drop n (drop at bytes)) → p (take n (drop at bytes)) ≡ false → Passed p bytes (at + n)
Passed-step p bytes at n old fits cut fails =
    let line = take n (drop at bytes) in
    let more = lines (drop n (drop at bytes)) in
    let before : before_first p (line ∷ more) ≡ line ∷ before_first p more = before_first-cons p line more ∙ ap (λ v. cond v [] (line ∷ before_first p more)) fails in
    let from : from_first p (line ∷ more) ≡ from_first p more = from_first-cons p line more ∙ ap (λ v. cond v (line ∷ more) (from_first p more)) fails in
    let moved : drop n (drop at bytes) ≡ drop (at + n) bytes = drop-drop n at bytes in
    record {
      within = omega (arith, length-drop at bytes, old.within);
      front =
          subst (λ (rest : List ℕ). take (at + n) bytes ++ concat (before_first p (lines rest)) ≡ concat (before_first p (lines bytes))) moved
          (ap (λ (front : List ℕ). front ++ concat (before_first p more)) (take-add at n bytes)
          ∙ append_assoc (take at bytes) line (concat (before_first p more))
          ∙ sym (ap (λ (ls : List (List ℕ)). take at bytes ++ concat (before_first p ls)) cut ∙ ap (λ (ls : List (List ℕ)). take at bytes ++ concat ls) before)
          ∙ old.front);
      rest =
          subst (λ (rest : List ℕ). from_first p (lines rest) ≡ from_first p (lines bytes)) moved
          (sym (ap (from_first p) cut ∙ from) ∙ old.rest);
    }

-- the same, where the rest of the bytes goes by another name
pub Passed-next : (p : List ℕ → Bool) (bytes : List ℕ) (at n : ℕ) (rest : List ℕ) → rest ≡ drop at bytes → Passed p bytes at → n ≤ length rest
    → lines rest ≡ take n rest ∷ lines (drop n rest) → p (take n rest) ≡ false → Passed p bytes (at + n)
Passed-next p bytes at n rest is old fits cut fails =
    Passed-step p bytes at n old (subst (λ (r : List ℕ). n ≤ length r) is fits)
    (subst (λ (r : List ℕ). lines r ≡ take n r ∷ lines (drop n r)) is cut) (subst (λ (r : List ℕ). p (take n r) ≡ false) is fails)

-- the slice from a place on
pub slice_from : (bytes : List ℕ) (at : ℕ) → take (length bytes - at) (drop at bytes) ≡ drop at bytes
slice_from bytes at = take_all (length bytes - at) (drop at bytes) (omega (arith, length-drop at bytes))

-- ---- headers

-- a line is a header by its first byte
pub is_header-take : (bs : List ℕ) (n : ℕ) → 0 < length bs → 0 < n → is_header (take n bs) ≡ eqb (get_or bs 0 0) 37
is_header-take [] n there some = absurd (omega arith)
is_header-take (b ∷ bs) zero there some = absurd (omega arith)
is_header-take (b ∷ bs) (suc n) there some = refl

-- a line whose first byte is another one is no header
pub not_header : (bs : List ℕ) (at n : ℕ) → at < length bs → (get_or bs at 0 ≡ 37 → ⊥) → 0 < n → is_header (take n (drop at bs)) ≡ false
not_header bs at n there other some =
    let first : get_or (drop at bs) 0 0 ≡ get_or bs at 0 = get_or-drop at bs 0 0 ∙ ap (λ k. get_or bs k 0) (omega arith) in
    is_header-take (drop at bs) n (omega (arith, length-drop at bs)) some
    ∙ false_from_ne_true _ (λ same. other (sym first ∙ eqb-true _ _ same))

past_header : (l : List ℕ) (ls before : List (List ℕ)) (v : Bool) → is_header l ≡ v → blocks_of before ≡ blocks_of ls
    → blocks_of (cond v (l ∷ ls) before) ≡ blocks_of (l ∷ ls)
past_header l ls before true is same = refl
past_header l ls before false is same = let e : blocks_of (l ∷ ls) ≡ blocks_of ls = rw is refl in same ∙ sym e

-- lines before the first header begin no block
pub blocks_of-from_first : (ls : List (List ℕ)) → blocks_of (from_first is_header ls) ≡ blocks_of ls
blocks_of-from_first [] = refl
blocks_of-from_first (l ∷ ls) =
    ap blocks_of (from_first-cons is_header l ls)
    ∙ past_header l ls (from_first is_header ls) (is_header l) refl (blocks_of-from_first ls)

-- ---- the blocks by their places

-- the block whose header stands at a place, and those after it
pub first_at : (bytes rest after : List ℕ) (at n m : ℕ) (form : BlockForm)
    → rest ≡ drop at bytes → after ≡ drop (at + n) bytes
    → at < length bytes → get_or bytes at 0 ≡ 37 → 0 < n
    → lines rest ≡ take n rest ∷ lines (drop n rest)
    → form ≡ form_of (take n rest)
    → take m after ≡ concat (before_first is_header (lines after))
    → lines (drop m after) ≡ from_first is_header (lines after)
    → (let e : Extent = record { form = form; from = at + n; to = at + n + m } in
    blocks_of (lines (drop at bytes)) ≡ block_at bytes e ∷ blocks_of (lines (drop (at + n + m) bytes)))
first_at bytes rest after at n m form r a there header some cut f content more =
    let behind : drop n rest ≡ after = ap (drop n) r ∙ drop-drop n at bytes ∙ sym a in
    let first : get_or rest 0 0 ≡ 37 = ap (λ (l : List ℕ). get_or l 0 0) r ∙ get_or-drop at bytes 0 0 ∙ ap (λ k. get_or bytes k 0) (omega arith) ∙ header in
    let is : is_header (take n rest) ≡ true = is_header-take rest n (omega (arith, ap length r, length-drop at bytes)) some ∙ eq-eqb _ _ first in
    let all : lines (drop at bytes) ≡ take n rest ∷ lines after = ap lines (sym r) ∙ cut ∙ ap (λ (l : List ℕ). take n rest ∷ lines l) behind in
    let begins : blocks_of (take n rest ∷ lines after) ≡ record { form = form; content = take m after } ∷ blocks_of (lines after) = rw (is, f, content) refl in
    let size : (at + n + m) - (at + n) ≡ m = omega arith in
    let here : take m after ≡ take ((at + n + m) - (at + n)) (drop (at + n) bytes) = rw (size, a) refl in
    let next : blocks_of (lines after) ≡ blocks_of (lines (drop (at + n + m) bytes)) =
    sym (blocks_of-from_first (lines after)) ∙ sym (ap blocks_of more) ∙ ap (λ (l : List ℕ). blocks_of (lines l)) (ap (drop m) a ∙ drop-drop m (at + n) bytes) in
    ap blocks_of all ∙ begins
    ∙ ap (λ (t : List ℕ). record { form = form; content = t } ∷ blocks_of (lines after)) here
    ∙ ap (λ (ks : List Block). record { form = form; content = take ((at + n + m) - (at + n)) (drop (at + n) bytes) } ∷ ks) next

-- ---- the loop over the blocks

-- the blocks so far lie in the bytes, and those from the place on are what is missing of those from the start on
pub record Found (bytes : List ℕ) (start : ℕ) (extents : List Extent) (at : ℕ) : Type 0 where
  pub within : at ≤ length bytes
  pub header : at < length bytes → get_or bytes at 0 ≡ 37
  pub lie : All (LiesIn bytes) extents
  pub blocks : map (block_at bytes) extents ++ blocks_of (lines (drop at bytes)) ≡ blocks_of (lines (drop start bytes))

pub Found-next : (bytes : List ℕ) (start : ℕ) (extents grown : List Extent) (at : ℕ) (e : Extent) → Found bytes start extents at
    → LiesIn bytes e
    → blocks_of (lines (drop at bytes)) ≡ block_at bytes e ∷ blocks_of (lines (drop e.to bytes))
    → (e.to < length bytes → get_or bytes e.to 0 ≡ 37)
    → grown ≡ extents ++ e ∷ []
    → Found bytes start grown e.to
Found-next bytes start extents grown at e old lies first header g = record {
  within = lies.1;
  header = header;
  lie = subst (All (LiesIn bytes)) (sym g) (All-push (LiesIn bytes) extents e old.lie lies);
  blocks =
      ap (λ (es : List Extent). map (block_at bytes) es ++ blocks_of (lines (drop e.to bytes))) g
      ∙ ap (λ (ks : List Block). ks ++ blocks_of (lines (drop e.to bytes))) (map-append (block_at bytes) extents (e ∷ []))
      ∙ append_assoc (map (block_at bytes) extents) (block_at bytes e ∷ []) (blocks_of (lines (drop e.to bytes)))
      ∙ ap (λ (ks : List Block). map (block_at bytes) extents ++ ks) (sym first)
      ∙ old.blocks;
}

pub Found-end : (bytes : List ℕ) (start : ℕ) (extents : List Extent) (at : ℕ) → Found bytes start extents at → length bytes ≤ at
    → map (block_at bytes) extents ≡ blocks_of (lines (drop start bytes))
Found-end bytes start extents at old over =
    sym (append-nil (map (block_at bytes) extents))
    ∙ ap (λ (l : List ℕ). map (block_at bytes) extents ++ blocks_of (lines l)) (sym (drop_all at bytes over))
    ∙ old.blocks

-- ---- the parts of a job

-- the lines after the first
pub lines_after : (bytes : List ℕ) (n : ℕ) → n ≤ length bytes → (0 < length bytes → lines bytes ≡ take n bytes ∷ lines (drop n bytes))
    → lines (drop n bytes) ≡ drop 1 (lines bytes)
lines_after [] n fits first = ap lines (drop_all n [] (omega arith))
lines_after (b ∷ bs) n fits first = sym (ap (drop 1) (first (omega arith)))

pub job_of-parts : (job text rest after front : List ℕ) (blocks : List Block) (stray : Bool) → text ≡ text_of job
    → lines rest ≡ from_first is_separator (lines job) → lines after ≡ drop 1 (lines rest) → blocks ≡ blocks_of (lines after)
    → front ≡ concat (before_first is_header (lines after)) → stray ≡ list_any is_stray front
    → (let parts : Job = record { text = text; blocks = blocks; stray = stray } in parts) ≡ job_of job
job_of-parts job text rest after front blocks stray t r d b f s =
    let e : lines after ≡ data_lines job =
    d ∙ ap (drop 1) r ∙ drop-drop 1 (position_or_len is_separator (lines job)) (lines job) in
    rw (t, b, s, f, e) refl

-- the same by the places of the parts, where the slices from these places on go by other names
pub job_of-places : (job bytes rest after : List ℕ) (text n front : ℕ) (extents : List Extent) (stray : Bool) → bytes ≡ job
    → rest ≡ drop text bytes → after ≡ drop (text + n) bytes → n ≤ length rest
    → take text bytes ≡ text_of bytes
    → lines (drop text bytes) ≡ from_first is_separator (lines bytes)
    → (0 < length rest → lines rest ≡ take n rest ∷ lines (drop n rest))
    → take front after ≡ concat (before_first is_header (lines after))
    → lines (drop front after) ≡ from_first is_header (lines after)
    → stray ≡ list_any is_stray (take front after)
    → map (block_at bytes) extents ≡ blocks_of (lines (drop (text + n + front) bytes))
    → job_in job text extents stray ≡ job_of job
job_of-places job bytes rest after text n front extents stray same r a fits t s first c m st b =
    let behind : drop n rest ≡ after = ap (drop n) r ∙ drop-drop n text bytes ∙ sym a in
    let blocks : map (block_at bytes) extents ≡ blocks_of (lines after) =
    b ∙ ap (λ (l : List ℕ). blocks_of (lines l)) (sym (ap (drop front) a ∙ drop-drop front (text + n) bytes)) ∙ ap blocks_of m ∙ blocks_of-from_first (lines after) in
    subst (λ (l : List ℕ). job_in l text extents stray ≡ job_of l) same
    (job_of-parts bytes (take text bytes) rest after (take front after) (map (block_at bytes) extents) stray t (ap lines r ∙ s)
    (ap lines (sym behind) ∙ lines_after rest n fits first) blocks c st)
