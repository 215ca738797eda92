-- What a text is read as: one answer at most, some answer, and a script where it is one.
use Rattle.std.proofs.Common.{◌≡◌, ◌≢◌, ℕ, zero, suc, ◌<◌, ◌==◌, ◌⊎◌, inl, inr, Bool, true, false, if◌then◌else◌, List, [], ◌∷◌, length, Result, Ok, Err, MatchResult, refl, ap, sym, subst, ◌∙◌, arith}
use Rattle.weld_tree.specs.declared.code.Code.{Code}
use Rattle.weld_tree.specs.declared.code.Code.TheVariants.{S7, M2}
use Rattle.weld_tokens.specs.TokenLimits.{has_too_many_bytes}
use Rattle.weld_read_script.specs.declared.statements.statement.Statement.{Statement}
use Rattle.weld_read_script.specs.declared.statements.statement.Saying.{Saying}
use Rattle.weld_read_script.specs.declared.statements.statement.Saying.TheVariants.{States}
use Rattle.weld_read_script.specs.Statements.{LineSays}
use Rattle.weld_read_script.specs.Sound.{IsStatement}
use Rattle.weld_read_script.specs.declared.steps.known.Known.{Known}
use Rattle.weld_read_script.specs.Steps.{after, nothing_known}
use Rattle.weld_read_script.specs.Keeping.{IsKnown}
use Rattle.weld_script.specs.Script.{PlainScript, IsScript}
use Rattle.weld_read_script.specs.declared.read.ScriptFault.{ScriptFault}
use Rattle.weld_read_script.specs.declared.read.ScriptFault.TheVariants as faults
use Rattle.weld_read_script.specs.Reading.{Answer, script, refused, lines, after_saying, at_end, Reads, ReadsAs, IsRead}
use Rattle.weld_read_script.proofs.Knowing.{known_at_start, known_script, line_keeps}

-- ---- one answer at most

abbrev pub OneSaying : Type 0
OneSaying = (line : List ℕ) (a b : Saying) → LineSays line a → LineSays line b → a ≡ b

-- the answer behind a line
abbrev Behind : ℕ → List (List ℕ) → Answer → Result Known Code → Type 0
Behind n rest answer r = MatchResult r (λ next. Reads (suc n) next rest answer) (λ code. answer ≡ refused code (suc n))

abbrev OneAnswer : ℕ → List (List ℕ) → Type 0
OneAnswer n ls = (k : Known) (a b : Answer) → Reads n k ls a → Reads n k ls b → a ≡ b

behind_one : (n : ℕ) (rest : List (List ℕ)) (a b : Answer) (r : Result Known Code) → OneAnswer (suc n) rest → Behind n rest a r → Behind n rest b r → a ≡ b
behind_one n rest a b (Ok next) ih h g = ih next a b h g
behind_one n rest a b (Err code) ih h g = h ∙ sym g

reads_one : OneSaying → (ls : List (List ℕ)) (n : ℕ) → OneAnswer n ls
reads_one one [] n k a b h g = h ∙ sym g
reads_one one (line ∷ rest) n k a b (s, says, h) (t, also, g) =
    let same : s ≡ t = one line s t says also in
    behind_one n rest a b (after_saying k t) (reads_one one rest (suc n)) (subst (λ (x : Saying). Behind n rest a (after_saying k x)) same h) g

script_inner : (s t : PlainScript) → script s ≡ script t → s ≡ t
script_inner s t e = cc

code_inner : (c d : Code) (m n : ℕ) → refused c m ≡ refused d n → c ≡ d
code_inner c d m n e = cc

line_inner : (c d : Code) (m n : ℕ) → refused c m ≡ refused d n → m ≡ n
line_inner c d m n e = cc

script_refused : (s : PlainScript) (c : Code) (n : ℕ) → script s ≡ refused c n → ⊥
script_refused s c n e = cc

true_false : (b : Bool) → b ≡ true → b ≡ false → ⊥
true_false b e f = cc

pub script_one : OneSaying → (text : List ℕ) (s t : PlainScript) → IsRead text (Ok s) → IsRead text (Ok t) → s ≡ t
script_one one text s t (e, h) (f, g) = script_inner s t (reads_one one (lines text) 0 nothing_known (script s) (script t) h g)

pub fault_one : OneSaying → (text : List ℕ) (e f : ScriptFault) → e ≢ faults.Memory → f ≢ faults.Memory → IsRead text (Err e) → IsRead text (Err f) → e ≡ f
fault_one one text faults.Memory f m n h g = absurd (m refl)
fault_one one text e faults.Memory m n h g = absurd (n refl)
fault_one one text (faults.At c k) (faults.At d l) m n (e, h) (f, g) =
    let same : refused c k ≡ refused d l = reads_one one (lines text) 0 nothing_known (refused c k) (refused d l) h g in
    ap (λ (x : Code). faults.At x k) (code_inner c d k l same) ∙ ap (faults.At d) (line_inner c d k l same)
fault_one one text (faults.Size c) (faults.Size d) m n (e, h) (f, g) = ap faults.Size (h ∙ sym g)
fault_one one text (faults.At c k) (faults.Size d) m n (e, h) (f, g) = absurd (true_false (has_too_many_bytes text) f e)
fault_one one text (faults.Size c) (faults.At d l) m n (e, h) (f, g) = absurd (true_false (has_too_many_bytes text) e f)

pub script_or_fault : OneSaying → (text : List ℕ) (s : PlainScript) (e : ScriptFault) → e ≢ faults.Memory → IsRead text (Ok s) → IsRead text (Err e) → ⊥
script_or_fault one text s faults.Memory m h g = m refl
script_or_fault one text s (faults.At c k) m (e, h) (f, g) = script_refused s c k (reads_one one (lines text) 0 nothing_known (script s) (refused c k) h g)
script_or_fault one text s (faults.Size c) m (e, h) (f, g) = true_false (has_too_many_bytes text) f e

-- ---- some answer

abbrev pub SomeSaying : Type 0
SomeSaying = (line : List ℕ) → (said : Saying) × LineSays line said

abbrev SomeAnswer : ℕ → List (List ℕ) → Type 0
SomeAnswer n ls = (k : Known) → (a : Answer) × Reads n k ls a

behind_some : (n : ℕ) (rest : List (List ℕ)) (r : Result Known Code) → SomeAnswer (suc n) rest → (a : Answer) × Behind n rest a r
behind_some n rest (Ok next) ih = ih next
behind_some n rest (Err code) ih = (refused code (suc n), refl)

reads_some : SomeSaying → (ls : List (List ℕ)) (n : ℕ) → SomeAnswer n ls
reads_some some [] n k = (at_end n k, refl)
reads_some some (line ∷ rest) n k =
    let said = some line in
    let answer = behind_some n rest (after_saying k said.0) (reads_some some rest (suc n)) in (answer.0, (said.0, said.1, answer.1))

abbrev IsSomehowRead : List ℕ → Type 0
IsSomehowRead text = ((s : PlainScript) × IsRead text (Ok s)) ⊎ ((e : ScriptFault) × (e ≢ faults.Memory) × IsRead text (Err e))

at_no_memory : (c : Code) (n : ℕ) → faults.At c n ≢ faults.Memory
at_no_memory c n e = cc

size_no_memory : (c : Code) → faults.Size c ≢ faults.Memory
size_no_memory c e = cc

answered : (text : List ℕ) (a : Answer) → has_too_many_bytes text ≡ false → ReadsAs text a → IsSomehowRead text
answered text (script s) e h = inl (s, (e, h))
answered text (refused c n) e h = inr (faults.At c n, at_no_memory c n, (e, h))

sized : SomeSaying → (text : List ℕ) (b : Bool) → has_too_many_bytes text ≡ b → IsSomehowRead text
sized some text true e = inr (faults.Size M2, size_no_memory M2, (e, refl))
sized some text false e = let a = reads_some some (lines text) 0 nothing_known in answered text a.0 e a.1

pub text_some : SomeSaying → (text : List ℕ) → IsSomehowRead text
text_some some text = sized some text (has_too_many_bytes text) refl

-- ---- scripts

abbrev pub Keep : Type 0
Keep = (k next : Known) (st : Statement) → IsKnown k → IsStatement st → after k st ≡ Ok next → IsKnown next

abbrev pub Sound : Type 0
Sound = (line : List ℕ) (st : Statement) → LineSays line (States st) → IsStatement st

some_shown : (n : ℕ) → (n == 0) ≡ false → 0 < n
some_shown zero e = absurd (true_false (0 == 0) refl e)
some_shown (suc n) e = omega arith

ended_as : (b : Bool) (n : ℕ) (s t : PlainScript) → script s ≡ (if b then refused S7 n else script t) → (b ≡ false) × (s ≡ t)
ended_as true n s t e = absurd (script_refused s S7 n e)
ended_as false n s t e = (refl, script_inner s t e)

at_end_script : (n : ℕ) (k : Known) (s : PlainScript) → IsKnown k → script s ≡ at_end n k → IsScript s.made s.shown
at_end_script n k s h e =
    let t : PlainScript = record { made = k.made; shown = k.shown } in
    let ended = ended_as (length k.shown == 0) n s t e in
    subst (λ (x : PlainScript). IsScript x.made x.shown) (sym ended.1) (known_script k h (some_shown (length k.shown) ended.0))

abbrev KeptScript : ℕ → List (List ℕ) → PlainScript → Type 0
KeptScript n ls s = (k : Known) → IsKnown k → Reads n k ls (script s) → IsScript s.made s.shown

behind_script : (n : ℕ) (rest : List (List ℕ)) (s : PlainScript) (r : Result Known Code) → KeptScript (suc n) rest s
    → ((next : Known) → r ≡ Ok next → IsKnown next) → Behind n rest (script s) r → IsScript s.made s.shown
behind_script n rest s (Ok next) ih keeps h = ih next (keeps next refl) h
behind_script n rest s (Err code) ih keeps h = absurd (script_refused s code (suc n) h)

reads_script : Keep → Sound → (ls : List (List ℕ)) (n : ℕ) (s : PlainScript) → KeptScript n ls s
reads_script keep sound [] n s k h r = at_end_script n k s h r
reads_script keep sound (line ∷ rest) n s k h (said, says, r) =
    behind_script n rest s (after_saying k said) (reads_script keep sound rest (suc n) s)
    (λ next e. line_keeps keep sound line said k next (Ok tt) says h e) r

pub read_script : Keep → Sound → (text : List ℕ) (s : PlainScript) → IsRead text (Ok s) → IsScript s.made s.shown
read_script keep sound text s (e, h) = reads_script keep sound (lines text) 0 s nothing_known known_at_start h
