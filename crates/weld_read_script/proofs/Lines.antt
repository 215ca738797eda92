-- The lines of a text: how many there are, how long they are, and their answer.
use Rattle.std.proofs.Common.{◌≡◌, ℕ, suc, ◌+◌, ◌<◌, ◌≤◌, Bool, true, false, cond, eqb, List, [], ◌∷◌, length, drop, get_or, map, Option, Result, Ok, Err, IfOk, MatchResult, Bor, refl, sym, ap, subst, ◌∙◌, arith}
use Rattle.std.proofs.lemmas.List.{drop_more, drop_all, length-map}
use Rattle.std.proofs.lemmas.List.Elements.{All-from_recursion}
use Rattle.std.specs.List.{slice_split, onto_first, All, AllByRecursion}
use Rattle.weld_tree.specs.declared.code.Code.{Code}
use Rattle.weld_read_script.specs.declared.statements.statement.Saying.{Saying}
use Rattle.weld_read_script.specs.Statements.{LineSays}
use Rattle.weld_read_script.specs.declared.steps.known.Known.{Known}
use Rattle.weld_read_script.specs.declared.steps.known.LineFault.{LineFault}
use Rattle.weld_read_script.specs.declared.steps.known.LineFault.TheVariants as lines_end
use Rattle.weld_read_script.specs.Steps.{nothing_known}
use Rattle.weld_script.specs.Script.{PlainScript}
use Rattle.weld_read_script.specs.declared.read.ScriptFault.{ScriptFault}
use Rattle.weld_read_script.specs.declared.read.ScriptFault.TheVariants as faults
use Rattle.weld_read_script.specs.Reading.{Answer, script, refused, lines, after_saying, at_end, Reads, LineSteps, Ends, LinesRead}

-- ---- how many and how long

onto_few : {A : Type 0} (x : A) (ps : List (List A)) → length (onto_first x ps) ≤ length ps + 1
onto_few x [] = omega arith
onto_few x (p ∷ ps) = omega arith

cond_few : {A : Type 0} (b : Bool) (x : A) (ps : List (List A)) (n : ℕ) → length ps ≤ n + 1 → length (cond b ([] ∷ ps) (onto_first x ps)) ≤ suc n + 1
cond_few true x ps n h = omega (arith, h)
cond_few false x ps n h = omega (arith, h, onto_few x ps)

split_few : {A : Type 0} (p : A → Bool) (xs : List A) → length (slice_split p xs) ≤ length xs + 1
split_few p [] = omega arith
split_few p (x ∷ xs) = cond_few (p x) x (slice_split p xs) (length xs) (split_few p xs)

wider : {A : Type 0} (m n : ℕ) (ps : List (List A)) → m ≤ n → AllByRecursion (λ l. length l ≤ m) ps → AllByRecursion (λ l. length l ≤ n) ps
wider m n [] le h = tt
wider m n (p ∷ ps) le h = (omega (arith, h.0), wider m n ps le h.1)

onto_short : {A : Type 0} (n : ℕ) (x : A) (ps : List (List A)) → AllByRecursion (λ l. length l ≤ n) ps → AllByRecursion (λ l. length l ≤ suc n) (onto_first x ps)
onto_short n x [] h = (omega arith, tt)
onto_short n x (p ∷ ps) h = (omega (arith, h.0), wider n (suc n) ps (omega arith) h.1)

cond_short : {A : Type 0} (b : Bool) (x : A) (ps : List (List A)) (n : ℕ) → AllByRecursion (λ l. length l ≤ n) ps
    → AllByRecursion (λ l. length l ≤ suc n) (cond b ([] ∷ ps) (onto_first x ps))
cond_short true x ps n h = (omega arith, wider n (suc n) ps (omega arith) h)
cond_short false x ps n h = onto_short n x ps h

split_short : {A : Type 0} (p : A → Bool) (xs : List A) → AllByRecursion (λ l. length l ≤ length xs) (slice_split p xs)
split_short p [] = (omega arith, tt)
split_short p (x ∷ xs) = cond_short (p x) x (slice_split p xs) (length xs) (split_short p xs)

lent : (n : ℕ) (ls : List (Bor (List ℕ))) → AllByRecursion (λ l. length l ≤ n) (map (λ x. x.now) ls) → AllByRecursion (λ (x : Bor (List ℕ)). length x.now ≤ n) ls
lent n [] h = tt
lent n (l ∷ ls) h = (h.0, lent n ls h.1)

pub few_lines : (text : List ℕ) (ls : List (Bor (List ℕ))) → length text ≤ 262144 → map (λ x. x.now) ls ≡ lines text → length ls ≤ 262145
few_lines text ls h e =
    let f : Bor (List ℕ) → List ℕ = λ x. x.now in
    let same : length ls ≡ length (lines text) = sym (length-map ls f) ∙ ap length e in
    omega (arith, h, same, split_few (λ (b : ℕ). eqb b 10) text)

pub short_lines : (text : List ℕ) (ls : List (Bor (List ℕ))) → length text ≤ 262144 → map (λ x. x.now) ls ≡ lines text → All (λ (x : Bor (List ℕ)). length x.now ≤ 262144) ls
short_lines text ls h e =
    All-from_recursion (λ (x : Bor (List ℕ)). length x.now ≤ 262144) ls
    (lent 262144 ls (subst (AllByRecursion (λ l. length l ≤ 262144)) (sym e) (wider (length text) 262144 (lines text) h (split_short (λ (b : ℕ). eqb b 10) text))))

pub ok_more : {T E : Type 0} (P Q : T → Type 0) (r : Result T E) → ((v : T) → P v → Q v) → IfOk r P → IfOk r Q
ok_more P Q (Ok v) f h = f v h
ok_more P Q (Err e) f h = h

-- ---- their answer

-- whatever the lines from i on give, behind what is known there, all give
abbrev pub GivesTo : List (Bor (List ℕ)) → ℕ → ℕ → Known → Type 0
GivesTo ls i n k = (a : Answer) → Reads n k (map (λ x. x.now) (drop i ls)) a → Reads 0 nothing_known (map (λ x. x.now) ls) a

lent_at : (ls : List (Bor (List ℕ))) (i : ℕ) (l : Bor (List ℕ)) → i < length ls → l ≡ get_or ls i l → drop i ls ≡ l ∷ drop (i + 1) ls
lent_at ls i l below is = drop_more ls i l below ∙ ap (λ q. q ∷ drop (i + 1) ls) (sym is)

abbrev Further : ℕ → List (List ℕ) → Answer → Result Known Code → Type 0
Further n rest a r = MatchResult r (λ next. Reads (suc n) next rest a) (λ code. a ≡ refused code (suc n))

pub line_more : (ls : List (Bor (List ℕ))) (i n : ℕ) (l : Bor (List ℕ)) (k next : Known) → i < length ls → l ≡ get_or ls i l
    → LineSteps k l.now (Ok tt) next → GivesTo ls i n k → GivesTo ls (i + 1) (n + 1) next
line_more ls i n l k next below is steps so_far a h =
    let rest : List (List ℕ) = map (λ x. x.now) (drop (i + 1) ls) in
    let one : n + 1 ≡ suc n = omega arith in
    let later : Reads (suc n) next rest a = subst (λ m. Reads m next rest a) one h in
    let here : Further n rest a (after_saying k steps.0) = subst (Further n rest a) (sym steps.2) later in
    so_far a (subst (λ qs. Reads n k (map (λ x. x.now) qs) a) (sym (lent_at ls i l below is)) (steps.0, steps.1, here))

pub line_refused : (ls : List (Bor (List ℕ))) (i n : ℕ) (l : Bor (List ℕ)) (k next : Known) (code : Code) → i < length ls → l ≡ get_or ls i l
    → LineSteps k l.now (Err (lines_end.Refused code)) next → GivesTo ls i n k → Reads 0 nothing_known (map (λ x. x.now) ls) (refused code (n + 1))
line_refused ls i n l k next code below is steps so_far =
    let rest : List (List ℕ) = map (λ x. x.now) (drop (i + 1) ls) in
    let a : Answer = refused code (n + 1) in
    let one : n + 1 ≡ suc n = omega arith in
    let here : Further n rest a (after_saying k steps.0) = subst (Further n rest a) (sym steps.2) (ap (refused code) one) in
    so_far a (subst (λ qs. Reads n k (map (λ x. x.now) qs) a) (sym (lent_at ls i l below is)) (steps.0, steps.1, here))

pub lines_ended : (ls : List (Bor (List ℕ))) (i n : ℕ) (k : Known) (r : Result PlainScript ScriptFault) → length ls ≤ i → Ends n k r → GivesTo ls i n k
    → LinesRead (map (λ x. x.now) ls) r
lines_ended ls i n k (Ok s) past ends so_far = so_far (script s) (subst (λ qs. Reads n k (map (λ x. x.now) qs) (script s)) (sym (drop_all i ls past)) ends)
lines_ended ls i n k (Err (faults.At code line)) past ends so_far =
    so_far (refused code line) (subst (λ qs. Reads n k (map (λ x. x.now) qs) (refused code line)) (sym (drop_all i ls past)) ends)
lines_ended ls i n k (Err (faults.Size code)) past ends so_far = absurd ends
lines_ended ls i n k (Err faults.Memory) past ends so_far = tt
