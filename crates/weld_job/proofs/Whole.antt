-- Lemmas for the law that a job's parts are the job.
use Rattle.std.proofs.Common.{◌≡◌, ℕ, Bool, true, false, List, [], ◌∷◌, ◌++◌, map, take, drop, refl, sym, ap, ◌∙◌, append_assoc}
use Rattle.std.proofs.lemmas.List.{drop-drop, take-append-drop}
use Rattle.std.proofs.lemmas.List.Folds.{concat-append}
use Rattle.std.specs.List.{concat, before_first, position_or_len, filter}
use Rattle.weld_job.specs.Blocks.{lines, is_separator, is_header, form_of, blocks_of, data_lines, text_of}
use Rattle.weld_job.specs.Whole.{headed, joined, separator_of}
use Rattle.weld_job.proofs.Cutting.{before_first-cons, concat-lines}

joined_header : (l : List ℕ) (ls : List (List ℕ)) (v : Bool) → is_header l ≡ v
    → concat (before_first is_header ls) ++ headed (filter is_header ls) (blocks_of ls) ≡ concat ls
    → concat (before_first is_header (l ∷ ls)) ++ headed (filter is_header (l ∷ ls)) (blocks_of (l ∷ ls)) ≡ l ++ concat ls
joined_header l ls true is more =
    rw (before_first-cons is_header l ls, is)
    (append_assoc l (concat (before_first is_header ls)) (headed (filter is_header ls) (blocks_of ls)) ∙ ap (λ (rest : List ℕ). l ++ rest) more)
joined_header l ls false is more =
    rw (before_first-cons is_header l ls, is)
    (append_assoc l (concat (before_first is_header ls)) (headed (filter is_header ls) (blocks_of ls)) ∙ ap (λ (rest : List ℕ). l ++ rest) more)

pub headed-lines : (ls : List (List ℕ)) → concat (before_first is_header ls) ++ headed (filter is_header ls) (blocks_of ls) ≡ concat ls
headed-lines [] = refl
headed-lines (l ∷ ls) = joined_header l ls (is_header l) refl (headed-lines ls)

form_header : (l : List ℕ) (ls : List (List ℕ)) (v : Bool) → is_header l ≡ v
    → map (λ block. block.form) (blocks_of ls) ≡ map form_of (filter is_header ls)
    → map (λ block. block.form) (blocks_of (l ∷ ls)) ≡ map form_of (filter is_header (l ∷ ls))
form_header l ls true is more = rw is (ap (λ rest. form_of l ∷ rest) more)
form_header l ls false is more = rw is more

pub forms-lines : (ls : List (List ℕ)) → map (λ block. block.form) (blocks_of ls) ≡ map form_of (filter is_header ls)
forms-lines [] = refl
forms-lines (l ∷ ls) = form_header l ls (is_header l) refl (forms-lines ls)

pub joined-is : (job : List ℕ) → joined job ≡ job
joined-is job =
    let ls = lines job in
    let n = position_or_len is_separator ls in
    let rest = drop n ls in
    let after : drop 1 rest ≡ data_lines job = drop-drop 1 n ls in
    let text = text_of job in
    let front = concat (before_first is_header (data_lines job)) in
    let blocks = headed (filter is_header (data_lines job)) (blocks_of (data_lines job)) in
    append_assoc (text ++ separator_of job) front blocks
    ∙ ap (λ (tail : List ℕ). (text ++ separator_of job) ++ tail) (headed-lines (data_lines job) ∙ ap concat (sym after))
    ∙ append_assoc text (separator_of job) (concat (drop 1 rest))
    ∙ ap (λ (tail : List ℕ). text ++ tail) (sym (concat-append (take 1 rest) (drop 1 rest)) ∙ ap concat (take-append-drop 1 rest))
    ∙ sym (concat-append (take n ls) rest)
    ∙ ap concat (take-append-drop n ls)
    ∙ concat-lines job
