-- The workers and the cut that words ask for are in their ranges.
use Rattle.std.proofs.Common.{◌≡◌, ℕ, ◌<◌, ◌≤◌, List, [], ◌∷◌, Bool, true, false, refl, arith, subst}
use Rattle.weld_words.specs.Words.{Text, IsAsked, IsForm}
use Rattle.weld_front.specs.Asking.{Asks, AskForAJob, reads_a_job}
use Rattle.weld_words.specs.declared.options.Options.{Options}

asked_least : (least most default : ℕ) (ts : List Text) (n : ℕ) → least ≤ default → IsAsked least most default ts n → least ≤ n
asked_least least most default [] n d h = omega (arith, h)
asked_least least most default (t ∷ []) n d h = h.from_least
asked_least least most default (t ∷ u ∷ ts) n d h = absurd h

asked_most : (least most default : ℕ) (ts : List Text) (n : ℕ) → default ≤ most → IsAsked least most default ts n → n ≤ most
asked_most least most default [] n d h = omega (arith, h)
asked_most least most default (t ∷ []) n d h = h.to_most
asked_most least most default (t ∷ u ∷ ts) n d h = absurd h

pub workers_asked : (words : List Text) (o : Options) → IsForm words o → 1 ≤ o.workers
workers_asked words o h = asked_least 1 64 4 _ o.workers (omega arith) h.workers

pub few_asked : (words : List Text) (o : Options) → IsForm words o → o.workers ≤ 64
few_asked words o h = asked_most 1 64 4 _ o.workers (omega arith) h.workers

pub rows_asked : (words : List Text) (o : Options) → IsForm words o → 1 ≤ o.cut
rows_asked words o h = asked_least 1 2147483647 4096 _ o.cut (omega arith) h.cut

pub seed_asked : (words : List Text) (o : Options) → IsForm words o → o.seed < 2147483648
seed_asked words o h = let most : o.seed ≤ 2147483647 = asked_most 0 2147483647 1 _ o.seed (omega arith) h.seed in omega (arith, most)

pub few_rows_asked : (words : List Text) (o : Options) → IsForm words o → o.rows ≤ 1000000
few_rows_asked words o h = asked_most 0 1000000 1000 _ o.rows (omega arith) h.rows

abbrev OneReading : Type 0
OneReading = (words : List Text) (o p : Options) → IsForm words o → IsForm words p → o ≡ p

-- words that ask for a job ask for it whatever they are read as
pub asked_job : (words : List Text) (o : Options) → OneReading → Asks words o → AskForAJob words → reads_a_job o.command ≡ true
asked_job words o one asks (p, form, reads) = subst (λ (q : Options). reads_a_job q.command ≡ true) (one words p o form asks) reads

unread_by : (b : Bool) → (b ≡ true → ⊥) → b ≡ false
unread_by true f = absurd (f refl)
unread_by false f = refl

pub unasked_job : (words : List Text) (o : Options) → Asks words o → (AskForAJob words → ⊥) → reads_a_job o.command ≡ false
unasked_job words o asks f = unread_by (reads_a_job o.command) (λ e. f (o, asks, e))
