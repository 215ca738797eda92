-- What the top call delivers.
use Rattle.std.proofs.Common.{◌≡◌, ◌≢◌, ◌⊎◌, inl, inr, ℕ, List, Option, Some, None, IfSome, ◌∙◌, sym, subst}
use Rattle.std.specs.Io.KnownBytes.{Appends}
use Rattle.weld_words.specs.Words.{Text}
use Rattle.weld_words.specs.declared.options.Options.{Options}
use Rattle.weld_front.specs.Asking.{Asks}
use Rattle.weld_front.specs.Answer.{Answers, AppendsFront, IsOfJob}
use Rattle.weld_front.specs.declared.asked.Asked.{Asked}
use Rattle.weld_front.specs.declared.status.Status.{Status}
use Rattle.weld_front.specs.declared.status.Status.TheVariants.{Done, Fault, Words, Refused, Unfit, Read, Write, Memory}

pub asks_of : (words : List Text) (r : Option Asked) (a : Asked) → r ≡ Some a → IfSome r (λ x. Asks words x.options) → Asks words a.options
asks_of words r a e h = subst (λ (o : Option Asked). IfSome o (λ x. Asks words x.options)) e h

-- the status that was concluded is that of the answer, where it is no failed write
pub status_of : (r s w : Status) → (r ≡ s) ⊎ (r ≡ Write) → r ≡ w → w ≢ Write → s ≡ w
status_of r s w (inl a) e n = sym a ∙ e
status_of r s w (inr b) e n = absurd (n (sym e ∙ b))

pub no_write : (s : Status) → IsOfJob s → s ≢ Write
no_write Done h = λ e. cc
no_write Fault h = λ e. cc
no_write Refused h = λ e. cc
no_write Unfit h = λ e. cc
no_write Words h = absurd h
no_write Read h = absurd h
no_write Write h = absurd h
no_write Memory h = absurd h

pub delivered : (o : Options) (l old new : Option (List ℕ)) (s w : Status) (text : List ℕ) → s ≡ w → IfSome l (λ b. Answers o b s text) → Appends old new text → IfSome l (λ b. (x : List ℕ) × Answers o b w x × Appends old new x)
delivered o None old new s w text e h a = tt
delivered o (Some b) old new s w text e h a = (text, subst (λ (z : Status). Answers o b z text) e h, a)

pub delivered_front : (o : Options) (l old new : Option (List ℕ)) (s : Status) (text : List ℕ) → IfSome l (λ b. Answers o b s text) → AppendsFront old new text → IfSome l (λ b. (z : Status) × (x : List ℕ) × Answers o b z x × AppendsFront old new x)
delivered_front o None old new s text h a = tt
delivered_front o (Some b) old new s text h a = (s, text, h, a)

-- where no write failed, the status is that of the answer
pub completed : (o : Options) (l : Option (List ℕ)) (r s : Status) (text : List ℕ) → (r ≡ s) ⊎ (r ≡ Write) → (r ≡ Write → ⊥) → IfSome l (λ b. Answers o b s text) → IfSome l (λ b. (r ≡ Memory) ⊎ ((x : List ℕ) × Answers o b r x))
completed o None r s text c n h = tt
completed o (Some b) r s text (inl e) n h = inr (text, subst (λ (z : Status). Answers o b z text) (sym e) h)
completed o (Some b) r s text (inr e) n h = absurd (n e)
