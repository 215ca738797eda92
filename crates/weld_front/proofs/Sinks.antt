-- What a sink holds after one write more.
use Rattle.std.proofs.Common.{◌≡◌, ℕ, ◌+◌, List, ◌++◌, length, take, drop, Option, Some, None, sym, ap, ◌∙◌, ◌-◌, append_assoc, arith, subst, Result, Ok, Err, OnErr}
use Rattle.std.specs.Io.KnownBytes.{Appends, Keeps}
use Rattle.std.proofs.Math.Seq.{take-add}
use Rattle.std.proofs.lemmas.Grind.{common_steps}
use Rattle.weld_front.specs.Answer.{AppendsFront}

appends_then : (old mid new : Option (List ℕ)) (a b : List ℕ) → Appends old mid a → Appends mid new b → Appends old new (a ++ b)
appends_then None mid new a b h g = tt
appends_then (Some x) None new a b h g = absurd h
appends_then (Some x) (Some y) None a b h g = absurd g
appends_then (Some x) (Some y) (Some z) a b h g = g ∙ ap (λ (t : List ℕ). t ++ b) h ∙ append_assoc x a b

-- one write more of what isn't taken yet
pub appends_more : (old mid new : Option (List ℕ)) (text : List ℕ) (taken count : ℕ) → Appends old mid (take taken text) → Appends mid new (take count (drop taken text)) → Appends old new (take (taken + count) text)
appends_more old mid new text taken count h g = rw (take-add taken count text) (appends_then old mid new (take taken text) (take count (drop taken text)) h g)

pub appends_keeps : (old mid new : Option (List ℕ)) (text : List ℕ) → Appends old mid text → Keeps mid new → Appends old new text
appends_keeps None mid new text h g = tt
appends_keeps (Some x) None new text h g = absurd h
appends_keeps (Some x) (Some y) None text h g = absurd g
appends_keeps (Some x) (Some y) (Some z) text h g = g ∙ h

-- all that isn't taken yet
pub rest_whole : (text : List ℕ) (taken : ℕ) → take (length text - taken) (drop taken text) ≡ drop taken text
rest_whole text taken = grind (arith, common_steps)

take_whole : (text : List ℕ) → take (length text) text ≡ text
take_whole text = grind (arith, common_steps)

-- the whole text is a front of it
pub appends_all : {T E : Type 0} (old new : Option (List ℕ)) (text : List ℕ) (r : Result T E) → Appends old new text → OnErr r (AppendsFront old new text)
appends_all old new text (Ok x) h = tt
appends_all old new text (Err e) h = (length text, subst (λ (t : List ℕ). Appends old new t) (sym (take_whole text)) h)
