-- What words ask for.
use Rattle.std.specs.Prelude.{◌≡◌, ℕ, Bool, true, false, List}
use Rattle.weld_words.specs.Words.{IsForm}
use Rattle.weld_words.specs.declared.options.Options.{Options}
use Rattle.weld_words.specs.declared.options.Command.{Command}
use Rattle.weld_words.specs.declared.options.Command.TheVariants.{Run, Check, Show, Session, Soak}

-- the words are in form and ask for this
abbrev pub Asks : List (List ℕ) → Options → Type 0
Asks words options = IsForm words options

-- the words are in form
abbrev pub AreServed : List (List ℕ) → Type 0
AreServed words = (options : Options) × Asks words options

-- `soak` makes its data itself
abbrev pub reads_a_job : Command → Bool
reads_a_job Run = true
reads_a_job Check = true
reads_a_job Show = true
reads_a_job Session = true
reads_a_job Soak = false

-- the words ask for what reads a job
abbrev pub AskForAJob : List (List ℕ) → Type 0
AskForAJob words = (options : Options) × Asks words options × (reads_a_job options.command ≡ true)
