-- What clap finds in words that are in form, before the texts of values are read.
use Rattle.std.specs.Prelude.{◌≡◌, ◌⊎◌, ℕ, Bool, Option, Some, None, List, [], ◌∷◌, codes, option_map}
use Rattle.std.specs.Borrow.{Bor}
use Rattle.clap.specs.Matches.{found_of, first_value, one_text}
use Rattle.clap.specs.declared.parser.matches.ArgMatches.{ArgMatches}
use Rattle.weld_words.specs.declared.options.Command.{Command}
use Rattle.weld_words.specs.declared.options.Options.{Options}
use Rattle.weld_words.specs.Words.{Text, Name, name_text, Part, AreWritten, words_in, values_of, reports_in, text_of, IsNumber}

-- the one text there is, or that there is none
abbrev pub IsOnly : List Text → Option Text → Type 0
IsOnly ts None = ts ≡ []
IsOnly ts (Some t) = ts ≡ t ∷ []

pub record Finds (words : List Text) (m : ArgMatches) : Type 0 where
  pub parts : List Part
  pub written : AreWritten parts words
  pub word : IsOnly (words_in parts) (first_value (found_of m) (codes "command"))
  pub value : (n : Name) → IsOnly (values_of n parts) (first_value (found_of m) (name_text n))
  pub report : ((reports_in parts ≡ 1) × (one_text (found_of m) (codes "report") ≡ Some (codes "true"))) ⊎ ((reports_in parts ≡ 0) × (one_text (found_of m) (codes "report") ≡ Some (codes "false")))

-- the text that is given, if one is
abbrev pub text_in : Option (Bor Text) → Option Text
text_in = option_map (λ t. t.now)

-- the command that a word names
abbrev pub Names : Option Text → Option Command → Type 0
Names w None = (c : Command) → w ≡ Some (text_of c) → ⊥
Names w (Some c) = w ≡ Some (text_of c)

-- the number that a text asks for, or the default where there is none
abbrev pub Asks : ℕ → ℕ → ℕ → Option Text → Option ℕ → Type 0
Asks least most default None None = ⊥
Asks least most default None (Some n) = n ≡ default
Asks least most default (Some t) None = (n : ℕ) → IsNumber least most t n → ⊥
Asks least most default (Some t) (Some n) = IsNumber least most t n

-- the options where all five are there; else one is missing
abbrev pub AllOf : Option Command → Option ℕ → Option ℕ → Option ℕ → Option ℕ → Bool → Option Options → Type 0
AllOf c w u s r b (Some o) = (c ≡ Some o.command) × (w ≡ Some o.workers) × (u ≡ Some o.cut) × (s ≡ Some o.seed) × (r ≡ Some o.rows) × (o.report ≡ b)
AllOf c w u s r b None = (c ≡ None) ⊎ ((w ≡ None) ⊎ ((u ≡ None) ⊎ ((s ≡ None) ⊎ (r ≡ None))))
