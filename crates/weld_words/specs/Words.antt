-- The form of the words that follow the program's name.
use Rattle.std.specs.Prelude.{◌≡◌, ◌≢◌, ◌⊎◌, ◌≤◌, ◌+◌, ℕ, zero, suc, pos, Bool, true, false, List, [], ◌∷◌, ◌++◌, codes}
use Rattle.std.specs.Str.Parse.{IsNumeral, without_leading_sign, signed_digits_value}
use Rattle.weld_words.specs.declared.options.Command.{Command}
use Rattle.weld_words.specs.declared.options.Command.TheVariants as commands
use Rattle.weld_words.specs.declared.options.Options.{Options}

abbrev pub Text : Type 0
Text = List ℕ

-- ---- what the words say, part by part

-- the options that have a number
pub data Name : Type 0 where
  workers : Name
  cut : Name
  seed : Name
  rows : Name

-- a word of its own, an option with the text of its value, or the option without one
pub data Part : Type 0 where
  word : Text → Part
  valued : Name → Text → Part
  report : Part

abbrev pub name_text : Name → Text
name_text workers = codes "workers"
name_text cut = codes "cut"
name_text seed = codes "seed"
name_text rows = codes "rows"

-- the name behind two hyphens
abbrev pub flag_of : Name → Text
flag_of n = 45 ∷ 45 ∷ name_text n

-- the text doesn't begin with a hyphen
abbrev pub IsPlain : Text → Type 0
IsPlain [] = Unit {0}
IsPlain (c ∷ cs) = c ≢ 45

-- how a part is written: as it is, where it doesn't begin with a hyphen; `--name=value`, or `--name value` in two words, where the value doesn't begin with a hyphen; `--report`
abbrev pub IsWritten : Part → List Text → Type 0
IsWritten (word w) ws = (ws ≡ w ∷ []) × IsPlain w
IsWritten (valued n t) ws = (ws ≡ (flag_of n ++ 61 ∷ t) ∷ []) ⊎ ((ws ≡ flag_of n ∷ t ∷ []) × IsPlain t)
IsWritten report ws = ws ≡ codes "--report" ∷ []

-- the words are the parts, written one after another
abbrev pub AreWritten : List Part → List Text → Type 0
AreWritten [] ws = ws ≡ []
AreWritten (p ∷ ps) ws = (front : List Text) × (rest : List Text) × (ws ≡ front ++ rest) × IsWritten p front × AreWritten ps rest

-- ---- what the parts ask for

abbrev pub words_in : List Part → List Text
words_in [] = []
words_in (word w ∷ ps) = w ∷ words_in ps
words_in (valued n t ∷ ps) = words_in ps
words_in (report ∷ ps) = words_in ps

-- the value, where the option is the named one
abbrev pub value_of : Name → Name → Text → List Text
value_of workers workers t = t ∷ []
value_of cut cut t = t ∷ []
value_of seed seed t = t ∷ []
value_of rows rows t = t ∷ []
value_of n m t = []

abbrev pub values_of : Name → List Part → List Text
values_of n [] = []
values_of n (word w ∷ ps) = values_of n ps
values_of n (valued m t ∷ ps) = value_of n m t ++ values_of n ps
values_of n (report ∷ ps) = values_of n ps

abbrev pub reports_in : List Part → ℕ
reports_in [] = zero
reports_in (word w ∷ ps) = reports_in ps
reports_in (valued n t ∷ ps) = reports_in ps
reports_in (report ∷ ps) = suc (reports_in ps)

abbrev pub text_of : Command → Text
text_of commands.Run = codes "run"
text_of commands.Check = codes "check"
text_of commands.Show = codes "show"
text_of commands.Session = codes "session"
text_of commands.Soak = codes "soak"

-- the text is a decimal number as std reads an i64, and it is this one, within the range
pub record IsNumber (least most : ℕ) (t : Text) (n : ℕ) : Type 0 where
  pub digits : IsNumeral 10 (without_leading_sign t)
  pub value : signed_digits_value 10 t ≡ pos n
  pub from_least : least ≤ n
  pub to_most : n ≤ most

-- without a value the number is the default; with one it is that; two aren't in form
abbrev pub IsAsked : ℕ → ℕ → ℕ → List Text → ℕ → Type 0
IsAsked least most default [] n = n ≡ default
IsAsked least most default (t ∷ []) n = IsNumber least most t n
IsAsked least most default (t ∷ u ∷ ts) n = ⊥

abbrev pub IsReported : ℕ → Bool → Type 0
IsReported zero b = b ≡ false
IsReported (suc zero) b = b ≡ true
IsReported (suc (suc n)) b = ⊥

-- the words are in form and ask for these options: exactly one word is the command, and the options stand before or after it, each at most once
pub record IsForm (words : List Text) (o : Options) : Type 0 where
  pub parts : List Part
  pub written : AreWritten parts words
  pub command : words_in parts ≡ text_of o.command ∷ []
  pub workers : IsAsked 1 64 4 (values_of workers parts) o.workers
  pub cut : IsAsked 1 2147483647 4096 (values_of cut parts) o.cut
  pub seed : IsAsked 0 2147483647 1 (values_of seed parts) o.seed
  pub rows : IsAsked 0 1000000 1000 (values_of rows parts) o.rows
  pub report : IsReported (reports_in parts) o.report
