-- What clap makes of the command line, and its arguments by their names.
use Rattle.std.proofs.Common.{◌≡◌, ◌∙◌, ℕ, Bool, cond, true, false, refl, sym, ap, List, [], ◌∷◌, map, Option, Some, None}
use Rattle.std.specs.Prelude.{◌||◌, ◌&&◌, not, is_some, codes, find, option_map}
use Rattle.std.specs.Str.{bytes_eq}
use Rattle.clap.specs.Walk.{Rule, Row, Text, arg_by_id, arg_by_long, arg_by_index, has_long}
use Rattle.clap.specs.Simple.{App, Shape, built, new_rule, new_shape, is_simple}
use Rattle.clap.specs.Faults.{is_simple_and_free}
use Rattle.clap.specs.declared.builder.action.ArgAction.TheVariants.{Set, SetTrue}
use Rattle.clap.specs.declared.builder.value_parser.ValueParser.TheVariants as vp
use Rattle.clap.proofs.WalkLemmas.{find-map}
use Rattle.weld_words.specs.Line.{line}
use Rattle.weld_words.specs.Words.{Name, workers, cut, seed, rows, name_text}

-- an argument with one value, filled in: the word by its place, an option by its name
abbrev pub filled_value : Text → Option Text → Option ℕ → Rule
filled_value id long index = record (new_rule id) {
  long = long;
  index = index;
  action = Some Set;
  range = Some (record { start_inclusive = 1; end_inclusive = 1 });
  parser = Some vp.String;
}

abbrev pub filled_word : Rule
filled_word = filled_value (codes "command") None (Some 1)

abbrev pub filled_option : Name → Rule
filled_option n = filled_value (name_text n) (Some (name_text n)) None

abbrev pub filled_report : Rule
filled_report = record (new_rule (codes "report")) {
  long = Some (codes "report");
  action = Some SetTrue;
  range = Some (record { start_inclusive = 0; end_inclusive = 0 });
  defaults = codes "false" ∷ [];
  missing = codes "true" ∷ [];
  parser = Some vp.Bool;
}

-- the options by their names
pub data Flag : Type 0 where
  named : Name → Flag
  asks : Flag

abbrev pub flag_text : Flag → Text
flag_text (named n) = name_text n
flag_text asks = codes "report"

abbrev pub rule_for : Flag → Rule
rule_for (named n) = filled_option n
rule_for asks = filled_report

abbrev pub all_flags : List Flag
all_flags = named workers ∷ named cut ∷ named seed ∷ named rows ∷ asks ∷ []

abbrev pub rules : List Rule
rules = filled_word ∷ map rule_for all_flags

abbrev pub shape : Shape
shape = record (new_shape (codes "weld")) {
  rules = rules;
  no_binary_name = true;
  disable_help_flag = true;
  disable_help_subcommand = true;
  is_built = true;
}

abbrev pub app : App
app = record { top = shape; subs = [] }

pub built_is : built line ≡ app
built_is = refl

pub simple_and_free : is_simple_and_free line ≡ true
simple_and_free = refl

pub line_is_simple : is_simple line ≡ true
line_is_simple = refl

-- the option of a name
abbrev pub flag_named : Text → Option Flag
flag_named name = find (λ f. bytes_eq (flag_text f) name || false) all_flags

pub by_long : (name : Text) → arg_by_long rules name ≡ option_map rule_for (flag_named name)
by_long name = sym (find-map (λ (a : Rule). not (is_some a.index) && has_long a name) rule_for all_flags)

pub by_name : (n : Name) → arg_by_id rules (name_text n) ≡ Some (filled_option n)
by_name workers = refl
by_name cut = refl
by_name seed = refl
by_name rows = refl

pub word_by_id : arg_by_id rules (codes "command") ≡ Some filled_word
word_by_id = refl
