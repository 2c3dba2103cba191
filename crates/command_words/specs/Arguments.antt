-- Commands of `clap` whose arguments have one value each, and the words that they are given.
use Rattle.std.specs.Prelude.{ℕ, Bool, List, [], ◌∷◌, Option, Some, None, pos, true, if◌then◌else◌}
use Rattle.std.specs.Str.Parse.{digits_value, without_leading_plus}
use Rattle.clap.specs.Words.{App, Rule, Text, fault_of, matches_of, new_app, new_rule, one_of}
use Rattle.clap.specs.ValueTests.{is_numeral}
use Rattle.clap.specs.Simple.{on_top}
use Rattle.clap.specs.Walk.{is_empty}
use Rattle.clap.specs.declared.builder.action.ArgAction.TheVariants.{Set}
use Rattle.clap.specs.declared.builder.value_parser.ValueParser.{ValueParser}
use Rattle.clap.specs.declared.builder.value_parser.ValueParser.TheVariants.{Signed, String}

-- an argument whose one value this parser takes
abbrev pub argument : Text → ValueParser → Rule
argument name parser = record (new_rule name) { action = Some Set; parser = Some parser }

-- the same as an option `--name` with a default
abbrev pub option_with : Text → ValueParser → Text → Rule
option_with name parser default = record (argument name parser) { long = Some name; defaults = default ∷ [] }

-- an option whose one value is a whole number in a range
abbrev pub number_option : Text → ℕ → ℕ → Text → Rule
number_option name least most default = option_with name (Signed (pos least) (pos most)) default

-- an option whose one value is any word
abbrev pub word_option : Text → Text → Rule
word_option name default = option_with name String default

-- a whole number in a range as a word of its own that has to be given
abbrev pub number_positional : Text → ℕ → ℕ → Rule
number_positional name least most = record (argument name (Signed (pos least) (pos most))) { required = true }

-- the command of this name that has these arguments and nothing else: no flag for help either
abbrev pub command_with : Text → List Rule → App
command_with name arguments =
    on_top (λ shape. record shape { rules = arguments; disable_help_flag = true }) (new_app name)

-- the command takes the words, of which the first is its name: no step of the parse fails
unfoldable pub takes_words : App → List Text → Bool
takes_words command words = is_empty (fault_of command words)

-- the number that digits write, behind a plus or not
abbrev pub written_number : Text → Option ℕ
written_number text =
    if is_numeral (without_leading_plus text) then Some (digits_value 10 (without_leading_plus text)) else None

-- the word that an argument of the command has on these words
unfoldable pub given_word : App → List Text → Text → Option Text
given_word command words name = one_of name (matches_of command words)
