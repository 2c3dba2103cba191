-- The arguments that the code's rows are, and the words of a parse.
use Rattle.std.specs.Prelude.{◌≡◌, ℕ, Option, Some, None, pos, true, option_and_then}
use Rattle.std.specs.Borrow.{Bor}
use Rattle.clap.specs.Built.{IsParsedFrom}
use Rattle.clap.specs.declared.builder.command.Command.{Command}
use Rattle.clap.specs.declared.builder.value_parser.ValueParser.{ValueParser}
use Rattle.clap.specs.declared.builder.value_parser.ValueParser.TheVariants as parsers
use Rattle.clap.specs.declared.parser.matches.ArgMatches.{ArgMatches}
use Rattle.clap.specs.Words.{App, Rule, Text, app_of, found_of, one_text}
use Rattle.command_words.specs.declared.argument.Argument.{Argument}
use Rattle.command_words.specs.declared.argument.Values.{Values}
use Rattle.command_words.specs.declared.argument.Values.TheVariants.{Numbers, Words}
use Rattle.command_words.specs.Arguments.{argument, option_with, written_number}

-- the parser of values
abbrev pub parser_for : Values → ValueParser
parser_for (Numbers least most) = parsers.Signed (pos least) (pos most)
parser_for Words = parsers.String

-- the argument that a row is
abbrev pub rule_with : Text → ValueParser → Option (Bor Text) → Rule
rule_with name parser None = record (argument name parser) { required = true }
rule_with name parser (Some default) = option_with name parser default.now

abbrev pub rule_for : Argument → Rule
rule_for argument = rule_with argument.name.now (parser_for argument.values) argument.default

-- the word that the matches hold of an argument, and its number
abbrev pub matched_word : ArgMatches → Text → Option Text
matched_word matches name = one_text (found_of matches) name

abbrev pub matched_number : ArgMatches → Text → Option ℕ
matched_number matches name = option_and_then written_number (matched_word matches name)

-- the matches are those of a parse of this command
abbrev pub ParsedBy : App → ArgMatches → Type 0
ParsedBy app matches = (command : Command) × (app_of command ≡ app) × IsParsedFrom command matches
