use Rattle.std.proofs.Common.{◌≡◌, map, take}
use Rattle.clap.specs.Words.{app_of}
use Rattle.command_words.specs.Arguments.{command_with}
use Rattle.command_words.specs.internal.Matches.{rule_for}
use Rattle.command_words.proofs.argument.command_of.Given as goal

abbrev pub invariant-loop-argument : goal.invariant-loop-argument
invariant-loop-argument l = app_of l.command ≡ command_with l.name (map rule_for (take l.argument-index l.arguments))
