use Rattle.std.proofs.Common.{◌∙◌, ap, ap₂, sym, List}
use Rattle.std.proofs.lemmas.List.{map_more}
use Rattle.clap.specs.Words.{Rule, with_rule}
use Rattle.command_words.specs.Arguments.{command_with}
use Rattle.command_words.specs.internal.Matches.{rule_for}
use Rattle.command_words.proofs.argument.command_of.Goals as goal

pub loop-argument-preserved : goal.loop-argument-preserved
loop-argument-preserved c =
    c.in_ok-command.ensures.shape c.to_arg.ensures.local
    ∙ (ap₂ with_rule c.loop-argument.invariant c.to_arg.ensures.rule
    ∙ ap (λ (rules : List Rule). command_with c.args.name.now rules)
    (sym (map_more rule_for c.args.arguments.now c.loop-argument.argument-index _ c.loop-argument-test.true)))
