use Rattle.std.proofs.Common.{◌≡◌, take}
use Rattle.spec_syntax.specs.Texts.{terminals}
use Rattle.spec_syntax.specs.SyntaxView.{terminals_view}
use Rattle.spec_syntax.proofs.terminal.terminals.Given as goal

-- the terminals of the tokens so far
abbrev pub invariant-loop-token : goal.invariant-loop-token
invariant-loop-token l = terminals_view l.all.items ≡ terminals l.text (take l.token-index l.tokens)
