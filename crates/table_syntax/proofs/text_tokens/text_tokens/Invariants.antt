use Rattle.std.proofs.Common.{◌≡◌, take}
use Rattle.table_syntax.specs.Syntax.{text_tokens}
use Rattle.table_syntax.specs.View.{text_tokens_view}
use Rattle.table_syntax.proofs.text_tokens.text_tokens.Given as goal

-- the terminals of the tokens so far
abbrev pub invariant-loop-token : goal.invariant-loop-token
invariant-loop-token l = text_tokens_view l.all.items ≡ text_tokens l.text (take l.token-index l.tokens)
