use Rattle.std.proofs.Common.{sym, ◌∙◌}
use Rattle.tsl_reader.proofs.StageLemmas.{name_passed, name_skipped}
use Rattle.tsl_reader.proofs.text_names.name_token.Goals as goal
use Rattle.tsl_reader.proofs.text_names.name_token.Goals.{then-is_free+else-left-eq0, else-is_free}

pub loop-token-preserved : goal.loop-token-preserved
loop-token-preserved c =
    elim c.if-is_free.branch [
      | then-is_free+else-left-eq0 w ↦ name_passed c.args.text.now c.args.tokens.now c.loop-token.token-index c.loop-token.left
          c.if-is_free.left _ _ c.loop-token-test.true
          (sym c.is_free.ensures ∙ w.if-is_free.true) w.if-left-eq0.false w.left-is c.loop-token.invariant
      | else-is_free w ↦ name_skipped c.args.text.now c.args.tokens.now c.loop-token.token-index c.loop-token.left c.if-is_free.left _ _
          c.loop-token-test.true
          (sym c.is_free.ensures ∙ w.if-is_free.false) w.left-is c.loop-token.invariant
    ]
