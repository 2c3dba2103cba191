use Rattle.std.proofs.Common.{sym, ◌∙◌, arith}
use Rattle.base_library.proofs.Finds.{find_past, find_here, find_end}
use Rattle.word_interp.specs.Words.{takes_others}
use Rattle.word_interp.specs.internal.Applied.{given_at}
use Rattle.word_interp.proofs.entries.first_of_other_arity.Goals as goal

pub returns-then-takes_others : goal.returns-then-takes_others
returns-then-takes_others c =
    sym (c.loop-id.invariant
    ∙ find_here (λ id. takes_others c.args.domain c.args.names.now id (given_at c.args.given.now id)) c.args.needed.now c.loop-id.id-index 0
    (omega (arith, c.loop-id-test.true)) (sym c.takes_others.ensures ∙ c.if-takes_others.true))

pub loop-id-preserved : goal.loop-id-preserved
loop-id-preserved c =
    c.loop-id.invariant
    ∙ find_past (λ id. takes_others c.args.domain c.args.names.now id (given_at c.args.given.now id)) c.args.needed.now c.loop-id.id-index 0
    (omega (arith, c.loop-id-test.true)) (sym c.takes_others.ensures ∙ c.if-takes_others.false)

pub returns : goal.returns
returns c =
    sym (c.loop-id.invariant
    ∙ find_end (λ id. takes_others c.args.domain c.args.names.now id (given_at c.args.given.now id)) c.args.needed.now c.loop-id.id-index
    (omega (arith, c.loop-id-test.false)))
