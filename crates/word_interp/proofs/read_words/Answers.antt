use Rattle.std.proofs.Common.{arith}
use Rattle.std.proofs.lemmas.Result.{IfOk-weaker, IfErr-weaker}
use Rattle.table_syntax.specs.View.{words_view}
use Rattle.word_interp.specs.declared.WordError.TheVariants.{Width}
use Rattle.word_interp.proofs.Facts.{interprets}
use Rattle.base_library.proofs.Results.{handed_on}
use Rattle.word_interp.proofs.OneCause.{words_refused}
use Rattle.word_interp.proofs.Refusals.{form_cause, entry_cause}
use Rattle.table_syntax.proofs.Readings.{has_bit}
use Rattle.word_interp.proofs.read_words.Goals as goal

pub returns-in_err-given-clause-refused : goal.returns-in_err-given-clause-refused
returns-in_err-given-clause-refused c =
    handed_on _ _ _ c.from_residual.ensures.1 (words_refused c.args.text.now c.args.names.now c.args.cells.now _
    (form_cause c.args.text.now c.args.names.now c.args.cells.now _ c.in_err-given.ensures.fault))

pub returns-then-given-from-clause-refused : goal.returns-then-given-from-clause-refused
returns-then-given-from-clause-refused c =
    words_refused c.args.text.now c.args.names.now c.args.cells.now Width
    (record {
      given = words_view c.in_ok-given.given;
      read = c.in_ok-given.ensures.read;
      many_bits = omega (arith, c.if-given-from.true, c.from.ensures);
    })

pub words_from-requires-clause-some : goal.words_from-requires-clause-some
words_from-requires-clause-some c = has_bit c.args.text.now (words_view c.in_ok-given.given) c.in_ok-given.ensures.read

pub returns-clause-meaning : goal.returns-clause-meaning
returns-clause-meaning c =
    IfOk-weaker c.words_from.result _ _ (λ words gives.
    interprets c.args.names.now c.args.cells.now (words_view c.in_ok-given.given) words.interpretation gives) c.words_from.ensures.gives

pub returns-clause-refused : goal.returns-clause-refused
returns-clause-refused c =
    IfErr-weaker c.words_from.result _ _ (λ e cause.
    words_refused c.args.text.now c.args.names.now c.args.cells.now e
    (entry_cause c.args.text.now c.args.names.now c.args.cells.now (words_view c.in_ok-given.given)
    (record {
      read = c.in_ok-given.ensures.read;
      few_bits = omega (arith, c.if-given-from.false, c.from.ensures);
    })
    e cause)) c.words_from.ensures.cause
