use Rattle.std.proofs.Common.{sym, ap, ◌∙◌}
use Rattle.std.specs.Prelude.{is_some}
use Rattle.tsl_text.specs.Lines.{words}
use Rattle.refutation_check.specs.internal.Reading.{with_hints}
use Rattle.refutation_check.proofs.LogLemmas.{no_hint, hints_end}
use Rattle.refutation_check.proofs.lrat.read_hints.Goals as goal

pub returns-in_default-hint_in-clause-none : goal.returns-in_default-hint_in-clause-none
returns-in_default-hint_in-clause-none c = λ name literals.
    let hints = c.loop-word.hints.items in
    sym (c.loop-word.invariant.same name literals)
    ∙ (ap (with_hints name literals hints) c.in-Some.ensures.some
    ∙ no_hint name literals hints c.in-Some.word.now (words c.in-Some.later.now) c.loop-word.invariant.positive
    (sym c.ends_list.ensures.value ∙ c.if-ends_list.false) (sym c.hint_in.ensures.some ∙ ap is_some c.in_default-hint_in.is))

pub returns-clause-none : goal.returns-clause-none
returns-clause-none c = λ name literals.
    sym (c.loop-word.invariant.same name literals)
    ∙ (ap (with_hints name literals c.loop-word.hints.items) c.in_default.ensures.none
    ∙ hints_end name literals c.loop-word.hints.items c.loop-word.invariant.positive)
