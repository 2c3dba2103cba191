use Rattle.std.proofs.Common.{sym, ap, ◌∙◌}
use Rattle.std.specs.Prelude.{is_some}
use Rattle.tsl_text.specs.Lines.{words}
use Rattle.refutation_check.specs.internal.Reading.{with_literals}
use Rattle.refutation_check.proofs.LogLemmas.{no_literal, literals_end}
use Rattle.refutation_check.proofs.lrat.read_literals.Goals as goal

pub returns-in_default-literal_in-clause-none : goal.returns-in_default-literal_in-clause-none
returns-in_default-literal_in-clause-none c = λ name.
    let literals = c.loop-word.literals.items in
    sym (c.loop-word.invariant.same name)
    ∙ (ap (with_literals name literals) c.in-Some.ensures.some
    ∙ no_literal name literals c.in-Some.word.now (words c.in-Some.later.now) (sym c.ends_list.ensures.value
    ∙ c.if-ends_list.false) (sym c.literal_in.ensures.some ∙ ap is_some c.in_default-literal_in.is))

pub returns-clause-none : goal.returns-clause-none
returns-clause-none c = λ name.
    sym (c.loop-word.invariant.same name)
    ∙ (ap (with_literals name c.loop-word.literals.items) c.in_default.ensures.none ∙ literals_end name c.loop-word.literals.items)
