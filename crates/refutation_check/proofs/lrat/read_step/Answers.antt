use Rattle.std.proofs.Common.{◌≡◌, ◌<◌, [], true, map, All, sym, ap, ◌∙◌}
use Rattle.std.specs.List.{list_all}
use Rattle.clause_core.specs.Literals.{signed_number_of}
use Rattle.clause_core.specs.Clauses.{in_order}
use Rattle.refutation_check.specs.declared.lrat.Line.TheVariants.{Says, Wrong}
use Rattle.tsl_text.specs.Lines.{words}
use Rattle.refutation_check.specs.LogText.{is_literal}
use Rattle.refutation_check.specs.internal.Reading.{with_literals, with_hints, with_both}
use Rattle.refutation_check.proofs.LogLemmas.{both_wrong, both_right}
use Rattle.refutation_check.proofs.lrat.read_step.Goals as goal

pub returns-then-is_some-clause-value : goal.returns-then-is_some-clause-value
returns-then-is_some-clause-value c =
    let name = c.args.name in
    let literals = c.read_literals.new.literals.items in
    let hints = c.in-Some-2.hints.items in
    let first : with_literals name [] (words c.args.line.now) ≡ with_hints name literals [] (words c.in-Some.rest.now) =
    (rw c.in-Some.is at c.in_ok-rest.ensures.some) name in
    let second : with_hints name literals [] (words c.in-Some.rest.now) ≡ with_both name literals hints (words c.in-Some-2.rest.now) =
    (rw c.in-Some-2.is at c.in_ok-hints.ensures.some) name literals in
    let positive : All (λ hint. 0 < hint) hints = rw c.in-Some-2.is at c.in_ok-hints.ensures.positive in
    let last : with_both name literals hints (words c.in-Some-2.rest.now) ≡ Wrong =
    both_wrong c.first_word.result (λ parts. parts.0.now) (λ parts. words parts.1.now) name literals hints
    (words c.in-Some-2.rest.now) positive c.first_word.ensures.some c.if-is_some.ensures in
    sym (first ∙ (second ∙ last))

pub returns-clause-value : goal.returns-clause-value
returns-clause-value c =
    let name = c.args.name in
    let literals = c.read_literals.new.literals.items in
    let hints = c.in-Some-2.hints.items in
    let first : with_literals name [] (words c.args.line.now) ≡ with_hints name literals [] (words c.in-Some.rest.now) =
    (rw c.in-Some.is at c.in_ok-rest.ensures.some) name in
    let second : with_hints name literals [] (words c.in-Some.rest.now) ≡ with_both name literals hints (words c.in-Some-2.rest.now) =
    (rw c.in-Some-2.is at c.in_ok-hints.ensures.some) name literals in
    let all : list_all is_literal (map signed_number_of literals) ≡ true = rw c.in-Some.is at c.in_ok-rest.ensures.literals in
    let positive : All (λ hint. 0 < hint) hints = rw c.in-Some-2.is at c.in_ok-hints.ensures.positive in
    let last : with_both name literals hints (words c.in-Some-2.rest.now)
    ≡ Says (record { number = name; clause = in_order literals; hints = hints }) =
    both_right c.first_word.result name literals hints
    (words c.in-Some-2.rest.now) all positive c.first_word.ensures.none c.if-is_some.ensures in
    let clause : c.in_ok-clause_of.field-0 ≡ in_order literals = c.in_ok-clause_of.ensures ∙ ap in_order c.as_slice.ensures.value in
    let made : c.from_vec.result ≡ hints = c.from_vec.ensures in
    (λ i. Says (record { number = name; clause = clause i; hints = made i })) ∙ sym (first ∙ (second ∙ last))
