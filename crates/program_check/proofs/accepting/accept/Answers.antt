use Rattle.std.proofs.Common.{◌∙◌, subst}
use Rattle.tsl_terms.specs.SpecView.{spec_tree}
use Rattle.program_tree.specs.ProgramView.{program_tree}
use Rattle.program_check.specs.internal.NodeVerdicts.{IsNodeVerdict}
use Rattle.program_check.proofs.Accepted.{refused_verdict}
use Rattle.program_check.proofs.accepting.accept.Goals as goal

pub returns-in-Some-clause-verdict : goal.returns-in-Some-clause-verdict
returns-in-Some-clause-verdict c =
    let same = c.has_signals.ensures.0 c.if-not-has_signals.false in
    let lists = c.in_ok-lists.ensures in
    refused_verdict (spec_tree c.args.spec.now) (program_tree c.args.program.now) c.args.bound c.in-Some.verdict
    (record { inputs = same.0 ∙ lists.inputs; cells = same.1 ∙ lists.cells; outputs = same.2 ∙ lists.outputs })
    (subst (λ s. IsNodeVerdict s (program_tree c.args.program.now).nodes c.in-Some.verdict) c.in_ok-space.ensures.space
    c.in-Some.ensures.some)
