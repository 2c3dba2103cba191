use Rattle.base_library.proofs.Results.{handed_on}
use Rattle.tsl_terms.specs.SpecView.{spec_tree}
use Rattle.tsl_reader.specs.declared.SpecError.TheVariants.{Nodes}
use Rattle.tsl_reader.proofs.OneCause.{cause_refuses}
use Rattle.tsl_reader.proofs.SpelledFits.{derived_fits}
use Rattle.tsl_reader.proofs.StageLemmas.{many_nodes, few_nodes}
use Rattle.tsl_reader.proofs.read_spec.Goals as goal

pub returns-in_err-spec-clause-refused : goal.returns-in_err-spec-clause-refused
returns-in_err-spec-clause-refused c =
    handed_on _ _ _ c.from_residual.ensures.1 (cause_refuses c.args.text.now _ c.in_err-spec.ensures.cause)

pub returns-then-not-has_few_nodes-clause-cause : goal.returns-then-not-has_few_nodes-clause-cause
returns-then-not-has_few_nodes-clause-cause c =
    many_nodes c.args.text.now (spec_tree c.in_ok-spec.spec) c.has_few_nodes.result c.in_ok-spec.ensures.derived c.has_few_nodes.ensures c.if-not-has_few_nodes.true

pub returns-then-not-has_few_nodes-clause-refused : goal.returns-then-not-has_few_nodes-clause-refused
returns-then-not-has_few_nodes-clause-refused c =
    cause_refuses c.args.text.now Nodes
    (many_nodes c.args.text.now (spec_tree c.in_ok-spec.spec) c.has_few_nodes.result c.in_ok-spec.ensures.derived c.has_few_nodes.ensures c.if-not-has_few_nodes.true)

pub returns-clause-ok : goal.returns-clause-ok
returns-clause-ok c =
    few_nodes c.args.text.now (spec_tree c.in_ok-spec.spec) c.has_few_nodes.result c.in_ok-spec.ensures.derived c.has_few_nodes.ensures c.if-not-has_few_nodes.false

pub returns-clause-fits : goal.returns-clause-fits
returns-clause-fits c = derived_fits c.args.text.now (spec_tree c.in_ok-spec.spec) c.in_ok-spec.ensures.derived
