use Rattle.tsl_terms.specs.SpecView.{spec_tree}
use Rattle.letter_space.specs.SpaceView.{space_tree}
use Rattle.program_check.proofs.ProgramNames.{spec_fits}
use Rattle.refinement_loop.proofs.SpecSignals.{are_distinct, are_controlled, are_read}
use Rattle.refinement_loop.proofs.turning.program_of.Goals as goal

pub flow_of-requires-clause-signals_distinct : goal.flow_of-requires-clause-signals_distinct
flow_of-requires-clause-signals_distinct c =
    let lists = c.in_ok-lists.ensures in
    are_distinct (spec_tree c.args.spec.now) _ _ _ lists.inputs lists.cells lists.outputs

pub flow_of-requires-clause-controlled : goal.flow_of-requires-clause-controlled
flow_of-requires-clause-controlled c =
    let lists = c.in_ok-lists.ensures in
    are_controlled (spec_tree c.args.spec.now) _ _ _ lists.inputs lists.cells lists.outputs (space_tree c.args.space.now) c.requires.space

pub flow_of-requires-clause-reads : goal.flow_of-requires-clause-reads
flow_of-requires-clause-reads c =
    let lists = c.in_ok-lists.ensures in
    are_read (spec_tree c.args.spec.now) _ _ _ lists.inputs lists.cells lists.outputs (spec_fits c.args.spec.now)
    (space_tree c.args.space.now) c.requires.space
