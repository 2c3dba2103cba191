use Rattle.std.specs.Prelude.{map}
use Rattle.tsl_terms.specs.SpecView.{spec_tree}
use Rattle.tsl_terms.specs.WindowTree.{window_tree}
use Rattle.bounded_encoding.specs.QuestionView.{question_of}
use Rattle.refinement_loop.proofs.Answered.{no_environment_found}
use Rattle.refinement_loop.proofs.turning.environment_turn.Goals as goal

pub returns-in-None-clause-turn : goal.returns-in-None-clause-turn
returns-in-None-clause-turn c =
    let search = c.args.search.now in
    let answer = c.in_ok-automaton.field-0 in (
      c.requires.goes_on.none,
      (
        c.requires.goes_on.fewer,
        no_environment_found (spec_tree c.args.spec.now) search (map window_tree c.args.windows.now)
            (question_of answer.automaton c.args.space.now search.env_states search.env_bound) c.in_ok-automaton.ensures.asked search.budget
            answer.found c.in-None.field-0 c.in_ok-automaton.ensures.found c.in-None.is,
      ),
    )
