use Rattle.std.proofs.Common.{refl, subst}
use Rattle.tsl_terms.specs.SpecView.{spec_tree}
use Rattle.letter_space.specs.SpaceView.{space_tree}
use Rattle.bounded_encoding.specs.declared.answers.Found.{Found}
use Rattle.bounded_encoding.specs.QuestionView.{question_of}
use Rattle.bounded_encoding.specs.Answers.{IsRightFound}
use Rattle.synthesis_commands.proofs.HeldRounds.{no_rounds_held}
use Rattle.synthesis_commands.proofs.ProveStages.{proved_outcome, spent_outcome}
use Rattle.synthesis_commands.proofs.proving.reply_to_answer.Goals as goal

pub returns-in-None : goal.returns-in-None
returns-in-None c =
    let sizes = c.args.sizes.now in
    let q = question_of c.args.asked.now.automaton c.args.asked.now.space sizes.states sizes.bound in
    proved_outcome sizes (spec_tree c.args.spec.now) q c.requires.asked c.in-None.cnf.variables c.in-None.cnf.clauses c.in-None.log.steps
    c.proved.result c.requires.in_range c.requires.fits c.requires.found.few
    (subst (λ (f : Found). IsRightFound q sizes.budget f) c.in-None.is c.requires.found.right)
    c.proved.ensures.few c.proved.ensures.status c.proved.ensures.text c.proved.ensures.clauses c.proved.ensures.steps

pub spent-requires : goal.spent-requires
spent-requires c =
    no_rounds_held (spec_tree c.args.spec.now) c.requires.fits (space_tree c.args.asked.now.space) c.requires.asked.space

pub returns-in-Spent : goal.returns-in-Spent
returns-in-Spent c =
    let sizes = c.args.sizes.now in
    let q = question_of c.args.asked.now.automaton c.args.asked.now.space sizes.states sizes.bound in
    spent_outcome sizes (spec_tree c.args.spec.now) q c.requires.asked c.as_slice.result.now (space_tree c.args.asked.now.space)
    c.spent.result c.requires.asked.space
    (record {
      question = q;
      asked = c.requires.asked;
      limits = c.requires.found.few;
      has_states = refl;
      has_edges = refl;
      trace = rw c.as_slice.ensures (subst (λ (f : Found). IsRightFound q sizes.budget f) c.in-Spent.is c.requires.found.right);
    })
    c.spent.ensures.status c.spent.ensures.text
