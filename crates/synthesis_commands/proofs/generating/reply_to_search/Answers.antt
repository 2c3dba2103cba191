use Rattle.std.proofs.Common.{map, subst, sym}
use Rattle.tsl_terms.specs.SpecView.{spec_tree}
use Rattle.tsl_meaning.specs.Promise.{Realizes}
use Rattle.letter_space.specs.SpaceView.{space_tree}
use Rattle.cobuchi_automata.specs.Edges.{edge_trees}
use Rattle.machines.specs.MachineView.{round_tree}
use Rattle.refinement_loop.specs.declared.errors.RefineError.{RefineError}
use Rattle.refinement_loop.specs.declared.outcome.Outcome.{Outcome}
use Rattle.refinement_loop.specs.Outcomes.{IsOutcome, IfWritten, HasRefineCause}
use Rattle.synthesis_commands.proofs.GenStages.{search_of, found_outcome, none_outcome, spent_outcome, limit_outcome}
use Rattle.synthesis_commands.proofs.HeldRounds.{no_rounds_held}
use Rattle.synthesis_commands.proofs.generating.reply_to_search.Goals as goal

pub returns-in-Ok-Written : goal.returns-in-Ok-Written
returns-in-Ok-Written c =
    let spec = spec_tree c.args.spec.now in
    let sizes = c.generated_sizes.result in
    let outcome = subst (λ (o : Outcome). IsOutcome spec (search_of sizes) o) c.in-Ok-Written.field-0-is c.in-Ok-Written.ensures.outcome in
    found_outcome c.args.n spec c.summary.result sizes (map round_tree c.in-Ok-Written.field-0-0) c.in-Ok-Written.field-0-1
    (space_tree c.args.space.now) c.generated_sizes.ensures outcome.few_rounds outcome.answer
    (subst (λ (o : Outcome). IfWritten o (Realizes spec)) c.in-Ok-Written.field-0-is c.in-Ok-Written.ensures.realized)
    c.requires.space c.summary.ensures

pub returns-in-Ok-None : goal.returns-in-Ok-None
returns-in-Ok-None c =
    let spec = spec_tree c.args.spec.now in
    let sizes = c.generated_sizes.result in
    let outcome = subst (λ (o : Outcome). IsOutcome spec (search_of sizes) o) c.in-Ok-None.field-0-is c.in-Ok-None.ensures.outcome in
    none_outcome c.args.n spec c.summary-in-Ok-None.result sizes (map round_tree c.in-Ok-None.field-0-0)
    (space_tree c.args.space.now) c.generated_sizes.ensures outcome.few_rounds outcome.answer.0 c.requires.space
    c.summary-in-Ok-None.ensures

pub spent-requires : goal.spent-requires
spent-requires c =
    no_rounds_held (spec_tree c.args.spec.now) c.requires.fits (space_tree c.args.space.now) c.requires.space

pub returns-in-Ok-Spent : goal.returns-in-Ok-Spent
returns-in-Ok-Spent c =
    let spec = spec_tree c.args.spec.now in
    let sizes = c.generated_sizes.result in
    let outcome = subst (λ (o : Outcome). IsOutcome spec (search_of sizes) o) c.in-Ok-Spent.field-0-is c.in-Ok-Spent.ensures.outcome in
    spent_outcome c.args.n spec c.spent.result sizes (map round_tree c.in-Ok-Spent.field-0-0) c.in-Ok-Spent.field-0-1
    c.in-Ok-Spent.automaton.states (edge_trees c.in-Ok-Spent.automaton.edges) c.in-Ok-Spent.clauses (space_tree c.args.space.now)
    c.generated_sizes.ensures outcome.few_rounds outcome.answer c.requires.space c.spent.ensures.status
    (rw (sym c.as_slice.ensures) c.spent.ensures.text)

pub returns-in-Err-Large : goal.returns-in-Err-Large
returns-in-Err-Large c =
    let spec = spec_tree c.args.spec.now in
    let sizes = c.generated_sizes.result in
    let after = subst (λ (e : RefineError). HasRefineCause spec (search_of sizes) e) c.in-Err-Large.field-0-is c.in-Err-Large.ensures.cause in
    limit_outcome c.args.n spec c.fault_reply.result sizes (map round_tree c.in-Err-Large.field-0-1) c.in-Err-Large.limit
    c.fault_of_limit.result c.generated_sizes.ensures after.few_rounds after.large c.fault_of_limit.ensures c.fault_reply.ensures
